-- The words of definitions and lower crates that these proofs speak in, each from where it is at home.
pub use Rattle.std.proofs.Common.{Bool, List, None, Option, Some, [], ap, append-nil, append_assoc, arith, cond, drop, false, get_or, is_none, is_some, length}
pub use Rattle.std.proofs.Common.{map, not, refl, reverse, subst, suc, sym, take, take-take, true, true≢false, zero, ℕ, ◌%◌, ◌&&◌, ◌*◌, ◌++◌, ◌+◌, ◌-◌, ◌<◌}
pub use Rattle.std.proofs.Common.{◌==◌, ◌∙◌, ◌∷◌, ◌≡◌, ◌≤◌}
pub use Rattle.std.specs.List.{flat_map}
pub use Rattle.hci_store.specs.Stored.{Stored}
pub use Rattle.journal_laws.specs.Planned.{after_planned}
pub use Rattle.journal_laws.specs.Writes.{Write}
pub use Rattle.link_laws.specs.machine.Machine.{new_link_end, reset_refusal}
pub use Rattle.lone_laws.specs.alone.Ends.{EndForm, asks_reset, bytes_bring, end_causes, end_written, first_comes}
pub use Rattle.lone_laws.specs.alone.Ends.EndForm.{OnLine}
pub use Rattle.lone_laws.specs.alone.Lone.{Lone, LoneCause, does_by_power, lone_after, role_alone}
pub use Rattle.lone_laws.specs.alone.Lone.LoneCause.{FrameComes, ResetComes, StartComes, StopComes, TickComes}
pub use Rattle.node_core.specs.Booting.{found_in_memory}
pub use Rattle.node_core.specs.Bringing.{Foretells, WereMade}
pub use Rattle.node_core.specs.declared.node.Node.{Node}
pub use Rattle.node_laws.proofs.kept.Reckoned.{after_planned-append, planned_whole}
pub use Rattle.node_machine.specs.Carrying.{plan_behind}
pub use Rattle.node_machine.specs.Parts.{Core, Running}
pub use Rattle.one_end.specs.Alone.{RunsAlone}
pub use Rattle.one_end.specs.Reading.{causes_brought}
pub use Rattle.one_end.specs.Running.{HasAnswered, RunsReady, RunsYet, all_answered, answers_alone, cause_of, does_alone, frames_written}
pub use Rattle.one_end.specs.Standing.{HasBooted, IsAlone, IsRunOfBytes, booted_from, end_booted}
pub use Rattle.one_end.specs.Writing.{form_named}
pub use Rattle.one_end.specs.declared.one_end.OneEnd.{OneEnd}
pub use Rattle.swp_base.specs.InMemory.{Memory}
pub use Rattle.swp_base.specs.declared.control_frames.Control.{Control}
