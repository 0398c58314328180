-- The words of definitions and lower crates that these proofs speak in, each from where it is at home.
pub use Rattle.std.proofs.Common.{Bool, List, None, Ok, Option, Some, [], ap, append_assoc, arith, cond, drop, false, get_or, length, map, refl, suc, sym, true}
pub use Rattle.std.proofs.Common.{ℕ, ◌++◌, ◌+◌, ◌-◌, ◌<◌, ◌∙◌, ◌∷◌, ◌≡◌, ◌≤◌}
pub use Rattle.std.specs.Option.{option_or}
pub use Rattle.circular_buffer.specs.Buffer.{Buffer}
pub use Rattle.history.specs.Damage.{flipped, judged_by_first}
pub use Rattle.history.specs.Follows.{if_beyond}
pub use Rattle.history.specs.Steps.{entries_for, lost_as}
pub use Rattle.link_laws.proofs.Cases.{by_test}
pub use Rattle.link_laws.specs.entries.Entries.{Entry as Noted, pushed_out}
pub use Rattle.link_laws.specs.messages.Links.{Loss}
pub use Rattle.link_laws.specs.sessions.Sessions.{OnWire, fits}
pub use Rattle.link_wires.specs.Damages.{told_as}
pub use Rattle.link_wires.specs.Notes.{AreNoted, side_of}
pub use Rattle.link_wires.specs.Wires.{IsMade, WireStandsFor, kept_of}
pub use Rattle.link_wires.specs.declared.wire.Flying.{Flying}
pub use Rattle.swp_frame.specs.Signal.{Symbol, symbol_of}
pub use Rattle.swp_frame.specs.Verdicts.{answers_after}
pub use Rattle.swp_lpdu.specs.Controls.{control_of, lpdu_of}
pub use Rattle.trace_model.specs.Ends.{other_end}
pub use Rattle.trace_model.specs.declared.entry.Entry.{Entry}
pub use Rattle.trace_model.specs.declared.entry.LostCause.{LostCause}
pub use Rattle.trace_model.specs.declared.line.End.{End}
