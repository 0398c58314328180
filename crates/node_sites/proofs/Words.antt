-- The words of definitions and lower crates that these proofs speak in, each from where it is at home.
pub use Rattle.std.proofs.Common.{Bool, List, None, Ok, Option, Some, [], ap, append-nil, append_assoc, ap₂, arith, drop, eq-eqb, false, length, map, not}
pub use Rattle.std.proofs.Common.{option_map, option_to_list, refl, subst, suc, sym, true, true≢false, zero, ℕ, ◌++◌, ◌+◌, ◌-◌, ◌==◌, ◌∙◌, ◌∷◌, ◌≡◌, ◌≤◌}
pub use Rattle.std.specs.List.{AllByRecursion, flat_map}
pub use Rattle.std.specs.Option.{option_map_or}
pub use Rattle.circular_buffer.specs.Buffer.{Buffer}
pub use Rattle.hci_store.specs.Stored.{Stored}
pub use Rattle.history.specs.Follows.{seen_from}
pub use Rattle.history.specs.Steps.{entries_for}
pub use Rattle.journal_laws.specs.Planned.{after_planned, fails_within}
pub use Rattle.journal_laws.specs.Writes.{Write}
pub use Rattle.link_laws.proofs.Cases.{by_test}
pub use Rattle.link_laws.specs.entries.Entries.{Entry as Noted, aged_entries, puts_entries}
pub use Rattle.link_laws.specs.entries.Entries.End.{Controller, Host}
pub use Rattle.link_laws.specs.machine.Laws.{most_fetches}
pub use Rattle.link_laws.specs.machine.Machine.{Message, next_frame}
pub use Rattle.link_laws.specs.messages.Links.{Link, Loss, NumberedEnd, exchanged, put, put_all}
pub use Rattle.link_laws.specs.messages.Links.Comes.{NextFrame}
pub use Rattle.link_laws.specs.sessions.Sessions.{OnWire, aged_wire}
pub use Rattle.link_wires.proofs.Wires.{IsTakenOff}
pub use Rattle.link_wires.specs.Notes.{AreNoted, side_of}
pub use Rattle.link_wires.specs.Wires.{WireStandsFor}
pub use Rattle.link_wires.specs.declared.wire.Flying.{Flying}
pub use Rattle.node_core.specs.Running.{RunsAs, SendsOneByOne}
pub use Rattle.node_core.specs.declared.node.Node.{Node}
pub use Rattle.node_machine.specs.Carrying.{changed_if, port_at, with_port}
pub use Rattle.node_machine.specs.Node.NodeInput.{AtEnd, TimePasses}
pub use Rattle.node_machine.specs.Parts.{Core, Deed, Desk, Port, Running, Work}
pub use Rattle.node_machine.specs.world.World.{arrival, beginning, port_for, sending}
pub use Rattle.node_sites.specs.FramesOut.{sent_port}
pub use Rattle.node_sites.specs.LinksKept.{WireEndIs, WiresStandFor}
pub use Rattle.node_sites.specs.Memories.{IsSoundMemory}
pub use Rattle.node_sites.specs.Numbers.{as_told}
pub use Rattle.node_sites.specs.Powers.{IsNodePlace, node_memory}
pub use Rattle.node_sites.specs.declared.power.Power.TheVariants.{On}
pub use Rattle.node_sites.specs.declared.wires.WireEnd.{WireEnd}
pub use Rattle.node_sites.specs.declared.wires.Wires.{Wires}
pub use Rattle.swp_base.specs.InMemory.{Memory, WritesAsPlanned}
pub use Rattle.swp_base.specs.declared.control_frames.Control.{Control}
pub use Rattle.swp_lpdu.specs.Controls.{control_of, lpdu_of}
pub use Rattle.trace_model.specs.declared.entry.Entry.{Entry}
pub use Rattle.trace_model.specs.declared.line.End.{End}
