-- The words of definitions and lower crates that these proofs speak in, each from where it is at home.
pub use Rattle.std.proofs.Common.{Bool, Err, List, None, Ok, Option, Result, Some, [], ap, append-nil, append_assoc, ap₂, arith, cond, drop, eq-eqb, eqb, false}
pub use Rattle.std.proofs.Common.{get_or, inl, inr, is_some, length, map, ne_eqb, option_map, refl, rules, slice_get, slice_index, subst, suc, sym, take, tests}
pub use Rattle.std.proofs.Common.{true, zero, ℕ, ◌%◌, ◌&&◌, ◌++◌, ◌+◌, ◌/◌, ◌<◌, ◌^◌, ◌||◌, ◌∙◌, ◌∷◌, ◌≡◌, ◌≤◌}
pub use Rattle.std.proofs.lemmas.Bool.{cond_both}
pub use Rattle.std.proofs.lemmas.Iterator.{YieldsList-from_slice}
pub use Rattle.std.proofs.lemmas.List.{map-append}
pub use Rattle.std.specs.List.{cons_option, filter, filter_map, list_any, range_with_len}
pub use Rattle.std.specs.Option.{option_and_then, option_map_or}
pub use Rattle.gate_admin.proofs.ViewLemmas.{hosts_below, hosts_below-left}
pub use Rattle.gate_admin.specs.Decide.{decided}
pub use Rattle.gate_admin.specs.View.{has, hosts_where, mask_of}
pub use Rattle.gate_admin.specs.declared.view.LinkView.{LinkView}
pub use Rattle.gate_answers.specs.Answers.{body_in, instruction_in}
pub use Rattle.hci_store.specs.Stored.{Stored}
pub use Rattle.hci_tables.specs.Tables.{HciTables, is_opened}
pub use Rattle.hci_tables.specs.declared.command.Command.{Command}
pub use Rattle.hci_tables.specs.declared.command.Command.TheVariants.{Create}
pub use Rattle.hcp_packet.specs.MessageHeader.{header_of}
pub use Rattle.hcp_packet.specs.declared.MessageFault.{MessageFault}
pub use Rattle.hcp_packet.specs.declared.MessageKind.{MessageKind}
pub use Rattle.hcp_packet.specs.declared.MessageKind.TheVariants.{Command as IsCommand, Event as IsEvent, Response as IsResponse}
pub use Rattle.link_laws.specs.machine.Machine.{Message}
pub use Rattle.link_laws.specs.sessions.Sessions.{is_up}
pub use Rattle.node_deeds.specs.Cores.{AreDoable, IsSoundDecision, TellsFew, controller_core, handled}
pub use Rattle.node_deeds.specs.Desks.{asked_by, configured_by, connected_by, desk_of, noticed_by}
pub use Rattle.node_deeds.specs.Hosts.{IsHostAt, handled_by, heard_deeds, host_core, host_kind_deeds, init_running, learned_of}
pub use Rattle.node_deeds.specs.Pipes.{gate_in}
pub use Rattle.node_deeds.specs.Room.{lack_by}
pub use Rattle.node_deeds.specs.Shown.{Handling, about_shown, awaited_pipe, deed_shown, deeds_shown, init_shown, notice_shown, ports_shown, row_waits_for}
pub use Rattle.node_deeds.specs.declared.deeds.Deed.{Deed as KeptDeed}
pub use Rattle.node_deeds.specs.declared.desks.Desk.{Desk as KeptDesk}
pub use Rattle.node_deeds.specs.declared.desks.Unanswered.{Unanswered}
pub use Rattle.node_deeds.specs.declared.inits.Init.{Init as KeptInit}
pub use Rattle.node_machine.specs.Carrying.{has_room_for, needs, own_view, port_at}
pub use Rattle.node_machine.specs.Controller.{about_at, about_of, asks_for, controller_deeds, creation_in, decision_deeds, deeds_by_relay, event_deeds}
pub use Rattle.node_machine.specs.Controller.{gate_deeds, goes_through, has_link, if_notice, is_asked_at, kind_deeds, notice_deeds, own_deeds, own_gate}
pub use Rattle.node_machine.specs.Controller.{pipe_of, relayed_to, served_at, unless_asking, view_for, view_of, waiting_pipes}
pub use Rattle.node_machine.specs.HostReplies.{init_deeds, is_gate, is_same, orders_of, pipe_created, pipe_deleted, pipes_cleared}
pub use Rattle.node_machine.specs.Parts.{Core, Creation, Deed, Port}
pub use Rattle.node_machine.specs.Parts.Deed.{Commits, Drops, Ends, Hears, SaysOk, Sends, Tells}
pub use Rattle.pipe_table.specs.PipeRows.{pipe_at}
pub use Rattle.pipe_table.specs.declared.row.PipeRow.{PipeRow}
