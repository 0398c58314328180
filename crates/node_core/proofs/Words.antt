-- The words of definitions and lower crates that these proofs speak in, each from where it is at home.
pub use Rattle.std.proofs.Common.{Bool, Err, IfSome, IsTrue, List, None, Ok, OnErr, Option, Result, Some, [], add-one, ap, append-nil, append_assoc, ap₂, arith}
pub use Rattle.std.proofs.Common.{cond, drop, drop-cons, eq-eqb, eqb-true, false, get_or, if◌then◌else◌, inl, inr, is_none, is_ok, is_some, le-leb, length}
pub use Rattle.std.proofs.Common.{length-append, map, nat_le, nat_lt, not, option_map, option_to_list, refl, slice_get, subst, suc, sym, take, true, true≢false}
pub use Rattle.std.proofs.Common.{zero, ℕ, ◌&&◌, ◌++◌, ◌+◌, ◌<◌, ◌==◌, ◌||◌, ◌∙◌, ◌∷◌, ◌≡◌, ◌≢◌, ◌≤◌, ◌⊎◌}
pub use Rattle.std.proofs.lemmas.Grind.{flat_map-append}
pub use Rattle.std.proofs.lemmas.List.{drop_all, map-append}
pub use Rattle.std.proofs.lemmas.List.Concat.{flat_map-cons}
pub use Rattle.std.proofs.lemmas.Result.{IfOk-at_ok}
pub use Rattle.std.specs.List.{AllByRecursion, filter, filter_map, find, flat_map, list_any}
pub use Rattle.std.specs.Option.{option_map_or}
pub use Rattle.block_pool.specs.Pool.{PoolState}
pub use Rattle.gate_admin.proofs.ViewLemmas.{hosts_below}
pub use Rattle.gate_admin.specs.Decide.{ends_of}
pub use Rattle.gate_admin.specs.View.{has, hosts_where}
pub use Rattle.gate_answers.specs.Answers.{answer_of, body_in}
pub use Rattle.gate_answers.specs.declared.response.Response.{Response}
pub use Rattle.hci_store.specs.Committing.{commit_writes}
pub use Rattle.hci_store.specs.Stored.{Stored}
pub use Rattle.hci_tables.specs.Bodies.{body_of}
pub use Rattle.hci_tables.specs.Tables.{HciTables}
pub use Rattle.hci_tables.specs.declared.command.Command.{Command}
pub use Rattle.hcp_packet.specs.Packets.{AreSendable, IsSendable}
pub use Rattle.history.specs.Steps.{end_of, entries_for}
pub use Rattle.journal_laws.specs.Planned.{fails_within}
pub use Rattle.journal_laws.specs.Writes.{AreMade, Write}
pub use Rattle.journal_laws.specs.declared.state.State.{State}
pub use Rattle.link_end.specs.Reports.{report_told, reset_told}
pub use Rattle.link_end.specs.declared.report.LinkReport.{LinkReport}
pub use Rattle.link_end.specs.declared.report.ResetRefused.{ResetRefused}
pub use Rattle.link_end.specs.declared.report.SendRefused.{SendRefused}
pub use Rattle.link_laws.specs.entries.Entries.{if_so, told}
pub use Rattle.link_laws.specs.entries.Entries.End.{Host}
pub use Rattle.link_laws.specs.entries.Entries.Entry.{Acked, Active, Down, GaveUp, Got, Up}
pub use Rattle.link_laws.specs.machine.Machine.{LinkEnd as Machine, LinkInput, Message, Refused, Role, Turn, act_answer, activated, after_input, frame_fetched}
pub use Rattle.link_laws.specs.machine.Machine.{give_refusal, is_held, moved, next_frame, oldest, report, reset_refusal, sent_all, whole_acked}
pub use Rattle.link_laws.specs.machine.Machine.LinkInput.{Reset, Start, Stop, Tick}
pub use Rattle.link_laws.specs.machine.Machine.Turn.{FetchMessage, Give, Hold, Release, SetAside}
pub use Rattle.link_laws.specs.messages.Links.{IsClf, IsUicc}
pub use Rattle.link_laws.specs.sessions.Sessions.{is_up}
pub use Rattle.node_core.specs.Booting.{hosts_linked}
pub use Rattle.node_core.specs.Bringing.{Brings, Foretells, WereMade, plan_left}
pub use Rattle.node_core.specs.Deeds.{AreDoableInTurn, AreGranted, IsDoableNow, IsGranted, IsOnTask, deed_of, handling}
pub use Rattle.node_core.specs.Faults.{CountsFaults}
pub use Rattle.node_core.specs.Giving.{IsAsked, TellsLength, ordered_if, refused_as}
pub use Rattle.node_core.specs.Handling.{has_turn, is_noted_held}
pub use Rattle.node_core.specs.Inputs.{IsAskedOf, input_of_node}
pub use Rattle.node_core.specs.Nodes.{CoreStandsFor, IsInStep, IsUsable}
pub use Rattle.node_core.specs.Noting.{AreNotes, unnumbered, without_message}
pub use Rattle.node_core.specs.Owing.{answers_owed, freed_at, owed_at}
pub use Rattle.node_core.specs.Running.{AreHeldWhileOneWaits, AreInTime, BeginsStep, HasNoneEnded, HasStepped, IsAllSent, RunsAs, between, one_more_error}
pub use Rattle.node_core.specs.Running.{reset_refusal_at}
pub use Rattle.node_core.specs.Syncing.{finishes, left_over, settles, sync_kept, sync_told}
pub use Rattle.node_core.specs.Turning.{AreAtMostDue, AreFewDue, AreYoung, HasOwnLink, HaveOwnRoles, IsDecided, IsNodeInOrder}
pub use Rattle.node_core.specs.declared.giving.HostRefused.{HostRefused}
pub use Rattle.node_core.specs.declared.inputs.NodeInput.TheVariants.{At}
pub use Rattle.node_core.specs.declared.node.Node.{Node}
pub use Rattle.node_deeds.proofs.Ports.{find-map}
pub use Rattle.node_deeds.specs.Cores.{AreDoable as AreDecided}
pub use Rattle.node_deeds.specs.Hosts.{init_running}
pub use Rattle.node_deeds.specs.Room.{lack_shown}
pub use Rattle.node_deeds.specs.Shown.{Handling, deed_shown, deeds_shown, desk_shown, end_shown, goes_on_with}
pub use Rattle.node_deeds.specs.declared.desks.Desk.{Desk}
pub use Rattle.node_deeds.specs.declared.host.Tasks.{Tasks}
pub use Rattle.node_deeds.specs.declared.inits.Init.{Init as KeptInit}
pub use Rattle.node_deeds.specs.declared.inits.Ordered.{Ordered}
pub use Rattle.node_ends.proofs.Apart.{is_outside}
pub use Rattle.node_ends.proofs.Dues.{due_count, reset_few_due, tick_few}
pub use Rattle.node_ends.proofs.Seated.{all_changed, first_changed, next_changed, next_there, none_changed}
pub use Rattle.node_ends.specs.Ends.{AreOfHosts, EndsStandFor, FewAreDue, IsHeldWhileOneWaits, KeptEnds, MayStartAt, SeatsStandFor, TellsLengthOf, at_place}
pub use Rattle.node_ends.specs.Ends.{given_at, got_at, has_sent, held_at, late_told, message_read, rests, takes_at}
pub use Rattle.node_ends.specs.Holding.{IsReached, kept_number}
pub use Rattle.node_ends.specs.Inputs.{MayComeAt, input_of_end, refusal_at}
pub use Rattle.node_ends.specs.Making.{AreAllDifferent, new_port}
pub use Rattle.node_ends.specs.declared.inputs.LinkInput.{LinkInput as ToEnd}
pub use Rattle.node_ends.specs.declared.seat.Seat.{Seat}
pub use Rattle.node_machine.specs.Carrying.{after_turn, all_done, changed_if, commit, done, end_of_node, end_view, has_room_for, lack, needs, noted_of, noting}
pub use Rattle.node_machine.specs.Carrying.{own_side, own_view, plan_behind, port_at, turn_at, unless_cut, with_desk, with_port}
pub use Rattle.node_machine.specs.Controller.{asked_at, controller_deeds, has_link, is_command_message, view_of}
pub use Rattle.node_machine.specs.HostReplies.{host_deeds}
pub use Rattle.node_machine.specs.Node.{NodeInput, after_sessions, all_come, all_owed, forgets, forgotten, has_come, input_at, is_late, is_over, is_over_at}
pub use Rattle.node_machine.specs.Node.{owed, reset_late, steps, synced, times_out, told_at, told_late, with_older, without_notice}
pub use Rattle.node_machine.specs.Node.NodeInput.{AtEnd, TimePasses}
pub use Rattle.node_machine.specs.Orders.{IsOnOrder}
pub use Rattle.node_machine.specs.Parts.{Core, Creation, Deed, Deed as DeedOf, Desk as DeskOf, Init, Port, Work}
pub use Rattle.node_machine.specs.Parts.Deed.{Asks, Commits, Drops, Ends, GoesOn, Hears, IsAnswered, Orders, Releases, SaysOk, Sends, SetsErrors, Tells}
pub use Rattle.node_machine.specs.Turns.{deeds_of, goes_through_ends, handles, have_turns, holds_back, lets_go, passes}
pub use Rattle.node_machine.specs.world.Lines.{if_waiting}
pub use Rattle.node_machine.specs.world.World.{beginning, sending}
pub use Rattle.shdlc_core.specs.Machine.{EndState, with_ready}
pub use Rattle.shdlc_core.specs.declared.answers.LinkState.{LinkState}
pub use Rattle.swp_act.specs.declared.ActEvent.{ActEvent}
pub use Rattle.swp_act.specs.declared.ActEvent.TheVariants.{Start as ActStart}
pub use Rattle.swp_base.specs.InMemory.{Memory, Plan, plan_after}
pub use Rattle.swp_base.specs.declared.link_terms.Cause.{Cause}
pub use Rattle.swp_base.specs.declared.link_terms.Role.{Role as Named}
pub use Rattle.trace_model.specs.declared.entry.Entry.{Entry}
pub use Rattle.trace_model.specs.declared.line.End.{End}
