-- The words of a node alone, of nodes, links and memories that these proofs speak in, each from where it is at home.
pub use Rattle.gate_admin.specs.Decide.{IsRecordableDecision, decided, dest_in, tests_to_create}
pub use Rattle.gate_admin.specs.View.{has, hosts_where, is_connected, mask_of}
pub use Rattle.gate_admin.specs.declared.decision.Decision.{Decision}
pub use Rattle.gate_admin.specs.declared.decision.Decision.TheVariants.{Answer, Ask, Commit}
pub use Rattle.gate_admin.specs.declared.view.LinkView.{LinkView}
pub use Rattle.gate_answers.specs.Answers.{answer_of, body_in}
pub use Rattle.hci_store.proofs.Committed.{sound_has_no_fault, close-close, all_recordable, holds_more, holds_snapshot, are_bodies, holds_still, is_body}
pub use Rattle.hci_store.proofs.Committed.{room_count}
pub use Rattle.hci_store.proofs.Starting.{counted}
pub use Rattle.hci_store.specs.Committing.{commit_writes, committed, record_fits, room_writes, snapshot_bodies, with_room}
pub use Rattle.hci_store.specs.Image.{applied, are_commands, first_other, tables_of}
pub use Rattle.hci_store.specs.Recordable.{IsRecordable}
pub use Rattle.hci_store.specs.Snapshots.{snapshot_of}
pub use Rattle.hci_store.specs.Stored.{FindsSame, HoldsTables}
pub use Rattle.hci_tables.specs.Bodies.{body_of, command_of, spelled_by}
pub use Rattle.hci_tables.specs.Commands.{IsCommand}
pub use Rattle.hci_tables.specs.Tables.{AreTables, HciTables, after_commands, apply, close, is_kept_sync, no_tables}
pub use Rattle.hci_tables.specs.declared.command.Command.{Command}
pub use Rattle.hci_tables.specs.declared.command.Command.TheVariants.{Clear, Create, Delete, Sync}
pub use Rattle.hcp_packet.specs.Packets.{AreSendable, IsSendable, fragments_of}
pub use Rattle.history.proofs.Filters.{same_end_itself}
pub use Rattle.history.specs.Filters.{Saying, acked_after, acked_in, said_of, same_end, sent_by, sent_in}
pub use Rattle.history.specs.Steps.{end_of, entries_for, entry_of}
pub use Rattle.journal_laws.proofs.Opening.{append_count, compact_count}
pub use Rattle.journal_laws.specs.Banks.{current}
pub use Rattle.journal_laws.specs.Journal.{IsSound, count, count_of, gate_at, journal, left, records, state_of}
pub use Rattle.journal_laws.specs.Operations.{CanCompact, HasRoomForBody, append_writes, appended, compact_writes, compacted, format_writes, formatted}
pub use Rattle.journal_laws.specs.Operations.{started_state}
pub use Rattle.journal_laws.specs.Planned.{after_planned, fails_within}
pub use Rattle.journal_laws.specs.Writes.{IsCut, Write, after_writes}
pub use Rattle.journal_laws.specs.declared.state.State.{State}
pub use Rattle.link_laws.proofs.entries.Stepping.{fetched_acked, sound_sent}
pub use Rattle.link_laws.proofs.machine.Reports.{Becomes, take_so}
pub use Rattle.link_laws.proofs.machine.Runs.{Sound, sound_input, sound_turn}
pub use Rattle.link_laws.proofs.machine.Sound.{Data, SentAfter, Shift, whole_given, whole_more}
pub use Rattle.link_laws.proofs.machine.Sound.Shift.{Begins, Ends, Renews, Rests, Stays}
pub use Rattle.link_laws.proofs.places.Joined.{received_cases}
pub use Rattle.link_laws.specs.entries.Entries.{End as Side, Entry as Noted, if_so, told, turn_entry}
pub use Rattle.link_laws.specs.entries.Entries.Entry.{Acked, Active, Down, GaveUp, Got, Up}
pub use Rattle.link_laws.specs.machine.Machine.{ActDue, LinkEnd, LinkInput, Message, Report, Role, Turn, act_event, act_out, activated, after_input, among}
pub use Rattle.link_laws.specs.machine.Machine.{aside_refusal, began_by, deactivated, ended_by, ended_by_reset, frames_out, give_refusal, given, got_by}
pub use Rattle.link_laws.specs.machine.Machine.{heard, if_up, is_faulty, is_held, is_open, lpdu_input, moved, need_of_all, news, oldest, put_down}
pub use Rattle.link_laws.specs.machine.Machine.{report, reset_refusal, sent_all, spare, started, turn, whole_acked, whole_among, window_of}
pub use Rattle.link_laws.specs.machine.Machine.LinkInput.{Reset, Start, Stop, Take, TakeUnknown, Tick}
pub use Rattle.link_laws.specs.machine.Machine.Role.{Bare, Clf, Uicc}
pub use Rattle.link_laws.specs.machine.Machine.Turn.{FetchMessage, Give, Hold, Release, SetAside}
pub use Rattle.link_laws.specs.messages.Rsets.{rsets_among, rsets_due}
pub use Rattle.link_laws.specs.sessions.Sessions.{is_rset, is_up}
pub use Rattle.lone_laws.specs.alone.Answers.{AnsweredAlone, AtEachLoneEvent, AtEachNoted, HearsFirstAlone, IsDueAlone, IsHeldAlone, IsRepliedAlone}
pub use Rattle.lone_laws.specs.alone.Answers.{IsResetAlone, TurnsAscendAlone, entries_of_events_alone, goes_through_end, is_asked_down, is_at_rest}
pub use Rattle.lone_laws.specs.alone.Answers.{is_done_alone, is_left_lacking, is_reset_alone, is_short_alone, noted_since, runs_behind, sync_due, telling_count}
pub use Rattle.lone_laws.specs.alone.Ends.{EndForm, end_causes, end_history, end_node, end_written, entry_written}
pub use Rattle.lone_laws.specs.alone.Ends.EndForm.{OnBytes, OnLine}
pub use Rattle.lone_laws.specs.alone.Known.{core_noted, core_since, core_with, end_since, errors_found, errors_since, first_lack_since, lack_since, reply_since}
pub use Rattle.lone_laws.specs.alone.Known.{spare_since, spare_with_link, view_with_link}
pub use Rattle.lone_laws.specs.alone.Lone.{Lone, LoneCause, LoneEvent, does_by_power, does_with_input, emits_behind, end_of_node_alone, frames_behind}
pub use Rattle.lone_laws.specs.alone.Lone.{lone_after, lone_arrival, lone_behind_step, lone_booted, lone_end, lone_events, lone_input, lone_port, lone_step}
pub use Rattle.lone_laws.specs.alone.Lone.{lone_work, node_input, noted_of_refused, rsets_since, session_with, side_behind, with_refusal}
pub use Rattle.lone_laws.specs.alone.Lone.LoneCause.{FrameComes, FrameIsRefused, ResetComes, StartComes, StopComes, TickComes}
pub use Rattle.lone_laws.specs.alone.Memories.{Counts, CountsAll, FindsAllButLast, FindsBehind, FindsTables, IsHeldBehind, IsKeptIn, IsReadyMemory}
pub use Rattle.lone_laws.specs.alone.Memories.{IsTakenMemory, behind_boot, commands_of_entries}
pub use Rattle.node_laws.proofs.Cases.{by_list, by_option, by_test}
pub use Rattle.node_laws.proofs.Each.{all_changed, all_map}
pub use Rattle.node_laws.proofs.answers.OneFact.{Fact, IsFirstThere, firsts_in_turn, is_fact}
pub use Rattle.node_laws.proofs.answers.OneFact.Fact.{Ascending, Done, Due, Heard, Held, Held as HeldFact, InTurn, Replied, Short}
pub use Rattle.node_laws.proofs.kept.Booting.{command_read, good_found}
pub use Rattle.node_laws.proofs.kept.Reckoned.{IsLeftBetween, after-append, after_planned-append, cut-append, planned_cut, planned_whole, says_either}
pub use Rattle.node_laws.proofs.kept.Reckoned.{snapshot_fits, some_other}
pub use Rattle.node_laws.proofs.kept.Doing.{Plainly, plainly_desk, plainly_noting, plainly_then, plainly_turn, uncut}
pub use Rattle.node_laws.proofs.kept.Stepping.{one_may, plainly_come, syncs_one}
pub use Rattle.node_laws.proofs.links.Blocks.{moved_aside}
pub use Rattle.node_laws.proofs.links.Works.{AreFine, IsFine, IsFineWork, all_done_fine, came_fine, deeds_fine, fine_at, handles_fine, holds_fine, lets_fine}
pub use Rattle.node_laws.proofs.passes.InSteps.{before_entries, before_none, come_entries, deed_notes, deeds_note_of_notes as deeds_note, steps_are}
pub use Rattle.node_laws.proofs.passes.Passing.{comes_lasts, comes_so, handles_sees, takes_entries, through}
pub use Rattle.node_laws.proofs.power.Steps.{AreOwn, IsOwn}
pub use Rattle.node_laws.proofs.reply_passes.Held.{AreNoBoots, IsNoBoot}
pub use Rattle.node_laws.proofs.steps.StepWalks.{Lasts, all_do, got_at, lets, rest_lasts}
pub use Rattle.node_laws.proofs.telling.Shapes.{rest_all, told_all}
pub use Rattle.node_laws.proofs.views.Doing.{AreUnset, IsUpAt, SetDeeds, SetsNone, controller_sets, controller_unset, host_sets, host_unset, is_link_gate}
pub use Rattle.node_laws.proofs.worlds.Late.{BeginsBehind}
pub use Rattle.node_laws.specs.answers.Answered.{AnswersSo, before_turn, is_turn_of, to_command}
pub use Rattle.node_laws.specs.answers.Moments.{holds_after, holds_in, is_up_read, unhandled_after, unhandled_in}
pub use Rattle.node_laws.specs.answers.Order.{IsAscending, is_answer_of, turn_link}
pub use Rattle.node_laws.specs.kept.Books.{hosts_of_ends}
pub use Rattle.node_laws.specs.kept.Deeds.{MayBeDone}
pub use Rattle.node_laws.specs.kept.Finds.{FindsRoom}
pub use Rattle.node_laws.specs.kept.Reckonings.{is_cut_of}
pub use Rattle.node_laws.specs.passes.Noting.{entries_of_reply, goes_in, noted_by_deed, noted_by_deeds}
pub use Rattle.node_laws.specs.passes.Passing.{AreAlong, AreNoTurns, ArePassed, BeginWithTurn, ComesTo, IsBehind, IsNoTurn, IsTurnSo, LastsOverTurns}
pub use Rattle.node_laws.specs.passes.Passing.{is_held_at, lacking, link_of_turn, links_of_turns, takes_up, waiting_at}
pub use Rattle.node_laws.specs.passes.Steps.{comes_to_pass, has_come_so, has_freed, has_synced, noted_before_pass, syncs_in}
pub use Rattle.node_laws.specs.views.Errors.{ErrorCount, errors_after, errors_set_by, leads_to_link_gate}
pub use Rattle.node_machine.proofs.Walks.{OfDecision, Plain, all_of_controller, all_ordered, all_synced_hold, anyone, controller_holds, deeds_near}
pub use Rattle.node_machine.proofs.Walks.{host_holds, ordered_holds}
pub use Rattle.node_machine.specs.Carrying.{after_turn, all_done, changed_if, commit, done, end_of_node, end_of_number, end_view, finds_room, first_lack, keeps}
pub use Rattle.node_machine.specs.Carrying.{lack, loses_power, needs, noted_of, notified, noting, own_side, own_view, plan_behind, port_at, spare_with, turn_at}
pub use Rattle.node_machine.specs.Carrying.{unless_cut, with_desk, with_port}
pub use Rattle.node_machine.specs.Controller.{asked_at, commit_deeds, controller_deeds, decision_deeds, gates, is_asked_at}
pub use Rattle.node_machine.specs.Controller.{is_connected_at, link_deeds, own_gate, view_for, view_of}
pub use Rattle.node_machine.specs.HostReplies.{accepts, host_deeds, ordered_deeds}
pub use Rattle.node_machine.specs.Node.{NodeInput, after_sessions, all_come, all_owed, boot_writes, forgets, forgotten, found, has_come, input_at, is_forgotten}
pub use Rattle.node_machine.specs.Node.{is_over, new_desk, steps, synced, times_out, told_at, told_late, with_error, with_older, without_notice}
pub use Rattle.node_machine.specs.Node.NodeInput.{AtEnd, TimePasses}
pub use Rattle.node_machine.specs.Parts.{About, Core, Deed, Desk, Init, NodeView, Port, Running, Work}
pub use Rattle.node_machine.specs.Parts.Deed.{Asks as AsksFor, Commits, Drops, IsAnswered, Orders, Releases, SaysOk, Sends, SetsErrors, Tells}
pub use Rattle.node_machine.specs.Turns.{deeds_for, deeds_of, goes_through_ends, handles, have_turns, holds_back, lets_go, passes}
pub use Rattle.node_machine.specs.world.NodeFilters.{asking_after, asking_in, session_now, spare_at, unacknowledged_in}
pub use Rattle.node_machine.specs.world.NodeLegal.{AreInTurn}
pub use Rattle.node_machine.specs.world.World.{end_c, end_h, new_memory, node_of, runs_on}
pub use Rattle.nv_journal.proofs.Formatting.{format_all_or_nothing, no_records_then, says_formatted}
pub use Rattle.nv_journal.specs.Kept.{Says}
pub use Rattle.registry.proofs.ValueLemmas.{AllByRecursion-append, AllByRecursion-append as all_append}
pub use Rattle.shdlc_core.specs.Machine.{EndState, Fragment, acknowledged, after_frames, due_left, fetched, frames_of, is_waiting, most_frames, place_of}
pub use Rattle.shdlc_core.specs.Machine.{received, reset_with, runs_timer, stopped, take_answer, taken, tick_answer, ticked, waiting_from, with_ready}
pub use Rattle.shdlc_core.specs.declared.answers.Due.TheVariants.{Rej as Rej_due, Rnr as Rnr_due, Rr as Rr_due, Rset as Rset_due, Ua as Ua_due}
pub use Rattle.shdlc_core.specs.declared.answers.LinkState.{LinkState}
pub use Rattle.shdlc_core.specs.declared.answers.LinkState.TheVariants.{Up as IsUpNow, Waiting}
pub use Rattle.std.proofs.Common.{Bool, IsSome, IsTrue, List, None, Option, Some, [], ap, append-nil, append_assoc, ap₂, arith, cond, drop, eqb, false}
pub use Rattle.std.proofs.Common.{if◌then◌else◌, inl, inr, is_none, is_some, length, length-append, map, max, min, nat_lt, not, option_and_then}
pub use Rattle.std.proofs.Common.{refl, replicate, subst, suc, sym, take, true, zero, ℕ, ◌&&◌, ◌++◌, ◌+◌, ◌-◌, ◌<◌, ◌==◌, ◌^◌, ◌||◌, ◌∙◌, ◌∷◌, ◌≡◌, ◌≤◌, ◌⊎◌}
pub use Rattle.std.proofs.lemmas.Bool.{and_cases, and_parts, cond_both, eqb-false, eqb-true, false≢true, leb-true, not-false, not-true}
pub use Rattle.std.proofs.lemmas.Bool.{not_from_false, true≢false}
pub use Rattle.std.proofs.lemmas.Grind.{common_steps}
pub use Rattle.std.proofs.lemmas.List.Sums.{fold-append, take_while-cons}
pub use Rattle.std.specs.List.{AllByRecursion, cons_option, filter, flat_map, fold, list_all, list_any}
pub use Rattle.std.specs.Option.{option_map_or}
pub use Rattle.std.specs.Prelude.{Err, Ok, Result, option_to_list}
pub use Rattle.swp_act.specs.declared.ActEvent.{ActEvent}
pub use Rattle.swp_act.specs.declared.ActEvent.TheVariants.{Start as ActStart, Stop as ActStop, Take as ActTake, Tick as ActTick}
pub use Rattle.swp_base.specs.InMemory.{Memory}
pub use Rattle.swp_base.specs.declared.control_frames.Control.{Control}
pub use Rattle.swp_base.specs.declared.control_frames.Control.TheVariants.{Act as ActFrame, Clt, I, Rset, S, Ua}
pub use Rattle.swp_base.specs.declared.link_terms.Cause.{Cause as EndedBy}
pub use Rattle.swp_base.specs.declared.link_terms.Cause.TheVariants.{Asked}
pub use Rattle.swp_lpdu.specs.Controls.{control_of, lpdu_of}
pub use Rattle.swp_lpdu.specs.declared.LpduFault.{LpduFault}
pub use Rattle.tables_laws.proofs.gate.Decisions.{decided_holds, decided_tells_others}
pub use Rattle.tables_laws.proofs.tables.SortedTables.{AreTables-apply, AreTables-close, AreTables-none}
pub use Rattle.tables_laws.proofs.tables.TwoHosts.{JoinTwo-after, JoinTwo-closed}
pub use Rattle.tables_laws.specs.tables.Changes.{JoinTwo}
pub use Rattle.trace_model.specs.declared.entry.Entry.{Entry}
pub use Rattle.trace_model.specs.declared.entry.Entry.TheVariants.{AnyOk, Dropped, Sent}
pub use Rattle.trace_model.specs.declared.line.End.{End}
