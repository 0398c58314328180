-- The words of nodes, links, entries and tables that these proofs speak in, each from where it is at home.
pub use Rattle.gate_admin.proofs.CreationLemmas.{all_false}
pub use Rattle.gate_admin.specs.Decide.{IsRecordableDecision, administration, answers, carried_out, closing, commits, commits_and_tells, decided, dest_in}
pub use Rattle.gate_admin.specs.Decide.{ends_of, far_end, far_end_of, opening, others_opened, shares, tests_of_pipe, tests_to_clear, tests_to_create}
pub use Rattle.gate_admin.specs.Decide.{tests_to_delete, tests_to_set_it, told_of_clearing, told_of_deletion, unless_refused}
pub use Rattle.gate_admin.specs.View.{has, hosts_where, is_connected, mask_of}
pub use Rattle.gate_admin.specs.declared.decision.Decision.{Decision}
pub use Rattle.gate_admin.specs.declared.decision.Decision.TheVariants.{Answer, Ask, Commit}
pub use Rattle.gate_admin.specs.declared.view.LinkView.{LinkView}
pub use Rattle.gate_answers.specs.Answers.{answer_of, body_in, first_of, instruction_in, param_in, tests_to_get, tests_to_set, value_in}
pub use Rattle.gate_answers.specs.declared.response.Response.{Response}
pub use Rattle.gate_identity.specs.Identity.{identity_served, identity_value}
pub use Rattle.gate_link.specs.Link.{count_bytes, count_in, link_served, tests_to_set_errors}
pub use Rattle.hci_store.specs.Committing.{commit_writes, committed, record_fits, room_writes, snapshot_bodies, with_room}
pub use Rattle.hci_store.specs.Image.{applied, tables_of}
pub use Rattle.hci_store.specs.Recordable.{IsRecordable}
pub use Rattle.hci_tables.specs.Bodies.{body_of, command_of, spelled_by}
pub use Rattle.hci_tables.specs.Commands.{IsCommand, is_allowed, is_command, is_dynamic, is_host}
pub use Rattle.hci_tables.specs.Tables.{AreTables, HciTables, after_commands, apply, close, is_kept_sync, is_opened, no_tables}
pub use Rattle.hci_tables.specs.declared.command.Command.{Command}
pub use Rattle.hci_tables.specs.declared.command.Command.TheVariants.{Clear, Create, Delete, Set, SetOpened, Sync}
pub use Rattle.hcp_packet.specs.MessageHeader.{header_of}
pub use Rattle.hcp_packet.specs.Packets.{AreSendable, IsFrontOf, IsSendable, good_of, is_good, packet_count}
pub use Rattle.hcp_packet.specs.declared.MessageFault.{MessageFault}
pub use Rattle.hcp_packet.specs.declared.MessageKind.{MessageKind}
pub use Rattle.hcp_packet.specs.declared.MessageKind.TheVariants.{Response as IsResponse}
pub use Rattle.history.proofs.Filters.{same_end_itself}
pub use Rattle.history.proofs.legal.Sessions.{acked-all, got-all, sent-all}
pub use Rattle.history.specs.Damage.{Verdict, same_bytes, verdict_on}
pub use Rattle.history.specs.Damage.Verdict.{LostFor, Same, Undetected}
pub use Rattle.history.specs.Filters.{Saying, acked_after, acked_in, at_end, got_in, got_in_session, said, said_of, same_end, same_side, sent_by, sent_in}
pub use Rattle.history.specs.Filters.Saying.{Begins, Counts, Gets, Puts}
pub use Rattle.history.specs.Follows.{as_noted, first_verdict, machine_of, seen_from, taken_of}
pub use Rattle.history.specs.Steps.{at, end_of, entries_for, entry_of, event_of, link_after_all, lost_as}
pub use Rattle.journal_laws.proofs.InUse.{in_use_is, no_journal}
pub use Rattle.journal_laws.proofs.Opening.{fresh}
pub use Rattle.journal_laws.proofs.Planned.{none_within, plan_of_memory_after as plan_on}
pub use Rattle.journal_laws.specs.Banks.{current, is_opened_gate, other}
pub use Rattle.journal_laws.specs.Journal.{IsSound, Journal, count_of, is_open_beside, journal, left, records, state_of}
pub use Rattle.journal_laws.specs.Operations.{IsAllOrNothing, IsUnformatted, append_writes, compact_writes, format_writes, started_state}
pub use Rattle.journal_laws.specs.Planned.{after_planned, fails_within}
pub use Rattle.journal_laws.specs.Writes.{Write, after_writes, last_place}
pub use Rattle.journal_laws.specs.declared.banks.Side.{Side}
pub use Rattle.journal_laws.specs.declared.state.State.{State}
pub use Rattle.link_laws.proofs.entries.Quieting.{same_number}
pub use Rattle.link_laws.proofs.entries.Noting.{FramesFor, reset_role, turned_same}
pub use Rattle.link_laws.proofs.entries.Running.{Before, Sounds, before_here, before_there, read_here, read_there}
pub use Rattle.link_laws.proofs.entries.Settling.{or_none, silences}
pub use Rattle.link_laws.proofs.entries.Stepping.{host_finished}
pub use Rattle.link_laws.proofs.entries.Together.{ticks_host, ticks_host as tick_host}
pub use Rattle.link_laws.proofs.machine.Reports.{activated_got, moved_got, reset_got}
pub use Rattle.link_laws.proofs.messages.Project.{host_ended, moved_role, turned_role}
pub use Rattle.link_laws.proofs.messages.Runs.{Good, Reached, clf_starts, event_step, from_start, one_number, reached, reached_more, rests_of, safe_reached}
pub use Rattle.link_laws.proofs.messages.Runs.{start_good, start_reached}
pub use Rattle.link_laws.proofs.messages.Steps.{activated_role}
pub use Rattle.link_laws.proofs.sessions.Sending.{SafeLink}
pub use Rattle.link_laws.specs.entries.Entries.{Entry as Noted, aged_entries, ending_entries, entries, entries_of_events, event_entries, far, first_lost}
pub use Rattle.link_laws.specs.entries.Entries.{here_entries, if_so, input_entries, left_after, pushed_out, put_entries, puts_entries, rest_entries}
pub use Rattle.link_laws.specs.entries.Entries.{restart_entries, sent_unless, step_entries, taken_entries, tick_entries, told, told_of, turn_entries}
pub use Rattle.link_laws.specs.entries.Entries.{turn_entry, wire_with}
pub use Rattle.link_laws.specs.entries.Entries.End.{Controller, Host}
pub use Rattle.link_laws.specs.entries.Entries.Entry.{Acked, Active, Cut, Down, Emit, GaveUp, Got, Lost, Restarted, Sent, Tick as Ticked, Took}
pub use Rattle.link_laws.specs.entries.Quiet.{begins, since}
pub use Rattle.link_laws.specs.entries.Reading.{Seen, kept, nothing_seen, see, see_all}
pub use Rattle.link_laws.specs.entries.Sessions.{IsRead, number_now, number_now as own_session, number_now as session_at}
pub use Rattle.link_laws.specs.entries.Settled.{FindsReady, withholds}
pub use Rattle.link_laws.specs.machine.Machine.{ActDue, LinkEnd, LinkInput, Message, Refused, Report, Role, Turn, act_answer, act_event, act_out, activated}
pub use Rattle.link_laws.specs.machine.Machine.{after_input, aside_refusal, deactivated, ended_by, ended_by_act, ended_by_reset, frame_fetched, frames_out}
pub use Rattle.link_laws.specs.machine.Machine.{give_refusal, given, had_tick, heard, if_up, in_front, in_use, is_faulty, is_held, is_open, moved, need}
pub use Rattle.link_laws.specs.machine.Machine.{need_of_all, new_link_end, oldest, put_down, renewed, report, reset_by, reset_refusal, role_after, sent_all}
pub use Rattle.link_laws.specs.machine.Machine.{spare, started, took, turn, turned, whole_acked, whole_among, window_of, with_act}
pub use Rattle.link_laws.specs.machine.Machine.LinkInput.{Fetch, FromNode, Reset, Start, Stop, Take, TakeBroken, TakeUnknown, Tick, Tick as HasTick}
pub use Rattle.link_laws.specs.machine.Machine.Refused.{NotUp}
pub use Rattle.link_laws.specs.machine.Machine.Role.{Bare, Clf, Uicc}
pub use Rattle.link_laws.specs.machine.Machine.Turn.{FetchMessage, Give, Hold, Release, SetAside}
pub use Rattle.link_laws.specs.messages.Links.{AllAllowed, AreOwn, AreSendableTurns, CanCome, CanEnd, Comes, EndEvent, Ending, IsClf, IsEvent, IsNode, IsOwn}
pub use Rattle.link_laws.specs.messages.Links.{IsStart, IsUicc, IsWindow, Link, LinkEvent, Loss, Node, NumberedEnd, after_link_events, aged, all_at_controller}
pub use Rattle.link_laws.specs.messages.Links.{ended_talk, exchanged, finished, happens, happens_at_controller, has_input, has_restarted, has_taken, new_link}
pub use Rattle.link_laws.specs.messages.Links.{number_of, put, put_all, silent, steps_at_controller, talk_now, talk_of, ticks_at_controller, with_ended}
pub use Rattle.link_laws.specs.messages.Links.Comes.{AsksReset, NextFrame, NoInput, Starts, Stops}
pub use Rattle.link_laws.specs.messages.Links.EndEvent.{Lose, Step}
pub use Rattle.link_laws.specs.messages.Links.Ending.{CutOff, GoesOut}
pub use Rattle.link_laws.specs.messages.Links.IsStart.{IsLine}
pub use Rattle.link_laws.specs.messages.Links.LinkEvent.{Activate, AtController, AtHost, TicksWithout}
pub use Rattle.link_laws.specs.messages.Links.Loss.{Broken, OnDemand, TooMany, TooOld, Unread}
pub use Rattle.link_laws.specs.messages.Projection.{core_end, core_event, core_here, core_of, core_tick_rest}
pub use Rattle.link_laws.specs.messages.Settled.{AreUpTogether, IsSettled, sure_of}
pub use Rattle.link_laws.specs.places.Wire.{is_act, sans}
pub use Rattle.link_laws.specs.sessions.Sessions.{AllShdlcAllowed, AreTurns, NumberedShdlc, OnWire, ShdlcEndEvent, ShdlcEndEvent as CoreEndEvent, ShdlcLink}
pub use Rattle.link_laws.specs.sessions.Sessions.{ShdlcLink as CoreLink, ShdlcLinkEvent, ShdlcTurn, act_frame, aged_wire, ended_session, fits, is_rset, is_up}
pub use Rattle.link_laws.specs.sessions.Sessions.{older, shdlc_after, shdlc_aged, shdlc_all_at_controller, shdlc_becomes, shdlc_exchanged, shdlc_happens}
pub use Rattle.link_laws.specs.sessions.Sessions.{shdlc_happens_at_controller, shdlc_number_of, shdlc_put, shdlc_put_all, shdlc_session_of, shdlc_silent}
pub use Rattle.link_laws.specs.sessions.Sessions.{shdlc_ticks_at_controller, shdlc_turned, ticks_if_waiting, ticks_or_cut, took_with, with_shdlc_ended}
pub use Rattle.link_laws.specs.sessions.Sessions.ShdlcEndEvent.{Acts, Deliver, Ignore, Turns}
pub use Rattle.node_laws.specs.acked.InTurn.{AcksAtMost, AllAtController, AllAtHost, AreTakenInTurn, IsAckedWithin, TakeNoFrames, TakesNoFrame}
pub use Rattle.node_laws.specs.acked.InTurn.{acked_at_controller}
pub use Rattle.node_laws.specs.answers.Answered.{Answered, AnswersSo, AreDone, AreDue, AreLeftShort, AreReset, IsDueAt, IsHeldFor, IsReplied, as_left}
pub use Rattle.node_laws.specs.answers.Answered.{before_turn, ends_in, is_done, is_later, is_left_short, is_turn_of, makes_step, through, to_command}
pub use Rattle.node_laws.specs.answers.Headline.{LegalWorld}
pub use Rattle.node_laws.specs.answers.Moments.{AtEachEntry, AtEachOccurrence, Moment, about_read, creation_read, end_read, holds_in, is_up_read, lack_at}
pub use Rattle.node_laws.specs.answers.Moments.{lack_of, noted_of_deeds, own_read, reply, runs_in, spare_read, unhandled_after, unhandled_in, until, view_read}
pub use Rattle.node_laws.specs.answers.Order.{IsAscending, NodesHearFirst, TurnsAscend, answerer, hears, is_answer_of, turn_link}
pub use Rattle.node_laws.specs.answers.Rows.{controller_rows, decides, far_host, first_row, host_rows, is_order, is_relayed}
pub use Rattle.node_laws.specs.answers.Unasked.{age_in, begun_at, down_in, due, ends_session, goes_down, is_down, is_late_in, is_own_reset, is_reset_down}
pub use Rattle.node_laws.specs.answers.Unasked.{is_reset_due, is_tick, new_sync, owed_in, still_asked}
pub use Rattle.node_laws.specs.bounds.Commands.{AreCausedSo, MayBeCaused, commands_by, commands_by_all, commands_by_events}
pub use Rattle.node_laws.specs.creations.Creations.{AsidesAreRead, IfKnowsAsRead, IsReadSo, KnowsAsRead, asked_pipes, creations_at, creations_of, is_asked_pipe}
pub use Rattle.node_laws.specs.creations.Worlds.{AreAwaited, AreProper, HasNoneAside, HasSetAside, IfAwaited, IsAwaited, IsProper, IsProperBook}
pub use Rattle.node_laws.specs.creations.Worlds.{IsProperCommand, KeepsCreations}
pub use Rattle.node_laws.specs.cuts.Histories.{FindsBy, FindsExactly, IsCutAsPlanned, begun_by, is_one_of, reckoned_within, reckoning_in, with_event}
pub use Rattle.node_laws.specs.kept.Books.{AreToldBehind, IsOf, IsPlain, IsTold, StillRuns, WaitsAt, WaitsFor, WouldFind, hosts_of_ends}
pub use Rattle.node_laws.specs.kept.Deeds.{MayBeDone}
pub use Rattle.node_laws.specs.kept.Finds.{BootFinds, FindsRoom, Knows}
pub use Rattle.node_laws.specs.kept.Gates.{opens_gate}
pub use Rattle.node_laws.specs.kept.Hosts.{AreDifferent, AreHosts, IsFew, IsNodeNumber, IsSentByHost}
pub use Rattle.node_laws.specs.kept.Reckonings.{EachIsAsRead, IsAsRead, MakeOf, Reckoning, is_cut_of, reckoned, reckoning_of, with_written, writes_of}
pub use Rattle.node_laws.specs.kept.Worlds.{AllKeep, IfRuns, MayHappen, NodeKeeps, RunsSo, SiteKeeps}
pub use Rattle.node_laws.specs.links.Notices.{AllReach, IsBegun, IsComing, IsNoticedUp, IsOutside, OnFirst, Reaches}
pub use Rattle.node_laws.specs.links.Runs.{ArePlayable, IsPlayable, IsRun, IsRunOf, new_line}
pub use Rattle.node_laws.specs.notices.Notices.{GoesToFree, IsAbout, IsKeptNotice, IsNoticeOf, NoticesAreRead, has_notice, is_of_creation, notice_at}
pub use Rattle.node_laws.specs.notices.Notices.{notice_of_running}
pub use Rattle.node_laws.specs.notices.Worlds.{ControllerReads, IfHostNode, IfReads, IsGoodSite, IsRightAbout, IsRightNotice, IsShut, KeepsNotices}
pub use Rattle.node_laws.specs.order.Resets.{IsFreeOfLinkFrames, IsUpheld, IsUpheldInTick, behind_reset_of, cuts_on, drops_on, is_act_lpdu, is_lost_by_line}
pub use Rattle.node_laws.specs.order.Resets.{withholds_in}
pub use Rattle.node_laws.specs.order.Told.{AreBothUp, AreReadOff, AreSessionsRead, HasSettled, IsLinkTold, IsReadOff, IsStillInSession, frames_on, readiness_of}
pub use Rattle.node_laws.specs.passes.Noting.{AreTaken, CountsCommands, GiveOnce, IsNoneOf, IsReplyNoted, TakesMessage, entries_of_reply, goes_in, next_count}
pub use Rattle.node_laws.specs.passes.Noting.{noted_by_deed, noted_by_deeds, sent_in_session, session_of_port}
pub use Rattle.node_laws.specs.passes.Passing.{AreAlong, AreNoTurns, ArePassed, BeginWithTurn, ComesTo, HadTurn, IsBehind, IsNoTurn, IsTurnSo, IsWaitingRead}
pub use Rattle.node_laws.specs.passes.Passing.{LastsOverTurns, Stays, WasHeld, is_held_at, lacking, link_of_turn, links_of_turns, takes_up, waiting_after}
pub use Rattle.node_laws.specs.passes.Passing.{waiting_at, waits_behind}
pub use Rattle.node_laws.specs.passes.Passing.ComesTo.{Handles, Holds, LetsGo}
pub use Rattle.node_laws.specs.passes.Steps.{comes_to_pass, controller_begins, controller_tick_begins, has_come_so, has_freed, has_synced, noted_before_pass}
pub use Rattle.node_laws.specs.passes.Steps.{owed_in_step, syncs_in, told_of_coming, told_of_late}
pub use Rattle.node_laws.specs.power.Powers.{AreNotOf, CutsEndParts, is_of_node}
pub use Rattle.node_laws.specs.read_rooms.Moments.{ArePortsRead, HoldsInStep, IsPortRead, host_begins_step, host_tick_begins}
pub use Rattle.node_laws.specs.read_steps.Alike.{KnowsTheSame}
pub use Rattle.node_laws.specs.read_steps.Names.{AreNamed, IsNamed}
pub use Rattle.node_laws.specs.read_steps.Works.{HasAsideAt, HasErrorsRead, KeepsInStep, LinksAreRead, ReadsInStep, RunsInStep, desks_of}
pub use Rattle.node_laws.specs.read_steps.Worlds.{KeepsBetween, ReadsBetween, as_it_ticks}
pub use Rattle.node_laws.specs.readings.Noticed.{IfNoticedUp, NoticesAreUp, ends_between}
pub use Rattle.node_laws.specs.readings.Orders.{AreInitsShort, Fits, IsFresh, IsItsEnd, IsSilent, KeepsOrder, MayDo, order_of}
pub use Rattle.node_laws.specs.readings.Worlds.{AllRead, HostRuns, IfHostRuns, IfZero, IsInitOfHost, SiteReads, host_does_so, init_of}
pub use Rattle.node_laws.specs.replies.Known.{EndsAreRead, HasRoomForAll, IsNoAnswer, KeepsBeside, MessagesAreRead}
pub use Rattle.node_laws.specs.replies.Passes.{AreRepliedIn, BeginsPass}
pub use Rattle.node_laws.specs.reply_passes.Counts.{commands_noted}
pub use Rattle.node_laws.specs.rounds.LinkEvents.{GoesOnLink, controller_takes, controller_tick_on, link_events_in, site_takes, site_ticks, takes_on, tick_so}
pub use Rattle.node_laws.specs.rounds.LinkEvents.{ticks_on}
pub use Rattle.node_laws.specs.rounds.RoundEvents.{ends_events, events_on, round_events, rounds_events}
pub use Rattle.node_laws.specs.schedules.Ranges.{AreNodeLinesOf, IsNodeLineOf, lines_asking}
pub use Rattle.node_laws.specs.steps.Waiting.{IsAllowedFor, IsAllowedStill, MayWait}
pub use Rattle.node_laws.specs.telling.Standing.{Readiness, Standing, StandsOf, after_power, as_event_begins, as_event_ends, becomes_at, inactive, law_noted}
pub use Rattle.node_laws.specs.telling.Standing.{made_active, new_standing, no_longer_waits, said_far, said_near, standing, standing_behind, standing_by_law}
pub use Rattle.node_laws.specs.telling.Standing.{stands_noted, stands_said, stands_told, with_empty_wires, without_power}
pub use Rattle.node_laws.specs.telling.Telling.{EachGoesSo, GoesSo, HasEnds, IfDue, IfItRuns, IfOff, IsOrderly, IsTimely, IsUntimed, MayBoot, NoneDue, TellOf}
pub use Rattle.node_laws.specs.telling.Telling.{hosts_in, is_due, is_of, of_link, tells_of, world_behind}
pub use Rattle.node_laws.specs.views.Errors.{ErrorCount, ErrorsAreRead, errors_after, errors_in, errors_of, errors_set_by, is_any_ok, leads_to_link_gate}
pub use Rattle.node_laws.specs.views.Errors.{no_errors}
pub use Rattle.node_laws.specs.views.Inits.{IfRunsInit, IsBegunByHost, LeavesInit, SiteKeepsInit, init_after, init_begun, init_behind, init_in, init_of_running}
pub use Rattle.node_laws.specs.views.Inits.{with_response}
pub use Rattle.node_laws.specs.views.Views.{IsSameView, view_at}
pub use Rattle.node_machine.proofs.Walks.{OfDecision, OfHost, Plain, all_of_controller, all_of_host, all_owed_hold, all_synced_hold, any_of_controller, anyone}
pub use Rattle.node_machine.proofs.Walks.{controller_holds, deeds_far, deeds_hold, deeds_near, forgotten_hold, host_holds, init_holds, learned_holds}
pub use Rattle.node_machine.proofs.Walks.{learns_holds, ordered_holds, orders_hold}
pub use Rattle.node_machine.proofs.world.Cases.{after_host_step, after_near_tick, after_tick, boot_found, boot_written, by_boot, by_coming, by_controller}
pub use Rattle.node_machine.proofs.world.Cases.{by_controller_tick, by_host, by_host_tick, by_loss, by_memory, by_power, by_running, host_tick, near_tick}
pub use Rattle.node_machine.proofs.world.Cases.{site_lost, site_ticked, site_unticked, written_off}
pub use Rattle.node_machine.specs.Carrying.{after_turn, all_done, changed_if, commit, done, end_of_node, end_of_number, end_view, finds_room, first_lack, keeps}
pub use Rattle.node_machine.specs.Carrying.{lack, loses_power, needs, noted_of, notified, noting, own_side, own_view, plan_behind, port_at, spare_with, turn_at}
pub use Rattle.node_machine.specs.Carrying.{unless_cut, with_desk, with_port}
pub use Rattle.node_machine.specs.Controller.{about_at, agreed, answers_on, asked_at, asks_for, command_deeds, commit_deeds, controller_deeds, creation_deeds}
pub use Rattle.node_machine.specs.Controller.{creation_in, creation_of, decision_deeds, deeds_by_relay, event_deeds, gate_deeds, gates, goes_through, has_link}
pub use Rattle.node_machine.specs.Controller.{if_notice, is_asked_at, is_command_message, is_connected_at, kind_deeds, link_deeds, notice_deeds, own_deeds}
pub use Rattle.node_machine.specs.Controller.{own_gate, relay_deeds, relayed_to, served_at, unless_asking, unrelayed, view_for, view_of, waiting_pipes}
pub use Rattle.node_machine.specs.HostReplies.{accepts, gate_of_pipe, host_deeds, init_agreed, init_deeds, is_gate, is_same, is_welcome, learned, learns}
pub use Rattle.node_machine.specs.HostReplies.{ordered_deeds, orders_of, pipe_named_in, response_deeds}
pub use Rattle.node_machine.specs.Node.{NodeInput, after_sessions, all_come, all_owed, answers_and_passes, begins_with, boot_writes, forgets, forgotten, found}
pub use Rattle.node_machine.specs.Node.{has_come, input_at, is_forgotten, is_late, is_over, is_over_at, new_desk, older_notice, owed, reset_late, steps, synced}
pub use Rattle.node_machine.specs.Node.{times_out, told_at, told_late, with_error, with_older, without_notice}
pub use Rattle.node_machine.specs.Node.NodeInput.{AtEnd, TimePasses}
pub use Rattle.node_machine.specs.Orders.{IsOnOrder}
pub use Rattle.node_machine.specs.Parts.{About, Core, Creation, Deed, Desk, EndView, Init, NodeView, Notice, OwnView, Port, Running, Work}
pub use Rattle.node_machine.specs.Parts.About.{Forgotten, Removed, Waits}
pub use Rattle.node_machine.specs.Parts.Deed.{Asks, Commits, Drops, Ends, GoesOn, Hears, IsAnswered, Orders, Releases, SaysOk, Sends, SetsErrors, Tells}
pub use Rattle.node_machine.specs.Turns.{deeds_for, deeds_of, goes_through_ends, handles, have_turns, holds_back, lets_go, passes}
pub use Rattle.node_machine.specs.world.Lines.{LineOutcome, Occurrence, all_happen, can_happen, first_cause, frames_at, goes_on, happenings, happens_by}
pub use Rattle.node_machine.specs.world.Lines.{has_order, if_not_sent, if_off, if_waiting, line_step, machine_in, refusal_in, tables_told}
pub use Rattle.node_machine.specs.world.Lines.LineOutcome.{Occurred, ToldTables}
pub use Rattle.node_machine.specs.world.NodeFilters.{Book, aside_in, asking_after, asking_in, awaited_after, book_after, book_in, commands_in, is_connected_in}
pub use Rattle.node_machine.specs.world.NodeFilters.{is_notice, is_response, new_book, notice_in, order_in, session_now, spare_at, tables_in, unacknowledged_in}
pub use Rattle.node_machine.specs.world.NodeFilters.{was_refused, with_command, with_found}
pub use Rattle.node_machine.specs.world.NodeHistories.{FollowsNodes, LineStep, NodeHistory, entries_in, node_entries, occurrences_in, occurrences_of}
pub use Rattle.node_machine.specs.world.NodeHistories.{steps_from, world_after}
pub use Rattle.node_machine.specs.world.NodeLegal.{AreInTurn, FindsCommands, IsAllowedBy, Last, got_entry, last_after, last_in, node_number, since_boot}
pub use Rattle.node_machine.specs.world.NodeLegal.{turn_entry_at}
pub use Rattle.node_machine.specs.world.NodeLegal.Last.{CommandLast, CutBehindCommand, NothingYet}
pub use Rattle.node_machine.specs.world.Rounds.{end_takes_all, ends_in_order, ends_take_all, rounds_of_world, world_after_round}
pub use Rattle.node_machine.specs.world.World.{Happening, NodeWorld, Site, activates, after_controller, after_host, all_aged, arrival, beginning, boots}
pub use Rattle.node_machine.specs.world.World.{comes_at, comes_to, controller_cut, controller_does, controller_ticks, controller_work, counts, end_c, end_h}
pub use Rattle.node_machine.specs.world.World.{ending_of, frame_lost, frames_noted, host_cut, host_does, host_ticks, host_work, hosts_tick, input_of}
pub use Rattle.node_machine.specs.world.World.{is_late_at, link_after_controller, link_to, links_of, loses_power_at, memory_at, near_end_in, new_memory}
pub use Rattle.node_machine.specs.world.World.{new_site, new_world, node_at, node_of, port_for, runs_on, sending, site_at, ticked_so, turns_at, wires_for}
pub use Rattle.node_machine.specs.world.World.{with_memory, with_node, with_site, work_of, world_step, world_ticks}
pub use Rattle.node_machine.specs.world.World.Happening.{Activates, Arms, Boots, Gives, Inits, IsCut, Loses, Resets, Takes, Ticks, Ticks as TimePassing}
pub use Rattle.pipe_table.specs.PipeRows.{pid_of, pipe_at}
pub use Rattle.pipe_table.specs.declared.row.PipeRow.{PipeRow}
pub use Rattle.registry.proofs.ValueLemmas.{AllByRecursion-append, AllByRecursion-append as all_append, AllByRecursion-get}
pub use Rattle.registry.specs.Values.{is_kept, value_at}
pub use Rattle.shdlc_core.specs.Machine.{EndState, Session, Timed, frames_of, is_waiting, most_frames, new_end, no_session, nothing_ticked, reset_with}
pub use Rattle.shdlc_core.specs.Machine.{runs_timer, stopped, take_answer, taken, tick_answer, ticked, timed, with_ready}
pub use Rattle.shdlc_core.specs.declared.answers.LinkState.{LinkState}
pub use Rattle.shdlc_core.specs.declared.answers.LinkState.TheVariants.{Down as IsDown, Up, Up as IsUpNow, Waiting, Waiting as IsWaitingNow}
pub use Rattle.std.proofs.Common.{All, Bool, Contains, Err, IsSome, IsTrue, List, None, Ok, Option, Result, Some, [], ap, append-nil, append_assoc, ap₂, arith}
pub use Rattle.std.proofs.Common.{cond, drop, eq-eqb, eqb, eqb-true, false, filter, filter_map, find, flat_map, fold, get_or, if◌then◌else◌, inl, inr, is_none}
pub use Rattle.std.proofs.Common.{is_some, le-leb, le-ltb, leb, leb-false, leb-true, length, length-append, length-take, lt-ltb, ltb, ltb-false, ltb-true, map}
pub use Rattle.std.proofs.Common.{max, min, nat_le, nat_lt, ne_eqb, not, option_and_then, option_map, option_to_list, refl, replicate, slice_get, slice_index}
pub use Rattle.std.proofs.Common.{subst, suc, sym, take, take_while, true, true≢false, unwrap_or, zero, ℕ, ◌%◌, ◌&&◌, ◌*◌, ◌++◌, ◌+◌, ◌-◌, ◌/◌, ◌<◌, ◌==◌, ◌^◌}
pub use Rattle.std.proofs.Common.{◌||◌, ◌∙◌, ◌∷◌, ◌≡◌, ◌≤◌, ◌⊎◌}
pub use Rattle.std.proofs.lemmas.Bool.{and_from, and_parts, and_right, both_ways, cases_Bool, cases_eq, cond-false, cond-true, cond_both, eqb-false, not-false}
pub use Rattle.std.proofs.lemmas.Bool.{not-true, or_parts}
pub use Rattle.std.proofs.lemmas.List.{append_cancel_left, length-map, length-replicate, map-append}
pub use Rattle.std.proofs.lemmas.List.Concat.{flat_map-append}
pub use Rattle.std.proofs.lemmas.List.Elements.{filter_map-append}
pub use Rattle.std.proofs.lemmas.List.Folds.{list_any-append}
pub use Rattle.std.proofs.lemmas.List.Sums.{fold-append, take_while-cons}
pub use Rattle.std.specs.List.{AllByRecursion, cons_option, list_any, prefix_len, range_with_len}
pub use Rattle.std.specs.Option.{option_map_or}
pub use Rattle.swp_act.specs.Activation.{clf_step, new_clf, new_uicc, no_act_out, out_ticked, uicc_step}
pub use Rattle.swp_act.specs.declared.ActEvent.{ActEvent}
pub use Rattle.swp_act.specs.declared.ActEvent.TheVariants.{Start as ActStart, Stop as ActStop, Take as ActTake, Tick as ActTick}
pub use Rattle.swp_act.specs.declared.ActOut.{ActOut}
pub use Rattle.swp_act.specs.declared.Phase.{Phase}
pub use Rattle.swp_act.specs.declared.Phase.TheVariants.{Active as IsActive, Awaiting, Inactive}
pub use Rattle.swp_act.specs.declared.uicc.UiccAct.{UiccAct}
pub use Rattle.swp_base.specs.InMemory.{Memory, Plan, cycled, is_next, memory_after, plan_after, torn_bytes}
pub use Rattle.swp_base.specs.Outside.{one_more, overwritten}
pub use Rattle.swp_base.specs.declared.control_frames.Act.TheVariants.{PowerMode, Ready, SyncId}
pub use Rattle.swp_base.specs.declared.control_frames.Control.{Control}
pub use Rattle.swp_base.specs.declared.control_frames.Control.TheVariants.{Act, Act as ActFrame, Clt, I, Rset, S, Ua}
pub use Rattle.swp_base.specs.declared.link_terms.Cause.{Cause, Cause as EndedBy}
pub use Rattle.swp_base.specs.declared.link_terms.Cause.TheVariants.{Act as ByAct, Asked, Chain, NoAnswer}
pub use Rattle.swp_lpdu.specs.Controls.{LpduRow, is_within, kind_number, lpdu_of, lpdu_row_of, read_by, table}
pub use Rattle.tables_laws.proofs.gate.Decisions.{decided_as_allowed, decided_holds, new_row}
pub use Rattle.tables_laws.proofs.tables.SortedTables.{AreTables-apply, AreTables-close, AreTables-none}
pub use Rattle.tables_laws.specs.gate.Rules.{AsksAsAllowed, IsAskedFor}
pub use Rattle.tables_laws.specs.tables.Changes.{JoinTwo}
pub use Rattle.trace_model.specs.Ends.{other_end}
pub use Rattle.trace_model.specs.Lines.{IsHost, IsNodeHeader, IsNodeOf}
pub use Rattle.trace_model.specs.declared.entry.Entry.{Entry}
pub use Rattle.trace_model.specs.declared.entry.Entry.TheVariants.{AnyOk, Booted, Dropped, Held, InitFailed, InitMade, InitSame}
pub use Rattle.trace_model.specs.declared.entry.NoCause.{NoCause}
pub use Rattle.trace_model.specs.declared.line.End.{End}
pub use Rattle.trace_model.specs.declared.line.Header.{Header}
pub use Rattle.trace_model.specs.declared.line.Line.{Line}
pub use mathlib.Core.Bool.{and-false, and-true, or-false, or-true}
pub use Rattle.node_laws.proofs.All.{all_flat}
pub use Rattle.node_laws.proofs.Cases.{by_list, by_option, by_some, by_test}
pub use Rattle.node_laws.proofs.Counted.{by_counts, errors_all}
pub use Rattle.node_laws.proofs.Cut.{by_cut, left_running, runs_left, runs_none, unless_off, unless_on}
pub use Rattle.node_laws.proofs.Each.{all_changed, all_map, all_so, changed_same}
