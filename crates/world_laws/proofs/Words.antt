-- The words of worlds, links, entries and rounds that these proofs speak in, each from where it is at home.
pub use Rattle.hcp_chain.specs.Joining.{are_taken, given_by}
pub use Rattle.hcp_packet.specs.Packets.{fragments_of, good_of, packet_bytes, packet_count, packets_in, packets_of, parts_of}
pub use Rattle.history.proofs.Leading.{events_in, lines_lead}
pub use Rattle.history.proofs.legal.Sessions.{AreOf, ArePlain, IsRun, controller_heard, host_heard, is_run, link_events, notes_of, of_allowed, of_can, of_front}
pub use Rattle.history.proofs.legal.Sessions.{of_steps, plain_trace, run_entries}
pub use Rattle.history.proofs.legal.Settled.{bytes_on, link_same, session-all, wire-controller, wire-host}
pub use Rattle.history.specs.Filters.{Saying, acked_in, said, same_end, same_side, sent_in, session_number}
pub use Rattle.history.specs.Follows.{Follows, StepsFollow, causes_in, frames_to, host_of, link_after_line, link_after_lines, outcome_of, refusal, taken_of}
pub use Rattle.history.specs.Histories.{Cause, Event, History, Step as HistoryStep, all_entries, all_events, causes_of, entries_of, events_of}
pub use Rattle.history.specs.Histories.Cause.{Given, Readied, Taken, Ticked, WasLost, WasReset}
pub use Rattle.history.specs.Histories.Outcome.{Caused}
pub use Rattle.history.specs.Steps.{bare_link, end_of, entries_for, entry_of, event_at, event_of, events_at, idle, link_after, link_after_all}
pub use Rattle.lines_told.proofs.fragments.Becomes.{sent_same}
pub use Rattle.lines_told.proofs.fragments.Law.{began}
pub use Rattle.lines_told.proofs.lines.Told.{again, alike, all-append, bare_comes_to_rest, bare_lines, bare_played_rounds, bare_rests, bare_round}
pub use Rattle.lines_told.proofs.lines.Told.{bare_round_goes, bare_round_lines, causes_on, lines-append, lines_may_be_played, link-append, nodes_come_to_rest}
pub use Rattle.lines_told.proofs.lines.Told.{nodes_rest, played_more, played_round, played_rounds, plays_for, plays_more, round_causes, round_first}
pub use Rattle.lines_told.proofs.lines.Told.{round_lines, rounds_for, takes_on, takes_so}
pub use Rattle.lines_told.proofs.messages.Law.{Known, after_events-append, allowed_parts, first_rest, fragments_counted, got_by_controller, got_by_host}
pub use Rattle.lines_told.proofs.messages.Law.{in_parts, known_after, open_up, rest_at_controller, rest_at_host}
pub use Rattle.lines_told.specs.fragments.Rounds.{AreUndisturbed, BothTakeFragments, undelivered}
pub use Rattle.lines_told.specs.lines.Below.{IsPlayedLine, bare_link_behind, is_settling, nodes_behind}
pub use Rattle.lines_told.specs.lines.Plays.{IsPlayFor, Play, lines_played, lines_played_of, plays_of, plays_of_line, round_behind, round_in, round_on}
pub use Rattle.lines_told.specs.lines.Plays.{rounds_to_rest, schedule_told, taking_in, taking_on}
pub use Rattle.lines_told.specs.lines.Plays.Play.{Round, Said}
pub use Rattle.lines_told.specs.messages.Recovery.{AllOrdinaryOnLink, AreLinkRounds, EarlierGot, IsLinkRound, IsLinkStretch, IsLinkUndisturbed}
pub use Rattle.lines_told.specs.messages.Recovery.{come_to_controller, come_to_host, fragments_left, times_among}
pub use Rattle.link_laws.proofs.entries.Hearing.{heard, heard-append, session_up, up_session}
pub use Rattle.link_laws.proofs.entries.Quieting.{same_number, taken_noted}
pub use Rattle.link_laws.proofs.entries.Running.{Before, IsUnderWay, before_here, before_there, goes_on, read_here, read_there, start_under_way}
pub use Rattle.link_laws.proofs.entries.Settling.{or_none}
pub use Rattle.link_laws.proofs.machine.Reports.{shdlc_is as shdlc_moved}
pub use Rattle.link_laws.proofs.machine.Runs.{Sound, opened}
pub use Rattle.link_laws.proofs.messages.Project.{Mid, Now, Says, Tells, among_now, beside-put_all, due_now, frames_now, host_ended, mid_moved, put-core}
pub use Rattle.link_laws.proofs.messages.Project.{ticked_keeps, turns_mid}
pub use Rattle.link_laws.proofs.messages.Finishing.{all_here-append, core_tick_rests, restart_mid, rests, step_tick, tick_closed, tick_open, tick_role}
pub use Rattle.link_laws.proofs.messages.Runs.{Good, Reached, all_step, allowed, can_start, clf_starts, core_starts, event_step, from_controller, from_host}
pub use Rattle.link_laws.proofs.messages.Runs.{own_here, own_turns, reached_more, rest_both, rests_of, safe_reached, seen, start_good, start_reached}
pub use Rattle.link_laws.proofs.messages.Runs.{started_clf, step_own, tells_same}
pub use Rattle.link_laws.proofs.messages.Steps.{ComesFirst, FromHost, Heard, Rests, act_mid, core_first, counted_is, heard_end, heard_is, is_shdlc, mid_counted}
pub use Rattle.link_laws.proofs.messages.Steps.{no_fault_first, polite, role_closes, tick_closes, took_closed, took_open}
pub use Rattle.link_laws.proofs.places.Joined.{changed, fetch_cases}
pub use Rattle.link_laws.proofs.sessions.Data.{Base, Below, IsAnswer, TakenUp, below_more, none_ended, taken_up}
pub use Rattle.link_laws.proofs.sessions.Hand.{IsRset, NothingIsOut, idle_out, nothing_out, rset_told, ua_told}
pub use Rattle.link_laws.proofs.sessions.Safe.{Safe, frame_cases, pair_from, session_with}
pub use Rattle.link_laws.proofs.sessions.Sending.{SafeLink, at_most_one, controls, controls_same, frames_in_order, phase_known, put_all-append, ready_by, room}
pub use Rattle.link_laws.proofs.sessions.Steps.{act_not_rset, counts, not_rset, passes, passes_act, safe_aged, safe_event, safe_exchanged, safe_start}
pub use Rattle.link_laws.proofs.sessions.Steps.{safe_turn, safe_turns, tick_if_waiting, tick_or_cut, took_other}
pub use Rattle.link_laws.proofs.sessions.Wire.{IsData, live, rsets, uas}
pub use Rattle.link_laws.specs.entries.Entries.{End as Side, Entry as Noted, aged_entries, entries, entries_of_events, event_entries, far, first_entries}
pub use Rattle.link_laws.specs.entries.Entries.{first_lost, here_entries, if_so, left_after, pushed_out, put_entries, puts_entries, rest_entries}
pub use Rattle.link_laws.specs.entries.Entries.{restart_entries, step_entries, taken_entries, tick_entries, told, told_of, trace, turn_entries, turn_entry}
pub use Rattle.link_laws.specs.entries.Entries.{wire_with}
pub use Rattle.link_laws.specs.entries.Entries.End.{Controller, Host}
pub use Rattle.link_laws.specs.entries.Entries.Entry.{Acked, Active, Cut, GaveUp, Got, Lost, Restarted, Up as NotedUp}
pub use Rattle.link_laws.specs.entries.Sessions.{IsRead, number_now}
pub use Rattle.link_laws.specs.machine.Machine.{LinkEnd, LinkInput, Message, Report, Role, Turn, act_answer, activated, after_input}
pub use Rattle.link_laws.specs.machine.Machine.{began_by, deactivated, ended_by, frames_out, got_by, if_up, is_faulty, is_held, is_open}
pub use Rattle.link_laws.specs.machine.Machine.{messages_got, moved, new_link_end, news, renewed, report, reset_by, reset_refusal}
pub use Rattle.link_laws.specs.machine.Machine.{sent_all, started, took, turn, turned, whole_acked, whole_among, window_of}
pub use Rattle.link_laws.specs.machine.Machine.LinkInput.{Reset, Start, Stop, Take, Tick, Tick as HasTick}
pub use Rattle.link_laws.specs.machine.Machine.Role.{Clf, Uicc}
pub use Rattle.link_laws.specs.machine.Machine.Turn.{FetchMessage, Give, Hold, Release, SetAside}
pub use Rattle.link_laws.specs.messages.Links.{AllAllowed, AreOwn, AreSendableTurns, CanStart, Comes, EndEvent, Ending, IsAllowed, IsEvent, IsNode, IsOwn}
pub use Rattle.link_laws.specs.messages.Links.{IsStart, IsUicc, Link, LinkEvent, Loss, Node, NumberedEnd, Talk, after_link_events, aged, all_at_controller}
pub use Rattle.link_laws.specs.messages.Links.{becomes, exchanged, finished, happens, happens_at_controller, number_of, put, silent, steps_at_controller}
pub use Rattle.link_laws.specs.messages.Links.{talk_now, talk_of, ticks_at_controller, with_ended}
pub use Rattle.link_laws.specs.messages.Links.Comes.{AsksReset, NextFrame, NoInput, Starts, Stops}
pub use Rattle.link_laws.specs.messages.Links.EndEvent.{Lose, Step, Step as EndStep}
pub use Rattle.link_laws.specs.messages.Links.Ending.{CutOff, GoesOut}
pub use Rattle.link_laws.specs.messages.Links.IsStart.{IsBare, IsLine}
pub use Rattle.link_laws.specs.messages.Links.LinkEvent.{Activate, AtController, AtHost, Ticks, TicksWithout}
pub use Rattle.link_laws.specs.messages.Links.Loss.{Broken, TooMany}
pub use Rattle.link_laws.specs.messages.Projection.{core_all, core_ending, core_event, core_events, core_here, core_of, core_reset, core_restart, core_step}
pub use Rattle.link_laws.specs.messages.Projection.{core_take, core_tick, core_tick_rest, core_turns}
pub use Rattle.link_laws.specs.messages.Rest.{after_steps, is_clear, link_rests}
pub use Rattle.link_laws.specs.sessions.Losses.{Losses, came_up, is_act, loses_aged, no_losses, noted_aged, noted_all, noted_event}
pub use Rattle.link_laws.specs.sessions.Losses.{noted_here, noted_loss, noted_tick, noted_turns, overflows, sans}
pub use Rattle.link_laws.specs.sessions.Sessions.{AllShdlcAllowed, AreTurns, AreTurns as CoreAreTurns, IsShdlcStart, IsTurn, NumberedShdlc}
pub use Rattle.link_laws.specs.sessions.Sessions.{NumberedShdlc as CoreEnd, OnWire, ShdlcEndEvent, ShdlcEndEvent as CoreEndEvent, ShdlcLink}
pub use Rattle.link_laws.specs.sessions.Sessions.{ShdlcLink as CoreLink, ShdlcLinkEvent, ShdlcLinkEvent as CoreLinkEvent, ShdlcTurn, ShdlcTurn as CoreTurn}
pub use Rattle.link_laws.specs.sessions.Sessions.{act_frame, aged_wire, ended_session, fits, is_rset, is_up, shdlc_after, shdlc_after as core_after, shdlc_aged}
pub use Rattle.link_laws.specs.sessions.Sessions.{shdlc_aged as core_aged, shdlc_all_at_controller, shdlc_all_at_controller as core_all_here, shdlc_becomes}
pub use Rattle.link_laws.specs.sessions.Sessions.{shdlc_exchanged, shdlc_exchanged as core_exchanged, shdlc_happens, shdlc_happens as core_happens}
pub use Rattle.link_laws.specs.sessions.Sessions.{shdlc_happens_at_controller, shdlc_happens_at_controller as core_happens_here, shdlc_number_of}
pub use Rattle.link_laws.specs.sessions.Sessions.{shdlc_number_of as core_number_of, shdlc_put, shdlc_put_all, shdlc_session_of, shdlc_silent as core_silent}
pub use Rattle.link_laws.specs.sessions.Sessions.{shdlc_ticks_at_controller, shdlc_ticks_at_controller as core_ticks_here, shdlc_turn, shdlc_turned}
pub use Rattle.link_laws.specs.sessions.Sessions.{shdlc_turned as core_turned, ticks_if_waiting, ticks_if_waiting as core_ticks_if_waiting, ticks_or_cut}
pub use Rattle.link_laws.specs.sessions.Sessions.{ticks_or_cut as core_ticks_or_cut, took_with, with_shdlc_ended}
pub use Rattle.link_laws.specs.sessions.Sessions.ShdlcEndEvent.{Acts, Acts as CoreActs, Deliver as CoreDeliver, Ignore, Ignore as CoreIgnore}
pub use Rattle.link_laws.specs.sessions.Sessions.ShdlcEndEvent.{Lose as CoreLose, Reset as CoreReset, Stop as CoreStop, Turns, Turns as CoreTurns}
pub use Rattle.link_laws.specs.sessions.Sessions.ShdlcLinkEvent.{AtController as CoreAtController, AtHost as CoreAtHost, Tick as CoreTick, TickWithout}
pub use Rattle.link_laws.specs.sessions.Sessions.ShdlcLinkEvent.{TickWithout as CoreTickWithout}
pub use Rattle.node_laws.proofs.Cases.{by_list, by_option, by_test}
pub use Rattle.node_laws.proofs.links.Worlds.{IsFineSite, so_host}
pub use Rattle.node_laws.proofs.order.Lines.{IsSo, IsStrange, history_so, host_number, hosts_stay_behind, next_so, step_kept}
pub use Rattle.node_laws.proofs.order.Sessions.{are_read, far_now, near_now, read_off, up_far, up_near}
pub use Rattle.node_laws.proofs.order.Watches.{AreUnstarted, no_cut}
pub use Rattle.node_laws.proofs.order.Wires.{clear_unstarted, tick_unstarted}
pub use Rattle.node_laws.proofs.reply_passes.Held.{desks_held, error_held, is_held_among, ports_held}
pub use Rattle.node_laws.proofs.rounds.Allowing.{ArePassing, after_causes, all_go, allowed-append, bare_round_allowed, changed_site, ends_allowed, ends_go}
pub use Rattle.node_laws.proofs.rounds.Allowing.{fine_there, map-replicate, on_allowed, round_allowed, round_goes, rounds_allowed, rounds_go, site_map}
pub use Rattle.node_laws.proofs.rounds.Allowing.{take_one, takes_allowed, takes_go, takes_pass, ticks_go, world_ticked}
pub use Rattle.node_laws.proofs.schedules.Ranges.{IsFewWires, after_few, hosts_are, playable, run_few}
pub use Rattle.node_laws.proofs.telling.Accounts.{untold}
pub use Rattle.node_laws.proofs.telling.Events.{comes_goes, controller_stands, controller_tells, entries-append, given, host_does_step, link_is, node_is}
pub use Rattle.node_laws.proofs.telling.Events.{orderly_map, site_host, site_is, stands, swapped}
pub use Rattle.node_laws.proofs.telling.Lasting.{AllHold, AnyLine, all_lines, behind_lines, boots_may, events_of_steps, front_holds, lines_hold, step_orderly}
pub use Rattle.node_laws.proofs.telling.WorldTicks.{Ticking, between, between_far, near_orderly, near_turns, tick_event, ticking}
pub use Rattle.node_laws.specs.kept.Hosts.{AreHosts}
pub use Rattle.node_laws.specs.links.Notices.{IsComing, IsOutside}
pub use Rattle.node_laws.specs.links.Runs.{ArePlayable, new_line}
pub use Rattle.node_laws.specs.order.Resets.{cuts_on}
pub use Rattle.node_laws.specs.order.Told.{AreReadOff, AreSessionsRead, AreUpWith, IsLinkTold, IsReadOff}
pub use Rattle.node_laws.specs.passes.Passing.{is_held_at, lacking, waiting_at}
pub use Rattle.node_laws.specs.rounds.BareRounds.{causes_of_round, causes_of_rounds, link_after_round}
pub use Rattle.node_laws.specs.rounds.LinkEvents.{GoesOnLink, controller_takes, controller_tick_on, link_events_in, site_takes, site_ticks, tick_so, ticks_on}
pub use Rattle.node_laws.specs.rounds.RoundEvents.{ends_events, events_on, round_events, rounds_events}
pub use Rattle.node_laws.specs.rsets.Causes.{happened_in, world_ticks_in}
pub use Rattle.node_laws.specs.telling.Standing.{Standing, StandsOf, standing, standing_by_law}
pub use Rattle.node_laws.specs.telling.Telling.{HasEnds, IfItRuns, IfOff, IsOrderly, MayBoot, TellOf, hosts_in, is_of, of_link, tells_of, world_behind}
pub use Rattle.node_machine.proofs.world.Cases.{after_host_step, after_tick, boot_found, boot_written, by_boot, by_coming, by_controller, by_controller_tick}
pub use Rattle.node_machine.proofs.world.Cases.{by_host, by_host_tick, by_loss, by_memory, by_power, by_running, host_tick, near_tick, site_lost, site_ticked}
pub use Rattle.node_machine.proofs.world.Cases.{site_unticked}
pub use Rattle.node_machine.specs.Carrying.{after_turn, all_done, changed_if, done, end_of_node, notified, noting, port_at, turn_at, unless_cut}
pub use Rattle.node_machine.specs.Carrying.{with_desk, with_port}
pub use Rattle.node_machine.specs.Node.{NodeInput, after_sessions, all_come, all_owed, begins_with, boot_writes, forgets, forgotten, has_come, input_at}
pub use Rattle.node_machine.specs.Node.{is_forgotten, is_over, reset_late, steps, synced, times_out, with_older, without_notice}
pub use Rattle.node_machine.specs.Node.NodeInput.{AtEnd, TimePasses}
pub use Rattle.node_machine.specs.Parts.{About, Deed, Desk, Port, Running, Work}
pub use Rattle.node_machine.specs.world.Lines.{LineOutcome, Occurrence, all_happen, can_happen, frames_at, happenings, is_running, line_step, refusal_in}
pub use Rattle.node_machine.specs.world.NodeHistories.{FollowsNodes, LineStep, NodeHistory, NoneIsMisread, entries_in, node_entries, occurrences_in}
pub use Rattle.node_machine.specs.world.NodeHistories.{occurrences_of, steps_from, world_after}
pub use Rattle.node_machine.specs.world.Rounds.{end_takes_all, ends_in_order, ends_take_all, rounds_of_world, sites_rest, world_after_round, world_rests}
pub use Rattle.node_machine.specs.world.Rounds.{world_round, world_rounds_to_settle, world_settling}
pub use Rattle.node_machine.specs.world.World.{Happening, NodeWorld, Site, after_controller, after_host, all_aged, arrival, beginning, boots, comes_at}
pub use Rattle.node_machine.specs.world.World.{comes_to, controller_does, controller_ticks, controller_work, end_c, end_h, ending_of, frame_lost, host_cut}
pub use Rattle.node_machine.specs.world.World.{host_does, host_ticks, host_work, hosts_tick, input_of, is_late_at, link_after_controller, link_to}
pub use Rattle.node_machine.specs.world.World.{loses_power_at, memory_at, near_end_in, new_site, new_world, node_at, node_of, runs_on, sending, site_at}
pub use Rattle.node_machine.specs.world.World.{ticked_so, turns_at, with_memory, with_node, with_site, work_of, world_step, world_ticks}
pub use Rattle.node_machine.specs.world.World.Happening.{Activates, Arms, Boots, Gives, Inits, IsCut, Resets, Takes, Ticks as TimePassing}
pub use Rattle.shdlc_core.proofs.Histories.{fragment_due-within}
pub use Rattle.shdlc_core.specs.Machine.{EndState, Fragment, Session, after_frames, asked_again, control_due, expected, fetched, fragment_due, frame_due}
pub use Rattle.shdlc_core.specs.Machine.{frames_of, given_up, is_waiting, most_frames, new_end, new_session, no_session, put_out, reset_with, runs_timer}
pub use Rattle.shdlc_core.specs.Machine.{sent_again, sent_next, stopped, take_answer, taken, tick_answer, ticked, up_with, waiting_from}
pub use Rattle.shdlc_core.specs.declared.answers.Due.{Due}
pub use Rattle.shdlc_core.specs.declared.answers.Due.TheVariants.{Rej as Rej_due, Rnr as Rnr_due, Rr as Rr_due, Rset as Rset_due, Ua as Ua_due}
pub use Rattle.shdlc_core.specs.declared.answers.LinkState.{LinkState}
pub use Rattle.shdlc_core.specs.declared.answers.LinkState.TheVariants.{Down, Down as IsDown, Up, Up as IsUpNow, Waiting}
pub use Rattle.std.proofs.Common.{Bool, List, None, Ok, Option, Some, [], ap, append-nil, append_assoc, ap₂, arith, cond, drop, false, flat_map, fold}
pub use Rattle.std.proofs.Common.{if◌then◌else◌, inl, inr, is_some, length, length-append, length-take, length-take-le, lt-ltb}
pub use Rattle.std.proofs.Common.{ltb-false, ltb-true, map, max, min, nat_le, nat_lt, not, refl, replicate, slice_get, subst, suc, sym, take, true, unwrap_or}
pub use Rattle.std.proofs.Common.{zero, ℕ, ◌%◌, ◌&&◌, ◌*◌, ◌++◌, ◌+◌, ◌-◌, ◌/◌, ◌<◌, ◌==◌, ◌||◌, ◌∙◌, ◌∷◌, ◌≡◌, ◌≤◌, ◌⊎◌}
pub use Rattle.std.proofs.Math.Seq.{drop-append_seam}
pub use Rattle.std.proofs.lemmas.Bool.{and_parts, cases_eq, cases_lt, eq-eqb, eqb-true, ne_eqb, or_parts, true≢false}
pub use Rattle.std.proofs.lemmas.List.{length-map, length-replicate, map-append, take-append-le}
pub use Rattle.std.proofs.lemmas.List.Concat.{flat_map-append}
pub use Rattle.std.proofs.lemmas.List.Folds.{list_any-append}
pub use Rattle.std.specs.List.{AllByRecursion, cons_option, filter_map, list_any}
pub use Rattle.std.specs.Option.{option_map_or}
pub use Rattle.std.specs.Prelude.{option_to_list}
pub use Rattle.swp_act.specs.Activation.{new_clf, new_uicc}
pub use Rattle.swp_act.specs.declared.ActEvent.{ActEvent}
pub use Rattle.swp_act.specs.declared.ActEvent.TheVariants.{Start as ActStart, Stop as ActStop, Take as ActTake, Tick as ActTick}
pub use Rattle.swp_base.specs.declared.control_frames.Act.{Act as Activation}
pub use Rattle.swp_base.specs.declared.control_frames.Control.{Control}
pub use Rattle.swp_base.specs.declared.control_frames.Control.TheVariants.{Act, Clt, I, Rset, S, Ua}
pub use Rattle.swp_base.specs.declared.control_frames.Kind.{Kind}
pub use Rattle.swp_base.specs.declared.control_frames.Kind.TheVariants.{Rej, Rnr, Rr, Srej}
pub use Rattle.swp_base.specs.declared.link_terms.Cause.TheVariants.{Asked}
pub use Rattle.swp_lpdu.specs.Controls.{control_of, lpdu_of}
pub use Rattle.tap_reading.specs.Lpdus.{frames_read, tapped_lpdus}
pub use Rattle.tap_reading.specs.Tap.{TapReport, TapSide, TapState, adds, counted_at, is_in_session, listed_at, new_tap, news_behind, reports_to}
pub use Rattle.tap_reading.specs.Tap.{tap_after, tap_after_frame, tap_exchanged, tap_hears, tap_reports, tap_tells, tapped, tapped_from, tells_more, told_by}
pub use Rattle.tap_reading.specs.Tap.{with_fragment, with_number}
pub use Rattle.trace_model.specs.Lines.{IsEndOf, IsHeader, IsLineOf, IsNodeHeader, MayBegin, MayFollow}
pub use Rattle.trace_model.specs.declared.entry.Entry.{Entry}
pub use Rattle.trace_model.specs.declared.entry.Entry.TheVariants.{AnyOk, Echo, Emit, Head, Sent, Settled, Took}
pub use Rattle.trace_model.specs.declared.line.End.{End}
pub use Rattle.trace_model.specs.declared.line.Header.{Header}
pub use Rattle.trace_model.specs.declared.line.Line.{Line}
pub use Rattle.trace_model.specs.declared.line.Line.TheVariants.{Busy, Deliver, Send, Settle}
pub use Rattle.world_laws.specs.entries.Hearing.{frames_heard, gots_noted, is_bare, is_clf, is_cut, lpdus_heard}
pub use Rattle.world_laws.specs.fragments.Emitted.{AllKeepPower, HasItsTick, KeepsPower, NoneIsCut, brought_by, emitted, emitted_event, emitted_here}
pub use Rattle.world_laws.specs.fragments.Emitted.{emitted_if_waiting, emitted_tick, emitted_turns, frames_by, got, got_event, got_here, got_turns, got_with}
pub use Rattle.world_laws.specs.fragments.Emitted.{hears_all, sent_then, tells_all}
pub use Rattle.world_laws.specs.fragments.Knowing.{IsTrackedBy, StartsSo}
pub use Rattle.world_laws.specs.histories.Tapping.{got_on, gots_on, lpdus_on, put_on}
pub use Rattle.world_laws.specs.links.Resting.{IsEndQuiet, IsLinkQuiet, LinkBrought}
pub use Rattle.world_laws.specs.links.RoundCauses.{AreRoundCauses, times_ticked}
pub use Rattle.world_laws.specs.links.Settling.{rounds_to_settle, settling_causes, settling_events}
pub use Rattle.world_laws.specs.worlds.Brought.{AreBothUpIn, BothBrought, HasBrought}
pub use Rattle.world_laws.specs.worlds.LinkSettled.{LinkSettled}
pub use Rattle.world_laws.specs.worlds.NotedFragments.{fragments_noted, fragments_unacked}
pub use Rattle.world_laws.specs.worlds.RoundCauses.{AllCanHappen, AreFewOnWires, AreOfRounds, IsOfRound, IsTakeOrTick, world_round_causes}
pub use Rattle.world_laws.specs.worlds.RoundCauses.{world_settling_causes}
pub use Rattle.world_laws.specs.worlds.Undisturbed.{AreBothReady, AreLeftReady, ArePoweredNotes, AreReadyThroughout, AreUndisturbedNotes, AreUnheldNotes}
pub use Rattle.world_laws.specs.worlds.Undisturbed.{busy_after, ends_on, entries_since, has_ended, is_held_on, is_left_busy}
