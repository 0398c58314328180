-- The words of links, ends, entries and bare worlds that these proofs speak in, each from where it is at home.
pub use Rattle.hcp_packet.specs.Packets.{IsFrontOf, IsSendable, good_of}
pub use Rattle.history.specs.Damage.{Verdict}
pub use Rattle.history.specs.Filters.{Saying, acked_after, acked_in, at_end, got_in, got_in_session, said_of, same_end, sent_by, sent_in, session_after}
pub use Rattle.history.specs.Filters.{session_number, wire_after, wire_to}
pub use Rattle.history.specs.Filters.Saying.{Begins, Counts, Ends, Gets, Loses, Puts, Sends, Takes}
pub use Rattle.history.specs.Follows.{Follows, StepsFollow, causes_in, damage_causes, first_verdict, frames_to, host_of, link_after_line}
pub use Rattle.history.specs.Follows.{link_after_lines, link_at, machine_of, misread, opening_of, outcome_of, refusal, taken_of}
pub use Rattle.history.specs.Histories.{Cause, Event, History, Outcome, Step, all_entries, all_events, causes_of, entries_of, events_of, noted}
pub use Rattle.history.specs.Histories.Cause.{Given, Readied, Taken, Ticked, WasLost, WasReset}
pub use Rattle.history.specs.Histories.Outcome.{Caused, Refused}
pub use Rattle.history.specs.Legal.{AreReadUpTogether, Complete, IsComplete, IsDelivered, IsInOrder, IsReadQuiet, IsReadSettled, Legal, Prefix, Settled}
pub use Rattle.history.specs.Legal.{begins_on, has_lost, has_rnr, has_rset, is_chain_fault, is_rnr_lpdu, is_rset_lpdu, since_up, waits_after, waits_in}
pub use Rattle.history.specs.Steps.{at, bare_link, end_of, entries_for, entry_of, event_at, event_of, events_at, idle, link_after, link_after_all}
pub use Rattle.link_laws.proofs.entries.Books.{Book, read-append, same_far, same_self}
pub use Rattle.link_laws.proofs.entries.Hearing.{heard, session_up, up_session}
pub use Rattle.link_laws.proofs.entries.Quieting.{same_number}
pub use Rattle.link_laws.proofs.entries.Running.{Before, IsInTick, IsUnderWay, Noted as IsNoted, Sounds, after_tick, all_in_tick, at_each_moment, before_here}
pub use Rattle.link_laws.proofs.entries.Running.{before_there, comes_first, goes_on, host_here, host_in_tick, near_in_tick, near_of, note_event, own_in_tick}
pub use Rattle.link_laws.proofs.entries.Running.{sound_here, start_noted, start_under_way, without_tick}
pub use Rattle.link_laws.proofs.entries.Together.{AreActive, event_goes, ticks_host, together}
pub use Rattle.link_laws.proofs.machine.Runs.{Sound, opened}
pub use Rattle.link_laws.proofs.messages.Finishing.{first_none, none_out, reset_tells, reset_waits, restart_mid, step_tick, tick_closed, tick_open}
pub use Rattle.link_laws.proofs.messages.Runs.{Good, Reached, all_step, can_start, clf_starts, event_step, reached_more, rests_of, safe_reached, started_clf}
pub use Rattle.link_laws.proofs.messages.Runs.{step_here}
pub use Rattle.link_laws.specs.entries.Entries.{End as Side, Entry as Noted, aged_entries, entries, entries_of_events, event_entries, far, first_entries}
pub use Rattle.link_laws.specs.entries.Entries.{here_entries, if_so, input_entries, left_after, put_entries, puts_entries, rest_entries}
pub use Rattle.link_laws.specs.entries.Entries.{restart_entries, step_entries, taken_entries, tick_entries, told, told_of, trace, turn_entries, turn_entry}
pub use Rattle.link_laws.specs.entries.Entries.End.{Controller, Host}
pub use Rattle.link_laws.specs.entries.Entries.Entry.{Acked, Active, Cut, Down, Emit, GaveUp, Got, Lost, Restarted, Sent, Tick, Took, Up}
pub use Rattle.link_laws.specs.entries.Filters.{acked_noted as link_acked, got_noted as link_got, same_link_end, same_link_end as same_side}
pub use Rattle.link_laws.specs.entries.Filters.{sent_noted as link_sent}
pub use Rattle.link_laws.specs.entries.Order.{InOrderIn, is_noted_chain_fault as link_fault}
pub use Rattle.link_laws.specs.entries.Quiet.{IsDeliveredOnLink as LinkDelivered, IsQuietSince, begins, disturbs, since}
pub use Rattle.link_laws.specs.entries.Reading.{Seen, nothing_seen, numbered, see, see_all}
pub use Rattle.link_laws.specs.machine.Machine.{ActDue, LinkEnd, LinkInput, Message, Report, Role, Turn, act_answer, activated}
pub use Rattle.link_laws.specs.machine.Machine.{after_input, among, began_by, ended_by, frames_out, gave_up_by, if_up, is_open, moved}
pub use Rattle.link_laws.specs.machine.Machine.{new_link_end, renewed, report, reset_by, reset_refusal, took, turn, turned, whole_acked, window_of}
pub use Rattle.link_laws.specs.machine.Machine.LinkInput.{Take, Tick as HasTick}
pub use Rattle.link_laws.specs.messages.Links.{AllAllowed, AreOwn, AreSendableTurns, CanStart, EndEvent, Ending, IsAllowed, IsEvent, IsNode, IsOwn, IsStart}
pub use Rattle.link_laws.specs.messages.Links.{IsUicc, IsWindow, Link, LinkEvent, Node, NumberedEnd, after_link_events, aged, all_at_controller, becomes}
pub use Rattle.link_laws.specs.messages.Links.{exchanged, finished, happens, happens_at_controller, has_taken, number_of, put, silent, ticks_at_controller}
pub use Rattle.link_laws.specs.messages.Links.{with_ended}
pub use Rattle.link_laws.specs.messages.Links.Comes.{AsksReset, NextFrame, NoInput, Starts, Stops}
pub use Rattle.link_laws.specs.messages.Links.EndEvent.{Step as EndStep}
pub use Rattle.link_laws.specs.messages.Links.Ending.{CutOff, GoesOut}
pub use Rattle.link_laws.specs.messages.Links.IsStart.{IsBare}
pub use Rattle.link_laws.specs.messages.Links.LinkEvent.{AtController, AtHost, Ticks, TicksWithout}
pub use Rattle.link_laws.specs.messages.Projection.{core_event, core_of, core_turns}
pub use Rattle.link_laws.specs.sessions.Sessions.{OnWire, ShdlcTurn as CoreTurn, is_rset, older, shdlc_turn as core_turn, shdlc_turned as core_turned}
pub use Rattle.link_laws.specs.sessions.Sessions.{took_with}
pub use Rattle.shdlc_core.specs.Machine.{EndState, Fragment, due_left, fetched, frame_due, frames_of, is_waiting}
pub use Rattle.shdlc_core.specs.Machine.{most_frames, reset_with, stopped, tick_answer, ticked}
pub use Rattle.shdlc_core.specs.declared.answers.Due.{Due}
pub use Rattle.shdlc_core.specs.declared.answers.Due.TheVariants.{Rr as Rr_due, Rset as Rset_due}
pub use Rattle.std.proofs.Common.{Bool, List, None, Option, Some, [], ap, append_assoc, arith, drop, false, length, map, max, refl, replicate}
pub use Rattle.std.proofs.Common.{subst, suc, sym, take, true, zero, ℕ, ◌*◌, ◌++◌, ◌+◌, ◌-◌, ◌<◌, ◌∙◌, ◌∷◌, ◌≡◌, ◌≤◌}
pub use Rattle.std.proofs.lemmas.Bool.{le-leb, true≢false}
pub use Rattle.std.specs.List.{AllByRecursion, cons_option, flat_map, fold, list_any}
pub use Rattle.std.specs.Prelude.{Contains, if◌then◌else◌, is_some, nat_le, nat_lt, option_to_list, slice_index, unwrap_or, ◌&&◌, ◌==◌, ◌||◌}
pub use Rattle.swp_base.specs.declared.control_frames.Control.{Control}
pub use Rattle.swp_base.specs.declared.control_frames.Control.TheVariants.{Act, Clt, I, Rset, S, Ua}
pub use Rattle.swp_base.specs.declared.control_frames.Kind.TheVariants.{Rej, Rnr, Rr, Srej}
pub use Rattle.swp_base.specs.declared.link_terms.Cause.TheVariants.{Act as ByAct, Asked, Chain, NoAnswer, Peer}
pub use Rattle.swp_lpdu.specs.Controls.{HasNumbers, lpdu_of}
pub use Rattle.trace_model.specs.Ends.{other_end}
pub use Rattle.trace_model.specs.Lines.{IsEndOf, IsHeader, IsLineOf}
pub use Rattle.trace_model.specs.declared.entry.Entry.{Entry}
pub use Rattle.trace_model.specs.declared.entry.Entry.TheVariants.{No}
pub use Rattle.trace_model.specs.declared.entry.LostCause.TheVariants.{Full}
pub use Rattle.trace_model.specs.declared.entry.NoCause.{NoCause}
pub use Rattle.trace_model.specs.declared.entry.NoCause.TheVariants.{Beyond, Waiting}
pub use Rattle.trace_model.specs.declared.line.End.{End, End as NamedEnd}
pub use Rattle.trace_model.specs.declared.line.Header.{Header}
pub use Rattle.trace_model.specs.declared.line.Line.{Line}
pub use Rattle.trace_model.specs.declared.line.Line.TheVariants.{Busy, Damage, Deliver, Lose, Ready, Reset, Send}
