-- The words of links and their ends that these proofs speak in, each from where it is at home.
pub use Rattle.hcp_chain.specs.Joining.{are_taken, given_by, join_step}
pub use Rattle.hcp_packet.proofs.Joining.{packets_are_counted}
pub use Rattle.hcp_packet.specs.Packets.{AreSendable, IsFrontOf, IsSendable, fragments_of, good_messages_of, good_of, is_good, packet_bytes, packet_count}
pub use Rattle.hcp_packet.specs.Packets.{packet_of, packets_in, packets_of}
pub use Rattle.hcp_packet.specs.declared.Packet.{Packet}
pub use Rattle.link_laws.specs.entries.Entries.{End, Entry, aged_entries, ending_entries, entries, entries_of_events, event_entries, far, first_entries}
pub use Rattle.link_laws.specs.entries.Entries.{first_lost, here_entries, if_so, input_entries, left_after, pushed_out, put_entries, puts_entries, rest_entries}
pub use Rattle.link_laws.specs.entries.Entries.{restart_entries, sent_unless, step_entries, taken_entries, tick_entries, told, told_of, trace, turn_entries}
pub use Rattle.link_laws.specs.entries.Entries.{turn_entry, wire_with}
pub use Rattle.link_laws.specs.entries.Entries.End.{Controller, Host}
pub use Rattle.link_laws.specs.entries.Entries.Entry.{Acked, Active, Cut, Emit, GaveUp, Got, Lost, Restarted, Sent, Took}
pub use Rattle.link_laws.specs.entries.Filters.{acked_noted, got_noted, sent_noted}
pub use Rattle.link_laws.specs.entries.Order.{InOrderIn}
pub use Rattle.link_laws.specs.entries.Quiet.{IsQuietSince, disturbs, since}
pub use Rattle.link_laws.specs.entries.Reading.{Seen, kept, see, see_all}
pub use Rattle.link_laws.specs.entries.Sessions.{IsRead, number_now, session_in}
pub use Rattle.link_laws.specs.entries.Settled.{IsSettledSince, withholds}
pub use Rattle.link_laws.specs.machine.Laws.{AreSendableInputs, end_after, is_shdlc}
pub use Rattle.link_laws.specs.machine.Machine.{ActDue, LinkEnd, LinkInput, Message, Refused, Report, Role, Turn, act_answer, activated, after_input}
pub use Rattle.link_laws.specs.machine.Machine.{after_inputs, among, aside_refusal, began_by, deactivated, ended_by, ended_by_act, ended_by_frame}
pub use Rattle.link_laws.specs.machine.Machine.{frame_fetched, frames_out, give_refusal, given, had_tick, heard, if_up, in_front, in_use, is_faulty, is_open}
pub use Rattle.link_laws.specs.machine.Machine.{messages_got, moved, nearer, need, need_of_all, new_link_end, news, next_frame, put_down, renewed, report}
pub use Rattle.link_laws.specs.machine.Machine.{reset_by, reset_refusal, role_after, sent_all, spare, started, took, turn, turned, whole_acked, whole_among}
pub use Rattle.link_laws.specs.machine.Machine.{window_of, with_act}
pub use Rattle.link_laws.specs.machine.Machine.LinkInput.{Fetch, FromNode, Reset, Start, Stop, Take, TakeBroken, TakeUnknown, Tick as HasTick}
pub use Rattle.link_laws.specs.machine.Machine.Role.{Bare, Clf, Uicc}
pub use Rattle.link_laws.specs.machine.Machine.Turn.{FetchMessage, Give, Hold, Release, SetAside}
pub use Rattle.link_laws.specs.messages.Links.{AllAllowed, AreOwn, AreSendableTurns, CanEnd, CanStart, Comes, EndEvent, Ending, IfLine, IsAllowed, IsClf}
pub use Rattle.link_laws.specs.messages.Links.{IsEvent, IsNode, IsOwn, IsStart, IsUicc, Link, LinkEvent, Loss, Node, NumberedEnd, Talk, after_link_events, aged}
pub use Rattle.link_laws.specs.messages.Links.{all_at_controller, becomes, cut, ended_talk, exchanged, finished, happens, happens_at_controller, has_input}
pub use Rattle.link_laws.specs.messages.Links.{has_restarted, has_taken, new_link, new_numbered_end, no_talk, number_of, put, put_all, silent}
pub use Rattle.link_laws.specs.messages.Links.{steps_at_controller, talk_now, talk_of, ticks_at_controller, with_controller, with_ended}
pub use Rattle.link_laws.specs.messages.Links.Comes.{AsksReset, NextFrame, NoInput, Starts, Stops}
pub use Rattle.link_laws.specs.messages.Links.EndEvent.{Lose, Step}
pub use Rattle.link_laws.specs.messages.Links.Ending.{CutOff, GoesOut}
pub use Rattle.link_laws.specs.messages.Links.IsStart.{IsBare, IsLine}
pub use Rattle.link_laws.specs.messages.Links.LinkEvent.{Activate, AtController, AtHost, Ticks, TicksWithout}
pub use Rattle.link_laws.specs.messages.Links.Loss.{OnDemand, TooMany, TooOld}
pub use Rattle.link_laws.specs.messages.Order.{InOrder}
pub use Rattle.link_laws.specs.messages.Projection.{core_all, core_end, core_ending, core_event, core_events, core_here, core_of, core_past, core_reset}
pub use Rattle.link_laws.specs.messages.Projection.{core_step, core_take, core_tick, core_tick_rest, core_turns, is_lost_tick}
pub use Rattle.link_laws.specs.messages.Quiet.{AllDelivered, IsQuiet, losses_of}
pub use Rattle.link_laws.specs.messages.Rsets.{rset_causes_in, rsets_among, rsets_due}
pub use Rattle.link_laws.specs.messages.Settled.{AreUpTogether as LinkTogether}
pub use Rattle.link_laws.specs.places.Order.{FragmentsDelivered, FragmentsInOrder as CoreInOrder}
pub use Rattle.link_laws.specs.places.Wire.{is_rnr, with_frame}
pub use Rattle.link_laws.specs.sending.Sending.{AreShort}
pub use Rattle.link_laws.specs.sessions.Losses.{IsShdlcQuiet, Losses, came_up, counts_first, is_act, is_up_with, loses_aged, losses_after, no_losses}
pub use Rattle.link_laws.specs.sessions.Losses.{noted_aged, noted_all, noted_event, noted_here, noted_if_waiting, noted_loss, noted_out, noted_tick}
pub use Rattle.link_laws.specs.sessions.Losses.{noted_turns, overflows, sans}
pub use Rattle.link_laws.specs.sessions.Sessions.{AllShdlcAllowed, AreTurns, IsShdlcAllowed as CoreIsAllowed, IsShdlcStart, IsTurn, NumberedShdlc, OnWire}
pub use Rattle.link_laws.specs.sessions.Sessions.{ShdlcEndEvent as CoreEndEvent, ShdlcLink as CoreLink, ShdlcLinkEvent, ShdlcTurn as CoreTurn, act_frame}
pub use Rattle.link_laws.specs.sessions.Sessions.{aged_wire, ended_session, fits, is_rset, is_up, older, shdlc_after as core_after, shdlc_aged as core_aged}
pub use Rattle.link_laws.specs.sessions.Sessions.{shdlc_all_at_controller as core_all_here, shdlc_becomes, shdlc_exchanged, shdlc_happens}
pub use Rattle.link_laws.specs.sessions.Sessions.{shdlc_happens_at_controller as core_happens_here, shdlc_number_of, shdlc_put, shdlc_put_all, shdlc_session_of}
pub use Rattle.link_laws.specs.sessions.Sessions.{shdlc_silent, shdlc_ticks_at_controller, shdlc_turn, shdlc_turned as core_turned, start, start_down}
pub use Rattle.link_laws.specs.sessions.Sessions.{ticks_if_waiting as core_ticks_if_waiting, ticks_or_cut as core_ticks_or_cut, took_with}
pub use Rattle.link_laws.specs.sessions.Sessions.{with_shdlc_controller, with_shdlc_ended as core_with_ended}
pub use Rattle.link_laws.specs.sessions.Sessions.IsShdlcStart.{BothDown, BothUp}
pub use Rattle.link_laws.specs.sessions.Sessions.ShdlcEndEvent.{Acts as CoreActs, Deliver as CoreDeliver, Ignore, Lose as CoreLose, Reset as CoreReset}
pub use Rattle.link_laws.specs.sessions.Sessions.ShdlcEndEvent.{Stop as CoreStop, Turns}
pub use Rattle.link_laws.specs.sessions.Sessions.ShdlcLinkEvent.{AtController as CoreAtController, AtHost as CoreAtHost, Tick, TickWithout}
pub use Rattle.link_laws.specs.sessions.Sessions.ShdlcTurn.{Offer, SetReady}
pub use Rattle.link_laws.specs.sessions.Settled.{AreShdlcUpTogether as CoreAreUpTogether, IsShdlcSettled, sure_after, sure_aged, sure_all, sure_event}
pub use Rattle.link_laws.specs.sessions.Settled.{sure_here, sure_if_waiting, sure_out, sure_put, sure_tick, sure_turns}
pub use Rattle.shdlc_core.proofs.Histories.{fragment_due-within, received-phase, received-sending}
pub use Rattle.shdlc_core.specs.Machine.{EndState, Fragment, Session, accepted, acknowledged, after_frames, ahead, asked_again, begun, control_due, discarded}
pub use Rattle.shdlc_core.specs.Machine.{due_left, expected, fetched, fragment_due, frame_due, frames_of, given_up, is_waiting, made_busy, most_frames, new_end}
pub use Rattle.shdlc_core.specs.Machine.{new_session, no_session, place_of, put_out, ready_again, received, rejected, repeated, reset_with, runs_timer}
pub use Rattle.shdlc_core.specs.Machine.{sent_again, sent_next, stopped, take_answer, taken, tick_answer, ticked, up_with, waiting_from, with_ready}
pub use Rattle.shdlc_core.specs.declared.answers.Due.{Due}
pub use Rattle.shdlc_core.specs.declared.answers.Due.TheVariants.{Rej as Rej_due, Rnr as Rnr_due, Rr as Rr_due, Rset as Rset_due, Ua as Ua_due}
pub use Rattle.shdlc_core.specs.declared.answers.LinkState.{LinkState}
pub use Rattle.shdlc_core.specs.declared.answers.LinkState.TheVariants.{Down, Up, Waiting}
pub use Rattle.std.proofs.Common.{Bool, List, None, Option, Some, [], ap, append-nil, append_assoc, arith, cond, drop, false, inl, inr, length, length-append}
pub use Rattle.std.proofs.Common.{map, min, refl, subst, suc, sym, take, true, zero, ℕ, ⊎_elim, ◌%◌, ◌++◌, ◌+◌, ◌-◌, ◌<◌, ◌||◌, ◌∙◌, ◌∷◌, ◌≡◌, ◌≤◌, ◌⊎◌}
pub use Rattle.std.proofs.lemmas.Bool.{and_parts, cases_lt, eq-eqb, eqb-true, leb-false, lt-ltb, ltb-false, ltb-true, ne_eqb, not-true, or_parts, true≢false}
pub use Rattle.std.proofs.lemmas.Grind.{common_steps}
pub use Rattle.std.proofs.lemmas.List.{length-map}
pub use Rattle.std.proofs.lemmas.List.Concat.{flat_map-append}
pub use Rattle.std.proofs.lemmas.List.Elements.{filter-append, filter_map-append}
pub use Rattle.std.proofs.lemmas.Option.{slice_get_within}
pub use Rattle.std.specs.List.{list_any}
pub use Rattle.std.specs.Prelude.{IsTrue, if◌then◌else◌, is_some, max, nat_le, nat_lt, not, option_to_list, slice_get, ◌&&◌, ◌==◌}
pub use Rattle.swp_act.specs.Activation.{is_active, new_clf, new_uicc}
pub use Rattle.swp_act.specs.declared.ActEvent.{ActEvent}
pub use Rattle.swp_act.specs.declared.ActEvent.TheVariants.{Start as ActStart, Stop as ActStop, Take as ActTake, Tick as ActTick}
pub use Rattle.swp_act.specs.declared.ActOut.{ActOut}
pub use Rattle.swp_act.specs.declared.Phase.{Phase}
pub use Rattle.swp_act.specs.declared.Phase.TheVariants.{Awaiting, Inactive}
pub use Rattle.swp_act.specs.declared.clf.ClfAct.{ClfAct}
pub use Rattle.swp_base.specs.declared.control_frames.Act.{Act as Activation}
pub use Rattle.swp_base.specs.declared.control_frames.Act.TheVariants.{PowerMode, Ready as ActReady, SyncId}
pub use Rattle.swp_base.specs.declared.control_frames.Control.{Control}
pub use Rattle.swp_base.specs.declared.control_frames.Control.TheVariants.{Act, Clt, I, Rset, S, Ua}
pub use Rattle.swp_base.specs.declared.control_frames.Kind.{Kind}
pub use Rattle.swp_base.specs.declared.control_frames.Kind.TheVariants.{Rej, Rnr, Rr, Srej}
pub use Rattle.swp_base.specs.declared.link_terms.Cause.{Cause}
pub use Rattle.swp_base.specs.declared.link_terms.Cause.TheVariants.{Act as ByAct, Asked, Chain, Peer}
