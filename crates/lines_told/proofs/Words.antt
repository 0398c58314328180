-- The words of links, rounds, lines and worlds that these proofs speak in, each from where it is at home.
pub use Rattle.history.specs.Follows.{causes_in, frames_to, host_of, link_after_line, link_after_lines, misread, outcome_of, refusal}
pub use Rattle.history.specs.Histories.{Cause, causes_of}
pub use Rattle.history.specs.Steps.{bare_link, end_of, events_at, link_after, link_after_all}
pub use Rattle.lines_told.specs.fragments.Rounds.{AllOrdinary, AreOrdinaryTurns, AreRounds, AreUndisturbed, BothTakeFragments, EarlierDelivered}
pub use Rattle.lines_told.specs.fragments.Rounds.{EarlierDelivered as CoreEarlierDelivered, IsOrdinary, IsRound, IsStretch, taken_at_controller, taken_at_host}
pub use Rattle.lines_told.specs.fragments.Rounds.{taken_here, ticks_among, to_deliver, undelivered}
pub use Rattle.lines_told.specs.lines.Below.{IsPlayedLine, bare_link_behind, entries_below, is_settling, misread_below, nodes_behind, told_below}
pub use Rattle.lines_told.specs.lines.Plays.{AreFewPlays, IsPlayFor, Play, lines_of_play, lines_played, lines_played_of, lines_said, plays_of, plays_of_line}
pub use Rattle.lines_told.specs.lines.Plays.{rests_behind, round_behind, round_in, round_on, rounds_played, rounds_to_rest, taking_in, taking_on, told_behind}
pub use Rattle.lines_told.specs.lines.Plays.{told_of_line, told_of_rounds}
pub use Rattle.lines_told.specs.lines.Plays.Play.{Round, Said}
pub use Rattle.lines_told.specs.messages.Recovery.{AllOrdinaryOnLink, AreLinkRounds, AreOrdinaryOwn, EarlierGot, IsLinkRound, IsLinkStretch, IsLinkUndisturbed}
pub use Rattle.lines_told.specs.messages.Recovery.{IsOrdinaryOnLink, come_to_controller, come_to_host, fragments_left, times_among}
pub use Rattle.link_laws.proofs.messages.Runs.{Good, Reached, event_step, reached_more, run}
pub use Rattle.link_laws.proofs.places.Joined.{fetch_cases, ready_cases, taken_I}
pub use Rattle.link_laws.proofs.places.Flows.{AnswersOnly, Counts, NoRnr, counts_le, slice_get-append}
pub use Rattle.link_laws.proofs.sessions.Data.{Pair, ShowsAct, TakenUp, taken_up}
pub use Rattle.link_laws.proofs.sessions.Safe.{HasWindows, frame_cases}
pub use Rattle.link_laws.proofs.sessions.Sending.{SafeLink, sends_keeps}
pub use Rattle.link_laws.proofs.sessions.Steps.{after-append, not_rset, passes_act, safe, safe_aged, safe_event, safe_start, safe_turn, tick_or_cut}
pub use Rattle.link_laws.proofs.sessions.Ties.{answers_more, data_due, fetched_answers, few_turns, offer_up, sends_noted, turn-phase, turned-phase}
pub use Rattle.link_laws.proofs.sessions.Wire.{IsData, live}
pub use Rattle.link_laws.specs.entries.Entries.End.{Controller, Host}
pub use Rattle.link_laws.specs.machine.Machine.{LinkEnd, Message, Turn, after_input, is_open, whole_acked, whole_among}
pub use Rattle.link_laws.specs.messages.Links.{AllAllowed, EndEvent, Ending, IsEvent, IsStart, Link, LinkEvent, NumberedEnd, Talk, after_link_events, aged}
pub use Rattle.link_laws.specs.messages.Links.{happens, happens_at_controller, talk_now, ticks_at_controller}
pub use Rattle.link_laws.specs.messages.Projection.{core_all, core_event, core_events, core_of, core_tick, core_tick_rest, core_turns}
pub use Rattle.link_laws.specs.messages.Rest.{IsFirstRest, after_steps, is_clear, link_rests, steps_to_rest}
pub use Rattle.link_laws.specs.places.Order.{FragmentsInOrder, FragmentsInOrder as CoreInOrder}
pub use Rattle.link_laws.specs.places.Wire.{OnWire, aged_wire, counts_first, fits, is_act, is_rnr, is_rset, loses_aged, overflows, sans, with_frame}
pub use Rattle.link_laws.specs.sessions.Losses.{Losses, came_up, no_losses, noted_aged, noted_all, noted_event, noted_here, noted_loss, noted_out, noted_tick}
pub use Rattle.link_laws.specs.sessions.Losses.{noted_turns}
pub use Rattle.link_laws.specs.sessions.Sessions.{AllShdlcAllowed, AreTurns, IsShdlcAllowed, IsShdlcStart, IsTurn, NumberedShdlc, ShdlcEndEvent}
pub use Rattle.link_laws.specs.sessions.Sessions.{ShdlcEndEvent as CoreEndEvent, ShdlcLink, ShdlcLink as CoreLink, ShdlcLinkEvent}
pub use Rattle.link_laws.specs.sessions.Sessions.{ShdlcLinkEvent as CoreLinkEvent, ShdlcTurn, ShdlcTurn as CoreTurn, act_frame, is_up, shdlc_after}
pub use Rattle.link_laws.specs.sessions.Sessions.{shdlc_after as core_after, shdlc_aged, shdlc_all_at_controller, shdlc_becomes, shdlc_exchanged, shdlc_happens}
pub use Rattle.link_laws.specs.sessions.Sessions.{shdlc_happens_at_controller, shdlc_put, shdlc_put_all, shdlc_silent, shdlc_ticks_at_controller, shdlc_turn}
pub use Rattle.link_laws.specs.sessions.Sessions.{shdlc_turned, start, ticks_if_waiting, ticks_or_cut, took_with, with_shdlc_ended}
pub use Rattle.link_laws.specs.sessions.Sessions.ShdlcEndEvent.{Acts, Cut, Deliver, Ignore, Lose, Reset, Stop, Turns}
pub use Rattle.link_laws.specs.sessions.Sessions.ShdlcLinkEvent.{AtController, AtController as CoreAtController, AtHost, AtHost as CoreAtHost, Tick}
pub use Rattle.link_laws.specs.sessions.Sessions.ShdlcLinkEvent.{Tick as CoreTick, TickWithout}
pub use Rattle.link_laws.specs.sessions.Sessions.ShdlcTurn.{Offer, SetReady}
pub use Rattle.node_machine.specs.world.Lines.{LineOutcome, Occurrence, all_happen, frames_at, goes_on, is_running, line_step, misread_in, noted_below}
pub use Rattle.node_machine.specs.world.Lines.{noted_lines, refusal_in}
pub use Rattle.node_machine.specs.world.NodeHistories.{NoneIsMisread, entries_in, world_after}
pub use Rattle.node_machine.specs.world.Rounds.{end_takes_all, ends_in_order, ends_take_all, rounds_of_world, world_after_round, world_rests, world_round}
pub use Rattle.node_machine.specs.world.Rounds.{world_rounds_to_settle, world_settling}
pub use Rattle.node_machine.specs.world.World.{NodeWorld, Site, end_c, end_h, new_world, node_of}
pub use Rattle.shdlc_core.specs.Machine.{EndState, Fragment, Session, accepted, acknowledged, after_frames, ahead, control_due, expected, fetched, fragment_due}
pub use Rattle.shdlc_core.specs.Machine.{frame_due, frames_of, place_of, received, repeated, reset_with, runs_timer, take_answer, taken, tick_answer, ticked}
pub use Rattle.shdlc_core.specs.declared.answers.Due.{Due}
pub use Rattle.shdlc_core.specs.declared.answers.Due.TheVariants.{Rej as Rej_due, Rnr as Rnr_due, Rr as Rr_due}
pub use Rattle.shdlc_core.specs.declared.answers.LinkState.TheVariants.{Down, Up, Waiting}
pub use Rattle.std.proofs.Common.{Bool, Contains, List, None, Option, Some, [], ap, append-nil, append_assoc, arith, cond, drop, false, flat_map, inl, inr}
pub use Rattle.std.proofs.Common.{is_some, length, length-append, map, nat_le, nat_lt, not, refl, slice_get, slice_index, subst, suc, sym, take, true, zero, ℕ}
pub use Rattle.std.proofs.Common.{◌%◌, ◌&&◌, ◌*◌, ◌++◌, ◌+◌, ◌-◌, ◌<◌, ◌||◌, ◌∙◌, ◌∷◌, ◌≡◌, ◌≤◌, ◌⊎◌}
pub use Rattle.std.proofs.lemmas.Bool.{cases_lt, eqb-true, lt-ltb, or_parts}
pub use Rattle.std.proofs.lemmas.List.{length-map, take_all}
pub use Rattle.std.proofs.lemmas.List.Concat.{flat_map-append}
pub use Rattle.std.specs.List.{AllByRecursion, fold}
pub use Rattle.swp_base.specs.declared.control_frames.Act.{Act as Activation}
pub use Rattle.swp_base.specs.declared.control_frames.Control.{Control}
pub use Rattle.swp_base.specs.declared.control_frames.Control.TheVariants.{I, Rset, S, Ua}
pub use Rattle.swp_base.specs.declared.control_frames.Kind.TheVariants.{Rej, Rnr, Rr}
pub use Rattle.trace_model.specs.Lines.{IsEndOf, IsLineOf, MayBegin, MayFollow}
pub use Rattle.trace_model.specs.declared.entry.Entry.{Entry}
pub use Rattle.trace_model.specs.declared.line.End.{End}
pub use Rattle.trace_model.specs.declared.line.Header.{Header}
pub use Rattle.trace_model.specs.declared.line.Line.{Line}
pub use mathlib.Core.List.{IsPrefix}
