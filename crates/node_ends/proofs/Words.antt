-- The words of definitions and lower crates that these proofs speak in, each from where it is at home.
pub use Rattle.std.proofs.Common.{Bool, Err, IfSome, List, None, Ok, OnOk, Option, Result, Some, [], add-one, ap, append-nil, ap₂, arith, cond, drop, eq-eqb}
pub use Rattle.std.proofs.Common.{eqb, eqb-true, false, get_or, get_or-set_other, get_or-set_same, if◌then◌else◌, inl, inr, is_none, is_some, length}
pub use Rattle.std.proofs.Common.{length-append, length-set, map, min, nat_lt, not, option_map, refl, rules, slice_get, slice_index_or, slice_set, subst, suc}
pub use Rattle.std.proofs.Common.{sym, take, take_all, tests, true, true≢false, zero, ℕ, ◌%◌, ◌&&◌, ◌*◌, ◌++◌, ◌+◌, ◌-◌, ◌<◌, ◌==◌, ◌||◌, ◌∙◌, ◌∷◌, ◌≡◌, ◌≢◌}
pub use Rattle.std.proofs.Common.{◌≤◌, ◌⊎◌}
pub use Rattle.std.proofs.Math.Seq.{take-append_seam}
pub use Rattle.std.proofs.lemmas.Grind.{common_steps}
pub use Rattle.std.proofs.lemmas.Iterator.{YieldsList-from_slice}
pub use Rattle.std.proofs.lemmas.Iterator.Search.{any_from_yields_List}
pub use Rattle.std.proofs.lemmas.List.{drop_all, length-map}
pub use Rattle.std.proofs.lemmas.Option.{slice_get_within}
pub use Rattle.std.specs.List.{AllByRecursion, list_any}
pub use Rattle.std.specs.Option.{option_map_or}
pub use Rattle.block_pool.proofs.HoldingLemmas.{all_mapped, apart_by_owner, lies_apart_by_owner}
pub use Rattle.block_pool.specs.Pool.{Gives, IsLive, KeepsOthers, PoolState, aside_of, chain_bytes, spare_of, used_of}
pub use Rattle.block_pool.specs.declared.chain.Chain.{Chain}
pub use Rattle.hcp_chain.specs.declared.joiner.Open.{Open}
pub use Rattle.hcp_packet.specs.Packets.{AreSendable, IsSendable}
pub use Rattle.link_end.proofs.AccountLemmas.{account_kept}
pub use Rattle.link_end.proofs.NodeLemmas.{spare_is}
pub use Rattle.link_end.specs.Ends.{Accounts, EndLeavesOthers, EndStandsFor, HaveOwners, MayPass}
pub use Rattle.link_end.specs.Reports.{report_told, reset_refused, reset_told}
pub use Rattle.link_end.specs.declared.report.LinkReport.{LinkReport}
pub use Rattle.link_end.specs.declared.report.ResetRefused.{ResetRefused}
pub use Rattle.link_end.specs.declared.report.SendRefused.{SendRefused}
pub use Rattle.link_end.specs.declared.«end».End.{End}
pub use Rattle.link_laws.specs.machine.Laws.{AreSendableInputs}
pub use Rattle.link_laws.specs.machine.Machine.{LinkEnd as Machine, LinkInput, Message, Refused, Role, Turn, activated, after_input, after_inputs, brought}
pub use Rattle.link_laws.specs.machine.Machine.{ended_by, frame_fetched, give_refusal, got_by, heard, if_up, is_faulty, is_held, is_open, lpdu_input, moved}
pub use Rattle.link_laws.specs.machine.Machine.{new_link_end, news, next_frame, oldest, put_down, report, reset_refusal, spare, took, turn, whole_acked}
pub use Rattle.link_laws.specs.machine.Machine.LinkInput.{Fetch, FromNode, Reset, Start, Stop, Take, TakeBroken, TakeUnknown, Tick}
pub use Rattle.link_laws.specs.machine.Machine.Turn.{FetchMessage, Give, Hold, Release, SetAside}
pub use Rattle.link_laws.specs.sessions.Sessions.{is_up}
pub use Rattle.link_messages.specs.Incoming.{chains_in}
pub use Rattle.link_messages.specs.Outgoing.{chain_in}
pub use Rattle.link_messages.specs.declared.outbox.Queued.{Queued}
pub use Rattle.node_deeds.specs.Cores.{AreSoundDesks, IsSoundDesk}
pub use Rattle.node_deeds.specs.Shown.{creation_of_row, desk_shown, notice_shown, row_noticed}
pub use Rattle.node_deeds.specs.declared.desks.Desk.{Desk}
pub use Rattle.node_deeds.specs.declared.desks.Unanswered.{Unanswered}
pub use Rattle.node_ends.specs.Desks.{IsYoung, asker_at, forgotten_at}
pub use Rattle.node_ends.specs.Ends.{AreEnds, EndsStandFor, FewAreDue, HaveOwnHosts, HaveOwnersFrom, KeptEnds, SeatBecomes, SeatStandsFor, SeatsStandFor}
pub use Rattle.node_ends.specs.Ends.{has_sent, is_idle, place_in, rests, takes_at}
pub use Rattle.node_ends.specs.Holding.{HoldsEnd, HoldsSeat, IsReached, Moves, acked_by_reset, acked_since, chain_of, ends_by, kept_number, messages_waiting}
pub use Rattle.node_ends.specs.Holding.{where_done, without_got}
pub use Rattle.node_ends.specs.Making.{AddsNew, IsNewSeat}
pub use Rattle.node_ends.specs.declared.seat.Seat.{Seat}
pub use Rattle.node_ends.specs.declared.seat.Waiting.{Waiting}
pub use Rattle.node_machine.specs.Carrying.{after_turn, changed_if, port_at, with_port}
pub use Rattle.node_machine.specs.Controller.{has_link}
pub use Rattle.node_machine.specs.Node.{forgets, has_come, is_late, is_over, is_over_at, reset_late, with_older, without_notice}
pub use Rattle.node_machine.specs.Parts.{Desk as DeskOf, Port}
pub use Rattle.shdlc_core.specs.Machine.{EndState, Fragment, stopped, take_answer, taken}
pub use Rattle.shdlc_core.specs.declared.answers.LinkState.{LinkState}
pub use Rattle.shdlc_core.specs.declared.answers.LinkState.TheVariants.{Down, Up}
pub use Rattle.swp_act.specs.declared.ActEvent.{ActEvent}
pub use Rattle.swp_act.specs.declared.ActEvent.TheVariants.{Start as ActStart, Stop as ActStop, Take as ActTake}
pub use Rattle.swp_base.specs.declared.control_frames.Control.{Control}
pub use Rattle.swp_base.specs.declared.control_frames.Control.TheVariants.{Act as ActFrame, Clt, I, Rset, S, Ua}
pub use Rattle.swp_base.specs.declared.link_terms.Cause.TheVariants.{Asked}
pub use Rattle.swp_lpdu.specs.Controls.{control_of}
pub use Rattle.swp_lpdu.specs.declared.LpduFault.{LpduFault}
