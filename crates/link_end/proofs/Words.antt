-- The words of definitions and lower crates that these proofs speak in, each from where it is at home.
pub use Rattle.std.proofs.Common.{Bool, Err, IfSome, IsTrue, List, None, Ok, Option, Some, [], ap, append-nil, arith, drop, eqb-true, false, if◌then◌else◌, inl}
pub use Rattle.std.proofs.Common.{inr, is_some, length, length-append, length-drop, map, min, not, option_map, refl, subst, sym, take, true, ℕ, ◌++◌, ◌+◌, ◌-◌}
pub use Rattle.std.proofs.Common.{◌<◌, ◌==◌, ◌∙◌, ◌∷◌, ◌≡◌, ◌≢◌, ◌≤◌, ◌⊎◌}
pub use Rattle.std.proofs.lemmas.List.{nil_from_length}
pub use Rattle.std.proofs.lemmas.List.Sums.{sum_by-cons}
pub use Rattle.std.specs.List.{AllByRecursion}
pub use Rattle.std.specs.Option.{option_to_list}
pub use Rattle.arrayvec.specs.ArrayVec.{ArrayVec}
pub use Rattle.block_pool.specs.Holdings.{IsOwnChain as IsChainOf, LiesApart, OwnsAll}
pub use Rattle.block_pool.specs.Owners.{owner_at}
pub use Rattle.block_pool.specs.Pool.{IsApart, IsLive, PoolState, aside_of, chain_bytes, quota_of, used_of}
pub use Rattle.block_pool.specs.Slots.{blocks_for}
pub use Rattle.block_pool.specs.declared.chain.Chain.{Chain}
pub use Rattle.block_pool.specs.declared.owners.Owner.{Owner}
pub use Rattle.hcp_chain.specs.Holding.{HoldsChains, IsApartFrom, IsOwnOpen, held_blocks, messages_in as messages_of}
pub use Rattle.hcp_chain.specs.declared.joiner.Open.{Open}
pub use Rattle.hcp_packet.specs.Packets.{fragments_of, packet_of, packets_in}
pub use Rattle.link_end.specs.Dues.{behind_front, front_act, kept_in_front, kept_nearer}
pub use Rattle.link_end.specs.Ends.{EndStandsFor, Halfway, IsFree, LeavesBoxes, MayPass, MayTake, due_of}
pub use Rattle.link_end.specs.Inputs.{after_some, fed_input, told_some}
pub use Rattle.link_end.specs.Received.{ReceivesOn}
pub use Rattle.link_end.specs.Reports.{IsShdlc, act_told, heard_told, nothing_told, report_told}
pub use Rattle.link_end.specs.Roles.{new_role, role_of}
pub use Rattle.link_end.specs.Steps.{ForgetsMessages}
pub use Rattle.link_end.specs.declared.acts.ActDue.{ActDue}
pub use Rattle.link_end.specs.declared.report.LinkReport.{LinkReport}
pub use Rattle.link_end.specs.declared.report.SendRefused.TheVariants.{Full as SendFull}
pub use Rattle.link_end.specs.declared.«end».End.{End}
pub use Rattle.link_laws.proofs.machine.Sound.{whole_few}
pub use Rattle.link_laws.specs.machine.Machine.{ActDue as Due, LinkEnd, LinkEnd as Machine, Message, Role, activated, after_input, frame_fetched, heard}
pub use Rattle.link_laws.specs.machine.Machine.{is_open, moved, new_link_end, next_frame, put_down, report, spare, whole_acked, whole_among, with_act}
pub use Rattle.link_laws.specs.machine.Machine.Refused.{Full, TooLong}
pub use Rattle.link_messages.proofs.IncomingLemmas.{front_holds, held_both}
pub use Rattle.link_messages.proofs.OutgoingLemmas.{aside-with_used, messages_same}
pub use Rattle.link_messages.specs.Incoming.{InboxLeavesOthers as InboxLeaves, InboxLiesIn, IsInboxReady, came_whole, chains_in, got_chains, messages_under_way}
pub use Rattle.link_messages.specs.Outgoing.{LeavesOthersBut, OutboxLeavesOthers as OutboxLeaves, OutboxLiesIn, chain_in, messages_of_all, queued_messages}
pub use Rattle.link_messages.specs.Outgoing.{waiting_in}
pub use Rattle.link_messages.specs.declared.inbox.Got.{Got}
pub use Rattle.link_messages.specs.declared.inbox.Inbox.{Inbox}
pub use Rattle.link_messages.specs.declared.outbox.Outbox.{Outbox}
pub use Rattle.link_messages.specs.declared.outbox.Queued.{Queued}
pub use Rattle.shdlc_core.proofs.Histories.{in_phase}
pub use Rattle.shdlc_core.specs.Kept.{KeptEnd, ShdlcStandsFor}
pub use Rattle.shdlc_core.specs.Machine.{EndState, Fragment, Session, frame_due, stopped, take_answer, tick_answer, ticked}
pub use Rattle.shdlc_core.specs.Offering.{StandsBefore, left_waiting, with_out}
pub use Rattle.shdlc_core.specs.declared.answers.LinkState.{LinkState}
pub use Rattle.shdlc_core.specs.declared.answers.LinkState.TheVariants.{Down, Up}
pub use Rattle.swp_base.specs.declared.control_frames.Act.{Act}
pub use Rattle.swp_base.specs.declared.control_frames.Control.{Control}
pub use Rattle.swp_base.specs.declared.control_frames.Control.TheVariants.{Act as ActFrame}
pub use Rattle.swp_base.specs.declared.link_terms.Cause.{Cause}
pub use Rattle.swp_frame.specs.declared.fed.Fed.{Fed}
pub use Rattle.swp_lpdu.specs.Controls.{HasNumbers, control_of, lpdu_of}
