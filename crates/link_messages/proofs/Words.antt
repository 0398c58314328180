-- The words of definitions and lower crates that these proofs speak in, each from where it is at home.
pub use Rattle.std.proofs.Common.{Bool, List, None, Some, [], ap, arith, drop, false, if◌then◌else◌, le-leb, length, map, min, refl, slice_get, subst, suc, sym}
pub use Rattle.std.proofs.Common.{take, true, ℕ, ◌*◌, ◌++◌, ◌+◌, ◌-◌, ◌<◌, ◌∙◌, ◌∷◌, ◌≡◌, ◌≤◌}
pub use Rattle.std.proofs.lemmas.Option.{slice_get_within}
pub use Rattle.block_pool.specs.Owners.{owner_at, with_used}
pub use Rattle.block_pool.specs.Pool.{Gives, IsApart, KeepsOthers, PoolState, chain_bytes, quota_of, used_of}
pub use Rattle.block_pool.specs.Slots.{blocks_for}
pub use Rattle.block_pool.specs.declared.chain.Chain.{Chain}
pub use Rattle.circular_buffer.specs.Buffer.{Buffer}
pub use Rattle.hcp_chain.specs.Holding.{HoldsWhole}
pub use Rattle.hcp_chain.specs.Joining.{join_step}
pub use Rattle.hcp_packet.specs.declared.Packet.{Packet}
pub use Rattle.link_laws.proofs.machine.Sound.{fragments_count as length-fragments}
pub use Rattle.link_laws.specs.machine.Machine.{Message, whole_among}
pub use Rattle.link_messages.specs.Outgoing.{Accepts, LeavesOthersBut, OutboxLiesIn, queued_message, queued_messages, rest_among}
pub use Rattle.link_messages.specs.declared.inbox.Inbox.{Inbox}
pub use Rattle.link_messages.specs.declared.outbox.Outbox.{Outbox}
pub use Rattle.link_messages.specs.declared.outbox.Queued.{Queued}
