-- The words of definitions and lower crates that these proofs speak in, each from where it is at home.
pub use Rattle.std.proofs.Common.{Bool, List, None, Some, [], ap, append-nil, arith, cond, drop, eqb, false, leb, length, ltb, not, refl, rules, subst, sym}
pub use Rattle.std.proofs.Common.{take, true, ℕ, ◌&&◌, ◌*◌, ◌++◌, ◌+◌, ◌-◌, ◌<◌, ◌∙◌, ◌∷◌, ◌≡◌, ◌≢◌, ◌≤◌}
pub use Rattle.std.proofs.lemmas.Grind.{common_steps}
pub use Rattle.std.proofs.lemmas.List.Sums.{sum_by-cons, sum_by_push}
pub use Rattle.std.specs.List.{AllByRecursion, position}
pub use Rattle.block_pool.specs.Owners.{owner_at, with_used}
pub use Rattle.block_pool.specs.Pool.{Gives, HasQuota, IsApart, IsLive, KeepsOthers, PoolState, chain_bytes, used_of}
pub use Rattle.block_pool.specs.Slots.{blocks_for}
pub use Rattle.block_pool.specs.declared.chain.Chain.{Chain}
pub use Rattle.block_pool.specs.declared.owners.Owner.{Owner}
pub use Rattle.hcp_chain.specs.declared.joiner.Joiner.{Joiner}
pub use Rattle.hcp_chain.specs.declared.joiner.Open.{Open}
pub use Rattle.hcp_packet.specs.declared.Packet.{Packet}
