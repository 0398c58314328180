-- The words of definitions and lower crates that these proofs speak in, each from where it is at home.
pub use Rattle.std.proofs.Common.{IsSome, List, None, Option, Some, [], ap, append_assoc, arith, cond, drop, eq-eqb, eqb, get_or, get_or-drop, get_or-set_other}
pub use Rattle.std.proofs.Common.{get_or-set_same, inl, inr, length, length-append, length-drop, length-set, length-take, map, ne_eqb, refl, replicate, set}
pub use Rattle.std.proofs.Common.{set-set, subst, suc, sym, take, take-append-drop, take_at, zero, ℕ, ◌%◌, ◌*◌, ◌++◌, ◌+◌, ◌-◌, ◌/◌, ◌<◌, ◌^◌, ◌∙◌, ◌∷◌, ◌≡◌}
pub use Rattle.std.proofs.Common.{◌≢◌, ◌≤◌, ◌⊎◌}
pub use Rattle.std.proofs.lemmas.Bool.{cases_eq, cases_lt}
pub use Rattle.std.proofs.lemmas.Grind.{common_steps}
pub use Rattle.std.proofs.lemmas.List.{get_or-append_right, get_or_append_left, get_or_default, get_or_past, get_or_read, length-map, length-replicate}
pub use Rattle.std.proofs.lemmas.List.{same_lists}
pub use Rattle.std.proofs.lemmas.List.Sums.{sum_by-cons, sum_by-set}
pub use Rattle.std.specs.List.{range_with_len, sum_by}
pub use Rattle.block_pool.specs.Counts.{AreCounted, AreFree}
pub use Rattle.block_pool.specs.Layout.{AreSoundBlocks, IsChain, IsMarked, head_blocks, held_by, laid_bytes, slots_of}
pub use Rattle.block_pool.specs.Links.{block_at, linked_byte, region_behind}
pub use Rattle.block_pool.specs.Names.{named_bytes}
pub use Rattle.block_pool.specs.Pool.{IsLive, PoolState, chain_bytes, spare_of}
pub use Rattle.block_pool.specs.Slots.{BlocksState, Held, ShareNoBlock, blocks_for, bytes_in, held_bytes, owner_in, owner_of, slot, with_chain}
pub use Rattle.block_pool.specs.declared.chain.Chain.{Chain}
pub use Rattle.block_pool.specs.declared.heads.Head.{Head}
pub use Rattle.block_pool.specs.declared.owners.Owner.{Owner}
