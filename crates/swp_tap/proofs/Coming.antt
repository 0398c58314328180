-- A message that came whole is given back, and the joiner can take the next packet.
use Rattle.std.proofs.Common.{◌≡◌, ℕ, ◌<◌, List, [], ◌∷◌, ◌++◌, length, sym, ap, ◌∙◌, subst, arith}
use Rattle.block_pool.specs.Owners.{owner_at, with_used}
use Rattle.block_pool.specs.Pool.{PoolState, IsApart, KeepsOthers, quota_of, used_of}
use Rattle.block_pool.proofs.HoldingLemmas.{used-with_used, quota-with_used, length-with_used}
use Rattle.hcp_chain.specs.declared.joiner.Open.{Open}
use Rattle.hcp_chain.specs.declared.joiner.Joiner.{Joiner}
use Rattle.hcp_chain.specs.Holding.{IsJoinerReady, IsOwnOpen, AreApart, HoldsChains, HoldsWhole, held_blocks, open_messages}
use Rattle.hcp_chain.proofs.HoldingLemmas.{all_front, all_map, apart_front}
use Rattle.hcp_chain.proofs.ClearLemmas.{kept}

-- the message is whole, and its chain is still counted
pub holds_whole : (old new : PoolState) (before after : Joiner) (whole : Open) → IsJoinerReady old before → after.owner ≡ before.owner
    → HoldsChains new before.owner (after.open.items ++ whole ∷ [])
    → new.owners ≡ with_used old.owners before.owner (held_blocks new (after.open.items ++ whole ∷ [])) → HoldsWhole new after whole
holds_whole old new before after whole ready owner holds used =
    let o : ℕ = before.owner in
    let n : ℕ = held_blocks new (after.open.items ++ whole ∷ []) in
    let len : length new.owners ≡ length old.owners = ap length used ∙ length-with_used old.owners o n in
    record {
      holds = subst (λ q. HoldsChains new q (after.open.items ++ whole ∷ [])) (sym owner) holds;
      has_quota = subst (λ q. q < length new.owners) (sym owner) (omega (arith, len, ready.has_quota));
      quota = ap (λ q. quota_of new q) owner ∙ (ap (λ os. (owner_at os o).quota) used ∙ (quota-with_used old.owners o n ready.has_quota ∙ ready.quota));
      used = ap (λ q. used_of new q) owner ∙ (ap (λ os. (owner_at os o).used) used ∙ used-with_used old.owners o n ready.has_quota);
    }

-- the messages under way stay as they are while it is given back
pub open_stays : (pool new : PoolState) (j : Joiner) (whole : Open) → HoldsWhole pool j whole → KeepsOthers pool new whole.chain whole.chain
    → open_messages new j ≡ open_messages pool j
open_stays pool new j whole h keeps =
    let xs : List Open = j.open.items in
    let own = all_front (IsOwnOpen pool j.owner) xs whole h.holds.own in
    let apart = apart_front xs whole h.holds.apart in
    (kept pool new j.owner whole.chain whole.chain xs keeps own.0
    (all_map (λ y. AreApart y whole) (λ y. IsApart y.chain whole.chain) xs (λ y a. a.chains) apart.1)).messages
