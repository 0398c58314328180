-- Giving a joiner's chains back one by one, and a pool that changed at one chain.
use Rattle.std.proofs.Common.{get_or-set_same, length-set}
use Rattle.hcp_chain.proofs.Words.{AllByRecursion, Chain, Gives, HasQuota, IsApart, Joiner, KeepsOthers, List, Open, Owner, PoolState, [], ap, append-nil}
use Rattle.hcp_chain.proofs.Words.{arith, blocks_for, chain_bytes, length, owner_at, refl, subst, sum_by-cons, sum_by_push, sym, used_of, with_used, ℕ, ◌++◌}
use Rattle.hcp_chain.proofs.Words.{◌+◌, ◌-◌, ◌<◌, ◌∙◌, ◌∷◌, ◌≡◌, ◌≤◌}
use Rattle.hcp_chain.specs.Holding.{message_of, messages_in, IsJoinerReady, IsOwnOpen, AreApart, HoldsChains, held_blocks, KeepsOtherChains}
use Rattle.hcp_chain.proofs.HoldingLemmas.{all_front, all_map, apart_front}
use Rattle.block_pool.proofs.HoldingLemmas.{with_used-with_used, with_used-same, used-with_used}

-- ---- a pool that changed at one chain

-- what chains apart from it keep
pub record Kept (old new : PoolState) (owner : ℕ) (after : Chain) (xs : List Open) : Type 0 where
  pub own : AllByRecursion (IsOwnOpen new owner) xs
  pub apart : AllByRecursion (λ x. IsApart x.chain after) xs
  pub messages : messages_in new xs ≡ messages_in old xs
  pub blocks : held_blocks new xs ≡ held_blocks old xs

pub kept : (old new : PoolState) (owner : ℕ) (before after : Chain) (xs : List Open) → KeepsOthers old new before after
    → AllByRecursion (IsOwnOpen old owner) xs → AllByRecursion (λ x. IsApart x.chain before) xs → Kept old new owner after xs
kept old new owner before after [] keeps own apart = record { own = tt; apart = tt; messages = refl; blocks = refl }
kept old new owner before after (x ∷ xs) keeps own apart =
    let here = keeps x.chain own.0.live apart.0 in
    let rest = kept old new owner before after xs keeps own.1 apart.1 in
    let size = λ (pool : PoolState) (y : Open). blocks_for (length (chain_bytes pool y.chain)) in
    let same_size : size new x ≡ size old x = ap (λ bs. blocks_for (length bs)) here.2 in
    record {
      own = (record { live = here.1; owned = own.0.owned; short = subst (λ bs. length bs ≤ 4096) (sym here.2) own.0.short }, rest.own);
      apart = (here.0, rest.apart);
      messages = ap (λ bs. (x.pipe, bs) ∷ messages_in new xs) here.2 ∙ ap (λ ms. message_of old x ∷ ms) rest.messages;
      blocks = omega (
        arith,
        sum_by-cons (λ (y : Open). blocks_for (length (chain_bytes new y.chain))) x xs,
        sum_by-cons
            (λ (y : Open). blocks_for (length (chain_bytes old y.chain))) x xs,
        same_size,
        rest.blocks,
      );
    }

-- ---- owners

-- ---- clearing

-- how far a joiner was cleared: from the first chains and the first pool to those that are left
pub record Clears (first now : PoolState) (owner owner_now : ℕ) (chains left : List Open) : Type 0 where
  pub same_owner : owner_now ≡ owner
  pub quota : HasQuota first owner
  pub holds : HoldsChains now owner left
  pub fewer : held_blocks now left ≤ held_blocks first chains
  pub used : now.owners ≡ with_used first.owners owner (used_of first owner - (held_blocks first chains - held_blocks now left))
  pub others : KeepsOtherChains first now chains left

pub clears_none : (pool : PoolState) (owner : ℕ) (chains : List Open) → HasQuota pool owner → HoldsChains pool owner chains
    → Clears pool pool owner owner chains chains
clears_none pool owner chains quota holds = record {
  same_owner = refl;
  quota = quota;
  holds = holds;
  fewer = omega arith;
  used =
      (let none : used_of pool owner - (held_blocks pool chains - held_blocks pool chains) ≡ used_of pool owner = omega arith in
      sym (ap (with_used pool.owners owner) none ∙ with_used-same pool.owners owner));
  others = λ other live apart. (live, refl, apart);
}

-- one more chain was given back
pub clears_more : {first now next : PoolState} {owner owner_now : ℕ} {chains left : List Open} (x : Open)
    → Clears first now owner owner_now chains (left ++ x ∷ []) → Gives now next x.chain → KeepsOthers now next x.chain x.chain
    → Clears first next owner owner_now chains left
clears_more {first} {now} {next} {owner} {chains = chains} {left} x so_far gives keeps =
    let own = all_front (IsOwnOpen now owner) left x so_far.holds.own in
    let apart = apart_front left x so_far.holds.apart in
    let k = kept now next owner x.chain x.chain left keeps own.0 (all_map (λ y. AreApart y x) (λ y. IsApart y.chain x.chain) left (λ y a. a.chains) apart.1) in
    let n = blocks_for (length (chain_bytes now x.chain)) in
    let sum : held_blocks now (left ++ x ∷ []) ≡ held_blocks now left + n = sum_by_push (λ (y : Open). blocks_for (length (chain_bytes now y.chain))) left x in
    let before = used_of first owner - (held_blocks first chains - held_blocks now (left ++ x ∷ [])) in
    let used_now : used_of now owner ≡ before = ap (λ os. (owner_at os owner).used) so_far.used ∙ used-with_used first.owners owner before so_far.quota in
    let after : used_of now owner - n ≡ used_of first owner - (held_blocks first chains - held_blocks next left) = grind arith in
    record {
      same_owner = so_far.same_owner;
      quota = so_far.quota;
      holds = record { own = k.own; apart = apart.0 };
      fewer = omega (arith, sum, k.blocks, so_far.fewer);
      used = gives.owners
          ∙ (ap (λ o. with_used now.owners o (used_of now o - n)) own.1.owned
          ∙ (ap (with_used now.owners owner) after
          ∙ (ap (λ os. with_used os owner (used_of first owner - (held_blocks first chains - held_blocks next left))) so_far.used
          ∙ with_used-with_used first.owners owner before (used_of first owner - (held_blocks first chains - held_blocks next left)) so_far.quota)));
      others = λ other live away.
          let o = so_far.others other live away in
          let parts = all_front (λ y. IsApart other y.chain) left x o.2 in
          let still = keeps other o.0 parts.1 in
          (still.1, still.2 ∙ o.1, parts.0);
    }

-- a chain lies apart from those of a joiner, and these are all that their owner uses
pub record HasOneMore (pool : PoolState) (owner : ℕ) (chain : Chain) (xs : List Open) : Type 0 where
  pub has_quota : HasQuota pool owner
  pub owned : chain.owner ≡ owner
  pub holds : HoldsChains pool owner xs
  pub apart : AllByRecursion (λ x. IsApart x.chain chain) xs
  pub used : used_of pool owner ≡ blocks_for (length (chain_bytes pool chain)) + held_blocks pool xs

-- it was given back, and then those of the joiner: their owner uses nothing
pub all_given : {pool next : PoolState} (last : PoolState) {owner : ℕ} {chain : Chain} {xs : List Open} → HasOneMore pool owner chain xs
    → Gives pool next chain → KeepsOthers pool next chain chain
    → last.owners ≡ with_used next.owners owner (used_of next owner - held_blocks next xs) → last.owners ≡ with_used pool.owners owner 0
all_given {pool} {next} last {owner} {chain} {xs} h gives keeps cleared =
    let k = kept pool next owner chain chain xs keeps h.holds.own h.apart in
    let n = blocks_for (length (chain_bytes pool chain)) in
    let given : next.owners ≡ with_used pool.owners owner (used_of pool owner - n) = grind arith in
    let used_next : used_of next owner ≡ used_of pool owner - n = ap (λ os. (owner_at os owner).used) given
    ∙ used-with_used pool.owners owner (used_of pool owner - n) h.has_quota in
    let none : used_of next owner - held_blocks next xs ≡ 0 = omega (arith, used_next, h.used, k.blocks) in
    cleared ∙ (ap (with_used next.owners owner) none
    ∙ (ap (λ os. with_used os owner 0) given ∙ with_used-with_used pool.owners owner (used_of pool owner - n) 0 h.has_quota))

-- a joiner can take the next packet
pub ready_again : (old new : PoolState) (before after : Joiner) (whole : List Open) → IsJoinerReady old before → after.owner ≡ before.owner
    → whole ≡ [] → HoldsChains new before.owner (after.open.items ++ whole)
    → new.owners ≡ with_used old.owners before.owner (held_blocks new (after.open.items ++ whole)) → IsJoinerReady new after
ready_again old new before after whole ready owner none holds used =
    let o = before.owner in
    let xs = after.open.items in
    let all : xs ++ whole ≡ xs = ap (λ ys. xs ++ ys) none ∙ append-nil xs in
    let used_is : new.owners ≡ with_used old.owners o (held_blocks new xs) = used ∙ ap (λ ys. with_used old.owners o (held_blocks new ys)) all in
    let entry : Owner = record { quota = (owner_at old.owners o).quota; used = held_blocks new xs; aside = (owner_at old.owners o).aside } in
    let nobody : Owner = record { quota = 0; used = 0; aside = 0 } in
    let here : owner_at new.owners o ≡ entry = ap (λ os. owner_at os o) used_is ∙ get_or-set_same old.owners o entry nobody ready.has_quota in
    record {
      holds = subst (λ q. HoldsChains new q xs) (sym owner) (subst (HoldsChains new o) all holds);
      has_quota = subst (λ q. q < length new.owners) (sym owner)
          (subst (λ os. o < length os) (sym used_is) (omega (arith, ready.has_quota, length-set old.owners o entry)));
      quota = ap (λ q. (owner_at new.owners q).quota) owner ∙ (ap (λ (x : Owner). x.quota) here ∙ ready.quota);
      used = ap (λ q. (owner_at new.owners q).used) owner ∙ ap (λ (x : Owner). x.used) here;
    }
