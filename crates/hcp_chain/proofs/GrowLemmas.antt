-- Appending a packet's data to the chain of its message.
use Rattle.std.proofs.Common.{length-append}
use Rattle.std.specs.Prelude.{Result, Ok, Err, IsOk, OnOk}
use Rattle.std.proofs.lemmas.List.{map_push}
use Rattle.hcp_chain.proofs.Words.{AllByRecursion, Chain, IsApart, IsLive, Joiner, KeepsOthers, List, Open, Packet, PoolState, [], ap, arith, blocks_for}
use Rattle.hcp_chain.proofs.Words.{chain_bytes, length, subst, sum_by-cons, sum_by_push, sym, used_of, with_used, ℕ, ◌*◌, ◌++◌, ◌+◌, ◌<◌, ◌∙◌, ◌∷◌, ◌≡◌, ◌≢◌}
use Rattle.hcp_chain.proofs.Words.{◌≤◌}
use Rattle.block_pool.specs.Pool.{Appends, chain_spare, more_blocks, quota_of, spare_of}
use Rattle.hcp_chain.specs.Holding.{HoldsChains, IsApartFrom, message_of, messages_in, IsOwnOpen, AreApart, held_blocks}
use Rattle.hcp_chain.proofs.HoldingLemmas.{all_push, all_map, all_both, apart_push}
use Rattle.hcp_chain.proofs.ClearLemmas.{kept}

-- a packet's data can be appended to a chain that was taken out
pub record CanGrow (pool : PoolState) (joiner : Joiner) (p : Packet) (chain : Chain) : Type 0 where
  pub room : length joiner.open.items < 4
  pub live : IsLive pool chain
  pub owned : chain.owner ≡ joiner.owner
  pub fits : length (chain_bytes pool chain) + length p.bytes.items ≤ 4096
  pub apart : AllByRecursion (λ x. (x.pipe ≢ p.pipe) × IsApart x.chain chain) joiner.open.items
  pub holds : HoldsChains pool joiner.owner joiner.open.items
  pub quota : quota_of pool joiner.owner ≡ 512
  pub used : used_of pool joiner.owner ≡ blocks_for (length (chain_bytes pool chain)) + held_blocks pool joiner.open.items

-- the data was appended, and the chain stands behind the others
pub record Grown (old new : PoolState) (owner pipe : ℕ) (chain after : Chain) (xs : List Open) (bytes : List ℕ) : Type 0 where
  pub bytes_are : chain_bytes new after ≡ bytes
  pub holds : HoldsChains new owner (xs ++ record { pipe = pipe; chain = after } ∷ [])
  pub used : new.owners ≡ with_used old.owners owner (held_blocks new (xs ++ record { pipe = pipe; chain = after } ∷ []))
  pub others : (other : Chain) → IsLive old other → IsApartFrom xs other → IsApart other chain
      → IsLive new other × (chain_bytes new other ≡ chain_bytes old other) × IsApartFrom (xs ++ record { pipe = pipe; chain = after } ∷ []) other
  pub rest : messages_in new xs ≡ messages_in old xs
  pub more : messages_in new (xs ++ record { pipe = pipe; chain = after } ∷ []) ≡ messages_in old xs ++ (pipe, bytes) ∷ []

-- a message has at most 128 blocks
held_low : (pool : PoolState) (owner : ℕ) (xs : List Open) → AllByRecursion (IsOwnOpen pool owner) xs → held_blocks pool xs ≤ 128 * length xs
held_low pool owner [] own = omega arith
held_low pool owner (x ∷ xs) own =
    let rest = held_low pool owner xs own.1 in
    let short = own.0.short in
    omega (arith, rest, short, sum_by-cons (λ (y : Open). blocks_for (length (chain_bytes pool y.chain))) x xs)

pub of_ok : {A E P : Type 0} (r : Result A E) → IsOk r → OnOk r P → P
of_ok (Ok a) ok p = p
of_ok (Err e) ok p = absurd (cc ok)

-- there is room for each packet
pub room_for : (pool : PoolState) (joiner : Joiner) (p : Packet) (chain : Chain) → CanGrow pool joiner p chain
    → more_blocks (length (chain_bytes pool chain)) (length p.bytes.items) ≤ chain_spare pool chain
room_for pool joiner p chain can =
    let held = held_low pool joiner.owner joiner.open.items can.holds.own in
    subst (λ o. more_blocks (length (chain_bytes pool chain)) (length p.bytes.items) ≤ spare_of pool o) (sym can.owned)
    (omega (arith, held, can.room, can.fits, can.quota, can.used))

pub grows : {old new : PoolState} {joiner : Joiner} {p : Packet} {chain after : Chain} → CanGrow old joiner p chain
    → Appends old new chain after p.bytes.items → chain_bytes new after ≡ chain_bytes old chain ++ p.bytes.items → IsLive new after
    → KeepsOthers old new chain after → Grown old new joiner.owner p.pipe chain after joiner.open.items (chain_bytes old chain ++ p.bytes.items)
grows {old} {new} {joiner} {p} {chain} {after} can appends bytes live keeps =
    let xs = joiner.open.items in
    let o = joiner.owner in
    let y : Open = record { pipe = p.pipe; chain = after } in
    let len : length (chain_bytes new after) ≡ length (chain_bytes old chain) + length p.bytes.items = ap length bytes
    ∙ length-append (chain_bytes old chain) p.bytes.items in
    let k = kept old new o chain after xs keeps can.holds.own
    (all_map (λ x. (x.pipe ≢ p.pipe) × IsApart x.chain chain) (λ x. IsApart x.chain chain) xs (λ x a. a.1) can.apart) in
    let own_y : IsOwnOpen new o y = record { live = live; owned = appends.owner ∙ can.owned; short = omega (arith, len, can.fits) } in
    let both = all_both (λ x. (x.pipe ≢ p.pipe) × IsApart x.chain chain) (λ x. IsApart x.chain after) xs can.apart k.apart in
    let apart_y = all_map (λ x. ((x.pipe ≢ p.pipe) × IsApart x.chain chain) × IsApart x.chain after) (AreApart y) xs
    (λ x a. record { pipes = λ e. a.0.0 (sym e); chains = λ first q r. a.1 first r q }) both in
    let sum = sum_by_push (λ (x : Open). blocks_for (length (chain_bytes new x.chain))) xs y in
    let grows : blocks_for (length (chain_bytes old chain)) ≤ blocks_for (length (chain_bytes old chain) + length p.bytes.items) = omega arith in
    let size : blocks_for (length (chain_bytes new after)) ≡ blocks_for (length (chain_bytes old chain) + length p.bytes.items) = ap blocks_for len in
    let total : used_of old o + more_blocks (length (chain_bytes old chain)) (length p.bytes.items) ≡ held_blocks new (xs ++ y ∷ []) = grind arith in
    record {
      holds = record { own = all_push (IsOwnOpen new o) xs y k.own own_y; apart = apart_push xs y can.holds.apart apart_y };
      used = appends.owners ∙ (grind arith);
      others = λ other other_live away apart.
          let s = keeps other other_live apart in
          (s.1, s.2, all_push (λ x. IsApart other x.chain) xs y away s.0);
      bytes_are = bytes;
      rest = k.messages;
      more = map_push (message_of new) xs y
          ∙ (ap (λ ms. ms ++ (p.pipe, chain_bytes new after) ∷ []) k.messages ∙ ap (λ bs. messages_in old xs ++ (p.pipe, bs) ∷ []) bytes);
    }
