-- Joining on, and a joiner that can take the next packet again after its message was given back or passed on.
use Rattle.std.proofs.Common.{append_assoc}
use Rattle.hcp_chain.proofs.Words.{Bool, Chain, Gives, IsApart, Joiner, KeepsOthers, List, Open, Owner, Packet, PoolState, [], ap, arith, blocks_for}
use Rattle.hcp_chain.proofs.Words.{chain_bytes, length, not, owner_at, refl, sum_by_push, sym, used_of, with_used, ℕ, ◌&&◌, ◌++◌, ◌+◌, ◌-◌, ◌∙◌, ◌∷◌, ◌≡◌, ◌≢◌}
use Rattle.block_pool.specs.Pool.{Passes}
use Rattle.block_pool.proofs.HoldingLemmas.{used-with_used, quota-with_used, other-with_used, length-with_used}
use Rattle.hcp_chain.specs.Joining.{join_step, message_in, is_fault, are_taken, given_by, open_after}
use Rattle.hcp_chain.specs.Holding.{IsJoinerReady, IsOwnOpen, AreApart, HoldsWhole, held_blocks}
use Rattle.hcp_chain.proofs.HoldingLemmas.{all_front, all_map, apart_front}
use Rattle.hcp_chain.proofs.ClearLemmas.{kept}

pub open_after-append : (ms : List (ℕ × List ℕ)) (xs ys : List Packet) → open_after ms (xs ++ ys) ≡ open_after (open_after ms xs) ys
open_after-append ms [] ys = refl
open_after-append ms (x ∷ xs) ys = open_after-append (join_step ms x).1 xs ys

pub given_by-append : (ms : List (ℕ × List ℕ)) (xs ys : List Packet) → given_by ms (xs ++ ys) ≡ given_by ms xs ++ given_by (open_after ms xs) ys
given_by-append ms [] ys = refl
given_by-append ms (x ∷ xs) ys =
    ap (λ l. message_in (join_step ms x).0 ++ l) (given_by-append (join_step ms x).1 xs ys)
    ∙ sym (append_assoc (message_in (join_step ms x).0) (given_by (join_step ms x).1 xs) (given_by (open_after (join_step ms x).1 xs) ys))

and_assoc : (a b c : Bool) → (a && (b && c)) ≡ ((a && b) && c)
and_assoc a b c = grind arith

pub are_taken-append : (ms : List (ℕ × List ℕ)) (xs ys : List Packet) → are_taken ms (xs ++ ys) ≡ (are_taken ms xs && are_taken (open_after ms xs) ys)
are_taken-append ms [] ys = refl
are_taken-append ms (x ∷ xs) ys =
    ap (λ b. not (is_fault (join_step ms x).0) && b) (are_taken-append (join_step ms x).1 xs ys)
    ∙ and_assoc (not (is_fault (join_step ms x).0)) (are_taken (join_step ms x).1 xs) (are_taken (open_after (join_step ms x).1 xs) ys)

-- what is left once the chain of the message doesn't count any more
ready_without : (pool new : PoolState) (j : Joiner) (x : Open) (after : Chain) → HoldsWhole pool j x → KeepsOthers pool new x.chain after
    → length new.owners ≡ length pool.owners → (owner_at new.owners j.owner).quota ≡ (owner_at pool.owners j.owner).quota
    → (owner_at new.owners j.owner).used ≡ used_of pool j.owner - blocks_for (length (chain_bytes pool x.chain)) → IsJoinerReady new j
ready_without pool new j x after whole keeps len quota used =
    let xs = j.open.items in
    let o = j.owner in
    let own = all_front (IsOwnOpen pool o) xs x whole.holds.own in
    let apart = apart_front xs x whole.holds.apart in
    let k = kept pool new o x.chain after xs keeps own.0 (all_map (λ y. AreApart y x) (λ y. IsApart y.chain x.chain) xs (λ y a. a.chains) apart.1) in
    let sum : held_blocks pool (xs ++ x ∷ []) ≡ held_blocks pool xs + blocks_for (length (chain_bytes pool x.chain)) =
    sum_by_push (λ (y : Open). blocks_for (length (chain_bytes pool y.chain))) xs x in
    grind arith

pub ready_given : (pool new : PoolState) (j : Joiner) (x : Open) → HoldsWhole pool j x → Gives pool new x.chain → KeepsOthers pool new x.chain x.chain
    → IsJoinerReady new j
ready_given pool new j x whole gives keeps =
    let o = j.owner in
    let n = blocks_for (length (chain_bytes pool x.chain)) in
    let own = all_front (IsOwnOpen pool o) j.open.items x whole.holds.own in
    let owners : new.owners ≡ with_used pool.owners o (used_of pool o - n) = grind arith in
    ready_without pool new j x x.chain whole keeps (ap length owners ∙ length-with_used pool.owners o (used_of pool o - n))
    (ap (λ os. (owner_at os o).quota) owners ∙ quota-with_used pool.owners o (used_of pool o - n) whole.has_quota)
    (ap (λ os. (owner_at os o).used) owners ∙ used-with_used pool.owners o (used_of pool o - n) whole.has_quota)

pub ready_passed : (pool new : PoolState) (j : Joiner) (x : Open) (after : Chain) (owner : ℕ) → HoldsWhole pool j x → owner ≢ j.owner
    → Passes pool new x.chain after owner → KeepsOthers pool new x.chain after → IsJoinerReady new j
ready_passed pool new j x after owner whole differ passes keeps =
    let o = j.owner in
    let n = blocks_for (length (chain_bytes pool x.chain)) in
    let own = all_front (IsOwnOpen pool o) j.open.items x whole.holds.own in
    let without = with_used pool.owners o (used_of pool o - n) in
    let more = (owner_at without owner).used + n in
    let owners : new.owners ≡ with_used without owner more = grind arith in
    let here : owner_at new.owners o ≡ owner_at without o = ap (λ os. owner_at os o) owners ∙ other-with_used without owner more o (λ e. differ (sym e)) in
    ready_without pool new j x after whole keeps
    (ap length owners ∙ (length-with_used without owner more ∙ length-with_used pool.owners o (used_of pool o - n)))
    (ap (λ (y : Owner). y.quota) here ∙ quota-with_used pool.owners o (used_of pool o - n) whole.has_quota)
    (ap (λ (y : Owner). y.used) here ∙ used-with_used pool.owners o (used_of pool o - n) whole.has_quota)
