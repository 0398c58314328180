-- Chains by their first blocks, and what writing one leaves.
use Rattle.block_pool.proofs.Words.{Held, List, None, Option, Some, ap, arith, bytes_in, cases_lt, get_or-set_same, get_or_past, held_bytes, inl, inr, length}
use Rattle.block_pool.proofs.Words.{owner_in, owner_of, set-set, slot, with_chain, ℕ, ◌<◌, ◌≡◌}

module _ (slots : List (Option Held)) (b : ℕ) where
  -- a chain with bytes begins at a block of the pool
  pub slot_low : 0 < length (held_bytes slots b) → b < length slots
  slot_low some = elim (cases_lt b (length slots)) [
    | inl low ↦ low
    | inr high ↦ absurd (let none : length (held_bytes slots b) ≡ 0 = ap (λ s. length (bytes_in s)) (get_or_past slots b None high) in omega arith)
  ]

  pub slot-put : (owner : ℕ) (bytes : List ℕ) → b < length slots → slot (with_chain slots b owner bytes) b ≡ Some (record { owner = owner; bytes = bytes })
  slot-put owner bytes low = get_or-set_same slots b (Some (record { owner = owner; bytes = bytes })) None low

  pub bytes_of-put : (owner : ℕ) (bytes : List ℕ) → b < length slots → held_bytes (with_chain slots b owner bytes) b ≡ bytes
  bytes_of-put owner bytes low = ap bytes_in (slot-put owner bytes low)

  pub owner_of-put : (owner : ℕ) (bytes : List ℕ) → b < length slots → owner_of (with_chain slots b owner bytes) b ≡ owner
  owner_of-put owner bytes low = ap owner_in (slot-put owner bytes low)

  pub put-put : (o p : ℕ) (xs ys : List ℕ) → with_chain (with_chain slots b o xs) b p ys ≡ with_chain slots b p ys
  put-put o p xs ys = set-set slots b (Some (record { owner = o; bytes = xs })) (Some (record { owner = p; bytes = ys }))
