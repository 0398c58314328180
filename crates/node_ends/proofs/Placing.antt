-- The place of the end of the link with a host is the first one whose host it is.
use Rattle.std.specs.Prelude.{position}
use Rattle.node_ends.proofs.Words.{Bool, List, None, Seat, Some, [], arith, cond, nat_lt, option_map, place_in, refl, suc, ℕ, ◌+◌, ◌==◌, ◌∷◌, ◌≡◌}
use Prim.Native.Nat.compare

one_more : (n : ℕ) → suc n ≡ 1 + n
one_more n = omega arith

next_place : (n len : ℕ) → option_map suc (cond (nat_lt n len) (Some n) None) ≡ cond (nat_lt (suc n) (suc len)) (Some (suc n)) None
next_place n len = grind arith

pub place_is : (h : ℕ) (seats : List Seat) → place_in h seats ≡ position (λ (s : Seat). s.desk.host == h) seats
place_is h [] = refl
place_is h (s ∷ seats) = by (place_is h seats) (s.desk.host == h) refl
  where
    by : place_in h seats ≡ position (λ (t : Seat). t.desk.host == h) seats → (b : Bool) → (s.desk.host == h) ≡ b
        → place_in h (s ∷ seats) ≡ position (λ (t : Seat). t.desk.host == h) (s ∷ seats)
    by later b q = grind arith
