use Rattle.std.proofs.Common.{◌≢◌}
use Rattle.swp_decode.proofs.Names.{Bool, List, ReadSymbol, Some, Symbol, [], ap, arith, break, cond, drop, eqb, eqb-true, false, front_of, mark_of, no_mark}
use Rattle.swp_decode.proofs.Names.{refl, run_of, start_after, start_of, suc, symbols, true, unwrap_or, ℕ, ◌++◌, ◌∙◌, ◌∷◌, ◌≡◌}
use Rattle.swp_frame.specs.Signal.{Mark, bit_0, bit_1, break_mark, end_mark, start_mark}
use Rattle.swp_decode.specs.Starts.{place_in_front, first_bit, IsSinceStart}
use Rattle.swp_decode.proofs.laws.start_is_the_place_of_the_first_bit.Goals as goal

-- The start of a frame stands at the place of its first bit.
-- the first 1 bit of a run
front_of_one : (r : ReadSymbol) (older : List ReadSymbol) → r.symbol ≡ bit_1 → run_of (symbols older) ≡ 0
    → front_of (r ∷ older) ≡ Some (place_in_front (r ∷ older))
front_of_one r older is e = grind arith

front_of_run : (n : ℕ) (readings : List ReadSymbol) → run_of (symbols readings) ≡ suc n → front_of readings ≡ Some (place_in_front (drop n readings))
front_of_run n [] e = absurd (omega (arith, e))
front_of_run n (r ∷ older) e = by_symbol r.symbol refl n e (λ m run. front_of_run m older run)
  where
    by_symbol : (s : Symbol) → r.symbol ≡ s → (n : ℕ) → run_of (symbols (r ∷ older)) ≡ suc n
        → ((m : ℕ) → run_of (symbols older) ≡ suc m → front_of older ≡ Some (place_in_front (drop m older)))
        → front_of (r ∷ older) ≡ Some (place_in_front (drop n (r ∷ older)))
    by_symbol s same n e further = grind arith

start_at_first_bit : (readings : List ReadSymbol) → mark_of (symbols readings) ≡ start_mark → start_of readings ≡ first_bit readings
start_at_first_bit [] h = absurd (cc)
start_at_first_bit (r ∷ older) h =
    ap (λ m. start_after m (front_of older) (start_of older)) h ∙ ap (λ f. unwrap_or f 0) (front_of_run 5 older (six r.symbol h))
  where
    by_run : (b : Bool) → eqb (run_of (symbols older)) 6 ≡ b → cond b start_mark no_mark ≡ start_mark → run_of (symbols older) ≡ 6
    by_run true e h = eqb-true (run_of (symbols older)) 6 e
    by_run false e h = absurd (cc)

    never : (b : Bool) → cond b end_mark no_mark ≡ start_mark → ⊥
    never true h = cc
    never false h = cc

    six : (s : Symbol) → mark_of (s ∷ symbols older) ≡ start_mark → run_of (symbols older) ≡ 6
    six bit_0 h = by_run (eqb (run_of (symbols older)) 6) refl h
    six bit_1 h = absurd (never (eqb (run_of (symbols older)) 6) h)
    six break h = absurd (cc)

start_since : (since front : List ReadSymbol) → IsSinceStart since front → start_of (since ++ front) ≡ first_bit front
start_since [] front is = start_at_first_bit front is.starts
start_since (r ∷ since) front is =
    other (mark_of (symbols (r ∷ since ++ front))) (is.later 0 (omega arith))
    ∙ start_since since front (record { starts = is.starts; later = λ k h. is.later (suc k) (omega arith) })
  where
    other : (m : Mark) → m ≢ start_mark → start_after m (front_of (since ++ front)) (start_of (since ++ front)) ≡ start_of (since ++ front)
    other start_mark ne = absurd (ne refl)
    other end_mark ne = refl
    other break_mark ne = refl
    other no_mark ne = refl

pub returns-clause-mark : goal.returns-clause-mark
returns-clause-mark c = start_at_first_bit

pub returns-clause-last : goal.returns-clause-last
returns-clause-last c = start_since
