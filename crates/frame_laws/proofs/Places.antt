-- The open frame by the places of marks.
use Rattle.std.proofs.Common.{◌≡◌, ℕ, suc, ◌<◌, List, [], ◌∷◌, ◌++◌, Option, Some, None, option_map, length, drop, refl, sym, ap, ◌∙◌, subst, arith}
use Rattle.std.specs.Prelude.{◌↔◌}
use Rattle.swp_frame.specs.Signal.{Symbol, Mark, start_mark, end_mark, no_mark, break_mark, mark_of, since_mark, since_start}
use Rattle.frame_laws.specs.Marks.{IsOpenSince}

-- one more element that ends no mark
longer : (newest : Symbol) (older s : List Symbol) → mark_of (newest ∷ older) ≡ no_mark → IsOpenSince older s → IsOpenSince (newest ∷ older) (newest ∷ s)
longer newest older s none is = record {
  front = is.front;
  whole = ap (λ xs. newest ∷ xs) is.whole;
  starts = is.starts;
  later = places;
}
  where
    places : (k : ℕ) → k < length (newest ∷ s) → mark_of (drop k (newest ∷ older)) ≡ no_mark
    places x0 h = grind arith

found : (mark : Mark) (newest : Symbol) (older since : List Symbol) (before : Option (List Symbol)) → mark_of (newest ∷ older) ≡ mark
    → ((s : List Symbol) → before ≡ Some s → IsOpenSince older s) → since_mark mark newest before ≡ Some since → IsOpenSince (newest ∷ older) since
found start_mark newest older [] before is inner e = grind arith
found start_mark newest older (x ∷ since) before is inner e = absurd (cc)
found end_mark newest older since before is inner e = absurd (cc)
found break_mark newest older since before is inner e = absurd (cc)
found no_mark newest older since None is inner e = absurd (cc)
found no_mark newest older since (Some s) is inner e = let h0 = longer newest older s is (inner s refl) in grind arith

opened : (seen since : List Symbol) → since_start seen ≡ Some since → IsOpenSince seen since
opened [] since e = absurd (cc)
opened (newest ∷ older) since e = found (mark_of (newest ∷ older)) newest older since (since_start older) refl (λ s h. opened older s h) e

is_open : (since front : List Symbol) → mark_of front ≡ start_mark → ((k : ℕ) → k < length since → mark_of (drop k (since ++ front)) ≡ no_mark)
    → since_start (since ++ front) ≡ Some since
is_open [] front starts later = grind arith
is_open (x ∷ since) front starts later =
    ap (λ m. since_mark m x (since_start (since ++ front))) (later 0 (omega arith))
    ∙ ap (option_map (λ s. x ∷ s)) (is_open since front starts (λ k h. later (suc k) (omega arith)))

pub by_places : (seen since : List Symbol) → (since_start seen ≡ Some since) ↔ IsOpenSince seen since
by_places seen since = (
  opened seen since,
  λ is. subst (λ xs. since_start xs ≡ Some since) (sym is.whole)
      (is_open since is.front is.starts (λ k h. subst (λ xs. mark_of (drop k xs) ≡ no_mark) is.whole (is.later k h))),
)
