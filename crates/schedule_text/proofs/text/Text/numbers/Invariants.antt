use Rattle.schedule_text.proofs.Names.{HoldsWords, List, Start, decimal, map, take, ℕ, ◌++◌, ◌∷◌}
use Rattle.schedule_text.proofs.text.Text.numbers.Given as goal

abbrev pub invariant-loop-number : goal.invariant-loop-number
invariant-loop-number l =
    (start : Start) (first : List ℕ) (more : List (List ℕ)) → HoldsWords start (first ∷ more) l.fn.self
    → HoldsWords start (first ∷ (more ++ map decimal (take l.number-index l.numbers))) l.self
