use Rattle.schedule_text.proofs.Names.{HoldsWords, List, Start, encode_upper, map, take, ℕ, ◌++◌, ◌∷◌}
use Rattle.schedule_text.proofs.text.Text.each_three.Given as goal

abbrev pub invariant-loop-three : goal.invariant-loop-three
invariant-loop-three l =
    (start : Start) (first : List ℕ) (more : List (List ℕ)) → HoldsWords start (first ∷ more) l.fn.self
    → HoldsWords start (first ∷ (more ++ map encode_upper (take l.three-index l.threes))) l.self
