use Rattle.schedule_text.proofs.Names.{HoldsWords, List, Start, take, ℕ, ◌++◌, ◌∷◌}
use Rattle.schedule_text.specs.Parts.{parts_words}
use Rattle.schedule_text.proofs.text.Text.parts.Given as goal

abbrev pub invariant-loop-part : goal.invariant-loop-part
invariant-loop-part l =
    (start : Start) (first : List ℕ) (more : List (List ℕ)) → HoldsWords start (first ∷ more) l.fn.self
    → HoldsWords start (first ∷ (more ++ parts_words (take l.part-index l.parts))) l.self
