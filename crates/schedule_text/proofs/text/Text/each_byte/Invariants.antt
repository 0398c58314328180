use Rattle.schedule_text.proofs.Names.{HoldsWords, List, Start, byte_text, map, take, ℕ, ◌++◌, ◌∷◌}
use Rattle.schedule_text.proofs.text.Text.each_byte.Given as goal

abbrev pub invariant-loop-byte : goal.invariant-loop-byte
invariant-loop-byte l =
    (start : Start) (first : List ℕ) (more : List (List ℕ)) → HoldsWords start (first ∷ more) l.fn.self
    → HoldsWords start (first ∷ (more ++ map byte_text (take l.byte-index l.bytes))) l.self
