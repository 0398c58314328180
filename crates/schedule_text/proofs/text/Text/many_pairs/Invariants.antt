use Rattle.schedule_text.proofs.Names.{HoldsText, List, Start, encode_upper, length, ℕ, ◌++◌, ◌≡◌}
use Rattle.schedule_text.proofs.text.Text.many_pairs.Given as goal

-- the digits of a front of the bytes were appended
abbrev pub invariant-pieces : goal.invariant-pieces
invariant-pieces l =
    (front : List ℕ) × ((front ++ l.left ≡ l.bytes)
    × ((start : Start) (text : List ℕ) → HoldsText start text l.fn.self → HoldsText start (text ++ encode_upper front) l.self))

abbrev pub decreases-pieces : goal.decreases-pieces
decreases-pieces l = length l.left
