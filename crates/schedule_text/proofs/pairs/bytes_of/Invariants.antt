use Rattle.schedule_text.proofs.Names.{IsPairs, List, length, ℕ, ◌++◌, ◌≡◌}
use Rattle.schedule_text.proofs.pairs.bytes_of.Given as goal

-- the bytes are those of a front of the digits
abbrev pub invariant-pieces : goal.invariant-pieces
invariant-pieces l = (front : List ℕ) × ((front ++ l.left ≡ l.digits) × IsPairs front l.bytes.items)

abbrev pub decreases-pieces : goal.decreases-pieces
decreases-pieces l = length l.left

abbrev pub invariant-pairs : goal.invariant-pairs
invariant-pairs l = (front : List ℕ) × ((front ++ l.left ≡ l.digits) × IsPairs front l.bytes.items)

abbrev pub decreases-pairs : goal.decreases-pairs
decreases-pairs l = length l.left
