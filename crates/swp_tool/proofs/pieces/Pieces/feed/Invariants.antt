use Rattle.swp_tool.proofs.Words.{HasRead, IsReading, List, bytes_left, length, ℕ, ◌++◌, ◌+◌, ◌≡◌, ◌≤◌}
use Rattle.swp_tool.proofs.pieces.Pieces.feed.Given as goal

-- lines in front of the piece were read, and have left fewer bytes to come
abbrev pub invariant-lines : goal.invariant-lines
invariant-lines l =
    (front : List ℕ) × (front ++ l.left ≡ l.piece) × IsReading l.self
    × ((bytes written : List ℕ) → HasRead l.fn.self bytes written → HasRead l.self (bytes ++ front) written)
    × (bytes_left l.self + length front ≤ bytes_left l.fn.self)

abbrev pub decreases-lines : goal.decreases-lines
decreases-lines l = length l.left
