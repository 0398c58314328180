-- The input forms of a link end.
use Rattle.link_end.proofs.Words.{Control, HasNumbers, Machine, Some, arith, next_frame, ◌≡◌}

-- a frame that is sent has numbers below 8
pub next_numbers : (m : Machine) (c : Control) → next_frame m ≡ Some c → HasNumbers c
next_numbers m c is = grind arith
