-- What holds of the filters of a history.
use Rattle.history.proofs.Words.{End, arith, same_end, true, ◌≡◌}

-- an end is itself
pub same_end_itself : (e : End) → same_end e e ≡ true
same_end_itself e = grind arith
