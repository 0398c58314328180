use Rattle.node_ends.proofs.Words.{ap, is_held, length, not, sym, ◌&&◌, ◌==◌, ◌∙◌}
use Rattle.node_ends.proofs.seat.Seat.is_idle.Goals as goal

pub returns-then-not-is_over : goal.returns-then-not-is_over
returns-then-not-is_over c pool m h =
    c.rests.ensures pool m h ∙ ap (λ b. not b && ((length m.got == 0) && not (is_held m))) (sym c.if-not-is_over.true ∙ c.is_over.ensures)
