use Rattle.node_ends.proofs.Words.{ap, is_up, sym, without_got, ◌∙◌}
use Rattle.node_ends.proofs.seat.Seat.is_up.Goals as goal

pub returns-in-Up : goal.returns-in-Up
returns-in-Up c pool m h = ap is_up (sym c.in-Up.is ∙ c.state.ensures pool (without_got m) h.stands)

pub returns-in-Waiting : goal.returns-in-Waiting
returns-in-Waiting c pool m h = ap is_up (sym c.in-Waiting.is ∙ c.state.ensures pool (without_got m) h.stands)

pub returns-in-Down : goal.returns-in-Down
returns-in-Down c pool m h = ap is_up (sym c.in-Down.is ∙ c.state.ensures pool (without_got m) h.stands)
