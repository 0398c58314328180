use Rattle.lines_told.proofs.lines.Told.{takes_on}
use Rattle.lines_told.proofs.rounds.lines_of_a_round_do_what_its_causes_do.Goals as goal

pub returns : goal.returns
returns c = takes_on
