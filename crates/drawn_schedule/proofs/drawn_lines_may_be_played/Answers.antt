use Rattle.drawn_schedule.proofs.HarmlessLemmas.{lines_may_be_played}
use Rattle.drawn_schedule.proofs.drawn_lines_may_be_played.Goals as goal

pub returns-clause-lines : goal.returns-clause-lines
returns-clause-lines c = lines_may_be_played
