use Rattle.lines_told.proofs.lines.Told.{played_alone, played_more, plays_more}
use Rattle.lines_told.proofs.schedules_played.plays_come_to_lines_one_after_another.Goals as goal

pub returns-clause-play : goal.returns-clause-play
returns-clause-play c = played_more

pub returns-clause-line : goal.returns-clause-line
returns-clause-line c = plays_more

pub returns-clause-alone : goal.returns-clause-alone
returns-clause-alone c = played_alone
