use Rattle.lines_told.proofs.lines.Told.{lines_may_be_played, may_play, round_known, sure_below}
use Rattle.lines_told.proofs.schedules_played.lines_of_plays_may_be_played.Goals as goal

pub returns-clause-rounds : goal.returns-clause-rounds
returns-clause-rounds c = round_known

pub returns-clause-played : goal.returns-clause-played
returns-clause-played c = may_play

pub returns-clause-sure : goal.returns-clause-sure
returns-clause-sure c = sure_below

pub returns-clause-plays : goal.returns-clause-plays
returns-clause-plays c = lines_may_be_played
