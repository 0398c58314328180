use Rattle.lines_told.proofs.lines.Told.{played_rounds, round_behind_goes, sure_with_round, told_round, told_rounds, told_settling}
use Rattle.lines_told.proofs.rounds.rounds_behind_plays_are_rounds_of_nodes.Goals as goal

pub returns-clause-round : goal.returns-clause-round
returns-clause-round c = round_behind_goes

pub returns-clause-told : goal.returns-clause-told
returns-clause-told c = told_round

pub returns-clause-rounds : goal.returns-clause-rounds
returns-clause-rounds c = played_rounds

pub returns-clause-rounds_told : goal.returns-clause-rounds_told
returns-clause-rounds_told c = told_rounds

pub returns-clause-settles : goal.returns-clause-settles
returns-clause-settles c = told_settling

pub returns-clause-sure : goal.returns-clause-sure
returns-clause-sure c = sure_with_round
