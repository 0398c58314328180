use Rattle.lines_told.proofs.lines.Told.{round_is, round_told, takes_so}
use Rattle.lines_told.proofs.rounds.lines_of_a_round_do_what_it_does.Goals as goal

pub returns-clause-end : goal.returns-clause-end
returns-clause-end c = λ w e. (takes_so w e).world

pub returns-clause-end_told : goal.returns-clause-end_told
returns-clause-end_told c = λ w e. (takes_so w e).told

pub returns-clause-round : goal.returns-clause-round
returns-clause-round c = round_is

pub returns-clause-told : goal.returns-clause-told
returns-clause-told c = round_told
