use Rattle.world_laws.proofs.worlds.FewCauses.{again, each_can, one_behind_other}
use Rattle.world_laws.proofs.rounds_as_causes.causes_of_events_do_them_again.Goals as goal

pub returns-clause-again : goal.returns-clause-again
returns-clause-again c = again

pub returns-clause-each : goal.returns-clause-each
returns-clause-each c = each_can

pub returns-clause-behind : goal.returns-clause-behind
returns-clause-behind c = one_behind_other
