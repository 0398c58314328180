use Rattle.history.proofs.RsetsInBareWorlds.{few_after, numbers_in_bare}
use Rattle.history.proofs.resets_of_bare_worlds.rsets_of_a_bare_world_come_of_ticks_and_resets.Goals as goal

pub returns-clause-step : goal.returns-clause-step
returns-clause-step c = few_after

pub returns-clause-all : goal.returns-clause-all
returns-clause-all c = numbers_in_bare
