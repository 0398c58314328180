use Rattle.node_laws.proofs.rsets.InWorlds.{few_behind_step, few_in_new_world, numbers_in_worlds, numbers_behind, numbers_fit, numbers_fit_behind}
use Rattle.node_laws.proofs.rsets_of_worlds.rsets_of_a_world_come_of_ticks_and_resets.Goals as goal

pub returns-clause-step : goal.returns-clause-step
returns-clause-step c = few_behind_step

pub returns-clause-first : goal.returns-clause-first
returns-clause-first c = few_in_new_world

pub returns-clause-all : goal.returns-clause-all
returns-clause-all c = numbers_in_worlds

pub returns-clause-events : goal.returns-clause-events
returns-clause-events c = numbers_behind

pub returns-clause-fit : goal.returns-clause-fit
returns-clause-fit c = numbers_fit

pub returns-clause-events_fit : goal.returns-clause-events_fit
returns-clause-events_fit c = numbers_fit_behind
