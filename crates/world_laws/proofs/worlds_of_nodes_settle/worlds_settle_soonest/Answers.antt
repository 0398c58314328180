use Rattle.world_laws.proofs.Words.{first_rest, world_after_round, world_rests}
use Rattle.world_laws.proofs.worlds.WorldRounds.{settling_is}
use Rattle.world_laws.proofs.worlds_of_nodes_settle.worlds_settle_soonest.Goals as goal

pub returns-clause-least : goal.returns-clause-least
returns-clause-least c = first_rest world_rests world_after_round

pub returns-clause-rounds : goal.returns-clause-rounds
returns-clause-rounds c = settling_is
