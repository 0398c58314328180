use Rattle.world_laws.proofs.Words.{new_world, rounds_allowed, world_behind}
use Rattle.world_laws.proofs.worlds.WorldRounds.{reached_behind, rounds_are}
use Rattle.world_laws.proofs.worlds_of_nodes_settle.rounds_of_a_world_are_rounds_of_each_undisturbed_link.Goals as goal

pub returns-clause-allowed : goal.returns-clause-allowed
returns-clause-allowed c = λ header lines t follows are p front back q h s found r.
    rounds_allowed r (world_behind (new_world header.hosts.items) front) h s (reached_behind header lines t follows are p front back q).so.well.fine found

pub returns-clause-rounds : goal.returns-clause-rounds
returns-clause-rounds c = λ header lines t follows are p front back q h s found r u.
    rounds_are header.hosts.items h r (world_behind (new_world header.hosts.items) front) s (reached_behind header lines t follows are p front back q) found u
