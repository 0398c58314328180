use Rattle.world_laws.proofs.Words.{List, NodeWorld, new_world, world_behind, world_rounds_to_settle, ℕ}
use Rattle.world_laws.proofs.worlds.WorldRounds.{reached_behind}
use Rattle.world_laws.proofs.worlds.FewCauses.{of_rounds, reached_few, reached_small, rounds_few}
use Rattle.world_laws.proofs.rounds_as_causes.worlds_of_histories_settle_by_such_causes.Goals as goal

pub returns-clause-are : goal.returns-clause-are
returns-clause-are c = λ header lines t follows are p front back q n.
    let w : NodeWorld = world_behind (new_world header.hosts.items) front in
    of_rounds (world_rounds_to_settle n w) w (reached_behind header lines t follows are p front back q).so.well.orderly

pub returns-clause-orderly : goal.returns-clause-orderly
returns-clause-orderly c = λ header lines t follows are p front back q. (reached_behind header lines t follows are p front back q).so.well.orderly

pub returns-clause-wires : goal.returns-clause-wires
returns-clause-wires c = λ header lines t follows are p front back q.
    reached_few header.hosts.items (world_behind (new_world header.hosts.items) front) (reached_behind header lines t follows are p front back q)

pub returns-clause-few : goal.returns-clause-few
returns-clause-few c = λ header lines t follows are seven p front back q n.
    let hosts : List ℕ = header.hosts.items in
    let w : NodeWorld = world_behind (new_world header.hosts.items) front in
    let r = reached_behind header lines t follows are p front back q in
    rounds_few (world_rounds_to_settle n w) w (reached_few hosts w r) (reached_small hosts w r seven)
