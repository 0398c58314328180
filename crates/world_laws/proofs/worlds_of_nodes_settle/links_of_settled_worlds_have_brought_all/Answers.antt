use Rattle.world_laws.proofs.Words.{arith, entries_in, fragments_left, fragments_noted, new_world, world_behind, ◌≤◌}
use Rattle.world_laws.proofs.worlds.WorldRounds.{link_left, reached_behind, world_settled}
use Rattle.world_laws.proofs.worlds_of_nodes_settle.links_of_settled_worlds_have_brought_all.Goals as goal

pub returns-clause-links : goal.returns-clause-links
returns-clause-links c = world_settled

pub returns-clause-noted : goal.returns-clause-noted
returns-clause-noted c = λ header lines t follows are p front back q h s found n k u up fits.
    let left : fragments_left s.link ≤ fragments_noted (entries_in front) h k =
    link_left header.hosts.items (world_behind (new_world header.hosts.items) front) h s (reached_behind header lines t follows are p front back q) found
    k up in
    world_settled header lines t follows are p front back q h s found n u (omega (arith, left, fits))
