use Rattle.node_laws.proofs.Words.{entries_in, new_world, world_behind}
use Rattle.node_laws.proofs.order.Lines.{history_so}
use Rattle.node_laws.proofs.creations.Knowing.{asides_are}
use Rattle.node_laws.proofs.creations.Events.{history_keeps}
use Rattle.node_laws.proofs.rooms.Holding.{spares_read}
use Rattle.node_laws.proofs.blocks_to_spare.blocks_to_spare_are_read_off_histories.Goals as goal

pub returns : goal.returns
returns c = λ header lines t follows are playable sent few front back q h s found.
    let hosts = header.hosts.items in
    spares_read hosts front (world_behind (new_world hosts) front) h s (history_so header lines t follows are playable front back q)
    (asides_are hosts (entries_in front) (world_behind (new_world hosts) front) (history_keeps header lines t follows are sent few front back q)) found
