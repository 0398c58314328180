use Rattle.node_laws.proofs.Words.{new_world, node_entries, world_after}
use Rattle.node_laws.proofs.creations.Knowing.{asides_are, finds_room}
use Rattle.node_laws.proofs.creations.Events.{schedule_keeps}
use Rattle.node_laws.proofs.waiting_creations.blocks_set_aside_are_read.Goals as goal

pub returns : goal.returns
returns c = record {
  moment = asides_are;
  room = finds_room;
  lines = λ header lines t follows are sent few.
      asides_are header.hosts.items (node_entries t) (world_after (new_world header.hosts.items) lines) (schedule_keeps header lines t follows are sent few);
}
