use Rattle.node_laws.proofs.Words.{new_world, node_entries, world_after}
use Rattle.node_laws.proofs.creations.Knowing.{if_known}
use Rattle.node_laws.proofs.creations.Events.{schedule_keeps}
use Rattle.node_laws.proofs.waiting_creations.a_controller_knows_the_creations_that_are_read.Goals as goal

pub returns : goal.returns
returns c = record {
  moment = if_known;
  lines = λ header lines t follows are sent few.
      if_known header.hosts.items (node_entries t) (world_after (new_world header.hosts.items) lines) (schedule_keeps header lines t follows are sent few);
}
