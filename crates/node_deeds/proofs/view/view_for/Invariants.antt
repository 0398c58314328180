use Rattle.node_deeds.specs.Desks.{configured_by, connected_by, noticed_by, asked_by}
use Rattle.node_deeds.proofs.Views.{IsMaskBelow}
use Rattle.node_deeds.proofs.view.view_for.Given as goal

abbrev pub invariant-loop-other : goal.invariant-loop-other
invariant-loop-other l = record {
  hosts : IsMaskBelow (configured_by l.desks) l.other l.hosts;
  connected : IsMaskBelow (connected_by l.tables l.up l.desks) l.other l.connected;
  noticed : IsMaskBelow (noticed_by l.desks) l.other l.noticed;
  asked : IsMaskBelow (asked_by l.desks) l.other l.asked;
}
