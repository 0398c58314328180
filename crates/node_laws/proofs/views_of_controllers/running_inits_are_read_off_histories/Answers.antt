use Rattle.node_laws.proofs.views.Lines.{inits_read, inits_read_events}
use Rattle.node_laws.proofs.views_of_controllers.running_inits_are_read_off_histories.Goals as goal

pub returns : goal.returns
returns c = record {
  events = λ header lines t follows are begun front back parts h host. inits_read_events h host header lines t follows are begun front back parts;
  lines = λ header lines t follows are begun h host. inits_read h host header lines t follows are begun;
}
