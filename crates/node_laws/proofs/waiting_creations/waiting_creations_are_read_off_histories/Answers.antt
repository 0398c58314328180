use Rattle.node_laws.proofs.creations.Events.{history_keeps, schedule_keeps}
use Rattle.node_laws.proofs.waiting_creations.waiting_creations_are_read_off_histories.Goals as goal

pub returns : goal.returns
returns c = record {
  events = λ header lines t follows are sent few front back q. (history_keeps header lines t follows are sent few front back q).read;
  lines = λ header lines t follows are sent few. (schedule_keeps header lines t follows are sent few).read;
}
