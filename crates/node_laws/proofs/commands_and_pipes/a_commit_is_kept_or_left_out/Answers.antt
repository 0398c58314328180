use Rattle.node_laws.proofs.kept.Reckoned.{commit_count, planned_knows, planned_left}
use Rattle.node_laws.proofs.commands_and_pipes.a_commit_is_kept_or_left_out.Goals as goal

pub returns : goal.returns
returns c = record {
  kept = planned_knows;
  count = λ m s t c knows sorted may command room. commit_count m.content s t c knows sorted may command room;
  cut = planned_left;
}
