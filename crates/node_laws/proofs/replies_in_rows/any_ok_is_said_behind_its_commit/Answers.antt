use Rattle.node_laws.proofs.answers.Rules.{all_in_order}
use Rattle.node_laws.proofs.replies_in_rows.any_ok_is_said_behind_its_commit.Goals as goal

pub returns : goal.returns
returns c = all_in_order
