use Rattle.node_laws.proofs.answers.Rules.{near_sent_as_allowed}
use Rattle.node_laws.proofs.replies_in_rows.messages_go_back_or_are_relayed_as_allowed.Goals as goal

pub returns : goal.returns
returns c = near_sent_as_allowed
