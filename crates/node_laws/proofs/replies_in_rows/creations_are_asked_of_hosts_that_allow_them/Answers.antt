use Rattle.node_laws.proofs.answers.Rules.{near_asked_as_allowed}
use Rattle.node_laws.proofs.replies_in_rows.creations_are_asked_of_hosts_that_allow_them.Goals as goal

pub returns : goal.returns
returns c = near_asked_as_allowed
