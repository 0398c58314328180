use Rattle.node_laws.proofs.bounds.SessionsNoted.{sessions_in_history}
use Rattle.node_laws.proofs.bounds_of_resets.sessions_of_histories_have_few_numbers.Goals as goal

pub returns : goal.returns
returns c = sessions_in_history
