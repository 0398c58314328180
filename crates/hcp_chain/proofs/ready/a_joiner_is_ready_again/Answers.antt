use Rattle.hcp_chain.proofs.ReadyLemmas.{ready_given, ready_passed}
use Rattle.hcp_chain.proofs.ready.a_joiner_is_ready_again.Goals as goal

pub returns-clause-given : goal.returns-clause-given
returns-clause-given c = ready_given

pub returns-clause-passed : goal.returns-clause-passed
returns-clause-passed c = ready_passed
