use Rattle.hcp_chain.proofs.ReadyLemmas.{open_after-append, given_by-append, are_taken-append}
use Rattle.hcp_chain.proofs.laws.joining_goes_on.Goals as goal

pub returns-clause-open : goal.returns-clause-open
returns-clause-open c = open_after-append

pub returns-clause-given : goal.returns-clause-given
returns-clause-given c = given_by-append

pub returns-clause-taken : goal.returns-clause-taken
returns-clause-taken c = are_taken-append
