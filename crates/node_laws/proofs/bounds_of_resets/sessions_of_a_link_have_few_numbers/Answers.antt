use Rattle.node_laws.proofs.Words.{exchanged}
use Rattle.node_laws.proofs.bounds.SessionsNoted.{run_within}
use Rattle.node_laws.proofs.rsets.InWorlds.{few_exchanged, near_low}
use Rattle.node_laws.proofs.bounds_of_resets.sessions_of_a_link_have_few_numbers.Goals as goal

pub returns-clause-near : goal.returns-clause-near
returns-clause-near c = near_low

pub returns-clause-far : goal.returns-clause-far
returns-clause-far c = λ n l comes few. near_low n (exchanged l) comes (few_exchanged n l few)

pub returns-clause-noted : goal.returns-clause-noted
returns-clause-noted c = run_within
