use Rattle.node_laws.proofs.Words.{refl, session_of_port}
use Rattle.node_laws.proofs.passes.Replying.{counts_one, noted_so, reply_noted, taken_at_once}
use Rattle.node_laws.proofs.passes_of_steps.replies_are_noted.Goals as goal

pub returns-clause-message : goal.returns-clause-message
returns-clause-message c = reply_noted

pub returns-clause-outside : goal.returns-clause-outside
returns-clause-outside c = λ h deeds w on taken counts. noted_so (session_of_port w.ports) h deeds w on (λ k. refl) taken counts

pub returns-clause-taken : goal.returns-clause-taken
returns-clause-taken c = taken_at_once

pub returns-clause-counted : goal.returns-clause-counted
returns-clause-counted c = counts_one
