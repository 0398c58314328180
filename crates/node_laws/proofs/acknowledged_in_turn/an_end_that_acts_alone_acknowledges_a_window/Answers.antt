use Rattle.node_laws.proofs.acked.BareRounds.{good_start}
use Rattle.node_laws.proofs.acked.InTurn.{far_acks, near_acks, none_acks}
use Rattle.node_laws.proofs.acknowledged_in_turn.an_end_that_acts_alone_acknowledges_a_window.Goals as goal

pub returns-clause-controller : goal.returns-clause-controller
returns-clause-controller c l s before a events may at = near_acks events _ may (good_start l s before a) at

pub returns-clause-host : goal.returns-clause-host
returns-clause-host c l s before a events may at = far_acks events _ may (good_start l s before a) at

pub returns-clause-none : goal.returns-clause-none
returns-clause-none c l s before a events may none = none_acks events _ may (good_start l s before a) none
