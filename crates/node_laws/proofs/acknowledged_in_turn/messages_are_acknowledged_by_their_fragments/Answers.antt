use Rattle.node_laws.proofs.acked.BareRounds.{good_start}
use Rattle.node_laws.proofs.acked.InTurn.{whole_few}
use Rattle.node_laws.proofs.acknowledged_in_turn.messages_are_acknowledged_by_their_fragments.Goals as goal

pub returns-clause-controller : goal.returns-clause-controller
returns-clause-controller c l s events a = whole_few _ (good_start l s events a).0.controller

pub returns-clause-host : goal.returns-clause-host
returns-clause-host c l s events a = whole_few _ (good_start l s events a).0.host
