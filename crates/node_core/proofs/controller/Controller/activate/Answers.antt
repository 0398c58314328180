use Rattle.node_core.proofs.Words.{IfOk-at_ok, port_at}
use Rattle.node_core.proofs.Behind.{power_may_start}
use Rattle.node_core.proofs.SeenAsNode.{seen_may, never_refused}
use Rattle.node_core.proofs.controller.Controller.activate.Goals as goal

pub step-stepped-requires : goal.step-stepped-requires
step-stepped-requires g c =
    let m = seen_may c.self.view_is c.requires.may in
    (m.core, m.ports, m.runs, m.sent, power_may_start c.args.power (port_at m.ports c.args.host) c.requires.power)

pub unwrap-requires : goal.unwrap-requires
unwrap-requires g c =
    let m = seen_may c.self.view_is c.requires.may in never_refused c.step-stepped.result (c.step-stepped.ensures.refusal m.core m.ports m.runs)

pub returns-clause-stepped : goal.returns-clause-stepped
returns-clause-stepped g c = rw (← c.self.view_is) (IfOk-at_ok _ c.unwrap.ensures c.step-stepped.ensures.stepped)
