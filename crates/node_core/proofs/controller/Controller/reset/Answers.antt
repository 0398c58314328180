use Rattle.node_core.proofs.SeenAsNode.{seen_may}
use Rattle.node_core.proofs.controller.Controller.reset.Goals as goal

pub step-requires : goal.step-requires
step-requires g c = let m = seen_may c.self.view_is c.requires.may in (m.core, m.ports, m.runs, m.sent, c.requires.window)

pub returns-clause-refusal : goal.returns-clause-refusal
returns-clause-refusal g c = rw (← c.self.view_is) c.in-Ok.ensures.refusal

pub returns-clause-stepped : goal.returns-clause-stepped
returns-clause-stepped g c = rw (← c.self.view_is) c.in-Ok.ensures.stepped

pub returns-in-Err-clause-refusal : goal.returns-in-Err-clause-refusal
returns-in-Err-clause-refusal g c = rw (← c.self.view_is) c.in-Err.ensures.refusal

pub returns-in-Err-clause-unchanged : goal.returns-in-Err-clause-unchanged
returns-in-Err-clause-unchanged g c = rw (← c.self.view_is) c.in-Err.ensures.unchanged
