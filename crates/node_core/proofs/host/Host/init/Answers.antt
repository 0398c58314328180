use Rattle.node_core.proofs.host.Host.init.Goals as goal

pub init-requires-clause-some : goal.init-requires-clause-some
init-requires-clause-some g c = c.self.invariant

pub returns-clause-refusal : goal.returns-clause-refusal
returns-clause-refusal g c = rw (← c.self.view_is) c.init.ensures.refusal

pub returns-clause-begun : goal.returns-clause-begun
returns-clause-begun g c = rw (← c.self.view_is) c.init.ensures.begun
