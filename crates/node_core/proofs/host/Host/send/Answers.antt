use Rattle.node_core.proofs.host.Host.send.Goals as goal

pub send-requires-clause-some : goal.send-requires-clause-some
send-requires-clause-some g c = c.self.invariant

pub returns-clause-refusal : goal.returns-clause-refusal
returns-clause-refusal g c = rw (← c.self.view_is) c.send.ensures.refusal

pub returns-clause-given : goal.returns-clause-given
returns-clause-given g c = rw (← c.self.view_is) c.send.ensures.given
