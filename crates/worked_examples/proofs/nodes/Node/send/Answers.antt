use Rattle.worked_examples.proofs.nodes.Node.send.Goals as goal

pub fetch-none-requires-clause-stands : goal.fetch-none-requires-clause-stands
fetch-none-requires-clause-stands c = (_, c.send-sent.ensures.stands c.self.invariant.0.state c.self.invariant.0.stands)
