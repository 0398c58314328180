use Rattle.worked_examples.proofs.nodes.Node.take_lpdu.Goals as goal

pub fetch-message-requires-clause-stands : goal.fetch-message-requires-clause-stands
fetch-message-requires-clause-stands g c = (_, c.take_lpdu-report.ensures.stands c.self.invariant.0.state c.self.invariant.0.stands)
