use Rattle.worked_examples.proofs.nodes.Node.activate.Goals as goal

pub fetch-none-requires-clause-stands : goal.fetch-none-requires-clause-stands
fetch-none-requires-clause-stands g c = (_, c.activate-report.ensures.stands c.self.invariant.0.state c.self.invariant.0.stands)
