use Rattle.worked_examples.proofs.nodes.Node.take_byte.Goals as goal

pub fetch-message-requires-clause-stands : goal.fetch-message-requires-clause-stands
fetch-message-requires-clause-stands g c =
    let i = c.self.invariant in
    (_, c.take_byte-report.ensures.stands i.0.state i.2.0 i.0.stands i.2.1)
