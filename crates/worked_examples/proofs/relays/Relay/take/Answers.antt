use Rattle.worked_examples.proofs.RelayLemmas.{rests_beside}
use Rattle.worked_examples.proofs.relays.Relay.take.Goals as goal

pub pass_on-requires-clause-stands : goal.pass_on-requires-clause-stands
pass_on-requires-clause-stands g c = (_, c.take_lpdu-report.ensures.stands c.self.invariant.0.state c.self.invariant.0.stands)

pub pass_on-requires-clause-rests : goal.pass_on-requires-clause-rests
pass_on-requires-clause-rests g c =
    let i = c.self.invariant in
    rests_beside c.self.inside.pool c.take_lpdu-report.new.pool c.self.inside.first.link c.take_lpdu-report.new.self.link c.self.inside.second.link
    i.0.state i.0.stands
    c.take_lpdu-report.ensures.elsewhere (i.2) i.1
