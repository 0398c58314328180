use Rattle.worked_examples.proofs.RelayLemmas.{rests_beside, turned}
use Rattle.worked_examples.proofs.relays.Relay.take_back.Goals as goal

pub pass_on-requires-clause-stands : goal.pass_on-requires-clause-stands
pass_on-requires-clause-stands g c = (_, c.take_lpdu-report.ensures.stands c.self.invariant.1.state c.self.invariant.1.stands)

pub pass_on-requires-clause-rests : goal.pass_on-requires-clause-rests
pass_on-requires-clause-rests g c =
    let i = c.self.invariant in
    rests_beside c.self.inside.pool c.take_lpdu-report.new.pool c.self.inside.second.link c.take_lpdu-report.new.self.link c.self.inside.first.link
    i.1.state i.1.stands
    c.take_lpdu-report.ensures.elsewhere (turned c.self.inside.first.link c.self.inside.second.link i.2) i.0
