use Rattle.std.proofs.Common.{sym}
use Rattle.link_end.proofs.StepLemmas.{tick_stands, tick_told}
use Rattle.link_end.proofs.«end».End.tick_link.Goals as goal

pub returns-clause-stands : goal.returns-clause-stands
returns-clause-stands c m h =
    let e = c.tick-ticked.ensures in
    let f = c.forget_if.ensures in
    tick_stands (record { before = h; stands = e.stands; answer = e.answer }) c.is_some.result (sym c.is_some.ensures) f.over f.going

pub returns-clause-answer : goal.returns-clause-answer
returns-clause-answer c m h =
    let e = c.tick-ticked.ensures in
    tick_told (record { before = h; stands = e.stands; answer = e.answer }) c.nothing.ensures
