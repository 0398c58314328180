use Rattle.shdlc_core.specs.Histories.{shdlc_end_after}
use Rattle.shdlc_core.proofs.Histories.{new-Holds}
use Rattle.shdlc_core.proofs.Timers.{none-runs, empty-runs, new-timed, up-session}
use Rattle.shdlc_core.proofs.laws.timers_run_only_while_an_answer_is_awaited.Goals as goal

pub returns-clause-ready : goal.returns-clause-ready
returns-clause-ready c = λ w inputs low high asked up sent busy.
    let e = shdlc_end_after w inputs in
    (up-session e.phase e.session e.timer up (new-timed w inputs (low, high) asked).session).1
    (none-runs e.session (new-Holds w inputs).ordered (sent, busy))

pub returns-clause-empty : goal.returns-clause-empty
returns-clause-empty c = λ w inputs low high asked up all.
    let e = shdlc_end_after w inputs in
    (up-session e.phase e.session e.timer up (new-timed w inputs (low, high) asked).session).1
    (empty-runs e.session (new-Holds w inputs).ordered all)

pub returns-clause-ticks : goal.returns-clause-ticks
returns-clause-ticks c = λ w inputs low high asked. (new-timed w inputs (low, high) asked).timer

pub returns-clause-tries : goal.returns-clause-tries
returns-clause-tries c = λ w inputs low high asked. (new-timed w inputs (low, high) asked).tries
