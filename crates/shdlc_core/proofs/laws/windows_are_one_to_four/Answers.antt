use Rattle.shdlc_core.specs.Histories.{shdlc_end_after}
use Rattle.shdlc_core.proofs.Timers.{new-timed, up-session}
use Rattle.shdlc_core.proofs.laws.windows_are_one_to_four.Goals as goal

pub returns-clause-low : goal.returns-clause-low
returns-clause-low c = λ w inputs low high asked up.
    let e = shdlc_end_after w inputs in (up-session e.phase e.session e.timer up (new-timed w inputs (low, high) asked).session).0.0

pub returns-clause-high : goal.returns-clause-high
returns-clause-high c = λ w inputs low high asked up.
    let e = shdlc_end_after w inputs in (up-session e.phase e.session e.timer up (new-timed w inputs (low, high) asked).session).0.1
