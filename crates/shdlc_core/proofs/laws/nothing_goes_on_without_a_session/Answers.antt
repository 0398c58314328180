use Rattle.shdlc_core.proofs.FramesDue.{frame-fragment}
use Rattle.shdlc_core.proofs.Histories.{idle-fragment, idle-history, new-Holds}
use Rattle.shdlc_core.specs.Histories.{shdlc_end_after}
use Rattle.shdlc_core.proofs.laws.nothing_goes_on_without_a_session.Goals as goal

pub returns-clause-sends : goal.returns-clause-sends
returns-clause-sends c = λ w inputs ns nr info idle due.
    let e = shdlc_end_after w inputs in
    idle-fragment e.phase e.session _ info (new-Holds w inputs) idle (frame-fragment e ns nr info due).0

pub returns-clause-empty : goal.returns-clause-empty
returns-clause-empty c = λ w inputs idle.
    let e = shdlc_end_after w inputs in idle-history e.phase e.session _ (new-Holds w inputs) idle
