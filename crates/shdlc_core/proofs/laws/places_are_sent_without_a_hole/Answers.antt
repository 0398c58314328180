use Rattle.shdlc_core.proofs.Words.{arith, shdlc_end_after}
use Rattle.shdlc_core.proofs.FramesDue.{frame-fragment}
use Rattle.shdlc_core.proofs.Histories.{new-Holds, next-fragment}
use Rattle.shdlc_core.proofs.laws.places_are_sent_without_a_hole.Goals as goal

pub returns-clause-no_hole : goal.returns-clause-no_hole
returns-clause-no_hole c = λ w inputs p q sent lower.
    let k = new-Holds w inputs in let below = (k.sent q).0 sent in (k.sent p).1 (omega arith)

pub returns-clause-acknowledged : goal.returns-clause-acknowledged
returns-clause-acknowledged c = λ w inputs p lower.
    let k = new-Holds w inputs in
    let acked = k.acked in
    let next = k.ordered.next in
    let reached = k.ordered.reached in (k.sent p).1 (omega arith)

pub returns-clause-next : goal.returns-clause-next
returns-clause-next c = λ w inputs ns nr info due.
    let fragment = frame-fragment (shdlc_end_after w inputs) ns nr info due in
    next-fragment (shdlc_end_after w inputs).phase (shdlc_end_after w inputs).session _ ns info (new-Holds w inputs) fragment.0 fragment.1
