use Rattle.shdlc_core.proofs.Words.{Control, ShdlcStandsFor, Up, ap, arith, subst, sym, take_answer, taken, ◌-◌, ◌∙◌, ◌≡◌}
use Rattle.shdlc_core.proofs.Steps.{taken-fragment, take_answer-fragment, answer-acked}
use Rattle.shdlc_core.proofs.shdlc.Shdlc.take.Goals as goal

pub returns-in-Some-clause-stands : goal.returns-in-Some-clause-stands
returns-in-Some-clause-stands c = λ e h.
    let i = c.in-I in
    let up : e.phase ≡ Up = sym h.phase ∙ c.in-Some.ensures.other in
    subst (λ (k : Control). ShdlcStandsFor c.receive-accepted.new.self (taken e k)) (sym i.is)
    (subst (ShdlcStandsFor c.receive-accepted.new.self) (sym (taken-fragment e i.ns i.nr i.info _ up (sym (c.in-Some.ensures.up e h up))))
    (c.receive-accepted.ensures.stands _ (c.in-Some.ensures.stands e h)))

pub returns-in-Some-clause-answer : goal.returns-in-Some-clause-answer
returns-in-Some-clause-answer c = λ e h.
    let i = c.in-I in
    let up : e.phase ≡ Up = sym h.phase ∙ c.in-Some.ensures.other in
    let said = take_answer-fragment e i.ns i.nr i.info _ up (sym (c.in-Some.ensures.up e h up)) in
    let accepted = c.receive-accepted.ensures.accepted _ (c.in-Some.ensures.stands e h) in
    answer-acked _ _ _ _ _ c.nothing-in-I.ensures (omega arith) accepted ∙ sym said ∙ ap (take_answer e) (sym i.is)
