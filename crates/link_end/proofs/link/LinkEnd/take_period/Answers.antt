use Rattle.link_end.proofs.Words.{Bool, EndStandsFor, Fed, Option, Some, after_some, ap, fed_input, subst, sym, told_some, ◌∙◌, ◌∷◌}
use Rattle.swp_frame.specs.Signal.{symbol_of}
use Rattle.swp_frame.specs.Verdicts.{verdict}
use Rattle.swp_frame.specs.Kept.{DeframerStandsFor}
use Rattle.swp_line.specs.declared.period.Period.{Period}
use Rattle.link_end.specs.Inputs.{after_period, heard_after, heard_bit, told_period}
use Rattle.link_end.proofs.link.LinkEnd.take_period.Goals as goal

pub returns-in-Some-Bits-clause-stands : goal.returns-in-Some-Bits-clause-stands
returns-in-Some-Bits-clause-stands c m seen h hs =
    let fed = c.feed-fed.ensures.answer seen hs ∙ ap (λ (b : Bool). verdict (symbol_of b ∷ seen)) (c.heard_bit.ensures c.args.pool.now m h) in
    let P : Fed → Type 0 = λ f. EndStandsFor c.take_fed.new.self.link c.take_fed.new.pool (after_some m (fed_input f)) in
    let Q : Option Period → Type 0 = λ p. EndStandsFor c.take_fed.new.self.link c.take_fed.new.pool (after_period m seen p) in
    subst Q (ap (λ (p : Period). Some p) (sym c.in-Some-Bits.field-0-is) ∙ c.in-Some-Bits.ensures.value) (subst P fed (c.take_fed.ensures.stands m h))

pub returns-in-Some-Bits-clause-answer : goal.returns-in-Some-Bits-clause-answer
returns-in-Some-Bits-clause-answer c m seen h hs =
    let fed = c.feed-fed.ensures.answer seen hs ∙ ap (λ (b : Bool). verdict (symbol_of b ∷ seen)) (c.heard_bit.ensures c.args.pool.now m h) in
    c.take_fed.ensures.answer m h ∙ (ap (λ (f : Fed). told_some m (fed_input f)) fed
    ∙ ap (told_period m seen) (ap (λ (p : Period). Some p) (sym c.in-Some-Bits.field-0-is) ∙ c.in-Some-Bits.ensures.value))

pub returns-in-Some-Bits-clause-seen : goal.returns-in-Some-Bits-clause-seen
returns-in-Some-Bits-clause-seen c m seen h hs =
    let P : Bool → Type 0 = λ b. DeframerStandsFor c.feed-fed.new.self (symbol_of b ∷ seen) in
    let Q : Option Period → Type 0 = λ p. DeframerStandsFor c.take_fed.new.self.deframer (heard_after m.role seen p) in
    subst Q (ap (λ (p : Period). Some p) (sym c.in-Some-Bits.field-0-is) ∙ c.in-Some-Bits.ensures.value) (subst
    (λ d. DeframerStandsFor d (symbol_of (heard_bit m.role c.in-Some-Bits.s1 c.in-Some-Bits.s2) ∷ seen)) (sym c.take_fed.ensures.inputs.0)
    (subst P (c.heard_bit.ensures c.args.pool.now m h) (c.feed-fed.ensures.stands seen hs)))

pub returns-in-Some-Deactivated-clause-stands : goal.returns-in-Some-Deactivated-clause-stands
returns-in-Some-Deactivated-clause-stands c m seen h hs =
    let Q : Option Period → Type 0 = λ p. EndStandsFor c.deactivate-report.new.self c.deactivate-report.new.pool (after_period m seen p) in
    subst Q (ap (λ (p : Period). Some p) (sym c.in-Some-Deactivated.field-0-is) ∙ c.in-Some-Deactivated.ensures.value) (c.deactivate-report.ensures.stands m h)

pub returns-in-None-clause-stands : goal.returns-in-None-clause-stands
returns-in-None-clause-stands c m seen h hs =
    let P : Fed → Type 0 = λ f. EndStandsFor c.take_fed-in-None.new.self.link c.take_fed-in-None.new.pool (after_some m (fed_input f)) in
    let Q : Option Period → Type 0 = λ p. EndStandsFor c.take_fed-in-None.new.self.link c.take_fed-in-None.new.pool (after_period m seen p) in
    subst Q c.in-None.ensures.value (subst P (c.break_off-fed.ensures.answer seen hs) (c.take_fed-in-None.ensures.stands m h))
