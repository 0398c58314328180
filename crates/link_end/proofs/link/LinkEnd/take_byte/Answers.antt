use Rattle.link_end.proofs.Words.{EndStandsFor, after_some, ap, subst, told_some, ◌∙◌}
use Rattle.byte_link.specs.declared.unit.Unit.{Unit as Given}
use Rattle.link_end.specs.Inputs.{unit_input}
use Rattle.link_end.proofs.link.LinkEnd.take_byte.Goals as goal

pub returns-in-Nothing-clause-stands : goal.returns-in-Nothing-clause-stands
returns-in-Nothing-clause-stands c m seen h hs =
    subst (λ u. EndStandsFor c.args.self.now.link c.args.pool.now (after_some m (unit_input u))) (c.in-Nothing.ensures.answer seen hs) h

pub returns-in-Nothing-clause-answer : goal.returns-in-Nothing-clause-answer
returns-in-Nothing-clause-answer c m seen h hs = c.nothing.ensures ∙ ap (λ (u : Given). told_some m (unit_input u)) (c.in-Nothing.ensures.answer seen hs)

pub returns-in-Tick-clause-stands : goal.returns-in-Tick-clause-stands
returns-in-Tick-clause-stands c m seen h hs =
    let P : Given → Type 0 = λ u. EndStandsFor c.tick.new.self.link c.tick.new.pool (after_some m (unit_input u)) in
    subst P (c.in-Tick.ensures.answer seen hs) (c.tick.ensures.stands m h)

pub returns-in-Tick-clause-answer : goal.returns-in-Tick-clause-answer
returns-in-Tick-clause-answer c m seen h hs = c.tick.ensures.answer m h ∙ ap (λ (u : Given). told_some m (unit_input u)) (c.in-Tick.ensures.answer seen hs)

pub returns-in-Frame-clause-stands : goal.returns-in-Frame-clause-stands
returns-in-Frame-clause-stands c m seen h hs =
    let P : Given → Type 0 = λ u. EndStandsFor c.take_lpdu.new.self.link c.take_lpdu.new.pool (after_some m (unit_input u)) in
    subst P (c.in-Frame.ensures.answer seen hs) (c.take_lpdu.ensures.stands m h)

pub returns-in-Frame-clause-answer : goal.returns-in-Frame-clause-answer
returns-in-Frame-clause-answer c m seen h hs =
    c.take_lpdu.ensures.answer m h ∙ ap (λ (u : Given). told_some m (unit_input u)) (c.in-Frame.ensures.answer seen hs)

pub returns-in-Refused-clause-stands : goal.returns-in-Refused-clause-stands
returns-in-Refused-clause-stands c m seen h hs =
    subst (λ u. EndStandsFor c.args.self.now.link c.args.pool.now (after_some m (unit_input u))) (c.in-Refused.ensures.answer seen hs) h

pub returns-in-Refused-clause-answer : goal.returns-in-Refused-clause-answer
returns-in-Refused-clause-answer c m seen h hs = c.take_broken.ensures m ∙ ap (λ (u : Given). told_some m (unit_input u)) (c.in-Refused.ensures.answer seen hs)
