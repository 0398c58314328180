use Rattle.schedule_text.proofs.Names.{HoldsText, [], arith, subst, ◌∙◌}
use Rattle.schedule_text.proofs.GrowthLemmas.{encode-none, digits_from, three_words, three_are, four_are}
use Rattle.schedule_text.proofs.text.Text.frame.Goals as goal

pub returns-in-Some : goal.returns-in-Some
returns-in-Some c start h =
    let word = c.args.word.now in
    let bytes = c.args.bytes.now in
    let rest = c.in-Some.rest.now in
    subst (λ t. HoldsText start t c.pairs.new.self)
    (three_words (four_are word (omega arith)) (three_are c.letters_of.result (omega arith) ∙ c.letters_of.ensures)
    (digits_from c.digits_of.result bytes rest c.in-Some.first.now (omega arith) c.digits_of.ensures c.in-Some.ensures.cases.0))
    (c.pairs.ensures start _ (c.push_few.ensures start [] h))

pub returns-in-None : goal.returns-in-None
returns-in-None c start h =
    subst (λ t. HoldsText start t c.push_few-in-None.new.self)
    (three_words (four_are c.args.word.now (omega arith)) (three_are c.letters_of.result (omega arith) ∙ c.letters_of.ensures)
    (encode-none c.args.bytes.now c.in-None.ensures.cases))
    (c.push_few-in-None.ensures start [] h)
