use Rattle.schedule_text.proofs.Names.{HoldsText, [], ap₂, arith, decimal, decimal_digit, end_text, spaced, subst, sym, ◌++◌, ◌∙◌, ◌∷◌}
use Rattle.schedule_text.proofs.GrowthLemmas.{holds_two, three_are}
use Rattle.schedule_text.proofs.text.Text.end_and_number.Goals as goal

pub returns-then-number-lt10 : goal.returns-then-number-lt10
returns-then-number-lt10 c start first more h =
    holds_two start first (end_text c.args.at) (decimal c.args.number) more _
    (subst (λ t. HoldsText start (spaced (first ∷ more) ++ t) c.push_few.new.self)
    (ap₂ (λ letters digits. 32 ∷ (letters ++ (32 ∷ digits))) (three_are c.letters_of.result (omega arith) ∙ c.letters_of.ensures)
    (sym (decimal_digit c.args.number (omega arith))))
    (c.push_few.ensures start (spaced (first ∷ more)) h))

pub returns : goal.returns
returns c start first more h = c.short_number.ensures start first (more ++ end_text c.args.at ∷ []) (c.end.ensures start first more h)
