use Rattle.schedule_text.proofs.Names.{HoldsText, [], arith, decimal, spaced, subst, sym, ◌++◌, ◌∷◌}
use Rattle.schedule_text.proofs.GrowthLemmas.{holds_word, holds_spaced, three_decimals, four_decimals}
use Rattle.schedule_text.proofs.text.Text.long_number.Goals as goal

pub returns-then-number-lt1000 : goal.returns-then-number-lt1000
returns-then-number-lt1000 c =
    λ start first more h.
    holds_spaced start first (decimal c.args.number) more _
    (subst (λ ds. HoldsText start (spaced (first ∷ more) ++ (32 ∷ ds)) c.push_few.new.self) (sym (three_decimals c.args.number (omega arith) (omega arith)))
    (c.push_few.ensures start (spaced (first ∷ more)) h))

pub returns-then-number-lt10000 : goal.returns-then-number-lt10000
returns-then-number-lt10000 c =
    λ start first more h.
    holds_spaced start first (decimal c.args.number) more _
    (subst (λ ds. HoldsText start (spaced (first ∷ more) ++ (32 ∷ ds)) c.push_few-then-number-lt10000.new.self)
    (sym (four_decimals c.args.number (omega arith) (omega arith)))
    (c.push_few-then-number-lt10000.ensures start (spaced (first ∷ more)) h))

pub returns : goal.returns
returns c =
    λ start first more h.
    holds_word start first (decimal c.args.number) more _
    (c.digits.ensures start (spaced (first ∷ more) ++ (32 ∷ [])) (c.push_few-2.ensures start (spaced (first ∷ more)) h))
