use Rattle.schedule_text.proofs.Names.{HoldsText, arith, decimal, decimal_digit, spaced, subst, sym, ◌++◌, ◌∷◌}
use Rattle.schedule_text.proofs.GrowthLemmas.{holds_spaced, two_decimals}
use Rattle.schedule_text.proofs.text.Text.number.Goals as goal

pub returns-then-number-lt10 : goal.returns-then-number-lt10
returns-then-number-lt10 c =
    λ start first more h.
    holds_spaced start first (decimal c.args.number) more _
    (subst (λ ds. HoldsText start (spaced (first ∷ more) ++ (32 ∷ ds)) c.push_few.new.self) (sym (decimal_digit c.args.number (omega arith)))
    (c.push_few.ensures start (spaced (first ∷ more)) h))

pub returns-then-number-lt100 : goal.returns-then-number-lt100
returns-then-number-lt100 c =
    λ start first more h.
    holds_spaced start first (decimal c.args.number) more _
    (subst (λ ds. HoldsText start (spaced (first ∷ more) ++ (32 ∷ ds)) c.push_few-then-number-lt100.new.self)
    (sym (two_decimals c.args.number (omega arith) (omega arith)))
    (c.push_few-then-number-lt100.ensures start (spaced (first ∷ more)) h))
