use Rattle.schedule_text.proofs.Names.{HoldsText, arith, decimal, decimal_digit, subst, sym, ◌++◌, ◌/◌}
use Rattle.schedule_text.proofs.GrowthLemmas.{two_decimals, holds_decimals}
use Rattle.schedule_text.proofs.text.Text.+digits.Goals as goal

pub returns-then-number-lt10 : goal.returns-then-number-lt10
returns-then-number-lt10 t c =
    λ start text h.
    subst (λ ds. HoldsText start (text ++ ds) c.push_few.new.self) (sym (decimal_digit c.args.number (omega arith)))
    (c.push_few.ensures start text h)

pub returns-then-number-lt100 : goal.returns-then-number-lt100
returns-then-number-lt100 t c =
    λ start text h.
    subst (λ ds. HoldsText start (text ++ ds) c.push_few-then-number-lt100.new.self) (sym (two_decimals c.args.number (omega arith) (omega arith)))
    (c.push_few-then-number-lt100.ensures start text h)

pub returns : goal.returns
returns t c =
    λ start text h.
    holds_decimals start text c.args.number _ (omega arith) (omega arith)
    (c.push_few-2.ensures start (text ++ decimal (c.args.number / 100)) (c.digits.ensures start text h))
