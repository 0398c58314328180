-- Both are digits, or one isn't.
use Rattle.std.proofs.Common.{sym, ◌∙◌}
use Rattle.schedule_text.proofs.HexLemmas.{no_high, no_low, two_digits}
use Rattle.schedule_text.proofs.values.pair_of.Goals as goal

pub returns-in_err-first : goal.returns-in_err-first
returns-in_err-first c = rw c.from_residual.ensures (no_high c.args.high c.args.low (sym c.digit_of.ensures.value ∙ c.in_err-first.was))

pub returns-in_err-second : goal.returns-in_err-second
returns-in_err-second c =
    rw c.from_residual-in_err-second.ensures
    (no_low c.args.high c.args.low c.in_ok-first.first (sym c.digit_of.ensures.value ∙ c.in_ok-first.was)
    (sym c.digit_of-2.ensures.value ∙ c.in_err-second.was))

pub returns : goal.returns
returns c =
    two_digits c.args.high c.args.low c.in_ok-first.first c.in_ok-second.second (sym c.digit_of.ensures.value ∙ c.in_ok-first.was)
    (sym c.digit_of-2.ensures.value ∙ c.in_ok-second.was)
