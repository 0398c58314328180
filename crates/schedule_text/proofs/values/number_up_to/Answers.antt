use Rattle.std.proofs.Common.{◌+◌, nat_le, drop, sym, ◌∙◌, ap, arith}
use Rattle.schedule_text.specs.Values.{option_if}
use Rattle.schedule_text.proofs.NumbersLemmas.{onward_at, onward_above}
use Rattle.schedule_text.proofs.values.number_up_to.Goals as goal

pub returns-then-next-from : goal.returns-then-next-from
returns-then-next-from c =
    let e = c.loop-digit.invariant.0
    ∙ onward_at c.loop-digit.number c.loop-digit.digit-index c.args.word.now (omega arith)
    (sym c.is_ascii_digit.ensures.value ∙ c.if-not-is_ascii_digit.false) in
    sym (ap (option_if (λ n. nat_le n c.args.high)) e
    ∙ onward_above _ c.args.high (drop (c.loop-digit.digit-index + 1) c.args.word.now) (omega arith))

pub loop-digit-preserved : goal.loop-digit-preserved
loop-digit-preserved c =
    let e = c.loop-digit.invariant.0
    ∙ onward_at c.loop-digit.number c.loop-digit.digit-index c.args.word.now (omega arith)
    (sym c.is_ascii_digit.ensures.value ∙ c.if-not-is_ascii_digit.false) in
    (rw (c.from.ensures, c.from-in-loop-digit.ensures) e, omega arith)
