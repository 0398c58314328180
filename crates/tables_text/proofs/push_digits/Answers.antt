use Rattle.std.proofs.Common.{◌++◌, sym, ap, ◌∙◌, append-nil, arith}
use Rattle.tables_text.proofs.TextLemmas.{encode-none, digits_more}
use Rattle.tables_text.proofs.push_digits.Goals as goal

pub loop-byte-init : goal.loop-byte-init
loop-byte-init c = (sym (ap (λ digits. c.args.line.now.items ++ digits) encode-none ∙ append-nil c.args.line.now.items), c.requires.start)

pub loop-byte-preserved : goal.loop-byte-preserved
loop-byte-preserved c = (
  digits_more c.args.line.now.items c.args.bytes.now c.loop-byte.byte-index _ _ _ (omega arith) c.loop-byte.invariant.0
      (c.high_digit.ensures, c.low_digit.ensures) c.push.ensures.items c.push-in-loop-byte.ensures.items,
  omega (arith, c.loop-byte.invariant.1, c.push.ensures.len, c.push-in-loop-byte.ensures.len),
)
