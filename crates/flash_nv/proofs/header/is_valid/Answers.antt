use Rattle.std.proofs.Common.{sym, arith}
use Rattle.flash_nv.proofs.PutLemmas.{valid_from, invalid_from}
use Rattle.flash_nv.proofs.header.is_valid.Goals as goal

pub returns-then-header-i : goal.returns-then-header-i
returns-then-header-i c = sym (invalid_from c.args.header.now c.loop-i.i c.loop-i-test.true c.if-header-i.true)

pub returns : goal.returns
returns c = sym (valid_from c.args.header.now (λ k small. c.loop-i.invariant k (omega (arith, c.loop-i-test.false))))
