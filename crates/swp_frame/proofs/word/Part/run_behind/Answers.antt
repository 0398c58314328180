use Rattle.std.proofs.Common.{arith}
use Rattle.swp_frame.proofs.Places.{ends_in, run_at_end}
use Rattle.swp_frame.proofs.word.Part.run_behind.Goals as goal

pub returns-then-last-self : goal.returns-then-last-self
returns-then-last-self c =
    let own = c.args.self in
    let ends = ends_in own.width own.bits c.trailing_ones-last.result own.few own.bits_fit c.trailing_ones-last.ensures in
    omega (arith, c.min.ensures, (run_at_end own.width own.bits c.trailing_ones-last.result c.args.ones ends).1 c.if-last-self.true)

pub returns-else-last-self : goal.returns-else-last-self
returns-else-last-self c =
    let own = c.args.self in
    let ends = ends_in own.width own.bits c.trailing_ones-last.result own.few own.bits_fit c.trailing_ones-last.ensures in
    omega (
      arith,
      c.min-else-last-self.ensures,
      c.from.ensures,
      (run_at_end own.width own.bits c.trailing_ones-last.result c.args.ones ends).0 c.if-last-self.false,
    )
