-- The parts of the unit were read.
use Rattle.std.proofs.Common.{◌-◌, length, take, drop, refl, sym, arith}
use Rattle.byte_link.proofs.UnderWay.{first_unit}
use Rattle.byte_link.proofs.link.first_lpdu.Goals as goal

pub returns-in-Ok : goal.returns-in-Ok
returns-in-Ok c =
    let bytes = c.args.bytes.now in
    let rest = take (length bytes - 2) (drop 2 bytes) in
    first_unit bytes c.in-Ok.lpdu.now rest c.from-count.result c.in-len2-up.len_at_least refl (omega (arith, c.if-high-ne0.false)) (sym c.from-count.ensures)
    (omega (arith, c.from-count.ensures, c.if-low-eq0.false)) (omega (arith, c.from-count.ensures, c.from.ensures, c.if-from-gt-MAX_COUNT.false))
    c.if-rest-count.false c.in-Ok.ensures.said c.in-Ok.ensures.length
