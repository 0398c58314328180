use Rattle.std.proofs.Common.{◌<◌, ◌^◌, ◌∙◌, sym, arith}
use Rattle.swp_tool.proofs.Numerals.{is_one_digit, is_longer, ends_so, some_digits, decides_not, decides_as, none_before}
use Rattle.swp_tool.proofs.number.+is_decimal.Goals as goal

pub returns-in_default : goal.returns-in_default
returns-in_default t c =
    let small : c.args.n < 2 ^ 64 = omega arith in decides_not (λ q. some_digits c.args.n small (sym q ∙ c.parted.ensures.none c.in_default.is))

pub returns-then-from-n : goal.returns-then-from-n
returns-then-from-n t c =
    let small : c.args.n < 2 ^ 64 = omega arith in
    decides_not
    (λ q. c.if-from-n.true
    (c.from.ensures ∙ ends_so c.args.n c.args.digits.now c.in-Some.front.now c.in-Some.last.now small c.in-Some.ensures.some q))

pub returns-then-n-lt10 : goal.returns-then-n-lt10
returns-then-n-lt10 t c =
    decides_as c.is_empty.result (none_before c.in-Some.front.now c.is_empty.result c.is_empty.ensures)
    (is_one_digit c.args.n c.args.digits.now c.in-Some.front.now c.in-Some.last.now c.if-n-lt10.true c.in-Some.ensures.some
    (sym c.from.ensures ∙ c.if-from-n.false))

pub returns-else-n-lt10 : goal.returns-else-n-lt10
returns-else-n-lt10 t c =
    let small : c.args.n < 2 ^ 64 = omega arith in
    decides_as c.is_decimal.result c.is_decimal.ensures
    (is_longer c.args.n c.args.digits.now c.in-Some.front.now c.in-Some.last.now c.if-n-lt10.false small c.in-Some.ensures.some
    (sym c.from.ensures ∙ c.if-from-n.false))
