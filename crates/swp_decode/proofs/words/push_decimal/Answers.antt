use Rattle.std.proofs.lemmas.Fmt.{length-decimal-le}
use Rattle.swp_decode.proofs.Names.{ap, arith, decimal, decimal_digit, length, length-append, sym, ◌++◌, ◌∙◌, ◌≤◌}
use Rattle.swp_decode.proofs.words.push_decimal.Goals as goal

pub push_digits-requires : goal.push_digits-requires
push_digits-requires c =
    omega (arith, (length-decimal-le 10 c.args.n (omega arith) (omega (arith, c.ranges.n.fits)) (omega (arith, c.ranges.n.fits))), c.requires)

pub returns-clause-sized : goal.returns-clause-sized
returns-clause-sized c =
    let short : length (decimal c.args.n) ≤ 10 =
    length-decimal-le 10 c.args.n (omega arith) (omega (arith, c.ranges.n.fits)) (omega (arith, c.ranges.n.fits)) in
    omega (arith, short, ap length c.push_digits.ensures, length-append c.args.text.now.items (decimal c.args.n))

pub returns-then-n-lt10-clause-items : goal.returns-then-n-lt10-clause-items
returns-then-n-lt10-clause-items c = c.push.ensures.items ∙ ap (λ xs. c.args.text.now.items ++ xs) (sym (decimal_digit c.args.n c.if-n-lt10.true))
