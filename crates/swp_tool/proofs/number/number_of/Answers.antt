use Rattle.std.proofs.Common.{◌<◌, ◌^◌, ◌∙◌, arith}
use Rattle.std.proofs.lemmas.Fmt.{parse-decimal}
use Rattle.swp_tool.proofs.Numerals.{same_number}
use Rattle.swp_tool.proofs.number.number_of.Goals as goal

pub returns-in_default-clause-none : goal.returns-in_default-clause-none
returns-in_default-clause-none c =
    λ none n few is.
    let small : n < 2 ^ 32 = omega arith in let fits : n < 2 ^ 64 = omega arith in
    c.in_default.not-Ok n (parse-decimal 32 n c.args.word.now c.parse.result small fits is c.parse.ensures.value.0)

pub returns-else-is_decimal-clause-none : goal.returns-else-is_decimal-clause-none
returns-else-is_decimal-clause-none c =
    λ none n few is.
    let small : n < 2 ^ 32 = omega arith in let fits : n < 2 ^ 64 = omega arith in
    same_number c.parse.result c.in-Ok.n n c.as_bytes.result.now c.is_decimal.result c.in-Ok.is
    (parse-decimal 32 n c.args.word.now c.parse.result small fits is c.parse.ensures.value.0) (c.as_bytes.ensures.value ∙ is) c.is_decimal.ensures.1
    c.if-is_decimal.false
