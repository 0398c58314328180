use Rattle.swp_tool.proofs.Words.{[], arith, decimal, map, string_bytes, sym, ◌∙◌, ◌∷◌}
use Rattle.swp_tool.proofs.Numerals.{words_given, given_alone}
use Rattle.swp_tool.proofs.number.number_given.Goals as goal

pub returns-in-Some-clause-given : goal.returns-in-Some-clause-given
returns-in-Some-clause-given c = (
  omega arith,
  words_given string_bytes c.args.words.now c.word-item.result c.number-item.result (103 ∷ 101 ∷ 110 ∷ []) (decimal c.in-Some.n) (omega arith)
      (omega arith) c.word-item.is c.number-item.is (sym c.as_bytes.ensures.value ∙ c.is_gen.ensures.0 c.if-is_gen.true)
      (sym c.as_str.ensures.value ∙ c.in-Some.ensures.is),
)

pub returns-in-Some-clause-only : goal.returns-in-Some-clause-only
returns-in-Some-clause-only c = given_alone c.in-Some.n (map string_bytes c.args.words.now) (returns-in-Some-clause-given c)
