-- The first of some bytes are taken at once.
use Rattle.one_end.proofs.Words.{OnLine, [], ap, bytes_bring, reverse, subst, take, take-take, ◌++◌, ◌∙◌, ◌≡◌}
use Rattle.one_end.specs.Reading.{LineStandsFor}
use Rattle.one_end.proofs.line.LineReader.pass.Goals as goal

pub returns-clause-stands : goal.returns-clause-stands
returns-clause-stands c number older s =
    subst (λ came. LineStandsFor c.pass_bits.new.self number (reverse came ++ older))
    (ap (take c.pass_bits.result) c.in-Some.ensures.cases.0 ∙ take-take c.pass_bits.result 64 c.args.bytes.now c.pass_bits.ensures.within)
    (c.pass_bits.ensures.stands number older s)

pub returns-clause-quiet : goal.returns-clause-quiet
returns-clause-quiet c number older s =
    subst (λ came. bytes_bring OnLine number older came ≡ [])
    (ap (take c.pass_bits.result) c.in-Some.ensures.cases.0 ∙ take-take c.pass_bits.result 64 c.args.bytes.now c.pass_bits.ensures.within)
    (c.pass_bits.ensures.quiet number older s)
