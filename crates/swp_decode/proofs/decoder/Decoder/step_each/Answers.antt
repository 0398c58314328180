use Rattle.swp_decode.proofs.Names.{DecoderStandsFor, S1, S2, ap, arith, get_or, length, line_at, reverse, subst, take, ◌++◌, ◌<◌, ◌∙◌, ◌∷◌}
use Rattle.swp_decode.proofs.FurtherFrames.{reverse-more, lines_behind-more}
use Rattle.swp_decode.proofs.decoder.Decoder.step_each.Goals as goal

pub loop-byte-preserved : goal.loop-byte-preserved
loop-byte-preserved c =
    let i = c.loop-byte.byte-index in
    let bytes = c.args.bytes.now in
    let kept = c.loop-byte.invariant in
    let within : i < length bytes = omega arith in
    record {
      count = omega arith;
      stands = λ older old. subst (DecoderStandsFor c.step.new.self) (reverse-more older bytes i within)
          (c.step.ensures.stands (reverse (take i bytes) ++ older) (kept.stands older old));
      lines = λ older old.
          let seen = get_or bytes i 0 ∷ (reverse (take i bytes) ++ older) in
          c.step.ensures.lines (reverse (take i bytes) ++ older) (kept.stands older old)
          ∙ ap (λ text. (text ++ line_at S1 seen) ++ line_at S2 seen) (kept.lines older old)
          ∙ lines_behind-more c.args.text.now.items older bytes i within;
      sized = omega arith;
    }
