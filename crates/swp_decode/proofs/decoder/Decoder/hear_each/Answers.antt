use Rattle.swp_decode.proofs.Names.{DecoderStandsFor, S1, S2, ap, arith, frame_given, get_or, length, reverse, subst, take, ◌++◌, ◌<◌, ◌∙◌, ◌∷◌}
use Rattle.swp_decode.proofs.FurtherFrames.{reverse-more, frames_behind-more}
use Rattle.swp_decode.proofs.decoder.Decoder.hear_each.Goals as goal

pub loop-byte-preserved : goal.loop-byte-preserved
loop-byte-preserved c =
    let i = c.loop-byte.byte-index in
    let bytes = c.args.bytes.now in
    let kept = c.loop-byte.invariant in
    let within : i < length bytes = omega arith in
    record {
      count = omega arith;
      stands = λ older old. subst (DecoderStandsFor c.hear.new.self) (reverse-more older bytes i within)
          (c.hear.ensures.stands (reverse (take i bytes) ++ older) (kept.stands older old));
      heard = λ older old.
          let seen = get_or bytes i 0 ∷ (reverse (take i bytes) ++ older) in
          c.hear.ensures.heard (reverse (take i bytes) ++ older) (kept.stands older old)
          ∙ ap (λ frames. (frames ++ frame_given S1 seen) ++ frame_given S2 seen) (kept.heard older old)
          ∙ frames_behind-more older bytes i within;
      sized = omega arith;
    }
