use Rattle.swp_decode.proofs.Names.{Some, ap, subst, sym, symbols, unwrap_or, ◌∙◌}
use Rattle.swp_frame.specs.Kept.{DeframerStandsFor}
use Rattle.swp_frame.specs.Words.{part_bits}
use Rattle.swp_frame.proofs.Places.{ends_in}
use Rattle.swp_decode.proofs.FurtherFrames.{symbols-readings_on, start_of-readings_on, front_at_end}
use Rattle.swp_decode.proofs.signal.SignalReader.read_part.Goals as goal
use Rattle.swp_decode.proofs.signal.SignalReader.read_part.Goals.{then-ones-part, else-ones-part}

pub returns : goal.returns
returns c older reads behind quiet =
    let place = c.args.place in
    let part = c.args.part in
    let ends = ends_in part.width part.bits c.trailing_ones-ones.result part.few part.bits_fit c.trailing_ones-ones.ensures in
    let front = front_at_end place part.width part.bits c.trailing_ones-ones.result older c.requires.some ends in
    record {
      frames = subst (DeframerStandsFor c.feed_part.new.self) (sym (symbols-readings_on place (part_bits part) older))
          (c.feed_part.ensures (symbols older) reads.frames behind quiet);
      front = elim c.if-ones-part.branch [
        | then-ones-part w ↦ ap (λ n. Some n) w.self-is ∙ sym (front.1 w.if-ones-part.true)
        | else-ones-part w ↦ ap (λ n. Some n) (w.self-is ∙ w.unwrap_or.ensures ∙ ap (λ o. unwrap_or o place) reads.front) ∙ sym (front.0 w.if-ones-part.false)
      ];
      start = reads.start ∙ sym (start_of-readings_on place (part_bits part) older quiet);
    }
