use Rattle.link_wires.proofs.Words.{List, Some, [], answers_after, ap, drop, false, get_or, map, option_or, sym, symbol_of, ℕ, ◌+◌, ◌∙◌, ◌∷◌, ◌≡◌}
use Rattle.link_wires.proofs.Damages.{told_in, judged_in, read_one}
use Rattle.link_wires.proofs.damage.first_read.Goals as goal
use Rattle.link_wires.proofs.damage.first_read.Goals.{in-Nothing, in-Refused}

pub loop-bit-init : goal.loop-bit-init
loop-bit-init c = ([], c.new-deframer.ensures, λ lpdu. judged_in lpdu (answers_after [] (map symbol_of c.args.bits.now)))

pub loop-bit-preserved : goal.loop-bit-preserved
loop-bit-preserved c =
    let seen = c.loop-bit.invariant.0 in
    let k = c.loop-bit.bit-index in
    let bit = get_or c.args.bits.now k false in
    let later = answers_after (symbol_of bit ∷ seen) (map symbol_of (drop (k + 1) c.args.bits.now)) in
    let step : (lpdu : List ℕ) → told_in lpdu c.loop-bit.refused (c.feed.result ∷ later) ≡ told_in lpdu c.match-feed.refused later =
    λ lpdu. elim c.match-feed.branch [
      | in-Nothing w ↦
          ap (λ fed. told_in lpdu c.loop-bit.refused (fed ∷ later)) w.in-Nothing.is ∙ ap (λ r. told_in lpdu r later) (sym w.refused-is)
      | in-Refused w ↦
          let now = w.or-refused.ensures ∙ ap (λ cause. option_or c.loop-bit.refused (Some cause)) w.lost_for.ensures in
          ap (λ fed. told_in lpdu c.loop-bit.refused (fed ∷ later)) w.in-Refused.is ∙ ap (λ r. told_in lpdu r later) (sym (w.refused-is ∙ now))
    ] in (
      symbol_of bit ∷ seen,
      c.feed.ensures.stands seen c.loop-bit.invariant.1,
      λ lpdu. c.loop-bit.invariant.2 lpdu
          ∙ read_one lpdu c.loop-bit.refused c.match-feed.refused seen c.args.bits.now k false c.loop-bit-test.true
          (c.feed.ensures.answer seen c.loop-bit.invariant.1) (step lpdu),
    )
