use Rattle.swp_frame.proofs.Words.{Some, ap, sym, trailing_ones, w32, ◌%◌, ◌*◌, ◌+◌, ◌-◌, ◌^◌, ◌∙◌}
use Rattle.swp_frame.proofs.WritingLemmas.{fifths, lined_is, run_is}
use Rattle.swp_frame.proofs.frame_bits.run_behind.Goals as goal

pub returns-then-five-eq0 : goal.returns-then-five-eq0
returns-then-five-eq0 c =
    let ones = c.args.ones in
    let lined = ap (λ b. (1 * 2 ^ ones % 4294967296 - 1) * 256 % 4294967296 + b) c.from.ensures ∙ lined_is ones c.args.byte c.requires in
    ap Some (c.trailing_ones.ensures ∙ ap (trailing_ones w32) lined)
    ∙ (run_is ones c.args.byte c.requires c.ranges.byte.fits).0 (sym (ap fifths lined) ∙ c.if-five-eq0.true)

pub returns-else-five-eq0 : goal.returns-else-five-eq0
returns-else-five-eq0 c =
    let ones = c.args.ones in
    let lined = ap (λ b. (1 * 2 ^ ones % 4294967296 - 1) * 256 % 4294967296 + b) c.from.ensures ∙ lined_is ones c.args.byte c.requires in
    (run_is ones c.args.byte c.requires c.ranges.byte.fits).1 (λ zero. c.if-five-eq0.false (ap fifths lined ∙ zero))
