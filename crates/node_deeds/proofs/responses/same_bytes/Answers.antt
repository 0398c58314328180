use Rattle.std.proofs.Common.{◌∙◌}
use Rattle.std.specs.Cmp.Lexicographic.{same_text, other_text}
use Rattle.node_deeds.proofs.SameBytes.{same_by}
use Rattle.node_deeds.proofs.responses.same_bytes.Goals as goal

pub returns : goal.returns
returns c =
    let one = c.args.one.now in
    let other = c.args.other.now in
    c.eq.ensures ∙ same_by one other _ (same_text one other) (other_text one other)
