use Rattle.std.proofs.Common.{◌≡◌, ◌∙◌, sym, ap, ℕ, arith}
use Rattle.gate_admin.specs.Decide.{shares}
use Rattle.gate_admin.specs.View.{hosts_where, mask_of}
use Rattle.gate_admin.proofs.ViewLemmas.{hosts_below, mask_of-taken, hosts_below-left, double}
use Rattle.gate_admin.proofs.pipes.sharing_mask.Goals as goal
use Rattle.gate_admin.proofs.pipes.sharing_mask.Goals.{then-shares, else-shares}

pub loop-other-preserved : goal.loop-other-preserved
loop-other-preserved c =
    let test = shares c.args.tables.now c.args.view.now c.args.host in
    let so_far = c.loop-other.invariant.0 in
    let small = c.loop-other.invariant.1 in
    let from = c.loop-other.auto.other in
    let twice = double c.loop-other.other in
    elim c.if-shares.branch [
      | then-shares w ↦
          let is = w.mask-is in
          let bit = w.bit_of-mask.ensures in
          let more = mask_of-taken test c.loop-other.other from (sym c.shares.ensures ∙ w.if-shares.true) in
          (omega arith, omega arith)
      | else-shares w ↦
          let is = w.mask-is in
          let same = ap mask_of (hosts_below-left test c.loop-other.other from (sym c.shares.ensures ∙ w.if-shares.false)) in
          (omega arith, omega arith)
    ]

pub returns : goal.returns
unfolding hosts_where
returns c =
    let end : c.loop-other.other ≡ 8 = omega arith in
    c.loop-other.invariant.0 ∙ ap (λ (other : ℕ). mask_of (hosts_below (shares c.args.tables.now c.args.view.now c.args.host) other)) end
