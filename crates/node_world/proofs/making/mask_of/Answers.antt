use Rattle.node_world.proofs.Words.{Bool, ap, arith, hosts_below, list_any, mask_of, sym, ℕ, ◌==◌, ◌∙◌, ◌≡◌}
use Rattle.gate_admin.specs.View.{hosts_where}
use Rattle.gate_admin.proofs.ViewLemmas.{double, hosts_below-left, mask_of-taken}
use Rattle.node_world.proofs.making.mask_of.Goals as goal
use Rattle.node_world.proofs.making.mask_of.Goals.{then-contains, else-contains}

pub loop-host-preserved : goal.loop-host-preserved
loop-host-preserved c =
    let test : ℕ → Bool = λ host. list_any (λ k. k == host) c.args.hosts.now in
    let so_far = c.loop-host.invariant.0 in
    let small = c.loop-host.invariant.1 in
    let from = c.loop-host.auto.host-counter in
    let twice = double c.loop-host.host-counter in
    elim c.if-contains.branch [
      | then-contains w ↦
          let is = w.mask-is in
          let bit = w.bit_of-mask.ensures in
          let more = mask_of-taken test c.loop-host.host-counter from (sym c.contains.ensures.value ∙ w.if-contains.true) in
          (omega arith, omega arith)
      | else-contains w ↦
          let is = w.mask-is in
          let same = ap mask_of (hosts_below-left test c.loop-host.host-counter from (sym c.contains.ensures.value ∙ w.if-contains.false)) in
          (omega arith, omega arith)
    ]

pub returns : goal.returns
unfolding hosts_where
returns c =
    let end : c.loop-host.host-counter ≡ 8 = omega arith in
    c.loop-host.invariant.0 ∙ ap (λ (other : ℕ). mask_of (hosts_below (λ (host : ℕ). list_any (λ (k : ℕ). k == host) c.args.hosts.now) other)) end
