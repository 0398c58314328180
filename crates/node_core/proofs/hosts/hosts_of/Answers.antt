use Rattle.node_core.proofs.Words.{List, [], ap, arith, has, hosts_below, length, sym, ℕ, ◌++◌, ◌∙◌, ◌∷◌, ◌≡◌}
use Rattle.gate_admin.specs.View.{hosts_where}
use Rattle.gate_admin.proofs.ViewLemmas.{hosts_below-left, hosts_below-taken}
use Rattle.node_core.proofs.hosts.hosts_of.Goals as goal
use Rattle.node_core.proofs.hosts.hosts_of.Goals.{then-is_in, else-is_in}

pub loop-host-preserved : goal.loop-host-preserved
loop-host-preserved c =
    let test = has c.args.mask in
    let so_far = c.loop-host.invariant.0 in
    let few = c.loop-host.invariant.1 in
    let from = c.loop-host.auto.host in
    elim c.if-is_in.branch [
      | then-is_in w ↦
          let len = w.push.ensures.len in (
            ap (λ v. v.items) w.hosts-is ∙ w.push.ensures.items ∙ ap (λ (hosts : List ℕ). hosts ++ c.loop-host.host ∷ []) so_far
                ∙ sym (hosts_below-taken test c.loop-host.host from (sym c.is_in.ensures ∙ w.if-is_in.true)),
            let same = ap (λ v. length v.items) w.hosts-is in omega arith,
          )
      | else-is_in w ↦
          let failed = sym c.is_in.ensures ∙ w.if-is_in.false in (
            ap (λ v. v.items) w.hosts-is ∙ so_far ∙ sym (hosts_below-left test c.loop-host.host from failed),
            let same = ap (λ v. length v.items) w.hosts-is in omega arith,
          )
    ]

pub returns : goal.returns
unfolding hosts_where
returns c =
    let end : c.loop-host.host ≡ 8 = omega arith in
    c.loop-host.invariant.0 ∙ ap (λ (host : ℕ). hosts_below (has c.args.mask) host) end
