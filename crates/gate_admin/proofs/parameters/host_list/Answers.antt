use Rattle.std.proofs.Common.{◌≡◌, ◌∙◌, ◌∷◌, ◌++◌, [], sym, ap, List, ℕ, length, arith}
use Rattle.gate_admin.specs.View.{hosts_where, is_configured}
use Rattle.gate_admin.proofs.ViewLemmas.{hosts_below, hosts_below-taken, hosts_below-left}
use Rattle.gate_admin.proofs.parameters.host_list.Goals as goal
use Rattle.gate_admin.proofs.parameters.host_list.Goals.{then-is_configured, else-is_configured}

pub loop-host-preserved : goal.loop-host-preserved
loop-host-preserved c =
    let test = is_configured c.args.view.now in
    let so_far = c.loop-host.invariant.0 in
    let few = c.loop-host.invariant.1 in
    let from = c.loop-host.auto.host in
    elim c.if-is_configured.branch [
      | then-is_configured w ↦
          let passed = sym c.is_configured.ensures ∙ w.if-is_configured.true in
          let len = w.push-then-is_configured.ensures.len in (
            ap (λ v. v.items) w.hosts-is ∙ w.push-then-is_configured.ensures.items ∙ ap (λ (hosts : List ℕ). hosts ++ c.loop-host.host ∷ []) so_far
                ∙ sym (ap (λ (hosts : List ℕ). 0 ∷ hosts) (hosts_below-taken test c.loop-host.host from passed)),
            let same = ap (λ v. length v.items) w.hosts-is in omega arith,
          )
      | else-is_configured w ↦
          let failed = sym c.is_configured.ensures ∙ w.if-is_configured.false in (
            ap (λ v. v.items) w.hosts-is ∙ so_far ∙ sym (ap (λ (hosts : List ℕ). 0 ∷ hosts) (hosts_below-left test c.loop-host.host from failed)),
            let same = ap (λ v. length v.items) w.hosts-is in omega arith,
          )
    ]

pub returns : goal.returns
unfolding hosts_where
returns c =
    let end : c.loop-host.host ≡ 8 = omega arith in
    c.loop-host.invariant.0 ∙ ap (λ (host : ℕ). 0 ∷ hosts_below (is_configured c.args.view.now) host) end
