use Rattle.worked_nodes.proofs.Words.{ap, arith, due_as_far_as, refl, subst, suc, ℕ, ◌+◌, ◌∙◌, ◌≡◌}
use Rattle.worked_nodes.proofs.Fetching.{one_more_host, one_more_handed, sending_all_begins, all_hosts_had, handed_none, handed_as}
use Rattle.worked_nodes.proofs.library.send_all.Goals as goal

pub loop-host-init : goal.loop-host-init
loop-host-init g c = ((λ core ports r. (0, refl, sending_all_begins r, handed_none _ _)), refl)

pub send_to-requires : goal.send_to-requires
send_to-requires g c =
    let b = (c.loop-host.invariant.0 c.requires.runs.0 c.requires.runs.1 c.requires.runs.2).2 in
    record { runs = (c.requires.runs.0, b.ports, b.runs) }

pub loop-host-preserved : goal.loop-host-preserved
loop-host-preserved g c = (
  (λ core ports r.
      let i = c.loop-host.invariant.0 core ports r in
      let b = i.2 in (
        suc i.0,
        omega (arith, i.1),
        one_more_host b (c.send_to.ensures.sent core b.ports b.runs),
        one_more_handed ports b.ports i.1 (b.later c.loop-host.host (omega arith)) i.3 (c.send_to.ensures.handed core b.ports b.runs),
      )),
  c.send_to.ensures.store ∙ c.loop-host.invariant.1,
)

pub returns : goal.returns
returns g c = record {
  sent = λ core ports r. all_hosts_had (omega (arith, c.loop-host-test.false)) (c.loop-host.invariant.0 core ports r).2;
  handed = λ core ports r.
      let i = c.loop-host.invariant.0 core ports r in
      let most = c.loop-host.auto.host-end (omega arith) in
      let seven : i.0 ≡ 7 = omega (arith, i.1, c.loop-host-test.false, most) in
      handed_as (ap (λ j. due_as_far_as j ports) seven) i.3;
  store = c.loop-host.invariant.1;
}
