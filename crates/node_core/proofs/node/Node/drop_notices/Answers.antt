use Rattle.node_core.proofs.Words.{EndsStandFor, IsInStep, List, Port, add-one, all_changed, arith, first_changed, next_changed, none_changed, refl, subst, sym}
use Rattle.node_core.proofs.Words.{without_notice, ◌+◌}
use Rattle.node_core.proofs.Ticking.{many_ports}
use Rattle.node_core.proofs.Lateness.{ends_changed}
use Rattle.node_core.proofs.node.Node.drop_notices.Goals as goal

pub loop-i-init : goal.loop-i-init
loop-i-init g c = record {
  store = refl;
  number = refl;
  ends = λ ports e. (let P : List Port → Type 0 = λ l. EndsStandFor c.args.self.now.ends l in subst P (sym (none_changed without_notice ports)) e);
  goes = λ noted short start w u.
      let P : List Port → Type 0 = λ l. IsInStep c.args.self.now noted short start (record w { ports = l }) in
      subst P (sym (none_changed without_notice w.ports)) u;
}

pub loop-i-preserved : goal.loop-i-preserved
loop-i-preserved g c =
    let i = c.loop-i.i in
    let t = c.drop_notice in
    let next : (ports : List Port) → EndsStandFor c.args.self.now.ends ports → EndsStandFor t.new.self (first_changed (i + 1) without_notice ports) =
    λ ports e.
    let Q : List Port → Type 0 = λ l. EndsStandFor t.new.self l in
    subst (λ m. EndsStandFor t.new.self (first_changed m without_notice ports)) (sym (add-one i))
    (subst Q (next_changed i without_notice ports) (t.ensures (first_changed i without_notice ports) (c.loop-i.invariant.ends ports e))) in
    record {
      store = c.loop-i.invariant.store;
      number = c.loop-i.invariant.number;
      ends = next;
      goes = λ noted short start w u. ends_changed (first_changed (i + 1) without_notice w.ports) (c.loop-i.invariant.goes noted short start w u)
          (next w.ports u.ends);
    }

pub returns-clause-carried : goal.returns-clause-carried
returns-clause-carried g c noted short start w u =
    let many = many_ports c.args.self.now.ends w.ports u.ends in
    let P : List Port → Type 0 = λ l. IsInStep c.loop-i.self noted short start (record w { ports = l }) in
    subst P (all_changed c.loop-i.i without_notice w.ports (omega (arith, many, c.loop-i-test.false))) (c.loop-i.invariant.goes noted short start w u)
