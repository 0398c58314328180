use Rattle.node_core.proofs.Words.{EndsStandFor, IsInStep, List, Port, add-one, all_changed, arith, first_changed, forgets, none_changed, refl, subst, sym, ℕ}
use Rattle.node_core.proofs.Words.{◌+◌}
use Rattle.node_core.proofs.Ticking.{many_ports}
use Rattle.node_core.proofs.Lateness.{ends_changed}
use Rattle.node_core.proofs.Forgetting.{next_forgets}
use Rattle.node_core.proofs.node.Node.forget.Goals as goal

pub loop-i-init : goal.loop-i-init
loop-i-init g c = record {
  store = refl;
  number = refl;
  ends = λ ports e. (let P : List Port → Type 0 = λ l. EndsStandFor c.args.self.now.ends l in subst P (sym (none_changed (forgets ports) ports)) e);
  goes = λ noted short start w u.
      let P : List Port → Type 0 = λ l. IsInStep c.args.self.now noted short start (record w { ports = l }) in
      subst P (sym (none_changed (forgets w.ports) w.ports)) u;
}

pub loop-i-preserved : goal.loop-i-preserved
loop-i-preserved g c =
    let i = c.loop-i.i in
    let t = c.forget in
    let next : (ports : List Port) → EndsStandFor c.args.self.now.ends ports → EndsStandFor t.new.self (first_changed (i + 1) (forgets ports) ports) =
    λ ports e.
    let P : ℕ → Type 0 = λ m. EndsStandFor t.new.self (first_changed m (forgets ports) ports) in
    let Q : List Port → Type 0 = λ l. EndsStandFor t.new.self l in
    subst P (sym (add-one i)) (subst Q (next_forgets i ports) (t.ensures (first_changed i (forgets ports) ports) (c.loop-i.invariant.ends ports e))) in
    record {
      store = c.loop-i.invariant.store;
      number = c.loop-i.invariant.number;
      ends = next;
      goes = λ noted short start w u. ends_changed (first_changed (i + 1) (forgets w.ports) w.ports) (c.loop-i.invariant.goes noted short start w u)
          (next w.ports u.ends);
    }

pub returns-clause-carried : goal.returns-clause-carried
returns-clause-carried g c noted short start w u =
    let many = many_ports c.args.self.now.ends w.ports u.ends in
    let past = c.loop-i-test.false in
    let P : List Port → Type 0 = λ l. IsInStep c.loop-i.self noted short start (record w { ports = l }) in
    subst P (all_changed c.loop-i.i (forgets w.ports) w.ports (omega (arith, many, past))) (c.loop-i.invariant.goes noted short start w u)
