use Rattle.node_core.proofs.Words.{EndsStandFor, IsInStep, List, Port, add-one, all_changed, arith, first_changed, next_changed, none_changed, refl, subst, sym}
use Rattle.node_core.proofs.Words.{with_older, ℕ, ◌+◌}
use Rattle.node_core.proofs.Lateness.{ends_changed, young_next}
use Rattle.node_core.proofs.node.Node.grow_older.Goals as goal

pub loop-i-init : goal.loop-i-init
loop-i-init g c = record {
  store = refl;
  number = refl;
  ends = λ ports e. (let P : List Port → Type 0 = λ l. EndsStandFor c.args.self.now.ends l in subst P (sym (none_changed with_older ports)) e);
  goes = λ noted short start w u.
      let P : List Port → Type 0 = λ l. IsInStep c.args.self.now noted short start (record w { ports = l }) in
      subst P (sym (none_changed with_older w.ports)) u;
}

pub grow_older-requires : goal.grow_older-requires
grow_older-requires g c =
    let y = c.requires.young in
    (first_changed c.loop-i.i with_older y.0, c.loop-i.invariant.ends y.0 y.1, young_next c.loop-i.i y.0 y.2)

pub loop-i-preserved : goal.loop-i-preserved
loop-i-preserved g c =
    let i = c.loop-i.i in
    let t = c.grow_older in
    let next : (ports : List Port) → EndsStandFor c.args.self.now.ends ports → EndsStandFor t.new.self (first_changed (i + 1) with_older ports) =
    λ ports e.
    let P : ℕ → Type 0 = λ m. EndsStandFor t.new.self (first_changed m with_older ports) in
    let Q : List Port → Type 0 = λ l. EndsStandFor t.new.self l in
    subst P (sym (add-one i)) (subst Q (next_changed i with_older ports) (t.ensures (first_changed i with_older ports) (c.loop-i.invariant.ends ports e))) in
    record {
      store = c.loop-i.invariant.store;
      number = c.loop-i.invariant.number;
      ends = next;
      goes = λ noted short start w u. ends_changed (first_changed (i + 1) with_older w.ports) (c.loop-i.invariant.goes noted short start w u)
          (next w.ports u.ends);
    }

pub returns-clause-carried : goal.returns-clause-carried
returns-clause-carried g c noted short start w u =
    let many = c.count-i-end.ensures w.ports u.ends in
    let P : List Port → Type 0 = λ l. IsInStep c.loop-i.self noted short start (record w { ports = l }) in
    subst P (all_changed c.loop-i.i with_older w.ports (omega (arith, many, c.loop-i-test.false))) (c.loop-i.invariant.goes noted short start w u)
