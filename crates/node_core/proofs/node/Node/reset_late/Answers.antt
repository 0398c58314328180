use Rattle.node_core.proofs.Words.{FewAreDue, IsInStep, None, Option, Port, Some, Work, add-one, arith, refl, slice_get, subst, suc, sym, ◌∙◌, ◌≡◌}
use Rattle.node_core.proofs.Ticking.{few_there, none_past, either_there}
use Rattle.node_core.proofs.Lateness.{late_so_far, no_reset_yet, next_reset, all_reset, reset_past, reset_there}
use Rattle.node_core.proofs.node.Node.reset_late.Goals as goal

pub loop-i-init : goal.loop-i-init
loop-i-init g c = record {
  store = refl;
  number = refl;
  goes = λ start w u few.
      subst (λ v. IsInStep c.args.self.now (g.W.Watch.noted c.args.watch.now) (g.W.Watch.is_short c.args.watch.now) start v) (sym (no_reset_yet w)) u;
}

pub reset_late_at-requires : goal.reset_late_at-requires
reset_late_at-requires g c =
    let r = c.requires.may in
    let P : Option Port → Type 0 = λ o. FewAreDue o in record {
      may = (
        r.0,
        late_so_far c.loop-i.i r.1,
        c.loop-i.invariant.goes r.0 r.1 r.2 r.3,
        subst P (sym (reset_there c.loop-i.i r.1)) (few_there c.loop-i.i r.1.ports r.3),
      );
    }

pub loop-i-preserved : goal.loop-i-preserved
loop-i-preserved g c =
    let t = c.reset_late_at in
    record {
      store = t.ensures.store ∙ c.loop-i.invariant.store;
      number = t.ensures.number ∙ c.loop-i.invariant.number;
      goes = λ start w u few.
          let i = c.loop-i.i in
          let P : Work → Type 0 = λ v. IsInStep t.new.self (g.W.Watch.noted t.new.watch) (g.W.Watch.is_short t.new.watch) start v in
          let now = c.loop-i.invariant.goes start w u few in
          let there : (p : Port) → slice_get w.ports i ≡ Some p → P (late_so_far (suc i) w) = λ p is.
          subst P (next_reset i w p is) (t.ensures.carried start (late_so_far i w) p now (reset_there i w ∙ is)) in
          let past : slice_get w.ports i ≡ None → P (late_so_far (suc i) w) = λ none.
          subst P (reset_past i w (none_past i w.ports none)) (t.ensures.none start (late_so_far i w) now (reset_there i w ∙ none)) in
          subst (λ m. P (late_so_far m w)) (sym (add-one i)) (either_there (slice_get w.ports i) refl there past);
    }

pub returns-clause-carried : goal.returns-clause-carried
returns-clause-carried g c start w u few =
    let P : Work → Type 0 = λ v. IsInStep c.loop-i.self (g.W.Watch.noted c.loop-i.watch) (g.W.Watch.is_short c.loop-i.watch) start v in
    let past = c.loop-i-test.false in
    subst P (all_reset c.loop-i.i w (omega (arith, c.count-i-end.ensures w.ports u.ends, past))) (c.loop-i.invariant.goes start w u few)
