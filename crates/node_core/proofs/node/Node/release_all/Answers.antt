use Rattle.node_core.proofs.Words.{IsInStep, List, Release, Releases, Work, add-one, all_done, ap, drop, drop-cons, drop_all, get_or, map, refl, subst, sym}
use Rattle.node_core.proofs.Words.{ℕ, ◌+◌, ◌∙◌, ◌∷◌, ◌≡◌}
use Rattle.node_core.proofs.Freeing.{DoesOn, one_done}
use Rattle.node_core.proofs.Steps.{silent_turn}
use Rattle.node_core.proofs.node.Node.release_all.Goals as goal

pub loop-asker-init : goal.loop-asker-init
loop-asker-init g c = record {
  live = c.requires.live;
  store = refl;
  number = refl;
  goes = λ noted short start w u. record { now = w; under = u; onto = refl };
}

pub loop-asker-preserved : goal.loop-asker-preserved
loop-asker-preserved g c =
    let askers = c.args.askers.now in
    let i = c.loop-asker.asker-index in
    let a : ℕ = get_or askers i 0 in
    let split : drop i askers ≡ a ∷ drop (i + 1) askers = drop-cons askers i 0 c.loop-asker-test.true ∙ ap (λ n. a ∷ drop n askers) (sym (add-one i)) in
    record {
      live = c.loop-asker.invariant.live;
      store = c.loop-asker.invariant.store;
      number = c.loop-asker.invariant.number;
      goes = λ noted short start w u.
          let P : List ℕ → Type 0 = λ l. DoesOn c.loop-asker.self noted short
          start (map Releases l) (map Releases askers) w in
          let k : P (a ∷ drop (i + 1) askers) = subst P split (c.loop-asker.invariant.goes noted short start w u) in
          one_done k c.loop-asker.invariant.live refl
          (silent_turn {ends = c.release.new.self} a Release (λ p. refl) k.under (c.release.ensures k.now.ports k.under.ends));
    }

pub returns-clause-carried : goal.returns-clause-carried
returns-clause-carried g c noted short start w u =
    let i = c.loop-asker.asker-index in
    let k = c.loop-asker.invariant.goes noted short start w u in
    let P : Work → Type 0 = λ v. IsInStep c.loop-asker.self noted short start v in
    subst P (ap (λ (l : List ℕ). all_done 0 (map Releases l) k.now) (sym (drop_all i c.args.askers.now c.loop-asker-test.false)) ∙ k.onto) k.under
