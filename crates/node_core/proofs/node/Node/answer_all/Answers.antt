use Rattle.node_core.proofs.Words.{Deed, Give, IsInStep, List, Release, Releases, Sends, Stored, Work, [], add-one, all_done, answer_of, answers_owed, ap, drop}
use Rattle.node_core.proofs.Words.{drop-cons, drop_all, flat_map, flat_map-cons, get_or, refl, subst, sym, turn_at, ℕ, ◌+◌, ◌∙◌, ◌∷◌, ◌≡◌}
use Rattle.node_core.proofs.Freeing.{DoesOn, one_done}
use Rattle.node_core.proofs.Steps.{silent_turn}
use Rattle.node_core.proofs.node.Node.answer_all.Goals as goal

pub loop-asker-init : goal.loop-asker-init
loop-asker-init g c = record {
  live = c.requires.live;
  store = refl;
  number = refl;
  goes = λ start w u. record { now = w; under = u; onto = refl };
}

pub loop-asker-preserved : goal.loop-asker-preserved
loop-asker-preserved g c =
    let t = c.send in
    let r = c.args.response in
    let askers = c.args.askers.now in
    let i = c.loop-asker.asker-index in
    let a : ℕ = get_or askers i 0 in
    let split : drop i askers ≡ a ∷ drop (i + 1) askers = drop-cons askers i 0 c.loop-asker-test.true ∙ ap (λ n. a ∷ drop n askers) (sym (add-one i)) in
    record {
      live = ap (λ (s : Stored g.row.N.Denot). s.journal.live) t.ensures.store ∙ c.loop-asker.invariant.live;
      store = t.ensures.store ∙ c.loop-asker.invariant.store;
      number = t.ensures.number ∙ c.loop-asker.invariant.number;
      goes = λ start w u.
          let P : List ℕ → Type 0 = λ l. DoesOn c.loop-asker.self (g.W.Watch.noted c.loop-asker.watch) (g.W.Watch.is_short c.loop-asker.watch)
          start (flat_map (answers_owed r) l) (flat_map (answers_owed r) askers) w in
          let Q : List Deed → Type 0 = λ l. DoesOn c.loop-asker.self (g.W.Watch.noted c.loop-asker.watch) (g.W.Watch.is_short c.loop-asker.watch)
          start l (flat_map (answers_owed r) askers) w in
          let k : Q (Releases a ∷ Sends a (1, answer_of r []) ∷ flat_map (answers_owed r) (drop (i + 1) askers)) =
          subst Q (flat_map-cons (answers_owed r) a (drop (i + 1) askers)) (subst P split (c.loop-asker.invariant.goes start w u)) in
          let freed = one_done k c.loop-asker.invariant.live refl
          (silent_turn {ends = c.release.new.self} a Release (λ p. refl) k.under (c.release.ensures k.now.ports k.under.ends)) in
          let S : List ℕ → Type 0 = λ bytes. IsInStep t.new.self (g.W.Watch.noted t.new.watch) (g.W.Watch.is_short t.new.watch) start
          (turn_at a (Give (1, bytes)) freed.now) in
          one_done freed c.loop-asker.invariant.live refl
          (subst S (c.as_slice.ensures.value ∙ c.refused.ensures) (t.ensures.carried start freed.now freed.under));
    }

pub returns-clause-carried : goal.returns-clause-carried
returns-clause-carried g c start w u =
    let askers = c.args.askers.now in
    let i = c.loop-asker.asker-index in
    let k = c.loop-asker.invariant.goes start w u in
    let none : drop i askers ≡ [] = drop_all i askers c.loop-asker-test.false in
    let P : Work → Type 0 = λ v. IsInStep c.loop-asker.self (g.W.Watch.noted c.loop-asker.watch) (g.W.Watch.is_short c.loop-asker.watch) start v in
    subst P (ap (λ (l : List ℕ). all_done 0 (flat_map (answers_owed c.args.response) l) k.now) (sym none) ∙ k.onto) k.under
