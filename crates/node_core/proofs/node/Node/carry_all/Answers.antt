use Rattle.node_core.proofs.Words.{AreDoableInTurn, Brings, DeedOf, Handling, IsInStep, List, Message, ap, deed_of, done, drop, handling, map, not, subst, sym}
use Rattle.node_core.proofs.Words.{true, ◌+◌, ◌∙◌, ◌∷◌, ◌≡◌}
use Rattle.node_deeds.specs.declared.deeds.Deed.{Deed}
use Rattle.node_core.proofs.Steps.{GoesOn, goes_on, goes_no_further, all_gone, doable_then, split_at, none_left}
use Rattle.node_core.proofs.Tasks.{next_doable, next_shown}
use Rattle.node_core.proofs.Faults.{faults_then, ran_is}
use Rattle.node_core.proofs.node.Node.carry_all.Goals as goal

pub carry_out-requires-clause-doable : goal.carry_out-requires-clause-doable
carry_out-requires-clause-doable g c =
    let deeds = c.args.deeds.now in
    let i = c.loop-deed.deed-index in
    let d : Deed = c.deed-item.result in
    let m : Message = (c.args.pipe, c.args.message.now) in
    let split : drop i deeds ≡ d ∷ drop (i + 1) deeds = split_at deeds i d c.loop-deed-test.true
    ∙ ap (λ (x : Deed). x ∷ drop (i + 1) deeds) (sym c.deed-item.is) in
    let r = c.loop-deed.invariant.doable in
    let D : List Deed → Type 0 = λ l. AreDoableInTurn c.args.host (handling c.args.self.now m) l r.1 in
    (r.0, r.1, r.2, next_doable c.args.self.now m d r.2 c.loop-deed.invariant.live c.loop-deed.invariant.number (subst D split r.3).0)

pub returns-then-not-is_done-clause-carried : goal.returns-then-not-is_done-clause-carried
returns-then-not-is_done-clause-carried g c start w u =
    let deeds = c.args.deeds.now in
    let i = c.loop-deed.deed-index in
    let d : Deed = c.deed-item.result in
    let m : Message = (c.args.pipe, c.args.message.now) in
    let P : List Deed → Type 0 = λ l. GoesOn g.N.Nv.writes c.args.self.now c.loop-deed.self (g.W.Watch.noted c.loop-deed.watch)
    (g.W.Watch.is_short c.loop-deed.watch) start (map (deed_of c.args.self.now m) l) (map (deed_of c.args.self.now m) deeds) c.args.host w in
    let split : drop i deeds ≡ d ∷ drop (i + 1) deeds = split_at deeds i d c.loop-deed-test.true
    ∙ ap (λ (x : Deed). x ∷ drop (i + 1) deeds) (sym c.deed-item.is) in
    let k : P (d ∷ drop (i + 1) deeds) = subst P split (c.loop-deed.invariant.goes start w u) in
    let r = c.loop-deed.invariant.doable in
    let D : List Deed → Type 0 = λ l. AreDoableInTurn c.args.host (handling c.args.self.now m) l r.1 in
    let o = c.carry_out in
    let B : DeedOf → Type 0 = λ x. Brings g.N.Nv.writes c.loop-deed.self.store.journal.nv o.new.self.store.journal.nv
    (IsInStep o.new.self (g.W.Watch.noted o.new.watch) (g.W.Watch.is_short o.new.watch) start) (done c.args.host x) k.now in
    let shown = next_shown c.args.self.now m d r.2 c.loop-deed.invariant.live c.loop-deed.invariant.number (subst D split r.3).0 in
    let b : B (deed_of c.args.self.now m d) = subst B shown (o.ensures.carried start k.now k.under) in
    goes_no_further k b (b.stands.power ∙ ap not (ran_is o.ensures.ran c.is_done.ensures ∙ c.if-not-is_done.true))

pub loop-deed-preserved : goal.loop-deed-preserved
loop-deed-preserved g c =
    let deeds = c.args.deeds.now in
    let i = c.loop-deed.deed-index in
    let d : Deed = c.deed-item.result in
    let m : Message = (c.args.pipe, c.args.message.now) in
    let x : Handling = handling c.args.self.now m in
    let split : drop i deeds ≡ d ∷ drop (i + 1) deeds = split_at deeds i d c.loop-deed-test.true
    ∙ ap (λ (x : Deed). x ∷ drop (i + 1) deeds) (sym c.deed-item.is) in
    let o = c.carry_out in
    let on : o.new.self.store.journal.live ≡ true = ran_is o.ensures.ran c.is_done.ensures ∙ c.if-not-is_done.false in
    let a = c.loop-deed.invariant.doable in
    let D : List Deed → Type 0 = λ l. AreDoableInTurn c.args.host x l a.1 in
    let doable : D (d ∷ drop (i + 1) deeds) = subst D split a.3 in
    let shown = next_shown c.args.self.now m d a.2 c.loop-deed.invariant.live c.loop-deed.invariant.number doable.0 in
    let B : DeedOf → Type 0 = λ e. Brings g.N.Nv.writes c.loop-deed.self.store.journal.nv o.new.self.store.journal.nv
    (IsInStep o.new.self (g.W.Watch.noted o.new.watch) (g.W.Watch.is_short o.new.watch) a.0) (done c.args.host e) a.1 in
    let b : B (deed_of c.args.self.now m d) = subst B shown (o.ensures.carried a.0 a.1 a.2) in
    record {
      usable = o.ensures.usable;
      live = on;
      number = o.ensures.number ∙ c.loop-deed.invariant.number;
      faults = faults_then g.N.Nv.faults c.loop-deed.invariant.faults o.ensures.faults;
      doable = (a.0, b.after, b.stands, doable_then c.args.host x d (drop (i + 1) deeds) b (b.stands.power ∙ ap not on) doable.1);
      goes = λ start w u.
          let P : List Deed → Type 0 = λ l. GoesOn g.N.Nv.writes c.args.self.now c.loop-deed.self (g.W.Watch.noted c.loop-deed.watch)
          (g.W.Watch.is_short c.loop-deed.watch) start (map (deed_of c.args.self.now m) l) (map (deed_of c.args.self.now m) deeds) c.args.host w in
          let k : P (d ∷ drop (i + 1) deeds) = subst P split (c.loop-deed.invariant.goes start w u) in
          let C : DeedOf → Type 0 = λ e. Brings g.N.Nv.writes c.loop-deed.self.store.journal.nv o.new.self.store.journal.nv
          (IsInStep o.new.self (g.W.Watch.noted o.new.watch) (g.W.Watch.is_short o.new.watch) start) (done c.args.host e) k.now in
          let f : C (deed_of c.args.self.now m d) = subst C shown (o.ensures.carried start k.now k.under) in
          goes_on k f (f.stands.power ∙ ap not on);
    }

pub returns-clause-carried : goal.returns-clause-carried
returns-clause-carried g c start w u =
    let deeds = c.args.deeds.now in
    let i = c.loop-deed.deed-index in
    let m : Message = (c.args.pipe, c.args.message.now) in
    let P : List Deed → Type 0 = λ l. GoesOn g.N.Nv.writes c.args.self.now c.loop-deed.self (g.W.Watch.noted c.loop-deed.watch)
    (g.W.Watch.is_short c.loop-deed.watch) start (map (deed_of c.args.self.now m) l) (map (deed_of c.args.self.now m) deeds) c.args.host w in
    all_gone (subst P (none_left deeds i c.loop-deed-test.false) (c.loop-deed.invariant.goes start w u)) c.loop-deed.invariant.live
