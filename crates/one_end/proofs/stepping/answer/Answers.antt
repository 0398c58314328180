-- What comes, and the reset behind it.
use Rattle.one_end.proofs.Words.{Bool, HasAnswered, None, ResetComes, RunsReady, RunsYet, arith, cause_of, does_alone, false, form_named, subst, sym, true, ◌∙◌}
use Rattle.one_end.proofs.Words.{◌≡◌}
use Rattle.one_end.proofs.Alone.{reset_taken}
use Rattle.one_end.proofs.Running.{over, as_yet, stopped_then, without_reset, with_reset}
use Rattle.std.proofs.lemmas.Bool.{not-true, not-false}
use Rattle.one_end.proofs.stepping.answer.Goals as goal

pub returns-then-came-clause-done : goal.returns-then-came-clause-done
returns-then-came-clause-done g c l runs =
    stopped_then g.N.Nv.writes (form_named c.args.form) c.comes-came.new.node (cause_of c.args.coming.now) l
    (subst (λ s. HasAnswered g.N.Nv.writes c.args.node.now.store.journal.nv c.comes-came.new.node.store.journal.nv
    (RunsYet c.comes-came.new.node s) (λ m. does_alone (form_named c.args.form) (over l m) (cause_of c.args.coming.now))
    c.args.out.now.items c.comes-came.new.out.items) c.if-came.true
    (as_yet g.N.Nv.writes (form_named c.args.form) c.comes-came.new.node (c.comes-came.ensures.done l runs)))

pub returns-then-not-came-clause-done : goal.returns-then-not-came-clause-done
returns-then-not-came-clause-done g c l runs =
    without_reset g.N.Nv.writes (form_named c.args.form) c.comes-came.new.node (cause_of c.args.coming.now) l
    (subst (λ s. HasAnswered g.N.Nv.writes c.args.node.now.store.journal.nv c.comes-came.new.node.store.journal.nv
    (RunsYet c.comes-came.new.node s) (λ m. does_alone (form_named c.args.form) (over l m) (cause_of c.args.coming.now))
    c.args.out.now.items c.comes-came.new.out.items) c.if-came.false
    (as_yet g.N.Nv.writes (form_named c.args.form) c.comes-came.new.node (c.comes-came.ensures.done l runs)))
    (sym (c.comes-came.ensures.asks l runs) ∙ not-true c.comes-came.result.asks_reset c.if-not-came.true)

pub step-reset-requires : goal.step-reset-requires
step-reset-requires g c =
    let may = c.requires.may in
    let b = (c.comes-came.ensures.done may.0 may.1).brings in
    let a = b.stands.0.1 c.if-came.false in
    record {
      may = (b.after, ResetComes None, reset_taken a (b.stands.1 (not-false c.comes-came.result.asks_reset c.if-not-came.false) c.if-came.false));
      room = omega (arith, c.requires.room, c.comes-came.ensures.sized);
    }

pub returns-clause-done : goal.returns-clause-done
returns-clause-done g c l runs =
    let asks : c.comes-came.result.asks_reset ≡ true = not-false c.comes-came.result.asks_reset c.if-not-came.false in
    let H : Bool → Bool → Type 0 = λ s a. HasAnswered g.N.Nv.writes c.args.node.now.store.journal.nv c.comes-came.new.node.store.journal.nv
    (RunsReady c.comes-came.new.node s a) (λ m. does_alone (form_named c.args.form) (over l m) (cause_of c.args.coming.now))
    c.args.out.now.items c.comes-came.new.out.items in
    with_reset g.N.Nv.writes (form_named c.args.form) c.comes-came.new.node c.step-reset.new.node (cause_of c.args.coming.now) l
    (subst (H false) asks (subst (λ s. H s c.comes-came.result.asks_reset) c.if-came.false (c.comes-came.ensures.done l runs)))
    (sym (c.comes-came.ensures.asks l runs) ∙ asks)
    (λ k a free. as_yet g.N.Nv.writes (form_named c.args.form) c.step-reset.new.node (c.step-reset.ensures.done k (ResetComes None) (reset_taken a free)))
