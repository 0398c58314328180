-- One after another comes.
use Rattle.std.proofs.Common.{take_all}
use Rattle.one_end.proofs.Words.{Bool, HasAnswered, Lone, RunsAlone, RunsYet, [], all_answered, answers_alone, ap, arith, cause_of, drop, false, form_named}
use Rattle.one_end.proofs.Words.{length, map, refl, subst, sym, take, true, ℕ, ◌++◌, ◌+◌, ◌∙◌, ◌∷◌, ◌≡◌, ◌≤◌}
use Rattle.one_end.proofs.Running.{over, none_came, one_more, stopped_with, next_of, parts_of}
use Rattle.one_end.proofs.stepping.answer_all.Goals as goal

pub loop-coming-init : goal.loop-coming-init
loop-coming-init g c = record {
  some = c.requires.may;
  done = λ k on. none_came g.N.Nv.writes (form_named c.args.form) c.args.node.now k c.args.out.now.items on;
  number = refl;
  counted = omega arith;
  sized = omega arith;
}

pub answer-requires : goal.answer-requires
answer-requires g c =
    let few : length c.args.comings.now ≤ 4 = c.requires.few in
    record {
      may = c.loop-coming.invariant.some;
      room = omega (arith, few, c.requires.room, c.loop-coming.invariant.sized, c.loop-coming-test.true);
    }

pub returns-then-answer-clause-done : goal.returns-then-answer-clause-done
returns-then-answer-clause-done g c l runs =
    let i : ℕ = c.loop-coming.coming-index in
    let cs = c.args.comings.now in
    let x = c.coming-item.result in
    let F : Bool → Lone → Type 0 = RunsYet c.answer.new.node in
    let one = one_more g.N.Nv.writes (form_named c.args.form) c.loop-coming.node c.answer.new.node
    (map cause_of (take i cs)) (cause_of x) l (c.loop-coming.invariant.done l runs)
    (λ k on. subst (λ s. HasAnswered g.N.Nv.writes c.loop-coming.node.store.journal.nv c.answer.new.node.store.journal.nv (F s)
    (λ m. answers_alone (form_named c.args.form) (over k m) (cause_of x)) c.loop-coming.out.items c.answer.new.out.items) c.if-answer.true
    (c.answer.ensures.done k on)) in
    let all = stopped_with g.N.Nv.writes (form_named c.args.form) c.answer.new.node
    (map cause_of (take i cs) ++ cause_of x ∷ []) (map cause_of (drop (i + 1) cs)) l one in
    subst (λ causes. HasAnswered g.N.Nv.writes c.args.node.now.store.journal.nv c.answer.new.node.store.journal.nv (F true)
    (λ m. all_answered (form_named c.args.form) (over l m) causes) c.args.out.now.items c.answer.new.out.items)
    (ap (λ first. first ++ map cause_of (drop (i + 1) cs)) (sym (next_of cause_of cs i x c.loop-coming-test.true c.coming-item.is))
    ∙ parts_of cause_of cs (i + 1)) all

pub loop-coming-preserved : goal.loop-coming-preserved
loop-coming-preserved g c =
    let i : ℕ = c.loop-coming.coming-index in
    let cs = c.args.comings.now in
    let x = c.coming-item.result in
    let F : Bool → Lone → Type 0 = RunsYet c.answer.new.node in
    let goes : (k : Lone) → RunsAlone c.loop-coming.node k []
    → HasAnswered g.N.Nv.writes c.loop-coming.node.store.journal.nv c.answer.new.node.store.journal.nv (F false)
    (λ m. answers_alone (form_named c.args.form) (over k m) (cause_of x)) c.loop-coming.out.items c.answer.new.out.items =
    λ k on. subst (λ s. HasAnswered g.N.Nv.writes c.loop-coming.node.store.journal.nv c.answer.new.node.store.journal.nv (F s)
    (λ m. answers_alone (form_named c.args.form) (over k m) (cause_of x)) c.loop-coming.out.items c.answer.new.out.items) c.if-answer.false
    (c.answer.ensures.done k on) in
    let some = c.loop-coming.invariant.some in
    let b = (goes some.0 some.1).brings in
    record {
      some = (b.after, b.stands.1 refl);
      done = λ l runs.
          let one = one_more g.N.Nv.writes (form_named c.args.form) c.loop-coming.node c.answer.new.node
          (map cause_of (take i cs)) (cause_of x) l (c.loop-coming.invariant.done l runs) goes in
          subst (λ causes. HasAnswered g.N.Nv.writes c.args.node.now.store.journal.nv c.answer.new.node.store.journal.nv (F false)
          (λ m. all_answered (form_named c.args.form) (over l m) causes) c.args.out.now.items c.answer.new.out.items)
          (sym (next_of cause_of cs i x c.loop-coming-test.true c.coming-item.is)) one;
      number = c.answer.ensures.number ∙ c.loop-coming.invariant.number;
      counted = omega (arith, c.loop-coming.invariant.counted, c.answer.ensures.count);
      sized = omega (arith, c.loop-coming.invariant.sized, c.answer.ensures.sized);
    }

pub returns-clause-done : goal.returns-clause-done
returns-clause-done g c l runs =
    let cs = c.args.comings.now in
    let most : c.loop-coming.coming-index ≡ length cs = omega (arith, c.loop-coming-test.false, c.loop-coming.auto.coming-index-end) in
    subst (λ causes. HasAnswered g.N.Nv.writes c.args.node.now.store.journal.nv c.loop-coming.node.store.journal.nv
    (RunsYet c.loop-coming.node false) (λ m. all_answered (form_named c.args.form) (over l m) causes) c.args.out.now.items
    c.loop-coming.out.items) (ap (map cause_of) (take_all c.loop-coming.coming-index cs c.loop-coming-test.false)) (c.loop-coming.invariant.done l runs)
