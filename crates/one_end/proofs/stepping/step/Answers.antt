-- A step, and the frames that go out behind it.
use Rattle.one_end.proofs.Words.{HasAnswered, None, RunsReady, Some, Stored, [], ap, append-nil, does_alone, false, form_named, frames_written, not, subst, sym}
use Rattle.one_end.proofs.Words.{true, true≢false, ◌&&◌, ◌++◌, ◌==◌, ◌∙◌, ◌∷◌, ◌≡◌}
use Rattle.one_end.proofs.Alone.{may_step, steps_alone, asks_so, ran_alike}
use Rattle.one_end.proofs.Running.{stepped_ready, over}
use Rattle.one_end.proofs.stepping.step.Goals as goal

pub step-requires : goal.step-requires
step-requires g c = let t = c.requires.may.2 in may_step t.alone c.args.input t.may

pub send_out-requires : goal.send_out-requires
send_out-requires g c =
    let t = c.requires.may.2 in
    let s = steps_alone g.N.Nv.writes t (not c.is_done-runs.result) c.step.ensures.number
    (ap not (ran_alike c.is_done-runs.result _ (sym c.is_done-runs.ensures ∙ c.in-Ok.ensures.ran)))
    (λ w i p begun at became. c.a_reset_of_an_end_that_became_active_is_not_refused.ensures c.args.node.now [] true [] w 2 i p begun at became)
    (λ w begun. c.in-Ok.ensures.stepped [] w begun) in
    record { may = (s.after, s.frames, s.runs (ap not c.if-runs.true), s.few); room = c.requires.room }

pub returns-then-runs-clause-done : goal.returns-then-runs-clause-done
returns-then-runs-clause-done g c l cause t =
    let form = form_named c.args.form in
    let behind = c.step.new.self in
    let s = steps_alone g.N.Nv.writes t (not c.is_done-runs.result) c.step.ensures.number
    (ap not (ran_alike c.is_done-runs.result _ (sym c.is_done-runs.ensures ∙ c.in-Ok.ensures.ran)))
    (λ w i p begun at became. c.a_reset_of_an_end_that_became_active_is_not_refused.ensures c.args.node.now [] true [] w 2 i p begun at became)
    (λ w begun. c.in-Ok.ensures.stepped [] w begun) in
    let live : not c.is_done-runs.result ≡ false = ap not c.if-runs.true in
    let asks = c.asks_for_reset.ensures ∙ (ap (λ k. k == 0 && c.in-Ok.stepped.became_active) c.number-is_clf.ensures
    ∙ asks_so t (λ w begun. c.in-Ok.ensures.active [] w begun)) in
    subst (λ n. HasAnswered g.N.Nv.writes c.args.node.now.store.journal.nv n
    (RunsReady c.send_out.new.node (not c.is_done-runs.result) c.asks_for_reset.result) (λ m. does_alone form (over l m) cause)
    c.args.out.now.items c.send_out.new.out.items) (ap (λ (x : Stored g.row.N.Denot). x.journal.nv) (sym c.send_out.ensures.store))
    (stepped_ready g.N.Nv.writes form behind c.send_out.new.node cause l s
    (c.send_out.ensures.written s.after s.frames (s.runs live) s.few
    ∙ ap (λ k. c.args.out.now.items ++ frames_written form k s.frames) (c.step.ensures.number ∙ sym t.alone.number_is))
    (λ on. c.send_out.ensures.sent s.after s.frames (s.runs live) s.few) asks)

pub returns-then-runs-clause-asks : goal.returns-then-runs-clause-asks
returns-then-runs-clause-asks g c l cause t =
    c.asks_for_reset.ensures ∙ (ap (λ k. k == 0 && c.in-Ok.stepped.became_active) c.number-is_clf.ensures
    ∙ asks_so t (λ w begun. c.in-Ok.ensures.active [] w begun))

pub returns-else-runs-clause-done : goal.returns-else-runs-clause-done
returns-else-runs-clause-done g c l cause t =
    let form = form_named c.args.form in
    let behind = c.step.new.self in
    let s = steps_alone g.N.Nv.writes t (not c.is_done-runs.result) c.step.ensures.number
    (ap not (ran_alike c.is_done-runs.result _ (sym c.is_done-runs.ensures ∙ c.in-Ok.ensures.ran)))
    (λ w i p begun at became. c.a_reset_of_an_end_that_became_active_is_not_refused.ensures c.args.node.now [] true [] w 2 i p begun at became)
    (λ w begun. c.in-Ok.ensures.stepped [] w begun) in
    let gone : not c.is_done-runs.result ≡ true = ap not c.if-runs.false in
    let asks = c.asks_for_reset.ensures ∙ (ap (λ k. k == 0 && c.in-Ok.stepped.became_active) c.number-is_clf.ensures
    ∙ asks_so t (λ w begun. c.in-Ok.ensures.active [] w begun)) in
    stepped_ready g.N.Nv.writes form behind behind cause l s
    (sym (append-nil c.args.out.now.items) ∙ ap (λ z. c.args.out.now.items ++ frames_written form l.number z) (sym (s.none gone)))
    (λ on. absurd (true≢false (sym gone ∙ on))) asks

pub returns-else-runs-clause-asks : goal.returns-else-runs-clause-asks
returns-else-runs-clause-asks g c l cause t =
    c.asks_for_reset.ensures ∙ (ap (λ k. k == 0 && c.in-Ok.stepped.became_active) c.number-is_clf.ensures
    ∙ asks_so t (λ w begun. c.in-Ok.ensures.active [] w begun))

-- nothing that comes here is refused
pub returns-in_default-clause-done : goal.returns-in_default-clause-done
returns-in_default-clause-done g c l cause t =
    absurd (let q : None ≡ Some c.in_default.field-0 = sym t.free ∙ c.in_default.ensures.refusal t.alone.core (t.alone.port ∷ []) t.alone.runs in cc q)

pub returns-in_default-clause-asks : goal.returns-in_default-clause-asks
returns-in_default-clause-asks g c l cause t =
    absurd (let q : None ≡ Some c.in_default.field-0 = sym t.free ∙ c.in_default.ensures.refusal t.alone.core (t.alone.port ∷ []) t.alone.runs in cc q)
