-- Frames go out one after another.
use Rattle.one_end.proofs.Words.{Control, List, Lone, RunsAlone, [], ap, append-nil, arith, form_named, refl, subst, sym, ◌==◌, ◌∙◌, ◌∷◌, ◌≡◌}
use Rattle.one_end.proofs.Alone.{sends_first, HasSent, HasSentFirst, all_sent, sent_most, one_sent, left_then}
use Rattle.one_end.proofs.stepping.send_out.Goals as goal

pub loop-init : goal.loop-init
loop-init g c =
    let may = c.requires.may in
    record {
      sends = record {
        some = (may.0, may.1, may.2);
        all = λ l frames runs few. record {
          sent = [];
          left = frames;
          parts = refl;
          runs = runs;
          written = sym (append-nil _);
          few = omega (arith, few);
        };
        sized = omega arith;
      };
      store = refl;
      number = refl;
    }

pub next_out-next-requires : goal.next_out-next-requires
next_out-next-requires g c = let a = c.loop.invariant.sends.some.2 in record { runs = (a.core, a.port ∷ [], a.runs) }

pub returns-in_default-clause-sent : goal.returns-in_default-clause-sent
returns-in_default-clause-sent g c l frames runs few =
    let k = c.next_out-next in
    let Later : Lone → List Control → Type 0 = RunsAlone k.new.self in
    (all_sent (c.loop.invariant.sends.all l frames runs few) Later
    (λ left a. subst (λ o. HasSentFirst Later l o left) c.in_default.is
    (sends_first l left a k.result (k.ensures.answer a.core (a.port ∷ []) a.runs) (k.ensures.runs a.core (a.port ∷ []) a.runs)))).0

pub returns-in_default-clause-written : goal.returns-in_default-clause-written
returns-in_default-clause-written g c l frames runs few =
    let k = c.next_out-next in
    let Later : Lone → List Control → Type 0 = RunsAlone k.new.self in
    (all_sent (c.loop.invariant.sends.all l frames runs few) Later
    (λ left a. subst (λ o. HasSentFirst Later l o left) c.in_default.is
    (sends_first l left a k.result (k.ensures.answer a.core (a.port ∷ []) a.runs) (k.ensures.runs a.core (a.port ∷ []) a.runs)))).1

pub returns-in_default-clause-sized : goal.returns-in_default-clause-sized
returns-in_default-clause-sized g c = omega (arith, c.loop.invariant.sends.sized, c.loop.auto.counter-end)

pub write_out-requires : goal.write_out-requires
write_out-requires g c = record { room = omega (arith, c.loop.invariant.sends.sized, c.loop-test.true, c.requires.room) }

pub loop-preserved : goal.loop-preserved
loop-preserved g c =
    let k = c.next_out-next in
    let Later : Lone → List Control → Type 0 = RunsAlone k.new.self in
    let first : (l : Lone) (left : List Control) → RunsAlone c.loop.node l left → HasSentFirst Later l k.result left = λ l left a.
    sends_first l left a k.result (k.ensures.answer a.core (a.port ∷ []) a.runs) (k.ensures.runs a.core (a.port ∷ []) a.runs) in
    let some = c.loop.invariant.sends.some in
    record {
      sends = record {
        some = left_then Later some.0 k.result some.1 (first some.0 some.1 some.2);
        all = λ l frames runs few. one_sent (c.loop.invariant.sends.all l frames runs few) Later
            (λ left a. subst (λ o. HasSentFirst Later l o left) c.in-Some.is (first l left a))
            (c.write_out.ensures.written c.args.node.now.number (ap (λ n. n == 0) (sym c.number-is_clf.ensures)));
        sized = omega (arith, c.loop.invariant.sends.sized, c.write_out.ensures.sized);
      };
      store = k.ensures.store ∙ c.loop.invariant.store;
      number = k.ensures.number ∙ c.loop.invariant.number;
    }

pub returns-clause-sent : goal.returns-clause-sent
returns-clause-sent g c l frames runs few =
    let most : c.loop.counter ≡ 17 = omega (arith, c.loop.auto.counter-end, c.loop-test.false) in
    (sent_most (subst (λ i. HasSent (RunsAlone c.loop.node) (form_named c.args.form) c.args.node.now.number i c.args.out.now.items c.loop.out.items l frames)
    most (c.loop.invariant.sends.all l frames runs few))).0

pub returns-clause-written : goal.returns-clause-written
returns-clause-written g c l frames runs few =
    let most : c.loop.counter ≡ 17 = omega (arith, c.loop.auto.counter-end, c.loop-test.false) in
    (sent_most (subst (λ i. HasSent (RunsAlone c.loop.node) (form_named c.args.form) c.args.node.now.number i c.args.out.now.items c.loop.out.items l frames)
    most (c.loop.invariant.sends.all l frames runs few))).1

pub returns-clause-sized : goal.returns-clause-sized
returns-clause-sized g c = omega (arith, c.loop.invariant.sends.sized, c.loop.auto.counter-end)
