use Rattle.swp_words.proofs.Words.{Bool, HasHeard, List, [], ap, append_assoc, arith, drop, get_or, length, subst, sym, take, take-append-drop, take_all}
use Rattle.swp_words.proofs.Words.{take_more, ℕ, ◌++◌, ◌+◌, ◌<◌, ◌∙◌, ◌∷◌, ◌≡◌}
use Rattle.swp_words.proofs.Recording.{on_err, enough_text}
use Rattle.swp_words.proofs.Hearing.{front_of_frames}
use Rattle.swp_words.proofs.tapping.hear_frames.Goals as goal

-- the frames up to one, and this one
through : (slice items : List (Bool × List ℕ)) (x : Bool × List ℕ) (i : ℕ) → slice ≡ items → x ≡ get_or slice i x → i < length slice
    → take i items ++ x ∷ [] ≡ take (i + 1) items
through slice items x i same is h =
    ap (λ y. take i items ++ y ∷ []) (is ∙ ap (λ l. get_or l i x) same)
    ∙ sym (take_more items i x (subst (λ l. i < length l) same h))

pub returns-in_err-hear_frame-clause-ends : goal.returns-in_err-hear_frame-clause-ends
returns-in_err-hear_frame-clause-ends g c =
    on_err _ c.from_residual.result (λ bare least heard before h.
    let i = c.loop-frame.frame-index in
    let items = c.args.frames.now.items in
    let x = c.frame-item.result in
    let so_far = c.loop-frame.invariant.heard bare least heard before h in
    let next = through c.as_slice-frame-items.result.now items x i c.as_slice-frame-items.ensures.value c.frame-item.is c.loop-frame-test.true in
    front_of_frames bare (heard ++ take i items) (x ∷ []) (drop (i + 1) items) (heard ++ items)
    (c.in_err-hear_frame.ensures.ends bare least (heard ++ take i items) before so_far) (enough_text so_far.lines)
    (ap (λ l. l ++ drop (i + 1) items) (append_assoc heard (take i items) (x ∷ []) ∙ ap (λ l. heard ++ l) next)
    ∙ append_assoc heard (take (i + 1) items) (drop (i + 1) items) ∙ ap (λ l. heard ++ l) (take-append-drop (i + 1) items)))

pub loop-frame-preserved : goal.loop-frame-preserved
loop-frame-preserved g c = record {
  taken = omega (arith, c.hear_frame.ensures.taken, c.loop-frame.invariant.taken);
  writes = omega (arith, c.hear_frame.ensures.count, c.loop-frame.invariant.writes);
  heard = λ bare least heard before h.
      let i = c.loop-frame.frame-index in
      let items = c.args.frames.now.items in
      let x = c.frame-item.result in
      let next = through c.as_slice-frame-items.result.now items x i c.as_slice-frame-items.ensures.value c.frame-item.is c.loop-frame-test.true in
      subst (λ l. HasHeard bare g.K.Sink.tells c.hear_frame.new.tap c.hear_frame.new.text.items least l before (g.K.Sink.written c.hear_frame.new.sink))
      (append_assoc heard (take i items) (x ∷ []) ∙ ap (λ l. heard ++ l) next)
      (c.in_ok-hear_frame.ensures.goes bare least (heard ++ take i items) before (c.loop-frame.invariant.heard bare least heard before h));
}

pub returns-clause-goes : goal.returns-clause-goes
returns-clause-goes g c bare least heard before h =
    let i = c.loop-frame.frame-index in
    let items = c.args.frames.now.items in
    subst (λ l. HasHeard bare g.K.Sink.tells c.loop-frame.tap c.loop-frame.text.items least (heard ++ l) before (g.K.Sink.written c.loop-frame.sink))
    (take_all i items (omega (arith, c.loop-frame-test.false, ap length c.as_slice-frame-items.ensures.value)))
    (c.loop-frame.invariant.heard bare least heard before h)
