use Rattle.world.proofs.Words.{HasRepeated, Link, Taken, arith, link_after_all, refl, replicate, seen_from, subst, suc, ℕ, ◌+◌, ◌≡◌}
use Rattle.world.proofs.Given.{sent_repeated}
use Rattle.world.proofs.RoundLemmas.{happened_caused, repeats_none, repeats_more, few_here, few_short, room_for, grows_more, grows_in_all}
use Rattle.world.proofs.repeats.take_frames.Goals as goal

pub loop-init : goal.loop-init
loop-init c = (λ l h sent. repeats_none h, omega arith)

pub take_frame-requires-clause-state : goal.take_frame-requires-clause-state
take_frame-requires-clause-state c =
    let s = c.requires.state in
    let l : Link = link_after_all s.0 (replicate c.loop.counter (Taken c.args.at)) in
    let r = c.loop.invariant.0 s.0 s.1 s.2 in
    let sent = sent_repeated 320000 c.loop.counter s.0 (Taken c.args.at) tt s.2 in (
      seen_from c.args.at l,
      r.stands,
      few_short (few_here c.args.at sent),
    )

pub take_frame-requires-clause-room : goal.take_frame-requires-clause-room
take_frame-requires-clause-room c =
    room_for c.loop.resets c.args.resets.now c.loop.counter c.args.times c.loop.invariant.1 (omega (arith, c.loop-test.true)) c.requires.times
    c.requires.room

pub loop-preserved : goal.loop-preserved
loop-preserved c =
    let g = c.take_frame.ensures.grows in
    let i = c.loop.invariant.1 in (
      λ l h sent.
          (let k : ℕ = c.loop.counter in
          let m : Link = link_after_all l (replicate k (Taken c.args.at)) in
          let r = c.loop.invariant.0 l h sent in
          let few = few_short (few_here c.args.at (sent_repeated 320000 k l (Taken c.args.at) tt sent)) in
          let more : suc k ≡ k + 1 = omega arith in
          let P : ℕ → Type 0 = λ n.
          HasRepeated c.take_frame.new.near c.take_frame.new.far c.take_frame.new.resets c.args.at l (Taken c.args.at) n
          c.args.entries.now.items c.take_frame.new.entries.items in
          subst P more
          (repeats_more r (happened_caused (c.in_ok-take_frame.ensures.stands (seen_from c.args.at m) r.stands few) refl))),
      omega (arith, g, i),
    )

pub returns-in_err-take_frame-clause-grows : goal.returns-in_err-take_frame-clause-grows
returns-in_err-take_frame-clause-grows c =
    grows_more c.take_frame.new.resets c.loop.resets c.args.resets.now c.loop.counter c.args.times c.take_frame.ensures.grows c.loop.invariant.1
    (omega (arith, c.loop-test.true)) c.requires.times

pub returns-clause-grows : goal.returns-clause-grows
returns-clause-grows c =
    let most = c.requires.times in
    let last : c.loop.counter ≡ c.args.times = omega (arith, c.loop-test.false, c.loop.auto.counter-end) in
    grows_in_all c.loop.resets c.args.resets.now c.loop.counter c.loop.invariant.1 (omega (arith, last, most))

pub returns-clause-stands : goal.returns-clause-stands
returns-clause-stands c l h sent =
    let last : c.loop.counter ≡ c.args.times = omega (arith, c.loop-test.false, c.loop.auto.counter-end) in
    let P : ℕ → Type 0 = λ n.
    HasRepeated c.loop.near c.loop.far c.loop.resets c.args.at l (Taken c.args.at) n c.args.entries.now.items c.loop.entries.items in
    subst P last (c.loop.invariant.0 l h sent)
