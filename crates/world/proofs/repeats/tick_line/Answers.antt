use Rattle.world.proofs.Words.{Entry, HasRepeated, List, Ticked, ap, arith, link_after_all, refl, replicate, subst, suc, sym, unwrap_or, ℕ, ◌+◌, ◌∙◌, ◌≡◌}
use Rattle.world.proofs.Given.{sent_repeated}
use Rattle.world.proofs.RoundLemmas.{repeats_none, repeats_more, repeats_does}
use Rattle.world.proofs.repeats.tick_line.Goals as goal

pub loop-init : goal.loop-init
loop-init c = (λ l h sent. repeats_none h, omega arith)

pub tick-requires-clause-state : goal.tick-requires-clause-state
tick-requires-clause-state c =
    let s = c.requires.state in
    let r = c.loop.invariant.0 s.0 s.1 s.2 in (
      link_after_all s.0 (replicate c.loop.counter Ticked),
      r.stands,
      sent_repeated 320000 c.loop.counter s.0 Ticked tt s.2,
    )

pub loop-preserved : goal.loop-preserved
loop-preserved c =
    let g = c.tick.ensures.grows in
    let i = c.loop.invariant.1 in (
      λ l h sent.
          (let k : ℕ = c.loop.counter in
          let r = c.loop.invariant.0 l h sent in
          let more : suc k ≡ k + 1 = omega arith in
          let P : ℕ → Type 0 = λ n.
          HasRepeated c.tick.new.near c.tick.new.far c.tick.new.resets c.args.at l Ticked n c.args.entries.now.items
          c.tick.new.entries.items in
          subst P more
          (repeats_more r
          (c.in_ok-tick.ensures.stands (link_after_all l (replicate k Ticked)) r.stands (sent_repeated 320000 k l Ticked tt sent)))),
      omega (arith, g, i),
    )

pub returns-clause-stands : goal.returns-clause-stands
returns-clause-stands c l h sent =
    let last : c.loop.counter ≡ c.unwrap_or-end.result = omega (arith, c.loop-test.false, c.loop.auto.counter-end) in
    let same : c.loop.counter ≡ unwrap_or c.args.times 1 = last ∙ c.unwrap_or-end.ensures in
    let P : List Entry → Type 0 = λ before.
    HasRepeated c.loop.near c.loop.far c.loop.resets c.args.at l Ticked c.loop.counter before c.loop.entries.items in
    repeats_does (subst P c.requires.nothing (c.loop.invariant.0 l h sent)) refl (ap (λ n. replicate n Ticked) (sym same))
