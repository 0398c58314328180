use Rattle.block_pool.proofs.Words.{ap, arith, block_at, get_or, length, subst, sym, ℕ, ◌+◌, ◌-◌, ◌<◌, ◌∙◌, ◌≡◌}
use Rattle.block_pool.proofs.WalkLemmas.{block_at-more}
use Rattle.block_pool.proofs.blocks.seek.Goals as goal
use Rattle.block_pool.proofs.blocks.seek.Goals.{then-passed-steps, else-passed-steps}

pub loop-step-init : goal.loop-step-init
loop-step-init c =
    let at = block_at c.args.next.now c.args.first in
    let steps = c.args.steps in
    let left = c.if-passed-steps.left in
    elim c.if-passed-steps.branch [
      | then-passed-steps w ↦
          let on : c.args.head.now.passed ≡ steps - left + 0 = omega (arith, w.left-is, w.if-passed-steps.true) in
          (omega (arith, w.left-is), w.block-is ∙ (sym c.requires.marked ∙ ap at on))
      | else-passed-steps w ↦
          let on : 0 ≡ steps - left + 0 = omega (arith, w.left-is) in
          (omega (arith, w.left-is), w.block-is ∙ ap at on)
    ]

pub bounds-next-block : goal.bounds-next-block
bounds-next-block c =
    let on : c.args.steps - c.if-passed-steps.left + c.loop-step._step < c.args.steps = omega (arith, c.loop-step.invariant.0, c.loop-step-test.true) in
    subst (λ (b : ℕ). b < length c.args.next.now) (sym c.loop-step.invariant.1) (c.requires.reached _ on)

pub loop-step-preserved : goal.loop-step-preserved
loop-step-preserved c =
    let place = c.args.steps - c.if-passed-steps.left + c.loop-step._step in
    let on : place + 1 ≡ c.args.steps - c.if-passed-steps.left + (c.loop-step._step + 1) = omega arith in (
      c.loop-step.invariant.0,
      ap (λ (b : ℕ). get_or c.args.next.now b 0) c.loop-step.invariant.1
          ∙ (block_at-more c.args.next.now c.args.first place ∙ ap (block_at c.args.next.now c.args.first) on),
    )

pub returns : goal.returns
returns c = c.loop-step.invariant.1 ∙ ap (block_at c.args.next.now c.args.first) (omega (arith, c.loop-step.invariant.0, c.loop-step-test.false))
