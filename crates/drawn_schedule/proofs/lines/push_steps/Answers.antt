use Rattle.std.proofs.Common.{◌+◌, ◌%◌, ◌++◌, ◌∷◌, [], ◌∙◌, arith, ap, ap₂}
use Rattle.drawn_schedule.specs.Schedule.{step_line, next_number, drawn_of}
use Rattle.drawn_schedule.proofs.StepLemmas.{no_lines, first_number, step_lines, step_number}
use Rattle.drawn_schedule.proofs.lines.push_steps.Goals as goal

pub steps-init : goal.steps-init
steps-init c = (no_lines c.args.n c.args.lines.now.items, c.from-x.ensures ∙ first_number c.args.n, omega arith)

pub steps-preserved : goal.steps-preserved
steps-preserved c =
    let second = c.next-second.ensures ∙ ap next_number c.next-first.ensures in
    let which = c.drawn.ensures.value ∙ ap (λ y. drawn_of y % 16) c.next-first.ensures in
    let host = c.drawn-in-steps.ensures.value ∙ ap (λ y. drawn_of y % 3) second in
    let said = c.in_ok-step.ensures ∙ ap₂ (λ a b. step_line a (1 + b)) which host in (
      c.in_ok-push.ensures.items ∙ ap (λ l. c.steps.lines.items ++ l ∷ []) said
          ∙ step_lines c.args.n c.steps.done c.steps.x c.args.lines.now.items c.steps.lines.items c.steps.invariant.1 c.steps.invariant.0,
      second ∙ step_number c.args.n c.steps.done c.steps.x c.steps.invariant.1,
      omega arith,
    )
