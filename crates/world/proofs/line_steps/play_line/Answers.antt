use Rattle.world.proofs.Words.{End, Readied, ap, end_for, false, on_ok, refl, seen_from, sym, true, ◌∙◌, ◌≡◌}
use Rattle.trace_model.specs.declared.line.Line.TheVariants as line
use Rattle.world.proofs.RoundLemmas.{same_does, happened_does, few_here, few_short}
use Rattle.world.proofs.line_steps.play_line.Goals as goal

pub returns-in-Send-clause-stands : goal.returns-in-Send-clause-stands
returns-in-Send-clause-stands c l h sent =
    let i = c.in-Send in
    let at : c.args.at ≡ i.at = c.requires.seen.2 ∙ ap (end_for c.requires.seen.0) i.is in
    on_ok c.send_line.result (c.send_line.ensures.stands l h) (λ does none. same_does (i.is ∙ ap (λ (e : End). line.Send e i.pid i.message) (sym at)) does)

pub returns-in-Deliver-clause-stands : goal.returns-in-Deliver-clause-stands
returns-in-Deliver-clause-stands c l h sent =
    let i = c.in-Deliver in
    let at : c.args.at ≡ i.at = c.requires.seen.2 ∙ ap (end_for c.requires.seen.0) i.is in
    on_ok c.deliver_line.result (c.deliver_line.ensures.stands l h sent)
    (λ does none. same_does (i.is ∙ ap (λ (e : End). line.Deliver e i.count) (sym at)) does)

pub returns-in-Lose-clause-stands : goal.returns-in-Lose-clause-stands
returns-in-Lose-clause-stands c l h sent =
    let i = c.in-Lose in
    let at : c.args.at ≡ i.at = c.requires.seen.2 ∙ ap (end_for c.requires.seen.0) i.is in
    on_ok c.lose_line.result (c.lose_line.ensures.stands l h) (λ does none. same_does (i.is ∙ ap (λ (e : End). line.Lose e) (sym at)) does)

pub returns-in-Tick-clause-stands : goal.returns-in-Tick-clause-stands
returns-in-Tick-clause-stands c l h sent =
    let i = c.in-Tick in
    on_ok c.tick_line.result (c.tick_line.ensures.stands l h sent) (λ does none. same_does i.is does)

pub returns-in-Reset-clause-stands : goal.returns-in-Reset-clause-stands
returns-in-Reset-clause-stands c l h sent =
    let i = c.in-Reset in
    let at : c.args.at ≡ i.at = c.requires.seen.2 ∙ ap (end_for c.requires.seen.0) i.is in
    on_ok c.reset_line.result (c.reset_line.ensures.stands l h (few_short (few_here c.args.at sent)))
    (λ does none. same_does (i.is ∙ ap (λ (e : End). line.Reset e i.window) (sym at)) does)

pub returns-in-Busy-clause-stands : goal.returns-in-Busy-clause-stands
returns-in-Busy-clause-stands c l h sent =
    let i = c.in-Busy in
    let at : c.args.at ≡ i.at = c.requires.seen.2 ∙ ap (end_for c.requires.seen.0) i.is in
    on_ok c.set_ready.result (c.set_ready.ensures.stands (seen_from c.args.at l) h)
    (λ r none. same_does (i.is ∙ ap (λ (e : End). line.Busy e) (sym at))
    (happened_does r c.requires.nothing (record { cause = Readied c.args.at false; none = refl; causes = refl; is = refl })))

pub returns-in-Ready-clause-stands : goal.returns-in-Ready-clause-stands
returns-in-Ready-clause-stands c l h sent =
    let i = c.in-Ready in
    let at : c.args.at ≡ i.at = c.requires.seen.2 ∙ ap (end_for c.requires.seen.0) i.is in
    on_ok c.set_ready-in-Ready.result (c.set_ready-in-Ready.ensures.stands (seen_from c.args.at l) h)
    (λ r none. same_does (i.is ∙ ap (λ (e : End). line.Ready e) (sym at))
    (happened_does r c.requires.nothing (record { cause = Readied c.args.at true; none = refl; causes = refl; is = refl })))

pub returns-in-Boot : goal.returns-in-Boot
returns-in-Boot c = absurd (rw c.in-Boot.is at c.requires.line.1)

pub returns-in-Cut : goal.returns-in-Cut
returns-in-Cut c = absurd (rw c.in-Cut.is at c.requires.line.1)

pub returns-in-Activate : goal.returns-in-Activate
returns-in-Activate c = absurd (rw c.in-Activate.is at c.requires.line.1)

pub returns-in-Arm : goal.returns-in-Arm
returns-in-Arm c = absurd (rw c.in-Arm.is at c.requires.line.1)

pub returns-in-Init : goal.returns-in-Init
returns-in-Init c = absurd (rw c.in-Init.is at c.requires.line.1)

pub returns-in-Tables : goal.returns-in-Tables
returns-in-Tables c = absurd (rw c.in-Tables.is at c.requires.line.1)

pub returns-in-Settle : goal.returns-in-Settle
returns-in-Settle c = absurd (rw c.in-Settle.is at c.requires.line.1)
