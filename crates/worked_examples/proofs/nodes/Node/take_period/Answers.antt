use Rattle.std.proofs.Common.{List, sym, ◌∙◌, subst}
use Rattle.swp_frame.specs.Signal.{Symbol}
use Rattle.swp_line.specs.Periods.{period_at}
use Rattle.link_end.specs.Inputs.{heard_after}
use Rattle.swp_frame.specs.Kept.{DeframerStandsFor}
use Rattle.byte_link.specs.Kept.{ByteLinkStandsFor}
use Rattle.worked_examples.proofs.nodes.Node.take_period.Goals as goal

pub fetch-message-requires-clause-stands : goal.fetch-message-requires-clause-stands
fetch-message-requires-clause-stands g c =
    let i = c.self.invariant in
    (_, c.take_period-report.ensures.stands i.0.state i.1.0 i.0.stands i.1.1)

pub invariant_of-self : goal.invariant_of-self
invariant_of-self g c =
    let i = c.self.invariant in
    let e = c.take_period-report.ensures in
    let f = c.fetch-message.ensures in
    let heard : List Symbol = heard_after i.0.state.role i.1.0 (period_at c.args.byte) in (
      f.rests,
      (heard, subst (λ d. DeframerStandsFor d heard) (sym f.inputs.0) (e.seen i.0.state i.1.0 i.0.stands i.1.1)),
      (i.2.0, subst (λ b. ByteLinkStandsFor b i.2.0) (sym (f.inputs.1 ∙ e.inputs)) i.2.1),
    )
