use Rattle.std.specs.Option.{option_copied}
use Rattle.schedule_text.proofs.Names.{arith, row_for, subst, sym, words}
use Rattle.schedule_text.specs.declared.fault.LineFault.TheVariants as fault
use Rattle.schedule_text.specs.Answers.{IsInGrammar, IsOutOfOrder, IsSkipped}
use Rattle.schedule_text.proofs.FaultsLemmas.{not_too_long, order_iff, same_fault, answer_fits}
use Rattle.schedule_text.proofs.LinesLemmas.{row_fits, never_skipped}
use Rattle.schedule_text.proofs.read.read_line.Goals as goal

pub returns-clause-fits : goal.returns-clause-fits
returns-clause-fits c =
    answer_fits (IsInGrammar (option_copied c.args.header)) c.read_by_form.result _ c.read_by_form.ensures
    (row_fits (option_copied c.args.header) c.in-Some.first.now (words c.in-Some.rest.now)) (grind arith)

pub returns-clause-too_long : goal.returns-clause-too_long
returns-clause-too_long c = (
  λ h. absurd (not_too_long (option_copied c.args.header) (row_for c.in-Some.first.now (words c.in-Some.rest.now)) (words c.in-Some.rest.now)
      ((same_fault c.read_by_form.result _ fault.TooLong c.read_by_form.ensures).0 h)),
  λ long. absurd (omega arith),
)

pub returns-clause-skip : goal.returns-clause-skip
returns-clause-skip c = (
  λ h. absurd
      (never_skipped (option_copied c.args.header) c.in-Some.first.now (words c.in-Some.rest.now) (grind arith)),
  λ h. absurd (let comment = subst IsSkipped c.in-Some.ensures.some h.1 in let other = c.if-comment.ensures in cc),
)

pub returns-clause-order : goal.returns-clause-order
returns-clause-order c =
    let same = same_fault c.read_by_form.result _ fault.Order c.read_by_form.ensures in
    let ordered = order_iff (option_copied c.args.header) c.in-Some.first.now (words c.in-Some.rest.now) (sym c.if-comment.ensures) in (
      λ h. (omega arith, subst (IsOutOfOrder (option_copied c.args.header)) (sym c.in-Some.ensures.some) (ordered.0 (same.0 h))),
      λ h. same.1 (ordered.1 (subst (IsOutOfOrder (option_copied c.args.header)) c.in-Some.ensures.some h.1)),
    )
