use Rattle.std.proofs.Common.{rules}
use Rattle.std.specs.Prelude.{Result}
use Rattle.link_end.proofs.Words.{Control, EndStandsFor, Err, IsShdlc, LinkEnd, List, Ok, after_input, ap, control_of, false, is_open, report, report_told}
use Rattle.link_end.proofs.Words.{subst, sym, true, ℕ, ◌∙◌, ◌≡◌}
use Rattle.swp_lpdu.specs.declared.LpduFault.{LpduFault}
use Rattle.link_laws.specs.machine.Machine.{LinkInput, lpdu_input}
use Rattle.link_laws.specs.machine.Machine.LinkInput.{Take, TakeUnknown}
use Rattle.link_end.proofs.StepLemmas.{act_is_told, heard_after, heard_is_told, unheard_after}
use Rattle.link_end.proofs.«end».End.take_read.Goals as goal

abbrev by_reading : Result Control LpduFault → LinkInput
by_reading (Ok c) = Take c
by_reading (Err fault) = TakeUnknown

-- a frame that was read is the input that its LPDU is
input : {read : Result Control LpduFault} {frame : Control} (lpdu : List ℕ) → read ≡ Ok frame → read ≡ control_of lpdu → Take frame ≡ lpdu_input lpdu
input lpdu ok is = ap by_reading (sym ok ∙ is)

pub returns-in-Act-clause-stands : goal.returns-in-Act-clause-stands
returns-in-Act-clause-stands c m lpdu h is =
    let P : LinkInput → Type 0 = λ i. EndStandsFor c.event-report.new.self c.event-report.new.pool (after_input m i) in
    subst P (ap Take (sym c.in-Act.is) ∙ input lpdu c.in-Ok.is is) (c.event-report.ensures.stands m h)

pub returns-in-Act-clause-answer : goal.returns-in-Act-clause-answer
returns-in-Act-clause-answer c m lpdu h is =
    c.event-report.ensures.answer m h ∙ (act_is_told m c.in-Act.act c.in-Act.again
    ∙ ap (λ (i : LinkInput). report_told (report m i)) (ap Take (sym c.in-Act.is) ∙ input lpdu c.in-Ok.is is))

pub returns-in-Clt-clause-stands : goal.returns-in-Clt-clause-stands
returns-in-Clt-clause-stands c m lpdu h is =
    let P : LinkInput → Type 0 = λ i. EndStandsFor c.pass_over-in-Clt.new.self c.args.pool.now (after_input m i) in
    subst P (ap Take (sym c.in-Clt.is) ∙ input lpdu c.in-Ok.is is) (c.pass_over-in-Clt.ensures.stands c.args.pool.now m h)

pub returns-else-not-is_open-clause-stands : goal.returns-else-not-is_open-clause-stands
returns-else-not-is_open-clause-stands c =
    let shdlc : IsShdlc c.in-Ok.control = search (rules, c.in-I.is) in λ m lpdu h is.
    let o : is_open m.role ≡ true = sym (ap is_open h.halfway.role) ∙ (sym c.is_open.ensures ∙ c.if-not-is_open.false) in
    let P : LinkEnd → Type 0 = λ x. EndStandsFor c.hear.new.self c.hear.new.pool x in
    subst P (sym (heard_after m c.in-Ok.control shdlc o) ∙ ap (after_input m) (input lpdu c.in-Ok.is is)) (c.hear.ensures.stands m h)

pub returns-else-not-is_open-clause-answer : goal.returns-else-not-is_open-clause-answer
returns-else-not-is_open-clause-answer c =
    let shdlc : IsShdlc c.in-Ok.control = search (rules, c.in-I.is) in λ m lpdu h is.
    let o : is_open m.role ≡ true = sym (ap is_open h.halfway.role) ∙ (sym c.is_open.ensures ∙ c.if-not-is_open.false) in
    c.hear.ensures.answer m h ∙ (heard_is_told m c.in-Ok.control shdlc o
    ∙ ap (λ (i : LinkInput). report_told (report m i)) (input lpdu c.in-Ok.is is))

pub returns-then-not-is_open-clause-stands : goal.returns-then-not-is_open-clause-stands
returns-then-not-is_open-clause-stands c m lpdu h is =
    let o : is_open m.role ≡ false = sym (ap is_open h.halfway.role) ∙ (sym c.is_open.ensures ∙ c.if-not-is_open.true) in
    let P : LinkEnd → Type 0 = λ x. EndStandsFor c.args.self.now c.args.pool.now x in
    subst P (sym (unheard_after m c.in-Ok.control (search rules) o) ∙ ap (after_input m) (input lpdu c.in-Ok.is is)) h

pub returns-in_default-clause-stands : goal.returns-in_default-clause-stands
returns-in_default-clause-stands c m lpdu h is =
    let P : LinkInput → Type 0 = λ i. EndStandsFor c.pass_over.new.self c.args.pool.now (after_input m i) in
    subst P (ap by_reading (sym c.in_default.is ∙ is)) (c.pass_over.ensures.stands c.args.pool.now m h)
