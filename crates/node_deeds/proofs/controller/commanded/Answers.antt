use Rattle.node_deeds.proofs.Words.{IsSoundDecision, None, Some, ap, arith, body_in, cond, controller_core, decided, decision_deeds, goes_through, handled}
use Rattle.node_deeds.proofs.Words.{instruction_in, own_gate, own_view, ports_shown, subst, sym, view_for, ◌∙◌, ◌≡◌}
use Rattle.node_deeds.proofs.Control.{gate_serves, gate_decides}
use Rattle.node_deeds.proofs.Decisions.{decided_soundly}
use Rattle.node_deeds.proofs.Views.{errors_shown}
use Rattle.node_deeds.proofs.controller.commanded.Goals.{then-goes_through, else-goes_through}
use Rattle.node_deeds.proofs.controller.commanded.Goals as goal

pub returns-in-Some-clause-deeds : goal.returns-in-Some-clause-deeds
returns-in-Some-clause-deeds g c =
    let s = c.args.store.now in
    let message = c.args.message.now in
    let host = c.args.host in
    let pipe = c.args.pipe in
    let ports = ports_shown c.args.up c.args.desks.now in
    let gate : cond (goes_through s.tables host pipe (instruction_in message)) (own_gate s.tables host pipe) None ≡ Some c.in-Some.gate =
    elim c.if-goes_through.branch [ then-goes_through w ↦ grind arith | else-goes_through w ↦ grind arith ] in
    c.served.ensures.deeds
    ∙ gate_serves (controller_core s.journal.state s.tables) ports host (pipe, message) pipe (instruction_in message) c.in-Some.gate c.errors_at.result
    (body_in message) gate (c.errors_at.ensures ∙ errors_shown c.args.up c.args.desks.now host)

pub put_decision-requires-clause-sound : goal.put_decision-requires-clause-sound
put_decision-requires-clause-sound g c =
    let message = c.args.message.now in
    subst (IsSoundDecision c.args.host) (sym c.decide-decision.ensures.decided)
    (decided_soundly c.tables-in-None.result.now c.view_for-view.result c.args.host c.args.pipe (instruction_in message) (body_in message)
    c.requires.some c.requires.host)

pub returns-in-None-clause-deeds : goal.returns-in-None-clause-deeds
returns-in-None-clause-deeds g c =
    let s = c.args.store.now in
    let message = c.args.message.now in
    let host = c.args.host in
    let pipe = c.args.pipe in
    let ports = ports_shown c.args.up c.args.desks.now in
    let gate : cond (goes_through s.tables host pipe (instruction_in message)) (own_gate s.tables host pipe) None ≡ None =
    elim c.if-goes_through.branch [ then-goes_through w ↦ grind arith | else-goes_through w ↦ grind arith ] in
    let core = controller_core s.journal.state s.tables in
    c.put_decision.ensures.deeds (handled pipe message)
    ∙ (ap (decision_deeds (own_view core) host pipe)
    (c.decide-decision.ensures.decided
    ∙ ap (λ t. decided t c.view_for-view.result host pipe (instruction_in message) (body_in message)) c.tables-in-None.ensures)
    ∙ gate_decides core ports host (pipe, message) pipe (instruction_in message) (body_in message)
    c.view_for-view.result gate (c.view_for-view.ensures ∙ ap (λ t. view_for t ports host) c.tables.ensures))
