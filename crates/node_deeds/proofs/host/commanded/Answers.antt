use Rattle.node_deeds.proofs.Words.{ap, body_in, handled_by, host_core, instruction_in, own_view, sym, ◌∙◌}
use Rattle.gate_link.specs.Link.{link_served}
use Rattle.node_machine.specs.Controller.{link_deeds}
use Rattle.node_machine.specs.HostReplies.{ordered_deeds}
use Rattle.node_deeds.proofs.host.commanded.Goals as goal

pub returns-then-pipe-eq-ADMINISTRATION_PIPE-clause-deeds : goal.returns-then-pipe-eq-ADMINISTRATION_PIPE-clause-deeds
returns-then-pipe-eq-ADMINISTRATION_PIPE-clause-deeds g c =
    let s = c.args.store.now in
    let message = c.args.message.now in
    λ init. c.notified.ensures.deeds (handled_by c.args.host init c.args.pipe message) init
    ∙ ap
    (λ pipe. ordered_deeds (own_view (host_core c.args.host s.journal.state s.tables init)) c.args.errors pipe (instruction_in message) (body_in message))
    (sym c.if-pipe-eq-ADMINISTRATION_PIPE.true)

pub returns-then-pipe-eq-LINK_PIPE-clause-deeds : goal.returns-then-pipe-eq-LINK_PIPE-clause-deeds
returns-then-pipe-eq-LINK_PIPE-clause-deeds g c =
    let s = c.args.store.now in
    let message = c.args.message.now in
    let zero = c.if-pipe-eq-LINK_PIPE.true in
    λ init. c.link_answered.ensures.deeds (handled_by c.args.host init c.args.pipe message)
    ∙ (ap (λ pipe. link_deeds c.args.host pipe (link_served c.args.errors (instruction_in message) (body_in message))) zero
    ∙ ap
    (λ pipe. ordered_deeds (own_view (host_core c.args.host s.journal.state s.tables init)) c.args.errors pipe (instruction_in message) (body_in message))
    (sym zero))
