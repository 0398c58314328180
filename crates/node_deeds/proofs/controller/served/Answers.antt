use Rattle.node_deeds.proofs.Words.{ap, body_in, gate_deeds, handled, instruction_in, sym, ◌∙◌}
use Rattle.node_deeds.proofs.controller.served.Goals as goal

pub returns-in-6-clause-deeds : goal.returns-in-6-clause-deeds
returns-in-6-clause-deeds c =
    let message = c.args.message.now in
    c.link_answered.ensures.deeds (handled c.args.pipe message)
    ∙ ap (λ gate. gate_deeds gate c.args.errors c.args.host c.args.pipe (instruction_in message) (body_in message)) (sym c.in-6.is)
