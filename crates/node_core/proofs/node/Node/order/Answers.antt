use Rattle.node_core.proofs.Words.{Ordered, Some, ap, refl, sym}
use Rattle.node_core.proofs.Tasks.{command_changed}
use Rattle.node_core.proofs.node.Node.order.Goals as goal

pub returns-clause-carried : goal.returns-clause-carried
returns-clause-carried g c start w u =
    let message = c.args.message.now in
    c.send.ensures.carried start (record w { core = record w.core { command = Some message } })
    (command_changed _ (Some message) u (ap (λ (o : Ordered). Some o) (sym c.ordered_by.ensures)) refl)
