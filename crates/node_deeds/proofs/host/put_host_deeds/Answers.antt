use Rattle.node_deeds.proofs.Words.{IsHostAt, subst, ◌∙◌}
use Rattle.node_deeds.proofs.HostWalks.{host_of_core}
use Rattle.node_deeds.proofs.host.put_host_deeds.Goals as goal

pub returns-then-is_up-clause-deeds : goal.returns-then-is_up-clause-deeds
returns-then-is_up-clause-deeds g c = λ core p at.
    let s = c.args.store.now in
    let d = c.args.desk.now in
    let tasks = c.args.tasks.now in
    c.heard_of.ensures.deeds
    ∙ host_of_core core p (c.args.pipe, c.args.message.now) s d tasks (subst (λ (up : _). IsHostAt s d up tasks core p) c.if-is_up.true at)
