use Rattle.node_deeds.proofs.Words.{None, Some, ◌∙◌}
use Rattle.node_deeds.proofs.Views.{link_found}
use Rattle.node_deeds.proofs.view.is_linked.Goals as goal

pub returns-in-Some : goal.returns-in-Some
returns-in-Some c = c.is_in.ensures ∙ link_found c.args.up c.args.desks.now c.args.host (Some c.in-Some.desk.now) c.in-Some.ensures

pub returns-in-None : goal.returns-in-None
returns-in-None c = link_found c.args.up c.args.desks.now c.args.host None c.in-None.ensures
