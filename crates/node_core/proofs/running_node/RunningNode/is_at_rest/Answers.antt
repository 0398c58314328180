use Rattle.node_core.proofs.Words.{between, map, ◌∙◌}
use Rattle.node_core.proofs.Between.{kept_at_rest}
use Rattle.node_core.proofs.SeenAsNode.{seen_runs}
use Rattle.node_core.proofs.running_node.RunningNode.is_at_rest.Goals as goal

pub returns : goal.returns
returns g c core ports runs =
    let r = seen_runs c.self.view_is runs in c.are_at_rest.ensures (map between ports) r.ends ∙ kept_at_rest ports
