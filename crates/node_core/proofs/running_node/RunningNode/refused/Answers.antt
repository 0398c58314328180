use Rattle.node_core.proofs.Words.{between, map, refl}
use Rattle.node_core.proofs.Between.{refused_runs}
use Rattle.node_core.proofs.SeenAsNode.{seen_runs}
use Rattle.node_core.proofs.running_node.RunningNode.refused.Goals as goal

pub returns-clause-runs : goal.returns-clause-runs
returns-clause-runs g c core ports runs =
    let r = seen_runs c.self.view_is runs in refused_runs c.args.host r (c.count_error.ensures (map between ports) r.ends) refl refl refl
