use Rattle.node_core.proofs.SeenAsNode.{seen_runs}
use Rattle.node_core.proofs.controller.Controller.refused.Goals as goal

pub returns-clause-runs : goal.returns-clause-runs
returns-clause-runs g c core ports r = c.refused.ensures.runs core ports (seen_runs c.self.view_is r)
