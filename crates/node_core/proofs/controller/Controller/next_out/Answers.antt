use Rattle.node_core.proofs.SeenAsNode.{seen_runs}
use Rattle.node_core.proofs.controller.Controller.next_out.Goals as goal

pub returns-clause-runs : goal.returns-clause-runs
returns-clause-runs g c core ports r = c.next_out.ensures.runs core ports (seen_runs c.self.view_is r)

pub returns-clause-read : goal.returns-clause-read
returns-clause-read g c core ports p r is = c.next_out.ensures.read core ports p (seen_runs c.self.view_is r) is
