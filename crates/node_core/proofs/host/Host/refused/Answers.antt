use Rattle.node_core.proofs.Words.{Node, RunsAs, one_more_error, subst, with_port, ℕ}
use Rattle.node_core.proofs.host.Host.refused.Goals as goal

pub returns-clause-runs : goal.returns-clause-runs
returns-clause-runs g c core ports runs =
    let F : Node g.row.N.Denot → Type 0 = λ n. RunsAs n core ports → RunsAs c.refused.new.self core (with_port n.number one_more_error ports) in
    let P : ℕ → Type 0 = λ h. RunsAs c.refused.new.self core (with_port h one_more_error ports) in
    subst F c.self.view_is (λ r. subst P c.number-host.ensures (c.refused.ensures.runs core ports r)) runs
