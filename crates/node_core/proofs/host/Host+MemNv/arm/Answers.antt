use Rattle.node_core.proofs.Words.{RunsAs, subst}
use Rattle.node_core.proofs.host.Host+MemNv.arm.Goals as goal

pub returns-clause-runs : goal.returns-clause-runs
returns-clause-runs c core ports runs =
    subst (λ n. RunsAs n core ports → RunsAs c.arm.new.self core ports) c.self.view_is (c.arm.ensures.runs core ports) runs
