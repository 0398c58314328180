use Rattle.worked_nodes.proofs.Words.{Core, Node, Port, RunsAs, subst}
use Rattle.swp_base.specs.declared.nv_memory.MemNv.{MemNv}
use Rattle.worked_nodes.proofs.library.«FrontEnd+MemNv».arm.Goals as goal

pub returns-clause-runs : goal.returns-clause-runs
returns-clause-runs c core ports =
    let F : Node MemNv → Type 0 = λ n. RunsAs n core ports → RunsAs c.arm.new.self core ports in
    subst F c.self.view_is (c.arm.ensures.runs core ports)
