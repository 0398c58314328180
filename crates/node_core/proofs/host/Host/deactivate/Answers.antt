use Rattle.node_core.proofs.SeenAsNode.{never_refused}
use Rattle.node_core.proofs.host.Host.deactivate.Goals as goal

pub unwrap-requires : goal.unwrap-requires
unwrap-requires g c =
    let m = c.requires.may in never_refused c.step_unwritten.result (c.step_unwritten.ensures.refusal m.core m.ports m.runs)
