use Rattle.node_laws.proofs.kept.Ticking.{are_kept}
use Rattle.node_laws.proofs.commands_and_pipes.commands_are_kept.Goals as goal

pub returns : goal.returns
returns c = are_kept
