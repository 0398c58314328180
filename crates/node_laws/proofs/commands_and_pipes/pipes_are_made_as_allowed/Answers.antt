use Rattle.node_laws.proofs.kept.Ticking.{are_allowed}
use Rattle.node_laws.proofs.commands_and_pipes.pipes_are_made_as_allowed.Goals as goal

pub returns : goal.returns
returns c = are_allowed
