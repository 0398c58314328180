use Rattle.node_laws.proofs.kept.Ticking.{all_keep}
use Rattle.node_laws.proofs.commands_and_pipes.nodes_keep_what_is_read.Goals as goal

pub returns : goal.returns
returns c = all_keep
