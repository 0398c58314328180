use Rattle.node_core.proofs.Between.{all_one_by_one}
use Rattle.node_core.proofs.running.frames_of_a_node_go_out.Goals as goal

pub returns : goal.returns
returns g c n core ports r = all_one_by_one r
