use Rattle.node_world.proofs.Words.{lines_played, nodes_behind}
use Rattle.node_world.proofs.WorldsStepped.{in_order_behind}
use Rattle.node_world.proofs.worlds.NodeWorld.running.Goals as goal

pub returns : goal.returns
returns c header plays s =
    let w = nodes_behind header (lines_played header plays) in
    c.runs.ensures w (rw (← c.as_slice.ensures.value) at s.stands) (in_order_behind c.args.self.now header plays s)
