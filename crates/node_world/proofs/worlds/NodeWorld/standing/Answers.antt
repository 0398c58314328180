use Rattle.node_world.proofs.Words.{arith, frames_at, length, lines_played, nodes_behind, ◌≤◌}
use Rattle.node_world.proofs.RoundsGo.{few_on_way}
use Rattle.node_world.proofs.WorldsStepped.{in_order_behind}
use Rattle.node_world.proofs.worlds.NodeWorld.standing.Goals as goal

pub overflow_cast-result : goal.overflow_cast-result
overflow_cast-result c =
    let r = c.requires.state in
    let w = nodes_behind r.0 (lines_played r.0 r.1) in
    let few : length (frames_at w c.args.to) ≤ 64 =
    few_on_way c.args.to c.args.to.link c.args.self.now.sites.items w.sites r.2.stands.sites in
    omega (arith, (c.on_the_way.ensures w (rw (← c.as_slice.ensures.value) at r.2.stands.sites) (in_order_behind c.args.self.now r.0 r.1 r.2)), few)

pub returns : goal.returns
returns c header plays s =
    let w = nodes_behind header (lines_played header plays) in
    c.on_the_way.ensures w (rw (← c.as_slice.ensures.value) at s.stands.sites) (in_order_behind c.args.self.now header plays s)
