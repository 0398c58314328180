use Rattle.node_world.proofs.Words.{lines_played, nodes_behind}
use Rattle.node_world.proofs.WorldsStepped.{in_order_behind, timely_so}
use Rattle.node_world.proofs.worlds.NodeWorld.rests.Goals as goal

pub all_rest-requires : goal.all_rest-requires
all_rest-requires c =
    let r = c.requires.state in
    record {
      state = (
        (nodes_behind r.0 (lines_played r.0 r.1)),
        rw (← c.as_slice.ensures.value) at r.2.stands,
        in_order_behind c.args.self.now r.0 r.1 r.2,
        timely_so c.args.self.now r.0 r.1 r.2,
      );
    }

pub returns : goal.returns
returns c header plays s =
    let w = nodes_behind header (lines_played header plays) in
    c.all_rest.ensures w (rw (← c.as_slice.ensures.value) at s.stands) (in_order_behind c.args.self.now header plays s)
    (timely_so c.args.self.now header plays s)
