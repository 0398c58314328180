use Rattle.world.proofs.Nodes.{holds}
use Rattle.world.proofs.node.Node.hold.Goals as goal

pub returns : goal.returns
returns c m h room = holds c.args.held h (c.hold.ensures.stands c.args.self.now.pool m h.has.stands) c.hold.ensures.boxes.1
