use Rattle.world.proofs.node.Node.is_idle.Goals as goal

pub returns : goal.returns
returns c m h t = c.is_idle.ensures c.args.self.now.pool m h.has.stands t
