use Rattle.world.proofs.node.Node.is_at_rest.Goals as goal

pub returns : goal.returns
returns c m h = c.is_at_rest.ensures c.args.self.now.pool m h.has.stands
