use Rattle.link_end.proofs.link.LinkEnd.take_lpdu.Goals as goal

pub returns-clause-stands : goal.returns-clause-stands
returns-clause-stands c m h = c.take_read.ensures.stands m c.args.lpdu.now h c.read_lpdu.ensures.says
