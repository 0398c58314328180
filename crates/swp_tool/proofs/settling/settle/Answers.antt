use Rattle.world.specs.Worlds.{world_header}
use Rattle.swp_tool.proofs.Playing.{stepped_settled}
use Rattle.swp_tool.proofs.RoundLemmas.{settled_runs}
use Rattle.swp_tool.proofs.settling.settle.Goals as goal

pub returns-clause-runs : goal.returns-clause-runs
returns-clause-runs c =
    settled_runs c.args.world.now c.gather.new.world c.args.most c.args.text.now.items c.gather.new.text.items
    c.in_default.ensures.stands c.in_default.ensures.told

pub returns-clause-stepped : goal.returns-clause-stepped
returns-clause-stepped c count was =
    let w = c.args.world.now in
    stepped_settled w c.gather.new.world c.args.most count was c.requires.most (c.in_default.ensures.stands (world_header w) was.plays was.stands)
