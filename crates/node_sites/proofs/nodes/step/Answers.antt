use Rattle.node_sites.proofs.Words.{as_told, sym, ◌∙◌}
use Rattle.node_machine.specs.Node.{steps}
use Rattle.node_core.specs.Inputs.{input_of_node}
use Rattle.node_sites.proofs.NodesRun.{bare, steps_regardless, begins_so, begins_bare, told_so, goes_so, noted_so}
use Rattle.node_sites.proofs.nodes.step.Goals as goal

pub returns-in-Ok-clause-stepped : goal.returns-in-Ok-clause-stepped
returns-in-Ok-clause-stepped c w begins =
    let noted = as_told c.args.noted.now.sessions c.args.noted.now.entries.items in
    let e = c.in-Ok.ensures in
    goes_so c.is_done.result (steps_regardless (input_of_node c.args.input)) begins
    (e.stepped noted (bare w) (begins_bare noted c.args.noted.now.short begins)) (told_so c.is_done.result _ (sym e.ran ∙ c.is_done.ensures))

pub returns-in-Ok-clause-noted : goal.returns-in-Ok-clause-noted
returns-in-Ok-clause-noted c sessions start w begins told =
    noted_so c.step.new.watch {f = steps (input_of_node c.args.input)} begins.plan
    (c.in-Ok.ensures.stepped (as_told sessions start) w (begins_so begins told))
