use Rattle.node_core.proofs.Words.{IsInStep, KeptInit, None, Option, Some, Tasks, done, goes_on_with, init_running, refl, subst, sym}
use Rattle.node_deeds.specs.Shown.{init_shown}
use Rattle.node_core.proofs.Tasks.{init_changed, command_changed}
use Rattle.node_core.proofs.node.Node.go_on.Goals as goal

pub returns-in-Some-clause-carried : goal.returns-in-Some-clause-carried
returns-in-Some-clause-carried g c host noted short start w u =
    let i : KeptInit = c.in-Some.init in
    let n = c.args.self.now in
    let t : Tasks = record n.tasks { init = Some (record i { answered = c.args.answered }) } in
    let P : Option KeptInit → Type 0 = λ o. IsInStep (record n { tasks = t }) noted short start
    (done host (goes_on_with (init_running o) c.args.answered) w) in
    subst P (sym c.in-Some.is) (init_changed t (Some (record (init_shown i) { answered = c.args.answered })) u refl refl)

pub returns-in-None-clause-carried : goal.returns-in-None-clause-carried
returns-in-None-clause-carried g c host noted short start w u =
    let n = c.args.self.now in
    let t : Tasks = record n.tasks { command = None } in
    let P : Option KeptInit → Type 0 = λ o. IsInStep (record n { tasks = t }) noted short start
    (done host (goes_on_with (init_running o) c.args.answered) w) in
    subst P (sym c.in-None.is) (command_changed t None u refl refl)
