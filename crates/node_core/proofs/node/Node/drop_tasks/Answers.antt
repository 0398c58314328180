use Rattle.node_core.proofs.Words.{Core, IsInStep, None, refl, subst, sym, ◌∙◌}
use Rattle.node_core.proofs.Tasks.{tasks_dropped, over, not_over}
use Rattle.node_core.proofs.node.Node.drop_tasks.Goals as goal

pub returns-then-have_ended-clause-carried : goal.returns-then-have_ended-clause-carried
returns-then-have_ended-clause-carried g c noted short start w u =
    let t = record c.args.self.now.tasks { command = None; init = None } in
    let P : Core → Type 0 = λ core. IsInStep (record c.args.self.now { tasks = t }) noted short start (record w { core = core }) in
    subst P (sym (over w.core w.ports (sym (c.have_ended.ensures w.ports u.ends) ∙ c.if-have_ended.true))) (tasks_dropped t u refl refl)

pub returns-else-have_ended-clause-carried : goal.returns-else-have_ended-clause-carried
returns-else-have_ended-clause-carried g c noted short start w u =
    let P : Core → Type 0 = λ core. IsInStep c.args.self.now noted short start (record w { core = core }) in
    subst P (sym (not_over w.core w.ports (sym (c.have_ended.ensures w.ports u.ends) ∙ c.if-have_ended.false))) u
