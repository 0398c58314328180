use Rattle.node_core.proofs.Words.{End, IsInStep, Work, [], ap, end_of_node, noting, refl, subst, sym, true, ◌++◌, ◌∙◌, ◌∷◌}
use Rattle.trace_model.specs.declared.entry.Entry.TheVariants as entry
use Rattle.node_core.proofs.Steps.{plain_noted, desk_changed}
use Rattle.node_core.proofs.Holding.{was_noted, is_noted_now}
use Rattle.node_core.proofs.node.Node.note_held.Goals as goal

pub returns-then-holds-clause-carried : goal.returns-then-holds-clause-carried
returns-then-holds-clause-carried g c start w u =
    let P : Work → Type 0 = λ v. IsInStep c.args.self.now (g.W.Watch.noted c.args.watch.now) (g.W.Watch.is_short c.args.watch.now) start v in
    subst P (sym (was_noted c.args.host (c.args.need, c.args.spare) w (sym (c.holds.ensures w.ports u.ends) ∙ c.if-holds.true))) u

pub returns-clause-carried : goal.returns-clause-carried
returns-clause-carried g c start w u =
    let h = c.args.host in
    let at = c.end_at-at.ensures w.core u.node in
    let first : Work = noting (entry.Held (end_of_node w.core h) c.args.need c.args.spare ∷ []) w in
    let noted = plain_noted (entry.Held (end_of_node w.core h) c.args.need c.args.spare) refl u c.note.ensures.stays
    (λ kept. c.note.ensures.noted kept ∙ ap (λ (e : End). g.W.Watch.noted c.args.watch.now ++ entry.Held e c.args.need c.args.spare ∷ []) at) in
    let P : Work → Type 0 = λ v. IsInStep (record c.args.self.now { ends = c.set_holds.new.self }) (g.W.Watch.noted c.note.new.watch)
    (g.W.Watch.is_short c.note.new.watch) start v in
    subst P (sym (is_noted_now h (c.args.need, c.args.spare) w (sym (c.holds.ensures w.ports u.ends) ∙ c.if-holds.false)))
    (desk_changed {ends = c.set_holds.new.self} h (λ d. record d { holds = true }) noted (c.set_holds.ensures first.ports noted.ends))
