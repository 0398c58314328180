use Rattle.node_core.proofs.Words.{End, [], ap, end_of_node, refl, ◌++◌, ◌∙◌, ◌∷◌}
use Rattle.trace_model.specs.declared.entry.Entry.TheVariants as entry
use Rattle.node_core.proofs.Steps.{plain_noted}
use Rattle.node_core.proofs.node.Node.drop_message.Goals as goal

pub returns-clause-carried : goal.returns-clause-carried
returns-clause-carried g c start w u =
    let at = c.end_at-at.ensures w.core u.node in
    plain_noted (entry.Dropped (end_of_node w.core c.args.host) c.args.pipe) refl u c.note.ensures.stays
    (λ kept. c.note.ensures.noted kept ∙ ap (λ (e : End). g.W.Watch.noted c.args.watch.now ++ entry.Dropped e c.args.pipe ∷ []) at)
