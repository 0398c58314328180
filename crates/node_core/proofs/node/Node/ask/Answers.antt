use Rattle.node_core.proofs.Words.{SetAside, [], ends_of, noting, refl, turn_at, ◌∷◌}
use Rattle.trace_model.specs.declared.entry.Entry.TheVariants as entry
use Rattle.node_core.proofs.Steps.{plain_noted, silent_turn}
use Rattle.node_core.proofs.node.Node.ask.Goals as goal

pub returns-clause-carried : goal.returns-clause-carried
returns-clause-carried g c start w u =
    let row = c.args.row in
    let set = silent_turn row.creator SetAside (λ p. refl) u (c.set_aside.ensures w.ports u.ends) in
    let asked = plain_noted (entry.Ask row.dest (18 ∷ ends_of row)) refl set c.note.ensures.stays (λ kept. c.note.ensures.noted kept) in
    c.notify.ensures.carried start (noting (entry.Ask row.dest (18 ∷ ends_of row) ∷ []) (turn_at row.creator SetAside w)) asked
