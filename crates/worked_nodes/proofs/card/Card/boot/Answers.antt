use Rattle.worked_nodes.proofs.Words.{Stored, Uicc, [], ap, begins_at_rest, sym, ◌∙◌, ◌∷◌}
use Rattle.worked_nodes.proofs.Fetching.{runs_behind, new_sent}
use Rattle.worked_nodes.proofs.card.Card.boot.Goals as goal

pub send_own-requires-clause-runs : goal.send_own-requires-clause-runs
send_own-requires-clause-runs g c =
    let sent = new_sent Uicc (c.args.number ∷ []) in
    let b = begins_at_rest (g.W.Watch.noted c.args.watch.now) (g.W.Watch.is_short c.args.watch.now) c.in-Ok.ensures.runs sent in
    let live = sym (ap (λ (s : Stored g.row.N.Denot). s.journal.live) c.store.ensures) ∙ (sym c.live.ensures ∙ c.if-live.true) in
    (_, _, runs_behind (c.activate.ensures.quietly _ _ b) live)
