use Rattle.worked_nodes.proofs.Words.{Stored, ap, begins_at_rest, sym, ◌∙◌}
use Rattle.worked_nodes.proofs.Fetching.{runs_behind}
use Rattle.worked_nodes.proofs.card.Card.reset.Goals as goal

pub send_own-requires-clause-runs : goal.send_own-requires-clause-runs
send_own-requires-clause-runs g c =
    let m = c.self.invariant.0 (sym (ap (λ (s : Stored g.row.N.Denot). s.journal.live) c.store.ensures) ∙ (sym c.live.ensures ∙ c.if-not-live.false)) in
    let b = begins_at_rest (g.W.Watch.noted c.args.watch.now) (g.W.Watch.is_short c.args.watch.now) m.runs m.sent in
    let live = sym (ap (λ (s : Stored g.row.N.Denot). s.journal.live) c.store-in-Ok.ensures) ∙ (sym c.live-in-Ok.ensures ∙ c.if-live.true) in
    (_, _, runs_behind (c.in-Ok.ensures.quietly _ _ b) live)
