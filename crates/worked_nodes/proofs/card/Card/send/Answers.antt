use Rattle.worked_nodes.proofs.Words.{Stored, ap, begins_at_rest, sym, ◌∙◌}
use Rattle.worked_nodes.proofs.Fetching.{runs_behind, asked_then}
use Rattle.worked_nodes.proofs.card.Card.send.Goals as goal

pub send_own-requires-clause-runs : goal.send_own-requires-clause-runs
send_own-requires-clause-runs g c =
    let live = sym (ap (λ (s : Stored g.row.N.Denot). s.journal.live) c.store.ensures) ∙ (sym c.live.ensures ∙ c.if-not-live.false) in
    let m = c.self.invariant.0 live in
    let a = asked_then (begins_at_rest (g.W.Watch.noted c.args.watch.now) (g.W.Watch.is_short c.args.watch.now) m.runs m.sent) in
    let e = c.in-Ok.ensures in
    (_, _, runs_behind (e.given _ _ a) (ap (λ (s : Stored g.row.N.Denot). s.journal.live) e.store ∙ live))
