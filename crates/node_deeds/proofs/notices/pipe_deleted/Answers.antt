use Rattle.node_deeds.proofs.Words.{ap, arith, get_or, host_core, is_some, length, pipe_at, sym, ◌∙◌, ◌≡◌}
use Rattle.node_deeds.proofs.HostWalks.{deleted_kept}
use Rattle.node_deeds.proofs.notices.pipe_deleted.Goals as goal

pub returns-then-is_some-clause-deeds : goal.returns-then-is_some-clause-deeds
returns-then-is_some-clause-deeds g c =
    let s = c.args.store.now in
    let body = c.args.body.now in
    let one : length body ≡ 1 = omega arith in
    let row = ap (λ rows. pipe_at rows (get_or body 0 0)) (sym (c.pipes.ensures ∙ ap (λ t. t.rows) c.tables.ensures)) ∙ sym c.find.ensures.row in
    let kept = ap is_some row ∙ (sym c.is_some.ensures ∙ c.if-is_some.true) in
    λ a init. c.accepts.ensures.deeds a init ∙ deleted_kept (host_core c.args.host s.journal.state s.tables init) body one kept
