-- A node that has booted runs.
use Rattle.swp_words.proofs.Words.{Began, RanSo, form_named, subst, sym}
use Rattle.swp_words.proofs.lone.run_alone.Goals as goal

pub returns-clause-ran : goal.returns-clause-ran
returns-clause-ran g c told content booted =
    let first = c.args.node.store.journal.nv in
    let o : Began g.row.N.Denot = record { form = c.args.asked.form; number = c.args.node.number; content = content; first = first } in
    subst (λ n. RanSo g.N.Nv.writes g.K.Sink.tells (g.S.Source.end c.hear_all-status.new.source).given
    (form_named c.args.asked.form) c.args.asked.is_clf content first n c.hear_all-status.result
    (g.S.Source.left c.args.source.now) (g.S.Source.left c.hear_all-status.new.source) (g.K.Sink.written c.args.sink.now)
    (g.K.Sink.written c.hear_all-status.new.sink)) (sym c.memory_of.ensures)
    (c.hear_all-status.ensures.ran told o c.args.asked.is_clf (c.begin-end.ensures.form, c.begin-end.ensures.number) c.requires.role
    (c.begin-end.ensures.run content first booted))

pub returns-clause-ahead : goal.returns-clause-ahead
returns-clause-ahead g c told content booted =
    let first = c.args.node.store.journal.nv in
    c.hear_all-status.ensures.ahead told (record { form = c.args.asked.form; number = c.args.node.number; content = content; first = first })
    (c.begin-end.ensures.form, c.begin-end.ensures.number) (c.begin-end.ensures.run content first booted)
