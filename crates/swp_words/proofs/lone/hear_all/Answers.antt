-- A node alone hears all bytes.
use Rattle.swp_words.proofs.Words.{HasRun, [], subst}
use Rattle.swp_words.proofs.Alone.{begins_hearing, begins_broken, begins_stopped, ended_ran, broken_is, stopped_is}
use Rattle.swp_words.proofs.lone.hear_all.Goals as goal

pub returns-in-Err-clause-ran : goal.returns-in-Err-clause-ran
returns-in-Err-clause-ran g c told o is_clf same role h =
    let was = g.K.Sink.written c.args.sink.now in
    let input = g.S.Source.left c.args.source.now in
    broken_is g.N.Nv.writes is_clf o role g.K.Sink.tells
    (g.S.Source.end c.args.source.now).given c.args.ending.now.end input input was
    (g.K.Sink.written c.put_out.new.sink)
    (begins_broken g.N.Nv.writes o g.K.Sink.tells c.args.ending.now.end same
    (g.S.Source.end c.args.source.now).given c.args.stopped
    input was (g.K.Sink.written c.put_out.new.sink) c.args.ending.now.out.items h c.in-Err.ensures.front.0
    c.in-Err.ensures.front.1)

pub returns-then-stopped-clause-ran : goal.returns-then-stopped-clause-ran
returns-then-stopped-clause-ran g c told o is_clf same role h =
    let was = g.K.Sink.written c.args.sink.now in
    let input = g.S.Source.left c.args.source.now in
    stopped_is g.N.Nv.writes is_clf o role g.K.Sink.tells
    (g.S.Source.end c.args.source.now).given c.args.ending.now.end input input was
    (g.K.Sink.written c.put_out.new.sink)
    (begins_stopped g.N.Nv.writes o g.K.Sink.tells c.args.ending.now.end same
    (g.S.Source.end c.args.source.now).given input was (g.K.Sink.written c.put_out.new.sink) c.args.ending.now.out.items
    (subst (λ s. HasRun g.N.Nv.writes o.content o.first c.args.ending.now.end s []
    c.args.ending.now.out.items) c.if-stopped.true h)
    c.in-Ok.ensures.wrote)

pub returns-else-stopped-clause-ran : goal.returns-else-stopped-clause-ran
returns-else-stopped-clause-ran g c told o is_clf same role h =
    let was = g.K.Sink.written c.args.sink.now in
    let input = g.S.Source.left c.args.source.now in
    ended_ran g.N.Nv.writes is_clf o role g.K.Sink.tells
    (g.S.Source.end c.drive.new.source).given c.drive.new.job.end c.drive.new.job.count
    c.drive.result input (g.S.Source.left c.drive.new.source) was (g.K.Sink.written c.drive.new.sink)
    (c.drive.ensures.ends told o input was
    (begins_hearing g.N.Nv.writes o g.K.Sink.tells c.args.ending.now.end same
    c.args.ending.now.count input was (g.K.Sink.written c.put_out.new.sink) c.args.ending.now.out.items c.requires.none
    (subst (λ s. HasRun g.N.Nv.writes o.content o.first c.args.ending.now.end s []
    c.args.ending.now.out.items) c.if-stopped.false h)
    c.in-Ok.ensures.wrote))

pub returns-else-stopped-clause-ahead : goal.returns-else-stopped-clause-ahead
returns-else-stopped-clause-ahead g c told o same h =
    let was = g.K.Sink.written c.args.sink.now in
    let input = g.S.Source.left c.args.source.now in
    c.drive.ensures.ahead told o input was
    (begins_hearing g.N.Nv.writes o g.K.Sink.tells c.args.ending.now.end same
    c.args.ending.now.count input was (g.K.Sink.written c.put_out.new.sink) c.args.ending.now.out.items c.requires.none
    (subst (λ s. HasRun g.N.Nv.writes o.content o.first c.args.ending.now.end s []
    c.args.ending.now.out.items) c.if-stopped.false h)
    c.in-Ok.ensures.wrote)
