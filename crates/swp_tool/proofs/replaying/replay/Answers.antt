use Rattle.swp_tool.proofs.Ending.{nothing_played}
use Rattle.swp_tool.proofs.Knowing.{known}
use Rattle.swp_tool.proofs.replaying.replay.Goals as goal

pub returns-clause-ahead : goal.returns-clause-ahead
returns-clause-ahead g c tells =
    c.drive.ensures.ahead tells tt (g.S.Source.left c.args.source.now) (g.K.Sink.written c.args.sink.now)
    (nothing_played g.K.Sink.tells c.new-pieces.result (g.S.Source.left c.args.source.now)
    (g.K.Sink.written c.args.sink.now) c.new-pieces.ensures.read c.new-pieces.ensures.text)

pub returns-clause-known : goal.returns-clause-known
returns-clause-known g c tells done =
    known g.K.Sink.tells _ _ (g.S.Source.left c.args.source.now) _ (g.K.Sink.written c.args.sink.now) _ done
    (c.drive.ensures.ends tells tt (g.S.Source.left c.args.source.now) (g.K.Sink.written c.args.sink.now)
    (nothing_played g.K.Sink.tells c.new-pieces.result (g.S.Source.left c.args.source.now)
    (g.K.Sink.written c.args.sink.now) c.new-pieces.ensures.read c.new-pieces.ensures.text))

pub returns-clause-replayed : goal.returns-clause-replayed
returns-clause-replayed g c tells =
    c.drive.ensures.ends tells tt (g.S.Source.left c.args.source.now) (g.K.Sink.written c.args.sink.now)
    (nothing_played g.K.Sink.tells c.new-pieces.result (g.S.Source.left c.args.source.now)
    (g.K.Sink.written c.args.sink.now) c.new-pieces.ensures.read c.new-pieces.ensures.text)
