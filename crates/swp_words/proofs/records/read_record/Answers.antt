use Rattle.swp_words.proofs.Recording.{nothing_recorded}
use Rattle.swp_words.proofs.records.read_record.Goals as goal

pub returns-clause-ahead : goal.returns-clause-ahead
returns-clause-ahead g c tells =
    let input = g.S.Source.left c.args.source.now in
    let before = g.K.Sink.written c.args.sink.now in
    c.drive.ensures.ahead tells tt input before
    (nothing_recorded g.K.Sink.tells g.R.RecordReader.lines
    (λ bytes. g.R.RecordReader.is_reading g.K.Sink.tells c.args.reader bytes bytes before before)
    (g.R.RecordReader.count c.args.reader) input before (c.requires.none g.K.Sink.tells before) c.requires.few c.requires.no_lines)

pub returns-clause-recorded : goal.returns-clause-recorded
returns-clause-recorded g c tells =
    let input = g.S.Source.left c.args.source.now in
    let before = g.K.Sink.written c.args.sink.now in
    c.drive.ensures.ends tells tt input before
    (nothing_recorded g.K.Sink.tells g.R.RecordReader.lines
    (λ bytes. g.R.RecordReader.is_reading g.K.Sink.tells c.args.reader bytes bytes before before)
    (g.R.RecordReader.count c.args.reader) input before (c.requires.none g.K.Sink.tells before) c.requires.few c.requires.no_lines)
