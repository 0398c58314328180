use Rattle.swp_words.proofs.Words.{EndedIn, IsFrontOfSome, [], append-nil, length, subst, take, ◌++◌, ◌∙◌}
use Rattle.swp_words.specs.declared.status.Status.TheVariants as status
use Rattle.swp_words.proofs.Recording.{ended_in, piece_fits}
use Rattle.swp_words.proofs.Taken.{whole_taken}
use Rattle.swp_words.proofs.records.RecordingJob.take.Goals as goal

pub returns-in-Err-clause-ends : goal.returns-in-Err-clause-ends
returns-in-Err-clause-ends g c given o input rest before at_once h =
    let piece = c.args.piece.now in
    let lines = g.R.RecordReader.lines in
    let after = g.K.Sink.written c.take_many.new.sink in
    ended_in lines g.K.Sink.tells given status.WriteFault h.bytes piece rest before after h.input_is
    (piece_fits (g.R.RecordReader.count c.args.self.now.reader) (length piece) c.requires.size) at_once
    (subst (λ l. IsFrontOfSome lines g.K.Sink.tells h.bytes l before after) (append-nil (h.bytes ++ piece))
    (c.in-Err.ensures.ends h.bytes h.bytes [] before h.reading))

pub returns-in-Err-take_each-clause-ends : goal.returns-in-Err-take_each-clause-ends
returns-in-Err-take_each-clause-ends g c given o input rest before at_once h =
    let n = c.in-Ok.read in
    let piece = c.args.piece.now in
    let lines = g.R.RecordReader.lines in
    let after = g.K.Sink.written c.take_each.new.sink in
    ended_in lines g.K.Sink.tells given c.in-Err-take_each.status h.bytes piece rest before after h.input_is
    (piece_fits (g.R.RecordReader.count c.args.self.now.reader) (length piece) c.requires.size) at_once
    (subst (λ l. EndedIn lines g.K.Sink.tells c.in-Err-take_each.status h.bytes l before after)
    (append-nil _ ∙ whole_taken h.bytes piece n c.in-Ok.ensures.within)
    (c.in-Err-take_each.ensures.ends h.bytes (h.bytes ++ take n piece) [] before (c.in-Ok.ensures.goes h.bytes h.bytes before h.reading)))
