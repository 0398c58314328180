use Rattle.swp_words.proofs.Words.{append_assoc, length, record_lines, reverse, take, ◌++◌}
use Rattle.swp_words.proofs.Recording.{on_err, more_decoded}
use Rattle.swp_words.proofs.decoding.DecodingRecordReader.take_first.Goals as goal

pub returns-in_err-make_room-clause-ends : goal.returns-in_err-make_room-clause-ends
returns-in_err-make_room-clause-ends g c =
    on_err _ c.from_residual.result (λ earlier read rest before h. record {
      bytes = read;
      rest = c.args.bytes.now ++ rest;
      input_is = append_assoc read c.args.bytes.now rest;
      front = c.in_err-make_room.ensures.ends (length (record_lines earlier)) (record_lines read) before h.lines;
    })

pub returns-clause-goes : goal.returns-clause-goes
returns-clause-goes g c earlier read before h =
    more_decoded _ (take c.step_many.result c.args.bytes.now) read _
    (c.in_ok-make_room.ensures.goes (length (record_lines earlier)) (record_lines read) before h.lines)
    (c.step_many.ensures.stands (reverse read) h.stands) (c.step_many.ensures.lines (reverse read) h.stands)
