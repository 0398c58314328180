use Rattle.swp_words.proofs.Words.{last_line, length, record_lines}
use Rattle.swp_words.proofs.Recording.{on_err, map_err, map_ok, enough_text, front_further, whole_gathered, count_read}
use Rattle.swp_words.proofs.decoding.DecodingRecordReader.finish.Goals as goal

pub returns-in_err-make_room-clause-ends : goal.returns-in_err-make_room-clause-ends
returns-in_err-make_room-clause-ends g c =
    on_err _ c.from_residual.result (λ earlier read before h.
    front_further (last_line (length read)) (enough_text h.lines)
    (c.in_err-make_room.ensures.ends (length (record_lines earlier)) (record_lines read) before h.lines))

pub returns-clause-wrote : goal.returns-clause-wrote
returns-clause-wrote g c =
    map_ok _ _ c.flush.result (λ wrote earlier read before h told. wrote (length (record_lines earlier)) _ before
    (whole_gathered record_lines _ _ (c.in_ok-make_room.ensures.goes (length (record_lines earlier)) (record_lines read) before h.lines)
    (count_read h) c.finish.ensures.line) told) c.flush.ensures.wrote

pub returns-clause-ends : goal.returns-clause-ends
returns-clause-ends g c =
    map_err _ _ c.flush.result (λ ends earlier read before h. ends (length (record_lines earlier)) _ before
    (whole_gathered record_lines _ _ (c.in_ok-make_room.ensures.goes (length (record_lines earlier)) (record_lines read) before h.lines)
    (count_read h) c.finish.ensures.line)) c.flush.ensures.ends
