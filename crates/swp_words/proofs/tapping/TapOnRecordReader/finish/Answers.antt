use Rattle.swp_words.proofs.Words.{last_line, length, tap_lines}
use Rattle.swp_words.proofs.Recording.{on_err, map_err, map_ok, enough_text, front_further, whole_gathered}
use Rattle.swp_words.proofs.Hearing.{count_heard}
use Rattle.swp_words.proofs.tapping.TapOnRecordReader.finish.Goals as goal

pub returns-in_err-make_room-clause-ends : goal.returns-in_err-make_room-clause-ends
returns-in_err-make_room-clause-ends g c =
    on_err _ c.from_residual.result (λ earlier read before h.
    front_further (last_line (length read)) (enough_text h.heard.lines)
    (c.in_err-make_room.ensures.ends (length (tap_lines _ earlier)) (tap_lines _ read) before h.heard.lines))

pub returns-clause-wrote : goal.returns-clause-wrote
returns-clause-wrote g c =
    map_ok _ _ c.flush.result (λ wrote earlier read before h told. wrote (length (tap_lines _ earlier)) _ before
    (whole_gathered (tap_lines _) _ _ (c.in_ok-make_room.ensures.goes (length (tap_lines _ earlier)) (tap_lines _ read) before h.heard.lines)
    (count_heard h) c.finish.ensures.line) told) c.flush.ensures.wrote

pub returns-clause-ends : goal.returns-clause-ends
returns-clause-ends g c =
    map_err _ _ c.flush.result (λ ends earlier read before h. ends (length (tap_lines _ earlier)) _ before
    (whole_gathered (tap_lines _) _ _ (c.in_ok-make_room.ensures.goes (length (tap_lines _ earlier)) (tap_lines _ read) before h.heard.lines)
    (count_heard h) c.finish.ensures.line)) c.flush.ensures.ends
