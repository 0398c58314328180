-- Each word's own facts where it is the word that was asked for; elsewhere the words are others.
use Rattle.swp_tool.proofs.Words.{false, map, refl, string_bytes, true}
use Rattle.swp_words.specs.Ends.{form_named}
use Rattle.swp_tool.specs.Words.{run_source, run_sink, run_memory, IsReplayRun, IsDecodeRun, IsTapRun}
use Rattle.swp_tool.proofs.Promised.{asked_end, bare_or_hci, decode_or_end, decode_or_gen, decode_or_tables, decode_or_tap, decode_run, end_run, gen_or_end}
use Rattle.swp_tool.proofs.Promised.{gen_run, moved, replay_or_decode, replay_or_end, replay_or_gen, replay_or_tables, replay_or_tap, replay_run}
use Rattle.swp_tool.proofs.Promised.{tables_or_end, tables_or_gen, tables_or_tap, tables_run, tap_or_end, tap_or_gen, tap_run, untaken}
use Rattle.swp_tool.proofs.top.run.Goals as goal
use Rattle.swp_tool.proofs.top.run.Goals.{then-is_word-2, else-is_word-2+then-is_word-3, else-is_word-2+else-is_word-3+then-are_words}
use Rattle.swp_tool.proofs.top.run.Goals.{else-is_word-2+else-is_word-3+else-are_words+then-are_words-2}
use Rattle.swp_tool.proofs.top.run.Goals.{else-is_word-2+else-is_word-3+else-are_words+else-are_words-2}

pub returns-in-Some-clause-replay : goal.returns-in-Some-clause-replay
returns-in-Some-clause-replay g c asked =
    absurd (replay_or_end c.in-Some.asked.is_clf (form_named c.in-Some.asked.form) (map string_bytes c.args.words.now) asked c.in-Some.ensures.found)

pub returns-in-Some-clause-decode : goal.returns-in-Some-clause-decode
returns-in-Some-clause-decode g c asked =
    absurd (decode_or_end c.in-Some.asked.is_clf (form_named c.in-Some.asked.form) (map string_bytes c.args.words.now) asked c.in-Some.ensures.found)

pub returns-in-Some-clause-tap : goal.returns-in-Some-clause-tap
returns-in-Some-clause-tap g c bare asked =
    absurd (tap_or_end bare c.in-Some.asked.is_clf (form_named c.in-Some.asked.form) (map string_bytes c.args.words.now) asked c.in-Some.ensures.found)

pub returns-in-Some-clause-tables : goal.returns-in-Some-clause-tables
returns-in-Some-clause-tables g c asked =
    absurd (tables_or_end c.in-Some.asked.is_clf (form_named c.in-Some.asked.form) (map string_bytes c.args.words.now) asked c.in-Some.ensures.found)

pub returns-in-Some-clause-generate : goal.returns-in-Some-clause-generate
returns-in-Some-clause-generate g c n asked =
    absurd (gen_or_end n c.in-Some.asked.is_clf (form_named c.in-Some.asked.form) (map string_bytes c.args.words.now) asked c.in-Some.ensures.found)

pub returns-in-Some-clause-end : goal.returns-in-Some-clause-end
returns-in-Some-clause-end g c =
    asked_end (map string_bytes c.args.words.now) c.in-Some.asked.is_clf (form_named c.in-Some.asked.form)
    (run_source g.S.Source.tells g.S.Source.left g.S.Source.end g.S.Source.faults c.args.source.now c.run_end.new.source)
    (run_sink g.K.Sink.tells g.K.Sink.written g.K.Sink.faults c.args.sink.now c.run_end.new.sink)
    (run_memory g.N.Nv.tells g.N.Nv.content g.N.Nv.faults g.N.Nv.reads g.N.Nv.writes c.args.nv c.run_end.result.nv) c.run_end.result.status
    c.in-Some.ensures.found
    (end_run c.in-Some.asked.is_clf (form_named c.in-Some.asked.form)
    (run_source g.S.Source.tells g.S.Source.left g.S.Source.end g.S.Source.faults c.args.source.now c.run_end.new.source)
    (run_sink g.K.Sink.tells g.K.Sink.written g.K.Sink.faults c.args.sink.now c.run_end.new.sink)
    (run_memory g.N.Nv.tells g.N.Nv.content g.N.Nv.faults g.N.Nv.reads g.N.Nv.writes c.args.nv c.run_end.result.nv) c.run_end.result.status
    c.run_end.ensures.ended c.run_end.ensures.answered c.run_end.ensures.kind c.run_end.ensures.image c.run_end.ensures.refuses c.run_end.ensures.untouched
    c.run_end.ensures.never_begins c.run_end.ensures.unwritten c.run_end.ensures.complete c.run_end.ensures.too_many c.run_end.ensures.ahead)

pub returns-then-is_word-clause-replay : goal.returns-then-is_word-clause-replay
returns-then-is_word-clause-replay g c asked =
    absurd (replay_or_tables (map string_bytes c.args.words.now) asked (c.is_word.ensures.0 c.if-is_word.true))

pub returns-then-is_word-clause-decode : goal.returns-then-is_word-clause-decode
returns-then-is_word-clause-decode g c asked =
    absurd (decode_or_tables (map string_bytes c.args.words.now) asked (c.is_word.ensures.0 c.if-is_word.true))

pub returns-then-is_word-clause-tap : goal.returns-then-is_word-clause-tap
returns-then-is_word-clause-tap g c bare asked =
    absurd (tables_or_tap bare (map string_bytes c.args.words.now) (c.is_word.ensures.0 c.if-is_word.true) asked)

pub returns-then-is_word-clause-generate : goal.returns-then-is_word-clause-generate
returns-then-is_word-clause-generate g c n asked =
    absurd (tables_or_gen n (map string_bytes c.args.words.now) (c.is_word.ensures.0 c.if-is_word.true) asked)

pub returns-then-is_word-clause-end : goal.returns-then-is_word-clause-end
returns-then-is_word-clause-end g c is_clf form asked =
    absurd (tables_or_end is_clf form (map string_bytes c.args.words.now) (c.is_word.ensures.0 c.if-is_word.true) asked)

pub returns-then-is_word-clause-tables : goal.returns-then-is_word-clause-tables
returns-then-is_word-clause-tables g c asked =
    tables_run (run_source g.S.Source.tells g.S.Source.left g.S.Source.end g.S.Source.faults c.args.source.now c.args.source.now)
    (run_sink g.K.Sink.tells g.K.Sink.written g.K.Sink.faults c.args.sink.now c.tables.new.sink)
    (run_memory g.N.Nv.tells g.N.Nv.content g.N.Nv.faults g.N.Nv.reads g.N.Nv.writes c.args.nv c.tables.result.nv) c.tables.result.status
    c.tables.ensures.told c.tables.ensures.kept refl c.tables.ensures.kind c.tables.ensures.nv_fault c.tables.ensures.write_fault

pub returns-in-Some-number_given-clause-replay : goal.returns-in-Some-number_given-clause-replay
returns-in-Some-number_given-clause-replay g c asked =
    absurd (replay_or_gen c.in-Some-number_given.n (map string_bytes c.args.words.now) asked c.in-Some-number_given.ensures.given)

pub returns-in-Some-number_given-clause-decode : goal.returns-in-Some-number_given-clause-decode
returns-in-Some-number_given-clause-decode g c asked =
    absurd (decode_or_gen c.in-Some-number_given.n (map string_bytes c.args.words.now) asked c.in-Some-number_given.ensures.given)

pub returns-in-Some-number_given-clause-tap : goal.returns-in-Some-number_given-clause-tap
returns-in-Some-number_given-clause-tap g c bare asked =
    absurd (tap_or_gen bare c.in-Some-number_given.n (map string_bytes c.args.words.now) asked c.in-Some-number_given.ensures.given)

pub returns-in-Some-number_given-clause-tables : goal.returns-in-Some-number_given-clause-tables
returns-in-Some-number_given-clause-tables g c asked =
    absurd (tables_or_gen c.in-Some-number_given.n (map string_bytes c.args.words.now) asked c.in-Some-number_given.ensures.given)

pub returns-in-Some-number_given-clause-end : goal.returns-in-Some-number_given-clause-end
returns-in-Some-number_given-clause-end g c is_clf form asked =
    absurd (gen_or_end c.in-Some-number_given.n is_clf form (map string_bytes c.args.words.now) c.in-Some-number_given.ensures.given asked)

pub returns-in-Some-number_given-clause-generate : goal.returns-in-Some-number_given-clause-generate
returns-in-Some-number_given-clause-generate g c m asked =
    gen_run c.in-Some-number_given.n (run_source g.S.Source.tells g.S.Source.left g.S.Source.end g.S.Source.faults c.args.source.now c.args.source.now)
    (run_sink g.K.Sink.tells g.K.Sink.written g.K.Sink.faults c.args.sink.now c.generate-status.new.sink) c.generate-status.result
    c.generate-status.ensures.generated refl c.generate-status.ensures.kind c.generate-status.ensures.complete m
    (c.in-Some-number_given.ensures.only m asked)

pub returns-clause-replay : goal.returns-clause-replay
returns-clause-replay g c asked =
    elim c.if-is_word-2.branch [
      | then-is_word-2 w ↦
          moved (λ source sink s. IsReplayRun (run_source g.S.Source.tells g.S.Source.left g.S.Source.end g.S.Source.faults c.args.source.now source)
          (run_sink g.K.Sink.tells g.K.Sink.written g.K.Sink.faults c.args.sink.now sink) s) w.source-is w.sink-is w.status-is
          (replay_run (run_source g.S.Source.tells g.S.Source.left g.S.Source.end g.S.Source.faults c.args.source.now w.replay-status.new.source)
          (run_sink g.K.Sink.tells g.K.Sink.written g.K.Sink.faults c.args.sink.now w.replay-status.new.sink) w.replay-status.result
          w.replay-status.ensures.replayed w.replay-status.ensures.known w.replay-status.ensures.kind w.replay-status.ensures.ahead
          w.replay-status.ensures.read_fault w.replay-status.ensures.write_fault)
      | else-is_word-2+then-is_word-3 w ↦ absurd (untaken c.is_word-2.result w.if-is_word-2.false (c.is_word-2.ensures.1 asked))
      | else-is_word-2+else-is_word-3+then-are_words w ↦ absurd (untaken c.is_word-2.result w.if-is_word-2.false (c.is_word-2.ensures.1 asked))
      | else-is_word-2+else-is_word-3+else-are_words+then-are_words-2 w ↦ absurd (untaken c.is_word-2.result w.if-is_word-2.false
          (c.is_word-2.ensures.1 asked))
      | else-is_word-2+else-is_word-3+else-are_words+else-are_words-2 w ↦ absurd (untaken c.is_word-2.result w.if-is_word-2.false
          (c.is_word-2.ensures.1 asked))
    ]

pub returns-clause-decode : goal.returns-clause-decode
returns-clause-decode g c asked =
    elim c.if-is_word-2.branch [
      | then-is_word-2 w ↦ absurd (replay_or_decode (map string_bytes c.args.words.now) (c.is_word-2.ensures.0 w.if-is_word-2.true) asked)
      | else-is_word-2+then-is_word-3 w ↦
          moved (λ source sink s. IsDecodeRun (run_source g.S.Source.tells g.S.Source.left g.S.Source.end g.S.Source.faults c.args.source.now source)
          (run_sink g.K.Sink.tells g.K.Sink.written g.K.Sink.faults c.args.sink.now sink) s) w.source-is w.sink-is w.status-is
          (decode_run (run_source g.S.Source.tells g.S.Source.left g.S.Source.end g.S.Source.faults c.args.source.now w.decode.new.source)
          (run_sink g.K.Sink.tells g.K.Sink.written g.K.Sink.faults c.args.sink.now w.decode.new.sink) w.decode.result
          w.decode.ensures.decoded w.decode.ensures.kind w.decode.ensures.ahead w.decode.ensures.read_fault w.decode.ensures.write_fault)
      | else-is_word-2+else-is_word-3+then-are_words w ↦ absurd (untaken w.is_word-else-is_word-2.result w.if-is_word-3.false
          (w.is_word-else-is_word-2.ensures.1 asked))
      | else-is_word-2+else-is_word-3+else-are_words+then-are_words-2 w ↦ absurd (untaken w.is_word-else-is_word-2.result w.if-is_word-3.false
          (w.is_word-else-is_word-2.ensures.1 asked))
      | else-is_word-2+else-is_word-3+else-are_words+else-are_words-2 w ↦ absurd (untaken w.is_word-else-is_word-2.result w.if-is_word-3.false
          (w.is_word-else-is_word-2.ensures.1 asked))
    ]

pub returns-clause-tap : goal.returns-clause-tap
returns-clause-tap g c true asked =
    elim c.if-is_word-2.branch [
      | then-is_word-2 w ↦ absurd (replay_or_tap true (map string_bytes c.args.words.now) (c.is_word-2.ensures.0 w.if-is_word-2.true) asked)
      | else-is_word-2+then-is_word-3 w ↦ absurd (decode_or_tap true (map string_bytes c.args.words.now)
          (w.is_word-else-is_word-2.ensures.0 w.if-is_word-3.true) asked)
      | else-is_word-2+else-is_word-3+then-are_words w ↦
          moved (λ source sink s. IsTapRun true (run_source g.S.Source.tells g.S.Source.left g.S.Source.end g.S.Source.faults c.args.source.now source)
          (run_sink g.K.Sink.tells g.K.Sink.written g.K.Sink.faults c.args.sink.now sink) s) w.source-is w.sink-is w.status-is
          (tap_run true (run_source g.S.Source.tells g.S.Source.left g.S.Source.end g.S.Source.faults c.args.source.now w.tap.new.source)
          (run_sink g.K.Sink.tells g.K.Sink.written g.K.Sink.faults c.args.sink.now w.tap.new.sink) w.tap.result
          w.tap.ensures.tapped w.tap.ensures.kind w.tap.ensures.ahead w.tap.ensures.read_fault w.tap.ensures.write_fault)
      | else-is_word-2+else-is_word-3+else-are_words+then-are_words-2 w ↦ absurd (untaken w.are_words.result w.if-are_words.false
          (w.are_words.ensures.1 asked))
      | else-is_word-2+else-is_word-3+else-are_words+else-are_words-2 w ↦ absurd (untaken w.are_words.result w.if-are_words.false
          (w.are_words.ensures.1 asked))
    ]
returns-clause-tap g c false asked =
    elim c.if-is_word-2.branch [
      | then-is_word-2 w ↦ absurd (replay_or_tap false (map string_bytes c.args.words.now) (c.is_word-2.ensures.0 w.if-is_word-2.true) asked)
      | else-is_word-2+then-is_word-3 w ↦ absurd (decode_or_tap false (map string_bytes c.args.words.now)
          (w.is_word-else-is_word-2.ensures.0 w.if-is_word-3.true) asked)
      | else-is_word-2+else-is_word-3+then-are_words w ↦ absurd (bare_or_hci (map string_bytes c.args.words.now)
          (w.are_words.ensures.0 w.if-are_words.true) asked)
      | else-is_word-2+else-is_word-3+else-are_words+then-are_words-2 w ↦
          moved (λ source sink s. IsTapRun false (run_source g.S.Source.tells g.S.Source.left g.S.Source.end g.S.Source.faults c.args.source.now source)
          (run_sink g.K.Sink.tells g.K.Sink.written g.K.Sink.faults c.args.sink.now sink) s) w.source-is w.sink-is w.status-is
          (tap_run false (run_source g.S.Source.tells g.S.Source.left g.S.Source.end g.S.Source.faults c.args.source.now w.tap-then-are_words-2.new.source)
          (run_sink g.K.Sink.tells g.K.Sink.written g.K.Sink.faults c.args.sink.now w.tap-then-are_words-2.new.sink) w.tap-then-are_words-2.result
          w.tap-then-are_words-2.ensures.tapped w.tap-then-are_words-2.ensures.kind w.tap-then-are_words-2.ensures.ahead
          w.tap-then-are_words-2.ensures.read_fault w.tap-then-are_words-2.ensures.write_fault)
      | else-is_word-2+else-is_word-3+else-are_words+else-are_words-2 w ↦ absurd (untaken w.are_words-else-are_words.result w.if-are_words-2.false
          (w.are_words-else-are_words.ensures.1 asked))
    ]

pub returns-clause-tables : goal.returns-clause-tables
returns-clause-tables g c asked = absurd (untaken c.is_word.result c.if-is_word.false (c.is_word.ensures.1 asked))
