use Rattle.std.proofs.Common.{◌≡◌, ◌+◌, ◌≤◌, ◌++◌, take, List, ℕ}
use Rattle.swp_words.proofs.records.take_each.Given as goal

-- the bytes so far were read
abbrev pub invariant-loop-byte : goal.invariant-loop-byte
invariant-loop-byte g l = record {
  few : g.R.RecordReader.count l.reader ≤ 16777216;
  sound : g.R.RecordReader.is_sound l.reader;
  counted : g.R.RecordReader.count l.reader ≡ g.R.RecordReader.count l.fn.reader + l.byte-index;
  writes : g.K.Sink.faults l.fn.sink ≤ g.K.Sink.faults l.sink;
  read : (earlier bytes before : List ℕ) → g.R.RecordReader.is_reading g.K.Sink.tells l.fn.reader earlier bytes before (g.K.Sink.written l.fn.sink)
      → g.R.RecordReader.is_reading g.K.Sink.tells l.reader earlier (bytes ++ take l.byte-index l.piece) before (g.K.Sink.written l.sink);
}
