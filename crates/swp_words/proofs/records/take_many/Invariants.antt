use Rattle.std.proofs.Common.{◌≡◌, ◌+◌, ◌-◌, ◌≤◌, ◌++◌, length, take, List, ℕ}
use Rattle.swp_words.proofs.records.take_many.Given as goal

-- the bytes so far were read
abbrev pub invariant-piece : goal.invariant-piece
invariant-piece g l = record {
  within : l.read ≤ length l.piece;
  few : g.R.RecordReader.count l.reader ≤ 16777216;
  sound : g.R.RecordReader.is_sound l.reader;
  counted : g.R.RecordReader.count l.reader ≡ g.R.RecordReader.count l.fn.reader + l.read;
  writes : g.K.Sink.faults l.fn.sink ≤ g.K.Sink.faults l.sink;
  so_far : (earlier bytes before : List ℕ) → g.R.RecordReader.is_reading g.K.Sink.tells l.fn.reader earlier bytes before (g.K.Sink.written l.fn.sink)
      → g.R.RecordReader.is_reading g.K.Sink.tells l.reader earlier (bytes ++ take l.read l.piece) before (g.K.Sink.written l.sink);
}

abbrev pub decreases-piece : goal.decreases-piece
decreases-piece g l = length l.piece - l.read
