-- The bytes so far brought nothing.
use Rattle.std.proofs.Common.{[], ◌≤◌, ◌-◌, length, take}
use Rattle.one_end.proofs.Running.{HasReadOn}
use Rattle.one_end.proofs.reading.Reader.hear_stretch.Given as goal

abbrev pub invariant-bytes : goal.invariant-bytes
invariant-bytes l = record {
  within : l.count ≤ length l.bytes;
  quiet : HasReadOn l.initial.self l.self (take l.count l.bytes) [];
}

abbrev pub decreases-bytes : goal.decreases-bytes
decreases-bytes l = length l.bytes - l.count
