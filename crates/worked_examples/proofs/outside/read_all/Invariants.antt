use Rattle.std.proofs.Common.{◌≡◌, ◌≤◌, ◌++◌, IsTrue}
use Rattle.worked_examples.proofs.outside.read_all.Given as goal

abbrev pub invariant-loop : goal.invariant-loop
invariant-loop g l = record {
  count : g.S.Source.faults l.fn.source ≤ g.S.Source.faults l.source;
  whole : IsTrue g.S.Source.tells → l.bytes.items ++ g.S.Source.left l.source ≡ l.fn.bytes.items ++ g.S.Source.left l.fn.source;
}
