use Rattle.std.proofs.Common.{IsTrue}
use Rattle.nv_journal.specs.Kept.{IsGate}
use Rattle.worked_runs.proofs.journals.has.Given as goal

abbrev pub invariant-loop-place : goal.invariant-loop-place
invariant-loop-place g l = record {
  live : IsTrue l.journal.live;
  gate : IsGate l.journal.nv.content l.at;
}
