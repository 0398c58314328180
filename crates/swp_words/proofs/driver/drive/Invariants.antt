use Rattle.std.proofs.Common.{◌≡◌, ◌≤◌, IsTrue, false, List, ℕ}
use Rattle.swp_words.proofs.driver.drive.Given as goal

-- a front of the input was read, and what it caused was written
abbrev pub invariant-input : goal.invariant-input
invariant-input g l = record {
  goes : g.J.Job.goes_on l.job;
  reads : g.S.Source.faults l.fn.source ≤ g.S.Source.faults l.source;
  writes : g.K.Sink.faults l.fn.sink ≤ g.K.Sink.faults l.sink;
  memory : g.J.Job.memory_faults l.fn.job ≤ g.J.Job.memory_faults l.job;
  under_way : IsTrue g.S.Source.tells → (o : g.J.Job.Origin) (input before : List ℕ)
      → g.J.Job.under_way g.K.Sink.tells o l.fn.job input (g.S.Source.left l.fn.source) before (g.K.Sink.written l.fn.sink)
      → g.J.Job.under_way g.K.Sink.tells o l.job input (g.S.Source.left l.source) before (g.K.Sink.written l.sink);
  more : (g.S.Source.end l.fn.source).ended ≡ false → (g.S.Source.end l.source).ended ≡ false;
  late : (g.S.Source.end l.fn.source).ended ≡ false → (g.S.Source.end l.source).late ≡ (g.S.Source.end l.fn.source).late;
}

abbrev pub decreases-input : goal.decreases-input
decreases-input g l = g.J.Job.bound l.job
