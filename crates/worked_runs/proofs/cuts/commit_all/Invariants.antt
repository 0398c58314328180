use Rattle.std.proofs.Common.{◌≡◌, IsSome, IsTrue}
use Rattle.worked_runs.proofs.cuts.commit_all.Given as goal

abbrev pub invariant-loop-turn : goal.invariant-loop-turn
invariant-loop-turn l = record {
  live : IsTrue l.store.journal.live;
  started : IsSome l.store.journal.state.in_use;
  version : l.store.journal.state.version ≡ 2;
}
