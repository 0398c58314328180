-- The first of them came.
use Rattle.one_end.proofs.Words.{HasAnswered, Lone, RunsAlone, RunsYet, [], all_answered, cause_of, false, form_named, length, map, take, ◌*◌, ◌+◌, ◌≡◌, ◌≤◌}
use Rattle.one_end.proofs.Running.{over}
use Rattle.one_end.proofs.stepping.answer_all.Given as goal

abbrev pub invariant-loop-coming : goal.invariant-loop-coming
invariant-loop-coming g l = record {
  some : (k : Lone) × RunsAlone l.node k [];
  done : (k : Lone) → RunsAlone l.fn.node k [] → HasAnswered g.N.Nv.writes l.fn.node.store.journal.nv l.node.store.journal.nv
      (RunsYet l.node false) (λ m. all_answered (form_named l.fn.form) (over k m) (map cause_of (take l.coming-index l.fn.comings)))
      l.fn.out.items l.out.items;
  number : l.node.number ≡ l.fn.node.number;
  counted : g.N.Nv.faults l.fn.node.store.journal.nv ≤ g.N.Nv.faults l.node.store.journal.nv;
  sized : length l.out.items ≤ length l.fn.out.items + l.coming-index * 10982;
}
