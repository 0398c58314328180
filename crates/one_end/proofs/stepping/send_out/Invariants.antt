-- Frames go out one after another.
use Rattle.one_end.proofs.Words.{RunsAlone, form_named, ◌≡◌}
use Rattle.one_end.proofs.Alone.{Sends}
use Rattle.one_end.proofs.stepping.send_out.Given as goal

abbrev pub invariant-loop : goal.invariant-loop
invariant-loop g l = record {
  sends : Sends (RunsAlone l.fn.node) (RunsAlone l.node) (form_named l.fn.form) l.fn.node.number l.counter l.fn.out.items l.out.items;
  store : l.node.store ≡ l.fn.node.store;
  number : l.node.number ≡ l.fn.node.number;
}
