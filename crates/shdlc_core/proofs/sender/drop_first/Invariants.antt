use Rattle.std.proofs.Common.{◌≡◌, drop}
use Rattle.shdlc_core.proofs.sender.drop_first.Given as goal

abbrev pub invariant-loop : goal.invariant-loop
invariant-loop l = l.queue.items ≡ drop l.counter l.fn.queue.items
