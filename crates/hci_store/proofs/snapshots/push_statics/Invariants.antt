use Rattle.hci_store.proofs.Words.{body_of, map, static_command, take, used, ◌*◌, ◌++◌, ◌+◌, ◌≡◌}
use Rattle.hci_store.proofs.snapshots.push_statics.Given as goal

abbrev pub invariant-loop-static_pipe : goal.invariant-loop-static_pipe
invariant-loop-static_pipe l = record {
  records : l.snapshot ≡ l.initial.snapshot ++ map (λ x. body_of (static_command x)) (take l.static_pipe-index l.statics);
  room : used l.snapshot ≡ used l.initial.snapshot + 8 * l.static_pipe-index;
}
