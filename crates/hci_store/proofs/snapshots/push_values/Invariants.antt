use Rattle.hci_store.proofs.Words.{body_of, map, set_command, take, used, ◌*◌, ◌++◌, ◌+◌, ◌≡◌, ◌≤◌}
use Rattle.hci_store.proofs.snapshots.push_values.Given as goal

abbrev pub invariant-loop-value : goal.invariant-loop-value
invariant-loop-value l = record {
  records : l.snapshot ≡ l.initial.snapshot ++ map (λ x. body_of (set_command x)) (take l.value-index l.values);
  room : used l.snapshot ≤ used l.initial.snapshot + 28 * l.value-index;
}
