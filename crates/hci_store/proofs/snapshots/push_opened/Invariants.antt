use Rattle.hci_store.proofs.Words.{body_of, filter, map, open_command, take, used, ◌*◌, ◌++◌, ◌+◌, ◌≡◌, ◌≤◌}
use Rattle.hci_store.proofs.snapshots.push_opened.Given as goal

abbrev pub invariant-loop-row : goal.invariant-loop-row
invariant-loop-row l = record {
  records : l.snapshot ≡ l.initial.snapshot ++ map (λ x. body_of (open_command x)) (filter (λ r. r.opened) (take l.row-index l.rows));
  room : used l.snapshot ≤ used l.initial.snapshot + 8 * l.row-index;
}
