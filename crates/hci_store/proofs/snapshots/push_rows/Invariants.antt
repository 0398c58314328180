use Rattle.hci_store.proofs.Words.{body_of, create_command, map, take, used, ◌*◌, ◌++◌, ◌+◌, ◌≡◌}
use Rattle.hci_store.proofs.snapshots.push_rows.Given as goal

abbrev pub invariant-loop-row : goal.invariant-loop-row
invariant-loop-row l = record {
  records : l.snapshot ≡ l.initial.snapshot ++ map (λ x. body_of (create_command x)) (take l.row-index l.rows);
  room : used l.snapshot ≡ used l.initial.snapshot + 10 * l.row-index;
}
