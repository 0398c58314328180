use Rattle.hci_store.proofs.Words.{body_of, map, sync_command, take, used, ◌*◌, ◌++◌, ◌+◌, ◌≡◌}
use Rattle.hci_store.proofs.snapshots.push_syncs.Given as goal

abbrev pub invariant-loop-sync : goal.invariant-loop-sync
invariant-loop-sync l = record {
  records : l.snapshot ≡ l.initial.snapshot ++ map (λ x. body_of (sync_command x)) (take l.sync-index l.syncs);
  room : used l.snapshot ≡ used l.initial.snapshot + 8 * l.sync-index;
}
