use Rattle.hci_store.proofs.Words.{ap, arith, length, pid_of, place_of_value, static_place, sync_host, used}
use Rattle.sorted_rows.proofs.RowLemmas.{length-rows}
use Rattle.hci_store.proofs.Committed.{syncs_may, statics_may, bodies_of_snapshot}
use Rattle.hci_store.proofs.snapshots.snapshot_of.Goals as goal

pub push_syncs-requires-clause-may : goal.push_syncs-requires-clause-may
push_syncs-requires-clause-may c = rw c.syncs.ensures.syncs (syncs_may c.args.tables.now.syncs c.syncs.ensures.sorted)

pub push_syncs-requires-clause-room : goal.push_syncs-requires-clause-room
push_syncs-requires-clause-room c =
    omega (arith, ap used c.new-snapshot.ensures, ap length c.syncs.ensures.syncs, length-rows sync_host 1 8 c.args.tables.now.syncs c.syncs.ensures.sorted)

pub push_values-requires-clause-room : goal.push_values-requires-clause-room
push_values-requires-clause-room c =
    omega (
      arith,
      ap used c.new-snapshot.ensures,
      ap length c.syncs.ensures.syncs,
      length-rows sync_host 1 8 c.args.tables.now.syncs c.syncs.ensures.sorted,
      c.push_syncs.ensures.used,
      ap length c.values.ensures.values,
      length-rows place_of_value 2 16 c.registry.result.now c.values.ensures.sorted.sorted,
    )

pub push_rows-requires-clause-room : goal.push_rows-requires-clause-room
push_rows-requires-clause-room c =
    omega (
      arith,
      ap used c.new-snapshot.ensures,
      ap length c.syncs.ensures.syncs,
      length-rows sync_host 1 8 c.args.tables.now.syncs c.syncs.ensures.sorted,
      c.push_syncs.ensures.used,
      ap length c.values.ensures.values,
      length-rows place_of_value 2 16 c.registry.result.now c.values.ensures.sorted.sorted,
      c.push_values.ensures.used,
      ap length c.rows.ensures.rows,
      length-rows pid_of 2 112 c.pipes.result.now c.rows.ensures.sorted,
    )

pub push_opened-requires-clause-room : goal.push_opened-requires-clause-room
push_opened-requires-clause-room c =
    omega (
      arith,
      ap used c.new-snapshot.ensures,
      ap length c.syncs.ensures.syncs,
      length-rows sync_host 1 8 c.args.tables.now.syncs c.syncs.ensures.sorted,
      c.push_syncs.ensures.used,
      ap length c.values.ensures.values,
      length-rows place_of_value 2 16 c.registry.result.now c.values.ensures.sorted.sorted,
      c.push_values.ensures.used,
      ap length c.rows.ensures.rows,
      length-rows pid_of 2 112 c.pipes.result.now c.rows.ensures.sorted,
      c.push_rows.ensures.used,
      ap length c.rows-2.ensures.rows,
      length-rows pid_of 2 112 c.pipes-2.result.now c.rows-2.ensures.sorted,
    )

pub push_statics-requires-clause-room : goal.push_statics-requires-clause-room
push_statics-requires-clause-room c =
    omega (
      arith,
      ap used c.new-snapshot.ensures,
      ap length c.syncs.ensures.syncs,
      length-rows sync_host 1 8 c.args.tables.now.syncs c.syncs.ensures.sorted,
      c.push_syncs.ensures.used,
      ap length c.values.ensures.values,
      length-rows place_of_value 2 16 c.registry.result.now c.values.ensures.sorted.sorted,
      c.push_values.ensures.used,
      ap length c.rows.ensures.rows,
      length-rows pid_of 2 112 c.pipes.result.now c.rows.ensures.sorted,
      c.push_rows.ensures.used,
      ap length c.rows-2.ensures.rows,
      length-rows pid_of 2 112 c.pipes-2.result.now c.rows-2.ensures.sorted,
      c.push_opened.ensures.used,
      ap length c.statics.ensures.statics,
      length-rows static_place 0 16 c.args.tables.now.statics c.statics.ensures.sorted,
    )

pub push_statics-requires-clause-may : goal.push_statics-requires-clause-may
push_statics-requires-clause-may c = rw c.statics.ensures.statics (statics_may c.args.tables.now.statics c.statics.ensures.sorted)

pub returns-clause-records : goal.returns-clause-records
returns-clause-records c =
    rw (
      c.push_statics.ensures.records,
      c.statics.ensures.statics,
      c.push_opened.ensures.records,
      c.rows-2.ensures.rows,
      c.pipes-2.ensures,
      c.push_rows.ensures.records,
      c.rows.ensures.rows,
      c.pipes.ensures,
      c.push_values.ensures.records,
      c.values.ensures.values,
      c.registry.ensures,
      c.push_syncs.ensures.records,
      c.syncs.ensures.syncs,
      c.new-snapshot.ensures,
    )
    (bodies_of_snapshot c.args.tables.now)

pub returns-clause-room : goal.returns-clause-room
returns-clause-room c =
    omega (
      arith,
      ap used c.new-snapshot.ensures,
      ap length c.syncs.ensures.syncs,
      length-rows sync_host 1 8 c.args.tables.now.syncs c.syncs.ensures.sorted,
      c.push_syncs.ensures.used,
      ap length c.values.ensures.values,
      length-rows place_of_value 2 16 c.registry.result.now c.values.ensures.sorted.sorted,
      c.push_values.ensures.used,
      ap length c.rows.ensures.rows,
      length-rows pid_of 2 112 c.pipes.result.now c.rows.ensures.sorted,
      c.push_rows.ensures.used,
      ap length c.rows-2.ensures.rows,
      length-rows pid_of 2 112 c.pipes-2.result.now c.rows-2.ensures.sorted,
      c.push_opened.ensures.used,
      ap length c.statics.ensures.statics,
      length-rows static_place 0 16 c.args.tables.now.statics c.statics.ensures.sorted,
      c.push_statics.ensures.used,
    )
