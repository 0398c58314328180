-- The words of definitions and lower crates that these proofs speak in, each from where it is at home.
pub use Rattle.std.proofs.Common.{Bool, Err, IsTrue, List, None, Ok, Result, Some, [], ap, arith, cond, false, filter, fold, inl, inr, length, map, refl}
pub use Rattle.std.proofs.Common.{slice_get, subst, sym, take, true, ℕ, ◌*◌, ◌++◌, ◌+◌, ◌==◌, ◌∙◌, ◌∷◌, ◌≡◌, ◌≤◌, ◌⊎◌}
pub use Rattle.std.proofs.lemmas.Bool.Decides.{nat_tests}
pub use Rattle.std.specs.Option.{option_map_or}
pub use Rattle.hci_store.specs.Image.{applied, are_commands, first_other, image_fault, tables_of}
pub use Rattle.hci_store.specs.Recordable.{IsRecordable}
pub use Rattle.hci_store.specs.Refusals.{IsOnlyRead}
pub use Rattle.hci_store.specs.Snapshots.{create_command, open_command, set_command, static_command, sync_command}
pub use Rattle.hci_store.specs.Starting.{migration_writes}
pub use Rattle.hci_store.specs.Stored.{HoldsTables, Keeps}
pub use Rattle.hci_tables.specs.Bodies.{body_of, command_of}
pub use Rattle.hci_tables.specs.Tables.{HciTables, apply, close, no_tables, static_place, sync_host}
pub use Rattle.journal_laws.specs.Banks.{is_opened_gate}
pub use Rattle.journal_laws.specs.Journal.{IsSound, count, count_of, gate_at, journal, records}
pub use Rattle.journal_laws.specs.Operations.{HasRoomForBody, LeftByCut, appended, compact_writes, format_writes, formatted, start_writes, started_state}
pub use Rattle.journal_laws.specs.Records.{used}
pub use Rattle.journal_laws.specs.Writes.{AreMade, after_writes}
pub use Rattle.journal_laws.specs.declared.state.State.{State}
pub use Rattle.nv_journal.proofs.Refusing.{not_of_memory, read_all}
pub use Rattle.nv_journal.specs.Faults.{IsKnown, fault, is_known}
pub use Rattle.nv_journal.specs.Kept.{Says}
pub use Rattle.nv_journal.specs.declared.JournalFault.{JournalFault}
pub use Rattle.nv_journal.specs.declared.JournalFault.TheVariants.{BadRecord, GenerationsSpent, NvFault}
pub use Rattle.pipe_table.specs.PipeRows.{pid_of}
pub use Rattle.registry.specs.Values.{place_of_value}
