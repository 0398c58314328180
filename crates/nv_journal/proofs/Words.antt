-- The words of definitions and lower crates that these proofs speak in, each from where it is at home.
pub use Rattle.std.proofs.Common.{Bool, Err, IsTrue, List, None, Ok, Option, Result, Some, [], add-zero, ap, append-nil, append_assoc, ap₂, arith, cond, drop}
pub use Rattle.std.proofs.Common.{drop-drop, false, inl, inr, is_some, length, length-append, length-drop, length-take, min, nat_le, nat_lt, refl, rules}
pub use Rattle.std.proofs.Common.{slice_get, slice_index, slice_range, subst, suc, suc-add, sym, take, take-take, true, true≢false, zero, zero-add, ℕ, ◌&&◌}
pub use Rattle.std.proofs.Common.{◌*◌, ◌++◌, ◌+◌, ◌-◌, ◌<◌, ◌==◌, ◌||◌, ◌∙◌, ◌∷◌, ◌≡◌, ◌≤◌, ◌⊎◌}
pub use Rattle.std.proofs.lemmas.Bool.{cases_lt}
pub use Rattle.std.specs.Int.{from_be_bytes, w16}
pub use Rattle.std.specs.Option.{option_map_or}
pub use Rattle.journal_laws.proofs.InUse.{journal_in_use, no_journal}
pub use Rattle.journal_laws.proofs.Places.{length-bank}
pub use Rattle.journal_laws.proofs.Planned.{made_in_part, made_whole}
pub use Rattle.journal_laws.proofs.ReadFirst.{no_reads, one_more_read, reads_up_to}
pub use Rattle.journal_laws.specs.Banks.{bank, bank_place, current, head, is_opened_gate, other}
pub use Rattle.journal_laws.specs.Journal.{IsStarted, Journal, found_in, gate_at, journal, journal_at, left, next_gate, next_place, records, state_of}
pub use Rattle.journal_laws.specs.Journal.{unformatted}
pub use Rattle.journal_laws.specs.Operations.{HasRoomForBody, IsAllOrNothing, LeftByCut, append_writes, bank_bytes, compact_writes, format_writes}
pub use Rattle.journal_laws.specs.Records.{Found, behind, body, found_from, gap, index_len, record_bytes, size_in, used}
pub use Rattle.journal_laws.specs.Writes.{AreMade, AreRead, after_writes}
pub use Rattle.journal_laws.specs.declared.banks.Side.{Side}
pub use Rattle.journal_laws.specs.declared.state.Head.{Head}
pub use Rattle.journal_laws.specs.declared.state.State.{State}
pub use Rattle.nv_journal.specs.Faults.{fault}
pub use Rattle.nv_journal.specs.Gates.{gate_of}
pub use Rattle.nv_journal.specs.Kept.{Says}
pub use Rattle.nv_journal.specs.Scanning.{IsFilled, IsPassed, IsReadSoFar, SaysSoFar, Scanned}
pub use Rattle.nv_journal.specs.Snapshots.{AreRecords, bodies_of}
pub use Rattle.nv_journal.specs.declared.JournalFault.TheVariants.{BadRecord, UnknownFormat}
