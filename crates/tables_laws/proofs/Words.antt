-- The words of definitions and lower crates that these proofs speak in, each from where it is at home.
pub use Rattle.std.proofs.Common.{Bool, IfSome, IsTrue, List, None, Option, Some, [], ap, arith, cond, eq-eqb, eqb, eqb-true, false, inl, inr, leb, ltb, map}
pub use Rattle.std.proofs.Common.{ne_eqb, not, refl, subst, sym, true, ℕ, ◌&&◌, ◌+◌, ◌<◌, ◌||◌, ◌∙◌, ◌∷◌, ◌≡◌, ◌≤◌, ◌⊎◌}
pub use Rattle.std.proofs.lemmas.Bool.{and_from, and_parts, cases_eq, cond-false, cond-true, cond_both, false≢true, not_from_false, or_cases}
pub use Rattle.std.specs.List.{AllByRecursion, filter, list_all, range_with_len}
pub use Rattle.std.specs.Option.{option_and_then, option_map, option_map_or}
pub use Rattle.gate_admin.specs.Decide.{decided}
pub use Rattle.gate_admin.specs.declared.decision.Decision.TheVariants.{Ask}
pub use Rattle.gate_admin.specs.declared.view.LinkView.{LinkView}
pub use Rattle.hci_tables.specs.Commands.{IsCommand, is_dynamic, is_host}
pub use Rattle.hci_tables.specs.Tables.{AreTables, HciTables, after_commands, apply, close, is_opened, no_tables, static_place, with_static}
pub use Rattle.hci_tables.specs.declared.command.Command.{Command}
pub use Rattle.hci_tables.specs.declared.command.Command.TheVariants.{Clear, Create, Delete, Set, SetOpened, Sync}
pub use Rattle.pipe_table.specs.PipeRows.{all_closed, as_opened, is_free, joins_host, pid_of, pipe_at, with_opened}
pub use Rattle.pipe_table.specs.declared.row.PipeRow.{PipeRow}
pub use Rattle.registry.specs.Values.{default_of, value_at}
pub use Rattle.registry.specs.declared.value.RegValue.{RegValue}
pub use Rattle.sorted_rows.proofs.RowLemmas.{row_of-with_row, row_of-without_row}
pub use Rattle.sorted_rows.specs.Rows.{AreRows, row_of, rows_before, rows_behind, with_row, without_row}
pub use Rattle.tables_laws.specs.gate.Rules.{IsLeastFree}
