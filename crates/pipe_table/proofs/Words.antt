-- The words of definitions and lower crates that these proofs speak in, each from where it is at home.
pub use Rattle.std.proofs.Common.{Bool, Err, List, Ok, Option, ap, arith, drop, eqb, false, is_some, length, not, refl, rules, slice_set, subst, sym, take, ℕ}
pub use Rattle.std.proofs.Common.{◌++◌, ◌+◌, ◌<◌, ◌∙◌, ◌≡◌, ◌≤◌}
pub use Rattle.std.proofs.lemmas.Bool.{cond_both}
pub use Rattle.std.proofs.lemmas.List.{length-map}
pub use Rattle.arrayvec.proofs.ArrayVecLemmas.{items-with_items}
pub use Rattle.pipe_table.specs.PipeRows.{ArePipeRows, all_closed, as_opened, pid_of, with_opened}
pub use Rattle.pipe_table.specs.declared.row.PipeRow.{PipeRow}
pub use Rattle.sorted_rows.proofs.PlaceLemmas.{row_of-at_gap, row_of-at_place}
pub use Rattle.sorted_rows.proofs.RowLemmas.{AreRows-filter}
pub use Rattle.sorted_rows.specs.Rows.{IsPlace}
