-- The words of definitions and lower crates that these proofs speak in, each from where it is at home.
pub use Rattle.std.proofs.Common.{Bool, IsTrue, List, None, Option, Some, ap, ap₂, arith, bit_and, drop, eq-eqb, eqb-true, ext_get_or, false, get_or-drop}
pub use Rattle.std.proofs.Common.{get_or-set_other, get_or-set_same, get_or-take, if◌then◌else◌, inl, inr, length, length-drop, length-take, length-take-le}
pub use Rattle.std.proofs.Common.{min, refl, replicate, slice_index, slice_index_or, slice_range, slice_set, subst, suc, sym, take, true, zero-add, ℕ, ◌%◌}
pub use Rattle.std.proofs.Common.{◌&&◌, ◌*◌, ◌++◌, ◌+◌, ◌-◌, ◌/◌, ◌<◌, ◌==◌, ◌^◌, ◌∙◌, ◌≡◌, ◌≤◌, ◌⊎◌}
pub use Rattle.std.proofs.lemmas.Bool.{cases_Bool, cases_eq, cases_lt, false≢true}
pub use Rattle.std.proofs.lemmas.List.{get_or-replicate, length-replicate}
pub use Rattle.std.proofs.lemmas.List.FromFn.{get_or-map-range_with_len}
pub use Rattle.std.specs.List.{count_by}
pub use Rattle.std.specs.Result.{is_ok}
pub use Rattle.flash_nv.specs.Cells.{AreCells}
pub use Rattle.flash_nv.specs.Content.{length-content_front}
pub use Rattle.flash_nv.specs.Maps.{IsUsed, Map}
pub use Rattle.flash_nv.specs.MemCells.{mixed, tear_mask}
pub use Rattle.flash_nv.specs.Memory.{FlashMemory}
pub use Rattle.flash_nv.specs.Pages.{ArePages, IsClean, content_byte, data_byte, header_at, is_newer, is_page_of, is_valid, page_below, page_of, sector_of}
pub use Rattle.flash_nv.specs.Pages.{version_of, version_on}
pub use Rattle.flash_nv.specs.Putting.{HasSector, IsPut}
pub use Rattle.flash_nv.specs.Scanning.{ArePagesFound}
pub use Rattle.flash_nv.specs.Steps.{AreSteps, sectors}
pub use Rattle.flash_nv.specs.Writing.{IsFrontWritten, IsKeptBeside}
