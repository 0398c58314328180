-- The words of definitions and lower crates that these proofs speak in, each from where it is at home.
pub use Rattle.std.proofs.Common.{Bool, IsTrue, List, None, [], ap, append-nil, append_assoc, arith, drop, false, get_or, inl, inr, length, length-append}
pub use Rattle.std.proofs.Common.{length-drop, length-take-le, refl, reverse, subst, sym, take, take-append-drop, take-take, take_all, true, ℕ, ◌++◌, ◌+◌, ◌-◌}
pub use Rattle.std.proofs.Common.{◌<◌, ◌∙◌, ◌∷◌, ◌≡◌, ◌≤◌}
pub use Rattle.std.proofs.Math.Seq.{take-add, take-append-add}
pub use Rattle.std.proofs.lemmas.Grind.{common_steps}
pub use Rattle.std.proofs.lemmas.List.{length-reverse, reverse-append, take_more}
pub use Rattle.hci_store.specs.Image.{image_fault}
pub use Rattle.hci_store.specs.Refusals.{IsOnlyRead}
pub use Rattle.hci_store.specs.Starting.{HasWritten, ready_writes}
pub use Rattle.lone_laws.specs.alone.Ends.{EndForm}
pub use Rattle.one_end.specs.Standing.{BootFault, HasRun, IsBootRefused, NoMemory}
pub use Rattle.one_end.specs.Writing.{form_named}
pub use Rattle.one_end.specs.declared.one_end.OneEnd.{OneEnd}
pub use Rattle.swp_base.specs.Outside.{Rose}
pub use Rattle.swp_decode.specs.Decoded.{last_line, record_lines}
pub use Rattle.swp_decode.specs.Frames.{frame_given, record_frames}
pub use Rattle.swp_decode.specs.Kept.{DecoderStandsFor}
pub use Rattle.swp_decode.specs.declared.line.Wire.TheVariants.{S1, S2}
pub use Rattle.swp_tap.specs.Hearing.{report_of}
pub use Rattle.swp_words.specs.Ends.{Began, EndedAlone, EndedSo, HasHeardAlone, HasNextGeneration, HasRunAlone, IsCutAlone, IsOfEndWord, IsOfLone}
pub use Rattle.swp_words.specs.Ends.{IsWaitingAlone, RanSo, status_of_boot}
pub use Rattle.swp_words.specs.Records.{EndedIn, IsFront, IsFrontOfSome, IsGathered, most_bytes, whole_record}
pub use Rattle.swp_words.specs.Taps.{HasHeard, report_line, report_lines, tap_lines}
pub use Rattle.swp_words.specs.declared.status.Status.{Status}
pub use Rattle.tap_reading.specs.Lpdus.{tapped_lpdus}
pub use Rattle.tap_reading.specs.Tap.{TapReport}
