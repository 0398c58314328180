-- The words of definitions and lower crates that these proofs speak in, each from where it is at home.
pub use Rattle.std.proofs.Common.{Bool, List, None, Option, Some, [], ap, append-nil, append_assoc, ap₂, arith, codes, cond, decimal, drop, eqb, eqb-true}
pub use Rattle.std.proofs.Common.{false, get_or, length, length-append, length-drop, length-take-le, min, refl, replicate, reverse, rules, subst, suc, sym}
pub use Rattle.std.proofs.Common.{take, take-add, true, unwrap_or, ℕ, ◌%◌, ◌&&◌, ◌*◌, ◌++◌, ◌+◌, ◌-◌, ◌/◌, ◌<◌, ◌^◌, ◌∙◌, ◌∷◌, ◌≡◌, ◌≤◌}
pub use Rattle.std.proofs.Math.Nat.{mod-eq_of_lt, pow-suc}
pub use Rattle.std.proofs.lemmas.Bool.{agree_below, agree_below_at}
pub use Rattle.std.proofs.lemmas.Fmt.{decimal_digit}
pub use Rattle.std.proofs.lemmas.List.{length-reverse, reverse-append, take_more}
pub use Rattle.std.proofs.lemmas.Nat.{field_of, or_lt}
pub use Rattle.std.specs.Int.RustNames.{bit_or}
pub use Rattle.swp_base.specs.Bits.{bit}
pub use Rattle.swp_crc.specs.Division.{spelled_number}
pub use Rattle.swp_decode.specs.Decoded.{line_at, line_with, lines_with}
pub use Rattle.swp_decode.specs.Frames.{frame_given, frames_with}
pub use Rattle.swp_decode.specs.Kept.{DecoderStandsFor, NoMarkEnds, ReadsSignal}
pub use Rattle.swp_decode.specs.Readings.{AreBits, ReadSymbol, front_of, readings_on, signal, start_after, start_of, symbol_on, symbols, with_reading}
pub use Rattle.swp_decode.specs.Texts.{hex_of, hex_word}
pub use Rattle.swp_decode.specs.declared.line.Wire.{Wire}
pub use Rattle.swp_decode.specs.declared.line.Wire.TheVariants.{S1, S2}
pub use Rattle.swp_frame.proofs.Places.{length-low_bits, low_bits-at, mod-cut}
pub use Rattle.swp_frame.specs.Signal.{HasNoMark, Symbol, break, mark_of, no_mark, run_of, symbol_of}
pub use Rattle.swp_frame.specs.Words.{low_bits, word_bits}
pub use Rattle.swp_frame.specs.declared.word.Word.{Word}
pub use Rattle.swp_line.specs.Periods.{period_at}
pub use Rattle.swp_line.specs.declared.period.Period.{Period}
pub use Rattle.swp_line.specs.declared.period.Period.TheVariants.{Bits, Deactivated}
