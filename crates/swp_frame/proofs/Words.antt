-- The words of definitions and lower crates that these proofs speak in, each from where it is at home.
pub use Rattle.std.proofs.Common.{Bool, List, None, Option, Some, [], ap, append-nil, append_assoc, ap₂, arith, bit_and, cond, drop, eq-eqb, eqb, false, get_or}
pub use Rattle.std.proofs.Common.{length, length-append, length-take, length-take-le, map, min, not, option_map, pow_pos, refl, reverse, rules, subst, suc, sym}
pub use Rattle.std.proofs.Common.{take, take-append-drop, true, w32, w64, zero, ℕ, ◌%◌, ◌&&◌, ◌*◌, ◌++◌, ◌+◌, ◌-◌, ◌/◌, ◌<◌, ◌^◌, ◌∙◌, ◌∷◌, ◌≡◌, ◌≢◌, ◌≤◌}
pub use Rattle.std.proofs.Math.Nat.{mod-eq_of_lt}
pub use Rattle.std.proofs.Math.Pow.{pow_mono}
pub use Rattle.std.proofs.lemmas.List.{length-map, reverse-append, take_more}
pub use Rattle.std.proofs.lemmas.Nat.{mod_below, one_shl, shl-shr}
pub use Rattle.std.specs.Int.{bit_at, to_be_bytes, trailing_ones, trailing_zeros}
pub use Rattle.swp_base.proofs.BitLemmas.{length-bits_of, length-bits_of_byte}
pub use Rattle.swp_base.specs.Bits.{bit, bits_of, bits_of_byte}
pub use Rattle.swp_crc.specs.Crc.{crc_of}
pub use Rattle.swp_crc.specs.Division.{spelled_number}
pub use Rattle.swp_frame.specs.Content.{judged, judged_bytes}
pub use Rattle.swp_frame.specs.Kept.{CountsLastZero, KeepsContent, before_run, run_bits}
pub use Rattle.swp_frame.specs.Signal.{HasNoMark, Symbol, bit_0, bit_1, no_mark, read_on, run_of, since_start, symbol_of, unstuffed}
pub use Rattle.swp_frame.specs.Stuffing.{end_of_frame, start_of_frame, stuffed}
pub use Rattle.swp_frame.specs.Words.{low_bits, part_bits, places_of_marks, places_put_in, run_after, word_bits}
pub use Rattle.swp_frame.specs.Writing.{WritesOn, byte_of_bit}
pub use Rattle.swp_frame.specs.declared.fed.Fed.TheVariants.{Frame}
