-- The words of definitions and lower crates that these proofs speak in, each from where it is at home.
pub use Rattle.std.proofs.Common.{All, Bool, Contains, Err, IfSome, List, None, Ok, Option, Result, Some, [], add-one, ap, append-nil, append_assoc, ap₂, arith}
pub use Rattle.std.proofs.Common.{codes, cond, drop, drop-cons, eqb-true, false, filter, get_or, inl, inr, is_some, le-leb, length, length-append, length-set}
pub use Rattle.std.proofs.Common.{map, nat_le, nat_lt, not, position, refl, rules, slice_get, slice_index, subst, suc, sym, take, take-append-drop, take_all}
pub use Rattle.std.proofs.Common.{take_at, true, unwrap_or, zero, ℕ, ◌%◌, ◌&&◌, ◌*◌, ◌++◌, ◌+◌, ◌-◌, ◌/◌, ◌<◌, ◌==◌, ◌^◌, ◌||◌, ◌∙◌, ◌∷◌, ◌≡◌, ◌≤◌}
pub use Rattle.std.proofs.lemmas.Bool.{and_parts}
pub use Rattle.std.proofs.lemmas.Bool.Decides.{nat_tests}
pub use Rattle.std.proofs.lemmas.Fmt.{decimal_digit}
pub use Rattle.std.proofs.lemmas.Grind.{common_steps}
pub use Rattle.std.proofs.lemmas.List.{get_or_default, take_more}
pub use Rattle.std.proofs.lemmas.List.Sums.{AllPass-from_list_all, list_all-from_AllPass}
pub use Rattle.std.proofs.lemmas.Result.{on_err_weaker, on_ok_weaker}
pub use Rattle.std.specs.Fmt.{decimal}
pub use Rattle.std.specs.List.{AllByRecursion, list_all, list_any, position_or_len, slice_split}
pub use Rattle.std.specs.List.Sorted.{IsStrictlyIncreasing}
pub use Rattle.std.specs.Option.{option_and_then, option_map, option_map_or, option_or}
pub use Rattle.std.specs.Result.{result_ok}
pub use Rattle.std.specs.Str.{all_ascii_digits, bytes_eq}
pub use Rattle.hex.proofs.HexLemmas.{decode_of-ok, decode_sized-twice, length-encode_with}
pub use Rattle.hex.specs.Hex.{decode_of, encode_upper, hex_digit_value, is_hex_digit, upper_digits}
pub use Rattle.hex.specs.declared.error.FromHexError.{FromHexError}
pub use Rattle.schedule_text.specs.Entries.{byte_text, end_text, entry_line, entry_lines, entry_words, lines_behind, number_words}
pub use Rattle.schedule_text.specs.Forms.{FormRow, activate_row, arm_row, boot_row, busy_row, cut_row, damage_row, deliver_row, has_third, header_row, init_row}
pub use Rattle.schedule_text.specs.Forms.{lose_row, nodes_row, ready_row, reset_row, row_for, row_in, row_of_form, rows, send_row, settle_row, tables_row}
pub use Rattle.schedule_text.specs.Forms.{tick_row}
pub use Rattle.schedule_text.specs.Growth.{HoldsText, HoldsWords, Start, all_text, start_in}
pub use Rattle.schedule_text.specs.Lines.{bit_places, by_row, by_words, each_word, is_comment, line_of, may_stand, read_of, unless_fault, ◌>>=◌}
pub use Rattle.schedule_text.specs.Pairs.{IsPair, IsPairs}
pub use Rattle.schedule_text.specs.Rules.{Slot, digits_fault, first_digits_fault, first_host_fault, has_shape, host_fault, is_well_formed, rising, slots}
pub use Rattle.schedule_text.specs.Rules.{words_fault}
pub use Rattle.schedule_text.specs.Values.{byte_value, bytes_value, end_value, number_in, number_value, option_if, side_value, sized_value, two_bytes}
pub use Rattle.schedule_text.specs.Words.{spaced, words}
pub use Rattle.schedule_text.specs.declared.fault.LineFault.{LineFault}
pub use Rattle.schedule_text.specs.declared.forms.Kind.{Kind}
pub use Rattle.schedule_text.specs.declared.read.Read.{Read}
pub use Rattle.schedule_text.specs.declared.text.Text.{Text}
pub use Rattle.trace_model.specs.declared.line.End.{End}
pub use Rattle.trace_model.specs.declared.line.Header.{Header}
pub use Rattle.trace_model.specs.declared.line.Line.{Line}
