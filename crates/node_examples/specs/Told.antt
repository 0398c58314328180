-- What is told of a schedule, from its text to the text of its transcript, without the line that ends it.
use Prim.Native.String.{String}
use Rattle.std.specs.Prelude.{ℕ, List, [], ◌∷◌, Option, Some, None, Result, Ok, codes}
use Rattle.std.specs.List.{flat_map}
use Rattle.std.specs.Option.{option_map_or}
use Rattle.std.specs.Str.Lines.{lines}
use Rattle.trace_model.specs.declared.line.Header.{Header}
use Rattle.trace_model.specs.declared.line.Line.{Line}
use Rattle.schedule_text.specs.declared.fault.LineFault.{LineFault}
use Rattle.schedule_text.specs.declared.read.Read.{Read}
use Rattle.schedule_text.specs.declared.read.Read.TheVariants as read
use Rattle.schedule_text.specs.Entries.{entry_lines}
use Rattle.schedule_text.specs.Lines.{each_word, line_of}
use Rattle.lines_told.specs.lines.Plays.{schedule_told}
-- what an example opens beside, so that all is computed
unfoldable pub use Rattle.swp_base.specs.Bits.{bits_of_byte}
unfoldable pub use Rattle.journal_laws.specs.Records.{found_from}
unfoldable pub use Rattle.gate_admin.specs.View.{hosts_where}
unfoldable pub use Rattle.pipe_table.specs.PipeRows.{lowest_free}
unfoldable pub use Rattle.hex.specs.Hex.{encode_with, decode_pairs}
unfoldable pub use Rattle.std.specs.Fmt.{digits}

-- the header, or the line, that was read
abbrev pub header_read : Result Read LineFault → Option Header
header_read (Ok (read.Header header)) = Some header
header_read _ = None

abbrev pub line_read : Result Read LineFault → Option Line
line_read (Ok (read.Line line)) = Some line
line_read _ = None

-- the text of all that is told of lines below a header; nothing where one of them is no such line
abbrev pub told_below_header : List (List ℕ) → Header → List ℕ
told_below_header said header =
    option_map_or (λ lines. entry_lines (schedule_told header lines)) (each_word (λ line. line_read (line_of (Some header) line)) said) []

-- the same of a schedule, whose first line says its header
abbrev pub told_of_said : List (List ℕ) → List ℕ
told_of_said [] = []
told_of_said (first ∷ said) = option_map_or (told_below_header said) (header_read (line_of None first)) []

-- a text that is written in parts
abbrev pub text : List String → List ℕ
text parts = flat_map codes parts

-- the text of all that is told of the schedule that is this text
abbrev pub told_text : List String → List ℕ
told_text schedule = told_of_said (lines (text schedule))
