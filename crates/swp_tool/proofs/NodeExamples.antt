-- Schedules of nodes as bytes, computed: their transcripts, and where they stop.
use Rattle.swp_tool.proofs.Words.{AtFault, AtMisread, Header, List, None, Option, Schedule, Some, [], codes, done_line, entry_lines, flat_map, refl}
use Rattle.swp_tool.proofs.Words.{schedule_in, schedule_told, ℕ, ◌++◌, ◌∷◌, ◌≡◌}
use Prim.Native.String.{String}
use Rattle.journal_laws.specs.Records.{found_from}
use Rattle.gate_admin.specs.View.{hosts_where}
use Rattle.hex.specs.Hex.{decode_pairs, encode_with}
use Rattle.std.specs.Fmt.{digits}
use Rattle.swp_base.specs.Bits.{bits_of_byte}
use Rattle.pipe_table.specs.PipeRows.{lowest_free}
use Rattle.schedule_text.specs.declared.fault.LineFault.TheVariants as fault

-- a text that is written in parts
abbrev text : List String → List ℕ
text parts = flat_map codes parts

-- the text of a replay that is done, below a header of nodes
abbrev told : Schedule → List ℕ
told s = by s.header where
  by : Option Header → List ℕ
  by None = []
  by (Some header) = entry_lines (schedule_told header s.lines) ++ done_line s.count

boot_cut_at_first_write : told (schedule_in (codes "swp 1 hci 02\narm 00 1 13\nboot 00\nboot 00\n")) ≡ text (
    "> swp 1 hci 02\n" ∷
    "> arm 00 1 13\n" ∷
    "> boot 00\ncut 00\n" ∷
    "> boot 00\nbooted 00 0\ndone 4\n" ∷
    [])
unfolding found_from hosts_where lowest_free decode_pairs encode_with digits
boot_cut_at_first_write = refl

activation_and_first_pipe : told (schedule_in (text (
    "swp 1 hci 02\nboot 00\nboot 02\nactivate 02 1A2B 01\ndeliver 02c\ndeliver 02h\ndeliver 02c\nreset 02c\ndeliver 02h\ndeliver 02c\n" ∷
    "send 02h 01 03\ndeliver 02c\ndeliver 02h\nsend 02h 01 0201\ndeliver 02c\n" ∷
    []))) ≡ text (
    "> swp 1 hci 02\n" ∷
    "> boot 00\nbooted 00 0\n" ∷
    "> boot 02\nbooted 02 0\n" ∷
    "> activate 02 1A2B 01\nemit 02h 611A2B\n" ∷
    "> deliver 02c\ntook 02c 611A2B\ncommand 00 sync 02 1A2B\nemit 02c 6201\n" ∷
    "> deliver 02h\ntook 02h 6201\nactive 02h\nemit 02h 60\n" ∷
    "> deliver 02c\ntook 02c 60\nactive 02c\n" ∷
    "> reset 02c\nemit 02c F90400\n" ∷
    "> deliver 02h\ntook 02h F90400\nup 02h 1\nemit 02h E6\n" ∷
    "> deliver 02c\ntook 02c E6\nup 02c 1\n" ∷
    "> send 02h 01 03\nsent 02h 1 01 03\nemit 02h 808103\n" ∷
    "> deliver 02c\ntook 02c 808103\ngot 02c 1 01 03\nturn 02c 01 03\ncommand 00 opened 02 01 01\nsent 02c 1 01 8000\nok 00 2\nemit 02c C1\n" ∷
    "emit 02c 81818000\n" ∷
    "> deliver 02h\ntook 02h C1\nacked 02h 1 1\ntook 02h 81818000\ngot 02h 1 01 8000\nturn 02h 01 8000\nemit 02h C1\n" ∷
    "> send 02h 01 0201\nsent 02h 1 01 0201\nemit 02h 89810201\n" ∷
    "> deliver 02c\ntook 02c C1\nacked 02c 1 1\ntook 02c 89810201\ngot 02c 1 01 0201\nturn 02c 01 0201\nsent 02c 1 01 80FFFFFFFFFFFFFFFF\n" ∷
    "emit 02c C2\nemit 02c 8A8180FFFFFFFFFFFFFFFF\ndone 15\n" ∷
    [])
unfolding found_from hosts_where lowest_free decode_pairs encode_with digits
activation_and_first_pipe = refl

-- a link settles as soon as its power is on
activation_settles : told (schedule_in (codes "swp 1 hci 02\nsettle 5\nboot 00\nboot 02\nactivate 02 1A2B 01\nsettle 9\n")) ≡ text (
    "> swp 1 hci 02\n" ∷
    "> settle 5\nsettled 0\n" ∷
    "> boot 00\nbooted 00 0\n" ∷
    "> boot 02\nbooted 02 0\n" ∷
    "> activate 02 1A2B 01\nemit 02h 611A2B\n" ∷
    "> settle 9\ntook 02c 611A2B\ncommand 00 sync 02 1A2B\nemit 02c 6201\ntook 02h 6201\nactive 02h\nemit 02h 60\ntook 02c 60\nactive 02c\n" ∷
    "settled 2\ndone 6\n" ∷
    [])
unfolding found_from hosts_where lowest_free decode_pairs encode_with digits
activation_settles = refl

-- ## Where a schedule of nodes stops

-- a line of links alone is out of order
busy_stops : (schedule_in (codes "swp 1 hci 02\nbusy 02c\n")).stop ≡ Some (AtFault fault.Order)
unfolding decode_pairs
busy_stops = refl

-- four damaged bits make another frame of the first one, with the same check
abbrev misread : List ℕ
misread = codes "swp 1 hci 02\nboot 00\nboot 02\nactivate 02 1A2B 01\ndamage 02c 8 12 19 24\ntick\n"

misread_stops : (schedule_in misread).stop ≡ Some AtMisread
unfolding found_from hosts_where lowest_free decode_pairs bits_of_byte
misread_stops = refl

misread_line : (schedule_in misread).count ≡ 5
unfolding found_from hosts_where lowest_free decode_pairs bits_of_byte
misread_line = refl
