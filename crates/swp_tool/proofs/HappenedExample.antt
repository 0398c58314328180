-- What a transcript tells to have happened, computed for one schedule: with a refusal, told tables, and a line that lets the links settle.
use Rattle.swp_tool.proofs.Words.{Entry, Header, Line, List, None, [], history_below, lines_played_of, played_told, refl, schedule_told, true, what_happened}
use Rattle.swp_tool.proofs.Words.{◌∷◌, ◌≡◌}
use Rattle.trace_model.specs.declared.entry.Entry.TheVariants as entry
use Rattle.trace_model.specs.declared.entry.NoCause.TheVariants as no
use Rattle.trace_model.specs.declared.line.Line.TheVariants as line
use Rattle.hci_tables.specs.declared.command.Command.TheVariants as command
use Rattle.hci_tables.specs.Tables.{no_tables}
use Rattle.journal_laws.specs.Records.{found_from}
use Rattle.gate_admin.specs.View.{hosts_where}
use Rattle.pipe_table.specs.PipeRows.{lowest_free}
use Rattle.swp_base.specs.Bits.{bits_of_byte}
use Rattle.node_machine.specs.world.World.{end_c, end_h}

abbrev header : Header
header = record { hci = true; hosts = record { items = 2 ∷ [] } }

-- Both nodes boot, the link is activated and settles, and between that a reset is refused; then the tables are told.
abbrev lines : List Line
lines = line.Boot 0 ∷ line.Reset (end_c 2) None ∷ line.Boot 2 ∷ line.Activate 2 6699 1 ∷ line.Settle 5 ∷ line.Tables 0 ∷ []

-- nothing of what the schedule says is left, and all else is
abbrev happened : List Entry
happened =
    entry.Booted 0 0 ∷ entry.No no.Inactive ∷ entry.Booted 2 0
    ∷ entry.Emit (end_h 2) (97 ∷ 26 ∷ 43 ∷ [])
    ∷ entry.Took (end_c 2) (97 ∷ 26 ∷ 43 ∷ []) ∷ entry.Command 0 (command.Sync 2 6699) ∷ entry.Emit (end_c 2) (98 ∷ 1 ∷ [])
    ∷ entry.Took (end_h 2) (98 ∷ 1 ∷ []) ∷ entry.Active (end_h 2) ∷ entry.Emit (end_h 2) (96 ∷ [])
    ∷ entry.Took (end_c 2) (96 ∷ []) ∷ entry.Active (end_c 2)
    ∷ entry.Tables 0 (record no_tables { syncs = (2, 6699) ∷ [] }) ∷ []

text_tells : what_happened (schedule_told header lines) ≡ happened
unfolding found_from hosts_where lowest_free bits_of_byte
text_tells = refl

-- so it is noted of the history that is played
history_tells : what_happened (played_told (history_below header (lines_played_of header lines))) ≡ happened
unfolding found_from hosts_where lowest_free bits_of_byte
history_tells = refl
