-- The texts of lines and entries.
use Rattle.std.specs.Prelude.{ℕ, ◌/◌, ◌%◌, if◌then◌else◌, List, [], ◌∷◌, ◌++◌, length, map, Option, Some, None, codes}
use Rattle.std.specs.List.{flat_map}
use Rattle.std.specs.Fmt.{decimal}
use Rattle.hex.specs.Hex.{encode_upper}
use Rattle.swp_base.specs.declared.link_terms.Cause.{Cause}
use Rattle.swp_base.specs.declared.link_terms.Cause.TheVariants as why
use Rattle.hci_tables.specs.Tables.{HciTables}
use Rattle.hci_tables.specs.declared.command.Command.{Command}
use Rattle.hci_tables.specs.declared.command.Command.TheVariants as command
use Rattle.trace_model.specs.declared.line.End.{End}
use Rattle.trace_model.specs.declared.line.Header.{Header}
use Rattle.trace_model.specs.declared.line.Line.{Line}
use Rattle.trace_model.specs.declared.line.Line.TheVariants as line
use Rattle.trace_model.specs.declared.entry.Entry.{Entry}
use Rattle.trace_model.specs.declared.entry.Entry.TheVariants as entry
use Rattle.trace_model.specs.declared.entry.LostCause.{LostCause}
use Rattle.trace_model.specs.declared.entry.LostCause.TheVariants as lost
use Rattle.trace_model.specs.declared.entry.NoCause.{NoCause}
use Rattle.trace_model.specs.declared.entry.NoCause.TheVariants as cause
use Rattle.tables_text.specs.Tables.{hex_or_dash, rows_text}
use Rattle.schedule_text.specs.Words.{spaced}

-- a byte as two hexadecimal digits, in upper case
abbrev pub byte_text : ℕ → List ℕ
byte_text b = encode_upper (b ∷ [])

-- two bytes as four digits, the high byte first
abbrev pub two_bytes_text : ℕ → List ℕ
two_bytes_text n = encode_upper (n / 256 ∷ n % 256 ∷ [])

-- an end of a link: its host and `c` or `h`
abbrev pub end_text : End → List ℕ
end_text e = byte_text e.link ++ (if e.at_host then 104 else 99) ∷ []

-- the word of a number, where there is one
abbrev pub number_words : Option ℕ → List (List ℕ)
number_words None = []
number_words (Some n) = decimal n ∷ []

-- the words of a header
abbrev pub header_words : Header → List (List ℕ)
header_words header =
    codes "swp" ∷ codes "1" ∷ (if header.hci then codes "hci" else codes "bare") ∷ map byte_text header.hosts.items

-- the words of a line
abbrev pub line_words : Line → List (List ℕ)
line_words (line.Send at pid message) = codes "send" ∷ end_text at ∷ byte_text pid ∷ encode_upper message ∷ []
line_words (line.Deliver at count) = codes "deliver" ∷ end_text at ∷ number_words count
line_words (line.Lose at) = codes "lose" ∷ end_text at ∷ []
line_words (line.Damage at places) = codes "damage" ∷ end_text at ∷ map decimal places.items
line_words (line.Tick times) = codes "tick" ∷ number_words times
line_words (line.Reset at window) = codes "reset" ∷ end_text at ∷ number_words window
line_words (line.Busy at) = codes "busy" ∷ end_text at ∷ []
line_words (line.Ready at) = codes "ready" ∷ end_text at ∷ []
line_words (line.Boot node) = codes "boot" ∷ byte_text node ∷ []
line_words (line.Cut node) = codes "cut" ∷ byte_text node ∷ []
line_words (line.Activate host sync power) = codes "activate" ∷ byte_text host ∷ two_bytes_text sync ∷ byte_text power ∷ []
line_words (line.Arm node nth fill) = codes "arm" ∷ byte_text node ∷ decimal nth ∷ encode_upper fill.items ∷ []
line_words (line.Init at identity pipes) = codes "init" ∷ end_text at ∷ encode_upper identity ∷ map encode_upper pipes.items
line_words (line.Tables node) = codes "tables" ∷ byte_text node ∷ []
line_words (line.Settle rounds) = codes "settle" ∷ decimal rounds ∷ []

-- why a session ended
abbrev pub down_word : Cause → List ℕ
down_word why.Asked = codes "asked"
down_word why.NoAnswer = codes "noanswer"
down_word why.Peer = codes "peer"
down_word why.Act = codes "act"
down_word why.Chain = codes "chain"

-- the words of the cause of a refusal
abbrev pub cause_words : NoCause → List (List ℕ)
cause_words cause.Off = codes "off" ∷ []
cause_words cause.Running = codes "running" ∷ []
cause_words cause.Inactive = codes "inactive" ∷ []
cause_words cause.NotUp = codes "not-up" ∷ []
cause_words cause.Waiting = codes "waiting" ∷ []
cause_words cause.TooLong = codes "too-long" ∷ []
cause_words (cause.Full need spare) = codes "full" ∷ decimal need ∷ decimal spare ∷ []
cause_words cause.Empty = codes "empty" ∷ []
cause_words (cause.Beyond bits) = codes "beyond" ∷ decimal bits ∷ []

-- why a frame was lost
abbrev pub lost_word : LostCause → List ℕ
lost_word lost.Asked = codes "asked"
lost_word lost.Age = codes "age"
lost_word lost.Full = codes "full"
lost_word lost.Length = codes "length"
lost_word lost.Alignment = codes "alignment"
lost_word lost.Crc = codes "crc"
lost_word lost.Broken = codes "broken"
lost_word lost.Nothing = codes "none"

-- the words of a command of a node
abbrev pub command_words : Command → List (List ℕ)
command_words (command.Create row) =
    codes "create" ∷ byte_text row.pid ∷ byte_text row.creator ∷ byte_text row.creator_gate ∷ byte_text row.dest ∷ byte_text row.dest_gate ∷ []
command_words (command.Delete pid) = codes "delete" ∷ byte_text pid ∷ []
command_words (command.Clear host) = codes "clear" ∷ byte_text host ∷ []
command_words (command.SetOpened host pid opened) = codes "opened" ∷ byte_text host ∷ byte_text pid ∷ byte_text (if opened then 1 else 0) ∷ []
command_words (command.Set host gate param value) =
    codes "set" ∷ byte_text host ∷ byte_text gate ∷ byte_text param ∷ hex_or_dash value.items ∷ []
command_words (command.Sync host id) = codes "sync" ∷ byte_text host ∷ two_bytes_text id ∷ []

-- how many rows of each kind the tables of a node have
abbrev pub count_words : ℕ → HciTables → List (List ℕ)
count_words node t =
    codes "tables" ∷ byte_text node ∷ decimal (length t.rows) ∷ decimal (length t.statics) ∷ decimal (length t.values) ∷ decimal (length t.syncs) ∷ []

-- the words of an entry; of tables those of its first line, which counts the rows of each kind
abbrev pub entry_words : Entry → List (List ℕ)
entry_words (entry.Head header) = codes ">" ∷ header_words header
entry_words (entry.Echo said) = codes ">" ∷ line_words said
entry_words (entry.Up at session) = codes "up" ∷ end_text at ∷ decimal session ∷ []
entry_words (entry.Down at why) = codes "down" ∷ end_text at ∷ down_word why ∷ []
entry_words (entry.Active at) = codes "active" ∷ end_text at ∷ []
entry_words (entry.GaveUp at tries) = codes "gaveup" ∷ end_text at ∷ decimal tries ∷ []
entry_words (entry.Sent at session pid message) =
    codes "sent" ∷ end_text at ∷ decimal session ∷ byte_text pid ∷ encode_upper message ∷ []
entry_words (entry.Got at session pid message) =
    codes "got" ∷ end_text at ∷ decimal session ∷ byte_text pid ∷ encode_upper message ∷ []
entry_words (entry.Acked at session count) = codes "acked" ∷ end_text at ∷ decimal session ∷ decimal count ∷ []
entry_words (entry.Emit at lpdu) = codes "emit" ∷ end_text at ∷ encode_upper lpdu ∷ []
entry_words (entry.Took at lpdu) = codes "took" ∷ end_text at ∷ encode_upper lpdu ∷ []
entry_words (entry.Lost at lpdu cause) = codes "lost" ∷ end_text at ∷ encode_upper lpdu ∷ lost_word cause ∷ []
entry_words (entry.Turn at pid message) = codes "turn" ∷ end_text at ∷ byte_text pid ∷ encode_upper message ∷ []
entry_words (entry.Held at need spare) = codes "held" ∷ end_text at ∷ decimal need ∷ decimal spare ∷ []
entry_words (entry.Ask host message) = codes "ask" ∷ byte_text host ∷ encode_upper message ∷ []
entry_words (entry.Dropped at pid) = codes "drop" ∷ end_text at ∷ byte_text pid ∷ []
entry_words (entry.Command node command) = codes "command" ∷ byte_text node ∷ command_words command
entry_words (entry.AnyOk node count) = codes "ok" ∷ byte_text node ∷ decimal count ∷ []
entry_words (entry.InitSame at) = codes "init" ∷ end_text at ∷ codes "same" ∷ []
entry_words (entry.InitMade at count) = codes "init" ∷ end_text at ∷ codes "made" ∷ decimal count ∷ []
entry_words (entry.InitFailed at code) = codes "init" ∷ end_text at ∷ codes "failed" ∷ byte_text code ∷ []
entry_words (entry.Cut node) = codes "cut" ∷ byte_text node ∷ []
entry_words (entry.Booted node count) = codes "booted" ∷ byte_text node ∷ decimal count ∷ []
entry_words (entry.Tables node tables) = count_words node tables
entry_words (entry.Settled rounds) = codes "settled" ∷ decimal rounds ∷ []
entry_words (entry.No cause) = codes "no" ∷ cause_words cause

-- the lines behind the first one: those of the rows of tables
abbrev pub lines_behind : Entry → List ℕ
lines_behind (entry.Tables node tables) = rows_text tables
lines_behind said = []

-- the text of a line, and of an entry's first line, without its end
abbrev pub line_text : Line → List ℕ
line_text said = spaced (line_words said)

abbrev pub entry_text : Entry → List ℕ
entry_text said = spaced (entry_words said)

-- an entry as a line of the transcript, and tables as several
abbrev pub entry_line : Entry → List ℕ
entry_line said = entry_text said ++ (10 ∷ lines_behind said)

-- entries, one after another
abbrev pub entry_lines : List Entry → List ℕ
entry_lines entries = flat_map entry_line entries
