-- The ranges of what an entry of a transcript says.
use Rattle.std.specs.Prelude.{◌≡◌, ℕ, ◌^◌, ◌<◌, false, List, length, All, IfSome}
use Rattle.swp_base.specs.Bits.{IsByte}
use Rattle.pipe_table.specs.declared.row.PipeRow.{PipeRow}
use Rattle.registry.specs.declared.value.RegValue.{RegValue}
use Rattle.hci_tables.specs.Tables.{HciTables}
use Rattle.hci_tables.specs.declared.command.Command.{Command}
use Rattle.hci_tables.specs.declared.command.Command.TheVariants as command
use Rattle.trace_model.specs.declared.line.End.{End}
use Rattle.trace_model.specs.declared.line.Line.{Line}
use Rattle.trace_model.specs.declared.line.Line.TheVariants as line
use Rattle.trace_model.specs.declared.entry.NoCause.{NoCause}
use Rattle.trace_model.specs.declared.entry.NoCause.TheVariants as cause
use Rattle.trace_model.specs.declared.entry.Entry.{Entry}
use Rattle.trace_model.specs.declared.entry.Entry.TheVariants as entry
use Rattle.trace_model.specs.Lines.{MayBegin}

-- a link is a byte, and so are a pipe, a host and a node; a message has a byte at least, and so has an LPDU
abbrev pub IsEnd : End → Type 0
IsEnd e = IsByte e.link

abbrev pub AreOctets : List ℕ → Type 0
AreOctets bytes = (0 < length bytes) × All IsByte bytes

abbrev pub IsNumber : ℕ → Type 0
IsNumber n = n < 2 ^ 32

abbrev pub IsTwoBytes : ℕ → Type 0
IsTwoBytes n = n < 2 ^ 16

-- a line
abbrev pub IsLineSaid : Line → Type 0
IsLineSaid (line.Send at pid message) = IsEnd at × IsByte pid × AreOctets message
IsLineSaid (line.Deliver at count) = IsEnd at × IfSome count IsNumber
IsLineSaid (line.Lose at) = IsEnd at
IsLineSaid (line.Damage at places) = IsEnd at × All IsNumber places.items
IsLineSaid (line.Tick times) = IfSome times IsNumber
IsLineSaid (line.Reset at window) = IsEnd at × IfSome window IsNumber
IsLineSaid (line.Busy at) = IsEnd at
IsLineSaid (line.Ready at) = IsEnd at
IsLineSaid (line.Boot node) = IsByte node
IsLineSaid (line.Cut node) = IsByte node
IsLineSaid (line.Activate host sync power) = IsByte host × IsTwoBytes sync × IsByte power
IsLineSaid (line.Arm node nth fill) = IsByte node × IsNumber nth × AreOctets fill.items
IsLineSaid (line.Init at identity pipes) = IsEnd at × AreOctets identity × All AreOctets pipes.items
IsLineSaid (line.Tables node) = IsByte node
IsLineSaid (line.Settle rounds) = IsNumber rounds

abbrev pub IsCause : NoCause → Type 0
IsCause (cause.Full need spare) = IsNumber need × IsNumber spare
IsCause (cause.Beyond bits) = IsNumber bits
IsCause cause.Off = Unit {0}
IsCause cause.Running = Unit {0}
IsCause cause.Inactive = Unit {0}
IsCause cause.NotUp = Unit {0}
IsCause cause.Waiting = Unit {0}
IsCause cause.TooLong = Unit {0}
IsCause cause.Empty = Unit {0}

-- a pipe
pub record IsSaidPipe (row : PipeRow) : Type 0 where
  pub pid : IsByte row.pid
  pub creator : IsByte row.creator
  pub creator_gate : IsByte row.creator_gate
  pub dest : IsByte row.dest
  pub dest_gate : IsByte row.dest_gate

-- a command: a created pipe is closed, which its text doesn't tell
abbrev pub IsSaidCommand : Command → Type 0
IsSaidCommand (command.Create row) = (row.opened ≡ false) × IsSaidPipe row
IsSaidCommand (command.Delete pid) = IsByte pid
IsSaidCommand (command.Clear host) = IsByte host
IsSaidCommand (command.SetOpened host pid opened) = IsByte host × IsByte pid
IsSaidCommand (command.Set host gate param value) = IsByte host × IsByte gate × IsByte param × All IsByte value.items
IsSaidCommand (command.Sync host id) = IsByte host × IsTwoBytes id

-- an opened static pipe: its host and the pipe
abbrev pub IsSaidStatic : ℕ × ℕ → Type 0
IsSaidStatic static = IsByte static.0 × IsByte static.1

-- a value of a registry
abbrev pub IsSaidValue : RegValue → Type 0
IsSaidValue value = IsByte value.host × IsByte value.gate × IsByte value.param × All IsByte value.value.items

-- a kept sync identifier, with its host
abbrev pub IsSaidSync : ℕ × ℕ → Type 0
IsSaidSync sync = IsByte sync.0 × IsTwoBytes sync.1

-- tables: so many rows of each kind, and what the rows say
pub record AreSaidTables (t : HciTables) : Type 0 where
  pub counts : IsNumber (length t.rows) × IsNumber (length t.statics) × IsNumber (length t.values) × IsNumber (length t.syncs)
  pub pipes : All IsSaidPipe t.rows
  pub statics : All IsSaidStatic t.statics
  pub values : All IsSaidValue t.values
  pub syncs : All IsSaidSync t.syncs

-- an entry
abbrev pub IsEntry : Entry → Type 0
IsEntry (entry.Head header) = MayBegin header
IsEntry (entry.Echo said) = IsLineSaid said
IsEntry (entry.Up at session) = IsEnd at × IsNumber session
IsEntry (entry.Down at cause) = IsEnd at
IsEntry (entry.Active at) = IsEnd at
IsEntry (entry.GaveUp at tries) = IsEnd at × IsNumber tries
IsEntry (entry.Sent at session pid message) = IsEnd at × IsNumber session × IsByte pid × AreOctets message
IsEntry (entry.Got at session pid message) = IsEnd at × IsNumber session × IsByte pid × AreOctets message
IsEntry (entry.Acked at session count) = IsEnd at × IsNumber session × IsNumber count
IsEntry (entry.Emit at lpdu) = IsEnd at × AreOctets lpdu
IsEntry (entry.Took at lpdu) = IsEnd at × AreOctets lpdu
IsEntry (entry.Lost at lpdu cause) = IsEnd at × AreOctets lpdu
IsEntry (entry.Turn at pid message) = IsEnd at × IsByte pid × AreOctets message
IsEntry (entry.Held at need spare) = IsEnd at × IsNumber need × IsNumber spare
IsEntry (entry.Ask host message) = IsByte host × AreOctets message
IsEntry (entry.Dropped at pid) = IsEnd at × IsByte pid
IsEntry (entry.Command node command) = IsByte node × IsSaidCommand command
IsEntry (entry.AnyOk node count) = IsByte node × IsNumber count
IsEntry (entry.InitSame at) = IsEnd at
IsEntry (entry.InitMade at count) = IsEnd at × IsNumber count
IsEntry (entry.InitFailed at code) = IsEnd at × IsByte code
IsEntry (entry.Cut node) = IsByte node
IsEntry (entry.Booted node count) = IsByte node × IsNumber count
IsEntry (entry.Tables node tables) = IsByte node × AreSaidTables tables
IsEntry (entry.Settled rounds) = IsNumber rounds
IsEntry (entry.No cause) = IsCause cause
