-- What each line of a schedule causes in a world of nodes: a refusal, or what happens and what is noted of it.
use Rattle.std.specs.Prelude.{ℕ, ◌==◌, ◌&&◌, Bool, true, false, if◌then◌else◌, List, [], ◌∷◌, replicate, is_some, unwrap_or, Option, Some, None}
use Rattle.std.specs.List.{flat_map}
use Rattle.std.specs.Option.{option_map_or}
use Rattle.trace_model.specs.declared.entry.Entry.{Entry}
use Rattle.trace_model.specs.declared.entry.Entry.TheVariants.{No}
use Rattle.trace_model.specs.declared.entry.NoCause.{NoCause}
use Rattle.trace_model.specs.declared.entry.NoCause.TheVariants as no
use Rattle.trace_model.specs.declared.line.End.{End}
use Rattle.trace_model.specs.declared.line.Line.{Line}
use Rattle.trace_model.specs.declared.line.Line.TheVariants as line
use Rattle.link_laws.specs.sessions.Sessions.{OnWire}
use Rattle.link_laws.specs.machine.Machine.{Message, Refused, LinkEnd, give_refusal, reset_refusal}
use Rattle.link_laws.specs.machine.Machine.Refused.{NotUp}
use Rattle.link_laws.specs.messages.Links.Loss.{OnDemand}
use Rattle.hci_tables.specs.Tables.{HciTables}
use Rattle.history.specs.Damage.{Verdict}
use Rattle.history.specs.Damage.Verdict.{Same, LostFor, Undetected}
use Rattle.history.specs.Follows.{frames_to, machine_of, as_noted, if_empty, if_out_of_reach, taken_of, first_verdict, other_frame}
use Rattle.node_machine.specs.Parts.{Running}
use Rattle.node_machine.specs.Controller.{is_command_message}
use Rattle.node_machine.specs.world.World.{NodeWorld, Happening, node_at, node_of, link_to, world_step}
use Rattle.node_machine.specs.world.World.Happening.{Boots, IsCut, Gives, Inits, Takes, Loses, Ticks, Resets, Activates, Arms}

-- ## Refusals

-- the first of two causes that applies
abbrev pub first_cause : Option NoCause → Option NoCause → Option NoCause
first_cause None why = why
first_cause (Some cause) why = Some cause

-- this cause applies
abbrev pub if_true : Bool → NoCause → Option NoCause
if_true true cause = Some cause
if_true false cause = None

-- a node runs
abbrev pub is_running : NodeWorld → ℕ → Bool
is_running w n = is_some (node_at w n)

abbrev pub if_off : NodeWorld → ℕ → Option NoCause
if_off w n = if is_running w n then None else Some no.Off

-- the machine of an end, and the frames on their way to it
abbrev pub machine_in : NodeWorld → End → LinkEnd
machine_in w e = machine_of (link_to w.sites e.link) e

abbrev pub frames_at : NodeWorld → End → List OnWire
frames_at w e = frames_to (link_to w.sites e.link) e

-- a host has a command on pipe 01 that isn't answered
abbrev pub has_order : Option Running → Bool
has_order node = option_map_or (λ (r : Running). is_some r.core.command) node false

-- an end that isn't up is told of before a command that waits, and that before a message that is too long or finds no room
abbrev pub if_waiting : Bool → Option Refused → Option NoCause
if_waiting waits (Some NotUp) = Some no.NotUp
if_waiting true _ = Some no.Waiting
if_waiting false why = as_noted why

-- a message that a host's end sends is refused
abbrev pub if_not_sent : NodeWorld → End → Message → Option NoCause
if_not_sent w e m = if_waiting (m.0 == 1 && is_command_message m.1 && has_order (node_at w (node_of e))) (give_refusal (machine_in w e) m)

-- Why a line is refused: the first cause that applies.
abbrev pub refusal_in : NodeWorld → Line → Option NoCause
refusal_in w (line.Send e pid message) = first_cause (if_off w (node_of e)) (if_not_sent w e (pid, message))
refusal_in w (line.Deliver e count) = first_cause (if_off w (node_of e)) (if_empty (frames_at w e))
refusal_in w (line.Lose e) = first_cause (if_off w (node_of e)) (if_empty (frames_at w e))
refusal_in w (line.Damage e places) = first_cause (if_off w (node_of e)) (if_out_of_reach (frames_at w e) places.items)
refusal_in w (line.Tick times) = None
refusal_in w (line.Reset e window) = first_cause (if_off w (node_of e)) (as_noted (reset_refusal (machine_in w e)))
refusal_in w (line.Busy e) = None
refusal_in w (line.Ready e) = None
refusal_in w (line.Boot node) = if_true (is_running w node) no.Running
refusal_in w (line.Cut node) = if_off w node
refusal_in w (line.Activate host sync power) = first_cause (if_off w 0) (if_off w host)
refusal_in w (line.Arm node nth fill) = None
refusal_in w (line.Init e identity pipes) = first_cause (if_off w (node_of e)) (if_not_sent w e (1, 3 ∷ []))
refusal_in w (line.Tables node) = if_off w node
refusal_in w (line.Settle rounds) = None

-- ## What a line causes

-- a damaged frame is taken as it was, or lost
abbrev pub happens_by : End → Option Verdict → List Happening
happens_by e None = []
happens_by e (Some Same) = Takes e ∷ []
happens_by e (Some (LostFor why)) = Loses e why ∷ []
happens_by e (Some (Undetected read)) = []

-- what is to happen at a line that isn't refused, one after another
abbrev pub happenings : NodeWorld → Line → List Happening
happenings w (line.Send e pid message) = Gives e (pid, message) ∷ []
happenings w (line.Deliver e count) = replicate (taken_of count (frames_at w e)) (Takes e)
happenings w (line.Lose e) = Loses e OnDemand ∷ []
happenings w (line.Damage e places) = happens_by e (first_verdict (frames_at w e) places.items)
happenings w (line.Tick times) = replicate (unwrap_or times 1) Ticks
happenings w (line.Reset e window) = Resets e window ∷ []
happenings w (line.Busy e) = []
happenings w (line.Ready e) = []
happenings w (line.Boot node) = Boots node ∷ []
happenings w (line.Cut node) = IsCut node ∷ []
happenings w (line.Activate host sync power) = Activates host sync power ∷ []
happenings w (line.Arm node nth fill) = Arms node (record { nth = nth; fill = fill.items }) ∷ []
happenings w (line.Init e identity pipes) = Inits e identity pipes.items ∷ []
happenings w (line.Tables node) = []
happenings w (line.Settle rounds) = []

-- the frame that is read in place of the first one on its way to an end, where a line damages that one so that its CRC doesn't
-- show it
abbrev pub misread_in : NodeWorld → Line → Option (List ℕ)
misread_in w (line.Damage e places) = unless_refused (refusal_in w (line.Damage e places)) where
  unless_refused : Option NoCause → Option (List ℕ)
  unless_refused (Some cause) = None
  unless_refused None = other_frame (first_verdict (frames_at w e) places.items)
misread_in w _ = None

-- An event: what happened, and its entries in order.
pub record Occurrence : Type 0 where
  pub cause : Happening
  pub entries : List Entry

-- this can happen: a frame is taken only by a node that runs
abbrev pub can_happen : NodeWorld → Happening → Bool
can_happen w (Takes e) = is_running w (node_of e)
can_happen w _ = true

-- the world after these happened, until one can't, and the events
abbrev pub all_happen : NodeWorld → List Happening → NodeWorld × List Occurrence
all_happen w [] = (w, [])
all_happen w (c ∷ causes) = if_can (λ next. all_happen next causes) (can_happen w c) where
  behind : List Entry → NodeWorld × List Occurrence → NodeWorld × List Occurrence
  behind entries later = (later.0, record { cause = c; entries = entries } ∷ later.1)

  stepped : (NodeWorld → NodeWorld × List Occurrence) → NodeWorld × List Entry → NodeWorld × List Occurrence
  stepped later after = behind after.1 (later after.0)

  if_can : (NodeWorld → NodeWorld × List Occurrence) → Bool → NodeWorld × List Occurrence
  if_can later true = stepped later (world_step w c)
  if_can later false = (w, [])

-- what became of a line: it was refused and changed nothing, it caused these events, one after another, or it told these tables
pub data LineOutcome : Type 0 where
  WasRefused : NoCause → LineOutcome
  Occurred : List Occurrence → LineOutcome
  ToldTables : ℕ → HciTables → LineOutcome

-- the tables of a node that runs
abbrev pub tables_told : ℕ → Option Running → LineOutcome
tables_told n None = Occurred []
tables_told n (Some r) = ToldTables n r.core.tables

-- the world after a line that isn't refused, and what became of it
abbrev pub goes_on : NodeWorld → Line → NodeWorld × LineOutcome
goes_on w (line.Tables n) = (w, tables_told n (node_at w n))
goes_on w line = occurred (all_happen w (happenings w line)) where
  occurred : NodeWorld × List Occurrence → NodeWorld × LineOutcome
  occurred after = (after.0, Occurred after.1)

-- the world after a line, and what became of it
abbrev pub line_step : NodeWorld → Line → NodeWorld × LineOutcome
line_step w line = by_refusal (refusal_in w line) where
  by_refusal : Option NoCause → NodeWorld × LineOutcome
  by_refusal (Some cause) = (w, WasRefused cause)
  by_refusal None = goes_on w line

-- what the transcript notes below the echo of a line: entries, or tables
pub data NotedBelow : Type 0 where
  Entries : List Entry → NotedBelow
  TablesOf : ℕ → HciTables → NotedBelow

abbrev pub noted_below : LineOutcome → NotedBelow
noted_below (WasRefused cause) = Entries (No cause ∷ [])
noted_below (Occurred events) = Entries (flat_map (λ (o : Occurrence). o.entries) events)
noted_below (ToldTables n tables) = TablesOf n tables

-- what is noted below each line of a schedule
abbrev pub noted_lines : NodeWorld → List Line → List NotedBelow
noted_lines w [] = []
noted_lines w (line ∷ lines) = let o : NodeWorld × LineOutcome = line_step w line in noted_below o.1 ∷ noted_lines o.0 lines
