-- The init that runs at a host, as it is read off the events of a history: it begins with its line, which is a cause of an event.
use Rattle.std.specs.Prelude.{◌≡◌, ℕ, ◌+◌, ◌==◌, ◌&&◌, true, false, if◌then◌else◌, List, [], ◌∷◌, is_some, Option, Some, None, IsTrue}
use Rattle.std.specs.List.{fold}
use Rattle.std.specs.Option.{option_map}
use Rattle.trace_model.specs.declared.entry.Entry.{Entry}
use Rattle.trace_model.specs.declared.entry.Entry.TheVariants as entry
use Rattle.trace_model.specs.declared.line.Line.{Line}
use Rattle.trace_model.specs.declared.line.Line.TheVariants.{Init as BeginsInit}
use Rattle.shdlc_core.specs.declared.answers.LinkState.TheVariants.{Up}
use Rattle.link_laws.specs.entries.Entries.End.{Controller, Host}
use Rattle.history.specs.Filters.{same_end}
use Rattle.history.specs.Steps.{end_of}
use Rattle.link_laws.specs.messages.Links.{Link}
use Rattle.node_machine.specs.Parts.{Init, Desk, Running, Port, Work}
use Rattle.node_machine.specs.world.World.{Site, Happening, runs_on, end_h}
use Rattle.node_machine.specs.world.World.Happening.{Inits}
use Rattle.node_machine.specs.world.Lines.{Occurrence}
use Rattle.node_machine.specs.world.NodeFilters.{is_response}
use Rattle.node_laws.specs.readings.Worlds.{init_of}

-- one more of its commands is answered
abbrev pub with_response : Init → Init
with_response i = record i { answered = i.answered + 1 }

-- after an entry: a response on pipe 01 has its turn at the host, its init ends, its session ends, or it loses its power
abbrev pub init_after : ℕ → Option Init → Entry → Option Init
init_after h i (entry.Turn f pid message) = if same_end f (end_h h) && (pid == 1 && is_response message) then option_map with_response i else i
init_after h i (entry.InitSame f) = if same_end f (end_h h) then None else i
init_after h i (entry.InitMade f count) = if same_end f (end_h h) then None else i
init_after h i (entry.InitFailed f code) = if same_end f (end_h h) then None else i
init_after h i (entry.Down f cause) = if same_end f (end_h h) then None else i
init_after h i (entry.Cut n) = if n == h then None else i
init_after h i _ = i

-- as something happens: the host begins an init
abbrev pub init_begun : ℕ → Option Init → Happening → Option Init
init_begun h i (Inits e identity pipes) = if e.link == h then Some (init_of identity pipes) else i
init_begun h i _ = i

-- after an event
abbrev pub init_behind : ℕ → Option Init → Occurrence → Option Init
init_behind h i o = fold (init_after h) (init_begun h i o.cause) o.entries

-- the init that runs at a host behind these events
abbrev pub init_in : List Occurrence → ℕ → Option Init
init_in events h = fold (init_behind h) None events

-- as the host keeps it, while it runs
abbrev pub init_of_running : Option Running → Option Init
init_of_running None = None
init_of_running (Some r) = r.core.init

-- A host in a step, which began with this init: it has one end, the init that runs is what is read of it behind the entries of the step,
-- and while one runs a command of it waits for its answer and the end is up.
pub record KeepsInit (h : ℕ) (begun : Option Init) (w : Work) : Type 0 where
  pub node : w.core.node ≡ h
  pub port : Port
  pub ports_are : w.ports ≡ port ∷ []
  pub host : port.desk.host ≡ h
  pub no_notice : port.desk.notice ≡ None
  pub waits : w.cut ≡ false → is_some w.core.init ≡ true → (is_some w.core.command ≡ true) × (port.side.shdlc.phase ≡ Up)
  pub read : fold (init_after h) begun w.entries ≡ init_of_running (runs_on w)

-- ## Between events

-- the host h runs so over its link: it has one end, and while an init runs a command of it waits for its answer and the end is up
pub record RunsInit (h : ℕ) (link : Link) (r : Running) : Type 0 where
  pub number : r.core.node ≡ h
  pub desk : Desk
  pub desks_are : r.desks ≡ desk ∷ []
  pub host : desk.host ≡ h
  pub no_notice : desk.notice ≡ None
  pub waits : is_some r.core.init ≡ true → (is_some r.core.command ≡ true) × (link.host.side.shdlc.phase ≡ Up)

-- where it runs
abbrev pub IfRunsInit : ℕ → Link → Option Running → Type 0
IfRunsInit h link None = Unit {0}
IfRunsInit h link (Some r) = RunsInit h link r

-- The init that runs at a host is this one, which is read: none while it doesn't run.
pub record SiteKeepsInit (i : Option Init) (s : Site) : Type 0 where
  pub read : i ≡ init_of_running s.node
  pub runs : IfRunsInit s.host s.link s.node

-- ## Histories

-- a line that begins an init does so at a host's end
abbrev pub IsBegunByHost : Line → Type 0
IsBegunByHost (BeginsInit e identity pipes) = IsTrue e.at_host
IsBegunByHost _ = Unit {0}

-- ## Other nodes

-- an entry tells nothing of the init of a host
abbrev pub LeavesInit : ℕ → Entry → Type 0
LeavesInit h x = (i : Option Init) → init_after h i x ≡ i

-- an end of this node on the link with the host k is no end of the host h
abbrev pub IsNoEndOf : ℕ → ℕ → ℕ → Type 0
IsNoEndOf h n k = same_end (end_of k (if n == 0 then Controller else Host)) (end_h h) ≡ false
