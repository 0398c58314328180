-- What the hosts of a world keep of their unanswered commands at a moment between events, by what was noted so far.
use Rattle.std.specs.Prelude.{◌≡◌, ℕ, true, List, [], ◌∷◌, ◌++◌, map, is_some, Option, Some, None, IsTrue}
use Rattle.trace_model.specs.declared.entry.Entry.{Entry}
use Rattle.shdlc_core.specs.declared.answers.LinkState.TheVariants.{Up}
use Rattle.link_laws.specs.messages.Links.{Link, Comes, exchanged}
use Rattle.link_laws.specs.entries.Entries.End.{Host}
use Rattle.node_machine.specs.Parts.{Init, Desk, Running, Work}
use Rattle.std.specs.List.{AllByRecursion}
use Rattle.link_laws.specs.machine.Machine.{give_refusal}
use Rattle.node_machine.specs.world.World.{NodeWorld, Site, Happening, node_at, link_to, wires_for, frames_noted, host_work, after_host}
use Rattle.node_machine.specs.world.World.Happening.{Boots, Gives, Inits}
use Rattle.trace_model.specs.declared.line.Line.{Line}
use Rattle.trace_model.specs.declared.line.Line.TheVariants.{Init as BeginsInit}
use Rattle.node_machine.specs.world.NodeFilters.{order_in}
use Rattle.node_laws.specs.readings.Orders.{order_of, AreInitsShort}

-- the host h runs so over its link: its one end has no notice of a controller, and is up while a command isn't answered
pub record HostRuns (h : ℕ) (link : Link) (r : Running) : Type 0 where
  pub number : r.core.node ≡ h
  pub desk : Desk
  pub desks_are : r.desks ≡ desk ∷ []
  pub host : desk.host ≡ h
  pub no_notice : desk.notice ≡ None
  pub short : AreInitsShort r.core.init
  pub up : is_some r.core.command ≡ true → link.host.side.shdlc.phase ≡ Up

-- where it runs
abbrev pub IfHostRuns : ℕ → Link → Option Running → Type 0
IfHostRuns h link None = Unit {0}
IfHostRuns h link (Some r) = HostRuns h link r

-- The unanswered command of a host is what is read: none while it doesn't run.
pub record SiteReads (t : List Entry) (s : Site) : Type 0 where
  pub order : order_in t s.host ≡ order_of s.node
  pub runs : IfHostRuns s.host s.link s.node

-- a host that runs so does this in a step, in which something comes to its end, and what is noted of it
abbrev pub host_does_so : Site → Running → Comes → (Work → Work) → Site × List Entry
host_does_so s r comes f =
    let k : Work = host_work s r comes f in (after_host comes k s, k.entries ++ frames_noted Host s.host (wires_for (exchanged s.link) comes) k)

-- an init as it begins
abbrev pub init_of : List ℕ → List (List ℕ) → Init
init_of identity pipes = record { identity = identity; pipes = pipes; answered = 0 }

-- the controller's number is 00
abbrev pub IfZero : Option Running → Type 0
IfZero None = Unit {0}
IfZero (Some r) = r.core.node ≡ 0

-- so it is with all hosts of a world
pub record AllRead (hosts : List ℕ) (t : List Entry) (w : NodeWorld) : Type 0 where
  pub controller : IfZero w.controller
  pub hosts_are : map (λ (s : Site). s.host) w.sites ≡ hosts
  pub sites : AllByRecursion (SiteReads t) w.sites

-- A node that boots doesn't run; the end of a host takes the message that it sends, and the first command of an init, none of whose
-- commands is too long.
abbrev pub MayBeRead : NodeWorld → Happening → Type 0
MayBeRead w (Boots n) = node_at w n ≡ None
MayBeRead w (Gives e m) = give_refusal (link_to w.sites e.link).host.side m ≡ None
MayBeRead w (Inits e identity pipes) = (give_refusal (link_to w.sites e.link).host.side (1, 3 ∷ []) ≡ None) × AreInitsShort (Some (init_of identity pipes))
MayBeRead w _ = Unit {0}

-- a line that begins an init does so at a host's end, and none of its commands is too long
abbrev pub IsInitOfHost : Line → Type 0
IsInitOfHost (BeginsInit e identity pipes) = IsTrue e.at_host × AreInitsShort (Some (init_of identity pipes.items))
IsInitOfHost _ = Unit {0}
