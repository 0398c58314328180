-- Which entries of a world of nodes tell of the link with one host, and whether they are those of the law of one link.
use Rattle.std.specs.Prelude.{◌+◌, nat_le, ◌≡◌, ℕ, ◌==◌, Bool, true, false, List, Option, Some, None, map, ◌∷◌, []}
use Rattle.std.specs.List.{filter, find, AllByRecursion}
use Rattle.std.specs.Option.{option_map_or}
use Rattle.trace_model.specs.declared.entry.Entry.{Entry}
use Rattle.trace_model.specs.declared.entry.Entry.TheVariants as entry
use Rattle.trace_model.specs.declared.line.End.{End}
use Rattle.trace_model.specs.declared.line.Line.{Line}
use Rattle.trace_model.specs.declared.line.Line.TheVariants.{Tick}
use Rattle.swp_act.specs.Activation.{new_clf, new_uicc}
use Rattle.shdlc_core.specs.declared.answers.LinkState.TheVariants.{Up}
use Rattle.link_laws.specs.machine.Machine.{LinkEnd, is_open, new_link_end}
use Rattle.link_laws.specs.machine.Machine.Role.{Clf, Uicc}
use Rattle.link_laws.specs.messages.Links.{Link, LinkEvent, after_link_events}
use Rattle.link_laws.specs.entries.Entries.{event_entries, entries}
use Rattle.history.specs.Filters.{Saying, said}
use Rattle.history.specs.Steps.{entries_for}
use Rattle.node_machine.specs.Parts.{Notice, Desk, Running}
use Rattle.node_machine.specs.world.World.{Site, NodeWorld, Happening, node_at, site_at, world_step}
use Rattle.node_machine.specs.world.Lines.{Occurrence}
use Rattle.node_machine.specs.world.World.Happening.{Boots, Ticks}
use Rattle.node_laws.specs.kept.Hosts.{AreDifferent}

-- what is said is said of the link with this host
abbrev pub is_of : ℕ → Option (End × Saying) → Bool
is_of h None = false
is_of h (Some (e, saying)) = e.link == h

-- an entry tells of it: it says something of it, or that activation of one of its ends is done, or that one gave up
abbrev pub tells_of : ℕ → Entry → Bool
tells_of h (entry.Active e) = e.link == h
tells_of h (entry.GaveUp e tries) = e.link == h
tells_of h x = is_of h (said x)

-- the entries that do: sessions that begin or end, messages sent, got or counted, frames put, taken or lost, activation that is done, and
-- resets or activation given up
abbrev pub of_link : ℕ → List Entry → List Entry
of_link h t = filter (tells_of h) t

-- what these entries tell of the link with this host is what the law of one link notes of an event there
abbrev pub TellOf : ℕ → Link → LinkEvent → List Entry → Type 0
TellOf h l event t = of_link h t ≡ of_link h (entries_for h (event_entries l event))

-- a node with this number runs, with ends on the links with these hosts
pub record HasEnds (n : ℕ) (hosts : List ℕ) (r : Running) : Type 0 where
  pub number : r.core.node ≡ n
  pub ends : map (λ (d : Desk). d.host) r.desks ≡ hosts

-- where it runs
abbrev pub IfItRuns : ℕ → List ℕ → Option Running → Type 0
IfItRuns n hosts None = Unit {0}
IfItRuns n hosts (Some r) = HasEnds n hosts r

abbrev pub hosts_in : List Site → List ℕ
hosts_in sites = map (λ (s : Site). s.host) sites

-- Hosts have different numbers, none of them 00. The controller has an end on each link, and a host one on its own.
pub record IsOrderly (w : NodeWorld) : Type 0 where
  pub different : AreDifferent (hosts_in w.sites)
  pub hosts : AllByRecursion (λ (s : Site). (s.host == 0) ≡ false) w.sites
  pub controller : IfItRuns 0 (hosts_in w.sites) w.controller
  pub nodes : AllByRecursion (λ (s : Site). IfItRuns s.host (s.host ∷ []) s.node) w.sites

-- a link becomes another one by events of the law of one link, and what these entries tell of it is what that law notes of them
pub record Tells (h : ℕ) (l m : Link) (t : List Entry) : Type 0 where
  pub events : List LinkEvent
  pub is : after_link_events l events ≡ m
  pub told : of_link h t ≡ of_link h (entries_for h (entries l events))

-- so it is with the link of this host as a world becomes another one
pub record GoesSo (h : ℕ) (s : Site) (v : NodeWorld) (t : List Entry) : Type 0 where
  pub site : Site
  pub there : site_at v.sites h ≡ Some site
  pub tells : Tells h s.link site.link t

-- so it is with all links
pub record EachGoesSo (w v : NodeWorld) (t : List Entry) : Type 0 where
  pub orderly : IsOrderly v
  pub each : (h : ℕ) (s : Site) → site_at w.sites h ≡ Some s → GoesSo h s v t

-- no time passes
abbrev pub IsUntimed : Happening → Type 0
IsUntimed Ticks = ⊥
IsUntimed _ = Unit {0}

abbrev pub IsUntimedLine : Line → Type 0
IsUntimedLine (Tick times) = ⊥
IsUntimedLine _ = Unit {0}

abbrev pub AreUntimed : List Line → Type 0
AreUntimed lines = AllByRecursion IsUntimedLine lines

-- the notice of an end comes to its hundredth tick with the next one
abbrev pub is_due : Desk → Bool
is_due d = option_map_or (λ (n : Notice). nat_le 100 (n.age + 1)) d.notice false

-- none of a host does
abbrev pub NoneDue : Option Running → Type 0
NoneDue None = Unit {0}
NoneDue (Some r) = AllByRecursion (λ (d : Desk). is_due d ≡ false) r.desks

-- an end is new while its node doesn't run
abbrev pub IfOff : Option Running → LinkEnd → LinkEnd → Type 0
IfOff None new e = e ≡ new
IfOff (Some r) new e = Unit {0}

-- where the notice to this host does, the controller's end of its link is active and up
abbrev pub IfDue : Option Running → ℕ → LinkEnd → Type 0
IfDue None h e = Unit {0}
IfDue (Some r) h e = (d : Desk) → find (λ d. d.host == h) r.desks ≡ Some d → is_due d ≡ true → (is_open e.role ≡ true) × (e.shdlc.phase ≡ Up)

-- Ends whose nodes don't run are new, a notice that comes to its hundredth tick stands at an end of the controller that is active and up,
-- and none does at a host.
pub record IsTimely (w : NodeWorld) (h : ℕ) (s : Site) : Type 0 where
  pub controller : IfOff w.controller (new_link_end (Clf new_clf)) s.link.controller.side
  pub host : IfOff s.node (new_link_end (Uicc new_uicc)) s.link.host.side
  pub up : IfDue w.controller h s.link.controller.side
  pub young : NoneDue s.node

-- the world behind these events, one after another
abbrev pub world_behind : NodeWorld → List Occurrence → NodeWorld
world_behind w [] = w
world_behind w (o ∷ events) = world_behind (world_step w o.cause).0 events

-- a node that boots doesn't run
abbrev pub MayBoot : NodeWorld → Happening → Type 0
MayBoot w (Boots n) = node_at w n ≡ None
MayBoot w _ = Unit {0}
