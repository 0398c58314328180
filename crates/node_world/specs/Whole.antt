-- A world of nodes as a whole: what is kept of it as something happens, and what is asked then.
use Rattle.std.specs.Prelude.{◌≡◌, ℕ, ◌+◌, ◌<◌, ◌≤◌, ◌^◌, Bool, true, false, List, [], ◌++◌, replicate, unwrap_or, Option, Some, None}
use Rattle.std.specs.List.{AllByRecursion}
use Rattle.trace_model.specs.Lines.{IsNodeHeader, IsNodeOf}
use Rattle.trace_model.specs.declared.entry.Entry.{Entry}
use Rattle.trace_model.specs.declared.line.End.{End}
use Rattle.trace_model.specs.declared.line.Header.{Header}
use Rattle.trace_model.specs.declared.line.Line.{Line}
use Rattle.trace_model.specs.declared.line.Line.TheVariants as line
use Rattle.link_wires.specs.declared.finding.Misread.{Misread}
use Rattle.link_wires.specs.Damages.{first_lpdu}
use Rattle.node_machine.specs.world.World.{NodeWorld, Site, node_at, memory_at}
use Rattle.node_machine.specs.world.World.Happening.{Ticks}
use Rattle.node_machine.specs.world.Lines.{LineOutcome, all_happen, frames_at, misread_in, noted_below}
use Rattle.node_laws.specs.telling.Telling.{hosts_in}
use Rattle.lines_told.specs.lines.Below.{IsPlayedLine, entries_below}
use Rattle.node_sites.specs.declared.nodes.Asked.{Asked}
use Rattle.node_sites.specs.declared.nodes.Asked.TheVariants.{Send, Init}
use Rattle.node_sites.specs.declared.places.HostSite.{HostSite}
use Rattle.node_world.specs.Bounds.{FewBehind}
use Rattle.node_world.specs.Controllers.{SitesAre, WorldIs, MayGoOn, AreTimely}
use Rattle.node_world.specs.HostSteps.{IsHostOf, MayTick}
use Rattle.node_sites.specs.Memories.{IsSoundMemory}
use Rattle.node_sites.specs.declared.power.Power.{Power}

-- ## Something happens

-- a world in order, in which the numbers of RSETs and the counts are far from their ends
pub record IsWithinBounds (w : NodeWorld) : Type 0 where
  pub goes_on : MayGoOn w
  pub few : FewBehind 300000000 w

-- what is kept of the hosts stands for those of a world that something has made of it, and this was noted behind what was noted before
pub record SitesBecome (ks : List HostSite) (before now : List Entry) (after : NodeWorld × List Entry) : Type 0 where
  pub sites : SitesAre ks after.0.sites
  pub noted : now ≡ before ++ after.1

-- all hosts may have their ticks
pub record IsToTick (s : Site) : Type 0 where
  pub host : IsHostOf s
  pub may : MayTick s
  pub room : s.link.resets + 17 < 2 ^ 32

abbrev pub AreToTick : List Site → Type 0
AreToTick sites = AllByRecursion IsToTick sites

-- what is kept of the hosts stands for these behind their ticks, and that was noted
pub record SitesTick (ks : List HostSite) (before now : List Entry) (after : List Site × List Entry) : Type 0 where
  pub sites : SitesAre ks after.0
  pub noted : now ≡ before ++ after.1

-- a world, and what is noted, where this happens unless it is refused for a cause
abbrev pub if_accepted : {Why : Type 0} → Option Why → NodeWorld → NodeWorld × List Entry → NodeWorld × List Entry
if_accepted None w after = after
if_accepted (Some cause) w after = (w, [])

-- ## A line

-- the world behind so many ticks
abbrev pub after_ticks : ℕ → NodeWorld → NodeWorld
after_ticks n w = (all_happen w (replicate n Ticks)).0

-- A node that doesn't run may boot from its memory.
abbrev pub AreBootable : List ℕ → NodeWorld → Type 0
AreBootable hosts w = (n : ℕ) → IsNodeOf hosts n → node_at w n ≡ None → IsSoundMemory (memory_at w n)

-- What is asked of a world with the hosts of this header, in which this line is played.
pub record MayPlay (header : Header) (said : Line) (w : NodeWorld) : Type 0 where
  pub is_header : IsNodeHeader header
  pub hosts_are : hosts_in w.sites ≡ header.hosts.items
  pub is_line : IsPlayedLine header said
  pub goes_on : MayGoOn w
  pub few : FewBehind 250000000 w
  pub timely : AreTimely w
  pub ticks : (times : Option ℕ) → said ≡ line.Tick times → (n : ℕ) → n ≤ unwrap_or times 1 → AreTimely (after_ticks n w)
  pub boots : AreBootable header.hosts.items w

-- what is kept stands for the world behind a line, and what the line tells is noted
pub record LinePlayed (k : Power) (ks : List HostSite) (noted : List Entry) (after : NodeWorld × LineOutcome) : Type 0 where
  pub world : WorldIs k ks after.0
  pub told : noted ≡ entries_below (noted_below after.1)

-- what is kept of the hosts alone stands so
pub record HostsPlayed (ks : List HostSite) (noted : List Entry) (after : NodeWorld × LineOutcome) : Type 0 where
  pub sites : SitesAre ks after.0.sites
  pub told : noted ≡ entries_below (noted_below after.1)

-- the line that asks this of a host
abbrev pub line_asked : End → Asked → Line
line_asked e (Send pipe message) = line.Send e pipe message.now
line_asked e (Init identity pipes) = line.Init e identity.now (record { items = pipes.now })

-- a line that damages a frame
abbrev pub is_damaging : Line → Bool
is_damaging (line.Damage e places) = true
is_damaging said = false

-- the first frame on its way to the end that a line speaks of, where the line damages it
abbrev pub damaged_in : NodeWorld → Line → Option (List ℕ)
damaged_in w (line.Damage e places) = first_lpdu (frames_at w e)
damaged_in w _ = None

-- this is told of a line: which other frame is read in place of the first one on the wire, where one is
abbrev pub IsMisreadIn : NodeWorld → Line → Option Misread → Type 0
IsMisreadIn w said None = misread_in w said ≡ None
IsMisreadIn w said (Some other) = (misread_in w said ≡ Some other.read) × (damaged_in w said ≡ Some other.sent)
