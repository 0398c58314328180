-- What is kept of the controller of the world and of all hosts, for which states of the world it stands, and how it stands in a step of
-- the controller.
use Rattle.std.specs.Prelude.{◌≡◌, ℕ, ◌+◌, ◌^◌, ◌<◌, Bool, true, List, [], ◌∷◌, ◌++◌, map, length, get_or, Option, Some, None}
use Rattle.std.specs.List.{AllByRecursion, flat_map}
use Rattle.std.specs.Option.{option_map_or}
use Rattle.swp_base.specs.InMemory.{Memory}
use Rattle.swp_base.specs.declared.control_frames.Control.{Control}
use Rattle.trace_model.specs.Lines.{IsHost}
use Rattle.trace_model.specs.declared.entry.Entry.{Entry}
use Rattle.link_laws.specs.machine.Machine.{LinkInput, frames_out}
use Rattle.link_laws.specs.messages.Links.{Comes, put_all, number_of}
use Rattle.link_laws.specs.entries.Entries.{puts_entries}
use Rattle.link_laws.specs.entries.Entries.End.{Controller}
use Rattle.history.specs.Steps.{entries_for}
use Rattle.node_machine.specs.Parts.{Desk, Running, Port, Work}
use Rattle.node_machine.specs.Carrying.{port_at, with_port}
use Rattle.node_machine.specs.Node.{NodeInput}
use Rattle.node_machine.specs.Node.NodeInput.{AtEnd}
use Rattle.node_machine.specs.world.World.{Site, NodeWorld, site_at, link_to, port_for, input_of, comes_to, all_aged}
use Rattle.node_machine.specs.world.World.{controller_ticks}
use Rattle.node_laws.specs.kept.Hosts.{AreDifferent}
use Rattle.node_laws.specs.telling.Telling.{hosts_in, IsOrderly, IsTimely}
use Rattle.node_sites.specs.declared.places.HostSite.{HostSite}
use Rattle.node_sites.specs.declared.power.Power.TheVariants.{On, Off}
use Rattle.node_sites.specs.LinksKept.{with_bare_wires, as_it_comes}
use Rattle.node_sites.specs.FramesOut.{IsOnly, sent_port}
use Rattle.node_sites.specs.Numbers.{CountsFew}
use Rattle.node_sites.specs.Powers.{IsNodePlace, node_memory}
use Rattle.node_sites.specs.Places.{SiteIs}
use Rattle.node_core.specs.declared.node.Node.{Node}
use Rattle.node_core.specs.Running.{RunsAs}
use Rattle.node_sites.specs.declared.power.Power.{Power}

-- ## What is kept

-- what is kept of the hosts stands for these, one by one
abbrev pub SitesAre : List HostSite → List Site → Type 0
SitesAre [] [] = Unit {0}
SitesAre (k ∷ ks) (s ∷ sites) = SiteIs k s × SitesAre ks sites
SitesAre _ _ = ⊥

-- what is kept of the controller and of all hosts stands for a world
pub record WorldIs (k : Power) (ks : List HostSite) (w : NodeWorld) : Type 0 where
  pub controller : IsNodePlace k w.memory w.controller (λ h. (link_to w.sites h).controller)
  pub sites : SitesAre ks w.sites

-- it does so for the world that something has made of it, and this was noted behind what was noted before
pub record WorldBecomes (k : Power) (ks : List HostSite) (before now : List Entry) (after : NodeWorld × List Entry) : Type 0 where
  pub world : WorldIs k ks after.0
  pub noted : now ≡ before ++ after.1

-- it was refused for this, and nothing happened, or else something was made of it
abbrev pub WorldUnless : {Why : Type 0} → Power → List HostSite → List Entry → List Entry → NodeWorld → NodeWorld × List Entry → Option Why → Type 0
WorldUnless k ks before now w after None = WorldBecomes k ks before now after
WorldUnless k ks before now w after (Some cause) = WorldBecomes k ks before now (w, [])

-- ## When nodes may have steps

-- hosts are 01 to 07, and all is in order
pub record MayGoOn (w : NodeWorld) : Type 0 where
  pub orderly : IsOrderly w
  pub hosts : AllByRecursion IsHost (hosts_in w.sites)

-- the host with this number is there
abbrev pub IsThere : ℕ → NodeWorld → Type 0
IsThere h w = (s : Site) × site_at w.sites h ≡ Some s

-- time may pass
abbrev pub AreTimely : NodeWorld → Type 0
AreTimely w = (h : ℕ) (s : Site) → site_at w.sites h ≡ Some s → IsTimely w h s

-- the numbers of the sessions of the controller's ends of all links, by their hosts
abbrev pub AreSessions : List ℕ → List Site → Type 0
AreSessions sessions sites = AllByRecursion (λ (s : Site). get_or sessions s.host 0 ≡ number_of s.link.controller) sites

-- what stands at this place of a list of hosts is the host with this number; at no place, there is none
pub record StandsAt (i h : ℕ) (sites : List Site) : Type 0 where
  pub front : List Site
  pub site : Site
  pub back : List Site
  pub is : sites ≡ front ++ site ∷ back
  pub place : length front ≡ i
  pub host : site.host ≡ h

abbrev pub IsPlaceOf : Option ℕ → ℕ → List Site → Type 0
IsPlaceOf None h sites = site_at sites h ≡ None
IsPlaceOf (Some i) h sites = StandsAt i h sites

-- the RSETs that one more step puts on each link are numbered
abbrev pub HaveRoom : List HostSite → Type 0
HaveRoom ks = AllByRecursion (λ (k : HostSite). k.wires.resets + 17 < 2 ^ 32) ks

-- a step of the controller, where it runs, counts no more acknowledged messages than are counted
abbrev pub FewAreCounted : NodeInput → NodeWorld → Type 0
FewAreCounted input w = by_node w.controller where
  by_node : Option Running → Type 0
  by_node None = Unit {0}
  by_node (Some r) = CountsFew input (map (λ (d : Desk). port_for (link_to w.sites d.host).controller d) r.desks)

-- so it is where something comes to its end of the link with the host h
abbrev pub FewAreCountedAt : ℕ → Comes → NodeWorld → Type 0
FewAreCountedAt h comes w = (i : LinkInput) → input_of (link_to w.sites h) comes ≡ Some i → FewAreCounted (AtEnd h i) w

-- ## Ticks

-- the frames on all wires grow older, and then the controller has its tick
abbrev pub near_ticks : NodeWorld → NodeWorld × List Entry
near_ticks w =
    let old : NodeWorld × List Entry = all_aged w in
    let near : NodeWorld × List Entry = controller_ticks old.0 in
    (near.0, old.1 ++ near.1)

-- ## In a step of the controller

-- the hosts with their links as something comes to the controller's end of the link with the host h
abbrev pub as_it_comes_to : ℕ → Comes → List Site → List Site
as_it_comes_to h comes sites = map (λ (s : Site). record s { link = as_it_comes s.link (comes_to h comes s.host) }) sites

-- the frames that are due at a node's end of the link with this host
abbrev pub due_at : List Port → ℕ → List Control
due_at ports h = option_map_or (λ (p : Port). frames_out p.side) (port_at ports h) []

-- the ends of a node whose frames went out to these hosts
abbrev pub sent_to : List ℕ → List Port → List Port
sent_to [] ports = ports
sent_to (h ∷ hosts) ports = sent_to hosts (with_port h sent_port ports)

-- a host with the frames that the controller's end sent to it on its link, and what is noted of them
abbrev pub has_frames : List Port → Site → Site
has_frames ports s = record s { link = put_all s.link (due_at ports s.host) }

abbrev pub frames_emitted : List Port → Site → List Entry
frames_emitted ports s = entries_for s.host (puts_entries Controller s.link (due_at ports s.host))

-- a node has one end on the link with this host
pub record HasOneEnd (ports : List Port) (h : ℕ) : Type 0 where
  pub port : Port
  pub here : port_at ports h ≡ Some port
  pub only : IsOnly h port ports

-- a node that runs so has one end on the link with each of these hosts, of which what is kept stands
pub record SendsTo (Runs : Type 0) (ports : List Port) (ks : List HostSite) (hosts : List Site) : Type 0 where
  pub runs : Runs
  pub sites : SitesAre ks hosts
  pub different : AreDifferent (hosts_in hosts)
  pub ends : AllByRecursion (HasOneEnd ports) (hosts_in hosts)

-- The controller n behind a step that has brought it to the state v, with the hosts as they are before its frames go out.
pub record EndsStep (k : Power) (ks : List HostSite) (n : Node Memory) (live : Bool) (v : Work) (hosts : List Site) : Type 0 where
  pub on : k ≡ On n
  pub sends : SendsTo (live ≡ true → RunsAs n v.core v.ports) v.ports ks hosts

-- its frames went out, and it runs on
pub record GoesOnWith (k : Power) (ks : List HostSite) (n : Node Memory) (v : Work) (hosts : List Site) (before now : List Entry) : Type 0 where
  pub node : Node Memory
  pub on : k ≡ On node
  pub runs : RunsAs node v.core (sent_to (hosts_in hosts) v.ports)
  pub memory : node_memory node ≡ node_memory n
  pub sites : SitesAre ks (map (has_frames v.ports) hosts)
  pub noted : now ≡ (before ++ v.entries) ++ flat_map (frames_emitted v.ports) hosts

-- a host with nothing on its wires
abbrev pub with_bare_link : Site → Site
with_bare_link s = record s { link = with_bare_wires s.link }

-- it has lost its power: all wires are empty
pub record WentOffWith (k : Power) (ks : List HostSite) (n : Node Memory) (v : Work) (hosts : List Site) (before now : List Entry) : Type 0 where
  pub off : k ≡ Off (node_memory n)
  pub sites : SitesAre ks (map with_bare_link hosts)
  pub noted : now ≡ before ++ v.entries
