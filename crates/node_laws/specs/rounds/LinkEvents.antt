-- What is an event on the link with the host h as an end of a world takes a frame, and in a tick of the world.
use Rattle.std.specs.Prelude.{◌≡◌, ℕ, ◌==◌, ◌&&◌, Bool, false, not, if◌then◌else◌, List, [], ◌∷◌, Option, Some, None}
use Rattle.trace_model.specs.declared.line.End.{End}
use Rattle.shdlc_core.specs.Machine.{is_waiting}
use Rattle.link_laws.specs.machine.Machine.{LinkInput}
use Rattle.link_laws.specs.messages.Links.{Link, LinkEvent, Node, exchanged, after_link_events}
use Rattle.link_laws.specs.messages.Links.Ending.{GoesOut}
use Rattle.link_laws.specs.messages.Links.Comes.{NextFrame, AsksReset}
use Rattle.link_laws.specs.messages.Links.EndEvent.{Step}
use Rattle.link_laws.specs.messages.Links.LinkEvent.{AtController, AtHost, Ticks, TicksWithout}
use Rattle.node_machine.specs.Parts.{Running, Work}
use Rattle.node_machine.specs.Node.{steps}
use Rattle.node_machine.specs.Node.NodeInput.{AtEnd, TimePasses}
use Rattle.node_machine.specs.world.World.Happening.{Takes, Ticks as TimePassing}
use Rattle.node_machine.specs.world.World.{Site, NodeWorld, Happening, link_to, site_at, input_of, comes_to, turns_at, ending_of, work_of}
use Rattle.node_machine.specs.world.World.{controller_work, host_work}
use Rattle.node_machine.specs.world.World.{all_aged, controller_ticks, is_late_at}

-- ## A frame is taken

-- the controller's end of the link with the host k takes one
abbrev pub controller_takes : ℕ → NodeWorld → ℕ → List LinkEvent
controller_takes h w k = by_input (input_of (link_to w.sites k) NextFrame) w.controller where
  with_work : Work → List LinkEvent
  with_work work = AtController (Step (comes_to k NextFrame h) (turns_at work h) (ending_of work)) ∷ []

  by_input : Option LinkInput → Option Running → List LinkEvent
  by_input None _ = []
  by_input (Some i) None = []
  by_input (Some i) (Some r) = with_work (controller_work w r k NextFrame (steps (AtEnd k i)))

-- this host takes one
abbrev pub site_takes : Site → List LinkEvent
site_takes s = by_input (input_of (exchanged s.link) NextFrame) s.node where
  with_work : Work → List LinkEvent
  with_work work = AtHost (Step NextFrame (turns_at work s.host) (ending_of work)) ∷ []

  by_input : Option LinkInput → Option Running → List LinkEvent
  by_input None _ = []
  by_input (Some i) None = []
  by_input (Some i) (Some r) = with_work (host_work s r NextFrame (steps (AtEnd s.host i)))

-- an end of the world takes one
abbrev pub takes_on : Site → NodeWorld → End → List LinkEvent
takes_on s w e = if e.at_host then (if s.host == e.link then site_takes s else []) else controller_takes s.host w e.link

-- ## Time passes

abbrev pub resting_node : Node
resting_node = record { turns = []; ending = GoesOut }

-- what the tick of a node is at its end of the link with the host h
abbrev pub node_so : ℕ → Work → Node
node_so h work = record { turns = turns_at work h; ending = ending_of work }

-- the tick of a host
abbrev pub site_ticks : Site → Node
site_ticks s = by_node s.node where
  by_node : Option Running → Node
  by_node None = resting_node
  by_node (Some r) = node_so s.host (steps TimePasses (work_of r s.memory.plan (λ h. s.link.host) []))

-- a tick, in which the controller's end is reset in place of its tick where its notice is late, unless it waits already
abbrev pub tick_so : Link → Bool → Node → Node → LinkEvent
tick_so l late c h =
    if late && not (is_waiting l.controller.side.shdlc) then TicksWithout (Step (AsksReset None) c.turns c.ending ∷ []) h else Ticks c [] h

-- the tick of the controller at its end of the link with this host, and whether a notice is late there
abbrev pub controller_tick_on : ℕ → NodeWorld → Node × Bool
controller_tick_on h w = by_node w.controller where
  with_work : Work → Node × Bool
  with_work work = (node_so h work, is_late_at work h)

  by_node : Option Running → Node × Bool
  by_node None = (resting_node, false)
  by_node (Some r) = with_work (steps TimePasses (work_of r w.memory.plan (λ k. (link_to w.sites k).controller) []))

-- a tick of the world; `later` is the host after the tick of the controller
abbrev pub ticks_on : Site → NodeWorld → Site → List LinkEvent
ticks_on s w later =
    let c : Node × Bool = controller_tick_on s.host (all_aged w).0 in
    tick_so s.link c.1 c.0 (site_ticks later) ∷ []

-- ## What happens

abbrev pub on_site : Option Site → (Site → List LinkEvent) → List LinkEvent
on_site None f = []
on_site (Some s) f = f s

-- what it is on the link with the host h that an end takes a frame, or that time passes
abbrev pub link_events_in : ℕ → NodeWorld → Happening → List LinkEvent
link_events_in h w (Takes e) = on_site (site_at w.sites h) (λ s. takes_on s w e)
link_events_in h w TimePassing = on_site (site_at w.sites h) (λ s. on_site (site_at (controller_ticks (all_aged w).0).0.sites h) (ticks_on s w))
link_events_in h w _ = []

-- the link of a host after something happened, and the host is what it was
pub record GoesOnLink (v : NodeWorld) (h : ℕ) (s : Site) (events : List LinkEvent) : Type 0 where
  pub later : Site
  pub is : site_at v.sites h ≡ Some later
  pub host : later.host ≡ s.host
  pub link : later.link ≡ after_link_events s.link events
