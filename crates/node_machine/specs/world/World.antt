-- The world of a controller and its hosts: nodes that run or don't, their memories, and a link to each host; and what one cause does
-- to it, with the entries that are noted of it. The links change by the events of the law of one link.
use Rattle.std.specs.Prelude.{ℕ, ◌==◌, ◌&&◌, Bool, true, false, not, if◌then◌else◌, List, [], ◌∷◌, ◌++◌, map, length, replicate, Option, Some, None}
use Rattle.std.specs.List.{find, flat_map}
use Rattle.std.specs.Option.{option_map_or, option_map}
use Rattle.swp_base.specs.InMemory.{Memory, Plan}
use Rattle.swp_act.specs.Activation.{new_clf, new_uicc}
use Rattle.trace_model.specs.declared.entry.Entry.{Entry}
use Rattle.trace_model.specs.declared.entry.Entry.TheVariants as entry
use Rattle.trace_model.specs.declared.line.End.{End}
use Rattle.shdlc_core.specs.Machine.{is_waiting}
use Rattle.link_laws.specs.sessions.Sessions.{OnWire, took_with}
use Rattle.journal_laws.specs.Writes.{Write}
use Rattle.journal_laws.specs.Journal.{count_of}
use Rattle.journal_laws.specs.Planned.{fails_within, after_planned}
use Rattle.link_laws.specs.machine.Machine.{Message, LinkInput, Turn}
use Rattle.link_laws.specs.machine.Machine.LinkInput.{Take, Reset, Start, Stop}
use Rattle.link_laws.specs.machine.Machine.Role.{Bare, Clf, Uicc}
use Rattle.link_laws.specs.messages.Links.{NumberedEnd, Link, Ending, Comes, Loss, new_link, number_of, exchanged, aged, has_input}
use Rattle.link_laws.specs.messages.Links.{ticks_at_controller, happens}
use Rattle.link_laws.specs.messages.Links.Ending.{GoesOut, CutOff}
use Rattle.link_laws.specs.messages.Links.Comes.{NextFrame, AsksReset, Starts, Stops, NoInput}
use Rattle.link_laws.specs.messages.Links.Loss.{Broken}
use Rattle.link_laws.specs.messages.Links.EndEvent.{Step, Lose}
use Rattle.link_laws.specs.messages.Links.LinkEvent.{AtController, AtHost}
use Rattle.link_laws.specs.entries.Entries.{End as Side, Entry as Noted, ending_entries, aged_entries, first_lost}
use Rattle.link_laws.specs.entries.Entries.End.{Controller, Host}
use Rattle.link_laws.specs.entries.Entries.Entry.{Took}
use Rattle.history.specs.Steps.{at, entries_for}
use Rattle.history.specs.Follows.{seen_from}
use Rattle.node_machine.specs.Parts.{Desk, Running, Port, Work, Deed}
use Rattle.node_machine.specs.Parts.Deed.{Sends, Orders, GoesOn}
use Rattle.node_machine.specs.Controller.{is_command_message}
use Rattle.node_machine.specs.Carrying.{changed_if, port_at}
use Rattle.node_machine.specs.Node.{steps, begins_with, found, boot_writes, with_error}
use Rattle.node_machine.specs.Node.NodeInput.{AtEnd, TimePasses}

-- a host, which runs or doesn't, with its memory and its link to the controller
pub record Site : Type 0 where
  pub host : ℕ
  pub link : Link
  pub memory : Memory
  pub node : Option Running

-- the controller, which runs or doesn't, with its memory, and the hosts, ascending
pub record NodeWorld : Type 0 where
  pub memory : Memory
  pub controller : Option Running
  pub sites : List Site

-- what may happen
pub data Happening : Type 0 where
  -- a node starts from its memory, or its power is cut
  Boots : ℕ → Happening
  IsCut : ℕ → Happening
  -- a host sends a message, or begins an init with an identity and pipes
  Gives : End → Message → Happening
  Inits : End → List ℕ → List (List ℕ) → Happening
  -- an end takes the first frame on its way to it, or that frame is lost
  Takes : End → Happening
  Loses : End → Loss → Happening
  -- one tick of the whole world
  Ticks : Happening
  -- an end is reset, with a window or with its own one
  Resets : End → Option ℕ → Happening
  -- the link of a host is activated, with the identifier of the UICC and a power code
  Activates : ℕ → ℕ → ℕ → Happening
  -- a write to the memory of a node will fail
  Arms : ℕ → Plan → Happening

-- ## The beginning

-- a memory with these bytes
abbrev pub new_memory : List ℕ → Memory
new_memory content = record { content = content; plan = None; failing_read = None; faults = 0 }

-- a host that doesn't run yet
abbrev pub new_site : List ℕ → ℕ → Site
new_site content h = record { host = h; link = new_link (Clf new_clf) (Uicc new_uicc); memory = new_memory content; node = None }

-- a world with these hosts, in which no node runs yet and all memories have these bytes
abbrev pub world_over : List ℕ → List ℕ → NodeWorld
world_over content hosts = record { memory = new_memory content; controller = None; sites = map (new_site content) hosts }

-- the world that a header opens: all memories are blank
abbrev pub new_world : List ℕ → NodeWorld
new_world hosts = world_over (replicate 65536 255) hosts

-- ## Its parts

abbrev pub site_at : List Site → ℕ → Option Site
site_at sites h = find (λ s. s.host == h) sites

-- the hosts, where the one with this number is changed
abbrev pub with_site : ℕ → (Site → Site) → List Site → List Site
with_site h f sites = map (λ (s : Site). changed_if (s.host == h) f s) sites

-- the node with this number, while it runs
abbrev pub node_at : NodeWorld → ℕ → Option Running
node_at w n = by_number (n == 0) where
  by_host : Option Site → Option Running
  by_host None = None
  by_host (Some s) = s.node

  by_number : Bool → Option Running
  by_number true = w.controller
  by_number false = by_host (site_at w.sites n)

-- the node of an end
abbrev pub node_of : End → ℕ
node_of e = if e.at_host then e.link else 0

-- the link of an end; where there is none, one without anything on it
abbrev pub link_to : List Site → ℕ → Link
link_to sites h = option_map_or (λ (s : Site). s.link) (site_at sites h) (new_link Bare Bare)

-- ## A step of a node

-- how a step ends
abbrev pub ending_of : Work → Ending
ending_of w = if w.cut then CutOff else GoesOut

-- what runs on after it
abbrev pub runs_on : Work → Option Running
runs_on w = if w.cut then None else Some (record { core = w.core; desks = map (λ (p : Port). p.desk) w.ports })

-- what its node did to an end
abbrev pub turns_at : Work → ℕ → List Turn
turns_at w h = option_map_or (λ (p : Port). p.turns) (port_at w.ports h) []

-- the input that comes to the near end of a link so
abbrev pub input_of : Link → Comes → Option LinkInput
input_of l NextFrame = first l.to_controller where
  first : List OnWire → Option LinkInput
  first [] = None
  first (x ∷ xs) = Some (Take x.frame)
input_of l (AsksReset window) = Some (Reset window)
input_of l (Starts value) = Some (Start value)
input_of l Stops = Some Stop
input_of l NoInput = None

-- the near end of a link, as it has heard of the number of an RSET that comes
abbrev pub near_end_in : Link → Comes → NumberedEnd
near_end_in l NextFrame = first l.to_controller where
  first : List OnWire → NumberedEnd
  first [] = l.controller
  first (x ∷ xs) = record l.controller { took = took_with l.controller.took x }
near_end_in l _ = l.controller

-- what is noted first
abbrev pub arrival : Side → Link → Comes → List Noted
arrival who l NextFrame = first l.to_controller where
  first : List OnWire → List Noted
  first [] = []
  first (x ∷ xs) = Took who x.frame ∷ []
arrival who l _ = []

-- the wires as the frames of the step go out: activation empties them
abbrev pub wires_for : Link → Comes → Link
wires_for l (Starts value) = record l { to_controller = []; to_host = [] }
wires_for l Stops = record l { to_controller = []; to_host = [] }
wires_for l _ = l

-- an end as its node sees it
abbrev pub port_for : NumberedEnd → Desk → Port
port_for near_end d = record { desk = d; side = near_end.side; session = number_of near_end; late = false; ended = false; turns = [] }

-- a node as a step of it begins, with its ends
abbrev pub work_of : Running → Option Plan → (ℕ → NumberedEnd) → List Entry → Work
work_of r plan near_ends entries = record {
  core = r.core;
  ports = map (λ (d : Desk). port_for (near_ends d.host) d) r.desks;
  plan = plan;
  writes = [];
  entries = entries;
  cut = false;
}

-- the frames that go out of the near end of a link after a step
abbrev pub frames_noted : Side → ℕ → Link → Work → List Entry
frames_noted who h l w =
    option_map_or (λ (p : Port). entries_for h (ending_entries who l p.side (ending_of w))) (port_at w.ports h) []

-- ## Steps of the controller

-- what comes to its end of this link, where something comes to the end of the link with the host h
abbrev pub comes_to : ℕ → Comes → ℕ → Comes
comes_to h comes k = if k == h then comes else NoInput

-- the controller in this step, in which something comes to its end of the link with the host h
abbrev pub controller_work : NodeWorld → Running → ℕ → Comes → (Work → Work) → Work
controller_work w r h comes f =
    let l : Link = link_to w.sites h in
    f (work_of r w.memory.plan (λ k. near_end_in (link_to w.sites k) (comes_to h comes k)) (entries_for h (arrival Controller l comes)))

-- a link after such a step
abbrev pub link_after_controller : ℕ → Comes → Work → Site → Site
link_after_controller h comes k s =
    record s { link = happens s.link (AtController (Step (comes_to h comes s.host) (turns_at k s.host) (ending_of k))) }

-- the world after such a step, and what is noted of it
abbrev pub after_controller : NodeWorld → ℕ → Comes → Work → NodeWorld × List Entry
after_controller w h comes k = (
  record {
    memory = after_planned k.writes w.memory;
    controller = runs_on k;
    sites = map (link_after_controller h comes k) w.sites;
  },
  k.entries ++ flat_map (λ (s : Site). frames_noted Controller s.host (wires_for s.link (comes_to h comes s.host)) k) w.sites,
)

-- the controller does this in a step, in which something comes to its end of the link with the host h
abbrev pub controller_does : NodeWorld → ℕ → Comes → (Work → Work) → NodeWorld × List Entry
controller_does w h comes f = by_node w.controller where
  by_node : Option Running → NodeWorld × List Entry
  by_node None = (w, [])
  by_node (Some r) = after_controller w h comes (controller_work w r h comes f)

-- ## Steps of a host

-- a host in a step, in which something comes to its end
abbrev pub host_work : Site → Running → Comes → (Work → Work) → Work
host_work s r comes f =
    f (work_of r s.memory.plan (λ k. near_end_in (exchanged s.link) comes) (entries_for s.host (arrival Host (exchanged s.link) comes)))

-- the host after such a step
abbrev pub after_host : Comes → Work → Site → Site
after_host comes k s = record s {
  link = happens s.link (AtHost (Step comes (turns_at k s.host) (ending_of k)));
  memory = after_planned k.writes s.memory;
  node = runs_on k;
}

-- a host does this in a step, in which something comes to its end
abbrev pub host_does : NodeWorld → ℕ → Comes → (Work → Work) → NodeWorld × List Entry
host_does w h comes f = by_site (site_at w.sites h) where
  after_work : Site → Work → NodeWorld × List Entry
  after_work s k = (
    record w { sites = with_site h (after_host comes k) w.sites },
    k.entries ++ frames_noted Host h (wires_for (exchanged s.link) comes) k,
  )

  by_node : Site → Option Running → NodeWorld × List Entry
  by_node s None = (w, [])
  by_node s (Some r) = after_work s (host_work s r comes f)

  by_site : Option Site → NodeWorld × List Entry
  by_site None = (w, [])
  by_site (Some s) = by_node s s.node

-- ## Power

-- the power of the controller, or of a host, is cut: the wires of its links are empty, and its ends are new
abbrev pub controller_cut : NodeWorld → NodeWorld
controller_cut w = record w {
  controller = None;
  sites = map (λ (s : Site). record s { link = happens s.link (AtController (Step NoInput [] CutOff)) }) w.sites;
}

abbrev pub host_cut : Site → Site
host_cut s = record s { link = happens s.link (AtHost (Step NoInput [] CutOff)); node = None }

-- the power of this node is cut
abbrev pub loses_power_at : ℕ → NodeWorld → NodeWorld
loses_power_at n w = by_number (n == 0) where
  by_number : Bool → NodeWorld
  by_number true = controller_cut w
  by_number false = record w { sites = with_site n host_cut w.sites }

-- the memory of a node
abbrev pub memory_at : NodeWorld → ℕ → Memory
memory_at w n = by_number (n == 0) where
  by_number : Bool → Memory
  by_number true = w.memory
  by_number false = option_map_or (λ (s : Site). s.memory) (site_at w.sites n) (new_memory [])

-- the world, where the memory of this node has become this
abbrev pub with_memory : ℕ → Memory → NodeWorld → NodeWorld
with_memory n m w = by_number (n == 0) where
  by_number : Bool → NodeWorld
  by_number true = record w { memory = m }
  by_number false = record w { sites = with_site n (λ s. record s { memory = m }) w.sites }

-- the world, where this node runs so
abbrev pub with_node : ℕ → Running → NodeWorld → NodeWorld
with_node n r w = by_number (n == 0) where
  by_number : Bool → NodeWorld
  by_number true = record w { controller = Some r }
  by_number false = record w { sites = with_site n (λ s. record s { node = Some r }) w.sites }

-- the hosts to which a node has links: a host has its own
abbrev pub links_of : NodeWorld → ℕ → List ℕ
links_of w n = if n == 0 then map (λ (s : Site). s.host) w.sites else n ∷ []

-- a node boots; its power is cut where a write to its memory fails
abbrev pub boots : NodeWorld → ℕ → NodeWorld × List Entry
boots w n = by_plan (fails_within (length writes) m.plan) where
  m : Memory
  m = memory_at w n

  writes : List Write
  writes = boot_writes m.content

  written : NodeWorld
  written = with_memory n (after_planned writes m) w

  runs : Running → NodeWorld × List Entry
  runs r = (with_node n r written, entry.Booted n (count_of r.core.journal) ∷ [])

  by_plan : Bool → NodeWorld × List Entry
  by_plan true = (loses_power_at n written, entry.Cut n ∷ [])
  by_plan false = runs (found n (links_of w n) m.content)

-- ## Losses

-- a frame was refused on its way, which counts for REC_ERROR where the node runs
abbrev pub counts : Loss → ℕ → Option Running → Option Running
counts (Broken fault) h node = option_map (λ (r : Running). record r { desks = with_error h r.desks }) node
counts _ h node = node

-- the first frame on its way to an end is lost
abbrev pub frame_lost : NodeWorld → End → Loss → NodeWorld × List Entry
frame_lost w e why = by_side e.at_host where
  l : Link
  l = link_to w.sites e.link

  lost : Site → Site
  lost s = record s { link = happens s.link (at e (Lose why)) }

  by_side : Bool → NodeWorld × List Entry
  by_side false = (
    record w { controller = counts why e.link w.controller; sites = with_site e.link lost w.sites },
    entries_for e.link (first_lost Controller why l.to_controller),
  )
  by_side true = (
    record w { sites = with_site e.link (λ s. record (lost s) { node = counts why e.link s.node }) w.sites },
    entries_for e.link (first_lost Host why l.to_host),
  )

-- ## Time

-- the frames on all wires grow older, and what is noted of those that are too old
abbrev pub all_aged : NodeWorld → NodeWorld × List Entry
all_aged w = (
  record w { sites = map (λ (s : Site). record s { link = aged s.link }) w.sites },
  flat_map (λ (s : Site). entries_for s.host (aged_entries Controller s.link.to_controller ++ aged_entries Host s.link.to_host)) w.sites,
)

-- a notice of the end with this host is late
abbrev pub is_late_at : Work → ℕ → Bool
is_late_at k h = option_map_or (λ (p : Port). p.late) (port_at k.ports h) false

-- A link after a tick of the controller: an end whose notice is late is reset in place of having its tick, unless it waits
-- already; while a notice isn't answered its end is up.
abbrev pub ticked_so : Link → Bool → List Turn → Ending → Link
ticked_so l late turns ending =
    if late && not (is_waiting l.controller.side.shdlc) then has_input l (Reset None) turns ending else ticks_at_controller l turns ending

-- the tick of the controller; where it doesn't run its ends are new
abbrev pub controller_ticks : NodeWorld → NodeWorld × List Entry
controller_ticks w = by_node w.controller where
  after_work : Work → NodeWorld × List Entry
  after_work k = (
    record {
      memory = after_planned k.writes w.memory;
      controller = runs_on k;
      sites = map (λ (s : Site). record s { link = ticked_so s.link (is_late_at k s.host) (turns_at k s.host) (ending_of k) }) w.sites;
    },
    k.entries ++ flat_map (λ (s : Site). frames_noted Controller s.host s.link k) w.sites,
  )

  by_node : Option Running → NodeWorld × List Entry
  by_node None = (record w { sites = map (λ (s : Site). record s { link = ticks_at_controller s.link [] GoesOut }) w.sites }, [])
  by_node (Some r) = after_work (steps TimePasses (work_of r w.memory.plan (λ h. (link_to w.sites h).controller) []))

-- the tick of a host
abbrev pub host_ticks : Site → Site × List Entry
host_ticks s = by_node s.node where
  after_work : Work → Site × List Entry
  after_work k = (
    record s {
      link = exchanged (ticks_at_controller (exchanged s.link) (turns_at k s.host) (ending_of k));
      memory = after_planned k.writes s.memory;
      node = runs_on k;
    },
    k.entries ++ frames_noted Host s.host (exchanged s.link) k,
  )

  by_node : Option Running → Site × List Entry
  by_node None = (record s { link = exchanged (ticks_at_controller (exchanged s.link) [] GoesOut) }, [])
  by_node (Some r) = after_work (steps TimePasses (work_of r s.memory.plan (λ h. s.link.host) []))

-- the ticks of hosts, one after another
abbrev pub hosts_tick : List Site → List Site × List Entry
hosts_tick [] = ([], [])
hosts_tick (s ∷ sites) =
    let first : Site × List Entry = host_ticks s in
    let later : List Site × List Entry = hosts_tick sites in
    (first.0 ∷ later.0, first.1 ++ later.1)

-- A tick of the world: frames grow older, then the nodes have their ticks, ascending.
abbrev pub world_ticks : NodeWorld → NodeWorld × List Entry
world_ticks w =
    let old : NodeWorld × List Entry = all_aged w in
    let near : NodeWorld × List Entry = controller_ticks old.0 in
    let far : List Site × List Entry = hosts_tick near.0.sites in
    (record near.0 { sites = far.0 }, old.1 ++ (near.1 ++ far.1))

-- ## Steps of the world

-- a host sends a message
abbrev pub sending : ℕ → Message → List Deed
sending h m = if m.0 == 1 && is_command_message m.1 then Orders m.1 ∷ [] else Sends h m ∷ []

-- a host begins an init
abbrev pub beginning : List ℕ → List (List ℕ) → List Deed
beginning identity pipes = GoesOn (record { identity = identity; pipes = pipes; answered = 0 }) ∷ Orders (3 ∷ []) ∷ []

-- something comes to an end, where its node runs
abbrev pub comes_at : NodeWorld → End → Comes → NodeWorld × List Entry
comes_at w e comes = by_input (input_of (seen_from e (link_to w.sites e.link)) comes) e.at_host where
  by_input : Option LinkInput → Bool → NodeWorld × List Entry
  by_input None at_host = (w, [])
  by_input (Some i) true = host_does w e.link comes (steps (AtEnd e.link i))
  by_input (Some i) false = controller_does w e.link comes (steps (AtEnd e.link i))

-- the end of the controller or of the host on the link with this host
abbrev pub end_c : ℕ → End
end_c h = record { link = h; at_host = false }

abbrev pub end_h : ℕ → End
end_h h = record { link = h; at_host = true }

-- activation begins: first at the controller's end
abbrev pub activates : NodeWorld → ℕ → ℕ → ℕ → NodeWorld × List Entry
activates w h sync power =
    let near : NodeWorld × List Entry = comes_at w (end_c h) (Starts power) in
    let far : NodeWorld × List Entry = comes_at near.0 (end_h h) (Starts sync) in
    (far.0, near.1 ++ far.1)

-- What happens to the world, and what is noted of it.
abbrev pub world_step : NodeWorld → Happening → NodeWorld × List Entry
world_step w (Boots n) = boots w n
world_step w (IsCut n) = (loses_power_at n w, entry.Cut n ∷ [])
world_step w (Gives e m) = host_does w e.link NoInput (begins_with e.link (sending e.link m))
world_step w (Inits e identity pipes) = host_does w e.link NoInput (begins_with e.link (beginning identity pipes))
world_step w (Takes e) = comes_at w e NextFrame
world_step w (Loses e why) = frame_lost w e why
world_step w Ticks = world_ticks w
world_step w (Resets e window) = comes_at w e (AsksReset window)
world_step w (Activates h sync power) = activates w h sync power
world_step w (Arms n plan) = (with_memory n (record (memory_at w n) { plan = Some plan }) w, [])
