-- What happens at one host of a world, with what is noted of it: the definitions of the world, for the one site that they change.
use Rattle.std.specs.Prelude.{◌≡◌, ℕ, ◌==◌, ◌&&◌, ◌≤◌, Bool, true, false, not, if◌then◌else◌, List, [], ◌∷◌, ◌++◌, length, map}
use Rattle.std.specs.Prelude.{is_some, option_map, Option, Some, None}
use Rattle.swp_base.specs.InMemory.{Memory}
use Rattle.swp_act.specs.Activation.{new_uicc}
use Rattle.trace_model.specs.declared.entry.Entry.{Entry}
use Rattle.trace_model.specs.declared.entry.Entry.TheVariants as entry
use Rattle.trace_model.specs.declared.entry.NoCause.{NoCause}
use Rattle.trace_model.specs.declared.entry.NoCause.TheVariants as no
use Rattle.trace_model.specs.declared.line.End.{End}
use Rattle.journal_laws.specs.Journal.{count_of}
use Rattle.journal_laws.specs.Planned.{fails_within, after_planned}
use Rattle.link_laws.specs.machine.Machine.{LinkEnd, LinkInput, Message, Turn, after_input, frames_out, give_refusal, new_link_end, reset_refusal, sent_all}
use Rattle.link_laws.specs.machine.Machine.LinkInput.{Reset, Tick}
use Rattle.link_laws.specs.machine.Machine.Role.{Uicc}
use Rattle.link_laws.specs.messages.Links.{Link, Comes, Ending, Loss, aged, becomes, cut, exchanged, happens, with_controller}
use Rattle.link_end.specs.Reports.{reset_refused}
use Rattle.link_end.specs.declared.report.ResetRefused.{ResetRefused}
use Rattle.link_end.specs.declared.report.ResetRefused.TheVariants.{Inactive, Waiting}
use Rattle.link_laws.specs.messages.Links.Comes.{AsksReset}
use Rattle.link_laws.specs.messages.Links.Ending.{GoesOut, CutOff}
use Rattle.link_laws.specs.messages.Links.EndEvent.{Lose}
use Rattle.link_laws.specs.entries.Entries.{aged_entries, puts_entries}
use Rattle.link_laws.specs.entries.Entries.End.{Controller, Host}
use Rattle.history.specs.Steps.{at, entries_for}
use Rattle.node_machine.specs.Parts.{Port, Running, Work}
use Rattle.node_machine.specs.Carrying.{port_at}
use Rattle.node_machine.specs.Controller.{is_command_message}
use Rattle.node_machine.specs.Node.{steps, found, boot_writes}
use Rattle.node_machine.specs.Node.NodeInput.{AtEnd}
use Rattle.node_machine.specs.world.World.{Site, input_of, wires_for, frames_noted, host_work, after_host, host_cut, counts}
use Rattle.node_machine.specs.world.World.{turns_at, ending_of, runs_on}
use Rattle.node_machine.specs.world.Lines.{first_cause, if_waiting, has_order}
use Rattle.node_laws.specs.telling.Telling.{IfItRuns, IfOff, NoneDue}
use Rattle.node_sites.specs.declared.places.HostSite.{HostSite}
use Rattle.node_sites.specs.LinksKept.{WiresStandFor}
use Rattle.node_sites.specs.Numbers.{StaysCounted}
use Rattle.node_sites.specs.declared.power.Power.TheVariants.{On}
use Rattle.node_sites.specs.Places.{SiteIs}
use Rattle.node_core.specs.declared.node.Node.{Node}
use Rattle.node_sites.specs.Powers.{node_memory}
use Rattle.node_core.specs.Running.{RunsAs}

-- ## What happens

-- a host does this in a step where it runs, in which something comes to its end
abbrev pub host_stepped : Site → Comes → (Work → Work) → Site × List Entry
host_stepped s comes f = by_node s.node where
  after_work : Work → Site × List Entry
  after_work k = (after_host comes k s, k.entries ++ frames_noted Host s.host (wires_for (exchanged s.link) comes) k)

  by_node : Option Running → Site × List Entry
  by_node None = (s, [])
  by_node (Some r) = after_work (host_work s r comes f)

-- something comes to a host's end
abbrev pub host_hears : Site → Comes → Site × List Entry
host_hears s comes = by_input (input_of (exchanged s.link) comes) where
  by_input : Option LinkInput → Site × List Entry
  by_input None = (s, [])
  by_input (Some i) = host_stepped s comes (steps (AtEnd s.host i))

-- a host boots
abbrev pub host_boots : Site → Site × List Entry
host_boots s = by_plan (fails_within (length (boot_writes s.memory.content)) s.memory.plan) where
  written : Site
  written = record s { memory = after_planned (boot_writes s.memory.content) s.memory }

  runs : Running → Site × List Entry
  runs r = (record written { node = Some r }, entry.Booted s.host (count_of r.core.journal) ∷ [])

  by_plan : Bool → Site × List Entry
  by_plan true = (host_cut written, entry.Cut s.host ∷ [])
  by_plan false = runs (found s.host (s.host ∷ []) s.memory.content)

-- the first frame on its way to an end of the link of a host is lost, which counts for REC_ERROR of the host where that is its end
abbrev pub site_loses : End → Loss → Site → Site
site_loses e why s = record s {
  link = happens s.link (at e (Lose why));
  node = if e.at_host then counts why s.host s.node else s.node;
}

-- the frames on both wires of its link grow older
abbrev pub site_ages : Site → Site × List Entry
site_ages s = (
  record s { link = aged s.link },
  entries_for s.host (aged_entries Controller s.link.to_controller ++ aged_entries Host s.link.to_host),
)

-- ## Refusals

-- it doesn't run
abbrev pub if_host_off : Site → Option NoCause
if_host_off s = if is_some s.node then None else Some no.Off

-- why a reset is refused, as a line tells it
abbrev pub reset_noted : ResetRefused → NoCause
reset_noted Inactive = no.Inactive
reset_noted Waiting = no.Waiting

-- its end doesn't send this message
abbrev pub if_host_mute : Site → Message → Option NoCause
if_host_mute s m = if_waiting (m.0 == 1 && is_command_message m.1 && has_order s.node) (give_refusal s.link.host.side m)

-- why a message of a host or an init is refused
abbrev pub sending_refused : Site → Message → Option NoCause
sending_refused s m = first_cause (if_host_off s) (if_host_mute s m)

-- why what comes to an end is refused, where its node runs: only a reset is
abbrev pub refusal_coming : Option Running → LinkEnd → Comes → Option ResetRefused
refusal_coming running e (AsksReset window) = by_node running where
  by_node : Option Running → Option ResetRefused
  by_node None = None
  by_node (Some r) = option_map reset_refused (reset_refusal e)
refusal_coming running e _ = None

-- ## What is asked

-- a host of a world: its number is 01 to 07, and its node has its number and the end of its link
pub record IsHostOf (s : Site) : Type 0 where
  pub number : (s.host == 0) ≡ false
  pub low : s.host ≤ 7
  pub ends : IfItRuns s.host (s.host ∷ []) s.node

-- where this comes to an end, no more messages are acknowledged behind it, and behind a reset after it, than are counted
pub record CountsOn (e : LinkEnd) (i : LinkInput) : Type 0 where
  pub come : StaysCounted e (Some i)
  pub late : StaysCounted (after_input e i) (Some (Reset None))

-- so it is where this comes to the end of a host that runs
abbrev pub CountsComing : Site → Comes → Type 0
CountsComing s comes = (r : Running) (i : LinkInput) → s.node ≡ Some r → input_of (exchanged s.link) comes ≡ Some i → CountsOn s.link.host.side i

-- a host may have a tick: its end is new while it doesn't run, and else no notice of it is late
pub record MayTick (s : Site) : Type 0 where
  pub off : IfOff s.node (new_link_end (Uicc new_uicc)) s.link.host.side
  pub young : NoneDue s.node
  pub counts : (r : Running) → s.node ≡ Some r → CountsOn s.link.host.side Tick

-- ## Its step

-- The step of an end of the link with the host h, whatever begins it: its frames go out on the wires of this link, which becomes what the
-- law makes of it by what the node did to the end and how the step ends.
pub record EndDoes (h : ℕ) (step : List Turn → Ending → Link) (v : Work) : Type 0 where
  pub port : Port
  pub here : port_at v.ports h ≡ Some port
  pub link : Link
  pub out : step (turns_at v h) GoesOut ≡ becomes link port.side
  pub cut : step (turns_at v h) CutOff ≡ cut (with_controller link (sent_all port.side))

-- the host behind it
abbrev pub host_behind : Site → (List Turn → Ending → Link) → Work → Site
host_behind s step k = record s {
  link = exchanged (step (turns_at k s.host) (ending_of k));
  memory = after_planned k.writes s.memory;
  node = runs_on k;
}

-- The node of a host has done its work, and the frames of its end are to go out. What goes out is noted as on the link l.
pub record IsToSend (k : HostSite) (live : Bool) (noted : List Entry) (short : Bool) (before : List Entry) (s : Site)
    (step : List Turn → Ending → Link) (l : Link) (w : Work) : Type 0 where
  pub node : Node Memory
  pub on : k.power ≡ On node
  pub host : k.host ≡ s.host
  pub power : w.cut ≡ not live
  pub memory : node_memory node ≡ after_planned w.writes s.memory
  pub runs : live ≡ true → RunsAs node w.core w.ports
  pub ends : map (λ (p : Port). p.desk.host) w.ports ≡ s.host ∷ []
  pub here : EndDoes s.host step w
  pub wires : WiresStandFor k.wires (exchanged here.link)
  pub bare : Link
  pub bare_wires : WiresStandFor k.wires (exchanged bare)
  pub same : puts_entries Host bare (frames_out here.port.side) ≡ puts_entries Host l (frames_out here.port.side)
  pub noted_are : short ≡ false → noted ≡ before ++ w.entries

-- ## What is kept behind it

-- it stands for the host behind what happened, and that was noted
pub record HasBecome (new : HostSite) (before now : List Entry) (after : Site × List Entry) : Type 0 where
  pub site : SiteIs new after.0
  pub noted : now ≡ before ++ after.1

-- It was refused for this, or else it happened and was noted.
abbrev pub BecomesUnless : {Why : Type 0} → HostSite → List Entry → List Entry → Site → Site × List Entry → Option Why → Type 0
BecomesUnless new before now s after None = HasBecome new before now after
BecomesUnless new before now s after (Some cause) = HasBecome new before now (s, [])
