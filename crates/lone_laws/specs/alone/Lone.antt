-- A node with one link, alone: whatever comes to its end of the link, what it does then, and what is noted of it. Nothing is known of
-- the other end.
use Rattle.std.specs.Prelude.{ℕ, ◌+◌, ◌==◌, Bool, true, false, if◌then◌else◌, List, [], ◌∷◌, ◌++◌, map, length, is_some, Option, Some, None}
use Rattle.std.specs.List.{filter}
use Rattle.std.specs.Option.{option_map_or}
use Rattle.swp_base.specs.InMemory.{Memory}
use Rattle.swp_base.specs.declared.control_frames.Control.{Control}
use Rattle.swp_base.specs.declared.link_terms.FrameFault.{FrameFault}
use Rattle.swp_act.specs.Activation.{new_clf, new_uicc}
use Rattle.swp_lpdu.specs.Controls.{lpdu_of}
use Rattle.trace_model.specs.declared.entry.Entry.{Entry}
use Rattle.trace_model.specs.declared.entry.Entry.TheVariants as entry
use Rattle.trace_model.specs.declared.line.End.{End}
use Rattle.link_laws.specs.sessions.Sessions.{is_rset}
use Rattle.journal_laws.specs.Planned.{fails_within, after_planned}
use Rattle.link_laws.specs.machine.Machine.{LinkEnd, Role, LinkInput, new_link_end, lpdu_input, began_by, frames_out, sent_all}
use Rattle.link_laws.specs.machine.Machine.Role.{Clf, Uicc}
use Rattle.link_laws.specs.machine.Machine.LinkInput.{Take, Tick, Reset, Start, Stop}
use Rattle.link_laws.specs.messages.Links.Loss.{Broken}
use Rattle.history.specs.Steps.{lost_as}
use Rattle.node_machine.specs.Parts.{Desk, Running, Port, Work}
use Rattle.node_machine.specs.Carrying.{port_at}
use Rattle.node_machine.specs.Node.{NodeInput, steps, found, boot_writes, with_error}
use Rattle.node_machine.specs.Node.NodeInput.{AtEnd, TimePasses}
use Rattle.node_machine.specs.world.World.{runs_on, end_c, end_h}

-- ## A node alone

-- A node with one link.
pub record Lone : Type 0 where
  -- 00 is the controller, any other number is that of the host
  pub number : ℕ
  -- the host of its link
  pub link : ℕ
  -- what runs of it: nothing once its power went in a write
  pub node : Option Running
  pub memory : Memory
  -- its end of the link
  pub side : LinkEnd
  -- how many RSETs that end has put on the link and taken, and how many it had when its last session began: the number of that one
  pub rsets : ℕ
  pub session : ℕ

-- what may come to it
pub data LoneCause : Type 0 where
  -- a frame with this LPDU is taken, or one was refused on its way for this
  FrameComes : List ℕ → LoneCause
  FrameIsRefused : FrameFault → LoneCause
  TickComes : LoneCause
  -- a reset is asked for, with a window or with the end's own one
  ResetComes : Option ℕ → LoneCause
  -- activation begins anew, with the identifier of a UICC or the power code of a CLF, or it ends
  StartComes : ℕ → LoneCause
  StopComes : LoneCause

-- its end
abbrev pub end_of_node_alone : ℕ → ℕ → End
end_of_node_alone number link = if number == 0 then end_c link else end_h link

abbrev pub lone_end : Lone → End
lone_end l = end_of_node_alone l.number l.link

-- ## A step

-- what comes to the end: a frame that was refused comes nowhere
abbrev pub lone_input : LoneCause → Option LinkInput
lone_input (FrameComes bytes) = Some (lpdu_input bytes)
lone_input (FrameIsRefused fault) = None
lone_input TickComes = Some Tick
lone_input (ResetComes window) = Some (Reset window)
lone_input (StartComes value) = Some (Start value)
lone_input StopComes = Some Stop

-- so its node makes a step
abbrev pub node_input : ℕ → LinkInput → NodeInput
node_input link Tick = TimePasses
node_input link i = AtEnd link i

-- an RSET that is taken is counted, whatever the end does with it
abbrev pub rsets_since : LinkInput → ℕ → ℕ
rsets_since (Take c) n = if is_rset c then n + 1 else n
rsets_since _ n = n

-- the number of the session in a step in which this comes: where one begins, that of all RSETs so far
abbrev pub session_with : Lone → LinkInput → ℕ
session_with l i = if began_by l.side i then rsets_since i l.rsets else l.session

-- that a frame is taken is noted first
abbrev pub lone_arrival : Lone → LoneCause → List Entry
lone_arrival l (FrameComes bytes) = entry.Took (lone_end l) bytes ∷ []
lone_arrival l _ = []

-- its end, as the node sees it in a step
abbrev pub lone_port : LinkEnd → ℕ → Desk → Port
lone_port side session d = record { desk = d; side = side; session = session; late = false; ended = false; turns = [] }

-- the node as a step begins
abbrev pub lone_work : Lone → Running → LinkInput → List Entry → Work
lone_work l r i noted = record {
  core = r.core;
  ports = map (lone_port l.side (session_with l i)) r.desks;
  plan = l.memory.plan;
  writes = [];
  entries = noted;
  cut = false;
}

-- the end of a node behind a step; a node that loses power has a new one
abbrev pub role_alone : ℕ → Role
role_alone number = if number == 0 then Clf new_clf else Uicc new_uicc

abbrev pub side_behind : Lone → Work → LinkEnd
side_behind l w = by_power w.cut where
  by_power : Bool → LinkEnd
  by_power true = new_link_end (role_alone l.number)
  by_power false = option_map_or (λ (p : Port). p.side) (port_at w.ports l.link) l.side

-- the frames that go out
abbrev pub frames_behind : Lone → Work → List Control
frames_behind l w = frames_out (side_behind l w)

abbrev pub emits_behind : Lone → Work → List Entry
emits_behind l w = map (λ c. entry.Emit (lone_end l) (lpdu_of c)) (frames_behind l w)

-- the node behind a step in which this came
abbrev pub lone_behind_step : Lone → LinkInput → Work → Lone
lone_behind_step l i w = record l {
  node = runs_on w;
  memory = after_planned w.writes l.memory;
  side = sent_all (side_behind l w);
  rsets = rsets_since i l.rsets + length (filter is_rset (frames_behind l w));
  session = session_with l i;
}

-- what is noted of a frame that was refused: its bytes aren't known
abbrev pub noted_of_refused : Lone → LoneCause → List Entry
noted_of_refused l (FrameIsRefused fault) = entry.Lost (lone_end l) [] (lost_as (Broken fault)) ∷ []
noted_of_refused l _ = []

-- it counts for REC_ERROR
abbrev pub with_refusal : ℕ → Running → Running
with_refusal link r = record r { desks = with_error link r.desks }

-- what a node that runs does where this comes to its end
abbrev pub does_with_input : Lone → LoneCause → Running → Option LinkInput → Lone × List Entry
does_with_input l cause r None = (record l { node = Some (with_refusal l.link r) }, noted_of_refused l cause)
does_with_input l cause r (Some i) = after_work (steps (node_input l.link i) (lone_work l r i (lone_arrival l cause))) where
  after_work : Work → Lone × List Entry
  after_work w = (lone_behind_step l i w, w.entries ++ emits_behind l w)

-- a node that has lost its power does nothing
abbrev pub does_by_power : Lone → LoneCause → Option Running → Lone × List Entry
does_by_power l cause None = (l, [])
does_by_power l cause (Some r) = does_with_input l cause r (lone_input cause)

-- The node behind what came, and what is noted of it.
abbrev pub lone_step : Lone → LoneCause → Lone × List Entry
lone_step l cause = does_by_power l cause l.node

-- ## A history

-- an event: what came, and what was noted of it
pub record LoneEvent : Type 0 where
  pub cause : LoneCause
  pub entries : List Entry

-- The events of what comes, one after another, until the node loses its power.
abbrev pub lone_events : Lone → List LoneCause → List LoneEvent
lone_events l [] = []
lone_events l (c ∷ causes) =
    let after : Lone × List Entry = lone_step l c in
    if is_some l.node then record { cause = c; entries = after.1 } ∷ lone_events after.0 causes else []

-- the node behind them
abbrev pub lone_after : Lone → List LoneCause → Lone
lone_after l [] = l
lone_after l (c ∷ causes) = lone_after (lone_step l c).0 causes

-- ## Its beginning

-- A node boots over a memory: every pipe is closed.
abbrev pub lone_booted : ℕ → ℕ → Memory → Lone
lone_booted number link m = record {
  number = number;
  link = link;
  node = if fails_within (length (boot_writes m.content)) m.plan then None else Some (found number (link ∷ []) m.content);
  memory = after_planned (boot_writes m.content) m;
  side = new_link_end (role_alone number);
  rsets = 0;
  session = 0;
}
