-- A link over messages seen as a link over fragments.
use Rattle.std.specs.Prelude.{ℕ, Bool, false, not, ◌&&◌, List, [], ◌∷◌, ◌++◌, map, option_to_list, Option, Some, None, if◌then◌else◌}
use Rattle.swp_base.specs.declared.control_frames.Control.{Control}
use Rattle.swp_base.specs.declared.control_frames.Control.TheVariants.{Act as ActFrame}
use Rattle.swp_act.specs.declared.ActEvent.{ActEvent}
use Rattle.swp_act.specs.declared.ActEvent.TheVariants.{Start as ActStart, Stop as ActStop, Take as ActTake, Tick as ActTick}
use Rattle.shdlc_core.specs.Machine.{Session, is_waiting}
use Rattle.hcp_packet.specs.Packets.{packets_of, packet_bytes}
use Rattle.link_laws.specs.sessions.Sessions.{OnWire, NumberedShdlc as CoreEnd, ShdlcLink as CoreLink, ShdlcTurn as CoreTurn, ShdlcEndEvent as CoreEndEvent}
use Rattle.link_laws.specs.sessions.Sessions.{ShdlcLinkEvent as CoreLinkEvent}
use Rattle.link_laws.specs.sessions.Sessions.ShdlcTurn.{Offer, SetReady as CoreSetReady}
use Rattle.link_laws.specs.sessions.Sessions.ShdlcEndEvent.{Turns as CoreTurns, Deliver as CoreDeliver, Ignore as CoreIgnore, Acts as CoreActs}
use Rattle.link_laws.specs.sessions.Sessions.ShdlcEndEvent.{Lose as CoreLose}
use Rattle.link_laws.specs.sessions.Sessions.ShdlcEndEvent.{Reset as CoreReset, Cut as CoreCut, Stop as CoreStop}
use Rattle.link_laws.specs.sessions.Sessions.ShdlcLinkEvent.{AtController as CoreAtController, AtHost as CoreAtHost, Tick as CoreTick}
use Rattle.link_laws.specs.sessions.Sessions.ShdlcLinkEvent.{TickWithout as CoreTickWithout}
use Rattle.link_laws.specs.machine.Machine.{Message, LinkEnd, Turn, Refused, turn, give_refusal, reset_refusal, act_answer, after_input, reset_by, window_of}
use Rattle.link_laws.specs.machine.Machine.{started, deactivated, is_open}
use Rattle.link_laws.specs.machine.Machine.LinkInput.{Take, Tick}
use Rattle.link_laws.specs.machine.Machine.Turn.{Give, Hold}
use Rattle.link_laws.specs.messages.Links.{Talk, NumberedEnd, Link, Ending, Comes, EndEvent, LinkEvent, exchanged, steps_at_controller}
use Rattle.link_laws.specs.messages.Links.{happens_at_controller}
use Rattle.link_laws.specs.messages.Links.{happens, ticks_at_controller, aged}
use Rattle.link_laws.specs.messages.Links.Ending.{GoesOut, CutOff}
use Rattle.link_laws.specs.messages.Links.Comes.{NextFrame, AsksReset, Starts, Stops, NoInput}
use Rattle.link_laws.specs.messages.Links.EndEvent.{Step, Lose}
use Rattle.link_laws.specs.messages.Links.LinkEvent.{AtController, AtHost, Ticks, TicksWithout, Activate}

-- the ended sessions of an end
abbrev pub core_past : List (ℕ × Talk) → List (ℕ × Session)
core_past [] = []
core_past (x ∷ xs) = (x.0, x.1.session) ∷ core_past xs

-- an end
abbrev pub core_end : NumberedEnd → CoreEnd
core_end h = record { side = h.side.shdlc; emitted = h.emitted; took = h.took; past = core_past h.past }

-- the link
abbrev pub core_of : Link → CoreLink
core_of l =
    record {
      controller = core_end l.controller;
      host = core_end l.host;
      to_controller = l.to_controller;
      to_host = l.to_host;
      resets = l.resets;
    }

-- ## Turns

-- the fragments of a message that isn't refused are offered
abbrev pub offers : Option Refused → Message → List CoreTurn
offers None m = Offer (map packet_bytes (packets_of m.0 m.1)) ∷ []
offers (Some why) m = []

-- what a turn of its node is at the SHDLC end
abbrev pub core_turn : LinkEnd → Turn → List CoreTurn
core_turn e (Give m) = offers (give_refusal e m) m
core_turn e (Hold held) = CoreSetReady (not held) ∷ []
core_turn e _ = []

-- what these turns are there, one after another
abbrev pub core_turns : LinkEnd → List Turn → List CoreTurn
core_turns e [] = []
core_turns e (t ∷ ts) = core_turn e t ++ core_turns (turn e t) ts

-- ## Steps

-- a step that is cut off ends with a loss of power: what went out on its way there never counts
abbrev pub core_ending : Ending → List CoreEndEvent
core_ending GoesOut = []
core_ending CutOff = CoreCut ∷ []

-- a frame of activation is lost there, and what it causes goes out; an end that isn't open passes over the others
abbrev pub core_take : LinkEnd → Control → List Turn → List CoreEndEvent
core_take e (ActFrame act again) ts =
    CoreLose
    ∷ CoreActs (option_to_list (act_answer e.role (ActTake act again)).send) (core_turns (after_input e (Take (ActFrame act again))) ts) ∷ []
core_take e c ts =
    if is_open e.role
    then CoreDeliver (core_turns (after_input e (Take c)) ts) ∷ []
    else CoreIgnore (core_turns (after_input e (Take c)) ts) ∷ []

-- a reset with this window, where it isn't refused. Cut off it is a loss of power alone, since its RSET gets no number.
abbrev pub core_reset : Option Refused → LinkEnd → ℕ → List Turn → Ending → List CoreEndEvent
core_reset None e w ts GoesOut = CoreReset w (core_turns (reset_by e w) ts) ∷ []
core_reset None e w ts CutOff = CoreCut ∷ []
core_reset (Some why) e w ts ending = CoreTurns (core_turns e ts) ∷ core_ending ending

-- activation begins or ends at e, which becomes f
abbrev pub core_restart : LinkEnd → ActEvent → LinkEnd → List Turn → Ending → List CoreEndEvent
core_restart e event f ts ending =
    CoreStop ∷ CoreActs (option_to_list (act_answer e.role event).send) (core_turns f ts) ∷ core_ending ending

-- a step of the controller's end
abbrev pub core_step : Link → Comes → List Turn → Ending → List CoreEndEvent
core_step l NextFrame ts ending = first l.to_controller where
  first : List OnWire → List CoreEndEvent
  first [] = []
  first (x ∷ xs) = core_take l.controller.side x.frame ts ++ core_ending ending
core_step l (AsksReset window) ts ending =
    core_reset (reset_refusal l.controller.side) l.controller.side (window_of l.controller.side window) ts ending
core_step l (Starts value) ts ending = core_restart l.controller.side (ActStart value) (started l.controller.side value) ts ending
core_step l Stops ts ending = core_restart l.controller.side ActStop (deactivated l.controller.side) ts ending
core_step l NoInput ts ending = CoreTurns (core_turns l.controller.side ts) ∷ core_ending ending

-- what happens there where this happens at the controller's end
abbrev pub core_here : Link → EndEvent → List CoreEndEvent
core_here l (Step comes ts ending) = core_step l comes ts ending
core_here l (Lose why) = CoreLose ∷ []

-- what happens there where these things happen, one after another
abbrev pub core_all : Link → List EndEvent → List CoreEndEvent
core_all l [] = []
core_all l (e ∷ es) = core_here l e ++ core_all (happens_at_controller l e) es

-- ## Ticks

-- A tick that is cut off while the end waits, as it does where an RSET is due, is a loss of power alone.
abbrev pub is_lost_tick : LinkEnd → Ending → Bool
is_lost_tick e GoesOut = false
is_lost_tick e CutOff = is_open e.role && is_waiting (after_input e Tick).shdlc

-- the tick of the SHDLC end
abbrev pub core_tick : LinkEnd → List Turn → Ending → Option (List CoreTurn)
core_tick e ts ending =
    if is_lost_tick e ending then None else (if is_open e.role then Some (core_turns (after_input e Tick) ts) else Some [])

-- the tick of activation, and how the step ends
abbrev pub core_tick_rest : LinkEnd → List Turn → Ending → List CoreEndEvent
core_tick_rest e ts ending =
    if is_lost_tick e ending
    then []
    else
    (if is_open e.role
    then core_ending ending
    else CoreActs (option_to_list (act_answer e.role ActTick).send) (core_turns (after_input e Tick) ts) ∷ core_ending ending)

-- what happens there where this happens on the link
abbrev pub core_event : Link → LinkEvent → List CoreLinkEvent
core_event l (AtController e) = map CoreAtController (core_here l e)
core_event l (AtHost e) = map CoreAtHost (core_here (exchanged l) e)
core_event l (Ticks c events h) =
    CoreTick (core_tick l.controller.side c.turns c.ending)
    (core_tick_rest l.controller.side c.turns c.ending ++ core_all (ticks_at_controller (aged l) c.turns c.ending) events)
    (core_tick l.host.side h.turns h.ending)
    ∷ map CoreAtHost (core_tick_rest l.host.side h.turns h.ending)
core_event l (TicksWithout events h) =
    CoreTickWithout (core_all (aged l) events) (core_tick l.host.side h.turns h.ending)
    ∷ map CoreAtHost (core_tick_rest l.host.side h.turns h.ending)
core_event l (Activate power c id h) =
    let near : Link = exchanged (steps_at_controller l (Starts power) c.turns c.ending) in
    map CoreAtController (core_step l (Starts power) c.turns c.ending) ++ map CoreAtHost (core_step near (Starts id) h.turns h.ending)

-- what happens there where these things happen, one after another
abbrev pub core_events : Link → List LinkEvent → List CoreLinkEvent
core_events l [] = []
core_events l (e ∷ es) = core_event l e ++ core_events (happens l e) es
