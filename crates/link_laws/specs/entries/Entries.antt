-- What is noted of a link: the entries of each of its events, in order, with the numbers of its sessions.
use Rattle.std.specs.Prelude.{ℕ, ◌+◌, Bool, true, false, nat_lt, if◌then◌else◌, List, [], ◌∷◌, ◌++◌, length, map, is_some, option_to_list, Option, Some, None}
use Rattle.swp_base.specs.declared.control_frames.Control.{Control}
use Rattle.swp_base.specs.declared.link_terms.Cause.{Cause}
use Rattle.link_laws.specs.sessions.Sessions.{OnWire, is_rset, took_with}
use Rattle.link_laws.specs.machine.Machine.{Message, LinkEnd, Role, Refused, LinkInput, Turn, Report, report, whole_acked, after_input, ended_by, turn, turned}
use Rattle.link_laws.specs.machine.Machine.{give_refusal, frames_out}
use Rattle.link_laws.specs.machine.Machine.Role.{Bare}
use Rattle.link_laws.specs.machine.Machine.LinkInput.{Take, Tick as HasTick, Reset, Start, Stop}
use Rattle.link_laws.specs.machine.Machine.Turn.{Give}
use Rattle.link_laws.specs.messages.Links.{NumberedEnd, Link, Ending, Comes, Loss, EndEvent, Node, LinkEvent, exchanged, number_of, put, with_ended, silent}
use Rattle.link_laws.specs.messages.Links.{steps_at_controller, happens_at_controller, happens, ticks_at_controller, aged, all_at_controller}
use Rattle.link_laws.specs.messages.Links.Ending.{GoesOut, CutOff}
use Rattle.link_laws.specs.messages.Links.Loss.{TooOld, TooMany}
use Rattle.link_laws.specs.messages.Links.Comes.{NextFrame, AsksReset, Starts, Stops, NoInput}
use Rattle.link_laws.specs.messages.Links.EndEvent.{Step, Lose}
use Rattle.link_laws.specs.messages.Links.LinkEvent.{AtController, AtHost, Ticks, TicksWithout, Activate}

-- one of the two ends of a link
pub data End : Type 0 where
  Controller : End
  Host : End

-- the other one
abbrev pub far : End → End
far Controller = Host
far Host = Controller

-- what is noted
pub data Entry : Type 0 where
  -- a session with this number begins at an end, or ends for this cause
  Up : End → ℕ → Entry
  Down : End → Cause → Entry
  -- activation is done there
  Active : End → Entry
  -- it gave up after so many tries
  GaveUp : End → ℕ → Entry
  -- so many messages of the session with this number are acknowledged so far
  Acked : End → ℕ → ℕ → Entry
  -- a message came, or was given, in the session with this number
  Got : End → ℕ → Message → Entry
  Sent : End → ℕ → Message → Entry
  -- a frame was put on the wire by an end, taken by an end, or lost on its way to an end
  Emit : End → Control → Entry
  Took : End → Control → Entry
  Lost : End → Control → Loss → Entry
  -- a tick begins
  Tick : Entry
  -- activation begins anew or ends at an end: both wires are empty
  Restarted : End → Entry
  -- its node lost power: both wires are empty
  Cut : End → Entry

-- ## Of a step of one end

-- this is noted, if so
abbrev pub if_so : {X : Type 0} → Bool → X → List X
if_so {X} false e = []
if_so {X} true e = e ∷ []

-- what is told of an input to an end, whose session has this number, and in which so many messages are acknowledged now
abbrev pub told : End → ℕ → Report → ℕ → List Entry
told who n r acked =
    map (Down who) (option_to_list r.ended) ++ (if_so r.began (Up who n) ++ (if_so r.became_active (Active who)
    ++ (map (GaveUp who) (option_to_list r.gave_up) ++ (if_so (nat_lt 0 r.acked) (Acked who n acked) ++ map (Got who n) r.got))))

-- what is told of an input to the end of h
abbrev pub told_of : End → NumberedEnd → LinkInput → List Entry
told_of who h i = told who (number_of h) (report h.side i) (whole_acked (after_input h.side i))

-- a message that isn't refused is sent
abbrev pub sent_unless : Option Refused → End → ℕ → Message → List Entry
sent_unless None who n m = Sent who n m ∷ []
sent_unless (Some why) who n m = []

-- what is noted of a turn of its node
abbrev pub turn_entry : End → ℕ → LinkEnd → Turn → List Entry
turn_entry who n e (Give m) = sent_unless (give_refusal e m) who n m
turn_entry who n e _ = []

-- of these turns, one after another
abbrev pub turn_entries : End → ℕ → LinkEnd → List Turn → List Entry
turn_entries who n e [] = []
turn_entries who n e (t ∷ ts) = turn_entry who n e t ++ turn_entries who n (turn e t) ts

-- the first frame on the wire to an end is lost
abbrev pub first_lost : End → Loss → List OnWire → List Entry
first_lost who why [] = []
first_lost who why (x ∷ xs) = Lost who x.frame why ∷ []

-- where more than 64 frames are on the wire to an end, the first is lost
abbrev pub pushed_out : End → List OnWire → List Entry
pushed_out who wire = if nat_lt 64 (length wire) then first_lost who TooMany wire else []

-- the wire to the host, as a frame is put on it
abbrev pub wire_with : Link → Control → List OnWire
wire_with l c = l.to_host ++ record { frame = c; age = 0; number = if is_rset c then l.resets + 1 else 0 } ∷ []

-- what is noted of a frame that the controller's end, which has this name, puts on the wire
abbrev pub put_entries : End → Link → Control → List Entry
put_entries who l c = Emit who c ∷ pushed_out (far who) (wire_with l c)

-- of these frames, one after another
abbrev pub puts_entries : End → Link → List Control → List Entry
puts_entries who l [] = []
puts_entries who l (c ∷ cs) = put_entries who l c ++ puts_entries who (put l c) cs

-- the controller's end has become e, and the step ends
abbrev pub ending_entries : End → Link → LinkEnd → Ending → List Entry
ending_entries who l e GoesOut = puts_entries who l (frames_out e)
ending_entries who l e CutOff = Cut who ∷ []

-- the end after an input has turns of its node, and the step ends
abbrev pub rest_entries : End → Link → LinkEnd → List Turn → Ending → List Entry
rest_entries who l e turns ending =
    turn_entries who (number_of l.controller) e turns ++ ending_entries who l (turned e turns) ending

-- the controller's end has this input
abbrev pub input_entries : End → Link → LinkInput → List Turn → Ending → List Entry
input_entries who l i turns ending =
    told_of who l.controller i
    ++ rest_entries who (with_ended l (is_some (ended_by l.controller.side i))) (after_input l.controller.side i) turns ending

-- the link where the controller's end has taken x, and these frames are left
abbrev pub left_after : Link → OnWire → List OnWire → Link
left_after l x xs =
    let m : Link = with_ended (record l { to_controller = xs }) (is_some (ended_by l.controller.side (Take x.frame))) in
    record m { controller = record m.controller { took = took_with l.controller.took x } }

-- the controller's end takes x
abbrev pub taken_entries : End → Link → OnWire → List OnWire → List Turn → Ending → List Entry
taken_entries who l x xs turns ending =
    Took who x.frame
    ∷ (told_of who (record l.controller { took = took_with l.controller.took x }) (Take x.frame)
    ++ rest_entries who (left_after l x xs) (after_input l.controller.side (Take x.frame)) turns ending)

-- activation begins or ends at the controller's end
abbrev pub restart_entries : End → Link → LinkInput → List Turn → Ending → List Entry
restart_entries who l i turns ending =
    Restarted who
    ∷ (told_of who l.controller i ++ rest_entries who (silent l (after_input l.controller.side i)) (after_input l.controller.side i) turns ending)

-- a step of the controller's end
abbrev pub step_entries : End → Link → Comes → List Turn → Ending → List Entry
step_entries who l NextFrame turns ending = first l.to_controller where
  first : List OnWire → List Entry
  first [] = []
  first (x ∷ xs) = taken_entries who l x xs turns ending
step_entries who l (AsksReset window) turns ending = input_entries who l (Reset window) turns ending
step_entries who l (Starts value) turns ending = restart_entries who l (Start value) turns ending
step_entries who l Stops turns ending = restart_entries who l Stop turns ending
step_entries who l NoInput turns ending = rest_entries who l l.controller.side turns ending

-- ## Of an event

-- what is noted where this happens at the controller's end
abbrev pub here_entries : End → Link → EndEvent → List Entry
here_entries who l (Step comes turns ending) = step_entries who l comes turns ending
here_entries who l (Lose why) = first_lost who why l.to_controller

-- where these things happen there, one after another
abbrev pub entries_of_events : End → Link → List EndEvent → List Entry
entries_of_events who l [] = []
entries_of_events who l (e ∷ es) = here_entries who l e ++ entries_of_events who (happens_at_controller l e) es

-- the frames on the wire to an end that are too old
abbrev pub aged_entries : End → List OnWire → List Entry
aged_entries who [] = []
aged_entries who (x ∷ xs) = if nat_lt x.age 4 then aged_entries who xs else Lost who x.frame TooOld ∷ aged_entries who xs

-- the tick of the controller's end
abbrev pub tick_entries : End → Link → Node → List Entry
tick_entries who l node = input_entries who l HasTick node.turns node.ending

-- what is noted of an event
abbrev pub event_entries : Link → LinkEvent → List Entry
event_entries l (AtController e) = here_entries Controller l e
event_entries l (AtHost e) = here_entries Host (exchanged l) e
event_entries l (Ticks c events h) =
    let near : Link = ticks_at_controller (aged l) c.turns c.ending in
    Tick
    ∷ (aged_entries Controller l.to_controller ++ (aged_entries Host l.to_host
    ++ (tick_entries Controller (aged l) c ++ (entries_of_events Controller near events ++ tick_entries Host (exchanged (all_at_controller near events)) h))))
event_entries l (TicksWithout events h) =
    Tick
    ∷ (aged_entries Controller l.to_controller ++ (aged_entries Host l.to_host
    ++ (entries_of_events Controller (aged l) events ++ tick_entries Host (exchanged (all_at_controller (aged l) events)) h)))
event_entries l (Activate power c id h) =
    step_entries Controller l (Starts power) c.turns c.ending
    ++ step_entries Host (exchanged (steps_at_controller l (Starts power) c.turns c.ending)) (Starts id) h.turns h.ending

-- what is noted of these events, one after another
abbrev pub entries : Link → List LinkEvent → List Entry
entries l [] = []
entries l (e ∷ es) = event_entries l e ++ entries (happens l e) es

-- how a link begins: bare ends are up with 0
abbrev pub first_entries : Role → List Entry
first_entries Bare = Up Controller 0 ∷ Up Host 0 ∷ []
first_entries _ = []

-- all that is noted of a link from its beginning on
abbrev pub trace : Link → List LinkEvent → List Entry
trace l events = first_entries l.controller.side.role ++ entries l events
