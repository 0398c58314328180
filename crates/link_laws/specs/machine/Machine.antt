-- The machine of one end of a link over whole messages: activation before the link, SHDLC, and packets cut and joined. It is
-- a function over whole lists, so it computes. The limits of 4,096 bytes and 128 blocks are this project's own.
use Rattle.std.specs.Prelude.{ℕ, suc, ◌+◌, ◌-◌, ◌/◌, ◌==◌, ◌&&◌, nat_lt, nat_le, Bool, true, false, not, if◌then◌else◌, List, [], ◌∷◌, ◌++◌, length, take, drop}
use Rattle.std.specs.Prelude.{map, is_some, unwrap_or, Option, Some, None, Result, Ok, Err}
use Rattle.swp_base.specs.declared.control_frames.Control.{Control}
use Rattle.swp_base.specs.declared.control_frames.Control.TheVariants.{Act as ActFrame, Clt}
use Rattle.swp_base.specs.declared.control_frames.Act.{Act}
use Rattle.swp_base.specs.declared.link_terms.FrameFault.{FrameFault}
use Rattle.swp_base.specs.declared.link_terms.Cause.{Cause}
use Rattle.swp_base.specs.declared.link_terms.Cause.TheVariants.{Asked, Act as ByAct, Chain}
use Rattle.shdlc_core.specs.declared.answers.LinkState.{LinkState}
use Rattle.shdlc_core.specs.declared.answers.LinkState.TheVariants.{Down, Waiting, Up}
use Rattle.shdlc_core.specs.Machine.{EndState, Session, new_end, begun, stopped, put_out, taken, take_answer, ticked, tick_answer, is_waiting, reset_with}
use Rattle.shdlc_core.specs.Machine.{with_ready, frame_due, fetched, control_due, all_frames, all_fetched}
use Rattle.hcp_packet.specs.Packets.{packets_of, packet_count, packets_in, packet_bytes, good_of}
use Rattle.hcp_chain.specs.Joining.{are_taken, given_by}
use Rattle.swp_lpdu.specs.declared.LpduFault.{LpduFault}
use Rattle.swp_lpdu.specs.Controls.{control_of}
use Rattle.swp_act.specs.declared.ActEvent.{ActEvent}
use Rattle.swp_act.specs.declared.ActEvent.TheVariants.{Start as ActStart, Take as ActTake, Tick as ActTick, Stop as ActStop}
use Rattle.swp_act.specs.declared.ActOut.{ActOut}
use Rattle.swp_act.specs.declared.uicc.UiccAct.{UiccAct}
use Rattle.swp_act.specs.declared.clf.ClfAct.{ClfAct}
use Rattle.swp_act.specs.Activation.{is_active, no_act_out, new_clf, new_uicc, clf_step, uicc_step}

-- a message with its pipe
abbrev pub Message : Type 0
Message = ℕ × List ℕ

-- what goes before the link at an end: nothing where it is bare, else the activation of a CLF or of a UICC
pub data Role : Type 0 where
  Bare : Role
  Clf : ClfAct → Role
  Uicc : UiccAct → Role

-- an ACT frame that is due, and how many of the SHDLC control frames that are due were made before it
pub record ActDue : Type 0 where
  pub frame : Act
  pub behind : ℕ

-- One end of a link. Whether its node holds it, so that it takes no fragments, is the readiness of its SHDLC end.
pub record LinkEnd : Type 0 where
  pub role : Role
  pub shdlc : EndState
  -- the messages that were given to it in this session, in order
  pub sent : List Message
  -- the ACT frames that were made and not fetched, in order
  pub acts : List ActDue
  -- the good messages that came and weren't fetched, in order; they outlive the session
  pub got : List Message
  -- blocks of its owner for what goes out that its node has set aside
  pub aside : ℕ
  -- frames that were taken and mean nothing here: those outside the LPDU grammar, and CLT
  pub passed_over : ℕ

-- an end of this role with this SHDLC end, to which nothing has happened yet
abbrev pub end_with : Role → EndState → LinkEnd
end_with role s = record { role = role; shdlc = s; sent = []; acts = []; got = []; aside = 0; passed_over = 0 }

-- the ends of a bare link are Up from the start, those of another one are inactive and Down; all ask for a window of 4
abbrev pub new_link_end : Role → LinkEnd
new_link_end role = end_with role (by_role role) where
  by_role : Role → EndState
  by_role Bare = begun (new_end 4)
  by_role (Clf _) = new_end 4
  by_role (Uicc _) = new_end 4

-- its node holds it
abbrev pub is_held : LinkEnd → Bool
is_held e = not e.shdlc.ready

-- ## What can be read off a session

-- the packets accepted in it can't all be joined: a fifth message began, or one is too long
abbrev pub is_faulty : Session → Bool
is_faulty s = not (are_taken [] (packets_in s.acc))

-- the good messages that came of them
abbrev pub messages_got : Session → List Message
messages_got s = good_of (given_by [] (packets_in s.acc))

-- how many messages at the front of these have all their packets among the first so many
abbrev pub whole_among : List Message → ℕ → ℕ
whole_among [] places = 0
whole_among (m ∷ messages) places =
    if nat_le (packet_count (length m.1)) places then suc (whole_among messages (places - packet_count (length m.1))) else 0

-- how many messages of the session are acknowledged whole
abbrev pub whole_acked : LinkEnd → ℕ
whole_acked e = whole_among e.sent e.shdlc.session.acked

-- a message needs a block for each 32 bytes and one for what is left
abbrev pub need : List ℕ → ℕ
need message = (length message + 31) / 32

-- all that these messages need
abbrev pub need_of_all : List Message → ℕ
need_of_all [] = 0
need_of_all (m ∷ messages) = need m.1 + need_of_all messages

-- the blocks of the messages of this session that aren't acknowledged whole
abbrev pub in_use : LinkEnd → ℕ
in_use e = need_of_all (drop (whole_acked e) e.sent)

-- of 128 blocks those that are neither in use nor set aside
abbrev pub spare : LinkEnd → ℕ
spare e = 128 - (in_use e + e.aside)

-- ## Activation

-- frames of SHDLC are taken and sent
abbrev pub is_open : Role → Bool
is_open Bare = true
is_open (Clf s) = is_active s.phase
is_open (Uicc s) = is_active s.phase

-- the role after an event of activation
abbrev pub role_after : Role → ActEvent → Role
role_after Bare event = Bare
role_after (Clf s) event = Clf (clf_step s event).0
role_after (Uicc s) event = Uicc (uicc_step s event).0

-- what activation answers to it
abbrev pub act_answer : Role → ActEvent → ActOut
act_answer Bare event = no_act_out
act_answer (Clf s) event = (clf_step s event).1
act_answer (Uicc s) event = (uicc_step s event).1

-- an ACT frame is due from now on
abbrev pub with_act : Option Act → LinkEnd → LinkEnd
with_act None e = e
with_act (Some act) e = record e { acts = e.acts ++ record { frame = act; behind = length e.shdlc.due } ∷ [] }

-- no SHDLC control frame stands before it any more
abbrev pub in_front : ActDue → ActDue
in_front a = record a { behind = 0 }

-- The SHDLC end has become s. Where the session ended, nothing of it is left: its control frames are dropped too, so that no
-- ACT frame stands behind one of them. What was got stays.
abbrev pub moved : LinkEnd → Bool → EndState → LinkEnd
moved e false s = record e { shdlc = s }
moved e true s = record e { shdlc = s; sent = []; acts = map in_front e.acts }

-- Its link goes down. An end that is Down already only drops the SHDLC frames that it still has to send.
abbrev pub put_down : Bool → LinkEnd → LinkEnd
put_down false e = e
put_down true e = by_phase e.shdlc.phase where
  by_phase : LinkState → LinkEnd
  by_phase Up = moved e true (stopped e.shdlc)
  by_phase Waiting = moved e true (stopped e.shdlc)
  by_phase Down = record e { shdlc = record e.shdlc { due = [] }; acts = map in_front e.acts }

-- an event of activation comes to the end
abbrev pub activated : LinkEnd → ActEvent → LinkEnd
activated e event =
    let out : ActOut = act_answer e.role event in
    with_act out.send (record (put_down out.ended_link e) { role = role_after e.role event })

-- activation begins anew: the link is Down, also where it was before
abbrev pub started : LinkEnd → ℕ → LinkEnd
started e value = activated (moved e true (stopped e.shdlc)) (ActStart value)

-- activation ends, with the link
abbrev pub deactivated : LinkEnd → LinkEnd
deactivated e = activated (moved e true (stopped e.shdlc)) ActStop

-- the role of an end whose node loses power
abbrev pub renewed : Role → Role
renewed Bare = Bare
renewed (Clf _) = Clf new_clf
renewed (Uicc _) = Uicc new_uicc

-- ## Inputs

-- what its node does to an end before the frames that are due go out
pub data Turn : Type 0 where
  -- it gives a message to send
  Give : Message → Turn
  -- it holds the end, so that it takes no fragments, or lets it go
  Hold : Bool → Turn
  -- it fetches the oldest message that came
  FetchMessage : Turn
  -- it sets one block aside, or releases one
  SetAside : Turn
  Release : Turn

-- what may come to an end
pub data LinkInput : Type 0 where
  -- a frame comes
  Take : Control → LinkInput
  -- one whose LPDU is outside the grammar
  TakeUnknown : LinkInput
  -- one that is refused on its way, before its LPDU is read
  TakeBroken : FrameFault → LinkInput
  Tick : LinkInput
  -- a reset is asked for, with a window or with the end's own one
  Reset : Option ℕ → LinkInput
  -- activation begins, with the sync identifier of a UICC or the power code of a CLF
  Start : ℕ → LinkInput
  -- activation ends
  Stop : LinkInput
  FromNode : Turn → LinkInput
  -- the next frame to be sent is fetched
  Fetch : LinkInput

-- what an LPDU of these bytes is to an end
abbrev pub lpdu_input : List ℕ → LinkInput
lpdu_input bytes = by_reading (control_of bytes) where
  by_reading : Result Control LpduFault → LinkInput
  by_reading (Ok c) = Take c
  by_reading (Err fault) = TakeUnknown

-- why an end refuses what is asked of it
pub data Refused : Type 0 where
  NotUp : Refused
  -- the message has so many bytes
  TooLong : ℕ → Refused
  -- so many blocks are needed, and so many are spare
  Full : ℕ → ℕ → Refused
  Inactive : Refused
  IsWaiting : Refused

-- the messages that come with the packet that the SHDLC end accepted as it became s: at most one
abbrev pub news : Session → EndState → List Message
news before s = drop (length (messages_got before)) (messages_got s.session)

-- An end that is open takes a frame of SHDLC. A packet that can't be joined ends the session: it isn't answered.
abbrev pub heard : LinkEnd → Control → LinkEnd
heard e c =
    if is_faulty (taken e.shdlc c).session
    then put_down true e
    else
    (let f : LinkEnd = moved e (is_some (take_answer e.shdlc c).ended) (taken e.shdlc c) in
    record f { got = e.got ++ news e.shdlc.session (taken e.shdlc c) })

-- the end after a frame: ACT goes to activation, CLT is only counted, and the frames of SHDLC are taken where it is open
abbrev pub took : LinkEnd → Control → LinkEnd
took e (ActFrame act again) = activated e (ActTake act again)
took e Clt = record e { passed_over = e.passed_over + 1 }
took e c = if is_open e.role then heard e c else e

-- A message that is given is refused where the end isn't Up, where it is too long, and where it finds no room, in this order.
abbrev pub give_refusal : LinkEnd → Message → Option Refused
give_refusal e m = by_phase e.shdlc.phase where
  by_phase : LinkState → Option Refused
  by_phase Down = Some NotUp
  by_phase Waiting = Some NotUp
  by_phase Up =
      if nat_lt 4096 (length m.1) then Some (TooLong (length m.1))
      else (if nat_lt (spare e) (need m.1) then Some (Full (need m.1) (spare e)) else None)

-- its packets stand behind those of the messages before it
abbrev pub given : LinkEnd → Message → LinkEnd
given e m = record e { shdlc = put_out e.shdlc (map packet_bytes (packets_of m.0 m.1)); sent = e.sent ++ m ∷ [] }

-- a block is set aside only where one is spare
abbrev pub aside_refusal : LinkEnd → Option Refused
aside_refusal e = if nat_lt 0 (spare e) then None else Some (Full 1 0)

-- where this is refused, nothing changes
abbrev pub unless : Option Refused → LinkEnd → LinkEnd → LinkEnd
unless None e f = f
unless (Some why) e f = e

-- the end after what its node does to it
abbrev pub turn : LinkEnd → Turn → LinkEnd
turn e (Give m) = unless (give_refusal e m) e (given e m)
turn e (Hold held) = record e { shdlc = with_ready e.shdlc (not held) }
turn e FetchMessage = record e { got = drop 1 e.got }
turn e SetAside = unless (aside_refusal e) e (record e { aside = e.aside + 1 })
turn e Release = record e { aside = e.aside - 1 }

-- the end after these turns, one after another
abbrev pub turned : LinkEnd → List Turn → LinkEnd
turned e [] = e
turned e (t ∷ ts) = turned (turn e t) ts

-- a reset is refused where the end isn't active, and while it waits
abbrev pub reset_refusal : LinkEnd → Option Refused
reset_refusal e = if is_open e.role then (if is_waiting e.shdlc then Some IsWaiting else None) else Some Inactive

-- an end that is Up loses its session for this cause
abbrev pub if_up : EndState → Cause → Option Cause
if_up e cause = by_phase e.phase where
  by_phase : LinkState → Option Cause
  by_phase Up = Some cause
  by_phase Waiting = None
  by_phase Down = None

-- the end after a reset with this window
abbrev pub reset_by : LinkEnd → ℕ → LinkEnd
reset_by e w = moved e (is_some (if_up e.shdlc Asked)) (reset_with e.shdlc w)

-- the window that a reset asks for: without one it is the end's own
abbrev pub window_of : LinkEnd → Option ℕ → ℕ
window_of e window = unwrap_or window e.shdlc.own_window

-- the end after a tick: SHDLC has it where the end is open, activation where it isn't
abbrev pub had_tick : LinkEnd → LinkEnd
had_tick e = if is_open e.role then moved e (is_some (tick_answer e.shdlc).ended) (ticked e.shdlc) else activated e ActTick

-- ## What goes out

-- ACT frames among the frames of SHDLC, of which n went out before
abbrev pub among : ℕ → List ActDue → List Control → List Control
among n [] frames = frames
among n (a ∷ acts) frames =
    take (a.behind - n) frames ++ ActFrame a.frame false ∷ among a.behind acts (drop (a.behind - n) frames)

-- the control frames that were made and not fetched, in the order in which they were made
abbrev pub controls_due : LinkEnd → List Control
controls_due e = among 0 e.acts (map (control_due e.shdlc) e.shdlc.due)

-- the frame that goes out next, where one is due: control frames in the order in which they were made, then fragments
abbrev pub next_frame : LinkEnd → Option Control
next_frame e = first e.acts where
  first : List ActDue → Option Control
  first [] = frame_due e.shdlc
  first (a ∷ acts) = if a.behind == 0 then Some (ActFrame a.frame false) else frame_due e.shdlc

-- one SHDLC control frame fewer stands before it
abbrev pub nearer : ActDue → ActDue
nearer a = record a { behind = a.behind - 1 }

-- the end after that frame was fetched
abbrev pub frame_fetched : LinkEnd → LinkEnd
frame_fetched e = first e.acts where
  first : List ActDue → LinkEnd
  first [] = record e { shdlc = fetched e.shdlc }
  first (a ∷ acts) =
      if a.behind == 0 then record e { acts = acts } else record e { shdlc = fetched e.shdlc; acts = map nearer e.acts }

-- all frames that are due, one after another
abbrev pub frames_out : LinkEnd → List Control
frames_out e = among 0 e.acts (all_frames e.shdlc)

-- the end after they were all fetched
abbrev pub sent_all : LinkEnd → LinkEnd
sent_all e = record e { shdlc = all_fetched e.shdlc; acts = [] }

-- ## The end after an input

-- a refusal changes nothing
abbrev pub after_input : LinkEnd → LinkInput → LinkEnd
after_input e (Take c) = took e c
after_input e TakeUnknown = record e { passed_over = e.passed_over + 1 }
after_input e (TakeBroken fault) = e
after_input e Tick = had_tick e
after_input e (Reset window) = unless (reset_refusal e) e (reset_by e (window_of e window))
after_input e (Start value) = started e value
after_input e Stop = deactivated e
after_input e (FromNode t) = turn e t
after_input e Fetch = frame_fetched e

-- the end after these inputs, one after another
abbrev pub after_inputs : LinkEnd → List LinkInput → LinkEnd
after_inputs e [] = e
after_inputs e (i ∷ is) = after_inputs (after_input e i) is

-- ## Answers

-- a session ends by activation
abbrev pub ended_by_act : LinkEnd → ActEvent → Option Cause
ended_by_act e event = if (act_answer e.role event).ended_link then if_up e.shdlc ByAct else None

-- why a frame ends the session, where it does
abbrev pub ended_by_frame : LinkEnd → Control → Option Cause
ended_by_frame e (ActFrame act again) = ended_by_act e (ActTake act again)
ended_by_frame e Clt = None
ended_by_frame e c =
    if is_open e.role then (if is_faulty (taken e.shdlc c).session then Some Chain else (take_answer e.shdlc c).ended) else None

-- why a reset that isn't refused ends it
abbrev pub ended_by_reset : LinkEnd → Option Refused → Option Cause
ended_by_reset e None = if_up e.shdlc Asked
ended_by_reset e (Some why) = None

-- why an input ends the session, where it does
abbrev pub ended_by : LinkEnd → LinkInput → Option Cause
ended_by e (Take c) = ended_by_frame e c
ended_by e Tick = if is_open e.role then (tick_answer e.shdlc).ended else ended_by_act e ActTick
ended_by e (Reset window) = ended_by_reset e (reset_refusal e)
ended_by e (Start value) = if_up e.shdlc ByAct
ended_by e Stop = if_up e.shdlc ByAct
ended_by e _ = None

-- the event of activation that an input is, where it is one
abbrev pub act_event : LinkEnd → LinkInput → Option ActEvent
act_event e (Take (ActFrame act again)) = Some (ActTake act again)
act_event e Tick = if is_open e.role then None else Some ActTick
act_event e (Start value) = Some (ActStart value)
act_event e Stop = Some ActStop
act_event e _ = None

-- what activation answers to it, where it is one
abbrev pub act_out : Role → Option ActEvent → ActOut
act_out role None = no_act_out
act_out role (Some event) = act_answer role event

-- an input begins a session
abbrev pub began_by : LinkEnd → LinkInput → Bool
began_by e (Take c) = is_open e.role && (take_answer e.shdlc c).began
began_by e _ = false

-- how many tries were in vain, where an end gave up
abbrev pub gave_up_by : LinkEnd → LinkInput → Option ℕ
gave_up_by e Tick = if is_open e.role then (tick_answer e.shdlc).gave_up else (act_answer e.role ActTick).gave_up
gave_up_by e _ = None

-- the good messages that a frame brings to an end that is open
abbrev pub brought : LinkEnd → Control → List Message
brought e (ActFrame act again) = []
brought e Clt = []
brought e c =
    if is_open e.role
    then (if is_faulty (taken e.shdlc c).session then [] else news e.shdlc.session (taken e.shdlc c))
    else []

-- the good messages that an input brings
abbrev pub got_by : LinkEnd → LinkInput → List Message
got_by e (Take c) = brought e c
got_by e _ = []

-- what is wrong with a frame that was refused on its way
abbrev pub refused_by : LinkInput → Option FrameFault
refused_by (TakeBroken fault) = Some fault
refused_by _ = None

-- what is told of an input
pub record Report : Type 0 where
  -- why the session ended, where it did
  pub ended : Option Cause
  -- a session began
  pub began : Bool
  -- how many messages are newly acknowledged whole
  pub acked : ℕ
  -- the good messages that came, at most one
  pub got : List Message
  -- activation is done
  pub became_active : Bool
  -- the identifier of the UICC, where a CLF takes it
  pub sync : Option ℕ
  -- after how many tries the end gave up, where it did
  pub gave_up : Option ℕ
  -- what is wrong with a frame that was refused on its way
  pub refused : Option FrameFault

-- the report of an input that isn't refused
abbrev pub report : LinkEnd → LinkInput → Report
report e i =
    let out : ActOut = act_out e.role (act_event e i) in
    record {
      ended = ended_by e i;
      began = began_by e i;
      acked = whole_acked (after_input e i) - whole_acked e;
      got = got_by e i;
      became_active = out.became_active;
      sync = out.sync;
      gave_up = gave_up_by e i;
      refused = refused_by i;
    }

-- what an end answers to an input
pub data LinkOutput : Type 0 where
  Reported : Report → LinkOutput
  IsRefused : Refused → LinkOutput
  -- it is done, and nothing is told
  IsDone : LinkOutput
  -- the frame to be sent, where one is due
  NextFrame : Option Control → LinkOutput
  -- the message fetched, where there is one
  NextMessage : Option Message → LinkOutput

-- the first of these messages
abbrev pub oldest : List Message → Option Message
oldest [] = None
oldest (m ∷ messages) = Some m

-- a refusal, or else this answer
abbrev pub answer_unless : Option Refused → LinkOutput → LinkOutput
answer_unless None out = out
answer_unless (Some why) out = IsRefused why

-- what an end answers to its node
abbrev pub turn_answer : LinkEnd → Turn → LinkOutput
turn_answer e (Give m) = answer_unless (give_refusal e m) IsDone
turn_answer e (Hold held) = IsDone
turn_answer e FetchMessage = NextMessage (oldest e.got)
turn_answer e SetAside = answer_unless (aside_refusal e) IsDone
turn_answer e Release = IsDone

-- what an end answers
abbrev pub link_answer : LinkEnd → LinkInput → LinkOutput
link_answer e (Reset window) = answer_unless (reset_refusal e) (Reported (report e (Reset window)))
link_answer e (FromNode t) = turn_answer e t
link_answer e Fetch = NextFrame (next_frame e)
link_answer e i = Reported (report e i)

-- The machine: the end after an input, and its answer.
abbrev pub link_step : LinkEnd → LinkInput → LinkEnd × LinkOutput
link_step e i = (after_input e i, link_answer e i)
