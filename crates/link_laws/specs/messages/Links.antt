-- Two ends of one link and the two wires between them, over whole messages and over sessions, with all that may happen there:
-- steps of an end with its node's turns, losses, ticks, activation, and cuts of either node.
use Rattle.std.specs.Prelude.{ℕ, ◌+◌, ◌==◌, ◌<◌, ◌≤◌, ◌≡◌, Bool, true, false, if◌then◌else◌, List, [], ◌∷◌, ◌++◌, drop, is_some, max, Option, Some, None}
use Rattle.swp_base.specs.declared.control_frames.Control.{Control}
use Rattle.swp_base.specs.declared.link_terms.FrameFault.{FrameFault}
use Rattle.swp_act.specs.Activation.{is_active, new_clf, new_uicc}
use Rattle.shdlc_core.specs.declared.answers.LinkState.{LinkState}
use Rattle.shdlc_core.specs.declared.answers.LinkState.TheVariants.{Down, Waiting, Up}
use Rattle.shdlc_core.specs.Machine.{Session, no_session, is_waiting}
use Rattle.hcp_packet.specs.Packets.{IsSendable}
use Rattle.link_laws.specs.sessions.Sessions.{OnWire, is_rset, is_up, fits, aged_wire, took_with}
use Rattle.link_laws.specs.machine.Machine.{Message, LinkEnd, Role, new_link_end, renewed, started, deactivated, LinkInput, Turn, turned, after_input}
use Rattle.link_laws.specs.machine.Machine.{frames_out}
use Rattle.link_laws.specs.machine.Machine.{sent_all, ended_by}
use Rattle.link_laws.specs.machine.Machine.Role.{Bare, Clf, Uicc}
use Rattle.link_laws.specs.machine.Machine.LinkInput.{Take, Tick, Reset}
use Rattle.link_laws.specs.machine.Machine.Turn.{Give}

-- what is known of a session at one end
pub record Talk : Type 0 where
  -- the messages given in it
  pub sent : List Message
  pub session : Session

-- one end, with the greatest numbers of RSETs that it has sent and taken, and its ended sessions with their numbers
pub record NumberedEnd : Type 0 where
  pub side : LinkEnd
  pub emitted : ℕ
  pub took : ℕ
  pub past : List (ℕ × Talk)

-- a link, seen from one of its ends: the controller's, where nothing else is said
pub record Link : Type 0 where
  pub controller : NumberedEnd
  pub host : NumberedEnd
  -- the frames on their way to each end, the one put first in front
  pub to_controller : List OnWire
  pub to_host : List OnWire
  -- how many RSETs were put on the link
  pub resets : ℕ

-- an end that comes up has the greatest number that it has sent or taken
abbrev pub number_of : NumberedEnd → ℕ
number_of h = max h.emitted h.took

-- a session in which nothing was given and nothing came
abbrev pub no_talk : Talk
no_talk = record { sent = []; session = no_session }

-- the ended session with a number
abbrev pub ended_talk : List (ℕ × Talk) → ℕ → Talk
ended_talk [] n = no_talk
ended_talk (x ∷ xs) n = if n == x.0 then x.1 else ended_talk xs n

-- the session that goes on at an end
abbrev pub talk_now : LinkEnd → Talk
talk_now e = record { sent = e.sent; session = e.shdlc.session }

-- the session with a number, while it lasts or as it ended; one without messages where the end had none
abbrev pub talk_of : NumberedEnd → ℕ → Talk
talk_of h n = by_phase h.side.shdlc.phase where
  by_phase : LinkState → Talk
  by_phase Up = if n == number_of h then talk_now h.side else ended_talk h.past n
  by_phase Waiting = ended_talk h.past n
  by_phase Down = ended_talk h.past n

-- an end that has sent and taken no RSET yet
abbrev pub new_numbered_end : LinkEnd → NumberedEnd
new_numbered_end e = record { side = e; emitted = 0; took = 0; past = [] }

-- two new ends, and nothing on the wires
abbrev pub new_link : Role → Role → Link
new_link c h =
    record { controller = new_numbered_end (new_link_end c); host = new_numbered_end (new_link_end h); to_controller = []; to_host = []; resets = 0 }

-- how a link begins: bare, or with activation
pub data IsStart : Link → Type 0 where
  IsBare : IsStart (new_link Bare Bare)
  IsLine : IsStart (new_link (Clf new_clf) (Uicc new_uicc))

-- the link seen from the other end
abbrev pub exchanged : Link → Link
exchanged l =
    record l { controller = l.host; host = l.controller; to_controller = l.to_host; to_host = l.to_controller }

-- ## Frames go out

-- the controller's end puts a frame on the wire to the host. The RSETs of a link are numbered from 1 as they are put on it
abbrev pub put : Link → Control → Link
put l c = by_kind (is_rset c) where
  by_kind : Bool → Link
  by_kind true =
      record l {
        to_host = fits (l.to_host ++ record { frame = c; age = 0; number = l.resets + 1 } ∷ []);
        controller = record l.controller { emitted = l.resets + 1 };
        resets = l.resets + 1;
      }
  by_kind false = record l { to_host = fits (l.to_host ++ record { frame = c; age = 0; number = 0 } ∷ []) }

-- it puts these frames there, one after another
abbrev pub put_all : Link → List Control → Link
put_all l [] = l
put_all l (c ∷ cs) = put_all (put l c) cs

-- the controller's end has become e
abbrev pub with_controller : Link → LinkEnd → Link
with_controller l e = record l { controller = record l.controller { side = e } }

-- the controller's end has become e, and all its frames that are due go out
abbrev pub becomes : Link → LinkEnd → Link
becomes l e = with_controller (put_all l (frames_out e)) (sent_all e)

-- the session that goes on at the controller's end has ended: it is kept as it stands
abbrev pub with_ended : Link → Bool → Link
with_ended l false = l
with_ended l true =
    record l { controller = record l.controller { past = (number_of l.controller, talk_now l.controller.side) ∷ l.controller.past } }

-- the controller's end is e, which is Down, and nothing stands on either wire
abbrev pub silent : Link → LinkEnd → Link
silent l e =
    let m : Link = with_ended l (is_up l.controller.side.shdlc.phase) in
    record m { controller = record m.controller { side = e }; to_controller = []; to_host = [] }

-- the node of the controller's end loses power: the end is new, and both wires are empty; the other end goes on
abbrev pub cut : Link → Link
cut l = silent l (new_link_end (renewed l.controller.side.role))

-- ## Steps of one end

-- how a step ends
pub data Ending : Type 0 where
  -- all frames that are due go out
  GoesOut : Ending
  -- the node loses power before that, and these frames are gone
  CutOff : Ending

-- The controller's end has become e in a step that ends so.
abbrev pub finished : Link → LinkEnd → Ending → Link
finished l e GoesOut = becomes l e
finished l e CutOff = cut (with_controller l (sent_all e))

-- the controller's end has this input, then its node has turns
abbrev pub has_input : Link → LinkInput → List Turn → Ending → Link
has_input l i turns ending =
    finished (with_ended l (is_some (ended_by l.controller.side i))) (turned (after_input l.controller.side i) turns) ending

-- the frame x, which was first on the wire to the controller's end, came there, and these are left
abbrev pub has_taken : Link → OnWire → List OnWire → List Turn → Ending → Link
has_taken l x xs turns ending =
    let m : Link = with_ended (record l { to_controller = xs }) (is_some (ended_by l.controller.side (Take x.frame))) in
    finished (record m { controller = record m.controller { took = took_with l.controller.took x } })
    (turned (after_input l.controller.side (Take x.frame)) turns) ending

-- activation begins anew or ends at the controller's end, which becomes e: both wires are empty
abbrev pub has_restarted : Link → LinkEnd → List Turn → Ending → Link
has_restarted l e turns ending = finished (silent l e) (turned e turns) ending

-- what begins a step of an end
pub data Comes : Type 0 where
  -- the first frame on its way to it; where there is none, nothing happens
  NextFrame : Comes
  -- a reset is asked for, with a window or with the end's own one
  AsksReset : Option ℕ → Comes
  -- activation begins anew there, with the identifier of a UICC or the power code of a CLF: both wires are empty
  Starts : ℕ → Comes
  -- activation ends there: both wires are empty
  Stops : Comes
  -- nothing comes, but its node has turns
  NoInput : Comes

-- why a frame is lost on its way
pub data Loss : Type 0 where
  -- it was to be
  OnDemand : Loss
  -- damage broke it, and it was refused for this, or nothing was read
  Broken : FrameFault → Loss
  Unread : Loss
  -- it was four ticks old at a tick
  TooOld : Loss
  -- it was the first of 65 frames on its wire
  TooMany : Loss

-- what may happen at one end
pub data EndEvent : Type 0 where
  -- something comes, then its node has turns, and the step ends
  Step : Comes → List Turn → Ending → EndEvent
  -- the first frame on its way to it is lost for this; where there is none, nothing happens
  Lose : Loss → EndEvent

-- a step of the controller's end
abbrev pub steps_at_controller : Link → Comes → List Turn → Ending → Link
steps_at_controller l NextFrame turns ending = first l.to_controller where
  first : List OnWire → Link
  first [] = l
  first (x ∷ xs) = has_taken l x xs turns ending
steps_at_controller l (AsksReset window) turns ending = has_input l (Reset window) turns ending
steps_at_controller l (Starts value) turns ending = has_restarted l (started l.controller.side value) turns ending
steps_at_controller l Stops turns ending = has_restarted l (deactivated l.controller.side) turns ending
steps_at_controller l NoInput turns ending = finished l (turned l.controller.side turns) ending

-- it happens at the controller's end
abbrev pub happens_at_controller : Link → EndEvent → Link
happens_at_controller l (Step comes turns ending) = steps_at_controller l comes turns ending
happens_at_controller l (Lose why) = record l { to_controller = drop 1 l.to_controller }

-- these things happen there, one after another
abbrev pub all_at_controller : Link → List EndEvent → Link
all_at_controller l [] = l
all_at_controller l (e ∷ es) = all_at_controller (happens_at_controller l e) es

-- ## Events of the link

-- all frames grow older, and those that were four ticks old already are lost
abbrev pub aged : Link → Link
aged l = record l { to_controller = aged_wire l.to_controller; to_host = aged_wire l.to_host }

-- the controller's end has its tick
abbrev pub ticks_at_controller : Link → List Turn → Ending → Link
ticks_at_controller l turns ending = has_input l Tick turns ending

-- the turns of a node in a step, and how the step ends
pub record Node : Type 0 where
  pub turns : List Turn
  pub ending : Ending

-- what may happen on a link
pub data LinkEvent : Type 0 where
  AtController : EndEvent → LinkEvent
  AtHost : EndEvent → LinkEvent
  -- First all frames grow older, then the controller's end has its tick, then these things happen there, and then the host's
  -- end has its tick. A tick means nothing to an end that is new, as it is while its node is off.
  Ticks : Node → List EndEvent → Node → LinkEvent
  -- The same where these things happen at the controller's end in place of its tick.
  TicksWithout : List EndEvent → Node → LinkEvent
  -- activation begins anew, with the power code of the CLF and the identifier of the UICC: first at the controller's end
  Activate : ℕ → Node → ℕ → Node → LinkEvent

-- it happens on the link
abbrev pub happens : Link → LinkEvent → Link
happens l (AtController e) = happens_at_controller l e
happens l (AtHost e) = exchanged (happens_at_controller (exchanged l) e)
happens l (Ticks c events h) =
    exchanged (ticks_at_controller (exchanged (all_at_controller (ticks_at_controller (aged l) c.turns c.ending) events)) h.turns h.ending)
happens l (TicksWithout events h) = exchanged (ticks_at_controller (exchanged (all_at_controller (aged l) events)) h.turns h.ending)
happens l (Activate power c id h) =
    exchanged (steps_at_controller (exchanged (steps_at_controller l (Starts power) c.turns c.ending)) (Starts id) h.turns h.ending)

-- the link after these events, one after another
abbrev pub after_link_events : Link → List LinkEvent → Link
after_link_events l [] = l
after_link_events l (e ∷ es) = after_link_events (happens l e) es

-- ## What may happen

-- a message that is given is on a pipe that isn't reserved, and not empty
abbrev pub AreSendableTurns : List Turn → Type 0
AreSendableTurns [] = Unit {0}
AreSendableTurns (Give m ∷ ts) = IsSendable m × AreSendableTurns ts
AreSendableTurns (_ ∷ ts) = AreSendableTurns ts

-- the end has activation
abbrev pub IfLine : Role → Type 0
IfLine Bare = ⊥
IfLine (Clf _) = Unit {0}
IfLine (Uicc _) = Unit {0}

-- the end of a controller
abbrev pub IsClf : Role → Type 0
IsClf (Clf _) = Unit {0}
IsClf _ = ⊥

-- the end of a host
abbrev pub IsUicc : Role → Type 0
IsUicc (Uicc _) = Unit {0}
IsUicc _ = ⊥

-- a reset names a window from 1 to 4, or none
abbrev pub IsWindow : Option ℕ → Type 0
IsWindow None = Unit {0}
IsWindow (Some w) = (0 < w) × (w ≤ 4)

-- no node of a bare link loses power
abbrev pub CanEnd : Role → Ending → Type 0
CanEnd role GoesOut = Unit {0}
CanEnd role CutOff = IfLine role

-- Activation may begin at an end with this role while the other has that one. A UICC begins only while the CLF isn't active: so
-- an activation begins with the CLF.
abbrev pub CanStart : Role → Role → Type 0
CanStart Bare far = ⊥
CanStart (Clf _) far = Unit {0}
CanStart (Uicc _) (Clf s) = is_active s.phase ≡ false
CanStart (Uicc _) _ = ⊥

-- this may come to the controller's end
abbrev pub CanCome : Link → Comes → Type 0
CanCome l NextFrame = Unit {0}
CanCome l (AsksReset window) = IsWindow window
CanCome l (Starts value) = CanStart l.controller.side.role l.host.side.role
CanCome l Stops = IfLine l.controller.side.role
CanCome l NoInput = Unit {0}

-- these may be the turns and the ending of a step of the controller's end
abbrev pub IsNode : Link → List Turn → Ending → Type 0
IsNode l turns ending = AreSendableTurns turns × CanEnd l.controller.side.role ending

-- this may happen at the controller's end
abbrev pub IsAllowed : Link → EndEvent → Type 0
IsAllowed l (Step comes turns ending) = CanCome l comes × IsNode l turns ending
IsAllowed l (Lose why) = Unit {0}

-- it is of a node's own: no frame is taken or lost
abbrev pub IsOwn : EndEvent → Type 0
IsOwn (Step NextFrame turns ending) = ⊥
IsOwn (Step _ turns ending) = Unit {0}
IsOwn (Lose why) = ⊥

-- in a tick these may happen at the controller's end
abbrev pub AreOwn : Link → List EndEvent → Type 0
AreOwn l [] = Unit {0}
AreOwn l (e ∷ es) = IsOwn e × IsAllowed l e × AreOwn (happens_at_controller l e) es

-- this may happen on the link; an end that waits has its tick in each tick
abbrev pub IsEvent : Link → LinkEvent → Type 0
IsEvent l (AtController e) = IsAllowed l e
IsEvent l (AtHost e) = IsAllowed (exchanged l) e
IsEvent l (Ticks c events h) =
    let near : Link = ticks_at_controller (aged l) c.turns c.ending in
    IsNode l c.turns c.ending × AreOwn near events × IsNode (exchanged (all_at_controller near events)) h.turns h.ending
IsEvent l (TicksWithout events h) =
    (is_waiting l.controller.side.shdlc ≡ false) × AreOwn (aged l) events × IsNode (exchanged (all_at_controller (aged l) events)) h.turns h.ending
IsEvent l (Activate power c id h) =
    IsClf l.controller.side.role × IsUicc l.host.side.role × IsNode l c.turns c.ending × IsNode (exchanged l) h.turns h.ending

-- all these may happen, one after another
abbrev pub AllAllowed : Link → List LinkEvent → Type 0
AllAllowed l [] = Unit {0}
AllAllowed l (e ∷ es) = IsEvent l e × AllAllowed (happens l e) es
