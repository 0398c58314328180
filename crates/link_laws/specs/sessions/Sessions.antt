-- Two ends of one bare link and the two wires between them, over resets: sessions have the numbers of the RSETs that began
-- them. A wire is first in first out; any frame on it may be lost, and none lives longer than four ticks.
use Rattle.std.specs.Prelude.{ℕ, ◌+◌, ◌==◌, ◌<◌, ◌≤◌, Bool, true, false, if◌then◌else◌, List, [], ◌∷◌, ◌++◌, drop, map, is_some, max, Option, Some, None}
use Rattle.swp_base.specs.declared.control_frames.Control.{Control}
use Rattle.swp_base.specs.declared.control_frames.Control.TheVariants.{Act as ActFrame}
use Rattle.swp_base.specs.declared.control_frames.Act.{Act}
use Rattle.shdlc_core.specs.declared.answers.LinkState.{LinkState}
use Rattle.shdlc_core.specs.declared.answers.LinkState.TheVariants.{Down, Waiting, Up}
use Rattle.shdlc_core.specs.Machine.{EndState, Session, Fragment, new_end, no_session, begun, put_out, taken, take_answer, ticked, tick_answer, is_waiting}
use Rattle.shdlc_core.specs.Machine.{with_ready, reset_with, stopped, frames_of, after_frames, most_frames}
use Rattle.link_laws.specs.places.Wire.{with_frame}
pub use Rattle.link_laws.specs.places.Wire.{OnWire, is_rset, fits, older, aged_wire}

-- one end, with the greatest numbers of RSETs that it has sent and taken, and its ended sessions with their numbers
pub record NumberedShdlc : Type 0 where
  pub side : EndState
  pub emitted : ℕ
  pub took : ℕ
  pub past : List (ℕ × Session)

pub record ShdlcLink : Type 0 where
  pub controller : NumberedShdlc
  pub host : NumberedShdlc
  -- the frames on their way to each end, the one put first in front
  pub to_controller : List OnWire
  pub to_host : List OnWire
  -- how many RSETs were put on the link
  pub resets : ℕ

-- an end that comes up has the greatest number that it has sent or taken
abbrev pub shdlc_number_of : NumberedShdlc → ℕ
shdlc_number_of h = max h.emitted h.took

-- the ended session with a number
abbrev pub ended_session : List (ℕ × Session) → ℕ → Session
ended_session [] n = no_session
ended_session (x ∷ xs) n = if n == x.0 then x.1 else ended_session xs n

-- the session with a number, while it lasts or as it ended; one without fragments where the end had none
abbrev pub shdlc_session_of : NumberedShdlc → ℕ → Session
shdlc_session_of h n = by_phase h.side.phase where
  by_phase : LinkState → Session
  by_phase Up = if n == shdlc_number_of h then h.side.session else ended_session h.past n
  by_phase Waiting = ended_session h.past n
  by_phase Down = ended_session h.past n

-- an end that sent and took no RSET yet
abbrev pub new_numbered_shdlc : EndState → NumberedShdlc
new_numbered_shdlc e = record { side = e; emitted = 0; took = 0; past = [] }

-- two such ends, and nothing on the wires
abbrev pub bare : EndState → ShdlcLink
bare e = record { controller = new_numbered_shdlc e; host = new_numbered_shdlc e; to_controller = []; to_host = []; resets = 0 }

-- both ends are Up from the start, in session 0
abbrev pub start : ShdlcLink
start = bare (begun (new_end 4))

-- both ends are Down from the start
abbrev pub start_down : ShdlcLink
start_down = bare (new_end 4)

-- how a link begins
pub data IsShdlcStart : ShdlcLink → Type 0 where
  BothUp : IsShdlcStart start
  BothDown : IsShdlcStart start_down

abbrev pub shdlc_exchanged : ShdlcLink → ShdlcLink
shdlc_exchanged l =
    record l { controller = l.host; host = l.controller; to_controller = l.to_host; to_host = l.to_controller }

-- the controller's end puts a frame on the wire to the host. The RSETs of a link are numbered from 1 as they are put on it
abbrev pub shdlc_put : ShdlcLink → Control → ShdlcLink
shdlc_put l c = by_kind (is_rset c) where
  by_kind : Bool → ShdlcLink
  by_kind true =
      record l {
        to_host = fits (l.to_host ++ record { frame = c; age = 0; number = l.resets + 1 } ∷ []);
        controller = record l.controller { emitted = l.resets + 1 };
        resets = l.resets + 1;
      }
  by_kind false = record l { to_host = fits (with_frame l.to_host c) }

abbrev pub shdlc_put_all : ShdlcLink → List Control → ShdlcLink
shdlc_put_all l [] = l
shdlc_put_all l (c ∷ cs) = shdlc_put_all (shdlc_put l c) cs

abbrev pub with_shdlc_controller : ShdlcLink → EndState → ShdlcLink
with_shdlc_controller l e = record l { controller = record l.controller { side = e } }

-- the controller's end has become e, and puts all frames that are due then on the wire, in its order
abbrev pub shdlc_becomes : ShdlcLink → EndState → ShdlcLink
shdlc_becomes l e = with_shdlc_controller (shdlc_put_all l (frames_of most_frames e)) (after_frames most_frames e)

-- what the turns of a node give to its end before its frames go out
pub data ShdlcTurn : Type 0 where
  -- fragments to send; an end that isn't Up takes none
  Offer : List Fragment → ShdlcTurn
  -- it takes fragments from now on, or takes none
  SetReady : Bool → ShdlcTurn

abbrev pub shdlc_turn : EndState → ShdlcTurn → EndState
shdlc_turn e (Offer fragments) = if_up e.phase where
  if_up : LinkState → EndState
  if_up Up = put_out e fragments
  if_up Waiting = e
  if_up Down = e
shdlc_turn e (SetReady ready) = with_ready e ready

abbrev pub shdlc_turned : EndState → List ShdlcTurn → EndState
shdlc_turned e [] = e
shdlc_turned e (t ∷ ts) = shdlc_turned (shdlc_turn e t) ts

-- the session that goes on at the controller's end has ended: it is kept as it stands
abbrev pub with_shdlc_ended : ShdlcLink → Bool → ShdlcLink
with_shdlc_ended l false = l
with_shdlc_ended l true =
    record l { controller = record l.controller { past = (shdlc_number_of l.controller, l.controller.side.session) ∷ l.controller.past } }

abbrev pub act_frame : Act → Control
act_frame act = ActFrame act false

-- What may happen at one end. Where there are turns, its frames go out after them.
pub data ShdlcEndEvent : Type 0 where
  -- its node has turns
  Turns : List ShdlcTurn → ShdlcEndEvent
  -- it takes the first frame on its way to it
  Deliver : List ShdlcTurn → ShdlcEndEvent
  -- it is inactive, and so Down: it takes that frame and stays as it is, but the number of an RSET counts
  Ignore : List ShdlcTurn → ShdlcEndEvent
  -- frames of activation go out
  Acts : List Act → List ShdlcTurn → ShdlcEndEvent
  -- that frame is lost
  Lose : ShdlcEndEvent
  -- a reset is asked for, with this window
  Reset : ℕ → List ShdlcTurn → ShdlcEndEvent
  -- its node loses power: the end is as new and both wires are empty, while the other end goes on
  Cut : ShdlcEndEvent
  -- activation begins anew: the end is Down, and both wires are empty
  Stop : ShdlcEndEvent

-- a reset names a window from 1 to 4
abbrev pub IsShdlcAllowed : ShdlcEndEvent → Type 0
IsShdlcAllowed (Reset w ts) = (0 < w) × (w ≤ 4)
IsShdlcAllowed _ = Unit {0}

-- the controller's end has become e, which is Down, and nothing stands on either wire
abbrev pub shdlc_silent : ShdlcLink → EndState → ShdlcLink
shdlc_silent l e = by_phase l.controller.side.phase where
  emptied : ShdlcLink → ShdlcLink
  emptied m = record m { controller = record m.controller { side = e }; to_controller = []; to_host = [] }

  by_phase : LinkState → ShdlcLink
  by_phase Up = emptied (with_shdlc_ended l true)
  by_phase Waiting = emptied l
  by_phase Down = emptied l

-- the number that an end has taken, with this frame
abbrev pub took_with : ℕ → OnWire → ℕ
took_with t x = if is_rset x.frame then max t x.number else t

abbrev pub is_up : LinkState → Bool
is_up Up = true
is_up Waiting = false
is_up Down = false

-- it happens at the controller's end
abbrev pub shdlc_happens_at_controller : ShdlcLink → ShdlcEndEvent → ShdlcLink
shdlc_happens_at_controller l (Turns ts) = shdlc_becomes l (shdlc_turned l.controller.side ts)
shdlc_happens_at_controller l (Deliver ts) = first l.to_controller where
  first : List OnWire → ShdlcLink
  first [] = l
  first (x ∷ xs) =
      let m : ShdlcLink = with_shdlc_ended (record l { to_controller = xs }) (is_some (take_answer l.controller.side x.frame).ended) in
      shdlc_becomes (record m { controller = record m.controller { took = took_with l.controller.took x } }) (shdlc_turned (taken l.controller.side x.frame) ts)
shdlc_happens_at_controller l (Ignore ts) = by_phase l.controller.side.phase l.to_controller where
  by_phase : LinkState → List OnWire → ShdlcLink
  by_phase Down (x ∷ xs) =
      shdlc_becomes (record l { to_controller = xs; controller = record l.controller { took = took_with l.controller.took x } })
      (shdlc_turned l.controller.side ts)
  by_phase _ _ = l
shdlc_happens_at_controller l (Acts acts ts) = shdlc_becomes (shdlc_put_all l (map act_frame acts)) (shdlc_turned l.controller.side ts)
shdlc_happens_at_controller l Lose = record l { to_controller = drop 1 l.to_controller }
shdlc_happens_at_controller l (Reset w ts) =
    shdlc_becomes (with_shdlc_ended l (is_up l.controller.side.phase)) (shdlc_turned (reset_with l.controller.side w) ts)
shdlc_happens_at_controller l Cut = shdlc_silent l (new_end 4)
shdlc_happens_at_controller l Stop = shdlc_silent l (stopped l.controller.side)

-- the controller's end has its tick
abbrev pub shdlc_ticks_at_controller : ShdlcLink → List ShdlcTurn → ShdlcLink
shdlc_ticks_at_controller l ts = shdlc_becomes (with_shdlc_ended l (is_some (tick_answer l.controller.side).ended)) (shdlc_turned (ticked l.controller.side) ts)

-- a tick makes each frame older by one, and those that were four ticks old already are lost
abbrev pub shdlc_aged : ShdlcLink → ShdlcLink
shdlc_aged l = record l { to_controller = aged_wire l.to_controller; to_host = aged_wire l.to_host }

-- what may happen on a link
pub data ShdlcLinkEvent : Type 0 where
  AtController : ShdlcEndEvent → ShdlcLinkEvent
  AtHost : ShdlcEndEvent → ShdlcLinkEvent
  -- First all frames grow older, then the controller's end has its tick with these turns; then these things happen there, and
  -- then the host's end has its tick. A node that loses power before the frames of its tick go out has none.
  Tick : Option (List ShdlcTurn) → List ShdlcEndEvent → Option (List ShdlcTurn) → ShdlcLinkEvent
  -- The same where these things happen at the controller's end in place of its tick. One that waits has its tick all the same.
  TickWithout : List ShdlcEndEvent → Option (List ShdlcTurn) → ShdlcLinkEvent

-- the controller's end has its tick, or loses power in it
abbrev pub ticks_or_cut : Option (List ShdlcTurn) → ShdlcLink → ShdlcLink
ticks_or_cut (Some ts) l = shdlc_ticks_at_controller l ts
ticks_or_cut None l = shdlc_silent l (new_end 4)

-- the controller's end has its tick where it waits
abbrev pub ticks_if_waiting : ShdlcLink → ShdlcLink
ticks_if_waiting l = if is_waiting l.controller.side then shdlc_ticks_at_controller l [] else l

-- what a node's turns may do to an end: no frame is taken or lost
abbrev pub IsTurn : ShdlcEndEvent → Type 0
IsTurn (Deliver ts) = ⊥
IsTurn (Ignore ts) = ⊥
IsTurn Lose = ⊥
IsTurn e = IsShdlcAllowed e

abbrev pub AreTurns : List ShdlcEndEvent → Type 0
AreTurns [] = Unit {0}
AreTurns (e ∷ es) = IsTurn e × AreTurns es

abbrev pub shdlc_all_at_controller : ShdlcLink → List ShdlcEndEvent → ShdlcLink
shdlc_all_at_controller l [] = l
shdlc_all_at_controller l (e ∷ es) = shdlc_all_at_controller (shdlc_happens_at_controller l e) es

abbrev pub AllShdlcAllowed : List ShdlcLinkEvent → Type 0
AllShdlcAllowed [] = Unit {0}
AllShdlcAllowed (AtController e ∷ es) = IsShdlcAllowed e × AllShdlcAllowed es
AllShdlcAllowed (AtHost e ∷ es) = IsShdlcAllowed e × AllShdlcAllowed es
AllShdlcAllowed (Tick c turns h ∷ es) = AreTurns turns × AllShdlcAllowed es
AllShdlcAllowed (TickWithout turns h ∷ es) = AreTurns turns × AllShdlcAllowed es

abbrev pub shdlc_happens : ShdlcLink → ShdlcLinkEvent → ShdlcLink
shdlc_happens l (AtController e) = shdlc_happens_at_controller l e
shdlc_happens l (AtHost e) = shdlc_exchanged (shdlc_happens_at_controller (shdlc_exchanged l) e)
shdlc_happens l (Tick c turns h) = shdlc_exchanged (ticks_or_cut h (shdlc_exchanged (shdlc_all_at_controller (ticks_or_cut c (shdlc_aged l)) turns)))
shdlc_happens l (TickWithout turns h) = shdlc_exchanged (ticks_or_cut h (shdlc_exchanged (shdlc_all_at_controller (ticks_if_waiting (shdlc_aged l)) turns)))

-- the link after these events, one after another
abbrev pub shdlc_after : ShdlcLink → List ShdlcLinkEvent → ShdlcLink
shdlc_after l [] = l
shdlc_after l (e ∷ es) = shdlc_after (shdlc_happens l e) es
