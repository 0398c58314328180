-- The frames that the ends of a link over fragments put on it, and the messages that they get.
use Rattle.std.specs.Prelude.{ℕ, Bool, true, false, if◌then◌else◌, List, [], ◌∷◌, ◌++◌, length, drop, map, Option, Some, None}
use Rattle.swp_base.specs.declared.control_frames.Control.{Control}
use Rattle.shdlc_core.specs.declared.answers.LinkState.{LinkState}
use Rattle.shdlc_core.specs.declared.answers.LinkState.TheVariants.{Down}
use Rattle.shdlc_core.specs.Machine.{EndState, Fragment, taken, take_answer, ticked, is_waiting, reset_with, frames_of, most_frames}
use Rattle.hcp_packet.specs.Packets.{packets_in, good_of}
use Rattle.hcp_chain.specs.Joining.{are_taken, given_by}
use Rattle.link_laws.specs.sessions.Sessions.{OnWire, ShdlcLink, shdlc_exchanged, shdlc_number_of, ShdlcTurn, shdlc_turned, act_frame, ShdlcEndEvent}
use Rattle.link_laws.specs.sessions.Sessions.{shdlc_happens_at_controller, ShdlcLinkEvent, shdlc_all_at_controller, ticks_or_cut, ticks_if_waiting, shdlc_aged}
use Rattle.link_laws.specs.sessions.Sessions.{shdlc_happens}
use Rattle.link_laws.specs.sessions.Sessions.ShdlcEndEvent.{Turns, Deliver, Ignore, Acts, Lose, Reset, Cut, Stop}
use Rattle.link_laws.specs.sessions.Sessions.ShdlcLinkEvent.{AtController, AtHost, Tick, TickWithout}
use Rattle.tap_reading.specs.Tap.{TapState, TapReport, tap_hears, tap_tells, reports_to}

-- an end that has become e and had its turns puts these frames on the wire
abbrev pub sent_then : EndState → List ShdlcTurn → List Control
sent_then e ts = frames_of most_frames (shdlc_turned e ts)

-- the frames that the controller's end puts on the wire where this happens there
abbrev pub emitted_here : ShdlcLink → ShdlcEndEvent → List Control
emitted_here l (Turns ts) = sent_then l.controller.side ts
emitted_here l (Deliver ts) = first l.to_controller where
  first : List OnWire → List Control
  first [] = []
  first (x ∷ xs) = sent_then (taken l.controller.side x.frame) ts
emitted_here l (Ignore ts) = by_phase l.controller.side.phase l.to_controller where
  by_phase : LinkState → List OnWire → List Control
  by_phase Down (x ∷ xs) = sent_then l.controller.side ts
  by_phase _ _ = []
emitted_here l (Acts acts ts) = map act_frame acts ++ sent_then l.controller.side ts
emitted_here l Lose = []
emitted_here l (Reset w ts) = sent_then (reset_with l.controller.side w) ts
emitted_here l Cut = []
emitted_here l Stop = []

-- the good messages that a fragment brings which is accepted behind these: at most one, and none where it can't be joined
abbrev pub brought_by : List Fragment → Fragment → List (ℕ × List ℕ)
brought_by acc info =
    let joined : List Fragment → List (ℕ × List ℕ) = λ fragments. good_of (given_by [] (packets_in fragments)) in
    if are_taken [] (packets_in (acc ++ info ∷ [])) then drop (length (joined acc)) (joined (acc ++ info ∷ [])) else []

-- the messages that an end gets with a fragment, where it accepts one behind these in the session with this number
abbrev pub got_with : ℕ → List Fragment → Option Fragment → List (ℕ × ℕ × List ℕ)
got_with n acc None = []
got_with n acc (Some info) = map (λ m. (n, m.0, m.1)) (brought_by acc info)

-- the messages that the controller's end gets where this happens there
abbrev pub got_here : ShdlcLink → ShdlcEndEvent → List (ℕ × ℕ × List ℕ)
got_here l (Deliver ts) = first l.to_controller where
  first : List OnWire → List (ℕ × ℕ × List ℕ)
  first [] = []
  first (x ∷ xs) = got_with (shdlc_number_of l.controller) l.controller.side.session.acc (take_answer l.controller.side x.frame).accepted
got_here l _ = []

-- what it puts there as it has its tick
abbrev pub emitted_tick : ShdlcLink → Option (List ShdlcTurn) → List Control
emitted_tick l (Some ts) = sent_then (ticked l.controller.side) ts
emitted_tick l None = []

abbrev pub emitted_if_waiting : ShdlcLink → List Control
emitted_if_waiting l = if is_waiting l.controller.side then emitted_tick l (Some []) else []

-- what it puts there where these things happen there, one after another
abbrev pub emitted_turns : ShdlcLink → List ShdlcEndEvent → List Control
emitted_turns l [] = []
emitted_turns l (e ∷ es) = emitted_here l e ++ emitted_turns (shdlc_happens_at_controller l e) es

-- what it gets then
abbrev pub got_turns : ShdlcLink → List ShdlcEndEvent → List (ℕ × ℕ × List ℕ)
got_turns l [] = []
got_turns l (e ∷ es) = got_here l e ++ got_turns (shdlc_happens_at_controller l e) es

-- the frames of the controller's end, which is the CLF's or not
abbrev pub frames_by : Bool → List Control → List (Bool × Control)
frames_by clf cs = map (λ c. (clf, c)) cs

-- the frames that both ends put on the link, in order, each with whether it is that of the controller's end, the CLF
abbrev pub emitted_event : ShdlcLink → ShdlcLinkEvent → List (Bool × Control)
emitted_event l (AtController e) = frames_by true (emitted_here l e)
emitted_event l (AtHost e) = frames_by false (emitted_here (shdlc_exchanged l) e)
emitted_event l (Tick c turns h) =
    let near : ShdlcLink = ticks_or_cut c (shdlc_aged l) in
    frames_by true (emitted_tick (shdlc_aged l) c ++ emitted_turns near turns)
    ++ frames_by false (emitted_tick (shdlc_exchanged (shdlc_all_at_controller near turns)) h)
emitted_event l (TickWithout turns h) =
    let near : ShdlcLink = ticks_if_waiting (shdlc_aged l) in
    frames_by true (emitted_if_waiting (shdlc_aged l) ++ emitted_turns near turns)
    ++ frames_by false (emitted_tick (shdlc_exchanged (shdlc_all_at_controller near turns)) h)

-- the messages that both ends get
abbrev pub got_event : ShdlcLink → ShdlcLinkEvent → List TapReport
got_event l (AtController e) = reports_to true (got_here l e)
got_event l (AtHost e) = reports_to false (got_here (shdlc_exchanged l) e)
got_event l (Tick c turns h) = []
got_event l (TickWithout turns h) = []

-- over these events, one after another
abbrev pub emitted : ShdlcLink → List ShdlcLinkEvent → List (Bool × Control)
emitted l [] = []
emitted l (e ∷ es) = emitted_event l e ++ emitted (shdlc_happens l e) es

abbrev pub got : ShdlcLink → List ShdlcLinkEvent → List TapReport
got l [] = []
got l (e ∷ es) = got_event l e ++ got (shdlc_happens l e) es

-- no node loses power where this happens at its end
abbrev pub KeepsPower : ShdlcEndEvent → Type 0
KeepsPower Cut = ⊥
KeepsPower _ = Unit {0}

abbrev pub AllKeepPower : List ShdlcEndEvent → Type 0
AllKeepPower [] = Unit {0}
AllKeepPower (e ∷ es) = KeepsPower e × AllKeepPower es

abbrev pub HasItsTick : Option (List ShdlcTurn) → Type 0
HasItsTick None = ⊥
HasItsTick (Some ts) = Unit {0}

-- no node loses power in these events
abbrev pub NoneIsCut : List ShdlcLinkEvent → Type 0
NoneIsCut [] = Unit {0}
NoneIsCut (AtController e ∷ es) = KeepsPower e × NoneIsCut es
NoneIsCut (AtHost e ∷ es) = KeepsPower e × NoneIsCut es
NoneIsCut (Tick c turns h ∷ es) = HasItsTick c × AllKeepPower turns × HasItsTick h × NoneIsCut es
NoneIsCut (TickWithout turns h ∷ es) = AllKeepPower turns × HasItsTick h × NoneIsCut es

-- ## What the tap hears of it

-- what was heard after these frames of the CLF, one after another
abbrev pub hears_all : Bool → TapState → List Control → TapState
hears_all bare t [] = t
hears_all bare t (c ∷ cs) = hears_all bare (tap_hears bare t c) cs

-- what they tell
abbrev pub tells_all : Bool → TapState → List Control → List (ℕ × ℕ × List ℕ)
tells_all bare t [] = []
tells_all bare t (c ∷ cs) = tap_tells bare t c ++ tells_all bare (tap_hears bare t c) cs
