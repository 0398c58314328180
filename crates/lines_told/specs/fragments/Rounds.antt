-- Rounds of a link. In each all frames that stand on the wire to the controller's end are taken, then all that stand on the wire to
-- the host's end, and then time passes once. In between the nodes have their turns.
use Rattle.std.specs.Prelude.{◌≡◌, ℕ, zero, suc, ◌+◌, ◌-◌, ◌≤◌, true, false, List, [], ◌∷◌, ◌++◌, length, Some}
use mathlib.Core.List.{IsPrefix}
use Rattle.shdlc_core.specs.declared.answers.LinkState.TheVariants.{Up}
use Rattle.shdlc_core.specs.Machine.{Session}
use Rattle.link_laws.specs.sessions.Losses.{no_losses, noted_event}
use Rattle.link_laws.specs.sessions.Sessions.{ShdlcLink, ShdlcEndEvent, ShdlcLinkEvent, shdlc_happens, shdlc_after}
use Rattle.link_laws.specs.sessions.Sessions.ShdlcEndEvent.{Turns, Deliver, Acts, Lose}
use Rattle.link_laws.specs.sessions.Sessions.ShdlcLinkEvent.{AtController, AtHost, Tick}

-- ## What happens in a round

-- An end takes a frame, its node has turns, or frames of activation go out. One of these that comes leaves its wire as one that is lost.
abbrev pub IsOrdinary : ShdlcEndEvent → Type 0
IsOrdinary (Turns ts) = Unit {0}
IsOrdinary (Deliver ts) = Unit {0}
IsOrdinary (Acts acts ts) = Unit {0}
IsOrdinary Lose = Unit {0}
IsOrdinary _ = ⊥

-- in a tick nothing is taken
abbrev pub AreOrdinaryTurns : List ShdlcEndEvent → Type 0
AreOrdinaryTurns [] = Unit {0}
AreOrdinaryTurns (Turns ts ∷ es) = AreOrdinaryTurns es
AreOrdinaryTurns (Acts acts ts ∷ es) = AreOrdinaryTurns es
AreOrdinaryTurns (_ ∷ es) = ⊥

-- where time passes each end has its tick
abbrev pub IsOrdinaryEvent : ShdlcLinkEvent → Type 0
IsOrdinaryEvent (AtController e) = IsOrdinary e
IsOrdinaryEvent (AtHost e) = IsOrdinary e
IsOrdinaryEvent (Tick (Some ts) turns (Some us)) = AreOrdinaryTurns turns
IsOrdinaryEvent _ = ⊥

abbrev pub AllOrdinary : List ShdlcLinkEvent → Type 0
AllOrdinary [] = Unit {0}
AllOrdinary (e ∷ es) = IsOrdinaryEvent e × AllOrdinary es

-- ## How much happens

-- how many frames leave the wire to an end
abbrev pub taken_here : ShdlcEndEvent → ℕ
taken_here (Deliver ts) = 1
taken_here Lose = 1
taken_here _ = 0

abbrev pub taken_at_controller : List ShdlcLinkEvent → ℕ
taken_at_controller [] = 0
taken_at_controller (AtController e ∷ es) = taken_here e + taken_at_controller es
taken_at_controller (_ ∷ es) = taken_at_controller es

abbrev pub taken_at_host : List ShdlcLinkEvent → ℕ
taken_at_host [] = 0
taken_at_host (AtHost e ∷ es) = taken_here e + taken_at_host es
taken_at_host (_ ∷ es) = taken_at_host es

-- how often time passes
abbrev pub ticks_among : List ShdlcLinkEvent → ℕ
ticks_among [] = 0
ticks_among (Tick c turns h ∷ es) = 1 + ticks_among es
ticks_among (_ ∷ es) = ticks_among es

-- so many frames are taken at either end, and time passes so often
pub record IsStretch (events : List ShdlcLinkEvent) (controller host ticks : ℕ) : Type 0 where
  pub ordinary : AllOrdinary events
  pub at_controller : taken_at_controller events ≡ controller
  pub at_host : taken_at_host events ≡ host
  pub ticked : ticks_among events ≡ ticks

-- a round
pub record IsRound (l : ShdlcLink) (events : List ShdlcLinkEvent) : Type 0 where
  pub first : List ShdlcLinkEvent
  pub second : List ShdlcLinkEvent
  pub third : List ShdlcLinkEvent
  pub parts : events ≡ first ++ (second ++ third)
  pub to_controller : IsStretch first (length l.to_controller) 0 0
  pub to_host : IsStretch second 0 (length (shdlc_after l first).to_host) 0
  pub ticks : IsStretch third 0 0 1

-- so many rounds, one after another
abbrev pub AreRounds : ℕ → ShdlcLink → List ShdlcLinkEvent → Type 0
AreRounds zero l events = events ≡ []
AreRounds (suc n) l events =
    (first : List ShdlcLinkEvent) × (rest : List ShdlcLinkEvent) × (events ≡ first ++ rest) × IsRound l first × AreRounds n (shdlc_after l first) rest

-- ## What is asked of them

-- both ends are up and take fragments
pub record BothTakeFragments (l : ShdlcLink) : Type 0 where
  pub controller_up : l.controller.side.phase ≡ Up
  pub host_up : l.host.side.phase ≡ Up
  pub controller_ready : l.controller.side.ready ≡ true
  pub host_ready : l.host.side.ready ≡ true

-- at each moment both ends are up and ready, and no frame is lost but of activation
abbrev pub AreUndisturbed : ShdlcLink → List ShdlcLinkEvent → Type 0
AreUndisturbed l [] = BothTakeFragments l
AreUndisturbed l (e ∷ es) = BothTakeFragments l × ((noted_event no_losses l e).lost ≡ false) × AreUndisturbed (shdlc_happens l e) es

-- ## What comes of them

-- how many fragments an end has to deliver still
abbrev pub undelivered : Session → ℕ
undelivered s = length s.out - s.acked

-- how many fragments both ends of a link have to deliver still
abbrev pub to_deliver : ShdlcLink → ℕ
to_deliver l = undelivered l.controller.side.session + undelivered l.host.side.session

-- All that a sender was given before was accepted at the other end and is acknowledged; what it was given since stands behind it.
pub record EarlierDelivered (before sender receiver : Session) : Type 0 where
  pub given : IsPrefix before.out sender.out
  pub accepted : IsPrefix before.out receiver.acc
  pub acked : length before.out ≤ sender.acked
