-- A new session in which only the two nodes have their turns, frames are taken and time passes, and what goes on then.
use Rattle.std.specs.Prelude.{◌≡◌, ℕ, ◌<◌, ◌≤◌, false, List, [], ◌∷◌, Some}
use mathlib.Core.List.{IsPrefix}
use Rattle.shdlc_core.specs.declared.answers.LinkState.TheVariants.{Up}
use Rattle.shdlc_core.specs.Machine.{EndState, new_session}
use Rattle.link_laws.specs.sessions.Losses.{no_losses, losses_after}
use Rattle.link_laws.specs.sessions.Sessions.{NumberedShdlc, ShdlcLink, shdlc_number_of, ShdlcEndEvent, ShdlcLinkEvent}
use Rattle.link_laws.specs.sessions.Sessions.ShdlcEndEvent.{Turns, Deliver}
use Rattle.link_laws.specs.sessions.Sessions.ShdlcLinkEvent.{AtController, AtHost, Tick}

-- the end has a new session, and sent and took nothing in it
pub record IsAnew (e : EndState) : Type 0 where
  pub up : e.phase ≡ Up
  pub due : e.due ≡ []
  pub timer : e.timer ≡ 0
  pub tries : e.tries ≡ 0
  pub window : ℕ
  pub fits : (0 < window) × (window ≤ 4)
  pub session : e.session ≡ new_session window

-- so have both ends, and nothing is on its way
pub record BeginsAnew (l : ShdlcLink) : Type 0 where
  pub controller : IsAnew l.controller.side
  pub host : IsAnew l.host.side
  pub to_controller : l.to_controller ≡ []
  pub to_host : l.to_host ≡ []

-- the node of an end has turns, and nothing else happens there
abbrev pub OnlyTurns : List ShdlcEndEvent → Type 0
OnlyTurns [] = Unit {0}
OnlyTurns (Turns ts ∷ es) = OnlyTurns es
OnlyTurns (_ ∷ es) = ⊥

-- an end takes a frame, or its node has turns; where time passes each end has its tick, the controller's with turns behind it
abbrev pub IsPlainHere : ShdlcEndEvent → Type 0
IsPlainHere (Turns ts) = Unit {0}
IsPlainHere (Deliver ts) = Unit {0}
IsPlainHere _ = ⊥

abbrev pub IsPlainEvent : ShdlcLinkEvent → Type 0
IsPlainEvent (AtController e) = IsPlainHere e
IsPlainEvent (AtHost e) = IsPlainHere e
IsPlainEvent (Tick (Some ts) turns (Some us)) = OnlyTurns turns
IsPlainEvent _ = ⊥

abbrev pub AllPlain : List ShdlcLinkEvent → Type 0
AllPlain [] = Unit {0}
AllPlain (e ∷ es) = IsPlainEvent e × AllPlain es

-- At no moment of these events a frame was lost. It is asked at each, since what was lost in a session doesn't count in the next one.
abbrev pub LosesNone : ShdlcLink → List ShdlcLinkEvent → Type 0
LosesNone l events = (front : List ShdlcLinkEvent) → IsPrefix front events → (losses_after no_losses l front).lost ≡ false

-- the end is up in the same session as before, and no other has ended
pub record GoesOn (before now : NumberedShdlc) : Type 0 where
  pub up : now.side.phase ≡ Up
  pub number : shdlc_number_of now ≡ shdlc_number_of before
  pub past : now.past ≡ before.past
