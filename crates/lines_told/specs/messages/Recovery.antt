-- Rounds of a link over messages, and what they do for the messages that were sent before them.
use Rattle.std.specs.Prelude.{◌≡◌, ℕ, zero, suc, ◌+◌, ◌≤◌, List, [], ◌∷◌, ◌++◌, length}
use Rattle.hcp_packet.specs.Packets.{good_of, IsFrontOf}
use Rattle.link_laws.specs.places.Wire.{OnWire}
use Rattle.lines_told.specs.fragments.Rounds.{AreUndisturbed, to_deliver}
use Rattle.link_laws.specs.machine.Machine.{messages_got, whole_among}
use Rattle.link_laws.specs.messages.Links.{Talk, Link, EndEvent, LinkEvent, exchanged, happens, after_link_events}
use Rattle.link_laws.specs.messages.Links.Ending.{GoesOut}
use Rattle.link_laws.specs.messages.Links.Comes.{NextFrame, NoInput}
use Rattle.link_laws.specs.messages.Links.EndEvent.{Step}
use Rattle.link_laws.specs.messages.Links.LinkEvent.{AtController, AtHost, Ticks}
use Rattle.link_laws.specs.messages.Projection.{core_of, core_events}

-- ## What happens in a round

-- an end takes a frame, or its node has turns
abbrev pub IsOrdinaryStep : EndEvent → Type 0
IsOrdinaryStep (Step NextFrame turns GoesOut) = Unit {0}
IsOrdinaryStep (Step NoInput turns GoesOut) = Unit {0}
IsOrdinaryStep _ = ⊥

-- in a tick nothing is taken
abbrev pub AreOrdinaryOwn : List EndEvent → Type 0
AreOrdinaryOwn [] = Unit {0}
AreOrdinaryOwn (Step NoInput turns GoesOut ∷ es) = AreOrdinaryOwn es
AreOrdinaryOwn (_ ∷ es) = ⊥

-- where time passes each end has its tick
abbrev pub IsOrdinaryOnLink : LinkEvent → Type 0
IsOrdinaryOnLink (AtController e) = IsOrdinaryStep e
IsOrdinaryOnLink (AtHost e) = IsOrdinaryStep e
IsOrdinaryOnLink (Ticks c es h) = (c.ending ≡ GoesOut) × AreOrdinaryOwn es × (h.ending ≡ GoesOut)
IsOrdinaryOnLink _ = ⊥

abbrev pub AllOrdinaryOnLink : List LinkEvent → Type 0
AllOrdinaryOnLink [] = Unit {0}
AllOrdinaryOnLink (e ∷ es) = IsOrdinaryOnLink e × AllOrdinaryOnLink es

-- ## How much happens

-- how many frames come to the controller's end
abbrev pub come_here : Link → EndEvent → ℕ
come_here l (Step NextFrame turns ending) = by_wire l.to_controller where
  by_wire : List OnWire → ℕ
  by_wire [] = 0
  by_wire (x ∷ xs) = 1
come_here l _ = 0

abbrev pub come_to_controller : Link → List LinkEvent → ℕ
come_to_controller l [] = 0
come_to_controller l (AtController e ∷ es) = come_here l e + come_to_controller (happens l (AtController e)) es
come_to_controller l (e ∷ es) = come_to_controller (happens l e) es

abbrev pub come_to_host : Link → List LinkEvent → ℕ
come_to_host l [] = 0
come_to_host l (AtHost e ∷ es) = come_here (exchanged l) e + come_to_host (happens l (AtHost e)) es
come_to_host l (e ∷ es) = come_to_host (happens l e) es

-- how often time passes
abbrev pub times_among : List LinkEvent → ℕ
times_among [] = 0
times_among (Ticks c es h ∷ later) = 1 + times_among later
times_among (_ ∷ later) = times_among later

-- so many frames come to either end, and time passes so often
pub record IsLinkStretch (l : Link) (events : List LinkEvent) (controller host times : ℕ) : Type 0 where
  pub ordinary : AllOrdinaryOnLink events
  pub at_controller : come_to_controller l events ≡ controller
  pub at_host : come_to_host l events ≡ host
  pub passes : times_among events ≡ times

-- a round: all that stands on the wire to the controller's end comes there, then all that stands on the wire to the host's, then
-- time passes once
pub record IsLinkRound (l : Link) (events : List LinkEvent) : Type 0 where
  pub first : List LinkEvent
  pub second : List LinkEvent
  pub third : List LinkEvent
  pub parts : events ≡ first ++ (second ++ third)
  pub to_controller : IsLinkStretch l first (length l.to_controller) 0 0
  pub to_host : IsLinkStretch (after_link_events l first) second 0 (length (after_link_events l first).to_host) 0
  pub time : IsLinkStretch (after_link_events (after_link_events l first) second) third 0 0 1

-- so many rounds, one after another
abbrev pub AreLinkRounds : ℕ → Link → List LinkEvent → Type 0
AreLinkRounds zero l events = events ≡ []
AreLinkRounds (suc n) l events =
    (first : List LinkEvent) × (rest : List LinkEvent) × (events ≡ first ++ rest) × IsLinkRound l first × AreLinkRounds n (after_link_events l first) rest

-- ## What is asked of them, and what comes of them

-- at each moment both ends are up and ready, and no frame is lost but of activation: seen on the link over fragments, frame by frame
abbrev pub IsLinkUndisturbed : Link → List LinkEvent → Type 0
IsLinkUndisturbed l events = AreUndisturbed (core_of l) (core_events l events)

-- how many fragments of the messages sent both ways aren't acknowledged
abbrev pub fragments_left : Link → ℕ
fragments_left l = to_deliver (core_of l)

-- the good messages that a sender was given before were got at the other end, and all that it was given before are acknowledged
pub record EarlierGot (before sender receiver : Talk) : Type 0 where
  pub got : IsFrontOf (good_of before.sent) (messages_got receiver.session)
  pub acked : length before.sent ≤ whole_among sender.sent sender.session.acked
