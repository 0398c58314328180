-- Where nothing kept the answer to a reset back, and nothing is on its way but frames of activation, both ends are up together.
use Rattle.std.specs.Prelude.{◌≡◌, ℕ, Bool, true, false, not, List, [], ◌∷◌, ◌++◌, Some, None}
use Rattle.std.specs.List.{list_any}
use Rattle.shdlc_core.specs.Machine.{is_waiting}
use Rattle.link_laws.specs.machine.Machine.{is_open, reset_refusal}
use Rattle.link_laws.specs.places.Wire.{is_act, sans}
use Rattle.link_laws.specs.sessions.Sessions.{is_rset}
use Rattle.link_laws.specs.messages.Links.{Link, LinkEvent, exchanged, aged, all_at_controller, happens_at_controller, happens}
use Rattle.link_laws.specs.messages.Links.Ending.{GoesOut}
use Rattle.link_laws.specs.messages.Links.Comes.{AsksReset}
use Rattle.link_laws.specs.messages.Links.EndEvent.{Step}
use Rattle.link_laws.specs.messages.Links.LinkEvent.{AtController, AtHost, TicksWithout}
use Rattle.link_laws.specs.entries.Entries.{Entry, entries_of_events, tick_entries, entries}
use Rattle.link_laws.specs.entries.Entries.End.{Controller, Host}
use Rattle.link_laws.specs.entries.Reading.{nothing_seen, see_all}
use Rattle.link_laws.specs.entries.Sessions.{session_in}
use Rattle.link_laws.specs.entries.Entries.Entry.{Emit, Lost, Restarted, Cut}

-- a frame is lost that isn't of activation, RSET is put on the link, or an end is started, stopped or cut off, which empties both wires
abbrev pub withholds : Entry → Bool
withholds (Lost who frame why) = not (is_act frame)
withholds (Emit who frame) = is_rset frame
withholds (Restarted who) = true
withholds (Cut who) = true
withholds _ = false

-- a reset that is asked for at the controller's end is not refused, and finds the other end active and not waiting
pub record FindsReady (l : Link) : Type 0 where
  pub granted : reset_refusal l.controller.side ≡ None
  pub active : is_open l.host.side.role ≡ true
  pub free : is_waiting l.host.side.shdlc ≡ false

-- such a reset is asked for at an end, or at the controller's in place of its tick
abbrev pub IsReset : Link → LinkEvent → Type 0
IsReset l (AtController (Step (AsksReset window) turns GoesOut)) = FindsReady l
IsReset l (AtHost (Step (AsksReset window) turns GoesOut)) = FindsReady (exchanged l)
IsReset l (TicksWithout (Step (AsksReset window) turns GoesOut ∷ events) node) = FindsReady l
IsReset l _ = ⊥

-- what is noted behind it in its event
abbrev pub rest_of : Link → LinkEvent → List Entry
rest_of l (TicksWithout (reset ∷ events) node) =
    let m : Link = happens_at_controller (aged l) reset in
    entries_of_events Controller m events ++ tick_entries Host (exchanged (all_at_controller m events)) node
rest_of l _ = []

-- t is all that is noted of a link up to now. Where l is the link before a reset, which was such a one, nothing that was noted behind
-- it withholds its answer, and now both wires hold no frames but of activation.
pub record IsSettledSince (t : List Entry) (l : Link) (reset : LinkEvent) (behind : List LinkEvent) : Type 0 where
  pub asked : IsReset l reset
  pub undisturbed : list_any withholds (rest_of l reset ++ entries (happens l reset) behind) ≡ false
  pub to_controller : sans (see_all nothing_seen t).to_controller ≡ []
  pub to_host : sans (see_all nothing_seen t).to_host ≡ []

-- both ends are up with one number, as it is noted
pub record AreNotedUpTogether (t : List Entry) : Type 0 where
  pub number : ℕ
  pub controller : session_in t Controller ≡ Some number
  pub host : session_in t Host ≡ Some number
