-- A turn of a message, as a node decides on it.
use Rattle.std.specs.Prelude.{◌≡◌, ◌≢◌, ℕ, ◌+◌, ◌≤◌, Bool, List, [], ◌∷◌, map, length, Option, Some, option_map}
use Rattle.std.specs.List.{AllByRecursion}
use Rattle.link_laws.specs.messages.Links.{IsClf, IsUicc}
use Rattle.node_machine.specs.Parts.{Core, Port, Work}
use Rattle.node_machine.specs.Carrying.{port_at, needs, lack}
use Rattle.node_machine.specs.Turns.{deeds_of}
use Rattle.node_deeds.specs.declared.deeds.Deed.{Deed}
use Rattle.node_deeds.specs.declared.room.Shortfall.{Shortfall}
use Rattle.node_deeds.specs.Room.{lack_shown}
use Rattle.node_deeds.specs.Shown.{Handling, deeds_shown}
use Rattle.node_ends.specs.Ends.{AreOfHosts, FewAreDue, held_at}
use Rattle.node_ends.specs.Desks.{IsYoung}
use Rattle.node_core.specs.Deeds.{IsOnTask, AreDoableInTurn}
use Rattle.node_core.specs.Handling.{has_turn}

-- the links of a host are the one with its own number
abbrev pub HasOwnLink : ℕ → List Port → Type 0
HasOwnLink node ports = node ≢ 0 → map (λ (p : Port). p.desk.host) ports ≡ node ∷ []

-- the ends of a controller are those of CLFs, and those of a host are those of UICCs
pub record HaveOwnRoles (node : ℕ) (ports : List Port) : Type 0 where
  pub clf : node ≡ 0 → AllByRecursion (λ (p : Port). IsClf p.side.role) ports
  pub uicc : node ≢ 0 → AllByRecursion (λ (p : Port). IsUicc p.side.role) ports

-- A node is in order: its links are those with hosts 01 to 07, at a host the one with its own number, it is the CLF or the UICC there, and
-- what it has under way is its own.
pub record IsNodeInOrder (core : Core) (ports : List Port) : Type 0 where
  pub hosts : AreOfHosts ports
  pub own : HasOwnLink core.node ports
  pub roles : HaveOwnRoles core.node ports
  pub task : IsOnTask core

-- What was decided of this message, which waits at the end with this host: these deeds, which lack this room or may be done. The end is
-- held or not, and at most six control frames wait there to be sent.
pub record IsDecided (h : ℕ) (a : Handling) (deeds : List Deed) (short : Option Shortfall) (held : Bool) (w : Work) : Type 0 where
  pub deeds_are : deeds_of w.core w.ports h a.message ≡ deeds_shown a deeds
  pub lacks : lack w.ports (needs h (deeds_shown a deeds)) ≡ option_map lack_shown short
  pub doable : AreDoableInTurn h a deeds (has_turn h a.message w)
  pub held_is : held ≡ held_at w.ports h
  pub few : FewAreDue (port_at w.ports h)

-- at most so many control frames wait to be sent at each end
abbrev pub AreAtMostDue : ℕ → List Port → Type 0
AreAtMostDue n ports = AllByRecursion (λ (p : Port). length p.side.acts + length p.side.shdlc.due ≤ n) ports

-- at most six control frames wait to be sent at each end
abbrev pub AreFewDue : List Port → Type 0
AreFewDue ports = AllByRecursion (λ (p : Port). FewAreDue (Some p)) ports

-- the notice at each end has fewer than 255 ticks
abbrev pub AreYoung : List Port → Type 0
AreYoung ports = AllByRecursion (λ (p : Port). IsYoung (Some p)) ports
