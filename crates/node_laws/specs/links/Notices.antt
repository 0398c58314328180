-- Notices go over links that are up.
use Rattle.std.specs.Prelude.{◌≡◌, true, false, is_some, List, Option, Some, None}
use Rattle.std.specs.List.{AllByRecursion}
use Rattle.shdlc_core.specs.declared.answers.LinkState.TheVariants.{Up}
use Rattle.link_laws.specs.machine.Machine.{LinkInput}
use Rattle.link_laws.specs.machine.Machine.LinkInput.{Take, TakeUnknown, TakeBroken, Tick, Reset, Start, Stop, FromNode, Fetch}
use Rattle.node_machine.specs.Parts.{Port, Deed}
use Rattle.node_machine.specs.Parts.Deed.{Asks, Tells}
use Rattle.node_machine.specs.Controller.{has_link}
use Rattle.node_machine.specs.Node.{NodeInput}
use Rattle.node_machine.specs.Node.NodeInput.{AtEnd, TimePasses}

-- a host that is asked or told by a notice has a link that is up
abbrev pub Reaches : List Port → Deed → Type 0
Reaches ports (Asks to message creation) = has_link ports to ≡ true
Reaches ports (Tells to message) = has_link ports to ≡ true
Reaches ports _ = Unit {0}

-- so it is with all deeds
abbrev pub AllReach : List Port → List Deed → Type 0
AllReach ports deeds = AllByRecursion (Reaches ports) deeds

-- this comes to an end from outside its node: a frame, a tick, a reset, or activation that begins or ends
abbrev pub IsComing : LinkInput → Type 0
IsComing (Take c) = Unit {0}
IsComing Tick = Unit {0}
IsComing (Reset window) = Unit {0}
IsComing (Start value) = Unit {0}
IsComing Stop = Unit {0}
IsComing TakeUnknown = ⊥
IsComing (TakeBroken fault) = ⊥
IsComing (FromNode t) = ⊥
IsComing Fetch = ⊥

-- what comes in a step comes from outside
abbrev pub IsOutside : NodeInput → Type 0
IsOutside (AtEnd h i) = IsComing i
IsOutside TimePasses = Unit {0}

-- an end has a notice that isn't answered only while it is up
abbrev pub IsNoticedUp : Port → Type 0
IsNoticedUp p = is_some p.desk.notice ≡ true → p.side.shdlc.phase ≡ Up

-- an end as a step begins
pub record IsBegun (p : Port) : Type 0 where
  pub up : IsNoticedUp p
  pub late : p.late ≡ false
  pub ended : p.ended ≡ false

-- this holds of an end, where there is one
abbrev pub OnFirst : (Port → Type 0) → Option Port → Type 0
OnFirst P None = Unit {0}
OnFirst P (Some p) = P p
