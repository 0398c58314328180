-- The rounds of a world of nodes as causes that happen one after another, like those of any line.
use Rattle.std.specs.Prelude.{◌≡◌, ℕ, ◌<◌, ◌≤◌, true, List, [], ◌∷◌, length, Some}
use Rattle.trace_model.specs.declared.line.End.{End}
use Rattle.node_machine.specs.world.World.{Site, NodeWorld, Happening, node_of, site_at, world_step}
use Rattle.node_machine.specs.world.World.Happening.{Takes, Ticks}
use Rattle.node_machine.specs.world.Lines.{can_happen, is_running, frames_at}
use Rattle.node_machine.specs.world.Rounds.{rounds_of_world, world_settling}
use Rattle.node_laws.specs.rsets.Causes.{happened_in}

-- the causes of so many rounds
abbrev pub world_round_causes : ℕ → NodeWorld → List Happening
world_round_causes r w = happened_in (rounds_of_world r w).1

-- the causes of a line that has the world settle, with n rounds at most
abbrev pub world_settling_causes : ℕ → NodeWorld → List Happening
world_settling_causes n w = happened_in (world_settling n w).1

-- each of these can happen behind those before it
abbrev pub AllCanHappen : NodeWorld → List Happening → Type 0
AllCanHappen w [] = Unit {0}
AllCanHappen w (c ∷ causes) = (can_happen w c ≡ true) × AllCanHappen (world_step w c).0 causes

-- an end takes a frame, or time passes
abbrev pub IsTakeOrTick : Happening → Type 0
IsTakeOrTick (Takes e) = Unit {0}
IsTakeOrTick Ticks = Unit {0}
IsTakeOrTick _ = ⊥

-- an end of a link of the world can take a frame: its node runs, and a frame stands on the wire to it
pub record CanTake (w : NodeWorld) (e : End) : Type 0 where
  pub site : Site
  pub there : site_at w.sites e.link ≡ Some site
  pub runs : is_running w (node_of e) ≡ true
  pub stands : 0 < length (frames_at w e)

-- a cause in a round: an end takes a frame, which it can, or time passes
abbrev pub IsOfRound : NodeWorld → Happening → Type 0
IsOfRound w (Takes e) = CanTake w e
IsOfRound w Ticks = Unit {0}
IsOfRound w _ = ⊥

-- each of these is one behind those before it
abbrev pub AreOfRounds : NodeWorld → List Happening → Type 0
AreOfRounds w [] = Unit {0}
AreOfRounds w (c ∷ causes) = IsOfRound w c × AreOfRounds (world_step w c).0 causes

-- no wire holds more than 64 frames
abbrev pub AreFewOnWires : NodeWorld → Type 0
AreFewOnWires w = (e : End) → length (frames_at w e) ≤ 64
