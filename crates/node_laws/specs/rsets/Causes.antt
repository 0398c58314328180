-- What caused events, and how many RSETs what happens to a world of nodes may have each of its links make.
use Rattle.std.specs.Prelude.{ℕ, zero, suc, ◌+◌, ◌*◌, List, [], ◌∷◌, map}
use Rattle.std.specs.List.{AllByRecursion}
use Rattle.link_laws.specs.messages.Rsets.{FewRsets, NumbersWithin}
use Rattle.node_machine.specs.world.World.{Site, Happening}
use Rattle.node_machine.specs.world.World.Happening.{Boots, IsCut, Gives, Inits, Takes, Loses, Ticks, Resets, Activates, Arms}
use Rattle.node_machine.specs.world.Lines.{Occurrence}

-- what caused events
abbrev pub happened_in : List Occurrence → List Happening
happened_in events = map (λ (o : Occurrence). o.cause) events

-- how often time passes among these
abbrev pub world_ticks_in : List Happening → ℕ
world_ticks_in [] = zero
world_ticks_in (Ticks ∷ causes) = suc (world_ticks_in causes)
world_ticks_in (_ ∷ causes) = world_ticks_in causes

-- the resets that are asked for
abbrev pub resets_among : List Happening → ℕ
resets_among [] = 0
resets_among (Resets e window ∷ causes) = 1 + resets_among causes
resets_among (_ ∷ causes) = resets_among causes

-- whatever is no tick, and no frame is taken or lost by it
abbrev pub others_among : List Happening → ℕ
others_among [] = 0
others_among (Ticks ∷ causes) = others_among causes
others_among (Takes e ∷ causes) = others_among causes
others_among (Loses e why ∷ causes) = others_among causes
others_among (_ ∷ causes) = 1 + others_among causes

-- few RSETs were made on each link of a world, and so none has a greater number
abbrev pub FewRsetsOnEach : ℕ → List Site → Type 0
FewRsetsOnEach n sites = AllByRecursion (λ (s : Site). FewRsets n s.link) sites

abbrev pub NumbersWithinOnEach : ℕ → List Site → Type 0
NumbersWithinOnEach n sites = AllByRecursion (λ (s : Site). NumbersWithin n s.link) sites

-- the RSETs that one thing that happens may have each link make: two in a tick, one where a reset is asked for
abbrev pub rsets_by : Happening → ℕ
rsets_by (Boots n) = 0
rsets_by (IsCut n) = 0
rsets_by (Gives e m) = 0
rsets_by (Inits e identity pipes) = 0
rsets_by (Takes e) = 0
rsets_by (Loses e why) = 0
rsets_by Ticks = 2
rsets_by (Resets e window) = 1
rsets_by (Activates h sync power) = 0
rsets_by (Arms n plan) = 0

-- that all these may have each link make
abbrev pub rsets_by_all : List Happening → ℕ
rsets_by_all causes = 2 * world_ticks_in causes + resets_among causes
