-- The power of a node of the world: for which states it stands, and its memory.
use Rattle.std.specs.Prelude.{◌≡◌, ℕ, Bool, true, false, map, Option, Some, None}
use Rattle.std.specs.List.{AllByRecursion}
use Rattle.swp_base.specs.InMemory.{Memory}
use Rattle.link_laws.specs.machine.Machine.{next_frame}
use Rattle.link_laws.specs.messages.Links.{Loss, NumberedEnd}
use Rattle.link_laws.specs.messages.Links.Loss.{Broken}
use Rattle.node_machine.specs.Parts.{Desk, Running}
use Rattle.node_machine.specs.world.World.{port_for}
use Rattle.node_core.specs.declared.node.Node.{Node}
use Rattle.node_core.specs.Running.{RunsAs}
use Rattle.node_sites.specs.declared.power.Power.{Power}
use Rattle.node_sites.specs.declared.power.Power.TheVariants.{On, Off}

-- the memory over which a node runs
abbrev pub node_memory : Node Memory → Memory
node_memory n = n.store.journal.nv

-- A node of the world runs over its memory, all its frames went out, and its ends are these; or its power is off, and its memory
-- lies there.
abbrev pub IsNodePlace : Power → Memory → Option Running → (ℕ → NumberedEnd) → Type 0
IsNodePlace (On n) m (Some r) near_ends =
    (node_memory n ≡ m) × RunsAs n r.core (map (λ (d : Desk). port_for (near_ends d.host) d) r.desks)
    × AllByRecursion (λ (d : Desk). next_frame (near_ends d.host).side ≡ None) r.desks
IsNodePlace (Off kept) m None near_ends = kept ≡ m
IsNodePlace _ m _ near_ends = ⊥

-- the memory of a node, whether that runs or not
abbrev pub memory_kept : Power → Memory
memory_kept (On n) = node_memory n
memory_kept (Off kept) = kept

-- it runs
abbrev pub is_on : Power → Bool
is_on (On n) = true
is_on (Off kept) = false

-- a frame was refused for what damage had done to it
abbrev pub is_broken : Loss → Bool
is_broken (Broken fault) = true
is_broken _ = false
