-- Boots of a node of a world, over a memory that keeps its bytes over a cut.
use Rattle.std.specs.Prelude.{◌≡◌, ℕ, true, false, List, map, length}
use Rattle.swp_base.specs.InMemory.{Memory}
use Rattle.journal_laws.specs.Planned.{fails_within, after_planned}
use Rattle.node_machine.specs.Node.{found, boot_writes}
use Rattle.node_ends.specs.Making.{new_port}
use Rattle.node_core.specs.Booting.{role_at}
use Rattle.node_core.specs.Running.{RunsAs}
use Rattle.node_sites.specs.declared.power.Power.{Power}
use Rattle.node_sites.specs.declared.power.Power.TheVariants.{On, Off}
use Rattle.node_sites.specs.Powers.{node_memory}

-- How a boot of a node with this number ends, with new ends of its role of the links with these hosts: it runs as it finds itself in this
-- memory, or one of the writes of the boot failed, and it has lost its power.
abbrev pub EndsBoot : ℕ → List ℕ → Memory → Power → Type 0
EndsBoot number hosts m (On n) =
    (fails_within (length (boot_writes m.content)) m.plan ≡ false) × (node_memory n ≡ after_planned (boot_writes m.content) m)
    × RunsAs n (found number hosts m.content).core (map (new_port (role_at number)) hosts)
EndsBoot number hosts m (Off now) =
    (fails_within (length (boot_writes m.content)) m.plan ≡ true) × (now ≡ after_planned (boot_writes m.content) m)
