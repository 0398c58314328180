-- Memories of the nodes of a world: whatever happened, a boot finds commands there, and they are those of some history.
use Rattle.std.specs.Prelude.{◌≡◌, ℕ, List, None}
use Rattle.std.specs.List.{AllByRecursion}
use Rattle.swp_base.specs.InMemory.{Memory}
use Rattle.trace_model.specs.declared.entry.Entry.{Entry}
use Rattle.journal_laws.specs.Journal.{state_of}
use Rattle.journal_laws.specs.Operations.{started_state}
use Rattle.hci_store.specs.Image.{image_fault}
use Rattle.node_machine.specs.world.World.{NodeWorld, Site}
use Rattle.node_laws.specs.kept.Worlds.{AllKeep}

-- no read of any memory is to fail
pub record ReadsGoThrough (w : NodeWorld) : Type 0 where
  pub controller : w.memory.failing_read ≡ None
  pub hosts : AllByRecursion (λ (s : Site). s.memory.failing_read ≡ None) w.sites

-- All nodes keep what is read of some entries, which need not be those that were noted, and no read of a memory is to fail.
pub record KeepsSome (hosts : List ℕ) (w : NodeWorld) : Type 0 where
  pub entries : List Entry
  pub keep : AllKeep hosts entries w
  pub reads : ReadsGoThrough w

-- a memory says nothing or is of version 02, nothing is wrong with it, and no read of it is to fail
pub record IsSoundMemory (m : Memory) : Type 0 where
  pub version : (started_state (state_of m.content)).version ≡ 2
  pub image : image_fault m.content ≡ None
  pub reads : m.failing_read ≡ None
