-- A whole run of `end`: what it wrote, that it answered every message, and what its memory keeps.
use Rattle.std.specs.Prelude.{◌≡◌, ℕ, Bool, List, [], ◌∷◌, if◌then◌else◌}
use Rattle.swp_base.specs.InMemory.{Memory}
use Rattle.hci_store.specs.Stored.{FindsSame}
use Rattle.node_machine.specs.Node.{found}
use Rattle.lone_laws.specs.alone.Answers.{AnsweredAlone, entries_of_events_alone}
use Rattle.lone_laws.specs.alone.Ends.{EndForm, end_history, end_node, end_written}
use Rattle.lone_laws.specs.alone.Memories.{IsKeptIn, commands_of_entries}

-- A run over these bytes, between two contents of a memory, which its power left or not, wrote what a node alone writes: the boot left a memory in
-- which the next one finds the same, and over that, of which some write may fail, every message was answered. At the end the memory keeps the
-- commands that are noted in its history.
pub record IsAnsweredRun (old new : List ℕ) (stopped : Bool) (form : EndForm) (is_clf : Bool) (bytes written : List ℕ) : Type 0 where
  pub memory : Memory
  pub same : FindsSame old memory.content
  pub wrote : end_written form (end_node is_clf memory) bytes ≡ written
  pub answered : AnsweredAlone (found (if is_clf then 0 else 2) (2 ∷ []) memory.content).core 2 (end_history form (end_node is_clf memory) bytes)
  pub kept : IsKeptIn stopped old (commands_of_entries (entries_of_events_alone (end_history form (end_node is_clf memory) bytes))) new
