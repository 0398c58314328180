-- A run of a node that boots over a memory of any kind, as one of a node alone.
use Rattle.std.specs.Prelude.{◌≡◌, ℕ, Bool, List, is_none}
use Rattle.swp_base.specs.InMemory.{Memory}
use Rattle.lone_laws.specs.alone.Lone.{lone_after}
use Rattle.lone_laws.specs.alone.Ends.{EndForm, end_causes, end_written, end_node}

-- A node alone ran over these bytes, from this content of its memory to that one: the definition says so of a memory that keeps its bytes, of
-- which some write may fail.
pub record IsRunAlone (old new : List ℕ) (stopped : Bool) (form : EndForm) (is_clf : Bool) (bytes written : List ℕ) : Type 0 where
  pub memory : Memory
  pub content_is : memory.content ≡ old
  pub wrote : end_written form (end_node is_clf memory) bytes ≡ written
  pub now : (lone_after (end_node is_clf memory) (end_causes form (end_node is_clf memory) bytes)).memory.content ≡ new
  pub power : is_none (lone_after (end_node is_clf memory) (end_causes form (end_node is_clf memory) bytes)).node ≡ stopped
