-- The faults of the memory of a node.
use Rattle.std.specs.Prelude.{◌≡◌, ℕ, ◌≤◌, false}
use Rattle.swp_base.specs.Outside.{Rose}
use Rattle.hci_store.specs.Stored.{Stored}

-- They don't become fewer, and there are more of them where a write failed, so that the store may be used no more.
pub record CountsFaults {N : Type 0} (faults : N → ℕ) (old new : Stored N) : Type 0 where
  pub count : faults old.journal.nv ≤ faults new.journal.nv
  pub rose : new.journal.live ≡ false → Rose (faults old.journal.nv) (faults new.journal.nv)
