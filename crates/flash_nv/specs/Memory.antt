-- What contracts see of a memory over flash.
use Rattle.std.specs.Prelude.{ℕ, ◌+◌, ◌-◌, ◌^◌, min, Bool, List, IsTrue}
use Rattle.flash_nv.specs.Pages.{IsClean, ArePages}
use Rattle.flash_nv.specs.Maps.{Map}

-- its flash, what is known of the pages, whether that is so still, and how many writes were refused since a sector's version was the last
pub record FlashMemory (F : Type 0) : Type 0 where
  pub flash : F
  pub map : Map
  pub known : Bool
  pub refused : ℕ

-- no torn erase can make a page of its flash valid, and the map has the page of each sector
pub record IsStanding {F : Type 0} (tells : Bool) (cells : F → List ℕ) (m : FlashMemory F) : Type 0 where
  pub clean : IsTrue tells → IsClean (cells m.flash)
  pub pages : IsTrue tells → IsTrue m.known → ArePages (cells m.flash) m.map.pages

-- its count of faults: that of its flash, and the writes refused
abbrev pub fault_count : {F : Type 0} → (F → ℕ) → FlashMemory F → ℕ
fault_count faults m = min (faults m.flash + m.refused) (2 ^ 64 - 1)
