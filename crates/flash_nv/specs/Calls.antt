-- What the calls of a memory over flash do.
use Rattle.std.specs.Prelude.{◌≡◌, ℕ, Bool, List, length, IsTrue}
use Rattle.swp_base.specs.Outside.{IsWritten}
use Rattle.flash_nv.specs.Pages.{flash_content}
use Rattle.flash_nv.specs.Maps.{Map}
use Rattle.flash_nv.specs.Memory.{FlashMemory}
use Rattle.flash_nv.specs.Steps.{IsMapBegun, AreSteps, sectors}

-- A read changes no byte of the flash. Behind one that failed the pages are scanned first.
pub record ReadsFlash {F : Type 0} (tells : Bool) (cells : F → List ℕ) (old : FlashMemory F) (ok : Bool) (new : FlashMemory F) : Type 0 where
  pub known : new.known ≡ ok
  pub kept : IsTrue tells → cells new.flash ≡ cells old.flash
  pub begun : IsTrue tells → IsTrue ok → IsMapBegun cells old new.map

-- each sector was put, ascending, into the page that was next
pub record ArePut {F : Type 0} (cells : F → List ℕ) (old : FlashMemory F) (at : ℕ) (bytes : List ℕ) (new : FlashMemory F) : Type 0 where
  pub first : Map
  pub begun : IsMapBegun cells old first
  pub steps : AreSteps (sectors at (length bytes)) at bytes (cells old.flash) first (cells new.flash) new.map

-- A write changes the content as it says. Behind one that failed the pages are scanned first.
pub record WritesFlash {F : Type 0} (tells : Bool) (cells : F → List ℕ) (old : FlashMemory F) (at : ℕ) (bytes : List ℕ) (ok : Bool) (new : FlashMemory F) :
    Type 0 where
  pub known : new.known ≡ ok
  pub told : IsTrue tells → IsWritten ok (flash_content (cells old.flash)) (flash_content (cells new.flash)) at bytes
  pub put : IsTrue tells → IsTrue ok → ArePut cells old at bytes new
