use Rattle.std.proofs.Common.{refl}
use Rattle.flash_nv.proofs.PutLemmas.{blank-cells, blank_is_clean}
use Rattle.flash_nv.proofs.mem_flash.MemFlash.new.Goals as goal

pub invariant_of-result : goal.invariant_of-result
invariant_of-result c = rw c.in_ok-blank.ensures (blank-cells 139264 refl)

pub returns-clause-clean : goal.returns-clause-clean
returns-clause-clean c = rw c.in_ok-blank.ensures (blank_is_clean 139264 refl)
