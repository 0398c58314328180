use Rattle.std.proofs.Common.{arith}
use Rattle.flash_nv.proofs.MapLemmas.{none_has_page}
use Rattle.flash_nv.proofs.page_map.PageMap.new.Goals as goal

pub invariant_of-result : goal.invariant_of-result
invariant_of-result c = (omega arith, none_has_page 256)
