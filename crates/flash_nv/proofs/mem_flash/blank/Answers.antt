use Rattle.std.proofs.Common.{rules}
use Rattle.flash_nv.specs.MemCells.{blank}
use Rattle.flash_nv.proofs.mem_flash.blank.Goals as goal

pub returns : goal.returns
unfolding blank
returns c = search rules
