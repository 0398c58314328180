use Rattle.flash_nv.proofs.mem_flash.MemFlashFlash.read.Goals as goal

pub returns-clause-sized : goal.returns-clause-sized
returns-clause-sized c = rw (← c.self.view_is) c.self.invariant
