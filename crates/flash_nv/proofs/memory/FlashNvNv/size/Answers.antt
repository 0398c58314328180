use Rattle.flash_nv.specs.Content.{length-content_front}
use Rattle.flash_nv.proofs.memory.FlashNvNv.size.Goals as goal

pub returns-clause-told : goal.returns-clause-told
returns-clause-told g c = λ tells. length-content_front (g.F.Flash.cells c.args.self.now.flash) 65536
