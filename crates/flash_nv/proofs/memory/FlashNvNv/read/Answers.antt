use Rattle.flash_nv.proofs.Words.{FlashMemory, ap, content_byte, length, slice_index, subst, ◌+◌, ◌<◌, ◌∙◌, ◌≡◌}
use Rattle.flash_nv.proofs.ContentLemmas.{read_front}
use Rattle.flash_nv.proofs.memory.FlashNvNv.read.Goals as goal

pub returns-clause-read : goal.returns-clause-read
returns-clause-read g c = λ tells.
    let cells = g.F.Flash.cells in
    let flash = ap (λ (m : FlashMemory g.row.F.Denot). m.flash) c.self.view_is in
    let known = ap (λ (m : FlashMemory g.row.F.Denot). m.known) c.self.view_is in
    let same : cells c.self.inside.flash ≡ cells c.args.self.now.flash = ap cells flash ∙ c.in_ok-know_pages.ensures.kept tells in
    read_front (cells c.args.self.now.flash) 65536 c.read_bytes.new.buf c.args.at (length c.args.buf.now) c.read_bytes.auto.buf c.requires
    (subst (λ xs. (i : _) → i < length c.read_bytes.new.buf → slice_index c.read_bytes.new.buf i ≡ content_byte xs (c.args.at + i)) same
    (c.in_ok-read_bytes.ensures.bytes tells (c.self.invariant.pages tells (known ∙ c.in_ok-know_pages.ensures.known))))
