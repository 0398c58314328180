use Rattle.flash_nv.proofs.Words.{arith, get_or-replicate, is_ok, length-replicate, replicate, tear_mask, ℕ, ◌*◌, ◌∙◌}
use Rattle.flash_nv.proofs.PutLemmas.{torn_is_change, torn_is_partly, ok_is_full}
use Rattle.flash_nv.proofs.mem_flash.MemFlashFlash.erase.Goals as goal

pub returns-clause-changed : goal.returns-clause-changed
returns-clause-changed c =
    let old = c.args.self.now in
    rw c.change.ensures.cells (torn_is_change old.cells (512 * c.args.page) 512 (λ j. 255) (replicate {A = ℕ} 512 255) (tear_mask old.tear)
    (is_ok c.change.result)
    c.change.ensures.before (omega (arith, c.requires)) (length-replicate {A = ℕ} 512 255) c.change.ensures.whole_bytes c.change.ensures.mask_bytes
    (λ k small. get_or-replicate {A = ℕ} 512 k 255 0 small)
    (ok_is_full old.tear (is_ok c.change.result) c.change.ensures.answer))

pub returns-clause-masked : goal.returns-clause-masked
returns-clause-masked c =
    let old = c.args.self.now in
    c.change.ensures.cells
    ∙ torn_is_partly old.cells (512 * c.args.page) 512 (λ j. 255) (replicate {A = ℕ} 512 255) (tear_mask old.tear)
    c.change.ensures.before (omega (arith, c.requires)) (length-replicate {A = ℕ} 512 255) (λ k small. get_or-replicate {A = ℕ} 512 k 255 0 small)
