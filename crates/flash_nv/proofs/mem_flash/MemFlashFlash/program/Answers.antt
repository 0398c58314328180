use Rattle.flash_nv.proofs.Words.{ap, arith, bit_and, is_ok, length, length-take-le, slice_index, slice_range, subst, take, tear_mask, ℕ, ◌*◌, ◌+◌, ◌-◌, ◌<◌}
use Rattle.flash_nv.proofs.Words.{◌∙◌, ◌≡◌, ◌≤◌}
use Rattle.flash_nv.specs.MemCells.{Chip}
use Rattle.flash_nv.proofs.PutLemmas.{torn_is_change, torn_is_partly, cleared_part, ok_is_full}
use Rattle.flash_nv.proofs.mem_flash.MemFlashFlash.program.Goals as goal

pub returns-clause-changed : goal.returns-clause-changed
returns-clause-changed c =
    let old = c.args.self.now in
    let at = c.args.at in
    let bytes = c.args.bytes.now in
    let whole = c.cleared-whole.result in
    let n = length bytes in
    let room : at + n ≤ 512 * c.requires.page + 512 = c.requires.to in
    let below = c.requires.below in
    rw c.change.ensures.cells (torn_is_change old.cells at n (λ i. bit_and (slice_index old.cells i) (slice_index bytes (i - at))) (take n whole)
    (tear_mask old.tear) (is_ok c.change.result) c.change.ensures.before (omega arith)
    (length-take-le n whole (omega (arith, c.cleared-whole.ensures.len))) c.change.ensures.whole_bytes c.change.ensures.mask_bytes
    (cleared_part old.cells bytes whole at
    (subst (λ xs. (i : ℕ) → i < n → slice_index whole i ≡ bit_and (slice_index (slice_range xs at (at + n)) i) (slice_index bytes i))
    (c.deref.ensures.value ∙ ap (λ (m : Chip). m.cells) c.self.view_is) c.cleared-whole.ensures.bytes))
    (ok_is_full old.tear (is_ok c.change.result) c.change.ensures.answer))

pub returns-clause-masked : goal.returns-clause-masked
returns-clause-masked c =
    let old = c.args.self.now in
    let at = c.args.at in
    let bytes = c.args.bytes.now in
    let whole = c.cleared-whole.result in
    let n = length bytes in
    let room : at + n ≤ 512 * c.requires.page + 512 = c.requires.to in
    let below = c.requires.below in
    c.change.ensures.cells
    ∙ torn_is_partly old.cells at n (λ i. bit_and (slice_index old.cells i) (slice_index bytes (i - at))) (take n whole)
    (tear_mask old.tear) c.change.ensures.before (omega arith) (length-take-le n whole (omega (arith, c.cleared-whole.ensures.len)))
    (cleared_part old.cells bytes whole at
    (subst (λ xs. (i : ℕ) → i < n → slice_index whole i ≡ bit_and (slice_index (slice_range xs at (at + n)) i) (slice_index bytes i))
    (c.deref.ensures.value ∙ ap (λ (m : Chip). m.cells) c.self.view_is) c.cleared-whole.ensures.bytes))
