use Rattle.block_pool.proofs.Words.{ap, arith, block_at, get_or, length, linked_byte, subst, sym, ℕ, ◌%◌, ◌*◌, ◌+◌, ◌-◌, ◌/◌, ◌<◌, ◌∙◌, ◌≡◌, ◌≤◌}
use Rattle.block_pool.proofs.WalkLemmas.{block_at-more, made_from}
use Rattle.block_pool.proofs.CopyLemmas.{copied-length, copied-bytes}
use Rattle.block_pool.proofs.blocks.copy_from.Goals as goal

pub pieces-preserved-then-offset-count-eq-BLOCK_BYTES : goal.pieces-preserved-then-offset-count-eq-BLOCK_BYTES
pieces-preserved-then-offset-count-eq-BLOCK_BYTES c =
    let region = c.args.region.now in
    let next = c.args.next.now in
    let first = c.args.first in
    let from = c.args.from in
    let out = c.pieces.out in
    let done = c.pieces.done in
    let count = c.min-count.result in
    let block = c.pieces.block in
    let at = c.pieces.invariant.2 in
    let least : count ≤ length out - done = omega (arith, c.min-count.ensures) in
    let fits : done + count ≤ length out = omega (arith, least, c.pieces-test.true) in
    let one_block : (from + done) % 32 + count ≤ 32 = omega (arith, c.if-offset-count-eq-BLOCK_BYTES.true) in
    let low : block < length next =
    subst (λ (b : ℕ). b < length next) (sym at) (c.requires.reached ((from + done) / 32) (omega (arith, c.pieces-test.true, c.pieces.auto.out))) in
    let within : 32 * block + (from + done) % 32 + count ≤ length region = omega (arith, low, c.requires.whole, one_block) in
    let place = 32 * block + (from + done) % 32 in
    let n = place + count - place in
    let is : n ≡ count = omega arith in
    let over : (from + done) / 32 + 1 ≡ (from + (done + count)) / 32 = omega (arith, c.if-offset-count-eq-BLOCK_BYTES.true) in
    let copied = c.overwrite.ensures in (
      omega (arith, fits, c.pieces.auto.out),
      ap length copied ∙ (copied-length region next out first from done count n block at one_block fits within is ∙ c.pieces.auto.out),
      ap (λ b. get_or next b 0) at ∙ (block_at-more next first ((from + done) / 32) ∙ ap (block_at next first) over),
      λ k h.
          ap (λ xs. get_or xs k 0) copied
          ∙ copied-bytes region next out first from done count n block at one_block fits within is c.pieces.invariant.3 k h,
    )

pub returns-clause-copied : goal.returns-clause-copied
returns-clause-copied c =
    made_from (linked_byte c.args.region.now c.args.next.now c.args.first) c.args.from (length c.args.out.now) c.pieces.out c.pieces.auto.out
    (λ k low. c.pieces.invariant.3 k (omega (arith, c.pieces-test.false, c.pieces.auto.out)))
