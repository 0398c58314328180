use Rattle.std.proofs.lemmas.List.{take_rest}
use Rattle.block_pool.proofs.Words.{Held, List, Option, ap, append_assoc, arith, blocks_for, drop, held_bytes, length, length-append, length-take, owner_of}
use Rattle.block_pool.proofs.Words.{subst, take, with_chain, ℕ, ◌++◌, ◌+◌, ◌-◌, ◌∙◌, ◌≡◌, ◌≤◌}
use Rattle.block_pool.proofs.SlotLemmas.{put-put, bytes_of-put, owner_of-put, slot_low}
use Rattle.block_pool.proofs.FillLemmas.{take-join}
use Rattle.block_pool.proofs.blocks.Blocks.extend.Goals as goal

pub pieces-preserved : goal.pieces-preserved
pieces-preserved c =
    let old = c.args.self.now.slots in
    let now = c.pieces.self.slots in
    let b = c.args.first in
    let i = c.pieces.done in
    let r = c.push_some-done.result in
    let bytes = c.args.bytes.now in
    let owner = owner_of old b in
    let front = held_bytes old b in
    let so_far = front ++ take i bytes in
    let low = slot_low old b c.requires.some in
    let owner_is : owner_of now b ≡ owner = ap (λ (ss : List (Option Held)). owner_of ss b) c.pieces.invariant.1.0 ∙ owner_of-put old b owner so_far low in
    let bytes_are : held_bytes now b ≡ so_far = ap (λ (ss : List (Option Held)). held_bytes ss b) c.pieces.invariant.1.0
    ∙ bytes_of-put old b owner so_far low in
    let len : length (held_bytes now b) ≡ length front + i = ap length bytes_are
    ∙ (length-append front (take i bytes) ∙ omega (arith, length-take i bytes, c.pieces.invariant.0)) in
    let piece : List ℕ = take (length bytes - i) (drop i bytes) in
    let count : r ≤ length bytes - i = omega (arith, c.push_some-done.ensures.count, length-take (length bytes - i) (drop i bytes)) in
    let joined : so_far ++ take r piece ≡ front ++ take (i + r) bytes =
    append_assoc front (take i bytes) (take r piece)
    ∙ ap (λ bs. front ++ bs) (ap (λ ys. take i bytes ++ take r ys) (take_rest bytes i) ∙ take-join bytes i r) in (
      omega (arith, count, c.pieces.invariant.0),
      (
        c.push_some-done.ensures.slots
            ∙ (ap (λ (o : ℕ). with_chain now b o (held_bytes now b ++ take r piece)) owner_is
            ∙ (ap (λ (bs : List ℕ). with_chain now b owner (bs ++ take r piece)) bytes_are
            ∙ (ap (λ (ss : List (Option Held)). with_chain ss b owner (so_far ++ take r piece)) c.pieces.invariant.1.0
            ∙ (put-put old b owner owner so_far (so_far ++ take r piece) ∙ ap (with_chain old b owner) joined)))),
        (let pushed = c.push_some-done.ensures.free in
            let more : c.push_some-done.new.self.free + blocks_for ((length front + i) + r) ≡ c.pieces.self.free + blocks_for (length front + i) =
            subst (λ (n : ℕ). c.push_some-done.new.self.free + blocks_for (n + r) ≡ c.pieces.self.free + blocks_for n) len pushed in
            let regrouped : (length front + i) + r ≡ length front + (i + r) = omega arith in
            subst (λ (n : ℕ). c.push_some-done.new.self.free + blocks_for n ≡ c.args.self.now.free + blocks_for (length front)) regrouped
            (more ∙ c.pieces.invariant.1.1)),
      ),
    )
