-- Pieces of a chain that are copied behind one another.
use Rattle.std.proofs.lemmas.List.{get_or-take}
use Rattle.block_pool.proofs.Words.{List, ap, arith, block_at, cases_lt, drop, get_or, get_or-append_right, get_or-drop, get_or_append_left, inl, inr, length}
use Rattle.block_pool.proofs.Words.{length-append, length-drop, length-take, linked_byte, region_behind, take, ℕ, ◌%◌, ◌*◌, ◌++◌, ◌+◌, ◌-◌, ◌/◌, ◌<◌, ◌∙◌, ◌≡◌}
use Rattle.block_pool.proofs.Words.{◌≤◌}

module _ (region next out : List ℕ) (first from done count n block : ℕ) (at : block ≡ block_at next first ((from + done) / 32))
    (one_block : (from + done) % 32 + count ≤ 32) (fits : done + count ≤ length out) (within : 32 * block + (from + done) % 32 + count ≤ length region)
    (is : n ≡ count) where
  -- the piece
  abbrev piece : List ℕ
  piece = take n (drop (32 * block + (from + done) % 32) region)

  length-piece : length piece ≡ count
  length-piece =
      omega (
        arith,
        length-take n (drop (32 * block + (from + done) % 32) region),
        length-drop (32 * block + (from + done) % 32) region,
        within,
        is,
      )

  length-front : length (take done out) ≡ done
  length-front = omega (arith, length-take done out, fits)

  pub copied-length : length (region_behind out done piece) ≡ length out
  copied-length =
      length-append (take done out) (piece ++ drop (done + length piece) out)
      ∙ omega (
        arith,
        length-append piece (drop (done + length piece) out),
        length-drop (done + length piece) out,
        length-piece,
        length-front,
        fits,
      )

  -- its bytes are the chain's
  piece_byte : (j : ℕ) → j < count → get_or piece j 0 ≡ linked_byte region next first (from + (done + j))
  piece_byte j low =
      get_or-take n (drop (32 * block + (from + done) % 32) region) j 0 (omega (arith, is))
      ∙ (get_or-drop (32 * block + (from + done) % 32) region j 0
      ∙ (grind arith))

  pub copied-bytes : ((k : ℕ) → k < done → get_or out k 0 ≡ linked_byte region next first (from + k))
      → (k : ℕ) → k < done + count → get_or (region_behind out done piece) k 0 ≡ linked_byte region next first (from + k)
  copied-bytes before k low = elim (cases_lt k done) [
    | inl front ↦ get_or_append_left (take done out) (piece ++ drop (done + length piece) out) 0 k (omega (arith, length-front))
        ∙ (get_or-take done out k 0 front ∙ before k front)
    | inr behind ↦
        get_or-append_right (take done out) (piece ++ drop (done + length piece) out) done k 0 length-front behind
        ∙ (get_or_append_left piece (drop (done + length piece) out) 0 (k - done) (omega (arith, length-piece))
        ∙ (piece_byte (k - done) (omega arith) ∙ ap (λ i. linked_byte region next first (from + i)) (omega arith)))
  ]
