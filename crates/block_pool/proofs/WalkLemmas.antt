-- Walking along linked blocks, and lists made by place.
use Rattle.std.proofs.Common.{add-one}
use Rattle.std.proofs.lemmas.List.FromFn.{length-map-range_with_len, get_or-map-range_with_len}
use Rattle.block_pool.proofs.Words.{List, arith, block_at, get_or, get_or_default, length, map, range_with_len, refl, same_lists, sym, ℕ, ◌%◌, ◌+◌, ◌/◌, ◌<◌}
use Rattle.block_pool.proofs.Words.{◌∙◌, ◌≡◌, ◌≢◌}

pub block_at-more : (next : List ℕ) (first k : ℕ) → get_or next (block_at next first k) 0 ≡ block_at next first (k + 1)
block_at-more next first k = rw add-one refl

pub same_block : (next : List ℕ) (first place block : ℕ) → block ≡ block_at next first (place / 32) → (place + 1) % 32 ≢ 0
    → block ≡ block_at next first ((place + 1) / 32)
same_block next first place block here room = grind arith

-- a list whose elements are known by place
pub made_from : (f : ℕ → ℕ) (from n : ℕ) (xs : List ℕ) → length xs ≡ n → ((k : ℕ) → k < n → get_or xs k 0 ≡ f (from + k))
    → xs ≡ map f (range_with_len from n)
made_from f from n xs len same =
    same_lists _ _ (len ∙ sym (length-map-range_with_len f from n))
    (λ k d h. let low : k < n = omega (arith, len) in
    get_or_default xs k d 0 h ∙ (same k low ∙ sym (get_or-map-range_with_len f from n k (from + k) d low refl)))
