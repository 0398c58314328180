-- The content has as many bytes as the memory: the proof of a law of `Nv`.
use Rattle.std.specs.Prelude.{◌≡◌, ℕ, List, length}
use Rattle.std.proofs.lemmas.List.FromFn.{length-map-range_with_len}
use Rattle.flash_nv.specs.Pages.{content_byte, content_front}

pub length-content_front : (cells : List ℕ) (len : ℕ) → length (content_front cells len) ≡ len
unfolding content_front
length-content_front cells len = length-map-range_with_len (content_byte cells) 0 len
