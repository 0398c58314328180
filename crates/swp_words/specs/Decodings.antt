-- What a decoding has read and written.
use Rattle.std.specs.Prelude.{ℕ, Bool, List, length, reverse}
use Rattle.swp_decode.specs.Decoded.{record_lines}
use Rattle.swp_decode.specs.Kept.{DecoderStandsFor}
use Rattle.swp_words.specs.declared.decoding.Decoding.{Decoding}
use Rattle.swp_words.specs.declared.status.Status.{Status}
use Rattle.swp_words.specs.Records.{IsGathered, RecordedBy}

-- A decoding has read these bytes: what was written and what is gathered are their lines. All lines of the earlier bytes, those
-- before the piece in hand, were written.
pub record IsDecoding (tells : Bool) (d : Decoding) (earlier bytes before after : List ℕ) : Type 0 where
  pub stands : DecoderStandsFor d.decoder (reverse bytes)
  pub lines : IsGathered tells d.text.items (length (record_lines earlier)) (record_lines bytes) before after

-- How a decoding of this input ended. Whether the sink tells what was written comes first, and then the bytes of the last read that gave some.
abbrev pub DecodedBy : Bool → ℕ → Status → List ℕ → List ℕ → List ℕ → List ℕ → Type 0
DecodedBy tells given status input left before after = RecordedBy record_lines tells given status input left before after
