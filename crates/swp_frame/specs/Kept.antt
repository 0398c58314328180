-- What a deframer keeps of what it has read.
use Rattle.std.specs.Prelude.{ℕ, ◌*◌, ◌/◌, ◌%◌, ◌≡◌, ◌<◌, ◌≤◌, min, Bool, true, false, List, [], ◌∷◌, ◌++◌, length, take, drop, replicate, reverse}
use Rattle.std.specs.Prelude.{Option, Some, None}
use Rattle.std.specs.List.{AllByRecursion}
use Rattle.swp_base.specs.Bits.{IsByte, bits_of}
use Rattle.swp_crc.specs.Division.{spelled_number}
use Rattle.swp_frame.specs.declared.content.Content.{Content}
use Rattle.swp_frame.specs.declared.deframer.Deframer.{Deframer}
use Rattle.swp_frame.specs.Signal.{Symbol, bit_0, bit_1, break, run_of, since_start, unstuffed}

-- what was read before the last run of 1 bits
abbrev pub before_run : List Symbol → List Symbol
before_run [] = []
before_run (bit_0 ∷ older) = bit_0 ∷ older
before_run (bit_1 ∷ older) = before_run older
before_run (break ∷ older) = break ∷ older

-- each is a byte
abbrev pub AreBytes : List ℕ → Type 0
AreBytes bytes = AllByRecursion IsByte bytes

-- the bits are whole bytes, eight at a time, and a rest of less than 64; the rest is kept as a number
pub record KeepsBits (bytes : List ℕ) (partial : ℕ) (bits : List Bool) : Type 0 where
  pub rest : List Bool
  pub whole : bits ≡ bits_of bytes ++ rest
  pub short : length rest < 64
  pub words : length bytes % 8 ≡ 0
  pub number : partial ≡ spelled_number rest
  pub in_range : AreBytes bytes

-- the bytes of the whole words of 64 bits among so many bits
abbrev pub whole_words : ℕ → List ℕ → List ℕ
whole_words bits bytes = take (8 * (bits / 64)) bytes

-- the content stands for these bits; of more than 263 only their number is kept, up to 4,294,967,295
pub record KeepsContent (kept : Content) (bits : List Bool) : Type 0 where
  pub count : kept.bits ≡ min 4294967295 (length bits)
  pub few : length bits ≤ 263 → KeepsBits (whole_words (length bits) kept.bytes) kept.partial bits

-- a run of 1 bits, and the 0 in front of it where that is content
abbrev pub run_bits : Bool → ℕ → List Bool
run_bits true ones = false ∷ replicate ones true
run_bits false ones = replicate ones true

-- bits, the newest first, and the 0 behind them where that is content
abbrev pub with_zero : Bool → List Bool → List Bool
with_zero true bits = false ∷ bits
with_zero false bits = bits

-- Whether the last 0 that was read is content: it isn't where it was put in, or where none was read.
abbrev pub CountsLastZero : Bool → List Symbol → Type 0
CountsLastZero zero since = unstuffed (before_run since) ≡ with_zero zero (unstuffed (drop 1 (before_run since)))

-- The content stands for what was read since the start of the frame: all its bits without those put in, the last of which
-- may belong to the end of the frame.
pub record KeepsSince (kept : Content) (since : List Symbol) : Type 0 where
  pub bits : KeepsContent kept (reverse (unstuffed since))
  pub zero : CountsLastZero kept.zero since

-- a frame is open exactly where one has started, and the content is then what was read since
abbrev pub KeepsOpen : Bool → Content → Option (List Symbol) → Type 0
KeepsOpen false kept None = Unit {0}
KeepsOpen true kept (Some since) = KeepsSince kept since
KeepsOpen false kept (Some since) = ⊥
KeepsOpen true kept None = ⊥

-- the deframer stands for what was read, the newest first: all that it answers from now on is what comes after that
pub record DeframerStandsFor (deframer : Deframer) (seen : List Symbol) : Type 0 where
  pub ones : deframer.ones ≡ min 7 (run_of seen)
  pub open_frame : KeepsOpen deframer.is_open deframer.content (since_start seen)

-- the bytes in which the frame that ended last lies
abbrev pub lying_bytes : Deframer → List ℕ
lying_bytes deframer = deframer.content.bytes
