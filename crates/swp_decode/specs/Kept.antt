-- What a decoder keeps of the record that it has read.
use Rattle.std.specs.Prelude.{ℕ, ◌-◌, ◌/◌, ◌%◌, ◌^◌, ◌≡◌, List, length}
use Rattle.swp_frame.specs.Kept.{DeframerStandsFor}
use Rattle.swp_frame.specs.declared.word.Word.{Word}
use Rattle.swp_decode.specs.declared.line.Wire.TheVariants.{S1, S2}
use Rattle.swp_decode.specs.declared.decoder.Decoder.{Decoder}
use Rattle.swp_decode.specs.declared.signal.SignalReader.{SignalReader}
use Rattle.swp_decode.specs.Readings.{ReadSymbol, signal, symbols, front_of, start_of}

-- the reader of one direction stands for what was read there
pub record ReadsSignal (reader : SignalReader) (readings : List ReadSymbol) : Type 0 where
  pub frames : DeframerStandsFor reader.deframer (symbols readings)
  pub front : reader.front ≡ front_of readings
  pub start : reader.start ≡ start_of readings

-- the decoder stands for the bytes of a record, the newest first
pub record DecoderStandsFor (decoder : Decoder) (bytes : List ℕ) : Type 0 where
  pub count : decoder.count ≡ length bytes
  pub s1 : ReadsSignal decoder.s1 (signal S1 bytes)
  pub s2 : ReadsSignal decoder.s2 (signal S2 bytes)

-- no mark ends with a bit of the word from one place up to another, counted from the oldest
abbrev pub NoMarkEnds : Word → ℕ → ℕ → Type 0
NoMarkEnds word from to = word.marks / 2 ^ (64 - to) % 2 ^ (to - from) ≡ 0
