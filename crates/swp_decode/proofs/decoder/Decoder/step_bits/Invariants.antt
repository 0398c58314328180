use Rattle.swp_decode.proofs.Names.{DecoderStandsFor, List, NoMarkEnds, ReadSymbol, ReadsSignal, bit_or, length, lines_with, readings_on, take, word_bits, ℕ}
use Rattle.swp_decode.proofs.Names.{◌%◌, ◌*◌, ◌++◌, ◌+◌, ◌-◌, ◌^◌, ◌≡◌, ◌≤◌}
use Rattle.swp_decode.proofs.decoder.Decoder.step_bits.Given as goal

-- The marks before a place were taken. Each wire was read at least through its last mark before that place.
abbrev pub invariant-marks : goal.invariant-marks
invariant-marks l = (read : ℕ) × record {
  within : read ≤ 64;
  under : read ≤ l.bits.known;
  few : l.passed ≤ 8;
  progress : l.passed ≤ read;
  marks : l.marks ≡ bit_or l.s1.marks l.s2.marks % 2 ^ (64 - read);
  before_s1 : l.read_s1 ≤ read;
  before_s2 : l.read_s2 ≤ read;
  quiet_s1 : NoMarkEnds l.s1 l.read_s1 read;
  quiet_s2 : NoMarkEnds l.s2 l.read_s2 read;
  s1 : (older : List ReadSymbol) → ReadsSignal l.initial.self.s1 older → ReadsSignal l.self.s1 (readings_on l.place (take l.read_s1 (word_bits l.s1)) older);
  s2 : (older : List ReadSymbol) → ReadsSignal l.initial.self.s2 older → ReadsSignal l.self.s2 (readings_on l.place (take l.read_s2 (word_bits l.s2)) older);
  lines : (older : List ℕ) → DecoderStandsFor l.initial.self older → l.text.items ≡ l.initial.text.items ++ lines_with older (take read l.bytes);
  sized : length l.text.items ≤ length l.initial.text.items + 256 * l.passed;
}

abbrev pub decreases-marks : goal.decreases-marks
decreases-marks l = 8 - l.passed
