use Rattle.swp_decode.proofs.Names.{DecoderStandsFor, List, frames_with, length, reverse, take, ℕ, ◌*◌, ◌++◌, ◌+◌, ◌≡◌, ◌≤◌}
use Rattle.swp_decode.proofs.decoder.Decoder.hear_each.Given as goal

abbrev pub invariant-loop-byte : goal.invariant-loop-byte
invariant-loop-byte l = record {
  count : l.self.count ≡ l.initial.self.count + l.byte-index;
  stands : (older : List ℕ) → DecoderStandsFor l.initial.self older → DecoderStandsFor l.self (reverse (take l.byte-index l.bytes) ++ older);
  heard : (older : List ℕ) → DecoderStandsFor l.initial.self older → l.frames.items ≡ frames_with older (take l.byte-index l.bytes);
  sized : length l.frames.items ≤ 2 * l.byte-index;
}
