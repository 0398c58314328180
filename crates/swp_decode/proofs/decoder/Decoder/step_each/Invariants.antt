use Rattle.swp_decode.proofs.Names.{DecoderStandsFor, List, length, lines_with, reverse, take, ℕ, ◌*◌, ◌++◌, ◌+◌, ◌≡◌, ◌≤◌}
use Rattle.swp_decode.proofs.decoder.Decoder.step_each.Given as goal

abbrev pub invariant-loop-byte : goal.invariant-loop-byte
invariant-loop-byte l = record {
  count : l.self.count ≡ l.initial.self.count + l.byte-index;
  stands : (older : List ℕ) → DecoderStandsFor l.initial.self older → DecoderStandsFor l.self (reverse (take l.byte-index l.bytes) ++ older);
  lines : (older : List ℕ) → DecoderStandsFor l.initial.self older
      → l.text.items ≡ l.initial.text.items ++ lines_with older (take l.byte-index l.bytes);
  sized : length l.text.items ≤ length l.initial.text.items + 256 * l.byte-index;
}
