use Rattle.swp_words.proofs.Words.{IsGathered, List, length, take, ℕ, ◌++◌, ◌-◌, ◌≤◌}
use Rattle.swp_decode.specs.Texts.{hex_of}
use Rattle.swp_words.proofs.gathering.gather_hex.Given as goal

-- the digits of the bytes so far were gathered
abbrev pub invariant-parts : goal.invariant-parts
invariant-parts g l = record {
  within : l.gathered ≤ length l.bytes;
  writes : g.K.Sink.faults l.fn.sink ≤ g.K.Sink.faults l.sink;
  so_far : (least : ℕ) (lines before : List ℕ) → IsGathered g.K.Sink.tells l.fn.text.items least lines before (g.K.Sink.written l.fn.sink)
      → IsGathered g.K.Sink.tells l.text.items least (lines ++ hex_of (take l.gathered l.bytes)) before (g.K.Sink.written l.sink);
}

abbrev pub decreases-parts : goal.decreases-parts
decreases-parts g l = length l.bytes - l.gathered
