use Rattle.swp_words.proofs.Words.{Bool, HasHeard, List, take, ℕ, ◌++◌, ◌+◌, ◌≡◌, ◌≤◌}
use Rattle.swp_words.proofs.tapping.hear_frames.Given as goal

-- the frames so far were heard
abbrev pub invariant-loop-frame : goal.invariant-loop-frame
invariant-loop-frame g l = record {
  taken : l.tap.taken ≡ l.fn.tap.taken + l.frame-index;
  writes : g.K.Sink.faults l.fn.sink ≤ g.K.Sink.faults l.sink;
  heard : (bare : Bool) (least : ℕ) (heard : List (Bool × List ℕ)) (before : List ℕ)
      → HasHeard bare g.K.Sink.tells l.fn.tap l.fn.text.items least heard before (g.K.Sink.written l.fn.sink)
      → HasHeard bare g.K.Sink.tells l.tap l.text.items least (heard ++ take l.frame-index l.frames.items) before (g.K.Sink.written l.sink);
}
