use Rattle.schedule_text.proofs.Names.{HoldsText, List, Start, encode_upper, take, ℕ, ◌++◌}
use Rattle.schedule_text.proofs.text.Text.pairs.Given as goal

abbrev pub invariant-loop-byte : goal.invariant-loop-byte
invariant-loop-byte l =
    (start : Start) (text : List ℕ) → HoldsText start text l.fn.self → HoldsText start (text ++ encode_upper (take l.byte-index l.bytes)) l.self
