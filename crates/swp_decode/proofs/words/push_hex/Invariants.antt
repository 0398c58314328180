use Rattle.swp_decode.proofs.Names.{hex_of, length, take, ◌++◌, ◌+◌, ◌-◌, ◌≡◌, ◌≤◌}
use Rattle.swp_decode.proofs.words.push_hex.Given as goal

abbrev pub invariant-fours : goal.invariant-fours
invariant-fours l = record { within : l.read ≤ length l.bytes; so_far : l.text.items ≡ l.initial.text.items ++ hex_of (take l.read l.bytes) }

abbrev pub decreases-fours : goal.decreases-fours
decreases-fours l = length l.bytes - l.read

abbrev pub invariant-loop-byte : goal.invariant-loop-byte
invariant-loop-byte l = l.text.items ≡ l.fn.text.items ++ hex_of (take (l.read + l.byte-index) l.bytes)
