use Rattle.std.proofs.Common.{◌≡◌, ◌+◌, ◌*◌, ◌++◌, length, take}
use Rattle.hex.specs.Hex.{encode_upper}
use Rattle.tables_text.proofs.push_digits.Given as goal

-- the digits of the bytes so far stand behind what was there
abbrev pub invariant-loop-byte : goal.invariant-loop-byte
invariant-loop-byte l = (l.line.items ≡ l.fn.line.items ++ encode_upper (take l.byte-index l.bytes)) × (length l.line.items ≡ 13 + 2 * l.byte-index)
