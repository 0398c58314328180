use Rattle.schedule_text.proofs.Names.{drop, encode_upper, length, take, ◌*◌, ◌++◌, ◌≡◌}
use Rattle.schedule_text.proofs.text.write_digits.Given as goal

-- the digits of a front of the bytes are written
abbrev pub invariant-bytes : goal.invariant-bytes
invariant-bytes l = (length l.digits ≡ 2 * length l.bytes) × (take (2 * l.i) l.digits ++ encode_upper (drop l.i l.bytes) ≡ encode_upper l.bytes)
