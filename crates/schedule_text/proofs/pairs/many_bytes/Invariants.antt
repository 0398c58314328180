use Rattle.schedule_text.proofs.Names.{IsPairs, length, take, ◌*◌, ◌≡◌}
use Rattle.schedule_text.proofs.pairs.many_bytes.Given as goal

-- the bytes of a front of the digits are made
abbrev pub invariant-bytes : goal.invariant-bytes
invariant-bytes l = (length l.bytes ≡ 16) × IsPairs (take (2 * l.i) l.digits) (take l.i l.bytes)
