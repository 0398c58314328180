use Rattle.swp_decode.proofs.Names.{AreBits, S1, S2, low_bits, take, ◌*◌, ◌-◌, ◌/◌, ◌≡◌, ◌≤◌}
use Rattle.swp_decode.proofs.many.many_bits.Given as goal

-- the bits of the bytes so far
abbrev pub invariant-sixteens : goal.invariant-sixteens
invariant-sixteens l = record {
  within : l.read ≤ 64;
  whole : 16 * (l.read / 16) ≡ l.read;
  s1 : AreBits S1 (take l.read l.bytes) (low_bits l.read l.s1);
  s2 : AreBits S2 (take l.read l.bytes) (low_bits l.read l.s2);
}

abbrev pub decreases-sixteens : goal.decreases-sixteens
decreases-sixteens l = 64 - l.read
