use Rattle.swp_frame.proofs.Words.{low_bits, ◌<◌, ◌^◌, ◌≡◌, ◌≤◌}
use Rattle.swp_frame.proofs.Places.{without}
use Rattle.swp_frame.proofs.word.Part.without_put_in.Given as goal

abbrev pub invariant-loop-put_in : goal.invariant-loop-put_in
invariant-loop-put_in l = record {
  few : l.width ≤ 64;
  bits_fit : l.bits < 2 ^ l.width;
  put_in_fit : l.put_in < 2 ^ l.width;
  same : without (low_bits l.width l.put_in) (low_bits l.width l.bits)
      ≡ without (low_bits l.initial.width l.initial.put_in) (low_bits l.initial.width l.initial.bits);
}

abbrev pub decreases-loop-put_in : goal.decreases-loop-put_in
decreases-loop-put_in l = l.width
