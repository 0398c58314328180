use Rattle.swp_frame.proofs.Words.{KeepsContent, low_bits, mod-eq_of_lt, reverse, subst, unstuffed, ◌∙◌}
use Rattle.swp_frame.proofs.Places.{length-low_bits, number_of-low_bits}
use Rattle.swp_frame.proofs.content.Content.push_part.Goals as goal

-- what was not put in is appended at once
pub returns : goal.returns
returns c since kept behind =
    let left = c.without_put_in-kept.result in
    let after = subst (KeepsContent c.push_bits.new.self) (c.without_put_in-kept.ensures since behind)
    (c.push_bits.ensures.bits (reverse (unstuffed since)) (low_bits left.width left.bits) kept.bits
    (length-low_bits left.width left.bits) (number_of-low_bits left.width left.bits ∙ mod-eq_of_lt left.fits)) in
    record {
      bits = record { count = after.count; few = after.few };
      zero = c.is_last_zero_content-self.ensures since (rw c.push_bits.ensures.zero kept.zero) behind;
    }
