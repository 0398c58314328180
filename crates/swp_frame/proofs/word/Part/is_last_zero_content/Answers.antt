use Rattle.swp_frame.proofs.Words.{CountsLastZero, part_bits, read_on, run_of, subst}
use Rattle.swp_frame.proofs.Places.{ends_in, zero_at_end, kept_zero}
use Rattle.swp_frame.proofs.word.Part.is_last_zero_content.Goals as goal

pub returns-then-ones-self : goal.returns-then-ones-self
returns-then-ones-self c since counts behind =
    let own = c.args.self in
    let ends = ends_in own.width own.bits c.trailing_ones-ones.result own.few own.bits_fit c.trailing_ones-ones.ensures in
    subst (λ z. CountsLastZero z (read_on since (part_bits own)))
    ((zero_at_end own.width own.bits c.trailing_ones-ones.result (run_of since) own.put_in c.args.before ends behind).1 c.if-ones-self.true)
    (kept_zero since c.args.before (part_bits own) counts)

pub returns-else-ones-self : goal.returns-else-ones-self
returns-else-ones-self c since counts behind =
    let own = c.args.self in
    let ends = ends_in own.width own.bits c.trailing_ones-ones.result own.few own.bits_fit c.trailing_ones-ones.ensures in
    subst (λ z. CountsLastZero z (read_on since (part_bits own)))
    ((zero_at_end own.width own.bits c.trailing_ones-ones.result (run_of since) own.put_in c.args.before ends behind).0 c.if-ones-self.false)
    (kept_zero since c.args.before (part_bits own) counts)
