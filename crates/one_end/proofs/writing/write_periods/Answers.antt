use Rattle.std.proofs.Common.{◌≡◌, ◌∙◌, ℕ, Bool, true, false, List, [], ◌∷◌, map, refl, ap, ◌++◌}
use Rattle.swp_frame.specs.declared.frame_bits.BitBytes.{BitBytes}
use Rattle.swp_frame.specs.Writing.{byte_of_bit}
use Rattle.swp_frame.specs.Stuffing.{frame_of}
use Rattle.lone_laws.specs.alone.Ends.{bit_written}
use Rattle.one_end.proofs.writing.write_periods.Goals as goal

-- A frame is written as periods.
-- the bytes that stand for the bits are the periods that a node writes
periods_are : (b : BitBytes) (number : ℕ) → b.zero ≡ bit_written number false → b.one ≡ bit_written number true
    → (bits : List Bool) → map (byte_of_bit b) bits ≡ map (bit_written number) bits
periods_are b number zero one [] = refl
periods_are b number zero one (true ∷ bits) =
    ap (λ byte. byte ∷ map (byte_of_bit b) bits) one ∙ ap (λ bytes. bit_written number true ∷ bytes) (periods_are b number zero one bits)
periods_are b number zero one (false ∷ bits) =
    ap (λ byte. byte ∷ map (byte_of_bit b) bits) zero ∙ ap (λ bytes. bit_written number false ∷ bytes) (periods_are b number zero one bits)

pub returns-clause-written : goal.returns-clause-written
returns-clause-written c number role =
    c.append_frame.ensures.written
    ∙ ap (λ periods. c.args.out.now.items ++ periods)
    (periods_are (record { zero = c.period_of_bit.result; one = c.period_of_bit-2.result }) number (c.period_of_bit.ensures number role)
    (c.period_of_bit-2.ensures number role) (frame_of c.args.lpdu.now))
