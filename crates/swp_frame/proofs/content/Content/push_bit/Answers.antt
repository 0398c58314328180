use Rattle.swp_frame.proofs.Words.{Bool, CountsLastZero, KeepsContent, [], ap, bit_0, bit_1, eqb, false, length, not, refl, reverse, reverse-append}
use Rattle.swp_frame.proofs.Words.{spelled_number, subst, sym, symbol_of, true, unstuffed, ◌∙◌, ◌∷◌, ◌≡◌}
use mir.Val.{bool_byte}
use Rattle.swp_frame.proofs.Places.{added, zero_content, zero_counts}
use Rattle.swp_frame.proofs.content.Content.push_bit.Goals as goal
use Rattle.swp_frame.proofs.content.Content.push_bit.Goals.{then-bit, else-bit, then-bit-2, else-bit-2}

length-added : (content : Bool) → length (added false content) ≡ bool_byte content
length-added true = refl
length-added false = refl

number_of-added : (content : Bool) → spelled_number (added false content) ≡ 0
number_of-added true = refl
number_of-added false = refl

-- a 1 is content, and a 0 behind five 1 bits was put in
pub returns : goal.returns
returns c = λ since kept run.
    elim c.if-bit.branch [
      | then-bit w ↦
          let is_one : bit_1 ≡ symbol_of c.args.bit = ap symbol_of (sym w.if-bit.true) in
          let content : c.if-bit.is_content ≡ true = w.is_content-is ∙ w.if-bit.true in
          let after =
          subst (KeepsContent c.push_bits.new.self) (sym (reverse-append (true ∷ []) (unstuffed since)) ∙ ap (λ s. reverse (unstuffed (s ∷ since))) is_one)
          (c.push_bits.ensures.bits (reverse (unstuffed since)) (true ∷ []) kept.bits
          (sym (c.from-2.ensures ∙ ap bool_byte content)) (sym (c.from.ensures ∙ ap bool_byte w.if-bit.true))) in
          record {
            bits = record { count = after.count; few = after.few };
            zero = subst (λ s. CountsLastZero c.if-bit-2.self (s ∷ since)) is_one
                (elim c.if-bit-2.branch [
                  | then-bit-2 v ↦ rw (v.self-is, c.push_bits.ensures.zero) kept.zero
                  | else-bit-2 v ↦ absurd (let e = v.if-bit-2.false in let o = w.if-bit.true in cc)
                ]);
          }
      | else-bit w ↦
          let content = c.if-bit.is_content in
          let is_zero : bit_0 ≡ symbol_of c.args.bit = ap symbol_of (sym w.if-bit.false) in
          let is = w.is_content-is ∙ ap (λ n. not (eqb n 5)) (sym run) in
          let after = subst (KeepsContent c.push_bits.new.self) (zero_content since content is ∙ ap (λ s. reverse (unstuffed (s ∷ since))) is_zero)
          (c.push_bits.ensures.bits (reverse (unstuffed since)) (added false content) kept.bits
          (length-added content ∙ sym c.from-2.ensures) (number_of-added content ∙ sym (c.from.ensures ∙ ap bool_byte w.if-bit.false))) in
          record {
            bits = record { count = after.count; few = after.few };
            zero = subst (λ s. CountsLastZero c.if-bit-2.self (s ∷ since)) is_zero
                (elim c.if-bit-2.branch [
                  | then-bit-2 v ↦ absurd (let e = v.if-bit-2.true in let o = w.if-bit.false in cc)
                  | else-bit-2 v ↦ rw v.self-is (zero_counts since content is)
                ]);
          }
    ]
