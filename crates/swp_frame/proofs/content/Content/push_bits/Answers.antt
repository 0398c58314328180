use Rattle.swp_frame.proofs.Words.{ap, ap₂, arith, length, length-append, one_shl, take, to_be_bytes, w64, ℕ, ◌%◌, ◌*◌, ◌++◌, ◌+◌, ◌-◌, ◌/◌, ◌<◌, ◌^◌, ◌∙◌, ◌≡◌}
use Rattle.swp_frame.proofs.Words.{◌≤◌}
use Rattle.swp_frame.specs.Kept.{whole_words}
use Rattle.swp_frame.proofs.Places.{joined_fits, fits_word, no_wrap, to_top, upper_fits}
use Rattle.swp_frame.proofs.ContentLemmas.{more_within, more_than_word}
use Rattle.swp_frame.proofs.content.Content.push_bits.Goals as goal

pub overflow_add-self : goal.overflow_add-self
overflow_add-self c =
    let old = c.args.self.now in
    let fits : old.partial < 2 ^ (old.bits % 64) = old.within_word (omega arith) in
    let small : old.partial * 2 ^ c.args.width % 2 ^ 64 + c.args.value < 2 ^ 64 =
    rw (no_wrap old.partial (old.bits % 64) c.args.width fits (omega arith))
    (fits_word old.partial c.args.value (old.bits % 64) c.args.width fits c.requires.value (omega arith)) in
    omega (arith, small)

pub invariant_of-self-then-filled-width-lt64 : goal.invariant_of-self-then-filled-width-lt64
invariant_of-self-then-filled-width-lt64 c =
    let old = c.args.self.now in
    let few : old.bits ≤ 263 = omega arith in
    let fits : old.partial < 2 ^ (old.bits % 64) = old.within_word few in
    let filled : c.saturating_add-self.result % 64 ≡ old.bits % 64 + c.args.width = omega arith in
    record {
      within_word = λ h. rw (no_wrap old.partial (old.bits % 64) c.args.width fits (omega arith), filled)
          (joined_fits old.partial c.args.value (old.bits % 64) c.args.width fits c.requires.value);
    }

pub returns-then-filled-width-lt64-clause-bits : goal.returns-then-filled-width-lt64-clause-bits
returns-then-filled-width-lt64-clause-bits c = λ bits more kept l n.
    let old = c.args.self.now in
    record {
      count = omega (arith, kept.count, length-append bits more, l);
      few = λ h.
          let same : length (bits ++ more) / 64 ≡ length bits / 64 = omega (arith, kept.count, length-append bits more, l) in
          rw (no_wrap old.partial (old.bits % 64) c.args.width (old.within_word (omega arith)) (omega arith), same)
          (more_within (whole_words (length bits) old.bytes) old.partial bits more c.args.value c.args.width
          (kept.few (omega (arith, length-append bits more))) l n (omega (arith, kept.count, length-append bits more)));
    }

pub overflow_add-word : goal.overflow_add-word
overflow_add-word c =
    let old = c.args.self.now in
    let fits : old.partial < 2 ^ (old.bits % 64) = old.within_word (omega arith) in
    let surplus : ℕ = old.bits % 64 + c.args.width - 64 in
    let small : old.partial * 2 ^ (63 - old.bits % 64) % 2 ^ 64 * 2 % 2 ^ 64 + c.args.value / 2 ^ surplus < 2 ^ 64 =
    rw (to_top old.partial (old.bits % 64) fits (omega arith))
    (upper_fits old.partial c.args.value (old.bits % 64) c.args.width surplus fits c.requires.value (omega arith) (omega arith)) in
    omega (arith, small)

pub returns-clause-bits : goal.returns-clause-bits
returns-clause-bits c = λ bits more kept l n.
    let old = c.args.self.now in
    let fits : old.partial < 2 ^ (old.bits % 64) = old.within_word (omega arith) in
    let surplus : ℕ = old.bits % 64 + c.args.width - 64 in
    record {
      count = omega (arith, kept.count, length-append bits more, l);
      few = λ h.
          let same : old.bits ≡ length bits = omega (arith, kept.count, length-append bits more) in
          let places : length bits % 64 + c.args.width ≡ 64 + surplus = omega (arith, same) in
          let few : surplus < 64 = omega (arith, c.requires.width) in
          let word : old.partial * 2 ^ (63 - old.bits % 64) % 2 ^ 64 * 2 % 2 ^ 64 + c.args.value / 2 ^ surplus
          ≡ old.partial * 2 ^ (64 - length bits % 64) + c.args.value / 2 ^ surplus =
          ap (λ x. x + c.args.value / 2 ^ surplus) (to_top old.partial (old.bits % 64) fits (omega arith) ∙ ap (λ n. old.partial * 2 ^ (64 - n % 64)) same) in
          let count : 8 * (length (bits ++ more) / 64) ≡ 8 * (old.bits / 64) + 8 = omega (arith, same, l, places, few, length-append bits more) in
          let bytes : whole_words (length (bits ++ more)) c.put_word.new.bytes
          ≡ whole_words (length bits) old.bytes ++ to_be_bytes w64 (old.partial * 2 ^ (64 - length bits % 64) + c.args.value / 2 ^ surplus) =
          ap (λ n. take n c.put_word.new.bytes) count
          ∙ c.put_word.ensures
          ∙ ap₂ (λ n x. take (8 * (n / 64)) old.bytes ++ to_be_bytes w64 x) same word in
          rw (bytes, one_shl surplus 64 few)
          (more_than_word more surplus (kept.few (omega (arith, length-append bits more))) l n places few);
    }
