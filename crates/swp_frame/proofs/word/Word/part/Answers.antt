use Rattle.swp_frame.proofs.Words.{ap, arith, low_bits, places_put_in, run_after, spelled_number, sym, take, word_bits, ℕ, ◌+◌, ◌-◌, ◌∙◌, ◌≤◌}
use Rattle.swp_frame.proofs.Places.{low_bits-between, put_in_between}
use Rattle.swp_frame.proofs.word.Word.part.Goals as goal

pub returns-clause-bits : goal.returns-clause-bits
returns-clause-bits c =
    let width : ℕ = c.args.to - c.args.from in
    ap (low_bits width) c.field.ensures ∙ low_bits-between 64 c.args.from width c.args.self.now.bits (omega (arith, c.requires.some, c.requires.within))

pub returns-clause-behind : goal.returns-clause-behind
returns-clause-behind c ones behind =
    let width : ℕ = c.args.to - c.args.from in
    let word = c.args.self.now in
    let within : c.args.from + width ≤ 64 = omega (arith, c.requires.some, c.requires.within) in
    c.field-2.ensures
    ∙ put_in_between 64 c.args.from width ones word.bits word.put_in within behind.put_in
    ∙ ap (λ xs. spelled_number (places_put_in (run_after ones (take c.args.from (word_bits word))) xs))
    (sym (ap (low_bits width) c.field.ensures ∙ low_bits-between 64 c.args.from width word.bits within))
