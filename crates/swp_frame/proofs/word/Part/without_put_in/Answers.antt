use Rattle.swp_frame.proofs.Words.{ap, ap₂, arith, low_bits, one_shl, part_bits, places_put_in, pow_mono, refl, reverse, run_of, suc, sym, trailing_zeros}
use Rattle.swp_frame.proofs.Words.{unstuffed, w64, ℕ, ◌%◌, ◌*◌, ◌++◌, ◌+◌, ◌-◌, ◌/◌, ◌<◌, ◌^◌, ◌∙◌, ◌≡◌, ◌≤◌}
use Rattle.swp_frame.proofs.Places.{length-low_bits, low_bits-number_of, squeezed, upper_is, removed, without, without_none, without-put_in, length-put_in}
use Rattle.swp_frame.proofs.Places.{kept_content, kept_of}
use Rattle.swp_frame.proofs.word.Part.without_put_in.Goals as goal

pub loop-put_in-preserved : goal.loop-put_in-preserved
loop-put_in-preserved c =
    let w = c.loop-put_in.width in
    let bits = c.loop-put_in.bits in
    let places = c.loop-put_in.put_in in
    let t : ℕ = trailing_zeros w64 places in
    let kept = c.loop-put_in.invariant in
    let some : 0 < places = omega (arith, c.loop-put_in-test.true) in
    let gone = removed w bits places t kept.few kept.bits_fit kept.put_in_fit some refl in
    let whole : 2 ^ w ≤ 2 ^ 64 = pow_mono {i = w} {j = 64} kept.few in
    let bits_whole : bits < 2 ^ 64 = omega (arith, whole, kept.bits_fit) in
    let places_whole : places < 2 ^ 64 = omega (arith, whole, kept.put_in_fit) in
    let low : 1 * 2 ^ t % 2 ^ 64 ≡ 2 ^ t = one_shl t 64 (omega (arith, gone.within, kept.few)) in
    let new_bits : bits / 2 ^ t / 2 * 2 ^ t % 2 ^ 64 + bits % (1 * 2 ^ t % 2 ^ 64) ≡ squeezed bits t =
    ap₂ (λ p q. p + bits % q) (upper_is bits t bits_whole) low in
    let new_places : places / 2 ^ t / 2 * 2 ^ t % 2 ^ 64 ≡ places / 2 ^ suc t * 2 ^ t = upper_is places t places_whole in
    record {
      few = omega (arith, kept.few);
      bits_fit = rw new_bits gone.bits_fit;
      put_in_fit = rw new_places gone.places_fit;
      same = ap₂ (λ p q. without (low_bits (w - 1) p) (low_bits (w - 1) q)) new_places new_bits ∙ gone.same ∙ kept.same;
    }

pub returns : goal.returns
returns c since behind =
    let own = c.args.self in
    let w = c.loop-put_in.width in
    let bits = part_bits own in
    let ones : ℕ = run_of since in
    let kept : low_bits w c.loop-put_in.bits ≡ kept_of ones bits =
    sym (without_none w (low_bits w c.loop-put_in.bits) (length-low_bits w c.loop-put_in.bits))
    ∙ ap (λ n. without (low_bits w n) (low_bits w c.loop-put_in.bits)) (sym (omega (arith, c.loop-put_in-test.false)))
    ∙ c.loop-put_in.invariant.same
    ∙ ap (λ n. without (low_bits own.width n) bits) behind
    ∙ ap (λ xs. without xs bits) (low_bits-number_of (places_put_in ones bits) own.width (length-put_in ones bits ∙ length-low_bits own.width own.bits))
    ∙ without-put_in ones bits in
    ap (λ xs. reverse (unstuffed since) ++ xs) kept ∙ kept_content since bits
