use Rattle.swp_frame.proofs.Words.{ap, arith, drop, judged_bytes, length, length-append, run_bits, sym, take, take-append-drop, to_be_bytes, w64, ℕ, ◌%◌, ◌*◌}
use Rattle.swp_frame.proofs.Words.{◌++◌, ◌+◌, ◌-◌, ◌/◌, ◌^◌, ◌∙◌, ◌≡◌}
use Rattle.swp_frame.specs.Found.{fed_lying_in}
use Rattle.swp_frame.proofs.ContentLemmas.{length-end, judged_whole, content_bytes, take_within}
use Rattle.swp_frame.proofs.content.Content.judge.Goals as goal

pub returns-clause-judged : goal.returns-clause-judged
returns-clause-judged c = λ bits kept.
    let own = c.args.self.now in
    let laid = c.put_word.new.bytes in
    let n : ℕ = c.min-bits.result / 8 in
    let last : ℕ = own.partial * 2 ^ (64 - own.bits % 64) % 2 ^ 64 in
    let tail = run_bits own.zero 6 in
    let behind = length-end own.zero in
    let all = length-append bits tail in
    let same : c.min-bits.result ≡ length bits = omega (arith, kept.count, all, behind.0, behind.1, c.from-end.ensures) in
    let read : own.bits ≡ length bits + length tail = omega (arith, kept.count, all, behind.0, behind.1, c.from-end.ensures) in
    let bytes = content_bytes n bits tail (kept.few (omega (arith, all, behind.1, same))) (omega (arith, same)) behind.1
    (omega (arith, behind.0)) (ap (λ m. own.partial * 2 ^ (64 - m % 64) % 2 ^ 64) (read ∙ sym all)) in
    ap (λ xs. fed_lying_in xs c.judge_bytes.result) (sym (take-append-drop n laid))
    ∙ c.judge_bytes.ensures.judged (drop n laid)
    ∙ ap judged_bytes
    (sym (take_within n (8 * (own.bits / 64) + 8) laid (omega (arith, same, read)))
    ∙ ap (take n) (c.put_word.ensures ∙ ap (λ m. take (8 * (m / 64)) own.bytes ++ to_be_bytes w64 last) (read ∙ sym all))
    ∙ sym bytes)
    ∙ sym (judged_whole bits (omega (arith, same)) (omega (arith, same)) (omega (arith, same)))
