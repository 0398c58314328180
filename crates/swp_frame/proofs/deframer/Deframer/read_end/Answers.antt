use Rattle.swp_frame.proofs.Words.{KeepsContent, ap, arith, before_run, drop, eq-eqb, judged, reverse, run_bits, run_of, since_start, subst, suc, sym}
use Rattle.swp_frame.proofs.Words.{unstuffed, ◌++◌, ◌∙◌, ◌≡◌}
use Rattle.swp_frame.proofs.Places.{since_run, drop_run, since_bits, opened}
use Rattle.swp_frame.proofs.deframer.Deframer.read_end.Goals as goal

pub returns-then-self-clause-answer : goal.returns-then-self-clause-answer
returns-then-self-clause-answer c = λ seen stands.
    let own = c.args.self.now.content in
    let open_frame = opened c.args.self.now.is_open own (since_start seen) stands.open_frame c.if-self.true in
    let inside = since_run seen open_frame.0 open_frame.1.0 in
    let six : run_of seen ≡ 6 = omega (arith, stands.ones, inside.1) in
    rw (open_frame.1.0, eq-eqb (run_of seen) 6 six)
    (c.judge.ensures.judged _ (subst (KeepsContent own) (since_bits own.zero open_frame.0 open_frame.1.1.zero
    ∙ ap (λ n. reverse (unstuffed (drop 1 (before_run open_frame.0))) ++ run_bits own.zero n) (inside.0 ∙ six)) open_frame.1.1.bits)
    ∙ ap (λ xs. judged (reverse (unstuffed xs))) (sym (drop_run open_frame.0) ∙ ap (λ n. drop (suc n) open_frame.0) (inside.0 ∙ six)))
