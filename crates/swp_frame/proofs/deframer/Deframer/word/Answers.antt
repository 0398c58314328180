use Rattle.swp_frame.proofs.Words.{ap, arith, min, run_of, spelled_number, word_bits, ◌∙◌, ◌≡◌}
use Rattle.swp_frame.proofs.Places.{same_put_in, same_marks}
use Rattle.swp_frame.proofs.deframer.Deframer.word.Goals as goal

pub returns-clause-behind : goal.returns-clause-behind
returns-clause-behind c seen stands =
    let same : min 7 c.args.self.now.ones ≡ min 7 (run_of seen) = omega (arith, stands.ones) in
    let bits = word_bits c.new.result in
    record {
      marks = c.new.ensures.behind.marks ∙ ap spelled_number (same_marks c.args.self.now.ones (run_of seen) bits same);
      put_in = c.new.ensures.behind.put_in ∙ ap spelled_number (same_put_in c.args.self.now.ones (run_of seen) bits same);
    }
