use Rattle.schedule_text.proofs.Names.{HoldsText, entry_words, lines_behind, spaced, subst, sym, ◌++◌, ◌∷◌}
use Rattle.schedule_text.proofs.GrowthLemmas.{behind, holds_from, holds_back}
use Rattle.schedule_text.proofs.write.write_whole.Goals as goal

pub returns : goal.returns
returns c = λ start before h.
    let words = spaced (entry_words c.args.entry.now) in
    holds_back start before (words ++ (10 ∷ lines_behind c.args.entry.now)) _
    (subst (λ more. HoldsText (behind start before) (words ++ (10 ∷ more)) c.push_few.new.self) (sym (c.has_rows.ensures c.if-has_rows.false))
    (c.push_few.ensures (behind start before) words (c.write_frequent.ensures (behind start before) (holds_from start before c.args.text.now h))))
