use Rattle.schedule_text.proofs.Names.{[], entry_line, entry_words, lines_behind, spaced, ◌++◌, ◌∙◌, ◌∷◌}
use Rattle.schedule_text.proofs.GrowthLemmas.{behind, holds_from, holds_back, holds_line}
use Rattle.schedule_text.proofs.write.write_with_rows.Goals as goal

pub returns-in-Ok : goal.returns-in-Ok
returns-in-Ok c = λ start before h.
    let words = spaced (entry_words c.args.entry.now) in
    holds_back start before (words ++ (10 ∷ lines_behind c.args.entry.now)) _
    (holds_line (behind start before) words c.as_slice.result.now (lines_behind c.args.entry.now) _ (c.as_slice.ensures.value ∙ c.in-Ok.ensures)
    (c.push_behind.ensures (behind start before) (words ++ 10 ∷ [])
    (c.push_few.ensures (behind start before) words (c.write_words.ensures (behind start before) (holds_from start before c.args.text.now h)))))

pub returns-in-Err : goal.returns-in-Err
returns-in-Err c start before h = c.give_up.ensures start before (entry_line c.args.entry.now) h
