use Rattle.std.proofs.Common.{sym, ◌∙◌}
use Rattle.schedule_text.proofs.WordsLemmas.{no_word, cut_word}
use Rattle.schedule_text.proofs.words.next_word.Goals as goal

pub returns-in_err-start-clause-none : goal.returns-in_err-start-clause-none
returns-in_err-start-clause-none c = rw c.from_residual.ensures (no_word c.args.line.now (sym c.first_letter.ensures ∙ c.in_err-start.was))

pub returns-clause-some : goal.returns-clause-some
returns-clause-some c =
    (cut_word c.args.line.now (sym c.first_letter.ensures ∙ c.in_ok-start.was) c.split_at.ensures.back
    (rw (← c.first_space.ensures) c.unwrap_or-end.ensures) c.split_at-2.ensures.front c.split_at-2.ensures.back).0

pub returns-clause-shorter : goal.returns-clause-shorter
returns-clause-shorter c =
    (cut_word c.args.line.now (sym c.first_letter.ensures ∙ c.in_ok-start.was) c.split_at.ensures.back
    (rw (← c.first_space.ensures) c.unwrap_or-end.ensures) c.split_at-2.ensures.front c.split_at-2.ensures.back).1
