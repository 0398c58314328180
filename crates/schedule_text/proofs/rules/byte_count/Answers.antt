use Rattle.std.proofs.Common.{sym, ◌∙◌}
use Rattle.schedule_text.proofs.HexLemmas.{bytes_of_digits, bytes_of_others}
use Rattle.schedule_text.proofs.rules.byte_count.Goals as goal
use Rattle.schedule_text.proofs.rules.byte_count.Goals.{else-word-eq0-via-then-word-eq0+else-all_hex, else-word-eq0-via-else-word-eq0}

pub returns-then-all_hex : goal.returns-then-all_hex
returns-then-all_hex c = sym (bytes_of_digits c.args.word.now c.if-word-eq0.true (sym c.all_hex.ensures ∙ c.if-all_hex.true))

pub returns-else-word-eq0 : goal.returns-else-word-eq0
returns-else-word-eq0 c =
    elim c.else-word-eq0.branch [
      | else-word-eq0-via-then-word-eq0+else-all_hex w ↦
          sym (bytes_of_others c.args.word.now (λ even digits. let no = w.if-all_hex.false in let all = w.all_hex.ensures in cc (digits, all, no)))
      | else-word-eq0-via-else-word-eq0 w ↦ sym (bytes_of_others c.args.word.now (λ even digits. w.if-word-eq0.false even))
    ]
