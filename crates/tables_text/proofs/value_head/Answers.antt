use Rattle.tables_text.proofs.TextLemmas.{value_words_are}
use Rattle.tables_text.proofs.value_head.Goals as goal

pub returns : goal.returns
returns c =
    value_words_are c.args.host c.args.gate c.args.param _ _ _ _ _ _ (c.high_digit.ensures, c.low_digit.ensures)
    (c.high_digit-2.ensures, c.low_digit-2.ensures) (c.high_digit-3.ensures, c.low_digit-3.ensures)
