use Rattle.tables_text.proofs.TextLemmas.{sync_line_is}
use Rattle.tables_text.proofs.sync_text.Goals as goal

pub returns : goal.returns
returns c =
    sync_line_is c.args.host c.args.id _ _ _ _ _ _ (c.high_digit.ensures, c.low_digit.ensures) (c.high_digit-2.ensures, c.low_digit-2.ensures)
    (c.high_digit-3.ensures, c.low_digit-3.ensures)
