use Rattle.tables_text.proofs.TextLemmas.{static_line_is}
use Rattle.tables_text.proofs.static_text.Goals as goal

pub returns : goal.returns
returns c = static_line_is c.args.host c.args.pid _ _ _ _ (c.high_digit.ensures, c.low_digit.ensures) (c.high_digit-2.ensures, c.low_digit-2.ensures)
