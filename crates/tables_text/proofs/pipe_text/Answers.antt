use Rattle.std.proofs.Common.{arith}
use Rattle.tables_text.proofs.TextLemmas.{pipe_line_is}
use Rattle.tables_text.proofs.pipe_text.Goals as goal

pub returns : goal.returns
returns c =
    pipe_line_is c.args.row.now _ _ _ _ _ _ _ _ _ _ c.state_word-state.result.now (c.high_digit.ensures, c.low_digit.ensures)
    (c.high_digit-2.ensures, c.low_digit-2.ensures) (c.high_digit-3.ensures, c.low_digit-3.ensures) (c.high_digit-4.ensures, c.low_digit-4.ensures)
    (c.high_digit-5.ensures, c.low_digit-5.ensures) (omega arith) c.state_word-state.ensures
