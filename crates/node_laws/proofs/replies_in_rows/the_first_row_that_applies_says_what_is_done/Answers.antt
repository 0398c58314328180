use Rattle.node_laws.proofs.Words.{node_of, view_read}
use Rattle.node_laws.proofs.answers.Rows.{done_by_rows}
use Rattle.node_laws.proofs.replies_in_rows.the_first_row_that_applies_says_what_is_done.Goals as goal

pub returns-clause-done : goal.returns-clause-done
returns-clause-done c = done_by_rows

pub returns-clause-read : goal.returns-clause-read
returns-clause-read c = λ hosts m e message. done_by_rows (view_read hosts m (node_of e)) e.link message
