use Rattle.schedule_text.proofs.ReadAgainLemmas.{header_again, line_again}
use Rattle.schedule_text.proofs.laws.texts_are_read_again.Goals as goal

pub returns-clause-headers : goal.returns-clause-headers
returns-clause-headers c = header_again

pub returns-clause-lines : goal.returns-clause-lines
returns-clause-lines c = line_again
