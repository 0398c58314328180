use Rattle.drawn_schedule.proofs.ReadLemmas.{header_is_read, lines_are_read, lines_count}
use Rattle.drawn_schedule.proofs.drawn_lines_are_read.Goals as goal

pub returns-clause-header : goal.returns-clause-header
returns-clause-header c = header_is_read

pub returns-clause-lines : goal.returns-clause-lines
returns-clause-lines c = lines_are_read

pub returns-clause-count : goal.returns-clause-count
returns-clause-count c = lines_count
