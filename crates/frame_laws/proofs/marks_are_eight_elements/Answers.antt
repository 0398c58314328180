use Rattle.frame_laws.proofs.Runs.{start_is, end_is}
use Rattle.frame_laws.proofs.marks_are_eight_elements.Goals as goal

pub returns-clause-start : goal.returns-clause-start
returns-clause-start c = start_is

pub returns-clause-end : goal.returns-clause-end
returns-clause-end c = end_is
