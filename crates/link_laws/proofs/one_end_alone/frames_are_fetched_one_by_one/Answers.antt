use Rattle.link_laws.proofs.machine.Reports.{fetched_all, left_all}
use Rattle.link_laws.proofs.one_end_alone.frames_are_fetched_one_by_one.Goals as goal

pub returns-clause-frames : goal.returns-clause-frames
returns-clause-frames c = fetched_all

pub returns-clause-rest : goal.returns-clause-rest
returns-clause-rest c = left_all
