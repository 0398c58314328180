use Rattle.link_laws.proofs.machine.Runs.{forgotten}
use Rattle.link_laws.proofs.one_end_alone.ended_session_is_forgotten.Goals as goal

pub returns : goal.returns
returns c = forgotten
