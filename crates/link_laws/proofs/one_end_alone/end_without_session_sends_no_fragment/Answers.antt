use Rattle.link_laws.proofs.machine.Runs.{no_fragment}
use Rattle.link_laws.proofs.one_end_alone.end_without_session_sends_no_fragment.Goals as goal

pub returns : goal.returns
returns c = no_fragment
