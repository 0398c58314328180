use Rattle.node_core.proofs.Between.{error_desks}
use Rattle.node_core.proofs.running.a_refused_frame_counts_at_its_desk.Goals as goal

pub returns : goal.returns
returns c host ports = error_desks host ports
