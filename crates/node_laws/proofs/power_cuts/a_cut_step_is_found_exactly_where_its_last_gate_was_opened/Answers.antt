use Rattle.node_laws.proofs.cuts.Standing.{step_closed, step_opened}
use Rattle.node_laws.proofs.power_cuts.a_cut_step_is_found_exactly_where_its_last_gate_was_opened.Goals as goal

pub returns : goal.returns
returns c = record { opened = step_opened; closed = step_closed }
