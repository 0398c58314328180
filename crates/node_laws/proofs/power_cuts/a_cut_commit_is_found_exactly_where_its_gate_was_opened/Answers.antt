use Rattle.node_laws.proofs.cuts.Commits.{planned_opened, planned_closed, planned_only}
use Rattle.node_laws.proofs.power_cuts.a_cut_commit_is_found_exactly_where_its_gate_was_opened.Goals as goal

pub returns : goal.returns
returns c = record { opened = planned_opened; closed = planned_closed; only = planned_only }
