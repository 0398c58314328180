use Rattle.node_laws.proofs.order.Upheld.{legal}
use Rattle.node_laws.proofs.schedules.Ranges.{hosts_are, playable, sent_by_hosts}
use Rattle.node_laws.proofs.schedules.Few.{are_few}
use Rattle.node_laws.proofs.histories_of_schedules.every_history_of_a_schedule_is_legal.Goals as goal

pub returns : goal.returns
returns c = λ header lines t follows nodes are most.
    legal header lines t follows (hosts_are header nodes) (playable header lines are) (sent_by_hosts header lines nodes are)
    (are_few header lines t follows nodes are most)
