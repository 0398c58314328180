use Rattle.node_laws.proofs.order.Upheld.{resets_upheld, ticks_upheld}
use Rattle.node_laws.proofs.histories_in_order.resets_bring_both_up_in_each_history.Goals as goal

pub returns-clause-by_line : goal.returns-clause-by_line
returns-clause-by_line c = resets_upheld

pub returns-clause-in_tick : goal.returns-clause-in_tick
returns-clause-in_tick c = ticks_upheld
