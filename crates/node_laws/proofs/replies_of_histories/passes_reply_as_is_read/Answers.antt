use Rattle.node_laws.proofs.Words.{ComesTo, hosts_of_ends, passes}
use Rattle.node_laws.specs.passes.Passing.ComesTo.{Begins}
use Rattle.node_laws.proofs.passes.Passing.{comes_lasts}
use Rattle.node_laws.proofs.replies.Passes.{held_for, held_lacks, split_of, turn_replied, walked}
use Rattle.node_laws.proofs.replies_of_histories.passes_reply_as_is_read.Goals as goal

pub returns : goal.returns
returns c = record {
  turns = λ hosts are t w a beside front back e pid message is m same rest none.
      turn_replied hosts are t (ComesTo w) (comes_lasts w) beside w (passes w) (hosts_of_ends w.ports)
      (walked hosts are t (ComesTo w) (comes_lasts w) beside w (a, Begins)) front back e pid message
      (split_of hosts are t (ComesTo w) (comes_lasts w) beside w (a, Begins) _ is) m same rest none;
  lacks = λ hosts are t w a beside front back e need spare is m same.
      held_lacks hosts are t (ComesTo w) (comes_lasts w) beside w (passes w) (hosts_of_ends w.ports)
      (walked hosts are t (ComesTo w) (comes_lasts w) beside w (a, Begins)) front back e need spare
      (split_of hosts are t (ComesTo w) (comes_lasts w) beside w (a, Begins) _ is) m same;
  held = λ hosts are t w a beside read front back e need spare is m same rest.
      held_for hosts are t (ComesTo w) (comes_lasts w) beside w (passes w) (hosts_of_ends w.ports)
      (walked hosts are t (ComesTo w) (comes_lasts w) beside w (a, Begins)) read front back e need spare
      (split_of hosts are t (ComesTo w) (comes_lasts w) beside w (a, Begins) _ is) m same rest;
}
