use Rattle.node_laws.proofs.Words.{comes_to_pass, passes}
use Rattle.node_laws.proofs.passes.InSteps.{before_entries, before_hosts, before_none}
use Rattle.node_laws.proofs.passes_of_steps.steps_note_before_they_pass.Goals as goal
use Rattle.node_laws.proofs.kept.Doing.{uncut, stays_cut}

pub returns-clause-before : goal.returns-clause-before
returns-clause-before c = before_entries

pub returns-clause-no_turns : goal.returns-clause-no_turns
returns-clause-no_turns c = before_none

pub returns-clause-ends : goal.returns-clause-ends
returns-clause-ends c = before_hosts

pub returns-clause-without_power : goal.returns-clause-without_power
returns-clause-without_power c = λ input w off. stays_cut passes (comes_to_pass input w) off

pub returns-clause-with_power : goal.returns-clause-with_power
returns-clause-with_power c = λ input w on. uncut passes (comes_to_pass input w) on
