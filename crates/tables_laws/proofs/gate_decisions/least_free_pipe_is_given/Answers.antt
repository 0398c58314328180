use Rattle.tables_laws.proofs.gate.FreePipes.{lowest_free-least, lowest_free-none}
use Rattle.tables_laws.proofs.gate_decisions.least_free_pipe_is_given.Goals as goal

pub returns-clause-given : goal.returns-clause-given
returns-clause-given c = lowest_free-least

pub returns-clause-none : goal.returns-clause-none
returns-clause-none c = lowest_free-none
