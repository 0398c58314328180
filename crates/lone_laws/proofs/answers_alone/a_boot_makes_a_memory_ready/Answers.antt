use Rattle.lone_laws.proofs.answered.Runs.{counts_all, finds_same, is_ready}
use Rattle.lone_laws.proofs.answers_alone.a_boot_makes_a_memory_ready.Goals as goal

pub returns-clause-ready : goal.returns-clause-ready
returns-clause-ready c content taken = is_ready content taken

pub returns-clause-same : goal.returns-clause-same
returns-clause-same c content taken = finds_same content taken

pub returns-clause-counts : goal.returns-clause-counts
returns-clause-counts c content taken which = counts_all content taken which
