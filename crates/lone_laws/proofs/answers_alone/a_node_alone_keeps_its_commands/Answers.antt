use Rattle.lone_laws.proofs.answered.Runs.{end_held, run_held}
use Rattle.lone_laws.proofs.answers_alone.a_node_alone_keeps_its_commands.Goals as goal

pub returns-clause-held : goal.returns-clause-held
returns-clause-held c number link m some most its ready causes = run_held number link some most its m ready causes

pub returns-clause-ends : goal.returns-clause-ends
returns-clause-ends c form is_clf m ready bytes = end_held form is_clf m ready bytes
