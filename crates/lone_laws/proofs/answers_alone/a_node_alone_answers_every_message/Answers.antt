use Rattle.lone_laws.proofs.answered.Runs.{end_answered}
use Rattle.lone_laws.proofs.answered.Whole.{lone_answered}
use Rattle.lone_laws.proofs.answers_alone.a_node_alone_answers_every_message.Goals as goal

pub returns-clause-answered : goal.returns-clause-answered
returns-clause-answered c number link m some most its causes = lone_answered number link some most its m causes

pub returns-clause-ends : goal.returns-clause-ends
returns-clause-ends c form is_clf m bytes = end_answered form is_clf m bytes
