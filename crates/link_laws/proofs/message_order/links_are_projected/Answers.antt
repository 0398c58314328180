use Rattle.link_laws.proofs.messages.Runs.{allowed, core_starts, projected}
use Rattle.link_laws.proofs.message_order.links_are_projected.Goals as goal

pub returns-clause-same : goal.returns-clause-same
returns-clause-same c = projected

pub returns-clause-allowed : goal.returns-clause-allowed
returns-clause-allowed c = allowed

pub returns-clause-start : goal.returns-clause-start
returns-clause-start c = core_starts
