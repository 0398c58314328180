use Rattle.link_end.proofs.StepLemmas.{passed}
use Rattle.link_end.proofs.«end».End.pass_over.Goals as goal

pub returns-clause-stands : goal.returns-clause-stands
returns-clause-stands c pool m h = passed pool c.args.self.now c.saturating_add-self.result m c.saturating_add-self.ensures h
