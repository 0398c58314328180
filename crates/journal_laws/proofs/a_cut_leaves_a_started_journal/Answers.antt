use Rattle.std.proofs.Common.{ap}
use Rattle.journal_laws.specs.Journal.{Journal}
use Rattle.journal_laws.specs.Operations.{outcome}
use Rattle.journal_laws.proofs.Opening.{cut_started, same_count}
use Rattle.journal_laws.proofs.a_cut_leaves_a_started_journal.Goals as goal

pub returns : goal.returns
returns c = record {
  started = cut_started;
  records = λ content writes k left whole cut. ap (λ (j : Journal). j.found.bodies) (whole.says k left cut);
  count = λ content writes k left whole cut. same_count left (outcome k writes content left) (whole.says k left cut);
}
