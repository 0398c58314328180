use Rattle.std.proofs.Common.{ap}
use Rattle.journal_laws.specs.Journal.{Journal}
use Rattle.journal_laws.proofs.Opening.{append_whole, append_says, append_count, append_cut, append_started}
use Rattle.journal_laws.proofs.an_append_is_all_or_nothing.Goals as goal

pub returns : goal.returns
returns c = record {
  state = append_says;
  records = λ content body started h. ap (λ (j : Journal). j.found.bodies) (append_whole content body started h);
  started = append_started;
  count = append_count;
  cut = append_cut;
}
