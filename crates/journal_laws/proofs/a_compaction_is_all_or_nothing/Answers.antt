use Rattle.std.proofs.Common.{ap}
use Rattle.journal_laws.specs.Journal.{Journal}
use Rattle.journal_laws.proofs.Opening.{compact_whole, compact_says, compact_count, compact_cut, compact_started}
use Rattle.journal_laws.proofs.a_compaction_is_all_or_nothing.Goals as goal

pub returns : goal.returns
returns c = record {
  state = compact_says;
  records = λ content bodies started h. ap (λ (j : Journal). j.found.bodies) (compact_whole content bodies started h);
  started = compact_started;
  count = compact_count;
  cut = compact_cut;
}
