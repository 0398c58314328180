use Rattle.std.proofs.Common.{ap}
use Rattle.journal_laws.specs.Journal.{Journal}
use Rattle.journal_laws.proofs.Opening.{fresh, format_is_whole, format_state, format_is_cut, format_started, format_left}
use Rattle.journal_laws.proofs.a_format_is_all_or_nothing.Goals as goal

pub returns : goal.returns
returns c = record {
  fresh = fresh;
  state = format_state;
  records = λ content h. ap (λ (j : Journal). j.found.bodies) (format_is_whole content h);
  started = format_started;
  cut = format_is_cut;
  left = format_left;
}
