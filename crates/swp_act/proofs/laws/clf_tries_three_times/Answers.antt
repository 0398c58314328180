use Rattle.swp_act.proofs.TryLemmas.{clf_tries_first, clf_tries_later}
use Rattle.swp_act.proofs.laws.clf_tries_three_times.Goals as goal

pub returns : goal.returns
returns c = record { first = clf_tries_first; later = clf_tries_later }
