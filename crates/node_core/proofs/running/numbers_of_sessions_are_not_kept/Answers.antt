use Rattle.node_core.proofs.Between.{kept_alike}
use Rattle.node_core.proofs.running.numbers_of_sessions_are_not_kept.Goals as goal

pub returns : goal.returns
returns g c n core ports others same r = kept_alike ports others same r
