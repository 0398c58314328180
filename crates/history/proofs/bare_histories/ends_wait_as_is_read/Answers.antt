use Rattle.history.proofs.waits.Histories.{waits_read}
use Rattle.history.proofs.bare_histories.ends_wait_as_is_read.Goals as goal

pub returns : goal.returns
returns c = record { waits = waits_read }
