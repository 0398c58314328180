use Rattle.world_laws.proofs.histories.Histories.{tap_reports_history}
use Rattle.world_laws.proofs.taps_of_histories.tap_reports_what_was_got.Goals as goal

pub returns : goal.returns
returns c = tap_reports_history
