use Rattle.world_laws.proofs.fragments.Runs.{reported}
use Rattle.world_laws.proofs.taps_of_fragments.tap_reports_what_was_got.Goals as goal

pub returns : goal.returns
returns c = reported
