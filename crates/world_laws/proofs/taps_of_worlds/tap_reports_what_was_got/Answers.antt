use Rattle.world_laws.proofs.tapped_worlds.OnLinks.{tap_reports_world}
use Rattle.world_laws.proofs.taps_of_worlds.tap_reports_what_was_got.Goals as goal

pub returns : goal.returns
returns c = tap_reports_world
