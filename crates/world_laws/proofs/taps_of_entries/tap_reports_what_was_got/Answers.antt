use Rattle.world_laws.proofs.entries.Events.{tap_reports, tap_reports_lpdus}
use Rattle.world_laws.proofs.taps_of_entries.tap_reports_what_was_got.Goals as goal

pub returns-clause-frames : goal.returns-clause-frames
returns-clause-frames c = tap_reports

pub returns-clause-lpdus : goal.returns-clause-lpdus
returns-clause-lpdus c = tap_reports_lpdus
