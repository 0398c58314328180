use Rattle.tap_reading.proofs.keeping.Acknowledging.{kept_is_enough, kept_is_small}
use Rattle.tap_reading.proofs.kept_taps.kept_tap_reports_the_same.Goals as goal

pub returns-clause-same : goal.returns-clause-same
returns-clause-same c = kept_is_enough

pub returns-clause-small : goal.returns-clause-small
returns-clause-small c = kept_is_small
