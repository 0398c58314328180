use Rattle.tap_reading.proofs.keeping.Acknowledging.{frame_stands, start_stands}
use Rattle.tap_reading.proofs.kept_taps.kept_tap_stands_for_what_was_heard.Goals as goal

pub returns-clause-start : goal.returns-clause-start
returns-clause-start c = start_stands

pub returns-clause-frame : goal.returns-clause-frame
returns-clause-frame c = frame_stands
