-- When nothing is under way at a link end.
use Rattle.std.specs.Prelude.{◌≡◌, []}
use Rattle.link_laws.specs.machine.Machine.{LinkEnd as Machine, report, after_input, frames_out, sent_all}
use Rattle.link_laws.specs.machine.Machine.LinkInput.{Tick}
use Rattle.link_end.specs.Reports.{report_told, nothing_told}

-- a tick changes nothing there and tells nothing, and no frame is to be sent
pub record IsIdle (m : Machine) : Type 0 where
  pub same : after_input m Tick ≡ m
  pub told : report_told (report m Tick) ≡ nothing_told
  pub frames : frames_out m ≡ []
  pub sent : sent_all m ≡ m
