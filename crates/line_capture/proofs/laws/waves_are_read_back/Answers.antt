use Rattle.line_capture.proofs.Exact.{wave_is_read}
use Rattle.line_capture.proofs.laws.waves_are_read_back.Goals as goal

pub returns : goal.returns
returns c = λ unit begin periods some. wave_is_read unit begin periods some
