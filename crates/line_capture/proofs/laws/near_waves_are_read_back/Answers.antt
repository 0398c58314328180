use Rattle.line_capture.proofs.Near.{near_is_read}
use Rattle.line_capture.proofs.laws.near_waves_are_read_back.Goals as goal

pub returns : goal.returns
returns c = λ unit begin first end drawn some near edges. near_is_read unit begin first end drawn some near edges
