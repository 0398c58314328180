use Rattle.frame_laws.proofs.Unstuffing.{spelled_is_read}
use Rattle.frame_laws.proofs.spelled_content_is_read.Goals as goal

pub returns : goal.returns
returns c = spelled_is_read
