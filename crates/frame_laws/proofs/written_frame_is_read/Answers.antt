use Rattle.frame_laws.proofs.Whole.{frame_is_read}
use Rattle.frame_laws.proofs.Content.{right_content}
use Rattle.frame_laws.proofs.written_frame_is_read.Goals as goal

pub returns : goal.returns
returns c = λ lpdu sized bytes. frame_is_read lpdu (right_content lpdu sized bytes)
