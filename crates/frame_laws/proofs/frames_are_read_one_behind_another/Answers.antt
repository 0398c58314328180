use Rattle.frame_laws.proofs.Whole.{all_are_judged}
use Rattle.frame_laws.proofs.frames_are_read_one_behind_another.Goals as goal

pub returns : goal.returns
returns c = λ seen spellings contents between spell. all_are_judged spellings contents seen between spell
