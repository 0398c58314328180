use Rattle.frame_laws.proofs.Remainder.{crc_is_remainder}
use Rattle.frame_laws.proofs.crc_is_what_division_leaves.Goals as goal

pub returns : goal.returns
returns c = crc_is_remainder
