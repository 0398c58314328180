use Rattle.frame_laws.proofs.Existence.{spells_what_is_read}
use Rattle.frame_laws.proofs.bits_spell_what_is_read.Goals as goal

pub returns : goal.returns
returns c = spells_what_is_read
