use Rattle.swp_crc.proofs.Steps.{crc_step}
use Rattle.std.proofs.Common.{◌∙◌}
use Rattle.swp_crc.proofs.register.Register.crc.Goals as goal

pub returns : goal.returns
returns c = λ bytes is. crc_step c.self.inside.remainder bytes (c.self.view_is ∙ is)
