use Rattle.swp_crc.proofs.Steps.{push_step}
use Rattle.std.proofs.Common.{◌∙◌}
use Rattle.swp_crc.proofs.register.Register.push.Goals as goal

pub returns : goal.returns
returns c = λ bytes is. push_step c.self.inside.remainder c.args.byte c.entry.result bytes c.ranges.byte.fits (c.self.view_is ∙ is) c.entry.ensures
