use Rattle.std.proofs.Common.{◌∙◌}
use Rattle.swp_crc.proofs.FourSteps.{push_four_step}
use Rattle.swp_crc.proofs.register.Register.push_four.Goals as goal

pub returns : goal.returns
returns c = λ bytes is.
    push_four_step c.args.four.now bytes c.told-four c.fits-four (c.self.view_is ∙ is)
    c.entry_before_three.ensures c.entry_before_two.ensures c.entry_before_one.ensures c.entry.ensures
