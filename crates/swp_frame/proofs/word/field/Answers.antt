use Rattle.swp_frame.proofs.Places.{shifted_field}
use Rattle.swp_frame.proofs.word.field.Goals as goal

pub returns : goal.returns
returns c = shifted_field c.args.word c.args.from c.args.width c.requires.within
