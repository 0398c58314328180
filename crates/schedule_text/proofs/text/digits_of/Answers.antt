use Rattle.schedule_text.proofs.PairLemmas.{pair_is}
use Rattle.schedule_text.proofs.text.digits_of.Goals as goal

pub returns : goal.returns
returns c = pair_is c.args.byte c.ranges.byte.fits
