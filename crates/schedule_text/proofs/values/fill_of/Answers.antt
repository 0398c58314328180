use Rattle.schedule_text.proofs.HexLemmas.{too_long}
use Rattle.schedule_text.proofs.values.fill_of.Goals as goal

pub returns-then-count-gt64 : goal.returns-then-count-gt64
returns-then-count-gt64 c = too_long c.args.word.now c.if-count-gt64.true c.requires
