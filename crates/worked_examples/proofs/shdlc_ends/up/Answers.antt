use Rattle.shdlc_core.specs.Machine.{new_end}
use Rattle.worked_examples.proofs.shdlc_ends.up.Goals as goal

pub returns : goal.returns
returns c = (c.begin.ensures (new_end 4) c.new-end.ensures).due
