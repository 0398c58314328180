use Rattle.std.specs.Prelude.{not}
use Rattle.link_end.proofs.StepLemmas.{held}
use Rattle.link_end.proofs.«end».End.hold.Goals as goal

pub returns-clause-stands : goal.returns-clause-stands
returns-clause-stands c pool m h = held pool c.args.self.now c.set_ready.new.self m (not c.args.held) c.set_ready.ensures.stands h
