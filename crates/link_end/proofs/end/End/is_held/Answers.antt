use Rattle.link_end.proofs.Words.{ap, not}
use Rattle.link_end.proofs.«end».End.is_held.Goals as goal

pub returns : goal.returns
returns c pool m h = ap not (c.is_ready.ensures _ h.halfway.link.kept)
