use Rattle.node_laws.proofs.telling.Lasting.{worlds_are_orderly}
use Rattle.node_laws.proofs.links_told.worlds_stay_orderly.Goals as goal

pub returns : goal.returns
returns c = worlds_are_orderly
