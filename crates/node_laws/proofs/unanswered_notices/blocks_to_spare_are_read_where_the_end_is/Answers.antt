use Rattle.node_laws.proofs.notices.Steps.{spare_is}
use Rattle.node_laws.proofs.unanswered_notices.blocks_to_spare_are_read_where_the_end_is.Goals as goal

pub returns : goal.returns
returns c = spare_is
