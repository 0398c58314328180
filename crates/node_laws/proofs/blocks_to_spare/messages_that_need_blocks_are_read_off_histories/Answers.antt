use Rattle.node_laws.proofs.order.Lines.{history_so}
use Rattle.node_laws.proofs.rooms.Holding.{held}
use Rattle.node_laws.proofs.blocks_to_spare.messages_that_need_blocks_are_read_off_histories.Goals as goal

pub returns : goal.returns
returns c = λ header lines t follows are playable front back q h s found.
    held h s.link _ ((history_so header lines t follows are playable front back q).each h s found).told
