use Rattle.node_laws.proofs.order.Lines.{history_so}
use Rattle.node_laws.proofs.order.Sessions.{read_off}
use Rattle.node_laws.proofs.histories_in_order.histories_tell_of_each_link.Goals as goal

pub returns-clause-told : goal.returns-clause-told
returns-clause-told c = λ header lines t follows are playable front back q h s found.
    ((history_so header lines t follows are playable front back q).each h s found).told

pub returns-clause-read : goal.returns-clause-read
returns-clause-read c = λ header lines t follows are playable front back q h s found.
    read_off h s.link _ ((history_so header lines t follows are playable front back q).each h s found).told
