use Rattle.lines_told.proofs.Words.{link_rests}
use Rattle.lines_told.proofs.messages.Law.{first_rest}
use Rattle.lines_told.proofs.messages_settle.first_rest_is_least.Goals as goal

pub returns : goal.returns
returns c = first_rest link_rests
