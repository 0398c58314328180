use Rattle.node_laws.proofs.notices.Telling.{controller_free}
use Rattle.node_laws.proofs.unanswered_notices.no_notice_takes_the_place_of_another.Goals as goal

pub returns : goal.returns
returns c = controller_free
