use Rattle.node_laws.proofs.notices.Steps.{asked_is, noticed_is}
use Rattle.node_laws.proofs.unanswered_notices.noticed_and_asked_hosts_are_read.Goals as goal

pub returns : goal.returns
returns c = record { noticed = noticed_is; asked = asked_is }
