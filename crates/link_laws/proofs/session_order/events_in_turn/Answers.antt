use Rattle.link_laws.proofs.sessions.Steps.{after-append}
use Rattle.link_laws.proofs.session_order.events_in_turn.Goals as goal

pub returns : goal.returns
returns c = after-append
