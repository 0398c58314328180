use Rattle.node_core.proofs.Becoming.{becomes_ready}
use Rattle.node_core.proofs.running.a_reset_of_an_end_that_became_active_is_not_refused.Goals as goal

pub returns : goal.returns
returns g c n noted short start w h i p b at became = becomes_ready h i p b at became
