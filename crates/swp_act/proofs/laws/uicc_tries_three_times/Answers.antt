use Rattle.swp_act.proofs.TryLemmas.{uicc_tries}
use Rattle.swp_act.proofs.laws.uicc_tries_three_times.Goals as goal

pub returns : goal.returns
returns c = uicc_tries
