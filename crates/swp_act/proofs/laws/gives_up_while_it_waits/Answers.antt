use Rattle.swp_act.proofs.TryLemmas.{uicc_gives_up, clf_gives_up}
use Rattle.swp_act.proofs.laws.gives_up_while_it_waits.Goals as goal

pub returns : goal.returns
returns c = record { uicc = uicc_gives_up; clf = clf_gives_up }
