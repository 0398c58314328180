use Rattle.shdlc_core.proofs.Histories.{new-Holds}
use Rattle.shdlc_core.proofs.laws.sessions_are_their_histories.Goals as goal

pub returns-clause-accepted : goal.returns-clause-accepted
returns-clause-accepted c = λ w inputs. (new-Holds w inputs).accepted

pub returns-clause-offered : goal.returns-clause-offered
returns-clause-offered c = λ w inputs. (new-Holds w inputs).offered

pub returns-clause-acked : goal.returns-clause-acked
returns-clause-acked c = λ w inputs. (new-Holds w inputs).acked
