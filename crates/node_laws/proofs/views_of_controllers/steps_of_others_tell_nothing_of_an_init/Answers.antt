use Rattle.node_laws.proofs.Words.{Controller, Host, cond, eqb, refl}
use Rattle.node_laws.proofs.views.Going.{others_step}
use Rattle.node_laws.proofs.views_of_controllers.steps_of_others_tell_nothing_of_an_init.Goals as goal

pub returns : goal.returns
returns c = λ h n hosts r plan near_ends es input other has off so.
    others_step h n other (cond (eqb n 0) Controller Host) refl hosts r plan near_ends es input has off so
