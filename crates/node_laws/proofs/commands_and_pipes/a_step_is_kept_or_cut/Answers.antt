use Rattle.node_laws.proofs.Words.{Some, refl}
use Rattle.node_laws.proofs.kept.Doing.{all_fine, same_new}
use Rattle.node_laws.proofs.kept.Stepping.{steps_fine}
use Rattle.node_laws.proofs.commands_and_pipes.a_step_is_kept_or_cut.Goals as goal

pub returns : goal.returns
returns c = record {
  deeds = λ n hosts old before h deeds w runs may fit. all_fine n hosts old before h deeds w (Some w.core.journal) runs refl may w.ports (same_new w.ports) fit;
  step = λ n hosts old before input w node are runs on. steps_fine n hosts old before node are input w runs on;
}
