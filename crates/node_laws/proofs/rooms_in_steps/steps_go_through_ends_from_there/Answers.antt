use Rattle.node_laws.proofs.Words.{refl}
use Rattle.node_laws.proofs.rooms_in_steps.steps_go_through_ends_from_there.Goals as goal

pub returns : goal.returns
returns c = record { pass = λ input w. refl; controller = λ w r h comes f. refl; host = λ s r comes f. refl }
