use Rattle.node_laws.proofs.Words.{own_side, refl}
use Rattle.node_laws.proofs.readings.Noting.{steps_away}
use Rattle.node_laws.proofs.notices_and_commands.steps_of_others_tell_nothing_of_it.Goals as goal

pub returns : goal.returns
returns c = λ h input w another silent.
    (steps_away h w.core.node another.other (own_side w.core) input w (record { number = refl; side = refl; ends = another.ends; so = silent })).so
