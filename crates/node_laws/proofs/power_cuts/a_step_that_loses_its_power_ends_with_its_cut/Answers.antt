use Rattle.node_laws.proofs.Words.{steps}
use Rattle.node_laws.proofs.kept.Stepping.{steps_fine}
use Rattle.node_laws.proofs.cuts.Ticking.{lost_ends}
use Rattle.node_laws.proofs.telling.Shapes.{frames_none as no_frames}
use Rattle.node_laws.proofs.power_cuts.a_step_that_loses_its_power_ends_with_its_cut.Goals as goal

pub returns : goal.returns
returns c = record {
  step = λ n hosts old before input w node are runs on cut.
      lost_ends n hosts old before (steps input w) (steps_fine n hosts old before node are input w runs on) cut;
  frames = no_frames;
}
