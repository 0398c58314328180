use Rattle.node_laws.proofs.worlds.FramesLast.{schedule_emits}
use Rattle.node_laws.proofs.answers_of_worlds.frames_go_out_last.Goals as goal

pub returns : goal.returns
returns c = record { emitted = schedule_emits }
