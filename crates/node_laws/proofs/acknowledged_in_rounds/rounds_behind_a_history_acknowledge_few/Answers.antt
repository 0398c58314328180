use Rattle.node_laws.proofs.acked.AckedRounds.{rounds_acks, sound_of}
use Rattle.node_laws.proofs.acknowledged_in_rounds.rounds_behind_a_history_acknowledge_few.Goals as goal

pub returns : goal.returns
returns c header lines t follows are p front back q h s found r = rounds_acks r _ h s (sound_of header lines t follows are p front back q) found
