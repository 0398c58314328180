use Rattle.node_laws.proofs.acked.AckedRounds.{counts_within, sound_behind}
use Rattle.node_laws.proofs.acknowledged_in_rounds.messages_of_a_world_are_acknowledged_by_their_fragments.Goals as goal

pub returns : goal.returns
returns c hosts d legs m h s q = counts_within _ h s (sound_behind hosts legs d m) q
