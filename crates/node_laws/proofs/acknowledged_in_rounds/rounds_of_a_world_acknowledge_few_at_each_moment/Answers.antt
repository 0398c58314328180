use Rattle.node_laws.proofs.acked.AckedRounds.{amid_acks, each_amid, sound_behind}
use Rattle.node_laws.proofs.acknowledged_in_rounds.rounds_of_a_world_acknowledge_few_at_each_moment.Goals as goal

pub returns-clause-links : goal.returns-clause-links
returns-clause-links c hosts d legs m h s q front back e k order few = amid_acks _ h s (sound_behind hosts legs d m) q front back e k order few

pub returns-clause-each : goal.returns-clause-each
returns-clause-each c hosts d legs m front back e k order few b a = each_amid _ b (sound_behind hosts legs d m) front back e k order few a
