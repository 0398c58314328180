use Rattle.node_laws.proofs.acked.AckedRounds.{rounds_acks, each_rounds, sound_behind}
use Rattle.node_laws.proofs.acknowledged_in_rounds.rounds_of_a_world_acknowledge_few.Goals as goal

pub returns-clause-links : goal.returns-clause-links
returns-clause-links c hosts d legs m h s q r = rounds_acks r _ h s (sound_behind hosts legs d m) q

pub returns-clause-each : goal.returns-clause-each
returns-clause-each c hosts d legs m b r a = each_rounds r _ b (sound_behind hosts legs d m) a
