use Rattle.node_laws.proofs.acked.AckedRounds.{all_acks, amid_fit, legs_fit}
use Rattle.node_laws.proofs.acknowledged_in_rounds.frames_and_rounds_bound_what_is_acknowledged.Goals as goal

pub returns-clause-each : goal.returns-clause-each
returns-clause-each c hosts d legs m = all_acks hosts legs d m

pub returns-clause-fit : goal.returns-clause-fit
returns-clause-fit c hosts d legs m few h s q = legs_fit hosts legs d m few h s q

pub returns-clause-fit_in_midst : goal.returns-clause-fit_in_midst
returns-clause-fit_in_midst c hosts d legs m few front back e k order most h s q = amid_fit hosts legs d m few front back e k order most h s q
