use Rattle.world_laws.proofs.Words.{arith, first_rest, link_after_round, link_rests, rounds_to_settle}
use Rattle.world_laws.proofs.links.RoundCauses.{settles, rounds_are, ticks_are}
use Rattle.world_laws.proofs.bare_rounds_as_causes.settling_causes_are_those_of_rounds.Goals as goal

pub returns-clause-least : goal.returns-clause-least
returns-clause-least c = λ n h l. first_rest link_rests (link_after_round h) n l

pub returns-clause-settles : goal.returns-clause-settles
returns-clause-settles c = settles

pub returns-clause-are : goal.returns-clause-are
returns-clause-are c = λ n h l. rounds_are h (rounds_to_settle n h l) l

pub returns-clause-ticks : goal.returns-clause-ticks
returns-clause-ticks c = λ n h l. ticks_are h (rounds_to_settle n h l) l

pub returns-clause-most : goal.returns-clause-most
returns-clause-most c = λ n h l.
    omega (arith, ticks_are h (rounds_to_settle n h l) l, (first_rest link_rests (link_after_round h) n l).most)
