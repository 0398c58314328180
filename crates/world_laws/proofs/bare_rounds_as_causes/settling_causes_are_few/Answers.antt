use Rattle.world_laws.proofs.Words.{arith, first_rest, link_after_round, link_rests, rounds_to_settle}
use Rattle.world_laws.proofs.links.RoundCauses.{rounds_few, bare_few}
use Rattle.world_laws.proofs.bare_rounds_as_causes.settling_causes_are_few.Goals as goal

pub returns-clause-few : goal.returns-clause-few
returns-clause-few c = λ n h l near far. rounds_few h (rounds_to_settle n h l) l (record { to_controller = near; to_host = far })

pub returns-clause-most : goal.returns-clause-most
returns-clause-most c = λ n h l near far.
    let most = (first_rest link_rests (link_after_round h) n l).most in
    omega (arith, rounds_few h (rounds_to_settle n h l) l (record { to_controller = near; to_host = far }), most)

pub returns-clause-to_controller : goal.returns-clause-to_controller
returns-clause-to_controller c = λ causes. (bare_few causes).to_controller

pub returns-clause-to_host : goal.returns-clause-to_host
returns-clause-to_host c = λ causes. (bare_few causes).to_host
