use Rattle.std.proofs.lemmas.Iterator.Search.{position_from_yields_List}
use Rattle.node_ends.proofs.Words.{Seat, YieldsList-from_slice, eqb, rules, sym, tests, ◌∙◌}
use Rattle.node_ends.proofs.Placing.{place_is}
use Rattle.node_ends.proofs.places.place_of.Goals as goal

pub returns-clause-place : goal.returns-clause-place
returns-clause-place c =
    position_from_yields_List (λ (s : Seat). eqb s.desk.host c.args.host) _ _ _ c.position.ensures.ran (YieldsList-from_slice c.args.seats.now cc)
    (λ x b q k. search (rules, tests))
    ∙ sym (place_is c.args.host c.args.seats.now)
