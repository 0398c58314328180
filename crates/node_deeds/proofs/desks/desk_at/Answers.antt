-- The desk that is found is the first of its host.
use Rattle.std.proofs.lemmas.Iterator.Search.{find_from_yields_List}
use Rattle.node_deeds.proofs.Words.{YieldsList-from_slice, eqb, rules, tests}
use Rattle.node_deeds.specs.declared.desks.Desk.{Desk}
use Rattle.node_deeds.proofs.desks.desk_at.Goals as goal

pub returns : goal.returns
returns c =
    find_from_yields_List (λ (d : Desk). eqb d.host c.args.host) _ _ _ c.find.ensures.ran (YieldsList-from_slice c.args.desks.now cc)
    (λ x b q k. search (rules, tests))
