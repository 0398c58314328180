use Rattle.node_ends.proofs.Words.{Bool, Seat, YieldsList-from_slice, any_from_yields_List, ap, is_some, list_any, rules, tests, ◌∙◌}
use Rattle.node_ends.proofs.Reading.{notices_are}
use Rattle.node_ends.proofs.Opening.{opened}
use Rattle.node_ends.proofs.ends.Ends.have_notices.Goals as goal

pub returns : goal.returns
returns c ports stands =
    let e = opened c.self.view_is stands in
    let test : Seat → Bool = λ s. is_some s.desk.notice in
    any_from_yields_List test _ _ _ c.any.ensures.ran (YieldsList-from_slice c.as_slice.result.now cc) (λ x b q k. search (rules, tests))
    ∙ (ap (list_any test) c.as_slice.ensures.value ∙ notices_are c.self.inside.pool c.self.inside.seats.items ports e.each)
