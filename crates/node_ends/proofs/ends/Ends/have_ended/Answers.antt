use Rattle.node_ends.proofs.Words.{Bool, Seat, YieldsList-from_slice, any_from_yields_List, ap, list_any, rules, tests, ◌||◌, ◌∙◌}
use Rattle.node_ends.proofs.Reading.{ended_are}
use Rattle.node_ends.proofs.Opening.{opened}
use Rattle.node_ends.proofs.ends.Ends.have_ended.Goals as goal

pub returns : goal.returns
returns c ports stands =
    let test : Seat → Bool = λ s. s.ended || s.late in
    any_from_yields_List test _ _ _ c.any.ensures.ran (YieldsList-from_slice c.as_slice.result.now cc) (λ x b q k. search (rules, tests))
    ∙ (ap (list_any test) c.as_slice.ensures.value ∙ ended_are c.self.inside.pool c.self.inside.seats.items ports (opened c.self.view_is stands).each)
