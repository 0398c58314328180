use Rattle.node_ends.proofs.Words.{Port, ap, place_in, ◌∙◌}
use Rattle.node_ends.proofs.Opening.{opened}
use Rattle.node_ends.proofs.Changing.{becomes_at, still_nowhere}
use Rattle.node_ends.proofs.Beside.{errors_set}
use Rattle.node_ends.proofs.ends.Ends.set_errors.Goals as goal

pub returns-in_default : goal.returns-in_default
returns-in_default c ports stands =
    still_nowhere c.args.host (λ (p : Port). record p { desk = record p.desk { errors = c.args.errors } }) c.place_of.result
    (c.place_of.ensures.place ∙ ap (place_in c.args.host) c.as_slice.ensures.value) c.in_default.not-Some c.self.view_is stands

pub returns-in-Some : goal.returns-in-Some
returns-in-Some c ports stands =
    becomes_at ports c.args.host c.in-Some.i c.index_mut-seat.result.now _ (c.in-Some.ensures.place ∙ ap (place_in c.args.host) c.as_slice.ensures.value)
    c.index_mut-seat.ensures.value (errors_set c.self.inside.pool c.index_mut-seat.result.now c.args.errors) (opened c.self.view_is stands)

pub invariant_of-self : goal.invariant_of-self
invariant_of-self c =
    let i = c.self.invariant in (
      _,
      becomes_at i.0 c.args.host c.in-Some.i c.index_mut-seat.result.now _ (c.in-Some.ensures.place ∙ ap (place_in c.args.host) c.as_slice.ensures.value)
          c.index_mut-seat.ensures.value (errors_set c.self.inside.pool c.index_mut-seat.result.now c.args.errors) i.1,
    )
