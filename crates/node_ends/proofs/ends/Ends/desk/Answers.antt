use Rattle.node_ends.proofs.Words.{List, Seat, ap, desk_shown, option_map, slice_get, ◌∙◌}
use Rattle.node_ends.proofs.Reading.{desk_is, is_there, is_none_there}
use Rattle.node_ends.proofs.Opening.{opened}
use Rattle.node_ends.proofs.ends.Ends.desk.Goals as goal

pub returns-in-Some : goal.returns-in-Some
returns-in-Some c ports stands =
    let l = c.in-Some.ensures.lookup in
    ap (option_map (λ (s : Seat). desk_shown s.desk))
    (is_there c.deref.result.now c.args.i c.in-Some.seat.now l.3.0 l.3.1 ∙ ap (λ (l : List Seat). slice_get l c.args.i) c.deref.ensures.value)
    ∙ desk_is c.self.inside.pool c.self.inside.seats.items ports c.args.i (opened c.self.view_is stands).each

pub returns-in-None : goal.returns-in-None
returns-in-None c ports stands =
    let l = c.in-None.ensures.lookup in
    ap (option_map (λ (s : Seat). desk_shown s.desk))
    (is_none_there c.deref.result.now c.args.i l.3 ∙ ap (λ (l : List Seat). slice_get l c.args.i) c.deref.ensures.value)
    ∙ desk_is c.self.inside.pool c.self.inside.seats.items ports c.args.i (opened c.self.view_is stands).each
