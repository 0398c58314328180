use Rattle.node_ends.proofs.Words.{List, Option, Port, Seat, ap, false, option_map_or, slice_get, ◌∙◌}
use Rattle.node_ends.proofs.Reading.{flag_is, is_there, is_none_there}
use Rattle.node_ends.proofs.Opening.{opened}
use Rattle.node_ends.proofs.ends.Ends.was_late.Goals as goal

pub returns-in-Some : goal.returns-in-Some
returns-in-Some c ports stands =
    let e = opened c.self.view_is stands in
    let l = c.in-Some.ensures.lookup in
    ap (λ (o : Option Seat). option_map_or (λ (s : Seat). s.late) o false)
    (is_there c.deref.result.now c.args.i c.in-Some.seat.now l.3.0 l.3.1 ∙ ap (λ (l : List Seat). slice_get l c.args.i) c.deref.ensures.value)
    ∙ flag_is c.self.inside.pool (λ (s : Seat). s.late) (λ (p : Port). p.late) (λ s p g. g.late) c.self.inside.seats.items ports c.args.i e.each

pub returns-in-None : goal.returns-in-None
returns-in-None c ports stands =
    let e = opened c.self.view_is stands in
    let l = c.in-None.ensures.lookup in
    ap (λ (o : Option Seat). option_map_or (λ (s : Seat). s.late) o false)
    (is_none_there c.deref.result.now c.args.i l.3 ∙ ap (λ (l : List Seat). slice_get l c.args.i) c.deref.ensures.value)
    ∙ flag_is c.self.inside.pool (λ (s : Seat). s.late) (λ (p : Port). p.late) (λ s p g. g.late) c.self.inside.seats.items ports c.args.i e.each
