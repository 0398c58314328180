use Rattle.node_ends.proofs.Words.{Option, Port, ap, false, is_held, option_map_or, place_in, sym, without_got, ◌∙◌}
use Rattle.node_ends.proofs.Opening.{opened}
use Rattle.node_ends.proofs.Changing.{lent_at, nowhere}
use Rattle.node_ends.proofs.ends.Ends.is_held.Goals as goal

pub returns-in_default : goal.returns-in_default
returns-in_default c ports stands =
    ap (λ (o : Option Port). option_map_or (λ (p : Port). is_held p.side) o false)
    (sym (nowhere c.args.host (λ (p : Port). p) c.place_of.result (c.place_of.ensures.place ∙ ap (place_in c.args.host) c.as_slice.ensures.value)
    c.in_default.not-Some (opened c.self.view_is stands)).1)

pub returns : goal.returns
returns c ports stands =
    let e = opened c.self.view_is stands in
    let l = lent_at c.args.host c.in-Some.i c.index-seat.result.now
    (c.in-Some.ensures.place ∙ ap (place_in c.args.host) c.as_slice.ensures.value) c.index-seat.ensures e in
    c.is_held.ensures c.self.inside.pool (without_got l.port.side) l.stands.holds.stands
    ∙ ap (λ (o : Option Port). option_map_or (λ (p : Port). is_held p.side) o false) (sym l.port_is)
