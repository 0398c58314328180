use Rattle.node_ends.proofs.Words.{DeskOf, Option, Port, ap, false, option_map_or, place_in, sym, ◌∙◌}
use Rattle.node_ends.proofs.Changing.{nowhere, lent_at}
use Rattle.node_ends.proofs.Opening.{opened}
use Rattle.node_ends.proofs.ends.Ends.holds.Goals as goal

pub returns-in_default : goal.returns-in_default
returns-in_default c ports stands =
    ap (λ (o : Option Port). option_map_or (λ (p : Port). p.desk.holds) o false)
    (sym (nowhere c.args.host (λ (p : Port). p) c.place_of.result (c.place_of.ensures.place ∙ ap (place_in c.args.host) c.as_slice.ensures.value)
    c.in_default.not-Some (opened c.self.view_is stands)).1)

pub returns : goal.returns
returns c ports stands =
    let e = opened c.self.view_is stands in
    let l = lent_at c.args.host c.in-Some.i c.index-seat.result.now
    (c.in-Some.ensures.place ∙ ap (place_in c.args.host) c.as_slice.ensures.value) c.index-seat.ensures e in
    ap (λ (d : DeskOf). d.holds) l.stands.desk
    ∙ ap (λ (o : Option Port). option_map_or (λ (p : Port). p.desk.holds) o false) (sym l.port_is)
