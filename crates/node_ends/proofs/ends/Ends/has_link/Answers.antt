use Rattle.node_ends.proofs.Words.{Option, Port, ap, false, is_up, option_map_or, place_in, sym, ◌∙◌}
use Rattle.node_ends.proofs.Changing.{nowhere, lent_at}
use Rattle.node_ends.proofs.Opening.{opened}
use Rattle.node_ends.proofs.ends.Ends.has_link.Goals as goal

pub returns-in_default : goal.returns-in_default
returns-in_default c ports stands =
    ap (λ (o : Option Port). option_map_or (λ (p : Port). is_up p.side.shdlc.phase) o false)
    (sym (nowhere c.args.host (λ (p : Port). p) c.place_of.result (c.place_of.ensures.place ∙ ap (place_in c.args.host) c.as_slice.ensures.value)
    c.in_default.not-Some (opened c.self.view_is stands)).1)

pub returns : goal.returns
returns c ports stands =
    let e = opened c.self.view_is stands in
    let l = lent_at c.args.host c.in-Some.i c.index-seat.result.now
    (c.in-Some.ensures.place ∙ ap (place_in c.args.host) c.as_slice.ensures.value) c.index-seat.ensures e in
    c.is_up.ensures c.self.inside.pool l.port.side l.stands.holds
    ∙ ap (λ (o : Option Port). option_map_or (λ (p : Port). is_up p.side.shdlc.phase) o false) (sym l.port_is)
