use Rattle.node_ends.proofs.Words.{Option, Port, ap, false, is_over, option_map_or, place_in, sym, ◌||◌, ◌∙◌}
use Rattle.node_ends.proofs.Changing.{nowhere, lent_at}
use Rattle.node_ends.proofs.Over.{over_is}
use Rattle.node_ends.proofs.Opening.{opened}
use Rattle.node_ends.proofs.ends.Ends.is_over.Goals as goal

pub returns-in_default : goal.returns-in_default
returns-in_default c ports stands =
    let e = opened c.self.view_is stands in
    ap (λ (o : Option Port). option_map_or is_over o false)
    (sym (nowhere c.args.host (λ (p : Port). p) c.place_of.result (c.place_of.ensures.place ∙ ap (place_in c.args.host) c.as_slice.ensures.value)
    c.in_default.not-Some e).1)
    ∙ sym (over_is c.args.host e)

pub returns : goal.returns
returns c ports stands =
    let e = opened c.self.view_is stands in
    let l = lent_at c.args.host c.in-Some.i c.index-seat.result.now
    (c.in-Some.ensures.place ∙ ap (place_in c.args.host) c.as_slice.ensures.value) c.index-seat.ensures e in
    c.is_over.ensures
    ∙ (ap (λ b. b || c.index-seat.result.now.late) l.stands.ended ∙ (ap (λ b. l.port.ended || b) l.stands.late
    ∙ (ap (λ (o : Option Port). option_map_or is_over o false) (sym l.port_is) ∙ sym (over_is c.args.host e))))
