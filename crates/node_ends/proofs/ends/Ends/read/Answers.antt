use Rattle.node_ends.proofs.Words.{Option, Port, [], ap, messages_waiting, option_map_or, place_in, ◌∙◌}
use Rattle.node_ends.proofs.Changing.{nowhere, lent_at}
use Rattle.node_ends.proofs.Moving.{waiting_live}
use Rattle.node_ends.proofs.Opening.{opened}
use Rattle.node_ends.proofs.Reading.{waits_read}
use Rattle.node_ends.proofs.ends.Ends.read.Goals as goal

pub returns-in_default-clause-waits : goal.returns-in_default-clause-waits
returns-in_default-clause-waits c ports stands =
    ap (λ (o : Option Port). option_map_or (λ (p : Port). p.side.got) o [])
    (nowhere c.args.host (λ (p : Port). p) c.place_of.result (c.place_of.ensures.place ∙ ap (place_in c.args.host) c.as_slice.ensures.value)
    c.in_default.not-Some (opened c.self.view_is stands)).1

pub copy_out-len-requires-clause-live : goal.copy_out-len-requires-clause-live
copy_out-len-requires-clause-live c =
    let l = lent_at c.args.host c.in-Some.i c.index-seat.result.now
    (c.in-Some.ensures.place ∙ ap (place_in c.args.host) c.as_slice.ensures.value) c.index-seat.ensures c.self.invariant.1 in
    waiting_live c.in-Some-waiting.waiting c.in-Some-waiting.is l.stands.holds

pub returns-in-Some-waiting-clause-waits : goal.returns-in-Some-waiting-clause-waits
returns-in-Some-waiting-clause-waits c ports stands =
    let l = lent_at c.args.host c.in-Some.i c.index-seat.result.now
    (c.in-Some.ensures.place ∙ ap (place_in c.args.host) c.as_slice.ensures.value) c.index-seat.ensures (opened c.self.view_is stands) in
    let copied = c.copy_out-len in
    ap (λ (o : Option Port). option_map_or (λ (p : Port). p.side.got) o []) l.port_is
    ∙ waits_read c.in-Some-waiting.waiting copied.result c.args.buffer.now copied.new.out c.in-Some-waiting.is l.stands.holds c.requires.buffer
    copied.ensures.count copied.ensures.copied

pub returns-in-None-clause-waits : goal.returns-in-None-clause-waits
returns-in-None-clause-waits c ports stands =
    let l = lent_at c.args.host c.in-Some.i c.index-seat.result.now
    (c.in-Some.ensures.place ∙ ap (place_in c.args.host) c.as_slice.ensures.value) c.index-seat.ensures (opened c.self.view_is stands) in
    ap (λ (o : Option Port). option_map_or (λ (p : Port). p.side.got) o []) l.port_is
    ∙ (l.stands.holds.waits ∙ ap (messages_waiting c.self.inside.pool) c.in-None.is)
