use Rattle.node_ends.proofs.Words.{Control, IfSome, None, Ok, Option, Port, Some, ap, control_of, has_sent, next_frame, option_map, place_in, subst, sym}
use Rattle.node_ends.proofs.Words.{without_got, ◌∙◌, ◌≡◌}
use Rattle.swp_lpdu.specs.Controls.{lpdu_of}
use Rattle.node_ends.specs.Ends.{frame_at}
use Rattle.node_ends.proofs.Changing.{lent_at, becomes_at, nowhere, still_nowhere}
use Rattle.node_ends.proofs.Sending.{sent_on, next_without}
use Rattle.node_ends.proofs.Opening.{opened}
use Rattle.node_ends.proofs.ends.Ends.next_out.Goals as goal

pub returns-in_default-clause-stands : goal.returns-in_default-clause-stands
returns-in_default-clause-stands c ports stands =
    still_nowhere c.args.host has_sent c.place_of.result
    (c.place_of.ensures.place ∙ ap (place_in c.args.host) c.as_slice.ensures.value) c.in_default.not-Some c.self.view_is stands

pub returns-in_default-clause-answer : goal.returns-in_default-clause-answer
returns-in_default-clause-answer c ports stands =
    ap frame_at (sym (nowhere c.args.host has_sent c.place_of.result
    (c.place_of.ensures.place ∙ ap (place_in c.args.host) c.as_slice.ensures.value) c.in_default.not-Some (opened c.self.view_is stands)).1)

pub returns-in_default-clause-read : goal.returns-in_default-clause-read
returns-in_default-clause-read c ports p stands is =
    let none = (nowhere c.args.host has_sent c.place_of.result
    (c.place_of.ensures.place ∙ ap (place_in c.args.host) c.as_slice.ensures.value) c.in_default.not-Some (opened c.self.view_is stands)).1 in
    absurd (let z : Some p ≡ None = sym is ∙ none in cc)

pub next_out-requires : goal.next_out-requires
next_out-requires c =
    let l = lent_at c.args.host c.in-Some.i c.index_mut-seat.result.now
    (c.in-Some.ensures.place ∙ ap (place_in c.args.host) c.as_slice.ensures.value) c.index_mut-seat.ensures.value c.self.invariant.1 in
    (without_got l.port.side, l.stands.holds.stands)

pub invariant_of-self : goal.invariant_of-self
invariant_of-self c =
    let i = c.self.invariant in (
      _,
      becomes_at i.0 c.args.host c.in-Some.i c.index_mut-seat.result.now _ (c.in-Some.ensures.place ∙ ap (place_in c.args.host) c.as_slice.ensures.value)
          c.index_mut-seat.ensures.value (sent_on c.self.inside.pool c.index_mut-seat.result.now c.next_out.new.self c.next_out.ensures.boxes
          c.next_out.ensures.stands) i.1,
    )

pub returns-clause-stands : goal.returns-clause-stands
returns-clause-stands c ports stands =
    becomes_at ports c.args.host c.in-Some.i c.index_mut-seat.result.now _ (c.in-Some.ensures.place ∙ ap (place_in c.args.host) c.as_slice.ensures.value)
    c.index_mut-seat.ensures.value (sent_on c.self.inside.pool c.index_mut-seat.result.now c.next_out.new.self c.next_out.ensures.boxes
    c.next_out.ensures.stands) (opened c.self.view_is stands)

pub returns-clause-answer : goal.returns-clause-answer
returns-clause-answer c ports stands =
    let l = lent_at c.args.host c.in-Some.i c.index_mut-seat.result.now
    (c.in-Some.ensures.place ∙ ap (place_in c.args.host) c.as_slice.ensures.value) c.index_mut-seat.ensures.value (opened c.self.view_is stands) in
    c.next_out.ensures.answer (without_got l.port.side) l.stands.holds.stands
    ∙ (ap (option_map lpdu_of) (next_without l.port.side) ∙ ap frame_at (sym l.port_is))

pub returns-clause-read : goal.returns-clause-read
returns-clause-read c ports p stands is =
    let l = lent_at c.args.host c.in-Some.i c.index_mut-seat.result.now
    (c.in-Some.ensures.place ∙ ap (place_in c.args.host) c.as_slice.ensures.value) c.index_mut-seat.ensures.value (opened c.self.view_is stands) in
    let same : l.port ≡ p = (let both : Some l.port ≡ Some p = sym l.port_is ∙ is in cc) in
    let P : Option Control → Type 0 = λ o. IfSome o (λ x. control_of (lpdu_of x) ≡ Ok x) in
    let Q : Port → Type 0 = λ q. P (next_frame q.side) in
    subst Q same (subst P (next_without l.port.side) (c.next_out.ensures.read (without_got l.port.side) l.stands.holds.stands))
