use Rattle.std.specs.Prelude.{MatchResult}
use Rattle.node_ends.proofs.Words.{FewAreDue, None, Option, Port, Some, ap, has_come, option_map, place_in, report, report_told, subst, sym, ◌∙◌, ◌≡◌}
use Rattle.node_ends.specs.Ends.{IsHeldWhileOneWaits}
use Rattle.node_ends.specs.Inputs.{input_of_end, MayComeAt, refusal_at}
use Rattle.node_ends.proofs.Changing.{lent_at, becomes_at, nowhere, still_nowhere}
use Rattle.node_ends.proofs.Keeping.{none_refused, where_ok}
use Rattle.node_ends.proofs.Opening.{opened}
use Rattle.node_ends.proofs.ends.Ends.comes.Goals as goal

pub comes-requires : goal.comes-requires
comes-requires c =
    let r = c.requires.stands in
    let l = lent_at c.args.host c.in-Some.i c.index_mut-seat.result.now
    (c.in-Some.ensures.place ∙ ap (place_in c.args.host) c.as_slice.ensures.value) c.index_mut-seat.ensures.value (opened c.self.view_is r.1) in
    record {
      may = (
        l.port,
        l.stands,
        subst (λ o. FewAreDue o) l.port_is r.2,
        subst (λ o. IsHeldWhileOneWaits o) l.port_is r.3,
        subst (λ o. MayComeAt c.args.what o) l.port_is r.4,
      );
    }

pub returns-in_default-clause-stands : goal.returns-in_default-clause-stands
returns-in_default-clause-stands c ports stands =
    still_nowhere c.args.host (λ (p : Port). has_come p (Some (input_of_end c.args.what))) c.place_of.result
    (c.place_of.ensures.place ∙ ap (place_in c.args.host) c.as_slice.ensures.value) c.in_default.not-Some c.self.view_is stands

pub returns-in_default-clause-refusal : goal.returns-in_default-clause-refusal
returns-in_default-clause-refusal c ports stands =
    let n = nowhere c.args.host (λ (p : Port). p) c.place_of.result
    (c.place_of.ensures.place ∙ ap (place_in c.args.host) c.as_slice.ensures.value) c.in_default.not-Some (opened c.self.view_is stands) in
    ap (refusal_at c.args.what) n.1 ∙ none_refused c.args.what

pub returns-in_default-clause-told : goal.returns-in_default-clause-told
returns-in_default-clause-told c ports stands =
    let n = nowhere c.args.host (λ (p : Port). p) c.place_of.result
    (c.place_of.ensures.place ∙ ap (place_in c.args.host) c.as_slice.ensures.value) c.in_default.not-Some (opened c.self.view_is stands) in
    ap (option_map (λ (p : Port). report_told (report p.side (input_of_end c.args.what)))) (sym n.1)

pub invariant_of-self : goal.invariant_of-self
invariant_of-self c =
    let i = c.self.invariant in (
      _,
      becomes_at i.0 c.args.host c.in-Some.i c.index_mut-seat.result.now c.comes.new.self
          (c.in-Some.ensures.place ∙ ap (place_in c.args.host) c.as_slice.ensures.value) c.index_mut-seat.ensures.value c.comes.ensures.becomes i.1,
    )

pub returns-clause-stands : goal.returns-clause-stands
returns-clause-stands c ports stands =
    becomes_at ports c.args.host c.in-Some.i c.index_mut-seat.result.now c.comes.new.self
    (c.in-Some.ensures.place ∙ ap (place_in c.args.host) c.as_slice.ensures.value) c.index_mut-seat.ensures.value c.comes.ensures.becomes
    (opened c.self.view_is stands)

pub returns-clause-refusal : goal.returns-clause-refusal
returns-clause-refusal c ports stands =
    let l = lent_at c.args.host c.in-Some.i c.index_mut-seat.result.now
    (c.in-Some.ensures.place ∙ ap (place_in c.args.host) c.as_slice.ensures.value) c.index_mut-seat.ensures.value (opened c.self.view_is stands) in
    let P : Option Port → Type 0 = λ o. MatchResult c.comes.result (λ done. refusal_at c.args.what o ≡ None) (λ why. refusal_at c.args.what o ≡ Some why) in
    subst P (sym l.port_is) (c.comes.ensures.refusal l.port l.stands)

pub returns-clause-told : goal.returns-clause-told
returns-clause-told c =
    where_ok c.comes.result (λ so ports stands.
    let l = lent_at c.args.host c.in-Some.i c.index_mut-seat.result.now
    (c.in-Some.ensures.place ∙ ap (place_in c.args.host) c.as_slice.ensures.value) c.index_mut-seat.ensures.value (opened c.self.view_is stands) in
    so l.port l.stands ∙ ap (option_map (λ (p : Port). report_told (report p.side (input_of_end c.args.what)))) (sym l.port_is)) c.comes.ensures.told
