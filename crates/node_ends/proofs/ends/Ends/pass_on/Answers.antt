use Rattle.node_ends.proofs.Words.{AreEnds, FetchMessage, Give, List, Port, Seat, after_turn, ap, drop, length, place_in, refl, rules, subst, sym, take}
use Rattle.node_ends.proofs.Words.{take-append_seam, takes_at, with_port, ◌++◌, ◌∙◌}
use Rattle.node_ends.proofs.Changing.{nowhere}
use Rattle.node_ends.proofs.PassingOn.{none_there, none_after}
use Rattle.node_ends.proofs.Relaying.{none_came}
use Rattle.node_ends.proofs.Opening.{opened, lent, written}
use Rattle.node_ends.proofs.ends.Ends.pass_on.Goals as goal

pub returns-in_default-clause-stands : goal.returns-in_default-clause-stands
returns-in_default-clause-stands c ports m stands got =
    let n = nowhere c.args.from (after_turn FetchMessage) c.place_of.result (c.place_of.ensures.place ∙ ap (place_in c.args.from) c.as_slice.ensures.value)
    c.in_default.not-Some (opened c.self.view_is stands) in
    absurd (none_came ports c.args.from m n.1 got)

pub returns-in_default-clause-answer : goal.returns-in_default-clause-answer
returns-in_default-clause-answer c ports m stands got =
    let n = nowhere c.args.from (after_turn FetchMessage) c.place_of.result (c.place_of.ensures.place ∙ ap (place_in c.args.from) c.as_slice.ensures.value)
    c.in_default.not-Some (opened c.self.view_is stands) in
    absurd (none_came ports c.args.from m n.1 got)

pub returns-in_default-place_of-clause-stands : goal.returns-in_default-place_of-clause-stands
returns-in_default-place_of-clause-stands c ports m stands got =
    let n = nowhere c.args.to (after_turn (Give m)) c.place_of-2.result
    (c.place_of-2.ensures.place ∙ ap (place_in c.args.to) c.as_slice-2.ensures.value) c.in_default-place_of.not-Some (opened c.self.view_is stands) in
    let P : List Port → Type 0 = λ l. AreEnds c.give_back.new.self.pool c.give_back.new.self.seats l in
    let after = none_after c.args.to c.args.from (after_turn FetchMessage) (λ p. refl) ports n.1 in
    subst P (sym (none_there c.args.to (after_turn (Give m)) (with_port c.args.from (after_turn FetchMessage) ports) after))
    (c.give_back.ensures ports stands)

pub returns-in_default-place_of-clause-answer : goal.returns-in_default-place_of-clause-answer
returns-in_default-place_of-clause-answer c ports m stands got =
    let n = nowhere c.args.to (after_turn (Give m)) c.place_of-2.result
    (c.place_of-2.ensures.place ∙ ap (place_in c.args.to) c.as_slice-2.ensures.value) c.in_default-place_of.not-Some (opened c.self.view_is stands) in
    ap (takes_at m) (sym (none_after c.args.to c.args.from (after_turn FetchMessage) (λ p. refl) ports n.1))

pub returns-clause-stands : goal.returns-clause-stands
returns-clause-stands c ports m stands got =
    let E : List Seat → Type 0 = λ l. AreEnds c.self.inside.pool l ports in
    let r = c.pass_at.ensures.stands ports m (subst E (sym c.deref_mut.ensures.value) (opened c.self.view_is stands)) got in
    let Q : List Seat → Type 0 = λ l. AreEnds c.pass_at.new.pool l
    (with_port c.args.to (after_turn (Give m)) (with_port c.args.from (after_turn FetchMessage) ports)) in
    let rest : List Seat = drop (length c.pass_at.new.seats) c.self.inside.seats.items in
    subst Q (sym (ap (λ n. take n (c.pass_at.new.seats ++ rest)) (search rules) ∙ take-append_seam c.pass_at.new.seats rest)) r

pub invariant_of-self : goal.invariant_of-self
invariant_of-self c =
    let w = c.requires in (
      _,
      written _ (search rules)
          (c.pass_at.ensures.stands w.0 w.1 (lent c.deref_mut.ensures.value (opened c.self.view_is w.2)) w.3),
    )
