use Rattle.world.proofs.Words.{List, Loss, No, OnWire, Taken, WasLost, [], ap, damage_causes, first_verdict, frames_to, on_ok, refl, seen_from, sym, ◌++◌, ◌∙◌}
use Rattle.world.proofs.Words.{◌∷◌}
use Rattle.history.specs.Follows.{if_out_of_reach}
use Rattle.world.proofs.RoundLemmas.{refused_does, happened_does}
use Rattle.world.proofs.Sending.{lost_is}
use Rattle.world.proofs.damage_line.damage_line.Goals as goal

pub returns-in_ok-push-in-Refused-clause-stands : goal.returns-in_ok-push-in-Refused-clause-stands
returns-in_ok-push-in-Refused-clause-stands c l h few none =
    let wire : List OnWire = frames_to l c.args.at in
    let found = c.in-Refused.ensures wire h.here.has.wire_is in
    refused_does (ap (λ ps. if_out_of_reach wire ps) (sym c.as_slice.ensures.value) ∙ found) h
    (c.in_ok-push-in-Refused.ensures.items ∙ ap (λ es. es ++ No c.in-Refused.cause ∷ []) c.requires.nothing)

pub returns-in-Same-clause-stands : goal.returns-in-Same-clause-stands
returns-in-Same-clause-stands c l h few =
    let wire : List OnWire = frames_to l c.args.at in
    let found = c.in-Same.ensures wire h.here.has.wire_is in
    let value = sym c.as_slice.ensures.value in
    on_ok c.take_frame.result (c.take_frame.ensures.stands (seen_from c.args.at l) h few)
    (λ r none. happened_does r c.requires.nothing
    (record {
      cause = Taken c.args.at;
      none = ap (λ ps. if_out_of_reach wire ps) value ∙ found.0;
      causes = ap (λ ps. damage_causes c.args.at (first_verdict wire ps)) value ∙ ap (λ v. damage_causes c.args.at v) found.1;
      is = refl;
    }))

pub returns-in-Lost-clause-stands : goal.returns-in-Lost-clause-stands
returns-in-Lost-clause-stands c l h few =
    let wire : List OnWire = frames_to l c.args.at in
    let found = c.in-Lost.ensures wire h.here.has.wire_is in
    let why : Loss = found.1.0 in
    let value = sym c.as_slice.ensures.value in
    on_ok c.lose_first.result (c.lose_first.ensures (seen_from c.args.at l).to_controller why h.here.has.wire_is found.1.2)
    (λ r none. happened_does (lost_is h r) c.requires.nothing
    (record {
      cause = WasLost c.args.at why;
      none = ap (λ ps. if_out_of_reach wire ps) value ∙ found.0;
      causes = ap (λ ps. damage_causes c.args.at (first_verdict wire ps)) value ∙ ap (λ v. damage_causes c.args.at v) found.1.1;
      is = refl;
    }))
