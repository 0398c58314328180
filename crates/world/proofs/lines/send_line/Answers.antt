use Rattle.std.proofs.lemmas.Grind.{common_steps}
use Rattle.world.proofs.Words.{Give, Given, Link, LinkEnd, Message, No, Some, [], ap, arith, as_noted, false, give_refusal, is_some, on_ok, refl, seen_from}
use Rattle.world.proofs.Words.{sym, turn, ◌++◌, ◌∙◌, ◌∷◌, ◌≡◌}
use Rattle.world.proofs.Bare.{give_most, midway, session_is, refused_give, accepted, gives}
use Rattle.world.proofs.RoundLemmas.{refused_does, happened_does}
use Rattle.world.proofs.lines.send_line.Goals as goal

pub returns-in-Some-clause-stands : goal.returns-in-Some-clause-stands
returns-in-Some-clause-stands c l h =
    let m : LinkEnd = (seen_from c.args.at l).controller.side in
    let x : Message = (c.args.pid, c.args.message.now) in
    let refused = sym c.in-Some.is ∙ rw c.as_slice.ensures at (c.give-refused.ensures.refused m h.here.has.node) in
    let none = refused_give x (Some c.in-Some.cause) c.args.entries.now.items h refused
    (rw c.as_slice.ensures at (c.give-refused.ensures.stands m h.here.has.node)) in
    refused_does (sym refused) none.0 (c.in_ok-push.ensures.items ∙ ap (λ es. es ++ No c.in-Some.cause ∷ []) c.requires.nothing)

pub send_all-requires-clause-state : goal.send_all-requires-clause-state
send_all-requires-clause-state c =
    let s = c.requires.state in
    let k : Link = seen_from c.args.at s.0 in
    let m : LinkEnd = k.controller.side in
    let x : Message = (c.args.pid, c.args.message.now) in (
      k,
      turn m (Give x),
      midway false s.1 (rw c.as_slice.ensures at (c.give-refused.ensures.stands m s.1.here.has.node)) (give_most m x s.1.here.idle),
    )

pub returns-clause-stands : goal.returns-clause-stands
returns-clause-stands c l h =
    let k : Link = seen_from c.args.at l in
    let m : LinkEnd = k.controller.side in
    let x : Message = (c.args.pid, c.args.message.now) in
    let so : c.give-refused.result ≡ as_noted (give_refusal m x) = rw c.as_slice.ensures at (c.give-refused.ensures.refused m h.here.has.node) in
    let bytes : c.extend_from_slice.new.self.items ≡ c.args.message.now = grind (arith, common_steps) in
    on_ok c.send_all.result
    (c.send_all.ensures.stands k (turn m (Give x))
    (midway false h (rw c.as_slice.ensures at (c.give-refused.ensures.stands m h.here.has.node)) (give_most m x h.here.idle)))
    (λ r. happened_does
    (gives (c.session.ensures ∙ session_is h)
    (accepted c.give-refused.result (give_refusal m x) so (ap is_some c.in_default.is)) bytes c.in_ok-push-2.ensures.items r)
    c.requires.nothing
    (record { cause = Given c.args.at x; none = sym so ∙ c.in_default.is; causes = refl; is = refl }))
