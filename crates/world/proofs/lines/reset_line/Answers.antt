use Rattle.world.proofs.Words.{Link, LinkEnd, No, Reset, WasReset, [], after_input, ap, ended_by, is_some, on_ok, refl, seen_from, sym, with_ended, ◌++◌, ◌∙◌}
use Rattle.world.proofs.Words.{◌∷◌}
use Rattle.world.proofs.Bare.{reset_most, room_here, midway, input_noted, still}
use Rattle.world.proofs.RoundLemmas.{refused_does, happened_does, some_holds}
use Rattle.world.proofs.lines.reset_line.Goals as goal

pub reset-requires-clause-stands : goal.reset-requires-clause-stands
reset-requires-clause-stands c =
    let s = c.requires.state in
    ((seen_from c.args.at s.0).controller.side, s.1.here.has.node, room_here s.1)

pub returns-in-Some-clause-stands : goal.returns-in-Some-clause-stands
returns-in-Some-clause-stands c l h short =
    let m : LinkEnd = (seen_from c.args.at l).controller.side in
    let k = c.in_ok-cause.ensures in
    let room = room_here h in
    let same = some_holds c.in_ok-cause.field-0 c.in-Some.cause c.in-Some.is (k.unchanged m h.here.has.node room) in
    refused_does (sym (k.refused m h.here.has.node room) ∙ c.in-Some.is) (still h same.0)
    (c.in_ok-push.ensures.items ∙ ap (λ es. es ++ No c.in-Some.cause ∷ []) (same.1 ∙ c.requires.nothing))

pub send_all-requires-clause-state : goal.send_all-requires-clause-state
send_all-requires-clause-state c =
    let s = c.requires.state in
    let k : Link = seen_from c.args.at s.0 in
    let m : LinkEnd = k.controller.side in
    let w = c.args.window in
    let t = c.in_ok-cause.ensures.stands m s.1.here.has.node (room_here s.1) s.2 c.in_default.is in (
      with_ended k (is_some (ended_by m (Reset w))),
      after_input m (Reset w),
      midway (is_some (ended_by m (Reset w))) s.1 t.0 (reset_most m w s.1.here.idle),
    )

pub returns-clause-stands : goal.returns-clause-stands
returns-clause-stands c l h short =
    let k : Link = seen_from c.args.at l in
    let m : LinkEnd = k.controller.side in
    let w = c.args.window in
    let room = room_here h in
    let so = c.in_ok-cause.ensures in
    let t = so.stands m h.here.has.node room short c.in_default.is in
    on_ok c.send_all.result
    (c.send_all.ensures.stands (with_ended k (is_some (ended_by m (Reset w)))) (after_input m (Reset w))
    (midway (is_some (ended_by m (Reset w))) h t.0 (reset_most m w h.here.idle)))
    (λ r. happened_does
    (record { stands = r.0; noted = input_noted (Reset w) c.args.entries.now.items h c.place-place.ensures t.1 r.1 })
    c.requires.nothing
    (record { cause = WasReset c.args.at w; none = sym (so.refused m h.here.has.node room) ∙ c.in_default.is; causes = refl; is = refl }))
