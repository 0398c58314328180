use Rattle.std.proofs.Math.Seq.{drop-cons}
use Rattle.std.proofs.Math.ListN.{drop_of_length-le}
use Rattle.node_deeds.proofs.Words.{ap, ap₂, arith, deed_shown, deeds_shown, drop, lack_by, needs, slice_index, suc, sym, ◌+◌, ◌∙◌, ◌∷◌, ◌≡◌}
use Rattle.node_deeds.specs.Room.{lack_shown}
use Rattle.node_deeds.proofs.RoomLemmas.{lack_there, lack_found}
use Rattle.node_deeds.proofs.room.lack.Goals as goal

pub returns-in-Some : goal.returns-in-Some
returns-in-Some c = λ a ports long same.
    let ds = c.args.deeds.now in
    let i = c.loop-deed.deed-index in
    let d = c.deed-item.result in
    let spares = c.args.spares.now in
    let next : suc i ≡ i + 1 = omega arith in
    let dropped = drop-cons ds i d c.loop-deed-test.true ∙ ap₂ (λ x k. x ∷ drop k ds) (sym c.deed-item.is) next in
    let found = lack_found (λ h. slice_index spares h) c.args.host (deed_shown a d) (deeds_shown a (drop (i + 1) ds)) (lack_shown c.in-Some.lack)
    (c.in-Some.ensures a long) in
    found
    ∙ (ap (λ xs. lack_by (λ h. slice_index spares h) (needs c.args.host (deeds_shown a xs))) (sym dropped)
    ∙ (sym (c.loop-deed.invariant a long) ∙ lack_there spares ports same (needs c.args.host (deeds_shown a ds))))

pub returns : goal.returns
returns c = λ a ports long same.
    let ds = c.args.deeds.now in
    let spares = c.args.spares.now in
    let dropped = drop_of_length-le ds c.loop-deed-test.false in
    ap (λ xs. lack_by (λ h. slice_index spares h) (needs c.args.host (deeds_shown a xs))) (sym dropped)
    ∙ (sym (c.loop-deed.invariant a long) ∙ lack_there spares ports same (needs c.args.host (deeds_shown a ds)))
