use Rattle.world.proofs.Words.{Empty, Entry, HasRepeated, List, No, Taken, [], ap, arith, frames_to, on_ok, replicate, subst, sym, ◌++◌, ◌∙◌, ◌∷◌}
use Rattle.world.proofs.RoundLemmas.{refused_does, none_there, some_there, repeats_does, kept_len, taken_few}
use Rattle.world.proofs.repeats.deliver_line.Goals as goal

pub returns-then-is_empty-clause-stands : goal.returns-then-is_empty-clause-stands
returns-then-is_empty-clause-stands c l h sent =
    refused_does (none_there h.here.has.wire_is c.if-is_empty.ensures) h
    (c.in_ok-push.ensures.items ∙ ap (λ es. es ++ No Empty ∷ []) c.requires.nothing)

pub take_frames-requires-clause-times : goal.take_frames-requires-clause-times
take_frames-requires-clause-times c =
    let s = c.requires.state in
    let w = s.1.here.has.wire_is in
    taken_few c.args.count w (c.taken-times.ensures (frames_to s.0 c.args.at) (omega (arith, kept_len w)))

pub returns-clause-stands : goal.returns-clause-stands
returns-clause-stands c l h sent =
    let w = h.here.has.wire_is in
    let taken = c.taken-times.ensures (frames_to l c.args.at) (omega (arith, kept_len w)) in
    let P : List Entry → Type 0 = λ before.
    HasRepeated c.take_frames.new.near c.take_frames.new.far c.take_frames.new.resets c.args.at l (Taken c.args.at) c.taken-times.result before
    c.take_frames.new.entries.items in
    on_ok c.take_frames.result (c.take_frames.ensures.stands l h sent)
    (λ r. repeats_does (subst P c.requires.nothing r) (some_there w c.if-is_empty.ensures) (ap (λ n. replicate n (Taken c.args.at)) (sym taken)))
