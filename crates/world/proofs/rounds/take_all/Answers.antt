use Rattle.world.proofs.Words.{HasRepeated, Taken, arith, frames_to, length, on_ok, subst, ℕ, ◌≡◌}
use Rattle.world.proofs.RoundLemmas.{kept_len, does_taking}
use Rattle.world.proofs.rounds.take_all.Goals as goal

pub take_frames-requires-clause-times : goal.take_frames-requires-clause-times
take_frames-requires-clause-times c =
    let w = c.requires.state.1.here.has.wire_is in let few = w.few in let kept = kept_len w in omega (arith, few, kept)

pub returns-clause-stands : goal.returns-clause-stands
returns-clause-stands c l h sent =
    let w = h.here.has.wire_is in
    let is : c.len-times.result ≡ length (frames_to l c.args.at) = omega (arith, kept_len w) in
    let P : ℕ → Type 0 = λ n.
    HasRepeated c.take_frames.new.near c.take_frames.new.far c.take_frames.new.resets c.args.at l (Taken c.args.at) n c.args.entries.now.items
    c.take_frames.new.entries.items in
    on_ok c.take_frames.result (c.take_frames.ensures.stands l h sent) (λ r. does_taking (subst P is r))
