use Rattle.schedule_text.proofs.Names.{[], spaced, ◌++◌, ◌∷◌}
use Rattle.schedule_text.proofs.GrowthLemmas.{holds_word}
use Rattle.schedule_text.proofs.text.Text.word.Goals as goal

pub returns : goal.returns
returns c =
    λ start first more h.
    holds_word start first c.args.word.now more _
    (c.push.ensures start (spaced (first ∷ more) ++ (32 ∷ [])) (c.push_few.ensures start (spaced (first ∷ more)) h))
