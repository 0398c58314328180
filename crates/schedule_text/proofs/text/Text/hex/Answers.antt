use Rattle.schedule_text.proofs.Names.{encode_upper, spaced, ◌∷◌}
use Rattle.schedule_text.proofs.GrowthLemmas.{holds_word}
use Rattle.schedule_text.proofs.text.Text.hex.Goals as goal

pub returns : goal.returns
returns c start first more h =
    holds_word start first (encode_upper c.args.bytes.now) more _ (c.pairs.ensures start _ (c.push_few.ensures start (spaced (first ∷ more)) h))
