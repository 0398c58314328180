use Rattle.schedule_text.proofs.Names.{HoldsText, arith, end_text, spaced, subst, ◌++◌, ◌∙◌, ◌∷◌}
use Rattle.schedule_text.proofs.GrowthLemmas.{holds_spaced, three_are}
use Rattle.schedule_text.proofs.text.Text.end.Goals as goal

pub returns : goal.returns
returns c start first more h =
    holds_spaced start first (end_text c.args.at) more _
    (subst (λ letters. HoldsText start (spaced (first ∷ more) ++ (32 ∷ letters)) c.push_few.new.self)
    (three_are c.letters_of.result (omega arith) ∙ c.letters_of.ensures) (c.push_few.ensures start (spaced (first ∷ more)) h))
