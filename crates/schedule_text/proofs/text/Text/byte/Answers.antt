use Rattle.schedule_text.proofs.Names.{HoldsText, arith, byte_text, spaced, subst, ◌++◌, ◌∙◌, ◌∷◌}
use Rattle.schedule_text.proofs.GrowthLemmas.{holds_spaced, two_are}
use Rattle.schedule_text.proofs.text.Text.byte.Goals as goal

pub returns : goal.returns
returns c start first more h =
    holds_spaced start first (byte_text c.args.byte) more _
    (subst (λ digits. HoldsText start (spaced (first ∷ more) ++ (32 ∷ digits)) c.push_few.new.self)
    (two_are c.digits_of.result (omega arith) ∙ c.digits_of.ensures) (c.push_few.ensures start (spaced (first ∷ more)) h))
