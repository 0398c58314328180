use Rattle.std.proofs.Common.{[], ◌∷◌, ◌++◌, ◌∙◌, ap, arith}
use Rattle.schedule_text.proofs.GrowthLemmas.{two_are}
use Rattle.schedule_text.proofs.text.letters_of.Goals as goal

pub returns-then-at : goal.returns-then-at
returns-then-at c = rw c.if-at.true (ap (λ digits. digits ++ 104 ∷ []) (two_are c.digits_of.result (omega arith) ∙ c.digits_of.ensures))

pub returns-else-at : goal.returns-else-at
returns-else-at c = rw c.if-at.false (ap (λ digits. digits ++ 99 ∷ []) (two_are c.digits_of.result (omega arith) ∙ c.digits_of.ensures))
