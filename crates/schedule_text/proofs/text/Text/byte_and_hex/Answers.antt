use Rattle.schedule_text.proofs.Names.{HoldsText, append_assoc, ap₂, arith, byte_text, encode_upper, spaced, subst, ◌++◌, ◌∙◌, ◌∷◌}
use Rattle.schedule_text.proofs.GrowthLemmas.{encode-none, digits_from, holds_two, two_are}
use Rattle.schedule_text.proofs.text.Text.byte_and_hex.Goals as goal

pub returns-in-Some : goal.returns-in-Some
returns-in-Some c start first more h =
    let bytes = c.args.bytes.now in
    let rest = c.in-Some.rest.now in
    let front = spaced (first ∷ more) in
    holds_two start first (byte_text c.args.byte) (encode_upper bytes) more _
    (subst (λ t. HoldsText start t c.pairs.new.self)
    (append_assoc front _ (encode_upper rest)
    ∙ ap₂ (λ byte digits. front ++ (32 ∷ (byte ++ (32 ∷ digits)))) (two_are c.digits_of.result (omega arith) ∙ c.digits_of.ensures)
    (digits_from c.digits_of-in-Some.result bytes rest c.in-Some.first.now (omega arith) c.digits_of-in-Some.ensures c.in-Some.ensures.cases.0))
    (c.pairs.ensures start _ (c.push_few.ensures start front h)))

pub returns-in-None : goal.returns-in-None
returns-in-None c start first more h =
    let bytes = c.args.bytes.now in
    let front = spaced (first ∷ more) in
    holds_two start first (byte_text c.args.byte) (encode_upper bytes) more _
    (subst (λ t. HoldsText start t c.push_few-in-None.new.self)
    (ap₂ (λ byte digits. front ++ (32 ∷ (byte ++ (32 ∷ digits)))) (two_are c.digits_of.result (omega arith) ∙ c.digits_of.ensures)
    (encode-none bytes c.in-None.ensures.cases))
    (c.push_few-in-None.ensures start front h))
