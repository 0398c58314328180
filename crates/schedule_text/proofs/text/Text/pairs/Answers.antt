use Rattle.schedule_text.proofs.Names.{HoldsText, [], ap, append-nil, encode_upper, get_or, subst, sym, take, take_more, ◌++◌, ◌∙◌, ◌∷◌}
use Rattle.schedule_text.proofs.GrowthLemmas.{encode-nil, holds_digits}
use Rattle.schedule_text.proofs.text.Text.pairs.Goals as goal

pub loop-byte-init : goal.loop-byte-init
loop-byte-init c = λ start text h. subst (λ t. HoldsText start t c.args.self.now) (sym (ap (λ t. text ++ t) encode-nil ∙ append-nil text)) h

pub loop-byte-preserved : goal.loop-byte-preserved
loop-byte-preserved c =
    λ start text h.
    let k = c.loop-byte.byte-index in
    let bytes = c.args.bytes.now in
    subst (λ bs. HoldsText start (text ++ encode_upper bs) c.push_few.new.self) (sym (take_more bytes k 0 c.loop-byte-test.true))
    (holds_digits start text (take k bytes) (get_or bytes k 0 ∷ []) _ c.push_few.new.self c.digits_of.ensures
    (c.push_few.ensures start (text ++ encode_upper (take k bytes)) (c.loop-byte.invariant start text h)))
