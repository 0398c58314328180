use Rattle.schedule_text.proofs.Names.{HoldsText, ap, encode_upper, length, subst, take, ◌*◌, ◌++◌, ◌∙◌, ◌≡◌}
use Rattle.schedule_text.proofs.GrowthLemmas.{front_digits}
use Rattle.schedule_text.proofs.text.Text.few_pairs.Goals as goal

pub returns-then-bytes-le16 : goal.returns-then-bytes-le16
returns-then-bytes-le16 c =
    λ start text h.
    let bytes = c.args.bytes.now in
    let e : take (2 * length bytes) c.write_digits.new.digits ≡ encode_upper bytes =
    ap (take (2 * length bytes)) c.write_digits.ensures ∙ rw c.copy_from_slice.ensures.after (front_digits bytes _) in
    subst (λ ds. HoldsText start (text ++ ds) c.push_few.new.self) e (c.push_few.ensures start text h)

pub returns : goal.returns
returns c =
    λ start text h.
    let bytes = c.args.bytes.now in
    let e : take (2 * length bytes) c.write_digits-2.new.digits ≡ encode_upper bytes =
    ap (take (2 * length bytes)) c.write_digits-2.ensures ∙ rw c.copy_from_slice-2.ensures.after (front_digits bytes _) in
    subst (λ ds. HoldsText start (text ++ ds) c.push_few-2.new.self) e (c.push_few-2.ensures start text h)
