use Rattle.std.proofs.Common.{◌∷◌, [], ◌∙◌, ap₂}
use Rattle.swp_decode.proofs.Numerals.{pairs_are, first_digit, second_digit}
use Rattle.swp_decode.proofs.words.digits_of.Goals as goal

pub returns : goal.returns
returns c =
    let byte = c.args.byte in
    let small = c.ranges.byte.fits in
    let pair = pairs_are byte small in
    c.to_le_bytes.ensures ∙ ap₂ (λ a b. a ∷ b ∷ []) (first_digit _ byte small pair) (second_digit _ byte small pair)
