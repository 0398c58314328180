use Rattle.std.proofs.Common.{◌∷◌, [], ◌∙◌, ap₂}
use Rattle.swp_decode.proofs.Numerals.{first_of_pair, second_of_pair}
use Rattle.swp_decode.proofs.words.two_digits.Goals as goal

pub returns : goal.returns
returns c = c.to_le_bytes.ensures ∙ ap₂ (λ a b. a ∷ b ∷ []) (first_of_pair c.args.n c.requires) (second_of_pair c.args.n c.requires)
