use Rattle.swp_decode.proofs.Names.{ap, codes, hex_word, ◌++◌, ◌∙◌}
use Rattle.swp_decode.proofs.Numerals.{four_parts}
use Rattle.swp_decode.proofs.words.push_fault.Goals as goal

pub returns-in-Crc-clause-items : goal.returns-in-Crc-clause-items
returns-in-Crc-clause-items c =
    rw c.in-Crc.is
    (c.push_hex_word-in-Crc.ensures.items
    ∙ ap (λ xs. xs ++ hex_word c.in-Crc.got)
    (c.push_text-in-Crc-2.ensures.items
    ∙ ap (λ xs. xs ++ codes " ") (c.push_hex_word.ensures.items ∙ ap (λ xs. xs ++ hex_word c.in-Crc.want) c.push_text-in-Crc.ensures.items))
    ∙ four_parts c.args.text.now.items (codes "crc ") (hex_word c.in-Crc.want) (codes " ") (hex_word c.in-Crc.got))
