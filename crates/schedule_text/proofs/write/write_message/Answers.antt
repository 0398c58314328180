use Rattle.schedule_text.proofs.Names.{[], decimal, end_text, ◌∷◌}
use Rattle.schedule_text.proofs.write.write_message.Goals as goal

pub returns : goal.returns
returns c =
    λ start h.
    let word = c.args.word.now in
    let at = end_text c.args.at in
    let session = decimal c.args.session in
    c.byte_and_hex.ensures start word (at ∷ session ∷ []) (c.end_and_number.ensures start word [] (c.push.ensures start [] h))
