use Rattle.schedule_text.proofs.Names.{[], byte_text, ◌∷◌}
use Rattle.schedule_text.proofs.write.write_node_number.Goals as goal

pub returns : goal.returns
returns c =
    λ start h.
    let word = c.args.word.now in
    c.short_number.ensures start word (byte_text c.args.node ∷ []) (c.byte.ensures start word [] (c.push.ensures start [] h))
