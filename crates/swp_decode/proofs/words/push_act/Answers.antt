use Rattle.swp_decode.proofs.Names.{ap, append_assoc, codes, hex_word, ◌++◌, ◌∙◌}
use Rattle.swp_decode.proofs.words.push_act.Goals as goal

pub returns-in-SyncId-clause-items : goal.returns-in-SyncId-clause-items
returns-in-SyncId-clause-items c =
    rw c.in-SyncId.is
    (c.push_hex_word.ensures.items ∙ ap (λ xs. xs ++ hex_word c.in-SyncId.id) c.push_text-in-SyncId.ensures.items
    ∙ append_assoc c.args.text.now.items (codes "syncid ") (hex_word c.in-SyncId.id))
