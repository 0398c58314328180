-- Nodes that are off: refusals, ticks, and frames that grow too old.
use Rattle.std.proofs.Common.{◌≡◌, refl, [], ◌∷◌}
use Rattle.node_examples.specs.Told.{told_text, text, found_from, hosts_where, lowest_free, encode_with, decode_pairs, digits}

off : told_text (
    "swp 1 hci 01 02\ntick 3\nboot 00\nactivate 01 0001 01\nboot 01\nactivate 01 0001 01\ncut 00\ndeliver 01c\nlose 01c\ntick 4\ntick\ntick 30\nboot 00\n" ∷
    "activate 01 0001 00\ncut 01\ndeliver 01c\ntick 30\nboot 01\nactivate 01 0001 00\ndeliver 01c\ndeliver 01h\nlose 01c\ntick 20\ntables 00\ntables 02\n" ∷
    []) ≡ text (
    "> swp 1 hci 01 02\n" ∷
    "> tick 3\n" ∷
    "> boot 00\nbooted 00 0\n" ∷
    "> activate 01 0001 01\nno off\n" ∷
    "> boot 01\nbooted 01 0\n" ∷
    "> activate 01 0001 01\nemit 01h 610001\n" ∷
    "> cut 00\ncut 00\n" ∷
    "> deliver 01c\nno off\n" ∷
    "> lose 01c\nno off\n" ∷
    "> tick 4\n" ∷
    "> tick\n" ∷
    "> tick 30\nemit 01h 610001\nlost 01c 610001 age\nemit 01h 610001\nlost 01c 610001 age\ngaveup 01h 3\n" ∷
    "> boot 00\nbooted 00 0\n" ∷
    "> activate 01 0001 00\nemit 01h 610001\n" ∷
    "> cut 01\ncut 01\n" ∷
    "> deliver 01c\nno empty\n" ∷
    "> tick 30\n" ∷
    "> boot 01\nbooted 01 0\n" ∷
    "> activate 01 0001 00\nemit 01h 610001\n" ∷
    "> deliver 01c\ntook 01c 610001\ncommand 00 sync 01 0001\nemit 01c 6200\n" ∷
    "> deliver 01h\ntook 01h 6200\nactive 01h\nemit 01h 60\n" ∷
    "> lose 01c\nlost 01c 60 asked\n" ∷
    "> tick 20\nemit 01c 6200\nlost 01h 6200 age\nemit 01c 6200\n" ∷
    "> tables 00\ntables 00 0 0 0 1\nsync 01 0001\n" ∷
    "> tables 02\nno off\n" ∷
    [])
unfolding found_from hosts_where lowest_free encode_with decode_pairs digits
off = refl
