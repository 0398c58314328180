-- Boots and commands that are cut, by plans that stay over boots.
use Rattle.std.proofs.Common.{◌≡◌, refl, [], ◌∷◌}
use Rattle.node_examples.specs.Told.{told_text, text, found_from, hosts_where, lowest_free, encode_with, decode_pairs, digits}

boots_cut : told_text (
    "swp 1 hci 02 03\narm 00 2 FF\nboot 00\nboot 00\ncut 00\narm 02 2 5AFF\nboot 02\nboot 02\narm 03 1 5A\nboot 03\narm 03 3 5A\nboot 03\nboot 03\nboot 00\n" ∷
    "activate 03 0003 00\ndeliver 03c\ndeliver 03h\ndeliver 03c\nreset 03h 2\ndeliver 03c\ndeliver 03h\narm 00 4 00\nsend 03h 01 03\ndeliver 03c\n" ∷
    "deliver 03h\ncut 00\nboot 00\nactivate 03 0003 01\ndeliver 03c\ndeliver 03h\ndeliver 03c\nreset 03h\ndeliver 03c\ndeliver 03h\nsend 03h 01 03\n" ∷
    "deliver 03c\ntables 00\nboot 00\ntables 00\n" ∷
    []) ≡ text (
    "> swp 1 hci 02 03\n" ∷
    "> arm 00 2 FF\n" ∷
    "> boot 00\ncut 00\n" ∷
    "> boot 00\nbooted 00 0\n" ∷
    "> cut 00\ncut 00\n" ∷
    "> arm 02 2 5AFF\n" ∷
    "> boot 02\ncut 02\n" ∷
    "> boot 02\nbooted 02 0\n" ∷
    "> arm 03 1 5A\n" ∷
    "> boot 03\ncut 03\n" ∷
    "> arm 03 3 5A\n" ∷
    "> boot 03\nbooted 03 0\n" ∷
    "> boot 03\nno running\n" ∷
    "> boot 00\nbooted 00 0\n" ∷
    "> activate 03 0003 00\nemit 03h 610003\n" ∷
    "> deliver 03c\ntook 03c 610003\ncommand 00 sync 03 0003\nemit 03c 6200\n" ∷
    "> deliver 03h\ntook 03h 6200\nactive 03h\nemit 03h 60\n" ∷
    "> deliver 03c\ntook 03c 60\nactive 03c\n" ∷
    "> reset 03h 2\nemit 03h F90200\n" ∷
    "> deliver 03c\ntook 03c F90200\nup 03c 1\nemit 03c E6\n" ∷
    "> deliver 03h\ntook 03h E6\nup 03h 1\n" ∷
    "> arm 00 4 00\n" ∷
    "> send 03h 01 03\nsent 03h 1 01 03\nemit 03h 808103\n" ∷
    "> deliver 03c\ntook 03c 808103\ngot 03c 1 01 03\nturn 03c 01 03\ncommand 00 opened 03 01 01\nsent 03c 1 01 8000\nok 00 2\nemit 03c C1\n" ∷
    "emit 03c 81818000\n" ∷
    "> deliver 03h\ntook 03h C1\nacked 03h 1 1\ntook 03h 81818000\ngot 03h 1 01 8000\nturn 03h 01 8000\nemit 03h C1\n" ∷
    "> cut 00\ncut 00\n" ∷
    "> boot 00\nbooted 00 2\n" ∷
    "> activate 03 0003 01\ndown 03h act\nemit 03h 610003\n" ∷
    "> deliver 03c\ntook 03c 610003\nemit 03c 6201\n" ∷
    "> deliver 03h\ntook 03h 6201\nactive 03h\nemit 03h 60\n" ∷
    "> deliver 03c\ntook 03c 60\nactive 03c\n" ∷
    "> reset 03h\nemit 03h F90200\n" ∷
    "> deliver 03c\ntook 03c F90200\nup 03c 2\nemit 03c E6\n" ∷
    "> deliver 03h\ntook 03h E6\nup 03h 2\n" ∷
    "> send 03h 01 03\nsent 03h 2 01 03\nemit 03h 808103\n" ∷
    "> deliver 03c\ntook 03c 808103\ngot 03c 2 01 03\nturn 03c 01 03\ncommand 00 opened 03 01 01\ncut 00\n" ∷
    "> tables 00\nno off\n" ∷
    "> boot 00\nbooted 00 2\n" ∷
    "> tables 00\ntables 00 0 0 0 1\nsync 03 0003\n" ∷
    [])
unfolding found_from hosts_where lowest_free encode_with decode_pairs digits
boots_cut = refl
