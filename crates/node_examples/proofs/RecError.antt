-- REC_ERROR counts what is refused, stops at FFFF, and is read and set.
use Rattle.node_examples.proofs.Words.{[], host_begins, host_begins_told, refl, ◌++◌, ◌∷◌, ◌≡◌}
use Rattle.node_examples.specs.Told.{told_text, text, found_from, hosts_where, lowest_free, encode_with, decode_pairs, digits, bits_of_byte}

rec_error : told_text (
    "swp 1 hci 02\nboot 00\nboot 02\n" ∷
    host_begins "02" ++
    "send 02h 00 03\ndeliver 02c\ndeliver 02h\ndeliver 02c\nsend 02h 00 0201\ndamage 02c 20\ntick 10\ndamage 02c 0\ntick 10\ndeliver 02c\ndeliver 02h\n" ∷
    "send 02h 00 0101FFFE\ndeliver 02c\ndeliver 02h\nsend 02h 00 0201\ndamage 02c 30\ntick 10\ndamage 02c 31\ntick 10\ndamage 02c 32\ntick 10\ndeliver 02c\n" ∷
    "deliver 02h\ndeliver 02c\ndeliver 02h\nsend 02h 00 010112\ndeliver 02c\ndeliver 02h\ncut 00\nboot 00\ntables 00\n" ∷
    []) ≡ text (
    "> swp 1 hci 02\n> boot 00\nbooted 00 0\n> boot 02\nbooted 02 0\n" ∷
    host_begins_told "02" "2" ++
    "> send 02h 00 03\nsent 02h 1 00 03\nemit 02h 898003\n" ∷
    "> deliver 02c\ntook 02c 898003\ngot 02c 1 00 03\nturn 02c 00 03\ncommand 00 opened 02 00 01\nsent 02c 1 00 8000\nok 00 3\nemit 02c C2\n" ∷
    "emit 02c 8A808000\n" ∷
    "> deliver 02h\ntook 02h C2\nacked 02h 1 2\ntook 02h 8A808000\ngot 02h 1 00 8000\nturn 02h 00 8000\nemit 02h C2\n" ∷
    "> deliver 02c\ntook 02c C2\nacked 02c 1 2\n" ∷
    "> send 02h 00 0201\nsent 02h 1 00 0201\nemit 02h 92800201\n" ∷
    "> damage 02c 20\nlost 02c 92800201 crc\n" ∷
    "> tick 10\nemit 02h 92800201\n" ∷
    "> damage 02c 0\nlost 02c 92800201 none\n" ∷
    "> tick 10\nemit 02h 92800201\n" ∷
    "> deliver 02c\ntook 02c 92800201\ngot 02c 1 00 0201\nturn 02c 00 0201\nsent 02c 1 00 800001\nemit 02c C3\nemit 02c 9380800001\n" ∷
    "> deliver 02h\ntook 02h C3\nacked 02h 1 3\ntook 02h 9380800001\ngot 02h 1 00 800001\nturn 02h 00 800001\nemit 02h C3\n" ∷
    "> send 02h 00 0101FFFE\nsent 02h 1 00 0101FFFE\nemit 02h 9B800101FFFE\n" ∷
    "> deliver 02c\ntook 02c C3\nacked 02c 1 3\ntook 02c 9B800101FFFE\ngot 02c 1 00 0101FFFE\nturn 02c 00 0101FFFE\nsent 02c 1 00 80\nemit 02c C4\n" ∷
    "emit 02c 9C8080\n" ∷
    "> deliver 02h\ntook 02h C4\nacked 02h 1 4\ntook 02h 9C8080\ngot 02h 1 00 80\nturn 02h 00 80\nemit 02h C4\n" ∷
    "> send 02h 00 0201\nsent 02h 1 00 0201\nemit 02h A4800201\n" ∷
    "> damage 02c 30\nlost 02c C4 crc\n" ∷
    "> tick 10\nlost 02c A4800201 age\nemit 02c 9C8080\nemit 02h A4800201\n" ∷
    "> damage 02c 31\nlost 02c A4800201 crc\n" ∷
    "> tick 10\nlost 02h 9C8080 age\nemit 02c 9C8080\nemit 02h A4800201\n" ∷
    "> damage 02c 32\nlost 02c A4800201 crc\n" ∷
    "> tick 10\nlost 02h 9C8080 age\nemit 02c 9C8080\nemit 02h A4800201\n" ∷
    "> deliver 02c\ntook 02c A4800201\nacked 02c 1 4\ngot 02c 1 00 0201\nturn 02c 00 0201\nsent 02c 1 00 80FFFF\nemit 02c C5\nemit 02c A58080FFFF\n" ∷
    "> deliver 02h\ntook 02h 9C8080\nemit 02h C4\ntook 02h C5\nacked 02h 1 5\ntook 02h A58080FFFF\ngot 02h 1 00 80FFFF\nturn 02h 00 80FFFF\nemit 02h C5\n" ∷
    "> deliver 02c\ntook 02c C4\ntook 02c C5\nacked 02c 1 5\n" ∷
    "> deliver 02h\nno empty\n" ∷
    "> send 02h 00 010112\nsent 02h 1 00 010112\nemit 02h AD80010112\n" ∷
    "> deliver 02c\ntook 02c AD80010112\ngot 02c 1 00 010112\nturn 02c 00 010112\nsent 02c 1 00 82\nemit 02c C6\nemit 02c AE8082\n" ∷
    "> deliver 02h\ntook 02h C6\nacked 02h 1 6\ntook 02h AE8082\ngot 02h 1 00 82\nturn 02h 00 82\nemit 02h C6\n" ∷
    "> cut 00\ncut 00\n" ∷
    "> boot 00\nbooted 00 3\n" ∷
    "> tables 00\ntables 00 0 0 0 1\nsync 02 0002\n" ∷
    [])
unfolding found_from hosts_where lowest_free encode_with decode_pairs digits bits_of_byte
rec_error = refl
