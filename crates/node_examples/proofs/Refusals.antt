-- Refusals in their order.
use Rattle.node_examples.proofs.Words.{[], refl, replicate, ◌++◌, ◌∷◌, ◌≡◌}
use Rattle.node_examples.specs.Told.{told_text, text, found_from, hosts_where, lowest_free, encode_with, decode_pairs, digits, bits_of_byte}

refusals : told_text (
    "swp 1 hci 01 02\nactivate 01 0001 01\nboot 01\nactivate 01 0001 01\nboot 00\nboot 00\ncut 02\ndeliver 02c\ndeliver 02h\ntables 02\nreset 02h\n" ∷
    "init 02h 0102030405060708\nboot 02\ninit 02h 0102030405060708\nreset 02h\nsend 02h 01 03\nactivate 02 0002 01\ndeliver 02c\ndeliver 02h\ndeliver 02c\n" ∷
    "reset 02c\ndeliver 02h\ndeliver 02c\nsend 02h 01 03\nsend 02h 01 03\ninit 02h 0102030405060708\nreset 02h\nreset 02h\nsend 02h 01 03\nlose 02c\n" ∷
    "lose 02c\ndeliver 02h\ntick 10\ndamage 02c 399\ndeliver 02c\ndeliver 02h\nsend 02h 03 " ∷ replicate 4097 "42" ++
    "\nsend 02h 03 " ∷ replicate 4096 "42" ++
    "\nsend 02h 03 4200\ntables 01\narm 01 1 00\ncut 01\ncut 01\n" ∷
    []) ≡ text (
    "> swp 1 hci 01 02\n" ∷
    "> activate 01 0001 01\nno off\n" ∷
    "> boot 01\nbooted 01 0\n" ∷
    "> activate 01 0001 01\nno off\n" ∷
    "> boot 00\nbooted 00 0\n" ∷
    "> boot 00\nno running\n" ∷
    "> cut 02\nno off\n" ∷
    "> deliver 02c\nno empty\n" ∷
    "> deliver 02h\nno off\n" ∷
    "> tables 02\nno off\n" ∷
    "> reset 02h\nno off\n" ∷
    "> init 02h 0102030405060708\nno off\n" ∷
    "> boot 02\nbooted 02 0\n" ∷
    "> init 02h 0102030405060708\nno not-up\n" ∷
    "> reset 02h\nno inactive\n" ∷
    "> send 02h 01 03\nno not-up\n" ∷
    "> activate 02 0002 01\nemit 02h 610002\n" ∷
    "> deliver 02c\ntook 02c 610002\ncommand 00 sync 02 0002\nemit 02c 6201\n" ∷
    "> deliver 02h\ntook 02h 6201\nactive 02h\nemit 02h 60\n" ∷
    "> deliver 02c\ntook 02c 60\nactive 02c\n" ∷
    "> reset 02c\nemit 02c F90400\n" ∷
    "> deliver 02h\ntook 02h F90400\nup 02h 1\nemit 02h E6\n" ∷
    "> deliver 02c\ntook 02c E6\nup 02c 1\n" ∷
    "> send 02h 01 03\nsent 02h 1 01 03\nemit 02h 808103\n" ∷
    "> send 02h 01 03\nno waiting\n" ∷
    "> init 02h 0102030405060708\nno waiting\n" ∷
    "> reset 02h\ndown 02h asked\nemit 02h F90400\n" ∷
    "> reset 02h\nno waiting\n" ∷
    "> send 02h 01 03\nno not-up\n" ∷
    "> lose 02c\nlost 02c 808103 asked\n" ∷
    "> lose 02c\nlost 02c F90400 asked\n" ∷
    "> deliver 02h\nno empty\n" ∷
    "> tick 10\nemit 02h F90400\n" ∷
    "> damage 02c 399\nno beyond 57\n" ∷
    "> deliver 02c\ntook 02c F90400\ndown 02c peer\nup 02c 3\nemit 02c E6\n" ∷
    "> deliver 02h\ntook 02h E6\nup 02h 3\n" ∷
    "> send 02h 03 " ∷ replicate 4097 "42" ++
    "\nno too-long\n" ∷
    "> send 02h 03 " ∷ replicate 4096 "42" ++
    "\nsent 02h 3 03 " ∷ replicate 4096 "42" ++
    "\nemit 02h 800342424242424242424242424242424242424242424242424242424242\nemit 02h 880342424242424242424242424242424242424242424242424242424242\n" ∷
    "emit 02h 900342424242424242424242424242424242424242424242424242424242\nemit 02h 980342424242424242424242424242424242424242424242424242424242\n" ∷
    "> send 02h 03 4200\nno full 1 0\n" ∷
    "> tables 01\ntables 01 0 0 0 0\n" ∷
    "> arm 01 1 00\n" ∷
    "> cut 01\ncut 01\n" ∷
    "> cut 01\nno off\n" ∷
    [])
unfolding found_from hosts_where lowest_free encode_with decode_pairs digits bits_of_byte
refusals = refl

-- the first ones of a world
refusals_in_order : told_text (
    "swp 1 hci 02\nsend 02h 01 03\nboot 00\nboot 02\nsend 02h 01 03\nreset 02h\ndeliver 02h\nboot 02\n" ∷
    []) ≡ text (
    "> swp 1 hci 02\n" ∷
    "> send 02h 01 03\nno off\n" ∷
    "> boot 00\nbooted 00 0\n" ∷
    "> boot 02\nbooted 02 0\n" ∷
    "> send 02h 01 03\nno not-up\n" ∷
    "> reset 02h\nno inactive\n" ∷
    "> deliver 02h\nno empty\n" ∷
    "> boot 02\nno running\n" ∷
    [])
unfolding found_from hosts_where lowest_free encode_with decode_pairs digits
refusals_in_order = refl
