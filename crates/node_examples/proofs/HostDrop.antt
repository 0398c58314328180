-- A message that is held at a host is dropped as its link is reset.
use Rattle.node_examples.proofs.Words.{[], host_allows, host_allows_told, host_begins, host_begins_told, pipe_is_made, pipe_is_made_told, refl, replicate, ◌++◌}
use Rattle.node_examples.proofs.Words.{◌∷◌, ◌≡◌}
use Rattle.node_examples.specs.Told.{told_text, text, found_from, hosts_where, lowest_free, encode_with, decode_pairs, digits}

host_drop : told_text (
    "swp 1 hci 01 02\nboot 00\nboot 01\nboot 02\n" ∷
    host_begins "01" ++ host_begins "02" ++ host_allows "02" ++ pipe_is_made ++
    "send 01h 02 42" ∷ replicate 4095 "33" ++
    "\nsend 02h 01 1102\ndeliver 02c\ndeliver 01h\ntick\nreset 01h\ndeliver 01c\ndeliver 01h\ntick 10\ntables 01\ntables 00\n" ∷
    []) ≡ text (
    "> swp 1 hci 01 02\n> boot 00\nbooted 00 0\n> boot 01\nbooted 01 0\n> boot 02\nbooted 02 0\n" ∷
    host_begins_told "01" "2" ++ host_begins_told "02" "4" ++ host_allows_told "02" "5" ++ pipe_is_made_told "6" ++
    "> send 01h 02 42" ∷ replicate 4095 "33" ++
    "\nsent 01h 1 02 42" ∷ replicate 4095 "33" ++
    "\nemit 01h 9B0242333333333333333333333333333333333333333333333333333333\nemit 01h A30233333333333333333333333333333333333333333333333333333333\n" ∷
    "emit 01h AB0233333333333333333333333333333333333333333333333333333333\nemit 01h B30233333333333333333333333333333333333333333333333333333333\n" ∷
    "> send 02h 01 1102\nsent 02h 1 01 1102\nemit 02h 92811102\n" ∷
    "> deliver 02c\ntook 02c 92811102\ngot 02c 1 01 1102\nturn 02c 01 1102\ncommand 00 delete 02\nsent 02c 1 01 80\nok 00 7\nsent 01c 1 01 1302\n" ∷
    "emit 01c 9B811302\nemit 02c C3\nemit 02c 938180\n" ∷
    "> deliver 01h\ntook 01h 9B811302\ngot 01h 1 01 1302\nheld 01h 1 0\nemit 01h C4\n" ∷
    "> tick\n" ∷
    "> reset 01h\ndown 01h asked\nturn 01h 01 1302\ndrop 01h 01\nemit 01h F90400\n" ∷
    "> deliver 01c\ntook 01c 9B0242333333333333333333333333333333333333333333333333333333\nemit 01c C4\n" ∷
    "took 01c A30233333333333333333333333333333333333333333333333333333333\nemit 01c C5\n" ∷
    "took 01c AB0233333333333333333333333333333333333333333333333333333333\nemit 01c C6\n" ∷
    "took 01c B30233333333333333333333333333333333333333333333333333333333\nemit 01c C7\ntook 01c C4\nacked 01c 1 4\ntook 01c F90400\ndown 01c peer\n" ∷
    "up 01c 2\nemit 01c E6\n" ∷
    "> deliver 01h\ntook 01h C4\ntook 01h C5\ntook 01h C6\ntook 01h C7\ntook 01h E6\nup 01h 2\n" ∷
    "> tick 10\nlost 02h C3 age\nlost 02h 938180 age\nemit 02c 938180\nemit 02h 92811102\n" ∷
    "> tables 01\ntables 01 1 0 0 0\npipe 02 02 41 01 41 closed\n" ∷
    "> tables 00\ntables 00 0 2 1 2\nstatic 01 01\nstatic 02 01\nreg 01 00 03 02\nsync 01 0001\nsync 02 0002\n" ∷
    [])
unfolding found_from hosts_where lowest_free encode_with decode_pairs digits
host_drop = refl
