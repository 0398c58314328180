-- A notice is late in the very tick in which the session of its link ends: its asker is told that the host is not connected.
use Rattle.node_examples.proofs.Words.{[], host_allows, host_allows_told, host_begins, host_begins_told, pipe_is_made, pipe_is_made_told, refl, ◌++◌, ◌∷◌, ◌≡◌}
use Rattle.node_examples.specs.Told.{told_text, text, found_from, hosts_where, lowest_free, encode_with, decode_pairs, digits}

late_and_noanswer : told_text (
    "swp 1 hci 01 02\nboot 00\nboot 01\nboot 02\n" ∷
    host_begins "01" ++ host_begins "02" ++ host_allows "02" ++ pipe_is_made ++
    "send 02h 02 03\ndeliver 02c\ndeliver 02h\ndeliver 02c\nsend 02h 01 10420142\ndeliver 02c\ndeliver 02h\ndeliver 02c\ndeliver 01h\ndeliver 01c 1\n" ∷
    "lose 01c\ncut 01\ntick 40\nsend 02h 02 42AA\ndeliver 02c\ndeliver 02h\ntick 59\ntick 1\ndeliver 02h\ndeliver 02c\n" ∷
    []) ≡ text (
    "> swp 1 hci 01 02\n> boot 00\nbooted 00 0\n> boot 01\nbooted 01 0\n> boot 02\nbooted 02 0\n" ∷
    host_begins_told "01" "2" ++ host_begins_told "02" "4" ++ host_allows_told "02" "5" ++ pipe_is_made_told "6" ++
    "> send 02h 02 03\nsent 02h 1 02 03\nemit 02h 928203\n" ∷
    "> deliver 02c\ntook 02c 928203\ngot 02c 1 02 03\nturn 02c 02 03\ncommand 00 opened 02 02 01\nsent 02c 1 02 8000\nok 00 7\nemit 02c C3\n" ∷
    "emit 02c 93828000\n" ∷
    "> deliver 02h\ntook 02h C3\nacked 02h 1 3\ntook 02h 93828000\ngot 02h 1 02 8000\nturn 02h 02 8000\nemit 02h C3\n" ∷
    "> deliver 02c\ntook 02c C3\nacked 02c 1 3\n" ∷
    "> send 02h 01 10420142\nsent 02h 1 01 10420142\nemit 02h 9B8110420142\n" ∷
    "> deliver 02c\ntook 02c 9B8110420142\ngot 02c 1 01 10420142\nturn 02c 01 10420142\nask 01 120242014203\nsent 01c 1 01 120242014203\n" ∷
    "emit 01c 9B81120242014203\nemit 02c C4\n" ∷
    "> deliver 02h\ntook 02h C4\nacked 02h 1 4\n" ∷
    "> deliver 02c\nno empty\n" ∷
    "> deliver 01h\ntook 01h 9B81120242014203\ngot 01h 1 01 120242014203\nturn 01h 01 120242014203\ncommand 01 create 03 02 42 01 42\nsent 01h 1 01 80\n" ∷
    "ok 01 2\nemit 01h C4\nemit 01h 9C8180\n" ∷
    "> deliver 01c 1\ntook 01c C4\nacked 01c 1 4\n" ∷
    "> lose 01c\nlost 01c 9C8180 asked\n" ∷
    "> cut 01\ncut 01\n" ∷
    "> tick 40\n" ∷
    "> send 02h 02 42AA\nsent 02h 1 02 42AA\nemit 02h A38242AA\n" ∷
    "> deliver 02c\ntook 02c A38242AA\ngot 02c 1 02 42AA\nturn 02c 02 42AA\nsent 01c 1 02 42AA\nemit 01c A38242AA\nemit 02c C5\n" ∷
    "> deliver 02h\ntook 02h C5\nacked 02h 1 5\n" ∷
    "> tick 59\nlost 01h A38242AA age\nemit 01c A38242AA\nlost 01h A38242AA age\nemit 01c A38242AA\nlost 01h A38242AA age\nemit 01c A38242AA\n" ∷
    "lost 01h A38242AA age\nemit 01c A38242AA\nlost 01h A38242AA age\nemit 01c A38242AA\nlost 01h A38242AA age\n" ∷
    "> tick 1\ndown 01c noanswer\nsent 02c 1 01 81\nemit 01c F90400\nemit 02c 9D8181\n" ∷
    "> deliver 02h\ntook 02h 9D8181\ngot 02h 1 01 81\nturn 02h 01 81\nemit 02h C4\n" ∷
    "> deliver 02c\ntook 02c C4\nacked 02c 1 4\n" ∷
    [])
unfolding found_from hosts_where lowest_free encode_with decode_pairs digits
late_and_noanswer = refl
