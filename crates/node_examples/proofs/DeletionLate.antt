-- The notice of a deletion is never answered: at its hundredth tick the link is reset, and nobody is answered.
use Rattle.node_examples.proofs.Words.{[], host_allows, host_allows_told, host_begins, host_begins_told, pipe_is_made, pipe_is_made_told, refl, ◌++◌, ◌∷◌, ◌≡◌}
use Rattle.node_examples.specs.Told.{told_text, text, found_from, hosts_where, lowest_free, encode_with, decode_pairs, digits}

deletion_late : told_text (
    "swp 1 hci 01 02 03\nboot 00\nboot 01\nboot 02\nboot 03\n" ∷
    host_begins "01" ++ host_begins "02" ++ host_begins "03" ++ host_allows "0203" ++ pipe_is_made ++
    "send 03h 01 10420142\ndeliver 03c\ndeliver 01h\ndeliver 01c\ndeliver 03h\ndeliver 03c\ndeliver 01h\nsend 02h 01 1102\ndeliver 02c\ndeliver 02h\n" ∷
    "deliver 02c\nsend 03h 01 14\ndeliver 03c\ndeliver 03h\ndeliver 03c\nsend 03h 01 1103\ndeliver 03c\ndeliver 03h\ndeliver 03c\nsend 03h 01 10420142\n" ∷
    "deliver 03c\ndeliver 03h\ndeliver 03c\nsend 01h 01 010302\ndeliver 01c\ndeliver 01h 1\nlose 01h\ncut 01\ntick 99\ntick\ndeliver 03h\ntables 00\n" ∷
    []) ≡ text (
    "> swp 1 hci 01 02 03\n> boot 00\nbooted 00 0\n> boot 01\nbooted 01 0\n> boot 02\nbooted 02 0\n> boot 03\nbooted 03 0\n" ∷
    host_begins_told "01" "2" ++ host_begins_told "02" "4" ++ host_begins_told "03" "6" ++ host_allows_told "0203" "7" ++ pipe_is_made_told "8" ++
    "> send 03h 01 10420142\nsent 03h 1 01 10420142\nemit 03h 898110420142\n" ∷
    "> deliver 03c\ntook 03c 898110420142\ngot 03c 1 01 10420142\nturn 03c 01 10420142\nask 01 120342014203\nsent 01c 1 01 120342014203\n" ∷
    "emit 01c 9B81120342014203\nemit 03c C2\n" ∷
    "> deliver 01h\ntook 01h 9B81120342014203\ngot 01h 1 01 120342014203\nturn 01h 01 120342014203\ncommand 01 create 03 03 42 01 42\nsent 01h 1 01 80\n" ∷
    "ok 01 2\nemit 01h C4\nemit 01h 9C8180\n" ∷
    "> deliver 01c\ntook 01c C4\nacked 01c 1 4\ntook 01c 9C8180\ngot 01c 1 01 80\nturn 01c 01 80\ncommand 00 create 03 03 42 01 42\n" ∷
    "sent 03c 1 01 800342014203\nok 00 9\nemit 01c C4\nemit 03c 8A81800342014203\n" ∷
    "> deliver 03h\ntook 03h C2\nacked 03h 1 2\ntook 03h 8A81800342014203\ngot 03h 1 01 800342014203\nturn 03h 01 800342014203\n" ∷
    "command 03 create 03 03 42 01 42\nemit 03h C2\n" ∷
    "> deliver 03c\ntook 03c C2\nacked 03c 1 2\n" ∷
    "> deliver 01h\ntook 01h C4\nacked 01h 1 4\n" ∷
    "> send 02h 01 1102\nsent 02h 1 01 1102\nemit 02h 92811102\n" ∷
    "> deliver 02c\ntook 02c 92811102\ngot 02c 1 01 1102\nturn 02c 01 1102\ncommand 00 delete 02\nsent 02c 1 01 80\nok 00 10\nsent 01c 1 01 1302\n" ∷
    "emit 01c A4811302\nemit 02c C3\nemit 02c 938180\n" ∷
    "> deliver 02h\ntook 02h C3\nacked 02h 1 3\ntook 02h 938180\ngot 02h 1 01 80\nturn 02h 01 80\ncommand 02 delete 02\nemit 02h C3\n" ∷
    "> deliver 02c\ntook 02c C3\nacked 02c 1 3\n" ∷
    "> send 03h 01 14\nsent 03h 1 01 14\nemit 03h 928114\n" ∷
    "> deliver 03c\ntook 03c 928114\ngot 03c 1 01 14\nturn 03c 01 14\nsent 03c 1 01 88\nemit 03c C3\nemit 03c 938188\n" ∷
    "> deliver 03h\ntook 03h C3\nacked 03h 1 3\ntook 03h 938188\ngot 03h 1 01 88\nturn 03h 01 88\nemit 03h C3\n" ∷
    "> deliver 03c\ntook 03c C3\nacked 03c 1 3\n" ∷
    "> send 03h 01 1103\nsent 03h 1 01 1103\nemit 03h 9B811103\n" ∷
    "> deliver 03c\ntook 03c 9B811103\ngot 03c 1 01 1103\nturn 03c 01 1103\nsent 03c 1 01 88\nemit 03c C4\nemit 03c 9C8188\n" ∷
    "> deliver 03h\ntook 03h C4\nacked 03h 1 4\ntook 03h 9C8188\ngot 03h 1 01 88\nturn 03h 01 88\nemit 03h C4\n" ∷
    "> deliver 03c\ntook 03c C4\nacked 03c 1 4\n" ∷
    "> send 03h 01 10420142\nsent 03h 1 01 10420142\nemit 03h A48110420142\n" ∷
    "> deliver 03c\ntook 03c A48110420142\ngot 03c 1 01 10420142\nturn 03c 01 10420142\nsent 03c 1 01 88\nemit 03c C5\nemit 03c A58188\n" ∷
    "> deliver 03h\ntook 03h C5\nacked 03h 1 5\ntook 03h A58188\ngot 03h 1 01 88\nturn 03h 01 88\nemit 03h C5\n" ∷
    "> deliver 03c\ntook 03c C5\nacked 03c 1 5\n" ∷
    "> send 01h 01 010302\nsent 01h 1 01 010302\nemit 01h A481010302\n" ∷
    "> deliver 01c\ntook 01c A481010302\ngot 01c 1 01 010302\nturn 01c 01 010302\ncommand 00 set 01 00 03 02\nsent 01c 1 01 80\nok 00 11\nemit 01c C5\n" ∷
    "emit 01c AD8180\n" ∷
    "> deliver 01h 1\ntook 01h A4811302\ngot 01h 1 01 1302\nturn 01h 01 1302\ncommand 01 delete 02\nsent 01h 1 01 80\nok 01 3\nemit 01h C5\nemit 01h AD8180\n" ∷
    "> lose 01h\nlost 01h C5 asked\n" ∷
    "> cut 01\ncut 01\n" ∷
    "> tick 99\nemit 01c A5811302\nemit 01c AD8180\nlost 01h A5811302 age\nlost 01h AD8180 age\nemit 01c A5811302\nemit 01c AD8180\nlost 01h A5811302 age\n" ∷
    "lost 01h AD8180 age\nemit 01c A5811302\nemit 01c AD8180\nlost 01h A5811302 age\nlost 01h AD8180 age\nemit 01c A5811302\nemit 01c AD8180\n" ∷
    "lost 01h A5811302 age\nlost 01h AD8180 age\nemit 01c A5811302\nemit 01c AD8180\nlost 01h A5811302 age\nlost 01h AD8180 age\ndown 01c noanswer\n" ∷
    "emit 01c F90400\nlost 01h F90400 age\nemit 01c F90400\nlost 01h F90400 age\nemit 01c F90400\nlost 01h F90400 age\nemit 01c F90400\nlost 01h F90400 age\n" ∷
    "> tick\nemit 01c F90400\n" ∷
    "> deliver 03h\nno empty\n" ∷
    "> tables 00\ntables 00 1 3 1 3\npipe 03 03 42 01 42 closed\nstatic 01 01\nstatic 02 01\nstatic 03 01\nreg 01 00 03 02\nsync 01 0001\nsync 02 0002\n" ∷
    "sync 03 0003\n" ∷
    [])
unfolding found_from hosts_where lowest_free encode_with decode_pairs digits
deletion_late = refl
