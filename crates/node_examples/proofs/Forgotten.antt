-- A creation whose asker loses its session: its notice stays unanswered, and holds off others until it is answered.
use Rattle.node_examples.proofs.Words.{[], host_allows, host_allows_told, host_begins, host_begins_told, refl, ◌++◌, ◌∷◌, ◌≡◌}
use Rattle.node_examples.specs.Told.{told_text, text, found_from, hosts_where, lowest_free, encode_with, decode_pairs, digits}

forgotten : told_text (
    "swp 1 hci 01 02 03\nboot 00\nboot 01\nboot 02\nboot 03\n" ∷
    host_begins "01" ++ host_begins "02" ++ host_begins "03" ++ host_allows "0203" ++
    "send 02h 01 10410141\ndeliver 02c\ndeliver 02h\ndeliver 02c\nreset 02h\ndeliver 02c\ndeliver 02h\nsend 03h 01 10410141\ndeliver 03c\ndeliver 03h\n" ∷
    "deliver 03c\nsend 01h 01 010303\ndeliver 01c\ndeliver 01h 1\ndeliver 01h\ndeliver 01c\ndeliver 01h\ndeliver 01c\nsend 03h 01 10410141\ndeliver 03c\n" ∷
    "deliver 01h\ndeliver 01c\ndeliver 03h\ndeliver 03c\ntables 00\ntables 01\n" ∷
    []) ≡ text (
    "> swp 1 hci 01 02 03\n> boot 00\nbooted 00 0\n> boot 01\nbooted 01 0\n> boot 02\nbooted 02 0\n> boot 03\nbooted 03 0\n" ∷
    host_begins_told "01" "2" ++ host_begins_told "02" "4" ++ host_begins_told "03" "6" ++ host_allows_told "0203" "7" ++
    "> send 02h 01 10410141\nsent 02h 1 01 10410141\nemit 02h 898110410141\n" ∷
    "> deliver 02c\ntook 02c 898110410141\ngot 02c 1 01 10410141\nturn 02c 01 10410141\nask 01 120241014102\nsent 01c 1 01 120241014102\n" ∷
    "emit 01c 9281120241014102\nemit 02c C2\n" ∷
    "> deliver 02h\ntook 02h C2\nacked 02h 1 2\n" ∷
    "> deliver 02c\nno empty\n" ∷
    "> reset 02h\ndown 02h asked\nemit 02h F90400\n" ∷
    "> deliver 02c\ntook 02c F90400\ndown 02c peer\nup 02c 2\nemit 02c E6\n" ∷
    "> deliver 02h\ntook 02h E6\nup 02h 2\n" ∷
    "> send 03h 01 10410141\nsent 03h 1 01 10410141\nemit 03h 898110410141\n" ∷
    "> deliver 03c\ntook 03c 898110410141\ngot 03c 1 01 10410141\nturn 03c 01 10410141\nsent 03c 1 01 88\nemit 03c C2\nemit 03c 8A8188\n" ∷
    "> deliver 03h\ntook 03h C2\nacked 03h 1 2\ntook 03h 8A8188\ngot 03h 1 01 88\nturn 03h 01 88\nemit 03h C2\n" ∷
    "> deliver 03c\ntook 03c C2\nacked 03c 1 2\n" ∷
    "> send 01h 01 010303\nsent 01h 1 01 010303\nemit 01h 9281010303\n" ∷
    "> deliver 01c\ntook 01c 9281010303\ngot 01c 1 01 010303\nturn 01c 01 010303\nsent 01c 1 01 88\nemit 01c C3\nemit 01c 9B8188\n" ∷
    "> deliver 01h 1\ntook 01h 9281120241014102\ngot 01h 1 01 120241014102\nturn 01h 01 120241014102\ncommand 01 create 02 02 41 01 41\nsent 01h 1 01 80\n" ∷
    "ok 01 1\nemit 01h C3\nemit 01h 9B8180\n" ∷
    "> deliver 01h\ntook 01h C3\nacked 01h 1 3\ntook 01h 9B8188\ngot 01h 1 01 88\nturn 01h 01 88\nemit 01h C4\n" ∷
    "> deliver 01c\ntook 01c C3\nacked 01c 1 3\ntook 01c 9B8180\ngot 01c 1 01 80\nturn 01c 01 80\nemit 01c C4\ntook 01c C4\nacked 01c 1 4\n" ∷
    "> deliver 01h\ntook 01h C4\nacked 01h 1 4\n" ∷
    "> deliver 01c\nno empty\n" ∷
    "> send 03h 01 10410141\nsent 03h 1 01 10410141\nemit 03h 928110410141\n" ∷
    "> deliver 03c\ntook 03c 928110410141\ngot 03c 1 01 10410141\nturn 03c 01 10410141\nask 01 120341014102\nsent 01c 1 01 120341014102\n" ∷
    "emit 01c A481120341014102\nemit 03c C3\n" ∷
    "> deliver 01h\ntook 01h A481120341014102\ngot 01h 1 01 120341014102\nturn 01h 01 120341014102\ncommand 01 create 02 03 41 01 41\nsent 01h 1 01 80\n" ∷
    "ok 01 2\nemit 01h C5\nemit 01h A58180\n" ∷
    "> deliver 01c\ntook 01c C5\nacked 01c 1 5\ntook 01c A58180\ngot 01c 1 01 80\nturn 01c 01 80\ncommand 00 create 02 03 41 01 41\n" ∷
    "sent 03c 1 01 800341014102\nok 00 8\nemit 01c C5\nemit 03c 9381800341014102\n" ∷
    "> deliver 03h\ntook 03h C3\nacked 03h 1 3\ntook 03h 9381800341014102\ngot 03h 1 01 800341014102\nturn 03h 01 800341014102\n" ∷
    "command 03 create 02 03 41 01 41\nemit 03h C3\n" ∷
    "> deliver 03c\ntook 03c C3\nacked 03c 1 3\n" ∷
    "> tables 00\ntables 00 1 3 1 3\npipe 02 03 41 01 41 closed\nstatic 01 01\nstatic 02 01\nstatic 03 01\nreg 01 00 03 0203\nsync 01 0001\nsync 02 0002\n" ∷
    "sync 03 0003\n" ∷
    "> tables 01\ntables 01 1 0 0 0\npipe 02 03 41 01 41 closed\n" ∷
    [])
unfolding found_from hosts_where lowest_free encode_with decode_pairs digits
forgotten = refl
