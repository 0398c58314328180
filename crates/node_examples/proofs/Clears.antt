-- Clearings and deletions while notices are not answered.
use Rattle.node_examples.proofs.Words.{[], host_allows, host_allows_told, host_begins, host_begins_told, pipe_is_made, pipe_is_made_told, refl, ◌++◌, ◌∷◌, ◌≡◌}
use Rattle.node_examples.specs.Told.{told_text, text, found_from, hosts_where, lowest_free, encode_with, decode_pairs, digits}

clears : told_text (
    "swp 1 hci 01 02 03\nboot 00\nboot 01\nboot 02\nboot 03\n" ∷
    host_begins "01" ++ host_begins "02" ++ host_begins "03" ++ host_allows "0203" ++ pipe_is_made ++
    "send 02h 02 03\ndeliver 02c\ndeliver 02h\ndeliver 02c\nsend 03h 01 10420142\ndeliver 03c\ndeliver 01h\ndeliver 01c\ndeliver 03h\ndeliver 03c\n" ∷
    "deliver 01h\nsend 03h 03 03\ndeliver 03c\ndeliver 03h\ndeliver 03c\nsend 02h 01 10430143\ndeliver 02c\ndeliver 02h\nsend 01h 01 14\ndeliver 01c\n" ∷
    "deliver 01h 1\ndeliver 01h\ndeliver 01c\ndeliver 02h\ndeliver 02c\ndeliver 01h\nsend 03h 01 1103\ndeliver 03c\ndeliver 03h\ndeliver 03c\n" ∷
    "send 02h 01 14\ndeliver 02c\ndeliver 02h\ndeliver 02c\nsend 01h 01 14\ndeliver 01c\ndeliver 01h\ndeliver 01c\ndeliver 02h\ndeliver 02c\ntables 00\n" ∷
    "tables 01\ntables 02\ntables 03\n" ∷
    []) ≡ text (
    "> swp 1 hci 01 02 03\n> boot 00\nbooted 00 0\n> boot 01\nbooted 01 0\n> boot 02\nbooted 02 0\n> boot 03\nbooted 03 0\n" ∷
    host_begins_told "01" "2" ++ host_begins_told "02" "4" ++ host_begins_told "03" "6" ++ host_allows_told "0203" "7" ++ pipe_is_made_told "8" ++
    "> send 02h 02 03\nsent 02h 1 02 03\nemit 02h 928203\n" ∷
    "> deliver 02c\ntook 02c 928203\ngot 02c 1 02 03\nturn 02c 02 03\ncommand 00 opened 02 02 01\nsent 02c 1 02 8000\nok 00 9\nemit 02c C3\n" ∷
    "emit 02c 93828000\n" ∷
    "> deliver 02h\ntook 02h C3\nacked 02h 1 3\ntook 02h 93828000\ngot 02h 1 02 8000\nturn 02h 02 8000\nemit 02h C3\n" ∷
    "> deliver 02c\ntook 02c C3\nacked 02c 1 3\n" ∷
    "> send 03h 01 10420142\nsent 03h 1 01 10420142\nemit 03h 898110420142\n" ∷
    "> deliver 03c\ntook 03c 898110420142\ngot 03c 1 01 10420142\nturn 03c 01 10420142\nask 01 120342014203\nsent 01c 1 01 120342014203\n" ∷
    "emit 01c 9B81120342014203\nemit 03c C2\n" ∷
    "> deliver 01h\ntook 01h 9B81120342014203\ngot 01h 1 01 120342014203\nturn 01h 01 120342014203\ncommand 01 create 03 03 42 01 42\nsent 01h 1 01 80\n" ∷
    "ok 01 2\nemit 01h C4\nemit 01h 9C8180\n" ∷
    "> deliver 01c\ntook 01c C4\nacked 01c 1 4\ntook 01c 9C8180\ngot 01c 1 01 80\nturn 01c 01 80\ncommand 00 create 03 03 42 01 42\n" ∷
    "sent 03c 1 01 800342014203\nok 00 10\nemit 01c C4\nemit 03c 8A81800342014203\n" ∷
    "> deliver 03h\ntook 03h C2\nacked 03h 1 2\ntook 03h 8A81800342014203\ngot 03h 1 01 800342014203\nturn 03h 01 800342014203\n" ∷
    "command 03 create 03 03 42 01 42\nemit 03h C2\n" ∷
    "> deliver 03c\ntook 03c C2\nacked 03c 1 2\n" ∷
    "> deliver 01h\ntook 01h C4\nacked 01h 1 4\n" ∷
    "> send 03h 03 03\nsent 03h 1 03 03\nemit 03h 928303\n" ∷
    "> deliver 03c\ntook 03c 928303\ngot 03c 1 03 03\nturn 03c 03 03\ncommand 00 opened 03 03 01\nsent 03c 1 03 8000\nok 00 11\nemit 03c C3\n" ∷
    "emit 03c 93838000\n" ∷
    "> deliver 03h\ntook 03h C3\nacked 03h 1 3\ntook 03h 93838000\ngot 03h 1 03 8000\nturn 03h 03 8000\nemit 03h C3\n" ∷
    "> deliver 03c\ntook 03c C3\nacked 03c 1 3\n" ∷
    "> send 02h 01 10430143\nsent 02h 1 01 10430143\nemit 02h 9B8110430143\n" ∷
    "> deliver 02c\ntook 02c 9B8110430143\ngot 02c 1 01 10430143\nturn 02c 01 10430143\nask 01 120243014304\nsent 01c 1 01 120243014304\n" ∷
    "emit 01c A481120243014304\nemit 02c C4\n" ∷
    "> deliver 02h\ntook 02h C4\nacked 02h 1 4\n" ∷
    "> send 01h 01 14\nsent 01h 1 01 14\nemit 01h A48114\n" ∷
    "> deliver 01c\ntook 01c A48114\ngot 01c 1 01 14\nturn 01c 01 14\nsent 01c 1 01 88\nemit 01c C5\nemit 01c AD8188\n" ∷
    "> deliver 01h 1\ntook 01h A481120243014304\ngot 01h 1 01 120243014304\nturn 01h 01 120243014304\ncommand 01 create 04 02 43 01 43\nsent 01h 1 01 80\n" ∷
    "ok 01 3\nemit 01h C5\nemit 01h AD8180\n" ∷
    "> deliver 01h\ntook 01h C5\nacked 01h 1 5\ntook 01h AD8188\ngot 01h 1 01 88\nturn 01h 01 88\nemit 01h C6\n" ∷
    "> deliver 01c\ntook 01c C5\nacked 01c 1 5\ntook 01c AD8180\ngot 01c 1 01 80\nturn 01c 01 80\ncommand 00 create 04 02 43 01 43\n" ∷
    "sent 02c 1 01 800243014304\nok 00 12\nemit 01c C6\nemit 02c 9C81800243014304\ntook 01c C6\nacked 01c 1 6\n" ∷
    "> deliver 02h\ntook 02h 9C81800243014304\ngot 02h 1 01 800243014304\nturn 02h 01 800243014304\ncommand 02 create 04 02 43 01 43\nemit 02h C4\n" ∷
    "> deliver 02c\ntook 02c C4\nacked 02c 1 4\n" ∷
    "> deliver 01h\ntook 01h C6\nacked 01h 1 6\n" ∷
    "> send 03h 01 1103\nsent 03h 1 01 1103\nemit 03h 9B811103\n" ∷
    "> deliver 03c\ntook 03c 9B811103\ngot 03c 1 01 1103\nturn 03c 01 1103\ncommand 00 delete 03\nsent 03c 1 01 80\nok 00 13\nsent 01c 1 01 1303\n" ∷
    "emit 01c B6811303\nemit 03c C4\nemit 03c 9C8180\n" ∷
    "> deliver 03h\ntook 03h C4\nacked 03h 1 4\ntook 03h 9C8180\ngot 03h 1 01 80\nturn 03h 01 80\ncommand 03 delete 03\nemit 03h C4\n" ∷
    "> deliver 03c\ntook 03c C4\nacked 03c 1 4\n" ∷
    "> send 02h 01 14\nsent 02h 1 01 14\nemit 02h A48114\n" ∷
    "> deliver 02c\ntook 02c A48114\ngot 02c 1 01 14\nturn 02c 01 14\nsent 02c 1 01 88\nemit 02c C5\nemit 02c A58188\n" ∷
    "> deliver 02h\ntook 02h C5\nacked 02h 1 5\ntook 02h A58188\ngot 02h 1 01 88\nturn 02h 01 88\nemit 02h C5\n" ∷
    "> deliver 02c\ntook 02c C5\nacked 02c 1 5\n" ∷
    "> send 01h 01 14\nsent 01h 1 01 14\nemit 01h B68114\n" ∷
    "> deliver 01c\ntook 01c B68114\ngot 01c 1 01 14\nturn 01c 01 14\ncommand 00 clear 01\nsent 01c 1 01 80\nok 00 14\nsent 02c 1 01 1501\nemit 01c C7\n" ∷
    "emit 01c BF8180\nemit 02c AD811501\n" ∷
    "> deliver 01h\ntook 01h B6811303\ngot 01h 1 01 1303\nturn 01h 01 1303\ncommand 01 delete 03\nsent 01h 1 01 80\nok 01 4\nemit 01h C7\nemit 01h BF8180\n" ∷
    "took 01h C7\nacked 01h 1 7\ntook 01h BF8180\ngot 01h 1 01 80\nturn 01h 01 80\ncommand 01 clear 01\nemit 01h C0\n" ∷
    "> deliver 01c\ntook 01c C7\nacked 01c 1 7\ntook 01c BF8180\ngot 01c 1 01 80\nturn 01c 01 80\nemit 01c C0\ntook 01c C0\nacked 01c 1 8\n" ∷
    "> deliver 02h\ntook 02h AD811501\ngot 02h 1 01 1501\nturn 02h 01 1501\ncommand 02 clear 01\nsent 02h 1 01 80\nok 02 3\nemit 02h C6\nemit 02h AE8180\n" ∷
    "> deliver 02c\ntook 02c C6\nacked 02c 1 6\ntook 02c AE8180\ngot 02c 1 01 80\nturn 02c 01 80\nemit 02c C6\n" ∷
    "> tables 00\ntables 00 0 2 0 3\nstatic 02 01\nstatic 03 01\nsync 01 0001\nsync 02 0002\nsync 03 0003\n" ∷
    "> tables 01\ntables 01 0 0 0 0\n" ∷
    "> tables 02\ntables 02 0 0 0 0\n" ∷
    "> tables 03\ntables 03 0 0 0 0\n" ∷
    [])
unfolding found_from hosts_where lowest_free encode_with decode_pairs digits
clears = refl
