-- In one tick one creation ends with its session, and another one by its time.
use Rattle.node_examples.proofs.Words.{[], host_allows, host_allows_told, host_begins, host_begins_told, pipe_is_made, pipe_is_made_told, refl, ◌++◌, ◌∷◌, ◌≡◌}
use Rattle.node_examples.specs.Told.{told_text, text, found_from, hosts_where, lowest_free, encode_with, decode_pairs, digits}

answers_in_one_tick : told_text (
    "swp 1 hci 01 02 03 04\nboot 00\nboot 01\nboot 02\nboot 03\nboot 04\n" ∷
    host_begins "01" ++ host_begins "02" ++ host_begins "03" ++ host_begins "04" ++ host_allows "02" ++
    "send 03h 01 010304\ndeliver 03c\ndeliver 03h\ndeliver 03c\n" ∷
    pipe_is_made ++
    "send 02h 02 03\ndeliver 02c\ndeliver 02h\ndeliver 02c\nsend 02h 01 10420142\nsend 04h 01 10420342\ndeliver 04c\ndeliver 02c\ndeliver 04h\ndeliver 02h\n" ∷
    "deliver 03h\ndeliver 01h\ndeliver 03c 1\ndeliver 01c 1\nlose 03c\nlose 01c\ncut 01\ncut 03\ntick 40\nsend 02h 02 4255\ndeliver 02c\ndeliver 02h\n" ∷
    "tick 59\ntick 1\ndeliver 02h\ndeliver 04h\n" ∷
    []) ≡ text (
    "> swp 1 hci 01 02 03 04\n> boot 00\nbooted 00 0\n> boot 01\nbooted 01 0\n> boot 02\nbooted 02 0\n> boot 03\nbooted 03 0\n> boot 04\nbooted 04 0\n" ∷
    host_begins_told "01" "2" ++ host_begins_told "02" "4" ++ host_begins_told "03" "6" ++ host_begins_told "04" "8" ++ host_allows_told "02" "9" ++
    "> send 03h 01 010304\nsent 03h 1 01 010304\nemit 03h 8981010304\n" ∷
    "> deliver 03c\ntook 03c 8981010304\ngot 03c 1 01 010304\nturn 03c 01 010304\ncommand 00 set 03 00 03 04\nsent 03c 1 01 80\nok 00 10\nemit 03c C2\n" ∷
    "emit 03c 8A8180\n" ∷
    "> deliver 03h\ntook 03h C2\nacked 03h 1 2\ntook 03h 8A8180\ngot 03h 1 01 80\nturn 03h 01 80\nemit 03h C2\n" ∷
    "> deliver 03c\ntook 03c C2\nacked 03c 1 2\n" ∷
    pipe_is_made_told "11" ++
    "> send 02h 02 03\nsent 02h 1 02 03\nemit 02h 928203\n" ∷
    "> deliver 02c\ntook 02c 928203\ngot 02c 1 02 03\nturn 02c 02 03\ncommand 00 opened 02 02 01\nsent 02c 1 02 8000\nok 00 12\nemit 02c C3\n" ∷
    "emit 02c 93828000\n" ∷
    "> deliver 02h\ntook 02h C3\nacked 02h 1 3\ntook 02h 93828000\ngot 02h 1 02 8000\nturn 02h 02 8000\nemit 02h C3\n" ∷
    "> deliver 02c\ntook 02c C3\nacked 02c 1 3\n" ∷
    "> send 02h 01 10420142\nsent 02h 1 01 10420142\nemit 02h 9B8110420142\n" ∷
    "> send 04h 01 10420342\nsent 04h 1 01 10420342\nemit 04h 898110420342\n" ∷
    "> deliver 04c\ntook 04c 898110420342\ngot 04c 1 01 10420342\nturn 04c 01 10420342\nask 03 120442034203\nsent 03c 1 01 120442034203\n" ∷
    "emit 03c 9281120442034203\nemit 04c C2\n" ∷
    "> deliver 02c\ntook 02c 9B8110420142\ngot 02c 1 01 10420142\nturn 02c 01 10420142\nask 01 120242014204\nsent 01c 1 01 120242014204\n" ∷
    "emit 01c 9B81120242014204\nemit 02c C4\n" ∷
    "> deliver 04h\ntook 04h C2\nacked 04h 1 2\n" ∷
    "> deliver 02h\ntook 02h C4\nacked 02h 1 4\n" ∷
    "> deliver 03h\ntook 03h 9281120442034203\ngot 03h 1 01 120442034203\nturn 03h 01 120442034203\ncommand 03 create 03 04 42 03 42\nsent 03h 1 01 80\n" ∷
    "ok 03 1\nemit 03h C3\nemit 03h 938180\n" ∷
    "> deliver 01h\ntook 01h 9B81120242014204\ngot 01h 1 01 120242014204\nturn 01h 01 120242014204\ncommand 01 create 04 02 42 01 42\nsent 01h 1 01 80\n" ∷
    "ok 01 2\nemit 01h C4\nemit 01h 9C8180\n" ∷
    "> deliver 03c 1\ntook 03c C3\nacked 03c 1 3\n" ∷
    "> deliver 01c 1\ntook 01c C4\nacked 01c 1 4\n" ∷
    "> lose 03c\nlost 03c 938180 asked\n" ∷
    "> lose 01c\nlost 01c 9C8180 asked\n" ∷
    "> cut 01\ncut 01\n" ∷
    "> cut 03\ncut 03\n" ∷
    "> tick 40\n" ∷
    "> send 02h 02 4255\nsent 02h 1 02 4255\nemit 02h A3824255\n" ∷
    "> deliver 02c\ntook 02c A3824255\ngot 02c 1 02 4255\nturn 02c 02 4255\nsent 01c 1 02 4255\nemit 01c A3824255\nemit 02c C5\n" ∷
    "> deliver 02h\ntook 02h C5\nacked 02h 1 5\n" ∷
    "> tick 59\nlost 01h A3824255 age\nemit 01c A3824255\nlost 01h A3824255 age\nemit 01c A3824255\nlost 01h A3824255 age\nemit 01c A3824255\n" ∷
    "lost 01h A3824255 age\nemit 01c A3824255\nlost 01h A3824255 age\nemit 01c A3824255\nlost 01h A3824255 age\n" ∷
    "> tick 1\ndown 01c noanswer\ndown 03c asked\nsent 02c 1 01 81\nsent 04c 1 01 89\nemit 01c F90400\nemit 02c 9D8181\nemit 03c F90400\nemit 04c 8A8189\n" ∷
    "> deliver 02h\ntook 02h 9D8181\ngot 02h 1 01 81\nturn 02h 01 81\nemit 02h C4\n" ∷
    "> deliver 04h\ntook 04h 8A8189\ngot 04h 1 01 89\nturn 04h 01 89\nemit 04h C2\n" ∷
    [])
unfolding found_from hosts_where lowest_free encode_with decode_pairs digits
answers_in_one_tick = refl
