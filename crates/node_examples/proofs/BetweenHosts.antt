-- Pipes between two hosts: one that is created, and relays what is sent on it, and one whose notice is never answered.
use Prim.Native.String.{String}
use Rattle.std.proofs.Common.{◌≡◌, refl, [], ◌∷◌, ◌++◌, List}
use Rattle.node_examples.specs.Openings.{host_begins, host_begins_told, host_allows, host_allows_told, pipe_is_made, pipe_is_made_told}
use Rattle.node_examples.specs.Told.{told_text, text, found_from, hosts_where, lowest_free, encode_with, decode_pairs, digits}

-- Host 02 asks for a pipe to host 01 in vain; host 01 allows it, and it asks again.
abbrev asks_twice : List String
asks_twice =
    "swp 1 hci 01 02\nboot 00\nboot 01\nboot 02\n" ∷
    host_begins "01" ++ host_begins "02" ++
    "send 02h 01 10410141\ndeliver 02c\ndeliver 02h\ndeliver 02c\n" ∷
    host_allows "02" ++
    "send 02h 01 10410141\ndeliver 02c\n" ∷
    []

abbrev asks_twice_told : List String
asks_twice_told =
    "> swp 1 hci 01 02\n> boot 00\nbooted 00 0\n> boot 01\nbooted 01 0\n> boot 02\nbooted 02 0\n" ∷
    host_begins_told "01" "2" ++ host_begins_told "02" "4" ++
    "> send 02h 01 10410141\nsent 02h 1 01 10410141\nemit 02h 898110410141\n" ∷
    "> deliver 02c\ntook 02c 898110410141\ngot 02c 1 01 10410141\nturn 02c 01 10410141\nsent 02c 1 01 8B\nemit 02c C2\nemit 02c 8A818B\n" ∷
    "> deliver 02h\ntook 02h C2\nacked 02h 1 2\ntook 02h 8A818B\ngot 02h 1 01 8B\nturn 02h 01 8B\nemit 02h C2\n" ∷
    "> deliver 02c\ntook 02c C2\nacked 02c 1 2\n" ∷
    host_allows_told "02" "5" ++
    "> send 02h 01 10410141\nsent 02h 1 01 10410141\nemit 02h 928110410141\n" ∷
    "> deliver 02c\ntook 02c 928110410141\ngot 02c 1 01 10410141\nturn 02c 01 10410141\nask 01 120241014102\nsent 01c 1 01 120241014102\n" ∷
    "emit 01c 9281120241014102\nemit 02c C3\n" ∷
    []

creation_between_hosts : told_text (
    asks_twice ++
    "deliver 01h\ndeliver 01c\ndeliver 02h\ndeliver 02c\ndeliver 01h\n" ∷
    []) ≡ text (
    asks_twice_told ++
    "> deliver 01h\ntook 01h 9281120241014102\ngot 01h 1 01 120241014102\nturn 01h 01 120241014102\ncommand 01 create 02 02 41 01 41\nsent 01h 1 01 80\n" ∷
    "ok 01 1\nemit 01h C3\nemit 01h 938180\n" ∷
    "> deliver 01c\ntook 01c C3\nacked 01c 1 3\ntook 01c 938180\ngot 01c 1 01 80\nturn 01c 01 80\ncommand 00 create 02 02 41 01 41\n" ∷
    "sent 02c 1 01 800241014102\nok 00 6\nemit 01c C3\nemit 02c 9381800241014102\n" ∷
    "> deliver 02h\ntook 02h C3\nacked 02h 1 3\ntook 02h 9381800241014102\ngot 02h 1 01 800241014102\nturn 02h 01 800241014102\n" ∷
    "command 02 create 02 02 41 01 41\nemit 02h C3\n" ∷
    "> deliver 02c\ntook 02c C3\nacked 02c 1 3\n" ∷
    "> deliver 01h\ntook 01h C3\nacked 01h 1 3\n" ∷
    [])
unfolding found_from hosts_where lowest_free encode_with decode_pairs digits
creation_between_hosts = refl

notice_never_answered : told_text (
    asks_twice ++
    "deliver 02h\ntick 60\ndeliver 02h\n" ∷
    []) ≡ text (
    asks_twice_told ++
    "> deliver 02h\ntook 02h C3\nacked 02h 1 3\n" ∷
    "> tick 60\nlost 01h 9281120241014102 age\nemit 01c 9281120241014102\nlost 01h 9281120241014102 age\nemit 01c 9281120241014102\n" ∷
    "lost 01h 9281120241014102 age\nemit 01c 9281120241014102\nlost 01h 9281120241014102 age\nemit 01c 9281120241014102\nlost 01h 9281120241014102 age\n" ∷
    "emit 01c 9281120241014102\nlost 01h 9281120241014102 age\ndown 01c noanswer\nsent 02c 1 01 81\nemit 01c F90400\nemit 02c 938181\n" ∷
    "> deliver 02h\ntook 02h 938181\ngot 02h 1 01 81\nturn 02h 01 81\nemit 02h C3\n" ∷
    [])
unfolding found_from hosts_where lowest_free encode_with decode_pairs digits
notice_never_answered = refl

relay_and_strangers : told_text (
    "swp 1 hci 01 02 03\nboot 00\nboot 01\nboot 02\nboot 03\n" ∷
    host_begins "01" ++ host_begins "02" ++ host_begins "03" ++ host_allows "02" ++ pipe_is_made ++
    "send 01h 02 03\ndeliver 01c\ndeliver 01h\ndeliver 01c\nsend 02h 02 40AA\ndeliver 02c\nsend 03h 02 03\ndeliver 03c\ndeliver 03h\ndeliver 03c\n" ∷
    []) ≡ text (
    "> swp 1 hci 01 02 03\n> boot 00\nbooted 00 0\n> boot 01\nbooted 01 0\n> boot 02\nbooted 02 0\n> boot 03\nbooted 03 0\n" ∷
    host_begins_told "01" "2" ++ host_begins_told "02" "4" ++ host_begins_told "03" "6" ++ host_allows_told "02" "7" ++ pipe_is_made_told "8" ++
    "> send 01h 02 03\nsent 01h 1 02 03\nemit 01h 9B8203\n" ∷
    "> deliver 01c\ntook 01c 9B8203\ngot 01c 1 02 03\nturn 01c 02 03\ncommand 00 opened 01 02 01\nsent 01c 1 02 8000\nok 00 9\nemit 01c C4\n" ∷
    "emit 01c 9C828000\n" ∷
    "> deliver 01h\ntook 01h C4\nacked 01h 1 4\ntook 01h 9C828000\ngot 01h 1 02 8000\nturn 01h 02 8000\nemit 01h C4\n" ∷
    "> deliver 01c\ntook 01c C4\nacked 01c 1 4\n" ∷
    "> send 02h 02 40AA\nsent 02h 1 02 40AA\nemit 02h 928240AA\n" ∷
    "> deliver 02c\ntook 02c 928240AA\ngot 02c 1 02 40AA\nturn 02c 02 40AA\nsent 01c 1 02 40AA\nemit 01c A48240AA\nemit 02c C3\n" ∷
    "> send 03h 02 03\nsent 03h 1 02 03\nemit 03h 898203\n" ∷
    "> deliver 03c\ntook 03c 898203\ngot 03c 1 02 03\nturn 03c 02 03\nsent 03c 1 02 81\nemit 03c C2\nemit 03c 8A8281\n" ∷
    "> deliver 03h\ntook 03h C2\nacked 03h 1 2\ntook 03h 8A8281\ngot 03h 1 02 81\nturn 03h 02 81\nemit 03h C2\n" ∷
    "> deliver 03c\ntook 03c C2\nacked 03c 1 2\n" ∷
    [])
unfolding found_from hosts_where lowest_free encode_with decode_pairs digits
relay_and_strangers = refl
