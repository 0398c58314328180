-- A user's session over a cut: an init makes three pipes, the long message of a loopback pipe goes there and back, and the same init over again finds all.
use Rattle.node_examples.proofs.Words.{List, [], host_activates, host_activates_again_told, host_activates_told, refl, replicate, ◌++◌, ◌∷◌, ◌≡◌}
use Prim.Native.String.{String}
use Rattle.node_examples.specs.Told.{told_text, text, found_from, hosts_where, lowest_free, encode_with, decode_pairs, digits}

-- a line that begins so, with the message of 251 bytes; and with the frames of it, the first one, one in the midst, and the last one
abbrev whole : String → List String
whole begins = begins ∷ "42" ∷ replicate 250 "33" ++ "\n" ∷ []

abbrev first : String → List String
first begins = begins ∷ "0242" ∷ replicate 27 "33" ++ "\n" ∷ []

abbrev middle : String → List String
middle begins = begins ∷ "02" ∷ replicate 28 "33" ++ "\n" ∷ []

abbrev last : String → List String
last begins = begins ∷ "82" ∷ replicate 27 "33" ++ "\n" ∷ []

users_session_over_a_cut : told_text (
    "swp 1 hci 02\nboot 00\nboot 02\n" ∷
    host_activates "02" "1A" "2B" ++
    "init 02h 0102030405060708 200004 210004 220005\ndeliver 02c\ndeliver 02h\ndeliver 02c\ndeliver 02h\ndeliver 02c\ndeliver 02h\ndeliver 02c\n" ∷
    "deliver 02h\ndeliver 02c\ndeliver 02h\ndeliver 02c\ndeliver 02h\ndeliver 02c\ndeliver 02h\ndeliver 02c\ndeliver 02h\ndeliver 02c\n" ∷
    "send 02h 02 03\ndeliver 02c\ndeliver 02h\ndeliver 02c\nsend 02h 03 03\ndeliver 02c\ndeliver 02h\ndeliver 02c\n" ∷ whole "send 02h 02 " ++
    "deliver 02c 1\ndeliver 02h\ndeliver 02c 1\ndeliver 02h\ndeliver 02c 1\ndeliver 02h\ndeliver 02c 1\ndeliver 02h\ndeliver 02c 1\ndeliver 02h\n" ∷
    "deliver 02c 1\ndeliver 02h\ndeliver 02c 1\ndeliver 02h\ndeliver 02c 1\ndeliver 02h\ndeliver 02c\ndeliver 02h\ndeliver 02c\ndeliver 02h\n" ∷
    "deliver 02c\ndeliver 02h\ndeliver 02c\ncut 02\nboot 02\n" ∷
    host_activates "02" "1A" "2B" ++
    "init 02h 0102030405060708 200004 210004 220005\ndeliver 02c\ndeliver 02h\ndeliver 02c\ndeliver 02h\ndeliver 02c\ntables 02\ntables 00\n" ∷
    []) ≡ text (
    "> swp 1 hci 02\n> boot 00\nbooted 00 0\n> boot 02\nbooted 02 0\n" ∷
    host_activates_told "02" "1A" "2B" ++
    "> init 02h 0102030405060708 200004 210004 220005\nsent 02h 1 01 03\nemit 02h 808103\n" ∷
    "> deliver 02c\ntook 02c 808103\ngot 02c 1 01 03\nturn 02c 01 03\ncommand 00 opened 02 01 01\nsent 02c 1 01 8000\nok 00 2\nemit 02c C1\n" ∷
    "emit 02c 81818000\n" ∷
    "> deliver 02h\ntook 02h C1\nacked 02h 1 1\ntook 02h 81818000\ngot 02h 1 01 8000\nturn 02h 01 8000\nsent 02h 1 01 0201\nemit 02h C1\n" ∷
    "emit 02h 89810201\n" ∷
    "> deliver 02c\ntook 02c C1\nacked 02c 1 1\ntook 02c 89810201\ngot 02c 1 01 0201\nturn 02c 01 0201\nsent 02c 1 01 80FFFFFFFFFFFFFFFF\n" ∷
    "emit 02c C2\nemit 02c 8A8180FFFFFFFFFFFFFFFF\n" ∷
    "> deliver 02h\ntook 02h C2\nacked 02h 1 2\ntook 02h 8A8180FFFFFFFFFFFFFFFF\ngot 02h 1 01 80FFFFFFFFFFFFFFFF\nturn 02h 01 80FFFFFFFFFFFFFFFF\n" ∷
    "sent 02h 1 01 14\nemit 02h C2\nemit 02h 928114\n" ∷
    "> deliver 02c\ntook 02c C2\nacked 02c 1 2\ntook 02c 928114\ngot 02c 1 01 14\nturn 02c 01 14\ncommand 00 clear 02\nsent 02c 1 01 80\nok 00 3\n" ∷
    "emit 02c C3\nemit 02c 938180\n" ∷
    "> deliver 02h\ntook 02h C3\nacked 02h 1 3\ntook 02h 938180\ngot 02h 1 01 80\nturn 02h 01 80\ncommand 02 clear 02\nsent 02h 1 01 03\n" ∷
    "emit 02h C3\nemit 02h 9B8103\n" ∷
    "> deliver 02c\ntook 02c C3\nacked 02c 1 3\ntook 02c 9B8103\ngot 02c 1 01 03\nturn 02c 01 03\ncommand 00 opened 02 01 01\nsent 02c 1 01 8000\n" ∷
    "ok 00 4\nemit 02c C4\nemit 02c 9C818000\n" ∷
    "> deliver 02h\ntook 02h C4\nacked 02h 1 4\ntook 02h 9C818000\ngot 02h 1 01 8000\nturn 02h 01 8000\nsent 02h 1 01 10200004\nemit 02h C4\n" ∷
    "emit 02h A48110200004\n" ∷
    "> deliver 02c\ntook 02c C4\nacked 02c 1 4\ntook 02c A48110200004\ngot 02c 1 01 10200004\nturn 02c 01 10200004\n" ∷
    "command 00 create 02 02 20 00 04\nsent 02c 1 01 800220000402\nok 00 5\nemit 02c C5\nemit 02c A581800220000402\n" ∷
    "> deliver 02h\ntook 02h C5\nacked 02h 1 5\ntook 02h A581800220000402\ngot 02h 1 01 800220000402\nturn 02h 01 800220000402\n" ∷
    "command 02 create 02 02 20 00 04\nsent 02h 1 01 10210004\nemit 02h C5\nemit 02h AD8110210004\n" ∷
    "> deliver 02c\ntook 02c C5\nacked 02c 1 5\ntook 02c AD8110210004\ngot 02c 1 01 10210004\nturn 02c 01 10210004\n" ∷
    "command 00 create 03 02 21 00 04\nsent 02c 1 01 800221000403\nok 00 6\nemit 02c C6\nemit 02c AE81800221000403\n" ∷
    "> deliver 02h\ntook 02h C6\nacked 02h 1 6\ntook 02h AE81800221000403\ngot 02h 1 01 800221000403\nturn 02h 01 800221000403\n" ∷
    "command 02 create 03 02 21 00 04\nsent 02h 1 01 10220005\nemit 02h C6\nemit 02h B68110220005\n" ∷
    "> deliver 02c\ntook 02c C6\nacked 02c 1 6\ntook 02c B68110220005\ngot 02c 1 01 10220005\nturn 02c 01 10220005\n" ∷
    "command 00 create 04 02 22 00 05\nsent 02c 1 01 800222000504\nok 00 7\nemit 02c C7\nemit 02c B781800222000504\n" ∷
    "> deliver 02h\ntook 02h C7\nacked 02h 1 7\ntook 02h B781800222000504\ngot 02h 1 01 800222000504\nturn 02h 01 800222000504\n" ∷
    "command 02 create 04 02 22 00 05\nsent 02h 1 01 01010102030405060708\nemit 02h C7\nemit 02h BF8101010102030405060708\n" ∷
    "> deliver 02c\ntook 02c C7\nacked 02c 1 7\ntook 02c BF8101010102030405060708\ngot 02c 1 01 01010102030405060708\n" ∷
    "turn 02c 01 01010102030405060708\ncommand 00 set 02 00 01 0102030405060708\nsent 02c 1 01 80\nok 00 8\nemit 02c C0\nemit 02c B88180\n" ∷
    "> deliver 02h\ntook 02h C0\nacked 02h 1 8\ntook 02h B88180\ngot 02h 1 01 80\nturn 02h 01 80\ncommand 02 set 02 00 01 0102030405060708\n" ∷
    "init 02h made 3\nemit 02h C0\n" ∷
    "> deliver 02c\ntook 02c C0\nacked 02c 1 8\n" ∷
    "> send 02h 02 03\nsent 02h 1 02 03\nemit 02h 808203\n" ∷
    "> deliver 02c\ntook 02c 808203\ngot 02c 1 02 03\nturn 02c 02 03\ncommand 00 opened 02 02 01\nsent 02c 1 02 8000\nok 00 9\nemit 02c C1\n" ∷
    "emit 02c 81828000\n" ∷
    "> deliver 02h\ntook 02h C1\nacked 02h 1 9\ntook 02h 81828000\ngot 02h 1 02 8000\nturn 02h 02 8000\nemit 02h C1\n" ∷
    "> deliver 02c\ntook 02c C1\nacked 02c 1 9\n" ∷
    "> send 02h 03 03\nsent 02h 1 03 03\nemit 02h 898303\n" ∷
    "> deliver 02c\ntook 02c 898303\ngot 02c 1 03 03\nturn 02c 03 03\ncommand 00 opened 02 03 01\nsent 02c 1 03 8001\nok 00 10\nemit 02c C2\n" ∷
    "emit 02c 8A838001\n" ∷
    "> deliver 02h\ntook 02h C2\nacked 02h 1 10\ntook 02h 8A838001\ngot 02h 1 03 8001\nturn 02h 03 8001\nemit 02h C2\n" ∷
    "> deliver 02c\ntook 02c C2\nacked 02c 1 10\n" ∷
    whole "> send 02h 02 " ++ whole "sent 02h 1 02 " ++ first "emit 02h 92" ++ middle "emit 02h 9A" ++ middle "emit 02h A2" ++ middle "emit 02h AA" ++
    "> deliver 02c 1\n" ∷ first "took 02c 92" ++ "emit 02c C3\n" ∷
    "> deliver 02h\ntook 02h C3\n" ∷ middle "emit 02h B2" ++
    "> deliver 02c 1\n" ∷ middle "took 02c 9A" ++ "emit 02c C4\n" ∷
    "> deliver 02h\ntook 02h C4\n" ∷ middle "emit 02h BA" ++
    "> deliver 02c 1\n" ∷ middle "took 02c A2" ++ "emit 02c C5\n" ∷
    "> deliver 02h\ntook 02h C5\n" ∷ middle "emit 02h 82" ++
    "> deliver 02c 1\n" ∷ middle "took 02c AA" ++ "emit 02c C6\n" ∷
    "> deliver 02h\ntook 02h C6\n" ∷ middle "emit 02h 8A" ++
    "> deliver 02c 1\n" ∷ middle "took 02c B2" ++ "emit 02c C7\n" ∷
    "> deliver 02h\ntook 02h C7\n" ∷ last "emit 02h 92" ++
    "> deliver 02c 1\n" ∷ middle "took 02c BA" ++ "emit 02c C0\n" ∷
    "> deliver 02h\ntook 02h C0\n" ∷
    "> deliver 02c 1\n" ∷ middle "took 02c 82" ++ "emit 02c C1\n" ∷
    "> deliver 02h\ntook 02h C1\n" ∷
    "> deliver 02c 1\n" ∷ middle "took 02c 8A" ++ "emit 02c C2\n" ∷
    "> deliver 02h\ntook 02h C2\n" ∷
    "> deliver 02c\n" ∷ last "took 02c 92" ++ whole "got 02c 1 02 " ++ whole "turn 02c 02 " ++ whole "sent 02c 1 02 " ++ "emit 02c C3\n" ∷
    first "emit 02c 93" ++ middle "emit 02c 9B" ++ middle "emit 02c A3" ++ middle "emit 02c AB" ++
    "> deliver 02h\ntook 02h C3\nacked 02h 1 11\n" ∷ first "took 02h 93" ++ "emit 02h C3\n" ∷ middle "took 02h 9B" ++ "emit 02h C4\n" ∷
    middle "took 02h A3" ++ "emit 02h C5\n" ∷ middle "took 02h AB" ++ "emit 02h C6\n" ∷
    "> deliver 02c\ntook 02c C3\n" ∷ middle "emit 02c B3" ++ "took 02c C4\n" ∷ middle "emit 02c BB" ++ "took 02c C5\n" ∷ middle "emit 02c 83" ++
    "took 02c C6\n" ∷ middle "emit 02c 8B" ++
    "> deliver 02h\n" ∷ middle "took 02h B3" ++ "emit 02h C7\n" ∷ middle "took 02h BB" ++ "emit 02h C0\n" ∷ middle "took 02h 83" ++ "emit 02h C1\n" ∷
    middle "took 02h 8B" ++ "emit 02h C2\n" ∷
    "> deliver 02c\ntook 02c C7\n" ∷ last "emit 02c 93" ++ "took 02c C0\ntook 02c C1\ntook 02c C2\n" ∷
    "> deliver 02h\n" ∷ last "took 02h 93" ++ whole "got 02h 1 02 " ++ whole "turn 02h 02 " ++ "emit 02h C3\n" ∷
    "> deliver 02c\ntook 02c C3\nacked 02c 1 11\n" ∷
    "> cut 02\ncut 02\n" ∷
    "> boot 02\nbooted 02 5\n" ∷
    host_activates_again_told "02" "1A" "2B" "c" ++
    "> init 02h 0102030405060708 200004 210004 220005\nsent 02h 2 01 03\nemit 02h 808103\n" ∷
    "> deliver 02c\ntook 02c 808103\ngot 02c 2 01 03\nturn 02c 01 03\nsent 02c 2 01 8000\nemit 02c C1\nemit 02c 81818000\n" ∷
    "> deliver 02h\ntook 02h C1\nacked 02h 2 1\ntook 02h 81818000\ngot 02h 2 01 8000\nturn 02h 01 8000\nsent 02h 2 01 0201\nemit 02h C1\n" ∷
    "emit 02h 89810201\n" ∷
    "> deliver 02c\ntook 02c C1\nacked 02c 2 1\ntook 02c 89810201\ngot 02c 2 01 0201\nturn 02c 01 0201\nsent 02c 2 01 800102030405060708\n" ∷
    "emit 02c C2\nemit 02c 8A81800102030405060708\n" ∷
    "> deliver 02h\ntook 02h C2\nacked 02h 2 2\ntook 02h 8A81800102030405060708\ngot 02h 2 01 800102030405060708\nturn 02h 01 800102030405060708\n" ∷
    "init 02h same\nemit 02h C2\n" ∷
    "> deliver 02c\ntook 02c C2\nacked 02c 2 2\n" ∷
    "> tables 02\ntables 02 3 0 1 0\npipe 02 02 20 00 04 closed\npipe 03 02 21 00 04 closed\npipe 04 02 22 00 05 closed\n" ∷
    "reg 02 00 01 0102030405060708\n" ∷
    "> tables 00\ntables 00 3 1 1 1\npipe 02 02 20 00 04 opened\npipe 03 02 21 00 04 opened\npipe 04 02 22 00 05 closed\nstatic 02 01\n" ∷
    "reg 02 00 01 0102030405060708\nsync 02 1A2B\n" ∷
    [])
unfolding found_from hosts_where lowest_free encode_with decode_pairs digits
users_session_over_a_cut = refl
