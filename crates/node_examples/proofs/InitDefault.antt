-- Inits with the identity that is the default, with a pipe that is refused, and with eight pipes.
use Rattle.node_examples.proofs.Words.{[], host_begins, host_begins_told, refl, ◌++◌, ◌∷◌, ◌≡◌}
use Rattle.node_examples.specs.Told.{told_text, text, found_from, hosts_where, lowest_free, encode_with, decode_pairs, digits}

init_default : told_text (
    "swp 1 hci 02\nboot 00\nboot 02\n" ∷
    host_begins "02" ++
    "init 02h FFFFFFFFFFFFFFFF\ndeliver 02c\ndeliver 02h\ndeliver 02c\ndeliver 02h\ndeliver 02c\ndeliver 02h\ndeliver 02c\ndeliver 02h\ndeliver 02c\n" ∷
    "deliver 02h\ninit 02h FFFFFFFFFFFFFFFF 200004\ndeliver 02c\ndeliver 02h\ndeliver 02c\ndeliver 02h\ndeliver 02c\ndeliver 02h\ndeliver 02c\ndeliver 02h\n" ∷
    "deliver 02c\ndeliver 02h\ndeliver 02c\ndeliver 02h\ndeliver 02c\ndeliver 02h\ninit 02h 0000000000000001 200007\ndeliver 02c\ndeliver 02h\ndeliver 02c\n" ∷
    "deliver 02h\ndeliver 02c\ndeliver 02h\ndeliver 02c\ndeliver 02h\ndeliver 02c\ndeliver 02h\ndeliver 02c\ndeliver 02h\n" ∷
    "init 02h 0000000000000001 200004 200004 200004 200004 200005 200005 200005 200005\ndeliver 02c\ndeliver 02h\ndeliver 02c\ndeliver 02h\ndeliver 02c\n" ∷
    "deliver 02h\ndeliver 02c\ndeliver 02h\ndeliver 02c\ndeliver 02h\ndeliver 02c\ndeliver 02h\ndeliver 02c\ndeliver 02h\ndeliver 02c\ndeliver 02h\n" ∷
    "deliver 02c\ndeliver 02h\ndeliver 02c\ndeliver 02h\ndeliver 02c\ndeliver 02h\ndeliver 02c\ndeliver 02h\ndeliver 02c\ndeliver 02h\ndeliver 02c\n" ∷
    "deliver 02h\ntables 02\ntables 00\n" ∷
    []) ≡ text (
    "> swp 1 hci 02\n> boot 00\nbooted 00 0\n> boot 02\nbooted 02 0\n" ∷
    host_begins_told "02" "2" ++
    "> init 02h FFFFFFFFFFFFFFFF\nsent 02h 1 01 03\nemit 02h 898103\n" ∷
    "> deliver 02c\ntook 02c 898103\ngot 02c 1 01 03\nturn 02c 01 03\nsent 02c 1 01 8000\nemit 02c C2\nemit 02c 8A818000\n" ∷
    "> deliver 02h\ntook 02h C2\nacked 02h 1 2\ntook 02h 8A818000\ngot 02h 1 01 8000\nturn 02h 01 8000\nsent 02h 1 01 0201\nemit 02h C2\nemit 02h 92810201\n" ∷
    "> deliver 02c\ntook 02c C2\nacked 02c 1 2\ntook 02c 92810201\ngot 02c 1 01 0201\nturn 02c 01 0201\nsent 02c 1 01 80FFFFFFFFFFFFFFFF\nemit 02c C3\n" ∷
    "emit 02c 938180FFFFFFFFFFFFFFFF\n" ∷
    "> deliver 02h\ntook 02h C3\nacked 02h 1 3\ntook 02h 938180FFFFFFFFFFFFFFFF\ngot 02h 1 01 80FFFFFFFFFFFFFFFF\nturn 02h 01 80FFFFFFFFFFFFFFFF\n" ∷
    "sent 02h 1 01 14\nemit 02h C3\nemit 02h 9B8114\n" ∷
    "> deliver 02c\ntook 02c C3\nacked 02c 1 3\ntook 02c 9B8114\ngot 02c 1 01 14\nturn 02c 01 14\ncommand 00 clear 02\nsent 02c 1 01 80\nok 00 3\n" ∷
    "emit 02c C4\nemit 02c 9C8180\n" ∷
    "> deliver 02h\ntook 02h C4\nacked 02h 1 4\ntook 02h 9C8180\ngot 02h 1 01 80\nturn 02h 01 80\ncommand 02 clear 02\nsent 02h 1 01 03\nemit 02h C4\n" ∷
    "emit 02h A48103\n" ∷
    "> deliver 02c\ntook 02c C4\nacked 02c 1 4\ntook 02c A48103\ngot 02c 1 01 03\nturn 02c 01 03\ncommand 00 opened 02 01 01\nsent 02c 1 01 8000\nok 00 4\n" ∷
    "emit 02c C5\nemit 02c A5818000\n" ∷
    "> deliver 02h\ntook 02h C5\nacked 02h 1 5\ntook 02h A5818000\ngot 02h 1 01 8000\nturn 02h 01 8000\nsent 02h 1 01 0101FFFFFFFFFFFFFFFF\nemit 02h C5\n" ∷
    "emit 02h AD810101FFFFFFFFFFFFFFFF\n" ∷
    "> deliver 02c\ntook 02c C5\nacked 02c 1 5\ntook 02c AD810101FFFFFFFFFFFFFFFF\ngot 02c 1 01 0101FFFFFFFFFFFFFFFF\nturn 02c 01 0101FFFFFFFFFFFFFFFF\n" ∷
    "command 00 set 02 00 01 FFFFFFFFFFFFFFFF\nsent 02c 1 01 80\nok 00 5\nemit 02c C6\nemit 02c AE8180\n" ∷
    "> deliver 02h\ntook 02h C6\nacked 02h 1 6\ntook 02h AE8180\ngot 02h 1 01 80\nturn 02h 01 80\ncommand 02 set 02 00 01 FFFFFFFFFFFFFFFF\ninit 02h made 0\n" ∷
    "emit 02h C6\n" ∷
    "> init 02h FFFFFFFFFFFFFFFF 200004\nsent 02h 1 01 03\nemit 02h B68103\n" ∷
    "> deliver 02c\ntook 02c C6\nacked 02c 1 6\ntook 02c B68103\ngot 02c 1 01 03\nturn 02c 01 03\nsent 02c 1 01 8000\nemit 02c C7\nemit 02c B7818000\n" ∷
    "> deliver 02h\ntook 02h C7\nacked 02h 1 7\ntook 02h B7818000\ngot 02h 1 01 8000\nturn 02h 01 8000\nsent 02h 1 01 0201\nemit 02h C7\nemit 02h BF810201\n" ∷
    "> deliver 02c\ntook 02c C7\nacked 02c 1 7\ntook 02c BF810201\ngot 02c 1 01 0201\nturn 02c 01 0201\nsent 02c 1 01 80FFFFFFFFFFFFFFFF\nemit 02c C0\n" ∷
    "emit 02c B88180FFFFFFFFFFFFFFFF\n" ∷
    "> deliver 02h\ntook 02h C0\nacked 02h 1 8\ntook 02h B88180FFFFFFFFFFFFFFFF\ngot 02h 1 01 80FFFFFFFFFFFFFFFF\nturn 02h 01 80FFFFFFFFFFFFFFFF\n" ∷
    "sent 02h 1 01 14\nemit 02h C0\nemit 02h 808114\n" ∷
    "> deliver 02c\ntook 02c C0\nacked 02c 1 8\ntook 02c 808114\ngot 02c 1 01 14\nturn 02c 01 14\ncommand 00 clear 02\nsent 02c 1 01 80\nok 00 6\n" ∷
    "emit 02c C1\nemit 02c 818180\n" ∷
    "> deliver 02h\ntook 02h C1\nacked 02h 1 9\ntook 02h 818180\ngot 02h 1 01 80\nturn 02h 01 80\ncommand 02 clear 02\nsent 02h 1 01 03\nemit 02h C1\n" ∷
    "emit 02h 898103\n" ∷
    "> deliver 02c\ntook 02c C1\nacked 02c 1 9\ntook 02c 898103\ngot 02c 1 01 03\nturn 02c 01 03\ncommand 00 opened 02 01 01\nsent 02c 1 01 8000\nok 00 7\n" ∷
    "emit 02c C2\nemit 02c 8A818000\n" ∷
    "> deliver 02h\ntook 02h C2\nacked 02h 1 10\ntook 02h 8A818000\ngot 02h 1 01 8000\nturn 02h 01 8000\nsent 02h 1 01 10200004\nemit 02h C2\n" ∷
    "emit 02h 928110200004\n" ∷
    "> deliver 02c\ntook 02c C2\nacked 02c 1 10\ntook 02c 928110200004\ngot 02c 1 01 10200004\nturn 02c 01 10200004\ncommand 00 create 02 02 20 00 04\n" ∷
    "sent 02c 1 01 800220000402\nok 00 8\nemit 02c C3\nemit 02c 9381800220000402\n" ∷
    "> deliver 02h\ntook 02h C3\nacked 02h 1 11\ntook 02h 9381800220000402\ngot 02h 1 01 800220000402\nturn 02h 01 800220000402\n" ∷
    "command 02 create 02 02 20 00 04\nsent 02h 1 01 0101FFFFFFFFFFFFFFFF\nemit 02h C3\nemit 02h 9B810101FFFFFFFFFFFFFFFF\n" ∷
    "> deliver 02c\ntook 02c C3\nacked 02c 1 11\ntook 02c 9B810101FFFFFFFFFFFFFFFF\ngot 02c 1 01 0101FFFFFFFFFFFFFFFF\nturn 02c 01 0101FFFFFFFFFFFFFFFF\n" ∷
    "command 00 set 02 00 01 FFFFFFFFFFFFFFFF\nsent 02c 1 01 80\nok 00 9\nemit 02c C4\nemit 02c 9C8180\n" ∷
    "> deliver 02h\ntook 02h C4\nacked 02h 1 12\ntook 02h 9C8180\ngot 02h 1 01 80\nturn 02h 01 80\ncommand 02 set 02 00 01 FFFFFFFFFFFFFFFF\n" ∷
    "init 02h made 1\nemit 02h C4\n" ∷
    "> deliver 02c\ntook 02c C4\nacked 02c 1 12\n" ∷
    "> deliver 02h\nno empty\n" ∷
    "> init 02h 0000000000000001 200007\nsent 02h 1 01 03\nemit 02h A48103\n" ∷
    "> deliver 02c\ntook 02c A48103\ngot 02c 1 01 03\nturn 02c 01 03\nsent 02c 1 01 8000\nemit 02c C5\nemit 02c A5818000\n" ∷
    "> deliver 02h\ntook 02h C5\nacked 02h 1 13\ntook 02h A5818000\ngot 02h 1 01 8000\nturn 02h 01 8000\nsent 02h 1 01 0201\nemit 02h C5\nemit 02h AD810201\n" ∷
    "> deliver 02c\ntook 02c C5\nacked 02c 1 13\ntook 02c AD810201\ngot 02c 1 01 0201\nturn 02c 01 0201\nsent 02c 1 01 80FFFFFFFFFFFFFFFF\nemit 02c C6\n" ∷
    "emit 02c AE8180FFFFFFFFFFFFFFFF\n" ∷
    "> deliver 02h\ntook 02h C6\nacked 02h 1 14\ntook 02h AE8180FFFFFFFFFFFFFFFF\ngot 02h 1 01 80FFFFFFFFFFFFFFFF\nturn 02h 01 80FFFFFFFFFFFFFFFF\n" ∷
    "sent 02h 1 01 14\nemit 02h C6\nemit 02h B68114\n" ∷
    "> deliver 02c\ntook 02c C6\nacked 02c 1 14\ntook 02c B68114\ngot 02c 1 01 14\nturn 02c 01 14\ncommand 00 clear 02\nsent 02c 1 01 80\nok 00 10\n" ∷
    "emit 02c C7\nemit 02c B78180\n" ∷
    "> deliver 02h\ntook 02h C7\nacked 02h 1 15\ntook 02h B78180\ngot 02h 1 01 80\nturn 02h 01 80\ncommand 02 clear 02\nsent 02h 1 01 03\nemit 02h C7\n" ∷
    "emit 02h BF8103\n" ∷
    "> deliver 02c\ntook 02c C7\nacked 02c 1 15\ntook 02c BF8103\ngot 02c 1 01 03\nturn 02c 01 03\ncommand 00 opened 02 01 01\nsent 02c 1 01 8000\nok 00 11\n" ∷
    "emit 02c C0\nemit 02c B8818000\n" ∷
    "> deliver 02h\ntook 02h C0\nacked 02h 1 16\ntook 02h B8818000\ngot 02h 1 01 8000\nturn 02h 01 8000\nsent 02h 1 01 10200007\nemit 02h C0\n" ∷
    "emit 02h 808110200007\n" ∷
    "> deliver 02c\ntook 02c C0\nacked 02c 1 16\ntook 02c 808110200007\ngot 02c 1 01 10200007\nturn 02c 01 10200007\nsent 02c 1 01 83\nemit 02c C1\n" ∷
    "emit 02c 818183\n" ∷
    "> deliver 02h\ntook 02h C1\nacked 02h 1 17\ntook 02h 818183\ngot 02h 1 01 83\nturn 02h 01 83\ninit 02h failed 03\nemit 02h C1\n" ∷
    "> deliver 02c\ntook 02c C1\nacked 02c 1 17\n" ∷
    "> deliver 02h\nno empty\n" ∷
    "> init 02h 0000000000000001 200004 200004 200004 200004 200005 200005 200005 200005\nsent 02h 1 01 03\nemit 02h 898103\n" ∷
    "> deliver 02c\ntook 02c 898103\ngot 02c 1 01 03\nturn 02c 01 03\nsent 02c 1 01 8000\nemit 02c C2\nemit 02c 8A818000\n" ∷
    "> deliver 02h\ntook 02h C2\nacked 02h 1 18\ntook 02h 8A818000\ngot 02h 1 01 8000\nturn 02h 01 8000\nsent 02h 1 01 0201\nemit 02h C2\nemit 02h 92810201\n" ∷
    "> deliver 02c\ntook 02c C2\nacked 02c 1 18\ntook 02c 92810201\ngot 02c 1 01 0201\nturn 02c 01 0201\nsent 02c 1 01 80FFFFFFFFFFFFFFFF\nemit 02c C3\n" ∷
    "emit 02c 938180FFFFFFFFFFFFFFFF\n" ∷
    "> deliver 02h\ntook 02h C3\nacked 02h 1 19\ntook 02h 938180FFFFFFFFFFFFFFFF\ngot 02h 1 01 80FFFFFFFFFFFFFFFF\nturn 02h 01 80FFFFFFFFFFFFFFFF\n" ∷
    "sent 02h 1 01 14\nemit 02h C3\nemit 02h 9B8114\n" ∷
    "> deliver 02c\ntook 02c C3\nacked 02c 1 19\ntook 02c 9B8114\ngot 02c 1 01 14\nturn 02c 01 14\ncommand 00 clear 02\nsent 02c 1 01 80\nok 00 12\n" ∷
    "emit 02c C4\nemit 02c 9C8180\n" ∷
    "> deliver 02h\ntook 02h C4\nacked 02h 1 20\ntook 02h 9C8180\ngot 02h 1 01 80\nturn 02h 01 80\ncommand 02 clear 02\nsent 02h 1 01 03\nemit 02h C4\n" ∷
    "emit 02h A48103\n" ∷
    "> deliver 02c\ntook 02c C4\nacked 02c 1 20\ntook 02c A48103\ngot 02c 1 01 03\nturn 02c 01 03\ncommand 00 opened 02 01 01\nsent 02c 1 01 8000\nok 00 13\n" ∷
    "emit 02c C5\nemit 02c A5818000\n" ∷
    "> deliver 02h\ntook 02h C5\nacked 02h 1 21\ntook 02h A5818000\ngot 02h 1 01 8000\nturn 02h 01 8000\nsent 02h 1 01 10200004\nemit 02h C5\n" ∷
    "emit 02h AD8110200004\n" ∷
    "> deliver 02c\ntook 02c C5\nacked 02c 1 21\ntook 02c AD8110200004\ngot 02c 1 01 10200004\nturn 02c 01 10200004\ncommand 00 create 02 02 20 00 04\n" ∷
    "sent 02c 1 01 800220000402\nok 00 14\nemit 02c C6\nemit 02c AE81800220000402\n" ∷
    "> deliver 02h\ntook 02h C6\nacked 02h 1 22\ntook 02h AE81800220000402\ngot 02h 1 01 800220000402\nturn 02h 01 800220000402\n" ∷
    "command 02 create 02 02 20 00 04\nsent 02h 1 01 10200004\nemit 02h C6\nemit 02h B68110200004\n" ∷
    "> deliver 02c\ntook 02c C6\nacked 02c 1 22\ntook 02c B68110200004\ngot 02c 1 01 10200004\nturn 02c 01 10200004\ncommand 00 create 03 02 20 00 04\n" ∷
    "sent 02c 1 01 800220000403\nok 00 15\nemit 02c C7\nemit 02c B781800220000403\n" ∷
    "> deliver 02h\ntook 02h C7\nacked 02h 1 23\ntook 02h B781800220000403\ngot 02h 1 01 800220000403\nturn 02h 01 800220000403\n" ∷
    "command 02 create 03 02 20 00 04\nsent 02h 1 01 10200004\nemit 02h C7\nemit 02h BF8110200004\n" ∷
    "> deliver 02c\ntook 02c C7\nacked 02c 1 23\ntook 02c BF8110200004\ngot 02c 1 01 10200004\nturn 02c 01 10200004\ncommand 00 create 04 02 20 00 04\n" ∷
    "sent 02c 1 01 800220000404\nok 00 16\nemit 02c C0\nemit 02c B881800220000404\n" ∷
    "> deliver 02h\ntook 02h C0\nacked 02h 1 24\ntook 02h B881800220000404\ngot 02h 1 01 800220000404\nturn 02h 01 800220000404\n" ∷
    "command 02 create 04 02 20 00 04\nsent 02h 1 01 10200004\nemit 02h C0\nemit 02h 808110200004\n" ∷
    "> deliver 02c\ntook 02c C0\nacked 02c 1 24\ntook 02c 808110200004\ngot 02c 1 01 10200004\nturn 02c 01 10200004\ncommand 00 create 05 02 20 00 04\n" ∷
    "sent 02c 1 01 800220000405\nok 00 17\nemit 02c C1\nemit 02c 8181800220000405\n" ∷
    "> deliver 02h\ntook 02h C1\nacked 02h 1 25\ntook 02h 8181800220000405\ngot 02h 1 01 800220000405\nturn 02h 01 800220000405\n" ∷
    "command 02 create 05 02 20 00 04\nsent 02h 1 01 10200005\nemit 02h C1\nemit 02h 898110200005\n" ∷
    "> deliver 02c\ntook 02c C1\nacked 02c 1 25\ntook 02c 898110200005\ngot 02c 1 01 10200005\nturn 02c 01 10200005\ncommand 00 create 06 02 20 00 05\n" ∷
    "sent 02c 1 01 800220000506\nok 00 18\nemit 02c C2\nemit 02c 8A81800220000506\n" ∷
    "> deliver 02h\ntook 02h C2\nacked 02h 1 26\ntook 02h 8A81800220000506\ngot 02h 1 01 800220000506\nturn 02h 01 800220000506\n" ∷
    "command 02 create 06 02 20 00 05\nsent 02h 1 01 10200005\nemit 02h C2\nemit 02h 928110200005\n" ∷
    "> deliver 02c\ntook 02c C2\nacked 02c 1 26\ntook 02c 928110200005\ngot 02c 1 01 10200005\nturn 02c 01 10200005\ncommand 00 create 07 02 20 00 05\n" ∷
    "sent 02c 1 01 800220000507\nok 00 19\nemit 02c C3\nemit 02c 9381800220000507\n" ∷
    "> deliver 02h\ntook 02h C3\nacked 02h 1 27\ntook 02h 9381800220000507\ngot 02h 1 01 800220000507\nturn 02h 01 800220000507\n" ∷
    "command 02 create 07 02 20 00 05\nsent 02h 1 01 10200005\nemit 02h C3\nemit 02h 9B8110200005\n" ∷
    "> deliver 02c\ntook 02c C3\nacked 02c 1 27\ntook 02c 9B8110200005\ngot 02c 1 01 10200005\nturn 02c 01 10200005\ncommand 00 create 08 02 20 00 05\n" ∷
    "sent 02c 1 01 800220000508\nok 00 20\nemit 02c C4\nemit 02c 9C81800220000508\n" ∷
    "> deliver 02h\ntook 02h C4\nacked 02h 1 28\ntook 02h 9C81800220000508\ngot 02h 1 01 800220000508\nturn 02h 01 800220000508\n" ∷
    "command 02 create 08 02 20 00 05\nsent 02h 1 01 10200005\nemit 02h C4\nemit 02h A48110200005\n" ∷
    "> deliver 02c\ntook 02c C4\nacked 02c 1 28\ntook 02c A48110200005\ngot 02c 1 01 10200005\nturn 02c 01 10200005\ncommand 00 create 09 02 20 00 05\n" ∷
    "sent 02c 1 01 800220000509\nok 00 21\nemit 02c C5\nemit 02c A581800220000509\n" ∷
    "> deliver 02h\ntook 02h C5\nacked 02h 1 29\ntook 02h A581800220000509\ngot 02h 1 01 800220000509\nturn 02h 01 800220000509\n" ∷
    "command 02 create 09 02 20 00 05\nsent 02h 1 01 01010000000000000001\nemit 02h C5\nemit 02h AD8101010000000000000001\n" ∷
    "> deliver 02c\ntook 02c C5\nacked 02c 1 29\ntook 02c AD8101010000000000000001\ngot 02c 1 01 01010000000000000001\nturn 02c 01 01010000000000000001\n" ∷
    "command 00 set 02 00 01 0000000000000001\nsent 02c 1 01 80\nok 00 22\nemit 02c C6\nemit 02c AE8180\n" ∷
    "> deliver 02h\ntook 02h C6\nacked 02h 1 30\ntook 02h AE8180\ngot 02h 1 01 80\nturn 02h 01 80\ncommand 02 set 02 00 01 0000000000000001\n" ∷
    "init 02h made 8\nemit 02h C6\n" ∷
    "> deliver 02c\ntook 02c C6\nacked 02c 1 30\n" ∷
    "> deliver 02h\nno empty\n" ∷
    "> tables 02\ntables 02 8 0 1 0\npipe 02 02 20 00 04 closed\npipe 03 02 20 00 04 closed\npipe 04 02 20 00 04 closed\npipe 05 02 20 00 04 closed\n" ∷
    "pipe 06 02 20 00 05 closed\npipe 07 02 20 00 05 closed\npipe 08 02 20 00 05 closed\npipe 09 02 20 00 05 closed\nreg 02 00 01 0000000000000001\n" ∷
    "> tables 00\ntables 00 8 1 1 1\npipe 02 02 20 00 04 closed\npipe 03 02 20 00 04 closed\npipe 04 02 20 00 04 closed\npipe 05 02 20 00 04 closed\n" ∷
    "pipe 06 02 20 00 05 closed\npipe 07 02 20 00 05 closed\npipe 08 02 20 00 05 closed\npipe 09 02 20 00 05 closed\nstatic 02 01\n" ∷
    "reg 02 00 01 0000000000000001\nsync 02 0002\n" ∷
    [])
unfolding found_from hosts_where lowest_free encode_with decode_pairs digits
init_default = refl
