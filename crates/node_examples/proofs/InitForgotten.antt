-- An init that the end of a session cut off does not go on; clearings with two bytes.
use Rattle.node_examples.proofs.Words.{[], host_begins, host_begins_told, refl, ◌++◌, ◌∷◌, ◌≡◌}
use Rattle.node_examples.specs.Told.{told_text, text, found_from, hosts_where, lowest_free, encode_with, decode_pairs, digits}

init_forgotten : told_text (
    "swp 1 hci 02\nboot 00\nboot 02\n" ∷
    host_begins "02" ++
    "init 02h 0102030405060708 200004\ndeliver 02c\ndeliver 02h\nreset 02h\ndeliver 02c\ndeliver 02h\nsend 02h 01 03\ndeliver 02c\ndeliver 02h\ndeliver 02c\n" ∷
    "send 02h 01 0204\ndeliver 02c\ndeliver 02h\ndeliver 02c\nsend 02h 01 14\ndeliver 02c\ndeliver 02h\ndeliver 02c\nsend 02h 01 03\ndeliver 02c\n" ∷
    "deliver 02h\ndeliver 02c\nsend 02h 01 1400FF\ndeliver 02c\ndeliver 02h\ndeliver 02c\nsend 02h 01 03\ndeliver 02c\ndeliver 02h\ndeliver 02c\n" ∷
    "send 02h 01 1400\ndeliver 02c\ndeliver 02h\ndeliver 02c\nsend 02h 01 0201\ndeliver 02c\ndeliver 02h\ndeliver 02c\ntables 02\ntables 00\n" ∷
    []) ≡ text (
    "> swp 1 hci 02\n> boot 00\nbooted 00 0\n> boot 02\nbooted 02 0\n" ∷
    host_begins_told "02" "2" ++
    "> init 02h 0102030405060708 200004\nsent 02h 1 01 03\nemit 02h 898103\n" ∷
    "> deliver 02c\ntook 02c 898103\ngot 02c 1 01 03\nturn 02c 01 03\nsent 02c 1 01 8000\nemit 02c C2\nemit 02c 8A818000\n" ∷
    "> deliver 02h\ntook 02h C2\nacked 02h 1 2\ntook 02h 8A818000\ngot 02h 1 01 8000\nturn 02h 01 8000\nsent 02h 1 01 0201\nemit 02h C2\nemit 02h 92810201\n" ∷
    "> reset 02h\ndown 02h asked\nemit 02h F90400\n" ∷
    "> deliver 02c\ntook 02c C2\nacked 02c 1 2\ntook 02c 92810201\ngot 02c 1 01 0201\nturn 02c 01 0201\nsent 02c 1 01 80FFFFFFFFFFFFFFFF\nemit 02c C3\n" ∷
    "emit 02c 938180FFFFFFFFFFFFFFFF\ntook 02c F90400\ndown 02c peer\nup 02c 2\nemit 02c E6\n" ∷
    "> deliver 02h\ntook 02h C3\ntook 02h 938180FFFFFFFFFFFFFFFF\ntook 02h E6\nup 02h 2\n" ∷
    "> send 02h 01 03\nsent 02h 2 01 03\nemit 02h 808103\n" ∷
    "> deliver 02c\ntook 02c 808103\ngot 02c 2 01 03\nturn 02c 01 03\nsent 02c 2 01 8000\nemit 02c C1\nemit 02c 81818000\n" ∷
    "> deliver 02h\ntook 02h C1\nacked 02h 2 1\ntook 02h 81818000\ngot 02h 2 01 8000\nturn 02h 01 8000\nemit 02h C1\n" ∷
    "> deliver 02c\ntook 02c C1\nacked 02c 2 1\n" ∷
    "> send 02h 01 0204\nsent 02h 2 01 0204\nemit 02h 89810204\n" ∷
    "> deliver 02c\ntook 02c 89810204\ngot 02c 2 01 0204\nturn 02c 01 0204\nsent 02c 2 01 800002\nemit 02c C2\nemit 02c 8A81800002\n" ∷
    "> deliver 02h\ntook 02h C2\nacked 02h 2 2\ntook 02h 8A81800002\ngot 02h 2 01 800002\nturn 02h 01 800002\nemit 02h C2\n" ∷
    "> deliver 02c\ntook 02c C2\nacked 02c 2 2\n" ∷
    "> send 02h 01 14\nsent 02h 2 01 14\nemit 02h 928114\n" ∷
    "> deliver 02c\ntook 02c 928114\ngot 02c 2 01 14\nturn 02c 01 14\ncommand 00 clear 02\nsent 02c 2 01 80\nok 00 3\nemit 02c C3\nemit 02c 938180\n" ∷
    "> deliver 02h\ntook 02h C3\nacked 02h 2 3\ntook 02h 938180\ngot 02h 2 01 80\nturn 02h 01 80\ncommand 02 clear 02\nemit 02h C3\n" ∷
    "> deliver 02c\ntook 02c C3\nacked 02c 2 3\n" ∷
    "> send 02h 01 03\nsent 02h 2 01 03\nemit 02h 9B8103\n" ∷
    "> deliver 02c\ntook 02c 9B8103\ngot 02c 2 01 03\nturn 02c 01 03\ncommand 00 opened 02 01 01\nsent 02c 2 01 8000\nok 00 4\nemit 02c C4\n" ∷
    "emit 02c 9C818000\n" ∷
    "> deliver 02h\ntook 02h C4\nacked 02h 2 4\ntook 02h 9C818000\ngot 02h 2 01 8000\nturn 02h 01 8000\nemit 02h C4\n" ∷
    "> deliver 02c\ntook 02c C4\nacked 02c 2 4\n" ∷
    "> send 02h 01 1400FF\nsent 02h 2 01 1400FF\nemit 02h A4811400FF\n" ∷
    "> deliver 02c\ntook 02c A4811400FF\ngot 02c 2 01 1400FF\nturn 02c 01 1400FF\ncommand 00 clear 02\nsent 02c 2 01 80\nok 00 5\nemit 02c C5\n" ∷
    "emit 02c A58180\n" ∷
    "> deliver 02h\ntook 02h C5\nacked 02h 2 5\ntook 02h A58180\ngot 02h 2 01 80\nturn 02h 01 80\ncommand 02 clear 02\nemit 02h C5\n" ∷
    "> deliver 02c\ntook 02c C5\nacked 02c 2 5\n" ∷
    "> send 02h 01 03\nsent 02h 2 01 03\nemit 02h AD8103\n" ∷
    "> deliver 02c\ntook 02c AD8103\ngot 02c 2 01 03\nturn 02c 01 03\ncommand 00 opened 02 01 01\nsent 02c 2 01 8000\nok 00 6\nemit 02c C6\n" ∷
    "emit 02c AE818000\n" ∷
    "> deliver 02h\ntook 02h C6\nacked 02h 2 6\ntook 02h AE818000\ngot 02h 2 01 8000\nturn 02h 01 8000\nemit 02h C6\n" ∷
    "> deliver 02c\ntook 02c C6\nacked 02c 2 6\n" ∷
    "> send 02h 01 1400\nsent 02h 2 01 1400\nemit 02h B6811400\n" ∷
    "> deliver 02c\ntook 02c B6811400\ngot 02c 2 01 1400\nturn 02c 01 1400\nsent 02c 2 01 82\nemit 02c C7\nemit 02c B78182\n" ∷
    "> deliver 02h\ntook 02h C7\nacked 02h 2 7\ntook 02h B78182\ngot 02h 2 01 82\nturn 02h 01 82\nemit 02h C7\n" ∷
    "> deliver 02c\ntook 02c C7\nacked 02c 2 7\n" ∷
    "> send 02h 01 0201\nsent 02h 2 01 0201\nemit 02h BF810201\n" ∷
    "> deliver 02c\ntook 02c BF810201\ngot 02c 2 01 0201\nturn 02c 01 0201\nsent 02c 2 01 80FFFFFFFFFFFFFFFF\nemit 02c C0\nemit 02c B88180FFFFFFFFFFFFFFFF\n" ∷
    "> deliver 02h\ntook 02h C0\nacked 02h 2 8\ntook 02h B88180FFFFFFFFFFFFFFFF\ngot 02h 2 01 80FFFFFFFFFFFFFFFF\nturn 02h 01 80FFFFFFFFFFFFFFFF\n" ∷
    "emit 02h C0\n" ∷
    "> deliver 02c\ntook 02c C0\nacked 02c 2 8\n" ∷
    "> tables 02\ntables 02 0 0 0 0\n" ∷
    "> tables 00\ntables 00 0 1 0 1\nstatic 02 01\nsync 02 0002\n" ∷
    [])
unfolding found_from hosts_where lowest_free encode_with decode_pairs digits
init_forgotten = refl
