-- The order of the tests of a creation, of reading and of closing; pipes to the loopback gate and to the identity gate.
use Rattle.node_examples.proofs.Words.{[], host_allows, host_allows_told, host_begins, host_begins_told, refl, ◌++◌, ◌∷◌, ◌≡◌}
use Rattle.node_examples.specs.Told.{told_text, text, found_from, hosts_where, lowest_free, encode_with, decode_pairs, digits}

order_again : told_text (
    "swp 1 hci 01 02 03\nboot 00\nboot 01\nboot 02\nboot 03\n" ∷
    host_begins "01" ++ host_begins "02" ++
    "send 02h 01 10410341\ndeliver 02c\ndeliver 02h\ndeliver 02c\nactivate 03 0003 01\ndeliver 03c\ndeliver 03h\ndeliver 03c\nreset 03c\ndeliver 03h\n" ∷
    "deliver 03c\nsend 02h 01 10410341\ndeliver 02c\ndeliver 02h\ndeliver 02c\nsend 03h 01 03\ndeliver 03c\ndeliver 03h\ndeliver 03c\nsend 02h 01 10410341\n" ∷
    "deliver 02c\ndeliver 02h\ndeliver 02c\n" ∷
    host_allows "02" ++
    "send 02h 01 10410141\ndeliver 02c\ndeliver 02h\nsend 03h 01 10410141\ndeliver 03c\ndeliver 03h\ndeliver 03c\nsend 02h 01 80\ndeliver 02c\n" ∷
    "send 03h 01 80\ndeliver 03c\ndeliver 03h\ndeliver 01h\ndeliver 01c\ndeliver 02h\ndeliver 02c\ndeliver 01h\nsend 02h 02 04\ndeliver 02c\ndeliver 02h\n" ∷
    "deliver 02c\nsend 02h 02 03\ndeliver 02c\ndeliver 02h\ndeliver 02c\nsend 02h 02 03\ndeliver 02c\ndeliver 02h\ndeliver 02c\nsend 02h 02 04\ndeliver 02c\n" ∷
    "deliver 02h\ndeliver 02c\nsend 03h 01 10200005\ndeliver 03c\ndeliver 03h\ndeliver 03c\nsend 03h 01 10200004\ndeliver 03c\ndeliver 03h\ndeliver 03c\n" ∷
    "send 03h 01 10200006\ndeliver 03c\ndeliver 03h\ndeliver 03c\nsend 03h 03 03\ndeliver 03c\ndeliver 03h\ndeliver 03c\nsend 03h 03 0204\ndeliver 03c\n" ∷
    "deliver 03h\ndeliver 03c\nsend 03h 03 0206\ndeliver 03c\ndeliver 03h\ndeliver 03c\nsend 03h 03 0207\ndeliver 03c\ndeliver 03h\ndeliver 03c\n" ∷
    "send 03h 03 02\ndeliver 03c\ndeliver 03h\ndeliver 03c\nsend 03h 03 010412\ndeliver 03c\ndeliver 03h\ndeliver 03c\nsend 03h 03 0107\ndeliver 03c\n" ∷
    "deliver 03h\ndeliver 03c\nsend 03h 04 0204\ndeliver 03c\ndeliver 03h\ndeliver 03c\ntables 00\n" ∷
    []) ≡ text (
    "> swp 1 hci 01 02 03\n> boot 00\nbooted 00 0\n> boot 01\nbooted 01 0\n> boot 02\nbooted 02 0\n> boot 03\nbooted 03 0\n" ∷
    host_begins_told "01" "2" ++ host_begins_told "02" "4" ++
    "> send 02h 01 10410341\nsent 02h 1 01 10410341\nemit 02h 898110410341\n" ∷
    "> deliver 02c\ntook 02c 898110410341\ngot 02c 1 01 10410341\nturn 02c 01 10410341\nsent 02c 1 01 81\nemit 02c C2\nemit 02c 8A8181\n" ∷
    "> deliver 02h\ntook 02h C2\nacked 02h 1 2\ntook 02h 8A8181\ngot 02h 1 01 81\nturn 02h 01 81\nemit 02h C2\n" ∷
    "> deliver 02c\ntook 02c C2\nacked 02c 1 2\n" ∷
    "> activate 03 0003 01\nemit 03h 610003\n" ∷
    "> deliver 03c\ntook 03c 610003\ncommand 00 sync 03 0003\nemit 03c 6201\n" ∷
    "> deliver 03h\ntook 03h 6201\nactive 03h\nemit 03h 60\n" ∷
    "> deliver 03c\ntook 03c 60\nactive 03c\n" ∷
    "> reset 03c\nemit 03c F90400\n" ∷
    "> deliver 03h\ntook 03h F90400\nup 03h 1\nemit 03h E6\n" ∷
    "> deliver 03c\ntook 03c E6\nup 03c 1\n" ∷
    "> send 02h 01 10410341\nsent 02h 1 01 10410341\nemit 02h 928110410341\n" ∷
    "> deliver 02c\ntook 02c 928110410341\ngot 02c 1 01 10410341\nturn 02c 01 10410341\nsent 02c 1 01 81\nemit 02c C3\nemit 02c 938181\n" ∷
    "> deliver 02h\ntook 02h C3\nacked 02h 1 3\ntook 02h 938181\ngot 02h 1 01 81\nturn 02h 01 81\nemit 02h C3\n" ∷
    "> deliver 02c\ntook 02c C3\nacked 02c 1 3\n" ∷
    "> send 03h 01 03\nsent 03h 1 01 03\nemit 03h 808103\n" ∷
    "> deliver 03c\ntook 03c 808103\ngot 03c 1 01 03\nturn 03c 01 03\ncommand 00 opened 03 01 01\nsent 03c 1 01 8000\nok 00 6\nemit 03c C1\n" ∷
    "emit 03c 81818000\n" ∷
    "> deliver 03h\ntook 03h C1\nacked 03h 1 1\ntook 03h 81818000\ngot 03h 1 01 8000\nturn 03h 01 8000\nemit 03h C1\n" ∷
    "> deliver 03c\ntook 03c C1\nacked 03c 1 1\n" ∷
    "> send 02h 01 10410341\nsent 02h 1 01 10410341\nemit 02h 9B8110410341\n" ∷
    "> deliver 02c\ntook 02c 9B8110410341\ngot 02c 1 01 10410341\nturn 02c 01 10410341\nsent 02c 1 01 8B\nemit 02c C4\nemit 02c 9C818B\n" ∷
    "> deliver 02h\ntook 02h C4\nacked 02h 1 4\ntook 02h 9C818B\ngot 02h 1 01 8B\nturn 02h 01 8B\nemit 02h C4\n" ∷
    "> deliver 02c\ntook 02c C4\nacked 02c 1 4\n" ∷
    host_allows_told "02" "7" ++
    "> send 02h 01 10410141\nsent 02h 1 01 10410141\nemit 02h A48110410141\n" ∷
    "> deliver 02c\ntook 02c A48110410141\ngot 02c 1 01 10410141\nturn 02c 01 10410141\nask 01 120241014102\nsent 01c 1 01 120241014102\n" ∷
    "emit 01c 9281120241014102\nemit 02c C5\n" ∷
    "> deliver 02h\ntook 02h C5\nacked 02h 1 5\n" ∷
    "> send 03h 01 10410141\nsent 03h 1 01 10410141\nemit 03h 898110410141\n" ∷
    "> deliver 03c\ntook 03c 898110410141\ngot 03c 1 01 10410141\nturn 03c 01 10410141\nsent 03c 1 01 8B\nemit 03c C2\nemit 03c 8A818B\n" ∷
    "> deliver 03h\ntook 03h C2\nacked 03h 1 2\ntook 03h 8A818B\ngot 03h 1 01 8B\nturn 03h 01 8B\nemit 03h C2\n" ∷
    "> deliver 03c\ntook 03c C2\nacked 03c 1 2\n" ∷
    "> send 02h 01 80\nsent 02h 1 01 80\nemit 02h AC8180\n" ∷
    "> deliver 02c\ntook 02c AC8180\ngot 02c 1 01 80\nturn 02c 01 80\ndrop 02c 01\nemit 02c C6\n" ∷
    "> send 03h 01 80\nsent 03h 1 01 80\nemit 03h 928180\n" ∷
    "> deliver 03c\ntook 03c 928180\ngot 03c 1 01 80\nturn 03c 01 80\ndrop 03c 01\nemit 03c C3\n" ∷
    "> deliver 03h\ntook 03h C3\nacked 03h 1 3\n" ∷
    "> deliver 01h\ntook 01h 9281120241014102\ngot 01h 1 01 120241014102\nturn 01h 01 120241014102\ncommand 01 create 02 02 41 01 41\nsent 01h 1 01 80\n" ∷
    "ok 01 1\nemit 01h C3\nemit 01h 938180\n" ∷
    "> deliver 01c\ntook 01c C3\nacked 01c 1 3\ntook 01c 938180\ngot 01c 1 01 80\nturn 01c 01 80\ncommand 00 create 02 02 41 01 41\n" ∷
    "sent 02c 1 01 800241014102\nok 00 8\nemit 01c C3\nemit 02c A681800241014102\n" ∷
    "> deliver 02h\ntook 02h C6\nacked 02h 1 6\ntook 02h A681800241014102\ngot 02h 1 01 800241014102\nturn 02h 01 800241014102\n" ∷
    "command 02 create 02 02 41 01 41\nemit 02h C5\n" ∷
    "> deliver 02c\ntook 02c C5\nacked 02c 1 5\n" ∷
    "> deliver 01h\ntook 01h C3\nacked 01h 1 3\n" ∷
    "> send 02h 02 04\nsent 02h 1 02 04\nemit 02h B58204\n" ∷
    "> deliver 02c\ntook 02c B58204\ngot 02c 1 02 04\nturn 02c 02 04\nsent 02c 1 02 86\nemit 02c C7\nemit 02c AF8286\n" ∷
    "> deliver 02h\ntook 02h C7\nacked 02h 1 7\ntook 02h AF8286\ngot 02h 1 02 86\nturn 02h 02 86\nemit 02h C6\n" ∷
    "> deliver 02c\ntook 02c C6\nacked 02c 1 6\n" ∷
    "> send 02h 02 03\nsent 02h 1 02 03\nemit 02h BE8203\n" ∷
    "> deliver 02c\ntook 02c BE8203\ngot 02c 1 02 03\nturn 02c 02 03\ncommand 00 opened 02 02 01\nsent 02c 1 02 8000\nok 00 9\nemit 02c C0\n" ∷
    "emit 02c B0828000\n" ∷
    "> deliver 02h\ntook 02h C0\nacked 02h 1 8\ntook 02h B0828000\ngot 02h 1 02 8000\nturn 02h 02 8000\nemit 02h C7\n" ∷
    "> deliver 02c\ntook 02c C7\nacked 02c 1 7\n" ∷
    "> send 02h 02 03\nsent 02h 1 02 03\nemit 02h 878203\n" ∷
    "> deliver 02c\ntook 02c 878203\ngot 02c 1 02 03\nturn 02c 02 03\nsent 02c 1 02 8000\nemit 02c C1\nemit 02c B9828000\n" ∷
    "> deliver 02h\ntook 02h C1\nacked 02h 1 9\ntook 02h B9828000\ngot 02h 1 02 8000\nturn 02h 02 8000\nemit 02h C0\n" ∷
    "> deliver 02c\ntook 02c C0\nacked 02c 1 8\n" ∷
    "> send 02h 02 04\nsent 02h 1 02 04\nemit 02h 888204\n" ∷
    "> deliver 02c\ntook 02c 888204\ngot 02c 1 02 04\nturn 02c 02 04\ncommand 00 opened 02 02 00\nsent 02c 1 02 80\nok 00 10\nemit 02c C2\nemit 02c 828280\n" ∷
    "> deliver 02h\ntook 02h C2\nacked 02h 1 10\ntook 02h 828280\ngot 02h 1 02 80\nturn 02h 02 80\nemit 02h C1\n" ∷
    "> deliver 02c\ntook 02c C1\nacked 02c 1 9\n" ∷
    "> send 03h 01 10200005\nsent 03h 1 01 10200005\nemit 03h 9A8110200005\n" ∷
    "> deliver 03c\ntook 03c 9A8110200005\ngot 03c 1 01 10200005\nturn 03c 01 10200005\ncommand 00 create 03 03 20 00 05\nsent 03c 1 01 800320000503\n" ∷
    "ok 00 11\nemit 03c C4\nemit 03c 9481800320000503\n" ∷
    "> deliver 03h\ntook 03h C4\nacked 03h 1 4\ntook 03h 9481800320000503\ngot 03h 1 01 800320000503\nturn 03h 01 800320000503\n" ∷
    "command 03 create 03 03 20 00 05\nemit 03h C3\n" ∷
    "> deliver 03c\ntook 03c C3\nacked 03c 1 3\n" ∷
    "> send 03h 01 10200004\nsent 03h 1 01 10200004\nemit 03h A38110200004\n" ∷
    "> deliver 03c\ntook 03c A38110200004\ngot 03c 1 01 10200004\nturn 03c 01 10200004\ncommand 00 create 04 03 20 00 04\nsent 03c 1 01 800320000404\n" ∷
    "ok 00 12\nemit 03c C5\nemit 03c 9D81800320000404\n" ∷
    "> deliver 03h\ntook 03h C5\nacked 03h 1 5\ntook 03h 9D81800320000404\ngot 03h 1 01 800320000404\nturn 03h 01 800320000404\n" ∷
    "command 03 create 04 03 20 00 04\nemit 03h C4\n" ∷
    "> deliver 03c\ntook 03c C4\nacked 03c 1 4\n" ∷
    "> send 03h 01 10200006\nsent 03h 1 01 10200006\nemit 03h AC8110200006\n" ∷
    "> deliver 03c\ntook 03c AC8110200006\ngot 03c 1 01 10200006\nturn 03c 01 10200006\nsent 03c 1 01 83\nemit 03c C6\nemit 03c A68183\n" ∷
    "> deliver 03h\ntook 03h C6\nacked 03h 1 6\ntook 03h A68183\ngot 03h 1 01 83\nturn 03h 01 83\nemit 03h C5\n" ∷
    "> deliver 03c\ntook 03c C5\nacked 03c 1 5\n" ∷
    "> send 03h 03 03\nsent 03h 1 03 03\nemit 03h B58303\n" ∷
    "> deliver 03c\ntook 03c B58303\ngot 03c 1 03 03\nturn 03c 03 03\ncommand 00 opened 03 03 01\nsent 03c 1 03 8000\nok 00 13\nemit 03c C7\n" ∷
    "emit 03c AF838000\n" ∷
    "> deliver 03h\ntook 03h C7\nacked 03h 1 7\ntook 03h AF838000\ngot 03h 1 03 8000\nturn 03h 03 8000\nemit 03h C6\n" ∷
    "> deliver 03c\ntook 03c C6\nacked 03c 1 6\n" ∷
    "> send 03h 03 0204\nsent 03h 1 03 0204\nemit 03h BE830204\n" ∷
    "> deliver 03c\ntook 03c BE830204\ngot 03c 1 03 0204\nturn 03c 03 0204\nsent 03c 1 03 8053575020484349\nemit 03c C0\nemit 03c B0838053575020484349\n" ∷
    "> deliver 03h\ntook 03h C0\nacked 03h 1 8\ntook 03h B0838053575020484349\ngot 03h 1 03 8053575020484349\nturn 03h 03 8053575020484349\nemit 03h C7\n" ∷
    "> deliver 03c\ntook 03c C7\nacked 03c 1 7\n" ∷
    "> send 03h 03 0206\nsent 03h 1 03 0206\nemit 03h 87830206\n" ∷
    "> deliver 03c\ntook 03c 87830206\ngot 03c 1 03 0206\nturn 03c 03 0206\nsent 03c 1 03 800405\nemit 03c C1\nemit 03c B983800405\n" ∷
    "> deliver 03h\ntook 03h C1\nacked 03h 1 9\ntook 03h B983800405\ngot 03h 1 03 800405\nturn 03h 03 800405\nemit 03h C0\n" ∷
    "> deliver 03c\ntook 03c C0\nacked 03c 1 8\n" ∷
    "> send 03h 03 0207\nsent 03h 1 03 0207\nemit 03h 88830207\n" ∷
    "> deliver 03c\ntook 03c 88830207\ngot 03c 1 03 0207\nturn 03c 03 0207\nsent 03c 1 03 85\nemit 03c C2\nemit 03c 828385\n" ∷
    "> deliver 03h\ntook 03h C2\nacked 03h 1 10\ntook 03h 828385\ngot 03h 1 03 85\nturn 03h 03 85\nemit 03h C1\n" ∷
    "> deliver 03c\ntook 03c C1\nacked 03c 1 9\n" ∷
    "> send 03h 03 02\nsent 03h 1 03 02\nemit 03h 918302\n" ∷
    "> deliver 03c\ntook 03c 918302\ngot 03c 1 03 02\nturn 03c 03 02\nsent 03c 1 03 82\nemit 03c C3\nemit 03c 8B8382\n" ∷
    "> deliver 03h\ntook 03h C3\nacked 03h 1 11\ntook 03h 8B8382\ngot 03h 1 03 82\nturn 03h 03 82\nemit 03h C2\n" ∷
    "> deliver 03c\ntook 03c C2\nacked 03c 1 10\n" ∷
    "> send 03h 03 010412\nsent 03h 1 03 010412\nemit 03h 9A83010412\n" ∷
    "> deliver 03c\ntook 03c 9A83010412\ngot 03c 1 03 010412\nturn 03c 03 010412\nsent 03c 1 03 8A\nemit 03c C4\nemit 03c 94838A\n" ∷
    "> deliver 03h\ntook 03h C4\nacked 03h 1 12\ntook 03h 94838A\ngot 03h 1 03 8A\nturn 03h 03 8A\nemit 03h C3\n" ∷
    "> deliver 03c\ntook 03c C3\nacked 03c 1 11\n" ∷
    "> send 03h 03 0107\nsent 03h 1 03 0107\nemit 03h A3830107\n" ∷
    "> deliver 03c\ntook 03c A3830107\ngot 03c 1 03 0107\nturn 03c 03 0107\nsent 03c 1 03 85\nemit 03c C5\nemit 03c 9D8385\n" ∷
    "> deliver 03h\ntook 03h C5\nacked 03h 1 13\ntook 03h 9D8385\ngot 03h 1 03 85\nturn 03h 03 85\nemit 03h C4\n" ∷
    "> deliver 03c\ntook 03c C4\nacked 03c 1 12\n" ∷
    "> send 03h 04 0204\nsent 03h 1 04 0204\nemit 03h AC840204\n" ∷
    "> deliver 03c\ntook 03c AC840204\ngot 03c 1 04 0204\nturn 03c 04 0204\nsent 03c 1 04 86\nemit 03c C6\nemit 03c A68486\n" ∷
    "> deliver 03h\ntook 03h C6\nacked 03h 1 14\ntook 03h A68486\ngot 03h 1 04 86\nturn 03h 04 86\nemit 03h C5\n" ∷
    "> deliver 03c\ntook 03c C5\nacked 03c 1 13\n" ∷
    "> tables 00\ntables 00 3 3 1 3\npipe 02 02 41 01 41 closed\npipe 03 03 20 00 05 opened\npipe 04 03 20 00 04 closed\nstatic 01 01\nstatic 02 01\n" ∷
    "static 03 01\nreg 01 00 03 02\nsync 01 0001\nsync 02 0002\nsync 03 0003\n" ∷
    [])
unfolding found_from hosts_where lowest_free encode_with decode_pairs digits
order_again = refl
