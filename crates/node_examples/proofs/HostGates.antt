-- Pipes to gates of a host: posts go back, the identity gate is served, and what comes else is only noted.
use Rattle.node_examples.proofs.Words.{[], host_allows, host_allows_told, host_begins, host_begins_told, refl, ◌++◌, ◌∷◌, ◌≡◌}
use Rattle.node_examples.specs.Told.{told_text, text, found_from, hosts_where, lowest_free, encode_with, decode_pairs, digits}

host_gates : told_text (
    "swp 1 hci 01 02\nboot 00\nboot 01\nboot 02\n" ∷
    host_begins "01" ++ host_begins "02" ++ host_allows "02" ++
    "send 02h 01 10410104\ndeliver 02c\ndeliver 01h\ndeliver 01c\ndeliver 02h\ndeliver 02c\ndeliver 01h\nsend 02h 01 10410105\ndeliver 02c\ndeliver 01h\n" ∷
    "deliver 01c\ndeliver 02h\ndeliver 02c\ndeliver 01h\nsend 02h 01 10410106\ndeliver 02c\ndeliver 01h\ndeliver 01c\ndeliver 02h\ndeliver 02c\ndeliver 01h\n" ∷
    "send 02h 02 03\ndeliver 02c\ndeliver 02h\ndeliver 02c\nsend 02h 03 03\ndeliver 02c\ndeliver 02h\ndeliver 02c\nsend 02h 02 42AABB\ndeliver 02c\n" ∷
    "deliver 01h\ndeliver 01c\ndeliver 02h\ndeliver 02c\nsend 02h 03 0204\ndeliver 02c\ndeliver 01h\ndeliver 01c\ndeliver 02h\ndeliver 02c\n" ∷
    "send 02h 02 0204\ndeliver 02c\ndeliver 01h\ndeliver 01c\ndeliver 02c\n" ∷
    []) ≡ text (
    "> swp 1 hci 01 02\n> boot 00\nbooted 00 0\n> boot 01\nbooted 01 0\n> boot 02\nbooted 02 0\n" ∷
    host_begins_told "01" "2" ++ host_begins_told "02" "4" ++ host_allows_told "02" "5" ++
    "> send 02h 01 10410104\nsent 02h 1 01 10410104\nemit 02h 898110410104\n" ∷
    "> deliver 02c\ntook 02c 898110410104\ngot 02c 1 01 10410104\nturn 02c 01 10410104\nask 01 120241010402\nsent 01c 1 01 120241010402\n" ∷
    "emit 01c 9281120241010402\nemit 02c C2\n" ∷
    "> deliver 01h\ntook 01h 9281120241010402\ngot 01h 1 01 120241010402\nturn 01h 01 120241010402\ncommand 01 create 02 02 41 01 04\nsent 01h 1 01 80\n" ∷
    "ok 01 1\nemit 01h C3\nemit 01h 938180\n" ∷
    "> deliver 01c\ntook 01c C3\nacked 01c 1 3\ntook 01c 938180\ngot 01c 1 01 80\nturn 01c 01 80\ncommand 00 create 02 02 41 01 04\n" ∷
    "sent 02c 1 01 800241010402\nok 00 6\nemit 01c C3\nemit 02c 8A81800241010402\n" ∷
    "> deliver 02h\ntook 02h C2\nacked 02h 1 2\ntook 02h 8A81800241010402\ngot 02h 1 01 800241010402\nturn 02h 01 800241010402\n" ∷
    "command 02 create 02 02 41 01 04\nemit 02h C2\n" ∷
    "> deliver 02c\ntook 02c C2\nacked 02c 1 2\n" ∷
    "> deliver 01h\ntook 01h C3\nacked 01h 1 3\n" ∷
    "> send 02h 01 10410105\nsent 02h 1 01 10410105\nemit 02h 928110410105\n" ∷
    "> deliver 02c\ntook 02c 928110410105\ngot 02c 1 01 10410105\nturn 02c 01 10410105\nask 01 120241010503\nsent 01c 1 01 120241010503\n" ∷
    "emit 01c 9B81120241010503\nemit 02c C3\n" ∷
    "> deliver 01h\ntook 01h 9B81120241010503\ngot 01h 1 01 120241010503\nturn 01h 01 120241010503\ncommand 01 create 03 02 41 01 05\nsent 01h 1 01 80\n" ∷
    "ok 01 2\nemit 01h C4\nemit 01h 9C8180\n" ∷
    "> deliver 01c\ntook 01c C4\nacked 01c 1 4\ntook 01c 9C8180\ngot 01c 1 01 80\nturn 01c 01 80\ncommand 00 create 03 02 41 01 05\n" ∷
    "sent 02c 1 01 800241010503\nok 00 7\nemit 01c C4\nemit 02c 9381800241010503\n" ∷
    "> deliver 02h\ntook 02h C3\nacked 02h 1 3\ntook 02h 9381800241010503\ngot 02h 1 01 800241010503\nturn 02h 01 800241010503\n" ∷
    "command 02 create 03 02 41 01 05\nemit 02h C3\n" ∷
    "> deliver 02c\ntook 02c C3\nacked 02c 1 3\n" ∷
    "> deliver 01h\ntook 01h C4\nacked 01h 1 4\n" ∷
    "> send 02h 01 10410106\nsent 02h 1 01 10410106\nemit 02h 9B8110410106\n" ∷
    "> deliver 02c\ntook 02c 9B8110410106\ngot 02c 1 01 10410106\nturn 02c 01 10410106\nask 01 120241010604\nsent 01c 1 01 120241010604\n" ∷
    "emit 01c A481120241010604\nemit 02c C4\n" ∷
    "> deliver 01h\ntook 01h A481120241010604\ngot 01h 1 01 120241010604\nturn 01h 01 120241010604\nsent 01h 1 01 83\nemit 01h C5\nemit 01h A58183\n" ∷
    "> deliver 01c\ntook 01c C5\nacked 01c 1 5\ntook 01c A58183\ngot 01c 1 01 83\nturn 01c 01 83\nsent 02c 1 01 83\nemit 01c C5\nemit 02c 9C8183\n" ∷
    "> deliver 02h\ntook 02h C4\nacked 02h 1 4\ntook 02h 9C8183\ngot 02h 1 01 83\nturn 02h 01 83\nemit 02h C4\n" ∷
    "> deliver 02c\ntook 02c C4\nacked 02c 1 4\n" ∷
    "> deliver 01h\ntook 01h C5\nacked 01h 1 5\n" ∷
    "> send 02h 02 03\nsent 02h 1 02 03\nemit 02h A48203\n" ∷
    "> deliver 02c\ntook 02c A48203\ngot 02c 1 02 03\nturn 02c 02 03\ncommand 00 opened 02 02 01\nsent 02c 1 02 8000\nok 00 8\nemit 02c C5\n" ∷
    "emit 02c A5828000\n" ∷
    "> deliver 02h\ntook 02h C5\nacked 02h 1 5\ntook 02h A5828000\ngot 02h 1 02 8000\nturn 02h 02 8000\nemit 02h C5\n" ∷
    "> deliver 02c\ntook 02c C5\nacked 02c 1 5\n" ∷
    "> send 02h 03 03\nsent 02h 1 03 03\nemit 02h AD8303\n" ∷
    "> deliver 02c\ntook 02c AD8303\ngot 02c 1 03 03\nturn 02c 03 03\ncommand 00 opened 02 03 01\nsent 02c 1 03 8000\nok 00 9\nemit 02c C6\n" ∷
    "emit 02c AE838000\n" ∷
    "> deliver 02h\ntook 02h C6\nacked 02h 1 6\ntook 02h AE838000\ngot 02h 1 03 8000\nturn 02h 03 8000\nemit 02h C6\n" ∷
    "> deliver 02c\ntook 02c C6\nacked 02c 1 6\n" ∷
    "> send 02h 02 42AABB\nsent 02h 1 02 42AABB\nemit 02h B68242AABB\n" ∷
    "> deliver 02c\ntook 02c B68242AABB\ngot 02c 1 02 42AABB\nturn 02c 02 42AABB\nsent 01c 1 02 42AABB\nemit 01c AD8242AABB\nemit 02c C7\n" ∷
    "> deliver 01h\ntook 01h AD8242AABB\ngot 01h 1 02 42AABB\nturn 01h 02 42AABB\nsent 01h 1 02 42AABB\nemit 01h C6\nemit 01h AE8242AABB\n" ∷
    "> deliver 01c\ntook 01c C6\nacked 01c 1 6\ntook 01c AE8242AABB\ngot 01c 1 02 42AABB\nturn 01c 02 42AABB\nsent 02c 1 02 42AABB\nemit 01c C6\n" ∷
    "emit 02c B78242AABB\n" ∷
    "> deliver 02h\ntook 02h C7\nacked 02h 1 7\ntook 02h B78242AABB\ngot 02h 1 02 42AABB\nturn 02h 02 42AABB\nemit 02h C7\n" ∷
    "> deliver 02c\ntook 02c C7\nacked 02c 1 7\n" ∷
    "> send 02h 03 0204\nsent 02h 1 03 0204\nemit 02h BF830204\n" ∷
    "> deliver 02c\ntook 02c BF830204\ngot 02c 1 03 0204\nturn 02c 03 0204\nsent 01c 1 03 0204\nemit 01c B6830204\nemit 02c C0\n" ∷
    "> deliver 01h\ntook 01h C6\nacked 01h 1 6\ntook 01h B6830204\ngot 01h 1 03 0204\nturn 01h 03 0204\nsent 01h 1 03 8053575020484349\nemit 01h C7\n" ∷
    "emit 01h B7838053575020484349\n" ∷
    "> deliver 01c\ntook 01c C7\nacked 01c 1 7\ntook 01c B7838053575020484349\ngot 01c 1 03 8053575020484349\nturn 01c 03 8053575020484349\n" ∷
    "sent 02c 1 03 8053575020484349\nemit 01c C7\nemit 02c B8838053575020484349\n" ∷
    "> deliver 02h\ntook 02h C0\nacked 02h 1 8\ntook 02h B8838053575020484349\ngot 02h 1 03 8053575020484349\nturn 02h 03 8053575020484349\nemit 02h C0\n" ∷
    "> deliver 02c\ntook 02c C0\nacked 02c 1 8\n" ∷
    "> send 02h 02 0204\nsent 02h 1 02 0204\nemit 02h 80820204\n" ∷
    "> deliver 02c\ntook 02c 80820204\ngot 02c 1 02 0204\nturn 02c 02 0204\nsent 01c 1 02 0204\nemit 01c BF820204\nemit 02c C1\n" ∷
    "> deliver 01h\ntook 01h C7\nacked 01h 1 7\ntook 01h BF820204\ngot 01h 1 02 0204\nturn 01h 02 0204\nemit 01h C0\n" ∷
    "> deliver 01c\ntook 01c C0\nacked 01c 1 8\n" ∷
    "> deliver 02c\nno empty\n" ∷
    [])
unfolding found_from hosts_where lowest_free encode_with decode_pairs digits
host_gates = refl
