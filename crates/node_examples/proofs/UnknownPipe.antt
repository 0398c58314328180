-- A host is told of the deletion of a pipe that it does not know; gates that it takes; a command that waits, and is too long.
use Rattle.node_examples.proofs.Words.{[], host_allows, host_allows_told, host_begins, host_begins_told, refl, replicate, ◌++◌, ◌∷◌, ◌≡◌}
use Rattle.node_examples.specs.Told.{told_text, text, found_from, hosts_where, lowest_free, encode_with, decode_pairs, digits}

unknown_pipe : told_text (
    "swp 1 hci 01 02\nboot 00\nboot 01\nboot 02\n" ∷
    host_begins "01" ++ host_begins "02" ++ host_allows "02" ++
    "send 02h 01 10410141\ndeliver 02c\ndeliver 01h\ndeliver 01c\nreset 02h\ndeliver 02c\ndeliver 02h\ndeliver 01h\nsend 01h 01 1102\ndeliver 01c\n" ∷
    "deliver 02h\ndeliver 02c\ndeliver 01h\ndeliver 01c\ndeliver 02h\nsend 02h 01 1041010A\ndeliver 02c\ndeliver 01h\ndeliver 01c\ndeliver 02h\ndeliver 02c\n" ∷
    "deliver 01h\nsend 02h 01 1041010F\ndeliver 02c\ndeliver 01h\ndeliver 01c\ndeliver 02h\ndeliver 02c\ndeliver 01h\nsend 02h 01 10410110\ndeliver 02c\n" ∷
    "deliver 01h\ndeliver 01c\ndeliver 02h\ndeliver 02c\ndeliver 01h\nsend 02h 01 0201\nsend 02h 01 14" ∷ replicate 4096 "00" ++
    "\nsend 02h 01 40\nsend 02h 01 " ∷ replicate 4096 "02" ++
    "\ndeliver 02c\ndeliver 02h\nsend 02h 01 " ∷ replicate 4097 "02" ++
    "\ntables 00\ntables 01\ntables 02\n" ∷
    []) ≡ text (
    "> swp 1 hci 01 02\n> boot 00\nbooted 00 0\n> boot 01\nbooted 01 0\n> boot 02\nbooted 02 0\n" ∷
    host_begins_told "01" "2" ++ host_begins_told "02" "4" ++ host_allows_told "02" "5" ++
    "> send 02h 01 10410141\nsent 02h 1 01 10410141\nemit 02h 898110410141\n" ∷
    "> deliver 02c\ntook 02c 898110410141\ngot 02c 1 01 10410141\nturn 02c 01 10410141\nask 01 120241014102\nsent 01c 1 01 120241014102\n" ∷
    "emit 01c 9281120241014102\nemit 02c C2\n" ∷
    "> deliver 01h\ntook 01h 9281120241014102\ngot 01h 1 01 120241014102\nturn 01h 01 120241014102\ncommand 01 create 02 02 41 01 41\nsent 01h 1 01 80\n" ∷
    "ok 01 1\nemit 01h C3\nemit 01h 938180\n" ∷
    "> deliver 01c\ntook 01c C3\nacked 01c 1 3\ntook 01c 938180\ngot 01c 1 01 80\nturn 01c 01 80\ncommand 00 create 02 02 41 01 41\n" ∷
    "sent 02c 1 01 800241014102\nok 00 6\nemit 01c C3\nemit 02c 8A81800241014102\n" ∷
    "> reset 02h\ndown 02h asked\nemit 02h F90400\n" ∷
    "> deliver 02c\ntook 02c F90400\ndown 02c peer\nup 02c 2\nemit 02c E6\n" ∷
    "> deliver 02h\ntook 02h C2\ntook 02h 8A81800241014102\ntook 02h E6\nup 02h 2\n" ∷
    "> deliver 01h\ntook 01h C3\nacked 01h 1 3\n" ∷
    "> send 01h 01 1102\nsent 01h 1 01 1102\nemit 01h 9B811102\n" ∷
    "> deliver 01c\ntook 01c 9B811102\ngot 01c 1 01 1102\nturn 01c 01 1102\ncommand 00 delete 02\nsent 01c 1 01 80\nok 00 7\nsent 02c 2 01 1302\n" ∷
    "emit 01c C4\nemit 01c 9C8180\nemit 02c 80811302\n" ∷
    "> deliver 02h\ntook 02h 80811302\ngot 02h 2 01 1302\nturn 02h 01 1302\nsent 02h 2 01 80\nemit 02h C1\nemit 02h 818180\n" ∷
    "> deliver 02c\ntook 02c C1\nacked 02c 2 1\ntook 02c 818180\ngot 02c 2 01 80\nturn 02c 01 80\nemit 02c C1\n" ∷
    "> deliver 01h\ntook 01h C4\nacked 01h 1 4\ntook 01h 9C8180\ngot 01h 1 01 80\nturn 01h 01 80\ncommand 01 delete 02\nemit 01h C4\n" ∷
    "> deliver 01c\ntook 01c C4\nacked 01c 1 4\n" ∷
    "> deliver 02h\ntook 02h C1\nacked 02h 2 1\n" ∷
    "> send 02h 01 1041010A\nsent 02h 2 01 1041010A\nemit 02h 89811041010A\n" ∷
    "> deliver 02c\ntook 02c 89811041010A\ngot 02c 2 01 1041010A\nturn 02c 01 1041010A\nask 01 120241010A02\nsent 01c 1 01 120241010A02\n" ∷
    "emit 01c A481120241010A02\nemit 02c C2\n" ∷
    "> deliver 01h\ntook 01h A481120241010A02\ngot 01h 1 01 120241010A02\nturn 01h 01 120241010A02\nsent 01h 1 01 83\nemit 01h C5\nemit 01h A58183\n" ∷
    "> deliver 01c\ntook 01c C5\nacked 01c 1 5\ntook 01c A58183\ngot 01c 1 01 83\nturn 01c 01 83\nsent 02c 2 01 83\nemit 01c C5\nemit 02c 8A8183\n" ∷
    "> deliver 02h\ntook 02h C2\nacked 02h 2 2\ntook 02h 8A8183\ngot 02h 2 01 83\nturn 02h 01 83\nemit 02h C2\n" ∷
    "> deliver 02c\ntook 02c C2\nacked 02c 2 2\n" ∷
    "> deliver 01h\ntook 01h C5\nacked 01h 1 5\n" ∷
    "> send 02h 01 1041010F\nsent 02h 2 01 1041010F\nemit 02h 92811041010F\n" ∷
    "> deliver 02c\ntook 02c 92811041010F\ngot 02c 2 01 1041010F\nturn 02c 01 1041010F\nask 01 120241010F02\nsent 01c 1 01 120241010F02\n" ∷
    "emit 01c AD81120241010F02\nemit 02c C3\n" ∷
    "> deliver 01h\ntook 01h AD81120241010F02\ngot 01h 1 01 120241010F02\nturn 01h 01 120241010F02\nsent 01h 1 01 83\nemit 01h C6\nemit 01h AE8183\n" ∷
    "> deliver 01c\ntook 01c C6\nacked 01c 1 6\ntook 01c AE8183\ngot 01c 1 01 83\nturn 01c 01 83\nsent 02c 2 01 83\nemit 01c C6\nemit 02c 938183\n" ∷
    "> deliver 02h\ntook 02h C3\nacked 02h 2 3\ntook 02h 938183\ngot 02h 2 01 83\nturn 02h 01 83\nemit 02h C3\n" ∷
    "> deliver 02c\ntook 02c C3\nacked 02c 2 3\n" ∷
    "> deliver 01h\ntook 01h C6\nacked 01h 1 6\n" ∷
    "> send 02h 01 10410110\nsent 02h 2 01 10410110\nemit 02h 9B8110410110\n" ∷
    "> deliver 02c\ntook 02c 9B8110410110\ngot 02c 2 01 10410110\nturn 02c 01 10410110\nask 01 120241011002\nsent 01c 1 01 120241011002\n" ∷
    "emit 01c B681120241011002\nemit 02c C4\n" ∷
    "> deliver 01h\ntook 01h B681120241011002\ngot 01h 1 01 120241011002\nturn 01h 01 120241011002\ncommand 01 create 02 02 41 01 10\nsent 01h 1 01 80\n" ∷
    "ok 01 3\nemit 01h C7\nemit 01h B78180\n" ∷
    "> deliver 01c\ntook 01c C7\nacked 01c 1 7\ntook 01c B78180\ngot 01c 1 01 80\nturn 01c 01 80\ncommand 00 create 02 02 41 01 10\n" ∷
    "sent 02c 2 01 800241011002\nok 00 8\nemit 01c C7\nemit 02c 9C81800241011002\n" ∷
    "> deliver 02h\ntook 02h C4\nacked 02h 2 4\ntook 02h 9C81800241011002\ngot 02h 2 01 800241011002\nturn 02h 01 800241011002\n" ∷
    "command 02 create 02 02 41 01 10\nemit 02h C4\n" ∷
    "> deliver 02c\ntook 02c C4\nacked 02c 2 4\n" ∷
    "> deliver 01h\ntook 01h C7\nacked 01h 1 7\n" ∷
    "> send 02h 01 0201\nsent 02h 2 01 0201\nemit 02h A4810201\n" ∷
    "> send 02h 01 14" ∷ replicate 4096 "00" ++
    "\nno waiting\n" ∷
    "> send 02h 01 40\nsent 02h 2 01 40\nemit 02h AC8140\n" ∷
    "> send 02h 01 " ∷ replicate 4096 "02" ++
    "\nno waiting\n" ∷
    "> deliver 02c\ntook 02c A4810201\ngot 02c 2 01 0201\nturn 02c 01 0201\nsent 02c 2 01 80FFFFFFFFFFFFFFFF\nemit 02c C5\nemit 02c A58180FFFFFFFFFFFFFFFF\n" ∷
    "took 02c AC8140\ngot 02c 2 01 40\nturn 02c 01 40\ndrop 02c 01\nemit 02c C6\n" ∷
    "> deliver 02h\ntook 02h C5\nacked 02h 2 5\ntook 02h A58180FFFFFFFFFFFFFFFF\ngot 02h 2 01 80FFFFFFFFFFFFFFFF\nturn 02h 01 80FFFFFFFFFFFFFFFF\n" ∷
    "emit 02h C5\ntook 02h C6\nacked 02h 2 6\n" ∷
    "> send 02h 01 " ∷ replicate 4097 "02" ++
    "\nno too-long\n" ∷
    "> tables 00\ntables 00 1 2 1 2\npipe 02 02 41 01 10 closed\nstatic 01 01\nstatic 02 01\nreg 01 00 03 02\nsync 01 0001\nsync 02 0002\n" ∷
    "> tables 01\ntables 01 1 0 0 0\npipe 02 02 41 01 10 closed\n" ∷
    "> tables 02\ntables 02 1 0 0 0\npipe 02 02 41 01 10 closed\n" ∷
    [])
unfolding found_from hosts_where lowest_free encode_with decode_pairs digits
unknown_pipe = refl
