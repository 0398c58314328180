-- Two hosts with a pipe between them: what is relayed, what is answered, and what is dropped, also where the link of either is down.
use Rattle.node_examples.proofs.Words.{[], host_allows, host_allows_told, host_begins, host_begins_told, pipe_is_made, pipe_is_made_told, refl, ◌++◌, ◌∷◌, ◌≡◌}
use Rattle.node_examples.specs.Told.{told_text, text, found_from, hosts_where, lowest_free, encode_with, decode_pairs, digits}

relays : told_text (
    "swp 1 hci 01 02\nboot 00\nboot 01\nboot 02\n" ∷
    host_begins "01" ++ host_begins "02" ++ host_allows "02" ++ pipe_is_made ++
    "send 02h 02 42AA\ndeliver 02c\ndeliver 02h\ndeliver 02c\nsend 02h 02 03\ndeliver 02c\ndeliver 02h\ndeliver 02c\nsend 01h 02 03\ndeliver 01c\n" ∷
    "deliver 01h\ndeliver 01c\nsend 02h 02 42AA\ndeliver 02c\ndeliver 01h\ndeliver 01c\nsend 01h 02 8055\ndeliver 01c\ndeliver 02h\ndeliver 02c\nreset 01c\n" ∷
    "send 02h 02 42BB\ndeliver 02c\ndeliver 02h\nsend 02h 02 0506\ndeliver 02c\ndeliver 02h\ndeliver 02c\ndeliver 02h\nsend 02h 02 80\ndeliver 02c\n" ∷
    "deliver 02h\ndeliver 01h\ndeliver 01c\nsend 01h 02 04\ndeliver 01c\ndeliver 01h\ndeliver 01c\nsend 02h 02 42CC\ndeliver 02c\ndeliver 02h\ndeliver 02c\n" ∷
    "tables 00\n" ∷
    []) ≡ text (
    "> swp 1 hci 01 02\n> boot 00\nbooted 00 0\n> boot 01\nbooted 01 0\n> boot 02\nbooted 02 0\n" ∷
    host_begins_told "01" "2" ++ host_begins_told "02" "4" ++ host_allows_told "02" "5" ++ pipe_is_made_told "6" ++
    "> send 02h 02 42AA\nsent 02h 1 02 42AA\nemit 02h 928242AA\n" ∷
    "> deliver 02c\ntook 02c 928242AA\ngot 02c 1 02 42AA\nturn 02c 02 42AA\ndrop 02c 02\nemit 02c C3\n" ∷
    "> deliver 02h\ntook 02h C3\nacked 02h 1 3\n" ∷
    "> deliver 02c\nno empty\n" ∷
    "> send 02h 02 03\nsent 02h 1 02 03\nemit 02h 9A8203\n" ∷
    "> deliver 02c\ntook 02c 9A8203\ngot 02c 1 02 03\nturn 02c 02 03\ncommand 00 opened 02 02 01\nsent 02c 1 02 8000\nok 00 7\nemit 02c C4\n" ∷
    "emit 02c 94828000\n" ∷
    "> deliver 02h\ntook 02h C4\nacked 02h 1 4\ntook 02h 94828000\ngot 02h 1 02 8000\nturn 02h 02 8000\nemit 02h C3\n" ∷
    "> deliver 02c\ntook 02c C3\nacked 02c 1 3\n" ∷
    "> send 01h 02 03\nsent 01h 1 02 03\nemit 01h 9B8203\n" ∷
    "> deliver 01c\ntook 01c 9B8203\ngot 01c 1 02 03\nturn 01c 02 03\nsent 01c 1 02 8000\nemit 01c C4\nemit 01c 9C828000\n" ∷
    "> deliver 01h\ntook 01h C4\nacked 01h 1 4\ntook 01h 9C828000\ngot 01h 1 02 8000\nturn 01h 02 8000\nemit 01h C4\n" ∷
    "> deliver 01c\ntook 01c C4\nacked 01c 1 4\n" ∷
    "> send 02h 02 42AA\nsent 02h 1 02 42AA\nemit 02h A38242AA\n" ∷
    "> deliver 02c\ntook 02c A38242AA\ngot 02c 1 02 42AA\nturn 02c 02 42AA\nsent 01c 1 02 42AA\nemit 01c A48242AA\nemit 02c C5\n" ∷
    "> deliver 01h\ntook 01h A48242AA\ngot 01h 1 02 42AA\nturn 01h 02 42AA\nemit 01h C5\n" ∷
    "> deliver 01c\ntook 01c C5\nacked 01c 1 5\n" ∷
    "> send 01h 02 8055\nsent 01h 1 02 8055\nemit 01h A5828055\n" ∷
    "> deliver 01c\ntook 01c A5828055\ngot 01c 1 02 8055\nturn 01c 02 8055\nsent 02c 1 02 8055\nemit 01c C5\nemit 02c 9D828055\n" ∷
    "> deliver 02h\ntook 02h C5\nacked 02h 1 5\ntook 02h 9D828055\ngot 02h 1 02 8055\nturn 02h 02 8055\nemit 02h C4\n" ∷
    "> deliver 02c\ntook 02c C4\nacked 02c 1 4\n" ∷
    "> reset 01c\ndown 01c asked\nemit 01c F90400\n" ∷
    "> send 02h 02 42BB\nsent 02h 1 02 42BB\nemit 02h AC8242BB\n" ∷
    "> deliver 02c\ntook 02c AC8242BB\ngot 02c 1 02 42BB\nturn 02c 02 42BB\ndrop 02c 02\nemit 02c C6\n" ∷
    "> deliver 02h\ntook 02h C6\nacked 02h 1 6\n" ∷
    "> send 02h 02 0506\nsent 02h 1 02 0506\nemit 02h B4820506\n" ∷
    "> deliver 02c\ntook 02c B4820506\ngot 02c 1 02 0506\nturn 02c 02 0506\nsent 02c 1 02 81\nemit 02c C7\nemit 02c A78281\n" ∷
    "> deliver 02h\ntook 02h C7\nacked 02h 1 7\ntook 02h A78281\ngot 02h 1 02 81\nturn 02h 02 81\nemit 02h C5\n" ∷
    "> deliver 02c\ntook 02c C5\nacked 02c 1 5\n" ∷
    "> deliver 02h\nno empty\n" ∷
    "> send 02h 02 80\nsent 02h 1 02 80\nemit 02h BD8280\n" ∷
    "> deliver 02c\ntook 02c BD8280\ngot 02c 1 02 80\nturn 02c 02 80\ndrop 02c 02\nemit 02c C0\n" ∷
    "> deliver 02h\ntook 02h C0\nacked 02h 1 8\n" ∷
    "> deliver 01h\ntook 01h C5\nacked 01h 1 5\ntook 01h F90400\ndown 01h peer\nup 01h 2\nemit 01h E6\n" ∷
    "> deliver 01c\ntook 01c E6\nup 01c 2\n" ∷
    "> send 01h 02 04\nsent 01h 2 02 04\nemit 01h 808204\n" ∷
    "> deliver 01c\ntook 01c 808204\ngot 01c 2 02 04\nturn 01c 02 04\ncommand 00 opened 01 02 00\nsent 01c 2 02 80\nok 00 8\nemit 01c C1\nemit 01c 818280\n" ∷
    "> deliver 01h\ntook 01h C1\nacked 01h 2 1\ntook 01h 818280\ngot 01h 2 02 80\nturn 01h 02 80\nemit 01h C1\n" ∷
    "> deliver 01c\ntook 01c C1\nacked 01c 2 1\n" ∷
    "> send 02h 02 42CC\nsent 02h 1 02 42CC\nemit 02h 858242CC\n" ∷
    "> deliver 02c\ntook 02c 858242CC\ngot 02c 1 02 42CC\nturn 02c 02 42CC\ndrop 02c 02\nemit 02c C1\n" ∷
    "> deliver 02h\ntook 02h C1\nacked 02h 1 9\n" ∷
    "> deliver 02c\nno empty\n" ∷
    "> tables 00\ntables 00 1 2 1 2\npipe 02 02 41 01 41 closed\nstatic 01 01\nstatic 02 01\nreg 01 00 03 02\nsync 01 0001\nsync 02 0002\n" ∷
    [])
unfolding found_from hosts_where lowest_free encode_with decode_pairs digits
relays = refl
