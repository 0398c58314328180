-- A link becomes active, and its host opens pipe 01 and reads a parameter; so it is refused before the pipe is open.
use Rattle.node_examples.proofs.Words.{[], host_activates, host_activates_told, pipe_opens, pipe_opens_told, refl, ◌++◌, ◌∷◌, ◌≡◌}
use Rattle.node_examples.specs.Told.{told_text, text, found_from, hosts_where, lowest_free, encode_with, decode_pairs, digits}

activation_and_first_pipe : told_text (
    "swp 1 hci 02\nboot 00\nboot 02\n" ∷
    host_activates "02" "1A" "2B" ++ pipe_opens "02" ++
    "send 02h 01 0201\ndeliver 02c\n" ∷
    []) ≡ text (
    "> swp 1 hci 02\n> boot 00\nbooted 00 0\n> boot 02\nbooted 02 0\n" ∷
    host_activates_told "02" "1A" "2B" ++ pipe_opens_told "02" "2" ++
    "> send 02h 01 0201\nsent 02h 1 01 0201\nemit 02h 89810201\n" ∷
    "> deliver 02c\ntook 02c C1\nacked 02c 1 1\ntook 02c 89810201\ngot 02c 1 01 0201\nturn 02c 01 0201\nsent 02c 1 01 80FFFFFFFFFFFFFFFF\nemit 02c C2\n" ∷
    "emit 02c 8A8180FFFFFFFFFFFFFFFF\n" ∷
    [])
unfolding found_from hosts_where lowest_free encode_with decode_pairs digits
activation_and_first_pipe = refl

parameter_before_opening : told_text (
    "swp 1 hci 02\nboot 00\nboot 02\n" ∷
    host_activates "02" "1A" "2B" ++
    "send 02h 01 0201\ndeliver 02c\ndeliver 02h\ndeliver 02c\n" ∷
    []) ≡ text (
    "> swp 1 hci 02\n> boot 00\nbooted 00 0\n> boot 02\nbooted 02 0\n" ∷
    host_activates_told "02" "1A" "2B" ++
    "> send 02h 01 0201\nsent 02h 1 01 0201\nemit 02h 80810201\n" ∷
    "> deliver 02c\ntook 02c 80810201\ngot 02c 1 01 0201\nturn 02c 01 0201\nsent 02c 1 01 86\nemit 02c C1\nemit 02c 818186\n" ∷
    "> deliver 02h\ntook 02h C1\nacked 02h 1 1\ntook 02h 818186\ngot 02h 1 01 86\nturn 02h 01 86\nemit 02h C1\n" ∷
    "> deliver 02c\ntook 02c C1\nacked 02c 1 1\n" ∷
    [])
unfolding found_from hosts_where lowest_free encode_with decode_pairs digits
parameter_before_opening = refl
