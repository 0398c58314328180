-- Power that goes: in a boot, in the writes of a command, and at once.
use Prim.Native.String.{String}
use Rattle.std.proofs.Common.{◌≡◌, refl, [], ◌∷◌, ◌++◌, List}
use Rattle.node_examples.specs.Openings.{host_activates, host_activates_told, host_activates_again_told, pipe_opens, pipe_opens_told}
use Rattle.node_examples.specs.Told.{told_text, text, found_from, hosts_where, lowest_free, encode_with, decode_pairs, digits}

-- ## In a boot

-- this write of the first boot is cut, and leaves this byte
abbrev boot_cut : String → String → List String
boot_cut write byte = "swp 1 hci 02\narm 00 " ∷ write ∷ " " ∷ byte ∷ "\nboot 00\nboot 00\n" ∷ []

abbrev boot_cut_told : String → String → List String
boot_cut_told write byte = "> swp 1 hci 02\n> arm 00 " ∷ write ∷ " " ∷ byte ∷ "\n> boot 00\ncut 00\n> boot 00\nbooted 00 0\n" ∷ []

boot_cut_at_first_write : told_text (boot_cut "1" "13") ≡ text (boot_cut_told "1" "13")
unfolding found_from hosts_where lowest_free encode_with decode_pairs digits
boot_cut_at_first_write = refl

boot_cut_at_second_write : told_text (boot_cut "2" "5A") ≡ text (boot_cut_told "2" "5A")
unfolding found_from hosts_where lowest_free encode_with decode_pairs digits
boot_cut_at_second_write = refl

-- ## In a command

-- so the command is that creates a pipe, and the controller boots behind that
abbrev command_cut : String → String → List String
command_cut write byte =
    "swp 1 hci 02\nboot 00\nboot 02\n" ∷
    host_activates "02" "1A" "2B" ++ pipe_opens "02" ++
    "send 02h 01 10200004\narm 00 " ∷ write ∷ " " ∷ byte ∷ "\ndeliver 02c\nboot 00\ntables 00\n" ∷
    []

-- what is told of that, where the boot finds n commands, and the tables are told so
abbrev command_cut_told : String → String → String → String → List String
command_cut_told write byte n tables =
    "> swp 1 hci 02\n> boot 00\nbooted 00 0\n> boot 02\nbooted 02 0\n" ∷
    host_activates_told "02" "1A" "2B" ++ pipe_opens_told "02" "2" ++
    "> send 02h 01 10200004\nsent 02h 1 01 10200004\nemit 02h 898110200004\n" ∷
    "> arm 00 " ∷ write ∷ " " ∷ byte ∷ "\n" ∷
    "> deliver 02c\ntook 02c C1\nacked 02c 1 1\ntook 02c 898110200004\ngot 02c 1 01 10200004\nturn 02c 01 10200004\n" ∷
    "command 00 create 02 02 20 00 04\ncut 00\n" ∷
    "> boot 00\nbooted 00 " ∷ n ∷ "\n> tables 00\ntables 00 " ∷ tables ∷ "sync 02 1A2B\n" ∷
    []

cut_in_first_write : told_text (command_cut "1" "13") ≡ text (command_cut_told "1" "13" "2" "0 0 0 1\n")
unfolding found_from hosts_where lowest_free encode_with decode_pairs digits
cut_in_first_write = refl

cut_in_second_write_13 : told_text (command_cut "2" "13") ≡ text (command_cut_told "2" "13" "2" "0 0 0 1\n")
unfolding found_from hosts_where lowest_free encode_with decode_pairs digits
cut_in_second_write_13 = refl

cut_in_second_write_FF : told_text (command_cut "2" "FF") ≡ text (command_cut_told "2" "FF" "2" "0 0 0 1\n")
unfolding found_from hosts_where lowest_free encode_with decode_pairs digits
cut_in_second_write_FF = refl

-- with 5A the gate of the record is open, and the boot finds the command
cut_in_second_write_5A : told_text (command_cut "2" "5A") ≡ text (command_cut_told "2" "5A" "3" "1 0 0 1\npipe 02 02 20 00 04 closed\n")
unfolding found_from hosts_where lowest_free encode_with decode_pairs digits
cut_in_second_write_5A = refl

-- ## At once

pipes_closed_by_a_cut : told_text (
    "swp 1 hci 02\nboot 00\nboot 02\n" ∷
    host_activates "02" "1A" "2B" ++ pipe_opens "02" ++
    "send 02h 01 0201\ndeliver 02c\ncut 00\nboot 00\n" ∷
    host_activates "02" "1A" "2B" ++
    "send 02h 01 0201\ndeliver 02c\ndeliver 02h\ndeliver 02c\n" ∷
    []) ≡ text (
    "> swp 1 hci 02\n> boot 00\nbooted 00 0\n> boot 02\nbooted 02 0\n" ∷
    host_activates_told "02" "1A" "2B" ++ pipe_opens_told "02" "2" ++
    "> send 02h 01 0201\nsent 02h 1 01 0201\nemit 02h 89810201\n" ∷
    "> deliver 02c\ntook 02c C1\nacked 02c 1 1\ntook 02c 89810201\ngot 02c 1 01 0201\nturn 02c 01 0201\nsent 02c 1 01 80FFFFFFFFFFFFFFFF\n" ∷
    "emit 02c C2\nemit 02c 8A8180FFFFFFFFFFFFFFFF\n" ∷
    "> cut 00\ncut 00\n" ∷
    "> boot 00\nbooted 00 2\n" ∷
    host_activates_again_told "02" "1A" "2B" "h" ++
    "> send 02h 01 0201\nsent 02h 2 01 0201\nemit 02h 80810201\n" ∷
    "> deliver 02c\ntook 02c 80810201\ngot 02c 2 01 0201\nturn 02c 01 0201\nsent 02c 2 01 86\nemit 02c C1\nemit 02c 818186\n" ∷
    "> deliver 02h\ntook 02h C1\nacked 02h 2 1\ntook 02h 818186\ngot 02h 2 01 86\nturn 02h 01 86\nemit 02h C1\n" ∷
    "> deliver 02c\ntook 02c C1\nacked 02c 2 1\n" ∷
    [])
unfolding found_from hosts_where lowest_free encode_with decode_pairs digits
pipes_closed_by_a_cut = refl
