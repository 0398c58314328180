-- Links alone: what goes over one, what is lost, resets, and a link that settles.
use Rattle.std.proofs.Common.{◌≡◌, refl, [], ◌∷◌}
use Rattle.node_examples.specs.Told.{told_text, text, encode_with, decode_pairs, digits, bits_of_byte}

-- ## Messages

one_message : told_text ("swp 1 bare 02\nsend 02h 01 03\ndeliver 02c\ndeliver 02h\n" ∷ []) ≡ text (
    "> swp 1 bare 02\nup 02c 0\nup 02h 0\n" ∷
    "> send 02h 01 03\nsent 02h 0 01 03\nemit 02h 808103\n" ∷
    "> deliver 02c\ntook 02c 808103\ngot 02c 0 01 03\nemit 02c C1\n" ∷
    "> deliver 02h\ntook 02h C1\nacked 02h 0 1\n" ∷
    [])
unfolding encode_with decode_pairs digits
one_message = refl

window_of_four : told_text (
    "swp 1 bare 02\nsend 02h 01 03\nsend 02h 01 03\nsend 02h 01 03\nsend 02h 01 03\nsend 02h 01 03\ndeliver 02c 1\ndeliver 02h\n" ∷
    []) ≡ text (
    "> swp 1 bare 02\nup 02c 0\nup 02h 0\n" ∷
    "> send 02h 01 03\nsent 02h 0 01 03\nemit 02h 808103\n" ∷
    "> send 02h 01 03\nsent 02h 0 01 03\nemit 02h 888103\n" ∷
    "> send 02h 01 03\nsent 02h 0 01 03\nemit 02h 908103\n" ∷
    "> send 02h 01 03\nsent 02h 0 01 03\nemit 02h 988103\n" ∷
    "> send 02h 01 03\nsent 02h 0 01 03\n" ∷
    "> deliver 02c 1\ntook 02c 808103\ngot 02c 0 01 03\nemit 02c C1\n" ∷
    "> deliver 02h\ntook 02h C1\nacked 02h 0 1\nemit 02h A08103\n" ∷
    [])
unfolding encode_with decode_pairs digits
window_of_four = refl

lost_frame_is_rejected_and_resent : told_text (
    "swp 1 bare 02\nsend 02h 01 03\nsend 02h 01 03\nsend 02h 01 03\ndeliver 02c 1\nlose 02c\ndeliver 02c\ndeliver 02h\ndeliver 02c\n" ∷
    []) ≡ text (
    "> swp 1 bare 02\nup 02c 0\nup 02h 0\n" ∷
    "> send 02h 01 03\nsent 02h 0 01 03\nemit 02h 808103\n" ∷
    "> send 02h 01 03\nsent 02h 0 01 03\nemit 02h 888103\n" ∷
    "> send 02h 01 03\nsent 02h 0 01 03\nemit 02h 908103\n" ∷
    "> deliver 02c 1\ntook 02c 808103\ngot 02c 0 01 03\nemit 02c C1\n" ∷
    "> lose 02c\nlost 02c 888103 asked\n" ∷
    "> deliver 02c\ntook 02c 908103\nemit 02c C9\n" ∷
    "> deliver 02h\ntook 02h C1\nacked 02h 0 1\ntook 02h C9\nemit 02h 888103\nemit 02h 908103\n" ∷
    "> deliver 02c\ntook 02c 888103\ngot 02c 0 01 03\nemit 02c C2\ntook 02c 908103\ngot 02c 0 01 03\nemit 02c C3\n" ∷
    [])
unfolding encode_with decode_pairs digits
lost_frame_is_rejected_and_resent = refl

lost_ack_is_answered_again : told_text ("swp 1 bare 02\nsend 02h 01 03\ndeliver 02c\nlose 02h\ntick 10\ndeliver 02c\ndeliver 02h\n" ∷ []) ≡ text (
    "> swp 1 bare 02\nup 02c 0\nup 02h 0\n" ∷
    "> send 02h 01 03\nsent 02h 0 01 03\nemit 02h 808103\n" ∷
    "> deliver 02c\ntook 02c 808103\ngot 02c 0 01 03\nemit 02c C1\n" ∷
    "> lose 02h\nlost 02h C1 asked\n" ∷
    "> tick 10\nemit 02h 808103\n" ∷
    "> deliver 02c\ntook 02c 808103\nemit 02c C1\n" ∷
    "> deliver 02h\ntook 02h C1\nacked 02h 0 1\n" ∷
    [])
unfolding encode_with decode_pairs digits
lost_ack_is_answered_again = refl

busy_then_ready : told_text ("swp 1 bare 02\nbusy 02c\nsend 02h 01 03\ndeliver 02c\nready 02c\ndeliver 02h\n" ∷ []) ≡ text (
    "> swp 1 bare 02\nup 02c 0\nup 02h 0\n" ∷
    "> busy 02c\n" ∷
    "> send 02h 01 03\nsent 02h 0 01 03\nemit 02h 808103\n" ∷
    "> deliver 02c\ntook 02c 808103\nemit 02c D0\n" ∷
    "> ready 02c\nemit 02c C0\n" ∷
    "> deliver 02h\ntook 02h D0\ntook 02h C0\nemit 02h 808103\n" ∷
    [])
unfolding encode_with decode_pairs digits
busy_then_ready = refl

deliver_on_empty_wire : told_text ("swp 1 bare 02\ndeliver 02c\n" ∷ []) ≡ text (
    "> swp 1 bare 02\nup 02c 0\nup 02h 0\n" ∷
    "> deliver 02c\nno empty\n" ∷
    [])
unfolding encode_with decode_pairs digits
deliver_on_empty_wire = refl

damage_breaks_a_frame : told_text ("swp 1 bare 02\nsend 02h 01 03\ndamage 02c 55\ntick 9\ntick\n" ∷ []) ≡ text (
    "> swp 1 bare 02\nup 02c 0\nup 02h 0\n" ∷
    "> send 02h 01 03\nsent 02h 0 01 03\nemit 02h 808103\n" ∷
    "> damage 02c 55\nlost 02c 808103 broken\n" ∷
    "> tick 9\n" ∷
    "> tick\nemit 02h 808103\n" ∷
    [])
unfolding encode_with decode_pairs digits bits_of_byte
damage_breaks_a_frame = refl

-- each frame is lost by its age, and the sixtieth tick ends the session
nobody_delivers_five_tries : told_text ("swp 1 bare 02\nsend 02h 01 03\ntick 60\n" ∷ []) ≡ text (
    "> swp 1 bare 02\nup 02c 0\nup 02h 0\n" ∷
    "> send 02h 01 03\nsent 02h 0 01 03\nemit 02h 808103\n" ∷
    "> tick 60\nlost 02c 808103 age\nemit 02h 808103\nlost 02c 808103 age\nemit 02h 808103\nlost 02c 808103 age\nemit 02h 808103\n" ∷
    "lost 02c 808103 age\nemit 02h 808103\nlost 02c 808103 age\nemit 02h 808103\nlost 02c 808103 age\ndown 02h noanswer\nemit 02h F90400\n" ∷
    [])
unfolding encode_with decode_pairs digits
nobody_delivers_five_tries = refl

-- ## Resets

reset_and_its_resend : told_text ("swp 1 bare 02\nreset 02h\nlose 02c\ntick 10\ndeliver 02c\ndeliver 02h\n" ∷ []) ≡ text (
    "> swp 1 bare 02\nup 02c 0\nup 02h 0\n" ∷
    "> reset 02h\ndown 02h asked\nemit 02h F90400\n" ∷
    "> lose 02c\nlost 02c F90400 asked\n" ∷
    "> tick 10\nemit 02h F90400\n" ∷
    "> deliver 02c\ntook 02c F90400\ndown 02c peer\nup 02c 2\nemit 02c E6\n" ∷
    "> deliver 02h\ntook 02h E6\nup 02h 2\n" ∷
    [])
unfolding encode_with decode_pairs digits
reset_and_its_resend = refl

reset_gives_up : told_text ("swp 1 bare 02\nreset 02h\ntick 50\nsend 02h 01 03\nreset 02h\n" ∷ []) ≡ text (
    "> swp 1 bare 02\nup 02c 0\nup 02h 0\n" ∷
    "> reset 02h\ndown 02h asked\nemit 02h F90400\n" ∷
    "> tick 50\nlost 02c F90400 age\nemit 02h F90400\nlost 02c F90400 age\nemit 02h F90400\nlost 02c F90400 age\nemit 02h F90400\n" ∷
    "lost 02c F90400 age\nemit 02h F90400\nlost 02c F90400 age\ngaveup 02h 5\n" ∷
    "> send 02h 01 03\nno not-up\n" ∷
    "> reset 02h\nemit 02h F90400\n" ∷
    [])
unfolding encode_with decode_pairs digits
reset_gives_up = refl

-- both ends are reset before either takes the other's RSET
crossed_resets : told_text ("swp 1 bare 02\nreset 02c\nreset 02h\ndeliver 02c\ndeliver 02h\ndeliver 02c\n" ∷ []) ≡ text (
    "> swp 1 bare 02\nup 02c 0\nup 02h 0\n" ∷
    "> reset 02c\ndown 02c asked\nemit 02c F90400\n" ∷
    "> reset 02h\ndown 02h asked\nemit 02h F90400\n" ∷
    "> deliver 02c\ntook 02c F90400\nemit 02c E6\n" ∷
    "> deliver 02h\ntook 02h F90400\nemit 02h E6\ntook 02h E6\nup 02h 2\n" ∷
    "> deliver 02c\ntook 02c E6\nup 02c 2\n" ∷
    [])
unfolding encode_with decode_pairs digits
crossed_resets = refl

-- the same, and one of them is lost: one end comes up alone, and both after the next RSET
crossed_resets_one_lost : told_text (
    "swp 1 bare 02\nreset 02c\nreset 02h\nlose 02c\ndeliver 02h\ndeliver 02c\ntick 10\ndeliver 02c\ndeliver 02h\n" ∷
    []) ≡ text (
    "> swp 1 bare 02\nup 02c 0\nup 02h 0\n" ∷
    "> reset 02c\ndown 02c asked\nemit 02c F90400\n" ∷
    "> reset 02h\ndown 02h asked\nemit 02h F90400\n" ∷
    "> lose 02c\nlost 02c F90400 asked\n" ∷
    "> deliver 02h\ntook 02h F90400\nemit 02h E6\n" ∷
    "> deliver 02c\ntook 02c E6\nup 02c 1\n" ∷
    "> tick 10\nemit 02h F90400\n" ∷
    "> deliver 02c\ntook 02c F90400\ndown 02c peer\nup 02c 3\nemit 02c E6\n" ∷
    "> deliver 02h\ntook 02h E6\nup 02h 3\n" ∷
    [])
unfolding encode_with decode_pairs digits
crossed_resets_one_lost = refl

-- ## Rest

settle_quiet : told_text ("swp 1 bare 02\nsettle 5\n" ∷ []) ≡ text (
    "> swp 1 bare 02\nup 02c 0\nup 02h 0\n" ∷
    "> settle 5\nsettled 0\n" ∷
    [])
unfolding encode_with decode_pairs digits
settle_quiet = refl

-- an end that isn't ready doesn't accept what comes, and the link comes to no rest
settle_busy : told_text ("swp 1 bare 02\nbusy 02c\nsend 02h 01 03\nsettle 5\n" ∷ []) ≡ text (
    "> swp 1 bare 02\nup 02c 0\nup 02h 0\n" ∷
    "> busy 02c\n" ∷
    "> send 02h 01 03\nsent 02h 0 01 03\nemit 02h 808103\n" ∷
    "> settle 5\ntook 02c 808103\nemit 02c D0\ntook 02h D0\nsettled 5\n" ∷
    [])
unfolding encode_with decode_pairs digits
settle_busy = refl

-- an acknowledgement is lost: the frame is sent again in the tenth round, and acknowledged in the eleventh
settle_after_lost_ack : told_text ("swp 1 bare 02\nsend 02h 01 03\ndeliver 02c\nlose 02h\nsettle 48\n" ∷ []) ≡ text (
    "> swp 1 bare 02\nup 02c 0\nup 02h 0\n" ∷
    "> send 02h 01 03\nsent 02h 0 01 03\nemit 02h 808103\n" ∷
    "> deliver 02c\ntook 02c 808103\ngot 02c 0 01 03\nemit 02c C1\n" ∷
    "> lose 02h\nlost 02h C1 asked\n" ∷
    "> settle 48\nemit 02h 808103\ntook 02c 808103\nemit 02c C1\ntook 02h C1\nacked 02h 0 1\nsettled 11\n" ∷
    [])
unfolding encode_with decode_pairs digits
settle_after_lost_ack = refl
