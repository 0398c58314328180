-- A worked example of a schedule of a bare world whose line lets the link settle, computed from its definitions. Others are computed from text
-- to text, in `node_examples`.
use Rattle.world_laws.proofs.Words.{Controller, Echo, Emit, End, Head, Header, Host, Line, Send, Sent, Settle, Settled, Took, [], end_of, false, refl}
use Rattle.world_laws.proofs.Words.{schedule_told, ◌∷◌, ◌≡◌}
use Rattle.trace_model.specs.declared.entry.Entry.TheVariants.{Acked, Got, Up}

-- `swp 1 bare 02`
abbrev one_link : Header
one_link = record { hci = false; hosts = record { items = 2 ∷ [] } }

abbrev end_c : End
end_c = end_of 2 Controller

abbrev end_h : End
end_h = end_of 2 Host

abbrev sends : Line
sends = Send end_h 1 (3 ∷ [])

-- one round brings a message and its acknowledgement
message_comes_in_a_round : schedule_told one_link (sends ∷ Settle 48 ∷ []) ≡
    Head one_link
    ∷ Up end_c 0
    ∷ Up end_h 0
    ∷ Echo sends
    ∷ Sent end_h 0 1 (3 ∷ [])
    ∷ Emit end_h (128 ∷ 129 ∷ 3 ∷ [])
    ∷ Echo (Settle 48)
    ∷ Took end_c (128 ∷ 129 ∷ 3 ∷ [])
    ∷ Got end_c 0 1 (3 ∷ [])
    ∷ Emit end_c (193 ∷ [])
    ∷ Took end_h (193 ∷ [])
    ∷ Acked end_h 0 1
    ∷ Settled 1
    ∷ []
message_comes_in_a_round = refl
