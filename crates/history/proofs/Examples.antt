-- Worked examples compute: a reset while the end waits, damage that makes another frame, and a frame that a full wire pushes out. The other ones
-- are computed from text to text, in `node_examples`.
use Rattle.std.specs.Prelude.{true, replicate}
use Rattle.history.proofs.Words.{Asked, Beyond, Controller, Damage, End, Entry, Full, Given, Host, Line, Link, List, No, None, OnWire, Outcome, Reset, Rr, Rset}
use Rattle.history.proofs.Words.{S, Some, Waiting, [], bare_link, end_of, event_at, is_some, link_after, link_after_line, misread, noted, outcome_of, refl}
use Rattle.history.proofs.Words.{refusal, ℕ, ◌∷◌, ◌≡◌}
use Rattle.swp_base.specs.Bits.{bits_of_byte}
use Rattle.trace_model.specs.declared.entry.Entry.TheVariants.{Lost, Down, Sent, Emit}

abbrev pub end_c : ℕ → End
end_c h = end_of h Controller

abbrev pub end_h : ℕ → End
end_h h = end_of h Host

-- what is noted below each line of a schedule, on the link with this host
abbrev noted_by_line : ℕ → Link → List Line → List (List Entry)
noted_by_line h l [] = []
noted_by_line h l (line ∷ lines) = let o : Outcome = outcome_of h l line in noted o ∷ noted_by_line h (link_after_line l o) lines

reset_twice : noted_by_line 2 bare_link (Reset (end_h 2) None ∷ Reset (end_h 2) (Some 2) ∷ []) ≡
    (Down (end_h 2) Asked ∷ Emit (end_h 2) (249 ∷ 4 ∷ 0 ∷ []) ∷ []) ∷ (No Waiting ∷ []) ∷ []
reset_twice = refl

-- damage that the CRC doesn't show
abbrev given : Link
given = link_after bare_link (Given (end_h 2) (1, 3 ∷ []))

another_frame_is_read : is_some (misread given (Damage (end_c 2) (record { items = 24 ∷ 28 ∷ 35 ∷ 40 ∷ [] }))) ≡ true
unfolding bits_of_byte
another_frame_is_read = refl

past_the_frame : refusal given (Damage (end_c 2) (record { items = 55 ∷ 300 ∷ [] })) ≡ Some (Beyond 56)
unfolding bits_of_byte
past_the_frame = refl

-- 64 frames stand on the wire, the first an RSET
abbrev standing : List OnWire
standing =
    record { frame = Rset 4 0; age = 0; number = 7 }
    ∷ replicate 63 (record { frame = S Rr 0; age = 0; number = 0 })

abbrev crowded : Link
crowded = record bare_link { to_controller = standing }

first_goes : (event_at 2 crowded (Given (end_h 2) (1, 3 ∷ []))).entries ≡
    Sent (end_h 2) 0 1 (3 ∷ []) ∷ Emit (end_h 2) (128 ∷ 129 ∷ 3 ∷ []) ∷ Lost (end_c 2) (249 ∷ 4 ∷ 0 ∷ []) Full ∷ []
first_goes = refl
