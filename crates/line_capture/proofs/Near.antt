-- A wave is read as the periods that it was drawn of, where each edge lies near to where it belongs.
use Rattle.std.proofs.Common.{◌≡◌, ℕ, zero, suc, ◌+◌, ◌-◌, ◌*◌, ◌/◌, ◌<◌, Bool, true, false, cond, List, [], ◌∷◌, ◌++◌, map, refl, sym, ap}
use Rattle.std.proofs.Common.{◌∙◌, subst, arith, append_assoc, inl, inr}
use Rattle.std.specs.Prelude.{Option, Some, None, replicate, nat_lt}
use Rattle.std.proofs.lemmas.Bool.{le-ltb}
use Rattle.std.proofs.lemmas.List.{append-nil}
use Rattle.line_capture.specs.declared.change.Change.{Change}
use Rattle.line_capture.specs.declared.shape.Shape.TheVariants.{Whole}
use Rattle.line_capture.specs.Reading.{Line, byte_of_shape, held_period, looked_bytes, looked_held, line_bytes_from, record_of}
use Rattle.line_capture.specs.Waves.{IsNear, Low, low_change, DrawnPeriod, Off, High, Bit, byte_drawn, shape_of_bit, high_part, changes_drawn, AreEdgesNear}
use Rattle.line_capture.proofs.Shapes.{if_false}
use Rattle.line_capture.proofs.Runs.{some_due, Runs, Ends, ends_at_first, ends_behind_high, ends_behind_bit, rise_below}

abbrev line : ℕ → ℕ → Bool → Bool → Option Bool → ℕ → ℕ → ℕ → Line
line unit at s1 s2 held rise until due = record { unit = unit; at = at; s1 = s1; s2 = s2; held = held; rise = rise; until = until; due = due }

abbrev high_byte : Bool → ℕ
high_byte s2 = byte_of_shape Whole s2

-- ---- lists

slide : (n a : ℕ) (xs : List ℕ) → replicate (suc n) a ++ xs ≡ replicate n a ++ (a ∷ xs)
slide zero a xs = refl
slide (suc n) a xs = ap (λ r. a ∷ r) (slide n a xs)

-- a period of a stretch is known to be high throughout when the next is looked at
flushed : (h : List ℕ) (i a : ℕ) (xs : List ℕ) → (h ++ replicate i a) ++ (a ∷ xs) ≡ h ++ (replicate (suc i) a ++ xs)
flushed h i a xs = append_assoc h (replicate i a) (a ∷ xs) ∙ ap (λ r. h ++ r) (sym (slide i a xs))

-- ---- S1 stays low

stays_low : (unit : ℕ) (held : Option Bool) (rise until due : ℕ) (changes : List Change) (end : ℕ) (bytes : List ℕ)
    → ((at : ℕ) (s2 : Bool) → line_bytes_from (line unit at false s2 held rise until due) changes end ≡ bytes)
    → (lows : List Low) (at : ℕ) (s2 : Bool)
    → line_bytes_from (line unit at false s2 held rise until due) (map low_change lows ++ changes) end ≡ bytes
stays_low unit held rise until due changes end bytes on [] at s2 = on at s2
stays_low unit held rise until due changes end bytes on (low ∷ lows) at s2 =
    stays_low unit held rise until due changes end bytes on lows low.time low.s2

-- ---- what is to be shown of what is drawn from here on

-- S1 is low
abbrev FromLow : ℕ → List DrawnPeriod → ℕ → Type 0
FromLow unit drawn end = (time : ℕ) (held : Option Bool) (rise until due : ℕ) (owed : List ℕ)
    → Ends unit time held rise until due owed → AreEdgesNear unit time drawn end → (at : ℕ) (s2 : Bool)
    → line_bytes_from (line unit at false s2 held rise until due) (changes_drawn None drawn) end ≡ owed ++ map byte_drawn drawn

-- S1 is high, and `suc i` periods with no bit were drawn since the last change
abbrev FromHigh : ℕ → List DrawnPeriod → ℕ → Type 0
FromHigh unit drawn end = (from i time : ℕ) (s2 : Bool) (held : Option Bool) (rise until due at : ℕ)
    → time ≡ from + 16 * unit * suc i → Runs unit from rise due held → AreEdgesNear unit time drawn end
    → line_bytes_from (line unit at true s2 held rise until due) (changes_drawn (Some s2) drawn) end
    ≡ held_period held ++ (replicate (suc i) (high_byte s2) ++ map byte_drawn drawn)

-- the next change comes when so many periods were looked at
at_count : (unit at : ℕ) (s2 : Bool) (held : Option Bool) (rise until due : ℕ) (change : Change) (changes : List Change) (end count : ℕ)
    (bytes : List ℕ)
    → cond (nat_lt change.time due) 0 ((change.time - due) / (16 * unit) + 1) ≡ count
    → looked_bytes held s2 count
    ++ line_bytes_from (line unit change.time change.s1 change.s2 (looked_held held s2 count) rise change.time (due + 16 * unit * count))
    changes end ≡ bytes
    → line_bytes_from (line unit at true s2 held rise until due) (change ∷ changes) end ≡ bytes
at_count unit at s2 held rise until due change changes end count bytes counted is =
    subst (λ (n : ℕ). looked_bytes held s2 n
    ++ line_bytes_from (line unit change.time change.s1 change.s2 (looked_held held s2 n) rise change.time (due + 16 * unit * n))
    changes end ≡ bytes)
    (sym counted) is

-- so many periods were looked at, up to a time near to the end of the last
counted_at_edge : (unit from i time rise due x : ℕ) (held : Option Bool) → time ≡ from + 16 * unit * suc i → Runs unit from rise due held
    → IsNear unit time x → cond (nat_lt x due) 0 ((x - due) / (16 * unit) + 1) ≡ suc i
counted_at_edge unit from i time rise due x held is runs near = some_due unit due x i
    (omega (arith, is, runs.late, runs.early, near.late, near.early)) (omega (arith, is, runs.late, runs.early, near.late, near.early))

counted_at_fall : (bit : Bool) (unit from j time rise due x : ℕ) (held : Option Bool) → time ≡ from + 16 * unit * j → Runs unit from rise due held
    → IsNear unit (time + high_part bit * unit) x → cond (nat_lt x due) 0 ((x - due) / (16 * unit) + 1) ≡ suc j
counted_at_fall false unit from j time rise due x held is runs near = some_due unit due x j
    (omega (arith, is, runs.late, runs.early, near.late, near.early)) (omega (arith, is, runs.late, runs.early, near.late, near.early))
counted_at_fall true unit from j time rise due x held is runs near = some_due unit due x j
    (omega (arith, is, runs.late, runs.early, near.late, near.early)) (omega (arith, is, runs.late, runs.early, near.late, near.early))

-- ---- a bit falls, where `j` periods with no bit were drawn since the last change

falls : (unit end : ℕ) (rest : List DrawnPeriod) → FromLow unit rest end
    → (bit s2 : Bool) (from j time : ℕ) (held : Option Bool) (rise until due at : ℕ) (fall : Low) (lows : List Low)
    → time ≡ from + 16 * unit * j → Runs unit from rise due held → IsNear unit (time + high_part bit * unit) fall.time
    → AreEdgesNear unit (time + 16 * unit) rest end
    → line_bytes_from (line unit at true s2 held rise until due) (low_change fall ∷ (map low_change lows ++ changes_drawn None rest)) end
    ≡ (held_period held ++ replicate j (high_byte s2)) ++ (byte_of_shape (shape_of_bit bit) s2 ∷ map byte_drawn rest)
falls unit end rest on bit s2 from j time held rise until due at fall lows is runs near edges =
    at_count unit at s2 held rise until due (low_change fall) (map low_change lows ++ changes_drawn None rest) end (suc j)
    ((held_period held ++ replicate j (high_byte s2)) ++ (byte_of_shape (shape_of_bit bit) s2 ∷ map byte_drawn rest))
    (counted_at_fall bit unit from j time rise due fall.time held is runs near)
    (ap (λ bs. (held_period held ++ replicate j (high_byte s2)) ++ bs)
    (stays_low unit (Some s2) rise fall.time (due + 16 * unit * suc j) (changes_drawn None rest) end
    (byte_of_shape (shape_of_bit bit) s2 ∷ map byte_drawn rest)
    (on (time + 16 * unit) (Some s2) rise fall.time (due + 16 * unit * suc j) (byte_of_shape (shape_of_bit bit) s2 ∷ [])
    (ends_behind_bit bit s2 unit from j time rise due fall.time held is runs near) edges)
    lows fall.time fall.s2))

-- ---- S1 has just risen, near to the begin of a period

risen : (unit time rise : ℕ) → 0 < unit → IsNear unit time rise → Runs unit time rise (rise + 2 * unit) None
risen unit time rise some near = record {
  late = omega (arith, near.late, near.early);
  early = omega (arith, near.late, near.early);
  start = inl (refl, refl);
}

-- S2 has just changed, near to the begin of a period, where S1 stays high
turned : (unit from i time rise due : ℕ) (s2 : Bool) (held : Option Bool) → time ≡ from + 16 * unit * suc i → Runs unit from rise due held
    → Runs unit time rise (due + 16 * unit * suc i) (Some s2)
turned unit from i time rise due s2 held is runs =
    record {
      late = omega (arith, is, runs.late);
      early = omega (arith, is, runs.early);
      start = inr (omega (arith, (rise_below unit rise due held runs.start)));
    }

-- ---- one more period, behind S1 low

low_on : (unit end : ℕ) → 0 < unit → (period : DrawnPeriod) (rest : List DrawnPeriod) → FromLow unit rest end → FromHigh unit rest end
    → FromLow unit (period ∷ rest) end
low_on unit end some (Off fall lows) rest low high time held rise until due owed ends edges at s2 =
    stays_low unit held rise until due (changes_drawn None rest) end (owed ++ (0 ∷ map byte_drawn rest))
    (λ at s2. low (time + 16 * unit) held rise until due (owed ++ (0 ∷ []))
    (λ k x near. ends (suc k) x (record { late = omega (arith, near.late); early = omega (arith, near.early) })
    ∙ sym (append_assoc owed (0 ∷ []) (replicate k 0)))
    edges.1 at s2
    ∙ append_assoc owed (0 ∷ []) (map byte_drawn rest))
    lows at s2
low_on unit end some (High up begin) rest low high time held rise until due owed ends edges at s2 =
    ap (λ bs. bs ++ line_bytes_from (line unit begin true up None begin begin (begin + 2 * unit)) (changes_drawn (Some up) rest) end)
    (ends 0 begin (record { late = omega (arith, edges.0.late); early = omega (arith, edges.0.early) }) ∙ append-nil owed)
    ∙ ap (λ bs. owed ++ bs)
    (high time zero (time + 16 * unit) up None begin begin (begin + 2 * unit) begin (omega arith) (risen unit time begin some edges.0) edges.1)
low_on unit end some (Bit bit up begin fall lows) rest low high time held rise until due owed ends edges at s2 =
    ap (λ bs. bs ++ line_bytes_from (line unit begin true up None begin begin (begin + 2 * unit))
    (low_change fall ∷ (map low_change lows ++ changes_drawn None rest)) end)
    (ends 0 begin (record { late = omega (arith, edges.0.late); early = omega (arith, edges.0.early) }) ∙ append-nil owed)
    ∙ ap (λ bs. owed ++ bs)
    (falls unit end rest low bit up time zero time None begin begin (begin + 2 * unit) begin fall lows (omega arith)
    (risen unit time begin some edges.0) edges.1 edges.2)

-- ---- one more period, behind S1 high

-- S2 changes in front of it
s2_turns : (unit end : ℕ) (from i time : ℕ) (s2 up : Bool) (held : Option Bool) (rise until due at begin : ℕ) (changes : List Change) (bytes : List ℕ)
    → time ≡ from + 16 * unit * suc i → Runs unit from rise due held → IsNear unit time begin
    → line_bytes_from (line unit begin true up (Some s2) rise begin (due + 16 * unit * suc i)) changes end ≡ high_byte s2 ∷ bytes
    → line_bytes_from (line unit at true s2 held rise until due) (record { time = begin; s1 = true; s2 = up } ∷ changes) end
    ≡ held_period held ++ (replicate (suc i) (high_byte s2) ++ bytes)
s2_turns unit end from i time s2 up held rise until due at begin changes bytes is runs near on =
    at_count unit at s2 held rise until due (record { time = begin; s1 = true; s2 = up }) changes end (suc i)
    (held_period held ++ (replicate (suc i) (high_byte s2) ++ bytes))
    (counted_at_edge unit from i time rise due begin held is runs near)
    (ap (λ bs. (held_period held ++ replicate i (high_byte s2)) ++ bs) on ∙ flushed (held_period held) i (high_byte s2) bytes)

high_on : (unit end : ℕ) → (period : DrawnPeriod) (rest : List DrawnPeriod) → FromLow unit rest end → FromHigh unit rest end
    → FromHigh unit (period ∷ rest) end
high_on unit end (Off fall lows) rest low high from i time s2 held rise until due at is runs edges =
    at_count unit at s2 held rise until due (low_change fall) (map low_change lows ++ changes_drawn None rest) end (suc i)
    (held_period held ++ (replicate (suc i) (high_byte s2) ++ (0 ∷ map byte_drawn rest)))
    (counted_at_edge unit from i time rise due fall.time held is runs edges.0)
    (ap (λ bs. (held_period held ++ replicate i (high_byte s2)) ++ bs)
    (stays_low unit (Some s2) rise fall.time (due + 16 * unit * suc i) (changes_drawn None rest) end
    (high_byte s2 ∷ 0 ∷ map byte_drawn rest)
    (low (time + 16 * unit) (Some s2) rise fall.time (due + 16 * unit * suc i) (high_byte s2 ∷ 0 ∷ [])
    (λ k x there. ends_behind_high unit from i rise due fall.time s2 held runs (grind arith) k x
    (record { late = omega (arith, is, there.late); early = omega (arith, is, there.early) }))
    edges.1)
    lows fall.time fall.s2)
    ∙ flushed (held_period held) i (high_byte s2) (0 ∷ map byte_drawn rest))
high_on unit end (High up begin) rest low high from i time s2 held rise until due at is runs edges = by s2 up
  where
    goes_on : (s2 : Bool) → line_bytes_from (line unit at true s2 held rise until due) (changes_drawn (Some s2) rest) end
        ≡ held_period held ++ (replicate (suc i) (high_byte s2) ++ (high_byte s2 ∷ map byte_drawn rest))
    goes_on s2 = high from (suc i) (time + 16 * unit) s2 held rise until due at (omega (arith, is)) runs edges.1
        ∙ ap (λ bs. held_period held ++ bs) (slide (suc i) (high_byte s2) (map byte_drawn rest))

    turns : (s2 up : Bool) → line_bytes_from (line unit at true s2 held rise until due)
        (record { time = begin; s1 = true; s2 = up } ∷ changes_drawn (Some up) rest) end
        ≡ held_period held ++ (replicate (suc i) (high_byte s2) ++ (high_byte up ∷ map byte_drawn rest))
    turns s2 up = s2_turns unit end from i time s2 up held rise until due at begin (changes_drawn (Some up) rest) (high_byte up ∷ map byte_drawn rest)
        is runs edges.0
        (high time zero (time + 16 * unit) up (Some s2) rise begin (due + 16 * unit * suc i) begin (omega arith)
        (turned unit from i time rise due s2 held is runs) edges.1)

    by : (s2 up : Bool) → line_bytes_from (line unit at true s2 held rise until due) (changes_drawn (Some s2) (High up begin ∷ rest)) end
        ≡ held_period held ++ (replicate (suc i) (high_byte s2) ++ (high_byte up ∷ map byte_drawn rest))
    by true true = goes_on true
    by false false = goes_on false
    by true false = turns true false
    by false true = turns false true
high_on unit end (Bit bit up begin fall lows) rest low high from i time s2 held rise until due at is runs edges = by s2 up
  where
    goes_on : (s2 : Bool) → line_bytes_from (line unit at true s2 held rise until due)
        (low_change fall ∷ (map low_change lows ++ changes_drawn None rest)) end
        ≡ held_period held ++ (replicate (suc i) (high_byte s2) ++ (byte_of_shape (shape_of_bit bit) s2 ∷ map byte_drawn rest))
    goes_on s2 = falls unit end rest low bit s2 from (suc i) time held rise until due at fall lows is runs edges.1 edges.2
        ∙ append_assoc (held_period held) (replicate (suc i) (high_byte s2)) (byte_of_shape (shape_of_bit bit) s2 ∷ map byte_drawn rest)

    turns : (s2 up : Bool) → line_bytes_from (line unit at true s2 held rise until due)
        (record { time = begin; s1 = true; s2 = up } ∷ (low_change fall ∷ (map low_change lows ++ changes_drawn None rest))) end
        ≡ held_period held ++ (replicate (suc i) (high_byte s2) ++ (byte_of_shape (shape_of_bit bit) up ∷ map byte_drawn rest))
    turns s2 up = s2_turns unit end from i time s2 up held rise until due at begin
        (low_change fall ∷ (map low_change lows ++ changes_drawn None rest)) (byte_of_shape (shape_of_bit bit) up ∷ map byte_drawn rest)
        is runs edges.0
        (falls unit end rest low bit up time zero time (Some s2) rise begin (due + 16 * unit * suc i) begin fall lows (omega arith)
        (turned unit from i time rise due s2 held is runs) edges.1 edges.2)

    by : (s2 up : Bool) → line_bytes_from (line unit at true s2 held rise until due) (changes_drawn (Some s2) (Bit bit up begin fall lows ∷ rest)) end
        ≡ held_period held ++ (replicate (suc i) (high_byte s2) ++ (byte_of_shape (shape_of_bit bit) up ∷ map byte_drawn rest))
    by true true = goes_on true
    by false false = goes_on false
    by true false = turns true false
    by false true = turns false true

-- ---- all periods

-- the last one is not left out
whole_at_end : (unit from i time rise due end : ℕ) (held : Option Bool) → time ≡ from + 16 * unit * suc i → Runs unit from rise due held
    → IsNear unit time end → nat_lt (end + 10 * unit) (due + 16 * unit * cond (nat_lt end due) 0 ((end - due) / (16 * unit) + 1)) ≡ false
whole_at_end unit from i time rise due end held is runs near =
    subst (λ (n : ℕ). nat_lt (end + 10 * unit) (due + 16 * unit * n) ≡ false) (sym (counted_at_edge unit from i time rise due end held is runs near))
    (le-ltb (end + 10 * unit) (due + 16 * unit * suc i) (omega (arith, is, runs.late, runs.early, near.late, near.early)))

both : (unit end : ℕ) → 0 < unit → (drawn : List DrawnPeriod) → FromLow unit drawn end × FromHigh unit drawn end
both unit end some [] = (
  (λ time held rise until due owed ends edges at s2. ends 0 end (record { late = omega (arith, edges.late); early = omega (arith, edges.early) })),
  (λ from i time s2 held rise until due at is runs edges.
      if_false (nat_lt (end + 10 * unit) (due + 16 * unit * cond (nat_lt end due) 0 ((end - due) / (16 * unit) + 1)))
      (looked_bytes held s2 (cond (nat_lt end due) 0 ((end - due) / (16 * unit) + 1)))
      (held_period held ++ replicate (cond (nat_lt end due) 0 ((end - due) / (16 * unit) + 1)) (high_byte s2))
      (whole_at_end unit from i time rise due end held is runs edges)
      ∙ ap (λ n. held_period held ++ replicate n (high_byte s2)) (counted_at_edge unit from i time rise due end held is runs edges)
      ∙ ap (λ bs. held_period held ++ bs) (sym (append-nil (replicate (suc i) (high_byte s2))))),
)
both unit end some (period ∷ rest) = by (both unit end some rest)
  where
    by : FromLow unit rest end × FromHigh unit rest end → FromLow unit (period ∷ rest) end × FromHigh unit (period ∷ rest) end
    by on = (low_on unit end some period rest on.0 on.1, high_on unit end period rest on.0 on.1)

pub near_is_read : (unit begin first end : ℕ) (drawn : List DrawnPeriod) → 0 < unit → IsNear unit begin first → AreEdgesNear unit begin drawn end
    → record_of unit first (changes_drawn None drawn) end ≡ map byte_drawn drawn
near_is_read unit begin first end drawn some near edges =
    (both unit end some drawn).0 begin None first first (first + 2 * unit) []
    (ends_at_first unit begin first first (first + 2 * unit) some near) edges first false
