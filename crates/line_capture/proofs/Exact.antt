-- The wave of a record is drawn with each edge where it belongs.
use Rattle.std.proofs.Common.{◌≡◌, ℕ, ◌+◌, ◌*◌, ◌<◌, Bool, true, false, List, [], ◌∷◌, length, map, refl, ap, ◌∙◌, arith}
use Rattle.std.specs.Prelude.{Option, Some, None}
use Rattle.std.proofs.lemmas.List.{length-map}
use Rattle.swp_line.specs.Periods.{byte_of_period}
use Rattle.swp_line.specs.declared.period.Period.{Period}
use Rattle.swp_line.specs.declared.period.Period.TheVariants.{Bits, Suspended, ResumeAsked, Deactivated}
use Rattle.line_capture.specs.Reading.{record_of}
use Rattle.line_capture.specs.Waves.{Levels, DrawnPeriod, Off, High, Bit, Low, IsNear, AreEdgesNear, changes_drawn, byte_drawn, changes_between}
use Rattle.line_capture.specs.Waves.{quarters_of, wave_of}
use Rattle.line_capture.proofs.Near.{near_is_read}

-- the time four quarters later, by one quarter after another
abbrev next : ℕ → ℕ → ℕ
next unit time = time + 4 * unit + 4 * unit + 4 * unit + 4 * unit

abbrev fallen : ℕ → Low
fallen time = record { time = time; s2 = false }

abbrev drawn_at : ℕ → ℕ → Period → DrawnPeriod
drawn_at unit time Deactivated = Off (fallen time) []
drawn_at unit time Suspended = High false time
drawn_at unit time ResumeAsked = High true time
drawn_at unit time (Bits false s2) = Bit false s2 time (fallen (time + 4 * unit)) []
drawn_at unit time (Bits true s2) = Bit true s2 time (fallen (time + 4 * unit + 4 * unit + 4 * unit)) []

abbrev drawn_of : ℕ → ℕ → List Period → List DrawnPeriod
drawn_of unit time [] = []
drawn_of unit time (period ∷ periods) = drawn_at unit time period ∷ drawn_of unit (next unit time) periods

abbrev levels : Option Bool → Levels
levels None = record { s1 = false; s2 = false }
levels (Some s2) = record { s1 = true; s2 = s2 }

-- the bytes
same_byte : (unit time : ℕ) (period : Period) → byte_drawn (drawn_at unit time period) ≡ byte_of_period period
same_byte unit time Deactivated = refl
same_byte unit time Suspended = refl
same_byte unit time ResumeAsked = refl
same_byte unit time (Bits false false) = refl
same_byte unit time (Bits false true) = refl
same_byte unit time (Bits true false) = refl
same_byte unit time (Bits true true) = refl

same_bytes : (unit time : ℕ) (periods : List Period) → map byte_drawn (drawn_of unit time periods) ≡ map byte_of_period periods
same_bytes unit time [] = refl
same_bytes unit time (period ∷ periods) =
    ap (λ b. b ∷ map byte_drawn (drawn_of unit (next unit time) periods)) (same_byte unit time period)
    ∙ ap (λ bs. byte_of_period period ∷ bs) (same_bytes unit (next unit time) periods)

-- the edges
here : (unit time : ℕ) → 0 < unit → IsNear unit time time
here unit time some = record { late = omega arith; early = omega arith }

edges : (unit time drawn_from : ℕ) (periods : List Period) (end : ℕ) → 0 < unit → drawn_from ≡ time → end ≡ time + 16 * unit * length periods
    → AreEdgesNear unit time (drawn_of unit drawn_from periods) end
edges unit time drawn_from [] end some same ends = record { late = omega arith; early = omega arith }
edges unit time drawn_from (Deactivated ∷ periods) end some same ends = (
  (record { late = omega arith; early = omega arith }),
  edges unit (time + 16 * unit) (next unit drawn_from) periods end some (omega arith) (omega (arith, ends)),
)
edges unit time drawn_from (Suspended ∷ periods) end some same ends = (
  (record { late = omega arith; early = omega arith }),
  edges unit (time + 16 * unit) (next unit drawn_from) periods end some (omega arith) (omega (arith, ends)),
)
edges unit time drawn_from (ResumeAsked ∷ periods) end some same ends = (
  (record { late = omega arith; early = omega arith }),
  edges unit (time + 16 * unit) (next unit drawn_from) periods end some (omega arith) (omega (arith, ends)),
)
edges unit time drawn_from ((Bits false s2) ∷ periods) end some same ends = (
  (record { late = omega arith; early = omega arith }),
  (record { late = omega arith; early = omega arith }),
  edges unit (time + 16 * unit) (next unit drawn_from) periods end some (omega arith) (omega (arith, ends)),
)
edges unit time drawn_from ((Bits true s2) ∷ periods) end some same ends = (
  (record { late = omega arith; early = omega arith }),
  (record { late = omega arith; early = omega arith }),
  edges unit (time + 16 * unit) (next unit drawn_from) periods end some (omega arith) (omega (arith, ends)),
)

-- the changes
same_changes : (unit time : ℕ) (old : Option Bool) (periods : List Period)
    → changes_between unit time (levels old) (quarters_of (map byte_of_period periods)) ≡ changes_drawn old (drawn_of unit time periods)
same_changes unit time None [] = refl
same_changes unit time (Some s2) [] = refl
same_changes unit time None (Deactivated ∷ periods) = rw (same_changes unit (next unit time) None periods) refl
same_changes unit time None (Suspended ∷ periods) = rw (same_changes unit (next unit time) (Some false) periods) refl
same_changes unit time None (ResumeAsked ∷ periods) = rw (same_changes unit (next unit time) (Some true) periods) refl
same_changes unit time None ((Bits false false) ∷ periods) = rw (same_changes unit (next unit time) None periods) refl
same_changes unit time None ((Bits false true) ∷ periods) = rw (same_changes unit (next unit time) None periods) refl
same_changes unit time None ((Bits true false) ∷ periods) = rw (same_changes unit (next unit time) None periods) refl
same_changes unit time None ((Bits true true) ∷ periods) = rw (same_changes unit (next unit time) None periods) refl
same_changes unit time (Some false) (Deactivated ∷ periods) = rw (same_changes unit (next unit time) None periods) refl
same_changes unit time (Some false) (Suspended ∷ periods) = rw (same_changes unit (next unit time) (Some false) periods) refl
same_changes unit time (Some false) (ResumeAsked ∷ periods) = rw (same_changes unit (next unit time) (Some true) periods) refl
same_changes unit time (Some false) ((Bits false false) ∷ periods) = rw (same_changes unit (next unit time) None periods) refl
same_changes unit time (Some false) ((Bits false true) ∷ periods) = rw (same_changes unit (next unit time) None periods) refl
same_changes unit time (Some false) ((Bits true false) ∷ periods) = rw (same_changes unit (next unit time) None periods) refl
same_changes unit time (Some false) ((Bits true true) ∷ periods) = rw (same_changes unit (next unit time) None periods) refl
same_changes unit time (Some true) (Deactivated ∷ periods) = rw (same_changes unit (next unit time) None periods) refl
same_changes unit time (Some true) (Suspended ∷ periods) = rw (same_changes unit (next unit time) (Some false) periods) refl
same_changes unit time (Some true) (ResumeAsked ∷ periods) = rw (same_changes unit (next unit time) (Some true) periods) refl
same_changes unit time (Some true) ((Bits false false) ∷ periods) = rw (same_changes unit (next unit time) None periods) refl
same_changes unit time (Some true) ((Bits false true) ∷ periods) = rw (same_changes unit (next unit time) None periods) refl
same_changes unit time (Some true) ((Bits true false) ∷ periods) = rw (same_changes unit (next unit time) None periods) refl
same_changes unit time (Some true) ((Bits true true) ∷ periods) = rw (same_changes unit (next unit time) None periods) refl

pub wave_is_read : (unit begin : ℕ) (periods : List Period) → 0 < unit
    → record_of unit begin (wave_of unit begin (map byte_of_period periods)) (begin + 16 * unit * length (map byte_of_period periods))
    ≡ map byte_of_period periods
wave_is_read unit begin periods some =
    ap (λ changes. record_of unit begin changes (begin + 16 * unit * length (map byte_of_period periods))) (same_changes unit begin None periods)
    ∙ (near_is_read unit begin begin (begin + 16 * unit * length (map byte_of_period periods)) (drawn_of unit begin periods) some (here unit begin some)
    (edges unit begin begin periods (begin + 16 * unit * length (map byte_of_period periods)) some refl
    (ap (λ n. begin + 16 * unit * n) (length-map periods byte_of_period)))
    ∙ same_bytes unit begin periods)
