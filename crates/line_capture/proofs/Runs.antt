-- What a stretch of S1 high and a low behind it are read as, where the edges lie near to where they belong.
use Rattle.std.proofs.Common.{◌≡◌, ℕ, zero, suc, ◌+◌, ◌-◌, ◌*◌, ◌/◌, ◌≤◌, ◌<◌, ◌⊎◌, Bool, true, false, cond, List, [], ◌∷◌, ◌++◌, ap, ◌∙◌, arith, inl, inr}
use Rattle.std.specs.Prelude.{Option, Some, None, replicate, nat_lt}
use Rattle.std.proofs.lemmas.Bool.{lt-ltb, le-ltb}
use Rattle.line_capture.specs.declared.shape.Shape.TheVariants.{Zero, One, Whole}
use Rattle.line_capture.specs.Reading.{byte_of_shape, is_lone, stretch_bytes}
use Rattle.line_capture.specs.Waves.{IsNear, high_part, shape_of_bit}
use Rattle.line_capture.proofs.Shapes.{if_true, if_false, quotient, off_by_bounds, share_zero, share_one, lone, high_for_long, whole_is_long}
use Rattle.line_capture.proofs.Shapes.{shape_by_low, shape_whole, shape_by_tail, bytes_apart, bytes_lone}

-- ---- how many periods are looked at

pub none_due : (unit due x : ℕ) → x < due → cond (nat_lt x due) 0 ((x - due) / (16 * unit) + 1) ≡ zero
none_due unit due x before = if_true (nat_lt x due) 0 ((x - due) / (16 * unit) + 1) (lt-ltb x due before)

pub some_due : (unit due x i : ℕ) → due + 16 * unit * i ≤ x → x < due + 16 * unit * i + 16 * unit
    → cond (nat_lt x due) 0 ((x - due) / (16 * unit) + 1) ≡ suc i
some_due unit due x i least most =
    let q : (x - due) / (16 * unit) ≡ i = quotient (16 * unit) i (x - due) (omega arith) (omega arith) in
    if_false (nat_lt x due) 0 ((x - due) / (16 * unit) + 1) (le-ltb x due (omega arith)) ∙ omega (arith, q)

-- a stretch of S1 high that began at `rise`, or before, in which no period was looked at between `time` and the one that is due
pub record Runs (unit time rise due : ℕ) (held : Option Bool) : Type 0 where
  pub late : time + unit < due
  pub early : due < time + 3 * unit
  pub start : ((held ≡ None) × (due ≡ rise + 2 * unit)) ⊎ (rise + 18 * unit ≤ due)

pub rise_below : (unit rise due : ℕ) (held : Option Bool) → ((held ≡ None) × (due ≡ rise + 2 * unit)) ⊎ (rise + 18 * unit ≤ due)
    → rise + 2 * unit ≤ due
rise_below unit rise due held (inl first) = omega (arith, first.1)
rise_below unit rise due held (inr later) = omega (arith, later)

-- from a low since `until` on, a rise or an end near to each further period gives these bytes
abbrev pub Ends : ℕ → ℕ → Option Bool → ℕ → ℕ → ℕ → List ℕ → Type 0
Ends unit time held rise until due owed = (k x : ℕ) → IsNear unit (time + 16 * unit * k) x
    → stretch_bytes unit held (until - rise) (until + 18 * unit - due) (x - until) ≡ owed ++ replicate k 0

-- ---- a line that is low at first

pub ends_at_first : (unit time until rise due : ℕ) → 0 < unit → IsNear unit time until → Ends unit time None rise until due []
ends_at_first unit time until rise due some near k x there =
    ap (λ n. replicate n 0) (off_by_bounds unit (x - until) k
    (omega (arith, near.late, near.early, there.late, there.early))
    (omega (arith, near.late, near.early, there.late, there.early)))

-- ---- S1 falls behind a period with no bit

pub ends_behind_high : (unit time i rise due fall : ℕ) (s2 : Bool) (held : Option Bool) → Runs unit time rise due held
    → IsNear unit (time + 16 * unit * suc i) fall
    → Ends unit (time + 16 * unit * suc i + 16 * unit) (Some s2) rise fall (due + 16 * unit * suc i) (byte_of_shape Whole s2 ∷ 0 ∷ [])
ends_behind_high unit time i rise due fall s2 held runs near k x there =
    let apart : is_lone unit (fall - rise) ((fall - rise) + (x - fall)) ≡ false = grind arith in
    bytes_apart unit (fall - rise) (fall + 18 * unit - (due + 16 * unit * suc i)) (x - fall) (suc k) s2 Whole apart
    (shape_whole unit (fall - rise) (fall + 18 * unit - (due + 16 * unit * suc i)) (x - fall) apart (omega arith) (omega arith))
    (off_by_bounds unit (x - fall) (suc k) (omega arith) (omega arith))

-- ---- S1 falls behind the high part of a bit

-- the bit by how long S1 was high in its period, where periods with no bit come behind it
bit_by_tail : (bit s2 : Bool) (unit time rise next fall k x : ℕ) → time + 17 * unit < next → next < time + 19 * unit
    → IsNear unit (time + high_part bit * unit) fall → IsNear unit (time + 16 * unit + 16 * unit * suc k) x
    → is_lone unit (fall - rise) ((fall - rise) + (x - fall)) ≡ false
    → stretch_bytes unit (Some s2) (fall - rise) (fall + 18 * unit - next) (x - fall) ≡ byte_of_shape (shape_of_bit bit) s2 ∷ replicate (suc k) 0
bit_by_tail false s2 unit time rise next fall k x least most near there apart =
    bytes_apart unit (fall - rise) (fall + 18 * unit - next) (x - fall) (suc k) s2 Zero apart
    (shape_by_tail unit (fall - rise) (fall + 18 * unit - next) (x - fall) apart (omega arith) (omega arith)
    ∙ share_zero (fall + 18 * unit - next) (16 * unit) (omega arith) (omega arith))
    (off_by_bounds unit (x - fall) (suc k) (omega arith) (omega arith))
bit_by_tail true s2 unit time rise next fall k x least most near there apart =
    bytes_apart unit (fall - rise) (fall + 18 * unit - next) (x - fall) (suc k) s2 One apart
    (shape_by_tail unit (fall - rise) (fall + 18 * unit - next) (x - fall) apart (omega arith) (omega arith)
    ∙ share_one (fall + 18 * unit - next) (16 * unit) (omega arith) (omega arith))
    (off_by_bounds unit (x - fall) (suc k) (omega arith) (omega arith))

-- the bit by how long S1 is low, where S1 was high before its period
bit_by_low : (bit s2 : Bool) (unit time rise next fall x : ℕ) → time + 17 * unit < next → next < time + 19 * unit
    → IsNear unit (time + high_part bit * unit) fall → IsNear unit (time + 16 * unit) x
    → is_lone unit (fall - rise) ((fall - rise) + (x - fall)) ≡ false
    → stretch_bytes unit (Some s2) (fall - rise) (fall + 18 * unit - next) (x - fall) ≡ byte_of_shape (shape_of_bit bit) s2 ∷ []
bit_by_low false s2 unit time rise next fall x least most near there apart =
    bytes_apart unit (fall - rise) (fall + 18 * unit - next) (x - fall) zero s2 Zero apart
    (shape_by_low unit (fall - rise) (fall + 18 * unit - next) (x - fall) apart (omega arith)
    ∙ share_zero (16 * unit - (x - fall)) (16 * unit) (omega arith) (omega arith))
    (off_by_bounds unit (x - fall) zero (omega arith) (omega arith))
bit_by_low true s2 unit time rise next fall x least most near there apart =
    bytes_apart unit (fall - rise) (fall + 18 * unit - next) (x - fall) zero s2 One apart
    (shape_by_low unit (fall - rise) (fall + 18 * unit - next) (x - fall) apart (omega arith)
    ∙ share_one (16 * unit - (x - fall)) (16 * unit) (omega arith) (omega arith))
    (off_by_bounds unit (x - fall) zero (omega arith) (omega arith))

-- the bit by its share of its own period, where S1 was low before it
bit_alone : (bit s2 : Bool) (unit time rise next fall x : ℕ) → IsNear unit time rise
    → IsNear unit (time + high_part bit * unit) fall → IsNear unit (time + 16 * unit) x
    → stretch_bytes unit (Some s2) (fall - rise) (fall + 18 * unit - next) (x - fall) ≡ byte_of_shape (shape_of_bit bit) s2 ∷ []
bit_alone false s2 unit time rise next fall x from near there =
    bytes_lone unit (fall - rise) (fall + 18 * unit - next) (x - fall) s2 Zero
    (lone unit (fall - rise) ((fall - rise) + (x - fall)) (omega arith) (omega arith) (omega arith))
    (share_zero (fall - rise) ((fall - rise) + (x - fall)) (omega arith) (omega arith))
bit_alone true s2 unit time rise next fall x from near there =
    bytes_lone unit (fall - rise) (fall + 18 * unit - next) (x - fall) s2 One
    (lone unit (fall - rise) ((fall - rise) + (x - fall)) (omega arith) (omega arith) (omega arith))
    (share_one (fall - rise) ((fall - rise) + (x - fall)) (omega arith) (omega arith))

least_high : (bit : Bool) (unit time fall : ℕ) → IsNear unit (time + high_part bit * unit) fall → time + 3 * unit < fall
least_high false unit time fall near = omega arith
least_high true unit time fall near = omega arith

most_high : (bit : Bool) (unit time fall : ℕ) → IsNear unit (time + high_part bit * unit) fall → fall < time + 13 * unit
most_high false unit time fall near = omega arith
most_high true unit time fall near = omega arith

-- S1 was high before the period of the bit
bit_behind_high : (bit s2 : Bool) (unit time rise next fall : ℕ) → time + 17 * unit < next → next < time + 19 * unit
    → rise + 13 * unit < time → IsNear unit (time + high_part bit * unit) fall
    → Ends unit (time + 16 * unit) (Some s2) rise fall next (byte_of_shape (shape_of_bit bit) s2 ∷ [])
bit_behind_high bit s2 unit time rise next fall least most before near zero x there =
    bit_by_low bit s2 unit time rise next fall x least most near (record { late = omega (arith, there.late); early = omega (arith, there.early) })
    (high_for_long unit (fall - rise) ((fall - rise) + (x - fall)) (omega (arith, (least_high bit unit time fall near), before)))
bit_behind_high bit s2 unit time rise next fall least most before near (suc k) x there =
    bit_by_tail bit s2 unit time rise next fall k x least most near there
    (high_for_long unit (fall - rise) ((fall - rise) + (x - fall)) (omega (arith, (least_high bit unit time fall near), before)))

bit_behind_low : (bit s2 : Bool) (unit time rise next fall : ℕ) → time + 17 * unit < next → next < time + 19 * unit
    → IsNear unit time rise → IsNear unit (time + high_part bit * unit) fall
    → Ends unit (time + 16 * unit) (Some s2) rise fall next (byte_of_shape (shape_of_bit bit) s2 ∷ [])
bit_behind_low bit s2 unit time rise next fall least most from near zero x there =
    bit_alone bit s2 unit time rise next fall x from near (record { late = omega (arith, there.late); early = omega (arith, there.early) })
bit_behind_low bit s2 unit time rise next fall least most from near (suc k) x there =
    bit_by_tail bit s2 unit time rise next fall k x least most near there
    (whole_is_long unit (fall - rise) ((fall - rise) + (x - fall))
    (omega (arith, (least_high bit unit time fall near), (most_high bit unit time fall near), from.late, from.early, there.late, there.early)))

pub ends_behind_bit : (bit s2 : Bool) (unit from j time rise due fall : ℕ) (held : Option Bool) → time ≡ from + 16 * unit * j
    → Runs unit from rise due held → IsNear unit (time + high_part bit * unit) fall
    → Ends unit (time + 16 * unit) (Some s2) rise fall (due + 16 * unit * suc j) (byte_of_shape (shape_of_bit bit) s2 ∷ [])
ends_behind_bit bit s2 unit from j time rise due fall held is runs near = by j runs.start is
  where
    by : (j : ℕ) → ((held ≡ None) × (due ≡ rise + 2 * unit)) ⊎ (rise + 18 * unit ≤ due) → time ≡ from + 16 * unit * j
        → Ends unit (time + 16 * unit) (Some s2) rise fall (due + 16 * unit * suc j) (byte_of_shape (shape_of_bit bit) s2 ∷ [])
    by zero (inl first) is =
        let e : due ≡ rise + 2 * unit = first.1 in
        bit_behind_low bit s2 unit time rise (due + 16 * unit * suc zero) fall
        (omega (arith, runs.late, is)) (omega (arith, runs.early, is))
        (record { late = omega (arith, e, runs.early, runs.late, is); early = omega (arith, e, runs.early, runs.late, is) }) near
    by (suc j) (inl first) is =
        let e : due ≡ rise + 2 * unit = first.1 in
        bit_behind_high bit s2 unit time rise (due + 16 * unit * suc (suc j)) fall
        (omega (arith, runs.late, is)) (omega (arith, runs.early, is)) (omega (arith, e, runs.early, runs.late, is)) near
    by j (inr later) is =
        bit_behind_high bit s2 unit time rise (due + 16 * unit * suc j) fall
        (omega (arith, runs.late, is)) (omega (arith, runs.early, is)) (omega (arith, later, runs.early, runs.late, is)) near
