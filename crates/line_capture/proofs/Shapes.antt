-- The shape of a period, and the periods behind it, from bounds on how long S1 is high and low.
use Rattle.std.proofs.Common.{◌≡◌, ℕ, ◌+◌, ◌-◌, ◌*◌, ◌/◌, ◌≤◌, ◌<◌, Bool, true, false, cond, ◌&&◌, [], ◌∷◌, refl, ap, ◌∙◌, arith}
use Rattle.std.specs.Prelude.{Some, replicate, nat_lt, nat_le}
use Rattle.std.proofs.lemmas.Bool.{lt-ltb, le-ltb, le-leb, lt-leb}
use Rattle.std.proofs.lemmas.Nat.{div-mul-add}
use Rattle.line_capture.specs.declared.shape.Shape.{Shape}
use Rattle.line_capture.specs.declared.shape.Shape.TheVariants.{Zero, One, Whole}
use Rattle.line_capture.specs.Reading.{byte_of_shape, share, is_lone, shape_of, periods_off, stretch_bytes}

-- ---- tests

pub if_true : {A : Type 0} (b : Bool) (x y : A) → b ≡ true → cond b x y ≡ x
if_true b x y e = ap (λ c. cond c x y) e

pub if_false : {A : Type 0} (b : Bool) (x y : A) → b ≡ false → cond b x y ≡ y
if_false b x y e = ap (λ c. cond c x y) e

both : (a b : Bool) → a ≡ true → b ≡ true → (a && b) ≡ true
both a b e f = ap (λ c. c && b) e ∙ f

not_first : (a b : Bool) → a ≡ false → (a && b) ≡ false
not_first a b e = ap (λ c. c && b) e

not_second : (a b : Bool) → b ≡ false → (a && b) ≡ false
not_second true b e = e
not_second false b e = refl

-- ---- a number by its bounds

pub quotient : (w k y : ℕ) → k * w ≤ y → y < k * w + w → y / w ≡ k
quotient w k y least most = ap (λ n. n / w) (omega arith) ∙ div-mul-add k w (y - k * w) (omega arith)

pub off_by_bounds : (unit low k : ℕ) → 16 * unit * k ≤ low + 2 * unit → low + 2 * unit < 16 * unit * k + 16 * unit → periods_off unit low ≡ k
off_by_bounds unit low k least most = quotient (16 * unit) k (low + 2 * unit) (omega arith) (omega arith)

-- ---- shapes

pub share_zero : (high whole : ℕ) → 2 * whole ≤ 16 * high → 16 * high < 7 * whole → share high whole ≡ Zero
share_zero high whole least most = if_true _ _ _ (both _ _ (le-leb (2 * whole) (16 * high) least) (lt-ltb (16 * high) (7 * whole) most))

pub share_one : (high whole : ℕ) → 9 * whole < 16 * high → 16 * high ≤ 14 * whole → share high whole ≡ One
share_one high whole least most =
    if_false _ _ _ (not_second (nat_le (2 * whole) (16 * high)) (nat_lt (16 * high) (7 * whole)) (le-ltb (16 * high) (7 * whole) (omega arith)))
    ∙ if_true _ _ _ (both _ _ (lt-ltb (9 * whole) (16 * high) least) (le-leb (16 * high) (14 * whole) most))

pub lone : (unit high whole : ℕ) → high ≤ 16 * unit → 11 * unit < whole → whole < 21 * unit → is_lone unit high whole ≡ true
lone unit high whole short least most =
    both _ _ (both _ _ (le-leb high (16 * unit) short) (lt-ltb (11 * unit) whole least)) (lt-ltb whole (21 * unit) most)

pub high_for_long : (unit high whole : ℕ) → 16 * unit < high → is_lone unit high whole ≡ false
high_for_long unit high whole long = not_first _ _ (not_first (nat_le high (16 * unit)) (nat_lt (11 * unit) whole) (lt-leb high (16 * unit) long))

pub whole_is_long : (unit high whole : ℕ) → 21 * unit ≤ whole → is_lone unit high whole ≡ false
whole_is_long unit high whole long =
    not_second (nat_le high (16 * unit) && nat_lt (11 * unit) whole) (nat_lt whole (21 * unit)) (le-ltb whole (21 * unit) long)

-- by the low behind it
pub shape_by_low : (unit high tail low : ℕ) → is_lone unit high (high + low) ≡ false → low < 14 * unit
    → shape_of unit high tail low ≡ share (16 * unit - low) (16 * unit)
shape_by_low unit high tail low apart short = if_false _ _ _ apart ∙ if_true _ _ _ (lt-ltb low (14 * unit) short)

pub shape_whole : (unit high tail low : ℕ) → is_lone unit high (high + low) ≡ false → 14 * unit ≤ low → 14 * unit < tail
    → shape_of unit high tail low ≡ Whole
shape_whole unit high tail low apart long most =
    if_false _ _ _ apart ∙ (if_false _ _ _ (le-ltb low (14 * unit) long) ∙ if_true _ _ _ (lt-ltb (14 * unit) tail most))

pub shape_by_tail : (unit high tail low : ℕ) → is_lone unit high (high + low) ≡ false → 14 * unit ≤ low → tail ≤ 14 * unit
    → shape_of unit high tail low ≡ share tail (16 * unit)
shape_by_tail unit high tail low apart long most =
    if_false _ _ _ apart ∙ (if_false _ _ _ (le-ltb low (14 * unit) long) ∙ if_false _ _ _ (le-ltb (14 * unit) tail most))

-- ---- the bytes of a stretch of S1 low

pub bytes_apart : (unit high tail low k : ℕ) (s2 : Bool) (shape : Shape) → is_lone unit high (high + low) ≡ false
    → shape_of unit high tail low ≡ shape → periods_off unit low ≡ k
    → stretch_bytes unit (Some s2) high tail low ≡ byte_of_shape shape s2 ∷ replicate k 0
bytes_apart unit high tail low k s2 shape apart is off =
    ap (λ b. byte_of_shape (shape_of unit high tail low) s2 ∷ cond b [] (replicate (periods_off unit low) 0)) apart
    ∙ (ap (λ s. byte_of_shape s s2 ∷ replicate (periods_off unit low) 0) is
    ∙ ap (λ n. byte_of_shape shape s2 ∷ replicate n 0) off)

pub bytes_lone : (unit high tail low : ℕ) (s2 : Bool) (shape : Shape) → is_lone unit high (high + low) ≡ true
    → share high (high + low) ≡ shape
    → stretch_bytes unit (Some s2) high tail low ≡ byte_of_shape shape s2 ∷ []
bytes_lone unit high tail low s2 shape alone is =
    ap (λ b. byte_of_shape (shape_of unit high tail low) s2 ∷ cond b [] (replicate (periods_off unit low) 0)) alone
    ∙ ap (λ s. byte_of_shape s s2 ∷ []) (if_true _ _ _ alone ∙ is)
