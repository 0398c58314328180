-- What is read of records in a row.
use Rattle.std.proofs.Common.{◌≡◌, ◌⊎◌, inl, inr, ℕ, zero, suc, ◌+◌, ◌*◌, ◌^◌, ◌<◌, ◌≤◌, Bool, true, false, ◌&&◌, ◌||◌, ◌==◌, ltb, cond, nat_lt, nat_le, List}
use Rattle.std.proofs.Common.{[], ◌∷◌, ◌++◌, length, take, drop, slice_index, slice_range, sym, refl, ap, ap₂, ◌∙◌, subst, arith, append_assoc, length-append}
use Rattle.std.proofs.Common.{length-take, length-drop, take-append-drop, take_at, drop_at, suc-add, zero-add, get_or-take, take-take, w16}
use Rattle.std.specs.List.{AllByRecursion}
use Rattle.std.specs.Int.{from_be_bytes}
use Rattle.std.proofs.lemmas.List.{drop-take}
use Rattle.std.proofs.lemmas.Bool.{cases_Bool, true≢false, lt-ltb}
use Rattle.std.proofs.lemmas.Bool.Decides.{nat_tests}
use Rattle.journal_laws.specs.Banks.{is_opened_gate}
use Rattle.journal_laws.specs.Records.{index_len, gap, body, IsBody, is_good_record, Found, nothing_found, bad, behind, found_from, record_bytes, records_bytes}
use Rattle.journal_laws.specs.Records.{used}

-- ---- one record

-- a part of the first n elements
pub window : (xs ys : List ℕ) (n i k : ℕ) → take n xs ≡ take n ys → i + k ≤ n → take k (drop i xs) ≡ take k (drop i ys)
window xs ys n i k same fits =
    sym (drop-take i k xs)
    ∙ ap (drop i) (sym (take-take (i + k) n xs fits) ∙ ap (take (i + k)) same ∙ take-take (i + k) n ys fits)
    ∙ drop-take i k ys

pub first : (xs ys : List ℕ) (n i : ℕ) → take n xs ≡ take n ys → i < n → slice_index xs i ≡ slice_index ys i
first xs ys n i same below = sym (get_or-take n xs i 0 below) ∙ ap (λ l. slice_index l i) same ∙ get_or-take n ys i 0 below

pub same_gap : (version : ℕ) (xs ys : List ℕ) → take (gap version ys) xs ≡ take (gap version ys) ys → gap version xs ≡ gap version ys
same_gap version xs ys same = ap (λ l. 2 + index_len version + l) (first xs ys (gap version ys) 1 same (omega arith))

pub same_body : (version : ℕ) (xs ys : List ℕ) → take (gap version ys) xs ≡ take (gap version ys) ys → body version xs ≡ body version ys
same_body version xs ys same =
    ap (λ l. take l (drop (2 + index_len version) xs)) (first xs ys (gap version ys) 1 same (omega arith))
    ∙ window xs ys (gap version ys) (2 + index_len version) (slice_index ys 1) same (omega arith)

pub is_good_parts : (version position : ℕ) (bytes : List ℕ) → is_good_record version position bytes ≡ true
    → (1 ≤ slice_index bytes 1) × (gap version bytes < length bytes)
is_good_parts version position bytes good = grind arith

abbrev test : ℕ → Bool → Bool → Bool
test len long index = nat_le 1 len && nat_le len 61 && long && index

abbrev tells : ℕ → ℕ → List ℕ → Bool
tells version position bytes = version == 1 || from_be_bytes w16 (slice_range bytes 2 4) == position

-- a record is good by its own bytes, whatever stands behind them
same_good : (version position : ℕ) (xs ys : List ℕ) → take (gap version ys) xs ≡ take (gap version ys) ys → gap version ys < length xs
    → is_good_record version position ys ≡ true → is_good_record version position xs ≡ true
same_good version position xs ys same fits good =
    let long_xs : nat_lt (gap version xs) (length xs) ≡ true = grind (arith, nat_tests, same_gap version xs ys same) in
    ap (λ len. test len (nat_lt (gap version xs) (length xs)) (tells version position xs)) (first xs ys (gap version ys) 1 same (omega arith))
    ∙ ap (λ long. test (slice_index ys 1) long (tells version position xs)) (long_xs ∙ sym (grind (arith, nat_tests)))
    ∙ ap (test (slice_index ys 1) (nat_lt (gap version ys) (length ys))) (index (cases_Bool (version == 1)))
    ∙ good
  where
    index : (version == 1 ≡ true) ⊎ (version == 1 ≡ false) → tells version position xs ≡ tells version position ys
    index (inl old) = grind arith
    index (inr new) =
        let len : index_len version ≡ 2 = ap (λ b. cond b 0 2) new in
        ap (λ l. version == 1 || from_be_bytes w16 l == position) (window xs ys (gap version ys) 2 2 same (omega arith))

-- what is found where a good record stands
pub found_good : (version most position : ℕ) (bytes : List ℕ) → is_opened_gate (slice_index bytes 0) ≡ true → is_good_record version position bytes ≡ true
    → found_from version (suc most) position bytes
    ≡ behind (body version bytes ∷ []) (gap version bytes) (found_from version most (position + 1) (drop (gap version bytes) bytes))
unfolding found_from
found_good version most position bytes opened good =
    let more = behind (body version bytes ∷ []) (gap version bytes) (found_from version most (position + 1) (drop (gap version bytes) bytes)) in
    ap (λ b. cond b (cond (is_good_record version position bytes) more bad) nothing_found) opened ∙ ap (λ b. cond b more bad) good

-- a good record in front of other bytes
step : (version most position : ℕ) (bytes rest : List ℕ) → is_opened_gate (slice_index bytes 0) ≡ true → is_good_record version position bytes ≡ true
    → 0 < length rest
    → found_from version (suc most) position (take (gap version bytes) bytes ++ rest)
    ≡ behind (body version bytes ∷ []) (gap version bytes) (found_from version most (position + 1) rest)
step version most position bytes rest opened good some =
    let n = gap version bytes in
    let xs = take n bytes ++ rest in
    let within = (is_good_parts version position bytes good).1 in
    let size : length (take n bytes) ≡ n = omega (arith, length-take n bytes) in
    let same : take n xs ≡ take n bytes = take_at (take n bytes) rest n size in
    found_good version most position xs (ap is_opened_gate (first xs bytes n 0 same (omega arith)) ∙ opened)
    (same_good version position xs bytes same (omega (arith, length-append (take n bytes) rest)) good)
    ∙ ap (λ b. behind (b ∷ []) (gap version xs) (found_from version most (position + 1) (drop (gap version xs) xs))) (same_body version xs bytes same)
    ∙ ap (λ m. behind (body version bytes ∷ []) m (found_from version most (position + 1) (drop m xs))) (same_gap version xs bytes same)
    ∙ ap (λ l. behind (body version bytes ∷ []) n (found_from version most (position + 1) l)) (drop_at (take n bytes) rest n size)

-- a closed gate
pub found_closed : (version most position : ℕ) (bytes : List ℕ) → is_opened_gate (slice_index bytes 0) ≡ false
    → found_from version most position bytes ≡ nothing_found
unfolding found_from
found_closed version zero position bytes closed = refl
found_closed version (suc most) position bytes closed =
    ap (λ b. cond b (cond (is_good_record version position bytes) (behind (body version bytes ∷ []) (gap version bytes)
    (found_from version most (position + 1) (drop (gap version bytes) bytes))) bad) nothing_found) closed

-- ---- the records of a bank

-- Bytes in which no bad record was found: the records, and what stands from the closed gate on. Whatever stands there in its
-- place, the same records are found in front of it.
pub record Parts (version position : ℕ) (bytes : List ℕ) (found : Found) : Type 0 where
  pub front : List ℕ
  pub rest : List ℕ
  pub whole : bytes ≡ front ++ rest
  pub size : length front ≡ found.size
  pub some : 0 < length rest
  pub closed : is_opened_gate (slice_index rest 0) ≡ false
  pub few : 3 * length found.bodies ≤ found.size
  pub again : (most : ℕ) (other : List ℕ) → 0 < length other
      → found_from version (length found.bodies + most) position (front ++ other)
      ≡ behind found.bodies found.size (found_from version most (position + length found.bodies) other)

pub behind-none : (found : Found) → behind [] 0 found ≡ found
behind-none found = ap (λ n. record { bodies = found.bodies; size = n; is_bad = found.is_bad }) (zero-add found.size)

-- one record, and then more
pub behind-one : (body : List ℕ) (n : ℕ) (bodies : List (List ℕ)) (size : ℕ) (found : Found)
    → behind (body ∷ []) n (behind bodies size found) ≡ behind (body ∷ bodies) (n + size) found
behind-one body n bodies size found = grind arith

none_found : (version position : ℕ) (bytes : List ℕ) → 0 < length bytes → is_opened_gate (slice_index bytes 0) ≡ false
    → Parts version position bytes nothing_found
none_found version position bytes some closed = grind arith

one_found : (version most position : ℕ) (bytes : List ℕ) (found : Found) → is_opened_gate (slice_index bytes 0) ≡ true
    → is_good_record version position bytes ≡ true
    → Parts version (position + 1) (drop (gap version bytes) bytes) found
    → Parts version position bytes (behind (body version bytes ∷ []) (gap version bytes) found)
one_found version most position bytes found opened good more =
    let n = gap version bytes in
    let within = is_good_parts version position bytes good in
    let size : length (take n bytes) ≡ n = omega (arith, within.1, length-take n bytes) in
    record {
      front = take n bytes ++ more.front;
      rest = more.rest;
      whole = sym (take-append-drop n bytes) ∙ ap (λ l. take n bytes ++ l) more.whole ∙ sym (append_assoc (take n bytes) more.front more.rest);
      size = length-append (take n bytes) more.front ∙ ap₂ (λ a b. a + b) size more.size;
      some = more.some;
      closed = more.closed;
      few = omega (arith, within.0, more.few);
      again = λ most other long.
          ap₂ (λ m l. found_from version m position l) (suc-add (length found.bodies) most) (append_assoc (take n bytes) more.front other)
          ∙ step version (length found.bodies + most) position bytes (more.front ++ other) opened good (omega (arith, length-append more.front other))
          ∙ ap (behind (body version bytes ∷ []) n) (more.again most other long)
          ∙ behind-one (body version bytes) n found.bodies found.size (found_from version most (position + 1 + length found.bodies) other)
          ∙ ap (λ m. behind (body version bytes ∷ found.bodies) (n + found.size) (found_from version most m other)) (omega arith);
    }

-- at an open gate stands a good record or a bad one
pub bad_found : (version most position : ℕ) (bytes : List ℕ) → is_opened_gate (slice_index bytes 0) ≡ true
    → is_good_record version position bytes ≡ false → found_from version (suc most) position bytes ≡ bad
unfolding found_from
bad_found version most position bytes opened wrong =
    let more = behind (body version bytes ∷ []) (gap version bytes) (found_from version most (position + 1) (drop (gap version bytes) bytes)) in
    ap (λ b. cond b (cond (is_good_record version position bytes) more bad) nothing_found) opened ∙ ap (λ b. cond b more bad) wrong

pub parts : (version most position : ℕ) (bytes : List ℕ) → 0 < length bytes → length bytes ≤ most
    → (found_from version most position bytes).is_bad ≡ false → Parts version position bytes (found_from version most position bytes)
parts version zero position bytes some enough good = absurd (omega arith)
parts version (suc most) position bytes some enough good =
    by_gate (parts version most (position + 1) (drop (gap version bytes) bytes)) (cases_Bool (is_opened_gate (slice_index bytes 0)))
  where
    by_record : (0 < length (drop (gap version bytes) bytes) → length (drop (gap version bytes) bytes) ≤ most
        → (found_from version most (position + 1) (drop (gap version bytes) bytes)).is_bad ≡ false
        → Parts version (position + 1) (drop (gap version bytes) bytes) (found_from version most (position + 1) (drop (gap version bytes) bytes)))
        → is_opened_gate (slice_index bytes 0) ≡ true → (is_good_record version position bytes ≡ true) ⊎ (is_good_record version position bytes ≡ false)
        → Parts version position bytes (found_from version (suc most) position bytes)
    by_record more opened (inl right) =
        let n = gap version bytes in
        let within = is_good_parts version position bytes right in
        let is = found_good version most position bytes opened right in
        subst (Parts version position bytes) (sym is)
        (one_found version most position bytes (found_from version most (position + 1) (drop n bytes)) opened right
        (more (omega (arith, within.1, length-drop n bytes)) (omega (arith, within.0, length-drop n bytes)) (sym (ap (λ f. f.is_bad) is) ∙ good)))
    by_record more opened (inr wrong) = absurd (true≢false (sym (ap (λ f. f.is_bad) (bad_found version most position bytes opened wrong)) ∙ good))

    by_gate : (0 < length (drop (gap version bytes) bytes) → length (drop (gap version bytes) bytes) ≤ most
        → (found_from version most (position + 1) (drop (gap version bytes) bytes)).is_bad ≡ false
        → Parts version (position + 1) (drop (gap version bytes) bytes) (found_from version most (position + 1) (drop (gap version bytes) bytes)))
        → (is_opened_gate (slice_index bytes 0) ≡ true) ⊎ (is_opened_gate (slice_index bytes 0) ≡ false)
        → Parts version position bytes (found_from version (suc most) position bytes)
    by_gate more (inl opened) = by_record more opened (cases_Bool (is_good_record version position bytes))
    by_gate more (inr closed) =
        subst (Parts version position bytes) (sym (found_closed version (suc most) position bytes closed)) (none_found version position bytes some closed)

-- ---- records that are written

pub record_is_read : (most position : ℕ) (body rest : List ℕ) → position < 2 ^ 16 → IsBody body → 0 < length rest
    → found_from 2 (suc most) position ((90 ∷ record_bytes position body) ++ rest)
    ≡ behind (body ∷ []) (4 + length body) (found_from 2 most (position + 1) rest)
record_is_read most position body rest low short some =
    let xs = (90 ∷ record_bytes position body) ++ rest in
    let front = 90 ∷ record_bytes position body in
    let fits : ltb (4 + length body) (length xs) ≡ true = lt-ltb (4 + length body) (length xs) (omega (arith, length-append body rest)) in
    found_good 2 most position xs refl (grind arith)
    ∙ ap (λ b. behind (b ∷ []) (4 + length body) (found_from 2 most (position + 1) (drop (4 + length body) xs))) (take_at body rest (length body) refl)
    ∙ ap (λ l. behind (body ∷ []) (4 + length body) (found_from 2 most (position + 1) l)) (drop_at front rest (4 + length body) (omega arith))

pub records_are_read : (most position : ℕ) (bodies : List (List ℕ)) (rest : List ℕ) → position + length bodies ≤ 2 ^ 16 → AllByRecursion IsBody bodies
    → 0 < length rest
    → found_from 2 (length bodies + most) position (records_bytes position bodies ++ rest)
    ≡ behind bodies (length (records_bytes position bodies)) (found_from 2 most (position + length bodies) rest)
records_are_read most position [] rest low short some = grind arith
records_are_read most position (body ∷ bodies) rest low short some =
    let more = records_bytes (position + 1) bodies in
    ap₂ (λ m l. found_from 2 m position l) (suc-add (length bodies) most) (append_assoc (90 ∷ record_bytes position body) more rest)
    ∙ record_is_read (length bodies + most) position body (more ++ rest) (omega arith) short.0 (omega (arith, length-append more rest))
    ∙ ap (behind (body ∷ []) (4 + length body)) (records_are_read most (position + 1) bodies rest (omega arith) short.1 some)
    ∙ behind-one body (4 + length body) bodies (length more) (found_from 2 most (position + 1 + length bodies) rest)
    ∙ ap₂ (λ n m. behind (body ∷ bodies) n (found_from 2 most m rest)) (omega (arith, length-append body more)) (omega arith)

-- how many bytes these records take
pub length-records_bytes : (position : ℕ) (bodies : List (List ℕ)) → length (records_bytes position bodies) ≡ used bodies
length-records_bytes position [] = refl
length-records_bytes position (body ∷ bodies) =
    omega (arith, length-append body (records_bytes (position + 1) bodies), length-records_bytes (position + 1) bodies)

pub few_records : (bodies : List (List ℕ)) → 4 * length bodies ≤ used bodies
few_records [] = omega arith
few_records (body ∷ bodies) = omega (arith, few_records bodies)
