-- What is written as a unit is read again as the same LPDU.
use Rattle.std.proofs.Common.{◌≡◌, ℕ, suc, ◌+◌, ◌-◌, ◌*◌, ◌/◌, ◌%◌, ◌≤◌, ◌<◌, true, false, List, [], ◌∷◌, ◌++◌, length, take, get_or, cond, refl, sym, ap}
use Rattle.std.proofs.Common.{◌∙◌, subst, inl, inr, arith, append-nil, length-append, append_assoc}
use Rattle.std.proofs.lemmas.Bool.{eq-eqb, ne_eqb, le-leb}
use Rattle.std.specs.Prelude.{Bool, filter, map}
use Rattle.std.specs.List.{AllByRecursion, concat}
use Rattle.swp_base.specs.declared.link_terms.FrameFault.TheVariants.{Crc}
use Rattle.byte_link.specs.Written.{IsUnit, units_behind}
use Rattle.swp_base.specs.DataUnits.{IsLpdu}
use Rattle.swp_crc.specs.Crc.{crc_of}
use Rattle.byte_link.specs.declared.unit.Unit.{Unit}
use Rattle.byte_link.specs.declared.unit.Unit.TheVariants.{Nothing, Tick, Frame, Refused}
use Rattle.byte_link.specs.Units.{unit_of, is_whole, checked, unit_said}
use Rattle.byte_link.specs.Reading.{emptied, unit_under_way, unit_given, units_given, says_something, units}
use Rattle.swp_base.proofs.TailLemmas.{in_front_of_two, first_of_two, second_of_two}

-- a part of a unit of this length and these bytes
part : (count : ℕ) (bytes q r : List ℕ) → 0 < count → count ≤ 30 → length bytes ≡ count + 2 → q ++ r ≡ 0 ∷ count ∷ bytes → 0 < length r
    → (unit_said q ≡ Nothing) × (is_whole q ≡ false)
part count bytes [] r low high l e more = (refl, refl)
part count bytes (h ∷ []) r low high l e more = (refl, refl)
part count bytes (h ∷ m ∷ []) r low high l e more =
    let top : h ≡ 0 = cc in
    let next : m ≡ count = cc in
    let same : 256 * h + m ≡ count = omega (arith, top, next) in (
      rw (same, ne_eqb count 0 (λ z. absurd (omega (arith, z))), le-leb count 30 high) refl,
      rw (same, ne_eqb count 0 (λ z. absurd (omega (arith, z))), le-leb count 30 high, ne_eqb 0 (count + 2) (λ z. absurd (omega (arith, z)))) refl,
    )
part count bytes (h ∷ m ∷ x ∷ q) r low high l e more =
    let top : h ≡ 0 = cc in
    let next : m ≡ count = cc in
    let body : (x ∷ q) ++ r ≡ bytes = cc in
    let short : suc (length q) < count + 2 = omega (arith, ap length body, length-append (x ∷ q) r) in
    let same : 256 * h + m ≡ count = omega (arith, top, next) in (
      rw (
        same,
        ne_eqb count 0 (λ z. absurd (omega (arith, z))),
        le-leb count 30 high,
        ne_eqb (suc (length q)) (count + 2)
            (λ z. absurd (omega (arith, z, short))),
      ) refl,
      rw (
        same,
        ne_eqb count 0 (λ z. absurd (omega (arith, z))),
        le-leb count 30 high,
        ne_eqb (suc (length q)) (count + 2)
            (λ z. absurd (omega (arith, z, short))),
      ) refl,
    )

-- a byte with which nothing ends
pub skip : (u : Unit) (us : List Unit) → u ≡ Nothing → filter says_something (u ∷ us) ≡ filter says_something us
skip u us e = rw e refl

pub kept : (bytes : List ℕ) → is_whole bytes ≡ false → emptied bytes ≡ bytes
kept bytes e = rw e refl

-- bytes that came one after another behind others, the newest first
abbrev pub came : List ℕ → List ℕ → List ℕ
came seen [] = seen
came seen (b ∷ bytes) = came (b ∷ seen) bytes

-- the bytes of a unit of this length, of which p came already
record IsUnderWay (count : ℕ) (bytes seen p rest : List ℕ) : Type 0 where
  some : 0 < count
  most : count ≤ 30
  long : length bytes ≡ count + 2
  front : unit_under_way seen ≡ p
  whole : p ++ rest ≡ 0 ∷ count ∷ bytes
  more : 0 < length rest

is_unit : (count x : ℕ) (bytes : List ℕ) → 0 < count → count ≤ 30 → suc (length bytes) ≡ count + 2 → is_whole (0 ∷ count ∷ x ∷ bytes) ≡ true
is_unit count x bytes low high long =
    let same : 256 * 0 + count ≡ count = omega arith in
    rw (same, ne_eqb count 0 (λ z. absurd (omega (arith, z))), le-leb count 30 high, eq-eqb (suc (length bytes)) (count + 2) long) refl

empties : (bytes : List ℕ) → is_whole bytes ≡ true → emptied bytes ≡ []
empties bytes e = rw e refl

unit_empties : (count : ℕ) (bytes : List ℕ) → 0 < count → count ≤ 30 → length bytes ≡ count + 2 → emptied (0 ∷ count ∷ bytes) ≡ []
unit_empties count [] low high long = absurd (omega (arith, long))
unit_empties count (x ∷ bytes) low high long = empties (0 ∷ count ∷ x ∷ bytes) (is_unit count x bytes low high long)

-- the rest of a unit gives what it says at its last byte, and then nothing is under way
reads : (count : ℕ) (bytes seen p rest later : List ℕ) → IsUnderWay count bytes seen p rest → says_something (unit_said (0 ∷ count ∷ bytes)) ≡ true
    → (filter says_something (units_given seen (rest ++ later)) ≡ unit_said (0 ∷ count ∷ bytes) ∷ filter says_something (units_given (came seen rest) later))
    × (unit_under_way (came seen rest) ≡ [])
reads count bytes seen p [] later u says = absurd (omega (arith, u.more))
reads count bytes seen p (b ∷ []) later u says =
    let last : unit_under_way seen ++ b ∷ [] ≡ 0 ∷ count ∷ bytes = ap (λ xs. xs ++ b ∷ []) u.front ∙ u.whole in (
      (grind arith),
      ap emptied last ∙ unit_empties count bytes u.some u.most u.long,
    )
reads count bytes seen p (b ∷ c ∷ rest) later u says =
    let whole : (p ++ b ∷ []) ++ c ∷ rest ≡ 0 ∷ count ∷ bytes = append_assoc p (b ∷ []) (c ∷ rest) ∙ u.whole in
    let next = part count bytes (p ++ b ∷ []) (c ∷ rest) u.some u.most u.long whole (omega arith) in
    let further = reads count bytes (b ∷ seen) (p ++ b ∷ []) (c ∷ rest) later (record {
      some = u.some;
      most = u.most;
      long = u.long;
      front = ap (λ xs. emptied (xs ++ b ∷ [])) u.front ∙ kept (p ++ b ∷ []) next.1;
      whole = whole;
      more = omega arith;
    }) says in
    (skip (unit_given (b ∷ seen)) (units_given (b ∷ seen) (c ∷ rest ++ later)) (ap (λ xs. unit_said (xs ++ b ∷ [])) u.front ∙ next.0) ∙ further.0, further.1)

tail_length : (lpdu : List ℕ) (high low : ℕ) → length (lpdu ++ high ∷ low ∷ []) ≡ length lpdu + 2
tail_length lpdu high low = length-append lpdu (high ∷ low ∷ [])

checked_again : (lpdu : List ℕ) (crc : ℕ) → crc ≡ crc_of lpdu → checked (lpdu ++ crc / 256 ∷ crc % 256 ∷ []) ≡ Frame lpdu
checked_again lpdu crc is = (rw (← (is ∙ ap crc_of (sym body)), ← value, eq-eqb crc crc refl) refl) ∙ ap Frame body
  where
    long : length (lpdu ++ crc / 256 ∷ crc % 256 ∷ []) ≡ length lpdu + 2
    long = tail_length lpdu (crc / 256) (crc % 256)

    place : length (lpdu ++ crc / 256 ∷ crc % 256 ∷ []) - 2 ≡ length lpdu
    place = omega (arith, long)

    last : length (lpdu ++ crc / 256 ∷ crc % 256 ∷ []) - 1 ≡ suc (length lpdu)
    last = omega (arith, long)

    body : take (length (lpdu ++ crc / 256 ∷ crc % 256 ∷ []) - 2) (lpdu ++ crc / 256 ∷ crc % 256 ∷ []) ≡ lpdu
    body = ap (λ n. take n (lpdu ++ crc / 256 ∷ crc % 256 ∷ [])) place ∙ in_front_of_two lpdu (crc / 256) (crc % 256)

    first : get_or (lpdu ++ crc / 256 ∷ crc % 256 ∷ []) (length (lpdu ++ crc / 256 ∷ crc % 256 ∷ []) - 2) 0 ≡ crc / 256
    first = ap (λ n. get_or (lpdu ++ crc / 256 ∷ crc % 256 ∷ []) n 0) place ∙ first_of_two lpdu (crc / 256) (crc % 256)

    second : get_or (lpdu ++ crc / 256 ∷ crc % 256 ∷ []) (length (lpdu ++ crc / 256 ∷ crc % 256 ∷ []) - 1) 0 ≡ crc % 256
    second = ap (λ n. get_or (lpdu ++ crc / 256 ∷ crc % 256 ∷ []) n 0) last ∙ second_of_two lpdu (crc / 256) (crc % 256)

    value : crc ≡ 256 * get_or (lpdu ++ crc / 256 ∷ crc % 256 ∷ []) (length (lpdu ++ crc / 256 ∷ crc % 256 ∷ []) - 2) 0
        + get_or (lpdu ++ crc / 256 ∷ crc % 256 ∷ []) (length (lpdu ++ crc / 256 ∷ crc % 256 ∷ []) - 1) 0
    value = omega (arith, first, second)

said_whole : (h m x count : ℕ) (bytes : List ℕ) → 256 * h + m ≡ count → 0 < count → count ≤ 30 → suc (length bytes) ≡ count + 2
    → unit_said (h ∷ m ∷ x ∷ bytes) ≡ checked (x ∷ bytes)
said_whole h m x count bytes same low high l =
    rw (same, ne_eqb count 0 (λ z. absurd (omega (arith, z))), le-leb count 30 high, eq-eqb (suc (length bytes)) (count + 2) l) refl

whole_unit : (lpdu : List ℕ) → IsLpdu lpdu → unit_said (unit_of lpdu) ≡ Frame lpdu
whole_unit [] h = absurd (omega arith)
whole_unit (x ∷ lpdu) h =
    said_whole 0 (suc (length lpdu)) x (suc (length lpdu)) (lpdu ++ crc_of (x ∷ lpdu) / 256 ∷ crc_of (x ∷ lpdu) % 256 ∷ []) (omega arith) (omega arith) h.1
    (omega (arith, tail_length lpdu (crc_of (x ∷ lpdu) / 256) (crc_of (x ∷ lpdu) % 256)))
    ∙ checked_again (x ∷ lpdu) (crc_of (x ∷ lpdu)) refl

says_checked : (bytes : List ℕ) → says_something (checked bytes) ≡ true
says_checked bytes = grind arith
  where
    by : (b : Bool) (want got : ℕ) → says_something (cond b (Frame (take (length bytes - 2) bytes)) (Refused (Crc want got))) ≡ true
    by true want got = refl
    by false want got = refl

says_unit : (count : ℕ) (bytes : List ℕ) → 0 < count → count ≤ 30 → length bytes ≡ count + 2 → says_something (unit_said (0 ∷ count ∷ bytes)) ≡ true
says_unit count [] low high long = absurd (omega (arith, long))
says_unit count (x ∷ bytes) low high long =
    ap says_something (said_whole 0 count x count bytes (omega arith) low high long) ∙ says_checked (x ∷ bytes)

pub said_rest : (count : ℕ) (bytes : List ℕ) → 0 < count → count ≤ 30 → length bytes ≡ count + 2 → unit_said (0 ∷ count ∷ bytes) ≡ checked bytes
said_rest count [] low high long = absurd (omega (arith, long))
said_rest count (x ∷ bytes) low high long = said_whole 0 count x count bytes (omega arith) low high long

-- a unit gives what it says, and then nothing is under way
pub unit_is_read : (seen bytes later : List ℕ) → unit_under_way seen ≡ [] → IsUnit bytes
    → (filter says_something (units_given seen (bytes ++ later)) ≡ unit_said bytes ∷ filter says_something (units_given (came seen bytes) later))
    × (unit_under_way (came seen bytes) ≡ [])
unit_is_read seen bytes later is (inl tick) =
    subst (λ b. (filter says_something (units_given seen (b ++ later)) ≡ unit_said b ∷ filter says_something (units_given (came seen b) later))
    × (unit_under_way (came seen b) ≡ []))
    (sym tick) (tick_is_read seen later is)
  where
    tick_is_read : (seen later : List ℕ) → unit_under_way seen ≡ []
        → (filter says_something (units_given seen (0 ∷ 0 ∷ later)) ≡ Tick ∷ filter says_something (units_given (0 ∷ 0 ∷ seen) later))
        × (unit_under_way (0 ∷ 0 ∷ seen) ≡ [])
    tick_is_read seen later is = (rw is refl, rw is refl)
unit_is_read seen bytes later is (inr u) =
    subst (λ b. (filter says_something (units_given seen (b ++ later)) ≡ unit_said b ∷ filter says_something (units_given (came seen b) later))
    × (unit_under_way (came seen b) ≡ []))
    (sym u.spelled) (reads u.count u.rest seen [] (0 ∷ u.count ∷ u.rest) later (record {
      some = u.some;
      most = u.most;
      long = u.long;
      front = is;
      whole = refl;
      more = omega arith;
    }) (says_unit u.count u.rest u.some u.most u.long))

pub all_are_read : (seen : List ℕ) (written : List (List ℕ)) → unit_under_way seen ≡ [] → AllByRecursion IsUnit written
    → units_behind seen (concat written) ≡ map unit_said written
all_are_read seen [] is all = refl
all_are_read seen (bytes ∷ written) is all =
    let first = unit_is_read seen bytes (concat written) is all.0 in
    first.0 ∙ ap (λ us. unit_said bytes ∷ us) (all_are_read (came seen bytes) written first.1 all.1)

unit_of_lpdu : (lpdu : List ℕ) → IsLpdu lpdu → IsUnit (unit_of lpdu)
unit_of_lpdu lpdu h = inr (record {
  count = length lpdu;
  rest = lpdu ++ crc_of lpdu / 256 ∷ crc_of lpdu % 256 ∷ [];
  spelled = refl;
  some = h.0;
  most = h.1;
  long = tail_length lpdu (crc_of lpdu / 256) (crc_of lpdu % 256);
})

units_of_lpdus : (lpdus : List (List ℕ)) → AllByRecursion IsLpdu lpdus → AllByRecursion IsUnit (map unit_of lpdus)
units_of_lpdus [] all = tt
units_of_lpdus (lpdu ∷ lpdus) all = (unit_of_lpdu lpdu all.0, units_of_lpdus lpdus all.1)

said_of_lpdus : (lpdus : List (List ℕ)) → AllByRecursion IsLpdu lpdus → map unit_said (map unit_of lpdus) ≡ map Frame lpdus
said_of_lpdus [] all = refl
said_of_lpdus (lpdu ∷ lpdus) all = cong (whole_unit lpdu all.0) (said_of_lpdus lpdus all.1)
  where
    cong : {x y : Unit} {xs ys : List Unit} → x ≡ y → xs ≡ ys → x ∷ xs ≡ y ∷ ys
    cong {x} {y} {xs} {ys} first others = ap (λ u. u ∷ xs) first ∙ ap (λ us. y ∷ us) others

pub lpdus_are_read : (lpdus : List (List ℕ)) → AllByRecursion IsLpdu lpdus → units (concat (map unit_of lpdus)) ≡ map Frame lpdus
lpdus_are_read lpdus all = all_are_read [] (map unit_of lpdus) refl (units_of_lpdus lpdus all) ∙ said_of_lpdus lpdus all

pub read_again : (lpdu : List ℕ) → IsLpdu lpdu → units (unit_of lpdu) ≡ Frame lpdu ∷ []
read_again lpdu h = ap units (sym (append-nil (unit_of lpdu))) ∙ lpdus_are_read (lpdu ∷ []) (h, tt)
