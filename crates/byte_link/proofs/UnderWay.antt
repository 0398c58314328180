-- Bytes with which no unit ends.
use Rattle.std.proofs.Common.{◌≡◌, ◌∙◌, ℕ, suc, ◌+◌, ◌-◌, ◌*◌, ◌≤◌, ◌<◌, true, false, List, [], ◌∷◌, ◌++◌, length, reverse, take, drop, refl, sym, ap, subst}
use Rattle.std.proofs.Common.{zero, get_or, inl, inr, arith, append-nil, append_assoc, length-append, length-take, take-add, take-append-drop}
use Rattle.std.specs.Prelude.{◌==◌, filter, Option, Some, None, IfSome}
use Rattle.std.proofs.lemmas.Bool.{ne_eqb, eqb-true, le-leb, lt-leb, cases_lt, true≢false}
use Rattle.std.proofs.lemmas.List.{reverse-append}
use Rattle.byte_link.specs.declared.unit.Unit.TheVariants.{Nothing, Frame}
use Rattle.byte_link.specs.declared.link.ByteLink.{ByteLink}
use Rattle.byte_link.specs.Units.{is_whole, checked, unit_said, BeginsWithUnit}
use Rattle.byte_link.specs.Reading.{emptied, unit_under_way, unit_given, units_given, says_something}
use Rattle.byte_link.specs.Written.{units_behind}
use Rattle.byte_link.specs.Kept.{IsPartial, IsLost, ByteLinkStandsFor}
use Rattle.byte_link.proofs.ReadAgain.{skip, kept, came, unit_is_read, said_rest}

-- ---- a part of a unit

two_say : (h m count : ℕ) → 256 * h + m ≡ count → 0 < count → count ≤ 30 → (unit_said (h ∷ m ∷ []) ≡ Nothing) × (is_whole (h ∷ m ∷ []) ≡ false)
two_say h m count same low high = (
  rw (same, ne_eqb count 0 (λ z. absurd (omega (arith, z))), le-leb count 30 high) refl,
  rw (same, ne_eqb count 0 (λ z. absurd (omega (arith, z))), le-leb count 30 high, ne_eqb 0 (count + 2) (λ z. absurd (omega (arith, z)))) refl,
)

more_say : (h m x count : ℕ) (q : List ℕ) → 256 * h + m ≡ count → 0 < count → count ≤ 30 → suc (length q) < count + 2
    → (unit_said (h ∷ m ∷ x ∷ q) ≡ Nothing) × (is_whole (h ∷ m ∷ x ∷ q) ≡ false)
more_say h m x count q same low high short = (
  rw (
    same,
    ne_eqb count 0 (λ z. absurd (omega (arith, z))),
    le-leb count 30 high,
    ne_eqb (suc (length q)) (count + 2) (λ z. absurd (omega (arith, z, short))),
  ) refl,
  rw (
    same,
    ne_eqb count 0 (λ z. absurd (omega (arith, z))),
    le-leb count 30 high,
    ne_eqb (suc (length q)) (count + 2) (λ z. absurd (omega (arith, z, short))),
  ) refl,
)

part_says : (q : List ℕ) → IsPartial q → (unit_said q ≡ Nothing) × (is_whole q ≡ false)
part_says [] p = (refl, refl)
part_says (h ∷ []) p = (refl, refl)
part_says (h ∷ m ∷ []) p = two_say h m (256 * h + m) refl p.0 p.1
part_says (h ∷ m ∷ x ∷ q) p = more_say h m x (256 * h + m) q refl p.0 p.1 p.2

front_of_part : (q r : List ℕ) → IsPartial (q ++ r) → IsPartial q
front_of_part [] r p = tt
front_of_part (h ∷ []) r p = tt
front_of_part (h ∷ m ∷ q) r p = (p.0, p.1, omega (arith, p.2, length-append q r))

onto : (b : ℕ) (bytes seen : List ℕ) → reverse (b ∷ bytes) ++ seen ≡ reverse bytes ++ (b ∷ seen)
onto b bytes seen = ap (λ xs. xs ++ seen) (reverse-append (b ∷ []) bytes) ∙ append_assoc (reverse bytes) (b ∷ []) seen

-- bytes that are still less than a unit with those under way
goes_on : (bytes seen q : List ℕ) → unit_under_way seen ≡ q → IsPartial (q ++ bytes)
    → (units_behind seen bytes ≡ []) × (unit_under_way (reverse bytes ++ seen) ≡ q ++ bytes)
goes_on [] seen q is p = (refl, is ∙ sym (append-nil q))
goes_on (b ∷ bytes) seen q is p =
    let whole : (q ++ b ∷ []) ++ bytes ≡ q ++ b ∷ bytes = append_assoc q (b ∷ []) bytes in
    let parts : IsPartial ((q ++ b ∷ []) ++ bytes) = subst IsPartial (sym whole) p in
    let now = part_says (q ++ b ∷ []) (front_of_part (q ++ b ∷ []) bytes parts) in
    let further = goes_on bytes (b ∷ seen) (q ++ b ∷ []) (ap (λ xs. emptied (xs ++ b ∷ [])) is ∙ kept (q ++ b ∷ []) now.1) parts in (
      skip (unit_given (b ∷ seen)) (units_given (b ∷ seen) bytes) (ap (λ xs. unit_said (xs ++ b ∷ [])) is ∙ now.0) ∙ further.0,
      ap unit_under_way (onto b bytes seen) ∙ (further.1 ∙ whole),
    )

-- ---- nothing is read any more

lost_more : (h m x count : ℕ) (q : List ℕ) → 256 * h + m ≡ count → 30 < count
    → (unit_said (h ∷ m ∷ x ∷ q) ≡ Nothing) × (is_whole (h ∷ m ∷ x ∷ q) ≡ false)
lost_more h m x count q same over = (
  rw (same, ne_eqb count 0 (λ z. absurd (omega (arith, z))), lt-leb count 30 over) refl,
  rw (same, ne_eqb count 0 (λ z. absurd (omega (arith, z))), lt-leb count 30 over) refl,
)

lost_says : (q : List ℕ) (b : ℕ) → IsLost q → (unit_said (q ++ b ∷ []) ≡ Nothing) × (is_whole (q ++ b ∷ []) ≡ false)
lost_says [] b over = absurd over
lost_says (h ∷ []) b over = absurd over
lost_says (h ∷ m ∷ []) b over = lost_more h m b (256 * h + m) [] refl over
lost_says (h ∷ m ∷ x ∷ q) b over = lost_more h m x (256 * h + m) (q ++ b ∷ []) refl over

lost_still : (q : List ℕ) (b : ℕ) → IsLost q → IsLost (q ++ b ∷ [])
lost_still [] b over = absurd over
lost_still (h ∷ []) b over = absurd over
lost_still (h ∷ m ∷ q) b over = over

all_lost : (bytes seen : List ℕ) → IsLost (unit_under_way seen) → (units_behind seen bytes ≡ []) × IsLost (unit_under_way (reverse bytes ++ seen))
all_lost [] seen over = (refl, over)
all_lost (b ∷ bytes) seen over =
    let now = lost_says (unit_under_way seen) b over in
    let further = all_lost bytes (b ∷ seen) (subst IsLost (sym (grind arith)) (lost_still (unit_under_way seen) b over)) in (
      skip (unit_given (b ∷ seen)) (units_given (b ∷ seen) bytes) now.0 ∙ further.0,
      subst (λ came. IsLost (unit_under_way came)) (sym (onto b bytes seen)) further.1,
    )

-- ---- how many bytes come before the last one

short_of : (h m count : ℕ) (rest : List ℕ) → 256 * h + m ≡ count → 0 < count → count ≤ 30 → IsPartial (h ∷ m ∷ take (count + 1) rest)
short_of h m count rest same low high = (omega (arith, same, low), omega (arith, same, high), omega (arith, same, length-take (count + 1) rest))

pub before_last : (h m count : ℕ) (rest : List ℕ) → 256 * h + m ≡ count → 0 < count → count ≤ 30 → IsPartial (take (count + 3) (h ∷ m ∷ rest))
before_last h m count rest same low high =
    let more : suc (suc (count + 1)) ≡ count + 3 = omega arith in
    subst (λ k. IsPartial (take k (h ∷ m ∷ rest))) more (short_of h m count rest same low high)

none_of : (bytes : List ℕ) (k : ℕ) → k ≡ 0 → take k bytes ≡ []
none_of bytes k none = ap (λ n. take n bytes) none

pub none_there : (unit : List ℕ) → (length unit == 0) ≡ true → unit ≡ []
none_there [] is = refl
none_there (byte ∷ unit) is = absurd (omega (arith, eqb-true (length (byte ∷ unit)) 0 is))

-- some of the bytes before the last one, behind those under way
pub still_partial : (unit bytes : List ℕ) (before few : ℕ) → IsPartial unit → IsPartial (take before (unit ++ bytes)) → few ≤ before - length unit
    → IsPartial (unit ++ take few bytes)
still_partial unit bytes before few partial all within = elim (cases_lt (length unit) before) [
  | inl longer ↦ longer_one longer
  | inr over ↦
      subst IsPartial (sym (ap (λ xs. unit ++ xs) (none_of bytes few (omega (arith, over, within))) ∙ append-nil unit)) partial
]
  where
    longer_one : length unit < before → IsPartial (unit ++ take few bytes)
    longer_one longer =
        let is : take before (unit ++ bytes) ≡ (unit ++ take few bytes) ++ take (before - length unit - few) (drop few bytes) =
        ap (λ n. take n (unit ++ bytes)) (omega (arith, longer, within))
        ∙ (take_behind unit bytes (few + (before - length unit - few))
        ∙ (ap (λ xs. unit ++ xs) (take-add few (before - length unit - few) bytes)
        ∙ sym (append_assoc unit (take few bytes) (take (before - length unit - few) (drop few bytes))))) in
        front_of_part (unit ++ take few bytes) (take (before - length unit - few) (drop few bytes)) (subst IsPartial is all)
      where
        take_behind : (xs ys : List ℕ) (n : ℕ) → take (length xs + n) (xs ++ ys) ≡ xs ++ take n ys
        take_behind [] ys n = ap (λ k. take k ys) (no_more n)
          where
            no_more : (n : ℕ) → 0 + n ≡ n
            no_more n = omega arith
        take_behind (x ∷ xs) ys n = ap (λ k. take k (x ∷ (xs ++ ys))) (one_more (length xs) n) ∙ ap (λ zs. x ∷ zs) (take_behind xs ys n)
          where
            one_more : (l n : ℕ) → suc l + n ≡ suc (l + n)
            one_more l n = omega arith

-- ---- the reader

-- it stands for bytes behind others with which no unit ends
pub stands_on : (old new : ByteLink) (seen bytes : List ℕ) → old.lost ≡ false → new.lost ≡ old.lost → new.unit.items ≡ old.unit.items ++ bytes
    → IsPartial (old.unit.items ++ bytes) → ByteLinkStandsFor old seen → ByteLinkStandsFor new (reverse bytes ++ seen)
stands_on old new seen bytes reads same is partial stands =
    let on = (goes_on bytes seen old.unit.items (sym (stands.same reads)) partial).1 in
    record {
      lost = λ lost. absurd (true≢false (sym lost ∙ (same ∙ reads)));
      same = λ _. is ∙ sym on;
      partial = λ _. subst IsPartial (sym on) partial;
    }

pub quiet_on : (old : ByteLink) (seen bytes : List ℕ) → old.lost ≡ false → IsPartial (old.unit.items ++ bytes) → ByteLinkStandsFor old seen
    → units_behind seen bytes ≡ []
quiet_on old seen bytes reads partial stands = (goes_on bytes seen old.unit.items (sym (stands.same reads)) partial).0

pub partial_there : (old : ByteLink) (seen : List ℕ) → old.lost ≡ false → ByteLinkStandsFor old seen → IsPartial old.unit.items
partial_there old seen reads stands = subst IsPartial (sym (stands.same reads)) (stands.partial reads)

-- it stands for any bytes where nothing is read any more
pub stands_lost : (link : ByteLink) (seen bytes : List ℕ) → link.lost ≡ true → ByteLinkStandsFor link seen → ByteLinkStandsFor link (reverse bytes ++ seen)
stands_lost link seen bytes lost stands = record {
  lost = λ _. (all_lost bytes seen (stands.lost lost)).1;
  same = λ reads. absurd (true≢false (sym lost ∙ reads));
  partial = λ reads. absurd (true≢false (sym lost ∙ reads));
}

pub quiet_lost : (link : ByteLink) (seen bytes : List ℕ) → link.lost ≡ true → ByteLinkStandsFor link seen → units_behind seen bytes ≡ []
quiet_lost link seen bytes lost stands = (all_lost bytes seen (stands.lost lost)).0

-- ---- a whole unit at once

came_is : (bytes seen : List ℕ) → came seen bytes ≡ reverse bytes ++ seen
came_is [] seen = refl
came_is (b ∷ bytes) seen = came_is bytes (b ∷ seen) ∙ sym (onto b bytes seen)

unit_read : (seen rest lpdu : List ℕ) → unit_under_way seen ≡ [] → 0 < length lpdu → length lpdu ≤ 30 → length rest ≡ length lpdu + 2
    → checked rest ≡ Frame lpdu
    → (units_behind seen (0 ∷ length lpdu ∷ rest) ≡ Frame lpdu ∷ []) × (unit_under_way (reverse (0 ∷ length lpdu ∷ rest) ++ seen) ≡ [])
unit_read seen rest lpdu is low high long said =
    let unit = 0 ∷ length lpdu ∷ rest in
    let read = unit_is_read seen unit [] is (inr (record {
      count = length lpdu;
      rest = rest;
      spelled = refl;
      some = low;
      most = high;
      long = long;
    })) in (
      ap (λ b. filter says_something (units_given seen b)) (sym (append-nil unit))
          ∙ (read.0 ∙ ap (λ u. u ∷ []) (said_rest (length lpdu) rest low high long ∙ said)),
      ap unit_under_way (sym (came_is unit seen)) ∙ read.1,
    )

front_is : (bytes lpdu : List ℕ) → (u : BeginsWithUnit bytes lpdu) → take (length lpdu + 4) bytes ≡ 0 ∷ length lpdu ∷ u.rest
front_is bytes lpdu u =
    let more : length lpdu + 4 ≡ suc (suc (length u.rest)) = omega (arith, u.long) in
    ap (λ xs. take (length lpdu + 4) xs) u.front
    ∙ ap (λ n. take n (0 ∷ length lpdu ∷ u.rest ++ u.later)) more
    ∙ ap (λ xs. 0 ∷ length lpdu ∷ xs) (take_front u.rest u.later)
  where
    take_front : (xs ys : List ℕ) → take (length xs) (xs ++ ys) ≡ xs
    take_front [] ys = none_of ys 0 refl
    take_front (x ∷ xs) ys = ap (λ zs. x ∷ zs) (take_front xs ys)

pub for_some : {X : Type 0} {P Q : X → Type 0} (o : Option X) → ((x : X) → P x → Q x) → IfSome o P → IfSome o Q
for_some None f none = none
for_some (Some x) f some = f x some

pub whole_stands : (link : ByteLink) (bytes lpdu seen : List ℕ) → link.lost ≡ false → link.unit.items ≡ [] → BeginsWithUnit bytes lpdu
    → ByteLinkStandsFor link seen → ByteLinkStandsFor link (reverse (take (length lpdu + 4) bytes) ++ seen)
whole_stands link bytes lpdu seen reads empty u stands =
    let read = unit_read seen u.rest lpdu (sym (stands.same reads) ∙ empty) u.sized.0 u.sized.1 u.long u.said in
    let behind : unit_under_way (reverse (take (length lpdu + 4) bytes) ++ seen) ≡ [] =
    ap (λ xs. unit_under_way (reverse xs ++ seen)) (front_is bytes lpdu u) ∙ read.1 in
    record {
      lost = λ lost. absurd (true≢false (sym lost ∙ reads));
      same = λ _. empty ∙ sym behind;
      partial = λ _. subst IsPartial (sym behind) tt;
    }

pub whole_gives : (link : ByteLink) (bytes lpdu seen : List ℕ) → link.lost ≡ false → link.unit.items ≡ [] → BeginsWithUnit bytes lpdu
    → ByteLinkStandsFor link seen → units_behind seen (take (length lpdu + 4) bytes) ≡ Frame lpdu ∷ []
whole_gives link bytes lpdu seen reads empty u stands =
    ap (units_behind seen) (front_is bytes lpdu u)
    ∙ (unit_read seen u.rest lpdu (sym (stands.same reads) ∙ empty) u.sized.0 u.sized.1 u.long u.said).0

take_whole : (xs : List ℕ) (n : ℕ) → length xs ≤ n → take n xs ≡ xs
take_whole [] zero over = refl
take_whole [] (suc n) over = refl
take_whole (x ∷ xs) zero over = absurd (omega (arith, over))
take_whole (x ∷ xs) (suc n) over = ap (λ ys. x ∷ ys) (take_whole xs n (omega (arith, over)))

-- a unit of which the parts were read
pub first_unit : (bytes lpdu r : List ℕ) (count : ℕ) → 2 ≤ length bytes → r ≡ take (length bytes - 2) (drop 2 bytes) → get_or bytes 0 0 ≡ 0
    → get_or bytes 1 0 ≡ count → 0 < count → count ≤ 30 → count + 2 ≤ length r → checked (take (count + 2) r) ≡ Frame lpdu
    → length lpdu + 2 ≡ length (take (count + 2) r) → BeginsWithUnit bytes lpdu
first_unit [] lpdu r count two is high low some most fits said long = absurd (omega (arith, two))
first_unit (h ∷ []) lpdu r count two is high low some most fits said long = absurd (omega (arith, two))
first_unit (h ∷ m ∷ bytes) lpdu r count two is high low some most fits said long =
    let all : r ≡ bytes = is ∙ take_whole bytes (length (h ∷ m ∷ bytes) - 2) (omega arith) in
    let same : count ≡ length lpdu = omega (arith, long, length-take (count + 2) r, fits) in
    record {
      rest = take (count + 2) r;
      later = drop (count + 2) r;
      front =
          ap (λ x. x ∷ m ∷ bytes) high
          ∙ ap (λ x. 0 ∷ x ∷ bytes) (low ∙ same)
          ∙ ap (λ xs. 0 ∷ length lpdu ∷ xs) (sym all ∙ sym (take-append-drop (count + 2) r));
      long = sym long;
      said = said;
      sized = (omega (arith, same, some), omega (arith, same, most));
    }
