-- What pairs of hexadecimal digits stand for is what the kit reads of them.
use Rattle.schedule_text.proofs.Names.{IsPair, IsPairs, List, None, Ok, Option, Some, [], ap, append-nil, append_assoc, arith, byte_value, bytes_value, drop}
use Rattle.schedule_text.proofs.Names.{get_or, hex_digit_value, length, refl, result_ok, slice_index, subst, sym, take, take_all, take_more, unwrap_or, ℕ, ◌*◌}
use Rattle.schedule_text.proofs.Names.{◌++◌, ◌+◌, ◌-◌, ◌<◌, ◌∙◌, ◌∷◌, ◌≡◌, ◌≤◌}
use Rattle.hex.specs.Hex.{decode_pairs}
use Rattle.hex.proofs.Pairs.{cons_byte, decode_pairs-ok_pair}
use Rattle.hex.proofs.HexLemmas.{decode_of-even}
use Rattle.schedule_text.proofs.HexLemmas.{no_high, no_low, two_digits}

-- two digits that stand for a byte
pair_of_value : (high low byte : ℕ) → byte_value (high ∷ low ∷ []) ≡ Some byte → IsPair high low byte
pair_of_value high low byte h = go (hex_digit_value high) refl (hex_digit_value low) refl
  where
    go : (x : Option ℕ) → hex_digit_value high ≡ x → (y : Option ℕ) → hex_digit_value low ≡ y → IsPair high low byte
    go None e y f = cc (no_high high low e ∙ h)
    go (Some x) e None f = cc (no_low high low x e f ∙ h)
    go (Some x) e (Some y) f = (x, e, (y, f, ap (λ o. unwrap_or o 0) (two_digits high low x y e f ∙ h)))

-- one behind the other
pub pairs_append : (a x b y : List ℕ) → IsPairs a x → IsPairs b y → IsPairs (a ++ b) (x ++ y)
pairs_append [] [] b y h k = k
pairs_append (c ∷ d ∷ a) (v ∷ x) b y h k = (h.0, pairs_append a x b y h.1 k)
pairs_append a x b y h k = absurd h

-- two digits for each byte
pub pairs_twice : (digits bytes : List ℕ) → IsPairs digits bytes → length digits ≡ 2 * length bytes
pairs_twice [] [] h = refl
pairs_twice (c ∷ d ∷ digits) (v ∷ bytes) h = let more = pairs_twice digits bytes h.1 in omega (arith, more)
pairs_twice digits bytes h = absurd h

-- the kit reads them
pairs_decode : (i : ℕ) (digits bytes : List ℕ) → IsPairs digits bytes → decode_pairs i digits ≡ Ok bytes
unfolding decode_pairs
pairs_decode i [] [] h = refl
pairs_decode i (c ∷ d ∷ digits) (v ∷ bytes) h =
    decode_pairs-ok_pair i c d _ digits (rw (h.0.1, h.0.2.1) refl) ∙ ap (cons_byte (h.0.0 * 16 + h.0.2.0)) (pairs_decode (i + 2) digits bytes h.1)
    ∙ ap (λ (b : ℕ). Ok (b ∷ bytes)) h.0.2.2
pairs_decode i digits bytes h = absurd h

pub pairs_read : (digits bytes : List ℕ) → IsPairs digits bytes → bytes_value digits ≡ Some bytes
pairs_read digits bytes h = ap result_ok (decode_of-even digits (omega (arith, pairs_twice digits bytes h)) ∙ pairs_decode 0 digits bytes h)

-- two digits more
pub pairs_more : (digits bytes : List ℕ) (i : ℕ) (byte : ℕ) → 2 * i + 1 < length digits
    → IsPair (slice_index digits (2 * i)) (slice_index digits (2 * i + 1)) byte
    → IsPairs (take (2 * i) digits) bytes → IsPairs (take (2 * (i + 1)) digits) (bytes ++ byte ∷ [])
pairs_more digits bytes i byte fits pair h =
    let two : 2 * i + 1 + 1 ≡ 2 * (i + 1) = omega arith in
    let cut : take (2 * i) digits ++ (slice_index digits (2 * i) ∷ slice_index digits (2 * i + 1) ∷ []) ≡ take (2 * (i + 1)) digits =
    (rw (take_more digits ((2 * i) + 1) 0 fits, take_more digits (2 * i) 0 (omega arith), append_assoc) refl) ∙ ap (λ n. take n digits) two in
    subst (λ front. IsPairs front (bytes ++ byte ∷ [])) cut
    (pairs_append (take (2 * i) digits) bytes _ (byte ∷ []) h (pair, tt))

-- nothing is left of the digits
pub pairs_all : (front left digits bytes : List ℕ) → front ++ left ≡ digits → length left ≡ 0 → IsPairs front bytes → bytes_value digits ≡ Some bytes
pairs_all front [] digits bytes is none h = pairs_read digits bytes (subst (λ xs. IsPairs xs bytes) (sym (append-nil front) ∙ is) h)
pairs_all front (d ∷ left) digits bytes is none h = absurd (omega (arith, none))

-- one pair behind a front
pub pairs_next : (front left digits bytes : List ℕ) (byte : ℕ) → front ++ left ≡ digits → IsPairs front bytes → 2 ≤ length left
    → byte_value (get_or left 0 0 ∷ get_or left 1 0 ∷ []) ≡ Some byte
    → (x : List ℕ) × ((x ++ take (length left - 2) (drop 2 left) ≡ digits) × IsPairs x (bytes ++ byte ∷ []))
pairs_next front (high ∷ low ∷ more) digits bytes byte is h two read =
    let pair : List ℕ = high ∷ low ∷ [] in
    let all : take (length (high ∷ low ∷ more) - 2) more ≡ more = take_all (length (high ∷ low ∷ more) - 2) more (omega arith) in (
      front ++ pair,
      (
        ap (λ xs. (front ++ pair) ++ xs) all ∙ (append_assoc front pair more ∙ is),
        pairs_append front bytes pair (byte ∷ []) h (pair_of_value high low byte read, tt),
      ),
    )
pairs_next front left digits bytes byte is h two read = absurd (omega (arith, two))
