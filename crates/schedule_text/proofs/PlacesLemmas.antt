-- Places of bits, word by word.
use Rattle.schedule_text.proofs.Names.{All, Bool, IsStrictlyIncreasing, List, None, Option, Some, [], ap, append-nil, append_assoc, arith, bit_places, le-leb}
use Rattle.schedule_text.proofs.Names.{length, nat_le, number_in, number_value, option_if, option_map, option_map_or, refl, slice_index, slots, subst, suc, sym}
use Rattle.schedule_text.proofs.Names.{zero, ℕ, ◌&&◌, ◌++◌, ◌+◌, ◌<◌, ◌>>=◌, ◌∷◌, ◌≡◌, ◌≤◌}
use Rattle.schedule_text.specs.declared.forms.Kind.TheVariants as kind
use Rattle.schedule_text.proofs.RowsLemmas.{AllFit}

-- the places of these words, behind others
abbrev pub places_behind : List ℕ → List (List ℕ) → Option (List ℕ)
places_behind front ws = option_map (λ more. front ++ more) (bit_places ws)

pub places-none : (front : List ℕ) → places_behind front [] ≡ Some front
places-none front = ap Some (append-nil front)

pub places-wrong : (front word : List ℕ) (ws : List (List ℕ)) → number_in 0 399 word ≡ None → places_behind front (word ∷ ws) ≡ None
places-wrong front word ws h = rw h refl

pub places-more : (front word : List ℕ) (ws : List (List ℕ)) (n : ℕ) → number_in 0 399 word ≡ Some n
    → places_behind front (word ∷ ws) ≡ places_behind (front ++ n ∷ []) ws
places-more front word ws n h = rw h (go (bit_places ws))
  where
    go : (o : Option (List ℕ)) → option_map (λ more. front ++ more) (o >>= (λ more. Some (n ∷ more))) ≡ option_map (λ more. (front ++ n ∷ []) ++ more) o
    go None = refl
    go (Some more) = ap Some (sym (append_assoc front (n ∷ []) more))

-- numbers that rise from one on, up to 399
abbrev pub RiseFrom : ℕ → List ℕ → Type 0
RiseFrom from [] = Unit {0}
RiseFrom from (p ∷ ps) = (from ≤ p) × (p ≤ 399) × RiseFrom (p + 1) ps

in_range : (low high n : ℕ) (o : Option ℕ) → option_if (λ k. nat_le low k && nat_le k high) o ≡ Some n → (o ≡ Some n) × (low ≤ n) × (n ≤ high)
in_range low high n o h = grind arith

-- a number that is read is in its range
pub number-range : (low high n : ℕ) (word : List ℕ) → number_in low high word ≡ Some n → (number_value word ≡ Some n) × (low ≤ n) × (n ≤ high)
number-range low high n word h = in_range low high n (number_value word) h

pub number-in : (low high n : ℕ) (word : List ℕ) → number_value word ≡ Some n → low ≤ n → n ≤ high → number_in low high word ≡ Some n
number-in low high n word e a b = rw (e, le-leb low n a, le-leb n high b) refl

-- words of places are read
pub places-read : (hci : Bool) (hosts : List ℕ) (from : ℕ) (ws : List (List ℕ)) → AllFit hci hosts from (slots (kind.Rising 399 ∷ []) ws)
    → (ps : List ℕ) × (bit_places ws ≡ Some ps) × (length ps ≡ length ws) × RiseFrom from ps
places-read hci hosts from [] h = ([], refl, refl, tt)
places-read hci hosts from (w ∷ ws) h =
    let range = number-range from 399 h.0.0 w h.0.1 in
    let next : option_map_or (λ n. n + 1) (number_in from 399 w) from ≡ h.0.0 + 1 = ap (λ o. option_map_or (λ n. n + 1) o from) h.0.1 in
    let more = places-read hci hosts (h.0.0 + 1) ws (subst (λ n. AllFit hci hosts n (slots (kind.Rising 399 ∷ []) ws)) next h.1) in
    (h.0.0 ∷ more.0, rw (number-in 0 399 h.0.0 w range.0 (omega arith) range.2, more.1) refl, ap suc more.2, (range.1, range.2, more.3))

pub rise-increasing : (from : ℕ) (ps : List ℕ) → RiseFrom from ps → IsStrictlyIncreasing ps
rise-increasing from (p ∷ q ∷ ps) h zero within = let next : p + 1 ≤ q = h.2.0 in omega arith
rise-increasing from (p ∷ q ∷ ps) h (suc k) within =
    let next : suc (k + 1) ≡ suc k + 1 = omega arith in
    subst (λ m. slice_index (q ∷ ps) k < slice_index (p ∷ q ∷ ps) m) next (rise-increasing (p + 1) (q ∷ ps) h.2 k (omega arith))
rise-increasing from ps h k within = absurd (omega arith)

pub rise-below : (from : ℕ) (ps : List ℕ) → RiseFrom from ps → All (λ p. p < 400) ps
rise-below from [] h k d within = absurd (omega arith)
rise-below from (p ∷ ps) h zero d within = let high : p ≤ 399 = h.1 in omega arith
rise-below from (p ∷ ps) h (suc k) d within = rise-below (p + 1) ps h.2 k d (omega arith)
