-- What is known of the words of a line without fault: one lemma for each kind of word, and_parts ways.
use Rattle.std.proofs.lemmas.Bool.{leb-true}
use Rattle.std.proofs.lemmas.Slice.Eq.{bytes_eq-Decides}
use Rattle.schedule_text.proofs.Names.{AllByRecursion, Bool, End, FormRow, Kind, LineFault, List, None, Option, Slot, Some, [], and_parts, arith, byte_value}
use Rattle.schedule_text.proofs.Names.{bytes_eq, bytes_value, codes, cond, digits_fault, end_value, false, first_digits_fault, first_host_fault, has_shape}
use Rattle.schedule_text.proofs.Names.{has_third, host_fault, is_some, is_well_formed, le-leb, length, list_all, list_any, not, number_in, option_map}
use Rattle.schedule_text.proofs.Names.{option_or, refl, rising, row_in, slots, sym, true, words_fault, ℕ, ◌&&◌, ◌+◌, ◌<◌, ◌==◌, ◌||◌, ◌∷◌, ◌≡◌, ◌≤◌}
use Rattle.schedule_text.specs.declared.fault.LineFault.TheVariants as fault
use Rattle.schedule_text.specs.declared.forms.Kind.TheVariants as kind
use Rattle.schedule_text.specs.Rules.{no_node}

pub or_none : {A : Type 0} (a b : Option A) → option_or a b ≡ None → (a ≡ None) × (b ≡ None)
or_none a b h = grind arith

map_none : {A B : Type 0} (f : A → B) (o : Option A) → option_map f o ≡ None → o ≡ None
map_none f o h = grind arith

unless_word : (t : Bool) (o : Option LineFault) → cond t o (Some fault.Word) ≡ None → (t ≡ true) × (o ≡ None)
unless_word t o h = grind arith

-- a host of the header
abbrev pub IsKnown : List ℕ → ℕ → Type 0
IsKnown hosts h = list_any (λ host. host == h) hosts ≡ true

-- the controller or a host of the header
abbrev pub IsNodeKnown : List ℕ → ℕ → Type 0
IsNodeKnown hosts n = (n == 0 || list_any (λ host. host == n) hosts) ≡ true

-- a word without fault, by its kind
abbrev pub Fits : Bool → List ℕ → ℕ → Kind → List ℕ → Type 0
Fits hci hosts from kind.Version word = bytes_eq word (codes "1") ≡ true
Fits hci hosts from kind.Bare word = bytes_eq word (codes "bare") ≡ true
Fits hci hosts from kind.Nodes word = bytes_eq word (codes "hci") ≡ true
Fits hci hosts from kind.Host word = (h : ℕ) × (byte_value word ≡ Some h) × IsKnown hosts h
Fits hci hosts from kind.Node word = (n : ℕ) × (byte_value word ≡ Some n) × IsNodeKnown hosts n
Fits hci hosts from kind.NewHost word = (h : ℕ) × (byte_value word ≡ Some h) × (1 ≤ h) × (from ≤ h) × (h ≤ 7)
Fits hci hosts from kind.End word = (e : End) × (end_value word ≡ Some e) × IsKnown hosts e.link
Fits hci hosts from kind.Sender word = (e : End) × (end_value word ≡ Some e) × IsKnown hosts e.link × ((not hci || e.at_host) ≡ true)
Fits hci hosts from (kind.Byte below) word = (b : ℕ) × (byte_value word ≡ Some b) × (b < below)
Fits hci hosts from (kind.Bytes low high) word = (bytes : List ℕ) × (bytes_value word ≡ Some bytes) × (low ≤ length bytes) × (length bytes ≤ high)
Fits hci hosts from (kind.Number low high) word = (n : ℕ) × (number_in low high word ≡ Some n)
Fits hci hosts from (kind.Rising high) word = (n : ℕ) × (number_in from high word ≡ Some n)

abbrev pub AllFit : Bool → List ℕ → ℕ → List Slot → Type 0
AllFit hci hosts from [] = Unit {0}
AllFit hci hosts from (s ∷ ss) = Fits hci hosts from s.kind s.word × AllFit hci hosts (rising from s.kind s.word) ss

node_known : (hosts : List ℕ) (o : Option ℕ) → is_some o ≡ true → no_node hosts o ≡ None → (n : ℕ) × (o ≡ Some n) × IsNodeKnown hosts n
node_known hosts o h none = grind arith

-- a word that fits its kind has no fault
abbrev HasNoFault : Bool → List ℕ → ℕ → ℕ → Kind → List ℕ → Type 0
HasNoFault hci hosts at from k word = (has_shape hci k word ≡ true) × (digits_fault at from k word ≡ None) × (host_fault hosts from k word ≡ None)

word_is_right : (hci : Bool) (hosts : List ℕ) (at from : ℕ) (k : Kind) (word : List ℕ) → Fits hci hosts from k word → HasNoFault hci hosts at from k word
word_is_right hci hosts at from k word h = grind arith

all_fit : (hci : Bool) (hosts : List ℕ) (at from : ℕ) (ss : List Slot) → list_all (λ s. has_shape hci s.kind s.word) ss ≡ true
    → first_digits_fault at from ss ≡ None
    → first_host_fault hosts from ss ≡ None → AllFit hci hosts from ss
all_fit hci hosts at from [] shapes digits host = tt
all_fit hci hosts at from (s ∷ ss) shapes digits host =
    let digit = or_none (digits_fault at from s.kind s.word) (first_digits_fault (at + 1) (rising from s.kind s.word) ss) digits in
    let known = or_none (host_fault hosts from s.kind s.word) (first_host_fault hosts (rising from s.kind s.word) ss) host in
    (grind arith, all_fit hci hosts (at + 1) (rising from s.kind s.word) ss (and_parts _ _ shapes).1 digit.1 known.1)

all_right : (hci : Bool) (hosts : List ℕ) (at from : ℕ) (ss : List Slot) → AllFit hci hosts from ss
    → (list_all (λ s. has_shape hci s.kind s.word) ss ≡ true) × (first_digits_fault at from ss ≡ None) × (first_host_fault hosts from ss ≡ None)
all_right hci hosts at from [] h = (refl, refl, refl)
all_right hci hosts at from (s ∷ ss) h =
    let word = word_is_right hci hosts at from s.kind s.word h.0 in
    let more = all_right hci hosts (at + 1) (rising from s.kind s.word) ss h.1 in grind arith

-- words of a row without fault
pub record Right (hci : Bool) (hosts : List ℕ) (row : FormRow) (ws : List (List ℕ)) : Type 0 where
  pub least : row.least ≤ length ws
  pub most : length ws ≤ row.most
  pub words : AllFit hci hosts 0 (slots row.kinds ws)

pub no_fault : (hci : Bool) (hosts : List ℕ) (row : FormRow) (ws : List (List ℕ)) → words_fault hci hosts row ws ≡ None → Right hci hosts row ws
no_fault hci hosts row ws h =
    let parts = unless_word (is_well_formed hci row ws) _ h in
    let sized = and_parts _ _ parts.0 in
    let shaped = and_parts _ _ sized.1 in
    let right = or_none _ _ parts.1 in
    record {
      least = leb-true _ _ sized.0;
      most = leb-true _ _ shaped.0;
      words = all_fit hci hosts 2 0 (slots row.kinds ws) shaped.1 right.0 (map_none _ _ right.1);
    }

pub right_words : (hci : Bool) (hosts : List ℕ) (row : FormRow) (ws : List (List ℕ)) → Right hci hosts row ws → words_fault hci hosts row ws ≡ None
right_words hci hosts row ws h =
    let all = all_right hci hosts 2 0 (slots row.kinds ws) h.words in
    rw (le-leb row.least (length ws) h.least, le-leb (length ws) row.most h.most, all.0, all.1, all.2) refl

-- what holds of each row of a table, and where no row is there, holds of the row of a line
pub row_cases : (P : Option FormRow → Type 0) (table : List FormRow) (first : List ℕ) (ws : List (List ℕ))
    → AllByRecursion (λ row. first ≡ row.first → P (Some row)) table → (row_in table first ws ≡ None → P None) → P (row_in table first ws)
row_cases P [] first ws each none = none refl
row_cases P (row ∷ table) first ws each none = go (bytes_eq row.first first && has_third row.third ws) refl (row_cases P table first ws each.1) none
  where
    go : (t : Bool) → (bytes_eq row.first first && has_third row.third ws) ≡ t → ((row_in table first ws ≡ None → P None) → P (row_in table first ws))
        → (cond t (Some row) (row_in table first ws) ≡ None → P None) → P (cond t (Some row) (row_in table first ws))
    go true e more none = each.0 (sym ((bytes_eq-Decides row.first first).0 (and_parts _ _ e).0))
    go false e more none = more none
