-- Where the records of a memory stand.
use Rattle.std.proofs.lemmas.Bool.{and_parts, cases_Bool, leb-true, ltb-true}
use Rattle.nv_journal.proofs.Words.{Bool, Found, Journal, List, None, Option, Says, Side, Some, State, [], add-zero, ap, ap₂, arith, bank, bank_place, behind}
use Rattle.nv_journal.proofs.Words.{body, cases_lt, cond, current, drop, drop-drop, false, found_in, from_be_bytes, gap, gate_at, head, index_len, inl, inr}
use Rattle.nv_journal.proofs.Words.{is_opened_gate, journal, journal_at, journal_in_use, left, length, length-bank, length-drop, length-take, min, nat_le}
use Rattle.nv_journal.proofs.Words.{nat_lt, next_place, no_journal, option_map_or, records, refl, size_in, slice_get, slice_index, slice_range, subst, suc}
use Rattle.nv_journal.proofs.Words.{suc-add, sym, take, take-take, true, unformatted, w16, zero, ℕ, ◌&&◌, ◌+◌, ◌-◌, ◌<◌, ◌==◌, ◌||◌, ◌∙◌, ◌∷◌, ◌≡◌, ◌≤◌, ◌⊎◌}
use Rattle.journal_laws.specs.Records.{found_from, is_good_record}
use Rattle.journal_laws.proofs.Reading.{window, first, is_good_parts, found_good, bad_found, found_closed}
use Rattle.nv_journal.specs.Gates.{len_of}
use Rattle.nv_journal.specs.Kept.{IsGateOf}

-- ---- in a bank

-- record k of these bodies, whose records stand from these bytes on
pub record IsThere (version position : ℕ) (bytes : List ℕ) (bodies : List (List ℕ)) (k : ℕ) : Type 0 where
  pub good : is_good_record version (position + k) (drop (size_in version (take k bodies)) bytes) ≡ true
  pub body_there : slice_get bodies k ≡ Some (body version (drop (size_in version (take k bodies)) bytes))
  pub next : size_in version (take k bodies) + gap version (drop (size_in version (take k bodies)) bytes) ≡ size_in version (take (k + 1) bodies)

-- the body of a good record has its length
body_size : (version position : ℕ) (bytes : List ℕ) → is_good_record version position bytes ≡ true
    → 2 + index_len version + length (body version bytes) ≡ gap version bytes
body_size version position bytes good =
    omega (
      arith,
      (is_good_parts version position bytes good).1,
      length-take (slice_index bytes 1) (drop (2 + index_len version) bytes),
      length-drop (2 + index_len version) bytes,
    )

module _ (version position : ℕ) (bytes : List ℕ) (bodies : List (List ℕ)) (good : is_good_record version position bytes ≡ true) where
  abbrev b : List ℕ
  b = body version bytes

  abbrev n : ℕ
  n = 2 + index_len version + length b

  first_there : IsThere version position bytes (b ∷ bodies) 0
  first_there = record {
    good = subst (λ p. is_good_record version p bytes ≡ true) (sym (add-zero position)) good;
    body_there = refl;
    next = omega (arith, body_size version position bytes good);
  }

  later_there : (k : ℕ) → IsThere version (position + 1) (drop (gap version bytes) bytes) bodies k → IsThere version position bytes (b ∷ bodies) (suc k)
  later_there k there =
      let same = moved (size_in version (take k bodies)) in
      record {
        good = ap₂ (λ p l. is_good_record version p l) (omega arith) same ∙ there.good;
        body_there = there.body_there ∙ ap (λ l. Some (body version l)) (sym same);
        next = ap (λ l. n + size_in version (take k bodies) + gap version l) same
            ∙ (omega arith)
            ∙ ap (λ m. n + m) there.next
            ∙ ap (λ m. size_in version (take m (b ∷ bodies))) (sym (suc-add k 1));
      }
    where
      moved : (m : ℕ) → drop (n + m) bytes ≡ drop m (drop (gap version bytes) bytes)
      moved m = ap (λ g. drop (g + m) bytes) (body_size version position bytes good) ∙ sym (drop-drop m (gap version bytes) bytes)

module _ (version : ℕ) where
  -- each record stands behind those before it
  pub each_there : (most position : ℕ) (bytes : List ℕ) (k : ℕ) → k < length (found_from version most position bytes).bodies
      → IsThere version position bytes (found_from version most position bytes).bodies k
  unfolding found_from
  each_there zero position bytes k below = absurd (omega (arith, below))
  each_there (suc most) position bytes k below =
      by_gate (each_there most (position + 1) (drop (gap version bytes) bytes)) (cases_Bool (is_opened_gate (slice_index bytes 0)))
      (cases_Bool (is_good_record version position bytes)) below
    where
      later : Found
      later = found_from version most (position + 1) (drop (gap version bytes) bytes)

      step : ((m : ℕ) → m < length later.bodies → IsThere version (position + 1) (drop (gap version bytes) bytes) later.bodies m)
          → is_good_record version position bytes ≡ true → (m : ℕ) → m < length (body version bytes ∷ later.bodies)
          → IsThere version position bytes (body version bytes ∷ later.bodies) m
      step more good zero within = first_there version position bytes later.bodies good
      step more good (suc m) within = later_there version position bytes later.bodies good m (more m (omega (arith, within)))

      by_gate : ((m : ℕ) → m < length later.bodies → IsThere version (position + 1) (drop (gap version bytes) bytes) later.bodies m)
          → (is_opened_gate (slice_index bytes 0) ≡ true) ⊎ (is_opened_gate (slice_index bytes 0) ≡ false)
          → (is_good_record version position bytes ≡ true) ⊎ (is_good_record version position bytes ≡ false)
          → k < length (found_from version (suc most) position bytes).bodies
          → IsThere version position bytes (found_from version (suc most) position bytes).bodies k
      by_gate more (inl opened) (inl good) within =
          let is = found_good version most position bytes opened good in
          subst (λ (f : Found). IsThere version position bytes f.bodies k) (sym is)
          (step more good k (subst (λ (f : Found). k < length f.bodies) is within))
      by_gate more (inl opened) (inr wrong) within =
          absurd (omega (arith, subst (λ (f : Found). k < length f.bodies) (bad_found version most position bytes opened wrong) within))
      by_gate more (inr closed) other within =
          absurd (omega (arith, subst (λ (f : Found). k < length f.bodies) (found_closed version (suc most) position bytes closed) within))

  -- they take the bytes that are counted
  pub found_size : (most position : ℕ) (bytes : List ℕ)
      → (found_from version most position bytes).size ≡ size_in version (found_from version most position bytes).bodies
  unfolding found_from
  found_size zero position bytes = refl
  found_size (suc most) position bytes =
      by_gate (found_size most (position + 1) (drop (gap version bytes) bytes)) (cases_Bool (is_opened_gate (slice_index bytes 0)))
      (cases_Bool (is_good_record version position bytes))
    where
      later : Found
      later = found_from version most (position + 1) (drop (gap version bytes) bytes)

      Sized : Found → Type 0
      Sized f = f.size ≡ size_in version f.bodies

      by_gate : Sized later → (is_opened_gate (slice_index bytes 0) ≡ true) ⊎ (is_opened_gate (slice_index bytes 0) ≡ false)
          → (is_good_record version position bytes ≡ true) ⊎ (is_good_record version position bytes ≡ false)
          → Sized (found_from version (suc most) position bytes)
      by_gate more (inl opened) (inl good) =
          subst Sized (sym (found_good version most position bytes opened good)) (ap₂ (λ a b. a + b) (sym (body_size version position bytes good)) more)
      by_gate more (inl opened) (inr wrong) = subst Sized (sym (bad_found version most position bytes opened wrong)) refl
      by_gate more (inr closed) other = subst Sized (sym (found_closed version (suc most) position bytes closed)) refl

  -- the records in front of one end before the last one does
  pub size_in-take : (bodies : List (List ℕ)) (k : ℕ) → k < length bodies → size_in version (take k bodies) + 2 ≤ size_in version bodies
  size_in-take [] k below = absurd (omega (arith, below))
  size_in-take (b ∷ bodies) zero below = omega arith
  size_in-take (b ∷ bodies) (suc k) below = omega (arith, size_in-take bodies k (omega (arith, below)))

take_all : (bodies : List (List ℕ)) (k : ℕ) → length bodies ≤ k → take k bodies ≡ bodies
take_all [] zero all = refl
take_all [] (suc k) all = refl
take_all (b ∷ bodies) zero all = absurd (omega (arith, all))
take_all (b ∷ bodies) (suc k) all = ap (λ l. b ∷ l) (take_all bodies k (omega (arith, all)))

low_index : (v : ℕ) → index_len v ≤ 2
low_index v = by (v == 1)
  where
    by : (b : Bool) → cond b 0 2 ≤ 2
    by true = omega arith
    by false = omega arith

-- ---- in a memory

module _ (c : List ℕ) (state : State) (says : Says c state) where
  journal_size : (journal c).found.size ≡ size_in (journal c).head.version (records c)
  journal_size = by_bank (current c)
    where
      by_bank : (o : Option Side) → (option_map_or (journal_at c) o unformatted).found.size
          ≡ size_in (option_map_or (journal_at c) o unformatted).head.version (option_map_or (journal_at c) o unformatted).found.bodies
      by_bank None = refl
      by_bank (Some side) = found_size (head c side).version (length (bank c side)) 0 (drop 12 (bank c side))

  in_use_is : state.in_use ≡ current c
  in_use_is = ap (λ (s : State). s.in_use) (sym says.state_is)

  version_is : (journal c).head.version ≡ state.version
  version_is = ap (λ (s : State). s.version) says.state_is

  end_is : next_place state ≡ option_map_or bank_place (current c) 0 + (12 + size_in (journal c).head.version (records c))
  end_is = ap₂ (λ o n. option_map_or bank_place o 0 + (12 + n)) in_use_is (ap (λ (s : State). s.size) (sym says.state_is) ∙ journal_size)

  -- a gate in front of the last one
  before_end : (k : ℕ) → k < length (records c) → gate_at c k < next_place state
  before_end k below = omega (arith, end_is, size_in-take (journal c).head.version (records c) k below)

  last_gate : (k : ℕ) → length (records c) ≤ k → gate_at c k ≡ next_place state
  last_gate k all =
      ap (λ l. option_map_or bank_place (current c) 0 + 12 + size_in (journal c).head.version l) (take_all (records c) k all)
      ∙ (omega arith) ∙ sym end_is

  pub at_end : (k at : ℕ) → IsGateOf c k at → next_place state ≤ at → k ≡ length (records c)
  at_end k at gate behind = either (cases_lt k (length (records c)))
    where
      either : (k < length (records c)) ⊎ (length (records c) ≤ k) → k ≡ length (records c)
      either (inl below) = absurd (omega (arith, before_end k below, gate.place, behind))
      either (inr last) = omega (arith, gate.within, last)

  pub first_gate : (at : ℕ) → at ≡ next_place state - state.size → (k : ℕ) × IsGateOf c k at
  first_gate at is = (
    0,
    record {
      within = omega arith;
      place = is ∙ (omega arith) ∙ ap (λ o. option_map_or bank_place o 0 + 12 + 0) in_use_is;
    },
  )

  -- a record, and its first bytes
  module _ (k at n rest : ℕ) (read : List ℕ) (gate : IsGateOf c k at) (before : at < next_place state) (inside : state.size < 32756)
      (rest_is : rest ≡ left state + (next_place state - at)) (n_is : n ≡ min 65 rest) (read_is : read ≡ slice_range c at (at + n)) where
    pub below : k < length (records c)
    below = either (cases_lt k (length (records c)))
      where
        either : (k < length (records c)) ⊎ (length (records c) ≤ k) → k < length (records c)
        either (inl less) = less
        either (inr last) = absurd (omega (arith, last_gate k last, gate.place, before))

    some_bank : (side : Side) × (current c ≡ Some side)
    some_bank = by_bank (current c) refl
      where
        by_bank : (o : Option Side) → current c ≡ o → (side : Side) × (current c ≡ Some side)
        by_bank None is = absurd (omega (arith, below, ap (λ (j : Journal). length j.found.bodies) (no_journal c is)))
        by_bank (Some side) is = (side, is)

    abbrev side : Side
    side = some_bank.0

    abbrev size : ℕ
    size = size_in state.version (take k (records c))

    abbrev bytes : List ℕ
    bytes = drop size (drop 12 (bank c side))

    records_are : records c ≡ (found_in state.version (bank c side)).bodies
    records_are =
        let seen = journal_in_use c side some_bank.1 in
        ap (λ (j : Journal). j.found.bodies) seen
        ∙ ap (λ v. (found_in v (bank c side)).bodies) (sym (ap (λ (j : Journal). j.head.version) seen) ∙ version_is)

    there : IsThere state.version 0 (drop 12 (bank c side)) (records c) k
    there = subst (λ l. IsThere state.version 0 (drop 12 (bank c side)) l k) (sym records_are)
        (each_there state.version (length (bank c side)) 0 (drop 12 (bank c side)) k (subst (λ (l : List (List ℕ)). k < length l) records_are below))

    gate_is : (m : ℕ) → gate_at c m ≡ bank_place side + 12 + size_in state.version (take m (records c))
    gate_is m = ap₂ (λ o v. option_map_or bank_place o 0 + 12 + size_in v (take m (records c))) some_bank.1 version_is

    end_there : next_place state ≡ bank_place side + (12 + state.size)
    end_there = ap (λ o. option_map_or bank_place o 0 + (12 + state.size)) (in_use_is ∙ some_bank.1)

    rest_there : rest ≡ 32768 - (12 + size)
    rest_there = omega (arith, rest_is, before, gate.place, gate_is k, end_there, inside)

    long_bytes : length bytes ≡ rest
    long_bytes = omega (arith, rest_there, length-drop size (drop 12 (bank c side)), length-drop 12 (bank c side), length-bank c side says.size)

    read_there : read ≡ take n bytes
    read_there =
        read_is
        ∙ ap₂ (λ m l. take m l) (omega arith)
        (ap (λ m. drop m c) (gate.place ∙ gate_is k ∙ (omega arith)) ∙ sym (drop-drop (12 + size) (bank_place side) c))
        ∙ window (drop (bank_place side) c) (take 32768 (drop (bank_place side) c)) 32768 (12 + size) n
        (sym (take-take 32768 32768 (drop (bank_place side) c) (omega arith)))
        (omega (arith, n_is, rest_there, before, gate.place, gate_is k, end_there, inside))
        ∙ ap (take n) (sym (drop-drop size 12 (bank c side)))

    same : take n read ≡ take n bytes
    same = ap (take n) read_there ∙ take-take n n bytes (omega arith)

    abbrev len : ℕ
    len = slice_index bytes 1

    fits : nat_le 1 len && nat_le len 61 && nat_lt (gap state.version bytes) (length bytes) ≡ true
    fits = (and_parts (nat_le 1 len && nat_le len 61 && nat_lt (gap state.version bytes) (length bytes))
        (state.version == 1 || from_be_bytes w16 (slice_range bytes 2 4) == 0 + k) there.good).0

    within : gap state.version bytes ≤ n
    within =
        let two = and_parts (nat_le 1 len && nat_le len 61) (nat_lt (gap state.version bytes) (length bytes)) fits in
        let short = leb-true len 61 (and_parts (nat_le 1 len) (nat_le len 61) two.0).1 in
        omega (arith, n_is, long_bytes, ltb-true (gap state.version bytes) (length bytes) two.1, short, low_index state.version)

    len_is : slice_index read 1 ≡ len
    len_is = first read bytes n 1 same (omega (arith, within))

    gap_is : gap state.version read ≡ gap state.version bytes
    gap_is = ap (λ l. 2 + index_len state.version + l) len_is

    pub has_room : len_of state.version rest read ≡ None → ⊥
    has_room none = absurd (some_is_not_none (sym (ap₂ by len_is (sym long_bytes) ∙ ap (λ b. cond b (Some len) None) fits) ∙ none))
      where
        by : ℕ → ℕ → Option ℕ
        by l r = cond (nat_le 1 l && nat_le l 61 && nat_lt (2 + index_len state.version + l) r) (Some l) None

        some_is_not_none : Some len ≡ None → ⊥
        some_is_not_none e = cc

    pub body_there : slice_get (records c) k ≡ Some (body state.version read)
    body_there =
        there.body_there
        ∙ ap Some (sym (ap (λ l. take l (drop (2 + index_len state.version) read)) len_is ∙ window read bytes n (2 + index_len state.version) len same within))

    pub next_there : at + gap state.version read ≡ gate_at c (k + 1)
    next_there = omega (arith, gap_is, gate.place, gate_is k, there.next, gate_is (k + 1))

    pub next_is_gate : (k : ℕ) × IsGateOf c k (at + gap state.version read)
    next_is_gate = (k + 1, record { within = omega (arith, below); place = next_there })
