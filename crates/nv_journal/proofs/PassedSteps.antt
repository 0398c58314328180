-- The gate that comes next in a pass, by the bytes ahead, and the reads of a pass.
use Rattle.std.proofs.Common.{take_at, add_assoc, if◌then◌else◌}
use Rattle.std.proofs.lemmas.List.{drop-take}
use Rattle.nv_journal.proofs.Words.{AreRead, BadRecord, Bool, Found, IsFilled, IsPassed, IsReadSoFar, IsTrue, Journal, List, None, Option, Says, SaysSoFar}
use Rattle.nv_journal.proofs.Words.{Scanned, Side, Some, State, UnknownFormat, [], add-zero, ap, append-nil, append_assoc, ap₂, arith, bank, bank_place, behind}
use Rattle.nv_journal.proofs.Words.{body, cases_lt, cond, current, drop, drop-drop, false, fault, found_from, found_in, from_be_bytes, gap, gate_at, gate_of}
use Rattle.nv_journal.proofs.Words.{head, index_len, inl, inr, is_opened_gate, journal, journal_at, journal_in_use, left, length, length-append, length-bank}
use Rattle.nv_journal.proofs.Words.{length-drop, length-take, min, nat_le, nat_lt, next_gate, next_place, no_journal, one_more_read, option_map_or}
use Rattle.nv_journal.proofs.Words.{reads_up_to, records, refl, size_in, slice_get, slice_index, slice_range, subst, suc, suc-add, sym, take, take-take, true}
use Rattle.nv_journal.proofs.Words.{true≢false, w16, zero, zero-add, ℕ, ◌&&◌, ◌*◌, ◌++◌, ◌+◌, ◌-◌, ◌<◌, ◌==◌, ◌||◌, ◌∙◌, ◌∷◌, ◌≡◌, ◌≤◌, ◌⊎◌}
use Rattle.nv_journal.specs.declared.gates.Gate.{Gate}
use Rattle.nv_journal.specs.declared.gates.Gate.TheVariants.{Closed, Bad, Record}
use Rattle.nv_journal.specs.Faults.{IsFaulty}
use Rattle.nv_journal.specs.Scanning.{passed_on}
use Rattle.nv_journal.proofs.Snapshotting.{size_in-append}
use Rattle.journal_laws.specs.Records.{bad, is_record, nothing_found}
use Rattle.journal_laws.proofs.Reading.{window, first, is_good_parts, found_good, bad_found, found_closed}
use Rattle.journal_laws.proofs.InUse.{state_at}

-- ---- the first bytes decide

take_all : (l : List ℕ) (n : ℕ) → length l ≤ n → take n l ≡ l
take_all [] zero long = refl
take_all [] (suc n) long = refl
take_all (x ∷ l) zero long = absurd (omega arith)
take_all (x ∷ l) (suc n) long = ap (λ t. x ∷ t) (take_all l n (omega arith))

front : (bytes : List ℕ) (n k : ℕ) → k ≤ n → take k (take n bytes) ≡ take k bytes
front bytes n k within = take-take k n bytes within

pub same_gate : (version position : ℕ) (bytes : List ℕ) (n : ℕ) → min 65 (length bytes) ≤ n
    → gate_of version position (length bytes) (take n bytes) ≡ gate_of version position (length bytes) bytes
same_gate version position bytes n enough = by_size (cases_lt n 65)
  where
    rest : ℕ
    rest = length bytes

    by : ℕ → ℕ → ℕ → Gate
    by gate len index =
        cond (is_opened_gate gate)
        (cond (nat_le 1 len && nat_le len 61 && nat_lt (2 + index_len version + len) rest && (version == 1 || index == position)) (Record len) Bad) Closed

    by_size : (n < 65) ⊎ (65 ≤ n) → gate_of version position (length bytes) (take n bytes) ≡ gate_of version position (length bytes) bytes
    by_size (inl short) = ap (gate_of version position (length bytes)) (take_all bytes n (omega (arith, enough)))
    by_size (inr long) =
        let one : slice_index (take n bytes) 0 ≡ slice_index bytes 0 = first (take n bytes) bytes 65 0 (front bytes n 65 long) (omega arith) in
        let two : slice_index (take n bytes) 1 ≡ slice_index bytes 1 = first (take n bytes) bytes 65 1 (front bytes n 65 long) (omega arith) in
        let three = window (take n bytes) bytes 65 2 2 (front bytes n 65 long) (omega arith) in
        ap₂ (λ g l. by g l (from_be_bytes w16 (slice_range (take n bytes) 2 4))) one two
        ∙ ap (λ l. by (slice_index bytes 0) (slice_index bytes 1) (from_be_bytes w16 l)) three

-- ---- what stands at the gate

pub closed_gate : (version position rest : ℕ) (bytes : List ℕ) → gate_of version position rest bytes ≡ Closed → is_opened_gate (slice_index bytes 0) ≡ false
closed_gate version position rest bytes is = by_tests (is_opened_gate (slice_index bytes 0)) (is_record version position rest bytes) is
  where
    by_tests : (o r : Bool) → cond o (cond r (Record (slice_index bytes 1)) Bad) Closed ≡ Closed → o ≡ false
    by_tests true true e = cc
    by_tests true false e = cc
    by_tests false r e = refl

pub bad_gate : (version position rest : ℕ) (bytes : List ℕ) → gate_of version position rest bytes ≡ Bad
    → (is_opened_gate (slice_index bytes 0) ≡ true) × (is_record version position rest bytes ≡ false)
bad_gate version position rest bytes is = by_tests (is_opened_gate (slice_index bytes 0)) (is_record version position rest bytes) is
  where
    by_tests : (o r : Bool) → cond o (cond r (Record (slice_index bytes 1)) Bad) Closed ≡ Bad → (o ≡ true) × (r ≡ false)
    by_tests true true e = cc
    by_tests true false e = (refl, refl)
    by_tests false r e = cc

pub record_gate : (version position rest len : ℕ) (bytes : List ℕ) → gate_of version position rest bytes ≡ Record len
    → (is_opened_gate (slice_index bytes 0) ≡ true) × (is_record version position rest bytes ≡ true) × (slice_index bytes 1 ≡ len)
record_gate version position rest len bytes is = by_tests (is_opened_gate (slice_index bytes 0)) (is_record version position rest bytes) is
  where
    by_tests : (o r : Bool) → cond o (cond r (Record (slice_index bytes 1)) Bad) Closed ≡ Record len → (o ≡ true) × (r ≡ true) × (slice_index bytes 1 ≡ len)
    by_tests true true e = (refl, refl, cc)
    by_tests true false e = cc
    by_tests false r e = cc

-- ---- lists

get_at_end : (xs : List (List ℕ)) (x : List ℕ) (ys : List (List ℕ)) → slice_get (xs ++ x ∷ ys) (length xs) ≡ Some x
get_at_end [] x ys = refl
get_at_end (y ∷ xs) x ys = ap (λ n. slice_get (y ∷ xs ++ x ∷ ys) n) (length_cons y xs) ∙ get_at_end xs x ys
  where
    length_cons : (z : List ℕ) (zs : List (List ℕ)) → length (z ∷ zs) ≡ suc (length zs)
    length_cons z zs = refl

drop_further : (n m : ℕ) (xs : List ℕ) → drop m (drop n xs) ≡ drop (n + m) xs
drop_further n m xs = drop-drop m n xs

take_two : (n k : ℕ) (xs : List ℕ) → take (n + k) xs ≡ take n xs ++ take k (drop n xs)
take_two zero k xs = ap (λ m. take m xs) (zero-add k)
take_two (suc n) k [] = ap (λ m. take {A = ℕ} m []) (suc-add n k) ∙ sym (no_part k)
  where
    no_part : (m : ℕ) → take {A = ℕ} m [] ≡ []
    no_part zero = refl
    no_part (suc m) = refl
take_two (suc n) k (x ∷ xs) = ap (λ m. take m (x ∷ xs)) (suc-add n k) ∙ ap (λ l. x ∷ l) (take_two n k xs)

-- ---- a state by its fields

same_state : {s : State} {in_use : Option Side} {version generation base snapshot many size : ℕ} {beside : Bool} → in_use ≡ s.in_use → version ≡ s.version
    → generation ≡ s.generation → base ≡ s.base → snapshot ≡ s.snapshot → many ≡ s.many → size ≡ s.size → beside ≡ s.beside
    → record { in_use = in_use; version = version; generation = generation; base = base; snapshot = snapshot; many = many; size = size; beside = beside } ≡ s
same_state {s} {generation} {base} {snapshot} {many} {size} {beside} a b c d e f g h =
    ap₂ (λ x y. record { in_use = x; version = y; generation = generation; base = base; snapshot = snapshot; many = many; size = size; beside = beside }) a b
    ∙ ap₂ (λ x y. record s { generation = x; base = y; snapshot = snapshot; many = many; size = size; beside = beside }) c d
    ∙ ap₂ (λ x y. record s { snapshot = x; many = y; size = size; beside = beside }) e f
    ∙ ap₂ (λ x y. record s { size = x; beside = y }) g h

-- ---- the next gate

module _ (c : List ℕ) (side : Side) (state : State) (ahead : List ℕ) (p : IsPassed c side state ahead) (long : 65536 ≤ length c)
    (used : state.in_use ≡ Some side)
    (few : 3 * state.many ≤ state.size) (inside : state.size < 32756) (known : IsTrue (state.version == 1 || state.version == 2)) where
  abbrev bytes : List ℕ
  bytes = drop (next_gate state) (bank c side)

  pub rest_is : length bytes ≡ 32768 - next_gate state
  rest_is = omega (arith, length-drop (next_gate state) (bank c side), length-bank c side long)

  abbrev most : ℕ
  most = 32768 - state.many - 1

  seen : journal c ≡ journal_at c side
  seen = journal_in_use c side p.in_use

  version_is : (journal c).head.version ≡ state.version
  version_is = ap (λ (j : Journal). j.head.version) seen ∙ p.version

  found_is : (journal c).found ≡ behind p.passed state.size (found_from state.version (32768 - state.many) state.many bytes)
  found_is = ap (λ (j : Journal). j.found) seen ∙ ap (λ v. found_in v (bank c side)) p.version ∙ p.found

  found_then : (f : Found) → found_from state.version (suc most) state.many bytes ≡ f → (journal c).found ≡ behind p.passed state.size f
  found_then f is =
      found_is ∙ ap (λ n. behind p.passed state.size (found_from state.version n state.many bytes)) (omega arith) ∙ ap (behind p.passed state.size) is

  pub gate_is : gate_at c state.many ≡ next_place state
  gate_is =
      ap₂ (λ o v. option_map_or bank_place o 0 + 12 + size_in v (take state.many (records c))) (p.in_use ∙ sym used) version_is
      ∙ ap (λ l. option_map_or bank_place state.in_use 0 + 12 + size_in state.version (take state.many l)) (ap (λ (f : Found). f.bodies) found_is)
      ∙ ap (λ l. option_map_or bank_place state.in_use 0 + 12 + size_in state.version l)
      (take_at p.passed (found_from state.version (32768 - state.many) state.many bytes).bodies state.many p.many)
      ∙ (omega arith)

  -- a closed gate
  pub closed_says : is_opened_gate (slice_index bytes 0) ≡ false → Says c state
  closed_says closed =
      let f = found_then nothing_found (found_closed state.version (suc most) state.many bytes closed) in
      record {
        size = long;
        state_is = state_at c side p.in_use
            ∙ same_state (sym used) version_is
            (ap (λ (j : Journal). j.head.generation) seen ∙ p.generation) (ap (λ (j : Journal). j.head.base) seen ∙ p.base)
            (ap (λ (j : Journal). j.head.snapshot) seen ∙ p.snapshot)
            (ap (λ (x : Found). length x.bodies) f ∙ ap length (append-nil p.passed) ∙ p.many)
            (ap (λ (x : Found). x.size) f ∙ add-zero state.size) p.beside;
        sound = record { known = subst (λ v. IsTrue (v == 1 || v == 2)) (sym version_is) known; good = ap (λ (x : Found). x.is_bad) f };
      }

  -- a bad record
  pub bad_says : is_opened_gate (slice_index bytes 0) ≡ true → is_record state.version state.many (length bytes) bytes ≡ false
      → fault c ≡ Some (BadRecord (next_place state))
  bad_says opened wrong =
      let f = found_then bad (bad_found state.version most state.many bytes opened wrong) in
      ap (λ b. cond b (cond (journal c).found.is_bad (Some (BadRecord (gate_at c (length (records c))))) None) (Some (UnknownFormat (journal c).head.version)))
      (subst (λ v. IsTrue (v == 1 || v == 2)) (sym version_is) known)
      ∙ ap (λ b. cond b (Some (BadRecord (gate_at c (length (records c))))) None) (ap (λ (x : Found). x.is_bad) f)
      ∙ ap (λ n. Some (BadRecord (gate_at c n))) (ap (λ (x : Found). length x.bodies) f ∙ ap length (append-nil p.passed) ∙ p.many)
      ∙ ap (λ n. Some (BadRecord n)) gate_is

  pub bad_last : is_opened_gate (slice_index bytes 0) ≡ true → is_record state.version state.many (length bytes) bytes ≡ false → length (records c) ≡ state.many
  bad_last opened wrong =
      ap (λ (x : Found). length x.bodies) (found_then bad (bad_found state.version most state.many bytes opened wrong)) ∙ ap length (append-nil p.passed)
      ∙ p.many

  -- a good one
  module _ (opened : is_opened_gate (slice_index bytes 0) ≡ true) (good : is_record state.version state.many (length bytes) bytes ≡ true) where
    abbrev b : List ℕ
    b = body state.version bytes

    abbrev g : ℕ
    g = gap state.version bytes

    abbrev later : Found
    later = found_from state.version most (state.many + 1) (drop g bytes)

    within : g < length bytes
    within = (is_good_parts state.version state.many bytes good).1

    f : (journal c).found ≡ behind p.passed state.size (behind (b ∷ []) g later)
    f = found_then (behind (b ∷ []) g later) (found_good state.version most state.many bytes opened good)

    pub record_there : slice_get (records c) state.many ≡ Some b
    record_there = ap₂ (λ l n. slice_get l n) (ap (λ (x : Found). x.bodies) f) (sym p.many) ∙ get_at_end p.passed b later.bodies

    pub body_len : length b ≡ slice_index bytes 1
    body_len =
        omega (arith, length-take (slice_index bytes 1) (drop (2 + index_len state.version) bytes), length-drop (2 + index_len state.version) bytes, within)

    abbrev state_behind : State
    state_behind = passed_on state b

    gap_is : 2 + index_len state.version + length b ≡ g
    gap_is = ap (λ n. 2 + index_len state.version + n) body_len

    further : drop g bytes ≡ drop (next_gate state_behind) (bank c side)
    further = drop_further (next_gate state) g (bank c side) ∙ ap (λ n. drop n (bank c side)) (regroup (sym gap_is))
      where
        regroup : g ≡ 2 + index_len state.version + length b → 12 + state.size + g ≡ 12 + (state.size + (2 + index_len state.version + length b))
        regroup is = omega arith

    one_behind : behind p.passed state.size (behind (b ∷ []) g later)
        ≡ behind (p.passed ++ b ∷ []) (state.size + (2 + index_len state.version + length b)) later
    one_behind =
        ap₂ (λ l n. record { bodies = l; size = n; is_bad = later.is_bad }) (sym (append_assoc p.passed (b ∷ []) later.bodies)) (regroup (sym gap_is))
      where
        regroup : g ≡ 2 + index_len state.version + length b
            → state.size + (g + later.size) ≡ state.size + (2 + index_len state.version + length b) + later.size
        regroup is = omega arith

    pub passed_then : g ≤ length ahead → IsPassed c side state_behind (drop g ahead)
    passed_then enough = record {
      in_use = p.in_use;
      version = p.version;
      generation = p.generation;
      base = p.base;
      snapshot = p.snapshot;
      beside = p.beside;
      passed = p.passed ++ b ∷ [];
      many = length-append p.passed (b ∷ []) ∙ ap (λ n. n + 1) p.many;
      size = size_in-append state.version p.passed (b ∷ []) ∙ ap₂ (λ m n. m + n) p.size (add-zero (2 + index_len state.version + length b));
      found = p.found
          ∙ ap (λ n. behind p.passed state.size (found_from state.version n state.many bytes)) (omega arith)
          ∙ ap (behind p.passed state.size) (found_good state.version most state.many bytes opened good)
          ∙ one_behind
          ∙ ap₂ (λ n l. behind (p.passed ++ b ∷ []) (state.size + (2 + index_len state.version + length b)) (found_from state.version n (state.many + 1) l))
          (omega arith) further;
      ahead_is = ap (drop g) p.ahead_is
          ∙ ap (λ n. drop g (take n bytes)) (omega arith)
          ∙ drop-take g (length ahead - g) bytes
          ∙ ap₂ (λ n l. take n l) (sym (length-drop g ahead)) further;
    }

  -- one more piece
  pub piece_read : (now : List ℕ) (at k : ℕ) → at ≡ bank_place side + (next_gate state + length ahead) → length now ≡ length ahead + k
      → state.size + length now ≤ 32756
      → now ≡ ahead ++ slice_range c at (at + k) → IsPassed c side state now
  piece_read now at k at_is size fits is = record {
    in_use = p.in_use;
    version = p.version;
    generation = p.generation;
    base = p.base;
    snapshot = p.snapshot;
    beside = p.beside;
    passed = p.passed;
    many = p.many;
    size = p.size;
    found = p.found;
    ahead_is = is ∙ ap₂ (λ x y. x ++ y) p.ahead_is in_bank ∙ sym (take_two (length ahead) k bytes) ∙ ap (λ n. take n bytes) (sym size);
  }
    where
      n : ℕ
      n = next_gate state + length ahead

      in_bank : slice_range c at (at + k) ≡ take k (drop (length ahead) bytes)
      in_bank =
          ap₂ (λ m l. take m l) (omega arith) (ap (λ m. drop m c) at_is ∙ sym (drop_further (bank_place side) (next_gate state + length ahead) c))
          ∙ window (drop (bank_place side) c) (take 32768 (drop (bank_place side) c)) 32768 (next_gate state + length ahead) k
          (sym (take-take 32768 32768 (drop (bank_place side) c) (omega arith))) (omega (arith, size, fits))
          ∙ ap (take k) (sym (drop_further (next_gate state) (length ahead) (bank c side)))

pub filled_len : {M : Type 0} (reads : M → Bool → M → Type 0) (left : ℕ) (old : M) (before : List ℕ) (new : M) (now : List ℕ)
    → IsFilled reads left old before new now
    → (length before ≤ length now) × (length now ≤ length before + left)
filled_len reads left old before new now (inl same) = (omega (arith, ap length same.1), omega (arith, ap length same.1))
filled_len reads left old before new now (inr piece) = (omega (arith, piece.size), omega (arith, piece.size))

-- a piece is read while the pass goes on
pub piece_says : {c : List ℕ} {state : State} {ahead now : List ℕ} {ended : Bool} {at : ℕ} → SaysSoFar c state ahead ended → ended ≡ false
    → 3 * state.many ≤ state.size → state.size < 32756 → IsTrue (state.version == 1 || state.version == 2)
    → at ≡ next_place state + length ahead → length ahead ≤ length now → state.size + length now ≤ 32756
    → now ≡ ahead ++ slice_range c at (at + (length now - length ahead)) → SaysSoFar c state now ended
piece_says {c} {state} {ahead} {now} {at} says going few inside known at_is more fits is = record {
  size = says.size;
  in_use = says.in_use;
  passed = λ side used. piece_read c side state ahead (says.passed side used) says.size used few inside known now at (length now - length ahead)
      (at_is ∙ regroup side used) (omega arith) fits is;
  at_end = λ at_end. absurd (true≢false (sym at_end ∙ going));
}
  where
    regroup : (side : Side) → state.in_use ≡ Some side → next_place state + length ahead ≡ bank_place side + (next_gate state + length ahead)
    regroup side used = ap (λ o. option_map_or bank_place o 0 + next_gate state + length ahead) used
        ∙ add_assoc (bank_place side) (next_gate state) (length ahead)

-- ---- how often a pass reads

module _ {N : Type 0} (reads : N → Bool → N → Type 0) (first : N) where
  abbrev at : N → State → List ℕ → Bool → Scanned N
  at nv state ahead ended = record { nv = nv; state = state; ahead = ahead; ended = ended }

  -- nothing more is read, or a piece is
  pub filled_so_far : (nv new : N) (state : State) (ahead now : List ℕ) (ended : Bool) → IsReadSoFar reads first (at nv state ahead ended)
      → state.size + length ahead ≤ 32756 → IsFilled reads (32768 - (next_gate state + length ahead)) nv ahead new now
      → IsReadSoFar reads first (at new state now ended)
  filled_so_far nv new state ahead now ended r fits (inl same) =
      subst (λ m. IsReadSoFar reads first (at m state now ended)) (sym same.0) (subst (λ l. IsReadSoFar reads first (at nv state l ended)) (sym same.1) r)
  filled_so_far nv new state ahead now ended r fits (inr piece) = record {
    pieces = r.pieces + 1;
    few = omega (arith, r.long, piece.some);
    long = λ more. omega (arith, r.long, piece.some, piece.size);
    read = subst (λ n. AreRead reads n first true new) (omega arith) (one_more_read reads (2 + r.pieces) first nv true new r.read piece.read);
  }

  pub failed_so_far : (nv new : N) (state : State) (ahead : List ℕ) (ended : Bool) → IsReadSoFar reads first (at nv state ahead ended)
      → state.size + length ahead ≤ 32756 → 0 < 32768 - (next_gate state + length ahead) → reads nv false new → AreRead reads 37 first false new
  failed_so_far nv new state ahead ended r fits some failed =
      reads_up_to reads (suc (2 + r.pieces)) 37 first false new (one_more_read reads (2 + r.pieces) first nv false new r.read failed)
      (omega (arith, r.long))

  -- since the two heads
  pub begun_so_far : (nv : N) (state : State) (ahead : List ℕ) (ended : Bool) → AreRead reads 2 first true nv → state.size ≡ 0 → length ahead ≡ 0
      → IsReadSoFar reads first (at nv state ahead ended)
  begun_so_far nv state ahead ended read none nothing = record { pieces = 0; few = omega arith; long = λ more. omega (arith, none, nothing); read = read }

-- ---- what a memory says where a pass comes to a gate

some_side : (o : Option Side) (ended : Bool) → (o ≡ None → IsTrue ended) → ended ≡ false → (side : Side) × (o ≡ Some side)
some_side None ended idle going = absurd (true≢false (sym (idle refl) ∙ going))
some_side (Some side) ended idle going = (side, refl)

module _ (c : List ℕ) (state : State) (ahead : List ℕ) (ended : Bool) (says : SaysSoFar c state ahead ended) (going : ended ≡ false)
    (idle : state.in_use ≡ None → IsTrue ended)
    (few : 3 * state.many ≤ state.size) (inside : state.size < 32756) (known : IsTrue (state.version == 1 || state.version == 2))
    (enough : min 65 (left state) ≤ length ahead) where
  abbrev side : Side
  side = (some_side state.in_use ended idle going).0

  abbrev gate_bytes : List ℕ
  gate_bytes = drop (next_gate state) (bank c side)

  used : state.in_use ≡ Some side
  used = (some_side state.in_use ended idle going).1

  p : IsPassed c side state ahead
  p = says.passed side used

  rest : length gate_bytes ≡ left state
  rest = rest_is c side state ahead p says.size used few inside known

  gate_now : gate_of state.version state.many (left state) ahead ≡ gate_of state.version state.many (length gate_bytes) gate_bytes
  gate_now =
      ap₂ (gate_of state.version state.many) (sym rest) p.ahead_is
      ∙ same_gate state.version state.many gate_bytes (length ahead) (omega (arith, rest, enough))

  pub closed_so_far : Closed ≡ gate_of state.version state.many (left state) ahead → Says c state
  closed_so_far is =
      closed_says c side state ahead p says.size used few inside known
      (closed_gate state.version state.many (length gate_bytes) gate_bytes (sym gate_now ∙ sym is))

  pub ended_so_far : Closed ≡ gate_of state.version state.many (left state) ahead → SaysSoFar c state ahead true
  ended_so_far is = record { size = says.size; in_use = says.in_use; passed = says.passed; at_end = λ _. closed_so_far is }

  pub bad_so_far : Bad ≡ gate_of state.version state.many (left state) ahead → fault c ≡ Some (BadRecord (next_place state))
  bad_so_far is =
      let wrong = bad_gate state.version state.many (length gate_bytes) gate_bytes (sym gate_now ∙ sym is) in
      bad_says c side state ahead p says.size used few inside known wrong.0 wrong.1

  pub bad_is_last : Bad ≡ gate_of state.version state.many (left state) ahead → length (records c) ≡ state.many
  bad_is_last is =
      let wrong = bad_gate state.version state.many (length gate_bytes) gate_bytes (sym gate_now ∙ sym is) in
      bad_last c side state ahead p says.size used few inside known wrong.0 wrong.1

  pub faulty_so_far : Bad ≡ gate_of state.version state.many (left state) ahead → IsFaulty c state.many (BadRecord (next_place state))
  faulty_so_far is = record { fault_is = bad_so_far is; last = bad_is_last is }

  module _ (len : ℕ) (is : Record len ≡ gate_of state.version state.many (left state) ahead) (short : len ≤ 61)
      (fits : 2 + index_len state.version + len < left state) where
    right : (is_opened_gate (slice_index gate_bytes 0) ≡ true) × (is_record state.version state.many (length gate_bytes) gate_bytes ≡ true) ×
        (slice_index gate_bytes 1 ≡ len)
    right = record_gate state.version state.many (length gate_bytes) len gate_bytes (sym gate_now ∙ sym is)

    len_within : 2 + index_len state.version + len ≤ length ahead
    len_within = omega (arith, low_index state.version, enough)
      where
        low_index : (v : ℕ) → index_len v ≤ 2
        low_index v = by (v == 1)
          where
            by : (b : Bool) → (if b then 0 else 2) ≤ 2
            by true = omega arith
            by false = omega arith

    body_is : take len (drop (2 + index_len state.version) ahead) ≡ body state.version gate_bytes
    body_is =
        window ahead gate_bytes (length ahead) (2 + index_len state.version) len
        (ap (take (length ahead)) p.ahead_is ∙ take-take (length ahead) (length ahead) gate_bytes (omega arith)) len_within
        ∙ ap (λ n. take n (drop (2 + index_len state.version) gate_bytes)) (sym right.2)

    pub record_so_far : slice_get (records c) state.many ≡ Some (take len (drop (2 + index_len state.version) ahead))
    record_so_far = record_there c side state ahead p says.size used few inside known right.0 right.1 ∙ ap Some (sym body_is)

    -- what is known behind the record
    abbrev next_state : State
    next_state = record state { many = state.many + 1; size = state.size + (2 + index_len state.version + len) }

    body_size : length (body state.version gate_bytes) ≡ len
    body_size = body_len c side state ahead p says.size used few inside known right.0 right.1 ∙ right.2

    gap_len_is : gap state.version gate_bytes ≡ 2 + index_len state.version + len
    gap_len_is = ap (λ n. 2 + index_len state.version + n) right.2

    passed_now : IsPassed c side next_state (drop (2 + index_len state.version + len) ahead)
    passed_now =
        subst (λ n. IsPassed c side (record state { many = state.many + 1; size = state.size + (2 + index_len state.version + n) })
        (drop (2 + index_len state.version + len) ahead)) body_size
        (subst (λ n. IsPassed c side (passed_on state (body state.version gate_bytes)) (drop n ahead)) gap_len_is
        (passed_then c side state ahead p says.size used few inside known right.0 right.1 (omega (arith, gap_len_is, len_within))))

    pub says_then : SaysSoFar c next_state (drop (2 + index_len state.version + len) ahead) ended
    says_then = record {
      size = says.size;
      in_use = says.in_use;
      passed = λ s used_too. subst (λ t. IsPassed c t next_state (drop (2 + index_len state.version + len) ahead))
          (same_side side s (sym used ∙ used_too)) passed_now;
      at_end = λ at_end. absurd (true≢false (sym at_end ∙ going));
    }
      where
        same_side : (s t : Side) → Some s ≡ Some t → s ≡ t
        same_side s t e = cc

-- the next gate is that of the record that comes next
pub next_gate_is : (c : List ℕ) (state : State) (ahead : List ℕ) (ended : Bool) → SaysSoFar c state ahead ended → (state.in_use ≡ None → IsTrue ended)
    → 3 * state.many ≤ state.size → state.size < 32756 → IsTrue (state.version == 1 || state.version == 2) → next_place state ≡ gate_at c state.many
next_gate_is c state ahead ended says idle few inside known = by_bank state.in_use refl
  where
    by_bank : (o : Option Side) → state.in_use ≡ o → next_place state ≡ gate_at c state.many
    by_bank (Some s) is = sym (gate_is c s state ahead (says.passed s is) says.size is few inside known)
    by_bank None is =
        let said = says.at_end (idle is) in
        let unused : current c ≡ None = says.in_use ∙ is in
        let says_nothing = no_journal c unused in
        let none : state.size ≡ 0 = ap (λ (s : State). s.size) (sym said.state_is) ∙ ap (λ (j : Journal). j.found.size) says_nothing in
        ap₂ (λ o n. option_map_or bank_place o 0 + (12 + n)) is none
        ∙ sym (ap₂ (λ o l. option_map_or bank_place o 0 + 12 + size_in (journal c).head.version (take state.many l)) unused (grind arith)
        ∙ ap (λ l. 0 + 12 + size_in (journal c).head.version l) (no_part state.many))
      where
        no_part : (m : ℕ) → take {A = List ℕ} m [] ≡ []
        no_part zero = refl
        no_part (suc m) = refl
