-- A commit that is cut: the write that was torn, what the last gate decides, and which bank is in use then.
use Rattle.std.proofs.lemmas.Bool.{and_cases, and_left, false_from_ne_true}
use Rattle.std.proofs.lemmas.List.FromFn.{length-map-range_with_len}
use Rattle.node_laws.proofs.Words.{AreTables, Bool, BootFinds, Command, FindsRoom, HciTables, IsAllOrNothing, IsCommand, IsRecordable, IsSome, Journal, Knows}
use Rattle.node_laws.proofs.Words.{List, Memory, None, Option, Plan, Some, State, Write, [], after_planned, after_writes, and_parts, and_right, ap}
use Rattle.node_laws.proofs.Words.{append_writes, apply, arith, body_of, by_test, cases_eq, commit_writes, committed, compact_writes, cond, count_of, current}
use Rattle.node_laws.proofs.Words.{cycled, fails_within, false, get_or, in_use_is, inl, inr, is_next, is_opened_gate, journal, last_place, leb-false, leb-true}
use Rattle.node_laws.proofs.Words.{left, length, length-append, memory_after, nat_le, ne_eqb, opens_gate, overwritten, plan_after, plan_on, record_fits, refl}
use Rattle.node_laws.proofs.Words.{room_writes, slice_index, snapshot_bodies, subst, suc, sym, true, true≢false, with_room, zero, ℕ, ◌%◌, ◌&&◌, ◌++◌, ◌+◌, ◌-◌}
use Rattle.node_laws.proofs.Words.{◌<◌, ◌==◌, ◌^◌, ◌∙◌, ◌∷◌, ◌≡◌, ◌≤◌, ◌⊎◌}
use Rattle.hci_store.proofs.Committed.{room_count}
use Rattle.journal_laws.proofs.Opening.{at_place as byte_there, length-cut}
use Rattle.journal_laws.specs.Writes.{FitIn, IsCut}
use Rattle.swp_base.proofs.WriteLemmas.{length-overwritten}
use Rattle.node_laws.proofs.kept.Reckoned.{can, commit_count, commit_knows, finds_still, has_room, next_of, room_knows, room_left, says_of}
use Rattle.nv_journal.proofs.Appending as appending
use Rattle.nv_journal.proofs.Compacting as compacting

-- ## What a memory leaves whose failing write is planned: the write that was torn, and its fill

-- The first k of these writes were made whole, and the range of the next one was filled with these bytes, over and over.
abbrev pub IsFilled : ℕ → List ℕ → List Write → List ℕ → List ℕ → Type 0
IsFilled k fill [] old new = ⊥
IsFilled zero fill (w ∷ writes) old new = new ≡ overwritten old w.at (cycled fill (length w.bytes))
IsFilled (suc k) fill (w ∷ writes) old new = IsFilled k fill writes (overwritten old w.at w.bytes) new

abbrev plan_of : ℕ → List ℕ → Option Plan
plan_of nth fill = Some (record { nth = nth; fill = fill })

nearer : (k : ℕ) (fill : List ℕ) → plan_after (plan_of (suc (suc k)) fill) ≡ plan_of (suc k) fill
nearer k fill = grind arith

pub planned_filled : (k : ℕ) (fill : List ℕ) (writes : List Write) (m : Memory) → m.plan ≡ Some (record { nth = suc k; fill = fill }) → k < length writes
    → IsFilled k fill writes m.content (after_planned writes m).content
planned_filled k fill [] m is within = absurd (omega arith)
planned_filled zero fill (w ∷ writes) m is within = grind arith
planned_filled (suc k) fill (w ∷ writes) m is within =
    let later : is_next m.plan ≡ false = ap is_next is ∙ (grind arith) in
    let next : Memory = memory_after m w.at w.bytes in
    subst (λ c. IsFilled k fill writes c (after_planned (w ∷ writes) m).content) (grind arith)
    (subst (λ c. IsFilled k fill writes next.content c)
    (sym (ap (λ b. (cond b next (after_planned writes next)).content) later))
    (planned_filled k fill writes next (plan_on m w.at w.bytes later ∙ ap plan_after is ∙ nearer k fill) (omega arith)))

filled_cut : (k : ℕ) (fill : List ℕ) (writes : List Write) (old new : List ℕ) → IsFilled k fill writes old new → IsCut k writes old new
filled_cut k fill [] old new filled = absurd filled
filled_cut zero fill (w ∷ writes) old new filled =
    (cycled fill (length w.bytes), length-map-range_with_len (λ i. get_or fill (i % length fill) 0) 0 (length w.bytes), filled)
filled_cut (suc k) fill (w ∷ writes) old new filled = filled_cut k fill writes (overwritten old w.at w.bytes) new filled

-- in the first of two lists of writes, or in the second one
filled_append : (k : ℕ) (fill : List ℕ) (first later : List Write) (old new : List ℕ) → IsFilled k fill (first ++ later) old new
    → ((k < length first) × IsFilled k fill first old new) ⊎ ((j : ℕ) × (k ≡ length first + j) × IsFilled j fill later (after_writes first old) new)
filled_append k fill [] later old new filled = inr (k, omega arith, filled)
filled_append zero fill (w ∷ first) later old new filled = inl (omega arith, filled)
filled_append (suc k) fill (w ∷ first) later old new filled = one_on (filled_append k fill first later (overwritten old w.at w.bytes) new filled) where
  one_on : ((k < length first) × IsFilled k fill first (overwritten old w.at w.bytes) new)
      ⊎ ((j : ℕ) × (k ≡ length first + j) × IsFilled j fill later (after_writes first (overwritten old w.at w.bytes)) new)
      → ((suc k < length (w ∷ first)) × IsFilled k fill first (overwritten old w.at w.bytes) new)
      ⊎ ((j : ℕ) × (suc k ≡ length (w ∷ first) + j) × IsFilled j fill later (after_writes first (overwritten old w.at w.bytes)) new)
  one_on a = grind arith

-- one byte of it
one_filled : (fill : List ℕ) → cycled fill 1 ≡ slice_index fill 0 ∷ []
one_filled fill = grind arith

-- ## Writes of which the last opens a gate, and what is left where one of them is torn

-- the last of these writes opens a gate
abbrev pub EndsInGate : List Write → Type 0
EndsInGate [] = ⊥
EndsInGate (w ∷ []) = w.bytes ≡ 90 ∷ []
EndsInGate (w ∷ next ∷ writes) = EndsInGate (next ∷ writes)

behind_one : (w : Write) (writes : List Write) → EndsInGate writes → EndsInGate (w ∷ writes)
behind_one w writes ends = grind arith

ends_append : (first later : List Write) → EndsInGate later → EndsInGate (first ++ later)
ends_append [] later ends = ends
ends_append (w ∷ first) later ends = behind_one w (first ++ later) (ends_append first later ends)

gate_left : (i : ℕ) (fill : List ℕ) (writes : List Write) (c new : List ℕ) → FitIn (length c) writes → EndsInGate writes → IsFilled i fill writes c new
    → i + 1 ≡ length writes → slice_index new (last_place writes) ≡ slice_index fill 0
gate_left i fill [] c new fit ends filled last = absurd ends
gate_left zero fill (w ∷ []) c new fit ends filled last =
    ap (λ l. slice_index l w.at) (filled ∙ ap (overwritten c w.at) (grind arith))
    ∙ byte_there c w.at (slice_index fill 0) (omega (arith, fit.0, ap length ends))
gate_left (suc i) fill (w ∷ []) c new fit ends filled last = absurd filled
gate_left zero fill (w ∷ next ∷ writes) c new fit ends filled last = absurd (omega (arith, last))
gate_left (suc i) fill (w ∷ next ∷ writes) c new fit ends filled last =
    gate_left i fill (next ∷ writes) (overwritten c w.at w.bytes) new
    (subst (λ n. FitIn n (next ∷ writes)) (sym (length-overwritten c w.at w.bytes fit.0)) fit.1) ends filled (omega (arith, last))

-- The gate was left open: all of these writes stand in the memory.
pub gate_opened : (i : ℕ) (fill : List ℕ) (writes : List Write) (c new : List ℕ) → EndsInGate writes → IsFilled i fill writes c new
    → i + 1 ≡ length writes → is_opened_gate (slice_index fill 0) ≡ true → new ≡ after_writes writes c
gate_opened i fill [] c new ends filled last opened = absurd ends
gate_opened zero fill (w ∷ []) c new ends filled last opened = grind arith
gate_opened (suc i) fill (w ∷ []) c new ends filled last opened = absurd filled
gate_opened zero fill (w ∷ next ∷ writes) c new ends filled last opened = absurd (omega (arith, last))
gate_opened (suc i) fill (w ∷ next ∷ writes) c new ends filled last opened =
    gate_opened i fill (next ∷ writes) (overwritten c w.at w.bytes) new ends filled (omega (arith, last)) opened

-- It wasn't reached, or was left closed: the memory says what it said before, where the writes are all or nothing.
pub gate_closed : (i : ℕ) (fill : List ℕ) (writes : List Write) (c new : List ℕ) → IsAllOrNothing writes c → EndsInGate writes → IsFilled i fill writes c new
    → (i + 1 ≡ length writes → is_opened_gate (slice_index fill 0) ≡ false) → journal new ≡ journal c
gate_closed i fill writes c new whole ends filled closed =
    whole.says i new (filled_cut i fill writes c new filled) ∙ ap (λ b. journal (cond b (after_writes writes c) c)) (by_last (cases_eq (i + 1) (length writes)))
  where
    by_last : (i + 1 ≡ length writes) ⊎ (i + 1 ≡ length writes → ⊥) → (i + 1 == length writes && is_opened_gate (slice_index new (last_place writes))) ≡ false
    by_last (inl last) = and_right (i + 1 == length writes) (is_opened_gate (slice_index new (last_place writes)))
        (ap is_opened_gate (gate_left i fill writes c new whole.fit ends filled last) ∙ closed last)
    by_last (inr off) = and_left (i + 1 == length writes) (is_opened_gate (slice_index new (last_place writes))) (ne_eqb (i + 1) (length writes) off)

-- ## A commit that is cut: what its last gate decides

-- ### A record

module _ (content : List ℕ) (s : State) (t : HciTables) (k : Knows content s t) (c : Command) (may : IsCommand c)
    (room : length (body_of c) + 5 ≤ left s) (i : ℕ) (fill new : List ℕ) (filled : IsFilled i fill (append_writes s (body_of c)) content new)
    (closed : i + 1 ≡ 2 → is_opened_gate (slice_index fill 0) ≡ false) where
  whole : IsAllOrNothing (append_writes s (body_of c)) content
  whole = appending.all_or_nothing content (body_of c) s (says_of content s t k) (has_room content s t k c may room)

  -- its gate was not reached, or was left closed
  pub record_same : journal new ≡ journal content
  record_same = gate_closed i fill (append_writes s (body_of c)) content new whole refl filled closed

  record_closed : BootFinds new t (count_of s)
  record_closed = finds_still content new t (count_of s) k.finds
      (length-cut i (append_writes s (body_of c)) content new whole.fit (filled_cut i fill (append_writes s (body_of c)) content new filled)) record_same

-- ### A commit

module _ (content : List ℕ) (s : State) (t : HciTables) (c : Command) (k : Knows content s t) (are : AreTables t) (may : IsRecordable t)
    (command : IsCommand c) (room : FindsRoom s c) (i : ℕ) (fill new : List ℕ) (filled : IsFilled i fill (commit_writes s t (body_of c)) content new) where
  abbrev before : List Write
  before = room_writes s t (body_of c)

  abbrev record_of : List Write
  record_of = append_writes (with_room s t (body_of c)) (body_of c)

  pub many : length (commit_writes s t (body_of c)) ≡ length before + 2
  many = length-append before record_of

  -- in the writes of a snapshot, or in one of the two of the record
  abbrev Parts : Type 0
  Parts = ((i < length before) × IsFilled i fill before content new)
      ⊎ ((j : ℕ) × (i ≡ length before + j) × IsFilled j fill record_of (after_writes before content) new)

  pub parts : Parts
  parts = filled_append i fill before record_of content new filled

  -- its last gate was left open
  pub commit_opened : i + 1 ≡ length (commit_writes s t (body_of c)) → is_opened_gate (slice_index fill 0) ≡ true
      → Knows new (committed s t (body_of c)) (apply t c)
  commit_opened last opened = subst (λ x. Knows x (committed s t (body_of c)) (apply t c))
      (sym (gate_opened i fill (commit_writes s t (body_of c)) content new (ends_append before record_of refl) filled last opened))
      (commit_knows content s t c k are may command room)

  commit_closed : (i + 1 ≡ length (commit_writes s t (body_of c)) → is_opened_gate (slice_index fill 0) ≡ false) → BootFinds new t (count_of s)
  commit_closed closed = by_part parts where
    by_part : Parts → BootFinds new t (count_of s)
    by_part (inl front) =
        room_left content s t c k are may command room (record_fits s (body_of c)) refl i new (filled_cut i fill before content new front.1)
    by_part (inr back) =
        let r = room_knows content s t c k are may command room (record_fits s (body_of c)) refl in
        subst (λ n. BootFinds new t n) (room_count s t (body_of c))
        (record_closed (after_writes before content) (with_room s t (body_of c)) t r.0 c command r.1 back.0 fill new back.2
        (λ last. closed (omega (arith, last, back.1, many))))

-- ### Over a memory whose failing write is planned

module _ (m : Memory) (s : State) (t : HciTables) (c : Command) (fails : fails_within (length (commit_writes s t (body_of c))) m.plan ≡ true) where
  abbrev writes : List Write
  writes = commit_writes s t (body_of c)

  -- the number of the write that fails, from 0, what it is filled with, and that it does open this gate or not
  pub record Torn : Type 0 where
    pub i : ℕ
    pub fill : List ℕ
    pub within : i < length writes
    pub filled : IsFilled i fill writes m.content (after_planned writes m).content
    pub opened : (n : ℕ) → opens_gate n m.plan ≡ true → (i + 1 ≡ n) × (is_opened_gate (slice_index fill 0) ≡ true)
    pub closed : (n : ℕ) → opens_gate n m.plan ≡ false → i + 1 ≡ n → is_opened_gate (slice_index fill 0) ≡ false
    pub reached : (n : ℕ) → fails_within n m.plan ≡ true → i < n
    pub passed : (n : ℕ) → fails_within n m.plan ≡ false → n ≤ i

  pub torn : Torn
  torn = by_plan m.plan refl where
    by_plan : (o : Option Plan) → m.plan ≡ o → Torn
    by_plan None is = absurd (true≢false (sym (sym (ap (fails_within (length writes)) is) ∙ fails)))
    by_plan (Some p) is =
        let sides = and_parts (nat_le 1 p.nth) (nat_le p.nth (length writes)) (sym (ap (fails_within (length writes)) is) ∙ fails) in
        let low : 1 ≤ p.nth = leb-true 1 p.nth sides.0 in
        let within : p.nth - 1 < length writes = omega (arith, low, leb-true p.nth (length writes) sides.1) in
        let next : p.nth - 1 + 1 ≡ p.nth = omega (arith, low) in
        record {
          i = p.nth - 1;
          fill = p.fill;
          within = within;
          filled = planned_filled (p.nth - 1) p.fill writes m (is ∙ ap (λ n. Some (record { nth = n; fill = p.fill })) (omega (arith, low))) within;
          opened = grind arith;
          closed = λ n opens last. false_from_ne_true (is_opened_gate (slice_index p.fill 0)) (λ open_gate. grind arith);
          reached = grind arith;
          passed = λ n far. behind p low n (and_cases (nat_le 1 p.nth) (nat_le p.nth n) (sym (ap (fails_within n) is) ∙ far));
        }
      where
        behind : (p : Plan) → 1 ≤ p.nth → (n : ℕ) → (nat_le 1 p.nth ≡ false) ⊎ (nat_le p.nth n ≡ false) → n ≤ p.nth - 1
        behind p low n (inl none) = absurd (omega (arith, low, leb-false 1 p.nth none))
        behind p low n (inr far) = omega (arith, low, leb-false p.nth n far)

module _ (m : Memory) (s : State) (t : HciTables) (c : Command) (k : Knows m.content s t) (are : AreTables t) (may : IsRecordable t)
    (command : IsCommand c) (room : FindsRoom s c) (fails : fails_within (length (commit_writes s t (body_of c))) m.plan ≡ true) where
  abbrev all : List Write
  all = commit_writes s t (body_of c)

  abbrev new : List ℕ
  new = (after_planned all m).content

  abbrev cut : Torn m s t c fails
  cut = torn m s t c fails

  pub planned_opened : opens_gate (length all) m.plan ≡ true → BootFinds new (apply t c) (count_of (committed s t (body_of c)))
  planned_opened opens =
      let o = cut.opened (length all) opens in
      (commit_opened m.content s t c k are may command room cut.i cut.fill new cut.filled o.0 o.1).finds

  pub planned_closed : opens_gate (length all) m.plan ≡ false → BootFinds new t (count_of s)
  planned_closed opens = commit_closed m.content s t c k are may command room cut.i cut.fill new cut.filled (cut.closed (length all) opens)

  -- where fewer commands than a journal counts stand there, the two are different
  pub planned_only : count_of s < 2 ^ 32 - 1 → BootFinds new (apply t c) (count_of (committed s t (body_of c))) → opens_gate (length all) m.plan ≡ true
  planned_only few found = by_test (opens_gate (length all) m.plan)
      (λ opened. opened)
      (λ closed. let old = planned_closed closed in
      absurd (omega (arith, few, old.keeps.count_is, found.keeps.count_is, commit_count m.content s t c k are may command room)))

-- ## A commit that is cut: which bank is in use then

same_bank : (c d : List ℕ) → journal d ≡ journal c → current d ≡ current c
same_bank c d same = sym (in_use_is d) ∙ ap (λ (j : Journal). j.in_use) same ∙ in_use_is c

bank_of : (content : List ℕ) (s : State) (t : HciTables) → Knows content s t → current content ≡ s.in_use
bank_of content s t k = ap (λ (x : State). x.in_use) k.state_is

pub snapshot_ends : (s : State) (bodies : List (List ℕ)) → IsSome s.in_use → EndsInGate (compact_writes s bodies)
snapshot_ends s bodies used = grind arith

-- ### The writes of a snapshot

module _ (content : List ℕ) (s : State) (t : HciTables) (c : Command) (k : Knows content s t) (are : AreTables t) (may : IsRecordable t)
    (command : IsCommand c) (room : FindsRoom s c) (i : ℕ) (fill new : List ℕ) (filled : IsFilled i fill (room_writes s t (body_of c)) content new) where
  abbrev before_of_banks : List Write
  before_of_banks = room_writes s t (body_of c)

  abbrev by_room : Bool → List Write
  by_room b = cond b [] (compact_writes s (snapshot_bodies t))

  snapshot_stayed : (i + 1 ≡ length before_of_banks → is_opened_gate (slice_index fill 0) ≡ false) → current new ≡ s.in_use
  snapshot_stayed closed = by_fit (record_fits s (body_of c)) refl filled closed where
    by_fit : (b : Bool) → record_fits s (body_of c) ≡ b → IsFilled i fill (by_room b) content new
        → (i + 1 ≡ length (by_room b) → is_opened_gate (slice_index fill 0) ≡ false)
        → current new ≡ s.in_use
    by_fit true is filled closed = absurd filled
    by_fit false is filled closed =
        same_bank content new (gate_closed i fill (compact_writes s (snapshot_bodies t)) content new
        (compacting.all_or_nothing content (snapshot_bodies t) s (says_of content s t k)
        (can content s t k are may (next_of content s t c k are may command room is)))
        (snapshot_ends s (snapshot_bodies t) k.in_use) filled closed)
        ∙ bank_of content s t k

  snapshot_moved : i + 1 ≡ length before_of_banks → is_opened_gate (slice_index fill 0) ≡ true → current new ≡ (with_room s t (body_of c)).in_use
  snapshot_moved last opened = ap current (by_fit (record_fits s (body_of c)) filled last)
      ∙ bank_of (after_writes before_of_banks content) (with_room s t (body_of c)) t
      (room_knows content s t c k are may command room (record_fits s (body_of c)) refl).0
    where
      by_fit : (b : Bool) → IsFilled i fill (by_room b) content new → i + 1 ≡ length (by_room b) → new ≡ after_writes (by_room b) content
      by_fit true filled last = absurd filled
      by_fit false filled last =
          gate_opened i fill (compact_writes s (snapshot_bodies t)) content new (snapshot_ends s (snapshot_bodies t) k.in_use) filled last opened

-- ### The commit

module _ (m : Memory) (s : State) (t : HciTables) (c : Command) (k : Knows m.content s t) (are : AreTables t) (may : IsRecordable t)
    (command : IsCommand c) (room : FindsRoom s c) (fails : fails_within (length (commit_writes s t (body_of c))) m.plan ≡ true) where
  abbrev first : List Write
  first = room_writes s t (body_of c)

  abbrev left_of_banks : List ℕ
  left_of_banks = (after_planned (commit_writes s t (body_of c)) m).content

  abbrev cut_of_banks : Torn m s t c fails
  cut_of_banks = torn m s t c fails

  abbrev PartsOfBanks : Type 0
  PartsOfBanks = ((cut_of_banks.i < length first) × IsFilled cut_of_banks.i cut_of_banks.fill first m.content left_of_banks)
      ⊎ ((j : ℕ) × (cut_of_banks.i ≡ length first + j)
      × IsFilled j cut_of_banks.fill (append_writes (with_room s t (body_of c)) (body_of c)) (after_writes first m.content) left_of_banks)

  of_parts : PartsOfBanks
  of_parts = parts m.content s t c k are may command room cut_of_banks.i cut_of_banks.fill left_of_banks cut_of_banks.filled

  pub bank_stayed : fails_within (length first) m.plan ≡ true → opens_gate (length first) m.plan ≡ false → current left_of_banks ≡ s.in_use
  bank_stayed near opens = by_part of_parts where
    by_part : PartsOfBanks → current left_of_banks ≡ s.in_use
    by_part (inl front) =
        snapshot_stayed m.content s t c k are may command room cut_of_banks.i cut_of_banks.fill left_of_banks front.1 (cut_of_banks.closed (length first) opens)
    by_part (inr back) = absurd (omega (arith, back.1, cut_of_banks.reached (length first) near))

  record_moved : (j : ℕ) → cut_of_banks.i ≡ length first + j
      → IsFilled j cut_of_banks.fill (append_writes (with_room s t (body_of c)) (body_of c)) (after_writes first m.content) left_of_banks
      → current left_of_banks ≡ (with_room s t (body_of c)).in_use
  record_moved j is filled = by_test (opens_gate (length (commit_writes s t (body_of c))) m.plan)
      (λ opens. let o = cut_of_banks.opened (length (commit_writes s t (body_of c))) opens in
      bank_of left_of_banks (committed s t (body_of c)) (apply t c)
      (commit_opened m.content s t c k are may command room cut_of_banks.i cut_of_banks.fill left_of_banks cut_of_banks.filled o.0 o.1))
      (λ opens. let r = room_knows m.content s t c k are may command room (record_fits s (body_of c)) refl in
      same_bank (after_writes first m.content) left_of_banks
      (record_same (after_writes first m.content) (with_room s t (body_of c)) t r.0 c command r.1 j cut_of_banks.fill left_of_banks filled
      (λ last. cut_of_banks.closed (length (commit_writes s t (body_of c))) opens (omega (
        arith,
        last,
        is,
        many m.content s t c k are may command room cut_of_banks.i cut_of_banks.fill left_of_banks cut_of_banks.filled,
      ))))
      ∙ bank_of (after_writes first m.content) (with_room s t (body_of c)) t r.0)

  pub bank_moved : (fails_within (length first) m.plan ≡ false) ⊎ (opens_gate (length first) m.plan ≡ true)
      → current left_of_banks ≡ (with_room s t (body_of c)).in_use
  bank_moved moved = by_part of_parts moved where
    by_part : PartsOfBanks → (fails_within (length first) m.plan ≡ false) ⊎ (opens_gate (length first) m.plan ≡ true)
        → current left_of_banks ≡ (with_room s t (body_of c)).in_use
    by_part (inl front) (inl far) = absurd (omega (arith, front.0, cut_of_banks.passed (length first) far))
    by_part (inl front) (inr opens) =
        let o = cut_of_banks.opened (length first) opens in
        snapshot_moved m.content s t c k are may command room cut_of_banks.i cut_of_banks.fill left_of_banks front.1 o.0 o.1
    by_part (inr back) moved = record_moved back.0 back.1 back.2
