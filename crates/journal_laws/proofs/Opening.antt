-- What writes make of a journal, whole or cut: a bank that is opened, one more record, and what operations keep.
use Rattle.std.proofs.Common.{◌≡◌, ◌⊎◌, inl, inr, ℕ, zero, suc, ◌+◌, ◌<◌, ◌≤◌, Bool, true, false, ◌&&◌, ◌==◌, cond, List, [], ◌∷◌, length, get_or, take, drop}
use Rattle.std.proofs.Common.{slice_index, sym, refl, ap, ◌∙◌, subst, arith, append_assoc, length-take, eqb-true, ◌-◌, ◌*◌, ◌++◌, Option, Some, None, IsSome}
use Rattle.std.proofs.Common.{ap₂, append-nil, length-append, length-drop, drop_at, add_assoc, add-zero, zero-add, ◌^◌, min, replicate, option_map, get_or-take}
use Rattle.std.proofs.Common.{◌||◌, IsTrue}
use Rattle.std.proofs.lemmas.List.{get_or_at, length-replicate, take-replicate, drop-replicate}
use Rattle.std.proofs.lemmas.Bool.{cases_Bool}
use Rattle.std.proofs.lemmas.Bool.Decides.{nat_tests}
use Rattle.std.specs.Option.{option_map_or}
use Rattle.std.specs.List.{AllByRecursion}
use Rattle.swp_base.specs.Outside.{overwritten}
use Rattle.swp_base.proofs.WriteLemmas.{length-overwritten}
use Rattle.journal_laws.specs.Writes.{Write, write, after_writes, IsCut, FitIn, last_place}
use Rattle.journal_laws.specs.Banks.{is_opened_gate, other, bank_place, bank, head, head_of, current, newer}
use Rattle.journal_laws.specs.Journal.{journal, Journal, found_in, journal_at, state_by, state_of, IsStarted, count_of, count, IsSound}
use Rattle.journal_laws.specs.Operations.{outcome, IsAllOrNothing, record_writes, append_writes, HasRoomForBody, appended, bank_bytes, open_bank, format_writes}
use Rattle.journal_laws.specs.Operations.{compact_writes, IsUnformatted, formatted, CanCompact, compacted}
use Rattle.journal_laws.specs.declared.banks.Side.TheVariants.{First, Second}
use Rattle.journal_laws.specs.declared.banks.Side.{Side}
use Rattle.journal_laws.specs.declared.state.Head.{Head}
use Rattle.journal_laws.specs.Records.{IsBody, Found, nothing_found, behind, found_from, record_bytes, records_bytes, used}
use Rattle.journal_laws.proofs.Places.{overwritten-split, overwritten-right, length-bank, bank_beside, in_front, keeps_first, bank_here}
use Rattle.journal_laws.proofs.Reading.{Parts, parts, found_closed, record_is_read, records_are_read, length-records_bytes, few_records}
use Rattle.journal_laws.proofs.InUse.{journal_in_use, in_use_is, in_use_then, state_at, journal_inside, at_bank, closed_first, closed_second, gate_is_open}
use Rattle.journal_laws.proofs.InUse.{same_current, moves, still_none, first_opens, same_journal, no_journal, bank_across, head_across, journal_across}
use Rattle.journal_laws.specs.declared.state.State.{State}

pub length-after : (writes : List Write) (c : List ℕ) → FitIn (length c) writes → length (after_writes writes c) ≡ length c
length-after [] c fit = refl
length-after (w ∷ writes) c fit =
    let size = length-overwritten c w.at w.bytes fit.0 in
    length-after writes (overwritten c w.at w.bytes) (subst (λ n. FitIn n writes) (sym size) fit.1) ∙ size

pub length-cut : (k : ℕ) (writes : List Write) (c left : List ℕ) → FitIn (length c) writes → IsCut k writes c left → length left ≡ length c
length-cut k [] c left fit cut = absurd cut
length-cut zero (w ∷ writes) c left fit cut = ap length cut.2 ∙ length-overwritten c w.at cut.0 (omega (arith, cut.1, fit.0))
length-cut (suc k) (w ∷ writes) c left fit cut =
    let size = length-overwritten c w.at w.bytes fit.0 in
    length-cut k writes (overwritten c w.at w.bytes) left (subst (λ n. FitIn n writes) (sym size) fit.1) cut ∙ size

pub one_byte : (l : List ℕ) → length l ≡ 1 → l ≡ get_or l 0 0 ∷ []
one_byte [] one = absurd (omega arith)
one_byte (g ∷ []) one = refl
one_byte (g ∷ h ∷ l) one = absurd (omega arith)

pub at_place : (c : List ℕ) (at g : ℕ) → at < length c → slice_index (overwritten c at (g ∷ [])) at ≡ g
at_place c at g within =
    ap (λ l. slice_index l at) (append_assoc (take at c) (g ∷ []) (drop (at + 1) c))
    ∙ get_or_at (take at c) g (drop (at + 1) c) 0 at (omega (arith, length-take at c))

module _ (c : List ℕ) (w : Write) (at : ℕ) (fits : w.at + length w.bytes ≤ length c) (within : at < length c) where
  abbrev filled : List ℕ
  filled = overwritten c w.at w.bytes

  length-filled : length filled ≡ length c
  length-filled = length-overwritten c w.at w.bytes fits

  -- a body of any bytes, and then an open gate
  pub two_writes : ((torn : List ℕ) → length torn ≡ length w.bytes → journal (overwritten c w.at torn) ≡ journal c)
      → ((gate : ℕ) → is_opened_gate gate ≡ false → journal (overwritten filled at (gate ∷ [])) ≡ journal c)
      → IsAllOrNothing (w ∷ write at (90 ∷ []) ∷ []) c
  two_writes body shut = record { fit = (fits, (omega arith, tt)); says = says }
    where
      gate_left : (gate : ℕ) (left : List ℕ) → left ≡ overwritten filled at (gate ∷ [])
          → journal left ≡ journal (outcome 1 (w ∷ write at (90 ∷ []) ∷ []) c left)
      gate_left gate left is = by_gate (cases_Bool (is_opened_gate gate))
        where
          told : is_opened_gate (slice_index left at) ≡ is_opened_gate gate
          told = ap (λ l. is_opened_gate (slice_index l at)) is ∙ ap is_opened_gate (at_place filled at gate (omega (arith, length-filled)))

          by_gate : (is_opened_gate gate ≡ true) ⊎ (is_opened_gate gate ≡ false)
              → journal left ≡ journal (cond (is_opened_gate (slice_index left at)) (overwritten filled at (90 ∷ [])) c)
          by_gate (inl opened) =
              ap journal (is ∙ ap (λ g. overwritten filled at (g ∷ [])) (eqb-true gate 90 opened))
              ∙ ap (λ b. journal (cond b (overwritten filled at (90 ∷ [])) c)) (sym (told ∙ opened))
          by_gate (inr closed) =
              ap journal is ∙ shut gate closed ∙ ap (λ b. journal (cond b (overwritten filled at (90 ∷ [])) c)) (sym (told ∙ closed))

      says : (k : ℕ) (left : List ℕ) → IsCut k (w ∷ write at (90 ∷ []) ∷ []) c left → journal left ≡ journal (outcome k (w ∷ write at (90 ∷ []) ∷ []) c left)
      says zero left cut = ap journal cut.2 ∙ body cut.0 cut.1
      says (suc zero) left cut = gate_left (get_or cut.0 0 0) left (cut.2 ∙ ap (overwritten filled at) (one_byte cut.0 cut.1))
      says (suc (suc k)) left cut = absurd cut

-- a write in front of others, which changes nothing that the memory says
pub more_writes : (c : List ℕ) (w next : Write) (later : List Write) → w.at + length w.bytes ≤ length c
    → ((torn : List ℕ) → length torn ≡ length w.bytes → journal (overwritten c w.at torn) ≡ journal c)
    → IsAllOrNothing (next ∷ later) (overwritten c w.at w.bytes) → IsAllOrNothing (w ∷ next ∷ later) c
more_writes c w next later fits torn rest =
    record { fit = (fits, subst (λ n. FitIn n (next ∷ later)) (length-overwritten c w.at w.bytes fits) rest.fit); says = says }
  where
    choose : (b : Bool)
        → journal (cond b (after_writes (next ∷ later) (overwritten c w.at w.bytes)) (overwritten c w.at w.bytes))
        ≡ journal (cond b (after_writes (next ∷ later) (overwritten c w.at w.bytes)) c)
    choose b = grind arith

    not_last : (n : ℕ) → (0 + 1 == suc (suc n)) ≡ false
    not_last n = grind (arith, nat_tests)

    one_on : (k n : ℕ) → (k + 1 == n) ≡ (suc k + 1 == suc n)
    one_on k n = grind (arith, nat_tests)

    says : (k : ℕ) (left : List ℕ) → IsCut k (w ∷ next ∷ later) c left → journal left ≡ journal (outcome k (w ∷ next ∷ later) c left)
    says zero left cut = grind arith
    says (suc k) left cut = grind arith

-- ---- one more record

-- a bank without a bad record
module _ (b : List ℕ) (version : ℕ) (long : length b ≡ 32768) (good : (found_in version b).is_bad ≡ false) where
  abbrev f : Found
  f = found_in version b

  bank_parts : Parts version 0 (drop 12 b) f
  bank_parts = parts version (length b) 0 (drop 12 b) (omega (arith, length-drop 12 b)) (omega (arith, length-drop 12 b)) good

  bank_size : 12 + f.size + length bank_parts.rest ≡ 32768
  bank_size = omega (arith, length-drop 12 b, ap length bank_parts.whole, length-append bank_parts.front bank_parts.rest, bank_parts.size)

  many : 3 * length f.bodies + 12 < 32768
  many = omega (arith, bank_size, bank_parts.few, bank_parts.some)

  -- a write from the first closed gate on
  found_written : (i : ℕ) (bytes : List ℕ) → 12 + f.size + i + length bytes ≤ 32768
      → found_in version (overwritten b (12 + f.size + i) bytes)
      ≡ behind f.bodies f.size (found_from version (32768 - length f.bodies) (length f.bodies) (overwritten bank_parts.rest i bytes))
  found_written i bytes fits =
      let there = overwritten bank_parts.rest i bytes in
      let behind_head : drop 12 (overwritten b (12 + f.size + i) bytes) ≡ bank_parts.front ++ there =
      ap (drop 12) (ap (λ m. overwritten b m bytes) (add_assoc 12 f.size i) ∙ overwritten-split b 12 (f.size + i) bytes (omega arith))
      ∙ drop_at (take 12 b) (overwritten (drop 12 b) (f.size + i) bytes) 12 (omega (arith, length-take 12 b))
      ∙ ap (λ l. overwritten l (f.size + i) bytes) bank_parts.whole
      ∙ overwritten-right bank_parts.front bank_parts.rest f.size i bytes bank_parts.size in
      ap₂ (λ m l. found_from version m 0 l) (length-overwritten b (12 + f.size + i) bytes (omega arith) ∙ omega (arith, many)) behind_head
      ∙ bank_parts.again (32768 - length f.bodies) there
      (omega (arith, length-overwritten bank_parts.rest i bytes (omega (arith, bank_size)), bank_size, bank_parts.some))
      ∙ ap (λ m. behind f.bodies f.size (found_from version (32768 - length f.bodies) m there)) (zero-add (length f.bodies))

  nothing_new : behind f.bodies f.size nothing_found ≡ f
  nothing_new =
      ap₂ (λ l m. record { bodies = l; size = m; is_bad = false }) (append-nil f.bodies) (add-zero f.size)
      ∙ ap (λ t. record { bodies = f.bodies; size = f.size; is_bad = t }) (sym good)

  -- bytes behind the closed gate
  found_behind : (bytes : List ℕ) → 12 + f.size + 1 + length bytes ≤ 32768 → found_in version (overwritten b (12 + f.size + 1) bytes) ≡ f
  found_behind bytes fits =
      found_written 1 bytes fits
      ∙ ap (behind f.bodies f.size) (found_closed version (32768 - length f.bodies) (length f.bodies) (overwritten bank_parts.rest 1 bytes)
      (ap is_opened_gate (keeps_first bank_parts.rest bytes bank_parts.some) ∙ bank_parts.closed))
      ∙ nothing_new

  -- and then a closed gate
  found_shut : (gate : ℕ) (bytes : List ℕ) → is_opened_gate gate ≡ false → 12 + f.size + 1 + length bytes ≤ 32768
      → found_in version (overwritten b (12 + f.size) (gate ∷ bytes)) ≡ f
  found_shut gate bytes closed fits =
      ap (λ m. found_in version (overwritten b m (gate ∷ bytes))) (sym (add-zero (12 + f.size)))
      ∙ found_written 0 (gate ∷ bytes) (omega arith)
      ∙ ap (behind f.bodies f.size) (found_closed version (32768 - length f.bodies) (length f.bodies) (overwritten bank_parts.rest 0 (gate ∷ bytes)) closed)
      ∙ nothing_new

  -- or an open one
  found_more : (body : List ℕ) → version ≡ 2 → IsBody body → 12 + f.size + length body + 5 ≤ 32768
      → found_in version (overwritten b (12 + f.size) (90 ∷ record_bytes (length f.bodies) body ++ 255 ∷ []))
      ≡ record { bodies = f.bodies ++ body ∷ []; size = f.size + (4 + length body); is_bad = false }
  found_more body new short fits =
      let bytes = record_bytes (length f.bodies) body ++ 255 ∷ [] in
      let later = drop (0 + length (90 ∷ bytes)) bank_parts.rest in
      let most = 32768 - length f.bodies - 1 in
      ap (λ m. found_in version (overwritten b m (90 ∷ bytes))) (sym (add-zero (12 + f.size)))
      ∙ found_written 0 (90 ∷ bytes) (omega (arith, length-append body (255 ∷ [])))
      ∙ ap₂ (λ v m. behind f.bodies f.size (found_from v m (length f.bodies) (overwritten bank_parts.rest 0 (90 ∷ bytes)))) new (omega (arith, many))
      ∙ ap (λ l. behind f.bodies f.size (found_from 2 (suc most) (length f.bodies) l))
      (append_assoc (90 ∷ record_bytes (length f.bodies) body) (255 ∷ []) later)
      ∙ ap (behind f.bodies f.size) (record_is_read most (length f.bodies) body (255 ∷ later) (omega (arith, many)) short (omega arith))
      ∙ ap (λ r. behind f.bodies f.size (behind (body ∷ []) (4 + length body) r)) (found_closed 2 most (length f.bodies + 1) (255 ∷ later) refl)
      ∙ ap (λ m. record { bodies = f.bodies ++ body ∷ []; size = f.size + m; is_bad = false }) (add-zero (4 + length body))

-- ---- in a memory

pub place_low : (side : Side) → bank_place side ≤ 32768
place_low side = grind arith

pub bank_in_use : (o : Option Side) → IsSome o → (side : Side) × (o ≡ Some side)
bank_in_use o some = grind arith

-- what it says with one more record
abbrev pub one_more : Journal → List ℕ → Journal
one_more j body = record j { found = record { bodies = j.found.bodies ++ body ∷ []; size = j.found.size + (4 + length body); is_bad = false } }

module _ (c body : List ℕ) (started : IsStarted c) (h : HasRoomForBody (state_of c) body) (side : Side) (is : current c ≡ Some side) where
  abbrev body_bytes : Journal → List ℕ
  body_bytes j = record_bytes (length j.found.bodies) body ++ 255 ∷ []

  abbrev p : ℕ
  p = 12 + (found_in (head c side).version (bank c side)).size

  abbrev writes : List Write
  writes = write (bank_place side + p + 1) (body_bytes (journal_at c side)) ∷ write (bank_place side + p) (90 ∷ []) ∷ []

  append_seen : journal c ≡ journal_at c side
  append_seen = journal_in_use c side is

  append_planned : append_writes (state_of c) body ≡ writes
  append_planned = ap₂ (λ o (j : Journal). record_writes (option_map_or bank_place o 0 + (12 + j.found.size)) (length j.found.bodies) body) is append_seen

  good : (found_in (head c side).version (bank c side)).is_bad ≡ false
  good = sym (ap (λ (j : Journal). j.found.is_bad) append_seen) ∙ started.sound.good

  room : p + length body + 5 ≤ 32768
  room = omega (arith, h.room, ap (λ (j : Journal). j.found.size) append_seen)

  long : 65536 ≤ length c
  long = started.size

  -- the gate and the body together
  gate_and_body : (gate : ℕ)
      → journal (overwritten (overwritten c (bank_place side + p + 1) (body_bytes (journal_at c side))) (bank_place side + p) (gate ∷ []))
      ≡ record (journal_at c side) { found = found_in (head c side).version (overwritten (bank c side) p (gate ∷ body_bytes (journal_at c side))) }
  gate_and_body gate =
      ap journal (in_front c (bank_place side + p) gate (body_bytes (journal_at c side)) (omega (arith, long, room, place_low side)))
      ∙ journal_inside c side p (gate ∷ body_bytes (journal_at c side)) long (omega (arith, room, length-append body (255 ∷ []))) is (omega arith)

  pub append_is_whole : journal (after_writes (append_writes (state_of c) body) c) ≡ one_more (journal c) body
  append_is_whole =
      ap (λ ws. journal (after_writes ws c)) append_planned
      ∙ gate_and_body 90
      ∙ ap (λ f. record (journal_at c side) { found = f })
      (found_more (bank c side) (head c side).version (length-bank c side long) good body
      (sym (ap (λ (j : Journal). j.head.version) append_seen) ∙ h.version) h.short room)
      ∙ sym (ap (λ j. one_more j body) append_seen)

  -- the other bank stays
  append_beside_is : head (after_writes (append_writes (state_of c) body) c) (other side) ≡ head c (other side)
  append_beside_is =
      ap (λ ws. head (after_writes ws c) (other side)) append_planned
      ∙ ap (λ d. head d (other side)) (in_front c (bank_place side + p) 90 (body_bytes (journal_at c side)) (omega (arith, long, room, place_low side)))
      ∙ ap (λ l. head_of (take 12 l)) (bank_beside c side p (90 ∷ body_bytes (journal_at c side)) long (omega (arith, room, length-append body (255 ∷ []))))

  pub append_state : state_of (after_writes (append_writes (state_of c) body) c) ≡ appended (state_of c) body
  append_state =
      let d = after_writes (append_writes (state_of c) body) c in
      state_at d side (in_use_then d (one_more (journal c) body) (Some side) append_is_whole (in_use_is c ∙ is))
      ∙ ap₂ (λ (j : Journal) (h : Head). state_by (Some side) j (is_opened_gate h.gate)) append_is_whole append_beside_is
      ∙ ap (λ n. record
      (state_by (Some side) (journal c) (is_opened_gate (head c (other side)).gate)) { many = n; size = (journal c).found.size + (4 + length body) })
      (length-append (journal c).found.bodies (body ∷ []))
      ∙ ap (λ s. appended s body) (sym (state_at c side is))

  pub append_is_cut : IsAllOrNothing (append_writes (state_of c) body) c
  append_is_cut = subst (λ ws. IsAllOrNothing ws c) (sym append_planned)
      (two_writes c (write (bank_place side + p + 1) (body_bytes (journal_at c side))) (bank_place side + p)
      (omega (arith, long, room, place_low side, length-append body (255 ∷ []))) (omega (arith, long, room, place_low side))
      (λ torn size.
      ap (λ m. journal (overwritten c m torn)) (add_assoc (bank_place side) p 1)
      ∙ journal_inside c side (p + 1) torn long (omega (arith, room, size, length-append body (255 ∷ []))) is (omega arith)
      ∙ ap (λ f. record (journal_at c side) { found = f })
      (found_behind (bank c side) (head c side).version (length-bank c side long) good torn (omega (arith, room, size, length-append body (255 ∷ []))))
      ∙ sym append_seen)
      (λ gate closed.
      gate_and_body gate
      ∙ ap (λ f. record (journal_at c side) { found = f })
      (found_shut (bank c side) (head c side).version (length-bank c side long) good gate (body_bytes (journal_at c side)) closed
      (omega (arith, room, length-append body (255 ∷ []))))
      ∙ sym append_seen))

-- ---- a bank that is filled and opened: a format, and a compaction

length-bank_bytes : (generation base : ℕ) (bodies : List (List ℕ)) → length (bank_bytes generation base bodies) ≡ 12 + used bodies
length-bank_bytes generation base bodies = omega (arith, length-append (records_bytes 0 bodies) (255 ∷ []), length-records_bytes 0 bodies)

filled_found : (generation base : ℕ) (bodies : List (List ℕ)) (rest : List ℕ) → length ((90 ∷ bank_bytes generation base bodies) ++ rest) ≡ 32768
    → length bodies < 2 ^ 15 → AllByRecursion IsBody bodies
    → found_in 2 ((90 ∷ bank_bytes generation base bodies) ++ rest) ≡ record { bodies = bodies; size = used bodies; is_bad = false }
filled_found generation base bodies rest size few short =
    let most = 32768 - length bodies in
    ap₂ (λ m l. found_from 2 m 0 l) (size ∙ omega arith) (append_assoc (records_bytes 0 bodies) (255 ∷ []) rest)
    ∙ records_are_read most 0 bodies (255 ∷ rest) (omega arith) short (omega arith)
    ∙ ap (behind bodies (length (records_bytes 0 bodies))) (found_closed 2 most (0 + length bodies) (255 ∷ rest) refl)
    ∙ ap₂ (λ l m. record { bodies = l; size = m; is_bad = false }) (append-nil bodies)
    (add-zero (length (records_bytes 0 bodies)) ∙ length-records_bytes 0 bodies)

gate-head : (c : List ℕ) (side : Side) → (head c side).gate ≡ slice_index (bank c side) 0
gate-head c side = get_or-take 12 (bank c side) 0 0 (omega arith)

-- ---- a bank of a memory

module _ (c : List ℕ) (side : Side) (long : 65536 ≤ length c) where
  torn_gate : (torn : List ℕ) → 1 + length torn ≤ 32768 → (head (overwritten c (bank_place side + 1) torn) side).gate ≡ (head c side).gate
  torn_gate torn fits =
      gate-head (overwritten c (bank_place side + 1) torn) side ∙ ap (λ l. slice_index l 0) (bank_here c side 1 torn long fits)
      ∙ keeps_first (bank c side) torn (omega (arith, length-bank c side long)) ∙ sym (gate-head c side)

  bank_at_gate : (gate : ℕ) (bytes : List ℕ) → 1 + length bytes ≤ 32768
      → bank (overwritten c (bank_place side) (gate ∷ bytes)) side ≡ overwritten (bank c side) 0 (gate ∷ bytes)
  bank_at_gate gate bytes fits =
      ap (λ m. bank (overwritten c m (gate ∷ bytes)) side) (sym (add-zero (bank_place side))) ∙ bank_here c side 0 (gate ∷ bytes) long (omega arith)

  new_gate : (gate : ℕ) (bytes : List ℕ) → 1 + length bytes ≤ 32768 → (head (overwritten c (bank_place side) (gate ∷ bytes)) side).gate ≡ gate
  new_gate gate bytes fits = gate-head (overwritten c (bank_place side) (gate ∷ bytes)) side ∙ ap (λ l. slice_index l 0) (bank_at_gate gate bytes fits)

  opened_bank : (generation base : ℕ) (bodies : List (List ℕ)) → generation < 2 ^ 32 → base < 2 ^ 32 → AllByRecursion IsBody bodies → used bodies ≤ 2560
      → journal_at (overwritten c (bank_place side) (90 ∷ bank_bytes generation base bodies)) side
      ≡ record {
        in_use = Some side;
        head = record { gate = 90; version = 2; generation = generation; base = base; snapshot = length bodies };
        found = record { bodies = bodies; size = used bodies; is_bad = false };
      }
  opened_bank generation base bodies low_generation low_base short room =
      let bytes = bank_bytes generation base bodies in
      let rest = drop (0 + length (90 ∷ bytes)) (bank c side) in
      let size = length-bank_bytes generation base bodies in
      let few = few_records bodies in
      ap (at_bank side) (bank_at_gate 90 bytes (omega arith))
      ∙ ap₂ (λ h f. record { in_use = Some side; head = h; found = f })
      (grind arith)
      (filled_found generation base bodies rest
      (length-overwritten (bank c side) 0 (90 ∷ bytes) (omega (arith, length-bank c side long)) ∙ length-bank c side long) (omega arith) short)

-- ---- the first bank, where no gate stands open

-- what a formatted memory says
abbrev pub no_records : Journal
no_records = record {
  in_use = Some First;
  head = record { gate = 90; version = 2; generation = 1; base = 0; snapshot = 0 };
  found = record { bodies = []; size = 0; is_bad = false };
}

module _ (c : List ℕ) (h : IsUnformatted c) where
  abbrev format_bytes : List ℕ
  format_bytes = bank_bytes 1 0 []

  second_stays : (i : ℕ) (bytes : List ℕ) → i + length bytes ≤ 32768 → head (overwritten c (bank_place First + i) bytes) Second ≡ head c Second
  second_stays i bytes fits = ap (λ l. head_of (take 12 l)) (bank_beside c First i bytes h.size fits)

  unused : (d : List ℕ) → current d ≡ None → journal d ≡ journal c
  unused d is = no_journal d is ∙ sym (no_journal c h.closed)

  format_opens : current (after_writes format_writes c) ≡ Some First
  format_opens =
      let d = overwritten c (bank_place First) (90 ∷ format_bytes) in
      ap current (in_front c (bank_place First) 90 format_bytes (omega (arith, h.size)))
      ∙ first_opens c d h.closed (ap is_opened_gate (new_gate c First h.size 90 format_bytes (omega arith))) (second_stays 0 (90 ∷ format_bytes) (omega arith))

  pub format_is_whole : journal (after_writes format_writes c) ≡ no_records
  format_is_whole =
      let d = overwritten c (bank_place First) (90 ∷ format_bytes) in
      let opened = first_opens c d h.closed (ap is_opened_gate (new_gate c First h.size 90 format_bytes (omega arith)))
      (second_stays 0 (90 ∷ format_bytes) (omega arith)) in
      ap journal (in_front c (bank_place First) 90 format_bytes (omega (arith, h.size)))
      ∙ journal_in_use d First opened
      ∙ opened_bank c First h.size 1 0 [] (omega arith) (omega arith) tt (omega arith)

  pub format_state : state_of (after_writes format_writes c) ≡ formatted
  format_state =
      state_at (after_writes format_writes c) First format_opens
      ∙ ap₂ (λ (j : Journal) (b : Bool). state_by (Some First) j b) format_is_whole
      (ap (λ d. is_opened_gate (head d Second).gate) (in_front c (bank_place First) 90 format_bytes (omega (arith, h.size)))
      ∙ ap (λ (h : Head). is_opened_gate h.gate) (second_stays 0 (90 ∷ format_bytes) (omega arith))
      ∙ closed_second c h.closed)

  pub format_is_cut : IsAllOrNothing format_writes c
  format_is_cut =
      two_writes c (write (bank_place First + 1) format_bytes) (bank_place First) (omega (arith, h.size)) (omega (arith, h.size))
      (λ torn size. unused (overwritten c (bank_place First + 1) torn) (still_none c (overwritten c (bank_place First + 1) torn) h.closed
      (ap is_opened_gate (torn_gate c First h.size torn (omega (arith, size))) ∙ closed_first c h.closed) (second_stays 1 torn (omega (arith, size)))))
      (λ gate closed. ap journal (in_front c (bank_place First) gate format_bytes (omega (arith, h.size)))
      ∙ unused (overwritten c (bank_place First) (gate ∷ format_bytes)) (still_none c (overwritten c (bank_place First) (gate ∷ format_bytes)) h.closed
      (ap is_opened_gate (new_gate c First h.size gate format_bytes (omega arith)) ∙ closed) (second_stays 0 (gate ∷ format_bytes) (omega arith))))

-- a memory of FF
pub fresh : (size : ℕ) → 65536 ≤ size → IsUnformatted (replicate size 255)
fresh size long = record { size = omega (arith, length-replicate {A = ℕ} size 255); closed = ap₂ newer (ff_head 0 (omega arith)) (ff_head 32768 (omega arith)) }
  where
    ff_head : (at : ℕ) → at + 32768 ≤ size → head_of (take 12 (take 32768 (drop at (replicate size 255)))) ≡ head_of (replicate 12 255)
    ff_head at fits =
        ap (λ l. head_of (take 12 (take 32768 l))) (drop-replicate at size 255)
        ∙ ap (λ l. head_of (take 12 l)) (take-replicate 32768 (size - at) 255 (omega arith))
        ∙ ap head_of (take-replicate 12 32768 255 (omega arith))

-- ---- the other bank, whose gate is closed

module _ (c : List ℕ) (side : Side) (long : 65536 ≤ length c) (is : current c ≡ Some side) (shut : is_opened_gate (head c (other side)).gate ≡ false)
    (generation base : ℕ) (bodies : List (List ℕ)) (low_generation : generation < 2 ^ 32) (low_base : base < 2 ^ 32) (short : AllByRecursion IsBody bodies)
    (room : used bodies ≤ 2560) (later : (head c side).generation < generation) where
  abbrev bytes : List ℕ
  bytes = bank_bytes generation base bodies

  size : length bytes ≡ 12 + used bodies
  size = length-bank_bytes generation base bodies

  within : bank_place (other side) + 32768 ≤ length c
  within = omega (arith, long, place_low (other side))

  across : (gate : ℕ) (bytes : List ℕ) → 1 + length bytes ≤ 32768 → head (overwritten c (bank_place (other side)) (gate ∷ bytes)) side ≡ head c side
  across gate bytes fits = ap (λ m. head (overwritten c m (gate ∷ bytes)) side) (sym (add-zero (bank_place (other side))))
      ∙ head_across c side 0 (gate ∷ bytes) long (omega arith)

  filled_is_whole : journal (after_writes (open_bank (bank_place (other side)) generation base bodies) c)
      ≡ record {
        in_use = Some (other side);
        head = record { gate = 90; version = 2; generation = generation; base = base; snapshot = length bodies };
        found = record { bodies = bodies; size = used bodies; is_bad = false };
      }
  filled_is_whole =
      let d = overwritten c (bank_place (other side)) (90 ∷ bytes) in
      let there = opened_bank c (other side) long generation base bodies low_generation low_base short room in
      let moved = moves c d side is (across 90 bytes (omega (arith, size, room))) (ap (λ (j : Journal). is_opened_gate j.head.gate) there)
      (subst (λ n. (head c side).generation < n) (sym (ap (λ (j : Journal). j.head.generation) there)) later) in
      ap journal (in_front c (bank_place (other side)) 90 bytes (omega (arith, within)))
      ∙ journal_in_use d (other side) moved
      ∙ there

  filled_beside : is_opened_gate (head (after_writes (open_bank (bank_place (other side)) generation base bodies) c) side).gate ≡ true
  filled_beside =
      ap (λ d. is_opened_gate (head d side).gate) (in_front c (bank_place (other side)) 90 bytes (omega (arith, within)))
      ∙ ap (λ (h : Head). is_opened_gate h.gate) (across 90 bytes (omega (arith, size, room)))
      ∙ gate_is_open c c side is

  filled_is_cut : IsAllOrNothing (open_bank (bank_place (other side)) generation base bodies) c
  filled_is_cut =
      two_writes c (write (bank_place (other side) + 1) bytes) (bank_place (other side)) (omega (arith, within, size, room)) (omega (arith, within))
      (λ torn length_is. (journal_across c side 1 torn long (omega (arith, length_is, size, room)) is
      (ap is_opened_gate (torn_gate c (other side) long torn (omega (arith, length_is, size, room))) ∙ shut)).1)
      (λ gate closed. ap journal (in_front c (bank_place (other side)) gate bytes (omega (arith, within)))
      ∙ closed_again gate bytes closed (omega (arith, size, room)))
    where
      closed_again : (gate : ℕ) (bytes : List ℕ) → is_opened_gate gate ≡ false → 1 + length bytes ≤ 32768
          → journal (overwritten c (bank_place (other side)) (gate ∷ bytes)) ≡ journal c
      closed_again gate bytes closed fits =
          ap (λ m. journal (overwritten c m (gate ∷ bytes))) (sym (add-zero (bank_place (other side))))
          ∙ (journal_across c side 0 (gate ∷ bytes) long (omega arith) is
          (ap (λ m. is_opened_gate (head (overwritten c m (gate ∷ bytes)) (other side)).gate) (add-zero (bank_place (other side)))
          ∙ ap is_opened_gate (new_gate c (other side) long gate bytes fits) ∙ closed)).1

-- ---- a compaction

same_byte : (l : List ℕ) (gate : ℕ) → 0 < length l → slice_index l 0 ≡ gate → overwritten l 0 (gate ∷ []) ≡ l
same_byte l gate some is = grind arith

module _ (c : List ℕ) (side : Side) (long : 65536 ≤ length c) (is : current c ≡ Some side) where
  -- a closed gate is written over the other bank's
  closed_then : (gate : ℕ) → is_opened_gate gate ≡ false
      → (current (overwritten c (bank_place (other side)) (gate ∷ [])) ≡ Some side)
      × (journal (overwritten c (bank_place (other side)) (gate ∷ [])) ≡ journal c)
  closed_then gate closed = subst (λ m. (current (overwritten c m (gate ∷ [])) ≡ Some side) × (journal (overwritten c m (gate ∷ [])) ≡ journal c))
      (add-zero (bank_place (other side)))
      (journal_across c side 0 (gate ∷ []) long (omega arith) is
      (ap (λ m. is_opened_gate (head (overwritten c m (gate ∷ [])) (other side)).gate) (add-zero (bank_place (other side)))
      ∙ ap is_opened_gate (new_gate c (other side) long gate [] (omega arith)) ∙ closed))

  -- an open one is written over an open one
  opened_again : is_opened_gate (head c (other side)).gate ≡ true → journal (overwritten c (bank_place (other side)) (90 ∷ [])) ≡ journal c
  opened_again opened =
      let d = overwritten c (bank_place (other side)) (90 ∷ []) in
      let gate : slice_index (bank c (other side)) 0 ≡ 90 = sym (gate-head c (other side)) ∙ eqb-true (head c (other side)).gate 90 opened in
      let there : bank d (other side) ≡ bank c (other side) = bank_at_gate c (other side) long 90 [] (omega arith)
      ∙ same_byte (bank c (other side)) 90 (omega (arith, length-bank c (other side) long)) gate in
      let here : bank d side ≡ bank c side = ap (λ m. bank (overwritten c m (90 ∷ [])) side) (sym (add-zero (bank_place (other side))))
      ∙ bank_across c side 0 (90 ∷ []) long (omega arith) in
      same_journal c d side is (same_current c d side (ap (λ l. head_of (take 12 l)) here) (ap (λ l. head_of (take 12 l)) there) ∙ is) here

  -- any byte
  gate_written : is_opened_gate (head c (other side)).gate ≡ true → (torn : List ℕ) → length torn ≡ 1
      → journal (overwritten c (bank_place (other side)) torn) ≡ journal c
  gate_written opened torn one =
      ap (λ l. journal (overwritten c (bank_place (other side)) l)) (one_byte torn one) ∙ by_gate (cases_Bool (is_opened_gate (get_or torn 0 0)))
    where
      by_gate : (is_opened_gate (get_or torn 0 0) ≡ true) ⊎ (is_opened_gate (get_or torn 0 0) ≡ false)
          → journal (overwritten c (bank_place (other side)) (get_or torn 0 0 ∷ [])) ≡ journal c
      by_gate (inl open_gate) = ap (λ g. journal (overwritten c (bank_place (other side)) (g ∷ []))) (eqb-true (get_or torn 0 0) 90 open_gate)
          ∙ opened_again opened
      by_gate (inr closed) = (closed_then (get_or torn 0 0) closed).1

-- what it says with the records of a snapshot
abbrev pub snapshot_journal : State → List (List ℕ) → Journal
snapshot_journal s bodies = record {
  in_use = option_map other s.in_use;
  head = record { gate = 90; version = 2; generation = s.generation + 1; base = count_of s; snapshot = length bodies };
  found = record { bodies = bodies; size = used bodies; is_bad = false };
}

module _ (c : List ℕ) (bodies : List (List ℕ)) (long : 65536 ≤ length c) (h : CanCompact (state_of c) bodies) (side : Side) (is : current c ≡ Some side) where
  seen : journal c ≡ journal_at c side
  seen = journal_in_use c side is

  abbrev generation : ℕ
  generation = (head c side).generation + 1

  low : generation < 2 ^ 32
  low = subst (λ (j : Journal). j.head.generation + 1 < 2 ^ 32) seen h.generation

  low_count : count c < 2 ^ 32
  low_count = grind arith

  abbrev filling : List Write
  filling = open_bank (bank_place (other side)) generation (count c) bodies

  abbrev closing : Bool → List Write
  closing opened = cond opened (write (bank_place (other side)) (255 ∷ []) ∷ []) []

  planned : (opened : Bool) → is_opened_gate (head c (other side)).gate ≡ opened → compact_writes (state_of c) bodies ≡ closing opened ++ filling
  planned opened gate = grind arith

  abbrev made : Journal
  made = record {
    in_use = Some (other side);
    head = record { gate = 90; version = 2; generation = generation; base = count c; snapshot = length bodies };
    found = record { bodies = bodies; size = used bodies; is_bad = false };
  }

  made_is : snapshot_journal (state_of c) bodies ≡ made
  made_is = grind arith

  -- the memory with the other bank closed
  abbrev c1 : List ℕ
  c1 = overwritten c (bank_place (other side)) (255 ∷ [])

  long1 : 65536 ≤ length c1
  long1 = omega (arith, long, length-overwritten c (bank_place (other side)) (255 ∷ []) (omega (arith, long, place_low (other side))))

  is1 : current c1 ≡ Some side
  is1 = (closed_then c side long is 255 refl).0

  shut1 : is_opened_gate (head c1 (other side)).gate ≡ false
  shut1 = ap is_opened_gate (new_gate c (other side) long 255 [] (omega arith))

  later1 : (head c1 side).generation < generation
  later1 =
      let same = ap (λ m. (head (overwritten c m (255 ∷ [])) side).generation) (sym (add-zero (bank_place (other side))))
      ∙ ap (λ (h : Head). h.generation) (head_across c side 0 (255 ∷ []) long (omega arith)) in
      subst (λ n. n < generation) (sym same) (omega arith)

  pub compact_is_whole : journal (after_writes (compact_writes (state_of c) bodies) c) ≡ snapshot_journal (state_of c) bodies
  compact_is_whole = by_gate (cases_Bool (is_opened_gate (head c (other side)).gate)) ∙ sym made_is
    where
      by_gate : (is_opened_gate (head c (other side)).gate ≡ true) ⊎ (is_opened_gate (head c (other side)).gate ≡ false)
          → journal (after_writes (compact_writes (state_of c) bodies) c) ≡ made
      by_gate (inl opened) = ap (λ ws. journal (after_writes ws c)) (planned true opened)
          ∙ filled_is_whole c1 side long1 is1 shut1 generation (count c) bodies low low_count h.short h.room later1
      by_gate (inr shut) = ap (λ ws. journal (after_writes ws c)) (planned false shut)
          ∙ filled_is_whole c side long is shut generation (count c) bodies low low_count h.short h.room (omega arith)

  beside_is : is_opened_gate (head (after_writes (compact_writes (state_of c) bodies) c) side).gate ≡ true
  beside_is = by_gate (cases_Bool (is_opened_gate (head c (other side)).gate))
    where
      by_gate : (is_opened_gate (head c (other side)).gate ≡ true) ⊎ (is_opened_gate (head c (other side)).gate ≡ false)
          → is_opened_gate (head (after_writes (compact_writes (state_of c) bodies) c) side).gate ≡ true
      by_gate (inl opened) = ap (λ ws. is_opened_gate (head (after_writes ws c) side).gate) (planned true opened)
          ∙ filled_beside c1 side long1 is1 shut1 generation (count c) bodies low low_count h.short h.room later1
      by_gate (inr shut) = ap (λ ws. is_opened_gate (head (after_writes ws c) side).gate) (planned false shut)
          ∙ filled_beside c side long is shut generation (count c) bodies low low_count h.short h.room (omega arith)

  pub compact_state : state_of (after_writes (compact_writes (state_of c) bodies) c) ≡ compacted (state_of c) bodies
  compact_state =
      let d = after_writes (compact_writes (state_of c) bodies) c in
      state_at d (other side) (in_use_then d made (Some (other side)) (compact_is_whole ∙ made_is) refl)
      ∙ ap₂ (λ (j : Journal) (b : Bool). state_by (Some (other side)) j b) (compact_is_whole ∙ made_is)
      (ap (λ s. is_opened_gate (head d s).gate) (grind arith) ∙ beside_is)
      ∙ ap₂ (λ (o : Option Side) (j : Journal). record (compacted (state_of c) bodies) { in_use = option_map other o; generation = j.head.generation + 1 })
      (sym is) (sym seen)

  pub compact_is_cut : IsAllOrNothing (compact_writes (state_of c) bodies) c
  compact_is_cut = by_gate (cases_Bool (is_opened_gate (head c (other side)).gate))
    where
      by_gate : (is_opened_gate (head c (other side)).gate ≡ true) ⊎ (is_opened_gate (head c (other side)).gate ≡ false)
          → IsAllOrNothing (compact_writes (state_of c) bodies) c
      by_gate (inl opened) = subst (λ ws. IsAllOrNothing ws c) (sym (planned true opened))
          (more_writes c (write (bank_place (other side)) (255 ∷ [])) (write (bank_place (other side) + 1) (bank_bytes generation (count c) bodies))
          (write (bank_place (other side)) (90 ∷ []) ∷ [])
          (omega (arith, long, place_low (other side))) (gate_written c side long is opened)
          (filled_is_cut c1 side long1 is1 shut1 generation (count c) bodies low low_count h.short h.room later1))
      by_gate (inr shut) = subst (λ ws. IsAllOrNothing ws c) (sym (planned false shut))
          (filled_is_cut c side long is shut generation (count c) bodies low low_count h.short h.room (omega arith))

-- ---- the memory of a started journal stays one

-- nothing is wrong with it, and a bank is in use
abbrev IsGood : Journal → Type 0
IsGood j = IsSome j.in_use × IsSound j

started_from : (c : List ℕ) (j : Journal) → 65536 ≤ length c → journal c ≡ j → IsGood j → IsStarted c
started_from c j long is good = record {
  size = long;
  in_use = subst IsSome (sym (in_use_then c j j.in_use is refl)) good.0;
  sound = subst IsSound (sym is) good.1;
}

good_now : (c : List ℕ) → IsStarted c → IsGood (journal c)
good_now c started = (subst IsSome (sym (in_use_is c)) started.in_use, started.sound)

version_2 : (j : Journal) → j.head.version ≡ 2 → j.found.is_bad ≡ false → IsSound j
version_2 j new good = record { known = subst (λ v. IsTrue (v == 1 || v == 2)) (sym new) refl; good = good }

after_started : (c : List ℕ) (writes : List Write) (j : Journal) → 65536 ≤ length c → IsAllOrNothing writes c → journal (after_writes writes c) ≡ j → IsGood j
    → IsStarted (after_writes writes c)
after_started c writes j long whole is good = started_from (after_writes writes c) j (omega (arith, length-after writes c whole.fit)) is good

module _ (c body : List ℕ) (started : IsStarted c) (h : HasRoomForBody (state_of c) body) where
  abbrev bank_used : (side : Side) × (current c ≡ Some side)
  bank_used = bank_in_use (current c) started.in_use

  pub append_cut : IsAllOrNothing (append_writes (state_of c) body) c
  append_cut = append_is_cut c body started h bank_used.0 bank_used.1

  pub append_whole : journal (after_writes (append_writes (state_of c) body) c) ≡ one_more (journal c) body
  append_whole = append_is_whole c body started h bank_used.0 bank_used.1

  pub append_says : state_of (after_writes (append_writes (state_of c) body) c) ≡ appended (state_of c) body
  append_says = append_state c body started h bank_used.0 bank_used.1

  pub append_started : IsStarted (after_writes (append_writes (state_of c) body) c)
  append_started =
      after_started c (append_writes (state_of c) body) (one_more (journal c) body) started.size append_cut append_whole
      ((good_now c started).0, version_2 (one_more (journal c) body) h.version refl)

pub append_count : (s : State) (body : List ℕ) → s.snapshot ≤ s.base + s.many → count_of (appended s body) ≡ min (count_of s + 1) (2 ^ 32 - 1)
append_count s body enough = omega arith

module _ (c : List ℕ) (bodies : List (List ℕ)) (started : IsStarted c) (h : CanCompact (state_of c) bodies) where
  abbrev side_now : (side : Side) × (current c ≡ Some side)
  side_now = bank_in_use (current c) started.in_use

  pub compact_cut : IsAllOrNothing (compact_writes (state_of c) bodies) c
  compact_cut = compact_is_cut c bodies started.size h side_now.0 side_now.1

  pub compact_whole : journal (after_writes (compact_writes (state_of c) bodies) c) ≡ snapshot_journal (state_of c) bodies
  compact_whole = compact_is_whole c bodies started.size h side_now.0 side_now.1

  pub compact_says : state_of (after_writes (compact_writes (state_of c) bodies) c) ≡ compacted (state_of c) bodies
  compact_says = compact_state c bodies started.size h side_now.0 side_now.1

  pub compact_started : IsStarted (after_writes (compact_writes (state_of c) bodies) c)
  compact_started =
      after_started c (compact_writes (state_of c) bodies) (snapshot_journal (state_of c) bodies) started.size compact_cut compact_whole
      (still_used (current c) started.in_use, version_2 (snapshot_journal (state_of c) bodies) refl refl)
    where
      still_used : (o : Option Side) → IsSome o → IsSome (option_map other o)
      still_used o some = grind arith

pub compact_count : (s : State) (bodies : List (List ℕ)) → count_of (compacted s bodies) ≡ count_of s
compact_count s bodies = grind arith

pub format_started : (c : List ℕ) → IsUnformatted c → IsStarted (after_writes format_writes c)
format_started c h = after_started c format_writes no_records h.size (format_is_cut c h) (format_is_whole c h) (refl, version_2 no_records refl refl)

pub cut_started : (c : List ℕ) (writes : List Write) (k : ℕ) (left : List ℕ) → IsAllOrNothing writes c → IsStarted c → IsStarted (after_writes writes c)
    → IsCut k writes c left → IsStarted left
cut_started c writes k left whole before done cut =
    started_from left (journal (outcome k writes c left)) (omega (arith, before.size, length-cut k writes c left whole.fit cut)) (whole.says k left cut)
    (either (k + 1 == length writes && is_opened_gate (slice_index left (last_place writes))))
  where
    either : (b : Bool) → IsGood (journal (cond b (after_writes writes c) c))
    either true = good_now (after_writes writes c) done
    either false = good_now c before

still_unformatted : (c left : List ℕ) → length left ≡ length c → IsUnformatted c → journal left ≡ journal c → IsUnformatted left
still_unformatted c left size h says =
    record { size = omega (arith, size, h.size); closed = in_use_then left (journal c) None says (in_use_is c ∙ h.closed) }

pub format_left : (c : List ℕ) (k : ℕ) (left : List ℕ) → IsUnformatted c → IsCut k format_writes c left → IsUnformatted left ⊎ IsStarted left
format_left c k left h cut = either (k + 1 == length format_writes && is_opened_gate (slice_index left (last_place format_writes))) (whole.says k left cut)
  where
    whole : IsAllOrNothing format_writes c
    whole = format_is_cut c h

    size : length left ≡ length c
    size = length-cut k format_writes c left whole.fit cut

    either : (b : Bool) → journal left ≡ journal (cond b (after_writes format_writes c) c) → IsUnformatted left ⊎ IsStarted left
    either true says = inr (started_from left no_records (omega (arith, size, h.size)) (says ∙ format_is_whole c h) (refl, version_2 no_records refl refl))
    either false says = inl (still_unformatted c left size h says)

-- what a cut leaves has the count of the memory that it stands for
pub same_count : (c d : List ℕ) → journal c ≡ journal d → count c ≡ count d
same_count c d says = ap (λ (j : Journal). min (j.head.base + length j.found.bodies - j.head.snapshot) (2 ^ 32 - 1)) says
