-- Which bank is in use after a write.
use Rattle.std.proofs.Common.{◌≡◌, ℕ, ◌+◌, ◌<◌, ◌≤◌, true, false, List, ◌++◌, length, take, drop, Option, Some, None, sym, refl, ap, ap₂, ◌∙◌, arith}
use Rattle.std.proofs.Common.{append_assoc, length-take, take-take}
use Rattle.std.specs.Option.{option_map_or}
use Rattle.std.proofs.lemmas.List.{take-append-le}
use Rattle.std.proofs.lemmas.Bool.{lt-ltb}
use Rattle.swp_base.specs.Outside.{overwritten}
use Rattle.journal_laws.specs.declared.banks.Side.{Side}
use Rattle.journal_laws.specs.declared.state.Head.{Head}
use Rattle.journal_laws.specs.Banks.{other, bank_place, bank, head, head_of, is_opened_gate, newer, current}
use Rattle.journal_laws.specs.declared.banks.Side.TheVariants.{First, Second}
use Rattle.journal_laws.specs.Journal.{Journal, unformatted, found_in, journal_at, journal, state_by, state_of}
use Rattle.journal_laws.proofs.Places.{bank_here, bank_beside, length-bank}

-- ---- by the heads

opened_first : (h k : Head) → newer h k ≡ Some First → is_opened_gate h.gate ≡ true
opened_first h k is = grind arith

opened_second : (h k : Head) → newer h k ≡ Some Second → is_opened_gate k.gate ≡ true
opened_second h k is = grind arith

closed_both : (h k : Head) → newer h k ≡ None → (is_opened_gate h.gate ≡ false) × (is_opened_gate k.gate ≡ false)
closed_both h k is = grind arith

none_in_use : (h k : Head) → is_opened_gate h.gate ≡ false → is_opened_gate k.gate ≡ false → newer h k ≡ None
none_in_use h k a b = cc

first_alone : (h k : Head) → is_opened_gate h.gate ≡ true → is_opened_gate k.gate ≡ false → newer h k ≡ Some First
first_alone h k opened closed = cc

second_alone : (h k : Head) → is_opened_gate k.gate ≡ true → is_opened_gate h.gate ≡ false → newer h k ≡ Some Second
second_alone h k opened closed = cc

second_newer : (h k : Head) → is_opened_gate h.gate ≡ true → is_opened_gate k.gate ≡ true → h.generation < k.generation → newer h k ≡ Some Second
second_newer h k opened other_opened later = let test = lt-ltb h.generation k.generation later in cc

first_newer : (h k : Head) → is_opened_gate h.gate ≡ true → is_opened_gate k.gate ≡ true → k.generation < h.generation → newer h k ≡ Some First
first_newer h k opened other_opened later = grind arith

-- ---- by the memory

pub journal_in_use : (c : List ℕ) (side : Side) → current c ≡ Some side → journal c ≡ journal_at c side
journal_in_use c side is = ap (λ o. option_map_or (journal_at c) o unformatted) is

abbrev pub at_bank : Side → List ℕ → Journal
at_bank side bytes = record { in_use = Some side; head = head_of (take 12 bytes); found = found_in (head_of (take 12 bytes)).version bytes }

pub closed_first : (c : List ℕ) → current c ≡ None → is_opened_gate (head c First).gate ≡ false
closed_first c is = (closed_both (head c First) (head c Second) is).0

pub closed_second : (c : List ℕ) → current c ≡ None → is_opened_gate (head c Second).gate ≡ false
closed_second c is = (closed_both (head c First) (head c Second) is).1

pub no_journal : (c : List ℕ) → current c ≡ None → journal c ≡ unformatted
no_journal c is = ap (λ o. option_map_or (journal_at c) o unformatted) is

-- the journal says which bank is in use
pub in_use_is : (c : List ℕ) → (journal c).in_use ≡ current c
in_use_is c = by_bank (current c) refl
  where
    by_bank : (o : Option Side) → current c ≡ o → (journal c).in_use ≡ current c
    by_bank None is = ap (λ (j : Journal). j.in_use) (no_journal c is) ∙ sym is
    by_bank (Some side) is = ap (λ (j : Journal). j.in_use) (journal_in_use c side is) ∙ sym is

pub in_use_then : (d : List ℕ) (j : Journal) (o : Option Side) → journal d ≡ j → j.in_use ≡ o → current d ≡ o
in_use_then d j o says is = sym (in_use_is d) ∙ ap (λ (k : Journal). k.in_use) says ∙ is

-- the state, by the bank in use
pub state_at : (d : List ℕ) (side : Side) → current d ≡ Some side → state_of d ≡ state_by (Some side) (journal d) (is_opened_gate (head d (other side)).gate)
state_at d side is = ap (λ o. state_by o (journal d) (option_map_or (λ s. is_opened_gate (head d (other s)).gate) o false)) is

module _ (c d : List ℕ) where
  pub gate_is_open : (side : Side) → current c ≡ Some side → is_opened_gate (head c side).gate ≡ true
  gate_is_open First is = opened_first (head c First) (head c Second) is
  gate_is_open Second is = opened_second (head c First) (head c Second) is

  pub same_current : (side : Side) → head d side ≡ head c side → head d (other side) ≡ head c (other side) → current d ≡ current c
  same_current First here there = ap₂ newer here there
  same_current Second here there = ap₂ newer there here

  -- the other bank is closed
  pub stays : (side : Side) → current c ≡ Some side → head d side ≡ head c side → is_opened_gate (head d (other side)).gate ≡ false → current d ≡ Some side
  stays First is same closed =
      first_alone (head d First) (head d Second) (ap (λ h. is_opened_gate h.gate) same ∙ opened_first (head c First) (head c Second) is) closed
  stays Second is same closed =
      second_alone (head d First) (head d Second) (ap (λ h. is_opened_gate h.gate) same ∙ opened_second (head c First) (head c Second) is) closed

  -- the other bank is open and newer
  pub moves : (side : Side) → current c ≡ Some side → head d side ≡ head c side → is_opened_gate (head d (other side)).gate ≡ true
      → (head c side).generation < (head d (other side)).generation → current d ≡ Some (other side)
  moves First is same opened later =
      second_newer (head d First) (head d Second) (ap (λ h. is_opened_gate h.gate) same ∙ opened_first (head c First) (head c Second) is) opened
      (omega (arith, ap (λ h. h.generation) same))
  moves Second is same opened later =
      first_newer (head d First) (head d Second) opened (ap (λ h. is_opened_gate h.gate) same ∙ opened_second (head c First) (head c Second) is)
      (omega (arith, ap (λ h. h.generation) same))

  -- no bank is in use, and the first one is opened or it isn't
  pub still_none : current c ≡ None → is_opened_gate (head d First).gate ≡ false → head d Second ≡ head c Second → current d ≡ None
  still_none is closed same =
      none_in_use (head d First) (head d Second) closed (ap (λ h. is_opened_gate h.gate) same ∙ (closed_both (head c First) (head c Second) is).1)

  pub first_opens : current c ≡ None → is_opened_gate (head d First).gate ≡ true → head d Second ≡ head c Second → current d ≡ Some First
  first_opens is opened same =
      first_alone (head d First) (head d Second) opened (ap (λ h. is_opened_gate h.gate) same ∙ (closed_both (head c First) (head c Second) is).1)

  -- the same bank in use, with the same bytes
  pub same_journal : (side : Side) → current c ≡ Some side → current d ≡ Some side → bank d side ≡ bank c side → journal d ≡ journal c
  same_journal side was is same = journal_in_use d side is ∙ ap (at_bank side) same ∙ sym (journal_in_use c side was)

-- ---- after a write

-- the first n elements, in front of what is written
pub take-overwritten_before : (c : List ℕ) (n i : ℕ) (bytes : List ℕ) → n ≤ i → i ≤ length c → take n (overwritten c i bytes) ≡ take n c
take-overwritten_before c n i bytes before within =
    ap (take n) (append_assoc (take i c) bytes (drop (i + length bytes) c))
    ∙ take-append-le n (take i c) (bytes ++ drop (i + length bytes) c) (omega (arith, length-take i c))
    ∙ take-take n i c before

module _ (c : List ℕ) (side : Side) (i : ℕ) (bytes : List ℕ) (long : 65536 ≤ length c) (fits : i + length bytes ≤ 32768) where
  pub bank_across : bank (overwritten c (bank_place (other side) + i) bytes) side ≡ bank c side
  bank_across = across side
    where
      across : (s : Side) → bank (overwritten c (bank_place (other s) + i) bytes) s ≡ bank c s
      across First = bank_beside c Second i bytes long fits
      across Second = bank_beside c First i bytes long fits

  pub head_across : head (overwritten c (bank_place (other side) + i) bytes) side ≡ head c side
  head_across = ap (λ l. head_of (take 12 l)) bank_across

  -- a write behind the head of the bank in use
  pub journal_inside : current c ≡ Some side → 12 ≤ i
      → journal (overwritten c (bank_place side + i) bytes)
      ≡ record (journal_at c side) { found = found_in (head c side).version (overwritten (bank c side) i bytes) }
  journal_inside is behind =
      let d = overwritten c (bank_place side + i) bytes in
      let here = bank_here c side i bytes long fits in
      let same_head : head d side ≡ head c side = ap (λ l. head_of (take 12 l)) here
      ∙ ap head_of (take-overwritten_before (bank c side) 12 i bytes behind (omega (arith, length-bank c side long))) in
      let still : current d ≡ Some side = same_current c d side same_head (ap (λ l. head_of (take 12 l)) (bank_beside c side i bytes long fits)) ∙ is in
      journal_in_use d side still ∙ ap₂ (λ h l. record { in_use = Some side; head = h; found = found_in h.version l }) same_head here

  -- a write into the other bank, which is closed after it
  pub journal_across : current c ≡ Some side → is_opened_gate (head (overwritten c (bank_place (other side) + i) bytes) (other side)).gate ≡ false
      → (current (overwritten c (bank_place (other side) + i) bytes) ≡ Some side) × (journal (overwritten c (bank_place (other side) + i) bytes) ≡ journal c)
  journal_across is closed =
      let d = overwritten c (bank_place (other side) + i) bytes in
      let still = stays c d side is head_across closed in
      (still, same_journal c d side is still bank_across)
