-- A commit, whole or cut, over a memory that holds what a node knows, and what is read of it then.
use Rattle.std.proofs.lemmas.List.FromFn.{length-map-range_with_len}
use Rattle.node_laws.proofs.Words.{AllByRecursion, AreTables, Bool, BootFinds, Command, EachIsAsRead, Entry, FindsRoom, HciTables, IsAllOrNothing, IsAsRead}
use Rattle.node_laws.proofs.Words.{IsCommand, IsOf, IsPlain, IsRecordable, IsSome, Journal, Knows, List, MakeOf, Memory, None, Option, PipeRow, Plan, Reckoning}
use Rattle.node_laws.proofs.Words.{Side, Some, State, Write, [], after_planned, after_writes, all_so, and_parts, ap, append_writes, apply, arith, body_of}
use Rattle.node_laws.proofs.Words.{book_after, cases_Bool, close, commit_writes, committed, compact_writes, cond, count_of, current, eq-eqb, eqb, fails_within}
use Rattle.node_laws.proofs.Words.{false, filter, fold, fold-append, get_or, in_use_is, inl, inr, is_allowed, is_cut_of, is_kept, is_next, journal, leb-true}
use Rattle.node_laws.proofs.Words.{left, length, ltb-true, map, memory_after, min, nat_lt, ne_eqb, not, not-false, not-true, option_map, other, overwritten}
use Rattle.node_laws.proofs.Words.{pid_of, plan_behind, plan_on, reckoned, record_fits, refl, room_writes, snapshot_bodies, state_of, subst, suc, sym}
use Rattle.node_laws.proofs.Words.{torn_bytes, true, true≢false, with_room, with_written, writes_of, zero, ℕ, ◌%◌, ◌*◌, ◌++◌, ◌+◌, ◌-◌, ◌<◌, ◌^◌, ◌∙◌, ◌∷◌, ◌≡◌}
use Rattle.node_laws.proofs.Words.{◌≤◌, ◌⊎◌}
use Rattle.hci_store.proofs.Committed.{all_recordable, holds_more, holds_snapshot, are_bodies, is_body, journal_left, room_count, short_value}
use Rattle.hci_store.specs.Snapshots.{create_command, open_command, set_command, snapshot_of, static_command, sync_command}
use Rattle.hci_store.specs.Stored.{HoldsTables}
use Rattle.hci_tables.specs.Tables.{static_place, sync_host}
use Rattle.journal_laws.proofs.Opening.{length-after, length-cut, append_count}
use Rattle.journal_laws.proofs.Planned.{made_in_part, made_whole, planned_answer}
use Rattle.journal_laws.specs.Operations.{CanCompact, HasRoomForBody, appended, compacted}
use Rattle.journal_laws.specs.Records.{used}
use Rattle.journal_laws.specs.Writes.{AreMade, IsCut}
use Rattle.nv_journal.specs.Kept.{Says}
use Rattle.registry.specs.Values.{place_of_value}
use Rattle.registry.specs.declared.value.RegValue.{RegValue}
use Rattle.sorted_rows.proofs.RowLemmas.{length-rows}
use Rattle.swp_base.specs.InMemory.{WritesAsPlanned}
use Rattle.swp_base.specs.Outside.{IsWritten}
use Rattle.nv_journal.proofs.Appending as appending
use Rattle.nv_journal.proofs.Compacting as compacting
use Rattle.trace_model.specs.declared.entry.Entry.TheVariants as entry

-- ## What planned writes leave of a memory

pub content_torn : (m : Memory) (at : ℕ) (bytes : List ℕ) → is_next m.plan ≡ true
    → (memory_after m at bytes).content ≡ overwritten m.content at (torn_bytes m.plan (length bytes))
content_torn m at bytes next = grind arith

length-torn : (plan : Option Plan) (n : ℕ) → is_next plan ≡ true → length (torn_bytes plan n) ≡ n
length-torn None n next = absurd (true≢false (sym next))
length-torn (Some p) n next = length-map-range_with_len (λ i. get_or p.fill (i % length p.fill) 0) 0 n

told : (old : Memory) (at : ℕ) (bytes : List ℕ) (ok : Bool) (new : Memory) → WritesAsPlanned old at bytes ok new → IsWritten ok old.content new.content at bytes
told old at bytes true new step = grind arith
told old at bytes false new step =
    let next : is_next old.plan ≡ true = not-false (is_next old.plan) (sym step.answer) in
    (torn_bytes old.plan (length bytes), length-torn old.plan (length bytes) next, ap (λ (m : Memory). m.content) step.memory ∙ content_torn old at bytes next)

plan_made : (planned : List Write) (old new : Memory) → AreMade WritesAsPlanned planned old true new → new.plan ≡ plan_behind planned old.plan
plan_made [] old new made = ap (λ (m : Memory). m.plan) made.1
plan_made (w ∷ planned) old new (inl failed) = absurd (true≢false failed.0)
plan_made (w ∷ planned) old new (inr rest) =
    plan_made planned rest.0 new rest.2
    ∙ ap (plan_behind planned) (ap (λ (m : Memory). m.plan) rest.1.memory ∙ plan_on old w.at w.bytes (not-true (is_next old.plan) (sym rest.1.answer)))

-- whether they were made
abbrev Made : List Write → Memory → Type 0
Made planned m = (ok : Bool) × AreMade WritesAsPlanned planned m ok (after_planned planned m)

are_made : (planned : List Write) (m : Memory) → Made planned m
are_made [] m = (true, (refl, refl))
are_made (w ∷ planned) m = by_next (cases_Bool (is_next m.plan)) (are_made planned (memory_after m w.at w.bytes)) where
  here : (b : Bool) → is_next m.plan ≡ b
      → after_planned (w ∷ planned) m ≡ cond b (memory_after m w.at w.bytes) (after_planned planned (memory_after m w.at w.bytes))
  here b is = ap (λ b. cond b (memory_after m w.at w.bytes) (after_planned planned (memory_after m w.at w.bytes))) is

  by_next : (is_next m.plan ≡ true) ⊎ (is_next m.plan ≡ false) → Made planned (memory_after m w.at w.bytes) → Made (w ∷ planned) m
  by_next a later = grind arith

-- where none of them fails, all stand in the memory
pub planned_whole : (planned : List Write) (m : Memory) → fails_within (length planned) m.plan ≡ false
    → ((after_planned planned m).content ≡ after_writes planned m.content) × ((after_planned planned m).plan ≡ plan_behind planned m.plan)
planned_whole planned m none = whole made.0 (planned_answer planned m made.0 (after_planned planned m) made.1 ∙ ap not none) made.1 where
  made : Made planned m
  made = are_made planned m

  whole : (ok : Bool) → ok ≡ true → AreMade WritesAsPlanned planned m ok (after_planned planned m)
      → ((after_planned planned m).content ≡ after_writes planned m.content) × ((after_planned planned m).plan ≡ plan_behind planned m.plan)
  whole true is made = (
    made_whole WritesAsPlanned (λ (m : Memory). m.content) told planned m (after_planned planned m) made,
    plan_made planned m
        (after_planned planned m) made,
  )
  whole false is made = absurd (true≢false (sym is))

-- where one fails, a cut left the memory
pub planned_cut : (planned : List Write) (m : Memory) → fails_within (length planned) m.plan ≡ true
    → (k : ℕ) × IsCut k planned m.content (after_planned planned m).content
planned_cut planned m fails = cut made.0 (planned_answer planned m made.0 (after_planned planned m) made.1 ∙ ap not fails) made.1 where
  made : Made planned m
  made = are_made planned m

  cut : (ok : Bool) → ok ≡ false → AreMade WritesAsPlanned planned m ok (after_planned planned m)
      → (k : ℕ) × IsCut k planned m.content (after_planned planned m).content
  cut true is made = absurd (true≢false is)
  cut false is made = made_in_part WritesAsPlanned (λ (m : Memory). m.content) told planned m (after_planned planned m) made

-- a write that goes through, and then others
one_on : (planned : List Write) (w : Write) (m : Memory) → is_next m.plan ≡ false
    → after_planned (w ∷ planned) m ≡ after_planned planned (memory_after m w.at w.bytes)
one_on planned w m on = ap (λ b. cond b (memory_after m w.at w.bytes) (after_planned planned (memory_after m w.at w.bytes))) on

made_then : (first later : List Write) (m : Memory) → AreMade WritesAsPlanned first m true (after_planned first m)
    → after_planned (first ++ later) m ≡ after_planned later (after_planned first m)
made_then [] later m made = refl
made_then (w ∷ first) later m (inl failed) = absurd (true≢false failed.0)
made_then (w ∷ first) later m (inr rest) =
    let on : is_next m.plan ≡ false = not-true (is_next m.plan) (sym rest.1.answer) in
    let next : Memory = memory_after m w.at w.bytes in
    one_on (first ++ later) w m on
    ∙ made_then first later next
    (subst (λ x. AreMade WritesAsPlanned first x true (after_planned first next)) rest.1.memory
    (subst (λ n. AreMade WritesAsPlanned first rest.0 true n) (one_on first w m on) rest.2))
    ∙ ap (after_planned later) (sym (one_on first w m on))

-- writes that go through, and then more writes
pub after_planned-append : (first later : List Write) (m : Memory) → fails_within (length first) m.plan ≡ false
    → after_planned (first ++ later) m ≡ after_planned later (after_planned first m)
after_planned-append first later m none = whole made.0 (planned_answer first m made.0 (after_planned first m) made.1 ∙ ap not none) made.1 where
  made : Made first m
  made = are_made first m

  whole : (ok : Bool) → ok ≡ true → AreMade WritesAsPlanned first m ok (after_planned first m)
      → after_planned (first ++ later) m ≡ after_planned later (after_planned first m)
  whole true is made = made_then first later m made
  whole false is made = absurd (true≢false (sym is))

-- ## The snapshot of tables fits into a bank

-- how many bytes the records of commands take
abbrev taken : List Command → ℕ
taken cs = used (map body_of cs)

taken-append : (xs ys : List Command) → taken (xs ++ ys) ≡ taken xs + taken ys
taken-append [] ys = omega arith
taken-append (x ∷ xs) ys = omega (arith, taken-append xs ys)

syncs_taken : (xs : List (ℕ × ℕ)) → taken (map sync_command xs) ≤ 8 * length xs
syncs_taken [] = omega arith
syncs_taken (x ∷ xs) = omega (arith, syncs_taken xs)

value_short : (v : RegValue) → IsCommand (set_command v) → length v.value.items ≤ 20
value_short v may = short_value v.host v.param v.value.items (and_parts (is_kept v.host v.gate v.param) (is_allowed v.host v.param v.value.items) may).1

values_taken : (xs : List RegValue) → AllByRecursion (λ v. IsCommand (set_command v)) xs → taken (map set_command xs) ≤ 28 * length xs
values_taken [] may = omega arith
values_taken (x ∷ xs) may = omega (arith, values_taken xs may.1, value_short x may.0)

rows_taken : (xs : List PipeRow) → taken (map create_command xs) ≤ 10 * length xs
rows_taken [] = omega arith
rows_taken (x ∷ xs) = omega (arith, rows_taken xs)

opened_taken : (xs : List PipeRow) → taken (map open_command (filter (λ row. row.opened) xs)) ≤ 8 * length xs
opened_taken [] = omega arith
opened_taken (x ∷ xs) = by_state x.opened (opened_taken xs) where
  rest : List PipeRow
  rest = filter (λ row. row.opened) xs

  by_state : (b : Bool) → taken (map open_command rest) ≤ 8 * length xs → taken (map open_command (cond b (x ∷ rest) rest)) ≤ 8 * length (x ∷ xs)
  by_state b few = grind arith

statics_taken : (xs : List (ℕ × ℕ)) → taken (map static_command xs) ≤ 8 * length xs
statics_taken [] = omega arith
statics_taken (x ∷ xs) = omega (arith, statics_taken xs)

pub snapshot_fits : (t : HciTables) → IsRecordable t → AreTables t → used (snapshot_bodies t) ≤ 2560
snapshot_fits t may are =
    let syncs = map sync_command t.syncs in
    let values = map set_command t.values in
    let rows = map create_command t.rows in
    let opened = map open_command (filter (λ row. row.opened) t.rows) in
    let statics = map static_command t.statics in
    let a = taken-append (syncs ++ values ++ rows ++ opened) statics in
    let b = taken-append (syncs ++ values ++ rows) opened in
    let c = taken-append (syncs ++ values) rows in
    all_fit (taken (snapshot_of t)) (taken (syncs ++ values ++ rows ++ opened)) (taken (syncs ++ values ++ rows)) (taken (syncs ++ values))
    (taken syncs) (taken values) (taken rows) (taken opened) (taken statics)
    (length t.syncs) (length t.values) (length t.rows) (length t.statics) a b c (taken-append syncs values)
    (syncs_taken t.syncs) (values_taken t.values may.values) (rows_taken t.rows) (opened_taken t.rows) (statics_taken t.statics)
    (length-rows sync_host 1 8 t.syncs are.syncs) (length-rows place_of_value 2 16 t.values are.values.sorted)
    (length-rows pid_of 2 112 t.rows are.rows) (length-rows static_place 0 16 t.statics are.statics)
  where
    all_fit : (n a b c s v r o st ls lv lr lst : ℕ) → n ≡ a + st → a ≡ b + o → b ≡ c + r → c ≡ s + v
        → s ≤ 8 * ls → v ≤ 28 * lv → r ≤ 10 * lr → o ≤ 8 * lr → st ≤ 8 * lst
        → ls ≤ 8 - 1 → lv ≤ 16 - 2 → lr ≤ 112 - 2 → lst ≤ 16 - 0 → n ≤ 2560
    all_fit n a b c s v r o st ls lv lr lst e f g h i j k l m p q u x = omega arith

-- ## A commit, whole or cut, over a memory that holds what a node knows

-- a memory that says what another one says
pub finds_still : (content new : List ℕ) (t : HciTables) (many : ℕ) → BootFinds content t many → length new ≡ length content → journal new ≡ journal content
    → BootFinds new t many
finds_still content new t many f size same = grind arith

-- only closed tables count
pub finds_closed : (content : List ℕ) (t u : HciTables) (many : ℕ) → BootFinds content t many → close t ≡ close u → BootFinds content u many
finds_closed content t u many f same = grind arith

pub knows_from : (content : List ℕ) (s : State) (t : HciTables) → Says content s → IsSome s.in_use → s.version ≡ 2 → s.snapshot ≤ s.base + s.many
    → HoldsTables content t → Knows content s t
knows_from content s t says some version enough holds = grind arith

pub after-append : (first later : List Write) (c : List ℕ) → after_writes (first ++ later) c ≡ after_writes later (after_writes first c)
after-append [] later c = refl
after-append (w ∷ first) later c = after-append first later (overwritten c w.at w.bytes)

pub cut-append : (k : ℕ) (first later : List Write) (c left : List ℕ) → IsCut k (first ++ later) c left
    → IsCut k first c left ⊎ ((j : ℕ) × IsCut j later (after_writes first c) left)
cut-append k [] later c left cut = inr (k, cut)
cut-append zero (w ∷ first) later c left cut = inl cut
cut-append (suc k) (w ∷ first) later c left cut = cut-append k first later (overwritten c w.at w.bytes) left cut

pub some_other : (o : Option Side) → IsSome o → IsSome (option_map other o)
some_other o some = grind arith

-- a cut in writes that are all or nothing leaves this
pub record IsLeftBetween (writes : List Write) (content left : List ℕ) : Type 0 where
  pub at : ℕ
  pub whole : IsAllOrNothing writes content
  pub cut : IsCut at writes content left

-- so it says what the memory said before, or behind all of them
pub says_either : (writes : List Write) (content left : List ℕ) → IsLeftBetween writes content left
    → (journal left ≡ journal content) ⊎ (journal left ≡ journal (after_writes writes content))
says_either writes content left b = journal_left writes content left (record { whole = b.at; cut = b.cut; says = b.whole.says b.at left b.cut })

pub left_finds : (writes : List Write) (content left : List ℕ) (t u : HciTables) (m n : ℕ) → IsLeftBetween writes content left
    → BootFinds content t m → BootFinds (after_writes writes content) u n → BootFinds left t m ⊎ BootFinds left u n
left_finds writes content left t u m n b before done = elim (says_either writes content left b) [
  | inl same ↦ inl (finds_still content left t m before size same)
  | inr same ↦ inr (finds_still (after_writes writes content) left u n done (size ∙ sym (length-after writes content b.whole.fit)) same)
] where
  size : length left ≡ length content
  size = length-cut b.at writes content left b.whole.fit b.cut

-- a bank is in use still
left_used : (writes : List Write) (content left : List ℕ) → IsLeftBetween writes content left → IsSome (current content)
    → IsSome (current (after_writes writes content)) → IsSome (current left)
left_used writes content left b before done = elim (says_either writes content left b) [
  | inl same ↦ subst IsSome (sym (sym (in_use_is left) ∙ ap (λ (j : Journal). j.in_use) same ∙ in_use_is content)) before
  | inr same ↦ subst IsSome (sym (sym (in_use_is left) ∙ ap (λ (j : Journal). j.in_use) same ∙ in_use_is (after_writes writes content))) done
]

pub used_of : (content : List ℕ) (s : State) (t : HciTables) → Knows content s t → IsSome (current content)
used_of content s t k = subst IsSome (sym (ap (λ (x : State). x.in_use) k.state_is)) k.in_use

module _ (content : List ℕ) (s : State) (t : HciTables) (k : Knows content s t) where
  pub says_of : Says content s
  says_of = record { size = k.finds.size; state_is = k.state_is; sound = k.finds.keeps.sound }

  version_of : s.version ≡ 2
  version_of = sym (ap (λ (x : State). x.version) k.state_is) ∙ k.finds.version

  enough_of : s.snapshot ≤ s.base + s.many
  enough_of = subst (λ (x : State). x.snapshot ≤ x.base + x.many) k.state_is k.finds.enough

  module _ (c : Command) (may : IsCommand c) (room : length (body_of c) + 5 ≤ left s) where
    pub has_room : HasRoomForBody s (body_of c)
    has_room = record { in_use = k.in_use; version = version_of; short = is_body c may; room = room }

    append_knows : Knows (after_writes (append_writes s (body_of c)) content) (appended s (body_of c)) (apply t c)
    append_knows =
        knows_from (after_writes (append_writes s (body_of c)) content) (appended s (body_of c)) (apply t c)
        (appending.says_after content (body_of c) s says_of has_room) k.in_use version_of (omega (arith, enough_of))
        (holds_more content (after_writes (append_writes s (body_of c)) content) (body_of c) t c k.finds.keeps.holds (appending.records_after content
        (body_of c) s says_of has_room) refl may)

    append_between : (j : ℕ) (left : List ℕ) → IsCut j (append_writes s (body_of c)) content left → IsLeftBetween (append_writes s (body_of c)) content left
    append_between j left cut = record { at = j; whole = appending.all_or_nothing content (body_of c) s says_of has_room; cut = cut }

    append_left : (j : ℕ) (left : List ℕ) → IsCut j (append_writes s (body_of c)) content left
        → BootFinds left t (count_of s) ⊎ BootFinds left (apply t c) (count_of (appended s (body_of c)))
    append_left j left cut =
        left_finds (append_writes s (body_of c)) content left t (apply t c) (count_of s) (count_of (appended s (body_of c)))
        (append_between j left cut) k.finds append_knows.finds

    append_used : (j : ℕ) (left : List ℕ) → IsCut j (append_writes s (body_of c)) content left → IsSome (current left)
    append_used j left cut =
        left_used (append_writes s (body_of c)) content left (append_between j left cut) (used_of content s t k)
        (used_of (after_writes (append_writes s (body_of c)) content) (appended s (body_of c)) (apply t c) append_knows)

  module _ (are : AreTables t) (may : IsRecordable t) (next : s.generation < 4294967295) where
    pub can : CanCompact s (snapshot_bodies t)
    can = record {
      in_use = k.in_use;
      generation = omega (arith, next);
      short = are_bodies (snapshot_of t) (all_recordable t may are);
      room = snapshot_fits t may are;
    }

    compact_knows : Knows (after_writes (compact_writes s (snapshot_bodies t)) content) (compacted s (snapshot_bodies t)) t
    compact_knows =
        knows_from (after_writes (compact_writes s (snapshot_bodies t)) content) (compacted s (snapshot_bodies t)) t
        (compacting.says_after content (snapshot_bodies t) s says_of can) (some_other s.in_use k.in_use) refl (omega arith)
        (holds_snapshot (after_writes (compact_writes s (snapshot_bodies t)) content) t may are
        (compacting.records_after content (snapshot_bodies t) s says_of can))

    compact_between : (j : ℕ) (left : List ℕ) → IsCut j (compact_writes s (snapshot_bodies t)) content left
        → IsLeftBetween (compact_writes s (snapshot_bodies t)) content left
    compact_between j left cut = record { at = j; whole = compacting.all_or_nothing content (snapshot_bodies t) s says_of can; cut = cut }

    compact_left : (j : ℕ) (left : List ℕ) → IsCut j (compact_writes s (snapshot_bodies t)) content left → BootFinds left t (count_of s)
    compact_left j left cut = either
        (left_finds (compact_writes s (snapshot_bodies t)) content left t t (count_of s) (count_of (compacted s (snapshot_bodies t)))
        (compact_between j left cut) k.finds compact_knows.finds)
      where
        either : BootFinds left t (count_of s) ⊎ BootFinds left t (count_of (compacted s (snapshot_bodies t))) → BootFinds left t (count_of s)
        either a = grind arith

    compact_used : (j : ℕ) (left : List ℕ) → IsCut j (compact_writes s (snapshot_bodies t)) content left → IsSome (current left)
    compact_used j left cut =
        left_used (compact_writes s (snapshot_bodies t)) content left (compact_between j left cut) (used_of content s t k)
        (used_of (after_writes (compact_writes s (snapshot_bodies t)) content) (compacted s (snapshot_bodies t)) t compact_knows)

module _ (content : List ℕ) (s : State) (t : HciTables) (c : Command) (k : Knows content s t) (are : AreTables t) (may : IsRecordable t)
    (command : IsCommand c) (room : FindsRoom s c) where
  abbrev made_room : Bool → List ℕ
  made_room b = after_writes (cond b [] (compact_writes s (snapshot_bodies t))) content

  abbrev roomy : Bool → State
  roomy b = cond b s (compacted s (snapshot_bodies t))

  pub next_of : record_fits s (body_of c) ≡ false → s.generation < 4294967295
  next_of full = ltb-true s.generation 4294967295 (sym (ap (λ b. cond b true (nat_lt s.generation 4294967295)) full) ∙ room)

  pub room_knows : (b : Bool) → record_fits s (body_of c) ≡ b → Knows (made_room b) (roomy b) t × (length (body_of c) + 5 ≤ left (roomy b))
  room_knows true is = (k, leb-true (length (body_of c) + 5) (left s) is)
  room_knows false is = (compact_knows content s t k are may (next_of is), omega (arith, snapshot_fits t may are, (is_body c command).1))

  abbrev between : List ℕ
  between = after_writes (room_writes s t (body_of c)) content

  pub commit_knows : Knows (after_writes (commit_writes s t (body_of c)) content) (committed s t (body_of c)) (apply t c)
  commit_knows =
      let r = room_knows (record_fits s (body_of c)) refl in
      subst (λ x. Knows x (committed s t (body_of c)) (apply t c))
      (sym (after-append (room_writes s t (body_of c)) (append_writes (with_room s t (body_of c)) (body_of c)) content))
      (append_knows between (with_room s t (body_of c)) t r.0 c command r.1)

  pub commit_count : count_of (committed s t (body_of c)) ≡ min (count_of s + 1) (2 ^ 32 - 1)
  commit_count =
      let r = room_knows (record_fits s (body_of c)) refl in
      append_count (with_room s t (body_of c)) (body_of c) (enough_of between (with_room s t (body_of c)) t r.0)
      ∙ ap (λ n. min (n + 1) (2 ^ 32 - 1)) (room_count s t (body_of c))

  pub room_left : (b : Bool) → record_fits s (body_of c) ≡ b → (j : ℕ) (left : List ℕ) → IsCut j (cond b [] (compact_writes s (snapshot_bodies t))) content left
      → BootFinds left t (count_of s)
  room_left true is j left cut = absurd cut
  room_left false is j left cut = compact_left content s t k are may (next_of is) j left cut

  room_used : (b : Bool) → record_fits s (body_of c) ≡ b → (j : ℕ) (left : List ℕ) → IsCut j (cond b [] (compact_writes s (snapshot_bodies t))) content left
      → IsSome (current left)
  room_used true is j left cut = absurd cut
  room_used false is j left cut = compact_used content s t k are may (next_of is) j left cut

  commit_used : (j : ℕ) (left : List ℕ) → IsCut j (commit_writes s t (body_of c)) content left → IsSome (current left)
  commit_used j left cut = elim (cut-append j (room_writes s t (body_of c)) (append_writes (with_room s t (body_of c)) (body_of c)) content left cut) [
    | inl first ↦ room_used (record_fits s (body_of c)) refl j left first
    | inr later ↦
        let r = room_knows (record_fits s (body_of c)) refl in
        append_used between (with_room s t (body_of c)) t r.0 c command r.1 later.0 left later.1
  ]

  commit_left : (j : ℕ) (left : List ℕ) → IsCut j (commit_writes s t (body_of c)) content left
      → BootFinds left t (count_of s) ⊎ BootFinds left (apply t c) (count_of (committed s t (body_of c)))
  commit_left j left cut = by_part (cut-append j (room_writes s t (body_of c)) (append_writes (with_room s t (body_of c)) (body_of c)) content left cut) where
    by_record : BootFinds left t (count_of (with_room s t (body_of c))) ⊎ BootFinds left (apply t c) (count_of (committed s t (body_of c)))
        → BootFinds left t (count_of s) ⊎ BootFinds left (apply t c) (count_of (committed s t (body_of c)))
    by_record (inl before) = inl (subst (λ n. BootFinds left t n) (room_count s t (body_of c)) before)
    by_record (inr later) = inr later

    by_part : IsCut j (room_writes s t (body_of c)) content left ⊎ ((i : ℕ) × IsCut i (append_writes (with_room s t (body_of c)) (body_of c)) between left)
        → BootFinds left t (count_of s) ⊎ BootFinds left (apply t c) (count_of (committed s t (body_of c)))
    by_part (inl first) = inl (room_left (record_fits s (body_of c)) refl j left first)
    by_part (inr later) =
        let r = room_knows (record_fits s (body_of c)) refl in
        by_record (append_left between (with_room s t (body_of c)) t r.0 c command r.1 later.0 left later.1)

-- over a memory whose failing write is planned
pub planned_knows : (m : Memory) (s : State) (t : HciTables) (c : Command) → Knows m.content s t → AreTables t → IsRecordable t → IsCommand c → FindsRoom s c
    → fails_within (length (commit_writes s t (body_of c))) m.plan ≡ false
    → Knows (after_planned (commit_writes s t (body_of c)) m).content (committed s t (body_of c)) (apply t c)
planned_knows m s t c k are may command room none =
    subst (λ x. Knows x (committed s t (body_of c)) (apply t c)) (sym (planned_whole (commit_writes s t (body_of c)) m none).0)
    (commit_knows m.content s t c k are may command room)

pub planned_left : (m : Memory) (s : State) (t : HciTables) (c : Command) → Knows m.content s t → AreTables t → IsRecordable t → IsCommand c → FindsRoom s c
    → fails_within (length (commit_writes s t (body_of c))) m.plan ≡ true
    → BootFinds (after_planned (commit_writes s t (body_of c)) m).content t (count_of s)
    ⊎ BootFinds (after_planned (commit_writes s t (body_of c)) m).content (apply t c) (count_of (committed s t (body_of c)))
planned_left m s t c k are may command room fails =
    let cut = planned_cut (commit_writes s t (body_of c)) m fails in
    commit_left m.content s t c k are may command room cut.0 (after_planned (commit_writes s t (body_of c)) m).content cut.1

pub planned_used : (m : Memory) (s : State) (t : HciTables) (c : Command) → Knows m.content s t → AreTables t → IsRecordable t → IsCommand c → FindsRoom s c
    → fails_within (length (commit_writes s t (body_of c))) m.plan ≡ true → IsSome (current (after_planned (commit_writes s t (body_of c)) m).content)
planned_used m s t c k are may command room fails =
    let cut = planned_cut (commit_writes s t (body_of c)) m fails in
    commit_used m.content s t c k are may command room cut.0 (after_planned (commit_writes s t (body_of c)) m).content cut.1

-- ## What is read of a node with its memory after more entries

-- ### Books

pub fold_book : (n : ℕ) (r : Reckoning) (es : List Entry) → (fold (reckoned n) r es).book ≡ fold (book_after n) r.book es
fold_book n r [] = refl
fold_book n r (e ∷ es) = fold_book n (reckoned n r e) es ∙ ap (λ b. fold (book_after n) b es) (grind arith)

-- ### Entries that tell nothing of a node

-- the entry changes nothing that is read of this node, and is no cut of it
pub record IsNothingFor (n : ℕ) (e : Entry) : Type 0 where
  pub same : (r : Reckoning) → reckoned n r e ≡ r
  pub uncut : is_cut_of n e ≡ false
  pub as_read : (r : Reckoning) → IsAsRead n r e

plain_nothing : (n : ℕ) (e : Entry) → IsPlain e → IsNothingFor n e
plain_nothing n e is = grind arith

pub other_test : (m n k : ℕ) → k ≡ m → (m ≡ n → ⊥) → eqb k n ≡ false
other_test m n k is other = ne_eqb k n (λ same. other (sym is ∙ same))

other_nothing : (m n : ℕ) (e : Entry) → (m ≡ n → ⊥) → IsOf m e → IsNothingFor n e
other_nothing m n (entry.Command k c) other is =
    record { same = λ r. ap (λ b. cond b (with_written c r) r) (other_test m n k is other); uncut = refl; as_read = λ r same. absurd (other (sym is ∙ same)) }
other_nothing m n (entry.Booted k j) other is = grind arith
other_nothing m n (entry.Cut k) other is = grind arith
other_nothing m n (entry.AnyOk k j) other is = record { same = λ r. refl; uncut = refl; as_read = λ r same. absurd (other (sym is ∙ same)) }
other_nothing m n _ other is = record { same = λ r. refl; uncut = refl; as_read = λ r. tt }

pub plain_idles : (n : ℕ) (es : List Entry) → AllByRecursion IsPlain es → AllByRecursion (IsNothingFor n) es
plain_idles n es all = all_so IsPlain (IsNothingFor n) (plain_nothing n) es all

pub other_idles : (m n : ℕ) (es : List Entry) → (m ≡ n → ⊥) → AllByRecursion (IsOf m) es → AllByRecursion (IsNothingFor n) es
other_idles m n [] other all = tt
other_idles m n (e ∷ es) other all = (other_nothing m n e other all.0, other_idles m n es other all.1)

pub idle_fold : (n : ℕ) (r : Reckoning) (es : List Entry) → AllByRecursion (IsNothingFor n) es → fold (reckoned n) r es ≡ r
idle_fold n r [] all = refl
idle_fold n r (e ∷ es) all = ap (λ x. fold (reckoned n) x es) (all.0.same r) ∙ idle_fold n r es all.1

pub idle_each : (n : ℕ) (r : Reckoning) (es : List Entry) → r.due ≡ false → AllByRecursion (IsNothingFor n) es → EachIsAsRead n r es
idle_each n r [] none all = tt
idle_each n r (e ∷ es) none all =
    (all.0.uncut ∙ sym none, all.0.as_read r, subst (λ x. EachIsAsRead n x es) (sym (all.0.same r)) (idle_each n r es none all.1))

-- ### More entries

pub fold_more : (n : ℕ) (r : Reckoning) (xs ys : List Entry) → fold (reckoned n) r (xs ++ ys) ≡ fold (reckoned n) (fold (reckoned n) r xs) ys
fold_more n r xs ys = fold-append (reckoned n) r xs ys

pub each_more : (n : ℕ) (r : Reckoning) (xs ys : List Entry) → EachIsAsRead n r xs → EachIsAsRead n (fold (reckoned n) r xs) ys → EachIsAsRead n r (xs ++ ys)
each_more n r [] ys a b = b
each_more n r (x ∷ xs) ys a b = (a.0, a.1, each_more n (reckoned n r x) xs ys a.2 b)

pub idle_make : (n : ℕ) (r : Reckoning) (m : Memory) (es : List Entry) → r.runs ≡ true → r.memory ≡ m → r.due ≡ false → r.lost ≡ false
    → AllByRecursion (IsNothingFor n) es → MakeOf n r es m
idle_make n r m es on memory none found all =
    let same : fold (reckoned n) r es ≡ r = idle_fold n r es all in
    record {
      on = ap (λ (x : Reckoning). x.runs) same ∙ on;
      memory_is = ap (λ (x : Reckoning). x.memory) same ∙ memory;
      none_due = ap (λ (x : Reckoning). x.due) same ∙ none;
      none_lost = ap (λ (x : Reckoning). x.lost) same ∙ found;
      each = idle_each n r es none all;
    }

pub make_more : (n : ℕ) (r : Reckoning) (xs ys : List Entry) (m k : Memory) → MakeOf n r xs m → MakeOf n (fold (reckoned n) r xs) ys k
    → MakeOf n r (xs ++ ys) k
make_more n r xs ys m k a b =
    let parts : fold (reckoned n) r (xs ++ ys) ≡ fold (reckoned n) (fold (reckoned n) r xs) ys = fold_more n r xs ys in
    record {
      on = ap (λ (x : Reckoning). x.runs) parts ∙ b.on;
      memory_is = ap (λ (x : Reckoning). x.memory) parts ∙ b.memory_is;
      none_due = ap (λ (x : Reckoning). x.due) parts ∙ b.none_due;
      none_lost = ap (λ (x : Reckoning). x.lost) parts ∙ b.none_lost;
      each = each_more n r xs ys a.each b.each;
    }

pub make_idle : (n : ℕ) (r : Reckoning) (xs ys : List Entry) (m : Memory) → MakeOf n r xs m → AllByRecursion (IsNothingFor n) ys → MakeOf n r (xs ++ ys) m
make_idle n r xs ys m a all = make_more n r xs ys m m a (idle_make n (fold (reckoned n) r xs) m ys a.on a.memory_is a.none_due a.none_lost all)

-- an answer that counts
pub make_ok : (n : ℕ) (r : Reckoning) (xs : List Entry) (k j : ℕ) (m : Memory) → MakeOf n r xs m → MakeOf n r (xs ++ entry.AnyOk k j ∷ []) m
make_ok n r xs k j m a = make_more n r xs (entry.AnyOk k j ∷ []) m m a (grind arith)

-- ### A command

-- what a command writes, over what a node has
pub writes_are : (r : Reckoning) (c : Command) (m : Memory) (s : State) (t : HciTables) → r.memory ≡ m → state_of m.content ≡ s → r.book.tables ≡ t
    → writes_of c r ≡ commit_writes s t (body_of c)
writes_are r c m s t memory state tables = grind arith

pub reckoned_command : (n k : ℕ) (r : Reckoning) (c : Command) → k ≡ n → reckoned n r (entry.Command k c) ≡ with_written c r
reckoned_command n k r c same = ap (λ b. cond b (with_written c r) r) (eq-eqb k n same)

-- as it is reckoned, a node runs, no cut of it is due, and it has this memory, this journal and these tables
pub record IsReckonedSo (r : Reckoning) (m : Memory) (s : State) (t : HciTables) : Type 0 where
  pub memory : r.memory ≡ m
  pub state : state_of m.content ≡ s
  pub tables : r.book.tables ≡ t
  pub on : r.runs ≡ true
  pub none : r.due ≡ false

-- a command whose writes all go through
pub command_makes : (n k : ℕ) (r : Reckoning) (c : Command) (m : Memory) (s : State) (t : HciTables) → k ≡ n → IsReckonedSo r m s t
    → fails_within (length (commit_writes s t (body_of c))) m.plan ≡ false
    → MakeOf n r (entry.Command k c ∷ []) (after_planned (commit_writes s t (body_of c)) m)
command_makes n k r c m s t same so through =
    let now = reckoned_command n k r c same in
    let writes = writes_are r c m s t so.memory so.state so.tables in
    let passes : fails_within (length (writes_of c r)) r.memory.plan ≡ false = grind arith in
    grind arith
