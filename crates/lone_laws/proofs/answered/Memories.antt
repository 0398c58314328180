-- The memory of a node alone holds its commands, or all but the last one where its power went in that one's writes.
use Rattle.std.proofs.lemmas.Bool.{ltb-true}
use Rattle.lone_laws.proofs.Words.{AllByRecursion, Answer, AreTables, AreTables-apply, Ask, Bool, CanCompact, Command, Commit, Commits, Core, Counts}
use Rattle.lone_laws.proofs.Words.{Decision, Deed, Drops, Entry, FindsRoom, HasRoomForBody, HciTables, HoldsTables, Init, IsAnswered, IsCommand, IsCut}
use Rattle.lone_laws.proofs.Words.{IsLeftBetween, IsRecordable, IsRecordableDecision, IsSome, IsSound, JoinTwo, LinkView, List, MayBeDone, Memory, Message}
use Rattle.lone_laws.proofs.Words.{None, OfDecision, Option, Plain, Plainly, Port, Releases, Says, SaysOk, Sends, SetsErrors, Some, State, Work, Write, []}
use Rattle.lone_laws.proofs.Words.{after-append, after_commands, after_planned, after_planned-append, after_writes, all_done, all_of_controller, all_ordered}
use Rattle.lone_laws.proofs.Words.{all_recordable, and_cases, and_parts, ap, append-nil, append_assoc, append_count, append_writes, appended, apply, are_bodies}
use Rattle.lone_laws.proofs.Words.{are_commands, arith, body_in, body_of, by_test, command_of, commands_of_entries, commit, commit_writes, committed}
use Rattle.lone_laws.proofs.Words.{compact_writes, compacted, cond, controller_deeds, count_of, current, cut-append, decided, decided_holds}
use Rattle.lone_laws.proofs.Words.{decided_tells_others, dest_in, done, end_of_node, end_view, eqb, eqb-false, eqb-true, fails_within, false, false≢true}
use Rattle.lone_laws.proofs.Words.{first_other, fold-append, format_all_or_nothing, format_writes, formatted, gate_at, has, holds_more, holds_snapshot}
use Rattle.lone_laws.proofs.Words.{holds_still, host_deeds, host_holds, hosts_where, inl, inr, is_body, is_connected, is_connected_at, is_some, journal, keeps}
use Rattle.lone_laws.proofs.Words.{leb-true, left, length, length-append, list_all, loses_power, mask_of, min, nat_lt, no_records_then, not, not-false}
use Rattle.lone_laws.proofs.Words.{not-true, not_from_false, noting, option_map_or, own_view, plainly_desk, plainly_noting, plainly_turn, plan_behind}
use Rattle.lone_laws.proofs.Words.{planned_cut, planned_whole, port_at, record_fits, records, refl, room_count, room_writes, says_either, says_formatted}
use Rattle.lone_laws.proofs.Words.{snapshot_bodies, snapshot_fits, snapshot_of, some_other, state_of, subst, sym, tests_to_create, true, true≢false, unless_cut}
use Rattle.lone_laws.proofs.Words.{view_for, view_of, with_room, ℕ, ◌&&◌, ◌++◌, ◌+◌, ◌-◌, ◌<◌, ◌^◌, ◌∙◌, ◌∷◌, ◌≡◌, ◌≤◌, ◌⊎◌}
use Rattle.gate_admin.proofs.CreationLemmas.{AllFalse, all_false}
use Rattle.hci_store.proofs.Committed.{recordable-apply}
use Rattle.hci_store.specs.Image.{image_fault}
use Rattle.journal_laws.proofs.Opening.{length-after, length-cut}
use Rattle.node_laws.proofs.kept.Doing.{stays_cut, uncut}
use Rattle.node_laws.proofs.kept.Stepping.{decided_recordable}
use Rattle.node_laws.proofs.links.Noticing.{from_mask, nobody}
use Rattle.node_laws.specs.kept.Books.{IsPlain}
use Rattle.nv_journal.specs.Faults.{fault, is_known}
use Rattle.nv_journal.specs.declared.JournalFault.{JournalFault}
use Rattle.nv_journal.specs.declared.JournalFault.TheVariants.{BadRecord, UnknownFormat}
use Rattle.tables_laws.specs.gate.Rules.{TellsOthers}
use Rattle.nv_journal.proofs.Appending as appending
use Rattle.nv_journal.proofs.Compacting as compacting
use Rattle.trace_model.specs.declared.entry.Entry.TheVariants as entry

-- ## A node with one link asks nobody for a pipe and tells nobody of one: what it does with a message is of its own

-- ### Deeds of its own

-- What a node with one link may do: it commits, and as a controller what may be recorded, it sends, counts, drops and sets REC_ERROR.
abbrev pub IsOwnDeed : ℕ → Deed → Type 0
IsOwnDeed n (Commits c) = eqb n 0 ≡ true → IsCommand c
IsOwnDeed n (Sends to m) = Unit {0}
IsOwnDeed n SaysOk = Unit {0}
IsOwnDeed n (Releases asker) = Unit {0}
IsOwnDeed n IsAnswered = Unit {0}
IsOwnDeed n (Drops pid) = Unit {0}
IsOwnDeed n (SetsErrors errors) = Unit {0}
IsOwnDeed n _ = ⊥

abbrev pub AreOwnDeeds : ℕ → List Deed → Type 0
AreOwnDeeds n deeds = AllByRecursion (IsOwnDeed n) deeds

plain : (n : ℕ) → Plain (IsOwnDeed n)
plain n = record { sends = λ to x. tt; says_ok = tt; releases = λ asker. tt; is_answered = tt; drops = λ pid. tt }

-- ### A controller with one link

-- nobody is told or asked
abbrev pub TellsNobody : Decision → Type 0
TellsNobody (Answer answer) = Unit {0}
TellsNobody (Commit c answer tell notice) = AllByRecursion (λ (y : ℕ). ⊥) (hosts_where (has tell))
TellsNobody (Ask dest notice c answer) = ⊥

module _ (t : HciTables) (p : Port) where
  -- a host that is connected is the one of the link
  connected_is : (h x : ℕ) → is_connected (view_for t (p ∷ []) h) x ≡ true → eqb p.desk.host x ≡ true
  connected_is h x q = go (eqb p.desk.host x) refl (from_mask (λ k. option_map_or (is_connected_at t) (port_at (p ∷ []) k) false) x q) where
    go : (b : Bool) → eqb p.desk.host x ≡ b → option_map_or (is_connected_at t) (cond b (Some p) None) false ≡ true → eqb p.desk.host x ≡ true
    go b e z = grind arith

-- of two tests of which not the first alone holds, the second where the first one does
second : (a b : Bool) → a ≡ true → (a && not b) ≡ false → b ≡ true
second a b first failed = elim (and_cases a (not b) failed) [ inl not_a ↦ absurd (false≢true (sym not_a ∙ first)) | inr not_b ↦ not-false b not_b ]

-- it asks nobody
abbrev AsksNobody : Decision → Type 0
AsksNobody (Ask dest notice c answer) = ⊥
AsksNobody _ = Unit {0}

module _ (t : HciTables) (p : Port) (h : ℕ) (host : p.desk.host ≡ h) where
  abbrev view : LinkView
  view = view_for t (p ∷ []) h

  -- a connected host is no other one
  none_else : (x : ℕ) → is_connected view x ≡ true → eqb x h ≡ false → ⊥
  none_else x there other = eqb-false x h other (sym (eqb-true p.desk.host x (connected_is t p h x there)) ∙ host)

  none_told : (told : List ℕ) → list_all (λ other. is_connected view other && not (eqb other h)) told ≡ true → told ≡ []
  none_told [] q = refl
  none_told (x ∷ told) q =
      let both = and_parts (is_connected view x && not (eqb x h)) (list_all (λ other. is_connected view other && not (eqb other h)) told) q in
      let first = and_parts (is_connected view x) (not (eqb x h)) both.0 in
      absurd (none_else x first.0 (not-true (eqb x h) first.1))

  pub tells_nobody : (d : Decision) → TellsOthers view h d → AsksNobody d → TellsNobody d
  tells_nobody (Answer answer) a b = tt
  tells_nobody (Commit c answer tell notice) a b = rw ((a.1 ∙ ap mask_of (none_told a.0 a.2)), nobody) tt
  tells_nobody (Ask dest notice c answer) a b = b

  pub asks_nobody : (pipe n : ℕ) (body : List ℕ) → AsksNobody (decided t view h pipe n body)
  unfolding AllFalse
  asks_nobody pipe n body =
      decided_holds AsksNobody t view h pipe body n (λ r value. tt) (λ _. record {
        opens = tt;
        closes = tt;
        sets = λ _. tt;
        makes = λ _ controller. tt;
        asks = λ passed other.
            let none = all_false (tests_to_create t view h body) passed in
            none_else (dest_in body)
            (second (not (eqb (dest_in body) 0)) (is_connected view (dest_in body)) (not_from_false (eqb (dest_in body) 0) other) none.1.1.1.1.0) none.1.1.0;
        deletes = λ _. tt;
        clears = λ _. tt;
      })

  own_decision : (n : ℕ) (d : Decision) → TellsNobody d → IsRecordableDecision d → OfDecision (IsOwnDeed n) h d
  own_decision n d a b = grind arith

-- What a controller does with a message of the host of its one link.
pub controller_own : (n : ℕ) (core : Core) (p : Port) (h : ℕ) (m : Message) → p.desk.host ≡ h → p.desk.notice ≡ None → 1 ≤ h → h ≤ 7
    → AreTables core.tables → JoinTwo core.tables.rows → AreOwnDeeds n (controller_deeds (view_of core (p ∷ [])) h m)
controller_own n core p h m host none some most sorted two =
    let v : LinkView = view_for core.tables (p ∷ []) h in
    all_of_controller (IsOwnDeed n) (plain n) core (p ∷ []) h m
    (λ k.
    let d : Decision = decided core.tables v h m.0 k (body_in m.1) in
    own_decision core.tables p h host n d
    (tells_nobody core.tables p h host d (decided_tells_others core.tables v h m.0 k (body_in m.1) two) (asks_nobody core.tables p h host m.0 k (body_in m.1)))
    (decided_recordable core.tables v h m.0 k (body_in m.1) sorted some most))
    (λ q c here asked. absurd (grind arith)) (λ errors k value command gate is. tt)

-- What a host does with a message, where no command of it waits for its answer.
pub host_own : (n : ℕ) → eqb n 0 ≡ false → (core : Core) (p : Port) (m : Message) → core.command ≡ None
    → AreOwnDeeds n (host_deeds (own_view core) (end_view p) m)
host_own n another core p m none =
    host_holds (AreOwnDeeds n) core p m (record {
      none = tt;
      drops = (tt, tt);
      goes = (tt, tt);
      ordered = λ k is.
          all_ordered (IsOwnDeed n) core (plain n) (λ c zero. absurd (true≢false (grind arith))) p.desk.errors m.0 k (body_in m.1) (λ link value sets. tt);
      heard = λ code order is. let gone : None ≡ Some order = sym none ∙ is in absurd (cc gone);
    })

-- ## A commit, whole or cut, over a memory that holds what a node knows
-- What is said of counts may rest on something that is known of the first memory.

-- ### Sound memories

none_is_other : (j : ℕ) (bodies : List (List ℕ)) → first_other j bodies ≡ None → are_commands bodies ≡ true
none_is_other j [] q = refl
none_is_other j (b ∷ bodies) q = let h0 = is_some (command_of b) in let h1 = none_is_other (j + 1) bodies in grind arith

-- a memory with which nothing is wrong is sound, and its records are commands
pub fault_none : (content : List ℕ) → image_fault content ≡ None → IsSound (journal content) × (are_commands (records content) ≡ true)
unfolding image_fault
fault_none content none = by_known (is_known (journal content).head.version) refl none where
  Of : Bool → Option JournalFault
  Of k = cond k (option_map_or (λ n. Some (BadRecord (gate_at content n))) (first_other 0 (records content)) (fault content)) (fault content)

  bad : Bool → Option JournalFault
  bad b = cond b (Some (BadRecord (gate_at content (length (records content))))) None

  known_fault : Bool → Option JournalFault
  known_fault k = cond k (bad (journal content).found.is_bad) (Some (UnknownFormat (journal content).head.version))

  by_bad : (b : Bool) → bad b ≡ None → b ≡ false
  by_bad true q = absurd (cc q)
  by_bad false q = refl

  by_known : (k : Bool) → is_known (journal content).head.version ≡ k → Of k ≡ None → IsSound (journal content) × (are_commands (records content) ≡ true)
  by_known false q z = let unknown : Some (UnknownFormat (journal content).head.version) ≡ None = sym (ap known_fault q) ∙ z in absurd (cc unknown)
  by_known true q z = by_other (first_other 0 (records content)) refl z where
    by_other : (o : Option ℕ) → first_other 0 (records content) ≡ o → option_map_or (λ n. Some (BadRecord (gate_at content n))) o (fault content) ≡ None
        → IsSound (journal content) × (are_commands (records content) ≡ true)
    by_other (Some n) p y = absurd (cc y)
    by_other None p y =
        (record { known = q; good = by_bad (journal content).found.is_bad (sym (ap known_fault q) ∙ y) }, none_is_other 0 (records content) p)

module _ (E : Type 0) where
  -- ### What a boot finds

  -- A boot on this memory finds these tables, all pipes closed, and what it finds is of version 02; if so, it counts so many commands.
  pub record FindsIf (content : List ℕ) (tables : HciTables) (many : ℕ) : Type 0 where
    pub size : 65536 ≤ length content
    pub version : (journal content).head.version ≡ 2
    pub sound : IsSound (journal content)
    pub holds : HoldsTables content tables
    pub counts : E → Counts content many

  -- a node that runs knows this of the journal in its memory, and has these tables, as a boot would find them but for open pipes
  pub record KnowsIf (content : List ℕ) (state : State) (tables : HciTables) : Type 0 where
    pub state_is : state_of content ≡ state
    pub in_use : IsSome state.in_use
    pub finds : FindsIf content tables (count_of state)

  -- a memory that says what another one says
  finds_still : (content new : List ℕ) (t : HciTables) (many : ℕ) → FindsIf content t many → length new ≡ length content → journal new ≡ journal content
      → FindsIf new t many
  finds_still content new t many f size same = grind arith

  -- a count that is as great, where counts are said
  pub finds_counting : (content : List ℕ) (t : HciTables) (m n : ℕ) → FindsIf content t m → (E → m ≡ n) → FindsIf content t n
  finds_counting content t m n f same = grind arith

  pub knows_from : (content : List ℕ) (s : State) (t : HciTables) → Says content s → IsSome s.in_use → s.version ≡ 2
      → (E → s.snapshot ≤ s.base + s.many) → HoldsTables content t → KnowsIf content s t
  knows_from content s t says some version enough holds = grind arith

  left_finds : (writes : List Write) (content left : List ℕ) (t u : HciTables) (m n : ℕ) → IsLeftBetween writes content left
      → FindsIf content t m → FindsIf (after_writes writes content) u n → FindsIf left t m ⊎ FindsIf left u n
  left_finds writes content left t u m n b before done = either (says_either writes content left b) where
    size : length left ≡ length content
    size = length-cut b.at writes content left b.whole.fit b.cut

    either : (journal left ≡ journal content) ⊎ (journal left ≡ journal (after_writes writes content)) → FindsIf left t m ⊎ FindsIf left u n
    either (inl same) = inl (finds_still content left t m before size same)
    either (inr same) = inr (finds_still (after_writes writes content) left u n done (size ∙ sym (length-after writes content b.whole.fit)) same)

  -- ### A record, and a snapshot

  module _ (content : List ℕ) (s : State) (t : HciTables) (k : KnowsIf content s t) where
    says_of : Says content s
    says_of = record { size = k.finds.size; state_is = k.state_is; sound = k.finds.sound }

    version_of : s.version ≡ 2
    version_of = sym (ap (λ (x : State). x.version) k.state_is) ∙ k.finds.version

    enough_of : E → s.snapshot ≤ s.base + s.many
    enough_of e = subst (λ (x : State). x.snapshot ≤ x.base + x.many) k.state_is (k.finds.counts e).all

    module _ (c : Command) (may : IsCommand c) (room : length (body_of c) + 5 ≤ left s) where
      has_room : HasRoomForBody s (body_of c)
      has_room = record { in_use = k.in_use; version = version_of; short = is_body c may; room = room }

      append_knows : KnowsIf (after_writes (append_writes s (body_of c)) content) (appended s (body_of c)) (apply t c)
      append_knows =
          knows_from (after_writes (append_writes s (body_of c)) content) (appended s (body_of c)) (apply t c)
          (appending.says_after content (body_of c) s says_of has_room) k.in_use version_of (λ e. let few = enough_of e in omega (arith, few))
          (holds_more content (after_writes (append_writes s (body_of c)) content) (body_of c) t c k.finds.holds (appending.records_after content
          (body_of c) s says_of has_room) refl may)

      append_left : (j : ℕ) (left : List ℕ) → IsCut j (append_writes s (body_of c)) content left
          → FindsIf left t (count_of s) ⊎ FindsIf left (apply t c) (count_of (appended s (body_of c)))
      append_left j left cut =
          left_finds (append_writes s (body_of c)) content left t (apply t c) (count_of s) (count_of (appended s (body_of c)))
          (record { at = j; whole = appending.all_or_nothing content (body_of c) s says_of has_room; cut = cut }) k.finds append_knows.finds

    module _ (are : AreTables t) (may : IsRecordable t) (next : s.generation < 4294967295) where
      can : CanCompact s (snapshot_bodies t)
      can = record {
        in_use = k.in_use;
        generation = omega (arith, next);
        short = are_bodies (snapshot_of t) (all_recordable t may are);
        room = snapshot_fits t may are;
      }

      compact_knows : KnowsIf (after_writes (compact_writes s (snapshot_bodies t)) content) (compacted s (snapshot_bodies t)) t
      compact_knows =
          knows_from (after_writes (compact_writes s (snapshot_bodies t)) content) (compacted s (snapshot_bodies t)) t
          (compacting.says_after content (snapshot_bodies t) s says_of can) (some_other s.in_use k.in_use) refl (λ e. omega arith)
          (holds_snapshot (after_writes (compact_writes s (snapshot_bodies t)) content) t may are
          (compacting.records_after content (snapshot_bodies t) s says_of can))

      compact_left : (j : ℕ) (left : List ℕ) → IsCut j (compact_writes s (snapshot_bodies t)) content left → FindsIf left t (count_of s)
      compact_left j left cut = either
          (left_finds (compact_writes s (snapshot_bodies t)) content left t t (count_of s) (count_of (compacted s (snapshot_bodies t)))
          (record { at = j; whole = compacting.all_or_nothing content (snapshot_bodies t) s says_of can; cut = cut }) k.finds compact_knows.finds)
        where
          either : FindsIf left t (count_of s) ⊎ FindsIf left t (count_of (compacted s (snapshot_bodies t))) → FindsIf left t (count_of s)
          either a = grind arith

  -- ### A commit

  module _ (content : List ℕ) (s : State) (t : HciTables) (c : Command) (k : KnowsIf content s t) (are : AreTables t) (may : IsRecordable t)
      (command : IsCommand c) (room : FindsRoom s c) where
    abbrev made_room : Bool → List ℕ
    made_room b = after_writes (cond b [] (compact_writes s (snapshot_bodies t))) content

    abbrev roomy : Bool → State
    roomy b = cond b s (compacted s (snapshot_bodies t))

    next_of : record_fits s (body_of c) ≡ false → s.generation < 4294967295
    next_of full = ltb-true s.generation 4294967295 (sym (ap (λ b. cond b true (nat_lt s.generation 4294967295)) full) ∙ room)

    room_knows : (b : Bool) → record_fits s (body_of c) ≡ b → KnowsIf (made_room b) (roomy b) t × (length (body_of c) + 5 ≤ left (roomy b))
    room_knows true is = (k, leb-true (length (body_of c) + 5) (left s) is)
    room_knows false is = (compact_knows content s t k are may (next_of is), omega (arith, snapshot_fits t may are, (is_body c command).1))

    abbrev between : List ℕ
    between = after_writes (room_writes s t (body_of c)) content

    commit_knows : KnowsIf (after_writes (commit_writes s t (body_of c)) content) (committed s t (body_of c)) (apply t c)
    commit_knows =
        let r = room_knows (record_fits s (body_of c)) refl in
        subst (λ x. KnowsIf x (committed s t (body_of c)) (apply t c))
        (sym (after-append (room_writes s t (body_of c)) (append_writes (with_room s t (body_of c)) (body_of c)) content))
        (append_knows between (with_room s t (body_of c)) t r.0 c command r.1)

    commit_count : E → count_of (committed s t (body_of c)) ≡ min (count_of s + 1) (2 ^ 32 - 1)
    commit_count e =
        let r = room_knows (record_fits s (body_of c)) refl in
        append_count (with_room s t (body_of c)) (body_of c) (enough_of between (with_room s t (body_of c)) t r.0 e)
        ∙ ap (λ n. min (n + 1) (2 ^ 32 - 1)) (room_count s t (body_of c))

    room_left : (b : Bool) → record_fits s (body_of c) ≡ b → (j : ℕ) (left : List ℕ) → IsCut j (cond b [] (compact_writes s (snapshot_bodies t))) content left
        → FindsIf left t (count_of s)
    room_left true is j left cut = absurd cut
    room_left false is j left cut = compact_left content s t k are may (next_of is) j left cut

    commit_left : (j : ℕ) (left : List ℕ) → IsCut j (commit_writes s t (body_of c)) content left
        → FindsIf left t (count_of s) ⊎ FindsIf left (apply t c) (count_of (committed s t (body_of c)))
    commit_left j left cut = by_part (cut-append j (room_writes s t (body_of c)) (append_writes (with_room s t (body_of c)) (body_of c)) content left cut) where
      by_record : FindsIf left t (count_of (with_room s t (body_of c))) ⊎ FindsIf left (apply t c) (count_of (committed s t (body_of c)))
          → FindsIf left t (count_of s) ⊎ FindsIf left (apply t c) (count_of (committed s t (body_of c)))
      by_record (inl before) = inl (subst (λ n. FindsIf left t n) (room_count s t (body_of c)) before)
      by_record (inr later) = inr later

      by_part : IsCut j (room_writes s t (body_of c)) content left ⊎ ((i : ℕ) × IsCut i (append_writes (with_room s t (body_of c)) (body_of c)) between left)
          → FindsIf left t (count_of s) ⊎ FindsIf left (apply t c) (count_of (committed s t (body_of c)))
      by_part (inl first) = inl (room_left (record_fits s (body_of c)) refl j left first)
      by_part (inr later) =
          let r = room_knows (record_fits s (body_of c)) refl in
          by_record (append_left between (with_room s t (body_of c)) t r.0 c command r.1 later.0 left later.1)

  -- over a memory whose failing write is planned
  planned_knows : (m : Memory) (s : State) (t : HciTables) (c : Command) → KnowsIf m.content s t → AreTables t → IsRecordable t → IsCommand c → FindsRoom
      s c
      → fails_within (length (commit_writes s t (body_of c))) m.plan ≡ false
      → KnowsIf (after_planned (commit_writes s t (body_of c)) m).content (committed s t (body_of c)) (apply t c)
  planned_knows m s t c k are may command room none =
      subst (λ x. KnowsIf x (committed s t (body_of c)) (apply t c)) (sym (planned_whole (commit_writes s t (body_of c)) m none).0)
      (commit_knows m.content s t c k are may command room)

  planned_left : (m : Memory) (s : State) (t : HciTables) (c : Command) → KnowsIf m.content s t → AreTables t → IsRecordable t → IsCommand c → FindsRoom s c
      → fails_within (length (commit_writes s t (body_of c))) m.plan ≡ true
      → FindsIf (after_planned (commit_writes s t (body_of c)) m).content t (count_of s)
      ⊎ FindsIf (after_planned (commit_writes s t (body_of c)) m).content (apply t c) (count_of (committed s t (body_of c)))
  planned_left m s t c k are may command room fails =
      let cut = planned_cut (commit_writes s t (body_of c)) m fails in
      commit_left m.content s t c k are may command room cut.0 (after_planned (commit_writes s t (body_of c)) m).content cut.1

  -- ### A format

  module _ (content : List ℕ) (t : HciTables) (many : ℕ) (f : FindsIf content t many) (counts_now : count_of (state_of content) ≡ many)
      (none : current content ≡ None) where
    says_unused : Says content (state_of content)
    says_unused = record { size = f.size; state_is = refl; sound = f.sound }

    pub knows_formatted : KnowsIf (after_writes format_writes content) formatted t
    knows_formatted =
        knows_from (after_writes format_writes content) formatted t (says_formatted content (state_of content) says_unused none) refl refl (λ e. omega arith)
        (holds_still content (after_writes format_writes content) t f.holds (no_records_then content (state_of content) says_unused none))

    count_formatted : count_of formatted ≡ many
    count_formatted = grind arith

    pub left_formatted : (j : ℕ) (left : List ℕ) → IsCut j format_writes content left → FindsIf left t many
    left_formatted j left cut =
        either (left_finds format_writes content left t t many many
        (record { at = j; whole = format_all_or_nothing content (state_of content) says_unused none; cut = cut }) f
        (subst (λ k. FindsIf (after_writes format_writes content) t k) count_formatted knows_formatted.finds)) where
          either : FindsIf left t many ⊎ FindsIf left t many → FindsIf left t many
          either a = grind arith

-- ## The memory of a node alone holds its commands, or all but the last one where its power went in that one's writes

-- ### Commands

pub commands_more : (xs ys : List Entry) → commands_of_entries (xs ++ ys) ≡ commands_of_entries xs ++ commands_of_entries ys
commands_more [] ys = refl
commands_more (entry.Command n c ∷ xs) ys = ap (λ l. c ∷ l) (commands_more xs ys)
commands_more (x ∷ xs) ys = commands_more xs ys

plain_none : (es : List Entry) → AllByRecursion IsPlain es → commands_of_entries es ≡ []
plain_none [] all = refl
plain_none (entry.Command n c ∷ es) all = absurd all.0
plain_none (x ∷ es) all = plain_none es all.1

-- ### Deeds

-- of a node with one link
abbrev pub IsLoneDeed : Deed → Type 0
IsLoneDeed (Commits c) = Unit {0}
IsLoneDeed (Sends to m) = Unit {0}
IsLoneDeed SaysOk = Unit {0}
IsLoneDeed IsAnswered = Unit {0}
IsLoneDeed (Drops pid) = Unit {0}
IsLoneDeed (SetsErrors errors) = Unit {0}
IsLoneDeed _ = ⊥

-- ### What a boot finds

-- a boot on this memory finds these tables with these commands carried out; if so, it counts so many more
abbrev pub FindsMore : Type 0 → HciTables → ℕ → List Command → List ℕ → Type 0
FindsMore E tables many commands content = FindsIf E content (after_commands tables commands) (min (many + length commands) (2 ^ 32 - 1))

-- or all but the last one of them
pub record FindsLess (E : Type 0) (tables : HciTables) (many : ℕ) (commands : List Command) (content : List ℕ) : Type 0 where
  pub front : List Command
  pub last : Command
  pub are : commands ≡ front ++ last ∷ []
  pub finds : FindsMore E tables many front content

module _ (E : Type 0) (tables : HciTables) (many : ℕ) (before : List Command) (old : Memory) where
  abbrev noted : Work → List Command
  noted w = before ++ commands_of_entries w.entries

  -- the node runs in a step, and its memory holds what was noted
  pub record Holds (w : Work) : Type 0 where
    pub on : w.cut ≡ false
    pub memory : Memory
    pub written : (more : List Write) → after_planned (w.writes ++ more) old ≡ after_planned more memory
    pub plan_is : w.plan ≡ memory.plan
    pub knows : KnowsIf E memory.content w.core.journal w.core.tables
    pub sorted : AreTables w.core.tables
    pub recordable : IsRecordable w.core.tables
    pub tables_are : w.core.tables ≡ after_commands tables (before ++ commands_of_entries w.entries)
    pub count_is : E → count_of w.core.journal ≡ min (many + length (before ++ commands_of_entries w.entries)) (2 ^ 32 - 1)

  -- its power went in the writes of the last command
  pub record Loses (w : Work) : Type 0 where
    pub off : w.cut ≡ true
    pub left : FindsMore E tables many (before ++ commands_of_entries w.entries) (after_planned w.writes old).content
        ⊎ FindsLess E tables many (before ++ commands_of_entries w.entries) (after_planned w.writes old).content

  abbrev pub HoldsOrLoses : Work → Type 0
  HoldsOrLoses w = Holds w ⊎ Loses w

  pub then_hold : (f : Work → Work) (w : Work) → HoldsOrLoses w → (Holds w → HoldsOrLoses (f w)) → HoldsOrLoses (unless_cut f w)
  then_hold f w (inl h) later = subst HoldsOrLoses (sym (uncut f w h.on)) (later h)
  then_hold f w (inr l) later = subst HoldsOrLoses (sym (stays_cut f w l.off)) (inr l)

  pub plainly_holds : (w v : Work) → Plainly w v → Holds w → Holds v
  plainly_holds w v p h =
      let same : before ++ commands_of_entries v.entries ≡ before ++ commands_of_entries w.entries =
      ap (λ l. before ++ l) (ap commands_of_entries p.entries
      ∙ (commands_more w.entries p.more
      ∙ (ap (λ l. commands_of_entries w.entries ++ l) (plain_none p.more p.plain) ∙ append-nil (commands_of_entries w.entries)))) in
      grind arith

  -- it is noted that a command is answered
  counted_holds : (w : Work) (n k : ℕ) → Holds w → Holds (noting (entry.AnyOk n k ∷ []) w)
  counted_holds w n k h =
      let same : before ++ commands_of_entries (w.entries ++ entry.AnyOk n k ∷ []) ≡ before ++ commands_of_entries w.entries =
      ap (λ l. before ++ l) (commands_more w.entries (entry.AnyOk n k ∷ []) ∙ append-nil (commands_of_entries w.entries)) in
      grind arith

  -- ### A commit

  module _ (c : Command) (w : Work) (h : Holds w) (may : IsCommand c) (room : FindsRoom w.core.journal c) where
    abbrev writes : List Write
    writes = commit_writes w.core.journal w.core.tables (body_of c)

    abbrev begun : Work
    begun = noting (entry.Command w.core.node c ∷ []) w

    all_are : before ++ commands_of_entries begun.entries ≡ noted w ++ c ∷ []
    all_are =
        ap (λ l. before ++ l) (commands_more w.entries (entry.Command w.core.node c ∷ []))
        ∙ sym (append_assoc before (commands_of_entries w.entries) (c ∷ []))

    tables_then : apply w.core.tables c ≡ after_commands tables (noted w ++ c ∷ [])
    tables_then = ap (λ t. apply t c) h.tables_are ∙ sym (fold-append apply tables (noted w) (c ∷ []))

    count_then : E → count_of (committed w.core.journal w.core.tables (body_of c)) ≡ min (many + length (noted w ++ c ∷ [])) (2 ^ 32 - 1)
    count_then e =
        commit_count E h.memory.content w.core.journal w.core.tables c h.knows h.sorted h.recordable may room e
        ∙ more (count_of w.core.journal) (length (noted w)) (length (noted w ++ c ∷ [])) (h.count_is e) (length-append (noted w) (c ∷ []))
      where
        more : (x l k : ℕ) → x ≡ min (many + l) (2 ^ 32 - 1) → k ≡ l + 1 → min (x + 1) (2 ^ 32 - 1) ≡ min (many + k) (2 ^ 32 - 1)
        more x l k a b = omega arith

    kept_then : fails_within (length writes) w.plan ≡ false → Holds (keeps c writes begun)
    kept_then none =
        let now : fails_within (length writes) h.memory.plan ≡ false = ap (fails_within (length writes)) (sym h.plan_is) ∙ none in
        record {
          on = h.on;
          memory = after_planned writes h.memory;
          written = λ more. ap (λ l. after_planned l old) (append_assoc w.writes writes more)
              ∙ (h.written (writes ++ more) ∙ after_planned-append writes more h.memory now);
          plan_is = ap (plan_behind writes) h.plan_is ∙ sym (planned_whole writes h.memory now).1;
          knows = planned_knows E h.memory w.core.journal w.core.tables c h.knows h.sorted h.recordable may room now;
          sorted = AreTables-apply w.core.tables c may h.sorted;
          recordable = recordable-apply w.core.tables c h.recordable may;
          tables_are = tables_then ∙ ap (after_commands tables) (sym all_are);
          count_is = λ e. count_then e ∙ ap (λ (l : List Command). min (many + length l) (2 ^ 32 - 1)) (sym all_are);
        }

    lost_then : fails_within (length writes) w.plan ≡ true → Loses (loses_power writes begun)
    lost_then fails = record {
      off = refl;
      left =
          subst (λ l. FindsMore E tables many l left ⊎ FindsLess E tables many l left) (sym (behind ∙ all_are))
          (either (subst (λ x. FindsIf E x w.core.tables (count_of w.core.journal)
          ⊎ FindsIf E x (apply w.core.tables c) (count_of (committed w.core.journal w.core.tables (body_of c)))) (sym (grind arith))
          (planned_left E h.memory w.core.journal w.core.tables c h.knows h.sorted h.recordable may room (grind arith))));
    } where
      left : List ℕ
      left = (after_planned (w.writes ++ writes) old).content

      behind : before ++ commands_of_entries (begun.entries ++ entry.Cut w.core.node ∷ []) ≡ before ++ commands_of_entries begun.entries
      behind = ap (λ l. before ++ l) (commands_more begun.entries (entry.Cut w.core.node ∷ []) ∙ append-nil (commands_of_entries begun.entries))

      either : FindsIf E left w.core.tables (count_of w.core.journal)
          ⊎ FindsIf E left (apply w.core.tables c) (count_of (committed w.core.journal w.core.tables (body_of c)))
          → FindsMore E tables many (noted w ++ c ∷ []) left ⊎ FindsLess E tables many (noted w ++ c ∷ []) left
      either (inl found) = grind arith
      either (inr found) = inl (subst (λ t. FindsIf E left t (min (many + length (noted w ++ c ∷ [])) (2 ^ 32 - 1))) tables_then
          (finds_counting E left (apply w.core.tables c) (count_of (committed w.core.journal w.core.tables (body_of c)))
          (min (many + length (noted w ++ c ∷ [])) (2 ^ 32 - 1)) found count_then))

    commit_holds : HoldsOrLoses (commit c w)
    commit_holds = by_test ((fails_within (length writes) w.plan))
        (λ fails. let is : commit c w ≡ loses_power writes begun = rw fails refl in subst HoldsOrLoses (sym is) (inr (lost_then fails)))
        (λ none. let is : commit c w ≡ keeps c writes begun = rw none refl in subst HoldsOrLoses (sym is) (inl (kept_then none)))

  -- ### Deeds

  abbrev Allows : Option State → State → Type 0
  Allows None s = Unit {0}
  Allows (Some x) s = x ≡ s

  on_hold : (f : Work → Work) (w : Work) → Holds w → HoldsOrLoses (f w) → HoldsOrLoses (unless_cut f w)
  on_hold f w h later = subst HoldsOrLoses (sym (uncut f w h.on)) later

  pub all_hold : (k : ℕ) (deeds : List Deed) (s : Option State) (command : Option (List ℕ)) (init : Option Init) (w : Work) → Holds w
      → Allows s w.core.journal → AllByRecursion IsLoneDeed deeds → MayBeDone s command init deeds → HoldsOrLoses (all_done k deeds w)
  all_hold k [] s command init w h same lone may = inl h
  all_hold k (Commits c ∷ deeds) None command init w h same lone may = absurd may.0
  all_hold k (Commits c ∷ deeds) (Some x) command init w h same lone may =
      then_hold (all_done k deeds) (commit c w) (commit_holds c w h may.0.0 (subst (λ s. FindsRoom s c) same may.0.1))
      (λ g. all_hold k deeds None command init (commit c w) g tt lone.1 may.1)
  all_hold k (Sends to m ∷ deeds) s command init w h same lone may =
      let v : Work = done k (Sends to m) w in
      let g : Holds v = plainly_holds w v (plainly_turn to (Rattle.link_laws.specs.machine.Machine.Turn.Give m) w) h in
      on_hold (all_done k deeds) v g (all_hold k deeds s command init v g same lone.1 may)
  all_hold k (SaysOk ∷ deeds) s command init w h same lone may =
      let v : Work = done k SaysOk w in
      let g : Holds v = counted_holds w w.core.node (count_of w.core.journal) h in
      on_hold (all_done k deeds) v g (all_hold k deeds s command init v g same lone.1 may)
  all_hold k (IsAnswered ∷ deeds) s command init w h same lone may =
      let v : Work = done k IsAnswered w in
      let g : Holds v = plainly_holds w v (plainly_desk k (λ d. record d { notice = None }) w (λ d. refl) (λ d x. tt) (λ d c e. absurd (cc e))) h in
      on_hold (all_done k deeds) v g (all_hold k deeds s command init v g same lone.1 may)
  all_hold k (Drops pid ∷ deeds) s command init w h same lone may =
      let v : Work = done k (Drops pid) w in
      let g : Holds v = plainly_holds w v (plainly_noting w (entry.Dropped (end_of_node w.core k) pid ∷ []) (tt, tt)) h in
      on_hold (all_done k deeds) v g (all_hold k deeds s command init v g same lone.1 may)
  all_hold k (SetsErrors errors ∷ deeds) s command init w h same lone may =
      let v : Work = done k (SetsErrors errors) w in
      let g : Holds v = plainly_holds w v (plainly_desk k (λ d. record d { errors = errors }) w (λ d. refl) (λ d x. x) (λ d c e. e)) h in
      on_hold (all_done k deeds) v g (all_hold k deeds s command init v g same lone.1 may)
  all_hold k (_ ∷ deeds) s command init w h same lone may = absurd lone.0
