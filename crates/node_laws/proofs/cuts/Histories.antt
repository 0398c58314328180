-- What is known of each node at each event of a history, and how many writes its commands make.
use Rattle.std.proofs.lemmas.Grind.{flat_map-append}
use Rattle.node_laws.proofs.Words.{AllByRecursion, AllKeep, AreHosts, Arms, Book, Bool, Boots, Command, CutBehindCommand, EachIsAsRead, Entry, FindsBy}
use Rattle.node_laws.proofs.Words.{FindsCommands, FindsExactly, FollowsNodes, Happening, HciTables, Header, IsCut, IsCutAsPlanned, IsFew, IsNodeOf}
use Rattle.node_laws.proofs.Words.{IsSentByHost, IsSome, Line, LineStep, List, MayHappen, Memory, NodeHistory, NodeWorld, None, Occurrence, Option, Reckoning}
use Rattle.node_laws.proofs.Words.{Side, Site, Some, State, [], after_planned, ap, append-nil, append_assoc, arith, begun_by, body_of, book_in, boot_writes}
use Rattle.node_laws.proofs.Words.{by_test, commands_in, commit_writes, cond, cond-false, cond-true, cond_both, current, entries_in, eqb, eqb-true, false}
use Rattle.node_laws.proofs.Words.{flat_map, fold, fold-append, format_writes, fresh, happenings, inl, inr, is_open_beside, last_in, length, list_any}
use Rattle.node_laws.proofs.Words.{list_any-append, map, new_book, new_memory, new_site, new_world, node_entries, occurrences_in, occurrences_of}
use Rattle.node_laws.proofs.Words.{option_map_or, reckoned, reckoned_within, reckoning_in, reckoning_of, record_fits, refl, replicate, site_at, state_of, subst}
use Rattle.node_laws.proofs.Words.{suc, sym, true, true≢false, with_event, world_behind, world_step, writes_of, ℕ, ◌++◌, ◌-◌, ◌^◌, ◌||◌, ◌∙◌, ◌∷◌, ◌≡◌, ◌≤◌}
use Rattle.node_laws.specs.cuts.Histories.{AreCutAsPlanned, AreFoundExactly, BootsWriteSo, CommandsWriteSo, KeptExactly, MemoriesHold, StandsInMemories}
use Rattle.node_laws.specs.cuts.Histories.{boots_it}
use Rattle.node_laws.proofs.cuts.Events.{GoesExactly, event_exact}
use Rattle.node_laws.proofs.cuts.Standing.{Stands, book_then}
use Rattle.node_laws.proofs.cuts.Ticking.{IsThere, StandsAt}
use Rattle.node_laws.proofs.kept.Ticking.{all_begin, are_kept, line_may, world_goes}
use Rattle.node_laws.proofs.telling.Lasting.{AreCaused, lines_caused}
use Rattle.trace_model.specs.declared.entry.Entry.TheVariants as entry

-- ## How many writes a command makes

pub two_writes : (c : Command) (r : Reckoning) → record_fits (state_of r.memory.content) (body_of c) ≡ true → length (writes_of c r) ≡ 2
two_writes c r is = rw is refl

-- with a snapshot
more : (s : State) (t : HciTables) (c : Command) → record_fits s (body_of c) ≡ false → (side : Side) → s.in_use ≡ Some side → (b : Bool) → s.beside ≡ b
    → length (commit_writes s t (body_of c)) ≡ cond b 5 4
more s t c full side used b open_gate = grind arith

pub snapshot_writes : (c : Command) (r : Reckoning) → record_fits (state_of r.memory.content) (body_of c) ≡ false → IsSome (current r.memory.content)
    → length (writes_of c r) ≡ cond (is_open_beside r.memory.content) 5 4
snapshot_writes c r full some = by_bank (current r.memory.content) refl some where
  by_bank : (o : Option Side) → current r.memory.content ≡ o → IsSome o → length (writes_of c r) ≡ cond (is_open_beside r.memory.content) 5 4
  by_bank None is used = absurd (true≢false (sym used))
  by_bank (Some side) is used = more (state_of r.memory.content) r.book.tables c full side is (is_open_beside r.memory.content) refl

-- ## What is known of each node at each event of a history

-- ### The beginning

begins : (n : ℕ) → Stands n [] (reckoning_of false new_book (new_memory (replicate 65536 255))) (new_memory (replicate 65536 255)) None
begins n = grind arith

site_in : (content : List ℕ) (hosts : List ℕ) (n : ℕ) → list_any (λ h. eqb h n) hosts ≡ true
    → (s : Site) × (site_at (map (new_site content) hosts) n ≡ Some s) × (s.memory ≡ new_memory content) × (s.node ≡ None)
site_in content [] n is = absurd (true≢false (sym is))
site_in content (h ∷ hosts) n is = by_test (eqb h n)
    (λ same. (new_site content h, cond-true (eqb h n) _ _ same, refl, refl))
    (λ other. let rest = site_in content hosts n (sym (ap (λ b. b || list_any (λ k. eqb k n) hosts) other) ∙ is) in
    (rest.0, cond-false (eqb h n) _ _ other ∙ rest.1, rest.2, rest.3))

-- a node of these hosts, as the world begins
record Begins (n : ℕ) (w : NodeWorld) : Type 0 where
  there : IsThere w n
  stands : StandsAt n [] (reckoning_of false new_book (new_memory (replicate 65536 255))) w

node_begins : (hosts : List ℕ) (n : ℕ) → IsNodeOf hosts n → Begins n (new_world hosts)
node_begins hosts n is = by_test (eqb n 0)
    (λ zero_is. subst (λ k. Begins k (new_world hosts)) (sym (eqb-true n 0 zero_is)) (record { there = inl refl; stands = begins 0 }))
    (λ off. let s = site_in (replicate 65536 255) hosts n (sym (ap (λ b. b || list_any (λ h. eqb h n) hosts) off) ∙ is) in
    (grind arith)) where
      blank : Reckoning
      blank = reckoning_of false new_book (new_memory (replicate 65536 255))

-- ### Events

entries-append : (xs ys : List Occurrence) → entries_in (xs ++ ys) ≡ entries_in xs ++ entries_in ys
entries-append xs ys = flat_map-append (λ (o : Occurrence). o.entries) xs ys

or_false_left : (a b : Bool) → (a || (b || false)) ≡ false → a ≡ false
or_false_left a b is = grind arith

abbrev pub blank : List ℕ
blank = replicate 65536 255

-- a node that doesn't run, over a memory that is blank
pub record IsNew (r : Reckoning) : Type 0 where
  pub off : r.runs ≡ false
  pub content : r.memory.content ≡ blank

abbrev pub boots_in : ℕ → List Occurrence → Bool
boots_in n events = list_any (λ (o : Occurrence). boots_it n o.cause) events

new_all : (n : ℕ) (r : Reckoning) (es : List Entry) → EachIsAsRead n r es → IsNew r → IsNew (fold (reckoned n) r es)
new_all n r [] each new = new
new_all n r (e ∷ es) each new = new_all n (reckoned n r e) es each.2 (grind arith)

new_event : (n : ℕ) (r : Reckoning) (c : Happening) (es : List Entry) → boots_it n c ≡ false → IsCutAsPlanned n r c es → IsNew r
    → IsNew (reckoned_within n c r es)
new_event n r (Boots k) es none planned new =
    subst (λ x. IsNew (fold (reckoned n) x es))
    (sym (ap (λ b. cond b (record r { memory = after_planned (boot_writes r.memory.content) r.memory }) r) none)) (new_all n r es (rw none at planned) new)
new_event n r (IsCut k) es none planned new = grind arith
new_event n r (Arms k plan) es none planned new =
    new_all n (begun_by n (Arms k plan) r) es planned.0
    (cond_both (eqb k n) (record r { memory = record r.memory { plan = Some plan } }) r IsNew (λ _. record { off = new.off; content = new.content }) (λ _. new))
new_event n r _ es none planned new = new_all n r es planned.0 new

module _ (hosts : List ℕ) (are : AreHosts hosts) (n : ℕ) where
  -- what is known before each of these events, and behind all of them
  pub record IsKnown (front : List Occurrence) (w : NodeWorld) (events : List Occurrence) : Type 0 where
    pub keep : AllKeep hosts (entries_in front) w
    pub caused : AreCaused MayHappen w events
    pub few : IsFew (entries_in front ++ entries_in events)
    pub there : IsThere w n
    pub stands : StandsAt n (entries_in front) (reckoning_in front n) w
    pub new : boots_in n front ≡ false → IsNew (reckoning_in front n)

  goes : (front : List Occurrence) (w : NodeWorld) (o : Occurrence) (events : List Occurrence) → IsKnown front w (o ∷ events)
      → GoesExactly n (entries_in front) (reckoning_in front n) o.cause (world_step w o.cause)
  goes front w o events k =
      let few : (j : ℕ) → length (commands_in (entries_in front) j) ≤ 2 ^ 32 - 1 = λ j. k.few (entries_in front) (entries_in (o ∷ events)) j refl in
      event_exact hosts are n (entries_in front) (reckoning_in front n) w o.cause k.keep k.caused.1 (few n)
      (world_goes hosts are (entries_in front) w o.cause k.keep k.caused.1 few).keep k.there k.stands

  next_known : (front : List Occurrence) (w : NodeWorld) (o : Occurrence) (events : List Occurrence) → IsKnown front w (o ∷ events)
      → IsKnown (front ++ o ∷ []) (world_step w o.cause).0 events
  next_known front w o events k =
      let few : (j : ℕ) → length (commands_in (entries_in front) j) ≤ 2 ^ 32 - 1 = λ j. k.few (entries_in front) (entries_in (o ∷ events)) j refl in
      let g = goes front w o events k in
      let es : List Entry = (world_step w o.cause).1 in
      let here : entries_in (front ++ o ∷ []) ≡ entries_in front ++ es =
      entries-append front (o ∷ []) ∙ ap (λ l. entries_in front ++ l) (append-nil o.entries ∙ k.caused.0) in
      let read : reckoning_in (front ++ o ∷ []) n ≡ reckoned_within n o.cause (reckoning_in front n) es =
      fold-append (with_event n) (reckoning_of false new_book (new_memory (replicate 65536 255))) front (o ∷ [])
      ∙ ap (reckoned_within n o.cause (reckoning_in front n)) k.caused.0 in
      record {
        keep = subst (λ t. AllKeep hosts t (world_step w o.cause).0) (sym here)
            (world_goes hosts are (entries_in front) w o.cause k.keep k.caused.1 few).keep;
        caused = k.caused.2;
        few = subst IsFew (sym (append_assoc (entries_in front) o.entries (entries_in events)) ∙ ap (λ l. l ++ entries_in events)
            (sym (entries-append front (o ∷ []) ∙ ap (λ l. entries_in front ++ l) (append-nil o.entries)))) k.few;
        there = g.there;
        new = λ none.
            let both : (boots_in n front || (boots_it n o.cause || false)) ≡ false =
            sym (list_any-append (λ (x : Occurrence). boots_it n x.cause) front (o ∷ [])) ∙ none in
            let first : boots_in n front ≡ false = or_false_left (boots_in n front) (boots_it n o.cause) both in
            subst IsNew (sym read) (new_event n (reckoning_in front n) o.cause es (grind arith) g.planned (k.new first));
        stands = grind arith;
      }

  -- behind some more of them
  known_behind : (more : List Occurrence) (front : List Occurrence) (w : NodeWorld) (events : List Occurrence) → IsKnown front w (more ++ events)
      → IsKnown (front ++ more) (world_behind w more) events
  known_behind [] front w events k = subst (λ f. IsKnown f w events) (sym (append-nil front)) k
  known_behind (o ∷ more) front w events k =
      subst (λ f. IsKnown f (world_behind w (o ∷ more)) events) (append_assoc front (o ∷ []) more)
      (known_behind more (front ++ o ∷ []) (world_step w o.cause).0 events (next_known front w o (more ++ events) k))

  -- an event of them
  event_is : (front : List Occurrence) (w : NodeWorld) (o : Occurrence) (events : List Occurrence) → IsKnown front w (o ∷ events)
      → IsCutAsPlanned n (reckoning_in front n) o.cause o.entries
      × ((before behind : List Entry) (many : ℕ) → o.entries ≡ before ++ (entry.Booted n many ∷ behind)
      → FindsExactly (reckoned_within n o.cause (reckoning_in front n) before) many)
  event_is front w o events k =
      let g = goes front w o events k in grind arith

-- ### Schedules

module _ (header : Header) (lines : List Line) (t : NodeHistory) (follows : FollowsNodes header lines t) (are : AreHosts header.hosts.items)
    (sides : AllByRecursion IsSentByHost lines) (few : IsFew (node_entries t)) where
  hosts_are : t.header.hosts.items ≡ header.hosts.items
  hosts_are = ap (λ (h : Header). h.hosts.items) follows.header_is

  abbrev w0 : NodeWorld
  w0 = new_world header.hosts.items

  caused : AreCaused MayHappen w0 (occurrences_in t)
  caused =
      subst (λ steps. AreCaused MayHappen w0 (flat_map (λ (s : LineStep). occurrences_of s.outcome) steps)) (sym follows.steps_are)
      (lines_caused MayHappen IsSentByHost
      (λ w l side none. (let h0 = (happenings w l) in let h1 = (line_may header.hosts.items are w l side none) in grind arith)) lines w0 sides)

  pub known : (n : ℕ) → IsNodeOf t.header.hosts.items n → (front back : List Occurrence) → occurrences_in t ≡ front ++ back
      → IsKnown header.hosts.items are n front (world_behind w0 front) back
  known n node front back is =
      let b : Begins n w0 = node_begins header.hosts.items n (subst (λ l. IsNodeOf l n) hosts_are node) in
      known_behind header.hosts.items are n front [] w0 back (record {
        keep = all_begin header.hosts.items;
        caused = subst (AreCaused MayHappen w0) is caused;
        few = subst (λ l. IsFew (entries_in l)) is few;
        there = b.there;
        stands = b.stands;
        new = λ none. record { off = refl; content = refl };
      })

  pub found_exactly : AreFoundExactly t
  found_exactly front back o before behind n many node is at_it = (of_entries, cut_behind) where
    k : IsKnown header.hosts.items are n front (world_behind w0 front) (o ∷ back)
    k = known n node front (o ∷ back) is

    finds : FindsExactly (reckoned_within n o.cause (reckoning_in front n) before) many
    finds = (event_is header.hosts.items are n front (world_behind w0 front) o back k).1 before behind many at_it

    seen : List Entry
    seen = entries_in front ++ before

    entries_are : node_entries t ≡ seen ++ (entry.Booted n many ∷ (behind ++ entries_in back))
    entries_are =
        ap entries_in is ∙ entries-append front (o ∷ back) ∙ ap (λ l. entries_in front ++ (l ++ entries_in back)) at_it
        ∙ ap (λ l. entries_in front ++ l) (append_assoc before (entry.Booted n many ∷ behind) (entries_in back))
        ∙ sym (append_assoc (entries_in front) before (entry.Booted n many ∷ (behind ++ entries_in back)))

    book_is : (reckoned_within n o.cause (reckoning_in front n) before).book ≡ book_in seen n
    book_is = book_then n (entries_in front) (begun_by n o.cause (reckoning_in front n)) before ((grind arith) ∙ k.stands.book_is)

    of_entries : FindsBy (reckoned_within n o.cause (reckoning_in front n) before).lost many (length (commands_in seen n))
    of_entries = subst (λ (b : Book). FindsBy (reckoned_within n o.cause (reckoning_in front n) before).lost many (length b.commands)) book_is finds

    cut_behind : (reckoned_within n o.cause (reckoning_in front n) before).lost ≡ true → last_in seen n ≡ CutBehindCommand
    cut_behind lost = by_which ((are_kept header lines t follows are sides few).found seen (behind ++ entries_in back) n many entries_are) where
      less : suc many ≡ length (commands_in seen n)
      less = subst (λ b. FindsBy b many (length (reckoned_within n o.cause (reckoning_in front n) before).book.commands)) lost finds
          ∙ ap (λ (b : Book). length b.commands) book_is

      by_which : FindsCommands seen n many → last_in seen n ≡ CutBehindCommand
      by_which (inl all) = absurd (omega (arith, all, less))
      by_which (inr cut) = cut.1

  pub cut_as_planned : AreCutAsPlanned t
  cut_as_planned front back o n node is =
      (event_is header.hosts.items are n front (world_behind w0 front) o back (known n node front (o ∷ back) is)).0

  pub stands_in_memories : StandsInMemories t
  stands_in_memories front back n node is = let h0 = known n node front back is in grind arith

  -- what a boot writes, by whether a bank is in use
  writes_none : (content : List ℕ) → IsSome (current content) → boot_writes content ≡ []
  writes_none content some = by_bank (current content) refl some where
    by_bank : (b : Option Side) → current content ≡ b → IsSome b → boot_writes content ≡ []
    by_bank b is used = grind arith

  pub boots_write_so : BootsWriteSo t
  boots_write_so front back n node is =
      let k : IsKnown header.hosts.items are n front (world_behind w0 front) back = known n node front back is in (
        λ booted. writes_none (reckoning_in front n).memory.content
            (subst (λ (m : Memory). IsSome (current m.content)) (sym k.stands.memory_is) (k.stands.used booted)),
        λ none. ap boot_writes (k.new none).content ∙ ap (λ p. option_map_or (λ _. []) p format_writes) (fresh 65536 (omega arith)).closed,
      )

  pub commands_write_so : CommandsWriteSo t
  commands_write_so front back n c node is booted = by_test (record_fits (state_of content) (body_of c))
      (λ fits. two_writes c r fits ∙ sym (ap (λ b. cond b 2 (cond (is_open_beside content) 5 4)) fits))
      (λ full. snapshot_writes c r full (subst (λ (m : Memory). IsSome (current m.content)) (sym k.stands.memory_is) (k.stands.used booted)) ∙ sym
      (ap (λ b. cond b 2 (cond (is_open_beside content) 5 4)) full))
    where
      k : IsKnown header.hosts.items are n front (world_behind w0 front) back
      k = known n node front back is

      r : Reckoning
      r = reckoning_in front n

      content : List ℕ
      content = r.memory.content

  pub memories_hold : MemoriesHold t
  memories_hold front back n node is =
      let k : IsKnown header.hosts.items are n front (world_behind w0 front) back = known n node front back is in
      let r : Reckoning = reckoning_in front n in
      grind arith

  pub kept_exactly : KeptExactly t
  kept_exactly = record {
    kept = are_kept header lines t follows are sides few;
    found = found_exactly;
    cut = cut_as_planned;
    boots = boots_write_so;
    commands = commands_write_so;
    holds = memories_hold;
    stands = stands_in_memories;
  }
