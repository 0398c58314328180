-- Over a whole run of a node alone its memory holds its commands, a boot makes it ready, and the run answers every message.
use Rattle.std.proofs.lemmas.Bool.Decides.{nat_tests}
use Rattle.std.specs.Prelude.{IsSome, None, Option, Some}
use Rattle.lone_laws.proofs.Words.{AllByRecursion, AnsweredAlone, AreTables, Bool, CanCompact, Command, Control, Core, Counts, CountsAll, Deed, End, EndForm}
use Rattle.lone_laws.proofs.Words.{Entry, FetchMessage, FindsAllButLast, FindsBehind, FindsSame, FindsTables, FrameIsRefused, HciTables, Hold, HoldsTables}
use Rattle.lone_laws.proofs.Words.{IsHeldBehind, IsKeptIn, IsReadyMemory, IsRecordable, IsSound, IsTakenMemory, IsTrue, LinkInput, List, Lone, LoneCause}
use Rattle.lone_laws.proofs.Words.{LoneEvent, MayBeDone, Memory, Message, Port, Running, Says, State, Work, [], after_commands, after_planned}
use Rattle.lone_laws.proofs.Words.{after_writes, all_come, all_done, all_recordable, ap, append-nil, append_assoc, ap₂, are_bodies, are_commands, arith}
use Rattle.lone_laws.proofs.Words.{behind_boot, boot_writes, by_option, by_test, close, close-close, comes_to_pass, commands_of_entries, compact_count}
use Rattle.lone_laws.proofs.Words.{compact_writes, compacted, cond, count, count_of, counted, current, deeds_of, does_by_power, emits_behind, end_causes}
use Rattle.lone_laws.proofs.Words.{end_history, end_node, end_of_node, end_written, entries_of_events_alone, eqb, eqb-true, fails_within, false, format_writes}
use Rattle.lone_laws.proofs.Words.{formatted, found, frames_behind, goes_through_ends, good_found, handles, handles_sees, have_turns, holds_back}
use Rattle.lone_laws.proofs.Words.{holds_snapshot, holds_still, hosts_of_ends, inl, inr, is_held, is_none, is_some, journal, lack, length, lets_go, lone_after}
use Rattle.lone_laws.proofs.Words.{lone_arrival, lone_behind_step, lone_booted, lone_end, lone_events, lone_input, lone_step, lone_work, lpdu_of, map, min}
use Rattle.lone_laws.proofs.Words.{needs, new_desk, no_records_then, node_input, noted_of_refused, noting, one_may, option_map_or, passes, plainly_come}
use Rattle.lone_laws.proofs.Words.{plainly_desk, plainly_noting, plainly_then, plainly_turn, planned_cut, planned_whole, port_at, records, refl, runs_on}
use Rattle.lone_laws.proofs.Words.{says_formatted, session_with, snapshot_bodies, snapshot_fits, snapshot_of, some_other, sound_has_no_fault, started_state}
use Rattle.lone_laws.proofs.Words.{state_of, steps, steps_are, subst, sym, syncs_in, syncs_one, tables_of, true, true≢false, turn_at, waiting_at, with_desk}
use Rattle.lone_laws.proofs.Words.{ℕ, ◌++◌, ◌+◌, ◌-◌, ◌<◌, ◌==◌, ◌^◌, ◌||◌, ◌∙◌, ◌∷◌, ◌≡◌, ◌≤◌, ◌⊎◌}
use Rattle.hci_store.specs.Starting.{migrated, migration_writes, ready_state}
use Rattle.journal_laws.specs.declared.banks.Side.{Side}
use Rattle.node_laws.proofs.kept.Stepping.{OneOrNone, controller_may, host_may}
use Rattle.node_machine.specs.Orders.{IsOnOrder}
use Rattle.lone_laws.specs.alone.Runs.{IsAnsweredRun}
use Rattle.lone_laws.proofs.answered.Coming.{IsLoneInput, pass_is}
use Rattle.lone_laws.proofs.answered.Memories.{FindsIf, FindsLess, FindsMore, Holds, HoldsOrLoses, IsLoneDeed, KnowsIf, all_hold, commands_more, fault_none}
use Rattle.lone_laws.proofs.answered.Memories.{knows_formatted, knows_from, left_formatted, plainly_holds, then_hold}
use Rattle.lone_laws.proofs.answered.Knowing.{LoneKeeps, arrival_nothing, begin_read, begins_alone, step_is}
use Rattle.lone_laws.proofs.answered.Reading.{Alone, Read}
use Rattle.lone_laws.proofs.answered.Replied.{deeds_shape}
use Rattle.lone_laws.proofs.answered.Replying.{IsLoneReply}
use Rattle.lone_laws.proofs.answered.Stepping.{alone_begins, lone_comes}
use Rattle.lone_laws.proofs.answered.Turning.{alone_handled, alone_here, link_is}
use Rattle.lone_laws.proofs.answered.Whole.{Between, begin_between, booted_core, each_step, lone_answered}
use Rattle.nv_journal.proofs.Compacting as compacting
use Rattle.trace_model.specs.declared.entry.Entry.TheVariants as entry

-- ## A boot makes a memory ready: what the next boot finds there is what it found

first_version : (v : ℕ) → IsTrue (v == 1 || v == 2) → (v == 2) ≡ false → v ≡ 1
first_version v known older = grind (arith, nat_tests)

module _ (content : List ℕ) (taken : IsTakenMemory content) where
  abbrev s : State
  s = state_of content

  abbrev t : HciTables
  t = close (tables_of content)

  abbrev bodies : List (List ℕ)
  bodies = snapshot_bodies t

  -- each record counts, or the memory is written anew
  abbrev pub MayCount : Type 0
  MayCount = ((journal content).head.version ≡ 1) ⊎ CountsAll content

  both : IsSound (journal content) × (are_commands (records content) ≡ true)
  both = fault_none content taken.sound

  says : Says content s
  says = record { size = taken.size; state_is = refl; sound = both.0 }

  holds : HoldsTables content t
  holds = record { commands = both.1; tables_are = sym (close-close (tables_of content)) }

  fine : AreTables t × IsRecordable t
  fine = good_found content

  -- a boot that knows this of the memory finds the same
  record Leaves (new : List ℕ) (j : State) : Type 0 where
    knows : KnowsIf MayCount new j t
    count_is : count_of j ≡ count content

  leaves_formatted : current content ≡ None → Leaves (after_writes format_writes content) formatted
  leaves_formatted none = record {
    knows = knows_from MayCount (after_writes format_writes content) formatted t (says_formatted content s says none) refl refl (λ e. omega arith)
        (holds_still content (after_writes format_writes content) t holds (no_records_then content s says none));
    count_is = counted content s formatted says (ap (λ o. option_map_or (λ _. s) o formatted) (sym none));
  }

  leaves_as_is : IsSome (current content) → (s.version == 2) ≡ true → Leaves content s
  leaves_as_is some second = record {
    knows = knows_from MayCount content s t says some version counts holds;
    count_is = refl;
  } where
    version : s.version ≡ 2
    version = eqb-true s.version 2 second

    counts : MayCount → s.snapshot ≤ s.base + s.many
    counts a = grind arith

  leaves_anew : IsSome (current content) → (s.version == 2) ≡ false → Leaves (after_writes (compact_writes s bodies) content) (compacted s bodies)
  leaves_anew some older = record {
    knows = knows_from MayCount (after_writes (compact_writes s bodies) content) (compacted s bodies) t (compacting.says_after content bodies s says can)
        (some_other (current content) some) refl (λ e. omega arith)
        (holds_snapshot (after_writes (compact_writes s bodies) content) t fine.1 fine.0 (compacting.records_after content bodies s says can));
    count_is = compact_count s bodies;
  } where
    next : s.generation < 4294967295
    next = taken.next (first_version s.version both.0.known older)

    can : CanCompact s bodies
    can = record {
      in_use = some;
      generation = omega (arith, next);
      short = are_bodies (snapshot_of t) (all_recordable t fine.1 fine.0);
      room = snapshot_fits t fine.1 fine.0;
    }

  leaves : (o : Option Side) → current content ≡ o
      → Leaves (after_writes (option_map_or (λ _. []) o format_writes ++ migration_writes (option_map_or (λ _. s) o formatted) t) content)
      (migrated (option_map_or (λ _. s) o formatted) t)
  leaves None none = leaves_formatted none
  leaves (Some side) is = by_test (s.version == 2) (λ second. rw second (leaves_as_is some second)) (λ older. rw older (leaves_anew some older)) where
    some : IsSome (current content)
    some = subst IsSome (sym is) refl

  left : Leaves (behind_boot content) (ready_state content)
  left = leaves (current content) refl

  pub is_ready : IsReadyMemory (behind_boot content)
  is_ready = record {
    size = left.knows.finds.size;
    sound = sound_has_no_fault (behind_boot content) left.knows.finds.holds.commands left.knows.finds.sound;
    version = left.knows.finds.version;
  }

  pub finds_same : FindsSame content (behind_boot content)
  finds_same = record {
    tables_are = left.knows.finds.holds.tables_are ∙ close-close (tables_of content);
    count_is = ap count_of left.knows.state_is ∙ left.count_is;
    fault_is = is_ready.sound ∙ sym taken.sound;
  }

  pub counts_all : MayCount → CountsAll (behind_boot content)
  counts_all e = (left.knows.finds.counts e).all

  -- ### The next boot

  some_now : IsSome (state_of (behind_boot content)).in_use
  some_now = subst (λ (j : State). IsSome j.in_use) (sym left.knows.state_is) left.knows.in_use

  pub boots_silently : boot_writes (behind_boot content) ≡ []
  boots_silently = by (state_of (behind_boot content)).in_use some_now where
    by : (o : Option Side) → IsSome o → option_map_or (λ _. []) o format_writes ≡ []
    by o some = grind arith

  started_now : started_state (state_of (behind_boot content)) ≡ ready_state content
  started_now = by (state_of (behind_boot content)) some_now ∙ left.knows.state_is where
    by : (j : State) → IsSome j.in_use → started_state j ≡ j
    by j some = at j.in_use some where
      at : (o : Option Side) → IsSome o → option_map_or (λ _. j) o formatted ≡ j
      at None some = absurd (true≢false (sym some))
      at (Some side) some = refl

  pub found_again : (number : ℕ) (hosts : List ℕ)
      → found number hosts (behind_boot content)
      ≡ record (found number hosts content) { core = record (found number hosts content).core { journal = ready_state content } }
  found_again number hosts =
      ap₂ (λ (j : State) (u : HciTables). record {
        core = record { node = number; journal = j; tables = u; command = None; init = None };
        desks = map new_desk hosts;
      }) started_now finds_same.tables_are

-- ## Over a whole run of a node alone its memory holds its commands, or all but the last one where its power went in that one's writes

lone_deeds : (deeds : List Deed) → IsLoneReply deeds → AllByRecursion IsLoneDeed deeds
lone_deeds deeds a = grind arith

-- ### Turns

module _ (rest : Core) (number h : ℕ) (some : 1 ≤ h) (most : h ≤ 7) (its : eqb number 0 ≡ false → number ≡ h) (s : ℕ) (t : List Entry)
    (E : Type 0) (tables : HciTables) (many : ℕ) (before : List Command) (old : Memory) where
  abbrev r : Read
  r = begin_read (record rest { node = number })

  abbrev Of : Work → Type 0
  Of w = Alone number h r t w

  abbrev Has : Work → Type 0
  Has w = Holds E tables many before old w

  abbrev Fine : Work → Type 0
  Fine w = HoldsOrLoses E tables many before old w

  on_none : (w : Work) → Of w → IsOnOrder w.core.command w.core.init
  on_none w a = subst (IsOnOrder w.core.command) (sym a.init) tt

  small : (w : Work) → Of w → w.core.node ≤ 7
  small w a = grind arith

  turn_may : (k : ℕ) (m : Message) (w : Work) → Has w → Of w → k ≡ h
      → MayBeDone (Some w.core.journal) w.core.command w.core.init (deeds_of w.core w.ports k m)
  turn_may k m w g a same = by_test (eqb w.core.node 0)
      (λ q. rw q (controller_may w.core (on_none w a) g.sorted w.ports (grind arith) k (subst (λ n. 1 ≤ n) (sym same) some)
      (subst (λ n. n ≤ 7) (sym same) most) m))
      (λ q. rw q (by_option (port_at w.ports k) (λ q. rw q (on_none w a)) (λ p q. rw q (host_may w.core (on_none w a) g.sorted (small w a) p m))))

  handled_holds : (k : ℕ) (m : Message) (messages : List Message) (w : Work) → Has w → Of w → waiting_at w.ports k ≡ m ∷ messages
      → Fine (handles k m (deeds_of w.core w.ports k m) w)
  handled_holds k m messages w g a waits =
      let here = alone_here number h some most r t k m messages w a waits in
      let same : k ≡ h = link_is number h some most r t k a.port a.host here.own in
      let x : Work = noting (entry.Turn (end_of_node w.core k) m.0 m.1 ∷ []) w in
      let y : Work = turn_at k FetchMessage x in
      let v : Work = with_desk k (λ d. record d { holds = false }) y in
      let taken : Has v = plainly_holds E tables many before old w v
      (plainly_then w x v (plainly_noting w (entry.Turn (end_of_node w.core k) m.0 m.1 ∷ []) (tt, tt))
      (plainly_then x y v (plainly_turn k FetchMessage x) (plainly_desk k (λ d. record d { holds = false }) y (λ d. refl) (λ d z. z) (λ d c e. e)))) g in
      all_hold E tables many before old k (deeds_of w.core w.ports k m) (Some v.core.journal) w.core.command w.core.init v taken refl
      (lone_deeds (deeds_of w.core w.ports k m) (deeds_shape rest number h some most s t k m w a here.own)) (turn_may k m w g a same)

  held_holds : (k : ℕ) (short : ℕ × ℕ) (w : Work) → Has w → Has (holds_back k short w)
  held_holds k short w g = by_test (option_map_or (λ (p : Port). p.desk.holds) (port_at w.ports k) false)
      (λ q. rw q (plainly_holds E tables many before old w (turn_at k (Hold true) w) (plainly_turn k (Hold true) w) g))
      (λ q. rw q (plainly_holds E tables many before old w (turn_at k (Hold true) y)
      (plainly_then w x (turn_at k (Hold true) y) (plainly_noting w (entry.Held (end_of_node w.core k) short.0 short.1 ∷ []) (tt, tt))
      (plainly_then x y (turn_at k (Hold true) y) (plainly_desk k (λ d. record d { holds = true }) x (λ d. refl) (λ d z. z) (λ d c e. e))
      (plainly_turn k (Hold true) y))) g)) where
        x : Work
        x = noting (entry.Held (end_of_node w.core k) short.0 short.1 ∷ []) w

        y : Work
        y = with_desk k (λ d. record d { holds = true }) x

  left_holds : (k : ℕ) (w : Work) → Has w → Has (lets_go k w)
  left_holds k w g = by_test (option_map_or (λ (p : Port). is_held p.side) (port_at w.ports k) false)
      (λ q. rw q (plainly_holds E tables many before old w (turn_at k (Hold false) w) (plainly_turn k (Hold false) w) g))
      (λ q. rw q g)

  turns_hold : (k : ℕ) (messages : List Message) (w : Work) → Has w → Of w → waiting_at w.ports k ≡ messages → Fine (have_turns k messages w)
  turns_hold k [] w g a waits = inl (left_holds k w g)
  turns_hold k (m ∷ messages) w g a waits = by_option (lack w.ports (needs k deeds))
      (λ q. rw q (then_hold E tables many before old (have_turns k messages) (handles k m deeds w) (handled_holds k m messages w g a waits)
      (λ z. turns_hold k messages (handles k m deeds w) z (alone_handled number h some most r t k m messages w a waits z.on)
      (handles_sees k m messages deeds w waits).0)))
      (λ short q. rw q (inl (held_holds k short w g))) where
        deeds : List Deed
        deeds = deeds_of w.core w.ports k m

  pass_holds : (w : Work) → Has w → Of w → Fine (passes w)
  pass_holds w g a =
      subst (λ hs. Fine (goes_through_ends hs w)) (sym (ap hosts_of_ends a.ports_are ∙ ap (λ n. n ∷ []) a.host))
      (then_hold E tables many before old (goes_through_ends []) (have_turns h (waiting_at w.ports h) w)
      (turns_hold h (waiting_at w.ports h) w g a refl) (λ z. inl z))

  -- a step
  step_holds : (i : LinkInput) → IsLoneInput i → (w : Work) → Has w → Of w → Fine (steps (node_input h i) w)
  step_holds i may w g a =
      subst Fine (sym (steps_are input w))
      (then_hold E tables many before old passes (comes_to_pass input w) (subst Fine (sym is) first) (λ z. pass_holds (comes_to_pass input w) z (begun z.on)))
    where
      input : Rattle.node_machine.specs.Node.NodeInput
      input = node_input h i

      is : comes_to_pass input w ≡ all_done 0 (syncs_in input w) (all_come input w)
      is = pass_is number h r t i may w a

      begun : (comes_to_pass input w).cut ≡ false → Of (comes_to_pass input w)
      begun on = alone_begins number h some most r t i may w a on

      hosts : hosts_of_ends w.ports ≡ h ∷ []
      hosts = ap hosts_of_ends a.ports_are ∙ ap (λ n. n ∷ []) a.host

      one : OneOrNone w.core (syncs_in input w)
      one = syncs_one w.core input w.ports (subst Rattle.node_laws.specs.kept.Hosts.AreDifferent (sym hosts) (tt, tt))
          (subst (AllByRecursion Rattle.trace_model.specs.Lines.IsHost) (sym hosts) ((some, most), tt))

      lone : AllByRecursion IsLoneDeed (syncs_in input w)
      lone = by one where
        by : OneOrNone w.core (syncs_in input w) → AllByRecursion IsLoneDeed (syncs_in input w)
        by (inl none) = subst (AllByRecursion IsLoneDeed) (sym none) tt
        by (inr c) = subst (AllByRecursion IsLoneDeed) (sym c.1) (tt, tt)

      come : Has (all_come input w)
      come = plainly_holds E tables many before old w (all_come input w) (plainly_come input w) g

      first : Fine (all_done 0 (syncs_in input w) (all_come input w))
      first =
          all_hold E tables many before old 0 (syncs_in input w) (Some w.core.journal) w.core.command w.core.init (all_come input w) come refl lone
          (one_may w.core (syncs_in input w) w.core.command w.core.init one (on_none w a))

-- ### Events

emits_none : (e : End) (frames : List Control) → commands_of_entries (map (λ c. entry.Emit e (lpdu_of c)) frames) ≡ []
emits_none e [] = refl
emits_none e (c ∷ frames) = emits_none e frames

-- what a node that runs has between events
record Remembers (E : Type 0) (tables : HciTables) (many : ℕ) (t : List Entry) (m : Memory) (n : Running) : Type 0 where
  pub knows : KnowsIf E m.content n.core.journal n.core.tables
  pub sorted : AreTables n.core.tables
  pub recordable : IsRecordable n.core.tables
  pub tables_are : n.core.tables ≡ after_commands tables (commands_of_entries t)
  pub count_is : E → count_of n.core.journal ≡ min (many + length (commands_of_entries t)) (2 ^ 32 - 1)

abbrev RemembersBy : Type 0 → HciTables → ℕ → List Entry → Memory → Option Running → Type 0
RemembersBy E tables many t m (Some n) = Remembers E tables many t m n
RemembersBy E tables many t m None =
    FindsMore E tables many (commands_of_entries t) m.content ⊎ FindsLess E tables many (commands_of_entries t) m.content

abbrev AllRemembered : Type 0 → HciTables → ℕ → List Entry → Lone → Type 0
AllRemembered E tables many t l = RemembersBy E tables many t l.memory l.node

module _ (E : Type 0) (tables : HciTables) (many : ℕ) where
  input_remembers : (rest : Core) (t : List Entry) (l : Lone) → 1 ≤ l.link → l.link ≤ 7 → (eqb l.number 0 ≡ false → l.number ≡ l.link) → (n : Running)
      → l.node ≡ Some n → LoneKeeps (begin_read (record rest { node = l.number })) t l n → (c : LoneCause) (i : LinkInput) → lone_input c ≡ Some i
      → Remembers E tables many t l.memory n → AllRemembered E tables many (t ++ (lone_step l c).1) (lone_step l c).0
  input_remembers rest t l some most its n on keep c i comes b =
      subst (λ (x : Lone × List Entry). AllRemembered E tables many (t ++ x.1) x.0) (sym (step_is l n c i on comes))
      (by (step_holds rest l.number l.link some most its (session_with l i) t E tables many before l.memory i (lone_comes c i comes) first holds
      (begins_alone (begin_read (record rest { node = l.number })) t l n i (lone_arrival l c) (arrival_nothing l c) keep)))
    where
      before : List Command
      before = commands_of_entries t

      first : Work
      first = lone_work l n i (lone_arrival l c)

      last : Work
      last = steps (node_input l.link i) first

      es : List Entry
      es = last.entries ++ emits_behind l last

      none : before ++ commands_of_entries (lone_arrival l c) ≡ before
      none = ap (λ x. before ++ x) (grind arith) ∙ append-nil before

      told : commands_of_entries (t ++ es) ≡ before ++ commands_of_entries last.entries
      told =
          commands_more t es
          ∙ ap (λ x. before ++ x) (commands_more last.entries (emits_behind l last)
          ∙ (ap (λ x. commands_of_entries last.entries ++ x) (emits_none (lone_end l) (frames_behind l last)) ∙ append-nil (commands_of_entries last.entries)))

      holds : Holds E tables many before l.memory first
      holds = record {
        on = refl;
        memory = l.memory;
        written = λ more. refl;
        plan_is = refl;
        knows = b.knows;
        sorted = b.sorted;
        recordable = b.recordable;
        tables_are = b.tables_are ∙ ap (after_commands tables) (sym none);
        count_is = λ e. b.count_is e ∙ ap (λ (x : List Command). min (many + length x) (2 ^ 32 - 1)) (sym none);
      }

      now : Running
      now = record { core = last.core; desks = map (λ (p : Port). p.desk) last.ports }

      by : HoldsOrLoses E tables many before l.memory last → AllRemembered E tables many (t ++ es) (lone_behind_step l i last)
      by (inl g) =
          let is : runs_on last ≡ Some now = ap (λ b. cond b None (Some now)) g.on in
          let memory : after_planned last.writes l.memory ≡ g.memory =
          ap (λ x. after_planned x l.memory) (sym (append-nil last.writes)) ∙ g.written [] in
          subst (RemembersBy E tables many (t ++ es) (after_planned last.writes l.memory)) (sym is)
          (subst (λ (m : Memory). Remembers E tables many (t ++ es) m now) (sym memory) (record {
            knows = g.knows;
            sorted = g.sorted;
            recordable = g.recordable;
            tables_are = g.tables_are ∙ ap (after_commands tables) (sym told);
            count_is = λ e. g.count_is e ∙ ap (λ (x : List Command). min (many + length x) (2 ^ 32 - 1)) (sym told);
          }))
      by (inr x) =
          let is : runs_on last ≡ None = ap (λ b. cond b None (Some now)) x.off in
          subst (RemembersBy E tables many (t ++ es) (after_planned last.writes l.memory)) (sym is)
          (subst (λ z. FindsMore E tables many z (after_planned last.writes l.memory).content
          ⊎ FindsLess E tables many z (after_planned last.writes l.memory).content) (sym told) x.left)

  -- nothing comes of a frame that is refused
  refused_remembers : (t : List Entry) (l : Lone) (n : Running) → l.node ≡ Some n → (c : LoneCause) → lone_input c ≡ None
      → Remembers E tables many t l.memory n → AllRemembered E tables many (t ++ (lone_step l c).1) (lone_step l c).0
  refused_remembers t l n on (FrameIsRefused fault) q b =
      subst (λ (x : Lone × List Entry). AllRemembered E tables many (t ++ x.1) x.0) (sym (ap (does_by_power l (FrameIsRefused fault)) on))
      (let h0 = commands_more t (noted_of_refused l (FrameIsRefused fault)) in let h1 = append-nil (commands_of_entries t) in grind arith)
  refused_remembers t l n on _ q b = absurd (cc q)

  module _ (rest : Core) (number h : ℕ) (some : 1 ≤ h) (most : h ≤ 7) (its : eqb number 0 ≡ false → number ≡ h) where
    step_remembers : (t : List Entry) (l : Lone) (c : LoneCause) → is_some l.node ≡ true → Between rest number h t l → AllRemembered E tables many t l
        → AllRemembered E tables many (t ++ (lone_step l c).1) (lone_step l c).0
    step_remembers t l c runs k b = by_option l.node (λ off. absurd (true≢false (sym runs ∙ ap is_some off))) (λ n on. by_input n on (lone_input c) refl) where
      by_input : (n : Running) → l.node ≡ Some n → (o : Option LinkInput) → lone_input c ≡ o
          → AllRemembered E tables many (t ++ (lone_step l c).1) (lone_step l c).0
      by_input n on (Some i) q =
          input_remembers rest t l (subst (λ x. 1 ≤ x) (sym k.link_is) some) (subst (λ x. x ≤ 7) (sym k.link_is) most)
          (λ z. k.number_is ∙ (its (ap (λ x. eqb x 0) (sym k.number_is) ∙ z) ∙ sym k.link_is)) n on (k.all n on).keep c i q
          (subst (RemembersBy E tables many t l.memory) on b)
      by_input n on None q = refused_remembers t l n on c q (subst (RemembersBy E tables many t l.memory) on b)

    off_stays : (causes : List LoneCause) (l : Lone) → l.node ≡ None → lone_after l causes ≡ l
    off_stays [] l off = refl
    off_stays (c ∷ causes) l off = let h0 = lone_step l c in let h1 = does_by_power l c in let h2 = off_stays causes l off in grind arith

    run_remembers : (causes : List LoneCause) (t : List Entry) (l : Lone) → Between rest number h t l → AllRemembered E tables many t l
        → AllRemembered E tables many (t ++ entries_of_events_alone (lone_events l causes)) (lone_after l causes)
    run_remembers [] t l k b = subst (λ x. AllRemembered E tables many x l) (sym (append-nil t)) b
    run_remembers (c ∷ causes) t l k b = by_test (is_some l.node)
        (λ q. let event : LoneEvent = record { cause = c; entries = (lone_step l c).1 } in
        let is : lone_events l (c ∷ causes) ≡ event ∷ lone_events (lone_step l c).0 causes = grind arith in
        subst (λ x. AllRemembered E tables many (t ++ entries_of_events_alone x) (lone_after l (c ∷ causes))) (sym is)
        (subst (λ x. AllRemembered E tables many x (lone_after l (c ∷ causes)))
        (append_assoc t (lone_step l c).1 (entries_of_events_alone (lone_events (lone_step l c).0 causes)))
        ((run_remembers causes) (t ++ (lone_step l c).1) (lone_step l c).0 (each_step rest number h some most its t l c q k).1 (step_remembers t l c q k b))))
        (λ q. let event : LoneEvent = record { cause = c; entries = (lone_step l c).1 } in
        let is : lone_events l (c ∷ causes) ≡ [] = ap (λ b. cond b (event ∷ lone_events (lone_step l c).0 causes) []) q in
        let same : lone_after l (c ∷ causes) ≡ l = off_stays (c ∷ causes) l (grind arith) in
        subst (λ x. AllRemembered E tables many (t ++ entries_of_events_alone x) (lone_after l (c ∷ causes))) (sym is)
        (subst (λ (x : Lone). AllRemembered E tables many (t ++ []) x) (sym same) (subst (λ x. AllRemembered E tables many x l) (sym (append-nil t)) b)))

-- ### Its beginning

-- what is ready is found
module _ (first : List ℕ) where
  abbrev pub Counted : Type 0
  Counted = CountsAll first

  abbrev pub start : HciTables
  start = close (tables_of first)

  found_first : IsReadyMemory first → FindsIf Counted first start (count first)
  found_first ready =
      let both = fault_none first ready.sound in
      record {
        size = ready.size;
        version = ready.version;
        sound = both.0;
        holds = record { commands = both.1; tables_are = sym (close-close (tables_of first)) };
        counts = λ all. record { all = all; count_is = refl };
      }

  found_behind : (commands : List Command) (content : List ℕ) → FindsMore Counted start (count first) commands content → FindsBehind first commands content
  found_behind commands content f = record {
    finds = record {
      ready = record { size = f.size; sound = sound_has_no_fault content f.holds.commands f.sound; version = f.version };
      tables_are = f.holds.tables_are;
    };
    counts = f.counts;
  }

  found_less : (commands : List Command) (content : List ℕ) → FindsLess Counted start (count first) commands content → FindsAllButLast first commands content
  found_less commands content f = record { front = f.front; last = f.last; are = f.are; finds = found_behind f.front content f.finds }

module _ (number h : ℕ) (m : Memory) (ready : IsReadyMemory m.content) where
  abbrev content : List ℕ
  content = m.content

  abbrev E : Type 0
  E = Counted content

  abbrev tables : HciTables
  tables = start content

  f : FindsIf E content tables (count content)
  f = found_first content ready

  boot_remembers : AllRemembered E tables (count content) [] (lone_booted number h m)
  boot_remembers = by_plan (fails_within (length (boot_writes content)) m.plan) refl where
    count_so : count_of (started_state (state_of content)) ≡ count content
    count_so =
        counted content (state_of content) (started_state (state_of content)) (record { size = f.size; state_is = refl; sound = f.sound }) refl

    knows : (o : Option Side) → current content ≡ o → KnowsIf E (after_writes (boot_writes content) content) (started_state (state_of content)) tables
    knows (Some side) is =
        subst (λ w. KnowsIf E (after_writes w content) (started_state (state_of content)) tables) (sym (ap (λ p. option_map_or (λ _. []) p format_writes) is))
        (subst (λ s. KnowsIf E content s tables) (sym (ap (λ p. option_map_or (λ _. state_of content) p formatted) is))
        (record { state_is = refl; in_use = subst IsSome (sym is) refl; finds = f }))
    knows None is =
        subst (λ w. KnowsIf E (after_writes w content) (started_state (state_of content)) tables) (sym (ap (λ p. option_map_or (λ _. []) p format_writes) is))
        (subst (λ s. KnowsIf E (after_writes format_writes content) s tables) (sym (ap (λ p. option_map_or (λ _. state_of content) p formatted) is))
        (knows_formatted E content tables (count content) f refl is))

    at_first : (left : List ℕ) → FindsIf E left tables (count content) → FindsMore E tables (count content) [] left
    at_first left g = grind arith

    lost : (o : Option Side) → current content ≡ o → fails_within (length (boot_writes content)) m.plan ≡ true
        → FindsMore E tables (count content) [] (after_planned (boot_writes content) m).content
    lost (Some side) is fails =
        let none : boot_writes content ≡ [] = ap (λ p. option_map_or (λ _. []) p format_writes) is in
        subst (λ w. FindsMore E tables (count content) [] (after_planned w m).content) (sym none) (at_first content f)
    lost None is fails =
        let formats : boot_writes content ≡ format_writes = ap (λ p. option_map_or (λ _. []) p format_writes) is in
        let cut = planned_cut format_writes m (ap (λ w. fails_within (length w) m.plan) (sym formats) ∙ fails) in
        subst (λ w. FindsMore E tables (count content) [] (after_planned w m).content) (sym formats)
        (at_first (after_planned format_writes m).content
        (left_formatted E content tables (count content) f refl is cut.0 (after_planned format_writes m).content cut.1))

    by_plan : (b : Bool) → fails_within (length (boot_writes content)) m.plan ≡ b
        → RemembersBy E tables (count content) [] (after_planned (boot_writes content) m) (cond b None (Some (found number (h ∷ []) content)))
    by_plan true fails = inl (lost (current content) refl fails)
    by_plan false none = record {
      knows = subst (λ x. KnowsIf E x (started_state (state_of content)) tables) (sym (planned_whole (boot_writes content) m none).0)
          (knows (current content) refl);
      sorted = (good_found content).0;
      recordable = (good_found content).1;
      tables_are = refl;
      count_is = λ e. (omega (arith, count_so));
    }

-- what is remembered is held
held_behind : (first : List ℕ) (t : List Entry) (l : Lone) → AllRemembered (Counted first) (start first) (count first) t l
    → IsHeldBehind first (commands_of_entries t) l
held_behind first t l a = by_option l.node
    (λ q. rw q (either (subst (RemembersBy E (start first) (count first) t l.memory) q a)))
    (λ n q. rw q (holds n (subst (RemembersBy E (start first) (count first) t l.memory) q a))) where
      E : Type 0
      E = Counted first

      holds : (n : Running) → Remembers E (start first) (count first) t l.memory n → FindsBehind first (commands_of_entries t) l.memory.content
      holds n b =
          found_behind first (commands_of_entries t) l.memory.content
          (grind arith)

      either : FindsMore E (start first) (count first) (commands_of_entries t) l.memory.content
          ⊎ FindsLess E (start first) (count first) (commands_of_entries t) l.memory.content
          → FindsBehind first (commands_of_entries t) l.memory.content ⊎ FindsAllButLast first (commands_of_entries t) l.memory.content
      either (inl all) = inl (found_behind first (commands_of_entries t) l.memory.content all)
      either (inr less) = inr (found_less first (commands_of_entries t) l.memory.content less)

pub run_held : (number h : ℕ) → 1 ≤ h → h ≤ 7 → (eqb number 0 ≡ false → number ≡ h) → (m : Memory) → IsReadyMemory m.content → (causes : List LoneCause)
    → IsHeldBehind m.content (commands_of_entries (entries_of_events_alone (lone_events (lone_booted number h m) causes)))
    (lone_after (lone_booted number h m) causes)
run_held number h some most its m ready causes =
    held_behind m.content (entries_of_events_alone (lone_events (lone_booted number h m) causes)) (lone_after (lone_booted number h m) causes)
    (run_remembers (Counted m.content) (start m.content) (count m.content) (booted_core number h some most its m) number h some most its causes []
    (lone_booted number h m) (begin_between number h some most its m) (boot_remembers number h m ready))

-- ## A whole run over a memory that a boot left answers every message, and the memory keeps its commands

pub end_answered : (form : EndForm) (is_clf : Bool) (m : Memory) (bytes : List ℕ)
    → AnsweredAlone (found (cond is_clf 0 2) (2 ∷ []) m.content).core 2 (end_history form (end_node is_clf m) bytes)
end_answered form true m bytes =
    lone_answered 0 2 (omega arith) (omega arith) (λ q. absurd (true≢false q)) m (end_causes form (end_node true m) bytes)
end_answered form false m bytes = lone_answered 2 2 (omega arith) (omega arith) (λ q. refl) m (end_causes form (end_node false m) bytes)

pub end_held : (form : EndForm) (is_clf : Bool) (m : Memory) → IsReadyMemory m.content → (bytes : List ℕ)
    → IsHeldBehind m.content (commands_of_entries (entries_of_events_alone (end_history form (end_node is_clf m) bytes)))
    (lone_after (end_node is_clf m) (end_causes form (end_node is_clf m) bytes))
end_held form true m ready bytes =
    run_held 0 2 (omega arith) (omega arith) (λ q. absurd (true≢false q)) m ready (end_causes form (end_node true m) bytes)
end_held form false m ready bytes = run_held 2 2 (omega arith) (omega arith) (λ q. refl) m ready (end_causes form (end_node false m) bytes)

-- ### In terms of the memory before the boot

module _ (old first : List ℕ) (same : FindsSame old first) (carries : CountsAll old → CountsAll first) where
  finds_of : (commands : List Command) (content : List ℕ) → FindsBehind first commands content → FindsBehind old commands content
  finds_of commands content f = record {
    finds = subst (λ t. FindsTables content (after_commands t commands)) same.tables_are f.finds;
    counts = λ all. subst (λ many. Counts content (min (many + length commands) (2 ^ 32 - 1))) same.count_is (f.counts (carries all));
  }

  kept_of : (stopped : Bool) (commands : List Command) (content : List ℕ) → IsKeptIn stopped first commands content → IsKeptIn stopped old commands content
  kept_of false commands content f = finds_of commands content f
  kept_of true commands content (inl f) = inl (finds_of commands content f)
  kept_of true commands content (inr f) = inr (record { front = f.front; last = f.last; are = f.are; finds = finds_of f.front content f.finds })

pub answered_run : (old new : List ℕ) (stopped : Bool) (form : EndForm) (is_clf : Bool) (bytes written : List ℕ) → IsTakenMemory old → (m : Memory)
    → m.content ≡ behind_boot old → end_written form (end_node is_clf m) bytes ≡ written
    → (lone_after (end_node is_clf m) (end_causes form (end_node is_clf m) bytes)).memory.content ≡ new
    → is_none (lone_after (end_node is_clf m) (end_causes form (end_node is_clf m) bytes)).node ≡ stopped
    → IsAnsweredRun old new stopped form is_clf bytes written
answered_run old new stopped form is_clf bytes written taken m content_is wrote now power =
    let last : Lone = lone_after (end_node is_clf m) (end_causes form (end_node is_clf m) bytes) in
    let commands : List Command = commands_of_entries (entries_of_events_alone (end_history form (end_node is_clf m) bytes)) in
    let held : IsKeptIn (is_none last.node) m.content commands last.memory.content =
    end_held form is_clf m (subst IsReadyMemory (sym content_is) (is_ready old taken)) bytes in
    let kept : IsKeptIn stopped (behind_boot old) commands new = grind arith in
    record {
      memory = m;
      same = subst (FindsSame old) (sym content_is) (finds_same old taken);
      wrote = wrote;
      answered = end_answered form is_clf m bytes;
      kept = kept_of old (behind_boot old) (finds_same old taken) (λ all. counts_all old taken (inr all)) stopped commands new kept;
    }
