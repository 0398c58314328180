-- A commit in a step of a node, and what is known of the node by what is read of it.
use Rattle.std.proofs.Math.Seq.{take-append_seam, take-length}
use Rattle.std.proofs.lemmas.Bool.Decides.{nat_tests}
use Rattle.node_laws.proofs.Words.{AllByRecursion, Book, Bool, BootFinds, Command, EachIsAsRead, Entry, FindsBy, FindsRoom, IsCommand, IsSome, List, Memory}
use Rattle.node_laws.proofs.Words.{None, Option, Plan, Port, Reckoning, Running, Some, StillRuns, Work, Write, [], after_commands, after_planned, and_parts, ap}
use Rattle.node_laws.proofs.Words.{append-nil, append_assoc, apply, arith, body_of, book_after, book_in, by_option, by_test, cases_Bool, close, commands_in}
use Rattle.node_laws.proofs.Words.{commit, commit_writes, committed, cond, count_of, current, eq-eqb, fails_within, false, fold, inl, inr, is_next}
use Rattle.node_laws.proofs.Words.{is_opened_gate, is_some, leb-true, length, length-append, list_any, list_any-append, loses_power, map, memory_after, min}
use Rattle.node_laws.proofs.Words.{nat_le, ne_eqb, no_tables, not, noting, opens_gate, or-false, reckoned, reckoning_of, refl, runs_on, slice_index, subst, sym}
use Rattle.node_laws.proofs.Words.{take, true, true≢false, with_written, writes_of, ℕ, ◌&&◌, ◌++◌, ◌+◌, ◌-◌, ◌==◌, ◌^◌, ◌||◌, ◌∙◌, ◌∷◌, ◌≡◌, ◌≤◌, ◌⊎◌}
use Rattle.node_laws.specs.cuts.Histories.{is_boot_of}
use Rattle.node_laws.specs.kept.Books.{HasLostIn}
use Rattle.node_laws.proofs.cuts.Commits.{planned_closed, planned_opened}
use Rattle.node_laws.proofs.kept.Doing.{GoesOn_or_lost, book_command, book_more, closed_book, closed_command}
use Rattle.node_laws.proofs.kept.Reckoned.{IsNothingFor, commit_count, each_more, finds_closed, fold_book, fold_more, idle_each, idle_fold, planned_used}
use Rattle.node_laws.proofs.kept.Reckoned.{reckoned_command, used_of, writes_are}
use Rattle.trace_model.specs.declared.entry.Entry.TheVariants as entry

-- ## A commit of a node in a step: the plan from the beginning of the step decides what a boot finds

-- ### The plan

abbrev farther : ℕ → Plan → Option Plan
farther n p = Some (record { nth = p.nth + n; fill = p.fill })

spent : (m : Memory) (at : ℕ) (bytes : List ℕ) → is_next m.plan ≡ true → (memory_after m at bytes).plan ≡ None
spent m at bytes next = grind arith

-- a plan that is left behind writes was planned before them
plan_before : (writes_of_steps : List Write) (m : Memory) (p : Plan) → 1 ≤ p.nth → (after_planned writes_of_steps m).plan ≡ Some p
    → m.plan ≡ farther (length writes_of_steps) p
plan_before [] m p low is = is ∙ ap (λ k. Some (record { nth = k; fill = p.fill })) (omega arith)
plan_before (w ∷ writes_of_steps) m p low is =
    by_next (cases_Bool (is_next m.plan)) (λ left. plan_before writes_of_steps (memory_after m w.at w.bytes) p low left)
  where
    here : (b : Bool) → is_next m.plan ≡ b → (cond b (memory_after m w.at w.bytes) (after_planned writes_of_steps (memory_after m w.at w.bytes))).plan ≡ Some p
    here b next = sym (ap (λ b. (cond b (memory_after m w.at w.bytes) (after_planned writes_of_steps (memory_after m w.at w.bytes))).plan) next) ∙ is

    none_left : (memory_after m w.at w.bytes).plan ≡ Some p → (memory_after m w.at w.bytes).plan ≡ None → ⊥
    none_left some none = cc

    by_next : (is_next m.plan ≡ true) ⊎ (is_next m.plan ≡ false)
        → ((after_planned writes_of_steps (memory_after m w.at w.bytes)).plan ≡ Some p
        → (memory_after m w.at w.bytes).plan ≡ farther (length writes_of_steps) p)
        → m.plan ≡ farther (length (w ∷ writes_of_steps)) p
    by_next a behind = grind arith

same_last : (x a b l : ℕ) → l ≡ a + b → (x + a == l) ≡ (x == b)
same_last x a b l all = grind (arith, nat_tests)

-- ### A step

module _ (n : ℕ) (hosts : List ℕ) (old : Memory) (before : List Entry) (c : Command) (w : Work) (r : StillRuns n hosts old before w) (may : IsCommand c)
    (room : FindsRoom w.core.journal c) (cut : (commit c w).cut ≡ true) where
  abbrev writes_of_steps : List Write
  writes_of_steps = commit_writes w.core.journal w.core.tables (body_of c)

  abbrev seen : List Entry
  seen = before ++ w.entries

  abbrev lost : Work
  lost = loses_power writes_of_steps (noting (entry.Command w.core.node c ∷ []) w)

  fails : fails_within (length writes_of_steps) w.plan ≡ true
  fails = by_test (fails_within (length writes_of_steps) w.plan)
      (λ fails. fails)
      (λ none. grind arith)

  is_lost : commit c w ≡ lost
  is_lost = rw fails refl

  now : fails_within (length writes_of_steps) r.memory.plan ≡ true
  now = ap (fails_within (length writes_of_steps)) (sym r.plan_is) ∙ fails

  memory_is : (after_planned (commit c w).writes old).content ≡ (after_planned writes_of_steps r.memory).content
  memory_is = ap (λ (v : Work). (after_planned v.writes old).content) is_lost ∙ ap (λ (m : Memory). m.content) (r.written writes_of_steps)

  plan_at : opens_gate (length (commit c w).writes) old.plan ≡ opens_gate (length writes_of_steps) r.memory.plan
  plan_at = ap (λ (v : Work). opens_gate (length v.writes) old.plan) is_lost ∙ by_option r.memory.plan
      (λ is. absurd (true≢false (sym (sym (ap (fails_within (length writes_of_steps)) is) ∙ now))))
      (λ p is. let sides = and_parts (nat_le 1 p.nth) (nat_le p.nth (length writes_of_steps)) (sym (ap (fails_within (length writes_of_steps)) is) ∙ now) in
      ap (opens_gate (length (w.writes ++ writes_of_steps)))
      (plan_before w.writes old p (leb-true 1 p.nth sides.0)
      ((ap (λ l. (after_planned l old).plan) (sym (append-nil w.writes)) ∙ ap (λ (m : Memory). m.plan) (r.written [])) ∙ is))
      ∙ ap (λ b. b && is_opened_gate (slice_index p.fill 0)) (same_last p.nth (length w.writes) (length writes_of_steps) (length (w.writes ++ writes_of_steps))
      (length-append w.writes writes_of_steps))
      ∙ ap (opens_gate (length writes_of_steps)) (sym is))

  -- what is read then
  commands_are_of_steps : commands_in (before ++ (commit c w).entries) n ≡ commands_in seen n ++ c ∷ []
  commands_are_of_steps =
      ap (λ (v : Work). commands_in (before ++ v.entries) n) is_lost
      ∙ ap (λ l. commands_in (before ++ l) n) (append_assoc w.entries (entry.Command w.core.node c ∷ []) (entry.Cut w.core.node ∷ []))
      ∙ ap (λ l. commands_in l n) (sym (append_assoc before w.entries (entry.Command w.core.node c ∷ entry.Cut w.core.node ∷ [])))
      ∙ ap (λ (b : Book). b.commands) (book_more seen (entry.Command w.core.node c ∷ entry.Cut w.core.node ∷ []) n
      ∙ sym (book_more seen (entry.Command w.core.node c ∷ []) n) ∙ book_command seen w.core.node n c r.number)

  count_then : count_of (committed w.core.journal w.core.tables (body_of c)) ≡ min (length (commands_in seen n ++ c ∷ [])) (2 ^ 32 - 1)
  count_then =
      commit_count r.memory.content w.core.journal w.core.tables c r.knows r.sorted r.recordable may room
      ∙ more (count_of w.core.journal) (length (commands_in seen n)) (length (commands_in seen n ++ c ∷ [])) r.count_is
      (length-append (commands_in seen n) (c ∷ []))
    where
      more : (x l k : ℕ) → x ≡ min l (2 ^ 32 - 1) → k ≡ l + 1 → min (x + 1) (2 ^ 32 - 1) ≡ min k (2 ^ 32 - 1)
      more x l k a b = omega arith

  abbrev new : List ℕ
  new = (after_planned (commit c w).writes old).content

  abbrev FindsAll : List Command → Type 0
  FindsAll commands = BootFinds new (after_commands no_tables commands) (min (length commands) (2 ^ 32 - 1))

  pub step_opened : opens_gate (length (commit c w).writes) old.plan ≡ true → FindsAll (commands_in (before ++ (commit c w).entries) n)
  step_opened opens =
      let found = planned_opened r.memory w.core.journal w.core.tables c r.knows r.sorted r.recordable may room now (sym plan_at ∙ opens) in
      let closed = ap (λ t. close (apply t c)) r.tables_are ∙ closed_command (book_in seen n) c (closed_book seen n) in
      subst FindsAll (sym commands_are_of_steps)
      (subst (λ x. BootFinds x (after_commands no_tables (commands_in seen n ++ c ∷ [])) (min (length (commands_in seen n ++ c ∷ [])) (2 ^ 32 - 1)))
      (sym memory_is)
      (subst (λ k. BootFinds (after_planned writes_of_steps r.memory).content (after_commands no_tables (commands_in seen n ++ c ∷ [])) k) count_then
      (grind arith)))

  pub step_closed : opens_gate (length (commit c w).writes) old.plan ≡ false → FindsAll (commands_in seen n)
  step_closed opens =
      subst (λ x. BootFinds x (after_commands no_tables (commands_in seen n)) (min (length (commands_in seen n)) (2 ^ 32 - 1))) (sym memory_is)
      (subst (λ k. BootFinds (after_planned writes_of_steps r.memory).content (after_commands no_tables (commands_in seen n)) k) r.count_is
      (finds_closed (after_planned writes_of_steps r.memory).content w.core.tables (after_commands no_tables (commands_in seen n)) (count_of w.core.journal)
      (planned_closed r.memory w.core.journal w.core.tables c r.knows r.sorted r.recordable may room now (sym plan_at ∙ opens))
      (ap close r.tables_are ∙ closed_book seen n)))

-- ## What is known of a node by what is read of it, and what an event of one node leaves of that

-- A boot would find so many of these commands.
abbrev pub FindsMany : List ℕ → List Command → ℕ → Type 0
FindsMany content commands many = BootFinds content (after_commands no_tables (take many commands)) (min many (2 ^ 32 - 1))

-- what is read of a node is what it has, and a boot would find exactly the commands that are read
pub record Stands (n : ℕ) (t : List Entry) (r : Reckoning) (m : Memory) (node : Option Running) : Type 0 where
  pub runs_is : r.runs ≡ is_some node
  pub book_is : r.book ≡ book_in t n
  pub memory_is : r.memory ≡ m
  pub none_due : r.due ≡ false
  pub none_lost : is_some node ≡ true → r.lost ≡ false
  pub many : ℕ
  pub which : FindsBy r.lost many (length r.book.commands)
  pub finds : FindsMany m.content r.book.commands many
  pub used : list_any (is_boot_of n) t ≡ true → IsSome (current m.content)

-- so it is after these entries, and each cut among them is due
pub record Exact (n : ℕ) (t : List Entry) (r : Reckoning) (es : List Entry) (m : Memory) (node : Option Running) : Type 0 where
  pub each : EachIsAsRead n r es
  pub stands : Stands n (t ++ es) (fold (reckoned n) r es) m node

pub book_then : (n : ℕ) (t : List Entry) (r : Reckoning) (es : List Entry) → r.book ≡ book_in t n → (fold (reckoned n) r es).book ≡ book_in (t ++ es) n
book_then n t r es is = fold_book n r es ∙ ap (λ b. fold (book_after n) b es) is ∙ sym (book_more t es n)

-- all commands are found
pub all_found : (content : List ℕ) (commands : List Command) → BootFinds content (after_commands no_tables commands) (min (length commands) (2 ^ 32 - 1))
    → FindsMany content commands (length commands)
all_found content commands finds =
    subst (λ l. BootFinds content (after_commands no_tables l) (min (length commands) (2 ^ 32 - 1))) (sym (take-length commands)) finds

-- all but the last one
less_found : (content : List ℕ) (commands : List Command) (c : Command)
    → BootFinds content (after_commands no_tables commands) (min (length commands) (2 ^ 32 - 1))
    → FindsMany content (commands ++ c ∷ []) (length commands)
less_found content commands c finds =
    subst (λ l. BootFinds content (after_commands no_tables l) (min (length commands) (2 ^ 32 - 1))) (sym (take-append_seam commands (c ∷ []))) finds

-- ### Boots

nothing_boots : (n : ℕ) (r : Reckoning) (e : Entry) → IsNothingFor n e → is_boot_of n e ≡ false
nothing_boots n r (entry.Booted m k) x = ne_eqb m n (x.as_read r)
nothing_boots n r _ x = refl

none_boots : (n : ℕ) (r : Reckoning) (es : List Entry) → AllByRecursion (IsNothingFor n) es → list_any (is_boot_of n) es ≡ false
none_boots n r [] all = refl
none_boots n r (e ∷ es) all = ap (λ b. b || list_any (is_boot_of n) es) (nothing_boots n r e all.0) ∙ none_boots n r es all.1

-- entries without a boot of the node
pub still_booted : (n : ℕ) (t es : List Entry) → list_any (is_boot_of n) es ≡ false → list_any (is_boot_of n) (t ++ es) ≡ list_any (is_boot_of n) t
still_booted n t es none = list_any-append (is_boot_of n) t es ∙ ap (λ b. list_any (is_boot_of n) t || b) none ∙ or-false (list_any (is_boot_of n) t)

-- ### Nothing of the node

pub exact_idle : (n : ℕ) (t : List Entry) (r : Reckoning) (es : List Entry) (m : Memory) (node : Option Running) → Stands n t r m node
    → AllByRecursion (IsNothingFor n) es → Exact n t r es m node
exact_idle n t r es m node s all =
    let same : fold (reckoned n) r es ≡ r = idle_fold n r es all in
    record {
      each = idle_each n r es s.none_due all;
      stands = record {
        runs_is = ap (λ (x : Reckoning). x.runs) same ∙ s.runs_is;
        book_is = book_then n t r es s.book_is;
        memory_is = ap (λ (x : Reckoning). x.memory) same ∙ s.memory_is;
        none_due = ap (λ (x : Reckoning). x.due) same ∙ s.none_due;
        none_lost = λ on. ap (λ (x : Reckoning). x.lost) same ∙ s.none_lost on;
        many = s.many;
        which = subst (λ (x : Reckoning). FindsBy x.lost s.many (length x.book.commands)) (sym same) s.which;
        finds = subst (λ (x : Reckoning). FindsMany m.content x.book.commands s.many) (sym same) s.finds;
        used = λ on. s.used (sym (still_booted n t es (none_boots n r es all)) ∙ on);
      };
    }

-- so a node stands that has the same memory, and runs or not as before
pub stands_same : (n : ℕ) (t : List Entry) (r : Reckoning) (m k : Memory) (node later : Option Running) → Stands n t r m node → k ≡ m
    → is_some later ≡ is_some node → Stands n t r k later
stands_same n t r m k node later s memory runs = grind arith

pub exact_then : (n : ℕ) (t : List Entry) (r : Reckoning) (xs ys : List Entry) (k : Memory) (later : Option Running) → EachIsAsRead n r xs
    → Exact n (t ++ xs) (fold (reckoned n) r xs) ys k later → Exact n t r (xs ++ ys) k later
exact_then n t r xs ys k later each b = record {
  each = each_more n r xs ys each b.each;
  stands = subst (λ l. Stands n l (fold (reckoned n) r (xs ++ ys)) k later) (append_assoc t xs ys)
      (subst (λ x. Stands n ((t ++ xs) ++ ys) x k later) (sym (fold_more n r xs ys)) b.stands);
}

-- ### A step of the node

module _ (n : ℕ) (links : List ℕ) (t : List Entry) (m : Memory) (q : Running) (r : Reckoning) (s : Stands n t r m (Some q)) where
  abbrev start : Reckoning
  start = reckoning_of true (book_in t n) m

  begins : r ≡ start
  begins = grind arith

  -- it runs on
  step_runs : (k : Work) → StillRuns n links m t k → Exact n t start k.entries (after_planned k.writes m) (runs_on k)
  step_runs k run = record {
    each = run.made.each;
    stands = record {
      runs_is = run.made.on ∙ sym (ap is_some runs);
      book_is = book_is;
      memory_is = run.made.memory_is ∙ sym memory_is;
      none_due = run.made.none_due;
      none_lost = λ on. run.made.none_lost;
      many = length commands;
      which = subst (λ b. FindsBy b (length commands) (length commands)) (sym run.made.none_lost) refl;
      finds = all_found (after_planned k.writes m).content commands
          (subst (λ (x : Memory). BootFinds x.content (after_commands no_tables commands) (min (length commands) (2 ^ 32 - 1))) (sym memory_is)
          (subst (λ x. BootFinds run.memory.content (after_commands no_tables commands) x) count_is
          (finds_closed run.memory.content k.core.tables (after_commands no_tables commands) (count_of k.core.journal) run.knows.finds closed)));
      used = λ on.
          subst (λ (x : Memory). IsSome (current x.content)) (sym memory_is) (used_of run.memory.content k.core.journal k.core.tables run.knows);
    };
  } where
    runs : runs_on k ≡ Some (record { core = k.core; desks = map (λ (p : Port). p.desk) k.ports })
    runs = let on : k.cut ≡ false = run.on in rw on refl

    book_is : (fold (reckoned n) start k.entries).book ≡ book_in (t ++ k.entries) n
    book_is = book_then n t start k.entries refl

    commands : List Command
    commands = (fold (reckoned n) start k.entries).book.commands

    memory_is : after_planned k.writes m ≡ run.memory
    memory_is = ap (λ l. after_planned l m) (sym (append-nil k.writes)) ∙ run.written []

    count_is : count_of k.core.journal ≡ min (length commands) (2 ^ 32 - 1)
    count_is = run.count_is ∙ ap (λ (b : Book). min (length b.commands) (2 ^ 32 - 1)) (sym book_is)

    closed : close k.core.tables ≡ close (after_commands no_tables commands)
    closed = ap close run.tables_are ∙ closed_book (t ++ k.entries) n ∙ ap (λ (b : Book). close (after_commands no_tables b.commands)) (sym book_is)

  -- it loses its power in the writes of a command
  module _ (k : Work) (c : Command) (l : HasLostIn n m t c k) where
    abbrev work : Work
    work = l.work

    abbrev writes : List Write
    writes = commit_writes work.core.journal work.core.tables (body_of c)

    abbrev before_it : Reckoning
    before_it = fold (reckoned n) start work.entries

    abbrev last_two : List Entry
    last_two = entry.Command work.core.node c ∷ entry.Cut work.core.node ∷ []

    commits : commit c work ≡ k
    commits = let fails : fails_within (length writes) work.plan ≡ true = l.fails in rw fails (sym l.is)

    cut : (commit c work).cut ≡ true
    cut = ap (λ (x : Work). x.cut) (commits ∙ l.is)

    entries_are : k.entries ≡ work.entries ++ last_two
    entries_are = ap (λ (x : Work). x.entries) l.is
        ∙ append_assoc work.entries (entry.Command work.core.node c ∷ []) (entry.Cut work.core.node ∷ [])

    writes_read : writes_of c before_it ≡ writes
    writes_read = writes_are before_it c l.ran.memory work.core.journal work.core.tables l.ran.made.memory_is l.ran.knows.state_is
        (ap (λ (b : Book). b.tables) (book_then n t start work.entries refl) ∙ sym l.ran.tables_are)

    plan_read : before_it.memory.plan ≡ work.plan
    plan_read = ap (λ (x : Memory). x.plan) l.ran.made.memory_is ∙ sym l.ran.plan_is

    fails_read : fails_within (length (writes_of c before_it)) before_it.memory.plan ≡ true
    fails_read = ap (λ w. fails_within (length w) before_it.memory.plan) writes_read ∙ ap (fails_within (length writes)) plan_read ∙ l.fails

    -- what is read behind the command and its cut
    abbrev behind : Reckoning
    behind = record (with_written c before_it) { runs = false; due = false }

    behind_is : fold (reckoned n) start k.entries ≡ behind
    behind_is =
        ap (fold (reckoned n) start) entries_are
        ∙ fold_more n start work.entries last_two
        ∙ ap (λ x. reckoned n x (entry.Cut work.core.node)) (reckoned_command n work.core.node before_it c l.ran.number)
        ∙ ap (λ b. cond b behind (with_written c before_it)) (eq-eqb work.core.node n l.ran.number)

    each_due : EachIsAsRead n start k.entries
    each_due =
        subst (EachIsAsRead n start) (sym entries_are)
        (each_more n start work.entries last_two l.ran.made.each (
          sym l.ran.made.none_due,
          (λ _. l.ran.made.on),
          (
            eq-eqb work.core.node n l.ran.number ∙ sym (ap (λ (x : Reckoning). x.due)
                (reckoned_command n work.core.node before_it c l.ran.number) ∙ fails_read),
            tt,
            tt,
          ),
        ))

    memory_after_it : (after_planned (writes_of c before_it) before_it.memory) ≡ after_planned k.writes m
    memory_after_it =
        ap (λ w. after_planned w before_it.memory) writes_read
        ∙ ap (after_planned writes) l.ran.made.memory_is
        ∙ sym (ap (λ (x : Work). after_planned x.writes m) l.is ∙ l.ran.written writes)

    commands_were : before_it.book.commands ≡ commands_in (t ++ work.entries) n
    commands_were = ap (λ (b : Book). b.commands) (book_then n t start work.entries refl)

    -- what is read of all of its entries
    commands_are : commands_in (t ++ k.entries) n ≡ before_it.book.commands ++ c ∷ []
    commands_are =
        ap (λ (b : Book). b.commands) (sym (book_then n t start k.entries refl))
        ∙ ap (λ (x : Reckoning). x.book.commands) behind_is

    gate : opens_gate (length (commit c work).writes) m.plan ≡ opens_gate (length (writes_of c before_it)) before_it.memory.plan
    gate =
        plan_at n l.hosts m t c work l.ran l.may l.room cut
        ∙ ap (opens_gate (length writes)) (sym l.ran.plan_is ∙ sym plan_read)
        ∙ ap (λ w. opens_gate (length w) before_it.memory.plan) (sym writes_read)

    abbrev left : List ℕ
    left = (after_planned k.writes m).content

    left_is : (after_planned (commit c work).writes m).content ≡ left
    left_is = ap (λ (x : Work). (after_planned x.writes m).content) commits

    abbrev Found : Type 0
    Found = (many : ℕ) × FindsBy behind.lost many (length behind.book.commands) × FindsMany left behind.book.commands many

    lost_is : (b : Bool) → opens_gate (length (writes_of c before_it)) before_it.memory.plan ≡ b → behind.lost ≡ not b
    lost_is b is = ap (λ x. x && not (opens_gate (length (writes_of c before_it)) before_it.memory.plan)) fails_read ∙ ap not is

    found : Found
    found = by_test (opens_gate (length (writes_of c before_it)) before_it.memory.plan)
        (λ opened. let all = step_opened n l.hosts m t c work l.ran l.may l.room cut (gate ∙ opened) in
        let same : commands_in (t ++ (commit c work).entries) n ≡ before_it.book.commands ++ c ∷ [] =
        ap (λ (x : Work). commands_in (t ++ x.entries) n) commits ∙ commands_are in (
          length (before_it.book.commands ++ c ∷ []),
          subst (λ b. FindsBy b (length (before_it.book.commands ++ c ∷ [])) (length (before_it.book.commands ++ c ∷ []))) (sym (lost_is true opened)) refl,
          all_found left (before_it.book.commands ++ c ∷ [])
              (grind arith),
        ))
        (λ closed. let less = step_closed n l.hosts m t c work l.ran l.may l.room cut (gate ∙ closed) in (
          length before_it.book.commands,
          subst (λ b. FindsBy b (length before_it.book.commands) (length (before_it.book.commands ++ c ∷ []))) (sym (lost_is false closed))
              (omega (arith, length-append before_it.book.commands (c ∷ []))),
          less_found left before_it.book.commands c
              (subst (λ x. BootFinds x (after_commands no_tables before_it.book.commands) (min (length before_it.book.commands) (2 ^ 32 - 1))) left_is
              (subst (λ l2. BootFinds (after_planned (commit c work).writes m).content (after_commands no_tables l2) (min (length l2) (2 ^ 32 - 1)))
              (sym commands_were) less)),
        ))

    step_lost : (later : Option Running) → is_some later ≡ false → Exact n t start k.entries (after_planned k.writes m) later
    step_lost later off = record {
      each = each_due;
      stands = subst (λ x. Stands n (t ++ k.entries) x (after_planned k.writes m) later) (sym behind_is) (record {
        runs_is = sym off;
        book_is = ap (λ (x : Reckoning). x.book) (sym behind_is) ∙ book_then n t start k.entries refl;
        memory_is = memory_after_it;
        none_due = refl;
        none_lost = λ on. absurd (true≢false (sym on ∙ off));
        many = found.0;
        which = found.1;
        finds = found.2;
        used = λ on.
            subst (λ (x : Memory). IsSome (current x.content)) (sym (ap (λ (x : Work). after_planned x.writes m) l.is ∙ l.ran.written writes))
            (planned_used l.ran.memory work.core.journal work.core.tables c l.ran.knows l.ran.sorted l.ran.recordable l.may l.room
            (ap (fails_within (length writes)) (sym l.ran.plan_is) ∙ l.fails));
      });
    }

  pub exact_step : (k : Work) (more : List Entry) → GoesOn_or_lost n links m t k → AllByRecursion (IsNothingFor n) more
      → Exact n t r (k.entries ++ more) (after_planned k.writes m) (runs_on k)
  exact_step k more fine all = subst (λ x. Exact n t x (k.entries ++ more) (after_planned k.writes m) (runs_on k)) (sym begins) (by_case fine)
    where
      then_more : Exact n t start k.entries (after_planned k.writes m) (runs_on k) → Exact n t start (k.entries ++ more) (after_planned k.writes m) (runs_on k)
      then_more one =
          exact_then n t start k.entries more (after_planned k.writes m) (runs_on k) one.each
          (exact_idle n (t ++ k.entries) (fold (reckoned n) start k.entries) more (after_planned k.writes m) (runs_on k) one.stands all)

      by_case : GoesOn_or_lost n links m t k → Exact n t start (k.entries ++ more) (after_planned k.writes m) (runs_on k)
      by_case (inl run) = then_more (step_runs k run.0)
      by_case (inr gone) =
          let off : is_some (runs_on k) ≡ false = let cut : k.cut ≡ true = gone.off in rw cut refl in
          then_more (step_lost k gone.command gone.lost (runs_on k) off)
