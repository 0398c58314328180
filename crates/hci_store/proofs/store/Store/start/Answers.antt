use Rattle.hci_store.proofs.Words.{AreMade, Err, GenerationsSpent, HciTables, HoldsTables, IsOnlyRead, JournalFault, Keeps, LeftByCut, List, None, NvFault, Ok}
use Rattle.hci_store.proofs.Words.{Result, Says, State, after_writes, ap, applied, are_commands, arith, close, count, count_of, false, fold, format_writes}
use Rattle.hci_store.proofs.Words.{formatted, image_fault, inl, inr, journal, migration_writes, no_tables, not_of_memory, option_map_or, read_all, records}
use Rattle.hci_store.proofs.Words.{refl, start_writes, started_state, subst, sym, tables_of, true, ℕ, ◌∙◌, ◌≡◌, ◌⊎◌}
use Rattle.nv_journal.proofs.Formatting.{says_formatted, no_records_then}
use Rattle.hci_store.specs.Stored.{FindsSame}
use Rattle.hci_store.proofs.Committed.{sound_has_no_fault, journal_left, holds_still, keeps_still, close-close, recordable-close, made-append, made-cut}
use Rattle.hci_store.proofs.Starting.{counted, spent, unspent, untouched, not_written, ready_written, ready_stands}
use Rattle.hci_store.proofs.Refusing.{heads_refused, records_refused, rose_of, image_of, unread_of, only_read, where_spent, memory_is_no_image}
use Rattle.hci_store.proofs.Refusing.{start_is_no_image}
use Rattle.hci_store.proofs.store.Store.start.Goals as goal

-- What a start that was refused leaves.
same_content : (old new : List ℕ) → new ≡ old → FindsSame old new
same_content old new same = record { tables_are = ap (λ l. close (tables_of l)) same; count_is = ap count same; fault_is = ap image_fault same }

-- nothing was wrong before, and what is left keeps the same
keeps_same : (old new : List ℕ) (s : State) (t : HciTables) (many : ℕ) → Says old s
    → are_commands (records old) ≡ true → close t ≡ close (tables_of old) → many ≡ count old
    → Keeps new t many → FindsSame old new
keeps_same old new s t many says all tables counts keeps = record {
  tables_are = keeps.holds.tables_are ∙ tables;
  count_is = keeps.count_is ∙ counts;
  fault_is = sound_has_no_fault new keeps.holds.commands keeps.sound ∙ sym (sound_has_no_fault old all says.sound);
}

-- a format that was cut
format_same : (old new : List ℕ) (s : State) → Says old s → s.in_use ≡ None
    → are_commands (records old) ≡ true → LeftByCut format_writes old new → FindsSame old new
format_same old new s says none all cut = either (journal_left format_writes old new cut)
  where
    holds : HoldsTables old (tables_of old)
    holds = record { commands = all; tables_are = refl }

    is : formatted ≡ started_state s
    is = ap (λ o. option_map_or (λ _. s) o formatted) (sym none)

    either : (journal new ≡ journal old) ⊎ (journal new ≡ journal (after_writes format_writes old)) → FindsSame old new
    either (inl same) = keeps_same old new s (tables_of old) (count old) says all refl refl
        (keeps_still old new s (tables_of old) (count old) says holds (ap count_of (sym says.state_is)) same)
    either (inr done) = keeps_same old new s (tables_of old) (count old) says all refl refl
        (keeps_still (after_writes format_writes old) new formatted (tables_of old) (count old) (says_formatted old s says none)
        (holds_still old (after_writes format_writes old) (tables_of old) holds (no_records_then old s says none)) (counted old s formatted says is) done)

-- by the fault of a start: the memory's, or no generation left
refused_same : (old new : List ℕ) (f : JournalFault)
    → (f ≡ NvFault) ⊎ (f ≡ GenerationsSpent) → (f ≡ NvFault → FindsSame old new) → (f ≡ GenerationsSpent → new ≡ old)
    → FindsSame old new
refused_same old new f (inl memory) cut kept = cut memory
refused_same old new f (inr spent) cut kept = same_content old new (kept spent)

-- what went through isn't refused
abbrev went : Unit {0} → Result (Unit {0}) JournalFault
went x = Ok x

not_refused : (x : Unit {0}) → went x ≡ Err NvFault → ⊥
not_refused x is = cc

pub invariant_of-ready : goal.invariant_of-ready
invariant_of-ready g c =
    let passed = c.in-Ok-apply_all.ensures in
    record {
      recordable = rw c.close.ensures (recordable-close c.apply_all.new.tables passed.recordable);
      holds = λ live tells.
          let same = c.in-Ok-start.ensures.records tells ∙ ap records (passed.kept tells) in
          rw c.close.ensures
          (record {
            commands = ap are_commands same ∙ passed.commands tells;
            tables_are = ap (λ l. close (fold applied no_tables l)) same ∙ ap close (sym (passed.tables tells)) ∙ sym (close-close c.apply_all.new.tables);
          });
    }

pub returns-in-Err-clause-rose : goal.returns-in-Err-clause-rose
returns-in-Err-clause-rose g c =
    let opened = c.in-Err.ensures in
    rose_of g.N.Nv.reads g.N.Nv.faults g.N.Nv.tells g.N.Nv.content c.args.nv c.in-Err.refused.nv c.in-Err.refused.fault
    (heads_refused g.N.Nv.reads g.N.Nv.faults g.N.Nv.tells g.N.Nv.content c.args.nv c.in-Err.refused.nv c.in-Err.refused.fault opened.refused opened.unknown)

pub returns-in-Err-clause-image : goal.returns-in-Err-clause-image
returns-in-Err-clause-image g c =
    let opened = c.in-Err.ensures in
    image_of g.N.Nv.reads g.N.Nv.faults g.N.Nv.tells g.N.Nv.content c.args.nv c.in-Err.refused.nv c.in-Err.refused.fault
    (heads_refused g.N.Nv.reads g.N.Nv.faults g.N.Nv.tells g.N.Nv.content c.args.nv c.in-Err.refused.nv c.in-Err.refused.fault opened.refused opened.unknown)

pub returns-in-Err-apply_all-clause-rose : goal.returns-in-Err-apply_all-clause-rose
returns-in-Err-apply_all-clause-rose g c = λ memory.
    rw c.into_nv.ensures (omega (arith, c.in-Ok.ensures.count, c.in-Err-apply_all.ensures.rose (ap Err memory)))

pub returns-in-Err-apply_all-clause-image : goal.returns-in-Err-apply_all-clause-image
returns-in-Err-apply_all-clause-image g c =
    let scan = c.in-Ok.scan in
    let opened = c.in-Ok.ensures in
    let passed = c.in-Err-apply_all.ensures in
    let f = c.in-Err-apply_all.fault in
    image_of g.N.Nv.reads g.N.Nv.faults g.N.Nv.tells g.N.Nv.content c.args.nv c.apply_all.new.scan.nv f
    (records_refused g.N.Nv.reads g.N.Nv.faults g.N.Nv.tells g.N.Nv.content c.args.nv c.apply_all.new.scan.nv scan.nv f passed.fault
    (λ memory. passed.unread c.args.nv opened.read (ap Err memory))
    (λ image. read_all g.N.Nv.reads c.args.nv c.apply_all.new.scan (passed.read c.args.nv opened.read (not_of_memory f image)))
    opened.count (λ memory. passed.rose (ap Err memory)) opened.kept passed.kept opened.known)

pub returns-in-Err-start-clause-rose : goal.returns-in-Err-start-clause-rose
returns-in-Err-start-clause-rose g c = λ memory.
    omega (arith, c.in-Ok.ensures.count, c.in-Ok-apply_all.ensures.count, c.in-Err-start.ensures.count)

pub returns-in-Err-start-clause-image : goal.returns-in-Err-start-clause-image
returns-in-Err-start-clause-image g c tells = λ image. absurd (memory_is_no_image c.in-Err-start.refused.fault c.in-Err-start.ensures.none.0 image)

pub returns-in-Err-ready-clause-rose : goal.returns-in-Err-ready-clause-rose
returns-in-Err-ready-clause-rose g c = λ memory.
    omega (arith, c.in-Ok.ensures.count, c.in-Ok-apply_all.ensures.count, c.in-Ok-start.ensures.count, c.in-Err-ready.ensures.rose memory)

pub returns-in-Err-ready-clause-image : goal.returns-in-Err-ready-clause-image
returns-in-Err-ready-clause-image g c tells = λ image. absurd (start_is_no_image c.in-Err-ready.refused.fault c.in-Err-ready.ensures.fault image)

pub returns-in-Ok-ready-clause-count : goal.returns-in-Ok-ready-clause-count
returns-in-Ok-ready-clause-count g c tells =
    let scan = c.apply_all.new.scan in
    let opened = c.in-Ok-start.ensures in
    let same = c.in-Ok-apply_all.ensures.kept tells ∙ c.in-Ok.ensures.kept tells in
    c.in-Ok-ready.ensures.kept
    ∙ counted (g.N.Nv.content c.args.nv) scan.state c.in-Ok-start.journal.state (subst (λ l. Says l scan.state) same (opened.said tells)) opened.state.0

pub returns-in-Ok-ready-clause-unspent : goal.returns-in-Ok-ready-clause-unspent
returns-in-Ok-ready-clause-unspent g c tells =
    let scan = c.apply_all.new.scan in
    let opened = c.in-Ok-start.ensures in
    let same = c.in-Ok-apply_all.ensures.kept tells ∙ c.in-Ok.ensures.kept tells in
    unspent (g.N.Nv.content c.args.nv) scan.state c.in-Ok-start.journal.state (subst (λ l. Says l scan.state) same (opened.said tells)) opened.state.0
    c.in-Ok-ready.ensures.unspent

pub returns-in-Err-ready-clause-spent : goal.returns-in-Err-ready-clause-spent
returns-in-Err-ready-clause-spent g c tells = λ is.
    let scan = c.apply_all.new.scan in
    let j = c.in-Ok-start.journal in
    let content = g.N.Nv.content in
    let opened = c.in-Ok-start.ensures in
    let passed = c.in-Ok-apply_all.ensures in
    let same = passed.kept tells ∙ c.in-Ok.ensures.kept tells in
    let says = subst (λ l. Says l scan.state) same (opened.said tells) in
    let gone = c.in-Err-ready.ensures.spent is in
    spent (content c.args.nv) scan.state j.state says opened.state.0 (content c.in-Err-ready.refused.nv) gone.0 gone.1
    (subst (λ l. are_commands (records l) ≡ true) (c.in-Ok.ensures.kept tells) (passed.commands tells))
    (ap content (gone.2 ∙ not_written (content c.args.nv) scan.state j.state says opened.state.0 g.N.Nv.writes scan.nv j.nv gone.0 opened.made) ∙ same)

pub returns-in-Err-clause-left : goal.returns-in-Err-clause-left
returns-in-Err-clause-left g c tells = same_content (g.N.Nv.content c.args.nv) (g.N.Nv.content c.in-Err.refused.nv) (c.in-Err.ensures.refused.1 tells)

pub returns-in-Err-apply_all-clause-left : goal.returns-in-Err-apply_all-clause-left
returns-in-Err-apply_all-clause-left g c tells =
    rw c.into_nv.ensures
    (same_content (g.N.Nv.content c.args.nv) (g.N.Nv.content c.apply_all.new.scan.nv) (c.in-Err-apply_all.ensures.kept tells ∙ c.in-Ok.ensures.kept tells))

pub returns-in-Err-start-clause-left : goal.returns-in-Err-start-clause-left
returns-in-Err-start-clause-left g c tells =
    let content = g.N.Nv.content in
    let opened = c.in-Ok.ensures in
    let passed = c.in-Ok-apply_all.ensures in
    let failed = c.in-Err-start.ensures in
    let scan = c.apply_all.new.scan in
    let same = passed.kept tells ∙ opened.kept tells in
    subst (λ l. FindsSame l (content c.in-Err-start.refused.nv)) same
    (format_same (content scan.nv) (content c.in-Err-start.refused.nv) scan.state (failed.said tells) failed.none.1
    (ap (λ l. are_commands (records l)) (passed.kept tells) ∙ passed.commands tells) (failed.cut tells))

pub returns-in-Err-ready-clause-left : goal.returns-in-Err-ready-clause-left
returns-in-Err-ready-clause-left g c tells =
    let content = g.N.Nv.content in
    let opened = c.in-Ok.ensures in
    let passed = c.in-Ok-apply_all.ensures in
    let scan = c.apply_all.new.scan in
    let made = c.in-Ok-start.ensures in
    let e = c.in-Err-ready.refused in
    let same = passed.kept tells ∙ opened.kept tells in
    let says = subst (λ l. Says l scan.state) same (made.said tells) in
    let tables = ap close c.close.ensures ∙ close-close c.apply_all.new.tables ∙ ap close (passed.tables tells ∙ ap tables_of (opened.kept tells)) in
    refused_same (content c.args.nv) (content e.nv) e.fault c.in-Err-ready.ensures.fault
    (λ memory. keeps_same (content c.args.nv) (content e.nv) scan.state c.close.new.self (count_of c.in-Ok-start.journal.state) says
    (ap (λ l. are_commands (records l)) (sym (opened.kept tells)) ∙ passed.commands tells) tables
    (counted (content c.args.nv) scan.state c.in-Ok-start.journal.state says made.state.0) (c.in-Err-ready.ensures.cut tells memory))
    (λ spent_is. (returns-in-Err-ready-clause-spent g c tells spent_is).kept)

pub returns-in-Ok-ready-clause-state : goal.returns-in-Ok-ready-clause-state
returns-in-Ok-ready-clause-state g c tells =
    let scan = c.apply_all.new.scan in
    let made = c.in-Ok-start.ensures in
    let passed = c.in-Ok-apply_all.ensures in
    let opened = c.in-Ok.ensures in
    let says = subst (λ l. Says l scan.state) (passed.kept tells ∙ opened.kept tells) (made.said tells) in
    let tables = c.close.ensures ∙ ap close (passed.tables tells ∙ ap tables_of (opened.kept tells)) in
    c.in-Ok-ready.ensures.state
    ∙ ready_stands (g.N.Nv.content c.args.nv) scan.state c.in-Ok-start.journal.state says made.state.0 c.close.new.self tables

pub returns-in-Ok-ready-clause-made : goal.returns-in-Ok-ready-clause-made
returns-in-Ok-ready-clause-made g c tells =
    let scan = c.apply_all.new.scan in
    let j = c.in-Ok-start.journal in
    let made = c.in-Ok-start.ensures in
    let passed = c.in-Ok-apply_all.ensures in
    let opened = c.in-Ok.ensures in
    let same = passed.kept tells ∙ opened.kept tells in
    let says = subst (λ l. Says l scan.state) same (made.said tells) in
    let tables = c.close.ensures ∙ ap close (passed.tables tells ∙ ap tables_of (opened.kept tells)) in
    let last = c.in-Ok-ready.store.journal.nv in
    record {
      read = scan.nv;
      behind = read_all g.N.Nv.reads c.args.nv scan (passed.read c.args.nv opened.read (not_refused tt));
      unchanged = same;
      made = subst (λ l. AreMade g.N.Nv.writes l scan.nv true last)
          (ready_written (g.N.Nv.content c.args.nv) scan.state j.state says made.state.0 c.close.new.self tables)
          (made-append g.N.Nv.writes (start_writes scan.state) (migration_writes j.state c.close.new.self) scan.nv j.nv true last
          made.made c.in-Ok-ready.ensures.made);
    }

pub returns-in-Err-ready-clause-torn : goal.returns-in-Err-ready-clause-torn
returns-in-Err-ready-clause-torn g c tells = λ memory.
    let scan = c.apply_all.new.scan in
    let j = c.in-Ok-start.journal in
    let made = c.in-Ok-start.ensures in
    let passed = c.in-Ok-apply_all.ensures in
    let opened = c.in-Ok.ensures in
    let same = passed.kept tells ∙ opened.kept tells in
    let says = subst (λ l. Says l scan.state) same (made.said tells) in
    let tables = c.close.ensures ∙ ap close (passed.tables tells ∙ ap tables_of (opened.kept tells)) in
    let last = c.in-Err-ready.refused.nv in
    inr (record {
      read = scan.nv;
      behind = read_all g.N.Nv.reads c.args.nv scan (passed.read c.args.nv opened.read (not_refused tt));
      unchanged = same;
      made = subst (λ l. AreMade g.N.Nv.writes l scan.nv false last)
          (ready_written (g.N.Nv.content c.args.nv) scan.state j.state says made.state.0 c.close.new.self tables)
          (made-append g.N.Nv.writes (start_writes scan.state) (migration_writes j.state c.close.new.self) scan.nv j.nv false last
          made.made (c.in-Err-ready.ensures.made memory));
    })

pub returns-in-Err-start-clause-torn : goal.returns-in-Err-start-clause-torn
returns-in-Err-start-clause-torn g c tells = λ memory.
    let scan = c.apply_all.new.scan in
    let failed = c.in-Err-start.ensures in
    let passed = c.in-Ok-apply_all.ensures in
    let opened = c.in-Ok.ensures in
    let same = passed.kept tells ∙ opened.kept tells in
    let says = subst (λ l. Says l scan.state) same (failed.said tells) in
    let tables = c.close.ensures ∙ ap close (passed.tables tells ∙ ap tables_of (opened.kept tells)) in
    let last = c.in-Err-start.refused.nv in
    let later = migration_writes (started_state scan.state) c.close.new.self in
    inr (record {
      read = scan.nv;
      behind = read_all g.N.Nv.reads c.args.nv scan (passed.read c.args.nv opened.read (not_refused tt));
      unchanged = same;
      made = subst (λ l. AreMade g.N.Nv.writes l scan.nv false last)
          (ready_written (g.N.Nv.content c.args.nv) scan.state (started_state scan.state) says refl c.close.new.self tables)
          (made-cut g.N.Nv.writes (start_writes scan.state) later scan.nv last failed.made);
    })

pub returns-in-Ok-ready-clause-sound : goal.returns-in-Ok-ready-clause-sound
returns-in-Ok-ready-clause-sound g c tells =
    let scan = c.apply_all.new.scan in
    let passed = c.in-Ok-apply_all.ensures in
    let opened = c.in-Ok.ensures in
    let says = subst (λ l. Says l scan.state) (passed.kept tells ∙ opened.kept tells) (c.in-Ok-start.ensures.said tells) in
    sound_has_no_fault (g.N.Nv.content c.args.nv) (ap (λ l. are_commands (records l)) (sym (opened.kept tells)) ∙ passed.commands tells) says.sound

pub returns-in-Err-clause-torn : goal.returns-in-Err-clause-torn
returns-in-Err-clause-torn g c tells = λ memory.
    let opened = c.in-Err.ensures in
    inl (unread_of g.N.Nv.reads g.N.Nv.faults g.N.Nv.tells g.N.Nv.content c.args.nv c.in-Err.refused.nv c.in-Err.refused.fault
    (heads_refused g.N.Nv.reads g.N.Nv.faults g.N.Nv.tells g.N.Nv.content c.args.nv c.in-Err.refused.nv c.in-Err.refused.fault opened.refused opened.unknown)
    memory tells)

pub returns-in-Err-apply_all-clause-torn : goal.returns-in-Err-apply_all-clause-torn
returns-in-Err-apply_all-clause-torn g c tells = λ memory.
    let opened = c.in-Ok.ensures in
    let passed = c.in-Err-apply_all.ensures in
    rw c.into_nv.ensures (inl (passed.unread c.args.nv opened.read (ap Err memory), passed.kept tells ∙ opened.kept tells))

pub returns-in-Err-clause-refused : goal.returns-in-Err-clause-refused
returns-in-Err-clause-refused g c =
    let opened = c.in-Err.ensures in
    only_read g.N.Nv.reads g.N.Nv.faults g.N.Nv.tells g.N.Nv.content c.args.nv c.in-Err.refused.nv c.in-Err.refused.fault
    (heads_refused g.N.Nv.reads g.N.Nv.faults g.N.Nv.tells g.N.Nv.content c.args.nv c.in-Err.refused.nv c.in-Err.refused.fault opened.refused opened.unknown)

pub returns-in-Err-apply_all-clause-refused : goal.returns-in-Err-apply_all-clause-refused
returns-in-Err-apply_all-clause-refused g c =
    let scan = c.in-Ok.scan in
    let opened = c.in-Ok.ensures in
    let passed = c.in-Err-apply_all.ensures in
    let f = c.in-Err-apply_all.fault in
    rw c.into_nv.ensures
    (only_read g.N.Nv.reads g.N.Nv.faults g.N.Nv.tells g.N.Nv.content c.args.nv c.apply_all.new.scan.nv f
    (records_refused g.N.Nv.reads g.N.Nv.faults g.N.Nv.tells g.N.Nv.content c.args.nv c.apply_all.new.scan.nv scan.nv f passed.fault
    (λ memory. passed.unread c.args.nv opened.read (ap Err memory))
    (λ image. read_all g.N.Nv.reads c.args.nv c.apply_all.new.scan (passed.read c.args.nv opened.read (not_of_memory f image)))
    opened.count (λ memory. passed.rose (ap Err memory)) opened.kept passed.kept opened.known))

pub returns-in-Err-start-clause-refused : goal.returns-in-Err-start-clause-refused
returns-in-Err-start-clause-refused g c image = absurd (image c.in-Err-start.ensures.none.0)

pub returns-in-Err-ready-clause-refused : goal.returns-in-Err-ready-clause-refused
returns-in-Err-ready-clause-refused g c other =
    let scan = c.apply_all.new.scan in
    let j = c.in-Ok-start.journal in
    let made = c.in-Ok-start.ensures in
    let passed = c.in-Ok-apply_all.ensures in
    let opened = c.in-Ok.ensures in
    where_spent c.in-Err-ready.refused.fault c.in-Err-ready.ensures.fault other
    (λ is.
    let gone = c.in-Err-ready.ensures.spent is in
    subst (IsOnlyRead g.N.Nv.reads g.N.Nv.tells g.N.Nv.content c.args.nv)
    (sym (gone.2 ∙ untouched g.N.Nv.writes scan.state j.state scan.nv j.nv made.state.0 gone.0 made.made))
    (record {
      read = read_all g.N.Nv.reads c.args.nv scan (passed.read c.args.nv opened.read (not_refused tt));
      kept = λ tells. passed.kept tells ∙ opened.kept tells;
    }))
