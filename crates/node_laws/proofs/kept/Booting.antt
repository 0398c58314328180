-- What a node keeps over a boot.
use Rattle.node_laws.proofs.Words.{AllByRecursion, AreTables, AreTables-apply, AreTables-close, AreTables-none, Book, BootFinds, Command, Creation, Desk, Entry}
use Rattle.node_laws.proofs.Words.{FindsCommands, HciTables, IsCommand, IsRecordable, IsSome, Knows, List, Memory, NodeKeeps, None, NumberedEnd, Option, Port}
use Rattle.node_laws.proofs.Words.{Running, RunsSo, Side, Some, State, WaitsFor, WouldFind, [], after_commands, after_planned, after_writes, ap, applied, apply}
use Rattle.node_laws.proofs.Words.{arith, asked_at, book_in, boot_writes, close, command_of, commands_in, cond, cond_both, count_of, current, eq-eqb, eqb}
use Rattle.node_laws.proofs.Words.{fails_within, false, fold, format_writes, found, inl, inr, last_in, length, length-take, map, min, new_desk, no_tables}
use Rattle.node_laws.proofs.Words.{none_within, option_map_or, port_at, port_for, records, refl, spelled_by, started_state, state_of, subst, suc, sym}
use Rattle.node_laws.proofs.Words.{tables_of, take, true, true≢false, with_found, ℕ, ◌++◌, ◌-◌, ◌^◌, ◌∙◌, ◌∷◌, ◌≡◌, ◌≤◌}
use Rattle.trace_model.specs.declared.entry.Entry.TheVariants as entry
use Rattle.journal_laws.specs.Writes.{IsCut}
use Rattle.journal_laws.specs.Journal.{count}
use Rattle.journal_laws.specs.Operations.{formatted}
use Rattle.nv_journal.specs.Kept.{Says}
use Rattle.nv_journal.proofs.Formatting.{says_formatted, format_all_or_nothing, no_records_then}
use Rattle.hci_tables.specs.Bodies.{if_command}
use Rattle.hci_store.proofs.Committed.{recordable-none, recordable-close, recordable-apply, close-close, holds_still}
use Rattle.hci_store.proofs.Starting.{counted}
use Rattle.node_laws.proofs.kept.Reckoned.{IsLeftBetween, finds_closed, knows_from, left_finds, planned_cut, planned_whole}
use Rattle.node_laws.proofs.kept.Doing.{book_more, closed_book, finds_all}

-- ## The tables of a memory

pub command_read : (o : Option Command) (c : Command) → if_command o ≡ Some c → IsCommand c
command_read o c e = grind arith

-- tables as they are kept
abbrev pub Good : HciTables → Type 0
Good t = AreTables t × IsRecordable t

good_one : (t : HciTables) (o : Option Command) → ((c : Command) → o ≡ Some c → IsCommand c) → Good t → Good (option_map_or (apply t) o t)
good_one t None may good = good
good_one t (Some c) may good = (AreTables-apply t c (may c refl) good.0, recordable-apply t c good.1 (may c refl))

good_fold : (t : HciTables) (bodies : List (List ℕ)) → Good t → Good (fold applied t bodies)
good_fold t [] good = good
good_fold t (body ∷ bodies) good = good_fold (applied t body) bodies (good_one t (command_of body) (λ c e. command_read (spelled_by body) c e) good)

pub good_found : (content : List ℕ) → Good (close (tables_of content))
good_found content =
    let good = good_fold no_tables (records content) (AreTables-none, recordable-none) in
    (AreTables-close (tables_of content) good.0, recordable-close (tables_of content) good.1)

-- ## What it finds

module _ (content : List ℕ) (t : HciTables) (many : ℕ) (f : BootFinds content t many) where
  pub says : Says content (state_of content)
  says = record { size = f.size; state_is = refl; sound = f.keeps.sound }

  same_tables : close t ≡ close (close (tables_of content))
  same_tables = sym f.keeps.holds.tables_are ∙ sym (close-close (tables_of content))

  -- a bank is in use
  pub knows_used : IsSome (current content) → Knows content (state_of content) (close (tables_of content))
  knows_used some = record {
    state_is = refl;
    in_use = some;
    finds = finds_closed content t (close (tables_of content)) (count content) (subst (λ k. BootFinds content t k) (sym f.keeps.count_is) f) same_tables;
  }

  module _ (none : current content ≡ None) where
    pub knows_formatted : Knows (after_writes format_writes content) formatted (close (tables_of content))
    knows_formatted =
        knows_from (after_writes format_writes content) formatted (close (tables_of content)) (says_formatted content (state_of content) says none) refl refl
        (omega arith)
        (let h = holds_still content (after_writes format_writes content) t f.keeps.holds (no_records_then content (state_of content) says none) in
        record { commands = h.commands; tables_are = h.tables_are ∙ same_tables })

    pub count_formatted : count_of formatted ≡ many
    count_formatted = counted content (state_of content) formatted says (grind arith) ∙ f.keeps.count_is

    pub left_formatted : (j : ℕ) (left : List ℕ) → IsCut j format_writes content left → BootFinds left t many
    left_formatted j left cut =
        elim (left_finds format_writes content left t t many many between f after_it) [ inl x ↦ x | inr x ↦ x ] where
          between : IsLeftBetween format_writes content left
          between = record { at = j; whole = format_all_or_nothing content (state_of content) says none; cut = cut }

          after_it : BootFinds (after_writes format_writes content) t many
          after_it = finds_closed (after_writes format_writes content) (close (tables_of content)) t many
              (subst (λ k. BootFinds (after_writes format_writes content) (close (tables_of content)) k) count_formatted knows_formatted.finds)
              (sym same_tables)

-- ## A boot

pub new_hosts : (hosts : List ℕ) → map (λ (d : Desk). d.host) (map new_desk hosts) ≡ hosts
new_hosts [] = refl
new_hosts (h ∷ hosts) = ap (λ l. h ∷ l) (new_hosts hosts)

new_waits : (hosts : List ℕ) → AllByRecursion (λ (d : Desk). WaitsFor d.notice) (map new_desk hosts)
new_waits [] = tt
new_waits (h ∷ hosts) = (tt, new_waits hosts)

new_none : (near_ends : ℕ → NumberedEnd) (hosts : List ℕ) (x : ℕ) (q : Port) (c : Creation)
    → port_at (map (λ (d : Desk). port_for (near_ends d.host) d) (map new_desk hosts)) x ≡ Some q
    → asked_at q ≡ Some c → ⊥
new_none near_ends [] x q c here asked = absurd (cc here)
new_none near_ends (h ∷ hosts) x q c here asked =
    cond_both (eqb h x) (Some (port_for (near_ends h) (new_desk h))) (port_at (map (λ (d : Desk). port_for (near_ends d.host) d) (map new_desk hosts)) x)
    (λ o. o ≡ Some q → ⊥)
    (λ _ e. let same : port_for (near_ends h) (new_desk h) ≡ q = cc in let none : None ≡ Some c = ap asked_at same ∙ asked in cc none)
    (λ _ e. new_none near_ends hosts x q c e asked) here

module _ (n : ℕ) (hosts : List ℕ) (t : List Entry) (m : Memory) (would : WouldFind m.content (book_in t n) (last_in t n)) where
  abbrev content : List ℕ
  content = m.content

  abbrev book : Book
  book = book_in t n

  abbrev tables : HciTables
  tables = after_commands no_tables (take would.many book.commands)

  abbrev now : State
  now = started_state (state_of content)

  boot_knows : (o : Option Side) → current content ≡ o → Knows (after_writes (boot_writes content) content) now (close (tables_of content))
  boot_knows (Some side) is =
      subst (λ w. Knows (after_writes w content) now (close (tables_of content))) (sym (ap (λ p. option_map_or (λ _. []) p format_writes) is))
      (subst (λ s. Knows content s (close (tables_of content))) (sym (ap (λ p. option_map_or (λ _. state_of content) p formatted) is))
      (knows_used content tables _ would.finds (subst IsSome (sym is) refl)))
  boot_knows None is =
      subst (λ w. Knows (after_writes w content) now (close (tables_of content))) (sym (ap (λ p. option_map_or (λ _. []) p format_writes) is))
      (subst (λ s. Knows (after_writes format_writes content) s (close (tables_of content)))
      (sym (ap (λ p. option_map_or (λ _. state_of content) p formatted) is))
      (knows_formatted content tables _ would.finds is))

  module _ (few : length (commands_in t n) ≤ 2 ^ 32 - 1) where
    count_now : count_of now ≡ would.many
    count_now = counted content (state_of content) now (says content tables _ would.finds) refl ∙ would.finds.keeps.count_is ∙ (grind arith)

    pub boot_told : FindsCommands t n (count_of now)
    boot_told = elim would.which [ inl all ↦ inl (count_now ∙ all) | inr less ↦ inr (ap suc count_now ∙ less.0, less.1) ]

    most : would.many ≤ length book.commands
    most = elim would.which [ inl all ↦ omega (arith, all) | inr less ↦ omega (arith, less.0) ]

    book_then : book_in (t ++ entry.Booted n (count_of now) ∷ []) n ≡ with_found (count_of now) book
    book_then = book_more t (entry.Booted n (count_of now) ∷ []) n ∙ ap (λ b. cond b (with_found (count_of now) book) book) (eq-eqb n n refl)

    tables_then : close (tables_of content) ≡ (book_in (t ++ entry.Booted n (count_of now) ∷ []) n).tables
    tables_then =
        would.finds.keeps.holds.tables_are ∙ ap (λ k. close (after_commands no_tables (take k book.commands))) (sym count_now) ∙ ap (λ
        (b : Book). b.tables) (sym book_then)

    count_then : count_of now ≡ min (length (commands_in (t ++ entry.Booted n (count_of now) ∷ []) n)) (2 ^ 32 - 1)
    count_then =
        counts (count_of now) would.many (length book.commands) (length (take (count_of now) book.commands)) count_now (length-take
        (count_of now) book.commands) most few
        ∙ ap (λ (b : Book). min (length b.commands) (2 ^ 32 - 1)) (sym book_then)
      where
        counts : (c many l k : ℕ) → c ≡ many → k ≡ min c l → many ≤ l → l ≤ 2 ^ 32 - 1 → c ≡ min k (2 ^ 32 - 1)
        counts c many l k a b d e = omega arith

    pub boot_runs : fails_within (length (boot_writes content)) m.plan ≡ false
        → NodeKeeps n hosts (t ++ entry.Booted n (count_of now) ∷ []) (after_planned (boot_writes content) m) (Some (found n hosts content))
    boot_runs none = record {
      would = finds_all _ (book_in (t ++ entry.Booted n (count_of now) ∷ []) n) (last_in (t ++ entry.Booted n (count_of now) ∷ []) n) (close
          (tables_of content)) (count_of now) knows.finds
          (ap close tables_then ∙ closed_book (t ++ entry.Booted n (count_of now) ∷ []) n) count_then;
      runs = record {
        number = refl;
        hosts_are = new_hosts hosts;
        knows = knows;
        sorted = (good_found content).0;
        recordable = (good_found content).1;
        tables_are = tables_then;
        count_is = count_then;
        on = tt;
        waits = new_waits hosts;
        allowed = λ z near_ends x q c here asked. absurd (new_none near_ends hosts x q c here asked);
      };
    } where
      knows : Knows (after_planned (boot_writes content) m).content now (close (tables_of content))
      knows = subst (λ x. Knows x now (close (tables_of content))) (sym (planned_whole (boot_writes content) m none).0) (boot_knows (current content) refl)

  pub boot_lost : fails_within (length (boot_writes content)) m.plan ≡ true
      → NodeKeeps n hosts (t ++ entry.Cut n ∷ []) (after_planned (boot_writes content) m) None
  boot_lost fails = record { would = by_bank (current content) refl; runs = tt } where
    book_same : book_in (t ++ entry.Cut n ∷ []) n ≡ book
    book_same = book_more t (entry.Cut n ∷ []) n

    by_bank : (o : Option Side) → current content ≡ o
        → WouldFind (after_planned (boot_writes content) m).content (book_in (t ++ entry.Cut n ∷ []) n) (last_in (t ++ entry.Cut n ∷ []) n)
    by_bank (Some side) is =
        absurd (true≢false (sym fails ∙ ap (λ p. fails_within (length (option_map_or (λ _. []) p format_writes)) m.plan) is ∙ none_within m.plan))
    by_bank None is =
        let cut = planned_cut (boot_writes content) m fails in
        let formats : boot_writes content ≡ format_writes = ap (λ p. option_map_or (λ _. []) p format_writes) is in
        subst (λ b. WouldFind (after_planned (boot_writes content) m).content b (last_in (t ++ entry.Cut n ∷ []) n)) (sym book_same)
        (record {
          many = would.many;
          which = inl (grind arith);
          finds = left_formatted content tables _ would.finds is cut.0 (after_planned (boot_writes content) m).content
              (subst (λ w. IsCut cut.0 w content (after_planned (boot_writes content) m).content) formats cut.1);
        })

-- the power of a node that runs is cut
pub cut_keeps : (n : ℕ) (hosts : List ℕ) (t : List Entry) (m : Memory) (r : Running) → RunsSo n hosts m.content t r
    → NodeKeeps n hosts (t ++ entry.Cut n ∷ []) m None
cut_keeps n hosts t m r k = record {
  would = finds_all m.content (book_in (t ++ entry.Cut n ∷ []) n) (last_in (t ++ entry.Cut n ∷ []) n) r.core.tables (count_of r.core.journal) k.knows.finds
      (ap close (k.tables_are ∙ ap (λ (b : Book). b.tables) (sym (book_more t (entry.Cut n ∷ []) n))) ∙ closed_book (t ++ entry.Cut n ∷ []) n)
      (k.count_is ∙ ap (λ (b : Book). min (length b.commands) (2 ^ 32 - 1)) (sym (book_more t (entry.Cut n ∷ []) n)));
  runs = tt;
}
