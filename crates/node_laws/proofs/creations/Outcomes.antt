-- The creations that wait at a controller, by who asked, and what a message of a host does to them.
use Rattle.node_laws.proofs.Words.{AllByRecursion, Answer, AreDifferent, AreProper, Ask, Asks, Book, Bool, Clear, Command, Commit, Commits, Core, Create}
use Rattle.node_laws.proofs.Words.{Creation, Decision, Deed, Delete, Drops, GoesToFree, HciTables, IsAnswered, IsAwaited, IsNoticeOf, IsProper, IsProperBook}
use Rattle.node_laws.proofs.Words.{IsProperCommand, IsReadSo, LinkView, List, Message, None, Notice, Ok, Option, PipeRow, Port, SaysOk, Sends, Set, SetOpened}
use Rattle.node_laws.proofs.Words.{SetsErrors, Some, Sync, Tells, [], after_commands, agreed, all_append, all_false, answer_of, ap, append-nil, append_assoc}
use Rattle.node_laws.proofs.Words.{apply, ap₂, arith, asked_at, asks_for, body_in, by_option, by_test, carried_out, cases_Bool, changed_if, closing}
use Rattle.node_laws.proofs.Words.{commit_deeds, cond, cond_both, controller_deeds, controller_holds, creations_at, decided, decided_holds, decision_deeds}
use Rattle.node_laws.proofs.Words.{dest_in, ends_of, eqb, eqb-true, false, far_end, far_end_of, filter, filter_map, finds_room, first_of, forgets, gates}
use Rattle.node_laws.proofs.Words.{goes_through, has, has_link, has_notice, header_of, hosts_where, identity_served, inl, inr, is_none, is_opened, is_over_at}
use Rattle.node_laws.proofs.Words.{is_response, is_some, length, length-append, link_deeds, link_served, ltb, map, new_row, no_tables, not, opening}
use Rattle.node_laws.proofs.Words.{option_and_then, or_parts, own_gate, own_view, pid_of, pipe_at, port_at, refl, relayed_to, subst, sym, take, tests_of_pipe}
use Rattle.node_laws.proofs.Words.{tests_to_create, true, true≢false, view_for, view_of, with_command, with_found, with_port, without_notice, ℕ, ◌&&◌, ◌++◌}
use Rattle.node_laws.proofs.Words.{◌||◌, ◌∙◌, ◌∷◌, ◌≡◌, ◌⊎◌}
use Rattle.gate_admin.proofs.CreationLemmas.{AllFalse}
use Rattle.gate_admin.specs.Decide.{created, dest_gate_in, tests_to_open}
use Rattle.hci_tables.specs.Tables.{with_static}
use Rattle.hcp_packet.specs.declared.MessageKind.TheVariants.{Command as IsCommand}
use Rattle.node_machine.proofs.Walks.{IsServed}
use Rattle.pipe_table.specs.PipeRows.{all_closed, as_opened, joins_host, with_opened}
use Rattle.registry.proofs.ValueLemmas.{AllByRecursion-filter, AllByRecursion-take}
use Rattle.sorted_rows.specs.Rows.{rows_before, rows_behind}
use Rattle.tables_laws.proofs.gate.Decisions.{unless}
use Rattle.gate_answers.specs.declared.response.Response.TheVariants as response

-- ## The creations that wait at the ends of a controller, by the hosts of the ends, and those of one asker among them

-- the creation for which each host is asked
abbrev pub Asked : Type 0
Asked = List (ℕ × Option Creation)

abbrev pub asked_of : List Port → Asked
asked_of ports = map (λ (p : Port). (p.desk.host, asked_at p)) ports

-- those of one asker
abbrev pub one_of : ℕ → Option Creation → List Creation
one_of x None = []
one_of x (Some c) = cond (eqb c.asker x) (c ∷ []) []

abbrev pub waits : ℕ → Asked → List Creation
waits x [] = []
waits x (e ∷ asked) = one_of x e.1 ++ waits x asked

abbrev pub owes : ℕ → List Creation → List Creation
owes x [] = []
owes x (c ∷ owed) = one_of x (Some c) ++ owes x owed

-- the host k is asked for this one from now on, or for none
abbrev pub set_asked : ℕ → Option Creation → Asked → Asked
set_asked k o asked = map (λ (e : ℕ × Option Creation). cond (eqb e.0 k) (e.0, o) e) asked

-- ### One creation is read

pub read_none : (r : Option (List ℕ)) (l : List Creation) → l ≡ [] → IsReadSo r l → r ≡ None
read_none r l e k = grind arith

pub none_read : (l : List Creation) → l ≡ [] → IsReadSo None l
none_read l e = grind arith

empty_length : {X : Type 0} (l : List X) → length l ≡ 0 → l ≡ []
empty_length [] e = refl
empty_length (x ∷ l) e = absurd (omega (arith, e))

pub both_empty : {X : Type 0} (a b : List X) → a ++ b ≡ [] → (a ≡ []) × (b ≡ [])
both_empty [] b e = (refl, e)
both_empty (x ∷ a) b e = absurd (cc e)

-- one that is read is read wherever it stands
put_in : (r : Option (List ℕ)) (c : Creation) (w a b : List Creation) → length (a ++ b) ≡ length w → IsReadSo r (c ∷ w) → IsReadSo r (a ++ (c ∷ b))
put_in None c w a b same k = absurd k
put_in (Some m) c (d ∷ w) a b same k = absurd k
put_in (Some m) c [] a b same k =
    let none = both_empty a b (empty_length (a ++ b) same) in
    subst (λ l. IsReadSo (Some m) (l ++ (c ∷ b))) (sym none.0) (subst (λ l. IsReadSo (Some m) (c ∷ l)) (sym none.1) k)

moves : (r : Option (List ℕ)) (a b c : List Creation) → IsReadSo r (a ++ (c ++ b)) → IsReadSo r ((a ++ b) ++ c)
moves r [] b [] k = subst (IsReadSo r) (sym (append-nil b)) k
moves None [] b (c ∷ cs) k = absurd k
moves (Some m) [] [] (c ∷ []) k = k
moves (Some m) [] (b ∷ bs) (c ∷ []) k = absurd k
moves (Some m) [] b (c ∷ d ∷ cs) k = absurd k
moves None (a ∷ more) b c k = absurd k
moves (Some m) (a ∷ []) [] [] k = k
moves (Some m) (a ∷ []) b (c ∷ cs) k = absurd k
moves (Some m) (a ∷ []) (b ∷ bs) [] k = absurd k
moves (Some m) (a ∷ z ∷ more) b c k = absurd k

moved_length : (a b c : List Creation) → length ((a ++ b) ++ c) ≡ length (a ++ (c ++ b))
moved_length a b c = omega (arith, length-append (a ++ b) c, length-append a b, length-append a (c ++ b), length-append c b)

-- ### Lists

waits-append : (x : ℕ) (ls bs : Asked) → waits x (ls ++ bs) ≡ waits x ls ++ waits x bs
waits-append x [] bs = refl
waits-append x (e ∷ ls) bs = ap (λ l. one_of x e.1 ++ l) (waits-append x ls bs) ∙ sym (append_assoc (one_of x e.1) (waits x ls) (waits x bs))

pub owes-append : (x : ℕ) (ls bs : List Creation) → owes x (ls ++ bs) ≡ owes x ls ++ owes x bs
owes-append x [] bs = refl
owes-append x (c ∷ ls) bs = ap (λ l. one_of x (Some c) ++ l) (owes-append x ls bs) ∙ sym (append_assoc (one_of x (Some c)) (owes x ls) (owes x bs))

one_else : (x : ℕ) (c : Creation) → eqb c.asker x ≡ false → one_of x (Some c) ≡ []
one_else x c e = rw e refl

-- what a desk keeps and what is read of it
pub desks_wait : (x : ℕ) (ports : List Port) → creations_at (map (λ (p : Port). p.desk) ports) x ≡ waits x (asked_of ports)
desks_wait x [] = refl
desks_wait x (p ∷ ports) = let h0 = desks_wait x ports in grind arith

-- ### Ends

pub asked_map : (f : Port → Port) → ((p : Port) → (f p).desk.host ≡ p.desk.host) → ((p : Port) → asked_at (f p) ≡ asked_at p) → (ports : List Port)
    → asked_of (map f ports) ≡ asked_of ports
asked_map f host same [] = refl
asked_map f host same (p ∷ ports) = let h0 = asked_at p in let h1 = asked_map f host same ports in grind arith

pub asked_with : (k : ℕ) (g : Port → Port) → ((p : Port) → (g p).desk.host ≡ p.desk.host) → ((p : Port) → asked_at (g p) ≡ asked_at p) → (ports : List Port)
    → asked_of (with_port k g ports) ≡ asked_of ports
asked_with k g host same ports = asked_map (λ p. changed_if (eqb p.desk.host k) g p) (λ p. grind arith)
    (λ p. by_test (eqb p.desk.host k) (λ q. rw q (same p)) (λ q. rw q refl)) ports

pub asked_set : (k : ℕ) (g : Port → Port) (o : Option Creation) → ((p : Port) → (g p).desk.host ≡ p.desk.host) → ((p : Port) → asked_at (g p) ≡ o)
    → (ports : List Port) → asked_of (with_port k g ports) ≡ set_asked k o (asked_of ports)
asked_set k g o host new [] = refl
asked_set k g o host new (p ∷ ports) = ap₂ (λ e l. e ∷ l) (grind arith) (asked_set k g o host new ports)

hosts_asked : (ports : List Port) → map (λ (e : ℕ × Option Creation). e.0) (asked_of ports) ≡ map (λ (p : Port). p.desk.host) ports
hosts_asked [] = refl
hosts_asked (p ∷ ports) = ap (λ l. p.desk.host ∷ l) (hosts_asked ports)

-- one host is asked for this
pub record Split (asked : Asked) (k : ℕ) (o : Option Creation) : Type 0 where
  pub key : ℕ
  pub front : Asked
  pub back : Asked
  pub is : asked ≡ front ++ ((key, o) ∷ back)
  pub set : (n : Option Creation) → set_asked k n asked ≡ front ++ ((key, n) ∷ back)

others_stay : (k : ℕ) (n : Option Creation) (asked : Asked) → AllByRecursion (λ (h : ℕ). eqb h k ≡ false) (map (λ (e : ℕ × Option Creation). e.0) asked)
    → set_asked k n asked ≡ asked
others_stay k n [] a = refl
others_stay k n (e ∷ asked) a = ap₂ (λ h l. h ∷ l) (grind arith) (others_stay k n asked a.1)

pub split_at : (ports : List Port) (k : ℕ) (p : Port) → AreDifferent (map (λ (p : Port). p.desk.host) ports) → port_at ports k ≡ Some p
    → Split (asked_of ports) k (asked_at p)
split_at [] k p d e = absurd (cc e)
split_at (q ∷ ports) k p d e = by_test (eqb q.desk.host k)
    (λ is. let same : Some q ≡ Some p = rw is at e in
    let one : q ≡ p = cc in
    let off : AllByRecursion (λ (h : ℕ). eqb h k ≡ false) (map (λ (p : Port). p.desk.host) ports) =
    subst (λ n. AllByRecursion (λ (h : ℕ). eqb h n ≡ false) (map (λ (p : Port). p.desk.host) ports)) (eqb-true q.desk.host k is) d.0 in
    record {
      key = q.desk.host;
      front = [];
      back = asked_of ports;
      is = ap (λ o. (q.desk.host, o) ∷ asked_of ports) (ap asked_at one);
      set = λ n. ap (λ b. cond b (q.desk.host, n) (q.desk.host, asked_at q) ∷ set_asked k n (asked_of ports)) is
          ∙ ap (λ l. (q.desk.host, n) ∷ l) (others_stay k n (asked_of ports)
          (subst (AllByRecursion (λ (h : ℕ). eqb h k ≡ false)) (sym (hosts_asked ports)) off));
    })
    (λ off. let found : Split (asked_of ports) k (asked_at p) = split_at ports k p d.1 (rw off at e) in
    record {
      key = found.key;
      front = (q.desk.host, asked_at q) ∷ found.front;
      back = found.back;
      is = ap (λ l. (q.desk.host, asked_at q) ∷ l) found.is;
      set = grind arith;
    })

-- ### What becomes of the creations of one asker

module _ (x : ℕ) (asked : Asked) (k : ℕ) where
  in_parts : (o n : Option Creation) (s : Split asked k o) → waits x (set_asked k n asked) ≡ waits x s.front ++ (one_of x n ++ waits x s.back)
  in_parts o n s = ap (waits x) (s.set n) ∙ waits-append x s.front ((s.key, n) ∷ s.back)

  was_parts : (o : Option Creation) (s : Split asked k o) → waits x asked ≡ waits x s.front ++ (one_of x o ++ waits x s.back)
  was_parts o s = ap (waits x) s.is ∙ waits-append x s.front ((s.key, o) ∷ s.back)

  -- a host is asked for none any more
  pub left_same : (s : Split asked k None) → waits x (set_asked k None asked) ≡ waits x asked
  left_same s = in_parts None None s ∙ sym (was_parts None s)

  -- the creation that it was asked for is owed
  pub owed_read : (r : Option (List ℕ)) (c : Creation) → Split asked k (Some c) → IsReadSo r (waits x asked)
      → IsReadSo r (waits x (set_asked k None asked) ++ one_of x (Some c))
  owed_read r c s kept =
      subst (λ l. IsReadSo r (l ++ one_of x (Some c))) (sym (in_parts (Some c) None s))
      (moves r (waits x s.front) (waits x s.back) (one_of x (Some c)) (subst (IsReadSo r) (was_parts (Some c) s) kept))

  pub owed_length : (c : Creation) → Split asked k (Some c) → length (waits x (set_asked k None asked) ++ one_of x (Some c)) ≡ length (waits x asked)
  owed_length c s =
      ap (λ l. length (l ++ one_of x (Some c))) (in_parts (Some c) None s)
      ∙ moved_length (waits x s.front) (waits x s.back) (one_of x (Some c)) ∙ ap length (sym (was_parts (Some c) s))

  -- a host is asked for one by another asker
  pub asked_else : (c : Creation) → Split asked k None → eqb c.asker x ≡ false → waits x (set_asked k (Some c) asked) ≡ waits x asked
  asked_else c s off = in_parts None (Some c) s ∙ (ap (λ l. waits x s.front ++ (l ++ waits x s.back)) (one_else x c off) ∙ sym (was_parts None s))

  -- or by this one
  pub asked_here : (c : Creation) → Split asked k None → eqb c.asker x ≡ true → waits x asked ≡ [] → waits x (set_asked k (Some c) asked) ≡ c ∷ []
  asked_here c s is none =
      let or_parts = both_empty (waits x s.front) (waits x s.back) (sym (was_parts None s) ∙ none) in
      in_parts None (Some c) s
      ∙ (grind arith)

-- one that asks for none
pub none_waits : (x : ℕ) (ports : List Port) → asks_for ports x ≡ false → waits x (asked_of ports) ≡ []
none_waits x [] e = refl
none_waits x (p ∷ ports) e = by_option (asked_at p)
    (λ q. rw q (none_waits x ports (rw q at e)))
    (λ c q. let two = or_parts (eqb c.asker x) (asks_for ports x) (rw q at e) in
    rw q (ap (λ l. l ++ waits x (asked_of ports)) (one_else x c two.0) ∙ none_waits x ports two.1))

-- ### Sessions that ended

module _ (x : ℕ) where
  -- with the session of its asker a creation is forgotten
  forgot_one : (all : List Port) (p : Port) → one_of x (asked_at (forgets all p)) ≡ cond (is_over_at all x) [] (one_of x (asked_at p))
  forgot_one all p = grind arith

  pub forgot : (all ports : List Port) → waits x (asked_of (map (forgets all) ports)) ≡ cond (is_over_at all x) [] (waits x (asked_of ports))
  forgot all [] = by_test (is_over_at all x) (λ q. rw q refl) (λ q. rw q refl)
  forgot all (p ∷ ports) = ap₂ (λ a b. a ++ b) (forgot_one all p) (forgot all ports) ∙ by_test (is_over_at all x) (λ q. rw q refl) (λ q. rw q refl)

  -- of the others those of ends whose sessions ended are owed an answer
  abbrev pub stays : List Port → List Creation
  stays ports = waits x (asked_of (map without_notice ports))

  abbrev pub ended_of : List Port → List Creation
  ended_of ports = owes x (filter_map asked_at (filter (λ (p : Port). p.ended) ports))

  abbrev pub late_of : List Port → List Creation
  late_of ports = owes x (filter_map asked_at (filter (λ (p : Port). p.late) ports))

  pub record Parts (ports : List Port) : Type 0 where
    pub many : length (stays ports ++ (ended_of ports ++ late_of ports)) ≡ length (waits x (asked_of ports))
    pub read : (r : Option (List ℕ)) → IsReadSo r (waits x (asked_of ports)) → IsReadSo r (stays ports ++ (ended_of ports ++ late_of ports))

  parts_more : (p : Port) (ports : List Port) → (p.late ≡ true → p.ended ≡ false) → Parts ports → Parts (p ∷ ports)
  parts_more p ports flag later = by_creation (asked_at p) refl where
    k : List Creation
    k = stays ports

    e : List Creation
    e = ended_of ports

    l : List Creation
    l = late_of ports

    w : List Creation
    w = waits x (asked_of ports)

    -- nothing of it is of this asker
    same : stays (p ∷ ports) ≡ k → ended_of (p ∷ ports) ≡ e → late_of (p ∷ ports) ≡ l → waits x (asked_of (p ∷ ports)) ≡ w → Parts (p ∷ ports)
    same s t u v = grind arith

    -- one is
    placed : (c : Creation) (a b : List Creation) → a ++ b ≡ k ++ (e ++ l) → stays (p ∷ ports) ++ (ended_of (p ∷ ports) ++ late_of (p ∷ ports)) ≡ a ++ (c ∷ b)
        → waits x (asked_of (p ∷ ports)) ≡ c ∷ w → Parts (p ∷ ports)
    placed c a b is to v = record {
      many = ap length to ∙ (omega (arith, length-append a (c ∷ b), length-append a b, ap length is, later.many) ∙ ap length (sym v));
      read = λ r q. subst (IsReadSo r) (sym to) (put_in r c w a b (ap length is ∙ later.many) (subst (IsReadSo r) v q));
    }

    by_creation : (o : Option Creation) → asked_at p ≡ o → Parts (p ∷ ports)
    by_creation None q = grind arith
    by_creation (Some c) q = by_asker (cases_Bool (eqb c.asker x)) where
      by_asker : (eqb c.asker x ≡ true) ⊎ (eqb c.asker x ≡ false) → Parts (p ∷ ports)
      by_asker (inl is) = by p.ended p.late refl refl where
        by : (b d : Bool) → p.ended ≡ b → p.late ≡ d → Parts (p ∷ ports)
        by true true s t = absurd (true≢false (sym s ∙ flag t))
        by true false s t =
            placed c k (e ++ l) refl (rw (s, t, q, is) refl) (rw (q, is) refl)
        by false true s t =
            placed c (k ++ e) l (append_assoc k e l)
            (ap₂ (λ a b. a ++ b) (let z : stays (p ∷ ports) ≡ k = rw (s, t) refl in z)
            (let z : ended_of (p ∷ ports) ++ late_of (p ∷ ports) ≡ e ++ (c ∷ l) = rw (s, t, q, is) refl in z)
            ∙ sym (append_assoc k e (c ∷ l)))
            (rw (q, is) refl)
        by false false s t = placed c [] (k ++ (e ++ l)) refl (rw (s, t, q, is) refl) (rw (q, is) refl)
      by_asker (inr off) = by p.ended p.late refl refl where
        by : (b d : Bool) → p.ended ≡ b → p.late ≡ d → Parts (p ∷ ports)
        by true true s t = same (rw s refl) (rw (s, q, off) refl) (rw (t, q, off) refl) (rw (q, off) refl)
        by true false s t = same (rw s refl) (rw (s, q, off) refl) (rw t refl) (rw (q, off) refl)
        by false true s t = same (rw (s, t) refl) (rw s refl) (rw (t, q, off) refl) (rw (q, off) refl)
        by false false s t = same (rw (s, t, q, off) refl) (rw s refl) (rw t refl) (rw (q, off) refl)

  pub owed_parts : (ports : List Port) → AllByRecursion (λ (p : Port). p.late ≡ true → p.ended ≡ false) ports → Parts ports
  owed_parts [] a = record { many = refl; read = λ r k. k }
  owed_parts (p ∷ ports) a = parts_more p ports a.0 (owed_parts ports a.1)

-- ## No pipe of a controller leads to its administration gate, but pipe 01 of each host

all_same : {X : Type 0} (P : X → Type 0) (f : X → X) → ((x : X) → P x → P (f x)) → (xs : List X) → AllByRecursion P xs → AllByRecursion P (map f xs)
all_same P f one [] a = tt
all_same P f one (x ∷ xs) a = (one x a.0, all_same P f one xs a.1)

set_proper : (opened : Bool) (row : PipeRow) → IsProper row → IsProper (as_opened opened row)
set_proper opened row a = record { host = a.host; two = a.two; gate = a.gate }

pub proper_apply : (t : HciTables) (c : Command) → IsProperCommand c → AreProper t.rows → AreProper (apply t c).rows
proper_apply t (Create row) may a =
    all_append IsProper (rows_before pid_of row.pid t.rows) (as_opened false row ∷ rows_behind pid_of row.pid t.rows)
    (AllByRecursion-filter IsProper (λ r. ltb r.pid row.pid) t.rows a)
    (set_proper false row may, AllByRecursion-filter IsProper (λ r. ltb row.pid r.pid) t.rows a)
proper_apply t (Delete pid) may a = AllByRecursion-filter IsProper (λ row. not (eqb row.pid pid)) t.rows a
proper_apply t (Clear host) may a = AllByRecursion-filter IsProper (λ row. not (joins_host row host)) t.rows a
proper_apply t (SetOpened host pid opened) may a =
    cond_both (ltb pid 2) (record t { statics = with_static t.statics host pid opened }) (record t { rows = with_opened t.rows pid opened })
    (λ u. AreProper u.rows) (λ static. a)
    (λ dynamic. all_same IsProper (λ row. cond (eqb row.pid pid) (as_opened opened row) row)
    (λ row b. cond_both (eqb row.pid pid) (as_opened opened row) row IsProper (λ here. set_proper opened row b) (λ other. b)) t.rows a)
proper_apply t (Set host gate param value) may a = a
proper_apply t (Sync host id) may a = a

proper_after : (t : HciTables) (commands : List Command) → AllByRecursion IsProperCommand commands → AreProper t.rows
    → AreProper (after_commands t commands).rows
proper_after t [] may a = a
proper_after t (c ∷ commands) may a = proper_after (apply t c) commands may.1 (proper_apply t c may.0 a)

proper_closed : (rows : List PipeRow) → AreProper rows → AreProper (all_closed rows)
proper_closed rows a = all_same IsProper (as_opened false) (set_proper false) rows a

-- ### What is read

pub proper_command : (c : Command) (b : Book) → IsProperCommand c → IsProperBook b → IsProperBook (with_command c b)
proper_command c b may a = record {
  commands = all_append IsProperCommand b.commands (c ∷ []) a.commands (may, tt);
  tables = proper_apply b.tables c may a.tables;
}

pub proper_found : (k : ℕ) (b : Book) → IsProperBook b → IsProperBook (with_found k b)
proper_found k b a =
    let first : AllByRecursion IsProperCommand (take k b.commands) = AllByRecursion-take IsProperCommand k b.commands a.commands in
    record {
      commands = first;
      tables =
          proper_closed (after_commands no_tables (take k b.commands)).rows (proper_after no_tables (take k b.commands) first tt);
    }

-- ### Look-ups

proper_at : (rows : List PipeRow) (pid : ℕ) (row : PipeRow) → AreProper rows → pipe_at rows pid ≡ Some row → IsProper row
proper_at [] pid row a e = absurd (cc e)
proper_at (r ∷ rows) pid row a e =
    cond_both (eqb r.pid pid) (Some r) (pipe_at rows pid) (λ o. o ≡ Some row → IsProper row)
    (λ same is. let one : r ≡ row = cc in subst IsProper one a.0) (λ other found. proper_at rows pid row a.1 found) e

-- ## What a controller decides on a command: it makes pipes that lead to no administration gate, and asks for those that come on pipe 01 alone

-- a host is asked for this creation by this notice
record IsAskFor (h : ℕ) (notice : List ℕ) (row : PipeRow) : Type 0 where
  pub creator : row.creator ≡ h
  pub proper : IsProper row
  pub notice_is : notice ≡ 18 ∷ ends_of row

-- what is committed makes proper pipes, nobody is told by a response, and what is asked for is so
abbrev Suits : ℕ → Decision → Type 0
Suits h (Answer answer) = Unit {0}
Suits h (Commit c answer tell notice) = IsProperCommand c × (is_response notice.items ≡ false)
Suits h (Ask dest notice c answer) = (row : PipeRow) × (c ≡ Create row) × (answer.items ≡ answer_of response.Ok (ends_of row)) × IsAskFor h notice.items row

-- nobody is asked
abbrev AsksNobody : Decision → Type 0
AsksNobody (Ask dest notice c answer) = ⊥
AsksNobody _ = Unit {0}

module _ (v : LinkView) (h : ℕ) (host : eqb h 0 ≡ false) where
  created_proper : (body : List ℕ) (pid : ℕ) → eqb (dest_in body) h ≡ false
      → (eqb (dest_in body) 0 && not (eqb (dest_gate_in body) 4 || eqb (dest_gate_in body) 5)) ≡ false → IsProper (created h body pid)
  created_proper body pid other gate = grind arith

  decided_suits : (t : HciTables) (pipe instruction : ℕ) (body : List ℕ) → Suits h (decided t v h pipe instruction body)
  unfolding AllFalse
  decided_suits t pipe instruction body =
      let row : PipeRow = new_row t v h body in
      let proper : first_of (tests_to_create t v h body) ≡ None → IsProper row =
      λ passed. let none = all_false (tests_to_create t v h body) passed in created_proper body row.pid none.1.1.0 none.1.1.1.0 in
      decided_holds (Suits h) t v h pipe body instruction (λ r value. tt) (λ _. record {
        opens = (tt, refl);
        closes = (tt, refl);
        sets = λ _. (tt, refl);
        makes = λ passed controller. (proper passed, refl);
        asks = λ passed other. (row, refl, refl, record { creator = refl; proper = proper passed; notice_is = refl });
        deletes = λ _. (grind arith);
        clears = λ _. (grind arith);
      })

  -- no pipe but 01 leads to the administration gate
  far_proper : (o : Option PipeRow) → ((row : PipeRow) → o ≡ Some row → IsProper row) → (end : ℕ × ℕ)
      → option_and_then (far_end_of h) o ≡ Some end → eqb end.0 0 ≡ true → eqb end.1 0 ≡ false
  far_proper o proper end e zero_is = grind arith

  far_end_proper : (t : HciTables) (pipe : ℕ) (end : ℕ × ℕ) → AreProper t.rows → eqb pipe 1 ≡ false → far_end t h pipe ≡ Some end → eqb end.0 0 ≡ true
      → eqb end.1 0 ≡ false
  far_end_proper t pipe end proper off e zero_is = by_test (eqb pipe 0)
      (λ static. grind arith)
      (λ dynamic. far_proper (pipe_at t.rows pipe) (λ row here. proper_at t.rows pipe row proper here) end (rw (dynamic, off) at e) zero_is)

  is_through : (t : HciTables) (m : Message) (instruction : ℕ) → header_of m.1 ≡ Ok (IsCommand, instruction) → AreProper t.rows → eqb m.0 1 ≡ false
      → relayed_to t h m ≡ None → cond (goes_through t h m.0 instruction) (own_gate t h m.0) None ≡ None
      → is_opened t h m.0 ≡ true → is_none (far_end t h m.0) ≡ false → eqb instruction 3 ≡ false → eqb instruction 4 ≡ false → ⊥
  is_through t m instruction command proper off none gate opened there three four = by_option (far_end t h m.0)
      (λ e. let z : true ≡ false = rw e at there in true≢false z)
      (λ end e. by_test (eqb end.0 0)
      (λ is. cc (rw (opened, three, four, e, is, far_end_proper t m.0 end proper off e is) at gate))
      (λ other. cc (rw (opened, command, three, four, e, other) at none)))

  nobody_asked : (t : HciTables) (m : Message) (instruction : ℕ) (body : List ℕ) → header_of m.1 ≡ Ok (IsCommand, instruction) → AreProper t.rows
      → eqb m.0 1 ≡ false → relayed_to t h m ≡ None → cond (goes_through t h m.0 instruction) (own_gate t h m.0) None ≡ None
      → AsksNobody (decided t v h m.0 instruction body)
  unfolding AllFalse
  nobody_asked t m instruction body command proper off none gate =
      unless AsksNobody (first_of (tests_of_pipe t h m.0 instruction)) (carried_out t v h m.0 instruction body) (λ r. tt) (λ passed.
      let tests = all_false (tests_of_pipe t h m.0 instruction) passed in
      cond_both (eqb instruction 3) (opening t h m.0 body) _ AsksNobody
      (λ _. unless AsksNobody (first_of (tests_to_open body)) _ (λ r. tt) (λ _. cond_both (is_opened t h m.0) _ _ AsksNobody (λ _. tt) (λ _. tt)))
      (λ three. cond_both (eqb instruction 4) (closing h m.0 body) _ AsksNobody
      (λ _. unless AsksNobody (first_of (tests_to_open body)) _ (λ r. tt) (λ _. tt))
      (λ four. absurd (is_through t m instruction command proper off none gate
      (opens (is_opened t h m.0) (rw three at tests.1.0)) tests.0 three four))))
    where
      opens : (b : Bool) → (not b && true) ≡ false → b ≡ true
      opens true e = refl
      opens false e = absurd (true≢false e)

-- ## What a message of a host does to the creations that wait at a controller

-- a host that asks for none is asked by this
pub record IsAskedSo (ports : List Port) (h to : ℕ) (notice : List ℕ) (c : Creation) : Type 0 where
  pub due : IsAwaited c
  pub asker : c.asker ≡ h
  pub notice_of : IsNoticeOf c notice
  pub asks : asks_for ports h ≡ false
  pub up : has_link ports h ≡ true

three : (a b c : Bool) → (a && b && c) ≡ true → (a ≡ true) × (b ≡ true) × (c ≡ true)
three a b c e = grind arith

module _ (x : ℕ) where
  -- it leaves the creations that wait
  abbrev pub LeavesAsked : Asked → Deed → Type 0
  LeavesAsked asked (Commits c) = IsProperCommand c
  LeavesAsked asked (Sends to m) = (eqb to x && eqb m.0 1 && is_response m.1) ≡ true → waits x asked ≡ []
  LeavesAsked asked SaysOk = Unit {0}
  LeavesAsked asked (Tells to message) = (is_response message ≡ false) × (set_asked to None asked ≡ asked)
  LeavesAsked asked (Drops pid) = Unit {0}
  LeavesAsked asked (SetsErrors errors) = Unit {0}
  LeavesAsked asked _ = ⊥

  -- so it does where a host that is told has no notice
  abbrev Leaves : Asked → Deed → Type 0
  Leaves asked (Tells to message) = is_response message ≡ false
  Leaves asked d = LeavesAsked asked d

  -- What a message of the host h does: it leaves the creations that wait, it asks for one, or it answers a notice, that of one or
  -- another one.
  pub data Outcome (ports : List Port) (h : ℕ) (deeds : List Deed) : Type 0 where
    Stays : AllByRecursion (Leaves (asked_of ports)) deeds → Outcome ports h deeds
    IsAsking : (to : ℕ) (notice : List ℕ) (c : Creation) → deeds ≡ Asks to notice c ∷ [] → IsAskedSo ports h to notice c → Outcome ports h deeds
    IsHeard : (p : Port) → port_at ports h ≡ Some p → asked_at p ≡ None → deeds ≡ IsAnswered ∷ [] → Outcome ports h deeds
    IsDone : (p : Port) (c : Creation) (flag : Bool) → port_at ports h ≡ Some p → asked_at p ≡ Some c → deeds ≡ agreed flag c → Outcome ports h deeds

  module _ (core : Core) (ports : List Port) (h : ℕ) (host : eqb h 0 ≡ false) (proper : AreProper core.tables.rows) where
    abbrev All : List Deed → Type 0
    All deeds = AllByRecursion (Leaves (asked_of ports)) deeds

    abbrev Of : List Deed → Type 0
    Of deeds = Outcome ports h deeds

    -- an answer to a host that asks for none on pipe 01
    one_sent : (pipe : ℕ) (answer : List ℕ) → (eqb pipe 1 ≡ true → asks_for ports h ≡ false)
        → (eqb h x && eqb pipe 1 && is_response answer) ≡ true → waits x (asked_of ports) ≡ []
    one_sent pipe answer free e =
        let parts = three (eqb h x) (eqb pipe 1) (is_response answer) e in
        none_waits x ports (subst (λ n. asks_for ports n ≡ false) (eqb-true h x parts.0) (free parts.1))

    told_stay : (notice : List ℕ) (hosts : List ℕ) → is_response notice ≡ false → All (map (λ y. Tells y notice) hosts)
    told_stay notice [] e = tt
    told_stay notice (y ∷ hosts) e = (e, told_stay notice hosts e)

    commit_stays : (room : Bool) (pipe : ℕ) (c : Command) (answer : List ℕ) (told : List Deed) → (eqb pipe 1 ≡ true → asks_for ports h ≡ false)
        → IsProperCommand c → All told → All (commit_deeds room h pipe c answer told)
    commit_stays true pipe c answer told free may rest = (may, (one_sent pipe answer free, (tt, rest)))
    commit_stays false pipe c answer told free may rest = (one_sent pipe (answer_of response.NotOk []) free, tt)

    decision_is : (pipe : ℕ) (d : Decision) → has_link ports h ≡ true → (eqb pipe 1 ≡ true → asks_for ports h ≡ false) → Suits h d
        → (AsksNobody d ⊎ (asks_for ports h ≡ false)) → Of (decision_deeds (own_view core) h pipe d)
    decision_is pipe (Answer answer) up free suits asks = Stays (one_sent pipe answer.items free, tt)
    decision_is pipe (Commit c answer tell notice) up free suits asks =
        Stays (commit_stays (finds_room core c) pipe c answer.items (map (λ y. Tells y notice.items) (hosts_where (has tell))) free suits.0
        (told_stay notice.items (hosts_where (has tell)) suits.1))
    decision_is pipe (Ask dest notice c answer) up free suits (inl nobody) = absurd nobody
    decision_is pipe (Ask dest notice c answer) up free suits (inr none) =
        let row : PipeRow = suits.0 in
        let of : IsAskFor h notice.items row = suits.3 in
        IsAsking dest notice.items (record { asker = h; command = c; answer = answer.items }) refl (grind arith)

    link_stays : (pipe : ℕ) (answer : List ℕ × Option ℕ) → (eqb pipe 1 ≡ true → asks_for ports h ≡ false) → All (link_deeds h pipe answer)
    link_stays pipe answer free = let h0 = one_sent pipe answer.0 free in grind arith

    -- ### A message

    off_one : (a b c : Bool) → b ≡ false → (a && b && c) ≡ true → waits x (asked_of ports) ≡ []
    off_one a b c off e = absurd (true≢false (sym (three a b c e).1 ∙ off))

    off_last : (a b c : Bool) → c ≡ false → (a && b && c) ≡ true → waits x (asked_of ports) ≡ []
    off_last a b c off e = absurd (true≢false (sym (three a b c e).2 ∙ off))

    -- who asks for none on pipe 01 isn't asked for one by another pipe
    asked : (m : Message) (n : ℕ) → IsServed core ports h m n → cond (goes_through core.tables h m.0 n) (own_gate core.tables h m.0) None ≡ None
        → AsksNobody (decided core.tables (view_for core.tables ports h) h m.0 n (body_in m.1)) ⊎ (asks_for ports h ≡ false)
    asked m n served gate = by_test (eqb m.0 1)
        (λ is. inr (served.free is))
        (λ off. inl (nobody_asked (view_for core.tables ports h) h host core.tables m n (body_in m.1) served.command proper off served.not_relayed gate))

    pub outcome : (m : Message) → Of (controller_deeds (view_of core ports) h m)
    outcome m =
        let v : LinkView = view_for core.tables ports h in
        controller_holds Of core ports h m (record {
          drops = λ pid none. Stays (tt, tt);
          goes_on = λ to off. Stays (off_one (eqb to x) (eqb m.0 1) (is_response m.1) off, tt);
          goes_back = λ n event. Stays (off_last (eqb h x) (eqb m.0 1) (is_response m.1) (rw event refl), tt);
          refuses = λ r off free. Stays (one_sent m.0 (answer_of r []) free, tt);
          names = λ n served gate. Stays (one_sent m.0 (identity_served gates n (body_in m.1)) served.free, tt);
          counts = λ errors n served gate. Stays (link_stays m.0 (link_served errors n (body_in m.1)) served.free);
          decides =
              λ n served gate. decision_is m.0 (decided core.tables v h m.0 n (body_in m.1)) served.up served.free
              (decided_suits v h host core.tables m.0 n (body_in m.1)) (asked m n served gate);
          hears = λ p reply here none. IsHeard p here none refl;
          agrees = λ flag p c reply here waits room. IsDone p c flag here waits refl;
        })

-- ### Hosts that are told

-- a host without a notice is asked for nothing
unasked : (ports : List Port) (k : ℕ) → has_notice ports k ≡ false → AreDifferent (map (λ (p : Port). p.desk.host) ports)
    → set_asked k None (asked_of ports) ≡ asked_of ports
unasked [] k none d = refl
unasked (p ∷ ports) k none d = go (cases_Bool (eqb p.desk.host k)) (unasked ports k) where
  others : (ports : List Port) → AllByRecursion (λ (n : ℕ). eqb n k ≡ false) (map (λ (p : Port). p.desk.host) ports)
      → set_asked k None (asked_of ports) ≡ asked_of ports
  others [] a = refl
  others (q ∷ ports) a = ap₂ (λ e l. e ∷ l) (ap (λ b. cond b (q.desk.host, None) (q.desk.host, asked_at q)) a.0) (others ports a.1)

  none_of : (o : Option Notice) → p.desk.notice ≡ o → is_some o ≡ false → asked_at p ≡ None
  none_of o e off = grind arith

  go : (eqb p.desk.host k ≡ true) ⊎ (eqb p.desk.host k ≡ false)
      → (has_notice ports k ≡ false → AreDifferent (map (λ (p : Port). p.desk.host) ports) → set_asked k None (asked_of ports) ≡ asked_of ports)
      → set_asked k None (asked_of (p ∷ ports)) ≡ asked_of (p ∷ ports)
  go (inl is) later =
      let off : is_some p.desk.notice ≡ false = rw is at none in
      ap₂ (λ e l. e ∷ l) (grind arith)
      (others ports (subst (λ n. AllByRecursion (λ (y : ℕ). eqb y n ≡ false) (map (λ (p : Port). p.desk.host) ports)) (eqb-true p.desk.host k is) d.0))
  go (inr off) later = grind arith

pub all_leave : (x : ℕ) (ports : List Port) (deeds : List Deed) → AreDifferent (map (λ (p : Port). p.desk.host) ports)
    → AllByRecursion (Leaves x (asked_of ports)) deeds → AllByRecursion (GoesToFree ports) deeds → AllByRecursion (LeavesAsked x (asked_of ports)) deeds
all_leave x ports [] d a free = tt
all_leave x ports (Commits c ∷ deeds) d a free = (a.0, all_leave x ports deeds d a.1 free.1)
all_leave x ports (Sends to m ∷ deeds) d a free = (a.0, all_leave x ports deeds d a.1 free.1)
all_leave x ports (SaysOk ∷ deeds) d a free = (tt, all_leave x ports deeds d a.1 free.1)
all_leave x ports (Tells to message ∷ deeds) d a free = ((a.0, unasked ports to free.0 d), all_leave x ports deeds d a.1 free.1)
all_leave x ports (Drops pid ∷ deeds) d a free = (tt, all_leave x ports deeds d a.1 free.1)
all_leave x ports (SetsErrors errors ∷ deeds) d a free = (tt, all_leave x ports deeds d a.1 free.1)
all_leave x ports (_ ∷ deeds) d a free = absurd a.0
