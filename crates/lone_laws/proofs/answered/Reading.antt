-- What a node with one link keeps in a step is what is read off all entries until there: its tables and its journal, the messages that wait,
-- and whether the first of them was noted as held.
use Rattle.std.specs.Prelude.{nat_lt, length, None}
use Rattle.lone_laws.proofs.Words.{Acked, Active, AllByRecursion, AreTables, AreTables-apply, Bool, Command, Commits, Core, Deed, Down, Drops, End, Entry}
use Rattle.lone_laws.proofs.Words.{FetchMessage, GaveUp, Give, Got, IsAnswered, IsCommand, JoinTwo, JoinTwo-after, List, Message, Noted, Port, Release}
use Rattle.lone_laws.proofs.Words.{Releases, Report, SaysOk, Sends, SetsErrors, Side, Turn, Up, Work, [], after_turn, ap, append-nil, append_assoc, arith}
use Rattle.lone_laws.proofs.Words.{body_of, by_test, commit, commit_writes, common_steps, cond, core_noted, core_with, done, end_of, end_of_node}
use Rattle.lone_laws.proofs.Words.{end_of_node_alone, entries_for, eqb, fails_within, false, fold, fold-append, holds_after, if_so, keeps, map, noted_of}
use Rattle.lone_laws.proofs.Words.{noting, option_map_or, option_to_list, port_at, refl, same_end, sym, told, true, true≢false, turn_at, unhandled_after}
use Rattle.lone_laws.proofs.Words.{with_port, ℕ, ◌++◌, ◌∙◌, ◌∷◌, ◌≡◌}
use Rattle.trace_model.specs.declared.entry.Entry.TheVariants as entry
use Rattle.lone_laws.proofs.answered.Memories.{IsOwnDeed}

-- a number is itself
pub eqb_same : (n : ℕ) → eqb n n ≡ true
eqb_same n = grind (arith, common_steps)

-- ## What is read

pub record Read : Type 0 where
  pub core : Core
  pub left : List Message
  pub held : Bool

abbrev pub read_noted : End → Read → Entry → Read
read_noted e r x = record { core = core_noted r.core x; left = unhandled_after e r.left x; held = holds_after e r.held x }

abbrev pub read_all : End → Read → List Entry → Read
read_all e r t = fold (read_noted e) r t

pub read-append : (e : End) (r : Read) (t u : List Entry) → read_all e r (t ++ u) ≡ read_all e (read_all e r t) u
read-append e r t u = fold-append (read_noted e) r t u

pub core_is : (e : End) (t : List Entry) (r : Read) → (read_all e r t).core ≡ fold core_noted r.core t
core_is e [] r = refl
core_is e (x ∷ t) r = core_is e t (read_noted e r x)

pub left_is : (e : End) (t : List Entry) (r : Read) → (read_all e r t).left ≡ fold (unhandled_after e) r.left t
left_is e [] r = refl
left_is e (x ∷ t) r = left_is e t (read_noted e r x)

pub held_is : (e : End) (t : List Entry) (r : Read) → (read_all e r t).held ≡ fold (holds_after e) r.held t
held_is e [] r = refl
held_is e (x ∷ t) r = held_is e t (read_noted e r x)

-- an entry says nothing of it
abbrev pub IsNothing : End → Entry → Type 0
IsNothing e x = (r : Read) → read_noted e r x ≡ r

abbrev pub AreNothing : End → List Entry → Type 0
AreNothing e es = AllByRecursion (IsNothing e) es

pub nothing_read : (e : End) (es : List Entry) → AreNothing e es → (r : Read) → read_all e r es ≡ r
nothing_read e [] a r = refl
nothing_read e (x ∷ es) a r = ap (λ z. read_all e z es) (a.0 r) ∙ nothing_read e es a.1 r

-- ## What comes to an end

-- a note tells of no message that came
abbrev pub IsQuiet : Noted → Type 0
IsQuiet (Up who n) = Unit {0}
IsQuiet (Down who cause) = Unit {0}
IsQuiet (Active who) = Unit {0}
IsQuiet (GaveUp who tries) = Unit {0}
IsQuiet (Acked who n count) = Unit {0}
IsQuiet _ = ⊥

quiet_first : (e : End) (h : ℕ) (xs ys : List Noted) (r : Read) → AllByRecursion IsQuiet xs
    → read_all e r (entries_for h (xs ++ ys)) ≡ read_all e r (entries_for h ys)
quiet_first e h [] ys r a = refl
quiet_first e h (Up who n ∷ xs) ys r a = quiet_first e h xs ys r a.1
quiet_first e h (Down who cause ∷ xs) ys r a = quiet_first e h xs ys r a.1
quiet_first e h (Active who ∷ xs) ys r a = quiet_first e h xs ys r a.1
quiet_first e h (GaveUp who tries ∷ xs) ys r a = quiet_first e h xs ys r a.1
quiet_first e h (Acked who n count ∷ xs) ys r a = quiet_first e h xs ys r a.1
quiet_first e h (_ ∷ xs) ys r a = absurd a.0

-- messages that come wait behind the others
got_read : (e : End) (h : ℕ) (who : Side) (n : ℕ) → same_end (end_of h who) e ≡ true → (ms : List Message) (r : Read)
    → read_all e r (entries_for h (map (Got who n) ms)) ≡ record r { left = r.left ++ ms }
got_read e h who n own [] r = ap (λ z. record r { left = z }) (sym (append-nil r.left))
got_read e h who n own (m ∷ ms) r =
    ap (λ b. read_all e (record r { left = cond b (r.left ++ m ∷ []) r.left }) (entries_for h (map (Got who n) ms))) own
    ∙ (got_read e h who n own ms (record r { left = r.left ++ m ∷ [] })
    ∙ ap (λ z. record r { left = z }) (append_assoc r.left (m ∷ []) ms))

quiet_so : (b : Bool) (x : Noted) → IsQuiet x → AllByRecursion IsQuiet (if_so b x)
quiet_so b x a = grind arith

pub told_read : (e : End) (h : ℕ) (who : Side) (n acked : ℕ) (rep : Report) (r : Read) → same_end (end_of h who) e ≡ true
    → read_all e r (entries_for h (told who n rep acked)) ≡ record r { left = r.left ++ rep.got }
told_read e h who n acked rep r own =
    let five : List Noted = map (Got who n) rep.got in
    let four : List Noted = if_so (nat_lt 0 rep.acked) (Acked who n acked) ++ five in
    let three : List Noted = map (GaveUp who) (option_to_list rep.gave_up) ++ four in
    let two : List Noted = if_so rep.became_active (Active who) ++ three in
    quiet_first e h (map (Down who) (option_to_list rep.ended)) (if_so rep.began (Up who n) ++ two) r (grind arith)
    ∙ (quiet_first e h (if_so rep.began (Up who n)) two r (quiet_so rep.began (Up who n) tt)
    ∙ (quiet_first e h (if_so rep.became_active (Active who)) three r (quiet_so rep.became_active (Active who) tt)
    ∙ (quiet_first e h (map (GaveUp who) (option_to_list rep.gave_up)) four r (grind arith)
    ∙ (quiet_first e h (if_so (nat_lt 0 rep.acked) (Acked who n acked)) five r
    (quiet_so (nat_lt 0 rep.acked) (Acked who n acked) tt)
    ∙ got_read e h who n own rep.got r))))

-- ## A node with one link in a step

-- what it keeps, where its one end is this
abbrev pub reads_of : Core → Port → Read
reads_of core p = record { core = core; left = p.side.got; held = p.desk.holds }

-- A node with one link is in a step, before which these entries were noted, and where r was read at the beginning: what it keeps is read.
pub record Alone (number h : ℕ) (r : Read) (t : List Entry) (w : Work) : Type 0 where
  pub port : Port
  pub ports_are : w.ports ≡ port ∷ []
  pub host : port.desk.host ≡ h
  pub none : port.desk.notice ≡ None
  pub node : w.core.node ≡ number
  pub command : w.core.command ≡ None
  pub init : w.core.init ≡ None
  pub good : eqb number 0 ≡ true → AreTables w.core.tables × JoinTwo w.core.tables.rows
  pub read : read_all (end_of_node_alone number h) r (t ++ w.entries) ≡ reads_of w.core port

-- so it stays where the machine is the same, and what is read more is what the end has then
pub alone_as : {number h : ℕ} {r : Read} {t : List Entry} {w : Work} → Alone number h r t w → (q : Port) (ps : List Port) (es : List Entry) → ps ≡ q ∷ []
    → q.desk.host ≡ h → q.desk.notice ≡ None → read_all (end_of_node_alone number h) r (t ++ es) ≡ reads_of w.core q
    → Alone number h r t (record w { ports = ps; entries = es })
alone_as a q ps es ports host none read = grind arith

-- an end is changed in nothing that is read
pub record IsSamePort (p q : Port) : Type 0 where
  pub host : q.desk.host ≡ p.desk.host
  pub none : p.desk.notice ≡ None → q.desk.notice ≡ None
  pub got : q.side.got ≡ p.side.got
  pub holds : q.desk.holds ≡ p.desk.holds

-- a turn that fetches nothing
abbrev pub IsNoFetching : Turn → Type 0
IsNoFetching FetchMessage = ⊥
IsNoFetching _ = Unit {0}

turn_same : (x : Turn) → IsNoFetching x → (p : Port) → IsSamePort p (after_turn x p)
turn_same x a p = record { host = refl; none = λ q. q; got = grind arith; holds = refl }

module _ (number h : ℕ) (r : Read) (t : List Entry) where
  abbrev pub e : End
  e = end_of_node_alone number h

  abbrev Of : Work → Type 0
  Of w = Alone number h r t w

  -- more is noted
  pub read_more : (w : Work) (es : List Entry) (x y : Read) → read_all e r (t ++ w.entries) ≡ x → read_all e x es ≡ y
      → read_all e r (t ++ (w.entries ++ es)) ≡ y
  read_more w es x y a b =
      ap (read_all e r) (sym (append_assoc t w.entries es)) ∙ (read-append e r (t ++ w.entries) es ∙ (ap (λ z. read_all e z es) a ∙ b))

  -- which says nothing of it
  pub alone_note : (es : List Entry) (w : Work) → AreNothing e es → Of w → Of (noting es w)
  alone_note es w nothing a =
      alone_as a a.port w.ports (w.entries ++ es) a.ports_are a.host a.none
      (read_more w es (reads_of w.core a.port) (reads_of w.core a.port) a.read (nothing_read e es nothing (reads_of w.core a.port)))

  pub alone_turn : (k : ℕ) (x : Turn) (w : Work) → IsNoFetching x → Of w → Of (turn_at k x w)
  alone_turn k x w still a =
      alone_note (option_map_or (noted_of w.core x) (port_at w.ports k) []) (record w { ports = with_port k (after_turn x) w.ports })
      (let h0 = port_at w.ports k in grind arith) (let h0 = after_turn x in let h1 = turn_same x still in grind arith)

  -- ## Deeds

  -- a command is kept
  alone_keeps : (c : Command) (w : Work) → (eqb number 0 ≡ true → IsCommand c) → Of w
      → Of (keeps c (commit_writes w.core.journal w.core.tables (body_of c)) (noting (entry.Command w.core.node c ∷ []) w))
  alone_keeps c w may a =
      record {
        port = a.port;
        ports_are = a.ports_are;
        host = a.host;
        none = a.none;
        node = a.node;
        command = a.command;
        init = a.init;
        good = λ zero.
            let good : AreTables w.core.tables × JoinTwo w.core.tables.rows = a.good zero in
            (AreTables-apply w.core.tables c (may zero) good.0, JoinTwo-after w.core.tables (c ∷ []) (may zero, tt) good.1);
        read = read_more w (entry.Command w.core.node c ∷ []) (reads_of w.core a.port) (reads_of (core_with w.core c) a.port) a.read
            (ap (λ z. record (reads_of w.core a.port) { core = z }) (let h0 = eqb_same w.core.node in grind arith));
      }

  -- so it is while the power is on
  abbrev pub While : Work → Type 0
  While w = w.cut ≡ false → Of w

  alone_commit : (c : Command) (w : Work) → (eqb number 0 ≡ true → IsCommand c) → While w → While (commit c w)
  alone_commit c w may a = by_test (fails_within (length (commit_writes w.core.journal w.core.tables (body_of c))) w.plan)
      (λ is. rw is (λ q. absurd (true≢false q)))
      (λ is. rw is (λ q. alone_keeps c w may (a q)))

  pub alone_does : (k : ℕ) (d : Deed) (w : Work) → IsOwnDeed number d → While w → While (done k d w)
  alone_does k (Commits c) w may a = alone_commit c w may a
  alone_does k (Sends to m) w may a = λ q. alone_turn to (Give m) w tt (a q)
  alone_does k SaysOk w may a = λ q. alone_note (entry.AnyOk w.core.node _ ∷ []) w ((λ z. refl), tt) (a q)
  alone_does k (Releases asker) w may a = λ q. alone_turn asker Release w tt (a q)
  alone_does k IsAnswered w may a = λ q. (let h0 = a q in grind arith)
  alone_does k (Drops pid) w may a = λ q. alone_note (entry.Dropped (end_of_node w.core k) pid ∷ []) w ((λ z. refl), tt) (a q)
  alone_does k (SetsErrors errors) w may a = grind arith
  alone_does k _ w may a = absurd may
