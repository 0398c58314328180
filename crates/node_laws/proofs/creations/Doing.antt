-- A controller does the deeds of a message: the creation that a host asked for stays the one that is read.
use Rattle.node_laws.proofs.Words.{AllByRecursion, AreProper, Asks, Book, Bool, Command, Commits, Controller, Core, Creation, Deed, Desk, Drops, Entry, Give}
use Rattle.node_laws.proofs.Words.{IfAwaited, IsAnswered, IsAwaited, IsNoticeOf, IsProperBook, IsProperCommand, IsReadSo, LinkEnd, LinkInput, List, Message}
use Rattle.node_laws.proofs.Words.{None, Noted, Option, Port, Refused, Release, Releases, Removed, SaysOk, Sends, SetAside, SetsErrors, Some, Tells}
use Rattle.node_laws.proofs.Words.{Turn, Up, Waits, Work, [], after_input, after_turn, agreed, all_done, and-false, answer_of, ap, append-nil, append_assoc}
use Rattle.node_laws.proofs.Words.{ap₂, arith, asked_at, asking_after, asking_in, body_of, book_after, book_in, by_option, by_test, cases_Bool, changed_if}
use Rattle.node_laws.proofs.Words.{commit, commit_writes, cond, count_of, creation_in, done, end_c, end_of, end_of_node, ended_by, entries_for, eq-eqb}
use Rattle.node_laws.proofs.Words.{eqb, eqb-true, fails_within, false, flat_map, fold, fold-append, give_refusal, in_use, inl, inr, is_response, is_some}
use Rattle.node_laws.proofs.Words.{length, map, nat_lt, noted_of, notified, noting, option_map, option_map_or, own_side, port_at, refl, report, same_end}
use Rattle.node_laws.proofs.Words.{sent_unless, spare, subst, sym, told_at, true, true≢false, turn, turn_at, unless_cut, whole_acked, with_desk, with_port, ℕ}
use Rattle.node_laws.proofs.Words.{◌&&◌, ◌++◌, ◌+◌, ◌-◌, ◌∙◌, ◌∷◌, ◌≡◌, ◌≤◌, ◌⊎◌}
use Rattle.node_laws.proofs.creations.Outcomes.{Asked, LeavesAsked, Split, asked_else, asked_here, asked_of, asked_set, asked_with, both_empty, left_same}
use Rattle.node_laws.proofs.creations.Outcomes.{none_read, one_of, owed_length, owed_read, owes, proper_apply, proper_command, read_none, set_asked, waits}
use Rattle.node_laws.proofs.kept.Doing.{book_command, book_more}
use Rattle.node_laws.proofs.links.Blocks.{IsWithin, turn_within}
use Rattle.node_laws.proofs.links.Noticing.{at_all, at_host, turn-phase}
use Rattle.node_laws.proofs.notices.Turning.{controller_side, else_same, reads, reads_append, told_reads}
use Rattle.node_laws.proofs.notices.Near.{asking_more, asks, far_asks, quiet_far}
use Rattle.node_laws.proofs.readings.Turning.{rest_quiet, told_rest}
use Rattle.node_laws.proofs.steps.StepWalks.{changed_host}
use Rattle.gate_answers.specs.declared.response.Response.TheVariants as response
use Rattle.trace_model.specs.declared.entry.Entry.TheVariants as entry

-- ## What is read of a creation that a host asked for, over what a controller notes

module _ (x : ℕ) where
  -- what is read behind more entries
  pub ask_more : (before now es : List Entry) → asking_in (before ++ (now ++ es)) x ≡ asks x es (asking_in (before ++ now) x)
  ask_more before now es = ap (λ l. asking_in l x) (sym (append_assoc before now es)) ∙ asking_more x (before ++ now) es

  -- with the session of its link a creation is read no more
  told_asks : (core : Core) (p : Port) (i : LinkInput) (r : Option (List ℕ)) → own_side core ≡ Controller
      → asks x (told_at core p (Some i)) r ≡ cond (eqb p.desk.host x && is_some (ended_by p.side i)) None r
  told_asks core p i r side = rw side (by_option (ended_by p.side i)
      (λ q. rw q (quiet r ∙ ap (λ b. cond b None r) (sym (and-false (eqb p.desk.host x)))))
      (λ cause q. rw q (quiet (cond (same_end (end_of p.desk.host Controller) (end_c x)) None r))))
    where
      rest : List Noted
      rest = told_rest Controller p.session (whole_acked (after_input p.side i)) (report p.side i)

      quiet : (c : Option (List ℕ)) → asks x (entries_for p.desk.host rest) c ≡ c
      quiet c =
          far_asks x (entries_for p.desk.host rest) (quiet_far p.desk.host rest (rest_quiet Controller p.session (whole_acked (after_input p.side i))
          (report p.side i))) c

  -- what is told of an input tells of creations what it tells of notices
  pub told_same : (core : Core) (p : Port) (o : Option LinkInput) (r : Option (List ℕ)) → own_side core ≡ Controller
      → asks x (told_at core p o) r ≡ reads x (told_at core p o) r
  told_same core p None r side = refl
  told_same core p (Some i) r side = told_asks core p i r side ∙ sym (told_reads x core p i r side)

  pub flat_same : (f : Port → List Entry) → ((p : Port) (r : Option (List ℕ)) → asks x (f p) r ≡ reads x (f p) r) → (ports : List Port)
      → (r : Option (List ℕ)) → asks x (flat_map f ports) r ≡ reads x (flat_map f ports) r
  flat_same f one [] r = refl
  flat_same f one (p ∷ ports) r =
      (fold-append (asking_after x) r (f p) (flat_map f ports)) ∙ (ap (asks x (flat_map f ports)) (one p r) ∙ (flat_same f one ports (reads x (f p) r)
      ∙ sym (reads_append x (f p) (flat_map f ports) r)))

  -- ### Messages

  -- no response to this host on pipe 01, or nothing is read
  sent_asks : (k n : ℕ) (m : Message) (o : Option Refused) (r : Option (List ℕ)) → ((eqb k x && eqb m.0 1 && is_response m.1) ≡ true → r ≡ None)
      → asks x (entries_for k (sent_unless o Controller n m)) r ≡ r
  sent_asks k n m o r none = grind arith

  -- the answer
  answer_asks : (k n : ℕ) (message : List ℕ) (r : Option (List ℕ)) → eqb k x ≡ true → is_response message ≡ true
      → asks x (entries_for k (sent_unless None Controller n (1, message))) r ≡ None
  answer_asks k n message r here is = rw (here, is) refl

  -- a host is asked for a creation of this one, or of another one
  asked_reads : (to : ℕ) (message : List ℕ) (c : Creation) (r : Option (List ℕ)) → IsNoticeOf c message
      → asks x (entry.Ask to message ∷ []) r ≡ cond (eqb c.asker x) (Some message) r
  asked_reads to message c r is = grind arith

-- ## A controller does the deeds of a message: the creation that a host asked for stays the one that is read

-- ### One end

-- so many blocks are set aside at an end, which is up while one of these creations waits
pub record EndHas (n : ℕ) (l : List Creation) (e : LinkEnd) : Type 0 where
  pub within : IsWithin e
  pub aside : e.aside ≡ n
  pub up : (l ≡ [] → ⊥) → e.shdlc.phase ≡ Up

abbrev pub EndAt : ℕ → List Creation → Option Port → Type 0
EndAt n l None = (n ≡ 0) × (l ≡ [])
EndAt n l (Some p) = EndHas n l p.side

pub give_aside : (e : LinkEnd) (m : Message) → (turn e (Give m)).aside ≡ e.aside
give_aside e m = by_option (give_refusal e m) (λ q. rw q refl) (λ why q. rw q refl)

-- a turn that sets nothing aside
abbrev pub IsPlainTurn : Turn → Type 0
IsPlainTurn SetAside = ⊥
IsPlainTurn Release = ⊥
IsPlainTurn _ = Unit {0}

plain_has : (n : ℕ) (l : List Creation) (e : LinkEnd) (t : Turn) → IsPlainTurn t → EndHas n l e → EndHas n l (turn e t)
plain_has n l e t is a = record {
  within = turn_within e t a.within;
  aside = (grind arith) ∙ a.aside;
  up = λ some. turn-phase e t ∙ a.up some;
}

module _ (x : ℕ) where
  end_map : (n : ℕ) (l : List Creation) (k : ℕ) (g : Port → Port) (ports : List Port) → ((p : Port) → (g p).desk.host ≡ p.desk.host)
      → ((p : Port) → EndHas n l p.side → EndHas n l (g p).side) → EndAt n l (port_at ports x) → EndAt n l (port_at (with_port k g ports) x)
  end_map n l k g ports host one a =
      subst (EndAt n l) (sym (at_all ports x (λ p. changed_if (eqb p.desk.host k) g p) (λ p. changed_host (eqb p.desk.host k) g p host)))
      (grind arith)

  -- what is done at the end of this host
  pub at_here : (k : ℕ) (g : Port → Port) (ports : List Port) (p : Port) → ((p : Port) → (g p).desk.host ≡ p.desk.host) → eqb k x ≡ true
      → port_at ports x ≡ Some p → port_at (with_port k g ports) x ≡ Some (g p)
  at_here k g ports p host here e =
      at_all ports x (λ p. changed_if (eqb p.desk.host k) g p) (λ p. changed_host (eqb p.desk.host k) g p host)
      ∙ (ap (option_map (λ (p : Port). changed_if (eqb p.desk.host k) g p)) e
      ∙ ap (λ b. Some (changed_if b g p)) (eq-eqb p.desk.host k (at_host ports x p e ∙ sym (eqb-true k x here))))

hosts_with : (k : ℕ) (g : Port → Port) (ports : List Port) → ((p : Port) → (g p).desk.host ≡ p.desk.host)
    → map (λ (p : Port). p.desk.host) (with_port k g ports) ≡ map (λ (p : Port). p.desk.host) ports
hosts_with k g [] host = refl
hosts_with k g (p ∷ ports) host = ap₂ (λ h l. h ∷ l) (changed_host (eqb p.desk.host k) g p host) (hosts_with k g ports host)

due_set : (k : ℕ) (o : Option Creation) (asked : Asked) → IfAwaited o → AllByRecursion (λ (e : ℕ × Option Creation). IfAwaited e.1) asked
    → AllByRecursion (λ (e : ℕ × Option Creation). IfAwaited e.1) (set_asked k o asked)
due_set k o [] may a = tt
due_set k o (e ∷ asked) may a = (by_test (eqb e.0 k) (λ q. rw q may) (λ q. rw q a.0), due_set k o asked may a.1)

plain_of : (core : Core) (t : Turn) (o : Option Port) (b : Book) → fold (book_after 0) b (option_map_or (noted_of core t) o []) ≡ b
plain_of core t o b = grind arith

long_empty : (l m : List Creation) → length l ≡ length m → l ≡ [] → m ≡ []
long_empty l [] same e = refl
long_empty l (c ∷ m) same e = absurd (omega (arith, same, ap length e))

-- as many creations wait
end_long : (n : ℕ) (l m : List Creation) (o : Option Port) → length l ≡ length m → EndAt n l o → EndAt n m o
end_long n l m None same a = (a.0, long_empty l m same a.1)
end_long n l m (Some p) same a = record { within = a.within; aside = a.aside; up = λ some. a.up (λ e. some (long_empty l m same e)) }

alone : (r : Option (List ℕ)) (a b : List Creation) (c : Creation) → IsReadSo r (a ++ (c ∷ b)) → (a ≡ []) × (b ≡ [])
alone None [] b c k = absurd k
alone None (d ∷ a) b c k = absurd k
alone (Some m) [] [] c k = (refl, refl)
alone (Some m) [] (d ∷ b) c k = absurd k
alone (Some m) (d ∷ []) b c k = absurd k
alone (Some m) (d ∷ e ∷ a) b c k = absurd k

-- an end that is up, with a block to spare, takes a message of one block
pub takes_short : (e : LinkEnd) (answer : List ℕ) → e.shdlc.phase ≡ Up → length answer ≤ 32 → in_use e + e.aside ≤ 127 → give_refusal e (1, answer) ≡ None
takes_short e answer up short room = grind arith

-- ### A step

module _ (x : ℕ) (before : List Entry) (hosts : List ℕ) where
  abbrev pub reading : Work → Option (List ℕ)
  reading w = asking_in (before ++ w.entries) x

  -- a controller runs, its hosts are asked for these creations and these are owed an answer, and what is read is so
  pub record IsOn (asked : Asked) (owed : List Creation) (n : ℕ) (w : Work) : Type 0 where
    pub on : w.cut ≡ false
    pub node : w.core.node ≡ 0
    pub asked_are : asked_of w.ports ≡ asked
    pub hosts_are : map (λ (p : Port). p.desk.host) w.ports ≡ hosts
    pub due : AllByRecursion (λ (e : ℕ × Option Creation). IfAwaited e.1) asked
    pub owed_due : AllByRecursion IsAwaited owed
    pub rows : AreProper w.core.tables.rows
    pub book : IsProperBook (book_in (before ++ w.entries) 0)
    pub read : IsReadSo (reading w) (waits x asked ++ owes x owed)
    pub end : EndAt n (waits x asked ++ owes x owed) (port_at w.ports x)

  -- its power is cut, which was noted last
  pub record IsOff (w : Work) : Type 0 where
    pub off : w.cut ≡ true
    pub front : List Entry
    pub ends : before ++ w.entries ≡ front ++ entry.Cut 0 ∷ []
    pub book : IsProperBook (book_in (before ++ w.entries) 0)

  abbrev pub many : Asked → List Creation → ℕ
  many asked owed = length (waits x asked ++ owes x owed)

  abbrev pub Good : Asked → List Creation → Work → Type 0
  Good asked owed w = IsOn asked owed (many asked owed) w

  abbrev Stands : Asked → List Creation → Work → Type 0
  Stands asked owed w = Good asked owed w ⊎ IsOff w

  -- one thing after another, unless the power is cut
  pub on_is : (f : Work → Work) (w : Work) → w.cut ≡ false → unless_cut f w ≡ f w
  on_is f w e = rw e refl

  pub off_is : (f : Work → Work) (w : Work) → w.cut ≡ true → unless_cut f w ≡ w
  off_is f w e = rw e refl

  -- it is noted what tells nothing
  pub notes : (asked : Asked) (owed : List Creation) (n : ℕ) (es : List Entry) (w : Work) → ((b : Book) → fold (book_after 0) b es ≡ b)
      → asks x es (reading w) ≡ reading w → IsOn asked owed n w → IsOn asked owed n (noting es w)
  notes asked owed n es w plain silent a = record {
    on = a.on;
    node = a.node;
    asked_are = a.asked_are;
    hosts_are = a.hosts_are;
    due = a.due;
    owed_due = a.owed_due;
    rows = a.rows;
    book = subst IsProperBook (sym (ap (λ l. book_in l 0) (sym (append_assoc before w.entries es)) ∙ (book_more (before ++ w.entries) es 0
        ∙ plain (book_in (before ++ w.entries) 0)))) a.book;
    read = subst (λ r. IsReadSo r (waits x asked ++ owes x owed)) (sym (ask_more x before w.entries es ∙ silent)) a.read;
    end = a.end;
  }

  -- ends are changed that keep their hosts and creations
  alters_so : (asked : Asked) (owed : List Creation) (n m k : ℕ) (g : Port → Port) (w : Work) → ((p : Port) → (g p).desk.host ≡ p.desk.host)
      → ((p : Port) → asked_at (g p) ≡ asked_at p) → EndAt m (waits x asked ++ owes x owed) (port_at (with_port k g w.ports) x)
      → IsOn asked owed n w → IsOn asked owed m (record w { ports = with_port k g w.ports })
  alters_so asked owed n m k g w host same end a = record {
    on = a.on;
    node = a.node;
    asked_are = asked_with k g host same w.ports ∙ a.asked_are;
    hosts_are = hosts_with k g w.ports host ∙ a.hosts_are;
    due = a.due;
    owed_due = a.owed_due;
    rows = a.rows;
    book = a.book;
    read = a.read;
    end = end;
  }

  alters : (asked : Asked) (owed : List Creation) (n k : ℕ) (g : Port → Port) (w : Work) → ((p : Port) → (g p).desk.host ≡ p.desk.host)
      → ((p : Port) → asked_at (g p) ≡ asked_at p)
      → ((p : Port) → EndHas n (waits x asked ++ owes x owed) p.side → EndHas n (waits x asked ++ owes x owed) (g p).side)
      → IsOn asked owed n w → IsOn asked owed n (record w { ports = with_port k g w.ports })
  alters asked owed n k g w host same one a =
      alters_so asked owed n n k g w host same (end_map x n (waits x asked ++ owes x owed) k g w.ports host one a.end) a

  -- hosts are asked for other ones
  sets : (asked : Asked) (owed later : List Creation) (n k : ℕ) (g : Port → Port) (o : Option Creation) (w : Work)
      → ((p : Port) → ((g p).desk.host ≡ p.desk.host) × (asked_at (g p) ≡ o) × ((g p).side ≡ p.side)) → IfAwaited o → AllByRecursion IsAwaited later
      → IsReadSo (reading w) (waits x (set_asked k o asked) ++ owes x later)
      → length (waits x asked ++ owes x owed) ≡ length (waits x (set_asked k o asked) ++ owes x later)
      → IsOn asked owed n w → IsOn (set_asked k o asked) later n (record w { ports = with_port k g w.ports })
  sets asked owed later n k g o w one may due read long a = record {
    on = a.on;
    node = a.node;
    asked_are = asked_set k g o (λ p. (one p).0) (λ p. (one p).1) w.ports ∙ ap (set_asked k o) a.asked_are;
    hosts_are = hosts_with k g w.ports (λ p. (one p).0) ∙ a.hosts_are;
    due = due_set k o asked may a.due;
    owed_due = due;
    rows = a.rows;
    book = a.book;
    read = read;
    end = end_map x n (waits x (set_asked k o asked) ++ owes x later) k g w.ports (λ p. (one p).0)
        (λ p z. subst (EndHas n (waits x (set_asked k o asked) ++ owes x later)) (sym (one p).2) z)
        (end_long n (waits x asked ++ owes x owed) (waits x (set_asked k o asked) ++ owes x later) (port_at w.ports x) long a.end);
  }

  pub turns : (asked : Asked) (owed : List Creation) (n k : ℕ) (t : Turn) (w : Work) → IsPlainTurn t
      → ((p : Port) → port_at w.ports k ≡ Some p → asks x (noted_of w.core t p) (reading w) ≡ reading w)
      → IsOn asked owed n w → IsOn asked owed n (turn_at k t w)
  turns asked owed n k t w is silent a =
      notes asked owed n (option_map_or (noted_of w.core t) (port_at w.ports k) []) (record w { ports = with_port k (after_turn t) w.ports })
      (plain_of w.core t (port_at w.ports k)) (by_option (port_at w.ports k) (λ e. rw e refl) (λ p e. rw e (silent p e)))
      (alters asked owed n k (after_turn t) w (λ p. refl) (λ p. refl) (λ p z. plain_has n (waits x asked ++ owes x owed) p.side t is z) a)

  -- no response on pipe 01 to a host whose creation waits
  gives : (asked : Asked) (owed : List Creation) (n k : ℕ) (m : Message) (w : Work)
      → ((eqb k x && eqb m.0 1 && is_response m.1) ≡ true → waits x asked ++ owes x owed ≡ []) → IsOn asked owed n w → IsOn asked owed n (turn_at k (Give m) w)
  gives asked owed n k m w none a =
      turns asked owed n k (Give m) w tt
      (λ p e. ap (λ s. asks x (entries_for p.desk.host (sent_unless (give_refusal p.side m) s p.session m)) (reading w)) (controller_side w.core a.node)
      ∙ sent_asks x p.desk.host p.session m (give_refusal p.side m) (reading w)
      (λ z. read_none (reading w) (waits x asked ++ owes x owed)
      (none (ap (λ j. eqb j x && eqb m.0 1 && is_response m.1) (sym (at_host w.ports k p e)) ∙ z)) a.read)) a

  pub desks : (asked : Asked) (owed : List Creation) (n k : ℕ) (f : Desk → Desk) (w : Work) → ((d : Desk) → (f d).host ≡ d.host)
      → ((d : Desk) → (f d).notice ≡ d.notice) → IsOn asked owed n w → IsOn asked owed n (with_desk k f w)
  desks asked owed n k f w host notice a =
      alters asked owed n k (λ p. record p { desk = f p.desk }) w (λ p. host p.desk) (λ p. ap creation_in (notice p.desk)) (λ p z. z) a

  -- ### Blocks

  pub released : (asked : Asked) (owed : List Creation) (n k : ℕ) (w : Work) → IsOn asked owed n w
      → IsOn asked owed (cond (eqb k x) (n - 1) n) (turn_at k Release w)
  released asked owed n k w a =
      let m : ℕ = cond (eqb k x) (n - 1) n in
      notes asked owed m (option_map_or (noted_of w.core Release) (port_at w.ports k) []) (record w { ports = with_port k (after_turn Release) w.ports })
      (plain_of w.core Release (port_at w.ports k)) (by_option (port_at w.ports k) (λ q. rw q refl) (λ p q. rw q refl))
      (alters_so asked owed n m k (after_turn Release) w (λ p. refl) (λ p. refl) (end (cases_Bool (eqb k x))) a)
    where
      l : List Creation
      l = waits x asked ++ owes x owed

      here : (o : Option Port) → port_at w.ports x ≡ o → eqb k x ≡ true → EndAt n l o → EndAt (n - 1) l (port_at (with_port k (after_turn Release) w.ports) x)
      here None e is z =
          subst (EndAt (n - 1) l) (sym (at_all w.ports x (λ p. changed_if (eqb p.desk.host k) (after_turn Release) p)
          (λ p. changed_host (eqb p.desk.host k) (after_turn Release) p (λ q. refl)) ∙ ap (option_map (λ (p : Port). changed_if (eqb p.desk.host k) (after_turn
          Release) p)) e)) (omega (arith, z.0), z.1)
      here (Some p) e is z =
          subst (EndAt (n - 1) l) (sym (at_here x k (after_turn Release) w.ports p (λ q. refl) is e))
          (record { within = turn_within p.side Release z.within; aside = ap (λ j. j - 1) z.aside; up = z.up })

      end : (eqb k x ≡ true) ⊎ (eqb k x ≡ false) → EndAt (cond (eqb k x) (n - 1) n) l (port_at (with_port k (after_turn Release) w.ports) x)
      end (inl is) =
          subst (λ b. EndAt (cond b (n - 1) n) l (port_at (with_port k (after_turn Release) w.ports) x)) (sym is) (here (port_at w.ports x) refl is a.end)
      end (inr off) =
          subst (λ b. EndAt (cond b (n - 1) n) l (port_at (with_port k (after_turn Release) w.ports) x)) (sym off)
          (subst (EndAt n l) (sym (else_same k x (after_turn Release) w.ports (λ q. refl) off)) a.end)

  -- an asker gets its answer: the block for it is free, so it finds room
  pub pays : (asked : Asked) (owed : List Creation) (c : Creation) (answer : List ℕ) (w : Work) → is_response answer ≡ true → length answer ≤ 32
      → Good asked (c ∷ owed) w → Good asked owed (turn_at c.asker (Give (1, answer)) (turn_at c.asker Release w))
  pays asked owed c answer w is short a = by_asker (cases_Bool (eqb c.asker x)) where
    v : Work
    v = turn_at c.asker Release w

    n : ℕ
    n = many asked (c ∷ owed)

    first : IsOn asked (c ∷ owed) (cond (eqb c.asker x) (n - 1) n) v
    first = released asked (c ∷ owed) n c.asker w a

    else_so : eqb c.asker x ≡ false → Good asked owed (turn_at c.asker (Give (1, answer)) v)
    else_so off =
        let same : waits x asked ++ owes x (c ∷ owed) ≡ waits x asked ++ owes x owed = grind arith in
        let second : IsOn asked (c ∷ owed) n v = subst (λ b. IsOn asked (c ∷ owed) (cond b (n - 1) n) v) off first in
        let third : IsOn asked owed n v = grind arith in
        gives asked owed (many asked owed) c.asker (1, answer) v
        (λ z. absurd (true≢false (sym (grind arith) ∙ off)))
        (subst (λ j. IsOn asked owed j v) (ap length same) third)

    here_so : eqb c.asker x ≡ true → Good asked owed (turn_at c.asker (Give (1, answer)) v)
    here_so here = by_port (port_at v.ports x) refl second.end where
      same : waits x asked ++ owes x (c ∷ owed) ≡ waits x asked ++ (c ∷ owes x owed)
      same = ap (λ b. waits x asked ++ (cond b (c ∷ []) [] ++ owes x owed)) here

      others : (waits x asked ≡ []) × (owes x owed ≡ [])
      others = alone (reading v) (waits x asked) (owes x owed) c (subst (IsReadSo (reading v)) same first.read)

      one : n ≡ 1
      one = ap length same ∙ (ap (λ l. length (l ++ (c ∷ owes x owed))) others.0 ∙ ap (λ l. length (c ∷ l)) others.1)

      none : waits x asked ++ owes x owed ≡ []
      none = ap₂ (λ a b. a ++ b) others.0 others.1

      second : IsOn asked (c ∷ owed) 0 v
      second = subst (λ j. IsOn asked (c ∷ owed) j v) (ap (λ b. cond b (n - 1) n) here ∙ ap (λ j. j - 1) one) first

      some : waits x asked ++ owes x (c ∷ owed) ≡ [] → ⊥
      some e = let z : c ∷ owes x owed ≡ [] = (both_empty (waits x asked) (c ∷ owes x owed) (sym same ∙ e)).1 in cc z

      u : Work
      u = turn_at c.asker (Give (1, answer)) v

      by_port : (o : Option Port) → port_at v.ports x ≡ o → EndAt 0 (waits x asked ++ owes x (c ∷ owed)) o → Good asked owed u
      by_port None e z = absurd (some z.1)
      by_port (Some p) e z = subst (λ j. IsOn asked owed j u) (sym (ap length none)) (record {
        on = second.on;
        node = second.node;
        asked_are = asked_with c.asker (after_turn (Give (1, answer))) (λ q. refl) (λ q. refl) v.ports ∙ second.asked_are;
        hosts_are = hosts_with c.asker (after_turn (Give (1, answer))) v.ports (λ q. refl) ∙ second.hosts_are;
        due = second.due;
        owed_due = second.owed_due.1;
        rows = second.rows;
        book = subst IsProperBook (sym (ap (λ l. book_in l 0) (sym (append_assoc before v.entries new)) ∙ (book_more (before ++ v.entries) new 0
            ∙ plain_of v.core (Give (1, answer)) (port_at v.ports c.asker) (book_in (before ++ v.entries) 0)))) second.book;
        read = subst (λ r. IsReadSo r (waits x asked ++ owes x owed)) (sym (ask_more x before v.entries new ∙ gone))
            (none_read (waits x asked ++ owes x owed) none);
        end = subst (EndAt 0 (waits x asked ++ owes x owed)) (sym (at_here x c.asker (after_turn (Give (1, answer))) v.ports p (λ q. refl) here e)) (record {
          within = turn_within p.side (Give (1, answer)) z.within;
          aside = give_aside p.side (1, answer) ∙ z.aside;
          up = λ more. absurd (more none);
        });
      }) where
        new : List Entry
        new = option_map_or (noted_of v.core (Give (1, answer))) (port_at v.ports c.asker) []

        took : give_refusal p.side (1, answer) ≡ None
        took = takes_short p.side answer (z.up some) short (omega (arith, released_room (port_at w.ports x) refl a.end, z.aside))
          where
            released_room : (o : Option Port) → port_at w.ports x ≡ o → EndAt n (waits x asked ++ owes x (c ∷ owed)) o → in_use p.side + 1 ≤ 128
            released_room None f y = absurd (some y.1)
            released_room (Some q) f y =
                let is_p : Some (after_turn Release q) ≡ Some p = sym (at_here x c.asker (after_turn Release) w.ports q (λ j. refl) here f) ∙ e in
                let one_p : after_turn Release q ≡ p = cc in
                subst (λ (j : Port). in_use j.side + 1 ≤ 128) one_p (omega (arith, y.within.room, y.aside, one))

        sent : noted_of v.core (Give (1, answer)) p ≡ entries_for p.desk.host (sent_unless None Controller p.session (1, answer))
        sent =
            ap (λ o. entries_for p.desk.host (sent_unless o (own_side v.core) p.session (1, answer))) took
            ∙ ap (λ s. entries_for p.desk.host (sent_unless None s p.session (1, answer))) (controller_side v.core second.node)

        gone : asks x new (reading v) ≡ None
        gone =
            ap (λ k. asks x (option_map_or (noted_of v.core (Give (1, answer))) (port_at v.ports k) []) (reading v)) (eqb-true c.asker x here)
            ∙ (ap (λ o. asks x (option_map_or (noted_of v.core (Give (1, answer))) o []) (reading v)) e
            ∙ (ap (λ es. asks x es (reading v)) sent
            ∙ answer_asks x p.desk.host p.session answer (reading v) (eq-eqb p.desk.host x (at_host v.ports x p e)) is))

    by_asker : (eqb c.asker x ≡ true) ⊎ (eqb c.asker x ≡ false) → Good asked owed (turn_at c.asker (Give (1, answer)) v)
    by_asker (inl here) = here_so here
    by_asker (inr off) = else_so off

  -- ### Notices

  -- a host is told
  tells : (asked : Asked) (owed : List Creation) (n k : ℕ) (message : List ℕ) (w : Work) → is_response message ≡ false → set_asked k None asked ≡ asked
      → IsOn asked owed n w → IsOn asked owed n (notified k Removed message w)
  tells asked owed n k message w off same a =
      subst (λ l. IsOn l owed n (notified k Removed message w)) same
      (sets asked owed owed n k (λ p. record p { desk = record p.desk { notice = Some (record { about = Removed; age = 0 }) } }) None
      (turn_at k (Give (1, message)) w) (λ p. (refl, refl, refl)) tt b.owed_due
      (subst (λ l. IsReadSo (reading (turn_at k (Give (1, message)) w)) (waits x l ++ owes x owed)) (sym same) b.read)
      (ap (λ l. length (waits x l ++ owes x owed)) (sym same)) b)
    where
      b : IsOn asked owed n (turn_at k (Give (1, message)) w)
      b = gives asked owed n k (1, message) w (λ z. absurd (true≢false (sym (last_of (eqb k x) true (is_response message) z) ∙ off))) a
        where
          last_of : (a b d : Bool) → (a && b && d) ≡ true → d ≡ true
          last_of true true d z = z
          last_of true false d z = absurd (true≢false (sym z))
          last_of false b d z = absurd (true≢false (sym z))

  -- a notice that is about no creation is answered
  heard : (asked : Asked) (k : ℕ) (w : Work) → Split asked k None → Good asked [] w → Good (set_asked k None asked) [] (done k IsAnswered w)
  heard asked k w s a =
      let same : waits x asked ++ [] ≡ waits x (set_asked k None asked) ++ [] = ap (λ l. l ++ []) (sym (left_same x asked k s)) in
      subst (λ n. IsOn (set_asked k None asked) [] n (done k IsAnswered w)) (ap length same)
      (sets asked [] [] (many asked []) k (λ p. record p { desk = record p.desk { notice = None } }) None w (λ p. (refl, refl, refl)) tt tt
      (subst (IsReadSo (reading w)) same a.read) (ap length same) a)

  -- that of a creation is answered: its asker is owed an answer
  done_so : (asked : Asked) (k : ℕ) (c : Creation) (w : Work) → Split asked k (Some c) → IsAwaited c → Good asked [] w
      → Good (set_asked k None asked) (c ∷ []) (done k IsAnswered w)
  done_so asked k c w s due a =
      let l : List Creation = waits x (set_asked k None asked) in
      let nil : l ++ one_of x (Some c) ≡ l ++ (one_of x (Some c) ++ []) = ap (λ z. l ++ z) (sym (append-nil (one_of x (Some c)))) in
      let long : length (waits x asked ++ []) ≡ length (l ++ (one_of x (Some c) ++ [])) =
      ap length (append-nil (waits x asked)) ∙ (sym (owed_length x asked k c s) ∙ ap length nil) in
      subst (λ n. IsOn (set_asked k None asked) (c ∷ []) n (done k IsAnswered w)) long
      (sets asked [] (c ∷ []) (many asked []) k (λ p. record p { desk = record p.desk { notice = None } }) None w (λ p. (refl, refl, refl)) tt (due, tt)
      (subst (IsReadSo (reading w)) nil (owed_read x asked k (reading w) c s (subst (IsReadSo (reading w)) (append-nil (waits x asked)) a.read)))
      long a)

  -- ### Commits

  pub commits : (asked : Asked) (owed : List Creation) (n : ℕ) (c : Command) (w : Work) → IsProperCommand c → IsOn asked owed n w
      → IsOn asked owed n (commit c w) ⊎ IsOff (commit c w)
  commits asked owed n c w may a = by_test (fails_within (length (commit_writes w.core.journal w.core.tables (body_of c))) w.plan)
      (λ e. inr (rw e (record {
        off = refl;
        front = before ++ noted.entries;
        ends = sym (append_assoc before noted.entries (entry.Cut w.core.node ∷ []))
            ∙ ap (λ n. (before ++ noted.entries) ++ entry.Cut n ∷ []) a.node;
        book = subst IsProperBook (sym (ap (λ l. book_in l 0) (sym (append_assoc before noted.entries (entry.Cut w.core.node ∷ [])))
            ∙ book_more (before ++ noted.entries) (entry.Cut w.core.node ∷ []) 0)) book;
      })))
      (λ e. inl (rw e (record {
        on = a.on;
        node = a.node;
        asked_are = a.asked_are;
        hosts_are = a.hosts_are;
        due = a.due;
        owed_due = a.owed_due;
        rows = proper_apply w.core.tables c may a.rows;
        book = book;
        read = subst (λ r. IsReadSo r (waits x asked ++ owes x owed)) (sym (ask_more x before w.entries (entry.Command w.core.node c ∷ []))) a.read;
        end = a.end;
      }))) where
        noted : Work
        noted = noting (entry.Command w.core.node c ∷ []) w

        book : IsProperBook (book_in (before ++ noted.entries) 0)
        book = subst IsProperBook (sym (ap (λ l. book_in l 0) (sym (append_assoc before w.entries (entry.Command w.core.node c ∷ [])))
            ∙ book_command (before ++ w.entries) w.core.node 0 c a.node)) (proper_command c (book_in (before ++ w.entries) 0) may a.book)

-- ## All that a controller does on one message: the creation that a host asked for stays the one that is read

-- a block is to spare at an end that is up
abbrev pub HasBlock : Option Port → Type 0
HasBlock None = ⊥
HasBlock (Some p) = (p.side.shdlc.phase ≡ Up) × (nat_lt 0 (spare p.side) ≡ true)

module _ (x : ℕ) (before : List Entry) (hosts : List ℕ) where
  -- the creations of a controller that runs are read, and none is owed an answer
  pub record Still (w : Work) : Type 0 where
    pub asked : Asked
    pub good : Good x before hosts asked [] w

  abbrev pub Fine : Work → Type 0
  Fine w = Still w ⊎ IsOff x before hosts w

  pub then : (R : Work → Type 0) (asked : Asked) (owed : List Creation) (n : ℕ) (f : Work → Work) (w : Work)
      → IsOn x before hosts asked owed n w ⊎ IsOff x before hosts w → (IsOff x before hosts w → R w) → (IsOn x before hosts asked owed n w → R (f w))
      → R (unless_cut f w)
  then R asked owed n f w a lost next = grind arith

  pub then_fine : (f : Work → Work) (w : Work) → Fine w → ((asked : Asked) → Good x before hosts asked [] w → Fine (f w)) → Fine (unless_cut f w)
  then_fine f w a next = grind arith

  -- ### Deeds that leave the creations

  errors_set : (asked : Asked) (owed : List Creation) (n k errors : ℕ) (w : Work) → IsOn x before hosts asked owed n w
      → IsOn x before hosts asked owed n (done k (SetsErrors errors) w)
  errors_set asked owed n k errors w a = desks x before hosts asked owed n k (λ d. record d { errors = errors }) w (λ d. refl) (λ d. refl) a

  pub leaves : (k : ℕ) (asked : Asked) (deeds : List Deed) (w : Work) → AllByRecursion (LeavesAsked x asked) deeds → Good x before hosts asked [] w
      → Fine (all_done k deeds w)
  leaves k asked [] w may a = inl (record { asked = asked; good = a })
  leaves k asked (Commits c ∷ deeds) w may a =
      then Fine asked [] (many x before hosts asked []) (all_done k deeds) (commit c w)
      (commits x before hosts asked [] (many x before hosts asked []) c w may.0 a)
      (λ lost. inr lost) (λ b. leaves k asked deeds (commit c w) may.1 b)
  leaves k asked (Sends to m ∷ deeds) w may a =
      then Fine asked [] (many x before hosts asked []) (all_done k deeds) (turn_at to (Give m) w)
      (inl (gives x before hosts asked [] (many x before hosts asked []) to m w (λ z. ap (λ l. l ++ []) (may.0 z)) a))
      (λ lost. inr lost) (λ b. leaves k asked deeds (turn_at to (Give m) w) may.1 b)
  leaves k asked (SaysOk ∷ deeds) w may a =
      then Fine asked [] (many x before hosts asked []) (all_done k deeds) (done k SaysOk w)
      (inl (notes x before hosts asked [] (many x before hosts asked []) (entry.AnyOk w.core.node (count_of w.core.journal) ∷ []) w (λ b. refl) refl a))
      (λ lost. inr lost) (λ b. leaves k asked deeds (done k SaysOk w) may.1 b)
  leaves k asked (Tells to message ∷ deeds) w may a =
      then Fine asked [] (many x before hosts asked []) (all_done k deeds) (notified to Removed message w)
      (inl (tells x before hosts asked [] (many x before hosts asked []) to message w may.0.0 may.0.1 a))
      (λ lost. inr lost) (λ b. leaves k asked deeds (notified to Removed message w) may.1 b)
  leaves k asked (Drops pid ∷ deeds) w may a =
      then Fine asked [] (many x before hosts asked []) (all_done k deeds) (done k (Drops pid) w)
      (inl (notes x before hosts asked [] (many x before hosts asked []) (entry.Dropped (end_of_node w.core k) pid ∷ []) w (λ b. refl) refl a))
      (λ lost. inr lost) (λ b. leaves k asked deeds (done k (Drops pid) w) may.1 b)
  leaves k asked (SetsErrors errors ∷ deeds) w may a =
      then Fine asked [] (many x before hosts asked []) (all_done k deeds) (done k (SetsErrors errors) w)
      (inl (errors_set asked [] (many x before hosts asked []) k errors w a))
      (λ lost. inr lost) (λ b. leaves k asked deeds (done k (SetsErrors errors) w) may.1 b)
  leaves k asked (_ ∷ deeds) w may a = absurd may.0

  -- ### Answers

  -- an answer that is owed is given
  pub pays_then : (R : Work → Type 0) (k : ℕ) (asked : Asked) (owed : List Creation) (c : Creation) (answer : List ℕ) (rest : List Deed) (w : Work)
      → is_response answer ≡ true → length answer ≤ 32 → Good x before hosts asked (c ∷ owed) w
      → ((v : Work) → Good x before hosts asked owed v → R (all_done k rest v)) → R (all_done k (Releases c.asker ∷ Sends c.asker (1, answer) ∷ rest) w)
  pays_then R k asked owed c answer rest w is short a next =
      let v : Work = turn_at c.asker Release w in
      let u : Work = turn_at c.asker (Give (1, answer)) v in
      let paid : Good x before hosts asked owed u = pays x before hosts asked owed c answer w is short a in
      subst R (sym (on_is x before hosts (all_done k (Sends c.asker (1, answer) ∷ rest)) v a.on ∙ on_is x before hosts (all_done k rest) u paid.on))
      (next u paid)

  says_ok : (k : ℕ) (asked : Asked) (w : Work) → Good x before hosts asked [] w → Fine (all_done k (SaysOk ∷ []) w)
  says_ok k asked w a = leaves k asked (SaysOk ∷ []) w (tt, tt) a

  -- the notice of a creation is answered
  pub agrees : (k : ℕ) (asked : Asked) (c : Creation) (flag : Bool) (w : Work) → Split asked k (Some c) → IsAwaited c → Good x before hosts asked [] w
      → Fine (all_done k (agreed flag c) w)
  agrees k asked c true w s due a =
      let v : Work = done k IsAnswered w in
      let new : Asked = set_asked k None asked in
      let n : ℕ = many x before hosts new (c ∷ []) in
      let first : Good x before hosts new (c ∷ []) v = done_so x before hosts asked k c w s due a in
      let rest : List Deed = Releases c.asker ∷ Sends c.asker (1, c.answer) ∷ SaysOk ∷ [] in
      subst Fine (sym (on_is x before hosts (all_done k (Commits c.command ∷ rest)) v first.on))
      (then Fine new (c ∷ []) n (all_done k rest) (commit c.command v) (commits x before hosts new (c ∷ []) n c.command v (grind arith) first)
      (λ lost. inr lost)
      (λ b. pays_then Fine k new [] c c.answer (SaysOk ∷ []) (commit c.command v) (subst (λ m. is_response m ≡ true) (sym due.answer) (refl))
      (subst (λ (m : List ℕ). length m ≤ 32) (sym due.answer) (omega arith)) b (λ u d. says_ok k new u d)))
  agrees k asked c false w s due a =
      let v : Work = done k IsAnswered w in
      let new : Asked = set_asked k None asked in
      let first : Good x before hosts new (c ∷ []) v = done_so x before hosts asked k c w s due a in
      subst Fine (sym (on_is x before hosts (all_done k (Releases c.asker ∷ Sends c.asker (1, answer_of response.NotOk []) ∷ [])) v first.on))
      (pays_then Fine k new [] c (answer_of response.NotOk []) [] v refl (omega arith) first (λ u d. inl (record { asked = new; good = d })))

  pub hears : (k : ℕ) (asked : Asked) (w : Work) → Split asked k None → Good x before hosts asked [] w → Fine (all_done k (IsAnswered ∷ []) w)
  hears k asked w s a =
      let v : Work = done k IsAnswered w in
      let first : Good x before hosts (set_asked k None asked) [] v = heard x before hosts asked k w s a in
      subst Fine (sym (on_is x before hosts (all_done k []) v first.on)) (inl (record { asked = set_asked k None asked; good = first }))

  -- ### A creation is asked for

  module _ (asked : Asked) (to : ℕ) (notice : List ℕ) (c : Creation) (due : IsAwaited c) (is_notice_of : IsNoticeOf c notice) (w : Work)
      (free : eqb c.asker x ≡ true → waits x asked ≡ []) (block : eqb c.asker x ≡ true → HasBlock (port_at w.ports x))
      (a : Good x before hosts asked [] w) where
    abbrev u : Work
    u = turn_at c.asker SetAside w

    abbrev v : Work
    v = noting (entry.Ask to notice ∷ []) u

    abbrev n : ℕ
    n = many x before hosts asked []

    abbrev m : ℕ
    m = many x before hosts asked (c ∷ [])

    abbrev last : List Creation
    last = waits x asked ++ owes x (c ∷ [])

    here_is : eqb c.asker x ≡ true → last ≡ c ∷ []
    here_is e = ap (λ b. waits x asked ++ (cond b (c ∷ []) [] ++ [])) e ∙ ap (λ l. l ++ (c ∷ [])) (free e)

    else_is : eqb c.asker x ≡ false → last ≡ waits x asked ++ []
    else_is e = ap (λ b. waits x asked ++ (cond b (c ∷ []) [] ++ [])) e

    set_here : (l : List Creation) → eqb c.asker x ≡ true → (o : Option Port) → port_at w.ports x ≡ o → HasBlock o → EndAt n (waits x asked ++ []) o
        → EndAt m l (port_at (with_port c.asker (after_turn SetAside) w.ports) x)
    set_here l e None q z b = absurd z
    set_here l e (Some p) q z b =
        let one : m ≡ n + 1 = ap length (here_is e) ∙ ap (λ k. length (k ++ []) + 1) (sym (free e)) in
        subst (EndAt m l) (sym (at_here x c.asker (after_turn SetAside) w.ports p (λ j. refl) e q)) (grind arith)

    set_end : (l : List Creation) → (eqb c.asker x ≡ false → l ≡ waits x asked ++ []) → EndAt m l (port_at (with_port c.asker (after_turn SetAside) w.ports) x)
    set_end l same = by_test (eqb c.asker x)
        (λ e. set_here l e (port_at w.ports x) refl (block e) a.end)
        (λ e. subst (λ k. EndAt k l (port_at (with_port c.asker (after_turn SetAside) w.ports) x)) (sym (ap length (else_is e)))
        (subst (λ k. EndAt n k (port_at (with_port c.asker (after_turn SetAside) w.ports) x)) (sym (same e))
        (subst (EndAt n (waits x asked ++ [])) (sym (else_same c.asker x (after_turn SetAside) w.ports (λ j. refl) e)) a.end)))

    silent : (o : Option Port) (r : Option (List ℕ)) → asks x (option_map_or (noted_of w.core SetAside) o []) r ≡ r
    silent o r = grind arith

    first : IsOn x before hosts asked [] m u
    first =
        notes x before hosts asked [] m (option_map_or (noted_of w.core SetAside) (port_at w.ports c.asker) [])
        (record w { ports = with_port c.asker (after_turn SetAside) w.ports })
        (plain_of w.core SetAside (port_at w.ports c.asker)) (silent (port_at w.ports c.asker) (reading x before hosts w))
        (alters_so x before hosts asked [] n m c.asker (after_turn SetAside) w (λ p. refl) (λ p. refl) (set_end (waits x asked ++ []) (λ e. refl)) a)

    read_now : reading x before hosts v ≡ cond (eqb c.asker x) (Some notice) (reading x before hosts u)
    read_now = ask_more x before u.entries (entry.Ask to notice ∷ []) ∙ asked_reads x to notice c (reading x before hosts u) is_notice_of

    second : Good x before hosts asked (c ∷ []) v
    second = record {
      on = first.on;
      node = first.node;
      asked_are = first.asked_are;
      hosts_are = first.hosts_are;
      due = first.due;
      owed_due = (due, tt);
      rows = first.rows;
      book = subst IsProperBook (sym (ap (λ l. book_in l 0) (sym (append_assoc before u.entries (entry.Ask to notice ∷ [])))
          ∙ book_more (before ++ u.entries) (entry.Ask to notice ∷ []) 0)) first.book;
      read = by_test (eqb c.asker x)
          (λ e. subst (λ r. IsReadSo r last) (sym (read_now ∙ ap (λ b. cond b (Some notice) (reading x before hosts u)) e))
          (subst (IsReadSo (Some notice)) (sym (here_is e)) is_notice_of))
          (λ e. subst (λ r. IsReadSo r last) (sym (read_now ∙ ap (λ b. cond b (Some notice) (reading x before hosts u)) e))
          (subst (IsReadSo (reading x before hosts u)) (sym (else_is e)) first.read));
      end = set_end last else_is;
    }

    -- the notice is no response
    no_answer : (eqb to x && true && is_response notice) ≡ true → last ≡ []
    no_answer z = grind arith

    pub asks_one : (k : ℕ) → Split asked to None → Fine (all_done k (Asks to notice c ∷ []) w)
    asks_one k s =
        let new : Asked = set_asked to (Some c) asked in
        let given : Work = turn_at to (Give (1, notice)) v in
        let third : Good x before hosts asked (c ∷ []) given = gives x before hosts asked (c ∷ []) m to (1, notice) v no_answer second in
        let same : last ≡ waits x new ++ [] = by_test (eqb c.asker x)
        (λ e. here_is e ∙ sym (ap (λ l. l ++ []) (asked_here x asked to c s e (free e))))
        (λ e. else_is e ∙ sym (ap (λ l. l ++ []) (asked_else x asked to c s e))) in
        let told : Work = notified to (Waits c) notice v in
        let fourth : IsOn x before hosts new [] m told =
        sets x before hosts asked (c ∷ []) [] m to (λ p. record p { desk = record p.desk { notice = Some (record { about = Waits c; age = 0 }) } })
        (Some c) given
        (λ p. (refl, refl, refl)) due tt (subst (IsReadSo (reading x before hosts given)) same third.read) (ap length same) third in
        let good : Good x before hosts new [] told = subst (λ j. IsOn x before hosts new [] j told) (ap length same) fourth in
        subst Fine (sym (on_is x before hosts (all_done k []) told good.on)) (inl (record { asked = new; good = good }))
