-- What deeds note and leave at the ends of a node where each message that they send is taken, and that it is taken where none lacks room.
use Rattle.node_laws.proofs.Words.{About, AreTables, AreTaken, Asks, Bool, Command, Commits, Core, CountsCommands, Deed, Desk, Drops, Ends, Entry, FetchMessage}
use Rattle.node_laws.proofs.Words.{Give, GiveOnce, GoesOn, HciTables, Hears, Hold, Init, IsAnswered, IsNoneOf, IsRecordable, IsReplyNoted, Knows, LinkState}
use Rattle.node_laws.proofs.Words.{List, MayBeDone, Message, None, Option, Orders, Port, Release, Releases, Removed, SaysOk, Sends, SetAside, SetsErrors, Some}
use Rattle.node_laws.proofs.Words.{State, TakesMessage, Tells, Turn, Up, Waiting, Waits, Work, Write, [], after_turn, all_done, ap, append_assoc, apply, arith}
use Rattle.node_laws.proofs.Words.{body_of, by_option, by_test, changed_if, commit, commit_writes, committed, cond, count_of, done, end_of_node}
use Rattle.node_laws.proofs.Words.{entries_of_reply, eq-eqb, eqb-true, false, give_refusal, given, goes_in, handles, in_use, is_held, is_up, keeps, lack}
use Rattle.node_laws.proofs.Words.{lets_go, loses_power, map, need, needs, next_count, noted_by_deed, noted_by_deeds, noted_of, notified, noting}
use Rattle.node_laws.proofs.Words.{option_and_then, option_map_or, port_at, refl, sent_in_session, session_of_port, spare, subst, sym, takes_up, true}
use Rattle.node_laws.proofs.Words.{true≢false, turn_at, waiting_at, with_desk, with_port, ℕ, ◌++◌, ◌+◌, ◌-◌, ◌==◌, ◌∙◌, ◌∷◌, ◌≡◌, ◌≤◌}
use Rattle.shdlc_core.specs.declared.answers.LinkState.TheVariants.{Down}
use Rattle.node_laws.proofs.kept.Reckoned.{commit_count}
use Rattle.node_laws.proofs.steps.StepWalks.{changed_host, unless as unless_lost}
use Rattle.node_laws.proofs.telling.Accounts.{IsNoFetch, at_host}
use Rattle.node_laws.proofs.telling.Steps.{at_map, none_map}
use Rattle.trace_model.specs.declared.entry.Entry.TheVariants as entry

-- ## What waits at an end of a node, and whether it was noted as held, as the node does something to it or to another one

-- these messages wait there, and whether the first one was noted as held
abbrev pub Sees : List Message → Bool → Option Port → Type 0
Sees ms b o = (option_map_or (λ (p : Port). p.side.got) o [] ≡ ms) × (option_map_or (λ (p : Port). p.desk.holds) o false ≡ b)

abbrev pub SeesAt : ℕ → List Message → Bool → Work → Type 0
SeesAt k ms b w = Sees ms b (port_at w.ports k)

map_sees : (f : Port → Port) → ((p : Port) → (f p).desk.host ≡ p.desk.host) → ((p : Port) → (f p).side.got ≡ p.side.got)
    → ((p : Port) → (f p).desk.holds ≡ p.desk.holds) → (ports : List Port) (k : ℕ) (ms : List Message) (b : Bool) → Sees ms b (port_at ports k)
    → Sees ms b (port_at (map f ports) k)
map_sees f host got holds ports k ms b s = by_option (port_at ports k)
    (λ q. subst (Sees ms b) (sym (none_map f host ports k q)) (subst (Sees ms b) q s))
    (λ p q. let was : Sees ms b (Some p) = subst (Sees ms b) q s in
    subst (Sees ms b) (sym (at_map f host ports k p q)) (got p ∙ was.0, holds p ∙ was.1))

-- the end with another number stays as it is
pub other_stays : (j k : ℕ) (f : Port → Port) → ((p : Port) → (f p).desk.host ≡ p.desk.host) → (ports : List Port) → (j == k) ≡ false
    → port_at (with_port j f ports) k ≡ port_at ports k
other_stays j k f host ports off = by_option (port_at ports k)
    (λ q. none_map g keeps ports k q ∙ sym q)
    (λ p q. at_map g keeps ports k p q ∙ (ap (λ z. Some z) (by_test (p.desk.host == j)
    (λ e. rw e (absurd (true≢false (sym (eq-eqb j k (sym (eqb-true p.desk.host j e) ∙ eqb-true p.desk.host k (at_host ports k p q))) ∙ off))))
    (λ e. rw e refl)) ∙ sym q))
  where
    g : Port → Port
    g p = changed_if (p.desk.host == j) f p

    keeps : (p : Port) → (g p).desk.host ≡ p.desk.host
    keeps p = changed_host (p.desk.host == j) f p host

module _ (k : ℕ) (ms : List Message) (b : Bool) where
  abbrev pub Same : Work → Type 0
  Same w = SeesAt k ms b w

  pub turn_sees : (j : ℕ) (t : Turn) (w : Work) → IsNoFetch t → Same w → Same (turn_at j t w)
  turn_sees j t w n s =
      map_sees (λ p. changed_if (p.desk.host == j) (after_turn t) p) (λ p. changed_host (p.desk.host == j) (after_turn t) p (λ q. refl))
      (λ p. grind arith) (λ p. grind arith)
      w.ports k ms b s

  desk_sees : (j : ℕ) (f : Desk → Desk) (w : Work) → ((d : Desk) → (f d).host ≡ d.host) → ((d : Desk) → (f d).holds ≡ d.holds) → Same w
      → Same (with_desk j f w)
  desk_sees j f w host holds s =
      let g : Port → Port = λ p. record p { desk = f p.desk } in
      map_sees (λ p. changed_if (p.desk.host == j) g p) (λ p. changed_host (p.desk.host == j) g p (λ q. host q.desk))
      (λ p. grind arith) (λ p. grind arith) w.ports k ms b s

  notified_sees : (j : ℕ) (about : About) (message : List ℕ) (w : Work) → Same w → Same (notified j about message w)
  notified_sees j about message w s =
      desk_sees j (λ d. record d { notice = Some (record { about = about; age = 0 }) }) (turn_at j (Give (1, message)) w) (λ d. refl) (λ d. refl)
      (turn_sees j (Give (1, message)) w tt s)

  deed_sees : (h : ℕ) (d : Deed) (w : Work) → Same w → Same (done h d w)
  deed_sees h (Commits c) w s = grind arith
  deed_sees h (Sends to m) w s = turn_sees to (Give m) w tt s
  deed_sees h (Asks to message c) w s =
      notified_sees to (Waits c) message (noting (entry.Ask to message ∷ []) (turn_at c.asker SetAside w)) (turn_sees c.asker SetAside w tt s)
  deed_sees h (Releases asker) w s = turn_sees asker Release w tt s
  deed_sees h (Tells to message) w s = notified_sees to Removed message w s
  deed_sees h IsAnswered w s = desk_sees h (λ d. record d { notice = None }) w (λ d. refl) (λ d. refl) s
  deed_sees h (SetsErrors errors) w s = desk_sees h (λ d. record d { errors = errors }) w (λ d. refl) (λ d. refl) s
  deed_sees h (Orders message) w s = turn_sees h (Give (1, message)) (record w { core = record w.core { command = Some message } }) tt s
  deed_sees h _ w s = s

  pub deeds_see : (h : ℕ) (deeds : List Deed) (w : Work) → Same w → Same (all_done h deeds w)
  deeds_see h [] w s = s
  deeds_see h (d ∷ deeds) w s = unless_lost Same (all_done h deeds) (done h d w) (λ v t. deeds_see h deeds v t) (deed_sees h d w s)

  pub lets_see : (h : ℕ) (w : Work) → Same w → Same (lets_go h w)
  lets_see h w s = by_test (option_map_or (λ (p : Port). is_held p.side) (port_at w.ports h) false) (λ q. rw q (turn_sees h (Hold false) w tt s)) (λ q. rw q s)

-- ### An end with messages

-- the end where the first message waits
pub record HasFirst (ports : List Port) (h : ℕ) (m : Message) (messages : List Message) : Type 0 where
  pub port : Port
  pub here : port_at ports h ≡ Some port
  pub got : port.side.got ≡ m ∷ messages

pub has_first : (ports : List Port) (h : ℕ) (m : Message) (messages : List Message) → waiting_at ports h ≡ m ∷ messages → HasFirst ports h m messages
has_first ports h m messages e = grind arith

-- its own end, as it is changed
pub own_changed : (h : ℕ) (f : Port → Port) → ((p : Port) → (f p).desk.host ≡ p.desk.host) → (ports : List Port) (p : Port) → port_at ports h ≡ Some p
    → port_at (with_port h f ports) h ≡ Some (f p)
own_changed h f host ports p q =
    at_map (λ x. changed_if (x.desk.host == h) f x) (λ x. changed_host (x.desk.host == h) f x host) ports h p q
    ∙ ap (λ b. Some (changed_if b f p)) (at_host ports h p q)

-- ## What deeds note where each message that they send is taken

-- ### Sessions

abbrev pub session_in : Option Port → Option ℕ
session_in o = option_and_then (λ (p : Port). cond (is_up p.side.shdlc.phase) (Some p.session) None) o

pub session_map : (f : Port → Port) → ((p : Port) → (f p).desk.host ≡ p.desk.host) → ((p : Port) → session_in (Some (f p)) ≡ session_in (Some p))
    → (ports : List Port) (k : ℕ) → session_of_port (map f ports) k ≡ session_of_port ports k
session_map f host same ports k = by_option (port_at ports k)
    (λ q. ap session_in (none_map f host ports k q) ∙ sym (ap session_in q))
    (λ p q. ap session_in (at_map f host ports k p q) ∙ (same p ∙ sym (ap session_in q)))

pub turn_sessions : (j : ℕ) (t : Turn) (w : Work) (k : ℕ) → session_of_port (turn_at j t w).ports k ≡ session_of_port w.ports k
turn_sessions j t w k =
    session_map (λ p. changed_if (p.desk.host == j) (after_turn t) p) (λ p. changed_host (p.desk.host == j) (after_turn t) p (λ q. refl))
    (λ p. grind arith) w.ports k

desk_sessions : (j : ℕ) (f : Desk → Desk) (w : Work) → ((d : Desk) → (f d).host ≡ d.host) → (k : ℕ)
    → session_of_port (with_desk j f w).ports k ≡ session_of_port w.ports k
desk_sessions j f w host k =
    let g : Port → Port = λ p. record p { desk = f p.desk } in
    session_map (λ p. changed_if (p.desk.host == j) g p) (λ p. changed_host (p.desk.host == j) g p (λ q. host q.desk))
    (λ p. grind arith) w.ports k

notified_sessions : (j : ℕ) (about : About) (message : List ℕ) (w : Work) (k : ℕ)
    → session_of_port (notified j about message w).ports k ≡ session_of_port w.ports k
notified_sessions j about message w k =
    desk_sessions j (λ d. record d { notice = Some (record { about = about; age = 0 }) }) (turn_at j (Give (1, message)) w) (λ d. refl) k
    ∙ turn_sessions j (Give (1, message)) w k

pub commit_sessions : (c : Command) (w : Work) (k : ℕ) → session_of_port (commit c w).ports k ≡ session_of_port w.ports k
commit_sessions c w k = by_test (goes_in c w) (λ q. rw q refl) (λ q. rw q refl)

deed_sessions : (h : ℕ) (d : Deed) (w : Work) (k : ℕ) → session_of_port (done h d w).ports k ≡ session_of_port w.ports k
deed_sessions h (Commits c) w k = commit_sessions c w k
deed_sessions h (Sends to m) w k = turn_sessions to (Give m) w k
deed_sessions h (Asks to message c) w k =
    notified_sessions to (Waits c) message (noting (entry.Ask to message ∷ []) (turn_at c.asker SetAside w)) k ∙ turn_sessions c.asker SetAside w k
deed_sessions h (Releases asker) w k = turn_sessions asker Release w k
deed_sessions h (Tells to message) w k = notified_sessions to Removed message w k
deed_sessions h IsAnswered w k = desk_sessions h (λ d. record d { notice = None }) w (λ d. refl) k
deed_sessions h (SetsErrors errors) w k = desk_sessions h (λ d. record d { errors = errors }) w (λ d. refl) k
deed_sessions h (Orders message) w k = turn_sessions h (Give (1, message)) (record w { core = record w.core { command = Some message } }) k
deed_sessions h _ w k = refl

-- ### Messages

-- what is noted of a message that an end takes where it is up
given_so : (core : Core) (to : ℕ) (m : Message) (ports : List Port) → TakesMessage ports to m
    → option_map_or (noted_of core (Give m)) (port_at ports to) [] ≡ sent_in_session core.node (session_of_port ports) to m
given_so core to m ports takes = go (port_at ports to) refl
  where
    go : (o : Option Port) → port_at ports to ≡ o
        → option_map_or (noted_of core (Give m)) (port_at ports to) [] ≡ sent_in_session core.node (session_of_port ports) to m
    go None q = rw q refl
    go (Some p) q = by p.side.shdlc.phase refl
      where
        by : (s : LinkState) → p.side.shdlc.phase ≡ s
            → option_map_or (noted_of core (Give m)) (port_at ports to) [] ≡ sent_in_session core.node (session_of_port ports) to m
        by Up e = let none : give_refusal p.side m ≡ None = takes p q e in rw (q, none, e, (eqb-true p.desk.host to (at_host ports to p q))) refl
        by Down e = rw (q, e) refl
        by Waiting e = rw (q, e) refl

-- ### One deed after another

sent_same : (node : ℕ) (s t : ℕ → Option ℕ) (h : ℕ) (m : Message) → s h ≡ t h → sent_in_session node s h m ≡ sent_in_session node t h m
sent_same node s t h m e = rw e refl

-- what is noted of a deed is the first of the reply
module _ (sessions : ℕ → Option ℕ) (h : ℕ) where
  -- a message goes to an end
  sends_so : (to : ℕ) (m : Message) (core : Core) (ports : List Port) → ((k : ℕ) → session_of_port ports k ≡ sessions k) → TakesMessage ports to m
      → option_map_or (noted_of core (Give m)) (port_at ports to) [] ≡ sent_in_session core.node sessions to m
  sends_so to m core ports same takes = given_so core to m ports takes ∙ sent_same core.node (session_of_port ports) sessions to m (same to)

  -- the same is noted before both
  before_both : (b : Bool) (node : ℕ) (p noted reply : List Entry) → IsReplyNoted b node noted reply → IsReplyNoted b node (p ++ noted) (p ++ reply)
  before_both false node p noted reply a = ap (λ es. p ++ es) a
  before_both true node p noted reply a = (
    p ++ a.0,
    a.1,
    a.2,
    ap (λ es. p ++ es) a.3 ∙ sym (append_assoc p a.0 (entry.Command node a.1 ∷ a.2)),
    ap (λ es. p ++ es) a.4 ∙ sym (append_assoc p a.0 (entry.Command node a.1 ∷ entry.Cut node ∷ [])),
  )

  onward : (d : Deed) (deeds : List Deed) (w : Work) (node : ℕ) (p reply : List Entry) → (done h d w).cut ≡ false → noted_by_deed h d w ≡ p
      → IsReplyNoted (all_done h deeds (done h d w)).cut node (noted_by_deeds h deeds (done h d w)) reply
      → IsReplyNoted (all_done h (d ∷ deeds) w).cut node (noted_by_deeds h (d ∷ deeds) w) (p ++ reply)
  onward d deeds w node p reply on is a =
      let both : IsReplyNoted (all_done h deeds (done h d w)).cut node (p ++ noted_by_deeds h deeds (done h d w)) (p ++ reply) =
      before_both (all_done h deeds (done h d w)).cut node p (noted_by_deeds h deeds (done h d w)) reply a in
      rw (on, is) both

  abbrev Noted : List Deed → Work → Type 0
  Noted deeds w = IsReplyNoted (all_done h deeds w).cut w.core.node (noted_by_deeds h deeds w)
      (entries_of_reply w.core.node sessions h (count_of w.core.journal) deeds)

  -- a command is committed
  commits_so : (c : Command) (deeds : List Deed) (w : Work)
      → CountsCommands w.core.journal w.core.tables (Commits c ∷ deeds)
      → ((commit c w).cut ≡ false → CountsCommands (commit c w).core.journal (commit c w).core.tables deeds → Noted deeds (commit c w))
      → w.cut ≡ false → Noted (Commits c ∷ deeds) w
  commits_so c deeds w counts later w_on = by_test (goes_in c w)
      (λ q. rw (ap (λ (x : Work). x.cut) (lost q), q) ([], c, rest, refl, refl))
      (λ q. let on : v.cut ≡ false = ap (λ (x : Work). x.cut) (kept q) ∙ w_on in
      let C : Work → Type 0 = λ x. CountsCommands x.core.journal x.core.tables deeds in
      let N : ℕ → ℕ → Type 0 =
      λ n k. IsReplyNoted (all_done h deeds v).cut n (noted_by_deeds h deeds v) (entries_of_reply n sessions h k deeds) in
      let node : v.core.node ≡ w.core.node = ap (λ (x : Work). x.core.node) (kept q) in
      onward (Commits c) deeds w w.core.node (entry.Command w.core.node c ∷ []) rest on (rw q refl)
      (subst (λ k. N w.core.node k) (grind arith) (subst (λ n. N n (count_of v.core.journal)) node (later on (subst C (sym (kept q)) counts.1)))))
    where
      v : Work
      v = commit c w

      writes : List Write
      writes = commit_writes w.core.journal w.core.tables (body_of c)

      begun : Work
      begun = noting (entry.Command w.core.node c ∷ []) w

      lost : goes_in c w ≡ true → v ≡ loses_power writes begun
      lost q = rw q refl

      kept : goes_in c w ≡ false → v ≡ keeps c writes begun
      kept q = rw q refl

      rest : List Entry
      rest = entries_of_reply w.core.node sessions h (next_count (count_of w.core.journal)) deeds

  -- deeds, one after another
  pub noted_so : (deeds : List Deed) (w : Work) → w.cut ≡ false → ((k : ℕ) → session_of_port w.ports k ≡ sessions k) → AreTaken h deeds w
      → CountsCommands w.core.journal w.core.tables deeds → Noted deeds w
  noted_so [] w on same t c = rw on refl
  noted_so (Commits x ∷ deeds) w on same t c =
      commits_so x deeds w c (λ o k. noted_so deeds (commit x w) o (λ n. commit_sessions x w n ∙ same n) t.1 k) on
  noted_so (Sends to m ∷ deeds) w on same t c =
      onward (Sends to m) deeds w w.core.node _ _ on (sends_so to m w.core w.ports same t.0)
      (noted_so deeds (done h (Sends to m) w) on (λ n. deed_sessions h (Sends to m) w n ∙ same n) t.1 c)
  noted_so (SaysOk ∷ deeds) w on same t c =
      onward SaysOk deeds w w.core.node (entry.AnyOk w.core.node (count_of w.core.journal) ∷ []) _ on refl
      (noted_so deeds (done h SaysOk w) on same t.1 c)
  noted_so (Asks to message x ∷ deeds) w on same t c =
      let aside : Work = turn_at x.asker SetAside w in
      onward (Asks to message x) deeds w w.core.node _ _ on
      (ap (λ es. entry.Ask to message ∷ es) (sends_so to (1, message) w.core aside.ports (λ n. turn_sessions x.asker SetAside w n ∙ same n) t.0))
      (noted_so deeds (done h (Asks to message x) w) on (λ n. deed_sessions h (Asks to message x) w n ∙ same n) t.1 c)
  noted_so (Releases asker ∷ deeds) w on same t c =
      onward (Releases asker) deeds w w.core.node [] _ on refl
      (noted_so deeds (done h (Releases asker) w) on (λ n. deed_sessions h (Releases asker) w n ∙ same n) t.1 c)
  noted_so (Tells to message ∷ deeds) w on same t c =
      onward (Tells to message) deeds w w.core.node _ _ on (sends_so to (1, message) w.core w.ports same t.0)
      (noted_so deeds (done h (Tells to message) w) on (λ n. deed_sessions h (Tells to message) w n ∙ same n) t.1 c)
  noted_so (IsAnswered ∷ deeds) w on same t c =
      onward IsAnswered deeds w w.core.node [] _ on refl
      (noted_so deeds (done h IsAnswered w) on (λ n. deed_sessions h IsAnswered w n ∙ same n) t.1 c)
  noted_so (Drops pid ∷ deeds) w on same t c =
      onward (Drops pid) deeds w w.core.node (entry.Dropped (end_of_node w.core h) pid ∷ []) _ on refl
      (noted_so deeds (done h (Drops pid) w) on same t.1 c)
  noted_so (SetsErrors errors ∷ deeds) w on same t c =
      onward (SetsErrors errors) deeds w w.core.node [] _ on refl
      (noted_so deeds (done h (SetsErrors errors) w) on (λ n. deed_sessions h (SetsErrors errors) w n ∙ same n) t.1 c)
  noted_so (Orders message ∷ deeds) w on same t c =
      onward (Orders message) deeds w w.core.node _ _ on (sends_so h (1, message) w.core w.ports same t.0)
      (noted_so deeds (done h (Orders message) w) on (λ n. deed_sessions h (Orders message) w n ∙ same n) t.1 c)
  noted_so (Hears ∷ deeds) w on same t c = onward Hears deeds w w.core.node [] _ on refl (noted_so deeds (done h Hears w) on same t.1 c)
  noted_so (GoesOn i ∷ deeds) w on same t c = onward (GoesOn i) deeds w w.core.node [] _ on refl (noted_so deeds (done h (GoesOn i) w) on same t.1 c)
  noted_so (Ends e ∷ deeds) w on same t c = onward (Ends e) deeds w w.core.node (e ∷ []) _ on refl (noted_so deeds (done h (Ends e) w) on same t.1 c)

-- ## Where no deed lacks room, and deeds give each end one message or block at most, each message is taken

-- ### Blocks

abbrev spare_in : Option Port → ℕ
spare_in o = option_map_or (λ (p : Port). spare p.side) o 0

abbrev spare_of : List Port → ℕ → ℕ
spare_of ports h = spare_in (port_at ports h)

has_room : (ports : List Port) (h : ℕ) (m : Message) → need m.1 ≤ spare_of ports h → TakesMessage ports h m
has_room ports h m room p here up = grind arith

-- ### Blocks as deeds are done

more_spare : (f : Port → Port) → ((p : Port) → (f p).desk.host ≡ p.desk.host) → ((p : Port) → spare p.side ≤ spare (f p).side) → (ports : List Port) (k : ℕ)
    → spare_of ports k ≤ spare_of (map f ports) k
more_spare f host more ports k = by_option (port_at ports k)
    (λ q. omega (arith, ap spare_in q))
    (λ p q. omega (arith, ap spare_in q, ap spare_in (at_map f host ports k p q), more p))

changed_more : (b : Bool) (f : Port → Port) (p : Port) → spare p.side ≤ spare (f p).side → spare p.side ≤ spare (changed_if b f p).side
changed_more b f p q = grind arith

same_most : (n : ℕ) → n ≤ n
same_most n = omega arith

desk_spare : (j : ℕ) (f : Desk → Desk) (w : Work) → ((d : Desk) → (f d).host ≡ d.host) → (k : ℕ) → spare_of w.ports k ≤ spare_of (with_desk j f w).ports k
desk_spare j f w host k =
    let g : Port → Port = λ p. record p { desk = f p.desk } in
    more_spare (λ p. changed_if (p.desk.host == j) g p) (λ p. changed_host (p.desk.host == j) g p (λ q. host q.desk))
    (λ p. changed_more (p.desk.host == j) g p (same_most (spare p.side))) w.ports k

released : (used aside : ℕ) → 128 - (used + aside) ≤ 128 - (used + (aside - 1))
released used aside = omega arith

release_spare : (j : ℕ) (w : Work) (k : ℕ) → spare_of w.ports k ≤ spare_of (turn_at j Release w).ports k
release_spare j w k =
    more_spare (λ p. changed_if (p.desk.host == j) (after_turn Release) p)
    (λ p. changed_host (p.desk.host == j) (after_turn Release) p (λ q. refl))
    (λ p. changed_more (p.desk.host == j) (after_turn Release) p (released (in_use p.side) p.side.aside)) w.ports k

fetch_spare : (j : ℕ) (w : Work) (k : ℕ) → spare_of w.ports k ≤ spare_of (turn_at j FetchMessage w).ports k
fetch_spare j w k =
    more_spare (λ p. changed_if (p.desk.host == j) (after_turn FetchMessage) p)
    (λ p. changed_host (p.desk.host == j) (after_turn FetchMessage) p (λ q. refl))
    (λ p. changed_more (p.desk.host == j) (after_turn FetchMessage) p (same_most (spare p.side))) w.ports k

other_spare : (j : ℕ) (t : Turn) (w : Work) (k : ℕ) → (j == k) ≡ false → spare_of w.ports k ≤ spare_of (turn_at j t w).ports k
other_spare j t w k off = omega (arith, ap spare_in (other_stays j k (after_turn t) (λ p. refl) w.ports off))

notified_spare : (j : ℕ) (about : About) (message : List ℕ) (w : Work) (k : ℕ) → (j == k) ≡ false
    → spare_of w.ports k ≤ spare_of (notified j about message w).ports k
notified_spare j about message w k off =
    let f : Desk → Desk = λ d. record d { notice = Some (record { about = about; age = 0 }) } in
    let one = other_spare j (Give (1, message)) w k off in
    let two = desk_spare j f (turn_at j (Give (1, message)) w) (λ d. refl) k in omega arith

commit_spare : (c : Command) (w : Work) (k : ℕ) → spare_of w.ports k ≤ spare_of (commit c w).ports k
commit_spare c w k = by_test (goes_in c w) (λ q. rw q (same_most (spare_of w.ports k))) (λ q. rw q (same_most (spare_of w.ports k)))

lack_first : (ports : List Port) (k n : ℕ) (later : List (ℕ × ℕ)) → lack ports ((k, n) ∷ later) ≡ None → (n ≤ spare_of ports k) × (lack ports later ≡ None)
lack_first ports k n later none = grind arith

module _ (h : ℕ) (start : List Port) where
  -- the ends to which nothing was given have at least what was spare as the deeds began
  abbrev HasKept : List ℕ → List Port → Type 0
  HasKept given ports = (k : ℕ) → IsNoneOf k given → spare_of start k ≤ spare_of ports k

  kept_then : (given : List ℕ) (ps qs : List Port) → ((k : ℕ) → spare_of ps k ≤ spare_of qs k) → HasKept given ps → HasKept given qs
  kept_then given ps qs more a k none = let one = a k none in let two = more k in omega arith

  kept_more : (j : ℕ) (given : List ℕ) (ps qs : List Port) → ((k : ℕ) → (j == k) ≡ false → spare_of ps k ≤ spare_of qs k) → HasKept given ps
      → HasKept (j ∷ given) qs
  kept_more j given ps qs more a k none = let one = a k none.1 in let two = more k none.0 in omega arith

  takes : (to : ℕ) (m : Message) (given : List ℕ) (ports : List Port) → IsNoneOf to given → HasKept given ports → need m.1 ≤ spare_of start to
      → TakesMessage ports to m
  takes to m given ports none a room = let more = a to none in has_room ports to m (omega arith)

  all_taken : (deeds : List Deed) (given : List ℕ) (w : Work) → GiveOnce h given deeds → lack start (needs h deeds) ≡ None → HasKept given w.ports
      → AreTaken h deeds w
  all_taken [] given w apart none a = tt
  all_taken (Commits c ∷ deeds) given w apart none a =
      (tt, all_taken deeds given (commit c w) apart none (kept_then given w.ports (commit c w).ports (commit_spare c w) a))
  all_taken (Sends to m ∷ deeds) given w apart none a =
      let parts = lack_first start to (need m.1) (needs h deeds) none in
      let v : Work = turn_at to (Give m) w in (
        takes to m given w.ports apart.0 a parts.0,
        all_taken deeds (to ∷ given) v apart.1 parts.1 (kept_more to given w.ports v.ports (other_spare to (Give m) w) a),
      )
  all_taken (SaysOk ∷ deeds) given w apart none a = (tt, all_taken deeds given (done h SaysOk w) apart none a)
  all_taken (Asks to message c ∷ deeds) given w apart none a =
      let parts = lack_first start to (need message) (needs h deeds) (lack_first start c.asker 1 ((to, need message) ∷ needs h deeds) none).1 in
      let aside : Work = turn_at c.asker SetAside w in
      let told : Work = noting (entry.Ask to message ∷ []) aside in
      let v : Work = notified to (Waits c) message told in
      let kept : HasKept (c.asker ∷ given) aside.ports = kept_more c.asker given w.ports aside.ports (other_spare c.asker SetAside w) a in (
        takes to (1, message) (c.asker ∷ given) aside.ports apart.1 kept parts.0,
        all_taken deeds (to ∷ c.asker ∷ given) v apart.2 parts.1
            (kept_more to (c.asker ∷ given) aside.ports v.ports (notified_spare to (Waits c) message told) kept),
      )
  all_taken (Releases asker ∷ deeds) given w apart none a =
      (tt, all_taken deeds given (turn_at asker Release w) apart none (kept_then given w.ports (turn_at asker Release w).ports (release_spare asker w) a))
  all_taken (Tells to message ∷ deeds) given w apart none a =
      let parts = lack_first start to (need message) (needs h deeds) none in
      let v : Work = notified to Removed message w in (
        takes to (1, message) given w.ports apart.0 a parts.0,
        all_taken deeds (to ∷ given) v apart.1 parts.1 (kept_more to given w.ports v.ports (notified_spare to Removed message w) a),
      )
  all_taken (IsAnswered ∷ deeds) given w apart none a = (
    tt,
    all_taken deeds given (done h IsAnswered w) apart none
        (kept_then given w.ports (done h IsAnswered w).ports (desk_spare h (λ d. record d { notice = None }) w (λ d. refl)) a),
  )
  all_taken (Drops pid ∷ deeds) given w apart none a = (tt, all_taken deeds given (done h (Drops pid) w) apart none a)
  all_taken (SetsErrors errors ∷ deeds) given w apart none a = (
    tt,
    all_taken deeds given (done h (SetsErrors errors) w) apart none
        (kept_then given w.ports (done h (SetsErrors errors) w).ports (desk_spare h (λ d. record d { errors = errors }) w (λ d. refl)) a),
  )
  all_taken (Orders message ∷ deeds) given w apart none a =
      let parts = lack_first start h (need message) (needs h deeds) none in
      let v : Work = record w { core = record w.core { command = Some message } } in (
        takes h (1, message) given w.ports apart.0 a parts.0,
        all_taken deeds (h ∷ given) (turn_at h (Give (1, message)) v) apart.1 parts.1
            (kept_more h given w.ports (turn_at h (Give (1, message)) v).ports (other_spare h (Give (1, message)) v) a),
      )
  all_taken (Hears ∷ deeds) given w apart none a = (tt, all_taken deeds given (done h Hears w) apart none a)
  all_taken (GoesOn i ∷ deeds) given w apart none a = (tt, all_taken deeds given (done h (GoesOn i) w) apart none a)
  all_taken (Ends e ∷ deeds) given w apart none a = (tt, all_taken deeds given (done h (Ends e) w) apart none a)

-- ## The commands of a reply are counted one by one, and its entries are made of sessions and a count

counts_none : (s : State) (t : HciTables) (command : Option (List ℕ)) (init : Option Init) (deeds : List Deed) → MayBeDone None command init deeds
    → CountsCommands s t deeds
counts_none s t command init [] may = tt
counts_none s t command init (Commits c ∷ deeds) may = absurd may.0
counts_none s t command init (Asks to message c ∷ deeds) may = absurd may.0
counts_none s t command init (Orders message ∷ deeds) may = counts_none s t (Some message) init deeds may
counts_none s t command init (Hears ∷ deeds) may = counts_none s t None init deeds may
counts_none s t command init (GoesOn i ∷ deeds) may = counts_none s t command (Some i) deeds may
counts_none s t command init (Ends e ∷ deeds) may = counts_none s t command None deeds may.1
counts_none s t command init (_ ∷ deeds) may = counts_none s t command init deeds may

module _ (content : List ℕ) (s : State) (t : HciTables) (knows : Knows content s t) (are : AreTables t) (recordable : IsRecordable t) where
  pub counts_one : (command : Option (List ℕ)) (init : Option Init) (deeds : List Deed) → MayBeDone (Some s) command init deeds → CountsCommands s t deeds
  counts_one command init [] may = tt
  counts_one command init (Commits c ∷ deeds) may = (
    commit_count content s t c knows are recordable may.0.0 may.0.1,
    counts_none (committed s t (body_of c)) (apply t c) command init deeds may.1,
  )
  counts_one command init (Asks to message c ∷ deeds) may = counts_none s t command init deeds may.1
  counts_one command init (Orders message ∷ deeds) may = counts_one (Some message) init deeds may
  counts_one command init (Hears ∷ deeds) may = counts_one None init deeds may
  counts_one command init (GoesOn i ∷ deeds) may = counts_one command (Some i) deeds may
  counts_one command init (Ends e ∷ deeds) may = counts_one command None deeds may.1
  counts_one command init (_ ∷ deeds) may = counts_one command init deeds may

-- ### The reply to a message

pub taken_at_once : (h : ℕ) (deeds : List Deed) (w : Work) → GiveOnce h [] deeds → lack w.ports (needs h deeds) ≡ None → AreTaken h deeds w
taken_at_once h deeds w apart none = all_taken h w.ports deeds [] w apart none (λ k free. omega arith)

pub reply_noted : (h : ℕ) (m : Message) (deeds : List Deed) (w : Work) → w.cut ≡ false → GiveOnce h [] deeds → lack w.ports (needs h deeds) ≡ None
    → CountsCommands w.core.journal w.core.tables deeds
    → IsReplyNoted (handles h m deeds w).cut w.core.node (noted_by_deeds h deeds (takes_up h m w))
    (entries_of_reply w.core.node (session_of_port w.ports) h (count_of w.core.journal) deeds)
reply_noted h m deeds w on apart none counts =
    noted_so (session_of_port w.ports) h deeds (takes_up h m w) on same
    (all_taken h w.ports deeds [] (takes_up h m w) apart none kept) counts
  where
    told : Work
    told = noting (entry.Turn (end_of_node w.core h) m.0 m.1 ∷ []) w

    fetched : Work
    fetched = turn_at h FetchMessage told

    same : (k : ℕ) → session_of_port (takes_up h m w).ports k ≡ session_of_port w.ports k
    same k = desk_sessions h (λ d. record d { holds = false }) fetched (λ d. refl) k ∙ turn_sessions h FetchMessage told k

    kept : (k : ℕ) → IsNoneOf k [] → spare_of w.ports k ≤ spare_of (takes_up h m w).ports k
    kept k free =
        let one = fetch_spare h told k in
        let two = desk_spare h (λ d. record d { holds = false }) fetched (λ d. refl) k in omega arith
