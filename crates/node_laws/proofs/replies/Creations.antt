-- A controller gives each end one message at most, its notices tell of its creations, and what is noted of a reply is what its deeds note.
use Rattle.node_laws.proofs.Words.{About, AllByRecursion, AllReach, Answer, AreDifferent, AreHosts, AreNamed, AreTables, Ask, Asks, Bool, Command, Commit}
use Rattle.node_laws.proofs.Words.{Commits, Core, Create, Creation, Decision, Deed, Drops, Ends, EndsAreRead, Entry, Err, Forgotten, GiveOnce, GoesOn, Hears}
use Rattle.node_laws.proofs.Words.{IfAwaited, IsAbout, IsAnswered, IsAwaited, IsCommand, IsKeptNotice, IsNoneOf, IsNoticeOf, IsReadSo, IsResponse, IsRightAbout}
use Rattle.node_laws.proofs.Words.{IsRightNotice, IsTrue, JoinTwo, KeepsInStep, List, Message, MessageFault, MessageKind, None, Notice, Ok, Option, Orders}
use Rattle.node_laws.proofs.Words.{PipeRow, Port, Releases, Removed, Result, SaysOk, Sends, SetsErrors, Some, Tells, Waits, Work, [], about_at, about_read}
use Rattle.node_laws.proofs.Words.{answer_of, ap, ap₂, arith, asked_at, asking_in, asks_for, body_in, by_option, by_test, cases_Bool, commit_deeds, cond}
use Rattle.node_laws.proofs.Words.{controller_deeds, creation_deeds, creation_in, creation_of, creation_read, decided, decision_deeds, deeds_by_relay, end_c}
use Rattle.node_laws.proofs.Words.{ends_of, entries_of_reply, eq-eqb, eqb, eqb-true, false, finds_room, goes_through, has, has_link, header_of, hosts_of_ends}
use Rattle.node_laws.proofs.Words.{hosts_where, if_notice, inl, inr, instruction_in, is_one_of, kind_deeds, map, next_count, notice_deeds, notice_in}
use Rattle.node_laws.proofs.Words.{option_and_then, option_map, option_map_or, own_deeds, own_gate, own_view, pipe_named_in, port_at, refl, relayed_to}
use Rattle.node_laws.proofs.Words.{same_bytes, sent_in_session, served_at, session_now, session_of_port, subst, sym, true, true≢false, unless_asking, view_for}
use Rattle.node_laws.proofs.Words.{view_of, ℕ, ◌&&◌, ◌++◌, ◌||◌, ◌∙◌, ◌∷◌, ◌≡◌, ◌≤◌, ◌⊎◌}
use Rattle.hcp_packet.specs.declared.MessageKind.TheVariants.{Command as IsCommandKind, Event as IsEvent}
use Rattle.node_machine.specs.Controller.{about_of}
use Rattle.node_laws.proofs.creations.Outcomes.{asked_of, desks_wait, one_of, waits}
use Rattle.node_laws.proofs.links.Noticing.{UpAt}
use Rattle.node_laws.proofs.notices.Telling.{AreRight, IsShort, MayTell, Outcome, controller_outcome}
use Rattle.node_laws.proofs.notices.Telling.Outcome.{IsHeard, Leaves}
use Rattle.node_laws.proofs.read_steps.Knowing.{notice_is}
use Rattle.node_laws.proofs.read_steps.Reading.{names_read}
use Rattle.node_laws.proofs.steps.StepWalks.{at_port}
use Rattle.node_laws.proofs.telling.Accounts.{at_host}
use Rattle.gate_answers.specs.declared.response.Response.TheVariants as response
use Rattle.trace_model.specs.declared.entry.Entry.TheVariants as entry

-- ## A controller gives each end one message or one block at most as it handles a message, and sends to ends that are up

-- what a deed sends itself goes to an end that is up, and it begins and ends no init
abbrev pub SendsOver : List Port → Deed → Type 0
SendsOver ports (Sends to m) = has_link ports to ≡ true
SendsOver ports (Orders message) = ⊥
SendsOver ports Hears = ⊥
SendsOver ports (GoesOn i) = ⊥
SendsOver ports (Ends e) = ⊥
SendsOver ports _ = Unit {0}

-- hosts are told by notices last, and one message is sent or one host asked before
abbrev pub FirstSent : Bool → List Deed → Type 0
FirstSent b [] = Unit {0}
FirstSent b (Sends to m ∷ deeds) = (b ≡ true) × FirstSent false deeds
FirstSent b (Asks to message c ∷ deeds) = (b ≡ true) × FirstSent false deeds
FirstSent b (Tells to message ∷ deeds) = FirstSent false deeds
FirstSent b (_ ∷ deeds) = FirstSent b deeds

module _ (ports : List Port) (h : ℕ) where
  abbrev Fair : List Deed → Type 0
  Fair deeds = FirstSent true deeds × AllByRecursion (SendsOver ports) deeds

  told_first : (b : Bool) (notice : List ℕ) (hosts : List ℕ) → FirstSent b (map (λ y. Tells y notice) hosts)
  told_first b notice [] = tt
  told_first b notice (y ∷ hosts) = told_first false notice hosts

  told_over : (notice : List ℕ) (hosts : List ℕ) → AllByRecursion (SendsOver ports) (map (λ y. Tells y notice) hosts)
  told_over notice [] = tt
  told_over notice (y ∷ hosts) = (tt, told_over notice hosts)

  commit_fair : has_link ports h ≡ true → (room : Bool) (pipe : ℕ) (c : Command) (answer notice : List ℕ) (hosts : List ℕ)
      → Fair (commit_deeds room h pipe c answer (map (λ y. Tells y notice) hosts))
  commit_fair up true pipe c answer notice hosts = ((refl, told_first false notice hosts), (tt, (up, (tt, told_over notice hosts))))
  commit_fair up false pipe c answer notice hosts = ((refl, tt), (up, tt))

  decision_fair : has_link ports h ≡ true → (core : Core) (pipe : ℕ) (d : Decision) → Fair (decision_deeds (own_view core) h pipe d)
  decision_fair up core pipe (Answer answer) = ((refl, tt), (up, tt))
  decision_fair up core pipe (Commit c answer tell notice) = commit_fair up (finds_room core c) pipe c answer.items notice.items (hosts_where (has tell))
  decision_fair up core pipe (Ask asked notice c answer) = ((refl, tt), (tt, tt))

  creation_fair : (core : Core) (code : ℕ) (o : Option Creation) → ((c : Creation) → o ≡ Some c → has_link ports c.asker ≡ true)
      → Fair (creation_deeds (own_view core) code o)
  creation_fair core code o askers = grind arith

  module _ (core : Core) (askers : (p : Port) (c : Creation) → port_at ports h ≡ Some p → asked_at p ≡ Some c → has_link ports c.asker ≡ true) where
    served_fair : has_link ports h ≡ true → (pipe instruction : ℕ) (body : List ℕ) (gate : Option ℕ)
        → Fair (served_at (own_view core) (view_for core.tables ports h) h pipe instruction body gate)
    served_fair up pipe instruction body None = decision_fair up core pipe (decided core.tables (view_for core.tables ports h) h pipe instruction body)
    served_fair up pipe instruction body (Some gate) = grind arith

    asking_fair : has_link ports h ≡ true → (m : Message) (instruction : ℕ) (asks : Bool) → Fair (unless_asking (view_of core ports) h m instruction asks)
    asking_fair up m instruction true = (tt, (tt, tt))
    asking_fair up m instruction false =
        served_fair up m.0 instruction (body_in m.1) (cond (goes_through core.tables h m.0 instruction) (own_gate core.tables h m.0) None)

    response_fair : (code : ℕ) (o : Option Port) → port_at ports h ≡ o → Fair (notice_deeds (own_view core) code (about_at o))
    response_fair code None here = (tt, (tt, tt))
    response_fair code (Some p) here = by_option p.desk.notice
        (λ is. rw is (tt, (tt, tt)))
        (λ n is. rw is (creation_fair core code (creation_in (Some n)) (λ c q. askers p c here (ap creation_in is ∙ q))))

    notices_fair : (m : Message) (code : ℕ) (b : Bool) → Fair (if_notice (view_of core ports) h m code b)
    notices_fair m code true = response_fair code (port_at ports h) refl
    notices_fair m code false = (tt, (tt, tt))

    kind_fair : has_link ports h ≡ true → (m : Message) (header : Result (MessageKind × ℕ) MessageFault) → Fair (kind_deeds (view_of core ports) h m header)
    kind_fair up m (Ok (IsCommandKind, instruction)) = asking_fair up m instruction (eqb m.0 1 && asks_for ports h)
    kind_fair up m (Ok (IsEvent, instruction)) = grind arith
    kind_fair up m (Ok (IsResponse, code)) = notices_fair m code (eqb m.0 1)
    kind_fair up m (Err fault) = (tt, (tt, tt))

    own_fair : (m : Message) (b : Bool) → has_link ports h ≡ b → Fair (own_deeds (view_of core ports) h m b)
    own_fair m true up = kind_fair up m (header_of m.1)
    own_fair m false down = (tt, (tt, tt))

    by_relay_fair : (m : Message) (o : Option ℕ) → Fair (deeds_by_relay (view_of core ports) h m o)
    by_relay_fair m (Some other) = grind arith
    by_relay_fair m None = own_fair m (has_link ports h) refl

    pub controller_sends : (m : Message)
        → FirstSent true (controller_deeds (view_of core ports) h m) × AllByRecursion (SendsOver ports) (controller_deeds (view_of core ports) h m)
    controller_sends m = by_relay_fair m (relayed_to core.tables h m)

-- ### One message to each end

none_of : (k : ℕ) (given : List ℕ) → given ≡ [] → IsNoneOf k given
none_of k given none = grind arith

may_apart : (h : ℕ) (deeds : List Deed) (given : List ℕ) (b : Bool) → (b ≡ true → given ≡ []) → (F : ℕ → List ℕ → Type 0)
    → ((x : ℕ) (n : List ℕ) → F x n → IsNoneOf x given) → ((x : ℕ) → MayTell x (F x) deeds) → FirstSent b deeds → GiveOnce h given deeds
may_apart h [] given b first F free may sent = tt
may_apart h (Commits c ∷ deeds) given b first F free may sent = may_apart h deeds given b first F free (λ x. (may x).1) sent
may_apart h (Sends to m ∷ deeds) given b first F free may sent = (
  none_of to given (first sent.0),
  may_apart h deeds (to ∷ given) false (λ z. absurd (true≢false (sym z))) (λ x n. (eqb to x ≡ false) × F x n) (λ x n f. (f.0, free x n f.1))
      (λ x. (may x).1) sent.1,
)
may_apart h (SaysOk ∷ deeds) given b first F free may sent = may_apart h deeds given b first F free may sent
may_apart h (Asks to message c ∷ deeds) given b first F free may sent = (
  none_of c.asker given (first sent.0),
  ((may to).1.else, none_of to given (first sent.0)),
  may_apart h deeds (to ∷ c.asker ∷ given) false (λ z. absurd (true≢false (sym z))) (λ x n. ⊥) (λ x n f. absurd f) (λ x. (may x).2) sent.1,
)
may_apart h (Releases asker ∷ deeds) given b first F free may sent = may_apart h deeds given b first (λ x n. ⊥) (λ x n f. absurd f) may sent
may_apart h (Tells to message ∷ deeds) given b first F free may sent = (
  free to message ((may to).0 (eq-eqb to to refl)),
  may_apart h deeds (to ∷ given) false (λ z. absurd (true≢false (sym z))) (λ x n. (eqb to x ≡ false) × F x n) (λ x n f. (f.0, free x n f.1))
      (λ x. (may x).2) sent,
)
may_apart h (Drops pid ∷ deeds) given b first F free may sent = may_apart h deeds given b first F free may sent
may_apart h (SetsErrors errors ∷ deeds) given b first F free may sent = may_apart h deeds given b first F free may sent
may_apart h (_ ∷ deeds) given b first F free may sent = absurd (may 0)

-- what may be told, but for a notice that is answered first
abbrev MayFrom : ℕ → List Deed → Type 0
MayFrom x (IsAnswered ∷ deeds) = MayTell x IsShort deeds
MayFrom x deeds = MayTell x IsShort deeds

may_from : (x : ℕ) (deeds : List Deed) → MayTell x IsShort deeds → MayFrom x deeds
may_from x deeds may = grind arith

from_apart : (h : ℕ) (deeds : List Deed) → ((x : ℕ) → MayFrom x deeds) → FirstSent true deeds → GiveOnce h [] deeds
from_apart h [] may sent = tt
from_apart h (IsAnswered ∷ deeds) may sent = may_apart h deeds [] true (λ z. refl) (λ x n. IsShort n) (λ x n f. tt) may sent
from_apart h (Commits c ∷ deeds) may sent = may_apart h (Commits c ∷ deeds) [] true (λ z. refl) (λ x n. IsShort n) (λ x n f. tt) may sent
from_apart h (Sends to m ∷ deeds) may sent = may_apart h (Sends to m ∷ deeds) [] true (λ z. refl) (λ x n. IsShort n) (λ x n f. tt) may sent
from_apart h (SaysOk ∷ deeds) may sent = may_apart h (SaysOk ∷ deeds) [] true (λ z. refl) (λ x n. IsShort n) (λ x n f. tt) may sent
from_apart h (Asks to n c ∷ deeds) may sent = may_apart h (Asks to n c ∷ deeds) [] true (λ z. refl) (λ x n. IsShort n) (λ x n f. tt) may sent
from_apart h (Releases asker ∷ deeds) may sent = may_apart h (Releases asker ∷ deeds) [] true (λ z. refl) (λ x n. IsShort n) (λ x n f. tt) may sent
from_apart h (Tells to n ∷ deeds) may sent = may_apart h (Tells to n ∷ deeds) [] true (λ z. refl) (λ x n. IsShort n) (λ x n f. tt) may sent
from_apart h (Drops pid ∷ deeds) may sent = may_apart h (Drops pid ∷ deeds) [] true (λ z. refl) (λ x n. IsShort n) (λ x n f. tt) may sent
from_apart h (SetsErrors e ∷ deeds) may sent = may_apart h (SetsErrors e ∷ deeds) [] true (λ z. refl) (λ x n. IsShort n) (λ x n f. tt) may sent
from_apart h (_ ∷ deeds) may sent = absurd (may 0)

module _ (core : Core) (ports : List Port) (h : ℕ) (sorted : AreTables core.tables) (two : JoinTwo core.tables.rows) (some : 1 ≤ h) (most : h ≤ 7)
    (right : AreRight ports) (up : (x : ℕ) → UpAt (port_at ports x)) where
  outcome_from : (x : ℕ) (m : Message) → Outcome x h ports m (controller_deeds (view_of core ports) h m) → MayFrom x (controller_deeds (view_of core ports) h m)
  outcome_from x m (Leaves none may) = may_from x (controller_deeds (view_of core ports) h m) may
  outcome_from x m (IsHeard rest e is may) = subst (MayFrom x) (sym e) may

  pub controller_apart : (m : Message) → FirstSent true (controller_deeds (view_of core ports) h m) → GiveOnce h [] (controller_deeds (view_of core ports) h m)
  controller_apart m sent =
      from_apart h (controller_deeds (view_of core ports) h m)
      (λ x. outcome_from x m (controller_outcome x h core ports sorted two some most right (up x) m)) sent

-- ## The ends of a controller, one for each host of its world

-- one that is found has a host among theirs
pub one_found : (ports : List Port) (k : ℕ) (p : Port) → port_at ports k ≡ Some p → is_one_of (hosts_of_ends ports) k ≡ true
one_found [] k p found = absurd (cc found)
one_found (q ∷ ports) k p found = by_test (eqb q.desk.host k)
    (λ is. ap (λ b. b || is_one_of (hosts_of_ends ports) k) is)
    (λ off. ap (λ b. b || is_one_of (hosts_of_ends ports) k) off ∙ (one_found ports k p) (rw off at found))

-- this holds of each end, where it holds of each that is found by its host
pub all_found : (P : Port → Type 0) (ports : List Port) → AreDifferent (hosts_of_ends ports) → ((k : ℕ) (p : Port) → port_at ports k ≡ Some p → P p)
    → AllByRecursion P ports
all_found P [] different each = tt
all_found P (p ∷ ports) different each = (
  each p.desk.host p (ap (λ b. cond b (Some p) (port_at ports p.desk.host)) (eq-eqb p.desk.host p.desk.host refl)),
  all_found P ports different.1 (λ k q found. each k q (behind k q found (cases_Bool (eqb p.desk.host k)))),
) where
  found_host : (ps : List Port) (k : ℕ) (q : Port) → port_at ps k ≡ Some q → AllByRecursion (λ h. eqb h p.desk.host ≡ false) (hosts_of_ends ps)
      → eqb k p.desk.host ≡ false
  found_host [] k q e off = absurd (cc e)
  found_host (x ∷ ps) k q e off = by_test (eqb x.desk.host k)
      (λ is. subst (λ n. eqb n p.desk.host ≡ false) (eqb-true x.desk.host k is) off.0)
      (λ else. found_host ps k q (rw else at e) off.1)

  behind : (k : ℕ) (q : Port) → port_at ports k ≡ Some q → (eqb p.desk.host k ≡ true) ⊎ (eqb p.desk.host k ≡ false) → port_at (p ∷ ports) k ≡ Some q
  behind k q found (inr off) = ap (λ b. cond b (Some p) (port_at ports k)) off ∙ found
  behind k q found (inl is) =
      absurd (true≢false (sym (eq-eqb k p.desk.host (sym (eqb-true p.desk.host k is))) ∙ found_host ports k q found different.0))

-- ## The notices that are read tell of the creations that a controller keeps

-- ### Messages

same_message : (a b : List ℕ) → same_bytes a b ≡ true → a ≡ b
same_message [] [] e = refl
same_message (x ∷ a) (y ∷ b) e = by_test (eqb x y)
    (λ is. ap₂ (λ u l. u ∷ l) (eqb-true x y is) (same_message a b (rw is at e)))
    (λ off. absurd (true≢false (sym (rw off at e))))
same_message [] (y ∷ b) e = absurd (true≢false (sym e))
same_message (x ∷ a) [] e = absurd (true≢false (sym e))

row_of : Command → PipeRow → PipeRow
row_of (Create row) other = row
row_of _ other = other

same_row : (a b : PipeRow) → Create a ≡ Create b → a ≡ b
unfolding row_of
same_row a b e = ap (λ c. row_of c a) e

-- the notices of one creation say the same
notice_same : (c : Creation) (a b : List ℕ) → IsNoticeOf c a → IsNoticeOf c b → a ≡ b
notice_same c a b x y = x.message_is ∙ (ap (λ r. 18 ∷ ends_of r) (same_row x.row y.row (sym x.command ∙ y.command)) ∙ sym y.message_is)

-- ### Lists of creations

-- one of these
pub record IsIn (c : Creation) (l : List Creation) : Type 0 where
  pub front : List Creation
  pub back : List Creation
  pub is : l ≡ front ++ (c ∷ back)

in_front : (c : Creation) (x l : List Creation) → IsIn c l → IsIn c (x ++ l)
in_front c [] l i = i
in_front c (d ∷ x) l i = let more : IsIn c (x ++ l) = in_front c x l i in record { front = d ∷ more.front; back = more.back; is = ap (λ l. d ∷ l) more.is }

is_read_of : (r : Option (List ℕ)) (c : Creation) (l : List Creation) → IsIn c l → IsReadSo r l → (m : List ℕ) × (r ≡ Some m) × IsNoticeOf c m
is_read_of r c l i k = go r i.front (subst (IsReadSo r) i.is k) where
  go : (r : Option (List ℕ)) (front : List Creation) → IsReadSo r (front ++ (c ∷ i.back)) → (m : List ℕ) × (r ≡ Some m) × IsNoticeOf c m
  go None [] k = absurd k
  go None (d ∷ front) k = absurd k
  go (Some m) [] k = by i.back k where
    by : (back : List Creation) → IsReadSo (Some m) (c ∷ back) → (n : List ℕ) × (Some m ≡ Some n) × IsNoticeOf c n
    by [] k = (m, refl, k)
    by (d ∷ back) k = absurd k
  go (Some m) (d ∷ []) k = absurd k
  go (Some m) (d ∷ e ∷ front) k = absurd k

pub in_waits : (x : ℕ) (ports : List Port) (k : ℕ) (p : Port) (c : Creation) → port_at ports k ≡ Some p → asked_at p ≡ Some c → c.asker ≡ x
    → IsIn c (waits x (asked_of ports))
in_waits x [] k p c found asked own = absurd (cc found)
in_waits x (q ∷ ports) k p c found asked own = by_test (eqb q.desk.host k)
    (λ is. let same : Some q ≡ Some p = rw is at found in
    let one : q ≡ p = cc in
    record {
      front = [];
      back = waits x (asked_of ports);
      is = grind arith;
    })
    (λ off. in_front c (one_of x (asked_at q)) (waits x (asked_of ports)) (in_waits x ports k p c (rw off at found) asked own))

-- one waits at an end
record WaitsAtEnd (all : List Port) (c : Creation) : Type 0 where
  pub host : ℕ
  pub port : Port
  pub found : port_at all host ≡ Some port
  pub asked : asked_at port ≡ Some c

waits_at_end : (x : ℕ) (all ports : List Port) (c : Creation) (l : List Creation) → AllByRecursion (λ (p : Port). port_at all p.desk.host ≡ Some p) ports
    → waits x (asked_of ports) ≡ c ∷ l → WaitsAtEnd all c
waits_at_end x all [] c l found e = absurd (cc e)
waits_at_end x all (p ∷ ports) c l found e = go (asked_at p) refl (waits_at_end x all ports c l found.1) where
  go : (o : Option Creation) → asked_at p ≡ o → (waits x (asked_of ports) ≡ c ∷ l → WaitsAtEnd all c) → WaitsAtEnd all c
  go None q later = later (sym (ap (λ o. one_of x o ++ waits x (asked_of ports)) q) ∙ e)
  go (Some d) q later = by_test (eqb d.asker x)
      (λ is. grind arith)
      (λ off. later (rw off at now)) where
        now : one_of x (Some d) ++ waits x (asked_of ports) ≡ c ∷ l
        now = sym (ap (λ o. one_of x o ++ waits x (asked_of ports)) q) ∙ e

-- ### What a notice is about

-- whether there is a notice about something, and the creation that waits for its answer
abbrev pub awaited_in : Option About → Option (Option Creation)
awaited_in about = option_map creation_of about

joined : Option (Option Creation) → Option Creation
joined None = None
joined (Some o) = o

asked_joined : (n : Option Notice) → creation_in n ≡ joined (awaited_in (about_of n))
unfolding joined
asked_joined n = grind arith

read_joined : (t : List Entry) (r : Option (List ℕ)) → joined (awaited_in (about_read t r)) ≡ creation_read t r
unfolding joined
read_joined t r = grind arith

pub asked_same : (t : List Entry) (p : Port) (r : Option (List ℕ)) → awaited_in (about_of p.desk.notice) ≡ awaited_in (about_read t r)
    → asked_at p ≡ creation_read t r
asked_same t p r e = asked_joined p.desk.notice ∙ (ap joined e ∙ read_joined t r)

second : (a b : Bool) → IsTrue (a && b) → IsTrue b
second a b both = grind arith

closed : (row : PipeRow) → IsCommand (Create row) → row.opened ≡ false
closed row may = grind arith

-- an unanswered notice as it is read, of a message
abbrev read_of : List Entry → List ℕ → Option (Option Creation)
read_of t m = awaited_in (about_read t (Some m))

-- one of a creation for which its asker asked so
waits_read : (t : List Entry) (m : List ℕ) (row : PipeRow) → m ≡ 18 ∷ ends_of row → row.opened ≡ false → asking_in t row.creator ≡ Some m
    → read_of t m ≡ Some (Some (record { asker = row.creator; command = Create row; answer = answer_of response.Ok (ends_of row) }))
waits_read t m row is off asked = grind arith

module _ (hosts : List ℕ) (are : AreHosts hosts) (t : List Entry) (w : Work) (a : KeepsInStep hosts t w) (named : AreNamed (t ++ w.entries)) where
  abbrev now : List Entry
  now = t ++ w.entries

  kept : (k : ℕ) (p : Port) → port_at w.ports k ≡ Some p → IsKeptNotice (notice_in now k) p.desk.notice
  kept k p q = subst (λ o. IsKeptNotice (notice_in now k) (option_and_then (λ (p : Port). p.desk.notice) o)) q (notice_is hosts are t w a k)

  read_so : (x : ℕ) → IsReadSo (asking_in now x) (waits x (asked_of w.ports))
  read_so x = subst (IsReadSo (asking_in now x)) (desks_wait x w.ports) (a.creations x)

  different : AreDifferent (hosts_of_ends w.ports)
  different = subst AreDifferent (sym a.hosts_are) are.different

  own_found : AllByRecursion (λ (p : Port). port_at w.ports p.desk.host ≡ Some p) w.ports
  own_found =
      all_found (λ p. port_at w.ports p.desk.host ≡ Some p) w.ports different
      (λ k p found. subst (λ n. port_at w.ports n ≡ Some p) (sym (eqb-true p.desk.host k (at_host w.ports k p found))) found)

  -- what is read at an end of the message there
  module _ (k : ℕ) (p : Port) (found : port_at w.ports k ≡ Some p) (n : Notice) (there : p.desk.notice ≡ Some n) (m : List ℕ)
      (reads : notice_in now k ≡ Some m) where
    about_is : IsAbout n.about m
    about_is = go (notice_in now k) p.desk.notice reads there (kept k p found) where
      go : (r : Option (List ℕ)) (o : Option Notice) → r ≡ Some m → o ≡ Some n → IsKeptNotice r o → IsAbout n.about m
      go r o e f b = grind arith

    waiting : (c : Creation) → n.about ≡ Waits c → read_of now m ≡ Some (Some c)
    waiting c about =
        let asked : asked_at p ≡ Some c = (ap creation_in there) ∙ rw about refl in
        let of : IsNoticeOf c m = subst (λ b. IsAbout b m) about about_is in
        let due : IsAwaited c = subst IfAwaited asked (at_port (λ (p : Port). IfAwaited (asked_at p)) w.ports k p a.awaited found) in
        let kept_right : IsRightNotice (Some n) = subst IsRightNotice there (at_port (λ (p : Port). IsRightNotice p.desk.notice) w.ports k p a.right found) in
        let right : IsRightAbout (Waits c) = subst IsRightAbout about kept_right in
        let reading = is_read_of (asking_in now c.asker) c (waits c.asker (asked_of w.ports)) (in_waits c.asker w.ports k p c found asked refl)
        (read_so c.asker) in
        let one : of.row ≡ due.row = same_row of.row due.row (sym of.command ∙ due.command) in
        waits_read now m of.row of.message_is (closed of.row (subst IsCommand of.command right.0))
        (ap (asking_in now) of.asker ∙ (reading.1 ∙ ap (λ z. Some z) (notice_same c reading.0 m reading.2 of)))
        ∙ (ap (λ (o : PipeRow). Some (Some (record { asker = of.row.creator; command = Create of.row; answer = answer_of response.Ok (ends_of o) }))) one
        ∙ (ap (λ z. Some (Some (record { asker = of.row.creator; command = Create of.row; answer = z }))) (sym due.answer)
        ∙ (ap (λ z. Some (Some (record { asker = of.row.creator; command = z; answer = c.answer }))) (sym of.command)
        ∙ ap (λ z. Some (Some (record { asker = z; command = c.command; answer = c.answer }))) of.asker)))

    -- a creation with this notice waits at no other end
    clash : (c : Creation) → n.about ≡ Forgotten → instruction_in m ≡ 18 → (end : WaitsAtEnd w.ports c) → IsNoticeOf c m → ⊥
    clash c about is end of = by_option end.port.desk.notice
        (λ e. let none : None ≡ Some c = sym (ap creation_in e) ∙ end.asked in absurd (cc none))
        (λ z e. read_there z e (grind arith) (notice_in now end.host) refl
        (subst (IsKeptNotice (notice_in now end.host)) e (kept end.host end.port end.found))) where
          near : (z : Notice) → end.port.desk.notice ≡ Some z → z.about ≡ Waits c → (y : List ℕ) → notice_in now end.host ≡ Some y → IsNoticeOf c y → ⊥
          near z e waits y r kept_of =
              let host : end.host ≡ k = sym (names_read now named end.host m (grind arith) is) ∙ names_read now named k m reads is in
              let ports : Some end.port ≡ Some p = sym end.found ∙ (ap (port_at w.ports) host ∙ found) in
              let one : end.port ≡ p = cc in
              let notices : Some z ≡ Some n = sym e ∙ (ap (λ (q : Port). q.desk.notice) one ∙ there) in
              let two : z ≡ n = cc in
              let abouts : Waits c ≡ Forgotten = sym waits ∙ (ap (λ (z : Notice). z.about) two ∙ about) in
              absurd (cc abouts)

          read_there : (z : Notice) → end.port.desk.notice ≡ Some z → z.about ≡ Waits c → (r : Option (List ℕ)) → notice_in now end.host ≡ r
              → IsKeptNotice r (Some z) → ⊥
          read_there z e waits None r k = k
          read_there z e waits (Some y) r k = near z e waits y r (subst (λ b. IsAbout b y) waits k)

    -- a creation of a notice that is forgotten isn't read: its asker asks for none by the same message
    not_asked : n.about ≡ Forgotten → instruction_in m ≡ 18 → (row : PipeRow) → option_map_or (same_bytes m) (asking_in now row.creator) false ≡ true → ⊥
    not_asked about is row e = go (asking_in now row.creator) (waits row.creator (asked_of w.ports)) refl refl (read_so row.creator)
      where
        go : (r : Option (List ℕ)) (l : List Creation) → asking_in now row.creator ≡ r → waits row.creator (asked_of w.ports) ≡ l → IsReadSo r l → ⊥
        go None [] q z so = true≢false (sym e ∙ ap (λ o. option_map_or (same_bytes m) o false) q)
        go None (c ∷ l) q z so = so
        go (Some x) [] q z so = so
        go (Some x) (c ∷ d ∷ l) q z so = so
        go (Some x) (c ∷ []) q z so =
            let same : m ≡ x = same_message m x (sym (ap (λ o. option_map_or (same_bytes m) o false) q) ∙ e) in
            clash c about is (waits_at_end row.creator w.ports w.ports c [] own_found z) (subst (IsNoticeOf c) (sym same) so)

    forgotten : n.about ≡ Forgotten → instruction_in m ≡ 18 → read_of now m ≡ Some None
    forgotten about is = by_option (pipe_named_in (body_in m))
        (λ q. rw (is, q) refl)
        (λ row q. by_test (option_map_or (same_bytes m) (asking_in now row.creator) false)
        (λ e. absurd (not_asked about is row e))
        (λ e. rw (is, q, e) refl))

    removed : (i : ℕ) → instruction_in m ≡ i → eqb i 18 ≡ false → read_of now m ≡ Some None
    removed i is off = let no : eqb (instruction_in m) 18 ≡ false = ap (λ i. eqb i 18) is ∙ off in rw no refl

    read_here : read_of now m ≡ Some (creation_in (Some n))
    read_here = go n.about refl about_is where
      go : (b : About) → n.about ≡ b → IsAbout b m → read_of now m ≡ Some (creation_in (Some n))
      go (Waits c) e k = waiting c e ∙ rw e refl
      go Forgotten e k = forgotten e k ∙ rw e refl
      go Removed e (inl k) = removed 19 k refl ∙ rw e refl
      go Removed e (inr k) = removed 21 k refl ∙ rw e refl

  -- the notice to a host tells of the creation that waits for its answer, as it is read
  pub awaited_same : (k : ℕ) (p : Port) → port_at w.ports k ≡ Some p
      → awaited_in (about_of p.desk.notice) ≡ awaited_in (about_read now (notice_in now k))
  awaited_same k p found = go (notice_in now k) p.desk.notice refl refl (kept k p found) where
    go : (r : Option (List ℕ)) (o : Option Notice) → notice_in now k ≡ r → p.desk.notice ≡ o → IsKeptNotice r o
        → awaited_in (about_of p.desk.notice) ≡ awaited_in (about_read now (notice_in now k))
    go None None e f kept = ap (λ n. awaited_in (about_of n)) f ∙ sym (ap (λ r. awaited_in (about_read now r)) e)
    go (Some m) (Some n) e f kept =
        ap (λ n. awaited_in (about_of n)) f ∙ (sym (read_here k p found n f m e) ∙ sym (ap (λ r. awaited_in (about_read now r)) e))
    go None (Some n) e f kept = absurd kept
    go (Some m) None e f kept = absurd kept

-- ## What is noted of a reply, as it is read, is what its deeds note in a controller whose sessions are read

module _ (t : List Entry) (ports : List Port) (ends : EndsAreRead t ports) (h : ℕ) where
  abbrev read_session : ℕ → Option ℕ
  read_session k = session_now t (end_c k) 0

  same_sent : (k : ℕ) (m : Message) → has_link ports k ≡ true → sent_in_session 0 read_session k m ≡ sent_in_session 0 (session_of_port ports) k m
  same_sent k m up = ap (λ o. option_map_or (λ n. entry.Sent (end_c k) n m.0 m.1 ∷ []) o []) (grind arith)

  pub same_noted : (count : ℕ) (deeds : List Deed) → AllByRecursion (SendsOver ports) deeds → AllReach ports deeds
      → entries_of_reply 0 read_session h count deeds ≡ entries_of_reply 0 (session_of_port ports) h count deeds
  same_noted count [] over reach = refl
  same_noted count (Commits c ∷ deeds) over reach = ap (λ l. entry.Command 0 c ∷ l) (same_noted (next_count count) deeds over.1 reach.1)
  same_noted count (Sends to m ∷ deeds) over reach = ap₂ (λ a b. a ++ b) (same_sent to m over.0) (same_noted count deeds over.1 reach.1)
  same_noted count (SaysOk ∷ deeds) over reach = ap (λ l. entry.AnyOk 0 count ∷ l) (same_noted count deeds over.1 reach.1)
  same_noted count (Asks to message c ∷ deeds) over reach =
      ap₂ (λ a b. entry.Ask to message ∷ a ++ b) (same_sent to (1, message) reach.0) (same_noted count deeds over.1 reach.1)
  same_noted count (Tells to message ∷ deeds) over reach =
      ap₂ (λ a b. a ++ b) (same_sent to (1, message) reach.0) (same_noted count deeds over.1 reach.1)
  same_noted count (Drops pid ∷ deeds) over reach = ap (λ l. entry.Dropped (end_c h) pid ∷ l) (same_noted count deeds over.1 reach.1)
  same_noted count (Orders message ∷ deeds) over reach = absurd over.0
  same_noted count (Ends e ∷ deeds) over reach = absurd over.0
  same_noted count (_ ∷ deeds) over reach = same_noted count deeds over.1 reach.1
