-- A controller tells and asks only hosts whose links are up, so a notice that isn't answered stands only at an end that is up.
use Rattle.node_laws.proofs.Words.{About, AllByRecursion, AllReach, Answer, Ask, Asks, AsksAsAllowed, AtEnd, Bool, Chain, Command, Commit, Commits, Control}
use Rattle.node_laws.proofs.Words.{Core, Create, Decision, Deed, Desk, Drops, EndState, Ends, FetchMessage, Give, GoesOn, HciTables, Hears, Hold, IsAnswered}
use Rattle.node_laws.proofs.Words.{IsAskedFor, IsBegun, IsComing, IsNoticedUp, IsOutside, LinkEnd, LinkInput, LinkView, List, Message, NodeInput, None}
use Rattle.node_laws.proofs.Words.{OfDecision, OnFirst, Option, Orders, Plain, Port, Reaches, Release, Releases, Removed, SaysOk, Sends, SetAside, SetsErrors}
use Rattle.node_laws.proofs.Words.{Some, Tells, Tick, TimePasses, Turn, Up, Waits, Work, [], after_input, after_sessions, after_turn, all_come}
use Rattle.node_laws.proofs.Words.{all_of_controller, all_owed, all_owed_hold, all_synced_hold, anyone, ap, arith, body_in, by_option, by_test, changed_if}
use Rattle.node_laws.proofs.Words.{commit, cond, controller_deeds, decided, decided_as_allowed, decided_holds, deeds_of, done, end_of_node, ended_by, eqb}
use Rattle.node_laws.proofs.Words.{eqb-true, false, far_end_of, filter, flat_map, forgets, forgotten, forgotten_hold, has, has_come, has_link, heard, input_at}
use Rattle.node_laws.proofs.Words.{is_connected, is_connected_at, is_faulty, is_over, is_some, is_up, map, mask_of, notified, noting, option_and_then}
use Rattle.node_laws.proofs.Words.{option_map, option_map_or, param_in, pipe_at, port_at, refl, reset_late, shares, steps, subst, suc, sym, synced, take_answer}
use Rattle.node_laws.proofs.Words.{taken, times_out, told_of_clearing, true, true≢false, turn, turn_at, view_for, view_of, with_desk, with_older, with_port}
use Rattle.node_laws.proofs.Words.{without_notice, zero, ℕ, ◌%◌, ◌/◌, ◌==◌, ◌∙◌, ◌∷◌, ◌≡◌, ◌≤◌}
use Rattle.gate_admin.specs.View.{hosts_where}
use Rattle.link_laws.proofs.machine.Sound.{Shift}
use Rattle.node_laws.proofs.steps.StepWalks.{Lasts, bit_most, bit_none, changed_host, come_host, digits, forgets_host, late_host, rest_lasts, without_host}
use Rattle.trace_model.specs.declared.entry.Entry.TheVariants as entry

-- ## A host that is in the mask of the hosts that pass a test passes it

zero_one : (n : ℕ) → n ≡ 0 → eqb n 1 ≡ true → ⊥
zero_one n z q = absurd (true≢false (sym q ∙ ap (λ k. eqb k 1) z))

-- hosts in a mask are 07 at most
pub has_small : (m x : ℕ) → has m x ≡ true → x ≤ 7
has_small m x q = grind arith

-- nobody is in an empty mask
pub nobody : hosts_where (has 0) ≡ []
unfolding hosts_where
nobody = refl

-- a host from 01 to 07 is alone in its mask
pub alone : (P : ℕ → Type 0) (m y : ℕ) → has m y ≡ true → P y → AllByRecursion P (hosts_where (has (mask_of (y ∷ []))))
unfolding hosts_where
alone P m zero q e = absurd (true≢false (sym q))
alone P m (suc zero) q e = (e, tt)
alone P m (suc (suc zero)) q e = (e, tt)
alone P m (suc (suc (suc zero))) q e = (e, tt)
alone P m (suc (suc (suc (suc zero)))) q e = (e, tt)
alone P m (suc (suc (suc (suc (suc zero))))) q e = (e, tt)
alone P m (suc (suc (suc (suc (suc (suc zero)))))) q e = (e, tt)
alone P m (suc (suc (suc (suc (suc (suc (suc zero))))))) q e = (e, tt)
alone P m (suc (suc (suc (suc (suc (suc (suc (suc n)))))))) q e = absurd (omega (arith, has_small m (suc (suc (suc (suc (suc (suc (suc (suc n)))))))) q))

-- one that is in their mask passes
pub from_mask : (test : ℕ → Bool) (x : ℕ) → has (mask_of (hosts_where test)) x ≡ true → test x ≡ true
from_mask test x q = by_host x q where
  m : ℕ
  m = mask_of (hosts_where test)

  by_host : (x : ℕ) → has m x ≡ true → test x ≡ true
  by_host zero q = absurd (true≢false (sym q))
  by_host (suc zero) q = by_test (test 1) (λ e. e) (λ e. absurd (zero_one (m / 2 % 2) (omega (arith, digits test, bit_none (test 1) e, bit_most)) q))
  by_host (suc (suc zero)) q = by_test (test 2) (λ e. e) (λ e. absurd (zero_one (m / 4 % 2) (omega (arith, digits test, bit_none (test 2) e, bit_most)) q))
  by_host (suc (suc (suc zero))) q = by_test (test 3)
      (λ e. e)
      (λ e. absurd (zero_one (m / 8 % 2) (omega (arith, digits test, bit_none (test 3) e, bit_most)) q))
  by_host (suc (suc (suc (suc zero)))) q = by_test (test 4)
      (λ e. e)
      (λ e. absurd (zero_one (m / 16 % 2) (omega (arith, digits test, bit_none (test 4) e, bit_most)) q))
  by_host (suc (suc (suc (suc (suc zero))))) q = by_test (test 5)
      (λ e. e)
      (λ e. absurd (zero_one (m / 32 % 2) (omega (arith, digits test, bit_none (test 5) e, bit_most)) q))
  by_host (suc (suc (suc (suc (suc (suc zero)))))) q = by_test (test 6)
      (λ e. e)
      (λ e. absurd (zero_one (m / 64 % 2) (omega (arith, digits test, bit_none (test 6) e, bit_most)) q))
  by_host (suc (suc (suc (suc (suc (suc (suc zero))))))) q = by_test (test 7)
      (λ e. e)
      (λ e. absurd (zero_one (m / 128 % 2) (omega (arith, digits test, bit_none (test 7) e, bit_most)) q))
  by_host (suc (suc (suc (suc (suc (suc (suc (suc n)))))))) q = absurd (omega (arith, has_small m (suc (suc (suc (suc (suc (suc (suc (suc n)))))))) q))

-- each of the hosts that pass a test passes it
all_pass : (test : ℕ → Bool) (hosts : List ℕ) → AllByRecursion (λ x. test x ≡ true) (filter test hosts)
all_pass test [] = tt
all_pass test (x ∷ hosts) = by_test (test x) (λ q. rw q (q, all_pass test hosts)) (λ q. rw q (all_pass test hosts))

pub all_in : (test : ℕ → Bool) → AllByRecursion (λ x. test x ≡ true) (hosts_where test)
unfolding hosts_where
all_in test = all_pass test (1 ∷ 2 ∷ 3 ∷ 4 ∷ 5 ∷ 6 ∷ 7 ∷ [])

-- ## A host that gets a notice is connected

-- they are connected
abbrev AreConnected : LinkView → List ℕ → Type 0
AreConnected v hosts = AllByRecursion (λ (x : ℕ). is_connected v x ≡ true) hosts

-- those that are told of a change are connected
abbrev TellsConnected : LinkView → Decision → Type 0
TellsConnected v (Answer answer) = Unit {0}
TellsConnected v (Commit c answer tell notice) = AreConnected v (hosts_where (has tell))
TellsConnected v (Ask dest notice c answer) = Unit {0}

module _ (v : LinkView) where
  none_told : AreConnected v (hosts_where (has 0))
  none_told = rw nobody tt

  deletion : (o : Option (ℕ × ℕ))
      → AreConnected v (hosts_where (has (mask_of (option_map_or (λ (end : ℕ × ℕ). cond (is_connected v end.0) (end.0 ∷ []) []) o []))))
  deletion None = none_told
  deletion (Some end) = by_test (is_connected v end.0) (λ q. rw q (alone (λ x. is_connected v x ≡ true) v.connected end.0 q q)) (λ q. rw q none_told)

  -- each that is in the mask of the hosts that share a pipe is connected
  sharing : (t : HciTables) (host : ℕ) (hosts : List ℕ) → AllByRecursion (λ x. has (mask_of (told_of_clearing t v host)) x ≡ true) hosts → AreConnected v hosts
  sharing t host [] a = tt
  sharing t host (x ∷ hosts) a = (first (is_connected v x) refl (from_mask (shares t v host) x a.0), sharing t host hosts a.1)
    where
      first : (b : Bool) → is_connected v x ≡ b → shares t v host x ≡ true → is_connected v x ≡ true
      first b q s = grind arith

  decided_tells : (t : HciTables) (host pipe instruction : ℕ) (body : List ℕ) → TellsConnected v (decided t v host pipe instruction body)
  decided_tells t host pipe n body =
      decided_holds (TellsConnected v) t v host pipe body n (λ r value. tt) (λ _. record {
        opens = none_told;
        closes = none_told;
        sets = λ _. none_told;
        makes = λ _ controller. none_told;
        asks = λ _ other. tt;
        deletes = λ _. deletion (option_and_then (far_end_of host) (pipe_at t.rows (param_in body)));
        clears = λ _. sharing t host (hosts_where (has (mask_of (told_of_clearing t v host)))) (all_in (has (mask_of (told_of_clearing t v host))));
      })

-- ## A controller tells and asks only hosts whose links are up

-- the link with this host is up
abbrev IsLinked : List Port → ℕ → Type 0
IsLinked ports x = has_link ports x ≡ true

linked_of : (t : HciTables) (ports : List Port) (h x : ℕ) → is_connected (view_for t ports h) x ≡ true → IsLinked ports x
linked_of t ports h x q = go (port_at ports x) (from_mask (λ k. option_map_or (is_connected_at t) (port_at ports k) false) x q)
  where
    go : (o : Option Port) → option_map_or (is_connected_at t) o false ≡ true → option_map_or (λ (p : Port). is_up p.side.shdlc.phase) o false ≡ true
    go o z = grind arith

asked_reach : (t : HciTables) (ports : List Port) (h dest : ℕ) (c : Command) → IsAskedFor t (view_for t ports h) h dest c → IsLinked ports dest
asked_reach t ports h dest (Create row) a = linked_of t ports h dest a.connected
asked_reach t ports h dest _ a = absurd a

plain : (ports : List Port) → Plain (Reaches ports)
plain ports = record { sends = λ to x. tt; says_ok = tt; releases = λ asker. tt; is_answered = tt; drops = λ pid. tt }

decision_reach : (t : HciTables) (ports : List Port) (h : ℕ) (d : Decision) → AsksAsAllowed t (view_for t ports h) h d → TellsConnected (view_for t ports h) d
    → OfDecision (Reaches ports) h d
decision_reach t ports h (Answer answer) a b = tt
decision_reach t ports h (Commit c answer tell notice) a b = (tt, each (hosts_where (has tell)) b) where
  each : (hosts : List ℕ) → AreConnected (view_for t ports h) hosts → AllByRecursion (IsLinked ports) hosts
  each [] b = tt
  each (x ∷ hosts) b = (linked_of t ports h x b.0, each hosts b.1)
decision_reach t ports h (Ask asked notice c answer) a b = asked_reach t ports h asked c a

pub controller_reach : (core : Core) (ports : List Port) (h : ℕ) (m : Message) → AllReach ports (controller_deeds (view_of core ports) h m)
controller_reach core ports h m =
    let v : LinkView = view_for core.tables ports h in
    all_of_controller (Reaches ports) (plain ports) core ports h m
    (λ n. decision_reach core.tables ports h (decided core.tables v h m.0 n (body_in m.1)) (decided_as_allowed core.tables v h m.0 n (body_in m.1))
    (decided_tells v core.tables h m.0 n (body_in m.1)))
    (λ p c here asked. tt) (λ errors n value command gate is. tt)

-- ## An end that is up stays so unless its session ends

abbrev pub IsUpEnd : LinkEnd → Type 0
IsUpEnd e = e.shdlc.phase ≡ Up

goes_on : (e f : EndState) (b began : Bool) → e.phase ≡ Up → b ≡ false → Shift e f b began → f.phase ≡ Up
goes_on e f b began up q a = grind arith

open_up : (e : LinkEnd) (c : Control) (b : Bool) → IsUpEnd e
    → is_some (cond b (cond (is_faulty (taken e.shdlc c).session) (Some Chain) (take_answer e.shdlc c).ended) None) ≡ false → IsUpEnd (cond b (heard e c) e)
open_up e c b up q = grind arith

pub stays_up : (e : LinkEnd) (i : LinkInput) → IsComing i → IsUpEnd e → is_some (ended_by e i) ≡ false → IsUpEnd (after_input e i)
stays_up e i k up q = grind arith

-- ## A notice that isn't answered stands only at an end that is up

-- ### Ends

-- a turn leaves the phase of an end
pub turn-phase : (e : LinkEnd) (t : Turn) → (turn e t).shdlc.phase ≡ e.shdlc.phase
turn-phase e t = grind arith

-- an end is up
abbrev pub up_at : Option Port → Bool
up_at o = option_map_or (λ (p : Port). is_up p.side.shdlc.phase) o false

-- where it has a notice that isn't answered it is up
abbrev pub UpAt : Option Port → Type 0
UpAt None = Unit {0}
UpAt (Some p) = is_some p.desk.notice ≡ true → is_up p.side.shdlc.phase ≡ true

-- looking an end up where ends were changed that keep their hosts
pub at_all : (ports : List Port) (x : ℕ) (g : Port → Port) → ((q : Port) → (g q).desk.host ≡ q.desk.host)
    → port_at (map g ports) x ≡ option_map g (port_at ports x)
at_all [] x g keeps = refl
at_all (p ∷ ports) x g keeps = by_test (p.desk.host == x)
    (λ e. let f : ((g p).desk.host == x) ≡ true = ap (λ z. z == x) (keeps p) ∙ e in rw (e, f) refl)
    (λ e. let f : ((g p).desk.host == x) ≡ false = ap (λ z. z == x) (keeps p) ∙ e in rw (e, f) (at_all ports x g keeps))

pub at_host : (ports : List Port) (h : ℕ) (p : Port) → port_at ports h ≡ Some p → p.desk.host ≡ h
at_host [] h p q = cc
at_host (x ∷ ports) h p q = by_test (x.desk.host == h)
    (λ e. grind arith)
    (λ e. at_host ports h p (rw e at q))

-- ### Works

module _ (U : ℕ → Bool) where
  -- the links of a controller are up so, and none has a notice but where it is
  pub record Sure (w : Work) : Type 0 where
    pub node : w.core.node ≡ 0
    pub links : (x : ℕ) → has_link w.ports x ≡ U x
    pub up : (x : ℕ) → UpAt (port_at w.ports x)

  beside : (w v : Work) → v.core.node ≡ w.core.node → v.ports ≡ w.ports → Sure w → Sure v
  beside w v node ports a = grind arith

  -- an end is changed which keeps its host and its phase
  changes : (k : ℕ) (g : Port → Port) (w : Work) → ((q : Port) → (g q).desk.host ≡ q.desk.host)
      → ((q : Port) → (g q).side.shdlc.phase ≡ q.side.shdlc.phase) → ((p : Port) → port_at w.ports k ≡ Some p → UpAt (Some p) → UpAt (Some (g p)))
      → Sure w → Sure (record w { ports = with_port k g w.ports })
  changes k g w host phase up a = record { node = a.node; links = links; up = ups }
    where
      f : Port → Port
      f p = changed_if (p.desk.host == k) g p

      at : (x : ℕ) → port_at (with_port k g w.ports) x ≡ option_map f (port_at w.ports x)
      at x = at_all w.ports x f (λ q. changed_host (q.desk.host == k) g q host)

      same : (o : Option Port) → up_at (option_map f o) ≡ up_at o
      same None = refl
      same (Some p) = by_test (p.desk.host == k) (λ q. rw q (ap is_up (phase p))) (λ q. rw q refl)

      links : (x : ℕ) → has_link (with_port k g w.ports) x ≡ U x
      links x = ap up_at (at x) ∙ (same (port_at w.ports x) ∙ a.links x)

      one : (x : ℕ) (o : Option Port) → port_at w.ports x ≡ o → UpAt o → UpAt (option_map f o)
      one x None q b = tt
      one x (Some p) q b = by_test (p.desk.host == k)
          (λ z. rw z (let is : x ≡ k = sym (at_host w.ports x p q) ∙ eqb-true p.desk.host k z in
          up p (ap (port_at w.ports) (sym is) ∙ q) b))
          (λ z. rw z b)

      ups : (x : ℕ) → UpAt (port_at (with_port k g w.ports) x)
      ups x = subst UpAt (sym (at x)) (one x (port_at w.ports x) refl (a.up x))

  turns : (k : ℕ) (t : Turn) (w : Work) → Sure w → Sure (turn_at k t w)
  turns k t w a =
      beside (record w { ports = with_port k (after_turn t) w.ports }) (turn_at k t w) refl refl
      (changes k (after_turn t) w (λ q. refl) (λ q. turn-phase q.side t) (λ p found b n. ap is_up (turn-phase p.side t) ∙ b n) a)

  desk : (k : ℕ) (f : Desk → Desk) (w : Work) → ((d : Desk) → (f d).host ≡ d.host)
      → ((p : Port) → port_at w.ports k ≡ Some p → UpAt (Some p) → UpAt (Some (record p { desk = f p.desk }))) → Sure w → Sure (with_desk k f w)
  desk k f w host up a = changes k (λ p. record p { desk = f p.desk }) w (λ q. host q.desk) (λ q. refl) up a

  tells : (k : ℕ) (about : About) (message : List ℕ) (w : Work) → U k ≡ true → Sure w → Sure (notified k about message w)
  tells k about message w up a =
      let v : Work = turn_at k (Give (1, message)) w in
      let b : Sure v = turns k (Give (1, message)) w a in
      desk k (λ d. record d { notice = Some (record { about = about; age = 0 }) }) v (λ d. refl)
      (λ p found c n. ap up_at (sym found) ∙ (b.links k ∙ up)) b

  commits : (c : Command) (w : Work) → Sure w → Sure (commit c w)
  commits c w a = grind arith

  -- notices go where links are up
  abbrev Goes : Deed → Type 0
  Goes (Asks to message c) = U to ≡ true
  Goes (Tells to message) = U to ≡ true
  Goes _ = Unit {0}

  abbrev AllGo : List Deed → Type 0
  AllGo deeds = AllByRecursion Goes deeds

  does : (k : ℕ) (d : Deed) (w : Work) → Goes d → Sure w → Sure (done k d w)
  does k (Commits c) w g a = commits c w a
  does k (Sends to m) w g a = turns to (Give m) w a
  does k SaysOk w g a = beside w (done k SaysOk w) refl refl a
  does k (Asks to message c) w g a =
      let v : Work = turn_at c.asker SetAside w in
      let u : Work = noting _ v in
      tells to (Waits c) message u g (beside v u refl refl (turns c.asker SetAside w a))
  does k (Releases asker) w g a = turns asker Release w a
  does k (Tells to message) w g a = tells to Removed message w g a
  does k IsAnswered w g a = desk k (λ d. record d { notice = None }) w (λ d. refl) (λ p found b n. absurd (true≢false (sym n))) a
  does k (Drops pid) w g a = beside w (done k (Drops pid) w) refl refl a
  does k (SetsErrors errors) w g a = desk k (λ d. record d { errors = errors }) w (λ d. refl) (λ p found b. b) a
  does k (Orders message) w g a =
      let v : Work = record w { core = record w.core { command = Some message } } in
      turns k (Give (1, message)) v (beside w v refl refl a)
  does k Hears w g a = beside w (done k Hears w) refl refl a
  does k (GoesOn i) w g a = beside w (done k (GoesOn i) w) refl refl a
  does k (Ends e) w g a = beside w (done k (Ends e) w) refl refl a

  goes_of : (w : Work) → Sure w → (deeds : List Deed) → AllReach w.ports deeds → AllGo deeds
  goes_of w a [] r = tt
  goes_of w a (d ∷ deeds) r = (grind arith, goes_of w a deeds r.1)

  deeds_go : (k : ℕ) (m : Message) (w : Work) → Sure w → AllGo (deeds_of w.core w.ports k m)
  deeds_go k m w a = by_test (w.core.node == 0)
      (λ q. rw q (goes_of w a (controller_deeds (view_of w.core w.ports) k m) (controller_reach w.core w.ports k m)))
      (λ q. absurd (true≢false (sym (ap (λ n. n == 0) a.node) ∙ q)))

  sure_lasts : Lasts Sure Goes (λ k m. Unit {0})
  sure_lasts = record {
    does = does;
    turn_told = λ k m w comes a. beside w (noting (entry.Turn (end_of_node w.core k) m.0 m.1 ∷ []) w) refl refl a;
    held_told = λ k need spare w a. beside w (noting (entry.Held (end_of_node w.core k) need spare ∷ []) w) refl refl a;
    fetched = λ k w a. turns k FetchMessage w a;
    held = λ k flag w a. turns k (Hold flag) w a;
    marked = λ k flag w a. desk k (λ d. record d { holds = flag }) w (λ d. refl) (λ p found b. b) a;
    come = λ k w a. anyone (λ (m : Message). Unit {0}) (λ m. tt) _;
    causes = λ k m w comes a. deeds_go k m w a;
  }

-- ### What comes

-- where an end has a notice that isn't answered and its session hasn't ended in this step, it is up
abbrev IsOk : Port → Type 0
IsOk p = is_some p.desk.notice ≡ true → is_over p ≡ false → p.side.shdlc.phase ≡ Up

first_map : (P Q : Port → Type 0) (g : Port → Port) (ports : List Port) (x : ℕ) → ((q : Port) → (g q).desk.host ≡ q.desk.host)
    → ((p : Port) → P p → Q (g p)) → OnFirst P (port_at ports x) → OnFirst Q (port_at (map g ports) x)
first_map P Q g ports x host one a = subst (OnFirst Q) (sym (at_all ports x g host)) (grind arith)

come_ok : (p : Port) (o : Option LinkInput) → ((i : LinkInput) → o ≡ Some i → IsComing i) → IsBegun p → IsOk (has_come p o)
come_ok p None k b n over = b.up n
come_ok p (Some i) k b n over = stays_up p.side i (k i refl) (b.up n) (grind arith)

older_ok : (p : Port) → IsOk p → IsOk (with_older p)
older_ok p b n over = b (by_option p.desk.notice (λ q. let z : false ≡ true = rw q at n in absurd (true≢false (sym z))) (λ m q. rw q refl)) over

late_ok : (p : Port) → IsOk p → IsOk (reset_late p)
late_ok p b = grind arith

forgets_ok : (ports : List Port) (p : Port) → IsOk p → IsOk (forgets ports p)
forgets_ok ports p b = grind arith

-- ### Steps

-- what comes in a step comes from outside
pub outside : (input : NodeInput) → IsOutside input → (p : Port) (i : LinkInput) → input_at input p ≡ Some i → IsComing i
outside input k p i q = grind arith

came_ok : (input : NodeInput) (w : Work) (x : ℕ) → IsOutside input → OnFirst IsBegun (port_at w.ports x)
    → OnFirst IsOk (port_at (times_out input (all_come input w)).ports x)
came_ok (AtEnd h i) w x k a =
    first_map IsBegun IsOk (λ p. has_come p (input_at (AtEnd h i) p)) w.ports x (λ q. come_host q (input_at (AtEnd h i) q))
    (λ p b. come_ok p (input_at (AtEnd h i) p) (outside (AtEnd h i) k p) b) a
came_ok TimePasses w x k a =
    let come : List Port = map (λ p. has_come p (Some Tick)) w.ports in
    first_map IsOk IsOk reset_late (map with_older come) x late_host late_ok
    (first_map IsOk IsOk with_older come x (λ q. refl) older_ok
    (first_map IsBegun IsOk (λ p. has_come p (Some Tick)) w.ports x (λ q. refl) (λ p b. come_ok p (Some Tick) (λ i q. outside TimePasses tt p i q) b) a))

pub came_node : (input : NodeInput) (w : Work) → (times_out input (all_come input w)).core ≡ w.core
came_node input w = grind arith

-- the links of a controller after what came in a step
abbrev pub links_after : NodeInput → Work → ℕ → Bool
links_after input w x =
    has_link (map without_notice (map (forgets (times_out input (all_come input w)).ports) (times_out input (all_come input w)).ports)) x

pub steps_sure : (input : NodeInput) (w : Work) → IsOutside input → w.core.node ≡ 0 → ((x : ℕ) → OnFirst IsBegun (port_at w.ports x))
    → Sure (links_after input w) (steps input w)
steps_sure input w k node a =
    let came : Work = times_out input (all_come input w) in
    let left : List Port = map (forgets came.ports) came.ports in
    let begun : Work = record came { core = after_sessions came.core came.ports; ports = map without_notice left } in
    let U : ℕ → Bool = links_after input w in
    let kept : (x : ℕ) → UpAt (port_at (map without_notice left) x) =
    λ x. first_up left x (first_map IsOk IsOk (forgets came.ports) came.ports x (forgets_host came.ports) (forgets_ok came.ports)
    (came_ok input w x k (a x))) in
    rest_lasts (Sure U) (Goes U) (λ k m. Unit {0}) (sure_lasts U) (forgotten came.ports) (flat_map (synced w.core input) w.ports) (all_owed left) begun
    (forgotten_hold (Goes U) (λ asker. tt) came.ports) (all_synced_hold (Goes U) (λ host id. tt) w.core input w.ports)
    (all_owed_hold (Goes U) (λ asker. tt) (λ to r. tt) left) (grind arith)
  where
    first_up : (ports : List Port) (x : ℕ) → OnFirst IsOk (port_at ports x) → UpAt (port_at (map without_notice ports) x)
    first_up ports x b = subst UpAt (sym (at_all ports x without_notice without_host)) (go (port_at ports x) b)
      where
        go : (o : Option Port) → OnFirst IsOk o → UpAt (option_map without_notice o)
        go None c = tt
        go (Some p) c = grind arith

pub up_of : (o : Option Port) → UpAt o → OnFirst IsNoticedUp o
up_of o a = grind arith

pub noticed_up : (input : NodeInput) (w : Work) → IsOutside input → w.core.node ≡ 0 → ((x : ℕ) → OnFirst IsBegun (port_at w.ports x))
    → (x : ℕ) → OnFirst IsNoticedUp (port_at (steps input w).ports x)
noticed_up input w k node a x = up_of (port_at (steps input w).ports x) ((steps_sure input w k node a).up x)
