-- A whole step of a controller: its unanswered notice to a host stays the one that is read, and so do the blocks that an end has to spare.
use Rattle.node_laws.proofs.Words.{ActEvent, AllByRecursion, AreDifferent, AtEnd, Bool, Commits, Controller, Core, Creation, Deed, End, EndEvent, Ending, Entry}
use Rattle.node_laws.proofs.Words.{Fetch, FromNode, HciTables, IsComing, IsCommand, IsFresh, IsHost, IsKeptNotice, IsOutside, IsRightNotice, IsShut, Link}
use Rattle.node_laws.proofs.Words.{LinkEnd, LinkInput, List, NodeInput, None, NumberedEnd, Option, Port, Release, Releases, Reset, Role, Sends, Some, Start}
use Rattle.node_laws.proofs.Words.{Stop, Take, TakeBroken, TakeUnknown, Tick, TimePasses, Turn, Up, Work, [], act_answer, activated, after_input}
use Rattle.node_laws.proofs.Words.{after_sessions, all_append, all_come, all_done, all_flat, all_map, all_owed, answers_and_passes, ap, ap₂, arith, asked_at}
use Rattle.node_laws.proofs.Words.{by_option, by_test, cond, ended_by, eq-eqb, eqb, false, filter, filter_map, flat_map, forgets, happens_at_controller}
use Rattle.node_laws.proofs.Words.{has_come, input_at, is_asked_at, is_forgotten, is_late, is_notice, is_of_creation, is_open, is_over, is_some, list_any, map}
use Rattle.node_laws.proofs.Words.{ne_eqb, new_link_end, option_and_then, option_map, option_map_or, or-false, owed, own_side, passes, port_at, refl, renewed}
use Rattle.node_laws.proofs.Words.{reset_late, role_after, sent_all, spare, spare_at, steps, subst, sym, synced, ticked, ticks_at_controller, times_out}
use Rattle.node_laws.proofs.Words.{told_at, told_late, true, true≢false, turn, turn_at, turned, turned_role, unless_cut, with_older, without_notice, ℕ, ◌&&◌}
use Rattle.node_laws.proofs.Words.{◌++◌, ◌+◌, ◌-◌, ◌||◌, ◌∙◌, ◌∷◌, ◌≡◌}
use Rattle.shdlc_core.specs.declared.answers.LinkState.TheVariants.{Down}
use Rattle.node_laws.specs.notices.Spares.{IsEndRead}
use Rattle.node_laws.proofs.links.Sites.{here_is, tick_is}
use Rattle.node_laws.proofs.links.Noticing.{UpAt, at_all, at_host, outside as from_outside, stays_up, turn-phase}
use Rattle.node_laws.proofs.notices.Telling.{AreRight, MayTell}
use Rattle.node_laws.proofs.notices.Turning.{AreHostEnds, IsOn, Stands, all_stand, controller_side, kept_none, passes_stand, read_in, read_more, reads}
use Rattle.node_laws.proofs.notices.Turning.{reads_append, then, told_reads, turns}
use Rattle.node_laws.proofs.readings.Noticed.{up_is}
use Rattle.node_laws.proofs.readings.Sites.{sent_phase}
use Rattle.node_laws.proofs.steps.StepWalks.{at_port, come_host, forgets_host, late_host, sessions_node, without_host}
use Rattle.gate_answers.specs.declared.response.Response.TheVariants as response

-- ## An end that isn't active is Down

-- an end becomes one with its role and its phase
same_shut : (e f : LinkEnd) → f.role ≡ e.role → f.shdlc.phase ≡ e.shdlc.phase → IsShut e → IsShut f
same_shut e f role phase a q = phase ∙ a (ap is_open (sym role) ∙ q)

-- ### Activation

activated_shut : (e : LinkEnd) (event : ActEvent) → (is_open (role_after e.role event) ≡ false → (act_answer e.role event).ended_link ≡ false
    → e.shdlc.phase ≡ Down) → IsShut (activated e event)
activated_shut e event a q = grind arith

-- ### Inputs

pub input_shut : (e : LinkEnd) (i : LinkInput) → IsShut e → IsShut (after_input e i)
input_shut e (Take c) a = grind arith
input_shut e TakeUnknown a = a
input_shut e (TakeBroken fault) a = a
input_shut e Tick a = grind arith
input_shut e (Reset window) a = grind arith
input_shut e (Start value) a = grind arith
input_shut e Stop a = grind arith
input_shut e (FromNode t) a = (same_shut e (turn e t) (turned_role e (t ∷ [])) (turn-phase e t) a)
input_shut e Fetch a = grind arith

turns_shut : (e : LinkEnd) (ts : List Turn) → IsShut e → IsShut (turned e ts)
turns_shut e [] a = a
turns_shut e (t ∷ ts) a = turns_shut (turn e t) ts (same_shut e (turn e t) (turned_role e (t ∷ [])) (turn-phase e t) a)

sent_shut : (e : LinkEnd) → IsShut e → IsShut (sent_all e)
sent_shut e a o = sent_phase e [] ∙ a o

new_shut : (r : Role) → IsShut (new_link_end (renewed r))
new_shut r q = grind arith

-- ### Links

pub here_shut : (l : Link) (x : EndEvent) → IsShut l.controller.side → IsShut (happens_at_controller l x).controller.side
here_shut l x a = here_is IsShut input_shut turns_shut sent_shut (λ e b. new_shut e.role) l x a

pub ticks_shut : (l : Link) (ts : List Turn) (ending : Ending) → IsShut l.controller.side → IsShut (ticks_at_controller l ts ending).controller.side
ticks_shut l ts ending a = tick_is IsShut input_shut turns_shut sent_shut (λ e b. new_shut e.role) l ts ending a

-- ## A controller has a step: its unanswered notice to a host stays the one that is read

-- ### Quiet deeds

-- it tells nobody of anything
abbrev pub TellsNoNotice : Deed → Type 0
TellsNoNotice (Commits c) = IsCommand c
TellsNoNotice (Sends to m) = (eqb m.0 1 && is_notice m.1) ≡ false
TellsNoNotice (Releases asker) = Unit {0}
TellsNoNotice _ = ⊥

abbrev pub TellNoNotices : List Deed → Type 0
TellNoNotices deeds = AllByRecursion TellsNoNotice deeds

pub no_notices_flat : (f : Port → List Deed) (P : Port → Type 0) → ((p : Port) → P p → TellNoNotices (f p)) → (ports : List Port) → AllByRecursion P ports
    → TellNoNotices (flat_map f ports)
no_notices_flat f P one [] a = tt
no_notices_flat f P one (p ∷ ports) a = all_append TellsNoNotice (f p) (flat_map f ports) (one p a.0) (no_notices_flat f P one ports a.1)

pub no_notices_may : (x : ℕ) (F : List ℕ → Type 0) (deeds : List Deed) → TellNoNotices deeds → MayTell x F deeds
no_notices_may x F [] a = tt
no_notices_may x F (Commits c ∷ deeds) a = (a.0, no_notices_may x F deeds a.1)
no_notices_may x F (Sends to m ∷ deeds) a = (a.0, no_notices_may x (λ n. (eqb to x ≡ false) × F n) deeds a.1)
no_notices_may x F (Releases asker ∷ deeds) a = no_notices_may x (λ n. ⊥) deeds a.1
no_notices_may x F (_ ∷ deeds) a = absurd a.0

pub synced_no_notices : (core : Core) (input : NodeInput) (p : Port) → IsHost p.desk.host → TellNoNotices (synced core input p)
synced_no_notices core input p host = grind arith

-- ### What is read of many ends

module _ (x : ℕ) where
  -- of ends with different hosts only that of x tells of its notice
  pub flat_reads : (f : Port → List Entry) → ((p : Port) (r : Option (List ℕ)) → eqb p.desk.host x ≡ false → reads x (f p) r ≡ r) → (ports : List Port)
      → AreDifferent (map (λ (p : Port). p.desk.host) ports) → (r : Option (List ℕ))
      → reads x (flat_map f ports) r ≡ option_map_or (λ p. reads x (f p) r) (port_at ports x) r
  flat_reads f silent [] d r = refl
  flat_reads f silent (p ∷ ports) d r =
      reads_append x (f p) (flat_map f ports) r ∙ by_test (eqb p.desk.host x)
      (λ e. rw e (others ports d.0 e (reads x (f p) r)))
      (λ e. rw e (ap (reads x (flat_map f ports)) (silent p r e) ∙ (flat_reads f silent ports d.1) r)) where
        others : (ports : List Port) → AllByRecursion (λ (k : ℕ). eqb k p.desk.host ≡ false) (map (λ (p : Port). p.desk.host) ports)
            → eqb p.desk.host x ≡ true → (r : Option (List ℕ)) → reads x (flat_map f ports) r ≡ r
        others [] a e r = refl
        others (q ∷ ports) a e r =
            reads_append x (f q) (flat_map f ports) r
            ∙ (ap (reads x (flat_map f ports)) (silent q r (ne_eqb q.desk.host x (λ s. grind arith))) ∙ others ports a.1 e r)

  pub told_elsewhere : (core : Core) → own_side core ≡ Controller → (p : Port) (o : Option LinkInput) (r : Option (List ℕ)) → eqb p.desk.host x ≡ false
      → reads x (told_at core p o) r ≡ r
  told_elsewhere core side p None r e = refl
  told_elsewhere core side p (Some i) r e = told_reads x core p i r side ∙ ap (λ b. cond (b && is_some (ended_by p.side i)) None r) e

  pub told_here : (core : Core) → own_side core ≡ Controller → (p : Port) (i : LinkInput) (r : Option (List ℕ)) → p.desk.host ≡ x
      → reads x (told_at core p (Some i)) r ≡ cond (is_some (ended_by p.side i)) None r
  told_here core side p i r e = told_reads x core p i r side ∙ ap (λ b. cond (b && is_some (ended_by p.side i)) None r) (eq-eqb p.desk.host x e)

  pub late_elsewhere : (core : Core) → own_side core ≡ Controller → (p : Port) (r : Option (List ℕ)) → eqb p.desk.host x ≡ false
      → reads x (told_late core p) r ≡ r
  late_elsewhere core side p r e = by_test (is_late p) (λ q. rw q (told_elsewhere core side p (Some (Reset None)) r e)) (λ q. rw q refl)

-- ### An end behind what came

-- what is read and kept of it: nothing is read where its session ended
pub record IsCome (r : Option (List ℕ)) (q : Port) : Type 0 where
  pub kept : is_over q ≡ false → IsKeptNotice r q.desk.notice
  pub gone : is_over q ≡ true → r ≡ None
  pub up : is_over q ≡ false → is_some q.desk.notice ≡ true → q.side.shdlc.phase ≡ Up
  pub shut : IsShut q.side

abbrev pub IsComeAt : Option (List ℕ) → Option Port → Type 0
IsComeAt r None = r ≡ None
IsComeAt r (Some q) = IsCome r q

module _ (p : Port) (fresh : IsFresh p) (up : UpAt (Some p)) (shut : IsShut p.side) where
  pub come_is : (r : Option (List ℕ)) (o : Option LinkInput) → ((i : LinkInput) → o ≡ Some i → IsComing i) → IsKeptNotice r p.desk.notice
      → IsCome (option_map_or (λ i. cond (is_some (ended_by p.side i)) None r) o r) (has_come p o)
  come_is r None coming kept = grind arith
  come_is r (Some i) coming kept = go (is_some (ended_by p.side i)) refl where
    over : (b : Bool) → is_some (ended_by p.side i) ≡ b → is_over (has_come p (Some i)) ≡ b
    over b e = ap (λ c. c || p.late) e ∙ (ap (λ c. b || c) fresh.1 ∙ or-false b)

    go : (b : Bool) → is_some (ended_by p.side i) ≡ b → IsCome (cond (is_some (ended_by p.side i)) None r) (has_come p (Some i))
    go true e = subst (λ c. IsCome (cond c None r) (has_come p (Some i))) (sym e) (record {
      kept = λ n. absurd (true≢false (sym (over true e) ∙ n));
      gone = λ y. refl;
      up = λ n. absurd (true≢false (sym (over true e) ∙ n));
      shut = input_shut p.side i shut;
    })
    go false e = subst (λ c. IsCome (cond c None r) (has_come p (Some i))) (sym e) (record {
      kept = λ n. kept;
      gone = λ y. absurd (true≢false (sym y ∙ over false e));
      up = λ n some. stays_up p.side i (coming i refl) (up_is p.side.shdlc.phase (up some)) e;
      shut = input_shut p.side i shut;
    })

pub older_is : (r : Option (List ℕ)) (q : Port) → IsCome r q → IsCome r (with_older q)
older_is r q a = grind arith

-- an end that is up loses its session by a reset
pub reset_ends : (e : LinkEnd) → IsShut e → e.shdlc.phase ≡ Up → is_some (ended_by e (Reset None)) ≡ true
reset_ends e shut up = by_test (is_open e.role) (λ o. rw (o, up) refl) (λ o. let z : Up ≡ Down = sym up ∙ shut o in absurd (cc z))

late_is : (core : Core) (r : Option (List ℕ)) (q : Port) → q.late ≡ false → IsCome r q
    → IsCome (cond (is_late q) (cond (is_some (ended_by q.side (Reset None))) None r) r) (reset_late q)
late_is core r q fresh a = grind arith

forgets_is : (ports : List Port) (r : Option (List ℕ)) (q : Port) → IsCome r q → IsCome r (forgets ports q)
forgets_is ports r q a = grind arith

-- an end as the node's turns begin
pub record IsReady (r : Option (List ℕ)) (q : Port) : Type 0 where
  pub kept : IsKeptNotice r q.desk.notice
  pub up : UpAt (Some q)

without_is : (r : Option (List ℕ)) (q : Port) → IsCome r q → IsReady r (without_notice q)
without_is r q a = grind arith

-- ## A whole step of a controller: its unanswered notice to a host stays the one that is read

-- the hosts of ends that keep theirs
hosts_map : (f : Port → Port) → ((p : Port) → (f p).desk.host ≡ p.desk.host) → (ports : List Port)
    → map (λ (p : Port). p.desk.host) (map f ports) ≡ map (λ (p : Port). p.desk.host) ports
hosts_map f host [] = refl
hosts_map f host (p ∷ ports) =
    ap (λ h. h ∷ map (λ (q : Port). q.desk.host) (map f ports)) (host p) ∙ ap (λ l. p.desk.host ∷ l) (hosts_map f host ports)

older_right : (p : Port) → IsRightNotice p.desk.notice → IsRightNotice (with_older p).desk.notice
older_right p a = grind arith

reset_right : (p : Port) → IsRightNotice p.desk.notice → IsRightNotice (reset_late p).desk.notice
reset_right p a = by_test (is_late p) (λ e. rw e a) (λ e. rw e a)

forgets_right : (ports : List Port) (p : Port) → IsRightNotice p.desk.notice → IsRightNotice (forgets ports p).desk.notice
forgets_right ports p a = by_test (is_forgotten ports (asked_at p)) (λ e. rw e (by_option p.desk.notice (λ q. rw q tt) (λ n q. rw q tt))) (λ e. rw e a)

without_right : (p : Port) → IsRightNotice p.desk.notice → IsRightNotice (without_notice p).desk.notice
without_right p a = by_test (is_over p) (λ e. rw e tt) (λ e. rw e a)

-- with sessions a controller doesn't forget its tables
pub sessions_tables : (core : Core) (ports : List Port) → (after_sessions core ports).tables ≡ core.tables
sessions_tables core ports = by_test (list_any is_over ports) (λ q. rw q refl) (λ q. rw q refl)

module _ (x : ℕ) (before : List Entry) (w : Work) (a : IsOn x before w) where
  -- the work behind what came
  pub record HasCome (v : Work) : Type 0 where
    core : v.core ≡ w.core
    on : v.cut ≡ false
    hosts : AreHostEnds v.ports
    right : AreRight v.ports
    at : IsComeAt (read_in x before v) (port_at v.ports x)

  pub begun : (v : Work) → HasCome v
      → IsOn x before (record v { core = after_sessions v.core v.ports; ports = map without_notice (map (forgets v.ports) v.ports) })
  begun v c = record {
    on = c.on;
    node = sessions_node v.core v.ports ∙ (ap (λ (k : Core). k.node) c.core ∙ a.node);
    sorted = subst Rattle.hci_tables.specs.Tables.AreTables (sym tables) a.sorted;
    two = subst (λ (t : HciTables). Rattle.tables_laws.specs.tables.Changes.JoinTwo t.rows) (sym tables) a.two;
    hosts = all_map (λ (p : Port). IsHost p.desk.host) (λ (p : Port). IsHost p.desk.host) without_notice (λ p b. subst IsHost (sym (without_host p)) b)
        (map (forgets v.ports) v.ports) (all_map (λ (p : Port). IsHost p.desk.host) (λ (p : Port). IsHost p.desk.host) (forgets v.ports)
        (λ p b. subst IsHost (sym (forgets_host v.ports p)) b) v.ports c.hosts);
    right = all_map (λ (p : Port). IsRightNotice p.desk.notice) (λ (p : Port). IsRightNotice p.desk.notice) without_notice without_right
        (map (forgets v.ports) v.ports) (all_map (λ (p : Port). IsRightNotice p.desk.notice) (λ (p : Port). IsRightNotice p.desk.notice) (forgets v.ports)
        (forgets_right v.ports) v.ports c.right);
    up = subst UpAt (sym same) (ups (port_at v.ports x) c.at);
    kept = subst (λ o. IsKeptNotice (read_in x before v) (option_and_then (λ (p : Port). p.desk.notice) o)) (sym same) (keeps (port_at v.ports x) c.at);
  } where
    tables : (after_sessions v.core v.ports).tables ≡ w.core.tables
    tables = sessions_tables v.core v.ports ∙ ap (λ (k : Core). k.tables) c.core

    same : port_at (map without_notice (map (forgets v.ports) v.ports)) x ≡ option_map without_notice (option_map (forgets v.ports) (port_at v.ports x))
    same = at_all (map (forgets v.ports) v.ports) x without_notice without_host
        ∙ ap (option_map without_notice) (at_all v.ports x (forgets v.ports) (forgets_host v.ports))

    ups : (o : Option Port) → IsComeAt (read_in x before v) o → UpAt (option_map without_notice (option_map (forgets v.ports) o))
    ups o b = grind arith

    keeps : (o : Option Port) → IsComeAt (read_in x before v) o
        → IsKeptNotice (read_in x before v) (option_and_then (λ (p : Port). p.desk.notice) (option_map without_notice (option_map (forgets v.ports) o)))
    keeps None b = subst (λ r. IsKeptNotice r None) (sym b) tt
    keeps (Some q) b = (without_is (read_in x before v) (forgets v.ports q) (forgets_is v.ports (read_in x before v) q b)).kept

  -- ### And what it does then

  pub frees : (cs : List Creation) (v : Work) → IsOn x before v → IsOn x before (all_done 0 (map (λ (c : Creation). Releases c.asker) cs) v)
  frees [] v b = b
  frees (c ∷ cs) v b =
      let u : Work = turn_at c.asker Release v in
      let freed : IsOn x before u = turns x before IsKeptNotice c.asker Release v (λ p r. refl) b in
      let on : unless_cut (all_done 0 (map (λ (c : Creation). Releases c.asker) cs)) u ≡ all_done 0
      (map (λ (c : Creation). Releases c.asker) cs) u = grind arith in
      subst (IsOn x before) (sym on) (frees cs u freed)

  rest : (cs : List Creation) (syncs owing : List Deed) (v : Work) → TellNoNotices syncs → TellNoNotices owing → IsOn x before v
      → Stands x before (answers_and_passes (map (λ (c : Creation). Releases c.asker) cs) syncs owing v)
  rest cs syncs owing v s o b =
      let u : Work = all_done 0 (map (λ (c : Creation). Releases c.asker) cs) v in
      let synced : Stands x before (all_done 0 syncs u) =
      all_stand x before 0 (λ n. ⊥) syncs u (λ n f. absurd f) (no_notices_may x (λ n. ⊥) syncs s) (frees cs v b) in
      then x before passes (unless_cut (all_done 0 owing) (all_done 0 syncs u))
      (then x before (all_done 0 owing) (all_done 0 syncs u) synced
      (λ d. all_stand x before 0 (λ n. ⊥) owing (all_done 0 syncs u) (λ n f. absurd f) (no_notices_may x (λ n. ⊥) owing o) d))
      (λ d. passes_stand x before (unless_cut (all_done 0 owing) (all_done 0 syncs u)) d)

  pub owed_all : (left : List Port) → TellNoNotices (all_owed left)
  owed_all left =
      all_append TellsNoNotice _ _ (all_flat TellsNoNotice (λ p. owed response.NotConnected (asked_at p))
      (λ p. grind arith)
      (filter (λ (p : Port). p.ended) left))
      (all_flat TellsNoNotice (λ p. owed response.Timeout (asked_at p)) (λ p. grind arith)
      (filter (λ (p : Port). p.late) left))

  -- ### What comes

  module _ (input : NodeInput) (outside : IsOutside input) (different : AreDifferent (map (λ (p : Port). p.desk.host) w.ports))
      (fresh : AllByRecursion IsFresh w.ports) (shut : AllByRecursion (λ (p : Port). IsShut p.side) w.ports) where
    abbrev come : Port → Port
    come p = has_come p (input_at input p)

    abbrev told : List Entry
    told = flat_map (λ p. told_at w.core p (input_at input p)) w.ports

    side : own_side w.core ≡ Controller
    side = controller_side w.core a.node

    -- behind what came to its ends
    come_at : IsComeAt (reads x told (read_in x before w)) (port_at (map come w.ports) x)
    come_at =
        subst (λ r. IsComeAt r (port_at (map come w.ports) x))
        (sym (flat_reads x (λ p. told_at w.core p (input_at input p)) (λ p r e. told_elsewhere x w.core side p (input_at input p) r e) w.ports different
        (read_in x before w)))
        (subst (IsComeAt (option_map_or (λ (p : Port). reads x (told_at w.core p (input_at input p)) (read_in x before w)) (port_at w.ports x)
        (read_in x before w)))
        (sym (at_all w.ports x come (λ q. come_host q (input_at input q)))) (go (port_at w.ports x) refl a.kept a.up))
      where
        told_is : (p : Port) (o : Option LinkInput) → p.desk.host ≡ x → reads x (told_at w.core p o) (read_in x before w)
            ≡ option_map_or (λ (i : LinkInput). cond (is_some (ended_by p.side i)) None (read_in x before w)) o
            (read_in x before w)
        told_is p None e = refl
        told_is p (Some i) e = told_here x w.core side p i (read_in x before w) e

        go : (o : Option Port) → port_at w.ports x ≡ o → IsKeptNotice (read_in x before w) (option_and_then (λ (p : Port). p.desk.notice) o) → UpAt o
            → IsComeAt (option_map_or (λ (p : Port). reads x (told_at w.core p (input_at input p)) (read_in x before w)) o (read_in x before w))
            (option_map come o)
        go None e kept up = kept_none (read_in x before w) None refl kept
        go (Some p) e kept up =
            subst (λ r. IsCome r (come p)) (sym (told_is p (input_at input p) (at_host w.ports x p e)))
            (come_is p (at_port IsFresh w.ports x p fresh e) up (at_port (λ (q : Port). IsShut q.side) w.ports x p shut e) (read_in x before w)
            (input_at input p) (λ i q. from_outside input outside p i q) kept)

    come_hosts : AreHostEnds (map come w.ports)
    come_hosts =
        all_map (λ (p : Port). IsHost p.desk.host) (λ (p : Port). IsHost p.desk.host) come (λ p b. subst IsHost (sym (come_host p (input_at input p))) b)
        w.ports a.hosts

    come_rights : AreRight (map come w.ports)
    come_rights =
        all_map (λ (p : Port). IsRightNotice p.desk.notice) (λ (p : Port). IsRightNotice p.desk.notice) come (λ p b. grind arith) w.ports
        a.right

  pub came_near : (h : ℕ) (i : LinkInput) → IsComing i → AreDifferent (map (λ (p : Port). p.desk.host) w.ports) → AllByRecursion IsFresh w.ports
      → AllByRecursion (λ (p : Port). IsShut p.side) w.ports → HasCome (times_out (AtEnd h i) (all_come (AtEnd h i) w))
  came_near h i comes different fresh shut = record {
    core = refl;
    on = a.on;
    hosts = come_hosts (AtEnd h i) comes different fresh shut;
    right = come_rights (AtEnd h i) comes different fresh shut;
    at = subst (λ r. IsComeAt r (port_at (map (come (AtEnd h i) comes different fresh shut) w.ports) x))
        (sym (read_more x before w.entries (told (AtEnd h i) comes different fresh shut) (read_in x before w) _ refl refl))
        (come_at (AtEnd h i) comes different fresh shut);
  }

  pub came_tick : AreDifferent (map (λ (p : Port). p.desk.host) w.ports) → AllByRecursion IsFresh w.ports
      → AllByRecursion (λ (p : Port). IsShut p.side) w.ports → HasCome (times_out TimePasses (all_come TimePasses w))
  came_tick different fresh shut = record {
    core = refl;
    on = a.on;
    hosts = all_map (λ (p : Port). IsHost p.desk.host) (λ (p : Port). IsHost p.desk.host) reset_late (λ p b. subst IsHost (sym (late_host p)) b)
        (map with_older ticked) (all_map (λ (p : Port). IsHost p.desk.host) (λ (p : Port). IsHost p.desk.host) with_older (λ p b. b) ticked
        (come_hosts TimePasses tt different fresh shut));
    right = all_map (λ (p : Port). IsRightNotice p.desk.notice) (λ (p : Port). IsRightNotice p.desk.notice) reset_late reset_right (map with_older ticked)
        (all_map (λ (p : Port). IsRightNotice p.desk.notice) (λ (p : Port). IsRightNotice p.desk.notice) with_older older_right ticked
        (come_rights TimePasses tt different fresh shut));
    at = subst (λ r. IsComeAt r (port_at (map reset_late (map with_older ticked)) x))
        (sym (read_more x before (w.entries ++ noted) late (reads x noted (read_in x before w)) _
        (read_more x before w.entries noted (read_in x before w) _ refl refl) refl))
        (subst (λ r. IsComeAt r (port_at (map reset_late (map with_older ticked)) x))
        (sym (flat_reads x (told_late w.core) (λ p r e. late_elsewhere x w.core (controller_side w.core a.node) p r e) (map with_older ticked) others
        (reads x noted (read_in x before w))))
        (subst (IsComeAt (option_map_or (λ (p : Port). reads x (told_late w.core p) (reads x noted (read_in x before w))) (port_at (map with_older ticked) x)
        (reads x noted (read_in x before w)))) (sym (at_all (map with_older ticked) x reset_late late_host))
        (subst (λ o. IsComeAt (option_map_or (λ (p : Port). reads x (told_late w.core p) (reads x noted (read_in x before w))) o
        (reads x noted (read_in x before w))) (option_map reset_late o)) (sym (at_all ticked x with_older (λ q. refl)))
        (go (port_at ticked x) refl (come_at TimePasses tt different fresh shut)))));
  } where
    ticked : List Port
    ticked = map (come TimePasses tt different fresh shut) w.ports

    noted : List Entry
    noted = told TimePasses tt different fresh shut

    late : List Entry
    late = flat_map (told_late w.core) (map with_older ticked)

    others : AreDifferent (map (λ (p : Port). p.desk.host) (map with_older ticked))
    others = subst AreDifferent (sym (hosts_map with_older (λ q. refl) ticked
        ∙ hosts_map (come TimePasses tt different fresh shut) (λ q. come_host q (Some Tick)) w.ports)) different

    all_fresh : (ports : List Port) → AllByRecursion IsFresh ports
        → AllByRecursion (λ (p : Port). p.late ≡ false) (map (λ (p : Port). has_come p (Some Tick)) ports)
    all_fresh [] f = tt
    all_fresh (p ∷ ports) f = (f.0.1, all_fresh ports f.1)

    read_late : (q : Port) (r : Option (List ℕ)) → q.desk.host ≡ x
        → reads x (told_late w.core q) r ≡ cond (is_late q) (cond (is_some (ended_by q.side (Reset None))) None r) r
    read_late q r e = by_test (is_late q) (λ is. rw is (told_here x w.core (controller_side w.core a.node) q (Reset None) r e)) (λ is. rw is refl)

    go : (o : Option Port) → port_at ticked x ≡ o → IsComeAt (reads x noted (read_in x before w)) o
        → IsComeAt (option_map_or (λ (p : Port). reads x (told_late w.core p) (reads x noted (read_in x before w))) (option_map with_older o)
        (reads x noted (read_in x before w))) (option_map reset_late (option_map with_older o))
    go None e b = b
    go (Some q) e b =
        subst (λ r. IsCome r (reset_late (with_older q))) (sym (read_late (with_older q) (reads x noted (read_in x before w)) (at_host ticked x q e)))
        (grind arith)

  pub steps_stand : (input : NodeInput) → IsOutside input → AreDifferent (map (λ (p : Port). p.desk.host) w.ports) → AllByRecursion IsFresh w.ports
      → AllByRecursion (λ (p : Port). IsShut p.side) w.ports → Stands x before (steps input w)
  steps_stand input outside different fresh shut = by input outside where
    syncs : (input : NodeInput) → TellNoNotices (flat_map (synced w.core input) w.ports)
    syncs input = no_notices_flat (synced w.core input) (λ (p : Port). IsHost p.desk.host) (λ p host. synced_no_notices w.core input p host) w.ports a.hosts

    finish : (input : NodeInput) → HasCome (times_out input (all_come input w)) → Stands x before (steps input w)
    finish input c =
        let v : Work = times_out input (all_come input w) in
        rest (filter (λ (c : Creation). Rattle.node_machine.specs.Node.is_over_at v.ports c.asker) (filter_map asked_at v.ports))
        (flat_map (synced w.core input) w.ports) (all_owed (map (forgets v.ports) v.ports))
        (record v { core = after_sessions v.core v.ports; ports = map without_notice (map (forgets v.ports) v.ports) })
        (syncs input) (owed_all (map (forgets v.ports) v.ports)) (begun v c)

    by : (input : NodeInput) → IsOutside input → Stands x before (steps input w)
    by (AtEnd h i) out = finish (AtEnd h i) (came_near h i out different fresh shut)
    by TimePasses out = finish TimePasses (came_tick different fresh shut)

-- ## What a controller knows of hosts by its notices is what is read

pub noticed_is : (message : Option (List ℕ)) (p : Port) → IsKeptNotice message p.desk.notice → is_some p.desk.notice ≡ is_some message
noticed_is message p kept = grind arith

pub asked_is : (message : Option (List ℕ)) (p : Port) → IsKeptNotice message p.desk.notice → is_asked_at p ≡ is_of_creation message
asked_is message p kept = grind arith

-- ## The blocks that an end has to spare are those that are read

pub spare_is : (t : List Entry) (e : End) (near_end : NumberedEnd) → IsEndRead t e near_end → spare_at t e ≡ spare near_end.side
spare_is t e near_end a = ap₂ (λ n m. 128 - (n + m)) (grind arith) a.aside
