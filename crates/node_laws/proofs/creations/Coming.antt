-- What comes to the ends of a controller, and its whole step: the creation that a host asked for stays the one that is read.
use Rattle.node_laws.proofs.Words.{AllByRecursion, AreDifferent, AreProper, AtEnd, Bool, Commits, Controller, Core, Creation, Deed, Entry, HciTables, IfAwaited}
use Rattle.node_laws.proofs.Words.{IsAwaited, IsComing, IsFresh, IsHost, IsOutside, IsPlain, IsProperBook, IsProperCommand, IsReadSo, IsShut, LinkEnd}
use Rattle.node_laws.proofs.Words.{LinkInput, List, NodeInput, None, Option, Port, Release, Releases, Reset, Response, Sends, Some, Tick, TimePasses, Up, Work}
use Rattle.node_laws.proofs.Words.{[], after_input, after_sessions, all_come, all_done, all_owed, answer_of, answers_and_passes, ap, append-nil, append_assoc}
use Rattle.node_laws.proofs.Words.{arith, asked_at, book_in, by_list, by_option, by_test, commit, cond, ended_by, eqb, eqb-false, eqb-true, false, filter}
use Rattle.node_laws.proofs.Words.{filter_map, flat_map, forgets, forgotten, has_come, inl, input_at, inr, is_forgotten, is_late, is_over, is_over_at}
use Rattle.node_laws.proofs.Words.{is_response, is_some, length, map, ne_eqb, option_map, option_map_or, or-false, owed, own_side, passes, port_at, refl}
use Rattle.node_laws.proofs.Words.{report, reset_late, steps, subst, sym, synced, times_out, told, told_at, told_late, true, true≢false, turn_at, unless_cut}
use Rattle.node_laws.proofs.Words.{whole_acked, with_older, without_notice, ℕ, ◌++◌, ◌+◌, ◌-◌, ◌||◌, ◌∙◌, ◌∷◌, ◌≡◌, ◌⊎◌}
use Rattle.registry.proofs.ValueLemmas.{AllByRecursion-append as all_joined}
use Rattle.node_laws.proofs.creations.Outcomes.{Asked, Parts, asked_map, asked_of, ended_of, forgot, late_of, owed_parts, owes, owes-append, stays, waits}
use Rattle.node_laws.proofs.creations.Doing.{EndAt, EndHas, Fine, Good, IsOff, IsOn, ask_more, commits, flat_same, many, on_is, pays_then, reading, released}
use Rattle.node_laws.proofs.creations.Doing.{then, then_fine, told_same}
use Rattle.node_laws.proofs.creations.Turning.{passes_good}
use Rattle.node_laws.proofs.kept.Doing.{book_more, hosts_map, plain_entries, plain_flat, plain_fold}
use Rattle.node_laws.proofs.links.Blocks.{IsWithin, input_within}
use Rattle.node_laws.proofs.links.Noticing.{UpAt, at_all, at_host, outside as from_outside, stays_up}
use Rattle.node_laws.proofs.notices.Turning.{controller_side, reads}
use Rattle.node_laws.proofs.notices.Near.{asks}
use Rattle.node_laws.proofs.notices.Steps.{flat_reads, input_shut, late_elsewhere, sessions_tables, told_elsewhere, told_here}
use Rattle.node_laws.proofs.readings.Noticed.{up_is}
use Rattle.node_laws.proofs.steps.StepWalks.{at_port, come_host, forgets_host, late_host, sessions_node, without_host}
use Rattle.node_laws.proofs.telling.Steps.{forgets_same, without_same}
use Rattle.gate_answers.specs.declared.response.Response.TheVariants as response

-- ## What comes to an end leaves the blocks that are set aside there

pub input_aside : (e : LinkEnd) (i : LinkInput) → IsComing i → (after_input e i).aside ≡ e.aside
input_aside e i is = grind arith

-- ## What comes to the ends of a controller: with the session of its asker a creation is neither read nor kept any more

-- whether the session of the end with a host has ended
pub over_at : (ports : List Port) (x : ℕ) → AreDifferent (map (λ (p : Port). p.desk.host) ports)
    → is_over_at ports x ≡ option_map_or is_over (port_at ports x) false
over_at [] x d = refl
over_at (p ∷ ports) x d = by_test (eqb p.desk.host x)
    (λ is. rw is (ap (λ b. is_over p || b) (none ports d.0 is) ∙ or-false (is_over p)))
    (λ off. rw off (over_at ports x d.1)) where
      none : (ports : List Port) → AllByRecursion (λ (k : ℕ). eqb k p.desk.host ≡ false) (map (λ (p : Port). p.desk.host) ports) → eqb p.desk.host x ≡ true
          → is_over_at ports x ≡ false
      none [] a e = refl
      none (q ∷ ports) a e =
          let off : eqb q.desk.host x ≡ false = ne_eqb q.desk.host x (λ s. eqb-false q.desk.host p.desk.host a.0 (s ∙ sym (eqb-true p.desk.host x e))) in
          rw off (none ports a.1 e)

-- an end behind what came: of one whose session ended it isn't said that it is up
pub record ComeHas (n : ℕ) (l : List Creation) (over : Bool) (e : LinkEnd) : Type 0 where
  pub within : IsWithin e
  pub aside : e.aside ≡ n
  pub up : over ≡ false → (l ≡ [] → ⊥) → e.shdlc.phase ≡ Up

abbrev pub ComeAt : ℕ → List Creation → Option Port → Type 0
ComeAt n l None = (n ≡ 0) × (l ≡ [])
ComeAt n l (Some q) = ComeHas n l (is_over q) q.side

-- what is read then
abbrev IsCome : ℕ → List Creation → Option (List ℕ) → Option (List ℕ) → Option Port → Type 0
IsCome n l r s o = ComeAt n l o × (s ≡ cond (option_map_or is_over o false) None r)

module _ (n : ℕ) (l : List Creation) (p : Port) (fresh : IsFresh p) where
  not_over : is_over p ≡ false
  not_over = rw (fresh.0, fresh.1) refl

  come_is : (o : Option LinkInput) (r : Option (List ℕ)) → ((i : LinkInput) → o ≡ Some i → IsComing i) → EndHas n l p.side
      → IsCome n l r (option_map_or (λ i. cond (is_some (ended_by p.side i)) None r) o r) (Some (has_come p o))
  come_is None r coming a = (record { within = a.within; aside = a.aside; up = λ off some. a.up some }, ap (λ b. cond b None r) (sym not_over))
  come_is (Some i) r coming a = (
    record {
      within = input_within p.side i a.within;
      aside = input_aside p.side i (coming i refl) ∙ a.aside;
      up = λ off some. stays_up p.side i (coming i refl) (a.up some) (sym (grind arith) ∙ off);
    },
    ap (λ b. cond b None r) (sym (grind arith)),
  )

older_asked : (p : Port) → asked_at (with_older p) ≡ asked_at p
older_asked p = by_option p.desk.notice (λ q. rw q refl) (λ n q. rw q refl)

reset_asked : (p : Port) → asked_at (reset_late p) ≡ asked_at p
reset_asked p = by_test (is_late p) (λ e. rw e refl) (λ e. rw e refl)

-- where a notice is late its end was up until then
late_is : (n : ℕ) (l : List Creation) (q : Port) (r s : Option (List ℕ)) → q.late ≡ false
    → (q.ended ≡ false → is_some q.desk.notice ≡ true → q.side.shdlc.phase ≡ Up) → IsShut q.side → IsCome n l r s (Some q)
    → IsCome n l r (cond (is_late q) (cond (is_some (ended_by q.side (Reset None))) None s) s) (Some (reset_late q))
late_is n l q r s fresh up shut a = grind arith

abbrev pub AreFlagged : List Port → Type 0
AreFlagged ports = AllByRecursion (λ (p : Port). p.late ≡ true → p.ended ≡ false) ports

module _ (x : ℕ) (before : List Entry) (hosts : List ℕ) (asked : Asked) (n : ℕ) (w : Work) (a : IsOn x before hosts asked [] n w)
    (different : AreDifferent hosts) (fresh : AllByRecursion IsFresh w.ports) where
  abbrev pub list : List Creation
  list = waits x asked ++ []

  -- the work behind what came
  pub record HasCome (v : Work) : Type 0 where
    pub core : v.core ≡ w.core
    pub on : v.cut ≡ false
    pub hosts_are : map (λ (p : Port). p.desk.host) v.ports ≡ hosts
    pub asked_are : asked_of v.ports ≡ asked
    pub book : IsProperBook (book_in (before ++ v.entries) 0)
    pub read : reading x before hosts v ≡ cond (is_over_at v.ports x) None (reading x before hosts w)
    pub end : ComeAt n list (port_at v.ports x)
    pub flags : AreFlagged v.ports

  apart : AreDifferent (map (λ (p : Port). p.desk.host) w.ports)
  apart = subst AreDifferent (sym a.hosts_are) different

  side : own_side w.core ≡ Controller
  side = controller_side w.core a.node

  abbrev r : Option (List ℕ)
  r = reading x before hosts w

  over_is : (ports : List Port) → map (λ (p : Port). p.desk.host) ports ≡ hosts → is_over_at ports x ≡ option_map_or is_over (port_at ports x) false
  over_is ports are = over_at ports x (subst AreDifferent (sym are) different)

  plain_told : (p : Port) (o : Option LinkInput) → AllByRecursion IsPlain (told_at w.core p o)
  plain_told p None = tt
  plain_told p (Some i) = plain_entries p.desk.host (told (own_side w.core) p.session (report p.side i) (whole_acked (after_input p.side i)))

  plain_late : (p : Port) → AllByRecursion IsPlain (told_late w.core p)
  plain_late p = by_test (is_late p) (λ q. rw q (plain_told p (Some (Reset None)))) (λ q. rw q tt)

  book_plain : (now es : List Entry) → AllByRecursion IsPlain es → IsProperBook (book_in (before ++ now) 0) → IsProperBook (book_in (before ++ (now ++ es)) 0)
  book_plain now es plain b =
      subst IsProperBook (sym (ap (λ t. book_in t 0) (sym (append_assoc before now es)) ∙ (book_more (before ++ now) es 0
      ∙ plain_fold 0 (book_in (before ++ now) 0) es plain))) b

  module _ (input : NodeInput) (outside : IsOutside input) where
    abbrev come : Port → Port
    come p = has_come p (input_at input p)

    abbrev noted : List Entry
    noted = flat_map (λ p. told_at w.core p (input_at input p)) w.ports

    -- behind what came to its ends
    come_at : IsCome n list r (asks x noted r) (port_at (map come w.ports) x)
    come_at =
        subst (λ s. IsCome n list r s (port_at (map come w.ports) x))
        (sym (flat_same x (λ p. told_at w.core p (input_at input p)) (λ p s. told_same x w.core p (input_at input p) s side) w.ports r
        ∙ flat_reads x (λ p. told_at w.core p (input_at input p)) (λ p s e. told_elsewhere x w.core side p (input_at input p) s e) w.ports apart r))
        (subst (IsCome n list r (option_map_or (λ (p : Port). reads x (told_at w.core p (input_at input p)) r) (port_at w.ports x) r))
        (sym (at_all w.ports x come (λ q. come_host q (input_at input q)))) (by_option (port_at w.ports x)
        (λ e. rw e (((rw e at a.end), refl)))
        (λ p e. rw e (let b = rw e at a.end in
        subst (λ s. IsCome n list r s (Some (come p))) (sym (by_option (input_at input p)
        (λ q. rw q refl)
        (λ i q. rw q (told_here x w.core side p i r (at_host w.ports x p e)))))
        (come_is n list p (at_port IsFresh w.ports x p fresh e) (input_at input p) r (λ i q. from_outside input outside p i q) b)))))

    come_hosts : map (λ (p : Port). p.desk.host) (map come w.ports) ≡ hosts
    come_hosts = hosts_map come (λ p. come_host p (input_at input p)) w.ports ∙ a.hosts_are

    come_asks : asked_of (map come w.ports) ≡ asked
    come_asks = asked_map come (λ p. come_host p (input_at input p)) (λ p. grind arith) w.ports ∙ a.asked_are

    come_book : IsProperBook (book_in (before ++ (w.entries ++ noted)) 0)
    come_book =
        book_plain w.entries noted (plain_flat (λ p. told_at w.core p (input_at input p)) (λ p. plain_told p (input_at input p)) w.ports) a.book

    no_late : (ports : List Port) → AllByRecursion IsFresh ports → AllByRecursion (λ (p : Port). p.late ≡ false) (map come ports)
    no_late [] f = tt
    no_late (p ∷ ports) f = (by_option (input_at input p) (λ q. rw q f.0.1) (λ i q. rw q f.0.1), no_late ports f.1)

    flagged : (ports : List Port) → AllByRecursion (λ (p : Port). p.late ≡ false) ports → AreFlagged ports
    flagged [] f = tt
    flagged (p ∷ ports) f = ((λ z. absurd (true≢false (sym z ∙ f.0))), flagged ports f.1)

  pub came_near : (h : ℕ) (i : LinkInput) → IsComing i → HasCome (times_out (AtEnd h i) (all_come (AtEnd h i) w))
  came_near h i comes =
      let input : NodeInput = AtEnd h i in
      let come_now = come_at input comes in
      record {
        core = refl;
        on = a.on;
        hosts_are = come_hosts input comes;
        asked_are = come_asks input comes;
        book = come_book input comes;
        read = ask_more x before w.entries (noted input comes) ∙ (come_now.1
            ∙ ap (λ b. cond b None r) (sym (over_is (map (come input comes) w.ports) (come_hosts input comes))));
        end = come_now.0;
        flags = flagged input comes (map (come input comes) w.ports) (no_late input comes w.ports fresh);
      }

  module _ (up : UpAt (port_at w.ports x)) (shut : AllByRecursion (λ (p : Port). IsShut p.side) w.ports) where
    abbrev ticked_of_coming : List Port
    ticked_of_coming = map (come TimePasses tt) w.ports

    abbrev olds : List Port
    olds = map with_older ticked_of_coming

    abbrev late : List Entry
    late = flat_map (told_late w.core) olds

    abbrev first : Option (List ℕ)
    first = asks x (noted TimePasses tt) r

    old_hosts : map (λ (p : Port). p.desk.host) olds ≡ hosts
    old_hosts = hosts_map with_older (λ q. refl) ticked_of_coming ∙ come_hosts TimePasses tt

    late_same : (p : Port) (s : Option (List ℕ)) → asks x (told_late w.core p) s ≡ reads x (told_late w.core p) s
    late_same p s = by_test (is_late p) (λ q. rw q (told_same x w.core p (Some (Reset None)) s side)) (λ q. rw q refl)

    last_at : IsCome n list r (asks x late first) (port_at (map reset_late olds) x)
    last_at =
        subst (λ s. IsCome n list r s (port_at (map reset_late olds) x))
        (sym (flat_same x (told_late w.core) late_same olds first
        ∙ flat_reads x (told_late w.core) (λ p s e. late_elsewhere x w.core side p s e) olds (subst AreDifferent (sym old_hosts) different) first))
        (subst (IsCome n list r (option_map_or (λ (p : Port). reads x (told_late w.core p) first) (port_at olds x) first))
        (sym (at_all olds x reset_late late_host))
        (subst (λ o. IsCome n list r (option_map_or (λ (p : Port). reads x (told_late w.core p) first) o first) (option_map reset_late o))
        (sym (at_all ticked_of_coming x with_older (λ q. refl)
        ∙ ap (option_map with_older) (at_all w.ports x (come TimePasses tt) (λ q. come_host q (Some Tick)))))
        (by_option (port_at w.ports x)
        (λ e. rw e (let b = rw e at (subst (IsCome n list r first) (at_all w.ports x (come TimePasses tt) (λ q. come_host q (Some Tick)))
        (come_at TimePasses tt)) in
        b))
        (λ p e. rw e (let b = rw e at (subst (IsCome n list r first) (at_all w.ports x (come TimePasses tt) (λ q. come_host q (Some Tick)))
        (come_at TimePasses tt)) in
        let q : Port = come TimePasses tt p in
        subst (λ s. IsCome n list r s (Some (reset_late (with_older q)))) (sym (read_late (with_older q) (at_host w.ports x p e)))
        (late_is n list (with_older q) r first (at_port IsFresh w.ports x p fresh e).1
        (λ going some. stays_up p.side Tick tt (up_is p.side.shdlc.phase ((rw e at up) (grind arith))) going)
        (input_shut p.side Tick (at_port (λ (z : Port). IsShut z.side) w.ports x p shut e))
        (b.0, b.1)))))))
      where
        read_late : (q : Port) → q.desk.host ≡ x
            → reads x (told_late w.core q) first ≡ cond (is_late q) (cond (is_some (ended_by q.side (Reset None))) None first) first
        read_late q e = by_test (is_late q) (λ is. rw is (told_here x w.core side q (Reset None) first e)) (λ is. rw is refl)

    flags_last : (ports : List Port) → AllByRecursion IsFresh ports → AreFlagged (map reset_late (map with_older (map (come TimePasses tt) ports)))
    flags_last [] f = tt
    flags_last (p ∷ ports) f = (grind arith, flags_last ports f.1)

    pub came_tick : HasCome (times_out TimePasses (all_come TimePasses w))
    came_tick = record {
      core = refl;
      on = a.on;
      hosts_are = (hosts_map reset_late late_host olds ∙ old_hosts);
      asked_are = asked_map reset_late late_host reset_asked olds ∙ (asked_map with_older (λ q. refl) older_asked ticked_of_coming ∙ come_asks TimePasses tt);
      book = book_plain (w.entries ++ noted TimePasses tt) late (plain_flat (told_late w.core) plain_late olds) (come_book TimePasses tt);
      read = ask_more x before (w.entries ++ noted TimePasses tt) late ∙ (ap (asks x late) (ask_more x before w.entries (noted TimePasses tt))
          ∙ (last_at.1 ∙ ap (λ b. cond b None r) (sym (over_is (map reset_late olds) (hosts_map reset_late late_host olds ∙ old_hosts)))));
      end = last_at.0;
      flags = flags_last w.ports fresh;
    }

-- ## A whole step of a controller: the creation that a host asked for stays the one that is read

pub answer_response : (r : Response) → is_response (answer_of r []) ≡ true
answer_response r = grind arith

-- ### What is due

abbrev AllAwaited : List Port → Type 0
AllAwaited ports = AllByRecursion (λ (p : Port). IfAwaited (asked_at p)) ports

pub due_ports : (ports : List Port) → AllByRecursion (λ (e : ℕ × Option Creation). IfAwaited e.1) (asked_of ports) → AllAwaited ports
due_ports [] a = tt
due_ports (p ∷ ports) a = (a.0, due_ports ports a.1)

pub ports_due : (ports : List Port) → AllAwaited ports → AllByRecursion (λ (e : ℕ × Option Creation). IfAwaited e.1) (asked_of ports)
ports_due [] a = tt
ports_due (p ∷ ports) a = (a.0, ports_due ports a.1)

due_map : (f : Port → Port) → ((p : Port) → IfAwaited (asked_at p) → IfAwaited (asked_at (f p))) → (ports : List Port) → AllAwaited ports
    → AllAwaited (map f ports)
due_map f one [] a = tt
due_map f one (p ∷ ports) a = (one p a.0, due_map f one ports a.1)

forgets_due : (all : List Port) (p : Port) → IfAwaited (asked_at p) → IfAwaited (asked_at (forgets all p))
forgets_due all p a = by_test (is_forgotten all (asked_at p)) (λ e. rw e (by_option p.desk.notice (λ q. rw q tt) (λ n q. rw q tt))) (λ e. rw e a)

without_due : (p : Port) → IfAwaited (asked_at p) → IfAwaited (asked_at (without_notice p))
without_due p a = by_test (is_over p) (λ e. rw e tt) (λ e. rw e a)

owed_due : (test : Port → Bool) (ports : List Port) → AllAwaited ports → AllByRecursion IsAwaited (filter_map asked_at (filter test ports))
owed_due test [] a = tt
owed_due test (p ∷ ports) a = let h0 = owed_due test ports a.1 in grind arith

-- ### What stays of an end

pub forgets_ended : (all : List Port) (p : Port) → (forgets all p).ended ≡ p.ended
forgets_ended all p = by_test (is_forgotten all (asked_at p)) (λ e. rw e refl) (λ e. rw e refl)

flags_left : (all ports : List Port) → AreFlagged ports → AreFlagged (map (forgets all) ports)
flags_left all [] f = tt
flags_left all (p ∷ ports) f = ((λ z. forgets_ended all p ∙ f.0 (sym (forgets_same all p).late ∙ z)), flags_left all ports f.1)

-- the creations of this asker among those that are forgotten
freed_are : (x : ℕ) (all ports : List Port) → owes x (filter (λ (c : Creation). is_over_at all c.asker) (filter_map asked_at ports))
    ≡ cond (is_over_at all x) (waits x (asked_of ports)) []
freed_are x all [] = by_test (is_over_at all x) (λ q. rw q refl) (λ q. rw q refl)
freed_are x all (p ∷ ports) = let h0 = asked_at p in let h1 = freed_are x all ports in grind arith

module _ (x : ℕ) (before : List Entry) (hosts : List ℕ) where
  -- blocks are freed, one after another
  pub frees : (asked : Asked) (owing : List Creation) (j : ℕ) (cs : List Creation) (w : Work) → IsOn x before hosts asked owing (length (owes x cs) + j) w
      → IsOn x before hosts asked owing j (all_done 0 (map (λ (c : Creation). Releases c.asker) cs) w)
  frees asked owing j [] w a = subst (λ n. IsOn x before hosts asked owing n w) (omega arith) a
  frees asked owing j (c ∷ cs) w a =
      let u : Work = turn_at c.asker Release w in
      let n : ℕ = length (owes x (c ∷ cs)) + j in
      let first : IsOn x before hosts asked owing (cond (eqb c.asker x) (n - 1) n) u = released x before hosts asked owing n c.asker w a in
      let next : IsOn x before hosts asked owing (length (owes x cs) + j) u = subst (λ k. IsOn x before hosts asked owing k u) (grind arith) first in
      subst (IsOn x before hosts asked owing j) (sym (on_is x before hosts (all_done 0 (map (λ (c : Creation). Releases c.asker) cs)) u next.on))
      (frees asked owing j cs u next)

  -- identifiers are kept
  abbrev IsKept : Deed → Type 0
  IsKept (Commits c) = IsProperCommand c
  IsKept _ = ⊥

  pub all_kept : (core : Core) (input : NodeInput) (ports : List Port) → AllByRecursion IsKept (flat_map (synced core input) ports)
  all_kept core input [] = tt
  all_kept core input (p ∷ ports) =
      all_joined IsKept (synced core input p) (flat_map (synced core input) ports) (grind arith) (all_kept core input ports)

  pub keeps_all : (asked : Asked) (owing : List Creation) (deeds : List Deed) (w : Work) → AllByRecursion IsKept deeds → Good x before hosts asked owing w
      → Good x before hosts asked owing (all_done 0 deeds w) ⊎ IsOff x before hosts (all_done 0 deeds w)
  keeps_all asked owing [] w may a = inl a
  keeps_all asked owing (Commits c ∷ deeds) w may a =
      let R : Work → Type 0 = λ v. Good x before hosts asked owing v ⊎ IsOff x before hosts v in
      then x before hosts R asked owing (many x before hosts asked owing) (all_done 0 deeds) (commit c w)
      (commits x before hosts asked owing (many x before hosts asked owing) c w may.0 a) (λ lost. inr lost)
      (λ b. keeps_all asked owing deeds (commit c w) may.1 b)
  keeps_all asked owing (d ∷ deeds) w may a = absurd may.0

  -- ### What is owed

  pub pays_all : (asked : Asked) (r : Response) (ports : List Port) (owing : List Creation) (rest : List Deed) (w : Work)
      → Good x before hosts asked (filter_map asked_at ports ++ owing) w
      → ((v : Work) → Good x before hosts asked owing v → Fine x before hosts (all_done 0 rest v))
      → Fine x before hosts (all_done 0 (flat_map (λ p. owed r (asked_at p)) ports ++ rest) w)
  pays_all asked r [] owing rest w a next = next w a
  pays_all asked r (p ∷ ports) owing rest w a next = by_creation (λ v b. pays_all asked r ports owing rest v b next) (asked_at p) refl where
    later : List Deed
    later = flat_map (λ p. owed r (asked_at p)) ports ++ rest

    by_creation : ((v : Work) → Good x before hosts asked (filter_map asked_at ports ++ owing) v → Fine x before hosts (all_done 0 later v))
        → (o : Option Creation) → asked_at p ≡ o → Fine x before hosts (all_done 0 (flat_map (λ p. owed r (asked_at p)) (p ∷ ports) ++ rest) w)
    by_creation more None q = grind arith
    by_creation more (Some c) q =
        let same : flat_map (λ p. owed r (asked_at p)) (p ∷ ports) ++ rest ≡ Releases c.asker ∷ Sends c.asker (1, answer_of r []) ∷ later = rw q refl in
        subst (λ d. Fine x before hosts (all_done 0 d w)) (sym same)
        (pays_then x before hosts (Fine x before hosts) 0 asked (filter_map asked_at ports ++ owing) c (answer_of r []) later w (answer_response r)
        (omega arith) (rw q at a)
        (λ v d. more v d))

  -- ### Steps

  module _ (all : AllByRecursion IsHost hosts) (different : AreDifferent hosts) (asked : Asked) (w : Work) (a : Good x before hosts asked [] w)
      (fresh : AllByRecursion IsFresh w.ports) where
    abbrev n : ℕ
    n = many x before hosts asked []

    module _ (v : Work) (c : HasCome x before hosts asked n w a different fresh v) where
      abbrev left : List Port
      left = map (forgets v.ports) v.ports

      abbrev begun : Work
      begun = record v { core = after_sessions v.core v.ports; ports = map without_notice left }

      abbrev now : Asked
      now = asked_of (map without_notice left)

      abbrev owing : List Creation
      owing = filter_map asked_at (filter (λ (p : Port). p.ended) left) ++ filter_map asked_at (filter (λ (p : Port). p.late) left)

      abbrev over : Bool
      over = is_over_at v.ports x

      left_are : waits x (asked_of left) ≡ cond over [] (waits x asked)
      left_are = forgot x v.ports v.ports ∙ ap (λ l. cond over [] (waits x l)) c.asked_are

      parts : Parts x left
      parts = owed_parts x left (flags_left v.ports v.ports c.flags)

      in_parts : waits x now ++ owes x owing ≡ stays x left ++ (ended_of x left ++ late_of x left)
      in_parts = ap (λ l. waits x now ++ l) (owes-append x (filter_map asked_at (filter (λ (p : Port). p.ended) left))
          (filter_map asked_at (filter (λ (p : Port). p.late) left)))

      tables : (after_sessions v.core v.ports).tables ≡ w.core.tables
      tables = sessions_tables v.core v.ports ∙ ap (λ (k : Core). k.tables) c.core

      due_left : AllAwaited left
      due_left = due_map (forgets v.ports) (forgets_due v.ports) v.ports
          (due_ports v.ports (subst (AllByRecursion (λ (e : ℕ × Option Creation). IfAwaited e.1)) (sym c.asked_are) a.due))

      read_left : IsReadSo (reading x before hosts v) (waits x (asked_of left))
      read_left = subst (λ l. IsReadSo (reading x before hosts v) l) (sym left_are) (grind arith)

      same_length : length (waits x now ++ owes x owing) ≡ length (cond over [] (waits x asked))
      same_length = ap length in_parts ∙ (parts.many ∙ ap length left_are)

      -- where a creation waits or is owed the session of its asker goes on
      some_waits : (waits x now ++ owes x owing ≡ [] → ⊥) → (over ≡ false) × (waits x asked ++ [] ≡ [] → ⊥)
      some_waits some = by_test over
          (λ e. absurd (some (empty (waits x now ++ owes x owing) [] (same_length ∙ ap (λ b. length (cond b [] (waits x asked))) e) refl)))
          (λ e. (
            e,
            (λ z. some (empty (waits x now ++ owes x owing) (waits x asked) (same_length ∙ ap (λ b. length (cond b [] (waits x asked))) e)
                (sym (append-nil (waits x asked)) ∙ z))),
          )) where
            empty : (l m : List Creation) → length l ≡ length m → m ≡ [] → l ≡ []
            empty [] m e z = refl
            empty (d ∷ l) m e z = absurd (omega (arith, e, ap length z))

      end_at : (o : Option Port) → port_at v.ports x ≡ o → ComeAt n (waits x asked ++ []) o
          → EndAt n (waits x now ++ owes x owing) (option_map without_notice (option_map (forgets v.ports) o))
      end_at None e z = (
        z.0,
        (by_list (waits x now ++ owes x owing)
            (λ q. rw q refl)
            (λ d l q. rw q (absurd (omega (arith, rw q at (same_length ∙ none over)))))),
      )
        where
          none : (b : Bool) → length (cond b [] (waits x asked)) ≡ 0
          none true = refl
          none false = ap length (sym (append-nil (waits x asked)) ∙ z.1)
      end_at (Some p) e z =
          let side : (without_notice (forgets v.ports p)).side ≡ p.side = (without_same (forgets v.ports p)).side ∙ (forgets_same v.ports p).side in
          subst (EndHas n (waits x now ++ owes x owing)) (sym side) (record {
            within = z.within;
            aside = z.aside;
            up = λ some.
                let so = some_waits some in
                z.up (sym (ap (λ o. option_map_or is_over o false) e) ∙ (sym (over_at v.ports x (subst AreDifferent (sym c.hosts_are) different)) ∙ so.0)) so.1;
          })

      pub begins : IsOn x before hosts now owing n begun
      begins = record {
        on = c.on;
        node = sessions_node v.core v.ports ∙ (ap (λ (k : Core). k.node) c.core ∙ a.node);
        asked_are = refl;
        hosts_are = hosts_map without_notice without_host left ∙ (hosts_map (forgets v.ports) (forgets_host v.ports) v.ports ∙ c.hosts_are);
        due = ports_due (map without_notice left) (due_map without_notice without_due left due_left);
        owed_due = all_joined IsAwaited (filter_map asked_at (filter (λ (p : Port). p.ended) left)) (filter_map asked_at (filter (λ (p : Port). p.late) left))
            (owed_due (λ (p : Port). p.ended) left due_left) (owed_due (λ (p : Port). p.late) left due_left);
        rows = subst (λ (t : HciTables). AreProper t.rows) (sym tables) a.rows;
        book = c.book;
        read = subst (IsReadSo (reading x before hosts v)) (sym in_parts) (parts.read (reading x before hosts v) read_left);
        end = subst (EndAt n (waits x now ++ owes x owing)) (sym (at_all left x without_notice without_host
            ∙ ap (option_map without_notice) (at_all v.ports x (forgets v.ports) (forgets_host v.ports)))) (end_at (port_at v.ports x) refl c.end);
      }

      abbrev freed : List Creation
      freed = filter (λ (c : Creation). is_over_at v.ports c.asker) (filter_map asked_at v.ports)

      -- as many blocks are freed as creations are forgotten
      pub shared : n ≡ length (owes x freed) + many x before hosts now owing
      shared = by_test over
          (λ e. let f : length (owes x freed) ≡ length (waits x asked) = ap length freed_is ∙ ap (λ b. length (cond b (waits x asked) [])) e in
          let z : many x before hosts now owing ≡ 0 = same_length ∙ ap (λ b. length (cond b [] (waits x asked))) e in
          omega (arith, all_are, f, z))
          (λ e. let f : length (owes x freed) ≡ 0 = ap length freed_is ∙ ap (λ b. length (cond b (waits x asked) [])) e in
          let z : many x before hosts now owing ≡ length (waits x asked) = same_length ∙ ap (λ b. length (cond b [] (waits x asked))) e in
          omega (arith, all_are, f, z)) where
            freed_is : owes x freed ≡ cond over (waits x asked) []
            freed_is = freed_are x v.ports v.ports ∙ ap (λ l. cond over (waits x l) []) c.asked_are

            all_are : n ≡ length (waits x asked)
            all_are = ap length (append-nil (waits x asked))

      goes_on : (syncs : List Deed) → AllByRecursion IsKept syncs
          → Fine x before hosts (answers_and_passes (forgotten v.ports) syncs (all_owed left) begun)
      goes_on syncs may =
          let u : Work = all_done 0 (forgotten v.ports) begun in
          let first : Good x before hosts now owing u =
          frees now owing (many x before hosts now owing) freed begun (subst (λ k. IsOn x before hosts now owing k begun) shared begins) in
          let s : Work = all_done 0 syncs u in
          let synced_so = keeps_all now owing syncs u may first in
          let answered : Fine x before hosts (unless_cut (all_done 0 (all_owed left)) s) =
          then x before hosts (Fine x before hosts) now owing (many x before hosts now owing) (all_done 0 (all_owed left)) s synced_so (λ lost. inr lost)
          (λ b. pay s b) in
          then_fine x before hosts passes (unless_cut (all_done 0 (all_owed left)) s) answered
          (λ l b. passes_good x before hosts different l (unless_cut (all_done 0 (all_owed left)) s) all b)
        where
          lates : List Port
          lates = filter (λ (p : Port). p.late) left

          second : List Deed
          second = flat_map (λ p. owed response.Timeout (asked_at p)) lates

          pay : (s : Work) → Good x before hosts now owing s → Fine x before hosts (all_done 0 (all_owed left) s)
          pay s b =
              pays_all now response.NotConnected (filter (λ (p : Port). p.ended) left) (filter_map asked_at lates) second s b
              (λ y d. subst (λ l. Fine x before hosts (all_done 0 l y)) (append-nil second)
              (pays_all now response.Timeout lates [] [] y (subst (λ l. Good x before hosts now l y) (sym (append-nil (filter_map asked_at lates))) d)
              (λ z e. inl (record { asked = now; good = e }))))

    pub steps_good : (input : NodeInput) → IsOutside input → UpAt (port_at w.ports x) → AllByRecursion (λ (p : Port). IsShut p.side) w.ports
        → Fine x before hosts (steps input w)
    steps_good (AtEnd h i) outside up shut =
        goes_on (times_out (AtEnd h i) (all_come (AtEnd h i) w)) (came_near x before hosts asked n w a different fresh h i outside)
        (flat_map (synced w.core (AtEnd h i)) w.ports) (all_kept w.core (AtEnd h i) w.ports)
    steps_good TimePasses outside up shut =
        goes_on (times_out TimePasses (all_come TimePasses w)) (came_tick x before hosts asked n w a different fresh up shut)
        (flat_map (synced w.core TimePasses) w.ports) (all_kept w.core TimePasses w.ports)
