-- What a controller knows of the creations that wait, and the blocks that it sets aside for them, are what is read.
use Rattle.node_laws.proofs.Words.{AllByRecursion, AreAwaited, AreDifferent, AreProper, AsidesAreRead, Bare, Book, Bool, Creation, Desk, Entry, HasEnds}
use Rattle.node_laws.proofs.Words.{HasNoneAside, HasSetAside, IfAwaited, IfKnowsAsRead, IfNoticedUp, IsFresh, IsHost, IsNoticedUp, IsOutside, IsProperBook}
use Rattle.node_laws.proofs.Words.{IsReadSo, IsShut, KeepsCreations, KnowsAsRead, LinkEnd, List, NodeInput, NodeWorld, None, NumberedEnd, OnFirst, Option}
use Rattle.node_laws.proofs.Words.{PipeRow, Plan, Port, Release, Role, Running, Site, Some, Work, [], ap, append-nil, append_assoc, arith, aside_in, asked_at}
use Rattle.node_laws.proofs.Words.{asked_pipes, asking_in, asks_for, book_after, book_in, by_list, by_option, by_test, cases_Bool, cond, creation_in}
use Rattle.node_laws.proofs.Words.{creations_at, creations_of, end_c, ends_between, eqb, eqb-true, false, find, fold, give_refusal, hosts_in, inl, inr}
use Rattle.node_laws.proofs.Words.{is_asked_pipe, is_none, is_some, is_up, length, link_to, list_any, map, new_link, new_link_end, not, option_map}
use Rattle.node_laws.proofs.Words.{option_map_or, pipe_at, port_at, port_for, range_with_len, refl, renewed, runs_left, runs_none, runs_on, sent_all, site_at}
use Rattle.node_laws.proofs.Words.{slice_index, steps, subst, sym, true, true≢false, turn, waiting_pipes, work_of, ℕ, ◌&&◌, ◌++◌, ◌||◌, ◌∙◌, ◌∷◌, ◌≡◌, ◌≤◌, ◌⊎◌}
use Rattle.node_machine.specs.Controller.{pipe_of}
use Rattle.pipe_table.specs.PipeRows.{is_free, lowest_free}
use Rattle.node_laws.proofs.creations.Outcomes.{Asked, asked_of, desks_wait, one_of, waits}
use Rattle.node_laws.proofs.creations.Doing.{EndAt, EndHas, Fine, Good, IsOff, Still, many, takes_short}
use Rattle.node_laws.proofs.creations.Coming.{steps_good}
use Rattle.node_laws.proofs.kept.Doing.{book_more}
use Rattle.node_laws.proofs.links.Blocks.{IsWithin, sent_within}
use Rattle.node_laws.proofs.links.Noticing.{UpAt, at_host}
use Rattle.node_laws.proofs.notices.Near.{AreFar, IsFar, all_ports, asking_more, far_asks}
use Rattle.node_laws.proofs.readings.Sites.{sent_phase}
use Rattle.node_laws.proofs.telling.Events.{hosts_same_of_nodes as hosts_same, ports_for}
use Rattle.trace_model.specs.declared.entry.Entry.TheVariants as entry

-- ## What is read of creations as the controller of a world has a step

-- ### Entries of hosts

far_one : (b : Book) (e : Entry) → IsFar e → book_after 0 b e ≡ b
far_one b e a = grind arith

pub far_fold : (b : Book) (es : List Entry) → AreFar es → fold (book_after 0) b es ≡ b
far_fold b [] a = refl
far_fold b (e ∷ es) a = ap (λ z. fold (book_after 0) z es) (far_one b e a.0) ∙ far_fold b es a.1

pub far_book : (t es : List Entry) → AreFar es → IsProperBook (book_in t 0) → IsProperBook (book_in (t ++ es) 0)
far_book t es far b = subst IsProperBook (sym (book_more t es 0 ∙ far_fold (book_in t 0) es far)) b

pub far_reading : (x : ℕ) (t es : List Entry) → AreFar es → asking_in (t ++ es) x ≡ asking_in t x
far_reading x t es far = asking_more x t es ∙ far_asks x es far (asking_in t x)

-- ### Ends

-- an end that has as many blocks set aside as creations wait
ready_is : (l : List Creation) (e : LinkEnd) → EndHas (length l) l e → HasSetAside l (sent_all e)
ready_is l e a =
    let b : IsWithin (sent_all e) = sent_within e a.within in
    record { room = b.room; forgot = b.forgot; aside = a.aside; up = λ some. sent_phase e [] ∙ a.up some }

pub has_is : (n : ℕ) (l : List Creation) (e : LinkEnd) → n ≡ length l → HasSetAside l e → EndHas n l e
has_is n l e same a = record { within = record { room = a.room; forgot = a.forgot }; aside = a.aside ∙ sym same; up = a.up }

pub new_ready : (r : Role) → HasSetAside [] (new_link_end (renewed r))
new_ready r = grind arith

-- the end of a link where no site is
pub none_side : (sites : List Site) (x : ℕ) → site_at sites x ≡ None → (link_to sites x).controller.side ≡ (new_link Bare Bare).controller.side
none_side sites x e = ap (λ o. (option_map_or (λ (s : Site). s.link) o (new_link Bare Bare)).controller.side) e

-- ### Ends as a step begins

port_of : (near_ends : ℕ → NumberedEnd) (desks : List Desk) (x : ℕ)
    → port_at (ports_for near_ends desks) x ≡ option_map (λ d. port_for (near_ends x) d) (find (λ (d : Desk). eqb d.host x) desks)
port_of near_ends [] x = refl
port_of near_ends (d ∷ desks) x = by_test (eqb d.host x)
    (λ is. rw is (ap (λ n. Some (port_for (near_ends n) d)) (eqb-true d.host x is)))
    (λ off. rw off (port_of near_ends desks x))

desks_back : (near_ends : ℕ → NumberedEnd) (desks : List Desk) → map (λ (p : Port). p.desk) (ports_for near_ends desks) ≡ desks
desks_back near_ends [] = refl
desks_back near_ends (d ∷ desks) = ap (λ l. d ∷ l) (desks_back near_ends desks)

due_begun : (near_ends : ℕ → NumberedEnd) (desks : List Desk) → AllByRecursion (λ (d : Desk). IfAwaited (creation_in d.notice)) desks
    → AllByRecursion (λ (e : ℕ × Option Creation). IfAwaited e.1) (asked_of (ports_for near_ends desks))
due_begun near_ends [] a = tt
due_begun near_ends (d ∷ desks) a = (a.0, due_begun near_ends desks a.1)

due_back : (ports : List Port) → AllByRecursion (λ (e : ℕ × Option Creation). IfAwaited e.1) (asked_of ports)
    → AllByRecursion (λ (d : Desk). IfAwaited (creation_in d.notice)) (map (λ (p : Port). p.desk) ports)
due_back [] a = tt
due_back (p ∷ ports) a = (a.0, due_back ports a.1)

-- a controller has ends on the links of its hosts alone
no_desk : (desks : List Desk) (sites : List Site) (x : ℕ) → map (λ (d : Desk). d.host) desks ≡ hosts_in sites
    → find (λ (d : Desk). eqb d.host x) desks ≡ None → site_at sites x ≡ None
no_desk [] [] x e none = refl
no_desk [] (s ∷ sites) x e none = absurd (cc e)
no_desk (d ∷ desks) [] x e none = absurd (cc e)
no_desk (d ∷ desks) (s ∷ sites) x e none = by_test (eqb s.host x)
    (λ is. let z : Some d ≡ None = rw (ap (λ n. eqb n x) one ∙ is) at none in absurd (cc z))
    (λ off. rw off (no_desk desks sites x others (rw (ap (λ n. eqb n x) one ∙ off) at none))) where
      one : d.host ≡ s.host
      one = cc

      others : map (λ (c : Desk). c.host) desks ≡ hosts_in sites
      others = cc

no_site : (ports : List Port) (sites : List Site) (x : ℕ) → map (λ (p : Port). p.desk.host) ports ≡ hosts_in sites → site_at sites x ≡ None
    → port_at ports x ≡ None
no_site [] [] x e none = refl
no_site [] (s ∷ sites) x e none = absurd (cc e)
no_site (p ∷ ports) [] x e none = absurd (cc e)
no_site (p ∷ ports) (s ∷ sites) x e none = by_test (eqb s.host x)
    (λ is. let z : Some s ≡ None = rw is at none in absurd (cc z))
    (λ off. rw (ap (λ n. eqb n x) one ∙ off) (no_site ports sites x others (rw off at none))) where
      one : p.desk.host ≡ s.host
      one = cc

      others : map (λ (c : Port). c.desk.host) ports ≡ hosts_in sites
      others = cc

-- ### A step

-- what a world keeps beside what its nodes keep and what notices tell
pub record Reads (t : List Entry) (w : NodeWorld) : Type 0 where
  pub book : IsProperBook (book_in t 0)
  pub due : AreAwaited w.controller
  pub read : (x : ℕ) → IsReadSo (asking_in t x) (creations_of w.controller x)
  pub ends : (x : ℕ) → HasSetAside (creations_of w.controller x) (link_to w.sites x).controller.side

module _ (t : List Entry) (w : NodeWorld) (r : Running) (runs : w.controller ≡ Some r) (has : HasEnds 0 (hosts_in w.sites) r)
    (different : AreDifferent (hosts_in w.sites)) (all : AllByRecursion IsHost (hosts_in w.sites)) (ups : IfNoticedUp w.sites (Some r))
    (shut : (n : ℕ) → IsShut (link_to w.sites n).controller.side) (rows : AreProper r.core.tables.rows) (old : Reads t w)
    (plan : Option Plan) (near_ends : ℕ → NumberedEnd) (same : (n : ℕ) → (near_ends n).side ≡ (link_to w.sites n).controller.side) (es : List Entry)
    (quiet : AreFar es) where
  abbrev pub begun : Work
  begun = work_of r plan near_ends es

  -- the end with a host, where there is one
  pub record IsBegun (x : ℕ) (p : Port) : Type 0 where
    pub here : port_at begun.ports x ≡ Some p
    pub host : p.desk.host ≡ x
    pub side : p.side ≡ (link_to w.sites x).controller.side
    pub turns : p.turns ≡ []
    pub late : p.late ≡ false
    pub up : UpAt (Some p)

  up_of : (x : ℕ) (d : Desk) → find (λ (d : Desk). eqb d.host x) r.desks ≡ Some d → UpAt (Some (port_for (near_ends x) d))
  up_of x d e =
      let at : OnFirst IsNoticedUp (Some (port_for (link_to w.sites x).controller d)) =
      subst (OnFirst IsNoticedUp) (port_of (λ n. (link_to w.sites n).controller) r.desks x ∙ ap (option_map (λ d. port_for (link_to w.sites x).controller d)) e)
      (ups x) in
      λ some. ap (λ (z : LinkEnd). is_up z.shdlc.phase) (same x) ∙ ap is_up (at some)

  pub begun_at : (x : ℕ) (d : Desk) → find (λ (d : Desk). eqb d.host x) r.desks ≡ Some d → IsBegun x (port_for (near_ends x) d)
  begun_at x d e =
      let here : port_at begun.ports x ≡ Some (port_for (near_ends x) d) = port_of near_ends r.desks x ∙ ap (option_map (λ d. port_for (near_ends x) d)) e in
      record { here = here; host = at_host begun.ports x (port_for (near_ends x) d) here; side = same x; turns = refl; late = refl; up = up_of x d e }

  abbrev asked : Asked
  asked = asked_of begun.ports

  list_is_of_near : (x : ℕ) → creations_of w.controller x ≡ waits x asked ++ []
  list_is_of_near x =
      ap (λ o. creations_of o x) runs
      ∙ (ap (λ l. creations_at l x) (sym (desks_back near_ends r.desks)) ∙ (desks_wait x begun.ports ∙ sym (append-nil (waits x asked))))

  end_of : (x : ℕ) → EndAt (many x t (hosts_in w.sites) asked []) (waits x asked ++ []) (port_at begun.ports x)
  end_of x = by_option (find (λ (d : Desk). eqb d.host x) r.desks)
      (λ e. let none : length (waits x asked ++ []) ≡ 0 =
      sym ready.aside ∙ ap (λ (z : LinkEnd). z.aside) (none_side w.sites x (no_desk r.desks w.sites x has.ends e)) in
      subst (EndAt (many x t (hosts_in w.sites) asked []) (waits x asked ++ []))
      (sym (port_of near_ends r.desks x ∙ ap (option_map (λ d. port_for (near_ends x) d)) e)) (
        none,
        by_list (waits x asked ++ [])
            (λ q. rw q refl)
            (λ c l q. rw q (absurd (omega (arith, rw q at none)))),
      ))
      (λ d e. let b : IsBegun x (port_for (near_ends x) d) = begun_at x d e in
      subst (EndAt (many x t (hosts_in w.sites) asked []) (waits x asked ++ [])) (sym b.here)
      (has_is (many x t (hosts_in w.sites) asked []) (waits x asked ++ []) (near_ends x).side refl
      (subst (HasSetAside (waits x asked ++ [])) (sym (same x)) ready))) where
        ready : HasSetAside (waits x asked ++ []) (link_to w.sites x).controller.side
        ready = subst (λ l. HasSetAside l (link_to w.sites x).controller.side) (list_is_of_near x) (old.ends x)

  pub begins : (x : ℕ) → Good x t (hosts_in w.sites) asked [] begun
  begins x = record {
    on = refl;
    node = has.number;
    asked_are = refl;
    hosts_are = hosts_same near_ends r.desks ∙ has.ends;
    due = due_begun near_ends r.desks (subst AreAwaited runs old.due);
    owed_due = tt;
    rows = rows;
    book = far_book t es quiet old.book;
    read = subst (λ m. IsReadSo m (waits x asked ++ [])) (sym (far_reading x t es quiet)) (subst (IsReadSo (asking_in t x)) (list_is_of_near x) (old.read x));
    end = end_of x;
  }

  module _ (input : NodeInput) (outside : IsOutside input) where
    abbrev pub after_it : Work
    after_it = steps input begun

    pub up_at : (x : ℕ) → UpAt (port_at begun.ports x)
    up_at x = by_option (find (λ (d : Desk). eqb d.host x) r.desks)
        (λ e. subst UpAt (sym (port_of near_ends r.desks x ∙ ap (option_map (λ d. port_for (near_ends x) d)) e)) tt)
        (λ d e. let b : IsBegun x (port_for (near_ends x) d) = begun_at x d e in subst UpAt (sym b.here) b.up)

    fine : (x : ℕ) → Fine x t (hosts_in w.sites) after_it
    fine x =
        steps_good x t (hosts_in w.sites) all different asked begun (begins x) (all_ports IsFresh near_ends (λ d. (refl, refl)) r.desks) input outside (up_at x)
        (all_ports (λ (p : Port). IsShut p.side) near_ends (λ d. subst IsShut (sym (same d.host)) (shut d.host)) r.desks)

    on : after_it.cut ≡ false → (x : ℕ) → Still x t (hosts_in w.sites) after_it
    on e x = go (fine x) where
      go : Fine x t (hosts_in w.sites) after_it → Still x t (hosts_in w.sites) after_it
      go (inl a) = a
      go (inr a) = absurd (true≢false (sym a.off ∙ e))

    off : after_it.cut ≡ true → (x : ℕ) → IsOff x t (hosts_in w.sites) after_it
    off e x = go (fine x) where
      go : Fine x t (hosts_in w.sites) after_it → IsOff x t (hosts_in w.sites) after_it
      go (inl a) = absurd (true≢false (sym e ∙ a.good.on))
      go (inr a) = a

    -- and frames go out, and its links become these
    pub step_reads : (frames : List Entry) → AreFar frames → (v : NodeWorld) → v.controller ≡ runs_on after_it
        → ((x : ℕ) → site_at w.sites x ≡ None → (link_to v.sites x).controller.side ≡ (new_link Bare Bare).controller.side)
        → ((x : ℕ) (s : Site) → site_at w.sites x ≡ Some s → after_it.cut ≡ true
        → (role : Role) × ((link_to v.sites x).controller.side ≡ new_link_end (renewed role)))
        → ((x : ℕ) (s : Site) → site_at w.sites x ≡ Some s → after_it.cut ≡ false
        → (p : Port) × (port_at after_it.ports x ≡ Some p) × ((link_to v.sites x).controller.side ≡ sent_all p.side))
        → Reads (t ++ (after_it.entries ++ frames)) v
    step_reads frames far v runs_so nowhere lost goes = by_test after_it.cut none some where
      now : List Entry
      now = t ++ (after_it.entries ++ frames)

      off_is : after_it.cut ≡ true → v.controller ≡ None
      off_is e = runs_so ∙ runs_none after_it e

      reading_now : (x : ℕ) → asking_in now x ≡ asking_in (t ++ after_it.entries) x
      reading_now x = ap (λ l. asking_in l x) (sym (append_assoc t after_it.entries frames)) ∙ far_reading x (t ++ after_it.entries) frames far

      book_now : IsProperBook (book_in (t ++ after_it.entries) 0) → IsProperBook (book_in now 0)
      book_now b = subst (λ l. IsProperBook (book_in l 0)) (append_assoc t after_it.entries frames) (far_book (t ++ after_it.entries) frames far b)

      -- its power is cut
      none : after_it.cut ≡ true → Reads now v
      none e = record {
        book = book_now (off e 0).book;
        due = subst AreAwaited (sym (off_is e)) tt;
        read = λ x.
            let a : IsOff x t (hosts_in w.sites) after_it = off e x in
            let gone : asking_in now x ≡ None = reading_now x ∙ (ap (λ l. asking_in l x) a.ends ∙ asking_more x a.front (entry.Cut 0 ∷ [])) in
            subst (λ m. IsReadSo m (creations_of v.controller x)) (sym gone) (subst (λ o. IsReadSo None (creations_of o x)) (sym (off_is e)) tt);
        ends = λ x. subst (λ o. HasSetAside (creations_of o x) (link_to v.sites x).controller.side) (sym (off_is e)) (grind arith);
      }

      -- it runs on
      some : after_it.cut ≡ false → Reads now v
      some e = record {
        book = book_now (on e 0).good.book;
        due = subst AreAwaited (sym (runs_so ∙ runs_left after_it e))
            (due_back after_it.ports (subst (AllByRecursion (λ (e : ℕ × Option Creation). IfAwaited e.1)) (sym (on e 0).good.asked_are)
            (on e 0).good.due));
        read = λ x.
            let a : Still x t (hosts_in w.sites) after_it = on e x in
            subst (λ m. IsReadSo m (creations_of v.controller x)) (sym (reading_now x))
            (subst (IsReadSo (asking_in (t ++ after_it.entries) x)) (sym (creations_now x)) a.good.read);
        ends = λ x. subst (λ l. HasSetAside l (link_to v.sites x).controller.side) (sym (creations_now x)) (by_option (site_at w.sites x)
            (λ q. let a : Still x t (hosts_in w.sites) after_it = on e x in
            let gone : EndAt (many x t (hosts_in w.sites) a.asked []) (waits x a.asked ++ []) None =
            subst (EndAt (many x t (hosts_in w.sites) a.asked []) (waits x a.asked ++ [])) (no_site after_it.ports w.sites x a.good.hosts_are q) a.good.end in
            subst (HasSetAside (waits x a.asked ++ [])) (sym (nowhere x q)) (grind arith))
            (λ s q. let a : Still x t (hosts_in w.sites) after_it = on e x in
            let g = goes x s q e in
            subst (HasSetAside (waits x a.asked ++ [])) (sym g.2)
            (ready_is (waits x a.asked ++ []) g.0.side (subst (EndAt (many x t (hosts_in w.sites) a.asked []) (waits x a.asked ++ [])) g.1 a.good.end))));
      } where
        creations_now : (x : ℕ) → creations_of v.controller x ≡ waits x (on e x).asked ++ []
        creations_now x =
            ap (λ o. creations_of o x) (runs_so ∙ runs_left after_it e)
            ∙ (desks_wait x after_it.ports ∙ (ap (waits x) (on e x).good.asked_are ∙ sym (append-nil (waits x (on e x).asked))))

-- ## What a controller knows of the creations that wait, and the blocks that it sets aside for them, are what is read

-- ### Lists

pub some_wait : List Creation → Bool
some_wait [] = false
some_wait (c ∷ l) = true

pub read_some : (r : Option (List ℕ)) (l : List Creation) → IsReadSo r l → is_some r ≡ some_wait l
unfolding some_wait
read_some r l k = grind arith

pub asks_some : (x : ℕ) (ports : List Port) → asks_for ports x ≡ some_wait (waits x (asked_of ports))
unfolding some_wait
asks_some x [] = refl
asks_some x (p ∷ ports) = go (asked_at p) refl (asks_some x ports) where
  go : (o : Option Creation) → asked_at p ≡ o → asks_for ports x ≡ some_wait (waits x (asked_of ports))
      → asks_for (p ∷ ports) x ≡ some_wait (waits x (asked_of (p ∷ ports)))
  go None q later = rw q later
  go (Some c) q later = by_test (eqb c.asker x) (λ e. rw (q, e) refl) (λ e. rw (q, e) later)

pub two_ways : (a b : Bool) → (a ≡ true → b ≡ true) → (b ≡ true → a ≡ true) → a ≡ b
two_ways a b f g = grind arith

-- a creation of this pipe
abbrev pub is_of_pipe : ℕ → Creation → Bool
is_of_pipe pid c = option_map_or (λ (n : ℕ). eqb n pid) (pipe_of c.command) false

any_behind : {X : Type 0} (test : X → Bool) (xs ys : List X) → list_any test ys ≡ true → list_any test (xs ++ ys) ≡ true
any_behind test [] ys e = e
any_behind test (x ∷ xs) ys e = by_test (test x) (λ q. rw q refl) (λ q. rw q (any_behind test xs ys e))

either_true : (a b : Bool) → (a || b) ≡ true → (a ≡ true) ⊎ (b ≡ true)
either_true a b e = grind arith

module _ (pid : ℕ) where
  abbrev is_it : ℕ → Bool
  is_it n = eqb n pid

  -- a pipe that waits is that of a creation of some asker
  pub record HasAsker (ports : List Port) : Type 0 where
    pub asker : ℕ
    pub waits_there : list_any (is_of_pipe pid) (waits asker (asked_of ports)) ≡ true

  pub asker_of : (ports : List Port) → list_any is_it (waiting_pipes ports) ≡ true → HasAsker ports
  asker_of [] e = absurd (true≢false (sym e))
  asker_of (p ∷ ports) e = go (asked_at p) refl (asker_of ports) where
    behind : HasAsker ports → HasAsker (p ∷ ports)
    behind a =
        record { asker = a.asker; waits_there = any_behind (is_of_pipe pid) (one_of a.asker (asked_at p)) (waits a.asker (asked_of ports)) a.waits_there }

    go : (o : Option Creation) → asked_at p ≡ o → (list_any is_it (waiting_pipes ports) ≡ true → HasAsker ports) → HasAsker (p ∷ ports)
    go None q later = behind (later (rw q at e))
    go (Some c) q later = by_pipe (pipe_of c.command) refl where
      by_pipe : (n : Option ℕ) → pipe_of c.command ≡ n → HasAsker (p ∷ ports)
      by_pipe None z = behind (later (rw (q, z) at e))
      by_pipe (Some n) z = by (either_true (eqb n pid) (list_any is_it (waiting_pipes ports)) (rw (q, z) at e)) where
        by : (eqb n pid ≡ true) ⊎ (list_any is_it (waiting_pipes ports) ≡ true) → HasAsker (p ∷ ports)
        by (inl is) =
            record {
              asker = c.asker;
              waits_there = grind arith;
            }
        by (inr tail) = behind (later tail)

  -- and the pipe of a creation of any asker waits
  pub asker_waits : (x : ℕ) (ports : List Port) → list_any (is_of_pipe pid) (waits x (asked_of ports)) ≡ true → list_any is_it (waiting_pipes ports) ≡ true
  asker_waits x [] e = absurd (true≢false (sym e))
  asker_waits x (p ∷ ports) e = go (asked_at p) refl (asker_waits x ports) where
    go : (o : Option Creation) → asked_at p ≡ o
        → (list_any (is_of_pipe pid) (waits x (asked_of ports)) ≡ true → list_any is_it (waiting_pipes ports) ≡ true)
        → list_any is_it (waiting_pipes (p ∷ ports)) ≡ true
    go None q later = rw q (later (rw q at e))
    go (Some c) q later = by (cases_Bool (eqb c.asker x)) where
      skip : list_any is_it (waiting_pipes ports) ≡ true → list_any is_it (waiting_pipes (p ∷ ports)) ≡ true
      skip tail = by_option (pipe_of c.command) (λ z. rw (q, z) tail) (λ n z. rw (q, z) (by_test (eqb n pid) (λ q. rw q refl) (λ q. rw q tail)))

      here : is_of_pipe pid c ≡ true → list_any is_it (waiting_pipes (p ∷ ports)) ≡ true
      here first = by_option (pipe_of c.command)
          (λ z. absurd (true≢false (sym first ∙ ap (λ o. option_map_or (λ (n : ℕ). eqb n pid) o false) z)))
          (λ n z. grind arith)

      by : (eqb c.asker x ≡ true) ⊎ (eqb c.asker x ≡ false) → list_any is_it (waiting_pipes (p ∷ ports)) ≡ true
      by (inr off) = skip (later (rw (q, off) at e))
      by (inl is) = by_first (either_true (is_of_pipe pid c) (list_any (is_of_pipe pid) (waits x (asked_of ports))) (rw (q, is) at e)) where
        by_first : (is_of_pipe pid c ≡ true) ⊎ (list_any (is_of_pipe pid) (waits x (asked_of ports)) ≡ true)
            → list_any is_it (waiting_pipes (p ∷ ports)) ≡ true
        by_first (inl first) = here first
        by_first (inr tail) = skip (later tail)

  -- what is read of one asker
  pub read_pipe : (r : Option (List ℕ)) (l : List Creation) → IsReadSo r l
      → list_any (is_of_pipe pid) l ≡ option_map_or (λ (m : List ℕ). eqb (slice_index m 5) pid) r false
  read_pipe r l k = grind arith

  any_site : (test : ℕ → Bool) (sites : List Site) (x : ℕ) (s : Site) → site_at sites x ≡ Some s → test x ≡ true → list_any test (hosts_in sites) ≡ true
  any_site test [] x s q e = absurd (cc q)
  any_site test (y ∷ sites) x s q e = go (cases_Bool (eqb y.host x)) (any_site test sites x s) where
    tail_true : (b c : Bool) → c ≡ true → (b || c) ≡ true
    tail_true true c z = refl
    tail_true false c z = z

    go : (eqb y.host x ≡ true) ⊎ (eqb y.host x ≡ false) → (site_at sites x ≡ Some s → test x ≡ true → list_any test (hosts_in sites) ≡ true)
        → list_any test (hosts_in (y ∷ sites)) ≡ true
    go (inl is) later =
        ap (λ b. b || list_any test (hosts_in sites)) (ap test (eqb-true y.host x is) ∙ e)
    go (inr off) later = tail_true (test y.host) (list_any test (hosts_in sites)) (later (rw off at q) e)

  pub record Any (test : ℕ → Bool) : Type 0 where
    pub which : ℕ
    pub holds : test which ≡ true

  pub any_of : (test : ℕ → Bool) (xs : List ℕ) → list_any test xs ≡ true → Any test
  any_of test [] e = absurd (true≢false (sym e))
  any_of test (x ∷ xs) e = by (either_true (test x) (list_any test xs) e) (any_of test xs) where
    by : (test x ≡ true) ⊎ (list_any test xs ≡ true) → (list_any test xs ≡ true → Any test) → Any test
    by (inl here) later = record { which = x; holds = here }
    by (inr tail) later = later tail

-- ### The pipe that is given

pub any_asked : (t : List Entry) (pid : ℕ) (hosts : List ℕ) → list_any (λ p. eqb p pid) (asked_pipes t hosts) ≡ list_any (is_asked_pipe t pid) hosts
any_asked t pid [] = refl
any_asked t pid (h ∷ hosts) = by_option (asking_in t h)
    (λ e. rw e (any_asked t pid hosts))
    (λ m e. rw e (ap (λ b. eqb (slice_index m 5) pid || b) (any_asked t pid hosts)))

find_same : (f g : ℕ → Bool) → ((n : ℕ) → f n ≡ g n) → (ns : List ℕ) → find f ns ≡ find g ns
find_same f g same ns = grind arith

-- two lists that keep the same pipes leave the same one
pub given_same : (rows : List PipeRow) (kept other : List ℕ) → ((pid : ℕ) → list_any (λ p. eqb p pid) kept ≡ list_any (λ p. eqb p pid) other)
    → lowest_free rows kept ≡ lowest_free rows other
unfolding lowest_free
given_same rows kept other same =
    find_same (is_free rows kept) (is_free rows other) (λ pid. ap (λ b. is_none (pipe_at rows pid) && not b) (same pid)) (range_with_len 2 110)

-- ### A controller

module _ (hosts : List ℕ) (t : List Entry) (w : NodeWorld) (a : KeepsCreations hosts t w) (r : Running) (runs : w.controller ≡ Some r) where
  abbrev ports : List Port
  ports = ends_between w.sites r

  list_is : (x : ℕ) → creations_of w.controller x ≡ waits x (asked_of ports)
  list_is x =
      ap (λ o. creations_of o x) runs
      ∙ (ap (λ l. creations_at l x) (sym (desks_back (λ n. (link_to w.sites n).controller) r.desks)) ∙ desks_wait x ports)

  read_of : (x : ℕ) → IsReadSo (asking_in t x) (waits x (asked_of ports))
  read_of x = subst (IsReadSo (asking_in t x)) (list_is x) (a.read x)

  -- an asker is a host of the world
  in_hosts : (pid x : ℕ) → list_any (is_of_pipe pid) (waits x (asked_of ports)) ≡ true → list_any (is_asked_pipe t pid) hosts ≡ true
  in_hosts pid x e = by_option (site_at w.sites x)
      (λ q. let none : length (waits x (asked_of ports)) ≡ 0 =
      ap length (sym (list_is x)) ∙ (sym (a.ends x).aside ∙ ap (λ (z : LinkEnd). z.aside) (none_side w.sites x q)) in
      absurd (true≢false (sym e ∙ by_list (waits x (asked_of ports))
      (λ q. rw q refl)
      (λ c l q. rw q (absurd (omega (arith, rw q at none)))))))
      (λ s q. subst (λ l. list_any (is_asked_pipe t pid) l ≡ true) a.kept.hosts_are
      (any_site pid (is_asked_pipe t pid) w.sites x s q (sym (read_pipe pid (asking_in t x) (waits x (asked_of ports)) (read_of x)) ∙ e)))

  waiting_is : (pid : ℕ) → list_any (λ p. eqb p pid) (waiting_pipes ports) ≡ list_any (is_asked_pipe t pid) hosts
  waiting_is pid =
      two_ways (list_any (λ p. eqb p pid) (waiting_pipes ports)) (list_any (is_asked_pipe t pid) hosts)
      (λ e. let s : HasAsker pid ports = asker_of pid ports e in in_hosts pid s.asker s.waits_there)
      (λ e. let s : Any pid (is_asked_pipe t pid) = any_of pid (is_asked_pipe t pid) hosts e in
      asker_waits pid s.which ports ((read_pipe pid (asking_in t s.which) (waits s.which (asked_of ports)) (read_of s.which)) ∙ s.holds))

  known_is : KnowsAsRead hosts t ports
  known_is = record {
    asks = λ h. asks_some h ports ∙ sym (read_some (asking_in t h) (waits h (asked_of ports)) (read_of h));
    waiting = waiting_is;
    given = λ rows. given_same rows (waiting_pipes ports) (asked_pipes t hosts) (λ pid. waiting_is pid ∙ sym (any_asked t pid hosts));
  }

pub if_known : (hosts : List ℕ) (t : List Entry) (w : NodeWorld) → KeepsCreations hosts t w → IfKnowsAsRead hosts t w.sites w.controller
if_known hosts t w a = by_option w.controller (λ e. rw e tt) (λ r e. rw e (known_is hosts t w a r e))

-- ### Blocks

aside_is : (hosts : List ℕ) (t : List Entry) (w : NodeWorld) → KeepsCreations hosts t w → (h : ℕ)
    → aside_in t (end_c h) ≡ (link_to w.sites h).controller.side.aside
aside_is hosts t w a h = go (asking_in t h) (creations_of w.controller h) (a.read h) ∙ sym (a.ends h).aside where
  go : (r : Option (List ℕ)) (l : List Creation) → IsReadSo r l → cond (is_some r) 1 0 ≡ length l
  go r l k = grind arith

none_aside : (sites : List Site) (h : ℕ) → AllByRecursion HasNoneAside sites → (link_to sites h).host.side.aside ≡ 0
none_aside [] h a = refl
none_aside (s ∷ sites) h a = by_test (eqb s.host h) (λ is. rw is a.0) (λ off. rw off (none_aside sites h a.1))

pub asides_are : (hosts : List ℕ) (t : List Entry) (w : NodeWorld) → KeepsCreations hosts t w → AsidesAreRead t w
asides_are hosts t w a h = (aside_is hosts t w a h, sym (none_aside w.sites h a.hosts_aside))

-- while a creation waits there is room for its answer, once the block for it is released
pub finds_room : (hosts : List ℕ) (t : List Entry) (w : NodeWorld) → KeepsCreations hosts t w → (h : ℕ) (message answer : List ℕ)
    → asking_in t h ≡ Some message → length answer ≤ 32 → give_refusal (turn (link_to w.sites h).controller.side Release) (1, answer) ≡ None
finds_room hosts t w a h message answer e short =
    takes_short (turn side Release) answer (ready.up (some l (grind arith))) short (omega (arith, ready.room, ready.aside, one l (grind arith)))
  where
    side : LinkEnd
    side = (link_to w.sites h).controller.side

    l : List Creation
    l = creations_of w.controller h

    ready : HasSetAside l side
    ready = a.ends h

    some : (l : List Creation) → IsReadSo (Some message) l → l ≡ [] → ⊥
    some l k z = grind arith

    one : (l : List Creation) → IsReadSo (Some message) l → length l ≡ 1
    one l k = grind arith
