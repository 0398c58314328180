-- What is known of each link by what was noted so far lasts: each event of a world but a tick leaves each link told.
use Rattle.node_laws.proofs.Words.{AllByRecursion, AtController, AtEnd, AtHost, Bool, Clf, Comes, Controller, CutOff, Deed, Desk, End, EndEvent, Entry, HasEnds}
use Rattle.node_laws.proofs.Words.{Host, IfItRuns, IfOff, IsClf, IsLinkTold, IsOrderly, IsUicc, Link, LinkEnd, LinkEvent, LinkInput, List, Lose, Loss, Memory}
use Rattle.node_laws.proofs.Words.{NoInput, NodeWorld, None, NumberedEnd, Option, Role, Running, Site, Some, Standing, StandsOf, Step, TellOf, Turn, Uicc, Work}
use Rattle.node_laws.proofs.Words.{[], after_controller, after_host, after_link_events, after_planned, ap, append-nil, arith, arrival, begins_with, boot_found}
use Rattle.node_laws.proofs.Words.{boot_writes, boot_written, boots, by_boot, by_coming, by_controller, by_counts, by_memory, by_option, by_power, by_running}
use Rattle.node_laws.proofs.Words.{by_test, changed_if, changed_same, comes_at, comes_to, cond, controller_does, controller_work, count_of, counts, ending_of}
use Rattle.node_laws.proofs.Words.{entries, entries_for, eqb-true, errors_all, event_entries, exchanged, false, first_lost, fold-append, frame_lost, happens}
use Rattle.node_laws.proofs.Words.{happens_at_controller, host_cut, host_does, host_work, hosts_in, input_of, kept, law_noted, link_after_controller, link_to}
use Rattle.node_laws.proofs.Words.{links_of, loses_power_at, map, memory_at, near_end_in, new_clf, new_desk, new_line, new_link_end, new_standing, new_uicc}
use Rattle.node_laws.proofs.Words.{of_link, refl, renewed, runs_on, same_number, site_at, standing, standing_by_law, stands_noted, steps, subst, sym, true}
use Rattle.node_laws.proofs.Words.{turns_at, with_memory, with_node, with_site, work_of, ℕ, ◌++◌, ◌==◌, ◌∙◌, ◌∷◌, ◌≡◌}
use Rattle.node_laws.proofs.links.Works.{AreFine, IsFineWork, all_done_fine, steps_fine}
use Rattle.node_laws.proofs.links.Sites.{MayCome, can_come, can_end, clf_line, here_clf, here_host, here_uicc, run_of_more, uicc_line}
use Rattle.node_laws.proofs.links.Worlds.{AreTrueDesks, AtHostOnly, CanReach, IsFineNode, IsFineSite, IsFineWorld, fine_clean, may_here, memory_fine}
use Rattle.node_laws.proofs.links.Worlds.{near_clean, near_end_clean, plain_reach, ports_fine, turns_fine}
use Rattle.node_laws.proofs.order.Wires.{AreReady, Shown, ShownBy, clear_unstarted, shown_more, shown_same, step_shown}
use Rattle.node_laws.proofs.order.Marking.{AreUnnoticed, HasNoNotices, IfNone, all_done_none, runs_none, steps_none}
use Rattle.node_laws.proofs.order.Watches.{IsStepOf, WatchedLink, kept_left, opened, watched}
use Rattle.node_laws.proofs.readings.Noticed.{far_side}
use Rattle.node_laws.proofs.telling.Accounts.{AreMute, of-append}
use Rattle.node_laws.proofs.telling.Events.{HostDoes, controller_stands, controller_tells, entries-append, host_does_begin, host_does_step, is_step, link_is}
use Rattle.node_laws.proofs.telling.Events.{memory_goes, node_is, other_power, own_power, ports_for, site_host, site_is, site_map, swapped}
use Rattle.node_laws.proofs.telling.Steps.{IsStep, notes-append}
use Rattle.node_laws.proofs.telling.Shapes.{clear_lost, clear_stands, entries_uncut, shaped_step}
use Rattle.node_laws.proofs.turns.Nodes.{site_none}
use Rattle.trace_model.specs.declared.entry.Entry.TheVariants as entry

-- ## What is known of each link of a world of nodes by what was noted so far, and how it lasts as links go on

-- ### One link

-- one event more
pub told_more : (h : ℕ) (l : Link) (e : LinkEvent) (t u : List Entry) → IsStepOf h l e u → IsLinkTold h l t → IsLinkTold h (happens l e) (t ++ u)
told_more h l e t u n a =
    let O : List Entry → List Entry = of_link h in
    let es : List LinkEvent = a.events in
    let last : entries (after_link_events new_line es) (e ∷ []) ≡ event_entries l e =
    append-nil (event_entries (after_link_events new_line es) e) ∙ ap (λ k. event_entries k e) a.run.is in
    let from : (x : Standing) → standing h x (t ++ u) ≡ standing_by_law h x (entries new_line (es ++ e ∷ [])) =
    λ x.
    let y : Standing = standing_by_law h x (entries new_line es) in
    fold-append (stands_noted h) x t u
    ∙ (ap (λ z. standing h z u) (a.stands_from x)
    ∙ (n.stands y
    ∙ (ap (standing_by_law h y) (sym last)
    ∙ sym (ap (standing_by_law h x) (entries-append es (e ∷ []) new_line)
    ∙ fold-append (law_noted h) x (entries new_line es) (entries (after_link_events new_line es) (e ∷ [])))))) in
    record {
      events = es ++ e ∷ [];
      run = run_of_more es l e n.can a.run;
      told =
          of-append h t u
          ∙ (ap (λ z. z ++ O u) a.told
          ∙ (ap (λ z. O (entries_for h (entries new_line es)) ++ z) (n.tells ∙ ap (λ z. O (entries_for h z)) (sym last))
          ∙ sym (ap (λ z. O (entries_for h z)) (entries-append es (e ∷ []) new_line)
          ∙ notes-append h (entries new_line es) (entries (after_link_events new_line es) (e ∷ [])))));
      stands = from new_standing;
      stands_from = from;
    }

-- these entries tell nothing of a link
record LeaveLink (h : ℕ) (u : List Entry) : Type 0 where
  pub none : of_link h u ≡ []
  pub stands : (x : Standing) → standing h x u ≡ x

told_same : (h : ℕ) (l : Link) (t u : List Entry) → LeaveLink h u → IsLinkTold h l t → IsLinkTold h l (t ++ u)
told_same h l t u q a =
    let from : (x : Standing) → standing h x (t ++ u) ≡ standing_by_law h x (entries new_line a.events) =
    λ x. fold-append (stands_noted h) x t u ∙ (q.stands (standing h x t) ∙ a.stands_from x) in
    record {
      events = a.events;
      run = a.run;
      told = of-append h t u ∙ (ap (λ z. of_link h t ++ z) q.none ∙ (append-nil (of_link h t) ∙ a.told));
      stands = from new_standing;
      stands_from = from;
    }

-- ### Ends whose nodes lose power

pub renewed_clf : (r : Role) → IsClf (renewed r) → new_link_end (renewed r) ≡ new_link_end (Clf new_clf)
renewed_clf r a = grind arith

pub renewed_uicc : (r : Role) → IsUicc (renewed r) → new_link_end (renewed r) ≡ new_link_end (Uicc new_uicc)
renewed_uicc r a = grind arith

-- an end is new after a step in which something came, or its node had turns, and its power went
record IsCutNew (e : LinkEnd) : Type 0 where
  role : Role
  is : e ≡ new_link_end (renewed role)

cut_new : (l : Link) (comes : Comes) (ts : List Turn) (o : Option LinkInput) → input_of l comes ≡ o → IsStep comes o
    → IsCutNew (happens_at_controller l (Step comes ts CutOff)).controller.side
cut_new l comes ts o q c = grind arith

cut_clf : (l : Link) (comes : Comes) (ts : List Turn) (o : Option LinkInput) → input_of l comes ≡ o → IsStep comes o → IsClf l.controller.side.role
    → (happens_at_controller l (Step comes ts CutOff)).controller.side ≡ new_link_end (Clf new_clf)
cut_clf l comes ts o q c a =
    let z = cut_new l comes ts o q c in
    z.is ∙ renewed_clf z.role (subst (λ (e : LinkEnd). IsClf e.role) z.is (here_clf l (Step comes ts CutOff) a))

cut_uicc : (l : Link) (comes : Comes) (ts : List Turn) (o : Option LinkInput) → input_of l comes ≡ o → IsStep comes o → IsUicc l.controller.side.role
    → (happens_at_controller l (Step comes ts CutOff)).controller.side ≡ new_link_end (Uicc new_uicc)
cut_uicc l comes ts o q c a =
    let z = cut_new l comes ts o q c in
    z.is ∙ renewed_uicc z.role (subst (λ (e : LinkEnd). IsUicc e.role) z.is (here_uicc l (Step comes ts CutOff) a))

-- ### Worlds

-- the link with a host is told, its wires are those that are read, its ends are new while their nodes don't run, and its host has no
-- notice of a controller
pub record Knows (t : List Entry) (x : WatchedLink) (o : Option Running) (h : ℕ) (s : Site) : Type 0 where
  pub told : IsLinkTold h s.link t
  pub shown : Shown s.link x
  pub near : IfOff o (new_link_end (Clf new_clf)) s.link.controller.side
  pub far : IfOff s.node (new_link_end (Uicc new_uicc)) s.link.host.side
  pub none : IfNone s.node

-- so it is with each link
abbrev pub Each : List Entry → (ℕ → WatchedLink) → NodeWorld → Type 0
Each t X w = (h : ℕ) (s : Site) → site_at w.sites h ≡ Some s → Knows t (X h) w.controller h s

-- how each link stands behind more entries
abbrev pub later : (ℕ → WatchedLink) → List Entry → ℕ → WatchedLink
later X u h = watched h (X h) u

-- where each link stands alike, and no more is known of it
pub each_known : (t : List Entry) (X Y : ℕ → WatchedLink) (w : NodeWorld) → ((h : ℕ) → (Y h).stands ≡ (X h).stands)
    → ((h : ℕ) → (Y h).since ≡ true → (X h).since ≡ true) → ((h : ℕ) → (Y h).whole ≡ true → (X h).whole ≡ true) → Each t X w → Each t Y w
each_known t X Y w stands since whole a h s found =
    let b : Knows t (X h) w.controller h s = a h s found in
    record {
      told = b.told;
      shown = record {
        wires = subst (ShownBy (kept s.link)) (sym (stands h)) b.shown.wires;
        since = λ z. b.shown.since (since h z);
        ready = λ z. subst (AreReady s.link) (sym (stands h)) (b.shown.ready (whole h z));
      };
      near = b.near;
      far = b.far;
      none = b.none;
    }

-- nothing was noted
each_empty : (t : List Entry) (X : ℕ → WatchedLink) (w : NodeWorld) → Each t X w → Each (t ++ []) (later X []) w
each_empty t X w a =
    let P : List Entry → Type 0 = λ z. Each z (later X []) w in
    subst P (sym (append-nil t)) (each_known t X (later X []) w (λ h. refl) (λ h q. kept_left (X h).since true q) (λ h q. q) a)

each_back : (t : List Entry) (X : ℕ → WatchedLink) (w : NodeWorld) → Each (t ++ []) (later X []) w → Each t X w
each_back t X w a =
    subst (λ (z : List Entry). Each z X w) (append-nil t) (each_known (t ++ []) (later X []) X w (λ h. refl) (λ h q. rw q refl) (λ h q. q) a)

pub each_alike : (t : List Entry) (X Y : ℕ → WatchedLink) (w : NodeWorld) → ((h : ℕ) → X h ≡ Y h) → Each t X w → Each t Y w
each_alike t X Y w same a h s found = subst (λ x. Knows t x w.controller h s) (same h) (a h s found)

-- a changed site was one of those before
pub record WasThere (f : Site → Site) (sites : List Site) (h : ℕ) (v : Site) : Type 0 where
  pub site : Site
  pub there : site_at sites h ≡ Some site
  pub is : f site ≡ v

pub was_there : (f : Site → Site) → ((s : Site) → (f s).host ≡ s.host) → (sites : List Site) (h : ℕ) (v : Site) → site_at (map f sites) h ≡ Some v
    → WasThere f sites h v
was_there f keeps sites h v q = by_option (site_at sites h)
    (λ e. let is : None ≡ Some v = sym (site_none f keeps sites h e) ∙ q in absurd (cc is))
    (λ s e. let is : Some (f s) ≡ Some v = sym (site_map f keeps sites h s e) ∙ q in
    record { site = s; there = e; is = cc })

module _ (w : NodeWorld) (memory : Memory) (o : Option Running) (t u : List Entry) (X : ℕ → WatchedLink) where
  -- each site becomes another one
  each_map : (Y : ℕ → WatchedLink) (f : Site → Site) → ((s : Site) → (f s).host ≡ s.host)
      → ((h : ℕ) (s : Site) → site_at w.sites h ≡ Some s → Knows t (X h) w.controller h s → Knows (t ++ u) (Y h) o h (f s)) → Each t X w
      → Each (t ++ u) Y (record { memory = memory; controller = o; sites = map f w.sites })
  each_map Y f keeps one a h v q =
      let was = was_there f keeps w.sites h v q in
      subst (λ (s : Site). Knows (t ++ u) (Y h) o h s) was.is (one h was.site was.there (a h was.site was.there))

  -- one becomes another one, and nothing is told of the others
  each_site : (k : ℕ) (g : Site → Site) → ((s : Site) → (g s).host ≡ s.host)
      → ((r : ℕ) (s : Site) → IfOff w.controller (new_link_end (Clf new_clf)) s.link.controller.side
      → IfOff o (new_link_end (Clf new_clf)) s.link.controller.side)
      → ((s : Site) → site_at w.sites k ≡ Some s → Knows t (X k) w.controller k s → Knows (t ++ u) (later X u k) o k (g s))
      → ((h : ℕ) → (k == h) ≡ false → LeaveLink h u) → Each t X w
      → Each (t ++ u) (later X u) (record { memory = memory; controller = o; sites = map (λ (s : Site). changed_if (s.host == k) g s) w.sites })
  each_site k g keeps off own others a =
      each_map (later X u) (λ (s : Site). changed_if (s.host == k) g s) (λ s. changed_same (λ (x : Site). x.host) (s.host == k) g s keeps)
      (λ h s found b. go h s found b (s.host == k) refl) a
    where
      go : (h : ℕ) (s : Site) → site_at w.sites h ≡ Some s → Knows t (X h) w.controller h s → (b : Bool) → (s.host == k) ≡ b
          → Knows (t ++ u) (later X u h) o h (changed_if b g s)
      go h s found b true q =
          let is : k ≡ h = sym (eqb-true s.host k q) ∙ site_host w.sites h s found in
          let Q : ℕ → Type 0 = λ n. Knows t (X n) w.controller n s in
          subst (λ (n : ℕ). Knows (t ++ u) (later X u n) o n (g s)) is (own s (ap (site_at w.sites) is ∙ found) (subst Q (sym is) b))
      go h s found b false q =
          let leave : LeaveLink h u = others h (swapped h k (ap (λ n. n == k) (sym (site_host w.sites h s found)) ∙ q)) in
          record {
            told = told_same h s.link t u leave b.told;
            shown = shown_same h s.link (X h) u (leave.stands (X h).stands) b.shown;
            near = off h s b.near;
            far = b.far;
            none = b.none;
          }

-- ## Each event of a world but a tick leaves each link told

-- a world that is orderly, and whose nodes send what may be sent
pub record IsWell (w : NodeWorld) : Type 0 where
  pub orderly : IsOrderly w
  pub fine : IsFineWorld w

-- what happens at the controller's end leaves the host's
near_side : (l : Link) (e : EndEvent) → (happens l (AtController e)).host.side ≡ l.host.side
near_side l e = ap (λ (h : NumberedEnd). h.side) (here_host l e)

-- ### Steps of the controller

module _ (w : NodeWorld) (t : List Entry) (X : ℕ → WatchedLink) (a : IsWell w) (each : Each t X w) (k : ℕ) (comes : Comes) (i : LinkInput) (may : MayCome comes)
    (q : input_of (link_to w.sites k) comes ≡ Some i) where
  module _ (r : Running) (runs : w.controller ≡ Some r) where
    abbrev v : Work
    v = controller_work w r k comes (steps (AtEnd k i))

    abbrev u : List Entry
    u = (after_controller w k comes v).1

    abbrev near_ends : ℕ → NumberedEnd
    near_ends j = near_end_in (link_to w.sites j) (comes_to k comes j)

    desks : AreTrueDesks r.desks
    desks = subst IsFineNode runs a.fine.controller

    done : IsFineWork v
    done =
        steps_fine (AtEnd k i) (work_of r w.memory.plan near_ends (entries_for k (arrival Controller (link_to w.sites k) comes)))
        (ports_fine near_ends
        (λ j. near_end_clean (link_to w.sites j) (comes_to k comes j) (near_clean w.sites j (fine_clean w.sites a.fine.sites))) r.desks desks)

    node : HasEnds 0 (hosts_in w.sites) r
    node = node_is 0 (hosts_in w.sites) w.controller r a.orderly.controller runs

    -- how each link stands behind it
    abbrev Y : ℕ → WatchedLink
    Y h = watched h (opened (comes_to k comes h) (X h)) u

    -- what happens at its end of a link
    abbrev pub near_event : Site → LinkEvent
    near_event s = AtController (Step (comes_to k comes s.host) (turns_at v s.host) (ending_of v))

    pub near_step : (h : ℕ) (s : Site) → site_at w.sites h ≡ Some s → IsStepOf h s.link (near_event s) u
    near_step h s there =
        let fine : IsFineSite s = site_is IsFineSite w.sites h s a.fine.sites there in
        let number : s.host ≡ h = site_host w.sites h s there in
        let P : ℕ → Type 0 = λ m. TellOf h s.link (AtController (Step (comes_to k comes m) (turns_at v m) (ending_of v))) u in
        let S : ℕ → Type 0 = λ m. StandsOf h s.link (AtController (Step (comes_to k comes m) (turns_at v m) (ending_of v))) u in
        record {
          can = (
            can_come s.link (comes_to k comes s.host) (may_here k comes s.host may) fine.link.line.clf,
            (
              turns_fine v s.host done,
              can_end s.link.controller.side.role (ending_of v)
                  (clf_line s.link.controller.side.role fine.link.line.clf),
            ),
          );
          tells = subst P (sym number) (controller_tells w r k comes h s a.orderly node there i q);
          stands = subst S (sym number) (controller_stands w r k comes h s a.orderly node there i q);
        }

    one : (h : ℕ) (s : Site) → site_at w.sites h ≡ Some s → Knows t (X h) w.controller h s
        → Knows (t ++ u) (Y h) (runs_on v) h (link_after_controller k comes v s)
    one h s there b =
        let fine : IsFineSite s = site_is IsFineSite w.sites h s a.fine.sites there in
        let here : Comes = comes_to k comes s.host in
        let e : LinkEvent = near_event s in
        let n : IsStepOf h s.link e u = near_step h s there in
        record {
          told = told_more h s.link e t u n b.told;
          shown = let W : ℕ → Type 0 = λ m. Shown (happens s.link e) (watched h (opened (comes_to k comes m) (X h)) u) in
              subst W (site_host w.sites h s there) (step_shown h s.link e t u (X h) b.told n b.shown Controller here (ending_of v)
              (shaped_step Controller s.link here (turns_at v s.host) (ending_of v) (cond (s.host == k) (Some i) None) (arrives (s.host == k) refl)
              (grind arith)));
          near = off v.cut refl fine.link.line.clf;
          far = subst (IfOff s.node (new_link_end (Uicc new_uicc))) (sym (near_side s.link (Step here (turns_at v s.host) (ending_of v)))) b.far;
          none = b.none;
        }
      where
        arrives : (b : Bool) → (s.host == k) ≡ b → input_of s.link (cond b comes NoInput) ≡ cond b (Some i) None
        arrives true e =
            ap (λ l. input_of l comes) (sym (ap (link_to w.sites) (sym (eqb-true s.host k e) ∙ site_host w.sites h s there) ∙ link_is w.sites h s there)) ∙ q
        arrives false e = refl

        off : (c : Bool) → v.cut ≡ c → IsClf s.link.controller.side.role
            → IfOff (runs_on v) (new_link_end (Clf new_clf))
            (happens s.link (AtController (Step (comes_to k comes s.host) (turns_at v s.host) (ending_of v)))).controller.side
        off true e clf =
            let none : runs_on v ≡ None = rw e refl in
            let G : Option Running → Type 0 = λ o. IfOff o (new_link_end (Clf new_clf))
            (happens s.link (AtController (Step (comes_to k comes s.host) (turns_at v s.host) (ending_of v)))).controller.side in
            subst G (sym none)
            (ap (λ x. (happens s.link (AtController (Step (comes_to k comes s.host) (turns_at v s.host) x))).controller.side) (rw e refl)
            ∙ cut_clf s.link (comes_to k comes s.host) (turns_at v s.host) (cond (s.host == k) (Some i) None) (arrives (s.host == k) refl)
            (grind arith) clf)
        off false e clf = grind arith

    pub after : Each (t ++ u) Y (after_controller w k comes v).0
    after = each_map w (after_planned v.writes w.memory) (runs_on v) t u X Y (link_after_controller k comes v) (λ s. refl) one each

  controller_each : ((h : ℕ) → opened (comes_to k comes h) (X h) ≡ X h)
      → Each (t ++ (controller_does w k comes (steps (AtEnd k i))).1) (later X (controller_does w k comes (steps (AtEnd k i))).1)
      (controller_does w k comes (steps (AtEnd k i))).0
  controller_each plain =
      by_controller (λ z. Each (t ++ z.1) (later X z.1) z.0) w k comes (steps (AtEnd k i)) (each_empty t X w each)
      (λ r e. each_alike (t ++ u r e) (Y r e) (later X (u r e)) (after_controller w k comes (v r e)).0
      (λ h. ap (λ x. watched h x (u r e)) (plain h)) (after r e))

-- ### Steps of a host

module _ (w : NodeWorld) (t : List Entry) (X : ℕ → WatchedLink) (a : IsWell w) (each : Each t X w) (k : ℕ) (comes : Comes) (f : Work → Work)
    (reach : AllByRecursion (AtHostOnly (CanReach comes) k) w.sites)
    (does : (s : Site) (r : Running) → site_at w.sites k ≡ Some s → s.node ≡ Some r → HostDoes w k comes f s r)
    (fine : (v : Work) → IsFineWork v → IsFineWork (f v)) (plain : (v : Work) → HasNoNotices v → HasNoNotices (f v))
    (o : Option LinkInput) (so : IsStep comes o)
    (q : (s : Site) → site_at w.sites k ≡ Some s → input_of (exchanged s.link) comes ≡ o)
    (plain_wires : (s : Site) → site_at w.sites k ≡ Some s → opened comes (X k) ≡ X k) where
  module _ (s : Site) (there : site_at w.sites k ≡ Some s) (r : Running) (runs : s.node ≡ Some r) where
    abbrev worked : Work
    worked = host_work s r comes f

    abbrev noted : List Entry
    noted = (host_does w k comes f).1

    site_fine : IsFineSite s
    site_fine = site_is IsFineSite w.sites k s a.fine.sites there

    number : s.host ≡ k
    number = site_host w.sites k s there

    host_desks : AreTrueDesks r.desks
    host_desks = subst IsFineNode runs site_fine.node

    host_done : IsFineWork worked
    host_done =
        fine (work_of r s.memory.plan (λ j. near_end_in (exchanged s.link) comes) (entries_for s.host (arrival Host (exchanged s.link) comes)))
        (ports_fine (λ j. near_end_in (exchanged s.link) comes) (λ j. near_end_clean (exchanged s.link) comes site_fine.link.line.far) r.desks host_desks)

    -- what happens at its end
    abbrev pub far_event : LinkEvent
    far_event = AtHost (Step comes (turns_at worked s.host) (ending_of worked))

    pub far_step : IsStepOf k s.link far_event noted
    far_step =
        let told : HostDoes w k comes f s r = does s r there runs in
        record {
          can = (
            site_is (AtHostOnly (CanReach comes) k) w.sites k s reach there (ap (λ n. n == k) number ∙ same_number k),
            (
              turns_fine worked s.host host_done,
              can_end s.link.host.side.role (ending_of worked)
                  (uicc_line s.link.host.side.role site_fine.link.line.uicc),
            ),
          );
          tells = told.own;
          stands = told.stands;
        }

    own : Knows t (X k) w.controller k s → Knows (t ++ noted) (later X noted k) w.controller k (after_host comes worked s)
    own b =
        let e : LinkEvent = far_event in
        let n : IsStepOf k s.link e noted = far_step in
        let N : LinkEnd → Type 0 = IfOff w.controller (new_link_end (Clf new_clf)) in
        record {
          told = told_more k s.link e t noted n b.told;
          shown = subst (λ x. Shown (happens s.link e) (watched k x noted)) (plain_wires s there)
              (step_shown k s.link e t noted (X k) b.told n b.shown Host comes (ending_of worked)
              (shaped_step Host (exchanged s.link) comes (turns_at worked s.host) (ending_of worked) o (q s there) so));
          near = subst N (sym (far_side s.link (Step comes (turns_at worked s.host) (ending_of worked)))) b.near;
          far = off worked.cut refl;
          none = runs_none worked (plain _ (record { host = host; none = ports_none r.desks (subst IfNone runs b.none) }));
        }
      where
        host : (r.core.node == 0) ≡ false
        host =
            let node : HasEnds s.host (s.host ∷ []) r =
            node_is s.host (s.host ∷ []) s.node r (site_is (λ (x : Site). IfItRuns x.host (x.host ∷ []) x.node) w.sites k s a.orderly.nodes there) runs in
            ap (λ n. n == 0) node.number ∙ site_is (λ (x : Site). (x.host == 0) ≡ false) w.sites k s a.orderly.hosts there

        ports_none : (ds : List Desk) → AllByRecursion (λ (d : Desk). d.notice ≡ None) ds
            → AllByRecursion (λ p. p.desk.notice ≡ None) (ports_for (λ j. near_end_in (exchanged s.link) comes) ds)
        ports_none [] n = tt
        ports_none (d ∷ ds) n = (n.0, ports_none ds n.1)

        off : (c : Bool) → worked.cut ≡ c
            → IfOff (runs_on worked) (new_link_end (Uicc new_uicc))
            (happens_at_controller (exchanged s.link) (Step comes (turns_at worked s.host) (ending_of worked))).controller.side
        off true e =
            let none : runs_on worked ≡ None = rw e refl in
            let G : Option Running → Type 0 = λ o. IfOff o (new_link_end (Uicc new_uicc))
            (happens_at_controller (exchanged s.link) (Step comes (turns_at worked s.host) (ending_of worked))).controller.side in
            subst G (sym none)
            (ap (λ x. (happens_at_controller (exchanged s.link) (Step comes (turns_at worked s.host) x)).controller.side) (rw e refl)
            ∙ cut_uicc (exchanged s.link) comes (turns_at worked s.host) o (q s there) so site_fine.link.line.uicc)
        off false e = grind arith

  pub host_each : Each (t ++ (host_does w k comes f).1) (later X (host_does w k comes f).1) (host_does w k comes f).0
  host_each = by_option (site_at w.sites k)
      (λ e. rw e (each_empty t X w each))
      (λ s there. by_option s.node
      (λ n. rw (there, n) (each_empty t X w each))
      (λ r n.
      let u : List Entry = (host_does w k comes f).1 in
      subst (λ (z : NodeWorld). Each (t ++ u) (later X u) z) (sym (on_is s r there n))
      (each_site w w.memory w.controller t u X k (after_host comes (host_work s r comes f)) (λ x. refl) (λ h x b. b)
      (λ x found b.
      let same : Some s ≡ Some x = sym there ∙ found in
      let one : s ≡ x = cc in
      let R : Site → Type 0 = λ z. Knows t (X k) w.controller k z → Knows (t ++ u) (later X u k) w.controller k (after_host comes (host_work s r comes f) z) in
      subst R one (own s there r n) b)
      (λ h z. record { none = (does s r there n).others h z; stands = (does s r there n).leaves h z }) each)))
    where
      on_is : (s : Site) (r : Running) → site_at w.sites k ≡ Some s → s.node ≡ Some r
          → (host_does w k comes f).0 ≡ record w { sites = with_site k (after_host comes (host_work s r comes f)) w.sites }
      on_is s r e n = rw (e, n) refl

-- ### What comes to an end

pub comes_each : (w : NodeWorld) (t : List Entry) (X : ℕ → WatchedLink) (e : End) (comes : Comes) → IsWell w → Each t X w → MayCome comes
    → AllByRecursion (AtHostOnly (CanReach comes) e.link) w.sites → ((x : WatchedLink) → opened comes x ≡ x)
    → Each (t ++ (comes_at w e comes).1) (later X (comes_at w e comes).1) (comes_at w e comes).0
comes_each w t X e comes a each may reach plain =
    by_coming (λ z. Each (t ++ z.1) (later X z.1) z.0) w e comes (each_empty t X w each)
    (λ i at q.
    let input : (s : Site) → site_at w.sites e.link ≡ Some s → input_of (exchanged s.link) comes ≡ Some i = grind arith in
    host_each w t X a each e.link comes (steps (AtEnd e.link i)) reach
    (λ s n found runs. host_does_step w s n e.link a.orderly found runs comes i (input s found))
    (λ v b. steps_fine (AtEnd e.link i) v b) (λ v b. steps_none (AtEnd e.link i) v b) (Some i) (is_step comes i) input (λ s found. plain (X e.link)))
    (λ i at q. controller_each w t X a each e.link comes i may q (λ h. grind arith))

pub begins_each : (w : NodeWorld) (t : List Entry) (X : ℕ → WatchedLink) (k : ℕ) (deeds : List Deed) → AreMute deeds → AreFine deeds → AreUnnoticed deeds
    → IsWell w → Each t X w
    → Each (t ++ (host_does w k NoInput (begins_with k deeds)).1) (later X (host_does w k NoInput (begins_with k deeds)).1)
    (host_does w k NoInput (begins_with k deeds)).0
begins_each w t X k deeds m f u a each =
    host_each w t X a each k NoInput (begins_with k deeds) (plain_reach k NoInput tt w.sites)
    (λ s r found runs. host_does_begin w s r k a.orderly found runs deeds m) (λ v b. all_done_fine k deeds v f b) (λ v b. all_done_none k deeds v u b)
    None tt (λ s found. refl) (λ s found. refl)

-- ### Power and memories

-- where only the memory of a host and its node change, and nothing is told
each_beside : (w : NodeWorld) (t u : List Entry) (X : ℕ → WatchedLink) (k : ℕ) (memory : Site → Memory) (node : Site → Option Running)
    → ((s : Site) → (IfOff s.node (new_link_end (Uicc new_uicc)) s.link.host.side → IfOff (node s) (new_link_end (Uicc new_uicc)) s.link.host.side)
    × (IfNone s.node → IfNone (node s))) → ((h : ℕ) → LeaveLink h u) → Each t X w
    → Each (t ++ u) (later X u) (record w { sites = with_site k (λ s. record s { memory = memory s; node = node s }) w.sites })
each_beside w t u X k memory node changes q each =
    each_site w w.memory w.controller t u X k (λ s. record s { memory = memory s; node = node s }) (λ s. refl) (λ h s b. b)
    (λ s found b. record {
      told = told_same k s.link t u (q k) b.told;
      shown = shown_same k s.link (X k) u ((q k).stands (X k).stands) b.shown;
      near = b.near;
      far = (changes s).0 b.far;
      none = (changes s).1 b.none;
    })
    (λ h z. q h) each

pub memory_each : (n : ℕ) (m : Memory) (w : NodeWorld) (t : List Entry) (X : ℕ → WatchedLink) → Each t X w → Each (t ++ []) (later X []) (with_memory n m w)
memory_each n m w t X each =
    by_memory (λ v. Each (t ++ []) (later X []) v) n w m (λ q. each_empty t X (record w { memory = m }) (λ h s found. each h s found))
    (λ q. each_beside w t [] X n (λ s. m) (λ s. s.node) (λ s. (λ b. b, λ b. b)) (λ h. record { none = refl; stands = λ x. refl }) each)

pub power_each : (n : ℕ) (w : NodeWorld) (t : List Entry) (X : ℕ → WatchedLink) → IsWell w → Each t X w
    → Each (t ++ entry.Cut n ∷ []) (later X (entry.Cut n ∷ [])) (loses_power_at n w)
power_each n w t X a each =
    by_power (λ v. Each (t ++ u) (later X u) v) n w
    (λ zero.
    each_map w w.memory None t u X (later X u) (λ (s : Site). record s { link = happens s.link (AtController near) }) (λ s. refl)
    (λ h s found b.
    let fine : IsFineSite s = site_is IsFineSite w.sites h s a.fine.sites found in
    let n : IsStepOf h s.link (AtController near) u = record {
      can = (tt, (tt, clf_line s.link.controller.side.role fine.link.line.clf));
      tells = refl;
      stands = λ x. rw zero refl;
    } in
    record {
      told = told_more h s.link (AtController near) t u n b.told;
      shown = shown_more h s.link (AtController near) t u (X h) b.told n b.shown (tt, tt);
      near = cut_clf s.link NoInput [] None refl tt fine.link.line.clf;
      far = subst (IfOff s.node (new_link_end (Uicc new_uicc))) (sym (near_side s.link near)) b.far;
      none = b.none;
    }) each)
    (λ zero.
    each_site w w.memory w.controller t u X n host_cut (λ s. refl) (λ h s b. b)
    (λ s found b.
    let fine : IsFineSite s = site_is IsFineSite w.sites n s a.fine.sites found in
    let step : IsStepOf n s.link (AtHost near) u = record {
      can = (tt, (tt, uicc_line s.link.host.side.role fine.link.line.uicc));
      tells = refl;
      stands = own_power n zero;
    } in
    record {
      told = told_more n s.link (AtHost near) t u step b.told;
      shown = shown_more n s.link (AtHost near) t u (X n) b.told step b.shown (tt, tt);
      near = subst (IfOff w.controller (new_link_end (Clf new_clf))) (sym (far_side s.link near)) b.near;
      far = cut_uicc (exchanged s.link) NoInput [] None refl tt fine.link.line.uicc;
      none = tt;
    }) (λ h z. record { none = refl; stands = other_power n h zero z }) each)
  where
    u : List Entry
    u = entry.Cut n ∷ []

    near : EndEvent
    near = Step NoInput [] CutOff

new_none : (hosts : List ℕ) → AllByRecursion (λ (d : Desk). d.notice ≡ None) (map new_desk hosts)
new_none [] = tt
new_none (h ∷ hosts) = (refl, new_none hosts)

node_each : (n : ℕ) (r : Running) (w : NodeWorld) (t u : List Entry) (X : ℕ → WatchedLink) → IfNone (Some r) → ((h : ℕ) → LeaveLink h u) → Each t X w
    → Each (t ++ u) (later X u) (with_node n r w)
node_each n r w t u X none q each =
    by_running (λ v. Each (t ++ u) (later X u) v) n w r
    (λ zero h s found.
    let b : Knows t (X h) w.controller h s = each h s found in
    record {
      told = told_same h s.link t u (q h) b.told;
      shown = shown_same h s.link (X h) u ((q h).stands (X h).stands) b.shown;
      near = tt;
      far = b.far;
      none = b.none;
    })
    (λ zero. each_beside w t u X n (λ s. s.memory) (λ s. Some r) (λ s. (λ b. tt, λ b. none)) q each)

pub boots_each : (w : NodeWorld) (t : List Entry) (X : ℕ → WatchedLink) (n : ℕ) → IsWell w → Each t X w
    → Each (t ++ (boots w n).1) (later X (boots w n).1) (boots w n).0
boots_each w t X n a each =
    by_boot (λ z. Each (t ++ z.1) (later X z.1) z.0) w n (power_each n (boot_written w n) t X well kept)
    (node_each n (boot_found w n) (boot_written w n) t (entry.Booted n (count_of (boot_found w n).core.journal) ∷ []) X (new_none (links_of w n))
    (λ h. record { none = refl; stands = λ x. refl }) kept)
  where
    m : Memory
    m = after_planned (boot_writes (memory_at w n).content) (memory_at w n)

    kept : Each t X (boot_written w n)
    kept = each_back t X (boot_written w n) (memory_each n m w t X each)

    well : IsWell (boot_written w n)
    well = record { orderly = (memory_goes n m w a.orderly).orderly; fine = memory_fine n m w a.fine }

-- ### Losses

counts_none : (why : Loss) (h : ℕ) (o : Option Running) → IfNone o → IfNone (counts why h o)
counts_none why h o a = by_counts IfNone why h o a (λ r q. errors_all (λ d. d.notice ≡ None) (λ d n b. b) h r.desks (subst IfNone q a))

counts_off : (why : Loss) (h : ℕ) (o : Option Running) (new e : LinkEnd) → IfOff o new e → IfOff (counts why h o) new e
counts_off why h o new e a = grind arith

pub lost_each : (w : NodeWorld) (t : List Entry) (X : ℕ → WatchedLink) (e : End) (why : Loss) → Each t X w
    → Each (t ++ (frame_lost w e why).1) (later X (frame_lost w e why).1) (frame_lost w e why).0
lost_each w t X e why each = by_test e.at_host
    (λ q. rw q (each_site w w.memory w.controller t to_host X e.link
    (λ s. record s { link = happens s.link (AtHost (Lose why)); node = counts why e.link s.node }) (λ s. refl) (λ h s b. b)
    (λ s there b.
    let told : TellOf e.link s.link (AtHost (Lose why)) to_host = grind arith in
    let n : IsStepOf e.link s.link (AtHost (Lose why)) to_host = record {
      can = tt;
      tells = told;
      stands = clear_stands e.link to_host (first_lost Host why s.link.to_host)
          (entries_uncut e.link (first_lost Host why (link_to w.sites e.link).to_host)) (clear_lost Host why s.link.to_host) told;
    } in
    record {
      told = told_more e.link s.link (AtHost (Lose why)) t to_host n b.told;
      shown = shown_more e.link s.link (AtHost (Lose why)) t to_host (X e.link) b.told n b.shown
          (clear_unstarted (first_lost Host why s.link.to_host) (clear_lost Host why s.link.to_host));
      near = b.near;
      far = counts_off why e.link s.node (new_link_end (Uicc new_uicc)) s.link.host.side b.far;
      none = counts_none why e.link s.node b.none;
    })
    (λ h z. grind arith) each))
    (λ q. rw q (each_site w w.memory (counts why e.link w.controller) t to_controller X e.link
    (λ s. record s { link = happens s.link (AtController (Lose why)) }) (λ s. refl)
    (λ h s b. counts_off why e.link w.controller (new_link_end (Clf new_clf)) s.link.controller.side b)
    (λ s there b.
    let told : TellOf e.link s.link (AtController (Lose why)) to_controller =
    ap (λ (l : Link). of_link e.link (entries_for e.link (first_lost Controller why l.to_controller))) (link_is w.sites e.link s there) in
    let n : IsStepOf e.link s.link (AtController (Lose why)) to_controller = record {
      can = tt;
      tells = told;
      stands = clear_stands e.link to_controller (first_lost Controller why s.link.to_controller)
          (entries_uncut e.link (first_lost Controller why (link_to w.sites e.link).to_controller)) (clear_lost Controller why s.link.to_controller) told;
    } in
    record {
      told = told_more e.link s.link (AtController (Lose why)) t to_controller n b.told;
      shown = shown_more e.link s.link (AtController (Lose why)) t to_controller (X e.link) b.told n b.shown
          (clear_unstarted (first_lost Controller why s.link.to_controller) (clear_lost Controller why s.link.to_controller));
      near = counts_off why e.link w.controller (new_link_end (Clf new_clf)) s.link.controller.side b.near;
      far = b.far;
      none = b.none;
    })
    (λ h z. grind arith) each))
  where
    to_host : List Entry
    to_host = entries_for e.link (first_lost Host why (link_to w.sites e.link).to_host)

    to_controller : List Entry
    to_controller = entries_for e.link (first_lost Controller why (link_to w.sites e.link).to_controller)
