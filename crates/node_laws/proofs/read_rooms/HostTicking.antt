-- What is known of the end of a host as it begins to go through its messages in its tick, and of worlds behind the events of a history.
use Rattle.node_laws.proofs.Words.{AllByRecursion, AreDifferent, ArePortsRead, AreSendableTurns, AsksReset, AtController, AtEnd, Before, Bool, Comes}
use Rattle.node_laws.proofs.Words.{Controller, Desk, Entry, HasEnds, HoldsInStep, Host, IfItRuns, IsLinkTold, IsNode, IsOrderly, IsTimely, Link, LinkEvent}
use Rattle.node_laws.proofs.Words.{LinkInput, List, NoInput, Node, NodeWorld, None, NoneDue, Noted, NumberedEnd, Occurrence, Port, Reset, Running, Site, Some}
use Rattle.node_laws.proofs.Words.{Start, Starts, Step, Tick, TimePasses, Work, [], after_controller, after_input, after_sessions, aged, all_aged, all_come, ap}
use Rattle.node_laws.proofs.Words.{append-nil, append_assoc, by_option, comes_at, comes_to, comes_to_pass, controller_begins, controller_tick_begins}
use Rattle.node_laws.proofs.Words.{controller_ticks, controller_work, core_of, end_c, ended_by, ending_of, entries_in, exchanged, false, forgets, has_come}
use Rattle.node_laws.proofs.Words.{host_begins_step, host_ended, host_finished, host_tick_begins, hosts_in, hosts_of_ends, hosts_tick, input_of, is_some}
use Rattle.node_laws.proofs.Words.{link_after_controller, link_to, map, number_now, refl, reset_late, rests_of, same_number, site_at, step_entries, steps}
use Rattle.node_laws.proofs.Words.{subst, sym, times_out, true, turned, turns_at, with_ended, with_older, without_notice, without_power, ℕ, ◌++◌, ◌==◌, ◌∙◌}
use Rattle.node_laws.proofs.Words.{◌∷◌, ◌≡◌}
use Rattle.link_laws.proofs.entries.Books.{plus, plus-blank, read, read-append}
use Rattle.link_laws.proofs.entries.Hearing.{Passes, heard, heard-append, own_heard, passes-append, tick_heard}
use Rattle.link_laws.proofs.entries.Noting.{Near as NearOf}
use Rattle.link_laws.proofs.entries.Stepping.{OfOne, front_read, one-append, one_input, one_step}
use Rattle.node_laws.proofs.kept.Doing.{hosts_map}
use Rattle.node_laws.proofs.kept.Events.{hosts_same}
use Rattle.node_laws.proofs.links.Sites.{Clean, can_end, clf_line}
use Rattle.node_laws.proofs.links.Works.{steps_fine}
use Rattle.node_laws.proofs.links.Worlds.{IsFineSite, IsFineWorld, controller_fine, ports_fine}
use Rattle.node_laws.proofs.order.Events.{WasThere, near_step, told_more, was_there}
use Rattle.node_laws.proofs.order.Lines.{IsSo, of_none, watches}
use Rattle.node_laws.proofs.order.Ticking.{aged_clean, near_none, near_sends, some_desks, timely}
use Rattle.node_laws.proofs.order.Watches.{IsStepOf}
use Rattle.node_laws.proofs.read_rooms.Beginning.{begun_fine, carries_from, comes_carried, host_carried, only_end, pass_carried}
use Rattle.node_laws.proofs.read_rooms.Carrying.{AreNoted, Carries, IsCarried, Says, are_noted, before_near, far_says, has_ticked_so, its_notes, noted_more}
use Rattle.node_laws.proofs.read_rooms.Carrying.{noted_then, says_silent, step_read}
use Rattle.node_laws.proofs.read_rooms.Ticking.{aged_notes, aged_notes_clear, says_aged, tick_carried}
use Rattle.node_laws.proofs.steps.StepWalks.{forgets_host, late_host, without_host}
use Rattle.node_laws.proofs.telling.Events.{comes_goes, host_opened, hosts_same_of_nodes, node_is, site_host, site_is, swapped}
use Rattle.node_laws.proofs.telling.Shapes.{came_uncut, twice}
use Rattle.node_laws.proofs.telling.Steps.{Opening}
use Rattle.node_laws.proofs.telling.Ticks.{in_time, not_late}
use Rattle.node_laws.proofs.telling.WorldTicks.{aged_uncut, between, first, near_notes, old_told, other_hosts, others_leave, ticked_orderly, young_ports}
use Rattle.node_laws.proofs.turns.Nodes.{site_none}

-- ## What is known of the end of a host as it begins to go through its messages in its tick, behind the ticks of the controller and of other hosts

-- ### What the tick of the controller's end notes says nothing of the host's

says_other : (t u : List Noted) (k : NumberedEnd) → OfOne Controller u → Passes Host u → Says t Host k → Says (t ++ u) Host k
says_other t u k one passes a =
    record {
      books = λ n.
          read-append t u Host n
          ∙ (ap (plus (read t Host n)) (front_read Controller u u ([], append-nil u) one n) ∙ (plus-blank (read t Host n) ∙ a.books n));
      session = heard-append Host None t u ∙ (ap (λ z. heard Host z u) a.session ∙ passes (number_now k));
      sound = a.sound;
    }

near_one : (b : Bool) (l : Link) (c : Node) → OfOne Controller (near_notes b l c)
near_one true l c =
    one-append Controller (step_entries Controller l (AsksReset None) c.turns c.ending) [] (one_step Controller l (AsksReset None) c.turns c.ending) tt
near_one false l c =
    one_input Controller l (with_ended l (is_some (ended_by l.controller.side Tick))) l.controller Tick (after_input l.controller.side Tick) c.turns c.ending

near_passes : (b : Bool) (l : Link) (c : Node) → IsNode l c.turns c.ending → NearOf l → Passes Host (near_notes b l c)
near_passes true l c can near =
    passes-append Host (step_entries Controller l (AsksReset None) c.turns c.ending) []
    (own_heard Controller l (Step (AsksReset None) c.turns c.ending) tt (tt, can) near).there (λ s. refl)
near_passes false l c can near = (tick_heard Controller l c can near).there

near_host : (b : Bool) (l : Link) (c : Node) → (between b l c).host ≡ l.host
near_host true l c =
    let d : Bool = is_some (ended_by l.controller.side (Reset None)) in
    host_finished (with_ended l d) (turned (after_input l.controller.side (Reset None)) c.turns) c.ending ∙ host_ended l d
near_host false l c =
    let d : Bool = is_some (ended_by l.controller.side Tick) in
    host_finished (with_ended l d) (turned (after_input l.controller.side Tick) c.turns) c.ending ∙ host_ended l d

aged_near : (l : Link) → Before l → NearOf (aged l)
aged_near l b = record { tells = b.tells; rests = rests_of 0 0 (core_of l) b.safe; sound = b.sound }

-- ### Hosts before it

others_before : (before behind : List Site) (x : Site) → AreDifferent (hosts_in (before ++ x ∷ behind))
    → AllByRecursion (λ n. (n == x.host) ≡ false) (hosts_in before)
others_before [] behind x d = tt
others_before (y ∷ before) behind x d = (swapped x.host y.host (one before d.0), others_before before behind x d.1)
  where
    one : (sites : List Site) → AllByRecursion (λ k. (k == y.host) ≡ false) (hosts_in (sites ++ x ∷ behind)) → (x.host == y.host) ≡ false
    one [] a = a.0
    one (z ∷ sites) a = one sites a.1

found_there : (before behind : List Site) (x : Site) → AllByRecursion (λ n. (n == x.host) ≡ false) (hosts_in before) → (x.host == x.host) ≡ true
    → site_at (before ++ x ∷ behind) x.host ≡ Some x
found_there [] behind x a same = rw same refl
found_there (y ∷ before) behind x a same = let other = a.0 in rw other (found_there before behind x a.1 same)

first_all : (P : Site → Type 0) (before behind : List Site) → AllByRecursion P (before ++ behind) → AllByRecursion P before
first_all P [] behind a = tt
first_all P (x ∷ before) behind a = (a.0, first_all P before behind a.1)

-- ### The tick of a host

module _ (w : NodeWorld) (t : List Entry) (orderly : IsOrderly w) (fine : IsFineWorld w)
    (told : (h : ℕ) (s : Site) → site_at w.sites h ≡ Some s → IsLinkTold h s.link t)
    (timely : (h : ℕ) (s : Site) → site_at w.sites h ≡ Some s → IsTimely w h s) where
  abbrev old : NodeWorld
  old = (all_aged w).0

  abbrev near : NodeWorld × List Entry
  near = controller_ticks old

  near_well : IsOrderly (record { memory = old.memory; controller = None; sites = near.0.sites })
  near_well = ticked_orderly w orderly

  module _ (h : ℕ) (s : Site) (found : site_at w.sites h ≡ Some s) (before : List Site) (others : AllByRecursion (λ n. (n == h) ≡ false) (hosts_in before))
      (numbers : AllByRecursion (λ (x : Site). (x.host == 0) ≡ false) before)
      (nodes : AllByRecursion (λ (x : Site). IfItRuns x.host (x.host ∷ []) x.node) before) where
    abbrev late : Bool
    late = (first w h s orderly found (timely h s found)).late

    abbrev had : Node
    had = (first w h s orderly found (timely h s found)).had

    abbrev mine : Site
    mine = record s { link = between late (aged s.link) had }

    abbrev front : List Entry
    front = ((t ++ (all_aged w).1) ++ near.1) ++ (hosts_tick before).1

    abbrev notes : List Noted
    notes = ((its_notes h s.link t (told h s found) ++ aged_notes s.link) ++ near_notes late (aged s.link) had) ++ []

    site_fine : IsFineSite s
    site_fine = site_is IsFineSite w.sites h s fine.sites found

    noted : AreNoted h front notes
    noted =
        let a = first w h s orderly found (timely h s found) in
        let N : List Noted = its_notes h s.link t (told h s found) in
        noted_then h ((t ++ (all_aged w).1) ++ near.1) (hosts_tick before).1 ((N ++ aged_notes s.link) ++ near_notes late (aged s.link) had) []
        (other_hosts h before numbers nodes others) (others_leave h before numbers nodes others)
        (noted_then h (t ++ (all_aged w).1) near.1 (N ++ aged_notes s.link) (near_notes late (aged s.link) had) a.told a.stands
        (noted_more h t (all_aged w).1 N (aged_notes s.link) (aged_uncut w h s orderly found (timely h s found) w.sites)
        (aged_notes_clear s.link) (old_told w h s orderly found (timely h s found)) (are_noted h s.link t (told h s found))))

    can : IsNode (aged s.link) had.turns had.ending
    can = (
      subst AreSendableTurns (sym (first w h s orderly found (timely h s found)).turns)
          (near_sends old h w.controller (aged_clean w.sites fine.sites) fine.controller),
      can_end s.link.controller.side.role had.ending (clf_line s.link.controller.side.role site_fine.link.line.clf),
    )

    says : Says notes Host mine.link.host
    says =
        let N : List Noted = its_notes h s.link t (told h s found) in
        subst (λ (k : NumberedEnd). Says notes Host k) (sym (near_host late (aged s.link) had))
        (says_silent ((N ++ aged_notes s.link) ++ near_notes late (aged s.link) had) [] Host s.link.host (λ y n. refl) (λ z. refl)
        (says_other (N ++ aged_notes s.link) (near_notes late (aged s.link) had) s.link.host (near_one late (aged s.link) had)
        (near_passes late (aged s.link) had can (aged_near s.link (before_near h s.link t (told h s found))))
        (says_aged N Host s.link.host s.link (far_says h s.link t (told h s found)))))

    module _ (r : Running) (runs : s.node ≡ Some r) where
      abbrev start : Work
      start = host_tick_begins mine r

      abbrev come : Work
      come = times_out TimePasses (all_come TimePasses start)

      abbrev begun : Work
      begun = record come { core = after_sessions come.core come.ports; ports = map without_notice (map (forgets come.ports) come.ports) }

      number : (s.host == 0) ≡ false
      number = site_is (λ (x : Site). (x.host == 0) ≡ false) w.sites h s orderly.hosts found

      node : HasEnds s.host (s.host ∷ []) r
      node = node_is s.host (s.host ∷ []) s.node r (site_is (λ (x : Site). IfItRuns x.host (x.host ∷ []) x.node) w.sites h s orderly.nodes found) runs

      young : NoneDue (Some r)
      young = subst NoneDue runs (timely h s found).young

      begun_hosts : hosts_of_ends begun.ports ≡ s.host ∷ []
      begun_hosts =
          let ticked : List Port = map (λ p. has_come p (Some Tick)) start.ports in
          hosts_map without_notice without_host (map (forgets come.ports) come.ports)
          ∙ (hosts_map (forgets come.ports) (forgets_host come.ports) come.ports
          ∙ (hosts_map reset_late late_host (map with_older ticked)
          ∙ (hosts_map with_older (λ p. refl) ticked
          ∙ (hosts_map (λ p. has_come p (Some Tick)) (λ p. refl) start.ports ∙ (hosts_same_of_nodes (λ j. mine.link.host) r.desks ∙ node.ends)))))

      carries_own : Carries front s.host Host begun
      carries_own =
          let a : Opening s.host Host (exchanged mine.link) NoInput start = host_opened mine r NoInput number node in
          carries_from front s.host Host (exchanged mine.link) NoInput (Some Tick) false notes begun number
          (subst (λ (n : ℕ). AreNoted n front notes) (sym (site_host w.sites h s found)) noted) (has_ticked_so notes Host (exchanged mine.link) says)
          (in_time s.host Host (exchanged mine.link) start a come.ports
          (not_late a.port (young_ports (λ j. mine.link.host) r.desks s.host a.port young a.here)))

      host_tick_carried : IsCarried front Host (comes_to_pass TimePasses start)
      host_tick_carried =
          let C : NumberedEnd → Type 0 = λ k. Clean k.side in
          pass_carried front Host TimePasses start (record {
            carry = record {
              uncut = λ _. came_uncut 0 0 (without_power Controller) (λ x. refl) (twice Controller) TimePasses start tt;
              each = λ k p here. subst (λ (k : ℕ). Carries front k Host begun) (only_end begun.ports s.host k p begun_hosts here) carries_own;
            };
            fine = begun_fine TimePasses start
                (ports_fine (λ j. mine.link.host) (λ j. subst C (sym (near_host late (aged s.link) had)) site_fine.link.line.far) r.desks
                (some_desks s.node r runs site_fine.node));
          })

  module _ (x : Site) (before behind : List Site) (split : near.0.sites ≡ before ++ x ∷ behind) (r : Running) (runs : x.node ≡ Some r) where
    others : AllByRecursion (λ n. (n == x.host) ≡ false) (hosts_in before)
    others = others_before before behind x (subst (λ (z : List Site). AreDifferent (hosts_in z)) split near_well.different)

    there : site_at near.0.sites x.host ≡ Some x
    there = ap (λ z. site_at z x.host) split ∙ found_there before behind x others (same_number x.host)

    numbers : AllByRecursion (λ (s : Site). (s.host == 0) ≡ false) before
    numbers =
        first_all (λ (s : Site). (s.host == 0) ≡ false) before (x ∷ behind) (subst (AllByRecursion (λ (s : Site). (s.host == 0) ≡ false)) split near_well.hosts)

    nodes : AllByRecursion (λ (s : Site). IfItRuns s.host (s.host ∷ []) s.node) before
    nodes =
        let A : List Site → Type 0 = AllByRecursion (λ (s : Site). IfItRuns s.host (s.host ∷ []) s.node) in
        first_all (λ (s : Site). IfItRuns s.host (s.host ∷ []) s.node) before (x ∷ behind) (subst A split near_well.nodes)

    host_tick_read : HoldsInStep (ArePortsRead Host (t ++ ((all_aged w).1 ++ (near.1 ++ (hosts_tick before).1)))) TimePasses (host_tick_begins x r)
    host_tick_read = by_option (site_at w.sites x.host)
        (λ e. let none : None ≡ Some x =
        sym (near_none old x.host (site_none (λ (s : Site). record s { link = aged s.link }) (λ s. refl) w.sites x.host e)) ∙ there in
        absurd (cc none))
        (λ s e. some s e runs)
      where
        all : List Entry
        all = t ++ ((all_aged w).1 ++ (near.1 ++ (hosts_tick before).1))

        Goal : Site → Type 0
        Goal z = z.node ≡ Some r → HoldsInStep (ArePortsRead Host all) TimePasses (host_tick_begins z r)

        some : (s : Site) → site_at w.sites x.host ≡ Some s → Goal x
        some s found =
            let z : Site = mine x.host s found before others numbers nodes in
            let same : Some z ≡ Some x = sym (first w x.host s orderly found (timely x.host s found)).there ∙ there in
            let is : z ≡ x = cc in
            let P : List Entry → Type 0 = λ u. HoldsInStep (ArePortsRead Host u) TimePasses (host_tick_begins z r) in
            let own : Goal z = λ q.
            subst P (append_assoc (t ++ (all_aged w).1) near.1 (hosts_tick before).1 ∙ append_assoc t (all_aged w).1 (near.1 ++ (hosts_tick before).1))
            (step_read Host (front x.host s found before others numbers nodes) TimePasses (host_tick_begins z r)
            (host_tick_carried x.host s found before others numbers nodes r q)) in
            subst Goal is own

-- ## Of hosts in worlds behind the events of a history

-- the link of this host is told, in a world that is in order
record IsToldAt (w : NodeWorld) (t : List Entry) (h : ℕ) (s : Site) : Type 0 where
  orderly : IsOrderly w
  fine : IsFineWorld w
  found : site_at w.sites h ≡ Some s
  told : IsLinkTold h s.link t

-- something comes to the end of such a host
own_read : (w : NodeWorld) (t : List Entry) (h : ℕ) (s : Site) → IsToldAt w t h s → (r : Running) → s.node ≡ Some r → (comes : Comes) (i : LinkInput)
    → input_of (exchanged s.link) comes ≡ Some i → HoldsInStep (ArePortsRead Host t) (AtEnd h i) (host_begins_step s r comes)
own_read w t h s a r runs comes i q =
    let is : s.host ≡ h = site_host w.sites h s a.found in
    let number : (s.host == 0) ≡ false = site_is (λ (x : Site). (x.host == 0) ≡ false) w.sites h s a.orderly.hosts a.found in
    let node : HasEnds s.host (s.host ∷ []) r =
    node_is s.host (s.host ∷ []) s.node r (site_is (λ (x : Site). IfItRuns x.host (x.host ∷ []) x.node) w.sites h s a.orderly.nodes a.found) runs in
    let T : ℕ → Type 0 = λ n. IsLinkTold n s.link t in
    let P : ℕ → Type 0 = λ n. HoldsInStep (ArePortsRead Host t) (AtEnd n i) (host_begins_step s r comes) in
    subst P is (step_read Host t (AtEnd s.host i) (host_begins_step s r comes)
    (host_carried t s (site_is IsFineSite w.sites h s a.fine.sites a.found) (subst T (sym is) a.told) r runs number node comes i q))

module _ (hosts : List ℕ) (os : List Occurrence) (w : NodeWorld) (a : IsSo hosts os w) where
  -- a frame or a reset
  pub host_read : (h : ℕ) (s : Site) → site_at w.sites h ≡ Some s → (r : Running) → s.node ≡ Some r → (comes : Comes) (i : LinkInput)
      → input_of (exchanged s.link) comes ≡ Some i → HoldsInStep (ArePortsRead Host (entries_in os)) (AtEnd h i) (host_begins_step s r comes)
  host_read h s found r runs comes i q =
      own_read w (entries_in os) h s (record { orderly = a.well.orderly; fine = a.well.fine; found = found; told = (a.each h s found).told })
      r runs comes i q

  -- activation, which has begun at the controller's end before
  module _ (h power : ℕ) where
    abbrev f : Work → Work
    f = steps (AtEnd h (Start power))

    abbrev near_of_host_lines : NodeWorld × List Entry
    near_of_host_lines = comes_at w (end_c h) (Starts power)

    near_fine : IsFineWorld near_of_host_lines.0
    near_fine = controller_fine w h (Starts power) f tt (λ v fine. steps_fine (AtEnd h (Start power)) v fine) a.well.fine

    near_told : (s : Site) → site_at near_of_host_lines.0.sites h ≡ Some s → IsLinkTold h s.link (entries_in os ++ near_of_host_lines.1)
    near_told s = by_option w.controller (λ e. rw e off_goal) (λ r e. rw e (on_goal r e))
      where
        Goal : NodeWorld × List Entry → Type 0
        Goal z = site_at z.0.sites h ≡ Some s → IsLinkTold h s.link (entries_in os ++ z.1)

        off_goal : Goal (w, [])
        off_goal there =
            let P : List Entry → Type 0 = λ z. IsLinkTold h s.link z in subst P (sym (append-nil (entries_in os))) (a.each h s there).told

        on_goal : (r : Running) → w.controller ≡ Some r → Goal (after_controller w h (Starts power) (controller_work w r h (Starts power) f))
        on_goal r e there =
            let v : Work = controller_work w r h (Starts power) f in
            let u : List Entry = (after_controller w h (Starts power) v).1 in
            let was : WasThere (link_after_controller h (Starts power) v) w.sites h s =
            was_there (link_after_controller h (Starts power) v) (λ x. refl) w.sites h s there in
            let x : Site = was.site in
            let event : LinkEvent = AtController (Step (comes_to h (Starts power) x.host) (turns_at v x.host) (ending_of v)) in
            let n : IsStepOf h x.link event u =
            near_step w (entries_in os) (watches of_none os) a.well a.each h (Starts power) (Start power) tt refl r e h x was.there in
            subst (λ (z : Site). IsLinkTold h z.link (entries_in os ++ u)) was.is (told_more h x.link event (entries_in os) u n (a.each h x was.there).told)

    pub activated_read : (s : Site) → site_at near_of_host_lines.0.sites h ≡ Some s → (r : Running) → s.node ≡ Some r → (sync : ℕ)
        → HoldsInStep (ArePortsRead Host (entries_in os ++ near_of_host_lines.1)) (AtEnd h (Start sync)) (host_begins_step s r (Starts sync))
    activated_read s found r runs sync =
        own_read near_of_host_lines.0 (entries_in os ++ near_of_host_lines.1) h s (record {
          orderly = (comes_goes w (end_c h) (Starts power) a.well.orderly).orderly;
          fine = near_fine;
          found = found;
          told = near_told s found;
        }) r runs (Starts sync) (Start sync) refl

  -- its tick, behind those of the controller and of these hosts
  pub ticked_read : (x : Site) (before behind : List Site) → (controller_ticks (all_aged w).0).0.sites ≡ before ++ x ∷ behind → (r : Running)
      → x.node ≡ Some r
      → HoldsInStep
      (ArePortsRead Host (entries_in os ++ ((all_aged w).1 ++ ((controller_ticks (all_aged w).0).1 ++ (hosts_tick before).1)))) TimePasses
      (host_tick_begins x r)
  ticked_read x before behind split r runs =
      host_tick_read w (entries_in os) a.well.orderly a.well.fine (λ h s found. (a.each h s found).told)
      (λ h s found. timely w (entries_in os) _ h s a.up found (a.each h s found)) x before behind split r runs

-- ## Of worlds behind the events of a history

module _ (hosts : List ℕ) (os : List Occurrence) (w : NodeWorld) (a : IsSo hosts os w) (r : Running) (runs : w.controller ≡ Some r) where
  pub comes_read : (k : ℕ) (comes : Comes) (i : LinkInput) → input_of (link_to w.sites k) comes ≡ Some i
      → HoldsInStep (ArePortsRead Controller (entries_in os)) (AtEnd k i) (controller_begins w r k comes)
  comes_read k comes i q =
      step_read Controller (entries_in os) (AtEnd k i) (controller_begins w r k comes)
      (comes_carried w (entries_in os) a.well.orderly a.well.fine (λ h s found. (a.each h s found).told) r runs k comes i q)

  pub tick_read : HoldsInStep (ArePortsRead Controller (entries_in os ++ (all_aged w).1)) TimePasses (controller_tick_begins (all_aged w).0 r)
  tick_read =
      let node : HasEnds 0 (hosts_in w.sites) r = node_is 0 (hosts_in w.sites) w.controller r a.well.orderly.controller runs in
      let ends : map (λ (d : Desk). d.host) r.desks ≡ hosts_in (all_aged w).0.sites =
      node.ends ∙ sym (hosts_same (λ (s : Site). record s { link = aged s.link }) (λ s. refl) w.sites) in
      step_read Controller (entries_in os ++ (all_aged w).1) TimePasses (controller_tick_begins (all_aged w).0 r)
      (tick_carried w (entries_in os) a.well.orderly a.well.fine (λ h s found. (a.each h s found).told)
      (λ h s found. timely w (entries_in os) _ h s a.up found (a.each h s found)) r runs ends)
