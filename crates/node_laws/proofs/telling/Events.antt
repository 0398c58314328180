-- Each event of a world but a tick tells of each link, by the steps of the controller and of hosts.
use Rattle.node_laws.proofs.Words.{Activates, AllByRecursion, AreDifferent, Arms, AsksReset, AtController, AtEnd, AtHost, Bare, Bool, Boots, Broken, Comes}
use Rattle.node_laws.proofs.Words.{Controller, CutOff, Deed, Desk, EachGoesSo, End, Entry, Gives, GoesSo, Happening, HasEnds, Host, IfItRuns, Inits, IsCut}
use Rattle.node_laws.proofs.Words.{IsOrderly, IsUntimed, Link, LinkEvent, LinkInput, List, Lose, Loses, Loss, Memory, Message, NextFrame, NoInput, NodeWorld}
use Rattle.node_laws.proofs.Words.{None, NumberedEnd, Option, Port, Resets, Running, Site, Some, Standing, StandsOf, Starts, Step, Takes, TellOf, Ticks, Work}
use Rattle.node_laws.proofs.Words.{[], activates, after_controller, after_host, after_host_step, after_link_events, after_planned, after_power, ap, append-nil}
use Rattle.node_laws.proofs.Words.{append_assoc, arith, arrival, beginning, begins_with, boot_found, boot_writes, boot_written, boots, by_boot, by_coming}
use Rattle.node_laws.proofs.Words.{by_controller, by_host, by_loss, by_memory, by_power, by_running, by_test, changed_if, comes_at, comes_to, cond}
use Rattle.node_laws.proofs.Words.{controller_does, controller_work, count_of, counts, end_c, end_h, ending_of, entries, entries_for, eqb-true, event_entries}
use Rattle.node_laws.proofs.Words.{exchanged, false, first_lost, flat_map, found, frame_lost, frames_noted, happens, host_cut, host_does, host_work, hosts_in}
use Rattle.node_laws.proofs.Words.{hosts_of_ends, if◌then◌else◌, input_of, is_command_message, link_after_controller, link_to, links_of, loses_power_at, map}
use Rattle.node_laws.proofs.Words.{memory_at, ne_eqb, near_end_in, new_link, number_of, of_link, option_map_or, port_at, port_for, refl, runs_on, same_number}
use Rattle.node_laws.proofs.Words.{sending, site_at, site_lost, standing, step_entries, steps, subst, sym, true, true≢false, turns_at, wires_for, with_memory}
use Rattle.node_laws.proofs.Words.{with_node, with_site, without_power, work_of, world_step, ℕ, ◌&&◌, ◌++◌, ◌==◌, ◌∙◌, ◌∷◌, ◌≡◌}
use Rattle.node_laws.specs.telling.Telling.{Tells}
use Rattle.node_laws.proofs.kept.Booting.{new_hosts as new_ends}
use Rattle.node_laws.proofs.kept.Events.{changed_host, error_hosts as errors_ends, hosts_same}
use Rattle.node_laws.proofs.telling.Accounts.{AreMute, AreUncut, at_host, of-append, of_other}
use Rattle.node_laws.proofs.telling.Steps.{Away, Goes, IsStep, Keeps, Opening, away_begun, away_steps, begins_keep, begun, closed, frames_of, notes-append}
use Rattle.node_laws.proofs.telling.Steps.{only, runs_keep, stepped, steps_keep}
use Rattle.node_laws.proofs.telling.Shapes.{IsAtEnd, all_frames, begins_powered, comes_stands, entries_uncut, own_frames, shaped_step, step_away, steps_powered}
use Rattle.node_laws.proofs.telling.Shapes.{twice}
use Rattle.trace_model.specs.declared.entry.Entry.TheVariants as entry

-- ## What the steps of a controller and of hosts tell of each link

-- ### Lists

pub swapped : (h k : ℕ) → (h == k) ≡ false → (k == h) ≡ false
swapped h k q = ne_eqb k h (λ z. true≢false (sym (ap (λ y. h == y) z ∙ same_number h) ∙ q))

pub site_host : (sites : List Site) (h : ℕ) (s : Site) → site_at sites h ≡ Some s → s.host ≡ h
site_host [] h s q = cc
site_host (x ∷ sites) h s q = by_test (x.host == h)
    (λ e. grind arith)
    (λ e. site_host sites h s (rw e at q))

pub link_is : (sites : List Site) (h : ℕ) (s : Site) → site_at sites h ≡ Some s → link_to sites h ≡ s.link
link_is sites h s q = ap (λ o. option_map_or (λ (x : Site). x.link) o (new_link Bare Bare)) q

-- the ends of a node as a step begins
abbrev pub ports_for : (ℕ → NumberedEnd) → List Desk → List Port
ports_for near_ends desks = map (λ (d : Desk). port_for (near_ends d.host) d) desks

pub hosts_same_of_nodes : (near_ends : ℕ → NumberedEnd) (desks : List Desk) → hosts_of_ends (ports_for near_ends desks) ≡ map (λ (d : Desk). d.host) desks
hosts_same_of_nodes near_ends [] = refl
hosts_same_of_nodes near_ends (d ∷ desks) = ap (λ xs. d.host ∷ xs) (hosts_same_of_nodes near_ends desks)

-- one of them is on the link with a host
pub record Stands (near_ends : ℕ → NumberedEnd) (desks : List Desk) (h : ℕ) : Type 0 where
  pub desk : Desk
  pub here : port_at (ports_for near_ends desks) h ≡ Some (port_for (near_ends h) desk)

pub stands : (near_ends : ℕ → NumberedEnd) (desks : List Desk) (sites : List Site) (h : ℕ) (s : Site) → map (λ (d : Desk). d.host) desks ≡ hosts_in sites
    → site_at sites h ≡ Some s → Stands near_ends desks h
stands near_ends [] [] h s e q = absurd (cc q)
stands near_ends (d ∷ desks) [] h s e q = absurd (cc q)
stands near_ends [] (x ∷ sites) h s e q = absurd (cc e)
stands near_ends (d ∷ desks) (x ∷ sites) h s e q = by_test (x.host == h)
    (λ f. let found : (d.host == h) ≡ true = ap (λ n. n == h) one ∙ f in
    record { desk = d; here = rw found (ap (λ n. Some (port_for (near_ends n) d)) (eqb-true d.host h found)) })
    (λ f. let passed : (d.host == h) ≡ false = ap (λ n. n == h) one ∙ f in
    let rest : Stands near_ends desks h = stands near_ends desks sites h s others (rw f at q) in
    record { desk = rest.desk; here = rw passed rest.here })
  where
    one : d.host ≡ x.host
    one = cc

    others : map (λ (d : Desk). d.host) desks ≡ hosts_in sites
    others = cc

pub is_step : (comes : Comes) (i : LinkInput) → IsStep comes (Some i)
is_step comes i = grind arith

-- ### The controller

-- what comes to its end of the link with the host h, where this comes to that with the host k
abbrev input_here : ℕ → LinkInput → ℕ → Option LinkInput
input_here k i h = if h == k then Some i else None

module _ (w : NodeWorld) (r : Running) (k : ℕ) (comes : Comes) (h : ℕ) (s : Site) (orderly : IsOrderly w) (node : HasEnds 0 (hosts_in w.sites) r)
    (found : site_at w.sites h ≡ Some s) where
  link : link_to w.sites h ≡ s.link
  link = link_is w.sites h s found

  abbrev Start : Work
  Start = work_of r w.memory.plan (λ j. near_end_in (link_to w.sites j) (comes_to k comes j)) (entries_for k (arrival Controller (link_to w.sites k) comes))

  arrives : of_link h (entries_for k (arrival Controller (link_to w.sites k) comes))
      ≡ of_link h (entries_for h (arrival Controller s.link (comes_to k comes h)))
  arrives = grind arith

  pub opened : Opening h Controller s.link (comes_to k comes h) Start
  opened =
      let near_ends : ℕ → NumberedEnd = λ j. near_end_in (link_to w.sites j) (comes_to k comes j) in
      let one : Stands near_ends r.desks h = stands near_ends r.desks w.sites h s node.ends found in
      record {
        side = ap (λ (n : ℕ). if n == 0 then Controller else Host) node.number;
        port = port_for (near_end_in (link_to w.sites h) (comes_to k comes h)) one.desk;
        here = one.here;
        is = ap (λ l. (near_end_in l (comes_to k comes h)).side) link;
        session = ap (λ l. number_of (near_end_in l (comes_to k comes h))) link;
        turns = refl;
        late = refl;
        told = arrives;
        different = subst AreDifferent (sym (hosts_same_of_nodes near_ends r.desks ∙ node.ends)) orderly.different;
      }

  controller_closed : (o : Option LinkInput) (v : Work) → input_of s.link (comes_to k comes h) ≡ o → IsStep (comes_to k comes h) o
      → Goes h Controller s.link (comes_to k comes h) o v
      → TellOf h s.link (AtController (Step (comes_to k comes h) (turns_at v h) (ending_of v))) (after_controller w k comes v).1
  controller_closed o v q c a =
      of-append h v.entries (flat_map f w.sites)
      ∙ (ap (λ t. of_link h v.entries ++ t)
      (only (λ (x : Site). x.host) f h (λ x e. frames_of h x.host Controller (wires_for x.link (comes_to k comes x.host)) v e) w.sites s
      orderly.different found
      ∙ ap (λ n. of_link h (frames_noted Controller n (wires_for s.link (comes_to k comes n)) v)) (site_host w.sites h s found))
      ∙ closed h Controller s.link (comes_to k comes h) o false v q c a)
    where
      f : Site → List Entry
      f x = frames_noted Controller x.host (wires_for x.link (comes_to k comes x.host)) v

  -- what comes to its end of the link
  pub given : (i : LinkInput) → input_of (link_to w.sites k) comes ≡ Some i → (b : Bool) → (h == k) ≡ b
      → input_of s.link (cond b comes NoInput) ≡ cond b (Some i) None
  given i q b e = grind arith

  pub is_so : (i : LinkInput) (b : Bool) → IsStep (cond b comes NoInput) (cond b (Some i) None)
  is_so i b = grind arith

  pub controller_tells : (i : LinkInput) → input_of (link_to w.sites k) comes ≡ Some i
      → TellOf h s.link (AtController (Step (comes_to k comes h) (turns_at (controller_work w r k comes (steps (AtEnd k i))) h)
      (ending_of (controller_work w r k comes (steps (AtEnd k i))))))
      (after_controller w k comes (controller_work w r k comes (steps (AtEnd k i)))).1
  controller_tells i q =
      controller_closed (input_here k i h) (steps (AtEnd k i) Start) (given i q (h == k) refl) (is_so i (h == k))
      (stepped h Controller s.link (comes_to k comes h) (input_here k i h) k i Start opened (ap (λ n. input_here k i n) here))
    where
      here : opened.port.desk.host ≡ h
      here = eqb-true opened.port.desk.host h (at_host Start.ports h opened.port opened.here)

  -- and how the link stands behind it
  pub controller_stands : (i : LinkInput) → input_of (link_to w.sites k) comes ≡ Some i
      → StandsOf h s.link (AtController (Step (comes_to k comes h) (turns_at (controller_work w r k comes (steps (AtEnd k i))) h)
      (ending_of (controller_work w r k comes (steps (AtEnd k i))))))
      (after_controller w k comes (controller_work w r k comes (steps (AtEnd k i)))).1
  controller_stands i q =
      let v : Work = controller_work w r k comes (steps (AtEnd k i)) in
      comes_stands h 0 Controller (λ x. refl) v (flat_map (λ x. frames_noted Controller x.host (wires_for x.link (comes_to k comes x.host)) v) w.sites)
      (steps_powered h 0 (without_power Controller) (λ x. refl) (twice Controller) (AtEnd k i) Start node.number refl
      (entries_uncut k (arrival Controller (link_to w.sites k) comes)))
      (all_frames Controller (λ x. wires_for x.link (comes_to k comes x.host)) v w.sites)
      (comes_to k comes h) (step_entries Controller s.link (comes_to k comes h) (turns_at v h) (ending_of v))
      (shaped_step Controller s.link (comes_to k comes h) (turns_at v h) (ending_of v) (input_here k i h) (given i q (h == k) refl) (is_so i (h == k)))
      (controller_tells i q)

-- ### A host

-- the power of a host is that of its own end, and of no other link
pub own_power : (h : ℕ) → (h == 0) ≡ false → (x : Standing) → after_power h h x ≡ without_power Host x
own_power h host x = let same = same_number h in rw (host, same) refl

pub other_power : (k h : ℕ) → (k == 0) ≡ false → (k == h) ≡ false → (x : Standing) → after_power h k x ≡ x
other_power k h host q x = rw (host, q) refl

module _ (s : Site) (r : Running) (comes : Comes) (host : (s.host == 0) ≡ false) (node : HasEnds s.host (s.host ∷ []) r) where
  abbrev pub HostStart : Work
  HostStart = work_of r s.memory.plan (λ j. near_end_in (exchanged s.link) comes) (entries_for s.host (arrival Host (exchanged s.link) comes))

  pub host_opened : Opening s.host Host (exchanged s.link) comes HostStart
  host_opened =
      let here : site_at (s ∷ []) s.host ≡ Some s = let same : (s.host == s.host) ≡ true = same_number s.host in rw same refl in
      let near_ends : ℕ → NumberedEnd = λ j. near_end_in (exchanged s.link) comes in
      let one : Stands near_ends r.desks s.host = stands near_ends r.desks (s ∷ []) s.host s node.ends here in
      record {
        side = ap (λ (n : ℕ). if n == 0 then Controller else Host) node.number ∙ ap (λ (b : Bool). if b then Controller else Host) host;
        port = port_for (near_end_in (exchanged s.link) comes) one.desk;
        here = one.here;
        is = refl;
        session = refl;
        turns = refl;
        late = refl;
        told = refl;
        different = subst AreDifferent (sym (hosts_same_of_nodes near_ends r.desks ∙ node.ends)) (tt, tt);
      }

  host_closed : (o : Option LinkInput) (v : Work) → input_of (exchanged s.link) comes ≡ o → IsStep comes o
      → Goes s.host Host (exchanged s.link) comes o v
      → TellOf s.host s.link (AtHost (Step comes (turns_at v s.host) (ending_of v)))
      (v.entries ++ frames_noted Host s.host (wires_for (exchanged s.link) comes) v)
  host_closed o v q c a =
      of-append s.host v.entries (frames_noted Host s.host (wires_for (exchanged s.link) comes) v) ∙ closed s.host Host (exchanged s.link) comes o false v q c a

  -- and nothing is told of any other link
  pub host_away : (h : ℕ) → (s.host == h) ≡ false → Away h HostStart
  host_away h q = record { none = none r.desks node.ends; told = of_other s.host h (arrival Host (exchanged s.link) comes) q }
    where
      none : (desks : List Desk) → map (λ (d : Desk). d.host) desks ≡ s.host ∷ []
          → port_at (ports_for (λ j. near_end_in (exchanged s.link) comes) desks) h ≡ None
      none [] e = refl
      none (d ∷ []) e = grind arith
      none (d ∷ x ∷ desks) e = absurd (cc e)

  away_closed : (h : ℕ) (v : Work) → (s.host == h) ≡ false → Away h v
      → of_link h (v.entries ++ frames_noted Host s.host (wires_for (exchanged s.link) comes) v) ≡ []
  away_closed h v q a =
      of-append h v.entries (frames_noted Host s.host (wires_for (exchanged s.link) comes) v)
      ∙ (ap (λ t. t ++ of_link h (frames_noted Host s.host (wires_for (exchanged s.link) comes) v)) a.told
      ∙ frames_of h s.host Host (wires_for (exchanged s.link) comes) v q)

  abbrev noted_by : Work → List Entry
  noted_by v = v.entries ++ frames_noted Host s.host (wires_for (exchanged s.link) comes) v

  -- what is told of a host's step
  record HostTells (v : Work) : Type 0 where
    pub own : TellOf s.host s.link (AtHost (Step comes (turns_at v s.host) (ending_of v))) (noted_by v)
    pub others : (h : ℕ) → (s.host == h) ≡ false → of_link h (noted_by v) ≡ []
    pub stands : StandsOf s.host s.link (AtHost (Step comes (turns_at v s.host) (ending_of v))) (noted_by v)
    pub leaves : (h : ℕ) → (s.host == h) ≡ false → (x : Standing) → standing h x (noted_by v) ≡ x

  -- how links stand behind what a host does
  start_uncut : AreUncut HostStart.entries
  start_uncut = entries_uncut s.host (arrival Host (exchanged s.link) comes)

  host_stands : (o : Option LinkInput) (v : Work) → input_of (exchanged s.link) comes ≡ o → IsStep comes o
      → IsAtEnd s.host s.host Host (own_power s.host host) v
      → TellOf s.host s.link (AtHost (Step comes (turns_at v s.host) (ending_of v))) (noted_by v)
      → StandsOf s.host s.link (AtHost (Step comes (turns_at v s.host) (ending_of v))) (noted_by v)
  host_stands o v q c a told =
      comes_stands s.host s.host Host (own_power s.host host) v (frames_noted Host s.host (wires_for (exchanged s.link) comes) v) a
      (own_frames Host s.host (wires_for (exchanged s.link) comes) v) comes (step_entries Host (exchanged s.link) comes (turns_at v s.host) (ending_of v))
      (shaped_step Host (exchanged s.link) comes (turns_at v s.host) (ending_of v) o q c) told

  host_steps : (i : LinkInput) → input_of (exchanged s.link) comes ≡ Some i → HostTells (host_work s r comes (steps (AtEnd s.host i)))
  host_steps i q =
      let here : host_opened.port.desk.host ≡ s.host = eqb-true host_opened.port.desk.host s.host
      (at_host HostStart.ports s.host host_opened.port host_opened.here) in
      let same : input_here s.host i s.host ≡ Some i = ap (λ b. cond b (Some i) None) (same_number s.host) in
      let v : Work = steps (AtEnd s.host i) HostStart in
      let own : TellOf s.host s.link (AtHost (Step comes (turns_at v s.host) (ending_of v))) (noted_by v) = host_closed (Some i) v q (is_step comes i)
      (stepped s.host Host (exchanged s.link) comes (Some i) s.host i HostStart host_opened (ap (λ n. input_here s.host i n) here ∙ same)) in
      let others : (h : ℕ) → (s.host == h) ≡ false → of_link h (noted_by v) ≡ [] = λ h z.
      away_closed h v z (away_steps h s.host i HostStart (host_away h z)) in
      let out = own_frames Host s.host (wires_for (exchanged s.link) comes) v in
      record {
        own = own;
        others = others;
        stands = host_stands (Some i) v q (is_step comes i)
            (steps_powered s.host s.host (without_power Host) (own_power s.host host) (twice Host) (AtEnd s.host i) HostStart node.number refl start_uncut) own;
        leaves = λ h z. step_away h s.host (other_power s.host h host z) v _
            (steps_powered h s.host (λ x. x) (other_power s.host h host z) (λ x. refl) (AtEnd s.host i) HostStart node.number refl start_uncut) out.0
            (others h z);
      }

-- a host does these things of itself
host_begins : (s : Site) (r : Running) (host : (s.host == 0) ≡ false) (node : HasEnds s.host (s.host ∷ []) r) (deeds : List Deed) → AreMute deeds
    → HostTells s r NoInput host node (host_work s r NoInput (begins_with s.host deeds))
host_begins s r host node deeds m =
    let start : Work = HostStart s r NoInput host node in
    let v : Work = begins_with s.host deeds start in
    let own : TellOf s.host s.link (AtHost (Step NoInput (turns_at v s.host) (ending_of v))) (noted_by s r NoInput host node v) =
    host_closed s r NoInput host node None v refl tt
    (begun s.host Host (exchanged s.link) NoInput None s.host deeds start m (host_opened s r NoInput host node) refl) in
    let others : (h : ℕ) → (s.host == h) ≡ false → of_link h (noted_by s r NoInput host node v) ≡ [] = λ h z.
    away_closed s r NoInput host node h v z (away_begun h s.host deeds start m (host_away s r NoInput host node h z)) in
    let out = own_frames Host s.host (wires_for (exchanged s.link) NoInput) v in
    record {
      own = own;
      others = others;
      stands = host_stands s r NoInput host node None v refl tt
          (begins_powered s.host s.host (without_power Host) (own_power s.host host) (twice Host) s.host deeds start m node.number refl tt) own;
      leaves = λ h z. step_away h s.host (other_power s.host h host z) v _
          (begins_powered h s.host (λ x. x) (other_power s.host h host z) (λ x. refl) s.host deeds start m node.number refl tt) out.0 (others h z);
    }

-- ## What the events of a world tell of each link

-- the site with a number is one of them
pub site_is : (P : Site → Type 0) (sites : List Site) (h : ℕ) (s : Site) → AllByRecursion P sites → site_at sites h ≡ Some s → P s
site_is P [] h s a q = absurd (cc q)
site_is P (x ∷ sites) h s a q = by_test (x.host == h)
    (λ e. grind arith)
    (λ e. site_is P sites h s a.1 (rw e at q))

pub node_is : (n : ℕ) (hosts : List ℕ) (o : Option Running) (r : Running) → IfItRuns n hosts o → o ≡ Some r → HasEnds n hosts r
node_is n hosts o r a q = grind arith

-- what a host notes is told of its own link as it does this, and of no other one
pub record HostDoes (w : NodeWorld) (k : ℕ) (comes : Comes) (f : Work → Work) (s : Site) (r : Running) : Type 0 where
  pub own : TellOf k s.link (AtHost (Step comes (turns_at (host_work s r comes f) s.host) (ending_of (host_work s r comes f)))) (host_does w k comes f).1
  pub others : (h : ℕ) → (k == h) ≡ false → of_link h (host_does w k comes f).1 ≡ []
  pub stands : StandsOf k s.link (AtHost (Step comes (turns_at (host_work s r comes f) s.host) (ending_of (host_work s r comes f)))) (host_does w k comes f).1
  pub leaves : (h : ℕ) → (k == h) ≡ false → (x : Standing) → standing h x (host_does w k comes f).1 ≡ x

module _ (w : NodeWorld) (s : Site) (r : Running) (k : ℕ) (orderly : IsOrderly w) (found : site_at w.sites k ≡ Some s) (runs : s.node ≡ Some r) where
  number : s.host ≡ k
  number = site_host w.sites k s found

  host : (s.host == 0) ≡ false
  host = site_is (λ (x : Site). (x.host == 0) ≡ false) w.sites k s orderly.hosts found

  node : HasEnds s.host (s.host ∷ []) r
  node = node_is s.host (s.host ∷ []) s.node r (site_is (λ (x : Site). IfItRuns x.host (x.host ∷ []) x.node) w.sites k s orderly.nodes found) runs

  does : (comes : Comes) (f : Work → Work) → HostTells s r comes host node (host_work s r comes f) → HostDoes w k comes f s r
  does comes f a =
      let v : Work = host_work s r comes f in
      let noted : ℕ → List Entry = λ n. v.entries ++ frames_noted Host n (wires_for (exchanged s.link) comes) v in
      let is : (host_does w k comes f).1 ≡ noted k = rw (found, runs) refl in
      record {
        own = ap (of_link k) is ∙ subst (λ (n : ℕ). TellOf n s.link (AtHost (Step comes (turns_at v s.host) (ending_of v))) (noted n)) number a.own;
        others = λ h z. ap (of_link h) is ∙ (ap (λ n. of_link h (noted n)) (sym number) ∙ a.others h (ap (λ n. n == h) number ∙ z));
        stands = let S : ℕ → Type 0 = λ n. StandsOf n s.link (AtHost (Step comes (turns_at v s.host) (ending_of v))) (noted n) in
            λ x. ap (standing k x) is ∙ subst S number a.stands x;
        leaves = λ h z x. ap (standing h x) is ∙ (ap (λ n. standing h x (noted n)) (sym number) ∙ a.leaves h (ap (λ n. n == h) number ∙ z) x);
      }

  pub host_does_step : (comes : Comes) (i : LinkInput) → input_of (exchanged s.link) comes ≡ Some i → HostDoes w k comes (steps (AtEnd k i)) s r
  host_does_step comes i q =
      let P : ℕ → Type 0 = λ n. HostTells s r comes host node (host_work s r comes (steps (AtEnd n i))) in
      does comes (steps (AtEnd k i)) (subst P number (host_steps s r comes host node i q))

  pub host_does_begin : (deeds : List Deed) → AreMute deeds → HostDoes w k NoInput (begins_with k deeds) s r
  host_does_begin deeds m =
      let P : ℕ → Type 0 = λ n. HostTells s r NoInput host node (host_work s r NoInput (begins_with n deeds)) in
      does NoInput (begins_with k deeds) (subst P number (host_begins s r host node deeds m))

-- ## Each event of a world but a tick tells of each link

-- ### Events of a link

tells_nothing : (h : ℕ) (l : Link) (t : List Entry) → of_link h t ≡ [] → Tells h l l t
tells_nothing h l t q = record { events = []; is = refl; told = q }

pub tells_one : (h : ℕ) (l : Link) (e : LinkEvent) (t : List Entry) → TellOf h l e t → Tells h l (happens l e) t
tells_one h l e t a = record { events = e ∷ []; is = refl; told = a ∙ ap (λ z. of_link h (entries_for h z)) (sym (append-nil (event_entries l e))) }

pub after-append : (es fs : List LinkEvent) (l : Link) → after_link_events l (es ++ fs) ≡ after_link_events (after_link_events l es) fs
after-append [] fs l = refl
after-append (e ∷ es) fs l = after-append es fs (happens l e)

pub entries-append : (es fs : List LinkEvent) (l : Link) → entries l (es ++ fs) ≡ entries l es ++ entries (after_link_events l es) fs
entries-append [] fs l = refl
entries-append (e ∷ es) fs l =
    ap (λ z. event_entries l e ++ z) (entries-append es fs (happens l e))
    ∙ sym (append_assoc (event_entries l e) (entries (happens l e) es) (entries (after_link_events (happens l e) es) fs))

tells_then : (h : ℕ) (l m n : Link) (t u : List Entry) → Tells h l m t → Tells h m n u → Tells h l n (t ++ u)
tells_then h l m n t u a b =
    let first : List Entry = of_link h (entries_for h (entries l a.events)) in
    record {
      events = a.events ++ b.events;
      is = after-append a.events b.events l ∙ (ap (λ k. after_link_events k b.events) a.is ∙ b.is);
      told =
          of-append h t u
          ∙ (ap (λ z. z ++ of_link h u) a.told
          ∙ (ap (λ z. first ++ z) (b.told ∙ ap (λ k. of_link h (entries_for h (entries k b.events))) (sym a.is))
          ∙ sym (ap (λ z. of_link h (entries_for h z)) (entries-append a.events b.events l)
          ∙ notes-append h (entries l a.events) (entries (after_link_events l a.events) b.events))));
    }

-- ### Worlds

pub goes_not : (w : NodeWorld) (t : List Entry) → ((h : ℕ) → of_link h t ≡ []) → IsOrderly w → EachGoesSo w w t
goes_not w t q a = record { orderly = a; each = λ h s found. record { site = s; there = found; tells = tells_nothing h s.link t (q h) } }

pub goes_then : (w v u : NodeWorld) (t more : List Entry) → EachGoesSo w v t → EachGoesSo v u more → EachGoesSo w u (t ++ more)
goes_then w v u t more a b =
    record {
      orderly = b.orderly;
      each = λ h s found.
          let first : GoesSo h s v t = a.each h s found in
          let second : GoesSo h first.site u more = b.each h first.site first.there in
          record { site = second.site; there = second.there; tells = tells_then h s.link first.site.link second.site.link t more first.tells second.tells };
    }

pub site_map : (f : Site → Site) → ((s : Site) → (f s).host ≡ s.host) → (sites : List Site) (h : ℕ) (s : Site) → site_at sites h ≡ Some s
    → site_at (map f sites) h ≡ Some (f s)
site_map f keeps [] h s q = absurd (cc q)
site_map f keeps (x ∷ sites) h s q = by_test (x.host == h)
    (λ e. grind arith)
    (λ e. let fails : ((f x).host == h) ≡ false = (grind arith) ∙ e in
    rw fails (site_map f keeps sites h s (rw e at q)))

-- each site becomes another one
module _ (w : NodeWorld) (memory : Memory) (controller : Option Running) (f : Site → Site) (keeps : (s : Site) → (f s).host ≡ s.host) where
  hosts_map : (sites : List Site) → AllByRecursion (λ (s : Site). (s.host == 0) ≡ false) sites
      → AllByRecursion (λ (s : Site). (s.host == 0) ≡ false) (map f sites)
  hosts_map [] a = tt
  hosts_map (s ∷ sites) a = (ap (λ n. n == 0) (keeps s) ∙ a.0, hosts_map sites a.1)

  nodes_map : ((s : Site) → IfItRuns s.host (s.host ∷ []) s.node → IfItRuns s.host (s.host ∷ []) (f s).node) → (sites : List Site)
      → AllByRecursion (λ (s : Site). IfItRuns s.host (s.host ∷ []) s.node) sites
      → AllByRecursion (λ (s : Site). IfItRuns s.host (s.host ∷ []) s.node) (map f sites)
  nodes_map one [] a = tt
  nodes_map one (s ∷ sites) a = (subst (λ (n : ℕ). IfItRuns n (n ∷ []) (f s).node) (sym (keeps s)) (one s a.0), nodes_map one sites a.1)

  pub orderly_map : IsOrderly w → IfItRuns 0 (hosts_in w.sites) controller
      → ((s : Site) → IfItRuns s.host (s.host ∷ []) s.node → IfItRuns s.host (s.host ∷ []) (f s).node)
      → IsOrderly (record { memory = memory; controller = controller; sites = map f w.sites })
  orderly_map a runs nodes =
      let same : hosts_in (map f w.sites) ≡ hosts_in w.sites = hosts_same f keeps w.sites in
      record {
        different = subst AreDifferent (sym same) a.different;
        hosts = hosts_map w.sites a.hosts;
        controller = let P : List ℕ → Type 0 = λ hs. IfItRuns 0 hs controller in subst P (sym same) runs;
        nodes = nodes_map nodes w.sites a.nodes;
      }

  goes_map : (t : List Entry) → IsOrderly w → IfItRuns 0 (hosts_in w.sites) controller
      → ((s : Site) → IfItRuns s.host (s.host ∷ []) s.node → IfItRuns s.host (s.host ∷ []) (f s).node)
      → ((h : ℕ) (s : Site) → site_at w.sites h ≡ Some s → Tells h s.link (f s).link t)
      → EachGoesSo w (record { memory = memory; controller = controller; sites = map f w.sites }) t
  goes_map t a runs nodes tells =
      record {
        orderly = orderly_map a runs nodes;
        each = λ h s found. record { site = f s; there = site_map f keeps w.sites h s found; tells = tells h s found };
      }

module _ (w : NodeWorld) (memory : Memory) (controller : Option Running) (k : ℕ) (g : Site → Site) (t : List Entry)
    (keeps : (s : Site) → (g s).host ≡ s.host) where
  goes_site : IsOrderly w → IfItRuns 0 (hosts_in w.sites) controller
      → ((s : Site) → s.host ≡ k → IfItRuns s.host (s.host ∷ []) s.node → IfItRuns s.host (s.host ∷ []) (g s).node)
      → ((s : Site) → site_at w.sites k ≡ Some s → Tells k s.link (g s).link t)
      → ((h : ℕ) → (k == h) ≡ false → of_link h t ≡ [])
      → EachGoesSo w (record { memory = memory; controller = controller; sites = with_site k g w.sites }) t
  goes_site a runs nodes own others =
      goes_map w memory controller (λ (s : Site). changed_if (s.host == k) g s) (λ s. changed_host (s.host == k) g s (keeps s)) t a runs
      (λ s node. grind arith) (λ h s found. here h s found (s.host == k) refl)
    where
      here : (h : ℕ) (s : Site) → site_at w.sites h ≡ Some s → (b : Bool) → (s.host == k) ≡ b → Tells h s.link (changed_if b g s).link t
      here h s found true q =
          let is : k ≡ h = sym (eqb-true s.host k q) ∙ site_host w.sites h s found in
          subst (λ (n : ℕ). Tells n s.link (g s).link t) is (own s (ap (site_at w.sites) is ∙ found))
      here h s found false q =
          tells_nothing h s.link t (others h (swapped h k (ap (λ n. n == k) (sym (site_host w.sites h s found)) ∙ q)))

-- ### Steps of nodes

controller_goes : (w : NodeWorld) (k : ℕ) (comes : Comes) (i : LinkInput) → IsOrderly w → input_of (link_to w.sites k) comes ≡ Some i
    → EachGoesSo w (controller_does w k comes (steps (AtEnd k i))).0 (controller_does w k comes (steps (AtEnd k i))).1
controller_goes w k comes i a q =
    by_controller (λ p. EachGoesSo w p.0 p.1) w k comes (steps (AtEnd k i)) (goes_not w [] (λ h. refl) a)
    (λ r is.
    let n : HasEnds 0 (hosts_in w.sites) r = subst (IfItRuns 0 (hosts_in w.sites)) is a.controller in
    let v : Work = controller_work w r k comes (steps (AtEnd k i)) in
    let t : List Entry = (after_controller w k comes v).1 in
    let near_ends : ℕ → NumberedEnd = λ j. near_end_in (link_to w.sites j) (comes_to k comes j) in
    let kept : Keeps 0 (hosts_in w.sites) v =
    steps_keep 0 (hosts_in w.sites) k i (work_of r w.memory.plan near_ends (entries_for k (arrival Controller (link_to w.sites k) comes)))
    (record { number = n.number; ends = hosts_same_of_nodes near_ends r.desks ∙ n.ends }) in
    goes_map w (after_planned v.writes w.memory) (runs_on v) (link_after_controller k comes v) (λ s. refl) t a (runs_keep 0 (hosts_in w.sites) v kept)
    (λ s node. node)
    (λ h s found.
    let P : ℕ → Type 0 = λ m. TellOf h s.link (AtController (Step (comes_to k comes m) (turns_at v m) (ending_of v))) t in
    tells_one h s.link (AtController (Step (comes_to k comes s.host) (turns_at v s.host) (ending_of v))) t
    (subst P (sym (site_host w.sites h s found)) (controller_tells w r k comes h s a n found i q))))

-- a host does something
module _ (w : NodeWorld) (k : ℕ) (comes : Comes) (f : Work → Work) (a : IsOrderly w)
    (keeps : (v : Work) → Keeps k (k ∷ []) v → Keeps k (k ∷ []) (f v))
    (does : (s : Site) (r : Running) → site_at w.sites k ≡ Some s → s.node ≡ Some r → HostDoes w k comes f s r) where
  host_goes : EachGoesSo w (host_does w k comes f).0 (host_does w k comes f).1
  host_goes =
      by_host (λ p. EachGoesSo w p.0 p.1) w k comes f (goes_not w [] (λ h. refl) a)
      (λ s r found q.
      let v : Work = host_work s r comes f in
      let t : List Entry = (after_host_step w k comes s v).1 in
      let told : HostDoes w k comes f s r = does s r found q in
      let is : (host_does w k comes f).1 ≡ t = rw (found, q) refl in
      let number : s.host ≡ k = site_host w.sites k s found in
      let node : HasEnds s.host (s.host ∷ []) r =
      node_is s.host (s.host ∷ []) s.node r (site_is (λ (x : Site). IfItRuns x.host (x.host ∷ []) x.node) w.sites k s a.nodes found) q in
      let here : HasEnds k (k ∷ []) r = subst (λ (n : ℕ). HasEnds n (n ∷ []) r) number node in
      let near_ends : ℕ → NumberedEnd = λ j. near_end_in (exchanged s.link) comes in
      let kept : Keeps k (k ∷ []) v = keeps _ (record { number = here.number; ends = hosts_same_of_nodes near_ends r.desks ∙ here.ends }) in
      let T : List Entry → Type 0 = λ z. TellOf k s.link (AtHost (Step comes (turns_at v s.host) (ending_of v))) z in
      goes_site w w.memory w.controller k (after_host comes v) t (λ x. refl) a a.controller
      (λ x e n. subst (λ (n : ℕ). IfItRuns n (n ∷ []) (runs_on v)) (sym e) (runs_keep k (k ∷ []) v kept))
      (λ x there.
      let same : Some s ≡ Some x = sym found ∙ there in
      let one : s ≡ x = cc in
      let Q : Site → Type 0 = λ z. Tells k z.link (after_host comes v z).link t in
      subst Q one (tells_one k s.link (AtHost (Step comes (turns_at v s.host) (ending_of v))) t (subst T is told.own)))
      (λ h z. ap (of_link h) (sym is) ∙ told.others h z))

pub comes_goes : (w : NodeWorld) (e : End) (comes : Comes) → IsOrderly w → EachGoesSo w (comes_at w e comes).0 (comes_at w e comes).1
comes_goes w e comes a =
    by_coming (λ p. EachGoesSo w p.0 p.1) w e comes (goes_not w [] (λ h. refl) a)
    (λ i side q. host_goes w e.link comes (steps (AtEnd e.link i)) a (λ v kept. steps_keep e.link (e.link ∷ []) e.link i v kept)
    (λ s n found runs. host_does_step w s n e.link a found runs comes i
    (ap (λ l. input_of (exchanged l) comes) (sym (link_is w.sites e.link s found)) ∙ q)))
    (λ i side q. controller_goes w e.link comes i a q)

begins_goes : (w : NodeWorld) (k : ℕ) (deeds : List Deed) → AreMute deeds → IsOrderly w
    → EachGoesSo w (host_does w k NoInput (begins_with k deeds)).0 (host_does w k NoInput (begins_with k deeds)).1
begins_goes w k deeds m a =
    host_goes w k NoInput (begins_with k deeds) a (λ v kept. begins_keep k (k ∷ []) k deeds v m kept)
    (λ s r found runs. host_does_begin w s r k a found runs deeds m)

pub sending_mute : (h : ℕ) (m : Message) → AreMute (sending h m)
sending_mute h m = by_test (m.0 == 1 && is_command_message m.1) (λ q. rw q (tt, tt)) (λ q. rw q (tt, tt))

-- ### Power and memories

lost_goes_nothing : (w : NodeWorld) (k : ℕ) (g : Site → Site) (t : List Entry) → ((s : Site) → (g s).host ≡ s.host)
    → ((s : Site) → s.host ≡ k → IfItRuns s.host (s.host ∷ []) s.node → IfItRuns s.host (s.host ∷ []) (g s).node)
    → ((s : Site) → (g s).link ≡ s.link) → ((h : ℕ) → of_link h t ≡ []) → IsOrderly w
    → EachGoesSo w (record w { sites = with_site k g w.sites }) t
lost_goes_nothing w k g t keeps nodes links q a =
    goes_site w w.memory w.controller k g t keeps a a.controller nodes
    (λ s found. let P : Link → Type 0 = λ l. Tells k s.link l t in subst P (sym (links s)) (tells_nothing k s.link t (q k)))
    (λ h z. q h)

pub memory_goes : (n : ℕ) (m : Memory) (w : NodeWorld) → IsOrderly w → EachGoesSo w (with_memory n m w) []
memory_goes n m w a =
    by_memory (λ v. EachGoesSo w v []) n w m
    (λ z. grind arith)
    (λ z. lost_goes_nothing w n (λ s. record s { memory = m }) [] (λ s. refl) (λ s e node. node) (λ s. refl) (λ h. refl) a)

power_goes : (n : ℕ) (w : NodeWorld) → IsOrderly w → EachGoesSo w (loses_power_at n w) (entry.Cut n ∷ [])
power_goes n w a =
    by_power (λ v. EachGoesSo w v (entry.Cut n ∷ [])) n w
    (λ z. goes_map w w.memory None (λ (s : Site). record s { link = happens s.link (AtController (Step NoInput [] CutOff)) }) (λ s. refl)
    (entry.Cut n ∷ []) a tt (λ s node. node) (λ h s found. tells_one h s.link (AtController (Step NoInput [] CutOff)) (entry.Cut n ∷ []) refl))
    (λ z. goes_site w w.memory w.controller n host_cut (entry.Cut n ∷ []) (λ s. refl) a a.controller (λ s e node. tt)
    (λ s found. tells_one n s.link (AtHost (Step NoInput [] CutOff)) (entry.Cut n ∷ []) refl) (λ h z. refl))

node_goes : (n : ℕ) (r : Running) (w : NodeWorld) (t : List Entry) → r.core.node ≡ n → map (λ (d : Desk). d.host) r.desks ≡ links_of w n
    → ((h : ℕ) → of_link h t ≡ []) → IsOrderly w → EachGoesSo w (with_node n r w) t
node_goes n r w t number ends q a =
    by_running (λ v. EachGoesSo w v t) n w r
    (λ e. record {
      orderly = grind arith;
      each = λ h s found. record { site = s; there = found; tells = tells_nothing h s.link t (q h) };
    })
    (λ e.
    let P : ℕ → Type 0 = λ m. IfItRuns m (m ∷ []) (Some r) in
    let node : IfItRuns n (n ∷ []) (Some r) = record { number = number; ends = ends ∙ ap links e } in
    lost_goes_nothing w n (λ s. record s { node = Some r }) t (λ s. refl) (λ s is old. subst P (sym is) node) (λ s. refl) q a)
  where
    links : Bool → List ℕ
    links b = cond b (map (λ (s : Site). s.host) w.sites) (n ∷ [])

boots_goes : (w : NodeWorld) (n : ℕ) → IsOrderly w → EachGoesSo w (boots w n).0 (boots w n).1
boots_goes w n a =
    by_boot (λ p. EachGoesSo w p.0 p.1) w n
    (goes_then w written (loses_power_at n written) [] (entry.Cut n ∷ []) kept (power_goes n written kept.orderly))
    (goes_then w written (with_node n r written) [] (entry.Booted n (count_of r.core.journal) ∷ []) kept
    (node_goes n r written (entry.Booted n (count_of r.core.journal) ∷ []) refl (new_ends (links_of w n) ∙ (grind arith)) (λ h. refl) kept.orderly))
  where
    written : NodeWorld
    written = boot_written w n

    r : Running
    r = boot_found w n

    m : Memory
    m = after_planned (boot_writes (memory_at w n).content) (memory_at w n)

    kept : EachGoesSo w written []
    kept = memory_goes n m w a

-- ### Losses

counts_runs : (n : ℕ) (hosts : List ℕ) (why : Loss) (h : ℕ) (o : Option Running) → IfItRuns n hosts o → IfItRuns n hosts (counts why h o)
counts_runs n hosts (Broken fault) h None a = tt
counts_runs n hosts (Broken fault) h (Some r) a = record { number = a.number; ends = errors_ends h r.desks ∙ a.ends }
counts_runs n hosts _ h o a = a

lost_goes : (w : NodeWorld) (e : End) (why : Loss) → IsOrderly w → EachGoesSo w (frame_lost w e why).0 (frame_lost w e why).1
lost_goes w e why a =
    by_loss (λ p. EachGoesSo w p.0 p.1) w e why
    (λ q.
    let t : List Entry = entries_for e.link (first_lost Host why (link_to w.sites e.link).to_host) in
    goes_site w w.memory w.controller e.link (λ s. record (site_lost e why s) { node = counts why e.link s.node }) t (λ s. refl) a a.controller
    (λ s n node. counts_runs s.host (s.host ∷ []) why e.link s.node node)
    (λ s there. loses s t true q (ap (λ (l : Link). of_link e.link (entries_for e.link (first_lost Host why l.to_host))) (link_is w.sites e.link s there)))
    (λ h z. of_other e.link h (first_lost Host why (link_to w.sites e.link).to_host) z))
    (λ q.
    let t : List Entry = entries_for e.link (first_lost Controller why (link_to w.sites e.link).to_controller) in
    goes_site w w.memory (counts why e.link w.controller) e.link (site_lost e why) t (λ s. refl) a
    (counts_runs 0 (hosts_in w.sites) why e.link w.controller a.controller) (λ s n node. node)
    (λ s there.
    loses s t false q (ap (λ (l : Link). of_link e.link (entries_for e.link (first_lost Controller why l.to_controller))) (link_is w.sites e.link s there)))
    (λ h z. of_other e.link h (first_lost Controller why (link_to w.sites e.link).to_controller) z))
  where
    event : Bool → LinkEvent
    event b = cond b (AtHost (Lose why)) (AtController (Lose why))

    loses : (s : Site) (t : List Entry) (b : Bool) → e.at_host ≡ b → TellOf e.link s.link (event b) t → Tells e.link s.link (happens s.link (event e.at_host)) t
    loses s t b q told =
        let P : Bool → Type 0 = λ c. Tells e.link s.link (happens s.link (event c)) t in subst P (sym q) (tells_one e.link s.link (event b) t told)

-- ### Events

activates_goes : (w : NodeWorld) (h sync power : ℕ) → IsOrderly w → EachGoesSo w (activates w h sync power).0 (activates w h sync power).1
activates_goes w h sync power a =
    let near : NodeWorld × List Entry = comes_at w (end_c h) (Starts power) in
    let far : NodeWorld × List Entry = comes_at near.0 (end_h h) (Starts sync) in
    let first : EachGoesSo w near.0 near.1 = comes_goes w (end_c h) (Starts power) a in
    goes_then w near.0 far.0 near.1 far.1 first (comes_goes near.0 (end_h h) (Starts sync) first.orderly)

pub untimed_goes : (w : NodeWorld) (c : Happening) → IsUntimed c → IsOrderly w → EachGoesSo w (world_step w c).0 (world_step w c).1
untimed_goes w (Boots n) u a = boots_goes w n a
untimed_goes w (IsCut n) u a = power_goes n w a
untimed_goes w (Gives e m) u a = begins_goes w e.link (sending e.link m) (sending_mute e.link m) a
untimed_goes w (Inits e identity pipes) u a = begins_goes w e.link (beginning identity pipes) (tt, (tt, tt)) a
untimed_goes w (Takes e) u a = comes_goes w e NextFrame a
untimed_goes w (Loses e why) u a = lost_goes w e why a
untimed_goes w Ticks u a = absurd u
untimed_goes w (Resets e window) u a = comes_goes w e (AsksReset window) a
untimed_goes w (Activates h sync power) u a = activates_goes w h sync power a
untimed_goes w (Arms n plan) u a = memory_goes n (record (memory_at w n) { plan = Some plan }) w a
