-- A world of nodes, whatever happens to it, stays in its range, and so does what is noted of it.
use Rattle.told_laws.proofs.Words.{Activates, AllByRecursion, ArePipeRows, Arms, AsksReset, AtEnd, Bare, Bool, Boots, Broken, Comes, Controller, CutOff, Deed}
use Rattle.told_laws.proofs.Words.{Desk, End, Ending, Entry, Gives, GoesOut, Happening, Host, Inits, IsCut, Link, LinkEnd, LinkInput, List, Lose, Loses, Loss}
use Rattle.told_laws.proofs.Words.{Memory, NextFrame, NoInput, NodeWorld, None, NumberedEnd, Option, Plan, Port, Reset, Resets, Running, Side, Site, Some}
use Rattle.told_laws.proofs.Words.{Starts, Step, Stops, Takes, Tick, Ticks, TimePasses, Work, [], activates, after_controller, after_host, after_planned, aged}
use Rattle.told_laws.proofs.Words.{aged_entries, all_aged, all_changed, all_map, all_mapped, arith, arrival, at, beginning, begins_with, boot_found}
use Rattle.told_laws.proofs.Words.{boot_writes, boot_written, boots, by_boot, by_coming, by_controller, by_controller_tick, by_host, by_host_tick, by_loss}
use Rattle.told_laws.proofs.Words.{by_memory, by_option, by_power, by_running, changed_if, comes_at, comes_to, cond_both, controller_does, controller_ticks}
use Rattle.told_laws.proofs.Words.{controller_work, counts, each-append, end_c, end_h, ending_entries, ending_of, entries_for, eqb, exchanged, false}
use Rattle.told_laws.proofs.Words.{first_lost, flat_map, frame_lost, frames_noted, frames_out, happens, happens_at_controller, has_input, host_cut, host_does}
use Rattle.told_laws.proofs.Words.{host_tick, host_ticks, host_work, hosts_tick, input_of, is_late_at, is_waiting, link_after_controller, link_to, links_of}
use Rattle.told_laws.proofs.Words.{loses_power_at, map, memory_at, min, near_end_in, near_tick, new_desk, new_link, not, port_at, port_for, runs_on, sending}
use Rattle.told_laws.proofs.Words.{site_at, site_lost, steps, subst, ticked_so, ticks_at_controller, true, turns_at, wires_for, with_memory, with_node}
use Rattle.told_laws.proofs.Words.{with_site, work_of, world_step, world_ticks, ℕ, ◌&&◌, ◌++◌, ◌+◌, ◌<◌, ◌==◌, ◌∷◌, ◌≡◌, ◌≤◌}
use Rattle.link_laws.specs.messages.Links.LinkEvent.{AtController}
use Rattle.node_laws.proofs.telling.Events.{site_host, site_is}
use Rattle.told_laws.proofs.nodes.Commands.{AreIn, AreNotedIn, AreTablesIn, ComesIn, IsNotedIn, LinkIn, NumberedIn, all_entries_in, all_in_more, each_in}
use Rattle.told_laws.proofs.nodes.Commands.{in-append, link_exchanged, link_has_input, link_in_more, link_steps}
use Rattle.told_laws.proofs.nodes.Hosts.{AreDeedsIn, IfBytes, IfInit, IsDeskIn, IsInitIn}
use Rattle.told_laws.proofs.nodes.Machines.{AreTurnsIn, IsInputIn, IsLineFrame, IsMail, SideIn, out_in}
use Rattle.told_laws.proofs.nodes.Works.{ArePortsIn, IsPortIn, IsWorkIn, begins_in, port_more, steps_in}
use Rattle.told_laws.proofs.told.Links.{IsLowWindow, so_aged}
use Rattle.told_laws.proofs.told.Notes.{AreFrames, frames_on, noted_aged, noted_puts}

-- ## A world of nodes, whatever happens to it: its links and nodes, and what is noted, are in their ranges

-- ### What is kept

-- a node that runs, but for its tables
pub record IsNodeIn (r : Running) : Type 0 where
  pub number : r.core.node ≤ 7
  pub command : IfBytes r.core.command
  pub init : IfInit r.core.init
  pub desks : AllByRecursion IsDeskIn r.desks

abbrev pub IfNodeIn : Option Running → Type 0
IfNodeIn None = Unit {0}
IfNodeIn (Some r) = IsNodeIn r

pub record IsSiteIn (n : ℕ) (s : Site) : Type 0 where
  pub host : s.host ≤ 7
  pub link : LinkIn false true n s.link
  pub node : IfNodeIn s.node

pub record IsWorldIn (n : ℕ) (w : NodeWorld) : Type 0 where
  pub sites : AllByRecursion (IsSiteIn n) w.sites
  pub controller : IfNodeIn w.controller

-- the tables of a node that runs
pub record HasTables (r : Running) : Type 0 where
  pub tables : AreTablesIn r.core.tables
  pub rows : ArePipeRows r.core.tables.rows

abbrev pub IfTables : Option Running → Type 0
IfTables None = Unit {0}
IfTables (Some r) = HasTables r

abbrev pub SitesHave : List Site → Type 0
SitesHave sites = AllByRecursion (λ (s : Site). IfTables s.node) sites

-- ### Bounds

work_more : (b : Bool) (n k : ℕ) → n ≤ k → (w : Work) → IsWorkIn b n w → IsWorkIn b k w
work_more b n k more w a =
    record {
      core = a.core;
      ports = all_mapped Port (IsPortIn b n) (IsPortIn b k) w.ports (port_more b n k more) a.ports;
      entries = all_in_more n k w.entries more a.entries;
    }

-- ### Lists

site_in_more : (n k : ℕ) → n ≤ k → (s : Site) → IsSiteIn n s → IsSiteIn k s
site_in_more n k more s h = record { host = h.host; link = link_in_more false true n k s.link more h.link; node = h.node }

pub world_more : (n k : ℕ) (w : NodeWorld) → n ≤ k → IsWorldIn n w → IsWorldIn k w
world_more n k w more h = record { sites = all_mapped Site (IsSiteIn n) (IsSiteIn k) w.sites (site_in_more n k more) h.sites; controller = h.controller }

site_changed : (n k : ℕ) → n ≤ k → (h : ℕ) (f : Site → Site) → ((s : Site) → IsSiteIn n s → IsSiteIn k (f s)) → (sites : List Site)
    → AllByRecursion (IsSiteIn n) sites → AllByRecursion (IsSiteIn k) (with_site h f sites)
site_changed n k more h f one sites a =
    all_map (IsSiteIn n) (IsSiteIn k) (λ (s : Site). changed_if (s.host == h) f s) (λ s is. go (s.host == h) s is) sites a
  where
    go : (b : Bool) (s : Site) → IsSiteIn n s → IsSiteIn k (changed_if b f s)
    go true s is = one s is
    go false s is = site_in_more n k more s is

pub link_there : (n : ℕ) (sites : List Site) (h : ℕ) → AllByRecursion (IsSiteIn n) sites → LinkIn false true n (link_to sites h)
link_there n sites h a = by_option (site_at sites h)
    (λ q. rw q (link_in_more false true 0 n (new_link Bare Bare) (omega arith) (grind arith)))
    (λ s q. rw q (site_is (IsSiteIn n) sites h s a q).link)

-- ### Frames

ending_noted : (b : Bool) (n : ℕ) (who : Side) (l : Link) (e : LinkEnd) (ending : Ending) → SideIn b n e → AreFrames IsLineFrame l.to_host
    → AreNotedIn n (ending_entries who l e ending)
ending_noted b n who l e GoesOut is h = noted_puts IsLineFrame IsMail IsMail n who (frames_out e) l (out_in b n e is) h
ending_noted b n who l e CutOff is h = (tt, tt)

-- the end of the link with a host is one of them
port_found : (b : Bool) (n : ℕ) (ports : List Port) (h : ℕ) (p : Port) → ArePortsIn b n ports → port_at ports h ≡ Some p → IsPortIn b n p
port_found b n [] h p a q = absurd (cc q)
port_found b n (x ∷ ports) h p a q =
    cond_both (eqb x.desk.host h) (Some x) (port_at ports h) (λ o. o ≡ Some p → IsPortIn b n p)
    (λ _ z. let same : x ≡ p = cc in subst (IsPortIn b n) same a.0) (λ _ z. port_found b n ports h p a.1 z) q

module _ (b : Bool) (n : ℕ) (k : Work) (a : IsWorkIn b n k) where
  noted_frames : (who : Side) (h : ℕ) (l : Link) → h ≤ 7 → AreFrames IsLineFrame l.to_host → AreIn n (frames_noted who h l k)
  noted_frames who h l small wire = by_option (port_at k.ports h)
      (λ q. rw q tt)
      (λ p q. rw q (all_entries_in h n (omega (arith, small)) (ending_entries who l p.side (ending_of k))
      (ending_noted b n who l p.side (ending_of k) (port_found b n k.ports h p a.ports q).side wire)))

  turns_of : (h : ℕ) → AreTurnsIn (turns_at k h)
  turns_of h = by_option (port_at k.ports h) (λ q. rw q tt) (λ p q. rw q (port_found b n k.ports h p a.ports q).turns)

  still_runs : IfNodeIn (runs_on k)
  still_runs = cond_both k.cut None (Some (record { core = k.core; desks = map (λ (p : Port). p.desk) k.ports })) IfNodeIn (λ _. tt)
      (λ _. record { number = a.core.node; command = a.core.command; init = a.core.init; desks = desks })
    where
      desks : AllByRecursion IsDeskIn (map (λ (p : Port). p.desk) k.ports)
      desks = all_map (IsPortIn b n) IsDeskIn (λ (p : Port). p.desk) (λ p is. is.desk) k.ports a.ports

-- ### Steps of a node

near_in : (b c : Bool) (n : ℕ) (l : Link) (comes : Comes) → LinkIn b c n l → NumberedIn b n (near_end_in l comes)
near_in b c n l comes h = grind arith

work_begins : (b : Bool) (n : ℕ) (r : Running) (plan : Option Plan) (near_ends : ℕ → NumberedEnd) (t : List Entry) → IsNodeIn r → HasTables r
    → ((h : ℕ) → NumberedIn b n (near_ends h)) → AreIn n t → IsWorkIn b n (work_of r plan near_ends t)
work_begins b n r plan near_ends t is has are noted = record {
  core = record { node = is.number; tables = has.tables; rows = has.rows; command = is.command; init = is.init };
  ports = all_map IsDeskIn (IsPortIn b n) (λ (d : Desk). port_for (near_ends d.host) d)
      (λ d h. record { desk = h; side = (are d.host).side.side; session = grind arith; turns = tt }) r.desks is.desks;
  entries = noted;
}

wires_on : (b c : Bool) (n : ℕ) (l : Link) (comes : Comes) → LinkIn b c n l → AreFrames IsLineFrame (wires_for l comes).to_host
wires_on b c n l (Starts value) h = tt
wires_on b c n l Stops h = tt
wires_on b c n l _ h = frames_on IsLineFrame n l.to_host h.to_far.frames

-- what comes to an end is in its range
comes_input : (b c : Bool) (n : ℕ) (l : Link) (comes : Comes) (i : LinkInput) → ComesIn b comes → LinkIn b c n l → input_of l comes ≡ Some i → IsInputIn b i
comes_input b c n l comes i may h q = grind arith

-- ### A step

-- the world behind a step and what is noted of it
pub record IsStepIn (n : ℕ) (p : NodeWorld × List Entry) : Type 0 where
  pub world : IsWorldIn n p.0
  pub noted : AreIn n p.1

-- what a node does in a step keeps its range
abbrev KeepsIn : Bool → ℕ → (Work → Work) → Type 0
KeepsIn b n f = (v : Work) → IsWorkIn b n v → IsWorkIn b (n + 8) (f v)

module _ (n : ℕ) (w : NodeWorld) (is : IsWorldIn n w) where
  after_step : (h : ℕ) (comes : Comes) (k : Work) → ComesIn false comes → IsWorkIn false (n + 8) k → IsStepIn (n + 13) (after_controller w h comes k)
  after_step h comes k may a = record {
    world = record {
      sites = all_map (IsSiteIn n) (IsSiteIn (n + 13)) (link_after_controller h comes k)
          (λ s x. record {
            host = x.host;
            link = link_steps false true n s.link (comes_to h comes s.host) (turns_at k s.host) (ending_of k) (grind arith)
                (turns_of false (n + 8) k a s.host) x.link;
            node = x.node;
          }) w.sites is.sites;
      controller = still_runs false (n + 8) k a;
    };
    noted = all_in_more (n + 8) (n + 13) _ (omega arith)
        (in-append (n + 8) k.entries _ a.entries
        (each_in (n + 8) (IsSiteIn n) (λ (s : Site). frames_noted Controller s.host (wires_for s.link (comes_to h comes s.host)) k)
        (λ s x. noted_frames false (n + 8) k a Controller s.host (wires_for s.link (comes_to h comes s.host)) x.host
        (wires_on false true n s.link (comes_to h comes s.host) x.link)) w.sites is.sites));
  }

  nothing_done : IsStepIn (n + 13) (w, [])
  nothing_done = record { world = world_more n (n + 13) w (omega arith) is; noted = tt }

  controller_step : (h : ℕ) (comes : Comes) (f : Work → Work) → h ≤ 7 → ComesIn false comes → KeepsIn false n f → IfTables w.controller
      → IsStepIn (n + 13) (controller_does w h comes f)
  controller_step h comes f small may keeps has =
      by_controller (IsStepIn (n + 13)) w h comes f nothing_done
      (λ r q.
      let near_ends : ℕ → NumberedEnd = λ k. near_end_in (link_to w.sites k) (comes_to h comes k) in
      after_step h comes (controller_work w r h comes f) may
      (keeps (work_of r w.memory.plan near_ends _)
      (work_begins false n r w.memory.plan near_ends _ (subst IfNodeIn q is.controller) (subst IfTables q has)
      (λ k. near_in false true n (link_to w.sites k) (comes_to h comes k) (link_there n w.sites k is.sites))
      (all_entries_in h n (omega (arith, small)) (arrival Controller (link_to w.sites h) comes)
      (let h0 = link_to w.sites h in let h1 = link_there n w.sites h is.sites in grind arith)))))

  host_step : (h : ℕ) (comes : Comes) (f : Work → Work) → ComesIn true comes → KeepsIn true n f → SitesHave w.sites
      → IsStepIn (n + 13) (host_does w h comes f)
  host_step h comes f may keeps has =
      by_host (IsStepIn (n + 13)) w h comes f nothing_done
      (λ s r there q.
      let here : IsSiteIn n s = site_is (IsSiteIn n) w.sites h s is.sites there in
      let far : LinkIn true false n (exchanged s.link) = link_exchanged false true n s.link here.link in
      let small = here.host in
      let k : Work = host_work s r comes f in
      let a : IsWorkIn true (n + 8) k =
      keeps (work_of r s.memory.plan (λ j. near_end_in (exchanged s.link) comes) _)
      (work_begins true n r s.memory.plan (λ j. near_end_in (exchanged s.link) comes) _ (subst IfNodeIn q here.node)
      (subst IfTables q (site_is (λ (x : Site). IfTables x.node) w.sites h s has there))
      (λ j. near_in true false n (exchanged s.link) comes far)
      (all_entries_in s.host n (omega (arith, small)) (arrival Host (exchanged s.link) comes) (grind arith))) in
      record {
        world = record {
          sites = site_changed n (n + 13) (omega arith) h (after_host comes k)
              (λ x y. record {
                host = y.host;
                link = link_exchanged true false (n + 13) (happens_at_controller (exchanged x.link) (Step comes (turns_at k x.host) (ending_of k)))
                    (link_steps true false n (exchanged x.link) comes (turns_at k x.host) (ending_of k) may (turns_of true (n + 8) k a x.host)
                    (link_exchanged false true n x.link y.link));
                node = still_runs true (n + 8) k a;
              }) w.sites is.sites;
          controller = is.controller;
        };
        noted = all_in_more (n + 8) (n + 13) _ (omega arith)
            (in-append (n + 8) k.entries _ a.entries
            (noted_frames true (n + 8) k a Host h (wires_for (exchanged s.link) comes) (let same = site_host w.sites h s there in omega (arith, small, same))
            (wires_on true false n (exchanged s.link) comes far)));
      })

-- ## Whatever happens to a world of nodes keeps it, and what is noted of it, in range

-- ### What comes to an end

-- tables of all nodes that run
pub record WorldHas (w : NodeWorld) : Type 0 where
  pub controller : IfTables w.controller
  pub sites : SitesHave w.sites

step_more : (n k : ℕ) (p : NodeWorld × List Entry) → n ≤ k → IsStepIn n p → IsStepIn k p
step_more n k p more h = record { world = world_more n k p.0 more h.world; noted = all_in_more n k p.1 more h.noted }

module _ (n : ℕ) (w : NodeWorld) (is : IsWorldIn n w) (has : WorldHas w) where
  coming : (e : End) (comes : Comes) → e.link ≤ 7 → ((b : Bool) → e.at_host ≡ b → ComesIn b comes) → IsStepIn (n + 13) (comes_at w e comes)
  coming e comes small may =
      by_coming (IsStepIn (n + 13)) w e comes (nothing_done n w is)
      (λ i q z.
      let input = comes_input true false n (exchanged (link_to w.sites e.link)) comes i (may true q)
      (link_exchanged false true n (link_to w.sites e.link) (link_there n w.sites e.link is.sites)) z in
      host_step n w is e.link comes (steps (AtEnd e.link i)) (may true q) (λ v a. steps_in true n (AtEnd e.link i) v input a) has.sites)
      (λ i q z.
      let input = comes_input false true n (link_to w.sites e.link) comes i (may false q) (link_there n w.sites e.link is.sites) in
      controller_step n w is e.link comes (steps (AtEnd e.link i)) small (may false q) (λ v a. steps_in false n (AtEnd e.link i) v (input z) a) has.controller)

  -- a host begins a step of its own
  begun : (h : ℕ) (deeds : List Deed) → h ≤ 7 → AreDeedsIn deeds → IsStepIn (n + 13) (host_does w h NoInput (begins_with h deeds))
  begun h deeds small are =
      host_step n w is h NoInput (begins_with h deeds) tt
      (λ v a. work_more true n (n + 8) (omega arith) (begins_with h deeds v) (begins_in true n h deeds v small are a))
      has.sites

-- ### Power and memories

module _ (n : ℕ) where
  cut_link : (s : Site) → IsSiteIn n s → IsSiteIn (n + 13) (record s { link = happens s.link (AtController (Step NoInput [] CutOff)) })
  cut_link s a = record { host = a.host; link = link_steps false true n s.link NoInput [] CutOff tt tt a.link; node = a.node }

  cut_host : (s : Site) → IsSiteIn n s → IsSiteIn (n + 13) (host_cut s)
  cut_host s a = grind arith

  power_in : (k : ℕ) (w : NodeWorld) → IsWorldIn n w → IsWorldIn (n + 13) (loses_power_at k w)
  power_in k w is =
      by_power (IsWorldIn (n + 13)) k w
      (λ z. record {
        sites = all_map (IsSiteIn n) (IsSiteIn (n + 13)) (λ (s : Site). record s { link = happens s.link (AtController (Step NoInput [] CutOff)) })
            cut_link w.sites is.sites;
        controller = tt;
      })
      (λ z. record { sites = site_changed n (n + 13) (omega arith) k host_cut cut_host w.sites is.sites; controller = is.controller })

  memory_in : (k : ℕ) (m : Memory) (w : NodeWorld) → IsWorldIn n w → IsWorldIn n (with_memory k m w)
  memory_in k m w is =
      by_memory (IsWorldIn n) k w m (λ z. record { sites = is.sites; controller = is.controller })
      (λ z. record {
        sites = site_changed n n (omega arith) k (λ s. record s { memory = m })
            (λ s a. record { host = a.host; link = a.link; node = a.node }) w.sites is.sites;
        controller = is.controller;
      })

  node_in : (k : ℕ) (r : Running) (w : NodeWorld) → IsNodeIn r → IsWorldIn n w → IsWorldIn n (with_node k r w)
  node_in k r w a is =
      by_running (IsWorldIn n) k w r (λ z. record { sites = is.sites; controller = a })
      (λ z. record {
        sites = site_changed n n (omega arith) k (λ s. record s { node = Some r }) (λ s b. record { host = b.host; link = b.link; node = a }) w.sites is.sites;
        controller = is.controller;
      })

  links_low : (w : NodeWorld) (k : ℕ) → k ≤ 7 → IsWorldIn n w → AllByRecursion (λ (h : ℕ). h ≤ 7) (links_of w k)
  links_low w k small is =
      cond_both (k == 0) (map (λ (s : Site). s.host) w.sites) (k ∷ []) (AllByRecursion (λ (h : ℕ). h ≤ 7))
      (λ _. all_map (IsSiteIn n) (λ (h : ℕ). h ≤ 7) (λ (s : Site). s.host) (λ s is. is.host) w.sites is.sites) (λ _. (small, tt))

  boots_in : (w : NodeWorld) (k : ℕ) → k ≤ 7 → IsWorldIn n w → IsStepIn (n + 13) (boots w k)
  boots_in w k small is =
      let kept : IsWorldIn n (boot_written w k) = memory_in k (after_planned (boot_writes (memory_at w k).content) (memory_at w k)) w is in
      by_boot (IsStepIn (n + 13)) w k
      (record { world = power_in k (boot_written w k) kept; noted = (omega (arith, small), tt) })
      (record {
        world = world_more n (n + 13) _ (omega arith)
            (node_in k (boot_found w k) (boot_written w k)
            (record { number = small; command = tt; init = tt; desks = desks }) kept);
        noted = (omega (arith, small), tt);
      })
    where
      desks : AllByRecursion IsDeskIn (map new_desk (links_of w k))
      desks =
          all_map (λ (h : ℕ). h ≤ 7) IsDeskIn new_desk (λ h low. record { host = low; creation = tt; errors = omega arith }) (links_of w k)
          (links_low w k small is)

-- ### Losses

counts_in : (why : Loss) (h : ℕ) (o : Option Running) → IfNodeIn o → IfNodeIn (counts why h o)
counts_in (Broken fault) h None a = tt
counts_in (Broken fault) h (Some r) a = record {
  number = a.number;
  command = a.command;
  init = a.init;
  desks = all_changed IsDeskIn (λ (d : Desk). d.host == h) (λ d. record d { errors = min 65535 (d.errors + 1) })
      (λ d is. record { host = is.host; creation = is.creation; errors = omega arith }) r.desks a.desks;
}
counts_in _ h o a = a

lost_in : (n : ℕ) (w : NodeWorld) (e : End) (why : Loss) → e.link ≤ 7 → IsWorldIn n w → IsStepIn n (frame_lost w e why)
lost_in n w e why small is =
    let l = link_there n w.sites e.link is.sites in
    by_loss (IsStepIn n) w e why
    (λ side. record {
      world = record {
        sites = site_changed n n (omega arith) e.link (λ s. record (site_lost e why s) { node = counts why e.link s.node })
            (λ s a. record { host = a.host; link = loses s a; node = counts_in why e.link s.node a.node }) w.sites is.sites;
        controller = is.controller;
      };
      noted = all_entries_in e.link n (omega (arith, small)) (first_lost Host why (link_to w.sites e.link).to_host)
          (grind arith);
    })
    (λ side. record {
      world = record {
        sites = site_changed n n (omega arith) e.link (site_lost e why) (λ s a. record { host = a.host; link = loses s a; node = a.node }) w.sites is.sites;
        controller = counts_in why e.link w.controller is.controller;
      };
      noted = all_entries_in e.link n (omega (arith, small)) (first_lost Controller why (link_to w.sites e.link).to_controller)
          (grind arith);
    })
  where
    loses : (s : Site) → IsSiteIn n s → LinkIn false true n (happens s.link (at e (Lose why)))
    loses s a = grind arith

-- ### Activation

-- a step of the controller leaves the nodes of hosts as they are
abbrev IfTablesAt : Site → Type 0
IfTablesAt s = IfTables s.node

controller_leaves : (w : NodeWorld) (h : ℕ) (comes : Comes) (f : Work → Work) → SitesHave w.sites → SitesHave (controller_does w h comes f).0.sites
controller_leaves w h comes f has =
    by_controller (λ p. SitesHave p.0.sites) w h comes f has
    (λ r q. all_map IfTablesAt IfTablesAt (link_after_controller h comes (controller_work w r h comes f)) (λ s is. is) w.sites has)

module _ (n : ℕ) (w : NodeWorld) (is : IsWorldIn n w) (has : WorldHas w) where
  near_leaves : (h power : ℕ) → SitesHave (comes_at w (end_c h) (Starts power)).0.sites
  near_leaves h power =
      by_coming (λ p. SitesHave p.0.sites) w (end_c h) (Starts power) has.sites (λ i q z. absurd (cc q))
      (λ i q z. controller_leaves w h (Starts power) (steps (AtEnd h i)) has.sites)

  activates_in : (h sync power : ℕ) → h ≤ 7 → sync < 65536 → power < 256 → IsStepIn (n + 26) (activates w h sync power)
  activates_in h sync power small id code =
      let near = coming n w is has (end_c h) (Starts power) small (λ b q. grind arith) in
      let far = far_step near in
      record {
        world = far.world;
        noted = in-append (n + 26) _ _ (all_in_more (n + 13) (n + 26) _ (omega arith) near.noted) far.noted;
      }
    where
      between : NodeWorld
      between = (comes_at w (end_c h) (Starts power)).0

      -- the host's part: nothing comes to the controller's end
      far_step : IsStepIn (n + 13) (comes_at w (end_c h) (Starts power)) → IsStepIn (n + 26) (comes_at between (end_h h) (Starts sync))
      far_step near =
          step_more ((n + 13) + 13) (n + 26) (comes_at between (end_h h) (Starts sync)) (omega arith)
          (by_coming (IsStepIn ((n + 13) + 13)) between (end_h h) (Starts sync) (nothing_done (n + 13) between near.world)
          (λ i q z.
          host_step (n + 13) between near.world h (Starts sync) (steps (AtEnd h i)) id
          (λ v a. steps_in true (n + 13) (AtEnd h i) v (grind arith) a) (near_leaves h power))
          (λ i q z. absurd (cc q)))

-- ### Time

-- a change of links leaves the nodes of hosts as they are
same_have : (f : Site → Link) (sites : List Site) → SitesHave sites → SitesHave (map (λ (s : Site). record s { link = f s }) sites)
same_have f sites a = all_map IfTablesAt IfTablesAt (λ (s : Site). record s { link = f s }) (λ s is. is) sites a

module _ (n : ℕ) where
  old_noted : (sites : List Site) → AllByRecursion (IsSiteIn n) sites → AreIn n
      (flat_map (λ (s : Site). entries_for s.host (aged_entries Controller s.link.to_controller ++ aged_entries Host s.link.to_host)) sites)
  old_noted sites a =
      each_in n (IsSiteIn n) (λ (s : Site). entries_for s.host (aged_entries Controller s.link.to_controller ++ aged_entries Host s.link.to_host))
      (λ s x. let small = x.host in
      all_entries_in s.host n (omega (arith, small)) (aged_entries Controller s.link.to_controller ++ aged_entries Host s.link.to_host)
      (each-append (IsNotedIn n) (aged_entries Controller s.link.to_controller) (aged_entries Host s.link.to_host)
      (noted_aged IsLineFrame IsMail IsMail n Controller s.link.to_controller (frames_on IsLineFrame n s.link.to_controller x.link.to_near.frames))
      (noted_aged IsLineFrame IsMail IsMail n Host s.link.to_host (frames_on IsLineFrame n s.link.to_host x.link.to_far.frames)))) sites a

  ticked_link : (l : Link) (late : Bool) (k : Work) (h : ℕ) → AreTurnsIn (turns_at k h) → LinkIn false true n l
      → LinkIn false true (n + 13) (ticked_so l late (turns_at k h) (ending_of k))
  ticked_link l late k h turns a =
      cond_both (late && not (is_waiting l.controller.side.shdlc)) (has_input l (Reset None) (turns_at k h) (ending_of k)) _ (LinkIn false true (n + 13))
      (λ _. link_has_input false true n l (Reset None) (turns_at k h) (ending_of k) tt turns a)
      (λ _. link_has_input false true n l Tick (turns_at k h) (ending_of k) tt turns a)

-- what is left of the nodes of hosts as the controller has had its tick
record IsNearStep (n : ℕ) (p : NodeWorld × List Entry) : Type 0 where
  step : IsStepIn n p
  have : SitesHave p.0.sites

near_ticks : (n : ℕ) (w : NodeWorld) → IsWorldIn n w → WorldHas w → IsNearStep (n + 13) (controller_ticks w)
near_ticks n w is has =
    by_controller_tick (IsNearStep (n + 13)) w
    (λ q. record {
      step = record {
        world = record {
          sites = all_map (IsSiteIn n) (IsSiteIn (n + 13)) (λ (s : Site). record s { link = ticks_at_controller s.link [] GoesOut })
              (λ s a. record { host = a.host; link = link_has_input false true n s.link Tick [] GoesOut tt tt a.link; node = a.node }) w.sites is.sites;
          controller = is.controller;
        };
        noted = tt;
      };
      have = same_have (λ s. ticks_at_controller s.link [] GoesOut) w.sites has.sites;
    })
    (λ r q.
    let k : Work = near_tick w r in
    let a : IsWorkIn false (n + 8) k =
    steps_in false n TimePasses (work_of r w.memory.plan (λ h. (link_to w.sites h).controller) []) tt
    (work_begins false n r w.memory.plan (λ h. (link_to w.sites h).controller) [] (subst IfNodeIn q is.controller) (subst IfTables q has.controller)
    (λ h. (link_there n w.sites h is.sites).near) tt) in
    record {
      step = record {
        world = record {
          sites = all_map (IsSiteIn n) (IsSiteIn (n + 13))
              (λ (s : Site). record s { link = ticked_so s.link (is_late_at k s.host) (turns_at k s.host) (ending_of k) })
              (λ s x. record {
                host = x.host;
                link = ticked_link n s.link (is_late_at k s.host) k s.host (turns_of false (n + 8) k a s.host) x.link;
                node = x.node;
              }) w.sites is.sites;
          controller = still_runs false (n + 8) k a;
        };
        noted = all_in_more (n + 8) (n + 13) _ (omega arith) (in-append (n + 8) k.entries _ a.entries
            (each_in (n + 8) (IsSiteIn n) (λ (s : Site). frames_noted Controller s.host s.link k)
            (λ s x. noted_frames false (n + 8) k a Controller s.host s.link x.host (frames_on IsLineFrame n s.link.to_host x.link.to_far.frames))
            w.sites is.sites));
      };
      have = same_have (λ s. ticked_so s.link (is_late_at k s.host) (turns_at k s.host) (ending_of k)) w.sites has.sites;
    })

record IsFarStep (n : ℕ) (p : Site × List Entry) : Type 0 where
  site : IsSiteIn n p.0
  noted : AreIn n p.1

far_tick : (n : ℕ) (s : Site) → IsSiteIn n s → IfTables s.node → IsFarStep (n + 13) (host_ticks s)
far_tick n s is has =
    let far : LinkIn true false n (exchanged s.link) = link_exchanged false true n s.link is.link in
    by_host_tick (IsFarStep (n + 13)) s
    (λ q. record {
      site = record {
        host = is.host;
        link = link_exchanged true false (n + 13) (ticks_at_controller (exchanged s.link) [] GoesOut)
            (link_has_input true false n (exchanged s.link) Tick [] GoesOut tt tt far);
        node = is.node;
      };
      noted = tt;
    })
    (λ r q.
    let k : Work = host_tick s r in
    let a : IsWorkIn true (n + 8) k =
    steps_in true n TimePasses (work_of r s.memory.plan (λ h. s.link.host) []) tt
    (work_begins true n r s.memory.plan (λ h. s.link.host) [] (subst IfNodeIn q is.node) (subst IfTables q has) (λ h. is.link.far) tt) in
    record {
      site = record {
        host = is.host;
        link = link_exchanged true false (n + 13) (ticks_at_controller (exchanged s.link) (turns_at k s.host) (ending_of k))
            (link_has_input true false n (exchanged s.link) Tick (turns_at k s.host) (ending_of k) tt (turns_of true (n + 8) k a s.host) far);
        node = still_runs true (n + 8) k a;
      };
      noted = all_in_more (n + 8) (n + 13) _ (omega arith)
          (in-append (n + 8) k.entries _ a.entries
          (noted_frames true (n + 8) k a Host s.host (exchanged s.link) is.host (frames_on IsLineFrame n s.link.to_controller is.link.to_near.frames)));
    })

record AreFarSteps (n : ℕ) (p : List Site × List Entry) : Type 0 where
  sites : AllByRecursion (IsSiteIn n) p.0
  noted : AreIn n p.1

far_ticks : (n : ℕ) (sites : List Site) → AllByRecursion (IsSiteIn n) sites → SitesHave sites → AreFarSteps (n + 13) (hosts_tick sites)
far_ticks n [] is has = record { sites = tt; noted = tt }
far_ticks n (s ∷ sites) is has =
    let first = far_tick n s is.0 has.0 in
    let later = far_ticks n sites is.1 has.1 in
    record { sites = (first.site, later.sites); noted = in-append (n + 13) (host_ticks s).1 (hosts_tick sites).1 first.noted later.noted }

ticks_in : (n : ℕ) (w : NodeWorld) → IsWorldIn n w → WorldHas w → IsStepIn (n + 26) (world_ticks w)
ticks_in n w is has =
    let old : IsWorldIn n (all_aged w).0 = record {
      sites = all_map (IsSiteIn n) (IsSiteIn n) (λ (s : Site). record s { link = aged s.link })
          (λ s a. record { host = a.host; link = so_aged IsLineFrame n s.link a.link; node = a.node }) w.sites is.sites;
      controller = is.controller;
    } in
    let near = near_ticks n (all_aged w).0 old (record { controller = has.controller; sites = same_have (λ s. aged s.link) w.sites has.sites }) in
    let far = far_ticks (n + 13) (controller_ticks (all_aged w).0).0.sites near.step.world.sites near.have in
    record {
      world = grind arith;
      noted = in-append (n + 26) (all_aged w).1 _ (all_in_more n (n + 26) (all_aged w).1 (omega arith) (old_noted n w.sites is.sites))
          (in-append (n + 26) (controller_ticks (all_aged w).0).1 _ (all_in_more (n + 13) (n + 26) _ (omega arith) near.step.noted)
          (all_in_more ((n + 13) + 13) (n + 26) _ (omega arith) far.noted));
    }

-- ### One thing that happens

-- what happens is in its range
abbrev pub HappensIn : Happening → Type 0
HappensIn (Boots k) = k ≤ 7
HappensIn (IsCut k) = k ≤ 7
HappensIn (Gives e m) = (e.link ≤ 7) × IsMail m
HappensIn (Inits e identity pipes) = (e.link ≤ 7) × IsInitIn (record { identity = identity; pipes = pipes; answered = 0 })
HappensIn (Takes e) = e.link ≤ 7
HappensIn (Loses e why) = e.link ≤ 7
HappensIn (Resets e window) = (e.link ≤ 7) × IsLowWindow window
HappensIn (Activates h sync power) = (h ≤ 7) × (sync < 65536) × (power < 256)
HappensIn _ = Unit {0}

pub happens_in : (n : ℕ) (w : NodeWorld) (c : Happening) → HappensIn c → IsWorldIn n w → WorldHas w → IsStepIn (n + 26) (world_step w c)
happens_in n w (Boots k) may is has = step_more (n + 13) (n + 26) (boots w k) (omega arith) (boots_in n w k may is)
happens_in n w (IsCut k) may is has =
    record { world = world_more (n + 13) (n + 26) (loses_power_at k w) (omega arith) (power_in n k w is); noted = (omega (arith, may), tt) }
happens_in n w (Gives e m) may is has = step_more (n + 13) (n + 26) _ (omega arith) (begun n w is has e.link (sending e.link m) may.0 (grind arith))
happens_in n w (Inits e identity pipes) may is has =
    step_more (n + 13) (n + 26) _ (omega arith)
    (begun n w is has e.link (beginning identity pipes) may.0 (may.1, (record { some = omega arith; bytes = (omega arith, tt); short = omega arith }, tt)))
happens_in n w (Takes e) may is has = step_more (n + 13) (n + 26) (comes_at w e NextFrame) (omega arith) (coming n w is has e NextFrame may (λ b q. tt))
happens_in n w (Loses e why) may is has = step_more n (n + 26) (frame_lost w e why) (omega arith) (lost_in n w e why may is)
happens_in n w Ticks may is has = ticks_in n w is has
happens_in n w (Resets e window) may is has =
    step_more (n + 13) (n + 26) (comes_at w e (AsksReset window)) (omega arith) (coming n w is has e (AsksReset window) may.0 (λ b q. may.1))
happens_in n w (Activates h sync power) may is has = activates_in n w is has h sync power may.0 may.1 may.2
happens_in n w (Arms k plan) may is has =
    record { world = world_more n (n + 26) _ (omega arith) (memory_in n k (record (memory_at w k) { plan = Some plan }) w is); noted = tt }
