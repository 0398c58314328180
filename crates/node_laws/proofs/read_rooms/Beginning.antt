-- What is known of the ends of the controller, and of the end of a host, as it begins to go through them in a step.
use Rattle.node_laws.proofs.Words.{AtEnd, Before, Bool, Comes, Controller, Deed, Entry, FramesFor, HasEnds, Host, IsLinkTold, IsOrderly, Link, LinkEnd}
use Rattle.node_laws.proofs.Words.{LinkInput, List, NextFrame, NodeInput, NodeWorld, None, Noted, NumberedEnd, Option, Port, Running, Site, Some, Work, []}
use Rattle.node_laws.proofs.Words.{after_input, after_sessions, all_come, all_done, all_owed, all_owed_hold, all_synced_hold, ap, arith, arrival, by_test}
use Rattle.node_laws.proofs.Words.{comes_to, comes_to_pass, cond, controller_begins, entries_for, eqb-true, exchanged, false, flat_map, forgets, forgotten}
use Rattle.node_laws.proofs.Words.{forgotten_hold, has_come, host_begins_step, hosts_in, hosts_of_ends, input_at, input_of, link_to, map, near_end_in}
use Rattle.node_laws.proofs.Words.{number_of, of_link, port_at, refl, report, same_number, site_at, subst, sym, synced, times_out, true, whole_acked}
use Rattle.node_laws.proofs.Words.{without_notice, without_power, ℕ, ◌++◌, ◌==◌, ◌∙◌, ◌∷◌, ◌≡◌}
use Rattle.link_laws.proofs.entries.Running.{frame_facts}
use Rattle.link_laws.specs.entries.Entries.{End as Side}
use Rattle.node_laws.proofs.kept.Doing.{hosts_map}
use Rattle.node_laws.proofs.links.Works.{IsFine, IsFineWork, came_fine, forgets_fine, low, map_fine, without_fine}
use Rattle.node_laws.proofs.links.Worlds.{IsFineSite, IsFineWorld, fine_clean, near_clean, near_end_clean, ports_fine}
use Rattle.node_laws.proofs.order.Lines.{host_number}
use Rattle.node_laws.proofs.order.Ticking.{some_desks}
use Rattle.node_laws.proofs.read_rooms.Carrying.{AreNoted, Came, Carries, IsCarried, are_noted, before_far, before_near, carried_deeds, far_says, has_come_so}
use Rattle.node_laws.proofs.read_rooms.Carrying.{its_notes, near_says}
use Rattle.node_laws.proofs.steps.StepWalks.{come_host, forgets_host, unless, without_host}
use Rattle.node_laws.proofs.telling.Accounts.{Account, all_owed_mute, all_synced_mute, at_host, forgotten_mute}
use Rattle.node_laws.proofs.telling.Events.{given, host_opened, hosts_same_of_nodes as hosts_same, is_so, is_step, node_is, opened}
use Rattle.node_laws.proofs.telling.Steps.{GoesLate, Opening, after_coming, came, notes-append, told_coming}
use Rattle.node_laws.proofs.telling.Shapes.{AreClear, came_uncut, clear-append, clear_told, entries_uncut, twice}

-- ## What is known of the ends of the controller as it begins to go through them in a step

-- ### One end

coming_clear : (who : Side) (h : NumberedEnd) (o : Option LinkInput) → AreClear (told_coming who h o)
coming_clear who h None = tt
coming_clear who h (Some i) = clear_told who (number_of h) (report h.side i) (whole_acked (after_input h.side i))

module _ (t : List Entry) (h : ℕ) (who : Side) (l : Link) (comes : Comes) (o : Option LinkInput) where
  pub carries_from : (late : Bool) (before : List Noted) (w : Work) → (h == 0) ≡ false → AreNoted h t before → Came before who l comes o
      → GoesLate h who l comes o late w → Carries t h who w
  carries_from late before w number noted c goes =
      let first : List Noted = arrival who l comes in
      let second : List Noted = told_coming who (near_end_in l comes) o in
      let b : List Entry = of_link h (entries_for h first) ++ of_link h (entries_for h second) in
      let N : ℕ → Type 0 = λ n. Account h who n (after_coming (near_end_in l comes).side o) b late w in
      let E : LinkEnd → Type 0 = λ e. Account h who (number_of c.end) e b late w in
      let B : List Entry → Type 0 = λ z. Account h who (number_of c.end) c.end.side z late w in
      record {
        number = number;
        before = before;
        came = first ++ second;
        end = c.end;
        late = late;
        noted = noted;
        clear = clear-append first second (grind arith) (coming_clear who (near_end_in l comes) o);
        says = c.says;
        account = subst B (sym (notes-append h first second)) (subst E (sym c.side) (subst N (sym c.number) goes));
      }

-- what is known of a frame that is taken
frames_for : (l : Link) (comes : Comes) → Before l → FramesFor comes l []
frames_for l NextFrame b = frame_facts l [] tt b
frames_for l _ b = tt

-- ### All ends

-- the host of an end
pub record HasSite (sites : List Site) (h : ℕ) : Type 0 where
  pub site : Site
  pub there : site_at sites h ≡ Some site

pub site_for : (ports : List Port) (sites : List Site) (h : ℕ) (p : Port) → hosts_of_ends ports ≡ hosts_in sites → port_at ports h ≡ Some p
    → HasSite sites h
site_for [] sites h p e q = absurd (cc q)
site_for (x ∷ ports) [] h p e q = absurd (cc e)
site_for (x ∷ ports) (s ∷ sites) h p e q = by_test (x.desk.host == h)
    (λ f. let found : (s.host == h) ≡ true = ap (λ n. n == h) (sym cc) ∙ f in record { site = s; there = rw found refl })
    (λ f. let passed : (s.host == h) ≡ false = ap (λ n. n == h) (sym cc) ∙ f in
    let rest : HasSite sites h = site_for ports sites h p others (rw f at q) in
    record { site = rest.site; there = rw passed rest.there })
  where
    others : hosts_of_ends ports ≡ hosts_in sites
    others = cc

-- what is left to do before a node goes through its ends
pub pass_carried : (t : List Entry) (who : Side) (input : NodeInput) (w : Work)
    → (let v : Work = times_out input (all_come input w) in
    IsCarried t who (record v { core = after_sessions v.core v.ports; ports = map without_notice (map (forgets v.ports) v.ports) }))
    → IsCarried t who (comes_to_pass input w)
pass_carried t who input w a =
    let v : Work = times_out input (all_come input w) in
    let left : List Port = map (forgets v.ports) v.ports in
    let start : Work = record v { core = after_sessions v.core v.ports; ports = map without_notice left } in
    let freed : List Deed = forgotten v.ports in
    let syncs : List Deed = flat_map (synced w.core input) w.ports in
    let owing : List Deed = all_owed left in
    let one : IsCarried t who (all_done 0 freed start) =
    carried_deeds t who 0 freed start (forgotten_mute v.ports) (forgotten_hold IsFine (λ asker. tt) v.ports) a in
    let two : IsCarried t who (all_done 0 syncs (all_done 0 freed start)) =
    carried_deeds t who 0 syncs (all_done 0 freed start) (all_synced_mute w.core input w.ports)
    (all_synced_hold IsFine (λ host id. tt) w.core input w.ports) one in
    unless (IsCarried t who) (all_done 0 owing) (all_done 0 syncs (all_done 0 freed start))
    (λ x b. carried_deeds t who 0 owing x (all_owed_mute left) (all_owed_hold IsFine (λ asker. tt) (λ to r. (low, omega arith)) left) b) two

pub begun_fine : (input : NodeInput) (w : Work) → IsFineWork w
    → (let v : Work = times_out input (all_come input w) in
    IsFineWork (record v { core = after_sessions v.core v.ports; ports = map without_notice (map (forgets v.ports) v.ports) }))
begun_fine input w a =
    let v : Work = times_out input (all_come input w) in
    map_fine without_notice without_fine (map (forgets v.ports) v.ports) (map_fine (forgets v.ports) (forgets_fine v.ports) v.ports (came_fine input w a))

-- ### Something comes to an end of the controller

module _ (w : NodeWorld) (t : List Entry) (orderly : IsOrderly w) (fine : IsFineWorld w)
    (told : (h : ℕ) (s : Site) → site_at w.sites h ≡ Some s → IsLinkTold h s.link t) (r : Running) (runs : w.controller ≡ Some r) where
  pub node : HasEnds 0 (hosts_in w.sites) r
  node = node_is 0 (hosts_in w.sites) w.controller r orderly.controller runs

  module _ (k : ℕ) (comes : Comes) (i : LinkInput) (q : input_of (link_to w.sites k) comes ≡ Some i) where
    abbrev start : Work
    start = controller_begins w r k comes

    abbrev come : Work
    come = all_come (AtEnd k i) start

    abbrev begun : Work
    begun = record come { core = after_sessions come.core come.ports; ports = map without_notice (map (forgets come.ports) come.ports) }

    abbrev near_ends : ℕ → NumberedEnd
    near_ends j = near_end_in (link_to w.sites j) (comes_to k comes j)

    begun_hosts : hosts_of_ends begun.ports ≡ hosts_in w.sites
    begun_hosts =
        hosts_map without_notice without_host (map (forgets come.ports) come.ports)
        ∙ (hosts_map (forgets come.ports) (forgets_host come.ports) come.ports
        ∙ (hosts_map (λ p. has_come p (input_at (AtEnd k i) p)) (λ p. come_host p (input_at (AtEnd k i) p)) start.ports
        ∙ (hosts_same near_ends r.desks ∙ node.ends)))

    carries_one : (h : ℕ) (s : Site) → site_at w.sites h ≡ Some s → Carries t h Controller begun
    carries_one h s found =
        let here : Comes = comes_to k comes h in
        let o : Option LinkInput = cond (h == k) (Some i) None in
        let a : Opening h Controller s.link here start = opened w r k comes h s orderly node found in
        let host : a.port.desk.host ≡ h = eqb-true a.port.desk.host h (at_host start.ports h a.port a.here) in
        let link : IsLinkTold h s.link t = told h s found in
        let notes : List Noted = its_notes h s.link t link in
        carries_from t h Controller s.link here o false notes begun (host_number w h s orderly found) (are_noted h s.link t link)
        (has_come_so notes Controller s.link here o (given w r k comes h s orderly node found i q (h == k) refl)
        (is_so w r k comes h s orderly node found i (h == k)) (frames_for s.link here (before_near h s.link t link)) (near_says h s.link t link))
        (came h Controller s.link here o k i start a (ap (λ n. cond (n == k) (Some i) None) host) come.ports)

    pub comes_carried : IsCarried t Controller (comes_to_pass (AtEnd k i) start)
    comes_carried =
        pass_carried t Controller (AtEnd k i) start (record {
          carry = record {
            uncut = λ _. came_uncut 0 0 (without_power Controller) (λ x. refl) (twice Controller) (AtEnd k i) start
                (entries_uncut k (arrival Controller (link_to w.sites k) comes));
            each = λ h p here. let s : HasSite w.sites h = site_for begun.ports w.sites h p begun_hosts here in carries_one h s.site s.there;
          };
          fine = begun_fine (AtEnd k i) start
              (ports_fine near_ends
              (λ j. near_end_clean (link_to w.sites j) (comes_to k comes j) (near_clean w.sites j (fine_clean w.sites fine.sites))) r.desks
              (some_desks w.controller r runs fine.controller));
        })

-- ## What is known of the end of a host as it begins to go through its messages in a step

-- where a node has one end, it is the one of the link with this host
pub only_end : (ports : List Port) (n h : ℕ) (p : Port) → hosts_of_ends ports ≡ n ∷ [] → port_at ports h ≡ Some p → n ≡ h
only_end [] n h p e q = absurd (cc q)
only_end (x ∷ y ∷ ports) n h p e q = absurd (cc e)
only_end (x ∷ []) n h p e q = grind arith

module _ (t : List Entry) (s : Site) (fine : IsFineSite s) (told : IsLinkTold s.host s.link t) (r : Running) (runs : s.node ≡ Some r)
    (number : (s.host == 0) ≡ false) (node : HasEnds s.host (s.host ∷ []) r) where
  module _ (comes : Comes) (i : LinkInput) (q : input_of (exchanged s.link) comes ≡ Some i) where
    abbrev host_start : Work
    host_start = host_begins_step s r comes

    abbrev host_come : Work
    host_come = all_come (AtEnd s.host i) host_start

    abbrev host_begun : Work
    host_begun = record host_come {
      core = after_sessions host_come.core host_come.ports;
      ports = map without_notice
          (map (forgets host_come.ports) host_come.ports);
    }

    host_begun_hosts : hosts_of_ends host_begun.ports ≡ s.host ∷ []
    host_begun_hosts =
        hosts_map without_notice without_host (map (forgets host_come.ports) host_come.ports)
        ∙ (hosts_map (forgets host_come.ports) (forgets_host host_come.ports) host_come.ports
        ∙ (hosts_map (λ p. has_come p (input_at (AtEnd s.host i) p)) (λ p. come_host p (input_at (AtEnd s.host i) p)) host_start.ports
        ∙ (hosts_same (λ j. near_end_in (exchanged s.link) comes) r.desks ∙ node.ends)))

    carries_own : Carries t s.host Host host_begun
    carries_own =
        let a : Opening s.host Host (exchanged s.link) comes host_start = host_opened s r comes number node in
        let host : a.port.desk.host ≡ s.host = eqb-true a.port.desk.host s.host (at_host host_start.ports s.host a.port a.here) in
        let same : cond (s.host == s.host) (Some i) None ≡ Some i = ap (λ b. cond b (Some i) None) (same_number s.host) in
        let notes : List Noted = its_notes s.host s.link t told in
        carries_from t s.host Host (exchanged s.link) comes (Some i) false notes host_begun number (are_noted s.host s.link t told)
        (has_come_so notes Host (exchanged s.link) comes (Some i) q (is_step comes i)
        (frames_for (exchanged s.link) comes (before_far s.host s.link t told)) (far_says s.host s.link t told))
        (came s.host Host (exchanged s.link) comes (Some i) s.host i host_start a (ap (λ n. cond (n == s.host) (Some i) None) host ∙ same) host_come.ports)

    pub host_carried : IsCarried t Host (comes_to_pass (AtEnd s.host i) host_start)
    host_carried =
        pass_carried t Host (AtEnd s.host i) host_start (record {
          carry = record {
            uncut = λ _. came_uncut 0 0 (without_power Controller) (λ x. refl) (twice Controller) (AtEnd s.host i) host_start
                (entries_uncut s.host (arrival Host (exchanged s.link) comes));
            each = λ h p here. subst (λ (h : ℕ). Carries t h Host host_begun) (only_end host_begun.ports s.host h p host_begun_hosts here) carries_own;
          };
          fine = begun_fine (AtEnd s.host i) host_start
              (ports_fine (λ j. near_end_in (exchanged s.link) comes) (λ j. near_end_clean (exchanged s.link) comes fine.link.line.far) r.desks
              (some_desks s.node r runs fine.node));
        })
