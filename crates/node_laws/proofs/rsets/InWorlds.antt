-- Few RSETs are put on the links of a world: two at most in each tick, and one where a reset is asked for.
use Rattle.node_laws.proofs.Words.{Activates, Arms, AsksReset, AtController, AtEnd, AtHost, Bool, Boots, Comes, End, Ending, Gives, GoesOut, Happening, Inits}
use Rattle.node_laws.proofs.Words.{IsCut, Link, LinkEvent, List, Loses, Loss, Memory, NextFrame, NoInput, NodeWorld, None, Occurrence, Resets, Running, Site}
use Rattle.node_laws.proofs.Words.{Some, Starts, Step, Takes, Ticks, Turn, Work, [], activates, after_host, aged, all_aged, all_happen, arith, beginning}
use Rattle.node_laws.proofs.Words.{begins_with, boot_found, boot_written, boots, by_boot, by_coming, by_controller, by_controller_tick, by_host, by_host_tick}
use Rattle.node_laws.proofs.Words.{by_loss, by_memory, by_power, by_running, by_test, can_happen, changed_if, comes_at, comes_to, controller_does}
use Rattle.node_laws.proofs.Words.{controller_ticks, controller_work, counts, end_c, end_h, ending_of, exchanged, frame_lost, happens, host_cut, host_does}
use Rattle.node_laws.proofs.Words.{host_tick, host_ticks, host_work, hosts_tick, is_late_at, is_waiting, link_after_controller, loses_power_at, map, memory_at}
use Rattle.node_laws.proofs.Words.{near_end_in, near_tick, new_site, new_world, not, number_of, refl, replicate, sending, site_lost, site_ticked, steps}
use Rattle.node_laws.proofs.Words.{ticked_so, ticks_at_controller, turns_at, with_memory, with_node, with_site, world_behind, world_step, world_ticks, ℕ, ◌&&◌}
use Rattle.node_laws.proofs.Words.{◌+◌, ◌==◌, ◌∷◌, ◌≡◌, ◌≤◌}
use Rattle.link_laws.specs.messages.Rsets.{FewRsets, resets_in_coming, rset_causes}
use Rattle.node_laws.specs.rsets.Causes.{FewRsetsOnEach, NumbersWithinOnEach, happened_in, world_ticks_in, resets_among, others_among, rsets_by, rsets_by_all}
use Rattle.link_laws.proofs.messages.RsetNumbers.{aged_numbered, event_numbered, exchanged_numbered, made_by_event, made_in_tick, made_in_tick_there}
use Rattle.link_laws.proofs.messages.RsetNumbers.{numbers_within, tick_numbered, tick_there_numbered}

-- ## A link

few_longer : (m n : ℕ) (l : Link) → m ≤ n → FewRsets m l → FewRsets n l
few_longer m n l q f = record { made = let z = f.made in omega (arith, q, z); numbered = f.numbered }

few_by_event : (n : ℕ) (l : Link) (e : LinkEvent) → FewRsets n l → FewRsets (n + rset_causes e) (happens l e)
few_by_event n l e f = record { made = let z = made_by_event l e in let a = f.made in omega (arith, z, a); numbered = event_numbered l e f.numbered }

few_aged : (n : ℕ) (l : Link) → FewRsets n l → FewRsets n (aged l)
few_aged n l f = record { made = let a = f.made in omega (arith, a); numbered = aged_numbered l f.numbered }

few_ticked : (n : ℕ) (l : Link) (ts : List Turn) (ending : Ending) → FewRsets n l → FewRsets (n + 1) (ticks_at_controller l ts ending)
few_ticked n l ts ending f =
    record { made = let z = made_in_tick l ts ending in let a = f.made in omega (arith, z, a); numbered = tick_numbered l ts ending f.numbered }

few_ticked_there : (n : ℕ) (l : Link) (ts : List Turn) (ending : Ending) → FewRsets n l
    → FewRsets (n + 1) (exchanged (ticks_at_controller (exchanged l) ts ending))
few_ticked_there n l ts ending f =
    record {
      made = let z = made_in_tick_there l ts ending in let a = f.made in omega (arith, z, a);
      numbered = tick_there_numbered l ts ending f.numbered;
    }

-- an end whose notice is late is reset in place of having its tick
few_ticked_so : (n : ℕ) (l : Link) (late : Bool) (ts : List Turn) (ending : Ending) → FewRsets n l → FewRsets (n + 1) (ticked_so l late ts ending)
few_ticked_so n l late ts ending f = by_test (late && not (is_waiting l.controller.side.shdlc))
    (λ q. rw q (few_by_event n l (AtController (Step (AsksReset None) ts ending)) f))
    (λ q. rw q (few_ticked n l ts ending f))

pub few_exchanged : (n : ℕ) (l : Link) → FewRsets n l → FewRsets n (exchanged l)
few_exchanged n l f = record { made = let a = f.made in omega (arith, a); numbered = exchanged_numbered l f.numbered }

-- an end as it has heard of the number of an RSET that comes has no session with a greater number
pub near_low : (n : ℕ) (l : Link) (comes : Comes) → FewRsets n l → number_of (near_end_in l comes) ≤ n
near_low n l comes f = grind arith

-- ## Sites

each : (m n : ℕ) (f : Site → Site) → ((s : Site) → FewRsets m s.link → FewRsets n (f s).link) → (sites : List Site) → FewRsetsOnEach m sites
    → FewRsetsOnEach n (map f sites)
each m n f one [] a = tt
each m n f one (s ∷ sites) a = (one s a.0, each m n f one sites a.1)

changed : (m n : ℕ) (b : Bool) (f : Site → Site) → m ≤ n → ((s : Site) → FewRsets m s.link → FewRsets n (f s).link) → (s : Site) → FewRsets m s.link
    → FewRsets n (changed_if b f s).link
changed m n b f q one s a = grind arith

one_of : (m n h : ℕ) (f : Site → Site) → m ≤ n → ((s : Site) → FewRsets m s.link → FewRsets n (f s).link) → (sites : List Site)
    → FewRsetsOnEach m sites → FewRsetsOnEach n (with_site h f sites)
one_of m n h f q one sites a = each m n (λ (s : Site). changed_if (s.host == h) f s) (λ s b. changed m n (s.host == h) f q one s b) sites a

pub each_longer : (m n : ℕ) (sites : List Site) → m ≤ n → FewRsetsOnEach m sites → FewRsetsOnEach n sites
each_longer m n [] q a = tt
each_longer m n (s ∷ sites) q a = (few_longer m n s.link q a.0, each_longer m n sites q a.1)

-- ## Steps of one node

-- what comes to an end of the link with the host h is nothing at the other links
comes_few : (h : ℕ) (comes : Comes) (k : ℕ) → resets_in_coming (comes_to h comes k) ≤ resets_in_coming comes
comes_few h comes k = by_test (k == h) (λ q. rw q (omega arith)) (λ q. rw q (omega arith))

few_behind_controller : (n : ℕ) (w : NodeWorld) (h : ℕ) (comes : Comes) (f : Work → Work) → FewRsetsOnEach n w.sites
    → FewRsetsOnEach (n + resets_in_coming comes) (controller_does w h comes f).0.sites
few_behind_controller n w h comes f a =
    by_controller (λ p. FewRsetsOnEach (n + resets_in_coming comes) p.0.sites) w h comes f
    (each_longer n (n + resets_in_coming comes) w.sites (omega arith) a)
    (λ r q. let k : Work = controller_work w r h comes f in
    each n (n + resets_in_coming comes) (link_after_controller h comes k) (λ s b. one k s b) w.sites a)
  where
    one : (k : Work) (s : Site) → FewRsets n s.link → FewRsets (n + resets_in_coming comes) (link_after_controller h comes k s).link
    one k s b =
        let event : LinkEvent = AtController (Step (comes_to h comes s.host) (turns_at k s.host) (ending_of k)) in
        let z = comes_few h comes s.host in
        few_longer (n + rset_causes event) (n + resets_in_coming comes) (happens s.link event) (omega (arith, z)) (few_by_event n s.link event b)

few_behind_host : (n : ℕ) (w : NodeWorld) (h : ℕ) (comes : Comes) (f : Work → Work) → FewRsetsOnEach n w.sites
    → FewRsetsOnEach (n + resets_in_coming comes) (host_does w h comes f).0.sites
few_behind_host n w h comes f a =
    by_host (λ p. FewRsetsOnEach (n + resets_in_coming comes) p.0.sites) w h comes f
    (each_longer n (n + resets_in_coming comes) w.sites (omega arith) a)
    (λ s r found is. let k : Work = host_work s r comes f in
    one_of n (n + resets_in_coming comes) h (after_host comes k) (omega arith)
    (λ t b. few_by_event n t.link (AtHost (Step comes (turns_at k t.host) (ending_of k))) b) w.sites a)

few_behind_coming : (n : ℕ) (w : NodeWorld) (e : End) (comes : Comes) → FewRsetsOnEach n w.sites
    → FewRsetsOnEach (n + resets_in_coming comes) (comes_at w e comes).0.sites
few_behind_coming n w e comes a =
    by_coming (λ p. FewRsetsOnEach (n + resets_in_coming comes) p.0.sites) w e comes
    (each_longer n (n + resets_in_coming comes) w.sites (omega arith) a)
    (λ i is q. few_behind_host n w e.link comes (steps (AtEnd e.link i)) a)
    (λ i is q. few_behind_controller n w e.link comes (steps (AtEnd e.link i)) a)

-- nothing comes that asks for a reset
few_plain : (n : ℕ) (w : NodeWorld) (e : End) (comes : Comes) → resets_in_coming comes ≡ 0 → FewRsetsOnEach n w.sites
    → FewRsetsOnEach n (comes_at w e comes).0.sites
few_plain n w e comes none a =
    each_longer (n + resets_in_coming comes) n (comes_at w e comes).0.sites (omega (arith, none)) (few_behind_coming n w e comes a)

few_begun : (n : ℕ) (w : NodeWorld) (h : ℕ) (f : Work → Work) → FewRsetsOnEach n w.sites → FewRsetsOnEach n (host_does w h NoInput f).0.sites
few_begun n w h f a = each_longer (n + resets_in_coming NoInput) n (host_does w h NoInput f).0.sites (omega arith) (few_behind_host n w h NoInput f a)

-- ## Power and losses

few_behind_cut : (n : ℕ) (node : ℕ) (w : NodeWorld) → FewRsetsOnEach n w.sites → FewRsetsOnEach n (loses_power_at node w).sites
few_behind_cut n node w a =
    by_power (λ v. FewRsetsOnEach n v.sites) node w (λ q. each n n _ (λ s b. grind arith) w.sites a)
    (λ q. one_of n n node host_cut (omega arith) (λ s b. grind arith) w.sites a)

few_with_memory : (n node : ℕ) (m : Memory) (w : NodeWorld) → FewRsetsOnEach n w.sites → FewRsetsOnEach n (with_memory node m w).sites
few_with_memory n node m w a =
    by_memory (λ v. FewRsetsOnEach n v.sites) node w m (λ q. a)
    (λ q. one_of n n node (λ s. record s { memory = m }) (omega arith) (λ s b. b) w.sites a)

few_with_node : (n node : ℕ) (r : Running) (w : NodeWorld) → FewRsetsOnEach n w.sites → FewRsetsOnEach n (with_node node r w).sites
few_with_node n node r w a =
    by_running (λ v. FewRsetsOnEach n v.sites) node w r (λ q. a)
    (λ q. one_of n n node (λ s. record s { node = Some r }) (omega arith) (λ s b. b) w.sites a)

few_behind_boot : (n : ℕ) (w : NodeWorld) (node : ℕ) → FewRsetsOnEach n w.sites → FewRsetsOnEach n (boots w node).0.sites
few_behind_boot n w node a =
    let v : NodeWorld = boot_written w node in
    let b : FewRsetsOnEach n v.sites = few_with_memory n node _ w a in
    by_boot (λ p. FewRsetsOnEach n p.0.sites) w node (few_behind_cut n node v b) (few_with_node n node (boot_found w node) v b)

few_behind_loss : (n : ℕ) (w : NodeWorld) (e : End) (why : Loss) → FewRsetsOnEach n w.sites → FewRsetsOnEach n (frame_lost w e why).0.sites
few_behind_loss n w e why a =
    by_loss (λ p. FewRsetsOnEach n p.0.sites) w e why
    (λ q. one_of n n e.link (λ s. record (site_lost e why s) { node = counts why e.link s.node }) (omega arith) (λ s b. grind arith) w.sites a)
    (λ q. one_of n n e.link (site_lost e why) (omega arith) (λ s b. grind arith) w.sites a)

-- ## Ticks

few_behind_ages : (n : ℕ) (w : NodeWorld) → FewRsetsOnEach n w.sites → FewRsetsOnEach n (all_aged w).0.sites
few_behind_ages n w a = each n n _ (λ s b. few_aged n s.link b) w.sites a

few_behind_tick : (n : ℕ) (w : NodeWorld) → FewRsetsOnEach n w.sites → FewRsetsOnEach (n + 1) (controller_ticks w).0.sites
few_behind_tick n w a =
    by_controller_tick (λ p. FewRsetsOnEach (n + 1) p.0.sites) w (λ q. each n (n + 1) _ (λ s b. few_ticked n s.link [] GoesOut b) w.sites a)
    (λ r q. let k : Work = near_tick w r in
    each n (n + 1) (site_ticked k) (λ s b. few_ticked_so n s.link (is_late_at k s.host) (turns_at k s.host) (ending_of k) b) w.sites a)

few_behind_host_tick : (n : ℕ) (s : Site) → FewRsets n s.link → FewRsets (n + 1) (host_ticks s).0.link
few_behind_host_tick n s a =
    by_host_tick (λ p. FewRsets (n + 1) p.0.link) s (λ q. few_ticked_there n s.link [] GoesOut a)
    (λ r q. let k : Work = host_tick s r in few_ticked_there n s.link (turns_at k s.host) (ending_of k) a)

few_behind_hosts_tick : (n : ℕ) (sites : List Site) → FewRsetsOnEach n sites → FewRsetsOnEach (n + 1) (hosts_tick sites).0
few_behind_hosts_tick n [] a = tt
few_behind_hosts_tick n (s ∷ sites) a = (few_behind_host_tick n s a.0, few_behind_hosts_tick n sites a.1)

few_behind_world_tick : (n : ℕ) (w : NodeWorld) → FewRsetsOnEach n w.sites → FewRsetsOnEach (n + 2) (world_ticks w).0.sites
few_behind_world_tick n w a =
    let old : NodeWorld = (all_aged w).0 in
    let near : NodeWorld = (controller_ticks old).0 in
    let b : FewRsetsOnEach (n + 1) near.sites = few_behind_tick n old (few_behind_ages n w a) in
    each_longer (n + 1 + 1) (n + 2) (hosts_tick near.sites).0 (omega arith) (few_behind_hosts_tick (n + 1) near.sites b)

-- ## Whatever happens

few_activated : (n : ℕ) (w : NodeWorld) (h sync power : ℕ) → FewRsetsOnEach n w.sites → FewRsetsOnEach n (activates w h sync power).0.sites
few_activated n w h sync power a =
    few_plain n ((comes_at w (end_c h) (Starts power)).0) (end_h h) (Starts sync) refl (few_plain n w (end_c h) (Starts power) refl a)

-- what happens has each link make so many more RSETs at most
pub few_behind_step : (n : ℕ) (w : NodeWorld) (c : Happening) → FewRsetsOnEach n w.sites → FewRsetsOnEach (n + rsets_by c) (world_step w c).0.sites
few_behind_step n w c a = go c
  where
    same : (c : Happening) → rsets_by c ≡ 0 → FewRsetsOnEach n (world_step w c).0.sites → FewRsetsOnEach (n + rsets_by c) (world_step w c).0.sites
    same c none b = each_longer n (n + rsets_by c) (world_step w c).0.sites (omega arith) b

    go : (c : Happening) → FewRsetsOnEach (n + rsets_by c) (world_step w c).0.sites
    go (Boots node) = same (Boots node) refl (few_behind_boot n w node a)
    go (IsCut node) = same (IsCut node) refl (few_behind_cut n node w a)
    go (Gives e m) = same (Gives e m) refl (few_begun n w e.link (begins_with e.link (sending e.link m)) a)
    go (Inits e identity pipes) = same (Inits e identity pipes) refl (few_begun n w e.link (begins_with e.link (beginning identity pipes)) a)
    go (Takes e) = same (Takes e) refl (few_plain n w e NextFrame refl a)
    go (Loses e why) = same (Loses e why) refl (few_behind_loss n w e why a)
    go Ticks = few_behind_world_tick n w a
    go (Resets e window) = few_behind_coming n w e (AsksReset window) a
    go (Activates h sync power) = same (Activates h sync power) refl (few_activated n w h sync power a)
    go (Arms node plan) = same (Arms node plan) refl (few_with_memory n node (record (memory_at w node) { plan = Some plan }) w a)

by_one_more : (c : Happening) (causes : List Happening) → rsets_by_all (c ∷ causes) ≡ rsets_by c + rsets_by_all causes
by_one_more c causes = grind arith

pub few_behind_all : (causes : List Happening) (n : ℕ) (w : NodeWorld) → FewRsetsOnEach n w.sites
    → FewRsetsOnEach (n + rsets_by_all causes) (all_happen w causes).0.sites
few_behind_all [] n w a = each_longer n (n + rsets_by_all []) w.sites (omega arith) a
few_behind_all (c ∷ causes) n w a =
    by_test (can_happen w c)
    (λ q. rw q (let z = by_one_more c causes in
    each_longer (n + rsets_by c + rsets_by_all causes) (n + rsets_by_all (c ∷ causes)) (all_happen (world_step w c).0 causes).0.sites
    (omega (arith, z)) (few_behind_all causes (n + rsets_by c) (world_step w c).0 (few_behind_step n w c a))))
    (λ q. rw q (each_longer n (n + rsets_by_all (c ∷ causes)) w.sites (omega arith) a))

pub few_behind_events : (events : List Occurrence) (n : ℕ) (w : NodeWorld) → FewRsetsOnEach n w.sites
    → FewRsetsOnEach (n + rsets_by_all (happened_in events)) (world_behind w events).sites
few_behind_events [] n w a = each_longer n (n + rsets_by_all []) w.sites (omega arith) a
few_behind_events (o ∷ events) n w a =
    each_longer (n + rsets_by o.cause + rsets_by_all (happened_in events)) (n + rsets_by_all (happened_in (o ∷ events)))
    (world_behind (world_step w o.cause).0 events).sites (omega (arith, by_one_more o.cause (happened_in events)))
    (few_behind_events events (n + rsets_by o.cause) (world_step w o.cause).0 (few_behind_step n w o.cause a))

-- ## From the beginning on

few_at_first : (content hosts : List ℕ) → FewRsetsOnEach 0 (map (new_site content) hosts)
few_at_first content [] = tt
few_at_first content (h ∷ hosts) = (
  (grind arith),
  few_at_first content hosts,
)

pub few_in_new_world : (hosts : List ℕ) → FewRsetsOnEach 0 (new_world hosts).sites
few_in_new_world hosts = few_at_first (replicate 65536 255) hosts

pub numbers_of_few : (n : ℕ) (sites : List Site) → FewRsetsOnEach n sites → NumbersWithinOnEach n sites
numbers_of_few n [] a = tt
numbers_of_few n (s ∷ sites) a = (numbers_within n s.link (let z = a.0.made in omega (arith, z)) a.0.numbered, numbers_of_few n sites a.1)

pub numbers_in_worlds : (hosts : List ℕ) (causes : List Happening)
    → NumbersWithinOnEach (rsets_by_all causes) (all_happen (new_world hosts) causes).0.sites
numbers_in_worlds hosts causes =
    let a = few_behind_all causes 0 (new_world hosts) (few_in_new_world hosts) in
    numbers_of_few (rsets_by_all causes) (all_happen (new_world hosts) causes).0.sites
    (each_longer (0 + rsets_by_all causes) (rsets_by_all causes) (all_happen (new_world hosts) causes).0.sites (omega arith) a)

pub numbers_behind : (hosts : List ℕ) (events : List Occurrence)
    → NumbersWithinOnEach (rsets_by_all (happened_in events)) (world_behind (new_world hosts) events).sites
numbers_behind hosts events =
    let causes : List Happening = happened_in events in
    let a = few_behind_events events 0 (new_world hosts) (few_in_new_world hosts) in
    numbers_of_few (rsets_by_all causes) (world_behind (new_world hosts) events).sites
    (each_longer (0 + rsets_by_all causes) (rsets_by_all causes) (world_behind (new_world hosts) events).sites (omega arith) a)

-- ## Few ticks and few other causes

resets_are_others : (causes : List Happening) → resets_among causes ≤ others_among causes
resets_are_others [] = omega arith
resets_are_others (Takes e ∷ causes) = resets_are_others causes
resets_are_others (Loses e why ∷ causes) = resets_are_others causes
resets_are_others (Ticks ∷ causes) = resets_are_others causes
resets_are_others (_ ∷ causes) = let z = resets_are_others causes in omega (arith, z)

numbers_longer : (m n : ℕ) (sites : List Site) → m ≤ n → NumbersWithinOnEach m sites → NumbersWithinOnEach n sites
numbers_longer m n [] q a = tt
numbers_longer m n (s ∷ sites) q a = (
  (grind arith),
  numbers_longer m n sites q a.1,
)

pub rsets_few : (causes : List Happening) → world_ticks_in causes ≤ 400000000 → others_among causes ≤ 20000000 → rsets_by_all causes ≤ 820000000
rsets_few causes ticks others = let z = resets_are_others causes in omega (arith, z, ticks, others)

pub numbers_fit : (hosts : List ℕ) (causes : List Happening) → world_ticks_in causes ≤ 400000000 → others_among causes ≤ 20000000
    → NumbersWithinOnEach 820000000 (all_happen (new_world hosts) causes).0.sites
numbers_fit hosts causes ticks others =
    numbers_longer (rsets_by_all causes) 820000000 (all_happen (new_world hosts) causes).0.sites (rsets_few causes ticks others)
    (numbers_in_worlds hosts causes)

pub numbers_fit_behind : (hosts : List ℕ) (events : List Occurrence) → world_ticks_in (happened_in events) ≤ 400000000
    → others_among (happened_in events) ≤ 20000000 → NumbersWithinOnEach 820000000 (world_behind (new_world hosts) events).sites
numbers_fit_behind hosts events ticks others =
    numbers_longer (rsets_by_all (happened_in events)) 820000000 (world_behind (new_world hosts) events).sites
    (rsets_few (happened_in events) ticks others) (numbers_behind hosts events)
