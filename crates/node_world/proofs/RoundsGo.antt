-- One thing happens again and again at a line: which world stands behind so many of them, and what is kept of it.
use Rattle.node_world.proofs.Words.{AllByRecursion, AtEnd, Bool, Comes, End, Entry, FewBehind, Happening, HostSite, IsHost, IsThere, IsWithinBounds, Line}
use Rattle.node_world.proofs.Words.{LineOutcome, LinePlayed, List, MayGoOn, MayTakeAll, MayTakeInOrder, NextFrame, NodeWorld, None, Occurred, Occurrence, Power}
use Rattle.node_world.proofs.Words.{Site, SitesAre, Some, Takes, WorldBecomes, WorldHasGone, WorldIs, [], after_host, aged, all_aged, all_happen, ap}
use Rattle.node_world.proofs.Words.{append-nil, append_assoc, arith, by_coming, by_controller, by_controller_tick, by_host, can_happen, comes_at}
use Rattle.node_world.proofs.Words.{controller_ticks, controller_work, end_c, end_h, end_takes_all, ends_in_order, ends_take_all, entries_in, eq-eqb, false}
use Rattle.node_world.proofs.Words.{flat_map-append, frames_at, frames_to, get_or, goes_on, host_work, hosts_in, length, length-append, length-map, line_step}
use Rattle.node_world.proofs.Words.{link_after_controller, link_to, map, near_tick, refl, refusal_in, replicate, site_at, site_ticked, site_unticked, steps}
use Rattle.node_world.proofs.Words.{subst, suc, sym, true, world_round, world_step, world_ticks, zero, ℕ, ◌*◌, ◌++◌, ◌+◌, ◌<◌, ◌==◌, ◌∙◌, ◌∷◌, ◌≡◌, ◌≤◌}
use Rattle.node_laws.proofs.telling.Lasting.{hosts_ticked, step_orderly}
use Rattle.node_laws.proofs.rounds.Allowing.{ends_of, order_is}
use Rattle.node_world.proofs.FewInWorlds.{few_behind_step, longer, few_behind_all}
use Rattle.node_world.proofs.CountsStay.{repeats}
use Rattle.node_world.proofs.SitesKept.{as_many}
use Rattle.node_laws.proofs.kept.Events.{hosts_same as hosts_mapped}
pub use Rattle.node_laws.proofs.kept.Events.{hosts_with}

-- ## Hosts stay

abbrev SameHosts : NodeWorld → NodeWorld × List Entry → Type 0
SameHosts w p = hosts_in p.0.sites ≡ hosts_in w.sites

pub hosts_come : (w : NodeWorld) (e : End) (comes : Comes) → hosts_in (comes_at w e comes).0.sites ≡ hosts_in w.sites
hosts_come w e comes =
    by_coming (SameHosts w) w e comes refl
    (λ i is q. by_host (SameHosts w) w e.link comes (steps (AtEnd e.link i)) refl
    (λ s r found runs. hosts_with e.link (after_host comes (host_work s r comes (steps (AtEnd e.link i)))) (λ x. refl) w.sites))
    (λ i is q. by_controller (SameHosts w) w e.link comes (steps (AtEnd e.link i)) refl
    (λ r runs. hosts_mapped (link_after_controller e.link comes (controller_work w r e.link comes (steps (AtEnd e.link i)))) (λ x. refl) w.sites))

pub hosts_tick_too : (w : NodeWorld) → hosts_in (world_ticks w).0.sites ≡ hosts_in w.sites
hosts_tick_too w =
    let old : NodeWorld = (all_aged w).0 in
    let near : hosts_in (controller_ticks old).0.sites ≡ hosts_in old.sites =
    by_controller_tick (SameHosts old) old (λ q. hosts_mapped site_unticked (λ x. refl) old.sites)
    (λ r q. hosts_mapped (site_ticked (near_tick old r)) (λ x. refl) old.sites) in
    hosts_ticked (controller_ticks old).0.sites ∙ (near ∙ hosts_mapped (λ (s : Site). record s { link = aged s.link }) (λ x. refl) w.sites)

found_still : (h : ℕ) (xs ys : List Site) (s : Site) → hosts_in xs ≡ hosts_in ys → site_at ys h ≡ Some s → (t : Site) × (site_at xs h ≡ Some t)
found_still h xs [] s q found = let z : None ≡ Some s = found in absurd (cc z)
found_still h [] (y ∷ ys) s q found = let z : [] ≡ y.host ∷ hosts_in ys = q in absurd (cc z)
found_still h (x ∷ xs) (y ∷ ys) s q found =
    let z : x.host ∷ hosts_in xs ≡ y.host ∷ hosts_in ys = q in
    let same : x.host ≡ y.host = cc in
    let rest : hosts_in xs ≡ hosts_in ys = cc in
    go same (y.host == h) refl (λ f. found_still h xs ys s rest f)
  where
    go : x.host ≡ y.host → (b : Bool) → (y.host == h) ≡ b → (site_at ys h ≡ Some s → (t : Site) × (site_at xs h ≡ Some t))
        → (t : Site) × (site_at (x ∷ xs) h ≡ Some t)
    go same true e later = let z : (x.host == h) ≡ true = ap (λ n. n == h) same ∙ e in (x, rw z refl)
    go same false e later = grind arith

pub there_still : (h : ℕ) (v w : NodeWorld) → hosts_in v.sites ≡ hosts_in w.sites → IsThere h w → IsThere h v
there_still h v w q there = found_still h v.sites w.sites there.0 q there.1

-- ## Few frames are on their way

pub few_on_way : (to : End) (h : ℕ) (ks : List HostSite) (sites : List Site) → SitesAre ks sites → length (frames_to (link_to sites h) to) ≤ 64
few_on_way to h [] [] a = grind arith
few_on_way to h (k ∷ ks) (s ∷ sites) a = let h0 = s.host == h in let h1 = few_on_way to h ks sites a.1 in grind arith
  where
    here : (b : Bool) → to.at_host ≡ b → length (frames_to s.link to) ≤ 64
    here b e = grind arith
few_on_way to h [] (s ∷ sites) a = absurd a
few_on_way to h (k ∷ ks) [] a = absurd a

-- ## So often

abbrev pub of_all : NodeWorld × List Occurrence → NodeWorld × LineOutcome
of_all p = (p.0, Occurred p.1)

-- the world behind so many of them, and the events
abbrev pub so_often : NodeWorld → Happening → ℕ → NodeWorld × LineOutcome
so_often w c n = of_all (all_happen w (replicate n c))

-- this happened so often, and led to this world by these events
abbrev LeadsTo : NodeWorld → Happening → ℕ → NodeWorld → List Occurrence → Type 0
LeadsTo w c i v events =
    (m : ℕ) → all_happen w (replicate (i + m) c)
    ≡ ((all_happen v (replicate m c)).0, events ++ (all_happen v (replicate m c)).1)

-- What is kept after so many of them stands for a world that is in order, and what they caused is noted behind what was noted before.
pub record Again (k : Power) (ks : List HostSite) (most : ℕ) (before noted : List Entry) (w : NodeWorld)
    (c : Happening) (i : ℕ) : Type 0 where
  pub behind : NodeWorld
  pub events : List Occurrence
  pub leads : LeadsTo w c i behind events
  pub world : WorldIs k ks behind
  pub told : noted ≡ before ++ entries_in events
  pub goes_on : MayGoOn behind
  pub hosts : hosts_in behind.sites ≡ hosts_in w.sites
  pub few : FewBehind (most + 2 * i) behind

pub happens_first : (v : NodeWorld) (c : Happening) (m : ℕ) → can_happen v c ≡ true
    → all_happen v (replicate (suc m) c)
    ≡ (
      (all_happen (world_step v c).0 (replicate m c)).0,
      record { cause = c; entries = (world_step v c).1 } ∷ (all_happen (world_step v c).0 (replicate m c)).1,
    )
happens_first v c m can = rw can refl

pub happens_not : (v : NodeWorld) (c : Happening) (m : ℕ) → can_happen v c ≡ false → all_happen v (replicate m c) ≡ (v, [])
happens_not v c m can = grind arith

module _ (w : NodeWorld) (c : Happening) (most : ℕ) where
  abbrev IsSo : Power → List HostSite → List Entry → List Entry → ℕ → Type 0
  IsSo k ks before noted i = Again k ks most before noted w c i

  pub again_begins : (k : Power) (ks : List HostSite) (before : List Entry) → WorldIs k ks w → MayGoOn w → FewBehind most w → IsSo k ks before before 0
  again_begins k ks before world may few =
      record {
        behind = w;
        events = [];
        leads = λ m. ap (λ n. all_happen w (replicate n c)) (omega arith);
        world = world;
        told = sym (append-nil before);
        goes_on = may;
        hosts = refl;
        few = longer most (most + 2 * 0) w (omega arith) few;
      }

  pub bounds_again : (i : ℕ) (v : NodeWorld) → most ≤ 290000000 → i ≤ 1000 → MayGoOn v → FewBehind (most + 2 * i) v → IsWithinBounds v
  bounds_again i v low few_times may few = record { goes_on = may; few = longer (most + 2 * i) 300000000 v (omega (arith, low, few_times)) few }

  pub again_next : (k new : Power) (ks news : List HostSite) (before noted later : List Entry) (i : ℕ)
      (a : IsSo k ks before noted i) → can_happen a.behind c ≡ true → hosts_in (world_step a.behind c).0.sites ≡ hosts_in a.behind.sites
      → WorldBecomes new news noted later (world_step a.behind c) → IsSo new news before later (i + 1)
  again_next k new ks news before noted later i a can same b =
      let v : NodeWorld = (world_step a.behind c).0 in
      let o : Occurrence = record { cause = c; entries = (world_step a.behind c).1 } in
      let hosts : hosts_in v.sites ≡ hosts_in w.sites = same ∙ a.hosts in
      record {
        behind = v;
        events = a.events ++ o ∷ [];
        leads = λ m.
            let x : NodeWorld × List Occurrence = all_happen v (replicate m c) in
            ap (λ n. all_happen w (replicate n c)) (omega arith)
            ∙ (a.leads (suc m)
            ∙ (ap (λ (p : NodeWorld × List Occurrence). let q : NodeWorld × List Occurrence = (p.0, a.events ++ p.1) in q) (happens_first a.behind c m can)
            ∙ ap (λ es. let q : NodeWorld × List Occurrence = (x.0, es) in q) (sym (append_assoc a.events (o ∷ []) x.1))));
        world = b.world;
        told = b.noted ∙ (ap (λ es. es ++ o.entries) a.told ∙ (append_assoc before (entries_in a.events) o.entries
            ∙ ap (λ es. before ++ es)
            (sym (flat_map-append (λ (x : Occurrence). x.entries) a.events (o ∷ []) ∙ ap (λ es. entries_in a.events ++ es) (append-nil o.entries)))));
        goes_on = record {
          orderly = step_orderly a.behind c a.goes_on.orderly;
          hosts = subst (AllByRecursion IsHost) (sym same) a.goes_on.hosts;
        };
        hosts = hosts;
        few = longer (most + 2 * i + 2) (most + 2 * (i + 1)) v (omega arith) (few_behind_step (most + 2 * i) a.behind c a.few);
      }

  -- what it is behind so many, where all of them happened, or where the next can't
  pub again_ends : (k : Power) (ks : List HostSite) (before noted : List Entry) (i : ℕ) (a : IsSo k ks before noted i)
      → all_happen w (replicate i c) ≡ (a.behind, a.events)
  again_ends k ks before noted i a =
      ap (λ n. all_happen w (replicate n c)) (sym (omega arith))
      ∙ (a.leads 0 ∙ ap (λ es. let q : NodeWorld × List Occurrence = (a.behind, es) in q) (append-nil a.events))

  pub again_stops : (k : Power) (ks : List HostSite) (before noted : List Entry) (i n : ℕ) (a : IsSo k ks before noted i) → i ≤ n
      → can_happen a.behind c ≡ false → all_happen w (replicate n c) ≡ (a.behind, a.events)
  again_stops k ks before noted i n a q can = go (more i n q)
    where
      more : (i n : ℕ) → i ≤ n → (m : ℕ) × (i + m ≡ n)
      more zero n q = (n, (omega arith))
      more (suc i) zero q = absurd (omega (arith, q))
      more (suc i) (suc n) q = let r = more i n (omega (arith, q)) in let z = r.1 in (r.0, omega (arith, z))

      go : (m : ℕ) × (i + m ≡ n) → all_happen w (replicate n c) ≡ (a.behind, a.events)
      go r =
          ap (λ n. all_happen w (replicate n c)) (sym r.1)
          ∙ (a.leads r.0
          ∙ (ap (λ (p : NodeWorld × List Occurrence). let q : NodeWorld × List Occurrence = (p.0, a.events ++ p.1) in q) (happens_not a.behind c r.0 can)
          ∙ ap (λ es. let q : NodeWorld × List Occurrence = (a.behind, es) in q) (append-nil a.events)))

  -- what is kept stands for the world behind so many
  pub again_goes : (k : Power) (ks : List HostSite) (before noted : List Entry) (i n : ℕ) (a : IsSo k ks before noted i)
      → all_happen w (replicate n c) ≡ (a.behind, a.events) → WorldHasGone k ks before noted (all_happen w (replicate n c))
  again_goes k ks before noted i n a same = rw same (record { world = a.world; noted = a.told })

  -- the line at which they happen is played behind them
  pub again_plays : (said : Line) (k : Power) (ks : List HostSite) (before noted : List Entry) (i n : ℕ)
      (a : IsSo k ks before noted i) → before ≡ [] → refusal_in w said ≡ None → goes_on w said ≡ of_all (all_happen w (replicate n c))
      → all_happen w (replicate n c) ≡ (a.behind, a.events) → LinePlayed k ks noted (line_step w said)
  again_plays said k ks before noted i n a none e goes same =
      let step : line_step w said ≡ goes_on w said = rw e refl in
      rw (step ∙ (goes ∙ ap of_all same)) (record { world = a.world; told = a.told ∙ ap (λ es. es ++ entries_in a.events) none })

-- The ends of a world take what stands on their wires, one after another: which world stands behind them, and what is kept of it.

-- ## One end

pub taken_hosts : (n : ℕ) (w : NodeWorld) (e : End) → hosts_in (all_happen w (replicate n (Takes e))).0.sites ≡ hosts_in w.sites
taken_hosts zero w e = refl
taken_hosts (suc n) w e = go (can_happen w (Takes e)) refl (taken_hosts n (world_step w (Takes e)).0 e)
  where
    go : (b : Bool) → can_happen w (Takes e) ≡ b
        → hosts_in (all_happen (world_step w (Takes e)).0 (replicate n (Takes e))).0.sites ≡ hosts_in (world_step w (Takes e)).0.sites
        → hosts_in (all_happen w (replicate (suc n) (Takes e))).0.sites ≡ hosts_in w.sites
    go true q later =
        ap (λ (p : NodeWorld × List Occurrence). hosts_in p.0.sites) (happens_first w (Takes e) n q) ∙ (later ∙ hosts_come w e NextFrame)
    go false q later = ap (λ (p : NodeWorld × List Occurrence). hosts_in p.0.sites) (happens_not w (Takes e) (suc n) q)

taken_may : (n : ℕ) (w : NodeWorld) (e : End) → MayGoOn w → MayGoOn (all_happen w (replicate n (Takes e))).0
taken_may zero w e may = may
taken_may (suc n) w e may = let h0 = can_happen w (Takes e) in let h1 = taken_may n (world_step w (Takes e)).0 e next in grind arith
  where
    next : MayGoOn (world_step w (Takes e)).0
    next = record {
      orderly = step_orderly w (Takes e) may.orderly;
      hosts = subst (AllByRecursion IsHost) (sym (hosts_come w e NextFrame)) may.hosts;
    }

taken_few : (n m : ℕ) (w : NodeWorld) (e : End) → m ≤ 64 → FewBehind n w → FewBehind (n + 128) (all_happen w (replicate m (Takes e))).0
taken_few n m w e most few =
    longer (n + 2 * length (replicate m (Takes e))) (n + 128) (all_happen w (replicate m (Takes e))).0 (omega (arith, (repeats m (Takes e)), most))
    (few_behind_all (replicate m (Takes e)) n w few)

-- ## Ends one after another

-- what was noted before, and these events
abbrev pub followed_by : List Occurrence → NodeWorld × List Occurrence → NodeWorld × List Occurrence
followed_by events p = (p.0, events ++ p.1)

-- Of these ends the ones that are left have still to take what stands on their wires; what is kept stands for the world behind the others.
pub record HaveTaken (k : Power) (ks : List HostSite) (before noted : List Entry) (w : NodeWorld) (ends left : List End)
    (n : ℕ) : Type 0 where
  pub behind : NodeWorld
  pub events : List Occurrence
  pub leads : ends_take_all w ends ≡ followed_by events (ends_take_all behind left)
  pub gone : WorldHasGone k ks before noted (behind, events)
  pub goes_on : MayGoOn behind
  pub hosts : hosts_in behind.sites ≡ hosts_in w.sites
  pub few : FewBehind n behind

-- the host with a number that is among those of the hosts
pub found_among : (h : ℕ) (front back : List ℕ) (sites : List Site) → hosts_in sites ≡ front ++ h ∷ back → (s : Site) × (site_at sites h ≡ Some s)
found_among h [] back [] q = let z : [] ≡ h ∷ back = q in absurd (cc z)
found_among h [] back (s ∷ sites) q = (s, rw (eq-eqb s.host h cc) refl)
found_among h (x ∷ front) back [] q = let z : [] ≡ x ∷ (front ++ h ∷ back) = q in absurd (cc z)
found_among h (x ∷ front) back (s ∷ sites) q = go (s.host == h) refl (found_among h front back sites cc)
  where
    go : (b : Bool) → (s.host == h) ≡ b → (t : Site) × (site_at sites h ≡ Some t) → (t : Site) × (site_at (s ∷ sites) h ≡ Some t)
    go true e later = (s, rw e refl)
    go false e later = (later.0, rw e later.1)

module _ (w : NodeWorld) where
  abbrev pub Taken : Power → List HostSite → List Entry → List Entry → List End → List End → ℕ → Type 0
  Taken k ks before noted ends left n = HaveTaken k ks before noted w ends left n

  -- the next of them takes what stands there
  pub taken_next : (k new : Power) (ks news : List HostSite) (before noted later : List Entry) (ends : List End) (e : End)
      (left : List End) (n : ℕ) (a : Taken k ks before noted ends (e ∷ left) n)
      → WorldHasGone new news noted later (end_takes_all a.behind e) → Taken new news before later ends left (n + 128)
  taken_next k new ks news before noted later ends e left n a b =
      let first : NodeWorld × List Occurrence = end_takes_all a.behind e in
      let rest : NodeWorld × List Occurrence = ends_take_all first.0 left in
      let m : ℕ = length (frames_at a.behind e) in
      record {
        behind = first.0;
        events = a.events ++ first.1;
        leads = a.leads ∙ ap (λ es. let q : NodeWorld × List Occurrence = (rest.0, es) in q) (sym (append_assoc a.events first.1 rest.1));
        gone = record {
          world = b.world;
          noted = b.noted ∙ (ap (λ es. es ++ entries_in first.1) a.gone.noted
              ∙ (append_assoc before (entries_in a.events) (entries_in first.1)
              ∙ ap (λ es. before ++ es) (sym (flat_map-append (λ (x : Occurrence). x.entries) a.events first.1))));
        };
        goes_on = taken_may m a.behind e a.goes_on;
        hosts = taken_hosts m a.behind e ∙ a.hosts;
        few = taken_few n m a.behind e (few_on_way e e.link ks a.behind.sites a.gone.world.sites) a.few;
      }

  -- it may
  pub may_take : (k : Power) (ks : List HostSite) (before noted : List Entry) (ends : List End) (e : End) (left : List End) (n : ℕ)
      (front back : List ℕ) → (a : Taken k ks before noted ends (e ∷ left) n) → n ≤ 290000000 → hosts_in w.sites ≡ front ++ e.link ∷ back
      → MayTakeAll e a.behind
  may_take k ks before noted ends e left n front back a most among =
      record {
        goes_on = a.goes_on;
        few = longer n 290000000 a.behind most a.few;
        there = found_among e.link front back a.behind.sites (a.hosts ∙ among);
      }

  -- ## Links one after another

  -- the ends of the first links have taken what stood on their wires
  pub record HaveTakenSo (k : Power) (ks : List HostSite) (before noted : List Entry) (i : ℕ) : Type 0 where
    pub done : List ℕ
    pub left : List ℕ
    pub is : hosts_in w.sites ≡ done ++ left
    pub place : length done ≡ i
    pub taken : Taken k ks before noted (ends_in_order w) (ends_of left) (250000000 + 256 * i)

  pub taking_begins : (k : Power) (ks : List HostSite) (before : List Entry) → WorldIs k ks w → MayTakeInOrder w → HaveTakenSo k ks before before 0
  taking_begins k ks before world may =
      record {
        done = [];
        left = hosts_in w.sites;
        is = refl;
        place = refl;
        taken = record {
          behind = w;
          events = [];
          leads = ap (ends_take_all w) (order_is w.sites);
          gone = record { world = world; noted = sym (append-nil before) };
          goes_on = may.goes_on;
          hosts = refl;
          few = longer 250000000 (250000000 + 256 * 0) w (omega arith) may.few;
        };
      }

  hosts_kept : (ks : List HostSite) (sites : List Site) → SitesAre ks sites → map (λ (x : HostSite). x.host) ks ≡ hosts_in sites
  hosts_kept [] [] a = refl
  hosts_kept (k ∷ ks) (s ∷ sites) a = ap (λ n. n ∷ map (λ (x : HostSite). x.host) ks) a.0.host ∙ ap (λ ns. s.host ∷ ns) (hosts_kept ks sites a.1)
  hosts_kept [] (s ∷ sites) a = absurd a
  hosts_kept (k ∷ ks) [] a = absurd a

  host_read : (ks : List HostSite) (front : List ℕ) (h : ℕ) (back : List ℕ) (i : ℕ) (site : HostSite)
      → map (λ (x : HostSite). x.host) ks ≡ front ++ h ∷ back → length front ≡ i → site ≡ get_or ks i site → site.host ≡ h
  host_read [] [] h back i site q place read = let z : [] ≡ h ∷ back = q in absurd (cc z)
  host_read [] (x ∷ front) h back i site q place read = let z : [] ≡ x ∷ (front ++ h ∷ back) = q in absurd (cc z)
  host_read (k ∷ ks) [] h back i site q place read = grind arith
  host_read (k ∷ ks) (x ∷ front) h back i site q place read =
      let rest : map (λ (y : HostSite). y.host) ks ≡ front ++ h ∷ back = cc in
      host_read ks front h back (length front) site rest refl (read ∙ ap (λ n. get_or (k ∷ ks) n site) (sym place))

  -- the next link, as its number is read
  pub record NextLink (k : Power) (ks : List HostSite) (before noted : List Entry) (i h : ℕ) : Type 0 where
    pub done : List ℕ
    pub back : List ℕ
    pub is : hosts_in w.sites ≡ done ++ h ∷ back
    pub place : length done ≡ i
    pub few : i ≤ 7
    pub taken : Taken k ks before noted (ends_in_order w) (end_c h ∷ end_h h ∷ ends_of back) (250000000 + 256 * i)

  pub next_link : (k : Power) (ks : List HostSite) (before noted : List Entry) (i : ℕ) (site : HostSite)
      → HaveTakenSo k ks before noted i → MayTakeInOrder w → i < length ks → site ≡ get_or ks i site → NextLink k ks before noted i site.host
  next_link k ks before noted i site a may below read = go a.left refl
    where
      many : length ks ≡ length (hosts_in w.sites)
      many =
          as_many ks a.taken.behind.sites a.taken.gone.world.sites
          ∙ (sym (length-map a.taken.behind.sites (λ (s : Site). s.host)) ∙ ap (λ (ns : List ℕ). length ns) a.taken.hosts)

      go : (left : List ℕ) → a.left ≡ left → NextLink k ks before noted i site.host
      go [] q =
          absurd (omega (arith, many, (ap (λ (ns : List ℕ). length ns) (a.is ∙ (ap (λ ns. a.done ++ ns) q ∙ append-nil a.done)) ∙ a.place), below))
      go (h ∷ back) q =
          let is : hosts_in w.sites ≡ a.done ++ h ∷ back = a.is ∙ ap (λ ns. a.done ++ ns) q in
          let kept = hosts_kept ks a.taken.behind.sites a.taken.gone.world.sites ∙ (a.taken.hosts ∙ is) in
          let same : site.host ≡ h = host_read ks a.done h back i site kept a.place read in
          record {
            done = a.done;
            back = back;
            is = is ∙ ap (λ n. a.done ++ n ∷ back) (sym same);
            place = a.place;
            few = omega (arith, below, many, (length-map w.sites (λ (s : Site). s.host)), may.links);
            taken = rw (ap (λ ns. ends_of ns) q ∙ ap (λ n. end_c n ∷ end_h n ∷ ends_of back) (sym same)) at a.taken;
          }

  -- both of its ends have taken what stood on their wires
  pub link_taken : (k new : Power) (ks news : List HostSite) (before noted later : List Entry) (i h : ℕ)
      (a : NextLink k ks before noted i h)
      → Taken new news before later (ends_in_order w) (ends_of a.back) (250000000 + 256 * i + 128 + 128) → HaveTakenSo new news before later (i + 1)
  link_taken k new ks news before noted later i h a b =
      let same : 250000000 + 256 * i + 128 + 128 ≡ 250000000 + 256 * (i + 1) = omega arith in
      record {
        done = a.done ++ h ∷ [];
        left = a.back;
        is = a.is ∙ sym (append_assoc a.done (h ∷ []) a.back);
        place = length-append a.done (h ∷ []) ∙ ap (λ n. n + 1) a.place;
        taken = rw same at b;
      }

  -- all of them have
  pub record AllTaken (k : Power) (ks : List HostSite) (before noted : List Entry) : Type 0 where
    pub gone : WorldHasGone k ks before noted (ends_take_all w (ends_in_order w))
    pub within : IsWithinBounds (ends_take_all w (ends_in_order w)).0

  pub taking_ends : (k : Power) (ks : List HostSite) (before noted : List Entry) (i : ℕ) → HaveTakenSo k ks before noted i
      → MayTakeInOrder w → length ks ≤ i → AllTaken k ks before noted
  taking_ends k ks before noted i a may over = go a.left refl
    where
      many : length ks ≡ length (hosts_in w.sites)
      many =
          as_many ks a.taken.behind.sites a.taken.gone.world.sites
          ∙ (sym (length-map a.taken.behind.sites (λ (s : Site). s.host)) ∙ ap (λ (ns : List ℕ). length ns) a.taken.hosts)

      long : length (hosts_in w.sites) ≡ i + length a.left
      long = ap (λ (ns : List ℕ). length ns) a.is ∙ (length-append a.done a.left ∙ ap (λ n. n + length a.left) a.place)

      go : (left : List ℕ) → a.left ≡ left → AllTaken k ks before noted
      go (h ∷ back) q =
          absurd (omega (arith, many, long, (ap (λ (ns : List ℕ). length ns) q), over))
      go [] q =
          let all : ends_take_all w (ends_in_order w) ≡ (a.taken.behind, a.taken.events) =
          a.taken.leads
          ∙ (ap (λ ns. followed_by a.taken.events (ends_take_all a.taken.behind (ends_of ns))) q
          ∙ ap (λ es. let p : NodeWorld × List Occurrence = (a.taken.behind, es) in p) (append-nil a.taken.events)) in
          let links : length (hosts_in w.sites) ≡ length w.sites = length-map w.sites (λ (s : Site). s.host) in
          let few = longer (250000000 + 256 * i) 300000000 a.taken.behind (omega (arith, long, links, may.links)) a.taken.few in
          record {
            gone = rw (← all) at a.taken.gone;
            within = subst (λ (p : NodeWorld × List Occurrence). IsWithinBounds p.0) (sym all) (record { goes_on = a.taken.goes_on; few = few });
          }

  -- ## Time passes behind them

  pub round_gone : (k new : Power) (ks news : List HostSite) (before mid now : List Entry)
      → WorldHasGone k ks before mid (ends_take_all w (ends_in_order w)) → WorldBecomes new news mid now (world_ticks (ends_take_all w (ends_in_order w)).0)
      → WorldHasGone new news before now (world_round w)
  round_gone k new ks news before mid now taken ticked =
      let events : List Occurrence = (ends_take_all w (ends_in_order w)).1 in
      let told : List Entry = (world_ticks (ends_take_all w (ends_in_order w)).0).1 in
      record {
        world = ticked.world;
        noted = ticked.noted ∙ (ap (λ es. es ++ told) taken.noted ∙ (append_assoc before (entries_in events) told
            ∙ ap (λ es. before ++ es)
            (ap (λ es. entries_in events ++ es) (sym (append-nil told)) ∙ sym (flat_map-append (λ (x : Occurrence). x.entries) events _))));
      }
