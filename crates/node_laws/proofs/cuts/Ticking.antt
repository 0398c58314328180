-- What a step and a tick leave of what is known of each node, and how a step ends in which a node loses its power.
use Rattle.node_laws.proofs.Words.{AllByRecursion, AllKeep, AreDifferent, AreHosts, Comes, Command, Controller, Entry, Host, IsHost, IsOf, IsOnOrder, IsPlain}
use Rattle.node_laws.proofs.Words.{List, Memory, NodeKeeps, NodeWorld, Reckoning, Running, Site, SiteKeeps, Some, StillRuns, TimePasses, Work, []}
use Rattle.node_laws.proofs.Words.{after_controller, after_host, after_host_step, after_near_tick, after_planned, aged, aged_entries, all_aged, all_append, ap}
use Rattle.node_laws.proofs.Words.{append_assoc, arith, arrival, by_controller, by_controller_tick, by_host, by_host_tick, by_test, cases_Bool, changed_if}
use Rattle.node_laws.proofs.Words.{comes_to, cond-false, cond-true, controller_does, controller_ticks, controller_work, entries_for, eq-eqb, eqb, eqb-false}
use Rattle.node_laws.proofs.Words.{eqb-true, exchanged, false, flat_map, fold, frames_noted, host_does, host_tick, host_ticks, host_work, hosts_tick, inl, inr}
use Rattle.node_laws.proofs.Words.{is_some, link_after_controller, link_to, map, memory_at, ne_eqb, near_end_in, near_tick, node_at, reckoned, refl, runs_on}
use Rattle.node_laws.proofs.Words.{site_at, site_ticked, site_unticked, subst, sym, true, true≢false, wires_for, with_site, work_of, world_ticks, ℕ, ◌++◌, ◌∙◌}
use Rattle.node_laws.proofs.Words.{◌∷◌, ◌≡◌, ◌⊎◌}
use Rattle.node_laws.proofs.cuts.Standing.{Exact, Stands, exact_idle, exact_step, exact_then, stands_same}
use Rattle.node_laws.proofs.kept.Doing.{GoesOn_or_lost, plain_entries, plain_flat}
use Rattle.node_laws.proofs.kept.Reckoned.{IsNothingFor, other_idles, plain_idles}
use Rattle.node_laws.proofs.kept.Events.{IsStep, hosts_in, plain_frames, runs_begun, site_found, step_keeps, told_ended}
use Rattle.node_laws.proofs.kept.Stepping.{steps_fine}
use Rattle.node_laws.proofs.kept.Ticking.{aged_goes, moved, near_ticks}
use Rattle.node_laws.proofs.readings.Noticed.{numbers}
use Rattle.node_laws.proofs.telling.Events.{site_host, site_map}
use Rattle.trace_model.specs.declared.entry.Entry.TheVariants as entry

-- ## What a step of the controller or of a host leaves of what is known of each node

-- ### Nodes of a world

-- the controller, or a host that is there
abbrev pub IsThere : NodeWorld → ℕ → Type 0
IsThere w n = (n ≡ 0) ⊎ ((eqb n 0 ≡ false) × ((s : Site) × (site_at w.sites n ≡ Some s)))

abbrev pub StandsAt : ℕ → List Entry → Reckoning → NodeWorld → Type 0
StandsAt n t r w = Stands n t r (memory_at w n) (node_at w n)

-- what is known of a node after an event that makes this world and these entries
pub record ExactAt (n : ℕ) (t : List Entry) (r : Reckoning) (p : NodeWorld × List Entry) : Type 0 where
  pub exact : Exact n t r p.1 (memory_at p.0 n) (node_at p.0 n)
  pub there : IsThere p.0 n

pub memory_far : (w : NodeWorld) (n : ℕ) (s : Site) → eqb n 0 ≡ false → site_at w.sites n ≡ Some s → memory_at w n ≡ s.memory
memory_far w n s off here = rw off (rw here refl)

pub node_far : (w : NodeWorld) (n : ℕ) (s : Site) → eqb n 0 ≡ false → site_at w.sites n ≡ Some s → node_at w n ≡ s.node
node_far w n s off here = rw off (rw here refl)

stands_far : (n : ℕ) (t : List Entry) (r : Reckoning) (w : NodeWorld) (s : Site) → eqb n 0 ≡ false → site_at w.sites n ≡ Some s → StandsAt n t r w
    → Stands n t r s.memory s.node
stands_far n t r w s off here a = grind arith

exact_far : (n : ℕ) (t : List Entry) (r : Reckoning) (v : NodeWorld) (es : List Entry) (s : Site) → eqb n 0 ≡ false → site_at v.sites n ≡ Some s
    → Exact n t r es s.memory s.node → ExactAt n t r (v, es)
exact_far n t r v es s off here a = grind arith

exact_near : (t : List Entry) (r : Reckoning) (v : NodeWorld) (es : List Entry) → Exact 0 t r es v.memory v.controller → ExactAt 0 t r (v, es)
exact_near t r v es a = record { exact = a; there = inl refl }

-- a host with this number is changed, and another one stays
pub with_here : (f : Site → Site) → ((s : Site) → (f s).host ≡ s.host) → (sites : List Site) (h : ℕ) (s : Site) → site_at sites h ≡ Some s
    → site_at (with_site h f sites) h ≡ Some (f s)
with_here f same sites h s here =
    site_map (λ (x : Site). changed_if (eqb x.host h) f x) (λ x. by_test (eqb x.host h) (λ q. rw q (same x)) (λ q. rw q refl)) sites h s here
    ∙ ap Some (ap (λ b. changed_if b f s) (eq-eqb s.host h (site_host sites h s here)))

pub with_there : (f : Site → Site) → ((s : Site) → (f s).host ≡ s.host) → (sites : List Site) (h n : ℕ) (s : Site) → eqb h n ≡ false
    → site_at sites n ≡ Some s → site_at (with_site h f sites) n ≡ Some s
with_there f same sites h n s other here =
    site_map (λ (x : Site). changed_if (eqb x.host h) f x) (λ x. by_test (eqb x.host h) (λ q. rw q (same x)) (λ q. rw q refl)) sites n s here
    ∙ ap Some (ap (λ b. changed_if b f s) (ne_eqb s.host h (λ is. eqb-false h n other (sym is ∙ site_host sites n s here))))

-- ### Nothing of memories

-- what is noted is plain, no memory changes, and no node begins or ceases to run
pub record IsPlainStep (w : NodeWorld) (p : NodeWorld × List Entry) : Type 0 where
  pub plain : AllByRecursion IsPlain p.1
  pub memory_is : p.0.memory ≡ w.memory
  pub controller : is_some p.0.controller ≡ is_some w.controller
  pub change : Site → Site
  pub sites : p.0.sites ≡ map change w.sites
  pub host : (s : Site) → (change s).host ≡ s.host
  pub memory : (s : Site) → (change s).memory ≡ s.memory
  pub node : (s : Site) → is_some (change s).node ≡ is_some s.node

pub plain_exact : (n : ℕ) (t : List Entry) (r : Reckoning) (w : NodeWorld) (p : NodeWorld × List Entry) → IsPlainStep w p → IsThere w n → StandsAt n t r w
    → ExactAt n t r p
plain_exact n t r w p a (inl is) stands =
    subst (λ k. ExactAt k t r p) (sym is)
    (exact_near t r p.0 p.1
    (exact_idle 0 t r p.1 p.0.memory p.0.controller
    (stands_same 0 t r w.memory p.0.memory w.controller p.0.controller (subst (λ k. StandsAt k t r w) is stands) a.memory_is a.controller)
    (plain_idles 0 p.1 a.plain)))
plain_exact n t r w p a (inr far) stands =
    let s : Site = far.1.0 in
    exact_far n t r p.0 p.1 (a.change s) far.0 (ap (λ l. site_at l n) a.sites ∙ site_map a.change a.host w.sites n s far.1.1)
    (exact_idle n t r p.1 (a.change s).memory (a.change s).node
    (stands_same n t r s.memory (a.change s).memory s.node (a.change s).node (stands_far n t r w s far.0 far.1.1 stands) (a.memory s) (a.node s))
    (plain_idles n p.1 a.plain))

pub none_exact : (n : ℕ) (t : List Entry) (r : Reckoning) (w : NodeWorld) → IsThere w n → StandsAt n t r w → ExactAt n t r (w, [])
none_exact n t r w there stands = record {
  exact = exact_idle n t r [] (memory_at w n) (node_at w n) stands tt;
  there = there;
}

-- ### Steps

-- the controller, with links to these hosts, has run in a step
record HasRun (hosts : List ℕ) (t : List Entry) (w : NodeWorld) (p : NodeWorld × List Entry) : Type 0 where
  pub running : Running
  pub was : w.controller ≡ Some running
  pub work : Work
  pub more : List Entry
  pub plain : AllByRecursion IsPlain more
  pub fine : GoesOn_or_lost 0 hosts w.memory t work
  pub memory_is : p.0.memory ≡ after_planned work.writes w.memory
  pub controller_is : p.0.controller ≡ runs_on work
  pub entries_are : p.1 ≡ work.entries ++ more
  pub change : Site → Site
  pub sites : p.0.sites ≡ map change w.sites
  pub host : (s : Site) → (change s).host ≡ s.host
  pub memory : (s : Site) → (change s).memory ≡ s.memory
  pub node : (s : Site) → (change s).node ≡ s.node

-- a host with this number has
record HostHasRun (t : List Entry) (w : NodeWorld) (h : ℕ) (p : NodeWorld × List Entry) : Type 0 where
  pub site : Site
  pub there : site_at w.sites h ≡ Some site
  pub is_host : IsHost h
  pub running : Running
  pub was : site.node ≡ Some running
  pub work : Work
  pub more : List Entry
  pub plain : AllByRecursion IsPlain more
  pub fine : GoesOn_or_lost h (h ∷ []) site.memory t work
  pub change : Site → Site
  pub host : (s : Site) → (change s).host ≡ s.host
  pub memory_is : (change site).memory ≡ after_planned work.writes site.memory
  pub node_is : (change site).node ≡ runs_on work
  pub is : p ≡ (record w { sites = with_site h change w.sites }, work.entries ++ more)

-- the entries of a step are nothing for another node
run_idles : (m n : ℕ) (links : List ℕ) (t : List Entry) (old : Memory) (k : Work) (more : List Entry) → GoesOn_or_lost m links old t k
    → AllByRecursion IsPlain more → (m ≡ n → ⊥) → AllByRecursion (IsNothingFor n) (k.entries ++ more)
run_idles m n links t old k more fine plain other =
    all_append (IsNothingFor n) k.entries more (other_idles m n k.entries other (told_ended m links t old k fine).1) (plain_idles n more plain)

not_zero : (n : ℕ) → eqb n 0 ≡ false → 0 ≡ n → ⊥
not_zero n off is = eqb-false n 0 off (sym is)

not_host : (h : ℕ) → IsHost h → h ≡ 0 → ⊥
not_host h host is = omega (arith, host.0)

run_exact : (hosts : List ℕ) (n : ℕ) (t : List Entry) (r : Reckoning) (w : NodeWorld) (p : NodeWorld × List Entry) → HasRun hosts t w p → IsThere w n
    → StandsAt n t r w → ExactAt n t r p
run_exact hosts n t r w p a (inl is) stands =
    subst (λ k. ExactAt k t r p) (sym is)
    (exact_near t r p.0 p.1
    (subst (λ m. Exact 0 t r p.1 m p.0.controller) (sym a.memory_is)
    (subst (λ o. Exact 0 t r p.1 (after_planned a.work.writes w.memory) o) (sym a.controller_is)
    (subst (λ es. Exact 0 t r es (after_planned a.work.writes w.memory) (runs_on a.work)) (sym a.entries_are)
    (exact_step 0 hosts t w.memory a.running r (grind arith) a.work a.more a.fine (plain_idles 0 a.more a.plain))))))
run_exact hosts n t r w p a (inr far) stands =
    let s : Site = far.1.0 in
    exact_far n t r p.0 p.1 (a.change s) far.0 (ap (λ l. site_at l n) a.sites ∙ site_map a.change a.host w.sites n s far.1.1)
    (exact_idle n t r p.1 (a.change s).memory (a.change s).node (grind arith)
    (subst (AllByRecursion (IsNothingFor n)) (sym a.entries_are) (run_idles 0 n hosts t w.memory a.work a.more a.fine a.plain (not_zero n far.0))))

host_run_exact : (n : ℕ) (t : List Entry) (r : Reckoning) (w : NodeWorld) (h : ℕ) (p : NodeWorld × List Entry) → HostHasRun t w h p → IsThere w n
    → StandsAt n t r w → ExactAt n t r p
host_run_exact n t r w h p a there stands = subst (ExactAt n t r) (sym a.is) (by_node there) where
  v : NodeWorld
  v = record w { sites = with_site h a.change w.sites }

  es : List Entry
  es = a.work.entries ++ a.more

  by_node : IsThere w n → ExactAt n t r (v, es)
  by_node (inl is) =
      subst (λ k. ExactAt k t r (v, es)) (sym is)
      (exact_near t r v es
      (exact_idle 0 t r es w.memory w.controller (subst (λ k. StandsAt k t r w) is stands)
      (run_idles h 0 (h ∷ []) t a.site.memory a.work a.more a.fine a.plain (not_host h a.is_host))))
  by_node (inr far) = by_test (eqb h n)
      (λ is. let same : h ≡ n = eqb-true h n is in
      let found : site_at w.sites n ≡ Some a.site = ap (site_at w.sites) (sym same) ∙ a.there in
      exact_far n t r v es (a.change a.site) far.0
      (subst (λ k. site_at (with_site k a.change w.sites) n ≡ Some (a.change a.site)) (sym same) (with_here a.change a.host w.sites n a.site found))
      (subst (λ m. Exact n t r es m (a.change a.site).node) (sym a.memory_is)
      (subst (λ o. Exact n t r es (after_planned a.work.writes a.site.memory) o) (sym a.node_is)
      (exact_step n (h ∷ []) t a.site.memory a.running r (grind arith) a.work a.more
      (subst (λ k. GoesOn_or_lost k (h ∷ []) a.site.memory t a.work) same a.fine) (plain_idles n a.more a.plain)))))
      (λ other. exact_far n t r v es far.1.0 far.0 (with_there a.change a.host w.sites h n far.1.0 other far.1.1)
      (exact_idle n t r es far.1.0.memory far.1.0.node (stands_far n t r w far.1.0 far.0 far.1.1 stands)
      (run_idles h n (h ∷ []) t a.site.memory a.work a.more a.fine a.plain (eqb-false h n other))))

module _ (hosts : List ℕ) (are : AreHosts hosts) where
  -- what is there does something in a step of the controller
  pub controller_exact : (n : ℕ) (t : List Entry) (r : Reckoning) (w : NodeWorld) (h : ℕ) (comes : Comes) (f : Work → Work) → AllKeep hosts t w
      → IsStep hosts are 0 hosts f → IsThere w n → StandsAt n t r w → ExactAt n t r (controller_does w h comes f)
  controller_exact n t r w h comes f all step there stands =
      by_controller (ExactAt n t r) w h comes f (none_exact n t r w there stands)
      (λ q e.
      let k : NodeKeeps 0 hosts t w.memory (Some q) = subst (NodeKeeps 0 hosts t w.memory) e all.controller in
      let work : Work = controller_work w q h comes f in
      let begun : List Entry = entries_for h (arrival Controller (link_to w.sites h) comes) in
      run_exact hosts n t r w (after_controller w h comes work) (record {
        running = q;
        was = e;
        work = work;
        more = flat_map (λ (s : Site). frames_noted Controller s.host (wires_for s.link (comes_to h comes s.host)) work) w.sites;
        plain = plain_flat (λ (s : Site). frames_noted Controller s.host (wires_for s.link (comes_to h comes s.host)) work)
            (λ s. plain_frames Controller s.host (wires_for s.link (comes_to h comes s.host)) work) w.sites;
        fine = step w.memory t (work_of q w.memory.plan (λ k. near_end_in (link_to w.sites k) (comes_to h comes k)) begun)
            (runs_begun 0 hosts t w.memory q (λ k. near_end_in (link_to w.sites k) (comes_to h comes k)) begun
            (plain_entries h (arrival Controller (link_to w.sites h) comes)) k.runs) k.runs.on;
        memory_is = refl;
        controller_is = refl;
        entries_are = refl;
        change = link_after_controller h comes work;
        sites = refl;
        host = λ s. refl;
        memory = λ s. refl;
        node = λ s. refl;
      }) there stands)

  -- and in one of a host
  pub host_exact : (n : ℕ) (t : List Entry) (r : Reckoning) (w : NodeWorld) (h : ℕ) (comes : Comes) (f : Work → Work) → AllKeep hosts t w
      → ((x : Site) (q : Running) → site_at w.sites h ≡ Some x → x.node ≡ Some q → IsHost x.host → IsOnOrder q.core.command q.core.init
      → (before : List Entry) (work : Work) → work.core ≡ q.core → StillRuns x.host (x.host ∷ []) x.memory before work
      → GoesOn_or_lost x.host (x.host ∷ []) x.memory before (f work))
      → IsThere w n → StandsAt n t r w → ExactAt n t r (host_does w h comes f)
  host_exact n t r w h comes f all step there stands =
      by_host (ExactAt n t r) w h comes f (none_exact n t r w there stands)
      (λ x q here e.
      let known = site_found (SiteKeeps t) IsHost w.sites h x all.sites (subst (AllByRecursion IsHost) (sym all.hosts_are) are.all) here in
      let k : NodeKeeps x.host (x.host ∷ []) t x.memory (Some q) = subst (NodeKeeps x.host (x.host ∷ []) t x.memory) e known.0 in
      let host : IsHost x.host = known.1 in
      let same : x.host ≡ h = known.2 in
      let work : Work = host_work x q comes f in
      let begun : List Entry = entries_for x.host (arrival Host (exchanged x.link) comes) in
      let more : List Entry = frames_noted Host h (wires_for (exchanged x.link) comes) work in
      let fine : GoesOn_or_lost x.host (x.host ∷ []) x.memory t work =
      step x q here e host k.runs.on t (work_of q x.memory.plan (λ k. near_end_in (exchanged x.link) comes) begun) refl
      (runs_begun x.host (x.host ∷ []) t x.memory q (λ k. near_end_in (exchanged x.link) comes) begun
      (plain_entries x.host (arrival Host (exchanged x.link) comes)) k.runs) in
      host_run_exact n t r w h (after_host_step w h comes x work) (record {
        site = x;
        there = here;
        is_host = subst IsHost same host;
        running = q;
        was = e;
        work = work;
        more = more;
        plain = plain_frames Host h (wires_for (exchanged x.link) comes) work;
        fine = subst (λ k. GoesOn_or_lost k (k ∷ []) x.memory t work) same fine;
        change = after_host comes work;
        host = λ s. refl;
        memory_is = refl;
        node_is = refl;
        is = refl;
      }) there stands)

-- ## What a tick leaves of what is known of each node

-- one part of an event, and another
pub exact_both : (n : ℕ) (t : List Entry) (r : Reckoning) (p q : NodeWorld × List Entry) → ExactAt n t r p
    → ExactAt n (t ++ p.1) (fold (reckoned n) r p.1) q → ExactAt n t r (q.0, p.1 ++ q.1)
exact_both n t r p q a b = record { exact = exact_then n t r p.1 q.1 _ _ a.exact.each b.exact; there = b.there }

-- ### Hosts

-- the tick of a host: its entries are its own, and it stands so after them
record HostTicks (t : List Entry) (s : Site) (p : Site × List Entry) : Type 0 where
  own : AllByRecursion (IsOf s.host) p.1
  host : p.0.host ≡ s.host
  exact : (r : Reckoning) → Stands s.host t r s.memory s.node → Exact s.host t r p.1 p.0.memory p.0.node

host_ticked : (t : List Entry) (s : Site) → IsHost s.host → SiteKeeps t s → HostTicks t s (host_ticks s)
host_ticked t s is k =
    by_host_tick (HostTicks t s) s (λ e. record { own = tt; host = refl; exact = λ r a. exact_idle s.host t r [] s.memory s.node a tt })
    (λ q e.
    let runs : NodeKeeps s.host (s.host ∷ []) t s.memory (Some q) = subst (NodeKeeps s.host (s.host ∷ []) t s.memory) e k in
    let work : Work = host_tick s q in
    let more : List Entry = frames_noted Host s.host (exchanged s.link) work in
    let fine : GoesOn_or_lost s.host (s.host ∷ []) s.memory t work =
    steps_fine s.host (s.host ∷ []) s.memory t (inr is) (record { all = (is, tt); different = (tt, tt) }) TimePasses
    (work_of q s.memory.plan (λ h. s.link.host) []) (runs_begun s.host (s.host ∷ []) t s.memory q (λ h. s.link.host) [] tt runs.runs) runs.runs.on in
    record {
      own = (step_keeps s.host (s.host ∷ []) t s.memory work more fine (plain_frames Host s.host (exchanged s.link) work)).2;
      host = refl;
      exact = λ r a. exact_step s.host (s.host ∷ []) t s.memory q r (subst (Stands s.host t r s.memory) e a) work more fine
          (plain_idles s.host more (plain_frames Host s.host (exchanged s.link) work));
    })

-- the ticks of hosts are nothing for a node that isn't one of them
others_tick : (n : ℕ) (t : List Entry) (sites : List Site) → AreDifferent (hosts_in sites) → AllByRecursion IsHost (hosts_in sites)
    → AllByRecursion (SiteKeeps t) sites → AllByRecursion (λ k. eqb k n ≡ false) (hosts_in sites)
    → AllByRecursion (IsNothingFor n) (hosts_tick sites).1
others_tick n t [] different hosts all off = tt
others_tick n t (s ∷ sites) different hosts all off =
    let one : HostTicks t s (host_ticks s) = host_ticked t s hosts.0 all.0 in
    all_append (IsNothingFor n) (host_ticks s).1 (hosts_tick sites).1 (other_idles s.host n (host_ticks s).1 (eqb-false s.host n off.0) one.own)
    (others_tick n (t ++ (host_ticks s).1) sites different.1 hosts.1
    (moved t (t ++ (host_ticks s).1) s.host (host_ticks s).1 refl one.own sites different.0 all.1) off.1)

-- a host that is one of them
record SiteStands (n : ℕ) (t : List Entry) (r : Reckoning) (p : List Site × List Entry) : Type 0 where
  site : Site
  there : site_at p.0 n ≡ Some site
  exact : Exact n t r p.1 site.memory site.node

site_stands : (n : ℕ) (t : List Entry) (r : Reckoning) (sites : List Site) (x : Site) → AreDifferent (hosts_in sites) → AllByRecursion IsHost (hosts_in sites)
    → AllByRecursion (SiteKeeps t) sites → site_at sites n ≡ Some x → Stands n t r x.memory x.node → SiteStands n t r (hosts_tick sites)
site_stands n t r [] x different hosts all here a = absurd (cc here)
site_stands n t r (s ∷ sites) x different hosts all here a = by_host (cases_Bool (eqb s.host n))
    (λ found stands. site_stands n (t ++ first.1) (fold (reckoned n) r first.1) sites x different.1 hosts.1 later_keep found stands) where
      first : Site × List Entry
      first = host_ticks s

      one : HostTicks t s first
      one = host_ticked t s hosts.0 all.0

      later_keep : AllByRecursion (SiteKeeps (t ++ first.1)) sites
      later_keep = moved t (t ++ first.1) s.host first.1 refl one.own sites different.0 all.1

      by_host : (eqb s.host n ≡ true) ⊎ (eqb s.host n ≡ false)
          → (site_at sites n ≡ Some x → Stands n (t ++ first.1) (fold (reckoned n) r first.1) x.memory x.node
          → SiteStands n (t ++ first.1) (fold (reckoned n) r first.1) (hosts_tick sites))
          → SiteStands n t r (hosts_tick (s ∷ sites))
      by_host (inl is) later =
          let found : Some s ≡ Some x = sym (cond-true (eqb s.host n) (Some s) (site_at sites n) is) ∙ here in
          let same : s ≡ x = cc in
          let number : s.host ≡ n = eqb-true s.host n is in
          let now : Stands n t r s.memory s.node = subst (λ (y : Site). Stands n t r y.memory y.node) (sym same) a in
          let here_exact : Exact n t r first.1 first.0.memory first.0.node =
          subst (λ k. Exact k t r first.1 first.0.memory first.0.node) number (one.exact r (subst (λ k. Stands k t r s.memory s.node) (sym number) now)) in
          let others : AllByRecursion (λ k. eqb k n ≡ false) (hosts_in sites) =
          subst (λ j. AllByRecursion (λ k. eqb k j ≡ false) (hosts_in sites)) number different.0 in
          record {
            site = first.0;
            there = cond-true (eqb first.0.host n) (Some first.0) (site_at (hosts_tick sites).0 n) (ap (λ k. eqb k n) one.host ∙ is);
            exact = exact_then n t r first.1 (hosts_tick sites).1 first.0.memory first.0.node here_exact.each
                (exact_idle n (t ++ first.1) (fold (reckoned n) r first.1) (hosts_tick sites).1 first.0.memory first.0.node here_exact.stands
                (others_tick n (t ++ first.1) sites different.1 hosts.1 later_keep others));
          }
      by_host (inr off) later =
          let found : site_at sites n ≡ Some x = sym (cond-false (eqb s.host n) (Some s) (site_at sites n) off) ∙ here in
          let begun : Exact n t r first.1 x.memory x.node =
          exact_idle n t r first.1 x.memory x.node a (other_idles s.host n first.1 (eqb-false s.host n off) one.own) in
          let rest : SiteStands n (t ++ first.1) (fold (reckoned n) r first.1) (hosts_tick sites) = later found begun.stands in
          record {
            site = rest.site;
            there = cond-false (eqb first.0.host n) (Some first.0) (site_at (hosts_tick sites).0 n) (ap (λ k. eqb k n) one.host ∙ off) ∙ rest.there;
            exact = exact_then n t r first.1 (hosts_tick sites).1 rest.site.memory rest.site.node begun.each rest.exact;
          }

-- ### A tick

module _ (hosts : List ℕ) (are : AreHosts hosts) (n : ℕ) where
  aged_exact : (t : List Entry) (r : Reckoning) (w : NodeWorld) → IsThere w n → StandsAt n t r w → ExactAt n t r (all_aged w)
  aged_exact t r w there stands = plain_exact n t r w (all_aged w) (record {
    plain = plain_flat (λ (s : Site). entries_for s.host (aged_entries Controller s.link.to_controller ++ aged_entries Host s.link.to_host))
        (λ s. plain_entries s.host (aged_entries Controller s.link.to_controller ++ aged_entries Host s.link.to_host)) w.sites;
    memory_is = refl;
    controller = refl;
    change = λ (s : Site). record s { link = aged s.link };
    sites = refl;
    host = λ s. refl;
    memory = λ s. refl;
    node = λ s. refl;
  }) there stands

  near_exact : (t : List Entry) (r : Reckoning) (w : NodeWorld) → AllKeep hosts t w → IsThere w n → StandsAt n t r w → ExactAt n t r (controller_ticks w)
  near_exact t r w all there stands =
      by_controller_tick (ExactAt n t r) w
      (λ e. plain_exact n t r w (record w { sites = map site_unticked w.sites }, []) (grind arith) there stands)
      (λ q e.
      let k : NodeKeeps 0 hosts t w.memory (Some q) = subst (NodeKeeps 0 hosts t w.memory) e all.controller in
      let work : Work = near_tick w q in
      run_exact hosts n t r w (after_near_tick w work) (record {
        running = q;
        was = e;
        work = work;
        more = flat_map (λ (s : Site). frames_noted Controller s.host s.link work) w.sites;
        plain = plain_flat (λ (s : Site). frames_noted Controller s.host s.link work) (λ s. plain_frames Controller s.host s.link work) w.sites;
        fine = steps_fine 0 hosts w.memory t (inl refl) are TimePasses (work_of q w.memory.plan (λ h. (link_to w.sites h).controller) [])
            (runs_begun 0 hosts t w.memory q (λ h. (link_to w.sites h).controller) [] tt k.runs) k.runs.on;
        memory_is = refl;
        controller_is = refl;
        entries_are = refl;
        change = site_ticked work;
        sites = refl;
        host = λ s. refl;
        memory = λ s. refl;
        node = λ s. refl;
      }) there stands)

  far_exact : (t : List Entry) (r : Reckoning) (w : NodeWorld) → AllKeep hosts t w → IsThere w n → StandsAt n t r w
      → ExactAt n t r (record w { sites = (hosts_tick w.sites).0 }, (hosts_tick w.sites).1)
  far_exact t r w all there stands = by_node there where
    v : NodeWorld
    v = record w { sites = (hosts_tick w.sites).0 }

    different : AreDifferent (hosts_in w.sites)
    different = subst AreDifferent (sym all.hosts_are) are.different

    are_hosts : AllByRecursion IsHost (hosts_in w.sites)
    are_hosts = subst (AllByRecursion IsHost) (sym all.hosts_are) are.all

    by_node : IsThere w n → ExactAt n t r (v, (hosts_tick w.sites).1)
    by_node (inl is) =
        subst (λ k. ExactAt k t r (v, (hosts_tick w.sites).1)) (sym is)
        (exact_near t r v (hosts_tick w.sites).1
        (exact_idle 0 t r (hosts_tick w.sites).1 w.memory w.controller (subst (λ k. StandsAt k t r w) is stands)
        (others_tick 0 t w.sites different are_hosts all.sites (numbers (hosts_in w.sites) are_hosts))))
    by_node (inr far) =
        let s : Site = far.1.0 in
        let rest : SiteStands n t r (hosts_tick w.sites) =
        site_stands n t r w.sites s different are_hosts all.sites far.1.1 (stands_far n t r w s far.0 far.1.1 stands) in
        exact_far n t r v (hosts_tick w.sites).1 rest.site far.0 rest.there rest.exact

  pub ticks_exact : (t : List Entry) (r : Reckoning) (w : NodeWorld) → AllKeep hosts t w → IsThere w n → StandsAt n t r w → ExactAt n t r (world_ticks w)
  ticks_exact t r w all there stands =
      let old = all_aged w in
      let near = controller_ticks old.0 in
      let far = hosts_tick near.0.sites in
      let v : NodeWorld = record near.0 { sites = far.0 } in
      let a : ExactAt n t r old = aged_exact t r w there stands in
      let b : ExactAt n (t ++ old.1) (fold (reckoned n) r old.1) near =
      near_exact (t ++ old.1) (fold (reckoned n) r old.1) old.0 (aged_goes hosts are t w all).keep a.there a.exact.stands in
      let c : ExactAt n ((t ++ old.1) ++ near.1) (fold (reckoned n) (fold (reckoned n) r old.1) near.1) (v, far.1) =
      far_exact ((t ++ old.1) ++ near.1) (fold (reckoned n) (fold (reckoned n) r old.1) near.1) near.0
      (near_ticks hosts are (t ++ old.1) old.0 (aged_goes hosts are t w all).keep).keep b.there b.exact.stands in
      exact_both n t r old (v, near.1 ++ far.1) a (exact_both n (t ++ old.1) (fold (reckoned n) r old.1) near (v, far.1) b c)

-- ## How a step of a node ends in which it loses its power

pub lost_ends : (n : ℕ) (hosts : List ℕ) (old : Memory) (before : List Entry) (k : Work) → GoesOn_or_lost n hosts old before k → k.cut ≡ true
    → (front : List Entry) × ((c : Command) × (k.entries ≡ front ++ (entry.Command n c ∷ entry.Cut n ∷ [])))
lost_ends n hosts old before k (inl run) cut = absurd (true≢false (sym cut ∙ run.0.on))
lost_ends n hosts old before k (inr lost) cut =
    let work : Work = lost.lost.work in
    let c : Command = lost.command in (
      work.entries,
      (
        c,
        ap (λ (x : Work). x.entries) lost.lost.is
            ∙ append_assoc work.entries (entry.Command work.core.node c ∷ []) (entry.Cut work.core.node ∷ [])
            ∙ ap (λ k. work.entries ++ (entry.Command k c ∷ entry.Cut k ∷ [])) lost.lost.ran.number,
      ),
    )
