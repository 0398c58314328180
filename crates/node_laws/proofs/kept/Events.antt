-- What a node keeps between its steps and over a boot, and all nodes over whatever happens to the world.
use Rattle.std.proofs.lemmas.Bool.{eqb-false}
use Rattle.node_laws.proofs.Words.{AllByRecursion, AllKeep, AreDifferent, AreHosts, AreToldBehind, AtController, AtEnd, Book, Bool, Broken, Comes, Controller}
use Rattle.node_laws.proofs.Words.{Core, CutOff, Desk, End, Entry, Host, IfRuns, Init, IsHost, IsOf, IsOnOrder, IsPlain, Knows, Last, Link, LinkEvent, List}
use Rattle.node_laws.proofs.Words.{Loss, MayBeDone, Memory, Message, NoInput, NodeKeeps, NodeWorld, None, NumberedEnd, Option, Orders, Plan, Port, Running}
use Rattle.node_laws.proofs.Words.{RunsSo, Sends, Site, SiteKeeps, Some, Starts, Step, StillRuns, WaitsAt, WaitsFor, Work, WouldFind, [], activates, after_host}
use Rattle.node_laws.proofs.Words.{after_planned, all_append, ap, append-nil, append_assoc, ap₂, arith, arrival, asked_at, beginning, begins_with, book_after}
use Rattle.node_laws.proofs.Words.{book_in, boot_writes, boots, by_coming, by_controller, by_host, by_loss, by_test, cases_Bool, changed_if, close, comes_at}
use Rattle.node_laws.proofs.Words.{comes_to, commands_in, cond, cond-true, cond_both, controller_cut, controller_does, controller_work, count_of, counts}
use Rattle.node_laws.proofs.Words.{creation_in, end_c, end_h, ending_entries, ending_of, entries_for, eqb, eqb-true, errors_all, exchanged, fails_within, false}
use Rattle.node_laws.proofs.Words.{first_lost, flat_map, fold, found, frame_lost, frames_noted, happens, host_cut, host_does, host_work, hosts_of_ends, inl}
use Rattle.node_laws.proofs.Words.{inr, is_command_message, is_some, last_after, last_in, length, link_after_controller, link_to, loses_power_at, map}
use Rattle.node_laws.proofs.Words.{memory_at, min, near_end_in, new_book, new_memory, node_at, option_map_or, port_at, port_for, reckoning_of, refl, runs_on}
use Rattle.node_laws.proofs.Words.{sending, site_at, site_lost, steps, subst, sym, true, true≢false, wires_for, with_error, with_found, with_memory, with_site}
use Rattle.node_laws.proofs.Words.{work_of, ℕ, ◌&&◌, ◌++◌, ◌+◌, ◌-◌, ◌^◌, ◌∙◌, ◌∷◌, ◌≡◌, ◌≤◌, ◌⊎◌}
use Rattle.link_laws.specs.entries.Entries.{End as LinkSide}
use Rattle.node_laws.specs.kept.Worlds.{IsStranger}
use Rattle.node_laws.proofs.kept.Doing.{GoesOn_or_lost, NoneNew, all_fine, book_more, closed_book, finds_all, last_more, map_found, map_new, map_two, may_still}
use Rattle.node_laws.proofs.kept.Doing.{plain_book, plain_entries, plain_flat, plain_last, plain_own, plain_told, same_new, told_append}
use Rattle.node_laws.proofs.kept.Booting.{boot_lost, boot_runs, boot_told, cut_keeps}
use Rattle.node_laws.proofs.kept.Reckoned.{idle_make, plain_idles}
use Rattle.node_laws.proofs.kept.Stepping.{steps_fine}
use Rattle.trace_model.specs.declared.entry.Entry.TheVariants as entry

-- ## What hosts keep while one of them changes

-- the hosts
abbrev pub hosts_in : List Site → List ℕ
hosts_in sites = map (λ (s : Site). s.host) sites

-- a host that is found is one of them
pub site_found : (P : Site → Type 0) (Q : ℕ → Type 0) (sites : List Site) (h : ℕ) (s : Site) → AllByRecursion P sites → AllByRecursion Q (hosts_in sites)
    → site_at sites h ≡ Some s
    → P s × Q s.host × (s.host ≡ h)
site_found P Q [] h s all hosts e = absurd (cc e)
site_found P Q (x ∷ sites) h s all hosts e =
    cond_both (eqb x.host h) (Some x) (site_at sites h) (λ o. o ≡ Some s → P s × Q s.host × (s.host ≡ h))
    (λ is f. let same : x ≡ s = cc in subst (λ y. P y × Q y.host × (y.host ≡ h)) same (all.0, hosts.0, eqb-true x.host h is))
    (λ _ f. site_found P Q sites h s all.1 hosts.1 f) e

-- no host has this number
pub none_found : (sites : List Site) (n : ℕ) → site_at sites n ≡ None → AllByRecursion (λ k. eqb k n ≡ false) (hosts_in sites)
none_found [] n e = tt
none_found (s ∷ sites) n e = by_test (eqb s.host n) (λ is. absurd (cc (rw is at e))) (λ off. (off, none_found sites n (rw off at e)))

pub hosts_same : (g : Site → Site) → ((s : Site) → (g s).host ≡ s.host) → (sites : List Site) → hosts_in (map g sites) ≡ hosts_in sites
hosts_same g same [] = refl
hosts_same g same (s ∷ sites) = ap₂ (λ x l. x ∷ l) (same s) (hosts_same g same sites)

pub changed_host : (b : Bool) (f : Site → Site) (s : Site) → (f s).host ≡ s.host → (changed_if b f s).host ≡ s.host
changed_host b f s same = grind arith

pub hosts_with : (h : ℕ) (f : Site → Site) → ((s : Site) → (f s).host ≡ s.host) → (sites : List Site) → hosts_in (with_site h f sites) ≡ hosts_in sites
hosts_with h f same sites = hosts_same (λ (s : Site). changed_if (eqb s.host h) f s) (λ s. changed_host (eqb s.host h) f s (same s)) sites

-- all of them keep what they keep
map_sites : (t u : List Entry) (Q : ℕ → Type 0) (g : Site → Site) → ((s : Site) → Q s.host → SiteKeeps t s → SiteKeeps u (g s))
    → (sites : List Site) → AllByRecursion Q (hosts_in sites) → AllByRecursion (SiteKeeps t) sites → AllByRecursion (SiteKeeps u) (map g sites)
map_sites t u Q g keeps [] hosts all = tt
map_sites t u Q g keeps (s ∷ sites) hosts all = (keeps s hosts.0 all.0, map_sites t u Q g keeps sites hosts.1 all.1)

module _ (t u : List Entry) (h : ℕ) (f : Site → Site) (other : (s : Site) → eqb s.host h ≡ false → SiteKeeps t s → SiteKeeps u s) where
  others_keep : (sites : List Site) → AllByRecursion (λ k. eqb k h ≡ false) (hosts_in sites) → AllByRecursion (SiteKeeps t) sites
      → AllByRecursion (SiteKeeps u) (with_site h f sites)
  others_keep [] hosts all = tt
  others_keep (s ∷ sites) hosts all =
      (subst (λ b. SiteKeeps u (changed_if b f s)) (sym hosts.0) (other s hosts.0 all.0), others_keep sites hosts.1 all.1)

  -- all but one keep what they keep, and that one keeps it as it is changed
  with_site_keeps : (sites : List Site) (x : Site) → AreDifferent (hosts_in sites) → site_at sites h ≡ Some x → SiteKeeps u (f x)
      → AllByRecursion (SiteKeeps t) sites → AllByRecursion (SiteKeeps u) (with_site h f sites)
  with_site_keeps [] x different e changed all = absurd (cc e)
  with_site_keeps (s ∷ sites) x different e changed all = by_host (cases_Bool (eqb s.host h))
      (λ found. with_site_keeps sites x different.1 found changed all.1) where
        by_host : (eqb s.host h ≡ true) ⊎ (eqb s.host h ≡ false) → (site_at sites h ≡ Some x → AllByRecursion (SiteKeeps u) (with_site h f sites))
            → AllByRecursion (SiteKeeps u) (with_site h f (s ∷ sites))
        by_host (inl is) later =
            let here : Some s ≡ Some x = sym (cond-true (eqb s.host h) (Some s) (site_at sites h) is) ∙ e in
            let same : s ≡ x = cc in (
              subst (λ b. SiteKeeps u (changed_if b f s)) (sym is) (subst (λ y. SiteKeeps u (f y)) (sym same) changed),
              others_keep sites (subst (λ k. AllByRecursion (λ j. eqb j k ≡ false) (hosts_in sites)) (eqb-true s.host h is) different.0) all.1,
            )
        by_host (inr off) later =
            (subst (λ b. SiteKeeps u (changed_if b f s)) (sym off) (other s off all.0), later (grind arith))

-- a host is changed twice
pub with_site_twice : (h : ℕ) (f g : Site → Site) → ((s : Site) → (f s).host ≡ s.host) → (sites : List Site)
    → with_site h g (with_site h f sites) ≡ with_site h (λ s. g (f s)) sites
with_site_twice h f g same [] = refl
with_site_twice h f g same (s ∷ sites) = ap₂ (λ x l. x ∷ l) (grind arith) (with_site_twice h f g same sites)

-- ## What a node keeps between its steps

-- ### Entries of another node

-- the same is read of a node
pub record IsSame (n : ℕ) (t u : List Entry) : Type 0 where
  pub book : book_in u n ≡ book_in t n
  pub last : last_in u n ≡ last_in t n

pub same_then : (n : ℕ) (t u v : List Entry) → IsSame n t u → IsSame n u v → IsSame n t v
same_then n t u v a b = record { book = b.book ∙ a.book; last = b.last ∙ a.last }

pub plain_same : (n : ℕ) (t es : List Entry) → AllByRecursion IsPlain es → IsSame n t (t ++ es)
plain_same n t es plain = record { book = plain_book t es n plain; last = plain_last t es n plain }

other_book_fold : (m n : ℕ) (b : Book) (es : List Entry) → (m ≡ n → ⊥) → AllByRecursion (IsOf m) es → fold (book_after n) b es ≡ b
other_book_fold m n b [] other all = refl
other_book_fold m n b (e ∷ es) other all = ap (λ x. fold (book_after n) x es) (grind arith) ∙ other_book_fold m n b es other all.1

other_last_fold : (m n : ℕ) (l : Last) (es : List Entry) → (m ≡ n → ⊥) → AllByRecursion (IsOf m) es → fold (last_after n) l es ≡ l
other_last_fold m n l [] other all = refl
other_last_fold m n l (e ∷ es) other all = ap (λ x. fold (last_after n) x es) (grind arith) ∙ other_last_fold m n l es other all.1

pub other_same : (m n : ℕ) (t es : List Entry) → (m ≡ n → ⊥) → AllByRecursion (IsOf m) es → IsSame n t (t ++ es)
other_same m n t es other all = record {
  book = book_more t es n ∙ other_book_fold m n (book_in t n) es other all;
  last = last_more t es n ∙ other_last_fold m n (last_in t n) es other all;
}

-- a node of which the same is read keeps the same
pub keeps_same : (n : ℕ) (hosts : List ℕ) (t u : List Entry) (m : Memory) (node : Option Running) → IsSame n t u → NodeKeeps n hosts t m node
    → NodeKeeps n hosts u m node
keeps_same n hosts t u m node same k = record {
  would = subst (λ b. WouldFind m.content b (last_in u n)) (sym same.book) (subst (λ l. WouldFind m.content (book_in t n) l) (sym same.last) k.would);
  runs = if_runs node k.runs;
} where
  if_runs : (o : Option Running) → IfRuns n hosts m.content t o → IfRuns n hosts m.content u o
  if_runs None r = tt
  if_runs (Some x) r = grind arith

-- ### Before and after a step

port_hosts : (near_ends : ℕ → NumberedEnd) (desks : List Desk)
    → hosts_of_ends (map (λ (d : Desk). port_for (near_ends d.host) d) desks) ≡ map (λ (d : Desk). d.host) desks
port_hosts near_ends [] = refl
port_hosts near_ends (d ∷ desks) = ap (λ l. d.host ∷ l) (port_hosts near_ends desks)

port_waits : (near_ends : ℕ → NumberedEnd) (desks : List Desk) → AllByRecursion (λ (d : Desk). WaitsFor d.notice) desks
    → AllByRecursion WaitsAt (map (λ (d : Desk). port_for (near_ends d.host) d) desks)
port_waits near_ends [] all = tt
port_waits near_ends (d ∷ desks) all = (all.0, port_waits near_ends desks all.1)

desk_hosts : (ports : List Port) → map (λ (d : Desk). d.host) (map (λ (p : Port). p.desk) ports) ≡ hosts_of_ends ports
desk_hosts [] = refl
desk_hosts (p ∷ ports) = ap (λ l. p.desk.host ∷ l) (desk_hosts ports)

desk_waits : (ports : List Port) → AllByRecursion WaitsAt ports → AllByRecursion (λ (d : Desk). WaitsFor d.notice) (map (λ (p : Port). p.desk) ports)
desk_waits [] all = tt
desk_waits (p ∷ ports) all = (all.0, desk_waits ports all.1)

desk_new : (near_ends : ℕ → NumberedEnd) (ports : List Port)
    → NoneNew ports (map (λ (d : Desk). port_for (near_ends d.host) d) (map (λ (p : Port). p.desk) ports))
desk_new near_ends ports =
    subst (NoneNew ports) (sym (map_two (λ (d : Desk). port_for (near_ends d.host) d) (λ (p : Port). p.desk) ports))
    (map_new (λ (p : Port). port_for (near_ends p.desk.host) p.desk) (λ p. refl) (λ p c e. e) ports)

-- a step begins
pub runs_begun : (n : ℕ) (hosts : List ℕ) (t : List Entry) (m : Memory) (r : Running) (near_ends : ℕ → NumberedEnd) (es : List Entry)
    → AllByRecursion IsPlain es
    → RunsSo n hosts m.content t r → StillRuns n hosts m t (work_of r m.plan near_ends es)
runs_begun n hosts t m r near_ends es plain k = record {
  on = refl;
  memory = m;
  written = λ more. refl;
  plan_is = refl;
  made = idle_make n (reckoning_of true (book_in t n) m) m es refl refl refl refl (plain_idles n es plain);
  number = k.number;
  hosts_are = port_hosts near_ends r.desks ∙ k.hosts_are;
  knows = k.knows;
  sorted = k.sorted;
  recordable = k.recordable;
  tables_are = k.tables_are ∙ ap (λ (b : Book). b.tables) (sym (plain_book t es n plain));
  count_is = k.count_is ∙ ap (λ (b : Book). min (length b.commands) (2 ^ 32 - 1)) (sym (plain_book t es n plain));
  told = plain_told t es plain;
  own = plain_own n es plain;
  waits = port_waits near_ends r.desks k.waits;
  allowed = λ z. k.allowed z near_ends;
}

-- a step has ended
keeps_ended : (n : ℕ) (hosts : List ℕ) (t : List Entry) (m : Memory) (k : Work) → GoesOn_or_lost n hosts m t k
    → NodeKeeps n hosts (t ++ k.entries) (after_planned k.writes m) (runs_on k)
keeps_ended n hosts t m k (inl (r, on)) = record {
  would = finds_all _ (book_in (t ++ k.entries) n) (last_in (t ++ k.entries) n) k.core.tables (count_of k.core.journal) knows.finds
      (ap close r.tables_are ∙ closed_book (t ++ k.entries) n) r.count_is;
  runs = rw r.on (record {
    number = r.number;
    hosts_are = desk_hosts k.ports ∙ r.hosts_are;
    knows = knows;
    sorted = r.sorted;
    recordable = r.recordable;
    tables_are = r.tables_are;
    count_is = r.count_is;
    on = on;
    waits = desk_waits k.ports r.waits;
    allowed = λ z near_ends. may_still k.core.tables k.ports (map (λ (d : Desk). port_for (near_ends d.host) d) (map (λ (p : Port). p.desk) k.ports))
        (desk_new near_ends k.ports) (r.allowed z);
  });
} where
  memory_is : after_planned k.writes m ≡ r.memory
  memory_is = ap (λ l. after_planned l m) (sym (append-nil k.writes)) ∙ r.written []

  knows : Knows (after_planned k.writes m).content k.core.journal k.core.tables
  knows = subst (λ (x : Memory). Knows x.content k.core.journal k.core.tables) (sym memory_is) r.knows
keeps_ended n hosts t m k (inr lost) = record { would = lost.would; runs = rw lost.off tt }

pub told_ended : (n : ℕ) (hosts : List ℕ) (t : List Entry) (m : Memory) (k : Work) → GoesOn_or_lost n hosts m t k
    → AreToldBehind t k.entries × AllByRecursion (IsOf n) k.entries
told_ended n hosts t m k a = grind arith

-- ## What all nodes keep over an event

-- ### Plain entries

plain_option : {X : Type 0} (f : X → List Entry) (o : Option X) → ((x : X) → AllByRecursion IsPlain (f x)) → AllByRecursion IsPlain (option_map_or f o [])
plain_option f o one = grind arith

pub plain_frames : (who : LinkSide) (h : ℕ) (l : Link) (w : Work) → AllByRecursion IsPlain (frames_noted who h l w)
plain_frames who h l w =
    plain_option (λ (p : Port). entries_for h (ending_entries who l p.side (ending_of w))) (port_at w.ports h) (λ p. plain_entries h
    (ending_entries who l p.side (ending_of w)))

-- ### An event of one node

-- a step of a node, and the frames that go out after it
pub step_keeps : (n : ℕ) (hosts : List ℕ) (t : List Entry) (m : Memory) (k : Work) (more : List Entry) → GoesOn_or_lost n hosts m t k
    → AllByRecursion IsPlain more
    → NodeKeeps n hosts (t ++ (k.entries ++ more)) (after_planned k.writes m) (runs_on k) × AreToldBehind t (k.entries ++ more) × AllByRecursion (IsOf n)
    (k.entries ++ more)
step_keeps n hosts t m k more fine plain =
    let told = told_ended n hosts t m k fine in (
      subst (λ l. NodeKeeps n hosts l (after_planned k.writes m) (runs_on k)) (append_assoc t k.entries more)
          (keeps_same n hosts (t ++ k.entries) ((t ++ k.entries) ++ more) (after_planned k.writes m) (runs_on k) (plain_same n
          (t ++ k.entries) more plain) (keeps_ended n hosts t m k fine)),
      told_append t k.entries more told.0 (plain_told (t ++ k.entries) more plain),
      all_append (IsOf n) k.entries more told.1 (plain_own n more plain),
    )

module _ (hosts : List ℕ) (are : AreHosts hosts) where
  -- what all keep after an event, and what is told of it
  pub record Goes (t : List Entry) (w : NodeWorld) (es : List Entry) : Type 0 where
    pub keep : AllKeep hosts (t ++ es) w
    pub told : AreToldBehind t es

  pub goes_not : (t : List Entry) (w : NodeWorld) → AllKeep hosts t w → Goes t w []
  goes_not t w all = record { keep = subst (λ l. AllKeep hosts l w) (sym (append-nil t)) all; told = tt }

  pub goes_then : (t : List Entry) (w : NodeWorld) (xs ys : List Entry) → AreToldBehind t xs → Goes (t ++ xs) w ys → Goes t w (xs ++ ys)
  goes_then t w xs ys told g = record { keep = subst (λ l. AllKeep hosts l w) (append_assoc t xs ys) g.keep; told = told_append t xs ys told g.told }

  zero_host : (h : ℕ) → IsHost h → h ≡ 0 → ⊥
  zero_host h host is = omega (arith, host.0)

  hosts_of_sites : (t : List Entry) (w : NodeWorld) → AllKeep hosts t w → AllByRecursion IsHost (hosts_in w.sites)
  hosts_of_sites t w all = subst (AllByRecursion IsHost) (sym all.hosts_are) are.all

  -- the controller changes, and the links
  pub controller_goes : (t : List Entry) (w : NodeWorld) (es : List Entry) (m : Memory) (node : Option Running) (g : Site → Site) → AllKeep hosts t w
      → NodeKeeps 0 hosts (t ++ es) m node → AreToldBehind t es → AllByRecursion (IsOf 0) es
      → ((s : Site) → (g s).host ≡ s.host) → ((s : Site) → SiteKeeps (t ++ es) s → SiteKeeps (t ++ es) (g s))
      → Goes t (record { memory = m; controller = node; sites = map g w.sites }) es
  controller_goes t w es m node g all keeps told own host site = record {
    keep = record {
      controller = keeps;
      hosts_are = hosts_same g host w.sites ∙ all.hosts_are;
      sites = map_sites t (t ++ es) IsHost g
          (λ s is k. site s (keeps_same s.host (s.host ∷ []) t (t ++ es) s.memory s.node (other_same 0 s.host t es (λ e. zero_host s.host is (sym e)) own) k))
          w.sites (hosts_of_sites t w all) all.sites;
      strangers = λ n strange. (other_same 0 n t es (λ e. true≢false (sym (ap (λ k. eqb k 0) (sym e)) ∙ strange.0)) own).book ∙ all.strangers n strange;
    };
    told = told;
  }

  -- a host changes
  pub host_goes : (t : List Entry) (w : NodeWorld) (es : List Entry) (h : ℕ) (x : Site) (f : Site → Site) → AllKeep hosts t w → site_at w.sites h ≡ Some x
      → SiteKeeps (t ++ es) (f x) → AreToldBehind t es → AllByRecursion (IsOf h) es → ((s : Site) → (f s).host ≡ s.host)
      → Goes t (record w { sites = with_site h f w.sites }) es
  host_goes t w es h x f all here keeps told own host =
      let known = site_found (SiteKeeps t) IsHost w.sites h x all.sites (hosts_of_sites t w all) here in
      record {
        keep = record {
          controller = keeps_same 0 hosts t (t ++ es) w.memory w.controller (other_same h 0 t es (zero_host h (grind arith)) own) all.controller;
          hosts_are = hosts_with h f host w.sites ∙ all.hosts_are;
          sites = with_site_keeps t (t ++ es) h f
              (λ s off k. keeps_same s.host (s.host ∷ []) t (t ++ es) s.memory s.node (other_same h s.host t es (λ e. eqb-false s.host h off (sym e)) own) k)
              w.sites x (subst AreDifferent (sym all.hosts_are) are.different) here keeps all.sites;
          strangers = λ n strange.
              let off = site_found (SiteKeeps t) (λ k. eqb k n ≡ false) w.sites h x all.sites (subst (AllByRecursion (λ k. eqb k n ≡ false))
              (sym all.hosts_are) strange.1) here in
              (other_same h n t es (λ e. eqb-false x.host n off.1 (known.2 ∙ e)) own).book ∙ all.strangers n strange;
        };
        told = told;
      }

  -- ### Steps

  -- what a step does with a node that runs
  abbrev pub IsStep : ℕ → List ℕ → (Work → Work) → Type 0
  IsStep n links f = (old : Memory) (before : List Entry) (w : Work) → Rattle.node_laws.specs.kept.Books.StillRuns n links old before w → IsOnOrder
      w.core.command w.core.init
      → GoesOn_or_lost n links old before (f w)

  controller_steps : (t : List Entry) (w : NodeWorld) (h : ℕ) (comes : Comes) (f : Work → Work) → AllKeep hosts t w → IsStep 0 hosts f
      → Goes t (controller_does w h comes f).0 (controller_does w h comes f).1
  controller_steps t w h comes f all step =
      by_controller (λ p. Goes t p.0 p.1) w h comes f (goes_not t w all)
      (λ r e.
      let runs = (subst (NodeKeeps 0 hosts t w.memory) e all.controller).runs in
      let work : Work = controller_work w r h comes f in
      let frames : List Entry = flat_map (λ (s : Site). frames_noted Controller s.host (wires_for s.link (comes_to h comes s.host)) work) w.sites in
      let begun : List Entry = entries_for h (arrival Controller (link_to w.sites h) comes) in
      let fine : GoesOn_or_lost 0 hosts w.memory t work =
      step w.memory t (work_of r w.memory.plan (λ k. near_end_in (link_to w.sites k) (comes_to h comes k)) begun)
      (runs_begun 0 hosts t w.memory r (λ k. near_end_in (link_to w.sites k) (comes_to h comes k)) begun
      (plain_entries h (arrival Controller (link_to w.sites h) comes)) runs) runs.on in
      let done = step_keeps 0 hosts t w.memory work frames fine
      (plain_flat (λ (s : Site). frames_noted Controller s.host (wires_for s.link (comes_to h comes s.host)) work)
      (λ s. plain_frames Controller s.host (wires_for s.link (comes_to h comes s.host)) work) w.sites) in
      controller_goes t w (work.entries ++ frames) (after_planned work.writes w.memory) (runs_on work) (link_after_controller h comes work) all
      done.0 done.1 done.2 (λ s. refl) (λ s keeps. keeps))

  host_steps : (t : List Entry) (w : NodeWorld) (h : ℕ) (comes : Comes) (f : Work → Work) → AllKeep hosts t w
      → ((x : Site) (r : Running) → site_at w.sites h ≡ Some x → x.node ≡ Some r → IsHost x.host → IsOnOrder r.core.command r.core.init
      → (before : List Entry) (work : Work) → work.core ≡ r.core → Rattle.node_laws.specs.kept.Books.StillRuns x.host (x.host ∷ []) x.memory before work
      → GoesOn_or_lost x.host (x.host ∷ []) x.memory before (f work))
      → Goes t (host_does w h comes f).0 (host_does w h comes f).1
  host_steps t w h comes f all step =
      by_host (λ p. Goes t p.0 p.1) w h comes f (goes_not t w all)
      (λ x r here e.
      let known = site_found (SiteKeeps t) IsHost w.sites h x all.sites (hosts_of_sites t w all) here in
      let runs = (subst (NodeKeeps x.host (x.host ∷ []) t x.memory) e known.0).runs in
      let work : Work = host_work x r comes f in
      let frames : List Entry = frames_noted Host h (wires_for (exchanged x.link) comes) work in
      let begun : List Entry = entries_for x.host (arrival Host (exchanged x.link) comes) in
      let fine : GoesOn_or_lost x.host (x.host ∷ []) x.memory t work =
      step x r here e known.1 runs.on t (work_of r x.memory.plan (λ k. near_end_in (exchanged x.link) comes) begun) refl
      (runs_begun x.host (x.host ∷ []) t x.memory r (λ k. near_end_in (exchanged x.link) comes) begun
      (plain_entries x.host (arrival Host (exchanged x.link) comes)) runs) in
      let done = step_keeps x.host (x.host ∷ []) t x.memory work frames fine (plain_frames Host h (wires_for (exchanged x.link) comes) work) in
      host_goes t w (work.entries ++ frames) h x (after_host comes work) all here done.0 done.1
      (subst (λ n. AllByRecursion (IsOf n) (work.entries ++ frames)) known.2 done.2) (λ s. refl))

-- ## What all nodes keep over what happens to the world

pub no_order : (command order : Option (List ℕ)) (init : Option Init) → is_some command ≡ false → IsOnOrder command init → IsOnOrder order init
no_order command order init off on = grind arith

-- ends count one more error
pub error_hosts : (h : ℕ) (desks : List Desk) → map (λ (d : Desk). d.host) (with_error h desks) ≡ map (λ (d : Desk). d.host) desks
error_hosts h [] = refl
error_hosts h (d ∷ desks) = ap₂ (λ x l. x ∷ l) (by_test (eqb d.host h) (λ q. rw q refl) (λ q. rw q refl)) (error_hosts h desks)

more_errors : ℕ → Desk → Desk
more_errors h d = changed_if (eqb d.host h) (λ (d : Desk). record d { errors = min 65535 (d.errors + 1) }) d

more_host : (h : ℕ) (d : Desk) → (more_errors h d).host ≡ d.host
unfolding more_errors
more_host h d = by_test (eqb d.host h) (λ q. rw q refl) (λ q. rw q refl)

more_notice : (h : ℕ) (d : Desk) → (more_errors h d).notice ≡ d.notice
unfolding more_errors
more_notice h d = by_test (eqb d.host h) (λ q. rw q refl) (λ q. rw q refl)

more_all : (h : ℕ) (desks : List Desk) → with_error h desks ≡ map (more_errors h) desks
unfolding more_errors
more_all h desks = refl

error_new : (near_ends : ℕ → NumberedEnd) (h : ℕ) (desks : List Desk)
    → NoneNew (map (λ (d : Desk). port_for (near_ends d.host) d) desks) (map (λ (d : Desk). port_for (near_ends d.host) d) (with_error h desks))
error_new near_ends h desks x q c here asked =
    let at = ap (λ l. port_at l x) (sym (ap (map (λ (d : Desk). port_for (near_ends d.host) d)) (more_all h desks) ∙ map_two (λ (d : Desk). port_for
    (near_ends d.host) d) (more_errors h) desks)) ∙ here in
    let r = map_found (λ (d : Desk). d.host) (λ d. port_for (near_ends (more_errors h d).host) (more_errors h d)) (more_host h) (λ d. port_for
    (near_ends d.host) d) (λ d. refl) desks x q at in
    (port_for (near_ends r.0.host) r.0, r.1, ap creation_in (sym (more_notice h r.0)) ∙ (sym (ap asked_at r.2) ∙ asked))

runs_counting : (n : ℕ) (hosts content : List ℕ) (t : List Entry) (why : Loss) (h : ℕ) (o : Option Running) → IfRuns n hosts content t o
    → IfRuns n hosts content t (counts why h o)
runs_counting n hosts content t (Broken fault) h None r = tt
runs_counting n hosts content t (Broken fault) h (Some x) r = record {
  number = r.number;
  hosts_are = error_hosts h x.desks ∙ r.hosts_are;
  knows = r.knows;
  sorted = r.sorted;
  recordable = r.recordable;
  tables_are = r.tables_are;
  count_is = r.count_is;
  on = r.on;
  waits = errors_all (λ (d : Desk). WaitsFor d.notice) (λ d n b. b) h x.desks r.waits;
  allowed =
      λ z near_ends. may_still x.core.tables (map (λ (d : Desk). port_for (near_ends d.host) d) x.desks) (map (λ (d : Desk). port_for (near_ends d.host) d)
      (with_error h x.desks))
      (error_new near_ends h x.desks) (r.allowed z near_ends);
}
runs_counting n hosts content t _ h o r = r

keeps_counting : (n : ℕ) (hosts : List ℕ) (t : List Entry) (m : Memory) (why : Loss) (h : ℕ) (o : Option Running) → NodeKeeps n hosts t m o
    → NodeKeeps n hosts t m (counts why h o)
keeps_counting n hosts t m why h o k = record { would = k.would; runs = runs_counting n hosts m.content t why h o k.runs }

-- a step in which the power goes
abbrev cut_here : LinkEvent
cut_here = AtController (Step NoInput [] CutOff)

pub loses_is : (w : NodeWorld) (n : ℕ) → eqb n 0 ≡ false → loses_power_at n w ≡ record w { sites = with_site n host_cut w.sites }
loses_is w n off = rw off refl

module _ (hosts : List ℕ) (are : AreHosts hosts) where
  abbrev pub GoesBy : List Entry → NodeWorld × List Entry → Type 0
  GoesBy t p = Goes hosts are t p.0 p.1

  -- what is noted is plain, and nobody's memory changes
  pub plain_goes : (t : List Entry) (w v : NodeWorld) (es : List Entry) (g : Site → Site) → AllKeep hosts t w → AllByRecursion IsPlain es
      → v.sites ≡ map g w.sites → NodeKeeps 0 hosts t v.memory v.controller → ((s : Site) → (g s).host ≡ s.host)
      → ((s : Site) → SiteKeeps t s → SiteKeeps t (g s)) → Goes hosts are t v es
  plain_goes t w v es g all plain sites near host site = record {
    keep = record {
      controller = keeps_same 0 hosts t (t ++ es) v.memory v.controller (plain_same 0 t es plain) near;
      hosts_are = ap hosts_in sites ∙ hosts_same g host w.sites ∙ all.hosts_are;
      sites = subst (AllByRecursion (SiteKeeps (t ++ es))) (sym sites)
          (map_sites t (t ++ es) IsHost g
          (λ s is k. let x = site s k in keeps_same (g s).host ((g s).host ∷ []) t (t ++ es) (g s).memory (g s).node (plain_same (g s).host t es plain) x)
          w.sites (subst (AllByRecursion IsHost) (sym all.hosts_are) are.all) all.sites);
      strangers = λ n strange. (plain_same n t es plain).book ∙ all.strangers n strange;
    };
    told = plain_told t es plain;
  }

  -- ### Steps

  pub comes_goes : (t : List Entry) (w : NodeWorld) (e : End) (comes : Comes) → AllKeep hosts t w → GoesBy t (comes_at w e comes)
  comes_goes t w e comes all =
      by_coming (GoesBy t) w e comes (goes_not hosts are t w all)
      (λ i side q.
      host_steps hosts are t w e.link comes (steps (AtEnd e.link i)) all
      (λ x r here running host on before work same k.
      steps_fine x.host (x.host ∷ []) x.memory before (inr host) (record { all = (host, tt); different = (tt, tt) }) (AtEnd e.link i) work k
      (subst (λ (c : Core). IsOnOrder c.command c.init) (sym same) on)))
      (λ i side q.
      controller_steps hosts are t w e.link comes (steps (AtEnd e.link i)) all
      (λ old before work k on. steps_fine 0 hosts old before (inl refl) are (AtEnd e.link i) work k on))

  pub activates_goes : (t : List Entry) (w : NodeWorld) (h sync power : ℕ) → AllKeep hosts t w → GoesBy t (activates w h sync power)
  activates_goes t w h sync power all =
      let near = comes_goes t w (end_c h) (Starts power) all in
      let first : NodeWorld × List Entry = comes_at w (end_c h) (Starts power) in
      let far = comes_goes (t ++ first.1) first.0 (end_h h) (Starts sync) near.keep in
      goes_then hosts are t (comes_at first.0 (end_h h) (Starts sync)).0 first.1 (comes_at first.0 (end_h h) (Starts sync)).1 near.told far

  -- a host that has no unanswered command sends one
  pub gives_goes : (t : List Entry) (w : NodeWorld) (h : ℕ) (m : Message) → AllKeep hosts t w
      → ((x : Site) (r : Running) → site_at w.sites h ≡ Some x → x.node ≡ Some r → (eqb m.0 1 && is_command_message m.1) ≡ true
      → is_some r.core.command ≡ false)
      → GoesBy t (host_does w h NoInput (begins_with h (sending h m)))
  gives_goes t w h m all free =
      host_steps hosts are t w h NoInput (begins_with h (sending h m)) all
      (λ x r here running host on before work same k.
      let on_now : IsOnOrder work.core.command work.core.init = subst (λ (c : Core). IsOnOrder c.command c.init) (sym same) on in
      all_fine x.host (x.host ∷ []) x.memory before h (sending h m) work (Some work.core.journal) k refl
      (cond_both (eqb m.0 1 && is_command_message m.1) (Orders m.1 ∷ []) (Sends h m ∷ []) (MayBeDone (Some work.core.journal) work.core.command work.core.init)
      (λ is. no_order work.core.command (Some m.1) work.core.init (ap (λ (c : Core). is_some c.command) same ∙ free x r here running is) on_now) (λ _. on_now))
      work.ports (same_new work.ports)
      (λ z. grind arith))

  pub inits_goes : (t : List Entry) (w : NodeWorld) (h : ℕ) (identity : List ℕ) (pipes : List (List ℕ)) → AllKeep hosts t w
      → GoesBy t (host_does w h NoInput (begins_with h (beginning identity pipes)))
  inits_goes t w h identity pipes all =
      host_steps hosts are t w h NoInput (begins_with h (beginning identity pipes)) all
      (λ x r here running host on before work same k.
      all_fine x.host (x.host ∷ []) x.memory before h (beginning identity pipes) work (Some work.core.journal) k refl refl work.ports
      (same_new work.ports) (λ z. (tt, (tt, tt))))

  -- ### Losses

  pub lost_goes : (t : List Entry) (w : NodeWorld) (e : End) (why : Loss) → AllKeep hosts t w → GoesBy t (frame_lost w e why)
  lost_goes t w e why all =
      by_loss (GoesBy t) w e why
      (λ side. plain_goes t w (record w { sites = with_site e.link far w.sites }) (entries_for e.link (first_lost Host why l.to_host))
      (λ s. changed_if (eqb s.host e.link) far s) all
      (plain_entries e.link (first_lost Host why l.to_host)) refl all.controller (λ s. change far (λ x. refl) (eqb s.host e.link) s)
      (λ s k. stays far (λ x y. keeps_counting x.host (x.host ∷ []) t x.memory why e.link x.node y) (eqb s.host e.link) s k))
      (λ side. plain_goes t w (record w { controller = counts why e.link w.controller; sites = with_site e.link (site_lost e why) w.sites })
      (entries_for e.link (first_lost Controller why l.to_controller)) (λ s. changed_if (eqb s.host e.link) (site_lost e why) s) all
      (plain_entries e.link (first_lost Controller why l.to_controller)) refl (keeps_counting 0 hosts t w.memory why e.link w.controller all.controller)
      (λ s. change (site_lost e why) (λ x. refl) (eqb s.host e.link) s) (λ s k. stays (site_lost e why) (λ x y. y) (eqb s.host e.link) s k)) where
        l : Link
        l = link_to w.sites e.link

        far : Site → Site
        far s = record (site_lost e why s) { node = counts why e.link s.node }

        change : (f : Site → Site) → ((s : Site) → (f s).host ≡ s.host) → (b : Bool) (s : Site) → (changed_if b f s).host ≡ s.host
        change f same b s = grind arith

        stays : (f : Site → Site) → ((s : Site) → SiteKeeps t s → SiteKeeps t (f s)) → (b : Bool) (s : Site) → SiteKeeps t s → SiteKeeps t (changed_if b f s)
        stays f keeps true s k = keeps s k
        stays f keeps false s k = k

  -- ### Power

  -- the power of a node that runs is cut
  near_cut : (t : List Entry) (w : NodeWorld) (r : Running) → AllKeep hosts t w → w.controller ≡ Some r → Goes hosts are t (controller_cut w) (entry.Cut 0 ∷ [])
  near_cut t w r all e =
      controller_goes hosts are t w (entry.Cut 0 ∷ []) w.memory None (λ (s : Site). record s { link = happens s.link cut_here }) all
      (cut_keeps 0 hosts t w.memory r (subst (IfRuns 0 hosts w.memory.content t) e all.controller.runs)) (tt, tt) (refl, tt) (λ s. refl) (λ s k. k)

  far_cut : (t : List Entry) (w : NodeWorld) (n : ℕ) (x : Site) (r : Running) → AllKeep hosts t w → site_at w.sites n ≡ Some x → x.node ≡ Some r
      → Goes hosts are t (record w { sites = with_site n host_cut w.sites }) (entry.Cut n ∷ [])
  far_cut t w n x r all here running =
      let known = site_found (SiteKeeps t) IsHost w.sites n x all.sites (subst (AllByRecursion IsHost) (sym all.hosts_are) are.all) here in
      host_goes hosts are t w (entry.Cut n ∷ []) n x host_cut all here
      (subst (λ k. NodeKeeps x.host (x.host ∷ []) (t ++ entry.Cut k ∷ []) x.memory None) known.2
      (cut_keeps x.host (x.host ∷ []) t x.memory r (subst (IfRuns x.host (x.host ∷ []) x.memory.content t) running known.0.runs)))
      (tt, tt) (refl, tt) (λ s. refl)

  -- a node is the controller, a host, or neither
  by_node : (w : NodeWorld) (n : ℕ) (P : Type 0) → (n ≡ 0 → P) → ((x : Site) → (eqb n 0 ≡ false) → site_at w.sites n ≡ Some x → P) → ((eqb n 0 ≡ false)
      → site_at w.sites n ≡ None → P) → P
  by_node w n P near far none = grind arith

  pub cut_goes : (t : List Entry) (w : NodeWorld) (n : ℕ) (r : Running) → AllKeep hosts t w → node_at w n ≡ Some r
      → GoesBy t (loses_power_at n w, entry.Cut n ∷ [])
  cut_goes t w n r all running =
      by_node w n (GoesBy t (loses_power_at n w, entry.Cut n ∷ []))
      (λ is. subst (λ k. GoesBy t (loses_power_at k w, entry.Cut k ∷ [])) (sym is) (near_cut t w r all (subst (λ k. node_at w k ≡ Some r) is running)))
      (λ x off here. rw off (far_cut t w n x r all here (node_there x off here running)))
      (λ off here. absurd (grind arith))
    where
      node_there : (x : Site) → eqb n 0 ≡ false → site_at w.sites n ≡ Some x → node_at w n ≡ Some r → x.node ≡ Some r
      node_there x off here is = rw here at (rw off at is)

  -- ### Memories and boots

  with_none : (n : ℕ) (f : Site → Site) (sites : List Site) → AllByRecursion (λ k. eqb k n ≡ false) (hosts_in sites) → with_site n f sites ≡ sites
  with_none n f [] all = refl
  with_none n f (s ∷ sites) all = ap₂ (λ x l. x ∷ l) (ap (λ b. changed_if b f s) all.0) (with_none n f sites all.1)

  map_same : (sites : List Site) → map (λ (s : Site). s) sites ≡ sites
  map_same [] = refl
  map_same (s ∷ sites) = ap (λ l. s ∷ l) (map_same sites)

  near_goes : (t : List Entry) (w : NodeWorld) (es : List Entry) (m : Memory) (node : Option Running) → AllKeep hosts t w → NodeKeeps 0 hosts (t ++ es) m node
      → AreToldBehind t es → AllByRecursion (IsOf 0) es → Goes hosts are t (record w { memory = m; controller = node }) es
  near_goes t w es m node all keeps told own =
      subst (λ l. Goes hosts are t (record { memory = m; controller = node; sites = l }) es) (map_same w.sites)
      (controller_goes hosts are t w es m node (λ s. s) all keeps told own (λ s. refl) (λ s k. k))

  armed : (n : ℕ) (links : List ℕ) (t : List Entry) (m : Memory) (plan : Plan) (node : Option Running) → NodeKeeps n links t m node
      → NodeKeeps n links t (record m { plan = Some plan }) node
  armed n links t m plan node k = record { would = k.would; runs = k.runs }

  pub arms_goes : (t : List Entry) (w : NodeWorld) (n : ℕ) (plan : Plan) → AllKeep hosts t w
      → GoesBy t (with_memory n (record (memory_at w n) { plan = Some plan }) w, [])
  arms_goes t w n plan all =
      by_node w n (GoesBy t (with_memory n (record (memory_at w n) { plan = Some plan }) w, []))
      (λ is. subst (λ k. GoesBy t (with_memory k (record (memory_at w k) { plan = Some plan }) w, [])) (sym is)
      (near_goes t w [] (record w.memory { plan = Some plan }) w.controller all
      (subst (λ l. NodeKeeps 0 hosts l (record w.memory { plan = Some plan }) w.controller) (sym (append-nil t))
      (armed 0 hosts t w.memory plan w.controller all.controller)) tt tt))
      (λ x off here.
      let known = site_found (SiteKeeps t) IsHost w.sites n x all.sites (subst (AllByRecursion IsHost) (sym all.hosts_are) are.all) here in
      rw off (rw here (host_goes hosts are t w [] n x (λ (s : Site). record s { memory = record x.memory { plan = Some plan } }) all here
      (subst (λ l. NodeKeeps x.host (x.host ∷ []) l (record x.memory { plan = Some plan }) x.node) (sym (append-nil t)) (grind arith))
      tt tt (λ s. refl))))
      (λ off here.
      rw off (subst (λ l. Goes hosts are t (record w { sites = l }) []) (sym (with_none n (λ (s : Site). record s {
        memory = record (option_map_or (λ
            (y : Site). y.memory) (site_at w.sites n) (new_memory [])) { plan = Some plan };
      }) w.sites (none_found w.sites n here)))
      (goes_not hosts are t w all)))

  module _ (t : List Entry) (w : NodeWorld) (all : AllKeep hosts t w) where
    near_boots : length (commands_in t 0) ≤ 2 ^ 32 - 1 → GoesBy t (boots w 0)
    near_boots few = by_test (fails_within (length (boot_writes w.memory.content)) w.memory.plan)
        (λ fails. rw fails (controller_goes hosts are t w (entry.Cut 0 ∷ []) (after_planned (boot_writes w.memory.content) w.memory) None (λ
        (s : Site). record s { link = happens s.link cut_here }) all
        (boot_lost 0 hosts t w.memory all.controller.would fails) (tt, tt) (refl, tt) (λ s. refl) (λ s x. x)))
        (λ none. rw none (near_goes t w (entry.Booted 0 k ∷ []) (after_planned (boot_writes w.memory.content) w.memory) (Some (found 0
        (hosts_in w.sites) w.memory.content)) all
        (subst (λ l. NodeKeeps 0 hosts (t ++ entry.Booted 0 k ∷ []) (after_planned (boot_writes w.memory.content) w.memory) (Some
        (found 0 l w.memory.content))) (sym all.hosts_are)
        (boot_runs 0 hosts t w.memory all.controller.would few none))
        (boot_told 0 hosts t w.memory all.controller.would few, tt) (refl, tt))) where
          k : ℕ
          k = count_of (found 0 (hosts_in w.sites) w.memory.content).core.journal

    module _ (n : ℕ) (x : Site) (off : eqb n 0 ≡ false) (here : site_at w.sites n ≡ Some x) where
      abbrev after_it : Memory
      after_it = after_planned (boot_writes x.memory.content) x.memory

      abbrev found_it : Running
      found_it = found n (n ∷ []) x.memory.content

      far_boots : length (commands_in t n) ≤ 2 ^ 32 - 1 → GoesBy t (boots w n)
      far_boots few = by_test (fails_within (length (boot_writes x.memory.content)) x.memory.plan)
          (λ fails. rw off (rw here (rw fails (rw off (rw here
          (subst (λ l. Goes hosts are t (record w { sites = l }) (entry.Cut n ∷ [])) (sym (with_site_twice n (λ
          (s : Site). record s { memory = after_it }) host_cut (λ s. refl) w.sites))
          (host_goes hosts are t w (entry.Cut n ∷ []) n x (λ (s : Site). host_cut (record s { memory = after_it })) all here
          (subst (λ k. NodeKeeps k (k ∷ []) (t ++ entry.Cut n ∷ []) after_it None) (sym known.2) (boot_lost n (n ∷ []) t x.memory keeps.would fails))
          (tt, tt) (refl, tt) (λ s. refl))))))))
          (λ none. rw off (rw here (rw none (rw off (rw here
          (subst (λ l. Goes hosts are t (record w { sites = l }) (entry.Booted n (count_of found_it.core.journal) ∷ []))
          (sym (with_site_twice n (λ (s : Site). record s { memory = after_it }) (λ (s : Site). record s { node = Some found_it }) (λ s. refl) w.sites))
          (host_goes hosts are t w (entry.Booted n (count_of found_it.core.journal) ∷ []) n x (λ
          (s : Site). record s { memory = after_it; node = Some found_it }) all here
          (subst (λ k. NodeKeeps k (k ∷ []) (t ++ entry.Booted n (count_of found_it.core.journal) ∷ []) after_it (Some found_it)) (sym known.2)
          (boot_runs n (n ∷ []) t x.memory keeps.would few none))
          (boot_told n (n ∷ []) t x.memory keeps.would few, tt) (refl, tt) (λ s. refl)))))))) where
            known : SiteKeeps t x × IsHost x.host × (x.host ≡ n)
            known = site_found (SiteKeeps t) IsHost w.sites n x all.sites (subst (AllByRecursion IsHost) (sym all.hosts_are) are.all) here

            keeps : NodeKeeps n (n ∷ []) t x.memory x.node
            keeps = subst (λ k. NodeKeeps k (k ∷ []) t x.memory x.node) known.2 known.0

    no_boots : (n : ℕ) → eqb n 0 ≡ false → site_at w.sites n ≡ None → GoesBy t (boots w n)
    no_boots n off here =
        rw off (rw here (rw off (rw here
        (subst (λ l. Goes hosts are t (record w { sites = with_site n (λ (s : Site). record s { node = Some (found n (n ∷ []) []) }) l })
        (entry.Booted n 0 ∷ []))
        (sym (with_none n (λ (s : Site). record s { memory = after_planned (boot_writes []) (new_memory []) }) w.sites strange))
        (subst (λ l. Goes hosts are t (record w { sites = l }) (entry.Booted n 0 ∷ []))
        (sym (with_none n (λ (s : Site). record s { node = Some (found n (n ∷ []) []) }) w.sites strange))
        (record { keep = keep; told = (inl (ap (λ (b : Book). length b.commands) (sym blank)), tt) })))))) where
          strange : AllByRecursion (λ k. eqb k n ≡ false) (hosts_in w.sites)
          strange = none_found w.sites n here

          blank : book_in t n ≡ new_book
          blank = all.strangers n (off, subst (AllByRecursion (λ k. eqb k n ≡ false)) all.hosts_are strange)

          same : (k : ℕ) → (n ≡ k → ⊥) → IsSame k t (t ++ entry.Booted n 0 ∷ [])
          same k other = other_same n k t (entry.Booted n 0 ∷ []) other (refl, tt)

          own : book_in (t ++ entry.Booted n 0 ∷ []) n ≡ new_book
          own = book_more t (entry.Booted n 0 ∷ []) n ∙ ap (λ b. cond b (with_found 0 (book_in t n)) (book_in t n))
              (Rattle.std.proofs.lemmas.Bool.eq-eqb n n refl) ∙ ap (with_found 0) blank

          keep : AllKeep hosts (t ++ entry.Booted n 0 ∷ []) w
          keep = record {
            controller = keeps_same 0 hosts t (t ++ entry.Booted n 0 ∷ []) w.memory w.controller (same 0 (λ is. eqb-false n 0 off is)) all.controller;
            hosts_are = all.hosts_are;
            sites = subst (AllByRecursion (SiteKeeps (t ++ entry.Booted n 0 ∷ []))) (map_same w.sites)
                (map_sites t (t ++ entry.Booted n 0 ∷ []) (λ k. eqb k n ≡ false) (λ s. s)
                (λ s other k. keeps_same s.host (s.host ∷ []) t (t ++ entry.Booted n 0 ∷ []) s.memory s.node (same s.host (λ is. eqb-false s.host n other
                (sym is))) k) w.sites strange all.sites);
            strangers = λ k strange_k. by_number k strange_k (cases_Bool (eqb n k));
          } where
            by_number : (k : ℕ) → IsStranger hosts k → (eqb n k ≡ true) ⊎ (eqb n k ≡ false) → book_in (t ++ entry.Booted n 0 ∷ []) k ≡ new_book
            by_number k s (inl is) = ap (λ j. book_in (t ++ entry.Booted n 0 ∷ []) j) (sym (eqb-true n k is)) ∙ own
            by_number k s (inr other) = (same k (λ is. eqb-false n k other is)).book ∙ all.strangers k s

    pub boots_goes : (n : ℕ) → length (commands_in t n) ≤ 2 ^ 32 - 1 → GoesBy t (boots w n)
    boots_goes n few =
        by_node w n (GoesBy t (boots w n))
        (λ is. subst (λ k. GoesBy t (boots w k)) (sym is) (near_boots (subst (λ k. length (commands_in t k) ≤ 2 ^ 32 - 1) is few)))
        (λ x off here. far_boots n x off here few)
        (λ off here. no_boots n off here)
