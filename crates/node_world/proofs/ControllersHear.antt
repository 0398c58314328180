-- What is known of the controller by what is kept of it, and what comes to its ends.
use Rattle.node_world.proofs.Words.{AllByRecursion, AreDifferent, AreTimely, AtController, Clf, Comes, Core, CutOff, Desk, EndsBoot, Entry, HaveRoom, HostSite}
use Rattle.node_world.proofs.Words.{IsNodePlace, IsThere, Link, LinkEnd, List, MayGoOn, Memory, NoInput, Node, NodeWorld, None, NumberedEnd, Off, On, Option}
use Rattle.node_world.proofs.Words.{Port, Power, Running, RunsAs, Site, SiteIs, SitesAre, Some, StandsAt, Step, Wires, WiresStandFor, WorldBecomes, []}
use Rattle.node_world.proofs.Words.{after_planned, ap, ap₂, arith, as_it_comes, as_it_comes_to, between, boot_writes, boots, changed_if, comes_at, comes_to}
use Rattle.node_world.proofs.Words.{count_of, end_c, fails_within, false, found, get_or, happens, happens_at_controller, hosts_in, input_of, kept_alike}
use Rattle.node_world.proofs.Words.{kept_is, length, link_is, link_to, map, memory_kept, new_clf, new_desk, new_link_end, new_port, next_frame, port_for, refl}
use Rattle.node_world.proofs.Words.{same_number, site_at, slice_set, subst, sym, true, with_bare_link, with_site, ℕ, ◌++◌, ◌==◌, ◌∙◌, ◌∷◌, ◌≡◌}
use Rattle.node_machine.specs.world.World.{controller_cut}
use Rattle.swp_base.specs.declared.link_terms.Role.TheVariants as named
use Rattle.trace_model.specs.declared.entry.Entry.TheVariants as note
use Rattle.node_world.proofs.EndsGo.{each_found, goes_on, cut_same, same_stand, ended_far}
use Rattle.node_world.proofs.SitesKept.{of_these, others_before, read_there, written_there}

-- ## Its place

-- the controller runs
pub record PlaceIsOn (m : Memory) (node : Option Running) (near : ℕ → NumberedEnd) (n : Node Memory) : Type 0 where
  pub running : Running
  pub runs : node ≡ Some running
  pub place : IsNodePlace (On n) m (Some running) near

pub place_is_on : (k : Power) (m : Memory) (node : Option Running) (near : ℕ → NumberedEnd) (n : Node Memory) → k ≡ On n
    → IsNodePlace k m node near → PlaceIsOn m node near n
place_is_on k m node near n q place = go node refl (rw q at place)
  where
    go : (o : Option Running) → node ≡ o → IsNodePlace (On n) m o near → PlaceIsOn m node near n
    go (Some r) runs p = record { running = r; runs = runs; place = p }
    go None runs p = absurd p

-- or it doesn't
pub place_is_off : (k : Power) (m : Memory) (node : Option Running) (near : ℕ → NumberedEnd) → ((n : Node Memory) → k ≡ On n → ⊥)
    → IsNodePlace k m node near → node ≡ None
place_is_off k m node near q place = grind arith

-- where it doesn't run, nothing comes
pub comes_off : (w : NodeWorld) (h : ℕ) (comes : Comes) → w.controller ≡ None → comes_at w (end_c h) comes ≡ (w, [])
comes_off w h comes off = grind arith

pub comes_none : (w : NodeWorld) (h : ℕ) (comes : Comes) → input_of (link_to w.sites h) comes ≡ None → comes_at w (end_c h) comes ≡ (w, [])
comes_none w h comes none = rw none refl

-- ## The host of an end

-- the host that stands at the place of a number is the one that is found by it
pub found_there : (i h : ℕ) (sites : List Site) (s : Site) (p : StandsAt i h sites) → AreDifferent (hosts_in sites) → site_at sites h ≡ Some s → p.site ≡ s
found_there i h sites s p different found =
    let P : List Site → Type 0 = λ xs. AllByRecursion (λ (x : Site). site_at sites x.host ≡ Some x) xs in
    let own : site_at sites p.site.host ≡ Some p.site =
    of_these (λ (x : Site). site_at sites x.host ≡ Some x) p.front p.site p.back (subst P p.is (each_found (λ (x : Site). x.host) sites different)) in
    cc

pub hosts_as_it_comes : (h : ℕ) (comes : Comes) (sites : List Site) → hosts_in (as_it_comes_to h comes sites) ≡ hosts_in sites
hosts_as_it_comes h comes [] = refl
hosts_as_it_comes h comes (s ∷ sites) = ap (λ hs. s.host ∷ hs) (hosts_as_it_comes h comes sites)

-- what comes to another end leaves a link
others_left : (h : ℕ) (comes : Comes) (sites : List Site) → AllByRecursion (λ k. (k == h) ≡ false) (hosts_in sites) → as_it_comes_to h comes sites ≡ sites
others_left h comes [] a = refl
others_left h comes (s ∷ sites) a = ap₂ (λ (l : Link) xs. record s { link = l } ∷ xs) (rw a.0 refl) (others_left h comes sites a.1)

map-parts : (f : Site → Site) (front : List Site) (s : Site) (back : List Site) → map f (front ++ s ∷ back) ≡ map f front ++ f s ∷ map f back
map-parts f [] s back = refl
map-parts f (x ∷ front) s back = ap (λ xs. f x ∷ xs) (map-parts f front s back)

others_behind : (front : List ℕ) (h : ℕ) (back : List ℕ) → AreDifferent (front ++ h ∷ back) → AllByRecursion (λ k. (k == h) ≡ false) back
others_behind [] h back d = d.0
others_behind (x ∷ front) h back d = others_behind front h back d.1

pub hosts-parts : (front : List Site) (s : Site) (back : List Site) → hosts_in (front ++ s ∷ back) ≡ hosts_in front ++ s.host ∷ hosts_in back
hosts-parts [] s back = refl
hosts-parts (x ∷ front) s back = ap (λ hs. x.host ∷ hs) (hosts-parts front s back)

others_kept : (h : ℕ) (f : Site → Site) (sites : List Site) → AllByRecursion (λ k. (k == h) ≡ false) (hosts_in sites) → with_site h f sites ≡ sites
others_kept h f [] a = refl
others_kept h f (s ∷ sites) a = ap₂ (λ (x : Site) xs. x ∷ xs) (rw a.0 refl) (others_kept h f sites a.1)

-- what is kept of the host to whose link something comes
pub comes_there : (i h : ℕ) (comes : Comes) (ks : List HostSite) (sites : List Site) (s : Site) (new : HostSite) (p : StandsAt i h sites)
    → AreDifferent (hosts_in sites) → p.site ≡ s → SitesAre ks sites → SiteIs new (record s { link = as_it_comes s.link comes })
    → SitesAre (slice_set ks i new) (as_it_comes_to h comes sites)
comes_there i h comes ks sites s new p different is a now =
    let f : Site → Site = λ x. record x { link = as_it_comes x.link (comes_to h comes x.host) } in
    let host : s.host ≡ h = ap (λ (x : Site). x.host) (sym is) ∙ p.host in
    let parts : sites ≡ p.front ++ s ∷ p.back = p.is ∙ ap (λ x. p.front ++ x ∷ p.back) is in
    let names : AreDifferent (hosts_in p.front ++ h ∷ hosts_in p.back) =
    subst AreDifferent (ap hosts_in parts ∙ (hosts-parts p.front s p.back ∙ ap (λ n. hosts_in p.front ++ n ∷ hosts_in p.back) host)) different in
    let front : as_it_comes_to h comes p.front ≡ p.front = others_left h comes p.front (others_before (hosts_in p.front) h (hosts_in p.back) names) in
    let back : as_it_comes_to h comes p.back ≡ p.back = others_left h comes p.back (others_behind (hosts_in p.front) h (hosts_in p.back) names) in
    let one : f s ≡ record s { link = as_it_comes s.link comes } = rw (ap (λ n. n == h) host ∙ same_number h) refl in
    let all : as_it_comes_to h comes sites ≡ p.front ++ record s { link = as_it_comes s.link comes } ∷ p.back =
    ap (as_it_comes_to h comes) parts ∙ (map-parts f p.front s p.back ∙ (ap (λ xs. xs ++ f s ∷ map f p.back) front
    ∙ (ap (λ x. p.front ++ x ∷ map f p.back) one ∙ ap (λ xs. p.front ++ record s { link = as_it_comes s.link comes } ∷ xs) back))) in
    rw all (written_there ks p.front s (record s { link = as_it_comes s.link comes }) p.back i new p.place (subst (SitesAre ks) parts a) now)

-- what is kept of the one that is changed
pub changed_there : (i h : ℕ) (f : Site → Site) (ks : List HostSite) (sites : List Site) (s : Site) (new : HostSite) (p : StandsAt i h sites)
    → AreDifferent (hosts_in sites) → p.site ≡ s → SitesAre ks sites → SiteIs new (f s) → SitesAre (slice_set ks i new) (with_site h f sites)
changed_there i h f ks sites s new p different is a now =
    let g : Site → Site = λ (x : Site). changed_if (x.host == h) f x in
    let host : s.host ≡ h = ap (λ (x : Site). x.host) (sym is) ∙ p.host in
    let parts : sites ≡ p.front ++ s ∷ p.back = p.is ∙ ap (λ x. p.front ++ x ∷ p.back) is in
    let names : AreDifferent (hosts_in p.front ++ h ∷ hosts_in p.back) =
    subst AreDifferent (ap hosts_in parts ∙ (hosts-parts p.front s p.back ∙ ap (λ n. hosts_in p.front ++ n ∷ hosts_in p.back) host)) different in
    let front : with_site h f p.front ≡ p.front = others_kept h f p.front (others_before (hosts_in p.front) h (hosts_in p.back) names) in
    let back : with_site h f p.back ≡ p.back = others_kept h f p.back (others_behind (hosts_in p.front) h (hosts_in p.back) names) in
    let all : with_site h f sites ≡ p.front ++ f s ∷ p.back =
    ap (with_site h f) parts ∙ (map-parts g p.front s p.back ∙ (ap (λ xs. xs ++ g s ∷ map g p.back) front
    ∙ (ap (λ x. p.front ++ x ∷ map g p.back) (rw (ap (λ n. n == h) host ∙ same_number h) refl) ∙ ap (λ xs. p.front ++ f s ∷ xs) back))) in
    rw all (written_there ks p.front s (f s) p.back i new p.place (subst (SitesAre ks) parts a) now)

-- what is kept of it while nothing comes
pub stays_there : (i h : ℕ) (ks : List HostSite) (sites : List Site) (s : Site) (new : HostSite) (p : StandsAt i h sites) → p.site ≡ s
    → SitesAre ks sites → SiteIs new s → SitesAre (slice_set ks i new) sites
stays_there i h ks sites s new p is a now =
    let parts : sites ≡ p.front ++ s ∷ p.back = p.is ∙ ap (λ x. p.front ++ x ∷ p.back) is in
    rw parts (written_there ks p.front s s p.back i new p.place (subst (SitesAre ks) parts a) now)

-- what is kept of the host at a place
pub site_read : (i h : ℕ) (ks : List HostSite) (sites : List Site) (s : Site) (k : HostSite) (p : StandsAt i h sites) → p.site ≡ s
    → SitesAre ks sites → k ≡ get_or ks i k → SiteIs k s
site_read i h ks sites s k p is a read = subst (SiteIs k) is (read_there ks p.front p.site p.back i k p.place (subst (SitesAre ks) p.is a) read)

-- what comes leaves the far end of a link
pub come_far : (l : Link) (comes : Comes) → (as_it_comes l comes).host ≡ l.host
come_far l comes = grind arith

-- it has these wires now
pub site_with : (k : HostSite) (wires : Wires) (s : Site) (l : Link) → l.host ≡ s.link.host → WiresStandFor wires l → SiteIs k s
    → SiteIs (record k { wires = wires }) (record s { link = l })
site_with k wires s l same w a = record { host = a.host; wires = w; place = rw (← same) at a.place }

-- where all links have as many RSETs, there is as much room
pub room_kept : (ks news : List HostSite) (sites after : List Site) → SitesAre ks sites → SitesAre news after
    → map (λ (s : Site). s.link.resets) after ≡ map (λ (s : Site). s.link.resets) sites → HaveRoom ks → HaveRoom news
room_kept [] [] [] [] a b q r = tt
room_kept (k ∷ ks) (n ∷ news) (s ∷ sites) (t ∷ after) a b q r =
    let one : t.link.resets ≡ s.link.resets = cc in
    let rest : map (λ (s : Site). s.link.resets) after ≡ map (λ (s : Site). s.link.resets) sites = cc in
    (rw (a.0.wires.count ∙ (sym one ∙ sym b.0.wires.count)) at r.0, room_kept ks news sites after a.1 b.1 rest r.1)
room_kept ks (n ∷ news) sites [] a b q r = absurd b
room_kept ks [] sites (t ∷ after) a b q r = absurd b
room_kept (k ∷ ks) news [] after a b q r = absurd a
room_kept [] news (s ∷ sites) after a b q r = absurd a
room_kept [] (n ∷ news) [] (t ∷ after) a b q r = absurd (cc q)
room_kept (k ∷ ks) [] (s ∷ sites) [] a b q r = absurd (cc q)

pub come_resets : (l : Link) (comes : Comes) → (as_it_comes l comes).resets ≡ l.resets
come_resets l comes = grind arith

pub resets_as_it_comes : (h : ℕ) (comes : Comes) (sites : List Site)
    → map (λ (s : Site). s.link.resets) (as_it_comes_to h comes sites) ≡ map (λ (s : Site). s.link.resets) sites
resets_as_it_comes h comes [] = refl
resets_as_it_comes h comes (s ∷ sites) = ap₂ (λ n ns. n ∷ ns) (come_resets s.link (comes_to h comes s.host)) (resets_as_it_comes h comes sites)

-- ## Where it comes

-- the host at this place, to whose link something comes
module _ (w : NodeWorld) (h : ℕ) (may : MayGoOn w) (there : IsThere h w) (i : ℕ) (ks : List HostSite) (k : HostSite) (st : StandsAt i h w.sites)
    (all : SitesAre ks w.sites) (read : k ≡ get_or ks i k) where
  is : st.site ≡ there.0
  is = found_there i h w.sites there.0 st may.orderly.different there.1

  here : SiteIs k there.0
  here = site_read i h ks w.sites there.0 k st is all read

  link : link_to w.sites h ≡ there.0.link
  link = link_is w.sites h there.0 there.1

  pub wires_there : WiresStandFor k.wires (link_to w.sites h)
  wires_there = let W : Link → Type 0 = λ l. WiresStandFor k.wires l in subst W (sym link) here.wires

  -- it has come
  pub sites_with : (comes : Comes) (new : Wires) → WiresStandFor new (as_it_comes (link_to w.sites h) comes)
      → SitesAre (slice_set ks i (record k { wires = new })) (as_it_comes_to h comes w.sites)
  sites_with comes new stand =
      comes_there i h comes ks w.sites there.0 (record k { wires = new }) st may.orderly.different is all
      (site_with k new there.0 (as_it_comes there.0.link comes) (come_far there.0.link comes) (rw link at stand) here)

  -- nothing has
  pub sites_still : (new : Wires) → WiresStandFor new (link_to w.sites h) → SitesAre (slice_set ks i (record k { wires = new })) w.sites
  sites_still new stand =
      stays_there i h ks w.sites there.0 (record k { wires = new }) st is all (site_with k new there.0 there.0.link refl (rw link at stand) here)

-- The power of the controller is cut, or it boots: what is kept stands for the world behind that.

-- a host whose link the controller has left
abbrev pub left_alone : Site → Site
left_alone s = record s { link = happens s.link (AtController (Step NoInput [] CutOff)) }

pub all_left : (ks : List HostSite) (sites : List Site) → SitesAre ks (map with_bare_link sites) → SitesAre ks (map left_alone sites)
all_left [] [] a = tt
all_left [] (s ∷ sites) a = absurd a
all_left (k ∷ ks) [] a = absurd a
all_left (k ∷ ks) (s ∷ sites) a =
    let g = goes_on s.link NoInput None [] refl tt in
    (record { host = a.0.host; wires = same_stand (cut_same g) a.0.wires; place = rw (← far s.link) at a.0.place }, all_left ks sites a.1)
  where
    far : (l : Link) → (happens_at_controller l (Step NoInput [] CutOff)).host ≡ l.host
    far l =
        let g = goes_on l NoInput None [] refl tt in
        ap (λ (m : Link). m.host) g.cut ∙ (ended_far _ _ ∙ g.far)

pub was_cut : (k new : Power) (ks : List HostSite) (w : NodeWorld) (before now : List Entry)
    → IsNodePlace k w.memory w.controller (λ h. (link_to w.sites h).controller) → new ≡ Off (memory_kept k)
    → SitesAre ks (map with_bare_link w.sites) → now ≡ before ++ note.Cut 0 ∷ [] → WorldBecomes new ks before now (controller_cut w, note.Cut 0 ∷ [])
was_cut k new ks w before now place off sites noted =
    let N : Power → Type 0 = λ a. IsNodePlace a w.memory None (λ h. (link_to (map left_alone w.sites) h).controller) in
    record {
      world = record {
        controller = subst N (sym off) (kept_is k w.memory w.controller (λ h. (link_to w.sites h).controller) place);
        sites = all_left ks w.sites sites;
      };
      noted = noted;
    }

-- ## It boots

boot_goes : (w : NodeWorld) → fails_within (length (boot_writes w.memory.content)) w.memory.plan ≡ false
    → boots w 0 ≡ (
      record w { memory = after_planned (boot_writes w.memory.content) w.memory; controller = Some (found 0 (hosts_in w.sites) w.memory.content) },
      note.Booted 0 (count_of (found 0 (hosts_in w.sites) w.memory.content).core.journal) ∷ [],
    )
boot_goes w q = rw q refl

boot_stops : (w : NodeWorld) → fails_within (length (boot_writes w.memory.content)) w.memory.plan ≡ true
    → boots w 0 ≡ (controller_cut (record w { memory = after_planned (boot_writes w.memory.content) w.memory }), note.Cut 0 ∷ [])
boot_stops w q = rw q refl

-- the ends of all links are new
new_sides : (w : NodeWorld) (sites : List Site) → w.controller ≡ None → AreTimely w → AllByRecursion (λ (x : Site). site_at w.sites x.host ≡ Some x) sites
    → AllByRecursion (λ h. (link_to w.sites h).controller.side ≡ new_link_end (Clf new_clf)) (hosts_in sites)
new_sides w [] off timely a = tt
new_sides w (x ∷ sites) off timely a = (
  ap (λ (l : Link). l.controller.side) (link_is w.sites x.host x a.0) ∙ rw off at (timely x.host x a.0).controller,
  new_sides w sites off timely a.1,
)

new_ends : (near : ℕ → NumberedEnd) (hosts : List ℕ) → AllByRecursion (λ h. (near h).side ≡ new_link_end (Clf new_clf)) hosts
    → map between (map (new_port named.Clf) hosts) ≡ map between (map (λ (d : Desk). port_for (near d.host) d) (map new_desk hosts))
new_ends near [] a = refl
new_ends near (h ∷ hosts) a =
    ap₂ (λ (e : LinkEnd) xs. record { desk = new_desk h; side = e; session = 0; late = false; ended = false; turns = [] } ∷ xs) (sym a.0)
    (new_ends near hosts a.1)

none_sent : (near : ℕ → NumberedEnd) (hosts : List ℕ) → AllByRecursion (λ h. (near h).side ≡ new_link_end (Clf new_clf)) hosts
    → AllByRecursion (λ (d : Desk). next_frame (near d.host).side ≡ None) (map new_desk hosts)
none_sent near [] a = tt
none_sent near (h ∷ hosts) a = (ap next_frame a.0, none_sent near hosts a.1)

pub boot_lost : (new : Power) (ks : List HostSite) (w : NodeWorld) (before now : List Entry) (left : Memory) → new ≡ Off left
    → EndsBoot 0 (hosts_in w.sites) w.memory new → SitesAre ks (map with_bare_link w.sites)
    → now ≡ before ++ note.Cut 0 ∷ [] → WorldBecomes new ks before now (boots w 0)
boot_lost new ks w before now left off booted sites noted =
    let b = subst (EndsBoot 0 (hosts_in w.sites) w.memory) off booted in
    let near : ℕ → NumberedEnd = λ h. (link_to (map left_alone w.sites) h).controller in
    let N : Power → Type 0 = λ a. IsNodePlace a (after_planned (boot_writes w.memory.content) w.memory) None near in
    subst (λ x. WorldBecomes new ks before now x) (sym (boot_stops w b.0))
    (record { world = record { controller = subst N (sym off) b.1; sites = all_left ks w.sites sites }; noted = noted })

pub boot_runs : (new : Power) (ks : List HostSite) (w : NodeWorld) (before now : List Entry) (n : Node Memory) (count : ℕ) → new ≡ On n
    → w.controller ≡ None → MayGoOn w → AreTimely w → EndsBoot 0 (hosts_in w.sites) w.memory new
    → SitesAre ks w.sites → ((core : Core) (ports : List Port) → RunsAs n core ports → count ≡ count_of core.journal)
    → now ≡ before ++ note.Booted 0 count ∷ [] → WorldBecomes new ks before now (boots w 0)
boot_runs new ks w before now n count on not_on may timely booted sites counts noted =
    let near : ℕ → NumberedEnd = λ h. (link_to w.sites h).controller in
    let b = subst (EndsBoot 0 (hosts_in w.sites) w.memory) on booted in
    let r : Running = found 0 (hosts_in w.sites) w.memory.content in
    let sides = new_sides w w.sites not_on timely (each_found (λ (x : Site). x.host) w.sites may.orderly.different) in
    let N : Power → Type 0 = λ a. IsNodePlace a (after_planned (boot_writes w.memory.content) w.memory) (Some r) near in
    let ports = kept_alike (map (new_port named.Clf) (hosts_in w.sites)) (map (λ (d : Desk). port_for (near d.host) d) (map new_desk (hosts_in w.sites)))
    (new_ends near (hosts_in w.sites) sides) b.2 in
    subst (λ x. WorldBecomes new ks before now x) (sym (boot_goes w b.0))
    (record {
      world = record { controller = subst N (sym on) (b.1, ports, none_sent near (hosts_in w.sites) sides); sites = sites };
      noted = noted ∙ ap (λ x. before ++ note.Booted 0 x ∷ []) (counts r.core (map (new_port named.Clf) (hosts_in w.sites)) b.2);
    })
