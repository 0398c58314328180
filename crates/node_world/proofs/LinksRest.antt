-- Whether the links of a world are at rest, as it is read of its nodes and wires one by one.
use Rattle.std.specs.List.{list_all}
use Rattle.node_world.proofs.Words.{AllByRecursion, AreTimely, Bool, Core, Desk, HasEnds, HostSite, IfItRuns, IsNodePlace, List, MayGoOn, Memory, Node}
use Rattle.node_world.proofs.Words.{NodeWorld, None, NumberedEnd, Off, On, OnWire, Option, Port, Power, Running, RunsAs, Site, SiteIs, SitesAre, Some, [], ap}
use Rattle.node_world.proofs.Words.{append-nil, append_assoc, ap₂, arith, false, get_or, hosts_in, is_clear, length, length-append, link_is, link_to, map}
use Rattle.node_world.proofs.Words.{port_for, refl, site_at, subst, sym, true, ℕ, ◌&&◌, ◌++◌, ◌+◌, ◌<◌, ◌∙◌, ◌∷◌, ◌≡◌, ◌≤◌}
use Rattle.link_laws.specs.machine.AtRest.{end_rests}
use Rattle.link_laws.specs.messages.Rest.{link_rests}
use Rattle.node_machine.specs.world.Rounds.{sites_rest}
use Rattle.node_ends.specs.Ends.{are_at_rest}
use Rattle.node_world.specs.Rounds.{IsToLookAt, far_rests, near_rests}
use Rattle.node_world.proofs.EndsGo.{each_found}
use Rattle.node_world.proofs.SitesKept.{There, there, as_many}

-- ## Wires

pub clear : (wire : List OnWire) (n : ℕ) → n ≡ length wire → n ≡ 0 → is_clear wire ≡ true
clear wire n is none = grind arith

pub not_clear : (wire : List OnWire) (n : ℕ) → n ≡ length wire → (n ≡ 0 → ⊥) → is_clear wire ≡ false
not_clear wire n is some = grind arith

-- ## Ends

and_false : (b : Bool) → (b && false) ≡ false
and_false b = grind arith

and_true : (b : Bool) → (b && true) ≡ b
and_true b = grind arith

-- the ends of a node, by the hosts of their links
ends_rest : (near_ends : ℕ → NumberedEnd) (desks : List Desk)
    → are_at_rest (map (λ (d : Desk). port_for (near_ends d.host) d) desks)
    ≡ list_all (λ (h : ℕ). end_rests (near_ends h).side) (map (λ (d : Desk). d.host) desks)
ends_rest near_ends [] = refl
ends_rest near_ends (d ∷ desks) = ap (λ b. end_rests (near_ends d.host).side && b) (ends_rest near_ends desks)

-- the one end of a host
pub host_end_rests : (s : Site) (r : Running) → s.node ≡ Some r → IsToLookAt s
    → are_at_rest (map (λ (d : Desk). port_for s.link.host d) r.desks) ≡ end_rests s.link.host.side
host_end_rests s r runs a =
    let node : HasEnds s.host (s.host ∷ []) r = subst (IfItRuns s.host (s.host ∷ [])) runs a.ends in
    ends_rest (λ h. s.link.host) r.desks
    ∙ (ap (list_all (λ (h : ℕ). end_rests s.link.host.side)) node.ends ∙ and_true (end_rests s.link.host.side))

pub far_is : (s : Site) (b : Bool) → is_clear s.link.to_controller ≡ true → is_clear s.link.to_host ≡ true → b ≡ end_rests s.link.host.side
    → b ≡ far_rests s
far_is s b near far is = rw (near, far) is

pub near_wire_stands : (s : Site) → is_clear s.link.to_controller ≡ false → false ≡ far_rests s
near_wire_stands s near = rw near refl

pub far_wire_stands : (s : Site) → is_clear s.link.to_controller ≡ true → is_clear s.link.to_host ≡ false → false ≡ far_rests s
far_wire_stands s near far = rw (near, far) refl

-- ## The controller

module _ (w : NodeWorld) (may : MayGoOn w) where
  all_found : AllByRecursion (λ (s : Site). site_at w.sites s.host ≡ Some s) w.sites
  all_found = each_found (λ (s : Site). s.host) w.sites may.orderly.different

  -- the controller's ends, by the links
  by_links : (sites : List Site) → AllByRecursion (λ (s : Site). site_at w.sites s.host ≡ Some s) sites
      → list_all (λ (h : ℕ). end_rests (link_to w.sites h).controller.side) (hosts_in sites) ≡ list_all near_rests sites
  by_links [] a = refl
  by_links (s ∷ sites) a = ap₂ (λ b c. b && c) (ap (λ l. end_rests l.controller.side) (link_is w.sites s.host s a.0)) (by_links sites a.1)

  pub controller_ends_rest : (r : Running) → w.controller ≡ Some r
      → are_at_rest (map (λ (d : Desk). port_for (link_to w.sites d.host).controller d) r.desks) ≡ list_all near_rests w.sites
  controller_ends_rest r runs =
      let node : HasEnds 0 (hosts_in w.sites) r = subst (IfItRuns 0 (hosts_in w.sites)) runs may.orderly.controller in
      ends_rest (λ h. (link_to w.sites h).controller) r.desks
      ∙ (ap (list_all (λ (h : ℕ). end_rests (link_to w.sites h).controller.side)) node.ends ∙ by_links w.sites all_found)

  pub new_ends_rest : AreTimely w → w.controller ≡ None → true ≡ list_all near_rests w.sites
  new_ends_rest timely off = go w.sites all_found
    where
      go : (sites : List Site) → AllByRecursion (λ (s : Site). site_at w.sites s.host ≡ Some s) sites → true ≡ list_all near_rests sites
      go [] a = refl
      go (s ∷ sites) a =
          rw (ap end_rests (rw off at (timely s.host s a.0).controller)) (go sites a.1)

  -- hosts may be looked at
  looked_at : AreTimely w → (sites : List Site) → AllByRecursion (λ (s : Site). site_at w.sites s.host ≡ Some s) sites
      → AllByRecursion (λ (s : Site). IfItRuns s.host (s.host ∷ []) s.node) sites → AllByRecursion IsToLookAt sites
  looked_at timely [] a ends = tt
  looked_at timely (s ∷ sites) a ends = (record { ends = ends.0; off = (timely s.host s a.0).host }, looked_at timely sites a.1 ends.1)

  pub all_looked_at : AreTimely w → AllByRecursion IsToLookAt w.sites
  all_looked_at timely = looked_at timely w.sites all_found may.orderly.nodes

-- ## What nodes say

-- this is said of all ends of a node
abbrev pub IsSaid : Node Memory → Bool → Type 0
IsSaid n b = (core : Core) (ports : List Port) → RunsAs n core ports → b ≡ are_at_rest ports

pub host_says : (k : HostSite) (s : Site) (n : Node Memory) (b : Bool) → SiteIs k s → k.power ≡ On n → IsToLookAt s → IsSaid n b
    → b ≡ end_rests s.link.host.side
host_says k s n b is on may says = go s.node refl (subst (λ (p : Power). IsNodePlace p s.memory s.node (λ h. s.link.host)) on is.place)
  where
    go : (o : Option Running) → s.node ≡ o → IsNodePlace (On n) s.memory o (λ h. s.link.host) → b ≡ end_rests s.link.host.side
    go (Some r) q place = says r.core (map (λ (d : Desk). port_for s.link.host d) r.desks) place.1 ∙ host_end_rests s r q may
    go None q place = absurd place

pub host_is_new : (k : HostSite) (s : Site) (m : Memory) → SiteIs k s → k.power ≡ Off m → IsToLookAt s → true ≡ end_rests s.link.host.side
host_is_new k s m is off may = grind arith

module _ (w : NodeWorld) (may : MayGoOn w) (k : Power)
    (is : IsNodePlace k w.memory w.controller (λ h. (link_to w.sites h).controller)) where
  abbrev near : ℕ → NumberedEnd
  near h = (link_to w.sites h).controller

  pub controller_says : (n : Node Memory) (b : Bool) → k ≡ On n → IsSaid n b → b ≡ list_all near_rests w.sites
  controller_says n b on says = go w.controller refl (subst (λ (p : Power). IsNodePlace p w.memory w.controller near) on is)
    where
      go : (o : Option Running) → w.controller ≡ o → IsNodePlace (On n) w.memory o near → b ≡ list_all near_rests w.sites
      go (Some r) q place =
          says r.core (map (λ (d : Desk). port_for (near d.host) d) r.desks) place.1 ∙ controller_ends_rest w may r q
      go None q place = absurd place

  pub controller_is_new : (m : Memory) → AreTimely w → k ≡ Off m → true ≡ list_all near_rests w.sites
  controller_is_new m timely off = go w.controller refl (subst (λ (p : Power). IsNodePlace p w.memory w.controller near) off is)
    where
      go : (o : Option Running) → w.controller ≡ o → IsNodePlace (Off m) w.memory o near → true ≡ list_all near_rests w.sites
      go None q place = new_ends_rest w may timely q
      go (Some r) q place = absurd place

-- ## All links

mixed : (a b c d n f : Bool) → ((a && b && c && d) && (n && f)) ≡ ((c && n) && ((a && b && d) && f))
mixed a b c d n f = grind arith

pub links_rest : (sites : List Site) → sites_rest sites ≡ (list_all near_rests sites && list_all far_rests sites)
links_rest [] = refl
links_rest (s ∷ sites) =
    ap (λ b. link_rests s.link && b) (links_rest sites)
    ∙ mixed (is_clear s.link.to_controller) (is_clear s.link.to_host) (end_rests s.link.controller.side) (end_rests s.link.host.side)
    (list_all near_rests sites) (list_all far_rests sites)

-- the links of the first hosts are at rest at the hosts
pub record RestSoFar (i : ℕ) (sites : List Site) : Type 0 where
  pub front : List Site
  pub back : List Site
  pub is : sites ≡ front ++ back
  pub place : length front ≡ i
  pub rest : list_all far_rests front ≡ true

pub none_looked_at : (sites : List Site) → RestSoFar 0 sites
none_looked_at sites = record { front = []; back = sites; is = refl; place = refl; rest = refl }

all_with : (f : Site → Bool) (xs ys : List Site) → list_all f (xs ++ ys) ≡ (list_all f xs && list_all f ys)
all_with f [] ys = refl
all_with f (x ∷ xs) ys = ap (λ b. f x && b) (all_with f xs ys) ∙ (let h0 = f x in grind arith)

last_of : (Q : Site → Type 0) (front : List Site) (s : Site) (back : List Site) → AllByRecursion Q (front ++ s ∷ back) → Q s
last_of Q [] s back a = a.0
last_of Q (x ∷ front) s back a = last_of Q front s back a.1

-- the next host
pub record LooksAt (i : ℕ) (sites : List Site) (k : HostSite) : Type 0 where
  pub site : Site
  pub here : SiteIs k site
  pub may : IsToLookAt site
  pub on : far_rests site ≡ true → RestSoFar (i + 1) sites
  pub ends : far_rests site ≡ false → list_all far_rests sites ≡ false

pub looks_at : (i : ℕ) (ks : List HostSite) (sites : List Site) (k : HostSite) → SitesAre ks sites
    → AllByRecursion IsToLookAt sites → RestSoFar i sites → i < length ks → k ≡ get_or ks i k → LooksAt i sites k
looks_at i ks sites k a may so below read =
    let t : There i ks so.front so.back k = there i ks so.front so.back k (rw so.is at a) so.place below read in
    let is : sites ≡ so.front ++ t.site ∷ t.rest = so.is ∙ ap (λ xs. so.front ++ xs) t.is in
    record {
      site = t.site;
      here = t.here;
      may = last_of IsToLookAt so.front t.site t.rest (subst (AllByRecursion IsToLookAt) is may);
      on = λ q. record {
        front = so.front ++ t.site ∷ [];
        back = t.rest;
        is = is ∙ sym (append_assoc so.front (t.site ∷ []) t.rest);
        place = length-append so.front (t.site ∷ []) ∙ ap (λ n. n + 1) so.place;
        rest = all_with far_rests so.front (t.site ∷ []) ∙ ap₂ (λ b c. b && (c && true)) so.rest q;
      };
      ends = λ q. ap (list_all far_rests) is ∙ (all_with far_rests so.front (t.site ∷ t.rest)
          ∙ (ap (λ b. list_all far_rests so.front && (b && list_all far_rests t.rest)) q ∙ and_false (list_all far_rests so.front)));
    }

pub all_rest_so : (i : ℕ) (ks : List HostSite) (sites : List Site) → SitesAre ks sites → RestSoFar i sites → length ks ≤ i → list_all far_rests sites ≡ true
all_rest_so i ks sites a so over = go so.back refl
  where
    many : length ks ≡ i + length so.back
    many =
        as_many ks sites a ∙ (ap (λ (xs : List Site). length xs) so.is ∙ (length-append so.front so.back ∙ ap (λ n. n + length so.back) so.place))

    go : (back : List Site) → so.back ≡ back → list_all far_rests sites ≡ true
    go [] q = ap (list_all far_rests) (so.is ∙ (ap (λ xs. so.front ++ xs) q ∙ append-nil so.front)) ∙ so.rest
    go (s ∷ back) q =
        let more : length so.back ≡ length (s ∷ back) = ap (λ (xs : List Site). length xs) q in absurd (omega (arith, many, more, over))

-- ## The answer

pub near_moves : (sites : List Site) → false ≡ list_all near_rests sites → false ≡ sites_rest sites
near_moves sites q = sym (links_rest sites ∙ ap (λ b. b && list_all far_rests sites) (sym q))

pub far_moves : (sites : List Site) → list_all far_rests sites ≡ false → false ≡ sites_rest sites
far_moves sites q = sym (links_rest sites ∙ (ap (λ b. list_all near_rests sites && b) q ∙ and_false (list_all near_rests sites)))

pub all_still : (sites : List Site) → true ≡ list_all near_rests sites → list_all far_rests sites ≡ true → true ≡ sites_rest sites
all_still sites p q = sym (links_rest sites ∙ ap₂ (λ b c. b && c) (sym p) q)
