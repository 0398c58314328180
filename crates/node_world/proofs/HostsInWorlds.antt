-- What happens at a host of a world, as the definitions of the whole world have it.
use Rattle.node_world.proofs.Words.{AcksWithin, AllByRecursion, AreDifferent, AreMute, AreSendable, Asked, AtController, AtEnd, BecomesUnless, Bool, Comes}
use Rattle.node_world.proofs.Words.{Controller, CountsComing, CountsOn, CutOff, Desk, End, Entry, FewAreCounted, FewBehind, FewOn, FewOnEach, Gives, Happening}
use Rattle.node_world.proofs.Words.{HasBecome, HaveRoom, Header, Host, HostSite, HostsPlayed, IfItRuns, Inits, IsFromOutside, IsHost, IsHostOf, IsNodePlace}
use Rattle.node_world.proofs.Words.{IsOrderly, IsThere, IsWithinBounds, Line, LineOutcome, LinePlayed, Link, LinkInput, List, Lose, Loss, MayGoOn, MayPlay}
use Rattle.node_world.proofs.Words.{Memory, NoCause, NoInput, NodeWorld, None, NumberedEnd, Off, On, Option, Plan, Port, Power, Running, Site, SiteIs, SitesAre}
use Rattle.node_world.proofs.Words.{SitesBecome, Some, StandsAt, TimePasses, WasRefused, Work, WorldBecomes, WorldIs, [], after_host, after_planned, ap, ap₂}
use Rattle.node_world.proofs.Words.{arith, at, beginning, begins_with, boot_found, boot_writes, boot_written, boots, changed_if, comes_at, cond, count_of}
use Rattle.node_world.proofs.Words.{counts, deeds_asked, end_c, end_h, ending_of, entries_for, eq-eqb, exchanged, fails_within, false, first_lost, frame_lost}
use Rattle.node_world.proofs.Words.{frames_noted, frames_to, get_or, goes_on, happens, host_boots, host_cut, host_does, host_hears, host_stepped, host_work}
use Rattle.node_world.proofs.Words.{hosts_in, if_accepted, input_of, is_on, is_some, length, line_asked, line_step, link_is, link_to, links_of, loses_power_at}
use Rattle.node_world.proofs.Words.{machine_in, map, map-append, memory_at, message_asked, new_desk, node_at, node_of, port_for, refl, refusal_coming}
use Rattle.node_world.proofs.Words.{refusal_in, sending, sending_refused, side_of, site_at, site_loses, slice_set, steps, subst, sym, true, turns_at, wires_for}
use Rattle.node_world.proofs.Words.{with_memory, with_node, with_site, world_step, ℕ, ◌++◌, ◌+◌, ◌<◌, ◌==◌, ◌^◌, ◌∙◌, ◌∷◌, ◌≡◌, ◌≢◌, ◌≤◌}
use Rattle.trace_model.specs.declared.entry.Entry.TheVariants as entry
use Rattle.node_machine.specs.Node.{found as found_at}
use Rattle.node_laws.proofs.telling.Events.{site_host}
use Rattle.node_sites.specs.GivenMessages.{given_messages}
use Rattle.trace_model.specs.declared.line.Line.TheVariants as line
use Rattle.node_sites.specs.declared.nodes.Asked.TheVariants.{Send, Init}
use Rattle.node_world.specs.Controllers.{FewAreCountedAt}
use Rattle.node_world.proofs.HostsDo.{boot_goes, boot_stops}
use Rattle.node_world.proofs.HostsHear.{worked, stepped_on, hears_none}
use Rattle.node_world.proofs.CountsStay.{counts_few_at_end, resets_fit, acks_of_ports, counts_few_in_tick, few_to}
use Rattle.node_world.proofs.SitesKept.{others_before, of_these, read_there, written_there}
use Rattle.node_world.proofs.LinesGo.{one_step, is_there}
use Rattle.node_world.proofs.FewInWorlds.{far_stays}
use Rattle.node_world.proofs.ControllersHear.{changed_there}

-- The site s of the host h became another one, and nothing else in the world changed.
pub record ChangesSite (w : NodeWorld) (h : ℕ) (s : Site) (after : Site × List Entry) (now : NodeWorld × List Entry) : Type 0 where
  pub change : Site → Site
  pub world : now.0 ≡ record w { sites = with_site h change w.sites }
  pub site : change s ≡ after.0
  pub entries : now.1 ≡ after.1

module _ (w : NodeWorld) (h : ℕ) (s : Site) (found : site_at w.sites h ≡ Some s) where
  host : s.host ≡ h
  host = site_host w.sites h s found

  -- a host that doesn't run, or to whose end nothing comes, stays as it is
  stays : ChangesSite w h s (s, []) (w, [])
  stays = record { change = λ x. x; world = ap (λ xs. record w { sites = xs }) (sym (same w.sites)); site = refl; entries = refl }
    where
      one : (b : Bool) (x : Site) → changed_if b (λ (y : Site). y) x ≡ x
      one true x = refl
      one false x = refl

      same : (xs : List Site) → with_site h (λ x. x) xs ≡ xs
      same [] = refl
      same (x ∷ xs) = ap₂ (λ y ys. y ∷ ys) (one (x.host == h) x) (same xs)

  -- a step of it
  pub does_in_world : (comes : Comes) (f : Work → Work) → ChangesSite w h s (host_stepped s comes f) (host_does w h comes f)
  does_in_world comes f = go s.node refl
    where
      go : (o : Option Running) → s.node ≡ o → ChangesSite w h s (host_stepped s comes f) (host_does w h comes f)
      go None q =
          let A : Site × List Entry → Type 0 = λ after. ChangesSite w h s after (host_does w h comes f) in
          let B : NodeWorld × List Entry → Type 0 = λ now. ChangesSite w h s (s, []) now in
          subst A (sym (grind arith)) (subst B (sym (rw (found, q) refl)) stays)
      go (Some r) q =
          let k : Work = host_work s r comes f in
          let A : Site × List Entry → Type 0 = λ after. ChangesSite w h s after (host_does w h comes f) in
          let B : NodeWorld × List Entry → Type 0 = λ now. ChangesSite w h s (worked s comes k) now in
          let E : ℕ → List Entry = λ n. k.entries ++ frames_noted Host n (wires_for (exchanged s.link) comes) k in
          subst A (sym (stepped_on s r comes f q))
          (subst B (sym (rw (found, q) refl)) (record { change = after_host comes k; world = refl; site = refl; entries = ap E (sym host) }))

  -- something comes to its end
  pub hears_in_world : (comes : Comes) → ChangesSite w h s (host_hears s comes) (comes_at w (end_h h) comes)
  hears_in_world comes = go (input_of (exchanged s.link) comes) refl
    where
      link : link_to w.sites h ≡ s.link
      link = link_is w.sites h s found

      go : (o : Option LinkInput) → input_of (exchanged s.link) comes ≡ o → ChangesSite w h s (host_hears s comes) (comes_at w (end_h h) comes)
      go None q =
          let A : Site × List Entry → Type 0 = λ after. ChangesSite w h s after (comes_at w (end_h h) comes) in
          let B : NodeWorld × List Entry → Type 0 = λ now. ChangesSite w h s (s, []) now in
          subst A (sym (hears_none s comes q)) (subst B (sym (rw (link, q) refl)) stays)
      go (Some i) q =
          let f : ℕ → Work → Work = λ n. steps (AtEnd n i) in
          let A : Site × List Entry → Type 0 = λ after. ChangesSite w h s after (comes_at w (end_h h) comes) in
          let B : NodeWorld × List Entry → Type 0 = λ now. ChangesSite w h s (host_stepped s comes (f s.host)) now in
          let here : host_hears s comes ≡ host_stepped s comes (f s.host) = rw q refl in
          subst A (sym here) (subst B (sym ((rw (link, q) refl) ∙ ap (λ n. host_does w h comes (f n)) (sym host))) (does_in_world comes (f s.host)))

-- ## Power, memories and losses

with_twice : (h : ℕ) (f g : Site → Site) → ((x : Site) → (g x).host ≡ x.host) → (xs : List Site)
    → with_site h f (with_site h g xs) ≡ with_site h (λ x. f (g x)) xs
with_twice h f g keeps [] = refl
with_twice h f g keeps (x ∷ xs) = ap₂ (λ y ys. y ∷ ys) (one (x.host == h) refl) (with_twice h f g keeps xs)
  where
    one : (b : Bool) → (x.host == h) ≡ b
        → changed_if ((changed_if (x.host == h) g x).host == h) f (changed_if (x.host == h) g x) ≡ changed_if (x.host == h) (λ y. f (g y)) x
    one true q = let there : ((g x).host == h) ≡ true = ap (λ n. n == h) (keeps x) ∙ q in rw q (rw there refl)
    one false q = rw q (rw q refl)

module _ (w : NodeWorld) (h : ℕ) (s : Site) (found : site_at w.sites h ≡ Some s) (number : (h == 0) ≡ false) where
  its_host : s.host ≡ h
  its_host = site_host w.sites h s found

  memory_is : memory_at w h ≡ s.memory
  memory_is = rw (number, found) refl

  -- its power is cut
  pub cut_in_world : ChangesSite w h s (host_cut s, entry.Cut s.host ∷ []) (loses_power_at h w, entry.Cut h ∷ [])
  cut_in_world = record { change = host_cut; world = rw number refl; site = refl; entries = ap (λ n. entry.Cut n ∷ []) (sym its_host) }

  -- a write to its memory will fail
  pub armed_in_world : (plan : Plan)
      → ChangesSite w h s (record s { memory = record s.memory { plan = Some plan } }, [])
      (with_memory h (record (memory_at w h) { plan = Some plan }) w, [])
  armed_in_world plan =
      record {
        change = λ x. record x { memory = (record (memory_at w h) { plan = Some plan }) };
        world = rw number refl;
        site = ap (λ (x : Memory). record s { memory = record x { plan = Some plan } }) memory_is;
        entries = refl;
      }

  abbrev M : Memory
  M = after_planned (boot_writes (memory_at w h).content) (memory_at w h)

  written : boot_written w h ≡ record w { sites = with_site h (λ x. record x { memory = M }) w.sites }
  written = rw number refl

  -- its boot loses its power
  boot_lost : ChangesSite w h s (host_cut (record s { memory = after_planned (boot_writes s.memory.content) s.memory }), entry.Cut s.host ∷ [])
      (loses_power_at h (boot_written w h), entry.Cut h ∷ [])
  boot_lost =
      let v : NodeWorld = record w { sites = with_site h (λ x. record x { memory = M }) w.sites } in
      record {
        change = λ x. host_cut (record x { memory = M });
        world = ap (loses_power_at h) written
            ∙ ((rw number refl) ∙ ap (λ xs. record w { sites = xs }) (with_twice h host_cut (λ x. record x { memory = M }) (λ x. refl) w.sites));
        site = ap (λ (x : Memory). host_cut (record s { memory = after_planned (boot_writes x.content) x })) memory_is;
        entries = ap (λ n. entry.Cut n ∷ []) (sym its_host);
      }

  -- its boot goes through
  boot_ran : ChangesSite w h s (
    record s {
      memory = after_planned (boot_writes s.memory.content) s.memory;
      node = Some (found_at s.host (s.host ∷ []) s.memory.content);
    },
    entry.Booted s.host (count_of (found_at s.host (s.host ∷ []) s.memory.content).core.journal) ∷ [],
  )
      (with_node h (boot_found w h) (boot_written w h), entry.Booted h (count_of (boot_found w h).core.journal) ∷ [])
  boot_ran =
      let v : NodeWorld = record w { sites = with_site h (λ x. record x { memory = M }) w.sites } in
      let r : Running = boot_found w h in
      let on : with_node h r v ≡ record v { sites = with_site h (λ x. record x { node = Some r }) v.sites } = rw number refl in
      let links : links_of w h ≡ h ∷ [] = rw number refl in
      let first : found_at s.host (s.host ∷ []) s.memory.content ≡ r =
      ap (λ n. found_at n (n ∷ []) s.memory.content) its_host
      ∙ (ap (λ (x : Memory). found_at h (h ∷ []) x.content) (sym memory_is) ∙ ap (λ ls. found_at h ls (memory_at w h).content) (sym links)) in
      record {
        change = λ x. record x { memory = M; node = Some r };
        world = ap (with_node h r) written
            ∙ (on ∙ ap (λ xs. record w { sites = xs }) (with_twice h (λ x. record x { node = Some r }) (λ x. record x { memory = M }) (λ x. refl) w.sites));
        site = ap (λ (x : Memory). record s { memory = after_planned (boot_writes x.content) x; node = Some r }) memory_is
            ∙ ap (λ (x : Running). record s { memory = after_planned (boot_writes s.memory.content) s.memory; node = Some x }) (sym first);
        entries = ap₂ (λ n (x : Running). entry.Booted n (count_of x.core.journal) ∷ []) (sym its_host) (sym first);
      }

  -- it boots
  pub boots_in_world : ChangesSite w h s (host_boots s) (boots w h)
  boots_in_world = go (fails_within (length (boot_writes s.memory.content)) s.memory.plan) refl
    where
      go : (b : Bool) → fails_within (length (boot_writes s.memory.content)) s.memory.plan ≡ b → ChangesSite w h s (host_boots s) (boots w h)
      go true q =
          let there : fails_within (length (boot_writes (memory_at w h).content)) (memory_at w h).plan ≡ true =
          ap (λ (m : Memory). fails_within (length (boot_writes m.content)) m.plan) memory_is ∙ q in
          let is : boots w h ≡ (loses_power_at h (boot_written w h), entry.Cut h ∷ []) = rw there refl in
          let A : Site × List Entry → Type 0 = λ after. ChangesSite w h s after (boots w h) in
          let B : NodeWorld × List Entry → Type 0 = λ now.
          ChangesSite w h s (host_cut (record s { memory = after_planned (boot_writes s.memory.content) s.memory }), entry.Cut s.host ∷ []) now in
          subst A (sym (boot_stops s q)) (subst B (sym is) boot_lost)
      go false q =
          let there : fails_within (length (boot_writes (memory_at w h).content)) (memory_at w h).plan ≡ false =
          ap (λ (m : Memory). fails_within (length (boot_writes m.content)) m.plan) memory_is ∙ q in
          let is : boots w h ≡ (
            with_node h (boot_found w h) (boot_written w h),
            entry.Booted h (count_of (boot_found w h).core.journal) ∷ [],
          ) = rw there refl in
          let A : Site × List Entry → Type 0 = λ after. ChangesSite w h s after (boots w h) in
          let B : NodeWorld × List Entry → Type 0 = λ now.
          ChangesSite w h s (
            record s {
              memory = after_planned (boot_writes s.memory.content) s.memory;
              node = Some (found_at s.host (s.host ∷ []) s.memory.content);
            },
            entry.Booted s.host (count_of (found_at s.host (s.host ∷ []) s.memory.content).core.journal) ∷ [],
          ) now in
          subst A (sym (boot_goes s q)) (subst B (sym is) boot_ran)

-- the first frame on its way to a host is lost
pub loses_in_world : (w : NodeWorld) (e : End) (why : Loss) (s : Site) (found : site_at w.sites e.link ≡ Some s) → e.at_host ≡ true
    → ChangesSite w e.link s (site_loses e why s, entries_for e.link (first_lost (side_of e) why (frames_to s.link e))) (frame_lost w e why)
loses_in_world w e why s found far =
    let lost : Site → Site = λ x. record x { link = happens x.link (at e (Lose why)); node = counts why e.link x.node } in
    let link : link_to w.sites e.link ≡ s.link = link_is w.sites e.link s found in
    let is : frame_lost w e why ≡ (
      record w { sites = with_site e.link lost w.sites },
      entries_for e.link (first_lost Host why (link_to w.sites e.link).to_host),
    ) = rw far refl in
    let B : NodeWorld × List Entry → Type 0 = λ now.
    ChangesSite w e.link s (site_loses e why s, entries_for e.link (first_lost (side_of e) why (frames_to s.link e))) now in
    let side : first_lost (side_of e) why (frames_to s.link e) ≡ first_lost Host why s.link.to_host = rw far refl in
    subst B (sym is)
    (record {
      change = lost;
      world = refl;
      site = ap (λ n. record s { link = happens s.link (at e (Lose why)); node = counts why n s.node }) (sym (site_host w.sites e.link s found))
          ∙ sym (ap (λ b. record s { link = happens s.link (at e (Lose why)); node = cond b (counts why s.host s.node) s.node }) far);
      entries = ap (λ (l : Link). entries_for e.link (first_lost Host why l.to_host)) link ∙ ap (entries_for e.link) (sym side);
    })

-- A host of the world that was found by its number: what may happen to it, and how the world becomes another one by that.

-- ## Where it stands

others_behind : (front : List ℕ) (h : ℕ) (back : List ℕ) → AreDifferent (front ++ h ∷ back) → AllByRecursion (λ k. (k == h) ≡ false) back
others_behind [] h back d = d.0
others_behind (x ∷ front) h back d = others_behind front h back d.1

first_found : (h : ℕ) (front : List Site) (s : Site) (back : List Site) → AllByRecursion (λ k. (k == h) ≡ false) (hosts_in front)
    → (s.host == h) ≡ true → site_at (front ++ s ∷ back) h ≡ Some s
first_found h [] s back a q = rw q refl
first_found h (x ∷ front) s back a q = let n : (x.host == h) ≡ false = a.0 in rw n (first_found h front s back a.1 q)

unchanged : (h : ℕ) (f : Site → Site) (xs : List Site) → AllByRecursion (λ k. (k == h) ≡ false) (hosts_in xs) → with_site h f xs ≡ xs
unchanged h f [] a = refl
unchanged h f (x ∷ xs) a = let n : (x.host == h) ≡ false = a.0 in rw n (ap (λ ys. x ∷ ys) (unchanged h f xs a.1))

changed_here : (h : ℕ) (f : Site → Site) (front : List Site) (s : Site) (back : List Site) → AllByRecursion (λ k. (k == h) ≡ false) (hosts_in front)
    → (s.host == h) ≡ true → AllByRecursion (λ k. (k == h) ≡ false) (hosts_in back) → with_site h f (front ++ s ∷ back) ≡ front ++ f s ∷ back
changed_here h f [] s back a q b = rw q (ap (λ ys. f s ∷ ys) (unchanged h f back b))
changed_here h f (x ∷ front) s back a q b =
    let n : (x.host == h) ≡ false = a.0 in rw n (ap (λ ys. x ∷ ys) (changed_here h f front s back a.1 q b))

module _ (w : NodeWorld) (i h : ℕ) (a : StandsAt i h w.sites) where
  split : hosts_in w.sites ≡ hosts_in a.front ++ a.site.host ∷ hosts_in a.back
  split = ap hosts_in a.is ∙ map-append (λ (s : Site). s.host) a.front (a.site ∷ a.back)

  it_is : (a.site.host == h) ≡ true
  it_is = eq-eqb a.site.host h a.host

  apart : IsOrderly w → AreDifferent (hosts_in a.front ++ h ∷ hosts_in a.back)
  apart o = subst (λ n. AreDifferent (hosts_in a.front ++ n ∷ hosts_in a.back)) a.host (subst AreDifferent split o.different)

  pub site_stands : IsOrderly w → site_at w.sites h ≡ Some a.site
  site_stands o =
      ap (λ xs. site_at xs h) a.is ∙ first_found h a.front a.site a.back (others_before (hosts_in a.front) h (hosts_in a.back) (apart o)) it_is

  pub site_changes : (f : Site → Site) → IsOrderly w → with_site h f w.sites ≡ a.front ++ f a.site ∷ a.back
  site_changes f o =
      ap (with_site h f) a.is
      ∙ changed_here h f a.front a.site a.back (others_before (hosts_in a.front) h (hosts_in a.back) (apart o)) it_is
      (others_behind (hosts_in a.front) h (hosts_in a.back) (apart o))

  pub is_host : MayGoOn w → IsHostOf a.site
  is_host m =
      let Off : Site → Type 0 = λ s. (s.host == 0) ≡ false in
      let Ends : Site → Type 0 = λ s. IfItRuns s.host (s.host ∷ []) s.node in
      record {
        number = of_these Off a.front a.site a.back (subst (AllByRecursion Off) a.is m.orderly.hosts);
        low = (of_these IsHost (hosts_in a.front) a.site.host (hosts_in a.back) (subst (AllByRecursion IsHost) split m.hosts)).1;
        ends = of_these Ends a.front a.site a.back (subst (AllByRecursion Ends) a.is m.orderly.nodes);
      }

  pub few_there : (n : ℕ) → FewBehind n w → FewOn n a.site.link
  few_there n few = let F : Site → Type 0 = λ s. FewOn n s.link in of_these F a.front a.site a.back (subst (AllByRecursion F) a.is few)

-- ## What comes to its end

-- an end that is read of a node as a port of its own
counts_on : (n : ℕ) (e : NumberedEnd) (i : LinkInput) → n ≤ 300000000 → IsFromOutside i → AcksWithin n e.side → AreSendable e.side.sent
    → CountsOn e.side i
counts_on n e i most outside acks sendable =
    let few = counts_few_at_end n 0 i (port_for e (new_desk 0) ∷ []) most outside (acks, tt) (sendable, tt) in
    record { come = few.come.0; late = few.late.0 }

pub from_outside : (l : Link) (comes : Comes) (i : LinkInput) → input_of l comes ≡ Some i → IsFromOutside i
from_outside l comes i q = grind arith

first_sendable : (e : NumberedEnd) (h : ℕ) (desks : List Desk) → map (λ (d : Desk). d.host) desks ≡ h ∷ []
    → AllByRecursion (λ (p : Port). AreSendable p.side.sent) (map (λ (d : Desk). port_for e d) desks) → AreSendable e.side.sent
first_sendable e h [] q a = absurd (cc q)
first_sendable e h (d ∷ desks) q a = a.0

pub sendable_on : (k : HostSite) (s : Site) (r : Running) → SiteIs k s → IsHostOf s → s.node ≡ Some r → AreSendable s.link.host.side.sent
sendable_on k s r is host runs = go k.power s.node refl is.place host.ends runs
  where
    near : ℕ → NumberedEnd
    near h = s.link.host

    go : (power : Power) (node : Option Running) → s.node ≡ node → IsNodePlace power s.memory node near
        → IfItRuns s.host (s.host ∷ []) node → node ≡ Some r → AreSendable s.link.host.side.sent
    go (On n) (Some q) e place ends runs =
        first_sendable s.link.host s.host q.desks ends.ends (given_messages n q.core (map (λ (d : Desk). port_for s.link.host d) q.desks) place.1)
    go power None e place ends runs = absurd (cc runs)
    go (Off m) (Some q) e place ends runs = absurd place

pub counts_coming : (k : HostSite) (s : Site) (comes : Comes) → SiteIs k s → IsHostOf s → FewOn 300000000 s.link → CountsComing s comes
counts_coming k s comes is host few r i runs q =
    counts_on 300000000 s.link.host i (omega arith) (from_outside (exchanged s.link) comes i q) few.host (sendable_on k s r is host runs)

pub room_there : (k : HostSite) (s : Site) → SiteIs k s → FewOn 300000000 s.link → k.wires.resets + 17 < 2 ^ 32
room_there k s is few = let fit = resets_fit 300000000 s.link (omega arith) few in let same = is.wires.count in omega (arith, fit, same)

-- ## It becomes another one

pub becomes : (ks : List HostSite) (w : NodeWorld) (i h : ℕ) (a : StandsAt i h w.sites) (new : HostSite) (before later : List Entry)
    (after : Site × List Entry) (now : NodeWorld × List Entry) → IsOrderly w → SitesAre ks w.sites → ChangesSite w h a.site after now
    → HasBecome new before later after → SitesBecome (slice_set ks i new) before later now
becomes ks w i h a new before later after now o all c b =
    let same : now.0.sites ≡ a.front ++ after.0 ∷ a.back =
    ap (λ (v : NodeWorld). v.sites) c.world ∙ (site_changes w i h a c.change o ∙ ap (λ s. a.front ++ s ∷ a.back) c.site) in
    record {
      sites = subst (SitesAre (slice_set ks i new)) (sym same)
          (written_there ks a.front a.site after.0 a.back i new a.place (subst (SitesAre ks) a.is all) b.site);
      noted = b.noted ∙ ap (λ es. before ++ es) (sym c.entries);
    }

pub reads : (ks : List HostSite) (w : NodeWorld) (i h : ℕ) (a : StandsAt i h w.sites) (k : HostSite) → SitesAre ks w.sites → k ≡ get_or ks i k → SiteIs k a.site
reads ks w i h a k all read = read_there ks a.front a.site a.back i k a.place (subst (SitesAre ks) a.is all) read

-- what stands at its place
pub record At (k : HostSite) (s : Site) : Type 0 where
  pub is : SiteIs k s
  pub host : IsHostOf s
  pub few : FewOn 300000000 s.link

pub at_place : (ks : List HostSite) (w : NodeWorld) (i h : ℕ) (a : StandsAt i h w.sites) (k : HostSite) → SitesAre ks w.sites
    → k ≡ get_or ks i k → IsWithinBounds w → At (get_or ks i k) a.site
at_place ks w i h a k all read ready =
    record {
      is = subst (λ x. SiteIs x a.site) read (reads ks w i h a k all read);
      host = is_host w i h a ready.goes_on;
      few = few_there w i h a 300000000 ready.few;
    }

-- it runs where its place does
pub runs_alike : (k : HostSite) (s : Site) → SiteIs k s → is_on k.power ≡ is_some s.node
runs_alike k s is = grind arith

-- ## Ends

-- the end of a host
pub end_is : (e : End) → e.at_host ≡ true → end_h e.link ≡ e
end_is e q = ap (λ b. let x : End = record { link = e.link; at_host = b } in x) (sym q)

pub controller_end_is : (e : End) → e.at_host ≡ false → end_c e.link ≡ e
controller_end_is e q = ap (λ b. let x : End = record { link = e.link; at_host = b } in x) (sym q)

-- a host that is there is found
pub nowhere : {A : Type 0} (sites : List Site) (h : ℕ) → ((s : Site) × (site_at sites h ≡ Some s)) → site_at sites h ≡ None → A
nowhere sites h there none = let z : None ≡ Some there.0 = sym none ∙ there.1 in absurd (cc z)

-- The node and the memory of a host of the world that was found by its number.

-- no host has this number
pub none_changed : (h : ℕ) (f : Site → Site) (sites : List Site) → site_at sites h ≡ None → with_site h f sites ≡ sites
none_changed h f [] q = refl
none_changed h f (x ∷ sites) q = let h0 = x.host == h in let h1 = none_changed h f sites in grind arith

pub runs_so : (o : Option Running) → o ≢ None → (r : Running) × (o ≡ Some r)
runs_so o n = grind arith

abbrev pub armed : Plan → Memory → Memory
armed plan m = record m { plan = Some plan }

module _ (w : NodeWorld) (h : ℕ) (off : (h == 0) ≡ false) where
  pub node_there : (s : Site) → site_at w.sites h ≡ Some s → node_at w h ≡ s.node
  node_there s found = rw (off, found) refl

  pub memory_there : (s : Site) → site_at w.sites h ≡ Some s → memory_at w h ≡ s.memory
  memory_there s found = rw (off, found) refl

  pub node_nowhere : site_at w.sites h ≡ None → node_at w h ≡ None
  node_nowhere none = rw (off, none) refl

-- What a host of the world that was found by its number refuses, and how the world stays as it is then.

module _ (w : NodeWorld) (h : ℕ) (s : Site) (off : (h == 0) ≡ false) (found : site_at w.sites h ≡ Some s) where
  pub refusal_there : (comes : Comes)
      → refusal_coming (node_at w (node_of (end_h h))) (machine_in w (end_h h)) comes ≡ refusal_coming s.node s.link.host.side comes
  refusal_there comes = rw (off, found) refl

  pub asked_there : (asked : Asked) → refusal_in w (line_asked (end_h h) asked) ≡ sending_refused s (message_asked asked)
  asked_there asked = grind arith

-- what happens where a host does what it is asked to
abbrev pub happening_asked : End → Asked → Happening
happening_asked e (Send pipe message) = Gives e (pipe, message.now)
happening_asked e (Init identity pipes) = Inits e identity.now pipes.now

pub asked_goes : (w : NodeWorld) (e : End) (asked : Asked) → goes_on w (line_asked e asked) ≡ one_step w (happening_asked e asked)
asked_goes w e asked = grind arith

pub asked_does : (w : NodeWorld) (e : End) (asked : Asked) → e.at_host ≡ true
    → host_does w e.link NoInput (begins_with e.link (deeds_asked asked e.link)) ≡ world_step w (happening_asked e asked)
asked_does w e asked at_host = grind arith

pub asked_mute : (asked : Asked) (h : ℕ) → AreMute (deeds_asked asked h)
asked_mute asked h = grind arith

-- a step that a host's own number names
pub steps_there : (w : NodeWorld) (h : ℕ) (s : Site) → site_at w.sites h ≡ Some s → s.host ≡ h → (comes : Comes) (f : ℕ → Work → Work)
    → ChangesSite w h s (host_stepped s comes (f s.host)) (host_does w h comes (f h))
steps_there w h s found host comes f =
    subst (λ n. ChangesSite w h s (host_stepped s comes (f s.host)) (host_does w h comes (f n))) host (does_in_world w h s found comes (f s.host))

pub stays_so : (w : NodeWorld) (i h : ℕ) (a : StandsAt i h w.sites) → IsOrderly w → ChangesSite w h a.site (a.site, []) (w, [])
stays_so w i h a o =
    record {
      change = λ x. x;
      world = ap (λ xs. record w { sites = xs }) (sym (site_changes w i h a (λ x. x) o ∙ sym a.is));
      site = refl;
      entries = refl;
    }

pub becomes_unless : {Why : Type 0} (ks : List HostSite) (w : NodeWorld) (i h : ℕ) (a : StandsAt i h w.sites) (new : HostSite) (before later : List Entry)
    (after : Site × List Entry) (now : NodeWorld × List Entry) (cause : Option Why) → IsOrderly w → SitesAre ks w.sites
    → ChangesSite w h a.site after now → BecomesUnless new before later a.site after cause
    → SitesBecome (slice_set ks i new) before later (if_accepted cause w now)
becomes_unless ks w i h a new before later after now None o all c b = becomes ks w i h a new before later after now o all c b
becomes_unless ks w i h a new before later after now (Some cause) o all c b =
    becomes ks w i h a new before later (a.site, []) (w, []) o all (stays_so w i h a o) b

-- What happens at a host leaves the controller as it is, and its ends of all links.

-- a host became another one, with the same number and the same end of the controller
pub record LeavesNear (s t : Site) : Type 0 where
  pub host : t.host ≡ s.host
  pub near : t.link.controller ≡ s.link.controller

pub stepped_leaves : (s : Site) (comes : Comes) (f : Work → Work) → LeavesNear s (host_stepped s comes f).0
stepped_leaves s comes f = go s.node refl
  where
    go : (o : Option Running) → s.node ≡ o → LeavesNear s (host_stepped s comes f).0
    go None q = rw q (record { host = refl; near = refl })
    go (Some r) q =
        let k : Work = host_work s r comes f in
        rw q (record { host = refl; near = far_stays (exchanged s.link) comes (turns_at k s.host) (ending_of k) })

pub hears_leaves : (s : Site) (comes : Comes) → LeavesNear s (host_hears s comes).0
hears_leaves s comes = go (input_of (exchanged s.link) comes) refl
  where
    go : (o : Option LinkInput) → input_of (exchanged s.link) comes ≡ o → LeavesNear s (host_hears s comes).0
    go None q = rw q (record { host = refl; near = refl })
    go (Some i) q = rw q (stepped_leaves s comes (steps (AtEnd s.host i)))

-- ## In a world

record Split (sites : List Site) (s : Site) : Type 0 where
  front : List Site
  back : List Site
  is : sites ≡ front ++ s ∷ back

split_at : (sites : List Site) (h : ℕ) (s : Site) → site_at sites h ≡ Some s → Split sites s
split_at [] h s q = absurd (cc q)
split_at (x ∷ xs) h s q = go (x.host == h) refl (split_at xs h s)
  where
    go : (b : Bool) → (x.host == h) ≡ b → (site_at xs h ≡ Some s → Split xs s) → Split (x ∷ xs) s
    go true e later =
        record { front = []; back = xs; is = ap (λ y. y ∷ xs) cc }
    go false e later = let r = later (rw e at q) in record { front = x ∷ r.front; back = r.back; is = ap (λ ys. x ∷ ys) r.is }

near_in : (front : List Site) (s t : Site) (back : List Site) (h : ℕ) → LeavesNear s t
    → (link_to (front ++ t ∷ back) h).controller ≡ (link_to (front ++ s ∷ back) h).controller
near_in [] s t back h a = grind arith
near_in (x ∷ front) s t back h a = let h0 = x.host == h in let h1 = near_in front s t back h a in grind arith

abbrev near_of : List Site → ℕ → NumberedEnd
near_of sites h = (link_to sites h).controller

module _ (w : NodeWorld) (h : ℕ) (s : Site) (found : site_at w.sites h ≡ Some s) (o : IsOrderly w) (after : Site × List Entry)
    (now : NodeWorld × List Entry) (c : ChangesSite w h s after now) (leaves : LeavesNear s after.0) where
  sites_are : (p : Split w.sites s) → now.0.sites ≡ p.front ++ after.0 ∷ p.back
  sites_are p =
      let a : StandsAt (length p.front) h w.sites =
      record { front = p.front; site = s; back = p.back; is = p.is; place = refl; host = site_host w.sites h s found } in
      ap (λ (v : NodeWorld). v.sites) c.world
      ∙ (site_changes w (length p.front) h a c.change o ∙ ap (λ t. p.front ++ t ∷ p.back) c.site)

  near_left : (p : Split w.sites s) (k : ℕ) → near_of now.0.sites k ≡ near_of w.sites k
  near_left p k =
      ap (λ sites. near_of sites k) (sites_are p)
      ∙ (near_in p.front s after.0 p.back k leaves ∙ ap (λ sites. near_of sites k) (sym p.is))

  all_left : near_of now.0.sites ≡ near_of w.sites
  all_left = λ i k. near_left (split_at w.sites h s found) k i

  pub host_becomes : (k : Power) (ks new : List HostSite) (before later : List Entry) → WorldIs k ks w → SitesBecome new before later now
      → WorldBecomes k new before later now
  host_becomes k ks new before later world b =
      let Q : Memory → Option Running → (ℕ → NumberedEnd) → Type 0 = λ m node near. IsNodePlace k m node near in
      let node : now.0.controller ≡ w.controller = ap (λ (v : NodeWorld). v.controller) c.world in
      let one = subst (λ near. Q w.memory w.controller near) (sym all_left) world.controller in
      grind arith

  pub host_becomes_unless : {Why : Type 0} (k : Power) (ks new : List HostSite) (before later : List Entry) (cause : Option Why)
      → WorldIs k ks w → SitesBecome new before later (if_accepted cause w now) → WorldBecomes k new before later (if_accepted cause w now)
  host_becomes_unless k ks new before later None world b = host_becomes k ks new before later world b
  host_becomes_unless k ks new before later (Some cause) world b = grind arith

pub loses_leaves : (e : End) (why : Loss) (s : Site) → e.at_host ≡ true → LeavesNear s (site_loses e why s)
loses_leaves e why s q = record { host = refl; near = rw q refl }

-- ## What the controller asks for

have_room : (ks : List HostSite) (sites : List Site) → SitesAre ks sites → FewOnEach 300000000 sites → HaveRoom ks
have_room [] [] a f = tt
have_room (k ∷ ks) (s ∷ sites) a f = (room_there k s a.0 f.0, have_room ks sites a.1 f.1)
have_room [] (s ∷ sites) a f = absurd a
have_room (k ∷ ks) [] a f = absurd a

pub room_for_all : (ks : List HostSite) (w : NodeWorld) → SitesAre ks w.sites → FewBehind 300000000 w → HaveRoom ks
room_for_all ks w a f = have_room ks w.sites a f

on_sendable : (k : Power) (m : Memory) (node : Option Running) (near : ℕ → NumberedEnd) (r : Running) → IsNodePlace k m node near → node ≡ Some r
    → AllByRecursion (λ (p : Port). AreSendable p.side.sent) (map (λ (d : Desk). port_for (near d.host) d) r.desks)
on_sendable (On n) m (Some q) near r place e =
    let one : q ≡ r = cc in
    rw one at (given_messages n q.core (map (λ (d : Desk). port_for (near d.host) d) q.desks) place.1)
on_sendable k m None near r place e = absurd (cc e)
on_sendable (Off kept) m (Some q) near r place e = absurd place

pub counted_at : (k : Power) (w : NodeWorld) (h : ℕ) (comes : Comes)
    → IsNodePlace k w.memory w.controller (near_of w.sites) → FewBehind 300000000 w → FewAreCountedAt h comes w
counted_at k w h comes place few i q = go w.controller refl
  where
    go : (o : Option Running) → w.controller ≡ o → FewAreCounted (AtEnd h i) w
    go None e = rw e tt
    go (Some r) e =
        rw e (counts_few_at_end 300000000 h i (map (λ (d : Desk). port_for (near_of w.sites d.host) d) r.desks) (omega arith)
        (from_outside (link_to w.sites h) comes i q) (acks_of_ports 300000000 (near_of w.sites) (λ j. (few_to 300000000 j w.sites few).controller) r.desks)
        (on_sendable k w.memory w.controller (near_of w.sites) r place e))

-- and in a tick
pub counted_in_tick : (k : Power) (w : NodeWorld)
    → IsNodePlace k w.memory w.controller (near_of w.sites) → FewBehind 300000000 w → FewAreCounted TimePasses w
counted_in_tick k w place few = go w.controller refl
  where
    go : (o : Option Running) → w.controller ≡ o → FewAreCounted TimePasses w
    go None e = rw e tt
    go (Some r) e =
        rw e (counts_few_in_tick 300000000 (map (λ (d : Desk). port_for (near_of w.sites d.host) d) r.desks) (omega arith)
        (acks_of_ports 300000000 (near_of w.sites) (λ j. (few_to 300000000 j w.sites few).controller) r.desks)
        (on_sendable k w.memory w.controller (near_of w.sites) r place e))

pub cut_leaves : (s : Site) → LeavesNear s (host_cut s)
cut_leaves s = record { host = refl; near = far_stays (exchanged s.link) NoInput [] CutOff }

-- ## At a host that was found

-- What happened at the host with this number, which stands at this place, happened in the world.
module _ (w : NodeWorld) (i h : ℕ) (a : StandsAt i h w.sites) (o : IsOrderly w) (after : Site × List Entry) (now : NodeWorld × List Entry)
    (c : ChangesSite w h a.site after now) (leaves : LeavesNear a.site after.0) (k : Power) (ks : List HostSite) (new : HostSite)
    (before later : List Entry) (world : WorldIs k ks w) where
  found : site_at w.sites h ≡ Some a.site
  found = site_stands w i h a o

  pub found_becomes : HasBecome new before later after → WorldBecomes k (slice_set ks i new) before later now
  found_becomes b =
      host_becomes w h a.site found o after now c leaves k ks (slice_set ks i new) before later world
      (becomes ks w i h a new before later after now o world.sites c b)

  pub found_becomes_unless : {Why : Type 0} (cause : Option Why) → BecomesUnless new before later a.site after cause
      → WorldBecomes k (slice_set ks i new) before later (if_accepted cause w now)
  found_becomes_unless cause b =
      host_becomes_unless w h a.site found o after now c leaves k ks (slice_set ks i new) before later cause world
      (becomes_unless ks w i h a new before later after now cause o world.sites c b)

-- A frame is lost on its way to the controller's end of a link.

-- a link on which it was lost
abbrev lost_on : Loss → Site → Site
lost_on why s = record s { link = happens s.link (AtController (Lose why)) }

abbrev near_ends : List Site → ℕ → NumberedEnd
near_ends sites h = (link_to sites h).controller

near_kept : (h : ℕ) (why : Loss) (sites : List Site) (k : ℕ) → (link_to (with_site h (lost_on why) sites) k).controller ≡ (link_to sites k).controller
near_kept h why [] k = refl
near_kept h why (s ∷ sites) k = let h0 = s.host == h in let h1 = s.host == k in let h2 = near_kept h why sites k in grind arith

all_near : (h : ℕ) (why : Loss) (sites : List Site) → near_ends (with_site h (lost_on why) sites) ≡ near_ends sites
all_near h why sites = λ i k. near_kept h why sites k i

-- what is kept stands for the world behind the loss
lost_there : (k : Power) (ks : List HostSite) (w : NodeWorld) (h : ℕ) (s : Site) (why : Loss) (before now : List Entry)
    → site_at w.sites h ≡ Some s → IsNodePlace k w.memory (counts why h w.controller) (near_ends w.sites)
    → SitesAre ks (with_site h (lost_on why) w.sites) → now ≡ before ++ entries_for h (first_lost Controller why s.link.to_controller)
    → WorldBecomes k ks before now (frame_lost w (end_c h) why)
lost_there k ks w h s why before now found place sites noted =
    record {
      world = record { controller = rw (← all_near h why w.sites) at place; sites = sites };
      noted = noted ∙ ap (λ (l : Link). before ++ entries_for h (first_lost Controller why l.to_controller)) (sym (link_is w.sites h s found));
    }

pub lost_to_controller : (k : Power) (ks : List HostSite) (w : NodeWorld) (i : ℕ) (e : End) (a : StandsAt i e.link w.sites) (new : HostSite) (why : Loss)
    (before now : List Entry) → IsOrderly w → e.at_host ≡ false → SitesAre ks w.sites
    → SiteIs new (record a.site { link = happens a.site.link (at e (Lose why)) })
    → IsNodePlace k w.memory (counts why e.link w.controller) (near_ends w.sites)
    → now ≡ before ++ entries_for e.link (first_lost (side_of e) why (frames_to a.site.link e))
    → WorldBecomes k (slice_set ks i new) before now (frame_lost w e why)
lost_to_controller k ks w i e a new why before now o near all site place noted =
    let W : End → Type 0 = λ x. SiteIs new (record a.site { link = happens a.site.link (at x (Lose why)) })
    → now ≡ before ++ entries_for x.link (first_lost (side_of x) why (frames_to a.site.link x))
    → WorldBecomes k (slice_set ks i new) before now (frame_lost w x why) in
    subst W (controller_end_is e near)
    (λ is told. lost_there k (slice_set ks i new) w e.link a.site why before now (site_stands w i e.link a o) place
    (changed_there i e.link (lost_on why) ks w.sites a.site new a o.different refl all is) told) site noted

-- A line at which a host alone does something leaves the controller as it is.

module _ (k : Power) (ks new : List HostSite) (noted : List Entry) (header : Header) (w : NodeWorld)
    (world : WorldIs k ks w) where
  abbrev StillIs : NodeWorld → Type 0
  StillIs v = WorldIs k new v

  -- where the node at this host does something
  at_host : (said : Line) → MayPlay header said w → (e : End) → IsThere e.link w → (f : Work → Work)
      → (goes_on w said).0 ≡ (host_does w e.link NoInput f).0 → HostsPlayed new noted (line_step w said) → LinePlayed k new noted (line_step w said)
  at_host said may e there f is played = record { world = go (refusal_in w said) played.sites; told = played.told }
    where
      by : Option NoCause → NodeWorld × LineOutcome
      by (Some cause) = (w, WasRefused cause)
      by None = goes_on w said

      go : (o : Option NoCause) → SitesAre new (by o).0.sites → StillIs (by o).0
      go (Some cause) sites = record { controller = world.controller; sites = sites }
      go None sites =
          let s : Site = there.0 in
          let after : NodeWorld × List Entry = host_does w e.link NoInput f in
          subst StillIs (sym is)
          (host_becomes w e.link s there.1 may.goes_on.orderly (host_stepped s NoInput f) after (does_in_world w e.link s there.1 NoInput f)
          (stepped_leaves s NoInput f) k ks new [] after.1 world (grind arith)).world

  -- a host sends a message
  pub send_played : (said : Line) (e : End) (pid : _) (message : _) → said ≡ line.Send e pid message → MayPlay header said w
      → HostsPlayed new noted (line_step w (line.Send e pid message)) → LinePlayed k new noted (line_step w said)
  send_played said e pid message is may played =
      let now : MayPlay header (line.Send e pid message) w = subst (λ l. MayPlay header l w) is may in
      subst (λ l. LinePlayed k new noted (line_step w l)) (sym is) (at_host (line.Send e pid message) now e (is_there e.link now now.is_line.may_follow.known)
      (begins_with e.link (sending e.link (pid, message))) refl played)

  -- a host begins an init
  pub init_played : (said : Line) (e : End) (identity : _) (pipes : _) → said ≡ line.Init e identity pipes → MayPlay header said w
      → HostsPlayed new noted (line_step w (line.Init e identity pipes)) → LinePlayed k new noted (line_step w said)
  init_played said e identity pipes is may played =
      let now : MayPlay header (line.Init e identity pipes) w = subst (λ l. MayPlay header l w) is may in
      subst (λ l. LinePlayed k new noted (line_step w l)) (sym is)
      (at_host (line.Init e identity pipes) now e (is_there e.link now now.is_line.may_follow.1.known)
      (begins_with e.link (beginning identity pipes.items)) refl played)

-- ## Lines that no world of nodes plays

pub never_busy : {header : Header} {w : NodeWorld} (said : Line) (e : End) → said ≡ line.Busy e → MayPlay header said w → ⊥
never_busy said e is may = grind arith

pub never_ready : {header : Header} {w : NodeWorld} (said : Line) (e : End) → said ≡ line.Ready e → MayPlay header said w → ⊥
never_ready said e is may = grind arith

pub never_settles : {header : Header} {w : NodeWorld} (said : Line) (rounds : ℕ) → said ≡ line.Settle rounds → MayPlay header said w → ⊥
never_settles said rounds is may = grind arith
