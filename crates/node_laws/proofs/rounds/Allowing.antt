-- What happens in a world, and its rounds, are on each link the events that are said of them, and these may happen there.
use Rattle.node_laws.proofs.Words.{AllAllowed, AllByRecursion, AreDifferent, AreSendableTurns, AsksReset, AtController, AtEnd, AtHost, Bool, Controller, End}
use Rattle.node_laws.proofs.Words.{EndEvent, FetchMessage, GoesOnLink, GoesOut, Happening, Host, IsEvent, Link, LinkEnd, LinkEvent, LinkInput, List, NextFrame}
use Rattle.node_laws.proofs.Words.{Node, NodeWorld, None, NumberedEnd, Option, Running, Site, Some, Step, Takes, Ticks, TicksWithout, TimePasses, TimePassing}
use Rattle.node_laws.proofs.Words.{Work, [], after_controller, after_host, after_link_events, aged, all_aged, all_happen, ap, append_assoc, arith, arrival}
use Rattle.node_laws.proofs.Words.{by_option, by_test, can_happen, changed_if, comes_to, cond, controller_takes, controller_tick_on, controller_ticks}
use Rattle.node_laws.proofs.Words.{controller_work, end_c, end_h, end_of, end_takes_all, ending_of, ends_events, ends_in_order, ends_take_all, entries_for}
use Rattle.node_laws.proofs.Words.{eq-eqb, eqb-true, event_of, events_on, exchanged, false, flat_map, frames_at, happenings, happens, host_ticks, host_work}
use Rattle.node_laws.proofs.Words.{hosts_in, hosts_tick, input_of, is_late_at, is_waiting, length, link_after_all, link_after_controller, link_events_in}
use Rattle.node_laws.proofs.Words.{link_to, map, map-append, near_end_in, not, refl, replicate, round_events, rounds_events, rounds_of_world, site_at}
use Rattle.node_laws.proofs.Words.{site_takes, site_ticks, steps, subst, suc, sym, takes_on, tick_so, ticked_so, ticks_at_controller, ticks_on, true, turns_at}
use Rattle.node_laws.proofs.Words.{with_site, work_of, world_after_round, world_step, zero, ℕ, ◌&&◌, ◌++◌, ◌==◌, ◌∙◌, ◌∷◌, ◌≡◌}
use Rattle.history.specs.Histories.{Cause}
use Rattle.history.specs.Histories.Cause.{Taken, Ticked}
use Rattle.link_laws.specs.messages.Links.LinkEvent.{Ticks as LinkTicks}
use Rattle.node_laws.specs.rounds.BareRounds.{causes_of_round}
use Rattle.node_laws.proofs.links.Sites.{AreNodes, Clean, can_come, can_end, clf_line, reset_allowed, tick_allowed, uicc_line}
use Rattle.node_laws.proofs.links.Worlds.{IsFineNode, IsFineSite, IsFineWorld, fine_clean, may_here, near_clean, near_end_clean, ports_fine, so_host, step_fine}
use Rattle.node_laws.proofs.links.Worlds.{turns_fine}
use Rattle.node_laws.proofs.links.Works.{IsFineWork, steps_fine}
use Rattle.node_laws.proofs.order.Ticking.{aged_clean, far_sends, near_sends}
use Rattle.node_laws.proofs.telling.Events.{after-append, site_is, swapped}
use Rattle.node_laws.proofs.telling.WorldTicks.{host_turns, near_turns}
use Rattle.trace_model.specs.declared.line.Line.TheVariants as line

-- ## The ends of a round: those of the links ascending, of each link the controller's first; and the events of a round in their parts

-- the ends of the links with these hosts
abbrev pub ends_of : List ℕ → List End
ends_of [] = []
ends_of (k ∷ hosts) = end_c k ∷ end_h k ∷ ends_of hosts

pub order_is : (sites : List Site) → flat_map (λ (s : Site). end_c s.host ∷ end_h s.host ∷ []) sites ≡ ends_of (hosts_in sites)
order_is [] = refl
order_is (s ∷ sites) = ap (λ es. end_c s.host ∷ end_h s.host ∷ es) (order_is sites)

pub ends-append : (xs ys : List ℕ) → ends_of (xs ++ ys) ≡ ends_of xs ++ ends_of ys
ends-append [] ys = refl
ends-append (x ∷ xs) ys = ap (λ es. end_c x ∷ end_h x ∷ es) (ends-append xs ys)

-- none of these is this host
abbrev pub AreOthers : ℕ → List ℕ → Type 0
AreOthers h hosts = AllByRecursion (λ k. (h == k) ≡ false) hosts

-- the hosts before this one and behind it
pub record Split (h : ℕ) (hosts : List ℕ) : Type 0 where
  pub before : List ℕ
  pub behind : List ℕ
  pub parts : hosts ≡ before ++ h ∷ behind
  pub first : AreOthers h before
  pub last : AreOthers h behind

turned_round : (h : ℕ) (hosts : List ℕ) → AllByRecursion (λ k. (k == h) ≡ false) hosts → AreOthers h hosts
turned_round h [] a = tt
turned_round h (k ∷ hosts) a = (swapped k h a.0, turned_round h hosts a.1)

pub split : (sites : List Site) (h : ℕ) (s : Site) → AreDifferent (hosts_in sites) → site_at sites h ≡ Some s → Split h (hosts_in sites)
split [] h s d q = absurd (cc q)
split (x ∷ sites) h s d q = by_test (x.host == h)
    (λ p. let same : x.host ≡ h = eqb-true x.host h p in
    record {
      before = [];
      behind = hosts_in sites;
      parts = ap (λ k. k ∷ hosts_in sites) same;
      first = tt;
      last = turned_round h (hosts_in sites) (subst (λ n. AllByRecursion (λ k. (k == n) ≡ false) (hosts_in sites)) same d.0);
    })
    (λ p. let rest = split sites h s d.1 (rw p at q) in
    record {
      before = x.host ∷ rest.before;
      behind = rest.behind;
      parts = ap (λ ks. x.host ∷ ks) rest.parts;
      first = (swapped x.host h p, rest.first);
      last = rest.last;
    })

pub events-append : (h : ℕ) (xs ys : List End) (w : NodeWorld)
    → ends_events h w (xs ++ ys) ≡ ends_events h w xs ++ ends_events h (ends_take_all w xs).0 ys
events-append h [] ys w = refl
events-append h (x ∷ xs) ys w =
    let now : List LinkEvent = events_on h w (happenings w (line.Deliver x None)) in
    let v : NodeWorld = (end_takes_all w x).0 in
    ap (λ es. now ++ es) (events-append h xs ys v) ∙ sym (append_assoc now (ends_events h v xs) (ends_events h (ends_take_all v xs).0 ys))

-- ## The rounds of the link of a bare world are events that may happen on it

-- what causes do to the link
pub after_causes : (cs : List Cause) (l : Link) → link_after_all l cs ≡ after_link_events l (map event_of cs)
after_causes [] l = refl
after_causes (c ∷ cs) l = after_causes cs (happens l (event_of c))

pub map-replicate : (k : ℕ) (c : Cause) → map event_of (replicate k c) ≡ replicate k (event_of c)
map-replicate zero c = refl
map-replicate (suc k) c = ap (λ es. event_of c ∷ es) (map-replicate k c)

pub allowed-append : (es fs : List LinkEvent) (l : Link) → AllAllowed l es → AllAllowed (after_link_events l es) fs → AllAllowed l (es ++ fs)
allowed-append [] fs l a b = b
allowed-append (e ∷ es) fs l a b = (a.0, allowed-append es fs (happens l e) a.1 b)

-- ### A round

abbrev pub take_one : EndEvent
take_one = Step NextFrame (FetchMessage ∷ []) GoesOut

-- frames may be taken at any time
taken_near_allowed : (k : ℕ) (l : Link) → AllAllowed l (replicate k (AtController take_one))
taken_near_allowed zero l = tt
taken_near_allowed (suc k) l = ((tt, (tt, tt)), taken_near_allowed k (happens l (AtController take_one)))

taken_far_allowed : (k : ℕ) (l : Link) → AllAllowed l (replicate k (AtHost take_one))
taken_far_allowed zero l = tt
taken_far_allowed (suc k) l = ((tt, (tt, tt)), taken_far_allowed k (happens l (AtHost take_one)))

pub bare_round_allowed : (h : ℕ) (l : Link) → AllAllowed l (map event_of (causes_of_round h l))
bare_round_allowed h l =
    let near : List Cause = replicate (length l.to_controller) (Taken (end_of h Controller)) in
    let k : ℕ = length (link_after_all l near).to_host in
    let far : List Cause = replicate k (Taken (end_of h Host)) in
    let time : List LinkEvent = map event_of (Ticked ∷ []) in
    let first : AllAllowed l (map event_of near) =
    subst (AllAllowed l) (sym (map-replicate (length l.to_controller) (Taken (end_of h Controller)))) (taken_near_allowed (length l.to_controller) l) in
    let m : Link = after_link_events l (map event_of near) in
    let second : AllAllowed m (map event_of far) =
    subst (AllAllowed m) (sym (map-replicate k (Taken (end_of h Host)))) (taken_far_allowed k m) in
    let all : AllAllowed l (map event_of near ++ (map event_of far ++ time)) =
    allowed-append (map event_of near) (map event_of far ++ time) l first (allowed-append (map event_of far) time m second (((tt, tt), tt, (tt, tt)), tt)) in
    subst (AllAllowed l)
    (sym (map-append event_of near (far ++ Ticked ∷ []) ∙ ap (λ es. map event_of near ++ es) (map-append event_of far (Ticked ∷ [])))) all

-- ## What happens in a world is on each link the event that is said of it

-- ### Sites that change and keep their hosts

pub site_map : (f : Site → Site) → ((s : Site) → (f s).host ≡ s.host) → (sites : List Site) (h : ℕ) (s : Site) → site_at sites h ≡ Some s
    → (site_at (map f sites) h ≡ Some (f s)) × (s.host ≡ h)
site_map f keeps [] h s q = cc
site_map f keeps (x ∷ sites) h s q = by_test (x.host == h)
    (λ p. grind arith)
    (λ p. let r = site_map f keeps sites h s (rw p at q) in
    (rw (ap (λ (k : ℕ). k == h) (keeps x) ∙ p) r.0, r.1))

-- the controller's end of the link with the host k takes a frame
controller_took : (w : NodeWorld) (k h : ℕ) (s : Site) → site_at w.sites h ≡ Some s
    → GoesOnLink (world_step w (Takes (end_c k))).0 h s (controller_takes s.host w k)
controller_took w k h s q = go (input_of (link_to w.sites k) NextFrame) w.controller refl refl
  where
    go : (i : Option LinkInput) (c : Option Running) → input_of (link_to w.sites k) NextFrame ≡ i → w.controller ≡ c
        → GoesOnLink (world_step w (Takes (end_c k))).0 h s (controller_takes s.host w k)
    go None c p r = grind arith
    go (Some i) None p r = grind arith
    go (Some i) (Some r) p t =
        let work : Work = controller_work w r k NextFrame (steps (AtEnd k i)) in
        let one : LinkEvent = AtController (Step (comes_to k NextFrame s.host) (turns_at work s.host) (ending_of work)) in
        let world : (world_step w (Takes (end_c k))).0 ≡ ((after_controller w k NextFrame work).0) = rw (p, t) refl in
        let events : controller_takes s.host w k ≡ one ∷ [] = rw (p, t) refl in
        let F : Site → Site = link_after_controller k NextFrame work in
        record {
          later = F s;
          is = ap (λ (u : NodeWorld). site_at u.sites h) world ∙ (site_map F (λ x. refl) w.sites h s q).0;
          host = refl;
          link = ap (after_link_events s.link) (sym events);
        }

stays : (w v : NodeWorld) (h : ℕ) (s : Site) → v ≡ w → site_at w.sites h ≡ Some s → GoesOnLink v h s []
stays w v h s p q = record { later = s; is = ap (λ (u : NodeWorld). site_at u.sites h) p ∙ q; host = refl; link = refl }

goes_as : (w v : NodeWorld) (h : ℕ) (s : Site) (es fs : List LinkEvent) → es ≡ fs → GoesOnLink v h s fs → GoesOnLink v h s es
goes_as w v h s es fs p g = subst (GoesOnLink v h s) (sym p) g

pub changed_site : (k : ℕ) (f : Site → Site) → ((x : Site) → (f x).host ≡ x.host) → (sites : List Site) (h : ℕ) (s : Site) → site_at sites h ≡ Some s
    → site_at (with_site k f sites) h ≡ Some (changed_if (s.host == k) f s)
changed_site k f keeps sites h s q = (site_map (λ x. changed_if (x.host == k) f x) (λ x. grind arith) sites h s q).0

-- a host takes a frame: its own link
host_took_own : (w : NodeWorld) (s : Site) → site_at w.sites s.host ≡ Some s → GoesOnLink (world_step w (Takes (end_h s.host))).0 s.host s (site_takes s)
host_took_own w s q = go (input_of (exchanged s.link) NextFrame) s.node refl refl
  where
    link : link_to w.sites s.host ≡ s.link
    link = rw q refl

    go : (i : Option LinkInput) (c : Option Running) → input_of (exchanged s.link) NextFrame ≡ i → s.node ≡ c
        → GoesOnLink (world_step w (Takes (end_h s.host))).0 s.host s (site_takes s)
    go None c p r = grind arith
    go (Some i) None p r = grind arith
    go (Some i) (Some r) p t =
        let work : Work = host_work s r NextFrame (steps (AtEnd s.host i)) in
        let v : NodeWorld = record w { sites = with_site s.host (after_host NextFrame work) w.sites } in
        let one : LinkEvent = AtHost (Step NextFrame (turns_at work s.host) (ending_of work)) in
        let world : (world_step w (Takes (end_h s.host))).0 ≡ v = rw (link, p, q, t) refl in
        let at : site_at v.sites s.host ≡ Some (after_host NextFrame work s) =
        changed_site s.host (after_host NextFrame work) (λ x. refl) w.sites s.host s q
        ∙ ap (λ (b : Bool). Some (changed_if b (after_host NextFrame work) s)) (eq-eqb s.host s.host refl) in
        goes_as w (world_step w (Takes (end_h s.host))).0 s.host s (site_takes s) (one ∷ []) (rw (p, t) refl)
        (record { later = after_host NextFrame work s; is = ap (λ (u : NodeWorld). site_at u.sites s.host) world ∙ at; host = refl; link = refl })

-- and the link of another host
host_took_other : (w : NodeWorld) (k h : ℕ) (s : Site) → site_at w.sites h ≡ Some s → (s.host == k) ≡ false
    → GoesOnLink (world_step w (Takes (end_h k))).0 h s []
host_took_other w k h s q other = go (input_of (exchanged (link_to w.sites k)) NextFrame) (site_at w.sites k) refl refl
  where
    go : (i : Option LinkInput) (x : Option Site) → input_of (exchanged (link_to w.sites k)) NextFrame ≡ i → site_at w.sites k ≡ x
        → GoesOnLink (world_step w (Takes (end_h k))).0 h s []
    go None x p r = stays w (world_step w (Takes (end_h k))).0 h s (rw p refl) q
    go (Some i) None p r = stays w (world_step w (Takes (end_h k))).0 h s (rw (p, r) refl) q
    go (Some i) (Some x) p r = by_option x.node
        (λ t. stays w (world_step w (Takes (end_h k))).0 h s (rw (p, r, t) refl) q)
        (λ run t. let work : Work = host_work x run NextFrame (steps (AtEnd k i)) in
        let u : NodeWorld = record w { sites = with_site k (after_host NextFrame work) w.sites } in
        let world : (world_step w (Takes (end_h k))).0 ≡ u = rw (p, r, t) refl in
        let at : site_at u.sites h ≡ Some s =
        changed_site k (after_host NextFrame work) (λ y. refl) w.sites h s q ∙ ap (λ (b : Bool). Some (changed_if b (after_host NextFrame work) s)) other in
        record { later = s; is = ap (λ (z : NodeWorld). site_at z.sites h) world ∙ at; host = refl; link = refl })

-- the end of the host k takes a frame
host_took : (w : NodeWorld) (k h : ℕ) (s : Site) → site_at w.sites h ≡ Some s → GoesOnLink (world_step w (Takes (end_h k))).0 h s (takes_on s w (end_h k))
host_took w k h s q = go (s.host == k) refl
  where
    at : s.host ≡ h
    at = (site_map (λ x. x) (λ x. refl) w.sites h s q).1

    go : (b : Bool) → (s.host == k) ≡ b → GoesOnLink (world_step w (Takes (end_h k))).0 h s (takes_on s w (end_h k))
    go false p = goes_as w (world_step w (Takes (end_h k))).0 h s (takes_on s w (end_h k)) [] (rw p refl) (host_took_other w k h s q p)
    go true p =
        let own : GoesOnLink (world_step w (Takes (end_h s.host))).0 s.host s (site_takes s) =
        host_took_own w s (ap (site_at w.sites) at ∙ q) in
        let P : ℕ → Type 0 = λ j. GoesOnLink (world_step w (Takes (end_h j))).0 s.host s (site_takes s) in
        let Q : ℕ → Type 0 = λ j. GoesOnLink (world_step w (Takes (end_h k))).0 j s (site_takes s) in
        goes_as w (world_step w (Takes (end_h k))).0 h s (takes_on s w (end_h k)) (site_takes s) (rw p refl) (subst Q at (subst P (eqb-true s.host k p) own))

-- ### A tick

-- hosts have their ticks one after another, each by itself
hosts_tick_map : (sites : List Site) → (hosts_tick sites).0 ≡ map (λ (s : Site). (host_ticks s).0) sites
hosts_tick_map [] = refl
hosts_tick_map (s ∷ sites) = ap (λ ss. (host_ticks s).0 ∷ ss) (hosts_tick_map sites)

-- what a tick of a host leaves of it
site_ticked : (s : Site) → ((host_ticks s).0.host ≡ s.host)
    × ((host_ticks s).0.link ≡ exchanged (ticks_at_controller (exchanged s.link) (site_ticks s).turns (site_ticks s).ending))
site_ticked s = by_option s.node (λ q. (rw q refl, rw q refl)) (λ r q. (rw q refl, rw q refl))

-- the link after the tick of the controller, with what was late there
abbrev near_ticked : Link → Node × Bool → Link
near_ticked l c = ticked_so l c.1 c.0.turns c.0.ending

-- what the tick of the controller leaves of a host
controller_ticked : (w : NodeWorld) (h : ℕ) (s : Site) → site_at w.sites h ≡ Some s
    → (later : Site) × (site_at (controller_ticks w).0.sites h ≡ Some later) × (later.host ≡ s.host)
    × (later.link ≡ near_ticked s.link (controller_tick_on s.host w)) × (later.node ≡ s.node)
controller_ticked w h s q = by_option w.controller
    (λ p. let F : Site → Site = λ x. record x { link = ticks_at_controller x.link [] GoesOut } in
    let m = site_map F (λ x. refl) w.sites h s q in
    let world : (controller_ticks w).0.sites ≡ map F w.sites = rw p refl in
    (F s, ap (λ ss. site_at ss h) world ∙ m.0, refl, rw p refl, refl))
    (λ r p. let work : Work = steps TimePasses (work_of r w.memory.plan (λ k. (link_to w.sites k).controller) []) in
    let F : Site → Site = λ x. record x { link = ticked_so x.link (is_late_at work x.host) (turns_at work x.host) (ending_of work) } in
    let m = site_map F (λ x. refl) w.sites h s q in
    let world : (controller_ticks w).0.sites ≡ map F w.sites = rw p refl in
    (F s, ap (λ ss. site_at ss h) world ∙ m.0, refl, rw p refl, refl))

-- the link after both
tick_is : (l : Link) (late : Bool) (c h : Node)
    → exchanged (ticks_at_controller (exchanged (ticked_so (aged l) late c.turns c.ending)) h.turns h.ending) ≡ happens l (tick_so l late c h)
tick_is l late c h = by_test (late && not (is_waiting l.controller.side.shdlc)) (λ q. rw q refl) (λ q. rw q refl)

-- a tick of the world
pub record TickedOfLinkEvents (w v : NodeWorld) (h : ℕ) (s : Site) : Type 0 where
  pub between : Site
  pub near : site_at (controller_ticks (all_aged w).0).0.sites h ≡ Some between
  pub node : between.node ≡ s.node
  pub far : between.link.host.side ≡ s.link.host.side
  pub goes : GoesOnLink v h s (ticks_on s w between)

pub world_ticked : (w : NodeWorld) (h : ℕ) (s : Site) → site_at w.sites h ≡ Some s → TickedOfLinkEvents w (world_step w Ticks).0 h s
world_ticked w h s q =
    let G : Site → Site = λ x. record x { link = aged x.link } in
    let old : NodeWorld = (all_aged w).0 in
    let near = controller_ticked old h (G s) (site_map G (λ x. refl) w.sites h s q).0 in
    let between : Site = near.0 in
    let H : Site → Site = λ x. (host_ticks x).0 in
    let far = site_map H (λ x. (site_ticked x).0) (controller_ticks old).0.sites h between near.1 in
    let c : Node × Bool = controller_tick_on s.host old in
    let d : Node = site_ticks between in
    record {
      between = between;
      near = near.1;
      node = near.4;
      far = ap (λ (l : Link). l.host.side) near.3 ∙ ap (λ (e : NumberedEnd). e.side) (so_host (aged s.link) c.1 c.0.turns c.0.ending);
      goes = record {
        later = H between;
        is = ap (λ ss. site_at ss h) (hosts_tick_map (controller_ticks old).0.sites) ∙ far.0;
        host = (site_ticked between).0 ∙ near.2;
        link = (site_ticked between).1
            ∙ (ap (λ (l : Link). exchanged (ticks_at_controller (exchanged l) d.turns d.ending)) near.3 ∙ tick_is s.link c.1 c.0 d);
      };
    }

-- ### Both

pub takes_go : (w : NodeWorld) (e : End) (h : ℕ) (s : Site) → site_at w.sites h ≡ Some s
    → GoesOnLink (world_step w (Takes e)).0 h s (link_events_in h w (Takes e))
takes_go w e h s q = by_test e.at_host (λ is. rw is (rw q (host_took w e.link h s q))) (λ is. rw is (rw q (controller_took w e.link h s q)))

pub ticks_go : (w : NodeWorld) (h : ℕ) (s : Site) → site_at w.sites h ≡ Some s → GoesOnLink (world_step w Ticks).0 h s (link_events_in h w Ticks)
ticks_go w h s q =
    let t = world_ticked w h s q in
    rw (q, t.near) t.goes

-- ## The rounds of a world are on each link the events that are said of them

go_then : (v u : NodeWorld) (h : ℕ) (s : Site) (es fs : List LinkEvent) → (g : GoesOnLink v h s es) → GoesOnLink u h g.later fs → GoesOnLink u h s (es ++ fs)
go_then v u h s es fs g k =
    record {
      later = k.later;
      is = k.is;
      host = k.host ∙ g.host;
      link = k.link ∙ (ap (λ (l : Link). after_link_events l fs) g.link ∙ sym (after-append es fs s.link));
    }

rests_so : (w : NodeWorld) (h : ℕ) (s : Site) → site_at w.sites h ≡ Some s → GoesOnLink w h s []
rests_so w h s q = record { later = s; is = q; host = refl; link = refl }

-- frames are taken, or time passes
abbrev pub ArePassing : List Happening → Type 0
ArePassing [] = Unit {0}
ArePassing (Takes e ∷ causes) = ArePassing causes
ArePassing (Ticks ∷ causes) = ArePassing causes
ArePassing (_ ∷ causes) = ⊥

-- these happen, until one can't
pub all_go : (causes : List Happening) (w : NodeWorld) (h : ℕ) (s : Site) → ArePassing causes → site_at w.sites h ≡ Some s
    → GoesOnLink (all_happen w causes).0 h s (events_on h w causes)
all_go [] w h s p q = rests_so w h s q
all_go (Takes e ∷ causes) w h s p q = go (can_happen w (Takes e)) refl (takes_go w e h s q) (λ t r. all_go causes (world_step w (Takes e)).0 h t p r)
  where
    go : (b : Bool) → can_happen w (Takes e) ≡ b → GoesOnLink (world_step w (Takes e)).0 h s (link_events_in h w (Takes e))
        → ((t : Site) → site_at (world_step w (Takes e)).0.sites h ≡ Some t
        → GoesOnLink (all_happen (world_step w (Takes e)).0 causes).0 h t (events_on h (world_step w (Takes e)).0 causes))
        → GoesOnLink (all_happen w (Takes e ∷ causes)).0 h s (events_on h w (Takes e ∷ causes))
    go true b one later =
        let v : NodeWorld = (world_step w (Takes e)).0 in
        rw b (go_then v (all_happen v causes).0 h s (link_events_in h w (Takes e)) (events_on h v causes) one (later one.later one.is))
    go false b one later = rw b (rests_so w h s q)
all_go (Ticks ∷ causes) w h s p q =
    let v : NodeWorld = (world_step w Ticks).0 in
    let one = ticks_go w h s q in
    go_then v (all_happen v causes).0 h s (link_events_in h w Ticks) (events_on h v causes) one (all_go causes v h one.later p one.is)
all_go (_ ∷ causes) w h s p q = absurd p

pub takes_pass : (k : ℕ) (e : End) → ArePassing (replicate k (Takes e))
takes_pass zero e = tt
takes_pass (suc k) e = takes_pass k e

pub ends_go : (ends : List End) (w : NodeWorld) (h : ℕ) (s : Site) → site_at w.sites h ≡ Some s → GoesOnLink (ends_take_all w ends).0 h s (ends_events h w ends)
ends_go [] w h s q = rests_so w h s q
ends_go (e ∷ ends) w h s q =
    let causes : List Happening = happenings w (line.Deliver e None) in
    let v : NodeWorld = (end_takes_all w e).0 in
    let one = all_go causes w h s (takes_pass (length (frames_at w e)) e) q in
    go_then v (ends_take_all v ends).0 h s (events_on h w causes) (ends_events h v ends) one (ends_go ends v h one.later one.is)

pub round_goes : (w : NodeWorld) (h : ℕ) (s : Site) → site_at w.sites h ≡ Some s → GoesOnLink (world_after_round w) h s (round_events h w)
round_goes w h s q =
    let v : NodeWorld = (ends_take_all w (ends_in_order w)).0 in
    let one = ends_go (ends_in_order w) w h s q in
    go_then v (all_happen v (Ticks ∷ [])).0 h s (ends_events h w (ends_in_order w)) (events_on h v (Ticks ∷ [])) one
    (all_go (Ticks ∷ []) v h one.later tt one.is)

pub rounds_go : (r : ℕ) (w : NodeWorld) (h : ℕ) (s : Site) → site_at w.sites h ≡ Some s → GoesOnLink (rounds_of_world r w).0 h s (rounds_events h r w)
rounds_go zero w h s q = rests_so w h s q
rounds_go (suc r) w h s q =
    let v : NodeWorld = world_after_round w in
    let one = round_goes w h s q in
    go_then v (rounds_of_world r v).0 h s (round_events h w) (rounds_events h r v) one (rounds_go r v h one.later one.is)

-- ## What the rounds of a world are on a link may happen on it

-- the site with this number
pub fine_there : (w : NodeWorld) (h : ℕ) (s : Site) → IsFineWorld w → site_at w.sites h ≡ Some s → IsFineSite s
fine_there w h s fine q = site_is IsFineSite w.sites h s fine.sites q

-- ### A frame is taken

module _ (w : NodeWorld) (h : ℕ) (s : Site) (fine : IsFineWorld w) (q : site_at w.sites h ≡ Some s) where
  here : IsFineSite s
  here = fine_there w h s fine q

  near_step : (k : ℕ) (i : LinkInput) (r : Running) → w.controller ≡ Some r
      → IsEvent s.link (AtController (Step (comes_to k NextFrame s.host) (turns_at (controller_work w r k NextFrame (steps (AtEnd k i))) s.host)
      (ending_of (controller_work w r k NextFrame (steps (AtEnd k i))))))
  near_step k i r runs =
      let ends : ℕ → NumberedEnd = λ j. near_end_in (link_to w.sites j) (comes_to k NextFrame j) in
      let work : Work = controller_work w r k NextFrame (steps (AtEnd k i)) in
      let done : IsFineWork work =
      steps_fine (AtEnd k i) (work_of r w.memory.plan ends (entries_for k (arrival Controller (link_to w.sites k) NextFrame)))
      (ports_fine ends (λ j. near_end_clean (link_to w.sites j) (comes_to k NextFrame j) (near_clean w.sites j (fine_clean w.sites fine.sites))) r.desks
      (subst IsFineNode runs fine.controller)) in (
        can_come s.link (comes_to k NextFrame s.host) (may_here k NextFrame s.host tt) here.link.line.clf,
        (turns_fine work s.host done, can_end s.link.controller.side.role (ending_of work) (clf_line s.link.controller.side.role here.link.line.clf)),
      )

  controller_allowed : (k : ℕ) → AllAllowed s.link (controller_takes s.host w k)
  controller_allowed k = go (input_of (link_to w.sites k) NextFrame) w.controller refl refl
    where
      go : (i : Option LinkInput) (c : Option Running) → input_of (link_to w.sites k) NextFrame ≡ i → w.controller ≡ c
          → AllAllowed s.link (controller_takes s.host w k)
      go None c p r = subst (AllAllowed s.link) (sym (let z : controller_takes s.host w k ≡ [] = rw p refl in z)) tt
      go (Some i) None p r = subst (AllAllowed s.link) (sym (let z : controller_takes s.host w k ≡ [] = rw (p, r) refl in z)) tt
      go (Some i) (Some r) p t =
          let work : Work = controller_work w r k NextFrame (steps (AtEnd k i)) in
          let one : LinkEvent = AtController (Step (comes_to k NextFrame s.host) (turns_at work s.host) (ending_of work)) in
          let events : controller_takes s.host w k ≡ one ∷ [] = rw (p, t) refl in
          subst (AllAllowed s.link) (sym events) (near_step k i r t, tt)

  far_step : (i : LinkInput) (r : Running) → s.node ≡ Some r
      → IsEvent s.link (AtHost (Step NextFrame (turns_at (host_work s r NextFrame (steps (AtEnd s.host i))) s.host)
      (ending_of (host_work s r NextFrame (steps (AtEnd s.host i))))))
  far_step i r runs =
      let ends : ℕ → NumberedEnd = λ j. near_end_in (exchanged s.link) NextFrame in
      let work : Work = host_work s r NextFrame (steps (AtEnd s.host i)) in
      let done : IsFineWork work =
      steps_fine (AtEnd s.host i) (work_of r s.memory.plan ends (entries_for s.host (arrival Host (exchanged s.link) NextFrame)))
      (ports_fine ends (λ j. near_end_clean (exchanged s.link) NextFrame here.link.line.far) r.desks (subst IsFineNode runs here.node)) in
      (tt, (turns_fine work s.host done, can_end s.link.host.side.role (ending_of work) (uicc_line s.link.host.side.role here.link.line.uicc)))

  site_allowed : AllAllowed s.link (site_takes s)
  site_allowed = go (input_of (exchanged s.link) NextFrame) s.node refl refl
    where
      go : (i : Option LinkInput) (c : Option Running) → input_of (exchanged s.link) NextFrame ≡ i → s.node ≡ c → AllAllowed s.link (site_takes s)
      go None c p r = subst (AllAllowed s.link) (sym (let z : site_takes s ≡ [] = rw p refl in z)) tt
      go (Some i) None p r = subst (AllAllowed s.link) (sym (let z : site_takes s ≡ [] = rw (p, r) refl in z)) tt
      go (Some i) (Some r) p t =
          let work : Work = host_work s r NextFrame (steps (AtEnd s.host i)) in
          let events : site_takes s ≡ (AtHost (Step NextFrame (turns_at work s.host) (ending_of work))) ∷ [] = rw (p, t) refl in
          subst (AllAllowed s.link) (sym events) (far_step i r t, tt)

  pub takes_allowed : (e : End) → AllAllowed s.link (link_events_in h w (Takes e))
  takes_allowed e = subst (AllAllowed s.link) (sym (let z : link_events_in h w (Takes e) ≡ takes_on s w e = rw q refl in z)) (go e.at_host (s.host == e.link))
    where
      go : (a b : Bool) → AllAllowed s.link (cond a (cond b (site_takes s) []) (controller_takes s.host w e.link))
      go true true = site_allowed
      go true false = tt
      go false b = controller_allowed e.link

  -- ### Time passes

  near_turns_fine : AreSendableTurns (controller_tick_on s.host (all_aged w).0).0.turns
  near_turns_fine = go w.controller refl
    where
      old : NodeWorld
      old = (all_aged w).0

      go : (c : Option Running) → w.controller ≡ c → AreSendableTurns (controller_tick_on s.host old).0.turns
      go c p =
          let sends : AreSendableTurns (near_turns old s.host c) =
          near_sends old s.host c (aged_clean w.sites fine.sites) (subst IsFineNode p fine.controller) in
          subst AreSendableTurns (sym (is c p)) sends
        where
          is : (c : Option Running) → w.controller ≡ c → (controller_tick_on s.host old).0.turns ≡ near_turns old s.host c
          is None r = rw r refl
          is (Some n) r = rw r refl

  far_turns_fine : (x : Site) → x.node ≡ s.node → x.link.host.side ≡ s.link.host.side → AreSendableTurns (site_ticks x).turns
  far_turns_fine x node side = go x.node refl
    where
      go : (c : Option Running) → x.node ≡ c → AreSendableTurns (site_ticks x).turns
      go c p =
          let clean : Clean x.link.host.side = (let C : LinkEnd → Type 0 = Clean in subst C (sym side) here.link.line.far) in
          subst AreSendableTurns (sym (is c p)) (far_sends x c clean (subst IsFineNode (sym node ∙ p) here.node))
        where
          is : (c : Option Running) → x.node ≡ c → (site_ticks x).turns ≡ host_turns x c
          is None r = rw r refl
          is (Some n) r = rw r refl

  tick_so_allowed : (late : Bool) (c d : Node) → AreNodes c d → IsEvent s.link (tick_so s.link late c d)
  tick_so_allowed late c d sends = by_test (late && not (is_waiting s.link.controller.side.shdlc))
      (λ r. let is : tick_so s.link late c d ≡ TicksWithout (Step (AsksReset None) c.turns c.ending ∷ []) d = rw r refl in
      subst (IsEvent s.link) (sym is) (reset_allowed s.link c d sends here.link.line (grind arith)))
      (λ r. let is : tick_so s.link late c d ≡ LinkTicks c [] d = rw r refl in
      subst (IsEvent s.link) (sym is) (tick_allowed s.link c d sends here.link.line))

  pub ticks_allowed : AllAllowed s.link (link_events_in h w TimePassing)
  ticks_allowed =
      let t : TickedOfLinkEvents w (world_step w TimePassing).0 h s = world_ticked w h s q in
      let c : Node × Bool = controller_tick_on s.host (all_aged w).0 in
      let is : link_events_in h w TimePassing ≡ ticks_on s w t.between = (let near = t.near in rw (q, near) refl) in
      let sends : AreNodes c.0 (site_ticks t.between) =
      record { controller = near_turns_fine; host = far_turns_fine t.between t.node t.far } in
      subst (AllAllowed s.link) (sym is) (tick_so_allowed c.1 c.0 (site_ticks t.between) sends, tt)

-- ### Rounds

pub on_allowed : (causes : List Happening) (w : NodeWorld) (h : ℕ) (s : Site) → ArePassing causes → IsFineWorld w → site_at w.sites h ≡ Some s
    → AllAllowed s.link (events_on h w causes)
on_allowed [] w h s p fine q = tt
on_allowed (Takes e ∷ causes) w h s p fine q =
    let g = takes_go w e h s q in
    let v : NodeWorld = (world_step w (Takes e)).0 in
    go (can_happen w (Takes e))
    (subst (λ l. AllAllowed l (events_on h v causes)) g.link (on_allowed causes v h g.later p (step_fine w (Takes e) tt fine) g.is))
  where
    v : NodeWorld
    v = (world_step w (Takes e)).0

    go : (b : Bool) → AllAllowed (after_link_events s.link (link_events_in h w (Takes e))) (events_on h v causes)
        → AllAllowed s.link (cond b (link_events_in h w (Takes e) ++ events_on h v causes) [])
    go true more = allowed-append (link_events_in h w (Takes e)) (events_on h v causes) s.link (takes_allowed w h s fine q e) more
    go false more = tt
on_allowed (TimePassing ∷ causes) w h s p fine q =
    let v : NodeWorld = (world_step w TimePassing).0 in
    let g = ticks_go w h s q in
    allowed-append (link_events_in h w TimePassing) (events_on h v causes) s.link (ticks_allowed w h s fine q)
    (subst (λ l. AllAllowed l (events_on h v causes)) g.link (on_allowed causes v h g.later p (step_fine w TimePassing tt fine) g.is))
on_allowed (_ ∷ causes) w h s p fine q = absurd p

-- what happens leaves a world in which nodes send what may be sent
on_fine : (causes : List Happening) (w : NodeWorld) → ArePassing causes → IsFineWorld w → IsFineWorld (all_happen w causes).0
on_fine [] w p fine = fine
on_fine (Takes e ∷ causes) w p fine = by_test (can_happen w (Takes e))
    (λ r. rw r (on_fine causes (world_step w (Takes e)).0 p (step_fine w (Takes e) tt fine)))
    (λ r. rw r fine)
on_fine (TimePassing ∷ causes) w p fine = on_fine causes (world_step w TimePassing).0 p (step_fine w TimePassing tt fine)
on_fine (_ ∷ causes) w p fine = absurd p

pub ends_allowed : (ends : List End) (w : NodeWorld) (h : ℕ) (s : Site) → IsFineWorld w → site_at w.sites h ≡ Some s
    → AllAllowed s.link (ends_events h w ends) × IsFineWorld (ends_take_all w ends).0
ends_allowed [] w h s fine q = (tt, fine)
ends_allowed (e ∷ ends) w h s fine q =
    let causes : List Happening = happenings w (line.Deliver e None) in
    let v : NodeWorld = (end_takes_all w e).0 in
    let pass : ArePassing causes = takes_pass (length (frames_at w e)) e in
    let g = all_go causes w h s pass q in
    let more = ends_allowed ends v h g.later (on_fine causes w pass fine) g.is in (
      allowed-append (events_on h w causes) (ends_events h v ends) s.link (on_allowed causes w h s pass fine q)
          (subst (λ l. AllAllowed l (ends_events h v ends)) g.link more.0),
      more.1,
    )

pub round_allowed : (w : NodeWorld) (h : ℕ) (s : Site) → IsFineWorld w → site_at w.sites h ≡ Some s
    → AllAllowed s.link (round_events h w) × IsFineWorld (world_after_round w)
round_allowed w h s fine q =
    let v : NodeWorld = (ends_take_all w (ends_in_order w)).0 in
    let one = ends_allowed (ends_in_order w) w h s fine q in
    let g = ends_go (ends_in_order w) w h s q in (
      allowed-append (ends_events h w (ends_in_order w)) (events_on h v (TimePassing ∷ [])) s.link one.0
          (subst (λ l. AllAllowed l (events_on h v (TimePassing ∷ []))) g.link (on_allowed (TimePassing ∷ []) v h g.later tt one.1 g.is)),
      on_fine (TimePassing ∷ []) v tt one.1,
    )

-- all that rounds of a world are on a link may happen there
pub rounds_allowed : (r : ℕ) (w : NodeWorld) (h : ℕ) (s : Site) → IsFineWorld w → site_at w.sites h ≡ Some s → AllAllowed s.link (rounds_events h r w)
rounds_allowed zero w h s fine q = tt
rounds_allowed (suc r) w h s fine q =
    let v : NodeWorld = world_after_round w in
    let one = round_allowed w h s fine q in
    let g = round_goes w h s q in
    allowed-append (round_events h w) (rounds_events h r v) s.link one.0
    (subst (λ l. AllAllowed l (rounds_events h r v)) g.link (rounds_allowed r v h g.later one.1 g.is))
