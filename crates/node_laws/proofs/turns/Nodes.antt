-- What waits at the ends of a world as a node of it has a step, the controller or a host.
use Rattle.std.proofs.Math.Bool.{and-false}
use Rattle.node_laws.proofs.Words.{AreDifferent, AtEnd, Bool, Comes, Controller, Deed, Desk, End, Entry, HasEnds, Host, IsOutside, Link, LinkEnd, LinkInput}
use Rattle.node_laws.proofs.Words.{List, Loss, Memory, Message, NoInput, NodeInput, NodeWorld, None, NumberedEnd, OnWire, Option, Port, Running, Site, Some}
use Rattle.node_laws.proofs.Words.{Step, TimePasses, Work, [], after_controller, after_host, after_planned, after_tick, aged_entries, ap, arith, arrival}
use Rattle.node_laws.proofs.Words.{begins_with, by_option, by_test, changed_if, comes_to, cond, controller_work, end_c, end_h, ending_entries, ending_of}
use Rattle.node_laws.proofs.Words.{entries_for, eq-eqb, eqb-true, exchanged, false, first_lost, flat_map, frames_noted, host_tick, host_work, hosts_in}
use Rattle.node_laws.proofs.Words.{hosts_of_ends, if◌then◌else◌, input_of, is_late_at, is_some, link_after_controller, link_to, map, near_end_in, own_side}
use Rattle.node_laws.proofs.Words.{port_at, port_for, refl, runs_on, same_end, same_number, site_at, site_ticked, steps, steps_at_controller, subst, sym}
use Rattle.node_laws.proofs.Words.{tick_host, ticked_so, true, true≢false, turns_at, wires_for, with_site, work_of, ℕ, ◌&&◌, ◌++◌, ◌==◌, ◌∙◌, ◌∷◌, ◌≡◌}
use Rattle.link_laws.specs.entries.Entries.{End as Side}
use Rattle.node_laws.proofs.kept.Events.{changed_host as changed_site}
use Rattle.node_laws.proofs.links.Sites.{here_host}
use Rattle.node_laws.proofs.links.Worlds.{so_host}
use Rattle.node_laws.proofs.readings.Sites.{comes_outside, near_end_side}
use Rattle.node_laws.proofs.telling.Events.{hosts_same_of_nodes as hosts_same, is_step, link_is, ports_for, site_host, site_map, stands, swapped}
use Rattle.node_laws.proofs.telling.Ticks.{ending_all, lost_all, wires_all}
use Rattle.node_laws.proofs.telling.Steps.{Keeps, after_coming, begins_keep, steps_keep, tick_keeps}
use Rattle.node_laws.proofs.telling.Accounts.{AreMute}
use Rattle.node_laws.proofs.turns.Passing.{AreNoGots, AreStill, Fresh, Goes, IsNoGot, Knows, Stands, begins_stand, ended_with, goes-append, has_side, input_on}
use Rattle.node_laws.proofs.turns.Passing.{late_got, left_by, notes_still, step_got, steps_stand, still_goes, tick_got, ticks_got}

-- ## What waits at the ends of a world as one node has a step

-- ### Entries that tell of no message that came

pub lost_none : (who : Side) (why : Loss) (xs : List OnWire) → AreNoGots (first_lost who why xs)
lost_none = lost_all IsNoGot (λ w c why. tt)

pub aged_none : (one other : Side) (xs ys : List OnWire) → AreNoGots (aged_entries one xs ++ aged_entries other ys)
aged_none = wires_all IsNoGot (λ w c. tt)

pub frames_still : (e : End) (who : Side) (h : ℕ) (l : Link) (k : Work) → AreStill e (frames_noted who h l k)
frames_still e who h l k = by_option (port_at k.ports h)
    (λ q. rw q tt)
    (λ p q. rw q (notes_still e h (ending_entries who l p.side (ending_of k))
    (ending_all IsNoGot (λ w c. tt) (λ w c. tt) (λ w. tt) who l p.side (ending_of k))))

pub arrival_still : (e : End) (who : Side) (h : ℕ) (l : Link) (comes : Comes) → AreStill e (entries_for h (arrival who l comes))
arrival_still e who h l comes = grind arith

-- ### Worlds

-- While a node runs, what waits at its end is what came there and wasn't fetched; while it doesn't, its end is new.
abbrev pub ByPower : Bool → List Message → List Message → Type 0
ByPower true q got = q ≡ got
ByPower false q got = got ≡ []

-- so it is at the controller's end of a link
abbrev pub NearWaits : Option Running → List Message → Option Site → Type 0
NearWaits r q None = Unit {0}
NearWaits r q (Some s) = ByPower (is_some r) q s.link.controller.side.got

-- and at the host's
abbrev pub FarWaits : List Message → Option Site → Type 0
FarWaits q None = Unit {0}
FarWaits q (Some s) = ByPower (is_some s.node) q s.link.host.side.got

abbrev pub Waits : NodeWorld → Bool → ℕ → List Message → Type 0
Waits w false h q = NearWaits w.controller q (site_at w.sites h)
Waits w true h q = FarWaits q (site_at w.sites h)

abbrev pub end_at : Bool → ℕ → End
end_at b h = record { link = h; at_host = b }

-- what waits at an end as a world becomes v
pub record Moves (b : Bool) (h : ℕ) (v : NodeWorld) (t : List Entry) (q : List Message) : Type 0 where
  pub left : List Message
  pub goes : Goes (end_at b h) q t left
  pub waits : Waits v b h left

abbrev pub AllMove : NodeWorld → NodeWorld → List Entry → Type 0
AllMove w v t = (b : Bool) (h : ℕ) (q : List Message) → Waits w b h q → Moves b h v t q

pub move_then : (w v u : NodeWorld) (t more : List Entry) → AllMove w v t → AllMove v u more → AllMove w u (t ++ more)
move_then w v u t more a b side h q x =
    let first : Moves side h v t q = a side h q x in
    let second : Moves side h u more first.left = b side h first.left first.waits in
    record { left = second.left; goes = goes-append (end_at side h) t more q first.left second.left first.goes second.goes; waits = second.waits }

-- these entries leave what waits at an end
abbrev pub Leaves : End → List Entry → Type 0
Leaves e t = (q : List Message) → Goes e q t q

pub leaves-append : (e : End) (s t : List Entry) → Leaves e s → Leaves e t → Leaves e (s ++ t)
leaves-append e s t a b q = goes-append e s t q q q (a q) (b q)

pub still_leaves : (e : End) (t : List Entry) → AreStill e t → Leaves e t
still_leaves e t a q = still_goes e t q a

pub flat_leaves : {X : Type 0} (e : End) (f : X → List Entry) → ((x : X) → Leaves e (f x)) → (xs : List X) → Leaves e (flat_map f xs)
flat_leaves e f one [] q = refl
flat_leaves e f one (x ∷ xs) q = leaves-append e (f x) (flat_map f xs) (one x) (flat_leaves e f one xs) q

-- ### Sites

pub site_none : (f : Site → Site) → ((s : Site) → (f s).host ≡ s.host) → (sites : List Site) (h : ℕ) → site_at sites h ≡ None
    → site_at (map f sites) h ≡ None
site_none f keeps [] h q = refl
site_none f keeps (x ∷ sites) h q = by_test (x.host == h)
    (λ e. let is : Some x ≡ None = rw e at q in absurd (cc is))
    (λ e. let passed : ((f x).host == h) ≡ false = same ∙ e in rw passed (site_none f keeps sites h (rw e at q)))
  where
    same : ((f x).host == h) ≡ (x.host == h)
    same = ap (λ n. n == h) (keeps x)

pub sites_is : (f : Site → Site) → ((s : Site) → (f s).host ≡ s.host) → (sites : List Site) (h : ℕ) (P : Option Site → Type 0)
    → (site_at sites h ≡ None → P None) → ((s : Site) → site_at sites h ≡ Some s → P (Some (f s))) → P (site_at (map f sites) h)
sites_is f keeps sites h P none some = by_option (site_at sites h)
    (λ q. subst P (sym (site_none f keeps sites h q)) (none q))
    (λ s q. subst P (sym (site_map f keeps sites h s q)) (some s q))

-- what waits at the end of a host as it becomes v
pub record OwnMoves (h : ℕ) (v : Site) (t : List Entry) (q : List Message) : Type 0 where
  pub left : List Message
  pub goes : Goes (end_h h) q t left
  pub waits : FarWaits left (Some v)

-- a host and its link become others
pub record SiteGoes (s v : Site) (t : List Entry) : Type 0 where
  pub near : v.link.controller.side.got ≡ s.link.controller.side.got
  pub goes : (q : List Message) → FarWaits q (Some s) → OwnMoves s.host v t q
  pub others : (e : End) → same_end (end_h s.host) e ≡ false → Leaves e t

with_none : (k : ℕ) (g : Site → Site) (sites : List Site) → site_at sites k ≡ None → with_site k g sites ≡ sites
with_none k g [] q = refl
with_none k g (x ∷ sites) q = by_test (x.host == k)
    (λ e. let is : Some x ≡ None = rw e at q in absurd (cc is))
    (λ e. rw e (ap (λ l. x ∷ l) (with_none k g sites (rw e at q))))

-- one of them does, and the power of the controller stays
module _ (w : NodeWorld) (c : Option Running) (k : ℕ) (g : Site → Site) (t : List Entry) (power : is_some c ≡ is_some w.controller)
    (keeps : (x : Site) → (g x).host ≡ x.host) where
  abbrev f : Site → Site
  f x = changed_if (x.host == k) g x

  same_host : (x : Site) → (f x).host ≡ x.host
  same_host x = changed_site (x.host == k) g x (keeps x)

  abbrev After : NodeWorld
  After = record w { controller = c; sites = with_site k g w.sites }

  -- the site there is this one, or another
  there : (s : Site) → site_at w.sites k ≡ Some s → (h : ℕ) (x : Site) → site_at w.sites h ≡ Some x → (P : Site → Type 0)
      → (h ≡ k → s ≡ x → P (g x)) → ((k == h) ≡ false → P x) → P (f x)
  there s found h x q P mine other = by_test (x.host == k)
      (λ e. let is : h ≡ k = sym (site_host w.sites h x q) ∙ eqb-true x.host k e in
      let same : Some x ≡ Some s = sym q ∙ (ap (site_at w.sites) is ∙ found) in
      rw e (mine is cc))
      (λ e. rw e (other (swapped h k (ap (λ n. n == k) (sym (site_host w.sites h x q)) ∙ e))))

  site_moves : (s : Site) → site_at w.sites k ≡ Some s → SiteGoes s (g s) t → AllMove w After t
  site_moves s found a false h q x = record {
    left = q;
    goes = a.others (end_c h) (and-false (s.host == h)) q;
    waits = sites_is f same_host w.sites h (NearWaits c q) (λ z. tt)
        (λ y z.
        there s found h y z (λ v. ByPower (is_some c) q v.link.controller.side.got)
        (grind arith)
        (λ off. (subst (λ b. ByPower b q y.link.controller.side.got) (sym power) (grind arith))));
  }
  site_moves s found a true h q x = by_test (k == h)
      (λ e. let is : k ≡ h = eqb-true k h e in
      let own : OwnMoves s.host (g s) t q = a.goes q (subst (FarWaits q) (ap (site_at w.sites) (sym is) ∙ found) x) in
      record {
        left = own.left;
        goes = subst (λ n. Goes (end_h n) q t own.left) ((site_host w.sites k s found) ∙ is) own.goes;
        waits = sites_is f same_host w.sites h (FarWaits own.left) (λ z. tt)
            (λ y z. there s found h y z (λ v. FarWaits own.left (Some v))
            (λ same one. let P : Site → Type 0 = λ v. FarWaits own.left (Some (g v)) in subst P one own.waits)
            (λ off. absurd (true≢false (sym e ∙ off))));
      })
      (λ e. record {
        left = q;
        goes = a.others (end_h h) (ap (λ n. (n == h) && true) (site_host w.sites k s found) ∙ ap (λ b. b && true) e) q;
        waits = sites_is f same_host w.sites h (FarWaits q) (λ z. tt)
            (λ y z. there s found h y z (λ v. FarWaits q (Some v))
            (λ same one. absurd (true≢false (sym (eq-eqb k h (sym same)) ∙ e)))
            (λ off. subst (FarWaits q) z x));
      })

  -- where there is none with this number, nothing changes
  pub at_site : ((s : Site) → site_at w.sites k ≡ Some s → SiteGoes s (g s) t)
      → (site_at w.sites k ≡ None → AllMove w (record w { controller = c }) t) → AllMove w After t
  at_site some none = by_option (site_at w.sites k)
      (λ q. subst (λ (l : List Site). AllMove w (record w { controller = c; sites = l }) t) (sym (with_none k g w.sites q)) (none q))
      (λ s q. site_moves s q (some s q))

-- ### Steps of nodes

-- a node in a step, whose ends these are as something comes, and these messages are there then
pub record NodeDoes (who : Side) (sides : ℕ → LinkEnd) (came : ℕ → List Message) (begun k : Work) : Type 0 where
  pub does : (e : End) (own : Bool) (mine : own ≡ true → has_side who e ≡ true) (q : List Message)
      → Fresh e who own (sides e.link) q (port_at begun.ports e.link) → Stands e who own mine q (came e.link) k
  pub ends : hosts_of_ends k.ports ≡ hosts_of_ends begun.ports

-- the end with a number
pub record There (ports : List Port) (h : ℕ) : Type 0 where
  pub port : Port
  pub here : port_at ports h ≡ Some port

there_too : (ports olds : List Port) (h : ℕ) (p : Port) → hosts_of_ends ports ≡ hosts_of_ends olds → port_at olds h ≡ Some p → There ports h
there_too [] [] h p e q = absurd (cc q)
there_too (x ∷ ports) [] h p e q = absurd (cc q)
there_too [] (y ∷ olds) h p e q = absurd (cc e)
there_too (x ∷ ports) (y ∷ olds) h p e q = by_test (y.desk.host == h)
    (λ f. let found : (x.desk.host == h) ≡ true = ap (λ n. n == h) one ∙ f in record { port = x; here = rw found refl })
    (λ f. let passed : (x.desk.host == h) ≡ false = ap (λ n. n == h) one ∙ f in
    let rest : There ports h = there_too ports olds h p others (rw f at q) in
    record { port = rest.port; here = rw passed rest.here })
  where
    one : x.desk.host ≡ y.desk.host
    one = cc

    others : hosts_of_ends ports ≡ hosts_of_ends olds
    others = cc

-- what the turns of its node left there is what waits
record Leaving (e : End) (came : List Message) (k : Work) (q : List Message) : Type 0 where
  pub left : List Message
  pub goes : Goes e q k.entries left
  pub turns : left_by (turns_at k e.link) came ≡ left

module _ (who : Side) (sides : ℕ → LinkEnd) (came : ℕ → List Message) (begun k : Work) (a : NodeDoes who sides came begun k) where
  own_left : (e : End) (p : Port) → has_side who e ≡ true → port_at begun.ports e.link ≡ Some p → p.turns ≡ [] → p.side ≡ sides e.link
      → (q : List Message) → (sides e.link).got ≡ q → Leaving e (came e.link) k q
  own_left e p side here turns is q got =
      let done : Stands e who true (λ z. side) q (came e.link) k = grind arith in
      let known : Knows e who q (came e.link) true done.waiting (Some (there_too k.ports begun.ports e.link p a.ends here).port) = grind arith in
      grind arith

  pub away : (e : End) → ((q : List Message) → Fresh e who false (sides e.link) q (port_at begun.ports e.link)) → Leaves e k.entries
  away e fresh q =
      let done : Stands e who false (λ z. absurd (true≢false (sym z))) q (came e.link) k =
      a.does e false (λ z. absurd (true≢false (sym z))) q (fresh q) in
      subst (Goes e q k.entries) (grind arith) done.at.goes

-- as a step ends
ends_so : (k : Work) (ms got : List Message) → got ≡ ended_with (ending_of k) ms → ByPower (is_some (runs_on k)) ms got
ends_so k ms got q = grind arith

-- ## What waits at the ends of a world as the controller or a host has a step

-- ### Works

-- what came at the ends as this came to the node
abbrev came_by : (ℕ → LinkEnd) → NodeInput → ℕ → List Message
came_by sides input n = (after_coming (sides n) (input_on input n)).got

module _ (n : ℕ) (hosts : List ℕ) (who : Side) (sides : ℕ → LinkEnd) (begun : Work) (side : own_side begun.core ≡ who) (kept : Keeps n hosts begun)
    (still : (e : End) → AreStill e begun.entries) where
  step_does : (input : NodeInput) → IsOutside input → AreDifferent (hosts_of_ends begun.ports)
      → NodeDoes who sides (came_by sides input) begun (steps input begun)
  step_does input outside d =
      record {
        does = λ e own mine q fresh.
            steps_stand e who own mine q (sides e.link) input begun outside side d fresh (still_goes e begun.entries q (still e));
        ends = ends input;
      }
    where
      ends : (input : NodeInput) → hosts_of_ends (steps input begun).ports ≡ hosts_of_ends begun.ports
      ends (AtEnd k i) = (steps_keep n hosts k i begun kept).ends ∙ sym kept.ends
      ends TimePasses = (tick_keeps n hosts begun kept).ends ∙ sym kept.ends

  begin_does : (k : ℕ) (deeds : List Deed) → AreMute deeds → NodeDoes who sides (λ j. (sides j).got) begun (begins_with k deeds begun)
  begin_does k deeds m =
      record {
        does = λ e own mine q fresh.
            begins_stand e who own mine q (sides e.link) k deeds begun m side fresh (still_goes e begun.entries q (still e));
        ends = (begins_keep n hosts k deeds begun m kept).ends ∙ sym kept.ends;
      }

-- ### A host

other_fresh : (e : End) (s : LinkEnd) (q : List Message) (m : ℕ) (ports : List Port) → hosts_of_ends ports ≡ m ∷ [] → same_end (end_h m) e ≡ false
    → Fresh e Host false s q (port_at ports e.link)
other_fresh e s q m [] h off = tt
other_fresh e s q m (p ∷ []) h off = grind arith
other_fresh e s q m (p ∷ x ∷ ports) h off = absurd (cc h)

-- a host becomes v in a step, as its node does so
module _ (s v : Site) (r : Running) (near_end : NumberedEnd) (came : ℕ → List Message) (begun k : Work) (frames : List Entry)
    (runs : s.node ≡ Some r) (ends : map (λ (d : Desk). d.host) r.desks ≡ s.host ∷ [])
    (ports : begun.ports ≡ ports_for (λ j. near_end) r.desks) (side : near_end.side ≡ s.link.host.side)
    (does : NodeDoes Host (λ j. near_end.side) came begun k) (quiet : (e : End) → Leaves e frames) where
  own_port : (q : List Message) → FarWaits q (Some s) → Leaving (end_h s.host) (came s.host) k q
  own_port q x =
      let here : site_at (s ∷ []) s.host ≡ Some s = let same : (s.host == s.host) ≡ true = same_number s.host in rw same refl in
      let one = stands (λ j. near_end) r.desks (s ∷ []) s.host s ends here in
      own_left Host (λ j. near_end.side) came begun k does (end_h s.host) (port_for near_end one.desk) refl
      (ap (λ ps. port_at ps s.host) ports ∙ one.here) refl refl q (ap (λ (z : LinkEnd). z.got) side ∙ sym (grind arith))

  host_goes : v.node ≡ runs_on k → v.link.controller.side.got ≡ s.link.controller.side.got
      → v.link.host.side.got ≡ ended_with (ending_of k) (left_by (turns_at k s.host) (came s.host))
      → SiteGoes s v (k.entries ++ frames)
  host_goes node near far =
      record {
        near = near;
        goes = λ q x. record {
          left = (own_port q x).left;
          goes = goes-append (end_h s.host) k.entries frames q (own_port q x).left (own_port q x).left (own_port q x).goes
              (quiet (end_h s.host) (own_port q x).left);
          waits = grind arith;
        };
        others = λ e off. leaves-append e k.entries frames
            (away Host (λ j. near_end.side) came begun k does e (λ q. subst (λ ps. Fresh e Host false near_end.side q (port_at ps e.link)) (sym ports)
            (other_fresh e near_end.side q s.host (ports_for (λ j. near_end) r.desks) (hosts_same (λ j. near_end) r.desks ∙ ends) off)))
            (quiet e);
      }

-- its step, as something comes to its end, and what it does of itself
module _ (s : Site) (r : Running) (k : ℕ) (number : s.host ≡ k) (runs : s.node ≡ Some r) (node : HasEnds s.host (s.host ∷ []) r)
    (host : (s.host == 0) ≡ false) where
  abbrev own_link : Link
  own_link = exchanged s.link

  -- what is noted of it
  abbrev pub host_noted : Comes → Work → List Entry
  host_noted comes v = v.entries ++ frames_noted Host k (wires_for own_link comes) v

  side_is : own_side r.core ≡ Host
  side_is = ap (λ (n : ℕ). if n == 0 then Controller else Host) node.number ∙ ap (λ (b : Bool). if b then Controller else Host) host

  abbrev starts : NumberedEnd → List Entry → Work
  starts near_end es = work_of r s.memory.plan (λ j. near_end) es

  kept : (near_end : NumberedEnd) (es : List Entry) → Keeps s.host (s.host ∷ []) (starts near_end es)
  kept near_end es = record { number = node.number; ends = hosts_same (λ j. near_end) r.desks ∙ node.ends }

  different : (near_end : NumberedEnd) (es : List Entry) → AreDifferent (hosts_of_ends (starts near_end es).ports)
  different near_end es = subst AreDifferent (sym (kept near_end es).ends) (tt, tt)

  quiet : (comes : Comes) (v : Work) (e : End) → Leaves e (frames_noted Host k (wires_for own_link comes) v)
  quiet comes v e = still_leaves e _ (frames_still e Host k (wires_for own_link comes) v)

  pub host_steps : (comes : Comes) (i : LinkInput) → input_of own_link comes ≡ Some i
      → SiteGoes s (after_host comes (host_work s r comes (steps (AtEnd k i))) s) (host_noted comes (host_work s r comes (steps (AtEnd k i))))
  host_steps comes i q =
      let near_end : NumberedEnd = near_end_in own_link comes in
      let es : List Entry = entries_for s.host (arrival Host own_link comes) in
      let begun : Work = starts near_end es in
      let v : Work = host_work s r comes (steps (AtEnd k i)) in
      let came : ℕ → List Message = came_by (λ j. near_end.side) (AtEnd k i) in
      let here : (s.host == k) ≡ true = eq-eqb s.host k number in
      host_goes s (after_host comes v s) r near_end came begun v (frames_noted Host k (wires_for own_link comes) v) runs node.ends refl
      (near_end_side own_link comes)
      (step_does s.host (s.host ∷ []) Host (λ j. near_end.side) begun side_is (kept near_end es) (λ e. arrival_still e Host s.host own_link comes) (AtEnd k i)
      (comes_outside own_link comes i q) (different near_end es))
      (quiet comes v) refl
      (ap (λ (x : NumberedEnd). x.side.got) (here_host own_link (Step comes (turns_at v s.host) (ending_of v))))
      (step_got own_link comes (Some i) (turns_at v s.host) (ending_of v) q (is_step comes i)
      ∙ ap (λ ms. ended_with (ending_of v) (left_by (turns_at v s.host) ms))
      (grind arith))

  pub host_begins : (deeds : List Deed) → AreMute deeds
      → SiteGoes s (after_host NoInput (host_work s r NoInput (begins_with k deeds)) s) (host_noted NoInput (host_work s r NoInput (begins_with k deeds)))
  host_begins deeds m =
      let near_end : NumberedEnd = near_end_in own_link NoInput in
      let es : List Entry = entries_for s.host (arrival Host own_link NoInput) in
      let begun : Work = starts near_end es in
      let v : Work = host_work s r NoInput (begins_with k deeds) in
      host_goes s (after_host NoInput v s) r near_end (λ j. near_end.side.got) begun v
      (frames_noted Host k (wires_for own_link NoInput) v) runs node.ends refl refl
      (begin_does s.host (s.host ∷ []) Host (λ j. near_end.side) begun side_is (kept near_end es) (λ e. tt) k deeds m)
      (quiet NoInput v) refl
      (ap (λ (x : NumberedEnd). x.side.got) (here_host own_link (Step NoInput (turns_at v s.host) (ending_of v))))
      (step_got own_link NoInput None (turns_at v s.host) (ending_of v) refl tt)

  -- its tick
  pub host_ticked : SiteGoes s (after_tick s (host_tick s r)).0
      (after_tick s (host_tick s r)).1
  host_ticked =
      let near_end : NumberedEnd = s.link.host in
      let begun : Work = starts near_end [] in
      let v : Work = steps TimePasses begun in
      host_goes s (after_tick s v).0 r near_end (came_by (λ j. near_end.side) TimePasses) begun v
      (frames_noted Host s.host own_link v) runs node.ends refl refl
      (step_does s.host (s.host ∷ []) Host (λ j. near_end.side) begun side_is (kept near_end []) (λ e. tt) TimePasses tt (different near_end []))
      (λ e. still_leaves e _ (frames_still e Host s.host own_link v)) refl
      (ap (λ (x : NumberedEnd). x.side.got) (tick_host own_link (turns_at v s.host) (ending_of v)))
      (ticks_got own_link (turns_at v s.host) (ending_of v)
      ∙ ap (λ ms. ended_with (ending_of v) (left_by (turns_at v s.host) ms)) (sym (tick_got s.link.host.side)))

-- ### The controller

no_port : (ports : List Port) (sites : List Site) (h : ℕ) → hosts_of_ends ports ≡ hosts_in sites → site_at sites h ≡ None → port_at ports h ≡ None
no_port [] sites h e q = refl
no_port (p ∷ ports) [] h e q = absurd (cc e)
no_port (p ∷ ports) (x ∷ sites) h e q = by_test (x.host == h)
    (λ z. let is : Some x ≡ None = rw z at q in absurd (cc is))
    (λ z. let passed : (p.desk.host == h) ≡ false = ap (λ n. n == h) one ∙ z in
    rw passed (no_port ports sites h others (rw z at q)))
  where
    one : p.desk.host ≡ x.host
    one = cc

    others : hosts_of_ends ports ≡ hosts_in sites
    others = cc

module _ (w : NodeWorld) (r : Running) (memory : Memory) (near_ends : ℕ → NumberedEnd) (came : ℕ → List Message) (begun k : Work) (g : Site → Site)
    (frames : List Entry) (runs : w.controller ≡ Some r) (node : HasEnds 0 (hosts_in w.sites) r) (ports : begun.ports ≡ ports_for near_ends r.desks)
    (does : NodeDoes Controller (λ j. (near_ends j).side) came begun k) (quiet : (e : End) → Leaves e frames) where
  abbrev Then : NodeWorld
  Then = record { memory = memory; controller = runs_on k; sites = map g w.sites }

  leaves_far : (h : ℕ) → Leaves (end_h h) (k.entries ++ frames)
  leaves_far h =
      leaves-append (end_h h) k.entries frames
      (away Controller (λ j. (near_ends j).side) came begun k does (end_h h) (λ q. grind arith)) (quiet (end_h h))

  controller_moves : ((s : Site) → (g s).host ≡ s.host) → ((s : Site) → (g s).node ≡ s.node)
      → ((s : Site) → (g s).link.host.side.got ≡ s.link.host.side.got)
      → ((h : ℕ) (s : Site) → site_at w.sites h ≡ Some s → (near_ends h).side.got ≡ s.link.controller.side.got)
      → ((h : ℕ) (s : Site) → site_at w.sites h ≡ Some s
      → (g s).link.controller.side.got ≡ ended_with (ending_of k) (left_by (turns_at k h) (came h)))
      → AllMove w Then (k.entries ++ frames)
  controller_moves host stays far before behind true h q x =
      record {
        left = q;
        goes = leaves_far h q;
        waits = sites_is g host w.sites h (FarWaits q) (λ z. tt)
            (grind arith);
      }
  controller_moves host stays far before behind false h q x = by_option (site_at w.sites h)
      (λ z. let none : port_at begun.ports h ≡ None = no_port begun.ports w.sites h ends z in
      record {
        left = q;
        goes = leaves-append (end_c h) k.entries frames
            (away Controller (λ j. (near_ends j).side) came begun k does (end_c h)
            (λ u. subst (Fresh (end_c h) Controller false (near_ends h).side u) (sym none) tt)) (quiet (end_c h)) q;
        waits = sites_is g host w.sites h (NearWaits (runs_on k) q) (λ y. tt) (λ s y. let both : None ≡ Some s = sym z ∙ y in absurd (cc both));
      })
      (λ s z. let one = stands near_ends r.desks w.sites h s node.ends z in
      let was : q ≡ s.link.controller.side.got = grind arith in
      let own : Leaving (end_c h) (came h) k q =
      own_left Controller (λ j. (near_ends j).side) came begun k does (end_c h) (port_for (near_ends h) one.desk) refl
      (ap (λ ps. port_at ps h) ports ∙ one.here) refl refl q (before h s z ∙ sym was) in
      record {
        left = own.left;
        goes = goes-append (end_c h) k.entries frames q own.left own.left own.goes (quiet (end_c h) own.left);
        waits = sites_is g host w.sites h (NearWaits (runs_on k) own.left) (λ y. tt)
            (λ v y. ends_so k own.left (g v).link.controller.side.got (behind h v y ∙ ap (ended_with (ending_of k)) own.turns));
      })
    where
      ends : hosts_of_ends begun.ports ≡ hosts_in w.sites
      ends = ap hosts_of_ends ports ∙ (hosts_same near_ends r.desks ∙ node.ends)

module _ (w : NodeWorld) (r : Running) (runs : w.controller ≡ Some r) (node : HasEnds 0 (hosts_in w.sites) r)
    (different : AreDifferent (hosts_in w.sites)) where
  near_side : own_side r.core ≡ Controller
  near_side = ap (λ (n : ℕ). if n == 0 then Controller else Host) node.number

  abbrev starting : (ℕ → NumberedEnd) → List Entry → Work
  starting near_ends es = work_of r w.memory.plan near_ends es

  near_kept : (near_ends : ℕ → NumberedEnd) (es : List Entry) → Keeps 0 (hosts_in w.sites) (starting near_ends es)
  near_kept near_ends es = record { number = node.number; ends = hosts_same near_ends r.desks ∙ node.ends }

  near_different : (near_ends : ℕ → NumberedEnd) (es : List Entry) → AreDifferent (hosts_of_ends (starting near_ends es).ports)
  near_different near_ends es = subst AreDifferent (sym (near_kept near_ends es).ends) different

  -- something comes to its end of the link with the host k
  pub controller_steps : (k : ℕ) (comes : Comes) (i : LinkInput) → input_of (link_to w.sites k) comes ≡ Some i
      → AllMove w (after_controller w k comes (controller_work w r k comes (steps (AtEnd k i)))).0
      (after_controller w k comes (controller_work w r k comes (steps (AtEnd k i)))).1
  controller_steps k comes i q =
      let near_ends : ℕ → NumberedEnd = λ n. near_end_in (link_to w.sites n) (comes_to k comes n) in
      let es : List Entry = entries_for k (arrival Controller (link_to w.sites k) comes) in
      let begun : Work = starting near_ends es in
      let v : Work = controller_work w r k comes (steps (AtEnd k i)) in
      controller_moves w r _ near_ends (came_by (λ j. (near_ends j).side) (AtEnd k i)) begun v (link_after_controller k comes v)
      (flat_map (λ (s : Site). frames_noted Controller s.host (wires_for s.link (comes_to k comes s.host)) v) w.sites) runs node refl
      (step_does 0 (hosts_in w.sites) Controller (λ j. (near_ends j).side) begun near_side (near_kept near_ends es)
      (λ e. arrival_still e Controller k (link_to w.sites k) comes) (AtEnd k i) (comes_outside (link_to w.sites k) comes i q) (near_different near_ends es))
      (λ e. flat_leaves e _ (λ s. still_leaves e _ (frames_still e Controller s.host (wires_for s.link (comes_to k comes s.host)) v)) w.sites)
      (λ s. refl) (λ s. refl) (λ s. ap (λ (x : NumberedEnd). x.side.got) (here_host s.link (Step (comes_to k comes s.host) (turns_at v s.host) (ending_of v))))
      (λ h s z. grind arith)
      (λ h s z. behind h s z v)
    where
      behind : (h : ℕ) (s : Site) → site_at w.sites h ≡ Some s → (v : Work)
          → (link_after_controller k comes v s).link.controller.side.got
          ≡ ended_with (ending_of v) (left_by (turns_at v h)
          (came_by (λ n. (near_end_in (link_to w.sites n) (comes_to k comes n)).side) (AtEnd k i) h))
      behind h s z v = subst P (sym (site_host w.sites h s z)) (by (h == k) refl)
        where
          P : ℕ → Type 0
          P n = (steps_at_controller s.link (comes_to k comes n) (turns_at v n) (ending_of v)).controller.side.got
              ≡ ended_with (ending_of v) (left_by (turns_at v h)
              (came_by (λ n. (near_end_in (link_to w.sites n) (comes_to k comes n)).side) (AtEnd k i) h))

          link : link_to w.sites h ≡ s.link
          link = link_is w.sites h s z

          came : (o : Option LinkInput)
              → (after_coming s.link.controller.side o).got ≡ (after_coming (near_end_in (link_to w.sites h) (comes_to k comes h)).side o).got
          came o = ap (λ e. (after_coming e o).got)
              (ap (λ (l : Link). l.controller.side) (sym link) ∙ sym (near_end_side (link_to w.sites h) (comes_to k comes h)))

          by : (b : Bool) → (h == k) ≡ b → P h
          by true e =
              ap (λ b. (steps_at_controller s.link (cond b comes NoInput) (turns_at v h) (ending_of v)).controller.side.got) e
              ∙ (step_got s.link comes (Some i) (turns_at v h) (ending_of v) (grind arith) (is_step comes i)
              ∙ ap (λ ms. ended_with (ending_of v) (left_by (turns_at v h) ms))
              (grind arith))
          by false e =
              ap (λ b. (steps_at_controller s.link (cond b comes NoInput) (turns_at v h) (ending_of v)).controller.side.got) e
              ∙ (step_got s.link NoInput None (turns_at v h) (ending_of v) refl tt
              ∙ ap (λ ms. ended_with (ending_of v) (left_by (turns_at v h) ms))
              (grind arith))

  pub controller_ticked : AllMove w (record {
    memory = after_planned (steps TimePasses (starting (λ h. (link_to w.sites h).controller) [])).writes w.memory;
    controller = runs_on (steps TimePasses (starting (λ h. (link_to w.sites h).controller) []));
    sites = map (site_ticked (steps TimePasses (starting (λ h. (link_to w.sites h).controller) []))) w.sites;
  })
      ((steps TimePasses (starting (λ h. (link_to w.sites h).controller) [])).entries
      ++ flat_map (λ (s : Site). frames_noted Controller s.host s.link (steps TimePasses (starting (λ h. (link_to w.sites h).controller) []))) w.sites)
  controller_ticked =
      let near_ends : ℕ → NumberedEnd = λ h. (link_to w.sites h).controller in
      let begun : Work = starting near_ends [] in
      let v : Work = steps TimePasses begun in
      controller_moves w r _ near_ends (came_by (λ j. (near_ends j).side) TimePasses) begun v (site_ticked v)
      (flat_map (λ (s : Site). frames_noted Controller s.host s.link v) w.sites) runs node refl
      (step_does 0 (hosts_in w.sites) Controller (λ j. (near_ends j).side) begun near_side (near_kept near_ends []) (λ e. tt) TimePasses tt
      (near_different near_ends []))
      (λ e. flat_leaves e _ (λ s. still_leaves e _ (frames_still e Controller s.host s.link v)) w.sites)
      (λ s. refl) (λ s. refl)
      (λ s. ap (λ (x : NumberedEnd). x.side.got) (so_host s.link (is_late_at v s.host) (turns_at v s.host) (ending_of v)))
      (λ h s z. ap (λ (l : Link). l.controller.side.got) (link_is w.sites h s z))
      (λ h s z.
      let P : ℕ → Type 0 = λ n. (ticked_so s.link (is_late_at v n) (turns_at v n) (ending_of v)).controller.side.got
      ≡ ended_with (ending_of v) (left_by (turns_at v h) (came_by (λ j. (near_ends j).side) TimePasses h)) in
      subst P (sym (site_host w.sites h s z))
      (late_got s.link (is_late_at v h) (turns_at v h) (ending_of v)
      ∙ ap (λ ms. ended_with (ending_of v) (left_by (turns_at v h) ms))
      (ap (λ (l : Link). l.controller.side.got) (sym (link_is w.sites h s z)) ∙ sym (tick_got (near_ends h).side))))
