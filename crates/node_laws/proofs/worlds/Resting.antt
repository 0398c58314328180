-- Behind steps, whatever happens, all messages at the ends of nodes that run have had their turns, or all before one that is held.
use Rattle.node_laws.proofs.Words.{AllByRecursion, AreDifferent, AreNoTurns, AreNotOf, Bool, ComesTo, Controller, End, Entry, HasEnds, Host, IsBehind}
use Rattle.node_laws.proofs.Words.{IsOutside, Link, LinkEnd, List, Message, NodeInput, NumberedEnd, Option, Plan, Port, Running, Site, Some, Stays, Work, []}
use Rattle.node_laws.proofs.Words.{all_append, ap, append-nil, append_assoc, arith, by_list, by_option, by_test, comes_to_pass, cond, end_c, end_h}
use Rattle.node_laws.proofs.Words.{ending_entries, ending_of, eqb, eqb-true, false, flat_map, fold-append, frames_noted, goes_through_ends, holds_in, hosts_in}
use Rattle.node_laws.proofs.Words.{hosts_of_ends, inl, inr, is_done, is_held_at, is_none, link_to, map, node_of, not, oldest, or-true, own_side, passes}
use Rattle.node_laws.proofs.Words.{port_at, refl, runs_in, runs_on, same_end, same_number, site_at, steps, subst, sym, true, true≢false, unhandled_after}
use Rattle.node_laws.proofs.Words.{unhandled_in, waiting_at, work_of, ℕ, ◌++◌, ◌==◌, ◌||◌, ◌∙◌, ◌∷◌, ◌≡◌}
use Rattle.link_laws.specs.entries.Entries.{End as Side}
use Rattle.node_laws.specs.passes.Passing.ComesTo.{Begins}
use Rattle.node_laws.proofs.passes.InSteps.{before_hosts, steps_are}
use Rattle.node_laws.proofs.passes.Passing.{comes_lasts, leaves_behind, through}
use Rattle.node_laws.proofs.power.Steps.{AreOwn, Fine, Runs, steps_fine}
use Rattle.node_laws.proofs.power.Events.{far_runs, near_runs}
use Rattle.node_laws.proofs.reply_passes.Ordered.{begun_at, goes_read, mine, ms, port_begins, runs_comes, there_still}
use Rattle.node_laws.proofs.reply_passes.Held.{AreNoBoots, begun_side, desks_held, ended_read_at, is_held_among, is_host_side, notes_unbooted, ports_held}
use Rattle.node_laws.proofs.telling.Events.{hosts_same_of_nodes as hosts_same}
use Rattle.node_laws.proofs.telling.Accounts.{AreUncut}
use Rattle.node_laws.proofs.turns.Passing.{AreStill, Goes, Known, goes-append, still_goes}
use Rattle.node_laws.proofs.turns.Nodes.{frames_still}
use Rattle.node_laws.proofs.worlds.FramesLast.{frames_turnless}
use Rattle.trace_model.specs.declared.entry.Entry.TheVariants as entry

-- ## Behind a step of a node all messages at its ends have had their turns, or all before one that is held, as it is read

-- ### What is read

module _ (t : List Entry) (e : End) where
  done_off : runs_in t (node_of e) ≡ false → is_done t e ≡ true
  done_off off = rw off refl

  pub done_empty : unhandled_in t e ≡ [] → is_done t e ≡ true
  done_empty none = rw none (by_test (not (runs_in t (node_of e))) (λ q. rw q refl) (λ q. rw q refl))

  done_held : holds_in t e ≡ true → is_done t e ≡ true
  done_held held = rw held (or-true (not (runs_in t (node_of e)) || is_none (oldest (unhandled_in t e))))

-- ### Entries that leave it

-- an entry neither begins the node of an end anew, nor tells of a message there
abbrev pub IsIdle : End → Entry → Type 0
IsIdle e (entry.Got f n pid message) = same_end f e ≡ false
IsIdle e (entry.Turn f pid message) = same_end f e ≡ false
IsIdle e (entry.Held f need spare) = same_end f e ≡ false
IsIdle e (entry.Booted n k) = (n == node_of e) ≡ false
IsIdle e _ = Unit {0}

abbrev pub AreIdle : End → List Entry → Type 0
AreIdle e es = AllByRecursion (IsIdle e) es

module _ (e : End) where
  pub other_end : (f : End) → (node_of f == node_of e) ≡ false → same_end f e ≡ false
  other_end f off = grind arith

  pub others_idle : (es : List Entry) → AreNotOf (node_of e) es → AreIdle e es
  others_idle [] a = tt
  others_idle (x ∷ es) a = (grind arith, others_idle es a.1)

  pub quiet_idle : (es : List Entry) → AreStill e es → AreNoTurns es → AreNoBoots es → AreIdle e es
  quiet_idle [] a b c = tt
  quiet_idle (x ∷ es) a b c = (grind arith, quiet_idle es a.1 b.1 c.1)

  pub idle_unhandled : (s : List Entry) (x : Entry) → IsIdle e x → unhandled_in (s ++ x ∷ []) e ≡ unhandled_in s e
  idle_unhandled s (entry.Got f n pid message) idle =
      fold-append (unhandled_after e) [] s (entry.Got f n pid message ∷ [])
      ∙ ap (λ b. cond b (unhandled_in s e ++ (pid, message) ∷ []) (unhandled_in s e)) idle
  idle_unhandled s (entry.Turn f pid message) idle =
      fold-append (unhandled_after e) [] s (entry.Turn f pid message ∷ [])
      ∙ ap (λ b. cond b (Rattle.std.specs.Prelude.drop 1 (unhandled_in s e)) (unhandled_in s e)) idle
  idle_unhandled s (entry.Booted n k) idle =
      fold-append (unhandled_after e) [] s (entry.Booted n k ∷ []) ∙ ap (λ b. cond b [] (unhandled_in s e)) idle
  idle_unhandled s x idle = fold-append (unhandled_after e) [] s (x ∷ [])

  idle_holds : (s : List Entry) (x : Entry) → IsIdle e x → holds_in (s ++ x ∷ []) e ≡ holds_in s e
  idle_holds s (entry.Held f need spare) idle = fold-append _ false s (entry.Held f need spare ∷ []) ∙ ap (λ b. cond b true (holds_in s e)) idle
  idle_holds s (entry.Turn f pid message) idle = fold-append _ false s (entry.Turn f pid message ∷ []) ∙ ap (λ b. cond b false (holds_in s e)) idle
  idle_holds s (entry.Booted n k) idle = fold-append _ false s (entry.Booted n k ∷ []) ∙ ap (λ b. cond b false (holds_in s e)) idle
  idle_holds s x idle = fold-append _ false s (x ∷ [])

  -- an end that runs behind it ran before
  pub idle_runs : (s : List Entry) (x : Entry) → IsIdle e x → runs_in (s ++ x ∷ []) (node_of e) ≡ true → runs_in s (node_of e) ≡ true
  idle_runs s (entry.Booted n k) idle on =
      sym (ap (λ b. cond b true (runs_in s (node_of e))) idle) ∙ (sym (fold-append _ false s (entry.Booted n k ∷ [])) ∙ on)
  idle_runs s (entry.Cut n) idle on = by (n == node_of e) (sym (fold-append _ false s (entry.Cut n ∷ [])) ∙ on) where
    by : (b : Bool) → cond b false (runs_in s (node_of e)) ≡ true → runs_in s (node_of e) ≡ true
    by true q = absurd (true≢false (sym q))
    by false q = q
  idle_runs s x idle on = sym (fold-append _ false s (x ∷ [])) ∙ on

  idle_one : (s : List Entry) (x : Entry) → IsIdle e x → is_done s e ≡ true → is_done (s ++ x ∷ []) e ≡ true
  idle_one s x idle done = by_test (runs_in (s ++ x ∷ []) (node_of e))
      (λ q. rw (q, idle_unhandled s x idle, idle_holds s x idle)
      (subst (λ b. ((not b || is_none (oldest (unhandled_in s e))) || holds_in s e) ≡ true) (idle_runs s x idle q) done))
      (λ q. done_off (s ++ x ∷ []) e q)

  pub idle_done : (s es : List Entry) → AreIdle e es → is_done s e ≡ true → is_done (s ++ es) e ≡ true
  idle_done s [] idle done = subst (λ l. is_done l e ≡ true) (sym (append-nil s)) done
  idle_done s (x ∷ es) idle done =
      subst (λ l. is_done l e ≡ true) (append_assoc s (x ∷ []) es) (idle_done (s ++ x ∷ []) es idle.1 (idle_one s x idle.0 done))

  pub idle_held : (s es : List Entry) → AreIdle e es → holds_in (s ++ es) e ≡ holds_in s e
  idle_held s [] idle = ap (λ l. holds_in l e) (append-nil s)
  idle_held s (x ∷ es) idle = ap (λ l. holds_in l e) (sym (append_assoc s (x ∷ []) es)) ∙ (idle_held (s ++ x ∷ []) es idle.1 ∙ idle_holds s x idle.0)

-- behind its cut a node doesn't run
pub cut_off : (n : ℕ) (s : List Entry) → runs_in (s ++ entry.Cut n ∷ []) n ≡ false
cut_off n s = fold-append _ false s (entry.Cut n ∷ []) ∙ ap (λ b. cond b false (runs_in s n)) (same_number n)

-- ### Where an end stands among the others

pub record SplitAt (hosts : List ℕ) (k : ℕ) : Type 0 where
  pub earlier : List ℕ
  pub later : List ℕ
  pub is : hosts ≡ earlier ++ k ∷ later
  pub off : AllByRecursion (λ j. (j == k) ≡ false) later

pub split_at : (ports : List Port) (k : ℕ) (p : Port) → AreDifferent (hosts_of_ends ports) → port_at ports k ≡ Some p → SplitAt (hosts_of_ends ports) k
split_at [] k p d here = absurd (cc here)
split_at (x ∷ ports) k p d here = by_test (eqb x.desk.host k)
    (λ q. let A : ℕ → Type 0 = λ n. AllByRecursion (λ j. (j == n) ≡ false) (hosts_of_ends ports) in record {
      earlier = [];
      later = hosts_of_ends ports;
      is = ap (λ h. h ∷ hosts_of_ends ports) (eqb-true x.desk.host k q);
      off = subst A (eqb-true x.desk.host k q) d.0;
    })
    (λ q. let rest : SplitAt (hosts_of_ends ports) k = split_at ports k p d.1 (rw q at here) in record {
      earlier = x.desk.host ∷ rest.earlier;
      later = rest.later;
      is = ap (λ l. x.desk.host ∷ l) rest.is;
      off = rest.off;
    })

-- ### A step

module _ (n : ℕ) (who : Side) (t : List Entry) (input : NodeInput) (w : Work) (number : w.core.node ≡ n) (side : own_side w.core ≡ who)
    (none : AreNoTurns w.entries) (unbooted : AreNoBoots w.entries) (outside : IsOutside input) (different : AreDifferent (hosts_of_ends w.ports))
    (runs : Runs n w) (k : ℕ) (held : holds_in t (record { link = k; at_host = is_host_side who }) ≡ is_held_at w.ports k)
    (p : Port) (here : port_at w.ports k ≡ Some p) (fresh : p.turns ≡ []) (own : node_of (record { link = k; at_host = is_host_side who }) ≡ n)
    (still : AreStill (record { link = k; at_host = is_host_side who }) w.entries)
    (goes : Goes (record { link = k; at_host = is_host_side who }) [] t p.side.got) where
  abbrev e : End
  e = record { link = k; at_host = is_host_side who }

  abbrev begun : Work
  begun = comes_to_pass input w

  abbrev ended : Work
  ended = steps input w

  -- the messages that wait at the end behind a pass are what is read
  waits : begun.cut ≡ false → ComesTo begun (passes begun) → unhandled_in (t ++ (passes begun).entries) e ≡ waiting_at (passes begun).ports k
  waits on c =
      let there = there_still input w k p here in
      let a = begun_at k who input outside w side different p here fresh still in
      let all : List Message = ms k who input outside w side different p here fresh still in
      let known = subst (Known e who true (mine k who) p.side.got all all) there.1 a.port in
      let was : waiting_at begun.ports k ++ [] ≡ all =
      append-nil (waiting_at begun.ports k) ∙ (ap (λ o. Rattle.std.specs.Option.option_map_or (λ (p : Port). p.side.got) o []) there.1 ∙ known.1) in
      let first : Goes e [] (t ++ begun.entries) (waiting_at begun.ports k ++ []) =
      subst (Goes e [] (t ++ begun.entries)) (sym was) (goes-append e t begun.entries [] p.side.got all goes a.goes) in
      goes_read e [] (t ++ (passes begun).entries) [] (waiting_at (passes begun).ports k ++ []) refl
      (runs_comes t who k [] begun (passes begun) (begun_side who input w side) first c)
      ∙ append-nil (waiting_at (passes begun).ports k)

  ended_done : is_done (t ++ ended.entries) e ≡ true
  ended_done = by_fine (steps_fine n input w runs) where
    by_rest : (on : begun.cut ≡ false) → (passes begun).cut ≡ false → ended ≡ passes begun → is_done (t ++ ended.entries) e ≡ true
    by_rest on still_on is = by_list (waiting_at b.work.ports k)
        (λ q. done_empty (t ++ ended.entries) e
        (ap (λ (u : Work). unhandled_in (t ++ u.entries) e) is ∙ (waits on
        ((through (ComesTo begun) (comes_lasts begun) (hosts_of_ends begun.ports) begun Begins on).keeps still_on) ∙ ((ap
        (λ (u : Work). waiting_at u.ports k) (sym all) ∙ b.waits) ∙ q))))
        (λ m messages q. let stays : Stays b.work (goes_through_ends (s.earlier ++ k ∷ s.later) begun) k b.own (m ∷ messages) =
        subst (λ l. Stays b.work (goes_through_ends (s.earlier ++ k ∷ s.later) begun) k b.own l) q b.stays in
        done_held (t ++ ended.entries) e
        (ended_read_at n who t input w number side none unbooted k (ap (λ (u : Work). u.cut) is ∙ still_on) held
        ∙ (ap (λ (u : Work). is_held_at u.ports k) (is ∙ sym all) ∙ stays.2))) where
          s : SplitAt (hosts_of_ends w.ports) k
          s = split_at w.ports k p different here

          split : hosts_of_ends begun.ports ≡ s.earlier ++ k ∷ s.later
          split = before_hosts input w ∙ s.is

          b : IsBehind (ComesTo begun) begun (goes_through_ends (s.earlier ++ k ∷ s.later) begun) s.earlier k s.later
          b = leaves_behind (ComesTo begun) (comes_lasts begun) s.earlier k s.later begun Begins on s.off
              (subst (λ hs. (goes_through_ends hs begun).cut ≡ false) split still_on)

          all : goes_through_ends (s.earlier ++ k ∷ s.later) begun ≡ (passes begun)
          all = ap (λ hs. goes_through_ends hs begun) (sym split)

    by_fine : Fine n ended → is_done (t ++ ended.entries) e ≡ true
    by_fine (inl r) = by_test begun.cut
        (λ off. grind arith)
        (λ begun_on. let is : ended ≡ passes begun = steps_are input w ∙ rw begun_on refl in
        by_rest begun_on (ap (λ (u : Work). u.cut) (sym is) ∙ r.on) is)
    by_fine (inr l) =
        done_off (t ++ ended.entries) e
        (ap (λ m. runs_in (t ++ ended.entries) m) own
        ∙ (ap (λ l. runs_in (t ++ l) n) l.entries
        ∙ (ap (λ l. runs_in l n) (sym (append_assoc t l.front (entry.Cut n ∷ []))) ∙ cut_off n (t ++ l.front))))

-- ## Whatever happens to a world, all messages at the ends of nodes that run have had their turns, or all before one that is held

-- ### Frames

frames_unbooted : (who : Side) (h : ℕ) (l : Link) (v : Work) → AreNoBoots (frames_noted who h l v)
frames_unbooted who h l v = by_option (port_at v.ports h) (λ q. rw q tt) (λ p q. rw q (notes_unbooted h (ending_entries who l p.side (ending_of v))))

pub frames_idle : (e : End) (who : Side) (h : ℕ) (l : Link) (v : Work) → AreIdle e (frames_noted who h l v)
frames_idle e who h l v = quiet_idle e (frames_noted who h l v) (frames_still e who h l v) (frames_turnless who h l v) (frames_unbooted who h l v)

pub flat_idle : (e : End) (f : Site → List Entry) → ((s : Site) → AreIdle e (f s)) → (sites : List Site) → AreIdle e (flat_map f sites)
flat_idle e f one [] = tt
flat_idle e f one (s ∷ sites) = all_append (IsIdle e) (f s) (flat_map f sites) (one s) (flat_idle e f one sites)

pub idle_still : (e : End) (es : List Entry) → AreIdle e es → AreStill e es
idle_still e [] idle = tt
idle_still e (x ∷ es) idle = (grind arith, idle_still e es idle.1)

-- ### Sites

-- all messages at both ends of a link had their turns, or all before one that is held, which a host that runs keeps
pub record SiteRests (t : List Entry) (s : Site) : Type 0 where
  pub near : is_done t (end_c s.host) ≡ true
  pub holds : (r : Running) → s.node ≡ Some r → holds_in t (end_h s.host) ≡ is_held_among r.desks s.host
  pub far : is_done t (end_h s.host) ≡ true

-- and what waits at the end of such a host is what came there
pub record SiteWaits (t : List Entry) (s : Site) : Type 0 where
  pub rests : SiteRests t s
  pub goes : (r : Running) → s.node ≡ Some r → Goes (end_h s.host) [] t s.link.host.side.got

-- entries that tell nothing of the host
pub site_on : (t es : List Entry) (s v : Site) → SiteWaits t s → v.host ≡ s.host → v.node ≡ s.node → v.link.host.side.got ≡ s.link.host.side.got
    → is_done (t ++ es) (end_c s.host) ≡ true → AreIdle (end_h s.host) es → SiteWaits (t ++ es) v
site_on t es s v a host node got near idle = record {
  rests = record {
    near = subst (λ h. is_done (t ++ es) (end_c h) ≡ true) (sym host) near;
    holds = λ r q. subst (λ h. holds_in (t ++ es) (end_h h) ≡ is_held_among r.desks h) (sym host)
        (idle_held (end_h s.host) t es idle ∙ a.rests.holds r (sym node ∙ q));
    far = subst (λ h. is_done (t ++ es) (end_h h) ≡ true) (sym host) (idle_done (end_h s.host) t es idle a.rests.far);
  };
  goes = λ r q. subst (λ h. Goes (end_h h) [] (t ++ es) v.link.host.side.got) (sym host)
      (subst (Goes (end_h s.host) [] (t ++ es)) (sym got)
      (goes-append (end_h s.host) t es [] s.link.host.side.got s.link.host.side.got (a.goes r (sym node ∙ q))
      (still_goes (end_h s.host) es s.link.host.side.got (idle_still (end_h s.host) es idle))));
}

-- ### A step of the controller

site_one : (ports : List Port) (sites : List Site) (k : ℕ) (s : Site) → hosts_of_ends ports ≡ hosts_in sites → site_at sites k ≡ Some s
    → (p : Port) × (port_at ports k ≡ Some p)
site_one ports [] k s same here = absurd (cc here)
site_one [] (x ∷ sites) k s same here = absurd (cc same)
site_one (p ∷ ports) (x ∷ sites) k s same here = by_test (eqb x.host k)
    (λ q. let found : eqb p.desk.host k ≡ true = ap (λ n. eqb n k) one ∙ q in (p, rw found refl))
    (λ q. let rest = site_one ports sites k s others (rw q at here) in (rest.0, rw (ap (λ n. eqb n k) one ∙ q) rest.1)) where
      one : p.desk.host ≡ x.host
      one = cc

      others : hosts_of_ends ports ≡ hosts_in sites
      others = cc

module _ (t : List Entry) (sites : List Site) (plan : Option Plan) (r : Running) (has : HasEnds 0 (hosts_in sites) r)
    (different : AreDifferent (hosts_in sites)) (near_ends : ℕ → NumberedEnd) (es : List Entry)
    (same : (k : ℕ) → (near_ends k).side ≡ (link_to sites k).controller.side)
    (waits : (k : ℕ) (s : Site) → site_at sites k ≡ Some s → Goes (end_c k) [] t s.link.controller.side.got)
    (holds : (k : ℕ) → holds_in t (end_c k) ≡ is_held_among r.desks k)
    (none : AreNoTurns es) (unbooted : AreNoBoots es) (own : AreOwn 0 es) (uncut : AreUncut es) (still : (k : ℕ) → AreStill (end_c k) es)
    (input : NodeInput) (outside : IsOutside input) where
  abbrev start : Work
  start = work_of r plan near_ends es

  hosts_are : hosts_of_ends start.ports ≡ hosts_in sites
  hosts_are = hosts_same near_ends r.desks ∙ has.ends

  side : own_side start.core ≡ Controller
  side = ap (λ m. cond (eqb m 0) Controller Host) has.number

  pub near_rests : (k : ℕ) (s : Site) → site_at sites k ≡ Some s → is_done (t ++ (steps input start).entries) (end_c k) ≡ true
  near_rests k s here =
      let p = site_one start.ports sites k s hosts_are here in
      let begins = port_begins near_ends r.desks k p.0 p.1 in
      let got : s.link.controller.side.got ≡ p.0.side.got = grind arith in
      ended_done 0 Controller t input start has.number side none unbooted outside (subst AreDifferent (sym hosts_are) different)
      (near_runs r plan near_ends es has.number own uncut) k (holds k ∙ sym (ports_held near_ends r.desks k)) p.0 p.1 begins.0 refl (still k)
      (subst (Goes (end_c k) [] t) got (waits k s here))

-- ### A step of a host

module _ (t : List Entry) (s : Site) (a : SiteWaits t s) (r : Running) (runs : s.node ≡ Some r) (has : HasEnds s.host (s.host ∷ []) r)
    (off : eqb s.host 0 ≡ false) (near_ends : ℕ → NumberedEnd) (es : List Entry)
    (same : (near_ends s.host).side.got ≡ s.link.host.side.got)
    (none : AreNoTurns es) (unbooted : AreNoBoots es) (own : AreOwn s.host es) (uncut : AreUncut es) (still : AreStill (end_h s.host) es)
    (input : NodeInput) (outside : IsOutside input) where
  abbrev from : Work
  from = work_of r s.memory.plan near_ends es

  abbrev ended_of_at_rest : Work
  ended_of_at_rest = steps input from

  from_hosts : hosts_of_ends from.ports ≡ s.host ∷ []
  from_hosts = hosts_same near_ends r.desks ∙ has.ends

  from_side : own_side from.core ≡ Host
  from_side = grind arith

  its_port : (ports : List Port) → hosts_of_ends ports ≡ s.host ∷ [] → (p : Port) × (port_at ports s.host ≡ Some p)
  its_port [] q = absurd (cc q)
  its_port (p ∷ ports) q = let one : p.desk.host ≡ s.host = cc in (p, rw one (rw (same_number s.host) refl))

  held : holds_in t (end_h s.host) ≡ is_held_at from.ports s.host
  held = a.rests.holds r runs ∙ sym (ports_held near_ends r.desks s.host)

  pub far_rests : is_done (t ++ ended_of_at_rest.entries) (end_h s.host) ≡ true
  far_rests =
      let p = its_port from.ports from_hosts in
      let begins = port_begins near_ends r.desks s.host p.0 p.1 in
      ended_done s.host Host t input from has.number from_side none unbooted outside (subst AreDifferent (sym from_hosts) (tt, tt))
      (far_runs s.host r s.memory.plan near_ends es off has own uncut) s.host held p.0 p.1 begins.0 refl still
      (subst (Goes (end_h s.host) [] t) (sym same ∙ ap (λ (e : LinkEnd). e.got) (sym begins.1)) (a.goes r runs))

  -- the site behind it
  pub far_site : (v : Site) (frames : List Entry) → v.host ≡ s.host → v.node ≡ runs_on ended_of_at_rest → AreIdle (end_h s.host) frames
      → AreNotOf 0 (ended_of_at_rest.entries ++ frames) → SiteRests (t ++ (ended_of_at_rest.entries ++ frames)) v
  far_site v frames host node idle other = record {
    near = subst (λ h. is_done (t ++ (ended_of_at_rest.entries ++ frames)) (end_c h) ≡ true) (sym host)
        (idle_done (end_c s.host) t (ended_of_at_rest.entries ++ frames) (others_idle (end_c s.host) (ended_of_at_rest.entries ++ frames) other) a.rests.near);
    holds = λ x q. subst (λ h. holds_in (t ++ (ended_of_at_rest.entries ++ frames)) (end_h h) ≡ is_held_among x.desks h) (sym host)
        (by_test ended_of_at_rest.cut
        (λ lost. grind arith)
        (λ on. let on_is : runs_on ended_of_at_rest ≡ Some
        (record { core = ended_of_at_rest.core; desks = map (λ (p : Port). p.desk) ended_of_at_rest.ports }) = rw on refl in
        let all : Some x ≡ Some (record { core = ended_of_at_rest.core; desks = map (λ (p : Port). p.desk) ended_of_at_rest.ports }) = grind arith in
        let is : x ≡ record { core = ended_of_at_rest.core; desks = map (λ (p : Port). p.desk) ended_of_at_rest.ports } = cc in
        ap (λ l. holds_in l (end_h s.host)) (sym (append_assoc t ended_of_at_rest.entries frames))
        ∙ (idle_held (end_h s.host) (t ++ ended_of_at_rest.entries) frames idle
        ∙ (ended_read_at s.host Host t input from has.number from_side none unbooted s.host on held
        ∙ (sym (desks_held ended_of_at_rest.ports s.host) ∙ ap (λ (y : Running). is_held_among y.desks s.host) (sym is))))));
    far = subst (λ h. is_done (t ++ (ended_of_at_rest.entries ++ frames)) (end_h h) ≡ true) (sym host)
        (subst (λ l. is_done l (end_h s.host) ≡ true) (append_assoc t ended_of_at_rest.entries frames)
        (idle_done (end_h s.host) (t ++ ended_of_at_rest.entries) frames idle far_rests));
  }
