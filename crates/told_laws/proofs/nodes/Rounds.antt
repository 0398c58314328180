-- All that is told of a history of nodes, of its lines and of rounds is in its range, by bounds of RSETs and acknowledged fragments.
use Rattle.std.proofs.lemmas.List.Elements.{recursion_from_All}
use Rattle.told_laws.proofs.Words.{All, AllByRecursion, AllKeep, AreAckedWithin, AreHosts, AreSaidTables, AreTables, Bool, End, Entry, FewRsets, FewRsetsOnEach}
use Rattle.told_laws.proofs.Words.{Happening, HciTables, Header, IfRuns, IsByte, IsEndOf, IsFew, IsHost, IsNodeHeader, IsNodeLineOf, IsNodeOf, IsSaidValue}
use Rattle.told_laws.proofs.Words.{IsSound, Line, Link, List, MayAllHappen, MayHappen, Message, NoCause, NodeWorld, None, Occurrence, OnWire, Option, Refused}
use Rattle.told_laws.proofs.Words.{RegValue, Running, Site, SiteKeeps, Some, Takes, Ticks, [], all_happen, all_mapped, amid_round, ap, append-nil, append_assoc}
use Rattle.told_laws.proofs.Words.{arith, as_noted, by_test, can_happen, commands_in, cond_both, each-append, each_amid, each_longer, each_rounds, end_c, end_h}
use Rattle.told_laws.proofs.Words.{end_takes_all, ends_in_order, ends_take_all, entries_in, false, few_behind_step, few_front, first_cause, first_none}
use Rattle.told_laws.proofs.Words.{flat_map, flat_map-append, frame_of, frames_at, give_refusal, happenings, header_hosts, if_not_sent, if_off, if_out_of_reach}
use Rattle.told_laws.proofs.Words.{if_waiting, inr, is_running, length, length-replicate, length-rows, link_to, lpdu_of, machine_in, node_fits, node_of, pid_of}
use Rattle.told_laws.proofs.Words.{place_of_value, refl, refusal_in, replicate, rsets_by, static_place, subst, suc, sym, sync_host, taken_of, true, unwrap_or}
use Rattle.told_laws.proofs.Words.{world_goes, world_round, world_step, zero, ℕ, ◌*◌, ◌++◌, ◌+◌, ◌-◌, ◌<◌, ◌^◌, ◌∙◌, ◌∷◌, ◌≡◌, ◌≤◌}
use Rattle.node_laws.specs.acked.InTurn.{IsAckedWithin}
use Rattle.node_laws.specs.kept.Books.{AreToldBehind, IsTold}
use Rattle.told_laws.proofs.nodes.Commands.{AreIn, AreTablesIn, IsValueIn, LinkIn, all_in_more, in-append, line_lpdu, tables_read_in}
use Rattle.told_laws.proofs.nodes.Happenings.{HappensIn, IfTables, IsSiteIn, IsWorldIn, WorldHas, happens_in, link_there, world_more}
use Rattle.told_laws.proofs.nodes.Machines.{AreBytes, IsLineFrame}
use Rattle.told_laws.proofs.told.BarePlays.{IfCause, all_each, beyond_in, each_all, frame_few, top}
use Rattle.told_laws.proofs.told.Links.{WireIs, so_within}
use Rattle.trace_model.specs.declared.entry.Entry.TheVariants as entry
use Rattle.trace_model.specs.declared.entry.NoCause.TheVariants as no
use Rattle.trace_model.specs.declared.line.Line.TheVariants as line

-- ## The numbers of a world that is in range are bounded by its RSETs and acknowledged fragments, whatever it came through

-- ### A link

link_within : (n m : ℕ) (l : Link) → LinkIn false true n l → FewRsets m l → IsAckedWithin m l → LinkIn false true m l
link_within n m l h few acked =
    so_within IsLineFrame n m l few (λ s. record { side = grind arith; calm = s.calm })
    (λ s. record { side = grind arith; calm = s.calm }) h

-- ### A world

sites_within : (n m : ℕ) (sites : List Site) → AllByRecursion (IsSiteIn n) sites → FewRsetsOnEach m sites
    → AllByRecursion (λ (s : Site). IsAckedWithin m s.link) sites → AllByRecursion (IsSiteIn m) sites
sites_within n m [] h few acked = tt
sites_within n m (s ∷ sites) h few acked = (
  record { host = h.0.host; link = link_within n m s.link h.0.link few.0 acked.0; node = h.0.node },
  sites_within n m sites h.1 few.1 acked.1,
)

-- no more fragments count as acknowledged
sites_acked : (n : ℕ) (sites : List Site) → AllByRecursion (IsSiteIn n) sites → AllByRecursion (λ (s : Site). IsAckedWithin n s.link) sites
sites_acked n [] h = tt
sites_acked n (s ∷ sites) h =
    (record { controller = h.0.link.near.side.side.end.heard.acked; host = h.0.link.far.side.side.end.heard.acked }, sites_acked n sites h.1)

acked_longer : (n m : ℕ) (sites : List Site) → n ≤ m → AllByRecursion (λ (s : Site). IsAckedWithin n s.link) sites
    → AllByRecursion (λ (s : Site). IsAckedWithin m s.link) sites
acked_longer n m [] more h = tt
acked_longer n m (s ∷ sites) more h =
    (record { controller = omega (arith, h.0.controller, more); host = omega (arith, h.0.host, more) }, acked_longer n m sites more h.1)

-- ## All that is told of a history of nodes is in its range

-- ### Counts

-- what a boot found and what ANY_OK counts is a number of a text
abbrev pub IsCounted : Entry → Type 0
IsCounted (entry.AnyOk node count) = count < 2 ^ 32
IsCounted (entry.Booted node count) = count < 2 ^ 32
IsCounted x = Unit {0}

one_counted : (t : List Entry) (x : Entry) → ((n : ℕ) → length (commands_in t n) ≤ 2 ^ 32 - 1) → IsTold t x → IsCounted x
one_counted t x few told = grind arith

all_counted : (es t : List Entry) → AreToldBehind t es → IsFew (t ++ es) → AllByRecursion IsCounted es
all_counted [] t told few = tt
all_counted (x ∷ es) t told few =
    let h0 = one_counted t x (λ n. few t (x ∷ es) n refl) told.0 in
    let h1 = all_counted es (t ++ x ∷ []) told.1 (subst IsFew (sym (append_assoc t (x ∷ []) es)) few) in grind arith

-- ### Worlds

-- the tables of a node that runs are sorted, and in their ranges
pub record IsFull (r : Running) : Type 0 where
  pub sorted : AreTables r.core.tables
  pub tables : AreTablesIn r.core.tables

abbrev pub IfFull : Option Running → Type 0
IfFull None = Unit {0}
IfFull (Some r) = IsFull r

-- one thing happens and then the others, or none can
first_happens : (c : Happening) (causes : List Happening) (w : NodeWorld) → can_happen w c ≡ true
    → all_happen w (c ∷ causes)
    ≡ ((all_happen (world_step w c).0 causes).0, record { cause = c; entries = (world_step w c).1 } ∷ (all_happen (world_step w c).0 causes).1)
first_happens c causes w q = rw q refl

none_happens : (c : Happening) (causes : List Happening) (w : NodeWorld) → can_happen w c ≡ false → all_happen w (c ∷ causes) ≡ (w, [])
none_happens c causes w q = rw q refl

module _ (hosts : List ℕ) (are : AreHosts hosts) where
  -- no number in the world is above n, nor are there more RSETs that its links made; what was noted may be greater, and is a number of a text
  pub record Stands (n : ℕ) (t : List Entry) (w : NodeWorld) : Type 0 where
    pub world : IsWorldIn n w
    pub rsets : FewRsetsOnEach n w.sites
    pub noted : AreIn top t
    pub counted : AllByRecursion IsCounted t
    pub keep : AllKeep hosts t w

  full : (k n : ℕ) (hs content : List ℕ) (t : List Entry) (o : Option Running) → AreIn n t → IfRuns k hs content t o → IfFull o
  full k n hs content t None noted runs = tt
  full k n hs content t (Some r) noted runs = let h0 = tables_read_in n k t noted in grind arith

  sites_full : (n : ℕ) (t : List Entry) (sites : List Site) → AreIn n t → AllByRecursion (SiteKeeps t) sites
      → AllByRecursion (λ (s : Site). IfFull s.node) sites
  sites_full n t [] noted h = tt
  sites_full n t (s ∷ sites) noted h = (full s.host n (s.host ∷ []) s.memory.content t s.node noted h.0.runs, sites_full n t sites noted h.1)

  pub record AllFull (w : NodeWorld) : Type 0 where
    pub controller : IfFull w.controller
    pub sites : AllByRecursion (λ (s : Site). IfFull s.node) w.sites

  pub all_full : (n : ℕ) (t : List Entry) (w : NodeWorld) → Stands n t w → AllFull w
  all_full n t w s = record {
    controller = full 0 top hosts w.memory.content t w.controller s.noted s.keep.controller.runs;
    sites = sites_full top t w.sites s.noted s.keep.sites;
  }

  world_has : (w : NodeWorld) → AllFull w → WorldHas w
  world_has w h = record {
    controller = grind arith;
    sites = all_mapped Site (λ (s : Site). IfFull s.node) (λ (s : Site). IfTables s.node) w.sites (λ s full. grind arith) h.sites;
  }

  -- ### Events

  rsets_by_few : (c : Happening) → rsets_by c ≤ 26
  rsets_by_few c = grind arith

  event_in : (n : ℕ) (t : List Entry) (w : NodeWorld) (c : Happening) → HappensIn c → MayHappen w c → Stands n t w → n + 26 ≤ top
      → IsFew (t ++ (world_step w c).1) → Stands (n + 26) (t ++ (world_step w c).1) (world_step w c).0
  event_in n t w c is may s small few =
      let step = happens_in n w c is s.world (world_has w (all_full n t w s)) in
      let goes = world_goes hosts are t w c s.keep may (λ k. few t (world_step w c).1 k refl) in
      record {
        world = step.world;
        rsets = each_longer (n + rsets_by c) (n + 26) (world_step w c).0.sites (let by = rsets_by_few c in omega (arith, by))
            (few_behind_step n w c s.rsets);
        noted = in-append top t (world_step w c).1 s.noted (all_in_more (n + 26) top (world_step w c).1 small step.noted);
        counted = each-append IsCounted t (world_step w c).1 s.counted (all_counted (world_step w c).1 t goes.told few);
        keep = goes.keep;
      }

  pub stands_more : (n k : ℕ) (t : List Entry) (w : NodeWorld) → n ≤ k → Stands n t w → Stands k t w
  stands_more n k t w more s =
      record {
        world = world_more n k w more s.world;
        rsets = each_longer n k w.sites more s.rsets;
        noted = s.noted;
        counted = s.counted;
        keep = s.keep;
      }

  pub events_in : (causes : List Happening) (n : ℕ) (t : List Entry) (w : NodeWorld) → AllByRecursion HappensIn causes → MayAllHappen w causes → Stands n t w
      → n + 26 * length causes ≤ top → IsFew (t ++ entries_in (all_happen w causes).1)
      → Stands (n + 26 * length causes) (t ++ entries_in (all_happen w causes).1) (all_happen w causes).0
  events_in [] n t w is may s small few = subst (λ u. Stands (n + 26 * 0) u w) (sym (append-nil t)) (stands_more n (n + 26 * 0) t w (omega arith) s)
  events_in (c ∷ causes) n t w is may s small few = go (can_happen w c) refl (λ u m k g f low y. events_in causes m u k is.1 g f low y)
    where
      next : NodeWorld × List Entry
      next = world_step w c

      later : NodeWorld × List Occurrence
      later = all_happen next.0 causes

      k : ℕ
      k = n + 26 * length (c ∷ causes)

      Fine : NodeWorld × List Occurrence → Type 0
      Fine p = Stands k (t ++ entries_in p.1) p.0

      go : (b : Bool) → can_happen w c ≡ b
          → ((u : List Entry) (m : ℕ) (v : NodeWorld) → MayAllHappen v causes → Stands m u v → m + 26 * length causes ≤ top
          → IsFew (u ++ entries_in (all_happen v causes).1) → Stands (m + 26 * length causes) (u ++ entries_in (all_happen v causes).1) (all_happen v causes).0)
          → Fine (all_happen w (c ∷ causes))
      go true e rest =
          let apart : IsFew ((t ++ next.1) ++ entries_in later.1) = subst IsFew (sym (append_assoc t next.1 (entries_in later.1))) (grind arith) in
          let first = event_in n t w c is.0 may.0 s (omega (arith, small)) (few_front (t ++ next.1) (entries_in later.1) apart) in
          let all = rest (t ++ next.1) (n + 26) next.0 may.1 first (omega (arith, small)) apart in
          subst Fine (sym (first_happens c causes w e))
          (stands_more ((n + 26) + 26 * length causes) k (t ++ (next.1 ++ entries_in later.1)) later.0 (omega arith)
          (subst (λ u. Stands ((n + 26) + 26 * length causes) u later.0) (append_assoc t next.1 (entries_in later.1)) all))
      go false e rest =
          subst Fine (sym (none_happens c causes w e)) (subst (λ u. Stands k u w) (sym (append-nil t)) (stands_more n k t w (omega arith) s))

-- ## What is told of the lines of a schedule of nodes is in its range

-- ### Lines

-- a host of the header
link_low : (header : Header) → IsNodeHeader header → (e : End) → IsEndOf header e → e.link ≤ 7
link_low header nodes e known = (subst IsHost known.2 (header_hosts header (inr nodes) known.0 e.link known.1)).1

pub number_low : (header : Header) → IsNodeHeader header → (k : ℕ) → IsNodeOf header.hosts.items k → k ≤ 7
number_low header nodes k known = node_fits header.hosts.items k (header_hosts header (inr nodes)) known

-- ### What a line causes

repeated_in : (c : Happening) → HappensIn c → (k : ℕ) → AllByRecursion HappensIn (replicate k c)
repeated_in c is zero = tt
repeated_in c is (suc k) = (is, repeated_in c is k)

pipes_in : (pipes : List (List ℕ)) → AllByRecursion (λ (pipe : List ℕ). (length pipe ≡ 3) × All IsByte pipe) pipes
    → AllByRecursion (λ (pipe : List ℕ). AreBytes pipe × (length pipe ≤ 4000)) pipes
pipes_in [] h = tt
pipes_in (pipe ∷ pipes) h = let three = h.0.0 in ((all_each IsByte pipe h.0.1, omega (arith, three)), pipes_in pipes h.1)

module _ (header : Header) (nodes : IsNodeHeader header) where
  pub caused_in : (w : NodeWorld) (l : Line) → IsNodeLineOf header l → refusal_in w l ≡ None → AllByRecursion HappensIn (happenings w l)
  caused_in w (line.Send e pid message) is none =
      let refused = none_noted_send w e (pid, message) ((first_none (if_off w (node_of e)) (if_not_sent w e (pid, message)) none).1) in (
        (
          link_low header nodes e is.known,
          record {
            pipe = is.pipe;
            some = is.some;
            bytes = all_each IsByte message is.bytes;
            short = grind arith;
          },
        ),
        tt,
      )
    where
      none_noted_send : (v : NodeWorld) (x : End) (m : Message) → if_not_sent v x m ≡ None → give_refusal (machine_in v x) m ≡ None
      none_noted_send v x m q = grind arith
  caused_in w (line.Deliver e count) is none = repeated_in (Takes e) (link_low header nodes e is.0) (taken_of count (frames_at w e))
  caused_in w (line.Lose e) is none = (link_low header nodes e is, tt)
  caused_in w (line.Damage e places) is none = grind arith
  caused_in w (line.Tick times) is none = repeated_in Ticks tt (unwrap_or times 1)
  caused_in w (line.Reset e None) is none = ((link_low header nodes e is.0, tt), tt)
  caused_in w (line.Reset e (Some window)) is none = ((link_low header nodes e is.0, is.1.1), tt)
  caused_in w (line.Boot node) is none = (number_low header nodes node is, tt)
  caused_in w (line.Cut node) is none = (number_low header nodes node is, tt)
  caused_in w (line.Activate host sync power) is none = grind arith
  caused_in w (line.Arm node nth fill) is none = (tt, tt)
  caused_in w (line.Init e identity pipes) is none =
      let long = is.long in (
        (
          link_low header nodes e is.known,
          record {
            identity = (all_each IsByte identity is.bytes, omega (arith, long));
            pipes = pipes_in pipes.items (recursion_from_All _ pipes.items is.each);
            few = is.few;
          },
        ),
        tt,
      )
  caused_in w _ is none = tt

  -- a line causes 100 events at most
  wire_at : (n : ℕ) (w : NodeWorld) → IsWorldIn n w → (e : End) → WireIs IsLineFrame n (frames_at w e)
  wire_at n w is e = by_test e.at_host (λ q. rw q l.to_far) (λ q. rw q l.to_near)
    where
      l : LinkIn false true n (link_to w.sites e.link)
      l = link_there n w.sites e.link is.sites

  few_taken : (count : Option ℕ) (w : List OnWire) → length w ≤ 64 → taken_of count w ≤ 64
  few_taken count w few = grind arith

  pub few_caused : (n : ℕ) (w : NodeWorld) (l : Line) → IsNodeLineOf header l → IsWorldIn n w → length (happenings w l) ≤ 100
  few_caused n w (line.Deliver e count) is h =
      let few = few_taken count (frames_at w e) (wire_at n w h e).few in
      let long = length-replicate (taken_of count (frames_at w e)) (Takes e) in omega (arith, few, long)
  few_caused n w (line.Damage e places) is h = grind arith
  few_caused n w (line.Tick None) is h = omega arith
  few_caused n w (line.Tick (Some times)) is h = let long = length-replicate times Ticks in let few = is.1 in omega (arith, few, long)
  few_caused n w _ is h = omega arith

-- ### Refusals

first_in : (a b : Option NoCause) → IfCause a → IfCause b → IfCause (first_cause a b)
first_in a b p q = grind arith

off_in : (w : NodeWorld) (n : ℕ) → IfCause (if_off w n)
off_in w n = cond_both (is_running w n) None (Some no.Off) IfCause (λ _. tt) (λ _. tt)

waiting_in : (waits : Bool) (o : Option Refused) → IfCause (as_noted o) → IfCause (if_waiting waits o)
waiting_in waits o h = grind arith

sent_in : (w : NodeWorld) (e : End) (m : Message) → IfCause (if_not_sent w e m)
sent_in w e m = waiting_in _ (give_refusal (machine_in w e) m) (grind arith)

reach_in : (n : ℕ) (w : List OnWire) (places : List ℕ) → WireIs IsLineFrame n w → IfCause (if_out_of_reach w places)
reach_in n [] places h = tt
reach_in n (x ∷ xs) places h =
    beyond_in (length (frame_of (lpdu_of x.frame))) places (frame_few (lpdu_of x.frame) (line_lpdu x.frame h.frames.0.frame).few)

module _ (header : Header) (nodes : IsNodeHeader header) where
  pub refused_in : (n : ℕ) (w : NodeWorld) (l : Line) → IsWorldIn n w → IfCause (refusal_in w l)
  refused_in n w (line.Send e pid message) h =
      first_in (if_off w (node_of e)) (if_not_sent w e (pid, message)) (off_in w (node_of e)) (sent_in w e (pid, message))
  refused_in n w (line.Deliver e count) h = grind arith
  refused_in n w (line.Lose e) h = grind arith
  refused_in n w (line.Damage e places) h =
      first_in (if_off w (node_of e)) (if_out_of_reach (frames_at w e) places.items) (off_in w (node_of e))
      (reach_in n (frames_at w e) places.items (wire_at header nodes n w h e))
  refused_in n w (line.Reset e window) h = grind arith
  refused_in n w (line.Boot node) h = by_test (is_running w node) (λ q. rw q tt) (λ q. rw q tt)
  refused_in n w (line.Cut node) h = off_in w node
  refused_in n w (line.Activate host sync power) h = first_in (if_off w 0) (if_off w host) (off_in w 0) (off_in w host)
  refused_in n w (line.Init e identity pipes) h = grind arith
  refused_in n w (line.Tables node) h = off_in w node
  refused_in n w _ h = tt

-- ### Tables

pub said_tables : (t : HciTables) → AreTables t → AreTablesIn t → AreSaidTables t
said_tables t sorted is =
    let b = length-rows static_place 0 16 t.statics sorted.statics in
    let c = length-rows place_of_value 2 16 t.values sorted.values.sorted in
    let d = length-rows sync_host 1 8 t.syncs sorted.syncs in
    record {
      counts = (omega (arith, length-rows pid_of 2 112 t.rows sorted.rows), omega (arith, b), omega (arith, c), omega (arith, d));
      pipes = each_all _ t.rows is.pipes;
      statics = each_all _ t.statics is.statics;
      values = each_all _ t.values (all_mapped RegValue IsValueIn IsSaidValue t.values (λ v h. h.0) is.values);
      syncs = each_all _ t.syncs is.syncs;
    }

-- ## A world of nodes stays in range over a round, and so does what is noted of it

-- ### Frames that are taken one after another

-- the world where so many frames were taken
abbrev after_taken : NodeWorld → End → ℕ → NodeWorld
after_taken w e k = (all_happen w (replicate k (Takes e))).0

one_taken_more : (k : ℕ) (w : NodeWorld) (e : End) → can_happen (after_taken w e k) (Takes e) ≡ true
    → (world_step (after_taken w e k) (Takes e)).0 ≡ after_taken w e (suc k)
one_taken_more zero w e q = sym (ap (λ (p : NodeWorld × List Occurrence). p.0) (first_happens (Takes e) [] w q))
one_taken_more (suc k) w e q = by_test (can_happen w (Takes e))
    (λ is. let same : after_taken w e (suc k) ≡ after_taken v e k =
    ap (λ (p : NodeWorld × List Occurrence). p.0) (first_happens (Takes e) (replicate k (Takes e)) w is) in
    ap (λ (u : NodeWorld). (world_step u (Takes e)).0) same
    ∙ (one_taken_more k v e (grind arith)
    ∙ sym (ap (λ (p : NodeWorld × List Occurrence). p.0) (first_happens (Takes e) (replicate (suc k) (Takes e)) w is))))
    (λ is. grind arith)
  where
    v : NodeWorld
    v = (world_step w (Takes e)).0

-- one end more has taken all that stood on its wire
end_taken_more : (front : List End) (w : NodeWorld) (e : End) → (end_takes_all (ends_take_all w front).0 e).0 ≡ (ends_take_all w (front ++ e ∷ [])).0
end_taken_more [] w e = refl
end_taken_more (x ∷ front) w e = end_taken_more front (end_takes_all w x).0 e

abbrev IsLowEnd : End → Type 0
IsLowEnd e = e.link ≤ 7

ends_low : (n : ℕ) (sites : List Site) → AllByRecursion (IsSiteIn n) sites
    → AllByRecursion IsLowEnd (flat_map (λ (s : Site). end_c s.host ∷ end_h s.host ∷ []) sites)
ends_low n [] h = tt
ends_low n (s ∷ sites) h = (h.0.host, (h.0.host, ends_low n sites h.1))

module _ (hosts : List ℕ) (are : AreHosts hosts) where
  -- an event behind which less is known to have come of what happened
  step_within : (n m : ℕ) (t : List Entry) (w : NodeWorld) (c : Happening) → HappensIn c → MayHappen w c → Stands hosts are n t w → n + 26 ≤ top
      → IsFew (t ++ (world_step w c).1) → FewRsetsOnEach m (world_step w c).0.sites → AreAckedWithin m (world_step w c).0
      → Stands hosts are m (t ++ (world_step w c).1) (world_step w c).0
  step_within n m t w c is may s small few rsets acked =
      let then = event_in hosts are n t w c is may s small few in
      record {
        world = record { sites = sites_within (n + 26) m (world_step w c).0.sites then.world.sites rsets acked; controller = then.world.controller };
        rsets = rsets;
        noted = then.noted;
        counted = then.counted;
        keep = then.keep;
      }

  module _ (n : ℕ) (w : NodeWorld) (sound : IsSound w) (acked : AreAckedWithin n w) (small : n + 30 ≤ top) where
    module _ (front back : List End) (e : End) (order : ends_in_order w ≡ front ++ e ∷ back) (low : IsLowEnd e) where
      takes_in : (r k : ℕ) (t : List Entry) (v : NodeWorld) → v ≡ amid_round w front e k → k + r ≤ length (frames_at (ends_take_all w front).0 e)
          → Stands hosts are (n + 4) t v → IsFew (t ++ entries_in (all_happen v (replicate r (Takes e))).1)
          → Stands hosts are (n + 4) (t ++ entries_in (all_happen v (replicate r (Takes e))).1) (all_happen v (replicate r (Takes e))).0
      takes_in zero k t v is left s few = subst (λ (u : List Entry). Stands hosts are (n + 4) u v) (sym (append-nil t)) s
      takes_in (suc r) k t v is left s few =
          go (can_happen v (Takes e)) refl (λ u x same so y. takes_in r (suc k) u x same (omega (arith, left)) so y)
        where
          next : NodeWorld × List Entry
          next = world_step v (Takes e)

          later : NodeWorld × List Occurrence
          later = all_happen next.0 (replicate r (Takes e))

          Fine : NodeWorld × List Occurrence → Type 0
          Fine p = Stands hosts are (n + 4) (t ++ entries_in p.1) p.0

          go : (b : Bool) → can_happen v (Takes e) ≡ b
              → ((u : List Entry) (x : NodeWorld) → x ≡ amid_round w front e (suc k) → Stands hosts are (n + 4) u x
              → IsFew (u ++ entries_in (all_happen x (replicate r (Takes e))).1)
              → Stands hosts are (n + 4) (u ++ entries_in (all_happen x (replicate r (Takes e))).1) (all_happen x (replicate r (Takes e))).0)
              → Fine (all_happen v (replicate (suc r) (Takes e)))
          go true q rest =
              let all_few : IsFew (t ++ (next.1 ++ entries_in later.1)) = grind arith in
              let apart : IsFew ((t ++ next.1) ++ entries_in later.1) = subst IsFew (sym (append_assoc t next.1 (entries_in later.1))) all_few in
              let same : next.0 ≡ amid_round w front e (suc k) =
              ap (λ (u : NodeWorld). (world_step u (Takes e)).0) is ∙ one_taken_more k (ends_take_all w front).0 e (grind arith) in
              let counts : AreAckedWithin (n + 4) next.0 =
              subst (AreAckedWithin (n + 4)) (sym same) (each_amid w n sound front back e (suc k) order (omega (arith, left)) acked) in
              let rsets : FewRsetsOnEach (n + 4) next.0.sites =
              each_longer ((n + 4) + 0) (n + 4) next.0.sites (omega arith) (few_behind_step (n + 4) v (Takes e) s.rsets) in
              let first : Stands hosts are (n + 4) (t ++ next.1) next.0 =
              step_within (n + 4) (n + 4) t v (Takes e) low tt s (omega (arith, small)) (few_front (t ++ next.1) (entries_in later.1) apart) rsets counts in
              subst Fine (sym (first_happens (Takes e) (replicate r (Takes e)) v q))
              (subst (λ (u : List Entry). Stands hosts are (n + 4) u later.0) (append_assoc t next.1 (entries_in later.1))
              (rest (t ++ next.1) next.0 same first apart))
          go false q rest =
              subst Fine (sym (none_happens (Takes e) (replicate r (Takes e)) v q))
              (subst (λ (u : List Entry). Stands hosts are (n + 4) u v) (sym (append-nil t)) s)

    ends_in : (ends front : List End) (t : List Entry) (v : NodeWorld) → v ≡ (ends_take_all w front).0 → ends_in_order w ≡ front ++ ends
        → AllByRecursion IsLowEnd ends → Stands hosts are (n + 4) t v → IsFew (t ++ entries_in (ends_take_all v ends).1)
        → Stands hosts are (n + 4) (t ++ entries_in (ends_take_all v ends).1) (ends_take_all v ends).0
    ends_in [] front t v is order low s few = subst (λ (u : List Entry). Stands hosts are (n + 4) u v) (sym (append-nil t)) s
    ends_in (e ∷ ends) front t v is order low s few =
        let taken : NodeWorld × List Occurrence = end_takes_all v e in
        let later : NodeWorld × List Occurrence = ends_take_all taken.0 ends in
        let es : List Entry = entries_in taken.1 in
        let both : entries_in (taken.1 ++ later.1) ≡ es ++ entries_in later.1 = flat_map-append (λ (o : Occurrence). o.entries) taken.1 later.1 in
        let parts : t ++ entries_in (taken.1 ++ later.1) ≡ (t ++ es) ++ entries_in later.1 =
        ap (λ (u : List Entry). t ++ u) both ∙ sym (append_assoc t es (entries_in later.1)) in
        let apart : IsFew ((t ++ es) ++ entries_in later.1) = subst IsFew parts few in
        let long : length (frames_at v e) ≤ length (frames_at (ends_take_all w front).0 e) = grind arith in
        let first : Stands hosts are (n + 4) (t ++ es) taken.0 =
        takes_in front ends e order low.0 (length (frames_at v e)) 0 t v is (omega (arith, long)) s (few_front (t ++ es) (entries_in later.1) apart) in
        let goes_on : taken.0 ≡ (ends_take_all w (front ++ e ∷ [])).0 =
        ap (λ (u : NodeWorld). (end_takes_all u e).0) is ∙ end_taken_more front w e in
        subst (λ (u : List Entry). Stands hosts are (n + 4) u later.0) (sym parts)
        (ends_in ends (front ++ e ∷ []) (t ++ es) taken.0 goes_on (order ∙ sym (append_assoc front (e ∷ []) ends)) low.1 first apart)

  -- a round
  pub round_stands : (n : ℕ) (t : List Entry) (w : NodeWorld) → IsSound w → n + 30 ≤ top → Stands hosts are n t w
      → IsFew (t ++ entries_in (world_round w).1) → Stands hosts are (n + 6) (t ++ entries_in (world_round w).1) (world_round w).0
  round_stands n t w sound small s few =
      let acked : AreAckedWithin n w = sites_acked n w.sites s.world.sites in
      let taken : NodeWorld × List Occurrence = ends_take_all w (ends_in_order w) in
      let tick : NodeWorld × List Entry = world_step taken.0 Ticks in
      let es : List Entry = entries_in taken.1 in
      let both : entries_in (world_round w).1 ≡ es ++ tick.1 =
      flat_map-append (λ (o : Occurrence). o.entries) taken.1 (record { cause = Ticks; entries = tick.1 } ∷ [])
      ∙ ap (λ (u : List Entry). es ++ u) (append-nil tick.1) in
      let parts : t ++ entries_in (world_round w).1 ≡ (t ++ es) ++ tick.1 =
      ap (λ (u : List Entry). t ++ u) both ∙ sym (append_assoc t es tick.1) in
      let apart : IsFew ((t ++ es) ++ tick.1) = subst IsFew parts few in
      let first : Stands hosts are (n + 4) (t ++ es) taken.0 =
      ends_in n w sound acked small (ends_in_order w) [] t w refl refl (ends_low n w.sites s.world.sites)
      (stands_more hosts are n (n + 4) t w (omega arith) s) (few_front (t ++ es) tick.1 apart) in
      let rsets : FewRsetsOnEach (n + 6) tick.0.sites =
      each_longer ((n + 4) + 2) (n + 6) tick.0.sites (omega arith) (few_behind_step (n + 4) taken.0 Ticks first.rsets) in
      let counts : AreAckedWithin (n + 6) tick.0 = (acked_longer (n + 4 * 1) (n + 6) tick.0.sites (omega arith) (each_rounds 1 w n sound acked)) in
      subst (λ (u : List Entry). Stands hosts are (n + 6) u tick.0) (sym parts)
      (step_within (n + 4) (n + 6) (t ++ es) taken.0 Ticks tt tt first (omega (arith, small)) apart rsets counts)
