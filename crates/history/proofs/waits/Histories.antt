-- Whether an end of a bare link waits for the answer to a reset is read off the entries of a history.
use Rattle.history.proofs.Words.{Act, AllAllowed, AllByRecursion, AreOwn, AtController, AtHost, Bool, CanStart, Cause, Control, Controller, Cut, Emit, End}
use Rattle.history.proofs.Words.{EndEvent, Entry, Event, Follows, GaveUp, Good, HasNumbers, Header, History, Host, I, IsBare, IsEvent, IsHeader, IsInTick}
use Rattle.history.proofs.Words.{IsLineOf, IsNode, IsStart, IsUicc, IsUnderWay, Line, Link, LinkEvent, List, Noted, NumberedEnd, Reached, Rej, Restarted, Rnr}
use Rattle.history.proofs.Words.{Rr, S, Side, Sound, Sounds, Srej, Starts, Tick, Ticks, TicksWithout, Up, [], after_link_events, after_tick, aged}
use Rattle.history.proofs.Words.{aged_entries, all_at_controller, all_events, all_in_tick, all_step, ap, arith, bare_link, before_here, before_there, can_start}
use Rattle.history.proofs.Words.{causes_of, clf_starts, core_event, core_of, end_of, entries, entries_for, entries_of, entries_of_events, event_entries}
use Rattle.history.proofs.Words.{event_of, event_step, exchanged, false, first_entries, fold, goes_on, happens, happens_at_controller, here_entries, host_here}
use Rattle.history.proofs.Words.{host_in_tick, host_of, if◌then◌else◌, is_rset, is_rset_lpdu, is_waiting, le-leb, link_after_all, lpdu_of}
use Rattle.history.proofs.Words.{machine_of, map, nat_le, near_in_tick, own_in_tick, reached_more, refl, rests_of, safe_reached, same_side}
use Rattle.history.proofs.Words.{sound_here, start_under_way, started_clf, step_here, step_tick, subst, sym, tick_entries, ticks_at_controller}
use Rattle.history.proofs.Words.{ticks_host, trace, true, waits_after, waits_in, without_tick, ℕ, ◌&&◌, ◌*◌, ◌++◌, ◌+◌, ◌<◌, ◌∙◌, ◌∷◌, ◌≡◌}
use Rattle.link_laws.proofs.sessions.Steps.{safe_aged}
use Rattle.link_laws.specs.messages.Links.EndEvent.{Step}
use Rattle.link_laws.specs.messages.Links.LinkEvent.{Activate}
use Rattle.swp_base.specs.declared.control_frames.Act.TheVariants.{PowerMode, Ready, SyncId}
use Rattle.history.proofs.legal.Sessions.{AreOf, ArePlain, IsRun, after_causes, all_can, is_run, notes_of, of_can, of_front, plain_trace, run_entries, same_as}
use Rattle.history.proofs.waits.Harking.{Harked, harks, harks-append, here_harked, own_harked, passes-append, passes_aged, tick_harked, waits}

-- ## What is noted of a link says whether each end waits for the answer to a reset

-- what is noted as l becomes m says whether both ends wait
record BothHarked (l m : Link) (u : List Noted) : Type 0 where
  controller : harks Controller (waits l.controller) u ≡ waits m.controller
  host : harks Host (waits l.host) u ≡ waits m.host

-- one part after another
then_harked : (who : Side) (x y z : Bool) (u v : List Noted) → harks who x u ≡ y → harks who y v ≡ z → harks who x (u ++ v) ≡ z
then_harked who x y z u v p q = harks-append who x u v ∙ (ap (λ s. harks who s v) p ∙ q)

all_harked : {kf : ℕ} (es : List EndEvent) (l : Link) → AreOwn l es → IsInTick kf l
    → Harked Controller l (all_at_controller l es) (entries_of_events Controller l es)
all_harked [] l a s = record { here = refl; there = λ x. refl }
all_harked (e ∷ es) l a s =
    let m : Link = happens_at_controller l e in
    let u : List Noted = here_entries Controller l e in
    let v : List Noted = entries_of_events Controller m es in
    let first = own_harked Controller l e a.0 a.1 (near_in_tick l s) in
    let more = all_harked es m a.2 (own_in_tick l e a.0 a.1 s) in
    record {
      here =
          then_harked Controller (waits l.controller) (waits m.controller) (waits (all_at_controller m es).controller) u v first.here more.here;
      there = passes-append Host u v first.there more.there;
    }

-- what grows too old says nothing of that
starts : (who : Side) (x : Bool) (l : Link) (rest : List Noted)
    → harks who x (Tick ∷ (aged_entries Controller l.to_controller ++ (aged_entries Host l.to_host ++ rest))) ≡ harks who x rest
starts who x l rest =
    let bs : List Noted = aged_entries Host l.to_host in
    then_harked who x x (harks who x rest) (aged_entries Controller l.to_controller) (bs ++ rest) (passes_aged who Controller l.to_controller x)
    (then_harked who x x (harks who x rest) bs rest (passes_aged who Host l.to_host x) refl)

-- ### Events

event_harked : (l : Link) (e : LinkEvent) → IsEvent l e → Good l → Reached (core_of l) → Sounds l → BothHarked l (happens l e) (event_entries l e)
event_harked l (AtController e) a g r s =
    let h = here_harked Controller l e a (before_here l g r s) in
    record { controller = h.here; host = h.there (waits l.host) ∙ sym (ap waits (host_here l e a g r)) }
event_harked l (AtHost e) a g r s =
    let k : Link = exchanged l in
    let b = before_there l g r s in
    let h = here_harked Host k e a b in
    let host : (happens_at_controller k e).host ≡ k.host = (step_here k e a b.tells b.host b.in_order (rests_of 0 0 (core_of k) b.safe) b.from).host in
    record { controller = h.there (waits l.controller) ∙ sym (ap waits host); host = h.here }
event_harked l (Ticks c es h) a g r s =
    let old : Link = aged l in
    let rests = rests_of 1 1 (core_of old) (safe_aged (core_of l) (safe_reached (core_of l) r)) in
    let near : Link = ticks_at_controller old c.turns c.ending in
    let stands = after_tick l c a.0 g r s in
    let all = all_step 1 near es a.1 stands.tells stands.safe in
    let m : Link = all_at_controller near es in
    let host_is : m.host ≡ l.host = all.step.host ∙ (step_tick old c.turns c.ending a.0.0 a.0.1 g.controller rests).host in
    let k : Link = ticks_at_controller (exchanged m) h.turns h.ending in
    let cs : List Noted = tick_entries Controller old c in
    let ds : List Noted = entries_of_events Controller near es in
    let fs : List Noted = tick_entries Host (exchanged m) h in
    let x = tick_harked Controller old c a.0 (record { tells = g.controller; rests = rests; sound = s.controller }) in
    let y = all_harked es near a.1 stands in
    let z = tick_harked Host (exchanged m) h a.2 (host_in_tick l m host_is (all_in_tick near es a.1 stands) g s) in
    let here : Bool = waits l.controller in
    let there : Bool = waits l.host in
    record {
      controller = starts Controller here l (cs ++ (ds ++ fs))
          ∙ then_harked Controller here (waits near.controller) (waits k.host) cs (ds ++ fs) x.here
          (then_harked Controller (waits near.controller) (waits m.controller) (waits k.host) ds fs y.here
          (z.there (waits m.controller) ∙ sym (ap waits (ticks_host (exchanged m) h.turns h.ending))));
      host = starts Host there l (cs ++ (ds ++ fs))
          ∙ then_harked Host there there (waits k.controller) cs (ds ++ fs) (x.there there)
          (then_harked Host there (waits m.host) (waits k.controller) ds fs (y.there there ∙ sym (ap waits host_is)) z.here);
    }
event_harked l (TicksWithout es h) a g r s =
    let near : Link = aged l in
    let stands = without_tick l a.0 g r s in
    let m : Link = all_at_controller near es in
    let host_is : m.host ≡ l.host = (all_step 1 near es a.1 stands.tells stands.safe).step.host in
    let k : Link = ticks_at_controller (exchanged m) h.turns h.ending in
    let ds : List Noted = entries_of_events Controller near es in
    let fs : List Noted = tick_entries Host (exchanged m) h in
    let y = all_harked es near a.1 stands in
    let z = tick_harked Host (exchanged m) h a.2 (host_in_tick l m host_is (all_in_tick near es a.1 stands) g s) in
    let here : Bool = waits l.controller in
    let there : Bool = waits l.host in
    record {
      controller = starts Controller here l (ds ++ fs)
          ∙ then_harked Controller here (waits m.controller) (waits k.host) ds fs y.here
          (z.there (waits m.controller) ∙ sym (ap waits (ticks_host (exchanged m) h.turns h.ending)));
      host = starts Host there l (ds ++ fs)
          ∙ then_harked Host there (waits m.host) (waits k.controller) ds fs (y.there there ∙ sym (ap waits host_is)) z.here;
    }
event_harked l (Activate power c id h) a g r s =
    let x : EndEvent = Step (Starts power) c.turns c.ending in
    let y : EndEvent = Step (Starts id) h.turns h.ending in
    let near : Link = happens_at_controller l x in
    let k : Link = exchanged near in
    let clf : CanStart l.controller.side.role l.host.side.role = clf_starts l.controller.side.role l.host.side.role a.0 in
    let one = event_step l (AtController x) (clf, a.2) g r in
    let next : Reached (core_of near) = subst Reached (sym one.core) (reached_more (core_of l) (core_event l (AtController x)) one.allowed r) in
    let host : near.host ≡ l.host = host_here l x (clf, a.2) g r in
    let Q : NumberedEnd → Type 0 = λ z. IsUicc z.side.role × IsNode (exchanged (record l { host = z })) h.turns h.ending in
    let there : Q near.host = subst Q (sym host) (a.1, a.3) in
    let can : CanStart near.host.side.role near.controller.side.role =
    can_start near.host.side.role near.controller.side.role there.0 (started_clf l power c.turns c.ending a.0) in
    let sounds : Sounds near = record { controller = sound_here l x (clf, a.2) s.controller; host = subst (λ z. Sound z.side) (sym host) s.host } in
    let u : List Noted = here_entries Controller l x in
    let v : List Noted = here_entries Host k y in
    let b = before_there near one.good next sounds in
    let first = here_harked Controller l x (clf, a.2) (before_here l g r s) in
    let second = here_harked Host k y (can, there.1) b in
    let m : Link = happens_at_controller k y in
    let last : m.host ≡ k.host = (step_here k y (can, there.1) b.tells b.host b.in_order (rests_of 0 0 (core_of k) b.safe) b.from).host in
    record {
      controller = then_harked Controller (waits l.controller) (waits near.controller) (waits m.host) u v first.here
          (second.there (waits near.controller) ∙ sym (ap waits last));
      host = then_harked Host (waits l.host) (waits near.host) (waits m.controller) u v
          (first.there (waits l.host) ∙ sym (ap waits host)) second.here;
    }

-- ### Runs

events_harked : (es : List LinkEvent) (t : List Noted) (l : Link) → AllAllowed l es → IsUnderWay t l → BothHarked l (after_link_events l es) (entries l es)
events_harked [] t l a w = record { controller = refl; host = refl }
events_harked (e ∷ es) t l a w =
    let m : Link = happens l e in
    let u : List Noted = event_entries l e in
    let v : List Noted = entries m es in
    let one = event_harked l e a.0 w.good w.reached w.noted.sounds in
    let more = events_harked es (t ++ u) m a.1 (goes_on l e a.0 w) in
    record {
      controller = then_harked Controller (waits l.controller) (waits m.controller) (waits (after_link_events m es).controller) u v one.controller
          more.controller;
      host = then_harked Host (waits l.host) (waits m.host) (waits (after_link_events m es).host) u v one.host more.host;
    }

first_harked : (l : Link) → IsStart l
    → (harks Controller false (first_entries l.controller.side.role) ≡ waits l.controller)
    × (harks Host false (first_entries l.controller.side.role) ≡ waits l.host)
first_harked l a = grind arith

both_harked : (l : Link) → IsStart l → (events : List LinkEvent) → AllAllowed l events → BothHarked l (after_link_events l events) (entries l events)
both_harked l s events a = events_harked events (first_entries l.controller.side.role) l a (start_under_way l s)

pub controller_harked : (l : Link) → IsStart l → (events : List LinkEvent) → AllAllowed l events
    → harks Controller false (trace l events) ≡ waits (after_link_events l events).controller
controller_harked l s events a =
    let h0 = after_link_events l events in let h1 = entries l events in let h2 = first_harked l s in let h3 = both_harked l s events a in grind arith

pub host_harked : (l : Link) → IsStart l → (events : List LinkEvent) → AllAllowed l events
    → harks Host false (trace l events) ≡ waits (after_link_events l events).host
host_harked l s events a =
    let h0 = after_link_events l events in let h1 = entries l events in let h2 = first_harked l s in let h3 = both_harked l s events a in grind arith

-- ## Whether an end of a bare link waits for the answer to a reset is read off the entries of a history

-- ### RSET

-- what holds of the numbers below 8
eight : (P : ℕ → Type 0) → P 0 → P 1 → P 2 → P 3 → P 4 → P 5 → P 6 → P 7 → (n : ℕ) → n < 8 → P n
eight P a b c d e f g h n low = grind arith

reads_fragment : (ns nr : ℕ) (info : List ℕ) → ns < 8 → nr < 8 → is_rset_lpdu (lpdu_of (I ns nr info)) ≡ false
reads_fragment ns nr info low small =
    let first : nat_le 0x80 (0x80 + 8 * ns + nr) ≡ true = le-leb 0x80 (0x80 + 8 * ns + nr) (omega arith) in
    let last : nat_le (0x80 + 8 * ns + nr) 0xBF ≡ true = le-leb (0x80 + 8 * ns + nr) 0xBF (omega (arith, low, small)) in
    (grind arith)

-- a frame whose numbers are below 8 is read as what it is
reads_rset : (c : Control) → HasNumbers c → is_rset_lpdu (lpdu_of c) ≡ is_rset c
reads_rset (I ns nr info) low = reads_fragment ns nr info low.0 low.1
reads_rset (S Rr nr) low = eight (λ n. is_rset_lpdu (lpdu_of (S Rr n)) ≡ false) refl refl refl refl refl refl refl refl nr low
reads_rset (S Rej nr) low = eight (λ n. is_rset_lpdu (lpdu_of (S Rej n)) ≡ false) refl refl refl refl refl refl refl refl nr low
reads_rset (S Rnr nr) low = eight (λ n. is_rset_lpdu (lpdu_of (S Rnr n)) ≡ false) refl refl refl refl refl refl refl refl nr low
reads_rset (S Srej nr) low = eight (λ n. is_rset_lpdu (lpdu_of (S Srej n)) ≡ false) refl refl refl refl refl refl refl refl nr low
reads_rset (Act Ready true) low = refl
reads_rset (Act Ready false) low = refl
reads_rset (Act (SyncId id) true) low = refl
reads_rset (Act (SyncId id) false) low = refl
reads_rset (Act (PowerMode power) true) low = refl
reads_rset (Act (PowerMode power) false) low = refl
reads_rset _ low = refl

-- ### Entries

-- whether an end waits after these entries
abbrev waits_from : Bool → End → List Entry → Bool
waits_from b e t = fold (waits_after e) b t

waits-from : (h : ℕ) (t : List Noted) (who : Side) (b : Bool) → ArePlain t → waits_from b (end_of h who) (entries_for h t) ≡ harks who b t
waits-from h [] who b p = refl
waits-from h (Up w k ∷ t) who b p =
    ap (λ c. waits_from (if c then false else b) (end_of h who) (entries_for h t)) (same_as h w who)
    ∙ waits-from h t who (if same_side w who then false else b) p.1
waits-from h (GaveUp w tries ∷ t) who b p =
    ap (λ c. waits_from (if c then false else b) (end_of h who) (entries_for h t)) (same_as h w who)
    ∙ waits-from h t who (if same_side w who then false else b) p.1
waits-from h (Emit w c ∷ t) who b p =
    ap (λ x. waits_from (if x && is_rset_lpdu (lpdu_of c) then true else b) (end_of h who) (entries_for h t)) (same_as h w who)
    ∙ (ap (λ x. waits_from (if same_side w who && x then true else b) (end_of h who) (entries_for h t)) (reads_rset c p.0)
    ∙ waits-from h t who (if same_side w who && is_rset c then true else b) p.1)
waits-from h (Restarted w ∷ t) who b p = absurd p.0
waits-from h (Cut w ∷ t) who b p = absurd p.0
waits-from h (_ ∷ t) who b p = waits-from h t who b p.1

-- ### Ends

-- what is read of an end of the link with this host is so
pub waits_as_read : (h : ℕ) (xs : List Event) (e : End) → AreOf h bare_link xs → h ≡ e.link
    → waits_in (entries_for h (notes_of xs)) e ≡ is_waiting (machine_of (link_after_all bare_link (causes_of xs)) e).shdlc
waits_as_read h xs e a q = side e.link e.at_host q
  where
    cs : List Cause
    cs = causes_of xs

    l : Link
    l = link_after_all bare_link cs

    near : waits_in (entries_for h (notes_of xs)) (end_of h Controller) ≡ is_waiting l.controller.side.shdlc
    near =
        waits-from h (notes_of xs) Controller false (plain_trace cs)
        ∙ (controller_harked bare_link IsBare (map event_of cs) (all_can cs bare_link (of_can h bare_link xs a))
        ∙ ap (λ (m : Link). is_waiting m.controller.side.shdlc) (after_causes cs bare_link))

    there : waits_in (entries_for h (notes_of xs)) (end_of h Host) ≡ is_waiting l.host.side.shdlc
    there =
        waits-from h (notes_of xs) Host false (plain_trace cs)
        ∙ (host_harked bare_link IsBare (map event_of cs) (all_can cs bare_link (of_can h bare_link xs a))
        ∙ ap (λ (m : Link). is_waiting m.host.side.shdlc) (after_causes cs bare_link))

    P : Bool → ℕ → Type 0
    P b k =
        waits_in (entries_for h (notes_of xs)) (record { link = k; at_host = b }) ≡ is_waiting (machine_of l (record { link = k; at_host = b })).shdlc

    side : (k : ℕ) (b : Bool) → h ≡ k → P b k
    side k false q = subst (P false) q near
    side k true q = subst (P true) q there

-- ## In each history of a bare world the ends that wait for the answer to a reset are those that are read

pub waits_read : (header : Header) (lines : List Line) (t : History) → AllByRecursion (IsLineOf header) lines → IsHeader header → Follows header lines t
    → (front back : List Event) → all_events t ≡ front ++ back → (e : End) → e.link ≡ host_of header
    → waits_in (t.opening ++ entries_of front) e ≡ is_waiting (machine_of (link_after_all bare_link (causes_of front)) e).shdlc
waits_read header lines t valid is follows front back q e at =
    let h : ℕ = host_of header in
    let run : IsRun h t = is_run header lines t valid follows in
    let a = of_front h bare_link front back (subst (λ z. AreOf h bare_link z) q run.events) in
    ap (λ y. waits_in y e) (run_entries h t.opening front run.opening a) ∙ waits_as_read h front e a (sym at)
