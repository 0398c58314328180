-- A host of the world as a step of it begins.
use Rattle.std.proofs.lemmas.List.{get_or-replicate}
use Rattle.node_world.proofs.Words.{AllByRecursion, AreMute, AreNumbered, Arrived, AsksReset, AtEnd, BeginsOver, Bool, Comes, ComesToEnd, Control, Core}
use Rattle.node_world.proofs.Words.{CountsComing, CountsFew, CountsOn, Deed, Desk, End, EndDoes, Ending, Entry, HasBecome, HasEnds, HasGone, Host, HostSite}
use Rattle.node_world.proofs.Words.{IfItRuns, Incoming, IsArrivalOf, IsHostOf, IsNodePlace, IsToSend, Link, LinkEnd, LinkInput, List, MayArrive, MayTick}
use Rattle.node_world.proofs.Words.{Memory, Message, NextFrame, NoCause, NoInput, NoMemory, Node, NodeWorld, None, NoneDue, Noted, NumberedEnd, Off, Ok, On}
use Rattle.node_world.proofs.Words.{OnOk, OnWire, Option, Port, Power, Reset, ResetRefused, Result, Running, RunsAs, SameWires, Site, SiteIs, Some, Starts}
use Rattle.node_world.proofs.Words.{Step, Stops, Tick, TimePasses, Turn, Wires, WiresStandFor, Work, WorldBecomes, [], after_planned, ap, append-nil, ap₂}
use Rattle.node_world.proofs.Words.{arith, arrival, arrival_numbered, as_comes, as_it_comes, begins_with, between, entries_for, eqb-false, exchanged, false}
use Rattle.node_world.proofs.Words.{frames_noted, frames_out, get_or, happens_at_controller, host_behind, host_hears, host_opened, host_stepped, host_tick}
use Rattle.node_world.proofs.Words.{host_ticks, host_work, hosts_of_ends, if_accepted, input_of, is_due, is_rset, is_some, kept_alike, map, max, near_end_in}
use Rattle.node_world.proofs.Words.{next_frame, node_memory, noted_behind, number_of, port_at, port_for, put, put_entries, puts_entries, refl, refusal_arrived}
use Rattle.node_world.proofs.Words.{refusal_coming, replicate, seen_from, sending_refused, session_at, side_of, stepped, steps, subst, sym, ticked_so}
use Rattle.node_world.proofs.Words.{took_with, true, wires_for, without_first, work_numbers, work_of, ℕ, ◌&&◌, ◌++◌, ◌<◌, ◌==◌, ◌∙◌, ◌∷◌, ◌≡◌, ◌≤◌}
use Rattle.node_laws.proofs.telling.Steps.{Keeps, begins_keep, steps_keep, tick_keeps}
use Rattle.node_sites.specs.WorldNodes.{IsNotedSo}
use Rattle.node_sites.proofs.Numbered.{Numbers, begun}
use Rattle.trace_model.specs.declared.entry.NoCause.TheVariants as no
use Rattle.link_laws.specs.machine.Machine.{give_refusal}
use Rattle.node_machine.specs.Controller.{is_command_message}
use Rattle.node_machine.specs.world.Lines.{if_waiting}
use Rattle.node_core.proofs.Asking.{asked_may}
use Rattle.node_ends.specs.Ends.{MayStartAt}
use Rattle.node_ends.specs.declared.inputs.LinkInput.TheVariants as asks
use Rattle.link_wires.specs.Notes.{AreNoted}
use Rattle.node_sites.specs.declared.incoming.Incoming.TheVariants as coming
use Rattle.node_sites.specs.declared.incoming.Arrived.TheVariants as arrived
use Rattle.node_sites.specs.Arrivals.{HasArrived, MayArriveAt, NoneArrived}
use Rattle.node_sites.specs.Numbers.{with_session_number}
use Rattle.node_machine.proofs.world.Cases.{after_tick}
use Rattle.node_world.proofs.EndsGo.{same_stand, same_exchanged, EndGoes, host_ends, host_begins, EndTicks, host_end_ticks}
pub use Rattle.node_core.proofs.SeenAsNode.{never_refused as done_always}
pub use Rattle.node_laws.proofs.readings.Sites.{near_end_side as near_side}

same_ports : (a b : NumberedEnd) (desks : List Desk) → a.side ≡ b.side
    → map between (map (λ (d : Desk). port_for a d) desks) ≡ map between (map (λ (d : Desk). port_for b d) desks)
same_ports a b [] q = refl
same_ports a b (d ∷ desks) q =
    ap₂ (λ (x : Port) xs. x ∷ xs) (ap (λ (e : LinkEnd). record { desk = d; side = e; session = 0; late = false; ended = false; turns = [] }) q)
    (same_ports a b desks q)

ports_sent : (a b : NumberedEnd) (desks : List Desk) → a.side ≡ b.side → AllByRecursion (λ (d : Desk). next_frame a.side ≡ None) desks
    → AllByRecursion (λ (p : Port). next_frame p.side ≡ None) (map (λ (d : Desk). port_for b d) desks)
ports_sent a b [] q all = tt
ports_sent a b (d ∷ desks) q all = let P : LinkEnd → Type 0 = λ e. next_frame e ≡ None in (subst P q all.0, ports_sent a b desks q all.1)

ports_fresh : (b : NumberedEnd) (desks : List Desk)
    → AllByRecursion (λ (p : Port). (p.late ≡ false) × (p.ended ≡ false)) (map (λ (d : Desk). port_for b d) desks)
ports_fresh b [] = tt
ports_fresh b (d ∷ desks) = ((refl, refl), ports_fresh b desks)

-- a host that runs begins a step in which this comes
pub host_begins_so : (k : HostSite) (s : Site) (n : Node Memory) (r : Running) (comes : Comes) (entries : List Entry) → SiteIs k s → k.power ≡ On n
    → s.node ≡ Some r → BeginsOver n (work_of r s.memory.plan (λ j. near_end_in (exchanged s.link) comes) entries)
host_begins_so k s n r comes entries is on runs =
    let Q : Power → Option Running → Type 0 = λ a b. IsNodePlace a s.memory b (λ h. s.link.host) in
    let place : Q (On n) (Some r) = subst (Q (On n)) runs (subst (λ a. Q a s.node) on is.place) in
    let side : s.link.host.side ≡ (near_end_in (exchanged s.link) comes).side = sym (near_side (exchanged s.link) comes) in
    record {
      runs = kept_alike (map (λ (d : Desk). port_for s.link.host d) r.desks) (map (λ (d : Desk). port_for (near_end_in (exchanged s.link) comes) d) r.desks)
          (same_ports s.link.host (near_end_in (exchanged s.link) comes) r.desks side) place.1;
      sent = ports_sent s.link.host (near_end_in (exchanged s.link) comes) r.desks side place.2;
      fresh = ports_fresh (near_end_in (exchanged s.link) comes) r.desks;
      power = refl;
      plan = ap (λ (m : Memory). m.plan) (sym place.0);
      writes = refl;
    }

-- something has come to its end
pub begins_at_end : (k : HostSite) (s : Site) (n : Node Memory) (r : Running) (comes : Comes) → SiteIs k s → k.power ≡ On n → s.node ≡ Some r
    → BeginsOver n (work_of r s.memory.plan (λ j. near_end_in (exchanged s.link) comes) (entries_for s.host (arrival Host (exchanged s.link) comes)))
begins_at_end k s n r comes is on runs = host_begins_so k s n r comes (entries_for s.host (arrival Host (exchanged s.link) comes)) is on runs

-- it runs
pub has_end : {n : Node Memory} {w : Work} → BeginsOver n w → (core : Core) × (ports : List Port) × RunsAs n core ports
has_end {w = w} b = (w.core, w.ports, b.runs)

-- How each step of a host of the world goes: something comes to its end, it does something by itself, or a tick passes.

-- ## Counts

at_few : (h : ℕ) (near : NumberedEnd) (i : LinkInput) (desks : List Desk) → map (λ (d : Desk). d.host) desks ≡ h ∷ [] → CountsOn near.side i
    → CountsFew (AtEnd h i) (map (λ (d : Desk). port_for near d) desks)
at_few h near i [] q c = absurd (cc q)
at_few h near i (x ∷ y ∷ desks) q c = absurd (cc q)
at_few h near i (d ∷ []) q c = grind arith

tick_few : (near : NumberedEnd) (desks : List Desk) → CountsOn near.side Tick → CountsFew TimePasses (map (λ (d : Desk). port_for near d) desks)
tick_few near [] c = record { come = tt; late = tt }
tick_few near (d ∷ desks) c =
    let rest : CountsFew TimePasses (map (λ (d : Desk). port_for near d) desks) = tick_few near desks c in
    record { come = (c.come, rest.come); late = (c.late, rest.late) }

-- ## Numbers of sessions

-- the number of the session of each link is this one
abbrev pub always : ℕ → ℕ → ℕ
always n h = get_or (replicate 8 n) h 0

always_is : (n h : ℕ) → h ≤ 7 → n ≡ always n h
always_is n h low = let few : h < 8 = omega (arith, low) in sym (get_or-replicate 8 h n 0 few)

all_always : (n h : ℕ) (desks : List Desk) → map (λ (d : Desk). d.host) desks ≡ h ∷ [] → h ≤ 7
    → AllByRecursion (λ (d : Desk). n ≡ always n d.host) desks
all_always n h [] q low = tt
all_always n h (x ∷ y ∷ desks) q low = absurd (cc q)
all_always n h (d ∷ []) q low = let host : d.host ≡ h = cc in (always_is n h low ∙ ap (always n) (sym host), tt)

-- what comes leaves the end with the number with which its frames go out
pub number_coming : (l : Link) (comes : Comes) → number_of (near_end_in l comes) ≡ number_of (as_it_comes l comes).controller
number_coming l comes = grind arith

-- ## What goes out

-- a frame that was taken changes nothing of what goes out
puts_behind : (l : Link) (w : List OnWire) (took : ℕ) (cs : List Control)
    → puts_entries Host (record l { to_controller = w; controller = record l.controller { took = took } }) cs ≡ puts_entries Host l cs
puts_behind l w took [] = refl
puts_behind l w took (c ∷ cs) =
    ap (λ m. put_entries Host l c ++ puts_entries Host m cs) (let h0 = is_rset c in grind arith)
    ∙ ap (λ es. put_entries Host l c ++ es) (puts_behind (put l c) w took cs)
  where
    taken : Link → Link
    taken m = record m { to_controller = w; controller = record m.controller { took = took } }

puts_coming : (l : Link) (comes : Comes) (cs : List Control) → puts_entries Host (as_it_comes l comes) cs ≡ puts_entries Host (wires_for l comes) cs
puts_coming l NextFrame cs = go l.to_controller
  where
    go : (w : List OnWire) → puts_entries Host (without_first (record l { to_controller = w })) cs ≡ puts_entries Host (record l { to_controller = w }) cs
    go [] = refl
    go (x ∷ xs) = puts_behind (record l { to_controller = x ∷ xs }) xs (took_with l.controller.took x) cs
puts_coming l (AsksReset window) cs = refl
puts_coming l (Starts value) cs = refl
puts_coming l Stops cs = refl
puts_coming l NoInput cs = refl

-- ## Its steps

-- What a host does in a step of it, after which its link becomes so, its frames go out on the wires of the link bare, and they are noted as
-- on the link l.
pub record HostDoes (s : Site) (step : List Turn → Ending → Link) (bare l : Link) (w : Work) : Type 0 where
  pub here : EndDoes s.host step w
  pub wires : SameWires bare here.link
  pub same : (cs : List Control) → puts_entries Host bare cs ≡ puts_entries Host l cs
  pub ends : hosts_of_ends w.ports ≡ s.host ∷ []
  pub numbered : AreNumbered (always (number_of bare.controller)) w.entries

ports_of : (near : NumberedEnd) (desks : List Desk) → hosts_of_ends (map (λ (d : Desk). port_for near d) desks) ≡ map (λ (d : Desk). d.host) desks
ports_of near [] = refl
ports_of near (d ∷ desks) = ap (λ hs. d.host ∷ hs) (ports_of near desks)

module _ (s : Site) (r : Running) (is : IsHostOf s) (runs : s.node ≡ Some r) where
  node : HasEnds s.host (s.host ∷ []) r
  node = subst (IfItRuns s.host (s.host ∷ [])) runs is.ends

  module _ (comes : Comes) where
    abbrev Near : NumberedEnd
    Near = near_end_in (exchanged s.link) comes

    abbrev Start : Work
    Start = work_of r s.memory.plan (λ k. Near) (entries_for s.host (arrival Host (exchanged s.link) comes))

    keeps : Keeps s.host (s.host ∷ []) Start
    keeps = record { number = node.number; ends = ports_of Near r.desks ∙ node.ends }

    abbrev Session : ℕ → ℕ
    Session = always (number_of (as_it_comes (exchanged s.link) comes).controller)

    numbers : Numbers Session Start
    numbers =
        work_numbers Session r s.memory.plan (λ k. Near) (entries_for s.host (arrival Host (exchanged s.link) comes))
        (arrival_numbered Session s.host Host (exchanged s.link) comes)
        (rw (← number_coming (exchanged s.link) comes) at (all_always
        (number_of (as_it_comes (exchanged s.link) comes).controller) s.host r.desks node.ends is.low))

    abbrev pub step_at_end : List Turn → Ending → Link
    step_at_end turns ending = happens_at_controller (exchanged s.link) (Step comes turns ending)

    does_so : (w : Work) → EndGoes s.host (exchanged s.link) comes w → Keeps s.host (s.host ∷ []) w → Numbers Session w
        → HostDoes s step_at_end (as_it_comes (exchanged s.link) comes) (wires_for (exchanged s.link) comes) w
    does_so w g k n =
        record {
          here = record { port = g.port; here = g.here; link = g.goes.link; out = g.goes.out; cut = g.goes.cut };
          wires = g.goes.wires;
          same = puts_coming (exchanged s.link) comes;
          ends = k.ends;
          numbered = n.entries;
        }

    -- something comes to its end
    pub hears : (i : LinkInput) → input_of (exchanged s.link) comes ≡ Some i → CountsOn s.link.host.side i
        → HostDoes s step_at_end (as_it_comes (exchanged s.link) comes) (wires_for (exchanged s.link) comes) (host_work s r comes (steps (AtEnd s.host i)))
    hears i q few =
        does_so (host_work s r comes (steps (AtEnd s.host i))) (host_ends s r comes is.number node i q)
        (steps_keep s.host (s.host ∷ []) s.host i Start keeps)
        (stepped Session (AtEnd s.host i) Start (at_few s.host Near i r.desks node.ends (rw (← near_side (exchanged s.link) comes) at few)) numbers)

  -- it does something by itself
  pub begins : (deeds : List Deed) → AreMute deeds
      → HostDoes s (step_at_end NoInput) (exchanged s.link) (exchanged s.link) (host_work s r NoInput (begins_with s.host deeds))
  begins deeds mute =
      does_so NoInput (host_work s r NoInput (begins_with s.host deeds)) (host_begins s r is.number node deeds mute)
      (begins_keep s.host (s.host ∷ []) s.host deeds (Start NoInput) mute (keeps NoInput))
      (begun (Session NoInput) s.host deeds (Start NoInput) mute (numbers NoInput))

  -- a tick passes
  abbrev pub tick_at_end : List Turn → Ending → Link
  tick_at_end turns ending = ticked_so (exchanged s.link) false turns ending

  pub ticks : AllByRecursion (λ (d : Desk). is_due d ≡ false) r.desks → CountsOn s.link.host.side Tick
      → HostDoes s tick_at_end (exchanged s.link) (exchanged s.link) (host_tick s r)
  ticks young few =
      let g : EndTicks s.host (exchanged s.link) false (host_tick s r) = host_end_ticks s r is.number node young in
      record {
        here = record { port = g.port; here = g.here; link = g.goes.link; out = g.goes.out; cut = g.goes.cut };
        wires = g.goes.wires;
        same = λ cs. refl;
        ends = (tick_keeps s.host (s.host ∷ []) (Start NoInput) (keeps NoInput)).ends;
        numbered = (stepped (Session NoInput) TimePasses (Start NoInput) (tick_few (Near NoInput) r.desks few) (numbers NoInput)).entries;
      }

-- its node has done it
module _ (mid : HostSite) (was n : Node Memory) (live : Bool) where
  pub midway : {noted : Noted} {sessions : List ℕ} {before : List Entry} (s : Site) {step : List Turn → Ending → Link} {bare l : Link} {w : Work}
      → HostDoes s step bare l w → node_memory was ≡ s.memory → HasGone was n w live → mid.power ≡ On n
      → mid.host ≡ s.host → WiresStandFor mid.wires (exchanged bare) → sessions ≡ replicate 8 (max mid.wires.host.emitted mid.wires.host.took)
      → IsNotedSo noted sessions before w.entries → IsToSend mid live noted.entries.items noted.short before s step l w
  midway s {bare = bare} {l} {w} d memory gone on host wires numbers noted =
      let B : List ℕ → Type 0 = λ ks. AreNumbered (session_at ks) w.entries in
      record {
        node = n;
        on = on;
        host = host;
        power = gone.power;
        memory = gone.memory ∙ ap (after_planned w.writes) memory;
        runs = gone.runs;
        ends = d.ends;
        here = d.here;
        wires = same_stand (same_exchanged d.wires) wires;
        bare = bare;
        bare_wires = wires;
        same = d.same (frames_out d.here.port.side);
        noted_are = noted_behind noted (subst B (sym numbers) (subst (λ k. AreNumbered (always k) w.entries) (grind arith) d.numbered));
      }

-- What comes to an end of the world, once it is off its wire: when it may come to a node, and why it is refused.

-- what was done holds
pub done_so : {T E P : Type 0} {r : Result T E} {x : T} → r ≡ Ok x → OnOk r P → P
done_so {P = P} is h = subst (λ r. OnOk r P) is h

-- something has come, or nothing
pub as_some : {new : Wires} {to : End} {l : Link} {what : Incoming} {before now : List Entry} {o : Option Arrived} {a : Arrived} → o ≡ Some a
    → ComesToEnd new to l what before now o → HasArrived new to l what before now a
as_some {new} {to} {l} {what} {before} {now} is h = let C : Option Arrived → Type 0 = ComesToEnd new to l what before now in subst C is h

pub as_none : {new : Wires} {to : End} {l : Link} {what : Incoming} {before now : List Entry} {o : Option Arrived} → o ≡ None
    → ComesToEnd new to l what before now o → NoneArrived new to l what before now
as_none {new} {to} {l} {what} {before} {now} is h = let C : Option Arrived → Type 0 = ComesToEnd new to l what before now in subst C is h

-- ## When it may come

pub may_arrive : (at_host : Bool) (what : Incoming) (a : Arrived) (port : Option Port) → IsArrivalOf what a → MayArrive at_host what
    → ((value : ℕ) → at_host ≡ true → MayStartAt value port) → MayArriveAt a port
may_arrive at_host what a port is may starts = grind arith

-- ## Why it is refused

-- at an end of a node that runs
pub refused_so : (what : Incoming) (a : Arrived) (p : Port) (node : Option Running) (r : Running) (e : LinkEnd) → IsArrivalOf what a
    → p.side ≡ e → node ≡ Some r
    → refusal_arrived a (Some p) ≡ refusal_coming node e (as_comes what)
refused_so what a p node r e is side on = grind arith

-- nothing is where its node doesn't run
pub off_refuses_none : (what : Incoming) (node : Option Running) (e : LinkEnd) → node ≡ None → None ≡ refusal_coming node e (as_comes what)
off_refuses_none what node e off = grind arith

-- or where nothing comes
pub none_refused : (what : Incoming) (l : Link) (node : Option Running) (e : LinkEnd) → input_of l (as_comes what) ≡ None
    → None ≡ refusal_coming node e (as_comes what)
none_refused what l node e none = grind arith

-- what is refused is a reset, which left the wires as they were
pub wires_as_were : {new : Wires} {to : End} {l : Link} {before now : List Entry} {why : ResetRefused} (what : Incoming) (a : Arrived) (port : Option Port)
    → HasArrived new to l what before now a → refusal_arrived a port ≡ Some why → WiresStandFor new (seen_from to l) × (now ≡ before)
wires_as_were {new} {to} {l} {before} {now} {why} what a port h = go what a h.is h.wires h.noted
  where
    go : (what : Incoming) (a : Arrived) → IsArrivalOf what a → WiresStandFor new (seen_from to (as_it_comes l (as_comes what)))
        → AreNoted to before now (arrival (side_of to) l (as_comes what)) → refusal_arrived a port ≡ Some why
        → WiresStandFor new (seen_from to l) × (now ≡ before)
    go coming.NextFrame (arrived.Frame read) is w noted q = absurd (cc q)
    go coming.NextFrame (arrived.Reset window) is w noted q = absurd is
    go coming.NextFrame (arrived.Start value) is w noted q = absurd is
    go (coming.Reset window) a is w noted q = (w, noted ∙ append-nil before)
    go (coming.Start value) a is w noted q =
        let none : None ≡ Some why = rw is at q in absurd (cc none)

-- ## What is noted of it

pub arrived_noted : {new : Wires} {to : End} {l : Link} {what : Incoming} {a : Arrived} {before now : List Entry} (session : ℕ → ℕ)
    → HasArrived new to l what before now a
    → now ≡ before ++ map (with_session_number session) (entries_for to.link (arrival (side_of to) l (as_comes what)))
arrived_noted session h = grind arith

-- ## What becomes of the world

pub unrefused : {Why : Type 0} {k : Power} {ks : List HostSite} {before now : List Entry} {after : NodeWorld × List Entry} {cause : Option Why}
    (w : NodeWorld) → cause ≡ None → WorldBecomes k ks before now (if_accepted cause w after) → WorldBecomes k ks before now after
unrefused w none b = grind arith

-- What is known of a host of the world by what is kept of it, and what happens at it, case by case.

-- ## What is kept

-- a host runs
pub record IsOn (k : HostSite) (s : Site) (n : Node Memory) : Type 0 where
  pub running : Running
  pub runs : s.node ≡ Some running
  pub memory : node_memory n ≡ s.memory

pub is_on : {k : HostSite} {s : Site} {n : Node Memory} → SiteIs k s → k.power ≡ On n → IsOn k s n
is_on {k} {s} {n} is on = go s.node refl (rw on at is.place)
  where
    go : (o : Option Running) → s.node ≡ o → IsNodePlace (On n) s.memory o (λ h. s.link.host) → IsOn k s n
    go (Some r) runs place = record { running = r; runs = runs; memory = place.0 }
    go None runs place = absurd place

-- it doesn't
pub is_off : {k : HostSite} {s : Site} → SiteIs k s → ((n : Node Memory) → k.power ≡ On n → ⊥) → s.node ≡ None
is_off is on = grind arith

-- nothing happened
pub unchanged : {k : HostSite} {s : Site} (entries : List Entry) → SiteIs k s → HasBecome k entries entries (s, [])
unchanged entries is = record { site = is; noted = sym (append-nil entries) }

pub unchanged_as : {k : HostSite} {s : Site} {after : Site × List Entry} (entries : List Entry) → SiteIs k s → after ≡ (s, [])
    → HasBecome k entries entries after
unchanged_as {k} entries is q = rw q (unchanged entries is)

-- ## What happens

-- the link of a host behind a step in which this comes to its end
abbrev pub goes_by : Site → Comes → List Turn → Ending → Link
goes_by s comes turns ending = happens_at_controller (exchanged s.link) (Step comes turns ending)

-- a host behind its work
abbrev pub worked : Site → Comes → Work → Site × List Entry
worked s comes k = (host_behind s (goes_by s comes) k, k.entries ++ frames_noted Host s.host (wires_for (exchanged s.link) comes) k)

pub stepped_on : (s : Site) (r : Running) (comes : Comes) (f : Work → Work) → s.node ≡ Some r
    → host_stepped s comes f ≡ worked s comes (host_work s r comes f)
stepped_on s r comes f on = rw on refl

pub hears_off : (s : Site) (comes : Comes) → s.node ≡ None → host_hears s comes ≡ (s, [])
hears_off s comes off = grind arith

pub hears_none : (s : Site) (comes : Comes) → input_of (exchanged s.link) comes ≡ None → host_hears s comes ≡ (s, [])
hears_none s comes none = rw none refl

pub hears_on : (s : Site) (r : Running) (comes : Comes) (i : LinkInput) → s.node ≡ Some r → input_of (exchanged s.link) comes ≡ Some i
    → host_hears s comes ≡ worked s comes (host_work s r comes (steps (AtEnd s.host i)))
hears_on s r comes i on is = rw (is, on) refl

pub ticks_on : (s : Site) (r : Running) → s.node ≡ Some r → host_ticks s ≡ after_tick s (host_tick s r)
ticks_on s r on = rw on refl

-- What is refused of a host of the world, by what its node refuses.

-- ## A host that doesn't run

pub sending_off : (s : Site) (m : Message) → s.node ≡ None → sending_refused s m ≡ Some no.Off
sending_off s m off = rw off refl

-- ## What comes

-- the end of a host that runs, as its node has it between steps
pub record OwnEnd (s : Site) (h : ℕ) (ports : List Port) : Type 0 where
  pub port : Port
  pub here : port_at ports h ≡ Some port
  pub side : port.side ≡ s.link.host.side

pub own_end : (k : ℕ) (s : Site) (r : Running) → IsHostOf s → k ≡ s.host → s.node ≡ Some r
    → OwnEnd s k (map (λ (d : Desk). port_for s.link.host d) r.desks)
own_end k s r host same on =
    let first = host_opened s r NoInput host.number (subst (IfItRuns s.host (s.host ∷ [])) on host.ends) in
    let H : ℕ → Type 0 = λ h. port_at (map (λ (d : Desk). port_for s.link.host d) r.desks) h ≡ Some first.port in
    record { port = first.port; here = subst H (sym same) first.here; side = first.is }

module _ (k : HostSite) (s : Site) (n : Node Memory) (is : SiteIs k s) (host : IsHostOf s) (on : k.power ≡ On n) where
  -- it runs so
  pub record RunsHere : Type 0 where
    pub running : Running
    pub on_is : s.node ≡ Some running
    pub runs : RunsAs n running.core (map (λ (d : Desk). port_for s.link.host d) running.desks)
    pub end : OwnEnd s k.host (map (λ (d : Desk). port_for s.link.host d) running.desks)
    pub number : n.number ≡ s.host

  pub runs_here : RunsHere
  runs_here =
      let here = is_on is on in
      let r : Running = here.running in
      let Q : Power → Option Running → Type 0 = λ a o. IsNodePlace a s.memory o (λ h. s.link.host) in
      let place : Q (On n) (Some r) = subst (Q (On n)) here.runs (subst (λ a. Q a s.node) on is.place) in
      record {
        running = r;
        on_is = here.runs;
        runs = place.1;
        end = own_end k.host s r host is.host here.runs;
        number = sym place.1.node ∙ (subst (IfItRuns s.host (s.host ∷ [])) here.runs host.ends).number;
      }

  pub is_some_host : 1 ≤ n.number
  is_some_host = let some = eqb-false s.host 0 host.number in let same = runs_here.number in omega (arith, some, same)

  -- what its node tells of what came
  pub refused_here : (what : Incoming) (a : Arrived) (why : Option ResetRefused) → IsArrivalOf what a
      → ((core : Core) (ports : List Port) → RunsAs n core ports → refusal_arrived a (port_at ports k.host) ≡ why)
      → why ≡ refusal_coming s.node s.link.host.side (as_comes what)
  refused_here what a why is_of f =
      let r = runs_here in
      let e = r.end in
      sym (f r.running.core (map (λ (d : Desk). port_for s.link.host d) r.running.desks) r.runs)
      ∙ (ap (refusal_arrived a) e.here ∙ refused_so what a e.port s.node r.running s.link.host.side is_of e.side r.on_is)

  -- the end of its own link is activated with any identifier
  pub may_start : (value : ℕ) (core : Core) (ports : List Port) → RunsAs n core ports → MayStartAt value (port_at ports k.host)
  may_start value core ports runs =
      let some = is_some_host in
      asked_may (asks.Start value) k.host core ports tt (λ none. (let z : n.number ≡ 0 = sym runs.node ∙ none in omega (arith, some, z))) runs.order

-- ## Nothing changed

pub still_stands : (k : HostSite) (s : Site) (n m : Node Memory) (wires : Wires) → SiteIs k s → k.power ≡ On n → WiresStandFor wires s.link
    → ((core : Core) (ports : List Port) → RunsAs n core ports → RunsAs m core ports) → node_memory m ≡ node_memory n
    → (before now : List Entry) → now ≡ before
    → HasBecome (record { host = k.host; wires = wires; power = On m }) before now (s, [])
still_stands k s n m wires is on stand runs memory before now q =
    record {
      site = record { host = is.host; wires = stand; place = go s.node (rw on at is.place) };
      noted = q ∙ sym (append-nil before);
    }
  where
    go : (o : Option Running) → IsNodePlace (On n) s.memory o (λ h. s.link.host) → IsNodePlace (On m) s.memory o (λ h. s.link.host)
    go (Some r) p = (memory ∙ p.0, runs r.core (map (λ (d : Desk). port_for s.link.host d) r.desks) p.1, p.2)
    go None p = p

-- ## What a host sends by itself

sending_on : (s : Site) (r : Running) (m : Message) → s.node ≡ Some r
    → sending_refused s m ≡ if_waiting (m.0 == 1 && is_command_message m.1 && is_some r.core.command) (give_refusal s.link.host.side m)
sending_on s r m on = rw on refl

module _ (k : HostSite) (s : Site) (n : Node Memory) (is : SiteIs k s) (host : IsHostOf s) (on : k.power ≡ On n) (m : Message) where
  -- what a node tells is what the line is refused for
  pub sending_so : (told : Option NoCause) → ((core : Core) (ports : List Port) (p : Port) → RunsAs n core ports → port_at ports n.number ≡ Some p
      → told ≡ if_waiting (m.0 == 1 && is_command_message m.1 && is_some core.command) (give_refusal p.side m)) → told ≡ sending_refused s m
  sending_so told f =
      let r = runs_here k s n is host on in
      let e = r.end in
      let ports : List Port = map (λ (d : Desk). port_for s.link.host d) r.running.desks in
      let waits : Bool = m.0 == 1 && is_command_message m.1 && is_some r.running.core.command in
      let here : port_at ports n.number ≡ Some e.port = ap (port_at ports) (r.number ∙ sym is.host) ∙ e.here in
      f r.running.core ports e.port r.runs here ∙ (ap (λ (x : LinkEnd). if_waiting waits (give_refusal x m)) e.side ∙ sym (sending_on s r.running m r.on_is))

-- A host of the world in its steps: what its node did, as it is to be finished.

-- ## What its node did

-- A host's node has done its work, behind which the host is so and these were noted.
pub record HasDone (mid : HostSite) (live : Bool) (now : List Entry) (still : Bool) (before : List Entry) (s : Site)
    (after : Site × List Entry) : Type 0 where
  pub step : List Turn → Ending → Link
  pub l : Link
  pub w : Work
  pub midway : IsToSend mid live now still before s step l w
  pub is : after ≡ (host_behind s step w, w.entries ++ frames_noted Host s.host l w)

pub is_done : {mid : HostSite} {live : Bool} {now : List Entry}
    {still : Bool} {before : List Entry} {s : Site} {after : Site × List Entry} (result : Result (Unit {0}) NoMemory) (new : HostSite) (noted : List Entry)
    (d : HasDone mid live now still before s after)
    → OnOk result (HasBecome new before noted (host_behind s d.step d.w, d.w.entries ++ frames_noted Host s.host d.l d.w))
    → OnOk result (HasBecome new before noted after)
is_done {before = before} result new noted d r = rw d.is r

module _ (k mid : HostSite) (s : Site) (was n : Node Memory) (live : Bool) (before : List Entry) (begun now : Noted) (sessions : List ℕ)
    (numbers : sessions ≡ replicate 8 (max mid.wires.host.emitted mid.wires.host.took)) (is : SiteIs k s)
    (host : IsHostOf s) (on : k.power ≡ On was) (mid_on : mid.power ≡ On n) (mid_host : mid.host ≡ k.host) where
  abbrev here : IsOn k s was
  here = is_on is on

  abbrev start : Comes → Work
  start comes = work_of here.running s.memory.plan (λ j. near_end_in (exchanged s.link) comes) (entries_for s.host (arrival Host (exchanged s.link) comes))

  begins_so : (comes : Comes) → BeginsOver was (start comes)
  begins_so comes = begins_at_end k s was here.running comes is on here.runs

  middle : {step : List Turn → Ending → Link} {bare l : Link} {w : Work} → HostDoes s step bare l w → HasGone was n w live
      → WiresStandFor mid.wires (exchanged bare) → IsNotedSo now sessions before w.entries → IsToSend mid live now.entries.items now.short before s step l w
  middle d gone wires noted = midway mid was n live s d here.memory gone mid_on (mid_host ∙ is.host) wires numbers noted

  -- something came to its end
  pub heard : (comes : Comes) (i : LinkInput) → CountsComing s comes → input_of (exchanged s.link) comes ≡ Some i
      → ((w : Work) → BeginsOver was w → HasGone was n (steps (AtEnd k.host i) w) live)
      → ((w : Work) → BeginsOver was w → IsNotedSo begun sessions before w.entries
      → IsNotedSo now sessions before (steps (AtEnd k.host i) w).entries)
      → IsNotedSo begun sessions before (entries_for s.host (arrival Host (exchanged s.link) comes))
      → WiresStandFor mid.wires (exchanged (as_it_comes (exchanged s.link) comes)) → HasDone mid live now.entries.items now.short before s (host_hears s comes)
  heard comes i counts q gone noted first wires =
      let b : BeginsOver was (start comes) = begins_so comes in
      let G : ℕ → Type 0 = λ h. HasGone was n (steps (AtEnd h i) (start comes)) live in
      record {
        step = goes_by s comes;
        l = wires_for (exchanged s.link) comes;
        w = host_work s here.running comes (steps (AtEnd s.host i));
        midway = middle (hears s here.running host here.runs comes i q (counts here.running i here.runs q)) (subst G is.host (gone (start comes) b)) wires
            (subst (λ h. IsNotedSo now sessions before (steps (AtEnd h i) (start comes)).entries) is.host (noted (start comes) b first));
        is = hears_on s here.running comes i here.runs q;
      }

  -- it did something by itself
  pub began : (deeds : ℕ → List Deed) → AreMute (deeds s.host)
      → ((w : Work) → BeginsOver was w → HasGone was n (begins_with was.number (deeds was.number) w) live)
      → ((w : Work) → BeginsOver was w → IsNotedSo begun sessions before w.entries
      → IsNotedSo now sessions before (begins_with was.number (deeds was.number) w).entries)
      → IsNotedSo begun sessions before [] → WiresStandFor mid.wires s.link
      → HasDone mid live now.entries.items now.short before s (host_stepped s NoInput (begins_with s.host (deeds s.host)))
  began deeds mute gone noted first wires =
      let b : BeginsOver was (start NoInput) = begins_so NoInput in
      let G : ℕ → Type 0 = λ h. HasGone was n (begins_with h (deeds h) (start NoInput)) live in
      let number : was.number ≡ s.host = (runs_here k s was is host on).number in
      record {
        step = goes_by s NoInput;
        l = exchanged s.link;
        w = host_work s here.running NoInput (begins_with s.host (deeds s.host));
        midway = middle (begins s here.running host here.runs (deeds s.host) mute) (subst G number (gone (start NoInput) b)) wires
            (subst (λ h. IsNotedSo now sessions before (begins_with h (deeds h) (start NoInput)).entries) number (noted (start NoInput) b first));
        is = stepped_on s here.running NoInput (begins_with s.host (deeds s.host)) here.runs;
      }

  -- a tick passed
  pub ticked : MayTick s → ((w : Work) → BeginsOver was w → HasGone was n (steps TimePasses w) live)
      → ((w : Work) → BeginsOver was w → IsNotedSo begun sessions before w.entries → IsNotedSo now sessions before (steps TimePasses w).entries)
      → IsNotedSo begun sessions before [] → WiresStandFor mid.wires s.link → HasDone mid live now.entries.items now.short before s (host_ticks s)
  ticked may gone noted first wires =
      let b : BeginsOver was (start NoInput) = begins_so NoInput in
      let young : NoneDue (Some here.running) = subst NoneDue here.runs may.young in
      record {
        step = tick_at_end s here.running host here.runs;
        l = exchanged s.link;
        w = host_tick s here.running;
        midway = middle (ticks s here.running host here.runs young (may.counts here.running here.runs)) (gone (start NoInput) b) wires
            (noted (start NoInput) b first);
        is = ticks_on s here.running here.runs;
      }
