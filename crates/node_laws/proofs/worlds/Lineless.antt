-- What is noted of an event tells of no frame that a line loses, but where a line loses one.
use Rattle.node_laws.proofs.Words.{Activates, AllByRecursion, Arms, AsksReset, AtEnd, Boots, Comes, Controller, Cut, Deed, End, Entry, Gives, Happening, Host}
use Rattle.node_laws.proofs.Words.{Inits, IsCut, Link, LinkInput, List, Loses, Lost, NextFrame, NoInput, NodeInput, NodeWorld, Noted, Report, Resets, Restarted}
use Rattle.node_laws.proofs.Words.{Site, Starts, Takes, Ticks, TimePasses, TooMany, TooOld, Work, [], activates, aged_entries, all_aged, all_append, all_flat}
use Rattle.node_laws.proofs.Words.{arith, arrival, beginning, begins_with, by_boot, by_coming, by_controller, by_controller_tick, by_host, by_host_tick}
use Rattle.node_laws.proofs.Words.{by_option, comes_at, comes_to, controller_begins, controller_does, controller_tick_begins, controller_ticks, controller_work}
use Rattle.node_laws.proofs.Words.{end_c, end_h, ending_entries, ending_of, entries_for, exchanged, false, flat_map, frames_noted, host_does, host_tick}
use Rattle.node_laws.proofs.Words.{host_ticks, host_work, hosts_tick, is_lost_by_line, link_to, near_tick, port_at, refl, sending, steps, told, told_of_coming}
use Rattle.node_laws.proofs.Words.{wires_for, work_of, world_step, world_ticks, ℕ, ◌++◌, ◌∷◌, ◌≡◌}
use Rattle.trace_model.specs.declared.entry.Entry.TheVariants as entry
use Rattle.link_laws.specs.entries.Entries.{End as Side}
use Rattle.link_laws.specs.entries.Entries.Entry.{Tick}
use Rattle.node_laws.proofs.passes.InSteps.{IsOfStep, NotesOnly, beginning_notes, coming_all, deeds_keep, of_deeds, sending_notes, step_keeps}
use Rattle.node_laws.proofs.worlds.Ticking.{host_begins}
use Rattle.node_laws.proofs.telling.Shapes.{told_all}
use Rattle.node_laws.proofs.telling.Ticks.{arrival_all, ending_all, wires_all}

-- it tells of no frame that a line loses
abbrev pub IsLineless : Entry → Type 0
IsLineless x = is_lost_by_line x ≡ false

abbrev pub AreLineless : List Entry → Type 0
AreLineless es = AllByRecursion IsLineless es

of_step : (x : Entry) → IsOfStep x → IsLineless x
of_step x a = grind arith

grown : (es more : List Entry) → AreLineless more → AreLineless es → AreLineless (es ++ more)
grown es more later before = all_append IsLineless es more before later

-- ## What is noted of a link

-- a frame is lost for its age, or since its wire is full, if one is lost
abbrev IsOfWire : Noted → Type 0
IsOfWire (Lost who frame TooOld) = Unit {0}
IsOfWire (Lost who frame TooMany) = Unit {0}
IsOfWire (Lost who frame _) = ⊥
IsOfWire _ = Unit {0}

notes_lineless : (h : ℕ) (notes : List Noted) → AllByRecursion IsOfWire notes → AreLineless (entries_for h notes)
notes_lineless h [] all = tt
notes_lineless h (Lost who frame TooOld ∷ notes) all = (refl, notes_lineless h notes all.1)
notes_lineless h (Lost who frame TooMany ∷ notes) all = (refl, notes_lineless h notes all.1)
notes_lineless h (Lost who frame _ ∷ notes) all = absurd all.0
notes_lineless h (Tick ∷ notes) all = notes_lineless h notes all.1
notes_lineless h (Restarted who ∷ notes) all = notes_lineless h notes all.1
notes_lineless h (Cut who ∷ notes) all = notes_lineless h notes all.1
notes_lineless h (_ ∷ notes) all = (refl, notes_lineless h notes all.1)

told_of_wire : (h : ℕ) (who : Side) (n acked : ℕ) (r : Report) → AreLineless (entries_for h (told who n r acked))
told_of_wire h who n acked r = notes_lineless h (told who n r acked) (told_all IsOfWire who n acked tt tt (λ k. tt) tt (λ m. tt) (λ c. tt) r)

arrival_lineless : (who : Side) (h : ℕ) (l : Link) (comes : Comes) → AreLineless (entries_for h (arrival who l comes))
arrival_lineless who h l comes = notes_lineless h (arrival who l comes) (arrival_all IsOfWire (λ w c. tt) who l comes)

frames_lineless : (who : Side) (h : ℕ) (l : Link) (k : Work) → AreLineless (frames_noted who h l k)
frames_lineless who h l k = by_option (port_at k.ports h)
    (λ q. rw q tt)
    (λ p q. rw q (notes_lineless h (ending_entries who l p.side (ending_of k))
    (ending_all IsOfWire (λ w c. tt) (λ w c. tt) (λ w. tt) who l p.side (ending_of k))))

-- ## What comes

coming_lineless : (input : NodeInput) (w : Work) → AreLineless (told_of_coming input w)
coming_lineless input w = coming_all IsLineless told_of_wire input w

-- ## A step

step_lineless : (input : NodeInput) (w : Work) → AreLineless w.entries → AreLineless (steps input w).entries
step_lineless input w none =
    step_keeps IsLineless of_step AreLineless grown input w (grown w.entries (told_of_coming input w) (coming_lineless input w) none)

-- ## Events of a world

near_lineless : (w : NodeWorld) (k : ℕ) (comes : Comes) (i : LinkInput) → AreLineless (controller_does w k comes (steps (AtEnd k i))).1
near_lineless w k comes i =
    by_controller (λ p. AreLineless p.1) w k comes (steps (AtEnd k i)) tt
    (λ r q.
    let v : Work = controller_work w r k comes (steps (AtEnd k i)) in
    all_append IsLineless v.entries (flat_map (λ (s : Site). frames_noted Controller s.host (wires_for s.link (comes_to k comes s.host)) v) w.sites)
    (step_lineless (AtEnd k i) (controller_begins w r k comes) (arrival_lineless Controller k (link_to w.sites k) comes))
    (all_flat IsLineless (λ (s : Site). frames_noted Controller s.host (wires_for s.link (comes_to k comes s.host)) v)
    (λ s. frames_lineless Controller s.host (wires_for s.link (comes_to k comes s.host)) v) w.sites))

far_lineless : (w : NodeWorld) (k : ℕ) (comes : Comes) (i : LinkInput) → AreLineless (host_does w k comes (steps (AtEnd k i))).1
far_lineless w k comes i =
    by_host (λ p. AreLineless p.1) w k comes (steps (AtEnd k i)) tt
    (λ s r found q.
    let v : Work = host_work s r comes (steps (AtEnd k i)) in
    all_append IsLineless v.entries (frames_noted Host k (wires_for (exchanged s.link) comes) v)
    (step_lineless (AtEnd k i) (host_begins s r comes) (arrival_lineless Host s.host (exchanged s.link) comes))
    (frames_lineless Host k (wires_for (exchanged s.link) comes) v))

comes_lineless : (w : NodeWorld) (e : End) (comes : Comes) → AreLineless (comes_at w e comes).1
comes_lineless w e comes =
    by_coming (λ p. AreLineless p.1) w e comes tt (λ i at q. far_lineless w e.link comes i) (λ i at q. near_lineless w e.link comes i)

begins_lineless : (w : NodeWorld) (h : ℕ) (deeds : List Deed) → AllByRecursion (NotesOnly IsLineless) deeds
    → AreLineless (host_does w h NoInput (begins_with h deeds)).1
begins_lineless w h deeds may =
    by_host (λ p. AreLineless p.1) w h NoInput (begins_with h deeds) tt
    (λ s r found q.
    let v : Work = host_work s r NoInput (begins_with h deeds) in
    all_append IsLineless v.entries (frames_noted Host h (wires_for (exchanged s.link) NoInput) v)
    (deeds_keep IsLineless of_step AreLineless grown h deeds (host_begins s r NoInput) may (arrival_lineless Host s.host (exchanged s.link) NoInput))
    (frames_lineless Host h (wires_for (exchanged s.link) NoInput) v))

activates_lineless : (w : NodeWorld) (h sync power : ℕ) → AreLineless (activates w h sync power).1
activates_lineless w h sync power =
    let near : NodeWorld × List Entry = comes_at w (end_c h) (Starts power) in
    all_append IsLineless near.1 (comes_at near.0 (end_h h) (Starts sync)).1 (comes_lineless w (end_c h) (Starts power))
    (comes_lineless near.0 (end_h h) (Starts sync))

aged_lineless : (s : Site) → AreLineless (entries_for s.host (aged_entries Controller s.link.to_controller ++ aged_entries Host s.link.to_host))
aged_lineless s =
    notes_lineless s.host (aged_entries Controller s.link.to_controller ++ aged_entries Host s.link.to_host)
    (wires_all IsOfWire (λ w c. tt) Controller Host s.link.to_controller s.link.to_host)

host_lineless : (s : Site) → AreLineless (host_ticks s).1
host_lineless s =
    by_host_tick (λ p. AreLineless p.1) s (λ q. tt)
    (λ r q. all_append IsLineless (host_tick s r).entries (frames_noted Host s.host (exchanged s.link) (host_tick s r))
    (step_lineless TimePasses (work_of r s.memory.plan (λ h. s.link.host) []) tt) (frames_lineless Host s.host (exchanged s.link) (host_tick s r)))

hosts_lineless : (sites : List Site) → AreLineless (hosts_tick sites).1
hosts_lineless [] = tt
hosts_lineless (s ∷ sites) = all_append IsLineless (host_ticks s).1 (hosts_tick sites).1 (host_lineless s) (hosts_lineless sites)

ticks_lineless : (w : NodeWorld) → AreLineless (world_ticks w).1
ticks_lineless w =
    let old : NodeWorld = (all_aged w).0 in
    let near : NodeWorld × List Entry = controller_ticks old in
    all_append IsLineless (all_aged w).1 (near.1 ++ (hosts_tick near.0.sites).1)
    (all_flat IsLineless (λ (s : Site). entries_for s.host (aged_entries Controller s.link.to_controller ++ aged_entries Host s.link.to_host)) aged_lineless
    w.sites)
    (all_append IsLineless near.1 (hosts_tick near.0.sites).1
    (by_controller_tick (λ p. AreLineless p.1) old (λ q. tt)
    (λ r q. all_append IsLineless (near_tick old r).entries (flat_map (λ (s : Site). frames_noted Controller s.host s.link (near_tick old r)) old.sites)
    (step_lineless TimePasses (controller_tick_begins old r) tt)
    (all_flat IsLineless (λ (s : Site). frames_noted Controller s.host s.link (near_tick old r))
    (λ s. frames_lineless Controller s.host s.link (near_tick old r))
    old.sites)))
    (hosts_lineless near.0.sites))

-- nothing is lost by a line in this event
abbrev pub IsNoLoss : Happening → Type 0
IsNoLoss (Loses e why) = ⊥
IsNoLoss _ = Unit {0}

pub event_lineless : (w : NodeWorld) (c : Happening) → IsNoLoss c → AreLineless (world_step w c).1
event_lineless w (Boots k) a = by_boot (λ p. AreLineless p.1) w k (refl, tt) (refl, tt)
event_lineless w (IsCut k) a = (refl, tt)
event_lineless w (Gives e m) a = begins_lineless w e.link (sending e.link m) (sending_notes IsLineless (of_deeds IsLineless of_step) e.link m)
event_lineless w (Inits e identity pipes) a =
    begins_lineless w e.link (beginning identity pipes) (beginning_notes IsLineless (of_deeds IsLineless of_step) identity pipes)
event_lineless w (Takes e) a = comes_lineless w e NextFrame
event_lineless w (Loses e why) a = absurd a
event_lineless w Ticks a = ticks_lineless w
event_lineless w (Resets e window) a = comes_lineless w e (AsksReset window)
event_lineless w (Activates h sync power) a = activates_lineless w h sync power
event_lineless w (Arms k plan) a = tt
