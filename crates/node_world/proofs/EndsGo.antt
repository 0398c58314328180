-- What a step of an end does to the wires of its link, and to the end.
use Rattle.std.specs.List.{find}
use Rattle.node_world.proofs.Words.{AllByRecursion, AreDifferent, AreMute, AsksReset, AtEnd, Bool, Comes, Control, Controller, CutOff, Deed, Desk, Ending}
use Rattle.node_world.proofs.Words.{GoesOut, HasEnds, Host, IsOrderly, Link, LinkEnd, LinkInput, List, NextFrame, NoInput, NodeWorld, None, NumberedEnd, OnWire}
use Rattle.node_world.proofs.Words.{Option, Port, Reset, Running, SameWires, Site, Some, Start, Starts, Step, Stop, Stops, Take, Tick, Turn, Wires}
use Rattle.node_world.proofs.Words.{WiresStandFor, Work, [], after_input, ap, ap₂, arith, arrival, as_it_comes, at_host, becomes, begins_with, between}
use Rattle.node_world.proofs.Words.{comes_to, cond, controller_work, cut, ended_by, entries_for, eqb-true, exchanged, false, frames_out}
use Rattle.node_world.proofs.Words.{happens_at_controller, has_input, host_opened, host_tick, host_work, hosts_in, hosts_of_ends, input_of, is_due, is_late_at}
use Rattle.node_world.proofs.Words.{is_some, is_up, is_waiting, link_after_controller, link_is, link_to, map, near_end_in, near_tick, new_link_end, number_of}
use Rattle.node_world.proofs.Words.{option_map_or, port_at, port_for, put, put_all, refl, renewed, same_number, sent_all, sent_port, silent, site_at, steps}
use Rattle.node_world.proofs.Words.{subst, swapped, sym, ticked_so, took_with, true, turned, turns_at, with_bare_wires, with_controller, with_ended}
use Rattle.node_world.proofs.Words.{without_first, work_of, ℕ, ◌==◌, ◌∙◌, ◌∷◌, ◌≡◌}
use Rattle.link_laws.specs.machine.Machine.{started, deactivated}
use Rattle.node_laws.proofs.telling.Steps.{IsStep, after_coming, Goes, begun, stepped, steps_keep}
use Rattle.link_laws.specs.entries.Entries.{End as Side}
use Rattle.node_laws.specs.telling.Telling.{IfDue}
use Rattle.node_laws.proofs.telling.Events.{given, is_so, is_step, opened, site_map}
use Rattle.link_wires.proofs.GoingOut.{put_stays}
use Rattle.node_machine.specs.Node.{is_late}
use Rattle.node_laws.proofs.telling.Ticks.{IfLate, TickedOfTicks as Ticked, not_late, older, ticked_of_ticks as ticked}
use Rattle.node_laws.proofs.telling.WorldTicks.{opened as tick_opened, up_late, young_ports}
pub use Rattle.link_laws.proofs.messages.Project.{host_ended as ended_far}

-- ## The same wires

pub same_stand : {k : Wires} {l m : Link} → SameWires l m → WiresStandFor k l → WiresStandFor k m
same_stand {k} s w =
    record {
      here = record {
        emitted_is = w.here.emitted_is ∙ sym s.controller.0;
        took_is = w.here.took_is ∙ sym s.controller.1;
        wire_is = rw (← s.to_controller) at w.here.wire_is;
      };
      there = record {
        emitted_is = w.there.emitted_is ∙ sym s.host.0;
        took_is = w.there.took_is ∙ sym s.host.1;
        wire_is = rw (← s.to_host) at w.there.wire_is;
      };
      count = w.count ∙ sym s.resets;
    }

pub same_exchanged : {l m : Link} → SameWires l m → SameWires (exchanged l) (exchanged m)
same_exchanged s = record { to_controller = s.to_host; to_host = s.to_controller; resets = s.resets; controller = s.host; host = s.controller }

pub ended_same : (l : Link) (b : Bool) → SameWires l (with_ended l b)
ended_same l b = grind arith

pub silent_same : (l : Link) (e : LinkEnd) → SameWires (with_bare_wires l) (silent l e)
silent_same l e = grind arith

pub same_twice : {l m n : Link} → SameWires l m → SameWires m n → SameWires l n
same_twice s t = grind arith

-- ## A step of the near end

-- the end became e in a step of its link l with these turns, and its frames go out on the wires of m
pub record GoesOn (l : Link) (comes : Comes) (turns : List Turn) (e : LinkEnd) : Type 0 where
  pub link : Link
  pub wires : SameWires (as_it_comes l comes) link
  pub out : happens_at_controller l (Step comes turns GoesOut) ≡ becomes link e
  pub cut : happens_at_controller l (Step comes turns CutOff) ≡ cut (with_controller link (sent_all e))
  pub far : link.host ≡ l.host

pub goes_on : (l : Link) (comes : Comes) (o : Option LinkInput) (turns : List Turn) → input_of l comes ≡ o → IsStep comes o
    → GoesOn l comes turns (turned (after_coming (near_end_in l comes).side o) turns)
goes_on l NextFrame o turns q c = go o l.to_controller q c
  where
    go : (o : Option LinkInput) (w : List OnWire) → input_of (record l { to_controller = w }) NextFrame ≡ o → IsStep NextFrame o
        → GoesOn (record l { to_controller = w }) NextFrame turns
        (turned (after_coming (near_end_in (record l { to_controller = w }) NextFrame).side o) turns)
    go None w q c = absurd c
    go (Some i) [] q c = absurd (cc q)
    go (Some i) (x ∷ xs) q c =
        let k : Link = record l { to_controller = x ∷ xs } in
        let f : LinkInput = Take x.frame in
        let is : f ≡ i = cc in
        let b : Bool = is_some (ended_by l.controller.side f) in
        let m : Link = with_ended (record l { to_controller = xs }) b in
        subst (λ j. GoesOn k NextFrame turns (turned (after_input l.controller.side j) turns)) is
        (record {
          link = record m { controller = record m.controller { took = took_with l.controller.took x } };
          wires = taken b;
          out = refl;
          cut = refl;
          far = ended_far (record l { to_controller = xs }) b;
        })
      where
        taken : (b : Bool) → SameWires (without_first (record l { to_controller = x ∷ xs }))
            (let m : Link = with_ended (record l { to_controller = xs }) b in
            record m { controller = record m.controller { took = took_with l.controller.took x } })
        taken true = record { to_controller = refl; to_host = refl; resets = refl; controller = (refl, refl); host = (refl, refl) }
        taken false = record { to_controller = refl; to_host = refl; resets = refl; controller = (refl, refl); host = (refl, refl) }
goes_on l (AsksReset window) None turns q c = absurd c
goes_on l (AsksReset window) (Some i) turns q c =
    let is : Reset window ≡ i = cc in
    let P : LinkInput → Type 0 = λ j. GoesOn l (AsksReset window) turns (turned (after_input l.controller.side j) turns) in
    let b : Bool = is_some (ended_by l.controller.side (Reset window)) in
    subst P is (record { link = with_ended l b; wires = ended_same l b; out = refl; cut = refl; far = ended_far l b })
goes_on l (Starts value) None turns q c = absurd c
goes_on l (Starts value) (Some i) turns q c =
    let is : Start value ≡ i = cc in
    let P : LinkInput → Type 0 = λ j. GoesOn l (Starts value) turns (turned (after_input l.controller.side j) turns) in
    let e : LinkEnd = started l.controller.side value in
    subst P is (record { link = silent l e; wires = silent_same l e; out = refl; cut = refl; far = ended_far l (is_up l.controller.side.shdlc.phase) })
goes_on l Stops None turns q c = absurd c
goes_on l Stops (Some i) turns q c =
    let is : Stop ≡ i = cc in
    let P : LinkInput → Type 0 = λ j. GoesOn l Stops turns (turned (after_input l.controller.side j) turns) in
    let e : LinkEnd = deactivated l.controller.side in
    subst P is (record { link = silent l e; wires = silent_same l e; out = refl; cut = refl; far = ended_far l (is_up l.controller.side.shdlc.phase) })
goes_on l NoInput o turns q c =
    let P : Option LinkInput → Type 0 = λ j. GoesOn l NoInput turns (turned (after_coming l.controller.side j) turns) in
    subst P q (record { link = l; wires = (grind arith); out = refl; cut = refl; far = refl })

-- a link whose near end lost its power in a step: both wires are empty
pub cut_same : {l : Link} {comes : Comes} {turns : List Turn} {e : LinkEnd} (g : GoesOn l comes turns e)
    → SameWires (with_bare_wires (as_it_comes l comes)) (happens_at_controller l (Step comes turns CutOff))
cut_same {l} {comes} {turns} {e} g =
    let m : Link = with_controller g.link (sent_all e) in
    let same : SameWires g.link m = record { to_controller = refl; to_host = refl; resets = refl; controller = (refl, refl); host = (refl, refl) } in
    rw g.cut (same_twice (let h0 = same_twice g.wires same in grind arith) (silent_same m (new_link_end (renewed m.controller.side.role))))

-- What a step of a node is on each of its links.

-- a node's end of the link l with the host h behind a step of it in which this came there
pub record EndGoes (h : ℕ) (l : Link) (comes : Comes) (v : Work) : Type 0 where
  pub port : Port
  pub here : port_at v.ports h ≡ Some port
  pub session : port.session ≡ number_of (near_end_in l comes)
  pub goes : GoesOn l comes (turns_at v h) port.side

end_goes : (h : ℕ) (who : Side) (l : Link) (comes : Comes) (o : Option LinkInput) (v : Work) → input_of l comes ≡ o → IsStep comes o
    → Goes h who l comes o v → EndGoes h l comes v
end_goes h who l comes o v q c a =
    let e : LinkEnd = after_coming (near_end_in l comes).side o in
    let side : a.port.side ≡ turned e (turns_at v h) = a.is ∙ ap (turned e) (sym (ap (λ x. option_map_or (λ (p : Port). p.turns) x []) a.here)) in
    record { port = a.port; here = a.here; session = a.session; goes = rw (← side) at (goes_on l comes o (turns_at v h) q c) }

-- ## The controller

pub controller_ends : (w : NodeWorld) (r : Running) (k : ℕ) (comes : Comes) (i : LinkInput) (h : ℕ) (s : Site) (orderly : IsOrderly w)
    (node : HasEnds 0 (hosts_in w.sites) r) (found : site_at w.sites h ≡ Some s) → input_of (link_to w.sites k) comes ≡ Some i
    → EndGoes h s.link (comes_to k comes h) (controller_work w r k comes (steps (AtEnd k i)))
controller_ends w r k comes i h s orderly node found q =
    let first = opened w r k comes h s orderly node found in
    let o : ℕ → Option LinkInput = λ n. cond (n == k) (Some i) None in
    end_goes h Controller s.link (comes_to k comes h) (o h) (controller_work w r k comes (steps (AtEnd k i)))
    (given w r k comes h s orderly node found i q (h == k) refl) (is_so w r k comes h s orderly node found i (h == k))
    (stepped h Controller s.link (comes_to k comes h) (o h) k i _ first (ap o (eqb-true first.port.desk.host h (at_host _ h first.port first.here))))

-- ## A host

pub host_ends : (s : Site) (r : Running) (comes : Comes) (host : (s.host == 0) ≡ false) (node : HasEnds s.host (s.host ∷ []) r) (i : LinkInput)
    → input_of (exchanged s.link) comes ≡ Some i → EndGoes s.host (exchanged s.link) comes (host_work s r comes (steps (AtEnd s.host i)))
host_ends s r comes host node i q =
    let first = host_opened s r comes host node in
    let here : first.port.desk.host ≡ s.host = eqb-true first.port.desk.host s.host (at_host _ s.host first.port first.here) in
    let o : ℕ → Option LinkInput = λ n. cond (n == s.host) (Some i) None in
    end_goes s.host Host (exchanged s.link) comes (Some i) (host_work s r comes (steps (AtEnd s.host i))) q (is_step comes i)
    (stepped s.host Host (exchanged s.link) comes (Some i) s.host i _ first (ap o here ∙ (ap (λ b. cond b (Some i) None) (same_number s.host))))

-- a host does something of its own
pub host_begins : (s : Site) (r : Running) (host : (s.host == 0) ≡ false) (node : HasEnds s.host (s.host ∷ []) r) (deeds : List Deed) → AreMute deeds
    → EndGoes s.host (exchanged s.link) NoInput (host_work s r NoInput (begins_with s.host deeds))
host_begins s r host node deeds m =
    end_goes s.host Host (exchanged s.link) NoInput None (host_work s r NoInput (begins_with s.host deeds)) refl tt
    (begun s.host Host (exchanged s.link) NoInput None s.host deeds _ m (host_opened s r NoInput host node) refl)

-- The links and the nodes of a world behind a step of a node that runs on.

-- ## One link

pub all_far : (l : Link) (cs : List Control) → (put_all l cs).host ≡ l.host
all_far l [] = refl
all_far l (c ∷ cs) = all_far (put l c) cs ∙ (put_stays l c).host

-- a link behind a step of its near end e, whose frames went out: where these wires stand for it as they are, they stand for it
pub record IsBehind (k : Wires) (l now : Link) (e : LinkEnd) : Type 0 where
  pub wires : WiresStandFor k now
  pub near : now.controller.side ≡ sent_all e
  pub far : now.host.side ≡ l.host.side

pub out_behind : {k : Wires} {l : Link} {comes : Comes} {v : Work} {h : ℕ} (g : EndGoes h l comes v)
    → WiresStandFor k (put_all g.goes.link (frames_out g.port.side))
    → IsBehind k l (happens_at_controller l (Step comes (turns_at v h) GoesOut)) g.port.side
out_behind {k} {l} g w =
    rw g.goes.out (record {
      wires = record {
        here = record { emitted_is = w.here.emitted_is; took_is = w.here.took_is; wire_is = w.here.wire_is };
        there = w.there;
        count = w.count;
      };
      near = refl;
      far = ap (λ (x : NumberedEnd). x.side) (all_far g.goes.link (frames_out g.port.side) ∙ g.goes.far);
    })

-- ## Lists

-- of a list of things with different numbers each is found by its own
pub each_found : {X : Type 0} (key : X → ℕ) (xs : List X) → AreDifferent (map key xs)
    → AllByRecursion (λ (x : X). find (λ y. key y == key x) xs ≡ Some x) xs
each_found key [] d = tt
each_found {X} key (x ∷ xs) d = (let same : (key x == key x) ≡ true = same_number (key x) in rw same refl, later xs d.0 (each_found key xs d.1))
  where
    later : (ys : List X) → AllByRecursion (λ k. (k == key x) ≡ false) (map key ys) → AllByRecursion (λ (y : X). find (λ z. key z == key y) xs ≡ Some y) ys
        → AllByRecursion (λ (y : X). find (λ z. key z == key y) (x ∷ xs) ≡ Some y) ys
    later [] a b = tt
    later (y ∷ ys) a b = (let other : (key x == key y) ≡ false = swapped (key y) (key x) a.0 in rw other b.0, later ys a.1 b.1)

-- ## The controller

-- the ends of a node as the next step begins are those of the step before, whose frames went out
pub next_ports : (near_ends : ℕ → NumberedEnd) (ports : List Port)
    → AllByRecursion (λ (p : Port). (near_ends p.desk.host).side ≡ sent_all p.side) ports
    → map between (map sent_port ports)
    ≡ map between (map (λ (d : Desk). port_for (near_ends d.host) d) (map (λ (p : Port). p.desk) ports))
next_ports near_ends [] a = refl
next_ports near_ends (p ∷ ports) a =
    ap₂ (λ (x : Port) xs. x ∷ xs)
    (ap (λ (e : LinkEnd). record { desk = p.desk; side = e; session = 0; late = false; ended = false; turns = [] }) (sym a.0))
    (next_ports near_ends ports a.1)

-- the controller's end of a link is so behind a step in which it sent all its frames
pub record SentAt (v : Work) (s : Site) (f : Site → Site) : Type 0 where
  pub port : Port
  pub here : port_at v.ports s.host ≡ Some port
  pub side : (f s).link.controller.side ≡ sent_all port.side

-- so it is at each end of the controller, where it is so on each link
pub all_sides : (v : Work) (sites : List Site) (f : Site → Site) → ((s : Site) → (f s).host ≡ s.host) → hosts_of_ends v.ports ≡ hosts_in sites
    → AreDifferent (hosts_in sites) → ((s : Site) → site_at sites s.host ≡ Some s → SentAt v s f)
    → AllByRecursion (λ (p : Port). (link_to (map f sites) p.desk.host).controller.side ≡ sent_all p.side) v.ports
all_sides v sites f keeps hosts different each =
    go v.ports sites hosts (each_found (λ (p : Port). p.desk.host) v.ports (subst AreDifferent (sym hosts) different))
    (each_found (λ (s : Site). s.host) sites different)
  where
    one : (s : Site) → site_at sites s.host ≡ Some s → (p : Port) → p.desk.host ≡ s.host → port_at v.ports p.desk.host ≡ Some p
        → (link_to (map f sites) p.desk.host).controller.side ≡ sent_all p.side
    one s found p host own =
        let g : SentAt v s f = each s found in
        let is : g.port ≡ p = cc in
        let there : site_at (map f sites) s.host ≡ Some (f s) = site_map f keeps sites s.host s found in
        ap (λ h. (link_to (map f sites) h).controller.side) host
        ∙ (ap (λ (l : Link). l.controller.side) (link_is (map f sites) s.host (f s) there) ∙ (g.side ∙ ap (λ (x : Port). sent_all x.side) is))

    go : (ports : List Port) (left : List Site) → hosts_of_ends ports ≡ hosts_in left
        → AllByRecursion (λ (p : Port). port_at v.ports p.desk.host ≡ Some p) ports
        → AllByRecursion (λ (s : Site). site_at sites s.host ≡ Some s) left
        → AllByRecursion (λ (p : Port). (link_to (map f sites) p.desk.host).controller.side ≡ sent_all p.side) ports
    go [] left q a b = tt
    go (p ∷ ports) [] q a b = absurd (cc q)
    go (p ∷ ports) (s ∷ left) q a b =
        let host : p.desk.host ≡ s.host = cc in
        let others : hosts_of_ends ports ≡ hosts_in left = cc in
        (one s b.0 p host a.0, go ports left others a.1 b.1)

module _ (w : NodeWorld) (r : Running) (k : ℕ) (comes : Comes) (i : LinkInput) (orderly : IsOrderly w) (node : HasEnds 0 (hosts_in w.sites) r)
    (input : input_of (link_to w.sites k) comes ≡ Some i) where
  -- the controller behind the step
  abbrev pub After : Work
  After = controller_work w r k comes (steps (AtEnd k i))

  abbrev pub sites_after : List Site
  sites_after = map (link_after_controller k comes After) w.sites

  -- where it runs on, each link goes on so
  pub site_behind : {kept : Wires} (s : Site) (found : site_at w.sites s.host ≡ Some s) → After.cut ≡ false
      → (g : EndGoes s.host s.link (comes_to k comes s.host) After) → WiresStandFor kept (put_all g.goes.link (frames_out g.port.side))
      → IsBehind kept s.link (link_after_controller k comes After s).link g.port.side
  site_behind {kept} s found on g wires = rw (ap (λ (b : Bool). cond b CutOff GoesOut) on) (out_behind g wires)

  abbrev near : ℕ → NumberedEnd
  near h = near_end_in (link_to w.sites h) (comes_to k comes h)

  abbrev Begun : Work
  Begun = work_of r w.memory.plan near (entries_for k (arrival Controller (link_to w.sites k) comes))

  pub hosts_kept : hosts_of_ends After.ports ≡ hosts_in w.sites
  hosts_kept = (steps_keep 0 (hosts_in w.sites) k i Begun (record { number = node.number; ends = first r.desks ∙ node.ends })).ends
    where
      first : (desks : List Desk) → hosts_of_ends (map (λ (d : Desk). port_for (near d.host) d) desks) ≡ map (λ (d : Desk). d.host) desks
      first [] = refl
      first (d ∷ desks) = ap (λ hs. d.host ∷ hs) (first desks)

-- What the tick of a node is on each of its links.

-- an end after its tick, or after its reset in place of it
abbrev pub after_ticking : Bool → LinkEnd → LinkEnd
after_ticking true e = after_input e (Reset None)
after_ticking false e = after_input e Tick

-- the near end of a link became e in a tick with these turns, and its frames go out on the wires of this link
pub record TicksOn (l : Link) (late : Bool) (turns : List Turn) (e : LinkEnd) : Type 0 where
  pub link : Link
  pub wires : SameWires l link
  pub out : ticked_so l late turns GoesOut ≡ becomes link e
  pub cut : ticked_so l late turns CutOff ≡ cut (with_controller link (sent_all e))
  pub far : link.host ≡ l.host

pub ticks_on : (l : Link) (late : Bool) (turns : List Turn) → (late ≡ true → is_waiting l.controller.side.shdlc ≡ false)
    → TicksOn l late turns (turned (after_ticking late l.controller.side) turns)
ticks_on l true turns ready =
    let so : Ending → Link = λ e. has_input l (Reset None) turns e in
    let is : (e : Ending) → ticked_so l true turns e ≡ so e = λ e. rw (ready refl) refl in
    let b : Bool = is_some (ended_by l.controller.side (Reset None)) in
    record { link = with_ended l b; wires = ended_same l b; out = is GoesOut; cut = is CutOff; far = ended_far l b }
ticks_on l false turns ready =
    let b : Bool = is_some (ended_by l.controller.side Tick) in
    record { link = with_ended l b; wires = ended_same l b; out = refl; cut = refl; far = ended_far l b }

-- a node's end of the link l with the host h behind its tick
pub record EndTicks (h : ℕ) (l : Link) (late : Bool) (v : Work) : Type 0 where
  pub port : Port
  pub here : port_at v.ports h ≡ Some port
  pub session : port.session ≡ number_of l.controller
  pub late_is : is_late_at v h ≡ late
  pub goes : TicksOn l late (turns_at v h) port.side

up_ready : (late : Bool) (l : Link) → IfLate late l.controller.side → late ≡ true → is_waiting l.controller.side.shdlc ≡ false
up_ready late l up q = grind arith

tick_goes : (h : ℕ) (who : Side) (l : Link) (late : Bool) (v : Work) → IfLate late l.controller.side → Ticked h who l late v → EndTicks h l late v
tick_goes h who l true v up a =
    let e : LinkEnd = after_input l.controller.side (Reset None) in
    let side : a.port.side ≡ turned e (turns_at v h) = a.is ∙ ap (turned e) (sym (ap (λ x. option_map_or (λ (p : Port). p.turns) x []) a.here)) in
    record {
      port = a.port;
      here = a.here;
      session = a.session;
      late_is = ap (λ x. option_map_or (λ (p : Port). p.late) x false) a.here ∙ a.late_is;
      goes = subst (λ x. TicksOn l true (turns_at v h) x) (sym side) (ticks_on l true (turns_at v h) (up_ready true l up));
    }
tick_goes h who l false v up a =
    let e : LinkEnd = after_input l.controller.side Tick in
    let side : a.port.side ≡ turned e (turns_at v h) = a.is ∙ ap (turned e) (sym (ap (λ x. option_map_or (λ (p : Port). p.turns) x []) a.here)) in
    record {
      port = a.port;
      here = a.here;
      session = a.session;
      late_is = ap (λ x. option_map_or (λ (p : Port). p.late) x false) a.here ∙ a.late_is;
      goes = subst (λ x. TicksOn l false (turns_at v h) x) (sym side) (ticks_on l false (turns_at v h) (up_ready false l up));
    }

-- ## The controller and a host

-- the controller's end of a link behind its tick, and whether it was reset in place of it
pub record NearTicks (w : NodeWorld) (r : Running) (s : Site) : Type 0 where
  pub late : Bool
  pub ticks : EndTicks s.host s.link late (near_tick w r)

pub controller_end_ticks : (w : NodeWorld) (s : Site) (orderly : IsOrderly w) (found : site_at w.sites s.host ≡ Some s) (r : Running)
    (runs : w.controller ≡ Some r) (node : HasEnds 0 (hosts_in w.sites) r) (due : IfDue (Some r) s.host s.link.controller.side) → NearTicks w r s
controller_end_ticks w s orderly found r runs node due =
    let first = tick_opened w s.host s orderly found r runs node due in
    let late : Bool = is_late (older first.port) in
    let up : IfLate late s.link.controller.side = up_late w s.host s orderly found r runs node due late refl in
    record {
      late = late;
      ticks = tick_goes s.host Controller s.link late (near_tick w r) up (ticked s.host Controller s.link late _ first refl up);
    }

pub host_end_ticks : (s : Site) (r : Running) (host : (s.host == 0) ≡ false) (node : HasEnds s.host (s.host ∷ []) r)
    → AllByRecursion (λ (d : Desk). is_due d ≡ false) r.desks → EndTicks s.host (exchanged s.link) false (host_tick s r)
host_end_ticks s r host node young =
    let first = host_opened s r NoInput host node in
    let late : is_late (older first.port) ≡ false = not_late first.port (young_ports (λ j. s.link.host) r.desks s.host first.port young first.here) in
    tick_goes s.host Host (exchanged s.link) false (host_tick s r) tt (ticked s.host Host (exchanged s.link) false _ first late tt)
