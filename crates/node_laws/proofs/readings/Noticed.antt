-- A controller has notices that aren't answered only at ends that are up, over steps and whatever happens in a world.
use Rattle.node_laws.proofs.Words.{Activates, AllByRecursion, AreHosts, Arms, AsksReset, AtEnd, AtHost, Bool, Boots, Broken, Comes, Controller, CutOff, Desk}
use Rattle.node_laws.proofs.Words.{End, EndEvent, EndState, Ending, Entry, Gives, GoesOut, Happening, HasEnds, IfItRuns, IfNoticedUp, Inits, IsBegun, IsComing}
use Rattle.node_laws.proofs.Words.{IsCut, IsHost, IsNoticedUp, IsOrderly, IsOutside, Line, Link, LinkEnd, LinkInput, LinkState, List, Lose, Loses, Loss, Memory}
use Rattle.node_laws.proofs.Words.{NextFrame, NoInput, NodeInput, NodeWorld, None, Notice, NoticesAreUp, NumberedEnd, OnFirst, Option, Plan, Port, Reset}
use Rattle.node_laws.proofs.Words.{Resets, Running, Site, Some, Starts, Step, Takes, Tick, Ticks, TimePasses, Turn, Up, Work, [], after_controller, after_host}
use Rattle.node_laws.proofs.Words.{after_input, after_planned, after_sessions, after_turn, aged, all_aged, all_come, all_owed, all_so, ap, arith, arrival, at}
use Rattle.node_laws.proofs.Words.{beginning, begins_with, boot_found, boot_writes, boot_written, boots, by_boot, by_coming, by_controller, by_controller_tick}
use Rattle.node_laws.proofs.Words.{by_host, by_loss, by_memory, by_option, by_power, by_running, by_test, cases_Bool, changed_if, comes_at, comes_to, cond}
use Rattle.node_laws.proofs.Words.{controller_does, controller_ticks, controller_work, counts, end_c, end_h, ending_of, entries_for, eqb, eqb-true, exchanged}
use Rattle.node_laws.proofs.Words.{false, flat_map, forgets, forgotten, frame_lost, happenings, happens, has_come, has_input, host_cut, host_does, host_ticks}
use Rattle.node_laws.proofs.Words.{host_work, hosts_in, hosts_tick, inl, input_at, input_of, inr, is_late, is_late_at, is_open, is_some, is_up, is_waiting}
use Rattle.node_laws.proofs.Words.{link_after_controller, link_to, links_of, loses_power_at, map, memory_at, min, nat_le, ne_eqb, near_end_in, new_desk}
use Rattle.node_laws.proofs.Words.{new_world, not, noting, option_map, option_map_or, port_at, port_for, refl, reset_late, runs_on, sending, site_at, site_lost}
use Rattle.node_laws.proofs.Words.{site_unticked, steps, steps_at_controller, subst, sym, synced, tick_host, ticked_so, ticks_at_controller, times_out, true}
use Rattle.node_laws.proofs.Words.{true≢false, turn_at, turns_at, with_desk, with_error, with_memory, with_older, with_site, without_notice, work_of}
use Rattle.node_laws.proofs.Words.{world_after, world_step, world_ticks, ℕ, ◌&&◌, ◌+◌, ◌∙◌, ◌∷◌, ◌≡◌, ◌⊎◌}
use Rattle.node_laws.proofs.links.Sites.{here_host}
use Rattle.node_laws.proofs.links.Noticing.{Sure, UpAt, at_all, at_host, links_after, stays_up, steps_sure, up_at}
use Rattle.node_laws.proofs.readings.Sites.{comes_outside, near_end_side, sent_phase, stepped_phase}
use Rattle.node_laws.proofs.steps.StepWalks.{changed_host, come_host, forgets_host, late_host, without_host}
use Rattle.node_laws.proofs.telling.Events.{comes_goes, link_is, ports_for, site_host, site_map}
use Rattle.node_laws.proofs.telling.Lasting.{Any, AnyLine, all_any, all_lines, lines_last, new_orderly, step_orderly}
use Rattle.node_laws.proofs.telling.Accounts.{AreSilent, all_owed_mute, all_synced_mute, forgotten_mute, rest}
use Rattle.node_laws.proofs.telling.Steps.{forgets_same, without_same}
use Rattle.node_laws.proofs.telling.WorldTicks.{aged_orderly, tick_host as ticked_number}

-- ## An end of a controller after a step, where it has a notice that isn't answered

-- ### Phases

pub up_is : (s : LinkState) → is_up s ≡ true → s ≡ Up
up_is s e = grind arith

input_phase : (l : Link) (i : LinkInput) (ts : List Turn)
    → (has_input l i ts GoesOut).controller.side.shdlc.phase ≡ (after_input l.controller.side i).shdlc.phase
input_phase l i ts = sent_phase (after_input l.controller.side i) ts

-- an end that is up isn't waiting
pub not_waiting : (e : EndState) → e.phase ≡ Up → is_waiting e ≡ false
not_waiting e up = rw up refl

-- an open end that is up waits after a reset
reset_waits : (e : LinkEnd) → is_open e.role ≡ true → e.shdlc.phase ≡ Up → is_up (after_input e (Reset None)).shdlc.phase ≡ false
reset_waits e open_is up = rw (open_is, up) refl

-- one that isn't open stays as it is
reset_refused : (e : LinkEnd) → is_open e.role ≡ false → after_input e (Reset None) ≡ e
reset_refused e closed = rw closed refl

-- ### Ends as a step begins

module _ (r : Running) (plan : Option Plan) (near_ends : ℕ → NumberedEnd) (es : List Entry) where
  abbrev pub starts : List Desk → List Port
  starts desks = map (λ (d : Desk). port_for (near_ends d.host) d) desks

  abbrev pub begun : Work
  begun = work_of r plan near_ends es

  -- one that is found is as the link's end is
  pub record IsStart (x : ℕ) (q : Port) : Type 0 where
    pub side : q.side ≡ (near_ends x).side
    pub late : q.late ≡ false

  is_start : (desks : List Desk) (x : ℕ) (q : Port) → port_at (starts desks) x ≡ Some q → IsStart x q
  is_start [] x q e = absurd (cc e)
  is_start (d ∷ desks) x q e = by_test (eqb d.host x)
      (λ is. grind arith)
      (λ off. is_start desks x q (rw off at e))

  begun_first : (desks : List Desk) (x : ℕ) → OnFirst IsNoticedUp (port_at (starts desks) x) → OnFirst IsBegun (port_at (starts desks) x)
  begun_first [] x a = tt
  begun_first (d ∷ desks) x a = by_test (eqb d.host x)
      (λ is. let b : IsNoticedUp (port_for (near_ends d.host) d) = rw is at a in rw is (record { up = b; late = refl; ended = refl }))
      (λ off. rw off (begun_first desks x (rw off at a)))

  -- ### Over a step

  module _ (number : r.core.node ≡ 0) (noticed : (x : ℕ) → OnFirst IsNoticedUp (port_at (starts r.desks) x)) (input : NodeInput)
      (outside : IsOutside input) where
    abbrev came : List Port
    came = (times_out input (all_come input begun)).ports

    abbrev k : Work
    k = steps input begun

    sure : Sure (links_after input begun) k
    sure = steps_sure input begun outside number (λ x. begun_first r.desks x (noticed x))

    left_link : (ports : List Port) (x : ℕ) → up_at (port_at (map without_notice (map (forgets came) ports)) x) ≡ up_at (port_at ports x)
    left_link ports x =
        ap up_at (at_all (map (forgets came) ports) x without_notice without_host ∙ ap (option_map without_notice) (at_all ports x (forgets came)
        (forgets_host came)))
        ∙ by_option (port_at ports x)
        (λ q. rw q refl)
        (λ p q. rw q (ap (λ (e : LinkEnd). is_up e.shdlc.phase) ((without_same (forgets came p)).side ∙ (forgets_same came p).side)))

    -- an end that has a notice after the step was up once something had come
    came_up : (x : ℕ) (p : Port) → port_at k.ports x ≡ Some p → is_some p.desk.notice ≡ true → up_at (port_at came x) ≡ true
    came_up x p here some = sym (sym (ap up_at here) ∙ (sure.links x ∙ left_link came x)) ∙ (subst UpAt here (sure.up x)) some

    -- what is late stays so
    abbrev late_of : List Port → ℕ → Bool
    late_of ports x = option_map_or (λ (p : Port). p.late) (port_at ports x) false

    late_map : (g : Port → Port) → ((p : Port) → (g p).desk.host ≡ p.desk.host) → ((p : Port) → (g p).late ≡ p.late) → (ports : List Port) (x : ℕ)
        → late_of (map g ports) x ≡ late_of ports x
    late_map g host late ports x = ap (λ o. option_map_or (λ (p : Port). p.late) o false) (at_all ports x g host) ∙ by_option (port_at ports x)
        (λ q. rw q refl)
        (λ p q. rw q (late p))

    late_is : (x : ℕ) → is_late_at k x ≡ late_of came x
    late_is x = rest Of note desk turns beside (forgotten came) (flat_map (synced begun.core input) begun.ports) (all_owed left) first_work
        (forgotten_mute came) (all_synced_mute begun.core input begun.ports) (all_owed_mute left) first
      where
        left : List Port
        left = map (forgets came) came

        first_work : Work
        first_work = record (times_out input (all_come input begun)) {
          core = after_sessions (times_out input (all_come input begun)).core came;
          ports = map without_notice left;
        }

        Of : Work → Type 0
        Of w = late_of w.ports x ≡ late_of came x

        first : Of first_work
        first = late_map without_notice without_host (λ p. (without_same p).late) left x
            ∙ late_map (forgets came) (forgets_host came) (λ p. (forgets_same came p).late) came x

        note : (ns : List Entry) (w : Work) → AreSilent ns → Of w → Of (noting ns w)
        note ns w s a = a

        desk : (n : ℕ) (f : Desk → Desk) (w : Work) → ((d : Desk) → (f d).host ≡ d.host) → Of w → Of (with_desk n f w)
        desk n f w keeps a =
            let g : Port → Port = λ p. record p { desk = f p.desk } in
            late_map (λ p. changed_if (eqb p.desk.host n) g p) (λ p. changed_host (eqb p.desk.host n) g p (λ q. keeps q.desk))
            (λ p. grind arith) w.ports x ∙ a

        turns : (n : ℕ) (t : Turn) (w : Work) → Of w → Of (turn_at n t w)
        turns n t w a =
            late_map (λ p. changed_if (eqb p.desk.host n) (after_turn t) p) (λ p. changed_host (eqb p.desk.host n) (after_turn t) p (λ q. refl))
            (λ p. grind arith) w.ports x ∙ a

        beside : (w v : Work) → v.core.node ≡ w.core.node → v.ports ≡ w.ports → v.entries ≡ w.entries → Of w → Of v
        beside w v core ports entries a = ap (λ ps. late_of ps x) ports ∙ a

  -- ### What came

  -- an end that stood there as the step began, and its phase now
  pub record CameUp (x : ℕ) (phase : LinkState) : Type 0 where
    pub start : Port
    pub here : port_at (starts r.desks) x ≡ Some start
    pub up : is_up phase ≡ true

  module _ (number : r.core.node ≡ 0) (noticed : (x : ℕ) → OnFirst IsNoticedUp (port_at (starts r.desks) x)) where
    input_up : (h : ℕ) (i : LinkInput) → IsComing i → (x : ℕ) (p : Port) → port_at (steps (AtEnd h i) begun).ports x ≡ Some p
        → is_some p.desk.notice ≡ true → CameUp x (cond (eqb x h) (after_input (near_ends x).side i) (near_ends x).side).shdlc.phase
    input_up h i coming x p here some = go (port_at (starts r.desks) x) refl where
      come : Port → Port
      come q = has_come q (input_at (AtEnd h i) q)

      up : up_at (option_map come (port_at (starts r.desks) x)) ≡ true
      up = sym (ap up_at (at_all (starts r.desks) x come (λ q. come_host q (input_at (AtEnd h i) q))))
          ∙ came_up number noticed (AtEnd h i) coming x p here some

      go : (o : Option Port) → port_at (starts r.desks) x ≡ o
          → CameUp x (cond (eqb x h) (after_input (near_ends x).side i) (near_ends x).side).shdlc.phase
      go None e = absurd (true≢false (sym up ∙ ap (λ o. up_at (option_map come o)) e))
      go (Some q) e = record {
        start = q;
        here = e;
        up =
            let side : (come q).side ≡ cond (eqb x h) (after_input (near_ends x).side i) (near_ends x).side =
            (grind arith) ∙ ap (λ n. cond (eqb n h) (after_input q.side i) q.side) (at_host (starts r.desks) x q e)
            ∙ ap (λ s. cond (eqb x h) (after_input s i) s) (is_start r.desks x q e).side in
            sym (ap (λ (s : LinkEnd). is_up s.shdlc.phase) side) ∙ (sym (ap (λ o. up_at (option_map come o)) e) ∙ up);
      }

    -- ### A tick

    abbrev come_tick : Port → Port
    come_tick q = has_come q (Some Tick)

    ticked_ports : (x : ℕ) → port_at (map reset_late (map with_older (map come_tick (starts r.desks)))) x
        ≡ option_map reset_late (option_map with_older (option_map come_tick (port_at (starts r.desks) x)))
    ticked_ports x =
        at_all (map with_older (map come_tick (starts r.desks))) x reset_late late_host
        ∙ ap (option_map reset_late) (at_all (map come_tick (starts r.desks)) x with_older (λ q. refl)
        ∙ ap (option_map with_older) (at_all (starts r.desks) x come_tick (λ q. refl)))

    -- whether the notice of an end is late, by the end as the step began
    abbrev LateOf : Option Port → Bool
    LateOf o = option_map_or (λ (q : Port). q.late) (option_map reset_late (option_map with_older (option_map come_tick o))) false

    late_at : (x : ℕ) → is_late_at (steps TimePasses begun) x ≡ LateOf (port_at (starts r.desks) x)
    late_at x = late_is number noticed TimePasses tt x ∙ ap (λ o. option_map_or (λ (q : Port). q.late) o false) (ticked_ports x)

    -- a notice that is late stood there, and its session went on
    has_notice : (q : Port) (o : Option Notice) → q.desk.notice ≡ o
        → option_map_or (λ (n : Notice). nat_le 100 n.age) (with_older q).desk.notice false ≡ true → is_some o ≡ true
    has_notice q o is e = grind arith

    both : (a b : Bool) → (a && not b) ≡ true → (a ≡ true) × (b ≡ false)
    both a b e = grind arith

    -- an end whose notice is late was up as the step began
    was_up : (x : ℕ) → is_late_at (steps TimePasses begun) x ≡ true → (near_ends x).side.shdlc.phase ≡ Up
    was_up x is = by_option (port_at (starts r.desks) x)
        (λ e. absurd (true≢false (sym is ∙ (late_at x ∙ ap LateOf e))))
        (λ q e. ap (λ (s : LinkEnd). s.shdlc.phase) (sym (is_start r.desks x q e).side) ∙ by_test (is_late (with_older (come_tick q)))
        (λ z. grind arith)
        (λ off. let was : q.late ≡ true = rw off at (sym (late_at x ∙ ap LateOf e) ∙ is) in
        absurd (true≢false (sym was ∙ (is_start r.desks x q e).late))))

    pub tick_up : (x : ℕ) (p : Port) (l : Link) (ts : List Turn) → port_at (steps TimePasses begun).ports x ≡ Some p
        → is_some p.desk.notice ≡ true → l.controller.side ≡ (near_ends x).side
        → CameUp x (ticked_so l (is_late_at (steps TimePasses begun) x) ts GoesOut).controller.side.shdlc.phase
    tick_up x p l ts here some side = go (port_at (starts r.desks) x) refl where
      up : up_at (option_map reset_late (option_map with_older (option_map come_tick (port_at (starts r.desks) x)))) ≡ true
      up = sym (ap up_at (ticked_ports x)) ∙ came_up number noticed TimePasses tt x p here some

      Goal : Bool → Type 0
      Goal b = is_up (ticked_so l b ts GoesOut).controller.side.shdlc.phase ≡ true

      in_time : (q : Port) → q.side ≡ l.controller.side → is_up (after_input q.side Tick).shdlc.phase ≡ true → Goal false
      in_time q same is = ap is_up (input_phase l Tick ts) ∙ (ap (λ (e : LinkEnd). is_up (after_input e Tick).shdlc.phase) (sym same) ∙ is)

      reset_is : l.controller.side.shdlc.phase ≡ Up → is_up (after_input l.controller.side (Reset None)).shdlc.phase ≡ true → Goal true
      reset_is ups is =
          let not_yet : is_waiting l.controller.side.shdlc ≡ false = not_waiting l.controller.side.shdlc ups in
          let resets : ticked_so l true ts GoesOut ≡ has_input l (Reset None) ts GoesOut = grind arith in
          ap (λ (m : Link). is_up m.controller.side.shdlc.phase) resets ∙ (ap is_up (input_phase l (Reset None) ts) ∙ is)

      too_late : (q : Port) → q.side ≡ l.controller.side → q.side.shdlc.phase ≡ Up → (after_input q.side Tick).shdlc.phase ≡ Up
          → is_up (after_input (after_input q.side Tick) (Reset None)).shdlc.phase ≡ true → Goal true
      too_late q same was is after = by_test (is_open q.side.role)
          (λ opened. grind arith)
          (λ closed. reset_is (ap (λ (e : LinkEnd). e.shdlc.phase) (sym same) ∙ was)
          (grind arith))

      go : (o : Option Port) → port_at (starts r.desks) x ≡ o
          → CameUp x (ticked_so l (is_late_at (steps TimePasses begun) x) ts GoesOut).controller.side.shdlc.phase
      go None e = absurd (true≢false (sym up ∙ ap (λ o. up_at (option_map reset_late (option_map with_older (option_map come_tick o)))) e))
      go (Some q) e = record {
        start = q;
        here = e;
        up = subst Goal (sym (late_at x ∙ ap LateOf e)) (by_test (is_late (with_older (come_tick q)))
            (λ is. let parts = both _ old.ended is in
            let was : q.side.shdlc.phase ≡ Up = grind arith in
            let after : is_up (after_input (after_input q.side Tick) (Reset None)).shdlc.phase ≡ true = rw is at up_q in
            rw is (too_late q same was (stays_up q.side Tick tt was parts.1) after))
            (λ off. let after : is_up (after_input q.side Tick).shdlc.phase ≡ true = rw off at up_q in
            rw off (subst Goal (sym (is_start r.desks x q e).late) (in_time q same after))));
      } where
        old : Port
        old = with_older (come_tick q)

        same : q.side ≡ l.controller.side
        same = (is_start r.desks x q e).side ∙ sym side

        up_q : is_up (reset_late old).side.shdlc.phase ≡ true
        up_q = sym (ap (λ o. up_at (option_map reset_late (option_map with_older (option_map come_tick o)))) e) ∙ up

-- ## Over whatever happens in a world a controller has notices that aren't answered only at ends that are up

-- ### Ends

same_sides : (g h : ℕ → NumberedEnd) → ((n : ℕ) → (h n).side ≡ (g n).side) → (desks : List Desk) (x : ℕ) → OnFirst IsNoticedUp (port_at (ports_for g desks) x)
    → OnFirst IsNoticedUp (port_at (ports_for h desks) x)
same_sides g h same [] x a = tt
same_sides g h same (d ∷ desks) x a = by_test (eqb d.host x)
    (λ is. grind arith)
    (λ off. rw off (same_sides g h same desks x (rw off at a)))

-- where the links of a controller have the same ends, it has its notices as before
kept : (v w : List Site) (o : Option Running) → ((n : ℕ) → (link_to v n).controller.side ≡ (link_to w n).controller.side) → IfNoticedUp w o → IfNoticedUp v o
kept v w None same a = tt
kept v w (Some r) same a = λ x. same_sides (λ n. (link_to w n).controller) (λ n. (link_to v n).controller) same r.desks x (a x)

-- a controller that boots has none
none_noticed : (near_ends : ℕ → NumberedEnd) (hosts : List ℕ) (x : ℕ) → OnFirst IsNoticedUp (port_at (ports_for near_ends (map new_desk hosts)) x)
none_noticed near_ends [] x = tt
none_noticed near_ends (h ∷ hosts) x = by_test (eqb h x)
    (λ is. grind arith)
    (λ off. rw off (none_noticed near_ends hosts x))

-- ### Links

pub side_map : (f : Site → Site) → ((s : Site) → (f s).host ≡ s.host) → ((s : Site) → (f s).link.controller.side ≡ s.link.controller.side)
    → (sites : List Site) (n : ℕ) → (link_to (map f sites) n).controller.side ≡ (link_to sites n).controller.side
side_map f host side [] n = refl
side_map f host side (s ∷ sites) n = by_test (eqb s.host n)
    (λ is. let here : eqb (f s).host n ≡ true = ap (λ k. eqb k n) (host s) ∙ is in rw (is, here) (side s))
    (λ off. let there : eqb (f s).host n ≡ false = ap (λ k. eqb k n) (host s) ∙ off in rw (off, there) (side_map f host side sites n))

pub side_with : (h : ℕ) (f : Site → Site) → ((s : Site) → (f s).host ≡ s.host) → ((s : Site) → (f s).link.controller.side ≡ s.link.controller.side)
    → (sites : List Site) (n : ℕ) → (link_to (with_site h f sites) n).controller.side ≡ (link_to sites n).controller.side
side_with h f host side sites n =
    side_map (λ (s : Site). changed_if (eqb s.host h) f s) (λ s. by_test (eqb s.host h) (λ q. rw q (host s)) (λ q. rw q refl)) (λ s. grind arith) sites n

-- what happens at the host's end leaves the controller's
pub far_side : (l : Link) (e : EndEvent) → (happens l (AtHost e)).controller.side ≡ l.controller.side
far_side l e = ap (λ (h : NumberedEnd). h.side) (here_host (exchanged l) e)

far_tick : (l : Link) (ts : List Turn) (ending : Ending) → (exchanged (ticks_at_controller (exchanged l) ts ending)).controller.side ≡ l.controller.side
far_tick l ts ending = ap (λ (h : NumberedEnd). h.side) (tick_host (exchanged l) ts ending)

pub lost_side : (e : End) (why : Loss) (l : Link) → (happens l (at e (Lose why))).controller.side ≡ l.controller.side
lost_side e why l = by_test e.at_host (λ q. rw q refl) (λ q. rw q refl)

-- ### Steps of the controller

desks_map : (g : Desk → Port) (ports : List Port) → map g (map (λ (p : Port). p.desk) ports) ≡ map (λ (p : Port). g p.desk) ports
desks_map g [] = refl
desks_map g (p ∷ ports) = ap (λ l. g p.desk ∷ l) (desks_map g ports)

-- the controller runs on so after a step whose ends with notices are up
runs_up : (sites : List Site) (k : Work)
    → ((x : ℕ) (p : Port) → k.cut ≡ false → port_at k.ports x ≡ Some p → is_some p.desk.notice ≡ true → (link_to sites x).controller.side.shdlc.phase ≡ Up)
    → IfNoticedUp sites (runs_on k)
runs_up sites k ups = by_test k.cut
    (λ z. rw z tt)
    (λ z. rw z (λ x. subst (OnFirst IsNoticedUp)
    (sym (ap (λ l. port_at l x) (desks_map g k.ports) ∙ at_all k.ports x (λ (p : Port). g p.desk) (λ q. refl))) (by_option (port_at k.ports x)
    (λ e. rw e tt)
    (λ p e. rw e (λ some. ap (λ n. (link_to sites n).controller.side.shdlc.phase) (at_host k.ports x p e) ∙ ups x p z e some))))) where
      g : Desk → Port
      g d = port_for (link_to sites d.host).controller d

-- a controller has ends only on links with hosts
record HasSite (sites : List Site) (x : ℕ) : Type 0 where
  pub site : Site
  pub there : site_at sites x ≡ Some site

site_there : (near_ends : ℕ → NumberedEnd) (desks : List Desk) (sites : List Site) (x : ℕ) (q : Port) → map (λ (d : Desk). d.host) desks ≡ hosts_in sites
    → port_at (ports_for near_ends desks) x ≡ Some q → HasSite sites x
site_there near_ends [] sites x q e here = absurd (cc here)
site_there near_ends (d ∷ desks) [] x q e here = absurd (cc e)
site_there near_ends (d ∷ desks) (s ∷ sites) x q e here = by_test (eqb s.host x)
    (λ is. record { site = s; there = rw is refl })
    (λ off. let found_it : HasSite sites x = site_there near_ends desks sites x q others (rw (ap (λ n. eqb n x) one ∙ off) at here) in
    record { site = found_it.site; there = rw off found_it.there }) where
      one : d.host ≡ s.host
      one = cc

      others : map (λ (c : Desk). c.host) desks ≡ hosts_in sites
      others = cc

pub ending_is : (k : Work) → k.cut ≡ false → ending_of k ≡ GoesOut
ending_is k z = rw z refl

step_phase : (l : Link) (b : Bool) (comes : Comes) (i : LinkInput) (ts : List Turn) → (b ≡ true → input_of l comes ≡ Some i)
    → (steps_at_controller l (cond b comes NoInput) ts GoesOut).controller.side.shdlc.phase
    ≡ (cond b (after_input l.controller.side i) l.controller.side).shdlc.phase
step_phase l true comes i ts input = stepped_phase l comes ts i (input refl)
step_phase l false comes i ts input = sent_phase l.controller.side ts

module _ (w : NodeWorld) (r : Running) (runs : w.controller ≡ Some r) (has : HasEnds 0 (hosts_in w.sites) r) (ups : IfNoticedUp w.sites (Some r)) where
  near_step : (h : ℕ) (comes : Comes) (i : LinkInput) → input_of (link_to w.sites h) comes ≡ Some i
      → NoticesAreUp (after_controller w h comes (controller_work w r h comes (steps (AtEnd h i)))).0
  near_step h comes i input = runs_up (map (link_after_controller h comes k) w.sites) k one where
    near_ends : ℕ → NumberedEnd
    near_ends n = near_end_in (link_to w.sites n) (comes_to h comes n)

    es : List Entry
    es = entries_for h (arrival Controller (link_to w.sites h) comes)

    k : Work
    k = controller_work w r h comes (steps (AtEnd h i))

    noticed : (x : ℕ) → OnFirst IsNoticedUp (port_at (ports_for near_ends r.desks) x)
    noticed x = same_sides (λ n. (link_to w.sites n).controller) near_ends (λ n. near_end_side (link_to w.sites n) (comes_to h comes n)) r.desks x (ups x)

    one : (x : ℕ) (p : Port) → k.cut ≡ false → port_at k.ports x ≡ Some p → is_some p.desk.notice ≡ true
        → (link_to (map (link_after_controller h comes k) w.sites) x).controller.side.shdlc.phase ≡ Up
    one x p z here some = by_site (site_there near_ends r.desks w.sites x came.start has.ends came.here) where
      came : CameUp r w.memory.plan near_ends es x (cond (eqb x h) (after_input (near_ends x).side i) (near_ends x).side).shdlc.phase
      came = input_up r w.memory.plan near_ends es has.number noticed h i (comes_outside (link_to w.sites h) comes i input) x p here some

      by_site : HasSite w.sites x → (link_to (map (link_after_controller h comes k) w.sites) x).controller.side.shdlc.phase ≡ Up
      by_site found_it =
          ap (λ (l : Link). l.controller.side.shdlc.phase) (link_is (map (link_after_controller h comes k) w.sites) x (link_after_controller h comes k s)
          (site_map (link_after_controller h comes k) (λ y. refl) w.sites x s found_it.there))
          ∙ ap (λ e. (steps_at_controller s.link (comes_to h comes s.host) ts e).controller.side.shdlc.phase) (ending_is k z)
          ∙ step_phase s.link (eqb s.host h) comes i ts
          (λ is. ap (λ l. input_of l comes) (sym (ap (link_to w.sites) (sym (eqb-true s.host h is) ∙ number) ∙ link_is w.sites x s found_it.there)) ∙ input)
          ∙ ap (λ n. (cond (eqb n h) (after_input s.link.controller.side i) s.link.controller.side).shdlc.phase) number
          ∙ ap (λ e. (cond (eqb x h) (after_input e i) e).shdlc.phase) (sym side)
          ∙ up_is (cond (eqb x h) (after_input (near_ends x).side i) (near_ends x).side).shdlc.phase came.up
        where
          s : Site
          s = found_it.site

          ts : List Turn
          ts = turns_at k s.host

          number : s.host ≡ x
          number = site_host w.sites x s found_it.there

          side : (near_ends x).side ≡ s.link.controller.side
          side = near_end_side (link_to w.sites x) (comes_to h comes x) ∙ ap (λ (l : Link). l.controller.side) (link_is w.sites x s found_it.there)

  near_tick : NoticesAreUp (record {
    memory = after_planned (steps TimePasses (work_of r w.memory.plan (λ h. (link_to w.sites h).controller) [])).writes w.memory;
    controller = runs_on (steps TimePasses (work_of r w.memory.plan (λ h. (link_to w.sites h).controller) []));
    sites = map (λ (s : Site). record s {
      link = ticked_so s.link (is_late_at (steps TimePasses (work_of r w.memory.plan (λ h. (link_to w.sites h).controller) [])) s.host)
          (turns_at (steps TimePasses (work_of r w.memory.plan (λ h. (link_to w.sites h).controller) [])) s.host)
          (ending_of (steps TimePasses (work_of r w.memory.plan (λ h. (link_to w.sites h).controller) [])));
    }) w.sites;
  })
  near_tick = runs_up (map f w.sites) k one where
    near_ends : ℕ → NumberedEnd
    near_ends n = (link_to w.sites n).controller

    k : Work
    k = steps TimePasses (work_of r w.memory.plan (λ h. (link_to w.sites h).controller) [])

    f : Site → Site
    f s = record s { link = ticked_so s.link (is_late_at k s.host) (turns_at k s.host) (ending_of k) }

    phase : Link → ℕ → Ending → LinkState
    phase l n e = (ticked_so l (is_late_at k n) (turns_at k n) e).controller.side.shdlc.phase

    one : (x : ℕ) (p : Port) → k.cut ≡ false → port_at k.ports x ≡ Some p → is_some p.desk.notice ≡ true
        → (link_to (map f w.sites) x).controller.side.shdlc.phase ≡ Up
    one x p z here some = by_site (site_there near_ends r.desks w.sites x came.start has.ends came.here) where
      came : CameUp r w.memory.plan near_ends [] x (phase (link_to w.sites x) x GoesOut)
      came = tick_up r w.memory.plan near_ends [] has.number ups x p (link_to w.sites x) (turns_at k x) here some refl

      by_site : HasSite w.sites x → (link_to (map f w.sites) x).controller.side.shdlc.phase ≡ Up
      by_site found_it =
          ap (λ (l : Link). l.controller.side.shdlc.phase) (link_is (map f w.sites) x (f found_it.site)
          (site_map f (λ y. refl) w.sites x found_it.site found_it.there))
          ∙ ap (phase found_it.site.link found_it.site.host) (ending_is k z)
          ∙ ap (λ n. phase found_it.site.link n GoesOut) (site_host w.sites x found_it.site found_it.there)
          ∙ ap (λ l. phase l x GoesOut) (sym (link_is w.sites x found_it.site found_it.there))
          ∙ up_is (phase (link_to w.sites x) x GoesOut) came.up

-- ### Events

controller_up : (w : NodeWorld) (h : ℕ) (comes : Comes) (i : LinkInput) → IsOrderly w → NoticesAreUp w → input_of (link_to w.sites h) comes ≡ Some i
    → NoticesAreUp (controller_does w h comes (steps (AtEnd h i))).0
controller_up w h comes i orderly a input =
    by_controller (λ p. NoticesAreUp p.0) w h comes (steps (AtEnd h i)) a
    (λ r e. near_step w r e (subst (IfItRuns 0 (hosts_in w.sites)) e orderly.controller) (subst (IfNoticedUp w.sites) e a) h comes i input)

host_up : (w : NodeWorld) (h : ℕ) (comes : Comes) (f : Work → Work) → NoticesAreUp w → NoticesAreUp (host_does w h comes f).0
host_up w h comes f a =
    by_host (λ p. NoticesAreUp p.0) w h comes f a
    (λ x r here e. let k : Work = host_work x r comes f in
    kept (with_site h (after_host comes k) w.sites) w.sites w.controller
    (side_with h (after_host comes k) (λ s. refl) (λ s. far_side s.link (Step comes (turns_at k s.host) (ending_of k))) w.sites) a)

comes_up : (w : NodeWorld) (e : End) (comes : Comes) → IsOrderly w → NoticesAreUp w → NoticesAreUp (comes_at w e comes).0
comes_up w e comes orderly a =
    by_coming (λ p. NoticesAreUp p.0) w e comes a (λ i at q. host_up w e.link comes (steps (AtEnd e.link i)) a)
    (λ i at q. controller_up w e.link comes i orderly a q)

memory_up : (n : ℕ) (m : Memory) (w : NodeWorld) → NoticesAreUp w → NoticesAreUp (with_memory n m w)
memory_up n m w a =
    by_memory NoticesAreUp n w m (λ _. a)
    (λ _. kept (with_site n (λ (s : Site). record s { memory = m }) w.sites) w.sites w.controller
    (side_with n (λ (s : Site). record s { memory = m }) (λ s. refl) (λ s. refl) w.sites) a)

cut_up : (n : ℕ) (w : NodeWorld) → NoticesAreUp w → NoticesAreUp (loses_power_at n w)
cut_up n w a =
    by_power NoticesAreUp n w (λ _. tt)
    (λ _. kept (with_site n host_cut w.sites) w.sites w.controller
    (side_with n host_cut (λ s. refl) (λ s. far_side s.link (Step NoInput [] CutOff)) w.sites) a)

boots_up : (n : ℕ) (w : NodeWorld) → NoticesAreUp w → NoticesAreUp (boots w n).0
boots_up n w a =
    let v : NodeWorld = boot_written w n in
    let f : Site → Site = λ s. record s { node = Some (boot_found w n) } in
    let written : NoticesAreUp v = memory_up n (after_planned (boot_writes (memory_at w n).content) (memory_at w n)) w a in
    by_boot (λ (p : NodeWorld × List Entry). NoticesAreUp p.0) w n (cut_up n v written)
    (by_running NoticesAreUp n v (boot_found w n) (λ _ x. none_noticed (λ h. (link_to v.sites h).controller) (links_of w n) x)
    (λ _. kept (with_site n f v.sites) v.sites v.controller (side_with n f (λ s. refl) (λ s. refl) v.sites) written))

-- ### Losses

-- an end whose errors were counted is as it was
counted : (near_ends : ℕ → NumberedEnd) (h : ℕ) (desks : List Desk) (x : ℕ) → OnFirst IsNoticedUp (port_at (ports_for near_ends desks) x)
    → OnFirst IsNoticedUp (port_at (ports_for near_ends (with_error h desks)) x)
counted near_ends h [] x a = tt
counted near_ends h (d ∷ desks) x a = by_error (eqb d.host h) (cases_Bool (eqb d.host x)) (counted near_ends h desks x) where
  more : Desk → Desk
  more c = record c { errors = min 65535 (c.errors + 1) }

  by_error : (b : Bool) → (eqb d.host x ≡ true) ⊎ (eqb d.host x ≡ false)
      → (OnFirst IsNoticedUp (port_at (ports_for near_ends desks) x) → OnFirst IsNoticedUp (port_at (ports_for near_ends (with_error h desks)) x))
      → OnFirst IsNoticedUp (port_at (port_for (near_ends (changed_if b more d).host) (changed_if b more d) ∷ ports_for near_ends (with_error h desks)) x)
  by_error true (inl is) later = let c : IsNoticedUp (port_for (near_ends d.host) (more d)) = rw is at a in rw is c
  by_error true (inr off) later = rw off (later (rw off at a))
  by_error false (inl is) later = let c : IsNoticedUp (port_for (near_ends d.host) d) = rw is at a in rw is c
  by_error false (inr off) later = rw off (later (rw off at a))

counts_up : (sites : List Site) (why : Loss) (h : ℕ) (o : Option Running) → IfNoticedUp sites o → IfNoticedUp sites (counts why h o)
counts_up sites (Broken fault) h None a = tt
counts_up sites (Broken fault) h (Some r) a = λ x. counted (λ n. (link_to sites n).controller) h r.desks x (a x)
counts_up sites _ h o a = a

lost_up : (w : NodeWorld) (e : End) (why : Loss) → NoticesAreUp w → NoticesAreUp (frame_lost w e why).0
lost_up w e why a =
    by_loss (λ p. NoticesAreUp p.0) w e why
    (λ b. kept (with_site e.link (λ (s : Site). record (site_lost e why s) { node = counts why e.link s.node }) w.sites) w.sites w.controller
    (side_with e.link (λ (s : Site). record (site_lost e why s) { node = counts why e.link s.node }) (λ s. refl) (λ s. lost_side e why s.link) w.sites) a)
    (λ b. kept (with_site e.link (site_lost e why) w.sites) w.sites (counts why e.link w.controller)
    (side_with e.link (site_lost e why) (λ s. refl) (λ s. lost_side e why s.link) w.sites) (counts_up w.sites why e.link w.controller a))

-- ### Ticks

controller_tick_up : (w : NodeWorld) → IsOrderly w → NoticesAreUp w → NoticesAreUp (controller_ticks w).0
controller_tick_up w orderly a =
    by_controller_tick (λ p. NoticesAreUp p.0) w (λ e. subst (IfNoticedUp (map site_unticked w.sites)) (sym e) tt)
    (λ r e. near_tick w r e (subst (IfItRuns 0 (hosts_in w.sites)) e orderly.controller) (subst (IfNoticedUp w.sites) e a))

pub host_tick_side : (s : Site) → (host_ticks s).0.link.controller.side ≡ s.link.controller.side
host_tick_side s = by_option s.node (λ e. rw e (far_tick s.link [] GoesOut)) (λ r e. rw e (far_tick s.link (turns_at (k r) s.host) (ending_of (k r)))) where
  k : Running → Work
  k r = steps TimePasses (work_of r s.memory.plan (λ n. s.link.host) [])

pub hosts_tick_side : (sites : List Site) (n : ℕ) → (link_to (hosts_tick sites).0 n).controller.side ≡ (link_to sites n).controller.side
hosts_tick_side [] n = refl
hosts_tick_side (s ∷ sites) n = by_test (eqb s.host n)
    (λ is. let here : eqb (host_ticks s).0.host n ≡ true = ap (λ k. eqb k n) (ticked_number s) ∙ is in rw (is, here) (host_tick_side s))
    (λ off. let there : eqb (host_ticks s).0.host n ≡ false = ap (λ k. eqb k n) (ticked_number s) ∙ off in rw (off, there) (hosts_tick_side sites n))

tick_goes_up : (w : NodeWorld) → IsOrderly w → NoticesAreUp w → NoticesAreUp (world_ticks w).0
tick_goes_up w orderly a =
    kept (hosts_tick near.sites).0 near.sites near.controller (hosts_tick_side near.sites) (controller_tick_up old (aged_orderly w orderly) old_up)
  where
    old : NodeWorld
    old = (all_aged w).0

    near : NodeWorld
    near = (controller_ticks old).0

    old_up : NoticesAreUp old
    old_up = kept (map (λ (s : Site). record s { link = aged s.link }) w.sites) w.sites w.controller
        (side_map (λ (s : Site). record s { link = aged s.link }) (λ s. refl) (λ s. refl) w.sites) a

pub event_up : (w : NodeWorld) (c : Happening) → IsOrderly w → NoticesAreUp w → NoticesAreUp (world_step w c).0
event_up w (Boots n) o a = boots_up n w a
event_up w (IsCut n) o a = cut_up n w a
event_up w (Gives e m) o a = host_up w e.link NoInput (begins_with e.link (sending e.link m)) a
event_up w (Inits e identity pipes) o a = host_up w e.link NoInput (begins_with e.link (beginning identity pipes)) a
event_up w (Takes e) o a = comes_up w e NextFrame o a
event_up w (Loses e why) o a = lost_up w e why a
event_up w Ticks o a = tick_goes_up w o a
event_up w (Resets e window) o a = comes_up w e (AsksReset window) o a
event_up w (Activates h sync power) o a =
    comes_up (comes_at w (end_c h) (Starts power)).0 (end_h h) (Starts sync) (comes_goes w (end_c h) (Starts power) o).orderly
    (comes_up w (end_c h) (Starts power) o a)
event_up w (Arms n plan) o a = memory_up n (record (memory_at w n) { plan = Some plan }) w a

-- ### Lines

-- a world that is orderly, and whose notices are up
abbrev IsSo : NodeWorld → Type 0
IsSo w = IsOrderly w × NoticesAreUp w

pub numbers : (hosts : List ℕ) → AllByRecursion IsHost hosts → AllByRecursion (λ h. eqb h 0 ≡ false) hosts
numbers hosts a = all_so IsHost (λ h. eqb h 0 ≡ false) (λ h b. ne_eqb h 0 (λ z. omega (arith, z, b.0))) hosts a

pub lines_up : (hosts : List ℕ) (lines : List Line) → AreHosts hosts → NoticesAreUp (world_after (new_world hosts) lines)
lines_up hosts lines are =
    (lines_last (λ t w. IsSo w) Any AnyLine (λ t w c a may. (step_orderly w c a.0, event_up w c a.0 a.1)) (λ w l is none. all_any w (happenings w l)) lines []
    (new_world hosts) (new_orderly hosts are.different (numbers hosts are.all), tt) (all_lines lines)).1

-- ### Late notices

-- an end whose notice is late is up, so it is reset in place of its tick
pub late_resets : (w : NodeWorld) (r : Running) (h : ℕ) (turns : List Turn) (ending : Ending) → IsOrderly w → NoticesAreUp w → w.controller ≡ Some r
    → is_late_at (steps TimePasses (work_of r w.memory.plan (λ n. (link_to w.sites n).controller) [])) h ≡ true
    → ticked_so (link_to w.sites h) true turns ending ≡ has_input (link_to w.sites h) (Reset None) turns ending
late_resets w r h turns ending orderly a runs late =
    ap (λ b. cond (not b) (has_input l (Reset None) turns ending) (ticks_at_controller l turns ending)) (not_waiting l.controller.side.shdlc up)
  where
    l : Link
    l = link_to w.sites h

    has : HasEnds 0 (hosts_in w.sites) r
    has = subst (IfItRuns 0 (hosts_in w.sites)) runs orderly.controller

    up : l.controller.side.shdlc.phase ≡ Up
    up = was_up r w.memory.plan (λ n. (link_to w.sites n).controller) [] has.number (subst (IfNoticedUp w.sites) runs a) h late
