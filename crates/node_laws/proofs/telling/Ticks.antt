-- What a node notes of a link in its tick, of frames that come, go out, are lost and grow old, and of a reset there.
use Rattle.node_laws.proofs.Words.{AllByRecursion, AreDifferent, Asked, AsksReset, Bool, Cause, Comes, Control, Core, Cut, CutOff, Down, Emit, EndState, Ending}
use Rattle.node_laws.proofs.Words.{Entry, GoesOut, Link, LinkEnd, LinkInput, List, Loss, Lost, NoInput, None, Noted, OnWire, Option, Port, Reset, Some, Tick}
use Rattle.node_laws.proofs.Words.{TimePasses, TooMany, TooOld, Took, Up, Waiting, Work, [], after_input, after_sessions, aged_entries, all_append, all_come}
use Rattle.node_laws.proofs.Words.{all_owed, ap, append-nil, arith, arrival, by_option, by_test, ended_by, ending_entries, entries_for, eqb-true, false}
use Rattle.node_laws.proofs.Words.{first_lost, flat_map, forgets, forgotten, frames_out, has_come, in_front, is_due, is_late, is_open, is_some, map, nat_le}
use Rattle.node_laws.proofs.Words.{nat_lt, no_session, number_of, of_link, own_side, port_at, put, put_entries, puts_entries, refl, report, reset_late, steps}
use Rattle.node_laws.proofs.Words.{subst, sym, synced, tick_answer, ticked, times_out, told, told_at, told_late, told_of, true, turn_entries, whole_acked}
use Rattle.node_laws.proofs.Words.{whole_among, with_older, without_notice, ℕ, ◌++◌, ◌+◌, ◌-◌, ◌==◌, ◌∙◌, ◌∷◌, ◌≡◌}
use Rattle.link_laws.specs.entries.Entries.{End as Side}
use Rattle.shdlc_core.specs.declared.answers.Due.TheVariants.{Rset as Rset_due}
use Rattle.node_laws.proofs.kept.Doing.{hosts_map}
use Rattle.node_laws.proofs.steps.StepWalks.{forgets_host, late_host, without_host}
use Rattle.node_laws.proofs.telling.Accounts.{SameEnd, all_owed_mute, all_synced_mute, at_host, beside, desk, forgotten_mute, note, of-append, of_other, rest}
use Rattle.node_laws.proofs.telling.Accounts.{turns}
use Rattle.node_laws.proofs.telling.Steps.{Away, Goes, GoesLate, Opening, at_map, away_beside, away_desk, away_note, away_turns, before, forgets_same, none_map}
use Rattle.node_laws.proofs.telling.Steps.{only, sessions_side, without_same}

-- ## What holds of all that is noted of frames and of power holds as frames come, go out, are lost and grow old

module _ (P : Noted → Type 0) where
  abbrev All : List Noted → Type 0
  All notes = AllByRecursion P notes

  pub lost_all : ((who : Side) (c : Control) (why : Loss) → P (Lost who c why)) → (who : Side) (why : Loss) (xs : List OnWire) → All (first_lost who why xs)
  lost_all lost who why xs = grind arith

  module _ (took : (who : Side) (c : Control) → P (Took who c)) where
    pub arrival_all : (who : Side) (l : Link) (comes : Comes) → All (arrival who l comes)
    arrival_all who l comes = grind arith

  module _ (old : (who : Side) (c : Control) → P (Lost who c TooOld)) where
    aged_all : (who : Side) (xs : List OnWire) → All (aged_entries who xs)
    aged_all who [] = tt
    aged_all who (x ∷ xs) = by_test (nat_lt x.age 4) (λ q. rw q (aged_all who xs)) (λ q. rw q (old who x.frame, aged_all who xs))

    -- on both wires of a link
    pub wires_all : (one other : Side) (xs ys : List OnWire) → All (aged_entries one xs ++ aged_entries other ys)
    wires_all one other xs ys = all_append P (aged_entries one xs) (aged_entries other ys) (aged_all one xs) (aged_all other ys)

  module _ (emit : (who : Side) (c : Control) → P (Emit who c)) (full : (who : Side) (c : Control) → P (Lost who c TooMany))
      (cut : (who : Side) → P (Cut who)) where
    puts_all : (who : Side) (l : Link) (cs : List Control) → All (puts_entries who l cs)
    puts_all who l [] = tt
    puts_all who l (c ∷ cs) = all_append P (put_entries who l c) (puts_entries who (put l c) cs) (emit who c, grind arith) (puts_all who (put l c) cs)

    pub ending_all : (who : Side) (l : Link) (e : LinkEnd) (ending : Ending) → All (ending_entries who l e ending)
    ending_all who l e GoesOut = puts_all who l (frames_out e)
    ending_all who l e CutOff = (cut who, tt)

-- ## An end that is up and has a tick in which its session goes on, and is reset then
-- What that does and tells is what a reset in place of the tick does and tells.

-- an end that is active and up, and whose session doesn't end by the next tick
pub record IsLasting (e : LinkEnd) : Type 0 where
  pub active : is_open e.role ≡ true
  pub up : e.shdlc.phase ≡ Up
  pub goes_on : is_some (ended_by e Tick) ≡ false

-- what a tick leaves of an end that is up
record IsLeft (s t : EndState) : Type 0 where
  phase : t.phase ≡ Up
  window : t.own_window ≡ s.own_window
  ready : t.ready ≡ s.ready
  acked : t.session.acked ≡ s.session.acked

-- the end of a link that was up and waits after a reset with its own window
abbrev waits_so : LinkEnd → ℕ → Bool → LinkEnd
waits_so e w ready = record e {
  shdlc = record {
    phase = Waiting;
    own_window = w;
    ready = ready;
    due = Rset_due ∷ [];
    timer = 0;
    tries = 1;
    peer_window = 4;
    session = no_session;
  };
  sent = [];
  acts = map in_front e.acts;
}

reset_is : (e : LinkEnd) → is_open e.role ≡ true → e.shdlc.phase ≡ Up → after_input e (Reset None) ≡ waits_so e e.shdlc.own_window e.shdlc.ready
reset_is e on up = rw (on, up) refl

none_left : (n : ℕ) → 0 - n ≡ 0
none_left n = omega arith

-- the session of an end that is up ends by a reset, and no more is told
reset_tells : (who : Side) (n : ℕ) (e : LinkEnd) → is_open e.role ≡ true → e.shdlc.phase ≡ Up
    → told who n (report e (Reset None)) (whole_acked (after_input e (Reset None))) ≡ Down who Asked ∷ []
reset_tells who n e on up = grind arith

module _ (e : LinkEnd) (a : IsLasting e) where
  answer : is_some (tick_answer e.shdlc).ended ≡ false
  answer = let on = a.active in rw on at a.goes_on

  is_left : IsLeft e.shdlc (ticked e.shdlc)
  is_left = grind arith

  tick_is : after_input e Tick ≡ record e { shdlc = ticked e.shdlc }
  tick_is = let on = a.active in let lasts = answer in rw (on, lasts) refl

  pub reset_same : after_input (after_input e Tick) (Reset None) ≡ after_input e (Reset None)
  reset_same = grind arith

  -- ### What is told

  none_of : (o : Option Cause) → is_some o ≡ false → o ≡ None
  none_of o q = grind arith

  acked_is : whole_acked (after_input e Tick) ≡ whole_acked e
  acked_is = ap whole_acked tick_is ∙ ap (λ n. whole_among e.sent n) is_left.acked

  -- of the tick nothing is told
  tick_told : (who : Side) (n : ℕ) → told who n (report e Tick) (whole_acked (after_input e Tick)) ≡ []
  tick_told who n = grind arith

  -- and of the reset behind it what is told of a reset in its place
  reset_told : (who : Side) (n : ℕ)
      → told who n (report (after_input e Tick) (Reset None)) (whole_acked (after_input (after_input e Tick) (Reset None)))
      ≡ told who n (report e (Reset None)) (whole_acked (after_input e (Reset None)))
  reset_told who n = grind arith

-- ## What a node notes of a link in its tick

-- ### Notices

-- an end after its tick
abbrev pub older : Port → Port
older p = with_older (has_come p (Some Tick))

pub not_late : (p : Port) → is_due p.desk ≡ false → is_late (older p) ≡ false
not_late p d = by_option p.desk.notice (λ r. rw r refl) (λ n r. let young : nat_le 100 (n.age + 1) ≡ false = rw r at d in rw (r, young) refl)

-- the notice of an end that is late came to its hundredth tick, and its session goes on
pub record IsLate (p : Port) : Type 0 where
  pub due : is_due p.desk ≡ true
  pub goes_on : is_some (ended_by p.side Tick) ≡ false

pub late_parts : (p : Port) → is_late (older p) ≡ true → IsLate p
late_parts p late = grind arith

reset_same_end : (p : Port) → is_late p ≡ false → SameEnd p (reset_late p)
reset_same_end p q = rw q (record { session = refl; late = refl; side = refl; turns = refl })

pub reset_turns : (p : Port) → (reset_late p).turns ≡ p.turns
reset_turns p = by_test (is_late p) (λ q. rw q refl) (λ q. rw q refl)

-- what is noted of other links
told_other : (h : ℕ) (core : Core) (i : LinkInput) (p : Port) → (p.desk.host == h) ≡ false → of_link h (told_at core p (Some i)) ≡ []
told_other h core i p q = of_other p.desk.host h (told (own_side core) p.session (report p.side i) (whole_acked (after_input p.side i))) q

late_other : (h : ℕ) (core : Core) (p : Port) → (p.desk.host == h) ≡ false → of_link h (told_late core p) ≡ []
late_other h core p q = by_test (is_late p) (λ is. rw is (told_other h core (Reset None) p q)) (λ is. rw is refl)

-- ### A tick of a node

-- where the notice of an end is late, it is active and up
abbrev pub IfLate : Bool → LinkEnd → Type 0
IfLate true e = (is_open e.role ≡ true) × (e.shdlc.phase ≡ Up)
IfLate false e = Unit {0}

module _ (h : ℕ) (who : Side) (l : Link) where
  -- the end had its tick, or was reset in its place
  abbrev pub TickedOfTicks : Bool → Work → Type 0
  TickedOfTicks true w = GoesLate h who l (AsksReset None) (Some (Reset None)) true w
  TickedOfTicks false w = Goes h who l NoInput (Some Tick) w

  module _ (w : Work) (a : Opening h who l NoInput w) (ports : List Port) where
    abbrev p : Port
    p = a.port

    abbrev come : Port
    come = reset_late (older p)

    abbrev left : Port
    left = forgets ports come

    abbrev last : Port
    last = without_notice left

    abbrev olds : List Port
    olds = map with_older (map (λ p. has_come p (Some Tick)) w.ports)

    abbrev begun : Work
    begun = record (times_out TimePasses (all_come TimePasses w)) {
      core = after_sessions w.core ports;
      ports = map without_notice (map (forgets ports) (map reset_late olds));
    }

    old_here : port_at olds h ≡ Some (older p)
    old_here = at_map with_older (λ x. refl) _ h (has_come p (Some Tick)) (at_map (λ x. has_come x (Some Tick)) (λ x. refl) w.ports h p a.here)

    last_here : port_at begun.ports h ≡ Some last
    last_here =
        at_map without_notice without_host _ h left (at_map (forgets ports) (forgets_host ports) _ h come (at_map reset_late late_host _ h (older p) old_here))

    turns_are : last.turns ≡ []
    turns_are = (without_same left).turns ∙ ((forgets_same ports come).turns ∙ (reset_turns (older p) ∙ a.turns))

    -- what is told of an input to its end
    one : (i : LinkInput) (q : Port) (e : LinkEnd) → q.desk.host ≡ h → q.session ≡ number_of l.controller → q.side ≡ e
        → told_at w.core q (Some i) ≡ entries_for h (told who (number_of l.controller) (report e i) (whole_acked (after_input e i)))
    one i q e host session side = grind arith

    p_host : p.desk.host ≡ h
    p_host = eqb-true p.desk.host h (at_host w.ports h p a.here)

    abbrev notes : List Entry
    notes = flat_map (λ p. told_at w.core p (Some Tick)) w.ports

    noted : of_link h notes ≡ of_link h (entries_for h (told_of who l.controller Tick))
    noted =
        only (λ (x : Port). x.desk.host) (λ p. told_at w.core p (Some Tick)) h (told_other h w.core Tick) w.ports p a.different a.here
        ∙ ap (of_link h) (one Tick p l.controller.side p_host a.session a.is)

    lates : of_link h (flat_map (told_late w.core) olds) ≡ of_link h (told_late w.core (older p))
    lates =
        let same = hosts_map with_older (λ x. refl) (map (λ p. has_come p (Some Tick)) w.ports) ∙ hosts_map (λ p. has_come p (Some Tick)) (λ x. refl) w.ports in
        only (λ (x : Port). x.desk.host) (told_late w.core) h (late_other h w.core) olds (older p) (subst AreDifferent (sym same) a.different) old_here

    -- all that is noted as time passes
    noted_all : of_link h begun.entries
        ≡ of_link h (entries_for h (told_of who l.controller Tick)) ++ of_link h (told_late w.core (older p))
    noted_all =
        of-append h (w.entries ++ notes) (flat_map (told_late w.core) olds)
        ∙ (ap (λ t. t ++ of_link h (flat_map (told_late w.core) olds)) (of-append h w.entries notes ∙ (ap (λ t. t ++ of_link h notes) a.told ∙ noted))
        ∙ ap (λ t. of_link h (entries_for h (told_of who l.controller Tick)) ++ t) lates)

    begins_with_turns : (e : LinkEnd) (t : List Entry)
        → t ≡ t ++ of_link h (entries_for h (turn_entries who (number_of l.controller) e last.turns))
    begins_with_turns e t =
        sym (append-nil t) ∙ ap (λ ts. t ++ of_link h (entries_for h (turn_entries who (number_of l.controller) e ts))) (sym turns_are)

    pub in_time : is_late (older p) ≡ false → TickedOfTicks false begun
    in_time q =
        let t : List Entry = of_link h (entries_for h (told_of who l.controller Tick)) in
        let none : told_late w.core (older p) ≡ [] = rw q refl in
        record {
          side = sessions_side w.core ports ∙ a.side;
          port = last;
          here = last_here;
          session = ((without_same left).session ∙ ((forgets_same ports come).session ∙ ((grind arith) ∙ a.session)));
          late_is = (without_same left).late ∙ ((forgets_same ports come).late ∙ ((reset_same_end (older p) q).late ∙ a.late));
          is = (without_same left).side ∙ (grind arith);
          told = noted_all ∙ (ap (λ z. t ++ of_link h z) none ∙ (append-nil t ∙ begins_with_turns (after_input l.controller.side Tick) t));
        }

    pub too_late : is_late (older p) ≡ true → IfLate true l.controller.side → TickedOfTicks true begun
    too_late q up =
        let late : IsLate p = late_parts p q in
        let side : LinkEnd = l.controller.side in
        let lasting : IsLasting side = grind arith in
        let e : LinkEnd = after_input side (Reset None) in
        let n : ℕ = number_of l.controller in
        let t : List Entry = of_link h (entries_for h (told_of who l.controller (Reset None))) in
        let come_side : come.side ≡ after_input (after_input p.side Tick) (Reset None) = rw q refl in
        let told_is : told_late w.core (older p) ≡ told_at w.core (older p) (Some (Reset None)) = rw q refl in
        let first : of_link h (entries_for h (told_of who l.controller Tick)) ≡ [] = ap (λ z. of_link h (entries_for h z)) (tick_told side lasting who n) in
        let second : of_link h (told_late w.core (older p)) ≡ t =
        ap (of_link h) (told_is
        ∙ (one (Reset None) (older p) (after_input side Tick) p_host a.session (ap (λ z. after_input z Tick) a.is)
        ∙ ap (entries_for h) (reset_told side lasting who n))) in
        record {
          side = sessions_side w.core ports ∙ a.side;
          port = last;
          here = last_here;
          session = ((without_same left).session ∙ ((forgets_same ports come).session ∙ ((grind arith) ∙ a.session)));
          late_is = (without_same left).late ∙ ((forgets_same ports come).late ∙ (rw q refl));
          is = (without_same left).side ∙ ((forgets_same ports come).side ∙ (grind arith));
          told = noted_all ∙ (ap (λ z. z ++ of_link h (told_late w.core (older p))) first ∙ (second ∙ begins_with_turns e t));
        }

  pub ticked_of_ticks : (b : Bool) (w : Work) (a : Opening h who l NoInput w) → is_late (older a.port) ≡ b → IfLate b l.controller.side
      → TickedOfTicks b (steps TimePasses w)
  ticked_of_ticks b w a q up = go b q up
    where
      v : Work
      v = times_out TimePasses (all_come TimePasses w)

      n : ℕ
      n = number_of l.controller

      left_now : List Port
      left_now = map (forgets v.ports) v.ports

      start : Work
      start = record v { core = after_sessions v.core v.ports; ports = map without_notice left_now }

      go : (b : Bool) → is_late (older a.port) ≡ b → IfLate b l.controller.side → TickedOfTicks b (steps TimePasses w)
      go false q up =
          let e : LinkEnd = after_input l.controller.side Tick in
          let t : List Entry = before h who l NoInput (Some Tick) in
          rest (TickedOfTicks false) (note h who n e t false) (desk h who n e t false) (turns h who n e t false) (beside h who n e t false) (forgotten v.ports)
          (flat_map (synced w.core TimePasses) w.ports) (all_owed left_now) start
          (forgotten_mute v.ports) (all_synced_mute w.core TimePasses w.ports) (all_owed_mute left_now) (in_time w a v.ports q)
      go true q up =
          let e : LinkEnd = after_input l.controller.side (Reset None) in
          let t : List Entry = before h who l (AsksReset None) (Some (Reset None)) in
          rest (TickedOfTicks true) (note h who n e t true) (desk h who n e t true) (turns h who n e t true) (beside h who n e t true) (forgotten v.ports)
          (flat_map (synced w.core TimePasses) w.ports) (all_owed left_now) start
          (forgotten_mute v.ports) (all_synced_mute w.core TimePasses w.ports) (all_owed_mute left_now) (too_late w a v.ports q up)

-- ### A node that has no end on the link

module _ (h : ℕ) where
  silent : (core : Core) (f : Port → List Entry) → ((p : Port) → (p.desk.host == h) ≡ false → of_link h (f p) ≡ []) → (ports : List Port)
      → port_at ports h ≡ None → of_link h (flat_map f ports) ≡ []
  silent core f one [] q = refl
  silent core f one (p ∷ ports) q = by_test (p.desk.host == h)
      (λ e. let is : Some p ≡ None = rw e at q in absurd (cc is))
      (λ e. of-append h (f p) (flat_map f ports) ∙ (ap (λ t. t ++ of_link h (flat_map f ports)) (one p e) ∙ silent core f one ports (rw e at q)))

  away_first : (w : Work) → Away h w → (ports : List Port)
      → Away h (record (times_out TimePasses (all_come TimePasses w)) {
        core = after_sessions w.core ports;
        ports = map without_notice (map (forgets ports) (map reset_late (map with_older (map (λ p. has_come p (Some Tick)) w.ports))));
      })
  away_first w a ports =
      let came : port_at (map (λ p. has_come p (Some Tick)) w.ports) h ≡ None = none_map (λ p. has_come p (Some Tick)) (λ p. refl) w.ports h a.none in
      let aged : port_at (map with_older (map (λ p. has_come p (Some Tick)) w.ports)) h ≡ None = none_map with_older (λ p. refl) _ h came in
      let notes : List Entry = flat_map (λ p. told_at w.core p (Some Tick)) w.ports in
      let late : List Entry = flat_map (told_late w.core) (map with_older (map (λ p. has_come p (Some Tick)) w.ports)) in
      record {
        none = none_map without_notice without_host _ h (none_map (forgets ports) (forgets_host ports) _ h (none_map reset_late late_host _ h aged));
        told =
            of-append h (w.entries ++ notes) late
            ∙ (ap (λ t. t ++ of_link h late) (of-append h w.entries notes ∙ (ap (λ t. t ++ of_link h notes) a.told
            ∙ silent w.core (λ p. told_at w.core p (Some Tick)) (told_other h w.core Tick) w.ports a.none))
            ∙ silent w.core (told_late w.core) (late_other h w.core) _ aged);
      }

  pub away_tick : (w : Work) → Away h w → Away h (steps TimePasses w)
  away_tick w a =
      let v : Work = times_out TimePasses (all_come TimePasses w) in
      let left : List Port = map (forgets v.ports) v.ports in
      rest (Away h) (away_note h) (away_desk h) (away_turns h) (away_beside h) (forgotten v.ports)
      (flat_map (synced w.core TimePasses) w.ports) (all_owed left)
      (record v { core = after_sessions v.core v.ports; ports = map without_notice left })
      (forgotten_mute v.ports) (all_synced_mute w.core TimePasses w.ports) (all_owed_mute left) (away_first w a v.ports)
