-- In each event each message that has its turn at a host, or is noted as held there, is answered as is read.
use Rattle.node_laws.proofs.Words.{Activates, AllByRecursion, AreDifferent, AreNoTurns, AreNotOf, ArePassed, ArePortsRead, Arms, AsksReset, AtEnd, Bool, Boots}
use Rattle.node_laws.proofs.Words.{Comes, ComesTo, Controller, End, Entry, Gives, GoesOut, Happening, HoldsInStep, Host, IfItRuns, Init, Inits, IsCut}
use Rattle.node_laws.proofs.Words.{IsHeldFor, IsHost, IsNoTurn, IsOrderly, IsOutside, IsReplied, Link, LinkInput, List, Loses, Lost, Moment, NextFrame}
use Rattle.node_laws.proofs.Words.{NodeInput, NodeWorld, None, Noted, NumberedEnd, Occurrence, OnWire, Option, Resets, Running, Site, Some, Start, Starts, Step}
use Rattle.node_laws.proofs.Words.{Takes, Ticks, TimePasses, Work, [], aged, aged_entries, all_aged, all_append, all_flat, ap, append-nil, append_assoc, ap₂}
use Rattle.node_laws.proofs.Words.{arith, arrival, beginning, boots, by_coming, by_controller, by_controller_tick, by_host_tick, by_option, by_test, comes_at}
use Rattle.node_laws.proofs.Words.{comes_to, comes_to_pass, controller_ticks, controller_work, end_c, end_h, ending_of, entries_for, entries_in, eq-eqb, eqb}
use Rattle.node_laws.proofs.Words.{eqb-true, exchanged, false, flat_map, frame_lost, frames_at, frames_noted, host_begins_step, host_tick, host_ticks, hosts_in}
use Rattle.node_laws.proofs.Words.{hosts_of_ends, hosts_tick, init_begun, init_in, inl, input_of, inr, is_answer_of, is_left_short, link_after_controller}
use Rattle.node_laws.proofs.Words.{link_to, makes_step, map, ne_eqb, near_end_in, near_tick, node_of, noted_before_pass, passes, refl, sending, site_at}
use Rattle.node_laws.proofs.Words.{site_ticked, site_unticked, steps, subst, sym, ticks_host, true, true≢false, turn_link, turns_at, wires_for, work_of}
use Rattle.node_laws.proofs.Words.{world_step, world_ticks, ℕ, ◌++◌, ◌==◌, ◌||◌, ◌∙◌, ◌∷◌, ◌≡◌, ◌≤◌, ◌⊎◌}
use Rattle.link_laws.specs.entries.Entries.{End as Side}
use Rattle.node_laws.specs.passes.Passing.ComesTo.{Begins}
use Rattle.node_laws.specs.reply_passes.Counts.{commands_noted as commits}
use Rattle.node_laws.proofs.hosts.Passes.{AreUnanswered, BeginsSo, IsMomentOf, pass_replies}
use Rattle.node_laws.proofs.hosts.Beginning.{HostStands, OpensQuietly, begins_so, blank_opens, init_stays, others_act, power, steps_boot}
use Rattle.node_laws.proofs.kept.Events.{none_found}
use Rattle.node_laws.proofs.links.Sites.{here_host}
use Rattle.node_laws.proofs.order.Events.{WasThere, was_there}
use Rattle.node_laws.proofs.order.Lines.{IsSo}
use Rattle.node_laws.proofs.passes.InSteps.{before_entries, before_none, beginning_turnless, sending_turnless, steps_are}
use Rattle.node_laws.proofs.passes.Passing.{comes_lasts, through}
use Rattle.node_laws.proofs.power.Steps.{Runs as Power, own_not, part_own}
use Rattle.node_laws.proofs.power.Events.{AreNodes, comes_part, near_ticks_part, others_tick, ticked_nodes}
use Rattle.node_laws.proofs.read_rooms.HostTicking.{activated_read, host_read, ticked_read}
use Rattle.node_laws.proofs.readings.Sites.{comes_outside, near_end_side}
use Rattle.node_laws.proofs.reply_passes.Roomy.{commits-append}
use Rattle.node_laws.proofs.reply_passes.Held.{AreNoBoots}
use Rattle.node_laws.proofs.shorts.Left.{AreCalmAt, frames_calm, others_calm, step_short}
use Rattle.node_laws.proofs.telling.Events.{comes_goes, link_is, site_host, site_map}
use Rattle.node_laws.proofs.telling.Shapes.{frames_uncut}
use Rattle.node_laws.proofs.telling.Accounts.{AreUncut}
use Rattle.node_laws.proofs.telling.WorldTicks.{aged_orderly, ticked_orderly}
use Rattle.node_laws.proofs.views.Going.{init_append, reads_init}
use Rattle.node_laws.proofs.views.Events.{AreFine, aged_entries_still, near_other, orderly_fine, ticks_leave}
use Rattle.node_laws.proofs.views.Doing.{IsStill, Leaves, still_leaves}
use Rattle.node_laws.proofs.views.Nodes.{arrival_still, frames_still, others_step}
use Rattle.node_laws.proofs.worlds.FramesLast.{begun_turnless, frames_turnless, other_turns, turnless_there}
use Rattle.node_laws.proofs.worlds.Late.{other_answers, out_unanswered, ticked_host, unanswered_all}
use Rattle.node_laws.proofs.worlds.Ticking.{near_node}
use Rattle.trace_model.specs.declared.entry.Entry.TheVariants as entry

-- ## What is replied in a pass of a host, among the entries of an event

-- ### Where an entry stands

module _ (n : ℕ) where
  abbrev pub NoneAt : List Entry → Type 0
  NoneAt es = AllByRecursion (λ x. turn_link n x ≡ None) es

  -- an entry of these three lists that is in the second one
  record StandsInOfLifting (a b c front : List Entry) (x : Entry) (behind : List Entry) : Type 0 where
    later : List Entry
    back : List Entry
    before : front ≡ a ++ later
    is : b ≡ later ++ (x ∷ back)
    rest : behind ≡ back ++ c

  is_none : (front : List Entry) (x : Entry) (behind : List Entry) → NoneAt (front ++ (x ∷ behind)) → turn_link n x ≡ None
  is_none [] x behind none = none.0
  is_none (y ∷ front) x behind none = is_none front x behind none.1

  stands_in : (k : ℕ) (a b c front : List Entry) (x : Entry) (behind : List Entry) → NoneAt a → NoneAt c → turn_link n x ≡ Some k
      → a ++ (b ++ c) ≡ front ++ (x ∷ behind) → StandsInOfLifting a b c front x behind
  stands_in k [] [] c front x behind none after turn is = let h0 = is_none front x behind (subst NoneAt is after) in grind arith
  stands_in k [] (y ∷ b) c [] x behind none after turn is = record { later = []; back = b; before = refl; is = ap (λ z. z ∷ b) cc; rest = sym cc }
  stands_in k [] (y ∷ b) c (z ∷ front) x behind none after turn is =
      let same : y ≡ z = cc in
      let tail : b ++ c ≡ front ++ (x ∷ behind) = cc in
      let s : StandsInOfLifting [] b c front x behind = stands_in k [] b c front x behind none after turn tail in
      record { later = z ∷ s.later; back = s.back; before = ap (λ l. z ∷ l) s.before; is = ap (λ u. u ∷ b) same ∙ ap (λ l. z ∷ l) s.is; rest = s.rest }
  stands_in k (y ∷ a) b c [] x behind none after turn is =
      let same : y ≡ x = cc in
      let no : None ≡ Some k = sym none.0 ∙ (ap (turn_link n) same ∙ turn) in absurd (cc no)
  stands_in k (y ∷ a) b c (z ∷ front) x behind none after turn is =
      let same : y ≡ z = cc in
      let tail : a ++ (b ++ c) ≡ front ++ (x ∷ behind) = cc in
      let s : StandsInOfLifting a b c front x behind = stands_in k a b c front x behind none.1 after turn tail in
      record { later = s.later; back = s.back; before = ap (λ u. u ∷ front) (sym same) ∙ ap (λ l. y ∷ l) s.before; is = s.is; rest = s.rest }

  -- ### Entries without answers

  others_quiet : (es : List Entry) → AreNotOf n es → AreUnanswered n es
  others_quiet [] a = tt
  others_quiet (x ∷ es) a = ((other_answers n x a.0, grind arith), others_quiet es a.1)

  quiet_if : (es : List Entry) → AllByRecursion (λ x. is_answer_of n x ≡ false) es → AreUncut es → AreUnanswered n es
  quiet_if [] a u = tt
  quiet_if (x ∷ es) a u = ((a.0, grind arith), quiet_if es a.1 u.1)

-- ### Events

module _ (hosts : List ℕ) (n : ℕ) (host : IsHost n) (past : List Occurrence) (cause : Happening) (i : Option Init)
    (begun : init_begun n (init_in past n) cause ≡ i) where
  abbrev moment_at : List Entry → Moment
  moment_at front = record { past = past; cause = cause; so_far = front }

  -- each message that has its turn at the host among these entries of the event, or is noted as held there, is answered as is read
  abbrev RepliesSo : List Entry → Type 0
  RepliesSo es =
      (front behind : List Entry) (x : Entry) (k : ℕ) → es ≡ front ++ (x ∷ behind) → turn_link n x ≡ Some k
      → IsReplied hosts (moment_at front) x behind × IsHeldFor hosts (moment_at front) x behind

  none_so : (es : List Entry) → NoneAt n es → RepliesSo es
  none_so es none front behind x k is turn =
      let no : None ≡ Some k = sym (is_none n front x behind (subst (NoneAt n) is none)) ∙ turn in absurd (cc no)

  abbrev t_of_lifting : List Entry
  t_of_lifting = entries_in past

  -- a pass, behind these entries
  pass_so : (lead rest : List Entry) (w : Work) (on : w.cut ≡ false) → NoneAt n lead → NoneAt n w.entries → NoneAt n rest → AreUnanswered n rest
      → BeginsSo n host (t_of_lifting ++ lead) i w → AreNoBoots (passes w).entries
      → commits (t_of_lifting ++ (lead ++ ((passes w).entries ++ rest))) ≤ 4000000000
      → reads_init n lead i ≡ i → RepliesSo (lead ++ ((passes w).entries ++ rest))
  pass_so lead rest w on none own after quiet begins boots few stays front behind x k is turn =
      let p : ArePassed (ComesTo w) (hosts_of_ends w.ports) w (passes w) = through (ComesTo w) (comes_lasts w) (hosts_of_ends w.ports) w Begins on in
      let shape : lead ++ ((passes w).entries ++ rest) ≡ (lead ++ w.entries) ++ (p.more ++ rest) =
      ap (λ l. lead ++ (l ++ rest)) p.entries
      ∙ (ap (λ l. lead ++ l) (append_assoc w.entries p.more rest) ∙ sym (append_assoc lead w.entries (p.more ++ rest))) in
      let s : StandsInOfLifting n (lead ++ w.entries) p.more rest front x behind =
      stands_in n k (lead ++ w.entries) p.more rest front x behind (all_append _ lead w.entries none own) after turn (sym shape ∙ is) in
      let told : front ≡ lead ++ (w.entries ++ s.later) = s.before ∙ append_assoc lead w.entries s.later in
      let at : IsMomentOf hosts n host (t_of_lifting ++ lead) i begins.memory begins.order_phase begins.init_phase (w.entries ++ s.later)
      (moment_at front) = record {
        at = ap (λ l. t_of_lifting ++ l) told ∙ sym (append_assoc t_of_lifting lead (w.entries ++ s.later));
        init = ap (λ y. reads_init n front y) begun
            ∙ (ap (λ l. reads_init n l i) told ∙ (init_append n lead (w.entries ++ s.later) i ∙ ap (λ y. reads_init n (w.entries ++ s.later) y) stays));
      } in
      let low : commits ((t_of_lifting ++ lead) ++ (passes w).entries) ≤ 4000000000 =
      (let one = commits-append t_of_lifting (lead ++ ((passes w).entries ++ rest)) in let two = commits-append lead ((passes w).entries ++ rest) in
      let three = commits-append (passes w).entries rest in let four = commits-append (t_of_lifting ++ lead) (passes w).entries in
      let five = commits-append t_of_lifting lead in omega (arith, one, two, three, four, five, few)) in
      subst (λ l. IsReplied hosts (moment_at front) x l × IsHeldFor hosts (moment_at front) x l) (sym s.rest)
      (pass_replies hosts n host (t_of_lifting ++ lead) i w on begins boots low s.later s.back rest (moment_at front) at quiet x (grind arith))

  -- a step of the host, behind these entries, and before those
  step_so : (lead rest : List Entry) (input : NodeInput) (start : Work) → NoneAt n lead → AreNoTurns start.entries → NoneAt n rest
      → AreUnanswered n rest → ((comes_to_pass input start).cut ≡ false → BeginsSo n host (t_of_lifting ++ lead) i (comes_to_pass input start))
      → AreNoBoots (steps input start).entries → commits (t_of_lifting ++ (lead ++ ((steps input start).entries ++ rest))) ≤ 4000000000
      → reads_init n lead i ≡ i → RepliesSo (lead ++ ((steps input start).entries ++ rest))
  step_so lead rest input start none own after quiet begins boots few stays = by_test v.cut
      (λ q. let is : steps input start ≡ v = steps_are input start ∙ rw q refl in
      subst Goal (sym is)
      (λ _ _. none_so (lead ++ (v.entries ++ rest)) (all_append _ lead (v.entries ++ rest) none (all_append _ v.entries rest early after))) boots few)
      (λ q. let is : steps input start ≡ passes v = steps_are input start ∙ rw q refl in
      subst Goal (sym is) (λ unbooted low. pass_so lead rest v q none early after quiet (begins q) unbooted low stays) boots few) where
        v : Work
        v = comes_to_pass input start

        early : NoneAt n v.entries
        early =
            turnless_there n v.entries
            (subst AreNoTurns (sym (before_entries input start)) (all_append IsNoTurn start.entries (noted_before_pass input start) own
            (before_none input start)))

        Goal : Work → Type 0
        Goal u = AreNoBoots u.entries → commits (t_of_lifting ++ (lead ++ (u.entries ++ rest))) ≤ 4000000000 → RepliesSo (lead ++ (u.entries ++ rest))

-- ## In each event a host makes a step, or nothing is noted of it
-- So each message that has its turn there, or is noted as held, is answered as is read, and the first one that is left lacks room.

-- ### Frames that grow too old are of no node

abbrev IsLoss : Noted → Type 0
IsLoss (Lost who frame why) = Unit {0}
IsLoss _ = ⊥

lost_only : (who : Side) (xs : List OnWire) → AllByRecursion IsLoss (aged_entries who xs)
lost_only who [] = tt
lost_only who (x ∷ xs) = by_test (Rattle.std.specs.Prelude.nat_lt x.age 4) (λ q. rw q (lost_only who xs)) (λ q. rw q (tt, lost_only who xs))

losses_of_none : (n h : ℕ) (xs : List Noted) → AllByRecursion IsLoss xs → AreNotOf n (entries_for h xs)
losses_of_none n h [] a = tt
losses_of_none n h (Lost who frame why ∷ xs) a = (refl, losses_of_none n h xs a.1)
losses_of_none n h (_ ∷ xs) a = absurd a.0

aged_of_none : (n : ℕ) (w : NodeWorld) → AreNotOf n (all_aged w).1
aged_of_none n w =
    all_flat _ (λ (s : Site). entries_for s.host (aged_entries Controller s.link.to_controller ++ aged_entries Host s.link.to_host))
    (λ s. losses_of_none n s.host (aged_entries Controller s.link.to_controller ++ aged_entries Host s.link.to_host)
    (all_append IsLoss (aged_entries Controller s.link.to_controller) (aged_entries Host s.link.to_host) (lost_only Controller s.link.to_controller)
    (lost_only Host s.link.to_host))) w.sites

-- ### Sites

-- a site among others
record SplitSites (sites : List Site) (n : ℕ) (x : Site) : Type 0 where
  before : List Site
  behind : List Site
  is : sites ≡ before ++ (x ∷ behind)
  off : AllByRecursion (λ k. eqb k n ≡ false) (hosts_in before)

split_sites : (sites : List Site) (n : ℕ) (x : Site) → site_at sites n ≡ Some x → SplitSites sites n x
split_sites [] n x there = absurd (cc there)
split_sites (s ∷ sites) n x there = by_test (eqb s.host n)
    (λ q. let same : Some s ≡ Some x = rw q at there in
    record { before = []; behind = sites; is = ap (λ y. y ∷ sites) cc; off = tt })
    (λ q. let rest : SplitSites sites n x = split_sites sites n x (rw q at there) in
    record { before = s ∷ rest.before; behind = rest.behind; is = ap (λ l. s ∷ l) rest.is; off = (q, rest.off) })

ticks_split : (before : List Site) (x : Site) (behind : List Site)
    → (hosts_tick (before ++ (x ∷ behind))).1 ≡ (hosts_tick before).1 ++ ((host_ticks x).1 ++ (hosts_tick behind).1)
ticks_split [] x behind = refl
ticks_split (s ∷ before) x behind =
    ap (λ l. (host_ticks s).1 ++ l) (ticks_split before x behind)
    ∙ sym (append_assoc (host_ticks s).1 (hosts_tick before).1 ((host_ticks x).1 ++ (hosts_tick behind).1))

front_all : {X : Type 0} (P : X → Type 0) (before behind : List X) → AllByRecursion P (before ++ behind) → AllByRecursion P before × AllByRecursion P behind
front_all P [] behind a = (tt, a)
front_all P (x ∷ before) behind a = let rest = front_all P before behind a.1 in ((a.0, rest.0), rest.1)

module _ (hosts : List ℕ) (past : List Occurrence) where
  abbrev t : List Entry
  t = entries_in past

  -- each message that has its turn at this host among these entries of an event, or is noted as held there, is answered as is read
  abbrev pub EventSo : ℕ → Happening → List Entry → Type 0
  EventSo n cause es =
      (front behind : List Entry) (x : Entry) (k : ℕ) → es ≡ front ++ (x ∷ behind) → turn_link n x ≡ Some k
      → IsReplied hosts (record { past = past; cause = cause; so_far = front }) x behind
      × IsHeldFor hosts (record { past = past; cause = cause; so_far = front }) x behind

  abbrev Few : List Entry → Type 0
  Few es = commits (t ++ es) ≤ 4000000000

  -- What a host does in an event: a step, behind these entries, and before those.
  pub record HasStep (n : ℕ) (cause : Happening) (es : List Entry) : Type 0 where
    pub host : IsHost n
    pub init : Option Init
    pub begun : init_begun n (init_in past n) cause ≡ init
    pub lead : List Entry
    pub rest : List Entry
    pub input : NodeInput
    pub start : Work
    pub is : es ≡ lead ++ ((steps input start).entries ++ rest)
    pub other : AreNotOf n lead
    pub turns : AreNoTurns start.entries
    pub power : Power n start
    pub begins : (comes_to_pass input start).cut ≡ false → BeginsSo n host (t ++ lead) init (comes_to_pass input start)
    pub boots : AreNoBoots (steps input start).entries
    pub few : Few (lead ++ ((steps input start).entries ++ rest))
    pub none : NoneAt n rest
    pub quiet : AreUnanswered n rest
    pub calm : AreCalmAt n rest
    pub leaves : AllByRecursion (Leaves (end_h n)) rest

  -- so each message that has its turn there is answered as is read
  replied_so : (n : ℕ) (cause : Happening) (es : List Entry) → HasStep n cause es → EventSo n cause es
  replied_so n cause es a =
      subst (EventSo n cause) (sym a.is)
      (step_so hosts n a.host past cause a.init a.begun a.lead a.rest a.input a.start (other_turns n a.lead a.other) a.turns a.none a.quiet a.begins a.boots
      a.few (init_stays n a.lead a.init a.other))

  -- and the first message that is left lacks room
  pub short_so : (n : ℕ) (cause : Happening) (es : List Entry) → HasStep n cause es
      → is_left_short hosts past (record { cause = cause; entries = es }) (end_h n) ≡ true
  short_so n cause es a =
      subst (λ l. is_left_short hosts past (record { cause = cause; entries = l }) (end_h n) ≡ true) (sym a.is)
      (step_short hosts n a.host past cause a.init a.begun a.lead a.rest (init_stays n a.lead a.init a.other) a.calm a.leaves a.input a.start a.power
      a.begins a.boots a.few)

  -- a step of a host that stands so, behind these entries, and before those
  abbrev OwnStep : Site → ℕ → Type 0
  OwnStep s n =
      (cause : Happening) (i : Option Init) → init_begun n (init_in past n) cause ≡ i → HostStands t i s → (lead rest : List Entry) (r : Running)
      → s.node ≡ Some r → (near_end : NumberedEnd) → near_end.side ≡ s.link.host.side → (es : List Entry) → OpensQuietly n es → (input : NodeInput)
      → IsOutside input → AreNotOf n lead → AllByRecursion (Leaves (end_h n)) lead → NoneAt n rest → AreUnanswered n rest
      → AreCalmAt n rest → AllByRecursion (Leaves (end_h n)) rest
      → HoldsInStep (ArePortsRead Host (t ++ lead)) input (work_of r s.memory.plan (λ k. near_end) es)
      → Few (lead ++ ((steps input (work_of r s.memory.plan (λ k. near_end) es)).entries ++ rest))
      → HasStep n cause (lead ++ ((steps input (work_of r s.memory.plan (λ k. near_end) es)).entries ++ rest))

  own_step : (s : Site) → OwnStep s s.host
  own_step s cause i begun a lead rest r q near_end side es opens input outside other leaves none quiet calm leaves_rest read few =
      let b : HostStands (t ++ lead) i s = others_act t lead i s s.link a refl other leaves in record {
        host = b.host;
        init = i;
        begun = begun;
        lead = lead;
        rest = rest;
        input = input;
        start = work_of r s.memory.plan (λ k. near_end) es;
        is = refl;
        other = other;
        turns = opens.turns;
        power = power (t ++ lead) i s b r q near_end side es opens input outside;
        begins = λ on. begins_so (t ++ lead) i s b r q near_end side es opens input outside on read;
        boots = steps_boot (t ++ lead) i s b r q near_end side es opens input outside;
        few = few;
        none = none;
        quiet = quiet;
        calm = calm;
        leaves = leaves_rest;
      }

-- ### Hosts in an event

front_hosts : (P : ℕ → Type 0) (before rest : List Site) → AllByRecursion P (hosts_in (before ++ rest)) → AllByRecursion P (hosts_in before)
front_hosts P [] rest a = tt
front_hosts P (s ∷ before) rest a = (a.0, front_hosts P before rest a.1)

front_different : (before rest : List Site) → AreDifferent (hosts_in (before ++ rest)) → AreDifferent (hosts_in before)
front_different [] rest a = tt
front_different (s ∷ before) rest a = (front_hosts (λ k. eqb k s.host ≡ false) before rest a.0, front_different before rest a.1)

back_different : (before rest : List Site) → AreDifferent (hosts_in (before ++ rest)) → AreDifferent (hosts_in rest)
back_different [] rest a = a
back_different (s ∷ before) rest a = back_different before rest a.1

behind_off : (before : List Site) (x : Site) (behind : List Site) → AreDifferent (hosts_in (before ++ (x ∷ behind)))
    → AllByRecursion (λ k. eqb k x.host ≡ false) (hosts_in behind)
behind_off [] x behind a = a.0
behind_off (s ∷ before) x behind a = behind_off before x behind a.1

module _ (hosts : List ℕ) (past : List Occurrence) (w : NodeWorld) (so : IsSo hosts past w) (n : ℕ) (off : eqb n 0 ≡ false) where
  abbrev u : List Entry
  u = entries_in past

  abbrev i0 : Option Init
  i0 = init_in past n

  -- the host among these sites stands so, where it is there
  abbrev StandsIn : List Site → Type 0
  StandsIn sites = (x : Site) → site_at sites n ≡ Some x → HostStands u i0 x

  -- no step of the host: the event makes none, the host is off, or no frame is there
  abbrev pub IsOffIn : List Site → Type 0
  IsOffIn sites = (s : Site) → site_at sites n ≡ Some s → s.node ≡ None

  abbrev pub IsMissing : Happening → Type 0
  IsMissing (Takes e) = (e ≡ end_h n) × (frames_at w e ≡ [])
  IsMissing cause = ⊥

  abbrev pub HasNoStep : Happening → List Entry → Type 0
  HasNoStep cause es = (makes_step n cause ≡ false) ⊎ ((IsMissing cause ⊎ IsOffIn w.sites) × AreCalmAt n es)

  -- what the host does in an event: nothing, or a step
  abbrev pub E : Happening → List Entry → Type 0
  E cause es = (NoneAt n es × HasNoStep cause es) ⊎ HasStep hosts past n cause es

  abbrev IsFew : List Entry → Type 0
  IsFew es = Few hosts past es

  abbrev IsPlainCause : Happening → Type 0
  IsPlainCause cause = init_begun n i0 cause ≡ i0

  abbrev real : (end_h n).at_host ≡ true → eqb (end_h n).link 0 ≡ false
  real far = off

  zero_off : eqb 0 n ≡ false
  zero_off = ne_eqb 0 n (λ z. true≢false (sym (eq-eqb n 0 (sym z)) ∙ off))

  nothing_so : (cause : Happening) (es : List Entry) → NoneAt n es → HasNoStep cause es → E cause es
  nothing_so cause es none still = inl (none, still)

  turnless_so : (cause : Happening) (es : List Entry) → makes_step n cause ≡ false → AreNoTurns es → E cause es
  turnless_so cause es still none = nothing_so cause es (turnless_there n es none) (inl still)

  off_so : (cause : Happening) (es : List Entry) → IsOffIn w.sites → AreNotOf n es → E cause es
  off_so cause es is not = nothing_so cause es (other_turns n es not) (inr (inr is, others_calm n es not))

  -- what changes no node of the sites leaves them off
  off_mapped : (f : Site → Site) → ((s : Site) → (f s).host ≡ s.host) → ((s : Site) → (f s).node ≡ s.node) → (sites : List Site)
      → IsOffIn (map f sites) → IsOffIn sites
  off_mapped f keeps same sites all s found = sym (same s) ∙ all (f s) (site_map f keeps sites n s found)

  relinked : (s : Site) (l : Link) → HostStands u i0 s → l.host.side ≡ s.link.host.side → HostStands u i0 (record s { link = l })
  relinked s l a same = subst (λ z. HostStands z i0 (record s { link = l })) (append-nil u) (others_act u [] i0 s l a same tt tt)

  mapped : (f : Site → Site) → ((s : Site) → (f s).host ≡ s.host) → ((s : Site) → record s { link = (f s).link } ≡ f s)
      → ((s : Site) → (f s).link.host.side ≡ s.link.host.side) → (sites : List Site) → StandsIn sites → StandsIn (map f sites)
  mapped f keeps is same sites all x q =
      let was : WasThere f sites n x = was_there f keeps sites n x q in
      subst (HostStands u i0) (is was.site ∙ was.is) (relinked was.site (f was.site).link (all was.site was.there) (same was.site))

  own_at : (x : Site) → x.host ≡ n → OwnStep hosts past x n
  own_at x at = subst (OwnStep hosts past x) at (own_step hosts past x)

  -- ### Something comes to its end

  far_so : (v : NodeWorld) → StandsIn v.sites → (IsOffIn v.sites → IsOffIn w.sites) → (cause : Happening) → IsPlainCause cause → (lead : List Entry)
      → AreNotOf n lead → AllByRecursion (Leaves (end_h n)) lead → (comes : Comes)
      → (input_of (exchanged (link_to v.sites n)) comes ≡ None → IsMissing cause)
      → ((s : Site) → site_at v.sites n ≡ Some s → (r : Running) → s.node ≡ Some r → (i : LinkInput) → input_of (exchanged s.link) comes ≡ Some i
      → HoldsInStep (ArePortsRead Host (u ++ lead)) (AtEnd n i) (host_begins_step s r comes))
      → IsFew (lead ++ (comes_at v (end_h n) comes).1) → E cause (lead ++ (comes_at v (end_h n) comes).1)
  far_so v all was_off cause plain lead not leaves comes missing read = by_option (input_of (exchanged (link_to v.sites n)) comes)
      (λ q. rw q (λ few. alone (inr (inl (missing q), lead_calm))))
      (λ i q. rw q (by_option (site_at v.sites n)
      (λ z. rw z (λ few. alone (inr (inr (was_off (λ x there. let no : None ≡ Some x = sym z ∙ there in absurd (cc no))), lead_calm))))
      (λ s z. by_option s.node
      (λ o. rw (z, o) (λ few. alone (inr (
        inr (was_off (λ x there. let same : Some s ≡ Some x = sym z ∙ there in let one : s ≡ x = cc in ap (λ (y : Site). y.node) (sym one) ∙ o)),
        lead_calm,
      ))))
      (λ r o. rw (z, o) (does i q s r z o)))))
    where
      alone : HasNoStep cause (lead ++ []) → E cause (lead ++ [])
      alone still = nothing_so cause (lead ++ []) (all_append _ lead [] (other_turns n lead not) tt) still

      lead_calm : AreCalmAt n (lead ++ [])
      lead_calm = all_append _ lead [] (others_calm n lead not) tt

      does : (i : LinkInput) → input_of (exchanged (link_to v.sites n)) comes ≡ Some i → (s : Site) (r : Running) → site_at v.sites n ≡ Some s
          → s.node ≡ Some r
          → IsFew (lead ++ ((steps (AtEnd n i) (host_begins_step s r comes)).entries
          ++ frames_noted Host n (wires_for (exchanged s.link) comes) (steps (AtEnd n i) (host_begins_step s r comes))))
          → E cause (lead ++ ((steps (AtEnd n i) (host_begins_step s r comes)).entries
          ++ frames_noted Host n (wires_for (exchanged s.link) comes) (steps (AtEnd n i) (host_begins_step s r comes))))
      does i seen s r found q few =
          let at : s.host ≡ n = site_host v.sites n s found in
          let came : input_of (exchanged s.link) comes ≡ Some i = ap (λ l. input_of (exchanged l) comes) (sym (link_is v.sites n s found)) ∙ seen in
          let es : List Entry = entries_for s.host (arrival Host (exchanged s.link) comes) in
          let opens : OpensQuietly n es = subst (λ k. OpensQuietly k es) at (grind arith) in
          let frames : List Entry = frames_noted Host n (wires_for (exchanged s.link) comes) (steps (AtEnd n i) (host_begins_step s r comes)) in
          inr (own_at s at cause i0 plain (all s found) lead frames r q (near_end_in (exchanged s.link) comes) (near_end_side (exchanged s.link) comes) es opens
          (AtEnd n i) (comes_outside (exchanged s.link) comes i came) not leaves
          (turnless_there n frames (frames_turnless Host n (wires_for (exchanged s.link) comes) (steps (AtEnd n i) (host_begins_step s r comes))))
          (quiet_if n frames
          (unanswered_all n frames (out_unanswered Host n (wires_for (exchanged s.link) comes) (steps (AtEnd n i) (host_begins_step s r comes))))
          (frames_uncut Host n (wires_for (exchanged s.link) comes) (steps (AtEnd n i) (host_begins_step s r comes))))
          (frames_calm n Host n (wires_for (exchanged s.link) comes) (steps (AtEnd n i) (host_begins_step s r comes)))
          (still_leaves (end_h n) frames
          (frames_still (end_h n) Host n (wires_for (exchanged s.link) comes) (steps (AtEnd n i) (host_begins_step s r comes))))
          (read s found r q i came) few)

  module _ (stands : StandsIn w.sites) where
    coming_so : (e : End) (comes : Comes) (cause : Happening) → IsPlainCause cause → ((eqb (node_of e) n ≡ false) → makes_step n cause ≡ false)
        → (e ≡ end_h n → input_of (exchanged (link_to w.sites n)) comes ≡ None → IsMissing cause) → IsFew (comes_at w e comes).1
        → E cause (comes_at w e comes).1
    coming_so e comes cause plain elsewhere missing few = go (eqb (node_of e) n) refl e.at_host refl where
      here : e ≡ end_h n → IsFew (comes_at w (end_h n) comes).1 → E cause (comes_at w (end_h n) comes).1
      here same =
          far_so w stands (λ is. is) cause plain [] tt tt comes (missing same)
          (λ s found r q i seen. subst (λ z. HoldsInStep (ArePortsRead Host z) (AtEnd n i) (host_begins_step s r comes)) (sym (append-nil u))
          (host_read hosts past w so n s found r q comes i seen))

      go : (b : Bool) → eqb (node_of e) n ≡ b → (c : Bool) → e.at_host ≡ c → E cause (comes_at w e comes).1
      go false q c z =
          nothing_so cause (comes_at w e comes).1
          (other_turns n (comes_at w e comes).1
          (own_not (node_of e) n (comes_at w e comes).1 q (part_own (node_of e) (comes_at w e comes).1 (comes_part w e comes so.well.orderly))))
          (inl (elsewhere q))
      go true q false z =
          let none : node_of e ≡ 0 = rw z refl in absurd (true≢false (sym q ∙ (ap (λ k. eqb k n) none ∙ zero_off)))
      go true q true z =
          let link : node_of e ≡ e.link = rw z refl in
          let one : end_h n ≡ end_h e.link = ap end_h (sym (eqb-true (node_of e) n q) ∙ link) in
          let two : end_h e.link ≡ e = ap (λ b. record { link = e.link; at_host = b }) (sym z) in
          subst (λ (f : End). IsFew (comes_at w f comes).1 → E cause (comes_at w f comes).1) (one ∙ two) (here (sym (one ∙ two))) few

    -- ### Activation

    activates_so : (h sync power : ℕ) → IsFew (world_step w (Activates h sync power)).1 → E (Activates h sync power) (world_step w (Activates h sync power)).1
    activates_so h sync power few = go (eqb h n) refl where
      near : NodeWorld × List Entry
      near = comes_at w (end_c h) (Starts power)

      near_not : AreNotOf n near.1
      near_not = own_not 0 n near.1 zero_off (part_own 0 near.1 (comes_part w (end_c h) (Starts power) so.well.orderly))

      then : IsOrderly near.0
      then = (comes_goes w (end_c h) (Starts power) so.well.orderly).orderly

      near_stands : StandsIn near.0.sites
      near_stands =
          by_coming (λ p. StandsIn p.0.sites) w (end_c h) (Starts power) stands (λ i at seen. absurd (true≢false (sym at)))
          (λ i at seen.
          by_controller (λ p. StandsIn p.0.sites) w h (Starts power) (steps (AtEnd h i)) stands
          (λ r q.
          let v : Work = controller_work w r h (Starts power) (steps (AtEnd h i)) in
          mapped (link_after_controller h (Starts power) v) (λ s. refl) (λ s. refl)
          (λ s. ap (λ (e : NumberedEnd). e.side) (here_host s.link (Step (comes_to h (Starts power) s.host) (turns_at v s.host) (ending_of v))))
          w.sites stands))

      near_off : IsOffIn near.0.sites → IsOffIn w.sites
      near_off =
          by_coming (λ p. IsOffIn p.0.sites → IsOffIn w.sites) w (end_c h) (Starts power) (λ is. is) (λ i at seen. absurd (true≢false (sym at)))
          (λ i at seen.
          by_controller (λ p. IsOffIn p.0.sites → IsOffIn w.sites) w h (Starts power) (steps (AtEnd h i)) (λ is. is)
          (λ r q.
          off_mapped (link_after_controller h (Starts power) (controller_work w r h (Starts power) (steps (AtEnd h i)))) (λ s. refl) (λ s. refl) w.sites))

      near_leaves : AllByRecursion (Leaves (end_h n)) near.1
      near_leaves =
          by_coming (λ p. AllByRecursion (Leaves (end_h n)) p.1) w (end_c h) (Starts power) tt (λ i at seen. absurd (true≢false (sym at)))
          (λ i at seen.
          by_controller (λ p. AllByRecursion (Leaves (end_h n)) p.1) w h (Starts power) (steps (AtEnd h i)) tt
          (λ r q.
          let v : Work = controller_work w r h (Starts power) (steps (AtEnd h i)) in
          let es : List Entry = entries_for h (arrival Controller (link_to w.sites h) (Starts power)) in
          let frames : List Entry = flat_map (λ (s : Site). frames_noted Controller s.host (wires_for s.link (comes_to h (Starts power) s.host)) v) w.sites in
          all_append (Leaves (end_h n)) v.entries frames
          (others_step (end_h n) 0 Controller (hosts_in w.sites) r w.memory.plan
          (λ k. near_end_in (link_to w.sites k) (comes_to h (Starts power) k)) es (AtEnd h i)
          (near_node w r so.well.orderly q) refl (near_other (end_h n) real refl (hosts_in w.sites))
          (still_leaves (end_h n) es (arrival_still (end_h n) Controller h (link_to w.sites h) (Starts power))))
          (still_leaves (end_h n) frames (all_flat (IsStill (end_h n))
          (λ (s : Site). frames_noted Controller s.host (wires_for s.link (comes_to h (Starts power) s.host)) v)
          (λ s. frames_still (end_h n) Controller s.host (wires_for s.link (comes_to h (Starts power) s.host)) v) w.sites))))

      go : (b : Bool) → eqb h n ≡ b → E (Activates h sync power) (near.1 ++ (comes_at near.0 (end_h h) (Starts sync)).1)
      go false q =
          nothing_so (Activates h sync power) (near.1 ++ (comes_at near.0 (end_h h) (Starts sync)).1)
          (other_turns n (near.1 ++ (comes_at near.0 (end_h h) (Starts sync)).1) (all_append _ near.1 (comes_at near.0 (end_h h) (Starts sync)).1 near_not
          (own_not h n (comes_at near.0 (end_h h) (Starts sync)).1 q
          (part_own h (comes_at near.0 (end_h h) (Starts sync)).1 (comes_part near.0 (end_h h) (Starts sync) then)))))
          (inl (ap₂ (λ a b. a || b) off (ne_eqb n h (λ is. true≢false (sym (eq-eqb h n (sym is)) ∙ q)))))
      go true q =
          let own : n ≡ h = sym (eqb-true h n q) in
          subst (λ k. IsFew (near.1 ++ (comes_at near.0 (end_h k) (Starts sync)).1)
          → E (Activates h sync power) (near.1 ++ (comes_at near.0 (end_h k) (Starts sync)).1)) own
          (far_so near.0 near_stands near_off (Activates h sync power) refl near.1 near_not near_leaves (Starts sync) (λ none. absurd (cc none))
          (read own)) few
        where
          Read : ℕ → Type 0
          Read k =
              (s : Site) → site_at near.0.sites k ≡ Some s → (r : Running) → s.node ≡ Some r
              → HoldsInStep (ArePortsRead Host (u ++ near.1)) (AtEnd k (Start sync)) (host_begins_step s r (Starts sync))

          read : n ≡ h → (s : Site) → site_at near.0.sites n ≡ Some s → (r : Running) → s.node ≡ Some r → (i : LinkInput)
              → input_of (exchanged s.link) (Starts sync) ≡ Some i
              → HoldsInStep (ArePortsRead Host (u ++ near.1)) (AtEnd n i) (host_begins_step s r (Starts sync))
          read own s found r runs i seen =
              let is : Start sync ≡ i = cc in
              let all : Read n = subst Read (sym own) (λ s found r runs. activated_read hosts past w so h power s found r runs sync) in
              subst (λ j. HoldsInStep (ArePortsRead Host (u ++ near.1)) (AtEnd n j) (host_begins_step s r (Starts sync))) is (all s found r runs)

    -- ### A tick

    module _ where
      abbrev old : NodeWorld
      old = (all_aged w).0

      abbrev aged_es : List Entry
      aged_es = (all_aged w).1

      abbrev near : NodeWorld × List Entry
      near = controller_ticks old

      nodes : AreNodes near.0.sites
      nodes = ticked_nodes w so.well.orderly

      fine : AreFine near.0.sites
      fine = orderly_fine (record { memory = w.memory; controller = None; sites = near.0.sites }) (ticked_orderly w so.well.orderly)

      old_stands : StandsIn old.sites
      old_stands = mapped (λ (x : Site). record x { link = aged x.link }) (λ s. refl) (λ s. refl) (λ s. refl) w.sites stands

      ticked_stands : StandsIn near.0.sites
      ticked_stands =
          by_controller_tick (λ p. StandsIn p.0.sites) old
          (λ q. mapped site_unticked (λ s. refl) (λ s. refl) (λ s. ap (λ (e : NumberedEnd). e.side) (ticks_host s.link [] GoesOut)) old.sites old_stands)
          (λ r q. mapped (site_ticked (near_tick old r)) (λ s. refl) (λ s. refl) (λ s. ap (λ (e : NumberedEnd). e.side) (ticked_host (near_tick old r) s))
          old.sites old_stands)

      ticked_off : IsOffIn near.0.sites → IsOffIn w.sites
      ticked_off is =
          off_mapped (λ (x : Site). record x { link = aged x.link }) (λ s. refl) (λ s. refl) w.sites
          (by_controller_tick (λ p. IsOffIn p.0.sites → IsOffIn old.sites) old (λ q. off_mapped site_unticked (λ s. refl) (λ s. refl) old.sites)
          (λ r q. off_mapped (site_ticked (near_tick old r)) (λ s. refl) (λ s. refl) old.sites) is)

      near_not : AreNotOf n near.1
      near_not = own_not 0 n near.1 zero_off (part_own 0 near.1 (near_ticks_part old (aged_orderly w so.well.orderly)))

      near_leaves : AllByRecursion (Leaves (end_h n)) near.1
      near_leaves =
          by_controller_tick (λ p. AllByRecursion (Leaves (end_h n)) p.1) old (λ q. tt)
          (λ r q.
          let v : Work = near_tick old r in
          let frames : List Entry = flat_map (λ (s : Site). frames_noted Controller s.host s.link v) old.sites in
          all_append (Leaves (end_h n)) v.entries frames
          (others_step (end_h n) 0 Controller (hosts_in old.sites) r old.memory.plan (λ h. (link_to old.sites h).controller) [] TimePasses
          (near_node old r (aged_orderly w so.well.orderly) q) refl (near_other (end_h n) real refl (hosts_in old.sites)) tt)
          (still_leaves (end_h n) frames (all_flat (IsStill (end_h n)) (λ (s : Site). frames_noted Controller s.host s.link v)
          (λ s. frames_still (end_h n) Controller s.host s.link v) old.sites)))

      -- what is noted before the ticks of hosts, and in the ticks of those before the host
      abbrev lead_of : List Site → List Entry
      lead_of before = aged_es ++ (near.1 ++ (hosts_tick before).1)

      tick_of : (x : Site) → site_at near.0.sites n ≡ Some x → (before behind : List Site) → near.0.sites ≡ before ++ (x ∷ behind)
          → AllByRecursion (λ k. eqb k n ≡ false) (hosts_in before)
          → IsFew (lead_of before ++ ((host_ticks x).1 ++ (hosts_tick behind).1)) → E Ticks (lead_of before ++ ((host_ticks x).1 ++ (hosts_tick behind).1))
      tick_of x found before behind is apart =
          by_host_tick (λ p. IsFew (lead ++ (p.1 ++ far)) → E Ticks (lead ++ (p.1 ++ far))) x
          (λ q few.
          off_so Ticks (lead ++ far)
          (ticked_off (λ y there. let same : Some x ≡ Some y = sym found ∙ there in let one : x ≡ y = cc in ap (λ (z : Site). z.node) (sym one) ∙ q))
          (all_append _ lead far lead_not far_not))
          (λ r q.
          let v : Work = host_tick x r in
          let frames : List Entry = frames_noted Host x.host (exchanged x.link) v in
          subst (λ l. IsFew (lead ++ l) → E Ticks (lead ++ l)) (sym (append_assoc v.entries frames far))
          (λ few.
          inr (own_at x at Ticks i0 refl (ticked_stands x found) lead (frames ++ far) r q x.link.host refl [] (blank_opens n) TimePasses tt lead_not lead_leaves
          (all_append _ frames far (turnless_there n frames (frames_turnless Host x.host (exchanged x.link) v)) (other_turns n far far_not))
          (all_append _ frames far
          (quiet_if n frames (unanswered_all n frames (out_unanswered Host x.host (exchanged x.link) v)) (frames_uncut Host x.host (exchanged x.link) v))
          (others_quiet n far far_not))
          (all_append _ frames far (frames_calm n Host x.host (exchanged x.link) v) (others_calm n far far_not))
          (all_append (Leaves (end_h n)) frames far
          (still_leaves (end_h n) frames (frames_still (end_h n) Host x.host (exchanged x.link) v))
          (ticks_leave (end_h n) real behind behind_fine (λ far. behind_apart)))
          (ticked_read hosts past w so x before behind is r q) few)))
        where
          lead : List Entry
          lead = lead_of before

          far : List Entry
          far = (hosts_tick behind).1

          at : x.host ≡ n
          at = site_host near.0.sites n x found

          parts : AreNodes before × AreNodes (x ∷ behind)
          parts = front_all (λ (s : Site). ((s.host == 0) ≡ false) × IfItRuns s.host (s.host ∷ []) s.node) before (x ∷ behind) (subst AreNodes is nodes)

          different : AreDifferent (hosts_in (before ++ (x ∷ behind)))
          different = subst (λ l. AreDifferent (hosts_in l)) is fine.different

          before_fine : AreFine before
          before_fine = record {
            different = front_different before (x ∷ behind) different;
            hosts = (front_all (λ (s : Site). eqb s.host 0 ≡ false) before (x ∷ behind)
                (subst (AllByRecursion (λ (s : Site). eqb s.host 0 ≡ false)) is fine.hosts)).0;
            nodes = (front_all (λ (s : Site). IfItRuns s.host (s.host ∷ []) s.node) before (x ∷ behind)
                (subst (AllByRecursion (λ (s : Site). IfItRuns s.host (s.host ∷ []) s.node)) is fine.nodes)).0;
          }

          behind_apart : AllByRecursion (λ j. eqb j n ≡ false) (hosts_in behind)
          behind_apart = subst (λ k. AllByRecursion (λ j. eqb j k ≡ false) (hosts_in behind)) at (behind_off before x behind different)

          behind_fine : AreFine behind
          behind_fine = record {
            different = (back_different before (x ∷ behind) different).1;
            hosts = (front_all (λ (s : Site). eqb s.host 0 ≡ false) before (x ∷ behind)
                (subst (AllByRecursion (λ (s : Site). eqb s.host 0 ≡ false)) is fine.hosts)).1.1;
            nodes = (front_all (λ (s : Site). IfItRuns s.host (s.host ∷ []) s.node) before (x ∷ behind)
                (subst (AllByRecursion (λ (s : Site). IfItRuns s.host (s.host ∷ []) s.node)) is fine.nodes)).1.1;
          }

          lead_not : AreNotOf n lead
          lead_not =
              all_append _ aged_es (near.1 ++ (hosts_tick before).1) (aged_of_none n w)
              (all_append _ near.1 (hosts_tick before).1 near_not (others_tick n before apart parts.0))

          lead_leaves : AllByRecursion (Leaves (end_h n)) lead
          lead_leaves =
              all_append (Leaves (end_h n)) aged_es (near.1 ++ (hosts_tick before).1)
              (still_leaves (end_h n) aged_es (aged_entries_still (end_h n) real w))
              (all_append (Leaves (end_h n)) near.1 (hosts_tick before).1 near_leaves (ticks_leave (end_h n) real before before_fine (λ far. apart)))

          far_not : AreNotOf n far
          far_not =
              others_tick n behind behind_apart parts.1.1

      ticking_so : IsFew (world_ticks w).1 → E Ticks (world_ticks w).1
      ticking_so few = go (site_at near.0.sites n) refl where
        go : (o : Option Site) → site_at near.0.sites n ≡ o → E Ticks (aged_es ++ (near.1 ++ (hosts_tick near.0.sites).1))
        go None q =
            off_so Ticks (aged_es ++ (near.1 ++ (hosts_tick near.0.sites).1)) (ticked_off (λ y there. let no : None ≡ Some y = sym q ∙ there in absurd (cc no)))
            (all_append _ aged_es (near.1 ++ (hosts_tick near.0.sites).1) (aged_of_none n w)
            (all_append _ near.1 (hosts_tick near.0.sites).1 near_not (others_tick n near.0.sites (none_found near.0.sites n q) nodes)))
        go (Some x) q =
            let s : SplitSites near.0.sites n x = split_sites near.0.sites n x q in
            let own : List Entry = (host_ticks x).1 ++ (hosts_tick s.behind).1 in
            let shape : aged_es ++ (near.1 ++ (hosts_tick near.0.sites).1) ≡ lead_of s.before ++ own =
            ap (λ l. aged_es ++ (near.1 ++ (hosts_tick l).1)) s.is
            ∙ (ap (λ l. aged_es ++ (near.1 ++ l)) (ticks_split s.before x s.behind)
            ∙ (ap (λ l. aged_es ++ l) (sym (append_assoc near.1 (hosts_tick s.before).1 own))
            ∙ sym (append_assoc aged_es (near.1 ++ (hosts_tick s.before).1) own))) in
            subst (E Ticks) (sym shape) (tick_of x q s.before s.behind s.is s.off (subst IsFew shape few))

    -- ### Any event

    pub event_parted : (c : Happening) → IsFew (world_step w c).1 → E c (world_step w c).1
    event_parted (Boots k) few = turnless_so (Boots k) (boots w k).1 refl (grind arith)
    event_parted (IsCut k) few = turnless_so (IsCut k) (world_step w (IsCut k)).1 refl (refl, tt)
    event_parted (Gives e m) few =
        turnless_so (Gives e m) (world_step w (Gives e m)).1 refl (begun_turnless w e.link (sending e.link m) (sending_turnless e.link m))
    event_parted (Inits e identity pipes) few =
        turnless_so (Inits e identity pipes) (world_step w (Inits e identity pipes)).1 refl
        (begun_turnless w e.link (beginning identity pipes) (beginning_turnless identity pipes))
    event_parted (Takes e) few = coming_so e NextFrame (Takes e) refl (λ q. q) (λ same none. (same, grind arith)) few
    event_parted (Loses e why) few = turnless_so (Loses e why) (frame_lost w e why).1 refl (grind arith)
    event_parted Ticks few = ticking_so few
    event_parted (Resets e window) few = coming_so e (AsksReset window) (Resets e window) refl (λ q. q) (λ same none. absurd (cc none)) few
    event_parted (Activates h sync power) few = activates_so h sync power few
    event_parted (Arms k plan) few = turnless_so (Arms k plan) [] refl tt

    -- each message that has its turn there is answered as is read
    pub event_so : (c : Happening) → IsFew (world_step w c).1 → EventSo hosts past n c (world_step w c).1
    event_so c few = go (event_parted c few) where
      go : E c (world_step w c).1 → EventSo hosts past n c (world_step w c).1
      go (inl nothing) =
          λ front behind x k is turn.
          let no : None ≡ Some k = sym (is_none n front x behind (subst (NoneAt n) is nothing.0)) ∙ turn in absurd (cc no)
      go (inr a) = replied_so hosts past n c (world_step w c).1 a
