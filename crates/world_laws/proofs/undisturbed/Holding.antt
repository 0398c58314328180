-- Whether an end takes fragments is told by the turns of its node, and one that takes none has its first message noted as held.
use Rattle.world_laws.proofs.Words.{About, AsksReset, AtEnd, Bool, Comes, CutOff, Deed, Desk, EndState, Ending, Entry, FetchMessage, Give, GoesOut, Hold}
use Rattle.world_laws.proofs.Words.{IsComing, IsOutside, Link, LinkEnd, LinkInput, List, Message, NextFrame, NoInput, NodeInput, None, Option, Port, Release}
use Rattle.world_laws.proofs.Words.{Reset, SetAside, Some, Start, Starts, Stop, Stops, Take, Tick, TimePasses, Turn, Work, [], after_input, after_sessions}
use Rattle.world_laws.proofs.Words.{after_turn, all_come, all_done, all_owed, ap, arith, by_list, by_option, by_test, changed_if, cond, done, end_of_node}
use Rattle.world_laws.proofs.Words.{ended_by, eqb-true, false, finished, flat_map, forgets, forgotten, has_come, input_at, input_of, is_forgotten, is_held}
use Rattle.world_laws.proofs.Words.{is_held_at, is_over, is_some, is_waiting, lacking, map, most_frames, not, notified, noting, option_map_or, port_at, refl}
use Rattle.world_laws.proofs.Words.{reset_late, reset_with, sent_all, sent_same, silent, steps, steps_at_controller, subst, sym, synced, ticked_so}
use Rattle.world_laws.proofs.Words.{ticks_at_controller, times_out, true, true≢false, turn, turn_at, turned, unless_cut, waiting_at, with_desk, with_ended}
use Rattle.world_laws.proofs.Words.{with_older, with_port, without_notice, ℕ, ◌&&◌, ◌++◌, ◌==◌, ◌∙◌, ◌∷◌, ◌≡◌}
use Rattle.node_laws.proofs.kept.Doing.{stays_cut, uncut}
use Rattle.node_laws.proofs.passes.Passing.{have_handled, have_held}
use Rattle.node_laws.proofs.passes.Replying.{other_stays, own_changed}
use Rattle.node_laws.proofs.steps.StepWalks.{changed_host, come_host, forgets_host, late_host, unless, without_host}
use Rattle.node_laws.proofs.telling.Accounts.{deeds_mute, handling}
use Rattle.node_laws.proofs.telling.Steps.{at_map}
use Rattle.node_machine.specs.Controller.{asked_at}
use Rattle.node_machine.specs.Parts.About.{Removed, Waits}
use Rattle.node_machine.specs.Parts.Deed.{Asks, Commits, IsAnswered, Orders, Releases, Sends, SetsErrors, Tells}
use Rattle.node_machine.specs.Turns.{deeds_of, goes_through_ends, handles, have_turns, holds_back, lets_go, passes}
use Rattle.trace_model.specs.declared.entry.Entry.TheVariants as entry

-- ## What an end takes and sends leaves whether it takes fragments: its node alone says so

reset_ready : (e : EndState) (w : ℕ) → (reset_with e w).ready ≡ e.ready
reset_ready e w = by_test (is_waiting e) (λ q. rw q refl) (λ q. rw q refl)

-- ### Its node's turns

-- whether it takes fragments after a turn
abbrev pub ready_after : Bool → Turn → Bool
ready_after ready (Hold held) = not held
ready_after ready _ = ready

pub turn_ready : (e : LinkEnd) (t : Turn) → (turn e t).shdlc.ready ≡ ready_after e.shdlc.ready t
turn_ready e t = grind arith

-- its frames that are due go out
pub sent_ready : (e : LinkEnd) → (sent_all e).shdlc.ready ≡ e.shdlc.ready
sent_ready e = (sent_same most_frames e.shdlc).ready

-- ## Whether an end takes fragments behind a step is told by the turns of its node alone

-- ### Turns

-- whether an end takes fragments after these turns
abbrev pub readied : Bool → List Turn → Bool
readied ready [] = ready
readied ready (t ∷ ts) = readied (ready_after ready t) ts

readied-append : (ready : Bool) (ts : List Turn) (t : Turn) → readied ready (ts ++ t ∷ []) ≡ ready_after (readied ready ts) t
readied-append ready [] t = refl
readied-append ready (x ∷ ts) t = readied-append (ready_after ready x) ts t

turned_ready : (e : LinkEnd) (ts : List Turn) → (turned e ts).shdlc.ready ≡ readied e.shdlc.ready ts
turned_ready e [] = refl
turned_ready e (t ∷ ts) = turned_ready (turn e t) ts ∙ ap (λ b. readied b ts) (turn_ready e t)

-- ### What comes

coming_ready : (e : LinkEnd) (i : LinkInput) → IsComing i → (after_input e i).shdlc.ready ≡ e.shdlc.ready
coming_ready e (Take c) is = grind arith
coming_ready e Tick is = grind arith
coming_ready e (Reset window) is = grind arith
coming_ready e (Start value) is = grind arith
coming_ready e Stop is = grind arith
coming_ready e _ is = absurd is

-- ### Steps

-- a step ends: where the node loses its power, its end is new
abbrev pub ready_at_end : Ending → Bool → Bool
ready_at_end GoesOut ready = ready
ready_at_end CutOff ready = true

finished_ready : (l : Link) (e : LinkEnd) (ending : Ending) → (finished l e ending).controller.side.shdlc.ready ≡ ready_at_end ending e.shdlc.ready
finished_ready l e GoesOut = sent_ready e
finished_ready l e CutOff = grind arith

all_ready : (l : Link) (e : LinkEnd) (ts : List Turn) (ending : Ending)
    → (finished l (turned e ts) ending).controller.side.shdlc.ready ≡ ready_at_end ending (readied e.shdlc.ready ts)
all_ready l e ts ending = finished_ready l (turned e ts) ending ∙ ap (ready_at_end ending) (turned_ready e ts)

module _ (l : Link) (ts : List Turn) (ending : Ending) where
  -- what the turns and the ending of a step tell of the end
  abbrev pub then_ready : Bool
  then_ready = ready_at_end ending (readied l.controller.side.shdlc.ready ts)

  came : (m : Link) (i : LinkInput) → IsComing i → (finished m (turned (after_input l.controller.side i) ts) ending).controller.side.shdlc.ready ≡ then_ready
  came m i is =
      all_ready m (after_input l.controller.side i) ts ending
      ∙ ap (λ b. ready_at_end ending (readied b ts)) (coming_ready l.controller.side i is)

  pub idle_ready : (steps_at_controller l NoInput ts ending).controller.side.shdlc.ready ≡ then_ready
  idle_ready = all_ready l l.controller.side ts ending

  pub stepped_ready : (comes : Comes) (i : LinkInput) → input_of l comes ≡ Some i
      → (steps_at_controller l comes ts ending).controller.side.shdlc.ready ≡ then_ready
  stepped_ready NextFrame i q = by_list l.to_controller
      (λ z. let none : None ≡ Some i = rw z at q in absurd (cc none))
      (λ x xs z. rw z (came _ (Take x.frame) tt))
  stepped_ready (AsksReset window) i q = came (with_ended l (is_some (ended_by l.controller.side (Reset window)))) (Reset window) tt
  stepped_ready (Starts value) i q = came (silent l (after_input l.controller.side (Start value))) (Start value) tt
  stepped_ready Stops i q = came (silent l (after_input l.controller.side Stop)) Stop tt
  stepped_ready NoInput i q = absurd (cc q)

  -- something comes, or nothing
  pub near_ready : (b : Bool) (comes : Comes) (i : LinkInput) → (b ≡ true → input_of l comes ≡ Some i)
      → (steps_at_controller l (cond b comes NoInput) ts ending).controller.side.shdlc.ready ≡ then_ready
  near_ready true comes i q = stepped_ready comes i (q refl)
  near_ready false comes i q = idle_ready

  pub tick_ready : (ticks_at_controller l ts ending).controller.side.shdlc.ready ≡ then_ready
  tick_ready = came (with_ended l (is_some (ended_by l.controller.side Tick))) Tick tt

  pub late_ready : (late : Bool) → (ticked_so l late ts ending).controller.side.shdlc.ready ≡ then_ready
  late_ready late = by_test (late && not (is_waiting l.controller.side.shdlc))
      (λ q. rw q (came (with_ended l (is_some (ended_by l.controller.side (Reset None)))) (Reset None) tt))
      (λ q. rw q tick_ready)

-- ## Behind each step of a node an end that takes no fragments is one whose first message was noted as held

-- ### Ends

-- this holds of an end, which is there
abbrev pub There : (Port → Type 0) → Option Port → Type 0
There P None = ⊥
There P (Some p) = P p

map_there : (P Q : Port → Type 0) (f : Port → Port) → ((p : Port) → (f p).desk.host ≡ p.desk.host) → (ports : List Port) (k : ℕ)
    → ((p : Port) → P p → Q (f p)) → There P (port_at ports k) → There Q (port_at (map f ports) k)
map_there P Q f host ports k one a = by_option (port_at ports k)
    (λ q. absurd (subst (There P) q a))
    (λ p q. subst (There Q) (sym (at_map f host ports k p q)) (one p (subst (There P) q a)))

with_there : (P : Port → Type 0) (j : ℕ) (f : Port → Port) → ((p : Port) → (f p).desk.host ≡ p.desk.host) → (ports : List Port) (k : ℕ)
    → ((p : Port) → P p → P (f p)) → There P (port_at ports k) → There P (port_at (with_port j f ports) k)
with_there P j f host ports k one a =
    map_there P P (λ p. changed_if (p.desk.host == j) f p) (λ p. changed_host (p.desk.host == j) f p host) ports k (λ p x. grind arith) a

-- while the power of a node is on
abbrev pub IfOn : (Work → Type 0) → Work → Type 0
IfOn J w = w.cut ≡ false → J w

-- a turn neither holds an end nor lets it go
abbrev IsNoHold : Turn → Type 0
IsNoHold (Hold held) = ⊥
IsNoHold _ = Unit {0}

-- whether this end takes fragments is told by its turns, where it took them before or didn't
abbrev pub AreTold : Bool → Port → Type 0
AreTold ready p = p.side.shdlc.ready ≡ readied ready p.turns

-- and where it takes none, its first message was noted as held
pub record KeepsHeld (ready : Bool) (p : Port) : Type 0 where
  pub told : AreTold ready p
  pub held : p.side.shdlc.ready ≡ false → p.desk.holds ≡ true

module _ (k : ℕ) (ready : Bool) where
  abbrev pub Told : Work → Type 0
  Told w = There (AreTold ready) (port_at w.ports k)

  abbrev pub Kept : Work → Type 0
  Kept w = There (KeepsHeld ready) (port_at w.ports k)

  -- ### What is told

  told_after : (t : Turn) (p : Port) → AreTold ready p → AreTold ready (after_turn t p)
  told_after t p a = turn_ready p.side t ∙ (ap (λ b. ready_after b t) a ∙ sym (readied-append ready p.turns t))

  told_turn : (j : ℕ) (t : Turn) (w : Work) → Told w → Told (turn_at j t w)
  told_turn j t w a = with_there (AreTold ready) j (after_turn t) (λ p. refl) w.ports k (told_after t) a

  told_desk : (j : ℕ) (f : Desk → Desk) (w : Work) → ((d : Desk) → (f d).host ≡ d.host) → Told w → Told (with_desk j f w)
  told_desk j f w host a = with_there (AreTold ready) j (λ p. record p { desk = f p.desk }) (λ p. host p.desk) w.ports k (λ p x. x) a

  told_handles : (m : Message) (w : Work) → Told w → Told (handles k m (deeds_of w.core w.ports k m) w)
  told_handles m w a =
      handling Told (λ es v s u x. x) told_desk told_turn (λ u v cut node ports entries x. subst (λ ps. There (AreTold ready) (port_at ps k)) (sym ports) x)
      (λ writes v x. x) k m (deeds_of w.core w.ports k m) w (deeds_mute w.core w.ports k m) a

  -- ### Deeds

  kept_turn : (j : ℕ) (t : Turn) (w : Work) → IsNoHold t → Kept w → Kept (turn_at j t w)
  kept_turn j t w n a =
      with_there (KeepsHeld ready) j (after_turn t) (λ p. refl) w.ports k
      (λ p x. record { told = told_after t p x.told; held = λ busy. x.held (sym (turn_ready p.side t ∙ (grind arith)) ∙ busy) }) a

  kept_desk : (j : ℕ) (f : Desk → Desk) (w : Work) → ((d : Desk) → (f d).host ≡ d.host) → ((d : Desk) → (f d).holds ≡ d.holds) → Kept w
      → Kept (with_desk j f w)
  kept_desk j f w host holds a =
      with_there (KeepsHeld ready) j (λ p. record p { desk = f p.desk }) (λ p. host p.desk) w.ports k
      (λ p x. record { told = x.told; held = λ busy. holds p.desk ∙ x.held busy }) a

  kept_notified : (j : ℕ) (about : About) (message : List ℕ) (w : Work) → Kept w → Kept (notified j about message w)
  kept_notified j about message w a =
      kept_desk j (λ d. record d { notice = Some (record { about = about; age = 0 }) }) (turn_at j (Give (1, message)) w) (λ d. refl) (λ d. refl)
      (kept_turn j (Give (1, message)) w tt a)

  kept_deed : (h : ℕ) (d : Deed) (w : Work) → Kept w → Kept (done h d w)
  kept_deed h (Commits c) w a = grind arith
  kept_deed h (Sends to m) w a = kept_turn to (Give m) w tt a
  kept_deed h (Asks to message c) w a =
      kept_notified to (Waits c) message (noting (entry.Ask to message ∷ []) (turn_at c.asker SetAside w)) (kept_turn c.asker SetAside w tt a)
  kept_deed h (Releases asker) w a = kept_turn asker Release w tt a
  kept_deed h (Tells to message) w a = kept_notified to Removed message w a
  kept_deed h IsAnswered w a = kept_desk h (λ d. record d { notice = None }) w (λ d. refl) (λ d. refl) a
  kept_deed h (SetsErrors errors) w a = kept_desk h (λ d. record d { errors = errors }) w (λ d. refl) (λ d. refl) a
  kept_deed h (Orders message) w a = kept_turn h (Give (1, message)) (record w { core = record w.core { command = Some message } }) tt a
  kept_deed h _ w a = a

  pub kept_deeds : (h : ℕ) (deeds : List Deed) (w : Work) → Kept w → Kept (all_done h deeds w)
  kept_deeds h [] w a = a
  kept_deeds h (d ∷ deeds) w a = unless Kept (all_done h deeds) (done h d w) (λ v x. kept_deeds h deeds v x) (kept_deed h d w a)

  -- ### Its own turns

  lets_own : (w : Work) → Told w → Kept (lets_go k w)
  lets_own w a = go (port_at w.ports k) refl a
    where
      go : (o : Option Port) → port_at w.ports k ≡ o → There (AreTold ready) o → Kept (lets_go k w)
      go None q x = absurd x
      go (Some p) q x = by_test p.side.shdlc.ready
          (λ r. grind arith)
          (λ r. let some : option_map_or (λ (p : Port). is_held p.side) (port_at w.ports k) false ≡ true = (rw q refl) ∙ ap not r in
          let goes : lets_go k w ≡ turn_at k (Hold false) w = rw some refl in
          subst Kept (sym goes)
          (subst (There (KeepsHeld ready)) (sym (own_changed k (after_turn (Hold false)) (λ p. refl) w.ports p q))
          (record { told = told_after (Hold false) p x; held = λ busy. absurd (true≢false (sym (turn_ready p.side (Hold false)) ∙ busy)) })))

  holds_own : (short : ℕ × ℕ) (w : Work) → Told w → Kept (holds_back k short w)
  holds_own short w a = go (port_at w.ports k) refl a
    where
      go : (o : Option Port) → port_at w.ports k ≡ o → There (AreTold ready) o → Kept (holds_back k short w)
      go None q x = absurd x
      go (Some p) q x = by_test (is_held_at w.ports k)
          (λ r. let goes : holds_back k short w ≡ turn_at k (Hold true) w = rw r refl in
          let holds : p.desk.holds ≡ true = sym (ap (λ (o : Option Port). option_map_or (λ (p : Port). p.desk.holds) o false) q) ∙ r in
          subst Kept (sym goes)
          (subst (There (KeepsHeld ready)) (sym (own_changed k (after_turn (Hold true)) (λ p. refl) w.ports p q))
          (record { told = told_after (Hold true) p x; held = λ busy. holds })))
          (λ r. let v : Work = with_desk k (λ d. record d { holds = true }) (noting one w) in
          let goes : holds_back k short w ≡ turn_at k (Hold true) v = rw r refl in
          let here : port_at v.ports k ≡ Some (marked p) = own_changed k marked (λ p. refl) w.ports p q in
          subst Kept (sym goes)
          (subst (There (KeepsHeld ready)) (sym (own_changed k (after_turn (Hold true)) (λ p. refl) v.ports (marked p) here))
          (record { told = told_after (Hold true) (marked p) x; held = λ busy. refl })))
        where
          one : List Entry
          one = entry.Held (end_of_node w.core k) short.0 short.1 ∷ []

          marked : Port → Port
          marked z = record z { desk = record z.desk { holds = true } }

  own_turns : (messages : List Message) (w : Work) → Told w → IfOn Kept (have_turns k messages w)
  own_turns [] w a = λ on. lets_own w a
  own_turns (m ∷ messages) w a = by_option (lacking w k m)
      (λ q. subst (IfOn Kept) (sym (have_handled k m messages w q)) (by v.cut refl (λ u x. own_turns messages u x)))
      (λ short q. subst (IfOn Kept) (sym (have_held k m messages w short q)) (λ on. holds_own short w a))
    where
      v : Work
      v = handles k m (deeds_of w.core w.ports k m) w

      by : (c : Bool) → v.cut ≡ c → ((u : Work) → Told u → IfOn Kept (have_turns k messages u)) → IfOn Kept (unless_cut (have_turns k messages) v)
      by true z later = subst (IfOn Kept) (sym (stays_cut (have_turns k messages) v z)) (λ on. absurd (true≢false (sym z ∙ on)))
      by false z later = subst (IfOn Kept) (sym (uncut (have_turns k messages) v z)) (later v (told_handles m w a))

  -- ### Turns of other ends

  module _ (h : ℕ) (off : (h == k) ≡ false) where
    turn_other : (t : Turn) (w : Work) → Kept w → Kept (turn_at h t w)
    turn_other t w a = subst (There (KeepsHeld ready)) (sym (other_stays h k (after_turn t) (λ p. refl) w.ports off)) a

    desk_other : (flag : Bool) (w : Work) → Kept w → Kept (with_desk h (λ d. record d { holds = flag }) w)
    desk_other flag w a =
        subst (There (KeepsHeld ready))
        (sym (other_stays h k (λ (p : Port). record p { desk = record p.desk { holds = flag } }) (λ p. refl) w.ports off)) a

    lets_other : (w : Work) → Kept w → Kept (lets_go h w)
    lets_other w a = by_test (option_map_or (λ (p : Port). is_held p.side) (port_at w.ports h) false) (λ q. rw q (turn_other (Hold false) w a)) (λ q. rw q a)

    holds_other : (short : ℕ × ℕ) (w : Work) → Kept w → Kept (holds_back h short w)
    holds_other short w a = by_test (is_held_at w.ports h)
        (λ q. rw q (turn_other (Hold true) w a))
        (λ q. rw q (turn_other (Hold true) (with_desk h (λ d. record d { holds = true }) noted) (desk_other true noted a)))
      where
        noted : Work
        noted = noting (entry.Held (end_of_node w.core h) short.0 short.1 ∷ []) w

    handles_other : (m : Message) (deeds : List Deed) (w : Work) → Kept w → Kept (handles h m deeds w)
    handles_other m deeds w a =
        let told : Work = noting (entry.Turn (end_of_node w.core h) m.0 m.1 ∷ []) w in
        let fetched : Work = turn_at h FetchMessage told in
        kept_deeds h deeds (with_desk h (λ d. record d { holds = false }) fetched) (desk_other false fetched (turn_other FetchMessage told a))

    other_turns : (messages : List Message) (w : Work) → Kept w → Kept (have_turns h messages w)
    other_turns [] w a = lets_other w a
    other_turns (m ∷ messages) w a = by_option (lacking w h m)
        (λ q. subst Kept (sym (have_handled h m messages w q))
        (unless Kept (have_turns h messages) (handles h m deeds w) (λ u x. other_turns messages u x) (handles_other m deeds w a)))
        (λ short q. subst Kept (sym (have_held h m messages w short q)) (holds_other short w a))
      where
        deeds : List Deed
        deeds = deeds_of w.core w.ports h m

  -- ### A pass

  going : (hosts : List ℕ) (w : Work) → Kept w → IfOn Kept (goes_through_ends hosts w)
  going [] w a = λ on. a
  going (h ∷ hosts) w a = by_test v.cut
      (λ z. subst (IfOn Kept) (sym (stays_cut (goes_through_ends hosts) v z)) (λ on. absurd (true≢false (sym z ∙ on))))
      (λ z. subst (IfOn Kept) (sym (uncut (goes_through_ends hosts) v z)) (going hosts v (first z)))
    where
      v : Work
      v = have_turns h (waiting_at w.ports h) w

      first : IfOn Kept v
      first = by_test (h == k)
          (λ q. let P : ℕ → Type 0 = λ j. IfOn Kept (have_turns j (waiting_at w.ports j) w) in
          subst P (sym (eqb-true h k q)) (own_turns (waiting_at w.ports k) w (grind arith)))
          (λ q. λ on. other_turns h q (waiting_at w.ports h) w a)

  -- ### What comes

  come_kept : (p : Port) (i : LinkInput) → IsComing i → KeepsHeld ready p → KeepsHeld ready (has_come p (Some i))
  come_kept p i is a = let h0 = has_come p (Some i) in let h1 = coming_ready p.side i is in grind arith

  come_there : (input : NodeInput) → IsOutside input → (p : Port) → KeepsHeld ready p → KeepsHeld ready (has_come p (input_at input p))
  come_there (AtEnd h i) is p a = by_test (p.desk.host == h) (λ q. rw q (come_kept p i is a)) (λ q. rw q a)
  come_there TimePasses is p a = come_kept p Tick tt a

  late_kept : (p : Port) → KeepsHeld ready p → KeepsHeld ready (reset_late p)
  late_kept p a = grind arith

  forgets_kept : (ports : List Port) (p : Port) → KeepsHeld ready p → KeepsHeld ready (forgets ports p)
  forgets_kept ports p a = by_test (is_forgotten ports (asked_at p)) (λ q. rw q (record { told = a.told; held = a.held })) (λ q. rw q a)

  without_kept : (p : Port) → KeepsHeld ready p → KeepsHeld ready (without_notice p)
  without_kept p a = by_test (is_over p) (λ q. rw q (record { told = a.told; held = a.held })) (λ q. rw q a)

  came_kept : (input : NodeInput) (w : Work) → IsOutside input → Kept w → Kept (times_out input (all_come input w))
  came_kept (AtEnd h i) w is a =
      map_there (KeepsHeld ready) (KeepsHeld ready) (λ p. has_come p (input_at (AtEnd h i) p)) (λ p. come_host p (input_at (AtEnd h i) p)) w.ports k
      (come_there (AtEnd h i) is) a
  came_kept TimePasses w is a =
      let came : List Port = map (λ p. has_come p (input_at TimePasses p)) w.ports in
      map_there (KeepsHeld ready) (KeepsHeld ready) reset_late late_host (map with_older came) k late_kept
      (map_there (KeepsHeld ready) (KeepsHeld ready) with_older (λ p. refl) came k (λ p x. record { told = x.told; held = x.held })
      (map_there (KeepsHeld ready) (KeepsHeld ready) (λ p. has_come p (input_at TimePasses p)) (λ p. come_host p (input_at TimePasses p)) w.ports k
      (come_there TimePasses tt) a))

  -- ### Steps

  pub step_kept : (input : NodeInput) (w : Work) → IsOutside input → Kept w → IfOn Kept (steps input w)
  step_kept input w is a = by_test v.cut
      (λ z. subst (IfOn Kept) (sym (stays_cut passes v z)) (λ on. absurd (true≢false (sym z ∙ on))))
      (λ z. subst (IfOn Kept) (sym (uncut passes v z)) (going (map (λ (p : Port). p.desk.host) v.ports) v before))
    where
      came : Work
      came = times_out input (all_come input w)

      left : List Port
      left = map (forgets came.ports) came.ports

      start : Work
      start = record came { core = after_sessions came.core came.ports; ports = map without_notice left }

      syncs : List Deed
      syncs = flat_map (synced w.core input) w.ports

      begun : Kept start
      begun =
          map_there (KeepsHeld ready) (KeepsHeld ready) without_notice without_host left k without_kept
          (map_there (KeepsHeld ready) (KeepsHeld ready) (forgets came.ports) (forgets_host came.ports) came.ports k (forgets_kept came.ports)
          (came_kept input w is a))

      done_so_far : Work
      done_so_far = all_done 0 syncs (all_done 0 (forgotten came.ports) start)

      v : Work
      v = unless_cut (all_done 0 (all_owed left)) done_so_far

      before : Kept v
      before =
          unless Kept (all_done 0 (all_owed left)) done_so_far (λ u x. kept_deeds 0 (all_owed left) u x)
          (kept_deeds 0 syncs (all_done 0 (forgotten came.ports) start) (kept_deeds 0 (forgotten came.ports) start begun))
