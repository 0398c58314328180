-- A controller has its turns: the creation that a host asked for stays the one that is read, and its ends become what its step makes of
-- them.
use Rattle.node_laws.proofs.Words.{AllByRecursion, AllReach, AreDifferent, Asks, AsksReset, AtEnd, Bool, Comes, Creation, Deed, Desk, Entry, FetchMessage}
use Rattle.node_laws.proofs.Words.{GoesOut, GoesToFree, Hold, IfAwaited, IsAwaited, IsHost, IsShut, Link, LinkEnd, LinkInput, List, Message, NextFrame, NoInput}
use Rattle.node_laws.proofs.Words.{NodeInput, None, Notice, Option, Port, Reset, Some, Start, Starts, Stop, Stops, Tick, TimePasses, Turn, Up, Work, []}
use Rattle.node_laws.proofs.Words.{after_input, after_sessions, after_turn, all_come, all_owed, ap, arith, asked_at, asks_for, by_test, changed_if, cond}
use Rattle.node_laws.proofs.Words.{controller_deeds, deeds_of, end_of_node, eq-eqb, eqb, eqb-true, false, flat_map, forgets, forgotten, goes_through_ends}
use Rattle.node_laws.proofs.Words.{handles, has_come, has_input, has_link, have_turns, holds_back, inl, input_at, input_of, is_held, is_late, is_some, is_up}
use Rattle.node_laws.proofs.Words.{is_waiting, lack, lets_go, map, nat_lt, ne_eqb, need, needs, not, noting, option_map, option_map_or, passes, port_at, refl}
use Rattle.node_laws.proofs.Words.{reset_late, sent_all, spare, steps, steps_at_controller, subst, sym, synced, ticked_so, ticks_at_controller, times_out, true}
use Rattle.node_laws.proofs.Words.{true≢false, turn, turn_at, turned, unless_cut, view_of, with_desk, with_older, with_port, without_notice, ℕ, ◌++◌, ◌∙◌, ◌∷◌}
use Rattle.node_laws.proofs.Words.{◌≡◌}
use Rattle.node_laws.proofs.creations.Outcomes.{Asked, IsAskedSo, LeavesAsked, Outcome, Split, all_leave, asked_of, none_waits, outcome, split_at, waits}
use Rattle.node_laws.proofs.creations.Doing.{Fine, Good, HasBlock, agrees, asks_one, desks, hears, leaves, many, notes, then_fine, turns}
use Rattle.node_laws.proofs.creations.Outcomes.Outcome.{IsAsking, IsDone, IsHeard, Stays}
use Rattle.node_laws.proofs.links.Noticing.{UpAt, at_all, controller_reach}
use Rattle.node_laws.proofs.notices.Telling.{controller_free}
use Rattle.node_laws.proofs.readings.Noticed.{up_is}
use Rattle.node_laws.proofs.readings.Turning.{lack_parts}
use Rattle.node_laws.proofs.steps.StepWalks.{changed_host, come_host, forgets_host, late_host, without_host}
use Rattle.node_laws.proofs.telling.Accounts.{AreSilent, all_owed_mute, all_synced_mute, at_changed, forgotten_mute, rest, turned-append}
use Rattle.node_laws.proofs.telling.Ticks.{IsLate, late_parts, reset_same}
use Rattle.node_laws.proofs.telling.Steps.{forgets_same, without_same}
use Rattle.trace_model.specs.declared.entry.Entry.TheVariants as entry

-- ## A controller has its turns: the creation that a host asked for stays the one that is read

all_middle : {X : Type 0} (P : X → Type 0) (front back : List X) (e : X) → AllByRecursion P (front ++ (e ∷ back)) → P e
all_middle P [] back e a = a.0
all_middle P (z ∷ front) back e a = all_middle P front back e a.1

due_at : (asked : Asked) (k : ℕ) (c : Creation) → Split asked k (Some c) → AllByRecursion (λ (e : ℕ × Option Creation). IfAwaited e.1) asked → IsAwaited c
due_at asked k c s a =
    all_middle (λ (e : ℕ × Option Creation). IfAwaited e.1) s.front s.back (s.key, Some c)
    (subst (AllByRecursion (λ (e : ℕ × Option Creation). IfAwaited e.1)) s.is a)

-- an end with a link that is up and a block to spare
block_at : (ports : List Port) (x : ℕ) → nat_lt (option_map_or (λ (p : Port). spare p.side) (port_at ports x) 0) 1 ≡ false → has_link ports x ≡ true
    → HasBlock (port_at ports x)
block_at ports x room up = grind arith

-- it has it still, where ends are changed that keep that
block_with : (k x : ℕ) (g : Port → Port) (ports : List Port) → ((p : Port) → (g p).desk.host ≡ p.desk.host)
    → ((p : Port) → HasBlock (Some p) → HasBlock (Some (g p))) → HasBlock (port_at ports x) → HasBlock (port_at (with_port k g ports) x)
block_with k x g ports host one a =
    subst HasBlock (sym (at_all ports x (λ p. changed_if (eqb p.desk.host k) g p) (λ p. changed_host (eqb p.desk.host k) g p host)))
    (grind arith)

module _ (x : ℕ) (before : List Entry) (hosts : List ℕ) (different : AreDifferent hosts) where
  module _ (k : ℕ) (host : IsHost k) where
    -- the work as a message is the node's, and nothing is done with it yet
    abbrev fetched : Message → Work → Work
    fetched m w = with_desk k (λ d. record d { holds = false }) (turn_at k FetchMessage (noting (entry.Turn (end_of_node w.core k) m.0 m.1 ∷ []) w))

    fetched_good : (asked : Asked) (m : Message) (w : Work) → Good x before hosts asked [] w → Good x before hosts asked [] (fetched m w)
    fetched_good asked m w a =
        let noted : Work = noting (entry.Turn (end_of_node w.core k) m.0 m.1 ∷ []) w in
        let n : ℕ = many x before hosts asked [] in
        desks x before hosts asked [] n k (λ d. record d { holds = false }) (turn_at k FetchMessage noted) (λ d. refl) (λ d. refl)
        (turns x before hosts asked [] n k FetchMessage noted tt (λ p e. refl)
        (notes x before hosts asked [] n (entry.Turn (end_of_node w.core k) m.0 m.1 ∷ []) w (λ b. refl) refl a))

    fetched_block : (m : Message) (w : Work) → HasBlock (port_at w.ports x) → HasBlock (port_at (fetched m w).ports x)
    fetched_block m w b =
        block_with k x (λ p. record p { desk = record p.desk { holds = false } }) (with_port k (after_turn FetchMessage) w.ports) (λ q. refl) (λ q z. z)
        (block_with k x (after_turn FetchMessage) w.ports (λ q. refl) (λ q z. z) b)

    -- ### Messages

    module _ (asked : Asked) (m : Message) (w : Work) (a : Good x before hosts asked [] w) where
      abbrev deeds : List Deed
      deeds = controller_deeds (view_of w.core w.ports) k m

      apart : AreDifferent (map (λ (p : Port). p.desk.host) w.ports)
      apart = subst AreDifferent (sym a.hosts_are) different

      split : (to : ℕ) (p : Port) (o : Option Creation) → port_at w.ports to ≡ Some p → asked_at p ≡ o → Split asked to o
      split to p o here is = subst (λ l. Split l to o) a.asked_are (subst (Split (asked_of w.ports) to) is (split_at w.ports to p apart here))

      asks_so : (to : ℕ) (notice : List ℕ) (c : Creation) → deeds ≡ Asks to notice c ∷ [] → IsAskedSo w.ports k to notice c
          → lack w.ports (needs k deeds) ≡ None → Fine x before hosts (handles k m deeds w)
      asks_so to notice c e so room =
          subst (λ d. Fine x before hosts (handles k m d w)) (sym e)
          (asks_one x before hosts asked to notice c so.due so.notice_of (fetched m w) free block (fetched_good asked m w a) k (there (port_at w.ports to) refl
          reach.0))
        where
          reach : AllReach w.ports (Asks to notice c ∷ [])
          reach = subst (λ d. AllReach w.ports d) e (controller_reach w.core w.ports k m)

          unnoticed : AllByRecursion (GoesToFree w.ports) (Asks to notice c ∷ [])
          unnoticed = subst (λ d. AllByRecursion (GoesToFree w.ports) d) e (controller_free w.core w.ports k m)

          none_of : (p : Port) (o : Option Notice) → p.desk.notice ≡ o → is_some o ≡ false → asked_at p ≡ None
          none_of p o is off = grind arith

          there : (o : Option Port) → port_at w.ports to ≡ o → option_map_or (λ (p : Port). is_up p.side.shdlc.phase) o false ≡ true → Split asked to None
          there None is up = absurd (true≢false (sym up))
          there (Some p) is up =
              split to p None is (none_of p p.desk.notice refl (sym (ap (λ o. option_map_or (λ (p : Port). is_some p.desk.notice) o false) is) ∙ unnoticed.0))

          asker_is : eqb c.asker x ≡ true → k ≡ x
          asker_is z = sym so.asker ∙ eqb-true c.asker x z

          free : eqb c.asker x ≡ true → waits x asked ≡ []
          free z = subst (λ l. waits x l ≡ []) a.asked_are (none_waits x w.ports (subst (λ n. asks_for w.ports n ≡ false) (asker_is z) so.asks))

          block : eqb c.asker x ≡ true → HasBlock (port_at (fetched m w).ports x)
          block z =
              fetched_block m w (block_at w.ports x
              (subst (λ n. nat_lt (option_map_or (λ (p : Port). spare p.side) (port_at w.ports n) 0) 1 ≡ false) (eqb-true c.asker x z)
              (lack_parts w.ports c.asker 1 ((to, need notice) ∷ []) (ap (λ d. lack w.ports (needs k d)) (sym e) ∙ room)).0)
              (subst (λ n. has_link w.ports n ≡ true) (asker_is z) so.up))

      pub handled : lack w.ports (needs k deeds) ≡ None → Fine x before hosts (handles k m deeds w)
      handled room = go (outcome x w.core w.ports k (ne_eqb k 0 (λ z. omega (arith, z, host.0))) a.rows m) where
        go : Outcome x w.ports k deeds → Fine x before hosts (handles k m deeds w)
        go (Stays may) =
            leaves x before hosts k asked deeds (fetched m w)
            (subst (λ l. AllByRecursion (LeavesAsked x l) deeds) a.asked_are
            (all_leave x w.ports deeds apart may (controller_free w.core w.ports k m))) (fetched_good asked m w a)
        go (IsAsking to notice c e so) = asks_so to notice c e so room
        go (IsHeard p here is e) =
            subst (λ d. Fine x before hosts (handles k m d w)) (sym e)
            (hears x before hosts k asked (fetched m w) (split k p None here is) (fetched_good asked m w a))
        go (IsDone p c flag here is e) =
            let s : Split asked k (Some c) = split k p (Some c) here is in
            subst (λ d. Fine x before hosts (handles k m d w)) (sym e)
            (agrees x before hosts k asked c flag (fetched m w) s (due_at asked k c s a.due) (fetched_good asked m w a))

    holds_good : (asked : Asked) (short : ℕ × ℕ) (w : Work) → Good x before hosts asked [] w → Good x before hosts asked [] (holds_back k short w)
    holds_good asked short w a = by_test (option_map_or (λ (p : Port). p.desk.holds) (port_at w.ports k) false)
        (λ q. rw q (turns x before hosts asked [] n k (Hold true) w tt (λ p e. refl) a))
        (λ q. rw q (turns x before hosts asked [] n k (Hold true) (with_desk k (λ d. record d { holds = true }) told) tt (λ p e. refl)
        (desks x before hosts asked [] n k (λ d. record d { holds = true }) told (λ d. refl) (λ d. refl)
        (notes x before hosts asked [] n (entry.Held (end_of_node w.core k) short.0 short.1 ∷ []) w (λ b. refl) refl a)))) where
          n : ℕ
          n = many x before hosts asked []

          told : Work
          told = noting (entry.Held (end_of_node w.core k) short.0 short.1 ∷ []) w

    lets_good : (asked : Asked) (w : Work) → Good x before hosts asked [] w → Good x before hosts asked [] (lets_go k w)
    lets_good asked w a = by_test (option_map_or (λ (p : Port). is_held p.side) (port_at w.ports k) false)
        (λ q. rw q (turns x before hosts asked [] (many x before hosts asked []) k (Hold false) w tt (λ p e. refl) a))
        (λ q. rw q a)

    have_good : (messages : List Message) (asked : Asked) (w : Work) → Good x before hosts asked [] w → Fine x before hosts (have_turns k messages w)
    have_good [] asked w a = inl (record { asked = asked; good = lets_good asked w a })
    have_good (m ∷ messages) asked w a =
        subst (Fine x before hosts) (sym (ap (λ d. by d (lack w.ports (needs k d))) deeds_are))
        (go (lack w.ports (needs k now)) refl (λ l v b. have_good messages l v b)) where
          now : List Deed
          now = controller_deeds (view_of w.core w.ports) k m

          by : List Deed → Option (ℕ × ℕ) → Work
          by d None = unless_cut (have_turns k messages) (handles k m d w)
          by d (Some short) = holds_back k short w

          deeds_are : deeds_of w.core w.ports k m ≡ now
          deeds_are = let zero : eqb w.core.node 0 ≡ true = eq-eqb w.core.node 0 a.node in rw zero refl

          go : (o : Option (ℕ × ℕ)) → lack w.ports (needs k now) ≡ o
              → ((l : Asked) (v : Work) → Good x before hosts l [] v → Fine x before hosts (have_turns k messages v)) → Fine x before hosts (by now o)
          go None e later =
              then_fine x before hosts (have_turns k messages) (handles k m now w) (handled asked m w a e) (λ l b. later l (handles k m now w) b)
          go (Some short) e later = inl (record { asked = asked; good = holds_good asked short w a })

  ends_good : (ends : List ℕ) (asked : Asked) (w : Work) → AllByRecursion IsHost ends → Good x before hosts asked [] w
      → Fine x before hosts (goes_through_ends ends w)
  ends_good [] asked w all a = inl (record { asked = asked; good = a })
  ends_good (k ∷ ends) asked w all a =
      let messages : List Message = option_map_or (λ (p : Port). p.side.got) (port_at w.ports k) [] in
      then_fine x before hosts (goes_through_ends ends) (have_turns k messages w) (have_good k all.0 messages asked w a)
      (λ l b. ends_good ends l (have_turns k messages w) all.1 b)

  pub passes_good : (asked : Asked) (w : Work) → AllByRecursion IsHost hosts → Good x before hosts asked [] w → Fine x before hosts (passes w)
  passes_good asked w all a = ends_good (map (λ (p : Port). p.desk.host) w.ports) asked w (subst (AllByRecursion IsHost) (sym a.hosts_are) all) a

-- ## The end of a controller on a link of its world is what its step makes of it

module _ (x : ℕ) (e : LinkEnd) (late : Bool) where
  -- the end is what its turns made of this one, and its notice is late or not
  pub record IsMade (w : Work) : Type 0 where
    pub port : Port
    pub here : port_at w.ports x ≡ Some port
    pub is : port.side ≡ turned e port.turns
    pub late_is : port.late ≡ late

  note : (es : List Entry) (w : Work) → AreSilent es → IsMade w → IsMade (noting es w)
  note es w silent a = record { port = a.port; here = a.here; is = a.is; late_is = a.late_is }

  desk : (k : ℕ) (f : Desk → Desk) (w : Work) → ((d : Desk) → (f d).host ≡ d.host) → IsMade w → IsMade (with_desk k f w)
  desk k f w host a = go (eqb a.port.desk.host k) (at_changed w.ports x k g a.port (λ p. host p.desk) a.here) where
    g : Port → Port
    g p = record p { desk = f p.desk }

    go : (b : Bool) → port_at (with_port k g w.ports) x ≡ Some (changed_if b g a.port) → IsMade (with_desk k f w)
    go b z = grind arith

  turns_of_sides : (k : ℕ) (t : Turn) (w : Work) → IsMade w → IsMade (turn_at k t w)
  turns_of_sides k t w a = go (eqb a.port.desk.host k) (at_changed w.ports x k (after_turn t) a.port (λ p. refl) a.here) where
    go : (b : Bool) → port_at (with_port k (after_turn t) w.ports) x ≡ Some (changed_if b (after_turn t) a.port) → IsMade (turn_at k t w)
    go true z = record {
      port = after_turn t a.port;
      here = z;
      is = ap (λ j. turn j t) a.is ∙ sym (turned-append e a.port.turns t);
      late_is = a.late_is;
    }
    go false z = record { port = a.port; here = z; is = a.is; late_is = a.late_is }

  beside : (w v : Work) → v.core.node ≡ w.core.node → v.ports ≡ w.ports → v.entries ≡ w.entries → IsMade w → IsMade v
  beside w v node ports entries a = record { port = a.port; here = ap (λ ps. port_at ps x) ports ∙ a.here; is = a.is; late_is = a.late_is }

-- an end as the step goes on behind what came
begins_so : (x : ℕ) (c : Port) (v : Work) (all : List Port) → port_at v.ports x ≡ Some c → c.turns ≡ []
    → IsMade x c.side c.late (record v { core = after_sessions v.core all; ports = map without_notice (map (forgets all) v.ports) })
begins_so x c v all here none =
    record {
      port = (without_notice (forgets all c));
      here = at_all (map (forgets all) v.ports) x without_notice without_host
          ∙ ap (option_map without_notice) (at_all v.ports x (forgets all) (forgets_host all) ∙ ap (option_map (forgets all)) here);
      is = (without_same (forgets all c)).side ∙ (grind arith);
      late_is = (without_same (forgets all c)).late ∙ (forgets_same all c).late;
    }

goes_so : (x : ℕ) (input : NodeInput) (w : Work) (c : Port) → port_at (times_out input (all_come input w)).ports x ≡ Some c → c.turns ≡ []
    → IsMade x c.side c.late (steps input w)
goes_so x input w c here none =
    let v : Work = times_out input (all_come input w) in
    let left : List Port = map (forgets v.ports) v.ports in
    rest (IsMade x c.side c.late) (note x c.side c.late) (desk x c.side c.late) (turns_of_sides x c.side c.late) (beside x c.side c.late) (forgotten v.ports)
    (flat_map (synced w.core input) w.ports) (all_owed left)
    (record v { core = after_sessions v.core v.ports; ports = map without_notice left })
    (forgotten_mute v.ports) (all_synced_mute w.core input w.ports) (all_owed_mute left) (begins_so x c v v.ports here none)

pub near_made : (x h : ℕ) (i : LinkInput) (w : Work) (p : Port) → port_at w.ports x ≡ Some p → p.turns ≡ []
    → IsMade x (has_come p (input_at (AtEnd h i) p)).side (has_come p (input_at (AtEnd h i) p)).late (steps (AtEnd h i) w)
near_made x h i w p here none =
    goes_so x (AtEnd h i) w (has_come p (input_at (AtEnd h i) p))
    (at_all w.ports x (λ q. has_come q (input_at (AtEnd h i) q)) (λ q. come_host q (input_at (AtEnd h i) q))
    ∙ ap (option_map (λ (q : Port). has_come q (input_at (AtEnd h i) q))) here)
    (grind arith)

-- an end after a tick
abbrev pub after_tick : Port → Port
after_tick p = reset_late (with_older (has_come p (Some Tick)))

pub tick_made : (x : ℕ) (w : Work) (p : Port) → port_at w.ports x ≡ Some p → p.turns ≡ []
    → IsMade x (after_tick p).side (after_tick p).late (steps TimePasses w)
tick_made x w p here none =
    goes_so x TimePasses w (after_tick p)
    (at_all (map with_older (map (λ q. has_come q (Some Tick)) w.ports)) x reset_late late_host
    ∙ ap (option_map reset_late) (at_all (map (λ q. has_come q (Some Tick)) w.ports) x with_older (λ q. refl)
    ∙ ap (option_map with_older) (at_all w.ports x (λ q. has_come q (Some Tick)) (λ q. refl) ∙ ap (option_map (λ (q : Port). has_come q (Some Tick))) here)))
    (grind arith)

-- ### Links

input_side : (l : Link) (comes : Comes) (ts : List Turn) (i : LinkInput) → input_of l comes ≡ Some i
    → (steps_at_controller l comes ts GoesOut).controller.side ≡ sent_all (turned (after_input l.controller.side i) ts)
input_side l NextFrame ts i e = grind arith
input_side l (AsksReset window) ts i e =
    let one : Reset window ≡ i = cc in ap (λ j. sent_all (turned (after_input l.controller.side j) ts)) one
input_side l (Starts value) ts i e =
    let one : Start value ≡ i = cc in ap (λ j. sent_all (turned (after_input l.controller.side j) ts)) one
input_side l Stops ts i e =
    let one : Stop ≡ i = cc in ap (λ j. sent_all (turned (after_input l.controller.side j) ts)) one
input_side l NoInput ts i e = absurd (cc e)

pub near_side : (l : Link) (h k : ℕ) (comes : Comes) (i : LinkInput) (ts : List Turn) (p : Port) → p.desk.host ≡ k → p.side ≡ l.controller.side
    → (eqb k h ≡ true → input_of l comes ≡ Some i)
    → (steps_at_controller l (cond (eqb k h) comes NoInput) ts GoesOut).controller.side ≡ sent_all (turned (has_come p (input_at (AtEnd h i) p)).side ts)
near_side l h k comes i ts p host side input = by_test (eqb k h)
    (λ e. subst (λ b. Goal b (eqb p.desk.host h)) (sym e) (subst (Goal true) (sym (ap (λ n. eqb n h) host ∙ e))
    (input_side l comes ts i (input e) ∙ ap (λ z. sent_all (turned (after_input z i) ts)) (sym side))))
    (λ e. subst (λ b. Goal b (eqb p.desk.host h)) (sym e) (grind arith)) where
      Goal : Bool → Bool → Type 0
      Goal b c = (steps_at_controller l (cond b comes NoInput) ts GoesOut).controller.side ≡ sent_all (turned (has_come p (cond c (Some i) None)).side ts)

pub tick_side : (l : Link) (ts : List Turn) (p : Port) → p.side ≡ l.controller.side → p.late ≡ false → UpAt (Some p) → IsShut p.side
    → (ticked_so l (after_tick p).late ts GoesOut).controller.side ≡ sent_all (turned (after_tick p).side ts)
tick_side l ts p side fresh noticed shut = go (is_late (with_older (has_come p (Some Tick)))) refl where
  go : (b : Bool) → is_late (with_older (has_come p (Some Tick))) ≡ b
      → (ticked_so l (after_tick p).late ts GoesOut).controller.side ≡ sent_all (turned (after_tick p).side ts)
  go false e =
      let late : (after_tick p).late ≡ false = (let z : (after_tick p).late ≡ p.late = rw e refl in z) ∙ fresh in
      let is : (after_tick p).side ≡ after_input p.side Tick = rw e refl in
      ap (λ b. (ticked_so l b ts GoesOut).controller.side) late
      ∙ (ap (λ z. sent_all (turned (after_input z Tick) ts)) (sym side) ∙ ap (λ z. sent_all (turned z ts)) (sym is))
  go true e =
      let late : (after_tick p).late ≡ true = rw e refl in
      let is : (after_tick p).side ≡ after_input (after_input p.side Tick) (Reset None) = rw e refl in
      let parts : IsLate p = late_parts p e in
      let up : p.side.shdlc.phase ≡ Up = up_is p.side.shdlc.phase (noticed (grind arith)) in
      let going : is_waiting l.controller.side.shdlc ≡ false = grind arith in
      ap (λ b. (ticked_so l b ts GoesOut).controller.side) late
      ∙ (ap (λ b. (cond (not b) (has_input l (Reset None) ts GoesOut) (ticks_at_controller l ts GoesOut)).controller.side) going
      ∙ (ap (λ z. sent_all (turned (after_input z (Reset None)) ts)) (sym side)
      ∙ ap (λ z. sent_all (turned z ts)) (sym (is ∙ reset_same p.side (grind arith)))))
