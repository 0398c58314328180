-- What is known of a node alone at each turn of a step: what it keeps is read, over all events, and messages have their turns in order.
use Rattle.std.specs.Prelude.{None, Option, Some, is_none, is_some, min, ◌+◌, ◌⊎◌}
use Rattle.lone_laws.proofs.Words.{AllByRecursion, AllByRecursion-append, AreFine, AreInTurn, AreNoTurns, ArePassed, AreSendable, AreTables, AtEachNoted}
use Rattle.lone_laws.proofs.Words.{BeginWithTurn, Bool, ComesTo, Control, Core, Deed, Desk, End, Entry, FetchMessage, FrameIsRefused, Hold, IsBehind, IsFine}
use Rattle.lone_laws.proofs.Words.{IsFineWork, IsFirstThere, IsNoTurn, IsTurnSo, JoinTwo, LastsOverTurns, LinkEnd, LinkInput, List, Lone, LoneCause, LoneEvent}
use Rattle.lone_laws.proofs.Words.{Message, Port, Reset, Running, Sound, Start, Stop, Take, TakeUnknown, Tick, Work, [], after_input, all_come, all_do}
use Rattle.lone_laws.proofs.Words.{all_done, all_done_fine, all_synced_hold, ap, append-nil, append_assoc, ap₂, arith, before_entries, before_none, began_by}
use Rattle.lone_laws.proofs.Words.{by_option, by_test, came_fine, changed_if, comes_lasts, comes_to_pass, cond, deeds_fine, deeds_of, does_by_power}
use Rattle.lone_laws.proofs.Words.{does_with_input, emits_behind, end_of_node, entries_of_events_alone, eqb, false, fine_at, firsts_in_turn, frames_behind}
use Rattle.lone_laws.proofs.Words.{goes_through_ends, handles, handles_fine, holds_back, holds_fine, holds_in, hosts_of_ends, inl, inr, is_at_rest, is_held_at}
use Rattle.lone_laws.proofs.Words.{lets, lets_fine, link_of_turn, lone_arrival, lone_behind_step, lone_end, lone_events, lone_input, lone_port, lone_step}
use Rattle.lone_laws.proofs.Words.{lone_work, lpdu_of, map, node_input, noted_before_pass, noted_of_refused, noting, oldest, option_map_or, own_side, passes}
use Rattle.lone_laws.proofs.Words.{port_at, refl, report, rsets_since, session_with, side_behind, sound_input, steps, steps_are, subst, sym, syncs_in, takes_up}
use Rattle.lone_laws.proofs.Words.{told_at, true, true≢false, turn_at, unhandled_in, waiting_at, whole_acked, with_desk, with_refusal, ℕ, ◌++◌, ◌||◌, ◌∙◌, ◌∷◌}
use Rattle.lone_laws.proofs.Words.{◌≡◌, ◌≤◌}
use Rattle.node_laws.proofs.passes.Passing.{leaves_behind}
use Rattle.node_laws.specs.passes.Passing.ComesTo.{Begins}
use Rattle.lone_laws.proofs.answered.Coming.{IsLoneInput, came_entries, came_is, came_port, came_ports, own_side_end, pass_is}
use Rattle.lone_laws.proofs.answered.Growing.{IsNumbered}
use Rattle.lone_laws.proofs.answered.Memories.{IsOwnDeed}
use Rattle.lone_laws.proofs.answered.Reading.{Alone, AreNothing, Read, eqb_same, held_is, left_is, nothing_read, read-append, read_all, reads_of}
use Rattle.lone_laws.proofs.answered.Talking.{Reads, Talk, input_aside, input_grows, input_kind, input_talk, kind_of, reads_silent, talk_of_side, told_reads}
use Rattle.lone_laws.proofs.answered.Rooms.{Talks, talks_desk, talks_does, talks_note, talks_turn}
use Rattle.lone_laws.proofs.answered.Stepping.{alone_begins, alone_steps, lone_comes, passed, syncs_own}
use Rattle.lone_laws.proofs.answered.Turning.{IsHere, alone_at, alone_handled, alone_held, alone_here, alone_lasts, link_is, own_deeds, own_end}
use Rattle.trace_model.specs.declared.entry.Entry.TheVariants as entry

-- ## What holds of each event of a node alone holds of its history, and what holds of each turn of a pass of each entry

-- ### Lists

-- an element of two lists, one behind the other, is in the first or in the second
pub record InFirst {X : Type 0} (a b front behind : List X) (x : X) : Type 0 where
  pub rest : List X
  pub first : a ≡ front ++ (x ∷ rest)
  pub behind_is : behind ≡ rest ++ b

pub record InSecond {X : Type 0} (a b front behind : List X) (x : X) : Type 0 where
  pub more : List X
  pub front_is : front ≡ a ++ more
  pub second : b ≡ more ++ (x ∷ behind)

pub split_at : {X : Type 0} (a b front behind : List X) (x : X) → a ++ b ≡ front ++ (x ∷ behind)
    → InFirst a b front behind x ⊎ InSecond a b front behind x
split_at [] b front behind x q = inr (record { more = front; front_is = refl; second = q })
split_at (y ∷ a) b [] behind x q = grind arith
split_at (y ∷ a) b (z ∷ front) behind x q =
    let same : y ≡ z = cc in
    let rest : a ++ b ≡ front ++ (x ∷ behind) = cc in
    elim (split_at a b front behind x rest) [
      | inl f ↦ inl (record { rest = f.rest; first = ap (λ l. l ++ a) (ap (λ k. k ∷ []) same) ∙ ap (λ l. z ∷ l) f.first; behind_is = f.behind_is })
      | inr s ↦ inr (record { more = s.more; front_is = ap (λ l. z ∷ l) s.front_is ∙ ap (λ k. k ∷ (a ++ s.more)) (sym same); second = s.second })
    ]

pub none_at : {X : Type 0} (P : X → Type 0) (front rest : List X) (x : X) → AllByRecursion P (front ++ (x ∷ rest)) → P x
none_at P [] rest x a = a.0
none_at P (y ∷ front) rest x a = none_at P front rest x a.1

emits_turnless : (f : End) (frames : List Control) → AreNoTurns (map (λ c. entry.Emit f (lpdu_of c)) frames)
emits_turnless f [] = tt
emits_turnless f (c ∷ frames) = (refl, emits_turnless f frames)

-- What holds of each entry of a pass, and of all that are no turns, holds of each entry of its event.
module _ (Q : List Entry → Entry → List Entry → Type 0) (silent : (t : List Entry) (x : Entry) (behind : List Entry) → link_of_turn x ≡ None → Q t x behind)
    (a m : List Entry) (f : End) (frames : List Control) (before : AreNoTurns a) where
  abbrev emits : List Entry
  emits = map (λ c. entry.Emit f (lpdu_of c)) frames

  each_entry : ((front back : List Entry) (x : Entry) → m ≡ front ++ (x ∷ back) → Q (a ++ front) x (back ++ emits))
      → (front behind : List Entry) (x : Entry) → (a ++ m) ++ emits ≡ front ++ (x ∷ behind) → Q front x behind
  each_entry passed front behind x q = by_part (split_at a (m ++ emits) front behind x (sym (append_assoc a m emits) ∙ q)) where
    by_rest : (s : InSecond a (m ++ emits) front behind x) → InFirst m emits s.more behind x ⊎ InSecond m emits s.more behind x → Q front x behind
    by_rest s (inl g) = grind arith
    by_rest s (inr g) = silent front x behind (none_at (λ y. link_of_turn y ≡ None) g.more behind x (subst AreNoTurns g.second (emits_turnless f frames)))

    by_part : InFirst a (m ++ emits) front behind x ⊎ InSecond a (m ++ emits) front behind x → Q front x behind
    by_part (inl g) = silent front x behind (none_at (λ y. link_of_turn y ≡ None) front g.rest x (subst AreNoTurns g.first before))
    by_part (inr s) = by_rest s (split_at m emits s.more behind x s.second)

-- ### Histories

module _ (P : List Entry → LoneEvent → Type 0) (K : List Entry → Lone → Type 0)
    (step : (t : List Entry) (l : Lone) (c : LoneCause) → is_some l.node ≡ true → K t l
    → P t (record { cause = c; entries = (lone_step l c).1 }) × K (t ++ (lone_step l c).1) (lone_step l c).0) where
  pub at_each : (causes : List LoneCause) (t : List Entry) (l : Lone) → K t l → (past back : List LoneEvent) (o : LoneEvent)
      → lone_events l causes ≡ past ++ (o ∷ back) → P (t ++ entries_of_events_alone past) o
  at_each [] t l k [] back o q = absurd (cc q)
  at_each [] t l k (p ∷ past) back o q = absurd (cc q)
  at_each (c ∷ causes) t l k past back o q = by_power (λ u v k2 past2 q2. at_each causes u v k2 past2 back o q2) (is_some l.node) refl past q where
    Later : Type 0
    Later =
        (u : List Entry) (v : Lone) → K u v → (past : List LoneEvent) → lone_events v causes ≡ past ++ (o ∷ back) → P (u ++ entries_of_events_alone past) o

    first : LoneEvent
    first = record { cause = c; entries = (lone_step l c).1 }

    by_past : Later → P t first × K (t ++ (lone_step l c).1) (lone_step l c).0 → (past : List LoneEvent)
        → (first ∷ lone_events (lone_step l c).0 causes) ≡ past ++ (o ∷ back) → P (t ++ entries_of_events_alone past) o
    by_past later done [] z =
        let same : first ≡ o = cc in
        subst (λ l. P l o) (sym (append-nil t)) (subst (P t) same done.0)
    by_past later done (p ∷ past) z =
        let same : first ≡ p = cc in
        subst (λ (x : LoneEvent). P (t ++ (x.entries ++ entries_of_events_alone past)) o) same
        (subst (λ l. P l o) (append_assoc t (lone_step l c).1 (entries_of_events_alone past))
        (later (t ++ (lone_step l c).1) (lone_step l c).0 done.1 past cc))

    by_power : Later → (b : Bool) → is_some l.node ≡ b → (past : List LoneEvent)
        → cond b (first ∷ lone_events (lone_step l c).0 causes) [] ≡ past ++ (o ∷ back) → P (t ++ entries_of_events_alone past) o
    by_power later true on past z = by_past later (step t l c on k) past z
    by_power later false on [] z = absurd (cc z)
    by_power later false on (p ∷ past) z = absurd (cc z)

-- ## Where each message that has its turn is the first that came and had none, messages have their turns in the order in which they came

-- what holds at each entry of events holds at each of their entries
flat_at : (Q : List Entry → Entry → Type 0) (events : List LoneEvent) → AtEachNoted events (λ t x behind. Q t x)
    → (front back : List Entry) (x : Entry) → entries_of_events_alone events ≡ front ++ (x ∷ back) → Q front x
flat_at Q [] each [] back x q = absurd (cc q)
flat_at Q [] each (y ∷ front) back x q = absurd (cc q)
flat_at Q (o ∷ events) each front back x q =
    by (split_at o.entries (entries_of_events_alone events) front back x q)
    (flat_at (λ t y. Q (o.entries ++ t) y) events (λ past behind p f b y z w.
    subst (λ t. Q t y) (append_assoc o.entries (entries_of_events_alone past) f) (each (o ∷ past) behind p f b y (ap (λ l. o ∷ l) z) w))) where
      by : InFirst o.entries (entries_of_events_alone events) front back x ⊎ InSecond o.entries (entries_of_events_alone events) front back x
          → ((f b : List Entry) (y : Entry) → entries_of_events_alone events ≡ f ++ (y ∷ b) → Q (o.entries ++ f) y) → Q front x
      by (inl s) later = each [] events o front s.rest x refl s.first
      by (inr s) later = subst (λ t. Q t x) (sym s.front_is) (later s.more back x s.second)

-- So they have their turns in order.
pub are_in_turn : (events : List LoneEvent) → AtEachNoted events (λ t x behind. IsFirstThere t x) → AreInTurn (entries_of_events_alone events)
are_in_turn events each = firsts_in_turn (entries_of_events_alone events) (λ front back x at. flat_at IsFirstThere events each front back x at)

-- ## Over the events of a node alone what it keeps is read, and what holds of each event holds of all

-- ### Between events

-- what a node that runs alone keeps, where r was read at the beginning, and these entries were noted since
pub record LoneKeeps (r : Read) (t : List Entry) (l : Lone) (n : Running) : Type 0 where
  pub desk : Desk
  pub desks_are : n.desks ≡ desk ∷ []
  pub host : desk.host ≡ l.link
  pub none : desk.notice ≡ None
  pub node : n.core.node ≡ l.number
  pub command : n.core.command ≡ None
  pub init : n.core.init ≡ None
  pub good : eqb l.number 0 ≡ true → AreTables n.core.tables × JoinTwo n.core.tables.rows
  pub read : read_all (lone_end l) r t ≡ record { core = n.core; left = l.side.got; held = desk.holds }

-- where it runs
abbrev pub IfKeeps : Read → List Entry → Lone → Type 0
IfKeeps r t l = (n : Running) → l.node ≡ Some n → LoneKeeps r t l n

-- ### A step

pub arrival_nothing : (l : Lone) (c : LoneCause) → AreNothing (lone_end l) (lone_arrival l c)
arrival_nothing l c = grind arith

emits_nothing : (e f : End) (frames : List Control) → AreNothing e (map (λ c. entry.Emit f (lpdu_of c)) frames)
emits_nothing e f [] = tt
emits_nothing e f (c ∷ frames) = ((λ z. refl), emits_nothing e f frames)

-- the node as its step begins
abbrev pub begins_alone : (r : Read) (t : List Entry) (l : Lone) (n : Running) (i : LinkInput) (noted : List Entry) → AreNothing (lone_end l) noted
    → LoneKeeps r t l n → Alone l.number l.link r t (lone_work l n i noted)
begins_alone r t l n i noted nothing k =
    let p : Port = lone_port l.side (session_with l i) k.desk in
    record {
      port = p;
      ports_are = ap (map (lone_port l.side (session_with l i))) k.desks_are;
      host = k.host;
      none = k.none;
      node = k.node;
      command = k.command;
      init = k.init;
      good = k.good;
      read =
          read-append (lone_end l) r t noted
          ∙ (ap (λ z. read_all (lone_end l) z noted) k.read ∙ nothing_read (lone_end l) noted nothing (reads_of n.core p));
    }

-- its end behind the step
pub side_is : (r : Read) (t : List Entry) (l : Lone) (w : Work) (a : Alone l.number l.link r t w) → w.cut ≡ false → side_behind l w ≡ a.port.side
side_is r t l w a on = grind arith

pub step_is : (l : Lone) (n : Running) (c : LoneCause) (i : LinkInput) → l.node ≡ Some n → lone_input c ≡ Some i
    → (let w : Work = steps (node_input l.link i) (lone_work l n i (lone_arrival l c)) in
    lone_step l c ≡ (lone_behind_step l i w, w.entries ++ emits_behind l w))
step_is l n c i runs comes = ap (does_by_power l c) runs ∙ ap (does_with_input l c n) comes

-- the node behind a step of it
keeps_work : (r : Read) (t : List Entry) (l : Lone) (i : LinkInput) (w : Work) → (w.cut ≡ false → Alone l.number l.link r t w)
    → IfKeeps r (t ++ (w.entries ++ emits_behind l w)) (lone_behind_step l i w)
keeps_work r t l i w all = by_test w.cut
    (λ off. λ n runs. let gone : None ≡ Some n = sym (ap (λ b. cond b None (Some on_still)) off) ∙ runs in absurd (cc gone))
    (λ on. λ n runs.
    let a : Alone l.number l.link r t w = all on in
    subst (LoneKeeps r (t ++ (w.entries ++ emits_behind l w)) (lone_behind_step l i w)) (grind arith) (record {
      desk = a.port.desk;
      desks_are = ap (map (λ (p : Port). p.desk)) a.ports_are;
      host = a.host;
      none = a.none;
      node = a.node;
      command = a.command;
      init = a.init;
      good = a.good;
      read =
          ap (read_all (lone_end l) r) (sym (append_assoc t w.entries (emits_behind l w)))
          ∙ (read-append (lone_end l) r (t ++ w.entries) (emits_behind l w)
          ∙ (ap (λ z. read_all (lone_end l) z (emits_behind l w)) a.read
          ∙ (nothing_read (lone_end l) (emits_behind l w) (emits_nothing (lone_end l) (lone_end l) _) (reads_of w.core a.port)
          ∙ ap (λ (s : LinkEnd). record { core = w.core; left = s.got; held = a.port.desk.holds }) (sym (side_is r t l w a on)))));
    })) where
      on_still : Running
      on_still = record { core = w.core; desks = map (λ (p : Port). p.desk) w.ports }

-- a frame that is refused
counted_keeps : (r : Read) (t : List Entry) (l : Lone) (n : Running) (es : List Entry) → AreNothing (lone_end l) es → LoneKeeps r t l n
    → LoneKeeps r (t ++ es) (record l { node = Some (with_refusal l.link n) }) (with_refusal l.link n)
counted_keeps r t l n es nothing k = go (eqb k.desk.host l.link) refl where
  f : Desk → Desk
  f d = record d { errors = min 65535 (d.errors + 1) }

  same : (b : Bool) → ((changed_if b f k.desk).host ≡ k.desk.host) × ((changed_if b f k.desk).notice ≡ k.desk.notice)
      × ((changed_if b f k.desk).holds ≡ k.desk.holds)
  same b = grind arith

  go : (b : Bool) → eqb k.desk.host l.link ≡ b → LoneKeeps r (t ++ es) (record l { node = Some (with_refusal l.link n) }) (with_refusal l.link n)
  go b q = record {
    desk = changed_if b f k.desk;
    desks_are = ap (Rattle.node_machine.specs.Node.with_error l.link) k.desks_are ∙ ap (λ c. changed_if c f k.desk ∷ []) q;
    host = (same b).0 ∙ k.host;
    none = (same b).1 ∙ k.none;
    node = k.node;
    command = k.command;
    init = k.init;
    good = k.good;
    read =
        read-append (lone_end l) r t es
        ∙ (ap (λ z. read_all (lone_end l) z es) k.read
        ∙ (nothing_read (lone_end l) es nothing _ ∙ ap (λ z. record { core = n.core; left = l.side.got; held = z }) (sym (same b).2)));
  }

module _ (r : Read) where
  pub keeps_step : (t : List Entry) (l : Lone) (c : LoneCause) → 1 ≤ l.link → l.link ≤ 7 → is_some l.node ≡ true → IfKeeps r t l
      → IfKeeps r (t ++ (lone_step l c).1) (lone_step l c).0
  keeps_step t l c some most runs keeps = by_option l.node
      (λ off. absurd (true≢false (sym runs ∙ ap is_some off)))
      (λ n on. by_input n on (lone_input c) refl) where
        by_input : (n : Running) → l.node ≡ Some n → (o : Option LinkInput) → lone_input c ≡ o → IfKeeps r (t ++ (lone_step l c).1) (lone_step l c).0
        by_input n on (Some i) comes =
            let w : Work = lone_work l n i (lone_arrival l c) in
            subst (λ (x : Lone × List Entry). IfKeeps r (t ++ x.1) x.0) (sym (step_is l n c i on comes))
            (keeps_work r t l i (steps (node_input l.link i) w)
            (alone_steps l.number l.link some most r t i (lone_comes c i comes) w
            (begins_alone r t l n i (lone_arrival l c) (arrival_nothing l c) (keeps n on))))
        by_input n on None comes = refused c comes where
          refused : (c : LoneCause) → lone_input c ≡ None → IfKeeps r (t ++ (lone_step l c).1) (lone_step l c).0
          refused (FrameIsRefused fault) q =
              subst (λ (x : Lone × List Entry). IfKeeps r (t ++ x.1) x.0) (sym (ap (does_by_power l (FrameIsRefused fault)) on))
              (λ m is.
              let same : with_refusal l.link n ≡ m = cc in
              let es : List Entry = noted_of_refused l (FrameIsRefused fault) in
              subst (LoneKeeps r (t ++ es) (record l { node = Some (with_refusal l.link n) })) same (counted_keeps r t l n es ((λ z. refl), tt) (keeps n on)))
          refused _ q = absurd (cc q)

-- ## Messages have their turns in order, and behind each event all have had them, or all before one that is held

-- nothing has come to a node whose boot found this
abbrev pub begin_read : Core → Read
begin_read found = record { core = found; left = []; held = false }

-- a message that has its turn is the first that came and had none, and one that is noted as held wasn't noted so
abbrev pub OrderAt : List Entry → Entry → List Entry → Type 0
OrderAt t (entry.Turn f pid message) behind = oldest (unhandled_in t f) ≡ Some (pid, message)
OrderAt t (entry.Held f need spare) behind = holds_in t f ≡ false
OrderAt t _ behind = Unit {0}

pub order_silent : (t : List Entry) (x : Entry) (behind : List Entry) → link_of_turn x ≡ None → OrderAt t x behind
order_silent t x behind q = grind arith

-- a turn, or a message that is held, is at this end
abbrev pub IsAtEnd : End → Entry → Type 0
IsAtEnd e (entry.Turn f pid message) = f ≡ e
IsAtEnd e (entry.Held f need spare) = f ≡ e
IsAtEnd e _ = Unit {0}

nothing_there : (front back : List Entry) (x : Entry) → [] ≡ front ++ (x ∷ back) → ⊥
nothing_there [] back x z = cc z
nothing_there (y ∷ front) back x z = cc z

-- ### A step

module _ (found : Core) (t : List Entry) (l : Lone) (some : 1 ≤ l.link) (most : l.link ≤ 7) (n : Running) (keeps : LoneKeeps (begin_read found) t l n)
    (c : LoneCause) (i : LinkInput) (comes : lone_input c ≡ Some i) where
  abbrev r : Read
  r = begin_read found

  -- as the step begins, as its pass begins, and behind it
  abbrev pub start : Work
  start = lone_work l n i (lone_arrival l c)

  abbrev pub begun : Work
  begun = comes_to_pass (node_input l.link i) start

  abbrev pub ended : Work
  ended = steps (node_input l.link i) start

  pub start_alone : Alone l.number l.link r t start
  start_alone = begins_alone r t l n i (lone_arrival l c) (arrival_nothing l c) keeps

  begun_alone : begun.cut ≡ false → Alone l.number l.link r t begun
  begun_alone = alone_begins l.number l.link some most r t i (lone_comes c i comes) start start_alone

  ended_alone : ended.cut ≡ false → Alone l.number l.link r t ended
  ended_alone = alone_steps l.number l.link some most r t i (lone_comes c i comes) start start_alone

  begun_turnless : AreNoTurns begun.entries
  begun_turnless =
      subst AreNoTurns (sym (before_entries (node_input l.link i) start))
      (AllByRecursion-append IsNoTurn (lone_arrival l c) (noted_before_pass (node_input l.link i) start) (grind arith)
      (before_none (node_input l.link i) start))

  -- what is noted in the pass
  pub record Passed : Type 0 where
    pub more : List Entry
    pub entries : ended.entries ≡ begun.entries ++ more
    pub begin : BeginWithTurn more
    pub each : (front back : List Entry) (x : Entry) → more ≡ front ++ (x ∷ back) → (begun.cut ≡ false) × IsTurnSo (ComesTo begun) begun front x back

  pub pass_noted : Passed
  pass_noted = go begun.cut refl where
    go : (b : Bool) → begun.cut ≡ b → Passed
    go true q = record {
      more = [];
      entries = ap (λ (w : Work). w.entries) (steps_are (node_input l.link i) start) ∙ (rw q (sym (append-nil begun.entries)));
      begin = tt;
      each = λ front back x z. absurd (nothing_there front back x z);
    }
    go false q =
        let p : ArePassed (ComesTo begun) (hosts_of_ends begun.ports) begun (passes begun) = passed l.number l.link some most r t begun q in
        grind arith

  abbrev pub noted : List Entry
  noted = ended.entries ++ emits_behind l ended

  -- what holds of each turn holds of each entry of the event
  pub entries_are : (Q : List Entry → Entry → List Entry → Type 0) → ((u : List Entry) (x : Entry) (behind : List Entry) → link_of_turn x ≡ None → Q u x behind)
      → ((front back : List Entry) (x : Entry) → pass_noted.more ≡ front ++ (x ∷ back) → begun.cut ≡ false → IsTurnSo (ComesTo begun) begun front x back
      → Q (begun.entries ++ front) x (back ++ emits_behind l ended))
      → (front behind : List Entry) (x : Entry) → noted ≡ front ++ (x ∷ behind) → Q front x behind
  entries_are Q silent turns front behind x q =
      let p : Passed = pass_noted in
      each_entry Q silent begun.entries p.more (lone_end l) (frames_behind l ended) begun_turnless
      (λ f b y z. let s = p.each f b y z in turns f b y z s.0 s.1) front behind x (ap (λ es. es ++ emits_behind l ended) (sym p.entries) ∙ q)

  -- ### Order

  turn_order : (front back : List Entry) (x : Entry) → begun.cut ≡ false → IsTurnSo (ComesTo begun) begun front x back
      → OrderAt (t ++ (begun.entries ++ front)) x (back ++ emits_behind l ended)
  turn_order front back (entry.Turn f pid message) on a =
      let u : Alone l.number l.link r t a.work = alone_at l.number l.link some most r t begun a.work (begun_alone on) a.keeps in
      let here : IsHere u.port a.host (pid, message) a.messages = alone_here l.number l.link some most r t a.host
      (pid, message) a.messages a.work u a.waiting in
      let its : f ≡ lone_end l =
      a.its_end ∙ own_end a.work.core l.number l.link a.host u.node (link_is l.number l.link some most r t a.host u.port u.host here.own) in
      let left : unhandled_in (t ++ a.work.entries) (lone_end l) ≡ (pid, message) ∷ a.messages =
      sym (left_is (lone_end l) (t ++ a.work.entries) r) ∙ (ap (λ (z : Read). z.left) u.read ∙ here.got) in
      ap (λ z. oldest (unhandled_in (t ++ (begun.entries ++ front)) z)) its
      ∙ (ap (λ es. oldest (unhandled_in (t ++ es) (lone_end l))) (sym a.entries) ∙ ap oldest left)
  turn_order front back (entry.Held f need spare) on a =
      let u : Alone l.number l.link r t a.work = alone_at l.number l.link some most r t begun a.work (begun_alone on) a.keeps in
      let here : IsHere u.port a.host a.message a.messages = alone_here l.number l.link some most r t a.host a.message a.messages a.work u a.waiting in
      let its : f ≡ lone_end l =
      a.its_end ∙ own_end a.work.core l.number l.link a.host u.node (link_is l.number l.link some most r t a.host u.port u.host here.own) in
      let held : holds_in (t ++ a.work.entries) (lone_end l) ≡ false =
      sym (held_is (lone_end l) (t ++ a.work.entries) r) ∙ (ap (λ (z : Read). z.held) u.read ∙ (grind arith)) in
      ap (λ z. holds_in (t ++ (begun.entries ++ front)) z) its ∙ (ap (λ es. holds_in (t ++ es) (lone_end l)) (sym a.entries) ∙ held)
  turn_order front back _ on a = tt

  pub in_order : (front behind : List Entry) (x : Entry) → noted ≡ front ++ (x ∷ behind) → OrderAt (t ++ front) x behind
  in_order = entries_are (λ u x b. OrderAt (t ++ u) x b) (λ u x b q. order_silent (t ++ u) x b q) (λ f b y z on a. turn_order f b y on a)

  -- ### The end of a turn

  end_of_turn : (front back : List Entry) (x : Entry) → begun.cut ≡ false → IsTurnSo (ComesTo begun) begun front x back → IsAtEnd (lone_end l) x
  end_of_turn front back (entry.Turn f pid message) on a =
      let u : Alone l.number l.link r t a.work = alone_at l.number l.link some most r t begun a.work (begun_alone on) a.keeps in
      let here : IsHere u.port a.host (pid, message) a.messages = alone_here l.number l.link some most r t a.host
      (pid, message) a.messages a.work u a.waiting in
      a.its_end ∙ own_end a.work.core l.number l.link a.host u.node (link_is l.number l.link some most r t a.host u.port u.host here.own)
  end_of_turn front back (entry.Held f need spare) on a =
      let u : Alone l.number l.link r t a.work = alone_at l.number l.link some most r t begun a.work (begun_alone on) a.keeps in
      let here : IsHere u.port a.host a.message a.messages = alone_here l.number l.link some most r t a.host a.message a.messages a.work u a.waiting in
      a.its_end ∙ own_end a.work.core l.number l.link a.host u.node (link_is l.number l.link some most r t a.host u.port u.host here.own)
  end_of_turn front back _ on a = tt

  pub at_own_end : (front behind : List Entry) (x : Entry) → noted ≡ front ++ (x ∷ behind) → IsAtEnd (lone_end l) x
  at_own_end = entries_are (λ u x b. IsAtEnd (lone_end l) x) (λ u x b q. grind arith) (λ f b y z on a. end_of_turn f b y on a)

  -- ### Rest

  begun_hosts : begun.cut ≡ false → hosts_of_ends begun.ports ≡ l.link ∷ []
  begun_hosts on =
      let a : Alone l.number l.link r t begun = begun_alone on in ap (map (λ (p : Port). p.desk.host)) a.ports_are ∙ ap (λ k. k ∷ []) a.host

  pub was_on : ended.cut ≡ false → begun.cut ≡ false
  was_on still = by_test begun.cut (λ q. q ∙ (sym (ap (λ (w : Work). w.cut) (steps_are (node_input l.link i) start) ∙ rw q q) ∙ still)) (λ q. q)

  -- what the pass leaves at the end
  pub left_so : ended.cut ≡ false → IsBehind (ComesTo begun) begun ended [] l.link []
  left_so still =
      let on : begun.cut ≡ false = was_on still in
      let is : ended ≡ goes_through_ends (l.link ∷ []) begun =
      steps_are (node_input l.link i) start ∙ (rw on (ap (λ hosts. goes_through_ends hosts begun) (begun_hosts on))) in
      subst (λ w. IsBehind (ComesTo begun) begun w [] l.link []) (sym is)
      (leaves_behind (ComesTo begun) (comes_lasts begun) [] l.link [] begun Begins on tt (sym (ap (λ (w : Work). w.cut) is) ∙ still))

  rests_at : ended.cut ≡ false → (a : Alone l.number l.link r t ended) → (is_none (oldest a.port.side.got) || a.port.desk.holds) ≡ true
  rests_at still a =
      let b : IsBehind (ComesTo begun) begun ended [] l.link [] = left_so still in
      let own : eqb a.port.desk.host l.link ≡ true = ap (λ k. eqb k l.link) a.host ∙ eqb_same l.link in
      let got : waiting_at ended.ports l.link ≡ a.port.side.got = grind arith in
      let holds : is_held_at ended.ports l.link ≡ a.port.desk.holds = grind arith in
      (let h0 = waiting_at b.work.ports l.link in let h1 = sym got ∙ b.waits in let h2 = sym holds in grind arith)

  pub at_rest : ended.cut ≡ false → is_at_rest (lone_end l) (t ++ noted) ≡ true
  at_rest still =
      let a : Alone l.number l.link r t ended = ended_alone still in
      let e : End = lone_end l in
      let is : read_all e r (t ++ noted) ≡ reads_of ended.core a.port =
      ap (read_all e r) (sym (append_assoc t ended.entries (emits_behind l ended)))
      ∙ (read-append e r (t ++ ended.entries) (emits_behind l ended)
      ∙ (ap (λ z. read_all e z (emits_behind l ended)) a.read
      ∙ nothing_read e (emits_behind l ended) (emits_nothing e e (frames_behind l ended)) (reads_of ended.core a.port))) in
      ap₂ (λ ms b. is_none (oldest ms) || b) (sym (left_is e (t ++ noted) r) ∙ ap (λ (z : Read). z.left) is)
      (sym (held_is e (t ++ noted) r) ∙ ap (λ (z : Read). z.held) is)
      ∙ rests_at still a

-- ## What is known of a node alone at each turn of a step: what it keeps, its session and its blocks are read

-- ### Turns

both_hold : {X : Type 0} (P Q : X → Type 0) (xs : List X) → AllByRecursion P xs → AllByRecursion Q xs → AllByRecursion (λ x. P x × Q x) xs
both_hold P Q [] a b = tt
both_hold P Q (x ∷ xs) a b = ((a.0, b.0), both_hold P Q xs a.1 b.1)

-- What is known of a node alone in a step.
pub record KnowsAlone (number h s : ℕ) (r : Read) (t : List Entry) (w : Work) : Type 0 where
  pub keeps : Alone number h r t w
  pub talks : Talks number h s t w
  pub fine : IsFineWork w

module _ (number h : ℕ) (some : 1 ≤ h) (most : h ≤ 7) (s : ℕ) (r : Read) (t : List Entry) where
  abbrev Of : Work → Type 0
  Of w = KnowsAlone number h s r t w

  abbrev TalkOf : Work → Type 0
  TalkOf w = Talks number h s t w

  talks_takes : (k : ℕ) (m : Message) (w : Work) → TalkOf w → TalkOf (takes_up k m w)
  talks_takes k m w a =
      let told : Work = noting (entry.Turn (end_of_node w.core k) m.0 m.1 ∷ []) w in
      talks_desk number h s t k (λ d. record d { holds = false }) (turn_at k FetchMessage told) (λ d. refl)
      (talks_turn number h s t k FetchMessage told tt
      (talks_note number h s t (entry.Turn (end_of_node w.core k) m.0 m.1 ∷ []) w (tt, tt) a))

  known_handled : (k : ℕ) (m : Message) (messages : List Message) (w : Work) → Of w → waiting_at w.ports k ≡ m ∷ messages
      → (handles k m (deeds_of w.core w.ports k m) w).cut ≡ false → Of (handles k m (deeds_of w.core w.ports k m) w)
  known_handled k m messages w a waits still =
      let here : IsHere a.keeps.port k m messages = alone_here number h some most r t k m messages w a.keeps waits in
      let came : AreSendable (m ∷ messages) = subst AreSendable here.got (fine_at w.ports k a.keeps.port a.fine (grind arith)).clean in
      let fine : AreFine (deeds_of w.core w.ports k m) = deeds_fine w.core w.ports k m a.fine came.0 in
      record {
        keeps = alone_handled number h some most r t k m messages w a.keeps waits still;
        talks = all_do (λ v. v.cut ≡ false → TalkOf v) (λ d. IsFine d × IsOwnDeed number d) (talks_does number h s t) k
            (deeds_of w.core w.ports k m) (takes_up k m w)
            (both_hold IsFine (IsOwnDeed number) (deeds_of w.core w.ports k m) fine (own_deeds number h some most r t k m w a.keeps here.own))
            (λ _. talks_takes k m w a.talks) still;
        fine = handles_fine k m (deeds_of w.core w.ports k m) w came.0 fine a.fine;
      }

  talks_held : (k : ℕ) (short : ℕ × ℕ) (w : Work) → TalkOf w → TalkOf (holds_back k short w)
  talks_held k short w a = by_test (option_map_or (λ (p : Port). p.desk.holds) (port_at w.ports k) false)
      (λ q. rw q (talks_turn number h s t k (Hold true) w tt a))
      (λ q. rw q (talks_turn number h s t k (Hold true) (with_desk k (λ d. record d { holds = true }) told) tt
      (talks_desk number h s t k (λ d. record d { holds = true }) told (λ d. refl)
      (talks_note number h s t (entry.Held (end_of_node w.core k) short.0 short.1 ∷ []) w (tt, tt) a)))) where
        told : Work
        told = noting (entry.Held (end_of_node w.core k) short.0 short.1 ∷ []) w

  pub knows_lasts : LastsOverTurns Of
  knows_lasts = record {
    handled = λ w k m messages a on waits room still. known_handled k m messages w a waits still;
    held = λ w k m messages short a on waits lacks. record {
      keeps = alone_held number h some most r t k m messages short w a.keeps waits;
      talks = talks_held k short w a.talks;
      fine = holds_fine k short w a.fine;
    };
    let_go = λ w k a on waits. record {
      keeps = (alone_lasts number h some most r t).let_go w k a.keeps on waits;
      talks = lets TalkOf (λ j flag v b. talks_turn number h s t j (Hold flag) v tt b) k w a.talks;
      fine = lets_fine k w a.fine;
    };
  }

-- ### A step

-- what is known of the session of a node alone between events
pub record LoneTalks (t : List Entry) (l : Lone) : Type 0 where
  pub talk : Reads (lone_end l) l.number l.session t (talk_of_side l.side l.session)
  pub numbers : IsNumbered l.side l.session l.rsets
  pub sound : Sound l.side
  pub aside : l.side.aside ≡ 0
  pub role : kind_of l.side.role ≡ Some (eqb l.number 0)
  pub clean : AreSendable l.side.got

lone_sound : (s : LinkEnd) (i : LinkInput) → IsLoneInput i → Sound s → Sound (after_input s i)
lone_sound s (Take c) may a = sound_input s (Take c) tt a
lone_sound s TakeUnknown may a = sound_input s TakeUnknown tt a
lone_sound s Tick may a = sound_input s Tick tt a
lone_sound s (Reset window) may a = sound_input s (Reset window) tt a
lone_sound s (Start value) may a = sound_input s (Start value) tt a
lone_sound s Stop may a = sound_input s Stop tt a
lone_sound s _ may a = absurd may

module _ (found : Core) (t : List Entry) (l : Lone) (some : 1 ≤ l.link) (most : l.link ≤ 7) (n : Running) (keeps : LoneKeeps (begin_read found) t l n)
    (talk : LoneTalks t l) (c : LoneCause) (i : LinkInput) (comes : lone_input c ≡ Some i) where
  abbrev pub begins : Work
  begins = start found t l some most n keeps c i comes

  abbrev pub passing : Work
  passing = begun found t l some most n keeps c i comes

  start_is : Alone l.number l.link (begin_read found) t begins
  start_is = start_alone found t l some most n keeps c i comes

  -- as something has come to the end
  abbrev come : Work
  come = all_come (node_input l.link i) begins

  come_fine : IsFineWork come
  come_fine = subst IsFineWork (came_is l.number l.link (begin_read found) t i (lone_comes c i comes) begins start_is) (came_fine
      (node_input l.link i) begins (grind arith))

  come_talks : Talks l.number l.link (session_with l i) t come
  come_talks =
      let may : IsLoneInput i = lone_comes c i comes in
      let R : Read = begin_read found in
      let a : Alone l.number l.link R t begins = begins_alone R t l n i (lone_arrival l c) (arrival_nothing l c) keeps in
      let first : List Entry = lone_arrival l c in
      let told_it : List Entry = told_at begins.core (lone_port l.side (session_with l i) keeps.desk) (Some i) in
      let X : Talk = talk_of_side l.side l.session in
      let e : End = lone_end l in
      let k : ℕ = session_with l i in
      let same : began_by l.side i ≡ false → k ≡ l.session = λ q. ap (λ b. cond b (rsets_since i l.rsets) l.session) q in
      record {
        port = came_port l.number l.link R t i may begins a;
        ports_are = came_ports l.number l.link R t i may begins a;
        host = keeps.host;
        node = keeps.node;
        same = refl;
        aside = input_aside l.side i may ∙ talk.aside;
        role = input_kind l.side i may ∙ talk.role;
        sound = lone_sound l.side i may talk.sound;
        talk =
            subst (λ es. Reads e l.number k (t ++ es) (talk_of_side (after_input l.side i) k))
            (sym (came_entries l.number l.link R t i may begins a))
            (subst (λ es. Reads e l.number k es (talk_of_side (after_input l.side i) k)) (append_assoc t first told_it)
            (subst (Reads e l.number k ((t ++ first) ++ told_it)) (input_talk l.side i may talk.sound k l.session same)
            (told_reads e l.number keeps.desk.host (own_side begins.core) (own_side_end l.number l.link R t i may begins a) l.session k
            (whole_acked (after_input l.side i)) (t ++ first) (report l.side i) X
            (λ q. grind arith)
            (λ q. sym (same q)) (λ q. input_grows l.side i may talk.sound k l.session same q)
            (reads_silent e l.number l.session t first X (grind arith) talk.talk))));
      }

  syncs_fine : AllByRecursion IsFine (syncs_in (node_input l.link i) begins)
  syncs_fine = all_synced_hold IsFine (λ host id. tt) begins.core (node_input l.link i) begins.ports

  pub passing_known : passing.cut ≡ false → KnowsAlone l.number l.link (session_with l i) (begin_read found) t passing
  passing_known on =
      let R : Read = begin_read found in
      let syncs : List Deed = syncs_in (node_input l.link i) begins in
      let is : passing ≡ all_done 0 syncs come = pass_is l.number l.link R t i (lone_comes c i comes) begins start_is in
      record {
        keeps = begun_alone found t l some most n keeps c i comes on;
        talks = subst (Talks l.number l.link (session_with l i) t) (sym is)
            (all_do (λ v. v.cut ≡ false → Talks l.number l.link (session_with l i) t v) (λ d. IsFine d × IsOwnDeed l.number d)
            (talks_does l.number l.link (session_with l i) t) 0 syncs come
            (both_hold IsFine (IsOwnDeed l.number) syncs syncs_fine (syncs_own l.number l.link some most R t i begins start_is)) (λ _. come_talks)
            (subst (λ v. v.cut ≡ false) is on));
        fine = subst IsFineWork (sym is) (all_done_fine 0 syncs come syncs_fine come_fine);
      }
