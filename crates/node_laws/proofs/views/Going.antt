-- A host has its turns and its steps, and begins something: the init that runs there stays what is read, and so it does in steps of others.
use Rattle.node_laws.proofs.Words.{AllByRecursion, Asks, Bool, Cause, Command, Commits, Controller, Core, Cut, Deed, Desk, Down as NotedDown, Drops, Ends}
use Rattle.node_laws.proofs.Words.{Entry, Err, FetchMessage, Give, GoesOn, HasEnds, Hears, Hold, Host, Init, IsAnswered, IsComing, IsFresh, IsHost, IsOutside}
use Rattle.node_laws.proofs.Words.{IsResponse, LeavesInit, LinkInput, LinkState, List, Message, MessageFault, MessageKind, NodeInput, None, Noted, NumberedEnd}
use Rattle.node_laws.proofs.Words.{Ok, Option, Orders, Plain, Plan, Port, Release, Releases, Restarted, Result, Running, SaysOk, Sends, Sent, SetsErrors, Some}
use Rattle.node_laws.proofs.Words.{Tells, Turn, Up, Work, Write, [], after_input, after_sessions, all_done, all_synced_hold, ap, append-nil, arith, beginning}
use Rattle.node_laws.proofs.Words.{begins_with, body_in, body_of, by_cut, by_option, by_test, cases_Bool, comes_to_pass, commit, commit_writes, cond, cond-true}
use Rattle.node_laws.proofs.Words.{cond_both, count_of, deeds_of, done, end_h, end_of, end_of_node, end_view, ended_by, entries_for, entry_of, eq-eqb, eqb}
use Rattle.node_laws.proofs.Words.{fails_within, false, flat_map, fold, fold-append, goes_through_ends, handles, has, has_come, have_turns, header_of}
use Rattle.node_laws.proofs.Words.{holds_back, host_deeds, init_after, init_deeds, init_of, inl, input_at, inr, is_held, is_response, is_some, is_up, keeps}
use Rattle.node_laws.proofs.Words.{lack, learned, learned_holds, length, lets_go, loses_power, map, needs, noted_of, noting, option_map, option_map_or}
use Rattle.node_laws.proofs.Words.{option_to_list, ordered_deeds, own_side, own_view, passes, port_at, refl, report, response_deeds, same_end, sending, steps}
use Rattle.node_laws.proofs.Words.{subst, sym, synced, told_at, true, true≢false, turn_at, unless_cut, whole_acked, with_desk, with_port, with_response}
use Rattle.node_laws.proofs.Words.{work_of, ℕ, ◌&&◌, ◌++◌, ◌∙◌, ◌∷◌, ◌≡◌, ◌⊎◌}
use Rattle.hcp_packet.specs.declared.MessageKind.TheVariants.{Command as IsCommand, Event as IsEvent}
use Rattle.link_laws.specs.entries.Entries.{End as Side}
use Rattle.link_laws.specs.entries.Entries.Entry.{Down as IsDown, Tick}
use Rattle.node_machine.proofs.Walks.{all_ordered}
use Rattle.node_laws.specs.views.Inits.{KeepsInit}
use Rattle.node_laws.proofs.links.Noticing.{outside, stays_up}
use Rattle.node_laws.proofs.readings.Noting.{IsBeside, IsOwnNote, Notes, NotesSo, all_do, behind, behind_is, came_is, controller_notes, host_notes, on_is}
use Rattle.node_laws.proofs.readings.Noting.{over_is, steps_note}
use Rattle.node_laws.proofs.readings.Turning.{IsQuiet, host_side, rest_quiet, same_own, told_rest}
use Rattle.node_laws.proofs.telling.Events.{ports_for}
use Rattle.trace_model.specs.declared.entry.Entry.TheVariants as entry

-- ## A host has its turns, in which an init goes on or ends: what is read of it stays what the host keeps

-- what is read behind these entries, where this was read before
abbrev pub reads_init : ℕ → List Entry → Option Init → Option Init
reads_init h es i = fold (init_after h) i es

pub init_append : (h : ℕ) (xs ys : List Entry) (i : Option Init) → reads_init h (xs ++ ys) i ≡ reads_init h ys (reads_init h xs i)
init_append h xs ys i = fold-append (init_after h) i xs ys

-- ### Deeds of a host

-- a deed that neither gives nor hears a command of the host, nor tells of its init
abbrev IsNeutral : Deed → Type 0
IsNeutral (Orders message) = ⊥
IsNeutral Hears = ⊥
IsNeutral (GoesOn i) = ⊥
IsNeutral (Ends y) = ⊥
IsNeutral (Asks to message c) = ⊥
IsNeutral (Tells to message) = ⊥
IsNeutral _ = Unit {0}

abbrev AreNeutral : List Deed → Type 0
AreNeutral deeds = AllByRecursion IsNeutral deeds

plain : Plain IsNeutral
plain = record { sends = λ to x. tt; says_ok = tt; releases = λ asker. tt; is_answered = tt; drops = λ pid. tt }

ordered_neutral : (core : Core) (errors pipe n : ℕ) (body : List ℕ) → AreNeutral (ordered_deeds (own_view core) errors pipe n body)
ordered_neutral core errors pipe n body = all_ordered IsNeutral core plain (λ c. tt) errors pipe n body (λ zero value is. tt)

learned_neutral : (core : Core) (order value : List ℕ) → AreNeutral (learned (own_view core) order value)
learned_neutral core order value = learned_holds AreNeutral core tt (λ c may room. (tt, tt)) order value

module _ (h : ℕ) (now : LinkState) where
  -- Deeds that may follow where y is read of the init, and the host keeps this command and this init: behind them what is read is what
  -- is kept, and where an init runs a command waits and the end is up.
  abbrev pub MayGo : Option Init → Option (List ℕ) → Option Init → List Deed → Type 0
  MayGo y command init [] = (y ≡ init) × (is_some init ≡ true → (is_some command ≡ true) × (now ≡ Up))
  MayGo y command init (Orders order ∷ deeds) = MayGo y (Some order) init deeds
  MayGo y command init (Hears ∷ deeds) = MayGo y None init deeds
  MayGo y command init (GoesOn i ∷ deeds) = MayGo y command (Some i) deeds
  MayGo y command init (Ends x ∷ deeds) = MayGo (init_after h y x) command None deeds
  MayGo y command init (Asks to message c ∷ deeds) = ⊥
  MayGo y command init (Tells to message ∷ deeds) = ⊥
  MayGo y command init (_ ∷ deeds) = MayGo y command init deeds

  neutral_go : (y : Option Init) (command : Option (List ℕ)) (init : Option Init) (deeds more : List Deed) → AreNeutral deeds → MayGo y command init more
      → MayGo y command init (deeds ++ more)
  neutral_go y command init [] more all go = go
  neutral_go y command init (Asks to message c ∷ deeds) more all go = absurd all.0
  neutral_go y command init (Tells to message ∷ deeds) more all go = absurd all.0
  neutral_go y command init (Orders order ∷ deeds) more all go = absurd all.0
  neutral_go y command init (Hears ∷ deeds) more all go = absurd all.0
  neutral_go y command init (GoesOn i ∷ deeds) more all go = absurd all.0
  neutral_go y command init (Ends x ∷ deeds) more all go = absurd all.0
  neutral_go y command init (_ ∷ deeds) more all go = neutral_go y command init deeds more all.1 go

  neutral_stays : (y : Option Init) (command : Option (List ℕ)) (init : Option Init) (deeds : List Deed) → y ≡ init
      → (is_some init ≡ true → (is_some command ≡ true) × (now ≡ Up)) → AreNeutral deeds → MayGo y command init deeds
  neutral_stays y command init deeds is waits all = subst (MayGo y command init) (append-nil deeds) (neutral_go y command init deeds [] all (is, waits))

  module _ (core : Core) (number : core.node ≡ h) (side : own_side core ≡ Host) where
    ends_own : same_end (end_of_node core core.node) (end_h h) ≡ true
    ends_own = ap (λ s. same_end (end_of core.node s) (end_h h)) side ∙ (ap (λ n. same_end (end_h n) (end_h h)) number ∙ same_own h)

    over : (y : Option Init) → cond (same_end (end_of_node core core.node) (end_h h)) None y ≡ None
    over y = ap (λ b. cond b None y) ends_own

    ended : (y : Option Init) (command : Option (List ℕ)) → y ≡ None → MayGo y command None []
    ended y command is = (is, λ some. absurd (true≢false (sym some)))

    none_of : (o : Option Init) → (is_some o ≡ true → ⊥) → o ≡ None
    none_of o e = grind arith

    response_go : (code : ℕ) (value : List ℕ) → now ≡ Up → (is_some core.init ≡ true → is_some core.command ≡ true)
        → MayGo (option_map with_response core.init) core.command core.init (response_deeds (own_view core) code value)
    response_go code value up waits = by_option core.command
        (λ q. rw q (rw (none_is q) (ended None None refl)))
        (λ order q. rw q (neutral_go (option_map with_response core.init) None core.init (cond (eqb code 0) (learned (own_view core) order value) [])
        (init_deeds (own_view core) code value core.init)
        (cond_both (eqb code 0) (learned (own_view core) order value) [] AreNeutral (λ _. learned_neutral core order value) (λ _. tt))
        (grind arith))) where
          none_is : core.command ≡ None → core.init ≡ None
          none_is q = none_of core.init (λ some. true≢false (sym (waits some) ∙ ap is_some q))

    -- what is read of the init behind the turn of a message
    abbrev answered_by : Message → Option Init → Option Init
    answered_by m y = cond (eqb m.0 1 && is_response m.1) (option_map with_response y) y

    neutral_all : (y : Option Init) (deeds : List Deed) → y ≡ core.init → (is_some core.init ≡ true → (is_some core.command ≡ true) × (now ≡ Up))
        → AreNeutral deeds
        → MayGo y core.command core.init deeds
    neutral_all y deeds is waits all = subst (MayGo y core.command core.init) (append-nil deeds) (neutral_go y core.command core.init deeds [] all (is, waits))

    -- what a host does with a message
    host_go : (p : Port) (m : Message) → p.side.shdlc.phase ≡ now → (is_some core.init ≡ true → (is_some core.command ≡ true) × (now ≡ Up))
        → MayGo (answered_by m core.init) core.command core.init (host_deeds (own_view core) (end_view p) m)
    host_go p m phase waits = go (is_up p.side.shdlc.phase) (header_of m.1) refl refl where
      Fine : List Deed → Type 0
      Fine deeds = MayGo (answered_by m core.init) core.command core.init deeds

      up_is : (s : LinkState) → s ≡ Up → is_up s ≡ true
      up_is s e = rw e refl

      go : (b : Bool) (x : Result (MessageKind × ℕ) MessageFault) → is_up p.side.shdlc.phase ≡ b → header_of m.1 ≡ x
          → Fine (host_deeds (own_view core) (end_view p) m)
      go false x q z = rw q (neutral_all (answered_by m core.init) (Drops m.0 ∷ []) (grind arith) waits (tt, tt))
      go true (Ok (IsCommand, n)) q z =
          let other : is_response m.1 ≡ false = rw z refl in
          let shown : host_deeds (own_view core) (end_view p) m ≡ ordered_deeds (own_view core) p.desk.errors m.0 n (body_in m.1) = rw (q, z) refl in
          subst Fine (sym shown)
          (neutral_all (answered_by m core.init) (ordered_deeds (own_view core) p.desk.errors m.0 n (body_in m.1)) (grind arith) waits
          (ordered_neutral core p.desk.errors m.0 n (body_in m.1)))
      go true (Ok (IsEvent, n)) q z = grind arith
      go true (Err fault) q z = grind arith
      go true (Ok (IsResponse, n)) q z = subst Fine (sym shown) (by_pipe (cases_Bool (eqb m.0 1))) where
        shown : host_deeds (own_view core) (end_view p) m ≡ cond (eqb m.0 1) (response_deeds (own_view core) n (body_in m.1)) []
        shown = rw (q, z) refl

        by_pipe : (eqb m.0 1 ≡ true) ⊎ (eqb m.0 1 ≡ false) → Fine (cond (eqb m.0 1) (response_deeds (own_view core) n (body_in m.1)) [])
        by_pipe (inl one) =
            subst (λ b. MayGo (cond (b && is_response m.1) (option_map with_response core.init) core.init) core.command core.init (cond b
            (response_deeds (own_view core) n (body_in m.1)) [])) (sym one)
            (rw z (response_go n (body_in m.1) (sym phase ∙ (grind arith)) (λ some. (waits some).0)))
        by_pipe (inr off) =
            subst (λ b. MayGo (cond (b && is_response m.1) (option_map with_response core.init) core.init) core.command core.init (cond b
            (response_deeds (own_view core) n (body_in m.1)) [])) (sym off) (neutral_all core.init [] refl waits tt)

-- ## A step of a host: the init that runs there stays what is read

-- ### What is noted of an end

pub quiet_init : (h k : ℕ) (notes : List Noted) (y : Option Init) → AllByRecursion IsQuiet notes → reads_init h (entries_for k notes) y ≡ y
quiet_init h k [] y all = refl
quiet_init h k (IsDown who cause ∷ notes) y all = absurd all.0
quiet_init h k (Sent who n m ∷ notes) y all = absurd all.0
quiet_init h k (_ ∷ notes) y all = quiet_init h k notes y all.1

told_init : (h : ℕ) (core : Core) (p : Port) (i : LinkInput) (y : Option Init) → own_side core ≡ Host → p.desk.host ≡ h
    → reads_init h (told_at core p (Some i)) y ≡ cond (is_some (ended_by p.side i)) None y
told_init h core p i y side at = rw side (go (ended_by p.side i)) where
  rest : List Noted
  rest = told_rest Host p.session (whole_acked (after_input p.side i)) (report p.side i)

  go : (o : Option Cause) → reads_init h (entries_for p.desk.host (map (IsDown Host) (option_to_list o) ++ rest)) y ≡ cond (is_some o) None y
  go None = quiet_init h p.desk.host rest y (rest_quiet Host p.session (whole_acked (after_input p.side i)) (report p.side i))
  go (Some cause) =
      ap (λ b. reads_init h (entries_for p.desk.host rest) (cond b None y)) (ap (λ k. same_end (end_h k) (end_h h)) at ∙ same_own h)
      ∙ quiet_init h p.desk.host rest None (rest_quiet Host p.session (whole_acked (after_input p.side i)) (report p.side i))

turn_init : (h : ℕ) (core : Core) (t : Turn) (o : Option Port) (y : Option Init) → reads_init h (option_map_or (noted_of core t) o []) y ≡ y
turn_init h core t o y = grind arith

module _ (h : ℕ) (host : IsHost h) (i0 : Option Init) where
  -- the host and its one end, which is in this phase
  pub record Base (now : LinkState) (w : Work) : Type 0 where
    pub number : w.core.node ≡ h
    pub port : Port
    pub is : w.ports ≡ port ∷ []
    pub at : port.desk.host ≡ h
    pub quiet : port.desk.notice ≡ None
    pub phase : port.side.shdlc.phase ≡ now

  -- what is read is what it keeps, while it has power
  pub record Stands (now : LinkState) (w : Work) : Type 0 where
    pub base : Base now w
    pub on : w.cut ≡ false → (reads_init h w.entries i0 ≡ w.core.init) × (is_some w.core.init ≡ true → (is_some w.core.command ≡ true) × (now ≡ Up))
    pub off : w.cut ≡ true → reads_init h w.entries i0 ≡ None

  module _ (now : LinkState) where
    noted : (es : List Entry) (w : Work) (y : Option Init) → reads_init h w.entries i0 ≡ y → ((y : Option Init) → reads_init h es y ≡ y)
        → reads_init h (w.entries ++ es) i0 ≡ y
    noted es w y was silent = init_append h w.entries es i0 ∙ (silent (reads_init h w.entries i0) ∙ was)

    ends : (k : ℕ) (f : Port → Port) (w v : Work) → v.core.node ≡ w.core.node → v.ports ≡ with_port k f w.ports → ((p : Port) → (f p).desk.host ≡ p.desk.host)
        → ((p : Port) → p.desk.notice ≡ None → (f p).desk.notice ≡ None) → ((p : Port) → (f p).side.shdlc.phase ≡ p.side.shdlc.phase) → Base now w → Base now v
    ends k f w v node ports same quiet phase b = grind arith

    turned : (k : ℕ) (t : Turn) (w v : Work) → v.core.node ≡ w.core.node → v.ports ≡ w.ports → Base now w → Base now (turn_at k t v)
    turned k t w v node ports b = grind arith

    turn_seen : (k : ℕ) (t : Turn) (w : Work) (y : Option Init) → reads_init h w.entries i0 ≡ y → reads_init h (turn_at k t w).entries i0 ≡ y
    turn_seen k t w y was = noted (option_map_or (noted_of w.core t) (port_at w.ports k) []) w y was (turn_init h w.core t (port_at w.ports k))

    desked : (k : ℕ) (f : Desk → Desk) (w : Work) → ((d : Desk) → (f d).host ≡ d.host) → ((d : Desk) → d.notice ≡ None → (f d).notice ≡ None) → Base now w
        → Base now (with_desk k f w)
    desked k f w same quiet b = grind arith

    same_base : (w v : Work) → v.core.node ≡ w.core.node → v.ports ≡ w.ports → Base now w → Base now v
    same_base w v node ports b = grind arith

    then_on : (f : Work → Work) (w : Work) → w.cut ≡ false → Stands now (f w) → Stands now (unless_cut f w)
    then_on f w on s = by_cut (Stands now) f w (λ q. absurd (true≢false (sym q ∙ on))) (λ q. s)

    then : (f : Work → Work) (w : Work) → (w.cut ≡ false → Stands now w → Stands now (f w)) → Stands now w → Stands now (unless_cut f w)
    then f w one s = by_cut (Stands now) f w (λ q. s) (λ q. one q s)

    -- ### Deeds

    pub all_go : (k : ℕ) (deeds : List Deed) (w : Work) (y : Option Init) → w.cut ≡ false → Base now w → reads_init h w.entries i0 ≡ y
        → MayGo h now y w.core.command w.core.init deeds → Stands now (all_done k deeds w)
    all_go k [] w y on b was may = grind arith
    all_go k (Commits c ∷ deeds) w y on b was may = by (cases_Bool (fails_within (length writes) w.plan)) (all_go k deeds) where
      writes : List Write
      writes = commit_writes w.core.journal w.core.tables (body_of c)

      begun : Work
      begun = noting (entry.Command w.core.node c ∷ []) w

      lost : Work
      lost = loses_power writes begun

      kept : Work
      kept = keeps c writes begun

      by : (fails_within (length writes) w.plan ≡ true) ⊎ (fails_within (length writes) w.plan ≡ false)
          → ((w : Work) (y : Option Init) → w.cut ≡ false → Base now w → reads_init h w.entries i0 ≡ y → MayGo h now y w.core.command w.core.init deeds
          → Stands now (all_done k deeds w)) → Stands now (unless_cut (all_done k deeds) (commit c w))
      by (inl q) later = rw q (record {
        base = same_base w lost refl refl b;
        on = λ z. absurd (true≢false z);
        off = λ z. init_append h begun.entries (entry.Cut w.core.node ∷ []) i0
            ∙ ap (λ b. cond b None (reads_init h begun.entries i0)) (eq-eqb w.core.node h b.number);
      })
      by (inr q) later = rw q (then_on (all_done k deeds) kept on (later kept y on
          (same_base w kept refl refl b) (noted (entry.Command w.core.node c ∷ []) w y was (λ z. refl)) may))
    all_go k (Sends to m ∷ deeds) w y on b was may =
        then_on (all_done k deeds) (turn_at to (Give m) w) on (all_go k deeds (turn_at to (Give m) w) y on (turned to (Give m) w w refl refl b)
        (turn_seen to (Give m) w y was) may)
    all_go k (SaysOk ∷ deeds) w y on b was may =
        then_on (all_done k deeds) (done k SaysOk w) on (all_go k deeds (done k SaysOk w) y on (same_base w (done k SaysOk w) refl refl b)
        (noted (entry.AnyOk w.core.node (count_of w.core.journal) ∷ []) w y was (λ z. refl)) may)
    all_go k (Asks to message c ∷ deeds) w y on b was may = absurd may
    all_go k (Releases asker ∷ deeds) w y on b was may =
        then_on (all_done k deeds) (turn_at asker Release w) on (all_go k deeds (turn_at asker Release w) y on (turned asker Release w w refl refl b)
        (turn_seen asker Release w y was) may)
    all_go k (Tells to message ∷ deeds) w y on b was may = absurd may
    all_go k (IsAnswered ∷ deeds) w y on b was may =
        then_on (all_done k deeds) (done k IsAnswered w) on (all_go k deeds (done k IsAnswered w) y on (grind arith) was may)
    all_go k (Drops pid ∷ deeds) w y on b was may =
        then_on (all_done k deeds) (done k (Drops pid) w) on (all_go k deeds (done k (Drops pid) w) y on (same_base w (done k (Drops pid) w) refl refl b)
        (noted (entry.Dropped (end_of_node w.core k) pid ∷ []) w y was (λ z. refl)) may)
    all_go k (SetsErrors errors ∷ deeds) w y on b was may =
        then_on (all_done k deeds) (done k (SetsErrors errors) w) on (all_go k deeds (done k (SetsErrors errors) w) y on
        (desked k (λ d. record d { errors = errors }) w (λ d. refl) (λ d is. is) b) was may)
    all_go k (Orders order ∷ deeds) w y on b was may =
        let v : Work = record w { core = record w.core { command = Some order } } in
        then_on (all_done k deeds) (turn_at k (Give (1, order)) v) on (all_go k deeds (turn_at k (Give (1, order)) v) y on
        (turned k (Give (1, order)) w v refl refl b) (turn_seen k (Give (1, order)) v y was) may)
    all_go k (Hears ∷ deeds) w y on b was may =
        then_on (all_done k deeds) (done k Hears w) on (all_go k deeds (done k Hears w) y on (same_base w (done k Hears w) refl refl b) was may)
    all_go k (GoesOn i ∷ deeds) w y on b was may =
        then_on (all_done k deeds) (done k (GoesOn i) w) on (all_go k deeds (done k (GoesOn i) w) y on (same_base w (done k (GoesOn i) w) refl refl b) was may)
    all_go k (Ends x ∷ deeds) w y on b was may =
        then_on (all_done k deeds) (done k (Ends x) w) on
        (all_go k deeds (done k (Ends x) w) (init_after h y x) on (same_base w (done k (Ends x) w) refl refl b)
        (init_append h w.entries (x ∷ []) i0 ∙ ap (λ z. init_after h z x) was) may)

    -- ### Turns

    side_of_host : (w : Work) → Base now w → own_side w.core ≡ Host
    side_of_host w b = host_side w.core h host b.number

    pub handled : (m : Message) (w : Work) → w.cut ≡ false → Stands now w → (b : Base now w)
        → Stands now (handles h m (host_deeds (own_view w.core) (end_view b.port) m) w)
    handled m w on s b =
        all_go h (host_deeds (own_view w.core) (end_view b.port) m) fetched (answered_by h now w.core b.number (side_of_host w b) m w.core.init) on
        (desked h (λ d. record d { holds = false }) (turn_at h FetchMessage said) (λ d. refl) (λ d is. is) (grind arith))
        (turn_seen h FetchMessage said (answered_by h now w.core b.number (side_of_host w b) m w.core.init) read)
        (host_go h now w.core b.number (side_of_host w b) b.port m b.phase (s.on on).1) where
          said : Work
          said = noting (entry.Turn (end_of_node w.core h) m.0 m.1 ∷ []) w

          fetched : Work
          fetched = with_desk h (λ d. record d { holds = false }) (turn_at h FetchMessage said)

          own : same_end (end_of_node w.core h) (end_h h) ≡ true
          own = ap (λ s. same_end (end_of h s) (end_h h)) (side_of_host w b) ∙ same_own h

          read : reads_init h said.entries i0 ≡ answered_by h now w.core b.number (side_of_host w b) m w.core.init
          read =
              init_append h w.entries (entry.Turn (end_of_node w.core h) m.0 m.1 ∷ []) i0
              ∙ (grind arith)

    noting_stands : (es : List Entry) (w : Work) → ((y : Option Init) → reads_init h es y ≡ y) → Stands now w → Stands now (noting es w)
    noting_stands es w silent s = record {
      base = same_base w (noting es w) refl refl s.base;
      on = λ q. (noted es w w.core.init (s.on q).0 silent, (s.on q).1);
      off = λ q. noted es w None (s.off q) silent;
    }

    turn_stands : (k : ℕ) (t : Turn) (w : Work) → Stands now w → Stands now (turn_at k t w)
    turn_stands k t w s = record {
      base = turned k t w w refl refl s.base;
      on = λ q. (turn_seen k t w w.core.init (s.on q).0, (s.on q).1);
      off = λ q. turn_seen k t w None (s.off q);
    }

    desk_stands : (k : ℕ) (f : Desk → Desk) (w : Work) → ((d : Desk) → (f d).host ≡ d.host) → ((d : Desk) → d.notice ≡ None → (f d).notice ≡ None)
        → Stands now w → Stands now (with_desk k f w)
    desk_stands k f w same quiet s = record { base = desked k f w same quiet s.base; on = s.on; off = s.off }

    pub holds : (k : ℕ) (short : ℕ × ℕ) (w : Work) → Stands now w → Stands now (holds_back k short w)
    holds k short w s = by_test (option_map_or (λ (p : Port). p.desk.holds) (port_at w.ports k) false)
        (λ q. rw q (turn_stands k (Hold true) w s))
        (λ q. rw q (turn_stands k (Hold true) (with_desk k (λ d. record d { holds = true }) said)
        (desk_stands k (λ d. record d { holds = true }) said (λ d. refl)
        (λ d is. is) (noting_stands (entry.Held (end_of_node w.core k) short.0 short.1 ∷ []) w (λ y. refl) s)))) where
          said : Work
          said = noting (entry.Held (end_of_node w.core k) short.0 short.1 ∷ []) w

    pub lets : (k : ℕ) (w : Work) → Stands now w → Stands now (lets_go k w)
    lets k w s = by_test (option_map_or (λ (p : Port). is_held p.side) (port_at w.ports k) false)
        (λ q. rw q (turn_stands k (Hold false) w s))
        (λ q. rw q s)

    node_off : (w : Work) → Base now w → eqb w.core.node 0 ≡ false
    node_off w b = grind arith

    pub deeds_is : (m : Message) (w : Work) (b : Base now w) → deeds_of w.core w.ports h m ≡ host_deeds (own_view w.core) (end_view b.port) m
    deeds_is m w b =
        let here : port_at w.ports h ≡ Some b.port = ap (λ ps. port_at ps h) b.is ∙ cond-true (eqb b.port.desk.host h) (Some b.port) None
        (eq-eqb b.port.desk.host h b.at) in rw (node_off w b, here) refl

    have : (messages : List Message) (w : Work) → w.cut ≡ false → Stands now w → Stands now (have_turns h messages w)
    have [] w on s = lets h w s
    have (m ∷ messages) w on s = by_option (lack w.ports (needs h deeds))
        (λ q. rw q (then (have_turns h messages) (handles h m deeds w) (λ still z. have messages (handles h m deeds w) still z)
        (subst (λ d. Stands now (handles h m d w)) (sym (deeds_is m w s.base)) (handled m w on s s.base))))
        (λ short q. rw q (holds h short w s)) where
          deeds : List Deed
          deeds = deeds_of w.core w.ports h m

    goes : (hosts : List ℕ) (w : Work) → w.cut ≡ false → Stands now w → Stands now (goes_through_ends hosts w)
    goes [] w on s = s
    goes (k ∷ hosts) w on s =
        let messages : List Message = option_map_or (λ (p : Port). p.side.got) (port_at w.ports k) [] in
        then (goes_through_ends hosts) (have_turns k messages w) (λ still z. goes hosts (have_turns k messages w) still z) (by (grind arith)) where
          none_is : eqb s.base.port.desk.host k ≡ false → option_map_or (λ (p : Port). p.side.got) (port_at w.ports k) [] ≡ []
          none_is q = grind arith

          by : (eqb s.base.port.desk.host k ≡ true) ⊎ (eqb s.base.port.desk.host k ≡ false)
              → Stands now (have_turns k (option_map_or (λ (p : Port). p.side.got) (port_at w.ports k) []) w)
          by (inl q) =
              subst (λ n. Stands now (have_turns n (option_map_or (λ (p : Port). p.side.got) (port_at w.ports n) []) w)) (grind arith)
              (have (option_map_or (λ (p : Port). p.side.got) (port_at w.ports h) []) w on s)
          by (inr q) = subst (λ ms. Stands now (have_turns k ms w)) (sym (none_is q)) (lets k w s)

    passes_stand : (w : Work) → w.cut ≡ false → Stands now w → Stands now (passes w)
    passes_stand w on s = goes (map (λ (p : Port). p.desk.host) w.ports) w on s

-- ## Something comes to a host, or it begins something: the init that runs there stays what is read

module _ (h : ℕ) (host : IsHost h) (i0 : Option Init) where
  -- what came to the end of a host
  record HasCome (now : LinkState) (w : Work) (q : Port) (more : List Entry) : Type 0 where
    at : q.desk.host ≡ h
    quiet : q.desk.notice ≡ None
    late : q.late ≡ false
    told : (y : Option Init) → reads_init h more y ≡ cond q.ended None y
    up : now ≡ Up → q.ended ≡ false → q.side.shdlc.phase ≡ Up

  came_so : (now : LinkState) (w : Work) (p : Port) (o : Option LinkInput) → ((i : LinkInput) → o ≡ Some i → IsComing i) → w.core.node ≡ h → p.desk.host ≡ h
      → p.desk.notice ≡ None → p.side.shdlc.phase ≡ now → IsFresh p → HasCome now w (has_come p o) (told_at w.core p o)
  came_so now w p None coming node at quiet phase fresh = grind arith
  came_so now w p (Some i) coming node at quiet phase fresh = record {
    at = at;
    quiet = quiet;
    late = fresh.1;
    told = λ y. told_init h w.core p i y (host_side w.core h host node) at;
    up = λ is ended. stays_up p.side i (coming i refl) (phase ∙ is) ended;
  }

  -- the host behind what came
  begun_stands : (now : LinkState) (w : Work) (q : Port) (more : List Entry) → w.cut ≡ false → Stands h host i0 now w → HasCome now w q more
      → Stands h host i0 q.side.shdlc.phase (record w { core = after_sessions w.core (q ∷ []); ports = q ∷ []; entries = w.entries ++ more })
  begun_stands now w q more on s came = by_end (cases_Bool q.ended) where
    Fine : Core → Type 0
    Fine core = Stands h host i0 q.side.shdlc.phase (record w { core = core; ports = q ∷ []; entries = w.entries ++ more })

    read : reads_init h (w.entries ++ more) i0 ≡ cond q.ended None w.core.init
    read = init_append h w.entries more i0 ∙ (came.told (reads_init h w.entries i0) ∙ ap (λ y. cond q.ended None y) (s.on on).0)

    base : (core : Core) → core.node ≡ h → Base h host i0 q.side.shdlc.phase (record w { core = core; ports = q ∷ []; entries = w.entries ++ more })
    base core number = record { number = number; port = q; is = refl; at = came.at; quiet = came.quiet; phase = refl }

    by_end : (q.ended ≡ true) ⊎ (q.ended ≡ false) → Fine (after_sessions w.core (q ∷ []))
    by_end (inl e) = subst Fine (sym (over_is w.core q e)) (record {
      base = base (record w.core { command = None; init = None }) s.base.number;
      on = λ z. (read ∙ ap (λ b. cond b None w.core.init) e, λ some. absurd (true≢false (sym some)));
      off = λ z. absurd (true≢false (sym z ∙ on));
    })
    by_end (inr e) = subst Fine (sym (on_is w.core q came.late e)) (record {
      base = base w.core s.base.number;
      on = λ z. (read ∙ ap (λ b. cond b None w.core.init) e, λ some. (((s.on on).1 some).0, came.up ((s.on on).1 some).1 e));
      off = λ z. absurd (true≢false (sym z ∙ on));
    })

  -- and what it does then, before its turns
  rest_stands : (now : LinkState) (syncs : List Deed) (v : Work) → AreNeutral syncs → v.cut ≡ false → Stands h host i0 now v
      → Stands h host i0 now (unless_cut (all_done 0 []) (all_done 0 syncs v))
  rest_stands now syncs v neutral on s =
      let kept : Stands h host i0 now (all_done 0 syncs v) = all_go h host i0 now 0 syncs v v.core.init on s.base (s.on on).0
      (neutral_stays h now v.core.init v.core.command v.core.init syncs refl (s.on on).1 neutral) in
      then h host i0 now (all_done 0 []) (all_done 0 syncs v) (λ still z. z) kept

  behind_stands : (now : LinkState) (syncs : List Deed) (w : Work) (q : Port) (more : List Entry) → AreNeutral syncs → w.cut ≡ false
      → Stands h host i0 now w → HasCome now w q more
      → Stands h host i0 q.side.shdlc.phase (behind syncs (record w { ports = q ∷ []; entries = w.entries ++ more }))
  behind_stands now syncs w q more neutral on s came =
      let begun : Work = record w { core = after_sessions w.core (q ∷ []); ports = q ∷ []; entries = w.entries ++ more } in
      subst (Stands h host i0 q.side.shdlc.phase) (sym (behind_is syncs w q more came.quiet))
      (rest_stands q.side.shdlc.phase syncs begun neutral on (begun_stands now w q more on s came))

  -- as its pass begins
  pub ready_stand : (now : LinkState) (input : NodeInput) (w : Work) → IsOutside input → w.cut ≡ false → (s : Stands h host i0 now w) → IsFresh s.base.port
      → Stands h host i0 (has_come s.base.port (input_at input s.base.port)).side.shdlc.phase (comes_to_pass input w)
  ready_stand now input w out on s fresh =
      subst (λ v. Stands h host i0 q.side.shdlc.phase (comes_to_pass input v)) (sym w_is)
      (subst (λ u. Stands h host i0 q.side.shdlc.phase (behind syncs u)) (sym (came_is input w p came.quiet))
      (behind_stands now syncs w q more neutral on s came)) where
        p : Port
        p = s.base.port

        v : Work
        v = record w { ports = p ∷ [] }

        w_is : w ≡ v
        w_is = ap (λ ps. record w { ports = ps }) s.base.is

        q : Port
        q = has_come p (input_at input p)

        more : List Entry
        more = told_at w.core p (input_at input p)

        came : HasCome now w q more
        came = came_so now w p (input_at input p) (outside input out p) s.base.number s.base.at s.base.quiet s.base.phase fresh

        syncs : List Deed
        syncs = flat_map (synced w.core input) (p ∷ [])

        neutral : AreNeutral syncs
        neutral = all_synced_hold IsNeutral (λ host id. tt) w.core input (p ∷ [])

  pub steps_stand : (now : LinkState) (input : NodeInput) (w : Work) → IsOutside input → w.cut ≡ false → (s : Stands h host i0 now w) → IsFresh s.base.port
      → Stands h host i0 (has_come s.base.port (input_at input s.base.port)).side.shdlc.phase (steps input w)
  steps_stand now input w out on s fresh =
      let later : LinkState = (has_come s.base.port (input_at input s.base.port)).side.shdlc.phase in
      then h host i0 later passes (comes_to_pass input w) (λ still z. passes_stand h host i0 later (comes_to_pass input w) still z)
      (ready_stand now input w out on s fresh)

  -- ### What a host keeps

  keeps_stand : (w : Work) → w.cut ≡ false → (k : KeepsInit h i0 w) → Stands h host i0 k.port.side.shdlc.phase w
  keeps_stand w on k = grind arith

  stands_keep : (now : LinkState) (w : Work) → Stands h host i0 now w → KeepsInit h i0 w
  stands_keep now w s = grind arith

pub steps_keep : (h : ℕ) (begun : Option Init) (input : NodeInput) (w : Work) → IsHost h → IsOutside input → KeepsInit h begun w → w.cut ≡ false
    → AllByRecursion IsFresh w.ports → KeepsInit h begun (steps input w)
steps_keep h begun input w host out k on fresh =
    let s : Stands h host begun k.port.side.shdlc.phase w = keeps_stand h host begun w on k in
    stands_keep h host begun (has_come s.base.port (input_at input s.base.port)).side.shdlc.phase (steps input w)
    (steps_stand h host begun k.port.side.shdlc.phase input w out on s (subst (AllByRecursion IsFresh) s.base.is fresh).0)

pub sends_keep : (h : ℕ) (begun : Option Init) (m : Message) (w : Work) → IsHost h → KeepsInit h begun w → w.cut ≡ false
    → KeepsInit h begun (begins_with h (sending h m) w)
sends_keep h begun m w host k on =
    let now : LinkState = k.port.side.shdlc.phase in
    let s : Stands h host begun now w = keeps_stand h host begun w on k in
    stands_keep h host begun now (begins_with h (sending h m) w) (all_go h host begun now h (sending h m) w w.core.init on s.base (s.on on).0
    (grind arith))

pub begins_keep : (h : ℕ) (begun : Option Init) (identity : List ℕ) (pipes : List (List ℕ)) (w : Work) → IsHost h → (k : KeepsInit h begun w) → w.cut ≡ false
    → w.entries ≡ [] → k.port.side.shdlc.phase ≡ Up → KeepsInit h (Some (init_of identity pipes)) (begins_with h (beginning identity pipes) w)
begins_keep h begun identity pipes w host k on none up =
    let i : Option Init = Some (init_of identity pipes) in
    let now : LinkState = k.port.side.shdlc.phase in
    stands_keep h host i now (begins_with h (beginning identity pipes) w)
    (all_go h host i now h (beginning identity pipes) w i on (grind arith) (ap (λ es. reads_init h es i) none) (refl, λ some. (refl, up)))

-- ## What other nodes note tells nothing of the init that runs at a host

-- ### Entries

off_cond : (b : Bool) (x y : Option Init) → b ≡ false → cond b x y ≡ y
off_cond b x y e = rw e refl

pub quiet_leaves : (h k : ℕ) (notes : List Noted) → AllByRecursion IsQuiet notes → AllByRecursion (LeavesInit h) (entries_for k notes)
quiet_leaves h k [] all = tt
quiet_leaves h k (NotedDown who cause ∷ notes) all = absurd all.0
quiet_leaves h k (Sent who n m ∷ notes) all = absurd all.0
quiet_leaves h k (Tick ∷ notes) all = quiet_leaves h k notes all.1
quiet_leaves h k (Restarted who ∷ notes) all = quiet_leaves h k notes all.1
quiet_leaves h k (Cut who ∷ notes) all = quiet_leaves h k notes all.1
quiet_leaves h k (_ ∷ notes) all = ((λ y. refl), quiet_leaves h k notes all.1)

-- ### Another node

module _ (h n : ℕ) (other : eqb n h ≡ false) (who : Side) (is_side : cond (eqb n 0) Controller Host ≡ who) where
  abbrev pub IsOff : ℕ → Type 0
  IsOff k = same_end (end_of k who) (end_h h) ≡ false

  note_leaves : (k : ℕ) (x : Noted) → IsOff k → IsOwnNote who x → AllByRecursion (LeavesInit h) (entry_of k x)
  note_leaves k x off own = grind arith

  turned_leaves : (k pid : ℕ) (message : List ℕ) → IsOff k → LeavesInit h (entry.Turn (end_of k who) pid message)
  turned_leaves k pid message off = λ y. (rw off refl)

  beside_leaves : (x : Entry) → IsBeside n x → LeavesInit h x
  beside_leaves x b = grind arith

  deeds_leave : (core : Core) (ports : List Port) (k : ℕ) (m : Message) → core.node ≡ n → AllByRecursion (NotesSo (LeavesInit h)) (deeds_of core ports k m)
  deeds_leave core ports k m number = by_test (eqb core.node 0)
      (λ q. rw q (controller_notes (LeavesInit h) core ports k m))
      (λ q. rw q (one q (port_at ports k))) where
        own_off : eqb core.node 0 ≡ false → same_end (end_of_node core core.node) (end_h h) ≡ false
        own_off q = grind arith

        one : eqb core.node 0 ≡ false → (o : Option Port)
            → AllByRecursion (NotesSo (LeavesInit h)) (option_map_or (λ e. host_deeds (own_view core) e m) (option_map end_view o) [])
        one q None = tt
        one q (Some p) = host_notes (LeavesInit h) core (λ y. off_cond (same_end (end_of_node core core.node) (end_h h)) None y (own_off q))
            (λ count y. off_cond (same_end (end_of_node core core.node) (end_h h)) None y (own_off q))
            (λ code y. off_cond (same_end (end_of_node core core.node) (end_h h)) None y (own_off q)) p m

  ends_off : (near_ends : ℕ → NumberedEnd) (desks : List Desk) → AllByRecursion IsOff (map (λ (d : Desk). d.host) desks)
      → AllByRecursion (λ (p : Port). IsOff p.desk.host) (ports_for near_ends desks)
  ends_off near_ends [] all = tt
  ends_off near_ends (d ∷ desks) all = (all.0, ends_off near_ends desks all.1)

  begun_notes : (hosts : List ℕ) (r : Running) (plan : Option Plan) (near_ends : ℕ → NumberedEnd) (es : List Entry) → HasEnds n hosts r
      → AllByRecursion IsOff hosts
      → AllByRecursion (LeavesInit h) es
      → Notes (LeavesInit h) n who IsOff (work_of r plan near_ends es)
  begun_notes hosts r plan near_ends es has off so = record {
    number = has.number;
    side = ap (λ k. cond (eqb k 0) Controller Host) has.number ∙ is_side;
    ends = ends_off near_ends r.desks (subst (AllByRecursion IsOff) (sym has.ends) off);
    so = so;
  }

  pub others_step : (hosts : List ℕ) (r : Running) (plan : Option Plan) (near_ends : ℕ → NumberedEnd) (es : List Entry) (input : NodeInput) → HasEnds n hosts r
      → AllByRecursion IsOff hosts → AllByRecursion (LeavesInit h) es → AllByRecursion (LeavesInit h) (steps input (work_of r plan near_ends es)).entries
  others_step hosts r plan near_ends es input has off so =
      (steps_note (LeavesInit h) n who IsOff note_leaves turned_leaves beside_leaves deeds_leave input (work_of r plan near_ends es)
      (begun_notes hosts r plan near_ends es has off so)).so

  pub others_begin : (hosts : List ℕ) (r : Running) (plan : Option Plan) (near_ends : ℕ → NumberedEnd) (k : ℕ) (deeds : List Deed) → HasEnds n hosts r
      → AllByRecursion IsOff hosts → AllByRecursion (NotesSo (LeavesInit h)) deeds
      → AllByRecursion (LeavesInit h) (begins_with k deeds (work_of r plan near_ends [])).entries
  others_begin hosts r plan near_ends k deeds has off notes =
      (all_do (LeavesInit h) n who IsOff note_leaves turned_leaves beside_leaves deeds_leave k deeds (work_of r plan near_ends []) notes
      (begun_notes hosts r plan near_ends [] has off tt)).so
