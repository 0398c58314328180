-- A host does the deeds of a message and has its turns: its unanswered command stays the one that is read.
use Rattle.node_laws.proofs.Words.{Acked, Active, AllByRecursion, AllByRecursion-get, AreInitsShort, Bool, Command, Commits, Core, Deed, Desk}
use Rattle.node_laws.proofs.Words.{Down as NotedDown, Drops, Ends, Entry, Err, FetchMessage, Fits, GaveUp, Give, GoesOn, Got, Hears, Hold, Host, Init, InitMade}
use Rattle.node_laws.proofs.Words.{IsHost, IsItsEnd, IsResponse, KeepsOrder, LinkInput, LinkState, List, MayDo, Message, MessageFault, MessageKind, None, Noted}
use Rattle.node_laws.proofs.Words.{Ok, Option, Orders, Port, Release, Releases, Report, Result, SaysOk, Sends, Sent, Set, SetsErrors, Some, Turn, Up, Work, []}
use Rattle.node_laws.proofs.Words.{after_input, after_turn, all_done, ap, append_assoc, arith, awaited_after, body_in, body_of, by_option, by_test, changed_if}
use Rattle.node_laws.proofs.Words.{commit, commit_writes, cond, cond-true, cond_both, deeds_of, done, end_h, end_of_node, end_view, ended_by, entries_for}
use Rattle.node_laws.proofs.Words.{eq-eqb, eqb, fails_within, false, fold, fold-append, gate_of_pipe, give_refusal, goes_through_ends, handles, have_turns}
use Rattle.node_laws.proofs.Words.{header_of, holds_back, host_deeds, if_so, init_deeds, init_holds, inl, inr, is_command_message, is_gate, is_held}
use Rattle.node_laws.proofs.Words.{is_response, is_some, is_up, lack, learned, learned_holds, learns, learns_holds, length, lets_go, map, nat_lt, ne_eqb, need}
use Rattle.node_laws.proofs.Words.{needs, noted_of, noting, option_map, option_map_or, option_to_list, order_in, ordered_deeds, orders_hold, orders_of}
use Rattle.node_laws.proofs.Words.{own_side, own_view, passes, port_at, refl, report, response_deeds, same_end, sent_unless, spare, subst, sym, told_at, true}
use Rattle.node_laws.proofs.Words.{true≢false, turn_at, unless_cut, whole_acked, with_desk, with_port, ℕ, ◌&&◌, ◌++◌, ◌+◌, ◌∙◌, ◌∷◌, ◌≡◌, ◌≤◌, ◌⊎◌}
use Rattle.gate_loopback.specs.Loopback.{posts_back}
use Rattle.hcp_packet.specs.declared.MessageKind.TheVariants.{Command as IsCommand, Event as IsEvent}
use Rattle.link_laws.specs.entries.Entries.{End as Side}
use Rattle.link_laws.specs.entries.Entries.Entry.{Up as NotedUp}
use Rattle.node_laws.proofs.links.Noticing.{turn-phase}
use Rattle.node_laws.proofs.telling.Shapes.{rest_all}
use Rattle.trace_model.specs.declared.entry.Entry.TheVariants as entry

-- ## What tells nothing of the unanswered command of a host

-- what is read after these entries, where this was read before
abbrev pub reads : ℕ → List Entry → Option (List ℕ) → Option (List ℕ)
reads h es waits = fold (awaited_after is_command_message (end_h h) h) waits es

pub order_more : (t es : List Entry) (h : ℕ) → order_in (t ++ es) h ≡ reads h es (order_in t h)
order_more t es h = fold-append (awaited_after is_command_message (end_h h) h) None t es

reads_append : (h : ℕ) (xs ys : List Entry) (c : Option (List ℕ)) → reads h (xs ++ ys) c ≡ reads h ys (reads h xs c)
reads_append h xs ys c = fold-append (awaited_after is_command_message (end_h h) h) c xs ys

pub same_own : (h : ℕ) → same_end (end_h h) (end_h h) ≡ true
same_own h = rw (eq-eqb h h refl) refl

pub host_side : (core : Core) (h : ℕ) → IsHost h → core.node ≡ h → own_side core ≡ Host
host_side core h host is = let off : eqb core.node 0 ≡ false = ne_eqb core.node 0 (λ z. omega (arith, z, is, host.0)) in rw off refl

-- ### Notes

-- neither the end of a session nor a message that is sent
abbrev pub IsQuiet : Noted → Type 0
IsQuiet (NotedDown who cause) = ⊥
IsQuiet (Sent who n m) = ⊥
IsQuiet _ = Unit {0}

pub quiet_reads : (h k : ℕ) (notes : List Noted) (c : Option (List ℕ)) → AllByRecursion IsQuiet notes → reads h (entries_for k notes) c ≡ c
quiet_reads h k [] c all = refl
quiet_reads h k (NotedDown who cause ∷ notes) c all = absurd all.0
quiet_reads h k (Sent who n m ∷ notes) c all = absurd all.0
quiet_reads h k (_ ∷ notes) c all = quiet_reads h k notes c all.1

-- what is told of an input behind the end of a session
abbrev pub told_rest : Side → ℕ → ℕ → Report → List Noted
told_rest who n acked r =
    if_so r.began (NotedUp who n) ++ (if_so r.became_active (Active who) ++ (map (GaveUp who) (option_to_list r.gave_up)
    ++ (if_so (nat_lt 0 r.acked) (Acked who n acked) ++ map (Got who n) r.got)))

pub rest_quiet : (who : Side) (n acked : ℕ) (r : Report) → AllByRecursion IsQuiet (told_rest who n acked r)
rest_quiet who n acked r = rest_all IsQuiet who n acked tt tt (λ k. tt) tt (λ m. tt) r

-- what is told of an input reads as nothing but for the end of a session
pub told_reads : (h : ℕ) (core : Core) (p : Port) (i : LinkInput) (c : Option (List ℕ)) → own_side core ≡ Host → p.desk.host ≡ h
    → reads h (told_at core p (Some i)) c ≡ cond (is_some (ended_by p.side i)) None c
told_reads h core p i c side at = rw side (by_option (ended_by p.side i)
    (λ q. rw q (quiet_reads h p.desk.host rest c (rest_quiet Host p.session (whole_acked (after_input p.side i)) (report p.side i))))
    (λ cause q. rw q (ap (λ b. reads h (entries_for p.desk.host rest) (cond b None c)) (ap (λ k. same_end (end_h k) (end_h h)) at ∙ same_own h)
    ∙ quiet_reads h p.desk.host rest None (rest_quiet Host p.session (whole_acked (after_input p.side i)) (report p.side i)))))
  where
    rest : List Noted
    rest = told_rest Host p.session (whole_acked (after_input p.side i)) (report p.side i)

-- a message that is no command on pipe 01 reads as nothing
no_order : (a b c : Bool) (x y : Option (List ℕ)) → (b && c) ≡ false → cond (a && b && c) x y ≡ y
no_order a b c x y e = grind arith

-- ## A host does the deeds of a message: its unanswered command stays the one that is read

module _ (h : ℕ) (host : IsHost h) (before : List Entry) (now : LinkState) where
  -- the host runs, its end is in this phase, and what is read is its unanswered command
  pub record Runs (w : Work) : Type 0 where
    pub on : w.cut ≡ false
    pub node : w.core.node ≡ h
    pub port : Port
    pub is : w.ports ≡ port ∷ []
    pub its : IsItsEnd h w.core.command port
    pub phase : port.side.shdlc.phase ≡ now
    pub short : AreInitsShort w.core.init
    pub order : order_in (before ++ w.entries) h ≡ w.core.command

  -- its power is cut, and nothing is read
  pub record IsOff (w : Work) : Type 0 where
    pub off : w.cut ≡ true
    pub node : w.core.node ≡ h
    pub port : Port
    pub is : w.ports ≡ port ∷ []
    pub its : IsItsEnd h w.core.command port
    pub short : AreInitsShort w.core.init
    pub order : order_in (before ++ w.entries) h ≡ None

  abbrev pub Stands : Work → Type 0
  Stands w = Runs w ⊎ IsOff w

  pub stands_keep : (w : Work) → Stands w → KeepsOrder h before w
  stands_keep w a = grind arith

  pub keeps_stand : (w : Work) → w.cut ≡ false → (k : KeepsOrder h before w) → k.port.side.shdlc.phase ≡ now → Runs w
  keeps_stand w on k phase = grind arith

  -- one thing after another, unless the power is cut
  pub then : (f : Work → Work) (w : Work) → Stands w → (Runs w → Stands (f w)) → Stands (unless_cut f w)
  then f w a next = grind arith

  pub read_more : (w : Work) (es : List Entry) (c d : Option (List ℕ)) → order_in (before ++ w.entries) h ≡ c → reads h es c ≡ d
      → order_in (before ++ (w.entries ++ es)) h ≡ d
  read_more w es c d was more =
      ap (λ l. order_in l h) (sym (append_assoc before w.entries es)) ∙ (order_more (before ++ w.entries) es h ∙ (ap (reads h es) was ∙ more))

  -- it is noted what tells nothing
  noting_runs : (w : Work) (es : List Entry) → reads h es w.core.command ≡ w.core.command → Runs w → Runs (noting es w)
  noting_runs w es silent r = record {
    on = r.on;
    node = r.node;
    port = r.port;
    is = r.is;
    its = r.its;
    phase = r.phase;
    short = r.short;
    order = read_more w es w.core.command w.core.command r.order silent;
  }

  -- ### Ends

  desk_runs : (k : ℕ) (f : Desk → Desk) (w : Work) → ((d : Desk) → (f d).host ≡ d.host) → ((d : Desk) → (f d).notice ≡ d.notice) → Runs w
      → Runs (with_desk k f w)
  desk_runs k f w host_is notice_is r = grind arith

  turn_its : (t : Turn) (c : Option (List ℕ)) (p : Port) → IsItsEnd h c p → IsItsEnd h c (after_turn t p)
  turn_its t c p its = record { host = its.host; no_notice = its.no_notice; up = λ some. turn-phase p.side t ∙ its.up some }

  turn_runs : (k : ℕ) (t : Turn) (w : Work) → ((p : Port) → reads h (noted_of w.core t p) w.core.command ≡ w.core.command) → Runs w → Runs (turn_at k t w)
  turn_runs k t w silent r =
      noting_runs (record w { ports = with_port k (after_turn t) w.ports }) (option_map_or (noted_of w.core t) (port_at w.ports k) [])
      (grind arith)
      (grind arith)

  -- a message that is no command on pipe 01 is given
  give_runs : (k : ℕ) (m : Message) (w : Work) → (eqb m.0 1 && is_command_message m.1) ≡ false → Runs w → Runs (turn_at k (Give m) w)
  give_runs k m w other r = turn_runs k (Give m) w (λ p. grind arith) r

  -- an end that takes a message is up
  taken_up : (p : Port) (m : Message) → give_refusal p.side m ≡ None → p.side.shdlc.phase ≡ Up
  taken_up p m fits = grind arith

  -- a command is given where it fits
  own_order : (order : List ℕ) (w : Work) → Fits w.ports order → is_command_message order ≡ true → Runs w → Runs (done h (Orders order) w)
  own_order order w fits command r = record {
    on = r.on;
    node = r.node;
    port = changed_if (eqb r.port.desk.host h) (after_turn (Give (1, order))) r.port;
    is = ap (with_port h (after_turn (Give (1, order)))) r.is;
    its = grind arith;
    phase = (grind arith) ∙ r.phase;
    short = r.short;
    order = read_more w (option_map_or (noted_of told (Give (1, order))) (port_at w.ports h) []) w.core.command (Some order) r.order (grind arith);
  } where
    told : Core
    told = record w.core { command = Some order }

    sent : noted_of told (Give (1, order)) r.port ≡ entries_for h (sent_unless None Host r.port.session (1, order))
    sent = grind arith

    here : option_map_or (noted_of told (Give (1, order))) (port_at w.ports h) [] ≡ noted_of told (Give (1, order)) r.port
    here = grind arith

  order_runs : (k : ℕ) → k ≡ h → (order : List ℕ) (w : Work) → Fits w.ports order → is_command_message order ≡ true → Runs w
      → Runs (done k (Orders order) w)
  order_runs k is order w fits command r = subst (λ n. Runs (done n (Orders order) w)) (sym is) (own_order order w fits command r)

  -- a command is committed, or the power is cut
  commit_stands : (c : Command) (w : Work) → Runs w → Stands (commit c w)
  commit_stands c w r = by_test (fails_within (length (commit_writes w.core.journal w.core.tables (body_of c))) w.plan)
      (λ e. rw e (inr record {
        off = refl;
        node = r.node;
        port = r.port;
        is = r.is;
        its = r.its;
        short = r.short;
        order = read_more (noting (entry.Command w.core.node c ∷ []) w) (entry.Cut w.core.node ∷ []) w.core.command None begun.order
            (cond-true (eqb w.core.node h) None w.core.command (eq-eqb w.core.node h r.node));
      }))
      (λ e. rw e (inl record {
        on = r.on;
        node = r.node;
        port = r.port;
        is = r.is;
        its = r.its;
        phase = r.phase;
        short = r.short;
        order = begun.order;
      })) where
        begun : Runs (noting (entry.Command w.core.node c ∷ []) w)
        begun = noting_runs w (entry.Command w.core.node c ∷ []) refl r

  -- ### Deeds

  pub all_stand : (k : ℕ) (F : List ℕ → Type 0) (deeds : List Deed) (w : Work) → ((order : List ℕ) → F order → (k ≡ h) × Fits w.ports order)
      → MayDo h F deeds → Runs w → Stands (all_done k deeds w)
  all_stand k F [] w fits may r = inl r
  all_stand k F (Commits c ∷ deeds) w fits may r = then (all_done k deeds) (commit c w) (commit_stands c w r) (λ s. all_stand k F deeds (commit c w)
      (subst (λ ps. (order : List ℕ) → F order → (k ≡ h) × Fits ps order) (sym (grind arith)) fits) may s)
  all_stand k F (Sends to m ∷ deeds) w fits may r =
      then (all_done k deeds) (turn_at to (Give m) w) (inl (give_runs to m w may.0 r)) (all_stand k (λ o. ⊥) deeds (turn_at to (Give m) w)
      (λ o x. absurd x) may.1)
  all_stand k F (SaysOk ∷ deeds) w fits may r =
      then (all_done k deeds) (done k SaysOk w) (inl (noting_runs w _ refl r)) (all_stand k F deeds (done k SaysOk w) fits may)
  all_stand k F (Releases asker ∷ deeds) w fits may r =
      then (all_done k deeds) (turn_at asker Release w) (inl (turn_runs asker Release w (λ p. refl) r)) (all_stand k (λ o. ⊥) deeds (turn_at asker Release w)
      (λ o x. absurd x) may)
  all_stand k F (Drops pid ∷ deeds) w fits may r =
      then (all_done k deeds) (done k (Drops pid) w) (inl (noting_runs w _ refl r)) (all_stand k F deeds (done k (Drops pid) w) fits may)
  all_stand k F (SetsErrors errors ∷ deeds) w fits may r =
      then (all_done k deeds) (done k (SetsErrors errors) w) (inl (desk_runs k (λ d. record d { errors = errors }) w (λ d. refl) (λ d. refl) r))
      (all_stand k (λ o. ⊥) deeds (done k (SetsErrors errors) w) (λ o x. absurd x) may)
  all_stand k F (Orders order ∷ deeds) w fits may r =
      then (all_done k deeds) (done k (Orders order) w) (inl (order_runs k (fits order may.0).0 order w (fits order may.0).1 may.1 r)) (all_stand k
      (λ o. ⊥) deeds (done k (Orders order) w)
      (λ o x. absurd x) may.2)
  all_stand k F (GoesOn i ∷ deeds) w fits may r =
      then (all_done k deeds) (done k (GoesOn i) w) (inl (grind arith)) (all_stand k F deeds (done k (GoesOn i) w) fits may.1)
  all_stand k F (Ends e ∷ deeds) w fits may r =
      then (all_done k deeds) (done k (Ends e) w) (inl record {
        on = r.on;
        node = r.node;
        port = r.port;
        is = r.is;
        its = r.its;
        phase = r.phase;
        short = tt;
        order = read_more w (e ∷ []) w.core.command w.core.command r.order (may.0 w.core.command);
      }) (all_stand k F deeds (done k (Ends e) w) fits may.1)
  all_stand k F (_ ∷ deeds) w fits may r = absurd may

-- ## What a host does with a message that answers none of its commands may be done, and so may what follows the answer to one

module _ (h : ℕ) (F : List ℕ → Type 0) where
  abbrev May : List Deed → Type 0
  May deeds = MayDo h F deeds

  either : (b : Bool) (d e : List Deed) → May d → May e → May (cond b d e)
  either b d e x y = grind arith

  -- ### Answers

  ordered_may : (core : Core) (errors pipe n : ℕ) (body : List ℕ) → May (ordered_deeds (own_view core) errors pipe n body)
  ordered_may core errors pipe n body = grind arith

  -- an event that is posted back is no command
  posted_may : (core : Core) (m : Message) (b : Bool) → is_command_message m.1 ≡ false → May (cond b (Sends core.node m ∷ []) [])
  posted_may core m b off = either b (Sends core.node m ∷ []) [] (by_test (eqb m.0 1) (λ q. rw q off) (λ q. rw q refl), tt) tt

  -- ### Init

  -- behind what is learned
  learns_then : (core : Core) (c : Command) (behind : List Deed) → May behind → May (learns (own_view core) c ++ behind)
  learns_then core c behind may = learns_holds (λ deeds. May (deeds ++ behind)) core may (λ c is room. may) c

  learned_if : (b : Bool) (core : Core) (order value : List ℕ) (behind : List Deed) → May behind
      → May (cond b (learned (own_view core) order value) [] ++ behind)
  learned_if b core order value behind may =
      cond_both b (learned (own_view core) order value) [] (λ deeds. May (deeds ++ behind))
      (λ _. learned_holds (λ deeds. May (deeds ++ behind)) core may (λ c is room. may) order value) (λ _. may)

-- each command of an init is a command
orders_commands : (i : Init) → AllByRecursion (λ order. is_command_message order ≡ true) (orders_of i)
orders_commands i = orders_hold (λ order. is_command_message order ≡ true) i refl refl refl (λ pipe. refl) refl

-- what an init does next may be done, where each of its commands that isn't too long may be given
module _ (h : ℕ) (core : Core) (code : ℕ) (value : List ℕ) where
  abbrev OrderFits : (List ℕ → Type 0) → Type 0
  OrderFits F = (order : List ℕ) → is_command_message order ≡ true → length order ≤ 4096 → F order

  init_may : (F : List ℕ → Type 0) (o : Option Init) → AreInitsShort o → OrderFits F → MayDo h F (init_deeds (own_view core) code value o)
  init_may F None short fits = tt
  init_may F (Some i) short fits = init_holds (MayDo h F) core i code value (record {
    same = ((λ waits. refl), tt);
    failed = λ code. ((λ waits. refl), tt);
    made =
        learns_then h F core (Set core.node 0 1 (record { items = i.identity })) (Ends (InitMade (end_of_node core core.node) (length i.pipes)) ∷ [])
        ((λ waits. refl), tt);
    next = λ order is.
        let commands : is_command_message order ≡ true =
        AllByRecursion-get (λ x. is_command_message x ≡ true) (orders_of i) (i.answered + 1) order (orders_commands i) is in
        (short, (fits order commands (AllByRecursion-get (λ x. length x ≤ 4096) (orders_of i) (i.answered + 1) order short is), commands, tt));
  })

-- ## A host has its turns: its unanswered command stays the one that is read

-- ### Room

-- an order isn't too long
abbrev NotLong : List ℕ → Type 0
NotLong order = length order ≤ 4096

-- there is room for it at the end of the link with this host
abbrev pub HasRoom : List Port → ℕ → List ℕ → Type 0
HasRoom ports k order = nat_lt (option_map_or (λ (p : Port). spare p.side) (port_at ports k) 0) (need order) ≡ false

pub lack_parts : (ports : List Port) (k n : ℕ) (later : List (ℕ × ℕ)) → lack ports ((k, n) ∷ later) ≡ None
    → (nat_lt (option_map_or (λ (p : Port). spare p.side) (port_at ports k) 0) n ≡ false) × (lack ports later ≡ None)
lack_parts ports k n later none = grind arith

-- where no deed lacks room, each command finds it
roomy : (h k : ℕ) (F : List ℕ → Type 0) (ports : List Port) (deeds : List Deed) → MayDo h F deeds → lack ports (needs k deeds) ≡ None
    → MayDo h (λ order. F order × HasRoom ports k order) deeds
roomy h k F ports [] may none = tt
roomy h k F ports (Commits c ∷ deeds) may none = roomy h k F ports deeds may none
roomy h k F ports (Sends to m ∷ deeds) may none = may
roomy h k F ports (SaysOk ∷ deeds) may none = roomy h k F ports deeds may none
roomy h k F ports (Releases asker ∷ deeds) may none = may
roomy h k F ports (Drops pid ∷ deeds) may none = roomy h k F ports deeds may none
roomy h k F ports (SetsErrors errors ∷ deeds) may none = may
roomy h k F ports (Orders order ∷ deeds) may none = grind arith
roomy h k F ports (GoesOn i ∷ deeds) may none = (may.0, roomy h k F ports deeds may.1 none)
roomy h k F ports (Ends e ∷ deeds) may none = (may.0, roomy h k F ports deeds may.1 none)
roomy h k F ports (_ ∷ deeds) may none = absurd may

up_is : (s : LinkState) → s ≡ Up → is_up s ≡ true
up_is s e = rw e refl

module _ (h : ℕ) (host : IsHost h) (before : List Entry) (now : LinkState) where
  abbrev Runs_so : Work → Type 0
  Runs_so w = Runs h host before now w

  abbrev Stands_so : Work → Type 0
  Stands_so w = Stands h host before now w

  port_is : (w : Work) (r : Runs_so w) → port_at w.ports h ≡ Some r.port
  port_is w r = ap (λ ps. port_at ps h) r.is ∙ cond-true (eqb r.port.desk.host h) (Some r.port) None (eq-eqb r.port.desk.host h r.its.host)

  -- the work as a message is the node's, and nothing is done with it yet
  abbrev fetched : Message → Work → Work
  fetched m w = with_desk h (λ d. record d { holds = false }) (turn_at h FetchMessage (noting (entry.Turn (end_of_node w.core h) m.0 m.1 ∷ []) w))

  -- is this message the answer to a command
  abbrev answers : Message → Bool
  answers m = eqb m.0 1 && is_response m.1

  -- what is noted of a turn leaves the command
  fetched_runs : (m : Message) (w : Work) → cond (answers m) None w.core.command ≡ w.core.command → Runs_so w → Runs_so (fetched m w)
  fetched_runs m w same r =
      let told : Runs_so (noting (entry.Turn (end_of_node w.core h) m.0 m.1 ∷ []) w) =
      noting_runs h host before now w (entry.Turn (end_of_node w.core h) m.0 m.1 ∷ []) ((grind arith) ∙ same) r in
      let took : Runs_so (turn_at h FetchMessage (noting (entry.Turn (end_of_node w.core h) m.0 m.1 ∷ []) w)) =
      turn_runs h host before now h FetchMessage (noting (entry.Turn (end_of_node w.core h) m.0 m.1 ∷ []) w) (λ p. refl) told in
      desk_runs h host before now h (λ d. record d { holds = false }) (turn_at h FetchMessage (noting (entry.Turn (end_of_node w.core h) m.0 m.1 ∷ []) w))
      (λ d. refl) (λ d. refl) took

  -- the answer to a command: that is read no more, and heard
  heard_runs : (m : Message) (w : Work) → answers m ≡ true → Runs_so w → Runs_so (done h Hears (fetched m w))
  heard_runs m w is r =
      let v : Work = record w { core = record w.core { command = None }; entries = w.entries ++ entry.Turn (end_of_node w.core h) m.0 m.1 ∷ [] } in
      let begun : Runs_so v = record {
        on = r.on;
        node = r.node;
        port = r.port;
        is = r.is;
        its = record { host = r.its.host; no_notice = r.its.no_notice; up = λ some. absurd (true≢false (sym some)) };
        phase = r.phase;
        short = r.short;
        order = Rattle.node_laws.proofs.readings.Turning.read_more h host before now w (entry.Turn (end_of_node w.core h) m.0 m.1 ∷ [])
            w.core.command None r.order
            ((rw (host_side w.core h host r.node, same_own h) refl) ∙ ap (λ b. cond b None w.core.command) is);
      } in
      desk_runs h host before now h (λ d. record d { holds = false }) (turn_at h FetchMessage v) (λ d. refl) (λ d. refl)
      (turn_runs h host before now h FetchMessage v (λ p. refl) begun)

  -- ### What is done with a message

  -- where each command finds room at its end
  fits_there : (w : Work) (m : Message) (r : Runs_so w) → is_up r.port.side.shdlc.phase ≡ true → (order : List ℕ)
      → NotLong order × HasRoom w.ports h order → Fits (fetched m w).ports order
  fits_there w m r up order has p is = grind arith

  -- deeds that hear no answer
  does_stand : (w : Work) (m : Message) (deeds : List Deed) (r : Runs_so w) → is_up r.port.side.shdlc.phase ≡ true
      → cond (answers m) None w.core.command ≡ w.core.command → MayDo h NotLong deeds → lack w.ports (needs h deeds) ≡ None
      → Stands_so (handles h m deeds w)
  does_stand w m deeds r up same may none =
      all_stand h host before now h (λ order. NotLong order × HasRoom w.ports h order) deeds (fetched m w)
      (λ order has. (refl, fits_there w m r up order has)) (roomy h h NotLong w.ports deeds may none) (fetched_runs m w same r)

  -- the deeds behind an answer
  hears_stand : (w : Work) (m : Message) (deeds : List Deed) (r : Runs_so w) → is_up r.port.side.shdlc.phase ≡ true
      → answers m ≡ true → MayDo h NotLong deeds → lack w.ports (needs h deeds) ≡ None
      → Stands_so (handles h m (Hears ∷ deeds) w)
  hears_stand w m deeds r up is may none =
      then h host before now (all_done h deeds) (done h Hears (fetched m w)) (inl (heard_runs m w is r))
      (λ s. all_stand h host before now h (λ order. NotLong order × HasRoom w.ports h order) deeds (done h Hears (fetched m w))
      (λ order has. (refl, fits_there w m r up order has)) (roomy h h NotLong w.ports deeds may none) s)

  -- a message that is no answer to a command
  same_if : (b : Bool) (c : Option (List ℕ)) → b ≡ false → cond b None c ≡ c
  same_if b c e = rw e refl

  none_of : (c : Option (List ℕ)) → (is_some c ≡ true → ⊥) → c ≡ None
  none_of c e = grind arith

  off_right : (a b : Bool) → b ≡ false → (a && b) ≡ false
  off_right a b e = grind arith

  abbrev Handled : Message → Work → List Deed → Type 0
  Handled m w deeds = lack w.ports (needs h deeds) ≡ None → Stands_so (handles h m deeds w)

  host_stand : (w : Work) (m : Message) (r : Runs_so w) → Handled m w (host_deeds (own_view w.core) (end_view r.port) m)
  host_stand w m r = go (is_up r.port.side.shdlc.phase) (header_of m.1) refl refl where
    Shown : Bool → Result (MessageKind × ℕ) MessageFault → List Deed → Type 0
    Shown b x deeds = is_up r.port.side.shdlc.phase ≡ b → header_of m.1 ≡ x → host_deeds (own_view w.core) (end_view r.port) m ≡ deeds

    answered : (n : ℕ) → Shown true (Ok (IsResponse, n)) (cond (eqb m.0 1) (response_deeds (own_view w.core) n (body_in m.1)) [])
    answered n u q = rw (u, q) refl

    unread : (f : MessageFault) → Shown true (Err f) []
    unread f u q = rw (u, q) refl

    go : (b : Bool) (x : Result (MessageKind × ℕ) MessageFault) → is_up r.port.side.shdlc.phase ≡ b → header_of m.1 ≡ x
        → Handled m w (host_deeds (own_view w.core) (end_view r.port) m)
    go false x u q =
        rw u (λ lacks. all_stand h host before now h (λ o. ⊥) (Drops m.0 ∷ []) (fetched m w) (λ o z. absurd z) tt
        (fetched_runs m w (grind arith) r))
    go true (Ok (IsCommand, instruction)) u q =
        let other : is_response m.1 ≡ false = rw q refl in
        subst (Handled m w) (sym (rw (u, q) refl))
        (does_stand w m (ordered_deeds (own_view w.core) r.port.desk.errors m.0 instruction (body_in m.1)) r u
        (same_if (answers m) w.core.command (off_right (eqb m.0 1) (is_response m.1) other))
        (ordered_may h NotLong w.core r.port.desk.errors m.0 instruction (body_in m.1)))
    go true (Ok (IsEvent, instruction)) u q =
        let other : is_response m.1 ≡ false = rw q refl in
        let back : Bool = is_gate 4 (gate_of_pipe (own_view w.core) m.0) && posts_back m.1 in
        subst (Handled m w) (sym (grind arith))
        (does_stand w m (cond back (Sends w.core.node m ∷ []) []) r u
        (same_if (answers m) w.core.command (off_right (eqb m.0 1) (is_response m.1) other))
        (posted_may h NotLong w.core m back (rw q refl)))
    go true (Ok (IsResponse, code)) u q = subst (Handled m w) (sym (answered code u q)) (by_test (eqb m.0 1)
        (λ e. rw e (by_order (ap (λ b. b && is_response m.1) e ∙ is) w.core.command refl))
        (λ e. rw e (does_stand w m [] r u (same_if (answers m) w.core.command (ap (λ b. b && is_response m.1) e)) tt))) where
          is : is_response m.1 ≡ true
          is = rw q refl

          unheard : w.core.command ≡ None → response_deeds (own_view w.core) code (body_in m.1) ≡ []
          unheard e = rw e refl

          heard : (order : List ℕ) → w.core.command ≡ Some order → response_deeds (own_view w.core) code (body_in m.1)
              ≡ Hears ∷ cond (eqb code 0) (learned (own_view w.core) order (body_in m.1)) [] ++ init_deeds (own_view w.core) code (body_in m.1) w.core.init
          heard order e = rw e refl

          by_order : answers m ≡ true → (c : Option (List ℕ)) → w.core.command ≡ c → Handled m w (response_deeds (own_view w.core) code (body_in m.1))
          by_order one None e = subst (Handled m w) (sym (unheard e)) (does_stand w m [] r u (grind arith) tt)
          by_order one (Some order) e =
              subst (Handled m w) (sym (heard order e)) (hears_stand w m (cond (eqb code 0) (learned (own_view w.core) order
              (body_in m.1)) [] ++ init_deeds (own_view w.core) code (body_in m.1) w.core.init) r u one
              (learned_if h NotLong (eqb code 0) w.core order (body_in m.1) (init_deeds (own_view w.core) code (body_in m.1) w.core.init)
              (init_may h w.core code (body_in m.1) NotLong w.core.init r.short (λ order command short. short))))
    go true (Err fault) u q =
        let other : is_response m.1 ≡ false = rw q refl in
        subst (Handled m w) (sym (unread fault u q))
        (does_stand w m [] r u (same_if (answers m) w.core.command (off_right (eqb m.0 1) (is_response m.1) other)) tt)

  deeds_are : (w : Work) (m : Message) (r : Runs_so w) → deeds_of w.core w.ports h m ≡ host_deeds (own_view w.core) (end_view r.port) m
  deeds_are w m r =
      let off : eqb w.core.node 0 ≡ false = ne_eqb w.core.node 0 (λ z. omega (arith, z, r.node, host.0)) in
      rw off (ap (λ o. option_map_or (λ e. host_deeds (own_view w.core) e m) (option_map end_view o) []) (port_is w r))

  pub deeds_stand : (w : Work) (m : Message) → Runs_so w → Handled m w (deeds_of w.core w.ports h m)
  deeds_stand w m r = subst (Handled m w) (sym (deeds_are w m r)) (host_stand w m r)

  -- ### Turns

  pub holds_stand : (k : ℕ) (short : ℕ × ℕ) (w : Work) → Runs_so w → Stands_so (holds_back k short w)
  holds_stand k short w r = inl (by_test (option_map_or (λ (p : Port). p.desk.holds) (port_at w.ports k) false)
      (λ q. rw q (turn_runs h host before now k (Hold true) w (λ p. refl) r))
      (λ q. rw q (turn_runs h host before now k (Hold true) (with_desk k (λ d. record d { holds = true }) told) (λ p. refl)
      (desk_runs h host before now k (λ d. record d { holds = true }) told (λ d. refl) (λ d. refl)
      (noting_runs h host before now w (entry.Held (end_of_node w.core k) short.0 short.1 ∷ []) refl r))))) where
        told : Work
        told = noting (entry.Held (end_of_node w.core k) short.0 short.1 ∷ []) w

  pub lets_stand : (k : ℕ) (w : Work) → Runs_so w → Stands_so (lets_go k w)
  lets_stand k w r = inl (by_test (option_map_or (λ (p : Port). is_held p.side) (port_at w.ports k) false)
      (λ q. rw q (turn_runs h host before now k (Hold false) w (λ p. refl) r))
      (λ q. rw q r))

  have_stand : (messages : List Message) (w : Work) → Runs_so w → Stands_so (have_turns h messages w)
  have_stand [] w r = lets_stand h w r
  have_stand (m ∷ messages) w r = go (lack w.ports (needs h deeds)) refl (λ v s. have_stand messages v s) where
    deeds : List Deed
    deeds = deeds_of w.core w.ports h m

    by : Option (ℕ × ℕ) → Work
    by None = unless_cut (have_turns h messages) (handles h m deeds w)
    by (Some short) = holds_back h short w

    go : (o : Option (ℕ × ℕ)) → lack w.ports (needs h deeds) ≡ o → ((v : Work) → Runs_so v → Stands_so (have_turns h messages v)) → Stands_so (by o)
    go None e later = then h host before now (have_turns h messages) (handles h m deeds w) (deeds_stand w m r e) (λ s. later (handles h m deeds w) s)
    go (Some short) e later = holds_stand h short w r

  pub passes_stand : (w : Work) → Runs_so w → Stands_so (passes w)
  passes_stand w r =
      subst (λ hosts. Stands_so (goes_through_ends hosts w)) (sym (ap (map (λ (p : Port). p.desk.host)) r.is ∙ ap (λ k. k ∷ []) r.its.host))
      (then h host before now (goes_through_ends []) (have_turns h messages w) (have_stand messages w r) (λ s. inl s)) where
        messages : List Message
        messages = option_map_or (λ (p : Port). p.side.got) (port_at w.ports h) []
