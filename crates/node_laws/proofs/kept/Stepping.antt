-- What a node does with a message may be done, and what it keeps in its turns and in a step.
use Rattle.std.proofs.Common.{add-one}
use Rattle.node_laws.proofs.Words.{ActTick, AllByRecursion, Answer, AreDifferent, AreHosts, AreTables, Ask, AtEnd, Bool, Clear, Command, Commit, Commits, Core}
use Rattle.node_laws.proofs.Words.{Create, Creation, Decision, Deed, Delete, Entry, FetchMessage, Give, HciTables, Hold, Init, IsAllowedStill, IsCommand}
use Rattle.node_laws.proofs.Words.{IsHost, IsNodeNumber, IsOnOrder, IsPlain, IsRecordableDecision, IsSome, IsTrue, LinkInput, LinkView, List, MayBeDone}
use Rattle.node_laws.proofs.Words.{MayWait, Memory, Message, NodeInput, None, Notice, Option, Phase, PipeRow, Port, Release, Releases, Reset, Role, Sends, Some}
use Rattle.node_laws.proofs.Words.{State, StillRuns, Sync, Tells, TimePasses, WaitsAt, WaitsFor, Work, [], accepts, act_out, after_input, after_sessions}
use Rattle.node_laws.proofs.Words.{agreed, all_append, all_come, all_done, all_false, all_owed, all_owed_hold, and_from, answer_of, ap, append-nil, apply}
use Rattle.node_laws.proofs.Words.{arith, asked_at, body_in, by_option, by_test, cases_Bool, commit_deeds, cond, cond_both, controller_deeds, controller_holds}
use Rattle.node_laws.proofs.Words.{creation_in, decided, decided_holds, decision_deeds, deeds_of, end_of_node, end_view, eq-eqb, eqb, eqb-true, false, far_end}
use Rattle.node_laws.proofs.Words.{far_end_of, finds_room, flat_map, forgets, forgotten, forgotten_hold, goes_through_ends, handles, has, has_come, have_turns}
use Rattle.node_laws.proofs.Words.{holds_back, host_deeds, host_holds, hosts_of_ends, hosts_where, init_agreed, init_deeds, inl, input_at, inr, is_allowed}
use Rattle.node_laws.proofs.Words.{is_command, is_forgotten, is_held, is_host, is_kept, is_kept_sync, is_late, is_none, is_open, is_over, is_some, lack, le-leb}
use Rattle.node_laws.proofs.Words.{learned, learned_holds, leb, lets_go, link_deeds, link_served, list_any, lt-ltb, ltb, map, needs, not, not-false, noting}
use Rattle.node_laws.proofs.Words.{option_and_then, option_map_or, ordered_deeds, ordered_holds, orders_of, out_ticked, own_side, own_view, param_in, passes}
use Rattle.node_laws.proofs.Words.{pid_of, pipe_at, port_at, refl, report, reset_late, slice_get, steps, subst, suc, sym, synced, tests_of_pipe}
use Rattle.node_laws.proofs.Words.{tests_to_delete, tests_to_set_it, times_out, told, told_at, told_late, true, true≢false, turn_at, unless_cut, value_in}
use Rattle.node_laws.proofs.Words.{view_for, view_of, whole_acked, with_desk, with_older, without_notice, zero, ℕ, ◌&&◌, ◌++◌, ◌+◌, ◌<◌, ◌∙◌, ◌∷◌, ◌≡◌, ◌≤◌}
use Rattle.node_laws.proofs.Words.{◌⊎◌}
use Rattle.gate_admin.proofs.CreationLemmas.{AllFalse, creation-recordable}
use Rattle.gate_answers.specs.Answers.{is_read_only, is_unknown_access}
use Rattle.registry.specs.Access.{access_of}
use Rattle.sorted_rows.proofs.RowLemmas.{row_of-within}
use Rattle.swp_base.specs.declared.control_frames.Act.{Act}
use Rattle.node_laws.proofs.kept.Doing.{GoesOn_or_lost, Plainly, all_fine, plain_entries, plain_flat, plainly_core, plainly_desk, plainly_map, plainly_noting}
use Rattle.node_laws.proofs.kept.Doing.{plainly_ports, plainly_same, plainly_then, plainly_turn, runs_plainly, same_new, stays_cut, uncut}
use Rattle.node_laws.proofs.steps.StepWalks.{at_port, come_host, forgets_host, late_host, message_allowed, same_list, whitelist_left, within, without_host}
use Rattle.gate_answers.specs.declared.response.Response.TheVariants as response
use Rattle.trace_model.specs.declared.entry.Entry.TheVariants as entry

-- ## What a controller decides may be recorded

row_dynamic : (t : HciTables) (h pipe : ℕ) → AreTables t → is_none (option_and_then (far_end_of h) (pipe_at t.rows pipe)) ≡ false → (2 ≤ pipe) × (pipe < 112)
row_dynamic t h pipe are some = by_row (pipe_at t.rows pipe) refl some where
  by_row : (o : Option PipeRow) → pipe_at t.rows pipe ≡ o → is_none (option_and_then (far_end_of h) o) ≡ false → (2 ≤ pipe) × (pipe < 112)
  by_row None is some = absurd (true≢false some)
  by_row (Some row) is some = row_of-within pid_of 2 112 pipe t.rows are.rows (subst IsSome (sym is) refl)

pipe_known : (t : HciTables) (h pipe : ℕ) → AreTables t → is_none (far_end t h pipe) ≡ false → pipe < 112
pipe_known t h pipe are some =
    cond_both (eqb pipe 0) (Some (0, 6)) (cond (eqb pipe 1) (Some (0, 0)) (option_and_then (far_end_of h) (pipe_at t.rows pipe)))
    (λ o. is_none o ≡ false → pipe < 112)
    (λ zero_is x. omega (arith, eqb-true pipe 0 zero_is))
    (λ other. cond_both (eqb pipe 1) (Some (0, 0)) (option_and_then (far_end_of h) (pipe_at t.rows pipe)) (λ o. is_none o ≡ false → pipe < 112)
    (λ one_is x. omega (arith, eqb-true pipe 1 one_is))
    (λ dynamic x. (row_dynamic t h pipe are x).1)) some

host_is : (h : ℕ) → h ≤ 7 → is_host h ≡ true
host_is h most = le-leb h 7 most

kept_param : (h p : ℕ) → 1 ≤ h → h ≤ 7 → is_unknown_access (access_of 0 p) ≡ false → is_read_only (access_of 0 p) ≡ false → IsTrue (is_kept h 0 p)
kept_param h p some most known writable = grind arith

pub decided_recordable : (t : HciTables) (v : LinkView) (h pipe instruction : ℕ) (body : List ℕ) → AreTables t → 1 ≤ h → h ≤ 7
    → IsRecordableDecision (decided t v h pipe instruction body)
unfolding AllFalse
decided_recordable t v h pipe instruction body are some most =
    decided_holds IsRecordableDecision t v h pipe body instruction (λ r value. refl) (λ tested.
    let small : pipe < 112 = pipe_known t h pipe are (all_false (tests_of_pipe t h pipe instruction) tested).0 in
    record {
      opens = (and_from (is_host h) (ltb pipe 112) (host_is h most) (lt-ltb pipe 112 small));
      closes = (and_from (is_host h) (ltb pipe 112) (host_is h most) (lt-ltb pipe 112 small));
      sets = λ passed.
          let none = all_false (tests_to_set_it v h body) passed in
          and_from (is_kept h 0 (param_in body)) (is_allowed h (param_in body) (value_in body))
          (kept_param h (param_in body) some most none.1.0 none.1.1.0)
          (not-false (is_allowed h (param_in body) (value_in body)) none.1.1.1.0);
      makes = λ passed controller. creation-recordable t v h body most passed;
      asks = λ passed other. creation-recordable t v h body most passed;
      deletes = λ passed.
          let within = row_dynamic t h (param_in body) are (all_false (tests_to_delete t v h body) passed).1.0 in
          and_from (leb 2 (param_in body)) (ltb (param_in body) 112) (le-leb 2 (param_in body) within.0) (lt-ltb (param_in body) 112 within.1);
      clears = λ _. host_is h most;
    })

-- ## A controller may do what it does with a message

waiting : (n : Option Notice) (c : Creation) → WaitsFor n → creation_in n ≡ Some c → IsCommand c.command
waiting n c w e = grind arith

module _ (core : Core) (on : IsOnOrder core.command core.init) where
  abbrev Fine : List Deed → Type 0
  Fine deeds = MayBeDone (Some core.journal) core.command core.init deeds

  told_of_replies : (s : Option State) (message : List ℕ) (hosts : List ℕ) → MayBeDone s core.command core.init (map (λ x. Tells x message) hosts)
  told_of_replies s message [] = on
  told_of_replies s message (x ∷ hosts) = told_of_replies s message hosts

  commit_may : (c : Command) (room : Bool) → finds_room core c ≡ room → (h pipe : ℕ) (answer : List ℕ) (behind : List Deed) → IsCommand c
      → MayBeDone None core.command core.init behind → Fine (commit_deeds room h pipe c answer behind)
  commit_may c room e h pipe answer behind may fine = grind arith

  agreed_may : (c : Creation) (flag : Bool) → (flag ≡ true → finds_room core c.command ≡ true) → IsCommand c.command → Fine (agreed flag c)
  agreed_may c flag e may = grind arith

  link_may : (h pipe : ℕ) (answer : List ℕ × Option ℕ) → Fine (link_deeds h pipe answer)
  link_may h pipe answer = grind arith

  decision_may : (h pipe : ℕ) (d : Decision) → IsRecordableDecision d → Fine (decision_deeds (own_view core) h pipe d)
  decision_may h pipe (Answer answer) may = on
  decision_may h pipe (Commit c answer tell notice) may =
      commit_may c (finds_room core c) refl h pipe answer.items _ may (told_of_replies None notice.items (hosts_where (has tell)))
  decision_may h pipe (Ask asked notice c answer) may = (may, on)

  module _ (sorted : AreTables core.tables) (ports : List Port) (all : AllByRecursion WaitsAt ports) (h : ℕ) (some : 1 ≤ h) (most : h ≤ 7) where
    pub controller_may : (m : Message) → Fine (controller_deeds (view_of core ports) h m)
    controller_may m =
        let v : LinkView = view_for core.tables ports h in
        controller_holds Fine core ports h m (record {
          drops = λ pid none. on;
          goes_on = λ to off. on;
          goes_back = λ n event. on;
          refuses = λ r off free. on;
          names = λ n served gate. on;
          counts = λ errors n served gate. link_may h m.0 (link_served errors n (body_in m.1));
          decides =
              λ n served gate. decision_may h m.0 (decided core.tables v h m.0 n (body_in m.1))
              (decided_recordable core.tables v h m.0 n (body_in m.1) sorted some most);
          hears = λ p reply here asked. on;
          agrees = λ flag p c reply here asked room. agreed_may c flag room (waiting p.desk.notice c (at_port WaitsAt ports h p all here) asked);
        })

-- ## A host may do what it does with a message

delete_may : (t : HciTables) (pid : ℕ) → AreTables t → is_some (pipe_at t.rows pid) ≡ true → IsCommand (Delete pid)
delete_may t pid are some =
    let within = row_of-within pid_of 2 112 pid t.rows are.rows some in
    and_from (leb 2 pid) _ (le-leb 2 pid within.0) (lt-ltb pid 112 within.1)

-- ### Orders

-- behind the last one there is none
last_one : (front : List (List ℕ)) (l o : List ℕ) (k : ℕ) → slice_get (front ++ l ∷ []) k ≡ Some o → slice_get (front ++ l ∷ []) (suc k) ≡ None → o ≡ l
last_one [] l o zero is none = cc
last_one [] l o (suc k) is none = absurd (cc is)
last_one (x ∷ front) l o zero is none = absurd (more front none) where
  more : (front : List (List ℕ)) → slice_get (front ++ l ∷ []) zero ≡ None → ⊥
  more [] e = absurd (cc e)
  more (y ∷ front) e = absurd (cc e)
last_one (x ∷ front) l o (suc k) is none = last_one front l o k is none

-- nothing, or one command that may be committed
abbrev pub OneOrNone : Core → List Deed → Type 0
OneOrNone core deeds = (deeds ≡ []) ⊎ ((c : Command) × (deeds ≡ Commits c ∷ []) × IsCommand c × (finds_room core c ≡ true))

one : (core : Core) (c : Command) → is_command c ≡ true → finds_room core c ≡ true → OneOrNone core (Commits c ∷ [])
one core c may room = inr (c, refl, may, room)

learned_one : (core : Core) (order value : List ℕ) → OneOrNone core (learned (own_view core) order value)
learned_one core order value = learned_holds (OneOrNone core) core (inl refl) (one core) order value

-- what may be done behind nothing or one command
behind_one : (core : Core) (first behind : List Deed) (command : Option (List ℕ)) (init : Option Init) → OneOrNone core first
    → MayBeDone None command init behind → MayBeDone (Some core.journal) command init behind → MayBeDone (Some core.journal) command init (first ++ behind)
behind_one core first behind command init a none some = grind arith

-- behind the last command of an init nothing else is learned
last_learned : (core : Core) (i : Init) (order value : List ℕ) → slice_get (orders_of i) i.answered ≡ Some order
    → slice_get (orders_of i) (i.answered + 1) ≡ None
    → learned (own_view core) order value ≡ []
last_learned core i order value is none =
    ap (λ o. learned (own_view core) o value)
    (last_one ((3 ∷ []) ∷ (2 ∷ 1 ∷ []) ∷ (20 ∷ []) ∷ (3 ∷ []) ∷ map (λ pipe. 16 ∷ pipe) i.pipes) (1 ∷ 1 ∷ i.identity) order i.answered is
    (ap (slice_get (orders_of i)) (sym (add-one i.answered)) ∙ none))

answered_may : (core : Core) (code : ℕ) (value order : List ℕ) (o : Option Init) → IsOnOrder (Some order) o
    → MayBeDone (Some core.journal) None o (cond (eqb code 0) (learned (own_view core) order value) [] ++ init_deeds (own_view core) code value o)
answered_may core code value order None on =
    behind_one core (cond (eqb code 0) (learned (own_view core) order value) []) [] None None
    (cond_both (eqb code 0) (learned (own_view core) order value) [] (OneOrNone core) (λ _. learned_one core order value) (λ _. inl refl)) tt tt
answered_may core code value order (Some i) on = by_test (eqb code 0)
    (λ e. rw e (by_next (slice_get (orders_of i) (i.answered + 1)) refl))
    (λ e. rw e (tt, tt)) where
      by_next : (next : Option (List ℕ)) → slice_get (orders_of i) (i.answered + 1) ≡ next
          → MayBeDone (Some core.journal) None (Some i) (learned (own_view core) order value ++ init_agreed (own_view core) i value)
      by_next (Some next) is =
          behind_one core (learned (own_view core) order value) (init_agreed (own_view core) i value) None (Some i) (learned_one core order value)
          (grind arith) (grind arith)
      by_next None is =
          subst (λ l. MayBeDone (Some core.journal) None (Some i) (l ++ init_agreed (own_view core) i value)) (sym (last_learned core i order value on is))
          (grind arith)

module _ (core : Core) (on : IsOnOrder core.command core.init) (sorted : AreTables core.tables) (most : core.node ≤ 7) where
  abbrev FineOfHostsReply : List Deed → Type 0
  FineOfHostsReply deeds = MayBeDone (Some core.journal) core.command core.init deeds

  accepts_may : (c : Command) → IsCommand c → FineOfHostsReply (accepts (own_view core) c)
  accepts_may c may = commit_may core on c (finds_room core c) refl core.node 1 (answer_of response.Ok []) [] may on

  ordered_may : (errors pipe n : ℕ) (body : List ℕ) → FineOfHostsReply (ordered_deeds (own_view core) errors pipe n body)
  ordered_may errors pipe n body = ordered_holds FineOfHostsReply core errors pipe n body (record {
    none = on;
    refuses = λ r. on;
    creates = λ row named welcome. accepts_may (Create row) (grind arith);
    deletes = λ pid kept. accepts_may (Delete pid) (delete_may core.tables pid sorted kept);
    clears = λ x host. accepts_may (Clear x) host;
    counts = λ zero. link_may core on core.node 0 (link_served errors n body);
    names = λ off. on;
  })

  pub host_may : (p : Port) (m : Message) → FineOfHostsReply (host_deeds (own_view core) (end_view p) m)
  host_may p m = host_holds FineOfHostsReply core p m (record {
    none = on;
    drops = on;
    goes = on;
    ordered = λ n is. ordered_may p.desk.errors m.0 n (body_in m.1);
    heard = λ code order is. answered_may core code (body_in m.1) order core.init (subst (λ o. IsOnOrder o core.init) is on);
  })

-- ## What a node keeps in its turns

seven : (n : ℕ) → IsNodeNumber n → n ≤ 7
seven n a = grind arith

module _ (n : ℕ) (hosts : List ℕ) (old : Memory) (before : List Entry) where
  abbrev Runs : Work → Type 0
  Runs w = StillRuns n hosts old before w

  abbrev FineOfTurning : Work → Type 0
  FineOfTurning w = GoesOn_or_lost n hosts old before w

  -- one thing, and then another unless the power is lost
  then_all : (f : Work → Work) (w : Work) → FineOfTurning w → ((x : Work) → Runs x → IsOnOrder x.core.command x.core.init → FineOfTurning (f x))
      → FineOfTurning (unless_cut f w)
  then_all f w (inl on) later = subst FineOfTurning (sym (uncut f w on.0.on)) (later w on.0 on.1)
  then_all f w (inr lost) later = subst FineOfTurning (sym (stays_cut f w lost.off)) (inr lost)

  module _ (node : IsNodeNumber n) where
    pub deeds_may : (w : Work) (h : ℕ) (m : Message) → Runs w → IsOnOrder w.core.command w.core.init → IsHost h
        → MayBeDone (Some w.core.journal) w.core.command w.core.init (deeds_of w.core w.ports h m)
    deeds_may w h m r on host = by_test (eqb w.core.node 0)
        (λ e. rw e (controller_may w.core on r.sorted w.ports r.waits h host.0 host.1 m))
        (λ e. rw e (by_option (port_at w.ports h) (λ q. rw q on) (λ p q. rw q (host_may w.core on r.sorted small p m)))) where
          small : w.core.node ≤ 7
          small = omega (arith, r.number, seven n node)

    pub deeds_fit : (w : Work) (h : ℕ) (m : Message) → Runs w → n ≡ 0 → AllByRecursion (IsAllowedStill w.core.tables w.ports) (deeds_of w.core w.ports h m)
    deeds_fit w h m r z = rw (eq-eqb w.core.node 0 (r.number ∙ z)) (message_allowed w.core w.ports h r.sorted (r.allowed z) m)

    pub handles_fine : (w : Work) (h : ℕ) (m : Message) (deeds : List Deed) → Runs w → MayBeDone (Some w.core.journal) w.core.command w.core.init deeds
        → (n ≡ 0 → AllByRecursion (IsAllowedStill w.core.tables w.ports) deeds) → FineOfTurning (handles h m deeds w)
    handles_fine w h m deeds r may fit =
        let a : Work = noting (entry.Turn (end_of_node w.core h) m.0 m.1 ∷ []) w in
        let b : Work = turn_at h FetchMessage a in
        let v : Work = with_desk h (λ d. record d { holds = false }) b in
        let p : Plainly w v = plainly_then w a v (plainly_noting w (entry.Turn (end_of_node w.core h) m.0 m.1 ∷ []) (tt, tt))
        (plainly_then a b v (plainly_turn h FetchMessage a)
        (plainly_desk h (λ d. record d { holds = false }) b (λ d. refl) (λ d x. x) (λ d c e. e))) in
        all_fine n hosts old before h deeds v (Some v.core.journal) (runs_plainly n hosts old before w v r p) refl may w.ports p.none_new fit

    pub holds_fine : (w : Work) (h : ℕ) (short : ℕ × ℕ) → Runs w → IsOnOrder w.core.command w.core.init → FineOfTurning (holds_back h short w)
    holds_fine w h short r on = by_test (option_map_or (λ (p : Port). p.desk.holds) (port_at w.ports h) false)
        (λ e. rw e (inl (runs_plainly n hosts old before w (turn_at h (Hold true) w) r (plainly_turn h (Hold true) w), on)))
        (λ e. let a : Work = noting (entry.Held (end_of_node w.core h) short.0 short.1 ∷ []) w in
        let b : Work = with_desk h (λ d. record d { holds = true }) a in
        let v : Work = turn_at h (Hold true) b in
        let q : Runs v = runs_plainly n hosts old before w v r
        (plainly_then w a v (plainly_noting w (entry.Held (end_of_node w.core h) short.0 short.1 ∷ []) (tt, tt))
        (plainly_then a b v (plainly_desk h (λ d. record d { holds = true }) a (λ d. refl) (λ d x. x) (λ d c e. e)) (plainly_turn h (Hold true) b))) in
        rw e (inl (q, on)))

    pub lets_fine : (w : Work) (h : ℕ) → Runs w → IsOnOrder w.core.command w.core.init → FineOfTurning (lets_go h w)
    lets_fine w h r on = by_test (option_map_or (λ (p : Port). is_held p.side) (port_at w.ports h) false)
        (λ e. rw e (inl (runs_plainly n hosts old before w (turn_at h (Hold false) w) r (plainly_turn h (Hold false) w), on)))
        (λ e. rw e (inl (r, on)))

    turns_fine : (h : ℕ) (messages : List Message) → IsHost h → (w : Work) → Runs w → IsOnOrder w.core.command w.core.init
        → FineOfTurning (have_turns h messages w)
    turns_fine h [] host w r on = lets_fine w h r on
    turns_fine h (m ∷ messages) host w r on = by_room (λ x q o. turns_fine h messages host x q o) (lack w.ports (needs h deeds)) refl where
      deeds : List Deed
      deeds = deeds_of w.core w.ports h m

      by_room : ((x : Work) → Runs x → IsOnOrder x.core.command x.core.init → FineOfTurning (have_turns h messages x))
          → (short : Option (ℕ × ℕ)) → lack w.ports (needs h deeds) ≡ short → FineOfTurning (have_turns h (m ∷ messages) w)
      by_room later None e = rw e (then_all (have_turns h messages) (handles h m deeds w) (handles_fine w h m deeds r (deeds_may w h m r on host)
          (deeds_fit w h m r)) later)
      by_room later (Some short) e = rw e (holds_fine w h short r on)

    ends_fine : (hs : List ℕ) → AllByRecursion IsHost hs → (w : Work) → Runs w → IsOnOrder w.core.command w.core.init → FineOfTurning (goes_through_ends hs w)
    ends_fine [] all w r on = inl (r, on)
    ends_fine (h ∷ hs) all w r on =
        then_all (goes_through_ends hs) (have_turns h (option_map_or (λ (p : Port). p.side.got) (port_at w.ports h) []) w)
        (turns_fine h (option_map_or (λ (p : Port). p.side.got) (port_at w.ports h) []) all.0 w r on) (λ x q o. ends_fine hs all.1 x q o)

    passes_fine : AllByRecursion IsHost hosts → (w : Work) → Runs w → IsOnOrder w.core.command w.core.init → FineOfTurning (passes w)
    passes_fine all w r on = ends_fine (hosts_of_ends w.ports) (subst (AllByRecursion IsHost) (sym r.hosts_are) all) w r on

-- ## What a node keeps in a step

-- ### What comes

told_plain : (core : Core) (p : Port) (o : Option LinkInput) → AllByRecursion IsPlain (told_at core p o)
told_plain core p None = tt
told_plain core p (Some i) = plain_entries p.desk.host (told (own_side core) p.session (report p.side i) (whole_acked (after_input p.side i)))

pub plainly_come : (input : NodeInput) (w : Work) → Plainly w (all_come input w)
plainly_come input w =
    plainly_map w (λ p. has_come p (input_at input p)) (flat_map (λ p. told_at w.core p (input_at input p)) w.ports)
    (plain_flat (λ p. told_at w.core p (input_at input p)) (λ p. told_plain w.core p (input_at input p)) w.ports)
    (λ p. come_host p (input_at input p)) (λ p. (λ w. grind arith)) (λ p c e. grind arith)

-- ### Timeouts

older_waits : (p : Port) → WaitsAt p → WaitsAt (with_older p)
older_waits p w = grind arith

late_new : (p : Port) (c : Creation) → asked_at (reset_late p) ≡ Some c → asked_at p ≡ Some c
late_new p c asked = grind arith

late_waits : (p : Port) → WaitsAt p → WaitsAt (reset_late p)
late_waits p w = cond_both (is_late p) (record p { side = after_input p.side (Reset None); late = true }) p WaitsAt (λ _. w) (λ _. w)

plainly_late : (input : NodeInput) (w : Work) → Plainly w (times_out input w)
plainly_late (AtEnd h i) w = plainly_same w
plainly_late TimePasses w =
    let a : Work = record w { ports = map with_older w.ports } in
    plainly_then w a (times_out TimePasses w) (plainly_ports w with_older (λ p. refl) older_waits (λ p c asked. grind arith))
    (plainly_map a reset_late (flat_map (told_late w.core) a.ports) (plain_flat (told_late w.core) (λ p. grind arith) a.ports) late_host late_waits late_new)

-- what came changes no core
core_late : (input : NodeInput) (w : Work) → (times_out input w).core ≡ w.core
core_late input w = grind arith

-- ### Sessions that ended

forgets_waits : (ports : List Port) (p : Port) → WaitsAt p → WaitsAt (forgets ports p)
forgets_waits ports p w = cond_both (is_forgotten ports (asked_at p)) _ p WaitsAt (λ _. by_option p.desk.notice (λ q. rw q tt) (λ n q. rw q tt)) (λ _. w)

without_waits : (p : Port) → WaitsAt p → WaitsAt (without_notice p)
without_waits p w = cond_both (is_over p) (record p { desk = record p.desk { notice = None } }) p WaitsAt (λ _. tt) (λ _. w)

plainly_sessions : (w : Work) → Plainly w (record w { core = after_sessions w.core w.ports; ports = map without_notice (map (forgets w.ports) w.ports) })
plainly_sessions w =
    let a : Work = record w { ports = map (forgets w.ports) w.ports } in
    let b : Work = record a { ports = map without_notice a.ports } in
    plainly_then w b (record b { core = after_sessions w.core w.ports })
    (plainly_then w a b (plainly_ports w (forgets w.ports) (forgets_host w.ports) (forgets_waits w.ports) (λ p c asked. grind arith))
    (plainly_ports a without_notice without_host without_waits (λ p c asked. grind arith)))
    (cond_both (list_any is_over w.ports) (record w.core { command = None; init = None }) w.core (λ (c : Core). Plainly b (record b { core = c }))
    (λ _. plainly_core b None None) (λ _. plainly_same b))

sessions_order : (core : Core) (ports : List Port) → IsOnOrder core.command core.init
    → IsOnOrder (after_sessions core ports).command (after_sessions core ports).init
sessions_order core ports on = grind arith

-- ### Blocks that are freed, and answers that are owed

-- blocks are freed and messages sent
abbrev IsFree : Deed → Type 0
IsFree (Releases asker) = Unit {0}
IsFree (Sends to m) = Unit {0}
IsFree _ = ⊥

free_may : (s : Option State) (command : Option (List ℕ)) (init : Option Init) (deeds : List Deed) → AllByRecursion IsFree deeds → IsOnOrder command init
    → MayBeDone s command init deeds
free_may s command init [] all on = on
free_may s command init (Releases asker ∷ deeds) all on = free_may s command init deeds all.1 on
free_may s command init (Sends to m ∷ deeds) all on = free_may s command init deeds all.1 on
free_may s command init (_ ∷ deeds) all on = absurd all.0

-- they leave the core
freed_core : (deeds : List Deed) → AllByRecursion IsFree deeds → (w : Work) → w.cut ≡ false → (all_done 0 deeds w).core ≡ w.core
freed_core [] all w on = refl
freed_core (Releases asker ∷ deeds) all w on =
    ap (λ (x : Work). x.core) (uncut (all_done 0 deeds) (turn_at asker Release w) on) ∙ freed_core deeds all.1 (turn_at asker Release w) on
freed_core (Sends to m ∷ deeds) all w on =
    let h0 = uncut (all_done 0 deeds) (turn_at to (Give m) w) on in let h1 = freed_core deeds all.1 (turn_at to (Give m) w) on in grind arith
freed_core (_ ∷ deeds) all w on = absurd all.0

freed_cut : (deeds : List Deed) → AllByRecursion IsFree deeds → (w : Work) → w.cut ≡ false → (all_done 0 deeds w).cut ≡ false
freed_cut [] all w on = on
freed_cut (Releases asker ∷ deeds) all w on =
    ap (λ (x : Work). x.cut) (uncut (all_done 0 deeds) (turn_at asker Release w) on) ∙ freed_cut deeds all.1 (turn_at asker Release w) on
freed_cut (Sends to m ∷ deeds) all w on =
    ap (λ (x : Work). x.cut) (uncut (all_done 0 deeds) (turn_at to (Give m) w) on) ∙ freed_cut deeds all.1 (turn_at to (Give m) w) on
freed_cut (_ ∷ deeds) all w on = absurd all.0

-- ### Sync

pub ticked_sync : (phase : Phase) (last : Option Act) → (out_ticked phase last).sync ≡ None
ticked_sync phase last = grind arith

tick_sync : (role : Role) → (act_out role (cond (is_open role) None (Some ActTick))).sync ≡ None
tick_sync role = cond_both (is_open role) None (Some ActTick) (λ e. (act_out role e).sync ≡ None) (λ _. refl) (λ _. grind arith)

synced_tick : (core : Core) (p : Port) → synced core TimePasses p ≡ []
synced_tick core p = rw (tick_sync p.side.role) refl

pub synced_other : (core : Core) (h : ℕ) (i : LinkInput) (p : Port) → eqb p.desk.host h ≡ false → synced core (AtEnd h i) p ≡ []
synced_other core h i p e = rw e refl

flat_tick : (core : Core) (ports : List Port) → flat_map (synced core TimePasses) ports ≡ []
flat_tick core [] = refl
flat_tick core (p ∷ ports) = ap (λ l. l ++ flat_map (synced core TimePasses) ports) (synced_tick core p) ∙ flat_tick core ports

flat_other : (core : Core) (h : ℕ) (i : LinkInput) (ports : List Port) → AllByRecursion (λ k. eqb k h ≡ false) (hosts_of_ends ports)
    → flat_map (synced core (AtEnd h i)) ports ≡ []
flat_other core h i [] all = refl
flat_other core h i (p ∷ ports) all = ap (λ l. l ++ flat_map (synced core (AtEnd h i)) ports) (synced_other core h i p all.0) ∙ flat_other core h i ports all.1

flat_one : (core : Core) (h : ℕ) (i : LinkInput) (ports : List Port) → AreDifferent (hosts_of_ends ports) → AllByRecursion IsHost (hosts_of_ends ports)
    → OneOrNone core (flat_map (synced core (AtEnd h i)) ports)
flat_one core h i [] different all = inl refl
flat_one core h i (p ∷ ports) different all = by_host (cases_Bool (eqb p.desk.host h)) (flat_one core h i ports different.1 all.1) where
  by_host : (eqb p.desk.host h ≡ true) ⊎ (eqb p.desk.host h ≡ false) → OneOrNone core (flat_map (synced core (AtEnd h i)) ports)
      → OneOrNone core (synced core (AtEnd h i) p ++ flat_map (synced core (AtEnd h i)) ports)
  by_host (inl e) rest =
      let none = flat_other core h i ports (subst (λ x. AllByRecursion (λ k. eqb k x ≡ false) (hosts_of_ends ports)) (eqb-true p.desk.host h e) different.0) in
      subst (λ l. OneOrNone core (synced core (AtEnd h i) p ++ l)) (sym none)
      (subst (OneOrNone core) (sym (append-nil (synced core (AtEnd h i) p))) (grind arith))
  by_host (inr e) rest = subst (λ l. OneOrNone core (l ++ flat_map (synced core (AtEnd h i)) ports)) (sym (synced_other core h i p e)) rest

pub syncs_one : (core : Core) (input : NodeInput) (ports : List Port) → AreDifferent (hosts_of_ends ports) → AllByRecursion IsHost (hosts_of_ends ports)
    → OneOrNone core (flat_map (synced core input) ports)
syncs_one core (AtEnd h i) ports different all = flat_one core h i ports different all
syncs_one core TimePasses ports different all = inl (flat_tick core ports)

pub one_may : (core : Core) (deeds : List Deed) (command : Option (List ℕ)) (init : Option Init) → OneOrNone core deeds → IsOnOrder command init
    → MayBeDone (Some core.journal) command init deeds
one_may core deeds command init one on = subst (MayBeDone (Some core.journal) command init) (append-nil deeds) (behind_one core deeds [] command init one on on)

free_fit : (t : HciTables) (ports : List Port) (deeds : List Deed) → AllByRecursion IsFree deeds → AllByRecursion (IsAllowedStill t ports) deeds
free_fit t ports [] all = tt
free_fit t ports (Releases asker ∷ deeds) all = (tt, free_fit t ports deeds all.1)
free_fit t ports (Sends to m ∷ deeds) all = (tt, free_fit t ports deeds all.1)
free_fit t ports (_ ∷ deeds) all = absurd all.0

module _ (t : HciTables) (ports : List Port) (sorted : AreTables t) (may : MayWait t ports) where
  sync_kept : (h id : ℕ) → IsCommand (Sync h id) → MayWait (apply t (Sync h id)) ports
  sync_kept h id command x p c here asked =
      let now = may x p c here asked in
      let host = within t x c.command now in
      same_list t (apply t (Sync h id)) x c.command (whitelist_left t (Sync h id) x sorted command host.0 host.1 tt) now

  sync_fit : (core : Core) (input : NodeInput) (p : Port) → AllByRecursion (IsAllowedStill t ports) (synced core input p)
  sync_fit core input p = by_option (input_at input p) (λ e. rw e tt) (λ i e. by_id i e (report p.side i).sync refl) where
    by_id : (i : LinkInput) → input_at input p ≡ Some i → (o : Option ℕ) → (report p.side i).sync ≡ o
        → AllByRecursion (IsAllowedStill t ports) (synced core input p)
    by_id i e None is = rw e (rw is tt)
    by_id i e (Some id) is =
        rw e (rw is (cond_both (not (is_kept_sync core.tables.syncs p.desk.host id) && finds_room core (Sync p.desk.host id)) (Commits
        (Sync p.desk.host id) ∷ []) []
        (AllByRecursion (IsAllowedStill t ports)) (λ _. ((tt, sync_kept p.desk.host id), tt)) (λ _. tt)))

  syncs_fit : (core : Core) (input : NodeInput) (ends : List Port) → AllByRecursion (IsAllowedStill t ports) (flat_map (synced core input) ends)
  syncs_fit core input [] = tt
  syncs_fit core input (p ∷ ends) = all_append (IsAllowedStill t ports) (synced core input p) (flat_map (synced core input) ends) (sync_fit core input p)
      (syncs_fit core input ends)

-- ### Steps

-- what a step does before the node passes its ends
abbrev pub ready : NodeInput → Work → Work
ready input w =
    let came : Work = times_out input (all_come input w) in
    let left : List Port = map (forgets came.ports) came.ports in
    let begun : Work = record came { core = after_sessions came.core came.ports; ports = map without_notice left } in
    unless_cut (all_done 0 (all_owed left)) (all_done 0 (flat_map (synced w.core input) w.ports) (all_done 0 (forgotten came.ports) begun))

module _ (n : ℕ) (hosts : List ℕ) (old : Memory) (before : List Entry) (node : IsNodeNumber n) (are : AreHosts hosts) where
  -- before the pass
  pub ready_fine : (input : NodeInput) (w : Work) → StillRuns n hosts old before w → IsOnOrder w.core.command w.core.init
      → GoesOn_or_lost n hosts old before (ready input w)
  ready_fine input w r on =
      then_all n hosts old before (all_done 0 owing) (all_done 0 syncs x) (synced_fine freed_fine)
      (λ y q o.
      all_fine n hosts old before 0 owing y (Some y.core.journal) q refl (free_may (Some y.core.journal) y.core.command y.core.init owing
      (all_owed_hold IsFree (λ asker. tt) (λ to r. tt) left) o) y.ports
      (same_new y.ports) (λ z. free_fit y.core.tables y.ports owing (all_owed_hold IsFree (λ asker. tt) (λ to r. tt) left)))
    where
      came : Work
      came = times_out input (all_come input w)

      left : List Port
      left = map (forgets came.ports) came.ports

      v : Work
      v = record came { core = after_sessions came.core came.ports; ports = map without_notice left }

      plainly : Plainly w v
      plainly = plainly_then w came v (plainly_then w (all_come input w) came (plainly_come input w) (plainly_late input (all_come input w)))
          (plainly_sessions came)

      q : StillRuns n hosts old before v
      q = runs_plainly n hosts old before w v r plainly

      on_then : IsOnOrder v.core.command v.core.init
      on_then = sessions_order came.core came.ports (subst (λ (c : Core). IsOnOrder c.command c.init) (sym (core_late input (all_come input w))) on)

      freed : List Deed
      freed = forgotten came.ports

      are_free : AllByRecursion IsFree freed
      are_free = forgotten_hold IsFree (λ asker. tt) came.ports

      syncs : List Deed
      syncs = flat_map (synced w.core input) w.ports

      owing : List Deed
      owing = all_owed left

      x : Work
      x = all_done 0 freed v

      freed_fine : GoesOn_or_lost n hosts old before x
      freed_fine =
          all_fine n hosts old before 0 freed v (Some v.core.journal) q refl
          (free_may (Some v.core.journal) v.core.command v.core.init freed are_free on_then) v.ports (same_new v.ports)
          (λ z. free_fit v.core.tables v.ports freed are_free)

      one : OneOrNone w.core syncs
      one = syncs_one w.core input w.ports (subst AreDifferent (sym r.hosts_are) are.different) (subst (AllByRecursion IsHost) (sym r.hosts_are) are.all)

      journal_is : w.core.journal ≡ x.core.journal
      journal_is = sym (ap (λ (c : Core). c.journal) (freed_core freed are_free v q.on) ∙ plainly.journal)

      synced_fine : GoesOn_or_lost n hosts old before x → GoesOn_or_lost n hosts old before (all_done 0 syncs x)
      synced_fine (inl go) =
          all_fine n hosts old before 0 syncs x (Some x.core.journal) go.0 refl
          (subst (λ j. MayBeDone (Some j) x.core.command x.core.init syncs) journal_is (one_may w.core syncs x.core.command x.core.init one go.1)) x.ports
          (same_new x.ports)
          (λ z. syncs_fit x.core.tables x.ports go.0.sorted (go.0.allowed z) w.core input w.ports)
      synced_fine (inr lost) = absurd (true≢false (sym lost.off ∙ freed_cut freed are_free v q.on))

  pub steps_fine : (input : NodeInput) (w : Work) → StillRuns n hosts old before w → IsOnOrder w.core.command w.core.init
      → GoesOn_or_lost n hosts old before (steps input w)
  steps_fine input w r on =
      then_all n hosts old before passes (ready input w) (ready_fine input w r on) (λ y q o. passes_fine n hosts old before node are.all y q o)
