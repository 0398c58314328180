-- What a controller keeps and knows as a message has its turn is what is read off all entries until there.
use Rattle.node_laws.proofs.Words.{AllByRecursion, AreDifferent, AreHosts, AtEnd, Book, Bool, Creation, Decision, Deed, End, Entry, Err, ErrorCount}
use Rattle.node_laws.proofs.Words.{FollowsNodes, HasAsideAt, HasErrorsRead, Header, Hold, IfAwaited, IsFew, IsFresh, IsHost, IsKeptNotice, IsOutside, IsReadSo}
use Rattle.node_laws.proofs.Words.{IsResponse, IsSameView, IsSentByHost, IsShut, KeepsBetween, KeepsInStep, KnowsAsRead, KnowsTheSame, Line, LinksAreRead, List}
use Rattle.node_laws.proofs.Words.{Memory, Message, MessageFault, MessageKind, NodeHistory, NodeInput, NodeView, NodeWorld, None, Occurrence, Ok, Option}
use Rattle.node_laws.proofs.Words.{OwnView, Port, Result, Running, RunsInStep, Some, TimePasses, Work, [], after_sessions, all_come, all_done, all_owed}
use Rattle.node_laws.proofs.Words.{all_owed_hold, all_synced_hold, ap, append-nil, ap₂, arith, aside_in, asked_at, asked_pipes, asking_in, body_in, book_in}
use Rattle.node_laws.proofs.Words.{by_option, by_test, comes_to_pass, command_deeds, cond, controller_deeds, creation_deeds, creations_at, decided}
use Rattle.node_laws.proofs.Words.{decision_deeds, deeds_by_relay, deeds_of, desks_of, end_c, end_of_node, entries_in, eq-eqb, eqb, eqb-true, errors_in}
use Rattle.node_laws.proofs.Words.{event_deeds, false, filter, filter_map, flat_map, forgets, forgotten, forgotten_hold, gate_deeds, goes_through, handles}
use Rattle.node_laws.proofs.Words.{header_of, holds_back, hosts_of_ends, inl, inr, is_asked_at, is_asked_pipe, is_connected_at, is_connected_in, is_held}
use Rattle.node_laws.proofs.Words.{is_of_creation, is_one_of, is_opened, is_over_at, is_some, kind_deeds, lack, length, lets_go, list_any, map, needs}
use Rattle.node_laws.proofs.Words.{new_world, no_errors, node_entries, notice_deeds, notice_in, noting, occurrences_in, option_and_then, option_map_or, owed}
use Rattle.node_laws.proofs.Words.{own_deeds, own_gate, port_at, refl, relay_deeds, relayed_to, served_at, subst, sym, synced, tables_in, times_out, true}
use Rattle.node_laws.proofs.Words.{true≢false, unless_asking, view_at, view_for, view_of, waiting_pipes, with_desk, without_notice, world_behind, ℕ, ◌&&◌, ◌++◌}
use Rattle.node_laws.proofs.Words.{◌||◌, ◌∙◌, ◌∷◌, ◌≡◌}
use Rattle.hcp_packet.specs.declared.MessageKind.TheVariants.{Command as IsCommand, Event as IsEvent}
use Rattle.node_laws.specs.read_steps.Worlds.{KeepsErrorsRead}
use Rattle.node_laws.proofs.creations.Outcomes.{Asked, asked_of, desks_wait, waits}
use Rattle.node_laws.proofs.creations.Coming.{HasCome as HasComeMade, all_kept, begins as begins_made, came_near as near_made, came_tick as tick_made}
use Rattle.node_laws.proofs.creations.Coming.{due_ports, frees as frees_made, keeps_all, pays_all, ports_due, shared}
use Rattle.node_laws.proofs.creations.Doing.{EndAt, Fine, Good, IsOn as IsMade, Still, desks, many, notes, then as then_made, turns}
use Rattle.node_laws.proofs.creations.Knowing.{Any, HasAsker, any_asked, any_of, asker_of, asker_waits, asks_some, given_same, has_is, is_of_pipe, read_pipe}
use Rattle.node_laws.proofs.creations.Knowing.{read_some, two_ways}
use Rattle.node_laws.proofs.creations.Events.{history_keeps}
use Rattle.node_laws.proofs.creations.Turning.{handled as handled_made}
use Rattle.node_laws.proofs.kept.Doing.{GoesOn_or_lost}
use Rattle.node_laws.proofs.kept.Stepping.{deeds_fit, deeds_may, handles_fine, holds_fine, lets_fine}
use Rattle.node_laws.proofs.links.Noticing.{UpAt, at_host, up_of}
use Rattle.node_laws.proofs.notices.Turning.{AreHostEnds, Holds, IsOn as IsNoticed, Stands, all_stand, controller_side, handled_stand, holds_stand, kept_none}
use Rattle.node_laws.proofs.notices.Turning.{lets_stand, then as then_noticed}
use Rattle.node_laws.proofs.notices.Steps.{HasCome as HasComeNoticed, TellNoNotices, asked_is, begun as begun_noticed, came_near as near_noticed}
use Rattle.node_laws.proofs.notices.Steps.{came_tick as tick_noticed, frees as frees_noticed, no_notices_flat, no_notices_may, noticed_is, owed_all}
use Rattle.node_laws.proofs.notices.Steps.{sessions_tables, synced_no_notices}
use Rattle.node_laws.proofs.notices.Near.{noticed_desks}
use Rattle.node_laws.proofs.steps.StepWalks.{forgets_host, sessions_node, without_host}
use Rattle.node_laws.proofs.views.Doing.{AreUnset, HasErrors, IsUnset, Right, all_do, book_reads, holds, lets, maps, reads, reads_append, unless, unset_fine}
use Rattle.node_laws.proofs.views.Doing.{with_core}
use Rattle.node_laws.proofs.views.Lines.{AllKept, decided_same, events_so, pipes_same, real_of, where_same}
use Rattle.node_laws.proofs.views.Nodes.{IfKeeps, KeepsErrors, came_right, forgets_errors, timed_right, without_errors}
use Rattle.node_laws.proofs.views.Turning.{handled as handled_right}
use Rattle.node_laws.proofs.views.Events.{near_node}
use Rattle.gate_answers.specs.declared.response.Response.TheVariants as response
use Rattle.trace_model.specs.declared.entry.Entry.TheVariants as entry

-- ## What a controller keeps in a step, as the crates below keep it: notices, creations, and REC_ERROR with the tables

-- what was read of REC_ERROR of the end of the link with a host before the step
abbrev pub errors_before : List Entry → ℕ → ErrorCount
errors_before t h = reads (end_c h) t no_errors

host_ends : (ports : List Port) → AllByRecursion IsHost (map (λ (p : Port). p.desk.host) ports) → AreHostEnds ports
host_ends [] all = tt
host_ends (p ∷ ports) all = (all.0, host_ends ports all.1)

aside_to : (n : ℕ) (l : List Creation) (o : Option Port) → n ≡ length l → HasAsideAt l o → EndAt n l o
aside_to n l None same a = (same ∙ ap length a, a)
aside_to n l (Some p) same a = has_is n l p.side same a

aside_from : (l : List Creation) (o : Option Port) → EndAt (length l) l o → HasAsideAt l o
aside_from l None a = a.1
aside_from l (Some p) a = record { room = a.within.room; forgot = a.within.forgot; aside = a.aside; up = a.up }

module _ (hosts : List ℕ) (t : List Entry) where
  -- the creations of one asker
  waits_are : (w : Work) (x : ℕ) → creations_at (desks_of w.ports) x ≡ waits x (asked_of w.ports) ++ []
  waits_are w x = desks_wait x w.ports ∙ sym (append-nil (waits x (asked_of w.ports)))

  read_on : (w : Work) (h : ℕ) → reads (end_c h) (t ++ w.entries) no_errors ≡ reads (end_c h) w.entries (errors_before t h)
  read_on w h = reads_append (end_c h) t w.entries no_errors

  book_on : (w : Work) (h : ℕ) → (reads (end_c h) w.entries (errors_before t h)).book ≡ book_in (t ++ w.entries) 0
  book_on w h = ap (λ (x : ErrorCount). x.book) (sym (read_on w h)) ∙ book_reads (end_c h) (t ++ w.entries) no_errors

  module _ (w : Work) (a : KeepsInStep hosts t w) where
    pub to_notices : AllByRecursion IsHost hosts → (x : ℕ) → Holds x t IsKeptNotice w
    to_notices all x = record {
      on = a.on;
      node = a.node;
      sorted = a.sorted;
      two = a.two;
      hosts = host_ends w.ports (subst (AllByRecursion IsHost) (sym a.hosts_are) all);
      right = a.right;
      up = grind arith;
      kept = subst (IsKeptNotice (notice_in (t ++ w.entries) x)) (sym (noticed_desks w.ports x)) (a.notices x);
    }

    pub to_creations : (x : ℕ) → Good x t hosts (asked_of w.ports) [] w
    to_creations x = record {
      on = a.on;
      node = a.node;
      asked_are = refl;
      hosts_are = a.hosts_are;
      due = ports_due w.ports a.awaited;
      owed_due = tt;
      rows = a.proper;
      book = a.book;
      read = subst (IsReadSo (asking_in (t ++ w.entries) x)) (waits_are w x) (a.creations x);
      end = aside_to (many x t hosts (asked_of w.ports) []) (waits x (asked_of w.ports) ++ []) (port_at w.ports x) refl
          (subst (λ l. HasAsideAt l (port_at w.ports x)) (waits_are w x) (a.asides x));
    }

    to_errors : (h : ℕ) → IsHost h → Right (end_c h) hosts (errors_before t h) w
    to_errors h host = record {
      number = a.node;
      side = controller_side w.core a.node;
      hosts_are = a.hosts_are;
      errors = errors_in (t ++ w.entries) (end_c h);
      read = record {
        sets = ap (λ (x : ErrorCount). x.sets) (sym (read_on w h)) ∙ (a.errors h host).settled;
        is = ap (λ (x : ErrorCount). x.errors) (sym (read_on w h));
      };
      ends = (a.errors h host).at_ends;
      tables = λ on near. a.tables ∙ sym (ap (λ (b : Book). b.tables) (book_on w h));
    }

  -- and back again
  pub from_parts : (w : Work) → w.cut ≡ false → ((x : ℕ) → Holds x t IsKeptNotice w) → ((x : ℕ) → Still x t hosts w)
      → ((h : ℕ) → IsHost h → Right (end_c h) hosts (errors_before t h) w) → KeepsInStep hosts t w
  from_parts w on notices creations errors = record {
    on = on;
    node = (notices 0).node;
    hosts_are = (creations 0).good.hosts_are;
    tables = (errors 1 (omega arith, omega arith)).tables on refl ∙ ap (λ (b : Book). b.tables) (book_on w 1);
    sorted = (notices 0).sorted;
    two = (notices 0).two;
    proper = (creations 0).good.rows;
    book = (creations 0).good.book;
    right = (notices 0).right;
    up = λ h. up_of (port_at w.ports h) (notices h).up;
    notices = λ h. subst (IsKeptNotice (notice_in (t ++ w.entries) h)) (noticed_desks w.ports h) (notices h).kept;
    awaited = due_ports w.ports (subst (AllByRecursion (λ (e : ℕ × Option Creation). IfAwaited e.1))
        (sym (creations 0).good.asked_are) (creations 0).good.due);
    creations = λ h. subst (IsReadSo (asking_in (t ++ w.entries) h)) (sym (list_is h)) (creations h).good.read;
    asides = λ h. subst (λ l. HasAsideAt l (port_at w.ports h)) (sym (list_is h))
        (aside_from (waits h (creations h).asked ++ []) (port_at w.ports h) (creations h).good.end);
    errors = λ h host. read_errors h (errors h host);
  } where
    list_is : (h : ℕ) → creations_at (desks_of w.ports) h ≡ waits h (creations h).asked ++ []
    list_is h = waits_are w h ∙ ap (λ l. waits h l ++ []) (creations h).good.asked_are

    read_errors : (h : ℕ) → Right (end_c h) hosts (errors_before t h) w → HasErrorsRead (t ++ w.entries) w.ports h
    read_errors h r = record {
      settled = ap (λ (x : ErrorCount). x.sets) (read_on w h) ∙ r.read.sets;
      at_ends = subst (λ n. AllByRecursion (HasErrors (end_c h) n) w.ports) (sym r.read.is ∙ ap (λ (x : ErrorCount). x.errors) (sym (read_on w h))) r.ends;
    }

-- ## A controller has a step: as its pass over the ends begins, notices, creations and REC_ERROR are what is read

-- the work behind what came, as sessions have ended
abbrev pub begun_by : NodeInput → Work → Work
begun_by input w =
    let v : Work = times_out input (all_come input w) in
    record v { core = after_sessions v.core v.ports; ports = map without_notice (map (forgets v.ports) v.ports) }

-- the ends whose askers are owed an answer
abbrev pub left_by : NodeInput → Work → List Port
left_by input w = let v : Work = times_out input (all_come input w) in map (forgets v.ports) v.ports

-- the creations that are forgotten
abbrev freed_by : NodeInput → Work → List Creation
freed_by input w =
    let v : Work = times_out input (all_come input w) in
    filter (λ (c : Creation). is_over_at v.ports c.asker) (filter_map asked_at v.ports)

-- ### Notices

module _ (x : ℕ) (before : List Entry) (w : Work) (a : IsNoticed x before w) where
  noticed_then : (input : NodeInput) → HasComeNoticed x before w a (times_out input (all_come input w)) → Stands x before (comes_to_pass input w)
  noticed_then input c =
      let u : Work = all_done 0 (forgotten (times_out input (all_come input w)).ports) (begun_by input w) in
      let syncs : List Deed = flat_map (synced w.core input) w.ports in
      let no_notices : TellNoNotices syncs =
      no_notices_flat (synced w.core input) (λ (p : Port). IsHost p.desk.host) (λ p host. synced_no_notices w.core input p host) w.ports a.hosts in
      let freed : IsNoticed x before u =
      frees_noticed x before w a (freed_by input w) (begun_by input w) (begun_noticed x before w a (times_out input (all_come input w)) c) in
      let kept : Stands x before (all_done 0 syncs u) =
      all_stand x before 0 (λ n. ⊥) syncs u (λ n f. absurd f) (no_notices_may x (λ n. ⊥) syncs no_notices) freed in
      then_noticed x before (all_done 0 (all_owed (left_by input w))) (all_done 0 syncs u) kept
      (λ d. all_stand x before 0 (λ n. ⊥) (all_owed (left_by input w)) (all_done 0 syncs u) (λ n f. absurd f)
      (no_notices_may x (λ n. ⊥) (all_owed (left_by input w)) (owed_all x before w a (left_by input w))) d)

  pub notices_ready : (input : NodeInput) → IsOutside input → AreDifferent (map (λ (p : Port). p.desk.host) w.ports) → AllByRecursion IsFresh w.ports
      → AllByRecursion (λ (p : Port). IsShut p.side) w.ports → Stands x before (comes_to_pass input w)
  notices_ready (AtEnd h i) outside different fresh shut = noticed_then (AtEnd h i) (near_noticed x before w a h i outside different fresh shut)
  notices_ready TimePasses outside different fresh shut = noticed_then TimePasses (tick_noticed x before w a different fresh shut)

-- ### Creations

module _ (x : ℕ) (before : List Entry) (hosts : List ℕ) (all : AllByRecursion IsHost hosts) (different : AreDifferent hosts) (asked : Asked) (w : Work)
    (a : Good x before hosts asked [] w) (fresh : AllByRecursion IsFresh w.ports) where
  made_then : (input : NodeInput)
      → HasComeMade x before hosts asked (many x before hosts asked []) w a different fresh (times_out input (all_come input w))
      → Fine x before hosts (comes_to_pass input w)
  made_then input c = then_made x before hosts (Fine x before hosts) now owing (many x before hosts now owing) (all_done 0 (all_owed left))
      (all_done 0 syncs u) (keeps_all x before hosts now owing syncs u (all_kept x before hosts w.core input w.ports) first) (λ lost. inr lost)
      (λ b. pay (all_done 0 syncs u) b) where
        v : Work
        v = times_out input (all_come input w)

        left : List Port
        left = left_by input w

        ended : List Port
        ended = filter (λ (p : Port). p.ended) left

        lates : List Port
        lates = filter (λ (p : Port). p.late) left

        now : Asked
        now = asked_of (map without_notice left)

        owing : List Creation
        owing = filter_map asked_at ended ++ filter_map asked_at lates

        u : Work
        u = all_done 0 (forgotten v.ports) (begun_by input w)

        syncs : List Deed
        syncs = flat_map (synced w.core input) w.ports

        first : Good x before hosts now owing u
        first =
            frees_made x before hosts now owing (many x before hosts now owing) (freed_by input w) (begun_by input w)
            (subst (λ k. IsMade x before hosts now owing k (begun_by input w)) (shared x before hosts all different asked w a fresh v c)
            (begins_made x before hosts all different asked w a fresh v c))

        second : List Deed
        second = flat_map (λ p. owed response.Timeout (asked_at p)) lates

        pay : (s : Work) → Good x before hosts now owing s → Fine x before hosts (all_done 0 (all_owed left) s)
        pay s b =
            pays_all x before hosts now response.NotConnected ended (filter_map asked_at lates) second s b
            (λ y d. subst (λ l. Fine x before hosts (all_done 0 l y)) (append-nil second)
            (pays_all x before hosts now response.Timeout lates [] [] y
            (subst (λ l. Good x before hosts now l y) (sym (append-nil (filter_map asked_at lates))) d)
            (λ z e. inl (record { asked = now; good = e }))))

  pub creations_ready : (input : NodeInput) → IsOutside input → UpAt (port_at w.ports x) → AllByRecursion (λ (p : Port). IsShut p.side) w.ports
      → Fine x before hosts (comes_to_pass input w)
  creations_ready (AtEnd h i) outside up shut =
      made_then (AtEnd h i) (near_made x before hosts asked (many x before hosts asked []) w a different fresh h i outside)
  creations_ready TimePasses outside up shut =
      made_then TimePasses (tick_made x before hosts asked (many x before hosts asked []) w a different fresh up shut)

-- ### REC_ERROR

module _ (e : End) (hosts : List ℕ) (x0 : ErrorCount) (single : e.at_host ≡ true → hosts ≡ e.link ∷ []) where
  pub errors_ready : (input : NodeInput) (w : Work) → Right e hosts x0 w → Right e hosts x0 (comes_to_pass input w)
  errors_ready input w r =
      let came : Work = times_out input (all_come input w) in
      let left : List Port = left_by input w in
      let freed : List Deed = forgotten came.ports in
      let syncs : List Deed = flat_map (synced w.core input) w.ports in
      let first : Right e hosts x0 (begun_by input w) =
      with_core e hosts x0 (record came { ports = map without_notice left }) (after_sessions came.core came.ports) (sessions_node came.core came.ports)
      (sessions_tables came.core came.ports)
      (maps e hosts x0 without_notice (record came { ports = left }) without_host without_errors (maps e hosts x0 (forgets came.ports) came
      (forgets_host came.ports) (forgets_errors came.ports) (timed_right e hosts x0 single input (all_come input w)
      (came_right e hosts x0 single input w r)))) in
      let owed_all : AreUnset (all_owed left) =
      all_owed_hold IsUnset (λ asker. tt) (λ to r. tt) left in
      let kept : Right e hosts x0 (all_done 0 syncs (all_done 0 freed (begun_by input w))) =
      all_do e hosts x0 0 syncs (all_done 0 freed (begun_by input w))
      (unset_fine e hosts x0 0 syncs (all_synced_hold IsUnset (λ host id. tt) w.core input w.ports))
      (all_do e hosts x0 0 freed (begun_by input w) (unset_fine e hosts x0 0 freed (forgotten_hold IsUnset (λ asker. tt) came.ports)) first) in
      unless e hosts x0 (all_done 0 (all_owed left)) (all_done 0 syncs (all_done 0 freed (begun_by input w)))
      (λ on z. all_do e hosts x0 0 (all_owed left) (all_done 0 syncs (all_done 0 freed (begun_by input w))) (unset_fine e hosts x0 0 (all_owed left)
      owed_all) z) kept

-- ## What a controller keeps in a step lasts over the handling of a message, where one is held, and where none is

-- the end of the link with this host is there, and its host is one of these
pub found_end : (P : ℕ → Type 0) (ports : List Port) (h : ℕ) (p : Port) → port_at ports h ≡ Some p → AllByRecursion P (hosts_of_ends ports) → P h
found_end P [] h p here all = absurd (cc here)
found_end P (q ∷ ports) h p here all = by_test (eqb q.desk.host h)
    (λ is. subst P (eqb-true q.desk.host h is) all.0)
    (λ off. (found_end P ports h p) (sym (ap (λ b. cond b (Some q) (port_at ports h)) off) ∙ here) all.1)

-- a message came there
pub got_end : (o : Option Port) (m : Message) (rest : List Message) → option_map_or (λ (p : Port). p.side.got) o [] ≡ m ∷ rest → (p : Port) × (o ≡ Some p)
got_end o m rest got = grind arith

module _ (hosts : List ℕ) (are : AreHosts hosts) (t : List Entry) where
  abbrev J : Work → Type 0
  J w = KeepsInStep hosts t w

  -- an end of the controller is no host's
  single : (h : ℕ) → (end_c h).at_host ≡ true → hosts ≡ h ∷ []
  single h far = absurd (true≢false (sym far))

  still_on : (x : ℕ) (w : Work) → w.cut ≡ false → Stands x t w → Holds x t IsKeptNotice w
  still_on x w on a = grind arith

  still_made : (x : ℕ) (w : Work) → w.cut ≡ false → Fine x t hosts w → Still x t hosts w
  still_made x w on a = grind arith

  -- ### A message is handled

  pub near_deeds : (h : ℕ) (m : Message) (w : Work) → J w → deeds_of w.core w.ports h m ≡ controller_deeds (view_of w.core w.ports) h m
  near_deeds h m w a = let zero : eqb w.core.node 0 ≡ true = eq-eqb w.core.node 0 a.node in rw zero refl

  -- at an end that is there
  handled_keeps : (h : ℕ) (m : Message) (p : Port) (w : Work) → J w → port_at w.ports h ≡ Some p
      → lack w.ports (needs h (deeds_of w.core w.ports h m)) ≡ None → (handles h m (deeds_of w.core w.ports h m) w).cut ≡ false
      → J (handles h m (deeds_of w.core w.ports h m) w)
  handled_keeps h m p w a here room on =
      let host : IsHost h = found_end IsHost w.ports h p here (subst (AllByRecursion IsHost) (sym a.hosts_are) are.all) in
      let deeds_are : deeds_of w.core w.ports h m ≡ controller_deeds (view_of w.core w.ports) h m = near_deeds h m w a in
      let room_now : lack w.ports (needs h (controller_deeds (view_of w.core w.ports) h m))
      ≡ None = ap (λ d. lack w.ports (needs h d)) (sym deeds_are) ∙ room in
      let v : Work = handles h m (deeds_of w.core w.ports h m) w in
      from_parts hosts t v on
      (λ x. still_on x v on (subst (λ d. Stands x t (handles h m d w)) (sym deeds_are)
      (handled_stand x t h m w host (to_notices hosts t w a are.all x) room_now)))
      (λ x. still_made x v on (subst (λ d. Fine x t hosts (handles h m d w)) (sym deeds_are)
      (handled_made x t hosts are.different h host (asked_of w.ports) m w (to_creations hosts t w a x) room_now)))
      (λ k real. handled_right (end_c k) hosts (errors_before t k) (single k) h m p w a.on here room (to_errors hosts t w a k real))

  pub handles_keeps : (h : ℕ) (m : Message) (rest : List Message) (w : Work) → J w
      → option_map_or (λ (p : Port). p.side.got) (port_at w.ports h) [] ≡ m ∷ rest
      → lack w.ports (needs h (deeds_of w.core w.ports h m)) ≡ None → (handles h m (deeds_of w.core w.ports h m) w).cut ≡ false
      → J (handles h m (deeds_of w.core w.ports h m) w)
  handles_keeps h m rest w a got room on = let found = got_end (port_at w.ports h) m rest got in handled_keeps h m found.0 w a found.1 room on

  -- ### A message is held, or none is

  holds_made : (k x : ℕ) (short : ℕ × ℕ) (w : Work) → Good x t hosts (asked_of w.ports) [] w → Good x t hosts (asked_of w.ports) [] (holds_back k short w)
  holds_made k x short w a = by_test (option_map_or (λ (p : Port). p.desk.holds) (port_at w.ports k) false)
      (λ q. rw q (turns x t hosts (asked_of w.ports) [] n k (Hold true) w tt (λ p e. refl) a))
      (λ q. rw q (turns x t hosts (asked_of w.ports) [] n k (Hold true) (with_desk k (λ d. record d { holds = true }) told) tt (λ p e. refl)
      (desks x t hosts (asked_of w.ports) [] n k (λ d. record d { holds = true }) told (λ d. refl) (λ d. refl)
      (notes x t hosts (asked_of w.ports) [] n (entry.Held (end_of_node w.core k) short.0 short.1 ∷ []) w (λ b. refl) refl a)))) where
        n : ℕ
        n = many x t hosts (asked_of w.ports) []

        told : Work
        told = noting (entry.Held (end_of_node w.core k) short.0 short.1 ∷ []) w

  pub holds_keeps : (h : ℕ) (short : ℕ × ℕ) (w : Work) → J w → J (holds_back h short w)
  holds_keeps h short w a =
      let v : Work = holds_back h short w in
      let n : (x : ℕ) → Holds x t IsKeptNotice v = λ x. holds_stand x t h short w (to_notices hosts t w a are.all x) in
      from_parts hosts t v (n 0).on n
      (λ x. record { asked = asked_of w.ports; good = holds_made h x short w (to_creations hosts t w a x) })
      (λ k real. holds (end_c k) hosts (errors_before t k) h short w (to_errors hosts t w a k real))

  lets_made : (k x : ℕ) (w : Work) → Good x t hosts (asked_of w.ports) [] w → Good x t hosts (asked_of w.ports) [] (lets_go k w)
  lets_made k x w a = by_test (option_map_or (λ (p : Port). is_held p.side) (port_at w.ports k) false)
      (λ q. rw q (turns x t hosts (asked_of w.ports) [] (many x t hosts (asked_of w.ports) []) k (Hold false) w tt (λ p e. refl) a))
      (λ q. rw q a)

  pub lets_keeps : (h : ℕ) (w : Work) → J w → J (lets_go h w)
  lets_keeps h w a =
      let v : Work = lets_go h w in
      let n : (x : ℕ) → Holds x t IsKeptNotice v = λ x. lets_stand x t h w (to_notices hosts t w a are.all x) in
      from_parts hosts t v (n 0).on n
      (λ x. record { asked = asked_of w.ports; good = lets_made h x w (to_creations hosts t w a x) })
      (λ k real. lets (end_c k) hosts (errors_before t k) h w (to_errors hosts t w a k real))

-- ## What a controller's memory holds in a step lasts with what it keeps

module _ (hosts : List ℕ) (are : AreHosts hosts) (t : List Entry) where
  abbrev JOfRunning : Work → Type 0
  JOfRunning w = RunsInStep hosts t w

  pub with_kept : (memory : Memory) (w : Work) → KeepsInStep hosts t w → GoesOn_or_lost 0 hosts memory t w → JOfRunning w
  with_kept memory w k (inl a) = record { keeps = k; memory = memory; kept = a.0; order = a.1 }
  with_kept memory w k (inr a) = absurd (true≢false (sym a.off ∙ k.on))

  pub runs_handled : (h : ℕ) (m : Message) (p : Port) (w : Work) → JOfRunning w → port_at w.ports h ≡ Some p
      → lack w.ports (needs h (deeds_of w.core w.ports h m)) ≡ None → (handles h m (deeds_of w.core w.ports h m) w).cut ≡ false
      → JOfRunning (handles h m (deeds_of w.core w.ports h m) w)
  runs_handled h m p w a here room on =
      let host : IsHost h = found_end IsHost w.ports h p here (subst (AllByRecursion IsHost) (sym a.keeps.hosts_are) are.all) in
      with_kept a.memory (handles h m (deeds_of w.core w.ports h m) w) (handled_keeps hosts are t h m p w a.keeps here room on)
      (handles_fine 0 hosts a.memory t (inl refl) w h m (deeds_of w.core w.ports h m) a.kept (deeds_may 0 hosts a.memory t (inl refl) w h m a.kept a.order host)
      (deeds_fit 0 hosts a.memory t (inl refl) w h m a.kept))

  pub runs_holds : (h : ℕ) (short : ℕ × ℕ) (w : Work) → JOfRunning w → JOfRunning (holds_back h short w)
  runs_holds h short w a =
      with_kept a.memory (holds_back h short w) (holds_keeps hosts are t h short w a.keeps) (holds_fine 0 hosts a.memory t (inl refl) w h short a.kept a.order)

  pub runs_lets : (h : ℕ) (w : Work) → JOfRunning w → JOfRunning (lets_go h w)
  runs_lets h w a = with_kept a.memory (lets_go h w) (lets_keeps hosts are t h w a.keeps) (lets_fine 0 hosts a.memory t (inl refl) w h a.kept a.order)

-- ## What a controller knows as a message has its turn is what is read off all entries until there

-- ### Ends

one_there : (ports : List Port) (h : ℕ) → is_one_of (hosts_of_ends ports) h ≡ is_some (port_at ports h)
one_there [] h = refl
one_there (p ∷ ports) h = by_test (eqb p.desk.host h) (λ is. rw is refl) (λ off. rw off (one_there ports h))

-- a test that holds of the host of an end holds of one of them
any_end : (test : ℕ → Bool) (ports : List Port) (x : ℕ) (p : Port) → port_at ports x ≡ Some p → test x ≡ true → list_any test (hosts_of_ends ports) ≡ true
any_end test [] x p q e = absurd (cc q)
any_end test (y ∷ ports) x p q e = by_test (eqb y.desk.host x)
    (λ is. ap (λ b. b || list_any test (hosts_of_ends ports)) (ap test (eqb-true y.desk.host x is) ∙ e))
    (λ off. tail_true (test y.desk.host) (list_any test (hosts_of_ends ports)) ((any_end test ports x p) (rw off at q) e)) where
      tail_true : (b c : Bool) → c ≡ true → (b || c) ≡ true
      tail_true true c z = refl
      tail_true false c z = z

-- REC_ERROR of the end of a host
counted_at : (h n : ℕ) (ports : List Port) (p : Port) → AllByRecursion (λ (q : Port). eqb q.desk.host h ≡ true → q.desk.errors ≡ n) ports
    → port_at ports h ≡ Some p → p.desk.errors ≡ n
counted_at h n [] p all here = absurd (cc here)
counted_at h n (q ∷ ports) p all here = by_test (eqb q.desk.host h)
    (λ is. grind arith)
    (λ off. (counted_at h n ports p all.1) (rw off at here))

module _ (hosts : List ℕ) (are : AreHosts hosts) (t : List Entry) (w : Work) (a : KeepsInStep hosts t w) where
  abbrev now : List Entry
  now = t ++ w.entries

  pub there_is : (h : ℕ) → is_some (port_at w.ports h) ≡ is_one_of hosts h
  there_is h = sym (one_there w.ports h) ∙ ap (λ hs. is_one_of hs h) a.hosts_are

  -- ### Notices

  pub notice_is : (h : ℕ) → IsKeptNotice (notice_in now h) (option_and_then (λ (p : Port). p.desk.notice) (port_at w.ports h))
  notice_is h = subst (IsKeptNotice (notice_in now h)) (sym (noticed_desks w.ports h)) (a.notices h)

  kept_at : (h : ℕ) (o : Option Port) → port_at w.ports h ≡ o → IsKeptNotice (notice_in now h) (option_and_then (λ (p : Port). p.desk.notice) o)
  kept_at h o q = subst (λ o. IsKeptNotice (notice_in now h) (option_and_then (λ (p : Port). p.desk.notice) o)) q (notice_is h)

  pub noticed : (h : ℕ) → option_map_or (λ (p : Port). is_some p.desk.notice) (port_at w.ports h) false ≡ is_some (notice_in now h)
  noticed h = by_option (port_at w.ports h)
      (λ q. rw q (sym (ap is_some (kept_none (notice_in now h) None refl (kept_at h None q)))))
      (λ p q. rw q (noticed_is (notice_in now h) p (kept_at h (Some p) q)))

  pub asked : (h : ℕ) → option_map_or is_asked_at (port_at w.ports h) false ≡ is_of_creation (notice_in now h)
  asked h = by_option (port_at w.ports h)
      (λ q. rw q (sym (ap is_of_creation (kept_none (notice_in now h) None refl (kept_at h None q)))))
      (λ p q. rw q (asked_is (notice_in now h) p (kept_at h (Some p) q)))

  -- ### Creations

  list_is : (x : ℕ) → creations_at (desks_of w.ports) x ≡ waits x (asked_of w.ports)
  list_is x = desks_wait x w.ports

  read_of : (x : ℕ) → IsReadSo (asking_in now x) (waits x (asked_of w.ports))
  read_of x = subst (IsReadSo (asking_in now x)) (list_is x) (a.creations x)

  -- an asker is a host of the world
  in_hosts : (pid x : ℕ) → list_any (is_of_pipe pid) (waits x (asked_of w.ports)) ≡ true → list_any (is_asked_pipe now pid) hosts ≡ true
  in_hosts pid x e = by_option (port_at w.ports x)
      (λ q. let none : waits x (asked_of w.ports) ≡ [] =
      sym (list_is x) ∙ subst (λ o. HasAsideAt (creations_at (desks_of w.ports) x) o) q (a.asides x) in
      absurd (true≢false (sym e ∙ ap (list_any (is_of_pipe pid)) none)))
      (λ p q. subst (λ hs. list_any (is_asked_pipe now pid) hs ≡ true) a.hosts_are
      (any_end (is_asked_pipe now pid) w.ports x p q (sym (read_pipe pid (asking_in now x) (waits x (asked_of w.ports)) (read_of x)) ∙ e)))

  waiting_is : (pid : ℕ) → list_any (λ p. eqb p pid) (waiting_pipes w.ports) ≡ list_any (is_asked_pipe now pid) hosts
  waiting_is pid =
      two_ways (list_any (λ p. eqb p pid) (waiting_pipes w.ports)) (list_any (is_asked_pipe now pid) hosts)
      (λ e. let s : HasAsker pid w.ports = asker_of pid w.ports e in in_hosts pid s.asker s.waits_there)
      (λ e. let s : Any pid (is_asked_pipe now pid) = any_of pid (is_asked_pipe now pid) hosts e in
      asker_waits pid s.which w.ports ((read_pipe pid (asking_in now s.which) (waits s.which (asked_of w.ports)) (read_of s.which)) ∙ s.holds))

  pub creations_known : KnowsAsRead hosts now w.ports
  creations_known = record {
    asks = λ h. asks_some h w.ports ∙ sym (read_some (asking_in now h) (waits h (asked_of w.ports)) (read_of h));
    waiting = waiting_is;
    given = λ rows. given_same rows (waiting_pipes w.ports) (asked_pipes now hosts) (λ pid. waiting_is pid ∙ sym (any_asked now pid hosts));
  }

  pub aside_known : (h : ℕ) (p : Port) → port_at w.ports h ≡ Some p → aside_in now (end_c h) ≡ p.side.aside
  aside_known h p q = grind arith

  -- ### REC_ERROR

  pub errors_known : (h : ℕ) (p : Port) → port_at w.ports h ≡ Some p → p.desk.errors ≡ errors_in now (end_c h)
  errors_known h p q =
      let host : IsHost h = found_end IsHost w.ports h p q (subst (AllByRecursion IsHost) (sym a.hosts_are) are.all) in
      counted_at h (errors_in now (end_c h)) w.ports p (a.errors h host).at_ends q

  -- ### The view

  configured : (h : ℕ) → option_map_or (λ (p : Port). true) (port_at w.ports h) false ≡ is_one_of hosts h
  configured h = by_option (port_at w.ports h) (λ q. rw q refl) (λ p q. rw q refl) ∙ there_is h

  connected : LinksAreRead hosts now w.ports → (h : ℕ) → option_map_or (is_connected_at w.core.tables) (port_at w.ports h) false
      ≡ (is_one_of hosts h && is_connected_in now h)
  connected links h = by (port_at w.ports h) refl where
    by : (o : Option Port) → port_at w.ports h ≡ o → option_map_or (is_connected_at w.core.tables) o false ≡ (is_one_of hosts h && is_connected_in now h)
    by None q = ap (λ b. b && is_connected_in now h) (sym (ap is_some q) ∙ there_is h)
    by (Some p) q =
        let one : is_one_of hosts h ≡ true = sym (there_is h) ∙ ap is_some q in
        let open_is : is_opened w.core.tables p.desk.host 1 ≡ is_opened (tables_in now 0) h 1 =
        ap₂ (λ z n. is_opened z n 1) a.tables (at_host w.ports h p q) in
        ap₂ (λ x y. x && y) (grind arith) open_is ∙ sym (ap (λ b. b && is_connected_in now h) one)

  counted : (h : ℕ) → is_one_of hosts h ≡ true → option_map_or (λ (p : Port). p.desk.errors) (port_at w.ports h) 0 ≡ errors_in now (end_c h)
  counted h one = by_option (port_at w.ports h)
      (λ q. rw q (absurd (true≢false (sym one ∙ (sym (there_is h) ∙ ap is_some q)))))
      (λ p q. rw q (errors_known h p q))

  pub view_known : LinksAreRead hosts now w.ports → (h : ℕ) → is_one_of hosts h ≡ true
      → IsSameView (view_for w.core.tables w.ports h) (view_at hosts now h)
  view_known links h one = record {
    hosts = where_same (λ k. option_map_or (λ (p : Port). true) (port_at w.ports k) false) (is_one_of hosts) configured;
    connected = where_same (λ k. option_map_or (is_connected_at w.core.tables) (port_at w.ports k) false)
        (λ k. is_one_of hosts k && is_connected_in now k) (connected links);
    noticed = where_same (λ k. option_map_or (λ (p : Port). is_some p.desk.notice) (port_at w.ports k) false) (λ k. is_some (notice_in now k)) noticed;
    asked = where_same (λ k. option_map_or is_asked_at (port_at w.ports k) false) (λ k. is_of_creation (notice_in now k)) asked;
    waiting = λ pid. waiting_is pid ∙ pipes_same now pid hosts;
    errors = counted h one;
  }

-- ## A world keeps what is read of its controller at the end of each event of a history

errors_between : (t : List Entry) (w : NodeWorld) → AllKept t w → (r : Running) → w.controller ≡ Some r → (h : ℕ) → IsHost h → KeepsErrorsRead t r h
errors_between t w all r runs h host =
    let k : KeepsErrors (end_c h) r (reads (end_c h) t no_errors) =
    subst (λ o. IfKeeps (end_c h) o (reads (end_c h) t no_errors)) (near_node (end_c h) (real_of (end_c h) host) w refl ∙ runs) (all (end_c h) host) in
    record { settled = k.sets; at_desks = k.desks }

pub history_keeps_between : (header : Header) (lines : List Line) (t : NodeHistory) → FollowsNodes header lines t → AreHosts header.hosts.items
    → AllByRecursion IsSentByHost lines → IsFew (node_entries t) → (front back : List Occurrence) → occurrences_in t ≡ front ++ back
    → KeepsBetween header.hosts.items (entries_in front) (world_behind (new_world header.hosts.items) front)
history_keeps_between header lines t follows are sent few front back parts = record {
  creations = history_keeps header lines t follows are sent few front back parts;
  errors = errors_between (entries_in front) (world_behind (new_world header.hosts.items) front)
      (events_so header lines t follows are sent few front back parts).errors;
}

-- ## Two controllers that know the same do the same with a message

-- what a response does, by the creation that the notice is about which it answers
by_awaited : OwnView → ℕ → Option (Option Creation) → List Deed
by_awaited own code None = notice_deeds own code None
by_awaited own code (Some o) = creation_deeds own code o

module _ (v u : NodeView) (h : ℕ) (a : KnowsTheSame v u h) where
  -- ### Commands

  decisions : (pipe : ℕ) (x : Decision) → decision_deeds v.own h pipe x ≡ decision_deeds u.own h pipe x
  decisions pipe x = grind arith

  served : IsSameView (v.links h) (u.links h) → (pipe instruction : ℕ) (body : List ℕ) (o : Option ℕ)
      → served_at v.own (v.links h) h pipe instruction body o ≡ served_at u.own (u.links h) h pipe instruction body o
  served same pipe instruction body None =
      ap (decision_deeds v.own h pipe) (decided_same v.own.tables (v.links h) (u.links h) h pipe instruction body same
      ∙ ap (λ t. decided t (u.links h) h pipe instruction body) a.tables) ∙ decisions pipe (decided u.own.tables (u.links h) h pipe instruction body)
  served same pipe instruction body (Some gate) = ap (λ e. gate_deeds gate e h pipe instruction body) same.errors

  commands : IsSameView (v.links h) (u.links h) → (pipe instruction : ℕ) (body : List ℕ)
      → command_deeds v h pipe instruction body ≡ command_deeds u h pipe instruction body
  commands same pipe instruction body =
      served same pipe instruction body (cond (goes_through v.own.tables h pipe instruction) (own_gate v.own.tables h pipe) None)
      ∙ ap (λ t. served_at u.own (u.links h) h pipe instruction body (cond (goes_through t h pipe instruction) (own_gate t h pipe) None)) a.tables

  unless_it_asks : IsSameView (v.links h) (u.links h) → (m : Message) (instruction : ℕ) (b : Bool)
      → unless_asking v h m instruction b ≡ unless_asking u h m instruction b
  unless_it_asks same m instruction true = refl
  unless_it_asks same m instruction false = commands same m.0 instruction (body_in m.1)

  -- ### Responses

  created : (code : ℕ) (o : Option Creation) → creation_deeds v.own code o ≡ creation_deeds u.own code o
  created code o = grind arith

  awaited : (code : ℕ) (o : Option (Option Creation)) → by_awaited v.own code o ≡ by_awaited u.own code o
  unfolding by_awaited
  awaited code o = grind arith

  -- ### Messages

  kinds : IsSameView (v.links h) (u.links h) → (m : Message) (o : Result (MessageKind × ℕ) MessageFault) → kind_deeds v h m o ≡ kind_deeds u h m o
  kinds same m (Ok (IsCommand, instruction)) =
      unless_it_asks same m instruction (eqb m.0 1 && v.asks h) ∙ ap (λ b. unless_asking u h m instruction (eqb m.0 1 && b)) a.asks
  kinds same m (Ok (IsEvent, instruction)) = ap (λ t. event_deeds t h m) a.tables
  kinds same m (Ok (IsResponse, code)) = grind arith
  kinds same m (Err fault) = refl

  owns : (m : Message) (b : Bool) → v.up h ≡ b → own_deeds v h m b ≡ own_deeds u h m b
  owns m true up = kinds (a.view up) m (header_of m.1)
  owns m false down = refl

  by_relay : (m : Message) (o : Option ℕ) → deeds_by_relay v h m o ≡ deeds_by_relay u h m o
  by_relay m (Some to) = (grind arith) ∙ ap (relay_deeds u.up h m to) (a.links to)
  by_relay m None = owns m (v.up h) refl ∙ ap (own_deeds u h m) (a.links h)

  pub same_deeds : (m : Message) → controller_deeds v h m ≡ controller_deeds u h m
  same_deeds m = by_relay m (relayed_to v.own.tables h m) ∙ ap (λ t. deeds_by_relay u h m (relayed_to t h m)) a.tables
