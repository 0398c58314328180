-- What a controller keeps is what is read as its pass begins and over each turn, and its notices name hosts.
use Rattle.node_laws.proofs.Words.{Activates, AllByRecursion, AllByRecursion-append, AreDifferent, AreHosts, AreNamed, AreProper, Arms, Asks, AsksReset, AtEnd}
use Rattle.node_laws.proofs.Words.{Book, Boots, Comes, Command, Commits, Controller, ControllerReads, Core, Creation, Deed, Desk, Drops, End, Ends, Entry}
use Rattle.node_laws.proofs.Words.{ErrorCount, FetchMessage, FollowsNodes, Give, Gives, Happening, HasEnds, HciTables, Header, Hold, Host, IfItRuns}
use Rattle.node_laws.proofs.Words.{IfNoticedUp, IfReads, IfRuns, Inits, IsAllowedStill, IsAnswered, IsCut, IsFew, IsFresh, IsHost, IsKeptNotice, IsNamed}
use Rattle.node_laws.proofs.Words.{IsOutside, IsPlain, IsReadSo, IsSentByHost, IsShut, KeepsBetween, KeepsInStep, Line, LinkInput, List, Loses, Message}
use Rattle.node_laws.proofs.Words.{NextFrame, NodeHistory, NodeInput, NodeWorld, None, Noted, NumberedEnd, Occurrence, Option, Orders, Port, ReadsBetween}
use Rattle.node_laws.proofs.Words.{ReadsInStep, Release, Releases, Reset, Resets, Running, RunsInStep, RunsSo, SaysOk, Sends, SetAside, SetsErrors, Site, Some}
use Rattle.node_laws.proofs.Words.{Starts, Takes, Tells, Ticks, TimePasses, Turn, Work, [], activates, after_input, aged_entries, all_aged, all_come, all_done}
use Rattle.node_laws.proofs.Words.{all_flat, all_owed, all_so, ap, append-nil, arith, arrival, as_it_ticks, awaited_after, beginning, body_of, book_in, boots}
use Rattle.node_laws.proofs.Words.{by_coming, by_controller, by_controller_tick, by_cut, by_option, by_test, comes_at, comes_to, comes_to_pass, commit}
use Rattle.node_laws.proofs.Words.{commit_writes, controller_begins, controller_deeds, controller_does, controller_ticks, controller_work, creations_of}
use Rattle.node_laws.proofs.Words.{deeds_of, done, end_c, end_h, end_of_node, ended_by, entries_for, entries_in, eq-eqb, eqb, fails_within, false, flat_map}
use Rattle.node_laws.proofs.Words.{fold, forgotten, frames_noted, goes_through_ends, handles, have_turns, holds_back, hosts_in, hosts_of_ends, hosts_tick, inl}
use Rattle.node_laws.proofs.Words.{input_at, input_of, instruction_in, is_held, is_late, is_notice, is_one_of, is_some, lack, length, lets_go, link_to, map}
use Rattle.node_laws.proofs.Words.{near_end_in, near_tick, needs, new_world, no_errors, node_entries, noted_of, notice_in, noting, occurrences_in}
use Rattle.node_laws.proofs.Words.{option_map_or, own_side, passes, port_at, refl, report, sending, slice_index, steps, subst, sym, synced, times_out, told_at}
use Rattle.node_laws.proofs.Words.{told_late, true, true≢false, turn_at, unless_cut, view_of, whole_acked, wires_for, with_desk, with_older, work_of}
use Rattle.node_laws.proofs.Words.{world_behind, world_step, ℕ, ◌&&◌, ◌++◌, ◌||◌, ◌∙◌, ◌∷◌, ◌≡◌}
use Rattle.node_laws.proofs.creations.Outcomes.{asked_of}
use Rattle.node_laws.proofs.creations.Doing.{Fine, Good, Still}
use Rattle.node_laws.proofs.creations.Events.{aged_good, begins_beside, far_beside, lost_beside, near_good}
use Rattle.node_laws.proofs.creations.Knowing.{Reads, begins as begins_made, far_book, far_reading, up_at}
use Rattle.node_laws.proofs.kept.Doing.{plain_entries, plain_flat}
use Rattle.node_laws.proofs.kept.Events.{keeps_same, plain_same, runs_begun}
use Rattle.node_laws.proofs.kept.Stepping.{deeds_fit, ready_fine}
use Rattle.node_laws.proofs.links.Noticing.{at_host}
use Rattle.node_laws.proofs.notices.Telling.{IsShort, MayTell, Outcome, controller_outcome}
use Rattle.node_laws.proofs.notices.Turning.{Holds, Stands}
use Rattle.node_laws.proofs.notices.Near.{AreFar, AreGood, Reads as NoticeReads, aged_far, aged_side, all_ports, all_tick, arrival_quiet, beginning_own}
use Rattle.node_laws.proofs.notices.Near.{begins as begins_noticed, comes_reads, far_flat, far_hushed, frames_quiet, link_shut, quiet_far, sending_own}
use Rattle.node_laws.proofs.notices.Near.{still_reads}
use Rattle.node_laws.proofs.notices.Steps.{TellNoNotices, no_notices_flat, owed_all, synced_no_notices}
use Rattle.node_laws.proofs.notices.Telling.Outcome.{IsHeard, Leaves}
use Rattle.node_laws.proofs.read_steps.Knowing.{begun_by, creations_ready, errors_before, errors_ready, found_end, from_parts, got_end, history_keeps_between}
use Rattle.node_laws.proofs.read_steps.Knowing.{left_by, near_deeds, notices_ready, runs_handled, runs_holds, runs_lets, there_is, to_notices, with_kept}
use Rattle.node_laws.proofs.readings.Turning.{rest_quiet, told_rest}
use Rattle.node_laws.proofs.readings.Sites.{comes_outside, near_end_side}
use Rattle.node_laws.proofs.telling.Lasting.{Any, AreCaused, fronts_last, history_caused}
use Rattle.node_laws.proofs.telling.Events.{hosts_same_of_nodes as hosts_same}
use Rattle.node_laws.proofs.views.Doing.{IsRead, IsStill, Right, book_reads, reads, reads_append, still_all}
use Rattle.node_laws.proofs.views.Events.{aged_entries_still}
use Rattle.node_laws.proofs.views.Nodes.{KeepsErrors, arrival_still, begun_right}
use Rattle.trace_model.specs.declared.entry.Entry.TheVariants as entry

-- ## What a controller notes in a turn: a notice of a creation names the host that it goes to

-- ### What is read

-- a message that is read names this host, where it is the notice of a creation
abbrev NamesHost : ℕ → Option (List ℕ) → Type 0
NamesHost x None = Unit {0}
NamesHost x (Some m) = instruction_in m ≡ 18 → slice_index m 3 ≡ x

all_named : (x : ℕ) (t : List Entry) (r : Option (List ℕ)) → AreNamed t → NamesHost x r → NamesHost x (fold (awaited_after is_notice (end_c x) 0) r t)
all_named x [] r named a = a
all_named x (e ∷ t) r named a = all_named x t (awaited_after is_notice (end_c x) 0 r e) named.1 (grind arith)

pub names_read : (t : List Entry) → AreNamed t → (h : ℕ) (message : List ℕ) → notice_in t h ≡ Some message → instruction_in message ≡ 18
    → slice_index message 3 ≡ h
names_read t named h message is made = let one : NamesHost h (Some message) = subst (NamesHost h) is (all_named h t None named tt) in one made

-- ### Entries

pub far_named : (es : List Entry) → AreFar es → AreNamed es
far_named [] far = tt
far_named (e ∷ es) far = (grind arith, far_named es far.1)

-- a message to a host names it, where it is the notice of a creation
abbrev pub GoesSo : ℕ → Message → Type 0
GoesSo k m = (eqb m.0 1 && is_notice m.1) ≡ true → instruction_in m.1 ≡ 18 → slice_index m.1 3 ≡ k

abbrev GoesBy : ℕ → Turn → Type 0
GoesBy k (Give m) = GoesSo k m
GoesBy k _ = Unit {0}

noted_named : (core : Core) (t : Turn) (p : Port) → GoesBy p.desk.host t → AreNamed (noted_of core t p)
noted_named core t p goes = grind arith

turn_named : (k : ℕ) (t : Turn) (w : Work) → GoesBy k t → AreNamed w.entries → AreNamed (turn_at k t w).entries
turn_named k t w goes a = AllByRecursion-append IsNamed w.entries (option_map_or (noted_of w.core t) (port_at w.ports k) []) a
    (by_option (port_at w.ports k) (λ e. rw e tt) (λ p e. rw e (noted_named w.core t p (subst (λ n. GoesBy n t) (sym (at_host w.ports k p e)) goes))))

note_named : (x : Entry) (w : Work) → IsNamed x → AreNamed w.entries → AreNamed (noting (x ∷ []) w).entries
note_named x w is a = AllByRecursion-append IsNamed w.entries (x ∷ []) a (is, tt)

-- ### Deeds

abbrev NamesSo : Deed → Type 0
NamesSo (Sends to m) = GoesSo to m
NamesSo (Asks to message c) = GoesSo to (1, message)
NamesSo (Tells to message) = GoesSo to (1, message)
NamesSo (Orders message) = ⊥
NamesSo (Ends x) = IsNamed x
NamesSo _ = Unit {0}

commit_named : (c : Command) (w : Work) → AreNamed w.entries → AreNamed (commit c w).entries
commit_named c w a = by_test (fails_within (length (commit_writes w.core.journal w.core.tables (body_of c))) w.plan)
    (λ e. rw e (note_named (entry.Cut w.core.node) (noting (entry.Command w.core.node c ∷ []) w) tt noted))
    (λ e. rw e noted) where
      noted : AreNamed (noting (entry.Command w.core.node c ∷ []) w).entries
      noted = note_named (entry.Command w.core.node c) w tt a

done_named : (k : ℕ) (d : Deed) (w : Work) → NamesSo d → AreNamed w.entries → AreNamed (done k d w).entries
done_named k (Commits c) w names a = commit_named c w a
done_named k (Sends to m) w names a = turn_named to (Give m) w names a
done_named k SaysOk w names a = note_named _ w tt a
done_named k (Asks to message c) w names a =
    turn_named to (Give (1, message)) (noting (entry.Ask to message ∷ []) (turn_at c.asker SetAside w)) names
    (note_named (entry.Ask to message) (turn_at c.asker SetAside w) tt (turn_named c.asker SetAside w tt a))
done_named k (Releases asker) w names a = turn_named asker Release w tt a
done_named k (Tells to message) w names a = turn_named to (Give (1, message)) w names a
done_named k (Drops pid) w names a = note_named (entry.Dropped (end_of_node w.core k) pid) w tt a
done_named k (Orders message) w names a = absurd names
done_named k (Ends x) w names a = note_named x (record w { core = record w.core { init = None } }) names a
done_named k _ w names a = a

unless_named : (f : Work → Work) (w : Work) → (w.cut ≡ false → AreNamed (f w).entries) → AreNamed w.entries → AreNamed (unless_cut f w).entries
unless_named f w one a = by_cut (λ v. AreNamed v.entries) f w (λ e. a) one

all_done_named : (k : ℕ) (deeds : List Deed) (w : Work) → AllByRecursion NamesSo deeds → AreNamed w.entries → AreNamed (all_done k deeds w).entries
all_done_named k [] w names a = a
all_done_named k (d ∷ deeds) w names a =
    let one : AreNamed (done k d w).entries = done_named k d w names.0 a in
    unless_named (all_done k deeds) (done k d w) (λ on. all_done_named k deeds (done k d w) names.1 one) one

-- ### Turns

handles_named : (h : ℕ) (m : Message) (deeds : List Deed) (w : Work) → AllByRecursion NamesSo deeds → AreNamed w.entries
    → AreNamed (handles h m deeds w).entries
handles_named h m deeds w names a =
    let noted : Work = noting (entry.Turn (end_of_node w.core h) m.0 m.1 ∷ []) w in
    all_done_named h deeds (with_desk h (λ d. record d { holds = false }) (turn_at h FetchMessage noted)) names
    (turn_named h FetchMessage noted tt (note_named (entry.Turn (end_of_node w.core h) m.0 m.1) w tt a))

holds_named : (h : ℕ) (short : ℕ × ℕ) (w : Work) → AreNamed w.entries → AreNamed (holds_back h short w).entries
holds_named h short w a = by_test (option_map_or (λ (p : Port). p.desk.holds) (port_at w.ports h) false)
    (λ q. rw q (turn_named h (Hold true) w tt a))
    (λ q. rw q (turn_named h (Hold true) (with_desk h (λ d. record d { holds = true }) told) tt
    (note_named (entry.Held (end_of_node w.core h) short.0 short.1) w tt a))) where
      told : Work
      told = noting (entry.Held (end_of_node w.core h) short.0 short.1 ∷ []) w

lets_named : (h : ℕ) (w : Work) → AreNamed w.entries → AreNamed (lets_go h w).entries
lets_named h w a = by_test (option_map_or (λ (p : Port). is_held p.side) (port_at w.ports h) false)
    (λ q. rw q (turn_named h (Hold false) w tt a))
    (λ q. rw q a)

-- ### What deeds name

no_notice : (k : ℕ) (m : Message) → (eqb m.0 1 && is_notice m.1) ≡ false → GoesSo k m
no_notice k m off on = absurd (true≢false (sym on ∙ off))

may_name : (x : ℕ) (F : List ℕ → Type 0) (t : HciTables) (ports : List Port) (deeds : List Deed) → MayTell x F deeds
    → AllByRecursion (IsAllowedStill t ports) deeds → AllByRecursion NamesSo deeds
may_name x F t ports [] may allowed = tt
may_name x F t ports (Commits c ∷ deeds) may allowed = (tt, may_name x F t ports deeds may.1 allowed.1)
may_name x F t ports (Sends to m ∷ deeds) may allowed =
    (no_notice to m may.0, may_name x (λ n. (eqb to x ≡ false) × F n) t ports deeds may.1 allowed.1)
may_name x F t ports (SaysOk ∷ deeds) may allowed = (tt, may_name x F t ports deeds may allowed.1)
may_name x F t ports (Asks to message c ∷ deeds) may allowed = (grind arith, may_name x (λ n. ⊥) t ports deeds may.2 allowed.1)
may_name x F t ports (Releases asker ∷ deeds) may allowed = (tt, may_name x (λ n. ⊥) t ports deeds may allowed.1)
may_name x F t ports (Tells to message ∷ deeds) may allowed = (grind arith, may_name x (λ n. (eqb to x ≡ false) × F n) t ports deeds may.2 allowed.1)
may_name x F t ports (Drops pid ∷ deeds) may allowed = (tt, may_name x F t ports deeds may allowed.1)
may_name x F t ports (SetsErrors errors ∷ deeds) may allowed = (tt, may_name x F t ports deeds may allowed.1)
may_name x F t ports (_ ∷ deeds) may allowed = absurd may

no_notices_name : (deeds : List Deed) → TellNoNotices deeds → AllByRecursion NamesSo deeds
no_notices_name [] a = tt
no_notices_name (Commits c ∷ deeds) a = (tt, no_notices_name deeds a.1)
no_notices_name (Sends to m ∷ deeds) a = (no_notice to m a.0, no_notices_name deeds a.1)
no_notices_name (Releases asker ∷ deeds) a = (tt, no_notices_name deeds a.1)
no_notices_name (_ ∷ deeds) a = absurd a.0

-- ### What comes

told_named : (core : Core) (p : Port) (o : Option LinkInput) → AreNamed (told_at core p o)
told_named core p None = tt
told_named core p (Some i) = by_option (ended_by p.side i) (λ q. rw q later) (λ cause q. rw q (tt, later)) where
  rest : List Noted
  rest = told_rest (own_side core) p.session (whole_acked (after_input p.side i)) (report p.side i)

  later : AreNamed (entries_for p.desk.host rest)
  later = far_named (entries_for p.desk.host rest)
      (quiet_far p.desk.host rest (rest_quiet (own_side core) p.session (whole_acked (after_input p.side i)) (report p.side i)))

late_named : (core : Core) (p : Port) → AreNamed (told_late core p)
late_named core p = by_test (is_late p) (λ q. rw q (told_named core p (Some (Reset None)))) (λ q. rw q tt)

-- ## A controller has its turns: each notice of a creation that it sends names the host that it goes to

-- ### As the pass begins

releases_name : (cs : List Creation) → AllByRecursion NamesSo (map (λ (c : Creation). Releases c.asker) cs)
releases_name [] = tt
releases_name (c ∷ cs) = (tt, releases_name cs)

come_named : (input : NodeInput) (w : Work) → AreNamed w.entries → AreNamed (all_come input w).entries
come_named input w a =
    AllByRecursion-append IsNamed w.entries (flat_map (λ p. told_at w.core p (input_at input p)) w.ports) a
    (all_flat IsNamed (λ p. told_at w.core p (input_at input p)) (λ p. told_named w.core p (input_at input p)) w.ports)

timed_named : (input : NodeInput) (w : Work) → AreNamed w.entries → AreNamed (times_out input w).entries
timed_named (AtEnd h i) w a = a
timed_named TimePasses w a =
    AllByRecursion-append IsNamed w.entries (flat_map (told_late w.core) (map with_older w.ports)) a
    (all_flat IsNamed (told_late w.core) (late_named w.core) (map with_older w.ports))

ready_named : (input : NodeInput) (w : Work) → TellNoNotices (flat_map (synced w.core input) w.ports)
    → ((ports : List Port) → TellNoNotices (all_owed ports))
    → AreNamed w.entries → AreNamed (comes_to_pass input w).entries
ready_named input w syncs owing a =
    let came : Work = times_out input (all_come input w) in
    let begun : AreNamed (begun_by input w).entries = timed_named input (all_come input w) (come_named input w a) in
    let u : Work = all_done 0 (forgotten came.ports) (begun_by input w) in
    let freed : AreNamed u.entries = all_done_named 0 (forgotten came.ports) (begun_by input w) (releases_name _) begun in
    let v : Work = all_done 0 (flat_map (synced w.core input) w.ports) u in
    let kept : AreNamed v.entries =
    all_done_named 0 (flat_map (synced w.core input) w.ports) u (no_notices_name (flat_map (synced w.core input) w.ports) syncs) freed in
    unless_named (all_done 0 (all_owed (left_by input w))) v
    (λ on. all_done_named 0 (all_owed (left_by input w)) v (no_notices_name (all_owed (left_by input w)) (owing (left_by input w))) kept) kept

-- ### The pass

some_of : (o : Option Port) → is_some o ≡ true → (p : Port) × (o ≡ Some p)
some_of o e = grind arith

-- each of these is one of them
each_one : (hosts : List ℕ) → AllByRecursion (λ h. is_one_of hosts h ≡ true) hosts
each_one [] = tt
each_one (k ∷ hosts) = (ap (λ b. b || is_one_of hosts k) (eq-eqb k k refl), more hosts (each_one hosts)) where
  more : (hs : List ℕ) → AllByRecursion (λ h. is_one_of hosts h ≡ true) hs → AllByRecursion (λ h. is_one_of (k ∷ hosts) h ≡ true) hs
  more hs all = all_so (λ h. is_one_of hosts h ≡ true) (λ h. is_one_of (k ∷ hosts) h ≡ true) (λ h b. grind arith) hs all

module _ (hosts : List ℕ) (are : AreHosts hosts) (t : List Entry) where
  deeds_name : (h : ℕ) (m : Message) (w : Work) → RunsInStep hosts t w → IsHost h → AllByRecursion NamesSo (deeds_of w.core w.ports h m)
  deeds_name h m w a host = subst (AllByRecursion NamesSo) (sym same)
      (go (controller_outcome 0 h w.core w.ports n.sorted n.two host.0 host.1 n.right n.up m)) where
        n : Holds 0 t IsKeptNotice w
        n = to_notices hosts t w a.keeps are.all 0

        same : deeds_of w.core w.ports h m ≡ controller_deeds (view_of w.core w.ports) h m
        same = near_deeds hosts are t h m w a.keeps

        allowed : AllByRecursion (IsAllowedStill w.core.tables w.ports) (controller_deeds (view_of w.core w.ports) h m)
        allowed = subst (AllByRecursion (IsAllowedStill w.core.tables w.ports)) same (deeds_fit 0 hosts a.memory t (inl refl) w h m a.kept refl)

        go : Outcome 0 h w.ports m (controller_deeds (view_of w.core w.ports) h m) → AllByRecursion NamesSo (controller_deeds (view_of w.core w.ports) h m)
        go (Leaves none may) = may_name 0 IsShort w.core.tables w.ports (controller_deeds (view_of w.core w.ports) h m) may allowed
        go (IsHeard rest e is may) =
            let fit : AllByRecursion (IsAllowedStill w.core.tables w.ports) (IsAnswered ∷ rest) =
            subst (AllByRecursion (IsAllowedStill w.core.tables w.ports)) e allowed in
            subst (AllByRecursion NamesSo) (sym e) (tt, may_name 0 IsShort w.core.tables w.ports rest may fit.1)

  -- it keeps what is read while it has power, and its notices name hosts
  record Walked (w : Work) : Type 0 where
    pub keeps : w.cut ≡ false → RunsInStep hosts t w
    pub named : AreNamed w.entries

  unless_walked : (f : Work → Work) (w : Work) → Walked w → (RunsInStep hosts t w → AreNamed w.entries → Walked (f w)) → Walked (unless_cut f w)
  unless_walked f w a next = by_cut Walked f w (λ e. a) (λ e. next (a.keeps e) a.named)

  turns_walked : (h : ℕ) → IsHost h → is_one_of hosts h ≡ true → (messages : List Message) (w : Work) → RunsInStep hosts t w → AreNamed w.entries
      → Walked (have_turns h messages w)
  turns_walked h host one [] w a named = record { keeps = λ on. runs_lets hosts are t h w a; named = lets_named h w named }
  turns_walked h host one (m ∷ messages) w a named = by_option (lack w.ports (needs h deeds))
      (λ e. rw e (unless_walked (have_turns h messages) (handles h m deeds w) (record {
        keeps = λ on. runs_handled hosts are t h m end.0 w a end.1 e on;
        named = handles_named h m deeds w (deeds_name h m w a host) named;
      }) (λ b n. turns_walked h host one messages (handles h m deeds w) b n)))
      (λ short e. rw e (record { keeps = λ on. runs_holds hosts are t h short w a; named = holds_named h short w named })) where
        deeds : List Deed
        deeds = deeds_of w.core w.ports h m

        end : (p : Port) × (port_at w.ports h ≡ Some p)
        end = some_of (port_at w.ports h) (there_is hosts are t w a.keeps h ∙ one)

  ends_walked : (hs : List ℕ) → AllByRecursion IsHost hs → AllByRecursion (λ h. is_one_of hosts h ≡ true) hs → (w : Work) → RunsInStep hosts t w
      → AreNamed w.entries → Walked (goes_through_ends hs w)
  ends_walked [] all ones w a named = record { keeps = λ on. a; named = named }
  ends_walked (h ∷ hs) all ones w a named =
      let messages : List Message = option_map_or (λ (p : Port). p.side.got) (port_at w.ports h) [] in
      unless_walked (goes_through_ends hs) (have_turns h messages w) (turns_walked h all.0 ones.0 messages w a named)
      (λ b n. ends_walked hs all.1 ones.1 (have_turns h messages w) b n)

  passes_walked : (w : Work) → RunsInStep hosts t w → AreNamed w.entries → Walked (passes w)
  passes_walked w a named =
      ends_walked (hosts_of_ends w.ports) (subst (AllByRecursion IsHost) (sym a.keeps.hosts_are) are.all)
      (subst (AllByRecursion (λ h. is_one_of hosts h ≡ true)) (sym a.keeps.hosts_are) (each_one hosts)) w a named

-- ## A controller of a world has a step: as its pass over the ends begins, it keeps what is read

-- A step of a controller begins, which keeps what is read: none of its sessions has ended in it, and its ends are Down unless they are active.
pub record IsBegun (hosts : List ℕ) (t : List Entry) (input : NodeInput) (w : Work) : Type 0 where
  pub keeps : KeepsInStep hosts t w
  pub fresh : AllByRecursion IsFresh w.ports
  pub shut : AllByRecursion (λ (p : Port). IsShut p.side) w.ports
  pub outside : IsOutside input

module _ (hosts : List ℕ) (are : AreHosts hosts) (t : List Entry) (w : NodeWorld) (k : KeepsBetween hosts t w) (r : Running)
    (runs : w.controller ≡ Some r) where
  sites_are : hosts_in w.sites ≡ hosts
  sites_are = k.creations.kept.hosts_are

  different : AreDifferent (hosts_in w.sites)
  different = k.creations.notices.orderly.different

  has : HasEnds 0 (hosts_in w.sites) r
  has = subst (IfItRuns 0 (hosts_in w.sites)) runs k.creations.notices.orderly.controller

  ups : IfNoticedUp w.sites (Some r)
  ups = subst (IfNoticedUp w.sites) runs k.creations.notices.up

  kept : RunsSo 0 hosts w.memory.content t r
  kept = let so : IfRuns 0 hosts w.memory.content t (Some r) = subst (IfRuns 0 hosts w.memory.content t) runs k.creations.kept.controller.runs in so

  rows : AreProper r.core.tables.rows
  rows = subst (λ (z : HciTables). AreProper z.rows) (sym kept.tables_are) k.creations.book.tables

  shut_at : (n : ℕ) → IsShut (link_to w.sites n).controller.side
  shut_at n = link_shut w.sites n k.creations.notices.sites

  single : (h : ℕ) → (end_c h).at_host ≡ true → hosts ≡ h ∷ []
  single h far = absurd (true≢false (sym far))

  real : (h : ℕ) → (end_c h).at_host ≡ true → eqb h 0 ≡ false
  real h far = absurd (true≢false (sym far))

  -- behind what was noted in the event before the step
  module _ (old : List Entry) (plain : AllByRecursion IsPlain old) (far : AreFar old) (still : (h : ℕ) → AllByRecursion (IsStill (end_c h)) old)
      (near_ends : ℕ → NumberedEnd) (same : (n : ℕ) → (near_ends n).side ≡ (link_to w.sites n).controller.side) (es : List Entry) where
    abbrev before : List Entry
    before = t ++ old

    abbrev begun : Work
    begun = work_of r w.memory.plan near_ends es

    kept_old : RunsSo 0 hosts w.memory.content before r
    kept_old =
        let keeps = keeps_same 0 hosts t before w.memory w.controller (plain_same 0 t old plain) k.creations.kept.controller in
        let so : IfRuns 0 hosts w.memory.content before (Some r) = subst (IfRuns 0 hosts w.memory.content before) runs keeps.runs in so

    notices_old : ControllerReads before r
    notices_old =
        let so : IfReads before (Some r) = still_reads t old (Some r) (far_hushed old far) (subst (IfReads t) runs k.creations.notices.controller) in so

    creations_old : Reads before w
    creations_old = record {
      book = far_book t old far k.creations.book;
      due = k.creations.due;
      read = λ x. subst (λ m. IsReadSo m (creations_of w.controller x)) (sym (far_reading x t old far)) (k.creations.read x);
      ends = k.creations.ends;
    }

    errors_old : (h : ℕ) → IsHost h → IsRead (errors_before before h) (errors_before t h).errors × ((errors_before before h).book ≡ book_in t 0)
    errors_old h host =
        let e = k.errors r runs h host in
        let now = still_all (end_c h) old (errors_before t h) (errors_before t h).errors (still h) (record { sets = e.settled; is = refl }) in
        let on : errors_before before h ≡ reads (end_c h) old (errors_before t h) = reads_append (end_c h) t old no_errors in (
          subst (λ x. IsRead x (errors_before t h).errors) (sym on) now.0,
          ap (λ (x : ErrorCount). x.book) on ∙ (now.1 ∙ book_reads (end_c h) t no_errors),
        )

    errors_kept : (h : ℕ) → IsHost h → KeepsErrors (end_c h) r (errors_before before h)
    errors_kept h host =
        let now = errors_old h host in
        let e = k.errors r runs h host in
        record {
          sets = now.0.sets;
          desks = subst (λ n. AllByRecursion (λ (d : Desk). eqb d.host h ≡ true → d.errors ≡ n) r.desks) (sym now.0.is) e.at_desks;
        }

    module _ (es_plain : AllByRecursion IsPlain es) (quiet : AreFar es) (es_still : (h : ℕ) → AllByRecursion (IsStill (end_c h)) es) (input : NodeInput)
        (outside : IsOutside input) where
      fresh : AllByRecursion IsFresh begun.ports
      fresh = all_ports IsFresh near_ends (λ d. (refl, refl)) r.desks

      shut : AllByRecursion (λ (p : Port). IsShut p.side) begun.ports
      shut = all_ports (λ (p : Port). IsShut p.side) near_ends (λ d. subst IsShut (sym (same d.host)) (shut_at d.host)) r.desks

      all_hosts : AllByRecursion IsHost (hosts_in w.sites)
      all_hosts = subst (AllByRecursion IsHost) (sym sites_are) are.all

      noticed : (x : ℕ) → Stands x before (comes_to_pass input begun)
      noticed x =
          notices_ready x before begun
          (begins_noticed before w r has different ups k.creations.notices.sites notices_old w.memory.plan near_ends same es quiet input outside x) input
          outside
          (subst AreDifferent (sym (hosts_same near_ends r.desks ∙ has.ends)) different) fresh shut

      made : (x : ℕ) → Fine x before hosts (comes_to_pass input begun)
      made x =
          subst (λ hs. Fine x before hs (comes_to_pass input begun)) sites_are
          (creations_ready x before (hosts_in w.sites) all_hosts different (asked_of begun.ports) begun
          (begins_made before w r runs has different all_hosts ups shut_at rows creations_old w.memory.plan near_ends same es quiet x) fresh input outside
          (up_at before w r runs has different all_hosts ups shut_at rows creations_old w.memory.plan near_ends same es quiet input outside x) shut)

      errors : (h : ℕ) → IsHost h → Right (end_c h) hosts (errors_before before h) (comes_to_pass input begun)
      errors h host =
          errors_ready (end_c h) hosts (errors_before before h) (single h) input begun
          (begun_right (end_c h) (real h) hosts (single h) (errors_before before h) r w.memory.plan near_ends es
          (subst (λ hs. HasEnds 0 hs r) sites_are has) (es_still h)
          (λ near. kept.tables_are ∙ sym (ap (λ (b : Book). b.tables) (errors_old h host).1)) (errors_kept h host))

      -- so it is as the step begins
      begun_so : IsBegun hosts before input begun
      begun_so = record {
        keeps = from_parts hosts before begun refl
            (λ x. begins_noticed before w r has different ups k.creations.notices.sites notices_old w.memory.plan near_ends same es quiet input outside x)
            (λ x. record {
              asked = asked_of begun.ports;
              good = subst (λ hs. Good x before hs (asked_of begun.ports) [] begun) sites_are
                  (begins_made before w r runs has different all_hosts ups shut_at rows creations_old w.memory.plan near_ends same es quiet x);
            })
            (λ h host. begun_right (end_c h) (real h) hosts (single h) (errors_before before h) r w.memory.plan near_ends es
            (subst (λ hs. HasEnds 0 hs r) sites_are has) (es_still h)
            (λ near. kept.tables_are ∙ sym (ap (λ (b : Book). b.tables) (errors_old h host).1)) (errors_kept h host));
        fresh = fresh;
        shut = shut;
        outside = outside;
      }

      step_begins : (comes_to_pass input begun).cut ≡ false → KeepsInStep hosts before (comes_to_pass input begun)
      step_begins on = from_parts hosts before (comes_to_pass input begun) on (λ x. by_notice x (noticed x)) (λ x. by_creation x (made x)) errors where
        by_notice : (x : ℕ) → Stands x before (comes_to_pass input begun) → Holds x before IsKeptNotice (comes_to_pass input begun)
        by_notice x a = grind arith

        by_creation : (x : ℕ) → Fine x before hosts (comes_to_pass input begun) → Still x before hosts (comes_to_pass input begun)
        by_creation x a = grind arith

      runs_begin : (comes_to_pass input begun).cut ≡ false → RunsInStep hosts before (comes_to_pass input begun)
      runs_begin on =
          with_kept hosts are before w.memory (comes_to_pass input begun) (step_begins on)
          (ready_fine 0 hosts w.memory before (inl refl) are input begun (runs_begun 0 hosts before w.memory r near_ends es es_plain kept_old) kept_old.on)

      noticed_first : Holds 0 before IsKeptNotice begun
      noticed_first = begins_noticed before w r has different ups k.creations.notices.sites notices_old w.memory.plan near_ends same es quiet input outside 0

      -- its notices name hosts
      pass_named : AreNamed (comes_to_pass input begun).entries
      pass_named =
          ready_named input begun
          (no_notices_flat (synced begun.core input) (λ (p : Port). IsHost p.desk.host) (λ p host. synced_no_notices begun.core input p host)
          begun.ports noticed_first.hosts) (λ ports. owed_all 0 before begun noticed_first ports) (far_named es quiet)

      step_named : AreNamed (steps input begun).entries
      step_named = unless_named passes (comes_to_pass input begun)
          (λ on. (passes_walked hosts are before (comes_to_pass input begun) (runs_begin on) pass_named).named) pass_named

  -- ### The steps of a world

  comes_begins : (h : ℕ) (comes : Comes) (i : LinkInput) → input_of (link_to w.sites h) comes ≡ Some i
      → (comes_to_pass (AtEnd h i) (controller_begins w r h comes)).cut ≡ false → RunsInStep hosts t (comes_to_pass (AtEnd h i) (controller_begins w r h comes))
  comes_begins h comes i input on =
      subst (λ l. RunsInStep hosts l (comes_to_pass (AtEnd h i) (controller_begins w r h comes))) (append-nil t)
      (runs_begin [] tt tt (λ n. tt) (λ n. near_end_in (link_to w.sites n) (comes_to h comes n)) (λ n. near_end_side (link_to w.sites n) (comes_to h comes n))
      (entries_for h (arrival Controller (link_to w.sites h) comes)) (plain_entries h (arrival Controller (link_to w.sites h) comes))
      (arrival_quiet Controller h (link_to w.sites h) comes) (λ n. arrival_still (end_c n) Controller h (link_to w.sites h) comes) (AtEnd h i)
      (comes_outside (link_to w.sites h) comes i input) on)

  pub comes_starts : (h : ℕ) (comes : Comes) (i : LinkInput) → input_of (link_to w.sites h) comes ≡ Some i
      → IsBegun hosts t (AtEnd h i) (controller_begins w r h comes)
  comes_starts h comes i input =
      subst (λ l. IsBegun hosts l (AtEnd h i) (controller_begins w r h comes)) (append-nil t)
      (begun_so [] tt tt (λ n. tt) (λ n. near_end_in (link_to w.sites n) (comes_to h comes n)) (λ n. near_end_side (link_to w.sites n) (comes_to h comes n))
      (entries_for h (arrival Controller (link_to w.sites h) comes)) (plain_entries h (arrival Controller (link_to w.sites h) comes))
      (arrival_quiet Controller h (link_to w.sites h) comes) (λ n. arrival_still (end_c n) Controller h (link_to w.sites h) comes) (AtEnd h i)
      (comes_outside (link_to w.sites h) comes i input))

  aged_plain : AllByRecursion IsPlain (all_aged w).1
  aged_plain = plain_flat (λ (s : Site). entries_for s.host (aged_entries Controller s.link.to_controller ++ aged_entries Host s.link.to_host))
      (λ s. plain_entries s.host (aged_entries Controller s.link.to_controller ++ aged_entries Host s.link.to_host)) w.sites

  reads_so : NoticeReads t w
  reads_so = record { sites = k.creations.notices.sites; reads_so = k.creations.notices.controller }

  pub tick_starts : IsBegun hosts (t ++ (all_aged w).1) TimePasses (as_it_ticks w r)
  tick_starts =
      begun_so (all_aged w).1 aged_plain (aged_far t w k.creations.notices.orderly k.creations.notices.up reads_so)
      (λ n. aged_entries_still (end_c n) (real n) w) (λ n. (link_to (all_aged w).0.sites n).controller)
      (aged_side t w k.creations.notices.orderly k.creations.notices.up reads_so w.sites) [] tt tt (λ n. tt) TimePasses tt

  tick_begins : (comes_to_pass TimePasses (as_it_ticks w r)).cut ≡ false
      → RunsInStep hosts (t ++ (all_aged w).1) (comes_to_pass TimePasses (as_it_ticks w r))
  tick_begins on =
      runs_begin (all_aged w).1 aged_plain (aged_far t w k.creations.notices.orderly k.creations.notices.up reads_so)
      (λ n. aged_entries_still (end_c n) (real n) w) (λ n. (link_to (all_aged w).0.sites n).controller)
      (aged_side t w k.creations.notices.orderly k.creations.notices.up reads_so w.sites) [] tt tt (λ n. tt) TimePasses tt on

  comes_pass_named : (h : ℕ) (comes : Comes) (i : LinkInput) → input_of (link_to w.sites h) comes ≡ Some i
      → AreNamed (comes_to_pass (AtEnd h i) (controller_begins w r h comes)).entries
  comes_pass_named h comes i input =
      pass_named [] tt tt (λ n. tt) (λ n. near_end_in (link_to w.sites n) (comes_to h comes n)) (λ n. near_end_side (link_to w.sites n) (comes_to h comes n))
      (entries_for h (arrival Controller (link_to w.sites h) comes)) (plain_entries h (arrival Controller (link_to w.sites h) comes))
      (arrival_quiet Controller h (link_to w.sites h) comes) (λ n. arrival_still (end_c n) Controller h (link_to w.sites h) comes) (AtEnd h i)
      (comes_outside (link_to w.sites h) comes i input)

  tick_pass_named : AreNamed (comes_to_pass TimePasses (as_it_ticks w r)).entries
  tick_pass_named =
      pass_named [] tt tt (λ n. tt) (λ n. (link_to (all_aged w).0.sites n).controller)
      (aged_side t w k.creations.notices.orderly k.creations.notices.up
      (record { sites = k.creations.notices.sites; reads_so = k.creations.notices.controller }) w.sites) [] tt tt (λ n. tt) TimePasses tt

  comes_named : (h : ℕ) (comes : Comes) (i : LinkInput) → input_of (link_to w.sites h) comes ≡ Some i
      → AreNamed (steps (AtEnd h i) (controller_begins w r h comes)).entries
  comes_named h comes i input =
      step_named [] tt tt (λ n. tt) (λ n. near_end_in (link_to w.sites n) (comes_to h comes n)) (λ n. near_end_side (link_to w.sites n) (comes_to h comes n))
      (entries_for h (arrival Controller (link_to w.sites h) comes)) (plain_entries h (arrival Controller (link_to w.sites h) comes))
      (arrival_quiet Controller h (link_to w.sites h) comes) (λ n. arrival_still (end_c n) Controller h (link_to w.sites h) comes) (AtEnd h i)
      (comes_outside (link_to w.sites h) comes i input)

  tick_named : AreNamed (steps TimePasses (as_it_ticks w r)).entries
  tick_named =
      step_named [] tt tt (λ n. tt) (λ n. (link_to (all_aged w).0.sites n).controller)
      (aged_side t w k.creations.notices.orderly k.creations.notices.up
      (record { sites = k.creations.notices.sites; reads_so = k.creations.notices.controller }) w.sites) [] tt tt (λ n. tt) TimePasses tt

-- ## Whatever happens to a world, each notice of a creation that the controller sends names the host that it goes to

boots_named : (w : NodeWorld) (n : ℕ) → AreNamed (boots w n).1
boots_named w n = grind arith

module _ (hosts : List ℕ) (are : AreHosts hosts) (t : List Entry) (w : NodeWorld) (k : KeepsBetween hosts t w) where
  good : AreGood w.sites
  good = k.creations.notices.sites

  reads_so_of_events : NoticeReads t w
  reads_so_of_events = record { sites = k.creations.notices.sites; reads_so = k.creations.notices.controller }

  -- ### Something comes

  near_named : (h : ℕ) (comes : Comes) (i : LinkInput) → input_of (link_to w.sites h) comes ≡ Some i
      → AreNamed (controller_does w h comes (steps (AtEnd h i))).1
  near_named h comes i input =
      by_controller (λ p. AreNamed p.1) w h comes (steps (AtEnd h i)) tt
      (λ r e.
      let c : Work = controller_work w r h comes (steps (AtEnd h i)) in
      let frames : List Entry = flat_map (λ (s : Site). frames_noted Controller s.host (wires_for s.link (comes_to h comes s.host)) c) w.sites in
      AllByRecursion-append IsNamed c.entries frames (comes_named hosts are t w k r e h comes i input)
      (far_named frames (far_flat (λ (s : Site). frames_noted Controller s.host (wires_for s.link (comes_to h comes s.host)) c)
      (λ s. frames_quiet Controller s.host (wires_for s.link (comes_to h comes s.host)) c) w.sites)))

  comes_named_at : (e : End) (comes : Comes) → AreNamed (comes_at w e comes).1
  comes_named_at e comes = by_test e.at_host
      (λ b. far_named (comes_at w e comes).1 (far_beside w e comes good b).far)
      (λ b. by_coming (λ p. AreNamed p.1) w e comes tt (λ i far q. absurd (true≢false (sym far ∙ b))) (λ i near q. near_named e.link comes i q))

  activates_named : (h sync power : ℕ) → AreNamed (activates w h sync power).1
  activates_named h sync power =
      let near : NodeWorld × List Entry = comes_at w (end_c h) (Starts power) in
      let far : NodeWorld × List Entry = comes_at near.0 (end_h h) (Starts sync) in
      let after : NoticeReads (t ++ near.1) near.0 = comes_reads t w k.creations.notices.orderly k.creations.notices.up reads_so_of_events (end_c h)
      (Starts power) in
      AllByRecursion-append IsNamed near.1 far.1 (comes_named_at (end_c h) (Starts power))
      (far_named far.1 (far_beside near.0 (end_h h) (Starts sync) after.sites refl).far)

  -- ### Time

  near_tick_named : AreNamed (controller_ticks (all_aged w).0).1
  near_tick_named =
      by_controller_tick (λ p. AreNamed p.1) old (λ e. tt)
      (λ r e.
      let c : Work = near_tick old r in
      let frames : List Entry = flat_map (λ (s : Site). frames_noted Controller s.host s.link c) old.sites in
      AllByRecursion-append IsNamed c.entries frames (tick_named hosts are t w k r e)
      (far_named frames (far_flat (λ (s : Site). frames_noted Controller s.host s.link c) (λ s. frames_quiet Controller s.host s.link c) old.sites))) where
        old : NodeWorld
        old = (all_aged w).0

  ticks_named : AreNamed (world_step w Ticks).1
  ticks_named =
      let old : NodeWorld × List Entry = all_aged w in
      let near : NodeWorld × List Entry = controller_ticks old.0 in
      let far : List Site × List Entry = hosts_tick near.0.sites in
      AllByRecursion-append IsNamed old.1 (near.1 ++ far.1)
      (far_named old.1 (aged_far t w k.creations.notices.orderly k.creations.notices.up reads_so_of_events))
      (AllByRecursion-append IsNamed near.1 far.1 near_tick_named (far_named far.1 (all_tick near.0.sites (near_good old.0 (aged_good w good))).1))

  -- ### Events

  event_named : (c : Happening) → AreNamed (world_step w c).1
  event_named (Boots n) = boots_named w n
  event_named (IsCut n) = (tt, tt)
  event_named (Gives e m) = far_named (world_step w (Gives e m)).1 (begins_beside w e.link (sending e.link m) good (sending_own e.link m)).far
  event_named (Inits e identity pipes) =
      far_named (world_step w (Inits e identity pipes)).1 (begins_beside w e.link (beginning identity pipes) good (beginning_own identity pipes)).far
  event_named (Takes e) = comes_named_at e NextFrame
  event_named (Loses e why) = far_named (world_step w (Loses e why)).1 (lost_beside w e why).far
  event_named Ticks = ticks_named
  event_named (Resets e window) = comes_named_at e (AsksReset window)
  event_named (Activates h sync power) = activates_named h sync power
  event_named (Arms n plan) = tt

-- ### Histories

history_named : (header : Header) (lines : List Line) (t : NodeHistory) → FollowsNodes header lines t → AreHosts header.hosts.items
    → AllByRecursion IsSentByHost lines → IsFew (node_entries t) → (front back : List Occurrence) → occurrences_in t ≡ front ++ back
    → AreNamed (entries_in front)
history_named header lines t follows are sent few front back parts =
    let hosts : List ℕ = header.hosts.items in
    fronts_last (λ u w. AreNamed u) (KeepsBetween hosts)
    (λ u w c named keeps. AllByRecursion-append IsNamed u (world_step w c).1 named (event_named hosts are u w keeps c)) (new_world hosts) (occurrences_in t)
    (history_keeps_between header lines t follows are sent few) [] front back parts
    (subst (AreCaused Any (new_world hosts)) parts (history_caused header lines t follows)) tt

-- ## What a controller keeps is what is read, and its notices name hosts: as a pass begins, and over each turn

pub history_reads : (header : Header) (lines : List Line) (t : NodeHistory) → FollowsNodes header lines t → AreHosts header.hosts.items
    → AllByRecursion IsSentByHost lines → IsFew (node_entries t) → (front back : List Occurrence) → occurrences_in t ≡ front ++ back
    → ReadsBetween header.hosts.items (entries_in front) (world_behind (new_world header.hosts.items) front)
history_reads header lines t follows are sent few front back parts = record {
  keeps = history_keeps_between header lines t follows are sent few front back parts;
  named = history_named header lines t follows are sent few front back parts;
}

-- those of the step are, where all until there are
split_named : (xs ys : List Entry) → AreNamed (xs ++ ys) → AreNamed xs × AreNamed ys
split_named [] ys a = (tt, a)
split_named (x ∷ xs) ys a = let rest = split_named xs ys a.1 in ((a.0, rest.0), rest.1)

module _ (hosts : List ℕ) (are : AreHosts hosts) (t : List Entry) where
  module _ (w : NodeWorld) (k : ReadsBetween hosts t w) (r : Running) (runs : w.controller ≡ Some r) where
    pub comes_reads_of_reading : (h : ℕ) (comes : Comes) (i : LinkInput) → input_of (link_to w.sites h) comes ≡ Some i
        → (comes_to_pass (AtEnd h i) (controller_begins w r h comes)).cut ≡ false
        → ReadsInStep hosts t (comes_to_pass (AtEnd h i) (controller_begins w r h comes))
    comes_reads_of_reading h comes i input on = record {
      runs = comes_begins hosts are t w k.keeps r runs h comes i input on;
      named = AllByRecursion-append IsNamed t (comes_to_pass (AtEnd h i) (controller_begins w r h comes)).entries k.named
          (comes_pass_named hosts are t w k.keeps r runs h comes i input);
    }

    pub tick_reads : (comes_to_pass TimePasses (as_it_ticks w r)).cut ≡ false
        → ReadsInStep hosts (t ++ (all_aged w).1) (comes_to_pass TimePasses (as_it_ticks w r))
    tick_reads on = record {
      runs = tick_begins hosts are t w k.keeps r runs on;
      named = AllByRecursion-append IsNamed (t ++ (all_aged w).1) (comes_to_pass TimePasses (as_it_ticks w r)).entries
          (AllByRecursion-append IsNamed t (all_aged w).1 k.named (far_named (all_aged w).1
          (aged_far t w k.keeps.creations.notices.orderly k.keeps.creations.notices.up
          (record { sites = k.keeps.creations.notices.sites; reads_so = k.keeps.creations.notices.controller }))))
          (tick_pass_named hosts are t w k.keeps r runs);
    }

  abbrev J : Work → Type 0
  J w = ReadsInStep hosts t w

  pub handles_reads : (h : ℕ) (m : Message) (rest : List Message) (w : Work) → J w
      → option_map_or (λ (p : Port). p.side.got) (port_at w.ports h) [] ≡ m ∷ rest
      → lack w.ports (needs h (deeds_of w.core w.ports h m)) ≡ None → (handles h m (deeds_of w.core w.ports h m) w).cut ≡ false
      → J (handles h m (deeds_of w.core w.ports h m) w)
  handles_reads h m rest w a got room on =
      let found = got_end (port_at w.ports h) m rest got in
      let host : IsHost h = found_end IsHost w.ports h found.0 found.1 (subst (AllByRecursion IsHost) (sym a.runs.keeps.hosts_are) are.all) in
      let parts = split_named t w.entries a.named in
      record {
        runs = runs_handled hosts are t h m found.0 w a.runs found.1 room on;
        named = AllByRecursion-append IsNamed t (handles h m (deeds_of w.core w.ports h m) w).entries parts.0
            (handles_named h m (deeds_of w.core w.ports h m) w (deeds_name hosts are t h m w a.runs host) parts.1);
      }

  pub holds_reads : (h : ℕ) (short : ℕ × ℕ) (w : Work) → J w → J (holds_back h short w)
  holds_reads h short w a =
      let parts = split_named t w.entries a.named in
      record {
        runs = runs_holds hosts are t h short w a.runs;
        named = AllByRecursion-append IsNamed t (holds_back h short w).entries parts.0
            (holds_named h short w parts.1);
      }

  pub lets_reads : (h : ℕ) (w : Work) → J w → J (lets_go h w)
  lets_reads h w a =
      let parts = split_named t w.entries a.named in
      record { runs = runs_lets hosts are t h w a.runs; named = AllByRecursion-append IsNamed t (lets_go h w).entries parts.0 (lets_named h w parts.1) }
