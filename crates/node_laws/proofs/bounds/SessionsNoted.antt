-- What a node notes in a step is paid for, and the numbers of sessions that are noted are no greater than how many RSETs were made.
use Rattle.node_laws.proofs.Words.{Activate, AllByRecursion, AreHosts, ArePlayable, AsksReset, AtController, AtEnd, AtHost, Bool, Comes, Control, Controller}
use Rattle.node_laws.proofs.Words.{Core, Creation, CutOff, Deed, EndEvent, Ending, Entry, FetchMessage, FollowsNodes, GoesOut, HasTick, Header, Hold, Host}
use Rattle.node_laws.proofs.Words.{IsLine, IsLinkTold, IsStart, Line, Link, LinkEnd, LinkEvent, LinkInput, List, Lose, Message, NextFrame, NoInput, Node}
use Rattle.node_laws.proofs.Words.{NodeHistory, NodeInput, None, NumberedEnd, Occurrence, OnWire, Option, Port, Releases, Reset, Site, Some, Start, Starts}
use Rattle.node_laws.proofs.Words.{Step, Stop, Stops, Take, TicksWithout, TimePasses, Turn, Work, [], after_input, after_link_events, after_sessions}
use Rattle.node_laws.proofs.Words.{after_turn, aged, aged_entries, all_at_controller, all_come, all_done, all_owed, ap, arith, asked_at, begins_with, by_list}
use Rattle.node_laws.proofs.Words.{by_option, by_test, comes_to_pass, cond, cond_both, controller_deeds, deactivated, deeds_of, end_of_node, end_view, ended_by}
use Rattle.node_laws.proofs.Words.{ending_entries, entries, entries_for, entries_in, entries_of_events, entry_of, eqb, event_entries, event_of, exchanged}
use Rattle.node_laws.proofs.Words.{false, far, filter, filter_map, finished, flat_map, forgets, forgotten, frames_out, goes_through_ends, handles, happens}
use Rattle.node_laws.proofs.Words.{happens_at_controller, has_come, has_input, has_restarted, has_taken, have_turns, here_entries, host_deeds, input_at}
use Rattle.node_laws.proofs.Words.{input_entries, is_late, is_over, is_over_at, is_rset, is_some, is_up, lack, left_after, length-map, link_after_all, map}
use Rattle.node_laws.proofs.Words.{nat_lt, needs, new_line, new_world, not, noting, number_of, occurrences_in, of_link, option_map, option_map_or, owed}
use Rattle.node_laws.proofs.Words.{own_side, own_view, passes, port_at, put, put_all, put_entries, puts_entries, refl, report, reset_late, rest_entries}
use Rattle.node_laws.proofs.Words.{restart_entries, silent, site_at, started, step_entries, steps, steps_at_controller, subst, sym, synced, taken_entries}
use Rattle.node_laws.proofs.Words.{tick_entries, ticks_at_controller, times_out, told, told_at, told_late, told_of, took_with, true, turn, turn_at}
use Rattle.node_laws.proofs.Words.{turn_entries, turn_entry, turned, unless_cut, view_of, whole_acked, with_desk, with_ended, with_older, without_notice}
use Rattle.node_laws.proofs.Words.{world_behind, ℕ, ◌++◌, ◌+◌, ◌==◌, ◌∙◌, ◌∷◌, ◌≡◌, ◌≤◌}
use Rattle.history.proofs.RsetsInBareWorlds.{numbers_in_bare}
use Rattle.history.proofs.legal.Sessions.{IsRun, is_run, link_events, run_entries}
use Rattle.history.specs.BareRsets.{rsets_by_all_bare}
use Rattle.history.specs.Follows.{Follows, host_of}
use Rattle.history.specs.Histories.{Cause, History, all_entries, all_events, causes_of}
use Rattle.history.specs.Steps.{bare_link, link_after}
use Rattle.link_laws.proofs.messages.RsetNumbers.{aged_numbered, all_numbered, event_numbered, exchanged_numbered, here_numbered, number_low, start_numbered}
use Rattle.link_laws.proofs.messages.RsetNumbers.{steps_numbered, tick_numbered}
use Rattle.link_laws.specs.entries.Entries.{End, End as Side, Entry as LinkEntry, trace}
use Rattle.link_laws.specs.messages.Links.IsStart.{IsBare}
use Rattle.link_laws.specs.messages.Links.LinkEvent.{Ticks}
use Rattle.link_laws.specs.messages.Rsets.{HasLowNumbers, NumbersWithin}
use Rattle.registry.proofs.ValueLemmas.{AllByRecursion-append as each_append, AllByRecursion-filter as each_filter}
use Rattle.trace_model.specs.Lines.{IsLineOf}
use Rattle.node_laws.specs.bounds.Resets.{AreNotedWithin, AreSessionsWithin, NotedWithin, SessionWithin}
use Rattle.node_laws.specs.rsets.Causes.{NumbersWithinOnEach, happened_in, rsets_by_all}
use Rattle.node_laws.proofs.bounds.Turns.{Owes, all_owe, controller_pays, core_holds, costs, costs-append, ended, holds_at, host_pays, is_host_side, kept, less}
use Rattle.node_laws.proofs.bounds.Turns.{map_less, message_cost, noted, notice_holds, ported, stays_at, told_free, turned as turned_of_deeds, weights}
use Rattle.node_laws.proofs.bounds.Turns.{weights-append, with_less}
use Rattle.node_laws.proofs.bounds.Syncs.{sync_told}
use Rattle.node_laws.proofs.order.Lines.{history_so}
use Rattle.node_laws.proofs.rsets.InWorlds.{numbers_behind}
use Rattle.node_laws.proofs.steps.StepWalks.{got_at, holds_of_step_walks as holds, lets, sessions_node, unless}
use Rattle.node_laws.proofs.telling.Shapes.{told_all}
use Rattle.gate_answers.specs.declared.response.Response.TheVariants as response
use Rattle.trace_model.specs.declared.entry.Entry.TheVariants as entry

-- ## What a node notes in a step is paid for by the messages that have their turns, and by what it kept

-- ### Turns

module _ (side : Side) (all : ℕ) where
  -- what a message pays at an end of this side
  abbrev turn_pay : Message → ℕ
  turn_pay m = message_cost (not (is_host_side side)) m.0 m.1

  pub marked : (left h : ℕ) (flag : Bool) (w : Work) → Owes side left all w → Owes side left all (with_desk h (λ d. record d { holds = flag }) w)
  marked left h flag w a =
      let f : Port → Port = λ p. record p { desk = record p.desk { holds = flag } } in
      ended side all left left h f w (omega (arith, with_less h f (λ p. omega arith) w.ports)) a

  pub held : (h : ℕ) (flag : Bool) (w : Work) → Owes side 0 all w → Owes side 0 all (turn_at h (Hold flag) w)
  held h flag w a = turned_of_deeds side all 0 h (Hold flag) w (λ m is. cc is) a

module _ (side : Side) (all : ℕ) (core : Core) (ports : List Port) (h : ℕ) (m : Message) (v : Work) (side_is : own_side core ≡ side) (core_is : v.core ≡ core)
    (same : holds_at h v.ports ≡ holds_at h ports) (a : Owes side (turn_pay side all m) all v) where
  deeds_pay : Owes side 0 all (all_done h (deeds_of core ports h m) v)
  deeds_pay = by_test (eqb core.node 0)
      (λ q. rw q (subst (λ s. Goal s true) (sym (ap (λ c. cond c Controller Host) q) ∙ side_is) (controller_pays all core ports h m v same) a))
      (λ q. rw q (subst (λ s. Goal s false) (sym (ap (λ c. cond c Controller Host) q) ∙ side_is) (far (port_at ports h)) a)) where
        by : Bool → List Deed
        by true = controller_deeds (view_of core ports) h m
        by false = option_map_or (λ e. host_deeds (own_view core) e m) (option_map end_view (port_at ports h)) []

        Goal : Side → Bool → Type 0
        Goal s b = Owes s (turn_pay s all m) all v → Owes s 0 all (all_done h (by b) v)

        far : (o : Option Port) → Owes Host (message_cost false m.0 m.1) all v
            → Owes Host 0 all (all_done h (option_map_or (λ e. host_deeds (own_view core) e m) (option_map end_view o) []) v)
        far None b = less Host all (message_cost false m.0 m.1) 0 v (omega arith) b
        far (Some p) b = host_pays all core h m p v core_is b

module _ (side : Side) (all : ℕ) where
  pub handled : (h : ℕ) (m : Message) (w : Work) → Owes side 0 all w → Owes side 0 all (handles h m (deeds_of w.core w.ports h m) w)
  handled h m w a =
      let es : List Entry = entry.Turn (end_of_node w.core h) m.0 m.1 ∷ [] in
      let pays_it : message_cost (not (end_of_node w.core h).at_host) m.0 m.1 ≡ turn_pay side all m = grind arith in
      let told : Owes side (turn_pay side all m) all (noting es w) = noted side all (turn_pay side all m) 0 es w (omega (arith, pays_it)) a in
      let fetched : Work = turn_at h FetchMessage (noting es w) in
      let f : Port → Port = λ p. record p { desk = record p.desk { holds = false } } in
      deeds_pay side all w.core w.ports h m (with_desk h (λ d. record d { holds = false }) fetched) a.side_is refl
      (stays_at h f (λ p. refl) (λ p. refl) fetched.ports ∙ stays_at h (after_turn FetchMessage) (λ p. refl) (λ p. refl) w.ports)
      (marked side all (turn_pay side all m) h false fetched (turned_of_deeds side all (turn_pay side all m) h FetchMessage (noting es w) (λ m is. cc is) told))

  having : (h : ℕ) (messages : List Message) (w : Work) → Owes side 0 all w → Owes side 0 all (have_turns h messages w)
  having h [] w a = lets (Owes side 0 all) (held side all) h w a
  having h (m ∷ messages) w a = by_option (lack w.ports (needs h deeds))
      (λ q. rw q (unless (Owes side 0 all) (have_turns h messages) (handles h m deeds w) (λ v b. having h messages v b) (handled h m w a)))
      (λ short q. rw q (holds (Owes side 0 all) (held side all) (λ k flag v b. marked side all 0 k flag v b)
      (λ k need spare v b. noted side all 0 0 (entry.Held (end_of_node v.core k) need spare ∷ []) v (omega arith) b) h short w a)) where
        deeds : List Deed
        deeds = deeds_of w.core w.ports h m

  going : (hosts : List ℕ) (w : Work) → Owes side 0 all w → Owes side 0 all (goes_through_ends hosts w)
  going [] w a = a
  going (h ∷ hosts) w a =
      unless (Owes side 0 all) (goes_through_ends hosts) (have_turns h (got_at h w) w) (λ v b. going hosts v b) (having h (got_at h w) w a)

-- ### What is done outside turns

releases_weigh : (side : Side) (cs : List Creation) → weights side (map (λ (c : Creation). Releases c.asker) cs) ≡ 0
releases_weigh side [] = refl
releases_weigh side (c ∷ cs) = let rest = releases_weigh side cs in omega (arith, rest)

forgotten_weigh : (side : Side) (ports : List Port) → weights side (forgotten ports) ≡ 0
forgotten_weigh side ports = releases_weigh side (filter (λ (c : Creation). is_over_at ports c.asker) (filter_map asked_at ports))

flat_weigh : {X : Type 0} (side : Side) (f : X → List Deed) → ((x : X) → weights side (f x) ≡ 0) → (xs : List X) → weights side (flat_map f xs) ≡ 0
flat_weigh side f one [] = refl
flat_weigh side f one (x ∷ xs) = omega (arith, weights-append side (f x) (flat_map f xs), one x, flat_weigh side f one xs)

all_owed_weigh : (side : Side) (ports : List Port) → weights side (all_owed ports) ≡ 0
all_owed_weigh side ports =
    let ended : List Port = filter (λ p. p.ended) ports in
    let late : List Port = filter (λ p. p.late) ports in
    let both =
    weights-append side (flat_map (λ p. owed response.NotConnected (asked_at p)) ended) (flat_map (λ p. owed response.Timeout (asked_at p)) late) in
    let first = flat_weigh side (λ p. owed response.NotConnected (asked_at p)) (λ p. grind arith) ended in
    omega (arith, both, first, (flat_weigh side (λ p. owed response.Timeout (asked_at p)) (λ p. grind arith) late))

-- how many ends tell of an identifier of a UICC
abbrev pub syncs_told : NodeInput → List Port → ℕ
syncs_told input [] = 0
syncs_told input (p ∷ ports) = option_map_or (λ i. sync_told (report p.side i).sync) (input_at input p) 0 + syncs_told input ports

-- each costs one command at most
synced_weighs : (side : Side) (core : Core) (input : NodeInput) (p : Port)
    → weights side (synced core input p) ≤ option_map_or (λ i. sync_told (report p.side i).sync) (input_at input p) 0
synced_weighs side core input p = grind arith

all_synced : (side : Side) (core : Core) (input : NodeInput) (ports : List Port) → weights side (flat_map (synced core input) ports) ≤ syncs_told input ports
all_synced side core input [] = omega arith
all_synced side core input (p ∷ ports) =
    let rest = all_synced side core input ports in
    omega (arith, weights-append side (synced core input p) (flat_map (synced core input) ports), synced_weighs side core input p, rest)

-- ### What comes

told_costs : (core : Core) (p : Port) (o : Option LinkInput) → costs (told_at core p o) ≡ 0
told_costs core p None = refl
told_costs core p (Some i) = told_free p.desk.host (own_side core) p.session (report p.side i) (whole_acked (after_input p.side i))

late_costs : (core : Core) (p : Port) → costs (told_late core p) ≡ 0
late_costs core p = cond_both (is_late p) (told_at core p (Some (Reset None))) [] (λ es. costs es ≡ 0) (λ _. told_costs core p (Some (Reset None))) (λ _. refl)

pub flat_costs : {X : Type 0} (f : X → List Entry) → ((x : X) → costs (f x) ≡ 0) → (xs : List X) → costs (flat_map f xs) ≡ 0
flat_costs f one [] = refl
flat_costs f one (x ∷ xs) =
    let both = costs-append (f x) (flat_map f xs) in let first = one x in let rest = flat_costs f one xs in omega (arith, both, first, rest)

older_desk : (p : Port) → notice_holds (with_older p).desk.notice ≤ notice_holds p.desk.notice
older_desk p = by_option p.desk.notice (λ q. rw q (omega arith)) (λ n q. rw q (omega arith))

late_desk : (p : Port) → notice_holds (reset_late p).desk.notice ≤ notice_holds p.desk.notice
late_desk p = grind arith

without_desk : (p : Port) → notice_holds (without_notice p).desk.notice ≤ notice_holds p.desk.notice
without_desk p = cond_both (is_over p) _ p (λ (q : Port). notice_holds q.desk.notice ≤ notice_holds p.desk.notice) (λ _. omega arith) (λ _. omega arith)

sessions_hold : (core : Core) (ports : List Port) → core_holds (after_sessions core ports) ≤ core_holds core
sessions_hold core ports = grind arith

-- ### Steps

module _ (side : Side) (all : ℕ) where
  mapped : (left : ℕ) (f : Port → Port) → ((p : Port) → notice_holds (f p).desk.notice ≤ notice_holds p.desk.notice) → (w : Work) → Owes side left all w
      → Owes side left all (record w { ports = map f w.ports })
  mapped left f less w a = ported side all left (map f w.ports) w (length-map w.ports f) (map_less f less w.ports) a

  timed : (left : ℕ) (input : NodeInput) (w : Work) → Owes side left all w → Owes side left all (times_out input w)
  timed left (AtEnd h i) w a = a
  timed left TimePasses w a =
      let older : List Port = map with_older w.ports in
      let v : Work = record w { ports = map reset_late older } in
      noted side all left left (flat_map (told_late w.core) older) v (omega (arith, flat_costs (told_late w.core) (late_costs w.core) older))
      (mapped left reset_late late_desk (record w { ports = older }) (mapped left with_older older_desk w a))

  before_pass : (left : ℕ) (freed syncs owing : List Deed) (w : Work) → weights side freed ≡ 0 → weights side syncs ≤ left → weights side owing ≡ 0
      → Owes side left all w → Owes side 0 all (unless_cut (all_done 0 owing) (all_done 0 syncs (all_done 0 freed w)))
  before_pass left freed syncs owing w f s o a =
      let first : Owes side left all (all_done 0 freed w) =
      all_owe side all left 0 freed w (less side all left (left + weights side freed) w (omega (arith, f)) a) in
      let kept_ids : Owes side 0 all (all_done 0 syncs (all_done 0 freed w)) =
      all_owe side all 0 0 syncs (all_done 0 freed w) (less side all left (0 + weights side syncs) (all_done 0 freed w) (omega (arith, s)) first) in
      unless (Owes side 0 all) (all_done 0 owing) (all_done 0 syncs (all_done 0 freed w))
      (λ v b. all_owe side all 0 0 owing v (less side all 0 (0 + weights side owing) v (omega (arith, o)) b)) kept_ids

  -- As its pass begins a node owes nothing that it didn't keep before the step, but for the identifiers that its ends tell of.
  pub begun_owes : (input : NodeInput) (w : Work) → Owes side (syncs_told input w.ports) all w → Owes side 0 all (comes_to_pass input w)
  begun_owes input w a =
      let k : ℕ = syncs_told input w.ports in
      let begun : Work = record w { ports = map (λ p. has_come p (input_at input p)) w.ports } in
      let none = flat_costs (λ p. told_at w.core p (input_at input p)) (λ p. told_costs w.core p (input_at input p)) w.ports in
      let told : Owes side k all (all_come input w) =
      noted side all k k (flat_map (λ p. told_at w.core p (input_at input p)) w.ports) begun (omega (arith, none))
      (mapped k (λ p. has_come p (input_at input p)) (λ p. grind arith) w a) in
      let came : Work = times_out input (all_come input w) in
      let syncs : List Deed = flat_map (synced w.core input) w.ports in
      let left : List Port = map (forgets came.ports) came.ports in
      let core : Core = after_sessions came.core came.ports in
      let less_core = sessions_hold came.core came.ports in
      let cored : Owes side k all (record came { core = core }) =
      kept side all k k core came (sessions_node came.core came.ports) (omega (arith, less_core)) (timed k input (all_come input w) told) in
      let begins : Owes side k all (record came { core = core; ports = map without_notice left }) =
      mapped k without_notice without_desk (record came { core = core; ports = left })
      (mapped k (forgets came.ports) (λ p. grind arith) (record came { core = core }) cored) in
      before_pass k (forgotten came.ports) syncs (all_owed left) (record came { core = core; ports = map without_notice left })
      (forgotten_weigh side came.ports) (all_synced side w.core input w.ports) (all_owed_weigh side left) begins

  -- nor does it behind the step
  pub steps_owe : (input : NodeInput) (w : Work) → Owes side (syncs_told input w.ports) all w → Owes side 0 all (steps input w)
  steps_owe input w a =
      unless (Owes side 0 all) passes (comes_to_pass input w) (λ v b. going side all (map (λ (p : Port). p.desk.host) v.ports) v b) (begun_owes input w a)

  -- what a host does of itself owes what its deeds cost
  pub begins_owe : (h : ℕ) (deeds : List Deed) (w : Work) → Owes side (weights side deeds) all w → Owes side 0 all (begins_with h deeds w)
  begins_owe h deeds w a = all_owe side all 0 h deeds w (less side all (weights side deeds) (0 + weights side deeds) w (omega arith) a)

-- ## No session that is noted of a link has a greater number than how many RSETs were put on the link until then

-- ### Lists

more : (m n : ℕ) (t : List LinkEntry) → m ≤ n → AreNotedWithin m t → AreNotedWithin n t
more m n [] q a = tt
more m n (x ∷ t) q a = (grind arith, more m n t q a.1)

-- ### What comes, and turns

input_told : (n : ℕ) (who : End) (h : NumberedEnd) (i : LinkInput) → number_of h ≤ n → AreNotedWithin n (told_of who h i)
input_told n who h i q = told_all (NotedWithin n) who (number_of h) (whole_acked (after_input h.side i)) q tt (λ t. tt) q (λ m. q) (λ c. tt) (report h.side i)

turns_within : (n : ℕ) (who : End) (k : ℕ) (ts : List Turn) (e : LinkEnd) → k ≤ n → AreNotedWithin n (turn_entries who k e ts)
turns_within n who k [] e q = tt
turns_within n who k (t ∷ ts) e q =
    each_append (NotedWithin n) (turn_entry who k e t) (turn_entries who k (turn e t) ts) (grind arith) (turns_within n who k ts (turn e t) q)

-- ### Frames

puts_within : (n : ℕ) (who : End) (cs : List Control) (l : Link) → AreNotedWithin n (puts_entries who l cs)
puts_within n who [] l = tt
puts_within n who (c ∷ cs) l =
    each_append (NotedWithin n) (put_entries who l c) (puts_entries who (put l c) cs) (tt, grind arith)
    (puts_within n who cs (put l c))

ending_within : (n : ℕ) (who : End) (l : Link) (e : LinkEnd) (ending : Ending) → AreNotedWithin n (ending_entries who l e ending)
ending_within n who l e GoesOut = puts_within n who (frames_out e) l
ending_within n who l e CutOff = (tt, tt)

aged_within : (n : ℕ) (who : End) (wire : List OnWire) → AreNotedWithin n (aged_entries who wire)
aged_within n who [] = tt
aged_within n who (x ∷ wire) = by_test (nat_lt x.age 4) (λ q. rw q (aged_within n who wire)) (λ q. rw q (tt, aged_within n who wire))

-- ### Steps of the near end

rest_within : (n : ℕ) (who : End) (l : Link) (e : LinkEnd) (ts : List Turn) (ending : Ending) → number_of l.controller ≤ n
    → AreNotedWithin n (rest_entries who l e ts ending)
rest_within n who l e ts ending q =
    each_append (NotedWithin n) (turn_entries who (number_of l.controller) e ts) (ending_entries who l (turned e ts) ending)
    (turns_within n who (number_of l.controller) ts e q) (ending_within n who l (turned e ts) ending)

ended_number : (l : Link) (b : Bool) → number_of (with_ended l b).controller ≡ number_of l.controller
ended_number l b = grind arith

input_within : (who : End) (l : Link) (i : LinkInput) (ts : List Turn) (ending : Ending) → HasLowNumbers l
    → AreNotedWithin l.resets (input_entries who l i ts ending)
input_within who l i ts ending a =
    let m : Link = with_ended l (is_some (ended_by l.controller.side i)) in
    let low = number_low l.resets l.controller a.controller in
    let same = ended_number l (is_some (ended_by l.controller.side i)) in
    each_append (NotedWithin l.resets) (told_of who l.controller i) (rest_entries who m (after_input l.controller.side i) ts ending)
    (input_told l.resets who l.controller i low) (rest_within l.resets who m (after_input l.controller.side i) ts ending (omega (arith, low, same)))

taken_within : (who : End) (l : Link) (x : OnWire) (xs : List OnWire) (ts : List Turn) (ending : Ending) → l.to_controller ≡ x ∷ xs → HasLowNumbers l
    → AreNotedWithin l.resets (taken_entries who l x xs ts ending)
taken_within who l x xs ts ending q a =
    let near : NumberedEnd = record l.controller { took = took_with l.controller.took x } in
    let e : LinkEnd = after_input l.controller.side (Take x.frame) in (
      tt,
      each_append (NotedWithin l.resets) (told_of who near (Take x.frame)) (rest_entries who (left_after l x xs) e ts ending)
          (input_told l.resets who near (Take x.frame) heard)
          (rest_within l.resets who (left_after l x xs) e ts ending
          (by_test (is_some (ended_by l.controller.side (Take x.frame))) (λ q. rw q heard) (λ q. rw q heard))),
    )
  where
    wire : AllByRecursion (λ (y : OnWire). y.number ≤ l.resets) (x ∷ xs)
    wire = rw q at a.to_controller

    heard : number_of (record l.controller { took = took_with l.controller.took x }) ≤ l.resets
    heard = grind arith

silent_resets : (l : Link) (e : LinkEnd) → (silent l e).resets ≡ l.resets
silent_resets l e = by_test (is_up l.controller.side.shdlc.phase) (λ q. rw q refl) (λ q. rw q refl)

restart_within : (who : End) (l : Link) (i : LinkInput) (ts : List Turn) (ending : Ending) → HasLowNumbers l
    → AreNotedWithin l.resets (restart_entries who l i ts ending)
restart_within who l i ts ending a =
    let e : LinkEnd = after_input l.controller.side i in
    let low = number_low l.resets l.controller a.controller in (
      tt,
      each_append (NotedWithin l.resets) (told_of who l.controller i) (rest_entries who (silent l e) e ts ending) (input_told l.resets who l.controller i low)
          (rest_within l.resets who (silent l e) e ts ending (grind arith)),
    )

step_within : (who : End) (l : Link) (comes : Comes) (ts : List Turn) (ending : Ending) → HasLowNumbers l
    → AreNotedWithin l.resets (step_entries who l comes ts ending)
step_within who l NextFrame ts ending a = by_list l.to_controller (λ q. rw q tt) (λ x xs q. rw q (taken_within who l x xs ts ending q a))
step_within who l (AsksReset window) ts ending a = input_within who l (Reset window) ts ending a
step_within who l (Starts value) ts ending a = restart_within who l (Start value) ts ending a
step_within who l Stops ts ending a = restart_within who l Stop ts ending a
step_within who l NoInput ts ending a = rest_within l.resets who l l.controller.side ts ending (number_low l.resets l.controller a.controller)

here_within : (who : End) (l : Link) (e : EndEvent) → HasLowNumbers l → AreNotedWithin l.resets (here_entries who l e)
here_within who l (Step comes ts ending) a = step_within who l comes ts ending a
here_within who l (Lose why) a = grind arith

-- ### The numbers grow

put_grows : (l : Link) (c : Control) → l.resets ≤ (put l c).resets
put_grows l c = by_test (is_rset c) (λ q. rw q (omega arith)) (λ q. rw q (omega arith))

puts_grow : (cs : List Control) (l : Link) → l.resets ≤ (put_all l cs).resets
puts_grow [] l = omega arith
puts_grow (c ∷ cs) l = let z = puts_grow cs (put l c) in let o = put_grows l c in omega (arith, z, o)

ended_resets : (l : Link) (b : Bool) → (with_ended l b).resets ≡ l.resets
ended_resets l b = grind arith

finished_grows : (l : Link) (e : LinkEnd) (ending : Ending) → l.resets ≤ (finished l e ending).resets
finished_grows l e GoesOut = puts_grow (frames_out e) l
finished_grows l e CutOff = grind arith

input_grows : (l : Link) (i : LinkInput) (ts : List Turn) (ending : Ending) → l.resets ≤ (has_input l i ts ending).resets
input_grows l i ts ending =
    let b : Bool = is_some (ended_by l.controller.side i) in
    omega (arith, finished_grows (with_ended l b) (turned (after_input l.controller.side i) ts) ending, ended_resets l b)

taken_grows : (l : Link) (x : OnWire) (xs : List OnWire) (ts : List Turn) (ending : Ending) → l.resets ≤ (has_taken l x xs ts ending).resets
taken_grows l x xs ts ending =
    let z = finished_grows (left_after l x xs) (turned (after_input l.controller.side (Take x.frame)) ts) ending in
    omega (arith, z, ended_resets (record l { to_controller = xs }) (is_some (ended_by l.controller.side (Take x.frame))))

restarted_grows : (l : Link) (e : LinkEnd) (ts : List Turn) (ending : Ending) → l.resets ≤ (has_restarted l e ts ending).resets
restarted_grows l e ts ending = let z = finished_grows (silent l e) (turned e ts) ending in let r = silent_resets l e in omega (arith, z, r)

step_grows : (l : Link) (comes : Comes) (ts : List Turn) (ending : Ending) → l.resets ≤ (steps_at_controller l comes ts ending).resets
step_grows l NextFrame ts ending = by_list l.to_controller (λ q. rw q (omega arith)) (λ x xs q. rw q (taken_grows l x xs ts ending))
step_grows l (AsksReset window) ts ending = input_grows l (Reset window) ts ending
step_grows l (Starts value) ts ending = restarted_grows l (started l.controller.side value) ts ending
step_grows l Stops ts ending = restarted_grows l (deactivated l.controller.side) ts ending
step_grows l NoInput ts ending = finished_grows l (turned l.controller.side ts) ending

here_grows : (l : Link) (e : EndEvent) → l.resets ≤ (happens_at_controller l e).resets
here_grows l (Step comes ts ending) = step_grows l comes ts ending
here_grows l (Lose why) = omega arith

all_grow : (es : List EndEvent) (l : Link) → l.resets ≤ (all_at_controller l es).resets
all_grow [] l = omega arith
all_grow (e ∷ es) l = let z = all_grow es (happens_at_controller l e) in let o = here_grows l e in omega (arith, z, o)

event_grows : (l : Link) (e : LinkEvent) → l.resets ≤ (happens l e).resets
event_grows l (AtController e) = here_grows l e
event_grows l (AtHost e) = here_grows (exchanged l) e
event_grows l (Ticks c events h) =
    let near : Link = ticks_at_controller (aged l) c.turns c.ending in
    let y = all_grow events near in
    omega (arith, input_grows (aged l) HasTick c.turns c.ending, y, input_grows (exchanged (all_at_controller near events)) HasTick h.turns h.ending)
event_grows l (TicksWithout events h) =
    omega (arith, all_grow events (aged l), input_grows (exchanged (all_at_controller (aged l) events)) HasTick h.turns h.ending)
event_grows l (Activate power c id h) =
    let y = step_grows (exchanged (steps_at_controller l (Starts power) c.turns c.ending)) (Starts id) h.turns h.ending in
    omega (arith, step_grows l (Starts power) c.turns c.ending, y)

events_grow : (events : List LinkEvent) (l : Link) → l.resets ≤ (after_link_events l events).resets
events_grow [] l = omega arith
events_grow (e ∷ es) l = let z = events_grow es (happens l e) in let o = event_grows l e in omega (arith, z, o)

-- ### Events

all_within : (es : List EndEvent) (who : End) (l : Link) → HasLowNumbers l → AreNotedWithin (all_at_controller l es).resets (entries_of_events who l es)
all_within [] who l a = tt
all_within (e ∷ es) who l a =
    let m : Link = happens_at_controller l e in
    let end : Link = all_at_controller m es in
    let y = all_grow es m in
    each_append (NotedWithin end.resets) (here_entries who l e) (entries_of_events who m es)
    (more l.resets end.resets (here_entries who l e) (omega (arith, here_grows l e, y)) (here_within who l e a)) (all_within es who m (here_numbered l e a))

tick_within : (n : ℕ) (who : End) (l : Link) (node : Node) → l.resets ≤ n → HasLowNumbers l → AreNotedWithin n (tick_entries who l node)
tick_within n who l node q a = more l.resets n (tick_entries who l node) q (input_within who l HasTick node.turns node.ending a)

-- what is noted of frames that are too old, and behind it
behind_aged : (n : ℕ) (l : Link) (t : List LinkEntry) → AreNotedWithin n t
    → AreNotedWithin n (aged_entries Controller l.to_controller ++ (aged_entries Host l.to_host ++ t))
behind_aged n l t a =
    each_append (NotedWithin n) (aged_entries Controller l.to_controller) _ (aged_within n Controller l.to_controller)
    (each_append (NotedWithin n) (aged_entries Host l.to_host) t (aged_within n Host l.to_host) a)

event_within : (l : Link) (e : LinkEvent) → HasLowNumbers l → AreNotedWithin (happens l e).resets (event_entries l e)
event_within l (AtController e) a =
    more l.resets (happens_at_controller l e).resets (here_entries Controller l e) (here_grows l e) (here_within Controller l e a)
event_within l (AtHost e) a =
    more l.resets (happens_at_controller (exchanged l) e).resets (here_entries Host (exchanged l) e) (here_grows (exchanged l) e)
    (here_within Host (exchanged l) e (exchanged_numbered l a))
event_within l (Ticks c events h) a =
    let near : Link = ticks_at_controller (aged l) c.turns c.ending in
    let k : Link = all_at_controller near events in
    let n : ℕ = (happens l (Ticks c events h)).resets in
    let b : HasLowNumbers (aged l) = aged_numbered l a in
    let d : HasLowNumbers near = tick_numbered (aged l) c.turns c.ending b in
    let z : k.resets ≤ n = input_grows (exchanged k) HasTick h.turns h.ending in
    let middle = more k.resets n (entries_of_events Controller near events) z (all_within events Controller near d) in
    let last = tick_within n Host (exchanged k) h z (exchanged_numbered k (all_numbered events near d)) in
    let first = tick_within n Controller (aged l) c (omega (arith, input_grows (aged l) HasTick c.turns c.ending, all_grow events near, z)) b in (
      tt,
      behind_aged n l _ (each_append (NotedWithin n) (tick_entries Controller (aged l) c) _ first
          (each_append (NotedWithin n) (entries_of_events Controller near events) _ middle last)),
    )
event_within l (TicksWithout events h) a =
    let k : Link = all_at_controller (aged l) events in
    let n : ℕ = (happens l (TicksWithout events h)).resets in
    let b : HasLowNumbers (aged l) = aged_numbered l a in
    let z : k.resets ≤ n = input_grows (exchanged k) HasTick h.turns h.ending in
    let middle = more k.resets n (entries_of_events Controller (aged l) events) z (all_within events Controller (aged l) b) in
    let last = tick_within n Host (exchanged k) h z (exchanged_numbered k (all_numbered events (aged l) b)) in
    (tt, behind_aged n l _ (each_append (NotedWithin n) (entries_of_events Controller (aged l) events) _ middle last))
event_within l (Activate power c id h) a =
    let near : Link = steps_at_controller l (Starts power) c.turns c.ending in
    let n : ℕ = (happens l (Activate power c id h)).resets in
    let y : near.resets ≤ n = step_grows (exchanged near) (Starts id) h.turns h.ending in
    each_append (NotedWithin n) (step_entries Controller l (Starts power) c.turns c.ending) (step_entries Host (exchanged near) (Starts id) h.turns h.ending)
    (more l.resets n (step_entries Controller l (Starts power) c.turns c.ending) (omega (arith, step_grows l (Starts power) c.turns c.ending, y))
    (step_within Controller l (Starts power) c.turns c.ending a))
    (more near.resets n (step_entries Host (exchanged near) (Starts id) h.turns h.ending) y
    (step_within Host (exchanged near) (Starts id) h.turns h.ending (exchanged_numbered near (steps_numbered l (Starts power) c.turns c.ending a))))

events_within : (events : List LinkEvent) (l : Link) → HasLowNumbers l → AreNotedWithin (after_link_events l events).resets (entries l events)
events_within [] l a = tt
events_within (e ∷ es) l a =
    let m : Link = happens l e in
    let end : Link = after_link_events m es in
    each_append (NotedWithin end.resets) (event_entries l e) (entries m es)
    (more m.resets end.resets (event_entries l e) (events_grow es m) (event_within l e a)) (events_within es m (event_numbered l e a))

pub run_within : (l : Link) → IsStart l → (events : List LinkEvent) → AreNotedWithin (after_link_events l events).resets (entries l events)
run_within l start events = events_within events l (start_numbered l start)

-- ### As entries of a transcript

entries_within : (h n : ℕ) (t : List LinkEntry) → AreNotedWithin n t → AreSessionsWithin n (entries_for h t)
entries_within h n [] a = tt
entries_within h n (x ∷ t) a = each_append (SessionWithin n) (entry_of h x) (entries_for h t) (grind arith) (entries_within h n t a.1)

-- ## The sessions that histories note have numbers no greater than two for each tick and one for each reset that was asked for

-- ### Histories of nodes

found : (n h : ℕ) (s : Site) (sites : List Site) → NumbersWithinOnEach n sites → site_at sites h ≡ Some s → NumbersWithin n s.link
found n h s [] a q = cc
found n h s (x ∷ sites) a q = by_test (x.host == h)
    (λ r. grind arith)
    (λ r. found n h s sites a.1 (rw r at q))

-- what is told of a link on which few RSETs were put
told_in_histories : (n h : ℕ) (l : Link) (t : List Entry) → l.resets ≤ n → IsLinkTold h l t → AreSessionsWithin n (of_link h t)
told_in_histories n h l t few told =
    let events : List LinkEvent = told.events in
    let end : Link = after_link_events new_line events in
    let noted : AreNotedWithin n (entries new_line events) =
    more end.resets n (entries new_line events) (omega (arith, few, ap (λ (m : Link). m.resets) told.run.is)) (run_within new_line IsLine events) in
    let all : AreSessionsWithin n (entries_for h (entries new_line events)) = entries_within h n (entries new_line events) noted in
    subst (AreSessionsWithin n) (sym told.told) (each_filter (SessionWithin n) _ (entries_for h (entries new_line events)) all)

pub sessions_in_history : (header : Header) (lines : List Line) (t : NodeHistory) → FollowsNodes header lines t → AreHosts header.hosts.items
    → ArePlayable lines → (front back : List Occurrence) → occurrences_in t ≡ front ++ back → (h : ℕ) (s : Site)
    → site_at (world_behind (new_world header.hosts.items) front).sites h ≡ Some s
    → AreSessionsWithin (rsets_by_all (happened_in front)) (of_link h (entries_in front))
sessions_in_history header lines t follows are playable front back q h s there =
    let n : ℕ = rsets_by_all (happened_in front) in
    let few = found n h s (world_behind (new_world header.hosts.items) front).sites (numbers_behind header.hosts.items front) there in
    told_in_histories n h s.link (entries_in front) few.resets ((history_so header lines t follows are playable front back q).each h s there).told

-- ### Histories of a bare world

after_causes : (causes : List Cause) (l : Link) → after_link_events l (map event_of causes) ≡ link_after_all l causes
after_causes [] l = refl
after_causes (c ∷ causes) l = after_causes causes (link_after l c)

pub sessions_in_bare_history : (header : Header) (lines : List Line) (t : History) → AllByRecursion (IsLineOf header) lines → Follows header lines t
    → AreSessionsWithin (rsets_by_all_bare (causes_of (all_events t))) (all_entries t)
sessions_in_bare_history header lines t valid follows =
    let run : IsRun (host_of header) t = is_run header lines t valid follows in
    let events : List LinkEvent = link_events (all_events t) in
    let n : ℕ = rsets_by_all_bare (causes_of (all_events t)) in
    let few = (numbers_in_bare (causes_of (all_events t))).resets in
    let same = ap (λ (m : Link). m.resets) (after_causes (causes_of (all_events t)) bare_link) in
    let noted : AreNotedWithin n (entries bare_link events) =
    more (after_link_events bare_link events).resets n (entries bare_link events) (omega (arith, few, same)) (run_within bare_link IsBare events) in
    subst (AreSessionsWithin n) (sym (run_entries (host_of header) t.opening (all_events t) run.opening run.events))
    (entries_within (host_of header) n (trace bare_link events) ((omega arith, (omega arith, noted))))
