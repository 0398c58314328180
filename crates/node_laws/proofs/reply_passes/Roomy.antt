-- The generation of a journal grows with the commands that are noted, so a controller finds room in its passes while these are few.
use Rattle.std.specs.Prelude.{◌≢◌}
use Rattle.node_laws.proofs.Words.{About, Activates, AllByRecursion, AllKeep, AreCausedSo, AreHosts, AreNodeLinesOf, ArePlayable, AreRepliedIn, AreTables, Arms}
use Rattle.node_laws.proofs.Words.{Asks, AsksReset, AtEnd, BeginsPass, Bool, Boots, Comes, ComesTo, Command, Commits, Controller, Core, Deed, Drops, End, Ends}
use Rattle.node_laws.proofs.Words.{Entry, FetchMessage, FindsRoom, FollowsNodes, Give, Gives, Happening, HasRoomForAll, HciTables, Header, Hold, IfRuns, Inits}
use Rattle.node_laws.proofs.Words.{IsCommand, IsCut, IsFew, IsNodeLineOf, IsNodeNumber, IsPlain, IsRecordable, IsSentByHost, IsUnformatted, Journal, Knows}
use Rattle.node_laws.proofs.Words.{Line, Link, LinkInput, List, Loses, Loss, Memory, Message, MessagesAreRead, NextFrame, NoInput, NodeHistory, NodeInput}
use Rattle.node_laws.proofs.Words.{NodeWorld, None, NumberedEnd, Occurrence, OnWire, Option, Orders, Plan, Release, Releases, Removed, Resets, Running, RunsSo}
use Rattle.node_laws.proofs.Words.{SaysOk, Sends, SetAside, Side, Site, Some, Starts, State, StillRuns, Takes, Tells, Ticks, TimePasses, Turn, Waits, Work}
use Rattle.node_laws.proofs.Words.{Write, [], activates, after_controller, after_near_tick, after_planned, after_sessions, after_writes, all_aged, all_come}
use Rattle.node_laws.proofs.Words.{all_done, all_happen, anyone, ap, append-nil, append_assoc, append_writes, apply, arith, arrival, as_it_ticks, beginning}
use Rattle.node_laws.proofs.Words.{begins_with, body_of, boot_found, boot_writes, boot_written, boots, by_boot, by_coming, by_controller, by_controller_tick}
use Rattle.node_laws.proofs.Words.{by_host, by_loss, by_memory, by_option, by_power, by_running, by_test, can_happen, cases_Bool, cases_eq, comes_at, comes_to}
use Rattle.node_laws.proofs.Words.{comes_to_pass, commands_by_events, commit, commit_writes, committed, compact_writes, cond, controller_begins}
use Rattle.node_laws.proofs.Words.{controller_does, controller_ticks, controller_work, count_of, current, deeds_of, done, end_c, end_h, end_of_node}
use Rattle.node_laws.proofs.Words.{entries_for, entries_in, eqb, exchanged, fails_within, false, finds_room, flat_map, forgets, forgotten, format_writes}
use Rattle.node_laws.proofs.Words.{frame_lost, frames_at, frames_noted, fresh, goes_on, happenings, has_come_so, has_freed, has_synced, host_does, hosts_tick}
use Rattle.node_laws.proofs.Words.{inl, input_of, inr, is_opened_gate, journal, last_place, length, length-append, length-replicate, line_step, link_to}
use Rattle.node_laws.proofs.Words.{loses_power_at, map, memory_at, near_end_in, near_tick, new_world, no_journal, node_entries, noted_before_pass, notified}
use Rattle.node_laws.proofs.Words.{noting, occurrences_in, occurrences_of, opens_gate, option_map_or, owed_in_step, record_fits, refl, refusal_in, replicate}
use Rattle.node_laws.proofs.Words.{room_writes, sending, site_at, slice_index, snapshot_bodies, state_of, steps, steps_from, subst, sym, syncs_in, taken_of}
use Rattle.node_laws.proofs.Words.{true, true≢false, turn_at, wires_for, with_room, without_notice, work_of, world_behind, world_step, world_ticks, ℕ, ◌&&◌}
use Rattle.node_laws.proofs.Words.{◌*◌, ◌++◌, ◌+◌, ◌<◌, ◌∙◌, ◌∷◌, ◌≡◌, ◌≤◌, ◌⊎◌}
use Rattle.journal_laws.proofs.Opening.{format_is_cut, format_state}
use Rattle.node_laws.specs.passes.Passing.ComesTo.{Begins}
use Rattle.node_laws.specs.reply_passes.Counts.{commands_noted as commits}
use Rattle.node_laws.proofs.bounds.Begun.{passes_bounded, ticks_bounded}
use Rattle.node_laws.proofs.bounds.Paying.{front_so}
use Rattle.node_laws.proofs.cuts.Commits.{IsFilled, Torn, commit_opened, gate_closed, gate_opened, many, parts, record_same, snapshot_ends, torn}
use Rattle.node_laws.proofs.kept.Reckoned.{can, next_of, planned_cut, planned_whole, room_knows, says_of}
use Rattle.node_laws.proofs.kept.Doing.{GoesOn_or_lost, plain_entries}
use Rattle.node_laws.proofs.kept.Events.{runs_begun}
use Rattle.node_laws.proofs.kept.Stepping.{steps_fine}
use Rattle.node_laws.proofs.kept.Ticking.{aged_goes}
use Rattle.node_laws.proofs.links.Worlds.{AreFineSites, IsFineWorld, lines_fine, world_fine}
use Rattle.node_laws.proofs.passes.InSteps.{before_entries}
use Rattle.node_laws.proofs.passes.Passing.{comes_so}
use Rattle.node_laws.proofs.replies.Waiting.{comes_replied, tick_replied}
use Rattle.node_laws.proofs.reply_passes.Ordered.{WaitsRead, comes_messages, history_waits, tick_messages}
use Rattle.node_laws.proofs.schedules.Ranges.{IsFewWires, run_few}
use Rattle.node_laws.proofs.steps.StepWalks.{Lasts, all_last, got_at, handled, holds_of_step_walks as holds, lets, rest_lasts, unless}
use Rattle.node_laws.proofs.telling.Lasting.{Any, AreCaused, events_of_steps, fronts_last, history_caused}
use Rattle.node_laws.proofs.telling.Events.{site_is}
use Rattle.node_laws.proofs.views.Lines.{events_so}
use Rattle.nv_journal.proofs.Compacting as compacting
use Rattle.trace_model.specs.declared.entry.Entry.TheVariants as entry
use Rattle.trace_model.specs.declared.line.Line.TheVariants as line

-- ## The generation of the journal of a node grows by one at most with each command that is noted

pub commits-append : (s t : List Entry) → commits (s ++ t) ≡ commits s + commits t
commits-append [] t = omega arith
commits-append (entry.Command node c ∷ s) t = let rest = commits-append s t in omega (arith, rest)
commits-append (x ∷ s) t = commits-append s t

-- a commit makes one more generation at most
commit_grows : (s : State) (t : HciTables) (body : List ℕ) → (committed s t body).generation ≤ s.generation + 1
commit_grows s t body = by_test (record_fits s body) (λ q. rw q (omega arith)) (λ q. rw q (omega arith))

-- where the power has gone, a generation more may have been written
abbrev pub spent : Bool → ℕ
spent b = cond b 1 0

module _ (t : List Entry) where
  -- the generation is one above the commands that were noted, at most
  abbrev pub Grows : Work → Type 0
  Grows w = w.core.journal.generation + spent w.cut ≤ 1 + commits (t ++ w.entries)

  more : (w v : Work) (es : List Entry) → v.core.journal ≡ w.core.journal → v.cut ≡ w.cut → v.entries ≡ w.entries ++ es → Grows w → Grows v
  more w v es journal cut entries a =
      let one = commits-append t (w.entries ++ es) in
      let three = commits-append t w.entries in
      omega (arith, ap (λ (s : State). s.generation) journal, ap spent cut, ap (λ l. commits (t ++ l)) entries, one, commits-append w.entries es, three, a)

  turns_grow : (h : ℕ) (x : Turn) (w : Work) → Grows w → Grows (turn_at h x w)
  turns_grow h x w a = more w (turn_at h x w) _ refl refl refl a

  tells_grow : (h : ℕ) (about : About) (message : List ℕ) (w : Work) → Grows w → Grows (notified h about message w)
  tells_grow h about message w a = turns_grow h (Give (1, message)) w a

  commits_grow : (c : Command) (w : Work) → Grows w → Grows (commit c w)
  commits_grow c w a = by_test (fails_within (length (commit_writes w.core.journal w.core.tables (body_of c))) w.plan)
      (λ q. rw q (
      let two = commits-append (w.entries ++ entry.Command w.core.node c ∷ []) (entry.Cut w.core.node ∷ []) in
      let four = commits-append w.entries (entry.Command w.core.node c ∷ []) in
      omega (arith, a, commits-append t ((w.entries ++ entry.Command w.core.node c ∷ []) ++ entry.Cut w.core.node ∷ []), two, three, four)))
      (λ q. rw q (
      let four = commits-append w.entries (entry.Command w.core.node c ∷ []) in
      let grown = commit_grows w.core.journal w.core.tables (body_of c) in
      omega (arith, a, commits-append t (w.entries ++ entry.Command w.core.node c ∷ []), three, four, grown))) where
        three : commits (t ++ w.entries) ≡ commits t + commits w.entries
        three = commits-append t w.entries

  note_grow : (es : List Entry) (w : Work) → Grows w → Grows (noting es w)
  note_grow es w a = more w (noting es w) es refl refl refl a

  done_grow : (h : ℕ) (d : Deed) (w : Work) → Grows w → Grows (done h d w)
  done_grow h (Commits c) w a = commits_grow c w a
  done_grow h (Sends to m) w a = turns_grow to (Give m) w a
  done_grow h SaysOk w a = note_grow (entry.AnyOk w.core.node (count_of w.core.journal) ∷ []) w a
  done_grow h (Asks to message c) w a =
      tells_grow to (Waits c) message (noting (entry.Ask to message ∷ []) (turn_at c.asker SetAside w))
      (note_grow (entry.Ask to message ∷ []) (turn_at c.asker SetAside w) (turns_grow c.asker SetAside w a))
  done_grow h (Releases asker) w a = turns_grow asker Release w a
  done_grow h (Tells to message) w a = tells_grow to Removed message w a
  done_grow h (Drops pid) w a = note_grow (entry.Dropped (end_of_node w.core h) pid ∷ []) w a
  done_grow h (Orders message) w a = turns_grow h (Give (1, message)) (record w { core = record w.core { command = Some message } }) a
  done_grow h (Ends e) w a = note_grow (e ∷ []) (record w { core = record w.core { init = None } }) a
  done_grow h _ w a = a

  abbrev AnyOfGrowing : Deed → Type 0
  AnyOfGrowing d = Unit {0}

  abbrev AnyMessage : ℕ → Message → Type 0
  AnyMessage h m = Unit {0}

  any_deeds : (deeds : List Deed) → AllByRecursion AnyOfGrowing deeds
  any_deeds [] = tt
  any_deeds (d ∷ deeds) = (tt, any_deeds deeds)

  grow_lasts : Lasts Grows AnyOfGrowing AnyMessage
  grow_lasts = record {
    does = λ h d w may a. done_grow h d w a;
    turn_told = λ h m w comes a. note_grow (entry.Turn (end_of_node w.core h) m.0 m.1 ∷ []) w a;
    held_told = λ h need spare w a. note_grow (entry.Held (end_of_node w.core h) need spare ∷ []) w a;
    fetched = λ h w a. turns_grow h FetchMessage w a;
    held = λ h flag w a. turns_grow h (Hold flag) w a;
    marked = λ h flag w a. a;
    come = λ h w a. anyone (AnyMessage h) (λ m. tt) (got_at h w);
    causes = λ h m w comes a. any_deeds (deeds_of w.core w.ports h m);
  }

  all_grow : (h : ℕ) (deeds : List Deed) (w : Work) → Grows w → Grows (all_done h deeds w)
  all_grow h deeds w a = all_last Grows AnyOfGrowing AnyMessage grow_lasts h deeds w (any_deeds deeds) a

  come_grow : (input : NodeInput) (w : Work) → Grows w → Grows (has_come_so input w)
  come_grow (AtEnd h i) w a = more w (has_come_so (AtEnd h i) w) _ refl refl refl a
  come_grow TimePasses w a =
      more (all_come TimePasses w) (has_come_so TimePasses w) _ refl refl refl (more w (all_come TimePasses w) _ refl refl refl a)

  freed_grow : (input : NodeInput) (w : Work) → Grows w
      → Grows (record (has_come_so input w) {
        core = after_sessions (has_come_so input w).core (has_come_so input w).ports;
        ports = map without_notice (map (forgets (has_come_so input w).ports) (has_come_so input w).ports);
      })
  freed_grow input w a =
      let came : Work = has_come_so input w in
      more came (record came { core = after_sessions came.core came.ports; ports = map without_notice (map (forgets came.ports) came.ports) }) []
      (grind arith) refl (sym (append-nil came.entries)) (come_grow input w a)

  -- as a pass begins
  pub begun_grows : (input : NodeInput) (w : Work) → Grows w → Grows (comes_to_pass input w)
  begun_grows input w a =
      unless Grows (all_done 0 (owed_in_step input w)) (has_synced input w) (λ v b. all_grow 0 (owed_in_step input w) v b)
      (all_grow 0 (syncs_in input w) (has_freed input w) (all_grow 0 (forgotten (has_come_so input w).ports) _ (freed_grow input w a)))

  -- as a step ends
  steps_grow : (input : NodeInput) (w : Work) → Grows w → Grows (steps input w)
  steps_grow input w a =
      let came : Work = has_come_so input w in
      rest_lasts Grows AnyOfGrowing AnyMessage grow_lasts (forgotten came.ports) (syncs_in input w) (owed_in_step input w)
      (record came { core = after_sessions came.core came.ports; ports = map without_notice (map (forgets came.ports) came.ports) })
      (any_deeds (forgotten came.ports)) (any_deeds (syncs_in input w)) (any_deeds (owed_in_step input w)) (freed_grow input w a)

  -- over turns
  pub comes_grow : (w v : Work) → Grows w → ComesTo w v → Grows v
  comes_grow w v a c = comes_so Grows (record {
    handled = λ u h m messages b on waiting room still. handled Grows AnyOfGrowing AnyMessage grow_lasts h m (deeds_of u.core u.ports h m) u tt
        (any_deeds (deeds_of u.core u.ports h m)) b;
    held = λ u h m messages short b on waiting lacks. holds Grows grow_lasts.held grow_lasts.marked grow_lasts.held_told h short u b;
    let_go = λ u h b on waiting. lets Grows grow_lasts.held h u b;
  }) w a v c

-- where few commands were noted, any command finds room
pub few_find_room : (t : List Entry) (w : Work) → Grows t w → commits (t ++ w.entries) ≤ 4000000000 → (c : Command) → finds_room w.core c ≡ true
few_find_room t w a few c = grind arith

-- ## The generation that a memory says grows by one at most where a commit is written to it, whole or cut

-- the generation of the bank in use
abbrev pub generation_in : List ℕ → ℕ
generation_in content = (state_of content).generation

same_generation : (c d : List ℕ) → journal d ≡ journal c → generation_in d ≡ generation_in c
same_generation c d same = ap (λ (j : Journal). j.head.generation) same

known_generation : (content : List ℕ) (s : State) (t : HciTables) → Knows content s t → generation_in content ≡ s.generation
known_generation content s t k = ap (λ (x : State). x.generation) k.state_is

module _ (content : List ℕ) (s : State) (t : HciTables) (c : Command) (k : Knows content s t) (are : AreTables t) (may : IsRecordable t)
    (command : IsCommand c) (room : FindsRoom s c) (i : ℕ) (fill new : List ℕ) (filled : IsFilled i fill (room_writes s t (body_of c)) content new) where
  abbrev by_room : Bool → List Write
  by_room b = cond b [] (compact_writes s (snapshot_bodies t))

  -- a snapshot that is cut
  snapshot_grows : generation_in new ≤ s.generation + 1
  snapshot_grows = by_fit (record_fits s (body_of c)) refl filled (cases_Bool (is_opened_gate (slice_index fill 0))) where
    same : journal new ≡ journal content → generation_in new ≤ s.generation + 1
    same is = let a = same_generation content new is in let b = known_generation content s t k in omega (arith, a, b)

    whole : new ≡ after_writes (room_writes s t (body_of c)) content → generation_in new ≤ s.generation + 1
    whole is =
        let b = known_generation (after_writes (room_writes s t (body_of c)) content) (with_room s t (body_of c)) t
        (room_knows content s t c k are may command room (record_fits s (body_of c)) refl).0 in
        omega (arith, ap generation_in is, b, commit_grows s t (body_of c))

    by_fit : (b : Bool) → record_fits s (body_of c) ≡ b → IsFilled i fill (by_room b) content new
        → (is_opened_gate (slice_index fill 0) ≡ true) ⊎ (is_opened_gate (slice_index fill 0) ≡ false) → generation_in new ≤ s.generation + 1
    by_fit true is filled gate = absurd filled
    by_fit false is filled (inr closed) =
        same (gate_closed i fill (compact_writes s (snapshot_bodies t)) content new
        (compacting.all_or_nothing content (snapshot_bodies t) s (says_of content s t k)
        (can content s t k are may (next_of content s t c k are may command room is)))
        (snapshot_ends s (snapshot_bodies t) k.in_use) filled (λ last. closed))
    by_fit false is filled (inl opened) = by_last (cases_eq (i + 1) (length (compact_writes s (snapshot_bodies t)))) where
      by_last : (i + 1 ≡ length (compact_writes s (snapshot_bodies t))) ⊎ (i + 1 ≢ length (compact_writes s (snapshot_bodies t)))
          → generation_in new ≤ s.generation + 1
      by_last (inl last) =
          whole (gate_opened i fill (compact_writes s (snapshot_bodies t)) content new (snapshot_ends s (snapshot_bodies t) k.in_use) filled last opened
          ∙ sym (ap (λ b. after_writes (by_room b) content) is))
      by_last (inr off) =
          same (gate_closed i fill (compact_writes s (snapshot_bodies t)) content new
          (compacting.all_or_nothing content (snapshot_bodies t) s (says_of content s t k)
          (can content s t k are may (next_of content s t c k are may command room is)))
          (snapshot_ends s (snapshot_bodies t) k.in_use) filled (λ last. absurd (off last)))

-- a commit that is cut
module _ (m : Memory) (s : State) (t : HciTables) (c : Command) (k : Knows m.content s t) (are : AreTables t) (may : IsRecordable t)
    (command : IsCommand c) (room : FindsRoom s c) (fails : fails_within (length (commit_writes s t (body_of c))) m.plan ≡ true) where
  abbrev first : List Write
  first = room_writes s t (body_of c)

  abbrev left : List ℕ
  left = (after_planned (commit_writes s t (body_of c)) m).content

  abbrev cut : Torn m s t c fails
  cut = torn m s t c fails

  abbrev Parts : Type 0
  Parts = ((cut.i < length first) × IsFilled cut.i cut.fill first m.content left)
      ⊎ ((j : ℕ) × (cut.i ≡ length first + j) × IsFilled j cut.fill (append_writes (with_room s t (body_of c)) (body_of c)) (after_writes first m.content) left)

  cut_grows : generation_in left ≤ s.generation + 1
  cut_grows = by_part (parts m.content s t c k are may command room cut.i cut.fill left cut.filled) where
    by_part : Parts → generation_in left ≤ s.generation + 1
    by_part (inl front) = snapshot_grows m.content s t c k are may command room cut.i cut.fill left front.1
    by_part (inr back) = by_test (opens_gate (length (commit_writes s t (body_of c))) m.plan)
        (λ opens. let o = cut.opened (length (commit_writes s t (body_of c))) opens in
        let b = known_generation left (committed s t (body_of c)) (apply t c)
        (commit_opened m.content s t c k are may command room cut.i cut.fill left cut.filled o.0 o.1) in
        omega (arith, b, commit_grows s t (body_of c)))
        (λ opens. let r = room_knows m.content s t c k are may command room (record_fits s (body_of c)) refl in
        let a = same_generation (after_writes first m.content) left
        (record_same (after_writes first m.content) (with_room s t (body_of c)) t r.0 c command r.1 back.0 cut.fill left back.2
        (λ last. cut.closed (length (commit_writes s t (body_of c))) opens (omega (
          arith,
          last,
          back.1,
          many m.content s t c k are may command room cut.i cut.fill left cut.filled,
        )))) in
        omega (arith, a, known_generation (after_writes first m.content) (with_room s t (body_of c)) t r.0, commit_grows s t (body_of c)))

-- ## In a history the generation of the controller's memory is one above the commands that were noted, at most

-- ### A step of a node

module _ (n : ℕ) (node : IsNodeNumber n) (hosts : List ℕ) (are : AreHosts hosts) (t : List Entry) (m : Memory) (r : Running)
    (runs : RunsSo n hosts m.content t r)
    (few : generation_in m.content ≤ 1 + commits t) (near_ends : ℕ → NumberedEnd) (es : List Entry) (plain : AllByRecursion IsPlain es) where
  abbrev pub node_begun : Work
  node_begun = work_of r m.plan near_ends es

  pub node_begins_grown : Grows t node_begun
  node_begins_grown = omega (arith, known_generation m.content r.core.journal r.core.tables runs.knows, commits-append t es, few)

  still : StillRuns n hosts m t node_begun
  still = runs_begun n hosts t m r near_ends es plain runs

  -- what a step leaves in the memory
  pub node_step_grown : (input : NodeInput)
      → generation_in (after_planned (steps input node_begun).writes m).content ≤ 1 + commits (t ++ (steps input node_begun).entries)
  node_step_grown input = by (steps_fine n hosts m t node are input node_begun still runs.on) where
    k : Work
    k = steps input node_begun

    grown : Grows t k
    grown = steps_grow t input node_begun node_begins_grown

    by : GoesOn_or_lost n hosts m t k → generation_in (after_planned k.writes m).content ≤ 1 + commits (t ++ k.entries)
    by (inl (on, order)) =
        let a = ap (λ (x : Memory). generation_in x.content) (ap (λ l. after_planned l m) (sym (append-nil k.writes)) ∙ on.written []) in
        let b = known_generation on.memory.content k.core.journal k.core.tables on.knows in
        omega (arith, a, b, grown)
    by (inr lost) =
        let u : Work = lost.lost.work in
        let ran : StillRuns n lost.lost.hosts m t u = lost.lost.ran in
        let writes : List Write = commit_writes u.core.journal u.core.tables (body_of lost.command) in
        let fails : fails_within (length writes) ran.memory.plan ≡ true = ap (fails_within (length writes)) (sym ran.plan_is) ∙ lost.lost.fails in
        let a = ap (λ (x : Memory). generation_in x.content) (ap (λ l. after_planned l m) (ap (λ (x : Work). x.writes) lost.lost.is) ∙ ran.written writes) in
        let b = cut_grows ran.memory u.core.journal u.core.tables lost.command ran.knows ran.sorted ran.recordable lost.lost.may lost.lost.room fails in
        omega (arith, a, b, ap (λ (x : Core). x.journal.generation) (ap (λ (x : Work). x.core) lost.lost.is), ap spent lost.off, grown)

-- ### A step of the controller

module _ (hosts : List ℕ) (are : AreHosts hosts) (t : List Entry) (m : Memory) (r : Running) (runs : RunsSo 0 hosts m.content t r)
    (few : generation_in m.content ≤ 1 + commits t) (near_ends : ℕ → NumberedEnd) (es : List Entry) (plain : AllByRecursion IsPlain es) where
  abbrev begun : Work
  begun = work_of r m.plan near_ends es

  begins_grown : Grows t begun
  begins_grown = node_begins_grown 0 (inl refl) hosts are t m r runs few near_ends es plain

  -- what a step leaves in the memory
  step_grown : (input : NodeInput) → generation_in (after_planned (steps input begun).writes m).content ≤ 1 + commits (t ++ (steps input begun).entries)
  step_grown input = node_step_grown 0 (inl refl) hosts are t m r runs few near_ends es plain input

-- ### A boot

pub boot_grown : (m : Memory) (most : ℕ) → 65536 ≤ length m.content → generation_in m.content ≤ 1 + most
    → generation_in (after_planned (boot_writes m.content) m).content ≤ 1 + most
boot_grown m most size few = by_bank (current m.content) refl where
  by_bank : (o : Option Side) → current m.content ≡ o → generation_in (after_planned (boot_writes m.content) m).content ≤ 1 + most
  by_bank (Some side) is =
      let none : boot_writes m.content ≡ [] = ap (λ p. option_map_or (λ _. []) p format_writes) is in
      let a = ap (λ l. generation_in (after_planned l m).content) none in
      omega (arith, a, few)
  by_bank None is = by_plan (cases_Bool (fails_within (length format_writes) m.plan)) where
    unused : IsUnformatted m.content
    unused = record { size = size; closed = is }

    formats : boot_writes m.content ≡ format_writes
    formats = ap (λ p. option_map_or (λ _. []) p format_writes) is

    whole : generation_in (after_writes format_writes m.content) ≤ 1 + most
    whole = let a = ap (λ (x : State). x.generation) (format_state m.content unused) in omega (arith, a)

    by_plan : (fails_within (length format_writes) m.plan ≡ true) ⊎ (fails_within (length format_writes) m.plan ≡ false)
        → generation_in (after_planned (boot_writes m.content) m).content ≤ 1 + most
    by_plan (inr none) =
        let b = ap generation_in (planned_whole format_writes m none).0 in
        omega (arith, ap (λ l. generation_in (after_planned l m).content) formats, b, whole)
    by_plan (inl fails) =
        let cut = planned_cut format_writes m fails in
        let left : List ℕ = (after_planned format_writes m).content in
        let b = ap (λ (j : Journal). j.head.generation) ((format_is_cut m.content unused).says cut.0 left cut.1) in
        let either = by_gate (eqb (cut.0 + 1) (length format_writes) && is_opened_gate (slice_index left (last_place format_writes))) in
        omega (arith, ap (λ l. generation_in (after_planned l m).content) formats, b, either)
      where
        by_gate : (b : Bool) → (journal (cond b (after_writes format_writes m.content) m.content)).head.generation ≤ 1 + most
        by_gate true = whole
        by_gate false = few

-- ### Events

-- the memory of the controller behind these entries
abbrev pub IsGrown : List Entry → NodeWorld → Type 0
IsGrown t w = generation_in w.memory.content ≤ 1 + commits t

abbrev ThenGrown : List Entry → NodeWorld × List Entry → Type 0
ThenGrown t p = IsGrown (t ++ p.1) p.0

module _ (hosts : List ℕ) (are : AreHosts hosts) where
  module _ (t : List Entry) (w : NodeWorld) (before : IsGrown t w) where
    same : (v : NodeWorld) (es : List Entry) → generation_in v.memory.content ≡ generation_in w.memory.content → ThenGrown t (v, es)
    same v es is = let more = commits-append t es in omega (arith, is, before, more)

    kept : (es : List Entry) → IsGrown (t ++ es) w
    kept es = let more = commits-append t es in omega (arith, before, more)

    -- the controller has had a step
    stepped : (r : Running) → RunsSo 0 hosts w.memory.content t r → (near_ends : ℕ → NumberedEnd) (es frames : List Entry) → AllByRecursion IsPlain es
        → (input : NodeInput) (v : NodeWorld) → v.memory ≡ after_planned (steps input (work_of r w.memory.plan near_ends es)).writes w.memory
        → ThenGrown t (v, (steps input (work_of r w.memory.plan near_ends es)).entries ++ frames)
    stepped r runs near_ends es frames plain input v is =
        let k : Work = steps input (work_of r w.memory.plan near_ends es) in
        let b = ap (λ (x : Memory). generation_in x.content) is in
        let one = commits-append t (k.entries ++ frames) in
        let two = commits-append k.entries frames in
        omega (arith, step_grown hosts are t w.memory r runs before near_ends es plain input, b, one, two, commits-append t k.entries)

    runs_so : AllKeep hosts t w → (r : Running) → w.controller ≡ Some r → RunsSo 0 hosts w.memory.content t r
    runs_so all r q = subst (IfRuns 0 hosts w.memory.content t) q all.controller.runs

    near_does : AllKeep hosts t w → (h : ℕ) (comes : Comes) (i : LinkInput) → ThenGrown t (controller_does w h comes (steps (AtEnd h i)))
    near_does all h comes i =
        by_controller (ThenGrown t) w h comes (steps (AtEnd h i)) (same w [] refl)
        (λ r q. stepped r (runs_so all r q) (λ n. near_end_in (link_to w.sites n) (comes_to h comes n))
        (entries_for h (arrival Controller (link_to w.sites h) comes)) (flat_map (λ (s : Site). frames_noted Controller s.host
        (wires_for s.link (comes_to h comes s.host)) (controller_work w r h comes (steps (AtEnd h i)))) w.sites)
        (plain_entries h (arrival Controller (link_to w.sites h) comes)) (AtEnd h i)
        (after_controller w h comes (controller_work w r h comes (steps (AtEnd h i)))).0 refl)

    far_does : (h : ℕ) (comes : Comes) (f : Work → Work) → ThenGrown t (host_does w h comes f)
    far_does h comes f = by_host (ThenGrown t) w h comes f (same w [] refl) (λ s r here q. kept _)

    comes_grown : AllKeep hosts t w → (e : End) (comes : Comes) → ThenGrown t (comes_at w e comes)
    comes_grown all e comes =
        by_coming (ThenGrown t) w e comes (same w [] refl) (λ i at q. far_does e.link comes (steps (AtEnd e.link i))) (λ i at q. near_does all e.link comes i)

    far_comes : (h : ℕ) (comes : Comes) → ThenGrown t (comes_at w (end_h h) comes)
    far_comes h comes =
        by_coming (ThenGrown t) w (end_h h) comes (same w [] refl) (λ i at q. far_does h comes (steps (AtEnd h i))) (λ i at q. absurd (true≢false at))

    -- power and memories
    written : 65536 ≤ length w.memory.content → (n : ℕ) → generation_in (boot_written w n).memory.content ≤ 1 + commits t
    written size n =
        by_memory (λ v. generation_in v.memory.content ≤ 1 + commits t) n w (after_planned (boot_writes (memory_at w n).content) (memory_at w n))
        (λ z.
        let is : memory_at w n ≡ w.memory = rw z refl in
        subst (λ (x : Memory). generation_in (after_planned (boot_writes x.content) x).content ≤ 1 + commits t) (sym is)
        (boot_grown w.memory (commits t) size before)) (λ z. before)

    loses_grown : (n : ℕ) (v : NodeWorld) → generation_in v.memory.content ≤ 1 + commits t → ThenGrown t (loses_power_at n v, entry.Cut n ∷ [])
    loses_grown n v few =
        by_power (λ u. ThenGrown t (u, entry.Cut n ∷ [])) n v (λ z. let more = commits-append t (entry.Cut n ∷ []) in omega (arith, few, more))
        (λ z. let more = commits-append t (entry.Cut n ∷ []) in omega (arith, few, more))

    boots_grown : 65536 ≤ length w.memory.content → (n : ℕ) → ThenGrown t (boots w n)
    boots_grown size n =
        by_boot (ThenGrown t) w n (loses_grown n (boot_written w n) (written size n))
        (by_running (λ u. ThenGrown t (u, entry.Booted n (count_of (boot_found w n).core.journal) ∷ [])) n (boot_written w n) (boot_found w n)
        (λ z. let few = written size n in let more = commits-append t (entry.Booted n (count_of (boot_found w n).core.journal) ∷ []) in omega
        (arith, few, more))
        (λ z. let few = written size n in let more = commits-append t (entry.Booted n (count_of (boot_found w n).core.journal) ∷ []) in omega
        (arith, few, more)))

    lost_grown : (e : End) (why : Loss) → ThenGrown t (frame_lost w e why)
    lost_grown e why = by_loss (ThenGrown t) w e why (λ at. kept _) (λ at. kept _)

    arms_grown : (n : ℕ) (plan : Plan) → ThenGrown t (world_step w (Arms n plan))
    arms_grown n plan =
        by_memory (λ v. ThenGrown t (v, [])) n w (record (memory_at w n) { plan = Some plan })
        (λ z. same (record w { memory = record (memory_at w n) { plan = Some plan } }) []
        (let is : memory_at w n ≡ w.memory = rw z refl in ap (λ (x : Memory). generation_in x.content) is))
        (λ z. kept [])

  tick_grown : (t : List Entry) (w : NodeWorld) → IsGrown t w → AllKeep hosts t w → ThenGrown t (controller_ticks w)
  tick_grown t w before all =
      by_controller_tick (ThenGrown t) w (λ z. kept t w before [])
      (λ r q. stepped t w before r (runs_so t w before all r q) (λ h. (link_to w.sites h).controller) []
      (flat_map (λ (s : Site). frames_noted Controller s.host s.link (near_tick w r)) w.sites) tt TimePasses (after_near_tick w (near_tick w r)).0 refl)

  ticks_grown : (t : List Entry) (w : NodeWorld) → IsGrown t w → AllKeep hosts t w → ThenGrown t (world_ticks w)
  ticks_grown t w before all =
      let old : NodeWorld × List Entry = all_aged w in
      let near : NodeWorld × List Entry = controller_ticks old.0 in
      let far : List Site × List Entry = hosts_tick near.0.sites in
      let first : IsGrown (t ++ old.1) old.0 = same t w before old.0 old.1 refl in
      let second : IsGrown ((t ++ old.1) ++ near.1) near.0 = tick_grown (t ++ old.1) old.0 first (aged_goes hosts are t w all).keep in
      let third : IsGrown (((t ++ old.1) ++ near.1) ++ far.1) (record near.0 { sites = far.0 }) =
      same ((t ++ old.1) ++ near.1) near.0 second (record near.0 { sites = far.0 }) far.1 refl in
      subst (λ l. IsGrown l (record near.0 { sites = far.0 })) (append_assoc (t ++ old.1) near.1 far.1 ∙ append_assoc t old.1 (near.1 ++ far.1)) third

  activates_grown : (t : List Entry) (w : NodeWorld) → IsGrown t w → AllKeep hosts t w → (h sync power : ℕ) → ThenGrown t (activates w h sync power)
  activates_grown t w before all h sync power =
      let near : NodeWorld × List Entry = comes_at w (end_c h) (Starts power) in
      let far : NodeWorld × List Entry = comes_at near.0 (end_h h) (Starts sync) in
      subst (λ l. IsGrown l far.0) (append_assoc t near.1 far.1)
      (far_comes (t ++ near.1) near.0 (comes_grown t w before all (end_c h) (Starts power)) h (Starts sync))

  event_grown : (t : List Entry) (w : NodeWorld) (c : Happening) → IsGrown t w → AllKeep hosts t w → ThenGrown t (world_step w c)
  event_grown t w (Boots n) before all = boots_grown t w before all.controller.would.finds.size n
  event_grown t w (IsCut n) before all = loses_grown t w before n w before
  event_grown t w (Gives e m) before all = far_does t w before e.link NoInput (begins_with e.link (sending e.link m))
  event_grown t w (Inits e identity pipes) before all = far_does t w before e.link NoInput (begins_with e.link (beginning identity pipes))
  event_grown t w (Takes e) before all = comes_grown t w before all e NextFrame
  event_grown t w (Loses e why) before all = lost_grown t w before e why
  event_grown t w Ticks before all = ticks_grown t w before all
  event_grown t w (Resets e window) before all = comes_grown t w before all e (AsksReset window)
  event_grown t w (Activates h sync power) before all = activates_grown t w before all h sync power
  event_grown t w (Arms n plan) before all = arms_grown t w before n plan

-- ### Histories

-- what lasts over each event, where all nodes keep what is read, holds behind any first ones
pub history_lasts : (P : List Entry → NodeWorld → Type 0) (header : Header) (lines : List Line) (t : NodeHistory) → FollowsNodes header lines t
    → AreHosts header.hosts.items → AllByRecursion IsSentByHost lines → IsFew (node_entries t)
    → ((t : List Entry) (w : NodeWorld) (c : Happening) → P t w → AllKeep header.hosts.items t w → P (t ++ (world_step w c).1) (world_step w c).0)
    → P [] (new_world header.hosts.items) → (front back : List Occurrence) → occurrences_in t ≡ front ++ back
    → P (entries_in front) (world_behind (new_world header.hosts.items) front)
history_lasts P header lines t follows are sent few lasts begins front back parts =
    fronts_last P (AllKeep header.hosts.items) lasts (new_world header.hosts.items) (occurrences_in t)
    (λ f b p. (events_so header lines t follows are sent few f b p).keep) [] front back parts
    (subst (AreCaused Any (new_world header.hosts.items)) parts (history_caused header lines t follows)) begins

pub history_grown : (header : Header) (lines : List Line) (t : NodeHistory) → FollowsNodes header lines t → AreHosts header.hosts.items
    → AllByRecursion IsSentByHost lines → IsFew (node_entries t) → (front back : List Occurrence) → occurrences_in t ≡ front ++ back
    → IsGrown (entries_in front) (world_behind (new_world header.hosts.items) front)
history_grown header lines t follows are sent few front back parts =
    history_lasts IsGrown header lines t follows are sent few (event_grown header.hosts.items are) blank_grown front back parts
  where
    blank_grown : IsGrown [] (new_world header.hosts.items)
    blank_grown =
        let a = ap (λ (j : Journal). j.head.generation) (no_journal (replicate 65536 255) (fresh 65536 (omega arith)).closed) in omega (arith, a)

-- ## In a history the controller finds room for any command in the turns of each of its passes, while few commands were noted

module _ (header : Header) (lines : List Line) (t : NodeHistory) (follows : FollowsNodes header lines t) (are : AreHosts header.hosts.items)
    (front back : List Occurrence) (parts : occurrences_in t ≡ front ++ back) (w : NodeWorld) (is : world_behind (new_world header.hosts.items) front ≡ w)
    (r : Running) (runs : w.controller ≡ Some r) where
  abbrev hosts : List ℕ
  hosts = header.hosts.items

  waits : WaitsRead (entries_in front) w
  waits = subst (WaitsRead (entries_in front)) is (history_waits header lines t follows are front back parts)

  pub comes_wait : (h : ℕ) (comes : Comes) (i : LinkInput) → input_of (link_to w.sites h) comes ≡ Some i
      → MessagesAreRead (entries_in front ++ (comes_to_pass (AtEnd h i) (controller_begins w r h comes)).entries)
      (comes_to_pass (AtEnd h i) (controller_begins w r h comes)).ports
  comes_wait h comes i input = comes_messages (entries_in front) w waits r runs h comes i input

  pub tick_waits : MessagesAreRead ((entries_in front ++ (all_aged w).1) ++ (comes_to_pass TimePasses (as_it_ticks w r)).entries)
      (comes_to_pass TimePasses (as_it_ticks w r)).ports
  tick_waits = tick_messages (entries_in front) w waits r runs

  module _ (sent : AllByRecursion IsSentByHost lines) (few : IsFew (node_entries t)) where
    keep : AllKeep hosts (entries_in front) w
    keep = subst (AllKeep hosts (entries_in front)) is (events_so header lines t follows are sent few front back parts).keep

    grown : IsGrown (entries_in front) w
    grown = subst (IsGrown (entries_in front)) is (history_grown header lines t follows are sent few front back parts)

    -- and as a step begins
    starts_room : (h : ℕ) (comes : Comes) (i : LinkInput)
        → commits (entries_in front ++ (comes_to_pass (AtEnd h i) (controller_begins w r h comes)).entries) ≤ 4000000000
        → HasRoomForAll (controller_begins w r h comes)
    starts_room h comes i most =
        let begun : Work = controller_begins w r h comes in
        let so : RunsSo 0 hosts w.memory.content (entries_in front) r = subst (IfRuns 0 hosts w.memory.content (entries_in front)) runs keep.controller.runs in
        let first : Grows (entries_in front) begun =
        begins_grown hosts are (entries_in front) w.memory r so grown (λ k. near_end_in (link_to w.sites k) (comes_to h comes k))
        (entries_for h (arrival Controller (link_to w.sites h) comes)) (plain_entries h (arrival Controller (link_to w.sites h) comes)) in
        let whole = ap (λ l. commits (entries_in front ++ l)) (before_entries (AtEnd h i) begun) in
        let one = commits-append (entries_in front) (begun.entries ++ noted_before_pass (AtEnd h i) begun) in
        let two = commits-append begun.entries (noted_before_pass (AtEnd h i) begun) in
        few_find_room (entries_in front) begun first (omega (arith, whole, one, two, commits-append (entries_in front) begun.entries, most))

    pub comes_room : (h : ℕ) (comes : Comes) (i : LinkInput) (v : Work) → ComesTo (comes_to_pass (AtEnd h i) (controller_begins w r h comes)) v
        → commits (entries_in front ++ v.entries) ≤ 4000000000 → HasRoomForAll v
    comes_room h comes i v reached most =
        let so : RunsSo 0 hosts w.memory.content (entries_in front) r = subst (IfRuns 0 hosts w.memory.content (entries_in front)) runs keep.controller.runs in
        let first : Grows (entries_in front) (controller_begins w r h comes) =
        begins_grown hosts are (entries_in front) w.memory r so grown (λ k. near_end_in (link_to w.sites k) (comes_to h comes k))
        (entries_for h (arrival Controller (link_to w.sites h) comes)) (plain_entries h (arrival Controller (link_to w.sites h) comes)) in
        few_find_room (entries_in front) v
        (comes_grow (entries_in front) (comes_to_pass (AtEnd h i) (controller_begins w r h comes)) v
        (begun_grows (entries_in front) (AtEnd h i) (controller_begins w r h comes) first) reached) most

    pub tick_room : (v : Work) → ComesTo (comes_to_pass TimePasses (as_it_ticks w r)) v
        → commits ((entries_in front ++ (all_aged w).1) ++ v.entries) ≤ 4000000000 → HasRoomForAll v
    tick_room v reached most =
        let old : AllKeep hosts (entries_in front ++ (all_aged w).1) (all_aged w).0 = (aged_goes hosts are (entries_in front) w keep).keep in
        let so : RunsSo 0 hosts w.memory.content (entries_in front ++ (all_aged w).1) r = grind arith in
        let now : IsGrown (entries_in front ++ (all_aged w).1) w =
        (let more = commits-append (entries_in front) (all_aged w).1 in omega (arith, grown, more)) in
        let first : Grows (entries_in front ++ (all_aged w).1) (as_it_ticks w r) =
        begins_grown hosts are (entries_in front ++ (all_aged w).1) w.memory r so now (λ h. (link_to (all_aged w).0.sites h).controller) [] tt in
        few_find_room (entries_in front ++ (all_aged w).1) v
        (comes_grow (entries_in front ++ (all_aged w).1) (comes_to_pass TimePasses (as_it_ticks w r)) v
        (begun_grows (entries_in front ++ (all_aged w).1) TimePasses (as_it_ticks w r) first) reached) most

-- ## In a history each pass of the controller begins as is asked of it, so it replies to messages as is read

module _ (header : Header) (lines : List Line) (t : NodeHistory) (follows : FollowsNodes header lines t) (are : AreHosts header.hosts.items)
    (seven : length header.hosts.items ≤ 7) (sent : AllByRecursion IsSentByHost lines) (few : IsFew (node_entries t))
    (front back : List Occurrence) (parts : occurrences_in t ≡ front ++ back) (asked : commands_by_events front ≤ 4000000000) (playable : ArePlayable lines)
    (w : NodeWorld) (is : world_behind (new_world header.hosts.items) front ≡ w) (r : Running) (runs : w.controller ≡ Some r) where
  caused : AreCausedSo (new_world header.hosts.items) front
  caused = front_so header lines t follows playable front back parts

  module _ (h : ℕ) (comes : Comes) (i : LinkInput) (input : input_of (link_to w.sites h) comes ≡ Some i) where
    comes_few : (v : Work) → ComesTo (comes_to_pass (AtEnd h i) (controller_begins w r h comes)) v → commits (entries_in front ++ v.entries) ≤ 4000000000
    comes_few v reached =
        let most = passes_bounded header.hosts.items front are seven caused w is r runs h comes i input v reached in omega (arith, most, asked)

    pub comes_roomy : HasRoomForAll (controller_begins w r h comes)
    comes_roomy =
        starts_room header lines t follows are front back parts w is r runs sent few h comes i
        (comes_few (comes_to_pass (AtEnd h i) (controller_begins w r h comes)) Begins)

    pub comes_begins : BeginsPass (entries_in front) (comes_to_pass (AtEnd h i) (controller_begins w r h comes))
    comes_begins = record {
      room = λ v reached. comes_room header lines t follows are front back parts w is r runs sent few h comes i v reached (comes_few v reached);
      messages = comes_wait header lines t follows are front back parts w is r runs h comes i input;
    }

    pub comes_are_replied : (comes_to_pass (AtEnd h i) (controller_begins w r h comes)).cut ≡ false
        → AreRepliedIn header.hosts.items (entries_in front) (comes_to_pass (AtEnd h i) (controller_begins w r h comes))
    comes_are_replied on = comes_replied header lines t follows are playable sent few front back parts w is r runs h comes i input on comes_begins

  -- ### Ticks

  abbrev since : List Entry
  since = entries_in front ++ (all_aged w).1

  pub tick_begins : BeginsPass since (comes_to_pass TimePasses (as_it_ticks w r))
  tick_begins = record {
    room = λ v reached. tick_room header lines t follows are front back parts w is r runs sent few v reached
        (let most = ticks_bounded header.hosts.items front are seven caused w is r runs v reached in omega (arith, most, asked));
    messages = tick_waits header lines t follows are front back parts w is r runs;
  }

  pub ticks_are_replied : (comes_to_pass TimePasses (as_it_ticks w r)).cut ≡ false
      → AreRepliedIn header.hosts.items since (comes_to_pass TimePasses (as_it_ticks w r))
  ticks_are_replied on = tick_replied header lines t follows are playable sent few front back parts w is r runs on tick_begins

-- ## A line causes 100 events at most

-- ### Causes

abbrev AreFewWires : List Site → Type 0
AreFewWires sites = AllByRecursion (λ (s : Site). IsFewWires s.link) sites

fine_few : (sites : List Site) → AreFineSites sites → AreFewWires sites
fine_few [] a = tt
fine_few (s ∷ sites) a = (run_few s.link a.0.link.run, fine_few sites a.1)

frames_few : (w : NodeWorld) (e : End) → AreFewWires w.sites → length (frames_at w e) ≤ 64
frames_few w e few = by_side (link_to w.sites e.link) (by_option (site_at w.sites e.link)
    (λ here. rw here (record { to_controller = omega arith; to_host = omega arith }))
    (λ s here. rw here (site_is (λ (x : Site). IsFewWires x.link) w.sites e.link s few here))) e.at_host where
      by_side : (l : Link) → IsFewWires l → (b : Bool) → length (cond b (exchanged l) l).to_controller ≤ 64
      by_side l a b = grind arith

taken_few : (count : Option ℕ) (wire : List OnWire) → length wire ≤ 64 → taken_of count wire ≤ 64
taken_few count wire few = grind arith

-- a line causes 100 events at most
causes_few : (header : Header) (w : NodeWorld) (l : Line) → AreFewWires w.sites → IsNodeLineOf header l → length (happenings w l) ≤ 100
causes_few header w (line.Deliver e count) few is =
    omega (arith, taken_few count (frames_at w e) (frames_few w e few), length-replicate (taken_of count (frames_at w e)) (Takes e))
causes_few header w (line.Damage e places) few is = grind arith
causes_few header w (line.Tick None) few is = omega arith
causes_few header w (line.Tick (Some n)) few is = let long = length-replicate n Ticks in let most = is.1 in omega (arith, long, most)
causes_few header w _ few is = omega arith

-- ### Events

happen_long : (causes : List Happening) (w : NodeWorld) → length (all_happen w causes).1 ≤ length causes
happen_long [] w = omega arith
happen_long (c ∷ causes) w = by_test (can_happen w c) (λ q. rw q (omega (arith, happen_long causes (world_step w c).0))) (λ q. rw q (omega arith))

on_long : (w : NodeWorld) (l : Line) → length (all_happen w (happenings w l)).1 ≤ 100 → length (occurrences_of (goes_on w l).1) ≤ 100
on_long w l a = grind arith

line_long : (header : Header) (w : NodeWorld) (l : Line) → AreFewWires w.sites → IsNodeLineOf header l → length (occurrences_of (line_step w l).1) ≤ 100
line_long header w l few is = by_option (refusal_in w l)
    (λ q. rw q (on_long w l (let one = happen_long (happenings w l) w in let two = causes_few header w l few is in omega (arith, one, two))))
    (λ cause q. rw q (omega arith))

-- as many lines cause 100 events each at most
lines_long : (header : Header) (lines : List Line) (w : NodeWorld) → IsFineWorld w → AreNodeLinesOf header lines → ArePlayable lines
    → length (events_of_steps (steps_from w lines)) ≤ 100 * length lines
lines_long header [] w fine are play = omega arith
lines_long header (l ∷ lines) w fine are play =
    let v : NodeWorld = (line_step w l).0 in
    let rest = lines_long header lines v (lines_fine (l ∷ []) w (play.0, tt) fine) are.1 play.1 in
    let both = length-append (occurrences_of (line_step w l).1) (events_of_steps (steps_from v lines)) in
    omega (arith, line_long header w l (fine_few w.sites fine.sites) are.0, rest, both)

-- behind any first events of a history
pub front_long : (header : Header) (lines : List Line) (t : NodeHistory) → FollowsNodes header lines t → AreNodeLinesOf header lines → ArePlayable lines
    → (front back : List Occurrence) → occurrences_in t ≡ front ++ back → length front ≤ 100 * length lines
front_long header lines t follows are play front back parts =
    let all = lines_long header lines (new_world header.hosts.items) (world_fine header.hosts.items [] tt) are play in
    omega (arith, all, ap length (ap events_of_steps (sym follows.steps_are) ∙ parts), length-append front back)
