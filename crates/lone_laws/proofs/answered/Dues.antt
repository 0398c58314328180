-- Before the first turn in an event a node alone answers what is due.
use Rattle.std.specs.Prelude.{Option, Some, None, not}
use Rattle.lone_laws.proofs.Words.{ActEvent, ActTake, AllByRecursion, AllByRecursion-append, BeginsBehind, Commits, Control, Core, Deed, End, Entry, Err}
use Rattle.lone_laws.proofs.Words.{FrameComes, FrameIsRefused, LinkEnd, LinkInput, List, Lone, LoneCause, LpduFault, Ok, Port, Report, ResetComes, Result, Role}
use Rattle.lone_laws.proofs.Words.{Running, Side, StartComes, StopComes, Sync, TickComes, Work, [], act_event, act_out, after_input, all_come, all_done, ap}
use Rattle.lone_laws.proofs.Words.{append-nil, append_assoc, arith, by_test, cond, control_of, core_since, count_of, deeds_note, emits_behind}
use Rattle.lone_laws.proofs.Words.{end_of_node_alone, entries_for, entry_of, eqb, false, finds_room, flat_map, frames_behind, is_kept_sync, lone_arrival}
use Rattle.lone_laws.proofs.Words.{lone_end, lone_input, lpdu_input, node_input, noted_by_deeds, noted_since, own_side, refl, report, session_now, session_with}
use Rattle.lone_laws.proofs.Words.{subst, sym, sync_due, synced, syncs_in, told, told_all, told_at, true, whole_acked, ℕ, ◌&&◌, ◌++◌, ◌∙◌, ◌∷◌, ◌≡◌, ◌≤◌}
use Rattle.trace_model.specs.declared.entry.Entry.TheVariants as entry
use Rattle.swp_base.specs.declared.control_frames.Act.TheVariants.{SyncId, Ready, PowerMode}
use Rattle.lone_laws.proofs.answered.Replying.{AnswersOwn, AreUntil, IsDueOwn, IsMuteEntry, IsNotedSo, deeds_answer, entries_of_deeds, noted_answers}
use Rattle.lone_laws.proofs.answered.Replying.{noted_as_reply}
use Rattle.lone_laws.proofs.answered.Reading.{Read, Alone, core_is}
use Rattle.lone_laws.proofs.answered.Coming.{comes_there, came_entries, pass_is}
use Rattle.lone_laws.proofs.answered.Stepping.{lone_comes}
use Rattle.lone_laws.proofs.answered.Knowing.{arrival_nothing, begin_read, begins_alone, begun, ended, pass_noted, start, start_alone}
use Rattle.lone_laws.proofs.answered.Talking.{kind_of}
use Rattle.lone_laws.proofs.answered.Replied.{notes_hold}
use Rattle.lone_laws.proofs.answered.Answering.{none_until, emits_mute}
use Rattle.lone_laws.proofs.answered.Keeping.{core_of, KeepsAll}
use Rattle.swp_base.specs.declared.control_frames.Control.TheVariants as control

-- ## What a frame says of an identifier

-- the identifier that a frame of activation brings to a CLF
abbrev wanted : ActEvent → Option ℕ
wanted (ActTake (SyncId id) false) = Some id
wanted _ = None

out_none : (r : Role) (o : Option ActEvent) → kind_of r ≡ Some false → (act_out r o).sync ≡ None
out_none r o q = grind arith

-- the command that keeps an identifier
abbrev of_sync : Core → ℕ → Option ℕ → List Deed
of_sync core h None = []
of_sync core h (Some id) = cond (not (is_kept_sync core.tables.syncs h id) && finds_room core (Sync h id)) (Commits (Sync h id) ∷ []) []

synced_is : (core : Core) (h : ℕ) (i : LinkInput) (p : Port) (o : Option ℕ) → p.desk.host ≡ h → (report p.side i).sync ≡ o
    → synced core (node_input h i) p ≡ of_sync core h o
synced_is core h i p None host q = rw (comes_there h i p host, q) refl
synced_is core h i p (Some id) host q = grind arith

frame_due : (core : Core) (h : ℕ) (s : LinkEnd) (bytes : List ℕ) → eqb core.node 0 ≡ true → kind_of s.role ≡ Some true
    → of_sync core h (report s (lpdu_input bytes)).sync ≡ sync_due core h (FrameComes bytes)
frame_due core h s bytes zero kind = go (control_of bytes) refl where
  act : (event : ActEvent) → (act_out s.role (Some event)).sync ≡ wanted event
  act event = grind arith

  go : (x : Result Control LpduFault) → control_of bytes ≡ x → of_sync core h (report s (lpdu_input bytes)).sync ≡ sync_due core h (FrameComes bytes)
  go (Err fault) q = rw (q, zero) refl
  go (Ok (control.Act (SyncId id) false)) q = rw (q, zero) (ap (of_sync core h) (act (ActTake (SyncId id) false)))
  go (Ok (control.Act (SyncId id) true)) q = rw (q, zero) (ap (of_sync core h) (act (ActTake (SyncId id) true)))
  go (Ok (control.Act Ready again)) q = grind arith
  go (Ok (control.Act (PowerMode code) again)) q = grind arith
  go (Ok _) q = rw (q, zero) refl

other_due : (core : Core) (h : ℕ) (c : LoneCause) → eqb core.node 0 ≡ false → sync_due core h c ≡ []
other_due core h c another = grind arith

input_due : (core : Core) (h : ℕ) (s : LinkEnd) (c : LoneCause) (i : LinkInput) → lone_input c ≡ Some i → kind_of s.role ≡ Some (eqb core.node 0)
    → of_sync core h (report s i).sync ≡ sync_due core h c
input_due core h s c i comes kind = by_test (eqb core.node 0)
    (λ zero. clf zero c comes)
    (λ another. ap (of_sync core h) (out_none s.role (act_event s i) (kind ∙ ap (λ b. Some b) another)) ∙ sym (other_due core h c another)) where
      clf : eqb core.node 0 ≡ true → (c : LoneCause) → lone_input c ≡ Some i → of_sync core h (report s i).sync ≡ sync_due core h c
      clf zero (FrameComes bytes) q =
          let is : lpdu_input bytes ≡ i = cc in
          subst (λ x. of_sync core h (report s x).sync ≡ sync_due core h (FrameComes bytes)) is (frame_due core h s bytes zero (kind ∙ ap (λ b. Some b) zero))
      clf zero (FrameIsRefused fault) q = absurd (cc q)
      clf zero TickComes q = grind arith
      clf zero (ResetComes window) q = grind arith
      clf zero (StartComes value) q = grind arith
      clf zero StopComes q = grind arith

-- ## What is noted first

told_mute : (h : ℕ) (who : Side) (n acked : ℕ) (rep : Report) → AllByRecursion IsMuteEntry (entries_for h (told who n rep acked))
told_mute h who n acked rep =
    notes_hold IsMuteEntry h (told who n rep acked)
    (told_all (λ x. AllByRecursion IsMuteEntry (entry_of h x)) who n acked ((refl, refl, refl), tt) ((refl, refl, refl), tt)
    (λ k. ((refl, refl, refl), tt)) ((refl, refl, refl), tt) (λ m. ((refl, refl, refl), tt)) (λ c. ((refl, refl, refl), tt)) rep)

mute_answers : (x : Entry) (es answers : List Entry) → IsMuteEntry x → AnswersOwn es answers → AnswersOwn (x ∷ es) answers
mute_answers x es answers mute a = grind arith

mutes_answer : (xs es answers : List Entry) → AllByRecursion IsMuteEntry xs → AnswersOwn es answers → AnswersOwn (xs ++ es) answers
mutes_answer [] es answers mute a = a
mutes_answer (x ∷ xs) es answers mute a = mute_answers x (xs ++ es) answers mute.0 (mutes_answer xs es answers mute.1 a)

-- an identifier that is kept is noted so
sync_noted : (number h : ℕ) (e : End) (session : Option ℕ) (u : Work) (o : Option ℕ) → u.cut ≡ false → u.core.node ≡ number
    → IsNotedSo number h (all_done 0 (of_sync u.core h o) u).cut (noted_by_deeds 0 (of_sync u.core h o) u) (entries_of_deeds u.core e session
    (of_sync u.core h o))
sync_noted number h e session u o on node = grind arith

due_as_reply : (number h : ℕ) (session : Option ℕ) (core : Core) (count : ℕ) (o : Option ℕ) → core.node ≡ number
    → noted_as_reply number h session core count (of_sync core h o) ≡ entries_of_deeds core (end_of_node_alone number h) session (of_sync core h o)
due_as_reply number h session core count o node = grind arith

-- ## A step

module _ (rest : Core) (t : List Entry) (l : Lone) (some : 1 ≤ l.link) (most : l.link ≤ 7) (n : Running)
    (k : KeepsAll rest t l n) (c : LoneCause) (i : LinkInput) (comes : lone_input c ≡ Some i) where
  abbrev G : Core
  G = core_of rest l.number

  abbrev R : Read
  R = begin_read G

  abbrev first : Work
  first = start G t l some most n k.keep c i comes

  abbrev B : Work
  B = begun G t l some most n k.keep c i comes

  abbrev last : Work
  last = ended G t l some most n k.keep c i comes

  abbrev tail : List Entry
  tail = emits_behind l last

  abbrev more : List Entry
  more = (pass_noted G t l some most n k.keep c i comes).more

  abbrev a : Alone l.number l.link R t first
  a = begins_alone R t l n i (lone_arrival l c) (arrival_nothing l c) k.keep

  abbrev e : End
  e = lone_end l

  -- what came, before what is due
  abbrev before : List Entry
  before = lone_arrival l c ++ told_at first.core a.port (Some i)

  abbrev come : Work
  come = all_come (node_input l.link i) first

  abbrev due : List Deed
  due = of_sync n.core l.link (report l.side i).sync

  syncs_are : syncs_in (node_input l.link i) first ≡ due
  syncs_are =
      ap (flat_map (synced first.core (node_input l.link i))) a.ports_are
      ∙ (append-nil (synced first.core (node_input l.link i) a.port) ∙ synced_is n.core l.link i a.port (report l.side i).sync k.keep.host refl)

  is_begun : B ≡ all_done 0 due come
  is_begun =
      pass_is l.number l.link R t i (lone_comes c i comes) first (start_alone G t l some most n k.keep c i comes)
      ∙ ap (λ d. all_done 0 d come) syncs_are

  begun_entries : B.entries ≡ before ++ noted_by_deeds 0 due come
  begun_entries =
      ap (λ (w : Work). w.entries) is_begun
      ∙ (deeds_note 0 due come ∙ ap (λ es. es ++ noted_by_deeds 0 due come) (came_entries l.number l.link R t i (lone_comes c i comes) first a))

  each_is : (front back : List Entry) (x : Entry) → more ≡ front ++ (x ∷ back) → BeginsBehind x back
  each_is front back x q = (let h0 = ((pass_noted G t l some most n k.keep c i comes).each front back x q).1 in grind arith)

  core_read : core_since G t ≡ n.core
  core_read = sym (core_is e t R) ∙ ap (λ (z : Read). z.core) k.keep.read

  due_read : noted_since G l.link t (sync_due (core_since G t) l.link c) ≡ entries_of_deeds n.core e (session_now t e l.number) due
  due_read =
      ap (λ (x : Core). noted_as_reply l.number l.link (session_now t e l.number) x (count_of x.journal) (sync_due x l.link c)) core_read
      ∙ (ap (noted_as_reply l.number l.link (session_now t e l.number) n.core (count_of n.core.journal))
      (sym (input_due n.core l.link l.side c i comes (k.talks.role ∙ ap (λ z. Some (eqb z 0)) (sym k.keep.node))))
      ∙ due_as_reply l.number l.link (session_now t e l.number) n.core (count_of n.core.journal) (report l.side i).sync k.keep.node)

  entries_are_so : last.entries ++ tail ≡ before ++ (noted_by_deeds 0 due come ++ (more ++ tail))
  entries_are_so =
      ap (λ es. es ++ tail) ((pass_noted G t l some most n k.keep c i comes).entries ∙ ap (λ es. es ++ more) begun_entries)
      ∙ (append_assoc (before ++ noted_by_deeds 0 due come) more tail ∙ append_assoc before (noted_by_deeds 0 due come) (more ++ tail))

  -- The answers before the first turn are exactly those that are due.
  pub due_in_step : IsDueOwn G l.link t (record { cause = c; entries = last.entries ++ tail })
  due_in_step =
      let session : Option ℕ = session_now t e l.number in
      let until : AreUntil [] false (more ++ tail) =
      none_until more tail (emits_mute e (frames_behind l last)) (pass_noted G t l some most n k.keep c i comes).begin each_is in
      let one : AnswersOwn (noted_by_deeds 0 due come ++ (more ++ tail)) (entries_of_deeds n.core e session due) =
      noted_answers l.number l.link (all_done 0 due come).cut (noted_by_deeds 0 due come) (entries_of_deeds n.core e session due) (more ++ tail)
      (deeds_answer e session due n.core) (sync_noted l.number l.link e session come (report l.side i).sync refl k.keep.node) (λ q. until) (λ q. until) in
      subst (λ es. AnswersOwn es (noted_since G l.link t (sync_due (core_since G t) l.link c))) (sym entries_are_so)
      (subst (AnswersOwn (before ++ (noted_by_deeds 0 due come ++ (more ++ tail)))) (sym due_read)
      (mutes_answer before (noted_by_deeds 0 due come ++ (more ++ tail)) (entries_of_deeds n.core e session due)
      (AllByRecursion-append IsMuteEntry (lone_arrival l c) (told_at first.core a.port (Some i)) (grind arith)
      (told_mute a.port.desk.host (own_side first.core) (session_with l i) (whole_acked (after_input l.side i)) (report l.side i))) one))
