-- Something comes to an end of the controller, an identifier, too: in this event it answers before its first turn exactly what is due.
use Rattle.node_laws.proofs.Words.{AllByRecursion, AnswersSo, AreDifferent, AreHosts, AreNamed, AreNotOf, AreSessionsRead, AsksReset, AtEnd, Bare, Bool, Comes}
use Rattle.node_laws.proofs.Words.{Command, Commits, Control, Controller, Core, Creation, Cut, CutOff, Deed, Desk, Ending, Entry, Err, GoesOut, Happening}
use Rattle.node_laws.proofs.Words.{HasEnds, HasRoomForAll, HciTables, Host, IsClf, IsDueAt, IsFresh, IsNamed, IsNoAnswer, IsOrderly, Link, LinkEnd, LinkInput}
use Rattle.node_laws.proofs.Words.{List, Loss, LpduRow, NextFrame, NoInput, NodeInput, NodeWorld, None, Noted, NumberedEnd, Occurrence, Ok, OnWire, Option}
use Rattle.node_laws.proofs.Words.{Port, PowerMode, ReadsBetween, Ready, Report, Reset, Response, Restarted, Result, Running, Site, Some, Start, Starts, Stop}
use Rattle.node_laws.proofs.Words.{Stops, Sync, SyncId, Take, Ticked, TimePasses, Took, Work, [], after_controller, aged_entries, all_append, all_flat, ap}
use Rattle.node_laws.proofs.Words.{append-nil, ap₂, arith, arrival, asking_in, begun_at, by_option, by_test, comes_to, cond, controller_begins, controller_does}
use Rattle.node_laws.proofs.Words.{creation_read, down_in, due, end_c, end_of, ended_by, ending_entries, ending_of, ends_session, entries_for, entries_in}
use Rattle.node_laws.proofs.Words.{eq-eqb, eqb, eqb-true, false, filter, find, finds_room, first_lost, flat_map, flat_map-append, frames_noted, frames_out}
use Rattle.node_laws.proofs.Words.{goes_down, has_come, has_come_so, hosts_in, hosts_of_ends, inl, input_at, input_of, inr, is_answer_of, is_kept_sync}
use Rattle.node_laws.proofs.Words.{is_late_in, is_of_node, is_over, is_some, is_tick, is_within, kind_number, link_to, lpdu_of, lpdu_row_of, nat_lt}
use Rattle.node_laws.proofs.Words.{near_end_in, new_link, new_sync, not, noted_of_deeds, notice_in, number_now, option_map_or, or-false, owed, owed_in, port_at}
use Rattle.node_laws.proofs.Words.{port_for, put, put_entries, puts_entries, read_by, refl, report, same_end, session_now, session_of_port, site_at, steps}
use Rattle.node_laws.proofs.Words.{still_asked, subst, sym, synced, syncs_in, table, tables_in, told, told_of_coming, true, true≢false, wires_for, ℕ, ◌%◌, ◌&&◌}
use Rattle.node_laws.proofs.Words.{◌*◌, ◌++◌, ◌+◌, ◌/◌, ◌||◌, ◌∙◌, ◌∷◌, ◌≡◌, ◌≤◌, ◌⊎◌}
use Rattle.link_laws.specs.entries.Entries.{End as Side}
use Rattle.swp_base.specs.declared.control_frames.Act.{Act}
use Rattle.swp_lpdu.specs.Controls.{control_of}
use Rattle.swp_lpdu.specs.declared.LpduFault.{LpduFault}
use Rattle.node_laws.proofs.creations.Knowing.{far_reading}
use Rattle.node_laws.proofs.dues.Freed.{IsElse, any_cause, come_found, come_none, come_so, ends_at, same_port}
use Rattle.node_laws.proofs.dues.Steps.{links_mute, near_due, none_due, one_command}
use Rattle.node_laws.proofs.kept.Stepping.{synced_other}
use Rattle.node_laws.proofs.links.Noticing.{at_host}
use Rattle.node_laws.proofs.notices.Turning.{controller_side, notice_more}
use Rattle.node_laws.proofs.notices.Near.{AreFar, arrival_quiet, far_reads}
use Rattle.node_laws.proofs.passes.InSteps.{IsBehind, IsOfStep, coming_all, step_notes}
use Rattle.node_laws.proofs.passes.Replying.{session_in}
use Rattle.node_laws.proofs.power.Events.{controller_part}
use Rattle.node_laws.proofs.power.Steps.{AreOwn, part_own, steps_fine}
use Rattle.node_laws.proofs.read_rooms.Beginning.{HasSite, site_for}
use Rattle.node_laws.proofs.read_steps.Reading.{IsBegun, comes_starts, far_named}
use Rattle.node_laws.proofs.readings.Sites.{near_end_side}
use Rattle.node_laws.proofs.reply_passes.Ordered.{port_begins}
use Rattle.node_laws.proofs.steps.StepWalks.{at_port}
use Rattle.node_laws.proofs.telling.Events.{Stands, hosts_same_of_nodes as hosts_same, link_is, stands}
use Rattle.node_laws.proofs.telling.Shapes.{told_all}
use Rattle.node_laws.proofs.worlds.Ticking.{any_append, any_none, arrival_downless, ends_by, flat_downless, frames_downless, near_node, near_same, step_at}
use Rattle.node_laws.proofs.worlds.Late.{arrival_unanswered, others_answer}
use Rattle.node_laws.proofs.worlds.Done.{frames_quiet, no_answer}
use Rattle.gate_answers.specs.declared.response.Response.TheVariants as response
use Rattle.swp_base.specs.declared.control_frames.Control.TheVariants as control
use Rattle.trace_model.specs.declared.entry.Entry.TheVariants as entry

-- ## What a controller takes as identifiers are those that are read off LPDUs, and nothing else in a step is read so

-- ### LPDUs

-- the identifier that a frame brings to a controller
abbrev pub brought : Control → Option ℕ
brought (control.Act (SyncId id) false) = Some id
brought _ = None

abbrev pub brought_by : Result Control LpduFault → Option ℕ
brought_by (Ok c) = brought c
brought_by (Err fault) = None

-- no row of the table for bytes from 80 on brings one
module _ (bytes : List ℕ) where
  abbrev Brings : Option LpduRow → Type 0
  Brings o = brought_by (read_by o bytes) ≡ None

  by_row : (r : LpduRow) → brought (r.says bytes) ≡ None → Brings (Some r)
  by_row r none = grind arith

  -- a row that is found brings none, where each does that may be found
  rows_bring : (p : LpduRow → Bool) (rows : List LpduRow) → AllByRecursion (λ r. (brought (r.says bytes) ≡ None) ⊎ (p r ≡ false)) rows → Brings (find p rows)
  rows_bring p [] a = refl
  rows_bring p (r ∷ rows) a = by (p r) refl a.0 (rows_bring p rows a.1) where
    by : (b : Bool) → p r ≡ b → (brought (r.says bytes) ≡ None) ⊎ (p r ≡ false) → Brings (find p rows) → Brings (cond (p r) (Some r) (find p rows))
    by true q (inl none) later = subst (λ b. Brings (cond b (Some r) (find p rows))) (sym q) (by_row r none)
    by true q (inr off) later = absurd (true≢false (sym q ∙ off))
    by false q one later = subst (λ b. Brings (cond b (Some r) (find p rows))) (sym q) later

  high_brings : (b : ℕ) → 0x80 ≤ b → Brings (lpdu_row_of b)
  high_brings b high = rows_bring (λ (r : LpduRow). is_within r.first r.last b) table (grind arith)

pub written : (c : Control) → brought_by (control_of (lpdu_of c)) ≡ brought c
written (control.I ns nr info) = high_brings (lpdu_of (control.I ns nr info)) (0x80 + 8 * ns + nr) (omega arith)
written (control.S kind nr) = high_brings (lpdu_of (control.S kind nr)) (0xC0 + 8 * kind_number kind + nr) (omega arith)
written (control.Act Ready true) = refl
written (control.Act Ready false) = refl
written (control.Act (PowerMode power) true) = refl
written (control.Act (PowerMode power) false) = refl
written (control.Act (SyncId id) true) = refl
written (control.Act (SyncId id) false) = let q : 256 * (id / 256) + id % 256 ≡ id = omega arith in rw q refl
written _ = refl

-- ### Entries

-- an identifier is kept unless it is
abbrev keeps_new : HciTables → ℕ → Option ℕ → List Deed
keeps_new t h None = []
keeps_new t h (Some id) = cond (is_kept_sync t.syncs h id) [] (Commits (Sync h id) ∷ [])

took_read : (t : HciTables) (h : ℕ) (lpdu : List ℕ) → new_sync t (entry.Took (end_c h) lpdu) ≡ keeps_new t h (brought_by (control_of lpdu))
took_read t h lpdu = go (control_of lpdu) refl where
  go : (x : Result Control LpduFault) → control_of lpdu ≡ x → new_sync t (entry.Took (end_c h) lpdu) ≡ keeps_new t h (brought_by (control_of lpdu))
  go (Err fault) q = rw q refl
  go (Ok (control.Act (SyncId id) false)) q = rw q refl
  go (Ok (control.Act (SyncId id) true)) q = rw q refl
  go (Ok (control.Act Ready again)) q = rw q refl
  go (Ok (control.Act (PowerMode code) again)) q = rw q refl
  go (Ok _) q = rw q refl

-- a frame is taken
abbrev pub is_took : Entry → Bool
is_took (entry.Took e lpdu) = true
is_took _ = false

abbrev pub IsTookless : Entry → Type 0
IsTookless x = is_took x ≡ false

abbrev pub AreTookless : List Entry → Type 0
AreTookless es = AllByRecursion IsTookless es

-- nothing is read so of an entry
abbrev pub IsUnread : HciTables → Entry → Type 0
IsUnread t x = new_sync t x ≡ []

pub tookless_all : (t : HciTables) (es : List Entry) → AreTookless es → AllByRecursion (IsUnread t) es
tookless_all t [] a = tt
tookless_all t (x ∷ es) a = (grind arith, tookless_all t es a.1)

pub others_unread : (t : HciTables) (es : List Entry) → AreNotOf 0 es → AllByRecursion (IsUnread t) es
others_unread t [] a = tt
others_unread t (x ∷ es) a = (grind arith, others_unread t es a.1)

pub unread_flat : (t : HciTables) (es : List Entry) → AllByRecursion (IsUnread t) es → flat_map (new_sync t) es ≡ []
unread_flat t [] a = refl
unread_flat t (x ∷ es) a = ap (λ ds. ds ++ flat_map (new_sync t) es) a.0 ∙ unread_flat t es a.1

-- ### What links note

-- no frame that comes
abbrev IsNoTake : Noted → Type 0
IsNoTake (Took who frame) = ⊥
IsNoTake _ = Unit {0}

abbrev AreNoTakes : List Noted → Type 0
AreNoTakes xs = AllByRecursion IsNoTake xs

notes_tookless : (h : ℕ) (xs : List Noted) → AreNoTakes xs → AreTookless (entries_for h xs)
notes_tookless h [] a = tt
notes_tookless h (Took who frame ∷ xs) a = absurd a.0
notes_tookless h (Ticked ∷ xs) a = notes_tookless h xs a.1
notes_tookless h (Restarted who ∷ xs) a = notes_tookless h xs a.1
notes_tookless h (Cut who ∷ xs) a = notes_tookless h xs a.1
notes_tookless h (_ ∷ xs) a = (refl, notes_tookless h xs a.1)

told_takes : (who : Side) (n : ℕ) (r : Report) (acked : ℕ) → AreNoTakes (told who n r acked)
told_takes who n r acked = told_all IsNoTake who n acked tt tt (λ k. tt) tt (λ m. tt) (λ c. tt) r

pub coming_tookless : (input : NodeInput) (w : Work) → AreTookless (told_of_coming input w)
coming_tookless input w = coming_all IsTookless (λ h who n acked r. notes_tookless h (told who n r acked) (told_takes who n r acked)) input w

puts_takes : (who : Side) (l : Link) (cs : List Control) → AreNoTakes (puts_entries who l cs)
puts_takes who l [] = tt
puts_takes who l (c ∷ cs) = all_append IsNoTake (put_entries who l c) (puts_entries who (put l c) cs) (tt, grind arith) (puts_takes who (put l c) cs)

ending_takes : (who : Side) (l : Link) (e : LinkEnd) (ending : Ending) → AreNoTakes (ending_entries who l e ending)
ending_takes who l e GoesOut = puts_takes who l (frames_out e)
ending_takes who l e CutOff = (tt, tt)

pub frames_tookless : (who : Side) (h : ℕ) (l : Link) (k : Work) → AreTookless (frames_noted who h l k)
frames_tookless who h l k = by_option (port_at k.ports h)
    (λ q. rw q tt)
    (λ p q. rw q (notes_tookless h (ending_entries who l p.side (ending_of k)) (ending_takes who l p.side (ending_of k))))

pub first_tookless : (h : ℕ) (who : Side) (why : Loss) (xs : List OnWire) → AreTookless (entries_for h (first_lost who why xs))
first_tookless h who why xs = notes_tookless h (first_lost who why xs) (grind arith)

aged_takes : (who : Side) (xs : List OnWire) → AreNoTakes (aged_entries who xs)
aged_takes who [] = tt
aged_takes who (x ∷ xs) = by_test (nat_lt x.age 4) (λ q. rw q (aged_takes who xs)) (λ q. rw q (tt, aged_takes who xs))

pub aged_tookless : (sites : List Site)
    → AreTookless (flat_map (λ (s : Site). entries_for s.host (aged_entries Controller s.link.to_controller ++ aged_entries Host s.link.to_host)) sites)
aged_tookless [] = tt
aged_tookless (s ∷ sites) =
    all_append IsTookless (entries_for s.host (aged_entries Controller s.link.to_controller ++ aged_entries Host s.link.to_host)) _
    (notes_tookless s.host (aged_entries Controller s.link.to_controller ++ aged_entries Host s.link.to_host)
    (all_append IsNoTake (aged_entries Controller s.link.to_controller) (aged_entries Host s.link.to_host) (aged_takes Controller s.link.to_controller)
    (aged_takes Host s.link.to_host)))
    (aged_tookless sites)

-- ## The identifier that a controller keeps in a step is the one that a frame brings, unless it is kept

-- ### What an input brings

reset_brings : (e : LinkEnd) (window : Option ℕ) → (report e (Reset window)).sync ≡ None
reset_brings e window = refl

start_brings : (e : LinkEnd) (value : ℕ) → IsClf e.role → (report e (Start value)).sync ≡ None
start_brings e value a = grind arith

stop_brings : (e : LinkEnd) → IsClf e.role → (report e Stop).sync ≡ None
stop_brings e a = grind arith

-- ### The command that keeps it

-- that it is kept, unless it is
abbrev few_of : HciTables → ℕ → Option ℕ → Option Command
few_of t h None = None
few_of t h (Some id) = cond (is_kept_sync t.syncs h id) None (Some (Sync h id))

few_is : (t : HciTables) (h : ℕ) (o : Option ℕ) → keeps_new t h o ≡ one_command (few_of t h o)
few_is t h o = grind arith

module _ (core : Core) (room : (c : Command) → finds_room core c ≡ true) where
  synced_here : (h : ℕ) (i : LinkInput) (p : Port) (o : Option ℕ) → p.desk.host ≡ h → (report p.side i).sync ≡ o
      → synced core (AtEnd h i) p ≡ keeps_new core.tables h o
  synced_here h i p o host q = by o q where
    there : input_at (AtEnd h i) p ≡ Some i
    there = let here : eqb p.desk.host h ≡ true = eq-eqb p.desk.host h host in rw here refl

    both : (b : Bool) (ds : List Deed) → cond (not b && true) ds [] ≡ cond b [] ds
    both true ds = refl
    both false ds = refl

    by : (o : Option ℕ) → (report p.side i).sync ≡ o → synced core (AtEnd h i) p ≡ keeps_new core.tables h o
    by None q = rw (there, q) refl
    by (Some id) q =
        (grind arith)
        ∙ (ap (λ b. cond (not (is_kept_sync core.tables.syncs p.desk.host id) && b) (Commits (Sync p.desk.host id) ∷ []) []) (room (Sync p.desk.host id))
        ∙ (grind arith))

none_else : (core : Core) (h : ℕ) (i : LinkInput) (k : ℕ) (ports : List Port) → AllByRecursion (λ (j : ℕ). eqb j k ≡ false) (hosts_of_ends ports) → k ≡ h
    → flat_map (synced core (AtEnd h i)) ports ≡ []
none_else core h i k [] a same = refl
none_else core h i k (p ∷ ports) a same =
    ap (λ ds. ds ++ flat_map (synced core (AtEnd h i)) ports) (synced_other core h i p (subst (λ n. eqb p.desk.host n ≡ false) same a.0))
    ∙ none_else core h i k ports a.1 same

-- that of the end to which it comes
synced_at : (core : Core) (h : ℕ) (i : LinkInput) (ports : List Port) → AreDifferent (hosts_of_ends ports)
    → flat_map (synced core (AtEnd h i)) ports ≡ option_map_or (synced core (AtEnd h i)) (port_at ports h) []
synced_at core h i [] d = refl
synced_at core h i (p ∷ ports) d = by_test (eqb p.desk.host h)
    (λ q. ap (λ ds. synced core (AtEnd h i) p ++ ds) (none_else core h i p.desk.host ports d.0 (eqb-true p.desk.host h q))
    ∙ (grind arith))
    (λ q. ap (λ ds. ds ++ flat_map (synced core (AtEnd h i)) ports) (synced_other core h i p q)
    ∙ (synced_at core h i ports d.1 ∙ sym (ap (λ b. option_map_or (synced core (AtEnd h i)) (cond b (Some p) (port_at ports h)) []) q)))

-- a tick brings none
pub ticks_none : (core : Core) (ports : List Port) → AllByRecursion (λ (p : Port). IsClf p.side.role) ports → flat_map (synced core TimePasses) ports ≡ []
ticks_none core [] a = refl
ticks_none core (p ∷ ports) a =
    (grind arith)
    ∙ ticks_none core ports a.1

-- ## Something comes to an end of the controller: in this event it answers before its first turn exactly what is due

-- ### Where nothing is due

pub tookless_own : (x : Entry) → IsOfStep x → IsTookless x
tookless_own x a = grind arith

other_down : (k : ℕ) (x : Entry) → is_of_node 0 x ≡ false → ends_session any_cause (end_c k) x ≡ false
other_down k x off = grind arith

others_down : (k : ℕ) (es : List Entry) → AreNotOf 0 es → ends_at k es ≡ false
others_down k [] a = refl
others_down k (x ∷ es) a = ap (λ b. b || ends_at k es) (other_down k x a.0) ∙ others_down k es a.1

none_asked : (r : Response) (S : ℕ → Option Creation) → ((k : ℕ) → S k ≡ None) → (hs : List ℕ) → flat_map (λ h. owed r (S h)) hs ≡ []
none_asked r S none [] = refl
none_asked r S none (h ∷ hs) = ap (λ o. owed r o ++ flat_map (λ h. owed r (S h)) hs) (none h) ∙ none_asked r S none hs

filter_none : (test : ℕ → Bool) → ((k : ℕ) → test k ≡ false) → (hs : List ℕ) → filter test hs ≡ []
filter_none test none [] = refl
filter_none test none (h ∷ hs) = ap (λ b. cond b (h ∷ filter test hs) (filter test hs)) (none h) ∙ filter_none test none hs

module _ (hosts : List ℕ) (past : List Occurrence) (o : Occurrence) where
  -- nobody is asked
  pub owed_off : ((k : ℕ) → notice_in (entries_in past) k ≡ None) → owed_in hosts past o ≡ []
  owed_off none =
      ap₂ (λ a b. a ++ b) (none_asked response.NotConnected (still_asked past o) still _) (none_asked response.Timeout (still_asked past o) still _) where
        still : (k : ℕ) → still_asked past o k ≡ None
        still k = ap (λ r. creation_read (entries_in past ++ down_in o) r) (none k)

  -- no session ends, and no notice is late
  pub owed_calm : ((k : ℕ) → goes_down o k ≡ false) → ((k : ℕ) → is_late_in past o k ≡ false) → owed_in hosts past o ≡ []
  owed_calm still none =
      ap₂ (λ a b. flat_map (λ h. owed response.NotConnected (still_asked past o h)) a ++ flat_map (λ h. owed response.Timeout (still_asked past o h)) b)
      (filter_none _ (λ k. ap (λ b. b && not (is_late_in past o k)) (still k)) hosts) (filter_none (is_late_in past o) none hosts)

  pub nothing_due : begun_at 0 o.cause ≡ [] → AllByRecursion (λ x. is_answer_of 0 x ≡ false) o.entries
      → AllByRecursion (IsUnread (tables_in (entries_in past) 0)) o.entries → owed_in hosts past o ≡ [] → IsDueAt hosts past o 0
  nothing_due begun none unread owing =
      let is : due hosts past o 0 ≡ [] =
      ap (λ ds. ds ++ (flat_map (new_sync (tables_in (entries_in past) 0)) o.entries ++ owed_in hosts past o)) begun
      ∙ ap₂ (λ a b. a ++ b) (unread_flat (tables_in (entries_in past) 0) o.entries unread) owing in
      subst (λ ds. AnswersSo 0 o.entries (noted_of_deeds (entries_in past ++ down_in o) 0 0 ds)) (sym is) (none_due o.entries none)

  -- it tells nothing of the controller
  pub others_due : begun_at 0 o.cause ≡ [] → is_tick o.cause ≡ false → AreNotOf 0 o.entries → IsDueAt hosts past o 0
  others_due begun still other =
      nothing_due begun (others_answer 0 o.entries other) (others_unread (tables_in (entries_in past) 0) o.entries other)
      (owed_calm (λ k. others_down k o.entries other)
      (λ k. grind arith))

-- ### The session of an end

pub session_is : (e : NumberedEnd) (d : Desk) → session_in (Some (port_for e d)) ≡ number_now e
session_is e d = grind arith

-- ### What is taken

-- a frame that comes to a CLF brings the identifier that is read off its LPDU
arrival_read : (t : HciTables) (h : ℕ) (l : Link) (comes : Comes) (i : LinkInput) → input_of l comes ≡ Some i → (e : LinkEnd) → IsClf e.role
    → flat_map (new_sync t) (entries_for h (arrival Controller l comes)) ≡ keeps_new t h (report e i).sync
arrival_read t h l NextFrame i is e clf = go l.to_controller refl where
  go : (xs : List OnWire) → l.to_controller ≡ xs
      → flat_map (new_sync t) (entries_for h (arrival Controller l NextFrame)) ≡ keeps_new t h (report e i).sync
  go [] z = let none : None ≡ Some i = rw z at is in absurd (cc none)
  go (x ∷ xs) z =
      let some : Some (Take x.frame) ≡ Some i = rw z at is in
      let same : Take x.frame ≡ i = cc in
      let told : flat_map (new_sync t) (entries_for h (arrival Controller l NextFrame)) ≡ new_sync t (entry.Took (end_c h) (lpdu_of x.frame))
      ++ [] = grind arith in
      subst (λ j. flat_map (new_sync t) (entries_for h (arrival Controller l NextFrame)) ≡ keeps_new t h (report e j).sync) same
      (told
      ∙ (append-nil (new_sync t (entry.Took (end_c h) (lpdu_of x.frame)))
      ∙ (took_read t h (lpdu_of x.frame) ∙ ap (keeps_new t h) (written x.frame ∙ sym (grind arith)))))
arrival_read t h l (AsksReset window) i is e clf =
    let same : Reset window ≡ i = cc in
    subst (λ j. [] ≡ keeps_new t h (report e j).sync) same (sym (ap (keeps_new t h) (reset_brings e window)))
arrival_read t h l (Starts value) i is e clf =
    let same : Start value ≡ i = cc in
    subst (λ j. [] ≡ keeps_new t h (report e j).sync) same (sym (ap (keeps_new t h) (start_brings e value clf)))
arrival_read t h l Stops i is e clf =
    let same : Stop ≡ i = cc in
    subst (λ j. [] ≡ keeps_new t h (report e j).sync) same (sym (ap (keeps_new t h) (stop_brings e clf)))
arrival_read t h l NoInput i is e clf = absurd (cc is)

-- nothing comes where no link is
no_arrival : (h : ℕ) (comes : Comes) → entries_for h (arrival Controller (new_link Bare Bare) comes) ≡ []
no_arrival h comes = grind arith

front_flat : (t : HciTables) (xs ys : List Entry) → AllByRecursion (IsUnread t) ys → flat_map (new_sync t) (xs ++ ys) ≡ flat_map (new_sync t) xs
front_flat t xs ys a =
    flat_map-append (new_sync t) xs ys ∙ (ap (λ ds. flat_map (new_sync t) xs ++ ds) (unread_flat t ys a) ∙ append-nil (flat_map (new_sync t) xs))

pub front_own : (xs ys : List Entry) → AreOwn 0 (xs ++ ys) → AreOwn 0 xs
front_own [] ys a = tt
front_own (x ∷ xs) ys a = (a.0, front_own xs ys a.1)

-- ### Something comes

module _ (hosts : List ℕ) (are : AreHosts hosts) (past : List Occurrence) (w : NodeWorld) (orderly : IsOrderly w)
    (between : ReadsBetween hosts (entries_in past) w)
    (clfs : (h : ℕ) (s : Site) → site_at w.sites h ≡ Some s → IsClf s.link.controller.side.role)
    (read : (h : ℕ) (s : Site) → site_at w.sites h ≡ Some s → AreSessionsRead (entries_in past) h s.link) where
  abbrev t : List Entry
  t = entries_in past

  abbrev Due : Happening → List Entry → Type 0
  Due c es = IsDueAt hosts past (record { cause = c; entries = es }) 0

  module _ (r : Running) (runs : w.controller ≡ Some r) (h : ℕ) (comes : Comes) (i : LinkInput) (input : input_of (link_to w.sites h) comes ≡ Some i)
      (room : HasRoomForAll (controller_begins w r h comes)) (rest : List Entry) (other : AreNotOf 0 rest) where
    abbrev begun : Work
    begun = controller_begins w r h comes

    abbrev l : Link
    l = link_to w.sites h

    abbrev near_ends : ℕ → NumberedEnd
    near_ends k = near_end_in (link_to w.sites k) (comes_to h comes k)

    abbrev last : Work
    last = steps (AtEnd h i) begun

    abbrev frames : List Entry
    frames = flat_map (λ (s : Site). frames_noted Controller s.host (wires_for s.link (comes_to h comes s.host)) last) w.sites

    abbrev tail : List Entry
    tail = frames ++ rest

    has : HasEnds 0 (hosts_in w.sites) r
    has = near_node w r orderly runs

    hosts_are : hosts_of_ends begun.ports ≡ hosts_in w.sites
    hosts_are = hosts_same near_ends r.desks ∙ has.ends

    different : AreDifferent (hosts_of_ends begun.ports)
    different = subst AreDifferent (sym hosts_are) orderly.different

    starts : IsBegun hosts t (AtEnd h i) begun
    starts = comes_starts hosts are t w between.keeps r runs h comes i input

    quiet : AreFar begun.entries
    quiet = arrival_quiet Controller h l comes

    -- ### Its identifiers

    tables : begun.core.tables ≡ tables_in t 0
    tables = grind arith

    clf_at : (k : ℕ) (p : Port) → port_at begun.ports k ≡ Some p → IsClf p.side.role
    clf_at k p found =
        let site : HasSite w.sites k = site_for begun.ports w.sites k p hosts_are found in
        let side : p.side ≡ site.site.link.controller.side =
        (port_begins near_ends r.desks k p found).1
        ∙ (near_end_side (link_to w.sites k) (comes_to h comes k) ∙ ap (λ (x : Link). x.controller.side) (link_is w.sites k site.site site.there)) in
        subst (λ (e : LinkEnd). IsClf e.role) (sym side) (clfs k site.site site.there)

    abbrev few : Option Command
    few = option_map_or (λ (p : Port). few_of begun.core.tables h (report p.side i).sync) (port_at begun.ports h) None

    syncs_at : (o : Option Port) → port_at begun.ports h ≡ o → option_map_or (synced begun.core (AtEnd h i)) o []
        ≡ one_command (option_map_or (λ (p : Port). few_of begun.core.tables h (report p.side i).sync) o None)
    syncs_at None e = refl
    syncs_at (Some p) e =
        synced_here begun.core room h i p (report p.side i).sync (at_host begun.ports h p e) refl ∙ few_is begun.core.tables h (report p.side i).sync

    syncs : syncs_in (AtEnd h i) begun ≡ one_command few
    syncs = synced_at begun.core h i begun.ports different ∙ syncs_at (port_at begun.ports h) refl

    no_link : port_at begun.ports h ≡ None → l ≡ new_link Bare Bare
    no_link none = by_option (site_at w.sites h)
        (λ e. ap (λ o. option_map_or (λ (s : Site). s.link) o (new_link Bare Bare)) e)
        (λ s e. let at : Stands near_ends r.desks h = stands near_ends r.desks w.sites h s has.ends e in
        let no : None ≡ Some (port_for (near_ends h) at.desk) = sym none ∙ at.here in absurd (cc no))

    arrived_read : (o : Option Port) → port_at begun.ports h ≡ o
        → flat_map (new_sync (tables_in t 0)) begun.entries ≡ option_map_or (synced begun.core (AtEnd h i)) o []
    arrived_read None e =
        ap (λ (x : Link). flat_map (new_sync (tables_in t 0)) (entries_for h (arrival Controller x comes))) (no_link e)
        ∙ ap (flat_map (new_sync (tables_in t 0))) (no_arrival h comes)
    arrived_read (Some p) e =
        arrival_read (tables_in t 0) h l comes i input p.side (clf_at h p e)
        ∙ (ap (λ z. keeps_new z h (report p.side i).sync) (sym tables)
        ∙ sym (synced_here begun.core room h i p (report p.side i).sync (at_host begun.ports h p e) refl))

    own_part : IsBehind IsTookless (begun.entries ++ told_of_coming (AtEnd h i) begun) last.entries
    own_part = step_notes IsTookless tookless_own (AtEnd h i) begun

    taken : flat_map (new_sync (tables_in t 0)) (last.entries ++ tail) ≡ syncs_in (AtEnd h i) begun
    taken =
        let z : HciTables = tables_in t 0 in
        front_flat z last.entries tail
        (all_append (IsUnread z) frames rest
        (tookless_all z frames
        (all_flat IsTookless (λ (s : Site). frames_noted Controller s.host (wires_for s.link (comes_to h comes s.host)) last)
        (λ s. frames_tookless Controller s.host (wires_for s.link (comes_to h comes s.host)) last) w.sites))
        (others_unread z rest other))
        ∙ (ap (flat_map (new_sync z)) own_part.is
        ∙ (front_flat z (begun.entries ++ told_of_coming (AtEnd h i) begun) own_part.more (tookless_all z own_part.more own_part.all)
        ∙ (front_flat z begun.entries (told_of_coming (AtEnd h i) begun)
        (tookless_all z (told_of_coming (AtEnd h i) begun) (coming_tookless (AtEnd h i) begun))
        ∙ (arrived_read (port_at begun.ports h) refl ∙ sym (synced_at begun.core h i begun.ports different)))))

    -- ### Its sessions

    downs : (k : ℕ) → ends_at k (last.entries ++ tail)
        ≡ option_map_or (λ p. ends_by any_cause (end_c k) p (input_at (AtEnd h i) p)) (port_at begun.ports k) false
    downs k =
        any_append any_cause (end_c k) last.entries tail
        ∙ (ap (λ b. ends_at k last.entries || b)
        (any_append any_cause (end_c k) frames rest
        ∙ ap₂ (λ a b. a || b)
        (any_none any_cause (end_c k) frames
        (flat_downless (λ (s : Site). frames_noted Controller s.host (wires_for s.link (comes_to h comes s.host)) last)
        (λ s. frames_downless Controller s.host (wires_for s.link (comes_to h comes s.host)) last) w.sites)) (others_down k rest other))
        ∙ (or-false (ends_at k last.entries)
        ∙ step_at any_cause (end_c k) k begun (arrival_downless Controller h l comes) different
        (λ j. ap (λ z. same_end (end_of j z) (end_c k)) (controller_side r.core has.number) ∙ near_same j k) h i))

    come_over : (p : Port) → IsFresh p → (o : Option LinkInput) → ends_by any_cause (end_c p.desk.host) p o ≡ is_over (has_come p o)
    come_over p fresh None = sym (rw (fresh.0, fresh.1) refl)
    come_over p fresh (Some j) =
        by_option (ended_by p.side j)
        (λ q. rw q refl)
        (λ cause q. rw q refl) ∙ sym (ap (λ b. is_some (ended_by p.side j) || b) fresh.1 ∙ or-false (is_some (ended_by p.side j)))

    come_late : (p : Port) → IsFresh p → (o : Option LinkInput) → (has_come p o).late ≡ false
    come_late p fresh o = grind arith

    -- an end behind what came was one before
    was : (k : ℕ) (q : Port) → port_at (has_come_so (AtEnd h i) begun).ports k ≡ Some q
        → (p : Port) × (port_at begun.ports k ≡ Some p) × (q ≡ come_so (AtEnd h i) p)
    was k q found = by_option (port_at begun.ports k)
        (λ e. let none : port_at (has_come_so (AtEnd h i) begun).ports k ≡ None = come_none (AtEnd h i) begun k e in
        let no : None ≡ Some q = sym none ∙ found in absurd (cc no))
        (λ p e. (p, e, same_port q (come_so (AtEnd h i) p) (sym found ∙ come_found (AtEnd h i) begun k p e)))

    sessions : (a : ℕ) (p : Port) → port_at begun.ports a ≡ Some p → IsElse (AtEnd h i) a → session_of_port begun.ports a ≡ session_now t (end_c a) 0
    sessions a p found else =
        let site : HasSite w.sites a = site_for begun.ports w.sites a p hosts_are found in
        let s : Site = site.site in
        let at : Stands near_ends r.desks a = stands near_ends r.desks w.sites a s has.ends site.there in
        let still : near_ends a ≡ s.link.controller = grind arith in
        ap session_in at.here ∙ (session_is (near_ends a) at.desk ∙ (ap number_now still ∙ sym (read a s site.there).controller))

    owned : AreOwn 0 last.entries
    owned =
        let is : controller_does w h comes (steps (AtEnd h i)) ≡ after_controller w h comes last = rw runs refl in
        front_own last.entries frames
        (subst (λ (p : NodeWorld × List Entry). AreOwn 0 p.1) is
        (part_own 0 (controller_does w h comes (steps (AtEnd h i))).1
        (controller_part w h comes (steps (AtEnd h i)) (λ v r. steps_fine 0 (AtEnd h i) v r) orderly)))

    pub comes_due : (c : Happening) → begun_at 0 c ≡ [] → is_tick c ≡ false → Due c (last.entries ++ tail)
    comes_due c begun_none still =
        near_due hosts are past c begun_none [] tail (AtEnd h i) begun
        (subst (λ u. IsBegun hosts u (AtEnd h i) begun) (sym (append-nil t)) starts)
        (subst (λ u. AreNamed (u ++ begun.entries)) (sym (append-nil t))
        (all_append IsNamed t begun.entries between.named (far_named begun.entries quiet)))
        few syncs taken
        (λ k. ap (λ u. notice_in (u ++ begun.entries) k) (append-nil t) ∙ (notice_more k t begun.entries ∙ far_reads k begun.entries quiet (notice_in t k)))
        (λ k. ap (λ u. asking_in (u ++ begun.entries) k) (append-nil t) ∙ far_reading k t begun.entries quiet)
        (λ k q found.
        let p = was k q found in
        let fresh : IsFresh p.0 = at_port IsFresh begun.ports k p.0 starts.fresh p.1 in
        downs k
        ∙ (ap (λ o. option_map_or (λ p. ends_by any_cause (end_c k) p (input_at (AtEnd h i) p)) o false) p.1
        ∙ (come_over p.0 fresh (input_at (AtEnd h i) p.0) ∙ ap is_over (sym p.2))))
        (λ k q found.
        let p = was k q found in
        let fresh : IsFresh p.0 = at_port IsFresh begun.ports k p.0 starts.fresh p.1 in
        (grind arith) ∙ sym (ap (λ (x : Port). x.late) p.2 ∙ come_late p.0 fresh (input_at (AtEnd h i) p.0)))
        sessions tt (links_mute h (arrival Controller l comes) (arrival_unanswered Controller h l comes)) owned
        (all_append IsNoAnswer frames rest (frames_quiet (λ s. wires_for s.link (comes_to h comes s.host)) last w.sites) (no_answer rest other))
