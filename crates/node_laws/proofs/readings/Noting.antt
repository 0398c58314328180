-- What a node notes in a step, by its kinds; over a step of a host or of another node the unanswered command stays the one that is read.
use Rattle.node_laws.proofs.Words.{About, Acked, Active, AllByRecursion, AllByRecursion-append, Asks, AtEnd, Command, Commits, Core, Cut, Deed, Desk, Down}
use Rattle.node_laws.proofs.Words.{Drops, Ends, Entry, FetchMessage, Fits, GaveUp, Give, GoesOn, Got, Hears, Hold, IsAnswered, IsComing, IsFresh, IsHost}
use Rattle.node_laws.proofs.Words.{IsItsEnd, IsOutside, IsSilent, KeepsOrder, LinkInput, LinkState, List, MayDo, Message, NodeInput, None, Noted, OfHost}
use Rattle.node_laws.proofs.Words.{Option, Orders, Plain, Port, Release, Releases, Removed, Report, Reset, Restarted, SaysOk, Sends, Sent, SetAside, SetsErrors}
use Rattle.node_laws.proofs.Words.{Some, Tells, TimePasses, Turn, Up as IsUpNow, Waits, Work, [], after_input, after_sessions, after_turn, all_come, all_done}
use Rattle.node_laws.proofs.Words.{all_of_host, all_owed, all_owed_hold, all_synced_hold, any_of_controller, anyone, ap, append-nil, arith, begins_with}
use Rattle.node_laws.proofs.Words.{body_of, by_option, by_test, changed_if, comes_to_pass, commit, commit_writes, cond, cond_both, controller_deeds, count_of}
use Rattle.node_laws.proofs.Words.{deeds_hold, deeds_of, done, end_h, end_of, end_of_node, end_view, entries_for, entry_of, eqb, fails_within, false, flat_map}
use Rattle.node_laws.proofs.Words.{forgets, forgotten, forgotten_hold, has_come, host_deeds, inl, input_at, is_late, is_some, length, map, noted_of, notified}
use Rattle.node_laws.proofs.Words.{noting, option_map_or, own_side, own_view, passes, port_at, refl, report, reset_late, same_end, steps, subst, sym, synced}
use Rattle.node_laws.proofs.Words.{times_out, told, told_at, told_late, true, true≢false, turn_at, unless_cut, view_of, whole_acked, with_desk, with_older}
use Rattle.node_laws.proofs.Words.{with_port, without_notice, ℕ, ◌++◌, ◌||◌, ◌∙◌, ◌∷◌, ◌≡◌}
use Rattle.link_laws.specs.entries.Entries.{End as Side}
use Rattle.link_laws.specs.entries.Entries.Entry.{Tick, Up}
use Rattle.node_laws.proofs.links.Noticing.{at_host, outside, stays_up}
use Rattle.node_laws.proofs.readings.Turning.{IsQuiet, Runs, Stands, all_stand, host_side, keeps_stand, passes_stand, read_more, reads, stands_keep, then}
use Rattle.node_laws.proofs.readings.Turning.{told_reads}
use Rattle.node_laws.proofs.steps.StepWalks.{Lasts, all_do as all_note, at_port, changed_host, come_host, forgets_host, got_at, late_host, rest_lasts}
use Rattle.node_laws.proofs.steps.StepWalks.{sessions_node, without_host}
use Rattle.node_laws.proofs.telling.Shapes.{told_all}
use Rattle.trace_model.specs.declared.entry.Entry.TheVariants as entry

-- ## What a node notes in a step
-- A fact of entries holds of all of them, where it holds of what is noted of its own ends, of what it notes beside them, and of what its
-- deeds note.

-- this is noted of an end of this side
abbrev pub IsOwnNote : Side → Noted → Type 0
IsOwnNote who (Up side n) = side ≡ who
IsOwnNote who (Down side cause) = side ≡ who
IsOwnNote who (Active side) = side ≡ who
IsOwnNote who (GaveUp side tries) = side ≡ who
IsOwnNote who (Acked side n count) = side ≡ who
IsOwnNote who (Got side n m) = side ≡ who
IsOwnNote who (Sent side n m) = side ≡ who
IsOwnNote who _ = ⊥

-- this is noted by a node beside its links, turns and inits
abbrev pub IsBeside : ℕ → Entry → Type 0
IsBeside n (entry.Held e need spare) = Unit {0}
IsBeside n (entry.Ask host message) = Unit {0}
IsBeside n (entry.Dropped e pid) = Unit {0}
IsBeside n (entry.Command node command) = node ≡ n
IsBeside n (entry.AnyOk node count) = node ≡ n
IsBeside n (entry.Cut node) = node ≡ n
IsBeside n _ = ⊥

-- a fact holds of what a deed notes as an init ends
abbrev pub NotesSo : (Entry → Type 0) → Deed → Type 0
NotesSo P (Ends x) = P x
NotesSo P _ = Unit {0}

-- ### Deeds

plain : (P : Entry → Type 0) → Plain (NotesSo P)
plain P = record { sends = λ to x. tt; says_ok = tt; releases = λ asker. tt; is_answered = tt; drops = λ pid. tt }

-- no init ends at a controller
pub controller_notes : (P : Entry → Type 0) (core : Core) (ports : List Port) (h : ℕ) (m : Message)
    → AllByRecursion (NotesSo P) (controller_deeds (view_of core ports) h m)
controller_notes P core ports h m =
    any_of_controller (NotesSo P) (plain P) (λ c. tt) (λ to message. tt) (λ to message c. tt) (λ errors. tt) core ports h m

module _ (P : Entry → Type 0) (core : Core) (same : P (entry.InitSame (end_of_node core core.node)))
    (made : (count : ℕ) → P (entry.InitMade (end_of_node core core.node) count))
    (failed : (code : ℕ) → P (entry.InitFailed (end_of_node core core.node) code)) where
  of_host : OfHost (NotesSo P) core
  of_host = record { commits = λ c. tt; hears = tt; goes_on = λ i. tt; orders = λ i k order is. tt; same = same; made = made; failed = failed }

  pub host_notes : (p : Port) (m : Message) → AllByRecursion (NotesSo P) (host_deeds (own_view core) (end_view p) m)
  host_notes p m = all_of_host (NotesSo P) core (plain P) of_host p m (λ n value command zero is. tt)

-- ### What is told of an end

pub all_notes : (who : Side) (n acked : ℕ) (r : Report) → AllByRecursion (IsOwnNote who) (told who n r acked)
all_notes who n acked r = told_all (IsOwnNote who) who n acked refl refl (λ k. refl) refl (λ m. refl) (λ c. refl) r

turn_notes : (core : Core) (who : Side) (t : Turn) (p : Port) → own_side core ≡ who
    → AllByRecursion (IsOwnNote who) (Rattle.link_laws.specs.entries.Entries.turn_entry (own_side core) p.session p.side t)
turn_notes core who t p is = grind arith

-- ### A node

module _ (P : Entry → Type 0) (n : ℕ) (who : Side) (At : ℕ → Type 0) where
  -- the node has this number and this side of its links, and so is all that it noted
  pub record Notes (w : Work) : Type 0 where
    pub number : w.core.node ≡ n
    pub side : own_side w.core ≡ who
    pub ends : AllByRecursion (λ (p : Port). At p.desk.host) w.ports
    pub so : AllByRecursion P w.entries

  module _ (note : (h : ℕ) (x : Noted) → At h → IsOwnNote who x → AllByRecursion P (entry_of h x))
      (turned : (h pid : ℕ) (message : List ℕ) → At h → P (entry.Turn (end_of h who) pid message))
      (beside : (x : Entry) → IsBeside n x → P x)
      (deeds_note : (core : Core) (ports : List Port) (h : ℕ) (m : Message) → core.node ≡ n → AllByRecursion (NotesSo P) (deeds_of core ports h m)) where
    notes_all : (h : ℕ) (xs : List Noted) → At h → AllByRecursion (IsOwnNote who) xs → AllByRecursion P (entries_for h xs)
    notes_all h [] at all = tt
    notes_all h (x ∷ xs) at all = AllByRecursion-append P (entry_of h x) (entries_for h xs) (note h x at all.0) (notes_all h xs at all.1)

    with_core : (w : Work) (c : Core) → c.node ≡ w.core.node → Notes w → Notes (record w { core = c })
    with_core w c same a = grind arith

    notes : (es : List Entry) (w : Work) → AllByRecursion P es → Notes w → Notes (noting es w)
    notes es w more a = record { number = a.number; side = a.side; ends = a.ends; so = AllByRecursion-append P w.entries es a.so more }

    map_at : (f : Port → Port) → ((p : Port) → (f p).desk.host ≡ p.desk.host) → (ports : List Port) → AllByRecursion (λ (p : Port). At p.desk.host) ports
        → AllByRecursion (λ (p : Port). At p.desk.host) (map f ports)
    map_at f host [] all = tt
    map_at f host (p ∷ ports) all = (subst At (sym (host p)) all.0, map_at f host ports all.1)

    maps : (f : Port → Port) (w : Work) → ((p : Port) → (f p).desk.host ≡ p.desk.host) → Notes w → Notes (record w { ports = map f w.ports })
    maps f w host a = record { number = a.number; side = a.side; ends = map_at f host w.ports a.ends; so = a.so }

    ends_with : (h : ℕ) (f : Port → Port) (w : Work) → ((p : Port) → (f p).desk.host ≡ p.desk.host) → Notes w
        → Notes (record w { ports = with_port h f w.ports })
    ends_with h f w host a = maps (λ p. changed_if (eqb p.desk.host h) f p) w (λ p. changed_host (eqb p.desk.host h) f p host) a

    turn_told : (core : Core) (t : Turn) (ports : List Port) (h : ℕ) → own_side core ≡ who → AllByRecursion (λ (p : Port). At p.desk.host) ports
        → AllByRecursion P (option_map_or (noted_of core t) (port_at ports h) [])
    turn_told core t [] h side all = tt
    turn_told core t (p ∷ ports) h side all =
        cond_both (eqb p.desk.host h) (Some p) (port_at ports h) (λ o. AllByRecursion P (option_map_or (noted_of core t) o []))
        (λ _. notes_all p.desk.host _ all.0 (turn_notes core who t p side)) (λ _. turn_told core t ports h side all.1)

    turns : (h : ℕ) (t : Turn) (w : Work) → Notes w → Notes (turn_at h t w)
    turns h t w a =
        notes (option_map_or (noted_of w.core t) (port_at w.ports h) []) (record w { ports = with_port h (after_turn t) w.ports })
        (turn_told w.core t w.ports h a.side a.ends) (ends_with h (after_turn t) w (λ p. refl) a)

    desks : (h : ℕ) (f : Desk → Desk) (w : Work) → ((d : Desk) → (f d).host ≡ d.host) → Notes w → Notes (with_desk h f w)
    desks h f w host a = ends_with h (λ p. record p { desk = f p.desk }) w (λ p. host p.desk) a

    tells : (h : ℕ) (about : About) (message : List ℕ) (w : Work) → Notes w → Notes (notified h about message w)
    tells h about message w a =
        desks h (λ d. record d { notice = Some (record { about = about; age = 0 }) }) (turn_at h (Give (1, message)) w) (λ d. refl) (turns h (Give
        (1, message)) w a)

    commits : (c : Command) (w : Work) → Notes w → Notes (commit c w)
    commits c w a = by_test (fails_within (length (commit_writes w.core.journal w.core.tables (body_of c))) w.plan)
        (λ q. rw q (record {
          number = a.number;
          side = a.side;
          ends = a.ends;
          so = AllByRecursion-append P (w.entries ++ entry.Command w.core.node c ∷ []) (entry.Cut w.core.node ∷ [])
              (AllByRecursion-append P w.entries (entry.Command w.core.node c ∷ []) a.so (beside (entry.Command w.core.node c) a.number, tt))
              (beside (entry.Cut w.core.node) a.number, tt);
        }))
        (λ q. rw q (record {
          number = a.number;
          side = a.side;
          ends = a.ends;
          so = AllByRecursion-append P w.entries (entry.Command w.core.node c ∷ []) a.so (beside (entry.Command w.core.node c) a.number, tt);
        }))

    does : (h : ℕ) (d : Deed) (w : Work) → NotesSo P d → Notes w → Notes (done h d w)
    does h (Commits c) w q a = commits c w a
    does h (Sends to m) w q a = turns to (Give m) w a
    does h SaysOk w q a =
        notes (entry.AnyOk w.core.node (count_of w.core.journal) ∷ []) w (beside (entry.AnyOk w.core.node (count_of w.core.journal)) a.number, tt) a
    does h (Asks to message c) w q a =
        tells to (Waits c) message (noting (entry.Ask to message ∷ []) (turn_at c.asker SetAside w))
        (notes (entry.Ask to message ∷ []) (turn_at c.asker SetAside w) (beside (entry.Ask to message) tt, tt) (turns c.asker SetAside w a))
    does h (Releases asker) w q a = turns asker Release w a
    does h (Tells to message) w q a = tells to Removed message w a
    does h IsAnswered w q a = desks h (λ d. record d { notice = None }) w (λ d. refl) a
    does h (Drops pid) w q a = notes (entry.Dropped (end_of_node w.core h) pid ∷ []) w (beside (entry.Dropped (end_of_node w.core h) pid) tt, tt) a
    does h (SetsErrors errors) w q a = desks h (λ d. record d { errors = errors }) w (λ d. refl) a
    does h (Orders message) w q a = turns h (Give (1, message)) (record w { core = record w.core { command = Some message } }) (grind arith)
    does h Hears w q a = with_core w (record w.core { command = None }) refl a
    does h (GoesOn i) w q a = with_core w (record w.core { init = Some i }) refl a
    does h (Ends e) w q a =
        notes (e ∷ []) (record w { core = record w.core { init = None } }) (q, tt) (with_core w (record w.core { init = None }) refl a)

    pub all_do : (h : ℕ) (deeds : List Deed) (w : Work) → AllByRecursion (NotesSo P) deeds → Notes w → Notes (all_done h deeds w)
    all_do h deeds w q a = all_note Notes (NotesSo P) does h deeds w q a

    -- ### Turns

    abbrev ComesAt : ℕ → Message → Type 0
    ComesAt h m = At h

    -- each message comes at an end of the node
    come_at : (h : ℕ) (w : Work) → Notes w → AllByRecursion (ComesAt h) (got_at h w)
    come_at h w a = by_option (port_at w.ports h)
        (λ q. rw q tt)
        (λ p q. rw q (anyone (ComesAt h) (λ m. subst At (at_host w.ports h p q) (at_port (λ (p : Port). At p.desk.host) w.ports h p a.ends q)) p.side.got))

    notes_last : Lasts Notes (NotesSo P) ComesAt
    notes_last = record {
      does = does;
      turn_told = λ h m w at a. notes (entry.Turn (end_of_node w.core h) m.0 m.1 ∷ []) w
          (subst (λ s. P (entry.Turn (end_of h s) m.0 m.1)) (sym a.side) (turned h m.0 m.1 at), tt) a;
      held_told = λ h need spare w a. notes (entry.Held (end_of_node w.core h) need spare ∷ []) w
          (beside (entry.Held (end_of_node w.core h) need spare) tt, tt) a;
      fetched = λ h w a. turns h FetchMessage w a;
      held = λ h flag w a. turns h (Hold flag) w a;
      marked = λ h flag w a. desks h (λ d. record d { holds = flag }) w (λ d. refl) a;
      come = come_at;
      causes = λ h m w at a. deeds_note w.core w.ports h m a.number;
    }

    -- ### Steps

    come_told : (core : Core) (p : Port) (o : Option LinkInput) → own_side core ≡ who → At p.desk.host → AllByRecursion P (told_at core p o)
    come_told core p None side at = tt
    come_told core p (Some i) side at =
        notes_all p.desk.host (told (own_side core) p.session (report p.side i) (whole_acked (after_input p.side i))) at
        (subst (λ s. AllByRecursion (IsOwnNote who) (told s p.session (report p.side i) (whole_acked (after_input p.side i)))) (sym side)
        (all_notes who p.session (whole_acked (after_input p.side i)) (report p.side i)))

    all_told : (f : Port → List Entry) → ((p : Port) → At p.desk.host → AllByRecursion P (f p)) → (ports : List Port)
        → AllByRecursion (λ (p : Port). At p.desk.host) ports → AllByRecursion P (flat_map f ports)
    all_told f one [] all = tt
    all_told f one (p ∷ ports) all = AllByRecursion-append P (f p) (flat_map f ports) (one p all.0) (all_told f one ports all.1)

    came_all : (input : NodeInput) (w : Work) → Notes w → Notes (all_come input w)
    came_all input w a =
        notes (flat_map (λ p. told_at w.core p (input_at input p)) w.ports) (record w { ports = map (λ p. has_come p (input_at input p)) w.ports })
        (all_told (λ p. told_at w.core p (input_at input p)) (λ p at. come_told w.core p (input_at input p) a.side at) w.ports a.ends)
        (maps (λ p. has_come p (input_at input p)) w (λ p. come_host p (input_at input p)) a)

    late_told : (core : Core) (p : Port) → own_side core ≡ who → At p.desk.host → AllByRecursion P (told_late core p)
    late_told core p side at = cond_both (is_late p) (told_at core p (Some (Reset None))) [] (AllByRecursion P) (λ _. come_told core p (Some
        (Reset None)) side at) (λ _. tt)

    timed_all : (input : NodeInput) (w : Work) → Notes w → Notes (times_out input w)
    timed_all (AtEnd h i) w a = a
    timed_all TimePasses w a =
        let v : Work = record w { ports = map with_older w.ports } in
        let b : Notes v = maps with_older w (λ p. refl) a in
        notes (flat_map (told_late v.core) v.ports) (record v { ports = map reset_late v.ports })
        (all_told (told_late v.core) (λ p at. late_told v.core p b.side at) v.ports b.ends)
        (maps reset_late v late_host b)

    pub steps_note : (input : NodeInput) (w : Work) → Notes w → Notes (steps input w)
    steps_note input w a =
        let came : Work = times_out input (all_come input w) in
        let b : Notes came = timed_all input (all_come input w) (came_all input w a) in
        let left : List Port = map (forgets came.ports) came.ports in
        let begun : Work = record came { core = after_sessions came.core came.ports; ports = map without_notice left } in
        let first : Notes begun =
        with_core (record came { ports = map without_notice left }) (after_sessions came.core came.ports) (sessions_node came.core came.ports)
        (maps without_notice (record came { ports = left }) without_host (maps (forgets came.ports) came (forgets_host came.ports) b)) in
        rest_lasts Notes (NotesSo P) ComesAt notes_last (forgotten came.ports) (flat_map (synced w.core input) w.ports) (all_owed left) begun
        (forgotten_hold (NotesSo P) (λ asker. tt) came.ports) (all_synced_hold (NotesSo P) (λ host id. tt) w.core input w.ports)
        (all_owed_hold (NotesSo P) (λ asker. tt) (λ to r. tt) left) first

-- ## A step of a host: its unanswered command stays the one that is read

-- ### An end without a notice

older_same : (q : Port) → q.desk.notice ≡ None → with_older q ≡ q
older_same q e = rw e refl

late_told_of_stepping : (core : Core) (q : Port) → q.desk.notice ≡ None → told_late core q ≡ []
late_told_of_stepping core q e = rw e refl

without_same : (q : Port) → q.desk.notice ≡ None → without_notice q ≡ q
without_same q e = by_test (q.ended || q.late) (λ z. rw z (ap (λ n. record q { desk = record q.desk { notice = n } }) (sym e))) (λ z. rw z refl)

-- time passes at an end without a notice, and nothing more comes of it
times_same : (input : NodeInput) (w : Work) (q : Port) → w.ports ≡ q ∷ [] → q.desk.notice ≡ None → times_out input w ≡ w
times_same (AtEnd k i) w q is quiet = refl
times_same TimePasses w q is quiet =
    ap (λ ps. times_out TimePasses (record w { ports = ps })) is
    ∙ (ap (λ x. noting (told_late w.core x ++ []) (record w { ports = reset_late x ∷ [] })) (older_same q quiet)
    ∙ (ap (λ es. noting (es ++ []) (record w { ports = reset_late q ∷ [] })) (late_told_of_stepping w.core q quiet)
    ∙ (ap (λ x. noting [] (record w { ports = x ∷ [] })) (rw quiet refl)
    ∙ (ap (λ es. record w { entries = es; ports = q ∷ [] }) (append-nil w.entries)
    ∙ ap (λ ps. record w { ports = ps }) (sym is)))))

pub came_is : (input : NodeInput) (w : Work) (p : Port) → (has_come p (input_at input p)).desk.notice ≡ None
    → times_out input (all_come input (record w { ports = p ∷ [] }))
    ≡ record w { ports = has_come p (input_at input p) ∷ []; entries = w.entries ++ told_at w.core p (input_at input p) }
came_is input w p quiet =
    let q : Port = has_come p (input_at input p) in
    times_same input (all_come input (record w { ports = p ∷ [] })) q refl quiet
    ∙ ap (λ es. record w { ports = q ∷ []; entries = w.entries ++ es }) (append-nil (told_at w.core p (input_at input p)))

-- the sessions behind what came to an end that ends, or that goes on
pub over_is : (core : Core) (q : Port) → q.ended ≡ true → after_sessions core (q ∷ []) ≡ record core { command = None; init = None }
over_is core q e = rw e refl

pub on_is : (core : Core) (q : Port) → q.late ≡ false → q.ended ≡ false → after_sessions core (q ∷ []) ≡ core
on_is core q late e = rw (e, late) refl

-- what stands behind what came, before the node passes its ends
abbrev pub behind : List Deed → Work → Work
behind syncs came =
    unless_cut (all_done 0 (all_owed (map (forgets came.ports) came.ports)))
    (all_done 0 syncs (all_done 0 (forgotten came.ports)
    (record came { core = after_sessions came.core came.ports; ports = map without_notice (map (forgets came.ports) came.ports) })))

pub behind_is : (syncs : List Deed) (w : Work) (q : Port) (more : List Entry) → q.desk.notice ≡ None
    → behind syncs (record w { ports = q ∷ []; entries = w.entries ++ more })
    ≡ unless_cut (all_done 0 []) (all_done 0 syncs (record w { core = after_sessions w.core (q ∷ []); ports = q ∷ []; entries = w.entries ++ more }))
behind_is syncs w q more quiet = grind arith

synced_may : (h : ℕ) (F : List ℕ → Type 0) (core : Core) (input : NodeInput) (p : Port) → MayDo h F (synced core input p)
synced_may h F core input p = grind arith

module _ (h : ℕ) (host : IsHost h) (before : List Entry) where
  -- what came to the end of a host
  record HasCome (w : Work) (p q : Port) (more : List Entry) : Type 0 where
    at : q.desk.host ≡ h
    quiet : q.desk.notice ≡ None
    late : q.late ≡ false
    told : (c : Option (List ℕ)) → reads h more c ≡ cond q.ended None c
    up : is_some w.core.command ≡ true → q.ended ≡ false → q.side.shdlc.phase ≡ IsUpNow

  came_so : (w : Work) (p : Port) (o : Option LinkInput) → ((i : LinkInput) → o ≡ Some i → IsComing i) → w.core.node ≡ h
      → IsItsEnd h w.core.command p → IsFresh p → HasCome w p (has_come p o) (told_at w.core p o)
  came_so w p None coming node its fresh = grind arith
  came_so w p (Some i) coming node its fresh = record {
    at = its.host;
    quiet = its.no_notice;
    late = fresh.1;
    told = λ c. told_reads h w.core p i c (host_side w.core h host node) its.host;
    up = λ some ended. stays_up p.side i (coming i refl) (its.up some) ended;
  }

  -- the host behind what came
  begun_runs : (now : LinkState) (w : Work) (p q : Port) (more : List Entry) → Runs h host before now w → HasCome w p q more
      → Runs h host before q.side.shdlc.phase (record w { core = after_sessions w.core (q ∷ []); ports = q ∷ []; entries = w.entries ++ more })
  begun_runs now w p q more r came = by_test q.ended
      (λ e. subst Fine (sym (over_is w.core q e)) (record {
        on = r.on;
        node = r.node;
        port = q;
        is = refl;
        its = record { host = came.at; no_notice = came.quiet; up = λ some. absurd (true≢false (sym some)) };
        phase = refl;
        short = tt;
        order = read_more h host before now w more w.core.command None r.order (came.told w.core.command ∙ ap (λ b. cond b None w.core.command) e);
      }))
      (λ e. subst Fine (sym (on_is w.core q came.late e)) (record {
        on = r.on;
        node = r.node;
        port = q;
        is = refl;
        its = record { host = came.at; no_notice = came.quiet; up = λ some. came.up some e };
        phase = refl;
        short = r.short;
        order = read_more h host before now w more w.core.command w.core.command r.order (came.told w.core.command ∙ ap (λ b. cond b None w.core.command) e);
      })) where
        Fine : Core → Type 0
        Fine core = Runs h host before q.side.shdlc.phase (record w { core = core; ports = q ∷ []; entries = w.entries ++ more })

  -- and what it does then, before its turns
  rest_stands : (now : LinkState) (syncs : List Deed) (v : Work) → MayDo h (λ o. ⊥) syncs → Runs h host before now v → Stands h host before now
      (unless_cut (all_done 0 []) (all_done 0 syncs v))
  rest_stands now syncs v may r =
      then h host before now (all_done 0 []) (all_done 0 syncs v) (all_stand h host before now 0 (λ o. ⊥) syncs v (λ o x. absurd x) may r) (λ s. inl s)

  behind_stands : (now : LinkState) (syncs : List Deed) (w : Work) (p q : Port) (more : List Entry) → MayDo h (λ o. ⊥) syncs
      → Runs h host before now w → HasCome w p q more
      → Stands h host before q.side.shdlc.phase (behind syncs (record w { ports = q ∷ []; entries = w.entries ++ more }))
  behind_stands now syncs w p q more may r came =
      let begun : Work = record w { core = after_sessions w.core (q ∷ []); ports = q ∷ []; entries = w.entries ++ more } in
      subst (Stands h host before q.side.shdlc.phase) (sym (behind_is syncs w q more came.quiet)) (rest_stands q.side.shdlc.phase syncs begun may
      (begun_runs now w p q more r came))

  -- as its pass begins
  pub ready_stand : (now : LinkState) (input : NodeInput) (w : Work) → IsOutside input → (r : Runs h host before now w) → IsFresh r.port
      → Stands h host before (has_come r.port (input_at input r.port)).side.shdlc.phase (comes_to_pass input w)
  ready_stand now input w out r fresh =
      subst (λ v. Stands h host before q.side.shdlc.phase (comes_to_pass input v)) (sym (ap (λ ps. record w { ports = ps }) r.is))
      (subst (λ u. Stands h host before q.side.shdlc.phase (behind syncs u)) (sym (came_is input w p came.quiet))
      (behind_stands now syncs w p q more may r came)) where
        p : Port
        p = r.port

        v : Work
        v = record w { ports = p ∷ [] }

        q : Port
        q = has_come p (input_at input p)

        more : List Entry
        more = told_at w.core p (input_at input p)

        came : HasCome w p q more
        came = came_so w p (input_at input p) (outside input out p) r.node r.its fresh

        syncs : List Deed
        syncs = flat_map (synced w.core input) (p ∷ [])

        may : MayDo h (λ o. ⊥) syncs
        may = subst (MayDo h (λ o. ⊥)) (sym (append-nil (synced w.core input p))) (synced_may h (λ o. ⊥) w.core input p)

  pub steps_stand : (now : LinkState) (input : NodeInput) (w : Work) → IsOutside input → (r : Runs h host before now w) → IsFresh r.port
      → Stands h host before (has_come r.port (input_at input r.port)).side.shdlc.phase (steps input w)
  steps_stand now input w out r fresh =
      let later : LinkState = (has_come r.port (input_at input r.port)).side.shdlc.phase in
      then h host before later passes (comes_to_pass input w) (ready_stand now input w out r fresh)
      (λ s. passes_stand h host before later (comes_to_pass input w) s)

pub steps_keep : (h : ℕ) (before : List Entry) (input : NodeInput) (w : Work) → IsHost h → IsOutside input → KeepsOrder h before w → w.cut ≡ false
    → AllByRecursion IsFresh w.ports → KeepsOrder h before (steps input w)
steps_keep h before input w host out k on fresh =
    let now : LinkState = k.port.side.shdlc.phase in
    let r : Runs h host before now w = keeps_stand h host before now w on k refl in
    let all : AllByRecursion IsFresh (r.port ∷ []) = subst (AllByRecursion IsFresh) r.is fresh in
    stands_keep h host before (has_come r.port (input_at input r.port)).side.shdlc.phase (steps input w) (steps_stand h host before now input w out r all.0)

pub begins_keep : (h : ℕ) (before : List Entry) (deeds : List Deed) (w : Work) → IsHost h → KeepsOrder h before w → w.cut ≡ false
    → MayDo h (Fits w.ports) deeds → KeepsOrder h before (begins_with h deeds w)
begins_keep h before deeds w host k on may =
    let now : LinkState = k.port.side.shdlc.phase in
    stands_keep h host before now (begins_with h deeds w)
    (all_stand h host before now h (Fits w.ports) deeds w (λ order fits. (refl, fits)) may (keeps_stand h host before now w on k refl))

-- ## What other nodes do tells nothing of the unanswered command of a host

-- what deeds end in tells nothing of it
abbrev pub AreHushed : ℕ → List Deed → Type 0
AreHushed k deeds = AllByRecursion (NotesSo (IsSilent k)) deeds

deeds_hushed : (k : ℕ) (core : Core) (ports : List Port) (h : ℕ) (m : Message) → AreHushed k (deeds_of core ports h m)
deeds_hushed k core ports h m =
    deeds_hold (AreHushed k) core ports h m (controller_notes (IsSilent k) core ports h m) tt
    (λ p. host_notes (IsSilent k) core (λ waits. refl) (λ count waits. refl) (λ code waits. refl) p m)

-- ## A step of another node tells nothing of the unanswered command of a host

abbrev pub AreSilent : ℕ → List Entry → Type 0
AreSilent k es = AllByRecursion (IsSilent k) es

pub silent-append : (k : ℕ) (xs ys : List Entry) → AreSilent k xs → AreSilent k ys → AreSilent k (xs ++ ys)
silent-append k [] ys a b = b
silent-append k (x ∷ xs) ys a b = (a.0, silent-append k xs ys a.1 b)

pub silent_flat : {X : Type 0} (k : ℕ) (f : X → List Entry) → ((x : X) → AreSilent k (f x)) → (xs : List X) → AreSilent k (flat_map f xs)
silent_flat k f one [] = tt
silent_flat k f one (x ∷ xs) = silent-append k (f x) (flat_map f xs) (one x) (silent_flat k f one xs)

-- ### Notes

pub quiet_silent : (k h : ℕ) (notes : List Noted) → AllByRecursion IsQuiet notes → AreSilent k (entries_for h notes)
quiet_silent k h [] all = tt
quiet_silent k h (Down who cause ∷ notes) all = absurd all.0
quiet_silent k h (Sent who n m ∷ notes) all = absurd all.0
quiet_silent k h (Tick ∷ notes) all = quiet_silent k h notes all.1
quiet_silent k h (Restarted who ∷ notes) all = quiet_silent k h notes all.1
quiet_silent k h (Cut who ∷ notes) all = quiet_silent k h notes all.1
quiet_silent k h (_ ∷ notes) all = ((λ c. refl), quiet_silent k h notes all.1)

module _ (k : ℕ) where
  abbrev pub Away : Side → ℕ → Type 0
  Away who h = same_end (end_of h who) (end_h k) ≡ false

  module _ (n : ℕ) (other : eqb n k ≡ false) (who : Side) where
    -- the node isn't this host, none of its ends is, and what was noted tells nothing of it
    abbrev pub IsAway : Work → Type 0
    IsAway w = Notes (IsSilent k) n who (Away who) w

    noted : (h : ℕ) (x : Noted) → Away who h → IsOwnNote who x → AreSilent k (entry_of h x)
    noted h x away own = grind arith

    turned : (h pid : ℕ) (message : List ℕ) → Away who h → IsSilent k (entry.Turn (end_of h who) pid message)
    turned h pid message away = λ c. (rw away refl)

    beside : (x : Entry) → IsBeside n x → IsSilent k x
    beside x own = grind arith

    pub all_do_of_elsewhere : (h : ℕ) (deeds : List Deed) (w : Work) → AreHushed k deeds → IsAway w → IsAway (all_done h deeds w)
    all_do_of_elsewhere = all_do (IsSilent k) n who (Away who) noted turned beside (λ core ports h m is. deeds_hushed k core ports h m)

    pub steps_away : (input : NodeInput) (w : Work) → IsAway w → IsAway (steps input w)
    steps_away = steps_note (IsSilent k) n who (Away who) noted turned beside (λ core ports h m is. deeds_hushed k core ports h m)
