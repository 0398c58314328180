-- A node of a world has a step: REC_ERROR of its ends stays what is read, and what others keep is left.
use Rattle.node_laws.proofs.Words.{AllByRecursion, AllByRecursion-append, AtEnd, Comes, Control, Controller, Core, CutOff, Deed, Desk, End, Ending, Entry}
use Rattle.node_laws.proofs.Words.{ErrorCount, GoesOut, HasEnds, Host, Link, LinkEnd, LinkInput, List, Message, NodeInput, None, Noted, NumberedEnd, OnWire}
use Rattle.node_laws.proofs.Words.{Option, Plan, Port, Running, Some, TimePasses, Work, [], after_input, after_sessions, aged_entries, all_come, all_done}
use Rattle.node_laws.proofs.Words.{all_flat, all_owed, all_owed_hold, all_so, all_synced_hold, ap, arith, arrival, begins_with, by_option, by_test, cond}
use Rattle.node_laws.proofs.Words.{cond_both, end_of, ending_entries, ending_of, entries_for, entry_of, eqb, false, flat_map, forgets, forgotten}
use Rattle.node_laws.proofs.Words.{forgotten_hold, frames_noted, frames_out, has_come, input_at, map, nat_lt, node_of, own_side, passes, port_at, put}
use Rattle.node_laws.proofs.Words.{put_entries, puts_entries, refl, report, reset_late, runs_on, same_end, steps, subst, sym, synced, times_out, told, told_at}
use Rattle.node_laws.proofs.Words.{told_late, true, unless_cut, whole_acked, with_older, without_notice, work_of, ℕ, ◌++◌, ◌∙◌, ◌∷◌, ◌≡◌}
use Rattle.link_laws.specs.entries.Entries.{End as Side}
use Rattle.node_laws.proofs.notices.Steps.{sessions_tables}
use Rattle.node_laws.proofs.readings.Noting.{IsOwnNote, Notes, NotesSo, all_do as notes_do, all_notes, steps_note}
use Rattle.node_laws.proofs.steps.StepWalks.{come_host, forgets_host, late_host, sessions_node, without_host}
use Rattle.node_laws.proofs.telling.Accounts.{AreMute, deeds_mute}
use Rattle.node_laws.proofs.telling.Events.{hosts_same_of_nodes as hosts_same, ports_for}
use Rattle.node_laws.proofs.views.Doing.{AreUnset, HasErrors, IsStill, IsUndamaged, IsUnset, Leaves, Right, all_do, beside_leaves, leaves_all, maps, note}
use Rattle.node_laws.proofs.views.Doing.{notes_still, reads, reads_append, side_of, still_all, still_leaves, turn_leaves, unless, unset_fine, with_core}
use Rattle.node_laws.proofs.views.Turning.{passes_right}
use Rattle.trace_model.specs.declared.entry.Entry.TheVariants as entry

-- ## A step of a node: what is read of REC_ERROR of its end stays what it keeps

own_undamaged : (who : Side) (x : Noted) → IsOwnNote who x → IsUndamaged x
own_undamaged who x is = grind arith

all_undamaged : (who : Side) (xs : List Noted) → AllByRecursion (IsOwnNote who) xs → AllByRecursion IsUndamaged xs
all_undamaged who xs all = all_so (IsOwnNote who) IsUndamaged (own_undamaged who) xs all

come_still : (e : End) (core : Core) (p : Port) (o : Option LinkInput) → AllByRecursion (IsStill e) (told_at core p o)
come_still e core p None = tt
come_still e core p (Some i) =
    notes_still e p.desk.host (told (own_side core) p.session (report p.side i) (whole_acked (after_input p.side i)))
    (all_undamaged (own_side core) (told (own_side core) p.session (report p.side i) (whole_acked (after_input p.side i)))
    (all_notes (own_side core) p.session (whole_acked (after_input p.side i)) (report p.side i)))

late_still : (e : End) (core : Core) (p : Port) → AllByRecursion (IsStill e) (told_late core p)
late_still e core p = grind arith

-- ### Steps

late_errors : (p : Port) → (reset_late p).desk.errors ≡ p.desk.errors
late_errors p = grind arith

pub forgets_errors : (ports : List Port) (p : Port) → (forgets ports p).desk.errors ≡ p.desk.errors
forgets_errors ports p = cond_both _ _ p (λ (q : Port). q.desk.errors ≡ p.desk.errors) (λ _. refl) (λ _. refl)

pub without_errors : (p : Port) → (without_notice p).desk.errors ≡ p.desk.errors
without_errors p = cond_both _ _ p (λ (q : Port). q.desk.errors ≡ p.desk.errors) (λ _. refl) (λ _. refl)

module _ (e : End) (hosts : List ℕ) (x0 : ErrorCount) (single : e.at_host ≡ true → hosts ≡ e.link ∷ []) where
  abbrev So : Work → Type 0
  So w = Right e hosts x0 w

  pub came_right : (input : NodeInput) (w : Work) → So w → So (all_come input w)
  came_right input w r =
      note e hosts x0 (flat_map (λ p. told_at w.core p (input_at input p)) w.ports) (record w { ports = map (λ p. has_come p (input_at input p)) w.ports })
      (all_flat (IsStill e) (λ p. told_at w.core p (input_at input p)) (λ p. come_still e w.core p (input_at input p)) w.ports)
      (maps e hosts x0 (λ p. has_come p (input_at input p)) w (λ p. come_host p (input_at input p)) (λ p. grind arith) r)

  pub timed_right : (input : NodeInput) (w : Work) → So w → So (times_out input w)
  timed_right (AtEnd h i) w r = r
  timed_right TimePasses w r =
      let v : Work = record w { ports = map with_older w.ports } in
      let s : So v = maps e hosts x0 with_older w (λ p. refl) (λ p. refl) r in
      note e hosts x0 (flat_map (told_late v.core) v.ports) (record v { ports = map reset_late v.ports })
      (all_flat (IsStill e) (told_late v.core) (late_still e v.core) v.ports) (maps e hosts x0 reset_late v late_host late_errors s)

  steps_right : (input : NodeInput) (w : Work) → So w → So (steps input w)
  steps_right input w r =
      let came : Work = times_out input (all_come input w) in
      let left : List Port = map (forgets came.ports) came.ports in
      let begun : Work = record came { core = after_sessions came.core came.ports; ports = map without_notice left } in
      let first : So begun =
      with_core e hosts x0 (record came { ports = map without_notice left }) (after_sessions came.core came.ports) (sessions_node came.core came.ports)
      (sessions_tables came.core came.ports)
      (maps e hosts x0 without_notice (record came { ports = left }) without_host without_errors (maps e hosts x0 (forgets came.ports) came
      (forgets_host came.ports) (forgets_errors came.ports) (timed_right input (all_come input w) (came_right input w r)))) in
      let freed : List Deed = forgotten came.ports in
      let syncs : List Deed = flat_map (synced w.core input) w.ports in
      let owing : List Deed = all_owed left in
      let one : So (all_done 0 syncs (all_done 0 freed begun)) =
      all_do e hosts x0 0 syncs (all_done 0 freed begun) (unset_fine e hosts x0 0 syncs (all_synced_hold IsUnset (λ host id. tt) w.core input w.ports))
      (all_do e hosts x0 0 freed begun (unset_fine e hosts x0 0 freed (forgotten_hold IsUnset (λ asker. tt) came.ports)) first) in
      unless e hosts x0 passes (unless_cut (all_done 0 owing) (all_done 0 syncs (all_done 0 freed begun)))
      (λ on z. passes_right e hosts x0 single (unless_cut (all_done 0 owing) (all_done 0 syncs (all_done 0 freed begun))) on z)
      (unless e hosts x0 (all_done 0 owing) (all_done 0 syncs (all_done 0 freed begun)) (λ on z. all_do e hosts x0 0 owing (all_done 0 syncs
      (all_done 0 freed begun)) (unset_fine e hosts x0 0 owing (all_owed_hold IsUnset (λ asker. tt) (λ to r. tt) left)) z) one)

-- ## A node of a world does something: REC_ERROR of its ends stays what is read, and that of others is left

-- ### Frames

puts_undamaged : (who : Side) (l : Link) (cs : List Control) → AllByRecursion IsUndamaged (puts_entries who l cs)
puts_undamaged who l [] = tt
puts_undamaged who l (c ∷ cs) =
    AllByRecursion-append IsUndamaged (put_entries who l c) (puts_entries who (put l c) cs) (tt, grind arith)
    (puts_undamaged who (put l c) cs)

ending_undamaged : (who : Side) (l : Link) (e : LinkEnd) (ending : Ending) → AllByRecursion IsUndamaged (ending_entries who l e ending)
ending_undamaged who l e GoesOut = puts_undamaged who l (frames_out e)
ending_undamaged who l e CutOff = (tt, tt)

aged_undamaged : (who : Side) (xs : List OnWire) → AllByRecursion IsUndamaged (aged_entries who xs)
aged_undamaged who [] = tt
aged_undamaged who (x ∷ xs) = by_test (nat_lt x.age 4) (λ q. rw q (aged_undamaged who xs)) (λ q. rw q (tt, aged_undamaged who xs))

pub frames_still : (e : End) (who : Side) (h : ℕ) (l : Link) (k : Work) → AllByRecursion (IsStill e) (frames_noted who h l k)
frames_still e who h l k = by_option (port_at k.ports h)
    (λ q. rw q tt)
    (λ p q. rw q (notes_still e h (ending_entries who l p.side (ending_of k)) (ending_undamaged who l p.side (ending_of k))))

pub arrival_still : (e : End) (who : Side) (h : ℕ) (l : Link) (comes : Comes) → AllByRecursion (IsStill e) (entries_for h (arrival who l comes))
arrival_still e who h l comes = notes_still e h (arrival who l comes) (grind arith)

pub aged_still : (e : End) (h : ℕ) (l : Link)
    → AllByRecursion (IsStill e) (entries_for h (aged_entries Controller l.to_controller ++ aged_entries Host l.to_host))
aged_still e h l = notes_still e h (aged_entries Controller l.to_controller ++ aged_entries Host l.to_host)
    (AllByRecursion-append IsUndamaged (aged_entries Controller l.to_controller) (aged_entries Host l.to_host) (aged_undamaged Controller l.to_controller)
    (aged_undamaged Host l.to_host))

-- ### What a node keeps

-- a node that runs keeps what is read of REC_ERROR of its end
pub record KeepsErrors (e : End) (r : Running) (x : ErrorCount) : Type 0 where
  pub sets : x.sets ≡ None
  pub desks : AllByRecursion (λ (d : Desk). eqb d.host e.link ≡ true → d.errors ≡ x.errors) r.desks

-- where it runs
abbrev pub IfKeeps : End → Option Running → ErrorCount → Type 0
IfKeeps e None x = x.sets ≡ None
IfKeeps e (Some r) x = KeepsErrors e r x

same_desks : (e : End) (n m : ℕ) (desks : List Desk) → n ≡ m → AllByRecursion (λ (d : Desk). eqb d.host e.link ≡ true → d.errors ≡ n) desks
    → AllByRecursion (λ (d : Desk). eqb d.host e.link ≡ true → d.errors ≡ m) desks
same_desks e n m desks is all = subst (λ k. AllByRecursion (λ (d : Desk). eqb d.host e.link ≡ true → d.errors ≡ k) desks) is all

pub leaves_kept : (e : End) (o : Option Running) (x : ErrorCount) (es : List Entry) → AllByRecursion (Leaves e) es → IfKeeps e o x → IfKeeps e o (reads e es x)
leaves_kept e None x es all k = (leaves_all e es x x.errors all (record { sets = k; is = refl })).sets
leaves_kept e (Some r) x es all k =
    let after = leaves_all e es x x.errors all (record { sets = k.sets; is = refl }) in
    record { sets = after.sets; desks = same_desks e x.errors (reads e es x).errors r.desks (sym after.is) k.desks }

-- ### The node of the end

module _ (e : End) (real : e.at_host ≡ true → eqb e.link 0 ≡ false) (hosts : List ℕ) (single : e.at_host ≡ true → hosts ≡ e.link ∷ []) where
  side_is : (core : Core) → core.node ≡ node_of e → own_side core ≡ side_of e
  side_is core number = ap (λ n. cond (eqb n 0) Controller Host) number ∙ by_test e.at_host (λ q. rw (q, real q) refl) (λ q. rw q refl)

  ends_has : (x : ErrorCount) (near_ends : ℕ → NumberedEnd) (desks : List Desk)
      → AllByRecursion (λ (d : Desk). eqb d.host e.link ≡ true → d.errors ≡ x.errors) desks
      → AllByRecursion (HasErrors e x.errors) (ports_for near_ends desks)
  ends_has x near_ends [] all = tt
  ends_has x near_ends (d ∷ desks) all = (all.0, ends_has x near_ends desks all.1)

  desks_has : (n m : ℕ) → m ≡ n → (ports : List Port) → AllByRecursion (HasErrors e n) ports
      → AllByRecursion (λ (d : Desk). eqb d.host e.link ≡ true → d.errors ≡ m) (map (λ (p : Port). p.desk) ports)
  desks_has n m is [] all = tt
  desks_has n m is (p ∷ ports) all = ((λ here. all.0 here ∙ sym is), desks_has n m is ports all.1)

  -- a step begins
  pub begun_right : (x : ErrorCount) (r : Running) (plan : Option Plan) (near_ends : ℕ → NumberedEnd) (es : List Entry) → HasEnds (node_of e) hosts r
      → AllByRecursion (IsStill e) es → (e.at_host ≡ false → r.core.tables ≡ x.book.tables) → KeepsErrors e r x → Right e hosts x (work_of r plan near_ends es)
  begun_right x r plan near_ends es has still known k =
      let read = still_all e es x x.errors still (record { sets = k.sets; is = refl }) in
      record {
        number = has.number;
        side = side_is r.core has.number;
        hosts_are = hosts_same near_ends r.desks ∙ has.ends;
        errors = x.errors;
        read = read.0;
        ends = ends_has x near_ends r.desks k.desks;
        tables = λ on near. known near ∙ ap (λ (b : Rattle.node_machine.specs.world.NodeFilters.Book). b.tables) (sym read.1);
      }

  -- it ends
  ended_keeps : (x : ErrorCount) (k : Work) → Right e hosts x k → IfKeeps e (runs_on k) (reads e k.entries x)
  ended_keeps x k r = by_test k.cut
      (λ q. rw q r.read.sets)
      (λ q. rw q (record { sets = r.read.sets; desks = desks_has r.errors (reads e k.entries x).errors r.read.is k.ports r.ends }))

  pub own_steps : (x : ErrorCount) (r : Running) (plan : Option Plan) (near_ends : ℕ → NumberedEnd) (es frames : List Entry) (input : NodeInput)
      → HasEnds (node_of e) hosts r → AllByRecursion (IsStill e) es → AllByRecursion (IsStill e) frames
      → (e.at_host ≡ false → r.core.tables ≡ x.book.tables) → KeepsErrors e r x
      → IfKeeps e (runs_on (steps input (work_of r plan near_ends es))) (reads e ((steps input (work_of r plan near_ends es)).entries ++ frames) x)
  own_steps x r plan near_ends es frames input has still frames_so known keeps =
      let k : Work = steps input (work_of r plan near_ends es) in
      subst (IfKeeps e (runs_on k)) (sym (reads_append e k.entries frames x)) (leaves_kept e (runs_on k) (reads e k.entries x) frames
      (still_leaves e frames frames_so)
      (ended_keeps x k (steps_right e hosts x single input (work_of r plan near_ends es) (begun_right x r plan near_ends es has still known keeps))))

  pub own_begins : (x : ErrorCount) (r : Running) (plan : Option Plan) (near_ends : ℕ → NumberedEnd) (frames : List Entry) (h : ℕ) (deeds : List Deed)
      → HasEnds (node_of e) hosts r → AllByRecursion (IsStill e) frames → AreUnset deeds
      → (e.at_host ≡ false → r.core.tables ≡ x.book.tables) → KeepsErrors e r x
      → IfKeeps e (runs_on (begins_with h deeds (work_of r plan near_ends [])))
      (reads e ((begins_with h deeds (work_of r plan near_ends [])).entries ++ frames) x)
  own_begins x r plan near_ends frames h deeds has frames_so unset known keeps =
      let k : Work = begins_with h deeds (work_of r plan near_ends []) in
      subst (IfKeeps e (runs_on k)) (sym (reads_append e k.entries frames x)) (leaves_kept e (runs_on k) (reads e k.entries x) frames
      (still_leaves e frames frames_so)
      (ended_keeps x k
      (all_do e hosts x h deeds (work_of r plan near_ends []) (unset_fine e hosts x h deeds unset) (begun_right x r plan near_ends [] has tt known
      keeps))))

-- ### Other nodes

mute_leaves : (e : End) (deeds : List Deed) → AreMute deeds → AllByRecursion (NotesSo (Leaves e)) deeds
mute_leaves e [] all = tt
mute_leaves e (d ∷ deeds) all = (grind arith, mute_leaves e deeds all.1)

-- the node isn't that of the end
abbrev pub IsOther : End → Side → ℕ → Type 0
IsOther e who h = same_end (end_of h who) e ≡ false

module _ (e : End) (n : ℕ) (who : Side) where
  note_leaves : (h : ℕ) (x : Noted) → IsOther e who h → IsOwnNote who x → AllByRecursion (Leaves e) (entry_of h x)
  note_leaves h x at own = still_leaves e (entry_of h x) (grind arith)

  turned_leaves : (h pid : ℕ) (message : List ℕ) → IsOther e who h → Leaves e (entry.Turn (end_of h who) pid message)
  turned_leaves h pid message at = λ x k r. (turn_leaves e (end_of h who) pid message at x k r).0

  deeds_leave : (core : Core) (ports : List Port) (h : ℕ) (m : Message) → core.node ≡ n → AllByRecursion (NotesSo (Leaves e))
      (Rattle.node_machine.specs.Turns.deeds_of core ports h m)
  deeds_leave core ports h m number = mute_leaves e (Rattle.node_machine.specs.Turns.deeds_of core ports h m) (deeds_mute core ports h m)

  ends_other : (near_ends : ℕ → NumberedEnd) (desks : List Desk) → AllByRecursion (IsOther e who) (map (λ (d : Desk). d.host) desks)
      → AllByRecursion (λ (p : Port). IsOther e who p.desk.host) (ports_for near_ends desks)
  ends_other near_ends [] all = tt
  ends_other near_ends (d ∷ desks) all = (all.0, ends_other near_ends desks all.1)

  begun_notes : (hosts : List ℕ) (r : Running) (plan : Option Plan) (near_ends : ℕ → NumberedEnd) (es : List Entry) → HasEnds n hosts r
      → cond (eqb n 0) Controller Host ≡ who → AllByRecursion (IsOther e who) hosts → AllByRecursion (Leaves e) es
      → Notes (Leaves e) n who (IsOther e who) (work_of r plan near_ends es)
  begun_notes hosts r plan near_ends es has side others so = record {
    number = has.number;
    side = ap (λ k. cond (eqb k 0) Controller Host) has.number ∙ side;
    ends = ends_other near_ends r.desks (subst (AllByRecursion (IsOther e who)) (sym has.ends) others);
    so = so;
  }

  pub others_step : (hosts : List ℕ) (r : Running) (plan : Option Plan) (near_ends : ℕ → NumberedEnd) (es : List Entry) (input : NodeInput) → HasEnds n hosts r
      → cond (eqb n 0) Controller Host ≡ who → AllByRecursion (IsOther e who) hosts → AllByRecursion (Leaves e) es
      → AllByRecursion (Leaves e) (steps input (work_of r plan near_ends es)).entries
  others_step hosts r plan near_ends es input has side others so =
      (steps_note (Leaves e) n who (IsOther e who) note_leaves turned_leaves (beside_leaves e n) deeds_leave input (work_of r plan near_ends es)
      (begun_notes hosts r plan near_ends es has side others so)).so

  pub others_begin : (hosts : List ℕ) (r : Running) (plan : Option Plan) (near_ends : ℕ → NumberedEnd) (h : ℕ) (deeds : List Deed) → HasEnds n hosts r
      → cond (eqb n 0) Controller Host ≡ who → AllByRecursion (IsOther e who) hosts → AreMute deeds
      → AllByRecursion (Leaves e) (begins_with h deeds (work_of r plan near_ends [])).entries
  others_begin hosts r plan near_ends h deeds has side others mute =
      (notes_do (Leaves e) n who (IsOther e who) note_leaves turned_leaves (beside_leaves e n) deeds_leave h deeds (work_of r plan near_ends [])
      (mute_leaves e deeds mute) (begun_notes hosts r plan near_ends [] has side others tt)).so
