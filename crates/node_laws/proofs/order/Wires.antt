-- The frames on the wires of a link, and how ready its ends are, are read off what is noted of it.
use Rattle.node_laws.proofs.Words.{Acked, Act, ActStart, Active, AllAllowed, AllByRecursion, AsksReset, AtController, Bare, Begins, Bool, Clf, Comes, Control}
use Rattle.node_laws.proofs.Words.{Controller, Counts, Cut, CutOff, Down, Emit, Ending, Entry, GaveUp, Gets, GoesOut, Good, Got, Host, I, IsClf, IsDown}
use Rattle.node_laws.proofs.Words.{IsEvent, IsLine, IsLinkTold, IsRunOf, IsUpNow, Link, LinkEnd, LinkEvent, List, Lost, Node, None, Noted, OnWire, PowerMode}
use Rattle.node_laws.proofs.Words.{Puts, Reached, Readiness, Ready, Reset, Restarted, Role, S, Saying, Seen, Sent, Some, Standing, Starts, Step, Stops, SyncId}
use Rattle.node_laws.proofs.Words.{Took, Turn, Uicc, [], activated_role, after_link_events, aged, aged_entries, all_append, ap, append-nil, append_assoc, arith}
use Rattle.node_laws.proofs.Words.{becomes_at, begins, by_test, core_event, core_of, end_of, entries, event_entries, event_step, exchanged, false, frames_on}
use Rattle.node_laws.proofs.Words.{frames_out, happens, happens_at_controller, inactive, inl, inr, is_open, is_rset, is_waiting, kept, law_noted, le-leb}
use Rattle.node_laws.proofs.Words.{list_any, lpdu_of, lpdu_row_of, lt-ltb, made_active, most_frames, moved, nat_le, nat_lt, new_line, new_link_end}
use Rattle.node_laws.proofs.Words.{no_longer_waits, no_session, not, nothing_seen, number_of, older, or_none, put_all, reached_more, readiness_of, refl}
use Rattle.node_laws.proofs.Words.{renewed, role_after, said_far, said_near, same_number, see, see_all, sent_all, silences, silent, since, slice_index}
use Rattle.node_laws.proofs.Words.{standing, standing_by_law, stands_said, start_good, start_reached, started, step_entries, stopped, subst, suc, sym}
use Rattle.node_laws.proofs.Words.{tick_entries, true, true≢false, turn, turned, turned_role, turned_same, zero, ℕ, ◌&&◌, ◌*◌, ◌++◌, ◌+◌, ◌<◌, ◌∙◌, ◌∷◌, ◌≡◌}
use Rattle.node_laws.proofs.Words.{◌≤◌, ◌⊎◌}
use Rattle.history.proofs.legal.Sessions.{out_numbers}
use Rattle.history.proofs.waits.Histories.{controller_harked, host_harked}
use Rattle.history.proofs.waits.Harking.{hark, harks, harks-append, waits}
use Rattle.history.specs.Filters.Saying.{Ends, Sends}
use Rattle.history.specs.Legal.{is_rset_lpdu}
use Rattle.link_laws.proofs.entries.Seeing.{read_off, see_all-append}
use Rattle.link_laws.proofs.messages.Project.{frames_alike}
use Rattle.link_laws.specs.entries.Entries.{End as Side}
use Rattle.link_laws.specs.entries.Entries.Entry.{Tick, Up}
use Rattle.swp_base.specs.declared.control_frames.Kind.TheVariants.{Rej, Rnr, Rr, Srej}
use Rattle.swp_lpdu.specs.Controls.{HasNumbers, i_frame, lpdu_row}
use Rattle.node_laws.proofs.links.Sites.{run_of_more}
use Rattle.node_laws.proofs.order.Activity.{IsLined, acted, acting, acting-append, acts, all_acting, lined_acts}
use Rattle.node_laws.proofs.order.Gone.{Gone, Hears, HearsNone, event_begins, event_keeps, event_silenced, events_mute, hears_parts}
use Rattle.node_laws.proofs.order.Marking.{all_resets}
use Rattle.node_laws.proofs.order.Watches.{AreUnstarted, IsSince, IsStepOf, IsUnstarted, WatchedLink, opened, since_step, unwatched, watched}
use Rattle.node_laws.proofs.telling.Events.{after-append, entries-append}
use Rattle.node_laws.proofs.telling.Shapes.{AreClear, IsShaped, IsStepShaped, clear_aged, last_of, opened_by, shaped_step, shaped_tick}
use Rattle.node_laws.proofs.telling.WorldTicks.{between, near_notes, tick_event}

-- ## Frames that are put on a link have their numbers, so RSET is read off their bytes

-- ### Numbers

abbrev pub misnumbered : Noted → Bool
misnumbered (Emit who (I ns nr info)) = not (nat_lt ns 8 && nat_lt nr 8)
misnumbered (Emit who (S kind nr)) = not (nat_lt nr 8)
misnumbered _ = false

low_number : (n : ℕ) → n < 8 → nat_lt n 8 ≡ true
low_number n q = lt-ltb n 8 q

numbers_fit : (who : Side) (cs : List Control) → AllByRecursion HasNumbers cs → AllByRecursion (λ c. misnumbered (Emit who c) ≡ false) cs
numbers_fit who [] a = tt
numbers_fit who (I ns nr info ∷ cs) a =
    let x = low_number ns a.0.0 in let y = low_number nr a.0.1 in (rw (x, y) refl, numbers_fit who cs a.1)
numbers_fit who (S kind nr ∷ cs) a = let x = low_number nr a.0 in (rw x refl, numbers_fit who cs a.1)
numbers_fit who (_ ∷ cs) a = (refl, numbers_fit who cs a.1)

pub misnumbered_mute : HearsNone misnumbered
misnumbered_mute =
    record {
      deaf = record {
        down = λ w c. refl;
        active = λ w. refl;
        gave_up = λ w t. refl;
        acked = λ w n c. refl;
        got = λ w n m. refl;
        sent = λ w n m. refl;
        emit = λ w e. numbers_fit w (frames_out e) (out_numbers e);
        took = λ w c. refl;
        lost = λ w c y. refl;
        tick = refl;
      };
      up = λ w n. refl;
      restarted = λ w. refl;
      cut = λ w. refl;
    }

pub numbered : (who : Side) (c : Control) → misnumbered (Emit who c) ≡ false → HasNumbers c
numbered who c q = grind arith

-- ### RSET

-- what holds of all numbers below this one
abbrev HoldsBelow : (ℕ → Type 0) → ℕ → Type 0
HoldsBelow P zero = Unit {0}
HoldsBelow P (suc n) = P zero × HoldsBelow (λ k. P (suc k)) n

each_below : (P : ℕ → Type 0) (n : ℕ) → HoldsBelow P n → (k : ℕ) → k < n → P k
each_below P zero a k low = absurd (omega (arith, low))
each_below P (suc n) a zero low = a.0
each_below P (suc n) a (suc k) low = each_below (λ j. P (suc j)) n a.1 k (omega (arith, low))

-- bytes that are read by the row of information frames
fragment_read : (bytes : List ℕ) → lpdu_row_of (slice_index bytes 0) ≡ Some (lpdu_row 0x80 0xBF 2 30 i_frame) → is_rset_lpdu bytes ≡ false
fragment_read bytes q = grind arith

-- RSET alone is read as RSET
rset_read : (c : Control) → HasNumbers c → is_rset_lpdu (lpdu_of c) ≡ is_rset c
rset_read (I ns nr info) low =
    let last : nat_le (0x80 + 8 * ns + nr) 0xBF ≡ true = le-leb (0x80 + 8 * ns + nr) 0xBF (omega (arith, low.0, low.1)) in
    fragment_read (lpdu_of (I ns nr info)) (rw ((le-leb 0x80 (0x80 + 8 * ns + nr) (omega arith)), last) refl)
rset_read (S Rr nr) low =
    each_below (λ n. is_rset_lpdu (lpdu_of (S Rr n)) ≡ false) 8 (refl, (refl, (refl, (refl, (refl, (refl, (refl, (refl, tt)))))))) nr low
rset_read (S Rej nr) low =
    each_below (λ n. is_rset_lpdu (lpdu_of (S Rej n)) ≡ false) 8 (refl, (refl, (refl, (refl, (refl, (refl, (refl, (refl, tt)))))))) nr low
rset_read (S Rnr nr) low =
    each_below (λ n. is_rset_lpdu (lpdu_of (S Rnr n)) ≡ false) 8 (refl, (refl, (refl, (refl, (refl, (refl, (refl, (refl, tt)))))))) nr low
rset_read (S Srej nr) low =
    each_below (λ n. is_rset_lpdu (lpdu_of (S Srej n)) ≡ false) 8 (refl, (refl, (refl, (refl, (refl, (refl, (refl, (refl, tt)))))))) nr low
rset_read (Act Ready true) low = refl
rset_read (Act Ready false) low = refl
rset_read (Act (SyncId id) true) low = refl
rset_read (Act (SyncId id) false) low = refl
rset_read (Act (PowerMode power) true) low = refl
rset_read (Act (PowerMode power) false) low = refl
rset_read _ low = refl

-- ## How ready the ends of a link are, as it is read off what its law notes

-- ### Notes

-- how ready an end is after one more note, and after these
abbrev heard : Side → Readiness → Noted → Readiness
heard who r n = record { active = acting who r.active n; waits = hark who r.waits n }

abbrev all_heard : Side → Readiness → List Noted → Readiness
all_heard who r t = record { active = all_acting who r.active t; waits = harks who r.waits t }

-- how ready both ends are, as it is read
record AreRead (x y : Standing) (near far : Readiness) : Type 0 where
  near_is : y.near ≡ near
  far_is : y.far ≡ far

module _ (h : ℕ) where
  note_read : (x : Standing) (n : Noted) → IsUnstarted n → misnumbered n ≡ false → AreRead x (law_noted h x n) (heard Controller x.near n) (heard Host x.far n)
  note_read x (Up Controller k) u m = let q = same_number h in record { near_is = rw q refl; far_is = rw q refl }
  note_read x (Up Host k) u m = let q = same_number h in record { near_is = rw q refl; far_is = rw q refl }
  note_read x (Down Controller cause) u m = let q = same_number h in record { near_is = rw q refl; far_is = rw q refl }
  note_read x (Down Host cause) u m = let q = same_number h in record { near_is = rw q refl; far_is = rw q refl }
  note_read x (Active Controller) u m = let q = same_number h in record { near_is = rw q refl; far_is = rw q refl }
  note_read x (Active Host) u m = let q = same_number h in record { near_is = rw q refl; far_is = rw q refl }
  note_read x (GaveUp Controller tries) u m = let q = same_number h in record { near_is = rw q refl; far_is = rw q refl }
  note_read x (GaveUp Host tries) u m = let q = same_number h in record { near_is = rw q refl; far_is = rw q refl }
  note_read x (Acked Controller k count) u m = let q = same_number h in record { near_is = rw q refl; far_is = rw q refl }
  note_read x (Acked Host k count) u m = let q = same_number h in record { near_is = rw q refl; far_is = rw q refl }
  note_read x (Got Controller k message) u m = let q = same_number h in record { near_is = rw q refl; far_is = rw q refl }
  note_read x (Got Host k message) u m = let q = same_number h in record { near_is = rw q refl; far_is = rw q refl }
  note_read x (Sent Controller k message) u m = let q = same_number h in record { near_is = rw q refl; far_is = rw q refl }
  note_read x (Sent Host k message) u m = let q = same_number h in record { near_is = rw q refl; far_is = rw q refl }
  note_read x (Emit Controller c) u m =
      let q = same_number h in let r = rset_read c (numbered Controller c m) in record { near_is = rw (q, r) refl; far_is = rw q refl }
  note_read x (Emit Host c) u m =
      let q = same_number h in let r = rset_read c (numbered Host c m) in record { near_is = rw q refl; far_is = rw (q, r) refl }
  note_read x (Took Controller c) u m = let q = same_number h in record { near_is = rw q refl; far_is = rw q refl }
  note_read x (Took Host c) u m = let q = same_number h in record { near_is = rw q refl; far_is = rw q refl }
  note_read x (Lost Controller c why) u m = let q = same_number h in record { near_is = rw q refl; far_is = rw q refl }
  note_read x (Lost Host c why) u m = let q = same_number h in record { near_is = rw q refl; far_is = rw q refl }
  note_read x Tick u m = record { near_is = refl; far_is = refl }
  note_read x (Restarted w) u m = absurd u
  note_read x (Cut Controller) u m = record { near_is = refl; far_is = refl }
  note_read x (Cut Host) u m = record { near_is = refl; far_is = refl }

  notes_read : (t : List Noted) (x : Standing) → AreUnstarted t → list_any misnumbered t ≡ false
      → AreRead x (standing_by_law h x t) (all_heard Controller x.near t) (all_heard Host x.far t)
  notes_read [] x u m = record { near_is = refl; far_is = refl }
  notes_read (n ∷ t) x u m =
      let a = or_none (misnumbered n) (list_any misnumbered t) m in
      let one = note_read x n u.0 a.0 in
      let more = notes_read t (law_noted h x n) u.1 a.1 in
      grind arith

-- ### Events

-- what holds of runs of a new link holds of one event more
module _ (f : Bool → List Noted → Bool) (parts : (b : Bool) (t u : List Noted) → f b (t ++ u) ≡ f (f b t) u) (R : Link → Bool)
    (law : (es : List LinkEvent) → AllAllowed new_line es → f false (entries new_line es) ≡ R (after_link_events new_line es)) where
  one_more : (es : List LinkEvent) (l : Link) (e : LinkEvent) → IsEvent l e → IsRunOf es l → f (R l) (event_entries l e) ≡ R (happens l e)
  one_more es l e can run =
      let m : Link = after_link_events new_line es in
      let next : IsRunOf (es ++ e ∷ []) (happens l e) = run_of_more es l e can run in
      subst (λ (k : Link). f (R k) (event_entries k e) ≡ R (happens k e)) run.is
      (ap (f (R m)) (sym (append-nil (event_entries m e)))
      ∙ (ap (λ b. f b (entries m (e ∷ []))) (sym (law es run.allowed))
      ∙ (sym (parts false (entries new_line es) (entries m (e ∷ [])))
      ∙ (ap (f false) (sym (entries-append es (e ∷ []) new_line)) ∙ (law (es ++ e ∷ []) next.allowed ∙ ap R (after-append es (e ∷ []) new_line))))))

-- the ends of a link are as ready as it is read
pub record AreReady (l : Link) (x : Standing) : Type 0 where
  pub near : x.near ≡ readiness_of l.controller.side
  pub far : x.far ≡ readiness_of l.host.side

ready_more : (h : ℕ) (l : Link) (e : LinkEvent) (t u : List Entry) (x : Standing) → IsLinkTold h l t → IsStepOf h l e u → AreUnstarted (event_entries l e)
    → AreReady l x → AreReady (happens l e) (standing h x u)
ready_more h l e t u x a n plain ready =
    let notes : List Noted = event_entries l e in
    let numbers : list_any misnumbered notes ≡ false =
    ap (list_any misnumbered) (sym (append-nil notes)) ∙ events_mute misnumbered misnumbered_mute (e ∷ []) l in
    let read = notes_read h notes x plain numbers in
    let active_near : all_acting Controller (acts l.controller) notes ≡ acts (happens l e).controller =
    one_more (all_acting Controller) (acting-append Controller) (λ k. acts k.controller) (λ es can. (acted es can).controller) a.events l e n.can a.run in
    let active_far : all_acting Host (acts l.host) notes ≡ acts (happens l e).host =
    one_more (all_acting Host) (acting-append Host) (λ k. acts k.host) (λ es can. (acted es can).host) a.events l e n.can a.run in
    let waits_near : harks Controller (waits l.controller) notes ≡ waits (happens l e).controller =
    one_more (harks Controller) (harks-append Controller) (λ k. waits k.controller) (controller_harked new_line IsLine) a.events l e n.can a.run in
    let waits_far : harks Host (waits l.host) notes ≡ waits (happens l e).host =
    one_more (harks Host) (harks-append Host) (λ k. waits k.host) (host_harked new_line IsLine) a.events l e n.can a.run in
    grind arith

-- ### Activation begins

-- an end that has begun activation is neither active, nor waits
pub started_unready : (l : Link) (value : ℕ) (ts : List Turn) (ending : Ending) → IsLined l.controller.side.role
    → readiness_of (happens_at_controller l (Step (Starts value) ts ending)).controller.side ≡ inactive
started_unready l value ts CutOff a =
    let e : LinkEnd = started l.controller.side value in
    let role : is_open (renewed (turned e ts).role) ≡ false =
    ap (λ r. is_open (renewed r)) (turned_role e ts ∙ activated_role (moved l.controller.side true (stopped l.controller.side.shdlc)) (ActStart value))
    ∙ lined_acts l.controller.side.role (ActStart value) a in
    ap (λ b. record { active = b; waits = is_waiting (new_link_end (renewed (turned e ts).role)).shdlc }) role
    ∙ ap (λ b. record { active = false; waits = b }) (grind arith)
started_unready l value ts GoesOut a = go l.controller.side.role refl a
  where
    e : LinkEnd
    e = started l.controller.side value

    ends : e.shdlc.phase ≡ IsDown → is_open (role_after l.controller.side.role (ActStart value)) ≡ false → readiness_of (sent_all (turned e ts)) ≡ inactive
    ends down shut =
        let role : is_open (turned e ts).role ≡ false =
        ap is_open (turned_role e ts ∙ activated_role (moved l.controller.side true (stopped l.controller.side.shdlc)) (ActStart value)) ∙ shut in
        let waits_not : is_waiting (sent_all (turned e ts)).shdlc ≡ false =
        (rw ((frames_alike most_frames (turned e ts).shdlc).phase ∙ (turned_same ts e ∙ down)) refl) in
        ap (λ b. record { active = b; waits = is_waiting (sent_all (turned e ts)).shdlc }) role ∙ ap (λ b. record { active = false; waits = b }) waits_not

    go : (r : Role) → l.controller.side.role ≡ r → IsLined r → readiness_of (sent_all (turned e ts)) ≡ inactive
    go Bare q z = absurd (true≢false z)
    go (Clf s) q z = ends (rw q refl) (ap (λ x. is_open (role_after x (ActStart value))) q)
    go (Uicc s) q z = ends (rw q refl) (ap (λ x. is_open (role_after x (ActStart value))) q)

-- ## Where both ends are up in a session, none was started, stopped or cut off since the first came up in it

-- ### Since an end came up

since_more : (n : ℕ) (t u : List Noted) → list_any (begins n) t ≡ true → since n (t ++ u) ≡ since n t ++ u
since_more n [] u h = absurd (true≢false (sym h))
since_more n (e ∷ t) u h = by_test (begins n e) (λ q. rw q refl) (λ q. rw q (since_more n t u (let z = h in rw q at z)))

since_later : (n : ℕ) (t u : List Noted) → list_any (begins n) t ≡ false → since n (t ++ u) ≡ since n u
since_later n [] u h = refl
since_later n (e ∷ t) u h = by_test (begins n e) (λ q. absurd (true≢false (let z = h in rw q at z))) (λ q. rw q (since_later n t u (let z = h in rw q at z)))

-- what is heard since then is heard, and an end came up
since_hears : (n : ℕ) (u : List Noted) → Hears silences (since n u) → Hears (begins n) u × Hears silences u
since_hears n [] q = absurd (true≢false (sym q))
since_hears n (e ∷ u) q = by_test (begins n e)
    (λ p. by_test (silences e) (λ s. (rw p refl, rw s refl)) (λ s. (rw p refl, rw s (let z = q in rw p at z))))
    (λ p. let x = since_hears n u (let z = q in rw p at z) in by_test (silences e) (λ s. (rw p x.0, rw s refl)) (λ s. (rw p x.0, rw s x.1)))

-- ### Along a run

-- what is known of a number
record Watched (n : ℕ) (t : List Noted) (l : Link) : Type 0 where
  used : Hears (begins n) t → n ≤ l.resets
  gone : Hears silences (since n t) → Gone n l

watched_more : (n : ℕ) (t : List Noted) (l : Link) (e : LinkEvent) → IsEvent l e → Good l → Reached (core_of l)
    → see_all (kept l) (event_entries l e) ≡ kept (happens l e) → Watched n t l → Watched n (t ++ event_entries l e) (happens l e)
watched_more n t l e a g r seen w = go (list_any (begins n) t) refl
  where
    u : List Noted
    u = event_entries l e

    k : Link
    k = happens l e

    go : (b : Bool) → list_any (begins n) t ≡ b → Watched n (t ++ u) k
    go true h =
        let i : n ≤ l.resets = w.used h in
        let x = all_resets u (kept l) in
        record {
          used = λ _. omega (arith, i, x, (ap (λ (s : Seen). s.resets) seen));
          gone = λ q. which i (hears_parts silences (since n t) u (subst (λ z. Hears silences z) (since_more n t u h) q));
        }
      where
        which : n ≤ l.resets → Hears silences (since n t) ⊎ Hears silences u → Gone n k
        which i (inl q) = event_keeps n l e a g r seen (w.gone q)
        which i (inr q) = event_silenced n l e a g r i q
    go false h =
        record {
          used = λ q. (event_begins n l e a g r (came (hears_parts (begins n) t u q))).used;
          gone = λ q. let x = since_hears n u (subst (λ z. Hears silences z) (since_later n t u h) q) in (event_begins n l e a g r x.0).gone x.1;
        }
      where
        came : Hears (begins n) t ⊎ Hears (begins n) u → Hears (begins n) u
        came (inl x) = absurd (true≢false (sym x ∙ h))
        came (inr x) = x

-- what is seen of an event of a run
event_seen_of_since : (es : List LinkEvent) (e : LinkEvent)
    → (let l : Link = after_link_events new_line es in see_all (kept l) (event_entries l e) ≡ kept (happens l e))
event_seen_of_since es e =
    let m : Link = after_link_events new_line es in
    let before : see_all nothing_seen (entries new_line es) ≡ kept m = read_off new_line IsLine es in
    let behind : see_all nothing_seen (entries new_line (es ++ e ∷ [])) ≡ kept (after_link_events new_line (es ++ e ∷ [])) =
    read_off new_line IsLine (es ++ e ∷ []) in
    let last : see_all (kept m) (entries m (e ∷ [])) ≡ kept (happens m e) =
    sym (ap (see_all nothing_seen) (entries-append es (e ∷ []) new_line)
    ∙ (see_all-append nothing_seen (entries new_line es) (entries m (e ∷ [])) ∙ ap (λ s. see_all s (entries m (e ∷ []))) before))
    ∙ (behind ∙ ap kept (after-append es (e ∷ []) new_line)) in
    ap (see_all (kept m)) (sym (append-nil (event_entries m e))) ∙ last

abbrev At : ℕ → List LinkEvent → Type 0
At n es = Watched n (entries new_line es) (after_link_events new_line es)

watched_all : (n : ℕ) (es before : List LinkEvent) → AllAllowed (after_link_events new_line before) es → Good (after_link_events new_line before)
    → Reached (core_of (after_link_events new_line before)) → At n before → At n (before ++ es)
watched_all n [] before a g r w = subst (At n) (sym (append-nil before)) w
watched_all n (e ∷ es) before a g r w =
    let l : Link = after_link_events new_line before in
    let m : Link = happens l e in
    let st = event_step l e a.0 g r in
    let next : Reached (core_of m) = subst Reached (sym st.core) (reached_more (core_of l) (core_event l e) st.allowed r) in
    let more : Watched n (entries new_line before ++ event_entries l e) m = watched_more n (entries new_line before) l e a.0 g r (event_seen_of_since before e)
    w in
    let one : List LinkEvent = before ++ e ∷ [] in
    let is : after_link_events new_line one ≡ m = after-append before (e ∷ []) new_line in
    let noted : entries new_line one ≡ entries new_line before ++ event_entries l e =
    entries-append before (e ∷ []) new_line ∙ ap (λ z. entries new_line before ++ z) (append-nil (event_entries l e)) in
    let Q : Link → Type 0 = λ z. Reached (core_of z) in
    subst (At n) (append_assoc before (e ∷ []) es)
    (watched_all n es one (subst (λ (z : Link). AllAllowed z es) (sym is) a.1) (subst Good (sym is) st.good) (subst Q (sym is) next) (grind arith))

watched_of_since : (n : ℕ) (es : List LinkEvent) → AllAllowed new_line es → At n es
watched_of_since n es a =
    watched_all n es [] a (start_good new_line IsLine) (start_reached new_line IsLine)
    (record { used = λ q. absurd (true≢false (sym q)); gone = λ q. absurd (true≢false (sym q)) })

-- ### Both ends are up

up_not_gone : (n : ℕ) (l : Link) → l.controller.side.shdlc.phase ≡ IsUpNow → l.host.side.shdlc.phase ≡ IsUpNow → number_of l.controller ≡ n
    → number_of l.host ≡ n → Gone n l → ⊥
up_not_gone n l near far p q a = grind arith

pub none_silenced : (n : ℕ) (es : List LinkEvent) → AllAllowed new_line es
    → (let l : Link = after_link_events new_line es in
    l.controller.side.shdlc.phase ≡ IsUpNow → l.host.side.shdlc.phase ≡ IsUpNow → number_of l.controller ≡ n → number_of l.host ≡ n
    → list_any silences (since n (entries new_line es)) ≡ false)
none_silenced n es a near far p q = by_test (list_any silences (since n (entries new_line es)))
    (λ x. absurd (up_not_gone n (after_link_events new_line es) near far p q ((watched_of_since n es a).gone x)))
    (λ x. x)

-- ## The frames on the wires of a link are read off what is noted of it

-- ### Wires that are seen

pub record ShownBy (s : Seen) (x : Standing) : Type 0 where
  pub to_controller : x.to_controller ≡ frames_on s.to_controller
  pub to_host : x.to_host ≡ frames_on s.to_host

-- the wires of a link are those of the watched one, and where it is known so, nothing withheld the answer to a reset; and its ends are so
-- ready, but between the two steps by which activation begins
pub record Shown (l : Link) (x : WatchedLink) : Type 0 where
  pub wires : ShownBy (kept l) x.stands
  pub since : x.since ≡ true → IsSince l
  pub ready : x.whole ≡ true → AreReady l x.stands

-- behind entries that tell nothing of it
pub shown_same : (h : ℕ) (l : Link) (x : WatchedLink) (u : List Entry) → standing h x.stands u ≡ x.stands → Shown l x → Shown l (watched h x u)
shown_same h l x u q s = grind arith

frames_push : (w : List OnWire) (y : OnWire) → frames_on (w ++ y ∷ []) ≡ frames_on w ++ lpdu_of y.frame ∷ []
frames_push [] y = refl
frames_push (x ∷ w) y = ap (λ z. lpdu_of x.frame ∷ z) (frames_push w y)

frames_older : (w : List OnWire) → frames_on (older w) ≡ frames_on w
frames_older [] = refl
frames_older (x ∷ w) = ap (λ z. lpdu_of x.frame ∷ z) (frames_older w)

module _ (h : ℕ) where
  near_so : (s : Seen) (x : Standing) (y : Saying) → ShownBy s (said_near y x) → ShownBy s (stands_said h x (Some (end_of h Controller, y)))
  near_so s x y a = subst (ShownBy s) (grind arith) a

  far_so : (s : Seen) (x : Standing) (y : Saying) → ShownBy s (said_far y x) → ShownBy s (stands_said h x (Some (end_of h Host, y)))
  far_so s x y a = subst (ShownBy s) (grind arith) a

  same : (s : Seen) (x z : Standing) → z.to_controller ≡ x.to_controller → z.to_host ≡ x.to_host → ShownBy s x → ShownBy s z
  same s x z p q a = record { to_controller = p ∙ a.to_controller; to_host = q ∙ a.to_host }

  note_shown : (s : Seen) (x : Standing) (n : Noted) → IsUnstarted n → ShownBy s x → ShownBy (see s n) (law_noted h x n)
  note_shown s x (Up Controller k) u a = near_so s x (Begins k) (same s x (said_near (Begins k) x) refl refl a)
  note_shown s x (Up Host k) u a = far_so s x (Begins k) (same s x (said_far (Begins k) x) refl refl a)
  note_shown s x (Down Controller cause) u a = near_so s x Ends (same s x (said_near Ends x) refl refl a)
  note_shown s x (Down Host cause) u a = far_so s x Ends (same s x (said_far Ends x) refl refl a)
  note_shown s x (Active Controller) u a = let q = same_number h in rw q (same s x (becomes_at false made_active x) refl refl a)
  note_shown s x (Active Host) u a = let q = same_number h in rw q (same s x (becomes_at true made_active x) refl refl a)
  note_shown s x (GaveUp Controller tries) u a = let q = same_number h in rw q (same s x (becomes_at false no_longer_waits x) refl refl a)
  note_shown s x (GaveUp Host tries) u a = let q = same_number h in rw q (same s x (becomes_at true no_longer_waits x) refl refl a)
  note_shown s x (Acked Controller k count) u a = near_so s x (Counts k count) a
  note_shown s x (Acked Host k count) u a = far_so s x (Counts k count) a
  note_shown s x (Got Controller k m) u a = near_so s x (Gets k m) a
  note_shown s x (Got Host k m) u a = far_so s x (Gets k m) a
  note_shown s x (Sent Controller k m) u a = near_so s x (Sends k m) a
  note_shown s x (Sent Host k m) u a = far_so s x (Sends k m) a
  note_shown s x (Emit Controller c) u a =
      near_so (see s (Emit Controller c)) x (Puts (lpdu_of c))
      (record { to_controller = a.to_controller; to_host = ap (λ z. z ++ lpdu_of c ∷ []) a.to_host ∙ sym (frames_push s.to_host _) })
  note_shown s x (Emit Host c) u a =
      far_so (see s (Emit Host c)) x (Puts (lpdu_of c))
      (record { to_controller = ap (λ z. z ++ lpdu_of c ∷ []) a.to_controller ∙ sym (frames_push s.to_controller _); to_host = a.to_host })
  note_shown s x (Took Controller c) u a = grind arith
  note_shown s x (Took Host c) u a = grind arith
  note_shown s x (Lost Controller c why) u a = grind arith
  note_shown s x (Lost Host c why) u a = grind arith
  note_shown s x Tick u a =
      record { to_controller = a.to_controller ∙ sym (frames_older s.to_controller); to_host = a.to_host ∙ sym (frames_older s.to_host) }
  note_shown s x (Restarted w) u a = absurd u
  note_shown s x (Cut Controller) u a = record { to_controller = refl; to_host = refl }
  note_shown s x (Cut Host) u a = record { to_controller = refl; to_host = refl }

  notes_shown : (notes : List Noted) (s : Seen) (x : Standing) → AreUnstarted notes → ShownBy s x → ShownBy (see_all s notes) (standing_by_law h x notes)
  notes_shown [] s x u a = a
  notes_shown (n ∷ notes) s x u a = notes_shown notes (see s n) (law_noted h x n) u.1 (note_shown s x n u.0 a)

-- ### Notes in which no activation begins

pub clear_unstarted : (xs : List Noted) → AreClear xs → AreUnstarted xs
clear_unstarted [] a = tt
clear_unstarted (Restarted w ∷ xs) a = absurd a.0
clear_unstarted (x ∷ xs) a = (tt, clear_unstarted xs a.1)

shaped_unstarted : (who : Side) (ending : Ending) (notes : List Noted) → IsShaped who ending notes → AreUnstarted notes
shaped_unstarted who ending notes s =
    subst (λ z. AreUnstarted z) (sym s.is)
    (all_append IsUnstarted s.body (last_of who ending) (clear_unstarted s.body s.clear) (grind arith))

pub tick_unstarted : (b : Bool) (l : Link) (c n : Node) → AreUnstarted (event_entries l (tick_event b c n))
tick_unstarted false l c n = (
  tt,
  all_append IsUnstarted (aged_entries Controller l.to_controller) _ (clear_unstarted _ (clear_aged Controller l.to_controller))
      (all_append IsUnstarted (aged_entries Host l.to_host) _ (clear_unstarted _ (clear_aged Host l.to_host))
      (all_append IsUnstarted (tick_entries Controller (aged l) c) (tick_entries Host (exchanged (between false (aged l) c)) n)
      (shaped_unstarted Controller c.ending _ (shaped_tick Controller (aged l) c))
      (shaped_unstarted Host n.ending _ (shaped_tick Host (exchanged (between false (aged l) c)) n)))),
)
tick_unstarted true l c n =
    let step = shaped_step Controller (aged l) (AsksReset None) c.turns c.ending (Some (Reset None)) refl tt in (
      tt,
      all_append IsUnstarted (aged_entries Controller l.to_controller) _ (clear_unstarted _ (clear_aged Controller l.to_controller))
          (all_append IsUnstarted (aged_entries Host l.to_host) _ (clear_unstarted _ (clear_aged Host l.to_host))
          (all_append IsUnstarted (near_notes true (aged l) c) (tick_entries Host (exchanged (between true (aged l) c)) n)
          (all_append IsUnstarted (step_entries Controller (aged l) (AsksReset None) c.turns c.ending) []
          (subst (λ z. AreUnstarted z) (sym step.is) (shaped_unstarted Controller c.ending step.rest step.shaped)) tt)
          (shaped_unstarted Host n.ending _ (shaped_tick Host (exchanged (between true (aged l) c)) n)))),
    )

-- ### Events

-- what is seen of an event of a link that is told
event_seen : (h : ℕ) (l : Link) (t : List Entry) (e : LinkEvent) → IsLinkTold h l t → see_all (kept l) (event_entries l e) ≡ kept (happens l e)
event_seen h l t e a = let P : Link → Type 0 = λ k. see_all (kept k) (event_entries k e) ≡ kept (happens k e) in subst P a.run.is
    (event_seen_of_since a.events e)

module _ (h : ℕ) (l : Link) (e : LinkEvent) (t u : List Entry) (x : WatchedLink) (a : IsLinkTold h l t) (n : IsStepOf h l e u) (shown : Shown l x) where
  pub shown_more : AreUnstarted (event_entries l e) → Shown (happens l e) (watched h x u)
  shown_more plain =
      let all : ShownBy (see_all (kept l) (event_entries l e)) (standing_by_law h x.stands (event_entries l e)) =
      notes_shown h (event_entries l e) (kept l) x.stands plain shown.wires in
      let P : Seen → Type 0 = λ z. ShownBy z (standing_by_law h x.stands (event_entries l e)) in
      record {
        wires = subst (ShownBy (kept (happens l e))) (sym (n.stands x.stands)) (subst P (event_seen h l t e a) all);
        since = since_step h l e u n plain x shown.since;
        ready = λ z. ready_more h l e t u x.stands a n plain (shown.ready z);
      }

  pub step_shown : (who : Side) (comes : Comes) (ending : Ending) → IsStepShaped who comes ending (event_entries l e)
      → Shown (happens l e) (watched h (opened comes x) u)
  step_shown who comes ending s =
      let y : Standing = (opened comes x).stands in
      let all : ShownBy (see_all (see_all (kept l) (opened_by who comes)) s.rest) (standing_by_law h y s.rest) =
      notes_shown h s.rest (see_all (kept l) (opened_by who comes)) y (shaped_unstarted who ending s.rest s.shaped) (grind arith) in
      let seen : see_all (see_all (kept l) (opened_by who comes)) s.rest ≡ kept (happens l e) =
      sym (ap (see_all (kept l)) s.is ∙ see_all-append (kept l) (opened_by who comes) s.rest) ∙ event_seen h l t e a in
      let P : Seen → Type 0 = λ z. ShownBy z (standing_by_law h y s.rest) in
      record {
        wires = subst (ShownBy (kept (happens l e))) (sym (n.stands y ∙ (grind arith))) (subst P seen all);
        since = goes comes s.is;
        ready = begins comes s.is;
      }
    where
      rest_unstarted : AreUnstarted s.rest
      rest_unstarted = shaped_unstarted who ending s.rest s.shaped

      plainly : event_entries l e ≡ s.rest → (watched h x u).since ≡ true → IsSince (happens l e)
      plainly q = since_step h l e u n (subst (λ z. AreUnstarted z) (sym q) rest_unstarted) x shown.since

      ready_so : event_entries l e ≡ s.rest → (watched h x u).whole ≡ true → AreReady (happens l e) (watched h x u).stands
      ready_so q z = ready_more h l e t u x.stands a n (subst (λ z. AreUnstarted z) (sym q) rest_unstarted) (shown.ready z)

      begins : (c : Comes) → event_entries l e ≡ opened_by who c ++ s.rest → (watched h (opened c x) u).whole ≡ true
          → AreReady (happens l e) (watched h (opened c x) u).stands
      begins (Starts value) q = λ z. absurd (true≢false (sym z))
      begins Stops q = λ z. absurd (true≢false (sym z))
      begins _ q = ready_so q

      goes : (c : Comes) → event_entries l e ≡ opened_by who c ++ s.rest → (watched h (opened c x) u).since ≡ true → IsSince (happens l e)
      goes (Starts value) q = λ z. absurd (true≢false (sym z))
      goes Stops q = λ z. absurd (true≢false (sym z))
      goes _ q = plainly q

-- ### Activation at the controller's end puts nothing on the wire

-- nothing is due at an end that is Down
record IsBlank (e : LinkEnd) : Type 0 where
  acts : e.acts ≡ []
  due : e.shdlc.due ≡ []
  session : e.shdlc.session ≡ no_session
  down : e.shdlc.phase ≡ IsDown

blank_turned : (ts : List Turn) (e : LinkEnd) → IsBlank e → IsBlank (turned e ts)
blank_turned [] e a = a
blank_turned (t ∷ ts) e a = blank_turned ts (turn e t) (grind arith)

blank_out : (e : LinkEnd) → IsBlank e → frames_out e ≡ []
blank_out e a = grind arith

-- so both wires are empty as activation has begun there, and the end isn't active
pub record AreEmpty (l : Link) : Type 0 where
  pub to_controller : l.to_controller ≡ []
  pub to_host : l.to_host ≡ []
  pub unready : readiness_of l.controller.side ≡ inactive

pub started_empty : (l : Link) (value : ℕ) (ts : List Turn) (ending : Ending) → IsClf l.controller.side.role → l.controller.side.acts ≡ []
    → AreEmpty (happens l (AtController (Step (Starts value) ts ending)))
started_empty l value ts CutOff clf acts = record { to_controller = refl; to_host = refl; unready = started_unready l value ts CutOff (grind arith) }
started_empty l value ts GoesOut clf acts =
    let e : LinkEnd = started l.controller.side value in
    let out : frames_out (turned e ts) ≡ [] = blank_out (turned e ts) (blank_turned ts e (grind arith)) in
    record {
      to_controller = ap (λ cs. (put_all (silent l e) cs).to_controller) out;
      to_host = ap (λ cs. (put_all (silent l e) cs).to_host) out;
      unready = started_unready l value ts GoesOut (grind arith);
    }

pub empty_shown : (l : Link) (x : WatchedLink) → AreEmpty l → Shown l x → x.since ≡ false → x.whole ≡ false → unwatched x ≡ x
empty_shown l x e s q r = grind arith
