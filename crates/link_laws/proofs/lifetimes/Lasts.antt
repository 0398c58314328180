-- Two ends that are Up in one session, and the wires between them, where nothing was lost: the marks of the wires, and the timers in time.
use Rattle.std.proofs.Common.{max, not, ◌&&◌, ◌==◌}
use Rattle.std.proofs.lemmas.Bool.{le-ltb}
use Rattle.link_laws.proofs.Words.{Act, Bool, Clt, Control, Due, EndState, Fragment, I, Kind, List, None, Option, Rej, Rej_due, Rnr, Rnr_due, Rr, Rr_due, Rset}
use Rattle.link_laws.proofs.Words.{S, Session, Some, Ua, Up, [], acknowledged, ahead, arith, cases_lt, control_due, eq-eqb, expected, false, fetched}
use Rattle.link_laws.proofs.Words.{fragment_due, fragment_due-within, frame_due, inl, inr, length, length-append, lt-ltb, made_busy, nat_lt, ne_eqb, place_of}
use Rattle.link_laws.proofs.Words.{put_out, ready_again, refl, rejected, runs_timer, sent_again, sent_next, slice_get_within, subst, sym, take_answer, taken}
use Rattle.link_laws.proofs.Words.{tick_answer, ticked, true, with_frame, with_ready, ℕ, ⊎_elim, ◌%◌, ◌++◌, ◌+◌, ◌<◌, ◌||◌, ◌∙◌, ◌∷◌, ◌≡◌, ◌≤◌, ◌⊎◌}
use Rattle.link_laws.specs.places.Wire.{OnWire, older}
use Rattle.link_laws.proofs.lifetimes.Evidence.{Answers, DueBy, NoSrej, RewindBy, RewindDue, due_more, due_new_rnr, due_new_rr, due_push, rewind_due_push}
use Rattle.link_laws.proofs.lifetimes.Evidence.{rewind_due_rnr}
use Rattle.link_laws.proofs.lifetimes.Timely.{AnswersAll, MaySend, Timely, TookFragment, answers_pushed, in_time, same_or_below, timely_acked}
use Rattle.link_laws.proofs.lifetimes.Timely.{timely_answer, timely_answer_I, timely_kept, timely_older, timely_put, timely_received, timely_rewound}
use Rattle.link_laws.proofs.lifetimes.Timely.{timely_send, timely_send_S}
use Rattle.link_laws.proofs.places.Joined.{Joined, Sends, ahead_other, changed, fetch_cases, joined_exchanged, joined_fetched, joined_older, joined_put}
use Rattle.link_laws.proofs.places.Joined.{joined_ready, joined_taken, joined_ticked, past_end, place_found, ready_cases, received_cases, taken_I, taken_S}
use Rattle.link_laws.proofs.places.Joined.{with_next}
use Rattle.link_laws.proofs.places.Flows.{AnswersOnly, Counts, Places, Shows, counts_le, flows_number, push_not_empty, reduced, shows_older, shows_push}
use Rattle.link_laws.proofs.sessions.Wire.{Young, young_later, young_push}

-- ## The marks that a wire shows between two ends are the only ones: each number stands for one of at most eight places

-- the number accepted that a mark carries is one of the eight up to c, and its place one of the eight below m
abbrev pub Within : ℕ → ℕ → Control → Type 0
Within c m (I p n info) = (n ≤ c) × (c ≤ n + 7) × (p < m) × (m ≤ p + 8)
Within c m (S k n) = (n ≤ c) × (c ≤ n + 7)
Within c m _ = ⊥

abbrev pub AllWithin : ℕ → ℕ → List Control → Type 0
AllWithin c m [] = Unit {0}
AllWithin c m (a ∷ ms) = Within c m a × AllWithin c m ms

within_push : (c m : ℕ) (ms : List Control) (a : Control) → Within c m a → AllWithin c m ms → AllWithin c m (ms ++ a ∷ [])
within_push c m [] a e h = (e, tt)
within_push c m (_ ∷ ms) a e h = (h.0, within_push c m ms a e h.1)

same_number : (c a b : ℕ) → a ≤ c → c ≤ a + 7 → b ≤ c → c ≤ b + 7 → a % 8 ≡ b % 8 → a ≡ b
same_number c a b h i j k e = omega arith

same_mark : (c m : ℕ) (a b : Control) → reduced a ≡ reduced b → Within c m a → Within c m b → a ≡ b
same_mark c m a b e g h = grind arith

-- a wire shows one list of such marks
same_marks : (c m : ℕ) (wire : List OnWire) (ms ns : List Control) → Shows wire ms → Shows wire ns → AllWithin c m ms → AllWithin c m ns → ms ≡ ns
same_marks c m [] [] [] s t g h = refl
same_marks c m [] [] (_ ∷ _) s t g h = absurd t
same_marks c m [] (_ ∷ _) ns s t g h = absurd s
same_marks c m (x ∷ xs) [] ns s t g h = absurd s
same_marks c m (x ∷ xs) (_ ∷ _) [] s t g h = absurd t
same_marks c m (x ∷ xs) (a ∷ ms) (b ∷ ns) s t g h = let h0 = same_marks c m xs ms ns s.1 t.1 g.1 h.1 in grind arith

module _ (out : List Fragment) (c hi m top r : ℕ) (number : hi ≤ c) (place : top ≤ m) (low : m ≤ r + 4) where
  marks_within : (lo : ℕ) (ms : List Control) → c ≤ lo + 7 → Counts lo hi ms → Places out r top ms → AllWithin c m ms
  marks_within lo [] i counts places = tt
  marks_within lo (I p n info ∷ ms) i counts places =
      let most : n ≤ hi = counts_le n hi ms counts.1 in
      let least : c ≤ n + 7 = omega (arith, counts.0) in (
        (omega arith, least, omega (arith, places.1), omega (arith, places.0)),
        marks_within n ms least counts.1 places.4,
      )
  marks_within lo (S k n ∷ ms) i counts places =
      let most : n ≤ hi = counts_le n hi ms counts.1 in
      let least : c ≤ n + 7 = omega (arith, counts.0) in
      ((omega arith, least), marks_within n ms least counts.1 places)
  marks_within lo (_ ∷ ms) i counts places = absurd counts

-- the marks there on the wire from one end to another, and back on the other wire
module _ (one other : EndState) (there back : List Control) (to : Sends one.session other.session.acc there back)
    (from : Sends other.session one.session.acc back there) where
  -- by what the sender accepted and sent
  by_sender : AllWithin (length one.session.acc) one.session.reached there
  by_sender =
      let low : one.session.acked ≤ length other.session.acc = counts_le one.session.acked (length other.session.acc) back to.counts in
      marks_within one.session.out (length one.session.acc) (length one.session.acc) one.session.reached one.session.reached
      (length other.session.acc) (omega arith) (omega arith) (omega (arith, to.reach_window, to.window)) other.session.acked there
      (omega (arith, from.sent, from.reach_window, from.window)) from.counts to.places

  -- by what the receiver sent and accepted
  by_receiver : AllWithin (other.session.acked + 4) (length other.session.acc + 4) there
  by_receiver =
      let low : one.session.acked ≤ length other.session.acc = counts_le one.session.acked (length other.session.acc) back to.counts in
      marks_within one.session.out (other.session.acked + 4) (length one.session.acc) (length other.session.acc + 4) one.session.reached
      (length other.session.acc) (omega (arith, from.sent, from.reach_window, from.window))
      (omega (arith, to.reach_window, to.window)) (omega arith) other.session.acked there (omega arith) from.counts to.places

-- the wires show these marks, which lie about what the far end sent and accepted
pub record Shown (far : EndState) (to_near to_far : List OnWire) (near_marks far_marks : List Control) : Type 0 where
  pub near_shows : Shows to_near near_marks
  pub far_shows : Shows to_far far_marks
  pub near_within : AllWithin (length far.session.acc) far.session.reached near_marks
  pub far_within : AllWithin (far.session.acked + 4) (length far.session.acc + 4) far_marks

module _ (near far : EndState) (to_near to_far : List OnWire) (h : Joined ⊥ near far to_near to_far) where
  shown : Shown far to_near to_far h.near_marks h.far_marks
  shown =
      record {
        near_shows = h.near_shows;
        far_shows = h.far_shows;
        near_within = by_sender far near h.near_marks h.far_marks h.far_sends h.near_sends;
        far_within = by_receiver near far h.far_marks h.near_marks h.near_sends h.far_sends;
      }

  -- any such marks are those of the two ends
  marks_are : (near_marks far_marks : List Control) → Shown far to_near to_far near_marks far_marks
      → (h.near_marks ≡ near_marks) × (h.far_marks ≡ far_marks)
  marks_are near_marks far_marks k = (
    same_marks (length far.session.acc) far.session.reached to_near h.near_marks near_marks h.near_shows k.near_shows shown.near_within k.near_within,
    same_marks (far.session.acked + 4) (length far.session.acc + 4) to_far h.far_marks far_marks h.far_shows k.far_shows shown.far_within k.far_within,
  )

  -- the marks are the same where the ends are exchanged
  marks_exchanged : (k : Joined ⊥ far near to_far to_near) → (k.near_marks ≡ h.far_marks) × (k.far_marks ≡ h.near_marks)
  marks_exchanged k = (
    same_marks (far.session.acked + 4) (length far.session.acc + 4) to_far k.near_marks h.far_marks k.near_shows h.far_shows
        (by_receiver near far k.near_marks k.far_marks k.far_sends k.near_sends)
        (by_receiver near far h.far_marks h.near_marks h.near_sends h.far_sends),
    same_marks (near.session.acked + 4) (length near.session.acc + 4) to_near k.far_marks h.near_marks k.far_shows h.near_shows
        (by_receiver far near k.far_marks k.near_marks k.near_sends k.far_sends)
        (by_receiver far near h.near_marks h.far_marks h.far_sends h.near_sends),
  )

-- ## Two ends that are Up in one session and the wires between them, where nothing was lost: how each thing that one end does keeps its timer in time

-- kn and kf ticks have passed that the near and the far end have still to count
pub record Lasts (kn kf : ℕ) (near far : EndState) (to_near to_far : List OnWire) : Type 0 where
  pub joined : Joined ⊥ near far to_near to_far
  pub near_young : Young 4 to_near
  pub far_young : Young 4 to_far
  pub near_timely : Timely kn near far to_near to_far joined.near_marks joined.far_marks
  pub far_timely : Timely kf far near to_far to_near joined.far_marks joined.near_marks

-- the two ends are alike
pub lasts_exchanged : (kn kf : ℕ) (near far : EndState) (to_near to_far : List OnWire) → Lasts kn kf near far to_near to_far
    → Lasts kf kn far near to_far to_near
lasts_exchanged kn kf near far to_near to_far h =
    let k = joined_exchanged ⊥ near far to_near to_far h.joined in
    let same = marks_exchanged near far to_near to_far h.joined k in
    record {
      joined = k;
      near_young = h.far_young;
      far_young = h.near_young;
      near_timely = rw (same.0, same.1) h.far_timely;
      far_timely = rw (same.0, same.1) h.near_timely;
    }

-- both ends are timely on the wires with these marks
abbrev pub BothTimely : ℕ → ℕ → EndState → EndState → List OnWire → List OnWire → List Control → List Control → Type 0
BothTimely kn kf near far to_near to_far near_marks far_marks =
    Timely kn near far to_near to_far near_marks far_marks × Timely kf far near to_far to_near far_marks near_marks

module _ (kn kf : ℕ) (near far : EndState) (to_near to_far : List OnWire) where
  -- it is so for the marks of what is joined where it is so for marks that the wires show
  pub lasts_of : (near_marks far_marks : List Control) → Joined ⊥ near far to_near to_far → Shown far to_near to_far near_marks far_marks
      → Young 4 to_near → Young 4 to_far → BothTimely kn kf near far to_near to_far near_marks far_marks → Lasts kn kf near far to_near to_far
  lasts_of near_marks far_marks k shown yn yf both =
      let same = marks_are near far to_near to_far k near_marks far_marks shown in
      record {
        joined = k;
        near_young = yn;
        far_young = yf;
        near_timely = rw (same.0, same.1) both.0;
        far_timely = rw (same.0, same.1) both.1;
      }

  -- the near end was another before, on the same wires
  lasts_changed : (ln lf : ℕ) (before : EndState) (h : Lasts ln lf before far to_near to_far) → Joined ⊥ near far to_near to_far
      → BothTimely kn kf near far to_near to_far h.joined.near_marks h.joined.far_marks → Lasts kn kf near far to_near to_far
  lasts_changed ln lf before h k both =
      lasts_of h.joined.near_marks h.joined.far_marks k (shown before far to_near to_far h.joined) h.near_young h.far_young both

-- ### Turns

-- more is offered
pub lasts_put : (kn kf : ℕ) (near far : EndState) (to_near to_far : List OnWire) (more : List Fragment)
    → Lasts kn kf near far to_near to_far → Lasts kn kf (put_out near more) far to_near to_far
lasts_put kn kf near far to_near to_far more h =
    lasts_changed kn kf (put_out near more) far to_near to_far kn kf near h (joined_put ⊥ near far to_near to_far more h.joined) (
      timely_put near far to_near to_far h.joined.near_marks h.joined.far_marks kn more h.near_timely,
      timely_kept far near to_far to_near h.joined.far_marks h.joined.near_marks kf (put_out near more) refl refl h.far_timely,
    )

-- the end becomes ready or not ready
pub lasts_ready : (kn kf : ℕ) (near far : EndState) (to_near to_far : List OnWire) (r : Bool)
    → Lasts kn kf near far to_near to_far → Lasts kn kf (with_ready near r) far to_near to_far
lasts_ready kn kf near far to_near to_far r h =
    lasts_changed kn kf (with_ready near r) far to_near to_far kn kf near h (joined_ready ⊥ near far to_near to_far r h.joined)
    (ready_cases (λ e. BothTimely kn kf e far to_near to_far h.joined.near_marks h.joined.far_marks) near r (h.near_timely, h.far_timely)
    (at near.due (grind arith))
    (at (near.due ++ Rr_due ∷ []) (answers_pushed (length near.session.acc) near.due Rr_due)))
  where
    at : (due : List Due) → AnswersAll (length near.session.acc) (length near.session.acc) near.due due
        → BothTimely kn kf (changed near r due) far to_near to_far h.joined.near_marks h.joined.far_marks
    at due all = grind arith

-- ### A tick

tick_by : (P : EndState → Type 0) (e : EndState) → e.phase ≡ Up
    → (runs_timer e.session ≡ false → P e) → (runs_timer e.session ≡ true → P (record e { timer = e.timer + 1 }))
    → (runs_timer e.session ≡ true → 10 ≤ e.timer + 1 → P (sent_again e)) → e.tries < 5
    → P (ticked e) × ((tick_answer e).ended ≡ None)
tick_by P e up still counted again few = grind arith

-- what a timer that runs tells, where nothing is sent and unacknowledged
waits : (s : Session) → runs_timer s ≡ true → s.next ≤ s.acked → (s.peer_busy ≡ true) × (s.next < length s.out)
waits s h i = grind arith

pub lasts_ticked : (kf : ℕ) (near far : EndState) (to_near to_far : List OnWire) → near.session.probe ≡ false → far.due ≡ []
    → Lasts 1 kf near far to_near to_far → Lasts 0 kf (ticked near) far to_near to_far × ((tick_answer near).ended ≡ None)
lasts_ticked kf near far to_near to_far noprobe none h =
    let both =
    tick_by (λ e. BothTimely 0 kf e far to_near to_far near_marks far_marks) near h.joined.near_up
    (λ r. grind arith)
    (λ r. grind arith)
    (λ r late.
    let none_sent : s.next ≤ s.acked = no_more late in
    ((grind arith, timely_kept far near to_far to_near far_marks near_marks kf (sent_again near) refl refl h.far_timely)))
    (omega (arith, h.near_timely.most)) in (
      lasts_changed 0 kf (ticked near) far to_near to_far 1 kf near h (joined_ticked ⊥ near far to_near to_far both.1 h.joined) both.0,
      both.1,
    )
  where
    s : Session
    s = near.session

    near_marks : List Control
    near_marks = h.joined.near_marks

    far_marks : List Control
    far_marks = h.joined.far_marks

    runs : runs_timer s ≡ true → s.acked ≡ s.next → MaySend s → ⊥
    runs r e a = grind arith

    no_more : 10 ≤ near.timer + 1 → s.next ≤ s.acked
    no_more late = ⊎_elim (λ (e : s.acked < s.next). absurd (let g =
        in_time near far to_near to_far near_marks far_marks none h.near_young h.far_young h.near_timely e in omega arith)) (λ e. e)
        (cases_lt s.acked s.next)

-- all frames grow older
pub lasts_older : (near far : EndState) (to_near to_far : List OnWire) → near.due ≡ [] → far.due ≡ [] → Young 4 (older to_near) → Young 4 (older to_far)
    → Lasts 0 0 near far to_near to_far → Lasts 1 1 near far (older to_near) (older to_far)
lasts_older near far to_near to_far a b yn yf h =
    let j = h.joined in
    let m = shown near far to_near to_far j in
    let one = joined_exchanged ⊥ near far (older to_near) to_far (joined_older ⊥ near far to_near to_far j) in
    let k = joined_exchanged ⊥ far near (older to_far) (older to_near) (joined_older ⊥ far near to_far (older to_near) one) in
    lasts_of 1 1 near far (older to_near) (older to_far) j.near_marks j.far_marks k
    (record {
      near_shows = shows_older to_near j.near_marks m.near_shows;
      far_shows = shows_older to_far j.far_marks m.far_shows;
      near_within = m.near_within;
      far_within = m.far_within;
    })
    yn yf (
      timely_older near far to_near to_far j.near_marks j.far_marks b h.near_timely,
      timely_older far near to_far to_near j.far_marks j.near_marks a h.far_timely,
    )

-- ### A frame is taken

-- the timer and the tries after a number was taken
ack_timer : (e : EndState) (n : ℕ) → e.session.acked < n → ((acknowledged e n).timer ≡ 0) × ((acknowledged e n).tries ≡ 0)
ack_timer e n i = let b : nat_lt e.session.acked n ≡ true = lt-ltb e.session.acked n i in (rw b refl, rw b refl)

ack_same : (e : EndState) (n : ℕ) → e.session.acked ≡ n → ((acknowledged e n).timer ≡ e.timer) × ((acknowledged e n).tries ≡ e.tries)
ack_same e n i = let b : nat_lt e.session.acked n ≡ false = le-ltb e.session.acked n (omega arith) in (rw b refl, rw b refl)

-- an end that has accepted these fragments and has these control frames to send
abbrev answering : EndState → List Fragment → List Due → Bool → Bool → EndState
answering e acc due gap noted = record e { due = due; session = record e.session { acc = acc; gap_open = gap; answered_rnr = noted } }

pub lasts_taken : (near far : EndState) (x : OnWire) (to_near to_far : List OnWire) → near.session.probe ≡ false
    → Lasts 0 0 near far (x ∷ to_near) to_far
    → Lasts 0 0 (taken near x.frame) far to_near to_far × ((take_answer near x.frame).ended ≡ None)
lasts_taken near far x to_near to_far noprobe h = (
  go h.joined.near_marks (shown near far (x ∷ to_near) to_far h.joined) h.joined.near_sends h.joined.far_sends h.near_timely h.far_timely,
  one.1,
)
  where
    s : Session
    s = near.session

    t : Session
    t = far.session

    back : List Control
    back = h.joined.far_marks

    one : Joined ⊥ (taken near x.frame) far to_near to_far × ((take_answer near x.frame).ended ≡ None)
    one = joined_taken ⊥ near far x to_near to_far h.joined

    Both : List Control → EndState → Type 0
    Both ms f = BothTimely 0 0 f far to_near to_far ms back

    from : (m : Control) (ms : List Control) → Shown far (x ∷ to_near) to_far (m ∷ ms) back → Both ms (taken near x.frame)
        → Lasts 0 0 (taken near x.frame) far to_near to_far
    from m ms were both =
        lasts_of 0 0 (taken near x.frame) far to_near to_far ms back one.0
        (grind arith)
        (young_later x.age 4 to_near h.near_young.0 h.near_young.1) h.far_young both

    go : (ms : List Control) → Shown far (x ∷ to_near) to_far ms back → Sends s t.acc back ms → Sends t s.acc ms back
        → Timely 0 near far (x ∷ to_near) to_far ms back → Timely 0 far near to_far (x ∷ to_near) back ms
        → Lasts 0 0 (taken near x.frame) far to_near to_far
    go [] were near_sends far_sends near_timely far_timely = absurd were.near_shows
    go (I p n info ∷ ms) were near_sends far_sends near_timely far_timely =
        let number = flows_number (I p n info) n refl near_sends in
        let reach : s.reached ≤ s.acked + 4 = omega (arith, near_sends.window, near_sends.reach_window) in
        let place : place_of s (n % 8) ≡ Some n = place_found s n number.0 number.1 reach in
        let told : n ≤ length t.acc = counts_le n (length t.acc) ms number.2 in
        let e : EndState = acknowledged near n in
        let low : t.acked ≤ length s.acc = counts_le t.acked (length s.acc) back far_sends.counts in
        let behind : (ahead e.session (p % 8) ≡ 0 → ⊥) → p ≤ length s.acc → p < length s.acc = λ z b. (grind arith) in
        let other : (ahead e.session (p % 8) ≡ 0 → ⊥) → (p == length s.acc) ≡ false = λ z. ne_eqb p (length s.acc) (λ q. z (omega arith)) in
        let at : (acc : List Fragment) (due : List Due) (gap noted : Bool) → TookFragment (length s.acc) (length acc) near.due due p ms
        → Both ms (answering e acc due gap noted) =
        λ acc due gap noted took. (
          timely_acked near far to_near to_far ms back (answering e acc due gap noted) x (I p n info) n refl h.joined.far_due were.far_shows were.near_shows.1
              (grind arith)
              near_timely,
          timely_received far near to_far to_near back ms 0 (answering e acc due gap noted) x p n info h.near_young low took far_timely,
        ) in
        from (I p n info) ms were
        (subst (λ (c : Control). Both ms (taken near c)) (sym were.near_shows.0) (taken_I (Both ms) near (p % 8) (n % 8) n info h.joined.near_up place
        (received_cases (Both ms) e (p % 8) info
        (λ z.
        let more : length (s.acc ++ info ∷ []) ≡ length s.acc + 1 = omega (arith, length-append s.acc (info ∷ [])) in
        at (s.acc ++ info ∷ []) (near.due ++ Rr_due ∷ []) false s.answered_rnr
        (record {
          all = record {
            told = λ g. absurd (push_not_empty near.due Rr_due g);
            kept = λ a u g. rw more (due_push a u (length s.acc + 1) near.due Rr_due (due_more a u (length s.acc) near.due g));
            rewind = rewind_due_push near.due Rr_due;
          };
          new = λ u i j. due_new_rr p u (length (s.acc ++ info ∷ [])) near.due (omega arith) j;
          course = λ m c. inl (rw more (rw (eq-eqb p (length s.acc) (ahead_other e.session p far_sends.places.0 (grind arith) z)) at c));
        }))
        (λ z g. at s.acc near.due s.gap_open s.answered_rnr
        (grind arith))
        (λ z g. at s.acc (near.due ++ Rej_due ∷ []) true s.answered_rnr
        (record {
          all = answers_pushed (length s.acc) near.due Rej_due;
          new = λ u i j. absurd (grind arith);
          course = λ m c. inl (rw (other z) at c);
        }))
        (λ z g. at s.acc (near.due ++ Rr_due ∷ []) s.gap_open s.answered_rnr
        (record {
          all = answers_pushed (length s.acc) near.due Rr_due;
          new = λ u i j. due_new_rr p u (length s.acc) near.due (behind z i) j;
          course = λ m c. inl (rw (other z) at c);
        }))
        (at s.acc (near.due ++ Rnr_due ∷ []) s.gap_open true
        (record {
          all = answers_pushed (length s.acc) near.due Rnr_due;
          new = λ u i j. due_new_rnr p u (length s.acc) near.due j;
          course = λ m c. inr (rewind_due_rnr near.due);
        })))))
      where
        zeroed : n ≡ max s.next n → s.peer_busy ≡ false → (s.acked ≡ n) ⊎ (s.acked < n) → (acknowledged near n).timer ≡ 0
        zeroed q b (inl e) = (ack_same near n e).0 ∙ near_timely.starts (omega (arith, near_sends.acked_next)) (inl b)
        zeroed q b (inr e) = (ack_timer near n e).0
    go (S k n ∷ ms) were near_sends far_sends near_timely far_timely =
        let number = flows_number (S k n) n refl near_sends in
        let reach : s.reached ≤ s.acked + 4 = omega (arith, near_sends.window, near_sends.reach_window) in
        let place : place_of s (n % 8) ≡ Some n = place_found s n number.0 number.1 reach in
        let told : n ≤ length t.acc = counts_le n (length t.acc) ms number.2 in
        let at : (f : EndState) → f.session.acc ≡ s.acc → f.due ≡ near.due → Timely 0 f far to_near to_far ms back → Both ms f = grind arith in
        let rewound : (f : EndState) → f.session.acked ≡ n → f.session.next ≡ n → f.session.out ≡ s.out → f.session.probe ≡ false → f.timer ≡ 0
        → (f.tries ≤ 1) × (f.tries ≡ 1 → (n ≡ s.acked) × (near.tries ≡ 1) × (f.session.peer_busy ≡ false)) → Timely 0 f far to_near to_far ms back =
        λ f a b c d g tries. timely_rewound near far to_near to_far ms back f x k n
        (record { fits = told; acked = a; next = b; out = c; no_probe = d; timer = g; most = tries.0; again = tries.1 }) near_timely in
        from (S k n) ms were
        (subst (λ (c : Control). Both ms (taken near c)) (sym were.near_shows.0) (taken_S (Both ms) near k (n % 8) n h.joined.near_up place (record {
          rr = λ is. at (ready_again near n) refl refl
              (timely_acked near far to_near to_far ms back (ready_again near n) x (S k n) n (rw is refl) h.joined.far_due were.far_shows were.near_shows.1
              (grind arith)
              near_timely);
          rej = λ is. at (rejected near n) refl refl (rewound (rejected near n) refl refl refl refl refl (once (same_or_below s.acked n number.0)));
          rnr = λ is. at (made_busy near n) refl refl (rewound (made_busy near n) refl refl refl refl refl (omega arith, λ e. absurd (omega arith)));
          srej = λ is. absurd (rw is at near_timely.known);
        })))
      where
        once : (s.acked ≡ n) ⊎ (s.acked < n)
            → ((rejected near n).tries ≤ 1) × ((rejected near n).tries ≡ 1 → (n ≡ s.acked) × (near.tries ≡ 1) × (false ≡ false))
        once (inl e) = (omega (arith, (ack_same near n e).1, near_timely.most), λ k. (sym e, sym (ack_same near n e).1 ∙ k, refl))
        once (inr e) = (omega (arith, (ack_timer near n e).1), λ k. absurd (let z = (ack_timer near n e).1 in omega arith))
    go (Rset _ _ ∷ ms) were near_sends far_sends near_timely far_timely = absurd near_sends.counts
    go (Ua ∷ ms) were near_sends far_sends near_timely far_timely = absurd near_sends.counts
    go (Act _ _ ∷ ms) were near_sends far_sends near_timely far_timely = absurd near_sends.counts
    go (Clt ∷ ms) were near_sends far_sends near_timely far_timely = absurd near_sends.counts

-- ### A frame is made

-- where a fragment is due the sender may send: the other end isn't busy, or a probe goes out
may_send : (s : Session) (info : Fragment) → fragment_due s ≡ Some info → MaySend s
may_send s info e = grind arith

module _ (kf : ℕ) (near far : EndState) (to_near to_far : List OnWire) (h : Lasts 0 kf near far to_near to_far) where
  -- the near end has become e and sent this frame, if any: what is on the wire to the far end then
  record Sent (e : EndState) (frame : Option Control) : Type 0 where
    marks : List Control
    shown : Shown far to_near (with_next to_far frame) h.joined.near_marks marks
    young : Young 4 (with_next to_far frame)
    both : BothTimely 0 kf e far to_near (with_next to_far frame) h.joined.near_marks marks

  -- it is one frame more, with this mark
  sent_one : (e : EndState) (c m : Control) → c ≡ reduced m → Within (far.session.acked + 4) (length far.session.acc + 4) m
      → BothTimely 0 kf e far to_near (with_frame to_far c) h.joined.near_marks (h.joined.far_marks ++ m ∷ []) → Sent e (Some c)
  sent_one e c m is within both =
      let were = shown near far to_near to_far h.joined in
      record {
        marks = h.joined.far_marks ++ m ∷ [];
        shown = record {
          near_shows = were.near_shows;
          far_shows = shows_push to_far h.joined.far_marks c m is were.far_shows;
          near_within = were.near_within;
          far_within = within_push (far.session.acked + 4) (length far.session.acc + 4) h.joined.far_marks m within were.far_within;
        };
        young = young_push 4 to_far (record { frame = c; age = 0; number = 0 }) refl h.far_young;
        both = both;
      }

  -- the number accepted that a frame carries
  number_within : (length near.session.acc ≤ far.session.acked + 4) × (far.session.acked + 4 ≤ length near.session.acc + 7)
  number_within =
      let k = h.joined.far_sends in (
        omega (arith, k.sent, k.reach_window, k.window),
        omega (arith, counts_le far.session.acked (length near.session.acc) h.joined.far_marks k.counts),
      )

  answered : (k : Kind) (ds : List Due) → NoSrej (S k (length near.session.acc) ∷ [])
      → (RewindDue near.due → RewindBy (S k (length near.session.acc) ∷ []) ⊎ RewindDue ds)
      → ((a t : ℕ) → DueBy a t (length near.session.acc) near.due
      → (Answers a (S k (length near.session.acc)) × (t ≤ 4)) ⊎ DueBy a t (length near.session.acc) ds)
      → Sent (record near { due = ds }) (Some (S k (expected near.session)))
  answered k ds srej rewind answers =
      let j = h.joined in
      let c : Control = S k (expected near.session) in
      sent_one (record near { due = ds }) c (S k (length near.session.acc)) refl number_within (
        timely_send_S near far to_near to_far j.near_marks j.far_marks 0 ds k (length near.session.acc) c h.near_timely,
        timely_answer far near to_far to_near j.far_marks j.near_marks kf ds k c j.far_shows srej rewind answers h.far_timely,
      )

  sent : (info : Fragment) → fragment_due near.session ≡ Some info
      → Sent (record near { session = sent_next near.session }) (Some (I (near.session.next % 8) (expected near.session) info))
  sent info is =
      let s = near.session in
      let j = h.joined in
      let k = h.joined.near_sends in
      let low = counts_le s.acked (length far.session.acc) j.near_marks k.counts in
      let tells = fragment_due-within s info is in
      let c : Control = I (s.next % 8) (expected s) info in
      sent_one (record near { session = sent_next s }) c (I s.next (length s.acc) info) refl
      (number_within.0, number_within.1, omega (arith, tells.0, k.window, low), omega (arith, k.sent, k.reach_window, k.window, k.acked_next)) (
        timely_send near far to_near to_far j.near_marks j.far_marks (length s.acc) info c j.far_shows k.acked_next
            (slice_get_within s.out s.next info tells.1) (may_send s info is) h.near_timely,
        timely_answer_I far near to_far to_near j.far_marks j.near_marks kf s.next info c h.far_timely,
      )

  -- the near end sends its next frame, where one is due
  pub lasts_fetched : Lasts 0 kf (fetched near) far to_near (with_next to_far (frame_due near))
  lasts_fetched =
      let k = joined_fetched ⊥ ⊥ (λ v. v) near far to_near to_far (λ v. absurd v) h.joined in
      let r =
      fetch_cases Sent near (λ d ds p. control d ds p (rw p at h.joined.near_due))
      (λ p q. record {
        marks = h.joined.far_marks;
        shown = shown near far to_near to_far h.joined;
        young = h.far_young;
        both = (h.near_timely, h.far_timely);
      })
      (λ info p q. sent info q) in
      lasts_of 0 kf (fetched near) far to_near (with_next to_far (frame_due near)) h.joined.near_marks r.marks k r.shown h.near_young r.young r.both
    where
      control : (d : Due) (ds : List Due) → near.due ≡ d ∷ ds → AnswersOnly (d ∷ ds) → Sent (record near { due = ds }) (Some (control_due near d))
      control Rr_due ds p a = answered Rr ds tt (λ g. inr (rw p at g)) (λ b t g. rw p at g)
      control Rej_due ds p a = answered Rej ds tt (λ g. inl tt) (λ b t g. ⊎_elim (λ e. inl (tt, e)) (λ e. inr e) (rw p at g))
      control Rnr_due ds p a = answered Rnr ds tt (λ g. inl tt) (λ b t g. ⊎_elim (λ e. inl (tt, e)) (λ e. inr e) (rw p at g))
      control _ ds p a = absurd a

-- an end that has sent all that is due makes no probe
pub no_probe : (kn kf : ℕ) (near far : EndState) (to_near to_far : List OnWire) → frame_due near ≡ None → Lasts kn kf near far to_near to_far
    → near.session.probe ≡ false
no_probe kn kf near far to_near to_far idle h = go near.session.probe refl
  where
    s : Session
    s = near.session

    none : fragment_due s ≡ None
    none = fetch_cases (λ f c. c ≡ None → fragment_due s ≡ None) near (λ d ds p n. cc) (λ p q n. q) (λ info p q n. cc) idle

    go : (b : Bool) → s.probe ≡ b → s.probe ≡ false
    go false q = q
    go true q =
        let g = h.near_timely.probes q in
        let test : ((not s.peer_busy || s.probe) && nat_lt s.next (s.acked + s.window)) ≡ true = grind arith in
        absurd (let f = past_end s.out s.next (rw test at none) in omega (arith, g.0, g.1))
