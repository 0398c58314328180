-- One sender, its receiver and the wires between them, where nothing was lost: the sender's timer never comes to ten while
-- something is sent and unacknowledged, and at most one try is made. The near end is the sender.
use Rattle.std.proofs.Common.{◌==◌, max}
use Rattle.link_laws.proofs.Words.{Control, Due, EndState, Fragment, I, Kind, List, S, Session, [], arith, cases_lt, cond, false, inl, inr, length}
use Rattle.link_laws.proofs.Words.{length-append, put_out, refl, sent_next, sym, true, true≢false, with_frame, ℕ, ⊎_elim, ◌++◌, ◌+◌, ◌<◌, ◌∙◌, ◌∷◌, ◌≡◌, ◌≤◌}
use Rattle.link_laws.proofs.Words.{◌⊎◌}
use Rattle.link_laws.specs.places.Wire.{OnWire, older}
use Rattle.link_laws.proofs.places.Flows.{AnswersOnly, Shows, last_count, last_count_push_I, last_count_push_S, push_not_empty}
use Rattle.link_laws.proofs.sessions.Wire.{Young}
use Rattle.link_laws.proofs.lifetimes.Evidence.{Answers, SentBy, AnswerBy, DueBy, RewindDue, RewindBy, NoSrej, OnlyAcks, course_of, sent_push, sent_new}
use Rattle.link_laws.proofs.lifetimes.Evidence.{answer_push, answer_new, sent_older, answer_older, sent_in_time, answer_in_time, rewind_push, rewind_new}
use Rattle.link_laws.proofs.lifetimes.Evidence.{no_srej_push, course_from, course_push, course_push_S, course_shows, last_answers}
use Rattle.link_laws.proofs.lifetimes.Evidence.{rewind_answers, rewind_due_answers, due_push, rewind_due_push}

-- one of three ways, each of which is kept
each : {A B C D E F : Type 0} → A ⊎ (B ⊎ C) → (A → D) → (B → E) → (C → F) → D ⊎ (E ⊎ F)
each a f g h = grind arith

pub same_or_below : (a b : ℕ) → a ≤ b → (a ≡ b) ⊎ (a < b)
same_or_below a b i = ⊎_elim (λ h. inr h) (λ h. inl (omega arith)) (cases_lt a b)

-- the place a is answered in time
abbrev pub Evidence : ℕ → ℕ → EndState → List OnWire → List OnWire → List Control → List Control → Type 0
Evidence a t far to_near to_far near_marks far_marks =
    SentBy a t to_far far_marks ⊎ (AnswerBy a t to_near near_marks ⊎ DueBy a t (length far.session.acc) far.due)

-- all places below n will be accepted, or are to be sent again
abbrev pub Course : ℕ → EndState → List Control → List Control → Type 0
Course n far near_marks far_marks = (n ≤ course_of (length far.session.acc) far_marks) ⊎ (RewindDue far.due ⊎ RewindBy near_marks)

-- the other end isn't busy, or a probe goes out
abbrev pub MaySend : Session → Type 0
MaySend s = (s.peer_busy ≡ false) ⊎ (s.probe ≡ true)

-- k ticks have passed that the sender has still to count
pub record Timely (k : ℕ) (near far : EndState) (to_near to_far : List OnWire) (near_marks far_marks : List Control) : Type 0 where
  pub told : far.due ≡ [] → last_count near.session.acked near_marks ≡ length far.session.acc
  pub known : NoSrej near_marks
  pub course : Course near.session.next far near_marks far_marks
  pub evidence : near.session.acked < near.session.next → Evidence near.session.acked (near.timer + k) far to_near to_far near_marks far_marks
  pub starts : near.session.acked ≡ near.session.next → MaySend near.session → near.timer ≡ 0
  pub probes : near.session.probe ≡ true → (near.session.next ≡ near.session.acked) × (near.session.acked < length near.session.out)
  pub most : near.tries ≤ 1
  pub tried : near.tries ≡ 1 → (near.session.acked < length near.session.out) × ((near.session.acked < near.session.next) ⊎ MaySend near.session)

-- ## What an end becomes

-- the sender takes the number n, which its receiver told, and becomes near'
pub record TookNumber (near near' far : EndState) (n : ℕ) : Type 0 where
  pub fits : (near.session.acked ≤ n) × (n ≤ length far.session.acc)
  pub acked : near'.session.acked ≡ n
  pub next : near'.session.next ≡ max near.session.next n
  pub out : near'.session.out ≡ near.session.out
  pub no_probe : (near.session.probe ≡ false) × (near'.session.probe ≡ false)
  pub busy : (near'.session.peer_busy ≡ false) ⊎ (near'.session.peer_busy ≡ near.session.peer_busy)
  pub grew : near.session.acked < n → (near'.timer ≡ 0) × (near'.tries ≡ 0)
  pub same_tries : near.session.acked ≡ n → near'.tries ≡ near.tries
  pub same_timer : near.session.acked ≡ n → n < max near.session.next n → near'.timer ≡ near.timer
  pub starts : near'.session.acked ≡ near'.session.next → near'.session.peer_busy ≡ false → near'.timer ≡ 0

-- it takes the number n of a frame that asks for all from this place on again
pub record Rewound (near near' far : EndState) (n : ℕ) : Type 0 where
  pub fits : n ≤ length far.session.acc
  pub acked : near'.session.acked ≡ n
  pub next : near'.session.next ≡ n
  pub out : near'.session.out ≡ near.session.out
  pub no_probe : near'.session.probe ≡ false
  pub timer : near'.timer ≡ 0
  pub most : near'.tries ≤ 1
  pub again : near'.tries ≡ 1 → (n ≡ near.session.acked) × (near.tries ≡ 1) × (near'.session.peer_busy ≡ false)

-- a receiver that accepted q, with these control frames to send, answers all that it was to answer when it had accepted r
pub record AnswersAll (r q : ℕ) (due due' : List Due) : Type 0 where
  pub told : due' ≡ [] → (due ≡ []) × (q ≡ r)
  pub kept : (a t : ℕ) → DueBy a t r due → DueBy a t q due'
  pub rewind : RewindDue due → RewindDue due'

-- one more control frame waits
pub answers_pushed : (r : ℕ) (due : List Due) (d : Due) → AnswersAll r r due (due ++ d ∷ [])
answers_pushed r due d =
    record {
      told = λ e. absurd (push_not_empty due d e);
      kept = λ a t g. due_push a t r due d g;
      rewind = rewind_due_push due d;
    }

-- it took the fragment at the place p and answers this one too; ms stand behind it on the wire
pub record TookFragment (r q : ℕ) (due due' : List Due) (p : ℕ) (ms : List Control) : Type 0 where
  pub all : AnswersAll r q due due'
  pub new : (t : ℕ) → p ≤ r → t ≤ 4 → DueBy p t q due'
  pub course : (n : ℕ) → n ≤ course_of (cond (p == r) (r + 1) r) ms → (n ≤ course_of q ms) ⊎ RewindDue due'

module _ (near far : EndState) (to_near to_far : List OnWire) (near_marks far_marks : List Control) where
  -- ## The sender takes an answer

  -- a place that was sent and isn't acknowledged is answered
  untimed : (n : ℕ) → AnswersOnly far.due → Shows to_far far_marks → Shows to_near near_marks → NoSrej near_marks
      → n ≤ length far.session.acc → n < near.session.next → (far.due ≡ [] → last_count n near_marks ≡ length far.session.acc)
      → Course near.session.next far near_marks far_marks → Evidence n 0 far to_near to_far near_marks far_marks
  untimed n answers sf sn known i j told (inr (inl h)) = inr (inr (rewind_due_answers n (length far.session.acc) far.due h))
  untimed n answers sf sn known i j told (inr (inr h)) = inr (inl (rewind_answers n to_near near_marks sn h))
  untimed n answers sf sn known i j told (inl h) = ⊎_elim
      (λ (e : n ≡ length far.session.acc). inl (rw e (course_shows (length far.session.acc) to_far far_marks sf (omega arith))))
      (at far.due refl) (same_or_below n (length far.session.acc) i)
    where
      at : (ds : List Due) → far.due ≡ ds → n < length far.session.acc → Evidence n 0 far to_near to_far near_marks far_marks
      at [] q k = ⊎_elim (λ e. absurd (omega arith)) (λ e. inr (inl e))
          (last_answers n n (length far.session.acc) to_near near_marks sn known k (told q))
      at (d ∷ ds) q k = inr (inr (rw q (let h0 = (length far.session.acc) in grind arith)))

  -- RR, or the number of an I frame
  pub timely_acked : (near' : EndState) (x : OnWire) (m : Control) (n : ℕ) → OnlyAcks m n → AnswersOnly far.due
      → Shows to_far far_marks → Shows to_near near_marks → TookNumber near near' far n
      → Timely 0 near far (x ∷ to_near) to_far (m ∷ near_marks) far_marks → Timely 0 near' far to_near to_far near_marks far_marks
  timely_acked near' x m n is answers sf sn took h =
      record {
        told = λ e. rw took.acked (tell e);
        known = known;
        course = rw took.next
            (each course (λ k. omega (arith, course_from (length far.session.acc) far_marks, took.fits.1)) (λ k. k) (λ k. k));
        evidence = λ k.
            rw took.acked (evidence (let a : near'.session.acked < near'.session.next = k in omega (arith, took.acked, took.next)) order);
        starts = λ e b. took.starts e (grind arith);
        probes = λ e. absurd (true≢false (sym e ∙ took.no_probe.1));
        most = most order;
        tried = λ e. tried e order;
      }
    where
      order : (near.session.acked ≡ n) ⊎ (near.session.acked < n)
      order = same_or_below near.session.acked n took.fits.0

      rest : (Answers near.session.acked m → near.session.acked < n) × (RewindBy (m ∷ near_marks) → RewindBy near_marks)
          × (last_count near.session.acked (m ∷ near_marks) ≡ last_count n near_marks)
      rest = grind arith

      known : NoSrej near_marks
      known = grind arith

      course : Course near.session.next far near_marks far_marks
      course = each h.course (λ k. k) (λ k. k) rest.1

      tell : far.due ≡ [] → last_count n near_marks ≡ length far.session.acc
      tell e = sym rest.2 ∙ h.told e

      evidence : n < max near.session.next n → (near.session.acked ≡ n) ⊎ (near.session.acked < n)
          → Evidence n (near'.timer + 0) far to_near to_far near_marks far_marks
      evidence k (inl e) = rw (took.same_timer e k, ← e) (grind arith)
      evidence k (inr g) =
          let zero_timer : near'.timer + 0 ≡ 0 = omega (arith, (took.grew g).0) in
          rw zero_timer (untimed n answers sf sn known took.fits.1 (omega arith) tell course)

      most : (near.session.acked ≡ n) ⊎ (near.session.acked < n) → near'.tries ≤ 1
      most a = grind arith

      later : near.session.acked ≡ n → (near.session.acked < near.session.next) ⊎ MaySend near.session
          → (near'.session.acked < near'.session.next) ⊎ MaySend near'.session
      later e a = grind arith

      tried : near'.tries ≡ 1 → (near.session.acked ≡ n) ⊎ (near.session.acked < n)
          → (near'.session.acked < length near'.session.out) × ((near'.session.acked < near'.session.next) ⊎ MaySend near'.session)
      tried e a = grind arith

  -- REJ or RNR: all from its place on is to be sent again
  pub timely_rewound : (near' : EndState) (x : OnWire) (kind : Kind) (n : ℕ) → Rewound near near' far n
      → Timely 0 near far (x ∷ to_near) to_far (S kind n ∷ near_marks) far_marks → Timely 0 near' far to_near to_far near_marks far_marks
  timely_rewound near' x kind n is h =
      record {
        told = λ e. rw is.acked (h.told e);
        known = grind arith;
        course = inl (omega (arith, course_from (length far.session.acc) far_marks, is.next, is.fits));
        evidence = λ k. absurd (omega (arith, is.acked, is.next));
        starts = λ e b. is.timer;
        probes = λ e. absurd (true≢false (sym e ∙ is.no_probe));
        most = is.most;
        tried = λ e. let g = is.again e in ((rw (is.acked, is.out, g.0) (h.tried g.1).0), inr (inl g.2));
      }

  -- ## The receiver takes a frame

  -- it answers all that it was to answer
  pub timely_answering : (k : ℕ) (far' : EndState) → far'.session.acc ≡ far.session.acc
      → AnswersAll (length far.session.acc) (length far'.session.acc) far.due far'.due
      → Timely k near far to_near to_far near_marks far_marks → Timely k near far' to_near to_far near_marks far_marks
  timely_answering k far' same all h =
      record {
        told = λ e. let g = all.told e in h.told g.0 ∙ sym g.1;
        known = h.known;
        course = each h.course (λ c. rw same c) all.rewind (λ c. c);
        evidence = λ e. each (h.evidence e) (λ g. g) (λ g. g) (all.kept near.session.acked (near.timer + k));
        starts = h.starts;
        probes = h.probes;
        most = h.most;
        tried = h.tried;
      }

  -- what it accepted and has to answer is the same
  pub timely_kept : (k : ℕ) (far' : EndState) → far'.session.acc ≡ far.session.acc → far'.due ≡ far.due
      → Timely k near far to_near to_far near_marks far_marks → Timely k near far' to_near to_far near_marks far_marks
  timely_kept k far' same due h = timely_answering k far' same (rw (same, due) (grind arith)) h

  -- it takes a fragment
  pub timely_received : (k : ℕ) (far' : EndState) (x : OnWire) (p n : ℕ) (info : Fragment) → Young 4 (x ∷ to_far) → near.session.acked ≤ length far.session.acc
      → TookFragment (length far.session.acc) (length far'.session.acc) far.due far'.due p far_marks
      → Timely k near far to_near (x ∷ to_far) near_marks (I p n info ∷ far_marks) → Timely k near far' to_near to_far near_marks far_marks
  timely_received k far' x p n info young low took h =
      record {
        told = λ e. let g = took.all.told e in h.told g.0 ∙ sym g.1;
        known = h.known;
        course = go h.course;
        evidence = λ e. evidence (h.evidence e);
        starts = h.starts;
        probes = h.probes;
        most = h.most;
        tried = h.tried;
      }
    where
      go : Course near.session.next far near_marks (I p n info ∷ far_marks) → Course near.session.next far' near_marks far_marks
      go (inl c) = ⊎_elim (λ g. inl g) (λ g. inr (inl g)) (took.course near.session.next c)
      go (inr (inl c)) = inr (inl (took.all.rewind c))
      go (inr (inr c)) = inr (inr c)

      evidence : Evidence near.session.acked (near.timer + k) far to_near (x ∷ to_far) near_marks (I p n info ∷ far_marks)
          → Evidence near.session.acked (near.timer + k) far' to_near to_far near_marks far_marks
      evidence (inl (inl e)) =
          inr (inr (rw (← e.0) (took.new (near.timer + k) (omega (arith, e.0)) (omega (arith, e.1, young.0)))))
      evidence (inl (inr e)) = inl e
      evidence (inr (inl e)) = inr (inl e)
      evidence (inr (inr e)) = inr (inr (took.all.kept near.session.acked (near.timer + k) e))

  -- ## Turns

  -- more is offered to the sender
  pub timely_put : (k : ℕ) (more : List Fragment) → Timely k near far to_near to_far near_marks far_marks
      → Timely k (put_out near more) far to_near to_far near_marks far_marks
  timely_put k more h =
      let longer : length near.session.out ≤ length (near.session.out ++ more) = omega (arith, length-append near.session.out more) in
      grind arith

  -- ## Frames are made

  -- the receiver sends an answer that was due
  pub timely_answer : (k : ℕ) (ds : List Due) (kind : Kind) (c : Control) → Shows to_near near_marks
      → NoSrej (S kind (length far.session.acc) ∷ []) → (RewindDue far.due → RewindBy (S kind (length far.session.acc) ∷ []) ⊎ RewindDue ds)
      → ((a t : ℕ) → DueBy a t (length far.session.acc) far.due
      → (Answers a (S kind (length far.session.acc)) × (t ≤ 4)) ⊎ DueBy a t (length far.session.acc) ds)
      → Timely k near far to_near to_far near_marks far_marks
      → Timely k near (record far { due = ds }) (with_frame to_near c) to_far (near_marks ++ S kind (length far.session.acc) ∷ []) far_marks
  timely_answer k ds kind c shows srej rewind answers h =
      record {
        told = λ e. last_count_push_S near.session.acked (length far.session.acc) kind near_marks;
        known = no_srej_push near_marks m srej h.known;
        course = go h.course;
        evidence = λ e. evidence (h.evidence e);
        starts = h.starts;
        probes = h.probes;
        most = h.most;
        tried = h.tried;
      }
    where
      m : Control
      m = S kind (length far.session.acc)

      go : Course near.session.next far near_marks far_marks → Course near.session.next (record far { due = ds }) (near_marks ++ m ∷ []) far_marks
      go (inl g) = inl g
      go (inr (inl g)) = ⊎_elim (λ e. inr (inr (rewind_new near_marks m e))) (λ e. inr (inl e)) (rewind g)
      go (inr (inr g)) = inr (inr (rewind_push near_marks m g))

      evidence : Evidence near.session.acked (near.timer + k) far to_near to_far near_marks far_marks
          → Evidence near.session.acked (near.timer + k) (record far { due = ds }) (with_frame to_near c) to_far (near_marks ++ m ∷ []) far_marks
      evidence (inl e) = inl e
      evidence (inr (inl e)) = inr (inl (answer_push near.session.acked (near.timer + k) to_near near_marks c m e))
      evidence (inr (inr e)) = ⊎_elim (λ g. inr (inl (answer_new near.session.acked (near.timer + k) to_near near_marks c m g.0 g.1 shows)))
          (λ g. inr (inr g)) (answers near.session.acked (near.timer + k) e)

  -- it sends a fragment of its own
  pub timely_answer_I : (k p : ℕ) (info : Fragment) (c : Control) → Timely k near far to_near to_far near_marks far_marks
      → Timely k near (record far { session = sent_next far.session }) (with_frame to_near c) to_far
      (near_marks ++ I p (length far.session.acc) info ∷ []) far_marks
  timely_answer_I k p info c h =
      record {
        told = λ e. last_count_push_I near.session.acked p (length far.session.acc) info near_marks;
        known = no_srej_push near_marks m tt h.known;
        course = each h.course (λ g. g) (λ g. g) (rewind_push near_marks m);
        evidence = λ e.
            each (h.evidence e) (λ g. g) (answer_push near.session.acked (near.timer + k) to_near near_marks c m) (λ g. g);
        starts = h.starts;
        probes = h.probes;
        most = h.most;
        tried = h.tried;
      }
    where
      m : Control
      m = I p (length far.session.acc) info

  -- the sender sends an answer
  pub timely_send_S : (k : ℕ) (ds : List Due) (kind : Kind) (n : ℕ) (c : Control) → Timely k near far to_near to_far near_marks far_marks
      → Timely k (record near { due = ds }) far to_near (with_frame to_far c) near_marks (far_marks ++ S kind n ∷ [])
  timely_send_S k ds kind n c h =
      record {
        told = h.told;
        known = h.known;
        course = each h.course (course_push_S (length far.session.acc) near.session.next n kind far_marks) (λ g. g) (λ g. g);
        evidence = λ e. each (h.evidence e) (sent_push near.session.acked (near.timer + k) to_far far_marks c (S kind n)) (λ g. g) (λ g. g);
        starts = h.starts;
        probes = h.probes;
        most = h.most;
        tried = h.tried;
      }

  -- the sender sends its next fragment
  pub timely_send : (n : ℕ) (info : Fragment) (c : Control) → Shows to_far far_marks → near.session.acked ≤ near.session.next
      → near.session.next < length near.session.out → MaySend near.session
      → Timely 0 near far to_near to_far near_marks far_marks
      → Timely 0 (record near { session = sent_next near.session }) far to_near (with_frame to_far c) near_marks
      (far_marks ++ I near.session.next n info ∷ [])
  timely_send n info c shows from inside may h =
      record {
        told = h.told;
        known = h.known;
        course = each h.course (course_push (length far.session.acc) near.session.next n info far_marks) (λ g. g) (λ g. g);
        evidence = λ e. evidence (same_or_below near.session.acked near.session.next from);
        starts = λ e b. absurd (omega arith);
        probes = λ e. absurd (true≢false (sym e));
        most = h.most;
        tried = λ e. (omega arith, inl (omega arith));
      }
    where
      m : Control
      m = I near.session.next n info

      evidence : (near.session.acked ≡ near.session.next) ⊎ (near.session.acked < near.session.next)
          → Evidence near.session.acked (near.timer + 0) far to_near (with_frame to_far c) near_marks (far_marks ++ m ∷ [])
      evidence (inl e) =
          inl (rw e (sent_new near.session.next (near.timer + 0) n info to_far far_marks c (omega (arith, h.starts e may)) shows))
      evidence (inr e) = each (h.evidence e) (sent_push near.session.acked (near.timer + 0) to_far far_marks c m) (λ g. g) (λ g. g)

  -- ## Time

  -- all frames grow older by a tick that the sender has still to count
  pub timely_older : far.due ≡ [] → Timely 0 near far to_near to_far near_marks far_marks
      → Timely 1 near far (older to_near) (older to_far) near_marks far_marks
  timely_older none h =
      record {
        told = h.told;
        known = h.known;
        course = h.course;
        evidence = λ e.
            let same : (near.timer + 0) + 1 ≡ near.timer + 1 = omega arith in
            each (h.evidence e) (λ g. rw (← same) (sent_older near.session.acked (near.timer + 0) to_far far_marks g))
            (λ g. rw (← same) (answer_older near.session.acked (near.timer + 0) to_near near_marks g)) (λ g. absurd (rw none at g));
        starts = h.starts;
        probes = h.probes;
        most = h.most;
        tried = h.tried;
      }

  -- a tick of the sender comes before the tenth while something is sent and unacknowledged
  pub in_time : far.due ≡ [] → Young 4 to_near → Young 4 to_far → Timely 1 near far to_near to_far near_marks far_marks
      → near.session.acked < near.session.next → near.timer + 1 < 10
  in_time none yn yf h e = go (h.evidence e)
    where
      go : Evidence near.session.acked (near.timer + 1) far to_near to_far near_marks far_marks → near.timer + 1 < 10
      go (inl k) = omega (arith, sent_in_time near.session.acked (near.timer + 1) 4 to_far far_marks yf k)
      go (inr (inl k)) = omega (arith, answer_in_time near.session.acked (near.timer + 1) 4 to_near near_marks yn k)
      go (inr (inr k)) = absurd (rw none at k)
