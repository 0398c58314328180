-- What shows that an unacknowledged fragment will be answered in time: it, its answer or the answer that is due.
use Rattle.std.proofs.Common.{◌==◌}
use Rattle.link_laws.proofs.Words.{Act, Clt, Control, Due, Fragment, I, Kind, List, Rej, Rej_due, Rnr, Rnr_due, Rr, Rr_due, Rset, Rset_due, S, Srej, Ua, Ua_due}
use Rattle.link_laws.proofs.Words.{[], arith, cond, eqb-true, inl, inr, refl, with_frame, ℕ, ◌++◌, ◌+◌, ◌<◌, ◌∷◌, ◌≡◌, ◌≤◌, ◌⊎◌}
use Rattle.link_laws.specs.places.Wire.{OnWire, older}
use Rattle.link_laws.proofs.places.Flows.{Shows, last_count}
use Rattle.link_laws.proofs.sessions.Wire.{Young, young_later}
use Rattle.link_laws.proofs.Cases.{by_test}

-- this answer acknowledges the place a, or makes the sender's timer start again
abbrev pub Answers : ℕ → Control → Type 0
Answers a (I p n info) = a < n
Answers a (S Rr n) = a < n
Answers a (S Rej n) = Unit {0}
Answers a (S Rnr n) = Unit {0}
Answers a _ = ⊥

-- the fragment at the place a is on its way, at least as long as t ticks
abbrev pub SentBy : ℕ → ℕ → List OnWire → List Control → Type 0
SentBy a t [] ms = ⊥
SentBy a t (x ∷ xs) [] = ⊥
SentBy a t (x ∷ xs) (I p n info ∷ ms) = ((p ≡ a) × (t ≤ x.age)) ⊎ SentBy a t xs ms
SentBy a t (x ∷ xs) (_ ∷ ms) = SentBy a t xs ms

-- its answer is on its way, at least as long as t ticks but four
abbrev pub AnswerBy : ℕ → ℕ → List OnWire → List Control → Type 0
AnswerBy a t [] ms = ⊥
AnswerBy a t (x ∷ xs) [] = ⊥
AnswerBy a t (x ∷ xs) (m ∷ ms) = (Answers a m × (t ≤ x.age + 4)) ⊎ AnswerBy a t xs ms

-- its answer is due, at a receiver that accepted r
abbrev pub DueBy : ℕ → ℕ → ℕ → List Due → Type 0
DueBy a t r [] = ⊥
DueBy a t r (Rr_due ∷ ds) = ((a < r) × (t ≤ 4)) ⊎ DueBy a t r ds
DueBy a t r (Rej_due ∷ ds) = (t ≤ 4) ⊎ DueBy a t r ds
DueBy a t r (Rnr_due ∷ ds) = (t ≤ 4) ⊎ DueBy a t r ds
DueBy a t r (_ ∷ ds) = DueBy a t r ds

-- REJ or RNR is due
abbrev pub RewindDue : List Due → Type 0
RewindDue [] = ⊥
RewindDue (Rej_due ∷ ds) = Unit {0}
RewindDue (Rnr_due ∷ ds) = Unit {0}
RewindDue (_ ∷ ds) = RewindDue ds

-- REJ or RNR is on its way
abbrev pub RewindBy : List Control → Type 0
RewindBy [] = ⊥
RewindBy (S Rej n ∷ ms) = Unit {0}
RewindBy (S Rnr n ∷ ms) = Unit {0}
RewindBy (_ ∷ ms) = RewindBy ms

-- no SREJ is on its way
abbrev pub NoSrej : List Control → Type 0
NoSrej [] = Unit {0}
NoSrej (S Srej n ∷ ms) = ⊥
NoSrej (_ ∷ ms) = NoSrej ms

-- this mark acknowledges the places below k, and asks for nothing to be sent again
abbrev pub OnlyAcks : Control → ℕ → Type 0
OnlyAcks (I p n info) k = n ≡ k
OnlyAcks (S Rr n) k = n ≡ k
OnlyAcks _ k = ⊥

-- the length accepted once all these marks are taken, by a receiver that stays ready
abbrev pub course_of : ℕ → List Control → ℕ
course_of r [] = r
course_of r (I p n info ∷ ms) = course_of (cond (p == r) (r + 1) r) ms
course_of r (_ ∷ ms) = course_of r ms

-- ## Wires that grow

pub sent_push : (a t : ℕ) (wire : List OnWire) (ms : List Control) (c m : Control) → SentBy a t wire ms → SentBy a t (with_frame wire c) (ms ++ m ∷ [])
sent_push a t [] ms c m h = absurd h
sent_push a t (x ∷ xs) [] c m h = absurd h
sent_push a t (x ∷ xs) (I p n info ∷ ms) c m (inl h) = inl h
sent_push a t (x ∷ xs) (I p n info ∷ ms) c m (inr h) = inr (sent_push a t xs ms c m h)
sent_push a t (x ∷ xs) (_ ∷ ms) c m h = sent_push a t xs ms c m h

pub sent_new : (a t n : ℕ) (info : Fragment) (wire : List OnWire) (ms : List Control) (c : Control) → t ≡ 0 → Shows wire ms
    → SentBy a t (with_frame wire c) (ms ++ I a n info ∷ [])
sent_new a t n info [] [] c e h = inl (refl, omega arith)
sent_new a t n info [] (_ ∷ ms) c e h = absurd h
sent_new a t n info (x ∷ xs) [] c e h = absurd h
sent_new a t n info (x ∷ xs) (I p _ _ ∷ ms) c e h = inr (sent_new a t n info xs ms c e h.1)
sent_new a t n info (x ∷ xs) (_ ∷ ms) c e h = sent_new a t n info xs ms c e h.1

pub answer_push : (a t : ℕ) (wire : List OnWire) (ms : List Control) (c m : Control) → AnswerBy a t wire ms → AnswerBy a t (with_frame wire c) (ms ++ m ∷ [])
answer_push a t [] ms c m h = absurd h
answer_push a t (x ∷ xs) [] c m h = absurd h
answer_push a t (x ∷ xs) (k ∷ ms) c m (inl h) = inl h
answer_push a t (x ∷ xs) (k ∷ ms) c m (inr h) = inr (answer_push a t xs ms c m h)

pub answer_new : (a t : ℕ) (wire : List OnWire) (ms : List Control) (c m : Control) → Answers a m → t ≤ 4 → Shows wire ms
    → AnswerBy a t (with_frame wire c) (ms ++ m ∷ [])
answer_new a t [] [] c m e i h = inl (e, omega arith)
answer_new a t [] (_ ∷ ms) c m e i h = absurd h
answer_new a t (x ∷ xs) [] c m e i h = absurd h
answer_new a t (x ∷ xs) (k ∷ ms) c m e i h = inr (answer_new a t xs ms c m e i h.1)

-- ## Wires that grow older

pub sent_older : (a t : ℕ) (wire : List OnWire) (ms : List Control) → SentBy a t wire ms → SentBy a (t + 1) (older wire) ms
sent_older a t [] ms h = absurd h
sent_older a t (x ∷ xs) [] h = absurd h
sent_older a t (x ∷ xs) (I p n info ∷ ms) (inl h) = inl (h.0, omega (arith, h.1))
sent_older a t (x ∷ xs) (I p n info ∷ ms) (inr h) = inr (sent_older a t xs ms h)
sent_older a t (x ∷ xs) (_ ∷ ms) h = sent_older a t xs ms h

pub answer_older : (a t : ℕ) (wire : List OnWire) (ms : List Control) → AnswerBy a t wire ms → AnswerBy a (t + 1) (older wire) ms
answer_older a t [] ms h = absurd h
answer_older a t (x ∷ xs) [] h = absurd h
answer_older a t (x ∷ xs) (k ∷ ms) (inl h) = inl (h.0, omega (arith, h.1))
answer_older a t (x ∷ xs) (k ∷ ms) (inr h) = inr (answer_older a t xs ms h)

pub sent_in_time : (a t b : ℕ) (wire : List OnWire) (ms : List Control) → Young b wire → SentBy a t wire ms → t ≤ b
sent_in_time a t b [] ms y h = absurd h
sent_in_time a t b (x ∷ xs) [] y h = absurd h
sent_in_time a t b (x ∷ xs) (I p n info ∷ ms) y (inl h) = omega (arith, h.1, y.0)
sent_in_time a t b (x ∷ xs) (I p n info ∷ ms) y (inr h) = sent_in_time a t b xs ms (young_later x.age b xs y.0 y.1) h
sent_in_time a t b (x ∷ xs) (_ ∷ ms) y h = sent_in_time a t b xs ms (young_later x.age b xs y.0 y.1) h

pub answer_in_time : (a t b : ℕ) (wire : List OnWire) (ms : List Control) → Young b wire → AnswerBy a t wire ms → t ≤ b + 4
answer_in_time a t b [] ms y h = absurd h
answer_in_time a t b (x ∷ xs) [] y h = absurd h
answer_in_time a t b (x ∷ xs) (k ∷ ms) y (inl h) = omega (arith, h.1, y.0)
answer_in_time a t b (x ∷ xs) (k ∷ ms) y (inr h) = answer_in_time a t b xs ms (young_later x.age b xs y.0 y.1) h

-- ## Answers that are due

pub due_push : (a t r : ℕ) (ds : List Due) (d : Due) → DueBy a t r ds → DueBy a t r (ds ++ d ∷ [])
due_push a t r [] d h = absurd h
due_push a t r (Rr_due ∷ ds) d (inl h) = inl h
due_push a t r (Rr_due ∷ ds) d (inr h) = inr (due_push a t r ds d h)
due_push a t r (Rej_due ∷ ds) d (inl h) = inl h
due_push a t r (Rej_due ∷ ds) d (inr h) = inr (due_push a t r ds d h)
due_push a t r (Rnr_due ∷ ds) d (inl h) = inl h
due_push a t r (Rnr_due ∷ ds) d (inr h) = inr (due_push a t r ds d h)
due_push a t r (Rset_due ∷ ds) d h = due_push a t r ds d h
due_push a t r (Ua_due ∷ ds) d h = due_push a t r ds d h

-- one more was accepted
pub due_more : (a t r : ℕ) (ds : List Due) → DueBy a t r ds → DueBy a t (r + 1) ds
due_more a t r [] h = absurd h
due_more a t r (Rr_due ∷ ds) (inl h) = inl (omega (arith, h.0), h.1)
due_more a t r (Rr_due ∷ ds) (inr h) = inr (due_more a t r ds h)
due_more a t r (Rej_due ∷ ds) (inl h) = inl h
due_more a t r (Rej_due ∷ ds) (inr h) = inr (due_more a t r ds h)
due_more a t r (Rnr_due ∷ ds) (inl h) = inl h
due_more a t r (Rnr_due ∷ ds) (inr h) = inr (due_more a t r ds h)
due_more a t r (Rset_due ∷ ds) h = due_more a t r ds h
due_more a t r (Ua_due ∷ ds) h = due_more a t r ds h

pub due_new_rr : (a t r : ℕ) (ds : List Due) → a < r → t ≤ 4 → DueBy a t r (ds ++ Rr_due ∷ [])
due_new_rr a t r [] i j = inl (i, j)
due_new_rr a t r (Rr_due ∷ ds) i j = inr (due_new_rr a t r ds i j)
due_new_rr a t r (Rej_due ∷ ds) i j = inr (due_new_rr a t r ds i j)
due_new_rr a t r (Rnr_due ∷ ds) i j = inr (due_new_rr a t r ds i j)
due_new_rr a t r (Rset_due ∷ ds) i j = due_new_rr a t r ds i j
due_new_rr a t r (Ua_due ∷ ds) i j = due_new_rr a t r ds i j

pub due_new_rnr : (a t r : ℕ) (ds : List Due) → t ≤ 4 → DueBy a t r (ds ++ Rnr_due ∷ [])
due_new_rnr a t r [] j = inl j
due_new_rnr a t r (Rr_due ∷ ds) j = inr (due_new_rnr a t r ds j)
due_new_rnr a t r (Rej_due ∷ ds) j = inr (due_new_rnr a t r ds j)
due_new_rnr a t r (Rnr_due ∷ ds) j = inr (due_new_rnr a t r ds j)
due_new_rnr a t r (Rset_due ∷ ds) j = due_new_rnr a t r ds j
due_new_rnr a t r (Ua_due ∷ ds) j = due_new_rnr a t r ds j

pub rewind_due_push : (ds : List Due) (d : Due) → RewindDue ds → RewindDue (ds ++ d ∷ [])
rewind_due_push [] d h = absurd h
rewind_due_push (Rej_due ∷ ds) d h = tt
rewind_due_push (Rnr_due ∷ ds) d h = tt
rewind_due_push (Rr_due ∷ ds) d h = rewind_due_push ds d h
rewind_due_push (Rset_due ∷ ds) d h = rewind_due_push ds d h
rewind_due_push (Ua_due ∷ ds) d h = rewind_due_push ds d h

pub rewind_due_rnr : (ds : List Due) → RewindDue (ds ++ Rnr_due ∷ [])
rewind_due_rnr [] = tt
rewind_due_rnr (Rej_due ∷ ds) = tt
rewind_due_rnr (Rnr_due ∷ ds) = tt
rewind_due_rnr (Rr_due ∷ ds) = rewind_due_rnr ds
rewind_due_rnr (Rset_due ∷ ds) = rewind_due_rnr ds
rewind_due_rnr (Ua_due ∷ ds) = rewind_due_rnr ds

pub rewind_push : (ms : List Control) (m : Control) → RewindBy ms → RewindBy (ms ++ m ∷ [])
rewind_push [] m h = absurd h
rewind_push (I _ _ _ ∷ ms) m h = rewind_push ms m h
rewind_push (S Rr _ ∷ ms) m h = rewind_push ms m h
rewind_push (S Rej _ ∷ ms) m h = tt
rewind_push (S Rnr _ ∷ ms) m h = tt
rewind_push (S Srej _ ∷ ms) m h = rewind_push ms m h
rewind_push (Rset _ _ ∷ ms) m h = rewind_push ms m h
rewind_push (Ua ∷ ms) m h = rewind_push ms m h
rewind_push (Act _ _ ∷ ms) m h = rewind_push ms m h
rewind_push (Clt ∷ ms) m h = rewind_push ms m h

pub rewind_new : (ms : List Control) (m : Control) → RewindBy (m ∷ []) → RewindBy (ms ++ m ∷ [])
rewind_new [] m h = h
rewind_new (I _ _ _ ∷ ms) m h = rewind_new ms m h
rewind_new (S Rr _ ∷ ms) m h = rewind_new ms m h
rewind_new (S Rej _ ∷ ms) m h = tt
rewind_new (S Rnr _ ∷ ms) m h = tt
rewind_new (S Srej _ ∷ ms) m h = rewind_new ms m h
rewind_new (Rset _ _ ∷ ms) m h = rewind_new ms m h
rewind_new (Ua ∷ ms) m h = rewind_new ms m h
rewind_new (Act _ _ ∷ ms) m h = rewind_new ms m h
rewind_new (Clt ∷ ms) m h = rewind_new ms m h

pub no_srej_push : (ms : List Control) (m : Control) → NoSrej (m ∷ []) → NoSrej ms → NoSrej (ms ++ m ∷ [])
no_srej_push [] m e h = e
no_srej_push (I _ _ _ ∷ ms) m e h = no_srej_push ms m e h
no_srej_push (S Rr _ ∷ ms) m e h = no_srej_push ms m e h
no_srej_push (S Rej _ ∷ ms) m e h = no_srej_push ms m e h
no_srej_push (S Rnr _ ∷ ms) m e h = no_srej_push ms m e h
no_srej_push (S Srej _ ∷ ms) m e h = absurd h
no_srej_push (Rset _ _ ∷ ms) m e h = no_srej_push ms m e h
no_srej_push (Ua ∷ ms) m e h = no_srej_push ms m e h
no_srej_push (Act _ _ ∷ ms) m e h = no_srej_push ms m e h
no_srej_push (Clt ∷ ms) m e h = no_srej_push ms m e h

-- ## The course

pub course_from : (r : ℕ) (ms : List Control) → r ≤ course_of r ms
course_from r [] = omega arith
course_from r (I p n info ∷ ms) =
    by_test {P = r ≤ course_of (cond (p == r) (r + 1) r) ms} (p == r) (λ q. rw q (let g = rw q at (course_from (cond (p == r) (r + 1) r) ms) in omega arith))
    (λ q. rw q (let g = rw q at (course_from (cond (p == r) (r + 1) r) ms) in omega arith))
course_from r (_ ∷ ms) = course_from r ms

pub course_push : (r s n : ℕ) (info : Fragment) (ms : List Control) → s ≤ course_of r ms → s + 1 ≤ course_of r (ms ++ I s n info ∷ [])
course_push r s n info [] h = grind arith
course_push r s n info (I p _ _ ∷ ms) h = course_push (cond (p == r) (r + 1) r) s n info ms h
course_push r s n info (_ ∷ ms) h = course_push r s n info ms h

pub course_push_S : (r s n : ℕ) (k : Kind) (ms : List Control) → s ≤ course_of r ms → s ≤ course_of r (ms ++ S k n ∷ [])
course_push_S r s n k [] h = h
course_push_S r s n k (I p _ _ ∷ ms) h = course_push_S (cond (p == r) (r + 1) r) s n k ms h
course_push_S r s n k (_ ∷ ms) h = course_push_S r s n k ms h

-- what will be accepted stands on the wire
pub course_shows : (r : ℕ) (wire : List OnWire) (ms : List Control) → Shows wire ms → r < course_of r ms → SentBy r 0 wire ms
course_shows r [] [] e h = absurd (omega arith)
course_shows r [] (_ ∷ ms) e h = absurd e
course_shows r (x ∷ xs) [] e h = absurd e
course_shows r (x ∷ xs) (I p n info ∷ ms) e h =
    by_test {P = ((p ≡ r) × (0 ≤ x.age)) ⊎ SentBy r 0 xs ms} (p == r) (λ q. inl (eqb-true p r q, omega arith))
    (λ q. inr ((course_shows r xs ms e.1) (rw q at h)))
course_shows r (x ∷ xs) (S _ _ ∷ ms) e h = course_shows r xs ms e.1 h
course_shows r (x ∷ xs) (Rset _ _ ∷ ms) e h = course_shows r xs ms e.1 h
course_shows r (x ∷ xs) (Ua ∷ ms) e h = course_shows r xs ms e.1 h
course_shows r (x ∷ xs) (Act _ _ ∷ ms) e h = course_shows r xs ms e.1 h
course_shows r (x ∷ xs) (Clt ∷ ms) e h = course_shows r xs ms e.1 h

answers_later : (a b r : ℕ) (x : OnWire) (m : Control) (xs : List OnWire) (ms : List Control)
    → (b ≡ r) ⊎ AnswerBy a 0 xs ms → (b ≡ r) ⊎ AnswerBy a 0 (x ∷ xs) (m ∷ ms)
answers_later a b r x m xs ms c = grind arith

-- the last number on its way acknowledges all places below it
pub last_answers : (a b r : ℕ) (wire : List OnWire) (ms : List Control) → Shows wire ms → NoSrej ms → a < r → last_count b ms ≡ r
    → (b ≡ r) ⊎ AnswerBy a 0 wire ms
last_answers a b r [] [] e s i h = inl h
last_answers a b r [] (_ ∷ ms) e s i h = absurd e
last_answers a b r (x ∷ xs) [] e s i h = absurd e
last_answers a b r (x ∷ xs) (I p n info ∷ ms) e s i h = let h0 = last_answers a n r xs ms e.1 s i h in grind arith
last_answers a b r (x ∷ xs) (S Rr n ∷ ms) e s i h = let h0 = last_answers a n r xs ms e.1 s i h in grind arith
last_answers a b r (x ∷ xs) (S Rej n ∷ ms) e s i h = inr (inl (tt, omega arith))
last_answers a b r (x ∷ xs) (S Rnr n ∷ ms) e s i h = inr (inl (tt, omega arith))
last_answers a b r (x ∷ xs) (S Srej n ∷ ms) e s i h = absurd s
last_answers a b r (x ∷ xs) (Rset w c ∷ ms) e s i h = answers_later a b r x (Rset w c) xs ms (last_answers a b r xs ms e.1 s i h)
last_answers a b r (x ∷ xs) (Ua ∷ ms) e s i h = answers_later a b r x Ua xs ms (last_answers a b r xs ms e.1 s i h)
last_answers a b r (x ∷ xs) (Act c d ∷ ms) e s i h = answers_later a b r x (Act c d) xs ms (last_answers a b r xs ms e.1 s i h)
last_answers a b r (x ∷ xs) (Clt ∷ ms) e s i h = answers_later a b r x Clt xs ms (last_answers a b r xs ms e.1 s i h)

-- REJ or RNR answers each place
pub rewind_answers : (a : ℕ) (wire : List OnWire) (ms : List Control) → Shows wire ms → RewindBy ms → AnswerBy a 0 wire ms
rewind_answers a [] [] e h = absurd h
rewind_answers a [] (_ ∷ ms) e h = absurd e
rewind_answers a (x ∷ xs) [] e h = absurd e
rewind_answers a (x ∷ xs) (S Rej n ∷ ms) e h = inl (tt, omega arith)
rewind_answers a (x ∷ xs) (S Rnr n ∷ ms) e h = inl (tt, omega arith)
rewind_answers a (x ∷ xs) (S Rr n ∷ ms) e h = inr (rewind_answers a xs ms e.1 h)
rewind_answers a (x ∷ xs) (S Srej n ∷ ms) e h = inr (rewind_answers a xs ms e.1 h)
rewind_answers a (x ∷ xs) (I _ _ _ ∷ ms) e h = inr (rewind_answers a xs ms e.1 h)
rewind_answers a (x ∷ xs) (Rset _ _ ∷ ms) e h = inr (rewind_answers a xs ms e.1 h)
rewind_answers a (x ∷ xs) (Ua ∷ ms) e h = inr (rewind_answers a xs ms e.1 h)
rewind_answers a (x ∷ xs) (Act _ _ ∷ ms) e h = inr (rewind_answers a xs ms e.1 h)
rewind_answers a (x ∷ xs) (Clt ∷ ms) e h = inr (rewind_answers a xs ms e.1 h)

pub rewind_due_answers : (a r : ℕ) (ds : List Due) → RewindDue ds → DueBy a 0 r ds
rewind_due_answers a r [] h = absurd h
rewind_due_answers a r (Rej_due ∷ ds) h = inl (omega arith)
rewind_due_answers a r (Rnr_due ∷ ds) h = inl (omega arith)
rewind_due_answers a r (Rr_due ∷ ds) h = inr (rewind_due_answers a r ds h)
rewind_due_answers a r (Rset_due ∷ ds) h = rewind_due_answers a r ds h
rewind_due_answers a r (Ua_due ∷ ds) h = rewind_due_answers a r ds h
