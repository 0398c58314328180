-- The session of an end, the messages sent in it and how many are acknowledged are what is read; an end keeps its role.
use Rattle.std.proofs.Common.{option_to_list}
use Rattle.std.proofs.lemmas.List.Concat.{flat_map-append}
use Rattle.std.proofs.lemmas.List.Elements.{filter_map-append}
use Rattle.lone_laws.proofs.Words.{Acked, ActEvent, ActFrame, ActStart, ActStop, ActTake, Active, AllByRecursion, Bare, Becomes, Begins as BeginsSession, Bool}
use Rattle.lone_laws.proofs.Words.{Clf, Clt, Control, Data, Down, End, EndState, EndedBy, Ends as EndsSession, Entry, GaveUp, Got, IsUpNow, LinkEnd, LinkInput}
use Rattle.lone_laws.proofs.Words.{LinkState, List, Message, None, Noted, Option, Renews, Report, Reset, Rests, Role, Saying, SentAfter, Shift, Side, Some}
use Rattle.lone_laws.proofs.Words.{Sound, Start, Stays, Stop, Take, TakeUnknown, Tick, Uicc, Up, [], acked_after, acked_in, activated, after_input, ap}
use Rattle.lone_laws.proofs.Words.{append-nil, append_assoc, ap₂, arith, asking_after, asking_in, began_by, by_option, by_test, common_steps, cond, cond_both}
use Rattle.lone_laws.proofs.Words.{drop, end_of, ended_by, entries_for, entry_of, eqb, false, fold-append, got_by, heard, if_so, is_faulty, is_open, is_some}
use Rattle.lone_laws.proofs.Words.{is_up, map, max, moved, moved_aside, nat_lt, need_of_all, news, not, put_down, refl, report, reset_refusal, reset_with}
use Rattle.lone_laws.proofs.Words.{said_of, same_end, sent_by, sent_in, session_now, spare_at, stopped, subst, sym, take_answer, take_so, taken, told, true}
use Rattle.lone_laws.proofs.Words.{unacknowledged_in, whole_acked, whole_among, whole_more, window_of, ℕ, ◌&&◌, ◌++◌, ◌+◌, ◌-◌, ◌<◌, ◌∙◌, ◌∷◌, ◌≡◌, ◌≤◌}
use Rattle.lone_laws.proofs.answered.Coming.{IsLoneInput}
use Rattle.lone_laws.proofs.answered.Reading.{eqb_same}
use Rattle.trace_model.specs.declared.entry.Entry.TheVariants as entry

-- ## An end of a CLF stays one, and so does an end of a UICC; what each takes of activation

-- an end of a CLF, or of a UICC
abbrev pub kind_of : Role → Option Bool
kind_of Bare = None
kind_of (Clf s) = Some true
kind_of (Uicc s) = Some false

moved_kind : (e : LinkEnd) (b : Bool) (s : EndState) → kind_of (moved e b s).role ≡ kind_of e.role
moved_kind e b s = grind arith

down_kind : (b : Bool) (e : LinkEnd) → kind_of (put_down b e).role ≡ kind_of e.role
down_kind b e = grind arith

activated_kind : (e : LinkEnd) (event : ActEvent) → kind_of (activated e event).role ≡ kind_of e.role
activated_kind e event = grind arith

-- ### What no input changes

-- what no step of an end changes stays whatever comes to the end
module _ {A : Type 0} (f : LinkEnd → A) (down : (b : Bool) (e : LinkEnd) → f (put_down b e) ≡ f e)
    (moves : (e : LinkEnd) (b : Bool) (s : EndState) → f (moved e b s) ≡ f e) (acts : (e : LinkEnd) (event : ActEvent) → f (activated e event) ≡ f e)
    (gets : (e : LinkEnd) (got : List Message) → f (record e { got = got }) ≡ f e)
    (passes : (e : LinkEnd) (n : ℕ) → f (record e { passed_over = n }) ≡ f e) where
  heard_keeps : (e : LinkEnd) (c : Control) → f (heard e c) ≡ f e
  heard_keeps e c =
      let g : LinkEnd = moved e (is_some (take_answer e.shdlc c).ended) (taken e.shdlc c) in
      let got : List Message = e.got ++ news e.shdlc.session (taken e.shdlc c) in
      cond_both (is_faulty (taken e.shdlc c).session) (put_down true e) (record g { got = got }) (λ z. f z ≡ f e) (λ _. down true e)
      (λ _. gets g got ∙ moves e (is_some (take_answer e.shdlc c).ended) (taken e.shdlc c))

  open_keeps : (e : LinkEnd) (c : Control) → f (cond (is_open e.role) (heard e c) e) ≡ f e
  open_keeps e c = cond_both (is_open e.role) (heard e c) e (λ z. f z ≡ f e) (λ _. heard_keeps e c) (λ _. refl)

  input_keeps : (e : LinkEnd) (i : LinkInput) → IsLoneInput i → f (after_input e i) ≡ f e
  input_keeps e (Take (ActFrame act again)) a = acts e (ActTake act again)
  input_keeps e (Take Clt) a = passes e (e.passed_over + 1)
  input_keeps e (Take c) a = open_keeps e c
  input_keeps e TakeUnknown a = passes e (e.passed_over + 1)
  input_keeps e Tick a = grind arith
  input_keeps e (Reset window) a = by_option (reset_refusal e) (λ q. rw q (moves e _ (reset_with e.shdlc (window_of e window)))) (λ why q. rw q refl)
  input_keeps e (Start value) a = acts (moved e true (stopped e.shdlc)) (ActStart value) ∙ moves e true (stopped e.shdlc)
  input_keeps e Stop a = acts (moved e true (stopped e.shdlc)) ActStop ∙ moves e true (stopped e.shdlc)
  input_keeps e _ a = absurd a

pub input_kind : (e : LinkEnd) (i : LinkInput) → IsLoneInput i → kind_of (after_input e i).role ≡ kind_of e.role
input_kind e i a = input_keeps (λ z. kind_of z.role) down_kind moved_kind activated_kind (λ z got. refl) (λ z n. refl) e i a

-- ## The session of an end, the messages sent in it and how many of them are acknowledged are read of a node alone by the words for any node

-- what an end has of its session: its number, while there is one, the messages sent in it, and how many of them are acknowledged
pub record Talk : Type 0 where
  pub session : Option ℕ
  pub sent : List Message
  pub acked : ℕ

-- there is none
abbrev pub no_session_now : Talk
no_session_now = record { session = None; sent = []; acked = 0 }

-- a block that is set aside
abbrev set_aside : Bool → ℕ
set_aside b = cond b 1 0

-- ### Entries that say nothing of it

-- an entry tells of no session, of no message that is sent, of none that is acknowledged, and asks for no creation
abbrev pub IsSilent : Entry → Type 0
IsSilent (entry.Up f k) = ⊥
IsSilent (entry.Down f cause) = ⊥
IsSilent (entry.Cut m) = ⊥
IsSilent (entry.Sent f k pid message) = ⊥
IsSilent (entry.Acked f k count) = ⊥
IsSilent (entry.Ask host message) = ⊥
IsSilent _ = Unit {0}

abbrev pub AreSilent : List Entry → Type 0
AreSilent es = AllByRecursion IsSilent es

abbrev IsUnsent : Entry → Type 0
IsUnsent (entry.Sent f k pid message) = ⊥
IsUnsent _ = Unit {0}

abbrev IsUncounted : Entry → Type 0
IsUncounted (entry.Acked f k count) = ⊥
IsUncounted _ = Unit {0}

abbrev IsUnasked : Entry → Type 0
IsUnasked (entry.Ask host message) = ⊥
IsUnasked _ = Unit {0}

silent_unsent : (x : Entry) → IsSilent x → IsUnsent x
silent_unsent x a = grind arith

silent_uncounted : (x : Entry) → IsSilent x → IsUncounted x
silent_uncounted x a = grind arith

-- ### One entry more

always : (b : Bool) (o : Option (List ℕ)) → o ≡ None → cond b o o ≡ None
always b o q = grind arith

unasked_more : (h : ℕ) (t : List Entry) (x : Entry) → IsUnasked x → asking_in t h ≡ None → asking_in (t ++ x ∷ []) h ≡ None
unasked_more h t x a none = fold-append (asking_after h) None t (x ∷ []) ∙ (ap (λ o. asking_after h o x) none ∙ (grind arith))

module _ (e : End) where
  session_same : (n : ℕ) (t : List Entry) (x : Entry) → IsSilent x → session_now (t ++ x ∷ []) e n ≡ session_now t e n
  session_same n t (entry.Up f k) a = absurd a
  session_same n t (entry.Down f cause) a = absurd a
  session_same n t (entry.Cut m) a = absurd a
  session_same n t x a = fold-append _ None t (x ∷ [])

  module _ (j : ℕ) where
    none_of : (b : Bool) (s : Saying) → sent_by j (Some s) ≡ None → sent_by j (cond b (Some s) None) ≡ None
    none_of b s q = grind arith

    unsent : (x : Entry) → IsUnsent x → sent_by j (said_of e x) ≡ None
    unsent x a = grind arith

    sent_same : (t : List Entry) (x : Entry) → IsUnsent x → sent_in (t ++ x ∷ []) e j ≡ sent_in t e j
    sent_same t x a =
        filter_map-append (λ y. sent_by j (said_of e y)) t (x ∷ []) ∙ (ap (λ l. sent_in t e j ++ l) (grind arith) ∙ append-nil (sent_in t e j))

    sent_one : (t : List Entry) (f : End) (k pid : ℕ) (message : List ℕ) → same_end f e ≡ true → eqb k j ≡ true
        → sent_in (t ++ entry.Sent f k pid message ∷ []) e j ≡ sent_in t e j ++ (pid, message) ∷ []
    sent_one t f k pid message own is =
        filter_map-append (λ y. sent_by j (said_of e y)) t (entry.Sent f k pid message ∷ []) ∙ ap (λ l. sent_in t e j ++ l) (rw (own, is) refl)

    sent_other : (t : List Entry) (f : End) (k pid : ℕ) (message : List ℕ) → same_end f e ≡ true → eqb k j ≡ false
        → sent_in (t ++ entry.Sent f k pid message ∷ []) e j ≡ sent_in t e j
    sent_other t f k pid message own is =
        filter_map-append (λ y. sent_by j (said_of e y)) t (entry.Sent f k pid message ∷ [])
        ∙ (ap (λ l. sent_in t e j ++ l) (rw (own, is) refl) ∙ append-nil (sent_in t e j))

    same_count : (before : ℕ) (b : Bool) (s : Saying) → acked_after j before (Some s) ≡ before → acked_after j before (cond b (Some s) None) ≡ before
    same_count before b s q = grind arith

    acked_same : (t : List Entry) (x : Entry) → IsUncounted x → acked_in (t ++ x ∷ []) e j ≡ acked_in t e j
    acked_same t x a = fold-append _ 0 t (x ∷ []) ∙ (grind arith)

    acked_one : (t : List Entry) (f : End) (k count : ℕ) → same_end f e ≡ true → eqb k j ≡ true
        → acked_in (t ++ entry.Acked f k count ∷ []) e j ≡ max (acked_in t e j) count
    acked_one t f k count own is =
        fold-append _ 0 t (entry.Acked f k count ∷ [])
        ∙ (grind arith)

    acked_other : (t : List Entry) (f : End) (k count : ℕ) → same_end f e ≡ true → eqb k j ≡ false
        → acked_in (t ++ entry.Acked f k count ∷ []) e j ≡ acked_in t e j
    acked_other t f k count own is =
        fold-append _ 0 t (entry.Acked f k count ∷ [])
        ∙ (grind arith)

module _ (e : End) where
  pub sessions_same : (n : ℕ) (t es : List Entry) → AreSilent es → session_now (t ++ es) e n ≡ session_now t e n
  sessions_same n t [] a = ap (λ l. session_now l e n) (append-nil t)
  sessions_same n t (x ∷ es) a =
      ap (λ l. session_now l e n) (sym (append_assoc t (x ∷ []) es)) ∙ (sessions_same n (t ++ x ∷ []) es a.1 ∙ session_same e n t x a.0)

  sents_same : (j : ℕ) (t es : List Entry) → AreSilent es → sent_in (t ++ es) e j ≡ sent_in t e j
  sents_same j t [] a = ap (λ l. sent_in l e j) (append-nil t)
  sents_same j t (x ∷ es) a =
      ap (λ l. sent_in l e j) (sym (append_assoc t (x ∷ []) es)) ∙ (sents_same j (t ++ x ∷ []) es a.1 ∙ sent_same e j t x (silent_unsent x a.0))

  ackeds_same : (j : ℕ) (t es : List Entry) → AreSilent es → acked_in (t ++ es) e j ≡ acked_in t e j
  ackeds_same j t [] a = ap (λ l. acked_in l e j) (append-nil t)
  ackeds_same j t (x ∷ es) a =
      ap (λ l. acked_in l e j) (sym (append_assoc t (x ∷ []) es)) ∙ (ackeds_same j (t ++ x ∷ []) es a.1 ∙ acked_same e j t x (silent_uncounted x a.0))

  left_same : (t es : List Entry) → AreSilent es → (o : Option ℕ) → unacknowledged_in (t ++ es) e o ≡ unacknowledged_in t e o
  left_same t es a None = refl
  left_same t es a (Some j) = ap₂ (λ c l. drop c l) (ackeds_same j t es a) (sents_same j t es a)

  -- an entry that says nothing of it asks for nothing, and no answer is given
  asking_same : (h : ℕ) (t : List Entry) (x : Entry) → IsSilent x → asking_in (t ++ x ∷ []) h ≡ asking_in t h
  asking_same h t (entry.Ask host message) a = absurd a
  asking_same h t (entry.Sent f k pid message) a = absurd a
  asking_same h t (entry.Down f cause) a = absurd a
  asking_same h t (entry.Cut m) a = absurd a
  asking_same h t x a = fold-append (asking_after h) None t (x ∷ [])

  askings_same : (h : ℕ) (t es : List Entry) → AreSilent es → asking_in (t ++ es) h ≡ asking_in t h
  askings_same h t [] a = ap (λ l. asking_in l h) (append-nil t)
  askings_same h t (x ∷ es) a =
      ap (λ l. asking_in l h) (sym (append_assoc t (x ∷ []) es)) ∙ (askings_same h (t ++ x ∷ []) es a.1 ∙ asking_same h t x a.0)

  pub spares_same : (t es : List Entry) → AreSilent es → spare_at (t ++ es) e ≡ spare_at t e
  spares_same t es a =
      let node : ℕ = cond e.at_host e.link 0 in
      ap (λ o. 128 - (need_of_all (unacknowledged_in (t ++ es) e o) + set_aside (not e.at_host && is_some (asking_in (t ++ es) e.link))))
      (sessions_same node t es a)
      ∙ (ap (λ l. 128 - (need_of_all l + set_aside (not e.at_host && is_some (asking_in (t ++ es) e.link)))) (left_same t es a (session_now t e node))
      ∙ ap (λ (o : Option (List ℕ)). 128 - (need_of_all (unacknowledged_in t e (session_now t e node)) + set_aside (not e.at_host && is_some o)))
      (askings_same e.link t es a))

-- ### What is read

-- Of an end of this node so much is read behind these entries: its session has at most this number, and none is noted with a greater one.
pub record Reads (e : End) (n s : ℕ) (t : List Entry) (x : Talk) : Type 0 where
  pub session : session_now t e n ≡ x.session
  pub low : (k : ℕ) → x.session ≡ Some k → k ≤ s
  pub sent : (k : ℕ) → x.session ≡ Some k → sent_in t e k ≡ x.sent
  pub acked : (k : ℕ) → x.session ≡ Some k → acked_in t e k ≡ x.acked
  pub none_sent : (k : ℕ) → s < k → sent_in t e k ≡ []
  pub none_acked : (k : ℕ) → s < k → acked_in t e k ≡ 0
  pub unasked : asking_in t e.link ≡ None

module _ (e : End) (n : ℕ) where
  silent_one : (s : ℕ) (t : List Entry) (x : Talk) (y : Entry) → IsSilent y → Reads e n s t x → Reads e n s (t ++ y ∷ []) x
  silent_one s t x y a r = record {
    session = session_same e n t y a ∙ r.session;
    low = r.low;
    sent = λ k q. sent_same e k t y (silent_unsent y a) ∙ r.sent k q;
    acked = λ k q. acked_same e k t y (silent_uncounted y a) ∙ r.acked k q;
    none_sent = λ k q. sent_same e k t y (silent_unsent y a) ∙ r.none_sent k q;
    none_acked = λ k q. acked_same e k t y (silent_uncounted y a) ∙ r.none_acked k q;
    unasked = unasked_more e.link t y (grind arith) r.unasked;
  }

  -- entries that say nothing of it
  pub reads_silent : (s : ℕ) (t es : List Entry) (x : Talk) → AreSilent es → Reads e n s t x → Reads e n s (t ++ es) x
  reads_silent s t [] x a r = subst (λ l. Reads e n s l x) (sym (append-nil t)) r
  reads_silent s t (y ∷ es) x a r =
      subst (λ l. Reads e n s l x) (append_assoc t (y ∷ []) es) (reads_silent s (t ++ y ∷ []) es x a.1 (silent_one s t x y a.0 r))

  module _ (t : List Entry) (f : End) (own : same_end f e ≡ true) where
    -- a session ends
    reads_down : (s : ℕ) (x : Talk) (cause : EndedBy) → Reads e n s t x
        → Reads e n s (t ++ entry.Down f cause ∷ []) no_session_now
    reads_down s x cause r =
        let y : Entry = entry.Down f cause in
        record {
          session = fold-append _ None t (y ∷ []) ∙ ap (λ b. cond b None (session_now t e n)) own;
          low = λ k q. absurd (cc q);
          sent = λ k q. absurd (cc q);
          acked = λ k q. absurd (cc q);
          none_sent = λ k q. sent_same e k t y tt ∙ r.none_sent k q;
          none_acked = λ k q. acked_same e k t y tt ∙ r.none_acked k q;
          unasked = unasked_more e.link t y tt r.unasked;
        }

    -- one begins, with a greater number than those before it
    reads_up : (s : ℕ) (x : Talk) (k : ℕ) → s < k → Reads e n s t x
        → Reads e n k (t ++ entry.Up f k ∷ []) (record { session = Some k; sent = []; acked = 0 })
    reads_up s x k more r =
        let y : Entry = entry.Up f k in
        record {
          session = fold-append _ None t (y ∷ []) ∙ ap (λ b. cond b (Some k) (session_now t e n)) own;
          low = λ j q. let same : k ≡ j = cc in omega (arith, same);
          sent = λ j q. let same : k ≡ j = cc in sent_same e j t y tt ∙ r.none_sent j (omega (arith, same, more));
          acked = λ j q. let same : k ≡ j = cc in acked_same e j t y tt ∙ r.none_acked j (omega (arith, same, more));
          none_sent = λ j q. sent_same e j t y tt ∙ r.none_sent j (omega (arith, q, more));
          none_acked = λ j q. acked_same e j t y tt ∙ r.none_acked j (omega (arith, q, more));
          unasked = unasked_more e.link t y tt r.unasked;
        }

    -- a message is sent in it
    pub reads_sent : (s : ℕ) (x : Talk) (k pid : ℕ) (message : List ℕ) → x.session ≡ Some k → Reads e n s t x
        → Reads e n s (t ++ entry.Sent f k pid message ∷ []) (record x { sent = x.sent ++ (pid, message) ∷ [] })
    reads_sent s x k pid message now r =
        let y : Entry = entry.Sent f k pid message in
        record {
          session = fold-append _ None t (y ∷ []) ∙ r.session;
          low = r.low;
          sent = λ j q.
              let same : k ≡ j = cc in
              sent_one e j t f k pid message own (subst (λ z. eqb k z ≡ true) same (eqb_same k)) ∙ ap (λ l. l ++ (pid, message) ∷ []) (r.sent j q);
          acked = λ j q. acked_same e j t y tt ∙ r.acked j q;
          none_sent = λ j q.
              let most = r.low k now in sent_other e j t f k pid message own (grind (arith, common_steps)) ∙ r.none_sent j q;
          none_acked = λ j q. acked_same e j t y tt ∙ r.none_acked j q;
          unasked = unasked_more e.link t y tt r.unasked;
        }

    -- more of its messages are acknowledged
    reads_acked : (s : ℕ) (x : Talk) (k count : ℕ) → x.session ≡ Some k → x.acked ≤ count → Reads e n s t x
        → Reads e n s (t ++ entry.Acked f k count ∷ []) (record x { acked = count })
    reads_acked s x k count now more r =
        let y : Entry = entry.Acked f k count in
        record {
          session = fold-append _ None t (y ∷ []) ∙ r.session;
          low = r.low;
          sent = λ j q. sent_same e j t y tt ∙ r.sent j q;
          acked = λ j q.
              let same : k ≡ j = cc in
              acked_one e j t f k count own (subst (λ z. eqb k z ≡ true) same (eqb_same k)) ∙ omega (arith, r.acked j q, more);
          none_sent = λ j q. sent_same e j t y tt ∙ r.none_sent j q;
          none_acked = λ j q.
              let most = r.low k now in acked_other e j t f k count own (grind (arith, common_steps)) ∙ r.none_acked j q;
          unasked = unasked_more e.link t y tt r.unasked;
        }

-- ## The session of an end, the messages sent in it and how many of them are acknowledged are what is read, over what comes to it

-- ### What is told

-- what an end has, whose session has this number
abbrev pub talk_of_side : LinkEnd → ℕ → Talk
talk_of_side s m = record { session = cond (is_up s.shdlc.phase) (Some m) None; sent = s.sent; acked = whole_acked s }

abbrev ended_if : Bool → Talk → Talk
ended_if b x = cond b no_session_now x

abbrev began_if : Bool → ℕ → Talk → Talk
began_if b k x = cond b (record { session = Some k; sent = []; acked = 0 }) x

abbrev acked_if : Bool → ℕ → Talk → Talk
acked_if b count x = cond b (record x { acked = count }) x

module _ (e : End) (n h : ℕ) (who : Side) (own : same_end (end_of h who) e ≡ true) where
  abbrev noted : List Noted → List Entry
  noted xs = entries_for h xs

  -- what is told behind this, one part after another
  both_told : (s : ℕ) (t : List Entry) (xs ys : List Noted) (x : Talk) → Reads e n s ((t ++ noted xs) ++ noted ys) x → Reads e n s (t ++ noted (xs ++ ys)) x
  both_told s t xs ys x r =
      subst (λ l. Reads e n s l x)
      (append_assoc t (noted xs) (noted ys) ∙ ap (λ l. t ++ l) (sym (flat_map-append (entry_of h) xs ys))) r

  none_told : (s : ℕ) (t : List Entry) (x : Talk) → Reads e n s t x → Reads e n s (t ++ []) x
  none_told s t x r = subst (λ l. Reads e n s l x) (sym (append-nil t)) r

  down_told : (s : ℕ) (t : List Entry) (o : Option EndedBy) (x : Talk) → Reads e n s t x
      → Reads e n s (t ++ noted (map (Down who) (option_to_list o))) (ended_if (is_some o) x)
  down_told s t None x r = none_told s t x r
  down_told s t (Some cause) x r = reads_down e n t (end_of h who) own s x cause r

  up_told : (s k : ℕ) (t : List Entry) (b : Bool) (x : Talk) → (b ≡ true → s < k) → (b ≡ false → s ≡ k) → Reads e n s t x
      → Reads e n k (t ++ noted (if_so b (Up who k))) (began_if b k x)
  up_told s k t true x more same r = reads_up e n t (end_of h who) own s x k (more refl) r
  up_told s k t false x more same r = none_told k t x (subst (λ j. Reads e n j t x) (same refl) r)

  got_silent : (k : ℕ) (ms : List Message) → AreSilent (noted (map (Got who k) ms))
  got_silent k [] = tt
  got_silent k (m ∷ ms) = (tt, got_silent k ms)

  acked_told : (s k count : ℕ) (t : List Entry) (b : Bool) (x : Talk) → (b ≡ true → (x.session ≡ Some k) × (x.acked ≤ count)) → Reads e n s t x
      → Reads e n s (t ++ noted (if_so b (Acked who k count))) (acked_if b count x)
  acked_told s k count t true x more r = let a = more refl in reads_acked e n t (end_of h who) own s x k count a.0 a.1 r
  acked_told s k count t false x more r = none_told s t x r

  -- What is told of an input is read, where a session that begins has a greater number, and what is acknowledged grows in the session of now.
  pub told_reads : (s k acked : ℕ) (t : List Entry) (rep : Report) (x : Talk) → (rep.began ≡ true → s < k) → (rep.began ≡ false → s ≡ k)
      → (nat_lt 0 rep.acked ≡ true
      → ((began_if rep.began k (ended_if (is_some rep.ended) x)).session ≡ Some k) × ((began_if rep.began k (ended_if (is_some rep.ended) x)).acked ≤ acked))
      → Reads e n s t x
      → Reads e n k (t ++ entries_for h (told who k rep acked))
      (acked_if (nat_lt 0 rep.acked) acked (began_if rep.began k (ended_if (is_some rep.ended) x)))
  told_reads s k acked t rep x more same grows r =
      let one : List Noted = map (Down who) (option_to_list rep.ended) in
      let two : List Noted = if_so rep.began (Up who k) in
      let three : List Noted = if_so rep.became_active (Active who) in
      let four : List Noted = map (GaveUp who) (option_to_list rep.gave_up) in
      let five : List Noted = if_so (nat_lt 0 rep.acked) (Acked who k acked) in
      let six : List Noted = map (Got who k) rep.got in
      let x1 : Talk = ended_if (is_some rep.ended) x in
      let x2 : Talk = began_if rep.began k x1 in
      let x5 : Talk = acked_if (nat_lt 0 rep.acked) acked x2 in
      let t1 : List Entry = t ++ noted one in
      let t2 : List Entry = t1 ++ noted two in
      let t3 : List Entry = t2 ++ noted three in
      let t4 : List Entry = t3 ++ noted four in
      let t5 : List Entry = t4 ++ noted five in
      let r2 : Reads e n k t2 x2 = up_told s k t1 rep.began x1 more same (down_told s t rep.ended x r) in
      let r3 : Reads e n k t3 x2 = reads_silent e n k t2 (noted three) x2 (by_test rep.became_active (λ q. rw q (tt, tt)) (λ q. rw q tt)) r2 in
      let r4 : Reads e n k t4 x2 = reads_silent e n k t3 (noted four) x2 (by_option rep.gave_up (λ q. rw q tt) (λ k q. rw q (tt, tt))) r3 in
      let r5 : Reads e n k t5 x5 = acked_told k k acked t4 (nat_lt 0 rep.acked) x2 grows r4 in
      let r6 : Reads e n k (t5 ++ noted six) x5 = reads_silent e n k t5 (noted six) x5 (got_silent k rep.got) r5 in
      both_told k t one (two ++ (three ++ (four ++ (five ++ six)))) x5
      (both_told k t1 two (three ++ (four ++ (five ++ six))) x5
      (both_told k t2 three (four ++ (five ++ six)) x5 (both_told k t3 four (five ++ six) x5 (both_told k t4 five six x5 r6))))

-- ### What an input does

not_up : (p : LinkState) → (p ≡ IsUpNow → ⊥) → is_up p ≡ false
not_up p f = grind arith

none_whole : (s : LinkEnd) → s.sent ≡ [] → whole_acked s ≡ 0
none_whole s q = rw q refl

module _ (e f : LinkEnd) (ended began : Bool) (k m : ℕ) (d : Data e) (number : began ≡ false → k ≡ m) where
  abbrev acked_more : Bool
  acked_more = nat_lt 0 (whole_acked f - whole_acked e)

  sent_still : ended ≡ false → SentAfter ended e f → f.sent ≡ e.sent
  sent_still q s = subst (λ b. SentAfter b e f) q s

  shift_talk : (ms : List Message) → Becomes e f ended began ms
      → acked_if acked_more (whole_acked f) (began_if began k (ended_if ended (talk_of_side e m))) ≡ talk_of_side f k
  shift_talk ms b = go b.shift where
    goes : ended ≡ false → began ≡ false → began_if began k (ended_if ended (talk_of_side e m)) ≡ talk_of_side e m
    goes p q = ap₂ (λ x y. began_if y k (ended_if x (talk_of_side e m))) p q

    go : Shift e.shdlc f.shdlc ended began
        → acked_if acked_more (whole_acked f) (began_if began k (ended_if ended (talk_of_side e m))) ≡ talk_of_side f k
    go (Stays p q g) =
        let z = whole_more e.sent e.shdlc.session.acked f.shdlc.session.acked g.low in
        let low : whole_acked e ≤ whole_acked f = omega (arith, z, (ap (λ xs. whole_among xs f.shdlc.session.acked) (sent_still p b.sent))) in
        ap (acked_if acked_more (whole_acked f)) (goes p q)
        ∙ (grind arith)
    go (EndsSession p q up still s) = grind arith
    go (Renews p q up new) = grind arith
    go (BeginsSession p q off new) = grind arith
    go (Rests p q off still s) = grind arith

-- Whatever comes to the end of a node alone, what is told of it says what the end has then.
pub input_talk : (s : LinkEnd) (i : LinkInput) → IsLoneInput i → Sound s → (k m : ℕ) → (began_by s i ≡ false → k ≡ m)
    → acked_if (nat_lt 0 (report s i).acked) (whole_acked (after_input s i)) (began_if (report s i).began k (ended_if (is_some (report s i).ended)
    (talk_of_side s m)))
    ≡ talk_of_side (after_input s i) k
input_talk s (Take c) may sound k m number =
    shift_talk s (after_input s (Take c)) (is_some (ended_by s (Take c))) (began_by s (Take c)) k m sound.is number (got_by s (Take c)) (take_so s c sound)
input_talk s TakeUnknown may sound k m number = grind arith
input_talk s Tick may sound k m number = grind arith
input_talk s (Reset window) may sound k m number = grind arith
input_talk s (Start value) may sound k m number = grind arith
input_talk s Stop may sound k m number = grind arith
input_talk s _ may sound k m number = absurd may

-- what is acknowledged of an input
abbrev pub Grows : LinkEnd → LinkInput → ℕ → ℕ → Type 0
Grows s i k m =
    ((began_if (report s i).began k (ended_if (is_some (report s i).ended) (talk_of_side s m))).session ≡ Some k)
    × ((began_if (report s i).began k (ended_if (is_some (report s i).ended) (talk_of_side s m))).acked ≤ whole_acked (after_input s i))

pub input_grows : (s : LinkEnd) (i : LinkInput) → IsLoneInput i → Sound s → (k m : ℕ) → (began_by s i ≡ false → k ≡ m)
    → nat_lt 0 (report s i).acked ≡ true → Grows s i k m
input_grows s i may sound k m number z = grind arith

-- ### Blocks set aside

down_aside : (b : Bool) (e : LinkEnd) → (put_down b e).aside ≡ e.aside
down_aside b e = grind arith

activated_aside : (e : LinkEnd) (event : ActEvent) → (activated e event).aside ≡ e.aside
activated_aside e event = grind arith

pub input_aside : (e : LinkEnd) (i : LinkInput) → IsLoneInput i → (after_input e i).aside ≡ e.aside
input_aside e i a = input_keeps (λ z. z.aside) down_aside moved_aside activated_aside (λ z got. refl) (λ z n. refl) e i a
