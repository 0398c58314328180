-- As a pass of a controller leaves an end, the first message that is left there lacks room, as it is read, and goes on to lack it.
use Rattle.node_laws.proofs.Words.{AllByRecursion, AreAlong, AreHosts, AreNamed, ArePassed, BeginWithTurn, BeginsPass, Book, Bool, Controller, End, EndsAreRead}
use Rattle.node_laws.proofs.Words.{Entry, ErrorCount, HasErrorsRead, IsBehind, IsKeptNotice, IsNamed, IsProperBook, IsReadSo, IsTurnSo, KeepsBeside}
use Rattle.node_laws.proofs.Words.{KeepsInStep, LastsOverTurns, List, Message, Moment, None, Option, Port, ReadsInStep, Saying, Some, Work, [], acked_after}
use Rattle.node_laws.proofs.Words.{acked_in, all_append, ap, append-nil, append_assoc, ap₂, arith, asking_in, book_in, by_test, cond, creations_at, desks_of}
use Rattle.node_laws.proofs.Words.{drop, end_c, end_of_node, eqb, errors_after, false, filter_map, filter_map-append, fold, fold-append, goes_through_ends}
use Rattle.node_laws.proofs.Words.{hosts_of_ends, inl, inr, is_held_at, is_later, is_some, lack_at, lack_of, lacking, le-ltb, links_of_turns, need_of_all}
use Rattle.node_laws.proofs.Words.{no_errors, notice_at, notice_in, noting, oldest, option_and_then, option_map_or, passes, port_at, refl, said_of, same_number}
use Rattle.node_laws.proofs.Words.{sent_by, sent_in, session_now, spare_at, subst, sym, true, unacknowledged_in, unhandled_after, unhandled_in, until}
use Rattle.node_laws.proofs.Words.{waiting_at, ℕ, ◌++◌, ◌+◌, ◌-◌, ◌==◌, ◌∙◌, ◌∷◌, ◌≡◌, ◌⊎◌}
use Rattle.node_laws.specs.passes.Passing.{Stays as StaysThere}
use Rattle.node_laws.specs.passes.Passing.ComesTo.{Begins as PassBegins}
use Rattle.node_laws.proofs.creations.Knowing.{far_fold, far_reading}
use Rattle.node_laws.proofs.kept.Doing.{book_more}
use Rattle.node_laws.proofs.notices.Near.{AreFar, IsFar, far-append, far_reads, not_near}
use Rattle.node_laws.proofs.passes.Passing.{leaves_behind}
use Rattle.node_laws.proofs.passes.Replying.{HasFirst, has_first}
use Rattle.node_laws.proofs.read_rooms.Carrying.{IsCarried}
use Rattle.node_laws.proofs.read_steps.Reading.{far_named}
use Rattle.node_laws.proofs.replies.Passes.{lack_so, own_end_is, split_of, walked}
use Rattle.node_laws.proofs.replies.Waiting.{Stays, all_stays, beside_of}
use Rattle.node_laws.proofs.views.Doing.{IsRead, Leaves, leaves_all, reads_append}
use Rattle.node_laws.proofs.worlds.Resting.{AreIdle, idle_unhandled}
use Rattle.trace_model.specs.declared.entry.Entry.TheVariants as entry

-- ## Entries that change nothing of what decides a reply of the controller: behind them a message there lacks what it lacked before

-- no session begins at an end of the controller, and nothing that it sent is acknowledged
abbrev pub IsUnheard : Entry → Type 0
IsUnheard (entry.Up e n) = e.at_host ≡ true
IsUnheard (entry.Acked e n count) = e.at_host ≡ true
IsUnheard _ = Unit {0}

-- entries that tell of hosts or of frames, or that a message is held
pub record AreCalm (es : List Entry) : Type 0 where
  pub far : AreFar es
  pub unheard : AllByRecursion IsUnheard es
  pub leave : (k : ℕ) → AllByRecursion (Leaves (end_c k)) es

pub calm_both : (es fs : List Entry) → AreCalm es → AreCalm fs → AreCalm (es ++ fs)
calm_both es fs a b = record {
  far = far-append es fs a.far b.far;
  unheard = all_append IsUnheard es fs a.unheard b.unheard;
  leave = λ k. all_append (Leaves (end_c k)) es fs (a.leave k) (b.leave k);
}

pub calm_none : AreCalm []
calm_none = record { far = tt; unheard = tt; leave = λ k. tt }

-- ### Sessions, and what isn't acknowledged

module _ (k : ℕ) where
  abbrev e : End
  e = end_c k

  session_one : (t : List Entry) (x : Entry) → IsFar x → IsUnheard x → session_now (t ++ x ∷ []) e 0 ≡ session_now t e 0
  session_one t (entry.Up f n) far heard =
      fold-append _ None t (entry.Up f n ∷ []) ∙ ap (λ b. cond b (Some n) (session_now t e 0)) (not_near f k heard)
  session_one t (entry.Down f cause) far heard =
      fold-append _ None t (entry.Down f cause ∷ []) ∙ ap (λ b. cond b None (session_now t e 0)) (not_near f k far)
  session_one t (entry.Cut n) far heard = fold-append _ None t (entry.Cut n ∷ []) ∙ ap (λ b. cond b None (session_now t e 0)) far
  session_one t x far heard = fold-append _ None t (x ∷ [])

  session_calm : (t es : List Entry) → AreFar es → AllByRecursion IsUnheard es → session_now (t ++ es) e 0 ≡ session_now t e 0
  session_calm t [] far heard = ap (λ l. session_now l e 0) (append-nil t)
  session_calm t (x ∷ es) far heard =
      ap (λ l. session_now l e 0) (sym (append_assoc t (x ∷ []) es))
      ∙ (session_calm (t ++ x ∷ []) es far.1 heard.1 ∙ session_one t x far.0 heard.0)

  module _ (n : ℕ) where
    quiet : (b : Bool) (s : Saying) → sent_by n (Some s) ≡ None → sent_by n (cond b (Some s) None) ≡ None
    quiet b s q = grind arith

    sent_all : (es : List Entry) → AreFar es → AllByRecursion (λ x. sent_by n (said_of e x) ≡ None) es
    sent_all [] far = tt
    sent_all (x ∷ es) far = (grind arith, sent_all es far.1)

    abbrev counts : ℕ → Entry → ℕ
    counts before x = acked_after n before (said_of e x)

    acked_all : (before : ℕ) (es : List Entry) → AreFar es → AllByRecursion IsUnheard es → fold counts before es ≡ before
    acked_all before [] far heard = refl
    acked_all before (x ∷ es) far heard = ap (λ b. fold counts b es) (grind arith) ∙ acked_all before es far.1 heard.1

    sent_calm : (t es : List Entry) → AreFar es → sent_in (t ++ es) e n ≡ sent_in t e n
    sent_calm t es far =
        filter_map-append (λ x. sent_by n (said_of e x)) t es
        ∙ (ap (λ l. sent_in t e n ++ l) (none_of es (sent_all es far)) ∙ append-nil (sent_in t e n)) where
          none_of : (es : List Entry) → AllByRecursion (λ x. sent_by n (said_of e x) ≡ None) es → filter_map (λ x. sent_by n (said_of e x)) es ≡ []
          none_of [] a = refl
          none_of (x ∷ es) a = rw a.0 (none_of es a.1)

    acked_calm : (t es : List Entry) → AreFar es → AllByRecursion IsUnheard es → acked_in (t ++ es) e n ≡ acked_in t e n
    acked_calm t es far heard = fold-append counts 0 t es ∙ acked_all (acked_in t e n) es far heard

  left_calm : (t es : List Entry) → AreFar es → AllByRecursion IsUnheard es → (o : Option ℕ)
      → unacknowledged_in (t ++ es) e o ≡ unacknowledged_in t e o
  left_calm t es far heard None = refl
  left_calm t es far heard (Some n) = ap₂ (λ c l. drop c l) (acked_calm n t es far heard) (sent_calm n t es far)

  spare_calm : (t es : List Entry) → AreFar es → AllByRecursion IsUnheard es → spare_at (t ++ es) e ≡ spare_at t e
  spare_calm t es far heard =
      ap₂ (λ l asks. 128 - (need_of_all l + cond (is_some asks) 1 0))
      (ap (unacknowledged_in (t ++ es) e) (session_calm t es far heard) ∙ left_calm t es far heard (session_now t e 0))
      (far_reading k t es far)

-- ### A controller in a step

module _ (hosts : List ℕ) (are : AreHosts hosts) (t : List Entry) (w : Work) (b : KeepsBeside hosts t w) (es : List Entry) (calm : AreCalm es) where
  abbrev a : KeepsInStep hosts t w
  a = b.reads.runs.keeps

  -- these entries are noted
  abbrev v : Work
  v = noting es w

  abbrev told : List Entry
  told = t ++ w.entries

  is : t ++ v.entries ≡ told ++ es
  is = sym (append_assoc t w.entries es)

  book_is : book_in (t ++ v.entries) 0 ≡ book_in told 0
  book_is = ap (λ l. book_in l 0) is ∙ (book_more told es 0 ∙ far_fold (book_in told 0) es calm.far)

  notice_is : (h : ℕ) → notice_in (t ++ v.entries) h ≡ notice_in told h
  notice_is h = ap (λ l. notice_in l h) is ∙ (fold-append _ None told es ∙ far_reads h es calm.far (notice_in told h))

  asking_is : (h : ℕ) → asking_in (t ++ v.entries) h ≡ asking_in told h
  asking_is h = ap (λ l. asking_in l h) is ∙ far_reading h told es calm.far

  errors_so : (h : ℕ) → HasErrorsRead told w.ports h → HasErrorsRead (t ++ v.entries) w.ports h
  errors_so h c =
      let x : ErrorCount = fold (errors_after (end_c h)) no_errors told in
      let now : IsRead (fold (errors_after (end_c h)) x es) x.errors =
      leaves_all (end_c h) es x x.errors (calm.leave h) (record { sets = c.settled; is = refl }) in
      let whole : fold (errors_after (end_c h)) no_errors (t ++ v.entries) ≡ fold (errors_after (end_c h)) x es =
      ap (fold (errors_after (end_c h)) no_errors) is ∙ reads_append (end_c h) told es no_errors in
      record {
        settled = ap (λ (y : ErrorCount). y.sets) whole ∙ now.sets;
        at_ends = subst (λ n. AllByRecursion (λ (p : Port). (p.desk.host == h) ≡ true → p.desk.errors ≡ n) w.ports)
            (sym (ap (λ (y : ErrorCount). y.errors) whole ∙ now.is)) c.at_ends;
      }

  calm_keeps : KeepsInStep hosts t v
  calm_keeps = record {
    on = a.on;
    node = a.node;
    hosts_are = a.hosts_are;
    tables = a.tables ∙ sym (ap (λ (x : Book). x.tables) book_is);
    sorted = a.sorted;
    two = a.two;
    proper = a.proper;
    book = subst IsProperBook (sym book_is) a.book;
    right = a.right;
    up = a.up;
    notices = λ h. subst (λ m. IsKeptNotice m (notice_at (desks_of w.ports) h)) (sym (notice_is h)) (a.notices h);
    awaited = a.awaited;
    creations = λ h. subst (λ m. IsReadSo m (creations_at (desks_of w.ports) h)) (sym (asking_is h)) (a.creations h);
    asides = a.asides;
    errors = λ h host. errors_so h (a.errors h host);
  }

  calm_ends : EndsAreRead (t ++ v.entries) v.ports
  calm_ends = record {
    sessions = λ k p here. ap (λ l. session_now l (end_c k) 0) is ∙ (session_calm k told es calm.far calm.unheard ∙ b.ends.sessions k p here);
    spares = λ k p here. ap (λ l. spare_at l (end_c k)) is ∙ (spare_calm k told es calm.far calm.unheard ∙ b.ends.spares k p here);
  }

  calm_named : AreNamed (t ++ v.entries)
  calm_named = subst AreNamed (sym is) (all_append IsNamed told es b.reads.named (far_named es calm.far))

  -- behind them a message lacks what it lacked before
  lack_calm : (m : Moment) → until m ≡ told ++ es → (h : ℕ) (message : Message) → lack_of hosts m (end_c h) message ≡ lacking w h message
  lack_calm m same h message = lack_so hosts are t v calm_keeps calm_ends b.room calm_named m (same ∙ sym is) h message

-- ## As a pass of a controller leaves an end, all messages there have had their turns, or the first one that is left lacks room, as it is read

-- an end of a turn, or of a message that is held, is one of the controller
abbrev pub IsNear : Entry → Type 0
IsNear (entry.Turn f pid message) = f.at_host ≡ false
IsNear (entry.Held f need spare) = f.at_host ≡ false
IsNear _ = Unit {0}

pub idle_left : (e : End) (s es : List Entry) → AreIdle e es → unhandled_in (s ++ es) e ≡ unhandled_in s e
idle_left e s [] idle = ap (λ l. unhandled_in l e) (append-nil s)
idle_left e s (x ∷ es) idle =
    ap (λ l. unhandled_in l e) (sym (append_assoc s (x ∷ []) es)) ∙ (idle_left e (s ++ x ∷ []) es idle.1 ∙ idle_unhandled e s x idle.0)

-- a message that is left at this end lacks room behind these entries, and behind more that change nothing
abbrev pub LacksBehind : List ℕ → List Entry → List Entry → ℕ → Type 0
LacksBehind hosts told own k =
    (m : Moment) (rest : List Entry) → AreCalm rest → AreIdle (end_c k) rest → until m ≡ told ++ (own ++ rest) → is_some (lack_at hosts m (end_c k)) ≡ true

-- So a pass that begins in w leaves the end of the link with the host k, behind those entries at earlier ends.
pub record IsLeft (hosts : List ℕ) (t : List Entry) (w : Work) (earlier : List ℕ) (k : ℕ) (later : List ℕ) : Type 0 where
  pub front : List Entry
  pub own : List Entry
  pub back : List Entry
  pub all : (passes w).entries ≡ (w.entries ++ front) ++ (own ++ back)
  pub before : AreAlong (earlier ++ k ∷ []) (links_of_turns front)
  pub mine : AllByRecursion (λ x. is_later (end_c k) x ≡ false) own
  pub behind : AreAlong later (links_of_turns back)
  pub next : BeginWithTurn back
  pub near : (x : Entry) (rest : List Entry) → back ≡ x ∷ rest → IsNear x
  pub lacks : (unhandled_in (t ++ (passes w).entries) (end_c k) ≡ []) ⊎ LacksBehind hosts (t ++ (w.entries ++ front)) own k

port_there : (ports : List Port) (earlier : List ℕ) (k : ℕ) (later : List ℕ) → hosts_of_ends ports ≡ earlier ++ k ∷ later
    → (p : Port) × (port_at ports k ≡ Some p)
port_there [] [] k later is = absurd (cc is)
port_there [] (h ∷ earlier) k later is = absurd (cc is)
port_there (p ∷ ports) [] k later is =
    let one : p.desk.host ≡ k = cc in
    (p, rw (ap (λ n. eqb n k) one ∙ same_number k) refl)
port_there (p ∷ ports) (h ∷ earlier) k later is = by_test (eqb p.desk.host k)
    (λ q. (p, rw q refl))
    (λ q. ((port_there ports earlier k later cc).0, rw q (port_there ports earlier k later cc).1))

module _ (hosts : List ℕ) (are : AreHosts hosts) (t : List Entry) (w : Work) (step : ReadsInStep hosts t w) (carried : IsCarried t Controller w)
    (b : BeginsPass t w) where
  abbrev K : Work → Type 0
  K v = Stays hosts are t w b.room v

  abbrev lasts : LastsOverTurns K
  lasts = all_stays hosts are t w b.room

  abbrev beside : (v : Work) → K v → KeepsBeside hosts t v
  beside v s = beside_of hosts are t w b.room v s

  begins : K w
  begins = record { comes = PassBegins; step = step; carried = carried; messages = b.messages }

  abbrev walk : ArePassed (λ v. KeepsInStep hosts t v × K v) (hosts_of_ends w.ports) w (passes w)
  walk = walked hosts are t K lasts beside w (step.runs.keeps, begins)

  -- what waits where none does
  none_waits : (v : Work) → K v → (earlier : List ℕ) (k : ℕ) (later : List ℕ) → hosts ≡ earlier ++ k ∷ later → waiting_at v.ports k ≡ []
      → unhandled_in (t ++ v.entries) (end_c k) ≡ []
  none_waits v s earlier k later is none =
      let p = port_there v.ports earlier k later (s.step.runs.keeps.hosts_are ∙ is) in
      s.messages.waiting k p.0 p.1 ∙ (sym (ap (λ o. option_map_or (λ (p : Port). p.side.got) o []) p.1) ∙ none)

  own_late : (v : Work) → K v → (k : ℕ) (held : Bool) (short : ℕ × ℕ)
      → AllByRecursion (λ x. is_later (end_c k) x ≡ false) (cond held [] (entry.Held (end_of_node v.core k) short.0 short.1 ∷ []))
  own_late v s k true short = tt
  own_late v s k false short =
      (ap (λ f. is_later (end_c k) (entry.Held f short.0 short.1)) (own_end_is v.core k s.step.runs.keeps.node) ∙ (le-ltb k k (omega arith)), tt)

  own_left : (s : List Entry) (e f : End) (held : Bool) (short : ℕ × ℕ)
      → unhandled_in (s ++ cond held [] (entry.Held f short.0 short.1 ∷ [])) e ≡ unhandled_in s e
  own_left s e f true short = ap (λ l. unhandled_in l e) (append-nil s)
  own_left s e f false short = fold-append (unhandled_after e) [] s (entry.Held f short.0 short.1 ∷ [])

  module _ (earlier : List ℕ) (k : ℕ) (later : List ℕ) (is : hosts_of_ends w.ports ≡ earlier ++ k ∷ later)
      (off : AllByRecursion (λ j. (j == k) ≡ false) later) (on : w.cut ≡ false) (still : (passes w).cut ≡ false) where
    abbrev last : Work
    last = goes_through_ends (earlier ++ k ∷ later) w

    whole : last ≡ passes w
    whole = ap (λ hs. goes_through_ends hs w) (sym is)

    abbrev c : IsBehind K w last earlier k later
    c = leaves_behind K lasts earlier k later w begins on off (ap (λ (u : Work). u.cut) whole ∙ still)

    split : (passes w).entries ≡ (w.entries ++ c.front) ++ (c.own ++ c.back)
    split = ap (λ (u : Work). u.entries) (sym whole) ∙ c.all

    held_lacks : (m : Message) (messages : List Message) → waiting_at c.work.ports k ≡ m ∷ messages → StaysThere c.work last k c.own (m ∷ messages)
        → LacksBehind hosts (t ++ (w.entries ++ c.front)) c.own k
    held_lacks m messages waits stays at rest calm idle same =
        let v : Work = c.work in
        let H : Bool = is_held_at v.ports k in
        let f : End = end_of_node v.core k in
        let short : ℕ × ℕ = stays.0 in
        let told : t ++ (w.entries ++ c.front) ≡ t ++ v.entries = ap (λ l. t ++ l) (sym c.entries) in
        let here : until at ≡ (t ++ v.entries) ++ (c.own ++ rest) = same ∙ ap (λ l. l ++ (c.own ++ rest)) told in
        let own : AreCalm c.own = subst AreCalm (sym stays.3) (grind arith) in
        let first : HasFirst v.ports k m messages = has_first v.ports k m messages waits in
        let got : unhandled_in (t ++ v.entries) (end_c k) ≡ m ∷ messages = c.keeps.messages.waiting k first.port first.here ∙ first.got in
        let with_own : unhandled_in ((t ++ v.entries) ++ c.own) (end_c k) ≡ m ∷ messages =
        ap (λ l. unhandled_in ((t ++ v.entries) ++ l) (end_c k)) stays.3 ∙ (own_left (t ++ v.entries) (end_c k) f H short ∙ got) in
        let left : unhandled_in (until at) (end_c k) ≡ m ∷ messages =
        ap (λ l. unhandled_in l (end_c k)) (here ∙ sym (append_assoc (t ++ v.entries) c.own rest))
        ∙ (idle_left (end_c k) ((t ++ v.entries) ++ c.own) rest idle ∙ with_own) in
        ap is_some (ap (λ l. option_and_then (lack_of hosts at (end_c k)) (oldest l)) left
        ∙ (lack_calm hosts are t v (beside v c.keeps) (c.own ++ rest) (calm_both c.own rest own calm) at here k m ∙ stays.1))

    near_so : (x : Entry) (front rest : List Entry) → IsTurnSo (λ v. KeepsInStep hosts t v × K v) w front x rest → IsNear x
    near_so x front rest u = grind arith

    by_waiting : (q : List Message) → waiting_at c.work.ports k ≡ q
        → ((unhandled_in (t ++ (passes w).entries) (end_c k) ≡ []) ⊎ LacksBehind hosts (t ++ (w.entries ++ c.front)) c.own k)
        × AllByRecursion (λ x. is_later (end_c k) x ≡ false) c.own
    by_waiting [] q =
        let stays : c.own ≡ [] = subst (StaysThere c.work last k c.own) q c.stays in
        let none : waiting_at (passes w).ports k ≡ [] = ap (λ (u : Work). waiting_at u.ports k) (sym whole) ∙ (c.waits ∙ q) in (
          inl (none_waits (passes w) ((walk.keeps still).1) earlier k later (sym step.runs.keeps.hosts_are ∙ is) none),
          subst (AllByRecursion (λ x. is_later (end_c k) x ≡ false)) (sym stays) tt,
        )
    by_waiting (m ∷ messages) q =
        let stays : StaysThere c.work last k c.own (m ∷ messages) = subst (StaysThere c.work last k c.own) q c.stays in (
          inr (held_lacks m messages q stays),
          subst (AllByRecursion (λ x. is_later (end_c k) x ≡ false)) (sym stays.3) (own_late c.work c.keeps k (is_held_at c.work.ports k) stays.0),
        )

    pub is_left : IsLeft hosts t w earlier k later
    is_left =
        let what = by_waiting (waiting_at c.work.ports k) refl in
        record {
          front = c.front;
          own = c.own;
          back = c.back;
          all = split;
          before = c.before;
          mine = what.1;
          behind = c.behind;
          next = c.next;
          near = λ x rest q. near_so x (c.front ++ c.own) rest (walk.each (c.front ++ c.own) rest x
              (split_of hosts are t K lasts beside w (step.runs.keeps, begins) ((c.front ++ c.own) ++ (x ∷ rest))
              (split ∙ (ap (λ l. (w.entries ++ c.front) ++ (c.own ++ l)) q
              ∙ (append_assoc w.entries c.front (c.own ++ (x ∷ rest)) ∙ ap (λ l. w.entries ++ l) (sym (append_assoc c.front c.own (x ∷ rest))))))));
          lacks = what.0;
        }
