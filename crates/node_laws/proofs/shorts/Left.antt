-- Behind a step of a host that runs on, the first message that is left at its end lacks room, as it is read, and goes on to lack it.
use Rattle.node_laws.proofs.Words.{AllByRecursion, AreAlong, AreNotOf, BeginWithTurn, Book, Bool, ComesTo, Cut, Emit, End, Entry, ErrorCount, Happening}
use Rattle.node_laws.proofs.Words.{HciTables, Init, IsBehind, IsHost, IsSilent, LeavesInit, Link, List, Lost, Message, Moment, NodeInput, None, Noted}
use Rattle.node_laws.proofs.Words.{Occurrence, Option, Saying, Some, Stays, Took, Work, [], acked_after, acked_in, all_append, ap, append-nil, append_assoc}
use Rattle.node_laws.proofs.Words.{ap₂, arith, as_left, book_after, book_in, by_list, by_option, comes_to_pass, cond, drop, end_h, end_of_node, end_of_number}
use Rattle.node_laws.proofs.Words.{end_read, ending_entries, ending_of, entries_for, entries_in, eqb, errors_in, false, filter_map, filter_map-append}
use Rattle.node_laws.proofs.Words.{first_lack, fold, fold-append, frames_noted, goes_through_ends, host_deeds, hosts_of_ends, init_begun, init_in, inl, inr}
use Rattle.node_laws.proofs.Words.{is_held_at, is_later, is_left_short, is_of_node, is_some, lack_of, lacking, links_of_turns, need_of_all, needs, no_errors}
use Rattle.node_laws.proofs.Words.{not, oldest, option_and_then, order_in, own_read, passes, port_at, refl, reply, runs_in, said_of, sent_by, sent_in}
use Rattle.node_laws.proofs.Words.{session_now, spare_at, spare_read, steps, subst, sym, tables_in, take_while, take_while-cons, through, true}
use Rattle.node_laws.proofs.Words.{unacknowledged_in, unhandled_after, unhandled_in, until, waiting_at, ℕ, ◌++◌, ◌+◌, ◌-◌, ◌∙◌, ◌∷◌, ◌≡◌, ◌≤◌, ◌⊎◌}
use Rattle.link_laws.specs.entries.Entries.{End as Side}
use Rattle.node_laws.specs.passes.Passing.ComesTo.{Begins as PassBegins}
use Rattle.node_laws.specs.reply_passes.Counts.{commands_noted as commits}
use Rattle.node_laws.proofs.hosts.Knowing.{HostKnows, comes_none}
use Rattle.node_laws.proofs.hosts.Passes.{BeginsSo, errors_behind, known, lack_is, room_at, waits_read, zero}
use Rattle.node_laws.proofs.kept.Doing.{book_more}
use Rattle.node_laws.proofs.passes.InSteps.{steps_are}
use Rattle.node_laws.proofs.passes.Passing.{comes_lasts, leaves_behind}
use Rattle.node_laws.proofs.power.Steps.{Fine, HasLost, Runs, steps_fine}
use Rattle.node_laws.proofs.readings.Turning.{order_more}
use Rattle.node_laws.proofs.replies.Passes.{lack_alike}
use Rattle.node_laws.proofs.reply_passes.Roomy.{commits-append}
use Rattle.node_laws.proofs.reply_passes.Held.{AreNoBoots}
use Rattle.node_laws.proofs.telling.Ticks.{ending_all}
use Rattle.node_laws.proofs.views.Going.{init_append, reads_init}
use Rattle.node_laws.proofs.views.Doing.{IsRead, Leaves, leaves_all, reads, reads_append}
use Rattle.node_laws.proofs.worlds.Late.{IsFrame}
use Rattle.node_laws.proofs.worlds.Short.{short_lacks, short_none, short_off}
use Rattle.node_laws.proofs.worlds.Resting.{cut_off, idle_unhandled, other_end, others_idle}
use Rattle.trace_model.specs.declared.entry.Entry.TheVariants as entry

-- ## Entries that change nothing of what decides a reply of a host: behind them a message there lacks what it lacked before

-- ### Entries that change nothing

module _ (n : ℕ) where
  -- an entry tells that a message is held or of a frame, or isn't of this host
  abbrev pub IsCalmAt : Entry → Type 0
  IsCalmAt (entry.Held f need spare) = Unit {0}
  IsCalmAt (entry.Emit f lpdu) = Unit {0}
  IsCalmAt (entry.Took f lpdu) = Unit {0}
  IsCalmAt (entry.Lost f lpdu cause) = Unit {0}
  IsCalmAt x = is_of_node n x ≡ false

  abbrev pub AreCalmAt : List Entry → Type 0
  AreCalmAt es = AllByRecursion IsCalmAt es

  pub others_calm : (es : List Entry) → AreNotOf n es → AreCalmAt es
  others_calm [] a = tt
  others_calm (x ∷ es) a = (grind arith, others_calm es a.1)

  -- frames
  frames_all : (h : ℕ) (notes : List Noted) → AllByRecursion IsFrame notes → AreCalmAt (entries_for h notes)
  frames_all h [] all = tt
  frames_all h (Emit who frame ∷ notes) all = (tt, frames_all h notes all.1)
  frames_all h (Took who frame ∷ notes) all = (tt, frames_all h notes all.1)
  frames_all h (Lost who frame why ∷ notes) all = (tt, frames_all h notes all.1)
  frames_all h (Cut who ∷ notes) all = frames_all h notes all.1
  frames_all h (_ ∷ notes) all = absurd all.0

  pub frames_calm : (who : Side) (h : ℕ) (l : Link) (v : Work) → AreCalmAt (frames_noted who h l v)
  frames_calm who h l v = by_option (port_at v.ports h)
      (λ q. rw q tt)
      (λ p q. rw q (frames_all h (ending_entries who l p.side (ending_of v))
      (ending_all IsFrame (λ w c. tt) (λ w c. tt) (λ w. tt) who l p.side (ending_of v))))

  -- what is folded over them stays
  module _ {A : Type 0} (f : A → Entry → A) (stays : (a : A) (x : Entry) → IsCalmAt x → f a x ≡ a) where
    fold_calm : (a : A) (es : List Entry) → AreCalmAt es → fold f a es ≡ a
    fold_calm a [] calm = refl
    fold_calm a (x ∷ es) calm = ap (λ b. fold f b es) (stays a x calm.0) ∙ fold_calm a es calm.1

  abbrev e : End
  e = end_h n

  -- ### Tables, commands and inits

  book_one : (b : Book) (x : Entry) → IsCalmAt x → book_after n b x ≡ b
  book_one b x calm = grind arith

  tables_calm : (t es : List Entry) → AreCalmAt es → tables_in (t ++ es) n ≡ tables_in t n
  tables_calm t es calm = ap (λ (b : Book). b.tables) (book_more t es n ∙ fold_calm (book_after n) book_one (book_in t n) es calm)

  order_one : (x : Entry) → IsCalmAt x → IsSilent n x
  order_one x calm = grind arith

  order_calm : (t es : List Entry) → AreCalmAt es → order_in (t ++ es) n ≡ order_in t n
  order_calm t es calm = order_more t es n ∙ fold_calm _ (λ a x c. order_one x c a) (order_in t n) es calm

  init_one : (x : Entry) → IsCalmAt x → LeavesInit n x
  init_one x calm = grind arith

  init_calm : (es : List Entry) (i : Option Init) → AreCalmAt es → reads_init n es i ≡ i
  init_calm es i calm = fold_calm _ (λ a x c. init_one x c a) i es calm

  -- ### Power and messages

  runs_one : (s : List Entry) (x : Entry) → IsCalmAt x → runs_in (s ++ x ∷ []) n ≡ runs_in s n
  runs_one s (entry.Booted m k) calm = fold-append _ false s (entry.Booted m k ∷ []) ∙ ap (λ b. cond b true (runs_in s n)) calm
  runs_one s (entry.Cut m) calm = fold-append _ false s (entry.Cut m ∷ []) ∙ ap (λ b. cond b false (runs_in s n)) calm
  runs_one s x calm = fold-append _ false s (x ∷ [])

  pub runs_calm : (s es : List Entry) → AreCalmAt es → runs_in (s ++ es) n ≡ runs_in s n
  runs_calm s [] calm = ap (λ l. runs_in l n) (append-nil s)
  runs_calm s (x ∷ es) calm = ap (λ l. runs_in l n) (sym (append_assoc s (x ∷ []) es)) ∙ (runs_calm (s ++ x ∷ []) es calm.1 ∙ runs_one s x calm.0)

  waits_one : (s : List Entry) (x : Entry) → IsCalmAt x → unhandled_in (s ++ x ∷ []) e ≡ unhandled_in s e
  waits_one s (entry.Held f need spare) calm = fold-append (unhandled_after e) [] s (entry.Held f need spare ∷ [])
  waits_one s (entry.Emit f lpdu) calm = fold-append (unhandled_after e) [] s (entry.Emit f lpdu ∷ [])
  waits_one s (entry.Took f lpdu) calm = fold-append (unhandled_after e) [] s (entry.Took f lpdu ∷ [])
  waits_one s (entry.Lost f lpdu cause) calm = fold-append (unhandled_after e) [] s (entry.Lost f lpdu cause ∷ [])
  waits_one s x calm = idle_unhandled e s x (others_idle e (x ∷ []) (calm, tt)).0

  waits_calm : (s es : List Entry) → AreCalmAt es → unhandled_in (s ++ es) e ≡ unhandled_in s e
  waits_calm s [] calm = ap (λ l. unhandled_in l e) (append-nil s)
  waits_calm s (x ∷ es) calm =
      ap (λ l. unhandled_in l e) (sym (append_assoc s (x ∷ []) es)) ∙ (waits_calm (s ++ x ∷ []) es calm.1 ∙ waits_one s x calm.0)

  -- ### Sessions, and what isn't acknowledged

  session_one : (t : List Entry) (x : Entry) → IsCalmAt x → session_now (t ++ x ∷ []) e n ≡ session_now t e n
  session_one t (entry.Up f j) calm = fold-append _ None t (entry.Up f j ∷ []) ∙ ap (λ b. cond b (Some j) (session_now t e n)) (other_end e f calm)
  session_one t (entry.Down f cause) calm = fold-append _ None t (entry.Down f cause ∷ []) ∙ ap (λ b. cond b None (session_now t e n)) (other_end e f calm)
  session_one t (entry.Cut m) calm = fold-append _ None t (entry.Cut m ∷ []) ∙ ap (λ b. cond b None (session_now t e n)) calm
  session_one t x calm = fold-append _ None t (x ∷ [])

  session_calm : (t es : List Entry) → AreCalmAt es → session_now (t ++ es) e n ≡ session_now t e n
  session_calm t [] calm = ap (λ l. session_now l e n) (append-nil t)
  session_calm t (x ∷ es) calm =
      ap (λ l. session_now l e n) (sym (append_assoc t (x ∷ []) es)) ∙ (session_calm (t ++ x ∷ []) es calm.1 ∙ session_one t x calm.0)

  module _ (j : ℕ) where
    quiet : (b : Bool) (s : Saying) → sent_by j (Some s) ≡ None → sent_by j (cond b (Some s) None) ≡ None
    quiet b s q = grind arith

    sent_one : (x : Entry) → IsCalmAt x → sent_by j (said_of e x) ≡ None
    sent_one x calm = grind arith

    none_sent : (es : List Entry) → AreCalmAt es → filter_map (λ x. sent_by j (said_of e x)) es ≡ []
    none_sent [] calm = refl
    none_sent (x ∷ es) calm = rw (sent_one x calm.0) (none_sent es calm.1)

    sent_calm : (t es : List Entry) → AreCalmAt es → sent_in (t ++ es) e j ≡ sent_in t e j
    sent_calm t es calm =
        filter_map-append (λ x. sent_by j (said_of e x)) t es ∙ (ap (λ l. sent_in t e j ++ l) (none_sent es calm) ∙ append-nil (sent_in t e j))

    acked_one : (before : ℕ) (x : Entry) → IsCalmAt x → acked_after j before (said_of e x) ≡ before
    acked_one before x calm = grind arith

    acked_calm : (t es : List Entry) → AreCalmAt es → acked_in (t ++ es) e j ≡ acked_in t e j
    acked_calm t es calm = fold-append _ 0 t es ∙ fold_calm _ acked_one (acked_in t e j) es calm

  left_calm : (t es : List Entry) → AreCalmAt es → (o : Option ℕ) → unacknowledged_in (t ++ es) e o ≡ unacknowledged_in t e o
  left_calm t es calm None = refl
  left_calm t es calm (Some j) = ap₂ (λ c l. drop c l) (acked_calm j t es calm) (sent_calm j t es calm)

  spare_calm : (t es : List Entry) → AreCalmAt es → spare_at (t ++ es) e ≡ spare_at t e
  spare_calm t es calm =
      ap (λ l. 128 - (need_of_all l + 0)) (ap (unacknowledged_in (t ++ es) e) (session_calm t es calm) ∙ left_calm t es calm (session_now t e n))

-- ### What a message lacks

-- behind those entries as behind these
module _ (hosts : List ℕ) (n : ℕ) (off : eqb n 0 ≡ false) (t s : List Entry) (session : session_now s (end_h n) n ≡ session_now t (end_h n) n)
    (spares : spare_at s (end_h n) ≡ spare_at t (end_h n)) (errors : errors_in s (end_h n) ≡ errors_in t (end_h n)) where
  errors_same : errors_in s (end_of_number n n) ≡ errors_in t (end_of_number n n)
  errors_same = subst (λ z. errors_in s z ≡ errors_in t z) (sym (rw off refl)) errors

  spares_same : (j : ℕ) → spare_read hosts s n j ≡ spare_read hosts t n j
  spares_same j = grind arith

  lack_same : (m l : Moment) → until m ≡ s → until l ≡ t → own_read m n ≡ own_read l n → (message : Message)
      → lack_of hosts m (end_h n) message ≡ lack_of hosts l (end_h n) message
  lack_same m l here there kept message =
      let one : reply hosts m (end_h n) message ≡ host_deeds (own_read m n) (end_read s n n) message = grind arith in
      let two : reply hosts l (end_h n) message ≡ host_deeds (own_read l n) (end_read t n n) message = grind arith in
      let same : reply hosts m (end_h n) message ≡ reply hosts l (end_h n) message = grind arith in
      ap₂ (λ u d. first_lack (spare_read hosts u n) (needs n d)) here same
      ∙ (lack_alike (spare_read hosts s n) (spare_read hosts t n) spares_same (needs n (reply hosts l (end_h n) message))
      ∙ ap (λ u. first_lack (spare_read hosts u n) (needs n (reply hosts l (end_h n) message))) (sym there))

-- ## Behind a step of a host that runs on, the first message that is left at its end lacks room, as it is read

-- ### Behind a pass

-- a pass leaves these messages at the end, the first of which lacks room there, and notes only calm entries since
record LeftAt (n : ℕ) (w : Work) (m : Message) (messages : List Message) : Type 0 where
  pub work : Work
  pub comes : ComesTo w work
  pub own : List Entry
  pub all : (passes w).entries ≡ work.entries ++ own
  pub calm : AreCalmAt n own
  pub leaves : AllByRecursion (Leaves (end_h n)) own
  pub waits : waiting_at work.ports n ≡ m ∷ messages
  pub lacks : is_some (lacking work n m) ≡ true

-- it leaves none
record NoneLeft (n : ℕ) (w : Work) : Type 0 where
  pub work : Work
  pub comes : ComesTo w work
  pub all : (passes w).entries ≡ work.entries
  pub none : waiting_at work.ports n ≡ []

abbrev IsLeftAt : ℕ → Work → Type 0
IsLeftAt n w = NoneLeft n w ⊎ ((m : Message) × (messages : List Message) × LeftAt n w m messages)

no_turns : (back : List Entry) → AreAlong [] (links_of_turns back) → BeginWithTurn back → back ≡ []
no_turns back along begin = grind arith

module _ (n : ℕ) (w : Work) (is : hosts_of_ends w.ports ≡ n ∷ []) (on : w.cut ≡ false) (still : (passes w).cut ≡ false) where
  abbrev last : Work
  last = goes_through_ends (n ∷ []) w

  whole : last ≡ passes w
  whole = ap (λ hs. goes_through_ends hs w) (sym is)

  abbrev c : IsBehind (ComesTo w) w last [] n []
  c = leaves_behind (ComesTo w) (comes_lasts w) [] n [] w PassBegins on tt (ap (λ (u : Work). u.cut) whole ∙ still)

  split : (passes w).entries ≡ c.work.entries ++ c.own
  split = grind arith

  own_calm : (held : Bool) (f : End) (short : ℕ × ℕ) → AreCalmAt n (cond held [] (entry.Held f short.0 short.1 ∷ []))
      × AllByRecursion (Leaves (end_h n)) (cond held [] (entry.Held f short.0 short.1 ∷ []))
  own_calm held f short = grind arith

  left_at : IsLeftAt n w
  left_at = by_list (waiting_at c.work.ports n)
      (λ q. let own : c.own ≡ [] = subst (Stays c.work last n c.own) q c.stays in
      inl (record { work = c.work; comes = c.keeps; all = split ∙ (ap (λ l. c.work.entries ++ l) own ∙ append-nil c.work.entries); none = q }))
      (λ m messages q. let stays : Stays c.work last n c.own (m ∷ messages) = subst (Stays c.work last n c.own) q c.stays in
      let calm = own_calm (is_held_at c.work.ports n) (end_of_node c.work.core n) stays.0 in
      inr (
        m,
        messages,
        record {
          work = c.work;
          comes = c.keeps;
          own = c.own;
          all = split;
          calm = subst (AreCalmAt n) (sym stays.3) calm.0;
          leaves = subst (AllByRecursion (Leaves (end_h n))) (sym stays.3) calm.1;
          waits = q;
          lacks = ap is_some stays.1;
        },
      ))

-- ### A host leaves its end

-- a host has no later end
all_taken : (n : ℕ) (es : List Entry) → take_while (λ x. not (is_later (end_h n) x)) es ≡ es
all_taken n [] = refl
all_taken n (x ∷ es) = take_while-cons (λ y. not (is_later (end_h n) y)) x es ∙ ap (λ l. x ∷ l) (all_taken n es)

module _ (hosts : List ℕ) (n : ℕ) (host : IsHost n) (past : List Occurrence) (cause : Happening) (i : Option Init)
    (begun : init_begun n (init_in past n) cause ≡ i) (lead rest : List Entry) (stays : reads_init n lead i ≡ i) (calm : AreCalmAt n rest)
    (leaves : AllByRecursion (Leaves (end_h n)) rest) where
  abbrev t : List Entry
  t = entries_in past ++ lead

  abbrev seen : List Entry → Occurrence
  seen es = record { cause = cause; entries = lead ++ (es ++ rest) }

  abbrev IsShort : List Entry → Type 0
  IsShort es = is_left_short hosts past (seen es) (end_h n) ≡ true

  all_of : (es : List Entry) → through past (seen es) ≡ (t ++ es) ++ rest
  all_of es = sym (append_assoc (entries_in past) lead (es ++ rest)) ∙ sym (append_assoc t es rest)

  module _ (w : Work) (on : w.cut ≡ false) (b : BeginsSo n host t i w) (unbooted : AreNoBoots (passes w).entries)
      (few : commits (t ++ (passes w).entries) ≤ 4000000000) where
    none_short : NoneLeft n w → IsShort (passes w).entries
    none_short l =
        short_none hosts past (seen (passes w).entries) (end_h n)
        (ap (λ s. unhandled_in s (end_h n)) (all_of (passes w).entries)
        ∙ (waits_calm n (t ++ (passes w).entries) rest calm
        ∙ (ap (λ s. unhandled_in (t ++ s) (end_h n)) l.all
        ∙ (waits_read hosts n host t i w on b unbooted few l.work l.comes ∙ l.none))))

    abbrev moment : List Entry → Moment
    moment es = record { past = past; cause = cause; so_far = lead ++ es }

    left_short : (m : Message) (messages : List Message) → LeftAt n w m messages → IsShort (passes w).entries
    left_short m messages l = short_lacks hosts past (seen P) (end_h n)
        (ap is_some (ap (λ l. option_and_then (lack_of hosts late (end_h n)) (oldest l)) waits ∙ lack_late) ∙ l.lacks) where
          P : List Entry
          P = (passes w).entries

          v : Work
          v = l.work

          es : List Entry
          es = l.own ++ rest

          es_calm : AreCalmAt n es
          es_calm = all_append _ l.own rest l.calm calm

          late : Moment
          late = as_left past (seen P) (end_h n)

          early : Moment
          early = moment v.entries

          so_far : late.so_far ≡ (lead ++ v.entries) ++ es
          so_far =
              all_taken n (lead ++ (P ++ rest))
              ∙ (ap (λ s. lead ++ (s ++ rest)) l.all
              ∙ (ap (λ s. lead ++ s) (append_assoc v.entries l.own rest) ∙ sym (append_assoc lead v.entries es)))

          told : List Entry
          told = t ++ v.entries

          early_is : until early ≡ told
          early_is = sym (append_assoc (entries_in past) lead v.entries)

          late_is : until late ≡ told ++ es
          late_is =
              ap (λ s. entries_in past ++ s) so_far
              ∙ (sym (append_assoc (entries_in past) (lead ++ v.entries) es) ∙ ap (λ s. s ++ es) early_is)

          with_so_far : List Entry → Option Init
          with_so_far s = reads_init n s (init_begun n (init_in past n) cause)

          init_is : (own_read early n).init ≡ reads_init n v.entries i
          init_is = ap (λ y. reads_init n (lead ++ v.entries) y) begun ∙ (init_append n lead v.entries i ∙ ap (λ y. reads_init n v.entries y) stays)

          init_same : (own_read late n).init ≡ (own_read early n).init
          init_same =
              ap with_so_far so_far
              ∙ (init_append n (lead ++ v.entries) es (init_begun n (init_in past n) cause) ∙ init_calm n es (with_so_far (lead ++ v.entries)) es_calm)

          k : HostKnows n host t i (errors_behind n t) b.memory b.order_phase b.init_phase v
          k = known hosts n host t i w on b unbooted few v l.comes

          core : own_read late n ≡ own_read early n
          core =
              ap₂ (λ (tables : HciTables) (order : Option (List ℕ)). record (own_read late n) { tables = tables; command = order })
              (ap (λ s. tables_in s n) late_is ∙ (tables_calm n told es es_calm ∙ ap (λ s. tables_in s n) (sym early_is)))
              (ap (λ s. order_in s n) late_is ∙ (order_calm n told es es_calm ∙ ap (λ s. order_in s n) (sym early_is)))
              ∙ ap (λ (y : Option Init). record (own_read early n) { init = y }) init_same

          errors_same : errors_in (told ++ es) (end_h n) ≡ errors_in told (end_h n)
          errors_same =
              let count : ErrorCount = reads (end_h n) v.entries (errors_behind n t) in
              let now : IsRead (reads (end_h n) es count) k.errors.errors =
              leaves_all (end_h n) es count k.errors.errors (all_append (Leaves (end_h n)) l.own rest l.leaves leaves) k.errors.read in
              let first : reads (end_h n) told no_errors ≡ count = reads_append (end_h n) t v.entries no_errors in
              ap (λ (x : ErrorCount). x.errors) (reads_append (end_h n) told es no_errors ∙ ap (λ x. reads (end_h n) es x) first)
              ∙ (now.is ∙ (sym k.errors.read.is ∙ ap (λ (x : ErrorCount). x.errors) (sym first)))

          lack_late : lack_of hosts late (end_h n) m ≡ lacking v n m
          lack_late =
              lack_same hosts n (zero hosts n host t i b.memory b.order_phase b.init_phase) told (told ++ es) (session_calm n told es es_calm)
              (spare_calm n told es es_calm) errors_same late early late_is early_is core m
              ∙ lack_is hosts n host t i b.memory b.order_phase b.init_phase v k (b.ends v l.comes) (comes_none w v b.none l.comes)
              (room_at hosts n host t i w on b unbooted few v l.comes l.own l.all) early (record { at = early_is; init = init_is }) m

          waits : unhandled_in (until late) (end_h n) ≡ m ∷ messages
          waits =
              ap (λ s. unhandled_in s (end_h n)) late_is
              ∙ (waits_calm n told es es_calm ∙ (waits_read hosts n host t i w on b unbooted few v l.comes ∙ l.waits))

    pass_short : hosts_of_ends w.ports ≡ n ∷ [] → (passes w).cut ≡ false → IsShort (passes w).entries
    pass_short is still = by (left_at n w is on still) where
      by : IsLeftAt n w → IsShort (passes w).entries
      by (inl l) = none_short l
      by (inr l) = left_short l.0 l.1 l.2

  -- a step of the host, behind these entries, and before those
  pub step_short : (input : NodeInput) (start : Work) → Runs n start
      → ((comes_to_pass input start).cut ≡ false → BeginsSo n host t i (comes_to_pass input start))
      → AreNoBoots (steps input start).entries → commits (entries_in past ++ (lead ++ ((steps input start).entries ++ rest))) ≤ 4000000000
      → IsShort (steps input start).entries
  step_short input start runs begins boots few = by_fine (steps_fine n input start runs) where
    v : Work
    v = comes_to_pass input start

    last : Work
    last = steps input start

    low : commits (t ++ last.entries) ≤ 4000000000
    low =
        let one = commits-append (entries_in past) (lead ++ (last.entries ++ rest)) in let two = commits-append lead (last.entries ++ rest) in
        let three = commits-append last.entries rest in let four = commits-append t last.entries in
        let five = commits-append (entries_in past) lead in omega (arith, one, two, three, four, five, few)

    by_begun : (b : Bool) → v.cut ≡ b → last.cut ≡ false → IsShort last.entries
    by_begun true q on = grind arith
    by_begun false q on =
        let is : last ≡ passes v = steps_are input start ∙ rw q refl in
        let b = begins q in
        subst (λ (u : Work). IsShort u.entries) (sym is)
        (pass_short v q b (subst (λ (u : Work). AreNoBoots u.entries) is boots) (subst (λ (u : Work). commits (t ++ u.entries) ≤ 4000000000) is low)
        b.knows.kept.hosts_are (ap (λ (u : Work). u.cut) (sym is) ∙ on))

    gone : HasLost n last → runs_in (through past (seen last.entries)) n ≡ false
    gone l =
        ap (λ s. runs_in s n) (all_of last.entries)
        ∙ (runs_calm n (t ++ last.entries) rest calm
        ∙ (ap (λ x. runs_in x n) (ap (λ x. t ++ x) l.entries ∙ sym (append_assoc t l.front (entry.Cut n ∷ []))) ∙ cut_off n (t ++ l.front)))

    by_fine : Fine n last → IsShort last.entries
    by_fine (inl r) = by_begun v.cut refl r.on
    by_fine (inr l) = short_off hosts past (seen last.entries) (end_h n) (gone l)
