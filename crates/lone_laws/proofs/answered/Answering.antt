-- In each step of a node alone messages have their turns, and are held, as is read.
use Rattle.std.specs.Prelude.{Option, Some, None}
use Rattle.lone_laws.proofs.Words.{AllByRecursion, BeginWithTurn, BeginsBehind, Bool, ComesTo, Control, Core, Deed, End, Entry, Hold, IsHeldAlone, IsTurnSo}
use Rattle.lone_laws.proofs.Words.{LastsOverTurns, LinkInput, List, Lone, LoneCause, Message, Port, Running, Work, [], after_turn, ap, append-nil, append_assoc}
use Rattle.lone_laws.proofs.Words.{arith, by_test, comes_so, count_of, deeds_of, emits_behind, end_of_node, end_of_node_alone, eqb, errors_found, false}
use Rattle.lone_laws.proofs.Words.{first_lack_since, handles, holds_back, lack_since, lacking, lets, link_of_turn, lone_input, lpdu_of, map, noted_by_deeds}
use Rattle.lone_laws.proofs.Words.{noted_since, noting, oldest, option_map_or, port_at, refl, reply_since, session_now, session_with, subst, sym}
use Rattle.lone_laws.proofs.Words.{takes_up, true, turn_at, unhandled_in, waiting_at, with_desk, ℕ, ◌++◌, ◌∙◌, ◌∷◌, ◌≡◌, ◌≤◌}
use Rattle.trace_model.specs.declared.entry.Entry.TheVariants as entry
use Rattle.lone_laws.proofs.answered.Replying.{AnswersOwn, AreUntil, IsMuteEntry, IsRepliedOwn, deeds_answer, entries_of_deeds, mute_then, mutes_then}
use Rattle.lone_laws.proofs.answered.Replying.{noted_answers, noted_as_reply, reply_told, session_of_end}
use Rattle.lone_laws.proofs.answered.Reading.{Read, left_is}
use Rattle.lone_laws.proofs.answered.Turning.{IsHere, alone_here}
use Rattle.lone_laws.proofs.answered.Knowing.{KnowsAlone, LoneKeeps, OrderAt, begin_read, begun, ended, entries_are, in_order, knows_lasts, noted, pass_noted}
use Rattle.lone_laws.proofs.answered.Replied.{ErrorsAre, IsSettled, KnowsAll, core_read, deeds_read, deeds_shape, desk_errors, errors_then}
use Rattle.lone_laws.proofs.answered.Replied.{errs_handled, found, lack_read, noted_so, own_port, same_link, session_read}

pub emits_mute : (f : End) (frames : List Control) → AllByRecursion IsMuteEntry (map (λ c. entry.Emit f (lpdu_of c)) frames)
emits_mute f [] = tt
emits_mute f (c ∷ frames) = ((refl, refl, refl), emits_mute f frames)

-- nothing is answered before the next turn
pub none_until : (later emits : List Entry) → AllByRecursion IsMuteEntry emits → BeginWithTurn later
    → ((front back : List Entry) (x : Entry) → later ≡ front ++ (x ∷ back) → BeginsBehind x back) → AreUntil [] false (later ++ emits)
none_until [] emits mute begin each = subst (AreUntil [] false) (append-nil emits) (mutes_then emits [] [] false mute (refl, refl))
none_until (entry.Turn f pid message ∷ later) emits mute begin each = let h0 = entry.Turn f pid message in let h1 = later ++ emits in grind arith
none_until (entry.Held f need spare ∷ later) emits mute begin each =
    mute_then (entry.Held f need spare) (later ++ emits) [] false (refl, refl, refl)
    (none_until later emits mute (each [] later (entry.Held f need spare) refl)
    (λ front back x q. each (entry.Held f need spare ∷ front) back x (ap (λ es. entry.Held f need spare ∷ es) q)))
none_until (_ ∷ later) emits mute begin each = absurd (cc begin)

module _ (rest : Core) (number h : ℕ) (some : 1 ≤ h) (most : h ≤ 7) (s : ℕ) (t : List Entry) (its : eqb number 0 ≡ false → number ≡ h) where
  abbrev F : Core
  F = found rest number h some most s t

  abbrev e : End
  e = end_of_node_alone number h

  abbrev Of : Work → Type 0
  Of w = KnowsAll rest number h some most s t w

  abbrev Errs : Work → Type 0
  Errs w = ErrorsAre e (errors_found F) (t ++ w.entries) (desk_errors w.ports)

  -- more is noted that leaves REC_ERROR
  pub errs_more : (w : Work) (es : List Entry) → AllByRecursion (IsSettled e) es → Errs w
      → ErrorsAre e (errors_found F) (t ++ (w.entries ++ es)) (desk_errors w.ports)
  errs_more w es settled a =
      subst (λ l. ErrorsAre e (errors_found F) l (desk_errors w.ports)) (append_assoc t w.entries es)
      (errors_then e (errors_found F) (t ++ w.entries) es (desk_errors w.ports) settled a)

  errs_hold : (k : ℕ) (b : Bool) (w : Work) → Errs w → Errs (turn_at k (Hold b) w)
  errs_hold k b w a =
      subst (λ es. ErrorsAre e (errors_found F) (t ++ (w.entries ++ es)) (desk_errors (turn_at k (Hold b) w).ports))
      (sym (grind arith))
      (subst (ErrorsAre e (errors_found F) (t ++ (w.entries ++ []))) (sym (let h0 = after_turn (Hold b) in grind arith)) (errs_more w [] tt a))

  errs_held : (k : ℕ) (short : ℕ × ℕ) (w : Work) → Errs w → Errs (holds_back k short w)
  errs_held k short w a = by_test (option_map_or (λ (p : Port). p.desk.holds) (port_at w.ports k) false)
      (λ q. rw q (errs_hold k true w a))
      (λ q. rw q (errs_hold k true marked
      (subst (ErrorsAre e (errors_found F) (t ++ marked.entries))
      (sym (grind arith))
      (errs_more w (entry.Held (end_of_node w.core k) short.0 short.1 ∷ []) (((λ r. refl), tt), tt) a)))) where
        marked : Work
        marked = with_desk k (λ d. record d { holds = true }) (noting (entry.Held (end_of_node w.core k) short.0 short.1 ∷ []) w)

  abbrev knows : LastsOverTurns (KnowsAlone number h s (begin_read F) t)
  knows = knows_lasts number h some most s (begin_read F) t

  pub all_lasts : LastsOverTurns Of
  all_lasts = record {
    handled = λ w k m messages a on waits room still. record {
      known = knows.handled w k m messages a.known on waits room still;
      errs = errs_handled rest number h some most s t its w a on k m messages waits room still;
    };
    held = λ w k m messages short a on waits lacks. record {
      known = knows.held w k m messages short a.known on waits lacks;
      errs = errs_held k short w a.errs;
    };
    let_go = λ w k a on waits. record {
      known = knows.let_go w k a.known on waits;
      errs = lets Errs (λ j flag v b. errs_hold j flag v b) k w a.errs;
    };
  }

  pub all_at : (w v : Work) → Of w → ComesTo w v → Of v
  all_at w v a comes = comes_so Of all_lasts w a v comes

  -- What a message needs and is noted of it is what is read.
  module _ (w : Work) (a : Of w) (on : w.cut ≡ false) (k : ℕ) (m : Message) (messages : List Message) (waits : waiting_at w.ports k ≡ m ∷ messages) where
    abbrev T : List Entry
    T = t ++ w.entries

    pub its_lack : lack_since F h T m ≡ lacking w k m
    its_lack = lack_read rest number h some most s t w a its k m (same_link rest number h some most s t its w a on k m messages waits)

    pub its_left : unhandled_in T e ≡ m ∷ messages
    its_left =
        let here : IsHere a.known.keeps.port k m messages = alone_here number h some most (begin_read F) t k m messages w a.known.keeps waits in
        sym (left_is e T (begin_read F)) ∙ (ap (λ (z : Read). z.left) a.known.keeps.read ∙ here.got)

    pub its_first_lack : first_lack_since F h T ≡ lacking w k m
    its_first_lack = ap (λ ms. Rattle.std.specs.Option.option_and_then (lack_since F h T) (oldest ms)) its_left ∙ its_lack

    its_reply : noted_since F h T (reply_since F h T m)
        ≡ entries_of_deeds w.core e (session_of_end (own_port rest number h some most s t its w a on k m messages waits)) (deeds_of w.core w.ports k m)
    its_reply =
        let D : List Deed = deeds_of w.core w.ports k m in
        ap (λ d. noted_since F h T d) (deeds_read rest number h some most s t w a its k m (grind arith))
        ∙ (ap (λ (c : Core). noted_as_reply number h (session_now T e number) c (count_of c.journal) D) (core_read rest number h some most s t w a)
        ∙ (ap (λ o. noted_as_reply number h o w.core (count_of w.core.journal) D) (session_read rest number h some most s t w a)
        ∙ reply_told number h (session_of_end (own_port rest number h some most s t its w a on k m messages waits)) w.core a.known.keeps.node
        (count_of w.core.journal) D (deeds_shape rest number h some most s t k m w a.known.keeps (alone_here number h some most (begin_read F) t k m messages
        w a.known.keeps waits).own)))

    pub its_answers : (back later emits : List Entry) → lacking w k m ≡ None
        → back ≡ noted_by_deeds k (deeds_of w.core w.ports k m) (takes_up k m w) ++ later
        → ((handles k m (deeds_of w.core w.ports k m) w).cut ≡ true → later ≡ [])
        → AllByRecursion IsMuteEntry emits → AreUntil [] false (later ++ emits)
        → AnswersOwn (back ++ emits) (noted_since F h T (reply_since F h T m))
    its_answers back later emits room is gone mute until =
        let D : List Deed = deeds_of w.core w.ports k m in
        let N : List Entry = noted_by_deeds k D (takes_up k m w) in
        let reply : List Entry = entries_of_deeds w.core e (session_of_end (own_port rest number h some most s t its w a on k m messages waits)) D in
        let one : AnswersOwn (N ++ (later ++ emits)) reply =
        noted_answers number h (handles k m D w).cut N reply (later ++ emits)
        (deeds_answer e (session_of_end (own_port rest number h some most s t its w a on k m messages waits)) D w.core)
        (noted_so rest number h some most s t its w a on k m messages waits room) (λ on. until) (λ off. until) in
        subst (λ r. AnswersOwn (back ++ emits) r) (sym its_reply)
        (subst (λ es. AnswersOwn es reply) (sym (ap (λ es. es ++ emits) is ∙ append_assoc N later emits)) one)

-- ## A step

pub replied_silent : (F : Core) (h : ℕ) (t : List Entry) (x : Entry) (behind : List Entry) → link_of_turn x ≡ None
    → IsRepliedOwn F h t x behind × IsHeldAlone F h t x behind
replied_silent F h t x behind q = grind arith

module _ (rest : Core) (t : List Entry) (l : Lone) (some : 1 ≤ l.link) (most : l.link ≤ 7) (its : eqb l.number 0 ≡ false → l.number ≡ l.link) (n : Running)
    (c : LoneCause) (i : LinkInput) (comes : lone_input c ≡ Some i) where
  abbrev s : ℕ
  s = session_with l i

  abbrev G : Core
  G = found rest l.number l.link some most s t

  module _ (keeps : LoneKeeps (begin_read G) t l n)
      (all : (begun G t l some most n keeps c i comes).cut ≡ false
      → KnowsAll rest l.number l.link some most s t (begun G t l some most n keeps c i comes)) where
    abbrev B : Work
    B = begun G t l some most n keeps c i comes

    abbrev tail : List Entry
    tail = emits_behind l (ended G t l some most n keeps c i comes)

    abbrev all_of : List Entry
    all_of = (pass_noted G t l some most n keeps c i comes).more

    each_is : (front back : List Entry) (x : Entry) → all_of ≡ front ++ (x ∷ back) → BeginsBehind x back
    each_is front back x q = (let h0 = ((pass_noted G t l some most n keeps c i comes).each front back x q).1 in grind arith)

    turn_is : (front back : List Entry) (x : Entry) → all_of ≡ front ++ (x ∷ back) → B.cut ≡ false → IsTurnSo (ComesTo B) B front x back
        → OrderAt (t ++ (B.entries ++ front)) x (back ++ tail)
        → IsRepliedOwn G l.link (t ++ (B.entries ++ front)) x (back ++ tail) × IsHeldAlone G l.link (t ++ (B.entries ++ front)) x (back ++ tail)
    turn_is front back (entry.Turn f pid message) q on a order =
        let K : KnowsAll rest l.number l.link some most s t a.work = all_at rest l.number l.link some most s t its B a.work (all on) a.keeps in
        let m : Message = (pid, message) in
        let until : AreUntil [] false (a.later ++ tail) =
        none_until a.later tail (emits_mute (end_of_node_alone l.number l.link) _) a.next (λ f2 b2 x2 z.
        each_is (front ++ (entry.Turn f pid message ∷ (noted_by_deeds a.host (deeds_of a.work.core a.work.ports a.host m)
        (takes_up a.host m a.work) ++ f2))) b2 x2
        (q ∙ (ap (λ es. front ++ (entry.Turn f pid message ∷ es)) (a.notes
        ∙ (ap (λ es. noted_by_deeds a.host (deeds_of a.work.core a.work.ports a.host m) (takes_up a.host m a.work) ++ es) z
        ∙ sym (append_assoc (noted_by_deeds a.host (deeds_of a.work.core a.work.ports a.host m) (takes_up a.host m a.work)) f2 (x2 ∷ b2))))
        ∙ sym (append_assoc front (entry.Turn f pid message ∷ (noted_by_deeds a.host (deeds_of a.work.core a.work.ports a.host m)
        (takes_up a.host m a.work) ++ f2)) (x2 ∷ b2))))) in
        subst (λ es. IsRepliedOwn G l.link (t ++ es) (entry.Turn f pid message) (back ++ tail) × Unit {0}) a.entries (
          (
            its_lack rest l.number l.link some most s t its a.work K a.on a.host m a.messages a.waiting ∙ a.room,
            its_answers rest l.number l.link some most s t its a.work K a.on a.host m a.messages a.waiting back a.later tail a.room a.notes a.power
                (emits_mute (end_of_node_alone l.number l.link) _) until,
          ),
          tt,
        )
    turn_is front back (entry.Held f need spare) q on a order =
        let K : KnowsAll rest l.number l.link some most s t a.work = all_at rest l.number l.link some most s t its B a.work (all on) a.keeps in (
          tt,
          (
            order,
            subst (λ es. first_lack_since G l.link (t ++ es) ≡ Some (need, spare)) a.entries
                (its_first_lack rest l.number l.link some most s t its a.work K a.on a.host a.message a.messages a.waiting ∙ a.lacks),
          ),
        )
    turn_is front back _ q on a order = (tt, tt)

    -- Each message that has its turn in a step is replied to as is read, and each that is held lacks what is read.
    pub answered_in_step : (front behind : List Entry) (x : Entry) → noted G t l some most n keeps c i comes ≡ front ++ (x ∷ behind)
        → IsRepliedOwn G l.link (t ++ front) x behind × IsHeldAlone G l.link (t ++ front) x behind
    answered_in_step front behind x q =
        entries_are G t l some most n keeps c i comes
        (λ u y b. OrderAt (t ++ u) y b → IsRepliedOwn G l.link (t ++ u) y b × IsHeldAlone G l.link (t ++ u) y b)
        (λ u y b z order. replied_silent G l.link (t ++ u) y b z) (λ f b y z on a order. turn_is f b y z on a order) front behind x q
        (in_order G t l some most n keeps c i comes front behind x q)
