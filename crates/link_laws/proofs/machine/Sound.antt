-- What is true of an end after any inputs, with the walks over what a frame and a tick do and what each input does to a session.
use Rattle.std.proofs.lemmas.Bool.{leb-true}
use Rattle.std.specs.Prelude.{◌+◌}
use Rattle.link_laws.proofs.Words.{Bool, Cause, Control, Down, EndState, Fragment, I, Kind, LinkEnd, List, Message, None, Option, Peer, Rset, S, Some, Srej, Ua}
use Rattle.link_laws.proofs.Words.{Ua_due, Up, Waiting, [], acknowledged, ap, append-nil, arith, asked_again, drop, false, fragments_of, given_up, if_up}
use Rattle.link_laws.proofs.Words.{in_use, is_some, is_waiting, length, length-append, length-map, map, min, nat_le, need, need_of_all, no_session}
use Rattle.link_laws.proofs.Words.{option_to_list, packet_bytes, packet_count, packets_are_counted, packets_of, place_of, received, received-phase}
use Rattle.link_laws.proofs.Words.{received-sending, refl, reset_with, sent_again, subst, suc, sym, take, take_answer, taken, tick_answer, ticked, true}
use Rattle.link_laws.proofs.Words.{up_with, waiting_from, whole_among, zero, ℕ, ◌++◌, ◌-◌, ◌<◌, ◌∙◌, ◌∷◌, ◌≡◌, ◌≤◌, ◌⊎◌}
use Rattle.shdlc_core.proofs.Histories.{received-accepted, received-acked}
use Rattle.shdlc_core.specs.Machine.{accepted_reset, fragment_accepted, nothing_taken, nothing_ticked}
use Rattle.shdlc_core.specs.declared.answers.Taken.{Taken}
use Rattle.shdlc_core.specs.declared.answers.Ticked.{Ticked}
use Rattle.swp_base.specs.declared.link_terms.Cause.TheVariants.{NoAnswer}
use Rattle.link_laws.proofs.Cases.{by_option, by_phase, by_test}

-- ## What a frame and a tick do to an SHDLC end holds of it, where it holds of each thing that may come of them

-- An I frame and an S frame come to an end that is Up; a frame is passed over; an RSET comes to an end that is Up, that waits and that
-- is Down; and a UA to one that waits.
pub by_taken : (Q : Control → EndState → Taken → Type 0) (e : EndState)
    → ((ns nr : ℕ) (info : Fragment) → e.phase ≡ Up → Q (I ns nr info) (taken e (I ns nr info)) (take_answer e (I ns nr info)))
    → ((kind : Kind) (nr : ℕ) → e.phase ≡ Up → Q (S kind nr) (taken e (S kind nr)) (take_answer e (S kind nr)))
    → ((c : Control) → Q c e nothing_taken)
    → ((w caps : ℕ) → e.phase ≡ Up
    → Q (Rset w caps) (up_with (record e { due = Ua_due ∷ [] }) (min e.own_window (min w 4))) (record nothing_taken { ended = Some Peer; began = true }))
    → ((w caps : ℕ) → e.phase ≡ Waiting → Q (Rset w caps) (record e { due = e.due ++ Ua_due ∷ []; peer_window = min w 4 }) nothing_taken)
    → ((w caps : ℕ) → e.phase ≡ Down
    → Q (Rset w caps) (up_with (record e { due = e.due ++ Ua_due ∷ [] }) (min e.own_window (min w 4))) (record nothing_taken { began = true }))
    → (e.phase ≡ Waiting → Q Ua (accepted_reset e) (record nothing_taken { began = true }))
    → (c : Control) → Q c (taken e c) (take_answer e c)
by_taken Q e fragment supervised passed renews answers begins confirmed c = grind arith

-- Nothing comes of a tick; it counts; an end that is Up sends again, and begins to wait; one that waits asks again, and gives up.
pub by_tick : (Q : EndState → Ticked → Type 0) (e : EndState) → Q e nothing_ticked
    → ((e.phase ≡ Up) ⊎ (e.phase ≡ Waiting) → Q (record e { timer = e.timer + 1 }) nothing_ticked) → (e.phase ≡ Up → Q (sent_again e) nothing_ticked)
    → (e.phase ≡ Up → Q (waiting_from e) (record nothing_ticked { ended = Some NoAnswer })) → (e.phase ≡ Waiting → Q (asked_again e) nothing_ticked)
    → (e.phase ≡ Waiting → Q (given_up e) (record nothing_ticked { gave_up = Some e.tries }))
    → Q (ticked e) (tick_answer e)
by_tick Q e same counted again waits asks gives_up = grind arith

-- ## What each thing that comes to an SHDLC end does to its session: it goes on, ends, begins, or there is none

-- the session goes on: what is sent stays, what is acknowledged and what was accepted grow
pub record GoesOn (e f : EndState) : Type 0 where
  pub was : e.phase ≡ Up
  pub is : f.phase ≡ Up
  pub out : f.session.out ≡ e.session.out
  pub reached : f.session.reached ≡ e.session.reached
  pub low : e.session.acked ≤ f.session.acked
  pub high : f.session.acked ≤ e.session.acked + (f.session.reached + e.session.acked)
  pub within : e.session.acked ≤ e.session.reached → f.session.acked ≤ f.session.reached
  pub more : List Fragment
  pub acc : f.session.acc ≡ e.session.acc ++ more

abbrev pub IsNotUp : EndState → Type 0
IsNotUp e = e.phase ≡ Up → ⊥

-- it is a new session
pub record IsNew (f : EndState) : Type 0 where
  pub is : f.phase ≡ Up
  pub out : f.session.out ≡ []
  pub acc : f.session.acc ≡ []
  pub acked : f.session.acked ≡ 0
  pub reached : f.session.reached ≡ 0

-- an SHDLC end e becomes f; its session ended or not, and one began or not
pub data Shift (e f : EndState) (ended began : Bool) : Type 0 where
  Stays : ended ≡ false → began ≡ false → GoesOn e f → Shift e f ended began
  Ends : ended ≡ true → began ≡ false → e.phase ≡ Up → IsNotUp f → f.session ≡ no_session → Shift e f ended began
  Renews : ended ≡ true → began ≡ true → e.phase ≡ Up → IsNew f → Shift e f ended began
  Begins : ended ≡ false → began ≡ true → IsNotUp e → IsNew f → Shift e f ended began
  Rests : ended ≡ false → began ≡ false → IsNotUp e → IsNotUp f → (e.session ≡ no_session → f.session ≡ no_session) → Shift e f ended began

waiting_not_up : (e : EndState) → e.phase ≡ Waiting → IsNotUp e
waiting_not_up e p u = let z = sym p ∙ u in cc

down_not_up : (e : EndState) → e.phase ≡ Down → IsNotUp e
down_not_up e p u = let z = sym p ∙ u in cc

-- nothing happens
pub same_shift : (e f : EndState) → f ≡ e → Shift e f false false
same_shift e f q =
    by_phase e.phase (λ p.
    rw q
    (Stays refl refl
    (record {
      was = p;
      is = p;
      out = refl;
      reached = refl;
      low = omega arith;
      high = omega arith;
      within = λ i. i;
      more = [];
      acc = sym (append-nil e.session.acc);
    })))
    (λ p. rw q (Rests refl refl (waiting_not_up e p) (waiting_not_up e p) (λ s. s))) (λ p. rw q (Rests refl refl (down_not_up e p) (down_not_up e p) (λ s. s)))

-- what is acknowledged by a valid number
at_place : {e f : EndState} (nr : ℕ) {x : ℕ} (more : List Fragment) → e.phase ≡ Up → f.phase ≡ Up → place_of e.session nr ≡ Some x
    → f.session.out ≡ e.session.out → f.session.reached ≡ e.session.reached → f.session.acked ≡ x → f.session.acc ≡ e.session.acc ++ more → GoesOn e f
at_place nr more p q place out reached acked acc = grind arith

up_I : (e : EndState) (ns nr : ℕ) (info : Fragment) → e.phase ≡ Up → Shift e (taken e (I ns nr info)) false false
up_I e ns nr info up =
    by_option (place_of e.session nr) (λ q. same_shift e (taken e (I ns nr info)) (rw (up, q) refl)) (λ x q.
    let g : EndState = acknowledged e x in
    let s = received-sending g ns info in
    let on : GoesOn e (received g ns info) =
    at_place nr (option_to_list (fragment_accepted g ns info)) up (received-phase g ns info ∙ up) q s.0 s.2
    (received-acked g ns info) (received-accepted g ns info) in
    rw (up, q) (rw up at (Stays refl refl on)))

up_S : (e : EndState) (k : Kind) (nr : ℕ) → e.phase ≡ Up → Shift e (taken e (S k nr)) false false
up_S e k nr up = go k (place_of e.session nr) refl
  where
    nil : e.session.acc ≡ e.session.acc ++ []
    nil = sym (append-nil e.session.acc)

    go : (k : Kind) (o : Option ℕ) → place_of e.session nr ≡ o → Shift e (taken e (S k nr)) false false
    go Srej o q = (same_shift e (taken e (S Srej nr)) (rw up refl))
    go c None q = (same_shift e (taken e (S c nr)) (rw (up, q) refl))
    go _ (Some x) q =
        Stays refl refl (at_place nr [] up (rw (up, q) refl) q (rw (up, q) refl) (rw (up, q) refl) (rw (up, q) refl) (rw (up, q) nil))

-- a frame
pub taken_shift : (e : EndState) (c : Control) → Shift e (taken e c) (is_some (take_answer e c).ended) (take_answer e c).began
taken_shift e c =
    by_taken (λ _ f answer. Shift e f (is_some answer.ended) answer.began) e
    (λ ns nr info p. by (I ns nr info) false false (rw p refl) (rw p refl) (up_I e ns nr info p))
    (λ kind nr p. by (S kind nr) false false (rw p refl) (rw p refl) (up_S e kind nr p)) (λ _. same_shift e e refl)
    (λ _ _ p. Renews refl refl p (record { is = refl; out = refl; acc = refl; acked = refl; reached = refl }))
    (λ _ _ p. Rests refl refl (waiting_not_up e p) (waiting_not_up e p) (λ s. s))
    (λ _ _ p. Begins refl refl (down_not_up e p) (record { is = refl; out = refl; acc = refl; acked = refl; reached = refl }))
    (λ p. Begins refl refl (waiting_not_up e p) (record { is = refl; out = refl; acc = refl; acked = refl; reached = refl })) c
  where
    by : (c : Control) (a b : Bool) → is_some (take_answer e c).ended ≡ a → (take_answer e c).began ≡ b → Shift e (taken e c) a b
        → Shift e (taken e c) (is_some (take_answer e c).ended) (take_answer e c).began
    by c a b p q s = rw (p, q) s

-- a tick
pub ticked_shift : (e : EndState) → Shift e (ticked e) (is_some (tick_answer e).ended) false
ticked_shift e = let h0 = same_shift e e refl in grind arith

-- a reset that isn't refused
pub reset_shift : (e : EndState) (w : ℕ) (cause : Cause) → is_waiting e ≡ false → Shift e (reset_with e w) (is_some (if_up e cause)) false
reset_shift e w cause n = grind arith

-- ## What is true of an end after any inputs

-- ### Messages and their blocks

-- more fragments acknowledged are no fewer messages
pub whole_more : (ms : List Message) (a b : ℕ) → a ≤ b → whole_among ms a ≤ whole_among ms b
whole_more [] a b i = omega arith
whole_more (m ∷ ms) a b i =
    let h0 = nat_le (packet_count (length m.1)) a in let h1 = nat_le (packet_count (length m.1)) b in
    let h2 = whole_more ms (a - packet_count (length m.1)) (b - packet_count (length m.1)) (omega (arith, i)) in grind arith

-- no more than there are
pub whole_few : (ms : List Message) (a : ℕ) → whole_among ms a ≤ length ms
whole_few [] a = omega arith
whole_few (m ∷ ms) a =
    by_test {P = whole_among (m ∷ ms) a ≤ length (m ∷ ms)} (nat_le (packet_count (length m.1)) a)
    (λ p. rw p (omega (arith, whole_few ms (a - packet_count (length m.1))))) (λ p. rw p (omega arith))

pub fragments_count : (m : Message) → length (map packet_bytes (packets_of m.0 m.1)) ≡ packet_count (length m.1)
fragments_count m = length-map (packets_of m.0 m.1) packet_bytes ∙ packets_are_counted m.0 m.1

-- all fragments of the messages that count as acknowledged whole are acknowledged
pub whole_acked_before : (ms : List Message) (a : ℕ) → length (fragments_of (take (whole_among ms a) ms)) ≤ a
whole_acked_before [] a = omega arith
whole_acked_before (m ∷ ms) a =
    by_test {P = length (fragments_of (take (whole_among (m ∷ ms) a) (m ∷ ms))) ≤ a} (nat_le n a) (λ p.
    let l = length-append (map packet_bytes (packets_of m.0 m.1)) (fragments_of (take (whole_among ms (a - n)) ms)) in
    rw p (omega (arith, whole_acked_before ms (a - n), leb-true n a p, l, fragments_count m)))
    (λ p. rw p (omega arith))
  where
    n : ℕ
    n = packet_count (length m.1)

pub need_less : (ms : List Message) (a b : ℕ) → a ≤ b → need_of_all (drop b ms) ≤ need_of_all (drop a ms)
need_less [] a b i = go a b
  where
    go : (a b : ℕ) → need_of_all (drop b []) ≤ need_of_all (drop a [])
    go a b = grind arith
need_less (m ∷ ms) zero zero i = omega arith
need_less (m ∷ ms) zero (suc b) i = let l = need_less ms zero b (omega arith) in omega (arith, l)
need_less (m ∷ ms) (suc a) zero i = absurd (omega (arith, i))
need_less (m ∷ ms) (suc a) (suc b) i = need_less ms a b (omega (arith, i))

-- what a message more needs, where so many of those before it are acknowledged
pub need_more : (ms : List Message) (m : Message) (a : ℕ) → a ≤ length ms → need_of_all (drop a (ms ++ m ∷ [])) ≡ need_of_all (drop a ms) + need m.1
need_more [] m zero i = omega arith
need_more [] m (suc a) i = absurd (omega (arith, i))
need_more (x ∷ ms) m zero i = let l = need_more ms m zero (omega arith) in omega (arith, l)
need_more (x ∷ ms) m (suc a) i = need_more ms m a (omega (arith, i))

-- a message more changes nothing of those before it: not all of its fragments are among those that are there already
pub whole_given : (ms : List Message) (m : Message) (a : ℕ) → 0 < packet_count (length m.1) → a ≤ length (fragments_of ms)
    → whole_among (ms ++ m ∷ []) a ≡ whole_among ms a
whole_given [] m a p i = grind arith
whole_given (x ∷ ms) m a p i =
    by_test {P = whole_among (x ∷ (ms ++ m ∷ [])) a ≡ whole_among (x ∷ ms) a} (nat_le n a)
    (λ q. rw q (ap suc ((whole_given ms m (a - n) p) (omega (arith, i, l))))) (λ q. rw q refl)
  where
    n : ℕ
    n = packet_count (length x.1)

    l : length (fragments_of (x ∷ ms)) ≡ n + length (fragments_of ms)
    l = let z = length-append (map packet_bytes (packets_of x.0 x.1)) (fragments_of ms) in omega (arith, z, fragments_count x)

-- ### An end

-- what is true of its session, its messages and its blocks
pub record Data (e : LinkEnd) : Type 0 where
  pub out : e.shdlc.session.out ≡ fragments_of e.sent
  pub none : IsNotUp e.shdlc → e.shdlc.session ≡ no_session
  pub forgot : IsNotUp e.shdlc → e.sent ≡ []
  pub acked : e.shdlc.session.acked ≤ e.shdlc.session.reached
  pub reached : e.shdlc.session.reached ≤ length e.shdlc.session.out
  pub room : in_use e + e.aside ≤ 128

-- what was sent after a step in which a session ended or not
abbrev pub SentAfter : Bool → LinkEnd → LinkEnd → Type 0
SentAfter true e f = f.sent ≡ []
SentAfter false e f = f.sent ≡ e.sent

fresh : (e f : LinkEnd) → f.sent ≡ [] → f.aside ≡ e.aside → IsNew f.shdlc → Data e → Data f
fresh e f sent aside n h = grind arith

idle : (e f : LinkEnd) → f.sent ≡ [] → f.aside ≡ e.aside → f.shdlc.session ≡ no_session → Data e → Data f
idle e f sent aside s h = grind arith

-- a step keeps all that
pub shifted : (e f : LinkEnd) (ended began : Bool) → Shift e.shdlc f.shdlc ended began → SentAfter ended e f → f.aside ≡ e.aside → Data e → Data f
shifted e f ended began (Stays p q g) sent aside h =
    let len = ap (λ (xs : List (List ℕ)). length xs) g.out in
    let less = need_less e.sent (whole_among e.sent e.shdlc.session.acked) (whole_among e.sent f.shdlc.session.acked)
    (whole_more e.sent e.shdlc.session.acked f.shdlc.session.acked g.low) in
    grind arith
shifted e f ended began (Ends p q up down s) sent aside h = idle e f (subst (λ b. SentAfter b e f) p sent) aside s h
shifted e f ended began (Renews p q up n) sent aside h = fresh e f (subst (λ b. SentAfter b e f) p sent) aside n h
shifted e f ended began (Begins p q down n) sent aside h = fresh e f (subst (λ b. SentAfter b e f) p sent ∙ h.forgot down) aside n h
shifted e f ended began (Rests p q down still s) sent aside h = idle e f (subst (λ b. SentAfter b e f) p sent ∙ h.forgot down) aside (s (h.none down)) h
