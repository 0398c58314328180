-- What an end that is up has become when it took a frame, and what the turns of its node leave of it.
use Rattle.lines_told.proofs.Words.{AnswersOnly, Bool, Control, Counts, Due, EndState, Fragment, I, IsData, List, NoRnr, Offer, OnWire, Option, Pair, Rej}
use Rattle.lines_told.proofs.Words.{Rej_due, Rnr, Rnr_due, Rr, Rr_due, Rset, S, Session, SetReady, ShdlcTurn, ShowsAct, Some, Up, [], accepted, acknowledged}
use Rattle.lines_told.proofs.Words.{ahead, answers_more, ap, append-nil, append_assoc, arith, counts_le, false, is_act, is_rnr, length, length-append, offer_up}
use Rattle.lines_told.proofs.Words.{place_of, ready_cases, received, refl, repeated, shdlc_turn, shdlc_turned, subst, sym, taken, taken_I, true, turn-phase, ℕ}
use Rattle.lines_told.proofs.Words.{◌%◌, ◌++◌, ◌+◌, ◌<◌, ◌∙◌, ◌∷◌, ◌≡◌, ◌≤◌, ◌⊎◌}
use Rattle.link_laws.proofs.places.Joined.{place_found}

-- ## What an end that is up and ready has become when it took a frame of its session

-- the frame tells that the place a is accepted, where its number is valid and none below a is told
abbrev pub Answers : ℕ → Control → Type 0
Answers a (I ns nr info) = (nr ≡ a % 8) → ⊥
Answers a (S Rr nr) = (nr ≡ a % 8) → ⊥
Answers a (S Rej nr) = (nr ≡ a % 8) → ⊥
Answers a (S Rnr nr) = (nr ≡ a % 8) → ⊥
Answers a _ = ⊥

-- the frame brings the fragment at the place a
abbrev pub Brings : ℕ → Control → Type 0
Brings a (I ns nr info) = ns ≡ a % 8
Brings a _ = ⊥

pub answers_no_act : (a : ℕ) (c : Control) → is_act c ≡ true → Answers a c → ⊥
answers_no_act a c q h = grind arith

pub brings_no_act : (a : ℕ) (c : Control) → is_act c ≡ true → Brings a c → ⊥
brings_no_act a c q h = grind arith

-- a length accepted that isn't a, where it is told modulo 8
abbrev pub Differs : ℕ → ℕ → Type 0
Differs r a = (r % 8 ≡ a % 8) → ⊥

-- the end e took the frame c and has become f
pub record Took (e f : EndState) (c : Control) : Type 0 where
  pub answers : AnswersOnly f.due
  pub few : length f.due ≤ 1
  pub no_rnr : NoRnr f.due
  pub window : f.session.window ≡ e.session.window
  pub out : f.session.out ≡ e.session.out
  pub acked : e.session.acked ≤ f.session.acked
  pub grows : (a : ℕ) → a ≤ e.session.acked → Answers a c → a < f.session.acked
  pub stays : is_rnr c ≡ false → f.session.acked ≡ e.session.acked
      → (f.timer ≡ e.timer) ⊎ ((f.session.next ≡ f.session.acked) × (f.session.peer_busy ≡ false))
  pub placed : (a : ℕ) → a ≤ length e.session.acc → length e.session.acc ≤ a + 4 → Brings a c
      → ((ds : List Due) × (f.due ≡ Rr_due ∷ ds)) × Differs (length f.session.acc) a

-- what an end that is ready does with a fragment, by cases
received_ready : (P : EndState → Type 0) (e : EndState) (ns : ℕ) (info : Fragment) → e.ready ≡ true
    → (ahead e.session ns ≡ 0 → P (accepted e info))
    → ((ahead e.session ns ≡ 0 → ⊥) → ahead e.session ns < 4 → P e)
    → ((ahead e.session ns ≡ 0 → ⊥) → ahead e.session ns < 4 → P (record e { due = e.due ++ Rej_due ∷ []; session = record e.session { gap_open = true } }))
    → ((ahead e.session ns ≡ 0 → ⊥) → 4 ≤ ahead e.session ns → P (repeated e))
    → P (received e ns info)
received_ready P e ns info ready takes same gap repeat = grind arith

-- a number at or above a that isn't a modulo 8 is above it
above : (a n : ℕ) → a ≤ n → (n % 8 ≡ a % 8 → ⊥) → a < n
above a n i h = grind arith

module _ (e : EndState) (ready : e.ready ≡ true) (due : e.due ≡ []) (up : e.phase ≡ Up) where
  abbrev s : Session
  s = e.session

  -- a frame of a fragment
  took_I : (p n : ℕ) (info : Fragment) → place_of s (n % 8) ≡ Some n → s.acked ≤ n → Took e (taken e (I (p % 8) (n % 8) info)) (I (p % 8) (n % 8) info)
  took_I p n info place low =
      taken_I (λ g. Took e g c) e (p % 8) (n % 8) n info up place
      (received_ready (λ g. Took e g c) f (p % 8) info ready
      (λ z. from (s.acc ++ info ∷ []) (e.due ++ Rr_due ∷ []) (Rr_due ∷ []) false (grind arith) tt (omega arith) tt
      (λ a i j k. (([], refl), λ d. let more : length (s.acc ++ info ∷ []) ≡ length s.acc + 1 = length-append s.acc (info ∷ []) in omega arith)))
      (λ z g. from s.acc e.due [] s.gap_open due tt (omega arith) tt (λ a i j k. absurd (omega arith)))
      (λ z g. from s.acc (e.due ++ Rej_due ∷ []) (Rej_due ∷ []) true (grind arith) tt (omega arith) tt (λ a i j k. absurd (omega arith)))
      (λ z g. grind arith))
    where
      c : Control
      c = I (p % 8) (n % 8) info

      f : EndState
      f = acknowledged e n

      from : (acc : List Fragment) (ds zs : List Due) (gap : Bool) → ds ≡ zs → AnswersOnly zs → length zs ≤ 1 → NoRnr zs
          → ((a : ℕ) → a ≤ length s.acc → length s.acc ≤ a + 4 → (p % 8) ≡ a % 8 → ((rest : List Due) × (zs ≡ Rr_due ∷ rest)) × Differs (length acc) a)
          → Took e (record f { due = ds; session = record f.session { acc = acc; gap_open = gap } }) c
      from acc ds zs gap q answers few none placed = grind arith

  -- a frame on its way to it
  pub took : {r : Session} {x : OnWire} {here : List OnWire} {there : Option (List OnWire)} → IsData x.frame → Pair e.session r (x ∷ here) there
      → Took e (taken e x.frame) x.frame
  took {r} {x} {here} d h = go h.comes.marks h.comes.shows h.comes.counts
    where
      number : (n : ℕ) (ms : List Control) → Counts n (length r.acc) ms → e.session.acked ≤ n → place_of e.session (n % 8) ≡ Some n
      number n ms counts low =
          let high : n ≤ length r.acc = counts_le n (length r.acc) ms counts in
          place_found e.session n low (omega (arith, h.mine.fits)) (omega (arith, h.mine.within, h.mine.most))

      go : (ms : List Control) → ShowsAct (x ∷ here) ms → Counts e.session.acked (length r.acc) ms → Took e (taken e x.frame) x.frame
      go [] shows counts = absurd (let k : IsData (Rset shows.0.0 shows.0.1) = rw shows.0.2 at d in k)
      go (I p n info ∷ ms) shows counts = rw shows.0 (took_I p n info (number n ms counts.1 counts.0) counts.0)
      go (S k n ∷ ms) shows counts = rw shows.0 (let h0 = number n ms counts.1 counts.0 in grind arith)
      go _ shows counts = absurd counts

-- ## What the turns of its node leave of an end that is up

no_rnr_more : (ds : List Due) → NoRnr ds → NoRnr (ds ++ Rr_due ∷ [])
no_rnr_more [] a = tt
no_rnr_more (Rnr_due ∷ ds) a = absurd a
no_rnr_more (_ ∷ ds) a = no_rnr_more ds a

-- e has become f: more may be offered, and an answer more may be due behind the others
pub record Turned (e f : EndState) : Type 0 where
  pub phase : f.phase ≡ e.phase
  pub timer : f.timer ≡ e.timer
  pub window : f.session.window ≡ e.session.window
  pub acked : f.session.acked ≡ e.session.acked
  pub next : f.session.next ≡ e.session.next
  pub busy : f.session.peer_busy ≡ e.session.peer_busy
  pub probe : f.session.probe ≡ e.session.probe
  pub acc : f.session.acc ≡ e.session.acc
  pub more : List Fragment
  pub out : f.session.out ≡ e.session.out ++ more
  pub answers : AnswersOnly e.due → AnswersOnly f.due
  pub no_rnr : NoRnr e.due → NoRnr f.due
  pub first : (d : Due) (ds : List Due) → e.due ≡ d ∷ ds → (es : List Due) × (f.due ≡ d ∷ es)

-- more is offered, and its answers are due still
turned_so : (e : EndState) (ready noted : Bool) (out more : List Fragment) (due : List Due) → out ≡ e.session.out ++ more
    → (AnswersOnly e.due → AnswersOnly due) → (NoRnr e.due → NoRnr due) → ((d : Due) (ds : List Due) → e.due ≡ d ∷ ds → (es : List Due) × (due ≡ d ∷ es))
    → Turned e (record e { ready = ready; due = due; session = record e.session { out = out; answered_rnr = noted } })
turned_so e ready noted out more due is answers no_rnr first = grind arith

-- no more than this is changed
ready_so : (e : EndState) (ready noted : Bool) → Turned e (record e { ready = ready; session = record e.session { answered_rnr = noted } })
ready_so e ready noted = turned_so e ready noted e.session.out [] e.due (sym (append-nil e.session.out)) (λ a. a) (λ a. a) (λ d ds q. (ds, q))

then_turned : {d e f : EndState} → Turned d e → Turned e f → Turned d f
then_turned {d} a b =
    record {
      phase = b.phase ∙ a.phase;
      timer = b.timer ∙ a.timer;
      window = b.window ∙ a.window;
      acked = b.acked ∙ a.acked;
      next = b.next ∙ a.next;
      busy = b.busy ∙ a.busy;
      probe = b.probe ∙ a.probe;
      acc = b.acc ∙ a.acc;
      more = a.more ++ b.more;
      out = b.out ∙ (ap (λ l. l ++ b.more) a.out ∙ append_assoc d.session.out a.more b.more);
      answers = λ k. b.answers (a.answers k);
      no_rnr = λ k. b.no_rnr (a.no_rnr k);
      first = λ x xs q. let g = a.first x xs q in b.first x g.0 g.1;
    }

one_turn : (e : EndState) (t : ShdlcTurn) → e.phase ≡ Up → Turned e (shdlc_turn e t)
one_turn e (Offer fragments) up =
    subst (Turned e) (sym (offer_up e fragments up))
    (turned_so e e.ready e.session.answered_rnr (e.session.out ++ fragments) fragments e.due refl (λ a. a) (λ a. a) (λ d ds q. (ds, q)))
one_turn e (SetReady r) up =
    ready_cases (Turned e) e r (ready_so e e.ready e.session.answered_rnr) (ready_so e r false)
    (turned_so e r false e.session.out [] (e.due ++ Rr_due ∷ []) (sym (append-nil e.session.out)) (answers_more e.due) (no_rnr_more e.due)
    (λ d ds q. (ds ++ Rr_due ∷ [], ap (λ l. l ++ Rr_due ∷ []) q)))

pub turned_up : (ts : List ShdlcTurn) (e : EndState) → e.phase ≡ Up → Turned e (shdlc_turned e ts)
turned_up [] e up = ready_so e e.ready e.session.answered_rnr
turned_up (t ∷ ts) e up = then_turned (one_turn e t up) (turned_up ts (shdlc_turn e t) (turn-phase e t ∙ up))
