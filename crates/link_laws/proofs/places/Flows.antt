-- One sender, its receiver and the wires between them: the marks of frames, what they have to do with each other, and where nothing was
-- lost.
use Rattle.std.proofs.Common.{max}
use mathlib.Core.List.{IsPrefix}
use Rattle.link_laws.proofs.Words.{Act, Clt, Control, Due, Fragment, I, Kind, List, Rej, Rej_due, Rnr_due, Rr, Rr_due, Rset, Rset_due, S, Session, Some, Ua}
use Rattle.link_laws.proofs.Words.{Ua_due, [], ap, append_assoc, arith, false, length, length-append, refl, slice_get, slice_get_within, suc, sym, with_frame}
use Rattle.link_laws.proofs.Words.{zero, ℕ, ◌%◌, ◌++◌, ◌+◌, ◌<◌, ◌∙◌, ◌∷◌, ◌≡◌, ◌≤◌}
use Rattle.link_laws.specs.places.Wire.{OnWire, older}

-- ## The frames on a wire with the places and lengths that their numbers stand for: marks

-- the frame that a mark is on the wire: its numbers modulo 8
abbrev pub reduced : Control → Control
reduced (I p n info) = I (p % 8) (n % 8) info
reduced (S k n) = S k (n % 8)
reduced (Rset w c) = Rset w c
reduced Ua = Ua
reduced (Act a b) = Act a b
reduced Clt = Clt

-- the wire shows these marks
abbrev pub Shows : List OnWire → List Control → Type 0
Shows [] [] = Unit {0}
Shows [] (m ∷ ms) = ⊥
Shows (x ∷ xs) [] = ⊥
Shows (x ∷ xs) (m ∷ ms) = (x.frame ≡ reduced m) × Shows xs ms

-- a mark carries this number accepted
abbrev pub Carries : Control → ℕ → Type 0
Carries (I p n info) k = n ≡ k
Carries (S kind n) k = n ≡ k
Carries _ k = ⊥

-- the numbers accepted that the marks carry don't fall along the wire, and lie from lo to hi
abbrev pub Counts : ℕ → ℕ → List Control → Type 0
Counts lo hi [] = lo ≤ hi
Counts lo hi (I p n info ∷ ms) = (lo ≤ n) × Counts n hi ms
Counts lo hi (S k n ∷ ms) = (lo ≤ n) × Counts n hi ms
Counts lo hi (_ ∷ ms) = ⊥

-- no fragment behind has a place more than three below p
abbrev pub NoneBelow : ℕ → List Control → Type 0
NoneBelow p [] = Unit {0}
NoneBelow p (I q n info ∷ ms) = (p ≤ q + 3) × NoneBelow p ms
NoneBelow p (_ ∷ ms) = NoneBelow p ms

-- each fragment on the wire stands at its place in `out`, and that place is below m and at most four below r
abbrev pub Places : List Fragment → ℕ → ℕ → List Control → Type 0
Places out r m [] = Unit {0}
Places out r m (I p n info ∷ ms) = (r ≤ p + 4) × (p < m) × (slice_get out p ≡ Some info) × NoneBelow p ms × Places out r m ms
Places out r m (_ ∷ ms) = Places out r m ms

-- ### Counts

pub counts_le : (lo hi : ℕ) (ms : List Control) → Counts lo hi ms → lo ≤ hi
counts_le lo hi [] h = h
counts_le lo hi (I p n info ∷ ms) h = omega (arith, counts_le n hi ms h.1, h.0)
counts_le lo hi (S k n ∷ ms) h = omega (arith, counts_le n hi ms h.1, h.0)
counts_le lo hi (_ ∷ ms) h = absurd h

pub counts_lower : (lo lo' hi : ℕ) (ms : List Control) → lo' ≤ lo → Counts lo hi ms → Counts lo' hi ms
counts_lower lo lo' hi [] i h = omega arith
counts_lower lo lo' hi (I p n info ∷ ms) i h = (omega (arith, h.0), h.1)
counts_lower lo lo' hi (S k n ∷ ms) i h = (omega (arith, h.0), h.1)
counts_lower lo lo' hi (_ ∷ ms) i h = absurd h

pub counts_higher : (lo hi hi' : ℕ) (ms : List Control) → hi ≤ hi' → Counts lo hi ms → Counts lo hi' ms
counts_higher lo hi hi' [] i h = omega arith
counts_higher lo hi hi' (I p n info ∷ ms) i h = (h.0, counts_higher n hi hi' ms i h.1)
counts_higher lo hi hi' (S k n ∷ ms) i h = (h.0, counts_higher n hi hi' ms i h.1)
counts_higher lo hi hi' (_ ∷ ms) i h = absurd h

pub counts_push : (lo hi : ℕ) (ms : List Control) (c : Control) → Carries c hi → Counts lo hi ms → Counts lo hi (ms ++ c ∷ [])
counts_push lo hi [] (I p n info) e h = (omega arith, omega arith)
counts_push lo hi [] (S k n) e h = (omega arith, omega arith)
counts_push lo hi [] (_) e h = absurd e
counts_push lo hi (I p n info ∷ ms) c e h = (h.0, counts_push n hi ms c e h.1)
counts_push lo hi (S k n ∷ ms) c e h = (h.0, counts_push n hi ms c e h.1)
counts_push lo hi (_ ∷ ms) c e h = absurd h

-- the first frame may be lost
pub counts_lost : (lo hi : ℕ) (c : Control) (ms : List Control) → Counts lo hi (c ∷ ms) → Counts lo hi ms
counts_lost lo hi (I p n info) ms h = counts_lower n lo hi ms h.0 h.1
counts_lost lo hi (S k n) ms h = counts_lower n lo hi ms h.0 h.1
counts_lost lo hi (_) ms h = absurd h

-- ### Places

pub slice_get-append : {X : Type 0} (xs ys : List X) (k : ℕ) (x : X) → slice_get xs k ≡ Some x → slice_get (xs ++ ys) k ≡ Some x
slice_get-append [] ys k x h = cc
slice_get-append (y ∷ xs) ys zero x h = h
slice_get-append (y ∷ xs) ys (suc k) x h = slice_get-append xs ys k x h

pub places_grow : (out more : List Fragment) (r m : ℕ) (ms : List Control) → Places out r m ms → Places (out ++ more) r m ms
places_grow out more r m [] h = tt
places_grow out more r m (I p n info ∷ ms) h = let h0 = slice_get-append out more p info h.2 in let h1 = places_grow out more r m ms h.4 in grind arith
places_grow out more r m (S k n ∷ ms) h = places_grow out more r m ms h
places_grow out more r m (_ ∷ ms) h = places_grow out more r m ms h

pub places_reach : (out : List Fragment) (r m m' : ℕ) (ms : List Control) → m ≤ m' → Places out r m ms → Places out r m' ms
places_reach out r m m' [] i h = tt
places_reach out r m m' (I p n info ∷ ms) i h = (h.0, omega (arith, h.1), h.2, h.3, places_reach out r m m' ms i h.4)
places_reach out r m m' (_ ∷ ms) i h = places_reach out r m m' ms i h

-- one more was accepted, and no place behind is more than three below it
pub places_accepted : (out : List Fragment) (r m : ℕ) (ms : List Control) → NoneBelow r ms → Places out r m ms → Places out (r + 1) m ms
places_accepted out r m [] b h = tt
places_accepted out r m (I p n info ∷ ms) b h = let h0 = places_accepted out r m ms b.1 h.4 in grind arith
places_accepted out r m (_ ∷ ms) b h = places_accepted out r m ms b h

none_below_push : (p q n : ℕ) (info : Fragment) (ms : List Control) → p ≤ q + 3 → NoneBelow p ms → NoneBelow p (ms ++ I q n info ∷ [])
none_below_push p q n info [] i h = (i, tt)
none_below_push p q n info (I _ _ _ ∷ ms) i h = (h.0, none_below_push p q n info ms i h.1)
none_below_push p q n info (_ ∷ ms) i h = none_below_push p q n info ms i h

-- the fragment at place p may stand on the wire behind all that were sent, which are below p + 4
pub record MayFollow (out : List Fragment) (r m p : ℕ) (info : Fragment) : Type 0 where
  pub is : slice_get out p ≡ Some info
  pub sent : p < m
  pub reach : m ≤ p + 4
  pub accepted : r ≤ p + 4

pub places_push : {out : List Fragment} {r m p : ℕ} {info : Fragment} (n : ℕ) (ms : List Control) → MayFollow out r m p info → Places out r m ms
    → Places out r m (ms ++ I p n info ∷ [])
places_push n [] f h = (f.accepted, f.sent, f.is, tt, tt)
places_push {p = p} {info} n (I q _ _ ∷ ms) f h = (h.0, h.1, h.2, none_below_push q p n info ms (omega (arith, h.1)) h.3, places_push n ms f h.4)
places_push n (_ ∷ ms) f h = places_push n ms f h

none_below_push_S : (p n : ℕ) (k : Kind) (ms : List Control) → NoneBelow p ms → NoneBelow p (ms ++ S k n ∷ [])
none_below_push_S p n k [] h = tt
none_below_push_S p n k (I _ _ _ ∷ ms) h = (h.0, none_below_push_S p n k ms h.1)
none_below_push_S p n k (_ ∷ ms) h = none_below_push_S p n k ms h

pub places_push_S : (out : List Fragment) (r m n : ℕ) (k : Kind) (ms : List Control) → Places out r m ms → Places out r m (ms ++ S k n ∷ [])
places_push_S out r m n k [] h = tt
places_push_S out r m n k (I q _ _ ∷ ms) h = (h.0, h.1, h.2, none_below_push_S q n k ms h.3, places_push_S out r m n k ms h.4)
places_push_S out r m n k (_ ∷ ms) h = places_push_S out r m n k ms h

-- ### Wires

pub shows_push : (wire : List OnWire) (ms : List Control) (c m : Control) → c ≡ reduced m → Shows wire ms → Shows (with_frame wire c) (ms ++ m ∷ [])
shows_push [] [] c m e h = (e, tt)
shows_push [] (_ ∷ _) c m e h = absurd h
shows_push (x ∷ xs) [] c m e h = absurd h
shows_push (x ∷ xs) (_ ∷ ms) c m e h = (h.0, shows_push xs ms c m e h.1)

pub shows_older : (wire : List OnWire) (ms : List Control) → Shows wire ms → Shows (older wire) ms
shows_older [] [] h = tt
shows_older [] (_ ∷ _) h = absurd h
shows_older (x ∷ xs) [] h = absurd h
shows_older (x ∷ xs) (_ ∷ ms) h = (h.0, shows_older xs ms h.1)

-- ### A wire that loses nothing

-- once all marks are taken, the length accepted is m: no place is ahead of what was accepted when it comes
abbrev pub Caught : ℕ → ℕ → List Control → Type 0
Caught r m [] = r ≡ m
Caught r m (I p n info ∷ ms) = (p ≤ r) × Caught (max r (p + 1)) m ms
Caught r m (_ ∷ ms) = Caught r m ms

-- the last number accepted that is on its way, or a where there is none
abbrev pub last_count : ℕ → List Control → ℕ
last_count a [] = a
last_count a (I p n info ∷ ms) = last_count n ms
last_count a (S k n ∷ ms) = last_count n ms
last_count a (_ ∷ ms) = last_count a ms

-- RR and REJ are the only control frames
abbrev pub AcksOnly : List Control → Type 0
AcksOnly [] = Unit {0}
AcksOnly (I p n info ∷ ms) = AcksOnly ms
AcksOnly (S Rr n ∷ ms) = AcksOnly ms
AcksOnly (S Rej n ∷ ms) = AcksOnly ms
AcksOnly (_ ∷ ms) = ⊥

caught_push : (r m p n : ℕ) (info : Fragment) (ms : List Control) → p ≤ m → Caught r m ms → Caught r (max m (p + 1)) (ms ++ I p n info ∷ [])
caught_push r m p n info [] i h = (omega arith, omega arith)
caught_push r m p n info (I q _ _ ∷ ms) i h = (h.0, caught_push (max r (q + 1)) m p n info ms i h.1)
caught_push r m p n info (_ ∷ ms) i h = caught_push r m p n info ms i h

caught_push_S : (r m n : ℕ) (k : Kind) (ms : List Control) → Caught r m ms → Caught r m (ms ++ S k n ∷ [])
caught_push_S r m n k [] h = h
caught_push_S r m n k (I q _ _ ∷ ms) h = (h.0, caught_push_S (max r (q + 1)) m n k ms h.1)
caught_push_S r m n k (_ ∷ ms) h = caught_push_S r m n k ms h

pub last_count_push_I : (a p n : ℕ) (info : Fragment) (ms : List Control) → last_count a (ms ++ I p n info ∷ []) ≡ n
last_count_push_I a p n info [] = refl
last_count_push_I a p n info (I _ k _ ∷ ms) = last_count_push_I k p n info ms
last_count_push_I a p n info (S _ k ∷ ms) = last_count_push_I k p n info ms
last_count_push_I a p n info (_ ∷ ms) = last_count_push_I a p n info ms

pub last_count_push_S : (a n : ℕ) (k : Kind) (ms : List Control) → last_count a (ms ++ S k n ∷ []) ≡ n
last_count_push_S a n k [] = refl
last_count_push_S a n k (I _ j _ ∷ ms) = last_count_push_S j n k ms
last_count_push_S a n k (S _ j ∷ ms) = last_count_push_S j n k ms
last_count_push_S a n k (_ ∷ ms) = last_count_push_S a n k ms

acks_push : (ms : List Control) (c : Control) → AcksOnly (c ∷ []) → AcksOnly ms → AcksOnly (ms ++ c ∷ [])
acks_push [] c e h = e
acks_push (I _ _ _ ∷ ms) c e h = acks_push ms c e h
acks_push (S Rr _ ∷ ms) c e h = acks_push ms c e h
acks_push (S Rej _ ∷ ms) c e h = acks_push ms c e h
acks_push (_ ∷ ms) c e h = absurd h

-- ## What one sender, its receiver and the wires between them have to do with each other at every moment

-- out, the window w, the places a, s and m are the sender's; acc is the receiver's; there are marks on the wire from the
-- sender and on the wire back
pub record Flows (out : List Fragment) (w a s m : ℕ) (acc : List Fragment) (there back : List Control) : Type 0 where
  pub window : w ≤ 4
  pub wide : 0 < w
  pub acked_next : a ≤ s
  pub next_reach : s ≤ m
  pub reach_out : m ≤ length out
  pub reach_window : m ≤ a + w
  pub front : IsPrefix acc out
  pub sent : length acc ≤ m
  pub counts : Counts a (length acc) back
  pub places : Places out (length acc) m there

module _ {out : List Fragment} {w a s m : ℕ} {acc : List Fragment} {there back : List Control} (h : Flows out w a s m acc there back) where
  -- more is offered
  pub flows_put : (more : List Fragment) → Flows (out ++ more) w a s m acc there back
  flows_put more =
      record {
        window = h.window;
        wide = h.wide;
        acked_next = h.acked_next;
        next_reach = h.next_reach;
        reach_out = omega (arith, length-append out more);
        reach_window = h.reach_window;
        front = (h.front.0 ++ more, sym (append_assoc acc h.front.0 more) ∙ ap (λ l. l ++ more) h.front.1);
        sent = h.sent;
        counts = h.counts;
        places = places_grow out more (length acc) m there h.places;
      }

  -- the next fragment is sent
  pub flows_send : (n : ℕ) {info : Fragment} → s < a + w → slice_get out s ≡ Some info
      → Flows out w a (s + 1) (max m (s + 1)) acc (there ++ I s n info ∷ []) back
  flows_send n {info} inside is =
      let within : s < length out = slice_get_within out s info is in
      record {
        window = h.window;
        wide = h.wide;
        acked_next = omega arith;
        next_reach = omega arith;
        reach_out = omega arith;
        reach_window = omega arith;
        front = h.front;
        sent = omega arith;
        counts = h.counts;
        places = places_push n there (grind arith) (places_reach out (length acc) m (max m (s + 1)) there (omega arith) h.places);
      }

  -- the sender answers as a receiver
  pub flows_send_S : (n : ℕ) (k : Kind) → Flows out w a s m acc (there ++ S k n ∷ []) back
  flows_send_S n k =
      record {
        window = h.window;
        wide = h.wide;
        acked_next = h.acked_next;
        next_reach = h.next_reach;
        reach_out = h.reach_out;
        reach_window = h.reach_window;
        front = h.front;
        sent = h.sent;
        counts = h.counts;
        places = places_push_S out (length acc) m n k there h.places;
      }

  -- the receiver makes a frame, with the number that it accepted
  pub flows_answer : (c : Control) → Carries c (length acc) → Flows out w a s m acc there (back ++ c ∷ [])
  flows_answer c e =
      record {
        window = h.window;
        wide = h.wide;
        acked_next = h.acked_next;
        next_reach = h.next_reach;
        reach_out = h.reach_out;
        reach_window = h.reach_window;
        front = h.front;
        sent = h.sent;
        counts = counts_push a (length acc) back c e h.counts;
        places = h.places;
      }

-- a number that comes back is one from the first unacknowledged place to one past the last that was sent
pub flows_number : {out : List Fragment} {w a s m : ℕ} {acc : List Fragment} {there back : List Control} (c : Control) (n : ℕ)
    → Carries c n → Flows out w a s m acc there (c ∷ back) → (a ≤ n) × (n ≤ m) × Counts n (length acc) back
flows_number {acc = acc} {back = back} (I p k info) n e h =
    let fits : k ≤ length acc = counts_le k (length acc) back h.counts.1 in
    (omega (arith, h.counts.0), omega (arith, h.sent), counts_lower k n (length acc) back (omega arith) h.counts.1)
flows_number {acc = acc} {back = back} (S kind k) n e h =
    let fits : k ≤ length acc = counts_le k (length acc) back h.counts.1 in
    (omega (arith, h.counts.0), omega (arith, h.sent), counts_lower k n (length acc) back (omega arith) h.counts.1)
flows_number (_) n e h = absurd e

-- what stands behind a front of a list
front_more : (acc rest : List Fragment) (info : Fragment) → slice_get (acc ++ rest) (length acc) ≡ Some info → IsPrefix (acc ++ info ∷ []) (acc ++ rest)
front_more [] [] info h = cc
front_more [] (x ∷ xs) info h = (xs, let e : info ≡ x = cc in ap (λ y. y ∷ xs) e)
front_more (a ∷ acc) rest info h = let p = front_more acc rest info h in (p.0, ap (λ l. a ∷ l) p.1)

pub front_accept : (acc out : List Fragment) (info : Fragment) → slice_get out (length acc) ≡ Some info → IsPrefix acc out → IsPrefix (acc ++ info ∷ []) out
front_accept acc out info h p = grind (arith, front_more)

-- the receiver accepts the fragment that is first on the wire
pub flows_accept : {out : List Fragment} {w a s m : ℕ} {acc : List Fragment} {there back : List Control} {p n : ℕ} {info : Fragment}
    → Flows out w a s m acc (I p n info ∷ there) back → p ≡ length acc → Flows out w a s m (acc ++ info ∷ []) there back
flows_accept {out} {a = a} {m = m} {acc} {there} {back} {info = info} h e =
    let one : length (acc ++ info ∷ []) ≡ length acc + 1 = length-append acc (info ∷ []) in
    record {
      window = h.window;
      wide = h.wide;
      acked_next = h.acked_next;
      next_reach = h.next_reach;
      reach_out = h.reach_out;
      reach_window = h.reach_window;
      front = front_accept acc out info (rw (← e) h.places.2) h.front;
      sent = omega (arith, h.places.1);
      counts = rw one (counts_higher a (length acc) (length acc + 1) back (omega arith) h.counts);
      places = rw one (places_accepted out (length acc) m there (rw (← e) h.places.3) h.places.4);
    }

-- a frame is taken or lost
pub flows_past : {out : List Fragment} {w a s m : ℕ} {acc : List Fragment} {there back : List Control} {c : Control}
    → Flows out w a s m acc (c ∷ there) back → Flows out w a s m acc there back
flows_past h = grind arith

pub flows_lost_back : {out : List Fragment} {w a s m : ℕ} {acc : List Fragment} {there back : List Control} {c : Control}
    → Flows out w a s m acc there (c ∷ back) → Flows out w a s m acc there back
flows_lost_back {a = a} {acc = acc} {back = back} {c = c} h =
    record {
      window = h.window;
      wide = h.wide;
      acked_next = h.acked_next;
      next_reach = h.next_reach;
      reach_out = h.reach_out;
      reach_window = h.reach_window;
      front = h.front;
      sent = h.sent;
      counts = counts_lost a (length acc) c back h.counts;
      places = h.places;
    }

-- ## One sender, its receiver and the wires between them, where nothing was lost and no RNR was made

-- no RSET or UA waits to be sent
abbrev pub AnswersOnly : List Due → Type 0
AnswersOnly [] = Unit {0}
AnswersOnly (Rset_due ∷ ds) = ⊥
AnswersOnly (Ua_due ∷ ds) = ⊥
AnswersOnly (_ ∷ ds) = AnswersOnly ds

-- no RNR waits to be sent
abbrev pub NoRnr : List Due → Type 0
NoRnr [] = Unit {0}
NoRnr (Rnr_due ∷ ds) = ⊥
NoRnr (_ ∷ ds) = NoRnr ds

pub answers_push : (ds : List Due) (d : Due) → AnswersOnly (d ∷ []) → AnswersOnly ds → AnswersOnly (ds ++ d ∷ [])
answers_push [] d e h = e
answers_push (Rset_due ∷ ds) d e h = absurd h
answers_push (Ua_due ∷ ds) d e h = absurd h
answers_push (Rr_due ∷ ds) d e h = answers_push ds d e h
answers_push (Rej_due ∷ ds) d e h = answers_push ds d e h
answers_push (Rnr_due ∷ ds) d e h = answers_push ds d e h

pub no_rnr_push : (ds : List Due) (d : Due) → NoRnr (ds ++ d ∷ []) → NoRnr ds
no_rnr_push [] d h = tt
no_rnr_push (Rnr_due ∷ ds) d h = absurd h
no_rnr_push (Rset_due ∷ ds) d h = no_rnr_push ds d h
no_rnr_push (Ua_due ∷ ds) d h = no_rnr_push ds d h
no_rnr_push (Rr_due ∷ ds) d h = no_rnr_push ds d h
no_rnr_push (Rej_due ∷ ds) d h = no_rnr_push ds d h

pub rnr_pushed : (ds : List Due) → NoRnr (ds ++ Rnr_due ∷ []) → ⊥
rnr_pushed [] h = h
rnr_pushed (Rnr_due ∷ ds) h = h
rnr_pushed (Rset_due ∷ ds) h = rnr_pushed ds h
rnr_pushed (Ua_due ∷ ds) h = rnr_pushed ds h
rnr_pushed (Rr_due ∷ ds) h = rnr_pushed ds h
rnr_pushed (Rej_due ∷ ds) h = rnr_pushed ds h

pub push_not_empty : (ds : List Due) (d : Due) → ds ++ d ∷ [] ≡ [] → ⊥
push_not_empty [] d h = cc
push_not_empty (x ∷ ds) d h = cc

-- The sender's session, what the receiver accepted and the answers that it has still to send, and the marks on the wires
-- from the sender and back to it: what is on its way will bring the receiver to m, and the sender there.
pub record Whole (s : Session) (acc : List Fragment) (due : List Due) (there back : List Control) : Type 0 where
  pub caught : Caught (length acc) s.reached there
  pub told : due ≡ [] → last_count s.acked back ≡ length acc
  pub free : s.peer_busy ≡ false
  pub acks : AcksOnly back

-- the sender sends the fragment at the place s
pub whole_send : {s s' : Session} {acc : List Fragment} {due : List Due} {there back : List Control} (n : ℕ) (info : Fragment)
    → s.next ≤ s.reached → s'.reached ≡ max s.reached (s.next + 1) → s'.acked ≡ s.acked → s'.peer_busy ≡ s.peer_busy
    → Whole s acc due there back → Whole s' acc due (there ++ I s.next n info ∷ []) back
whole_send {s} {acc = acc} {there = there} n info i reach acked busy h =
    record {
      caught = rw reach (caught_push (length acc) s.reached s.next n info there i h.caught);
      told = rw acked h.told;
      free = busy ∙ h.free;
      acks = h.acks;
    }

-- it answers as a receiver
pub whole_send_S : {s : Session} {acc : List Fragment} {due : List Due} {there back : List Control} (n : ℕ) (k : Kind)
    → Whole s acc due there back → Whole s acc due (there ++ S k n ∷ []) back
whole_send_S {s} {acc} {there = there} n k h =
    record { caught = caught_push_S (length acc) s.reached n k there h.caught; told = h.told; free = h.free; acks = h.acks }

-- the receiver sends a frame, with the length that it accepted
pub whole_answer_I : {s : Session} {acc : List Fragment} {due due' : List Due} {there back : List Control} (p : ℕ) (info : Fragment)
    → Whole s acc due there back → Whole s acc due' there (back ++ I p (length acc) info ∷ [])
whole_answer_I {s} {acc} {back = back} p info h =
    record {
      caught = h.caught;
      told = λ e. last_count_push_I s.acked p (length acc) info back;
      free = h.free;
      acks = acks_push back (I p (length acc) info) tt h.acks;
    }

pub whole_answer_S : {s : Session} {acc : List Fragment} {due due' : List Due} {there back : List Control} (k : Kind)
    → AcksOnly (S k (length acc) ∷ []) → Whole s acc due there back → Whole s acc due' there (back ++ S k (length acc) ∷ [])
whole_answer_S {s} {acc} {back = back} k e h =
    record {
      caught = h.caught;
      told = λ e. last_count_push_S s.acked (length acc) k back;
      free = h.free;
      acks = acks_push back (S k (length acc)) e h.acks;
    }
