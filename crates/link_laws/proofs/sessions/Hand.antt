-- Which RSETs and UAs stand on the two wires, with their numbers and ages, and the timers of the ends that wait for them.
use Rattle.std.proofs.Common.{max}
use Rattle.link_laws.proofs.Words.{Down, LinkState, List, None, NumberedShdlc, OnWire, Option, Rset, Some, Ua, Up, Waiting, [], ap, append-nil, arith, inl, inr}
use Rattle.link_laws.proofs.Words.{older, refl, sym, ℕ, ◌++◌, ◌+◌, ◌<◌, ◌∙◌, ◌∷◌, ◌≡◌, ◌≤◌, ◌⊎◌}
use Rattle.link_laws.proofs.sessions.Wire.{IsData, data_not_rset, data_not_ua, data_behind, rset_young, ua_young, rsets, uas, Numbered, Tail, AfterRset}
use Rattle.link_laws.proofs.sessions.Wire.{behind_ua, live, Young, rsets-append, uas-append, numbered-append, numbered_none, tail_none, tail_push, tail_push_ua}
use Rattle.link_laws.proofs.sessions.Wire.{behind_none, behind_push, behind_push_none, behind_new, behind_rsets, plus_one, rsets-older, uas-older}
use Rattle.link_laws.proofs.sessions.Wire.{numbered_older, tail_older, behind_ua-older, live-older, older_part, young_push, young_later}
use Rattle.link_laws.proofs.Cases.{by_option}

-- what of an end the handshake knows
pub record Peer : Type 0 where
  pub phase : LinkState
  pub timer : ℕ
  pub emitted : ℕ
  pub took : ℕ

abbrev pub peer_of : NumberedShdlc → Peer
peer_of h = record { phase = h.side.phase; timer = h.side.timer; emitted = h.emitted; took = h.took }

abbrev pub number : Peer → ℕ
number p = max p.emitted p.took

-- the RSETs of an end on their way, and the UAs on their way to it, are one frame at most; where there is one the end
-- waits. Such an RSET is as old as the timer, of which k ticks are still to be counted; the UA is at most four ticks younger
abbrev pub OneOut : ℕ → LinkState → ℕ → List ℕ → List ℕ → Type 0
OneOut k p t [] [] = Unit {0}
OneOut k p t (a ∷ []) [] = (p ≡ Waiting) × (a ≡ t + k)
OneOut k p t [] (a ∷ []) = (p ≡ Waiting) × (a ≤ t + k) × (t + k ≤ a + 4)
OneOut k p t _ _ = ⊥

-- an RSET on its way has a number above all that the end took, and above all that it sent, or it is as old as its timer
abbrev pub Ahead : ℕ → Peer → ℕ → List ℕ → Type 0
Ahead k n emitted [] = Unit {0}
Ahead k n emitted (a ∷ r) = (n.took < emitted) × ((n.emitted < emitted) ⊎ ((n.phase ≡ Waiting) × (n.timer + k ≤ a)))

-- a fact where the list isn't empty
abbrev pub Sure : List ℕ → Type 0 → Type 0
Sure [] P = Unit {0}
Sure (a ∷ r) P = P

-- an RSET behind a UA has a number above all that the end sent
abbrev pub Behind : Option (List OnWire) → Type 0 → Type 0
Behind None P = Unit {0}
Behind (Some w) P = Sure (rsets w) P

-- a fact where both ends are in a session, or will be once they took a UA that is on its way
abbrev pub Agrees : Option (List OnWire) → Option (List OnWire) → Type 0 → Type 0
Agrees (Some a) (Some b) P = P
Agrees (Some a) None P = Unit {0}
Agrees None (Some b) P = Unit {0}
Agrees None None P = Unit {0}

pub record Hand (kn kf : ℕ) (n f : Peer) (to_n to_f : List OnWire) (resets : ℕ) : Type 0 where
  pub n_out : OneOut kn n.phase n.timer (rsets to_f) (uas to_n)
  pub f_out : OneOut kf f.phase f.timer (rsets to_n) (uas to_f)
  pub n_numbered : Numbered n.emitted to_f
  pub f_numbered : Numbered f.emitted to_n
  pub n_ahead : Ahead kn n f.emitted (rsets to_n)
  pub f_ahead : Ahead kf f n.emitted (rsets to_f)
  pub n_took : n.took ≤ f.emitted
  pub f_took : f.took ≤ n.emitted
  pub n_sure : Sure (uas to_n) (f.took ≡ n.emitted)
  pub f_sure : Sure (uas to_f) (n.took ≡ f.emitted)
  pub n_behind : Behind (behind_ua to_n) (n.emitted < f.emitted)
  pub f_behind : Behind (behind_ua to_f) (f.emitted < n.emitted)
  pub n_tail : Tail to_n
  pub f_tail : Tail to_f
  pub n_young : Young 4 to_n
  pub f_young : Young 4 to_f
  pub agree : Agrees (live n.phase to_n) (live f.phase to_f) (number n ≡ number f)
  pub n_bound : n.emitted ≤ resets
  pub f_bound : f.emitted ≤ resets

-- nothing is out of the near end: no RSET of it is on its way, and no UA to it
pub record NothingIsOut (to_n to_f : List OnWire) : Type 0 where
  pub no_rset : rsets to_f ≡ []
  pub no_ua : uas to_n ≡ []

-- only the timer of an end moves; where it waits, by the ticks that it counts
pub record OnlyTimePasses (k k' : ℕ) (n n' : Peer) : Type 0 where
  pub phase : n'.phase ≡ n.phase
  pub emitted : n'.emitted ≡ n.emitted
  pub took : n'.took ≡ n.took
  pub timer : n.phase ≡ Waiting → n'.timer + k' ≡ n.timer + k

pub record IsRset (x : OnWire) : Type 0 where
  pub window : ℕ
  pub caps : ℕ
  pub frame : x.frame ≡ Rset window caps

-- an RSET that is sent now, as the next of the link
pub record IsNextRset (r : ℕ) (x : OnWire) : Type 0 where
  pub is : IsRset x
  pub wide : 0 < is.window
  pub age : x.age ≡ 0
  pub number : x.number ≡ r + 1

-- a UA that is sent now
pub record IsNewUa (x : OnWire) : Type 0 where
  pub frame : x.frame ≡ Ua
  pub age : x.age ≡ 0

-- what an RSET in front tells: its sender f waits, and nothing else of it is out
pub record RsetTells (f : Peer) (x : OnWire) (window : ℕ) (to_n to_f : List OnWire) : Type 0 where
  pub out : NothingIsOut to_f to_n
  pub waiting : f.phase ≡ Waiting
  pub timer : f.timer ≤ 4
  pub number : x.number ≡ f.emitted
  pub wide : 0 < window
  pub behind : AfterRset to_n

-- ## Small facts

-- nothing is out of an end that doesn't wait
pub none_out : (k : ℕ) (p : LinkState) (t : ℕ) (r u : List ℕ) → (p ≡ Waiting → ⊥) → OneOut k p t r u → (r ≡ []) × (u ≡ [])
none_out k p t r u n h = grind arith

pub out_none : (k : ℕ) (p : LinkState) (t : ℕ) (r u : List ℕ) → r ≡ [] → u ≡ [] → OneOut k p t r u
out_none k p t r u a b = grind arith

-- an end that doesn't wait has sent less
pub ahead_not_waiting : (k : ℕ) (n : Peer) (emitted a : ℕ) (r : List ℕ) → (n.phase ≡ Waiting → ⊥) → Ahead k n emitted (a ∷ r)
    → (n.took < emitted) × (n.emitted < emitted)
ahead_not_waiting k n emitted a r w h = grind arith

ahead_none : (k : ℕ) (n : Peer) (emitted : ℕ) (r : List ℕ) → r ≡ [] → Ahead k n emitted r
ahead_none k n emitted r e = grind arith

sure_none : (r : List ℕ) (P : Type 0) → r ≡ [] → Sure r P
sure_none r P e = grind arith

sure_from : (r : List ℕ) (P : Type 0) → P → Sure r P
sure_from r P p = grind arith

behind_none_fact : (o : Option (List OnWire)) (P : Type 0) → o ≡ None → Behind o P
behind_none_fact o P e = grind arith

agrees_left_none : (a b : Option (List OnWire)) (P : Type 0) → a ≡ None → Agrees a b P
agrees_left_none a b P e = grind arith

-- two parts are both there or both not
pub data Alike : Option (List OnWire) → Option (List OnWire) → Type 0 where
  NoneAlike : Alike None None
  SomeAlike : (a b : List OnWire) → Alike (Some a) (Some b)

agrees_alike : (a b c d : Option (List OnWire)) (P : Type 0) → Alike a c → Alike b d → Agrees a b P → Agrees c d P
agrees_alike a b c d P e y h = grind arith

rset_of : (x : OnWire) (is : IsRset x) → (rsets (x ∷ []) ≡ x.age ∷ []) × (uas (x ∷ []) ≡ [])
rset_of x is = (rw is.frame refl, rw is.frame refl)

ua_of : (x : OnWire) → x.frame ≡ Ua → (rsets (x ∷ []) ≡ []) × (uas (x ∷ []) ≡ x.age ∷ [])
ua_of x e = (rw e refl, rw e refl)

-- ## What one end does

module _ {kn kf : ℕ} {n f : Peer} {to_n to_f : List OnWire} {r : ℕ} (h : Hand kn kf n f to_n to_f r) where
  -- nothing is out of an end that doesn't wait
  pub idle_out : (n.phase ≡ Waiting → ⊥) → NothingIsOut to_n to_f
  idle_out no_wait = let o = none_out kn n.phase n.timer (rsets to_f) (uas to_n) no_wait h.n_out in record { no_rset = o.0; no_ua = o.1 }

  -- an end that waited longer than a frame lives has nothing out
  pub nothing_out : 8 < n.timer + kn → NothingIsOut to_n to_f
  nothing_out late = go (rsets to_f) (uas to_n) refl refl h.n_out
    where
      go : (rs us : List ℕ) → rsets to_f ≡ rs → uas to_n ≡ us → OneOut kn n.phase n.timer rs us → NothingIsOut to_n to_f
      go [] [] p q g = record { no_rset = p; no_ua = q }
      go (a ∷ []) [] p q g = absurd (let y = rset_young 4 a [] to_f h.f_young p in omega (arith, g.1))
      go [] (a ∷ []) p q g = absurd (let y = ua_young 4 a [] to_n h.n_young q in omega (arith, g.2))
      go (a ∷ b ∷ rs) us p q g = absurd g
      go (a ∷ []) (b ∷ us) p q g = absurd g
      go [] (a ∷ b ∷ us) p q g = absurd g

  -- the near end, which is Up, sends a frame of its session
  pub hand_send : (x : OnWire) → n.phase ≡ Up → IsData x.frame → x.age ≡ 0 → Hand kn kf n f to_n (to_f ++ x ∷ []) r
  hand_send x up d age =
      let none : rsets to_f ≡ [] = (idle_out (λ w. let e = sym up ∙ w in cc)).no_rset in
      let a : rsets (to_f ++ x ∷ []) ≡ rsets to_f = rsets-append to_f x ∙ ap (λ l. rsets to_f ++ l) (grind arith) ∙ append-nil (rsets to_f) in
      let b : uas (to_f ++ x ∷ []) ≡ uas to_f = uas-append to_f x ∙ ap (λ l. uas to_f ++ l) (grind arith) ∙ append-nil (uas to_f) in
      record {
        n_out = rw a h.n_out;
        f_out = rw b h.f_out;
        n_numbered = numbered_none n.emitted (to_f ++ x ∷ []) (a ∙ none);
        f_numbered = h.f_numbered;
        n_ahead = h.n_ahead;
        f_ahead = rw a h.f_ahead;
        n_took = h.n_took;
        f_took = h.f_took;
        n_sure = h.n_sure;
        f_sure = rw b h.f_sure;
        n_behind = h.n_behind;
        f_behind =
            by_option {P = Behind (behind_ua (to_f ++ x ∷ [])) (f.emitted < n.emitted)} (behind_ua to_f)
            (λ e. behind_none_fact (behind_ua (to_f ++ x ∷ [])) (f.emitted < n.emitted) (behind_push_none to_f x (data_not_ua x.frame d) e)) (λ ys e.
            let s = behind_rsets to_f ys e in
            let empty : rsets (ys ++ x ∷ []) ≡ [] =
            rsets-append ys x ∙ ap (λ l. rsets ys ++ l) (grind arith) ∙ append-nil (rsets ys) ∙ sym s.0 ∙ none in
            rw (behind_push to_f ys x e) (sure_none (rsets (ys ++ x ∷ [])) (f.emitted < n.emitted) empty));
        n_tail = h.n_tail;
        f_tail = tail_push to_f x none;
        n_young = h.n_young;
        f_young = young_push 4 to_f x age h.f_young;
        agree = agrees_alike (live n.phase to_n) (live f.phase to_f) (live n.phase to_n) (live f.phase (to_f ++ x ∷ [])) (number n ≡ number f)
            (same (live n.phase to_n)) (alike f.phase (behind_ua to_f) refl) h.agree;
        n_bound = h.n_bound;
        f_bound = h.f_bound;
      }
    where
      same : (o : Option (List OnWire)) → Alike o o
      same None = NoneAlike
      same (Some w) = SomeAlike w w

      alike : (p : LinkState) (o : Option (List OnWire)) → behind_ua to_f ≡ o → Alike (live p to_f) (live p (to_f ++ x ∷ []))
      alike Up o e = SomeAlike to_f (to_f ++ x ∷ [])
      alike Down o e = NoneAlike
      alike Waiting None e = rw (e, behind_push_none to_f x (data_not_ua x.frame d) e) NoneAlike
      alike Waiting (Some ys) e = rw (e, behind_push to_f ys x e) (SomeAlike ys (ys ++ x ∷ []))

  -- only the timer of the near end moves
  pub hand_timer : {kn' : ℕ} {n' : Peer} → OnlyTimePasses kn kn' n n' → Hand kn' kf n' f to_n to_f r
  hand_timer t = grind arith

  -- the near end sends an RSET and waits; nothing was out
  pub hand_ask : (x : OnWire) → NothingIsOut to_n to_f → IsNextRset r x
      → Hand 0 kf (record { phase = Waiting; timer = 0; emitted = r + 1; took = n.took }) f to_n (to_f ++ x ∷ []) (r + 1)
  hand_ask x out new =
      let p : Peer = record { phase = Waiting; timer = 0; emitted = r + 1; took = n.took } in
      let one = rset_of x new.is in
      let zero_age : rsets (to_f ++ x ∷ []) ≡ 0 ∷ [] = rsets-append to_f x ∙ ap (λ l. l ++ rsets (x ∷ [])) out.no_rset ∙ one.0 ∙ ap (λ a. a ∷ []) new.age in
      let b : uas (to_f ++ x ∷ []) ≡ uas to_f = uas-append to_f x ∙ ap (λ l. uas to_f ++ l) one.1 ∙ append-nil (uas to_f) in
      record {
        n_out = rw (zero_age, out.no_ua) (refl, refl);
        f_out = rw b h.f_out;
        n_numbered = numbered-append (r + 1) to_f x (numbered_none (r + 1) to_f out.no_rset) ((rw new.is.frame (new.number, new.wide)), tt);
        f_numbered = h.f_numbered;
        n_ahead = grind arith;
        f_ahead = rw zero_age (omega (arith, h.f_took, h.n_bound), inl (omega (arith, h.f_bound)));
        n_took = h.n_took;
        f_took = omega (arith, h.f_took, h.n_bound);
        n_sure = sure_none (uas to_n) (f.took ≡ r + 1) out.no_ua;
        f_sure = rw b h.f_sure;
        n_behind = behind_none_fact (behind_ua to_n) (r + 1 < f.emitted) (behind_none to_n out.no_ua);
        f_behind = grind arith;
        n_tail = h.n_tail;
        f_tail = tail_push to_f x out.no_rset;
        n_young = h.n_young;
        f_young = young_push 4 to_f x new.age h.f_young;
        agree = agrees_left_none (live Waiting to_n) (live f.phase (to_f ++ x ∷ [])) (number p ≡ number f) (behind_none to_n out.no_ua);
        n_bound = omega arith;
        f_bound = omega (arith, h.f_bound);
      }
    where
      less : f.emitted < r + 1
      less = omega (arith, h.f_bound)

  -- the near end, which waited, gives up; nothing is out
  pub hand_down : NothingIsOut to_n to_f → 4 < n.timer + kn
      → Hand 0 kf (record { phase = Down; timer = 0; emitted = n.emitted; took = n.took }) f to_n to_f r
  hand_down out late =
      let p : Peer = record { phase = Down; timer = 0; emitted = n.emitted; took = n.took } in
      record {
        n_out = out_none 0 Down 0 (rsets to_f) (uas to_n) out.no_rset out.no_ua;
        f_out = h.f_out;
        n_numbered = h.n_numbered;
        f_numbered = h.f_numbered;
        n_ahead = ahead (rsets to_n) refl h.n_ahead;
        f_ahead = h.f_ahead;
        n_took = h.n_took;
        f_took = h.f_took;
        n_sure = h.n_sure;
        f_sure = h.f_sure;
        n_behind = h.n_behind;
        f_behind = h.f_behind;
        n_tail = h.n_tail;
        f_tail = h.f_tail;
        n_young = h.n_young;
        f_young = h.f_young;
        agree = agrees_left_none None (live f.phase to_f) (number p ≡ number f) refl;
        n_bound = h.n_bound;
        f_bound = h.f_bound;
      }
    where
      ahead : (rs : List ℕ) → rsets to_n ≡ rs → Ahead kn n f.emitted rs
          → Ahead 0 (record { phase = Down; timer = 0; emitted = n.emitted; took = n.took }) f.emitted rs
      ahead [] e g = tt
      ahead (a ∷ rs) e g = (g.0, inl (pick g.1))
        where
          pick : (n.emitted < f.emitted) ⊎ ((n.phase ≡ Waiting) × (n.timer + kn ≤ a)) → n.emitted < f.emitted
          pick (inl q) = q
          pick (inr q) = absurd (let y = rset_young 4 a rs to_n h.n_young e in omega (arith, q.1))

  -- the near end, which is Down, has taken the RSET that was sent last, and comes into no session by it
  pub hand_ignore : n.phase ≡ Down → NothingIsOut to_f to_n → Hand kn kf (record n { took = f.emitted }) f to_n to_f r
  hand_ignore down out = grind arith

-- with a frame in front on its way to the near end
module _ {kn kf : ℕ} {n f : Peer} {x : OnWire} {to_n to_f : List OnWire} {r : ℕ} (h : Hand kn kf n f (x ∷ to_n) to_f r) where
  -- the near end takes or loses a frame of a session
  pub hand_past : IsData x.frame → Hand kn kf n f to_n to_f r
  hand_past d =
      let a : rsets (x ∷ to_n) ≡ rsets to_n = grind arith in
      let b : uas (x ∷ to_n) ≡ uas to_n = grind arith in
      record {
        n_out = rw b at h.n_out;
        f_out = rw a at h.f_out;
        n_numbered = h.n_numbered;
        f_numbered = h.f_numbered.1;
        n_ahead = rw a at h.n_ahead;
        f_ahead = h.f_ahead;
        n_took = h.n_took;
        f_took = h.f_took;
        n_sure = rw b at h.n_sure;
        f_sure = h.f_sure;
        n_behind = rw (data_behind x.frame to_n (behind_ua to_n) d) at h.n_behind;
        f_behind = h.f_behind;
        n_tail = let h0 = (Tail to_n) in let h1 = (data_not_rset x.frame d) in grind arith;
        f_tail = h.f_tail;
        n_young = young_later x.age 4 to_n h.n_young.0 h.n_young.1;
        f_young = h.f_young;
        agree = grind arith;
        n_bound = h.n_bound;
        f_bound = h.f_bound;
      }
    where
      same : (o : Option (List OnWire)) → Alike o o
      same None = NoneAlike
      same (Some w) = SomeAlike w w

      alike : (p : LinkState) → behind_ua (x ∷ to_n) ≡ behind_ua to_n → Alike (live p (x ∷ to_n)) (live p to_n)
      alike Up e = SomeAlike (x ∷ to_n) to_n
      alike Waiting e = rw e (same (behind_ua to_n))
      alike Down e = NoneAlike

  -- what a UA in front tells: the near end waits for it, and nothing else of it is out
  pub ua_told : x.frame ≡ Ua → NothingIsOut to_n to_f × (n.phase ≡ Waiting)
  ua_told frame = grind arith

  -- the near end takes the UA that it waited for
  pub hand_up_ua : x.frame ≡ Ua → Hand kn kf (record { phase = Up; timer = 0; emitted = n.emitted; took = n.took }) f to_n to_f r
  hand_up_ua frame =
      let a : rsets (x ∷ to_n) ≡ rsets to_n = rw frame refl in
      let c : behind_ua (x ∷ to_n) ≡ Some to_n = rw frame refl in
      let t = ua_told frame in
      let lives : live n.phase (x ∷ to_n) ≡ Some to_n = rw (t.1, c) refl in
      record {
        n_out = out_none kn Up 0 (rsets to_f) (uas to_n) t.0.no_rset t.0.no_ua;
        f_out = rw a at h.f_out;
        n_numbered = h.n_numbered;
        f_numbered = h.f_numbered.1;
        n_ahead = grind arith;
        f_ahead = h.f_ahead;
        n_took = h.n_took;
        f_took = h.f_took;
        n_sure = sure_none (uas to_n) (f.took ≡ n.emitted) t.0.no_ua;
        f_sure = h.f_sure;
        n_behind = behind_none_fact (behind_ua to_n) (n.emitted < f.emitted) (behind_none to_n t.0.no_ua);
        f_behind = h.f_behind;
        n_tail = rw frame at h.n_tail;
        f_tail = h.f_tail;
        n_young = young_later x.age 4 to_n h.n_young.0 h.n_young.1;
        f_young = h.f_young;
        agree = rw lives at h.agree;
        n_bound = h.n_bound;
        f_bound = h.f_bound;
      }

  -- a UA on its way to the near end is lost
  pub hand_lose_ua : x.frame ≡ Ua → Hand kn kf n f to_n to_f r
  hand_lose_ua frame =
      let a : rsets (x ∷ to_n) ≡ rsets to_n = rw frame refl in
      let t = ua_told frame in
      record {
        n_out = out_none kn n.phase n.timer (rsets to_f) (uas to_n) t.0.no_rset t.0.no_ua;
        f_out = rw a at h.f_out;
        n_numbered = h.n_numbered;
        f_numbered = h.f_numbered.1;
        n_ahead = rw a at h.n_ahead;
        f_ahead = h.f_ahead;
        n_took = h.n_took;
        f_took = h.f_took;
        n_sure = sure_none (uas to_n) (f.took ≡ n.emitted) t.0.no_ua;
        f_sure = h.f_sure;
        n_behind = behind_none_fact (behind_ua to_n) (n.emitted < f.emitted) (behind_none to_n t.0.no_ua);
        f_behind = h.f_behind;
        n_tail = rw frame at h.n_tail;
        f_tail = h.f_tail;
        n_young = young_later x.age 4 to_n h.n_young.0 h.n_young.1;
        f_young = h.f_young;
        agree = agrees_left_none (live n.phase to_n) (live f.phase to_f) (number n ≡ number f) (rw t.1 (behind_none to_n t.0.no_ua));
        n_bound = h.n_bound;
        f_bound = h.f_bound;
      }

-- what an RSET in front tells
pub rset_told : {kn : ℕ} {n f : Peer} {x : OnWire} {to_n to_f : List OnWire} {r : ℕ} → Hand kn 0 n f (x ∷ to_n) to_f r → (is : IsRset x)
    → RsetTells f x is.window to_n to_f
rset_told h is = grind arith

-- an RSET is in front
module _ {n f : Peer} {x : OnWire} {to_n to_f : List OnWire} {r : ℕ} (is : IsRset x) where
  -- the near end, which doesn't wait, takes an RSET: a new session with its number, and UA is sent
  pub hand_up_rset : {y : OnWire} → (n.phase ≡ Waiting → ⊥) → IsNewUa y → Hand 0 0 n f (x ∷ to_n) to_f r
      → Hand 0 0 (record { phase = Up; timer = 0; emitted = n.emitted; took = f.emitted }) f to_n (to_f ++ y ∷ []) r
  hand_up_rset {y} no_wait new h =
      let p : Peer = record { phase = Up; timer = 0; emitted = n.emitted; took = f.emitted } in
      let t = rset_told h is in
      let a : rsets (x ∷ to_n) ≡ x.age ∷ rsets to_n = rw is.frame refl in
      let mine = idle_out h no_wait in
      let empty : uas to_n ≡ [] = sym (rw is.frame refl) ∙ mine.no_ua in
      let gone : to_n ≡ [] = grind arith in
      let d : rsets (to_f ++ y ∷ []) ≡ [] = rsets-append to_f y ∙ ap (λ l. l ++ rsets (y ∷ [])) mine.no_rset ∙ (ua_of y new.frame).0 in
      record {
        n_out = out_none 0 Up 0 (rsets (to_f ++ y ∷ [])) (uas to_n) d empty;
        f_out = rw t.out.no_rset (grind (arith, uas-append, ua_of));
        n_numbered = numbered_none n.emitted (to_f ++ y ∷ []) d;
        f_numbered = h.f_numbered.1;
        n_ahead = ahead_none 0 p f.emitted (rsets to_n) t.out.no_rset;
        f_ahead = ahead_none 0 f n.emitted (rsets (to_f ++ y ∷ [])) d;
        n_took = omega arith;
        f_took = h.f_took;
        n_sure = sure_none (uas to_n) (f.took ≡ n.emitted) empty;
        f_sure = sure_from (uas (to_f ++ y ∷ [])) (f.emitted ≡ f.emitted) refl;
        n_behind = behind_none_fact (behind_ua to_n) (n.emitted < f.emitted) (behind_none to_n empty);
        f_behind = let h0 = behind_new to_f y new.frame t.out.no_ua in grind arith;
        n_tail = tail_none to_n t.out.no_rset;
        f_tail = tail_push to_f y mine.no_rset;
        n_young = young_later x.age 4 to_n h.n_young.0 h.n_young.1;
        f_young = young_push 4 to_f y new.age h.f_young;
        agree = let h0 = (live Up to_n) in let h1 = (live f.phase (to_f ++ y ∷ [])) in let h2 = (number p ≡ number f) in grind arith;
        n_bound = h.n_bound;
        f_bound = h.f_bound;
      }

  -- the near end, which waits, takes an RSET: UA is sent, and it goes on waiting
  pub hand_wait_rset : {y : OnWire} → n.phase ≡ Waiting → IsNewUa y → Hand 0 0 n f (x ∷ to_n) to_f r
      → Hand 0 0 (record { phase = Waiting; timer = n.timer; emitted = n.emitted; took = f.emitted }) f to_n (to_f ++ y ∷ []) r
  hand_wait_rset {y} waiting new h =
      let p : Peer = record { phase = Waiting; timer = n.timer; emitted = n.emitted; took = f.emitted } in
      let t = rset_told h is in
      let b : uas (x ∷ to_n) ≡ uas to_n = rw is.frame refl in
      let d : rsets (to_f ++ y ∷ []) ≡ rsets to_f = rsets-append to_f y ∙ ap (λ l. rsets to_f ++ l) (ua_of y new.frame).0 ∙ append-nil (rsets to_f) in
      let sure : Sure (uas to_n) (f.took ≡ n.emitted) = rw b at h.n_sure in
      record {
        n_out = rw d (rw (waiting, b) at h.n_out);
        f_out = rw t.out.no_rset (grind (arith, uas-append, ua_of));
        n_numbered = numbered-append n.emitted to_f y h.n_numbered (rw new.frame (tt, tt));
        f_numbered = h.f_numbered.1;
        n_ahead = ahead_none 0 p f.emitted (rsets to_n) t.out.no_rset;
        f_ahead = rw d h.f_ahead;
        n_took = omega arith;
        f_took = h.f_took;
        n_sure = sure;
        f_sure = sure_from (uas (to_f ++ y ∷ [])) (f.emitted ≡ f.emitted) refl;
        n_behind = n_behind to_n t.behind;
        f_behind = f_behind (behind_new to_f y new.frame t.out.no_ua);
        n_tail = tail_none to_n t.out.no_rset;
        f_tail = tail_push_ua to_f y new.frame t.out.no_ua h.f_tail;
        n_young = young_later x.age 4 to_n h.n_young.0 h.n_young.1;
        f_young = young_push 4 to_f y new.age h.f_young;
        agree = agree to_n t.behind sure;
        n_bound = h.n_bound;
        f_bound = h.f_bound;
      }
    where
      n_behind : (w : List OnWire) → AfterRset w → Behind (behind_ua w) (n.emitted < f.emitted)
      n_behind w g = grind arith

      f_behind : (behind_ua (to_f ++ y ∷ []) ≡ None) ⊎ ((behind_ua (to_f ++ y ∷ []) ≡ Some []) × (rsets to_f ≡ []))
          → Behind (behind_ua (to_f ++ y ∷ [])) (f.emitted < n.emitted)
      f_behind a = grind arith

      agree : (w : List OnWire) → AfterRset w → Sure (uas w) (f.took ≡ n.emitted)
          → Agrees (live Waiting w) (live f.phase (to_f ++ y ∷ [])) (max n.emitted f.emitted ≡ max f.emitted f.took)
      agree w g s = grind arith

  -- an RSET on its way to the near end is lost
  pub hand_lose_rset : {kn : ℕ} → Hand kn 0 n f (x ∷ to_n) to_f r → Hand kn 0 n f to_n to_f r
  hand_lose_rset {kn} h =
      let t = rset_told h is in
      let still : live f.phase to_f ≡ None = rw t.waiting (behind_none to_f t.out.no_ua) in
      grind arith

-- all frames grow older by a tick that both ends have still to count
pub hand_older : {n f : Peer} {to_n to_f : List OnWire} {r : ℕ} → Young 4 (older to_n) → Young 4 (older to_f)
    → Hand 0 0 n f to_n to_f r → Hand 1 1 n f (older to_n) (older to_f) r
hand_older {n} {f} {to_n} {to_f} yn yf h =
    record {
      n_out = rw (rsets-older to_f, uas-older to_n) (grind arith);
      f_out = rw (rsets-older to_n, uas-older to_f) (grind arith);
      n_numbered = numbered_older n.emitted to_f h.n_numbered;
      f_numbered = numbered_older f.emitted to_n h.f_numbered;
      n_ahead = rw (rsets-older to_n) (grind arith);
      f_ahead = rw (rsets-older to_f) (grind arith);
      n_took = h.n_took;
      f_took = h.f_took;
      n_sure = rw (uas-older to_n) (sure (uas to_n) (f.took ≡ n.emitted) h.n_sure);
      f_sure = rw (uas-older to_f) (sure (uas to_f) (n.took ≡ f.emitted) h.f_sure);
      n_behind = rw (behind_ua-older to_n) (behind (behind_ua to_n) (n.emitted < f.emitted) h.n_behind);
      f_behind = rw (behind_ua-older to_f) (behind (behind_ua to_f) (f.emitted < n.emitted) h.f_behind);
      n_tail = tail_older to_n h.n_tail;
      f_tail = tail_older to_f h.f_tail;
      n_young = yn;
      f_young = yf;
      agree = rw (live-older n.phase to_n, live-older f.phase to_f) (grind arith);
      n_bound = h.n_bound;
      f_bound = h.f_bound;
    }
  where
    sure : (us : List ℕ) (P : Type 0) → Sure us P → Sure (plus_one us) P
    sure us P g = grind arith

    behind : (o : Option (List OnWire)) (P : Type 0) → Behind o P → Behind (older_part o) P
    behind None P g = tt
    behind (Some w) P g = rw (rsets-older w) (sure (rsets w) P g)
