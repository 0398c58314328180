-- What is noted of an input, of frames and of an event of a bare link is in its range, but for the messages that came.
use Rattle.std.specs.Prelude.{is_some, not}
use Rattle.told_laws.proofs.Words.{Acked, AllByRecursion, AsksReset, Bool, Control, Controller, Emit, EndEvent, FetchMessage, GaveUp, Give, Given, GoesOut, Got}
use Rattle.told_laws.proofs.Words.{HasTick, Hold, Host, Link, LinkEnd, LinkInput, List, Lost, Message, NamedEnd, NextFrame, NoInput, NumberedEnd, OnWire}
use Rattle.told_laws.proofs.Words.{Option, Readied, Report, Reset, Sent, Take, Taken, Ticked, Took, WasLost, WasReset, [], after_input, aged, aged_entries}
use Rattle.told_laws.proofs.Words.{all_map, all_mapped, anyone, arith, at, by_test, each-append, ended_by, event_entries, event_of, exchanged, frames_out}
use Rattle.told_laws.proofs.Words.{gave_up_by, here_entries, idle, if_so, nat_lt, number_of, put, put_entries, puts_entries, refl, report, rest_entries}
use Rattle.told_laws.proofs.Words.{step_entries, subst, sym, taken_entries, tick_entries, ticks_at_controller, told, told_of, took_with, turn, turn_entries}
use Rattle.told_laws.proofs.Words.{turn_entry, whole_acked, wire_with, with_ended, ℕ, ◌++◌, ◌+◌, ◌∷◌, ◌≡◌, ◌≤◌}
use Rattle.history.specs.Histories.{Cause}
use Rattle.link_laws.proofs.machine.Sound.{whole_few}
use Rattle.link_laws.specs.entries.Entries.{End, Entry}
use Rattle.link_laws.specs.entries.Entries.Entry.{Up}
use Rattle.told_laws.proofs.told.Links.{CanTell, EndIs, FrameIs, IfTries, IsFrame, IsLowWindow, IsTellable, LinkIs, WireIs, end_given, end_took, left_with}
use Rattle.told_laws.proofs.told.Links.{link_more, link_ticked, out_is, so_aged, so_ended, so_exchanged, so_left}

-- ## What is noted of an input and of frames is in its range, whichever frames and messages may be

-- a note has no number above n, a frame that may be, and a message that may be sent or may come
abbrev pub NotedBy : (Control → Type 0) → (Message → Type 0) → (Message → Type 0) → ℕ → Entry → Type 0
NotedBy P S G n (Up who k) = k ≤ n
NotedBy P S G n (GaveUp who tries) = tries ≤ 5
NotedBy P S G n (Acked who k count) = (k ≤ n) × (count ≤ n)
NotedBy P S G n (Got who k m) = (k ≤ n) × G m
NotedBy P S G n (Sent who k m) = (k ≤ n) × S m
NotedBy P S G n (Emit who c) = P c
NotedBy P S G n (Took who c) = P c
NotedBy P S G n (Lost who c why) = P c
NotedBy P S G n _ = Unit {0}

abbrev pub AreFrames : (Control → Type 0) → List OnWire → Type 0
AreFrames P w = AllByRecursion (λ (x : OnWire). P x.frame) w

pub frames_on : (P : Control → Type 0) (n : ℕ) (w : List OnWire) → AllByRecursion (FrameIs P n) w → AreFrames P w
frames_on P n w h = all_mapped OnWire (FrameIs P n) (λ (x : OnWire). P x.frame) w (λ x is. is.frame) h

module _ (P : Control → Type 0) (S G : Message → Type 0) (n : ℕ) where
  abbrev IsNotedOfNoting : Entry → Type 0
  IsNotedOfNoting x = NotedBy P S G n x

  abbrev AreNotedOfNoting : List Entry → Type 0
  AreNotedOfNoting t = AllByRecursion IsNotedOfNoting t

  -- ### Of an input

  so_noted : (b : Bool) (e : Entry) → IsNotedOfNoting e → AreNotedOfNoting (if_so b e)
  so_noted b e p = grind arith

  pub noted_told : (who : End) (k : ℕ) (r : Report) (acked : ℕ) → k ≤ n → acked ≤ n → IfTries r.gave_up → AllByRecursion G r.got
      → AreNotedOfNoting (told who k r acked)
  noted_told who k r acked low few tries got =
      let h2 = all_map G IsNotedOfNoting (Got who k) (λ m is. (low, is)) r.got got in grind arith

  -- ### Of frames

  pub noted_aged : (who : End) (w : List OnWire) → AreFrames P w → AreNotedOfNoting (aged_entries who w)
  noted_aged who [] h = tt
  noted_aged who (x ∷ xs) h = by_test (nat_lt x.age 4) (λ q. rw q (noted_aged who xs h.1)) (λ q. rw q (h.0, noted_aged who xs h.1))

  -- they go out
  pub noted_puts : (who : End) (cs : List Control) (l : Link) → AllByRecursion P cs → AreFrames P l.to_host → AreNotedOfNoting (puts_entries who l cs)
  noted_puts who [] l is h = tt
  noted_puts who (c ∷ cs) l is h =
      let more : AreFrames P (wire_with l c) = each-append (λ (x : OnWire). P x.frame) l.to_host _ h (is.0, tt) in
      each-append IsNotedOfNoting (put_entries who l c) (puts_entries who (put l c) cs) (is.0, grind arith)
      (noted_puts who cs (put l c) is.1 (grind arith))

-- ## What is noted of an event of a bare link is in its range, but for the messages that came

-- of a message that came nothing is said
abbrev AnyMessage : Message → Type 0
AnyMessage m = Unit {0}

-- no number in it is above n
abbrev pub IsNoted : ℕ → Entry → Type 0
IsNoted n x = NotedBy IsFrame IsTellable AnyMessage n x

abbrev pub AreNoted : ℕ → List Entry → Type 0
AreNoted n t = AllByRecursion (IsNoted n) t

noted_more : (n k : ℕ) → n ≤ k → (x : Entry) → IsNoted n x → IsNoted k x
noted_more n k more x h = grind arith

all_more : (n k : ℕ) (t : List Entry) → n ≤ k → AreNoted n t → AreNoted k t
all_more n k t more h = all_mapped Entry (IsNoted n) (IsNoted k) t (noted_more n k more) h

-- ### Of an input

acked_low : (n : ℕ) (e : LinkEnd) → EndIs n e → whole_acked e ≤ n
acked_low n e h = let w = whole_few e.sent e.shdlc.session.acked in let f = h.few in omega (arith, w, f)

noted_input : (n : ℕ) (who : End) (h : NumberedEnd) (i : LinkInput) → h.emitted ≤ n → h.took ≤ n → EndIs n (after_input h.side i)
    → IfTries (gave_up_by h.side i)
    → AreNoted n (told_of who h i)
noted_input n who h i a b is tries =
    noted_told IsFrame IsTellable AnyMessage n who (number_of h) (report h.side i) (whole_acked (after_input h.side i)) (omega (arith, a, b))
    (acked_low n (after_input h.side i) is) tries (anyone AnyMessage (λ m. tt) (report h.side i).got)

-- ### Of the frames that go out

noted_out : (n k : ℕ) (who : End) (cs : List Control) (l : Link) → AllByRecursion IsFrame cs → LinkIs k k l → AreNoted n (puts_entries who l cs)
noted_out n k who cs l is h = noted_puts IsFrame IsTellable AnyMessage n who cs l is (frames_on IsFrame k l.to_host h.to_far.frames)

-- no turn, and the frames go out
noted_rest : (n k : ℕ) (who : End) (l : Link) (e : LinkEnd) → EndIs k e → LinkIs k k l → AreNoted n (rest_entries who l e [] GoesOut)
noted_rest n k who l e is h = noted_out n k who (frames_out e) l (out_is k e is) h

-- ### Steps

noted_sent : (n : ℕ) (who : End) (l : Link) (m : Message) → IsTellable m → LinkIs n n l → AreNoted (n + 1) (step_entries who l NoInput (Give m ∷ []) GoesOut)
noted_sent n who l m is h =
    let e : LinkEnd = turn l.controller.side (Give m) in
    each-append (IsNoted (n + 1)) (turn_entries who (number_of l.controller) l.controller.side (Give m ∷ [])) (puts_entries who l (frames_out e))
    (each-append (IsNoted (n + 1)) (turn_entry who (number_of l.controller) l.controller.side (Give m)) [] (grind arith) tt)
    (noted_out (n + 1) n who (frames_out e) l (out_is (n + 1) e (end_given n l.controller.side m is h.near.side)) h)

noted_held : (n : ℕ) (who : End) (l : Link) (held : Bool) → LinkIs n n l → AreNoted n (step_entries who l NoInput (Hold held ∷ []) GoesOut)
noted_held n who l held h =
    let e : LinkEnd = turn l.controller.side (Hold held) in noted_out n n who (frames_out e) l (out_is n e (grind arith)) h

noted_reset : (n : ℕ) (who : End) (l : Link) (window : Option ℕ) → IsLowWindow window → LinkIs n n l
    → AreNoted n (step_entries who l (AsksReset window) [] GoesOut)
noted_reset n who l window low h =
    let i : LinkInput = Reset window in
    let is : EndIs n (after_input l.controller.side i) = grind arith in
    let m : Link = with_ended l (is_some (ended_by l.controller.side i)) in
    each-append (IsNoted n) (told_of who l.controller i) (rest_entries who m (after_input l.controller.side i) [] GoesOut)
    (noted_input n who l.controller i h.near.emitted h.near.took is tt)
    (noted_rest n n who m (after_input l.controller.side i) is (so_ended IsFrame n l (is_some (ended_by l.controller.side i)) h))

noted_tick : (n : ℕ) (who : End) (l : Link) → LinkIs n n l → AreNoted n (tick_entries who l idle)
noted_tick n who l h =
    let is : EndIs n (after_input l.controller.side HasTick) = grind arith in
    let m : Link = with_ended l (is_some (ended_by l.controller.side HasTick)) in
    each-append (IsNoted n) (told_of who l.controller HasTick) (rest_entries who m (after_input l.controller.side HasTick) [] GoesOut)
    (noted_input n who l.controller HasTick h.near.emitted h.near.took is (grind arith))
    (noted_rest n n who m (after_input l.controller.side HasTick) is (so_ended IsFrame n l (is_some (ended_by l.controller.side HasTick)) h))

noted_taken : (n : ℕ) (who : End) (l : Link) → LinkIs n n l → AreNoted n (step_entries who l NextFrame (FetchMessage ∷ []) GoesOut)
noted_taken n who l h = go l.to_controller refl
  where
    u : List Entry
    u = step_entries who l NextFrame (FetchMessage ∷ []) GoesOut

    go : (w : List OnWire) → l.to_controller ≡ w → AreNoted n u
    go [] q = let none : u ≡ [] = rw q refl in subst (AreNoted n) (sym none) tt
    go (x ∷ xs) q =
        let some : u ≡ taken_entries who l x xs (FetchMessage ∷ []) GoesOut = rw q refl in
        let wire : WireIs IsFrame n (x ∷ xs) = subst (WireIs IsFrame n) q h.to_near in
        let e : LinkEnd = after_input l.controller.side (Take x.frame) in
        let is : EndIs n e = end_took n l.controller.side x.frame wire.frames.0.frame h.near.side in
        let near_end : NumberedEnd = record l.controller { took = took_with l.controller.took x } in
        subst (AreNoted n) (sym some) (
          wire.frames.0.frame,
          each-append (IsNoted n) (told_of who near_end (Take x.frame)) (rest_entries who (left_with l x xs) e (FetchMessage ∷ []) GoesOut)
              (noted_input n who near_end (Take x.frame) h.near.emitted (grind arith) is tt)
              (noted_out n n who (frames_out (turn e FetchMessage)) (left_with l x xs) (out_is n (turn e FetchMessage) (grind arith))
              (so_left IsFrame n l x xs q h)),
        )

-- ### Events

noted_at : (n : ℕ) (l : Link) (e : NamedEnd) (x : EndEvent) → ((who : End) (m : Link) → LinkIs n n m → AreNoted (n + 24) (here_entries who m x)) → LinkIs n n l
    → AreNoted (n + 24) (event_entries l (at e x))
noted_at n l e x here h = by_test e.at_host (λ q. rw q (here Host (exchanged l) (so_exchanged IsFrame n l h))) (λ q. rw q (here Controller l h))

abbrev ticks : End → Link → List Entry
ticks who l = tick_entries who l idle

pub noted_event : (n : ℕ) (l : Link) (c : Cause) → CanTell c → LinkIs n n l → AreNoted (n + 24) (event_entries l (event_of c))
noted_event n l (Given e m) can h = noted_at n l e _ (λ who k g. all_more (n + 1) (n + 24) _ (omega arith) (noted_sent n who k m can g)) h
noted_event n l (Taken e) can h = noted_at n l e _ (λ who k g. all_more n (n + 24) _ (omega arith) (noted_taken n who k g)) h
noted_event n l (WasLost e why) can h = grind arith
noted_event n l (WasReset e window) can h = noted_at n l e _ (λ who k g. all_more n (n + 24) _ (omega arith) (noted_reset n who k window can g)) h
noted_event n l (Readied e ready) can h = noted_at n l e _ (λ who k g. all_more n (n + 24) _ (omega arith) (noted_held n who k (not ready) g)) h
noted_event n l Ticked can h =
    let old : Link = aged l in
    let near : Link = exchanged (ticks_at_controller old [] GoesOut) in
    let one : LinkIs n n old = so_aged IsFrame n l h in
    let two : LinkIs (n + 12) (n + 12) near =
    so_exchanged IsFrame (n + 12) (ticks_at_controller old [] GoesOut)
    (link_more n (n + 12) (n + 12) (n + 12) (ticks_at_controller old [] GoesOut) (omega arith) (omega arith) (link_ticked n n old one)) in (
      tt,
      each-append (IsNoted (n + 24)) (aged_entries Controller l.to_controller) (aged_entries Host l.to_host ++ (ticks Controller old ++ ticks Host near))
          (noted_aged IsFrame IsTellable AnyMessage (n + 24) Controller l.to_controller (frames_on IsFrame n l.to_controller h.to_near.frames))
          (each-append (IsNoted (n + 24)) (aged_entries Host l.to_host) (ticks Controller old ++ ticks Host near)
          (noted_aged IsFrame IsTellable AnyMessage (n + 24) Host l.to_host (frames_on IsFrame n l.to_host h.to_far.frames))
          (each-append (IsNoted (n + 24)) (ticks Controller old) (ticks Host near)
          (all_more n (n + 24) (ticks Controller old) (omega arith) (noted_tick n Controller old one))
          (all_more (n + 12) (n + 24) (ticks Host near) (omega arith) (noted_tick (n + 12) Host near two)))),
    )
