-- The frames of ends and wires, and a bare link with them, are in their ranges behind each thing that happens.
use Rattle.told_laws.proofs.Words.{AllByRecursion, AllByRecursion-get, AllByRecursion-take, AsksReset, Bare, Bool, Control, Due, End, EndEvent, EndState}
use Rattle.told_laws.proofs.Words.{FetchMessage, FewRsets, Fragment, Give, Given, GoesOut, Hold, I, IsByte, Link, LinkEnd, LinkInput, List, Lose, Loss, Message}
use Rattle.told_laws.proofs.Words.{NextFrame, NoInput, None, NumberedEnd, OnWire, Option, Readied, Refused, Reset, Rset, S, Some, Step, Take, Taken, Tick}
use Rattle.told_laws.proofs.Words.{Ticked, Ua, WasLost, WasReset, WireIsLow, [], after_frames, after_input, aged, aged_wire, all_frames, all_mapped, among, ap}
use Rattle.told_laws.proofs.Words.{arith, at, becomes, by_list, by_option, by_test, common_steps, control_due, drop, each-append, ended_by, exchanged, expected}
use Rattle.told_laws.proofs.Words.{fetched, fits, fragment_due, frame_due, frames_of, frames_out, give_refusal, given, happens, happens_at_controller}
use Rattle.told_laws.proofs.Words.{has_input, is_open, is_rset, is_some, length, length-append, link_after, map, nat_lt, not, packet_bytes, packet_count}
use Rattle.told_laws.proofs.Words.{packets_of, parts_of, put, put_all, put_out, refl, sent_all, silent, subst, suc, sym, take, ticks_at_controller, took}
use Rattle.told_laws.proofs.Words.{took_with, true, turn, unless, with_controller, with_ended, zero, ℕ, ◌%◌, ◌++◌, ◌+◌, ◌<◌, ◌∷◌, ◌≡◌, ◌≤◌}
use Rattle.history.specs.Histories.{Cause}

-- ## The frames of an SHDLC end are in their ranges, whatever comes to it

-- ### Fragments and frames

-- at most 29 bytes
abbrev pub IsFragment : List ℕ → Type 0
IsFragment info = AllByRecursion IsByte info × (length info ≤ 29)

-- a frame of a bare link
abbrev pub IsFrame : Control → Type 0
IsFrame (I ns nr info) = (ns < 8) × (nr < 8) × IsFragment info
IsFrame (S kind nr) = nr < 8
IsFrame (Rset window caps) = IsByte window × IsByte caps
IsFrame Ua = Unit {0}
IsFrame _ = ⊥

-- an end that has these fragments to send, this own window and so many tries
pub record RangedFor (out : List Fragment) (own tries : ℕ) : Type 0 where
  pub fragments : AllByRecursion IsFragment out
  pub window : own ≤ 4
  pub few : tries ≤ 5

abbrev pub Ranged : EndState → Type 0
Ranged e = RangedFor e.session.out e.own_window e.tries

-- it has nothing to send, and so many tries
fresh : (out : List Fragment) (own tries made : ℕ) → made ≤ 5 → RangedFor out own tries → RangedFor [] own made
fresh out own tries made few h = record { fragments = tt; window = h.window; few = few }

-- ### Ticks

-- after so many tries an end gives up, where it does
abbrev pub IfTries : Option ℕ → Type 0
IfTries None = Unit {0}
IfTries (Some tries) = tries ≤ 5

-- ### What the node asks for

pub ranged_out : (e : EndState) (fragments : List Fragment) → AllByRecursion IsFragment fragments → Ranged e → Ranged (put_out e fragments)
ranged_out e fragments more h = record { fragments = each-append IsFragment e.session.out fragments h.fragments more; window = h.window; few = h.few }

-- ### What goes out

due_frame : (e : EndState) (due : List Due) (q : Option Fragment) (c : Control) → fragment_due e.session ≡ q → Ranged e
    → frame_due (record e { due = due }) ≡ Some c → IsFrame c
due_frame e (d ∷ due) q c f h is = let same : control_due e d ≡ c = cc in subst IsFrame same (grind arith)
due_frame e [] None c f h is = absurd (let z : None ≡ Some c = rw f at is in cc)
due_frame e [] (Some info) c f h is =
    let same : I (e.session.next % 8) (expected e.session) info ≡ c = cc in
    let frame : IsFrame (I (e.session.next % 8) (expected e.session) info) = (
      omega arith,
      omega arith,
      AllByRecursion-get IsFragment e.session.out e.session.next info h.fragments (grind (arith, common_steps)),
    ) in
    subst IsFrame same frame

pub ranged_after : (n : ℕ) (e : EndState) → Ranged e → Ranged (after_frames n e)
ranged_after zero e h = h
ranged_after (suc n) e h = ranged_after n (fetched e) (grind arith)

pub frames_in : (n : ℕ) (e : EndState) → Ranged e → AllByRecursion IsFrame (frames_of n e)
frames_in zero e h = tt
frames_in (suc n) e h = by_option (frame_due e)
    (λ q. rw q tt)
    (λ c q. rw q (due_frame e e.due (fragment_due e.session) c refl h q, frames_in n (fetched e) (grind arith)))

pub frames_few : (n : ℕ) (e : EndState) → length (frames_of n e) ≤ n
frames_few zero e = omega arith
frames_few (suc n) e = by_option (frame_due e) (λ q. rw q (omega arith)) (λ c q. rw q (omega (arith, frames_few n (fetched e))))

-- ## The frames on a wire are in their ranges, whichever those are

pub drop_each : {X : Type 0} (P : X → Type 0) (n : ℕ) (xs : List X) → AllByRecursion P xs → AllByRecursion P (drop n xs)
drop_each P zero xs h = h
drop_each P (suc n) [] h = tt
drop_each P (suc n) (x ∷ xs) h = drop_each P n xs h.1

pub record FrameIs (P : Control → Type 0) (n : ℕ) (x : OnWire) : Type 0 where
  pub frame : P x.frame
  pub number : x.number ≤ n

pub record WireIs (P : Control → Type 0) (n : ℕ) (w : List OnWire) : Type 0 where
  pub frames : AllByRecursion (FrameIs P n) w
  pub few : length w ≤ 64

module _ (P : Control → Type 0) where
  frame_more : (n k : ℕ) → n ≤ k → (x : OnWire) → FrameIs P n x → FrameIs P k x
  frame_more n k more x h = let l = h.number in record { frame = h.frame; number = omega (arith, l, more) }

  wire_more : (n k : ℕ) (w : List OnWire) → n ≤ k → WireIs P n w → WireIs P k w
  wire_more n k w more h = record { frames = all_mapped OnWire (FrameIs P n) (FrameIs P k) w (frame_more n k more) h.frames; few = h.few }

  fewer : {X : Type 0} (xs : List X) → length (drop 1 xs) ≤ length xs
  fewer xs = grind arith

  one_less : {X : Type 0} (xs : List X) (n : ℕ) → n < length xs → length xs ≤ n + 1 → length (drop 1 xs) ≤ n
  one_less xs n a b = grind arith

  each_pushed : (n : ℕ) (w : List OnWire) (x : OnWire) → AllByRecursion (FrameIs P n) w → FrameIs P n x → AllByRecursion (FrameIs P n) (w ++ x ∷ [])
  each_pushed n [] x h is = (is, tt)
  each_pushed n (y ∷ w) x h is = (h.0, each_pushed n w x h.1 is)

  wire_put : (n : ℕ) (w : List OnWire) (x : OnWire) → WireIs P n w → FrameIs P n x → WireIs P n (fits (w ++ x ∷ []))
  wire_put n w x h is = let h0 = (each_pushed n w x h.frames is) in let h1 = length-append w (x ∷ []) in grind arith

  each_aged : (n : ℕ) (w : List OnWire) → AllByRecursion (FrameIs P n) w → AllByRecursion (FrameIs P n) (aged_wire w)
  each_aged n [] h = tt
  each_aged n (x ∷ w) h = let h0 = each_aged n w h.1 in grind arith

  aged_few : (w : List OnWire) → length (aged_wire w) ≤ length w
  aged_few [] = omega arith
  aged_few (x ∷ w) = by_test (nat_lt x.age 4) (λ q. rw q (omega (arith, aged_few w))) (λ q. rw q (omega (arith, aged_few w)))

  wire_aged : (n : ℕ) (w : List OnWire) → WireIs P n w → WireIs P n (aged_wire w)
  wire_aged n w h = record { frames = each_aged n w h.frames; few = let l = aged_few w in let f = h.few in omega (arith, l, f) }

  -- no number on it is above another bound
  each_within : (n m k : ℕ) (w : List OnWire) → k ≤ m → AllByRecursion (FrameIs P n) w → WireIsLow k w → AllByRecursion (FrameIs P m) w
  each_within n m k [] more h low = tt
  each_within n m k (x ∷ w) more h low = let h0 = each_within n m k w more h.1 low.1 in grind arith

  wire_within : (n m k : ℕ) (w : List OnWire) → k ≤ m → WireIs P n w → WireIsLow k w → WireIs P m w
  wire_within n m k w more h low = record { frames = each_within n m k w more h.frames low; few = h.few }

-- ## A link whose ends are so and whose frames are such, and where no number is above a bound, whichever those are
-- What it is behind each thing that happens to it.

-- an end
pub record NumberedSo (Q : LinkEnd → Type 0) (n : ℕ) (h : NumberedEnd) : Type 0 where
  pub side : Q h.side
  pub emitted : h.emitted ≤ n
  pub took : h.took ≤ n

-- the link, seen from one of its ends
pub record LinkSo (P : Control → Type 0) (Q R : LinkEnd → Type 0) (n : ℕ) (l : Link) : Type 0 where
  pub near : NumberedSo Q n l.controller
  pub far : NumberedSo R n l.host
  pub to_near : WireIs P n l.to_controller
  pub to_far : WireIs P n l.to_host
  pub resets : l.resets ≤ n

-- the link where the controller's end has taken a frame, and these are left
abbrev pub left_with : Link → OnWire → List OnWire → Link
left_with l x xs =
    let m : Link = with_ended (record l { to_controller = xs }) (is_some (ended_by l.controller.side (Take x.frame))) in
    record m { controller = record m.controller { took = took_with l.controller.took x } }

numbered_more : {Q S : LinkEnd → Type 0} (n k : ℕ) (h : NumberedEnd) → n ≤ k → (Q h.side → S h.side) → NumberedSo Q n h → NumberedSo S k h
numbered_more n k h more becomes is = grind arith

module _ (P : Control → Type 0) where
  -- nothing is on its way
  pub no_wire : (n : ℕ) → WireIs P n []
  no_wire n = record { frames = tt; few = omega arith }

  -- ### Bounds

  pub so_more : {Q R S T : LinkEnd → Type 0} (n k : ℕ) (l : Link) → n ≤ k → (Q l.controller.side → S l.controller.side) → (R l.host.side → T l.host.side)
      → LinkSo P Q R n l → LinkSo P S T k l
  so_more n k l more near far h =
      record {
        near = numbered_more n k l.controller more near h.near;
        far = numbered_more n k l.host more far h.far;
        to_near = wire_more P n k l.to_controller more h.to_near;
        to_far = wire_more P n k l.to_host more h.to_far;
        resets = omega (arith, h.resets, more);
      }

  -- no number is above a greater one
  pub so_longer : {Q R : LinkEnd → Type 0} (n k : ℕ) (l : Link) → n ≤ k → LinkSo P Q R n l → LinkSo P Q R k l
  so_longer n k l more h = so_more n k l more (λ s. s) (λ s. s) h

  -- The numbers of a link are bounded by the RSETs that were made on it, whatever it came through.
  pub so_within : {Q R S T : LinkEnd → Type 0} (n k : ℕ) (l : Link) → FewRsets k l → (Q l.controller.side → S l.controller.side)
      → (R l.host.side → T l.host.side) → LinkSo P Q R n l → LinkSo P S T k l
  so_within n k l few near far h =
      let low : l.resets ≤ k = omega (arith, few.made) in
      record {
        near = grind arith;
        far = grind arith;
        to_near = wire_within P n k l.resets l.to_controller low h.to_near few.numbered.to_controller;
        to_far = wire_within P n k l.resets l.to_host low h.to_far few.numbered.to_host;
        resets = low;
      }

  -- ### What is changed

  pub so_exchanged : {Q R : LinkEnd → Type 0} (n : ℕ) (l : Link) → LinkSo P Q R n l → LinkSo P R Q n (exchanged l)
  so_exchanged n l h = record { near = h.far; far = h.near; to_near = h.to_far; to_far = h.to_near; resets = h.resets }

  pub so_aged : {Q R : LinkEnd → Type 0} (n : ℕ) (l : Link) → LinkSo P Q R n l → LinkSo P Q R n (aged l)
  so_aged n l h = record {
    near = h.near;
    far = h.far;
    to_near = wire_aged P n l.to_controller h.to_near;
    to_far = wire_aged P n l.to_host h.to_far;
    resets = h.resets;
  }

  -- the near end has become e
  pub so_with : {Q R S : LinkEnd → Type 0} (n : ℕ) (l : Link) (e : LinkEnd) → S e → LinkSo P Q R n l → LinkSo P S R n (with_controller l e)
  so_with n l e is h = grind arith

  pub so_ended : {Q R : LinkEnd → Type 0} (n : ℕ) (l : Link) (ends : Bool) → LinkSo P Q R n l → LinkSo P Q R n (with_ended l ends)
  so_ended n l ends h = grind arith

  pub so_silent : {Q R S : LinkEnd → Type 0} (n : ℕ) (l : Link) (e : LinkEnd) → S e → LinkSo P Q R n l → LinkSo P S R n (silent l e)
  so_silent n l e is h = grind arith

  -- ### Frames go out

  so_put : {Q R : LinkEnd → Type 0} (n : ℕ) (l : Link) (c : Control) → P c → LinkSo P Q R n l → LinkSo P Q R (n + 1) (put l c)
  so_put {Q} {R} n l c is h = by_test (is_rset c)
      (λ q. let r = h.resets in
      let x : OnWire = record { frame = c; age = 0; number = l.resets + 1 } in
      rw q (record {
        near = record { side = up.near.side; emitted = omega (arith, r); took = up.near.took };
        far = up.far;
        to_near = up.to_near;
        to_far = wire_put P (n + 1) l.to_host x up.to_far (record { frame = is; number = omega (arith, r) });
        resets = omega (arith, r);
      }))
      (λ q. let x : OnWire = record { frame = c; age = 0; number = 0 } in
      rw q (record {
        near = up.near;
        far = up.far;
        to_near = up.to_near;
        to_far = wire_put P (n + 1) l.to_host x up.to_far (record { frame = is; number = omega arith });
        resets = up.resets;
      }))
    where
      up : LinkSo P Q R (n + 1) l
      up = so_longer n (n + 1) l (omega arith) h

  so_puts : {Q R : LinkEnd → Type 0} (cs : List Control) (n : ℕ) (l : Link) → AllByRecursion P cs → LinkSo P Q R n l
      → LinkSo P Q R (n + length cs) (put_all l cs)
  so_puts [] n l is h = so_longer n (n + 0) l (omega arith) h
  so_puts (c ∷ cs) n l is h =
      so_longer ((n + 1) + length cs) (n + length (c ∷ cs)) (put_all (put l c) cs) (omega arith) (so_puts cs (n + 1) (put l c) is.1 (so_put n l c is.0 h))

  -- the near end has become e, and all its frames went out
  pub so_becomes : {Q R S : LinkEnd → Type 0} (n k : ℕ) (l : Link) (e : LinkEnd) → AllByRecursion P (frames_out e) → n + length (frames_out e) ≤ k
      → S (sent_all e) → LinkSo P Q R n l → LinkSo P S R k (becomes l e)
  so_becomes n k l e are few is h =
      so_with k (put_all l (frames_out e)) (sent_all e) is
      (so_longer (n + length (frames_out e)) k (put_all l (frames_out e)) few (so_puts (frames_out e) n l are h))

  -- ### Frames come

  pub so_left : {Q R : LinkEnd → Type 0} (n : ℕ) (l : Link) (x : OnWire) (xs : List OnWire) → l.to_controller ≡ x ∷ xs → LinkSo P Q R n l
      → LinkSo P Q R n (left_with l x xs)
  so_left n l x xs q h = grind arith

  pub so_lost : {Q R : LinkEnd → Type 0} (n : ℕ) (l : Link) (why : Loss) → LinkSo P Q R n l → LinkSo P Q R n (happens_at_controller l (Lose why))
  so_lost n l why h = grind arith

-- ## The ends of a bare link, and what is on its wires, are in their ranges

-- ### Messages

-- a message that a line may send
pub record IsTellable (m : Message) : Type 0 where
  pub pipe : m.0 < 112
  pub some : 0 < length m.1
  pub bytes : AllByRecursion IsByte m.1

take_few : {X : Type 0} (n : ℕ) (xs : List X) → length (take n xs) ≤ n
take_few zero xs = omega arith
take_few (suc n) [] = omega arith
take_few (suc n) (x ∷ xs) = let few = take_few n xs in omega (arith, few)

parts_in : (pipe n : ℕ) (left : List ℕ) → pipe < 112 → AllByRecursion IsByte left → AllByRecursion IsFragment (map packet_bytes (parts_of pipe n left))
parts_in pipe zero left low h = tt
parts_in pipe (suc n) left low h = (
  ((grind arith, AllByRecursion-take IsByte 28 left h), let few = take_few 28 left in omega (arith, few)),
  parts_in pipe n (drop 28 left) low (drop_each IsByte 28 left h),
)

pub fragments_in : (m : Message) → IsTellable m → AllByRecursion IsFragment (map packet_bytes (packets_of m.0 m.1))
fragments_in m h = parts_in m.0 (packet_count (length m.1)) m.1 h.pipe h.bytes

-- ### An end

-- a bare end that was given at most n messages in its session
pub record EndIs (n : ℕ) (e : LinkEnd) : Type 0 where
  pub bare : e.role ≡ Bare
  pub acts : e.acts ≡ []
  pub few : length e.sent ≤ n
  pub ranged : Ranged e.shdlc

end_more : (n k : ℕ) (e : LinkEnd) → n ≤ k → EndIs n e → EndIs k e
end_more n k e more h = let f = h.few in record { bare = h.bare; acts = h.acts; few = omega (arith, f, more); ranged = h.ranged }

end_unless : (n : ℕ) (o : Option Refused) (e f : LinkEnd) → EndIs n e → EndIs n f → EndIs n (unless o e f)
end_unless n o e f p q = grind arith

pub end_took : (n : ℕ) (e : LinkEnd) (c : Control) → IsFrame c → EndIs n e → EndIs n (took e c)
end_took n e c is h = grind arith

pub opens : (n : ℕ) (e : LinkEnd) → EndIs n e → is_open e.role ≡ true
opens n e h = ap is_open h.bare

-- a window that a reset names
abbrev pub IsLowWindow : Option ℕ → Type 0
IsLowWindow None = Unit {0}
IsLowWindow (Some w) = w ≤ 4

pub end_given : (n : ℕ) (e : LinkEnd) (m : Message) → IsTellable m → EndIs n e → EndIs (n + 1) (turn e (Give m))
end_given n e m is h =
    end_unless (n + 1) (give_refusal e m) e (given e m) (end_more n (n + 1) e (omega arith) h) (record {
      bare = h.bare;
      acts = h.acts;
      few = let l = length-append e.sent (m ∷ []) in let f = h.few in omega (arith, l, f);
      ranged = ranged_out e.shdlc (map packet_bytes (packets_of m.0 m.1)) (fragments_in m is) h.ranged;
    })

-- ### The link

-- the link where no number is above n, and no more than so many messages were given to an end in its session
abbrev pub LinkIs : ℕ → ℕ → Link → Type 0
LinkIs most n l = LinkSo IsFrame (EndIs most) (EndIs most) n l

pub link_more : (most all n k : ℕ) (l : Link) → most ≤ all → n ≤ k → LinkIs most n l → LinkIs all k l
link_more most all n k l more_given more h =
    so_more IsFrame n k l more (end_more most all l.controller.side more_given) (end_more most all l.host.side more_given) h

pub link_within : (most n k : ℕ) (l : Link) → FewRsets k l → LinkIs most n l → LinkIs most k l
link_within most n k l few h = so_within IsFrame n k l few (λ s. s) (λ s. s) h

-- all frames that are due at a bare end
pub out_is : (n : ℕ) (e : LinkEnd) → EndIs n e → AllByRecursion IsFrame (frames_out e)
out_is n e h = subst (λ acts. AllByRecursion IsFrame (among 0 acts (all_frames e.shdlc))) (sym h.acts) (frames_in 12 e.shdlc h.ranged)

out_few : (n : ℕ) (e : LinkEnd) → EndIs n e → length (frames_out e) ≤ 12
out_few n e h = subst (λ acts. length (among 0 acts (all_frames e.shdlc)) ≤ 12) (sym h.acts) (frames_few 12 e.shdlc)

end_sent : (n : ℕ) (e : LinkEnd) → EndIs n e → EndIs n (sent_all e)
end_sent n e h = record { bare = h.bare; acts = refl; few = h.few; ranged = ranged_after 12 e.shdlc h.ranged }

-- the controller's end has become e, and all its frames went out
link_becomes : (most n : ℕ) (l : Link) (e : LinkEnd) → EndIs most e → LinkIs most n l → LinkIs most (n + 12) (becomes l e)
link_becomes most n l e is h =
    let few = out_few most e is in so_becomes IsFrame n (n + 12) l e (out_is most e is) (omega (arith, few)) (end_sent most e is) h

link_input : (most n : ℕ) (l : Link) (i : LinkInput) → EndIs most (after_input l.controller.side i) → LinkIs most n l
    → LinkIs most (n + 12) (has_input l i [] GoesOut)
link_input most n l i is h =
    let b : Bool = is_some (ended_by l.controller.side i) in
    link_becomes most n (with_ended l b) (after_input l.controller.side i) is (so_ended IsFrame n l b h)

-- ### What happens at one end

link_taken : (most n : ℕ) (l : Link) → LinkIs most n l → LinkIs most (n + 12) (happens_at_controller l (Step NextFrame (FetchMessage ∷ []) GoesOut))
link_taken most n l h = by_list l.to_controller
    (λ q. rw q
    (so_longer IsFrame n (n + 12) (record l { to_controller = [] }) (omega arith)
    (record { near = h.near; far = h.far; to_near = no_wire IsFrame n; to_far = h.to_far; resets = h.resets })))
    (λ x xs q. let wire : WireIs IsFrame n (x ∷ xs) = subst (WireIs IsFrame n) q h.to_near in
    rw q (link_becomes most n (left_with l x xs) (turn (after_input l.controller.side (Take x.frame)) FetchMessage)
    (grind arith) (so_left IsFrame n l x xs q h)))

pub link_ticked : (most n : ℕ) (l : Link) → LinkIs most n l → LinkIs most (n + 12) (ticks_at_controller l [] GoesOut)
link_ticked most n l h = link_input most n l Tick (grind arith) h

link_held : (most n : ℕ) (held : Bool) (l : Link) → LinkIs most n l → LinkIs most (n + 12) (happens_at_controller l (Step NoInput (Hold held ∷ []) GoesOut))
link_held most n held l h = link_becomes most n l (turn l.controller.side (Hold held)) (grind arith) h

link_given : (most n : ℕ) (m : Message) (l : Link) → IsTellable m → LinkIs most n l
    → LinkIs (most + 1) (n + 12) (happens_at_controller l (Step NoInput (Give m ∷ []) GoesOut))
link_given most n m l is h =
    link_becomes (most + 1) n l (turn l.controller.side (Give m)) (end_given most l.controller.side m is h.near.side)
    (link_more most (most + 1) n n l (omega arith) (omega arith) h)

-- it happens at either end
link_either : (most all n k : ℕ) (l : Link) (e : End) (x : EndEvent) → ((m : Link) → LinkIs most n m → LinkIs all k (happens_at_controller m x))
    → LinkIs most n l → LinkIs all k (happens l (at e x))
link_either most all n k l e x here h = grind arith

-- ### Causes

-- what a cause says is in its range
abbrev pub CanTell : Cause → Type 0
CanTell (Given e m) = IsTellable m
CanTell (WasReset e window) = IsLowWindow window
CanTell _ = Unit {0}

-- how many messages are given
abbrev pub given_by : Cause → ℕ
given_by (Given e m) = 1
given_by _ = 0

pub link_caused : (most n : ℕ) (l : Link) (c : Cause) → CanTell c → LinkIs most n l → LinkIs (most + given_by c) (n + 24) (link_after l c)
link_caused most n l (Given e m) can h =
    so_longer IsFrame (n + 12) (n + 24) _ (omega arith)
    (link_either most (most + 1) n (n + 12) l e (Step NoInput (Give m ∷ []) GoesOut) (λ k g. link_given most n m k can g) h)
link_caused most n l (Taken e) can h =
    link_more most (most + 0) (n + 12) (n + 24) _ (omega arith) (omega arith)
    (link_either most most n (n + 12) l e (Step NextFrame (FetchMessage ∷ []) GoesOut) (link_taken most n) h)
link_caused most n l (WasLost e why) can h =
    link_more most (most + 0) n (n + 24) _ (omega arith) (omega arith)
    (link_either most most n n l e (Lose why) (λ k g. so_lost IsFrame n k why g) h)
link_caused most n l (WasReset e window) can h =
    link_more most (most + 0) (n + 12) (n + 24) _ (omega arith) (omega arith)
    (link_either most most n (n + 12) l e (Step (AsksReset window) [] GoesOut) (λ k g. (link_input most n k (Reset window) (grind arith) g)) h)
link_caused most n l (Readied e ready) can h =
    link_more most (most + 0) (n + 12) (n + 24) _ (omega arith) (omega arith)
    (link_either most most n (n + 12) l e (Step NoInput (Hold (not ready) ∷ []) GoesOut) (link_held most n (not ready)) h)
link_caused most n l Ticked can h =
    let near : Link = ticks_at_controller (aged l) [] GoesOut in
    link_more most (most + 0) ((n + 12) + 12) (n + 24) _ (omega arith) (omega arith)
    (so_exchanged IsFrame ((n + 12) + 12) (ticks_at_controller (exchanged near) [] GoesOut)
    (link_ticked most (n + 12) (exchanged near) (so_exchanged IsFrame (n + 12) near (link_ticked most n (aged l) (so_aged IsFrame n l h)))))
