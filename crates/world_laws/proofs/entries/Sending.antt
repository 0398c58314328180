-- Each frame that an end puts on a link is read again from its LPDU, and what an end puts there and gets, over messages and over fragments.
use Rattle.std.proofs.Common.{option_to_list}
use Rattle.world_laws.proofs.Words.{Act, ActEvent, ActTake, Activation, AreSendableTurns, Asked, Bool, Clt, ComesFirst, Control, CoreActs, CoreDeliver}
use Rattle.world_laws.proofs.Words.{CoreEndEvent, CoreIgnore, CoreLink, CoreLose, CoreReset, CoreStop, CoreTurn, CoreTurns, EndState, Fragment, Heard, I}
use Rattle.world_laws.proofs.Words.{IsData, IsDown, IsUpNow, Link, LinkEnd, LinkState, List, Message, Mid, None, Now, Ok, OnWire, Option, Rej, Rnr, Rr, Rset, S}
use Rattle.world_laws.proofs.Words.{Some, Srej, Take, Tells, Turn, Ua, [], act_answer, act_mid, activated, among_now, ap, append-nil, are_taken, arith}
use Rattle.world_laws.proofs.Words.{brought_by, by_option, by_test, control_due, control_of, core_number_of, core_of, core_silent, core_take, core_turned}
use Rattle.world_laws.proofs.Words.{core_turns, counted_is, drop, due_now, emitted_here, emitted_turns, expected, false, fetch_cases, fetched}
use Rattle.world_laws.proofs.Words.{fragment_due-within, fragments_of, frame_due, frames_by, frames_now, frames_of, frames_out, frames_read, given_by, good_of}
use Rattle.world_laws.proofs.Words.{got_by, got_here, got_turns, got_with, heard_end, heard_is, if_up, inl, inr, is_act, is_faulty, is_open, is_rset, is_shdlc}
use Rattle.world_laws.proofs.Words.{is_some, length, length-take, lpdu_of, map, messages_got, mid_counted, most_frames, moved, news, no_fault_first, not}
use Rattle.world_laws.proofs.Words.{number_of, packet_bytes, packet_count, packets_in, packets_of, parts_of, passes, polite, refl, reset_by, reset_refusal}
use Rattle.world_laws.proofs.Words.{reset_with, restart_mid, role_closes, sent_then, slice_get, stopped, subst, suc, sym, take_answer, taken, took, took_closed}
use Rattle.world_laws.proofs.Words.{took_open, took_with, true, turned, turns_mid, zero, ℕ, ◌%◌, ◌*◌, ◌++◌, ◌+◌, ◌/◌, ◌<◌, ◌∙◌, ◌∷◌, ◌≡◌, ◌≤◌, ◌⊎◌}
use Rattle.swp_base.specs.declared.control_frames.Act.TheVariants.{PowerMode, Ready, SyncId}
use Rattle.world_laws.proofs.fragments.Taking.{Accepted, accepts_none, takes_data}

-- ## Each frame that an end puts on a link is read again from its LPDU

-- numbers below 8, and from 1 to 29 bytes in an I frame
abbrev pub IsWritten : Control → Type 0
IsWritten (I ns nr info) = (ns < 8) × (nr < 8) × (1 ≤ length info) × (length info ≤ 29)
IsWritten (S kind nr) = nr < 8
IsWritten _ = Unit {0}

abbrev pub AreWritten : List Control → Type 0
AreWritten [] = Unit {0}
AreWritten (c ∷ cs) = IsWritten c × AreWritten cs

pub written-append : (cs ds : List Control) → AreWritten cs → AreWritten ds → AreWritten (cs ++ ds)
written-append [] ds a b = b
written-append (c ∷ cs) ds a b = (a.0, written-append cs ds a.1 b)

-- ### One frame

eight : (P : ℕ → Type 0) → P 0 → P 1 → P 2 → P 3 → P 4 → P 5 → P 6 → P 7 → (n : ℕ) → n < 8 → P n
eight P a b c d e f g h n i = grind arith

pub read_again : (c : Control) → IsWritten c → control_of (lpdu_of c) ≡ Ok c
read_again (S Rr nr) w = eight (λ n. control_of (lpdu_of (S Rr n)) ≡ Ok (S Rr n)) refl refl refl refl refl refl refl refl nr w
read_again (S Rej nr) w = eight (λ n. control_of (lpdu_of (S Rej n)) ≡ Ok (S Rej n)) refl refl refl refl refl refl refl refl nr w
read_again (S Rnr nr) w = eight (λ n. control_of (lpdu_of (S Rnr n)) ≡ Ok (S Rnr n)) refl refl refl refl refl refl refl refl nr w
read_again (S Srej nr) w = eight (λ n. control_of (lpdu_of (S Srej n)) ≡ Ok (S Srej n)) refl refl refl refl refl refl refl refl nr w
read_again (Act Ready true) w = refl
read_again (Act Ready false) w = refl
read_again (Act (PowerMode power) true) w = refl
read_again (Act (PowerMode power) false) w = refl
read_again (Act (SyncId id) true) w = let q : 256 * (id / 256) + id % 256 ≡ id = omega arith in rw q refl
read_again (Act (SyncId id) false) w = let q : 256 * (id / 256) + id % 256 ≡ id = omega arith in rw q refl
read_again (I ns nr info) w = grind arith
read_again _ w = refl

-- ### The frames of an end

-- a fragment of a message
abbrev pub IsShort : Fragment → Type 0
IsShort info = (1 ≤ length info) × (length info ≤ 29)

abbrev pub AreShort : List Fragment → Type 0
AreShort [] = Unit {0}
AreShort (x ∷ xs) = IsShort x × AreShort xs

short-append : (xs ys : List Fragment) → AreShort xs → AreShort ys → AreShort (xs ++ ys)
short-append [] ys a b = b
short-append (x ∷ xs) ys a b = (a.0, short-append xs ys a.1 b)

short_parts : (pipe n : ℕ) (left : List ℕ) → AreShort (map packet_bytes (parts_of pipe n left))
short_parts pipe zero left = tt
short_parts pipe (suc n) left =
    let q = length-take 28 left in ((omega arith, omega (arith, q)), short_parts pipe n (drop 28 left))

short_fragments : (ms : List Message) → AreShort (fragments_of ms)
short_fragments [] = tt
short_fragments (m ∷ ms) =
    short-append (map packet_bytes (packets_of m.0 m.1)) (fragments_of ms) (short_parts m.0 (packet_count (length m.1)) m.1) (short_fragments ms)

short_at : (xs : List Fragment) (i : ℕ) (x : Fragment) → AreShort xs → slice_get xs i ≡ Some x → IsShort x
short_at [] i x a q = cc
short_at (y ∷ xs) zero x a q = let e : y ≡ x = (let z : Some y ≡ Some x = q in cc) in subst IsShort e a.0
short_at (y ∷ xs) (suc i) x a q = short_at xs i x a.1 q

record Next (e : EndState) (c : Control) : Type 0 where
  written : IsWritten c
  short : AreShort (fetched e).session.out

next_written : (e : EndState) (c : Control) → AreShort e.session.out → frame_due e ≡ Some c → Next e c
next_written e c a is =
    let h = fetch_cases (λ f o. o ≡ Some c → IsWritten c × AreShort f.session.out) e
    (λ d ds p n. (subst IsWritten (same (control_due e d) c n) (grind arith), a))
    (λ p q n. cc)
    (λ info p q n.
    let s = short_at e.session.out e.session.next info a (fragment_due-within e.session info q).1 in
    (subst IsWritten (same (I (e.session.next % 8) (expected e.session) info) c n) (omega arith, omega arith, s.0, s.1), a)) is in
    record { written = h.0; short = h.1 }
  where
    same : (k m : Control) → Some k ≡ Some m → k ≡ m
    same k m q = cc

frames_written : (n : ℕ) (e : EndState) → AreShort e.session.out → AreWritten (frames_of n e)
frames_written zero e a = tt
frames_written (suc n) e a = by_option (frame_due e)
    (λ q. rw q tt)
    (λ c q. let h = next_written e c a q in rw q (h.written, frames_written n (fetched e) h.short))

-- what goes out of an end with this frame of activation
pub out_is : (o : Option Activation) (g : LinkEnd) (s : EndState) → g.acts ≡ due_now o → g.shdlc ≡ s → frames_out g ≡ frames_now o ++ frames_of most_frames s
out_is o g s acts is = let h0 = due_now o in let h1 = among_now o (frames_of most_frames s) in grind arith

-- what goes out of an end over messages
pub out_written : (o : Option Activation) (g : LinkEnd) → Mid o g → AreWritten (frames_out g)
out_written o g h =
    let short : AreShort g.shdlc.session.out = subst AreShort (sym h.says.out) (short_fragments g.sent) in
    subst AreWritten (sym (out_is o g g.shdlc h.acts refl))
    (written-append (frames_now o) (frames_of most_frames g.shdlc) (grind arith) (frames_written most_frames g.shdlc short))

-- ### Both sides

abbrev pub BothWritten : List (Bool × Control) → Type 0
BothWritten [] = Unit {0}
BothWritten (f ∷ fs) = IsWritten f.1 × BothWritten fs

pub both-append : (fs gs : List (Bool × Control)) → BothWritten fs → BothWritten gs → BothWritten (fs ++ gs)
both-append [] gs a b = b
both-append (f ∷ fs) gs a b = (a.0, both-append fs gs a.1 b)

pub both_by : (b : Bool) (cs : List Control) → AreWritten cs → BothWritten (frames_by b cs)
both_by b [] a = tt
both_by b (c ∷ cs) a = (a.0, both_by b cs a.1)

-- they are read again
pub all_read : (fs : List (Bool × Control)) → BothWritten fs → frames_read (map (λ f. (f.0, lpdu_of f.1)) fs) ≡ fs
all_read [] a = refl
all_read (f ∷ fs) a = rw (read_again f.1 a.0, all_read fs a.1) refl

-- ## What an end puts on the link in a step, and what it gets, over messages and over fragments

-- ### What comes with a frame

-- messages with the number of their session
abbrev pub numbered : ℕ → List Message → List (ℕ × ℕ × List ℕ)
numbered n messages = map (λ m. (n, m.0, m.1)) messages

abbrev pub brought : List Fragment → Option Fragment → List Message
brought acc None = []
brought acc (Some info) = brought_by acc info

drop_all : {X : Type 0} (xs : List X) → drop (length xs) xs ≡ []
drop_all [] = refl
drop_all (x ∷ xs) = drop_all xs

drop_none : {X : Type 0} (n : ℕ) → drop {A = X} n [] ≡ []
drop_none n = grind arith

-- where nothing more was accepted, or the session is new, there is no news
no_news : (e : EndState) (q : EndState) → (q.session.acc ≡ e.session.acc) ⊎ (q.session.acc ≡ []) → news e.session q ≡ []
no_news e q (inl a) = rw a (drop_all (messages_got e.session))
no_news e q (inr a) = rw a (drop_none (length (messages_got e.session)))

-- RSET and UA
handshake : (e : EndState) (c : Control) → (IsData c → ⊥)
    → (((taken e c).session.acc ≡ e.session.acc) ⊎ ((taken e c).session.acc ≡ [])) × ((take_answer e c).accepted ≡ None)
handshake e c d = grind arith

-- the news of a frame that can be joined is what the fragment brings that is accepted
news_is : (e : EndState) (c : Control) → is_faulty (taken e c).session ≡ false
    → news e.session (taken e c) ≡ brought e.session.acc (take_answer e c).accepted
news_is e c sound = kinds c sound
  where
    quiet : (c : Control) → ((taken e c).session.acc ≡ e.session.acc) ⊎ ((taken e c).session.acc ≡ []) → (take_answer e c).accepted ≡ None
        → news e.session (taken e c) ≡ brought e.session.acc (take_answer e c).accepted
    quiet c a q = no_news e (taken e c) a ∙ ap (brought e.session.acc) (sym q)

    negated : (b : Bool) → not b ≡ false → b ≡ true
    negated b q = grind arith

    joined : (c : Control) → IsData c → is_faulty (taken e c).session ≡ false → news e.session (taken e c) ≡ brought e.session.acc (take_answer e c).accepted
    joined c d sound = by e.phase refl
      where
        up : (o : Option Fragment) → (take_answer e c).accepted ≡ o → Accepted o e (taken e c)
            → news e.session (taken e c) ≡ brought e.session.acc (take_answer e c).accepted
        up None q a = quiet c (inl a.acc) q
        up (Some info) q a =
            let joined : List Fragment → List Message = λ fragments. good_of (given_by [] (packets_in fragments)) in
            let all : are_taken [] (packets_in (e.session.acc ++ info ∷ [])) ≡ true = grind arith in
            ap (λ x. drop (length (joined e.session.acc)) (joined x)) a.acc.0 ∙ (sym (rw all refl) ∙ ap (brought e.session.acc) (sym q))

        by_answer : (o : Option Fragment) → (take_answer e c).accepted ≡ o → Accepted (take_answer e c).accepted e (taken e c)
            → news e.session (taken e c) ≡ brought e.session.acc (take_answer e c).accepted
        by_answer o q a = let P : Option Fragment → Type 0 = λ z. Accepted z e (taken e c) in up o q (subst P q a)

        by : (p : LinkState) → e.phase ≡ p → news e.session (taken e c) ≡ brought e.session.acc (take_answer e c).accepted
        by IsUpNow p = by_answer (take_answer e c).accepted refl (takes_data e c p d)
        by _ p =
            let no_up : e.phase ≡ IsUpNow → ⊥ = λ u. let z = sym p ∙ u in cc in
            quiet c (inl (ap (λ (s : EndState). s.session.acc) (passes e c d no_up).0)) (accepts_none e c no_up)

    kinds : (c : Control) → is_faulty (taken e c).session ≡ false → news e.session (taken e c) ≡ brought e.session.acc (take_answer e c).accepted
    kinds (Rset w x) sound = let h = handshake e (Rset w x) (λ d. d) in quiet (Rset w x) h.0 h.1
    kinds Ua sound = let h = handshake e Ua (λ d. d) in quiet Ua h.0 h.1
    kinds c sound = joined c tt sound

-- ### A frame is taken

abbrev pub got_now : Link → OnWire → List (ℕ × ℕ × List ℕ)
got_now l x = numbered (number_of (record l.controller { took = took_with l.controller.took x })) (got_by l.controller.side (Take x.frame))

-- what goes out of the controller's end and what it gets in a step is what these events send and give over fragments
pub record Sends (l : Link) (es : List CoreEndEvent) (out : List Control) (told : List (ℕ × ℕ × List ℕ)) : Type 0 where
  pub frames : emitted_turns (core_of l) es ≡ out
  pub gets : got_turns (core_of l) es ≡ told
  pub written : AreWritten out

sends_same : (l : Link) (es fs : List CoreEndEvent) (out : List Control) (gets : List (ℕ × ℕ × List ℕ)) → es ≡ fs → Sends l fs out gets
    → Sends l es out gets
sends_same l es fs out gets q s = grind arith

pub take_sends : (l : Link) (ts : List Turn) (x : OnWire) (xs : List OnWire) → AreSendableTurns ts → ComesFirst l x xs
    → Sends l (core_take l.controller.side x.frame ts) (frames_out (turned (took l.controller.side x.frame) ts)) (got_now l x)
take_sends l ts x xs a comes = go x.frame refl
  where
    e : LinkEnd
    e = l.controller.side

    c : CoreLink
    c = core_of l

    Goal : Type 0
    Goal = Sends l (core_take e x.frame ts) (frames_out (turned (took e x.frame) ts)) (got_now l x)

    -- an end that is open became f, and got these messages
    open_as : (f : LinkEnd) (b : Bool) → is_act x.frame ≡ false → is_open e.role ≡ true → took e x.frame ≡ f → Heard e f x b
        → got_with (core_number_of c.controller) e.shdlc.session.acc (take_answer e.shdlc x.frame).accepted ≡ got_now l x → Goal
    open_as f b q o is heard gets =
        let us : List CoreTurn = core_turns f ts in
        let tm = turns_mid None f ts a heard.mid in
        let s : EndState = core_turned (taken e.shdlc x.frame) us in
        let shdlc : (turned f ts).shdlc ≡ s = tm.is ∙ ap (λ z. core_turned z us) heard.shdlc in
        sends_same l (core_take e x.frame ts) (CoreDeliver us ∷ []) (frames_out (turned (took e x.frame) ts)) (got_now l x)
        ((grind arith) ∙ ap (λ g. CoreDeliver (core_turns g ts) ∷ []) is)
        (record {
          frames = append-nil (emitted_here c (CoreDeliver us)) ∙ (grind arith);
          gets = append-nil (got_here c (CoreDeliver us)) ∙ ((rw comes.first refl) ∙ gets);
          written = subst (λ g. AreWritten (frames_out (turned g ts))) (sym is) (out_written None (turned f ts) tm.mid);
        })

    -- one that isn't passed over it
    closed_as : (f : LinkEnd) → is_act x.frame ≡ false → is_open e.role ≡ false → took e x.frame ≡ f → f.shdlc ≡ e.shdlc → Now f → [] ≡ got_now l x → Goal
    closed_as f q o is same mid gets =
        let us : List CoreTurn = core_turns f ts in
        let tm = turns_mid None f ts a mid in
        let s : EndState = core_turned e.shdlc us in
        let shdlc : (turned f ts).shdlc ≡ s = tm.is ∙ ap (λ z. core_turned z us) same in
        let down = comes.tells.now.closed o in
        sends_same l (core_take e x.frame ts) (CoreIgnore us ∷ []) (frames_out (turned (took e x.frame) ts)) (got_now l x)
        ((grind arith) ∙ ap (λ g. CoreIgnore (core_turns g ts) ∷ []) is)
        (record {
          frames = append-nil (emitted_here c (CoreIgnore us)) ∙ (grind arith);
          gets = gets;
          written = subst (λ g. AreWritten (frames_out (turned g ts))) (sym is) (out_written None (turned f ts) tm.mid);
        })

    got_closed : (y : Control) → is_open e.role ≡ false → got_by e (Take y) ≡ []
    got_closed y o = grind arith

    n : ℕ
    n = number_of (record l.controller { took = took_with l.controller.took x })

    plain : (acc : List Fragment) → is_rset x.frame ≡ false
        → got_with (core_number_of c.controller) acc (take_answer e.shdlc x.frame).accepted ≡ got_with n acc (take_answer e.shdlc x.frame).accepted
    plain acc r = rw r refl

    -- an RSET brings nothing, so that its number doesn't count
    numbers : (y : Control) → x.frame ≡ y → (acc : List Fragment)
        → got_with (core_number_of c.controller) acc (take_answer e.shdlc x.frame).accepted ≡ got_with n acc (take_answer e.shdlc x.frame).accepted
    numbers y q acc = grind arith

    shdlc : (b : Bool) → is_open e.role ≡ b → is_shdlc x.frame ≡ true → is_act x.frame ≡ false → Goal
    shdlc true o s q =
        let sound = no_fault_first l x xs comes.first comes.tells comes.host o comes.from in
        let f = took_open e x s o sound in
        let acc : List Fragment = e.shdlc.session.acc in
        open_as (heard_end e x) (is_some (take_answer e.shdlc x.frame).ended) q o f.0 (heard_is e x comes.tells.now o)
        (numbers x.frame refl acc ∙ ((grind arith)
        ∙ ap (numbered n) (sym ((grind arith) ∙ news_is e.shdlc x.frame sound))))
    shdlc false o s q =
        let f = took_closed e x.frame s o in closed_as e q o f.0 refl comes.tells.now (ap (numbered n) (sym (got_closed x.frame o)))

    clt_none : (s : EndState) → (take_answer s Clt).accepted ≡ None
    clt_none s = grind arith

    -- a frame of activation
    acts : (act : Activation) (again : Bool) → x.frame ≡ Act act again → Goal
    acts act again q =
        let event : ActEvent = ActTake act again in
        let down = polite e x xs act again q comes.polite in
        let o : Option Activation = (act_answer e.role event).send in
        let f : LinkEnd = activated e event in
        let m = act_mid e event comes.tells.now comes.rests.due down (λ z. by (role_closes e.role act again z)) in
        let is : took e x.frame ≡ f = ap (took e) q in
        let us : List CoreTurn = core_turns f ts in
        let tm = turns_mid o f ts a m.mid in
        let s : EndState = core_turned e.shdlc us in
        let same : (turned f ts).shdlc ≡ s = tm.is ∙ ap (λ z. core_turned z us) m.same in
        sends_same l (core_take e x.frame ts) (CoreLose ∷ CoreActs (option_to_list o) us ∷ []) (frames_out (turned (took e x.frame) ts)) (got_now l x)
        (ap (λ y. core_take e y ts) q)
        (record {
          frames = append-nil (frames_now o ++ sent_then e.shdlc us)
              ∙ (sym (out_is o (turned f ts) s tm.mid.acts same) ∙ ap (λ g. frames_out (turned g ts)) (sym is));
          gets = ap (λ y. numbered n (got_by e (Take y))) (sym q);
          written = subst (λ g. AreWritten (frames_out (turned g ts))) (sym is) (out_written o (turned f ts) tm.mid);
        })
      where
        by : (is_open e.role ≡ false) ⊎ ((act_answer e.role (ActTake act again)).ended_link ≡ true) → e.shdlc.phase ≡ IsDown
        by (inl z) = comes.tells.now.closed z
        by (inr z) = polite e x xs act again q comes.polite z

    go : (y : Control) → x.frame ≡ y → Goal
    go (Act act again) q = acts act again q
    go Clt q = by_test (is_open e.role)
        (λ o. open_as (record e { passed_over = e.passed_over + 1 }) false (ap is_act q) o (ap (took e) q) (counted_is e x comes.tells.now q)
        (grind arith))
        (λ o. closed_as (record e { passed_over = e.passed_over + 1 }) (ap is_act q) o (ap (took e) q) refl
        (mid_counted None e (e.passed_over + 1) comes.tells.now) (ap (λ y. numbered n (got_by e (Take y))) (sym q)))
    go _ q = shdlc (is_open e.role) refl (ap is_shdlc q) (ap is_act q)

-- ### Turns, resets and activation

pub idle_sends : (l : Link) (ts : List Turn) → AreSendableTurns ts → Tells l.controller
    → Sends l (CoreTurns (core_turns l.controller.side ts) ∷ []) (frames_out (turned l.controller.side ts)) []
idle_sends l ts a h =
    let e : LinkEnd = l.controller.side in
    let tm = turns_mid None e ts a h.now in
    record {
      frames = append-nil (sent_then e.shdlc (core_turns e ts)) ∙ sym (out_is None (turned e ts) (core_turned e.shdlc (core_turns e ts)) tm.mid.acts tm.is);
      gets = refl;
      written = out_written None (turned e ts) tm.mid;
    }

pub reset_sends : (l : Link) (w : ℕ) (ts : List Turn) → AreSendableTurns ts → Tells l.controller → reset_refusal l.controller.side ≡ None
    → Sends l (CoreReset w (core_turns (reset_by l.controller.side w) ts) ∷ []) (frames_out (turned (reset_by l.controller.side w) ts)) []
reset_sends l w ts a h q =
    let e : LinkEnd = l.controller.side in
    let b : Bool = is_some (if_up e.shdlc Asked) in
    let f : LinkEnd = reset_by e w in
    let us : List CoreTurn = core_turns f ts in
    let tm = turns_mid None f ts a (grind arith) in
    let s : EndState = core_turned (reset_with e.shdlc w) us in
    record {
      frames = append-nil (sent_then (reset_with e.shdlc w) us) ∙ sym (out_is None (turned f ts) s tm.mid.acts (grind arith));
      gets = refl;
      written = out_written None (turned f ts) tm.mid;
    }

pub restart_sends : (l : Link) (event : ActEvent) (ts : List Turn) → AreSendableTurns ts → Tells l.controller
    → let f : LinkEnd = activated (moved l.controller.side true (stopped l.controller.side.shdlc)) event in
    Sends l (CoreStop ∷ CoreActs (option_to_list (act_answer l.controller.side.role event).send) (core_turns f ts) ∷ []) (frames_out (turned f ts)) []
restart_sends l event ts a h =
    let e : LinkEnd = l.controller.side in
    let o : Option Activation = (act_answer e.role event).send in
    let f : LinkEnd = activated (moved e true (stopped e.shdlc)) event in
    let us : List CoreTurn = core_turns f ts in
    let tm = turns_mid o f ts a (restart_mid e event h.now).mid in
    let s : EndState = core_turned (stopped e.shdlc) us in
    record {
      frames = append-nil (frames_now o ++ sent_then (core_silent (core_of l) (stopped e.shdlc)).controller.side us)
          ∙ (ap (λ z. frames_now o ++ sent_then z us) (grind arith) ∙ sym (out_is o (turned f ts) s tm.mid.acts (grind arith)));
      gets = refl;
      written = out_written o (turned f ts) tm.mid;
    }
