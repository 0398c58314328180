-- What the entries of an end say of its sessions, and what each part of a step adds.
use Rattle.link_laws.proofs.Words.{Acked, Active, Bool, End, EndState, Entry, FetchMessage, GaveUp, Give, Got, Hold, IsSendable, LinkEnd, List, Message, None}
use Rattle.link_laws.proofs.Words.{NumberedEnd, Option, Packet, Refused, Release, Report, Sent, Session, SetAside, Some, Talk, Turn, Up as IsUpNow, []}
use Rattle.link_laws.proofs.Words.{acked_noted, ap, append-nil, append_assoc, arith, common_steps, cond, drop, ended_talk, false, far}
use Rattle.link_laws.proofs.Words.{filter-append, filter_map-append, give_refusal, given, given_by, good_of, got_noted, if_so, is_good, join_step, length, map}
use Rattle.link_laws.proofs.Words.{max, messages_got, nat_lt, news, no_talk, not, number_of, option_to_list, packet_count, packet_of, packets_in, refl}
use Rattle.link_laws.proofs.Words.{sent_noted, sent_unless, subst, sym, talk_now, talk_of, told, true, turn, turn_entry, whole_acked, whole_among, with_ready}
use Rattle.link_laws.proofs.Words.{ℕ, ◌&&◌, ◌++◌, ◌-◌, ◌<◌, ◌==◌, ◌∙◌, ◌∷◌, ◌≡◌, ◌≤◌}
use Rattle.hcp_chain.specs.Joining.{message_in}
use Rattle.link_laws.proofs.machine.Sound.{Data, IsNotUp, SentAfter, Shift, whole_given, whole_more}
use Rattle.link_laws.proofs.machine.Sound.Shift.{Begins, Ends, Renews, Rests, Stays}
use Rattle.link_laws.proofs.machine.Reports.{Becomes}
use Rattle.link_laws.specs.entries.Entries.Entry.{Up, Down}
use Rattle.link_laws.specs.entries.Filters.{same_link_end}
use Rattle.link_laws.proofs.Cases.{by_option, by_phase}

-- ## Three filters at once

-- what an end sent, got and had acknowledged in a session
pub record Book : Type 0 where
  pub sent : List Message
  pub got : List Message
  pub acked : ℕ

abbrev pub blank : Book
blank = record { sent = []; got = []; acked = 0 }

abbrev pub book : List Message → List Message → ℕ → Book
book sent got acked = record { sent = sent; got = got; acked = acked }

abbrev pub plus : Book → Book → Book
plus a b = record { sent = a.sent ++ b.sent; got = a.got ++ b.got; acked = max a.acked b.acked }

abbrev pub read : List Entry → End → ℕ → Book
read t who n = record { sent = sent_noted t who n; got = got_noted t who n; acked = acked_noted t who n }

abbrev pub book_of : Talk → Book
book_of t = record { sent = t.sent; got = messages_got t.session; acked = whole_among t.sent t.session.acked }

abbrev pick : Bool → Book → Book
pick b x = cond b x blank

max_zero : (n : ℕ) → max n 0 ≡ n
max_zero n = omega arith

zero_max : (n : ℕ) → max 0 n ≡ n
zero_max n = omega arith

max_assoc : (a b c : ℕ) → max a (max b c) ≡ max (max a b) c
max_assoc a b c = omega arith

pub plus-blank : (b : Book) → plus b blank ≡ b
plus-blank b = rw (append-nil b.sent, append-nil b.got, max_zero b.acked) refl

pub blank-plus : (b : Book) → plus blank b ≡ b
blank-plus b = rw (zero_max b.acked) refl

-- one entry
abbrev note : Entry → End → ℕ → Book
note e who n = read (e ∷ []) who n

read-one : (e : Entry) (t : List Entry) (who : End) (n : ℕ) → read (e ∷ t) who n ≡ plus (note e who n) (read t who n)
read-one e t who n = grind arith

pub read-append : (t u : List Entry) (who : End) (n : ℕ) → read (t ++ u) who n ≡ plus (read t who n) (read u who n)
read-append [] u who n = sym (blank-plus (read u who n))
read-append (e ∷ t) u who n =
    read-one e (t ++ u) who n
    ∙ (ap (plus (note e who n)) (read-append t u who n)
    ∙ ((grind arith) ∙ ap (λ b. plus b (read u who n)) (sym (read-one e t who n))))

-- entries that say nothing of messages
abbrev pub Silent : List Entry → Type 0
Silent u = (who : End) (n : ℕ) → read u who n ≡ blank

pub silent-append : (t u : List Entry) → Silent t → Silent u → Silent (t ++ u)
silent-append t u p q who n = read-append t u who n ∙ (ap (λ b. plus b (read u who n)) (p who n) ∙ (blank-plus (read u who n) ∙ q who n))

pub silent_cons : (e : Entry) (t : List Entry) → Silent (e ∷ []) → Silent t → Silent (e ∷ t)
silent_cons e t p q who n = read-one e t who n ∙ (ap (λ b. plus b (read t who n)) (p who n) ∙ (blank-plus (read t who n) ∙ q who n))

silent_so : (b : Bool) (e : Entry) → Silent (e ∷ []) → Silent (if_so b e)
silent_so b e p who n = grind arith

silent_option : {A : Type 0} (f : A → Entry) (o : Option A) → ((x : A) → Silent (f x ∷ [])) → Silent (map f (option_to_list o))
silent_option f o p who n = grind arith

-- ## What is told

read_got : (who who' : End) (k n : ℕ) (ms : List Message)
    → read (map (Got who k) ms) who' n ≡ pick (same_link_end who who' && (k == n)) (record { sent = []; got = ms; acked = 0 })
read_got who who' k n ms = go (same_link_end who who' && (k == n)) refl ms
  where
    go : (b : Bool) → (same_link_end who who' && (k == n)) ≡ b → (ms : List Message)
        → read (map (Got who k) ms) who' n ≡ pick (same_link_end who who' && (k == n)) (record { sent = []; got = ms; acked = 0 })
    go true q [] = rw q refl
    go false q [] = rw q refl
    go true q (m ∷ ms) =
        read-one (Got who k m) (map (Got who k) ms) who' n
        ∙ rw q (let z = go true q ms in ap (plus (record { sent = []; got = m ∷ []; acked = 0 })) (rw q at z))
    go false q (m ∷ ms) = read-one (Got who k m) (map (Got who k) ms) who' n ∙ rw q (let z = go false q ms in ap (plus blank) (rw q at z))

-- what a report says of messages
abbrev pub told_book : Report → ℕ → Book
told_book r acked = record { sent = []; got = r.got; acked = cond (nat_lt 0 r.acked) acked 0 }

pub read_told : (who who' : End) (k n : ℕ) (r : Report) (acked : ℕ)
    → read (told who k r acked) who' n ≡ pick (same_link_end who who' && (k == n)) (told_book r acked)
read_told who who' k n r acked =
    skip (map (Down who) (option_to_list r.ended)) b (silent_option (Down who) r.ended (λ x w m. refl))
    ∙ (skip (if_so r.began (Up who k)) c (silent_so r.began (Up who k) (λ w m. refl))
    ∙ (skip (if_so r.became_active (Active who)) d (silent_so r.became_active (Active who) (λ w m. refl))
    ∙ (skip (map (GaveUp who) (option_to_list r.gave_up)) e (silent_option (GaveUp who) r.gave_up (λ x w m. refl)) ∙ last)))
  where
    e : List Entry
    e = if_so (nat_lt 0 r.acked) (Acked who k acked) ++ map (Got who k) r.got

    d : List Entry
    d = map (GaveUp who) (option_to_list r.gave_up) ++ e

    c : List Entry
    c = if_so r.became_active (Active who) ++ d

    b : List Entry
    b = if_so r.began (Up who k) ++ c

    skip : (t u : List Entry) → Silent t → read (t ++ u) who' n ≡ read u who' n
    skip t u p = read-append t u who' n ∙ (ap (λ z. plus z (read u who' n)) (p who' n) ∙ blank-plus (read u who' n))

    last : read e who' n ≡ pick (same_link_end who who' && (k == n)) (told_book r acked)
    last =
        read-append (if_so (nat_lt 0 r.acked) (Acked who k acked)) (map (Got who k) r.got) who' n
        ∙ (ap (λ z. plus z (read (map (Got who k) r.got) who' n)) (let h0 = (nat_lt 0 r.acked) in grind arith)
        ∙ (ap (plus (pick (same_link_end who who' && (k == n)) (record { sent = []; got = []; acked = cond (nat_lt 0 r.acked) acked 0 })))
        (read_got who who' k n r.got)
        ∙ (grind arith)))

-- ## An end and what was noted of it

-- what was noted of an end says what is kept of its sessions
abbrev pub Told : List Entry → End → NumberedEnd → Type 0
Told t who h = (n : ℕ) → read t who n ≡ book_of (talk_of h n)

pub up_talk : (h : NumberedEnd) (n : ℕ) → h.side.shdlc.phase ≡ IsUpNow → talk_of h n ≡ cond (n == number_of h) (talk_now h.side) (ended_talk h.past n)
up_talk h n p = rw p refl

pub down_talk : (h : NumberedEnd) (n : ℕ) → IsNotUp h.side.shdlc → talk_of h n ≡ ended_talk h.past n
down_talk h n down = by_phase h.side.shdlc.phase (λ p. absurd (down p)) (λ p. rw p refl) (λ p. rw p refl)

pub same_self : (who : End) → same_link_end who who ≡ true
same_self who = grind arith

pub same_far : (who : End) → same_link_end who (far who) ≡ false
same_far who = grind arith

-- nothing of the other end is told
pub told_far : (t : List Entry) (who : End) (k : ℕ) (r : Report) (acked : ℕ) (h : NumberedEnd) → Told t (far who) h → Told (t ++ told who k r acked) (far who) h
told_far t who k r acked h b n =
    let none : read (told who k r acked) (far who) n ≡ blank =
    read_told who (far who) k n r acked ∙ ap (λ x. pick (x && (k == n)) (told_book r acked)) (same_far who) in
    read-append t (told who k r acked) (far who) n ∙ (ap (plus (read t (far who) n)) none ∙ (plus-blank (read t (far who) n) ∙ b n))

pub told_silent : (t u : List Entry) (who : End) (h : NumberedEnd) → Silent u → Told t who h → Told (t ++ u) who h
told_silent t u who h s b n = read-append t u who n ∙ (ap (plus (read t who n)) (s who n) ∙ (plus-blank (read t who n) ∙ b n))

-- ## Messages that came

given_front : (ms : List (ℕ × List ℕ)) (ps qs : List Packet) → (rest : List (ℕ × List ℕ)) × (given_by ms (ps ++ qs) ≡ given_by ms ps ++ rest)
given_front ms [] qs = (given_by ms qs, refl)
given_front ms (p ∷ ps) qs =
    let z = given_front (join_step ms p).1 ps qs in
    (z.0, ap (λ x. message_in (join_step ms p).0 ++ x) z.1 ∙ sym (append_assoc (message_in (join_step ms p).0) (given_by (join_step ms p).1 ps) z.0))

drop_front : (xs ys : List Message) → drop (length xs) (xs ++ ys) ≡ ys
drop_front [] ys = refl
drop_front (x ∷ xs) ys = drop_front xs ys

-- what came before and what comes now is all that came
pub got_more : (before : Session) (s : EndState) (more : List (List ℕ)) → s.session.acc ≡ before.acc ++ more → messages_got before ++ news before s
    ≡ messages_got s.session
got_more before s more q =
    let packets : packets_in s.session.acc ≡ packets_in before.acc ++ packets_in more = ap packets_in q ∙ filter_map-append packet_of before.acc more in
    let g = given_front [] (packets_in before.acc) (packets_in more) in
    let all : messages_got s.session ≡ messages_got before ++ good_of g.0 =
    ap (λ ps. good_of (given_by [] ps)) packets ∙ (ap good_of g.1 ∙ filter-append (λ m. is_good m.1) (given_by [] (packets_in before.acc)) g.0) in
    ap (λ ms. messages_got before ++ drop (length (messages_got before)) ms) all
    ∙ (ap (λ ms. messages_got before ++ ms) (drop_front (messages_got before) (good_of g.0)) ∙ sym all)

-- ## An input

grows : (a b : ℕ) → a ≤ b → max a (cond (nat_lt 0 (b - a)) b 0) ≡ b
grows a b i = grind arith

-- an end with its session ended or not
abbrev pub past_after : Bool → NumberedEnd → List (ℕ × Talk)
past_after false h = h.past
past_after true h = (number_of h, talk_now h.side) ∷ h.past

-- what an input to the end of h, which becomes k, says of messages
pub record Input (h k : NumberedEnd) (ended began : Bool) (r : Report) : Type 0 where
  pub becomes : Becomes h.side k.side ended began r.got
  pub acked : r.acked ≡ whole_acked k.side - whole_acked h.side
  pub past : k.past ≡ past_after ended h
  pub same : h.side.shdlc.phase ≡ IsUpNow → ended ≡ false → number_of k ≡ number_of h
  pub fresh : began ≡ true → talk_of h (number_of k) ≡ no_talk

noted : (t : List Entry) (who : End) (k : ℕ) (r : Report) (acked n : ℕ)
    → read (t ++ told who k r acked) who n ≡ plus (read t who n) (pick (k == n) (told_book r acked))
noted t who k r acked n = grind (arith, read-append, told, read, read_told, pick, same_self)

-- a report that says nothing
silent_report : (t : List Entry) (who : End) (k : ℕ) (r : Report) (acked n : ℕ)
    → r.got ≡ [] → nat_lt 0 r.acked ≡ false → read (t ++ told who k r acked) who n ≡ read t who n
silent_report t who k r acked n got zero = noted t who k r acked n ∙ (ap (plus (read t who n)) (grind arith) ∙ plus-blank (read t who n))

-- an end without messages
fresh_whole : (e : LinkEnd) → e.sent ≡ [] → whole_acked e ≡ 0
fresh_whole e q = rw q refl

eq_sym : (a b : ℕ) (x : Bool) → (a == b) ≡ x → (b == a) ≡ x
eq_sym a b x q = grind arith

pub told_input : (t : List Entry) (who : End) (h k : NumberedEnd) (ended began : Bool) (r : Report) → Input h k ended began r → Data h.side → Told t who h
    → Told (t ++ told who (number_of k) r (whole_acked k.side)) who k
told_input t who h k ended began r i d b n = go i.becomes.shift
  where
    j : ℕ
    j = number_of k

    result : List Entry
    result = t ++ told who j r (whole_acked k.side)

    sent_false : ended ≡ false → k.side.sent ≡ h.side.sent
    sent_false q = subst (λ b. SentAfter b h.side k.side) q i.becomes.sent

    sent_true : ended ≡ true → k.side.sent ≡ []
    sent_true q = subst (λ b. SentAfter b h.side k.side) q i.becomes.sent

    -- nothing is told of messages
    nothing : k.side.shdlc.session.acc ≡ [] → k.side.sent ≡ [] → read result who n ≡ read t who n
    nothing acc sent =
        silent_report t who j r (whole_acked k.side) n
        (grind arith)
        (ap (nat_lt 0) i.acked ∙ (rw (fresh_whole k.side sent) (grind (arith, common_steps))))
      where
        drop_none : (m : ℕ) → drop {A = Message} m [] ≡ []
        drop_none m = grind (arith, common_steps)

    -- the sessions that ended before, and the one that ended now
    after_end : h.side.shdlc.phase ≡ IsUpNow → ended ≡ true → ended_talk k.past n ≡ talk_of h n
    after_end up q = ap (λ p. ended_talk p n) (i.past ∙ ap (λ x. past_after x h) q) ∙ sym (up_talk h n up)

    book_is : {s u g g' : List Message} {a c : ℕ} → s ≡ u → g ≡ g' → a ≡ c → book s g a ≡ book u g' c
    book_is p q r = rw (p, q, r) refl

    go : Shift h.side.shdlc k.side.shdlc ended began → read result who n ≡ book_of (talk_of k n)
    go (Stays p q g) =
        let sent = sent_false p in
        let low : whole_acked h.side ≤ whole_acked k.side =
        let z = whole_more h.side.sent h.side.shdlc.session.acked k.side.shdlc.session.acked g.low in
        omega (arith, z, (ap (λ ms. whole_among ms k.side.shdlc.session.acked) sent)) in
        let now : plus (book_of (talk_now h.side)) (told_book r (whole_acked k.side)) ≡ book_of (talk_now k.side) =
        book_is (append-nil h.side.sent ∙ sym sent) (ap (λ ms. messages_got h.side.shdlc.session ++ ms) (i.becomes.got)
        ∙ got_more h.side.shdlc.session k.side.shdlc g.more g.acc)
        (ap (λ x. max (whole_acked h.side) (cond (nat_lt 0 x) (whole_acked k.side) 0)) i.acked ∙ grows (whole_acked h.side) (whole_acked k.side) low) in
        let new : talk_of k n ≡ cond (n == j) (talk_now k.side) (ended_talk h.past n) = grind arith in
        noted t who j r (whole_acked k.side) n
        ∙ (ap (λ z. plus z (pick (j == n) (told_book r (whole_acked k.side)))) (grind arith) ∙ (by (n == j) refl now ∙ ap book_of (sym new)))
      where
        by : (x : Bool) → (n == j) ≡ x → plus (book_of (talk_now h.side)) (told_book r (whole_acked k.side)) ≡ book_of (talk_now k.side)
            → plus (book_of (cond (n == j) (talk_now h.side) (ended_talk h.past n))) (pick (j == n) (told_book r (whole_acked k.side)))
            ≡ book_of (cond (n == j) (talk_now k.side) (ended_talk h.past n))
        by true q now = rw (q, eq_sym n j true q) now
        by false q now = rw (q, eq_sym n j false q) (plus-blank (book_of (ended_talk h.past n)))
    go (Ends p q up still s) =
        nothing (ap (λ (z : Session). z.acc) s) (sent_true p) ∙ (b n ∙ ap book_of (sym (down_talk k n still ∙ after_end up p)))
    go (Renews p q up new) =
        let none : book_of (talk_now k.side) ≡ blank = rw ((sent_true p), new.acc) refl in
        let fresh : talk_of h j ≡ no_talk = i.fresh q in
        let is : talk_of k n ≡ cond (n == j) (talk_now k.side) (talk_of h n) = grind arith in
        nothing new.acc (sent_true p) ∙ (b n ∙ ((grind arith) ∙ ap book_of (sym is)))
    go (Begins p q down new) =
        let none : book_of (talk_now k.side) ≡ blank = rw ((sent_false p ∙ d.forgot down), new.acc) refl in
        let fresh : talk_of h j ≡ no_talk = i.fresh q in
        let is : talk_of k n ≡ cond (n == j) (talk_now k.side) (talk_of h n) = grind arith in
        nothing new.acc (sent_false p ∙ d.forgot down) ∙ (b n ∙ ((grind arith) ∙ ap book_of (sym is)))
    go (Rests p q down still s) =
        nothing (ap (λ (z : Session). z.acc) (s (d.none down))) (sent_false p ∙ d.forgot down)
        ∙ (b n ∙ ap book_of (down_talk h n down ∙ sym (down_talk k n still ∙ ap (λ ps. ended_talk ps n) (i.past ∙ ap (λ x. past_after x h) p))))

-- ## Turns

-- the end of h does something that its sessions don't show
pub told_same : (t : List Entry) (who : End) (h k : NumberedEnd) → k.side.shdlc.phase ≡ h.side.shdlc.phase → k.past ≡ h.past
    → (h.side.shdlc.phase ≡ IsUpNow → number_of k ≡ number_of h) → book_of (talk_now k.side) ≡ book_of (talk_now h.side) → Told t who h → Told t who k
told_same t who h k phase past number same b n = grind arith

-- the end of h, which is e now
abbrev pub with_side : NumberedEnd → LinkEnd → NumberedEnd
with_side h e = record h { side = e }

-- a message that is given can be sent
abbrev pub IsSendableTurn : Turn → Type 0
IsSendableTurn (Give m) = IsSendable m
IsSendableTurn _ = Unit {0}

given_up : (e : LinkEnd) (m : Message) → give_refusal e m ≡ None → e.shdlc.phase ≡ IsUpNow
given_up e m q = by_phase e.shdlc.phase (λ p. p) (λ p. absurd (let z = rw p at q in cc)) (λ p. absurd (let z = rw p at q in cc))

-- a message that is sent
told_given : (t : List Entry) (who : End) (h : NumberedEnd) (m : Message) → IsSendable m → h.side.shdlc.phase ≡ IsUpNow → Data h.side → Told t who h
    → Told (t ++ Sent who (number_of h) m ∷ []) who (with_side h (given h.side m))
told_given t who h m s up d b n =
    read-append t (Sent who (number_of h) m ∷ []) who n
    ∙ (ap (λ x. plus x (read (Sent who (number_of h) m ∷ []) who n)) (b n ∙ ap book_of (up_talk h n up))
    ∙ (by (n == number_of h) refl ∙ sym (ap book_of (up_talk (with_side h (given h.side m)) n up))))
  where
    j : ℕ
    j = number_of h

    count : 0 < packet_count (length m.1)
    count = let l = s.1 in omega (arith, l)

    whole : whole_among (h.side.sent ++ m ∷ []) h.side.shdlc.session.acked ≡ whole_acked h.side
    whole =
        let i = d.acked in let r = d.reached in
        whole_given h.side.sent m h.side.shdlc.session.acked count (omega (arith, (ap (λ (xs : List (List ℕ)). length xs) d.out), i, r))

    now : plus (book_of (talk_now h.side)) (record { sent = m ∷ []; got = []; acked = 0 }) ≡ book_of (talk_now (given h.side m))
    now = rw (append-nil (messages_got h.side.shdlc.session), max_zero (whole_acked h.side), whole) refl

    by : (x : Bool) → (n == j) ≡ x → plus (book_of (cond (n == j) (talk_now h.side) (ended_talk h.past n))) (read (Sent who j m ∷ []) who n)
        ≡ book_of (cond (n == j) (talk_now (given h.side m)) (ended_talk h.past n))
    by true q = let a = eq_sym n j true q in let w = same_self who in rw (q, w, a) now
    by false q = let a = eq_sym n j false q in let w = same_self who in rw (q, w, a) (plus-blank (book_of (ended_talk h.past n)))

ready_session : (e : EndState) (r : Bool) → ((with_ready e r).session.acc ≡ e.session.acc) × ((with_ready e r).session.acked ≡ e.session.acked)
    × ((with_ready e r).phase ≡ e.phase)
ready_session e r = grind arith

told_nothing : (t : List Entry) (who : End) (h : NumberedEnd) → Told t who h → Told (t ++ []) who h
told_nothing t who h b = told_silent t [] who h (λ w n. refl) b

pub told_turn : (t : List Entry) (who : End) (h : NumberedEnd) (x : Turn) → IsSendableTurn x → Data h.side → Told t who h
    → Told (t ++ turn_entry who (number_of h) h.side x) who (with_side h (turn h.side x))
told_turn t who h (Give m) s d b =
    by_option {P = Told (t ++ turn_entry who (number_of h) h.side (Give m)) who (with_side h (turn h.side (Give m)))} (give_refusal h.side m)
    (λ q. rw q (told_given t who h m s (given_up h.side m q) d b)) (λ why q. rw q (told_nothing t who h b))
told_turn t who h (Hold held) s d b =
    let r = ready_session h.side.shdlc (not held) in
    told_nothing t who (with_side h (turn h.side (Hold held)))
    (told_same t who h (with_side h (turn h.side (Hold held))) r.2 refl (λ _. refl) (rw (r.0, r.1) refl) b)
told_turn t who h SetAside s d b = let h0 = told_nothing t who h b in grind arith
told_turn t who h c s d b =
    told_nothing t who (with_side h (turn h.side c)) (told_same t who h (with_side h (turn h.side c)) refl refl (λ _. refl) refl b)

-- a turn of the other end
pub turn_far : (t : List Entry) (who : End) (k : ℕ) (e : LinkEnd) (x : Turn) (h : NumberedEnd) → Told t (far who) h
    → Told (t ++ turn_entry who k e x) (far who) h
turn_far t who k e (Hold held) h b = told_nothing t (far who) h b
turn_far t who k e FetchMessage h b = told_nothing t (far who) h b
turn_far t who k e SetAside h b = told_nothing t (far who) h b
turn_far t who k e Release h b = told_nothing t (far who) h b
turn_far t who k e (Give m) h b = go (give_refusal e m)
  where
    go : (o : Option Refused) → Told (t ++ sent_unless o who k m) (far who) h
    go (Some why) = told_nothing t (far who) h b
    go None = λ n.
        read-append t (Sent who k m ∷ []) (far who) n ∙ (ap (plus (read t (far who) n)) (grind arith) ∙ (plus-blank (read t (far who) n) ∙ b n))
