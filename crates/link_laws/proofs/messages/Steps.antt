-- Each thing that may happen at an end is projected, where no chain fault comes.
use Rattle.std.proofs.Common.{not}
use Rattle.std.specs.Prelude.{◌+◌}
use Rattle.link_laws.proofs.Words.{Act, ActEvent, ActTake, ActTick, Activation, AreSendableTurns, Bool, ByAct, Clt, Control, CoreActs, CoreDeliver, CoreInOrder}
use Rattle.link_laws.proofs.Words.{CoreLink, CoreTurn, Down, EndState, Ignore as CoreIgnore, IsTrue, Link, LinkEnd, LinkState, List, None, NumberedEnd}
use Rattle.link_laws.proofs.Words.{NumberedShdlc as CoreEnd, OnWire, Option, Role, Session, Talk, Turn, Up, [], act_answer, activated, after_frames, ap}
use Rattle.link_laws.proofs.Words.{are_taken, arith, becomes, cond, core_all_here, core_end, core_happens_here, core_of, core_past, core_take, core_turned}
use Rattle.link_laws.proofs.Words.{core_turns, core_with_ended, ended_by_frame, ended_session, ended_talk, eq-eqb, false, fragments_of, if_up, inl, inr, is_act}
use Rattle.link_laws.proofs.Words.{is_faulty, is_open, is_rset, is_some, most_frames, moved, news, no_session, number_of, option_to_list, packets_in, put_down}
use Rattle.link_laws.proofs.Words.{refl, role_after, shdlc_becomes as core_becomes, shdlc_number_of as core_number_of, shdlc_put_all as core_put_all}
use Rattle.link_laws.proofs.Words.{shdlc_session_of, subst, sym, take_answer, taken, talk_of, took, took_with, true, turned, with_act, with_ended, ℕ, ◌++◌, ◌<◌}
use Rattle.link_laws.proofs.Words.{◌==◌, ◌∙◌, ◌∷◌, ◌≡◌, ◌≤◌, ◌⊎◌}
use Rattle.link_laws.proofs.sending.TakenLemmas.{no_fault}
use Rattle.link_laws.proofs.sessions.Steps.{took as core_took}
use Rattle.link_laws.proofs.messages.ActsInOrder.{ActsInOrder, LinkInOrder, IsPolite, with_sent, in_order_take}
use Rattle.link_laws.proofs.messages.Project.{Alike, AllSay, Idle, Mid, Now, Says, Step, Tells, frames_alike, frames_now, step_same, step_turned, taken_keeps}
use Rattle.link_laws.proofs.Cases.{by_phase, by_test}

-- ## A frame is taken

abbrev pub with_took : Link → ℕ → Link
with_took l t = record l { controller = record l.controller { took = t } }

-- the link after the controller's end took x
abbrev pub took_first : Link → List Turn → OnWire → List OnWire → Link
took_first l ts x xs =
    becomes (with_took (with_ended (record l { to_controller = xs }) (is_some (ended_by_frame l.controller.side x.frame))) (took_with l.controller.took x))
    (turned (took l.controller.side x.frame) ts)

-- it, where a session ended or not, and this is what came of it
abbrev pub took_as : Link → List Turn → OnWire → List OnWire → Bool → LinkEnd → Link
took_as l ts x xs b e = becomes (with_took (with_ended (record l { to_controller = xs }) b) (took_with l.controller.took x)) (turned e ts)

took_is_as : (l : Link) (ts : List Turn) (x : OnWire) (xs : List OnWire) (b : Bool) (e : LinkEnd)
    → is_some (ended_by_frame l.controller.side x.frame) ≡ b → took l.controller.side x.frame ≡ e
    → took_first l ts x xs ≡ took_as l ts x xs b e
took_is_as l ts x xs b e p q = ap (λ a. took_as l ts x xs a (took l.controller.side x.frame)) p ∙ ap (λ f. took_as l ts x xs b f) q

pub core_first : (c : CoreLink) (ts : List CoreTurn) (x : OnWire) (xs : List OnWire) → c.to_controller ≡ x ∷ xs → core_happens_here c (CoreDeliver ts)
    ≡ core_took c ts x xs
core_first c ts x xs q = rw q refl

-- the end as it takes a frame of SHDLC without a fault
abbrev pub heard_end : LinkEnd → OnWire → LinkEnd
heard_end e x =
    let f : LinkEnd = moved e (is_some (take_answer e.shdlc x.frame).ended) (taken e.shdlc x.frame) in
    record f { got = e.got ++ news e.shdlc.session (taken e.shdlc x.frame) }

abbrev pub heard_first : Link → List Turn → OnWire → List OnWire → Link
heard_first l ts x xs = took_as l ts x xs (is_some (take_answer l.controller.side.shdlc x.frame).ended) (heard_end l.controller.side x)

-- an end g came of the frame x, and its session ended or not
pub record Heard (e g : LinkEnd) (x : OnWire) (b : Bool) : Type 0 where
  pub ended : is_some (take_answer e.shdlc x.frame).ended ≡ b
  pub shdlc : g.shdlc ≡ taken e.shdlc x.frame
  pub role : g.role ≡ e.role
  pub mid : Now g

pub step_heard : (l : Link) (ts : List Turn) (x : OnWire) (xs : List OnWire) (g : LinkEnd) (b : Bool) → l.to_controller ≡ x ∷ xs
    → Tells l.controller → AreSendableTurns ts → Heard l.controller.side g x b
    → Step l (took_as l ts x xs b g) (core_took (core_of l) (core_turns g ts) x xs)
step_heard l ts x xs g b w h a heard = (record { core = (go b).core ∙ sym is; tells = (go b).tells; host = (go b).host; in_order = (go b).in_order })
  where
    us : List CoreTurn
    us = core_turns g ts

    at : Bool → Link
    at b = with_took (with_ended (record l { to_controller = xs }) b) (took_with l.controller.took x)

    wires : LinkInOrder l → ActsInOrder g.role l.host.side.role xs l.to_host
    wires z = let P : Role → Type 0 = λ r. ActsInOrder r l.host.side.role xs l.to_host in subst P (sym heard.role) (grind arith)

    core_at : Bool → CoreLink
    core_at b =
        let m : CoreLink = core_with_ended (record (core_of l) { to_controller = xs }) b in
        record m { controller = record m.controller { took = took_with l.controller.took x } }

    go : (b : Bool) → Step l (becomes (at b) (turned g ts)) (core_becomes (core_at b) (core_turned g.shdlc us))
    go false = step_turned l (at false) None g ts refl h.past a heard.mid wires
    go true = step_turned l (at true) None g ts refl (h.now.says, h.past) a heard.mid wires

    is : core_took (core_of l) us x xs ≡ core_becomes (core_at b) (core_turned g.shdlc us)
    is =
        ap (λ c. core_becomes (core_at c) (core_turned (taken (l.controller.side).shdlc x.frame) us)) heard.ended
        ∙ ap (λ s. core_becomes (core_at b) (core_turned s us)) (sym heard.shdlc)

pub mid_counted : (o : Option Activation) (e : LinkEnd) (n : ℕ) → Mid o e → Mid o (record e { passed_over = n })
mid_counted o e n h = record { acts = h.acts; idle = h.idle; closed = h.closed; says = h.says }

pub heard_is : (e : LinkEnd) (x : OnWire) → Now e → is_open e.role ≡ true → Heard e (heard_end e x) x (is_some (take_answer e.shdlc x.frame).ended)
heard_is e x h o = grind arith

-- CLT is only counted
pub counted_is : (e : LinkEnd) (x : OnWire) → Now e → x.frame ≡ Clt → Heard e (record e { passed_over = e.passed_over + 1 }) x false
counted_is e x h q = grind arith

-- a frame of SHDLC
abbrev pub is_shdlc : Control → Bool
is_shdlc (Act _ _) = false
is_shdlc Clt = false
is_shdlc _ = true

-- an end that is open takes a frame of SHDLC as its SHDLC end does
pub took_open : (e : LinkEnd) (x : OnWire) → is_shdlc x.frame ≡ true → is_open e.role ≡ true → is_faulty (taken e.shdlc x.frame).session ≡ false
    → (took e x.frame ≡ heard_end e x) × (is_some (ended_by_frame e x.frame) ≡ is_some (take_answer e.shdlc x.frame).ended)
took_open e x q o f = grind arith

-- one that isn't passes over it
pub took_closed : (e : LinkEnd) (c : Control) → is_shdlc c ≡ true → is_open e.role ≡ false → (took e c ≡ e) × (is_some (ended_by_frame e c) ≡ false)
took_closed e c q o = grind arith

-- ## Frames of activation

-- an end that was closed stays so, or its link goes down
pub role_closes : (r : Role) (act : Activation) (again : Bool) → is_open (role_after r (ActTake act again)) ≡ false
    → (is_open r ≡ false) ⊎ ((act_answer r (ActTake act again)).ended_link ≡ true)
role_closes r act again q = grind arith

-- a tick of an end that isn't open
pub tick_closes : (r : Role) → is_open r ≡ false → (act_answer r ActTick).ended_link ≡ false
tick_closes r q = grind arith

-- a link that is Down and has nothing to send doesn't go down
pub stays_down : (b : Bool) (e : LinkEnd) → (b ≡ true → e.shdlc.phase ≡ Down) → e.shdlc.due ≡ [] → e.acts ≡ []
    → (put_down b e ≡ e) × (is_some (cond b (if_up e.shdlc ByAct) None) ≡ false)
stays_down b e d due acts = grind arith

pub activated_role : (e : LinkEnd) (event : ActEvent) → (activated e event).role ≡ role_after e.role event
activated_role e event = grind arith

-- what activation makes of an end
pub record Acted (e f : LinkEnd) (o : Option Activation) : Type 0 where
  pub mid : Mid o f
  pub same : f.shdlc ≡ e.shdlc

pub act_mid : (e : LinkEnd) (event : ActEvent) → Now e → e.shdlc.due ≡ [] → ((act_answer e.role event).ended_link ≡ true → e.shdlc.phase ≡ Down)
    → (is_open (role_after e.role event) ≡ false → e.shdlc.phase ≡ Down) → Acted e (activated e event) (act_answer e.role event).send
act_mid e event h due down closed =
    subst (λ f. Acted e (with_act o (record f { role = r })) o) (sym (stays_down (act_answer e.role event).ended_link e down due h.acts).0) (grind arith)
  where
    o : Option Activation
    o = (act_answer e.role event).send

    r : Role
    r = role_after e.role event

-- ## Sessions

ended-core : (past : List (ℕ × Talk)) (n : ℕ) → ended_session (core_past past) n ≡ (ended_talk past n).session
ended-core [] n = refl
ended-core (x ∷ xs) n = let h0 = core_past (x ∷ xs) in let h1 = ended_talk (x ∷ xs) n in let h2 = ended-core xs n in grind arith

pub session-core : (h : NumberedEnd) (n : ℕ) → shdlc_session_of (core_end h) n ≡ (talk_of h n).session
session-core h n = go h.side.shdlc.phase (n == core_number_of (core_end h)) refl refl
  where
    go : (p : LinkState) (b : Bool) → h.side.shdlc.phase ≡ p → (n == core_number_of (core_end h)) ≡ b
        → shdlc_session_of (core_end h) n ≡ (talk_of h n).session
    go Up true p q = rw (p, q) refl
    go Up false p q = rw (p, q) (ended-core h.past n)
    go _ b p q = rw p (ended-core h.past n)

past_says : (past : List (ℕ × Talk)) (n : ℕ) → AllSay past → Says (ended_talk past n)
past_says [] n h = record { out = refl; short = tt }
past_says (x ∷ xs) n h = by_test {P = Says (ended_talk (x ∷ xs) n)} (n == x.0) (λ q. rw q h.0) (λ q. rw q (past_says xs n h.1))

pub says_of : (h : NumberedEnd) (n : ℕ) → Tells h → Says (talk_of h n)
says_of h n t = go h.side.shdlc.phase (n == number_of h) refl refl
  where
    go : (p : LinkState) (b : Bool) → h.side.shdlc.phase ≡ p → (n == number_of h) ≡ b → Says (talk_of h n)
    go Up true p q = rw (p, q) t.now.says
    go Up false p q = rw (p, q) (past_says h.past n t.past)
    go _ b p q = rw p (past_says h.past n t.past)

-- ## No chain fault

session_now : (h : CoreEnd) → h.side.phase ≡ Up → shdlc_session_of h (core_number_of h) ≡ h.side.session
session_now h up = let same : (core_number_of h == core_number_of h) ≡ true = eq-eqb (core_number_of h) (core_number_of h) refl in rw (up, same) refl

sound : (b : Bool) → IsTrue b → not b ≡ false
sound b t = grind arith

-- What was accepted at an end is a front of what the other end was given, in each session
abbrev pub FromHost : CoreLink → Type 0
FromHost c = (n : ℕ) → CoreInOrder (shdlc_session_of c.host n) (shdlc_session_of c.controller n)

pub no_fault_first : (l : Link) (x : OnWire) (xs : List OnWire) → l.to_controller ≡ x ∷ xs → Tells l.controller → Tells l.host
    → is_open l.controller.side.role ≡ true → FromHost (core_took (core_of l) [] x xs)
    → is_faulty (taken l.controller.side.shdlc x.frame).session ≡ false
no_fault_first l x xs w h t o from =
    by_phase {P = is_faulty s.session ≡ false} s.phase (λ p. up p) (λ p. none (idle (λ u. let z = sym p ∙ u in cc)).1)
    (λ p. none (idle (λ u. let z = sym p ∙ u in cc)).1)
  where
    s : EndState
    s = taken l.controller.side.shdlc x.frame

    m : Link
    m = heard_first l [] x xs

    b : Bool
    b = is_some (take_answer l.controller.side.shdlc x.frame).ended

    is : Heard l.controller.side (heard_end l.controller.side x) x b
    is = heard_is l.controller.side x h.now o

    st : Step l m (core_took (core_of l) [] x xs)
    st = step_heard l [] x xs (heard_end l.controller.side x) b w h tt is

    idle : Idle s
    idle = (taken_keeps l.controller.side.shdlc x.frame h.now.idle).idle

    alike : Alike s m.controller.side.shdlc
    alike = subst (Alike s) (sym (ap (after_frames most_frames) is.shdlc)) (frames_alike most_frames s)

    none : s.session.acc ≡ [] → is_faulty s.session ≡ false
    none e = rw e refl

    up : s.phase ≡ Up → is_faulty s.session ≡ false
    up p =
        let n : ℕ = core_number_of (core_end m.controller) in
        let o : CoreInOrder (shdlc_session_of (core_end m.host) n) (shdlc_session_of (core_end m.controller) n) = (subst FromHost (sym st.core) from) n in
        let says : Says (talk_of l.host n) = says_of l.host n t in
        let acc : (shdlc_session_of (core_end m.controller) n).acc
        ≡ s.session.acc = ap (λ (z : Session). z.acc) (session_now (core_end m.controller) (alike.phase ∙ p)) ∙ alike.acc in
        let out : (shdlc_session_of (core_end m.host) n).out ≡ fragments_of (talk_of l.host n).sent =
        ap (λ (z : Session). z.out) (ap (λ (z : NumberedEnd). shdlc_session_of (core_end z) n) st.host ∙ session-core l.host n) ∙ says.out in
        sound (are_taken [] (packets_in s.session.acc)) (no_fault (talk_of l.host n).sent s.session.acc says.short (grind arith))

-- ## Events

-- what is true of the SHDLC end of the controller between events
pub record Rests (s : EndState) : Type 0 where
  pub due : s.due ≡ []
  pub none : (s.phase ≡ Up → ⊥) → s.session ≡ no_session
  pub own : (0 < s.own_window) × (s.own_window ≤ 4)

ignore_is : (c : CoreLink) (ts : List CoreTurn) (x : OnWire) (xs : List OnWire) → c.controller.side.phase ≡ Down → c.to_controller ≡ x ∷ xs
    → core_happens_here c (CoreIgnore ts)
    ≡ core_becomes (record c { to_controller = xs; controller = record c.controller { took = took_with c.controller.took x } })
    (core_turned c.controller.side ts)
ignore_is c ts x xs p q = rw (p, q) refl

pub polite : (e : LinkEnd) (x : OnWire) (xs : List OnWire) (act : Activation) (again : Bool) → x.frame ≡ Act act again → IsPolite e (x ∷ xs)
    → (act_answer e.role (ActTake act again)).ended_link ≡ true → e.shdlc.phase ≡ Down
polite e x xs act again q h = rw q at h

-- the frame x comes first on the wire to the controller's end, which can take it
pub record ComesFirst (l : Link) (x : OnWire) (xs : List OnWire) : Type 0 where
  pub first : l.to_controller ≡ x ∷ xs
  pub polite : IsPolite l.controller.side (x ∷ xs)
  pub tells : Tells l.controller
  pub host : Tells l.host
  pub rests : Rests l.controller.side.shdlc
  pub from : FromHost (core_took (core_of l) [] x xs)

pub step_first : (l : Link) (ts : List Turn) (x : OnWire) (xs : List OnWire) → AreSendableTurns ts → ComesFirst l x xs
    → Step l (took_first l ts x xs) (core_all_here (core_of l) (core_take l.controller.side x.frame ts))
step_first l ts x xs a comes = go x.frame refl
  where
    e : LinkEnd
    e = l.controller.side

    -- a frame of SHDLC
    take_open : (c : Control) → is_act c ≡ false → is_open e.role ≡ true → core_take e c ts ≡ CoreDeliver (core_turns (took e c) ts) ∷ []
    take_open c q o = grind arith

    take_closed : (c : Control) → is_act c ≡ false → is_open e.role ≡ false → core_take e c ts ≡ CoreIgnore (core_turns (took e c) ts) ∷ []
    take_closed c q o = grind arith

    -- the end becomes g
    open_as : (g : LinkEnd) (b : Bool) → is_act x.frame ≡ false → is_open e.role ≡ true → took e x.frame ≡ g
        → is_some (ended_by_frame e x.frame) ≡ b → Heard e g x b
        → Step l (took_first l ts x xs) (core_all_here (core_of l) (core_take e x.frame ts))
    open_as g b q o is ends heard =
        step_same l (took_first l ts x xs) (took_as l ts x xs b g) (core_all_here (core_of l) (core_take e x.frame ts))
        (core_took (core_of l) (core_turns g ts) x xs)
        (took_is_as l ts x xs b g ends is)
        (ap (core_all_here (core_of l)) (take_open x.frame q o) ∙ (core_first (core_of l) (core_turns (took e x.frame) ts) x xs comes.first
        ∙ ap (λ f. core_took (core_of l) (core_turns f ts) x xs) is))
        (step_heard l ts x xs g b comes.first comes.tells a heard)

    closed_as : (g : LinkEnd) → is_act x.frame ≡ false → is_open e.role ≡ false → took e x.frame ≡ g
        → is_some (ended_by_frame e x.frame) ≡ false → g.shdlc ≡ e.shdlc → g.role ≡ e.role → Now g
        → Step l (took_first l ts x xs) (core_all_here (core_of l) (core_take e x.frame ts))
    closed_as g q o is ends shdlc role mid =
        let k : Link = with_took (with_ended (record l { to_controller = xs }) false) (took_with l.controller.took x) in
        let us : List CoreTurn = core_turns g ts in
        let P : Role → Type 0 = λ r. ActsInOrder r l.host.side.role xs l.to_host in
        step_same l (took_first l ts x xs) (took_as l ts x xs false g) (core_all_here (core_of l) (core_take e x.frame ts))
        (core_becomes (core_of k) (core_turned g.shdlc us))
        (took_is_as l ts x xs false g ends is)
        (ap (core_all_here (core_of l)) (take_closed x.frame q o)
        ∙ (ignore_is (core_of l) (core_turns (took e x.frame) ts) x xs (comes.tells.now.closed o) comes.first
        ∙ (ap (λ f. core_becomes (core_of k) (core_turned e.shdlc (core_turns f ts))) is
        ∙ ap (λ s. core_becomes (core_of k) (core_turned s us)) (sym shdlc))))
        (step_turned l k None g ts refl comes.tells.past a mid (λ z. subst P (sym role) (grind arith)))

    shdlc : (b : Bool) → is_open e.role ≡ b → is_shdlc x.frame ≡ true → is_act x.frame ≡ false
        → Step l (took_first l ts x xs) (core_all_here (core_of l) (core_take e x.frame ts))
    shdlc true o s q =
        let f = took_open e x s o (no_fault_first l x xs comes.first comes.tells comes.host o comes.from) in
        open_as (heard_end e x) (is_some (take_answer e.shdlc x.frame).ended) q o f.0 f.1 (heard_is e x comes.tells.now o)
    shdlc false o s q = let f = took_closed e x.frame s o in closed_as e q o f.0 f.1 refl refl comes.tells.now

    -- CLT
    counts : (b : Bool) → is_open e.role ≡ b → x.frame ≡ Clt → Step l (took_first l ts x xs) (core_all_here (core_of l) (core_take e x.frame ts))
    counts true o q =
        open_as (record e { passed_over = e.passed_over + 1 }) false (ap is_act q) o (ap (took e) q)
        (ap (λ c. is_some (ended_by_frame e c)) q) (counted_is e x comes.tells.now q)
    counts false o q =
        closed_as (record e { passed_over = e.passed_over + 1 }) (ap is_act q) o (ap (took e) q) (ap (λ c. is_some (ended_by_frame e c)) q) refl refl
        (mid_counted None e (e.passed_over + 1) comes.tells.now)

    -- a frame of activation
    acts : (act : Activation) (again : Bool) → x.frame ≡ Act act again
        → Step l (took_first l ts x xs) (core_all_here (core_of l) (core_take e (Act act again) ts))
    acts act again q =
        let event : ActEvent = ActTake act again in
        let o : Option Activation = (act_answer e.role event).send in
        let f : LinkEnd = activated e event in
        let m = act_mid e event comes.tells.now comes.rests.due (polite e x xs act again q comes.polite) (λ z. by (role_closes e.role act again z)) in
        let k : Link = record l { to_controller = xs } in
        let frame_is : took_first l ts x xs ≡ took_as l ts x xs false f =
        took_is_as l ts x xs false f (grind arith) (ap (took e) q) in
        let counts : took_with l.controller.took x ≡ l.controller.took = rw (ap is_rset q) refl in
        let same : took_as l ts x xs false f
        ≡ becomes k (turned f ts) = ap (λ n. becomes (with_took (record l { to_controller = xs }) n) (turned f ts)) counts in
        let core : core_all_here (core_of l) (core_take e (Act act again) ts) ≡ core_becomes (core_put_all (core_of k) (frames_now o))
        (core_turned e.shdlc (core_turns f ts)) =
        ap (λ c. core_happens_here c (CoreActs (option_to_list o) (core_turns f ts))) (rw comes.first refl) in
        let last : core_becomes (core_put_all (core_of k) (frames_now o)) (core_turned f.shdlc (core_turns f ts))
        ≡ core_becomes (core_put_all (core_of k) (frames_now o)) (core_turned e.shdlc (core_turns f ts)) =
        ap (λ z. core_becomes (core_put_all (core_of k) (frames_now o)) (core_turned z (core_turns f ts))) m.same in
        step_same l (took_first l ts x xs) (becomes k (turned f ts)) (core_all_here (core_of l) (core_take e (Act act again) ts))
        (core_becomes (core_put_all (core_of k) (frames_now o)) (core_turned f.shdlc (core_turns f ts)))
        (frame_is ∙ same) (core ∙ sym last) (step_turned l k o f ts refl comes.tells.past a m.mid (taken_calm act again q))
      where
        by : (is_open e.role ≡ false) ⊎ ((act_answer e.role (ActTake act again)).ended_link ≡ true) → e.shdlc.phase ≡ Down
        by (inl z) = comes.tells.now.closed z
        by (inr z) = polite e x xs act again q comes.polite z

        taken_calm : (act : Activation) (again : Bool) → x.frame ≡ Act act again → LinkInOrder l
            → ActsInOrder (activated e (ActTake act again)).role l.host.side.role xs (with_sent (act_answer e.role (ActTake act again)).send l.to_host)
        taken_calm act again q z =
            let P : List OnWire → Type 0 = λ v. ActsInOrder l.controller.side.role l.host.side.role v l.to_host in
            let R : Role → Type 0 = λ r. ActsInOrder r l.host.side.role xs (with_sent (act_answer e.role (ActTake act again)).send l.to_host) in
            subst R (sym (activated_role e (ActTake act again))) (in_order_take e.role l.host.side.role x xs l.to_host act again q (subst P comes.first z))

    go : (c : Control) → x.frame ≡ c → Step l (took_first l ts x xs) (core_all_here (core_of l) (core_take e x.frame ts))
    go (Act act again) q =
        let P : Control → Type 0 = λ c. Step l (took_first l ts x xs) (core_all_here (core_of l) (core_take e c ts)) in subst P (sym q) (acts act again q)
    go Clt q = counts (is_open e.role) refl q
    go _ q = shdlc (is_open e.role) refl (ap is_shdlc q) (ap is_act q)
