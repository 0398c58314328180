-- What an input does is what its report tells; messages are kept until they are fetched, and frames of activation in their places.
use Rattle.std.specs.Prelude.{None, Option, Some}
use Rattle.link_laws.proofs.Words.{Act, Act as ActFrame, ActDue, ActEvent, ActStart, ActStop, ActTake, ActTick, Activation, Asked, Bool, ByAct, Chain, Clt}
use Rattle.link_laws.proofs.Words.{Control, Down, Due, EndState, Fetch, Fragment, FromNode, Give, HasTick as Tick, Hold, I, LinkEnd, LinkInput, LinkState}
use Rattle.link_laws.proofs.Words.{List, Message, Rej_due, Reset, Rnr_due, Role, Rr_due, Rset_due, Session, SetAside, Start, Stop, Take, TakeBroken}
use Rattle.link_laws.proofs.Words.{TakeUnknown, Turn, Ua, Ua_due, Up, Waiting, [], acknowledged, act_answer, activated, after_frames, after_input, after_inputs}
use Rattle.link_laws.proofs.Words.{ahead, among, ap, append-nil, arith, aside_refusal, began_by, common_steps, cond, control_due, drop, end_after, ended_by}
use Rattle.link_laws.proofs.Words.{ended_by_act, eqb-true, false, fetched, filter-append, frame_due, frame_fetched, frames_of, frames_out, give_refusal}
use Rattle.link_laws.proofs.Words.{good_of, had_tick, heard, if_up, in_front, is_faulty, is_good, is_open, is_some, length, length-append, length-map, map}
use Rattle.link_laws.proofs.Words.{messages_got, most_frames, moved, nat_lt, nearer, new_link_end, news, next_frame, no_session, not, place_of, put_down}
use Rattle.link_laws.proofs.Words.{received, refl, reset_by, reset_refusal, reset_with, role_after, sent_all, stopped, subst, suc, sym, take, take_answer}
use Rattle.link_laws.proofs.Words.{taken, tick_answer, ticked, took, true, true≢false, turn, window_of, with_act, with_ready, zero, ℕ, ◌++◌, ◌+◌, ◌-◌, ◌==◌}
use Rattle.link_laws.proofs.Words.{◌∙◌, ◌∷◌, ◌≡◌, ◌≤◌}
use Rattle.link_laws.specs.machine.Laws.{after_fetches, fetches, most_fetches}
use Rattle.link_laws.specs.machine.Machine.{brought, got_by}
use Rattle.link_laws.proofs.Cases.{by_list, by_option, by_phase, by_test}
use Rattle.link_laws.proofs.machine.Runs.{Sound}
use Rattle.link_laws.proofs.machine.Sound.{IsNotUp, SentAfter, Shift, by_taken, by_tick, same_shift, taken_shift, ticked_shift}
use Rattle.link_laws.proofs.machine.Sound.Shift.{Begins, Ends, Renews, Rests, Stays}

-- ## What an input does to the session of an end is what its report tells

-- an end e became f: its session ended or not, and one began or not, and these messages came
pub record Becomes (e f : LinkEnd) (ended began : Bool) (ms : List Message) : Type 0 where
  pub shift : Shift e.shdlc f.shdlc ended began
  pub sent : SentAfter ended e f
  pub got : ms ≡ news e.shdlc.session f.shdlc

abbrev pub Reports : LinkEnd → LinkInput → Type 0
Reports e i = Becomes e (after_input e i) (is_some (ended_by e i)) (began_by e i) (got_by e i)

becomes_as : {e f : LinkEnd} {a b c d : Bool} {ms ns : List Message} → a ≡ c → b ≡ d → ms ≡ ns → Becomes e f c d ns → Becomes e f a b ms
becomes_as p q r h = rw (p, q, r) h

drop_all : (ms : List Message) → drop (length ms) ms ≡ []
drop_all ms = grind (arith, common_steps)

-- where nothing more was accepted, nothing came
no_news : (before : Session) (s : EndState) → s.session.acc ≡ before.acc → news before s ≡ []
no_news before s q = let h0 = messages_got before in let h1 = drop_all (messages_got before) in grind arith

pub empty_news : (before : Session) (s : EndState) → s.session.acc ≡ [] → news before s ≡ []
empty_news before s q = grind arith

-- the SHDLC end and the messages sent are the same
stays_so : (e f : LinkEnd) → f.shdlc ≡ e.shdlc → f.sent ≡ e.sent → Becomes e f false false []
stays_so e f q s =
    record { shift = same_shift e.shdlc f.shdlc q; sent = s; got = sym (no_news e.shdlc.session f.shdlc (ap (λ (z : EndState). z.session.acc) q)) }

-- a link that isn't up goes down
rests_down : (e f : LinkEnd) → IsNotUp e.shdlc → IsNotUp f.shdlc → f.sent ≡ [] → f.shdlc.session ≡ no_session → Sound e → Becomes e f false false []
rests_down e f down still sent s h = grind arith

-- one that is goes down
ends_down : (e f : LinkEnd) → e.shdlc.phase ≡ Up → IsNotUp f.shdlc → f.sent ≡ [] → f.shdlc.session ≡ no_session → Becomes e f true false []
ends_down e f up still sent s = grind arith

not_up : (e : EndState) (p : LinkState) → e.phase ≡ p → (p ≡ Up → ⊥) → IsNotUp e
not_up e p q n u = n (sym q ∙ u)

-- ### Activation

becomes_act : (e f : LinkEnd) (o : Option Activation) (a : Bool) → Becomes e f a false [] → Becomes e (with_act o f) a false []
becomes_act e f o a h = grind arith

put_down_so : (e : LinkEnd) (r : Role) → Sound e → Becomes e (record (put_down true e) { role = r }) (is_some (if_up e.shdlc ByAct)) false []
put_down_so e r h = grind arith

activated_so : (e : LinkEnd) (event : ActEvent) → Sound e → Becomes e (activated e event) (is_some (ended_by_act e event)) false []
activated_so e event h =
    becomes_act e (at (act_answer e.role event).ended_link) (act_answer e.role event).send (is_some (ended_by_act e event))
    (by (act_answer e.role event).ended_link refl)
  where
    at : Bool → LinkEnd
    at b = record (put_down b e) { role = role_after e.role event }

    by : (b : Bool) → (act_answer e.role event).ended_link ≡ b → Becomes e (at (act_answer e.role event).ended_link) (is_some (ended_by_act e event)) false []
    by true q =
        let a : ended_by_act e event ≡ if_up e.shdlc ByAct = rw q refl in
        let P : Bool → Type 0 = λ b. Becomes e (at b) (is_some (ended_by_act e event)) false [] in
        subst P (sym q) (becomes_as (ap (λ o. is_some o) a) refl refl (put_down_so e (role_after e.role event) h))
    by false q =
        let a : ended_by_act e event ≡ None = rw q refl in
        let P : Bool → Type 0 = λ b. Becomes e (at b) (is_some (ended_by_act e event)) false [] in
        subst P (sym q) (becomes_as (ap (λ o. is_some o) a) refl refl (stays_so e (at false) refl refl))

restarted_so : (e : LinkEnd) (event : ActEvent) → Sound e
    → Becomes e (activated (moved e true (stopped e.shdlc)) event) (is_some (if_up e.shdlc ByAct)) false []
restarted_so e event h =
    becomes_act e (at (act_answer e.role event).ended_link) (act_answer e.role event).send (is_some (if_up e.shdlc ByAct))
    (by (act_answer e.role event).ended_link)
  where
    at : Bool → LinkEnd
    at b = record (put_down b (moved e true (stopped e.shdlc))) { role = role_after e.role event }

    still : IsNotUp (stopped e.shdlc)
    still = not_up (stopped e.shdlc) Down refl (λ u. cc)

    from : (f : LinkEnd) → f.shdlc ≡ stopped e.shdlc → f.sent ≡ [] → Becomes e f (is_some (if_up e.shdlc ByAct)) false []
    from f s sent =
        by_phase e.shdlc.phase (λ p. becomes_as {c = true} (rw p refl) refl refl (ends_down e f p down sent none))
        (λ p. becomes_as {c = false} (rw p refl) refl refl (rests_down e f (not_up e.shdlc Waiting p (λ u. cc)) down sent none h))
        (λ p. becomes_as {c = false} (rw p refl) refl refl (rests_down e f (not_up e.shdlc Down p (λ u. cc)) down sent none h))
      where
        down : IsNotUp f.shdlc
        down = let P : EndState → Type 0 = λ z. IsNotUp z in subst P (sym s) still

        none : f.shdlc.session ≡ no_session
        none = ap (λ (z : EndState). z.session) s

    by : (b : Bool) → Becomes e (at b) (is_some (if_up e.shdlc ByAct)) false []
    by true = from (at true) refl refl
    by false = from (at false) refl refl

-- ### Frames

pub shdlc_is : (e : LinkEnd) (b : Bool) (s : EndState) → (moved e b s).shdlc ≡ s
shdlc_is e b s = grind arith

pub moved_sent : (e : LinkEnd) (b : Bool) (s : EndState) → SentAfter b e (moved e b s)
moved_sent e b s = grind arith

heard_so : (e : LinkEnd) (c : Control) → Sound e
    → Becomes e (heard e c) (is_some (cond (is_faulty (taken e.shdlc c).session) (Some Chain) (take_answer e.shdlc c).ended))
    (cond (is_faulty (taken e.shdlc c).session) false (take_answer e.shdlc c).began)
    (cond (is_faulty (taken e.shdlc c).session) [] (news e.shdlc.session (taken e.shdlc c)))
heard_so e c h = by (is_faulty (taken e.shdlc c).session) refl
  where
    s : EndState
    s = taken e.shdlc c

    b : Bool
    b = is_some (take_answer e.shdlc c).ended

    f : LinkEnd
    f = moved e b s

    g : LinkEnd
    g = record f { got = e.got ++ news e.shdlc.session s }

    good : Becomes e g b (take_answer e.shdlc c).began (news e.shdlc.session s)
    good =
        let P : EndState → Type 0 = λ z. Shift e.shdlc z b (take_answer e.shdlc c).began in
        record {
          shift = subst P (sym (shdlc_is e b s)) (taken_shift e.shdlc c);
          sent = let h0 = (e.got ++ news e.shdlc.session s) in let h1 = (moved_sent e b s) in grind arith;
          got = ap (news e.shdlc.session) (sym (shdlc_is e b s));
        }

    bad : is_faulty s.session ≡ true → Becomes e (put_down true e) true false []
    bad q =
        by_phase e.shdlc.phase (λ p.
        let k : Becomes e (moved e true (stopped e.shdlc)) true false [] =
        ends_down e (moved e true (stopped e.shdlc)) p (not_up (stopped e.shdlc) Down refl (λ u. cc)) refl refl in
        let P : LinkEnd → Type 0 = λ z. Becomes e z true false [] in subst P (sym (rw p refl)) k)
        (λ p. fine Waiting p (λ u. cc)) (λ p. fine Down p (λ u. cc))
      where
        fine : (p : LinkState) → e.shdlc.phase ≡ p → (p ≡ Up → ⊥) → Becomes e (put_down true e) true false []
        fine p r n = absurd (true≢false (sym q ∙ (grind arith)))

    by : (x : Bool) → is_faulty s.session ≡ x
        → Becomes e (heard e c) (is_some (cond (is_faulty s.session) (Some Chain) (take_answer e.shdlc c).ended))
        (cond (is_faulty s.session) false (take_answer e.shdlc c).began) (cond (is_faulty s.session) [] (news e.shdlc.session s))
    by true q = let k = bad q in rw q k
    by false q = rw q good

-- what a frame does is told
pub take_so : (e : LinkEnd) (c : Control) → Sound e → Reports e (Take c)
take_so e (Act act again) h = let h0 = activated_so e (ActTake act again) h in grind arith
take_so e Clt h = let h0 = stays_so e (took e Clt) refl refl in grind arith
take_so e Ua h =
    by_test {P = Reports e (Take Ua)} (is_open e.role) (λ o. let k = heard_so e Ua h in rw o (becomes_as refl (grind arith) refl k))
    (λ o. rw o (stays_so e e refl refl))
take_so e frame h =
    by_test {P = Reports e (Take frame)} (is_open e.role)
    (λ o. let k = heard_so e frame h in rw o (becomes_as refl (grind arith) refl k)) (λ o. rw o (stays_so e e refl refl))

-- ### Ticks and resets

-- an end that is Up accepts nothing at a tick
ticked_acc : (e : EndState) → is_some (tick_answer e).ended ≡ false → (ticked e).session.acc ≡ e.session.acc
ticked_acc e q = grind (arith, common_steps)

moved_so : (e : LinkEnd) (b : Bool) (s : EndState) → Shift e.shdlc s b false → (b ≡ false → s.session.acc ≡ e.shdlc.session.acc)
    → Becomes e (moved e b s) b false []
moved_so e b s shift acc =
    record {
      shift = subst (λ z. Shift e.shdlc z b false) (sym (shdlc_is e b s)) shift;
      sent = moved_sent e b s;
      got = sym (ap (news e.shdlc.session) (shdlc_is e b s) ∙ none b shift acc);
    }
  where
    none : (b : Bool) → Shift e.shdlc s b false → (b ≡ false → s.session.acc ≡ e.shdlc.session.acc) → news e.shdlc.session s ≡ []
    none false shift acc = no_news e.shdlc.session s (acc refl)
    none true (Ends p q up still z) acc = empty_news e.shdlc.session s (ap (λ (x : Session). x.acc) z)
    none true (Stays p q g) acc = absurd (true≢false p)
    none true (Renews p q up k) acc = absurd (true≢false (sym q))
    none true (Begins p q down k) acc = absurd (true≢false p)
    none true (Rests p q down still z) acc = absurd (true≢false p)

pub tick_so : (e : LinkEnd) → Sound e → Reports e Tick
tick_so e h =
    by_test (is_open e.role) (λ o. rw o (moved_so e (is_some (tick_answer e.shdlc).ended) (ticked e.shdlc) (ticked_shift e.shdlc) (ticked_acc e.shdlc)))
    (λ o. rw o (activated_so e ActTick h))

pub reset_so : (e : LinkEnd) (window : Option ℕ) → Sound e → Reports e (Reset window)
reset_so e window h = grind arith

pub start_so : (e : LinkEnd) (v : ℕ) → Sound e → Reports e (Start v)
start_so e v h = restarted_so e (ActStart v) h

pub stop_so : (e : LinkEnd) → Sound e → Reports e Stop
stop_so e h = restarted_so e ActStop h

pub good-append : (xs ys : List Message) → good_of (xs ++ ys) ≡ good_of xs ++ good_of ys
good-append xs ys = filter-append (λ m. is_good m.1) xs ys

-- ## Messages that came at an end are kept until they are fetched

pub moved_got : (e : LinkEnd) (b : Bool) (s : EndState) → (moved e b s).got ≡ e.got
moved_got e b s = grind arith

pub down_got : (e : LinkEnd) (b : Bool) → (put_down b e).got ≡ e.got
down_got e b = grind arith

pub activated_got : (e : LinkEnd) (event : ActEvent) → (activated e event).got ≡ e.got
activated_got e event = grind arith

pub reset_got : (e : LinkEnd) (window : Option ℕ) → (after_input e (Reset window)).got ≡ e.got
reset_got e window = grind arith

heard_got : (m : LinkEnd) (c : Control) → (took m c ≡ cond (is_open m.role) (heard m c) m)
    → (brought m c ≡ cond (is_open m.role) (cond (is_faulty (taken m.shdlc c).session) [] (news m.shdlc.session (taken m.shdlc c))) [])
    → (took m c).got ≡ m.got ++ brought m c
heard_got m c t b = by (is_open m.role) (is_faulty (taken m.shdlc c).session) refl refl
  where
    by : (o f : Bool) → is_open m.role ≡ o → is_faulty (taken m.shdlc c).session ≡ f → (took m c).got ≡ m.got ++ brought m c
    by false f p q = rw (t, b, p) (sym (append-nil m.got))
    by true true p q = rw (t, b, p, q) (down_got m true ∙ sym (append-nil m.got))
    by true false p q = rw (t, b, p, q) refl

-- what a frame brings stands behind what came before
pub took_got : (m : LinkEnd) (c : Control) → (took m c).got ≡ m.got ++ brought m c
took_got m (ActFrame act again) = activated_got m (ActTake act again) ∙ sym (append-nil m.got)
took_got m Clt = sym (append-nil m.got)
took_got m frame = heard_got m frame refl refl

-- ## ACT frames stand in their places among the control frames that are due, and frames fetched one by one are all that are due

-- each stands behind as many as the one before it, or more, and behind no more than are due
abbrev Placed : ℕ → List ActDue → ℕ → Type 0
Placed low [] high = low ≤ high
Placed low (a ∷ acts) high = (low ≤ a.behind) × Placed a.behind acts high

placed_high : (low : ℕ) (acts : List ActDue) (h k : ℕ) → h ≤ k → Placed low acts h → Placed low acts k
placed_high low [] h k i p = omega (arith, i, p)
placed_high low (a ∷ acts) h k i p = (p.0, placed_high a.behind acts h k i p.1)

placed_low : (m n : ℕ) (acts : List ActDue) (h : ℕ) → m ≤ n → Placed n acts h → Placed m acts h
placed_low m n [] h i p = omega (arith, i, p)
placed_low m n (a ∷ acts) h i p = let q = p.0 in (omega (arith, i, q), p.1)

placed_push : (low : ℕ) (acts : List ActDue) (h : ℕ) (act : Activation) → Placed low acts h → Placed low (acts ++ record { frame = act; behind = h } ∷ []) h
placed_push low [] h act p = (p, omega arith)
placed_push low (a ∷ acts) h act p = (p.0, placed_push a.behind acts h act p.1)

placed_front : (acts : List ActDue) (h : ℕ) → Placed 0 (map in_front acts) h
placed_front [] h = omega arith
placed_front (a ∷ acts) h = (omega arith, placed_front acts h)

placed_nearer : (n : ℕ) (acts : List ActDue) (h : ℕ) → Placed (suc n) acts (suc h) → Placed n (map nearer acts) h
placed_nearer n [] h p = omega (arith, p)
placed_nearer n (a ∷ acts) h p = go (λ b. placed_nearer b acts h) a.behind refl p.0 p.1
  where
    go : ((b : ℕ) → Placed (suc b) acts (suc h) → Placed b (map nearer acts) h) → (b : ℕ) → a.behind ≡ b → suc n ≤ a.behind
        → Placed a.behind acts (suc h) → Placed n (map nearer (a ∷ acts)) h
    go later b q i r = grind arith

-- the last is no more than are due
top : (low : ℕ) (acts : List ActDue) (h : ℕ) → Placed low acts h → low ≤ h
top low [] h p = p
top low (a ∷ acts) h p = let i = top a.behind acts h p.1 in let j = p.0 in omega (arith, i, j)

positive : (n : ℕ) → (n == 0) ≡ false → 1 ≤ n
positive n q = grind arith

abbrev IsPlaced : LinkEnd → Type 0
IsPlaced e = Placed 0 e.acts (length e.shdlc.due)

-- ### What is due grows

grown : (ds : List Due) (d : Due) → length ds ≤ length (ds ++ d ∷ [])
grown ds d = let l = length-append ds (d ∷ []) in omega (arith, l)

received_due : (e : EndState) (ns : ℕ) (info : Fragment) → length e.due ≤ length (received e ns info).due
received_due e ns info = go e.ready (ahead e.session ns == 0) (nat_lt (ahead e.session ns) 4) e.session.gap_open refl refl refl refl
  where
    go : (a b c d : Bool) → e.ready ≡ a → (ahead e.session ns == 0) ≡ b → nat_lt (ahead e.session ns) 4 ≡ c → e.session.gap_open ≡ d
        → length e.due ≤ length (received e ns info).due
    go true true c d p q r s = rw (p, q) (grown e.due Rr_due)
    go true false true true p q r s = rw (p, q, r, s) (omega arith)
    go true false true false p q r s = rw (p, q, r, s) (grown e.due Rej_due)
    go true false false d p q r s = rw (p, q, r) (grown e.due Rr_due)
    go false b c d p q r s = rw p (grown e.due Rnr_due)

-- a frame that doesn't end the session adds to what is due
taken_due : (e : EndState) (c : Control) → is_some (take_answer e c).ended ≡ false → length e.due ≤ length (taken e c).due
taken_due e c n =
    by_taken (λ _ f answer. is_some answer.ended ≡ false → length e.due ≤ length f.due) e (λ ns nr info p _. up_I ns nr info p)
    (λ kind nr p _. grind arith) (λ _ _. omega arith) (λ _ _ _ z. absurd (true≢false z)) (λ _ _ _ _. grown e.due Ua_due)
    (λ _ _ _ _. grown e.due Ua_due) (λ _ _. omega arith) c n
  where
    up_I : (ns nr : ℕ) (info : Fragment) → e.phase ≡ Up → length e.due ≤ length (taken e (I ns nr info)).due
    up_I ns nr info p =
        by_option (place_of e.session nr) (λ q. grind arith)
        (λ x q. let i = received_due (acknowledged e x) ns info in rw (p, q) (rw p at i))

ticked_due : (e : EndState) → is_some (tick_answer e).ended ≡ false → length e.due ≤ length (ticked e).due
ticked_due e n =
    by_tick (λ f answer. is_some answer.ended ≡ false → length e.due ≤ length f.due) e (λ _. omega arith) (λ _ _. omega arith) (λ _ _. omega arith)
    (λ _ z. absurd (true≢false z)) (λ _ _. grown e.due Rset_due) (λ _ _. omega arith) n

reset_due : (e : EndState) (w : ℕ) → is_some (if_up e Asked) ≡ false → length e.due ≤ length (reset_with e w).due
reset_due e w n = by_phase e.phase (λ p. absurd (let z : true ≡ false = rw p at n in cc)) (λ p. rw p (omega arith)) (λ p. rw p (grown e.due Rset_due))

ready_due : (e : EndState) (r : Bool) → length e.due ≤ length (with_ready e r).due
ready_due e r = go e.ready r e.session.answered_rnr refl refl refl
  where
    go : (was now noted : Bool) → e.ready ≡ was → r ≡ now → e.session.answered_rnr ≡ noted → length e.due ≤ length (with_ready e r).due
    go true true noted p q n = rw (p, q) (omega arith)
    go false false noted p q n = rw (p, q) (omega arith)
    go true false noted p q n = rw (p, q) (omega arith)
    go false true true p q n = rw (p, q, n) (grown e.due Rr_due)
    go false true false p q n = rw (p, q, n) (omega arith)

-- ### Each input keeps the places

placed_moved : (e : LinkEnd) (b : Bool) (s : EndState) → (b ≡ false → length e.shdlc.due ≤ length s.due) → IsPlaced e → IsPlaced (moved e b s)
placed_moved e false s g p = placed_high 0 e.acts (length e.shdlc.due) (length s.due) (g refl) p
placed_moved e true s g p = placed_front e.acts (length s.due)

placed_down : (b : Bool) (e : LinkEnd) → IsPlaced e → IsPlaced (put_down b e)
placed_down b e p = grind (arith, placed_front)

placed_act : (o : Option Activation) (e : LinkEnd) → IsPlaced e → IsPlaced (with_act o e)
placed_act None e p = p
placed_act (Some act) e p = placed_push 0 e.acts (length e.shdlc.due) act p

placed_activated : (e : LinkEnd) (event : ActEvent) → IsPlaced e → IsPlaced (activated e event)
placed_activated e event p = grind (arith, placed_act, placed_down)

placed_heard : (e : LinkEnd) (c : Control) → IsPlaced e → IsPlaced (heard e c)
placed_heard e c p = by_test (is_faulty (taken e.shdlc c).session) (λ q. rw q (placed_down true e p)) (λ q. rw q fine)
  where
    b : Bool
    b = is_some (take_answer e.shdlc c).ended

    fine : IsPlaced (moved e b (taken e.shdlc c))
    fine = placed_moved e b (taken e.shdlc c) (λ q. taken_due e.shdlc c q) p

placed_took : (e : LinkEnd) (c : Control) → IsPlaced e → IsPlaced (took e c)
placed_took e (Act act again) p = placed_activated e (ActTake act again) p
placed_took e Clt p = p
placed_took e frame p = by_test {P = IsPlaced (took e frame)} (is_open e.role) (λ o. rw o (placed_heard e frame p)) (λ o. rw o p)

placed_turn : (e : LinkEnd) (t : Turn) → IsPlaced e → IsPlaced (turn e t)
placed_turn e (Give m) p = by_option {P = IsPlaced (turn e (Give m))} (give_refusal e m) (λ q. rw q p) (λ why q. rw q p)
placed_turn e (Hold held) p = placed_high 0 e.acts (length e.shdlc.due) (length (with_ready e.shdlc (not held)).due) (ready_due e.shdlc (not held)) p
placed_turn e SetAside p = by_option {P = IsPlaced (turn e SetAside)} (aside_refusal e) (λ q. rw q p) (λ why q. rw q p)
placed_turn e _ p = p

-- the frame fetched is of activation, or an SHDLC frame fewer stands before those
placed_fetch : (e : LinkEnd) → IsPlaced e → IsPlaced (frame_fetched e)
placed_fetch e p = go e.acts refl
  where
    go : (acts : List ActDue) → e.acts ≡ acts → IsPlaced (frame_fetched e)
    go [] q = rw q (omega arith)
    go (a ∷ acts) q = by (a.behind == 0) refl
      where
        here : Placed 0 (a ∷ acts) (length e.shdlc.due)
        here = let P : List ActDue → Type 0 = λ z. Placed 0 z (length e.shdlc.due) in subst P q p

        by : (b : Bool) → (a.behind == 0) ≡ b → IsPlaced (frame_fetched e)
        by true z = rw (q, z) (placed_low 0 a.behind acts (length e.shdlc.due) (omega (arith, here.0)) here.1)
        by false z = rw (q, z) (fewer e.shdlc.due refl)
          where
            some : 1 ≤ a.behind
            some = positive a.behind z

            fewer : (ds : List Due) → e.shdlc.due ≡ ds → Placed 0 (map nearer (a ∷ acts)) (length (fetched e.shdlc).due)
            fewer [] d =
                absurd (let h = top a.behind acts (length e.shdlc.due) here.1 in let l = ap (λ (xs : List Due). length xs) d in omega (arith, h, l, some))
            fewer (d ∷ ds) w =
                let P : List Due → Type 0 = λ xs. Placed 1 (a ∷ acts) (length xs) in
                rw w (placed_nearer 0 (a ∷ acts) (length ds) (subst P w (some, here.1)))

-- ### Runs

placed_input : (e : LinkEnd) (i : LinkInput) → IsPlaced e → IsPlaced (after_input e i)
placed_input e (Take c) p = placed_took e c p
placed_input e TakeUnknown p = p
placed_input e (TakeBroken fault) p = p
placed_input e Tick p =
    by_test {P = IsPlaced (had_tick e)} (is_open e.role)
    (λ o. rw o (placed_moved e (is_some (tick_answer e.shdlc).ended) (ticked e.shdlc) (λ q. ticked_due e.shdlc q) p)) (λ o. rw o (placed_activated e ActTick p))
placed_input e (Reset window) p = by_option {P = IsPlaced (after_input e (Reset window))} (reset_refusal e) (λ q. rw q asks) (λ why q. rw q p)
  where
    w : ℕ
    w = window_of e window

    asks : IsPlaced (reset_by e w)
    asks = placed_moved e (is_some (if_up e.shdlc Asked)) (reset_with e.shdlc w) (λ q. reset_due e.shdlc w q) p
placed_input e (Start v) p = placed_activated (moved e true (stopped e.shdlc)) (ActStart v) (placed_front e.acts 0)
placed_input e Stop p = placed_activated (moved e true (stopped e.shdlc)) ActStop (placed_front e.acts 0)
placed_input e (FromNode t) p = placed_turn e t p
placed_input e Fetch p = placed_fetch e p

placed_inputs : (is : List LinkInput) (e : LinkEnd) → IsPlaced e → IsPlaced (after_inputs e is)
placed_inputs [] e p = p
placed_inputs (i ∷ is) e p = placed_inputs is (after_input e i) (placed_input e i p)

-- ### One by one

-- one frame fewer went out before, and one fewer stands before each
among-nearer : (n : ℕ) (acts : List ActDue) (h : ℕ) (frames : List Control) → Placed (suc n) acts h
    → among (suc n) acts frames ≡ among n (map nearer acts) frames
among-nearer n [] h frames p = refl
among-nearer n (a ∷ acts) h frames p = go (λ b fs. among-nearer b acts h fs) a.behind refl p.0 p.1
  where
    go : ((b : ℕ) (fs : List Control) → Placed (suc b) acts h → among (suc b) acts fs ≡ among b (map nearer acts) fs) → (b : ℕ) → a.behind ≡ b
        → suc n ≤ a.behind → Placed a.behind acts h → among (suc n) (a ∷ acts) frames ≡ among n (map nearer (a ∷ acts)) frames
    go known b q i r = grind arith

-- the first frames fetched, and the end after them
record OneByOne (k m : ℕ) (e : LinkEnd) : Type 0 where
  frames : fetches k e ≡ among 0 e.acts (frames_of m e.shdlc)
  rest : after_fetches k e ≡ record e { shdlc = after_frames m e.shdlc; acts = [] }

pub fetched_due : (s : EndState) (m : ℕ) → length s.due ≤ suc m → length (fetched s).due ≤ m
fetched_due s m i = grind arith

one_by_one : (k m : ℕ) (e : LinkEnd) → k ≡ m + length e.acts → length e.shdlc.due ≤ m → IsPlaced e → OneByOne k m e
one_by_one zero m e q i p =
    by_list {P = OneByOne zero m e} e.acts (grind arith)
    (λ a acts w. absurd (let l = ap (λ (xs : List ActDue). length xs) w in omega (arith, q, l)))
one_by_one (suc k) m e q i p = go (one_by_one k) e.acts refl
  where
    Later : Type 0
    Later = (m : ℕ) (f : LinkEnd) → k ≡ m + length f.acts → length f.shdlc.due ≤ m → IsPlaced f → OneByOne k m f

    s : EndState
    s = e.shdlc

    first : (o : Option Control) → next_frame e ≡ o → (later : List Control) → fetches k (frame_fetched e) ≡ later → (c : Control) → o ≡ Some c
        → fetches (suc k) e ≡ c ∷ later
    first o a later b c r = grind arith

    none_left : Later → e.acts ≡ [] → OneByOne (suc k) m e
    none_left later w = grind arith

    act_first : Later → (a : ActDue) (acts : List ActDue) → e.acts ≡ a ∷ acts → (a.behind == 0) ≡ true → a.behind ≡ 0 → OneByOne (suc k) m e
    act_first later a acts w z none =
        let l = ap (λ (xs : List ActDue). length xs) w in
        let f : LinkEnd = record e { acts = acts } in
        let fetches_f : frame_fetched e ≡ f = rw (w, z) refl in
        let next : next_frame e ≡ Some (Act a.frame false) = rw (w, z) refl in
        let here : Placed 0 (a ∷ acts) (length s.due) = let P : List ActDue → Type 0 = λ y. Placed 0 y (length s.due) in subst P w p in
        let ih = later m f (omega (arith, q, l)) i (placed_low 0 a.behind acts (length s.due) (omega (arith, here.0)) here.1) in
        let all : among 0 e.acts (frames_of m s) ≡ Act a.frame false ∷ among 0 acts (frames_of m s) = grind arith in
        grind arith

    shdlc_first : Later → (a : ActDue) (acts : List ActDue) → e.acts ≡ a ∷ acts → (a.behind == 0) ≡ false → 1 ≤ a.behind
        → (d : Due) (ds : List Due) → s.due ≡ d ∷ ds → (m' : ℕ) → m ≡ suc m' → OneByOne (suc k) m e
    shdlc_first later a acts w z some d ds due m' is =
        let l = ap (λ (xs : List ActDue). length xs) w in
        let ms : List ActDue = map nearer (a ∷ acts) in
        let f : LinkEnd = record e { shdlc = fetched s; acts = ms } in
        let fetches_f : frame_fetched e ≡ f = rw (w, z) refl in
        let c : Control = control_due s d in
        let due_is : frame_due s ≡ Some c = rw due refl in
        let next : next_frame e ≡ Some c = (rw (w, z) refl) ∙ due_is in
        let placed : IsPlaced f = let P : LinkEnd → Type 0 = λ y. IsPlaced y in subst P fetches_f (placed_fetch e p) in
        let ih = later m' f (omega (arith, q, l, length-map (a ∷ acts) nearer, is)) (fetched_due s m' (omega (arith, i, is))) placed in
        let fs : List Control = frames_of m' (fetched s) in
        let here : Placed 0 (a ∷ acts) (length s.due) = let P : List ActDue → Type 0 = λ y. Placed 0 y (length s.due) in subst P w p in
        let all : among 0 e.acts (frames_of m s) ≡ c ∷ among 0 ms fs =
        ap (λ y. among 0 y (frames_of m s)) w ∙ (ap (among 0 (a ∷ acts)) (grind arith) ∙ behind a.behind refl here.1 fs c) in
        grind arith
      where
        behind : (b : ℕ) → a.behind ≡ b → Placed a.behind acts (length s.due) → (fs : List Control) (c : Control)
            → among 0 (a ∷ acts) (c ∷ fs) ≡ c ∷ among 0 (map nearer (a ∷ acts)) fs
        behind zero r y fs c = absurd (omega (arith, some, r))
        behind (suc b) r y fs c =
            let P : ℕ → Type 0 = λ x. Placed x acts (length s.due) in
            let whole : suc b - 0 ≡ suc b = omega arith in
            ap (λ x. take (x - 0) (c ∷ fs) ++ Act a.frame false ∷ among x acts (drop (x - 0) (c ∷ fs))) r
            ∙ (ap (λ x. take x (c ∷ fs) ++ Act a.frame false ∷ among (suc b) acts (drop x (c ∷ fs))) whole
            ∙ (ap (λ x. c ∷ (take b fs ++ Act a.frame false ∷ x)) (among-nearer b acts (length s.due) (drop b fs) (subst P r y))
            ∙ (grind arith)))

    go : Later → (acts : List ActDue) → e.acts ≡ acts → OneByOne (suc k) m e
    go later [] w = none_left later w
    go later (a ∷ acts) w = by_test (a.behind == 0) (λ z. act_first later a acts w z (eqb-true a.behind 0 z)) (λ z. due s.due refl z (positive a.behind z))
      where
        here : Placed 0 (a ∷ acts) (length s.due)
        here = let P : List ActDue → Type 0 = λ y. Placed 0 y (length s.due) in subst P w p

        due : (ds : List Due) → s.due ≡ ds → (a.behind == 0) ≡ false → 1 ≤ a.behind → OneByOne (suc k) m e
        due [] r z some = absurd (let h = top a.behind acts (length s.due) here.1 in let l = ap (λ (xs : List Due). length xs) r in omega (arith, h, l, some))
        due (d ∷ ds) r z some = least m refl
          where
            least : (n : ℕ) → m ≡ n → OneByOne (suc k) m e
            least zero x = absurd (let l = ap (λ (xs : List Due). length xs) r in omega (arith, l, i, x))
            least (suc m') x = shdlc_first later a acts w z some d ds r m' x

-- frames fetched one by one are all that are due
pub fetched_all : (role : Role) (is : List LinkInput) → length (end_after role is).shdlc.due ≤ most_frames
    → fetches (most_fetches (end_after role is)) (end_after role is) ≡ frames_out (end_after role is)
fetched_all role is few =
    let e : LinkEnd = end_after role is in
    (one_by_one (most_fetches e) most_frames e refl few (placed_inputs is (new_link_end role) (grind arith))).frames

pub left_all : (role : Role) (is : List LinkInput) → length (end_after role is).shdlc.due ≤ most_frames
    → after_fetches (most_fetches (end_after role is)) (end_after role is) ≡ sent_all (end_after role is)
left_all role is few =
    let e : LinkEnd = end_after role is in
    (one_by_one (most_fetches e) most_frames e refl few (placed_inputs is (new_link_end role) (grind arith))).rest
