-- Every event is noted so that the entries say what is kept of the sessions of both ends.
use Rattle.link_laws.proofs.Words.{Activate, AllAllowed, AreOwn, AreSendableTurns, AsksReset, AtController, AtHost, Bool, CanStart, Comes, Control, Controller}
use Rattle.link_laws.proofs.Words.{CoreDeliver, CoreLink, CoreTurn, End, EndEvent, Entry, GoesOut, HasTick, Host, InOrderIn, IsAllowed, IsEvent}
use Rattle.link_laws.proofs.Words.{IsFrontOf, IsNode, IsOwn, IsRead, IsStart, IsUicc, Link, LinkEnd, LinkEvent, List, Lose, NextFrame, NoInput, Node}
use Rattle.link_laws.proofs.Words.{NumberedEnd, OnWire, Option, Rset, Starts, Step as EndStep, Stops, Take, Ticks, TicksWithout, Turn, Up as IsUpNow, []}
use Rattle.link_laws.proofs.Words.{after_input, after_link_events, aged, aged_entries, all_at_controller, ap, append-nil, append_assoc, arith, becomes}
use Rattle.link_laws.proofs.Words.{began_by, cond, core_aged, core_all_here, core_end, core_event, core_happens_here, core_here, core_of, core_tick}
use Rattle.link_laws.proofs.Words.{core_tick_rest, core_ticks_or_cut, ended_by, ended_talk, entries, entries_of_events, event_entries}
use Rattle.link_laws.proofs.Words.{exchanged, false, far, first_entries, first_lost, frames_out, happens, happens_at_controller, here_entries, is_act}
use Rattle.link_laws.proofs.Words.{is_faulty, is_open, is_rset, is_some, is_waiting, left_after, max, most_frames, ne_eqb, no_talk, number_of, refl}
use Rattle.link_laws.proofs.Words.{sans, steps_at_controller, subst, sym, taken, talk_of, tick_entries, ticks_at_controller, took, took_with, trace, true}
use Rattle.link_laws.proofs.Words.{true≢false, turned, with_ended, ℕ, ◌++◌, ◌==◌, ◌∙◌, ◌∷◌, ◌≡◌}
use Rattle.link_laws.proofs.sessions.Hand.{IsRset, rset_told}
use Rattle.link_laws.proofs.sessions.Safe.{Safe}
use Rattle.link_laws.proofs.sessions.Sending.{SafeLink}
use Rattle.link_laws.proofs.sessions.Steps.{took_other, safe_aged, safe_turns, safe_exchanged, tick_or_cut, tick_if_waiting}
use Rattle.link_laws.proofs.machine.Sound.{Shift}
use Rattle.link_laws.proofs.machine.Sound.Shift.{Begins, Ends, Renews, Rests as ShiftRests, Stays}
use Rattle.link_laws.proofs.machine.Runs.{Sound}
use Rattle.link_laws.proofs.machine.Reports.{take_so}
use Rattle.link_laws.proofs.messages.Project.{NoRset, Step, Tells, beside-put_all, frames_alike}
use Rattle.link_laws.proofs.messages.ActsInOrder.{LinkInOrder}
use Rattle.link_laws.proofs.messages.Steps.{ComesFirst, FromHost, core_first}
use Rattle.link_laws.proofs.messages.Finishing.{first_none, step_tick}
use Rattle.link_laws.proofs.messages.Runs.{Good, Reached, can_start, event_step, from_controller, from_host, new_number, own_here, own_turns, reached_more}
use Rattle.link_laws.proofs.messages.Runs.{rest_both, rests_of, safe_reached, seen, start_good, start_reached, started_clf, step_here, tells_same}
use Rattle.link_laws.specs.entries.Entries.Entry.{Tick}
use Rattle.link_laws.proofs.entries.Books.{Silent, silent_cons, Told, up_talk, down_talk, told_silent, past_after}
use Rattle.link_laws.proofs.entries.Stepping.{OfOne, Out, Tolds, few_more, few_told, one_input, one_step, puts_number, silent_first}
use Rattle.link_laws.proofs.entries.Noting.{AllOk, Frames, FramesFor, Near, Ok, all_then, between, ok_link, ok_silent, sound_step, sound_tick, step_told}
use Rattle.link_laws.proofs.entries.Noting.{tick_told}
use Rattle.link_laws.proofs.Cases.{by_test}

-- ## The first frame on a wire

-- what is known of the link before a frame is taken, and of the link after it
pub record Before (l : Link) : Type 0 where
  pub tells : Tells l.controller
  pub host : Tells l.host
  pub in_order : LinkInOrder l
  pub safe : SafeLink 0 0 (core_of l)
  pub from : FromHost (core_happens_here (core_of l) (CoreDeliver []))
  pub next : SafeLink 0 0 (core_of (steps_at_controller l NextFrame [] GoesOut))
  pub sound : Sound l.controller.side

pub near_of : (l : Link) → Before l → Near l
near_of l b = record { tells = b.tells; rests = rests_of 0 0 (core_of l) b.safe; sound = b.sound }

-- the frame that comes first on the wire then
pub comes_first : (l : Link) (x : OnWire) (xs : List OnWire) → l.to_controller ≡ x ∷ xs → Before l → ComesFirst l x xs
comes_first l x xs w b = record {
  first = w;
  polite = grind arith;
  tells = b.tells;
  host = b.host;
  rests = rests_of 0 0 (core_of l) b.safe;
  from = subst FromHost (core_first (core_of l) [] x xs w) b.from;
}

pub frame_facts : (l : Link) (ts : List Turn) → AreSendableTurns ts → Before l → Frames l ts
frame_facts l ts a b x xs w = record { quiet = none ts a; same = same; fresh = fresh }
  where
    e : LinkEnd
    e = l.controller.side

    f : LinkEnd
    f = took e x.frame

    none : (ts : List Turn) → AreSendableTurns ts → NoRset (frames_out (turned f ts))
    none ts a = first_none l ts x xs a (comes_first l x xs w b)

    -- an RSET that an end which is Up takes ends its session
    rset_ends : (v caps : ℕ) → x.frame ≡ Rset v caps → e.shdlc.phase ≡ IsUpNow → is_some (ended_by e (Take x.frame)) ≡ true
    rset_ends v caps q up = ap (λ c. is_some (ended_by e (Take c))) q ∙ by (is_open e.role) refl
      where
        here : Safe 0 0 (core_end l.controller) (core_end l.host) (x ∷ sans xs) (sans l.to_host) l.resets
        here =
            let P : List OnWire → Type 0 = λ z. Safe 0 0 (core_end l.controller) (core_end l.host) z (sans l.to_host) l.resets in
            subst P (ap sans w ∙ ap (λ c. cond (is_act c) (sans xs) (x ∷ sans xs)) q) b.safe

        not_zero : (v == 0) ≡ false
        not_zero = ne_eqb v 0 (λ z. omega (arith, z, let is : IsRset x = record { window = v; caps = caps; frame = q } in (rset_told here.hand is).wide))

        by : (o : Bool) → is_open e.role ≡ o → is_some (ended_by e (Take (Rset v caps))) ≡ true
        by false o = absurd (let z = sym (b.tells.now.closed o) ∙ up in cc)
        by true o = by_test (is_faulty (taken e.shdlc (Rset v caps)).session) (λ g. rw (o, g) refl) (λ g. let n = not_zero in rw (o, g, up, n) refl)

    same : e.shdlc.phase ≡ IsUpNow → is_some (ended_by e (Take x.frame)) ≡ false → took_with l.controller.took x ≡ l.controller.took
    same up q = go x.frame refl
      where
        other : is_rset x.frame ≡ false → took_with l.controller.took x ≡ l.controller.took
        other z = took_other l.controller.took x z

        go : (c : Control) → x.frame ≡ c → took_with l.controller.took x ≡ l.controller.took
        go (Rset v caps) z = absurd (true≢false (sym (rset_ends v caps z up) ∙ q))
        go _ z = other (ap is_rset z)

    c : Bool
    c = is_some (ended_by e (Take x.frame))

    n : ℕ
    n = max l.controller.emitted (took_with l.controller.took x)

    k : Link
    k = left_after l x xs

    left_half : Bool → NumberedEnd
    left_half c = record (with_ended (record l { to_controller = xs }) c).controller { took = took_with l.controller.took x }

    left : (c : Bool) → ((left_half c).past ≡ past_after c l.controller) × (number_of (left_half c) ≡ n)
    left c = grind arith

    -- no ended session has the number of one that begins
    new : f.shdlc.phase ≡ IsUpNow → ended_talk (past_after c l.controller) n ≡ no_talk
    new up =
        let m : NumberedEnd = (becomes k f).controller in
        let is : steps_at_controller l NextFrame [] GoesOut ≡ becomes k f = rw w refl in
        let P : Link → Type 0 = λ z. SafeLink 0 0 (core_of z) in
        let old = new_number m ((frames_alike most_frames f.shdlc).phase ∙ up) (subst P is b.next).n_past in
        let past : m.past ≡ past_after c l.controller = (beside-put_all (frames_out f) k).past ∙ (left c).0 in
        let number : number_of m ≡ n = puts_number k (frames_out f) (none [] tt) ∙ (left c).1 in
        sym (ap (λ p. ended_talk p (number_of m)) past ∙ ap (ended_talk (past_after c l.controller)) number) ∙ old

    fresh : began_by e (Take x.frame) ≡ true → talk_of l.controller n ≡ no_talk
    fresh began = go (take_so e x.frame b.sound).shift
      where
        past : (d : Bool) → c ≡ d → f.shdlc.phase ≡ IsUpNow → ended_talk (past_after d l.controller) n ≡ no_talk
        past d q up = ap (λ z. ended_talk (past_after z l.controller) n) (sym q) ∙ new up

        go : Shift e.shdlc f.shdlc c (began_by e (Take x.frame)) → talk_of l.controller n ≡ no_talk
        go (Stays p q g) = absurd (true≢false (sym began ∙ q))
        go (Ends p q up still s) = absurd (true≢false (sym began ∙ q))
        go (Renews p q up z) = up_talk l.controller n up ∙ past true p z.is
        go (Begins p q down z) = down_talk l.controller n down ∙ past false p z.is
        go (ShiftRests p q down still s) = absurd (true≢false (sym began ∙ q))

-- ## Events at one end

pub here_told : (t : List Entry) (who : End) (l : Link) (e : EndEvent) → IsAllowed l e → Before l → Tolds t who l
    → Out t (here_entries who l e) who (happens_at_controller l e)
here_told t who l (EndStep comes ts ending) a b h =
    step_told t who l comes ts ending a.1 (record { tells = b.tells; rests = rests_of 0 0 (core_of l) b.safe; sound = b.sound }) (frames comes) h
  where
    frames : (comes : Comes) → FramesFor comes l ts
    frames NextFrame = frame_facts l ts a.1.0 b
    frames _ = tt
here_told t who l (Lose why) a b h =
    let u : List Entry = first_lost who why l.to_controller in
    record {
      tolds = record {
        here = told_silent t u who l.controller (silent_first who why l.to_controller) h.here;
        there = told_silent t u (far who) l.host (silent_first who why l.to_controller) h.there;
      };
      few = few_more t who u (few_told t who l.controller h.here) (grind arith);
    }

-- what is noted there is of this end
one_here : (who : End) (l : Link) (e : EndEvent) → OfOne who (here_entries who l e)
one_here who l (EndStep comes ts ending) = one_step who l comes ts ending
one_here who l (Lose why) = grind arith

pub sound_here : (l : Link) (e : EndEvent) → IsAllowed l e → Sound l.controller.side → Sound (happens_at_controller l e).controller.side
sound_here l (EndStep comes ts ending) a s = sound_step l comes ts ending a.1 s
sound_here l (Lose why) a s = s

-- a step that takes no frame
own_told : (t : List Entry) (who : End) (l : Link) (e : EndEvent) → IsOwn e → IsAllowed l e → Near l → Tolds t who l
    → Out t (here_entries who l e) who (happens_at_controller l e)
own_told t who l (Lose why) o a n h = absurd o
own_told t who l (EndStep NextFrame ts ending) o a n h = absurd o
own_told t who l (EndStep (AsksReset window) ts ending) o a n h = step_told t who l (AsksReset window) ts ending a.1 n tt h
own_told t who l (EndStep (Starts v) ts ending) o a n h = step_told t who l (Starts v) ts ending a.1 n tt h
own_told t who l (EndStep Stops ts ending) o a n h = step_told t who l Stops ts ending a.1 n tt h
own_told t who l (EndStep NoInput ts ending) o a n h = step_told t who l NoInput ts ending a.1 n tt h

-- what is known of the controller's end within a tick
pub record IsInTick (kf : ℕ) (l : Link) : Type 0 where
  pub tells : Tells l.controller
  pub safe : SafeLink 0 kf (core_of l)
  pub sound : Sound l.controller.side

pub near_in_tick : {kf : ℕ} (l : Link) → IsInTick kf l → Near l
near_in_tick {kf} l s = record { tells = s.tells; rests = rests_of 0 kf (core_of l) s.safe; sound = s.sound }

-- a step of its own
pub own_step : {kf : ℕ} (l : Link) (e : EndEvent) → IsOwn e → IsAllowed l e → IsInTick kf l
    → Step l (happens_at_controller l e) (core_all_here (core_of l) (core_here l e))
own_step l e own allowed s = own_here l e own allowed s.tells (near_in_tick l s).rests

pub own_in_tick : {kf : ℕ} (l : Link) (e : EndEvent) → IsOwn e → IsAllowed l e → IsInTick kf l → IsInTick kf (happens_at_controller l e)
own_in_tick {kf} l e own allowed s =
    let one = own_step l e own allowed s in
    let P : CoreLink → Type 0 = λ c. SafeLink 0 kf c in
    record {
      tells = one.tells;
      safe = subst P (sym one.core) (safe_turns kf (core_here l e) (core_of l) (own_turns l e (near_in_tick l s).rests own allowed) s.safe);
      sound = sound_here l e allowed s.sound;
    }

pub all_in_tick : {kf : ℕ} (l : Link) (es : List EndEvent) → AreOwn l es → IsInTick kf l → IsInTick kf (all_at_controller l es)
all_in_tick l [] a s = s
all_in_tick l (e ∷ es) a s = all_in_tick (happens_at_controller l e) es a.2 (own_in_tick l e a.0 a.1 s)

-- what was noted up to these entries of it
record Within (kf : ℕ) (t u : List Entry) (l m : Link) : Type 0 where
  tolds : Tolds (t ++ u) Controller m
  ok : Ok (t ++ u)
  all : AllOk t u
  stands : IsInTick kf m
  host : m.host ≡ l.host

all_told : {kf : ℕ} (es : List EndEvent) (t : List Entry) (l : Link) → AreOwn l es → IsInTick kf l → Tells l.host → Tolds t Controller l → Ok t
    → Within kf t (entries_of_events Controller l es) l (all_at_controller l es)
all_told [] t l a s g b ok =
    record {
      tolds = record { here = told_silent t [] Controller l.controller (λ x n. refl) b.here; there = told_silent t [] Host l.host (λ x n. refl) b.there };
      ok = ok_silent t [] ok (λ x n. refl);
      all = none;
      stands = s;
      host = refl;
    }
  where
    none : AllOk t []
    none [] f = ok_silent t [] ok (λ x n. refl)
    none (x ∷ xs) f = absurd (let z = f.1 in cc)
all_told {kf} (e ∷ es) t l a s g b ok =
    let one = own_step l e a.0 a.1 s in
    let m : Link = happens_at_controller l e in
    let then = own_in_tick l e a.0 a.1 s in
    let out = own_told t Controller l e a.0 a.1 (near_in_tick l s) b in
    let u : List Entry = here_entries Controller l e in
    let v : List Entry = entries_of_events Controller m es in
    let far_tells : Tells m.host = tells_same m.host l.host one.host g in
    let next : Ok (t ++ u) = ok_link (t ++ u) 0 kf m then.safe then.tells far_tells out.tolds in
    let more = all_told es (t ++ u) m a.2 then far_tells out.tolds next in
    record {
      tolds = subst (λ z. Tolds z Controller (all_at_controller m es)) (append_assoc t u v) more.tolds;
      ok = subst (λ z. Ok z) (append_assoc t u v) more.ok;
      all = all_then t u v (between t u Controller ok next (one_here Controller l e) out.few) more.all;
      stands = more.stands;
      host = more.host ∙ one.host;
    }

-- ## Events

-- both ends are sound
pub record Sounds (l : Link) : Type 0 where
  pub controller : Sound l.controller.side
  pub host : Sound l.host.side

-- the controller's end after its tick
pub after_tick : (l : Link) (c : Node) → IsNode (aged l) c.turns c.ending → Good l → Reached (core_of l) → Sounds l
    → IsInTick 1 (ticks_at_controller (aged l) c.turns c.ending)
after_tick l c a g r s =
    let s0 = safe_aged (core_of l) (safe_reached (core_of l) r) in
    let one = step_tick (aged l) c.turns c.ending a.0 a.1 g.controller (rests_of 1 1 (core_of (aged l)) s0) in
    let t : Option (List CoreTurn) = core_tick l.controller.side c.turns c.ending in
    let P : CoreLink → Type 0 = λ d. SafeLink 0 1 d in
    record {
      tells = one.tells;
      safe = subst P (sym one.core) (safe_turns 1 (core_tick_rest l.controller.side c.turns c.ending) (core_ticks_or_cut t (core_aged (core_of l)))
          (rest_both l.controller.side c.turns c.ending).turns (tick_or_cut 1 t (core_aged (core_of l)) s0));
      sound = sound_tick (aged l) c a s.controller;
    }

-- where it has none
pub without_tick : (l : Link) → is_waiting l.controller.side.shdlc ≡ false → Good l → Reached (core_of l) → Sounds l → IsInTick 1 (aged l)
without_tick l waits g r s =
    let h0 = core_aged (core_of l) in let h1 = aged l in
    let h2 = tick_if_waiting 1 (core_aged (core_of l)) (safe_aged (core_of l) (safe_reached (core_of l) r)) in grind arith

-- the host's end in front of its tick, where m came of l
pub host_in_tick : (l m : Link) → m.host ≡ l.host → IsInTick 1 m → Good l → Sounds l → Near (exchanged m)
host_in_tick l m is i g s = grind arith

-- what was noted of a link up to now
pub record Noted (t : List Entry) (l : Link) : Type 0 where
  pub tolds : Tolds t Controller l
  pub sounds : Sounds l
  pub ok : Ok t

-- something more is noted
pub record Notes (t u : List Entry) (l : Link) : Type 0 where
  pub noted : Noted (t ++ u) l
  pub all : AllOk t u

swap_tolds : (t : List Entry) (l : Link) → Tolds t Controller l → Tolds t Host (exchanged l)
swap_tolds t l b = record { here = b.there; there = b.here }

swap_back : (t : List Entry) (l : Link) → Tolds t Host l → Tolds t Controller (exchanged l)
swap_back t l b = record { here = b.there; there = b.here }

-- the link before an event at the controller's end, or at the host's
pub before_here : (l : Link) → Good l → Reached (core_of l) → Sounds l → Before l
before_here l g r s =
    let e : EndEvent = EndStep NextFrame [] GoesOut in
    let st = event_step l (AtController e) (tt, (tt, tt)) g r in
    let next : SafeLink 0 0 (core_of (happens_at_controller l e)) =
    subst (λ c. SafeLink 0 0 c) (sym st.core) (safe_reached _ (reached_more (core_of l) (core_event l (AtController e)) st.allowed r)) in
    record {
      tells = g.controller;
      host = g.host;
      in_order = g.in_order;
      safe = safe_reached (core_of l) r;
      from = from_host (core_of l) r;
      next = next;
      sound = s.controller;
    }

pub before_there : (l : Link) → Good l → Reached (core_of l) → Sounds l → Before (exchanged l)
before_there l g r s =
    let e : EndEvent = EndStep NextFrame [] GoesOut in
    let st = event_step l (AtHost e) (tt, (tt, tt)) g r in
    let m : Link = happens l (AtHost e) in
    let next : SafeLink 0 0 (core_of m) =
    subst (λ c. SafeLink 0 0 c) (sym st.core) (safe_reached _ (reached_more (core_of l) (core_event l (AtHost e)) st.allowed r)) in
    record {
      tells = g.host;
      host = g.controller;
      in_order = seen l g.in_order;
      safe = safe_exchanged 0 0 (core_of l) (safe_reached (core_of l) r);
      from = from_controller (core_of l) r;
      next = safe_exchanged 0 0 (core_of m) next;
      sound = s.host;
    }

pub host_here : (l : Link) (e : EndEvent) → IsAllowed l e → Good l → Reached (core_of l) → (happens_at_controller l e).host ≡ l.host
host_here l e a g r =
    (step_here l e a g.controller g.host g.in_order (rests_of 0 0 (core_of l) (safe_reached (core_of l) r)) (from_host (core_of l) r)).host

-- messages are in order on a link that was reached
reached_ok : (t : List Entry) (l : Link) → Good l → Reached (core_of l) → Tolds t Controller l → Ok t
reached_ok t l g r b = ok_link t 0 0 l (safe_reached (core_of l) r) g.controller g.host b

note_here : (t : List Entry) (l : Link) (e : EndEvent) → IsAllowed l e → Good l → Reached (core_of l) → Noted t l
    → Notes t (here_entries Controller l e) (happens_at_controller l e)
note_here t l e a g r n =
    let u : List Entry = here_entries Controller l e in
    let out = here_told t Controller l e a (before_here l g r n.sounds) n.tolds in
    let st = event_step l (AtController e) a g r in
    let next : Reached (core_of (happens_at_controller l e)) =
    subst Reached (sym st.core) (reached_more (core_of l) (core_event l (AtController e)) st.allowed r) in
    let ok : Ok (t ++ u) = reached_ok (t ++ u) (happens_at_controller l e) st.good next out.tolds in
    record {
      noted = record {
        tolds = out.tolds;
        sounds = record {
          controller = sound_here l e a n.sounds.controller;
          host = subst (λ z. Sound z.side) (sym (host_here l e a g r)) n.sounds.host;
        };
        ok = ok;
      };
      all = between t u Controller n.ok ok (one_here Controller l e) out.few;
    }

note_there : (t : List Entry) (l : Link) (e : EndEvent) → IsAllowed (exchanged l) e → Good l → Reached (core_of l) → Noted t l
    → Notes t (here_entries Host (exchanged l) e) (happens l (AtHost e))
note_there t l e a g r n =
    let k : Link = exchanged l in
    let u : List Entry = here_entries Host k e in
    let b = before_there l g r n.sounds in
    let out = here_told t Host k e a b (swap_tolds t l n.tolds) in
    let tolds = swap_back (t ++ u) (happens_at_controller k e) out.tolds in
    let host : (happens_at_controller k e).host ≡ k.host = (step_here k e a b.tells b.host b.in_order (rests_of 0 0 (core_of k) b.safe) b.from).host in
    let m : Link = happens l (AtHost e) in
    let st = event_step l (AtHost e) a g r in
    let next : Reached (core_of m) = subst Reached (sym st.core) (reached_more (core_of l) (core_event l (AtHost e)) st.allowed r) in
    let ok : Ok (t ++ u) = reached_ok (t ++ u) m st.good next tolds in
    record {
      noted = record {
        tolds = tolds;
        sounds = record { controller = subst (λ z. Sound z.side) (sym host) n.sounds.controller; host = sound_here k e a n.sounds.host };
        ok = ok;
      };
      all = between t u Host n.ok ok (one_here Host k e) out.few;
    }

one_tick : (who : End) (l : Link) (node : Node) → OfOne who (tick_entries who l node)
one_tick who l node =
    one_input who l (with_ended l (is_some (ended_by l.controller.side HasTick))) l.controller HasTick (after_input l.controller.side HasTick)
    node.turns node.ending

-- each of these says nothing of messages
abbrev Quiet : List Entry → Type 0
Quiet [] = Unit {0}
Quiet (e ∷ t) = Silent (e ∷ []) × Quiet t

quiet_front : (p r : List Entry) → Quiet (p ++ r) → Silent p
quiet_front [] r q = λ x n. refl
quiet_front (e ∷ p) r q = silent_cons e p q.0 (quiet_front p r q.1)

quiet-append : (t u : List Entry) → Quiet t → Quiet u → Quiet (t ++ u)
quiet-append [] u a b = b
quiet-append (e ∷ t) u a b = (a.0, quiet-append t u a.1 b)

quiet_all : (t u : List Entry) → Ok t → Quiet u → AllOk t u
quiet_all t u ok q p f = let P : List Entry → Type 0 = λ z. Quiet z in ok_silent t p ok (quiet_front p f.0 (subst P (sym f.1) q))

quiet_aged : (who : End) (w : List OnWire) → Quiet (aged_entries who w)
quiet_aged who [] = tt
quiet_aged who (y ∷ ys) = let h0 = aged_entries who (y ∷ ys) in let h1 = quiet_aged who ys in grind arith

pub note_event : (t : List Entry) (l : Link) (e : LinkEvent) → IsEvent l e → Good l → Reached (core_of l) → Noted t l
    → Notes t (event_entries l e) (happens l e)
note_event t l (AtController e) a g r n = note_here t l e a g r n
note_event t l (AtHost e) a g r n = note_there t l e a g r n
note_event t l (Ticks c es h) a g r n =
    let aged_link : Link = aged l in
    let rests = rests_of 1 1 (core_of aged_link) (safe_aged (core_of l) (safe_reached (core_of l) r)) in
    let ps : List Entry = aged_entries Controller l.to_controller in
    let bs : List Entry = aged_entries Host l.to_host in
    let start : List Entry = Tick ∷ (ps ++ bs) in
    let quiet : Quiet start = ((λ x m. refl), quiet-append ps bs (quiet_aged Controller l.to_controller) (quiet_aged Host l.to_host)) in
    let silent : Silent start =
    let P : List Entry → Type 0 = λ z. Quiet z in quiet_front start [] (subst P (sym (append-nil start)) quiet) in
    let zero_told : Tolds (t ++ start) Controller aged_link =
    record {
      here = told_silent t start Controller l.controller silent n.tolds.here;
      there = told_silent t start Host l.host silent n.tolds.there;
    } in
    let zero_ok : Ok (t ++ start) = ok_silent t start n.ok silent in
    let near : Link = ticks_at_controller aged_link c.turns c.ending in
    let one = step_tick aged_link c.turns c.ending a.0.0 a.0.1 g.controller rests in
    let one_out = tick_told (t ++ start) Controller aged_link c a.0 (record { tells = g.controller; rests = rests; sound = n.sounds.controller }) zero_told in
    let cs : List Entry = tick_entries Controller aged_link c in
    let stands = after_tick l c a.0 g r n.sounds in
    let near_host : Tells near.host = tells_same near.host l.host one.host g.host in
    let one_ok : Ok ((t ++ start) ++ cs) = ok_link ((t ++ start) ++ cs) 0 1 near stands.safe one.tells near_host one_out.tolds in
    let one_all : AllOk (t ++ start) cs = between (t ++ start) cs Controller zero_ok one_ok (one_tick Controller aged_link c) one_out.few in
    let two = all_told es ((t ++ start) ++ cs) near a.1 stands near_host one_out.tolds one_ok in
    let ds : List Entry = entries_of_events Controller near es in
    let m : Link = all_at_controller near es in
    let H : NumberedEnd → Type 0 = λ z. Sound z.side in
    let there = host_in_tick l m (two.host ∙ one.host) two.stands g n.sounds in
    let u : List Entry = ((t ++ start) ++ cs) ++ ds in
    let three = tick_told u Host (exchanged m) h a.2 there (swap_tolds u m two.tolds) in
    let last = step_tick (exchanged m) h.turns h.ending a.2.0 a.2.1 there.tells there.rests in
    let fs : List Entry = tick_entries Host (exchanged m) h in
    let k : Link = ticks_at_controller (exchanged m) h.turns h.ending in
    let all : u ++ fs ≡ t ++ (Tick ∷ (ps ++ (bs ++ (cs ++ (ds ++ fs))))) = simp append_assoc in
    let Q : List Entry → Type 0 = λ z. Tolds z Controller (exchanged k) in
    let tolds : Tolds (t ++ event_entries l (Ticks c es h)) Controller (exchanged k) = subst Q all (swap_back (u ++ fs) k three.tolds) in
    let st = event_step l (Ticks c es h) a g r in
    let next : Reached (core_of (happens l (Ticks c es h))) = subst Reached (sym st.core)
    (reached_more (core_of l) (core_event l (Ticks c es h)) st.allowed r) in
    let ok : Ok (t ++ event_entries l (Ticks c es h)) = reached_ok (t ++ event_entries l (Ticks c es h)) (happens l (Ticks c es h)) st.good next tolds in
    let last_all : AllOk u fs = between u fs Host two.ok (subst (λ z. Ok z) (sym all) ok) (one_tick Host (exchanged m) h) three.few in
    let rest_all : AllOk (t ++ start) (cs ++ (ds ++ fs)) =
    all_then (t ++ start) cs (ds ++ fs) one_all (all_then ((t ++ start) ++ cs) ds fs two.all last_all) in
    let whole : start ++ (cs ++ (ds ++ fs)) ≡ event_entries l (Ticks c es h) = ap (λ z. Tick ∷ z) (append_assoc ps bs (cs ++ (ds ++ fs))) in
    record {
      noted = record {
        tolds = tolds;
        sounds = record { controller = subst H (sym last.host) two.stands.sound; host = sound_tick (exchanged m) h a.2 there.sound };
        ok = ok;
      };
      all = subst (λ z. AllOk t z) whole (all_then t start (cs ++ (ds ++ fs)) (quiet_all t start n.ok quiet) rest_all);
    }
note_event t l (TicksWithout es h) a g r n =
    let near : Link = aged l in
    let ps : List Entry = aged_entries Controller l.to_controller in
    let bs : List Entry = aged_entries Host l.to_host in
    let start : List Entry = Tick ∷ (ps ++ bs) in
    let quiet : Quiet start = ((λ x m. refl), quiet-append ps bs (quiet_aged Controller l.to_controller) (quiet_aged Host l.to_host)) in
    let silent : Silent start =
    let P : List Entry → Type 0 = λ z. Quiet z in quiet_front start [] (subst P (sym (append-nil start)) quiet) in
    let one_told : Tolds (t ++ start) Controller near =
    record {
      here = told_silent t start Controller l.controller silent n.tolds.here;
      there = told_silent t start Host l.host silent n.tolds.there;
    } in
    let two = all_told es (t ++ start) near a.1 (without_tick l a.0 g r n.sounds) g.host one_told (ok_silent t start n.ok silent) in
    let ds : List Entry = entries_of_events Controller near es in
    let m : Link = all_at_controller near es in
    let H : NumberedEnd → Type 0 = λ z. Sound z.side in
    let there = host_in_tick l m two.host two.stands g n.sounds in
    let u : List Entry = (t ++ start) ++ ds in
    let three = tick_told u Host (exchanged m) h a.2 there (swap_tolds u m two.tolds) in
    let last = step_tick (exchanged m) h.turns h.ending a.2.0 a.2.1 there.tells there.rests in
    let fs : List Entry = tick_entries Host (exchanged m) h in
    let k : Link = ticks_at_controller (exchanged m) h.turns h.ending in
    let e : LinkEvent = TicksWithout es h in
    let all : u ++ fs ≡ t ++ event_entries l e = simp append_assoc in
    let Q : List Entry → Type 0 = λ z. Tolds z Controller (exchanged k) in
    let tolds : Tolds (t ++ event_entries l e) Controller (exchanged k) = subst Q all (swap_back (u ++ fs) k three.tolds) in
    let st = event_step l e a g r in
    let next : Reached (core_of (happens l e)) = subst Reached (sym st.core) (reached_more (core_of l) (core_event l e) st.allowed r) in
    let ok : Ok (t ++ event_entries l e) = reached_ok (t ++ event_entries l e) (happens l e) st.good next tolds in
    let last_all : AllOk u fs = between u fs Host two.ok (subst (λ z. Ok z) (sym all) ok) (one_tick Host (exchanged m) h) three.few in
    let whole : start ++ (ds ++ fs) ≡ event_entries l e = ap (λ z. Tick ∷ z) (append_assoc ps bs (ds ++ fs)) in
    record {
      noted = record {
        tolds = tolds;
        sounds = record { controller = subst H (sym last.host) two.stands.sound; host = sound_tick (exchanged m) h a.2 there.sound };
        ok = ok;
      };
      all = subst (λ z. AllOk t z) whole (all_then t start (ds ++ fs) (quiet_all t start n.ok quiet) (all_then (t ++ start) ds fs two.all last_all));
    }
note_event t l (Activate power c id h) a g r n =
    let x : EndEvent = EndStep (Starts power) c.turns c.ending in
    let y : EndEvent = EndStep (Starts id) h.turns h.ending in
    let near : Link = happens_at_controller l x in
    let clf : CanStart l.controller.side.role l.host.side.role = grind arith in
    let one = event_step l (AtController x) (clf, a.2) g r in
    let next : Reached (core_of near) = subst Reached (sym one.core) (reached_more (core_of l) (core_event l (AtController x)) one.allowed r) in
    let host : near.host ≡ l.host = host_here l x (clf, a.2) g r in
    let Q : NumberedEnd → Type 0 = λ z. IsUicc z.side.role × IsNode (exchanged (record l { host = z })) h.turns h.ending in
    let there : Q near.host = subst Q (sym host) (a.1, a.3) in
    let starts : CanStart near.host.side.role near.controller.side.role =
    can_start near.host.side.role near.controller.side.role there.0 (started_clf l power c.turns c.ending a.0) in
    let first = note_here t l x (clf, a.2) g r n in
    let u : List Entry = here_entries Controller l x in
    let v : List Entry = here_entries Host (exchanged near) y in
    let second = note_there (t ++ u) near y (starts, there.1) one.good next first.noted in
    let P : List Entry → Type 0 = λ z. Noted z (happens l (Activate power c id h)) in
    record { noted = subst P (append_assoc t u v) second.noted; all = all_then t u v first.all second.all }

-- ## Runs

-- a link that was reached in a run, of which t was noted
pub record IsUnderWay (t : List Entry) (l : Link) : Type 0 where
  pub good : Good l
  pub reached : Reached (core_of l)
  pub noted : Noted t l

pub goes_on : {t : List Entry} (l : Link) (e : LinkEvent) → IsEvent l e → IsUnderWay t l → IsUnderWay (t ++ event_entries l e) (happens l e)
goes_on {t} l e a w =
    let st = event_step l e a w.good w.reached in
    record {
      good = st.good;
      reached = subst Reached (sym st.core) (reached_more (core_of l) (core_event l e) st.allowed w.reached);
      noted = (note_event t l e a w.good w.reached w.noted).noted;
    }

note_events : (events : List LinkEvent) (t : List Entry) (l : Link) → AllAllowed l events → IsUnderWay t l
    → Notes t (entries l events) (after_link_events l events)
note_events [] t l a w =
    record {
      noted = record {
        tolds = record {
          here = told_silent t [] Controller l.controller (λ x m. refl) w.noted.tolds.here;
          there = told_silent t [] Host l.host (λ x m. refl) w.noted.tolds.there;
        };
        sounds = w.noted.sounds;
        ok = ok_silent t [] w.noted.ok (λ x m. refl);
      };
      all = quiet_all t [] w.noted.ok tt;
    }
note_events (e ∷ es) t l a w =
    let u : List Entry = event_entries l e in
    let v : List Entry = entries (happens l e) es in
    let more = note_events es (t ++ u) (happens l e) a.1 (goes_on l e a.0 w) in
    let P : List Entry → Type 0 = λ z. Noted z (after_link_events (happens l e) es) in
    record { noted = subst P (append_assoc t u v) more.noted; all = all_then t u v (note_event t l e a.0 w.good w.reached w.noted).all more.all }

pub start_noted : (l : Link) → IsStart l → Noted (first_entries l.controller.side.role) l
start_noted l s = grind arith

pub start_under_way : (l : Link) → IsStart l → IsUnderWay (first_entries l.controller.side.role) l
start_under_way l s = record { good = start_good l s; reached = start_reached l s; noted = start_noted l s }

nothing_ok : Ok []
nothing_ok who n = record { got = ([], refl); acked = ([], refl); few = omega arith }

noted : (l : Link) → IsStart l → (events : List LinkEvent) → AllAllowed l events → Noted (trace l events) (after_link_events l events)
noted l s events a = (note_events events (first_entries l.controller.side.role) l a (start_under_way l s)).noted

-- at each moment messages are in order
pub at_each_moment : (l : Link) → IsStart l → (events : List LinkEvent) → AllAllowed l events → (p : List Entry) → IsFrontOf p (trace l events)
    → (who : End) (n : ℕ) → InOrderIn p who n
at_each_moment l s events a p f =
    all_then [] (first_entries l.controller.side.role) (entries l events)
    (quiet_all [] (first_entries l.controller.side.role) nothing_ok (grind arith))
    (note_events events (first_entries l.controller.side.role) l a (start_under_way l s)).all p f

-- what the filters read
pub is_read : (t : List Entry) (who : End) (h : NumberedEnd) (n : ℕ) → Told t who h → IsRead t who n (talk_of h n)
is_read t who h n b = grind arith

pub read_here : (l : Link) → IsStart l → (events : List LinkEvent) → AllAllowed l events → (n : ℕ)
    → IsRead (trace l events) Controller n (talk_of (after_link_events l events).controller n)
read_here l s events a n = is_read (trace l events) Controller (after_link_events l events).controller n (noted l s events a).tolds.here

pub read_there : (l : Link) → IsStart l → (events : List LinkEvent) → AllAllowed l events → (n : ℕ)
    → IsRead (trace l events) Host n (talk_of (after_link_events l events).host n)
read_there l s events a n = is_read (trace l events) Host (after_link_events l events).host n (noted l s events a).tolds.there
