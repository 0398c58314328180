-- The numbers of ended sessions: none comes again, and an end that was below another goes past it, if its number grows.
use Rattle.node_laws.proofs.Words.{Acts, AllByRecursion, AllShdlcAllowed, AreTurns, Asks, AtEnd, Bool, Commits, Control, Controller, Core, Cut, Deed, Deliver}
use Rattle.node_laws.proofs.Words.{Desk, Emit, EndState, FetchMessage, Give, Hold, Host, Ignore, IsAnswered, LinkState, List, Lost, Message, NodeInput, None}
use Rattle.node_laws.proofs.Words.{NumberedShdlc, OfHost, OnWire, Option, Orders, Plain, Port, Release, Releases, Restarted, Running, SafeLink, Seen, Sends}
use Rattle.node_laws.proofs.Words.{Session, SetsErrors, ShdlcEndEvent, ShdlcLink, ShdlcLinkEvent, ShdlcTurn, Some, Tells, TimePasses, Took, Turn, Turns, Up}
use Rattle.node_laws.proofs.Words.{Waiting, Work, [], act_frame, after_sessions, after_turn, all_changed, all_come, all_done, all_map, all_of_host, all_owed}
use Rattle.node_laws.proofs.Words.{all_owed_hold, all_synced_hold, anyone, ap, arith, asked_at, by_option, by_test, deeds_of, done, ended_session, false}
use Rattle.node_laws.proofs.Words.{flat_map, forgets, forgotten, forgotten_hold, frames_of, has_come, if◌then◌else◌, inl, input_at, inr, is_forgotten, is_late}
use Rattle.node_laws.proofs.Words.{is_over, is_rset, is_some, is_up, is_waiting, list_any, ltb-false, ltb-true, map, max, most_frames, nat_lt, new_end}
use Rattle.node_laws.proofs.Words.{no_session, older, port_at, refl, reset_late, reset_with, runs_on, see, see_all, shdlc_after, shdlc_aged}
use Rattle.node_laws.proofs.Words.{shdlc_all_at_controller, shdlc_becomes, shdlc_exchanged, shdlc_happens, shdlc_happens_at_controller, shdlc_number_of}
use Rattle.node_laws.proofs.Words.{shdlc_put, shdlc_put_all, shdlc_session_of, shdlc_silent, shdlc_ticks_at_controller, shdlc_turned, silences, steps, stopped}
use Rattle.node_laws.proofs.Words.{subst, sym, synced, take_answer, taken, tick_answer, ticked, ticks_if_waiting, ticks_or_cut, times_out, took_with, true}
use Rattle.node_laws.proofs.Words.{true≢false, turn_at, with_desk, with_older, with_port, with_shdlc_ended, without_notice, ℕ, ◌++◌, ◌+◌, ◌<◌, ◌==◌, ◌∙◌, ◌∷◌}
use Rattle.node_laws.proofs.Words.{◌≡◌, ◌≤◌, ◌⊎◌}
use Rattle.link_laws.proofs.sessions.Data.{Base, Below, OnLive, bound}
use Rattle.link_laws.proofs.sessions.Steps.{safe_event, safe_turns}
use Rattle.link_laws.proofs.sessions.Wire.{live}
use Rattle.link_laws.specs.entries.Entries.{End, Entry}
use Rattle.link_laws.specs.entries.Entries.Entry.{Tick}
use Rattle.link_laws.specs.entries.Reading.{numbered}
use Rattle.link_laws.specs.sessions.Losses.{sans}
use Rattle.link_laws.specs.sessions.Sessions.ShdlcEndEvent.{Cut as CoreCut, Lose, Reset, Stop}
use Rattle.link_laws.specs.sessions.Sessions.ShdlcLinkEvent.{AtController, AtHost, Tick as CoreTick, TickWithout}
use Rattle.shdlc_core.specs.Machine.{after_frames}
use Rattle.shdlc_core.specs.declared.answers.LinkState.TheVariants.{Down}
use Rattle.node_laws.proofs.links.Noticing.{came_node}
use Rattle.node_laws.proofs.steps.StepWalks.{Lasts, all_do, got_at, rest_lasts, sessions_node}

-- ## A host keeps no notice of a controller: nothing that it does in a step gives it one

-- ### Deeds

-- no notice comes of it
abbrev pub IsUnnoticed : Deed → Type 0
IsUnnoticed (Asks to message c) = ⊥
IsUnnoticed (Tells to message) = ⊥
IsUnnoticed _ = Unit {0}

abbrev pub AreUnnoticed : List Deed → Type 0
AreUnnoticed deeds = AllByRecursion IsUnnoticed deeds

plain : Plain IsUnnoticed
plain = record { sends = λ to x. tt; says_ok = tt; releases = λ asker. tt; is_answered = tt; drops = λ pid. tt }

own : (core : Core) → OfHost IsUnnoticed core
own core = record { commits = λ c. tt; hears = tt; goes_on = λ i. tt; orders = λ i k order is. tt; same = tt; made = λ count. tt; failed = λ code. tt }

-- ### Ends

-- a host in a step, whose ends have no notice
abbrev HasNone : Port → Type 0
HasNone p = p.desk.notice ≡ None

pub record HasNoNotices (w : Work) : Type 0 where
  pub host : (w.core.node == 0) ≡ false
  pub none : AllByRecursion HasNone w.ports

port_none : (h : ℕ) (f : Port → Port) → ((q : Port) → HasNone q → HasNone (f q)) → (ports : List Port) → AllByRecursion HasNone ports
    → AllByRecursion HasNone (with_port h f ports)
port_none h f one ports a = all_changed HasNone (λ p. p.desk.host == h) f one ports a

turn_none : (h : ℕ) (t : Turn) (w : Work) → HasNoNotices w → HasNoNotices (turn_at h t w)
turn_none h t w a = record { host = a.host; none = port_none h (after_turn t) (λ p b. b) w.ports a.none }

desk_none : (h : ℕ) (f : Desk → Desk) (w : Work) → ((d : Desk) → d.notice ≡ None → (f d).notice ≡ None) → HasNoNotices w → HasNoNotices (with_desk h f w)
desk_none h f w one a = record { host = a.host; none = port_none h (λ p. record p { desk = f p.desk }) (λ p b. one p.desk b) w.ports a.none }

done_none : (h : ℕ) (d : Deed) (w : Work) → IsUnnoticed d → HasNoNotices w → HasNoNotices (done h d w)
done_none h (Commits c) w u a = grind arith
done_none h (Sends to m) w u a = turn_none to (Give m) w a
done_none h (Asks to message c) w u a = absurd u
done_none h (Releases asker) w u a = turn_none asker Release w a
done_none h (Tells to message) w u a = absurd u
done_none h IsAnswered w u a = desk_none h (λ d. record d { notice = None }) w (λ d b. refl) a
done_none h (SetsErrors errors) w u a = desk_none h (λ d. record d { errors = errors }) w (λ d b. b) a
done_none h (Orders message) w u a =
    turn_none h (Give (1, message)) (record w { core = record w.core { command = Some message } }) (record { host = a.host; none = a.none })
done_none h _ w u a = record { host = a.host; none = a.none }

pub all_done_none : (h : ℕ) (deeds : List Deed) (w : Work) → AreUnnoticed deeds → HasNoNotices w → HasNoNotices (all_done h deeds w)
all_done_none h deeds w u a = all_do HasNoNotices IsUnnoticed done_none h deeds w u a

-- ### The pass over its ends

deeds_unnoticed : (core : Core) (ports : List Port) (h : ℕ) (m : Message) → (core.node == 0) ≡ false → AreUnnoticed (deeds_of core ports h m)
deeds_unnoticed core ports h m off = by_option (port_at ports h)
    (λ q. rw (off, q) tt)
    (λ p q. rw (off, q) (all_of_host IsUnnoticed core plain (own core) p m (λ n value command zero is. tt)))

abbrev Any : ℕ → Message → Type 0
Any h m = Unit {0}

none_lasts : Lasts HasNoNotices IsUnnoticed Any
none_lasts = record {
  does = done_none;
  turn_told = λ h m w any a. record { host = a.host; none = a.none };
  held_told = λ h need spare w a. record { host = a.host; none = a.none };
  fetched = λ h w a. turn_none h FetchMessage w a;
  held = λ h flag w a. turn_none h (Hold flag) w a;
  marked = λ h flag w a. desk_none h (λ d. record d { holds = flag }) w (λ d b. b) a;
  come = λ h w a. anyone (Any h) (λ m. tt) (got_at h w);
  causes = λ h m w any a. deeds_unnoticed w.core w.ports h m a.host;
}

-- ### Steps

older_none : (p : Port) → HasNone p → HasNone (with_older p)
older_none p a = rw a refl

late_none : (p : Port) → HasNone p → HasNone (reset_late p)
late_none p a = by_test (is_late p) (λ q. rw q a) (λ q. rw q a)

without_none : (p : Port) → HasNone p → HasNone (without_notice p)
without_none p a = by_test (is_over p) (λ q. rw q refl) (λ q. rw q a)

forgets_none : (ports : List Port) (p : Port) → HasNone p → HasNone (forgets ports p)
forgets_none ports p a = by_test (is_forgotten ports (asked_at p)) (λ q. rw (q, a) refl) (λ q. rw q a)

came_none : (input : NodeInput) (w : Work) → HasNoNotices w → AllByRecursion HasNone (times_out input (all_come input w)).ports
came_none (AtEnd h i) w a = all_map HasNone HasNone (λ p. has_come p (input_at (AtEnd h i) p)) (λ p b. grind arith) w.ports a.none
came_none TimePasses w a =
    all_map HasNone HasNone reset_late late_none _
    (all_map HasNone HasNone with_older older_none _
    (all_map HasNone HasNone (λ p. has_come p (input_at TimePasses p)) (λ p b. grind arith) w.ports a.none))

pub steps_none : (input : NodeInput) (w : Work) → HasNoNotices w → HasNoNotices (steps input w)
steps_none input w a =
    let came : Work = times_out input (all_come input w) in
    let left : List Port = map (forgets came.ports) came.ports in
    let begun : Work = record came { core = after_sessions came.core came.ports; ports = map without_notice left } in
    let first : HasNoNotices begun = record {
      host = ap (λ n. n == 0) (sessions_node came.core came.ports) ∙ (ap (λ (c : Core). c.node == 0) (came_node input w) ∙ a.host);
      none = all_map HasNone HasNone without_notice without_none left
          (all_map HasNone HasNone (forgets came.ports) (forgets_none came.ports) came.ports (came_none input w a));
    } in
    rest_lasts HasNoNotices IsUnnoticed Any none_lasts (forgotten came.ports) (flat_map (synced w.core input) w.ports) (all_owed left) begun
    (forgotten_hold IsUnnoticed (λ asker. tt) came.ports) (all_synced_hold IsUnnoticed (λ host id. tt) w.core input w.ports)
    (all_owed_hold IsUnnoticed (λ asker. tt) (λ to r. tt) left) first

-- ### Hosts

-- a host that runs has no notice of a controller
abbrev pub IfNone : Option Running → Type 0
IfNone None = Unit {0}
IfNone (Some r) = AllByRecursion (λ (d : Desk). d.notice ≡ None) r.desks

desks_none : (ports : List Port) → AllByRecursion HasNone ports → AllByRecursion (λ (d : Desk). d.notice ≡ None) (map (λ (p : Port). p.desk) ports)
desks_none [] a = tt
desks_none (p ∷ ports) a = (a.0, desks_none ports a.1)

pub runs_none : (k : Work) → HasNoNotices k → IfNone (runs_on k)
runs_none k a = by_test k.cut (λ q. rw q tt) (λ q. rw q (desks_none k.ports a.none))

-- ## Once both wires are empty, the number of an end that was below another goes past that one, if it grows at all

-- the frames on their way to an end, and the greatest number that it has put on the link and taken
abbrev pub mail : End → Seen → List OnWire
mail Controller s = s.to_controller
mail Host s = s.to_host

abbrev pub put_by : End → Seen → ℕ
put_by Controller s = s.by_controller
put_by Host s = s.by_host

abbrev pub taken_by : End → Seen → ℕ
taken_by Controller s = s.at_controller
taken_by Host s = s.at_host

abbrev pub number_seen : End → Seen → ℕ
number_seen who s = max (put_by who s) (taken_by who s)

module _ (n : ℕ) where
  -- an RSET has a greater number
  abbrev pub IsOver : OnWire → Type 0
  IsOver x = is_rset x.frame ≡ true → n < x.number

  abbrev pub AreOver : List OnWire → Type 0
  AreOver [] = Unit {0}
  AreOver (x ∷ xs) = IsOver x × AreOver xs

  -- the end doesn't have this number, and won't
  pub record Jumps (who : End) (s : Seen) : Type 0 where
    pub over : AreOver (mail who s)
    pub resets : n ≤ s.resets
    pub gave : put_by who s ≡ n → ⊥
    pub took : taken_by who s ≡ n → ⊥

  over_push : (w : List OnWire) (x : OnWire) → AreOver w → IsOver x → AreOver (w ++ x ∷ [])
  over_push [] x a b = (b, tt)
  over_push (y ∷ w) x a b = (a.0, over_push w x a.1 b)

  over_older : (w : List OnWire) → AreOver w → AreOver (older w)
  over_older [] a = tt
  over_older (x ∷ w) a = (a.0, over_older w a.1)

  over_new : (s : Seen) (c : Control) → n ≤ s.resets → IsOver (numbered s c)
  over_new s c r q = rw q (omega (arith, r))

  more : (b : Bool) (k : ℕ) → n ≤ k → n ≤ (if b then k + 1 else k)
  more b k r = grind arith

  see_jumps : (who : End) (s : Seen) (e : Entry) → Jumps who s → Jumps who (see s e)
  see_jumps Controller s (Emit Controller c) j = grind arith
  see_jumps Controller s (Emit Host c) j =
      record {
        over = over_push s.to_controller (numbered s c) j.over (over_new s c j.resets);
        resets = more (is_rset c) s.resets j.resets;
        gave = j.gave;
        took = j.took;
      }
  see_jumps Host s (Emit Host c) j = grind arith
  see_jumps Host s (Emit Controller c) j =
      record {
        over = over_push s.to_host (numbered s c) j.over (over_new s c j.resets);
        resets = more (is_rset c) s.resets j.resets;
        gave = j.gave;
        took = j.took;
      }
  see_jumps Controller s (Took Controller c) j = grind arith
  see_jumps Controller s (Took Host c) j = record { over = j.over; resets = j.resets; gave = j.gave; took = j.took }
  see_jumps Host s (Took Host c) j = grind arith
  see_jumps Host s (Took Controller c) j = record { over = j.over; resets = j.resets; gave = j.gave; took = j.took }
  see_jumps Controller s (Lost Controller c why) j = grind arith
  see_jumps Controller s (Lost Host c why) j = record { over = j.over; resets = j.resets; gave = j.gave; took = j.took }
  see_jumps Host s (Lost Host c why) j = record { over = grind arith; resets = j.resets; gave = j.gave; took = j.took }
  see_jumps Host s (Lost Controller c why) j = record { over = j.over; resets = j.resets; gave = j.gave; took = j.took }
  see_jumps Controller s Tick j = record { over = over_older s.to_controller j.over; resets = j.resets; gave = j.gave; took = j.took }
  see_jumps Host s Tick j = record { over = over_older s.to_host j.over; resets = j.resets; gave = j.gave; took = j.took }
  see_jumps Controller s (Restarted w) j = record { over = tt; resets = j.resets; gave = j.gave; took = j.took }
  see_jumps Host s (Restarted w) j = record { over = tt; resets = j.resets; gave = j.gave; took = j.took }
  see_jumps Controller s (Cut w) j = record { over = tt; resets = j.resets; gave = j.gave; took = j.took }
  see_jumps Host s (Cut w) j = record { over = tt; resets = j.resets; gave = j.gave; took = j.took }
  see_jumps who s _ j = j

  pub all_jump : (who : End) (t : List Entry) (s : Seen) → Jumps who s → Jumps who (see_all s t)
  all_jump who [] s j = j
  all_jump who (e ∷ t) s j = all_jump who t (see s e) (see_jumps who s e j)

-- ### Numbers only grow

-- its numbers are those of RSETs that were put on the link
abbrev pub StaysWithin : End → Seen → Type 0
StaysWithin who s = put_by who s ≤ s.resets

pub see_within : (who : End) (s : Seen) (e : Entry) → StaysWithin who s → StaysWithin who (see s e)
see_within who s e w = grind arith

see_resets : (s : Seen) (e : Entry) → s.resets ≤ (see s e).resets
see_resets s e = grind arith

same : (m : ℕ) → m ≤ m
same m = omega arith

see_number : (who : End) (s : Seen) (e : Entry) → StaysWithin who s → number_seen who s ≤ number_seen who (see s e)
see_number who s e w = grind arith

pub all_resets : (t : List Entry) (s : Seen) → s.resets ≤ (see_all s t).resets
all_resets [] s = same s.resets
all_resets (e ∷ t) s = omega (arith, see_resets s e, all_resets t (see s e))

pub all_number : (who : End) (t : List Entry) (s : Seen) → StaysWithin who s → number_seen who s ≤ number_seen who (see_all s t)
all_number who [] s w = same (number_seen who s)
all_number who (e ∷ t) s w = omega (arith, see_number who s e w, all_number who t (see s e) (see_within who s e w))

-- ### Both wires are empty once

-- behind a start, a stop or a cut an end doesn't have a number that is in use and won't, or has it or a greater one
pub silenced : (n : ℕ) (who : End) (t : List Entry) (s : Seen) → StaysWithin who s → n ≤ s.resets → list_any silences t ≡ true
    → Jumps n who (see_all s t) ⊎ (n ≤ number_seen who (see_all s t))
silenced n who [] s w r q = absurd (true≢false (sym q))
silenced n who (e ∷ t) s w r q = go (silences e) refl (silenced n who t (see s e) (see_within who s e w) (omega (arith, r, see_resets s e)))
  where
    empty : (who : End) → silences e ≡ true → mail who (see s e) ≡ []
    empty who p = grind arith

    over : (w : List OnWire) → w ≡ [] → AreOver n w
    over w p = rw p tt

    decide : silences e ≡ true → (b : Bool) → nat_lt (number_seen who (see s e)) n ≡ b
        → Jumps n who (see_all s (e ∷ t)) ⊎ (n ≤ number_seen who (see_all s (e ∷ t)))
    decide p true z =
        let low : number_seen who (see s e) < n = ltb-true (number_seen who (see s e)) n z in
        let res = see_resets s e in
        inl (all_jump n who t (see s e) (grind arith))
    decide p false z =
        inr (omega (arith, ltb-false (number_seen who (see s e)) n z, all_number who t (see s e) (see_within who s e w)))

    go : (b : Bool) → silences e ≡ b
        → (list_any silences t ≡ true → Jumps n who (see_all (see s e) t) ⊎ (n ≤ number_seen who (see_all (see s e) t)))
        → Jumps n who (see_all s (e ∷ t)) ⊎ (n ≤ number_seen who (see_all s (e ∷ t)))
    go true p later = decide p (nat_lt (number_seen who (see s e)) n) refl
    go false p later = later (let z = q in rw p at z)

-- ## Below the ended sessions of an end another may stand, of which nothing is known: so it doesn't come up with its number again

-- an end below whose ended sessions these stand
abbrev below : List (ℕ × Session) → NumberedShdlc → NumberedShdlc
below p h = record h { past = h.past ++ p }

-- a link with such ends
abbrev marked : List (ℕ × Session) → List (ℕ × Session) → ShdlcLink → ShdlcLink
marked p q l = record l { controller = below p l.controller; host = below q l.host }

-- ### All that happens leaves them there

-- an end that is inactive passes over a frame
ignored : (l : ShdlcLink) (ts : List ShdlcTurn) (y : OnWire) (ys : List OnWire) → l.controller.side.phase ≡ Down → l.to_controller ≡ y ∷ ys
    → shdlc_happens_at_controller l (Ignore ts)
    ≡ shdlc_becomes (record l { to_controller = ys; controller = record l.controller { took = took_with l.controller.took y } })
    (shdlc_turned l.controller.side ts)
ignored l ts y ys x z = rw (x, z) refl

none_first : (l : ShdlcLink) (ts : List ShdlcTurn) → l.to_controller ≡ [] → shdlc_happens_at_controller l (Ignore ts) ≡ l
none_first l ts z = grind arith

up_first : (l : ShdlcLink) (ts : List ShdlcTurn) → l.controller.side.phase ≡ Up → shdlc_happens_at_controller l (Ignore ts) ≡ l
up_first l ts x = rw x refl

waiting_first : (l : ShdlcLink) (ts : List ShdlcTurn) → l.controller.side.phase ≡ Waiting → shdlc_happens_at_controller l (Ignore ts) ≡ l
waiting_first l ts x = rw x refl

module _ (p q : List (ℕ × Session)) where
  puts_marked : (cs : List Control) (l : ShdlcLink) → shdlc_put_all (marked p q l) cs ≡ marked p q (shdlc_put_all l cs)
  puts_marked [] l = refl
  puts_marked (c ∷ cs) l = ap (λ k. shdlc_put_all k cs) (grind arith) ∙ puts_marked cs (shdlc_put l c)

  becomes_marked : (l : ShdlcLink) (e : EndState) → shdlc_becomes (marked p q l) e ≡ marked p q (shdlc_becomes l e)
  becomes_marked l e =
      ap (λ (k : ShdlcLink). record k { controller = record k.controller { side = after_frames most_frames e } }) (puts_marked (frames_of most_frames e) l)

  ended_marked : (l : ShdlcLink) (b : Bool) → with_shdlc_ended (marked p q l) b ≡ marked p q (with_shdlc_ended l b)
  ended_marked l b = grind arith

  silent_marked : (l : ShdlcLink) (e : EndState) → shdlc_silent (marked p q l) e ≡ marked p q (shdlc_silent l e)
  silent_marked l e = grind arith

  then_becomes : (l k : ShdlcLink) (e : EndState) → k ≡ marked p q l → shdlc_becomes k e ≡ marked p q (shdlc_becomes l e)
  then_becomes l k e x = ap (λ z. shdlc_becomes z e) x ∙ becomes_marked l e

  here_marked : (l : ShdlcLink) (e : ShdlcEndEvent) → shdlc_happens_at_controller (marked p q l) e ≡ marked p q (shdlc_happens_at_controller l e)
  here_marked l (Turns ts) = becomes_marked l (shdlc_turned l.controller.side ts)
  here_marked l (Deliver ts) = go l.to_controller refl
    where
      go : (w : List OnWire) → l.to_controller ≡ w
          → shdlc_happens_at_controller (marked p q l) (Deliver ts) ≡ marked p q (shdlc_happens_at_controller l (Deliver ts))
      go [] x = rw x refl
      go (y ∷ ys) x =
          let b : Bool = is_some (take_answer l.controller.side y.frame).ended in
          let k : ShdlcLink = record l { to_controller = ys } in
          let took : ShdlcLink → ShdlcLink = λ m. record m { controller = record m.controller { took = took_with l.controller.took y } } in
          rw x (then_becomes (took (with_shdlc_ended k b)) (took (with_shdlc_ended (marked p q k) b)) (shdlc_turned (taken l.controller.side y.frame) ts)
          (ap took (ended_marked k b)))
  here_marked l (Ignore ts) = go l.controller.side.phase l.to_controller refl refl
    where
      go : (s : LinkState) (w : List OnWire) → l.controller.side.phase ≡ s → l.to_controller ≡ w
          → shdlc_happens_at_controller (marked p q l) (Ignore ts) ≡ marked p q (shdlc_happens_at_controller l (Ignore ts))
      go Down (y ∷ ys) x z =
          ignored (marked p q l) ts y ys x z
          ∙ (becomes_marked (record l { to_controller = ys; controller = record l.controller { took = took_with l.controller.took y } })
          (shdlc_turned l.controller.side ts) ∙ ap (marked p q) (sym (ignored l ts y ys x z)))
      go Down [] x z = none_first (marked p q l) ts z ∙ ap (marked p q) (sym (none_first l ts z))
      go Up w x z = up_first (marked p q l) ts x ∙ ap (marked p q) (sym (up_first l ts x))
      go Waiting w x z = waiting_first (marked p q l) ts x ∙ ap (marked p q) (sym (waiting_first l ts x))
  here_marked l (Acts acts ts) =
      then_becomes (shdlc_put_all l (map act_frame acts)) (shdlc_put_all (marked p q l) (map act_frame acts)) (shdlc_turned l.controller.side ts)
      (puts_marked (map act_frame acts) l)
  here_marked l Lose = refl
  here_marked l (Reset w ts) =
      let b : Bool = is_up l.controller.side.phase in
      then_becomes (with_shdlc_ended l b) (with_shdlc_ended (marked p q l) b) (shdlc_turned (reset_with l.controller.side w) ts) (ended_marked l b)
  here_marked l CoreCut = silent_marked l (new_end 4)
  here_marked l Stop = silent_marked l (stopped l.controller.side)

  all_marked : (es : List ShdlcEndEvent) (l : ShdlcLink) → shdlc_all_at_controller (marked p q l) es ≡ marked p q (shdlc_all_at_controller l es)
  all_marked [] l = refl
  all_marked (e ∷ es) l = ap (λ k. shdlc_all_at_controller k es) (here_marked l e) ∙ all_marked es (shdlc_happens_at_controller l e)

  ticks_marked : (l : ShdlcLink) (ts : List ShdlcTurn) → shdlc_ticks_at_controller (marked p q l) ts ≡ marked p q (shdlc_ticks_at_controller l ts)
  ticks_marked l ts =
      let b : Bool = is_some (tick_answer l.controller.side).ended in
      then_becomes (with_shdlc_ended l b) (with_shdlc_ended (marked p q l) b) (shdlc_turned (ticked l.controller.side) ts) (ended_marked l b)

  tick_marked : (o : Option (List ShdlcTurn)) (l : ShdlcLink) → ticks_or_cut o (marked p q l) ≡ marked p q (ticks_or_cut o l)
  tick_marked (Some ts) l = ticks_marked l ts
  tick_marked None l = silent_marked l (new_end 4)

  waits_marked : (l : ShdlcLink) → ticks_if_waiting (marked p q l) ≡ marked p q (ticks_if_waiting l)
  waits_marked l = by_test (is_waiting l.controller.side) (λ x. rw x (ticks_marked l [])) (λ x. rw x refl)

module _ (p q : List (ℕ × Session)) where
  then_there : (es : List ShdlcEndEvent) (o : Option (List ShdlcTurn)) (l k : ShdlcLink) → k ≡ marked p q l
      → shdlc_exchanged (ticks_or_cut o (shdlc_exchanged (shdlc_all_at_controller k es)))
      ≡ marked p q (shdlc_exchanged (ticks_or_cut o (shdlc_exchanged (shdlc_all_at_controller l es))))
  then_there es o l k x =
      ap (λ z. shdlc_exchanged (ticks_or_cut o (shdlc_exchanged (shdlc_all_at_controller z es)))) x
      ∙ (ap (λ z. shdlc_exchanged (ticks_or_cut o (shdlc_exchanged z))) (all_marked p q es l)
      ∙ ap shdlc_exchanged (tick_marked q p o (shdlc_exchanged (shdlc_all_at_controller l es))))

  event_marked : (l : ShdlcLink) (e : ShdlcLinkEvent) → shdlc_happens (marked p q l) e ≡ marked p q (shdlc_happens l e)
  event_marked l (AtController e) = here_marked p q l e
  event_marked l (AtHost e) = ap shdlc_exchanged (here_marked q p (shdlc_exchanged l) e)
  event_marked l (CoreTick c es h) = then_there es h (ticks_or_cut c (shdlc_aged l)) (ticks_or_cut c (shdlc_aged (marked p q l)))
      (tick_marked p q c (shdlc_aged l))
  event_marked l (TickWithout es h) =
      then_there es h (ticks_if_waiting (shdlc_aged l)) (ticks_if_waiting (shdlc_aged (marked p q l))) (waits_marked p q (shdlc_aged l))

-- ### They change no session

-- these sessions have no fragments
abbrev Blank : List (ℕ × Session) → Type 0
Blank [] = Unit {0}
Blank (x ∷ xs) = (x.1 ≡ no_session) × Blank xs

none_in : (p : List (ℕ × Session)) (k : ℕ) → Blank p → ended_session p k ≡ no_session
none_in [] k b = refl
none_in (x ∷ xs) k b = by_test (k == x.0) (λ q. rw q b.0) (λ q. rw q (none_in xs k b.1))

ended_below : (past p : List (ℕ × Session)) (k : ℕ) → Blank p → ended_session (past ++ p) k ≡ ended_session past k
ended_below [] p k b = none_in p k b
ended_below (x ∷ past) p k b = ap (λ s. if k == x.0 then x.1 else s) (ended_below past p k b)

of_below : (p : List (ℕ × Session)) (h : NumberedShdlc) (k : ℕ) → Blank p → shdlc_session_of (below p h) k ≡ shdlc_session_of h k
of_below p h k b = go h.side.phase refl
  where
    e : ended_session (h.past ++ p) k ≡ ended_session h.past k
    e = ended_below h.past p k b

    go : (s : LinkState) → h.side.phase ≡ s → shdlc_session_of (below p h) k ≡ shdlc_session_of h k
    go Up x = rw x (ap (λ s. if k == shdlc_number_of h then h.side.session else s) e)
    go Waiting x = rw x e
    go Down x = rw x e

bound_below : (p : List (ℕ × Session)) (h : NumberedShdlc) → bound (below p h) ≡ bound h
bound_below p h = grind arith

below_both : (b : ℕ) (past p : List (ℕ × Session)) → Below b past → Below b p → Below b (past ++ p)
below_both b [] p x y = y
below_both b (z ∷ past) p x y = (x.0, below_both b past p x.1 y)

below_right : (b : ℕ) (past p : List (ℕ × Session)) → Below b (past ++ p) → Below b p
below_right b [] p x = x
below_right b (z ∷ past) p x = below_right b past p x.1

safe_marked : (kn kf : ℕ) (p q : List (ℕ × Session)) (l : ShdlcLink) → Blank p → Blank q → Below (bound l.controller) p → Below (bound l.host) q
    → SafeLink kn kf l → SafeLink kn kf (marked p q l)
safe_marked kn kf p q l bp bq up uq h =
    record {
      hand = h.hand;
      n_base = λ k. base (shdlc_session_of l.controller k) (shdlc_session_of n k) (shdlc_session_of l.host k) (shdlc_session_of f k) (mine k) (theirs k)
          (h.n_base k);
      f_base = λ k. base (shdlc_session_of l.host k) (shdlc_session_of f k) (shdlc_session_of l.controller k) (shdlc_session_of n k) (theirs k) (mine k)
          (h.f_base k);
      n_live = lives (live n.side.phase (sans l.to_controller)) (shdlc_session_of l.controller (shdlc_number_of n)) (shdlc_session_of n (shdlc_number_of n))
          (shdlc_session_of l.host (shdlc_number_of n)) (shdlc_session_of f (shdlc_number_of n)) (mine (shdlc_number_of n))
          (theirs (shdlc_number_of n)) h.n_live;
      f_live = lives (live f.side.phase (sans l.to_host)) (shdlc_session_of l.host (shdlc_number_of f)) (shdlc_session_of f (shdlc_number_of f))
          (shdlc_session_of l.controller (shdlc_number_of f)) (shdlc_session_of n (shdlc_number_of f)) (theirs (shdlc_number_of f))
          (mine (shdlc_number_of f)) h.f_live;
      n_past = let P : ℕ → Type 0 = λ b. Below b (l.controller.past ++ p) in
          subst P (sym (bound_below p l.controller)) (below_both (bound l.controller) l.controller.past p h.n_past up);
      f_past = subst (λ (b : ℕ). Below b (l.host.past ++ q)) (sym (bound_below q l.host)) (below_both (bound l.host) l.host.past q h.f_past uq);
      n_none = h.n_none;
      f_none = h.f_none;
      n_due = h.n_due;
      f_due = h.f_due;
      n_windows = h.n_windows;
      f_windows = h.f_windows;
    }
  where
    n : NumberedShdlc
    n = below p l.controller

    f : NumberedShdlc
    f = below q l.host

    mine : (k : ℕ) → shdlc_session_of n k ≡ shdlc_session_of l.controller k
    mine k = of_below p l.controller k bp

    theirs : (k : ℕ) → shdlc_session_of f k ≡ shdlc_session_of l.host k
    theirs k = of_below q l.host k bq

    base : (s s' t t' : Session) → s' ≡ s → t' ≡ t → Base s t → Base s' t'
    base s s' t t' a b x = rw (a, b) x

    lives : (o : Option (List OnWire)) (s s' t t' : Session) → s' ≡ s → t' ≡ t → OnLive o s t → OnLive o s' t'
    lives o s s' t t' a b x = rw (a, b) x

near_bound : (kn kf : ℕ) (p q : List (ℕ × Session)) (l : ShdlcLink) → SafeLink kn kf (marked p q l) → Below (bound l.controller) p
near_bound kn kf p q l h =
    below_right (bound l.controller) l.controller.past p (subst (λ (b : ℕ). Below b (l.controller.past ++ p)) (bound_below p l.controller) h.n_past)

far_bound : (kn kf : ℕ) (p q : List (ℕ × Session)) (l : ShdlcLink) → SafeLink kn kf (marked p q l) → Below (bound l.host) q
far_bound kn kf p q l h = below_right (bound l.host) l.host.past q (subst (λ (b : ℕ). Below b (l.host.past ++ q)) (bound_below q l.host) h.f_past)

-- ### What is past stays so

-- no session of the end begins with this number any more
abbrev pub IsPast : ℕ → NumberedShdlc → Type 0
IsPast n h = n < bound h

abbrev one : ℕ → List (ℕ × Session)
one n = (n, no_session) ∷ []

-- as things happen at the end
pub turns_past : (n kf : ℕ) (es : List ShdlcEndEvent) (l : ShdlcLink) → AreTurns es → SafeLink 0 kf l → IsPast n l.controller
    → IsPast n (shdlc_all_at_controller l es).controller
turns_past n kf es l a s x =
    let P : ShdlcLink → Type 0 = λ k. SafeLink 0 kf k in
    (near_bound 0 kf (one n) [] (shdlc_all_at_controller l es)
    (subst P (all_marked (one n) [] es l) (safe_turns kf es (marked (one n) [] l) a (safe_marked 0 kf (one n) [] l (refl, tt) tt (x, tt) tt s)))).0

events_safe : (p q : List (ℕ × Session)) (es : List ShdlcLinkEvent) (l : ShdlcLink) → AllShdlcAllowed es → SafeLink 0 0 (marked p q l)
    → SafeLink 0 0 (marked p q (shdlc_after l es))
events_safe p q [] l a s = s
events_safe p q (e ∷ es) l a s =
    let r = safe_event (marked p q l) e es a s in
    events_safe p q es (shdlc_happens l e) r.1 (subst (λ (k : ShdlcLink). SafeLink 0 0 k) (event_marked p q l e) r.0)

-- as things happen on the link
pub near_past : (n : ℕ) (es : List ShdlcLinkEvent) (l : ShdlcLink) → AllShdlcAllowed es → SafeLink 0 0 l → IsPast n l.controller
    → IsPast n (shdlc_after l es).controller
near_past n es l a s x =
    (near_bound 0 0 (one n) [] (shdlc_after l es) (events_safe (one n) [] es l a (safe_marked 0 0 (one n) [] l (refl, tt) tt (x, tt) tt s))).0

pub far_past : (n : ℕ) (es : List ShdlcLinkEvent) (l : ShdlcLink) → AllShdlcAllowed es → SafeLink 0 0 l → IsPast n l.host → IsPast n (shdlc_after l es).host
far_past n es l a s x =
    (far_bound 0 0 [] (one n) (shdlc_after l es) (events_safe [] (one n) es l a (safe_marked 0 0 [] (one n) l tt (refl, tt) tt (x, tt) s))).0
