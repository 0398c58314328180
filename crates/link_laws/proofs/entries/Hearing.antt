-- What is noted of the steps of an end, and of a link, says which session each end has.
use Rattle.std.proofs.lemmas.List.Sums.{fold-append}
use Rattle.std.specs.List.{fold}
use Rattle.link_laws.proofs.Words.{Acked, ActEvent, Activate, Active, AllAllowed, AreOwn, AsksReset, AtController, AtHost, Bool, CanStart, Control, Controller}
use Rattle.link_laws.proofs.Words.{Cut, CutOff, End, EndEvent, Ending, Entry, GaveUp, GoesOut, Got, HasTick, Host, IsAllowed, IsEvent, IsNode, IsOwn}
use Rattle.link_laws.proofs.Words.{IsSettledSince, IsStart, IsUicc, Link, LinkEnd, LinkEvent, LinkInput, List, Lose, NextFrame, NoInput, Node, None}
use Rattle.link_laws.proofs.Words.{NumberedEnd, OnWire, Option, Report, Reset, Seen, Some, Starts, Step, Stops, Take, Ticks, TicksWithout, Turn, Up as IsUpNow}
use Rattle.link_laws.proofs.Words.{[], after_input, after_link_events, aged, aged_entries, all_at_controller, ap, arith, becomes, core_event, core_of, ended_by}
use Rattle.link_laws.proofs.Words.{entries, entries_of_events, event_entries, exchanged, false, far, finished, first_entries, frames_out, happens}
use Rattle.link_laws.proofs.Words.{happens_at_controller, has_taken, here_entries, if_so, if◌then◌else◌, input_entries, is_some, is_up, left_after, map, max}
use Rattle.link_laws.proofs.Words.{most_frames, nat_lt, number_now, number_of, option_to_list, put, put_entries, puts_entries, refl, report, rest_entries}
use Rattle.link_laws.proofs.Words.{restart_entries, session_in, silent, step_entries, subst, sym, taken_entries, tick_entries, ticks_at_controller, told}
use Rattle.link_laws.proofs.Words.{told_of, took, took_with, trace, turn, turn_entries, turn_entry, turned, whole_acked, with_ended, ℕ, ◌++◌, ◌∙◌, ◌∷◌, ◌≡◌}
use Rattle.link_laws.specs.entries.Entries.Entry.{Down, Tick, Up}
use Rattle.link_laws.specs.entries.Sessions.{hear}
use Rattle.link_laws.specs.entries.Settled.{AreNotedUpTogether}
use Rattle.link_laws.specs.places.Wire.{sans}
use Rattle.link_laws.proofs.Cases.{by_list}
use Rattle.link_laws.proofs.entries.Seeing.{read_off}
use Rattle.link_laws.proofs.entries.Books.{same_far, with_side}
use Rattle.link_laws.proofs.entries.Noting.{Frame, Frames, IsQuietEnd, IsRestart, Near, ended_number, idle_finishes, reset_finishes, restart_finishes}
use Rattle.link_laws.proofs.entries.Noting.{start_restarts, stop_restarts, take_finishes, tick_finishes, turned_same}
use Rattle.link_laws.proofs.entries.Running.{Before, IsInTick, IsUnderWay, Sounds, after_tick, all_in_tick, before_here, before_there, frame_facts, goes_on}
use Rattle.link_laws.proofs.entries.Running.{host_here, host_in_tick, near_in_tick, near_of, own_in_tick, sound_here, start_under_way, without_tick}
use Rattle.link_laws.proofs.entries.Stepping.{CanFinish, puts_number}
use Rattle.link_laws.proofs.entries.Together.{ticks_host, together}
use Rattle.link_laws.proofs.machine.Reports.{Reports, reset_so, take_so, tick_so}
use Rattle.link_laws.proofs.machine.Runs.{Sound}
use Rattle.link_laws.proofs.machine.Sound.{Shift}
use Rattle.link_laws.proofs.messages.Project.{frames_alike}
use Rattle.link_laws.proofs.messages.Finishing.{step_tick}
use Rattle.link_laws.proofs.messages.Runs.{Good, Reached, all_step, can_start, clf_starts, event_step, reached_more, rests_of, safe_reached, started_clf}
use Rattle.link_laws.proofs.messages.Runs.{step_here}
use Rattle.link_laws.proofs.sessions.Steps.{safe_aged}

-- ## What is noted of a step of an end says which session it has

-- ### Sessions

pub up_session : (h : NumberedEnd) → h.side.shdlc.phase ≡ IsUpNow → number_now h ≡ Some (number_of h)
up_session h p = rw p refl

-- an end that has a session is up, and this is its number
pub session_up : (h : NumberedEnd) (n : ℕ) → number_now h ≡ Some n → (h.side.shdlc.phase ≡ IsUpNow) × (number_of h ≡ n)
session_up h n q = grind arith

-- two ends in the same phase with the same number
pub same_session : (a b : NumberedEnd) → a.side.shdlc.phase ≡ b.side.shdlc.phase → (b.side.shdlc.phase ≡ IsUpNow → number_of a ≡ number_of b)
    → number_now a ≡ number_now b
same_session a b p n = grind arith

-- ### What is heard of them

-- after these entries, one after another
abbrev pub heard : End → Option ℕ → List Entry → Option ℕ
heard who s t = fold (hear who) s t

pub heard-append : (who : End) (s : Option ℕ) (t u : List Entry) → heard who s (t ++ u) ≡ heard who (heard who s t) u
heard-append who s t u = fold-append (hear who) s t u

-- these say nothing of the sessions of an end
abbrev pub Passes : End → List Entry → Type 0
Passes who t = (s : Option ℕ) → heard who s t ≡ s

pub passes-append : (who : End) (t u : List Entry) → Passes who t → Passes who u → Passes who (t ++ u)
passes-append who t u p q s = heard-append who s t u ∙ (ap (λ z. heard who z u) (p s) ∙ q s)

passes_so : (who : End) (b : Bool) (e : Entry) → Passes who (e ∷ []) → Passes who (if_so b e)
passes_so who b e p s = grind arith

passes_map : {A : Type 0} (who : End) (f : A → Entry) (xs : List A) → ((x : A) → Passes who (f x ∷ [])) → Passes who (map f xs)
passes_map who f [] p s = refl
passes_map who f (x ∷ xs) p s = ap (λ z. heard who z (map f xs)) (p x s) ∙ passes_map who f xs p s

-- what is told behind the end and the beginning of a session
abbrev told_rest : End → ℕ → Report → ℕ → List Entry
told_rest who n r acked =
    if_so r.became_active (Active who)
    ++ (map (GaveUp who) (option_to_list r.gave_up) ++ (if_so (nat_lt 0 r.acked) (Acked who n acked) ++ map (Got who n) r.got))

passes_told_rest : (w who : End) (n : ℕ) (r : Report) (acked : ℕ) → Passes w (told_rest who n r acked)
passes_told_rest w who n r acked = grind (arith, passes-append, passes_so, passes_map)

-- nothing is told of the other end
passes_told : (who : End) (n : ℕ) (r : Report) (acked : ℕ) → Passes (far who) (told who n r acked)
passes_told who n r acked = let h0 = passes_told_rest (far who) who n r acked in grind arith

-- the session of an end whose session ended or not, and where one with this number began or not
abbrev pub after_told : Bool → Bool → ℕ → Option ℕ → Option ℕ
after_told ended began n s = if began then Some n else (if ended then None else s)

pub heard_told : (who : End) (n : ℕ) (r : Report) (acked : ℕ) (s : Option ℕ) → heard who s (told who n r acked) ≡ after_told (is_some r.ended) r.began n s
heard_told who n r acked s =
    let first : Option ℕ = if is_some r.ended then None else s in
    heard-append who s (map (Down who) (option_to_list r.ended)) (if_so r.began (Up who n) ++ told_rest who n r acked)
    ∙ (ap (λ z. heard who z (if_so r.began (Up who n) ++ told_rest who n r acked)) (grind arith)
    ∙ (heard-append who first (if_so r.began (Up who n)) (told_rest who n r acked)
    ∙ (passes_told_rest who who n r acked (heard who first (if_so r.began (Up who n))) ∙ (grind arith))))

-- what becomes of the session of h as it becomes k
pub shifted : (h k : NumberedEnd) (ended began : Bool) → Shift h.side.shdlc k.side.shdlc ended began
    → (h.side.shdlc.phase ≡ IsUpNow → ended ≡ false → number_of k ≡ number_of h) → after_told ended began (number_of k) (number_now h) ≡ number_now k
shifted h k ended began a same = grind arith

-- ### Turns and frames

pub passes_turns : (w who : End) (n : ℕ) (e : LinkEnd) (ts : List Turn) → Passes w (turn_entries who n e ts)
passes_turns w who n e [] = λ s. refl
passes_turns w who n e (t ∷ ts) =
    passes-append w (turn_entry who n e t) (turn_entries who n (turn e t) ts) (grind arith) (passes_turns w who n (turn e t) ts)

passes_puts : (w who : End) (cs : List Control) (l : Link) → Passes w (puts_entries who l cs)
passes_puts w who [] l = λ s. refl
passes_puts w who (c ∷ cs) l =
    passes-append w (put_entries who l c) (puts_entries who (put l c) cs)
    (grind arith) (passes_puts w who cs (put l c))

pub passes_aged : (w who : End) (xs : List OnWire) → Passes w (aged_entries who xs)
passes_aged w who [] = λ s. refl
passes_aged w who (x ∷ xs) = let h0 = passes_aged w who xs in grind arith

passes_out : (w who : End) (l : Link) (e : LinkEnd) (ts : List Turn) → Passes w (rest_entries who l e ts GoesOut)
passes_out w who l e ts = grind (arith, passes-append, number_of, turned, passes_turns, passes_puts)

-- nothing of the other end
rest_far : (who : End) (l : Link) (e : LinkEnd) (ts : List Turn) (ending : Ending) → Passes (far who) (rest_entries who l e ts ending)
rest_far who l e ts GoesOut = passes_out (far who) who l e ts
rest_far who l e ts CutOff =
    passes-append (far who) (turn_entries who (number_of l.controller) e ts) (Cut who ∷ []) (passes_turns (far who) who (number_of l.controller) e ts)
    (λ s. let q = same_far who in rw q refl)

-- a step without an input keeps the session
rest_session : (l : Link) (e : LinkEnd) (ts : List Turn) → IsQuietEnd e ts
    → number_now (becomes l (turned e ts)).controller ≡ number_now (with_side l.controller e)
rest_session l e ts quiet =
    let f : LinkEnd = turned e ts in
    same_session (becomes l f).controller (with_side l.controller e) ((frames_alike most_frames f.shdlc).phase ∙ turned_same ts e)
    (λ up. puts_number l (frames_out f) (quiet (turned_same ts e ∙ up)))

-- turns of the node of an end that is e by now, and how the step ends
rest_heard : (who : End) (l : Link) (e : LinkEnd) (ts : List Turn) (ending : Ending) → CanFinish e ts ending
    → heard who (number_now (with_side l.controller e)) (rest_entries who l e ts ending) ≡ number_now (finished l (turned e ts) ending).controller
rest_heard who l e ts GoesOut finishes = passes_out who who l e ts (number_now (with_side l.controller e)) ∙ sym (rest_session l e ts finishes.quiet)
rest_heard who l e ts CutOff finishes =
    heard-append who (number_now (with_side l.controller e)) (turn_entries who (number_of l.controller) e ts) (Cut who ∷ [])
    ∙ (grind arith)

-- ### Steps

-- a step tells the session of its end, and nothing of the other end
pub record Heard (who : End) (l m : Link) (u : List Entry) : Type 0 where
  pub here : heard who (number_now l.controller) u ≡ number_now m.controller
  pub there : Passes (far who) u

-- an input of the end, which has taken an RSET with the number `took` then, and what follows it
input_heard : (who : End) (l k : Link) (took : ℕ) (i : LinkInput) {ts : List Turn} {ending : Ending} → Reports l.controller.side i
    → number_of k.controller ≡ max l.controller.emitted took
    → (l.controller.side.shdlc.phase ≡ IsUpNow → is_some (ended_by l.controller.side i) ≡ false → max l.controller.emitted took ≡ number_of l.controller)
    → CanFinish (after_input l.controller.side i) ts ending
    → Heard who l (finished k (turned (after_input l.controller.side i) ts) ending)
    (told_of who (record l.controller { took = took }) i ++ rest_entries who k (after_input l.controller.side i) ts ending)
input_heard who l k took i {ts} {ending} so number same finishes =
    let e : LinkEnd = l.controller.side in
    let f : LinkEnd = after_input e i in
    let h : NumberedEnd = record l.controller { took = took } in
    let us : List Entry = told who (number_of h) (report e i) (whole_acked f) in
    let vs : List Entry = rest_entries who k f ts ending in
    let now : heard who (number_now l.controller) us ≡ number_now (with_side k.controller f) =
    heard_told who (number_of h) (report e i) (whole_acked f) (number_now l.controller)
    ∙ (grind arith) in
    record {
      here = heard-append who (number_now l.controller) us vs ∙ (ap (λ z. heard who z vs) now ∙ rest_heard who k f ts ending finishes);
      there = passes-append (far who) us vs (passes_told who (number_of h) (report e i) (whole_acked f)) (rest_far who k f ts ending);
    }

-- an input of its own
own_input_heard : (who : End) (l : Link) (i : LinkInput) {ts : List Turn} {ending : Ending} → Reports l.controller.side i
    → CanFinish (after_input l.controller.side i) ts ending
    → Heard who l (finished (with_ended l (is_some (ended_by l.controller.side i))) (turned (after_input l.controller.side i) ts) ending)
    (input_entries who l i ts ending)
own_input_heard who l i so finishes =
    let b : Bool = is_some (ended_by l.controller.side i) in
    input_heard who l (with_ended l b) l.controller.took i so (ended_number l b) (λ up q. refl) finishes

pub tick_heard : (who : End) (l : Link) (node : Node) → IsNode l node.turns node.ending → Near l
    → Heard who l (ticks_at_controller l node.turns node.ending) (tick_entries who l node)
tick_heard who l node a n = own_input_heard who l HasTick (tick_so l.controller.side n.sound) (tick_finishes l node a n)

-- activation begins or ends
restart_heard : (who : End) (l : Link) {i : LinkInput} {event : ActEvent} (ts : List Turn) (ending : Ending) → IsNode l ts ending → Near l
    → IsRestart l.controller.side i event
    → Heard who l (finished (silent l (after_input l.controller.side i)) (turned (after_input l.controller.side i) ts) ending)
    (restart_entries who l i ts ending)
restart_heard who l {i} ts ending a n r =
    let h = input_heard who l (silent l (after_input l.controller.side i)) l.controller.took i r.reports
    (ended_number l (is_up l.controller.side.shdlc.phase)) (λ up q. refl) (restart_finishes l ts ending a n r) in
    record { here = h.here; there = h.there }

taken_heard : (who : End) (l : Link) (x : OnWire) (xs : List OnWire) (ts : List Turn) (ending : Ending) → IsNode l ts ending → Near l → Frame l x ts
    → Heard who l (has_taken l x xs ts ending) (taken_entries who l x xs ts ending)
taken_heard who l x xs ts ending a n fr =
    let i : LinkInput = Take x.frame in
    let h = input_heard who l (left_after l x xs) (took_with l.controller.took x) i (take_so l.controller.side x.frame n.sound) (grind arith)
    (λ up q. ap (max l.controller.emitted) (fr.same up q)) (take_finishes l x ts ending a n fr) in
    record { here = h.here; there = h.there }

-- a step that takes no frame
pub own_heard : (who : End) (l : Link) (e : EndEvent) → IsOwn e → IsAllowed l e → Near l → Heard who l (happens_at_controller l e) (here_entries who l e)
own_heard who l (Lose why) o a n = absurd o
own_heard who l (Step NextFrame ts ending) o a n = absurd o
own_heard who l (Step (AsksReset window) ts ending) o a n =
    own_input_heard who l (Reset window) (reset_so l.controller.side window n.sound) (reset_finishes l window ts ending a.1 n)
own_heard who l (Step (Starts v) ts ending) o a n = restart_heard who l ts ending a.1 n (start_restarts l.controller.side v n.sound)
own_heard who l (Step Stops ts ending) o a n = restart_heard who l ts ending a.1 n (stop_restarts l.controller.side n.sound)
own_heard who l (Step NoInput ts ending) o a n =
    record { here = rest_heard who l l.controller.side ts ending (idle_finishes l ts ending a.1 n); there = rest_far who l l.controller.side ts ending }

frame_heard : (who : End) (l : Link) (ts : List Turn) (ending : Ending) → IsNode l ts ending → Near l → Frames l ts
    → Heard who l (happens_at_controller l (Step NextFrame ts ending)) (step_entries who l NextFrame ts ending)
frame_heard who l ts ending a n frames =
    by_list {P = Heard who l m (step_entries who l NextFrame ts ending)} l.to_controller (grind arith)
    (λ x xs q.
    let Q : List Entry → Type 0 = λ z. Heard who l (has_taken l x xs ts ending) z in
    subst P (sym (rw q refl)) (subst Q (sym (rw q refl)) (taken_heard who l x xs ts ending a n (frames x xs q))))
  where
    m : Link
    m = happens_at_controller l (Step NextFrame ts ending)

    P : Link → Type 0
    P k = Heard who l k (step_entries who l NextFrame ts ending)

here_heard : (who : End) (l : Link) (e : EndEvent) → IsAllowed l e → Before l → Heard who l (happens_at_controller l e) (here_entries who l e)
here_heard who l e a b = go e a
  where
    near : Near l
    near = near_of l b

    go : (e : EndEvent) → IsAllowed l e → Heard who l (happens_at_controller l e) (here_entries who l e)
    go (Lose why) a = grind arith
    go (Step NextFrame ts ending) a = frame_heard who l ts ending a.1 near (frame_facts l ts a.1.0 b)
    go (Step (AsksReset window) ts ending) a = own_heard who l (Step (AsksReset window) ts ending) tt a near
    go (Step (Starts v) ts ending) a = own_heard who l (Step (Starts v) ts ending) tt a near
    go (Step Stops ts ending) a = own_heard who l (Step Stops ts ending) tt a near
    go (Step NoInput ts ending) a = own_heard who l (Step NoInput ts ending) tt a near

-- ## What is noted of a link says which session each end has

-- what is noted as l becomes m says the sessions of both ends
record BothHeard (l m : Link) (u : List Entry) : Type 0 where
  controller : heard Controller (number_now l.controller) u ≡ number_now m.controller
  host : heard Host (number_now l.host) u ≡ number_now m.host

-- one part after another
then_heard : (who : End) (x y z : Option ℕ) (u v : List Entry) → heard who x u ≡ y → heard who y v ≡ z → heard who x (u ++ v) ≡ z
then_heard who x y z u v p q = heard-append who x u v ∙ (ap (λ s. heard who s v) p ∙ q)

all_heard : {kf : ℕ} (es : List EndEvent) (l : Link) → AreOwn l es → IsInTick kf l
    → Heard Controller l (all_at_controller l es) (entries_of_events Controller l es)
all_heard [] l a s = record { here = refl; there = λ x. refl }
all_heard (e ∷ es) l a s =
    let m : Link = happens_at_controller l e in
    let u : List Entry = here_entries Controller l e in
    let v : List Entry = entries_of_events Controller m es in
    let first = own_heard Controller l e a.0 a.1 (near_in_tick l s) in
    let more = all_heard es m a.2 (own_in_tick l e a.0 a.1 s) in
    record {
      here =
          then_heard Controller (number_now l.controller) (number_now m.controller) (number_now (all_at_controller m es).controller) u v first.here more.here;
      there = passes-append Host u v first.there more.there;
    }

-- what grows too old says nothing of sessions
starts : (who : End) (x : Option ℕ) (l : Link) (rest : List Entry)
    → heard who x (Tick ∷ (aged_entries Controller l.to_controller ++ (aged_entries Host l.to_host ++ rest))) ≡ heard who x rest
starts who x l rest =
    let bs : List Entry = aged_entries Host l.to_host in
    then_heard who x x (heard who x rest) (aged_entries Controller l.to_controller) (bs ++ rest) (passes_aged who Controller l.to_controller x)
    (then_heard who x x (heard who x rest) bs rest (passes_aged who Host l.to_host x) refl)

-- ### Events

event_heard : (l : Link) (e : LinkEvent) → IsEvent l e → Good l → Reached (core_of l) → Sounds l → BothHeard l (happens l e) (event_entries l e)
event_heard l (AtController e) a g r s =
    let h = here_heard Controller l e a (before_here l g r s) in
    record { controller = h.here; host = h.there (number_now l.host) ∙ sym (ap number_now (host_here l e a g r)) }
event_heard l (AtHost e) a g r s =
    let k : Link = exchanged l in
    let b = before_there l g r s in
    let h = here_heard Host k e a b in
    let host : (happens_at_controller k e).host ≡ k.host = (step_here k e a b.tells b.host b.in_order (rests_of 0 0 (core_of k) b.safe) b.from).host in
    record { controller = h.there (number_now l.controller) ∙ sym (ap number_now host); host = h.here }
event_heard l (Ticks c es h) a g r s =
    let old : Link = aged l in
    let rests = rests_of 1 1 (core_of old) (safe_aged (core_of l) (safe_reached (core_of l) r)) in
    let near : Link = ticks_at_controller old c.turns c.ending in
    let stands = after_tick l c a.0 g r s in
    let all = all_step 1 near es a.1 stands.tells stands.safe in
    let m : Link = all_at_controller near es in
    let host_is : m.host ≡ l.host = all.step.host ∙ (step_tick old c.turns c.ending a.0.0 a.0.1 g.controller rests).host in
    let k : Link = ticks_at_controller (exchanged m) h.turns h.ending in
    let cs : List Entry = tick_entries Controller old c in
    let ds : List Entry = entries_of_events Controller near es in
    let fs : List Entry = tick_entries Host (exchanged m) h in
    let x = tick_heard Controller old c a.0 (record { tells = g.controller; rests = rests; sound = s.controller }) in
    let y = all_heard es near a.1 stands in
    let z = tick_heard Host (exchanged m) h a.2 (host_in_tick l m host_is (all_in_tick near es a.1 stands) g s) in
    let here : Option ℕ = number_now l.controller in
    let there : Option ℕ = number_now l.host in
    record {
      controller = starts Controller here l (cs ++ (ds ++ fs))
          ∙ then_heard Controller here (number_now near.controller) (number_now k.host) cs (ds ++ fs) x.here
          (then_heard Controller (number_now near.controller) (number_now m.controller) (number_now k.host) ds fs y.here
          (z.there (number_now m.controller) ∙ sym (ap number_now (ticks_host (exchanged m) h.turns h.ending))));
      host = starts Host there l (cs ++ (ds ++ fs))
          ∙ then_heard Host there there (number_now k.controller) cs (ds ++ fs) (x.there there)
          (then_heard Host there (number_now m.host) (number_now k.controller) ds fs (y.there there ∙ sym (ap number_now host_is)) z.here);
    }
event_heard l (TicksWithout es h) a g r s =
    let near : Link = aged l in
    let stands = without_tick l a.0 g r s in
    let m : Link = all_at_controller near es in
    let host_is : m.host ≡ l.host = (all_step 1 near es a.1 stands.tells stands.safe).step.host in
    let k : Link = ticks_at_controller (exchanged m) h.turns h.ending in
    let ds : List Entry = entries_of_events Controller near es in
    let fs : List Entry = tick_entries Host (exchanged m) h in
    let y = all_heard es near a.1 stands in
    let z = tick_heard Host (exchanged m) h a.2 (host_in_tick l m host_is (all_in_tick near es a.1 stands) g s) in
    let here : Option ℕ = number_now l.controller in
    let there : Option ℕ = number_now l.host in
    record {
      controller = starts Controller here l (ds ++ fs)
          ∙ then_heard Controller here (number_now m.controller) (number_now k.host) ds fs y.here
          (z.there (number_now m.controller) ∙ sym (ap number_now (ticks_host (exchanged m) h.turns h.ending)));
      host = starts Host there l (ds ++ fs)
          ∙ then_heard Host there (number_now m.host) (number_now k.controller) ds fs (y.there there ∙ sym (ap number_now host_is)) z.here;
    }
event_heard l (Activate power c id h) a g r s =
    let x : EndEvent = Step (Starts power) c.turns c.ending in
    let y : EndEvent = Step (Starts id) h.turns h.ending in
    let near : Link = happens_at_controller l x in
    let k : Link = exchanged near in
    let clf : CanStart l.controller.side.role l.host.side.role = clf_starts l.controller.side.role l.host.side.role a.0 in
    let one = event_step l (AtController x) (clf, a.2) g r in
    let next : Reached (core_of near) = subst Reached (sym one.core) (reached_more (core_of l) (core_event l (AtController x)) one.allowed r) in
    let host : near.host ≡ l.host = host_here l x (clf, a.2) g r in
    let Q : NumberedEnd → Type 0 = λ z. IsUicc z.side.role × IsNode (exchanged (record l { host = z })) h.turns h.ending in
    let there : Q near.host = subst Q (sym host) (a.1, a.3) in
    let can : CanStart near.host.side.role near.controller.side.role =
    can_start near.host.side.role near.controller.side.role there.0 (started_clf l power c.turns c.ending a.0) in
    let sounds : Sounds near = record { controller = sound_here l x (clf, a.2) s.controller; host = subst (λ z. Sound z.side) (sym host) s.host } in
    let u : List Entry = here_entries Controller l x in
    let v : List Entry = here_entries Host k y in
    let b = before_there near one.good next sounds in
    let first = here_heard Controller l x (clf, a.2) (before_here l g r s) in
    let second = here_heard Host k y (can, there.1) b in
    let m : Link = happens_at_controller k y in
    let last : m.host ≡ k.host = (step_here k y (can, there.1) b.tells b.host b.in_order (rests_of 0 0 (core_of k) b.safe) b.from).host in
    record {
      controller = then_heard Controller (number_now l.controller) (number_now near.controller) (number_now m.host) u v first.here
          (second.there (number_now near.controller) ∙ sym (ap number_now last));
      host = then_heard Host (number_now l.host) (number_now near.host) (number_now m.controller) u v
          (first.there (number_now l.host) ∙ sym (ap number_now host)) second.here;
    }

-- ### Runs

events_heard : (es : List LinkEvent) (t : List Entry) (l : Link) → AllAllowed l es → IsUnderWay t l → BothHeard l (after_link_events l es) (entries l es)
events_heard [] t l a w = record { controller = refl; host = refl }
events_heard (e ∷ es) t l a w =
    let m : Link = happens l e in
    let u : List Entry = event_entries l e in
    let v : List Entry = entries m es in
    let one = event_heard l e a.0 w.good w.reached w.noted.sounds in
    let more = events_heard es (t ++ u) m a.1 (goes_on l e a.0 w) in
    record {
      controller = then_heard Controller (number_now l.controller) (number_now m.controller) (number_now (after_link_events m es).controller) u v one.controller
          more.controller;
      host = then_heard Host (number_now l.host) (number_now m.host) (number_now (after_link_events m es).host) u v one.host more.host;
    }

first_heard : (l : Link) → IsStart l
    → (heard Controller None (first_entries l.controller.side.role) ≡ number_now l.controller)
    × (heard Host None (first_entries l.controller.side.role) ≡ number_now l.host)
first_heard l a = grind arith

both_heard : (l : Link) → IsStart l → (events : List LinkEvent) → AllAllowed l events → BothHeard l (after_link_events l events) (entries l events)
both_heard l s events a = events_heard events (first_entries l.controller.side.role) l a (start_under_way l s)

pub controller_heard : (l : Link) → IsStart l → (events : List LinkEvent) → AllAllowed l events
    → session_in (trace l events) Controller ≡ number_now (after_link_events l events).controller
controller_heard l s events a =
    let h0 = after_link_events l events in let h1 = entries l events in let h2 = first_heard l s in let h3 = both_heard l s events a in grind arith

pub host_heard : (l : Link) → IsStart l → (events : List LinkEvent) → AllAllowed l events
    → session_in (trace l events) Host ≡ number_now (after_link_events l events).host
host_heard l s events a =
    let h0 = after_link_events l events in let h1 = entries l events in let h2 = first_heard l s in let h3 = both_heard l s events a in grind arith

-- ### A reset

-- both ends are up with one number, as it is noted
pub settled : (l : Link) → IsStart l → (before : List LinkEvent) (reset : LinkEvent) (behind : List LinkEvent) → AllAllowed l (before ++ reset ∷ behind)
    → IsSettledSince (trace l (before ++ reset ∷ behind)) (after_link_events l before) reset behind → AreNotedUpTogether (trace l (before ++ reset ∷ behind))
settled l s before reset behind a q =
    let es : List LinkEvent = before ++ reset ∷ behind in
    let m : Link = after_link_events l es in
    let seen = read_off l s es in
    let up = together l s before reset behind a q.asked q.undisturbed (sym (ap (λ (z : Seen). sans z.to_controller) seen) ∙ q.to_controller)
    (sym (ap (λ (z : Seen). sans z.to_host) seen) ∙ q.to_host) in
    record {
      number = number_of m.controller;
      controller = controller_heard l s es a ∙ up_session m.controller up.controller;
      host = host_heard l s es a ∙ (up_session m.host up.host ∙ ap (λ n. Some n) (sym up.number));
    }
