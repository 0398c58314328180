-- Where nothing disturbed a session all of it was delivered, and where nothing withheld the answer to a reset both ends are up.
use Rattle.link_laws.proofs.Words.{Activate, AllAllowed, AllDelivered, AreOwn, AsksReset, AtController, AtHost, Bool, CanStart, Controller, CoreAtController}
use Rattle.link_laws.proofs.Words.{CoreAtHost, CoreEndEvent, CoreLink, CoreTurn, CutOff, End, EndEvent, Ending, Entry, GoesOut, HasTick, Host, IsAllowed}
use Rattle.link_laws.proofs.Words.{IsEvent, IsNode, IsQuietSince, IsRead, IsStart, IsUicc, Link, LinkEnd, LinkEvent, LinkTogether, List, Losses, Node}
use Rattle.link_laws.proofs.Words.{NumberedEnd, OnWire, Option, Reset, ShdlcLinkEvent as CoreLinkEvent, Some, Starts, Step, Talk, Tick as CoreTick}
use Rattle.link_laws.proofs.Words.{TickWithout as CoreTickWithout, Ticks, TicksWithout, Turn, Up as IsUpNow, [], after_input, after_link_events, aged}
use Rattle.link_laws.proofs.Words.{aged_entries, all_at_controller, ap, append-nil, append_assoc, arith, core_after, core_aged, core_all, core_all_here}
use Rattle.link_laws.proofs.Words.{core_event, core_events, core_happens_here, core_here, core_of, core_tick, core_tick_rest, core_ticks_if_waiting}
use Rattle.link_laws.proofs.Words.{core_ticks_or_cut, core_turns, ended_by, entries, entries_of_events, event_entries, exchanged, false, far, first_entries}
use Rattle.link_laws.proofs.Words.{happens, happens_at_controller, here_entries, is_open, is_some, list_any, loses_aged, losses_after}
use Rattle.link_laws.proofs.Words.{losses_of, map, no_losses, noted_aged, noted_event, noted_here, noted_if_waiting, noted_tick, noted_turns, number_of}
use Rattle.link_laws.proofs.Words.{refl, rest_entries, sans, shdlc_exchanged as core_exchanged, shdlc_happens as core_happens, subst, sure_after, sure_aged}
use Rattle.link_laws.proofs.Words.{sure_event, sure_here, sure_if_waiting, sure_tick, sure_turns, sym, talk_now, talk_of, tick_entries, ticks_at_controller}
use Rattle.link_laws.proofs.Words.{told_of, trace, true, true≢false, turned, with_ended, withholds, ℕ, ◌++◌, ◌∙◌, ◌∷◌, ◌≡◌}
use Rattle.link_laws.specs.entries.Entries.Entry.{Tick}
use Rattle.link_laws.specs.entries.Quiet.{IsDeliveredOnLink}
use Rattle.link_laws.specs.entries.Settled.{FindsReady, IsReset, rest_of}
use Rattle.link_laws.proofs.entries.Books.{up_talk}
use Rattle.link_laws.proofs.entries.Quieting.{Both, aged_knows, here_knows, noted-append, own_step_knows, same_number, tick_flags, tick_knows}
use Rattle.link_laws.proofs.entries.Noting.{reset_role}
use Rattle.link_laws.proofs.entries.Running.{IsInTick, IsUnderWay, Noted, Sounds, after_tick, all_in_tick, before_here, before_there, goes_on, host_here}
use Rattle.link_laws.proofs.entries.Running.{host_in_tick, near_in_tick, own_in_tick, own_step, read_here, read_there, sound_here, start_under_way}
use Rattle.link_laws.proofs.entries.Running.{without_tick}
use Rattle.link_laws.proofs.entries.Settling.{Spared, Spares, Stands, here_spares, none_withholds, own_spares, rest_cut, rest_sure, spared_parts}
use Rattle.link_laws.proofs.entries.Settling.{stands_parts, tick_sure}
use Rattle.link_laws.proofs.entries.Stepping.{host_finished}
use Rattle.link_laws.proofs.machine.Runs.{Sound}
use Rattle.link_laws.proofs.messages.Finishing.{reset_tells, step_tick, tick_open}
use Rattle.link_laws.proofs.messages.Project.{Tells, host_ended as ended_host, moved_role, turned_role}
use Rattle.link_laws.proofs.messages.Runs.{Good, Reached, all_here as delivered_here, all_step, all_there as delivered_there, can_start, clf_starts, event_step}
use Rattle.link_laws.proofs.messages.Runs.{one_number, own_here, reached_more, rests_of, safe_reached, started_clf, step_here, tells_same, up_together}
use Rattle.link_laws.proofs.sessions.Steps.{safe_aged, safe_exchanged}

-- ## Where nothing was noted since a session began that disturbs it, all of it was delivered

-- ### The flags of what happens at one end

here_losses : (n : Losses) (c : CoreLink) (es : List CoreEndEvent) → losses_after n c (map CoreAtController es) ≡ noted_turns n c es
here_losses n c [] = refl
here_losses n c (e ∷ es) = here_losses (noted_here n c e) (core_happens_here c e) es

there_losses : (n : Losses) (c : CoreLink) (es : List CoreEndEvent) → losses_after n c (map CoreAtHost es) ≡ noted_turns n (core_exchanged c) es
there_losses n c [] = refl
there_losses n c (e ∷ es) = there_losses (noted_here n (core_exchanged c) e) (core_happens c (CoreAtHost e)) es

losses-append : (n : Losses) (c : CoreLink) (es fs : List CoreLinkEvent) → losses_after n c (es ++ fs) ≡ losses_after (losses_after n c es) (core_after c es) fs
losses-append n c [] fs = refl
losses-append n c (e ∷ es) fs = losses-append (noted_event n c e) (core_happens c e) es fs

-- the same under other names
as_is : (t u : List Entry) (n m : Losses) (l : Link) → t ≡ u → n ≡ m → Both u m l → Both t n l
as_is t u n m l p q b = grind arith

swap : (t : List Entry) (n : Losses) (l : Link) → Both t n l → Both t n (exchanged l)
swap t n l b = record { here = b.there; there = b.here }

-- ### Events

all_knows : {kf : ℕ} (es : List EndEvent) (t : List Entry) (n : Losses) (l : Link) → AreOwn l es → IsInTick kf l → Both t n l
    → Both (t ++ entries_of_events Controller l es) (noted_turns n (core_of l) (core_all l es)) (all_at_controller l es)
all_knows [] t n l a s b = as_is (t ++ []) t n n l (append-nil t) refl b
all_knows (e ∷ es) t n l a s b =
    let m : Link = happens_at_controller l e in
    let u : List Entry = here_entries Controller l e in
    let v : List Entry = entries_of_events Controller m es in
    let k : Losses = noted_turns n (core_of l) (core_here l e) in
    let more = all_knows es (t ++ u) k m a.2 (own_in_tick l e a.0 a.1 s) (own_step_knows t n l e a.0 a.1 (near_in_tick l s) b) in
    as_is (t ++ (u ++ v)) ((t ++ u) ++ v) (noted_turns n (core_of l) (core_here l e ++ core_all m es)) (noted_turns k (core_of m) (core_all m es))
    (all_at_controller m es) (sym (append_assoc t u v))
    (noted-append n (core_of l) (core_here l e) (core_all m es) ∙ ap (λ c. noted_turns k c (core_all m es)) (sym (own_step l e a.0 a.1 s).core)) more

event_knows : (t : List Entry) (n : Losses) (l : Link) (e : LinkEvent) → IsEvent l e → Good l → Reached (core_of l) → Sounds l → Both t n l
    → Both (t ++ event_entries l e) (losses_after n (core_of l) (core_event l e)) (happens l e)
event_knows t n l (AtController e) a g r s b =
    as_is (t ++ here_entries Controller l e) (t ++ here_entries Controller l e) (losses_after n (core_of l) (core_event l (AtController e)))
    (noted_turns n (core_of l) (core_here l e)) (happens_at_controller l e) refl (here_losses n (core_of l) (core_here l e))
    (here_knows t n Controller l e a (before_here l g r s) b)
event_knows t n l (AtHost e) a g r s b =
    let k : Link = exchanged l in
    let u : List Entry = t ++ here_entries Host k e in
    let m : Losses = noted_turns n (core_of k) (core_here k e) in
    as_is u u (losses_after n (core_of l) (core_event l (AtHost e))) m (happens l (AtHost e)) refl (there_losses n (core_of l) (core_here k e))
    (swap u m (happens_at_controller k e) (here_knows t n Host k e a (before_there l g r s) (swap t n l b)))
event_knows t n l (Ticks c es h) a g r s b =
    let rests = rests_of 1 1 (core_of (aged l)) (safe_aged (core_of l) (safe_reached (core_of l) r)) in
    let start : List Entry = Tick ∷ ((aged_entries Controller l.to_controller) ++ (aged_entries Host l.to_host)) in
    let n1 : Losses = noted_aged n (core_of l) in
    let b1 : Both (t ++ start) n1 (aged l) = aged_knows t n l b in
    let near : Link = ticks_at_controller (aged l) c.turns c.ending in
    let one = step_tick (aged l) c.turns c.ending a.0.0 a.0.1 g.controller rests in
    let cs : List Entry = tick_entries Controller (aged l) c in
    let n2 : Losses = tick_flags n1 (aged l) c in
    let b2 : Both ((t ++ start) ++ cs) n2 near =
    tick_knows (t ++ start) n1 Controller (aged l) c a.0 (record { tells = g.controller; rests = rests; sound = s.controller }) b1 in
    let t1 : Option (List CoreTurn) = core_tick l.controller.side c.turns c.ending in
    let first : CoreLink = core_ticks_or_cut t1 (core_aged (core_of l)) in
    let stands = after_tick l c a.0 g r s in
    let all = all_step 1 near es a.1 stands.tells stands.safe in
    let n3 : Losses = noted_turns n2 (core_of near) (core_all near es) in
    let u : List Entry = ((t ++ start) ++ cs) ++ (entries_of_events Controller near es) in
    let m : Link = all_at_controller near es in
    let b3 : Both u n3 m = all_knows es ((t ++ start) ++ cs) n2 near a.1 stands b2 in
    let host_is : m.host ≡ l.host = all.step.host ∙ one.host in
    let fs : List Entry = tick_entries Host (exchanged m) h in
    let n4 : Losses = tick_flags n3 (exchanged m) h in
    let k : Link = ticks_at_controller (exchanged m) h.turns h.ending in
    let b4 : Both (u ++ fs) n4 k =
    tick_knows u n3 Host (exchanged m) h a.2 (host_in_tick l m host_is (all_in_tick near es a.1 stands) g s) (swap u n3 m b3) in
    let turns : List CoreEndEvent = (core_tick_rest l.controller.side c.turns c.ending) ++ core_all near es in
    let d : CoreLink = core_all_here first turns in
    let x_is : (noted_turns (noted_tick n1 t1 (core_aged (core_of l))) first turns) ≡ n3 = grind arith in
    let d_is : d ≡ core_of m = grind arith in
    let core : CoreLinkEvent = CoreTick t1 turns (core_tick l.host.side h.turns h.ending) in
    let flag : losses_after n (core_of l) (core_event l (Ticks c es h)) ≡ n4 =
    there_losses (noted_event n (core_of l) core) (core_happens (core_of l) core) (core_tick_rest l.host.side h.turns h.ending)
    ∙ (ap (λ z. flags z d l.host) x_is ∙ (ap (λ z. flags n3 z l.host) d_is ∙ ap (flags n3 (core_of m)) (sym host_is))) in
    as_is (t ++ event_entries l (Ticks c es h)) (u ++ fs) (losses_after n (core_of l) (core_event l (Ticks c es h))) n4 (exchanged k)
    (sym (simp append_assoc)) flag (swap (u ++ fs) n4 k b4)
  where
    flags : Losses → CoreLink → NumberedEnd → Losses
    flags n d z =
        let t : Option (List CoreTurn) = core_tick z.side h.turns h.ending in
        noted_turns (noted_tick n t (core_exchanged d)) (core_ticks_or_cut t (core_exchanged d)) (core_tick_rest z.side h.turns h.ending)
event_knows t n l (TicksWithout es h) a g r s b =
    let start : List Entry = Tick ∷ ((aged_entries Controller l.to_controller) ++ (aged_entries Host l.to_host)) in
    let n1 : Losses = noted_aged n (core_of l) in
    let near : Link = aged l in
    let first : CoreLink = core_ticks_if_waiting (core_aged (core_of l)) in
    let stands = without_tick l a.0 g r s in
    let all = all_step 1 near es a.1 stands.tells stands.safe in
    let turns : List CoreEndEvent = core_all near es in
    let n3 : Losses = noted_turns n1 (core_of near) turns in
    let u : List Entry = (t ++ start) ++ (entries_of_events Controller near es) in
    let m : Link = all_at_controller near es in
    let b3 : Both u n3 m = all_knows es (t ++ start) n1 near a.1 stands (aged_knows t n l b) in
    let host_is : m.host ≡ l.host = all.step.host in
    let fs : List Entry = tick_entries Host (exchanged m) h in
    let n4 : Losses = tick_flags n3 (exchanged m) h in
    let k : Link = ticks_at_controller (exchanged m) h.turns h.ending in
    let b4 : Both (u ++ fs) n4 k =
    tick_knows u n3 Host (exchanged m) h a.2 (host_in_tick l m host_is (all_in_tick near es a.1 stands) g s) (swap u n3 m b3) in
    let x_is : (noted_turns (noted_if_waiting n1 (core_aged (core_of l))) first turns) ≡ n3 = rw a.0 refl in
    let d_is : core_all_here first turns ≡ core_of m = ap (λ z. core_all_here z turns) (rw a.0 refl) ∙ sym all.step.core in
    let core : CoreLinkEvent = CoreTickWithout turns (core_tick l.host.side h.turns h.ending) in
    let flag : losses_after n (core_of l) (core_event l (TicksWithout es h)) ≡ n4 =
    there_losses (noted_event n (core_of l) core) (core_happens (core_of l) core) (core_tick_rest l.host.side h.turns h.ending)
    ∙ (ap (λ z. flags z (core_all_here first turns) l.host) x_is ∙ (ap (λ z. flags n3 z l.host) d_is ∙ ap (flags n3 (core_of m)) (sym host_is))) in
    as_is (t ++ event_entries l (TicksWithout es h)) (u ++ fs) (losses_after n (core_of l) (core_event l (TicksWithout es h))) n4 (exchanged k)
    (sym (simp append_assoc)) flag (swap (u ++ fs) n4 k b4)
  where
    flags : Losses → CoreLink → NumberedEnd → Losses
    flags n d z =
        let t : Option (List CoreTurn) = core_tick z.side h.turns h.ending in
        noted_turns (noted_tick n t (core_exchanged d)) (core_ticks_or_cut t (core_exchanged d)) (core_tick_rest z.side h.turns h.ending)
event_knows t n l (Activate power c id h) a g r s b =
    let x : EndEvent = Step (Starts power) c.turns c.ending in
    let y : EndEvent = Step (Starts id) h.turns h.ending in
    let near : Link = happens_at_controller l x in
    let k : Link = exchanged near in
    let clf : CanStart l.controller.side.role l.host.side.role = clf_starts l.controller.side.role l.host.side.role a.0 in
    let one = event_step l (AtController x) (clf, a.2) g r in
    let next : Reached (core_of near) = subst Reached (sym one.core) (reached_more (core_of l) (core_event l (AtController x)) one.allowed r) in
    let host : near.host ≡ l.host = host_here l x (clf, a.2) g r in
    let Q : NumberedEnd → Type 0 = λ z. IsUicc z.side.role × IsNode (exchanged (record l { host = z })) h.turns h.ending in
    let there : Q near.host = subst Q (sym host) (a.1, a.3) in
    let starts : CanStart near.host.side.role near.controller.side.role =
    can_start near.host.side.role near.controller.side.role there.0 (started_clf l power c.turns c.ending a.0) in
    let sounds : Sounds near = record { controller = sound_here l x (clf, a.2) s.controller; host = subst (λ z. Sound z.side) (sym host) s.host } in
    let u : List Entry = here_entries Controller l x in
    let v : List Entry = here_entries Host k y in
    let n1 : Losses = noted_turns n (core_of l) (core_here l x) in
    let n2 : Losses = noted_turns n1 (core_of k) (core_here k y) in
    let first = here_knows t n Controller l x (clf, a.2) (before_here l g r s) b in
    let second = here_knows (t ++ u) n1 Host k y (starts, there.1) (before_there near one.good next sounds) (swap (t ++ u) n1 near first) in
    let es : List CoreLinkEvent = map CoreAtController (core_here l x) in
    let fs : List CoreLinkEvent = map CoreAtHost (core_here k y) in
    let flag : losses_after n (core_of l) (es ++ fs) ≡ n2 =
    losses-append n (core_of l) es fs ∙ (ap (λ z. losses_after z (core_after (core_of l) es) fs) (here_losses n (core_of l) (core_here l x))
    ∙ (ap (λ z. losses_after n1 z fs) (sym one.core) ∙ there_losses n1 (core_of near) (core_here k y))) in
    as_is (t ++ (u ++ v)) ((t ++ u) ++ v) (losses_after n (core_of l) (es ++ fs)) n2 (happens l (Activate power c id h)) (sym (append_assoc t u v)) flag
    (swap ((t ++ u) ++ v) n2 (happens_at_controller k y) second)

-- ### Runs

events_know : (events : List LinkEvent) (t : List Entry) (n : Losses) (l : Link) → AllAllowed l events → IsUnderWay t l → Both t n l
    → Both (t ++ entries l events) (losses_after n (core_of l) (core_events l events)) (after_link_events l events)
events_know [] t n l a w b = as_is (t ++ []) t n n l (append-nil t) refl b
events_know (e ∷ es) t n l a w b =
    let st = event_step l e a.0 w.good w.reached in
    let m : Link = happens l e in
    let u : List Entry = event_entries l e in
    let v : List Entry = entries m es in
    let k : Losses = losses_after n (core_of l) (core_event l e) in
    let more = events_know es (t ++ u) k m a.1 (goes_on l e a.0 w) (event_knows t n l e a.0 w.good w.reached w.noted.sounds b) in
    as_is (t ++ (u ++ v)) ((t ++ u) ++ v) (losses_after n (core_of l) (core_event l e ++ core_events m es)) (losses_after k (core_of m) (core_events m es))
    (after_link_events m es) (sym (append_assoc t u v))
    (losses-append n (core_of l) (core_event l e) (core_events m es) ∙ ap (λ c. losses_after k c (core_events m es)) (sym st.core)) more

knows : (l : Link) → IsStart l → (events : List LinkEvent) → AllAllowed l events → Both (trace l events) (losses_of l events) (after_link_events l events)
knows l s events a = events_know events (first_entries l.controller.side.role) no_losses l a (start_under_way l s) (grind arith)

-- ### A quiet session

-- the session that goes on at an end that is up
up_now : (h : NumberedEnd) (n : ℕ) → h.side.shdlc.phase ≡ IsUpNow → n ≡ number_of h → talk_of h n ≡ talk_now h.side
up_now h n up q = let z = same_number (number_of h) in ap (talk_of h) q ∙ (up_talk h (number_of h) up ∙ rw z refl)

-- what the filters read is what the link has delivered
delivered : (t : List Entry) (who : End) (n : ℕ) (sender receiver : Talk) → IsRead t who n sender → IsRead t (far who) n receiver → AllDelivered sender receiver
    → IsDeliveredOnLink t who n
delivered t who n sender receiver x y d = grind arith

pub quiet_here : (l : Link) → IsStart l → (events : List LinkEvent) → AllAllowed l events → IsQuietSince (trace l events) (after_link_events l events)
    → IsDeliveredOnLink (trace l events) Controller (number_of (after_link_events l events).controller)
quiet_here l s events a q =
    let m : Link = after_link_events l events in
    let t : List Entry = trace l events in
    let n : ℕ = number_of m.controller in
    let P : Talk → Type 0 = λ z. IsRead t Controller n z in
    let Q : Talk → Type 0 = λ z. IsRead t Host n z in
    let one = one_number l s events a q.controller q.host in
    delivered t Controller n (talk_now m.controller.side) (talk_now m.host.side)
    (subst P (up_now m.controller n q.controller refl) (read_here l s events a n)) (subst Q (up_now m.host n q.host one) (read_there l s events a n))
    (delivered_here l s events a (let h0 = knows l s events a in grind arith))

pub quiet_there : (l : Link) → IsStart l → (events : List LinkEvent) → AllAllowed l events → IsQuietSince (trace l events) (after_link_events l events)
    → IsDeliveredOnLink (trace l events) Host (number_of (after_link_events l events).controller)
quiet_there l s events a q =
    let m : Link = after_link_events l events in
    let t : List Entry = trace l events in
    let n : ℕ = number_of m.controller in
    let P : Talk → Type 0 = λ z. IsRead t Controller n z in
    let Q : Talk → Type 0 = λ z. IsRead t Host n z in
    let one = one_number l s events a q.controller q.host in
    delivered t Host n (talk_now m.host.side) (talk_now m.controller.side)
    (subst Q (up_now m.host n q.host one) (read_there l s events a n)) (subst P (up_now m.controller n q.controller refl) (read_here l s events a n))
    (delivered_there l s events a (let h0 = knows l s events a in grind arith))

-- ## A reset whose answer nothing withheld has brought both ends up

-- ### How far it is kept back, over what happens at one end

sure_near : (s : Bool) (c : CoreLink) (es : List CoreEndEvent) → sure_after s c (map CoreAtController es) ≡ sure_turns s c es
sure_near s c [] = refl
sure_near s c (e ∷ es) = sure_near (sure_here s c e) (core_happens_here c e) es

sure_there : (s : Bool) (c : CoreLink) (es : List CoreEndEvent) → sure_after s c (map CoreAtHost es) ≡ sure_turns s (core_exchanged c) es
sure_there s c [] = refl
sure_there s c (e ∷ es) = sure_there (sure_here s (core_exchanged c) e) (core_happens c (CoreAtHost e)) es

sure-append : (s : Bool) (c : CoreLink) (es fs : List CoreLinkEvent) → sure_after s c (es ++ fs) ≡ sure_after (sure_after s c es) (core_after c es) fs
sure-append s c [] fs = refl
sure-append s c (e ∷ es) fs = sure-append (sure_event s c e) (core_happens c e) es fs

turns-append : (s : Bool) (c : CoreLink) (es fs : List CoreEndEvent) → sure_turns s c (es ++ fs) ≡ sure_turns (sure_turns s c es) (core_all_here c es) fs
turns-append s c [] fs = refl
turns-append s c (e ∷ es) fs = turns-append (sure_here s c e) (core_happens_here c e) es fs

all_spares : {kf : ℕ} (es : List EndEvent) (s : Bool) (l : Link) → AreOwn l es → IsInTick kf l
    → is_open l.controller.side.role ≡ true → Stands (entries_of_events Controller l es)
    → Spares (entries_of_events Controller l es) s (sure_turns s (core_of l) (core_all l es)) (all_at_controller l es)
all_spares [] s l a i k st = (λ p sp. p, k)
all_spares (e ∷ es) s l a i k st =
    let m : Link = happens_at_controller l e in
    let u : List Entry = here_entries Controller l e in
    let v : List Entry = entries_of_events Controller m es in
    let y = stands_parts u v st in
    let n : Bool = sure_turns s (core_of l) (core_here l e) in
    let first = own_spares s Controller l e a.0 a.1 i.tells (near_in_tick l i).rests k y.0 in
    let more = all_spares es n m a.2 (own_in_tick l e a.0 a.1 i) first.1 y.1 in (
      λ p sp. let x = spared_parts u v sp in
          turns-append s (core_of l) (core_here l e) (core_all m es)
          ∙ (ap (λ c. sure_turns n c (core_all m es)) (sym (own_step l e a.0 a.1 i).core) ∙ more.0 (first.0 p x.0) x.1),
      more.1,
    )

-- ### Ticks

-- frames that are too old are lost
none_aged : (who : End) (w : List OnWire) → Spared (aged_entries who w) → loses_aged (sans w) ≡ false
none_aged who [] q = refl
none_aged who (x ∷ xs) q = let h0 = none_aged who xs in grind arith

aged_sure : (s : Bool) (l : Link) → s ≡ true → Spared (aged_entries Controller l.to_controller) → Spared (aged_entries Host l.to_host)
    → sure_aged s (core_of l) ≡ true
aged_sure s l p a b = rw ((none_aged Controller l.to_controller a), (none_aged Host l.to_host b), p) refl

-- how far it is kept back after the tick of an end
abbrev tick_flag : Bool → Link → Node → Bool
tick_flag s l node =
    let t : Option (List CoreTurn) = core_tick l.controller.side node.turns node.ending in
    sure_turns (sure_tick s t (core_of l)) (core_ticks_or_cut t (core_of l)) (core_tick_rest l.controller.side node.turns node.ending)

tick_spares : (s : Bool) (who : End) (l : Link) (node : Node) → IsNode l node.turns node.ending → Tells l.controller
    → is_open l.controller.side.role ≡ true → Stands (tick_entries who l node)
    → Spares (tick_entries who l node) s (tick_flag s l node) (ticks_at_controller l node.turns node.ending)
tick_spares s who l node a h k st = go node.ending refl
  where
    e : LinkEnd
    e = l.controller.side

    ts : List Turn
    ts = node.turns

    f : LinkEnd
    f = after_input e HasTick

    m : Link
    m = with_ended l (is_some (ended_by e HasTick))

    as_named : Ending → Node
    as_named ending = record { turns = ts; ending = ending }

    go : (ending : Ending) → node.ending ≡ ending → Spares (tick_entries who l node) s (tick_flag s l node) (ticks_at_controller l ts node.ending)
    go CutOff q =
        absurd (rest_cut (told_of who l.controller HasTick) who m f ts (subst (λ z. Stands (tick_entries who l (as_named z))) q st))
    go GoesOut q =
        subst (λ z. Spares (tick_entries who l (as_named z)) s (tick_flag s l (as_named z)) (ticks_at_controller l ts z)) (sym q) (
          λ p sp. (grind arith) ∙ rest_sure s (sure_tick s (Some (core_turns f ts)) (core_of l)) who m f ts (tick_sure s l ts a.0 h k) p
              (spared_parts (told_of who l.controller HasTick) (rest_entries who m f ts GoesOut) sp).1,
          ap is_open (turned_role f ts ∙ (ap (λ (z : LinkEnd). z.role) (tick_open e k).0 ∙ moved_role e _ _)) ∙ k,
        )
      where
        flags : Option (List CoreTurn) → List CoreEndEvent → Bool
        flags t us = sure_turns (sure_tick s t (core_of l)) (core_ticks_or_cut t (core_of l)) us

-- ### Events

-- both ends are active
pub record AreActive (l : Link) : Type 0 where
  pub controller : is_open l.controller.side.role ≡ true
  pub host : is_open l.host.side.role ≡ true

-- where this was noted of an event: the answer is kept back no more than before, if it was spared, and both ends are active
pub record Goes (u : List Entry) (s n : Bool) (l : Link) : Type 0 where
  pub sure : s ≡ true → Spared u → n ≡ true
  pub active : AreActive l

open_as : (h k : NumberedEnd) → h ≡ k → is_open k.side.role ≡ true → is_open h.side.role ≡ true
open_as h k q o = ap (λ (z : NumberedEnd). is_open z.side.role) q ∙ o

-- the tick of an end leaves the other one as it is
pub ticks_host : (l : Link) (ts : List Turn) (ending : Ending) → (ticks_at_controller l ts ending).host ≡ l.host
ticks_host l ts ending =
    let b : Bool = is_some (ended_by l.controller.side HasTick) in
    host_finished (with_ended l b) (turned (after_input l.controller.side HasTick) ts) ending ∙ ended_host l b

-- an event in which no end is started, stopped or cut off
pub event_goes : (t : List Entry) (s : Bool) (l : Link) (e : LinkEvent) → IsEvent l e → Good l → Reached (core_of l) → Noted t l → AreActive l
    → Stands (event_entries l e) → Goes (event_entries l e) s (sure_after s (core_of l) (core_event l e)) (happens l e)
event_goes t s l (AtController e) a g r n o st =
    let k = here_spares s Controller l e a (before_here l g r n.sounds) o.controller st in
    record {
      sure = λ p sp. sure_near s (core_of l) (core_here l e) ∙ k.0 p sp;
      active = record { controller = k.1; host = open_as (happens_at_controller l e).host l.host (host_here l e a g r) o.host };
    }
event_goes t s l (AtHost e) a g r n o st =
    let f : Link = exchanged l in
    let b = before_there l g r n.sounds in
    let k = here_spares s Host f e a b o.host st in
    let host : (happens_at_controller f e).host ≡ f.host = (step_here f e a b.tells b.host b.in_order (rests_of 0 0 (core_of f) b.safe) b.from).host in
    grind arith
event_goes t s l (Ticks c es h) a g r n o st =
    let s0 = safe_aged (core_of l) (safe_reached (core_of l) r) in
    let ps : List Entry = aged_entries Controller l.to_controller in
    let bs : List Entry = aged_entries Host l.to_host in
    let near : Link = ticks_at_controller (aged l) c.turns c.ending in
    let cs : List Entry = tick_entries Controller (aged l) c in
    let ds : List Entry = entries_of_events Controller near es in
    let m : Link = all_at_controller near es in
    let fs : List Entry = tick_entries Host (exchanged m) h in
    let q2 = stands_parts bs (cs ++ (ds ++ fs)) (stands_parts ps (bs ++ (cs ++ (ds ++ fs))) st).1 in
    let q3 = stands_parts cs (ds ++ fs) q2.1 in
    let q4 = stands_parts ds fs q3.1 in
    let n1 : Bool = sure_aged s (core_of l) in
    let one = step_tick (aged l) c.turns c.ending a.0.0 a.0.1 g.controller (rests_of 1 1 (core_of (aged l)) s0) in
    let n2 : Bool = tick_flag n1 (aged l) c in
    let k2 = tick_spares n1 Controller (aged l) c a.0 g.controller o.controller q3.0 in
    let t1 : Option (List CoreTurn) = core_tick l.controller.side c.turns c.ending in
    let first : CoreLink = core_ticks_or_cut t1 (core_aged (core_of l)) in
    let stands = after_tick l c a.0 g r n.sounds in
    let all = all_step 1 near es a.1 stands.tells stands.safe in
    let n3 : Bool = sure_turns n2 (core_of near) (core_all near es) in
    let k3 = all_spares es n2 near a.1 stands k2.1 q4.0 in
    let host_is : m.host ≡ l.host = all.step.host ∙ one.host in
    let k4 = tick_spares n3 Host (exchanged m) h a.2 (tells_same m.host l.host host_is g.host) (open_as m.host l.host host_is o.host) q4.1 in
    let turns : List CoreEndEvent = (core_tick_rest l.controller.side c.turns c.ending) ++ core_all near es in
    let d : CoreLink = core_all_here first turns in
    let x_is : (sure_turns (sure_tick n1 t1 (core_aged (core_of l))) first turns) ≡ n3 = grind arith in
    let flag : sure_after s (core_of l) (core_event l (Ticks c es h)) ≡ (tick_flag n3 (exchanged m) h) = grind arith in
    record {
      sure = λ p sp. let p1 = spared_parts ps (bs ++ (cs ++ (ds ++ fs))) sp in
          let p2 = spared_parts bs (cs ++ (ds ++ fs)) p1.1 in
          let p3 = spared_parts cs (ds ++ fs) p2.1 in
          let p4 = spared_parts ds fs p3.1 in
          flag ∙ k4.0 (k3.0 (k2.0 (aged_sure s l p p1.0 p2.0) p3.0) p4.0) p4.1;
      active = record {
        controller = open_as (ticks_at_controller (exchanged m) h.turns h.ending).host m.controller (ticks_host (exchanged m) h.turns h.ending) k3.1;
        host = k4.1;
      };
    }
  where
    flags : Bool → CoreLink → NumberedEnd → Bool
    flags n d z =
        let t : Option (List CoreTurn) = core_tick z.side h.turns h.ending in
        sure_turns (sure_tick n t (core_exchanged d)) (core_ticks_or_cut t (core_exchanged d)) (core_tick_rest z.side h.turns h.ending)
event_goes t s l (TicksWithout es h) a g r n o st =
    let ps : List Entry = aged_entries Controller l.to_controller in
    let bs : List Entry = aged_entries Host l.to_host in
    let near : Link = aged l in
    let ds : List Entry = entries_of_events Controller near es in
    let m : Link = all_at_controller near es in
    let fs : List Entry = tick_entries Host (exchanged m) h in
    let q4 = stands_parts ds fs (stands_parts bs (ds ++ fs) (stands_parts ps (bs ++ (ds ++ fs)) st).1).1 in
    let n1 : Bool = sure_aged s (core_of l) in
    let first : CoreLink = core_ticks_if_waiting (core_aged (core_of l)) in
    let stands = without_tick l a.0 g r n.sounds in
    let all = all_step 1 near es a.1 stands.tells stands.safe in
    let turns : List CoreEndEvent = core_all near es in
    let n3 : Bool = sure_turns n1 (core_of near) turns in
    let k3 = all_spares es n1 near a.1 stands o.controller q4.0 in
    let host_is : m.host ≡ l.host = all.step.host in
    let k4 = tick_spares n3 Host (exchanged m) h a.2 (tells_same m.host l.host host_is g.host) (open_as m.host l.host host_is o.host) q4.1 in
    let x_is : (sure_turns (sure_if_waiting n1 (core_aged (core_of l))) first turns) ≡ n3 = rw a.0 refl in
    let d_is : core_all_here first turns ≡ core_of m = ap (λ z. core_all_here z turns) (rw a.0 refl) ∙ sym all.step.core in
    record {
      sure = λ p sp. let p1 = spared_parts ps (bs ++ (ds ++ fs)) sp in
          let p2 = spared_parts bs (ds ++ fs) p1.1 in
          let p4 = spared_parts ds fs p2.1 in
          (grind arith) ∙ k4.0 (k3.0 (aged_sure s l p p1.0 p2.0) p4.0) p4.1;
      active = record {
        controller = open_as (ticks_at_controller (exchanged m) h.turns h.ending).host m.controller (ticks_host (exchanged m) h.turns h.ending) k3.1;
        host = k4.1;
      };
    }
  where
    flags : Bool → CoreLink → NumberedEnd → Bool
    flags n d z =
        let t : Option (List CoreTurn) = core_tick z.side h.turns h.ending in
        sure_turns (sure_tick n t (core_exchanged d)) (core_ticks_or_cut t (core_exchanged d)) (core_tick_rest z.side h.turns h.ending)
event_goes t s l (Activate power c id h) a g r n o st = absurd (true≢false st)

-- ### Runs

-- one event, and those behind it
sure_first : (s : Bool) (l : Link) (e : LinkEvent) (es : List LinkEvent) → core_of (happens l e) ≡ core_after (core_of l) (core_event l e)
    → sure_after s (core_of l) (core_events l (e ∷ es))
    ≡ sure_after (sure_after s (core_of l) (core_event l e)) (core_of (happens l e)) (core_events (happens l e) es)
sure_first s l e es q = grind arith

-- none of these entries withholds the answer
record NoneWithholds (u : List Entry) : Type 0 where
  spared : Spared u
  stands : Stands u

none_first : (u v : List Entry) → NoneWithholds (u ++ v) → NoneWithholds u
none_first u v h = record { spared = (spared_parts u v h.spared).0; stands = (stands_parts u v h.stands).0 }

none_behind : (u v : List Entry) → NoneWithholds (u ++ v) → NoneWithholds v
none_behind u v h = record { spared = (spared_parts u v h.spared).1; stands = (stands_parts u v h.stands).1 }

-- events in which nothing withholds it
behind_sure : (es : List LinkEvent) (t : List Entry) (s : Bool) (l : Link) → AllAllowed l es → IsUnderWay t l → AreActive l → s ≡ true
    → NoneWithholds (entries l es) → sure_after s (core_of l) (core_events l es) ≡ true
behind_sure [] t s l a w o p none = p
behind_sure (e ∷ es) t s l a w o p none =
    let ev = event_step l e a.0 w.good w.reached in
    let m : Link = happens l e in
    let u : List Entry = event_entries l e in
    let v : List Entry = entries m es in
    let first : NoneWithholds u = none_first u v none in
    let k : Bool = sure_after s (core_of l) (core_event l e) in
    let one = event_goes t s l e a.0 w.good w.reached w.noted o first.stands in
    sure_first s l e es ev.core ∙ behind_sure es (t ++ u) k m a.1 (goes_on l e a.0 w) one.active (one.sure p first.spared) (none_behind u v none)

-- a reset at the controller's end, and one at the host's
asked_here : (s : Bool) (l : Link) (window : Option ℕ) (ts : List Turn) → IsAllowed l (Step (AsksReset window) ts GoesOut) → FindsReady l
    → (sure_turns s (core_of l) (core_here l (Step (AsksReset window) ts GoesOut)) ≡ true)
    × (is_open (happens_at_controller l (Step (AsksReset window) ts GoesOut)).controller.side.role ≡ true)
asked_here s l window ts a f = (
  (grind arith),
  ap is_open (turned_role (after_input l.controller.side (Reset window)) ts ∙ reset_role l.controller.side window)
      ∙ (reset_tells l.controller.side f.granted).0,
)

-- such a reset in place of the tick of the controller's end
asked_in_tick : {t : List Entry} (s : Bool) (l : Link) (window : Option ℕ) (ts : List Turn) (es : List EndEvent) (h : Node)
    → IsEvent l (TicksWithout (Step (AsksReset window) ts GoesOut ∷ es) h) → IsUnderWay t l → FindsReady l
    → NoneWithholds (rest_of l (TicksWithout (Step (AsksReset window) ts GoesOut ∷ es) h))
    → (sure_after s (core_of l) (core_event l (TicksWithout (Step (AsksReset window) ts GoesOut ∷ es) h)) ≡ true)
    × AreActive (happens l (TicksWithout (Step (AsksReset window) ts GoesOut ∷ es) h))
asked_in_tick s l window ts es h a w f none =
    let near : Link = aged l in
    let first : CoreLink = core_ticks_if_waiting (core_aged (core_of l)) in
    let x : EndEvent = Step (AsksReset window) ts GoesOut in
    let stands = without_tick l a.0 w.good w.reached w.noted.sounds in
    let one = own_step near x tt a.1.1 stands in
    let m : Link = happens_at_controller near x in
    let all = all_step 1 near (x ∷ es) a.1 stands.tells stands.safe in
    let turns : List CoreEndEvent = core_all near (x ∷ es) in
    let last : Link = all_at_controller m es in
    let ds : List Entry = entries_of_events Controller m es in
    let fs : List Entry = tick_entries Host (exchanged last) h in
    let p = spared_parts ds fs none.spared in
    let q = stands_parts ds fs none.stands in
    let n1 : Bool = sure_aged s (core_of l) in
    let n2 : Bool = sure_turns n1 (core_of near) (core_here near x) in
    let asked = asked_here n1 near window ts a.1.1 (record { granted = f.granted; active = f.active; free = f.free }) in
    let n3 : Bool = sure_turns n2 (core_of m) (core_all m es) in
    let k3 = all_spares es n2 m a.1.2 (own_in_tick near x tt a.1.1 stands) asked.1 q.0 in
    let host_is : last.host ≡ l.host = all.step.host in
    let k4 = tick_spares n3 Host (exchanged last) h a.2 (tells_same last.host l.host host_is w.good.host) (open_as last.host l.host host_is f.active) q.1 in
    let y_is : (sure_turns (sure_if_waiting n1 (core_aged (core_of l))) first turns) ≡ n3 =
    (rw a.0 refl)
    ∙ (turns-append n1 (core_of near) (core_here near x) (core_all m es) ∙ ap (λ z. sure_turns n2 z (core_all m es)) (sym one.core)) in
    let d_is : core_all_here first turns ≡ core_of last = ap (λ z. core_all_here z turns) (rw a.0 refl) ∙ sym all.step.core in
    let core : CoreLinkEvent = CoreTickWithout turns (core_tick l.host.side h.turns h.ending) in
    let flag : sure_after s (core_of l) (core_event l (TicksWithout (x ∷ es) h)) ≡ (tick_flag n3 (exchanged last) h) =
    sure_there (sure_event s (core_of l) core) (core_happens (core_of l) core) (core_tick_rest l.host.side h.turns h.ending)
    ∙ (ap (λ z. flags z (core_all_here first turns) l.host) y_is ∙ (ap (λ z. flags n3 z l.host) d_is ∙ ap (flags n3 (core_of last)) (sym host_is))) in (
      flag ∙ k4.0 (k3.0 asked.0 p.0) p.1,
      record {
        controller = open_as (ticks_at_controller (exchanged last) h.turns h.ending).host last.controller (ticks_host (exchanged last) h.turns h.ending) k3.1;
        host = k4.1;
      },
    )
  where
    flags : Bool → CoreLink → NumberedEnd → Bool
    flags n d z =
        let t : Option (List CoreTurn) = core_tick z.side h.turns h.ending in
        sure_turns (sure_tick n t (core_exchanged d)) (core_ticks_or_cut t (core_exchanged d)) (core_tick_rest z.side h.turns h.ending)

asked_goes : {t : List Entry} (s : Bool) (l : Link) (e : LinkEvent) → IsEvent l e → IsUnderWay t l → IsReset l e → NoneWithholds (rest_of l e)
    → (sure_after s (core_of l) (core_event l e) ≡ true) × AreActive (happens l e)
asked_goes s l (AtController (Step (AsksReset window) ts GoesOut)) a w f none =
    let x : EndEvent = Step (AsksReset window) ts GoesOut in
    let k = asked_here s l window ts a f in (
      sure_near s (core_of l) (core_here l x)
          ∙ k.0,
      record { controller = k.1; host = open_as (happens_at_controller l x).host l.host (host_here l x a w.good w.reached) f.active },
    )
asked_goes s l (AtHost (Step (AsksReset window) ts GoesOut)) a w f none =
    let x : EndEvent = Step (AsksReset window) ts GoesOut in
    let m : Link = exchanged l in
    let k = asked_here s m window ts a f in
    let safe = safe_exchanged 0 0 (core_of l) (safe_reached (core_of l) w.reached) in
    let host : (happens_at_controller m x).host ≡ m.host = (own_here m x tt a w.good.host (rests_of 0 0 (core_of m) safe)).host in
    (sure_there s (core_of l) (core_here m x) ∙ k.0, record { controller = open_as (happens_at_controller m x).host m.host host f.active; host = k.1 })
asked_goes s l (TicksWithout (Step (AsksReset window) ts GoesOut ∷ es) h) a w f none = asked_in_tick s l window ts es h a w f none
asked_goes s l (_) a w f none = absurd f

run_sure : (before : List LinkEvent) (reset : LinkEvent) (behind : List LinkEvent) (t : List Entry) (s : Bool) (l : Link)
    → AllAllowed l (before ++ reset ∷ behind) → IsUnderWay t l → IsReset (after_link_events l before) reset
    → NoneWithholds (rest_of (after_link_events l before) reset ++ entries (happens (after_link_events l before) reset) behind)
    → sure_after s (core_of l) (core_events l (before ++ reset ∷ behind)) ≡ true
run_sure [] e behind t s l a w is none =
    let m : Link = happens l e in
    let u : List Entry = rest_of l e in
    let v : List Entry = entries m behind in
    let rest : NoneWithholds v = none_behind u v none in
    let one = asked_goes s l e a.0 w is (none_first u v none) in
    sure_first s l e behind (event_step l e a.0 w.good w.reached).core
    ∙ behind_sure behind (t ++ event_entries l e) (sure_after s (core_of l) (core_event l e)) m a.1 (goes_on l e a.0 w) one.1 one.0 rest
run_sure (x ∷ before) e behind t s l a w is none =
    sure_first s l x (before ++ e ∷ behind) (event_step l x a.0 w.good w.reached).core
    ∙ run_sure before e behind (t ++ event_entries l x) (sure_after s (core_of l) (core_event l x)) (happens l x) a.1 (goes_on l x a.0 w) is none

-- where nothing withheld the answer to a reset, and both wires hold no frames now but of activation
pub together : (l : Link) → IsStart l → (before : List LinkEvent) (reset : LinkEvent) (behind : List LinkEvent) → AllAllowed l (before ++ reset ∷ behind)
    → IsReset (after_link_events l before) reset
    → list_any withholds (rest_of (after_link_events l before) reset ++ entries (happens (after_link_events l before) reset) behind) ≡ false
    → sans (after_link_events l (before ++ reset ∷ behind)).to_controller ≡ [] → sans (after_link_events l (before ++ reset ∷ behind)).to_host ≡ []
    → LinkTogether (after_link_events l (before ++ reset ∷ behind))
together l s before reset behind a asked undisturbed near there =
    let none = none_withholds (rest_of (after_link_events l before) reset ++ entries (happens (after_link_events l before) reset) behind) undisturbed in
    up_together l s (before ++ reset ∷ behind) a
    (record {
      undisturbed =
          run_sure before reset behind (first_entries l.controller.side.role) false l a (start_under_way l s) asked
          (record { spared = none.0; stands = none.1 });
      to_controller = near;
      to_host = there;
    })
