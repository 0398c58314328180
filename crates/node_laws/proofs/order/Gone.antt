-- Once an end was started, stopped or cut off it is Down, and no session with a number in use until then begins there any more.
use Rattle.node_laws.proofs.Words.{Acked, ActEvent, ActStart, ActStop, Activate, Active, AllByRecursion, AreOwn, AsksReset, AtController, AtHost, Bool, CanEnd}
use Rattle.node_laws.proofs.Words.{Cause, Comes, Control, Controller, CoreEndEvent, CoreLink, Cut, CutOff, Down, Emit, EndEvent, EndState, Ending, GaveUp}
use Rattle.node_laws.proofs.Words.{GoesOut, Good, Got, HasTick, Host, IsDown, IsEvent, IsNode, IsOwn, IsUicc, Link, LinkEnd, LinkEvent, LinkInput, List, Lose}
use Rattle.node_laws.proofs.Words.{Loss, Lost, Message, NextFrame, NoInput, Node, NumberedEnd, OnWire, Option, Reached, Report, Reset, Restarted, SafeLink}
use Rattle.node_laws.proofs.Words.{Seen, Sent, Start, Starts, Step, Stop, Stops, Take, TicksWithout, Took, Turn, [], activated, after_input, aged, aged_entries}
use Rattle.node_laws.proofs.Words.{all_at_controller, ap, arith, begins, by_list, by_test, clf_starts, core_end, core_event, core_here, core_of, core_tick_rest}
use Rattle.node_laws.proofs.Words.{ended_by, ending_entries, entries, entries_of_events, eqb-true, event_entries, event_step, exchanged, false, finished}
use Rattle.node_laws.proofs.Words.{first_lost, frames_out, happens, happens_at_controller, here_entries, host_finished, if_so, inl, inr, is_some, kept}
use Rattle.node_laws.proofs.Words.{left_after, list_any, map, most_frames, moved, nat_lt, number_of, option_to_list, put, put_entries, puts_entries}
use Rattle.node_laws.proofs.Words.{reached_more, refl, report, reset_role, rest_entries, rests_of, safe_reached, see, see_all, silences, silent, step_entries}
use Rattle.node_laws.proofs.Words.{steps_at_controller, stopped, subst, sym, tick_entries, ticks_at_controller, told, told_of, took_with, true, true≢false}
use Rattle.node_laws.proofs.Words.{turn, turn_entries, turn_entry, turned, turned_same, whole_acked, with_ended, ℕ, ◌++◌, ◌==◌, ◌∙◌, ◌∷◌, ◌≡◌, ◌≤◌, ◌⊎◌}
use Rattle.link_laws.proofs.entries.Noting.{restart_can, tick_can}
use Rattle.link_laws.proofs.entries.Running.{host_here}
use Rattle.link_laws.proofs.entries.Seeing.{all_seen, here_seen, seen_as, step_seen, tick_seen}
use Rattle.link_laws.proofs.messages.Finishing.{can_end, restart_mid, step_tick, took_can}
use Rattle.link_laws.proofs.messages.Project.{Now, Tells, frames_alike, host_ended as ended_host}
use Rattle.link_laws.proofs.messages.Runs.{all_step, own_here, own_turns, rest_both}
use Rattle.link_laws.proofs.sessions.Steps.{safe_aged, safe_turns, tick_if_waiting, tick_or_cut}
use Rattle.link_laws.specs.entries.Entries.{End, Entry}
use Rattle.link_laws.specs.entries.Entries.Entry.{Tick, Up}
use Rattle.link_laws.specs.machine.Machine.{took as took_frame}
use Rattle.link_laws.specs.messages.Links.{CanStart, IsAllowed}
use Rattle.link_laws.specs.messages.Links.LinkEvent.{Ticks}
use Rattle.link_laws.specs.messages.Projection.{core_all, core_tick}
use Rattle.link_laws.specs.sessions.Sessions.{shdlc_aged as core_aged, ticks_if_waiting as core_ticks_if_waiting, ticks_or_cut as core_ticks_or_cut}
use Rattle.node_laws.proofs.order.Marking.{IsPast, Jumps, StaysWithin, all_jump, all_number, all_resets, far_past, near_past, number_seen, see_within, silenced}
use Rattle.node_laws.proofs.order.Marking.{turns_past}

-- ## An end that is started, stopped or cut off in a step is Down behind it, and what it comes up with is noted

-- ### What is noted of a step

-- nothing of these is heard: only ends that come up, are started or stopped, or are cut off
pub record IsDeaf (f : Entry → Bool) : Type 0 where
  pub down : (who : End) (cause : Cause) → f (Down who cause) ≡ false
  pub active : (who : End) → f (Active who) ≡ false
  pub gave_up : (who : End) (tries : ℕ) → f (GaveUp who tries) ≡ false
  pub acked : (who : End) (n count : ℕ) → f (Acked who n count) ≡ false
  pub got : (who : End) (n : ℕ) (m : Message) → f (Got who n m) ≡ false
  pub sent : (who : End) (n : ℕ) (m : Message) → f (Sent who n m) ≡ false
  pub emit : (who : End) (e : LinkEnd) → AllByRecursion (λ c. f (Emit who c) ≡ false) (frames_out e)
  pub took : (who : End) (c : Control) → f (Took who c) ≡ false
  pub lost : (who : End) (c : Control) (why : Loss) → f (Lost who c why) ≡ false
  pub tick : f Tick ≡ false

module _ (f : Entry → Bool) where
  -- such an entry is among these
  abbrev pub Hears : List Entry → Type 0
  Hears t = list_any f t ≡ true

  pub hears_parts : (t u : List Entry) → Hears (t ++ u) → Hears t ⊎ Hears u
  hears_parts [] u q = inr q
  hears_parts (e ∷ t) u q = by_test (f e) (λ p. inl (rw p refl)) (λ p. with p (hears_parts t u (let z = q in rw p at z)))
    where
      with : f e ≡ false → Hears t ⊎ Hears u → Hears (e ∷ t) ⊎ Hears u
      with p a = grind arith

  module _ (deaf : IsDeaf f) where
    none_so : (b : Bool) (e : Entry) → f e ≡ false → Hears (if_so b e) → ⊥
    none_so b e p q = grind arith

    none_option : {A : Type 0} (g : A → Entry) (o : Option A) → ((x : A) → f (g x) ≡ false) → Hears (map g (option_to_list o)) → ⊥
    none_option g o p q = grind arith

    none_got : (who : End) (n : ℕ) (ms : List Message) → Hears (map (Got who n) ms) → ⊥
    none_got who n [] q = true≢false (sym q)
    none_got who n (m ∷ ms) q = none_got who n ms (let r = deaf.got who n m in let z = q in rw r at z)

    none : {A : Type 0} {B : Type 0} → (A → ⊥) → A ⊎ B → B
    none never a = grind arith

    -- an end that comes up
    told_heard : (who : End) (n : ℕ) (r : Report) (acked : ℕ) → Hears (told who n r acked) → (r.began ≡ true) × (f (Up who n) ≡ true)
    told_heard who n r acked q =
        let a : List Entry = map (Down who) (option_to_list r.ended) in
        let b : List Entry = if_so r.began (Up who n) in
        let c : List Entry = if_so r.became_active (Active who) in
        let d : List Entry = map (GaveUp who) (option_to_list r.gave_up) in
        let e : List Entry = if_so (nat_lt 0 r.acked) (Acked who n acked) in
        let g : List Entry = map (Got who n) r.got in
        began (hears_parts b (c ++ (d ++ (e ++ g))) (none (none_option (Down who) r.ended (deaf.down who)) (hears_parts a (b ++ (c ++ (d ++ (e ++ g)))) q)))
      where
        began : Hears (if_so r.began (Up who n)) ⊎ Hears (if_so r.became_active (Active who) ++ (map (GaveUp who) (option_to_list r.gave_up)
            ++ (if_so (nat_lt 0 r.acked) (Acked who n acked) ++ map (Got who n) r.got))) → (r.began ≡ true) × (f (Up who n) ≡ true)
        began (inl x) = grind arith
        began (inr x) =
            let c : List Entry = if_so r.became_active (Active who) in
            let d : List Entry = map (GaveUp who) (option_to_list r.gave_up) in
            let e : List Entry = if_so (nat_lt 0 r.acked) (Acked who n acked) in
            let g : List Entry = map (Got who n) r.got in
            let z = none (none_option (GaveUp who) r.gave_up (deaf.gave_up who)) (hears_parts d (e ++ g) (grind arith)) in
            absurd (none_got who n r.got
            (none (none_so (nat_lt 0 r.acked) (Acked who n acked) (deaf.acked who n acked)) (hears_parts e g z)))

    none_turn : (who : End) (n : ℕ) (e : LinkEnd) (t : Turn) → Hears (turn_entry who n e t) → ⊥
    none_turn who n e t q = grind arith

    none_turns : (who : End) (n : ℕ) (ts : List Turn) (e : LinkEnd) → Hears (turn_entries who n e ts) → ⊥
    none_turns who n [] e q = true≢false (sym q)
    none_turns who n (t ∷ ts) e q =
        none_turns who n ts (turn e t) (none (none_turn who n e t) (hears_parts (turn_entry who n e t) (turn_entries who n (turn e t) ts) q))

    none_first : (who : End) (why : Loss) (w : List OnWire) → Hears (first_lost who why w) → ⊥
    none_first who why w q = grind arith

    none_puts : (who : End) (cs : List Control) (l : Link) → AllByRecursion (λ c. f (Emit who c) ≡ false) cs → Hears (puts_entries who l cs) → ⊥
    none_puts who [] l a q = true≢false (sym q)
    none_puts who (c ∷ cs) l a q = go (hears_parts (put_entries who l c) (puts_entries who (put l c) cs) q) (none_puts who cs (put l c) a.1)
      where
        go : Hears (put_entries who l c) ⊎ Hears (puts_entries who (put l c) cs) → (Hears (puts_entries who (put l c) cs) → ⊥) → ⊥
        go (inl x) later = grind arith
        go (inr x) later = later x

    -- a cut
    rest_heard : (who : End) (l : Link) (e : LinkEnd) (ts : List Turn) (ending : Ending) → Hears (rest_entries who l e ts ending)
        → (ending ≡ CutOff) × (f (Cut who) ≡ true)
    rest_heard who l e ts ending q =
        go ending (none (none_turns who (number_of l.controller) ts e)
        (hears_parts (turn_entries who (number_of l.controller) e ts) (ending_entries who l (turned e ts) ending) q))
      where
        go : (ending : Ending) → Hears (ending_entries who l (turned e ts) ending) → (ending ≡ CutOff) × (f (Cut who) ≡ true)
        go GoesOut x = absurd (none_puts who (frames_out (turned e ts)) l (deaf.emit who (turned e ts)) x)
        go CutOff x = (refl, grind arith)

    -- of a step in which an input comes
    input_heard : (who : End) (h : NumberedEnd) (i : LinkInput) (k : Link) (e : LinkEnd) (ts : List Turn) (ending : Ending)
        → Hears (told_of who h i ++ rest_entries who k e ts ending)
        → (((report h.side i).began ≡ true) × (f (Up who (number_of h)) ≡ true)) ⊎ ((ending ≡ CutOff) × (f (Cut who) ≡ true))
    input_heard who h i k e ts ending q = go (hears_parts (told_of who h i) (rest_entries who k e ts ending) q)
      where
        go : Hears (told_of who h i) ⊎ Hears (rest_entries who k e ts ending)
            → (((report h.side i).began ≡ true) × (f (Up who (number_of h)) ≡ true)) ⊎ ((ending ≡ CutOff) × (f (Cut who) ≡ true))
        go (inl x) = inl (told_heard who (number_of h) (report h.side i) (whole_acked (after_input h.side i)) x)
        go (inr x) = inr (rest_heard who k e ts ending x)

    none_aged : (who : End) (w : List OnWire) → Hears (aged_entries who w) → ⊥
    none_aged who [] q = true≢false (sym q)
    none_aged who (x ∷ xs) q = by_test (nat_lt x.age 4)
        (λ p. none_aged who xs (let z = q in rw p at z))
        (λ p. none_aged who xs (grind arith))

-- ### Down behind it

cut_down : (k : Link) (g : LinkEnd) (ending : Ending) → CanEnd g.role ending → ending ≡ CutOff → (finished k g ending).controller.side.shdlc.phase ≡ IsDown
cut_down k g ending can q = grind arith

-- it goes on Down
still_down : (k : Link) (f : LinkEnd) (ts : List Turn) (ending : Ending) → CanEnd (turned f ts).role ending → f.shdlc.phase ≡ IsDown
    → (finished k (turned f ts) ending).controller.side.shdlc.phase ≡ IsDown
still_down k f ts CutOff can p = cut_down k (turned f ts) CutOff can refl
still_down k f ts GoesOut can p = (frames_alike most_frames (turned f ts).shdlc).phase ∙ (turned_same ts f ∙ p)

restart_down : (l : Link) (event : ActEvent) (ts : List Turn) (ending : Ending) → CanEnd l.controller.side.role ending → Now l.controller.side
    → (let f : LinkEnd = activated (moved l.controller.side true (stopped l.controller.side.shdlc)) event in
    (finished (silent l f) (turned f ts) ending).controller.side.shdlc.phase ≡ IsDown)
restart_down l event ts ending can now =
    let e : LinkEnd = l.controller.side in
    let f : LinkEnd = activated (moved e true (stopped e.shdlc)) event in
    still_down (silent l f) f ts ending (restart_can e event ts ending can) (ap (λ (s : EndState). s.phase) (restart_mid e event now).same)

-- no frame is one of them
never_put : (f : Entry → Bool) (who : End) → ((c : Control) → f (Emit who c) ≡ false) → (cs : List Control)
    → AllByRecursion (λ c. f (Emit who c) ≡ false) cs
never_put f who p [] = tt
never_put f who p (c ∷ cs) = (p c, never_put f who p cs)

silences_deaf : IsDeaf silences
silences_deaf =
    record {
      down = λ w c. refl;
      active = λ w. refl;
      gave_up = λ w t. refl;
      acked = λ w n c. refl;
      got = λ w n m. refl;
      sent = λ w n m. refl;
      emit = λ w e. never_put silences w (λ c. refl) (frames_out e);
      took = λ w c. refl;
      lost = λ w c y. refl;
      tick = refl;
    }

cut_of : {A : Type 0} {B : Type 0} {C : Type 0} → (B → ⊥) → ((A × B) ⊎ C) → C
cut_of never a = grind arith

not_so : false ≡ true → ⊥
not_so q = true≢false (sym q)

-- a step in which an end is started, stopped or cut off
step_down : (who : End) (l : Link) (comes : Comes) (ts : List Turn) (ending : Ending) → IsNode l ts ending → Now l.controller.side
    → Hears silences (step_entries who l comes ts ending) → (steps_at_controller l comes ts ending).controller.side.shdlc.phase ≡ IsDown
step_down who l NextFrame ts ending a now q = go l.to_controller refl
  where
    e : LinkEnd
    e = l.controller.side

    go : (w : List OnWire) → l.to_controller ≡ w → (steps_at_controller l NextFrame ts ending).controller.side.shdlc.phase ≡ IsDown
    go [] p = absurd (not_so (rw p at q))
    go (x ∷ xs) p =
        let h : NumberedEnd = record l.controller { took = took_with l.controller.took x } in
        let k : Link = left_after l x xs in
        let c = cut_of not_so (input_heard silences silences_deaf who h (Take x.frame) k (after_input e (Take x.frame)) ts ending (rw p at q)) in
        rw p (cut_down k (turned (after_input e (Take x.frame)) ts) ending
        (can_end (after_input e (Take x.frame)) ts (took_frame e x.frame).role ending refl (took_can e x.frame ending a.1)) c.0)
step_down who l (AsksReset window) ts ending a now q =
    let e : LinkEnd = l.controller.side in
    let i : LinkInput = Reset window in
    let k : Link = with_ended l (is_some (ended_by e i)) in
    let c = cut_of not_so (input_heard silences silences_deaf who l.controller i k (after_input e i) ts ending q) in
    cut_down k (turned (after_input e i) ts) ending (can_end (after_input e i) ts e.role ending (reset_role e window) a.1) c.0
step_down who l (Starts v) ts ending a now q = restart_down l (ActStart v) ts ending a.1 now
step_down who l Stops ts ending a now q = restart_down l ActStop ts ending a.1 now
step_down who l NoInput ts ending a now q =
    let e : LinkEnd = l.controller.side in
    cut_down l (turned e ts) ending (can_end e ts e.role ending refl a.1) (rest_heard silences silences_deaf who l e ts ending q).0

here_down : (who : End) (l : Link) (e : EndEvent) → IsAllowed l e → Now l.controller.side
    → Hears silences (here_entries who l e) → (happens_at_controller l e).controller.side.shdlc.phase ≡ IsDown
here_down who l (Step comes ts ending) a now q = step_down who l comes ts ending a.1 now q
here_down who l (Lose why) a now q = absurd (none_first silences silences_deaf who why l.to_controller q)

tick_down : (who : End) (l : Link) (node : Node) → IsNode l node.turns node.ending
    → Hears silences (tick_entries who l node) → (ticks_at_controller l node.turns node.ending).controller.side.shdlc.phase ≡ IsDown
tick_down who l node a q =
    let e : LinkEnd = l.controller.side in
    let k : Link = with_ended l (is_some (ended_by e HasTick)) in
    let c = cut_of not_so (input_heard silences silences_deaf who l.controller HasTick k (after_input e HasTick) node.turns node.ending q) in
    cut_down k (turned (after_input e HasTick) node.turns) node.ending (tick_can e node.turns node.ending a.1) c.0

-- ### What no step notes

-- nor are these heard at all
pub record HearsNone (f : Entry → Bool) : Type 0 where
  pub deaf : IsDeaf f
  pub up : (who : End) (n : ℕ) → f (Up who n) ≡ false
  pub restarted : (who : End) → f (Restarted who) ≡ false
  pub cut : (who : End) → f (Cut who) ≡ false

module _ (f : Entry → Bool) (mute : HearsNone f) where
  input_mute : (who : End) (h : NumberedEnd) (i : LinkInput) (k : Link) (e : LinkEnd) (ts : List Turn) (ending : Ending)
      → Hears f (told_of who h i ++ rest_entries who k e ts ending) → ⊥
  input_mute who h i k e ts ending q = go (input_heard f mute.deaf who h i k e ts ending q)
    where
      go : (((report h.side i).began ≡ true) × (f (Up who (number_of h)) ≡ true)) ⊎ ((ending ≡ CutOff) × (f (Cut who) ≡ true)) → ⊥
      go a = grind arith

  step_mute : (who : End) (l : Link) (comes : Comes) (ts : List Turn) (ending : Ending) → Hears f (step_entries who l comes ts ending) → ⊥
  step_mute who l NextFrame ts ending q = by_list l.to_controller
      (λ p. true≢false (sym (rw p at q)))
      (λ x xs p. let h : NumberedEnd = record l.controller { took = took_with l.controller.took x } in
      let r = mute.deaf.took who x.frame in
      input_mute who h (Take x.frame) (left_after l x xs) (after_input l.controller.side (Take x.frame)) ts ending (rw r at (rw p at q)))
  step_mute who l (AsksReset window) ts ending q =
      let i : LinkInput = Reset window in
      input_mute who l.controller i (with_ended l (is_some (ended_by l.controller.side i))) (after_input l.controller.side i) ts ending q
  step_mute who l (Starts v) ts ending q =
      let i : LinkInput = Start v in
      let r = mute.restarted who in
      input_mute who l.controller i (silent l (after_input l.controller.side i)) (after_input l.controller.side i) ts ending (let z = q in rw r at z)
  step_mute who l Stops ts ending q =
      let i : LinkInput = Stop in
      let r = mute.restarted who in
      input_mute who l.controller i (silent l (after_input l.controller.side i)) (after_input l.controller.side i) ts ending (let z = q in rw r at z)
  step_mute who l NoInput ts ending q = true≢false (sym (rest_heard f mute.deaf who l l.controller.side ts ending q).1 ∙ mute.cut who)

  here_mute : (who : End) (l : Link) (e : EndEvent) → Hears f (here_entries who l e) → ⊥
  here_mute who l (Step comes ts ending) q = step_mute who l comes ts ending q
  here_mute who l (Lose why) q = none_first f mute.deaf who why l.to_controller q

  tick_mute : (who : End) (l : Link) (node : Node) → Hears f (tick_entries who l node) → ⊥
  tick_mute who l node q =
      input_mute who l.controller HasTick (with_ended l (is_some (ended_by l.controller.side HasTick))) (after_input l.controller.side HasTick) node.turns
      node.ending q

  all_mute : (es : List EndEvent) (l : Link) → Hears f (entries_of_events Controller l es) → ⊥
  all_mute [] l q = true≢false (sym q)
  all_mute (e ∷ es) l q =
      all_mute es (happens_at_controller l e)
      (none f mute.deaf (here_mute Controller l e)
      (hears_parts f (here_entries Controller l e) (entries_of_events Controller (happens_at_controller l e) es) q))

  event_mute : (l : Link) (e : LinkEvent) → Hears f (event_entries l e) → ⊥
  event_mute l (AtController e) q = here_mute Controller l e q
  event_mute l (AtHost e) q = here_mute Host (exchanged l) e q
  event_mute l (Ticks c es h) q =
      let near : Link = ticks_at_controller (aged l) c.turns c.ending in
      let cs : List Entry = tick_entries Controller (aged l) c in
      let ds : List Entry = entries_of_events Controller near es in
      let fs : List Entry = tick_entries Host (exchanged (all_at_controller near es)) h in
      let tick = mute.deaf.tick in
      tick_mute Host (exchanged (all_at_controller near es)) h (none f mute.deaf (all_mute es near) (hears_parts f ds fs
      (none f mute.deaf (tick_mute Controller (aged l) c) (hears_parts f cs (ds ++ fs)
      (none f mute.deaf (none_aged f mute.deaf Host l.to_host) (hears_parts f (aged_entries Host l.to_host) (cs ++ (ds ++ fs))
      (none f mute.deaf (none_aged f mute.deaf Controller l.to_controller)
      (hears_parts f (aged_entries Controller l.to_controller) (aged_entries Host l.to_host ++ (cs ++ (ds ++ fs))) (rw tick at q)))))))))
  event_mute l (TicksWithout es h) q =
      let near : Link = aged l in
      let ds : List Entry = entries_of_events Controller near es in
      let fs : List Entry = tick_entries Host (exchanged (all_at_controller near es)) h in
      let tick = mute.deaf.tick in
      tick_mute Host (exchanged (all_at_controller near es)) h (none f mute.deaf (all_mute es near) (hears_parts f ds fs
      (none f mute.deaf (none_aged f mute.deaf Host l.to_host) (hears_parts f (aged_entries Host l.to_host) (ds ++ fs)
      (none f mute.deaf (none_aged f mute.deaf Controller l.to_controller)
      (hears_parts f (aged_entries Controller l.to_controller) (aged_entries Host l.to_host ++ (ds ++ fs)) (rw tick at q)))))))
  event_mute l (Activate power c id h) q =
      let k : Link = exchanged (steps_at_controller l (Starts power) c.turns c.ending) in
      step_mute Host k (Starts id) h.turns h.ending (none f mute.deaf (step_mute Controller l (Starts power) c.turns c.ending)
      (hears_parts f (step_entries Controller l (Starts power) c.turns c.ending) (step_entries Host k (Starts id) h.turns h.ending) q))

  pub events_mute : (es : List LinkEvent) (l : Link) → list_any f (entries l es) ≡ false
  events_mute es l = by_test (list_any f (entries l es)) (λ q. absurd (all es l q)) (λ q. q)
    where
      all : (es : List LinkEvent) (l : Link) → Hears f (entries l es) → ⊥
      all [] l q = true≢false (sym q)
      all (e ∷ es) l q = all es (happens l e) (none f mute.deaf (event_mute l e) (hears_parts f (event_entries l e) (entries (happens l e) es) q))

-- ## Once an end was started, stopped or cut off, no session with a number in use until then begins there any more

-- no session with this number begins at the controller's end of this link, which has this name, any more
abbrev pub IsGone : ℕ → End → Link → Type 0
IsGone n who l = Jumps n who (seen_as who l) ⊎ IsPast n (core_end l.controller)

-- or at one of the two ends
abbrev pub Gone : ℕ → Link → Type 0
Gone n l = IsGone n Controller l ⊎ IsGone n Host (exchanged l)

but : {A : Type 0} {B : Type 0} → (A → ⊥) → A ⊎ B → B
but x a = grind arith

-- ### One end

near_number : (who : End) (l : Link) → number_seen who (seen_as who l) ≡ number_of l.controller
near_number who l = grind arith

near_resets : (who : End) (l : Link) → (seen_as who l).resets ≡ l.resets
near_resets who l = grind arith

near_within : (who : End) (l : Link) → l.controller.emitted ≤ l.resets → StaysWithin who (seen_as who l)
near_within who l w = grind arith

step_gone : (n : ℕ) (who : End) (l k : Link) (u : List Entry) → see_all (seen_as who l) u ≡ seen_as who k → l.controller.emitted ≤ l.resets → n ≤ l.resets
    → Hears silences u → k.controller.side.shdlc.phase ≡ IsDown → IsGone n who k
step_gone n who l k u seen w r q down =
    go (silenced n who u (seen_as who l) (near_within who l w) (let z = near_resets who l in omega (arith, r, z)) q)
  where
    go : Jumps n who (see_all (seen_as who l) u) ⊎ (n ≤ number_seen who (see_all (seen_as who l) u)) → IsGone n who k
    go a = grind arith

-- more RSETs only
resets_more : (n : ℕ) (who : End) (l k : Link) (u : List Entry) → see_all (seen_as who l) u ≡ seen_as who k → n ≤ l.resets → n ≤ k.resets
resets_more n who l k u seen r =
    omega (arith, r, all_resets u (seen_as who l), (ap (λ (s : Seen). s.resets) seen), near_resets who l, near_resets who k)

-- things of its own happen there
all_keeps : (n kf : ℕ) (es : List EndEvent) (l : Link) → AreOwn l es → Tells l.controller → SafeLink 0 kf (core_of l)
    → IsGone n Controller l → IsGone n Controller (all_at_controller l es)
all_keeps n kf es l a h s (inl j) =
    inl (subst (λ (z : Seen). Jumps n Controller z) (all_seen Controller es l) (all_jump n Controller (entries_of_events Controller l es) (kept l) j))
all_keeps n kf es l a h s (inr p) =
    let all = all_step kf l es a h s in
    inr (subst (λ (c : CoreLink). IsPast n c.controller) (sym all.step.core) (turns_past n kf (core_all l es) (core_of l) all.turns s p))

all_silenced : (n kf : ℕ) (es : List EndEvent) (l : Link) → AreOwn l es → Tells l.controller → SafeLink 0 kf (core_of l) → n ≤ l.resets
    → Hears silences (entries_of_events Controller l es) → IsGone n Controller (all_at_controller l es)
all_silenced n kf [] l a h s r q = absurd (true≢false (sym q))
all_silenced n kf (e ∷ es) l a h s r q =
    let rests = rests_of 0 kf (core_of l) s in
    let one = own_here l e a.0 a.1 h rests in
    let m : Link = happens_at_controller l e in
    let P : CoreLink → Type 0 = λ c. SafeLink 0 kf c in
    let safe : SafeLink 0 kf (core_of m) = subst P (sym one.core) (safe_turns kf (core_here l e) (core_of l) (own_turns l e rests a.0 a.1) s) in
    go safe one.tells (all_silenced n kf es m a.2 one.tells safe (resets_more n Controller l m (here_entries Controller l e) (here_seen Controller l e) r))
    (hears_parts silences (here_entries Controller l e) (entries_of_events Controller m es) q)
  where
    m : Link
    m = happens_at_controller l e

    go : SafeLink 0 kf (core_of m) → Tells m.controller → (Hears silences (entries_of_events Controller m es) → IsGone n Controller (all_at_controller m es))
        → Hears silences (here_entries Controller l e) ⊎ Hears silences (entries_of_events Controller m es) → IsGone n Controller (all_at_controller m es)
    go safe tells later (inl x) =
        all_keeps n kf es m a.2 tells safe
        (step_gone n Controller l m (here_entries Controller l e) (here_seen Controller l e) s.hand.n_bound r x (here_down Controller l e a.1 h.now x))
    go safe tells later (inr x) = later x

-- the other end has its tick
tick_keeps : (n : ℕ) (m : Link) (node : Node) → IsGone n Controller m
    → IsGone n Controller (exchanged (ticks_at_controller (exchanged m) node.turns node.ending))
tick_keeps n m node (inl j) =
    inl (subst (λ (z : Seen). Jumps n Controller z) (tick_seen Host (exchanged m) node)
    (all_jump n Controller (tick_entries Host (exchanged m) node) (kept m) j))
tick_keeps n m node (inr p) =
    let b : Bool = is_some (ended_by m.host.side HasTick) in
    let same : (ticks_at_controller (exchanged m) node.turns node.ending).host ≡ m.controller =
    host_finished (with_ended (exchanged m) b) (turned (after_input m.host.side HasTick) node.turns) node.ending ∙ ended_host (exchanged m) b in
    inr (subst (λ (z : NumberedEnd). IsPast n (core_end z)) (sym same) p)

tick_gone : (n : ℕ) (who : End) (l : Link) (node : Node) → IsNode l node.turns node.ending → l.controller.emitted ≤ l.resets → n ≤ l.resets
    → Hears silences (tick_entries who l node) → IsGone n who (ticks_at_controller l node.turns node.ending)
tick_gone n who l node a w r q =
    step_gone n who l (ticks_at_controller l node.turns node.ending) (tick_entries who l node) (tick_seen who l node) w r q (tick_down who l node a q)

-- ### What is behind the tick of the controller's end, or stands in its place

rest_silenced : (n : ℕ) (es : List EndEvent) (near : Link) (h : Node) → AreOwn near es → IsNode (exchanged (all_at_controller near es)) h.turns h.ending
    → Tells near.controller → SafeLink 0 1 (core_of near) → n ≤ near.resets
    → Hears silences (entries_of_events Controller near es) ⊎ Hears silences (tick_entries Host (exchanged (all_at_controller near es)) h)
    → Gone n (exchanged (ticks_at_controller (exchanged (all_at_controller near es)) h.turns h.ending))
rest_silenced n es near h a node tells safe r (inl x) = inl (tick_keeps n (all_at_controller near es) h (all_silenced n 1 es near a tells safe r x))
rest_silenced n es near h a node tells safe r (inr x) =
    let m : Link = all_at_controller near es in
    let all = all_step 1 near es a tells safe in
    let P : CoreLink → Type 0 = λ d. SafeLink 0 1 d in
    let m_safe : SafeLink 0 1 (core_of m) = subst P (sym all.step.core) (safe_turns 1 (core_all near es) (core_of near) all.turns safe) in
    let more : n ≤ m.resets = resets_more n Controller near m (entries_of_events Controller near es) (all_seen Controller es near) r in
    inr (tick_gone n Host (exchanged m) h node m_safe.hand.f_bound more x)

-- ### An event in which an end is started, stopped or cut off

pub event_silenced : (n : ℕ) (l : Link) (e : LinkEvent) → IsEvent l e → Good l → Reached (core_of l) → n ≤ l.resets
    → Hears silences (event_entries l e) → Gone n (happens l e)
event_silenced n l (AtController e) a g r i q =
    inl (step_gone n Controller l (happens_at_controller l e) (here_entries Controller l e) (here_seen Controller l e)
    (safe_reached (core_of l) r).hand.n_bound i q
    (here_down Controller l e a g.controller.now q))
event_silenced n l (AtHost e) a g r i q =
    inr (step_gone n Host (exchanged l) (happens_at_controller (exchanged l) e) (here_entries Host (exchanged l) e) (here_seen Host (exchanged l) e)
    (safe_reached (core_of l) r).hand.f_bound i q (here_down Host (exchanged l) e a g.host.now q))
event_silenced n l (Ticks c es h) a g r i q =
    let s0 = safe_aged (core_of l) (safe_reached (core_of l) r) in
    let near : Link = ticks_at_controller (aged l) c.turns c.ending in
    let one = step_tick (aged l) c.turns c.ending a.0.0 a.0.1 g.controller (rests_of 1 1 (core_of (aged l)) s0) in
    let t1 = core_tick l.controller.side c.turns c.ending in
    let rest : List CoreEndEvent = core_tick_rest l.controller.side c.turns c.ending in
    let first : CoreLink = core_ticks_or_cut t1 (core_aged (core_of l)) in
    let P : CoreLink → Type 0 = λ d. SafeLink 0 1 d in
    let near_safe : SafeLink 0 1 (core_of near) =
    subst P (sym one.core) (safe_turns 1 rest first (rest_both l.controller.side c.turns c.ending).turns (tick_or_cut 1 t1 (core_aged (core_of l)) s0)) in
    let aged_near : List Entry = aged_entries Controller l.to_controller in
    let aged_far : List Entry = aged_entries Host l.to_host in
    let cs : List Entry = tick_entries Controller (aged l) c in
    let ds : List Entry = entries_of_events Controller near es in
    let fs : List Entry = tick_entries Host (exchanged (all_at_controller near es)) h in
    go near_safe one.tells
    (hears_parts silences cs (ds ++ fs) (but (none_aged silences silences_deaf Host l.to_host) (hears_parts silences aged_far (cs ++ (ds ++ fs))
    (but (none_aged silences silences_deaf Controller l.to_controller) (hears_parts silences aged_near (aged_far ++ (cs ++ (ds ++ fs))) q)))))
  where
    near : Link
    near = ticks_at_controller (aged l) c.turns c.ending

    go : SafeLink 0 1 (core_of near) → Tells near.controller
        → Hears silences (tick_entries Controller (aged l) c) ⊎ Hears silences (entries_of_events Controller near es
        ++ tick_entries Host (exchanged (all_at_controller near es)) h)
        → Gone n (happens l (Ticks c es h))
    go safe tells (inl x) =
        inl (tick_keeps n (all_at_controller near es) h (all_keeps n 1 es near a.1 tells safe
        (tick_gone n Controller (aged l) c a.0 (safe_reached (core_of l) r).hand.n_bound i x)))
    go safe tells (inr x) =
        rest_silenced n es near h a.1 a.2 tells safe
        (resets_more n Controller (aged l) near (tick_entries Controller (aged l) c) (tick_seen Controller (aged l) c) i)
        (hears_parts silences (entries_of_events Controller near es) (tick_entries Host (exchanged (all_at_controller near es)) h) x)
event_silenced n l (TicksWithout es h) a g r i q =
    let s0 = safe_aged (core_of l) (safe_reached (core_of l) r) in
    let near : Link = aged l in
    let same : core_ticks_if_waiting (core_aged (core_of l)) ≡ core_of near = rw a.0 refl in
    let aged_near : List Entry = aged_entries Controller l.to_controller in
    let aged_far : List Entry = aged_entries Host l.to_host in
    let ds : List Entry = entries_of_events Controller near es in
    let fs : List Entry = tick_entries Host (exchanged (all_at_controller near es)) h in
    rest_silenced n es near h a.1 a.2 g.controller (subst (λ (d : CoreLink). SafeLink 0 1 d) same (tick_if_waiting 1 (core_aged (core_of l)) s0)) i
    (hears_parts silences ds fs (but (none_aged silences silences_deaf Host l.to_host) (hears_parts silences aged_far (ds ++ fs)
    (but (none_aged silences silences_deaf Controller l.to_controller) (hears_parts silences aged_near (aged_far ++ (ds ++ fs)) q)))))
event_silenced n l (Activate power c id h) a g r i q =
    let x : EndEvent = Step (Starts power) c.turns c.ending in
    let near : Link = happens_at_controller l x in
    let k : Link = exchanged near in
    let clf : CanStart l.controller.side.role l.host.side.role = clf_starts l.controller.side.role l.host.side.role a.0 in
    let one = event_step l (AtController x) (clf, a.2) g r in
    let next : Reached (core_of near) = subst Reached (sym one.core) (reached_more (core_of l) (core_event l (AtController x)) one.allowed r) in
    let host : near.host ≡ l.host = host_here l x (clf, a.2) g r in
    let Q : NumberedEnd → Type 0 = λ z. IsUicc z.side.role × IsNode (exchanged (record l { host = z })) h.turns h.ending in
    let more : n ≤ near.resets = resets_more n Controller l near (here_entries Controller l x) (here_seen Controller l x) i in
    inr (step_gone n Host k (steps_at_controller k (Starts id) h.turns h.ending) (step_entries Host k (Starts id) h.turns h.ending)
    (step_seen Host k (Starts id) h.turns h.ending) (safe_reached (core_of near) next).hand.f_bound more refl
    (restart_down k (ActStart id) h.turns h.ending (subst Q (sym host) (a.1, a.3)).1.1 one.good.host.now))

-- ### It stays so

pub event_keeps : (n : ℕ) (l : Link) (e : LinkEvent) → IsEvent l e → Good l → Reached (core_of l)
    → see_all (kept l) (event_entries l e) ≡ kept (happens l e) → Gone n l → Gone n (happens l e)
event_keeps n l e a g r seen (inl (inl j)) = inl (inl (subst (λ (z : Seen). Jumps n Controller z) seen (all_jump n Controller (event_entries l e) (kept l) j)))
event_keeps n l e a g r seen (inr (inl j)) = inr (inl (subst (λ (z : Seen). Jumps n Host z) seen (all_jump n Host (event_entries l e) (kept l) j)))
event_keeps n l e a g r seen (inl (inr p)) =
    let st = event_step l e a g r in
    inl (inr (subst (λ c. IsPast n c.controller) (sym st.core) (near_past n (core_event l e) (core_of l) st.allowed (safe_reached (core_of l) r) p)))
event_keeps n l e a g r seen (inr (inr p)) =
    let st = event_step l e a g r in
    inr (inr (subst (λ (c : CoreLink). IsPast n c.host) (sym st.core) (far_past n (core_event l e) (core_of l) st.allowed (safe_reached (core_of l) r) p)))

-- ### An event in which an end comes up with the number

begins_deaf : (n : ℕ) → IsDeaf (begins n)
begins_deaf n =
    record {
      down = λ w c. refl;
      active = λ w. refl;
      gave_up = λ w t. refl;
      acked = λ w n c. refl;
      got = λ w n m. refl;
      sent = λ w n m. refl;
      emit = λ w e. never_put (begins n) w (λ c. refl) (frames_out e);
      took = λ w c. refl;
      lost = λ w c y. refl;
      tick = refl;
    }

neither : {A : Type 0} {B : Type 0} → ((false ≡ true) × A) ⊎ (B × (false ≡ true)) → ⊥
neither a = grind arith

-- none does so by itself
own_begins : (n : ℕ) (who : End) (l : Link) (e : EndEvent) → IsOwn e → Hears (begins n) (here_entries who l e) → ⊥
own_begins n who l (Lose why) o q = absurd o
own_begins n who l (Step NextFrame ts ending) o q = absurd o
own_begins n who l (Step (AsksReset window) ts ending) o q =
    let i : LinkInput = Reset window in
    let k : Link = with_ended l (is_some (ended_by l.controller.side i)) in
    neither (input_heard (begins n) (begins_deaf n) who l.controller i k (after_input l.controller.side i) ts ending q)
own_begins n who l (Step (Starts v) ts ending) o q =
    let i : LinkInput = Start v in
    neither
    (input_heard (begins n) (begins_deaf n) who l.controller i (silent l (after_input l.controller.side i)) (after_input l.controller.side i) ts ending q)
own_begins n who l (Step Stops ts ending) o q =
    let i : LinkInput = Stop in
    neither
    (input_heard (begins n) (begins_deaf n) who l.controller i (silent l (after_input l.controller.side i)) (after_input l.controller.side i) ts ending q)
own_begins n who l (Step NoInput ts ending) o q = true≢false (sym (rest_heard (begins n) (begins_deaf n) who l l.controller.side ts ending q).1)

tick_begins : (n : ℕ) (who : End) (l : Link) (node : Node) → Hears (begins n) (tick_entries who l node) → ⊥
tick_begins n who l node q =
    let k : Link = with_ended l (is_some (ended_by l.controller.side HasTick)) in
    neither (input_heard (begins n) (begins_deaf n) who l.controller HasTick k (after_input l.controller.side HasTick) node.turns node.ending q)

all_begin : (n : ℕ) (es : List EndEvent) (l : Link) → AreOwn l es → Hears (begins n) (entries_of_events Controller l es) → ⊥
all_begin n [] l a q = true≢false (sym q)
all_begin n (e ∷ es) l a q =
    go (all_begin n es (happens_at_controller l e) a.2)
    (hears_parts (begins n) (here_entries Controller l e) (entries_of_events Controller (happens_at_controller l e) es) q)
  where
    go : (Hears (begins n) (entries_of_events Controller (happens_at_controller l e) es) → ⊥)
        → Hears (begins n) (here_entries Controller l e) ⊎ Hears (begins n) (entries_of_events Controller (happens_at_controller l e) es) → ⊥
    go later (inl x) = own_begins n Controller l e a.0 x
    go later (inr x) = later x

-- one that takes a frame does so with the number that it has then
frame_begins : (n : ℕ) (who : End) (l : Link) (ts : List Turn) (ending : Ending) → l.controller.emitted ≤ l.resets
    → Hears (begins n) (step_entries who l NextFrame ts ending) → n ≤ number_of (steps_at_controller l NextFrame ts ending).controller
frame_begins n who l ts ending w q = go l.to_controller refl
  where
    took_first : (who : End) (x : OnWire) (xs : List OnWire) → l.to_controller ≡ x ∷ xs
        → number_seen who (see (seen_as who l) (Took who x.frame)) ≡ number_of (record l.controller { took = took_with l.controller.took x })
    took_first who x xs p = grind arith

    go : (ws : List OnWire) → l.to_controller ≡ ws → n ≤ number_of (steps_at_controller l NextFrame ts ending).controller
    go [] p = absurd (true≢false (sym (rw p at q)))
    go (x ∷ xs) p =
        let i : LinkInput = Take x.frame in
        let h : NumberedEnd = record l.controller { took = took_with l.controller.took x } in
        let k : Link = left_after l x xs in
        let u : List Entry = told_of who h i ++ rest_entries who k (after_input l.controller.side i) ts ending in
        let y : number_of h ≡ n = by (input_heard (begins n) (begins_deaf n) who h i k (after_input l.controller.side i) ts ending (rw p at q)) in
        let s : Seen = see (seen_as who l) (Took who x.frame) in
        let grows : number_seen who s ≤ number_seen who (see_all s u) =
        all_number who u s (see_within who (seen_as who l) (Took who x.frame) (near_within who l w)) in
        let entries_are : step_entries who l NextFrame ts ending ≡ Took who x.frame ∷ u = rw p refl in
        let seen : see_all s u ≡ seen_as who (steps_at_controller l NextFrame ts ending) =
        ap (see_all (seen_as who l)) (sym entries_are) ∙ step_seen who l NextFrame ts ending in
        omega (arith, y, grows, ap (number_seen who) seen, took_first who x xs p, near_number who (steps_at_controller l NextFrame ts ending))
      where
        by : {A : Type 0} {B : Type 0} {m : ℕ} → (A × ((m == n) ≡ true)) ⊎ (B × (false ≡ true)) → m ≡ n
        by {m = m} (inl v) = eqb-true m n v.1
        by (inr v) = absurd (true≢false (sym v.1))

here_begins : (n : ℕ) (who : End) (l : Link) (e : EndEvent) → l.controller.emitted ≤ l.resets
    → Hears (begins n) (here_entries who l e) → n ≤ number_of (happens_at_controller l e).controller
here_begins n who l (Lose why) w q = absurd (none_first (begins n) (begins_deaf n) who why l.to_controller q)
here_begins n who l (Step NextFrame ts ending) w q = frame_begins n who l ts ending w q
here_begins n who l (Step (AsksReset window) ts ending) w q = absurd (own_begins n who l (Step (AsksReset window) ts ending) tt q)
here_begins n who l (Step (Starts v) ts ending) w q = absurd (own_begins n who l (Step (Starts v) ts ending) tt q)
here_begins n who l (Step Stops ts ending) w q = absurd (own_begins n who l (Step Stops ts ending) tt q)
here_begins n who l (Step NoInput ts ending) w q = absurd (own_begins n who l (Step NoInput ts ending) tt q)

-- so it is the number of an RSET, and where the end is cut off in the step it is gone
pub record IsUsed (n : ℕ) (l : Link) (u : List Entry) : Type 0 where
  pub used : n ≤ l.resets
  pub gone : Hears silences u → Gone n l

pub event_begins : (n : ℕ) (l : Link) (e : LinkEvent) → IsEvent l e → Good l → Reached (core_of l)
    → Hears (begins n) (event_entries l e) → IsUsed n (happens l e) (event_entries l e)
event_begins n l (AtController e) a g r q =
    let m : Link = happens_at_controller l e in
    let st = event_step l (AtController e) a g r in
    let P : CoreLink → Type 0 = λ c. SafeLink 0 0 c in
    let safe : SafeLink 0 0 (core_of m) = subst P (sym st.core) (safe_reached _ (reached_more (core_of l) (core_event l (AtController e)) st.allowed r)) in
    let i : n ≤ number_of m.controller = here_begins n Controller l e (safe_reached (core_of l) r).hand.n_bound q in
    record {
      used = omega (arith, i, safe.hand.n_bound, safe.hand.n_took, safe.hand.f_bound);
      gone = λ s. inl (inr (rw (here_down Controller l e a g.controller.now s) (omega (arith, i))));
    }
event_begins n l (AtHost e) a g r q =
    let m : Link = happens_at_controller (exchanged l) e in
    let st = event_step l (AtHost e) a g r in
    let safe : SafeLink 0 0 (core_of (exchanged m)) =
    subst (λ (c : CoreLink). SafeLink 0 0 c) (sym st.core) (safe_reached _ (reached_more (core_of l) (core_event l (AtHost e)) st.allowed r)) in
    let i : n ≤ number_of m.controller = here_begins n Host (exchanged l) e (safe_reached (core_of l) r).hand.f_bound q in
    record {
      used = omega (arith, i, safe.hand.n_bound, safe.hand.f_took, safe.hand.f_bound);
      gone = λ s. inr (inr (rw (here_down Host (exchanged l) e a g.host.now s) (omega (arith, i))));
    }
event_begins n l (Ticks c es h) a g r q =
    let near : Link = ticks_at_controller (aged l) c.turns c.ending in
    let aged_near : List Entry = aged_entries Controller l.to_controller in
    let aged_far : List Entry = aged_entries Host l.to_host in
    let cs : List Entry = tick_entries Controller (aged l) c in
    let ds : List Entry = entries_of_events Controller near es in
    let fs : List Entry = tick_entries Host (exchanged (all_at_controller near es)) h in
    absurd (tick_begins n Host (exchanged (all_at_controller near es)) h (but (all_begin n es near a.1) (hears_parts (begins n) ds fs
    (but (tick_begins n Controller (aged l) c) (hears_parts (begins n) cs (ds ++ fs)
    (but (none_aged (begins n) (begins_deaf n) Host l.to_host) (hears_parts (begins n) aged_far (cs ++ (ds ++ fs))
    (but (none_aged (begins n) (begins_deaf n) Controller l.to_controller) (hears_parts (begins n) aged_near (aged_far ++ (cs ++ (ds ++ fs))) q)))))))))
event_begins n l (TicksWithout es h) a g r q =
    let near : Link = aged l in
    let aged_near : List Entry = aged_entries Controller l.to_controller in
    let aged_far : List Entry = aged_entries Host l.to_host in
    let ds : List Entry = entries_of_events Controller near es in
    let fs : List Entry = tick_entries Host (exchanged (all_at_controller near es)) h in
    absurd (tick_begins n Host (exchanged (all_at_controller near es)) h (but (all_begin n es near a.1) (hears_parts (begins n) ds fs
    (but (none_aged (begins n) (begins_deaf n) Host l.to_host) (hears_parts (begins n) aged_far (ds ++ fs)
    (but (none_aged (begins n) (begins_deaf n) Controller l.to_controller) (hears_parts (begins n) aged_near (aged_far ++ (ds ++ fs)) q)))))))
event_begins n l (Activate power c id h) a g r q =
    let x : EndEvent = Step (Starts power) c.turns c.ending in
    let y : EndEvent = Step (Starts id) h.turns h.ending in
    let k : Link = exchanged (happens_at_controller l x) in
    absurd (own_begins n Host k y tt (but (own_begins n Controller l x tt)
    (hears_parts (begins n) (here_entries Controller l x) (here_entries Host k y) q)))
