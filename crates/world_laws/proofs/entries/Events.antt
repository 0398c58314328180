-- What is noted of ticks, of each event and of a whole run holds the frames that are sent then and the messages that come.
use Rattle.std.specs.Prelude.{is_some}
use Rattle.world_laws.proofs.Words.{ActTick, Activate, Activation, AllAllowed, AllKeepPower, AreOwn, AreSendableTurns, AtController, AtHost, Bool, CanStart}
use Rattle.world_laws.proofs.Words.{Control, Controller, CoreActs, CoreAreTurns, CoreAtController, CoreAtHost, CoreEndEvent, CoreLink, CoreLinkEvent, CoreTick}
use Rattle.world_laws.proofs.Words.{CoreTickWithout, CoreTurn, CutOff, EndEvent, EndState, EndStep, Ending, GoesOut, Good, HasItsTick, HasTick, Host, IsAllowed}
use Rattle.world_laws.proofs.Words.{IsDown, IsEvent, IsNode, IsOwn, IsStart, IsUicc, Link, LinkEnd, LinkEvent, List, Lose, Mid, Node, None, NoneIsCut}
use Rattle.world_laws.proofs.Words.{NumberedEnd, Option, Reached, Rests, Role, SafeLink, Some, Starts, Step, Tells, Ticks, TicksWithout, Turn, Turns, []}
use Rattle.world_laws.proofs.Words.{act_answer, act_mid, activated, after_input, aged, aged_entries, all_at_controller, all_here-append, all_step, allowed, ap}
use Rattle.world_laws.proofs.Words.{append-nil, append_assoc, arith, can_start, clf_starts, core_after, core_aged, core_all, core_all_here, core_event}
use Rattle.world_laws.proofs.Words.{core_events, core_exchanged, core_happens, core_happens_here, core_here, core_of, core_starts, core_tick, core_tick_rest}
use Rattle.world_laws.proofs.Words.{core_tick_rests, core_ticks_here, core_ticks_if_waiting, core_ticks_or_cut, core_turned, core_turns, emitted, emitted_event}
use Rattle.world_laws.proofs.Words.{emitted_here, emitted_if_waiting, emitted_tick, emitted_turns, ended_by, entries, entries_of_events, event_entries}
use Rattle.world_laws.proofs.Words.{event_step, exchanged, false, first_entries, frames_by, frames_heard, frames_now, frames_of, frames_out, from_controller}
use Rattle.world_laws.proofs.Words.{from_host, got, got_event, got_here, got_turns, gots_noted, happens, happens_at_controller, here_entries, is_bare, is_clf}
use Rattle.world_laws.proofs.Words.{is_open, lpdus_heard, map, map-append, most_frames, moved, option_to_list, own_here, own_turns, reached_more, refl}
use Rattle.world_laws.proofs.Words.{reports_to, rest_both, rest_entries, rests, rests_of, safe_aged, safe_exchanged, safe_reached, safe_turns, seen, sent_then}
use Rattle.world_laws.proofs.Words.{shdlc_moved, start_good, start_reached, started_clf, step_own, step_tick, subst, sym, tapped, tapped_lpdus, tells_same}
use Rattle.world_laws.proofs.Words.{tick_answer, tick_closed, tick_closes, tick_entries, tick_if_waiting, tick_open, tick_or_cut, tick_role, ticked}
use Rattle.world_laws.proofs.Words.{ticks_at_controller, told_of, trace, true, true≢false, turned, turns_mid, with_ended, ℕ, ◌++◌, ◌∙◌, ◌∷◌, ◌≡◌}
use Rattle.link_laws.specs.entries.Entries.{End, Entry}
use Rattle.link_laws.specs.entries.Entries.Entry.{Tick}
use Rattle.link_laws.specs.sessions.Sessions.ShdlcEndEvent.{Cut, Reset, Stop}
use Rattle.world_laws.proofs.entries.Noting.{NoCut, Notes, StepNotes, cut_noted, here_notes, no_cut_parts, notes_input, notes_then, own_notes, silent_aged}
use Rattle.world_laws.proofs.entries.Noting.{silent_none}
use Rattle.world_laws.proofs.entries.Sending.{AreWritten, BothWritten, all_read, both-append, both_by, out_is, out_written, written-append}
use Rattle.world_laws.proofs.fragments.Runs.{reported}

-- ## What is noted of a tick, and of what a node does in it, holds the frames that are sent then

-- ### Lists of events

turns-append : (c : CoreLink) (es fs : List CoreEndEvent) → emitted_turns c (es ++ fs) ≡ emitted_turns c es ++ emitted_turns (core_all_here c es) fs
turns-append c [] fs = refl
turns-append c (e ∷ es) fs =
    let d : CoreLink = core_happens_here c e in
    ap (λ z. emitted_here c e ++ z) (turns-append d es fs)
    ∙ sym (append_assoc (emitted_here c e) (emitted_turns d es) (emitted_turns (core_all_here d es) fs))

frames_by-append : (b : Bool) (cs ds : List Control) → frames_by b (cs ++ ds) ≡ frames_by b cs ++ frames_by b ds
frames_by-append b cs ds = map-append (λ c. (b, c)) cs ds

reports_to-append : (b : Bool) (ms ns : List (ℕ × ℕ × List ℕ)) → reports_to b (ms ++ ns) ≡ reports_to b ms ++ reports_to b ns
reports_to-append b ms ns = map-append (λ m. record { to_clf = b; session = m.0; pipe = m.1; body = m.2 }) ms ns

power-append : (es fs : List CoreEndEvent) → AllKeepPower es → AllKeepPower fs → AllKeepPower (es ++ fs)
power-append [] fs a b = b
power-append (e ∷ es) fs a b = (a.0, power-append es fs a.1 b)

-- a node's turns bring no message
turns_bring_none : (es : List CoreEndEvent) (c : CoreLink) → CoreAreTurns es → got_turns c es ≡ []
turns_bring_none [] c a = refl
turns_bring_none (Turns ts ∷ es) c a = turns_bring_none es (core_happens_here c (Turns ts)) a.1
turns_bring_none (CoreActs acts ts ∷ es) c a = turns_bring_none es (core_happens_here c (CoreActs acts ts)) a.1
turns_bring_none (Reset w ts ∷ es) c a = turns_bring_none es (core_happens_here c (Reset w ts)) a.1
turns_bring_none (Cut ∷ es) c a = turns_bring_none es (core_happens_here c Cut) a.1
turns_bring_none (Stop ∷ es) c a = turns_bring_none es (core_happens_here c Stop) a.1
turns_bring_none (_ ∷ es) c a = absurd a.0

-- ### What a node does in a tick

all_notes : {kf : ℕ} (who : End) (es : List EndEvent) (l : Link) → AreOwn l es → Tells l.controller → SafeLink 0 kf (core_of l)
    → NoCut (entries_of_events who l es) → StepNotes who l (core_all l es) (entries_of_events who l es)
all_notes who [] l a h s q = record { notes = record { frames = refl; gots = refl }; power = tt; written = tt }
all_notes {kf} who (e ∷ es) l a h s q =
    let b : Bool = is_clf who in
    let rest : Rests l.controller.side.shdlc = rests_of 0 kf (core_of l) s in
    let step = own_here l e a.0 a.1 h rest in
    let m : Link = happens_at_controller l e in
    let t : List Entry = here_entries who l e in
    let u : List Entry = entries_of_events who m es in
    let parts = no_cut_parts t u q in
    let P : CoreLink → Type 0 = λ c. SafeLink 0 kf c in
    let turns = own_turns l e rest a.0 a.1 in
    let one = first e a.0 a.1 parts.0 in
    let more = all_notes {kf = kf} who es m a.2 step.tells (subst P (sym step.core) (safe_turns kf (core_here l e) (core_of l) turns s)) parts.1 in
    let fs = emitted_turns (core_of l) (core_here l e) in
    let gs = got_turns (core_of l) (core_here l e) in
    let n = notes_then t u (frames_by b fs) (frames_by b (emitted_turns (core_of m) (core_all m es))) (reports_to b gs)
    (reports_to b (got_turns (core_of m) (core_all m es))) one.notes more.notes in
    record {
      notes = record {
        frames = n.frames ∙ (sym (frames_by-append b fs (emitted_turns (core_of m) (core_all m es)))
            ∙ ap (frames_by b) (ap (λ c. fs ++ emitted_turns c (core_all m es)) step.core ∙ sym (turns-append (core_of l) (core_here l e) (core_all m es))));
        gots = n.gots ∙ (grind arith);
      };
      power = power-append (core_here l e) (core_all m es) one.power more.power;
      written = subst AreWritten (ap (λ c. fs ++ emitted_turns c (core_all m es)) step.core ∙ sym (turns-append (core_of l) (core_here l e) (core_all m es)))
          (written-append fs (emitted_turns (core_of m) (core_all m es)) one.written more.written);
    }
  where
    first : (e : EndEvent) → IsOwn e → IsAllowed l e → NoCut (here_entries who l e) → StepNotes who l (core_here l e) (here_entries who l e)
    first (Lose why) o i p = absurd o
    first (Step comes ts ending) o i p = own_notes who l comes ts ending o i.1.0 h p

-- ### A tick

-- what is noted of the tick of the controller's end
record TickNotes (who : End) (l : Link) (node : Node) : Type 0 where
  pub ends : node.ending ≡ GoesOut
  pub notes : Notes (tick_entries who l node) (frames_by (is_clf who) (emitted_tick (core_of l) (core_tick l.controller.side node.turns node.ending)
      ++ emitted_turns (core_ticks_or_cut (core_tick l.controller.side node.turns node.ending) (core_of l))
      (core_tick_rest l.controller.side node.turns node.ending))) []
  pub written : AreWritten (emitted_tick (core_of l) (core_tick l.controller.side node.turns node.ending)
      ++ emitted_turns (core_ticks_or_cut (core_tick l.controller.side node.turns node.ending) (core_of l))
      (core_tick_rest l.controller.side node.turns node.ending))

tick_sends : (who : End) (l : Link) (ts : List Turn) → AreSendableTurns ts → Tells l.controller → Rests l.controller.side.shdlc
    → (emitted_tick (core_of l) (core_tick l.controller.side ts GoesOut)
    ++ emitted_turns (core_ticks_or_cut (core_tick l.controller.side ts GoesOut) (core_of l)) (core_tick_rest l.controller.side ts GoesOut)
    ≡ frames_out (turned (after_input l.controller.side HasTick) ts))
    × AreWritten (frames_out (turned (after_input l.controller.side HasTick) ts))
tick_sends who l ts a h r = go (is_open e.role) refl
  where
    e : LinkEnd
    e = l.controller.side

    c : CoreLink
    c = core_of l

    sent : Option (List CoreTurn) → List CoreEndEvent → List Control
    sent t us = emitted_tick c t ++ emitted_turns (core_ticks_or_cut t c) us

    Goal : Type 0
    Goal =
        (sent (core_tick e ts GoesOut) (core_tick_rest e ts GoesOut) ≡ frames_out (turned (after_input e HasTick) ts))
        × AreWritten (frames_out (turned (after_input e HasTick) ts))

    made : (f : LinkEnd) (o : Option Activation) → after_input e HasTick ≡ f → Mid o (turned f ts) → AreWritten (frames_out (turned (after_input e HasTick) ts))
    made f o q m = subst (λ g. AreWritten (frames_out (turned g ts))) (sym q) (out_written o (turned f ts) m)

    sent_as : (t : Option (List CoreTurn)) (us : List CoreEndEvent) → core_tick e ts GoesOut ≡ t → core_tick_rest e ts GoesOut ≡ us
        → sent (core_tick e ts GoesOut) (core_tick_rest e ts GoesOut) ≡ sent t us
    sent_as t us p q = ap (λ z. sent z (core_tick_rest e ts GoesOut)) p ∙ ap (sent t) q

    go : (o : Bool) → is_open e.role ≡ o → Goal
    go true o =
        let t = tick_open e o in
        let b : Bool = is_some (tick_answer e.shdlc).ended in
        let f : LinkEnd = moved e b (ticked e.shdlc) in
        let us : List CoreTurn = core_turns f ts in
        let tm = turns_mid None f ts a (grind arith) in
        let s : EndState = core_turned (ticked e.shdlc) us in
        let is : (turned f ts).shdlc ≡ s = tm.is ∙ ap (λ z. core_turned z us) (shdlc_moved e b (ticked e.shdlc)) in
        let first : core_tick e ts GoesOut ≡ Some us = rw o refl ∙ ap (λ (g : LinkEnd). Some (core_turns g ts)) t.0 in
        let rest : core_tick_rest e ts GoesOut ≡ [] = rw o refl in (
          sent_as (Some us) [] first rest
              ∙ (append-nil (sent_then (ticked e.shdlc) us)
              ∙ (sym (out_is None (turned f ts) s tm.mid.acts is) ∙ ap (λ g. frames_out (turned g ts)) (sym t.0))),
          made f None t.0 tm.mid,
        )
    go false o =
        let t = tick_closed e o in
        let f : LinkEnd = activated e ActTick in
        let act : Option Activation = (act_answer e.role ActTick).send in
        let mid = act_mid e ActTick h.now r.due (λ z. absurd (true≢false (sym z ∙ tick_closes e.role o))) (λ z. h.now.closed (tick_role e.role z)) in
        let us : List CoreTurn = core_turns f ts in
        let tm = turns_mid act f ts a mid.mid in
        let s : EndState = core_turned e.shdlc us in
        let is : (turned f ts).shdlc ≡ s = tm.is ∙ ap (λ z. core_turned z us) mid.same in
        let first : core_tick e ts GoesOut ≡ Some [] = rw o refl in
        let rest : core_tick_rest e ts GoesOut ≡ CoreActs (option_to_list act) us ∷ [] = grind arith in
        let p = h.now.closed o in
        let quiet : frames_of most_frames (ticked e.shdlc) ≡ [] =
        ap (frames_of most_frames) (still p) ∙ (let q = rests e.shdlc p r in rw q refl) in (
          sent_as (Some []) (CoreActs (option_to_list act) us ∷ []) first rest
              ∙ (ap (λ z. z ++ emitted_turns (core_ticks_here c []) (CoreActs (option_to_list act) us ∷ [])) quiet
              ∙ (ap (λ z. emitted_turns z (CoreActs (option_to_list act) us ∷ [])) (core_tick_rests c p r)
              ∙ (append-nil (frames_now act ++ sent_then e.shdlc us)
              ∙ (sym (out_is act (turned f ts) s tm.mid.acts is) ∙ ap (λ g. frames_out (turned g ts)) (sym t.0))))),
          made f act t.0 tm.mid,
        )
      where
        still : e.shdlc.phase ≡ IsDown → ticked e.shdlc ≡ e.shdlc
        still p = rw p refl

        acts_rest : is_open e.role ≡ false → core_tick_rest e ts GoesOut
            ≡ CoreActs (option_to_list (act_answer e.role ActTick).send) (core_turns (after_input e HasTick) ts) ∷ []
        acts_rest o = rw o refl

tick_notes : (who : End) (l : Link) (node : Node) → AreSendableTurns node.turns → Tells l.controller → Rests l.controller.side.shdlc
    → NoCut (tick_entries who l node) → TickNotes who l node
tick_notes who l node a h r q = (by node.ending q)
  where
    e : LinkEnd
    e = l.controller.side

    k : Link
    k = with_ended l (is_some (ended_by e HasTick))

    f : LinkEnd
    f = after_input e HasTick

    of : Ending → Node
    of ending = record { turns = node.turns; ending = ending }

    by : (ending : Ending) → (NoCut (tick_entries who l (of ending))) → TickNotes who l (of ending)
    by CutOff p =
        absurd (cut_noted who k f node.turns (no_cut_parts (told_of who l.controller HasTick) (rest_entries who k f node.turns CutOff) p).1)
    by GoesOut p =
        let n = notes_input who l.controller HasTick k f node.turns in
        let sends = tick_sends who l node.turns a h r in
        grind arith

-- what a tick that isn't cut off is over fragments
tick_power : (e : LinkEnd) (ts : List Turn) (ending : Ending) → ending ≡ GoesOut → HasItsTick (core_tick e ts ending)
    × AllKeepPower (core_tick_rest e ts ending)
tick_power e ts ending q = grind arith

-- ## What is noted of each event of a link, and of a whole run, holds the frames that are sent then and the messages that come

-- ### Lists of events over fragments

emitted-append : (c : CoreLink) (es fs : List CoreLinkEvent) → emitted c (es ++ fs) ≡ emitted c es ++ emitted (core_after c es) fs
emitted-append c [] fs = refl
emitted-append c (e ∷ es) fs =
    let d : CoreLink = core_happens c e in
    ap (λ z. emitted_event c e ++ z) (emitted-append d es fs) ∙ sym (append_assoc (emitted_event c e) (emitted d es) (emitted (core_after d es) fs))

got_all-append : (c : CoreLink) (es fs : List CoreLinkEvent) → got c (es ++ fs) ≡ got c es ++ got (core_after c es) fs
got_all-append c [] fs = refl
got_all-append c (e ∷ es) fs =
    let d : CoreLink = core_happens c e in
    ap (λ z. got_event c e ++ z) (got_all-append d es fs) ∙ sym (append_assoc (got_event c e) (got d es) (got (core_after d es) fs))

none_cut-append : (es fs : List CoreLinkEvent) → NoneIsCut es → NoneIsCut fs → NoneIsCut (es ++ fs)
none_cut-append [] fs a b = b
none_cut-append (CoreTick c turns h ∷ es) fs a b = (a.0, a.1, a.2, none_cut-append es fs a.3 b)
none_cut-append (CoreTickWithout turns h ∷ es) fs a b = (a.0, a.1, none_cut-append es fs a.2 b)
none_cut-append (_ ∷ es) fs a b = (a.0, none_cut-append es fs a.1 b)

-- what happens at one end
emitted_here_all : (es : List CoreEndEvent) (c : CoreLink) → emitted c (map CoreAtController es) ≡ frames_by true (emitted_turns c es)
emitted_here_all [] c = refl
emitted_here_all (e ∷ es) c =
    let d : CoreLink = core_happens_here c e in
    ap (λ z. frames_by true (emitted_here c e) ++ z) (emitted_here_all es d) ∙ sym (frames_by-append true (emitted_here c e) (emitted_turns d es))

got_here_all : (es : List CoreEndEvent) (c : CoreLink) → got c (map CoreAtController es) ≡ reports_to true (got_turns c es)
got_here_all [] c = refl
got_here_all (e ∷ es) c =
    let d : CoreLink = core_happens_here c e in
    ap (λ z. reports_to true (got_here c e) ++ z) (got_here_all es d) ∙ sym (reports_to-append true (got_here c e) (got_turns d es))

emitted_there_all : (es : List CoreEndEvent) (c : CoreLink) → emitted c (map CoreAtHost es) ≡ frames_by false (emitted_turns (core_exchanged c) es)
emitted_there_all [] c = refl
emitted_there_all (e ∷ es) c =
    let k : CoreLink = core_exchanged c in
    let d : CoreLink = core_happens_here k e in
    ap (λ z. frames_by false (emitted_here k e) ++ z) (emitted_there_all es (core_exchanged d))
    ∙ sym (frames_by-append false (emitted_here k e) (emitted_turns d es))

got_there_all : (es : List CoreEndEvent) (c : CoreLink) → got c (map CoreAtHost es) ≡ reports_to false (got_turns (core_exchanged c) es)
got_there_all [] c = refl
got_there_all (e ∷ es) c =
    let k : CoreLink = core_exchanged c in
    let d : CoreLink = core_happens_here k e in
    ap (λ z. reports_to false (got_here k e) ++ z) (got_there_all es (core_exchanged d))
    ∙ sym (reports_to-append false (got_here k e) (got_turns d es))

power_here : (es : List CoreEndEvent) → AllKeepPower es → NoneIsCut (map CoreAtController es)
power_here [] a = tt
power_here (e ∷ es) a = (a.0, power_here es a.1)

power_there : (es : List CoreEndEvent) → AllKeepPower es → NoneIsCut (map CoreAtHost es)
power_there [] a = tt
power_there (e ∷ es) a = (a.0, power_there es a.1)

-- ### Events at one end

-- what is noted of an event, which is that of these over fragments
record EventNotes (l : Link) (es : List CoreLinkEvent) (t : List Entry) : Type 0 where
  notes : Notes t (emitted (core_of l) es) (got (core_of l) es)
  power : NoneIsCut es
  written : BothWritten (emitted (core_of l) es)

at_controller : (l : Link) (e : EndEvent) → IsAllowed l e → Good l → Reached (core_of l) → NoCut (here_entries Controller l e)
    → EventNotes l (map CoreAtController (core_here l e)) (here_entries Controller l e)
at_controller l e a g r q =
    let n = here_notes Controller l e a (record {
      tells = g.controller;
      host = g.host;
      in_order = g.in_order;
      rests = rests_of 0 0 (core_of l) (safe_reached (core_of l) r);
      from = from_host (core_of l) r;
    }) q in
    record {
      notes = record {
        frames = n.notes.frames ∙ sym (emitted_here_all (core_here l e) (core_of l));
        gots = n.notes.gots ∙ sym (got_here_all (core_here l e) (core_of l));
      };
      power = power_here (core_here l e) n.power;
      written = subst BothWritten (sym (emitted_here_all (core_here l e) (core_of l))) (both_by true (emitted_turns (core_of l) (core_here l e)) n.written);
    }

at_host : (l : Link) (e : EndEvent) → IsAllowed (exchanged l) e → Good l → Reached (core_of l) → NoCut (here_entries Host (exchanged l) e)
    → EventNotes l (map CoreAtHost (core_here (exchanged l) e)) (here_entries Host (exchanged l) e)
at_host l e a g r q =
    let k : Link = exchanged l in
    let n = here_notes Host k e a (record {
      tells = g.host;
      host = g.controller;
      in_order = seen l g.in_order;
      rests = rests_of 0 0 (core_of k) (safe_exchanged 0 0 (core_of l) (safe_reached (core_of l) r));
      from = from_controller (core_of l) r;
    }) q in
    record {
      notes = record {
        frames = n.notes.frames ∙ sym (emitted_there_all (core_here k e) (core_of l));
        gots = n.notes.gots ∙ sym (got_there_all (core_here k e) (core_of l));
      };
      power = power_there (core_here k e) n.power;
      written = subst BothWritten (sym (emitted_there_all (core_here k e) (core_of l))) (both_by false (emitted_turns (core_of k) (core_here k e)) n.written);
    }

-- ### Ticks

written_parts : (cs ds : List Control) → AreWritten (cs ++ ds) → AreWritten cs × AreWritten ds
written_parts [] ds a = (tt, a)
written_parts (c ∷ cs) ds a = let p = written_parts cs ds a.1 in ((a.0, p.0), p.1)

shuffle : (f a b c d : List Control) → frames_by true (f ++ a) ++ (frames_by true b ++ frames_by false (c ++ d))
    ≡ (frames_by true (f ++ (a ++ b)) ++ frames_by false c) ++ frames_by false d
shuffle f a b c d =
    let far : List (Bool × Control) = frames_by false (c ++ d) in
    sym (append_assoc (frames_by true (f ++ a)) (frames_by true b) far)
    ∙ (ap (λ z. z ++ far) (sym (frames_by-append true (f ++ a) b) ∙ ap (frames_by true) (append_assoc f a b))
    ∙ (ap (λ z. frames_by true (f ++ (a ++ b)) ++ z) (frames_by-append false c d)
    ∙ sym (append_assoc (frames_by true (f ++ (a ++ b))) (frames_by false c) (frames_by false d))))

-- the frames of a tick of this end
abbrev tick_out : LinkEnd → Node → CoreLink → List Control
tick_out e node c =
    emitted_tick c (core_tick e node.turns node.ending)
    ++ emitted_turns (core_ticks_or_cut (core_tick e node.turns node.ending) c) (core_tick_rest e node.turns node.ending)

-- what is noted of a tick, of which x is the link over fragments before the tick of the host's end
record TickParts (l m : Link) (x : CoreLink) (h : Node) (t : List Entry) (f a b : List Control) : Type 0 where
  host : m.host ≡ l.host
  core : core_of m ≡ x
  notes : Notes t (frames_by true (f ++ a) ++ frames_by true b) []
  last : TickNotes Host (exchanged m) h
  written : AreWritten (f ++ (a ++ b))

-- what is noted, and each frame can be read again
record Made (t : List Entry) (fs : List (Bool × Control)) : Type 0 where
  notes : Notes t fs []
  written : BothWritten fs

-- the frames of a whole tick
tick_frames : (l m : Link) (x : CoreLink) (h : Node) (t : List Entry) (f a b : List Control) → TickParts l m x h t f a b
    → Made (t ++ tick_entries Host (exchanged m) h)
    ((frames_by true (f ++ (a ++ b)) ++ frames_by false (emitted_tick (core_exchanged x) (core_tick l.host.side h.turns h.ending)))
    ++ frames_by false (emitted_turns (core_ticks_or_cut (core_tick l.host.side h.turns h.ending) (core_exchanged x))
    (core_tick_rest l.host.side h.turns h.ending)))
tick_frames l m x h t f a b p =
    let fs : List (Bool × Control) = frames_by true (f ++ a) ++ frames_by true b in
    let n = notes_then t (tick_entries Host (exchanged m) h) fs (frames_by false (tick_out m.host.side h (core_of (exchanged m)))) [] [] p.notes p.last.notes in
    let same : tick_out m.host.side h (core_of (exchanged m)) ≡ tick_out l.host.side h (core_exchanged x) = grind arith in
    let first : List Control = emitted_tick (core_exchanged x) (core_tick l.host.side h.turns h.ending) in
    let rest : List Control = emitted_turns (core_ticks_or_cut (core_tick l.host.side h.turns h.ending) (core_exchanged x))
    (core_tick_rest l.host.side h.turns h.ending) in
    let parts = written_parts first rest (subst AreWritten same p.last.written) in
    record {
      notes = record {
        frames = n.frames ∙ (ap (λ z. fs ++ frames_by false z) same
            ∙ (append_assoc (frames_by true (f ++ a)) (frames_by true b) (frames_by false (first ++ rest)) ∙ shuffle f a b first rest));
        gots = n.gots;
      };
      written = both-append (frames_by true (f ++ (a ++ b)) ++ frames_by false first) (frames_by false rest)
          (both-append (frames_by true (f ++ (a ++ b))) (frames_by false first) (both_by true (f ++ (a ++ b)) p.written) (both_by false first parts.0))
          (both_by false rest parts.1);
    }

-- what grows too old comes first
aged_notes : (l : Link) (t : List Entry) (fs : List (Bool × Control)) → Made t fs
    → Made (Tick ∷ (aged_entries Controller l.to_controller ++ (aged_entries Host l.to_host ++ t))) fs
aged_notes l t fs n =
    let p = notes_then (aged_entries Controller l.to_controller) (aged_entries Host l.to_host ++ t) [] fs [] [] (silent_aged Controller l.to_controller)
    (notes_then (aged_entries Host l.to_host) t [] fs [] [] (silent_aged Host l.to_host) n.notes) in
    record { notes = record { frames = p.frames; gots = p.gots }; written = n.written }

-- and has no cut
aged_cut : (l : Link) (t : List Entry) → NoCut (Tick ∷ (aged_entries Controller l.to_controller ++ (aged_entries Host l.to_host ++ t))) → NoCut t
aged_cut l t q =
    (no_cut_parts (aged_entries Host l.to_host) t (no_cut_parts (aged_entries Controller l.to_controller) (aged_entries Host l.to_host ++ t) q).1).1

-- all frames of a tick: those of the controller's end, and then those of the host's
abbrev tick_all : List Control → CoreLink → LinkEnd → Node → List (Bool × Control)
tick_all us x e h =
    (frames_by true us ++ frames_by false (emitted_tick (core_exchanged x) (core_tick e h.turns h.ending)))
    ++ frames_by false (emitted_turns (core_ticks_or_cut (core_tick e h.turns h.ending) (core_exchanged x)) (core_tick_rest e h.turns h.ending))

-- what is noted in three parts behind what grows too old
aged_whole : (l : Link) (t u v : List Entry) (fs : List (Bool × Control)) → Made ((t ++ u) ++ v) fs
    → Made (Tick ∷ (aged_entries Controller l.to_controller ++ (aged_entries Host l.to_host ++ (t ++ (u ++ v))))) fs
aged_whole l t u v fs n = let P : List Entry → Type 0 = λ z. Made z fs in aged_notes l (t ++ (u ++ v)) fs (subst P (append_assoc t u v) n)

-- the tick of the host's end isn't cut off
far_power : (l m : Link) (h : Node) → m.host ≡ l.host → h.ending ≡ GoesOut
    → HasItsTick (core_tick l.host.side h.turns h.ending) × NoneIsCut (map CoreAtHost (core_tick_rest l.host.side h.turns h.ending))
far_power l m h host ends = grind arith

-- a tick, which is this event over fragments
tick_done : (l : Link) (e : CoreLinkEvent) (x : CoreLink) (us : List Control) (h : Node) {t : List Entry} → Made t (tick_all us x l.host.side h)
    → emitted_event (core_of l) e ≡ frames_by true us ++ frames_by false (emitted_tick (core_exchanged x) (core_tick l.host.side h.turns h.ending))
    → got_event (core_of l) e ≡ []
    → core_exchanged (core_happens (core_of l) e) ≡ core_ticks_or_cut (core_tick l.host.side h.turns h.ending) (core_exchanged x)
    → NoneIsCut (e ∷ map CoreAtHost (core_tick_rest l.host.side h.turns h.ending))
    → EventNotes l (e ∷ map CoreAtHost (core_tick_rest l.host.side h.turns h.ending)) t
tick_done l e x us h n sends gets goes power =
    let rest : List CoreEndEvent = core_tick_rest l.host.side h.turns h.ending in
    let d : CoreLink = core_happens (core_of l) e in
    let last : emitted d (map CoreAtHost rest)
    ≡ frames_by false (emitted_turns (core_ticks_or_cut (core_tick l.host.side h.turns h.ending) (core_exchanged x)) rest) =
    emitted_there_all rest d ∙ ap (λ c. frames_by false (emitted_turns c rest)) goes in
    grind arith

event_notes : (l : Link) (e : LinkEvent) → IsEvent l e → Good l → Reached (core_of l) → NoCut (event_entries l e)
    → EventNotes l (core_event l e) (event_entries l e)
event_notes l (AtController e) a g r q = at_controller l e a g r q
event_notes l (AtHost e) a g r q = at_host l e a g r q
event_notes l (Ticks c es h) a g r q =
    let s0 = safe_aged (core_of l) (safe_reached (core_of l) r) in
    let near : Link = ticks_at_controller (aged l) c.turns c.ending in
    let m : Link = all_at_controller near es in
    let k : Link = exchanged m in
    let first : List Entry = tick_entries Controller (aged l) c in
    let u : List Entry = entries_of_events Controller near es in
    let v : List Entry = tick_entries Host k h in
    let parts = no_cut_parts first (u ++ v) (aged_cut l (first ++ (u ++ v)) q) in
    let more = no_cut_parts u v parts.1 in
    let e : LinkEnd = l.controller.side in
    let rest : List CoreEndEvent = core_tick_rest e c.turns c.ending in
    let t : Option (List CoreTurn) = core_tick e c.turns c.ending in
    let start : CoreLink = core_ticks_or_cut t (core_aged (core_of l)) in
    let all : List CoreEndEvent = core_all near es in
    let x : CoreLink = core_all_here start (rest ++ all) in
    let one = step_tick (aged l) c.turns c.ending a.0.0 a.0.1 g.controller (rests_of 1 1 (core_of (aged l)) s0) in
    let s1 = safe_turns 1 rest start (rest_both e c.turns c.ending).turns (tick_or_cut 1 t (core_aged (core_of l)) s0) in
    let P : CoreLink → Type 0 = λ d. SafeLink 0 1 d in
    let near_safe : SafeLink 0 1 (core_of near) = subst P (sym one.core) s1 in
    let two = all_step 1 near es a.1 one.tells near_safe in
    let m_safe : SafeLink 0 1 (core_of m) = subst P (sym two.step.core) (safe_turns 1 all (core_of near) two.turns near_safe) in
    let host : m.host ≡ l.host = two.step.host ∙ one.host in
    let near_tick = tick_notes Controller (aged l) c a.0.0 g.controller (rests_of 1 1 (core_of (aged l)) s0) parts.0 in
    let far_tick = tick_notes Host k h a.2.0 (tells_same m.host l.host host g.host) (rests_of 1 0 (core_of k) (safe_exchanged 0 1 (core_of m) m_safe)) more.1 in
    let turns = all_notes {kf = 1} Controller es near a.1 one.tells near_safe more.0 in
    let f : List Control = emitted_tick (core_aged (core_of l)) t in
    let ra : List Control = emitted_turns start rest in
    let b : List Control = emitted_turns (core_of near) all in
    let w = notes_then first u (frames_by true (f ++ ra)) (frames_by true b) [] (reports_to true (got_turns (core_of near) all)) near_tick.notes turns.notes in
    let n = tick_frames l m x h (first ++ u) f ra b (record {
      host = host;
      core = two.step.core ∙ (ap (λ d. core_all_here d all) one.core ∙ sym (all_here-append start rest all));
      notes = record { frames = w.frames; gots = w.gots ∙ (ap (reports_to true) (turns_bring_none all (core_of near) two.turns)) };
      last = far_tick;
      written = subst AreWritten (append_assoc f ra b) (written-append (f ++ ra) b near_tick.written turns.written);
    }) in
    let us : List Control = f ++ emitted_turns start (rest ++ all) in
    let sent : f ++ (ra ++ b) ≡ us = ap (λ z. f ++ z) (ap (λ d. ra ++ emitted_turns d all) one.core ∙ sym (turns-append start rest all)) in
    let power = tick_power e c.turns c.ending near_tick.ends in
    let last = far_power l m h host far_tick.ends in
    tick_done l (CoreTick t (rest ++ all) (core_tick l.host.side h.turns h.ending)) x us h
    (aged_whole l first u v (tick_all us x l.host.side h) (grind arith))
    refl refl refl (power.0, power-append rest all power.1 turns.power, last.0, last.1)
event_notes l (TicksWithout es h) a g r q =
    let s0 = safe_aged (core_of l) (safe_reached (core_of l) r) in
    let near : Link = aged l in
    let m : Link = all_at_controller near es in
    let k : Link = exchanged m in
    let u : List Entry = entries_of_events Controller near es in
    let v : List Entry = tick_entries Host k h in
    let parts = no_cut_parts u v (aged_cut l (u ++ v) q) in
    let all : List CoreEndEvent = core_all near es in
    let start : CoreLink = core_ticks_if_waiting (core_aged (core_of l)) in
    let kept : start ≡ core_of near = rw a.0 refl in
    let quiet : emitted_if_waiting (core_aged (core_of l)) ≡ [] = rw a.0 refl in
    let P : CoreLink → Type 0 = λ d. SafeLink 0 1 d in
    let near_safe : SafeLink 0 1 (core_of near) = subst P kept (tick_if_waiting 1 (core_aged (core_of l)) s0) in
    let two = all_step 1 near es a.1 g.controller near_safe in
    let host : m.host ≡ l.host = two.step.host in
    let far_tick = tick_notes Host k h a.2.0 (tells_same m.host l.host host g.host) (grind arith) parts.1 in
    let turns = all_notes {kf = 1} Controller es near a.1 g.controller near_safe parts.0 in
    let b : List Control = emitted_turns (core_of near) all in
    let none : reports_to true (got_turns (core_of near) all) ≡ [] = ap (reports_to true) (turns_bring_none all (core_of near) two.turns) in
    let x : CoreLink = core_all_here start all in
    let n = tick_frames l m x h u [] [] b (grind arith) in
    let us : List Control = emitted_if_waiting (core_aged (core_of l)) ++ emitted_turns start all in
    let last = far_power l m h host far_tick.ends in
    tick_done l (CoreTickWithout all (core_tick l.host.side h.turns h.ending)) x us h
    (aged_notes l (u ++ v) (tick_all us x l.host.side h) (grind arith))
    refl refl refl (turns.power, last.0, last.1)
event_notes l (Activate power c id h) a g r q =
    let x : EndEvent = EndStep (Starts power) c.turns c.ending in
    let y : EndEvent = EndStep (Starts id) h.turns h.ending in
    let near : Link = happens_at_controller l x in
    let es : List CoreLinkEvent = map CoreAtController (core_here l x) in
    let fs : List CoreLinkEvent = map CoreAtHost (core_here (exchanged near) y) in
    let t : List Entry = here_entries Controller l x in
    let u : List Entry = here_entries Host (exchanged near) y in
    let parts = no_cut_parts t u q in
    let clf : CanStart l.controller.side.role l.host.side.role = clf_starts l.controller.side.role l.host.side.role a.0 in
    let st = event_step l (AtController x) (clf, a.2) g r in
    let host : near.host ≡ l.host = (step_own l (Starts power) c.turns c.ending tt clf a.2 g.controller
    (rests_of 0 0 (core_of l) (safe_reached (core_of l) r))).host in
    let Q : NumberedEnd → Type 0 = λ z. IsUicc z.side.role × IsNode (exchanged (record l { host = z })) h.turns h.ending in
    let there : Q near.host = subst Q (sym host) (a.1, a.3) in
    let starts : CanStart near.host.side.role near.controller.side.role =
    can_start near.host.side.role near.controller.side.role there.0 (started_clf l power c.turns c.ending a.0) in
    let one = at_controller l x (clf, a.2) g r parts.0 in
    let two = at_host near y (starts, there.1) st.good (subst Reached (sym st.core) (reached_more (core_of l) es st.allowed r)) parts.1 in
    let n = notes_then t u (emitted (core_of l) es) (emitted (core_of near) fs) (got (core_of l) es) (got (core_of near) fs) one.notes two.notes in
    record {
      notes = record {
        frames = n.frames ∙ (ap (λ d. emitted (core_of l) es ++ emitted d fs) st.core ∙ sym (emitted-append (core_of l) es fs));
        gots = n.gots ∙ (ap (λ d. got (core_of l) es ++ got d fs) st.core ∙ sym (got_all-append (core_of l) es fs));
      };
      power = none_cut-append es fs one.power two.power;
      written = subst BothWritten (ap (λ d. emitted (core_of l) es ++ emitted d fs) st.core ∙ sym (emitted-append (core_of l) es fs))
          (both-append (emitted (core_of l) es) (emitted (core_of near) fs) one.written two.written);
    }

-- ### Runs

run_notes : (events : List LinkEvent) (l : Link) → AllAllowed l events → Good l → Reached (core_of l) → NoCut (entries l events)
    → EventNotes l (core_events l events) (entries l events)
run_notes [] l a g r q = record { notes = silent_none; power = tt; written = tt }
run_notes (e ∷ events) l a g r q =
    let m : Link = happens l e in
    let t : List Entry = event_entries l e in
    let u : List Entry = entries m events in
    let es : List CoreLinkEvent = core_event l e in
    let fs : List CoreLinkEvent = core_events m events in
    let parts = no_cut_parts t u q in
    let st = event_step l e a.0 g r in
    let one = event_notes l e a.0 g r parts.0 in
    let two = run_notes events m a.1 st.good (subst Reached (sym st.core) (reached_more (core_of l) es st.allowed r)) parts.1 in
    let n = notes_then t u (emitted (core_of l) es) (emitted (core_of m) fs) (got (core_of l) es) (got (core_of m) fs) one.notes two.notes in
    record {
      notes = record {
        frames = n.frames ∙ (ap (λ d. emitted (core_of l) es ++ emitted d fs) st.core ∙ sym (emitted-append (core_of l) es fs));
        gots = n.gots ∙ (ap (λ d. got (core_of l) es ++ got d fs) st.core ∙ sym (got_all-append (core_of l) es fs));
      };
      power = none_cut-append es fs one.power two.power;
      written = subst BothWritten (ap (λ d. emitted (core_of l) es ++ emitted d fs) st.core ∙ sym (emitted-append (core_of l) es fs))
          (both-append (emitted (core_of l) es) (emitted (core_of m) fs) one.written two.written);
    }

-- a new tap over all frames of a run reports what was got
pub tap_reports : (l : Link) → IsStart l → (events : List LinkEvent) → AllAllowed l events → NoCut (trace l events)
    → tapped (is_bare l.controller.side.role) (frames_heard (trace l events)) ≡ gots_noted (trace l events)
tap_reports l s events a q =
    let r : Role = l.controller.side.role in
    let t : List Entry = entries l events in
    let es : List CoreLinkEvent = core_events l events in
    let n = run_notes events l a (start_good l s) (start_reached l s) (no_cut_parts (first_entries r) t q).1 in
    let all = notes_then (first_entries r) t [] (emitted (core_of l) es) [] (got (core_of l) es) (grind arith) n.notes in
    ap (tapped (is_bare r)) all.frames
    ∙ (reported (is_bare r) (core_of l) (core_starts l s) (grind arith) es (allowed l s events a) n.power ∙ sym all.gots)

-- so it does over the LPDUs of these frames
pub tap_reports_lpdus : (l : Link) → IsStart l → (events : List LinkEvent) → AllAllowed l events → NoCut (trace l events)
    → tapped_lpdus (is_bare l.controller.side.role) (lpdus_heard (trace l events)) ≡ gots_noted (trace l events)
tap_reports_lpdus l s events a q =
    let r : Role = l.controller.side.role in
    let t : List Entry = entries l events in
    let es : List CoreLinkEvent = core_events l events in
    let n = run_notes events l a (start_good l s) (start_reached l s) (no_cut_parts (first_entries r) t q).1 in
    let all = notes_then (first_entries r) t [] (emitted (core_of l) es) [] (got (core_of l) es) (grind arith) n.notes in
    ap (tapped (is_bare r)) (all_read (frames_heard (trace l events)) (subst BothWritten (sym all.frames) n.written)) ∙ tap_reports l s events a q
