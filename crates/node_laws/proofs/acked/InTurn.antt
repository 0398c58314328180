-- How many fragments count as acknowledged at the ends of a link: none more while no end takes a frame, a window where one end acts or both
-- take turns.
use Rattle.node_laws.proofs.Words.{AcksAtMost, Activate, Acts, AllAllowed, AllAtController, AllAtHost, AllShdlcAllowed, AreSendable, AreTakenInTurn, AreTurns}
use Rattle.node_laws.proofs.Words.{AtController, AtHost, Bool, Control, CoreEndEvent, CoreLink, Deliver, EndState, Ending, Good, Ignore, Link, LinkEnd}
use Rattle.node_laws.proofs.Words.{LinkEvent, LinkState, List, Message, None, NumberedEnd, NumberedShdlc, OnWire, Option, Reached, SafeLink, Session}
use Rattle.node_laws.proofs.Words.{ShdlcEndEvent, ShdlcLink, ShdlcLinkEvent, ShdlcTurn, Some, TakeNoFrames, TicksWithout, Turn, Turns, Up, Waiting, []}
use Rattle.node_laws.proofs.Words.{acked_at_controller, act_frame, after_link_events, ap, append-nil, arith, by_test, core_event, core_here, core_of}
use Rattle.node_laws.proofs.Words.{core_tick_rest, ended_session, exchanged, false, frames_of, happens, inl, is_rset, is_some, is_up, is_waiting, length, map}
use Rattle.node_laws.proofs.Words.{most_frames, nat_le, new_end, no_session, packet_count, refl, reset_with, safe_reached, shdlc_after, shdlc_aged}
use Rattle.node_laws.proofs.Words.{shdlc_all_at_controller, shdlc_becomes, shdlc_exchanged, shdlc_happens, shdlc_happens_at_controller, shdlc_number_of}
use Rattle.node_laws.proofs.Words.{shdlc_put, shdlc_put_all, shdlc_session_of, shdlc_silent, shdlc_ticks_at_controller, shdlc_turned, stopped, subst, sym}
use Rattle.node_laws.proofs.Words.{take_answer, taken, tick_answer, ticked, ticks_if_waiting, ticks_or_cut, took_with, true, whole_acked, whole_among}
use Rattle.node_laws.proofs.Words.{with_shdlc_ended, ℕ, ◌++◌, ◌+◌, ◌-◌, ◌==◌, ◌∙◌, ◌∷◌, ◌≡◌, ◌≤◌, ◌⊎◌}
use Rattle.link_laws.proofs.entries.Stepping.{fetched_acked}
use Rattle.link_laws.proofs.messages.Project.{Tells}
use Rattle.link_laws.proofs.messages.Runs.{run, sendable}
use Rattle.link_laws.proofs.sessions.Data.{Below, none_ended}
use Rattle.link_laws.proofs.sessions.Steps.{safe_event, safe_exchanged}
use Rattle.link_laws.specs.messages.Links.LinkEvent.{Ticks}
use Rattle.link_laws.specs.messages.Projection.{core_events}
use Rattle.link_laws.specs.sessions.Sessions.{ShdlcLinkEvent as CoreLinkEvent, shdlc_after as core_after, shdlc_turn}
use Rattle.link_laws.specs.sessions.Sessions.ShdlcEndEvent.{Cut, Lose as CoreLose, Reset, Stop}
use Rattle.link_laws.specs.sessions.Sessions.ShdlcLinkEvent.{AtController as CoreAtController, AtHost as CoreAtHost, Tick, TickWithout}
use Rattle.shdlc_core.specs.declared.answers.LinkState.TheVariants.{Down}
use Rattle.node_laws.specs.acked.InTurn.{acked_at_host}
use Rattle.node_laws.proofs.telling.Events.{after-append}

-- ## While one end of a link alone acts, at most a window of fragments more count as acknowledged at it: those that the other end accepted before

-- ### What stays as the controller's end acts

-- the ended sessions of an end stay, or one more is kept
abbrev pub AreKept : List (ℕ × Session) → List (ℕ × Session) → Type 0
AreKept past later = (later ≡ past) ⊎ ((x : ℕ × Session) × (later ≡ x ∷ past))

record ActsAlone (l m : ShdlcLink) : Type 0 where
  pub host : m.host ≡ l.host
  pub past : AreKept l.controller.past m.controller.past

stays : (l : ShdlcLink) → ActsAlone l l
stays l = record { host = refl; past = inl refl }

-- the same with another end, and with other wires
beside : (l m k : ShdlcLink) → k.host ≡ m.host → k.controller.past ≡ m.controller.past → ActsAlone l m → ActsAlone l k
beside l m k host past a = grind arith

put_beside : (l : ShdlcLink) (c : Control) → ((shdlc_put l c).host ≡ l.host) × ((shdlc_put l c).controller.past ≡ l.controller.past)
put_beside l c = by_test (is_rset c) (λ q. rw q (refl, refl)) (λ q. rw q (refl, refl))

puts_beside : (cs : List Control) (l : ShdlcLink)
    → ((shdlc_put_all l cs).host ≡ l.host) × ((shdlc_put_all l cs).controller.past ≡ l.controller.past)
puts_beside [] l = (refl, refl)
puts_beside (c ∷ cs) l =
    let one = put_beside l c in
    let more = puts_beside cs (shdlc_put l c) in
    (more.0 ∙ one.0, more.1 ∙ one.1)

becomes_alone : (l m : ShdlcLink) (e : EndState) → ActsAlone l m → ActsAlone l (shdlc_becomes m e)
becomes_alone l m e a =
    let p = puts_beside (frames_of most_frames e) m in
    beside l m (shdlc_becomes m e) p.0 p.1 a

ended_alone : (l : ShdlcLink) (b : Bool) → ActsAlone l (with_shdlc_ended l b)
ended_alone l b = grind arith

happens_alone : (l : ShdlcLink) (e : ShdlcEndEvent) → ActsAlone l (shdlc_happens_at_controller l e)
happens_alone l (Turns ts) = becomes_alone l l (shdlc_turned l.controller.side ts) (stays l)
happens_alone l (Deliver ts) = go l.to_controller
  where
    by : List OnWire → ShdlcLink
    by [] = l
    by (x ∷ xs) =
        let m : ShdlcLink = with_shdlc_ended (record l { to_controller = xs }) (is_some (take_answer l.controller.side x.frame).ended) in
        shdlc_becomes (record m { controller = record m.controller { took = took_with l.controller.took x } })
        (shdlc_turned (taken l.controller.side x.frame) ts)

    go : (w : List OnWire) → ActsAlone l (by w)
    go [] = stays l
    go (x ∷ xs) =
        let b : Bool = is_some (take_answer l.controller.side x.frame).ended in
        let k : ShdlcLink = record l { to_controller = xs } in
        let m : ShdlcLink = with_shdlc_ended k b in
        let n : ShdlcLink = record m { controller = record m.controller { took = took_with l.controller.took x } } in
        becomes_alone l n (shdlc_turned (taken l.controller.side x.frame) ts) (beside l m n refl refl (grind arith))
happens_alone l (Ignore ts) = go l.controller.side.phase l.to_controller
  where
    by : LinkState → List OnWire → ShdlcLink
    by Down (x ∷ xs) =
        shdlc_becomes (record l { to_controller = xs; controller = record l.controller { took = took_with l.controller.took x } })
        (shdlc_turned l.controller.side ts)
    by _ _ = l

    go : (p : LinkState) (w : List OnWire) → ActsAlone l (by p w)
    go Down (x ∷ xs) =
        let n : ShdlcLink = record l { to_controller = xs; controller = record l.controller { took = took_with l.controller.took x } } in
        becomes_alone l n (shdlc_turned l.controller.side ts) (beside l l n refl refl (stays l))
    go Down [] = stays l
    go Up w = stays l
    go Waiting w = stays l
happens_alone l (Acts acts ts) =
    let m : ShdlcLink = shdlc_put_all l (map act_frame acts) in
    let p = puts_beside (map act_frame acts) l in
    becomes_alone l m (shdlc_turned l.controller.side ts) (beside l l m p.0 p.1 (stays l))
happens_alone l CoreLose = record { host = refl; past = inl refl }
happens_alone l (Reset w ts) =
    becomes_alone l (with_shdlc_ended l (is_up l.controller.side.phase)) (shdlc_turned (reset_with l.controller.side w) ts)
    (ended_alone l (is_up l.controller.side.phase))
happens_alone l Cut = grind arith
happens_alone l Stop = grind arith

-- ### Room for acknowledgements

-- the other end accepted so many fragments at most in the session in which the controller's end is up
abbrev pub HasRoom : ℕ → ShdlcLink → Type 0
HasRoom b l = l.controller.side.phase ≡ Up → length (shdlc_session_of l.host (shdlc_number_of l.controller)).acc ≤ b

-- how many fragments of its session are acknowledged at the controller's end
abbrev acked_here : ShdlcLink → ℕ
acked_here l = l.controller.side.session.acked

-- a window at most was sent and isn't acknowledged, and no more is accepted
room_first : (kn kf : ℕ) (l : ShdlcLink) → SafeLink kn kf l → HasRoom (acked_here l + 4) l
room_first kn kf l h up = grind arith

-- in a session that begins the other end has accepted nothing
room_then : (kn kf jn jf b : ℕ) (l m : ShdlcLink) → SafeLink kn kf l → SafeLink jn jf m → ActsAlone l m → HasRoom b l → HasRoom b m
room_then kn kf jn jf b l m h k a room up = go l.controller.side.phase (n == shdlc_number_of l.controller) refl refl
  where
    n : ℕ
    n = shdlc_number_of m.controller

    there : shdlc_session_of m.host n ≡ shdlc_session_of l.host n
    there = ap (λ (g : NumberedShdlc). shdlc_session_of g n) a.host

    none : ended_session l.controller.past n ≡ no_session
    none =
        let z : Below n m.controller.past = rw up at k.n_past in
        none_ended n n l.controller.past (omega arith) (grind arith)

    began : shdlc_session_of l.controller n ≡ ended_session l.controller.past n → length (shdlc_session_of m.host n).acc ≤ b
    began q =
        let fits = (h.n_base n).fits in
        let size = ap (λ (s : Session). length s.acc) there in
        omega (arith, fits, size, (ap (λ (s : Session). s.reached) (q ∙ none)))

    go : (p : LinkState) (c : Bool) → l.controller.side.phase ≡ p → (n == shdlc_number_of l.controller) ≡ c → length (shdlc_session_of m.host n).acc ≤ b
    go Up true p c = grind arith
    go Up false p c = began (rw (p, c) refl)
    go Waiting c p q = began (rw p refl)
    go Down c p q = began (rw p refl)

-- ### One end alone

-- all these happen at the controller's end, or at the host's
abbrev AllNear : List ShdlcLinkEvent → Type 0
AllNear [] = Unit {0}
AllNear (CoreAtController e ∷ es) = AllNear es
AllNear (_ ∷ es) = ⊥

abbrev AllFar : List ShdlcLinkEvent → Type 0
AllFar [] = Unit {0}
AllFar (CoreAtHost e ∷ es) = AllFar es
AllFar (_ ∷ es) = ⊥

near_in_room : (b : ℕ) (es : List ShdlcLinkEvent) (l : ShdlcLink) → AllShdlcAllowed es → AllNear es → SafeLink 0 0 l → HasRoom b l
    → (acked_here (shdlc_after l es) ≤ b) × ((shdlc_after l es).host ≡ l.host)
near_in_room b [] l a near h room = (grind arith, refl)
near_in_room b (CoreAtController e ∷ es) l a near h room =
    let m : ShdlcLink = shdlc_happens_at_controller l e in
    let s = safe_event l (CoreAtController e) es a h in
    let alone : ActsAlone l m = happens_alone l e in
    let more = near_in_room b es m s.1 near s.0 (room_then 0 0 0 0 b l m h s.0 alone room) in
    (more.0, more.1 ∙ alone.host)
near_in_room b (_ ∷ es) l a near h room = absurd near

far_in_room : (b : ℕ) (es : List ShdlcLinkEvent) (l : ShdlcLink) → AllShdlcAllowed es → AllFar es → SafeLink 0 0 l → HasRoom b (shdlc_exchanged l)
    → (acked_here (shdlc_exchanged (shdlc_after l es)) ≤ b) × ((shdlc_after l es).controller ≡ l.controller)
far_in_room b [] l a far h room = (grind arith, refl)
far_in_room b (CoreAtHost e ∷ es) l a far h room =
    let k : ShdlcLink = shdlc_exchanged l in
    let m : ShdlcLink = shdlc_happens_at_controller k e in
    let s = safe_event l (CoreAtHost e) es a h in
    let alone : ActsAlone k m = happens_alone k e in
    let n : ShdlcLink = shdlc_exchanged m in
    let more = far_in_room b es n s.1 far s.0
    (room_then 0 0 0 0 b k m (safe_exchanged 0 0 l h) (safe_exchanged 0 0 n s.0) alone room) in
    (more.0, more.1 ∙ alone.host)
far_in_room b (_ ∷ es) l a far h room = absurd far

far_alone : (es : List ShdlcLinkEvent) (l : ShdlcLink) → AllShdlcAllowed es → AllFar es → SafeLink 0 0 l
    → (acked_here (shdlc_exchanged (shdlc_after l es)) ≤ acked_here (shdlc_exchanged l) + 4) × ((shdlc_after l es).controller ≡ l.controller)
far_alone es l a far h = far_in_room (acked_here (shdlc_exchanged l) + 4) es l a far h (room_first 0 0 (shdlc_exchanged l) (safe_exchanged 0 0 l h))

-- ## While no end of a link takes a frame, no more fragments count as acknowledged

-- ### What an end becomes

turned_acked : (ts : List ShdlcTurn) (e : EndState) → (shdlc_turned e ts).session.acked ≡ e.session.acked
turned_acked [] e = refl
turned_acked (t ∷ ts) e = turned_acked ts (shdlc_turn e t) ∙ (grind arith)

becomes_acked : (l : ShdlcLink) (ts : List ShdlcTurn) (e : EndState) → acked_here (shdlc_becomes l (shdlc_turned e ts)) ≡ e.session.acked
becomes_acked l ts e = fetched_acked most_frames (shdlc_turned e ts) ∙ turned_acked ts e

ticked_acked : (e : EndState) → (ticked e).session.acked ≤ e.session.acked
ticked_acked e = grind arith

reset_acked : (e : EndState) (w : ℕ) → (reset_with e w).session.acked ≤ e.session.acked
reset_acked e w = by_test (is_waiting e) (λ q. rw q (omega arith)) (λ q. rw q (omega arith))

silent_acked : (l : ShdlcLink) (e : EndState) → e.session.acked ≡ 0 → acked_here (shdlc_silent l e) ≡ 0
silent_acked l e none = grind arith

-- ### What happens at the controller's end

abbrev DeliversNone : ShdlcEndEvent → Type 0
DeliversNone (Deliver ts) = ⊥
DeliversNone _ = Unit {0}

none_here : (l : ShdlcLink) (e : ShdlcEndEvent) → DeliversNone e → acked_here (shdlc_happens_at_controller l e) ≤ acked_here l
none_here l (Turns ts) d = let z = becomes_acked l ts l.controller.side in omega (arith, z)
none_here l (Deliver ts) d = absurd d
none_here l (Ignore ts) d = go l.controller.side.phase l.to_controller
  where
    by : LinkState → List OnWire → ShdlcLink
    by Down (x ∷ xs) =
        shdlc_becomes (record l { to_controller = xs; controller = record l.controller { took = took_with l.controller.took x } })
        (shdlc_turned l.controller.side ts)
    by _ _ = l

    go : (p : LinkState) (w : List OnWire) → acked_here (by p w) ≤ acked_here l
    go Down (x ∷ xs) =
        let n : ShdlcLink = record l { to_controller = xs; controller = record l.controller { took = took_with l.controller.took x } } in
        omega (arith, becomes_acked n ts l.controller.side)
    go Down [] = omega arith
    go Up w = omega arith
    go Waiting w = omega arith
none_here l (Acts acts ts) d =
    let z = becomes_acked (shdlc_put_all l (map act_frame acts)) ts l.controller.side in omega (arith, z)
none_here l CoreLose d = omega arith
none_here l (Reset w ts) d =
    let z = becomes_acked (with_shdlc_ended l (is_up l.controller.side.phase)) ts (reset_with l.controller.side w) in
    omega (arith, z, reset_acked l.controller.side w)
none_here l Cut d = let z = silent_acked l (new_end 4) refl in omega (arith, z)
none_here l Stop d = let z = silent_acked l (stopped l.controller.side) refl in omega (arith, z)

-- as an end does something, its own acknowledged fragments aren't more, and the other end stays
record AddsNone (l m : ShdlcLink) : Type 0 where
  pub acked : acked_here m ≤ acked_here l
  pub host : m.host ≡ l.host

adds_then : (l m k : ShdlcLink) → AddsNone l m → AddsNone m k → AddsNone l k
adds_then l m k a b = record { acked = omega (arith, a.acked, b.acked); host = b.host ∙ a.host }

adds_here : (l : ShdlcLink) (e : ShdlcEndEvent) → DeliversNone e → AddsNone l (shdlc_happens_at_controller l e)
adds_here l e d = record { acked = none_here l e d; host = (happens_alone l e).host }

turns_add : (es : List ShdlcEndEvent) (l : ShdlcLink) → AreTurns es → AddsNone l (shdlc_all_at_controller l es)
turns_add [] l a = record { acked = omega arith; host = refl }
turns_add (e ∷ es) l a =
    let m : ShdlcLink = shdlc_happens_at_controller l e in
    adds_then l m (shdlc_all_at_controller m es) (adds_here l e (grind arith)) (turns_add es m a.1)

tick_adds : (l : ShdlcLink) (ts : List ShdlcTurn) → AddsNone l (shdlc_ticks_at_controller l ts)
tick_adds l ts =
    let m : ShdlcLink = with_shdlc_ended l (is_some (tick_answer l.controller.side).ended) in
    record {
      acked = omega (arith, becomes_acked m ts (ticked l.controller.side), ticked_acked l.controller.side);
      host = (becomes_alone l m (shdlc_turned (ticked l.controller.side) ts) (ended_alone l (is_some (tick_answer l.controller.side).ended))).host;
    }

tick_or_cut_adds : (b : Option (List ShdlcTurn)) (l : ShdlcLink) → AddsNone l (ticks_or_cut b l)
tick_or_cut_adds (Some ts) l = tick_adds l ts
tick_or_cut_adds None l = grind arith

tick_if_waiting_adds : (l : ShdlcLink) → AddsNone l (ticks_if_waiting l)
tick_if_waiting_adds l = by_test (is_waiting l.controller.side) (λ q. rw q (tick_adds l [])) (λ q. rw q (record { acked = omega arith; host = refl }))

-- ### What happens on the link

abbrev NoneDelivered : List ShdlcLinkEvent → Type 0
NoneDelivered [] = Unit {0}
NoneDelivered (CoreAtController e ∷ es) = DeliversNone e × NoneDelivered es
NoneDelivered (CoreAtHost e ∷ es) = DeliversNone e × NoneDelivered es
NoneDelivered (_ ∷ es) = NoneDelivered es

-- at both ends
record NoneAdded (l m : ShdlcLink) : Type 0 where
  pub near : acked_here m ≤ acked_here l
  pub far : acked_here (shdlc_exchanged m) ≤ acked_here (shdlc_exchanged l)

-- first the controller's end does something, then the host's
both_add : (l m k : ShdlcLink) → AddsNone l m → AddsNone (shdlc_exchanged m) k → NoneAdded l (shdlc_exchanged k)
both_add l m k a b = grind arith

ticks_add : (l near : ShdlcLink) (turns : List ShdlcEndEvent) (d : Option (List ShdlcTurn)) → AreTurns turns → AddsNone l near
    → NoneAdded l (shdlc_exchanged (ticks_or_cut d (shdlc_exchanged (shdlc_all_at_controller near turns))))
ticks_add l near turns d a one =
    let m : ShdlcLink = shdlc_all_at_controller near turns in
    both_add l m (ticks_or_cut d (shdlc_exchanged m)) (adds_then l near m one (turns_add turns near a)) (tick_or_cut_adds d (shdlc_exchanged m))

event_adds_none : (l : ShdlcLink) (e : ShdlcLinkEvent) (es : List ShdlcLinkEvent) → AllShdlcAllowed (e ∷ es) → NoneDelivered (e ∷ es)
    → NoneAdded l (shdlc_happens l e) × AllShdlcAllowed es × NoneDelivered es
event_adds_none l (CoreAtController e) es a d = let h0 = adds_here l e d.0 in grind arith
event_adds_none l (CoreAtHost e) es a d =
    let k : ShdlcLink = shdlc_exchanged l in
    (both_add l l (shdlc_happens_at_controller k e) (grind arith) (adds_here k e d.0), a.1, d.1)
event_adds_none l (Tick c turns h) es a d =
    let old : ShdlcLink = shdlc_aged l in
    (ticks_add l (ticks_or_cut c old) turns h a.0 (let z = tick_or_cut_adds c old in record { acked = z.acked; host = z.host }), a.1, d)
event_adds_none l (TickWithout turns h) es a d =
    let old : ShdlcLink = shdlc_aged l in
    (ticks_add l (ticks_if_waiting old) turns h a.0 (let z = tick_if_waiting_adds old in record { acked = z.acked; host = z.host }), a.1, d)

none_added : (es : List ShdlcLinkEvent) (l : ShdlcLink) → AllShdlcAllowed es → NoneDelivered es → NoneAdded l (shdlc_after l es)
none_added [] l a d = record { near = omega arith; far = omega arith }
none_added (e ∷ es) l a d =
    let one = event_adds_none l e es a d in
    let more = none_added es (shdlc_happens l e) one.1 one.2 in
    let near = one.0.near in
    let far = one.0.far in
    record { near = omega (arith, near, more.near); far = omega (arith, far, more.far) }

-- ## Where the ends of a link take frames one after the other, at most a window of fragments more count as acknowledged at each of them

-- ### Events seen on the link over fragments

near_map : (es : List CoreEndEvent) → AllNear (map CoreAtController es)
near_map [] = tt
near_map (e ∷ es) = near_map es

near-append : (es fs : List CoreLinkEvent) → AllNear es → AllNear fs → AllNear (es ++ fs)
near-append [] fs a b = b
near-append (CoreAtController e ∷ es) fs a b = near-append es fs a b
near-append (_ ∷ es) fs a b = absurd a

near_core : (es : List LinkEvent) (l : Link) → AllAtController es → AllNear (core_events l es)
near_core [] l a = tt
near_core (AtController e ∷ es) l a =
    near-append (map CoreAtController (core_here l e)) (core_events (happens l (AtController e)) es) (near_map (core_here l e))
    (near_core es (happens l (AtController e)) a)
near_core (_ ∷ es) l a = absurd a

far_map : (es : List CoreEndEvent) → AllFar (map CoreAtHost es)
far_map [] = tt
far_map (e ∷ es) = far_map es

far-append : (es fs : List CoreLinkEvent) → AllFar es → AllFar fs → AllFar (es ++ fs)
far-append [] fs a b = b
far-append (CoreAtHost e ∷ es) fs a b = far-append es fs a b
far-append (_ ∷ es) fs a b = absurd a

far_core : (es : List LinkEvent) (l : Link) → AllAtHost es → AllFar (core_events l es)
far_core [] l a = tt
far_core (AtHost e ∷ es) l a =
    far-append (map CoreAtHost (core_here (exchanged l) e)) (core_events (happens l (AtHost e)) es) (far_map (core_here (exchanged l) e))
    (far_core es (happens l (AtHost e)) a)
far_core (_ ∷ es) l a = absurd a

-- none of these takes a frame
abbrev DeliverNone : List CoreEndEvent → Type 0
DeliverNone [] = Unit {0}
DeliverNone (e ∷ es) = DeliversNone e × DeliverNone es

rest_none : (e : LinkEnd) (ts : List Turn) (ending : Ending) → DeliverNone (core_tick_rest e ts ending)
rest_none e ts ending = grind arith

none_near : (es : List CoreEndEvent) → DeliverNone es → NoneDelivered (map CoreAtController es)
none_near [] d = tt
none_near (e ∷ es) d = (d.0, none_near es d.1)

none_far : (es : List CoreEndEvent) → DeliverNone es → NoneDelivered (map CoreAtHost es)
none_far [] d = tt
none_far (e ∷ es) d = (d.0, none_far es d.1)

none-append : (es fs : List CoreLinkEvent) → NoneDelivered es → NoneDelivered fs → NoneDelivered (es ++ fs)
none-append [] fs a b = b
none-append (CoreAtController e ∷ es) fs a b = (a.0, none-append es fs a.1 b)
none-append (CoreAtHost e ∷ es) fs a b = (a.0, none-append es fs a.1 b)
none-append (_ ∷ es) fs a b = none-append es fs a b

none_core : (es : List LinkEvent) (l : Link) → TakeNoFrames es → NoneDelivered (core_events l es)
none_core [] l t = tt
none_core (AtController e ∷ es) l t =
    none-append (map CoreAtController (core_here l e)) (core_events (happens l (AtController e)) es)
    (none_near (core_here l e) (grind arith)) (none_core es (happens l (AtController e)) t.1)
none_core (AtHost e ∷ es) l t =
    none-append (map CoreAtHost (core_here (exchanged l) e)) (core_events (happens l (AtHost e)) es)
    (none_far (core_here (exchanged l) e) (grind arith)) (none_core es (happens l (AtHost e)) t.1)
none_core (Ticks c events h ∷ es) l t =
    let h0 = core_event l (Ticks c events h) in let h1 = happens l (Ticks c events h) in let h2 = none_core es (happens l (Ticks c events h)) t in grind arith
none_core (TicksWithout events h ∷ es) l t =
    none-append (core_event l (TicksWithout events h)) (core_events (happens l (TicksWithout events h)) es)
    (none_far (core_tick_rest l.host.side h.turns h.ending) (rest_none l.host.side h.turns h.ending)) (none_core es (happens l (TicksWithout events h)) t)
none_core (Activate power c id h ∷ es) l t =
    let h0 = happens l (Activate power c id h) in let h1 = none_core es (happens l (Activate power c id h)) t in grind arith

-- ### How many more are acknowledged

so_of : (near far : ℕ) (l m : Link) (c : CoreLink) → core_of m ≡ c
    → c.controller.side.session.acked ≤ acked_at_controller l + near → c.host.side.session.acked ≤ acked_at_host l + far → AcksAtMost near far l m
so_of near far l m c is a b = grind arith

pub near_acks : (es : List LinkEvent) (l : Link) → AllAllowed l es → Good l × Reached (core_of l) → AllAtController es
    → AcksAtMost 4 0 l (after_link_events l es)
near_acks es l a k at =
    let r = run es l a k.0 k.1 in
    let c : CoreLink = core_of l in
    let p = near_in_room (acked_here c + 4) (core_events l es) c r.allowed (near_core es l at) (safe_reached c k.1) (room_first 0 0 c (safe_reached c k.1)) in
    so_of 4 0 l (after_link_events l es) (core_after c (core_events l es)) r.core p.0 (omega (arith, (ap (λ h. h.side.session.acked) p.1)))

pub far_acks : (es : List LinkEvent) (l : Link) → AllAllowed l es → Good l × Reached (core_of l) → AllAtHost es → AcksAtMost 0 4 l (after_link_events l es)
far_acks es l a k at =
    let r = run es l a k.0 k.1 in
    let c : CoreLink = core_of l in
    let p = far_alone (core_events l es) c r.allowed (far_core es l at) (safe_reached c k.1) in
    so_of 0 4 l (after_link_events l es) (core_after c (core_events l es)) r.core (omega (arith, (ap (λ h. h.side.session.acked) p.1))) p.0

pub none_acks : (es : List LinkEvent) (l : Link) → AllAllowed l es → Good l × Reached (core_of l) → TakeNoFrames es → AcksAtMost 0 0 l (after_link_events l es)
none_acks es l a k t =
    let r = run es l a k.0 k.1 in
    let c : CoreLink = core_of l in
    let p = none_added (core_events l es) c r.allowed (none_core es l t) in
    so_of 0 0 l (after_link_events l es) (core_after c (core_events l es)) r.core (let z = p.near in omega (arith, z)) (let z = p.far in omega (arith, z))

-- what is known of a link stays so over events
pub good_after : (es : List LinkEvent) (l : Link) → AllAllowed l es → Good l × Reached (core_of l)
    → Good (after_link_events l es) × Reached (core_of (after_link_events l es))
good_after es l a k = let r = run es l a k.0 k.1 in (r.good, subst Reached (sym r.core) r.reached)

allowed_parts : (es fs : List LinkEvent) (l : Link) → AllAllowed l (es ++ fs) → AllAllowed l es × AllAllowed (after_link_events l es) fs
allowed_parts [] fs l a = (tt, a)
allowed_parts (e ∷ es) fs l a = let more = allowed_parts es fs (happens l e) a.1 in ((a.0, more.0), more.1)

-- first the one, then the other, and then none
pub in_turn_acks : (es : List LinkEvent) (l : Link) → AllAllowed l es → Good l × Reached (core_of l) → AreTakenInTurn es
    → AcksAtMost 4 4 l (after_link_events l es)
in_turn_acks es l a k t =
    let near : List LinkEvent = t.near in
    let far : List LinkEvent = t.far in
    let rest : List LinkEvent = t.rest in
    let m : Link = after_link_events l near in
    let n : Link = after_link_events m far in
    let one = allowed_parts near (far ++ rest) l (subst (AllAllowed l) t.parts a) in
    let two = allowed_parts far rest m one.1 in
    let km : Good m × Reached (core_of m) = good_after near l one.0 k in
    let a1 = near_acks near l one.0 k t.at_controller in
    let a2 = far_acks far m two.0 km t.at_host in
    let a3 = none_acks rest n two.1 (good_after far m two.0 km) t.none_taken in
    let end : after_link_events l es ≡ after_link_events n rest =
    ap (after_link_events l) t.parts ∙ (after-append near (far ++ rest) l ∙ after-append far rest m) in
    let h : acked_at_host (after_link_events n rest) ≤ acked_at_host l + 4 = omega (arith, a1.host, a2.host, a3.host) in
    subst (AcksAtMost 4 4 l) (sym end) (record { controller = omega (arith, a1.controller, a2.controller, a3.controller); host = h })

-- ### The first of them

-- the first of two parts that come after one another is the first of the one, or the one and the first of the other
data CutAt (xs ys front : List LinkEvent) : Type 0 where
  Within : (more : List LinkEvent) → xs ≡ front ++ more → CutAt xs ys front
  Beyond : (first back : List LinkEvent) → front ≡ xs ++ first → ys ≡ first ++ back → CutAt xs ys front

cut_at : (xs ys front back : List LinkEvent) → xs ++ ys ≡ front ++ back → CutAt xs ys front
cut_at [] ys front back q = Beyond front back refl q
cut_at (x ∷ xs) ys [] back q = Within (x ∷ xs) refl
cut_at (x ∷ xs) ys (e ∷ front) back q = go (cut_at xs ys front back (let z : x ∷ (xs ++ ys) ≡ e ∷ (front ++ back) = q in cc))
  where
    same : x ≡ e
    same = let z : x ∷ (xs ++ ys) ≡ e ∷ (front ++ back) = q in cc

    go : CutAt xs ys front → CutAt (x ∷ xs) ys (e ∷ front)
    go (Within more p) = Within more (rw same (ap (λ zs. e ∷ zs) p))
    go (Beyond first rest p r) = Beyond first rest (rw same (ap (λ zs. e ∷ zs) p)) r

near_front : (front back : List LinkEvent) → AllAtController (front ++ back) → AllAtController front
near_front [] back a = tt
near_front (AtController e ∷ front) back a = near_front front back a
near_front (_ ∷ front) back a = absurd a

far_front : (front back : List LinkEvent) → AllAtHost (front ++ back) → AllAtHost front
far_front [] back a = tt
far_front (AtHost e ∷ front) back a = far_front front back a
far_front (_ ∷ front) back a = absurd a

none_front : (front back : List LinkEvent) → TakeNoFrames (front ++ back) → TakeNoFrames front
none_front [] back a = tt
none_front (AtController e ∷ front) back a = (a.0, none_front front back a.1)
none_front (AtHost e ∷ front) back a = (a.0, none_front front back a.1)
none_front (_ ∷ front) back a = none_front front back a

in_turn_front : (es front back : List LinkEvent) → es ≡ front ++ back → AreTakenInTurn es → AreTakenInTurn front
in_turn_front es front back q t = go (cut_at t.near (t.far ++ t.rest) front back (sym t.parts ∙ q))
  where
    behind : (first : List LinkEvent) → front ≡ t.near ++ first → CutAt t.far t.rest first → AreTakenInTurn front
    behind first p (Within more r) =
        record {
          near = t.near;
          far = first;
          rest = [];
          parts = p ∙ ap (λ zs. t.near ++ zs) (sym (append-nil first));
          at_controller = t.at_controller;
          at_host = far_front first more (subst AllAtHost r t.at_host);
          none_taken = tt;
        }
    behind first p (Beyond last rest r z) =
        record {
          near = t.near;
          far = t.far;
          rest = last;
          parts = p ∙ ap (λ zs. t.near ++ zs) r;
          at_controller = t.at_controller;
          at_host = t.at_host;
          none_taken = none_front last rest (subst TakeNoFrames z t.none_taken);
        }

    go : CutAt t.near (t.far ++ t.rest) front → AreTakenInTurn front
    go (Within more p) =
        record {
          near = front;
          far = [];
          rest = [];
          parts = sym (append-nil front);
          at_controller = near_front front more (subst AllAtController p t.at_controller);
          at_host = tt;
          none_taken = tt;
        }
    go (Beyond first rest p r) = behind first p (cut_at t.far t.rest first rest r)

-- at each moment of them
pub front_acks : (es front back : List LinkEvent) (l : Link) → es ≡ front ++ back → AllAllowed l es → Good l × Reached (core_of l) → AreTakenInTurn es
    → AcksAtMost 4 4 l (after_link_events l front)
front_acks es front back l q a k t =
    in_turn_acks front l (allowed_parts front back l (subst (AllAllowed l) q a)).0 k (in_turn_front es front back q t)

-- ### Whole messages

whole_within : (ms : List Message) (places : ℕ) → AreSendable ms → whole_among ms places ≤ places
whole_within [] places a = omega arith
whole_within (m ∷ ms) places a =
    let h0 = nat_le (packet_count (length m.1)) places in let h1 = packet_count (length m.1) in
    let h2 = whole_within ms (places - packet_count (length m.1)) a.1 in grind arith

-- no more messages count as acknowledged than fragments
pub whole_few : (h : NumberedEnd) → Tells h → whole_acked h.side ≤ h.side.shdlc.session.acked
whole_few h t = whole_within h.side.sent h.side.shdlc.session.acked (sendable h.side.sent t.now.says.short)
