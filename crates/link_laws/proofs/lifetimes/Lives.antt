-- Each event without a loss keeps both timers in time.
use Rattle.link_laws.proofs.Words.{Act, Bool, Clt, Control, CoreAtController as AtController, CoreAtHost as AtHost, CoreDeliver as Deliver}
use Rattle.link_laws.proofs.Words.{CoreEndEvent as ShdlcEndEvent, CoreLink as ShdlcLink, CoreTurn as ShdlcTurn, EndState, I, List, Losses, None, NumberedShdlc}
use Rattle.link_laws.proofs.Words.{Offer, Rset, S, SetReady, ShdlcLinkEvent, Some, Tick, TickWithout, Turns, Ua, Up, [], ap, arith, came_up}
use Rattle.link_laws.proofs.Words.{core_after as shdlc_after, core_aged as shdlc_aged, core_all_here as shdlc_all_at_controller}
use Rattle.link_laws.proofs.Words.{core_happens_here as shdlc_happens_at_controller, core_turned as shdlc_turned, core_with_ended as with_shdlc_ended, false}
use Rattle.link_laws.proofs.Words.{fetched, frame_due, frames_of, inl, is_some, length, losses_after, ltb-true, most_frames, nat_lt, no_losses, noted_aged}
use Rattle.link_laws.proofs.Words.{noted_all, noted_event, noted_here, noted_loss, noted_out, noted_tick, noted_turns, or_parts, refl, shdlc_becomes}
use Rattle.link_laws.proofs.Words.{shdlc_exchanged, shdlc_happens, shdlc_put, shdlc_ticks_at_controller, shdlc_turn, start, subst, sym}
use Rattle.link_laws.proofs.Words.{take_answer, taken, tick_answer, ticked, took_with, true, true≢false, with_frame, ℕ, ◌||◌, ◌∙◌, ◌∷◌, ◌≡◌, ◌≤◌}
use Rattle.link_laws.specs.places.Wire.{OnWire, fits, is_act, sans, overflows, loses_aged, aged_wire, older}
use Rattle.link_laws.proofs.places.Flows.{Counts, Shows}
use Rattle.link_laws.proofs.places.Joined.{few_taken, idle_after, joined_weaker, left, no_due}
use Rattle.link_laws.proofs.sessions.Wire.{IsData, Young, young_later, young_older}
use Rattle.link_laws.proofs.sessions.Steps.{not_rset, took_other}
use Rattle.link_laws.proofs.sessions.Ties.{Meets, new_meets, data_due, sends_noted, few_turns}
use Rattle.link_laws.proofs.sessions.Quiet.{began_data, few_room}
use Rattle.link_laws.specs.lifetimes.Lifetime.{BeginsAnew, OnlyTurns, IsPlainHere, IsPlainEvent, AllPlain, LosesNone, GoesOn}
use Rattle.link_laws.proofs.lifetimes.Lasts.{Lasts, lasts_of, lasts_exchanged, lasts_put, lasts_ready, lasts_ticked, lasts_older, lasts_taken, lasts_fetched}
use Rattle.link_laws.proofs.lifetimes.Lasts.{no_probe}
use Rattle.link_laws.proofs.Cases.{by_test}
use mathlib.Core.List.{IsPrefix}

-- ## Wires that show marks

mark_data : (x : OnWire) (xs : List OnWire) (lo hi : ℕ) (ms : List Control) → Shows (x ∷ xs) ms → Counts lo hi ms → IsData x.frame × (is_act x.frame ≡ false)
mark_data x xs lo hi ms shows counts = grind arith

-- no frame of activation is among them
sans_all : (wire : List OnWire) (lo hi : ℕ) (ms : List Control) → Shows wire ms → Counts lo hi ms → sans wire ≡ wire
sans_all [] lo hi ms shows counts = refl
sans_all (x ∷ xs) lo hi [] shows counts = absurd shows
sans_all (x ∷ xs) lo hi (I p n info ∷ ms) shows counts =
    rw ((mark_data x xs lo hi (I p n info ∷ ms) shows counts).1) (ap (λ r. x ∷ r) (sans_all xs n hi ms shows.1 counts.1))
sans_all (x ∷ xs) lo hi (S k n ∷ ms) shows counts =
    rw ((mark_data x xs lo hi (S k n ∷ ms) shows counts).1) (ap (λ r. x ∷ r) (sans_all xs n hi ms shows.1 counts.1))
sans_all (x ∷ xs) lo hi (Rset _ _ ∷ ms) shows counts = absurd counts
sans_all (x ∷ xs) lo hi (Ua ∷ ms) shows counts = absurd counts
sans_all (x ∷ xs) lo hi (Act _ _ ∷ ms) shows counts = absurd counts
sans_all (x ∷ xs) lo hi (Clt ∷ ms) shows counts = absurd counts

-- such a wire that loses no frame where one more is put on it holds all of them
fits_all : (wire : List OnWire) (lo hi : ℕ) (ms : List Control) → Shows wire ms → Counts lo hi ms → overflows wire ≡ false → fits wire ≡ wire
fits_all wire lo hi ms shows counts none = grind arith

-- where none is lost by its age, all grow older
aged_is_older : (wire : List OnWire) → loses_aged wire ≡ false → Young 4 wire → (aged_wire wire ≡ older wire) × Young 4 (older wire)
aged_is_older [] h y = (refl, tt)
aged_is_older (x ∷ xs) h y =
    by_test {P = (aged_wire (x ∷ xs) ≡ older (x ∷ xs)) × Young 4 (older (x ∷ xs))} (nat_lt x.age 4) (λ q.
    let k = (aged_is_older xs) (rw q at h) (young_later x.age 4 xs y.0 y.1) in
    (rw (q, k.0) refl, (let g = ltb-true x.age 4 q in omega arith, young_older x.age xs y.1)))
    (λ q. absurd (true≢false (rw q at h)))

-- ## The link

-- what an end keeps of its sessions and their numbers
record Keeps (before now : NumberedShdlc) : Type 0 where
  emitted : now.emitted ≡ before.emitted
  took : now.took ≡ before.took
  past : now.past ≡ before.past

-- both ends go on in their session, c and h are what they were as it began, and both have sent all that is due; kn and kf ticks
-- have passed that they have still to count
record IsAlive (kn kf : ℕ) (c h : NumberedShdlc) (l : ShdlcLink) : Type 0 where
  lasts : Lasts kn kf l.controller.side l.host.side l.to_controller l.to_host
  near_idle : frame_due l.controller.side ≡ None
  far_idle : frame_due l.host.side ≡ None
  near : Keeps c l.controller
  far : Keeps h l.host

alive_exchanged : (kn kf : ℕ) (c h : NumberedShdlc) (l : ShdlcLink) → IsAlive kn kf c h l → IsAlive kf kn h c (shdlc_exchanged l)
alive_exchanged kn kf c h l a =
    record {
      lasts = lasts_exchanged kn kf l.controller.side l.host.side l.to_controller l.to_host a.lasts;
      near_idle = a.far_idle;
      far_idle = a.near_idle;
      near = a.far;
      far = a.near;
    }

-- what was lost stays lost as frames go out
out_lost : (cs : List Control) (n : Losses) (l : ShdlcLink) → (noted_all n l cs).lost ≡ false → n.lost ≡ false
out_lost [] n l v = v
out_lost (c ∷ cs) n l v = (or_parts n.lost (overflows (with_frame l.to_host c)) (out_lost cs (noted_loss n l c) (shdlc_put l c) v)).0

-- the near end, which has become e, while it sends what is due on the link m; c and h are both ends as it began
abbrev Sends : ℕ → NumberedShdlc → NumberedShdlc → Losses → EndState → ShdlcLink → Type 0
Sends kf c h n e m = n.lost ≡ false → Lasts 0 kf e m.host.side m.to_controller m.to_host × (m.controller ≡ c) × (m.host ≡ h)

sends_each : (kf : ℕ) (c h : NumberedShdlc) (n : Losses) (e : EndState) (m : ShdlcLink) (f : Control) → frame_due e ≡ Some f → Sends kf c h n e m
    → Sends kf c h (noted_loss n m f) (fetched e) (shdlc_put m f)
sends_each kf c h n e m f is k v =
    let parts = or_parts n.lost (overflows (with_frame m.to_host f)) v in
    let g = k parts.0 in
    let one : Lasts 0 kf (fetched e) m.host.side m.to_controller (with_frame m.to_host f) =
    rw is at (lasts_fetched kf e m.host.side m.to_controller m.to_host g.0) in
    let all : fits (with_frame m.to_host f) ≡ with_frame m.to_host f =
    let j = one.joined in
    fits_all (with_frame m.to_host f) m.host.side.session.acked (length (fetched e).session.acc) j.far_marks j.far_shows j.far_sends.counts parts.1 in
    rw (not_rset f (inl (data_due e f g.0.joined.near_due is).0), all) (one, g.1, g.2)

-- ## Turns

lasts_turn : (kn kf : ℕ) (e f : EndState) (to_near to_far : List OnWire) (t : ShdlcTurn) → Lasts kn kf e f to_near to_far
    → Lasts kn kf (shdlc_turn e t) f to_near to_far
lasts_turn kn kf e f to_near to_far (Offer fragments) k = let h0 = lasts_put kn kf e f to_near to_far fragments k in grind arith
lasts_turn kn kf e f to_near to_far (SetReady r) k = lasts_ready kn kf e f to_near to_far r k

lasts_turns : (kn kf : ℕ) (ts : List ShdlcTurn) (e f : EndState) (to_near to_far : List OnWire) → Lasts kn kf e f to_near to_far
    → Lasts kn kf (shdlc_turned e ts) f to_near to_far
lasts_turns kn kf [] e f to_near to_far k = k
lasts_turns kn kf (t ∷ ts) e f to_near to_far k = lasts_turns kn kf ts (shdlc_turn e t) f to_near to_far (lasts_turn kn kf e f to_near to_far t k)

-- c and h are what the ends were as the session began, and the far end has sent all that is due
module _ (kf : ℕ) (c h : NumberedShdlc) (n : Losses) (l : ShdlcLink) (idle : frame_due l.host.side ≡ None) (near : Keeps c l.controller)
    (far : Keeps h l.host) where
  -- the near end becomes e, and sends all that is due
  alive_becomes : (e : EndState) → Lasts 0 kf e l.host.side l.to_controller l.to_host → left e ≤ most_frames → (noted_out n l e).lost ≡ false
      → IsAlive 0 kf c h (shdlc_becomes l e)
  alive_becomes e lasts few v =
      let r = sends_noted (Sends kf l.controller l.host) (sends_each kf l.controller l.host) most_frames n e l (λ w. (lasts, refl, refl)) v in
      record {
        lasts = r.0;
        near_idle = idle_after most_frames e few;
        far_idle = ap (λ (k : NumberedShdlc). frame_due k.side) r.2 ∙ idle;
        near = grind arith;
        far = let P : NumberedShdlc → Type 0 = Keeps h in subst P (sym r.2) far;
      }

  -- it becomes e, with few answers to send, has its turns, and sends all that is due
  alive_turned : (ts : List ShdlcTurn) (e : EndState) → Lasts 0 kf e l.host.side l.to_controller l.to_host → length e.due ≤ 1
      → (noted_out n l (shdlc_turned e ts)).lost ≡ false → IsAlive 0 kf c h (shdlc_becomes l (shdlc_turned e ts))
  alive_turned ts e lasts one v =
      let k = lasts_turns 0 kf ts e l.host.side l.to_controller l.to_host lasts in
      let few = few_turns ts e lasts.joined.near_up (few_room e one) in
      alive_becomes (shdlc_turned e ts) k (omega (arith, few, k.joined.near_sends.window, k.joined.near_sends.acked_next)) v

none_waits : (e : EndState) → frame_due e ≡ None → length e.due ≡ 0
none_waits e idle = ap length (no_due e idle)

alive_turns : (kf : ℕ) (c h : NumberedShdlc) (n : Losses) (l : ShdlcLink) (ts : List ShdlcTurn) → IsAlive 0 kf c h l → (noted_here n l (Turns ts)).lost ≡ false
    → IsAlive 0 kf c h (shdlc_happens_at_controller l (Turns ts))
alive_turns kf c h n l ts a v =
    alive_turned kf c h n l a.far_idle a.near a.far ts l.controller.side a.lasts (let z = none_waits l.controller.side a.near_idle in omega arith) v

-- ## A frame is taken

alive_takes : (c h : NumberedShdlc) (n : Losses) (l : ShdlcLink) (ts : List ShdlcTurn) → IsAlive 0 0 c h l → (noted_here n l (Deliver ts)).lost ≡ false
    → IsAlive 0 0 c h (shdlc_happens_at_controller l (Deliver ts))
alive_takes c h n l ts a = go l.to_controller a
  where
    e : EndState
    e = l.controller.side

    go : (wire : List OnWire) → IsAlive 0 0 c h (record l { to_controller = wire })
        → (noted_here n (record l { to_controller = wire }) (Deliver ts)).lost ≡ false
        → IsAlive 0 0 c h (shdlc_happens_at_controller (record l { to_controller = wire }) (Deliver ts))
    go [] b v = b
    go (x ∷ xs) b v =
        let t = lasts_taken e l.host.side x xs l.to_host (no_probe 0 0 e l.host.side (x ∷ xs) l.to_host b.near_idle b.lasts) b.lasts in
        let j = b.lasts.joined in
        let d = (mark_data x xs e.session.acked (length l.host.side.session.acc) j.near_marks j.near_shows j.near_sends.counts).0 in
        let few = few_taken e l.host.side.session.acc x xs j.far_marks j.near_marks j.near_up j.near_shows j.near_sends in
        let none = none_waits e b.near_idle in
        by (is_some (take_answer e x.frame).ended) (take_answer e x.frame).began (took_with l.controller.took x) (ap is_some t.1) (began_data e x.frame d)
        (took_other l.controller.took x (not_rset x.frame (inl d)))
        (λ w. alive_turned 0 c h n (record l { to_controller = xs }) b.far_idle b.near b.far ts (taken e x.frame) t.0 (omega arith) w) v
      where
        from : Bool → ℕ → ShdlcLink
        from ended took =
            let m : ShdlcLink = with_shdlc_ended (record l { to_controller = xs }) ended in
            record m { controller = record m.controller { took = took } }

        Goes : Bool → Bool → ℕ → Type 0
        Goes ended began took =
            (noted_out (came_up n (from ended took) began) (from ended took) (shdlc_turned (taken e x.frame) ts)).lost ≡ false
            → IsAlive 0 0 c h (shdlc_becomes (from ended took) (shdlc_turned (taken e x.frame) ts))

        by : (ended began : Bool) (took : ℕ) → ended ≡ false → began ≡ false → took ≡ l.controller.took → Goes false false l.controller.took
            → Goes ended began took
        by true began took p q r g = absurd (true≢false p)
        by false true took p q r g = absurd (true≢false q)
        by false false took p q r g = subst (Goes false false) (sym r) g

-- ## A tick

alive_aged : (c h : NumberedShdlc) (n : Losses) (l : ShdlcLink) → IsAlive 0 0 c h l → (noted_aged n l).lost ≡ false → IsAlive 1 1 c h (shdlc_aged l)
alive_aged c h n l a v =
    let s = l.controller.side.session in
    let t = l.host.side.session in
    let j = a.lasts.joined in
    let near_sans = sans_all l.to_controller s.acked (length t.acc) j.near_marks j.near_shows j.near_sends.counts in
    let far_sans = sans_all l.to_host t.acked (length s.acc) j.far_marks j.far_shows j.far_sends.counts in
    let x : Bool = loses_aged (sans l.to_controller) in
    let parts = or_parts (n.lost || x) (loses_aged (sans l.to_host)) v in
    let near = aged_is_older l.to_controller (rw near_sans at (or_parts n.lost x parts.0).1) a.lasts.near_young in
    let far = aged_is_older l.to_host (rw far_sans at parts.1) a.lasts.far_young in
    record {
      lasts = rw (near.0, far.0)
          (lasts_older l.controller.side l.host.side l.to_controller l.to_host (no_due l.controller.side a.near_idle)
          (no_due l.host.side a.far_idle) near.1 far.1
          a.lasts);
      near_idle = a.near_idle;
      far_idle = a.far_idle;
      near = a.near;
      far = a.far;
    }

alive_ticks : (kf : ℕ) (c h : NumberedShdlc) (n : Losses) (l : ShdlcLink) (ts : List ShdlcTurn) → IsAlive 1 kf c h l → (noted_tick n (Some ts) l).lost ≡ false
    → IsAlive 0 kf c h (shdlc_ticks_at_controller l ts)
alive_ticks kf c h n l ts a v =
    by (is_some (tick_answer e).ended) (ap is_some t.1)
    (λ w. alive_turned kf c h n l a.far_idle a.near a.far ts (ticked e) t.0 (omega (arith, none)) w) v
  where
    e : EndState
    e = l.controller.side

    t : Lasts 0 kf (ticked e) l.host.side l.to_controller l.to_host × ((tick_answer e).ended ≡ None)
    t = lasts_ticked kf e l.host.side l.to_controller l.to_host (no_probe 1 kf e l.host.side l.to_controller l.to_host a.near_idle a.lasts)
        (no_due l.host.side a.far_idle) a.lasts

    none : length (ticked e).due ≡ 0
    none = ap length ((grind arith) ∙ no_due e a.near_idle)

    Goes : Bool → Type 0
    Goes ended = (noted_out n (with_shdlc_ended l ended) (shdlc_turned (ticked e) ts)).lost ≡ false
        → IsAlive 0 kf c h (shdlc_becomes (with_shdlc_ended l ended) (shdlc_turned (ticked e) ts))

    by : (ended : Bool) → ended ≡ false → Goes false → Goes ended
    by true p g = absurd (true≢false p)
    by false p g = g

turns_lost : (es : List ShdlcEndEvent) (n : Losses) (l : ShdlcLink) → OnlyTurns es → (noted_turns n l es).lost ≡ false → n.lost ≡ false
turns_lost [] n l a v = v
turns_lost (Turns ts ∷ es) n l a v =
    out_lost (frames_of most_frames (shdlc_turned l.controller.side ts)) n l
    (turns_lost es (noted_here n l (Turns ts)) (shdlc_happens_at_controller l (Turns ts)) a v)
turns_lost (_ ∷ es) n l a v = absurd a

alive_all : (es : List ShdlcEndEvent) (kf : ℕ) (c h : NumberedShdlc) (n : Losses) (l : ShdlcLink) → OnlyTurns es → IsAlive 0 kf c h l
    → (noted_turns n l es).lost ≡ false
    → IsAlive 0 kf c h (shdlc_all_at_controller l es)
alive_all [] kf c h n l a k v = k
alive_all (Turns ts ∷ es) kf c h n l a k v =
    alive_all es kf c h (noted_here n l (Turns ts)) (shdlc_happens_at_controller l (Turns ts)) a
    (alive_turns kf c h n l ts k (turns_lost es (noted_here n l (Turns ts)) (shdlc_happens_at_controller l (Turns ts)) a v)) v
alive_all (_ ∷ es) kf c h n l a k v = absurd a

alive_tick : (c h : NumberedShdlc) (n : Losses) (l : ShdlcLink) (ts : List ShdlcTurn) (es : List ShdlcEndEvent) (us : List ShdlcTurn) → OnlyTurns es
    → IsAlive 0 0 c h l
    → (noted_event n l (Tick (Some ts) es (Some us))).lost ≡ false → IsAlive 0 0 c h (shdlc_happens l (Tick (Some ts) es (Some us)))
alive_tick c h n l ts es us a k v =
    let one : ShdlcLink = shdlc_aged l in
    let two : ShdlcLink = shdlc_ticks_at_controller one ts in
    let three : ShdlcLink = shdlc_exchanged (shdlc_all_at_controller two es) in
    let n_one : Losses = noted_aged n l in
    let n_two : Losses = noted_tick n_one (Some ts) one in
    let n_three : Losses = noted_turns n_two two es in
    let v_three : n_three.lost ≡ false = ticks_lost n_three us three v in
    let v_two : n_two.lost ≡ false = turns_lost es n_two two a v_three in
    let k_two = alive_ticks 1 c h n_one one ts (alive_aged c h n l k (ticks_lost n_one ts one v_two)) v_two in
    let k_three = alive_exchanged 0 1 c h (shdlc_all_at_controller two es) (alive_all es 1 c h n_two two a k_two v_three) in
    alive_exchanged 0 0 h c (shdlc_ticks_at_controller three us) (alive_ticks 0 h c n_three three us k_three v)
  where
    ticks_lost : (n : Losses) (ts : List ShdlcTurn) (l : ShdlcLink) → (noted_tick n (Some ts) l).lost ≡ false → n.lost ≡ false
    ticks_lost n ts l w =
        out_lost (frames_of most_frames (shdlc_turned (ticked l.controller.side) ts)) n (with_shdlc_ended l (is_some (tick_answer l.controller.side).ended)) w

-- ## Events

alive_here : (c h : NumberedShdlc) (n : Losses) (l : ShdlcLink) (e : ShdlcEndEvent) → IsPlainHere e → IsAlive 0 0 c h l → (noted_here n l e).lost ≡ false
    → IsAlive 0 0 c h (shdlc_happens_at_controller l e)
alive_here c h n l (Turns ts) p a v = alive_turns 0 c h n l ts a v
alive_here c h n l (Deliver ts) p a v = alive_takes c h n l ts a v
alive_here c h n l (_) p a v = absurd p

alive_event : (c h : NumberedShdlc) (n : Losses) (l : ShdlcLink) (e : ShdlcLinkEvent) → IsPlainEvent e → IsAlive 0 0 c h l → (noted_event n l e).lost ≡ false
    → IsAlive 0 0 c h (shdlc_happens l e)
alive_event c h n l (AtController e) p a v = alive_here c h n l e p a v
alive_event c h n l (AtHost e) p a v =
    alive_exchanged 0 0 h c (shdlc_happens_at_controller (shdlc_exchanged l) e) (alive_here h c n (shdlc_exchanged l) e p (alive_exchanged 0 0 c h l a) v)
alive_event c h n l (Tick (Some ts) es (Some us)) p a v = alive_tick c h n l ts es us p a v
alive_event c h n l (Tick (Some ts) es None) p a v = absurd p
alive_event c h n l (Tick None es d) p a v = absurd p
alive_event c h n l (TickWithout es d) p a v = absurd p

alive_after : (events : List ShdlcLinkEvent) (c h : NumberedShdlc) (n : Losses) (l : ShdlcLink) → AllPlain events
    → ((front : List ShdlcLinkEvent) → IsPrefix front events → (losses_after n l front).lost ≡ false) → IsAlive 0 0 c h l
    → IsAlive 0 0 c h (shdlc_after l events)
alive_after [] c h n l p none a = a
alive_after (e ∷ es) c h n l p none a =
    alive_after es c h (noted_event n l e) (shdlc_happens l e) p.1 (λ front is. none (e ∷ front) (is.0, ap (λ (r : List ShdlcLinkEvent). e ∷ r) is.1))
    (alive_event c h n l e p.0 a (none (e ∷ []) (es, refl)))

-- ## A new session

begins_alive : (l : ShdlcLink) → BeginsAnew l → IsAlive 0 0 l.controller l.host l
begins_alive l b =
    record {
      lasts = rw (b.to_controller, b.to_host)
          (lasts_of 0 0 n f [] [] [] [] (joined_weaker (Unit {0}) ⊥ (λ v. absurd v) n f [] [] m.joined)
          (record { near_shows = tt; far_shows = tt; near_within = tt; far_within = tt }) tt tt
          (grind arith, grind arith));
      near_idle = m.near;
      far_idle = m.far;
      near = record { emitted = refl; took = refl; past = refl };
      far = record { emitted = refl; took = refl; past = refl };
    }
  where
    n : EndState
    n = l.controller.side

    f : EndState
    f = l.host.side

    m : Meets n f [] []
    m = new_meets n f (grind arith) (grind arith)

goes_on : (before now : NumberedShdlc) → now.side.phase ≡ Up → Keeps before now → GoesOn before now
goes_on before now up k = record { up = up; number = rw (k.emitted, k.took) refl; past = k.past }

pub alive_at_controller : (l : ShdlcLink) → BeginsAnew l → (events : List ShdlcLinkEvent) → AllPlain events → LosesNone l events
    → GoesOn l.controller (shdlc_after l events).controller
alive_at_controller l b events plain none =
    let a = alive_after events l.controller l.host no_losses l plain none (begins_alive l b) in
    goes_on l.controller (shdlc_after l events).controller a.lasts.joined.near_up a.near

pub alive_at_host : (l : ShdlcLink) → BeginsAnew l → (events : List ShdlcLinkEvent) → AllPlain events → LosesNone l events
    → GoesOn l.host (shdlc_after l events).host
alive_at_host l b events plain none =
    let a = alive_after events l.controller l.host no_losses l plain none (begins_alive l b) in
    goes_on l.host (shdlc_after l events).host a.lasts.joined.far_up a.far

start_anew : BeginsAnew start
start_anew = grind arith

pub alive_from_start : (events : List ShdlcLinkEvent) → AllPlain events → LosesNone start events
    → GoesOn start.controller (shdlc_after start events).controller × GoesOn start.host (shdlc_after start events).host
alive_from_start events plain none = (alive_at_controller start start_anew events plain none, alive_at_host start start_anew events plain none)
