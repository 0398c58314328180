-- The law over messages: their rounds are rounds of the link over their fragments.
use Rattle.std.proofs.lemmas.List.{append-nil}
use Rattle.std.proofs.lemmas.List.Elements.{filter_map-append}
use Rattle.lines_told.proofs.Words.{AllAllowed, AllOrdinary, AllOrdinaryOnLink, AreLinkRounds, AreOrdinaryOwn, AreOrdinaryTurns, AreRounds, AreUndisturbed}
use Rattle.lines_told.proofs.Words.{Bool, BothTakeFragments, CoreAtController, CoreAtHost, CoreEarlierDelivered, CoreEndEvent, CoreInOrder, CoreLink}
use Rattle.lines_told.proofs.Words.{CoreLinkEvent, CoreTick, CoreTurn, Down, EarlierGot, EndEvent, Ending, Good, IsEvent, IsFirstRest, IsLinkRound}
use Rattle.lines_told.proofs.Words.{IsLinkStretch, IsLinkUndisturbed, IsOrdinary, IsOrdinaryOnLink, IsPrefix, IsRound, IsStart, IsStretch, Link, LinkEnd}
use Rattle.lines_told.proofs.Words.{LinkEvent, List, Message, NumberedEnd, Option, Reached, Some, Talk, Turn, Up, [], after_input, after_link_events, aged, ap}
use Rattle.lines_told.proofs.Words.{append_assoc, arith, come_to_controller, come_to_host, core_after, core_all, core_event, core_events, core_of, core_tick}
use Rattle.lines_told.proofs.Words.{core_tick_rest, core_turns, eqb-true, event_step, false, fragments_left, happens, happens_at_controller, is_open}
use Rattle.lines_told.proofs.Words.{length, length-append, length-map, link_rests, map, nat_le, reached_more, refl, run, steps_to_rest, subst}
use Rattle.lines_told.proofs.Words.{suc, sym, take, take_all, taken_at_controller, taken_at_host, taken_here, talk_now, ticks_among, ticks_at_controller}
use Rattle.lines_told.proofs.Words.{times_among, to_deliver, true, whole_acked, whole_among, zero, ℕ, ◌*◌, ◌++◌, ◌+◌, ◌-◌, ◌∙◌, ◌∷◌, ◌≡◌, ◌≤◌}
use Rattle.hcp_packet.proofs.Joining.{joined_again, packets_are_counted, whole_messages_have_come}
use Rattle.hcp_packet.specs.Packets.{IsFrontOf, fragments_of, good_of, messages_after, messages_of, packet_bytes}
use Rattle.hcp_packet.specs.Packets.{packet_count, packet_of, packets_in, packets_of}
use Rattle.hcp_packet.specs.declared.Packet.{Packet}
use Rattle.link_laws.proofs.machine.Sound.{whole_acked_before}
use Rattle.link_laws.proofs.messages.Project.{Says}
use Rattle.link_laws.proofs.messages.Runs.{sendable, start_good, start_reached}
use Rattle.link_laws.proofs.sending.TakenLemmas.{all_given}
use Rattle.link_laws.specs.machine.AtRest.{end_rests}
use Rattle.link_laws.specs.machine.Machine.LinkInput.{Tick as InputTick}
use Rattle.link_laws.specs.messages.Links.Comes.{NoInput}
use Rattle.link_laws.specs.messages.Links.EndEvent.{Step}
use Rattle.link_laws.specs.messages.Links.Ending.{GoesOut}
use Rattle.link_laws.specs.messages.Links.LinkEvent.{AtController, AtHost, Ticks}
use Rattle.link_laws.specs.sending.Sending.{AreShort}
use Rattle.lines_told.proofs.fragments.Becomes.{prefix_length}
use Rattle.lines_told.proofs.fragments.Law.{acked_to_controller, acked_to_host, all_to_controller, all_to_host, began, ended, given_still, order_after}
use Rattle.lines_told.proofs.fragments.Law.{undisturbed_parts}

-- ## The first rest is the first

pub first_rest : {W : Type 0} (rests : W → Bool) (next : W → W) (n : ℕ) (w : W) → IsFirstRest rests next n w (steps_to_rest rests next n w)
first_rest rests next zero w = grind arith
first_rest {W} rests next (suc n) w = go (rests w) refl (first_rest rests next n (next w))
  where
    go : (b : Bool) → rests w ≡ b → IsFirstRest rests next n (next w) (steps_to_rest rests next n (next w))
        → IsFirstRest rests next (suc n) w (steps_to_rest rests next (suc n) w)
    go b q later = grind arith

-- ## Rounds of a link over messages are rounds of the link over their fragments

-- ### At one end

-- these events at an end are ordinary, and n frames are taken
abbrev all_taken : List CoreEndEvent → ℕ
all_taken [] = 0
all_taken (e ∷ es) = taken_here e + all_taken es

abbrev AreOrdinary : List CoreEndEvent → Type 0
AreOrdinary [] = Unit {0}
AreOrdinary (e ∷ es) = IsOrdinary e × AreOrdinary es

record Comes (es : List CoreEndEvent) (n : ℕ) : Type 0 where
  ordinary : AreOrdinary es
  taken : all_taken es ≡ n

-- what they are on the link
record DoesOfProjected (es : List CoreLinkEvent) (c h t : ℕ) : Type 0 where
  ordinary : AllOrdinary es
  controller : taken_at_controller es ≡ c
  host : taken_at_host es ≡ h
  ticks : ticks_among es ≡ t

at_controller : (es : List CoreEndEvent) (n : ℕ) → Comes es n → DoesOfProjected (map CoreAtController es) n 0 0
at_controller [] n k = record { ordinary = tt; controller = k.taken; host = refl; ticks = refl }
at_controller (e ∷ es) n k =
    let more = at_controller es (all_taken es) (record { ordinary = k.ordinary.1; taken = refl }) in
    record { ordinary = (k.ordinary.0, more.ordinary); controller = omega (arith, more.controller, k.taken); host = more.host; ticks = more.ticks }

at_host : (es : List CoreEndEvent) (n : ℕ) → Comes es n → DoesOfProjected (map CoreAtHost es) 0 n 0
at_host [] n k = record { ordinary = tt; controller = refl; host = k.taken; ticks = refl }
at_host (e ∷ es) n k =
    let more = at_host es (all_taken es) (record { ordinary = k.ordinary.1; taken = refl }) in
    record { ordinary = (k.ordinary.0, more.ordinary); controller = more.controller; host = omega (arith, more.host, k.taken); ticks = more.ticks }

own_turns : (es : List EndEvent) (l : Link) → AreOrdinaryOwn es → AreOrdinaryTurns (core_all l es)
own_turns [] l o = tt
own_turns (Step NoInput ts GoesOut ∷ es) l o = own_turns es (happens_at_controller l (Step NoInput ts GoesOut)) o
own_turns _ l o = absurd o

-- ### On the link

-- an end that is up is open
pub open_up : (h : NumberedEnd) → (is_open h.side.role ≡ false → h.side.shdlc.phase ≡ Down) → h.side.shdlc.phase ≡ Up → is_open h.side.role ≡ true
open_up h closed up = grind arith

-- an open end has its tick, and nothing else happens there
tick_open : (e : LinkEnd) (ts : List Turn) (ending : Ending) → ending ≡ GoesOut → is_open e.role ≡ true
    → ((us : List CoreTurn) × (core_tick e ts ending ≡ Some us)) × (core_tick_rest e ts ending ≡ [])
tick_open e ts ending o p = ((core_turns (after_input e InputTick) ts, rw (o, p) refl), rw (o, p) refl)

tick_does : {a d : Option (List CoreTurn)} {us vs : List CoreTurn} {near rest : List CoreEndEvent} (there : List CoreEndEvent) → a ≡ Some us → near ≡ []
    → AreOrdinaryTurns there
    → d ≡ Some vs → rest ≡ [] → DoesOfProjected (CoreTick a (near ++ there) d ∷ map CoreAtHost rest) 0 0 1
tick_does there p q o r t = rw (p, q, r, t) (record { ordinary = (o, tt); controller = refl; host = refl; ticks = refl })

event_does : (l : Link) (e : LinkEvent) → IsOrdinaryOnLink e → is_open l.controller.side.role ≡ true → is_open l.host.side.role ≡ true
    → DoesOfProjected (core_event l e) (come_to_controller l (e ∷ [])) (come_to_host l (e ∷ [])) (times_among (e ∷ []))
event_does l (AtController e) o p q = grind arith
event_does l (AtHost e) o p q = grind arith
event_does l (Ticks c es h) o p q =
    let a = tick_open l.controller.side c.turns c.ending o.0 p in
    let b = tick_open l.host.side h.turns h.ending o.2 q in
    tick_does (core_all (ticks_at_controller (aged l) c.turns c.ending) es) a.0.1 a.1
    (own_turns es (ticks_at_controller (aged l) c.turns c.ending) o.1) b.0.1 b.1
event_does l _ o p q = absurd o

-- ### Stretches

does_then : (es fs : List CoreLinkEvent) {c h t c' h' t' : ℕ} → DoesOfProjected es c h t → DoesOfProjected fs c' h' t'
    → DoesOfProjected (es ++ fs) (c + c') (h + h') (t + t')
does_then es fs a b =
    record {
      ordinary = all es a.ordinary;
      controller = omega (arith, controllers es, a.controller, b.controller);
      host = omega (arith, hosts es, a.host, b.host);
      ticks = omega (arith, times es, a.ticks, b.ticks);
    }
  where
    all : (es : List CoreLinkEvent) → AllOrdinary es → AllOrdinary (es ++ fs)
    all [] o = b.ordinary
    all (e ∷ es) o = (o.0, all es o.1)

    controllers : (es : List CoreLinkEvent) → taken_at_controller (es ++ fs) ≡ taken_at_controller es + taken_at_controller fs
    controllers [] = omega arith
    controllers (CoreAtController e ∷ es) = omega (arith, controllers es)
    controllers (_ ∷ es) = controllers es

    hosts : (es : List CoreLinkEvent) → taken_at_host (es ++ fs) ≡ taken_at_host es + taken_at_host fs
    hosts [] = omega arith
    hosts (CoreAtHost e ∷ es) = omega (arith, hosts es)
    hosts (_ ∷ es) = hosts es

    times : (es : List CoreLinkEvent) → ticks_among (es ++ fs) ≡ ticks_among es + ticks_among fs
    times [] = omega arith
    times (CoreTick a b c ∷ es) = omega (arith, times es)
    times (_ ∷ es) = times es

does_as : {es : List CoreLinkEvent} {c h t c' h' t' : ℕ} → c ≡ c' → h ≡ h' → t ≡ t' → DoesOfProjected es c h t → DoesOfProjected es c' h' t'
does_as p q r d = grind arith

-- what is known of a link between events
pub record Known (l : Link) : Type 0 where
  pub good : Good l
  pub reached : Reached (core_of l)

known_next : (l : Link) (e : LinkEvent) → IsEvent l e → Known l → Known (happens l e) × (core_of (happens l e) ≡ core_after (core_of l) (core_event l e))
known_next l e a k =
    let st = event_step l e a k.good k.reached in (
      record { good = st.good; reached = subst Reached (sym st.core) (reached_more (core_of l) (core_event l e) st.allowed k.reached) },
      st.core,
    )

all_does : (es : List LinkEvent) (l : Link) → AllAllowed l es → Known l → IsLinkUndisturbed l es → AllOrdinaryOnLink es
    → DoesOfProjected (core_events l es) (come_to_controller l es) (come_to_host l es) (times_among es)
all_does [] l a k u o = record { ordinary = tt; controller = refl; host = refl; ticks = refl }
all_does (e ∷ es) l a k u o =
    let parts = undisturbed_parts (core_event l e) (core_events (happens l e) es) (core_of l) u in
    let now = began (core_event l e) parts.0 in
    let next = known_next l e a.0 k in
    let first =
    event_does l e o.0 (open_up l.controller k.good.controller.now.closed now.controller_up) (open_up l.host k.good.host.now.closed now.host_up) in
    let rest = all_does es (happens l e) a.1 next.0 (subst (λ c. AreUndisturbed c (core_events (happens l e) es)) (sym next.1) parts.1) o.1 in
    does_as (sym (grind arith)) (sym (grind arith)) (sym (grind arith))
    (does_then (core_event l e) (core_events (happens l e) es) first rest)

-- ### Rounds

pub known_after : (es : List LinkEvent) (l : Link) → AllAllowed l es → Known l
    → Known (after_link_events l es) × (core_of (after_link_events l es) ≡ core_after (core_of l) (core_events l es))
known_after es l a k =
    let r = run es l a k.good k.reached in
    (record { good = r.good; reached = subst Reached (sym r.core) r.reached }, r.core)

events-append : (es fs : List LinkEvent) (l : Link) → core_events l (es ++ fs) ≡ core_events l es ++ core_events (after_link_events l es) fs
events-append [] fs l = refl
events-append (e ∷ es) fs l =
    ap (λ cs. core_event l e ++ cs) (events-append es fs (happens l e))
    ∙ sym (append_assoc (core_event l e) (core_events (happens l e) es) (core_events (after_link_events (happens l e) es) fs))

pub after_events-append : (es fs : List LinkEvent) (l : Link) → after_link_events l (es ++ fs) ≡ after_link_events (after_link_events l es) fs
after_events-append [] fs l = refl
after_events-append (e ∷ es) fs l = after_events-append es fs (happens l e)

pub allowed_parts : (es fs : List LinkEvent) (l : Link) → AllAllowed l (es ++ fs) → AllAllowed l es × AllAllowed (after_link_events l es) fs
allowed_parts [] fs l a = (tt, a)
allowed_parts (e ∷ es) fs l a = let more = allowed_parts es fs (happens l e) a.1 in ((a.0, more.0), more.1)

-- what happens in two parts, one after the other
pub record Parts (es fs : List LinkEvent) (l : Link) : Type 0 where
  pub first : AllAllowed l es
  pub second : AllAllowed (after_link_events l es) fs
  pub known : Known (after_link_events l es)
  pub core : core_of (after_link_events l es) ≡ core_after (core_of l) (core_events l es)
  pub calm_first : IsLinkUndisturbed l es
  pub calm_second : IsLinkUndisturbed (after_link_events l es) fs

pub in_parts : (es fs : List LinkEvent) (l : Link) → AllAllowed l (es ++ fs) → Known l → IsLinkUndisturbed l (es ++ fs) → Parts es fs l
in_parts es fs l a k u =
    let after = known_after es l (allowed_parts es fs l a).0 k in
    let all : AreUndisturbed (core_of l) (core_events l es ++ core_events (after_link_events l es) fs) =
    subst (AreUndisturbed (core_of l)) (events-append es fs l) u in
    let calm = undisturbed_parts (core_events l es) (core_events (after_link_events l es) fs) (core_of l) all in
    grind arith

stretch_core : (es : List LinkEvent) (l : Link) {c h t : ℕ} → AllAllowed l es → Known l → IsLinkUndisturbed l es → IsLinkStretch l es c h t
    → IsStretch (core_events l es) c h t
stretch_core es l a k u is =
    let d = all_does es l a k u is.ordinary in
    grind arith

round_core : (l : Link) (events : List LinkEvent) → AllAllowed l events → Known l → IsLinkUndisturbed l events → IsLinkRound l events
    → IsRound (core_of l) (core_events l events)
round_core l events a k u is =
    let rest : List LinkEvent = is.second ++ is.third in
    let P : List LinkEvent → Type 0 = λ es. AllAllowed l es × IsLinkUndisturbed l es in
    let all : AllAllowed l (is.first ++ rest) × IsLinkUndisturbed l (is.first ++ rest) = subst P is.parts (a, u) in
    let m : Link = after_link_events l is.first in
    let o : Link = after_link_events m is.second in
    let one = in_parts is.first rest l all.0 k all.1 in
    let two = in_parts is.second is.third m one.second one.known one.calm_second in
    let Q : ℕ → Type 0 = λ n. IsStretch (core_events m is.second) 0 n 0 in
    record {
      first = core_events l is.first;
      second = core_events m is.second;
      third = core_events o is.third;
      parts = ap (core_events l) is.parts
          ∙ (events-append is.first rest l ∙ ap (λ cs. core_events l is.first ++ cs) (events-append is.second is.third m));
      to_controller = stretch_core is.first l one.first k one.calm_first is.to_controller;
      to_host = subst Q (grind arith) (stretch_core is.second m two.first one.known two.calm_first is.to_host);
      ticks = stretch_core is.third o two.second two.known two.calm_second is.time;
    }

rounds_core : (n : ℕ) (l : Link) (events : List LinkEvent) → AllAllowed l events → Known l → IsLinkUndisturbed l events → AreLinkRounds n l events
    → AreRounds n (core_of l) (core_events l events)
rounds_core zero l events a k u is = ap (core_events l) is
rounds_core (suc n) l events a k u (first, rest, parts, one, more) =
    let P : List LinkEvent → Type 0 = λ es. AllAllowed l es × IsLinkUndisturbed l es in
    let all : AllAllowed l (first ++ rest) × IsLinkUndisturbed l (first ++ rest) = subst P parts (a, u) in
    let cut = in_parts first rest l all.0 k all.1 in
    let m : Link = after_link_events l first in
    let Q : CoreLink → Type 0 = λ c. AreRounds n c (core_events m rest) in (
      core_events l first,
      core_events m rest,
      ap (core_events l) parts ∙ events-append first rest l,
      round_core l first cut.first k cut.calm_first one,
      subst Q cut.core (rounds_core n m rest cut.second cut.known cut.calm_second more),
    )

-- ## The law over messages

-- ### Messages of fragments

messages_after-append : (before q r : List Packet) → messages_after before (q ++ r) ≡ messages_after before q ++ messages_after (before ++ q) r
messages_after-append before [] r = ap (λ b. messages_after b r) (sym (append-nil before))
messages_after-append before (p ∷ q) r = let h0 = messages_after-append (before ++ p ∷ []) q r in let h1 = append_assoc before (p ∷ []) q in grind arith

-- where the fragments of messages are a front of those of others, so are the messages
sent_front : (early late : List Message) → AreShort early → AreShort late → IsFrontOf (fragments_of early) (fragments_of late) → IsFrontOf early late
sent_front early late a b front =
    let q : List Packet = packets_in (fragments_of early) in
    let r : List Packet = packets_in front.0 in
    let all : messages_of (packets_in (fragments_of late)) ≡ messages_of q ++ messages_after q r =
    ap (λ fs. messages_of (packets_in fs)) (sym front.1)
    ∙ (ap messages_of (filter_map-append packet_of (fragments_of early) front.0) ∙ messages_after-append [] q r) in (
      messages_after q r,
      ap (λ ms. ms ++ messages_after q r) (sym (joined_again early (sendable early a))) ∙ (sym all ∙ joined_again late (sendable late b)),
    )

-- how many fragments messages have
pub fragments_counted : (m : Message) (ms : List Message) → length (fragments_of (m ∷ ms)) ≡ packet_count (length m.1) + length (fragments_of ms)
fragments_counted m ms =
    let b = length-map (packets_of m.0 m.1) packet_bytes ∙ packets_are_counted m.0 m.1 in
    omega (arith, length-append (map packet_bytes (packets_of m.0 m.1)) (fragments_of ms), b)

-- messages of which all fragments are among so many are whole
whole_front : (early later : List Message) (n : ℕ) → length (fragments_of early) ≤ n → length early ≤ whole_among (early ++ later) n
whole_front [] later n i = omega arith
whole_front (m ∷ ms) later n i =
    let h0 = nat_le (packet_count (length m.1)) n in let h1 = whole_front ms later (n - packet_count (length m.1)) in let h2 = fragments_counted m ms in
    grind arith

-- the near end's own messages
in_messages : (before now other : Talk) → Says before → Says now → CoreInOrder now.session other.session
    → CoreEarlierDelivered before.session now.session other.session → EarlierGot before now other
in_messages before now other was says order d =
    let accepted = order.front in
    let got = whole_messages_have_come before.sent other.session.acc (sendable before.sent was.short) (grind arith) in
    let sent = sent_front before.sent now.sent was.short says.short (grind arith) in
    let few : length (fragments_of before.sent) ≤ now.session.acked = grind arith in
    record {
      got = (got.0, got.1 ∙ sym (ap good_of (all_given now.sent other.session.acc says.short (accepted.0, accepted.1 ∙ says.out))));
      acked = let w = whole_front before.sent sent.0 now.session.acked few in subst (λ ms. length before.sent ≤ whole_among ms now.session.acked) sent.1 w;
    }

-- ### Links

-- what rounds do, seen at either end: what was given before is acknowledged where they are many enough, and then it has come
record Does (k : ℕ) (c : CoreLink) (es : List CoreLinkEvent) : Type 0 where
  enough_there : 24 * (to_deliver c + 1) ≤ k → length c.controller.side.session.out ≤ (core_after c es).controller.side.session.acked
  enough_here : 24 * (to_deliver c + 1) ≤ k → length c.host.side.session.out ≤ (core_after c es).host.side.session.acked
  there : length c.controller.side.session.out ≤ (core_after c es).controller.side.session.acked
      → CoreEarlierDelivered c.controller.side.session (core_after c es).controller.side.session (core_after c es).host.side.session
  here : length c.host.side.session.out ≤ (core_after c es).host.side.session.acked
      → CoreEarlierDelivered c.host.side.session (core_after c es).host.side.session (core_after c es).controller.side.session
  order_there : CoreInOrder (core_after c es).controller.side.session (core_after c es).host.side.session
  order_here : CoreInOrder (core_after c es).host.side.session (core_after c es).controller.side.session
  ends : BothTakeFragments (core_after c es)
  given_there : IsPrefix c.controller.side.session.out (core_after c es).controller.side.session.out
  given_here : IsPrefix c.host.side.session.out (core_after c es).host.side.session.out

does : (k : ℕ) (c : CoreLink) (es : List CoreLinkEvent) → Reached c → AreRounds k c es → AreUndisturbed c es → Does k c es
does k c es g =
    subst (λ (d : CoreLink). AreRounds k d es → AreUndisturbed d es → Does k d es) g.is
    (λ r u. record {
      enough_there = λ i. (all_to_host g.start g.starts g.events g.allowed k es r u i).acked;
      enough_here = λ i. (all_to_controller g.start g.starts g.events g.allowed k es r u i).acked;
      there = acked_to_host g.start g.starts g.events g.allowed k es r u;
      here = acked_to_controller g.start g.starts g.events g.allowed k es r u;
      order_there = (order_after g.start g.starts g.events g.allowed k es r u).0;
      order_here = (order_after g.start g.starts g.events g.allowed k es r u).1;
      ends = ended es (core_after g.start g.events) u;
      given_there = (given_still g.start g.starts g.events g.allowed k es r u).0;
      given_here = (given_still g.start g.starts g.events g.allowed k es r u).1;
    })

-- both ends of a link that is at rest are at rest
rests_parts : (l : Link) → link_rests l ≡ true → (end_rests l.controller.side ≡ true) × (end_rests l.host.side ≡ true)
rests_parts l q = grind arith

-- an end that is up and at rest has all fragments acknowledged
all_acked : (e : LinkEnd) → Says (talk_now e) → e.shdlc.phase ≡ Up → end_rests e ≡ true → length e.shdlc.session.out ≤ e.shdlc.session.acked
all_acked e says up q =
    let same : whole_acked e ≡ length e.sent = eqb-true (whole_acked e) (length e.sent) (rw up at q) in
    let whole : take (whole_among e.sent e.shdlc.session.acked) e.sent ≡ e.sent = take_all (whole_among e.sent e.shdlc.session.acked) e.sent (omega arith) in
    let low : length (fragments_of (take (whole_among e.sent e.shdlc.session.acked) e.sent)) ≤ e.shdlc.session.acked =
    whole_acked_before e.sent e.shdlc.session.acked in
    let out : length e.shdlc.session.out ≡ length (fragments_of e.sent) = ap (λ (fs : List (List ℕ)). length fs) says.out in
    let all : length (fragments_of (take (whole_among e.sent e.shdlc.session.acked) e.sent)) ≡ length (fragments_of e.sent) = grind arith in
    omega arith

module _ (l : Link) (s : IsStart l) (before : List LinkEvent) (a : AllAllowed l before) (k : ℕ) (rounds : List LinkEvent)
    (b : AllAllowed (after_link_events l before) rounds) (r : AreLinkRounds k (after_link_events l before) rounds)
    (u : IsLinkUndisturbed (after_link_events l before) rounds) where
  abbrev m : Link
  m = after_link_events l before

  abbrev n : Link
  n = after_link_events (after_link_events l before) rounds

  was : Known (after_link_events l before)
  was = (known_after before l a (record { good = start_good l s; reached = start_reached l s })).0

  now : Known (after_link_events (after_link_events l before) rounds)
      × (core_of (after_link_events (after_link_events l before) rounds)
      ≡ core_after (core_of (after_link_events l before)) (core_events (after_link_events l before) rounds))
  now = known_after rounds m b was

  done : Does k (core_of (after_link_events l before)) (core_events (after_link_events l before) rounds)
  done = does k (core_of m) (core_events m rounds) was.reached (rounds_core k m rounds b was u r) u

  got_there : length m.controller.side.shdlc.session.out ≤ n.controller.side.shdlc.session.acked
      → EarlierGot (talk_now m.controller.side) (talk_now n.controller.side) (talk_now n.host.side)
  got_there i =
      let P : CoreLink → Type 0 =
      λ c. length m.controller.side.shdlc.session.out ≤ c.controller.side.session.acked
      → CoreEarlierDelivered m.controller.side.shdlc.session c.controller.side.session c.host.side.session in
      let Q : CoreLink → Type 0 = λ c. CoreInOrder c.controller.side.session c.host.side.session in
      in_messages (talk_now m.controller.side) (talk_now n.controller.side) (talk_now n.host.side) was.good.controller.now.says
      now.0.good.controller.now.says (subst Q (sym now.1) done.order_there) (subst P (sym now.1) done.there i)

  got_here : length m.host.side.shdlc.session.out ≤ n.host.side.shdlc.session.acked
      → EarlierGot (talk_now m.host.side) (talk_now n.host.side) (talk_now n.controller.side)
  got_here i =
      let P : CoreLink → Type 0 =
      λ c. length m.host.side.shdlc.session.out ≤ c.host.side.session.acked
      → CoreEarlierDelivered m.host.side.shdlc.session c.host.side.session c.controller.side.session in
      let Q : CoreLink → Type 0 = λ c. CoreInOrder c.host.side.session c.controller.side.session in
      in_messages (talk_now m.host.side) (talk_now n.host.side) (talk_now n.controller.side) was.good.host.now.says
      now.0.good.host.now.says (subst Q (sym now.1) done.order_here) (subst P (sym now.1) done.here i)

  -- behind many rounds
  pub got_by_host : 24 * (fragments_left m + 1) ≤ k → EarlierGot (talk_now m.controller.side) (talk_now n.controller.side) (talk_now n.host.side)
  got_by_host i =
      got_there (subst (λ c. length m.controller.side.shdlc.session.out ≤ c.controller.side.session.acked) (sym now.1) (done.enough_there i))

  pub got_by_controller : 24 * (fragments_left m + 1) ≤ k → EarlierGot (talk_now m.host.side) (talk_now n.host.side) (talk_now n.controller.side)
  got_by_controller i = got_here (subst (λ c. length m.host.side.shdlc.session.out ≤ c.host.side.session.acked) (sym now.1) (done.enough_here i))

  -- behind rounds that leave the link at rest
  ends : BothTakeFragments (core_of n)
  ends = subst BothTakeFragments (sym now.1) done.ends

  pub rest_at_host : link_rests n ≡ true → EarlierGot (talk_now m.controller.side) (talk_now n.controller.side) (talk_now n.host.side)
  rest_at_host q =
      let P : CoreLink → Type 0 = λ c. IsPrefix m.controller.side.shdlc.session.out c.controller.side.session.out in
      let given = prefix_length m.controller.side.shdlc.session.out n.controller.side.shdlc.session.out (subst P (sym now.1) done.given_there) in
      got_there (omega (arith, all_acked n.controller.side now.0.good.controller.now.says ends.controller_up (rests_parts n q).0, given))

  pub rest_at_controller : link_rests n ≡ true → EarlierGot (talk_now m.host.side) (talk_now n.host.side) (talk_now n.controller.side)
  rest_at_controller q =
      let P : CoreLink → Type 0 = λ c. IsPrefix m.host.side.shdlc.session.out c.host.side.session.out in
      let given = prefix_length m.host.side.shdlc.session.out n.host.side.shdlc.session.out (subst P (sym now.1) done.given_here) in
      got_here (omega (arith, all_acked n.host.side now.0.good.host.now.says ends.host_up (rests_parts n q).1, given))
