-- What functions of a world of nodes ask for: its numbers of RSETs and its counts of acknowledged messages stay within 32 bits.
use Rattle.std.specs.Prelude.{IfSome}
use Rattle.node_world.proofs.Words.{AcksWithin, AllByRecursion, AreSendable, AtEnd, Bool, Comes, CountsFew, Desk, FewOn, FewOnEach, Happening, IsFromOutside}
use Rattle.node_world.proofs.Words.{Link, LinkEnd, LinkInput, List, None, NumberedEnd, OnWire, Option, Port, Reset, Site, Some, StaysCounted, Tick, TimePasses}
use Rattle.node_world.proofs.Words.{[], after_input, arith, false, has_come, input_at, length, link_to, map, near_end_in, port_for, refl, replicate, suc}
use Rattle.node_world.proofs.Words.{taken_of, true, unwrap_or, zero, ℕ, ◌+◌, ◌<◌, ◌==◌, ◌^◌, ◌∷◌, ◌≡◌, ◌≤◌}
use Rattle.link_laws.specs.machine.Machine.Role.{Bare}
use Rattle.link_laws.specs.messages.Links.{new_link}
use Rattle.node_world.specs.Bounds.{AckWithin}
use Rattle.node_world.proofs.FewInWorlds.{Nearly, whole_within, input_nearly}

-- ## Lines

pub repeats : (n : ℕ) (c : Happening) → length (replicate n c) ≡ n
repeats zero c = refl
repeats (suc n) c = let z = repeats n c in omega (arith, z)

pub taken_within : (count : Option ℕ) (wire : List OnWire) → length wire ≤ 64 → taken_of count wire ≤ 64
taken_within count wire few = grind arith

pub ticks_within : (times : Option ℕ) → IfSome times (λ n. (1 ≤ n) × (n ≤ 100)) → unwrap_or times 1 ≤ 100
ticks_within times q = grind arith

-- ## RSETs

-- the RSETs of one more step are numbered within 32 bits
pub resets_fit : (n : ℕ) (l : Link) → n ≤ 300000000 → FewOn n l → l.resets + 17 < 2 ^ 32
resets_fit n l q f = let r = f.resets in omega (arith, q, r)

-- ## Links of a world

new_few : (n : ℕ) → FewOn n (new_link Bare Bare)
new_few n = record { resets = omega arith; controller = omega arith; host = omega arith }

-- the link to any host
pub few_to : (n h : ℕ) (sites : List Site) → FewOnEach n sites → FewOn n (link_to sites h)
few_to n h [] a = new_few n
few_to n h (x ∷ sites) a = let h0 = x.host == h in let h1 = few_to n h sites a.1 in grind arith

-- ## Ends of a node

-- an end as it has heard of the number of an RSET
pub acks_of_near : (n : ℕ) (l : Link) (comes : Comes) → FewOn n l → AcksWithin n (near_end_in l comes).side
acks_of_near n l comes f = grind arith

-- the ends of a node as a step of it begins
pub acks_of_ports : (n : ℕ) (near_ends : ℕ → NumberedEnd) → ((h : ℕ) → AcksWithin n (near_ends h).side) → (desks : List Desk)
    → AckWithin n (map (λ (d : Desk). port_for (near_ends d.host) d) desks)
acks_of_ports n near_ends a [] = tt
acks_of_ports n near_ends a (d ∷ desks) = (a d.host, acks_of_ports n near_ends a desks)

-- ## Whole messages

sendable_still : (more : ℕ) (e f : LinkEnd) → Nearly more e f → AreSendable e.sent → AreSendable f.sent
sendable_still more e f n a = grind arith

counted : (n : ℕ) (e : LinkEnd) (i : LinkInput) → n ≤ 300000000 → IsFromOutside i → AcksWithin n e → AreSendable e.sent → StaysCounted e (Some i)
counted n e i q o few a =
    let f : LinkEnd = after_input e i in
    let near : Nearly 7 e f = input_nearly e i o in
    omega (arith, q, few, near.acked, (whole_within f.sent f.shdlc.session.acked (sendable_still 7 e f near a)))

-- also where a late notice resets its link then
counted_late : (n : ℕ) (e : LinkEnd) (i : LinkInput) → n ≤ 300000000 → IsFromOutside i → AcksWithin n e → AreSendable e.sent
    → StaysCounted (after_input e i) (Some (Reset None))
counted_late n e i q o few a =
    let f : LinkEnd = after_input e i in
    let near : Nearly 7 e f = input_nearly e i o in
    let g : LinkEnd = after_input f (Reset None) in
    let then : Nearly 0 f g = grind arith in
    let whole = whole_within g.sent g.shdlc.session.acked (sendable_still 0 f g then (sendable_still 7 e f near a)) in
    omega (arith, q, few, near.acked, then.acked, whole)

-- something comes from outside to one end of a node
pub counts_few_at_end : (n h : ℕ) (i : LinkInput) (ports : List Port) → n ≤ 300000000 → IsFromOutside i → AckWithin n ports
    → AllByRecursion (λ (p : Port). AreSendable p.side.sent) ports → CountsFew (AtEnd h i) ports
counts_few_at_end n h i ports q o few a = record { come = come ports few a; late = late ports few a }
  where
    one : (p : Port) → AcksWithin n p.side → AreSendable p.side.sent → (b : Bool) → (p.desk.host == h) ≡ b → StaysCounted p.side (input_at (AtEnd h i) p)
    one p few a true r = rw r (counted n p.side i q o few a)
    one p few a false r = rw r tt

    one_late : (p : Port) → AcksWithin n p.side → AreSendable p.side.sent → (b : Bool) → (p.desk.host == h) ≡ b
        → StaysCounted (has_come p (input_at (AtEnd h i) p)).side (Some (Reset None))
    one_late p few a true r = rw r (counted_late n p.side i q o few a)
    one_late p few a false r = rw r (counted n p.side (Reset None) q tt few a)

    come : (ports : List Port) → AckWithin n ports → AllByRecursion (λ (p : Port). AreSendable p.side.sent) ports
        → AllByRecursion (λ (p : Port). StaysCounted p.side (input_at (AtEnd h i) p)) ports
    come [] few a = tt
    come (p ∷ ports) few a = (one p few.0 a.0 (p.desk.host == h) refl, come ports few.1 a.1)

    late : (ports : List Port) → AckWithin n ports → AllByRecursion (λ (p : Port). AreSendable p.side.sent) ports
        → AllByRecursion (λ (p : Port). StaysCounted (has_come p (input_at (AtEnd h i) p)).side (Some (Reset None))) ports
    late [] few a = tt
    late (p ∷ ports) few a = (one_late p few.0 a.0 (p.desk.host == h) refl, late ports few.1 a.1)

-- a tick passes at all its ends
pub counts_few_in_tick : (n : ℕ) (ports : List Port) → n ≤ 300000000 → AckWithin n ports
    → AllByRecursion (λ (p : Port). AreSendable p.side.sent) ports → CountsFew TimePasses ports
counts_few_in_tick n ports q few a = record { come = come ports few a; late = late ports few a }
  where
    come : (ports : List Port) → AckWithin n ports → AllByRecursion (λ (p : Port). AreSendable p.side.sent) ports
        → AllByRecursion (λ (p : Port). StaysCounted p.side (input_at TimePasses p)) ports
    come [] few a = tt
    come (p ∷ ports) few a = (counted n p.side Tick q tt few.0 a.0, come ports few.1 a.1)

    late : (ports : List Port) → AckWithin n ports → AllByRecursion (λ (p : Port). AreSendable p.side.sent) ports
        → AllByRecursion (λ (p : Port). StaysCounted (has_come p (input_at TimePasses p)).side (Some (Reset None))) ports
    late [] few a = tt
    late (p ∷ ports) few a = (counted_late n p.side Tick q tt few.0 a.0, late ports few.1 a.1)
